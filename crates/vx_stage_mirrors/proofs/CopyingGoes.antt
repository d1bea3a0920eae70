-- What copying to plexes of a running volume does to a house.
use Rattle.std.proofs.Common.{◌≡◌, ◌∙◌, ℕ, Bool, [], Result, Ok, Err, Some, refl, sym, subst}
use Rattle.std.specs.Prelude.{is_some}
use Rattle.vx_pages.specs.declared.local_piece.LocalPiece.{Ghosts}
use Rattle.vx_base.specs.Named.{Word}
use Rattle.vx_piece.specs.Seen.{Seen}
use Rattle.vx_confdb.specs.Groups.{members}
use Rattle.vx_answers.specs.declared.answer.End.{End}
use Rattle.vx_answers.specs.declared.answer.End.TheVariants as ends
use Rattle.vx_volume.specs.declared.fault.IoFault.{IoFault}
use Rattle.vx_group_volumes.specs.RestLaws.{RestHasReason}
use Rattle.vx_moments.specs.Moment.{Moment}
use Rattle.vx_stage_volumes.specs.Resting.{IsFaultTold}
use Rattle.vx_house.specs.Scene.{IsBlamed, Shelved}
use Rattle.vx_house.specs.View.{IsMoment, Keeps, at, scene}
use Rattle.vx_house.specs.declared.house.House.{House}
use Rattle.vx_house.specs.declared.house.Imported.{Imported}
use Rattle.vx_house.specs.declared.stop.Stop.{Stop}
use Rattle.vx_house.specs.declared.stop.Stop.TheVariants as stops
use Rattle.vx_house_calls.specs.Passes.{with_group}
use Rattle.vx_stage_mirrors.proofs.MarkingMoments.{PassFacts, pass_blamed, pass_house, pass_stops, rested_at}
use Rattle.vx_stage_mirrors.specs.MarkingLaws.{IsMarkedAt}
use Rattle.vx_stage_mirrors.specs.Copying.{CopiesIn, CopiesOne, CopyStops}
use Rattle.vx_stage_mirrors.specs.CopyingLaws.{AreToCopy, CopyingGoes, HasCopied, HasPlexToCopy}
use Rattle.vx_stage_mirrors.proofs.CopyingFacts.{CopyLaws, facts, reason}
use Rattle.vx_stage_mirrors.proofs.CopyingDone.{copied_at}

ended_one : (a b : End) → stops.Ended a ≡ stops.Ended b → a ≡ b
ended_one a b e = cc

module _ {P : Type 0} {ghosts : Ghosts P} (laws : CopyLaws) (shelf : Shelved) (h : House P ghosts) (g now : Imported P ghosts) (alike : (p q : P) → is_some (ghosts.seen p).told ≡ is_some (ghosts.seen q).told)
    (has_group : h.group ≡ Some g) (name : Word) (mask : ℕ) (stop : Stop) (copies : CopiesIn ghosts.seen name mask stop g now) (keeps : Keeps ghosts.seen (at shelf h)) where
  abbrev see : P → Seen
  see = ghosts.seen

  abbrev mid : House P ghosts
  mid = with_group h now

  abbrev pass : PassFacts see name g now
  pass = facts g now name mask copies.result copies.one copies.same alike laws

  abbrev why : RestHasReason see copies.result copies.one.before.volume copies.one.after.volume
  why = reason g now name mask copies.result copies.one copies.same

  told_as : (fault : IoFault) → copies.result ≡ Err fault → (end : End) → stop ≡ stops.Ended end → IsFaultTold see g.base.disks.items fault (stops.Ended end)
  told_as fault is end ended = subst (IsFaultTold see g.base.disks.items fault) ended (subst (λ r. CopyStops see g.base.disks.items r stop) is copies.stop_is)

  blamed_by : (result : Result ℕ IoFault) → copies.result ≡ result → (end : End) → stop ≡ stops.Ended end → IsBlamed end (scene see (at shelf h)) (scene see (at shelf mid))
  blamed_by (Ok n) is end ended =
      let done : stop ≡ stops.Ended (ends.Done (Some n) [] []) = subst (λ r. CopyStops see g.base.disks.items r stop) is copies.stop_is in
      subst (λ e. IsBlamed e (scene see (at shelf h)) (scene see (at shelf mid))) (ended_one (ends.Done (Some n) [] []) end (sym done ∙ ended)) tt
  blamed_by (Err fault) is end ended =
      pass_blamed shelf h g now has_group name pass keeps fault (subst (λ r. RestHasReason see r copies.one.before.volume copies.one.after.volume) is why) end (told_as fault is end ended)

  done_by : (n : ℕ) (result : Result ℕ IoFault) → result ≡ Ok n → (one : CopiesOne see name mask result g.public.running now.public.running) →
      (m : Moment) → IsMoment see (at shelf h) m → IsMarkedAt see shelf mid (members see g.base) name one.before one.after m →
      HasPlexToCopy mask one.before → (copied : Word → Bool) → AreToCopy g.config name mask one.before copied →
      (then : Moment) × IsMoment see (at shelf mid) then × HasCopied name copied m then
  done_by n (Ok k) is one m at_m marked some copied to = copied_at shelf h g now has_group name mask k one copies.same m at_m marked some copied to
  done_by n (Err fault) is one m at_m marked some copied to = absurd (let no : Err fault ≡ Ok n = is in cc)

  pub copying_goes_on : CopyingGoes see shelf h name mask stop g now copies
  copying_goes_on = record {
    keeps = (pass_house shelf h g now has_group name pass keeps).keeps;
    faults = (pass_house shelf h g now has_group name pass keeps).faults;
    blamed = λ end ended. blamed_by copies.result refl end ended;
    ended = λ fault is end ended m at_m.
        pass_stops shelf h g now has_group name pass keeps m at_m fault (subst (λ r. RestHasReason see r copies.one.before.volume copies.one.after.volume) is why) end (told_as fault is end ended);
    done = λ n is some copied to m at_m. done_by n copies.result is copies.one m at_m (rested_at shelf h g now has_group name pass keeps m at_m) some copied to;
  }
