-- The command, in the moments of a house.
use Rattle.std.proofs.Common.{◌≡◌, ◌∙◌, List, [], Option, Result, Ok, Err, refl, sym, subst, inl, inr}
use Rattle.vx_pages.specs.declared.local_piece.LocalPiece.{Ghosts}
use Rattle.vx_base.specs.Named.{Word}
use Rattle.vx_piece.specs.Seen.{Seen}
use Rattle.vx_answers.specs.declared.answer.End.{End}
use Rattle.vx_answers.specs.declared.answer.End.TheVariants as ends
use Rattle.vx_answers.specs.declared.answer.View.{View as Shown}
use Rattle.vx_answers.specs.declared.refusal.Refusal.{Refusal}
use Rattle.vx_answers.specs.declared.refusal.Refusal.TheVariants as refusal
use Rattle.vx_moments.specs.Moment.{Moment}
use Rattle.vx_moments.specs.World.{Group}
use Rattle.vx_house.proofs.Moments.{faults_refl, later_refl}
use Rattle.vx_house.proofs.Takes.{rests_self}
use Rattle.vx_house.specs.Holders.{AreHeld, holders}
use Rattle.vx_house.specs.Plain.{plain}
use Rattle.vx_house.specs.Scene.{Shelved}
use Rattle.vx_house.specs.View.{IsMoment, Keeps, KeepsHouse, at, scene}
use Rattle.vx_house.specs.declared.house.House.{House}
use Rattle.vx_house.specs.declared.stop.Stop.{Stop}
use Rattle.vx_house.specs.declared.stop.Stop.TheVariants as stops
use Rattle.vx_recovery.specs.Edits.{AreShort, AreTooLong}
use Rattle.vx_recovery.specs.Going.{Recovers, RecoversShort, Sees, SeesShort, all_done, at_rest, refusal_of}
use Rattle.vx_stage_recovery.specs.Planning.{Fits, IsPlanned, IsUnplanned}
use Rattle.vx_stage_recovery.proofs.ByMoment.{refusal_there, rest_there}
use Rattle.vx_stage_recovery.proofs.Sees.{all}
use Rattle.vx_stage_recovery.proofs.StepChains.{Doing, Does, done_as, stop_as}

abbrev command : Option Word → Option Word → List Shown → Doing (Unit {0})
command dg vol views = record { done = λ none m n. Recovers dg vol m views all_done n; ends = λ m end n. Recovers dg vol m views end n; left = RecoversShort vol }

module _ {P : Type 0} {ghosts : Ghosts P} (see : P → Seen) (dg vol : Option Word) (shelf : Shelved) (h : House P ghosts) (house : KeepsHouse see h) (held : AreHeld shelf.held (holders see h)) where
  keeps : Keeps see (at shelf h)
  keeps = record { devices = held; house = house }

  abbrev there : (m : Moment) → IsMoment see (at shelf h) m → refusal_of dg vol m.world ≡ refusal_of dg vol (plain see h)
  there m is = refusal_there see shelf h m is dg vol

  -- memory was wanting before anything was done
  pub nothing_done : Does see (at shelf h) (at shelf h) (command dg vol []) (Err stops.OutOfMemory) (at shelf h) (at shelf h)
  nothing_done = record { keeps = keeps; goes = λ m is. (m, is, later_refl m.counts, inl refl); faults = faults_refl (scene see (at shelf h)); blamed = tt }

  refused_so : (r : Refusal) → ((m : Moment) → IsMoment see (at shelf h) m → Recovers dg vol m [] (ends.Refused r) m) → Does see (at shelf h) (at shelf h) (command dg vol []) (Err (stops.Ended (ends.Refused r))) (at shelf h) (at shelf h)
  refused_so r is = record { keeps = keeps; goes = λ m at_m. (m, at_m, later_refl m.counts, is m at_m); faults = faults_refl (scene see (at shelf h)); blamed = tt }

  pub refused_goes : (stop : Stop) → IsUnplanned dg vol (plain see h) stop → Does see (at shelf h) (at shelf h) (command dg vol []) (Err stop) (at shelf h) (at shelf h)
  refused_goes stops.OutOfMemory is = nothing_done
  refused_goes (stops.Ended end) (inl (r, refuses, end_is)) =
      subst (λ e. Does see (at shelf h) (at shelf h) (command dg vol []) (Err (stops.Ended e)) (at shelf h) (at shelf h)) (sym end_is)
      (refused_so r (λ m at_m. inl (r, there m at_m ∙ refuses, refl, (refl, rests_self m))))
  refused_goes (stops.Ended end) (inr (none, (g, here, names, are, (bytes, long, end_is)))) =
      subst (λ e. Does see (at shelf h) (at shelf h) (command dg vol []) (Err (stops.Ended e)) (at shelf h) (at shelf h)) (sym end_is)
      (refused_so (refusal.TooLong bytes)
      (λ m at_m.
      inr (
        there m at_m ∙ none,
        g,
        at_m.group_is ∙ here,
        names,
        are,
        inl (refl, (bytes, subst (λ ns. AreTooLong ns g.config bytes) (sym (rest_there see shelf h m at_m names)) long, (refl, rests_self m))),
      )))

  -- it goes over the volumes
  module _ (names : List Word) (planned : IsPlanned dg vol (plain see h) names) (views : List Shown) (new : House P ghosts) where
    fits : Fits vol (plain see h) names
    fits = planned.1

    abbrev group : Group
    group = fits.0

    short_there : (m : Moment) → IsMoment see (at shelf h) m → AreShort (at_rest m.world names) group.config
    short_there m is = subst (λ ns. AreShort ns group.config) (sym (rest_there see shelf h m is names)) fits.3

    goes_over : (m : Moment) → IsMoment see (at shelf h) m → (end : End) (n : Moment) → Sees names m views end n → Recovers dg vol m views end n
    goes_over m is end n seen = inr (there m is ∙ planned.0, group, is.group_is ∙ fits.1, names, fits.2, inr (short_there m is, seen))

    goes_short : (m : Moment) → IsMoment see (at shelf h) m → (n : Moment) → SeesShort names m n → RecoversShort vol m n
    goes_short m is n short = inr (group, is.group_is ∙ fits.1, names, fits.2, short)

    pub seen_goes : (result : Result (Unit {0}) Stop) → Does see (at shelf h) (at shelf new) (all names views) result (at shelf h) (at shelf new) → Does see (at shelf h) (at shelf new) (command dg vol views) result (at shelf h) (at shelf new)
    seen_goes (Ok u) is = done_as see (at shelf h) (at shelf new) (all names views) (command dg vol views) u u (λ m at_m n later seen. goes_over m at_m all_done n seen) is
    seen_goes (Err stop) is = stop_as see (at shelf h) (at shelf new) (all names views) (command dg vol views)
        (record { ends = λ m at_m end n later seen. goes_over m at_m end n seen; left = λ m at_m n short. goes_short m at_m n short }) stop is

  -- the same, by the names and the lines as the code has them
  pub seen_told : (names : List Word) → IsPlanned dg vol (plain see h) names → (slice : List Word) → slice ≡ names → (told views : List Shown) → views ≡ told → (new : House P ghosts) (result : Result (Unit {0}) Stop)
      → Does see (at shelf h) (at shelf new) (all slice told) result (at shelf h) (at shelf new) → Does see (at shelf h) (at shelf new) (command dg vol views) result (at shelf h) (at shelf new)
  seen_told names planned slice same told views told_is new result is =
      subst (λ vs. Does see (at shelf h) (at shelf new) (command dg vol vs) result (at shelf h) (at shelf new)) (sym told_is)
      (seen_goes names planned told new result (subst (λ ns. Does see (at shelf h) (at shelf new) (all ns told) result (at shelf h) (at shelf new)) same is))
