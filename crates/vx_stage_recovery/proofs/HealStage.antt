-- The healing of a volume as a step over a house: it is done, or it was not opened, or not healed to the end, or memory was wanting.
use Rattle.std.proofs.Common.{◌≡◌, ◌∙◌, inl, inr, ℕ, [], Option, Some, None, Result, Ok, Err, refl, sym, ap, subst}
use Rattle.std.specs.Prelude.{is_some}
use Rattle.vx_pages.specs.declared.local_piece.LocalPiece.{Ghosts}
use Rattle.vx_base.specs.Counts.{Rose}
use Rattle.vx_base.specs.Named.{Word}
use Rattle.vx_piece.specs.Seen.{Seen}
use Rattle.vx_carve.specs.Together.{faults_on}
use Rattle.vx_confdb.specs.Groups.{members}
use Rattle.vx_config_parts.specs.declared.vol.Vol.{Vol}
use Rattle.vx_objects.specs.declared.config.Config.{Config}
use Rattle.vx_answers.specs.declared.answer.End.{End}
use Rattle.vx_answers.specs.declared.answer.End.TheVariants as ends
use Rattle.vx_image.specs.UsedPlexes.{IsVolOf}
use Rattle.vx_moments.specs.Moment.{AreLater, Moment, Rests}
use Rattle.vx_moments.specs.World.{Group}
use Rattle.vx_volume.specs.declared.fault.IoFault.{IoFault}
use Rattle.vx_volume.specs.declared.fault.IoFault.TheVariants as io
use Rattle.vx_lending.specs.Left.{held_pieces}
use Rattle.vx_group_calls.specs.Ending.{device_of}
use Rattle.vx_group_recover.specs.declared.healing.Healed.{Healed}
use Rattle.vx_group_volumes.specs.Laws.{GoesOn}
use Rattle.vx_healed_volumes.specs.Laws.{HealingHasReason}
use Rattle.vx_recovery.specs.Recovering.{IsOf}
use Rattle.vx_recovery.specs.Steps.{HasHealed, HealLeft, HealStops}
use Rattle.vx_stages.specs.Starting.{refusal_at_once}
use Rattle.vx_stages.specs.Tests.{volume_in}
use Rattle.vx_stages.specs.Touching.{FailsOn, PassHasCause}
use Rattle.vx_house.specs.Goes.{Goes, KeepsBy}
use Rattle.vx_house.specs.Scene.{FaultsGoOn, HasFailed, IsBlamed, Shelved}
use Rattle.vx_house.specs.View.{IsMoment, Keeps, at, group_of, scene}
use Rattle.vx_house.specs.declared.house.House.{House}
use Rattle.vx_house.specs.declared.house.Imported.{Imported}
use Rattle.vx_house.specs.declared.stop.Stop.{Stop}
use Rattle.vx_house.specs.declared.stop.Stop.TheVariants as stops
use Rattle.vx_house.proofs.Ends.{keeps_but_group, moment_but_group}
use Rattle.vx_house.proofs.Moments.{faults_refl, later_refl}
use Rattle.vx_stage_volumes.specs.Early.{refusal_here}
use Rattle.vx_stage_volumes.specs.Naming.{fault_of, names_at}
use Rattle.vx_stage_volumes.specs.Opening.{IsUnopenedIn, good_of}
use Rattle.vx_stage_volumes.specs.Parting.{PartsGroup}
use Rattle.vx_stage_volumes.proofs.HeldStart.{world_of}
use Rattle.vx_stage_volumes.proofs.Named.{found_of}
use Rattle.vx_stage_volumes.proofs.PartedHouse.{keeps_now, moment_now, same_scene}
use Rattle.vx_stage_volumes.proofs.UnopenedHouse.{HasCause, IsUnopenedAt, unopened_at, unopened_cause, unopened_faults, unopened_house, unopened_keeps}
use Rattle.vx_stage_volumes.proofs.UnopenedNames.{IsNamed, named_at}
use Rattle.vx_stage_recovery.specs.Healing.{HealEnds, HealsOut, told_of}
use Rattle.vx_stage_recovery.specs.Opening.{IsBegunIn, IsReadyFor, IsRefusedOut, IsUnopenedOut}
use Rattle.vx_stage_recovery.specs.Steps.{GoesAs, StepGoes}
use Rattle.vx_stage_recovery.proofs.HealBytes.{goes, healing, is_healed}
use Rattle.vx_stage_recovery.proofs.HealHouse.{at3, disk_blamed, disk_told, faults3, g3_is, h3, is_lost, keeps3, later2, n}
use Rattle.vx_stage_recovery.proofs.HealLaws.{HaveHealLaws, HavePieceLaws}
use Rattle.vx_stage_recovery.proofs.HealRuns.{cut}

some_group : (a b : Group) → Some a ≡ Some b → a ≡ b
some_group a b e = cc

rests_refl : (m : Moment) → Rests m m
rests_refl m = record {
  stays = record { world = refl; later = later_refl m.counts };
  calls = record { reads = λ name. refl; writes = λ name. refl };
  quiet = record { devices = λ name. refl; shelf = refl };
}

module _ {P : Type 0} {ghosts : Ghosts P} (alike : (p q : P) → is_some (ghosts.seen p).told ≡ is_some (ghosts.seen q).told) (laws : HaveHealLaws ghosts) (pieces : HavePieceLaws ghosts) (name : Word) (shelf : Shelved) (h : House P ghosts) (keeps : Keeps ghosts.seen (at shelf h))
    {g : Imported P ghosts} (has : h.group ≡ Some g) where
  abbrev see : P → Seen
  see = ghosts.seen

  -- the step over the house as it is then
  abbrev GoesTo : Result Healed Stop → House P ghosts → Type 0
  GoesTo result k = StepGoes see (λ (healed : Healed). HasHealed name healed.dirty healed.copied healed.marks) (HealStops name) (HealLeft name) result (at shelf h) (at shelf k)

  -- .. with this group
  abbrev GoesWith : Result Healed Stop → Imported P ghosts → Type 0
  GoesWith result g' = GoesTo result (record h { group = Some g' })

  -- ---- by how it ends

  keeps_ended : (end : End) (k : House P ghosts) → Keeps see (at shelf k) → KeepsBy {T = Healed} see (Err (stops.Ended end)) (at shelf k)
  keeps_ended (ends.Done copied parts blocks) k keeps = keeps
  keeps_ended (ends.Refused r) k keeps = keeps
  keeps_ended (ends.Fault told device parts) k keeps = keeps
  keeps_ended ends.ShelfFailed k keeps = keeps
  keeps_ended ends.GroupLost k keeps = keeps_but_group see (at shelf k) keeps
  keeps_ended (ends.Lost parts) k keeps = keeps_but_group see (at shelf k) keeps

  goes_ended : (end : End) (k : House P ghosts) → Goes see (λ m n. HealStops name m end n) (at shelf h) (at shelf k) →
      GoesAs {T = Healed} see (λ (healed : Healed). HasHealed name healed.dirty healed.copied healed.marks) (HealStops name) (HealLeft name) (Err (stops.Ended end)) (at shelf h) (at shelf k)
  goes_ended (ends.Done copied parts blocks) k goes = goes
  goes_ended (ends.Refused r) k goes = goes
  goes_ended (ends.Fault told device parts) k goes = goes
  goes_ended ends.ShelfFailed k goes = goes
  goes_ended ends.GroupLost k goes = λ m is. (let went = goes m is in (went.0, moment_but_group see (at shelf k) went.0 went.1, went.2, went.3))
  goes_ended (ends.Lost parts) k goes = λ m is. (let went = goes m is in (went.0, moment_but_group see (at shelf k) went.0 went.1, went.2, went.3))

  ended : (end : End) (k : House P ghosts) → Keeps see (at shelf k) → Goes see (λ m n. HealStops name m end n) (at shelf h) (at shelf k) → FaultsGoOn (scene see (at shelf h)) (scene see (at shelf k)) →
      IsBlamed end (scene see (at shelf h)) (scene see (at shelf k)) → GoesTo (Err (stops.Ended end)) k
  ended end k keeps' goes faults blamed = record { keeps = keeps_ended end k keeps'; goes = goes_ended end k goes; faults = faults; blamed = blamed }

  left : (k : House P ghosts) → Keeps see (at shelf k) → Goes see (HealLeft name) (at shelf h) (at shelf k) → FaultsGoOn (scene see (at shelf h)) (scene see (at shelf k)) → GoesTo (Err stops.OutOfMemory) k
  left k keeps' goes faults = record { keeps = keeps'; goes = goes; faults = faults; blamed = tt }

  -- ---- nothing was done

  same_house : h ≡ record h { group = Some g }
  same_house = ap (λ (o : Option (Imported P ghosts)). (let k : House P ghosts = record h { group = o } in k)) has

  untouched : GoesTo (Err stops.OutOfMemory) h
  untouched = left h keeps (λ m is. (m, is, later_refl m.counts, inl refl)) (faults_refl (scene see (at shelf h)))

  at_rest : GoesWith (Err stops.OutOfMemory) g
  at_rest = subst (GoesTo (Err stops.OutOfMemory)) same_house untouched

  -- ---- the volume

  module _ {v : Vol} (begun : IsBegunIn name g v) where
    of : IsVolOf g.config v
    of = found_of g.config name v begun.found

    is_of : (m : Moment) → IsMoment see (at shelf h) m → IsOf name m.world (world_of see g) v
    is_of m at_m = record { group = at_m.group_is ∙ ap (group_of see) has; volume = begun.found }

    -- a test refuses it
    refused : {new : Imported P ghosts} {stop : Stop} → IsRefusedOut see v g new stop → GoesWith (Err stop) new
    refused {new = new} {stop = stop} is =
        subst (λ (s : Stop). GoesWith (Err s) new) (sym is.stop_is)
        (subst (GoesWith (Err (stops.Ended (ends.Refused is.refusal)))) (sym is.same)
        (subst (GoesTo (Err (stops.Ended (ends.Refused is.refusal)))) same_house
        (ended (ends.Refused is.refusal) h keeps
        (λ m at_m. (m, at_m, later_refl m.counts, (world_of see g, v, is_of m at_m, begun.state, inl (is.refusal, is.refused, (refl, rests_refl m)))))
        (faults_refl (scene see (at shelf h))) tt)))

    -- ---- the group was parted

    module _ {mid : Imported P ghosts} (parts : PartsGroup see g mid) where
      parted : GoesWith (Err stops.OutOfMemory) mid
      parted =
          left (record h { group = Some mid }) (keeps_now see shelf h g mid has parts keeps)
          (λ m at_m. (m, moment_now see shelf h g mid has parts m at_m, later_refl m.counts, inl refl))
          (subst (FaultsGoOn (scene see (at shelf h))) (sym (same_scene see shelf h g mid has parts)) (faults_refl (scene see (at shelf h))))

      abbrev parted_group : Group
      parted_group = world_of see mid

      of_mid : IsVolOf mid.config v
      of_mid = subst (λ (c : Config). IsVolOf c v) (sym parts.config) of

      is_mid : (m : Moment) → IsMoment see (at shelf h) m → IsOf name m.world parted_group v
      is_mid m at_m = record { group = at_m.group_is ∙ ap (group_of see) has ∙ sym parts.group; volume = ap (λ (c : Config). volume_in name c.volumes) parts.config ∙ begun.found }

      untested : refusal_here g.config (good_of see g) v ≡ None → refusal_at_once parted_group v ≡ None
      untested early = ap (λ (w : Group). refusal_at_once w v) (some_group parted_group (world_of see g) parts.group) ∙ early

      -- ---- it was not opened

      module _ (early : refusal_here g.config (good_of see g) v ≡ None) {new : Imported P ghosts} {stop : Stop} (is : IsUnopenedIn see v mid new stop) where
        abbrev unopened : House P ghosts
        unopened = unopened_house see alike pieces.ends pieces.counts pieces.narrows shelf h keeps has parts new is

        abbrev after : (m : Moment) → IsMoment see (at shelf h) m → IsUnopenedAt see shelf unopened parted_group v m
        after m at_m = unopened_at see alike pieces.ends pieces.counts pieces.narrows shelf h keeps has parts new is m at_m

        keeps_unopened : Keeps see (at shelf unopened)
        keeps_unopened = unopened_keeps see alike pieces.ends pieces.counts pieces.narrows shelf h keeps has parts new is

        faults_unopened : FaultsGoOn (scene see (at shelf h)) (scene see (at shelf unopened))
        faults_unopened = unopened_faults see alike pieces.ends pieces.counts pieces.narrows shelf h keeps has parts new is

        by : (s : Stop) → HasCause see alike pieces.ends pieces.counts pieces.narrows shelf h keeps has parts new is s → GoesTo (Err s) unopened
        by stops.OutOfMemory none =
            left unopened keeps_unopened
            (λ m at_m. (let a = after m at_m in (a.then, a.is, a.later, inr (parted_group, v, is_mid m at_m, begun.state, inr (inl (a.touched, a.narrows))))))
            faults_unopened
        by (stops.Ended end) (cause, blamed) =
            ended end unopened keeps_unopened
            (λ m at_m.
            let a = after m at_m in (
              a.then,
              a.is,
              a.later,
              (parted_group, v, is_mid m at_m, begun.state, inr (inl (record { untested = untested early; touched = a.touched; narrows = a.narrows; cause = cause m at_m }))),
            ))
            faults_unopened blamed

        early_mid : refusal_here mid.config (good_of see mid) v ≡ None
        early_mid = untested early

        pub unopened_goes : GoesWith (Err stop) new
        unopened_goes =
            subst (GoesWith (Err stop)) (sym is.same.group)
            (by stop (unopened_cause see alike pieces.ends pieces.counts pieces.narrows shelf h keeps has parts new is of_mid early_mid))

    not_opened : {new : Imported P ghosts} (stop : Stop) → IsUnopenedOut see v g new stop → GoesWith (Err stop) new
    not_opened stop (inl is) = refused is
    not_opened {new = new} stop (inr (inl (wants, parts))) = subst (λ (s : Stop). GoesWith (Err s) new) (sym wants) (parted parts)
    not_opened stop (inr (inr is)) = unopened_goes is.ready.parts is.ready.early is.unopened

  -- ---- it was opened, healed and put back

  module _ {told : Result Healed Stop} {new : Imported P ghosts} (o : HealsOut see name told g new) where
    abbrev v : Vol
    v = o.volume

    abbrev mid : Imported P ghosts
    mid = o.opens.mid

    abbrev ready : IsReadyFor see v g mid
    ready = o.opens.ready

    abbrev gm : Group
    gm = world_of see mid

    mid_of : IsVolOf mid.config v
    mid_of = of_mid o.begun ready.parts

    abbrev on : GoesOn see o.running.volume o.healed.after.volume
    on = goes alike laws pieces shelf h keeps has ready.parts ready.ready.room mid_of o.begun.state o.opens.opens o.healed

    abbrev k : House P ghosts
    k = h3 alike shelf h keeps has ready.parts ready.ready.room mid_of o.begun.state o.opens.opens o.healed on

    keeps_there : Keeps see (at shelf k)
    keeps_there = keeps3 alike shelf h keeps has ready.parts ready.ready.room mid_of o.begun.state o.opens.opens o.healed on

    faults_there : FaultsGoOn (scene see (at shelf h)) (scene see (at shelf k))
    faults_there = faults3 alike shelf h keeps has ready.parts ready.ready.room mid_of o.begun.state o.opens.opens o.healed on

    module _ (m : Moment) (at_m : IsMoment see (at shelf h) m) where
      abbrev then : Moment
      then = n alike shelf h keeps has ready.parts ready.ready.room mid_of o.begun.state o.opens.opens o.healed on m at_m

      is_then : IsMoment see (at shelf k) then
      is_then = at3 alike shelf h keeps has ready.parts ready.ready.room mid_of o.begun.state o.opens.opens o.healed on m at_m

      comes_later : AreLater m.counts then.counts
      comes_later = later2 alike shelf h keeps has ready.parts ready.ready.room mid_of o.begun.state o.opens.opens o.healed on m at_m

      here : IsOf name m.world gm v
      here = is_mid o.begun ready.parts m at_m

    -- it is done
    done : (x : Healed) → o.healed.result ≡ Ok x → GoesTo (Ok x) k
    done x is = record {
      keeps = keeps_there;
      goes = λ m at_m. (
        then m at_m,
        is_then m at_m,
        comes_later m at_m,
        (
          gm,
          v,
          here m at_m,
          o.begun.state,
          (
            untested o.begun ready.parts ready.early,
            is_healed alike laws pieces shelf h keeps has ready.parts ready.ready.room mid_of o.begun.state o.opens.opens o.healed m at_m x is,
          ),
        ),
      );
      faults = faults_there;
      blamed = tt;
    }

    -- no name is told
    wanted : GoesTo (Err stops.OutOfMemory) k
    wanted =
        left k keeps_there
        (λ m at_m. (
          then m at_m,
          is_then m at_m,
          comes_later m at_m,
          inr (gm, v, here m at_m, o.begun.state, inr (inr (healing alike laws pieces shelf h keeps has ready.parts ready.ready.room mid_of o.begun.state o.opens.opens o.healed m at_m))),
        ))
        faults_there

    -- it has ended with a cause
    stopped : (end : End) → ((m : Moment) (at_m : IsMoment see (at shelf h) m) → PassHasCause gm v.name m.counts (then m at_m).counts end) → IsBlamed end (scene see (at shelf h)) (scene see (at shelf k)) → GoesTo (Err (stops.Ended end)) k
    stopped end cause blamed =
        ended end k keeps_there
        (λ m at_m. (
          then m at_m,
          is_then m at_m,
          comes_later m at_m,
          (
            gm,
            v,
            here m at_m,
            o.begun.state,
            inr (inr (healing alike laws pieces shelf h keeps has ready.parts ready.ready.room mid_of o.begun.state o.opens.opens o.healed m at_m, cause m at_m)),
          ),
        ))
        faults_there blamed

    named : (number : ℕ) (names : Word × Word) → names_at see o.opened.base.disks.items number ≡ Some names → IsNamed (members see mid.base) number names
    named number names e = subst (λ (x : Imported P ghosts). IsNamed (members see x.base) number names) o.opens.opens.same.group (named_at see o.opened.base.disks.items number names e)

    -- a device failed
    fault_goes : (number : ℕ) → Rose (faults_on number (held_pieces see o.running.volume)) (faults_on number (held_pieces see o.healed.after.volume)) → (names : Option (Word × Word)) → names_at see o.opened.base.disks.items number ≡ names → GoesTo (Err (fault_of names)) k
    fault_goes number rose None e = wanted
    fault_goes number rose (Some names) e =
        let x = named number names e in
        let up : Rose (faults_on x.disk.seen.device (held_pieces see o.running.volume)) (faults_on x.disk.seen.device (held_pieces see o.healed.after.volume)) =
        subst (λ d. Rose (faults_on d (held_pieces see o.running.volume)) (faults_on d (held_pieces see o.healed.after.volume))) (sym x.number_is) rose in
        stopped (ends.Fault names.0 names.1 [])
        (λ m at_m. (
          refl,
          subst (λ (d : Word). FailsOn gm v.name m.counts (then m at_m).counts names.0 d) x.device_is
              (subst (λ (t : Word). FailsOn gm v.name m.counts (then m at_m).counts t x.disk.device) x.name_is
              (disk_told alike shelf h keeps has ready.parts ready.ready.room mid_of o.begun.state o.opens.opens o.healed on m at_m x.disk x.there up)),
        ))
        (subst (λ (d : Word). HasFailed d (scene see (at shelf h)) (scene see (at shelf k))) x.device_is
        (disk_blamed alike shelf h keeps has ready.parts ready.ready.room mid_of o.begun.state o.opens.opens o.healed on x.disk x.there up))

    faulted : (fault : IoFault) → HealingHasReason see (Err fault) o.running.volume o.healed.after.volume → GoesTo (told_of see o.opened (Err fault)) k
    faulted (io.Fault place) why = fault_goes (device_of place) why (names_at see o.opened.base.disks.items (device_of place)) refl
    faulted io.PowerLost why =
        stopped (ends.Lost [])
        (λ m at_m. (
          refl,
          is_lost alike shelf h keeps has ready.parts ready.ready.room mid_of o.begun.state o.opens.opens o.healed on m at_m
              (why (cut gm v mid_of o.begun.state o.opens.opens.numbers mid.public o.opened.public o.running o.opens.opens.form o.opens.opens.started o.opens.opens.numbered)),
        ))
        tt
    faulted io.Range why = absurd why

    by_result : (r : Result Healed IoFault) → o.healed.result ≡ r → HealingHasReason see r o.running.volume o.healed.after.volume → GoesTo (told_of see o.opened r) k
    by_result (Ok x) is why = done x is
    by_result (Err fault) is why = faulted fault why

    pub heals_goes : GoesWith told new
    heals_goes =
        subst (λ (r : Result Healed Stop). GoesWith r new) (sym o.healed.told_is)
        (subst (GoesWith (told_of see o.opened o.healed.result)) (g3_is alike shelf h keeps has ready.parts ready.ready.room mid_of o.begun.state o.opens.opens o.healed on)
        (by_result o.healed.result refl (laws.reason o.running.volume o.healed.after.volume o.healed.result o.healed.heals.heals o.healed.heals.follows)))

  -- it goes so as the group says
  pub heal_goes : (told : Result Healed Stop) (new : Imported P ghosts) → HealEnds see name told g new → GoesWith told new
  heal_goes (Ok x) new is = heals_goes is
  heal_goes (Err stop) new (inl (wants, same)) = subst (λ (s : Stop). GoesWith (Err s) new) (sym wants) (subst (GoesWith (Err stops.OutOfMemory)) (sym same) at_rest)
  heal_goes (Err stop) new (inr (inl is)) = not_opened is.begun stop is.unopened
  heal_goes (Err stop) new (inr (inr is)) = heals_goes is
