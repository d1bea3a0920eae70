-- A plex that leaves its volume, or is removed, as a stage: however it ended on the group, it goes so in the house.
use Rattle.std.proofs.Common.{◌≡◌, ◌∙◌, Bool, true, List, Some, None, Result, Ok, Err, refl, sym, ap, subst, inl, inr}
use Rattle.std.specs.Prelude.{MatchOption, is_some}
use Rattle.vx_base.specs.Named.{Word}
use Rattle.vx_piece.specs.Seen.{Seen}
use Rattle.vx_pages.specs.declared.local_piece.LocalPiece.{Ghosts}
use Rattle.vx_config_parts.specs.declared.plex.Plex.{Plex}
use Rattle.vx_config_parts.specs.declared.vol.Vol.{Vol}
use Rattle.vx_objects.specs.declared.config.Config.{Config}
use Rattle.vx_objects.specs.declared.edit.Edit.{Edit}
use Rattle.vx_answers.specs.declared.answer.End.{End}
use Rattle.vx_answers.specs.declared.answer.End.TheVariants as ends
use Rattle.vx_answers.specs.declared.refusal.Refusal.{Refusal}
use Rattle.vx_answers.specs.declared.refusal.Refusal.TheVariants as refusal
use Rattle.vx_moments.specs.Moment.{Moment}
use Rattle.vx_moments.specs.World.{Group}
use Rattle.vx_script_words.specs.declared.value.DiskAt.{DiskAt}
use Rattle.vx_stages.specs.declared.stage.Stage.TheVariants as stage
use Rattle.vx_stages.specs.Ends.{EndsIn, IsChange, StopsBy, refused}
use Rattle.vx_stages.specs.Logging.{AreEditsRefused}
use Rattle.vx_stages.specs.Plexes.{plex_in}
use Rattle.vx_stages.specs.Stopping.{runs_on_plexes}
use Rattle.vx_stages.specs.Tests.{is_data}
use Rattle.vx_house.specs.Goes.{GoesBy, StageGoes}
use Rattle.vx_house.specs.Scene.{IsBlamed, Shelved}
use Rattle.vx_house.specs.View.{IsMoment, Keeps, View, at, group_of, scene}
use Rattle.vx_house.specs.declared.house.House.{House}
use Rattle.vx_house.specs.declared.house.Imported.{Imported}
use Rattle.vx_house.specs.declared.stop.Stop.{Stop}
use Rattle.vx_house.specs.declared.stop.Stop.TheVariants as stops
use Rattle.vx_house.proofs.Moments.{faults_refl, later_refl}
use Rattle.vx_house.proofs.Takes.{rests_self}
use Rattle.vx_house_calls.specs.Passes.{with_group}
use Rattle.vx_stage_changes.specs.declared.planning.NextConfig.{NextConfig}
use Rattle.vx_stage_volumes.specs.Opening.{good_of}
use Rattle.vx_stage_mirrors.specs.Ending.{seen_group}
use Rattle.vx_stage_mirrors.specs.LogEnding.{is_running}
use Rattle.vx_stage_mirrors.specs.Planned.{EndsAs}
use Rattle.vx_stage_mirrors.proofs.LogGoing.{here, runs_same, same_house}
use Rattle.vx_stage_dissociation.specs.Ending.{DissociateEnds, EndsAlone, IsLeavingStopped, WayEnds}
use Rattle.vx_stage_dissociation.specs.Going.{DissociateGoes, GoesAs, WayWants}
use Rattle.vx_stages.specs.Leaving.{ByLog, ByRecord, FromLog, FromRest, IsLeavingRefused, MayLeave, Way, leaving_edits, leaving_refusal, way_of}
use Rattle.vx_stages.specs.Left.{IsDissociated, IsReadied, IsRemovedAlone, Leaves, LeavesFrom, LeavesVolume, LeavingStops, LeavingStopsIn, LeavingStopsOf, LeavingWants, VolumeStops}
use Rattle.vx_stage_dissociation.specs.Planned.{IsLeavingPlanned, IsPlanFor}
use Rattle.vx_stage_dissociation.proofs.Going.{has_ended, has_wanted}
use Rattle.vx_stage_dissociation.proofs.RestedGoes.{RestLaws, rested_goes}

-- ---- what goes so, and means more

module _ {P : Type 0} {ghosts : Ghosts P} (see : P → Seen) (D E : Moment → Moment → Type 0) (F G : Moment → End → Moment → Type 0) (K L : Moment → Moment → Type 0) (old new : View P ghosts)
    (done : (m n : Moment) → IsMoment see old m → D m n → E m n) (ended : (m : Moment) (end : End) (n : Moment) → IsMoment see old m → F m end n → G m end n) (left : (m n : Moment) → IsMoment see old m → K m n → L m n) where
  means : (result : Result (Unit {0}) Stop) → GoesBy see D F K result old new → GoesBy see E G L result old new
  means (Ok u) goes = λ m is. let n = goes m is in (n.0, n.1, n.2, done m n.0 is n.3)
  means (Err (stops.Ended ends.GroupLost)) goes = λ m is. let n = goes m is in (n.0, n.1, n.2, ended m ends.GroupLost n.0 is n.3)
  means (Err (stops.Ended (ends.Lost parts))) goes = λ m is. let n = goes m is in (n.0, n.1, n.2, ended m (ends.Lost parts) n.0 is n.3)
  means (Err (stops.Ended (ends.Done copied parts blocks))) goes = λ m is. let n = goes m is in (n.0, n.1, n.2, ended m (ends.Done copied parts blocks) n.0 is n.3)
  means (Err (stops.Ended (ends.Refused why))) goes = λ m is. let n = goes m is in (n.0, n.1, n.2, ended m (ends.Refused why) n.0 is n.3)
  means (Err (stops.Ended (ends.Fault told device parts))) goes = λ m is. let n = goes m is in (n.0, n.1, n.2, ended m (ends.Fault told device parts) n.0 is n.3)
  means (Err (stops.Ended ends.ShelfFailed)) goes = λ m is. let n = goes m is in (n.0, n.1, n.2, ended m ends.ShelfFailed n.0 is n.3)
  means (Err stops.OutOfMemory) goes = λ m is. let n = goes m is in (n.0, n.1, n.2, left m n.0 is n.3)

  goes_meant : (result : Result (Unit {0}) Stop) → GoesAs see D F K result old new → GoesAs see E G L result old new
  goes_meant result g = record { keeps = g.keeps; goes = means result g.goes; faults = g.faults; blamed = g.blamed }

-- ---- the stage

pub as_dissociate : {P : Type 0} {ghosts : Ghosts P} (see : P → Seen) (remove : Bool) (name : Word) (disks : List DiskAt) (result : Result (Unit {0}) Stop) (old new : View P ghosts) →
    DissociateGoes see remove name result old new → StageGoes see (stage.Dissociate name remove) disks result old new
as_dissociate see remove name disks (Ok u) old new is = record { keeps = is.keeps; goes = is.goes; gives = tt; still = λ e. cc; faults = is.faults; blamed = is.blamed }
as_dissociate see remove name disks (Err stop) old new is = record { keeps = is.keeps; goes = is.goes; gives = tt; still = λ e. tt; faults = is.faults; blamed = is.blamed }

module _ {P : Type 0} {ghosts : Ghosts P} (alike : (p q : P) → is_some (ghosts.seen p).told ≡ is_some (ghosts.seen q).told) (laws : RestLaws ghosts) (remove : Bool) (name : Word) (shelf : Shelved) (h : House P ghosts) (keeps : Keeps ghosts.seen (at shelf h)) where
  abbrev see : P → Seen
  see = ghosts.seen

  abbrev GoesTo : Result (Unit {0}) Stop → House P ghosts → Type 0
  GoesTo result h' = DissociateGoes see remove name result (at shelf h) (at shelf h')

  -- no group is imported
  pub no_group : h.group ≡ None → DissociateGoes ghosts.seen remove name (Err (stops.Ended (ends.Refused (refusal.NoGroup None)))) (at shelf h) (at shelf h)
  no_group none = has_ended see (IsDissociated remove name) (LeavingStops remove name) (LeavingWants remove name) (at shelf h) (at shelf h) (ends.Refused (refusal.NoGroup None)) keeps (λ m is. (
    m,
    is,
    later_refl m.counts,
    subst (λ o. MatchOption o (EndsIn (refusal.NoGroup None) m (ends.Refused (refusal.NoGroup None)) m) (λ g. LeavingStopsIn g remove name m (ends.Refused (refusal.NoGroup None)) m))
        (sym (is.group_is ∙ ap (group_of see) none)) (refl, rests_self m),
  ))
      (faults_refl (scene see (at shelf h))) tt

  module _ (g : Imported P ghosts) (has_group : h.group ≡ Some g) where
    abbrev gm : Group
    gm = seen_group ghosts.seen g

    here_is : (m : Moment) → IsMoment see (at shelf h) m → m.world.group ≡ Some gm
    here_is m is = here see shelf h g has_group m is

    stops_in : (m k : Moment) (end : End) → IsMoment see (at shelf h) m → LeavingStopsIn gm remove name m end k → LeavingStops remove name m end k
    stops_in m k end is s = subst (λ o. MatchOption o (EndsIn (refusal.NoGroup None) m end k) (λ w. LeavingStopsIn w remove name m end k)) (sym (here_is m is)) s

    runs_is : (m : Moment) → IsMoment see (at shelf h) m → ◌≡◌ {A = Word → Bool} (runs_on_plexes m.world) (is_running g)
    runs_is m is = λ i vol. runs_same see shelf h g has_group vol m is i

    may_leave : (p : Plex) (next : NextConfig) → p.name ≡ name → IsPlanFor see remove p next g → (m : Moment) → IsMoment see (at shelf h) m → MayLeave (runs_on_plexes m.world) gm remove name p
    may_leave p next named plan m is = record {
      found = subst (λ n. plex_in n g.config.plexes ≡ Some p) named plan.found;
      fits = subst (λ (f : Word → Bool). leaving_refusal f g.config (good_of see g) remove name ≡ None) (sym (runs_is m is)) (subst (λ n. leaving_refusal (is_running g) g.config (good_of see g) remove n ≡ None) named plan.fits);
    }

    -- ---- refused before anything is touched

    refuses_edits : (c : Config) (edits : List Edit) (end : End) → AreEditsRefused c edits end → (r : Refusal) × (end ≡ refused r)
    refuses_edits c edits end (inl (r, is, e)) = (r, e)
    refuses_edits c edits end (inr (next, edited, (text, is, long, e))) = (_, e)

    refuses : (end : End) → IsLeavingRefused (is_running g) gm remove name end → (r : Refusal) × (end ≡ refused r)
    refuses end (inl (r, is, e)) = (r, e)
    refuses end (inr (p, may, is)) = refuses_edits g.config (leaving_edits remove p) end is

    refused_goes : (end : End) → IsLeavingRefused (is_running g) gm remove name end → GoesTo (Err (stops.Ended end)) h
    refused_goes end is = has_ended see (IsDissociated remove name) (LeavingStops remove name) (LeavingWants remove name) (at shelf h) (at shelf h) end keeps
        (λ m at_m. (m, at_m, later_refl m.counts, stops_in m m end at_m (inl (subst (λ (f : Word → Bool). IsLeavingRefused f gm remove name end) (sym (runs_is m at_m)) is, rests_self m))))
        (faults_refl (scene see (at shelf h)))
        (let why = refuses end is in subst (λ e. IsBlamed e (scene see (at shelf h)) (scene see (at shelf h))) (sym why.1) tt)

    refused_by : (stop : Stop) (new : Imported P ghosts) → new ≡ g → EndsAs (IsLeavingRefused (is_running g) gm remove name) stop → GoesTo (Err stop) (with_group h new)
    refused_by (stops.Ended end) new same is = subst (GoesTo (Err (stops.Ended end))) (same_house see shelf h g has_group new same) (refused_goes end is)
    refused_by stops.OutOfMemory new same is =
        subst (GoesTo (Err stops.OutOfMemory)) (same_house see shelf h g has_group new same)
        (has_wanted see (IsDissociated remove name) (LeavingStops remove name) (LeavingWants remove name) (at shelf h) (at shelf h) keeps (λ m is. (m, is, later_refl m.counts, inl refl)) (faults_refl (scene see (at shelf h))))

    stopped_by : (result : Result (Unit {0}) Stop) (new : Imported P ghosts) → IsLeavingStopped see remove name result g new → GoesTo result (with_group h new)
    stopped_by (Ok u) new e = absurd e
    stopped_by (Err stop) new e = refused_by stop new e.0 e.1

    -- ---- of no volume

    alone_by : (result : Result (Unit {0}) Stop) (new : Imported P ghosts) → EndsAlone see remove name result g new → GoesTo result (with_group h new)
    alone_by result new e =
        let plan : IsPlanFor see remove e.plex e.next g = subst (λ b. IsPlanFor see b e.plex e.next g) (sym e.removed) e.planned in
        goes_meant see (IsRemovedAlone true e.plex) (IsDissociated remove name) (λ m end k. StopsBy (IsChange (leaving_edits true e.plex) m.world) m end k) (LeavingStops remove name) (λ m n. n.world ≡ m.world) (LeavingWants remove name)
        (at shelf h) (at shelf (with_group h new))
        (λ m n is done. record {
          group = gm;
          here = here_is m is;
          plex = e.plex;
          may = may_leave e.plex e.next e.named plan m is;
          leaves = subst (λ o. Leaves remove gm e.plex o m n) (sym e.none) (subst (λ b. IsRemovedAlone b e.plex m n) (sym e.removed) done);
        })
        (λ m end k is ended.
        stops_in m k end is (inr (
          e.plex,
          may_leave e.plex e.next e.named plan m is,
          subst (λ o. LeavingStopsOf remove gm e.plex o m end k) (sym e.none) (subst (λ b. StopsBy (IsChange (leaving_edits b e.plex) m.world) m end k) (sym e.removed) ended),
        )))
        (λ m n is same. inl same)
        result (e.ends shelf h has_group keeps)

    -- ---- out of its volume

    module _ (way : Way) (v : Vol) (p : Plex) (named : p.name ≡ name) (next : NextConfig) (planned : IsLeavingPlanned see way v p next g) (removed : planned.remove ≡ remove) where
      plan : IsPlanFor see remove p next g
      plan = subst (λ b. IsPlanFor see b p next g) removed planned.plan

      from : (m : Moment) → IsMoment see (at shelf h) m → LeavesFrom remove name m.world
      from m is = record { group = gm; here = here_is m is; plex = p; may = may_leave p next named plan m is; vol = v.name; own = planned.own; volume = v; there = planned.volume }

      way_at : (m : Moment) → IsMoment see (at shelf h) m → way_of (is_data p.kind) (runs_on_plexes m.world v.name) v ≡ way
      way_at m is = ap (λ b. way_of (is_data p.kind) b v) (runs_same see shelf h g has_group v.name m is) ∙ planned.way_is

      wants : (m n : Moment) → IsMoment see (at shelf h) m → WayWants way gm v m n → LeavingWants remove name m n
      unfolding from
      wants m n is (inl same) = inl same
      wants m n is (inr readied) = inr (from m is, subst (λ (w : Way). IsReadied w gm v m n) (sym (way_at m is)) readied)

      pub way_goes : (result : Result (Unit {0}) Stop) (new : Imported P ghosts) → GoesAs see (LeavesVolume planned.remove gm v p) (VolumeStops planned.remove gm v p) (WayWants way gm v) result (at shelf h) (at shelf (with_group h new)) → GoesTo result (with_group h new)
      way_goes result new goes =
          goes_meant see (LeavesVolume planned.remove gm v p) (IsDissociated remove name) (VolumeStops planned.remove gm v p) (LeavingStops remove name) (WayWants way gm v) (LeavingWants remove name) (at shelf h) (at shelf (with_group h new))
          (λ m n is done. record {
            group = gm;
            here = here_is m is;
            plex = p;
            may = may_leave p next named plan m is;
            leaves = subst (λ o. Leaves remove gm p o m n) (sym planned.own) (v, planned.volume, subst (λ b. LeavesVolume b gm v p m n) removed done);
          })
          (λ m end k is ended.
          stops_in m k end is (inr (
            p,
            may_leave p next named plan m is,
            subst (λ o. LeavingStopsOf remove gm p o m end k) (sym planned.own) (v, planned.volume, subst (λ b. VolumeStops b gm v p m end k) removed ended),
          )))
          wants
          result goes

    way_by : (way : Way) (v : Vol) (p : Plex) (named : p.name ≡ name) (next : NextConfig) (planned : IsLeavingPlanned see way v p next g) (removed : planned.remove ≡ remove) (result : Result (Unit {0}) Stop) (new : Imported P ghosts) →
        WayEnds see way v p next result g new → GoesTo result (with_group h new)
    way_by ByRecord v p named next planned removed result new e = way_goes ByRecord v p named next planned removed result new (e planned shelf h has_group keeps)
    way_by FromLog v p named next planned removed result new e = way_goes FromLog v p named next planned removed result new (e planned shelf h has_group keeps)
    way_by FromRest v p named next planned removed result new e = way_goes FromRest v p named next planned removed result new (rested_goes alike laws shelf h keeps g has_group v p next planned result new e)
    way_by ByLog v p named next planned removed result new e = way_goes ByLog v p named next planned removed result new (e planned shelf h has_group keeps)

    -- ---- however it ended

    pub dissociate_goes : (result : Result (Unit {0}) Stop) (new : Imported P ghosts) → DissociateEnds ghosts.seen remove name result g new → DissociateGoes ghosts.seen remove name result (at shelf h) (at shelf (with_group h new))
    dissociate_goes result new (inl e) = stopped_by result new e
    dissociate_goes result new (inr (inl e)) = alone_by result new e
    dissociate_goes result new (inr (inr e)) = way_by e.way e.volume e.plex e.named e.next e.planned e.removed result new e.ends
