-- A plex of the group that leaves its volume leaves the world sound: its edit is of its volume alone, which has come to rest before or whose log
-- was read, and a volume that runs lies on plexes as before.
use Rattle.std.proofs.Common.{◌≡◌, ◌∙◌, Bool, true, false, List, [], ◌∷◌, Option, Some, None, MatchOption, refl, sym, ap, subst, inl, inr}
use Rattle.vx_base.specs.Named.{Word}
use Rattle.vx_base.proofs.NamedLemmas.{bytes_eq_same}
use Rattle.vx_config_parts.specs.declared.plex.Plex.{Plex}
use Rattle.vx_config_parts.specs.declared.vol.Vol.{Vol}
use Rattle.vx_objects.specs.declared.config.Config.{Config}
use Rattle.vx_image.proofs.PlexMembers.{IsIn}
use Rattle.vx_answers.specs.declared.answer.End.{End}
use Rattle.vx_answers.specs.declared.refusal.Refusal.TheVariants as refusal
use Rattle.vx_moments.specs.Leaving.{lone}
use Rattle.vx_moments.specs.Moment.{Moment}
use Rattle.vx_moments.specs.World.{Group, World}
use Rattle.vx_group_edits.specs.OfVolume.{AreEditsOf, NamesNoOther}
use Rattle.vx_group_edits.proofs.Commands.{found_there}
use Rattle.vx_group_edits.proofs.DcoEdits.{no_other_name}
use Rattle.vx_stages.specs.Ends.{EndsIn, IsChange}
use Rattle.vx_stages.specs.Leaving.{ByLog, ByRecord, FromLog, FromRest, MayLeave, Way, leaving_edits, way_of}
use Rattle.vx_stages.specs.Left.{GoesOnBy, GoesOnWithout, IsDissociated, IsReadied, LeavesVolume, LeavingStops, LeavingStopsIn, LeavingStopsOf, LeavingWants, Leaves, StopsUnreadied, VolumeStops, besides, volume_left, way_in}
use Rattle.vx_stages.specs.Stopping.{runs_on_plexes}
use Rattle.vx_stages.specs.Tests.{is_data, volume_in}
use Rattle.vx_sound.specs.Standing.{IsStanding}
use Rattle.vx_sound.proofs.Commits.{Ends, commit_done, commit_stopped}
use Rattle.vx_sound.proofs.Logs.{own_ready, own_unnamed}
use Rattle.vx_sound.proofs.Plexes.{plex_found}
use Rattle.vx_sound.proofs.Private.{front_itself}
use Rattle.vx_sound.proofs.Running.{rested, standing_touched, still}
use Rattle.vx_sound.proofs.Volumes.{lone_plexes, standing_goes}

-- ---- the edit is of the volume alone

leaving_own : (c : Config) (vol : Word) (p : Plex) → IsIn c.plexes p → NamesNoOther vol p.vol → (remove : Bool) → AreEditsOf c vol (leaving_edits remove p)
leaving_own c vol p there own true = (no_other_name c vol p there own, tt)
leaving_own c vol p there own false = ((tt, no_other_name c vol p there own), tt)

-- a plex that may leave is of its volume, ..
pub leaves_own : (runs : Word → Bool) (g : Group) (remove : Bool) (name : Word) (p : Plex) → MayLeave runs g remove name p → (vol : Word) (v : Vol) → p.vol ≡ Some vol → volume_in vol g.config.volumes ≡ Some v → AreEditsOf g.config v.name (leaving_edits remove p)
leaves_own runs g remove name p may vol v own is =
    let same : vol ≡ v.name = sym (bytes_eq_same v.name vol (found_there vol g.config.volumes v is).1) in
    leaving_own g.config v.name p (plex_found name g.config.plexes p may.found).0 (subst (NamesNoOther v.name) (sym own) same) remove

-- .. and one of none is of none that one names
pub loose_own : (runs : Word → Bool) (g : Group) (remove : Bool) (name : Word) (p : Plex) → MayLeave runs g remove name p → p.vol ≡ None → (vol : Word) → AreEditsOf g.config vol (leaving_edits remove p)
loose_own runs g remove name p may none vol = leaving_own g.config vol p (plex_found name g.config.plexes p may.found).0 (subst (NamesNoOther vol) (sym none) tt) remove

-- ---- the volume that goes on

without_stands : (g : Group) (vol : Word) (p : Plex) (m n : Moment) → IsStanding m.world → GoesOnWithout g vol p m n → IsStanding n.world
without_stands g vol p m n s w =
    let run = volume_left g vol p w.plexes w.volume in
    subst IsStanding (sym w.world)
    (standing_goes vol m.world.devices (Some run) m.world (ap lone w.was ∙ lone_plexes w.volume w.plexes w.lies) (lone_plexes run (besides p.name w.plexes) refl) (λ other. front_itself (m.world.devices other)) s)

without_by : (way : Way) (g : Group) (vol : Word) (p : Plex) (m n : Moment) → IsStanding m.world → GoesOnBy way g vol p m n → IsStanding n.world
without_by ByRecord g vol p m n s same = subst (λ (x : Moment). IsStanding x.world) (sym same) s
without_by FromLog g vol p m n s w = without_stands g vol p m n s w
without_by FromRest g vol p m n s w = without_stands g vol p m n s w
without_by ByLog g vol p m n s same = subst (λ (x : Moment). IsStanding x.world) (sym same) s

module _ (old : Moment) (s : IsStanding old.world) where
  -- ---- what is done before

  pub readied_stands : (way : Way) (g : Group) (v : Vol) (mid : Moment) → IsReadied way g v old mid → IsStanding mid.world
  readied_stands ByRecord g v mid same = subst (λ (m : Moment). IsStanding m.world) (sym same) s
  readied_stands FromLog g v mid same = subst (λ (m : Moment). IsStanding m.world) (sym same) s
  readied_stands FromRest g v mid rest = rested v.name old s mid rest
  readied_stands ByLog g v mid asked = standing_touched g v.name old mid asked.touched s

  pub readied_group : (way : Way) (g : Group) (v : Vol) (mid : Moment) → IsReadied way g v old mid → mid.world.group ≡ old.world.group
  readied_group ByRecord g v mid same = ap (λ (m : Moment). m.world.group) same
  readied_group FromLog g v mid same = ap (λ (m : Moment). m.world.group) same
  readied_group FromRest g v mid rest = ap (λ (w : World). w.group) rest.goes.world
  readied_group ByLog g v mid asked = ap (λ (w : World). w.group) asked.touched.world

  unreadied : (way : Way) (g : Group) (v : Vol) (end : End) (new : Moment) → StopsUnreadied way g v old end new → IsStanding new.world
  unreadied ByRecord g v end new stops = absurd stops
  unreadied FromLog g v end new stops = absurd stops
  unreadied FromRest g v end new stops = rested v.name old s new stops.rest
  unreadied ByLog g v end new stops = standing_touched g v.name old new stops.0 s

  module _ (g : Group) (here : old.world.group ≡ Some g) (remove : Bool) (name : Word) (p : Plex) (may : MayLeave (runs_on_plexes old.world) g remove name p) where
    -- ---- a plex of a volume

    module _ (vol : Word) (v : Vol) (own : p.vol ≡ Some vol) (is : volume_in vol g.config.volumes ≡ Some v) where
      abbrev pub way : Way
      way = way_of (is_data p.kind) (runs_on_plexes old.world v.name) v

      of : AreEditsOf g.config v.name (leaving_edits remove p)
      of = leaves_own (runs_on_plexes old.world) g remove name p may vol v own is

      pub left_recorded : (new : Moment) (d : LeavesVolume remove g v p old new) → IsStanding d.recorded.world
      left_recorded new d =
          let stands = readied_stands way g v d.mid d.readied in
          let group = readied_group way g v d.mid d.readied ∙ here in
          commit_done d.writing d.mid d.recorded stands (own_ready d.mid.world d.writing stands g group v.name (leaving_edits remove p) of d.change)
          (own_unnamed d.mid.world d.writing stands g group v.name (leaving_edits remove p) of d.change) d.committed

      left_stands : (new : Moment) → LeavesVolume remove g v p old new → IsStanding new.world
      left_stands new d = without_by way g v.name p d.recorded new (left_recorded new d) d.goes

      volume_ends : (end : End) (new : Moment) → VolumeStops remove g v p old end new → Ends end new.world
      volume_ends end new (inl stops) = inl (unreadied way g v end new stops)
      volume_ends end new (inr (inl kept)) = inl (readied_stands way g v new kept.readied)
      volume_ends end new (inr (inr c)) =
          let stands = readied_stands way g v c.mid c.readied in
          commit_stopped c.stops.0 c.mid end new stands (own_ready c.mid.world c.stops.0 stands g (readied_group way g v c.mid c.readied ∙ here) v.name (leaving_edits remove p) of c.stops.1) c.stops.2

    -- ---- any plex

    left : (o : Option Word) → p.vol ≡ o → (new : Moment) → Leaves remove g p o old new → IsStanding new.world
    left None none new d =
        let x = d.commits.0 in
        let of = loose_own (runs_on_plexes old.world) g remove name p may none [] in
        commit_done x old new s (own_ready old.world x s g here [] (leaving_edits remove p) of d.commits.1) (own_unnamed old.world x s g here [] (leaving_edits remove p) of d.commits.1) d.commits.2
    left (Some vol) own new (v, is, d) = left_stands vol v own is new d

    left_ends : (o : Option Word) → p.vol ≡ o → (end : End) (new : Moment) → LeavingStopsOf remove g p o old end new → Ends end new.world
    left_ends None none end new stops =
        commit_stopped stops.0 old end new s (own_ready old.world stops.0 s g here [] (leaving_edits remove p) (loose_own (runs_on_plexes old.world) g remove name p may none []) stops.1) stops.2
    left_ends (Some vol) own end new (v, is, stops) = volume_ends vol v own is end new stops

  pub leaving_done : (remove : Bool) (name : Word) (new : Moment) → IsDissociated remove name old new → IsStanding new.world
  leaving_done remove name new d = left d.group d.here remove name d.plex d.may d.plex.vol refl new d.leaves

  module _ (end : End) (new : Moment) where
    leaving_in : (remove : Bool) (name : Word) (g : Group) → old.world.group ≡ Some g → LeavingStopsIn g remove name old end new → Ends end new.world
    leaving_in remove name g here (inl (why, rests)) = still old end new s rests.stays.world
    leaving_in remove name g here (inr (p, may, stops)) = left_ends g here remove name p may p.vol refl end new stops

    leaving_by : (remove : Bool) (name : Word) (o : Option Group) → old.world.group ≡ o → MatchOption o (EndsIn (refusal.NoGroup None) old end new) (λ g. LeavingStopsIn g remove name old end new) → Ends end new.world
    leaving_by remove name None here ends = still old end new s ends.1.stays.world
    leaving_by remove name (Some g) here stops = leaving_in remove name g here stops

    pub leaving_ends : (remove : Bool) (name : Word) → LeavingStops remove name old end new → Ends end new.world
    leaving_ends remove name stops = leaving_by remove name old.world.group refl stops

  pub leaving_wants : (remove : Bool) (name : Word) (new : Moment) → LeavingWants remove name old new → IsStanding new.world
  leaving_wants remove name new (inl same) = subst IsStanding (sym same) s
  leaving_wants remove name new (inr (from, readied)) = readied_stands (way_in from) from.group from.volume new readied
