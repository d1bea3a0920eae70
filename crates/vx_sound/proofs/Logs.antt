-- A volume of the group that gets logs or loses them leaves the world sound: what is written of its log lies behind the private regions, its
-- edits leave the disks and record no other name, and with another log it lies on plexes as before.
use Rattle.std.proofs.Common.{◌≡◌, ◌∙◌, Bool, true, false, List, [], ◌∷◌, ◌++◌, Option, Some, None, MatchBool, MatchOption, refl, sym, ap, subst, inl, inr}
use Rattle.vx_base.specs.Named.{Word}
use Rattle.vx_config_parts.specs.declared.vol.Vol.{Vol}
use Rattle.vx_objects.specs.declared.config.Config.{Config}
use Rattle.vx_objects.specs.declared.edit.Edit.{Edit}
use Rattle.vx_new_volumes.specs.declared.logs.NewLogs.{NewLogs}
use Rattle.vx_state_edits.specs.Edits.{is_new}
use Rattle.vx_answers.specs.declared.answer.End.{End}
use Rattle.vx_answers.specs.declared.refusal.Refusal.TheVariants as refusal
use Rattle.vx_moments.specs.Commit.{Writing}
use Rattle.vx_moments.specs.Leaving.{lone}
use Rattle.vx_moments.specs.Moment.{AreLater, Moment}
use Rattle.vx_moments.specs.World.{Group, World}
use Rattle.vx_group_edits.specs.OfVolume.{AreEditsOf}
use Rattle.vx_group_edits.proofs.DcoEdits.{own_group, preparing_own, unpreparing_own}
use Rattle.vx_stages.specs.Ends.{EndsIn, IsChange}
use Rattle.vx_stages.specs.Logged.{IsLogWritten, IsPrepared, IsRelogged, IsUnprepared, PrepareStops, PrepareStopsIn, PrepareWants, UnprepareStops, UnprepareStopsIn, by_config, log_names, volume_relogged}
use Rattle.vx_stages.specs.Stopping.{runs_on_plexes}
use Rattle.vx_sound.specs.Standing.{IsStanding}
use Rattle.vx_sound.proofs.Commits.{Ends, commit_done, commit_stopped, group_apart, imported_led}
use Rattle.vx_sound.proofs.Edits.{same_grown}
use Rattle.vx_sound.proofs.Headers.{some_same}
use Rattle.vx_sound.proofs.Names.{IsApart}
use Rattle.vx_sound.proofs.Private.{front_itself}
use Rattle.vx_sound.proofs.Ready.{IsReady}
use Rattle.vx_sound.proofs.ReadyToWrite.{ready_alone}
use Rattle.vx_sound.proofs.Running.{standing_touched, still}
use Rattle.vx_sound.proofs.Volumes.{lone_plexes, standing_goes}

-- ---- what is recorded

-- the group is imported, and edits of one of its volumes alone are written
module _ (w : World) (x : Writing) (s : IsStanding w) (g : Group) (here : w.group ≡ Some g) (vol : Word) (edits : List Edit) (of : AreEditsOf g.config vol edits) (is : IsChange edits w x) where
  own : g ≡ x.group
  own = some_same g x.group (sym here ∙ is.group)

  of_own : AreEditsOf x.group.config vol edits
  of_own = subst (λ (h : Group). AreEditsOf h.config vol edits) own of

  pub own_ready : IsReady x w
  own_ready =
      let kept = own_group x.group.config x.config vol edits of_own is.edited in
      ready_alone x w (imported_led w x.group s is.group) (same_grown x.group.config x.config kept.0 kept.1) is.joiners is.carriers

  pub own_unnamed : IsApart x.config w
  own_unnamed name h = let kept = own_group x.group.config x.config vol edits of_own is.edited in group_apart w x.group s is.group name (kept.2 name h)

-- ---- the volume with another log

relogged_stands : (name : Word) (Goes : List Word → List Word → Type 0) (m n : Moment) → IsStanding m.world → IsRelogged name Goes m n → IsStanding n.world
relogged_stands name Goes m n s r =
    let run = volume_relogged r.later r.volume in
    subst IsStanding (sym r.world)
    (standing_goes name m.world.devices (Some run) m.world (ap lone r.was ∙ lone_plexes r.volume r.plexes r.lies) (lone_plexes run r.later refl) (λ other. front_itself (m.world.devices other)) s)

pub relogged_if : (name : Word) (Goes : List Word → List Word → Type 0) (m n : Moment) (b : Bool) → IsStanding m.world → MatchBool b (IsRelogged name Goes m n) (n ≡ m) → IsStanding n.world
relogged_if name Goes m n true s r = relogged_stands name Goes m n s r
relogged_if name Goes m n false s same = subst (λ (x : Moment). IsStanding x.world) (sym same) s

-- ---- logs that come

module _ (old : Moment) (s : IsStanding old.world) where
  pub log_stands : (g : Group) (next : Config) (v : Vol) (m : Moment) (b : Bool) → MatchBool b (m ≡ old) (IsLogWritten g next v.name old m × AreLater old.counts m.counts) → IsStanding m.world
  log_stands g next v m true same = subst (λ (x : Moment). IsStanding x.world) (sym same) s
  log_stands g next v m false writes = standing_touched (by_config next g) v.name old m writes.0.log.touched s

  pub log_group : (g : Group) (next : Config) (v : Vol) (m : Moment) (b : Bool) → old.world.group ≡ Some g → MatchBool b (m ≡ old) (IsLogWritten g next v.name old m × AreLater old.counts m.counts) → m.world.group ≡ Some g
  log_group g next v m true here same = ap (λ (x : Moment). x.world.group) same ∙ here
  log_group g next v m false here writes = ap (λ (w : World). w.group) writes.0.log.touched.world ∙ here

  pub prepare_recorded : (n : NewLogs) (new : Moment) (d : IsPrepared n old new) → IsStanding d.recorded.world
  prepare_recorded n new d =
      let b = is_new d.volume.state in
      let stands = log_stands d.group d.next d.volume d.written b d.writes in
      let group = log_group d.group d.next d.volume d.written b d.here d.writes in
      let of = preparing_own d.group.config d.group.good d.volume n d.logs.plex d.logs.added d.edits d.logs.laid in
      commit_done d.writing d.written d.recorded stands (own_ready d.written.world d.writing stands d.group group d.volume.name d.edits of d.change)
      (own_unnamed d.written.world d.writing stands d.group group d.volume.name d.edits of d.change) d.committed

  pub prepare_done : (n : NewLogs) (new : Moment) → IsPrepared n old new → IsStanding new.world
  prepare_done n new d =
      relogged_if n.vol (λ plexes later. later ≡ plexes ++ log_names d.next d.group.good n.vol) d.recorded new (runs_on_plexes old.world n.vol) (prepare_recorded n new d) d.runs

  module _ (end : End) (new : Moment) where
    prepare_in : (n : NewLogs) (g : Group) → old.world.group ≡ Some g → PrepareStopsIn g n old end new → Ends end new.world
    prepare_in n g here (inl (why, rests)) = still old end new s rests.stays.world
    prepare_in n g here (inr (inl u)) = inl (standing_touched (by_config u.next g) n.vol old new u.log.touched s)
    prepare_in n g here (inr (inr c)) =
        let b = is_new c.volume.state in
        let stands = log_stands g c.next c.volume c.written b c.writes in
        let group = log_group g c.next c.volume c.written b here c.writes in
        let of = preparing_own g.config g.good c.volume n c.logs.plex c.logs.added c.edits c.logs.laid in
        commit_stopped c.stops.0 c.written end new stands (own_ready c.written.world c.stops.0 stands g group c.volume.name c.edits of c.stops.1) c.stops.2

    prepare_by : (n : NewLogs) (o : Option Group) → old.world.group ≡ o → MatchOption o (EndsIn (refusal.NoGroup None) old end new) (λ g. PrepareStopsIn g n old end new) → Ends end new.world
    prepare_by n None here ends = still old end new s ends.1.stays.world
    prepare_by n (Some g) here stops = prepare_in n g here stops

    pub prepare_ends : (n : NewLogs) → PrepareStops n old end new → Ends end new.world
    prepare_ends n stops = prepare_by n old.world.group refl stops

    -- ---- logs that go

    unprepare_in : (name : Word) (g : Group) → old.world.group ≡ Some g → UnprepareStopsIn g name old end new → Ends end new.world
    unprepare_in name g here (inl (why, rests)) = still old end new s rests.stays.world
    unprepare_in name g here (inr c) =
        let of = unpreparing_own g.config name c.volume c.plex c.edits c.loses in
        commit_stopped c.stops.0 old end new s (own_ready old.world c.stops.0 s g here c.volume.name c.edits of c.stops.1) c.stops.2

    unprepare_by : (name : Word) (o : Option Group) → old.world.group ≡ o → MatchOption o (EndsIn (refusal.NoGroup None) old end new) (λ g. UnprepareStopsIn g name old end new) → Ends end new.world
    unprepare_by name None here ends = still old end new s ends.1.stays.world
    unprepare_by name (Some g) here stops = unprepare_in name g here stops

    pub unprepare_ends : (name : Word) → UnprepareStops name old end new → Ends end new.world
    unprepare_ends name stops = unprepare_by name old.world.group refl stops

  pub unprepare_recorded : (name : Word) (new : Moment) (d : IsUnprepared name old new) → IsStanding d.recorded.world
  unprepare_recorded name new d =
      let of = unpreparing_own d.group.config name d.volume d.plex d.edits d.loses in
      commit_done d.writing old d.recorded s (own_ready old.world d.writing s d.group d.here d.volume.name d.edits of d.change)
      (own_unnamed old.world d.writing s d.group d.here d.volume.name d.edits of d.change) d.committed

  pub unprepare_done : (name : Word) (new : Moment) → IsUnprepared name old new → IsStanding new.world
  unprepare_done name new d = relogged_if name (λ plexes later. later ≡ d.plex.name ∷ []) d.recorded new (runs_on_plexes old.world name) (unprepare_recorded name new d) d.runs

  -- ---- want of memory

  pub prepare_wants : (n : NewLogs) (new : Moment) → PrepareWants n old new → IsStanding new.world
  prepare_wants n new (inl same) = subst IsStanding (sym same) s
  prepare_wants n new (inr (g, v, next, edits, here, logs, started, log)) = standing_touched (by_config next g) n.vol old new log.touched s
