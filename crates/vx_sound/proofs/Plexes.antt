-- A plex of the group that goes out of use or into use leaves the world sound: its edit is of its volume alone, which has come to rest before or
-- is copied behind it, and lies where it lay.
use Rattle.std.proofs.Common.{◌≡◌, ◌∙◌, ℕ, Bool, true, false, List, [], ◌∷◌, Option, Some, None, MatchOption, refl, sym, ap, subst, inl, inr}
use Rattle.std.proofs.lemmas.Bool.{and_parts}
use Rattle.std.specs.Prelude.{◌&&◌, if◌then◌else◌, is_some}
use Rattle.std.specs.Str.{bytes_eq}
use Rattle.vx_base.specs.Named.{Word}
use Rattle.vx_base.proofs.NamedLemmas.{bytes_eq_same, bytes_eq_self}
use Rattle.vx_config_parts.specs.declared.plex.Plex.{Plex}
use Rattle.vx_config_parts.specs.declared.state.PlexState.{PlexState}
use Rattle.vx_config_parts.specs.declared.state.PlexState.TheVariants as plex_state
use Rattle.vx_config_parts.specs.declared.vol.Vol.{Vol}
use Rattle.vx_config_parts.specs.Objects.{is_data, is_data_plex_of, refers}
use Rattle.vx_objects.specs.declared.config.Config.{Config}
use Rattle.vx_image.specs.Bytes.{is_held}
use Rattle.vx_image.proofs.PlexMembers.{IsIn}
use Rattle.vx_answers.specs.declared.answer.End.{End}
use Rattle.vx_answers.specs.declared.answer.End.TheVariants as ends
use Rattle.vx_answers.specs.declared.refusal.Refusal.{Refusal}
use Rattle.vx_answers.specs.declared.refusal.Refusal.TheVariants as refusal
use Rattle.vx_moments.specs.Leaving.{lone}
use Rattle.vx_moments.specs.Moment.{Counts, Moment}
use Rattle.vx_moments.specs.World.{Group, Volume, World}
use Rattle.vx_group_edits.specs.OfVolume.{AreEditsOf}
use Rattle.vx_group_edits.proofs.Commands.{found_there}
use Rattle.vx_group_edits.proofs.DcoEdits.{own_name}
use Rattle.vx_stages.specs.Attached.{AttachCopiesTo, AttachStops, AttachStopsIn, IsAttachCopied, IsAttachedBy, volume_unsure}
use Rattle.vx_stages.specs.Detached.{DetachStops, DetachStopsIn, DetachWants, IsDetached, IsRestedFor}
use Rattle.vx_stages.specs.Ends.{EndsIn}
use Rattle.vx_stages.specs.Plexes.{MayAttach, MayDetach, detach_refusal_of, found_to_attach, found_to_detach, is_attachable, is_in_use, may_be_used, plex_in, state_edits}
use Rattle.vx_stages.specs.Stopping.{runs_on_plexes}
use Rattle.vx_stages.specs.Tests.{unless, volume_in}
use Rattle.vx_sound.specs.Standing.{IsStanding}
use Rattle.vx_sound.proofs.Commits.{Ends, commit_done, commit_stopped}
use Rattle.vx_sound.proofs.Logs.{own_ready, own_unnamed}
use Rattle.vx_sound.proofs.Private.{front_itself}
use Rattle.vx_sound.proofs.Running.{rested, standing_run, still}
use Rattle.vx_sound.proofs.Volumes.{lone_plexes, standing_goes}

-- ---- what the tests let through

pub plex_found : (name : Word) (ps : List Plex) (p : Plex) → plex_in name ps ≡ Some p → IsIn ps p × (bytes_eq p.name name ≡ true)
plex_found name [] p e = absurd cc
plex_found name (q ∷ qs) p e = by (plex_found name qs p) (bytes_eq q.name name) refl e
  where
    by : (plex_in name qs ≡ Some p → IsIn qs p × (bytes_eq p.name name ≡ true)) → (b : Bool) → bytes_eq q.name name ≡ b → (if b then Some q else plex_in name qs) ≡ Some p → IsIn (q ∷ qs) p × (bytes_eq p.name name ≡ true)
    by on true is e = let same : p ≡ q = cc in (inl same, subst (λ (x : Plex). bytes_eq x.name name ≡ true) (sym same) is)
    by on false is e = let r = on e in (inr r.0, r.1)

passed : (b : Bool) (r : Refusal) → unless b r ≡ None → b ≡ true
passed true r e = refl
passed false r e = cc

-- the volume of a plex that may go out of use runs, and the plex is in use
pub detach_tested : (runs : Word → Bool) (c : Config) (name : Word) (v : Vol) (p : Plex) → MayDetach runs c name v p → (runs v.name ≡ true) × (is_data p.kind ≡ true) × (is_in_use p.state ≡ true)
detach_tested runs c name v p may = by (runs v.name) (subst (λ (o : Option Word). detach_refusal_of runs p o ≡ None) may.own (subst (λ (o : Option Plex). found_to_detach runs name o ≡ None) may.found may.fits))
  where
    by : (b : Bool) → (if b then unless (is_data p.kind && is_in_use p.state) (refusal.PlexState p.state) else Some (refusal.NotStarted v.name)) ≡ None → (b ≡ true) × (is_data p.kind ≡ true) × (is_in_use p.state ≡ true)
    by true e = let both = and_parts (is_data p.kind) (is_in_use p.state) (passed (is_data p.kind && is_in_use p.state) (refusal.PlexState p.state) e) in (refl, both.0, both.1)
    by false e = cc

-- a plex that may be put into use is a data plex of the volume, which runs, and is held
pub attach_tested : (runs : Bool) (c : Config) (good : ℕ) (vol name : Word) (v : Vol) (p : Plex) → MayAttach runs c good vol name v p →
    (runs ≡ true) × (is_data_plex_of vol p ≡ true) × (may_be_used p.state ≡ true) × (is_held c good p ≡ true)
attach_tested runs c good vol name v p may =
    let there : is_some (volume_in vol c.volumes) ≡ true = ap (λ (o : Option Vol). is_some o) may.volume in
    by runs (subst (λ (o : Option Plex). found_to_attach runs c good vol name o ≡ None) may.found (past (is_some (volume_in vol c.volumes)) there may.fits))
  where
    past : (b : Bool) → b ≡ true → (if b then found_to_attach runs c good vol name (plex_in name c.plexes) else Some (refusal.NoObject vol)) ≡ None → found_to_attach runs c good vol name (plex_in name c.plexes) ≡ None
    past true is e = e
    past false is e = cc

    by : (b : Bool) → (if b then unless (is_attachable c good vol p) (refusal.PlexState p.state) else Some (refusal.NotStarted vol)) ≡ None →
        (b ≡ true) × (is_data_plex_of vol p ≡ true) × (may_be_used p.state ≡ true) × (is_held c good p ≡ true)
    by true e =
        let parts = and_parts (is_data_plex_of vol p) (may_be_used p.state && is_held c good p) (passed (is_attachable c good vol p) (refusal.PlexState p.state) e) in
        let more = and_parts (may_be_used p.state) (is_held c good p) parts.1 in
        (refl, parts.0, more.0, more.1)
    by false e = cc

-- ---- the edit is of the volume alone

pub state_own : (c : Config) (vol : Word) (p : Plex) (next : PlexState) → IsIn c.plexes p → refers p.vol vol ≡ true → AreEditsOf c vol (state_edits vol p next)
state_own c vol p next there own = ((refl, own_name c vol p there own), tt)

pub detach_own : (runs : Word → Bool) (c : Config) (name : Word) (v : Vol) (p : Plex) → MayDetach runs c name v p → AreEditsOf c v.name (state_edits v.name p plex_state.Stale)
detach_own runs c name v p may = state_own c v.name p plex_state.Stale (plex_found name c.plexes p may.found).0 (ap (λ (o : Option Word). refers o v.name) may.own ∙ bytes_eq_self v.name)

pub attach_own : (runs : Bool) (c : Config) (good : ℕ) (vol name : Word) (v : Vol) (p : Plex) → MayAttach runs c good vol name v p → AreEditsOf c v.name (state_edits v.name p plex_state.Active)
attach_own runs c good vol name v p may =
    let mine = (and_parts (refers p.vol vol) (is_data p.kind) (attach_tested runs c good vol name v p may).1).0 in
    let same : v.name ≡ vol = bytes_eq_same v.name vol (found_there vol c.volumes v may.volume).1 in
    state_own c v.name p plex_state.Active (plex_found name c.plexes p may.found).0 (subst (λ n. refers p.vol n ≡ true) (sym same) mine)

module _ (old : Moment) (s : IsStanding old.world) where
  -- ---- out of use

  pub detach_rested : (name : Word) (mid : Moment) → IsRestedFor name old mid → IsStanding mid.world
  detach_rested name mid r = rested r.volume.name old s mid r.rest

  pub detach_group : (name : Word) (mid : Moment) (r : IsRestedFor name old mid) → mid.world.group ≡ Some r.group
  detach_group name mid r = ap (λ (w : World). w.group) r.rest.goes.world ∙ r.here

  pub detach_done : (name : Word) (new : Moment) → IsDetached name old new → IsStanding new.world
  detach_done name new d =
      let r = d.rested in
      let stands = detach_rested name d.mid r in
      let here = detach_group name d.mid r in
      let edits = state_edits r.volume.name r.plex plex_state.Stale in
      let of = detach_own (runs_on_plexes old.world) r.group.config name r.volume r.plex r.may in
      commit_done d.writing d.mid new stands (own_ready d.mid.world d.writing stands r.group here r.volume.name edits of d.change) (own_unnamed d.mid.world d.writing stands r.group here r.volume.name edits of d.change) d.committed

  module _ (end : End) (new : Moment) where
    detach_in : (name : Word) (g : Group) → DetachStopsIn g name old end new → Ends end new.world
    detach_in name g (inl (why, rests)) = still old end new s rests.stays.world
    detach_in name g (inr (inl u)) = inl (rested u.volume.name old s new u.stops.rest)
    detach_in name g (inr (inr (inl n))) = inl (detach_rested name new n.rested)
    detach_in name g (inr (inr (inr c))) =
        let r = c.rested in
        let stands = detach_rested name c.mid r in
        let of = detach_own (runs_on_plexes old.world) r.group.config name r.volume r.plex r.may in
        commit_stopped c.stops.0 c.mid end new stands (own_ready c.mid.world c.stops.0 stands r.group (detach_group name c.mid r) r.volume.name (state_edits r.volume.name r.plex plex_state.Stale) of c.stops.1) c.stops.2

    detach_by : (name : Word) (o : Option Group) → MatchOption o (EndsIn (refusal.NoGroup None) old end new) (λ g. DetachStopsIn g name old end new) → Ends end new.world
    detach_by name None ends = still old end new s ends.1.stays.world
    detach_by name (Some g) stops = detach_in name g stops

    pub detach_ends : (name : Word) → DetachStops name old end new → Ends end new.world
    detach_ends name stops = detach_by name old.world.group stops

  pub detach_wants : (name : Word) (new : Moment) → DetachWants name old new → IsStanding new.world
  detach_wants name new (inl same) = subst IsStanding (sym same) s
  detach_wants name new (inr r) = detach_rested name new r

-- ---- into use

-- copying leaves the volume where it lies
module _ (now : Group) (v : Vol) (plex : Word) (plexes : List Word) (failed : Word → Bool) (old new : Counts) (run later : Volume) where
  attach_copies : (end : End) → AttachCopiesTo now v plex plexes failed old new end run later → later.lies ≡ run.lies
  attach_copies (ends.Done copied parts blocks) (inl is) = ap (λ (x : Volume). x.lies) is
  attach_copies (ends.Done copied parts blocks) (inr (log, is)) = ap (λ (x : Volume). x.lies) is
  attach_copies (ends.Fault told device parts) is = ap (λ (x : Volume). x.lies) is
  attach_copies (ends.Lost parts) is = ap (λ (x : Volume). x.lies) is
  attach_copies (ends.Refused r) is = ap (λ (x : Volume). x.lies) is
  attach_copies ends.ShelfFailed is = ap (λ (x : Volume). x.lies) is
  attach_copies ends.GroupLost is = ap (λ (x : Volume). x.lies) is

module _ (old : Moment) (s : IsStanding old.world) (vol name : Word) (g : Group) (here : old.world.group ≡ Some g) where
  pub attach_recorded : (m : Moment) (b : IsAttachedBy g vol name old m) → IsStanding b.recorded.world
  attach_recorded m b =
      let edits = state_edits b.volume.name b.plex plex_state.Active in
      let of = attach_own (runs_on_plexes old.world vol) g.config g.good vol name b.volume b.plex b.may in
      commit_done b.writing old b.recorded s (own_ready old.world b.writing s g here b.volume.name edits of b.change) (own_unnamed old.world b.writing s g here b.volume.name edits of b.change) b.committed

  -- the volume writes to it
  pub attached_stands : (m : Moment) → IsAttachedBy g vol name old m → IsStanding m.world
  attached_stands m b =
      let run = volume_unsure name b.goes.volume in
      subst IsStanding (sym b.goes.world)
      (standing_goes vol b.recorded.world.devices (Some run) b.recorded.world (ap lone b.goes.was ∙ lone_plexes b.goes.volume b.goes.plexes b.goes.lies) (lone_plexes run b.goes.plexes b.goes.lies) (λ other. front_itself (b.recorded.world.devices other)) (attach_recorded m b))

  pub attach_after : (v : Vol) (before : Volume) (m : Moment) (end : End) (new : Moment) → IsAttachedBy g vol name old m → IsAttachCopied v name before m end new → IsStanding new.world
  attach_after v before m end new b c =
      standing_run c.group v.name c.later c.plexes m new
      (attach_copies c.group v name c.plexes c.failed m.counts new.counts c.volume c.later end c.becomes ∙ c.lies)
      (ap lone c.was ∙ lone_plexes c.volume c.plexes c.lies) c.goes (attached_stands m b)

  attach_in : (end : End) (new : Moment) → AttachStopsIn g vol name old end new → Ends end new.world
  attach_in end new (inl (why, rests)) = still old end new s rests.stays.world
  attach_in end new (inr (inl c)) =
      let of = attach_own (runs_on_plexes old.world vol) g.config g.good vol name c.volume c.plex c.may in
      commit_stopped c.stops.0 old end new s (own_ready old.world c.stops.0 s g here c.volume.name (state_edits c.volume.name c.plex plex_state.Active) of c.stops.1) c.stops.2
  attach_in end new (inr (inr a)) = inl (attach_after a.is.volume a.is.goes.volume a.attached end new a.is a.copied)

module _ (old : Moment) (s : IsStanding old.world) (vol name : Word) (end : End) (new : Moment) where
  attach_by : (o : Option Group) → old.world.group ≡ o → MatchOption o (EndsIn (refusal.NoGroup None) old end new) (λ g. AttachStopsIn g vol name old end new) → Ends end new.world
  attach_by None here ends = still old end new s ends.1.stays.world
  attach_by (Some g) here stops = attach_in old s vol name g here end new stops

  pub attach_ends : AttachStops vol name old end new → Ends end new.world
  attach_ends stops = attach_by old.world.group refl stops
