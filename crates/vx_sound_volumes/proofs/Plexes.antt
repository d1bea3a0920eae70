-- A running volume of which a plex goes out of use or into use.
use Rattle.std.proofs.Common.{◌≡◌, ◌∙◌, ℕ, true, List, Bool, Option, Some, None, MatchOption, refl, sym, ap, subst, inl, inr}
use Rattle.vx_base.specs.Named.{Word}
use Rattle.vx_base.proofs.NamedLemmas.{put_same}
use Rattle.vx_life.specs.Life.{Life}
use Rattle.vx_config_parts.specs.declared.state.PlexState.TheVariants as plex_state
use Rattle.vx_config_parts.specs.declared.vol.Vol.{Vol}
use Rattle.vx_answers.specs.declared.answer.End.{End}
use Rattle.vx_answers.specs.declared.answer.End.TheVariants as ends
use Rattle.vx_answers.specs.declared.refusal.Refusal.TheVariants as refusal
use Rattle.vx_moments.specs.Leaving.{grouped}
use Rattle.vx_moments.specs.Moment.{Counts, Moment}
use Rattle.vx_moments.specs.World.{Group, Volume, World}
use Rattle.vx_stages.specs.Attached.{AttachCopiesTo, AttachStops, AttachStopsIn, IsAttachCopied, IsAttachedBy, volume_unsure}
use Rattle.vx_stages.specs.Detached.{DetachStops, DetachStopsIn, DetachWants, IsDetached, IsRestedFor}
use Rattle.vx_stages.specs.Ends.{EndsIn}
use Rattle.vx_stages.specs.GroupCalls.{comes_next}
use Rattle.vx_stages.specs.Plexes.{state_edits}
use Rattle.vx_stages.specs.Stopping.{rested_volume, runs_on_plexes}
use Rattle.vx_sound.proofs.Plexes.{attach_own, detach_own}
use Rattle.vx_sound_volumes.proofs.Changes.{change_stops}
use Rattle.vx_sound_volumes.proofs.Logs.{others_kept, own_edits}
use Rattle.vx_sound_volumes.proofs.Parts.{Besides, Every, Keeps, grouped_runs, not_none, put_run}
use Rattle.vx_sound_volumes.proofs.Running.{IsSameRun, found_there, goes_kept, one_more, rested, same_run}

-- a volume that runs needs not be sound by its bytes
pub runs_too : (place : ℕ) (w : World) (vol : Word) (run : Volume) → grouped (w.volumes vol) ≡ Some run → Keeps place (Besides vol) w → Keeps place Every w
runs_too place w vol run is k = one_more place w vol (λ g here v there same started idle. not_none run (sym idle ∙ subst (λ n. grouped (w.volumes n) ≡ Some run) (sym same) is)) k

module _ (place : ℕ) (old : Moment) (k : Keeps place Every old.world) where
  -- ---- out of use

  rested_for : (plex : Word) (mid : Moment) → IsRestedFor plex old mid → Keeps place Every mid.world
  rested_for plex mid r = rested place r.volume.name old k mid r.rest

  pub detach_done : (plex : Word) (new : Moment) → IsDetached plex old new → Keeps place Every new.world
  detach_done plex new d =
      let r = d.rested in
      let name = r.volume.name in
      let run = rested_volume r.rest in
      let kept = rested_for plex d.mid r in
      let here : d.mid.world.group ≡ Some r.group = ap (λ (w : World). w.group) r.rest.goes.world ∙ r.here in
      let edits = state_edits name r.plex plex_state.Stale in
      let mine = own_edits place old k d.mid.world r.group here name edits (detach_own (runs_on_plexes old.world) r.group.config plex r.volume r.plex r.may) d.writing d.change in
      let others = others_kept place old k name edits d.writing d.mid d.change mine kept new d.committed in
      let same : new.world.volumes name ≡ Some run =
      ap (λ (f : Word → Option Volume). f name) (d.committed.committing.volumes ∙ ap (λ (w : World). w.volumes) r.rest.goes.world) ∙ put_same name (Some run) old.world.volumes in
      runs_too place new.world name run (ap grouped same ∙ grouped_runs run r.rest.plexes r.rest.lies) others

  module _ (end : End) (new : Moment) where
    detach_in : (plex : Word) (g : Group) → DetachStopsIn g plex old end new → Keeps place Every new.world
    detach_in plex g (inl (why, rests)) = subst (Keeps place Every) (sym rests.stays.world) k
    detach_in plex g (inr (inl u)) = rested place u.volume.name old k new u.stops.rest
    detach_in plex g (inr (inr (inl n))) = rested_for plex new n.rested
    detach_in plex g (inr (inr (inr c))) =
        change_stops place Every (state_edits c.rested.volume.name c.rested.plex plex_state.Stale) c.stops.0 c.mid c.stops.1 (rested_for plex c.mid c.rested) end new c.stops.2

    detach_by : (plex : Word) (o : Option Group) → MatchOption o (EndsIn (refusal.NoGroup None) old end new) (λ g. DetachStopsIn g plex old end new) → Keeps place Every new.world
    detach_by plex None ends = subst (Keeps place Every) (sym ends.1.stays.world) k
    detach_by plex (Some g) stops = detach_in plex g stops

    pub detach_ends : (plex : Word) → DetachStops plex old end new → Keeps place Every new.world
    detach_ends plex stops = detach_by plex old.world.group stops

  pub detach_wants : (plex : Word) (new : Moment) → DetachWants plex old new → Keeps place Every new.world
  detach_wants plex new (inl same) = subst (Keeps place Every) (sym same) k
  detach_wants plex new (inr r) = rested_for plex new r

-- ---- into use

-- what copying to the plex leaves of the volume
module _ (now : Group) (v : Vol) (plex : Word) (plexes : List Word) (failed : Word → Bool) (old new : Counts) (run later : Volume) where
  copies : (end : End) → AttachCopiesTo now v plex plexes failed old new end run later → IsSameRun run later
  copies (ends.Done copied parts blocks) (inl is) = same_run run later _ is (record { lies = refl; sound = refl; life = refl })
  copies (ends.Done copied parts blocks) (inr (log, is)) = same_run run later _ is (record { lies = refl; sound = refl; life = refl })
  copies (ends.Fault told device parts) is = same_run run later _ is (record { lies = refl; sound = refl; life = refl })
  copies (ends.Lost parts) is = same_run run later _ is (record { lies = refl; sound = refl; life = refl })
  copies (ends.Refused r) is = same_run run later _ is (record { lies = refl; sound = refl; life = refl })
  copies ends.ShelfFailed is = same_run run later _ is (record { lies = refl; sound = refl; life = refl })
  copies ends.GroupLost is = same_run run later _ is (record { lies = refl; sound = refl; life = refl })

module _ (place : ℕ) (old : Moment) (k : Keeps place Every old.world) (vol plex : Word) where
  module _ (g : Group) (here : old.world.group ≡ Some g) where
    -- its state is committed
    recorded_kept : (m : Moment) (b : IsAttachedBy g vol plex old m) → Keeps place (Besides vol) b.recorded.world
    recorded_kept m b =
        let edits = state_edits b.volume.name b.plex plex_state.Active in
        let mine = own_edits place old k old.world g here b.volume.name edits (attach_own (runs_on_plexes old.world vol) g.config g.good vol plex b.volume b.plex b.may) b.writing b.change in
        subst (λ name. Keeps place (Besides name) b.recorded.world) (found_there vol g.config.volumes b.volume b.may.volume).1
        (others_kept place old k b.volume.name edits b.writing old b.change mine k b.recorded b.committed)

    -- the volume writes to it
    attached_kept : (m : Moment) → IsAttachedBy g vol plex old m → Keeps place Every m.world
    attached_kept m b =
        let j = b.goes in
        let recorded = recorded_kept m b in
        let was = recorded.running vol j.volume (ap grouped j.was ∙ grouped_runs j.volume j.plexes j.lies) in
        subst (Keeps place Every) (sym j.world) (put_run place b.recorded.world vol (volume_unsure plex j.volume) j.plexes j.lies was.0 was.1 recorded)

    copied_kept : (v : Vol) (before : Volume) (m : Moment) (end : End) (new : Moment) → IsAttachedBy g vol plex old m → IsAttachCopied v plex before m end new → Keeps place Every new.world
    copied_kept v before m end new b c =
        let attached = attached_kept m b in
        let was = attached.running v.name c.volume (ap grouped c.was ∙ grouped_runs c.volume c.plexes c.lies) in
        let s = copies c.group v plex c.plexes c.failed m.counts new.counts c.volume c.later end c.becomes in
        goes_kept place m attached c.group v.name c.later c.plexes new c.here (s.lies ∙ c.lies) (s.sound ∙ was.0) (subst (λ (l : Life). comes_next place l ≡ true) (sym s.life) was.1) c.goes

    attach_in : (end : End) (new : Moment) → AttachStopsIn g vol plex old end new → Keeps place Every new.world
    attach_in end new (inl (why, rests)) = subst (Keeps place Every) (sym rests.stays.world) k
    attach_in end new (inr (inl c)) = change_stops place Every (state_edits c.volume.name c.plex plex_state.Active) c.stops.0 old c.stops.1 k end new c.stops.2
    attach_in end new (inr (inr a)) = copied_kept a.is.volume a.is.goes.volume a.attached end new a.is a.copied

  attach_by : (o : Option Group) → old.world.group ≡ o → (end : End) (new : Moment) → MatchOption o (EndsIn (refusal.NoGroup None) old end new) (λ g. AttachStopsIn g vol plex old end new) → Keeps place Every new.world
  attach_by None here end new ends = subst (Keeps place Every) (sym ends.1.stays.world) k
  attach_by (Some g) here end new stops = attach_in g here end new stops

  pub attach_ends : (end : End) (new : Moment) → AttachStops vol plex old end new → Keeps place Every new.world
  attach_ends end new stops = attach_by old.world.group refl end new stops
