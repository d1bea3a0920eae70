-- Where nothing failed and the power stayed, a plan is done, or a test has refused it.
use Rattle.std.proofs.Common.{◌≡◌, ◌≢◌, ℕ, MatchOption, MatchBool, Bool, true, false, List, [], ◌∷◌, ◌++◌, Option, Some, None, refl, sym, ap, subst, inl, inr}
use Rattle.vx_base.specs.Named.{Word}
use Rattle.vx_script_forms.specs.declared.act.Act.{Act}
use Rattle.vx_script_forms.specs.declared.act.Act.TheVariants as act
use Rattle.vx_script_forms.specs.declared.form.Form.{Form}
use Rattle.vx_script_forms.specs.declared.form.Form.TheVariants as form
use Rattle.vx_script_forms.specs.declared.form.WordPolicy.{WordPolicy}
use Rattle.vx_script_forms.specs.declared.form.WordPolicy.TheVariants as words
use Rattle.vx_script_words.specs.declared.value.DiskAt.{DiskAt}
use Rattle.vx_answers.specs.declared.answer.End.{End}
use Rattle.vx_answers.specs.declared.answer.End.TheVariants as ends
use Rattle.vx_answers.specs.declared.refusal.Refusal.{Refusal}
use Rattle.vx_answers.specs.declared.refusal.Refusal.TheVariants as refusal
use Rattle.vx_config_parts.specs.declared.plex.Plex.{Plex}
use Rattle.vx_config_parts.specs.declared.state.PlexState.TheVariants as plex_state
use Rattle.vx_config_parts.specs.declared.vol.Vol.{Vol}
use Rattle.vx_objects.specs.declared.config.Config.{Config}
use Rattle.vx_objects.specs.declared.edit.Edit.{Edit}
use Rattle.vx_new_volumes.specs.declared.logs.NewLogs.{NewLogs}
use Rattle.vx_state_edits.specs.Edits.{is_new}
use Rattle.vx_copies.specs.Lists.{AnyOf}
use Rattle.vx_life.specs.declared.Part.{Part}
use Rattle.vx_mask.specs.Mask.{has}
use Rattle.vx_answers.specs.declared.answer.View.{View}
use Rattle.vx_moments.specs.Commit.{Writing, IsStopped, is_written_slot, parties}
use Rattle.vx_moments.specs.Moment.{Moment, AreLater, Counts, HasFailed}
use Rattle.vx_moments.specs.World.{Group, Member, Volume, World}
use Rattle.vx_stages.specs.Attached.{AttachEnds, AttachStopsIn, IsAttachedBy}
use Rattle.vx_stages.specs.Detached.{DetachStopsIn}
use Rattle.vx_stages.specs.Ends.{EndsIn}
use Rattle.vx_stages.specs.Leaving.{ByLog, ByRecord, FromLog, FromRest, IsLeavingRefused, Way, leaving_edits, way_of}
use Rattle.vx_stages.specs.Left.{IsReadied, LeavingStopsIn, LeavingStopsOf, StopsUnreadied, UnaskedBy, VolumeStops}
use Rattle.vx_stages.specs.Logged.{IsLogWritten, PrepareStopsIn, UnprepareStopsIn, by_config}
use Rattle.vx_stages.specs.Logging.{AreEditsRefused, IsPrepareRefused, IsUnprepareRefused}
use Rattle.vx_stages.specs.Mirrored.{IsMirroredBy, MirrorEnds, MirrorStopsIn}
use Rattle.vx_stages.specs.Mirroring.{IsMirrorRefused}
use Rattle.vx_plans.specs.Laws.{WentWell, IsDoneOrRefused, HasCarriers}
use Rattle.vx_plans.specs.Plans.{disks_of, ending, plan_of, plan_of_act, plan_print}
use Rattle.vx_stages.specs.Plexes.{IsAttachRefused, IsDetachRefused, state_edits}
use Rattle.vx_stages.specs.Records.{devices_of}
use Rattle.vx_stages.specs.Stages.{IsDone, Stops, DeviceEnds, FailsAt, TakingStops, LookingStops}
use Rattle.vx_stages.specs.Starting.{CopyEnds, IsStartedBy, StopsIn, StopsOf, may_start}
use Rattle.vx_plans.specs.Steps.{Runs}
use Rattle.vx_stages.specs.Stopping.{StopStops, runs_on_plexes}
use Rattle.vx_stages.specs.Tests.{is_data, volume_in}
use Rattle.vx_stages.specs.Touching.{PassHasCause}
use Rattle.vx_plans.specs.declared.stages.Finish.{Finish}
use Rattle.vx_plans.specs.declared.stages.Finish.TheVariants.{Hierarchy, Records}
use Rattle.vx_plans.specs.declared.stages.Plan.{Plan}
use Rattle.vx_stages.specs.declared.stage.Source.{Source}
use Rattle.vx_stages.specs.declared.stage.Stage.{Stage}
use Rattle.vx_stages.specs.declared.stage.Stage.TheVariants as stage
use Rattle.vx_plans.proofs.Calm.{any_front, calm, shelf_calm, powered, none_of, nowhere, later_self, later_on, well_after}
use Rattle.vx_plans.proofs.Carriers.{HasCarrier, IsAlive, NamesSlots, by_group, by_words, by_devices}

tells : (copied : Option ℕ) (parts : List Part) (blocks : List ℕ) → parts ≡ [] → blocks ≡ [] → ends.Done copied parts blocks ≡ ends.Done copied [] []
tells copied parts blocks none bare = cc

-- there is a disk to be written at this stage
abbrev IsCarried : Stage → List DiskAt → World → Type 0
IsCarried (stage.Create dg) disks w = disks ≢ []
IsCarried (stage.Import dg) disks w = NamesSlots w
IsCarried (stage.Change change) disks w = IsAlive w
IsCarried (stage.Make from) disks w = IsAlive w
IsCarried stage.Join disks w = IsAlive w
IsCarried (stage.Start vol) disks w = IsAlive w
IsCarried (stage.Mirror mirror) disks w = IsAlive w
IsCarried (stage.Prepare logs) disks w = IsAlive w
IsCarried (stage.Unprepare vol) disks w = IsAlive w
IsCarried (stage.Detach plex) disks w = IsAlive w
IsCarried (stage.Attach vol plex) disks w = IsAlive w
IsCarried (stage.Dissociate plex remove) disks w = IsAlive w
IsCarried (stage.Stop vol) disks w = IsAlive w
IsCarried other disks w = Unit {0}

module _ (old new : Moment) (well : WentWell old new) where
  at_device : (name : Word) (end : End) → FailsAt name old end new → IsDoneOrRefused end
  at_device name end (inl (is, inl failed)) = absurd (calm old new well name failed)
  at_device name end (inl (is, inr failed)) = absurd (shelf_calm old new well failed)
  at_device name end (inr (is, cut)) = absurd (powered old new well name cut)

  at_hand : (name : Word) (end : End) → DeviceEnds name old end new → IsDoneOrRefused end
  at_hand name end (inl (is, failed)) = absurd (calm old new well name failed)
  at_hand name end (inr (is, cut)) = absurd (powered old new well name cut)

  taking : (taken names : List Word) (end : End) → TakingStops taken names old end new → IsDoneOrRefused end
  taking taken [] end stops = absurd stops
  taking taken (name ∷ names) end (inl (inl (r, away, ends))) = inr (r, ends.0)
  taking taken (name ∷ names) end (inl (inr fails)) = absurd (shelf_calm old new well fails.3)
  taking taken (name ∷ names) end (inr more) = taking (taken ++ name ∷ []) names end more.1

  looking : (names : List Word) (end : End) → LookingStops names old end new → IsDoneOrRefused end
  looking [] end stops = absurd stops
  looking (name ∷ names) end (inl (inl headed)) = inr (_, headed.1)
  looking (name ∷ names) end (inl (inr fails)) = at_hand name end fails
  looking (name ∷ names) end (inr more) = looking names end more.1

  stopping : (x : Writing) (end : End) → HasCarrier x → IsStopped x old end new → IsDoneOrRefused end
  stopping x end some stopped = elim stopped.ends [
    | inl l ↦ absurd (none_of (λ m. is_written_slot x m.slot ≡ true → HasFailed old.counts new.counts m.device) (λ m. is_written_slot x m.slot ≡ true) x.carriers (λ m fails is. calm old new well m.device (fails is)) l.1 some)
    | inr r ↦ absurd (nowhere (λ m. new.counts.cut m.device ≡ true) (parties x) (λ m gone. powered old new well m.device gone) r.1)
  ]

  -- no pass over a volume had a cause to end
  passing : (g : Group) (vol : Word) (end : End) → PassHasCause g vol old.counts new.counts end → ⊥
  passing g vol (ends.Fault told device parts) (none, fails) = calm old new well device fails.failed
  passing g vol (ends.Lost parts) (none, (device, own, cut)) = powered old new well device cut
  passing g vol (ends.Done copied parts blocks) cause = cause
  passing g vol (ends.Refused r) cause = cause
  passing g vol ends.ShelfFailed cause = cause
  passing g vol ends.GroupLost cause = cause

  copying : (g now : Group) (v : Vol) (end : End) → CopyEnds g now v old.counts new.counts end → IsDoneOrRefused end
  copying g now v (ends.Done copied parts blocks) (count, none, bare) = inl (copied, tells copied parts blocks none bare)
  copying g now v (ends.Fault told device parts) cause = absurd (passing now v.name (ends.Fault told device parts) cause)
  copying g now v (ends.Lost parts) cause = absurd (passing now v.name (ends.Lost parts) cause)
  copying g now v (ends.Refused r) cause = absurd cause
  copying g now v ends.ShelfFailed cause = absurd cause
  copying g now v ends.GroupLost cause = absurd cause

  copying_mirror : (now : Group) (v : Vol) (end : End) → MirrorEnds now v old.counts new.counts end → IsDoneOrRefused end
  copying_mirror now v (ends.Done copied parts blocks) (count, none, bare) = inl (copied, tells copied parts blocks none bare)
  copying_mirror now v (ends.Fault told device parts) cause = absurd (passing now v.name (ends.Fault told device parts) cause)
  copying_mirror now v (ends.Lost parts) cause = absurd (passing now v.name (ends.Lost parts) cause)
  copying_mirror now v (ends.Refused r) cause = absurd cause
  copying_mirror now v ends.ShelfFailed cause = absurd cause
  copying_mirror now v ends.GroupLost cause = absurd cause

  copying_attach : (now : Group) (vol : Word) (before : Volume) (plex : Word) (end : End) → AttachEnds now vol before plex old.counts new.counts end → IsDoneOrRefused end
  copying_attach now vol before plex (ends.Done copied parts blocks) (count, none, bare) = inl (copied, tells copied parts blocks none bare)
  copying_attach now vol before plex (ends.Fault told device parts) cause = absurd (passing now vol (ends.Fault told device parts) cause)
  copying_attach now vol before plex (ends.Lost parts) cause = absurd (passing now vol (ends.Lost parts) cause)
  copying_attach now vol before plex (ends.Refused r) cause = absurd cause
  copying_attach now vol before plex ends.ShelfFailed cause = absurd cause
  copying_attach now vol before plex ends.GroupLost cause = absurd cause

-- a mirror that is refused ends by a refusal
pub refused_mirror : (runs : Bool) (g : Group) (name : Word) (named : List Word) (end : End) → IsMirrorRefused runs g name named end → (r : Refusal) × (end ≡ ends.Refused r)
refused_mirror runs g name named end (inl (r, unfit, is)) = (r, is)
refused_mirror runs g name named end (inr (v, found, fits, inl (r, unlaid, is))) = (r, is)
refused_mirror runs g name named end (inr (v, found, fits, inr (m, added, laid, inl (r, broken, is)))) = (r, is)
refused_mirror runs g name named end (inr (v, found, fits, inr (m, added, laid, inr (next, edited, (text, printed, long, is))))) = (_, is)

-- edits that are refused end the command by a refusal
edits_refused : (c : Config) (edits : List Edit) (end : End) → AreEditsRefused c edits end → (r : Refusal) × (end ≡ ends.Refused r)
edits_refused c edits end (inl (r, broken, is)) = (r, is)
edits_refused c edits end (inr (next, edited, (text, printed, long, is))) = (_, is)

-- so does what refuses logs that are to come, ..
pub refused_prepare : (runs : Bool) (g : Group) (n : NewLogs) (end : End) → IsPrepareRefused runs g n end → (r : Refusal) × (end ≡ ends.Refused r)
refused_prepare runs g n end (inl (r, unfit, is)) = (r, is)
refused_prepare runs g n end (inr (v, found, fits, inl (r, unlaid, is))) = (r, is)
refused_prepare runs g n end (inr (v, found, fits, inr (plex, added, edits, laid, why))) = edits_refused g.config edits end why

-- .. or to go
pub refused_unprepare : (g : Group) (name : Word) (end : End) → IsUnprepareRefused g name end → (r : Refusal) × (end ≡ ends.Refused r)
refused_unprepare g name end (inl (r, unfit, is)) = (r, is)
refused_unprepare g name end (inr (v, plex, edits, loses, why)) = edits_refused g.config edits end why

-- .. and what refuses a plex that is to go out of use, ..
pub refused_detach : (runs : Word → Bool) (g : Group) (name : Word) (end : End) → IsDetachRefused runs g name end → (r : Refusal) × (end ≡ ends.Refused r)
refused_detach runs g name end (inl (r, unfit, is)) = (r, is)
refused_detach runs g name end (inr (v, p, may, why)) = edits_refused g.config (state_edits v.name p plex_state.Stale) end why

-- .. or into use
pub refused_attach : (runs : Bool) (g : Group) (vol name : Word) (end : End) → IsAttachRefused runs g vol name end → (r : Refusal) × (end ≡ ends.Refused r)
refused_attach runs g vol name end (inl (r, unfit, is)) = (r, is)
refused_attach runs g vol name end (inr (v, p, may, why)) = edits_refused g.config (state_edits v.name p plex_state.Active) end why

-- .. and what refuses a plex that is to leave its volume
pub refused_leaving : (runs : Word → Bool) (g : Group) (remove : Bool) (name : Word) (end : End) → IsLeavingRefused runs g remove name end → (r : Refusal) × (end ≡ ends.Refused r)
refused_leaving runs g remove name end (inl (r, unfit, is)) = (r, is)
refused_leaving runs g remove name end (inr (p, may, why)) = edits_refused g.config (leaving_edits remove p) end why

-- what is done before a plex leaves is later, and of the same group
readied_later : (way : Way) (g : Group) (v : Vol) (old mid : Moment) → IsReadied way g v old mid → AreLater old.counts mid.counts
readied_later ByRecord g v old mid same = subst (λ (m : Moment). AreLater old.counts m.counts) (sym same) (later_self old.counts)
readied_later FromLog g v old mid same = subst (λ (m : Moment). AreLater old.counts m.counts) (sym same) (later_self old.counts)
readied_later FromRest g v old mid rest = rest.later
readied_later ByLog g v old mid asked = asked.later

readied_group : (way : Way) (g : Group) (v : Vol) (old mid : Moment) → IsReadied way g v old mid → mid.world.group ≡ old.world.group
readied_group ByRecord g v old mid same = ap (λ (m : Moment). m.world.group) same
readied_group FromLog g v old mid same = ap (λ (m : Moment). m.world.group) same
readied_group FromRest g v old mid rest = ap (λ (w : World). w.group) rest.goes.world
readied_group ByLog g v old mid asked = ap (λ (w : World). w.group) asked.touched.world

-- a group that has a good disk has it still
alive_still : (old new : World) → new.group ≡ old.group → IsAlive old → IsAlive new
alive_still old new same alive = subst (λ (o : Option Group). MatchOption o (Unit {0}) (λ g. AnyOf (λ m. has g.good m.slot ≡ true) g.members)) (sym same) alive

module _ (old new : Moment) (well : WentWell old new) (alive : IsAlive old.world) where
  begun_later : (g : Group) (v : Vol) (begun : Moment) → IsStartedBy g v old begun → AreLater old.counts begun.counts
  begun_later g v begun s = subst (λ (c : Counts). AreLater old.counts c) (sym s.begins.counts) (later_on old.counts s.opened.counts s.recorded.counts s.first s.rest)

  starts_of : (g : Group) (v : Vol) (end : End) → StopsOf g v old end new → IsDoneOrRefused end
  starts_of g v end (inl (inl (r, e, is), rests)) = inr (r, is)
  starts_of g v end (inl (inr (none, next, edited, (text, printed, long, is)), rests)) = inr (_, is)
  starts_of g v end (inr (inl stops)) = elim stops.cause [
    | inl unread ↦ inr (_, unread.0)
    | inr (inl (r, is, filled, missed)) ↦ inr (_, is)
    | inr (inr (inl (told, device, is, fails))) ↦ absurd (calm old new well device fails.failed)
    | inr (inr (inr (is, (device, own, cut)))) ↦ absurd (powered old new well device cut)
  ]
  starts_of g v end (inr (inr (inl c))) =
      stopping c.opened new (well_after old c.opened new c.first c.rest well) c.stops.0 end
      (by_group c.opened.world c.stops.0 c.stops.1.group c.stops.1.carriers (alive_still old.world c.opened.world (ap (λ (w : World). w.group) c.touched.world) alive)) c.stops.2
  starts_of g v end (inr (inr (inr a))) = copying a.begun new (well_after old a.begun new (begun_later g v a.begun a.started) a.rest well) g a.copied.group v end a.copied.ends

  starts_by : (g : Group) (v : Vol) (end : End) (may : Bool) → MatchBool may (StopsOf g v old end new) (EndsIn (refusal.VolState v.state) old end new) → IsDoneOrRefused end
  starts_by g v end false ends = inr (_, ends.0)
  starts_by g v end true stops = starts_of g v end stops

  starts_in : (g : Group) (name : Word) (end : End) (o : Option Vol) → MatchOption o (EndsIn (refusal.NoObject name) old end new) (λ v. MatchBool (may_start v.state) (StopsOf g v old end new) (EndsIn (refusal.VolState v.state) old end new)) → IsDoneOrRefused end
  starts_in g name end None ends = inr (_, ends.0)
  starts_in g name end (Some v) stops = starts_by g v end (may_start v.state) stops

  starts : (name : Word) (end : End) (o : Option Group) → MatchOption o (EndsIn (refusal.NoGroup None) old end new) (λ g. StopsIn g name old end new) → IsDoneOrRefused end
  starts name end None ends = inr (_, ends.0)
  starts name end (Some g) stops = starts_in g name end (volume_in name g.config.volumes) stops

  mirrored_later : (g : Group) (name : Word) (named : List Word) (joined : Moment) → IsMirroredBy g name named old joined → AreLater old.counts joined.counts
  mirrored_later g name named joined s =
      subst (λ (c : Counts). AreLater old.counts c) (sym s.joins.counts) (later_on old.counts s.marked.counts s.recorded.counts s.mark.rest.later s.rest)

  mirrors_in : (g : Group) (name : Word) (named : List Word) (end : End) → MirrorStopsIn g name named old end new → IsDoneOrRefused end
  mirrors_in g name named end (inl (refused, rests)) = inr (refused_mirror (runs_on_plexes old.world name) g name named end refused)
  mirrors_in g name named end (inr (inl u)) = absurd (passing old new well u.stops.rest.group name end u.stops.cause)
  mirrors_in g name named end (inr (inr (inl c))) =
      stopping c.marked new (well_after old c.marked new c.mark.rest.later c.rest well) c.stops.0 end
      (by_group c.marked.world c.stops.0 c.stops.1.group c.stops.1.carriers (alive_still old.world c.marked.world (ap (λ (w : World). w.group) c.mark.rest.goes.world) alive)) c.stops.2
  mirrors_in g name named end (inr (inr (inr a))) =
      copying_mirror a.joined new (well_after old a.joined new (mirrored_later g name named a.joined a.mirrored) a.rest well) a.copied.group a.mirrored.mark.volume end a.copied.ends

  mirrors : (name : Word) (named : List Word) (end : End) (o : Option Group) → MatchOption o (EndsIn (refusal.NoGroup None) old end new) (λ g. MirrorStopsIn g name named old end new) → IsDoneOrRefused end
  mirrors name named end None ends = inr (_, ends.0)
  mirrors name named end (Some g) stops = mirrors_in g name named end stops

  written_later : (g : Group) (next : Config) (v : Vol) (m : Moment) (b : Bool) → MatchBool b (m ≡ old) (IsLogWritten g next v.name old m × AreLater old.counts m.counts) → AreLater old.counts m.counts
  written_later g next v m true same = subst (λ (x : Moment). AreLater old.counts x.counts) (sym same) (later_self old.counts)
  written_later g next v m false writes = writes.1

  written_group : (g : Group) (next : Config) (v : Vol) (m : Moment) (b : Bool) → MatchBool b (m ≡ old) (IsLogWritten g next v.name old m × AreLater old.counts m.counts) → m.world.group ≡ old.world.group
  written_group g next v m true same = ap (λ (x : Moment). x.world.group) same
  written_group g next v m false writes = ap (λ (w : World). w.group) writes.0.log.touched.world

  prepares_in : (g : Group) (n : NewLogs) (end : End) → PrepareStopsIn g n old end new → IsDoneOrRefused end
  prepares_in g n end (inl (refused, rests)) = inr (refused_prepare (runs_on_plexes old.world n.vol) g n end refused)
  prepares_in g n end (inr (inl u)) = absurd (passing old new well (by_config u.next g) n.vol end u.cause)
  prepares_in g n end (inr (inr c)) =
      stopping c.written new (well_after old c.written new (written_later g c.next c.volume c.written (is_new c.volume.state) c.writes) c.rest well) c.stops.0 end
      (by_group c.written.world c.stops.0 c.stops.1.group c.stops.1.carriers
      (alive_still old.world c.written.world (written_group g c.next c.volume c.written (is_new c.volume.state) c.writes) alive)) c.stops.2

  prepares : (n : NewLogs) (end : End) (o : Option Group) → MatchOption o (EndsIn (refusal.NoGroup None) old end new) (λ g. PrepareStopsIn g n old end new) → IsDoneOrRefused end
  prepares n end None ends = inr (_, ends.0)
  prepares n end (Some g) stops = prepares_in g n end stops

  unprepares_in : (g : Group) (name : Word) (end : End) → UnprepareStopsIn g name old end new → IsDoneOrRefused end
  unprepares_in g name end (inl (refused, rests)) = inr (refused_unprepare g name end refused)
  unprepares_in g name end (inr c) = stopping old new well c.stops.0 end (by_group old.world c.stops.0 c.stops.1.group c.stops.1.carriers alive) c.stops.2

  unprepares : (name : Word) (end : End) (o : Option Group) → MatchOption o (EndsIn (refusal.NoGroup None) old end new) (λ g. UnprepareStopsIn g name old end new) → IsDoneOrRefused end
  unprepares name end None ends = inr (_, ends.0)
  unprepares name end (Some g) stops = unprepares_in g name end stops

  detaches_in : (g : Group) (name : Word) (end : End) → DetachStopsIn g name old end new → IsDoneOrRefused end
  detaches_in g name end (inl (refused, rests)) = inr (refused_detach (runs_on_plexes old.world) g name end refused)
  detaches_in g name end (inr (inl u)) = absurd (passing old new well u.stops.rest.group u.volume.name end u.stops.cause)
  detaches_in g name end (inr (inr (inl n))) = inr (_, n.end_is)
  detaches_in g name end (inr (inr (inr c))) =
      stopping c.mid new (well_after old c.mid new c.rested.rest.later c.rest well) c.stops.0 end
      (by_group c.mid.world c.stops.0 c.stops.1.group c.stops.1.carriers (alive_still old.world c.mid.world (ap (λ (w : World). w.group) c.rested.rest.goes.world) alive)) c.stops.2

  detaches : (name : Word) (end : End) (o : Option Group) → MatchOption o (EndsIn (refusal.NoGroup None) old end new) (λ g. DetachStopsIn g name old end new) → IsDoneOrRefused end
  detaches name end None ends = inr (_, ends.0)
  detaches name end (Some g) stops = detaches_in g name end stops

  attached_later : (g : Group) (vol name : Word) (attached : Moment) → IsAttachedBy g vol name old attached → AreLater old.counts attached.counts
  attached_later g vol name attached s = subst (λ (c : Counts). AreLater old.counts c) (sym s.goes.counts) s.rest

  attaches_in : (g : Group) (vol name : Word) (end : End) → AttachStopsIn g vol name old end new → IsDoneOrRefused end
  attaches_in g vol name end (inl (refused, rests)) = inr (refused_attach (runs_on_plexes old.world vol) g vol name end refused)
  attaches_in g vol name end (inr (inl c)) = stopping old new well c.stops.0 end (by_group old.world c.stops.0 c.stops.1.group c.stops.1.carriers alive) c.stops.2
  attaches_in g vol name end (inr (inr a)) =
      copying_attach a.attached new (well_after old a.attached new (attached_later g vol name a.attached a.is) a.rest well) a.copied.group a.is.volume.name a.is.goes.volume name end a.copied.ends

  attaches : (vol name : Word) (end : End) (o : Option Group) → MatchOption o (EndsIn (refusal.NoGroup None) old end new) (λ g. AttachStopsIn g vol name old end new) → IsDoneOrRefused end
  attaches vol name end None ends = inr (_, ends.0)
  attaches vol name end (Some g) stops = attaches_in g vol name end stops

  unasked : (g : Group) (v : Vol) (end : End) → UnaskedBy g v old end new → IsDoneOrRefused end
  unasked g v end (inl (is, none)) = inr (_, is)
  unasked g v end (inr (inl (told, device, is, fails))) = absurd (calm old new well device fails.failed)
  unasked g v end (inr (inr (is, (device, own, cut)))) = absurd (powered old new well device cut)

  unreadied : (way : Way) (g : Group) (v : Vol) (end : End) → StopsUnreadied way g v old end new → IsDoneOrRefused end
  unreadied ByRecord g v end stops = absurd stops
  unreadied FromLog g v end stops = absurd stops
  unreadied FromRest g v end stops = absurd (passing old new well stops.rest.group v.name end stops.cause)
  unreadied ByLog g v end (touched, narrows, why) = unasked g v end why

  leaves_volume : (remove : Bool) (g : Group) (v : Vol) (p : Plex) (end : End) → VolumeStops remove g v p old end new → IsDoneOrRefused end
  leaves_volume remove g v p end (inl stops) = unreadied (way_of (is_data p.kind) (runs_on_plexes old.world v.name) v) g v end stops
  leaves_volume remove g v p end (inr (inl kept)) = inr (_, kept.end_is)
  leaves_volume remove g v p end (inr (inr c)) =
      let way : Way = way_of (is_data p.kind) (runs_on_plexes old.world v.name) v in
      stopping c.mid new (well_after old c.mid new (readied_later way g v old c.mid c.readied) c.rest well) c.stops.0 end
      (by_group c.mid.world c.stops.0 c.stops.1.group c.stops.1.carriers (alive_still old.world c.mid.world (readied_group way g v old c.mid c.readied) alive)) c.stops.2

  leaves_of : (remove : Bool) (g : Group) (p : Plex) (o : Option Word) (end : End) → LeavingStopsOf remove g p o old end new → IsDoneOrRefused end
  leaves_of remove g p None end stops = stopping old new well stops.0 end (by_group old.world stops.0 stops.1.group stops.1.carriers alive) stops.2
  leaves_of remove g p (Some vol) end (v, found, stops) = leaves_volume remove g v p end stops

  leaves_in : (g : Group) (remove : Bool) (name : Word) (end : End) → LeavingStopsIn g remove name old end new → IsDoneOrRefused end
  leaves_in g remove name end (inl (refused, rests)) = inr (refused_leaving (runs_on_plexes old.world) g remove name end refused)
  leaves_in g remove name end (inr (p, may, stops)) = leaves_of remove g p p.vol end stops

  leaves : (remove : Bool) (name : Word) (end : End) (o : Option Group) → MatchOption o (EndsIn (refusal.NoGroup None) old end new) (λ g. LeavingStopsIn g remove name old end new) → IsDoneOrRefused end
  leaves remove name end None ends = inr (_, ends.0)
  leaves remove name end (Some g) stops = leaves_in g remove name end stops

  ends_stop : (name : Word) (end : End) → StopStops name old end new → IsDoneOrRefused end
  ends_stop name end (inl (inl (r, e, is), rests)) = inr (r, is)
  ends_stop name end (inl (inr (g, here, none, (v, found, (next, edited, (text, printed, long, is)))), rests)) = inr (_, is)
  ends_stop name end (inr (inl r)) = absurd (passing old new well r.rest.group name end r.cause)
  ends_stop name end (inr (inr b)) =
      stopping b.mid new (well_after old b.mid new b.record_is.rest.later b.after well) b.writing end
      (by_group b.mid.world b.writing b.change.group b.change.carriers (alive_still old.world b.mid.world (ap (λ (w : World). w.group) b.record_is.rest.goes.world) alive)) b.stopped

-- a stage that is stopped was refused
stops_well : (s : Stage) (disks : List DiskAt) (old new : Moment) (end : End) → WentWell old new → IsCarried s disks old.world → Stops s disks old end new → IsDoneOrRefused end
stops_well (stage.Gate test) disks old new end well carried (r, fails, is, same) = inr (r, is)
stops_well (stage.Take name) disks old new end well carried stops = taking old new well [] (name ∷ []) end stops
stops_well stage.TakeDisks disks old new end well carried stops = taking old new well [] (devices_of disks) end stops
stops_well (stage.LookBlank name) disks old new end well carried (reads, looks) = looking old new well (name ∷ []) end looks
stops_well stage.LookDisks disks old new end well carried (reads, looks) = looking old new well (devices_of disks) end looks
stops_well (stage.LookHeaded name) disks old new end well carried (reads, inl (blank, is)) = inr (_, is)
stops_well (stage.LookHeaded name) disks old new end well carried (reads, inr fails) = at_hand old new well name end fails
stops_well (stage.Search dg) disks old new end well carried (reads, inl (name, free, inl (names, is))) = inr (_, is)
stops_well (stage.Search dg) disks old new end well carried (reads, inl (name, free, inr fails)) = at_device old new well name end fails
stops_well (stage.Search dg) disks old new end well carried (reads, inr shelf) = absurd (shelf_calm old new well shelf.1)
stops_well (stage.MakeImage name sectors) disks old new end well carried (inl (some, ends)) = inr (_, ends.0)
stops_well (stage.MakeImage name sectors) disks old new end well carried (inr fails) = absurd (shelf_calm old new well fails.3)
stops_well (stage.Wipe name) disks old new end well carried (has, calls, ends) = at_hand old new well name end ends
stops_well (stage.StartBare vol name) disks old new end well carried (is, ends) = inr (_, ends.0)
stops_well (stage.Change change) disks old new end well carried (inl (none, ends)) = inr (_, ends.0)
stops_well (stage.Change change) disks old new end well carried (inr (inl ((g, here, inl (r, e, is)), rests))) = inr (r, is)
stops_well (stage.Change change) disks old new end well carried (inr (inl ((g, here, inr (config, edited, (text, printed, long, is))), rests))) = inr (_, is)
stops_well (stage.Change change) disks old new end well carried (inr (inr (x, writing, stopped))) = stopping old new well x end (by_group old.world x writing.group writing.carriers carried) stopped
stops_well (stage.Make from) disks old new end well carried (inl (none, ends)) = inr (_, ends.0)
stops_well (stage.Make from) disks old new end well carried (inr (inl ((g, here, inl (r, denied, is)), rests))) = inr (r, is)
stops_well (stage.Make from) disks old new end well carried (inr (inl ((g, here, inr (added, adds, inl (r, e, is))), rests))) = inr (r, is)
stops_well (stage.Make from) disks old new end well carried (inr (inl ((g, here, inr (added, adds, inr (fine, inl (r, e, is)))), rests))) = inr (r, is)
stops_well (stage.Make from) disks old new end well carried (inr (inl ((g, here, inr (added, adds, inr (fine, inr (config, edited, (printed, text_is, long, is))))), rests))) = inr (_, is)
stops_well (stage.Make from) disks old new end well carried (inr (inr (x, making, stopped))) = stopping old new well x end (by_group old.world x making.change.group making.change.carriers carried) stopped
stops_well stage.Join [] old new end well carried stops = absurd stops
stops_well stage.Join (p ∷ q ∷ ps) old new end well carried stops = absurd stops
stops_well stage.Join (p ∷ []) old new end well carried (inl (none, ends)) = inr (_, ends.0)
stops_well stage.Join (p ∷ []) old new end well carried (inr (inl ((g, here, inl (r, e, is)), rests))) = inr (r, is)
stops_well stage.Join (p ∷ []) old new end well carried (inr (inl ((g, here, inr (config, edited, (text, printed, long, is))), rests))) = inr (_, is)
stops_well stage.Join (p ∷ []) old new end well carried (inr (inr (x, writing, stopped))) = stopping old new well x end (by_group old.world x writing.group writing.carriers carried) stopped
stops_well (stage.Create dg) disks old new end well carried (inl (g, here, ends)) = inr (_, ends.0)
stops_well (stage.Create dg) disks old new end well carried (inr (x, writing, stopped)) = stopping old new well x end (by_words dg disks old.world x writing carried) stopped
stops_well (stage.Import dg) disks old new end well carried (inl (g, here, ends)) = inr (_, ends.0)
stops_well (stage.Import dg) disks old new end well carried (inr (inl (reads, inl denied))) = inr (denied.why, denied.end_is)
stops_well (stage.Import dg) disks old new end well carried (inr (inl (reads, inr (inl shelf)))) = absurd (shelf_calm old new well shelf.1)
stops_well (stage.Import dg) disks old new end well carried (inr (inl (reads, inr (inr (is, (name, cut)))))) = absurd (powered old new well name cut)
stops_well (stage.Import dg) disks old new end well carried (inr (inr (mid, between, (x, writing, stopped)))) =
    stopping mid new (well_after old mid new between.first between.rest well) x end (by_devices dg old.world x old.counts mid.counts writing carried) stopped
stops_well stage.LetGo disks old new end well carried stops = absurd stops
stops_well (stage.Start vol) disks old new end well carried stops = starts old new well carried vol end old.world.group stops
stops_well (stage.Mirror mirror) disks old new end well carried stops = mirrors old new well carried mirror.vol mirror.disks end old.world.group stops
stops_well (stage.Prepare logs) disks old new end well carried stops = prepares old new well carried logs end old.world.group stops
stops_well (stage.Unprepare vol) disks old new end well carried stops = unprepares old new well carried vol end old.world.group stops
stops_well (stage.Detach plex) disks old new end well carried stops = detaches old new well carried plex end old.world.group stops
stops_well (stage.Attach vol plex) disks old new end well carried stops = attaches old new well carried vol plex end old.world.group stops
stops_well (stage.Dissociate plex remove) disks old new end well carried stops = leaves old new well carried remove plex end old.world.group stops
stops_well (stage.Stop vol) disks old new end well carried stops = ends_stop old new well carried vol end stops

-- the stage changes nothing of the world
abbrev pub keeps_world : Stage → Bool
keeps_world (stage.Gate test) = true
keeps_world (stage.Take name) = true
keeps_world stage.TakeDisks = true
keeps_world (stage.LookBlank name) = true
keeps_world stage.LookDisks = true
keeps_world (stage.LookHeaded name) = true
keeps_world (stage.Search dg) = true
keeps_world other = false

pub kept_world : (s : Stage) (disks : List DiskAt) (old mid : Moment) → keeps_world s ≡ true → IsDone s disks old mid → mid.world ≡ old.world
kept_world (stage.Gate test) disks old mid keeps (holds, same) = ap (λ (m : Moment). m.world) same
kept_world (stage.Take name) disks old mid keeps (free, rests) = rests.stays.world
kept_world stage.TakeDisks disks old mid keeps (free, rests) = rests.stays.world
kept_world (stage.LookBlank name) disks old mid keeps done = done.1
kept_world stage.LookDisks disks old mid keeps done = done.1
kept_world (stage.LookHeaded name) disks old mid keeps done = done.1
kept_world (stage.Search dg) disks old mid keeps done = done.1
kept_world (stage.MakeImage name sectors) disks old mid keeps done = cc
kept_world (stage.Wipe name) disks old mid keeps done = cc
kept_world (stage.StartBare vol name) disks old mid keeps done = cc
kept_world (stage.Change change) disks old mid keeps done = cc
kept_world (stage.Make from) disks old mid keeps done = cc
kept_world stage.Join disks old mid keeps done = cc
kept_world (stage.Create dg) disks old mid keeps done = cc
kept_world (stage.Import dg) disks old mid keeps done = cc
kept_world stage.LetGo disks old mid keeps done = cc
kept_world (stage.Start vol) disks old mid keeps done = cc
kept_world (stage.Mirror mirror) disks old mid keeps done = cc
kept_world (stage.Prepare logs) disks old mid keeps done = cc
kept_world (stage.Unprepare vol) disks old mid keeps done = cc
kept_world (stage.Detach plex) disks old mid keeps done = cc
kept_world (stage.Attach vol plex) disks old mid keeps done = cc
kept_world (stage.Dissociate plex remove) disks old mid keeps done = cc
kept_world (stage.Stop vol) disks old mid keeps done = cc

-- behind a stage this holds of the world: one that adds records leaves any in which the group has a good disk, each other one keeps the world
abbrev IsBehind : Stage → World → (World → Type 0) → Type 0
IsBehind (stage.Make from) w Holds = (v : World) → IsAlive v → Holds v
IsBehind s w Holds = (keeps_world s ≡ true) × Holds w

-- each stage finds a disk to be written
abbrev IsShaped : List Stage → List DiskAt → World → Type 0
IsShaped [] disks w = Unit {0}
IsShaped (s ∷ []) disks w = IsCarried s disks w
IsShaped (s ∷ t ∷ ss) disks w = IsCarried s disks w × IsBehind s w (λ v. IsShaped (t ∷ ss) disks v)

-- a group to which records were added has a good disk
made_alive : (from : Source) (disks : List DiskAt) (old mid : Moment) → IsDone (stage.Make from) disks old mid → IsAlive mid.world
made_alive from disks old mid (x, making, committed) =
    let some : AnyOf (λ m. has committed.good m.slot ≡ true) x.group.members = subst (λ (ms : List Member). AnyOf (λ m. has committed.good m.slot ≡ true) ms) making.change.carriers committed.some in
    subst (λ (o : Option Group). MatchOption o (Unit {0}) (λ g. AnyOf (λ m. has g.good m.slot ≡ true) g.members)) (sym committed.group)
    (any_front (λ m. has committed.good m.slot ≡ true) x.group.members x.joiners some)

behind : (s : Stage) (disks : List DiskAt) (old mid : Moment) (Holds : World → Type 0) → IsBehind s old.world Holds → IsDone s disks old mid → Holds mid.world
behind (stage.Make from) disks old mid Holds is done = is mid.world (made_alive from disks old mid done)
behind (stage.Gate test) disks old mid Holds is done = subst Holds (sym (kept_world (stage.Gate test) disks old mid is.0 done)) is.1
behind (stage.Take name) disks old mid Holds is done = subst Holds (sym (kept_world (stage.Take name) disks old mid is.0 done)) is.1
behind stage.TakeDisks disks old mid Holds is done = subst Holds (sym (kept_world stage.TakeDisks disks old mid is.0 done)) is.1
behind (stage.LookBlank name) disks old mid Holds is done = subst Holds (sym (kept_world (stage.LookBlank name) disks old mid is.0 done)) is.1
behind stage.LookDisks disks old mid Holds is done = subst Holds (sym (kept_world stage.LookDisks disks old mid is.0 done)) is.1
behind (stage.LookHeaded name) disks old mid Holds is done = subst Holds (sym (kept_world (stage.LookHeaded name) disks old mid is.0 done)) is.1
behind (stage.Search dg) disks old mid Holds is done = subst Holds (sym (kept_world (stage.Search dg) disks old mid is.0 done)) is.1
behind (stage.MakeImage name sectors) disks old mid Holds is done = cc
behind (stage.Wipe name) disks old mid Holds is done = cc
behind (stage.StartBare vol name) disks old mid Holds is done = cc
behind (stage.Change change) disks old mid Holds is done = cc
behind stage.Join disks old mid Holds is done = cc
behind (stage.Create dg) disks old mid Holds is done = cc
behind (stage.Import dg) disks old mid Holds is done = cc
behind stage.LetGo disks old mid Holds is done = cc
behind (stage.Start vol) disks old mid Holds is done = cc
behind (stage.Mirror mirror) disks old mid Holds is done = cc
behind (stage.Prepare logs) disks old mid Holds is done = cc
behind (stage.Unprepare vol) disks old mid Holds is done = cc
behind (stage.Detach plex) disks old mid Holds is done = cc
behind (stage.Attach vol plex) disks old mid Holds is done = cc
behind (stage.Dissociate plex remove) disks old mid Holds is done = cc
behind (stage.Stop vol) disks old mid Holds is done = cc

pub runs_later : (disks : List DiskAt) (stages : List Stage) (finish : Finish) (old : Moment) (views : List View) (end : End) (new : Moment) → Runs disks stages finish old views end new → AreLater old.counts new.counts
runs_later disks [] finish old views end new (shows, is, same) = subst (λ (m : Moment). AreLater old.counts m.counts) (sym same) (later_self old.counts)
runs_later disks (s ∷ ss) finish old views end new (inl (mid, later, is, rest)) = later_on old.counts mid.counts new.counts later (runs_later disks ss finish mid views end new rest)
runs_later disks (s ∷ ss) finish old views end new (inr (none, later, stops)) = later

runs_well : (disks : List DiskAt) (stages : List Stage) (finish : Finish) (old : Moment) (views : List View) (end : End) (new : Moment)
    → IsShaped stages disks old.world → Runs disks stages finish old views end new → WentWell old new → IsDoneOrRefused end
runs_well disks [] finish old views end new shaped (shows, is, same) well = inl (None, is)
runs_well disks (s ∷ []) finish old views end new shaped (inl (mid, later, is, (shows, over, same))) well = inl (None, over)
runs_well disks (s ∷ []) finish old views end new shaped (inr (none, later, stops)) well = stops_well s disks old new end well shaped stops
runs_well disks (s ∷ t ∷ ss) finish old views end new shaped (inl (mid, later, is, rest)) well =
    runs_well disks (t ∷ ss) finish mid views end new
    (behind s disks old mid (λ v. IsShaped (t ∷ ss) disks v) shaped.1 is)
    rest
    (well_after old mid new later (runs_later disks (t ∷ ss) finish mid views end new rest) well)
runs_well disks (s ∷ t ∷ ss) finish old views end new shaped (inr (none, later, stops)) well = stops_well s disks old new end well shaped.0 stops

-- each plan has this shape
abbrev IsPlanShaped : Option Plan → List DiskAt → World → Type 0
IsPlanShaped None disks w = Unit {0}
IsPlanShaped (Some plan) disks w = IsShaped plan.stages disks w

policy_shaped : (dg : Option Word) (vol : Word) (how : WordPolicy) (w : World) → IsAlive w → IsPlanShaped (plan_of dg (form.Rdpol vol how)) [] w
unfolding plan_of
policy_shaped dg vol words.Round w c = (tt, (refl, (tt, (refl, c))))
policy_shaped dg vol words.Select w c = (tt, (refl, (tt, (refl, c))))
policy_shaped dg vol (words.Prefer plex) w c = (tt, (refl, (tt, (refl, (tt, (refl, c))))))

print_shaped : (dg vol : Option Word) (finish : Finish) (w : World) → IsPlanShaped (ending (plan_print dg vol) finish) [] w
print_shaped dg None finish w = tt
print_shaped dg (Some vol) finish w = (tt, (refl, tt))

act_shaped : (dg : Option Word) (a : Act) (w : World) → IsAlive w → IsPlanShaped (plan_of_act dg a) [] w
act_shaped dg (act.PlexDet plex) w alive = (tt, (refl, alive))
act_shaped dg (act.PlexAtt vol plex) w alive = (tt, (refl, alive))
act_shaped dg (act.SnapMake vol snap plex) w alive = tt
act_shaped dg (act.Reattach snap vol) w alive = tt
act_shaped dg (act.Restore vol snap) w alive = tt
act_shaped dg (act.Snapback snap from) w alive = tt

plan_shaped : (dg : Option Word) (f : Form) (w : World) → HasCarriers f w → IsPlanShaped (plan_of dg f) (disks_of f) w
unfolding plan_of
plan_shaped dg (form.MkImage device length) w has = tt
plan_shaped dg (form.Bare vol device) w has = (tt, (refl, (tt, (refl, (tt, (refl, tt))))))
plan_shaped dg (form.DgInit name disks) w has = (tt, (refl, (tt, (refl, (tt, (refl, (tt, (refl, (tt, (refl, (tt, (refl, has.named))))))))))))
plan_shaped dg (form.DgAddDisk name disk) w has = (tt, (refl, (tt, (refl, (tt, (refl, (tt, (refl, (tt, (refl, has.group))))))))))
plan_shaped dg (form.DgImport name) w has = has.masks
plan_shaped dg (form.DgDeport name) w has = (tt, (refl, (tt, (refl, tt))))
plan_shaped dg (form.DiskUnsetup device) w has = (tt, (refl, (tt, (refl, tt))))
plan_shaped dg (form.Start vol) w has = (tt, (refl, (tt, (refl, (tt, (refl, has.group))))))
plan_shaped dg (form.Stop vol) w has = (tt, (refl, (tt, (refl, has.group))))
plan_shaped dg (form.PrintM vol) w has = print_shaped dg vol (Records vol) w
plan_shaped dg (form.Rdpol vol how) w has = policy_shaped dg vol how w has.group
plan_shaped dg (form.RemoveVolume vol) w has = (tt, (refl, (tt, (refl, (tt, (refl, (tt, (refl, has.group))))))))
plan_shaped dg (form.VxMake text) w has = (tt, (refl, has.group))
plan_shaped dg (form.PrintHt vol) w has = print_shaped dg vol (Hierarchy vol) w
plan_shaped dg (form.AssistMake vol length attrs disks) w has = (tt, (refl, (has.group, λ v alive. (tt, (refl, alive)))))
plan_shaped dg (form.Mirror vol disks) w has = (tt, (refl, has.group))
plan_shaped dg (form.PlexDis plex rm) w has = (tt, (refl, has.group))
plan_shaped dg (form.Prepare vol ndcomirs region) w has = (tt, (refl, has.group))
plan_shaped dg (form.Unprepare vol) w has = (tt, (refl, has.group))
plan_shaped dg (form.AddMir vol disks) w has = tt
plan_shaped dg (form.Dis snap) w has = tt
plan_shaped dg (form.Split snap) w has = tt
plan_shaped dg (form.PrintSnaps vol) w has = tt
plan_shaped dg (form.Recover vol) w has = tt
plan_shaped dg (form.Acting act) w has = act_shaped dg act w has.group
plan_shaped dg (form.Calling call) w has = tt
plan_shaped dg (form.Sessions block) w has = tt

pub each_plan_is_complete : (dg : Option Word) (f : Form) (plan : Plan) (old : Moment) (views : List View) (end : End) (new : Moment)
    → plan_of dg f ≡ Some plan → Runs (disks_of f) plan.stages plan.finish old views end new
    → WentWell old new → HasCarriers f old.world → IsDoneOrRefused end
each_plan_is_complete dg f plan old views end new is runs well has =
    runs_well (disks_of f) plan.stages plan.finish old views end new
    (subst (λ (o : Option Plan). IsPlanShaped o (disks_of f) old.world) is (plan_shaped dg f old.world has))
    runs well
