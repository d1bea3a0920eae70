-- A command of a plan that is done: each of its stages was, and what went well as a whole went well in each.
use Rattle.std.proofs.Common.{◌≡◌, ℕ, ◌≤◌, Bool, true, false, List, [], ◌∷◌, ◌++◌, Option, Some, None, MatchBool, MatchOption, refl, sym, ◌∙◌, ap, subst, inl, inr, arith}
use Rattle.std.specs.Prelude.{IsTrue}
use Rattle.vx_base.specs.Named.{Word}
use Rattle.vx_block.specs.Regions.{region_count}
use Rattle.vx_script_words.specs.declared.value.DiskAt.{DiskAt}
use Rattle.vx_script_forms.specs.declared.form.Form.{Form}
use Rattle.vx_script.specs.declared.command.Command.{Command}
use Rattle.vx_answers.specs.declared.answer.Answer.{Answer}
use Rattle.vx_answers.specs.declared.answer.Answer.TheVariants.{One}
use Rattle.vx_answers.specs.declared.answer.End.{End}
use Rattle.vx_answers.specs.declared.answer.End.TheVariants as ends
use Rattle.vx_answers.specs.declared.answer.View.{View}
use Rattle.vx_answers.specs.declared.refusal.Refusal.{Refusal}
use Rattle.vx_moments.specs.Moment.{Moment, Counts, AreLater, IsQuiet}
use Rattle.vx_moments.specs.Commit.{Writing, NoneFailed, IsStopped}
use Rattle.vx_plans.specs.Laws.{WentWell}
use Rattle.vx_stages.specs.Records.{devices_of}
use Rattle.vx_stages.specs.Ends.{EndsIn, IsChange, fault_of, lost}
use Rattle.vx_stages.specs.Stages.{IsDone, Stops, DeviceEnds, edits_of, IsJoining, joining_edit, TakingStops, LookingStops, EditsStop}
use Rattle.vx_objects.specs.declared.config.Config.{Config}
use Rattle.vx_objects.specs.declared.edit.Edit.{Edit}
use Rattle.vx_new_volumes.specs.declared.logs.NewLogs.{NewLogs}
use Rattle.vx_state_edits.specs.Edits.{is_new}
use Rattle.vx_answers.specs.declared.refusal.Refusal.TheVariants as refusal
use Rattle.vx_moments.specs.World.{World, Group, Volume}
use Rattle.vx_config_parts.specs.declared.plex.Plex.{Plex}
use Rattle.vx_config_parts.specs.declared.vol.Vol.{Vol}
use Rattle.vx_stages.specs.Attached.{AttachEnds, AttachStopsIn}
use Rattle.vx_stages.specs.Detached.{DetachStopsIn}
use Rattle.vx_stages.specs.Leaving.{ByLog, ByRecord, FromLog, FromRest, Way, way_of}
use Rattle.vx_stages.specs.Left.{LeavingStopsIn, LeavingStopsOf, StopsUnreadied, UnaskedBy}
use Rattle.vx_stages.specs.Starting.{CopyEnds, StopsIn, StopsOf, may_start, regions_copied}
use Rattle.vx_stages.specs.Logged.{IsLogWritten, PrepareStopsIn, UnprepareStopsIn, by_config}
use Rattle.vx_stages.specs.Mirrored.{MirrorEnds, MirrorStopsIn}
use Rattle.vx_stages.specs.Stopping.{StopStops, runs_on_plexes}
use Rattle.vx_stages.specs.Tests.{is_data, volume_in}
use Rattle.vx_stages.specs.Touching.{PassHasCause}
use Rattle.vx_plans.specs.Steps.{AreAsBefore, CountsAfter, DoesForm, Leaves, Runs, Serves, Step, done}
use Rattle.vx_plans.specs.declared.stages.Finish.{Finish}
use Rattle.vx_plans.specs.declared.stages.Finish.TheVariants.{Nothing}
use Rattle.vx_stages.specs.declared.stage.Stage.{Stage}
use Rattle.vx_stages.specs.declared.stage.Stage.TheVariants as stage
use Rattle.vx_plans.proofs.Calm.{calm, well_after}
use Rattle.vx_plans.proofs.Complete.{refused_attach, refused_detach, refused_leaving, refused_mirror, refused_prepare, refused_unprepare, runs_later}
use Rattle.vx_laws.specs.Returning.{IsOf, is_done}

-- ---- a stage that ends the command

-- the command is not done, or tells how many regions it has copied
abbrev IsNotDone : End → Type 0
IsNotDone (ends.Done None parts blocks) = ⊥
IsNotDone (ends.Done (Some copied) parts blocks) = Unit {0}
IsNotDone other = Unit {0}

-- the stage starts or stops a volume of the group, or mirrors it, or a plex of it goes out of use or into use, or leaves it
abbrev pub runs_volume : Stage → Bool
runs_volume (stage.Start vol) = true
runs_volume (stage.Mirror mirror) = true
runs_volume (stage.Detach plex) = true
runs_volume (stage.Attach vol plex) = true
runs_volume (stage.Dissociate plex remove) = true
runs_volume (stage.Stop vol) = true
runs_volume other = false

-- the command is not done, and starts and ends no volume
pub record HasStopped (old : Moment) (end : End) (new : Moment) : Type 0 where
  pub not_done : IsNotDone end
  pub volumes : new.world.volumes ≡ old.world.volumes

pub volumes_of : (a b : World) → b ≡ a → b.volumes ≡ a.volumes
volumes_of a b e = ap (λ (w : World). w.volumes) e

module _ (old new : Moment) (end : End) where
  ended : (e : End) → IsNotDone e → end ≡ e → new.world.volumes ≡ old.world.volumes → HasStopped old end new
  ended e other is same = record { not_done = subst IsNotDone (sym is) other; volumes = same }

  denied : (r : Refusal) → EndsIn r old end new → HasStopped old end new
  denied r (is, rests) = ended (ends.Refused r) tt is (volumes_of old.world new.world rests.stays.world)

  at_hand : (name : Word) → new.world.volumes ≡ old.world.volumes → DeviceEnds name old end new → HasStopped old end new
  at_hand name same (inl (is, failed)) = ended (fault_of name) tt is same
  at_hand name same (inr (is, cut)) = ended lost tt is same

  taking : (taken names : List Word) → TakingStops taken names old end new → HasStopped old end new
  taking taken [] stops = absurd stops
  taking taken (name ∷ names) (inl (inl (r, away, ends))) = denied r ends
  taking taken (name ∷ names) (inl (inr (same, none, is, shelf))) = ended (fault_of name) tt is (volumes_of old.world new.world same)
  taking taken (name ∷ names) (inr more) = taking (taken ++ name ∷ []) names more.1

  looking : (names : List Word) → new.world ≡ old.world → LookingStops names old end new → HasStopped old end new
  looking [] same stops = absurd stops
  looking (name ∷ names) same (inl (inl headed)) = ended (ends.Refused (refusal.InUse name)) tt headed.1 (volumes_of old.world new.world same)
  looking (name ∷ names) same (inl (inr fails)) = at_hand name (volumes_of old.world new.world same) fails
  looking (name ∷ names) same (inr more) = looking names same more.1

  stopping_by : (x : Writing) (from : Moment) → from.world.volumes ≡ old.world.volumes → IsStopped x from end new → HasStopped old end new
  stopping_by x from same stopped =
      let volumes = stopped.committing.volumes ∙ same in
      elim stopped.ends [ inl l ↦ ended ends.GroupLost tt l.0 volumes | inr r ↦ ended lost tt r.0 volumes ]

  stopping : (x : Writing) (from : Moment) → from.world ≡ old.world → IsStopped x from end new → HasStopped old end new
  stopping x from same stopped = stopping_by x from (volumes_of old.world from.world same) stopped

  editing : (edits : Group → List Edit) (IsWriting : Writing → Type 0) → EditsStop edits IsWriting old end new → HasStopped old end new
  editing edits IsWriting (inl (none, ends)) = denied _ ends
  editing edits IsWriting (inr (inl ((g, here, inl (r, e, is)), rests))) = denied r (is, rests)
  editing edits IsWriting (inr (inl ((g, here, inr (config, edited, (text, printed, long, is))), rests))) = denied _ (is, rests)
  editing edits IsWriting (inr (inr (x, writing, stopped))) = stopping x old refl stopped

  passing : (g : Group) (vol : Word) (from : Moment) (e : End) → PassHasCause g vol from.counts new.counts e → IsNotDone e
  passing g vol from (ends.Done copied parts blocks) cause = absurd cause
  passing g vol from (ends.Fault told device parts) cause = tt
  passing g vol from (ends.Lost parts) cause = tt
  passing g vol from (ends.Refused r) cause = tt
  passing g vol from ends.ShelfFailed cause = tt
  passing g vol from ends.GroupLost cause = tt

  -- ---- logs that come and go

  written_volumes : (g : Group) (next : Config) (v : Vol) (m : Moment) (b : Bool) → MatchBool b (m ≡ old) (IsLogWritten g next v.name old m × AreLater old.counts m.counts) → m.world.volumes ≡ old.world.volumes
  written_volumes g next v m true same = ap (λ (x : Moment). x.world.volumes) same
  written_volumes g next v m false writes = ap (λ (w : World). w.volumes) writes.0.log.touched.world

  preparing_in : (g : Group) (n : NewLogs) → PrepareStopsIn g n old end new → HasStopped old end new
  preparing_in g n (inl (refused, rests)) =
      let is = refused_prepare (runs_on_plexes old.world n.vol) g n end refused in ended (ends.Refused is.0) tt is.1 (volumes_of old.world new.world rests.stays.world)
  preparing_in g n (inr (inl u)) = record { not_done = passing (by_config u.next g) n.vol old end u.cause; volumes = ap (λ (w : World). w.volumes) u.log.touched.world }
  preparing_in g n (inr (inr c)) = stopping_by c.stops.0 c.written (written_volumes g c.next c.volume c.written (is_new c.volume.state) c.writes) c.stops.2

  preparing : (n : NewLogs) (o : Option Group) → MatchOption o (EndsIn (refusal.NoGroup None) old end new) (λ g. PrepareStopsIn g n old end new) → HasStopped old end new
  preparing n None ends = denied _ ends
  preparing n (Some g) stops = preparing_in g n stops

  unpreparing_in : (g : Group) (name : Word) → UnprepareStopsIn g name old end new → HasStopped old end new
  unpreparing_in g name (inl (refused, rests)) = let is = refused_unprepare g name end refused in ended (ends.Refused is.0) tt is.1 (volumes_of old.world new.world rests.stays.world)
  unpreparing_in g name (inr c) = stopping c.stops.0 old refl c.stops.2

  unpreparing : (name : Word) (o : Option Group) → MatchOption o (EndsIn (refusal.NoGroup None) old end new) (λ g. UnprepareStopsIn g name old end new) → HasStopped old end new
  unpreparing name None ends = denied _ ends
  unpreparing name (Some g) stops = unpreparing_in g name stops

  pub has_stopped : (s : Stage) (disks : List DiskAt) → runs_volume s ≡ false → Stops s disks old end new → HasStopped old end new
  has_stopped (stage.Gate test) disks other (r, fails, is, same) = ended (ends.Refused r) tt is (ap (λ (m : Moment). m.world.volumes) same)
  has_stopped (stage.Take name) disks other stops = taking [] (name ∷ []) stops
  has_stopped stage.TakeDisks disks other stops = taking [] (devices_of disks) stops
  has_stopped (stage.LookBlank name) disks other (reads, looks) = looking (name ∷ []) reads.0 looks
  has_stopped stage.LookDisks disks other (reads, looks) = looking (devices_of disks) reads.0 looks
  has_stopped (stage.LookHeaded name) disks other (reads, inl (blank, is)) = ended (ends.Refused (refusal.NotInitialised name)) tt is (volumes_of old.world new.world reads.0)
  has_stopped (stage.LookHeaded name) disks other (reads, inr fails) = at_hand name (volumes_of old.world new.world reads.0) fails
  has_stopped (stage.Search dg) disks other (reads, inl (name, free, inl (names, is))) = ended (ends.Refused (refusal.Exists dg)) tt is (volumes_of old.world new.world reads.0)
  has_stopped (stage.Search dg) disks other (reads, inl (name, free, inr (inl (is, failed)))) = ended (fault_of name) tt is (volumes_of old.world new.world reads.0)
  has_stopped (stage.Search dg) disks other (reads, inl (name, free, inr (inr (is, cut)))) = ended lost tt is (volumes_of old.world new.world reads.0)
  has_stopped (stage.Search dg) disks other (reads, inr (is, shelf)) = ended ends.ShelfFailed tt is (volumes_of old.world new.world reads.0)
  has_stopped (stage.MakeImage name sectors) disks other (inl (some, ends)) = denied _ ends
  has_stopped (stage.MakeImage name sectors) disks other (inr (same, none, is, shelf)) = ended (fault_of name) tt is (volumes_of old.world new.world same)
  has_stopped (stage.Wipe name) disks other (has, calls, ends) = at_hand name (ap (λ (w : World). w.volumes) has.is) ends
  has_stopped (stage.StartBare vol name) disks other (is, ends) = denied _ ends
  has_stopped (stage.Change change) disks other stops = editing (λ g. edits_of change (Some g)) (λ x. IsChange (edits_of change old.world.group) old.world x) stops
  has_stopped (stage.Make from) disks other (inl (none, ends)) = denied _ ends
  has_stopped (stage.Make from) disks other (inr (inl ((g, here, inl (r, why, is)), rests))) = denied _ (is, rests)
  has_stopped (stage.Make from) disks other (inr (inl ((g, here, inr (added, adds, inl (r, e, is))), rests))) = denied r (is, rests)
  has_stopped (stage.Make from) disks other (inr (inl ((g, here, inr (added, adds, inr (fine, inl (r, e, is)))), rests))) = denied r (is, rests)
  has_stopped (stage.Make from) disks other (inr (inl ((g, here, inr (added, adds, inr (fine, inr (config, edited, (printed, text_is, long, is))))), rests))) = denied _ (is, rests)
  has_stopped (stage.Make from) disks other (inr (inr (x, making, stopped))) = stopping x old refl stopped
  has_stopped stage.Join [] other stops = absurd stops
  has_stopped stage.Join (p ∷ q ∷ ps) other stops = absurd stops
  has_stopped stage.Join (p ∷ []) other stops = editing (λ g. joining_edit p old.world g ∷ []) (λ x. IsJoining p old.world x) stops
  has_stopped (stage.Create dg) disks other (inl (g, here, ends)) = denied _ ends
  has_stopped (stage.Create dg) disks other (inr (x, writing, stopped)) = stopping x old refl stopped
  has_stopped (stage.Import dg) disks other (inl (g, here, ends)) = denied _ ends
  has_stopped (stage.Import dg) disks other (inr (inl (reads, inl turned))) = ended (ends.Refused turned.why) tt turned.end_is (volumes_of old.world new.world reads.0)
  has_stopped (stage.Import dg) disks other (inr (inl (reads, inr (inl (is, shelf))))) = ended ends.ShelfFailed tt is (volumes_of old.world new.world reads.0)
  has_stopped (stage.Import dg) disks other (inr (inl (reads, inr (inr (is, cut))))) = ended lost tt is (volumes_of old.world new.world reads.0)
  has_stopped (stage.Import dg) disks other (inr (inr (mid, between, (x, writing, stopped)))) = stopping x mid between.world stopped
  has_stopped stage.LetGo disks other stops = absurd stops
  has_stopped (stage.Start vol) disks other stops = cc
  has_stopped (stage.Mirror mirror) disks other stops = cc
  has_stopped (stage.Prepare logs) disks other stops = preparing logs old.world.group stops
  has_stopped (stage.Unprepare vol) disks other stops = unpreparing vol old.world.group stops
  has_stopped (stage.Detach plex) disks other stops = cc
  has_stopped (stage.Attach vol plex) disks other stops = cc
  has_stopped (stage.Dissociate plex remove) disks other stops = cc
  has_stopped (stage.Stop vol) disks other stops = cc

  -- ---- a start, a mirror, plexes that go out of use and into use and that leave, and a stop

  told : (e : End) → IsNotDone e → end ≡ e → IsNotDone end
  told e other is = subst IsNotDone (sym is) other

  committing : (x : Writing) (from : Moment) → IsStopped x from end new → IsNotDone end
  committing x from stopped = elim stopped.ends [ inl l ↦ told ends.GroupLost tt l.0 | inr r ↦ told lost tt r.0 ]

  copying : (g now : Group) (v : Vol) (from : Moment) (e : End) → CopyEnds g now v from.counts new.counts e → IsNotDone e
  copying g now v from (ends.Done None parts blocks) tells = let no : None ≡ Some (regions_copied g v) = tells.0 in cc
  copying g now v from (ends.Done (Some copied) parts blocks) tells = tt
  copying g now v from (ends.Fault told device parts) tells = tt
  copying g now v from (ends.Lost parts) tells = tt
  copying g now v from (ends.Refused r) tells = tt
  copying g now v from ends.ShelfFailed tells = tt
  copying g now v from ends.GroupLost tells = tt

  start_of : (g : Group) (v : Vol) → StopsOf g v old end new → IsNotDone end
  start_of g v (inl (inl (r, e, is), rests)) = told (ends.Refused r) tt is
  start_of g v (inl (inr (none, next, edited, (text, printed, long, is)), rests)) = told (ends.Refused _) tt is
  start_of g v (inr (inl stops)) = elim stops.cause [
    | inl unread ↦ told (ends.Refused (refusal.NoLog v.name)) tt unread.0
    | inr (inl (region, is, filled, missed)) ↦ told (ends.Refused (refusal.NoCurrent region)) tt is
    | inr (inr (inl (disk, device, is, fails))) ↦ told (ends.Fault disk device []) tt is
    | inr (inr (inr (is, cut))) ↦ told lost tt is
  ]
  start_of g v (inr (inr (inl c))) = committing c.stops.0 c.opened c.stops.2
  start_of g v (inr (inr (inr a))) = copying g a.copied.group v a.begun end a.copied.ends

  start_by : (g : Group) (v : Vol) (may : Bool) → MatchBool may (StopsOf g v old end new) (EndsIn (refusal.VolState v.state) old end new) → IsNotDone end
  start_by g v true stops = start_of g v stops
  start_by g v false ends = (denied _ ends).not_done

  start_in : (g : Group) (name : Word) (o : Option Vol) → MatchOption o (EndsIn (refusal.NoObject name) old end new) (λ v. MatchBool (may_start v.state) (StopsOf g v old end new) (EndsIn (refusal.VolState v.state) old end new)) → IsNotDone end
  start_in g name None ends = (denied _ ends).not_done
  start_in g name (Some v) stops = start_by g v (may_start v.state) stops

  start_stops : (name : Word) (o : Option Group) → MatchOption o (EndsIn (refusal.NoGroup None) old end new) (λ g. StopsIn g name old end new) → IsNotDone end
  start_stops name None ends = (denied _ ends).not_done
  start_stops name (Some g) stops = start_in g name (volume_in name g.config.volumes) stops

  copying_mirror : (now : Group) (v : Vol) (from : Moment) (e : End) → MirrorEnds now v from.counts new.counts e → IsNotDone e
  copying_mirror now v from (ends.Done None parts blocks) tells = let no : None ≡ Some (region_count v.len v.region) = tells.0 in cc
  copying_mirror now v from (ends.Done (Some copied) parts blocks) tells = tt
  copying_mirror now v from (ends.Fault told device parts) tells = tt
  copying_mirror now v from (ends.Lost parts) tells = tt
  copying_mirror now v from (ends.Refused r) tells = tt
  copying_mirror now v from ends.ShelfFailed tells = tt
  copying_mirror now v from ends.GroupLost tells = tt

  mirror_in : (g : Group) (name : Word) (named : List Word) → MirrorStopsIn g name named old end new → IsNotDone end
  mirror_in g name named (inl (refused, rests)) = let is = refused_mirror (runs_on_plexes old.world name) g name named end refused in told (ends.Refused is.0) tt is.1
  mirror_in g name named (inr (inl u)) = passing u.stops.rest.group name old end u.stops.cause
  mirror_in g name named (inr (inr (inl c))) = committing c.stops.0 c.marked c.stops.2
  mirror_in g name named (inr (inr (inr a))) = copying_mirror a.copied.group a.mirrored.mark.volume a.joined end a.copied.ends

  mirror_stops : (name : Word) (named : List Word) (o : Option Group) → MatchOption o (EndsIn (refusal.NoGroup None) old end new) (λ g. MirrorStopsIn g name named old end new) → IsNotDone end
  mirror_stops name named None ends = (denied _ ends).not_done
  mirror_stops name named (Some g) stops = mirror_in g name named stops

  detach_in : (g : Group) (name : Word) → DetachStopsIn g name old end new → IsNotDone end
  detach_in g name (inl (refused, rests)) = let is = refused_detach (runs_on_plexes old.world) g name end refused in told (ends.Refused is.0) tt is.1
  detach_in g name (inr (inl u)) = passing u.stops.rest.group u.volume.name old end u.stops.cause
  detach_in g name (inr (inr (inl n))) = told (ends.Refused (refusal.OnlyPlex name)) tt n.end_is
  detach_in g name (inr (inr (inr c))) = committing c.stops.0 c.mid c.stops.2

  detach_stops : (name : Word) (o : Option Group) → MatchOption o (EndsIn (refusal.NoGroup None) old end new) (λ g. DetachStopsIn g name old end new) → IsNotDone end
  detach_stops name None ends = (denied _ ends).not_done
  detach_stops name (Some g) stops = detach_in g name stops

  copying_attach : (now : Group) (vol : Word) (before : Volume) (plex : Word) (from : Moment) (e : End) → AttachEnds now vol before plex from.counts new.counts e → IsNotDone e
  copying_attach now vol before plex from (ends.Done None parts blocks) ((count, is, some), none, bare) = let no : None ≡ Some count = is in cc
  copying_attach now vol before plex from (ends.Done (Some copied) parts blocks) tells = tt
  copying_attach now vol before plex from (ends.Fault told device parts) tells = tt
  copying_attach now vol before plex from (ends.Lost parts) tells = tt
  copying_attach now vol before plex from (ends.Refused r) tells = tt
  copying_attach now vol before plex from ends.ShelfFailed tells = tt
  copying_attach now vol before plex from ends.GroupLost tells = tt

  attach_in : (g : Group) (vol name : Word) → AttachStopsIn g vol name old end new → IsNotDone end
  attach_in g vol name (inl (refused, rests)) = let is = refused_attach (runs_on_plexes old.world vol) g vol name end refused in told (ends.Refused is.0) tt is.1
  attach_in g vol name (inr (inl c)) = committing c.stops.0 old c.stops.2
  attach_in g vol name (inr (inr a)) = copying_attach a.copied.group a.is.volume.name a.is.goes.volume name a.attached end a.copied.ends

  attach_stops : (vol name : Word) (o : Option Group) → MatchOption o (EndsIn (refusal.NoGroup None) old end new) (λ g. AttachStopsIn g vol name old end new) → IsNotDone end
  attach_stops vol name None ends = (denied _ ends).not_done
  attach_stops vol name (Some g) stops = attach_in g vol name stops

  unasked : (g : Group) (v : Vol) → UnaskedBy g v old end new → IsNotDone end
  unasked g v (inl (is, none)) = told (ends.Refused (refusal.NoLog v.name)) tt is
  unasked g v (inr (inl (disk, device, is, fails))) = told (ends.Fault disk device []) tt is
  unasked g v (inr (inr (is, cut))) = told lost tt is

  unreadied : (way : Way) (g : Group) (v : Vol) → StopsUnreadied way g v old end new → IsNotDone end
  unreadied ByRecord g v stops = absurd stops
  unreadied FromLog g v stops = absurd stops
  unreadied FromRest g v stops = passing stops.rest.group v.name old end stops.cause
  unreadied ByLog g v (touched, narrows, why) = unasked g v why

  leaves_of : (remove : Bool) (g : Group) (p : Plex) (o : Option Word) → LeavingStopsOf remove g p o old end new → IsNotDone end
  leaves_of remove g p None stops = committing stops.0 old stops.2
  leaves_of remove g p (Some vol) (v, is, inl u) = unreadied (way_of (is_data p.kind) (runs_on_plexes old.world v.name) v) g v u
  leaves_of remove g p (Some vol) (v, is, inr (inl kept)) = told (ends.Refused (refusal.OnlyPlex p.name)) tt kept.end_is
  leaves_of remove g p (Some vol) (v, is, inr (inr c)) = committing c.stops.0 c.mid c.stops.2

  leaves_in : (g : Group) (remove : Bool) (name : Word) → LeavingStopsIn g remove name old end new → IsNotDone end
  leaves_in g remove name (inl (refused, rests)) = let is = refused_leaving (runs_on_plexes old.world) g remove name end refused in told (ends.Refused is.0) tt is.1
  leaves_in g remove name (inr (p, may, stops)) = leaves_of remove g p p.vol stops

  leaves_stops : (remove : Bool) (name : Word) (o : Option Group) → MatchOption o (EndsIn (refusal.NoGroup None) old end new) (λ g. LeavingStopsIn g remove name old end new) → IsNotDone end
  leaves_stops remove name None ends = (denied _ ends).not_done
  leaves_stops remove name (Some g) stops = leaves_in g remove name stops

  stop_stops : (name : Word) → StopStops name old end new → IsNotDone end
  stop_stops name (inl (inl (r, e, is), rests)) = told (ends.Refused r) tt is
  stop_stops name (inl (inr (g, here, none, (v, found, (next, edited, (text, printed, long, is)))), rests)) = told (ends.Refused _) tt is
  stop_stops name (inr (inl r)) = passing r.rest.group name old end r.cause
  stop_stops name (inr (inr b)) = committing b.writing b.mid b.stopped

  -- a stage that ends the command has not done it, but that a start, a mirror and a plex that goes into use tell of their regions
  not_done : (s : Stage) (disks : List DiskAt) → Stops s disks old end new → IsNotDone end
  not_done (stage.Start vol) disks stops = start_stops vol old.world.group stops
  not_done (stage.Mirror mirror) disks stops = mirror_stops mirror.vol mirror.disks old.world.group stops
  not_done (stage.Detach plex) disks stops = detach_stops plex old.world.group stops
  not_done (stage.Attach vol plex) disks stops = attach_stops vol plex old.world.group stops
  not_done (stage.Dissociate plex remove) disks stops = leaves_stops remove plex old.world.group stops
  not_done (stage.Stop vol) disks stops = stop_stops vol stops
  not_done other disks stops = (has_stopped other disks refl stops).not_done

-- ---- the stages of a command that is done

-- the stages were done one after the other, and all went well
abbrev pub AllDone : List DiskAt → List Stage → Moment → Moment → Type 0
AllDone disks [] old new = new ≡ old
AllDone disks (s ∷ ss) old new = (mid : Moment) × WentWell old new × IsDone s disks old mid × AllDone disks ss mid new

all_done : (disks : List DiskAt) (stages : List Stage) (finish : Finish) (old : Moment) (views : List View) (end : End) (new : Moment) → Runs disks stages finish old views end new → end ≡ done → WentWell old new → AllDone disks stages old new
all_done disks [] finish old views end new (shows, is, same) over well = same
all_done disks (s ∷ ss) finish old views end new (inl (mid, later, is, rest)) over well = (mid, well, is, all_done disks ss finish mid views end new rest over (well_after old mid new later (runs_later disks ss finish mid views end new rest) well))
all_done disks (s ∷ ss) finish old views end new (inr (none, later, stops)) over well = absurd (subst IsNotDone over (not_done old new end s disks stops))

same_moment : (a b : Moment) → a.world ≡ b.world → a.counts ≡ b.counts → a ≡ b
same_moment a b worlds counts = λ i. record { world = worlds i; counts = counts i }

-- a command that is done leaves the moment at which it was over
pub left_so : (Does : Moment → List View → End → Moment → Type 0) (old : Moment) (answer : Answer) (new : Moment) (s : Serves Does AreAsBefore old answer new) → s.end ≡ done → new ≡ s.over
left_so Does old answer new s is = same_moment new s.over (subst (λ (e : End). Leaves e s.over.world new.world) is s.leaves) s.counts

pub stages_done : (disks : List DiskAt) (stages : List Stage) (old new : Moment) → Serves (Runs disks stages Nothing) AreAsBefore old is_done new → WentWell old new → AllDone disks stages old new
stages_done disks stages old new s well =
    let told : is_done ≡ One s.views s.end = s.told in
    let is : s.end ≡ done = cc in
    let same = left_so (Runs disks stages Nothing) old is_done new s is in
    subst (λ (m : Moment). AllDone disks stages old m) (sym same) (all_done disks stages Nothing old s.views s.end s.over s.does is (subst (λ (m : Moment). WentWell old m) same well))

-- what a command of this form does
pub served : (place : ℕ) (c : Command) (f : Form) (old : Moment) (answer : Answer) (new : Moment) → IsOf f c → Step place c old answer new → Serves (DoesForm place c.group f) AreAsBefore old answer new
served place c f old answer new is step =
    subst (λ (x : Form). Serves (DoesForm place c.group x) AreAsBefore old answer new) is.form_is
    (subst (λ (o : Option ℕ). Serves (DoesForm place c.group c.form) (CountsAfter o) old answer new) is.uncut step)

-- ---- what went well

up_to : (a b c : ℕ) → a ≤ b → b ≤ c → c ≡ a → b ≡ a
up_to a b c low high same = omega arith

room : (b c top : ℕ) → b ≤ c → c ≤ top → b ≤ top
room b c top low high = omega arith

still_on : (b c : Bool) → (IsTrue b → IsTrue c) → c ≡ false → b ≡ false
still_on false c goes off = refl
still_on true true goes off = off
still_on true false goes off = sym (goes refl)

pub well_before : (old mid new : Moment) → AreLater old.counts mid.counts → AreLater mid.counts new.counts → WentWell old new → WentWell old mid
well_before old mid new first next well = record {
  quiet = record {
    devices = λ name. up_to (old.counts.faults name) (mid.counts.faults name) (new.counts.faults name) (first.faults name) (next.faults name) (well.quiet.devices name);
    shelf = up_to old.counts.shelf mid.counts.shelf new.counts.shelf first.shelf next.shelf well.quiet.shelf;
  };
  powered = λ name. still_on (mid.counts.cut name) (new.counts.cut name) (next.cut name) (well.powered name);
  room = λ name. room (mid.counts.faults name) (new.counts.faults name) 18446744073709551614 (next.faults name) (well.room name);
  shelf_room = room mid.counts.shelf new.counts.shelf 18446744073709551614 next.shelf well.shelf_room;
}

-- the world does not count
pub same_well : (old mid new : Moment) → new.counts ≡ mid.counts → WentWell old new → WentWell old mid
same_well old mid new same well =
    let Well : Counts → Type 0 = λ c. WentWell old (record { world = mid.world; counts = c }) in
    subst Well same (record { quiet = well.quiet; powered = well.powered; room = well.room; shelf_room = well.shelf_room })

pub none_failed : (old new : Moment) → WentWell old new → NoneFailed old.counts new.counts
none_failed old new well name failed = calm old new well name failed

pub well_from : (old mid new : Moment) → mid.counts ≡ old.counts → WentWell old new → WentWell mid new
well_from old mid new same well =
    record { quiet = subst (λ (c : Counts). IsQuiet c new.counts) (sym same) well.quiet; powered = well.powered; room = well.room; shelf_room = well.shelf_room }
