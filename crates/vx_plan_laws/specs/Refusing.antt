-- Why a command of a plan is refused: by a test, as its text is too long, as a new volume or a mirror has no plan, as a mirror's records break a
-- rule, or as the name of a disk is taken.
use Rattle.std.specs.Prelude.{◌≡◌, ◌⊎◌, Bool, ℕ, ◌&&◌, true, false, is_some, Option, Some, None, List, [], ◌∷◌}
use Rattle.vx_base.specs.Named.{Word}
use Rattle.vx_block.specs.Regions.{region_count}
use Rattle.vx_config_parts.specs.declared.object.Object.{Object}
use Rattle.vx_config_parts.specs.declared.vol.Vol.{Vol}
use Rattle.vx_rules.specs.References.{has_name}
use Rattle.vx_objects.specs.declared.config.Config.{Config}
use Rattle.vx_objects.specs.declared.edit.Edit.{Edit}
use Rattle.vx_objects.specs.declared.edit.Edit.TheVariants.{Make}
use Rattle.vx_objects.specs.Applied.{IsEdited}
use Rattle.vx_objects.specs.Config.{objects_of}
use Rattle.vx_script_words.specs.declared.value.DiskAt.{DiskAt}
use Rattle.vx_script_forms.specs.declared.act.Act.TheVariants as act
use Rattle.vx_script_forms.specs.declared.form.Form.{Form}
use Rattle.vx_script_forms.specs.declared.form.Form.TheVariants as form
use Rattle.vx_answers.specs.declared.answer.End.{End}
use Rattle.vx_answers.specs.declared.answer.End.TheVariants as ends
use Rattle.vx_answers.specs.declared.answer.View.{View}
use Rattle.vx_answers.specs.declared.refusal.Refusal.{Refusal}
use Rattle.vx_answers.specs.declared.refusal.Refusal.TheVariants as refusal
use Rattle.vx_moments.specs.World.{World, Group, Volume}
use Rattle.vx_moments.specs.Moment.{Moment}
use Rattle.vx_image.specs.Image.{IsFilled}
use Rattle.vx_moments.specs.Group.{image_on}
use Rattle.vx_state_edits.specs.Edits.{start_edits, stop_edits}
use Rattle.vx_state_texts.specs.Texts.{all_maps}
use Rattle.vx_plans.specs.Laws.{WentWell, HasCarriers}
use Rattle.vx_stages.specs.Making.{adding_refusal, is_started}
use Rattle.vx_stages.specs.Sources.{AddsFrom, Denies, growth}
use Rattle.vx_plans.specs.Plans.{disks_of, new_volume, plan_of}
use Rattle.vx_stages.specs.Attached.{IsCopyCount}
use Rattle.vx_stages.specs.Detached.{StopsNeeded}
use Rattle.vx_stages.specs.Ends.{RefusedAsGrown, RefusedAsLong, refused}
use Rattle.vx_stages.specs.Stages.{IsDone, OnlyDisk, Stops, edits_of, joining_edit}
use Rattle.vx_stages.specs.Starting.{HasNoReadCopy, IsFirstMissed, may_start, refusal_at_once, regions_copied}
use Rattle.vx_plans.specs.Steps.{Runs, done}
use Rattle.vx_new_volumes.specs.declared.logs.NewLogs.{NewLogs}
use Rattle.vx_stages.specs.Leaving.{IsLeavingRefused}
use Rattle.vx_stages.specs.Left.{StopsLate}
use Rattle.vx_stages.specs.Logging.{IsPrepareRefused, IsUnprepareRefused}
use Rattle.vx_stages.specs.Mirroring.{IsMirrorRefused}
use Rattle.vx_stages.specs.Plexes.{IsAttachRefused, IsDetachRefused}
use Rattle.vx_stages.specs.Stopping.{is_active, runs_on_plexes}
use Rattle.vx_stages.specs.Tests.{volume_in}
use Rattle.vx_stages.specs.declared.stage.Source.TheVariants as source
use Rattle.vx_stages.specs.declared.stage.Stage.{Stage}
use Rattle.vx_stages.specs.declared.stage.Stage.TheVariants as stage
use Rattle.vx_plans.specs.declared.stages.Plan.{Plan}

-- the imported group is such
abbrev pub OfGroup : World → (Group → Type 0) → Type 0
OfGroup w Holds = (g : Group) × (w.group ≡ Some g) × Holds g

-- the group's text is too long after these edits
abbrev pub IsTooLong : List Edit → Group → Refusal → Type 0
IsTooLong edits g r = (config : Config) × IsEdited edits g.config config × RefusedAsLong config (refused r)

-- so it is of the text as it has grown by so many bytes until the command is over
abbrev pub IsTooLongGrown : ℕ → List Edit → Group → Refusal → Type 0
IsTooLongGrown more edits g r = (config : Config) × IsEdited edits g.config config × RefusedAsGrown more config (refused r)

-- the group records such a volume under the name
abbrev pub OfVolume : Word → Group → (Vol → Type 0) → Type 0
OfVolume name g Holds = (v : Vol) × (volume_in name g.config.volumes ≡ Some v) × Holds v

-- ---- a start, a mirror and a stop

-- Nothing refuses it at once, but a volume that was started before cannot be opened: no copy of its log could be read, and each that counts
-- has failed; or in some region no plex is current.
abbrev pub OpeningRefuses : Group → Vol → Moment → Refusal → Moment → Type 0
OpeningRefuses g v old r new =
    (refusal_at_once g v ≡ None) × IsFilled v.state
    × (((r ≡ refusal.NoLog v.name) × (is_some v.dco ≡ true) × HasNoReadCopy g v old new)
    ⊎ ((region : ℕ) × (r ≡ refusal.NoCurrent region) × IsFirstMissed (image_on old.world.devices g v) region))

-- A volume is not started: its state does not fit; or the configuration and the good disks refuse it, or the text would be too long, or it
-- cannot be opened.
abbrev pub StartRefuses : Group → Vol → Moment → Refusal → Moment → Type 0
StartRefuses g v old r new =
    ((may_start v.state ≡ false) × (r ≡ refusal.VolState v.state))
    ⊎ ((may_start v.state ≡ true) × ((refusal_at_once g v ≡ Some r) ⊎ (((refusal_at_once g v ≡ None) × IsTooLong (start_edits g.config v) g r) ⊎ OpeningRefuses g v old r new)))

-- A volume gets no mirror on these disks: a test before the plan refuses it, or there is no plan, or no records of it, or the records break a
-- rule of the configuration, or the text would be too long.
abbrev pub MirrorRefuses : Word → List Word → Group → World → Refusal → Type 0
MirrorRefuses name disks g w r = IsMirrorRefused (runs_on_plexes w name) g name disks (refused r)

-- A volume gets no logs: a test before the plan refuses that, or there is no plan, or the edits break a rule, or the text would be too long.
abbrev pub PrepareRefuses : NewLogs → Group → World → Refusal → Type 0
PrepareRefuses n g w r = IsPrepareRefused (runs_on_plexes w n.vol) g n (refused r)

-- A volume does not lose its logs: a test refuses that, or the edits break a rule, or the text would be too long.
abbrev pub UnprepareRefuses : Word → Group → Refusal → Type 0
UnprepareRefuses name g r = IsUnprepareRefused g name (refused r)

-- A plex does not go out of use: a test refuses that, or its edit breaks a rule, or the text would be too long; or its volume has come to rest, and
-- some region has no other plex that is current.
abbrev pub DetachRefuses : Word → Group → Moment → Refusal → Moment → Type 0
DetachRefuses plex g old r new = IsDetachRefused (runs_on_plexes old.world) g plex (refused r) ⊎ StopsNeeded plex old (refused r) new

-- A plex does not go into use: a test refuses that, or its edit breaks a rule, or the text would be too long.
abbrev pub AttachRefuses : (vol plex : Word) → Group → World → Refusal → Type 0
AttachRefuses vol plex g w r = IsAttachRefused (runs_on_plexes w vol) g vol plex (refused r)

-- A plex does not leave its volume: a test refuses that, or its edit breaks a rule, or the text would be too long; or behind the tests no copy of its
-- log can be read, or it cannot be spared.
abbrev pub LeavingRefuses : (remove : Bool) → Word → Group → Moment → Refusal → Moment → Type 0
LeavingRefuses remove plex g old r new = IsLeavingRefused (runs_on_plexes old.world) g remove plex (refused r) ⊎ StopsLate remove plex old (refused r) new

-- A volume is not stopped: it does not run, or its state does not fit; or the text would be too long.
abbrev pub StopRefuses : Word → Group → Vol → World → Refusal → Type 0
StopRefuses name g v w r =
    (((runs_on_plexes w name && is_active v.state) ≡ false) × (r ≡ refusal.VolState v.state))
    ⊎ (((runs_on_plexes w name && is_active v.state) ≡ true) × IsTooLong (stop_edits g.config v all_maps) g r)

-- ---- each stage

-- A stage of a plan refuses its command. One that changes a configuration does so where the text would be too long; one that
-- adds records, where there are none or a test of the records refuses them, too; one by which a disk joins, where the
-- disk's name is taken; and a start, a mirror, a stop, logs that come and go, and plexes that go out of use and into use or leave by what
-- they find of their volume. Any other stage has tests alone.
abbrev pub Refuses : Stage → List DiskAt → Moment → Refusal → Moment → Type 0
Refuses (stage.Change change) disks old r new = OfGroup old.world (λ g. IsTooLong (edits_of change (Some g)) g r)
Refuses (stage.Make from) disks old r new =
    OfGroup old.world (λ g. Denies from (is_started old.world) g r
    ⊎ ((added : List Object) × AddsFrom from (is_started old.world) g added
    × ((adding_refusal (is_started old.world) (objects_of g.config) added ≡ Some r) ⊎ IsTooLongGrown (growth from added) (Make added ∷ []) g r)))
Refuses stage.Join disks old r new =
    OnlyDisk disks (λ p. OfGroup old.world (λ g. ((has_name p.disk (objects_of g.config) ≡ true) × (r ≡ refusal.Exists p.disk)) ⊎ IsTooLong (joining_edit p old.world g ∷ []) g r))
Refuses (stage.Start vol) disks old r new = OfGroup old.world (λ g. OfVolume vol g (λ v. StartRefuses g v old r new))
Refuses (stage.Mirror mirror) disks old r new = OfGroup old.world (λ g. MirrorRefuses mirror.vol mirror.disks g old.world r)
Refuses (stage.Prepare logs) disks old r new = OfGroup old.world (λ g. PrepareRefuses logs g old.world r)
Refuses (stage.Unprepare vol) disks old r new = OfGroup old.world (λ g. UnprepareRefuses vol g r)
Refuses (stage.Detach plex) disks old r new = OfGroup old.world (λ g. DetachRefuses plex g old r new)
Refuses (stage.Attach vol plex) disks old r new = OfGroup old.world (λ g. AttachRefuses vol plex g old.world r)
Refuses (stage.Dissociate plex remove) disks old r new = OfGroup old.world (λ g. LeavingRefuses remove plex g old r new)
Refuses (stage.Stop vol) disks old r new = OfGroup old.world (λ g. OfVolume vol g (λ v. StopRefuses vol g v old.world r))
Refuses other disks old r new = Stops other disks old (refused r) new

-- the command goes on behind the stage: one that adds records is done, and any other leaves the world
abbrev pub IsPassed : Stage → List DiskAt → Moment → Moment → Type 0
IsPassed (stage.Make from) disks old mid = IsDone (stage.Make from) disks old mid
IsPassed other disks old mid = mid.world ≡ old.world

-- one of the stages refuses, at the moment to which those before it have led
abbrev pub OneRefuses : List Stage → List DiskAt → Moment → Refusal → Moment → Type 0
OneRefuses [] disks old r new = ⊥
OneRefuses (s ∷ ss) disks old r new = Refuses s disks old r new ⊎ ((mid : Moment) × IsPassed s disks old mid × OneRefuses ss disks mid r new)

-- no command of a plan is refused by a rule of a configuration behind its tests, but adddisk for a name, and a mirror, logs, and the state or the
-- leaving of a plex whose edits break one
abbrev pub EachRefusalIsTested : Type 0
EachRefusalIsTested =
    (dg : Option Word) (f : Form) (plan : Plan) (old : Moment) (views : List View) (r : Refusal) (new : Moment)
    → plan_of dg f ≡ Some plan → Runs (disks_of f) plan.stages plan.finish old views (refused r) new
    → OneRefuses plan.stages (disks_of f) old r new

-- a start tells how many regions it has copied of the volume, as the group recorded it before
abbrev pub TellsCopied : Word → World → End → Type 0
TellsCopied vol w end = OfGroup w (λ g. OfVolume vol g (λ v. end ≡ ends.Done (Some (regions_copied g v)) [] []))

-- a mirror tells that all regions of the volume were copied
abbrev pub TellsMirrored : Word → World → End → Type 0
TellsMirrored vol w end = OfGroup w (λ g. OfVolume vol g (λ v. end ≡ ends.Done (Some (region_count v.len v.region)) [] []))

-- a plex that goes into use tells how many regions were copied: those that it missed, as its volume ran before
abbrev pub TellsAttached : (vol plex : Word) → World → End → Type 0
TellsAttached vol plex w end = (run : Volume) × (w.volumes vol ≡ Some run) × (count : ℕ) × (end ≡ ends.Done (Some count) [] []) × IsCopyCount run plex count

-- all is done: a start tells how many regions it has copied, also that of a new volume, behind the moment in which its records are added,
-- and so do a mirror and a plex that goes into use; and nothing else is told
abbrev pub IsDoneBy : Form → Moment → End → Type 0
IsDoneBy (form.Start vol) old end = TellsCopied vol old.world end
IsDoneBy (form.AssistMake vol length attrs disks) old end =
    (mid : Moment) × IsDone (stage.Make (source.Volume (new_volume vol length attrs disks))) [] old mid × TellsCopied vol mid.world end
IsDoneBy (form.Mirror vol disks) old end = TellsMirrored vol old.world end
IsDoneBy (form.Acting (act.PlexAtt vol plex)) old end = TellsAttached vol plex old.world end
IsDoneBy other old end = end ≡ done

-- where nothing failed and the power stayed, all is done, or a stage has refused so
abbrev pub EachCommandIsDoneOrTested : Type 0
EachCommandIsDoneOrTested =
    (dg : Option Word) (f : Form) (plan : Plan) (old : Moment) (views : List View) (end : End) (new : Moment)
    → plan_of dg f ≡ Some plan → Runs (disks_of f) plan.stages plan.finish old views end new
    → WentWell old new → HasCarriers f old.world
    → IsDoneBy f old end ⊎ ((r : Refusal) × (end ≡ refused r) × OneRefuses plan.stages (disks_of f) old r new)
