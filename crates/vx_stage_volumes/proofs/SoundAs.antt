-- Where the power goes in the commit of a start, of the end of a recovery or of a stop, an import may find the new configuration: as that records
-- it too, the volume is sound by its bytes.
use Rattle.std.proofs.Common.{◌≡◌, ◌∙◌, ℕ, Bool, true, false, List, [], ◌∷◌, ◌++◌, Some, refl, sym, ap, subst}
use Rattle.std.specs.Prelude.{Contains}
use Rattle.std.specs.List.{All, flat_map}
use Rattle.vx_pages.specs.declared.local_piece.LocalPiece.{Ghosts}
use Rattle.vx_base.specs.Blocks.{Contents}
use Rattle.vx_base.specs.Named.{Word}
use Rattle.vx_mask.specs.Mask.{has}
use Rattle.vx_piece.specs.Seen.{Seen, AreCounts, EndsThere}
use Rattle.vx_carve.specs.Together.{Holds}
use Rattle.vx_config_parts.specs.declared.object.Object.TheVariants.{VolRecord}
use Rattle.vx_config_parts.specs.declared.state.VolState.TheVariants as vol
use Rattle.vx_config_parts.specs.declared.vol.Vol.{Vol}
use Rattle.vx_copies.specs.Disks.{DiskSeen}
use Rattle.vx_confdb.specs.Groups.{members}
use Rattle.vx_fronts.proofs.Parted.{all_parts}
use Rattle.vx_rules.proofs.InOrder.{names_differ}
use Rattle.vx_objects.specs.declared.config.Config.{Config}
use Rattle.vx_objects.specs.Applied.{IsEdited}
use Rattle.vx_objects.specs.Config.{objects_of}
use Rattle.vx_image.proofs.PlexMembers.{one_in, one_named}
use Rattle.vx_image.proofs.Plexes.{config_valid}
use Rattle.vx_state_edits.specs.Edits.{is_new, stop_edits}
use Rattle.vx_image.specs.Bytes.{Sectors, image_of}
use Rattle.vx_image.specs.Soundness.{IsSoundImage}
use Rattle.vx_image.specs.UsedPlexes.{IsVolOf}
use Rattle.vx_image.proofs.Members.{is_in}
use Rattle.vx_moments.specs.Moment.{Moment}
use Rattle.vx_moments.specs.World.{Group, Volume, World}
use Rattle.vx_group_edits.proofs.ByKind.{records_vol}
use Rattle.vx_moments.specs.Group.{image_on, sectors_of}
use Rattle.vx_group_stop.specs.Laws.{AreSettled}
use Rattle.vx_volume.specs.Volume.{volume_seen}
use Rattle.vx_lending.specs.Form.{IsFormOf}
use Rattle.vx_volume_laws.specs.Contents.{AreSectorsOf}
use Rattle.vx_volume_laws.specs.Keeping.{ChangesStates}
use Rattle.vx_volume_laws.specs.Leaving.{AreNamedIn, EachLeavingStands, EachStopStands}
use Rattle.vx_volume_laws.proofs.Configurations.{kept_named}
use Rattle.vx_volume_laws.proofs.Restated.{restated_kept}
use Rattle.vx_lending.specs.declared.public.Public.{Public}
use Rattle.vx_lending.specs.declared.public.Running.{Running}
use Rattle.vx_lending.specs.Public.{running_pieces, still_pieces, stuck_pieces}
use Rattle.vx_group_start.specs.Fresh.{is_fresh}
use Rattle.vx_group_start.specs.Started.{IsStarted}
use Rattle.vx_group_volumes.specs.Laws.{EachStopChangesStates}
use Rattle.vx_group_volumes.specs.Runs.{RunsIn}
use Rattle.vx_group_volumes.proofs.Leavings.{leaving_stands}
use Rattle.vx_group_volumes.proofs.Starts.{started_runs}
use Rattle.vx_stages.specs.Recorded.{IsSoundAs}
use Rattle.vx_stages.specs.Starting.{volume_started}
use Rattle.vx_house.specs.Runs.{IsRunOf}
use Rattle.vx_house.specs.View.{View, IsMomentButGroup, KeepsButGroup}
use Rattle.vx_house.specs.declared.house.Imported.{Imported}
use Rattle.vx_stage_volumes.specs.Opening.{may_open}
use Rattle.vx_stage_volumes.proofs.Held.{HoldsAlike, held, hold_lent, public_there}
use Rattle.vx_stage_volumes.proofs.Inserted.{flat_last}
use Rattle.vx_stage_volumes.proofs.Slots.{IsAtSlot, is_numbered}
use Rattle.vx_stage_volumes.proofs.Stands.{stands_clean}
use Rattle.vx_stage_volumes.proofs.StartRun.{BeginsAs, HaveLifeLaws, Runs, begins}
use Rattle.vx_stage_volumes.proofs.StillSectors.{sectors_are}

-- What laws promise of a volume that was opened and is to be recorded.
pub record HaveRecordedLaws : Type 0 where
  pub lives : HaveLifeLaws
  pub leaving : EachLeavingStands

-- ---- the volume of the name

-- one that is recorded under the name of another is that one
same_vol : (c : Config) (u v : Vol) → IsVolOf c u → Contains c.volumes v → v.name ≡ u.name → v ≡ u
same_vol c u v of there named = same v u (one_named [] (objects_of c) (VolRecord v) (VolRecord u) (names_differ (objects_of c) (config_valid c)) (records_vol c v (is_in c.volumes v there)) (one_in (objects_of c) (VolRecord u) of) named)
  where
    same : (x y : Vol) → VolRecord x ≡ VolRecord y → x ≡ y
    same x y e = cc

sound_as : (g : Group) (c : Config) (w : World) (u : Vol) → IsVolOf c u → IsSoundImage (image_on w.devices (record g { config = c }) u) → IsSoundAs g c u.name w
sound_as g c w u of sound v there named = subst (λ (x : Vol). IsSoundImage (image_on w.devices (record g { config = c }) x)) (sym (same_vol c u v of there named)) sound

-- ---- what its pieces hold

-- those of a volume that could not be put back hold what the devices of the group do
module _ {P : Type 0} {ghosts : Ghosts P} (see : P → Seen) (ends : (p : P) → EndsThere (see p)) (counts : (p : P) → AreCounts (see p)) (v : View P ghosts) (keeps : KeepsButGroup see v) (m : Moment) (is : IsMomentButGroup see v m) (g : Imported P ghosts) (has_group : v.house.group ≡ Some g) where
  pub holds_stuck : (before : List (Running P ghosts)) (r : Running P ghosts) → g.public.stuck.items ≡ before ++ r ∷ [] → HoldsAlike see (members see g.base) m.world.devices r
  holds_stuck before r last =
      let contents : ℕ → Contents = held see ends counts v keeps m is g has_group in
      let lent = hold_lent see ends counts v keeps m is g has_group in
      let stuck = (all_parts (Holds contents) (flat_map (running_pieces see) g.public.running.entries) (flat_map (stuck_pieces see) g.public.stuck.items) lent).1 in
      let own = subst (All (Holds contents)) (ap (flat_map (stuck_pieces see)) last ∙ flat_last (stuck_pieces see) before r) stuck in
      record { held = contents; hold = (all_parts (Holds contents) (flat_map (stuck_pieces see) before) (stuck_pieces see r) own).1; public = public_there see ends counts v keeps m is g has_group }

-- ---- a start or a recovery

-- The volume v of the group was opened, and runs by the configuration that is to be written: so what it has left is sound.
module _ {P : Type 0} {ghosts : Ghosts P} (laws : HaveRecordedLaws) (hs : List DiskSeen) (g : Group) (v : Vol) (of : IsVolOf g.config v) (may : may_open v.state ≡ true) (numbers : List ℕ) (old new : Public P ghosts) (running : Running P ghosts)
    (form : IsFormOf g.config g.good v (is_fresh v.state) running.form) (started : IsStarted ghosts.seen v numbers old new running) (at_slot : (slot : ℕ) → has g.good slot ≡ true → IsAtSlot numbers hs g.members slot)
    (before : World) (contents : ℕ → Contents) (still : All (Holds contents) (still_pieces ghosts.seen old)) (sectors : AreSectorsOf g.good numbers contents (sectors_of before.devices g.members))
    (after : World) (alike : HoldsAlike ghosts.seen hs after.devices running) (c : Config)
    (recorded : IsVolOf c (record v { state = vol.Active }) × ChangesStates g.config g.good v (is_fresh v.state) c g.good (record v { state = vol.Active })) where
  abbrev see : P → Seen
  see = ghosts.seen

  abbrev bytes : Sectors
  bytes = sectors_of before.devices g.members

  abbrev bytes' : Sectors
  bytes' = sectors_of after.devices g.members

  abbrev active : Vol
  active = record v { state = vol.Active }

  runs : RunsIn see c g.good numbers active running
  runs = started_runs g.config g.good v numbers old new running of form started c g.good active recorded.0 tt recorded.1

  begun : BeginsAs g v (image_on before.devices g v) (Runs laws.lives g v of may numbers old new running form started bytes)
  begun = begins laws.lives g v of may numbers old new running form started bytes contents still sectors

  sound_begun : (is_new v.state ≡ false → IsSoundImage (image_on before.devices g v)) → begun.sound ≡ true
  sound_begun was = by (is_new v.state) refl
    where
      by : (b : Bool) → is_new v.state ≡ b → begun.sound ≡ true
      by true never = begun.if_new never
      by false once = begun.if_sound (was once)

  sectors_left : AreSectorsOf g.good numbers alike.held bytes'
  sectors_left = sectors_are after.devices hs g.members g.good numbers alike.held alike.public (λ slot good. is_numbered numbers hs g.members slot (at_slot slot good))

  names_left : AreNamedIn (image_of c g.good bytes' active).plexes (image_of g.config g.good bytes v).plexes
  names_left = kept_named g.config g.good v (is_fresh v.state) c g.good active (restated_kept g.config g.good v (is_fresh v.state) c g.good active recorded.1) bytes bytes'

  pub begin_sound : (is_new v.state ≡ false → IsSoundImage (image_on before.devices g v)) → IsSoundAs g c v.name after
  begin_sound was =
      let known = sound_begun was in
      let as_begun = begun.runs known in
      let w : Volume = volume_started g v (image_on before.devices g v) begun.sound in
      sound_as g c after active recorded.0
      (leaving_stands see running c g.good numbers active runs laws.leaving tt (image_on before.devices g v).plexes w as_begun.0 as_begun.1 alike.held alike.hold bytes' sectors_left names_left).sound

-- ---- a stop

-- The volume has come to rest, and the configuration is to be written by its marks: by that its image stands for it, and so is sound.
module _ {P : Type 0} {ghosts : Ghosts P} (see : P → Seen) (law : EachStopStands) (states : EachStopChangesStates) (hs : List DiskSeen) (g : Group) (name : Word) (r : Running P ghosts) (w : Volume) (run : IsRunOf see hs g name r w) (world : World) (alike : HoldsAlike see hs world.devices r)
    (settled : AreSettled (volume_seen see r.volume)) (marks : ℕ) (c : Config) (edited : IsEdited (stop_edits g.config run.of marks) g.config c) where
  pub stop_sound : w.sound ≡ true → IsSoundAs g c name world
  stop_sound known =
      let clean : Vol = record run.of { state = vol.Clean } in
      subst (λ n. IsSoundAs g c n world) run.named
      (sound_as g c world clean (states g.config run.of marks run.placed.runs.recorded c edited g.good).0
      (stands_clean see law states hs g name r w run world.devices alike settled marks c edited g.good (λ slot e. e) known).0.sound)
