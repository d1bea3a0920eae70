-- With a plex that each copy of its log marks everywhere, a running volume is sound by its bytes.
use Rattle.std.proofs.Common.{◌≡◌, ◌∙◌, ℕ, ◌+◌, ◌<◌, Bool, true, false, cond, List, [], length, Option, Some, refl, sym, ap, subst, inl, inr}
use Rattle.std.specs.Prelude.{Contains, nat_lt, slice_index}
use Rattle.std.specs.List.{All}
use Rattle.std.proofs.lemmas.Bool.{false≢true}
use Rattle.vx_base.specs.Blocks.{Contents}
use Rattle.vx_base.specs.Named.{Word}
use Rattle.vx_block.specs.Regions.{region_count}
use Rattle.vx_mask.specs.Mask.{has}
use Rattle.vx_piece.specs.Seen.{Seen}
use Rattle.vx_carve.specs.Together.{Holds}
use Rattle.vx_pages.specs.declared.local_piece.LocalPiece.{Ghosts}
use Rattle.vx_config_parts.specs.declared.object.Object.{Object}
use Rattle.vx_config_parts.specs.declared.object.Object.TheVariants.{VolRecord}
use Rattle.vx_config_parts.specs.declared.vol.Vol.{Vol}
use Rattle.vx_copies.specs.Disks.{DiskSeen}
use Rattle.vx_rules.proofs.InOrder.{names_differ}
use Rattle.vx_objects.specs.declared.config.Config.{Config}
use Rattle.vx_objects.specs.Config.{objects_of}
use Rattle.vx_image.proofs.PlexMembers.{IsIn, one_in, one_named}
use Rattle.vx_image.proofs.Plexes.{config_valid}
use Rattle.vx_image.specs.Bytes.{Sectors, image_of, map_or_zero, plex_image}
use Rattle.vx_image.specs.Image.{Image, LogCopy, is_marked_by_all, regions_of}
use Rattle.vx_image.specs.Own.{SameInside}
use Rattle.vx_image.specs.Soundness.{IsSoundImage}
use Rattle.vx_image.specs.UsedPlexes.{IsVolOf}
use Rattle.vx_image.proofs.Members.{all_from_each, is_in}
use Rattle.vx_image.proofs.Own.{image_own}
use Rattle.vx_moments.specs.World.{Group, Volume, World}
use Rattle.vx_group_edits.proofs.ByKind.{records_vol}
use Rattle.vx_moments.specs.Group.{image_on, public_of, sectors_of}
use Rattle.vx_volume.specs.Volume.{VolumeSeen, log_of, volume_seen}
use Rattle.vx_lending.specs.RegionPieces.{all_pieces}
use Rattle.vx_lending.specs.declared.public.Running.{Running}
use Rattle.vx_lending.specs.Left.{region_plexes}
use Rattle.vx_lending.specs.Logs.{log_copies}
use Rattle.vx_lending.specs.Pieces.{copy_pieces}
use Rattle.vx_volume_laws.specs.Contents.{AreSectorsOf}
use Rattle.vx_volume_laws.specs.Leaving.{EachLeavingStands}
use Rattle.vx_volume_laws.specs.Lying.{LiesAs}
use Rattle.vx_volume_laws.proofs.LeftCopies.{copy_now}
use Rattle.vx_volume_laws.proofs.Spots.{all_right}
use Rattle.vx_group_volumes.specs.Runs.{Opening, RunsIn}
use Rattle.vx_group_volumes.proofs.Leavings.{leaving_stands}
use Rattle.vx_group_edits.specs.Joins.{Joins}
use Rattle.vx_group_edits.proofs.Joined.{plex_joins}
use Rattle.vx_group_edits.proofs.Marked.{marked_sound}
use Rattle.vx_stages.specs.Recorded.{IsMarkedEverywhere, IsSoundAs}
use Rattle.vx_house.specs.Runs.{IsRunOf}
use Rattle.vx_house_calls.proofs.Entries.{all_at_one}
use Rattle.vx_stage_volumes.proofs.Stands.{sectors_at}
use Rattle.vx_stage_mirrors.specs.MarkedLaws.{AddsPlex, EachMarkedVolumeIsSound, EachShownPlexIsSound, HoldsOnDevices, IsShownIn, IsSoundMarked}
use Rattle.vx_group_edits.proofs.PlexAdded.{image_added}
use Rattle.vx_stage_mirrors.proofs.Shown.{mark_shown}

-- one that is recorded under the name of another is that one
same_vol : (c : Config) (u v : Vol) → IsVolOf c u → Contains c.volumes v → v.name ≡ u.name → v ≡ u
same_vol c u v of there named = same v u (one_named [] (objects_of c) (VolRecord v) (VolRecord u) (names_differ (objects_of c) (config_valid c)) (records_vol c v (is_in c.volumes v there)) (one_in (objects_of c) (VolRecord u) of) named)
  where
    same : (x y : Vol) → VolRecord x ≡ VolRecord y → x ≡ y
    same x y e = cc

module _ {P : Type 0} {ghosts : Ghosts P} (see : P → Seen) (law : EachLeavingStands) (hs : List DiskSeen) (g : Group) (name : Word) (r : Running P ghosts) (w : Volume) (run : IsRunOf see hs g name r w) (known : w.sound ≡ true)
    (map : ℕ) (shown : IsShownIn map (volume_seen see r.volume)) (world : World) (held : ℕ → Contents) (holds : HoldsOnDevices see hs world.devices held r) where
  abbrev bytes : Sectors
  bytes = sectors_of world.devices g.members

  -- the sectors of good disks by the numbers of the opening
  abbrev meant : Sectors
  meant slot k = cond (has g.good slot) (held (slice_index run.numbers slot) (2048 + k)) (bytes slot k)

  meant_good : AreSectorsOf g.good run.numbers held meant
  meant_good slot sector good = ap (λ b. cond b (held (slice_index run.numbers slot) (2048 + sector)) (bytes slot sector)) good

  same_inside : SameInside g.config run.of.name meant bytes
  same_inside place of = by (has g.good place.disk) refl
    where
      by : (b : Bool) → has g.good place.disk ≡ b → bytes place.disk place.sector ≡ cond b (held (slice_index run.numbers place.disk) (2048 + place.sector)) (bytes place.disk place.sector)
      by false e = refl
      by true e =
          let n = run.numbered place of e in
          sectors_at world.devices g.members place.disk n.disk.device n.device place.sector
          ∙ all_at_one (λ (h : DiskSeen). (k : ℕ) → public_of (world.devices h.device) k ≡ held h.seen.device (2048 + k)) hs n.disk holds.public n.there place.sector
          ∙ ap (λ number. held number (2048 + place.sector)) (sym n.number)

  abbrev runs : RunsIn see g.config g.good run.numbers run.of r
  runs = run.placed.runs

  abbrev opening : Opening
  opening = runs.opening

  abbrev seen : VolumeSeen
  seen = volume_seen see r.volume

  abbrev copies : List (List Seen)
  copies = log_copies see (log_of r.volume)

  lies : LiesAs run.numbers r.form seen copies
  lies = runs.lies.lies

  abbrev image : Image
  image = image_of g.config g.good meant run.of

  image_sound : IsSoundImage image
  image_sound = (leaving_stands see r g.config g.good run.numbers run.of runs law run.started run.plexes w (run.runs_as known) (run.sure known) held holds.hold meant meant_good (run.plexes_of meant)).sound

  -- ---- its log

  own : All (Holds held) (copy_pieces copies)
  own = all_right (Holds held) (all_pieces (region_plexes seen.cells)) (copy_pieces copies) holds.hold

  length_is : image.length ≡ seen.length
  length_is = runs.keeps.length_is ∙ sym runs.form.shape_is.length_is ∙ sym lies.length_is

  region_is : image.region ≡ seen.region
  region_is = runs.keeps.region_is ∙ sym runs.form.shape_is.region_is ∙ sym lies.region_is

  inside : (i : ℕ) → i < regions_of image → i < length seen.cells
  inside i lt = subst (λ (m : ℕ). i < m) (sym runs.whole.count) (subst (λ (m : ℕ). i < region_count m seen.region) length_is (subst (λ (m : ℕ). i < region_count image.length m) region_is lt))

  -- each copy of the image is one of the log, which shows the mark
  copy_marks : (x : LogCopy) → IsIn image.copies x → (i : ℕ) → i < regions_of image → x i map ≡ true
  copy_marks x there i lt =
      elim (copy_now opening.config opening.good opening.vol opening.fresh r.form runs.form run.numbers copies lies.logs held own g.config g.good run.of runs.keeps meant meant_good x there) [
        | inl nothing ↦ absurd (false≢true (sym (ap (λ n. nat_lt 0 n) nothing.none) ∙ sym lies.log.there ∙ shown.there))
        | inr it ↦
            it.marks_are i map
            ∙ sym (lies.log.shows shown.told it.copy i map it.inside)
            ∙ shown.shows i it.copy (inside i lt) (subst (λ (n : ℕ). it.copy < n) (sym lies.log.count) it.inside)
      ]

  image_marked : (i : ℕ) → i < regions_of image → is_marked_by_all image i map ≡ true
  image_marked i lt = all_from_each (λ (c : LogCopy). c i map) image.copies (λ x one. copy_marks x (is_in image.copies x one) i lt)

  now : IsSoundMarked map (image_of g.config g.good bytes run.of)
  now = subst (IsSoundMarked map) (sym (image_own g.config g.good run.of meant bytes same_inside)) (record { sound = image_sound; marked = image_marked })

  marked_there : IsMarkedEverywhere g run.of.name map world
  marked_there v there named = subst (λ (x : Vol). (i : ℕ) → i < regions_of (image_on world.devices g x) → is_marked_by_all (image_on world.devices g x) i map ≡ true) (sym (same_vol g.config run.of v runs.recorded there named)) now.marked

  -- ---- the next configuration

  module _ (added : List Object) (next : Config) (adds : AddsPlex g run.of.name map added next) where
    joins : Joins g.config run.of.name added next
    joins = plex_joins g.config next run.of.name added adds.of adds.edited

    then_sound : IsSoundImage (image_of next g.good bytes run.of)
    then_sound =
        let was = image_of g.config g.good bytes run.of in
        let more = plex_image next g.good bytes adds.plex in
        subst IsSoundImage (sym (image_added g.config next g.good bytes run.of added adds.plex adds.one adds.data_is adds.of adds.edited))
        (marked_sound was more (λ i lt. subst (λ (k : ℕ). is_marked_by_all was i k ≡ true) (sym (map_is adds.plex.map adds.has_map)) (now.marked i lt)) now.sound)
      where
        map_is : (m : Option ℕ) → m ≡ Some map → map_or_zero m ≡ map
        map_is m e = ap map_or_zero e

    sound_there : IsSoundAs g next run.of.name world
    sound_there v there named = subst (λ (x : Vol). IsSoundImage (image_on world.devices (record g { config = next }) x)) (sym (same_vol next run.of v (joins.recorded run.of runs.recorded) there named)) then_sound

pub shown_sound : {P : Type 0} {ghosts : Ghosts P} (see : P → Seen) → EachLeavingStands → (running : Running P ghosts) → EachShownPlexIsSound see running
shown_sound see law running hs g name w run known map shown world held holds added next adds =
    subst (λ n. IsSoundAs g next n world × IsMarkedEverywhere g n map world) run.named (
      sound_there see law hs g name running w run known map shown world held holds added next (subst (λ n. AddsPlex g n map added next) (sym run.named) adds),
      marked_there see law hs g name running w run known map shown world held holds,
    )

pub marked_volume_sound : {P : Type 0} {ghosts : Ghosts P} (see : P → Seen) → EachLeavingStands → (before after : Running P ghosts) → EachMarkedVolumeIsSound see before after
marked_volume_sound see law before after hs g name w run known map marked told world held holds added next adds =
    shown_sound see law after hs g name w run known map (mark_shown see before after g.config g.good run.numbers run.of run.placed.runs map marked told) world held holds added next adds
