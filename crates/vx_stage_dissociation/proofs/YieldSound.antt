-- A running volume is sound by its bytes as a configuration records it without one of its log plexes, and what is read of it then lies within its
-- candidates.
use Rattle.std.proofs.Common.{◌≡◌, ◌∙◌, ℕ, ◌<◌, Bool, true, false, cond, List, length, map, sym, subst, inl, inr}
use Rattle.std.specs.Prelude.{Contains, nat_lt}
use Rattle.vx_base.specs.Blocks.{Contents}
use Rattle.vx_base.specs.Named.{Word}
use Rattle.vx_piece.specs.Seen.{Seen}
use Rattle.vx_pages.specs.declared.local_piece.LocalPiece.{Ghosts}
use Rattle.vx_config_parts.specs.declared.plex.Plex.{Plex}
use Rattle.vx_config_parts.specs.declared.vol.Vol.{Vol}
use Rattle.vx_config_parts.specs.Objects.{is_data_plex_of}
use Rattle.vx_copies.specs.Disks.{DiskSeen}
use Rattle.vx_objects.specs.declared.config.Config.{Config}
use Rattle.vx_image.specs.Bytes.{Sectors, image_of}
use Rattle.vx_image.specs.Image.{Image, LogCopy, PlexImage}
use Rattle.vx_image.specs.Meaning.{StandsForCandidates}
use Rattle.vx_image.specs.Own.{SameInside}
use Rattle.vx_image.specs.Soundness.{IsSoundImage}
use Rattle.vx_image.specs.UsedPlexes.{IsVolOf}
use Rattle.vx_image.proofs.Members.{contains, is_in}
use Rattle.vx_image.proofs.Own.{image_own}
use Rattle.vx_image.proofs.PlexMembers.{IsIn, from_map, in_map}
use Rattle.vx_group_edits.proofs.DcoEdits.{log_no_data}
use Rattle.vx_moments.specs.Group.{image_on, sectors_of}
use Rattle.vx_moments.specs.Volumes.{StandsForVolume}
use Rattle.vx_moments.specs.World.{Group, Volume, World}
use Rattle.vx_volume.specs.Volume.{VolumeSeen, volume_seen}
use Rattle.vx_lending.specs.declared.public.Running.{Running}
use Rattle.vx_volume_laws.specs.Leaving.{EachLeavingStands, EachStopStands, IsLeftBy, told_by}
use Rattle.vx_volume_laws.specs.Regions.{LeaveImage, Regions}
use Rattle.vx_volume_laws.specs.Running.{RunsAsVolume, states_of}
use Rattle.vx_joined_volumes.specs.Parted.{IsTakenOut}
use Rattle.vx_yielded_volumes.specs.Yielded.{TakesLogOut}
use Rattle.vx_yielded_volumes.proofs.Edits.{each_log_taken_out, has_lost}
use Rattle.vx_stages.specs.Attached.{IsReadWithin}
use Rattle.vx_stages.specs.Recorded.{IsSoundAs}
use Rattle.vx_house.specs.Runs.{IsRunOf}
use Rattle.vx_stage_volumes.proofs.Absent.{one_vol}
use Rattle.vx_stage_mirrors.specs.MarkedLaws.{HoldsOnDevices}
use Rattle.vx_stage_mirrors.proofs.Meant.{meant, same_inside, same_vol}
use Rattle.vx_stage_mirrors.proofs.SwitchSound.{left}
use Rattle.vx_stage_dissociation.proofs.LogSound.{HasFewerCopies, image_left}

-- ---- what the regions leave

module _ (n : ℕ) (image : Image) (copies : List LogCopy) (fewer : (c : LogCopy) → Contains copies c → Contains image.copies c) where
  -- the image with these copies
  abbrev with_copies : Image
  with_copies = record image { copies = copies }

  abbrev tells : LogCopy → LogCopy
  tells c r = c (cond (nat_lt r n) r 0)

  told_fewer : (c : LogCopy) → Contains (told_by n with_copies).copies c → Contains (told_by n image).copies c
  told_fewer c one =
      let was = from_map tells copies c (is_in (map tells copies) c one) in
      contains (map tells image.copies) c
      (subst (λ (x : LogCopy). IsIn (map tells image.copies) x) (sym was.2) (in_map tells image.copies was.0 (is_in image.copies was.0 (fewer was.0 (contains copies was.0 was.1)))))

  leave_fewer : (regions : Regions) → LeaveImage regions (told_by n image) → LeaveImage regions (told_by n with_copies)
  leave_fewer regions leave = record {
    sized = leave.sized;
    plexes = λ x one. elim (leave.plexes x one) [ inl is ↦ inl is | inr marked ↦ inr (λ c there r low. marked c (told_fewer c there) r low) ];
    copies = λ c one. leave.copies c (told_fewer c one);
    current = leave.current;
    snaps = leave.snaps;
  }

-- what is left of an image is left of one with fewer copies
left_fewer : (plexes : List PlexImage) (v : VolumeSeen) (w : Volume) (run : RunsAsVolume plexes v w) (image image' : Image) → HasFewerCopies image image' → IsLeftBy plexes v w run image → IsLeftBy plexes v w run image'
left_fewer plexes v w run image image' few left =
    subst (IsLeftBy plexes v w run) (sym few.same) (record {
      leave = leave_fewer (length v.cells) image image'.copies few.fewer (states_of v run.fixed w.life.entries) left.leave;
      plexes_of = left.plexes_of;
      length_is = left.length_is;
      region_is = left.region_is;
      filled = left.filled;
    })

-- ---- the next configuration

module _ {P : Type 0} {ghosts : Ghosts P} (see : P → Seen) (leaving : EachLeavingStands) (stop : EachStopStands) (hs : List DiskSeen) (g : Group) (name : Word) (r : Running P ghosts) (w : Volume) (run : IsRunOf see hs g name r w) (known : w.sound ≡ true)
    (world : World) (held : ℕ → Contents) (holds : HoldsOnDevices see hs world.devices held r)
    (p : Plex) (remove : Bool) (next : Config) (takes : TakesLogOut g.config run.of p remove next) where
  abbrev seen : VolumeSeen
  seen = volume_seen see r.volume

  abbrev own : Sectors
  own = meant see hs g name r w run world held holds

  taken : IsTakenOut g.config run.of p next
  taken = each_log_taken_out g.config run.of run.placed.runs.recorded p remove next takes

  no_data : is_data_plex_of run.of.name p ≡ false
  no_data = log_no_data run.of.name p takes.log_is

  few : HasFewerCopies (image_of g.config g.good own run.of) (image_of next g.good own run.of)
  few = image_left g.config next run.of p (is_in g.config.plexes p takes.there) no_data (has_lost g.config next run.of p remove takes) g.good own

  left_then : IsLeftBy run.plexes seen w (run.runs_as known) (image_of next g.good own run.of)
  left_then = left_fewer run.plexes seen w (run.runs_as known) (image_of g.config g.good own run.of) (image_of next g.good own run.of) few (left see leaving stop hs g name r w run known world held holds)

  stands : StandsForVolume (image_of next g.good own run.of) w
  stands = leaving run.plexes seen w run.placed.runs.whole (run.runs_as known) (run.sure known) (image_of next g.good own run.of) left_then run.started

  inside : SameInside next run.of.name own (sectors_of world.devices g.members)
  inside place of = same_inside see hs g name r w run world held holds place (taken.places place of)

  pub yielded_sound : IsSoundAs g next run.of.name world
  yielded_sound v there named =
      subst (λ (x : Vol). IsSoundImage (image_on world.devices (record g { config = next }) x)) (sym (same_vol next run.of v taken.recorded there named))
      (subst IsSoundImage (sym (image_own next g.good run.of own (sectors_of world.devices g.members) inside)) stands.sound)

  pub yielded_within : IsReadWithin g next run.of.name world w.life.candidates
  yielded_within v there named =
      subst (λ (x : Vol). StandsForCandidates (image_on world.devices (record g { config = next }) x) w.life.candidates) (sym (same_vol next run.of v taken.recorded there named))
      (subst (λ (i : Image). StandsForCandidates i w.life.candidates) (sym (image_own next g.good run.of own (sectors_of world.devices g.members) inside)) stands.candidates)

-- so it is for the volume that the configuration records under the name
pub sound_unlogged : {P : Type 0} {ghosts : Ghosts P} (see : P → Seen) → EachLeavingStands → EachStopStands → (hs : List DiskSeen) (g : Group) (name : Word) (r : Running P ghosts) (w : Volume) → IsRunOf see hs g name r w → w.sound ≡ true →
    (world : World) (held : ℕ → Contents) → HoldsOnDevices see hs world.devices held r → (v : Vol) → IsVolOf g.config v → v.name ≡ name → (p : Plex) (remove : Bool) (next : Config) → TakesLogOut g.config v p remove next →
    IsSoundAs g next name world × IsReadWithin g next name world w.life.candidates
sound_unlogged see leaving stop hs g name r w run known world held holds v of named p remove next takes =
    let same : v ≡ run.of = one_vol g.config v run.of of run.placed.runs.recorded (named ∙ sym run.named) in
    let takes_own = subst (λ (x : Vol). TakesLogOut g.config x p remove next) same takes in (
      subst (λ n. IsSoundAs g next n world) run.named (yielded_sound see leaving stop hs g name r w run known world held holds p remove next takes_own),
      subst (λ n. IsReadWithin g next n world w.life.candidates) run.named (yielded_within see leaving stop hs g name r w run known world held holds p remove next takes_own),
    )
