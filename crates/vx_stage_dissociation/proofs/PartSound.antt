-- A running volume of which each region can spare a plex is sound by its bytes as a configuration records it without that, and what is read of it
-- then lies within its candidates.
use Rattle.std.proofs.Common.{◌≡◌, ◌∙◌, ℕ, ◌<◌, Bool, true, List, sym, subst, arith}
use Rattle.vx_base.specs.Blocks.{Contents}
use Rattle.vx_base.specs.Named.{Word}
use Rattle.vx_piece.specs.Seen.{Seen}
use Rattle.vx_pages.specs.declared.local_piece.LocalPiece.{Ghosts}
use Rattle.vx_config_parts.specs.declared.plex.Plex.{Plex}
use Rattle.vx_config_parts.specs.declared.vol.Vol.{Vol}
use Rattle.vx_copies.specs.Disks.{DiskSeen}
use Rattle.vx_objects.specs.declared.config.Config.{Config}
use Rattle.vx_image.specs.Bytes.{Sectors, image_of, map_or_zero}
use Rattle.vx_image.specs.Image.{Image}
use Rattle.vx_image.specs.Meaning.{StandsForCandidates}
use Rattle.vx_image.specs.Own.{SameInside}
use Rattle.vx_image.specs.Soundness.{IsSoundImage}
use Rattle.vx_image.specs.UsedPlexes.{IsVolOf}
use Rattle.vx_image.proofs.Members.{is_in}
use Rattle.vx_image.proofs.Own.{image_own}
use Rattle.vx_moments.specs.Group.{image_on, sectors_of}
use Rattle.vx_moments.specs.Volumes.{StandsForVolume}
use Rattle.vx_moments.specs.World.{Group, Volume, World}
use Rattle.vx_volume.specs.Volume.{VolumeSeen, log_of, volume_seen}
use Rattle.vx_lending.specs.Logs.{log_copies}
use Rattle.vx_lending.specs.declared.public.Running.{Running}
use Rattle.vx_lending.proofs.Rules.{plex_low}
use Rattle.vx_volume_laws.specs.Leaving.{EachLeavingStands, EachStopStands, IsLeftBy}
use Rattle.vx_joined_volumes.specs.Parted.{IsTakenOut, TakesOut}
use Rattle.vx_joined_volumes.proofs.PartEdits.{each_taken_out}
use Rattle.vx_stages.specs.Attached.{IsReadWithin}
use Rattle.vx_stages.specs.Recorded.{IsSoundAs}
use Rattle.vx_house.specs.Runs.{IsRunOf}
use Rattle.vx_stage_volumes.proofs.Absent.{one_vol}
use Rattle.vx_stage_mirrors.specs.MarkedLaws.{HoldsOnDevices}
use Rattle.vx_stage_mirrors.proofs.Meant.{meant, meant_good, same_inside, same_vol}
use Rattle.vx_stage_mirrors.proofs.SwitchSound.{left}
use Rattle.vx_stage_dissociation.proofs.PartImages.{left_without}
use Rattle.vx_stage_dissociation.proofs.PartWhole.{IsReadyToLeave}

module _ {P : Type 0} {ghosts : Ghosts P} (see : P → Seen) (leaving : EachLeavingStands) (stop : EachStopStands) (hs : List DiskSeen) (g : Group) (name : Word) (r : Running P ghosts) (w : Volume) (run : IsRunOf see hs g name r w) (known : w.sound ≡ true)
    (world : World) (held : ℕ → Contents) (holds : HoldsOnDevices see hs world.devices held r)
    (p : Plex) (remove : Bool) (next : Config) (takes : TakesOut g.config run.of p remove next) (ready : IsReadyToLeave (map_or_zero p.map) (volume_seen see r.volume)) where
  abbrev seen : VolumeSeen
  seen = volume_seen see r.volume

  abbrev own : Sectors
  own = meant see hs g name r w run world held holds

  taken : IsTakenOut g.config run.of p next
  taken = each_taken_out g.config run.of run.placed.runs.recorded p remove next takes

  low : map_or_zero p.map < 64
  low = let few = plex_low g.config run.of run.placed.runs.recorded p (is_in g.config.plexes p takes.there) takes.data_is in omega (arith, few)

  left_then : IsLeftBy run.plexes seen w (run.runs_as known) (image_of next g.good own run.of)
  left_then =
      let runs = run.placed.runs in
      left_without runs.opening.config runs.opening.good runs.opening.vol runs.opening.fresh r.form runs.of runs.form run.numbers seen (log_copies see (log_of r.volume)) runs.whole runs.lies.lies held holds.hold
      g.config g.good run.of runs.keeps own (meant_good see hs g name r w run world held holds) run.plexes w (run.runs_as known) p remove next takes low ready
      (left see leaving stop hs g name r w run known world held holds)

  stands : StandsForVolume (image_of next g.good own run.of) w
  stands = leaving run.plexes seen w run.placed.runs.whole (run.runs_as known) (run.sure known) (image_of next g.good own run.of) left_then run.started

  inside : SameInside next run.of.name own (sectors_of world.devices g.members)
  inside place of = same_inside see hs g name r w run world held holds place (taken.places place of)

  pub parted_sound : IsSoundAs g next run.of.name world
  parted_sound v there named =
      subst (λ (x : Vol). IsSoundImage (image_on world.devices (record g { config = next }) x)) (sym (same_vol next run.of v taken.recorded there named))
      (subst IsSoundImage (sym (image_own next g.good run.of own (sectors_of world.devices g.members) inside)) stands.sound)

  pub parted_within : IsReadWithin g next run.of.name world w.life.candidates
  parted_within v there named =
      subst (λ (x : Vol). StandsForCandidates (image_on world.devices (record g { config = next }) x) w.life.candidates) (sym (same_vol next run.of v taken.recorded there named))
      (subst (λ (i : Image). StandsForCandidates i w.life.candidates) (sym (image_own next g.good run.of own (sectors_of world.devices g.members) inside)) stands.candidates)

-- so it is for the volume that the configuration records under the name
pub sound_without : {P : Type 0} {ghosts : Ghosts P} (see : P → Seen) → EachLeavingStands → EachStopStands → (hs : List DiskSeen) (g : Group) (name : Word) (r : Running P ghosts) (w : Volume) → IsRunOf see hs g name r w → w.sound ≡ true →
    (world : World) (held : ℕ → Contents) → HoldsOnDevices see hs world.devices held r → (v : Vol) → IsVolOf g.config v → v.name ≡ name → (p : Plex) (remove : Bool) (next : Config) → TakesOut g.config v p remove next →
    IsReadyToLeave (map_or_zero p.map) (volume_seen see r.volume) → IsSoundAs g next name world × IsReadWithin g next name world w.life.candidates
sound_without see leaving stop hs g name r w run known world held holds v of named p remove next takes ready =
    let same : v ≡ run.of = one_vol g.config v run.of of run.placed.runs.recorded (named ∙ sym run.named) in
    let takes_own = subst (λ (x : Vol). TakesOut g.config x p remove next) same takes in (
      subst (λ n. IsSoundAs g next n world) run.named (parted_sound see leaving stop hs g name r w run known world held holds p remove next takes_own ready),
      subst (λ n. IsReadWithin g next n world w.life.candidates) run.named (parted_within see leaving stop hs g name r w run known world held holds p remove next takes_own ready),
    )
