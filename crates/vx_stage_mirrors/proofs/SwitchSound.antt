-- A running volume is sound by its bytes also as a configuration records it with a plex on or off that is ready for it; and what is read of it with
-- a plex on lies within its candidates.
use Rattle.std.proofs.Common.{◌≡◌, ◌∙◌, ℕ, Bool, true, false, List, sym, subst}
use Rattle.vx_base.specs.Blocks.{Contents}
use Rattle.vx_base.specs.Named.{Word}
use Rattle.vx_piece.specs.Seen.{Seen}
use Rattle.vx_pages.specs.declared.local_piece.LocalPiece.{Ghosts}
use Rattle.vx_config_parts.specs.declared.plex.Plex.{Plex}
use Rattle.vx_config_parts.specs.declared.state.PlexState.{PlexState}
use Rattle.vx_config_parts.specs.declared.state.VolState.TheVariants as vol
use Rattle.vx_config_parts.specs.declared.vol.Vol.{Vol}
use Rattle.vx_copies.specs.Disks.{DiskSeen}
use Rattle.vx_objects.specs.declared.config.Config.{Config}
use Rattle.vx_image.specs.Bytes.{Sectors, image_of}
use Rattle.vx_image.specs.Image.{Image, PlexImage, WasStarted, is_available_state}
use Rattle.vx_image.specs.Meaning.{StandsForCandidates}
use Rattle.vx_image.specs.Own.{SameInside}
use Rattle.vx_image.specs.Soundness.{IsSoundImage}
use Rattle.vx_image.proofs.Own.{image_own}
use Rattle.vx_moments.specs.Group.{image_on, sectors_of}
use Rattle.vx_moments.specs.World.{Group, Volume, World}
use Rattle.vx_volume.specs.Switching.{IsSettled}
use Rattle.vx_volume.specs.Volume.{VolumeSeen, log_of, volume_seen}
use Rattle.vx_lending.specs.Logs.{log_copies}
use Rattle.vx_lending.specs.declared.public.Running.{Running}
use Rattle.vx_volume_laws.specs.Leaving.{EachLeavingStands, EachStopStands, IsLeftBy}
use Rattle.vx_volume_laws.specs.Running.{RunsAsVolume}
use Rattle.vx_volume_laws.proofs.Leavings.{volume_leaves}
use Rattle.vx_joined_volumes.specs.Switched.{IsStateSet, SetsState}
use Rattle.vx_joined_volumes.proofs.SwitchEdits.{each_state_set}
use Rattle.vx_stages.specs.Attached.{IsReadWithin}
use Rattle.vx_stages.specs.Recorded.{IsSoundAs}
use Rattle.vx_house.specs.Runs.{IsRunOf}
use Rattle.vx_stage_volumes.proofs.Absent.{one_vol}
use Rattle.vx_stage_mirrors.specs.MarkedLaws.{HoldsOnDevices}
use Rattle.vx_stage_mirrors.specs.SwitchMoments.{EachSwitchIsSound, EachSwitchIsWithin, IsReadyToSwitch}
use Rattle.vx_stage_mirrors.proofs.Meant.{meant, meant_good, same_inside, same_vol}
use Rattle.vx_stage_mirrors.proofs.SwitchLeft.{left_used}
use Rattle.vx_stage_mirrors.proofs.SwitchImages.{image_restated, image_used, sound_as_clean, sound_still}

-- the image is left also where another state is recorded of the volume
left_as_clean : (image : Image) (plexes : List PlexImage) (v : VolumeSeen) (w : Volume) (run : RunsAsVolume plexes v w) → IsLeftBy plexes v w run image → IsLeftBy plexes v w run (record image { state = vol.Clean })
left_as_clean image plexes v w run left = record {
  leave = record { sized = left.leave.sized; plexes = left.leave.plexes; copies = left.leave.copies; current = left.leave.current; snaps = left.leave.snaps };
  plexes_of = left.plexes_of;
  length_is = left.length_is;
  region_is = left.region_is;
  filled = tt;
}

module _ {P : Type 0} {ghosts : Ghosts P} (see : P → Seen) (leaving : EachLeavingStands) (stop : EachStopStands) (hs : List DiskSeen) (g : Group) (name : Word) (r : Running P ghosts) (w : Volume) (run : IsRunOf see hs g name r w) (known : w.sound ≡ true)
    (world : World) (held : ℕ → Contents) (holds : HoldsOnDevices see hs world.devices held r) where
  abbrev seen : VolumeSeen
  seen = volume_seen see r.volume

  abbrev own : Sectors
  own = meant see hs g name r w run world held holds

  abbrev image : Image
  image = image_of g.config g.good own run.of

  abbrev runs_as : RunsAsVolume run.plexes seen w
  runs_as = run.runs_as known

  pub left : IsLeftBy run.plexes (volume_seen see r.volume) w (run.runs_as known) (image_of g.config g.good (meant see hs g name r w run world held holds) run.of)
  left =
      let runs = run.placed.runs in
      volume_leaves runs.opening.config runs.opening.good runs.opening.vol runs.opening.fresh r.form runs.of runs.form run.numbers seen (log_copies see (log_of r.volume)) runs.whole runs.lies.lies held holds.hold
      g.config g.good run.of runs.keeps runs.filled own (meant_good see hs g name r w run world held holds) run.plexes w runs_as (run.plexes_of own)

  image_sound : IsSoundImage image
  image_sound = (leaving run.plexes seen w run.placed.runs.whole runs_as (run.sure known) image left run.started).sound

  clean_sound : IsSettled seen → IsSoundImage (record image { state = vol.Clean })
  clean_sound settled = (stop run.plexes seen w run.placed.runs.whole runs_as (run.sure known) settled (record image { state = vol.Clean }) (left_as_clean image run.plexes seen w runs_as left)).0.sound

  -- ---- the next configuration

  module _ (p : Plex) (state : PlexState) (next : Config) (sets : SetsState g.config run.of p state next) where
    set_so : IsStateSet g.config run.of p state next
    set_so = each_state_set g.config run.of run.placed.runs.recorded p state next sets

    -- so it is as the plex is recorded, which is ready for it
    then_sound : (on : Bool) → is_available_state state ≡ on → IsReadyToSwitch see p on r → IsSoundImage (image_of next g.good own run.of)
    then_sound false e ready = sound_as_clean image (image_of next g.good own run.of) (image_restated g.config next run.of p state sets g.good own) (clean_sound ready.0)
    then_sound true e ready =
        sound_still image (image_of next g.good own run.of) (image_restated g.config next run.of p state sets g.good own) (image_used g.config next run.of p state sets g.good own e) image_sound

    inside : SameInside next run.of.name own (sectors_of world.devices g.members)
    inside place of = same_inside see hs g name r w run world held holds place (set_so.places place of)

    pub sound_then : (on : Bool) → is_available_state state ≡ on → IsReadyToSwitch see p on r → IsSoundAs g next run.of.name world
    sound_then on e ready v there named =
        subst (λ (x : Vol). IsSoundImage (image_on world.devices (record g { config = next }) x)) (sym (same_vol next run.of v set_so.recorded there named))
        (subst IsSoundImage (sym (image_own next g.good run.of own (sectors_of world.devices g.members) inside)) (then_sound on e ready))

    -- what is read of it with a plex on lies within its candidates
    within_then : is_available_state state ≡ true → StandsForCandidates (image_of next g.good own run.of) w.life.candidates
    within_then available =
        let used = image_used g.config next run.of p state sets g.good own available in
        (leaving run.plexes seen w run.placed.runs.whole runs_as (run.sure known) (image_of next g.good own run.of) (left_used run.plexes seen w runs_as image (image_of next g.good own run.of) used left)
        (subst (λ (i : Image). WasStarted i.state) (sym used.same) run.started)).candidates

    pub read_then : is_available_state state ≡ true → IsReadWithin g next run.of.name world w.life.candidates
    read_then available v there named =
        subst (λ (x : Vol). StandsForCandidates (image_on world.devices (record g { config = next }) x) w.life.candidates) (sym (same_vol next run.of v set_so.recorded there named))
        (subst (λ (i : Image). StandsForCandidates i w.life.candidates) (sym (image_own next g.good run.of own (sectors_of world.devices g.members) inside)) (within_then available))

pub switch_sound : {P : Type 0} {ghosts : Ghosts P} (see : P → Seen) → EachLeavingStands → EachStopStands → (running : Running P ghosts) → EachSwitchIsSound see running
switch_sound see leaving stop running hs g name w run known world held holds v of named p state on next sets available ready =
    let same : v ≡ run.of = one_vol g.config v run.of of run.placed.runs.recorded (named ∙ sym run.named) in
    subst (λ n. IsSoundAs g next n world) run.named
    (sound_then see leaving stop hs g name running w run known world held holds p state next (subst (λ (x : Vol). SetsState g.config x p state next) same sets) on available ready)

pub switch_within : {P : Type 0} {ghosts : Ghosts P} (see : P → Seen) → EachLeavingStands → EachStopStands → (running : Running P ghosts) → EachSwitchIsWithin see running
switch_within see leaving stop running hs g name w run known world held holds v of named p state next sets available ready =
    let same : v ≡ run.of = one_vol g.config v run.of of run.placed.runs.recorded (named ∙ sym run.named) in
    subst (λ n. IsReadWithin g next n world w.life.candidates) run.named
    (read_then see leaving stop hs g name running w run known world held holds p state next (subst (λ (x : Vol). SetsState g.config x p state next) same sets) available)
