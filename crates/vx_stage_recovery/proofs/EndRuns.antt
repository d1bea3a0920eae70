-- A volume that was healed runs by the configuration that records the end of its recovery, as the volume of the world whose life begins over the bytes that
-- it leaves.
use Rattle.std.proofs.Common.{◌≡◌, ◌∙◌, ◌⊎◌, inl, inr, ℕ, true, false, List, Ok, refl, sym, ap, subst}
use Rattle.vx_pages.specs.declared.local_piece.LocalPiece.{Ghosts}
use Rattle.vx_base.specs.Named.{Word}
use Rattle.vx_mask.specs.Mask.{has}
use Rattle.vx_piece.specs.Seen.{Seen}
use Rattle.vx_config_parts.specs.declared.state.VolState.{VolState}
use Rattle.vx_config_parts.specs.declared.state.VolState.TheVariants as vol
use Rattle.vx_config_parts.specs.declared.vol.Vol.{Vol}
use Rattle.vx_objects.specs.declared.config.Config.{Config}
use Rattle.vx_state_edits.specs.Edits.{is_new}
use Rattle.vx_copies.specs.Disks.{DiskSeen}
use Rattle.vx_carve.specs.Carved.{HaveNumbers}
use Rattle.vx_image.specs.Bytes.{Sectors, image_of}
use Rattle.vx_image.specs.Deciding.{EachImageIsSoundOrNot}
use Rattle.vx_image.specs.Image.{Image}
use Rattle.vx_image.specs.Soundness.{IsSoundImage}
use Rattle.vx_image.specs.UsedPlexes.{IsVolOf}
use Rattle.vx_moments.specs.Lives.{volume_by}
use Rattle.vx_moments.specs.Owners.{owners_of}
use Rattle.vx_moments.specs.Tracks.{TrackOwner, unsure}
use Rattle.vx_moments.specs.Volumes.{volume_read}
use Rattle.vx_moments.specs.World.{Group, Member, OnPlexes, Volume}
use Rattle.vx_volume.specs.Volume.{volume_seen}
use Rattle.vx_volume_laws.specs.Exact.{IsExactVolume}
use Rattle.vx_volume_laws.specs.Keeping.{ChangesStates, KeepsVolume}
use Rattle.vx_volume_laws.specs.Leaving.{EachLeavingStands, EachRunningForgets}
use Rattle.vx_volume_laws.specs.Running.{IsSureOfOthers, RunsAsVolume}
use Rattle.vx_volume_laws.specs.Starting.{EachOpeningRuns}
use Rattle.vx_volume_laws.proofs.Configurations.{kept_named, volume_kept}
use Rattle.vx_volume_laws.proofs.Restated.{restated_kept}
use Rattle.vx_lending.specs.Form.{IsFormOf}
use Rattle.vx_lending.specs.FormLaws.{AreNumbered, good_disks}
use Rattle.vx_lending.specs.declared.form.VolumeForm.{VolumeForm}
use Rattle.vx_lending.specs.declared.public.Public.{Public}
use Rattle.vx_lending.specs.declared.public.Running.{Running}
use Rattle.vx_group_recover.specs.Laws.{EachHealingHeals}
use Rattle.vx_group_recover.specs.declared.healing.Healed.{Healed}
use Rattle.vx_group_start.specs.Fresh.{is_fresh}
use Rattle.vx_group_start.specs.Started.{IsStarted}
use Rattle.vx_group_volumes.specs.Places.{IsSlotOf, RunsInPlace}
use Rattle.vx_group_volumes.specs.Runs.{Opening, RunsIn}
use Rattle.vx_group_volumes.proofs.Places.{restated_keep}
use Rattle.vx_healed_volumes.specs.Healed.{AreSectorsAround, IsHealedBy}
use Rattle.vx_healed_volumes.proofs.HealedVolumes.{healed_runs}
use Rattle.vx_house.specs.Runs.{IsInPlace, IsRunOf}
use Rattle.vx_stages.specs.Starting.{plexes_started, volume_started}
use Rattle.vx_stage_volumes.proofs.Slots.{IsAtSlot, is_numbered, on_disk, slot_is_good}
use Rattle.vx_stage_volumes.proofs.StartRun.{BeginsAs}
use Rattle.vx_stage_recovery.proofs.HealBegins.{healed_begins, still_fit}
use Rattle.vx_stage_recovery.proofs.HealRuns.{fit, same_names}

-- What laws promise of a volume that is healed and begins to run.
pub record HaveRunLaws : Type 0 where
  pub decided : EachImageIsSoundOrNot
  pub opening : EachOpeningRuns
  pub forgets : EachRunningForgets
  pub heals : EachHealingHeals
  pub leaving : EachLeavingStands

-- ---- the volume that is read, by the state of one whose recovery is begun

read_lies : (s : VolState) → s ≡ vol.Sync → (names : List Word) (i : Image) → (volume_by s names i).lies ≡ OnPlexes names
read_lies s is names i = subst (λ (x : VolState). (volume_by x names i).lies ≡ OnPlexes names) (sym is) refl

read_length : (s : VolState) → s ≡ vol.Sync → (names : List Word) (i : Image) → (volume_by s names i).length ≡ i.length
read_length s is names i = subst (λ (x : VolState). (volume_by x names i).length ≡ i.length) (sym is) refl

read_region : (s : VolState) → s ≡ vol.Sync → (names : List Word) (i : Image) → (volume_by s names i).region ≡ i.region
read_region s is names i = subst (λ (x : VolState). (volume_by x names i).region ≡ i.region) (sym is) refl

-- the volume v of the group, over its configuration and good disks, opened out of `old` and healed
module _ {P : Type 0} {ghosts : Ghosts P} (g : Group) (v : Vol) (of : IsVolOf g.config v) (sync : v.state ≡ vol.Sync) (numbers : List ℕ) (old new : Public P ghosts) (running after : Running P ghosts)
    (form : IsFormOf g.config g.good v (is_fresh v.state) running.form) (started : IsStarted ghosts.seen v numbers old new running) (numbered : AreNumbered numbers g.good g.config.disks)
    (done : Healed) (is : IsHealedBy ghosts.seen g.config g.good v numbers old new running after (Ok done)) where
  abbrev pub see : P → Seen
  see = ghosts.seen

  abbrev pub names : List Word
  names = plexes_started g v

  abbrev owners : Word → TrackOwner
  owners = owners_of g v.name names

  abbrev pub opened_by : Opening
  opened_by = record { config = g.config; good = g.good; vol = v; fresh = is_fresh v.state }

  pub runs0 : RunsIn see g.config g.good numbers v after
  runs0 = healed_runs g.config g.good v numbers old new running after (Ok done) is

  -- ---- it runs over the bytes that it leaves

  module _ (laws : HaveRunLaws) (before bytes : Sectors) (around : AreSectorsAround see g.good numbers old after before bytes) where
    abbrev pub image : Image
    image = image_of g.config g.good bytes v

    -- it runs as this one, nothing is sure of plexes that are written to, and its log is exact
    abbrev pub Runs : Volume → Type 0
    Runs w = RunsAsVolume image.plexes (volume_seen see after.volume) w × IsSureOfOthers image.plexes (volume_seen see after.volume) w × IsExactVolume (volume_seen see after.volume)

    read_runs : IsSoundImage image → Runs (unsure owners (volume_read names image))
    read_runs sound =
        healed_begins g.config g.good v numbers old new running after done is laws.heals before bytes around laws.opening laws.forgets sound names owners
        (still_fit g.config g.good v numbers old new running after done is laws.heals before bytes around image.plexes owners (fit g v of sync numbers old new running form started numbered bytes))

    as_begun : IsSoundImage image → Runs (volume_started g v image true)
    as_begun sound = subst (λ (s : VolState). Runs (record (unsure owners (volume_by s names image)) { sound = true })) (sym sync) (read_runs sound)

    not_new : is_new v.state ≡ false
    not_new = ap is_new sync

    pub begins : BeginsAs g v image Runs
    begins = decide (laws.decided image)
      where
        decide : IsSoundImage image ⊎ (IsSoundImage image → ⊥) → BeginsAs g v image Runs
        decide (inl sound) = record { sound = true; if_sound = λ s. refl; if_new = λ new. refl; runs = λ known. as_begun sound }
        decide (inr not) = record {
          sound = false;
          if_sound = λ s. absurd (not s);
          if_new = λ new. (let no : false ≡ true = sym not_new ∙ new in no);
          runs = λ known. absurd (let no : false ≡ true = known in cc);
        }

  -- ---- recorded as active

  module _ (own : HaveNumbers numbers) (c' : Config) (good' : ℕ) (hs' : List DiskSeen) (members' : List Member)
      (of' : IsVolOf c' (record v { state = vol.Active })) (changes : ChangesStates g.config g.good v (is_fresh v.state) c' good' (record v { state = vol.Active }))
      (at_slot : (slot : ℕ) → has g.good slot ≡ true → IsAtSlot numbers hs' members' slot) where
    abbrev pub v' : Vol
    v' = record v { state = vol.Active }

    pub keeps : KeepsVolume g.config g.good v (is_fresh v.state) c' good' v'
    keeps = restated_kept g.config g.good v (is_fresh v.state) c' good' v' changes

    abbrev pub placed : RunsInPlace see c' good' numbers v' after
    placed = record {
      runs = record {
        recorded = of';
        filled = tt;
        opening = opened_by;
        of = of;
        form = subst (λ (f : VolumeForm). IsFormOf g.config g.good v (is_fresh v.state) f) (sym is.form_is) form;
        keeps = keeps;
        whole = is.whole;
        shape = runs0.shape;
        logged = runs0.logged;
        lies = runs0.lies;
        cut = runs0.cut;
      };
      places = restated_keep g.config g.good v (is_fresh v.state) c' good' v' changes;
      numbered = numbered;
      were_good = λ place lies now. changes.failed place.disk now;
    }

    opened_slot : (slot : ℕ) → IsSlotOf (good_disks g.good g.config.disks) slot → IsAtSlot numbers hs' members' slot
    opened_slot slot on = at_slot slot (slot_is_good g.good g.config.disks slot on)

    pub in_place : (name : Word) → v.name ≡ name → IsInPlace see hs' c' good' name after
    in_place name named = record {
      of = v';
      named = named;
      started = tt;
      numbers = numbers;
      own = own;
      placed = placed;
      opened = λ slot on. on_disk numbers hs' members' slot (opened_slot slot on);
      numbered = λ place lies good. on_disk numbers hs' members' place.disk (at_slot place.disk (changes.failed place.disk good));
    }

    module _ (laws : HaveRunLaws) (sequence : ℕ) (before bytes : Sectors) (around : AreSectorsAround see g.good numbers old after before bytes)
        (begun : BeginsAs g v (image_of g.config g.good bytes v) (Runs laws before bytes around)) where
      abbrev pub w : Volume
      w = volume_started g v (image_of g.config g.good bytes v) begun.sound

      pub w_lies : w.lies ≡ OnPlexes names
      w_lies = read_lies v.state sync names (image_of g.config g.good bytes v)

      pub run_of : (name : Word) → v.name ≡ name → IsRunOf see hs' (record { config = c'; good = good'; members = members'; sequence = sequence }) name after w
      run_of name named = record {
        of = v';
        named = named;
        started = tt;
        numbers = numbers;
        own = own;
        placed = placed;
        opened = λ slot on. is_numbered numbers hs' members' slot (opened_slot slot on);
        numbered = λ place lies good. is_numbered numbers hs' members' place.disk (at_slot place.disk (changes.failed place.disk good));
        lies = w_lies ∙ ap OnPlexes (same_names g v of sync numbers old new running form started numbered);
        length_is = read_length v.state sync names (image_of g.config g.good bytes v);
        region_is = read_region v.state sync names (image_of g.config g.good bytes v);
        plexes = (image_of g.config g.good bytes v).plexes;
        plexes_of = λ other. kept_named g.config g.good v (is_fresh v.state) c' good' v' keeps bytes other;
        plexes_then = λ other. kept_named g.config g.good v false g.config g.good v (volume_kept g.config g.good v) other bytes;
        runs_as = λ sound. (begun.runs sound).0;
        sure = λ sound. (begun.runs sound).1;
        exact = λ sound spared. (begun.runs sound).2;
      }
