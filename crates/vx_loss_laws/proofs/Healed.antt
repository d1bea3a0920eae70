-- The recovery of a volume makes one list of what its bytes stood for, and the volume runs over that.
use Rattle.std.proofs.Common.{◌≡◌, ◌∙◌, ℕ, ◌/◌, ◌<◌, ◌||◌, not, true, false, List, [], ◌∷◌, ◌++◌, Some, append-nil, refl, sym, ap, subst, inl, inr}
use Rattle.std.specs.Prelude.{Contains}
use Rattle.std.proofs.lemmas.Bool.{and_from}
use Rattle.vx_base.specs.Blocks.{Contents}
use Rattle.vx_base.specs.Named.{Word}
use Rattle.vx_base.proofs.NamedLemmas.{put_same}
use Rattle.vx_life.specs.Candidates.{Candidates, IsAmong, OneOf}
use Rattle.vx_life.specs.Life.{Life, begun_from}
use Rattle.vx_mask.specs.Mask.{has}
use Rattle.vx_mask.proofs.Tests.{not_both, or_cases, or_from_left, true_or_false}
use Rattle.vx_config_parts.specs.declared.state.VolState.{VolState}
use Rattle.vx_config_parts.specs.declared.state.VolState.TheVariants as vols
use Rattle.vx_config_parts.specs.declared.vol.Vol.{Vol}
use Rattle.vx_objects.specs.declared.config.Config.{Config}
use Rattle.vx_image.specs.Bytes.{Sectors, image_of}
use Rattle.vx_image.specs.Image.{Image, LogCopy, PlexImage, WasStarted, has_no_copy, is_alone, is_available, is_read, is_unmarked_by_some, regions_of}
use Rattle.vx_image.specs.Meaning.{IsReadAt, StandsForCandidates, candidates_read, possible_read}
use Rattle.vx_image.proofs.Imports.{stands_recorded}
use Rattle.vx_image.proofs.Members.{any_from_one, into_filter}
use Rattle.vx_image.proofs.PlexMembers.{IsIn}
use Rattle.vx_image.proofs.Readings.{read_within}
use Rattle.vx_state_edits.specs.Edits.{is_new}
use Rattle.vx_state_edits.specs.Laws.{Restates}
use Rattle.vx_moments.specs.Commit.{Writing, is_slot_of, parties}
use Rattle.vx_moments.specs.Group.{image_on, sectors_of}
use Rattle.vx_moments.specs.Moment.{Moment}
use Rattle.vx_moments.specs.World.{Group, Volume, World}
use Rattle.vx_moments.proofs.Blocks.{below_count}
use Rattle.vx_stages.specs.Starting.{BeginsIn, plexes_started, volume_started}
use Rattle.vx_recovery.specs.Healing.{IsMended}
use Rattle.vx_recovery.specs.Recovering.{IsRecoveryBegun, is_recovered}
use Rattle.vx_volume_laws.specs.Keeping.{KeepsVolume}
use Rattle.vx_volume_laws.proofs.Restated.{restated_kept}
use Rattle.vx_sound_volumes.proofs.Commits.{member_public, vol_of}
use Rattle.vx_sound_volumes.proofs.Parts.{sectors_same, some_same}
use Rattle.vx_sound_volumes.proofs.Recoveries.{begin_restates, begin_there, begun_is, changes, differs_so, own_sound, recovered_before}
use Rattle.vx_sound_volumes.proofs.Running.{found_there, lives_so}
use Rattle.vx_sound_volumes.proofs.Stages.{StateLaws}
use Rattle.vx_sound_imports.specs.Left.{LiesWithin}
use Rattle.vx_sound_imports.proofs.Alike.{started_read}
use Rattle.vx_sound_imports.proofs.Found.{image_in_state}
use Rattle.vx_loss_laws.specs.Losses.{AgreesOn}
use Rattle.vx_sound_imports.proofs.Kept.{kept_within, some_blocks, some_one}
use Rattle.vx_loss_laws.proofs.Others.{Waits}

-- ---- its beginning is recorded

was_started : (s : VolState) → is_recovered s ≡ true → WasStarted s
was_started vols.Empty e = cc
was_started vols.Clean e = cc
was_started vols.Active e = tt
was_started vols.NeedSync e = tt
was_started vols.Sync e = tt

-- what stands for a volume stands for it as its recovery is recorded
module _ (c c' : Config) (v : Vol) (there : IsIn c.volumes v) (r : Restates v.name vols.Sync (λ p. p.state) c c') (state : is_recovered v.state ≡ true) (good good' : ℕ) (fewer : (slot : ℕ) → has good' slot ≡ true → has good slot ≡ true) where
  abbrev now : Vol
  now = record v { state = vols.Sync }

  keeps_now : KeepsVolume c good v false c' good' now
  keeps_now = restated_kept c good v false c' good' now (changes c c' v there vols.Sync (λ p. p.state) r (λ p. refl) (differs_so v.state state) good good' fewer)

  keeps_it : KeepsVolume c good v false c' good' v
  keeps_it = record {
    length_is = refl;
    region_is = refl;
    dco = refl;
    plexes = keeps_now.plexes;
    logs = keeps_now.logs;
    log_plexes_are = keeps_now.log_plexes_are;
    relations = keeps_now.relations;
  }

  begun_within : (bytes : Sectors) (u : Candidates) → LiesWithin (image_of c good bytes v) u → LiesWithin (image_of c' good' bytes now) u
  begun_within bytes u lies =
      let kept = kept_within c good v c' good' v keeps_it refl (vol_of c v there) bytes u (recovered_before v.state state) lies in
      let as_now : image_of c' good' bytes now ≡ record (image_of c' good' bytes v) { state = vols.Sync } = image_in_state c' good' bytes v vols.Sync in
      record {
        sound = own_sound c c' v there vols.Sync (λ p. p.state) r (λ p. refl) (differs_so v.state state) good good' fewer bytes lies.sound;
        among = subst (λ (i : Image). StandsForCandidates i u) (sym as_now) (stands_recorded (image_of c' good' bytes v) vols.Sync u (was_started v.state state) tt kept.among);
      }

module _ (laws : StateLaws) (place : ℕ) (name : Word) (u : Candidates) (old : Moment) (g : Group) (v : Vol) (new : Moment) (b : IsRecoveryBegun name old g v new) (waits : Waits name u old.world) where
  abbrev x : Writing
  x = b.writing

  there : IsIn x.group.config.volumes b.of
  there = begin_there laws.recovery_restates name old.world x b.group b.of b.was b.change

  fewer : (slot : ℕ) → has b.committed.good slot ≡ true → has x.group.good slot ≡ true
  fewer slot good = elim (or_cases (has x.group.good slot) (is_slot_of x.joiners slot) (b.committed.mask.few slot good)) [
    | inl was ↦ was
    | inr joins ↦ absurd (not_both joins (ap (λ js. is_slot_of js slot) b.change.joiners))
  ]

  bytes_are : sectors_of new.world.devices (parties x) ≡ sectors_of old.world.devices x.group.members
  bytes_are =
      ap (λ ms. sectors_of new.world.devices ms) (ap (λ js. x.group.members ++ js) b.change.joiners ∙ append-nil x.group.members)
      ∙ (λ i slot k. sectors_same old.world.devices new.world.devices x.group.members (λ m one n. member_public x b.committed.last old new b.committed.committing m one n) slot k i)

  pub begun_waits : LiesWithin (image_on new.world.devices g v) u
  begun_waits =
      let now : Group = record { config = x.config; good = b.committed.good; members = parties x; sequence = b.committed.last } in
      let groups : now ≡ g = some_same now g (sym b.committed.group ∙ b.is.group) in
      let bytes = sectors_of old.world.devices x.group.members in
      let named = (found_there name b.group.config.volumes b.of b.was.volume).1 in
      let was : LiesWithin (image_of x.group.config x.group.good bytes b.of) u = waits x.group b.change.group b.of there named (recovered_before b.of.state b.state) in
      let began = begun_within x.group.config x.config b.of there (begin_restates laws.recovery_restates name old.world x b.group b.of b.was b.change) b.state x.group.good b.committed.good fewer bytes u was in
      subst (λ (h : Group). LiesWithin (image_on new.world.devices h v) u) groups
      (subst (λ (y : Vol). LiesWithin (image_on new.world.devices now y) u) (sym (begun_is laws place name old g v new b))
      (subst (λ (z : Sectors). LiesWithin (image_of x.config b.committed.good z (record b.of { state = vols.Sync })) u) (sym bytes_are) began))

-- ---- its bytes are healed

-- a plex that misses nothing is read where a copy counts
held_all : (v : Image) (list : Contents) → 0 < v.region → is_new v.state ≡ false → ((b : ℕ) → b < v.length → (p : PlexImage) → IsReadAt v b p → p.values b ≡ list b) →
    ((p : PlexImage) → Contains v.plexes p → is_available p ≡ true → (r : ℕ) → r < regions_of v → possible_read v p.map r ≡ false) →
    has_no_copy v ≡ false → (p : PlexImage) → Contains v.plexes p → is_available p ≡ true → (b : ℕ) → b < v.length → p.values b ≡ list b
held_all v list sized started reads whole copies p there available b low =
    let r = b / v.region in
    let c = some_one v.copies copies in
    let none = whole p there available r (below_count b v.length v.region sized low) in
    let clear : is_unmarked_by_some v r p.map ≡ true = any_from_one (λ (x : LogCopy). not (x r p.map)) v.copies c.0 c.1
    (elim (true_or_false (c.0 r p.map)) [
      | inl is ↦ absurd (not_both (any_from_one (λ (x : LogCopy). x r p.map) v.copies c.0 c.1 is) none)
      | inr off ↦ ap not off
    ]) in
    let read = and_from (is_available p) (is_unmarked_by_some v r p.map || is_alone v) available (or_from_left (is_unmarked_by_some v r p.map) (is_alone v) clear) in
    reads b low p (subst (λ (ps : List PlexImage). Contains ps p) (sym (started_read v.state v r started)) (into_filter (is_read v r) v.plexes p there read))

pub mended_agrees : (g : Group) (v : Vol) (copied marks : ℕ) (old new : Moment) (u : Candidates) → IsIn g.config.volumes v → is_new v.state ≡ false → LiesWithin (image_on old.world.devices g v) u →
    (m : IsMended g v copied marks old new) → AgreesOn (image_on new.world.devices g v) u m.list
mended_agrees g v copied marks old new u there started stands m = record {
  reads = record {
    among = λ b low. read_within (image_on old.world.devices g v) u stands.among b (m.list b) low (m.reads.among b low);
    reads = m.reads.reads;
  };
  clear = m.clear;
  whole = m.whole;
  held = held_all (image_on new.world.devices g v) m.list (some_blocks g.config v (vol_of g.config v there)) started m.reads.reads m.whole;
}

-- ---- it runs

module _ (g : Group) (v : Vol) (image : Image) (old new : Moment) (b : BeginsIn g v image old new) where
  abbrev run : Volume
  run = volume_started g v image b.sound

  pub begun_runs : new.world.volumes v.name ≡ Some run
  begun_runs = ap (λ (w : World). w.volumes v.name) b.world ∙ put_same v.name (Some run) old.world.volumes

  life_is : run.life ≡ begun_from (candidates_read image)
  life_is = lives_so v.state (plexes_started g v) image

  pub begun_fresh : run.life.entries ≡ []
  begun_fresh = ap (λ (l : Life). l.entries) life_is

  pub begun_known : (list : Contents) → ((b : ℕ) → b < image.length → (p : PlexImage) → IsReadAt image b p → p.values b ≡ list b) → (k : ℕ) → k < image.length → (value : List ℕ) → IsAmong (run.life.candidates k) value → value ≡ list k
  begun_known list reads k low value among =
      let only : Candidates = λ n. OneOf (list n ∷ []) in
      elim (read_within image only (λ n lt p at. inl (reads n lt p at)) k value low (subst (λ (l : Life). IsAmong (l.candidates k) value) life_is among)) [ inl is ↦ is | inr never ↦ absurd never ]
