-- Tests look only at the group, at what is started, and at sizes of the devices that they name.
use Rattle.std.proofs.Common.{◌≡◌, ◌∙◌, ◌&&◌, ◌+◌, ℕ, cond, length, Bool, true, false, List, [], ◌∷◌, Option, Some, None, refl, ap, inl, inr}
use Rattle.std.specs.Prelude.{is_some, if◌then◌else◌}
use Rattle.vx_base.specs.Named.{Word}
use Rattle.vx_copies.specs.Lists.{AnyOf}
use Rattle.vx_config_parts.specs.declared.vol.Vol.{Vol}
use Rattle.vx_script_words.specs.declared.value.DiskAt.{DiskAt}
use Rattle.vx_block.specs.Geometry.{is_geometry}
use Rattle.vx_rules.specs.Rules.{first_broken}
use Rattle.vx_config_parts.specs.declared.fault.Limit.TheVariants as limit
use Rattle.vx_answers.specs.declared.refusal.Refusal.TheVariants as refusal
use Rattle.vx_stages.specs.Refusals.{refusal_from}
use Rattle.vx_moments.specs.World.{World, Group}
use Rattle.vx_stages.specs.Records.{devices_of, sectors_at, is_disk_size, are_disk_sized, disk_record, disk_records, names_of, slot_in}
use Rattle.vx_config_parts.specs.declared.object.Object.TheVariants.{DiskRecord, GroupRecord}
use Rattle.vx_stages.specs.Tests.{fails, first_started, started_of, earlier, unless, where_, in_use, in_use_by, is_here, limit_passed, recorded, state_of, is_related, is_data_plex}
use Rattle.vx_stages.specs.declared.test.Test.{Test}
use Rattle.vx_stages.specs.declared.test.Test.TheVariants as tests

-- the devices of which a test asks the sizes
abbrev pub named_in : Test → List DiskAt → List Word
named_in (tests.Sized device) disks = device ∷ []
named_in (tests.GroupLimits dg) disks = devices_of disks
named_in tests.JoinLimits disks = devices_of disks
named_in (tests.GroupRecords dg) disks = devices_of disks
named_in other disks = []

module _ (v w : World) (group : w.group ≡ v.group) (started : (vol : Word) → is_some (w.volumes vol) ≡ is_some (v.volumes vol)) where
  -- the sizes are the same
  abbrev AreAlike : List Word → Type 0
  AreAlike names = (name : Word) → AnyOf (λ n. n ≡ name) names → sectors_at w name ≡ sectors_at v name

  same_sized : (names : List Word) → AreAlike names → are_disk_sized w names ≡ are_disk_sized v names
  same_sized [] alike = refl
  same_sized (n ∷ names) alike =
      ap (λ s. is_disk_size s && are_disk_sized w names) (alike n (inl refl))
      ∙ ap (λ b. is_disk_size (sectors_at v n) && b) (same_sized names (λ name any. alike name (inr any)))

  same_records : (slot : ℕ) (disks : List DiskAt) → AreAlike (devices_of disks) → disk_records slot w disks ≡ disk_records slot v disks
  same_records slot [] alike = refl
  same_records slot (p ∷ ps) alike =
      ap (λ s. DiskRecord (disk_record p slot s) ∷ disk_records (slot + 1) w ps) (alike p.device (inl refl))
      ∙ ap (λ os. DiskRecord (disk_record p slot (sectors_at v p.device)) ∷ os) (same_records (slot + 1) ps (λ name any. alike name (inr any)))

  same_first : (vs : List Vol) → first_started w.volumes vs ≡ first_started v.volumes vs
  same_first [] = refl
  same_first (x ∷ vs) = by (is_some (w.volumes x.name)) (is_some (v.volumes x.name)) (started x.name) (same_first vs)
    where
      by : (a b : Bool) → a ≡ b → first_started w.volumes vs ≡ first_started v.volumes vs → cond a (earlier x.name (first_started w.volumes vs)) (first_started w.volumes vs) ≡ cond b (earlier x.name (first_started v.volumes vs)) (first_started v.volumes vs)
      by true true e rest = ap (earlier x.name) rest
      by true false e rest = cc
      by false true e rest = cc
      by false false e rest = rest

  same_started : (g : Option Group) → started_of w.volumes g ≡ started_of v.volumes g
  same_started None = refl
  same_started (Some g) = same_first g.config.volumes

  pub same_fails : (test : Test) (disks : List DiskAt) → AreAlike (named_in test disks) → fails test disks w ≡ fails test disks v
  unfolding fails
  same_fails (tests.Sized device) disks alike = ap (λ s. unless (is_geometry s 128) (refusal.Limit limit.Regions)) (alike device (inl refl))
  same_fails tests.NoGroup disks alike = ap in_use group
  same_fails (tests.GroupIs dg) disks alike = ap (λ g. unless (is_here dg g) (refusal.NoGroup dg)) group
  same_fails (tests.GroupLimits dg) disks alike = ap (λ b. limit_passed (length disks) (dg ∷ names_of disks) b) (same_sized (devices_of disks) alike)
  same_fails tests.JoinLimits disks alike =
      ap (λ g. limit_passed (slot_in g + 1) (names_of disks) (are_disk_sized w (devices_of disks))) group
      ∙ ap (λ b. limit_passed (slot_in v.group + 1) (names_of disks) b) (same_sized (devices_of disks) alike)
  same_fails (tests.GroupRecords dg) disks alike = ap (λ os. refusal_from (first_broken (GroupRecord (record { name = dg; version = 1 }) ∷ os))) (same_records 0 disks alike)
  same_fails (tests.HasVolume vol) disks alike = ap (λ g. unless (is_some (recorded vol g)) (refusal.NoObject vol)) group
  same_fails tests.NoneStarted disks alike = ap in_use_by (ap (started_of w.volumes) group ∙ same_started v.group)
  same_fails (tests.Stopped vol) disks alike =
      ap (λ b. if b then state_of (recorded vol w.group) else None) (started vol)
      ∙ ap (λ g. if is_some (v.volumes vol) then state_of (recorded vol g) else None) group
  same_fails (tests.Unrelated vol) disks alike = ap (λ g. where_ (is_related vol g) (refusal.InUse vol)) group
  same_fails (tests.HasPlex vol plex) disks alike = ap (λ g. unless (is_data_plex vol plex g) (refusal.NoObject plex)) group
