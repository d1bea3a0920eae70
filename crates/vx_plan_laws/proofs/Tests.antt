-- What the tests of a command let through.
use Rattle.std.proofs.Common.{◌≡◌, ℕ, zero, suc, ◌+◌, ◌-◌, ◌^◌, ◌<◌, Bool, true, false, not, ◌||◌, ◌&&◌, ◌==◌, nat_lt, nat_le, is_some, length, Option, Some, None, List, [], ◌∷◌, refl, sym, ◌∙◌, ap, subst, arith, if◌then◌else◌}
use Rattle.std.specs.List.{list_any, list_all}
use Rattle.std.specs.Str.{bytes_eq}
use Rattle.std.proofs.lemmas.Bool.{and_from, not-false}
use Rattle.std.proofs.lemmas.Bool.Decides.{nat_tests}
use Rattle.vx_base.specs.Named.{Word}
use Rattle.vx_names.specs.Form.{is_name}
use Rattle.vx_header.specs.Sectors.{is_short_name}
use Rattle.vx_config_parts.specs.declared.plex.PlexKind.{PlexKind}
use Rattle.vx_config_parts.specs.declared.plex.PlexKind.TheVariants.{Data, Log}
use Rattle.vx_config_parts.specs.declared.vol.Vol.{Vol}
use Rattle.vx_config_parts.specs.declared.vol.PolicyName.{PolicyName}
use Rattle.vx_config_parts.specs.declared.vol.PolicyName.TheVariants as policy
use Rattle.vx_config_parts.specs.declared.fault.Limit.TheVariants as limit
use Rattle.vx_config_parts.specs.declared.fault.ObjectFault.TheVariants.{NoObject, Exists}
use Rattle.vx_config_parts.specs.Objects.{refers, is_data_plex_of, is_data as holds_data}
use Rattle.vx_rules.specs.Maps.{has_data_plex, prefer_fault_of}
use Rattle.vx_rules.specs.References.{has_name}
use Rattle.vx_objects.specs.declared.config.Config.{Config}
use Rattle.vx_objects.specs.declared.edit.Edit.TheVariants.{SetVol}
use Rattle.vx_objects.specs.Config.{objects_of}
use Rattle.vx_objects.specs.Edits.{policy_kind, policy_plex, refusal_of}
use Rattle.vx_script_words.specs.declared.value.DiskAt.{DiskAt}
use Rattle.vx_answers.specs.declared.refusal.Refusal.{Refusal}
use Rattle.vx_answers.specs.declared.refusal.Refusal.TheVariants as refusal
use Rattle.vx_moments.specs.World.{World, Group}
use Rattle.vx_stages.specs.Records.{devices_of, names_of, sectors_at, is_disk_size, are_disk_sized, disk_record, free_slot_from, slot_or_last, next_slot, slot_in}
use Rattle.vx_stages.specs.Stages.{edits_of, policy_edit, joining_edit}
use Rattle.vx_stages.specs.Tests.{unless, where_, limit_passed, volume_in, recorded, is_related, is_data, is_data_plex, is_here, fails}
use Rattle.vx_stages.specs.declared.stage.Change.TheVariants as changes
use Rattle.vx_stages.specs.declared.test.Test.TheVariants as tests
use Rattle.vx_plan_laws.specs.Unbroken.{LetsThrough, PrefersItsPlex}
use Rattle.vx_plan_laws.proofs.Counts.{first_of_two, second_of_two, any_like}
use Rattle.vx_plan_laws.proofs.FirstRefusals.{unless_true}
use Rattle.vx_plan_laws.proofs.Joins.{joining_kept}
use Rattle.vx_plan_laws.proofs.Policies.{policy_kept}
use Rattle.vx_plan_laws.proofs.Records.{is_kept, any_disk, any_plex, any_snap, has_recorded}
use Rattle.vx_plan_laws.proofs.Removals.{removal_kept}

holds_so : (holds : Bool) (r : Refusal) → unless holds r ≡ None → holds ≡ true
holds_so true r e = refl
holds_so false r e = cc

fails_so : (holds : Bool) (r : Refusal) → where_ holds r ≡ None → holds ≡ false
fails_so true r e = cc
fails_so false r e = refl

passed_on : {A : Type 0} (b : Bool) (x : A) (rest : Option A) → (if b then Some x else rest) ≡ None → (b ≡ false) × (rest ≡ None)
passed_on true x rest e = absurd (cc)
passed_on false x rest e = (refl, e)

-- the group is here
pub group_here : (dg : Option Word) (disks : List DiskAt) (w : World) → LetsThrough (tests.GroupIs dg) disks w → (g : Group) × (w.group ≡ Some g)
unfolding fails
group_here dg disks w e = by w.group refl (holds_so (is_here dg w.group) (refusal.NoGroup dg) e)
  where
    by : (o : Option Group) → w.group ≡ o → is_here dg o ≡ true → (g : Group) × (w.group ≡ Some g)
    by None e is = cc
    by (Some g) e is = (g, e)

module _ (w : World) (g : Group) (here : w.group ≡ Some g) where
  pub volume_there : (vol : Word) (disks : List DiskAt) → LetsThrough (tests.HasVolume vol) disks w → is_some (volume_in vol g.config.volumes) ≡ true
  unfolding fails
  volume_there vol disks e = subst (λ (o : Option Group). is_some (recorded vol o) ≡ true) here (holds_so (is_some (recorded vol w.group)) (refusal.NoObject vol) e)

  pub let_through : (vol : Word) (disks : List DiskAt) → is_some (volume_in vol g.config.volumes) ≡ true → LetsThrough (tests.HasVolume vol) disks w
  unfolding fails
  let_through vol disks there = subst (λ (o : Option Group). unless (is_some (recorded vol o)) (refusal.NoObject vol) ≡ None) (sym here) (ap (λ b. unless b (refusal.NoObject vol)) there)

  same_kind : (k : PlexKind) → holds_data k ≡ is_data k
  same_kind Data = refl
  same_kind Log = refl

  regrouped : (a b c d : Bool) → c ≡ d → (a && (b && c)) ≡ ((a && b) && d)
  regrouped true b c d e = ap (λ (x : Bool). b && x) e
  regrouped false b c d e = refl

  plex_there : (vol plex : Word) (disks : List DiskAt) → LetsThrough (tests.HasPlex vol plex) disks w → has_data_plex plex vol (objects_of g.config) ≡ true
  unfolding fails
  plex_there vol plex disks e =
      any_plex g.config (λ p. bytes_eq p.name plex && is_data_plex_of vol p)
      ∙ any_like (λ p. bytes_eq p.name plex && is_data_plex_of vol p) (λ p. bytes_eq p.name plex && refers p.vol vol && is_data p.kind) g.config.plexes
      (λ p. regrouped (bytes_eq p.name plex) (refers p.vol vol) (holds_data p.kind) (is_data p.kind) (same_kind p.kind))
      ∙ subst (λ (o : Option Group). is_data_plex vol plex o ≡ true) here (holds_so (is_data_plex vol plex w.group) (refusal.NoObject plex) e)

  fits : (vol : Word) (how : PolicyName) → PrefersItsPlex vol how w → prefer_fault_of (objects_of g.config) vol (policy_kind how) (policy_plex how) ≡ None
  fits vol policy.Round prefers = refl
  fits vol policy.Select prefers = refl
  fits vol (policy.Prefer plex) prefers = unless_true (has_data_plex plex vol (objects_of g.config)) (NoObject plex) (plex_there vol plex [] prefers)

  pub policy_law : (vol : Word) (how : PolicyName) → LetsThrough (tests.HasVolume vol) [] w → PrefersItsPlex vol how w → refusal_of (edits_of (changes.Policy vol how) (Some g)) (objects_of g.config) ≡ None
  policy_law vol how has prefers = by (volume_in vol g.config.volumes) (volume_there vol [] has)
    where
      by : (o : Option Vol) → is_some o ≡ true → refusal_of (policy_edit o (λ v. SetVol vol v.state how)) (objects_of g.config) ≡ None
      by None e = cc
      by (Some v) e = policy_kept vol v.state how (objects_of g.config) (is_kept g.config) (has_recorded vol g.config (volume_there vol [] has)) (fits vol how prefers)

  related : (vol : Word) (disks : List DiskAt) → LetsThrough (tests.Unrelated vol) disks w → is_related vol (Some g) ≡ false
  unfolding fails
  related vol disks e = subst (λ (o : Option Group). is_related vol o ≡ false) here (fails_so (is_related vol w.group) (refusal.InUse vol) e)

  pub removal_law : (vol : Word) → LetsThrough (tests.HasVolume vol) [] w → LetsThrough (tests.Unrelated vol) [] w → refusal_of (edits_of (changes.Remove vol) (Some g)) (objects_of g.config) ≡ None
  removal_law vol has free =
      removal_kept vol (objects_of g.config) (is_kept g.config) (has_recorded vol g.config (volume_there vol [] has))
      (any_snap g.config (λ s. bytes_eq s.vol vol || bytes_eq s.of vol) ∙ related vol [] free)

-- ---- the disk that joins

free_from : (n slot s : ℕ) (config : Config) → free_slot_from n slot config ≡ Some s → list_any (λ d. d.slot == s) config.disks ≡ false
free_from zero slot s config e = cc
free_from (suc n) slot s config e = by (list_any (λ d. d.slot == slot) config.disks) refl e (free_from n (slot + 1) s config)
  where
    by : (b : Bool) → list_any (λ d. d.slot == slot) config.disks ≡ b → (if b then free_slot_from n (slot + 1) config else Some slot) ≡ Some s → (free_slot_from n (slot + 1) config ≡ Some s → list_any (λ d. d.slot == s) config.disks ≡ false) → list_any (λ d. d.slot == s) config.disks ≡ false
    by true is e more = more e
    by false is e more = let same : slot ≡ s = cc in subst (λ (t : ℕ). list_any (λ d. d.slot == t) config.disks ≡ false) same is

-- no disk has the next slot
next_free : (config : Config) → next_slot config < 32 → list_any (λ d. d.slot == next_slot config) config.disks ≡ false
unfolding next_slot
next_free config low = by (free_slot_from 32 0 config) refl low
  where
    by : (o : Option ℕ) → free_slot_from 32 0 config ≡ o → slot_or_last o < 32 → list_any (λ d. d.slot == slot_or_last o) config.disks ≡ false
    by None e low = absurd (omega arith)
    by (Some s) e low = free_from 32 0 s config e

low_slot : (n : ℕ) → nat_lt 32 (n + 1) ≡ false → n < 32
low_slot n e = grind (arith, nat_tests)

is_low : (n : ℕ) → n < 32 → nat_lt n 32 ≡ true
is_low n low = grind (arith, nat_tests)

is_byte : (n : ℕ) → n < 32 → nat_lt n 255 ≡ true
is_byte n low = grind (arith, nat_tests)

is_public : (n : ℕ) → is_disk_size n ≡ true → nat_lt (n - 2048) (2 ^ 40) ≡ true
is_public n e = grind (arith, nat_tests)

module _ (p : DiskAt) (w : World) (g : Group) (here : w.group ≡ Some g) (passed : LetsThrough tests.JoinLimits (p ∷ []) w) where
  limits : limit_passed (next_slot g.config + 1) (names_of (p ∷ [])) (are_disk_sized w (devices_of (p ∷ []))) ≡ None
  unfolding fails
  limits = subst (λ (o : Option Group). limit_passed (slot_in o + 1) (names_of (p ∷ [])) (are_disk_sized w (devices_of (p ∷ []))) ≡ None) here passed

  sized : (not (are_disk_sized w (devices_of (p ∷ []))) ≡ false) × ((if nat_lt 32 (next_slot g.config + 1) then Some (refusal.Limit limit.Disks) else unless (list_all is_short_name (names_of (p ∷ []))) (refusal.Limit limit.Name)) ≡ None)
  sized = passed_on (not (are_disk_sized w (devices_of (p ∷ [])))) refusal.DeviceLimit (if nat_lt 32 (next_slot g.config + 1) then Some (refusal.Limit limit.Disks) else unless (list_all is_short_name (names_of (p ∷ []))) (refusal.Limit limit.Name)) limits

  room : (nat_lt 32 (next_slot g.config + 1) ≡ false) × (unless (list_all is_short_name (names_of (p ∷ []))) (refusal.Limit limit.Name) ≡ None)
  room = passed_on (nat_lt 32 (next_slot g.config + 1)) (refusal.Limit limit.Disks) (unless (list_all is_short_name (names_of (p ∷ []))) (refusal.Limit limit.Name)) sized.1

  low : next_slot g.config < 32
  low = low_slot (next_slot g.config) room.0

  pub joining_law : refusal_of (joining_edit p w g ∷ []) (objects_of g.config) ≡ (if has_name p.disk (objects_of g.config) then Some (Exists p.disk) else None)
  joining_law =
      let size : is_disk_size (sectors_at w p.device) ≡ true = first_of_two (is_disk_size (sectors_at w p.device)) true (not-false (are_disk_sized w (devices_of (p ∷ []))) sized.0) in
      let name : is_short_name p.disk ≡ true = first_of_two (is_short_name p.disk) true (holds_so (list_all is_short_name (names_of (p ∷ []))) (refusal.Limit limit.Name) room.1) in
      joining_kept (disk_record p (next_slot g.config) (sectors_at w p.device)) (objects_of g.config) (is_kept g.config)
      (any_disk g.config (λ d. d.slot == next_slot g.config) ∙ next_free g.config low)
      (and_from (nat_lt (sectors_at w p.device - 2048) (2 ^ 40)) (nat_lt (next_slot g.config) 255) (is_public (sectors_at w p.device) size) (is_byte (next_slot g.config) low))
      (is_low (next_slot g.config) low)
      (second_of_two (is_name p.disk) (nat_le (length p.disk) 24) name)
