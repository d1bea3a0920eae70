-- The slot that the next disk gets.
use Rattle.std.proofs.Common.{◌≡◌, ℕ, zero, suc, ◌+◌, ◌<◌, ◌≤◌, Bool, true, false, ◌==◌, Some, refl, sym, ◌∙◌, subst, inl, inr, arith}
use Rattle.std.specs.Prelude.{if◌then◌else◌}
use Rattle.std.specs.List.{list_any}
use Rattle.std.specs.List.Sorted.{IsPermutation}
use Rattle.std.proofs.lemmas.Bool.{cases_lt}
use Rattle.std.proofs.lemmas.List.Sorted.{list_any-IsPermutation}
use Rattle.vx_config_parts.specs.Objects.{is_disk}
use Rattle.vx_objects.specs.declared.config.Config.{Config}
use Rattle.vx_objects.specs.Config.{objects_of}
use Rattle.vx_stages.specs.Records.{free_slot_from, slot_or_last, next_slot}
use Rattle.vx_laws.proofs.ListFacts.{both_ways}
use Rattle.vx_laws.proofs.Records.{disks_pass}

-- a disk of the configuration has the slot
abbrev pub is_used : ℕ → Config → Bool
is_used slot config = list_any (λ d. d.slot == slot) config.disks

free_above : (n slot s : ℕ) (config : Config) → s ≤ 32 → ((k : ℕ) → k < s → is_used k config ≡ true) → s ≤ slot_or_last (free_slot_from n slot config)
free_above zero slot s config small used = small
free_above (suc n) slot s config small used = by (is_used slot config) refl (free_above n (slot + 1) s config small used)
  where
    by : (b : Bool) → is_used slot config ≡ b → s ≤ slot_or_last (free_slot_from n (slot + 1) config) → s ≤ slot_or_last (if b then free_slot_from n (slot + 1) config else Some slot)
    by true is more = more
    by false is more = elim (cases_lt slot s) [ inl low ↦ both_ways (is_used slot config) (used slot low) is | inr high ↦ high ]

free_small : (n slot : ℕ) (config : Config) → slot + n ≡ 32 → slot_or_last (free_slot_from n slot config) ≤ 32
free_small zero slot config e = omega arith
free_small (suc n) slot config e = by (is_used slot config) (free_small n (slot + 1) config (omega (arith, e)))
  where
    by : (b : Bool) → slot_or_last (free_slot_from n (slot + 1) config) ≤ 32 → slot_or_last (if b then free_slot_from n (slot + 1) config else Some slot) ≤ 32
    by true more = more
    by false more = omega (arith, e)

free_used : (n slot k : ℕ) (config : Config) → slot + n ≡ 32 → slot ≤ k → k < slot_or_last (free_slot_from n slot config) → is_used k config ≡ true
free_used zero slot k config e low lt = absurd (omega (arith, e, low, lt))
free_used (suc n) slot k config e low lt = by (is_used slot config) refl (λ past. free_used n (slot + 1) k config (omega (arith, e)) past) lt
  where
    by : (b : Bool) → is_used slot config ≡ b → (slot + 1 ≤ k → k < slot_or_last (free_slot_from n (slot + 1) config) → is_used k config ≡ true) → k < slot_or_last (if b then free_slot_from n (slot + 1) config else Some slot) → is_used k config ≡ true
    by true is more lt = elim (cases_lt slot k) [
      | inl past ↦ more (omega (arith, past)) lt
      | inr here ↦ (let same : slot ≡ k = omega (arith, here, low) in subst (λ (s : ℕ). is_used s config ≡ true) same is)
    ]
    by false is more lt = absurd (omega (arith, low, lt))

pub next_above : (config : Config) (s : ℕ) → s ≤ 32 → ((k : ℕ) → k < s → is_used k config ≡ true) → s ≤ next_slot config
unfolding next_slot
next_above config s small used = free_above 32 0 s config small used

pub next_small : (config : Config) → next_slot config ≤ 32
unfolding next_slot
next_small config = free_small 32 0 config refl

pub used_below : (config : Config) (k : ℕ) → k < next_slot config → is_used k config ≡ true
unfolding next_slot
used_below config k lt = free_used 32 0 k config refl (omega arith) lt

pub same_used : (config other : Config) (k : ℕ) → IsPermutation (objects_of config) (objects_of other) → is_used k config ≡ is_used k other
same_used config other k same = disks_pass config (λ d. d.slot == k) ∙ list_any-IsPermutation (λ o. is_disk (λ d. d.slot == k) o) (objects_of config) (objects_of other) same ∙ sym (disks_pass other (λ d. d.slot == k))

-- the same records leave no lower slot
pub next_kept : (config other : Config) → IsPermutation (objects_of config) (objects_of other) → next_slot config ≤ next_slot other
next_kept config other same = next_above other (next_slot config) (next_small config) (λ k lt. sym (same_used config other k same) ∙ used_below config k lt)
