-- The lowest free slot is the one that a search from the lowest on finds first.
use Rattle.std.proofs.Common.{◌≡◌, ℕ, zero, suc, ◌+◌, ◌<◌, ◌≤◌, ◌==◌, Bool, true, false, cond, Option, Some, None, refl, ap, ◌∙◌, subst, arith}
use Rattle.std.proofs.lemmas.Bool.{cond-true}
use Rattle.std.specs.List.{list_any}
use Rattle.vx_objects.specs.declared.config.Config.{Config}
use Rattle.vx_stages.specs.Records.{free_slot_from, slot_or_last, next_slot}

-- a disk has the slot
abbrev pub has_slot : ℕ → Config → Bool
has_slot slot c = list_any (λ d. d.slot == slot) c.disks

by_has : (b : Bool) (rest : Option ℕ) (slot s : ℕ) → (b ≡ true → rest ≡ Some s) → (b ≡ false → slot ≡ s) → cond b rest (Some slot) ≡ Some s
by_has true rest slot s more here = more refl
by_has false rest slot s more here = ap Some (here refl)

not_free : (b : Bool) → b ≡ true → b ≡ false → ⊥
not_free b t f = cc

lowest_from : (c : Config) (n slot s : ℕ) → ((k : ℕ) → slot ≤ k → k < s → has_slot k c ≡ true) → has_slot s c ≡ false → slot ≤ s → s < slot + n → free_slot_from n slot c ≡ Some s
lowest_from c zero slot s taken free from below = absurd (omega (arith, from, below))
lowest_from c (suc n) slot s taken free from below =
    by_has (has_slot slot c) (free_slot_from n (slot + 1) c) slot s
    (λ is. let other : slot ≡ s → ⊥ = λ same. not_free (has_slot s c) (subst (λ k. has_slot k c ≡ true) same is) free in
    lowest_from c n (slot + 1) s (λ k more less. taken k (omega (arith, more)) less) free (omega (arith, from, other)) (omega (arith, below)))
    (λ not_here. let none : slot < s → ⊥ = λ less. not_free (has_slot slot c) (taken slot (omega arith) less) not_here in omega (arith, from, none))

none_from : (c : Config) (n slot : ℕ) → ((k : ℕ) → slot ≤ k → k < slot + n → has_slot k c ≡ true) → free_slot_from n slot c ≡ None
none_from c zero slot taken = refl
none_from c (suc n) slot taken = cond-true _ _ _ (taken slot (omega arith) (omega arith)) ∙ none_from c n (slot + 1) (λ k more less. taken k (omega (arith, more)) (omega (arith, less)))

pub lowest : (c : Config) (s : ℕ) → s < 32 → ((k : ℕ) → k < s → has_slot k c ≡ true) → has_slot s c ≡ false → next_slot c ≡ s
unfolding next_slot
lowest c s low taken free = ap slot_or_last (lowest_from c 32 0 s (λ k more less. taken k less) free (omega arith) (omega (arith, low)))

pub none_free : (c : Config) → ((k : ℕ) → k < 32 → has_slot k c ≡ true) → next_slot c ≡ 32
unfolding next_slot
none_free c taken = ap slot_or_last (none_from c 32 0 (λ k more less. taken k (omega (arith, less))))
