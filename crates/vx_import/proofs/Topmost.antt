-- Where each slot that is named has a device that can be read, what is taken is the newest of all devices of the group.
use Rattle.std.proofs.Common.{◌≡◌, ◌≢◌, ℕ, ◌<◌, ◌≤◌, ◌^◌, Bool, true, false, List, [], ◌∷◌, refl, sym, ap, ◌∙◌, subst, arith, inl, inr}
use Rattle.std.specs.Prelude.{◌&&◌, ◌||◌, ◌==◌, Result, Ok, Err, IfOk}
use Rattle.std.proofs.lemmas.Bool.{cases_lt, ne_eqb}
use Rattle.std.proofs.lemmas.Nat.Bits.{bit_at_above}
use Rattle.vx_base.specs.Named.{Word}
use Rattle.vx_mask.specs.Mask.{has}
use Rattle.vx_copies.specs.Lists.{AllOf, AnyOf}
use Rattle.vx_copies.specs.Image.{Offer}
use Rattle.vx_copies.specs.Chain.{Copy, NamesNewer}
use Rattle.vx_confdb.specs.Texts.{text_of}
use Rattle.vx_import.specs.Looks.{Looked}
use Rattle.vx_import.specs.Naming.{is_readable_slot, AllThere}
use Rattle.vx_import.specs.Answers.{IsRising, IsChosen, IsElsewhere, AreApart, IsNewestOf, Answers}
use Rattle.vx_import.specs.declared.judging.Given.{Given}
use Rattle.vx_import.specs.declared.judging.ImportFault.{ImportFault}
use Rattle.vx_import.proofs.Chains.{newest_or_names}

has_none : (mask k : ℕ) → mask < 2 ^ 32 → 32 ≤ k → has mask k ≡ false
unfolding has
has_none mask k fits high = rw (bit_at_above mask 32 k fits high) refl

both_ways : (b : Bool) → b ≡ true → b ≡ false → ⊥
both_ways true p q = cc
both_ways false p q = cc

has_below : (mask k : ℕ) → mask < 2 ^ 32 → has mask k ≡ true → k < 32
has_below mask k fits named = elim (cases_lt k 32) [ inl low ↦ low | inr high ↦ absurd (both_ways (has mask k) named (has_none mask k fits high)) ]

-- a readable device of the slot is behind the first, where the first is not one
behind : (b same more : Bool) → same ≡ false → ((b && same) || more) ≡ true → more ≡ true
behind true same more is e = subst (λ x. (x || more) ≡ true) is e
behind false same more is e = e

unread_behind : (b same more : Bool) → b ≡ false → ((b && same) || more) ≡ true → more ≡ true
unread_behind true same more is e = cc
unread_behind false same more is e = e

not_there : (slot : ℕ) (fs : List Looked) → AllOf (λ f. f.label.slot ≢ slot) fs → is_readable_slot slot fs ≡ true → ⊥
not_there slot [] apart is = cc
not_there slot (f ∷ fs) apart is = not_there slot fs apart.1 (behind f.readable (f.label.slot == slot) (is_readable_slot slot fs) (ne_eqb f.label.slot slot apart.0) is)

above_apart : (slot : ℕ) (fs : List Looked) → AllOf (λ g. slot < g.label.slot) fs → AllOf (λ g. g.label.slot ≢ slot) fs
above_apart slot [] above = tt
above_apart slot (g ∷ fs) above = (λ e. let lt = above.0 in omega (arith, lt, e), above_apart slot fs above.1)

both_any : (A : ℕ → Type 0) (B : Looked → Type 0) (fs : List Looked) → AllOf (λ g. A g.label.slot) fs → AnyOf (λ g. B g) fs → AnyOf (λ g. B g × A g.label.slot) fs
both_any A B [] all any = any
both_any A B (f ∷ fs) all (inl is) = inl (is, all.0)
both_any A B (f ∷ fs) all (inr any) = inr (both_any A B fs all.1 any)

any_map : (B C : Looked → Type 0) (fs : List Looked) → ((f : Looked) → B f → C f) → AnyOf B fs → AnyOf C fs
any_map B C [] on any = any
any_map B C (f ∷ fs) on (inl is) = inl (on f is)
any_map B C (f ∷ fs) on (inr any) = inr (any_map B C fs on any)

-- a slot that a device has which cannot be read is not there
gone_here : (fs : List Looked) (Q : ℕ → Type 0) → IsRising fs → ((slot : ℕ) → Q slot → is_readable_slot slot fs ≡ true) → AnyOf (λ f. (f.readable ≡ false) × Q f.label.slot) fs → ⊥
gone_here [] Q rising there any = absurd any
gone_here (f ∷ fs) Q rising there (inl is) =
    not_there f.label.slot fs (above_apart f.label.slot fs rising.0) (unread_behind f.readable (f.label.slot == f.label.slot) (is_readable_slot f.label.slot fs) is.0 (there f.label.slot is.1))
gone_here (f ∷ fs) Q rising there (inr any) =
    gone_here fs (λ n. Q n × (f.label.slot < n)) rising.1
    (λ slot q. behind f.readable (f.label.slot == slot) (is_readable_slot slot fs) (ne_eqb f.label.slot slot (λ e. let lt = q.1 in omega (arith, lt, e))) (there slot q.0))
    (any_map (λ g. ((g.readable ≡ false) × Q g.label.slot) × (f.label.slot < g.label.slot)) (λ g. (g.readable ≡ false) × (Q g.label.slot × (f.label.slot < g.label.slot))) fs (λ g is. (is.0.0, (is.0.1, is.1))) (both_any (λ n. f.label.slot < n) (λ g. (g.readable ≡ false) × Q g.label.slot) fs rising.0 any))

nobody : (o : Offer) (others : List Copy) (fs : List Looked) → ((slot : ℕ) → has o.good slot ≡ true → is_readable_slot slot fs ≡ true) → AllOf (IsElsewhere fs) others → NamesNewer o others → ⊥
nobody o [] fs there apart any = absurd any
nobody o (c ∷ others) fs there apart (inl is) = not_there c.slot fs apart.0 (there c.slot is.0)
nobody o (c ∷ others) fs there apart (inr any) = nobody o others fs there apart.1 any

slot_apart : (missing slot : ℕ) (fs : List Looked) → has missing slot ≡ true → AreApart missing fs → AllOf (λ f. f.label.slot ≢ slot) fs
slot_apart missing slot [] is apart = tt
slot_apart missing slot (f ∷ fs) is apart = (λ e. let here : has missing slot ≡ false = ap (has missing) (sym e) ∙ apart.0 in cc, slot_apart missing slot fs is apart.1)

pub is_newest : (group : Word) (sequence good : ℕ) (text : List ℕ) (fs : List Looked) → IsRising fs → IsChosen group sequence good text fs → AllThere 32 good fs → IsNewestOf group sequence fs
is_newest group sequence good text fs rising chosen there = λ missing others tells away apart chained.
    let named : (slot : ℕ) → has good slot ≡ true → is_readable_slot slot fs ≡ true = λ slot is. there slot (has_below good slot chosen.mask_fits is) is in
    elim (newest_or_names group missing others fs (record { sequence = sequence; good = good; text = text }) chained (chosen.gives tells)) [
      | inl top ↦ top
      | inr (inl names) ↦ absurd (nobody (record { sequence = sequence; good = good; text = text }) others fs named apart names)
      | inr (inr (inl unread)) ↦ absurd (gone_here fs (λ slot. has good slot ≡ true) rising named unread)
      | inr (inr (inr gone)) ↦ absurd (not_there gone.0 fs (slot_apart missing gone.0 fs gone.1 away) (named gone.0 gone.2))
    ]

pub all_newest : (group : Word) (r : Result Given ImportFault) (fs : List Looked) → IsRising fs → Answers r group fs → IfOk r (λ g. IsNewestOf group g.sequence fs)
all_newest group (Ok g) fs rising is = is_newest group g.sequence g.good (text_of g.text) fs rising is.chosen is.there
all_newest group (Err e) fs rising is = tt
