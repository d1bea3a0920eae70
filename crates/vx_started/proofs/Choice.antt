-- What a part leaves on a device is among the candidates that its entry leaves.
use Rattle.std.proofs.Common.{◌≡◌, ◌⊎◌, ℕ, ◌+◌, ◌-◌, ◌*◌, ◌<◌, ◌≤◌, Bool, true, false, cond, List, [], ◌∷◌, length, length-drop, take, drop, Option, Some, None, Result, Ok, Err, subst, sym, ap, ◌∙◌, refl, inl, inr, arith, ltb, leb}
use Rattle.std.specs.Prelude.{OnOk}
use Rattle.std.proofs.lemmas.List.{length-take-le}
use Rattle.std.proofs.lemmas.Bool.{and_parts, leb-true, ltb-true}
use Rattle.vx_base.specs.Blocks.{Contents, block_at, blocks_in, is_in, written}
use Rattle.vx_base.proofs.BlockLemmas.{block_at-part}
use Rattle.vx_piece.specs.Seen.{Writes}
use Rattle.vx_life.specs.Candidates.{Values, Any, OneOf, IsListed, IsAmong, or_also, Candidates}
use Rattle.vx_started.specs.Stands.{IsAmongTold}

module _ (new : List ℕ) (old value : List ℕ) where
  exact : (b : Bool) (c : Values) → IsAmong c old → new ≡ cond b value old → IsAmong (cond b (OneOf (value ∷ [])) c) new
  exact true c among p = inl p
  exact false c among p = subst (IsAmong c) (sym p) among

  also : (b : Bool) (c : Values) → IsAmong c old → (new ≡ old) ⊎ (new ≡ cond b value old) → IsAmong (cond b (or_also value c) c) new
  also true Any among p = tt
  also true (OneOf vs) among (inl p) = inr (subst (IsListed vs) (sym p) among)
  also true (OneOf vs) among (inr p) = inl p
  also false c among (inl p) = subst (IsAmong c) (sym p) among
  also false c among (inr p) = subst (IsAmong c) (sym p) among

  same : (b : Bool) (c : Values) → IsAmong c new → IsAmong (cond b c c) new
  same true c among = among
  same false c among = among

pub is_in_bounds : (at n k : ℕ) → is_in at n k ≡ true → (at ≤ k) × (k < at + n)
is_in_bounds at n k e = let p = and_parts (leb at k) (ltb k (at + n)) e in (leb-true at k p.0, ltb-true k (at + n) p.1)

pub few_own : (all : List ℕ) (start at n : ℕ) → start ≤ at → 512 * (at + n - start) ≤ length all → blocks_in (take (512 * n) (drop (512 * (at - start)) all)) ≡ n
few_own all start at n from room = omega (arith, length-take-le (512 * n) (drop (512 * (at - start)) all) (omega (arith, length-drop (512 * (at - start)) all, from, room)))

-- the values that a part of a range writes, of which these are the bytes
pub written-part : (all : List ℕ) (start at n : ℕ) → start ≤ at → 512 * (at + n - start) ≤ length all → (old : Contents) (k : ℕ) → written at (take (512 * n) (drop (512 * (at - start)) all)) old k ≡ cond (is_in at n k) (block_at all (k - start)) (old k)
written-part all start at n from room old k =
    ap (λ m. cond (is_in at m k) (block_at own (k - at)) (old k)) (few_own all start at n from room) ∙ within (is_in at n k) refl
  where
    own : List ℕ
    own = take (512 * n) (drop (512 * (at - start)) all)

    within : (b : Bool) → is_in at n k ≡ b → cond b (block_at own (k - at)) (old k) ≡ cond b (block_at all (k - start)) (old k)
    within true e =
        let h = is_in_bounds at n k e in
        let there : at - start + (k - at) ≡ k - start = omega (arith, h.0, from) in
        block_at-part all (at - start) (512 * n) (k - at) (omega (arith, h.0, h.1)) ∙ ap (block_at all) there
    within false e = refl

module _ (at n m : ℕ) (c : Candidates) where
  module _ (bytes : List ℕ) (values : Contents) (are : (old : Contents) (k : ℕ) → written at bytes old k ≡ cond (is_in at n k) (values k) (old k)) where
    -- after a write that is done
    pub wrote : {T E : Type 0} (told after : Option Contents) (result : Result T E) → Writes at bytes told after result → IsAmongTold m told c → OnOk result (IsAmongTold m after (λ k. cond (is_in at n k) (OneOf (values k ∷ [])) (c k)))
    wrote None after (Ok u) writes among = absurd among
    wrote (Some old) None (Ok u) writes among = absurd writes
    wrote (Some old) (Some new) (Ok u) writes among = λ k lt. exact (new k) (old k) (values k) (is_in at n k) (c k) (among k lt) (writes k ∙ are old k)
    wrote told after (Err e) writes among = tt

    -- after a write that may have failed
    pub tore : {T E : Type 0} (told after : Option Contents) (result : Result T E) → Writes at bytes told after result → IsAmongTold m told c → IsAmongTold m after (λ k. cond (is_in at n k) (or_also (values k) (c k)) (c k))
    tore None after result writes among = absurd among
    tore (Some old) None result writes among = absurd writes
    tore (Some old) (Some new) (Ok t) writes among = λ k lt. also (new k) (old k) (values k) (is_in at n k) (c k) (among k lt) (inr (writes k ∙ are old k))
    tore (Some old) (Some new) (Err e) writes among = λ k lt. also (new k) (old k) (values k) (is_in at n k) (c k) (among k lt) (elim (writes k) [ inl same ↦ inl same | inr there ↦ inr (there ∙ are old k) ])

  -- after a read of what is there
  pub read : (contents : Contents) (told after : Option Contents) → told ≡ Some contents → after ≡ told → IsAmongTold m told c → IsAmongTold m after (λ k. cond (is_in at n k) (OneOf (contents k ∷ [])) (c k))
  read contents told after is stays among = subst (λ t. IsAmongTold m t (λ k. cond (is_in at n k) (OneOf (contents k ∷ [])) (c k))) (sym (stays ∙ is)) (λ k lt. exact (contents k) (contents k) (contents k) (is_in at n k) (c k) (subst (λ t. IsAmongTold m t c) is among k lt) (either (is_in at n k) (contents k)))
    where
      either : (b : Bool) (v : List ℕ) → v ≡ cond b v v
      either true v = refl
      either false v = refl

  -- after a read that may have failed
  pub missed : (told after : Option Contents) → after ≡ told → IsAmongTold m told c → IsAmongTold m after (λ k. cond (is_in at n k) (c k) (c k))
  missed None after stays among = absurd among
  missed (Some contents) after stays among = subst (λ t. IsAmongTold m t (λ k. cond (is_in at n k) (c k) (c k))) (sym stays) (λ k lt. same (contents k) [] [] (is_in at n k) (c k) (among k lt))
