-- The pieces of a column lie end to end, so that the strips have the column's sectors together.
use Rattle.std.proofs.Common.{◌≡◌, ◌⊎◌, ℕ, zero, suc, ◌+◌, ◌<◌, ◌≤◌, Bool, true, false, cond, List, [], ◌∷◌, Option, Some, None, refl, sym, ◌∙◌, ap, subst, inl, inr, arith, ◌&&◌, ◌==◌, nat_le}
use Rattle.std.specs.List.{find, count_by}
use Rattle.std.proofs.lemmas.Bool.{false≢true, and_parts, and_from, cases_lt, le-leb, leb-true, eq-eqb, eqb-true, false_from_ne_true}
use Rattle.vx_base.specs.Named.{Word}
use Rattle.vx_layout.specs.Columns.{column_length}
use Rattle.vx_config_parts.specs.declared.subdisk.Subdisk.{Subdisk}
use Rattle.vx_rules.specs.Columns.{is_in_column}
use Rattle.vx_rules.proofs.ListTests.{count_more}
use Rattle.vx_objects.specs.declared.config.Config.{Config}
use Rattle.vx_image.specs.Lies.{strip_then, strips_from}
use Rattle.vx_image.proofs.PlexMembers.{IsIn, count_some}

-- a subdisk of the configuration in the column of the plex
abbrev pub IsPiece : Config → Word → ℕ → Subdisk → Type 0
IsPiece c name col s = IsIn c.subdisks s × (is_in_column name col s ≡ true)

-- pieces have sectors, each begins the column or where another ends, and no two begin at one sector
pub record IsWhole (c : Config) (name : Word) (col : ℕ) : Type 0 where
  pub filled : (s : Subdisk) → IsIn c.subdisks s → 0 < s.len
  pub follows : (s : Subdisk) → IsPiece c name col s → 0 < s.at → (t : Subdisk) × IsPiece c name col t × (t.at + t.len ≡ s.at)
  pub only : (s t : Subdisk) → IsPiece c name col s → IsPiece c name col t → s.at ≡ t.at → s ≡ t

-- the pieces end there
pub record IsEnd (c : Config) (name : Word) (col end : ℕ) : Type 0 where
  pub reaches : (s : Subdisk) → IsPiece c name col s → s.at + s.len ≤ end
  pub least : (m : ℕ) → ((s : Subdisk) → IsPiece c name col s → s.at + s.len ≤ m) → end ≤ m

-- no piece begins before the sector and ends behind it
abbrev pub IsEdge : Config → Word → ℕ → ℕ → Type 0
IsEdge c name col at = (s : Subdisk) → IsPiece c name col s → (s.at + s.len ≤ at) ⊎ (at ≤ s.at)

-- before a piece behind the edge there is one that begins at it
behind : (c : Config) (name : Word) (col at : ℕ) → IsWhole c name col → IsEdge c name col at → (k : ℕ) (t : Subdisk) → IsPiece c name col t → at < t.at → t.at ≤ k →
    (u : Subdisk) × IsPiece c name col u × (u.at ≡ at) × (u.at + u.len ≤ t.at)
behind c name col at whole edge zero t piece lt le = absurd (omega (arith, lt, le))
behind c name col at whole edge (suc k) t piece lt le =
    let v = whole.follows t piece (omega (arith, lt)) in
    let len = whole.filled v.0 v.1.0 in
    let ends = v.2 in
    elim (edge v.0 v.1) [
      | inl passed ↦ absurd (omega (arith, passed, ends, lt))
      | inr from ↦ elim (cases_lt at v.0.at) [
        | inl less ↦ let r = behind c name col at whole edge k v.0 v.1 less (omega (arith, ends, len, le)) in let below = r.3 in (r.0, r.1, r.2, omega (arith, below, ends))
        | inr ge ↦ (v.0, v.1, omega (arith, from, ge), omega (arith, ends))
      ]
    ]

-- the end of a piece that begins at an edge is one
next_edge : (c : Config) (name : Word) (col at : ℕ) → IsWhole c name col → IsEdge c name col at → (s : Subdisk) → IsPiece c name col s → s.at ≡ at → IsEdge c name col (s.at + s.len)
next_edge c name col at whole edge s piece is = λ t other. elim (edge t other) [
  | inl passed ↦ inl (omega (arith, passed, is))
  | inr from ↦ elim (cases_lt at t.at) [
    | inl less ↦
        let u = behind c name col at whole edge t.at t other less (omega arith) in
        let same = whole.only u.0 s u.1 piece (u.2 ∙ sym is) in
        inr (subst (λ x. x.at + x.len ≤ t.at) same u.3)
    | inr ge ↦ let same = whole.only t s other piece (omega (arith, from, ge, is)) in inl (subst (λ x. x.at + x.len ≤ s.at + s.len) (sym same) (omega arith))
  ]
]

-- where none begins at an edge all end before it
all_passed : (c : Config) (name : Word) (col at : ℕ) → IsWhole c name col → IsEdge c name col at → ((s : Subdisk) → IsPiece c name col s → s.at ≡ at → ⊥) → (t : Subdisk) → IsPiece c name col t → t.at + t.len ≤ at
all_passed c name col at whole edge none t piece = elim (edge t piece) [
  | inl passed ↦ passed
  | inr from ↦ elim (cases_lt at t.at) [
    | inl less ↦ let u = behind c name col at whole edge t.at t piece less (omega arith) in absurd (none u.0 u.1 u.2)
    | inr ge ↦ absurd (none t piece (omega (arith, from, ge)))
  ]
]

-- ---- what is found

some_same : {A : Type 0} (a b : A) → Some a ≡ Some b → a ≡ b
some_same a b e = cc

pub found_in : {A : Type 0} (test : A → Bool) (xs : List A) (x : A) → find test xs ≡ Some x → IsIn xs x × (test x ≡ true)
found_in test [] x e = absurd cc
found_in test (y ∷ xs) x e = by (found_in test xs x) (test y) refl e where
  by : (find test xs ≡ Some x → IsIn xs x × (test x ≡ true)) → (b : Bool) → test y ≡ b → cond b (Some y) (find test xs) ≡ Some x → IsIn (y ∷ xs) x × (test x ≡ true)
  by on true t e = let same = some_same y x e in (inl (sym same), subst (λ z. test z ≡ true) same t)
  by on false t e = let r = on e in (inr r.0, r.1)

pub none_in : {A : Type 0} (test : A → Bool) (xs : List A) (x : A) → find test xs ≡ None → IsIn xs x → test x ≡ true → ⊥
none_in test [] x e h t = h
none_in test (y ∷ xs) x e h t = by (λ n m. none_in test xs x n m t) (test y) refl e h where
  by : (find test xs ≡ None → IsIn xs x → ⊥) → (b : Bool) → test y ≡ b → cond b (Some y) (find test xs) ≡ None → IsIn (y ∷ xs) x → ⊥
  by on true k e h = absurd cc
  by on false k e (inl h) = false≢true (sym k ∙ (sym (ap test h) ∙ t))
  by on false k e (inr h) = on e h

count_weaker : {A : Type 0} (p q : A → Bool) (xs : List A) → ((y : A) → p y ≡ true → q y ≡ true) → count_by p xs ≤ count_by q xs
count_weaker p q [] w = omega arith
count_weaker p q (y ∷ xs) w = by (count_weaker p q xs w) (p y) (q y) refl refl (count_more p y xs) (count_more q y xs) where
  by : count_by p xs ≤ count_by q xs → (a b : Bool) → p y ≡ a → q y ≡ b → count_by p (y ∷ xs) ≡ cond a 1 0 + count_by p xs → count_by q (y ∷ xs) ≡ cond b 1 0 + count_by q xs → count_by p (y ∷ xs) ≤ count_by q (y ∷ xs)
  by r true true h k e f = omega (arith, r, e, f)
  by r true false h k e f = absurd (false≢true (sym k ∙ w y h))
  by r false true h k e f = omega (arith, r, e, f)
  by r false false h k e f = omega (arith, r, e, f)

count_less : {A : Type 0} (p q : A → Bool) (xs : List A) (x : A) → ((y : A) → p y ≡ true → q y ≡ true) → IsIn xs x → p x ≡ false → q x ≡ true → count_by p xs + 1 ≤ count_by q xs
count_less p q [] x w h no_p is_q = absurd h
count_less p q (y ∷ xs) x w (inl h) no_p is_q = by (p y) (q y) (sym (ap p h) ∙ no_p) (sym (ap q h) ∙ is_q) (count_more p y xs) (count_more q y xs) where
  by : (a b : Bool) → a ≡ false → b ≡ true → count_by p (y ∷ xs) ≡ cond a 1 0 + count_by p xs → count_by q (y ∷ xs) ≡ cond b 1 0 + count_by q xs → count_by p (y ∷ xs) + 1 ≤ count_by q (y ∷ xs)
  by true b h k e f = absurd (false≢true (sym h))
  by false false h k e f = absurd (false≢true k)
  by false true h k e f = let r = count_weaker p q xs w in omega (arith, r, e, f)
count_less p q (y ∷ xs) x w (inr h) no_p is_q = by (count_less p q xs x w h no_p is_q) (p y) (q y) refl refl (count_more p y xs) (count_more q y xs) where
  by : count_by p xs + 1 ≤ count_by q xs → (a b : Bool) → p y ≡ a → q y ≡ b → count_by p (y ∷ xs) ≡ cond a 1 0 + count_by p xs → count_by q (y ∷ xs) ≡ cond b 1 0 + count_by q xs → count_by p (y ∷ xs) + 1 ≤ count_by q (y ∷ xs)
  by r true true t k e f = omega (arith, r, e, f)
  by r true false t k e f = absurd (false≢true (sym k ∙ w y t))
  by r false true t k e f = omega (arith, r, e, f)
  by r false false t k e f = omega (arith, r, e, f)

-- ---- the sum

-- the piece begins there or later
abbrev pub is_from : Word → ℕ → ℕ → Subdisk → Bool
is_from name col at s = is_in_column name col s && nat_le at s.at

from_later : (name : Word) (col a b : ℕ) (s : Subdisk) → a ≤ b → is_from name col b s ≡ true → is_from name col a s ≡ true
from_later name col a b s le h =
    let parts = and_parts (is_in_column name col s) (nat_le b s.at) h in
    let later = leb-true b s.at parts.1 in
    and_from _ _ parts.0 (le-leb a s.at (omega (arith, le, later)))

not_from : (name : Word) (col at : ℕ) (s : Subdisk) → s.at < at → is_from name col at s ≡ false
not_from name col at s lt = false_from_ne_true _ (λ h. let later = leb-true at s.at (and_parts (is_in_column name col s) (nat_le at s.at) h).1 in omega (arith, lt, later))

pub chain_sum : (n : ℕ) (c : Config) (name : Word) (col at end : ℕ) → IsWhole c name col → IsEnd c name col end → IsEdge c name col at → at ≤ end → count_by (is_from name col at) c.subdisks ≤ n →
    at + column_length (strips_from n c name col at) ≡ end
chain_sum zero c name col at end whole ends edge le few =
    let up = ends.least at (λ t piece. elim (edge t piece) [
      | inl passed ↦ passed
      | inr from ↦ let some = count_some (is_from name col at) c.subdisks t piece.0 (and_from _ _ piece.1 (le-leb at t.at from)) in absurd (omega (arith, some, few))
    ]) in
    omega (arith, up, le)
chain_sum (suc n) c name col at end whole ends edge le few = by (λ next edge le few. chain_sum n c name col next end whole ends edge le few) (find (λ s. is_in_column name col s && s.at == at) c.subdisks) refl where
  by : ((next : ℕ) → IsEdge c name col next → next ≤ end → count_by (is_from name col next) c.subdisks ≤ n → next + column_length (strips_from n c name col next) ≡ end) → (f : Option Subdisk) → find (λ s. is_in_column name col s && s.at == at) c.subdisks ≡ f → at + column_length (strip_then c.disks f (λ next. strips_from n c name col next)) ≡ end
  by on None e =
      let up = ends.least at (all_passed c name col at whole edge (λ s piece is. none_in (λ s. is_in_column name col s && s.at == at) c.subdisks s e piece.0 (and_from _ _ piece.1 (eq-eqb s.at at is)))) in
      omega (arith, up, le)
  by on (Some s) e =
      let r = found_in (λ s. is_in_column name col s && s.at == at) c.subdisks s e in
      let parts = and_parts (is_in_column name col s) (s.at == at) r.1 in
      let is : s.at ≡ at = eqb-true s.at at parts.1 in
      let piece : IsPiece c name col s = (r.0, parts.0) in
      let len = whole.filled s r.0 in
      let less = count_less (is_from name col (s.at + s.len)) (is_from name col at) c.subdisks s (λ y h. from_later name col at (s.at + s.len) y (omega (arith, is)) h) r.0 (not_from name col (s.at + s.len) s (omega (arith, len))) (and_from _ _ parts.0 (le-leb at s.at (omega (arith, is)))) in
      let rest = on (s.at + s.len) (next_edge c name col at whole edge s piece is) (ends.reaches s piece) (omega (arith, less, few)) in
      omega (arith, rest, is)
