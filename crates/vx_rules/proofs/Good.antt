-- The columns of a plex are good where each is whole and as long as the first, and no piece lies behind them.
use Rattle.std.proofs.Common.{◌≡◌, ℕ, ◌<◌, Bool, true, false, cond, not, nat_le, nat_lt, List, [], ◌∷◌, refl, sym, ap, ◌∙◌, subst, inl, inr, arith, zero, suc, ◌&&◌, ◌==◌}
use Rattle.std.specs.List.{list_any, list_all}
use Rattle.std.proofs.lemmas.Bool.{and_parts, and_from, or_from, or_parts, not-true, not_from_false, ltb-true, lt-ltb, leb-false, lt-leb, eq-eqb, cases_lt, cond-true}
use Rattle.vx_config_parts.specs.declared.subdisk.Subdisk.{Subdisk}
use Rattle.vx_config_parts.specs.declared.plex.Plex.{Plex}
use Rattle.vx_config_parts.specs.declared.object.Object.{Object}
use Rattle.vx_config_parts.specs.declared.object.Object.TheVariants.{SubdiskRecord}
use Rattle.vx_config_parts.specs.Objects.{is_subdisk, refers}
use Rattle.vx_rules.specs.Below.{all_below}
use Rattle.vx_rules.specs.Columns.{is_in_column, column_begins, piece_follows, piece_is_good, all_pieces_good, column_length, columns_are_equal, layout_is_good, columns_are_good}
use Rattle.vx_rules.specs.Indexed.{follows_in, column_is_whole, has_piece_from}
use Rattle.vx_rules.proofs.ListTests.{same_truth}

below_at : (test : ℕ → Bool) (n k : ℕ) → k < n → all_below n test ≡ true → test k ≡ true
below_at test zero k lt h = absurd (omega arith)
below_at test (suc n) k lt h =
    let parts = and_parts (all_below n test) (test n) h in
    elim (cases_lt k n) [
      | inl less ↦ below_at test n k less parts.0
      | inr le ↦ let e : n ≡ k = omega arith in subst (λ i. test i ≡ true) e parts.1
    ]

below_from : (test : ℕ → Bool) (n : ℕ) → ((k : ℕ) → k < n → test k ≡ true) → all_below n test ≡ true
below_from test zero h = refl
below_from test (suc n) h = and_from _ _ (below_from test n (λ k lt. h k (omega arith))) (h n (omega arith))

-- each column is whole and so long
abbrev pub all_so_long : List Object → Plex → ℕ → Bool
all_so_long all p length = all_below p.ncol (λ c. column_is_whole all p.name c && column_length all p.name c == length)

-- each column is whole and as long as the first
abbrev pub are_whole : List Object → Plex → Bool
are_whole all p = all_so_long all p (column_length all p.name 0)

-- a piece of the plex behind its columns
abbrev pub is_behind : Plex → Object → Bool
is_behind p o = is_subdisk (λ s. refers s.plex p.name && nat_le p.ncol s.col) o

piece_good : (all : List Object) (p : Plex) (s : Subdisk) → ((c : ℕ) → c < p.ncol → follows_in all p.name c (SubdiskRecord s) ≡ true) → is_behind p (SubdiskRecord s) ≡ false → piece_is_good all p s ≡ true
piece_good all p s follow inside = by (refers s.plex p.name) refl
  where
    by : (b : Bool) → refers s.plex p.name ≡ b → cond b (nat_lt s.col p.ncol && piece_follows all p.name s) true ≡ true
    by false e = refl
    by true e =
        let lt : s.col < p.ncol = leb-false p.ncol s.col (sym (ap (λ b. b && nat_le p.ncol s.col) e) ∙ inside) in
        let here : is_in_column p.name s.col s ≡ true = and_from _ _ e (eq-eqb s.col s.col refl) in
        and_from _ _ (lt-ltb s.col p.ncol lt) (sym (cond-true (is_in_column p.name s.col s) (piece_follows all p.name s) true here) ∙ follow s.col lt)

objects_good : (all : List Object) (p : Plex) (os : List Object) → ((c : ℕ) → c < p.ncol → list_all (follows_in all p.name c) os ≡ true) → list_any (is_behind p) os ≡ false → list_all (λ o. all_pieces_good all p o) os ≡ true
objects_good all p [] follow inside = refl
objects_good all p (SubdiskRecord s ∷ os) follow inside =
    let parts = or_parts (is_behind p (SubdiskRecord s)) (list_any (is_behind p) os) inside in
    and_from _ _ (piece_good all p s (λ c lt. (and_parts (follows_in all p.name c (SubdiskRecord s)) (list_all (follows_in all p.name c) os) (follow c lt)).0) parts.0)
    (objects_good all p os (λ c lt. (and_parts (follows_in all p.name c (SubdiskRecord s)) (list_all (follows_in all p.name c) os) (follow c lt)).1) parts.1)
objects_good all p (o ∷ os) follow inside = objects_good all p os follow inside

piece_inside : (all : List Object) (p : Plex) (s : Subdisk) → piece_is_good all p s ≡ true → is_behind p (SubdiskRecord s) ≡ false
piece_inside all p s h = by (refers s.plex p.name) refl
  where
    by : (b : Bool) → refers s.plex p.name ≡ b → (b && nat_le p.ncol s.col) ≡ false
    by false e = refl
    by true e = lt-leb p.ncol s.col (ltb-true s.col p.ncol (and_parts (nat_lt s.col p.ncol) (piece_follows all p.name s) (sym (cond-true (refers s.plex p.name) (nat_lt s.col p.ncol && piece_follows all p.name s) true e) ∙ h)).0)

objects_inside : (all : List Object) (p : Plex) (os : List Object) → list_all (λ o. all_pieces_good all p o) os ≡ true → list_any (is_behind p) os ≡ false
objects_inside all p [] h = refl
objects_inside all p (SubdiskRecord s ∷ os) h =
    let parts = and_parts (piece_is_good all p s) (list_all (λ o. all_pieces_good all p o) os) h in
    or_from _ _ (piece_inside all p s parts.0) (objects_inside all p os parts.1)
objects_inside all p (o ∷ os) h = objects_inside all p os h

piece_in : (all : List Object) (p : Plex) (c : ℕ) (s : Subdisk) → piece_is_good all p s ≡ true → follows_in all p.name c (SubdiskRecord s) ≡ true
piece_in all p c s h = by (is_in_column p.name c s) refl
  where
    by : (b : Bool) → is_in_column p.name c s ≡ b → cond b (piece_follows all p.name s) true ≡ true
    by false e = refl
    by true e =
        let named = (and_parts (refers s.plex p.name) (s.col == c) e).0 in
        (and_parts (nat_lt s.col p.ncol) (piece_follows all p.name s) (sym (cond-true (refers s.plex p.name) (nat_lt s.col p.ncol && piece_follows all p.name s) true named) ∙ h)).1

objects_in : (all : List Object) (p : Plex) (c : ℕ) (os : List Object) → list_all (λ o. all_pieces_good all p o) os ≡ true → list_all (follows_in all p.name c) os ≡ true
objects_in all p c [] h = refl
objects_in all p c (SubdiskRecord s ∷ os) h =
    let parts = and_parts (piece_is_good all p s) (list_all (λ o. all_pieces_good all p o) os) h in
    and_from _ _ (piece_in all p c s parts.0) (objects_in all p c os parts.1)
objects_in all p c (o ∷ os) h = objects_in all p c os h

whole_is_good : (all : List Object) (p : Plex) → (are_whole all p && not (has_piece_from all p.name p.ncol)) ≡ (columns_are_equal all p && list_all (λ o. all_pieces_good all p o) all)
whole_is_good all p = same_truth (are_whole all p && not (has_piece_from all p.name p.ncol)) (columns_are_equal all p && list_all (λ o. all_pieces_good all p o) all) to back
  where
    to : (are_whole all p && not (has_piece_from all p.name p.ncol)) ≡ true → (columns_are_equal all p && list_all (λ o. all_pieces_good all p o) all) ≡ true
    to h =
        let parts = and_parts (are_whole all p) (not (has_piece_from all p.name p.ncol)) h in
        let at = λ (c : ℕ) (lt : c < p.ncol). and_parts (column_is_whole all p.name c) (column_length all p.name c == column_length all p.name 0) (below_at (λ c. column_is_whole all p.name c && column_length all p.name c == column_length all p.name 0) p.ncol c lt parts.0) in
        and_from _ _ (below_from (λ c. column_begins all p.name c && column_length all p.name c == column_length all p.name 0) p.ncol (λ c lt. and_from _ _ (and_parts (column_begins all p.name c) (list_all (follows_in all p.name c) all) (at c lt).0).0 (at c lt).1))
        (objects_good all p all (λ c lt. (and_parts (column_begins all p.name c) (list_all (follows_in all p.name c) all) (at c lt).0).1) (not-true (has_piece_from all p.name p.ncol) parts.1))

    back : (columns_are_equal all p && list_all (λ o. all_pieces_good all p o) all) ≡ true → (are_whole all p && not (has_piece_from all p.name p.ncol)) ≡ true
    back h =
        let parts = and_parts (columns_are_equal all p) (list_all (λ o. all_pieces_good all p o) all) h in
        let at = λ (c : ℕ) (lt : c < p.ncol). and_parts (column_begins all p.name c) (column_length all p.name c == column_length all p.name 0) (below_at (λ c. column_begins all p.name c && column_length all p.name c == column_length all p.name 0) p.ncol c lt parts.0) in
        and_from _ _ (below_from (λ c. column_is_whole all p.name c && column_length all p.name c == column_length all p.name 0) p.ncol (λ c lt. and_from _ _ (and_from _ _ (at c lt).0 (objects_in all p c all parts.1)) (at c lt).1))
        (not_from_false (has_piece_from all p.name p.ncol) (objects_inside all p all parts.1))

front : (a x y e l : Bool) → (x && y) ≡ (e && l) → ((a && x) && y) ≡ ((a && e) && l)
front true x y e l h = h
front false x y e l h = refl

-- what the three tests say together
pub tests_say : (all : List Object) (p : Plex) → ((layout_is_good all p p.layout && are_whole all p) && not (has_piece_from all p.name p.ncol)) ≡ columns_are_good all p
tests_say all p = front (layout_is_good all p p.layout) (are_whole all p) (not (has_piece_from all p.name p.ncol)) (columns_are_equal all p) (list_all (λ o. all_pieces_good all p o) all) (whole_is_good all p)

-- the layout does not fit, or a column is not whole
pub fails_layout : (all : List Object) (p : Plex) → layout_is_good all p p.layout ≡ false → false ≡ columns_are_good all p
fails_layout all p e = sym (ap (λ b. (b && are_whole all p) && not (has_piece_from all p.name p.ncol)) e) ∙ tests_say all p

pub fails_whole : (all : List Object) (p : Plex) → layout_is_good all p p.layout ≡ true → are_whole all p ≡ false → false ≡ columns_are_good all p
fails_whole all p e f = sym (ap (λ b. (b && are_whole all p) && not (has_piece_from all p.name p.ncol)) e ∙ ap (λ b. b && not (has_piece_from all p.name p.ncol)) f) ∙ tests_say all p

pub passes_whole : (all : List Object) (p : Plex) → layout_is_good all p p.layout ≡ true → are_whole all p ≡ true → not (has_piece_from all p.name p.ncol) ≡ columns_are_good all p
passes_whole all p e f = sym (ap (λ b. (b && are_whole all p) && not (has_piece_from all p.name p.ncol)) e ∙ ap (λ b. b && not (has_piece_from all p.name p.ncol)) f) ∙ tests_say all p
