-- One more piece in the map of columns.
use Rattle.std.proofs.Common.{◌≡◌, ℕ, ◌+◌, ◌<◌, Bool, true, false, cond, List, length, get_or, take, Some, None, Ordering, Less, Equal, Greater, refl, sym, ap, ◌∙◌, subst, arith, ◌&&◌, ◌==◌, nat_cmp}
use Rattle.std.specs.Ordering.{is_eq, ordering_then}
use Rattle.std.specs.Str.{bytes_eq}
use Rattle.std.specs.Cmp.{Equal-is}
use Rattle.std.specs.Cmp.Lexicographic.{slice_cmp}
use Rattle.std.specs.BTreeMap.{BTreeMap, get}
use Rattle.std.proofs.lemmas.Bool.{cond_both}
use Rattle.std.proofs.lemmas.Bool.Decides.{nat_tests}
use Rattle.std.proofs.lemmas.List.Sums.{fold_more}
use Rattle.std.proofs.lemmas.Map.Text.{is_eq-slice_cmp}
use Rattle.vx_rules.specs.declared.piece.Piece.{Piece}
use Rattle.vx_rules.specs.declared.column.Column.{Column}
use Rattle.vx_rules.specs.Keys.{Key, key_cmp}
use Rattle.vx_rules.specs.Pieces.{is_in, grow, or_new, column_after, column_of, end_of}
use Rattle.vx_rules.proofs.KeyOrder.{key_exact}

both_tied : (a b : Ordering) → is_eq (ordering_then a b) ≡ (is_eq a && is_eq b)
both_tied Less b = refl
both_tied Equal b = refl
both_tied Greater b = refl

nat_tied : (x y : ℕ) → is_eq (nat_cmp x y) ≡ (x == y)
nat_tied x y = grind (arith, nat_tests)

-- the piece lies in the column of an equal key
tied : (p : Piece) (q : Key) → is_eq (key_cmp (p.plex, p.col) q) ≡ is_in q p
tied p q =
    both_tied (slice_cmp nat_cmp p.plex q.0) (nat_cmp p.col q.1)
    ∙ (ap (λ b. b && is_eq (nat_cmp p.col q.1)) (is_eq-slice_cmp p.plex q.0) ∙ ap (λ b. bytes_eq p.plex q.0 && b) (nat_tied p.col q.1))

-- the map after the piece's column is put
abbrev pub IsPut : BTreeMap Key Column → BTreeMap Key Column → Piece → Column → Type 0
IsPut m n p c = (q : Key) → get key_cmp n q ≡ cond (is_eq (key_cmp (p.plex, p.col) q)) (Some c) (get key_cmp m q)

pub grown : (m n : BTreeMap Key Column) (ps : List Piece) (i : ℕ) (p : Piece) (c : Column) → ((q : Key) → get key_cmp m q ≡ column_of q (take i ps)) → IsPut m n p c → c ≡ grow (or_new (get key_cmp m (p.plex, p.col))) p → i < length ps → p ≡ get_or ps i p → (q : Key) → get key_cmp n q ≡ column_of q (take (i + 1) ps)
grown m n ps i p c sofar put column lt item q =
    put q
    ∙ (by (is_eq (key_cmp (p.plex, p.col) q)) refl
    ∙ (ap (λ b. cond b (Some (grow (or_new (get key_cmp m q)) p)) (get key_cmp m q)) (tied p q)
    ∙ (ap (λ o. column_after q o p) (sofar q)
    ∙ (ap (λ x. column_after q (column_of q (take i ps)) x) item ∙ sym (fold_more (column_after q) None ps i p lt)))))
  where
    by : (b : Bool) → is_eq (key_cmp (p.plex, p.col) q) ≡ b → cond b (Some c) (get key_cmp m q) ≡ cond b (Some (grow (or_new (get key_cmp m q)) p)) (get key_cmp m q)
    by false e = refl
    by true e =
        let here : Key = (p.plex, p.col) in
        let same : here ≡ q = key_exact here q ((Equal-is (key_cmp here q)).0 e) in
        ap Some (column ∙ ap (λ k. grow (or_new (get key_cmp m k)) p) same)

pub grown_small : (m n : BTreeMap Key Column) (p : Piece) (c : Column) (bound : ℕ) → ((q : Key) → end_of (get key_cmp m q) < bound) → IsPut m n p c → c.end < bound → (q : Key) → end_of (get key_cmp n q) < bound
grown_small m n p c bound sofar put small q =
    subst (λ o. end_of o < bound) (sym (put q)) (cond_both (is_eq (key_cmp (p.plex, p.col) q)) (Some c) (get key_cmp m q) (λ o. end_of o < bound) (λ e. small) (λ e. sofar q))
