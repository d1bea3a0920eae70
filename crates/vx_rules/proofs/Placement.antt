-- What is laid, and the extents that meet it.
use Rattle.std.proofs.Common.{◌≡◌, ℕ, ◌+◌, ◌<◌, ◌≤◌, Bool, true, false, cond, List, [], ◌∷◌, ◌++◌, length, get_or, Some, None, Less, ◌⊎◌, refl, sym, ap, ◌∙◌, subst, inl, inr, arith, is_lt, nat_lt, ◌&&◌, ◌==◌}
use Rattle.std.specs.List.{list_any}
use Rattle.std.specs.Str.{bytes_eq}
use Rattle.std.specs.Ordering.{is_eq}
use Rattle.std.specs.Option.{IsSome}
use Rattle.std.specs.BTreeMap.{BTreeMap, get}
use Rattle.std.proofs.lemmas.Bool.{false≢true, and_parts, and_from, cases_Bool, cases_lt, ltb-true, lt-ltb, eqb-true, eq-eqb, false_from_ne_true, or_left, or_right, cond-true, cond-false}
use Rattle.std.proofs.lemmas.List.Elements.{All-push}
use Rattle.std.proofs.lemmas.List.Folds.{list_any_none, list_any_at, list_any-append}
use Rattle.std.specs.Cmp.{Equal-is}
use Rattle.std.proofs.lemmas.Cmp.{tied_itself}
use Rattle.vx_base.specs.Named.{Word}
use Rattle.vx_base.proofs.NamedLemmas.{bytes_eq_self, bytes_eq_same}
use Rattle.vx_rules.specs.declared.extent.Extent.{Extent}
use Rattle.vx_rules.specs.Extents.{has_sector, meets}
use Rattle.vx_rules.specs.Keys.{Key, key_cmp}
use Rattle.vx_rules.specs.Laid.{IsLaid}
use Rattle.vx_rules.proofs.KeyOrder.{key_total, key_exact, between, before, begins}
use Rattle.vx_rules.proofs.ListTests.{any_weaker}

abbrev pub Ends : Type 0
Ends = BTreeMap Key ℕ

-- two that meet are on one disk, and each begins before the other's end
pub record Meeting (e t : Extent) : Type 0 where
  pub disks : e.disk ≡ t.disk
  pub first : e.off < t.off + t.len
  pub second : t.off < e.off + e.len

meeting : (e t : Extent) → meets e t ≡ true → Meeting e t
meeting e t m =
    let parts = and_parts (bytes_eq e.disk t.disk && nat_lt e.off (t.off + t.len)) (nat_lt t.off (e.off + e.len)) m in
    let front = and_parts (bytes_eq e.disk t.disk) (nat_lt e.off (t.off + t.len)) parts.0 in
    record { disks = bytes_eq_same e.disk t.disk front.0; first = ltb-true e.off (t.off + t.len) front.1; second = ltb-true t.off (e.off + e.len) parts.1 }

do_meet : (e t : Extent) → Meeting e t → meets e t ≡ true
do_meet e t m =
    and_from _ _ (and_from _ _ (subst (λ d. bytes_eq e.disk d ≡ true) m.disks (bytes_eq_self e.disk)) (lt-ltb _ _ m.first)) (lt-ltb _ _ m.second)

-- on one disk, what begins first ends first
ends_before : (ends : Ends) (done : List Extent) → IsLaid ends done → (disk : Word) (off end off' end' : ℕ) → get key_cmp ends (disk, off) ≡ Some end → get key_cmp ends (disk, off') ≡ Some end' → off ≤ off' → end ≤ end'
ends_before ends done laid disk off end off' end' here there le =
    elim (cases_lt off off') [
      | inl lt ↦
          let apart : end ≤ off' = laid.apart disk off end off' end' here there lt in
          let filled : off' < end' = laid.filled disk off' end' there in
          omega arith
      | inr ge ↦
          let same : off ≡ off' = omega arith in
          let one : Some end ≡ Some end' = sym here ∙ (ap (λ x. get key_cmp ends (disk, x)) same ∙ there) in
          let two : end ≡ end' = cc in
          omega arith
    ]

-- one of those laid ends behind the last one's end
clear_of_last : (ends : Ends) (done : List Extent) (e : Extent) (place : Key) (last : ℕ) → IsLaid ends done → get key_cmp ends place ≡ Some last → key_cmp place (e.disk, e.off + e.len) ≡ Less → ((q : Key) → key_cmp q (e.disk, e.off + e.len) ≡ Less → IsSome (get key_cmp ends q) → is_lt (key_cmp place q) ≡ false) → (bytes_eq place.0 e.disk && nat_lt e.off last) ≡ false → false ≡ list_any (meets e) done
clear_of_last ends done e place last laid there inside greatest apart =
    sym (list_any_none (meets e) done (λ k d lt. false_from_ne_true (meets e (get_or done k d)) (λ m. misses (get_or done k d) (laid.found k d lt) (meeting e (get_or done k d) m))))
  where
    misses : (t : Extent) → get key_cmp ends (t.disk, t.off) ≡ Some (t.off + t.len) → Meeting e t → ⊥
    misses t found m =
        let here : get key_cmp ends (e.disk, t.off) ≡ Some (t.off + t.len) = subst (λ d. get key_cmp ends (d, t.off) ≡ Some (t.off + t.len)) (sym m.disks) found in
        let behind = greatest (e.disk, t.off) (before e.disk t.off (e.off + e.len) m.second) (subst (λ o. IsSome o) (sym here) refl) in
        let on = between e.disk place.0 place.1 (e.off + e.len) t.off inside behind in
        let there' : get key_cmp ends (e.disk, place.1) ≡ Some last = subst (λ d. get key_cmp ends (d, place.1) ≡ Some last) on.0 there in
        let ends_first : t.off + t.len ≤ last = ends_before ends done laid e.disk t.off (t.off + t.len) place.1 last here there' on.2 in
        let first : e.off < t.off + t.len = m.first in
        let lt : e.off < last = omega arith in
        false≢true (sym apart ∙ and_from _ _ (subst (λ d. bytes_eq d e.disk ≡ true) (sym on.0) (bytes_eq_self e.disk)) (lt-ltb e.off last lt))

-- none begins before the end
pub clear_of_all : (ends : Ends) (done : List Extent) (e : Extent) → IsLaid ends done → ((q : Key) → key_cmp q (e.disk, e.off + e.len) ≡ Less → get key_cmp ends q ≡ None) → false ≡ list_any (meets e) done
clear_of_all ends done e laid none =
    sym (list_any_none (meets e) done (λ k d lt. false_from_ne_true (meets e (get_or done k d)) (λ m. misses (get_or done k d) (laid.found k d lt) (meeting e (get_or done k d) m))))
  where
    misses : (t : Extent) → get key_cmp ends (t.disk, t.off) ≡ Some (t.off + t.len) → Meeting e t → ⊥
    misses t found m =
        let nothing : get key_cmp ends (t.disk, t.off) ≡ None = none (t.disk, t.off) (subst (λ d. key_cmp (d, t.off) (e.disk, e.off + e.len) ≡ Less) m.disks (before e.disk t.off (e.off + e.len) m.second)) in
        let clash : None ≡ Some (t.off + t.len) = sym nothing ∙ found in
        cc

-- it meets the one that is there
known_meets : (done : List Extent) (e : Extent) (disk : Word) (off end : ℕ) → list_any (λ t. bytes_eq t.disk disk && t.off == off && t.off + t.len == end) done ≡ true → e.disk ≡ disk → e.off < end → off < e.off + e.len → list_any (meets e) done ≡ true
known_meets done e disk off end known on first second = any_weaker _ _ done hits known
  where
    hits : (t : Extent) → (bytes_eq t.disk disk && t.off == off && t.off + t.len == end) ≡ true → meets e t ≡ true
    hits t p =
        let parts = and_parts (bytes_eq t.disk disk && t.off == off) (t.off + t.len == end) p in
        let front = and_parts (bytes_eq t.disk disk) (t.off == off) parts.0 in
        let at : t.off ≡ off = eqb-true t.off off front.1 in
        let to : t.off + t.len ≡ end = eqb-true (t.off + t.len) end parts.1 in
        do_meet e t (record { disks = on ∙ sym (bytes_eq_same t.disk disk front.0); first = omega arith; second = omega arith })

meets_last : (ends : Ends) (done : List Extent) (e : Extent) (place : Key) (last : ℕ) → IsLaid ends done → get key_cmp ends place ≡ Some last → key_cmp place (e.disk, e.off + e.len) ≡ Less → (bytes_eq place.0 e.disk && nat_lt e.off last) ≡ true → true ≡ list_any (meets e) done
meets_last ends done e place last laid there inside on =
    let parts = and_parts (bytes_eq place.0 e.disk) (nat_lt e.off last) on in
    let same : place.0 ≡ e.disk = bytes_eq_same place.0 e.disk parts.0 in
    sym (known_meets done e place.0 place.1 last (laid.known place.0 place.1 last there) (sym same) (ltb-true e.off last parts.1) (begins e.disk place.0 place.1 (e.off + e.len) same inside))

-- the last one that begins before the end answers
pub last_answers : (ends : Ends) (done : List Extent) (e : Extent) (place : Key) (last : ℕ) → IsLaid ends done → get key_cmp ends place ≡ Some last → key_cmp place (e.disk, e.off + e.len) ≡ Less → ((q : Key) → key_cmp q (e.disk, e.off + e.len) ≡ Less → IsSome (get key_cmp ends q) → is_lt (key_cmp place q) ≡ false) → (bytes_eq place.0 e.disk && nat_lt e.off last) ≡ list_any (meets e) done
last_answers ends done e place last laid there inside greatest =
    elim (cases_Bool (bytes_eq place.0 e.disk && nat_lt e.off last)) [
      | inl hit ↦ hit ∙ meets_last ends done e place last laid there inside hit
      | inr miss ↦ miss ∙ clear_of_last ends done e place last laid there inside greatest miss
    ]

-- what stands at the place is the new one
record IsNew (e : Extent) (q : Key) (end : ℕ) : Type 0 where
  disk : e.disk ≡ q.0
  off : e.off ≡ q.1
  to : e.off + e.len ≡ end

-- the map after the new one
abbrev pub IsPut : Ends → Ends → Extent → Type 0
IsPut m n e = (q : Key) → get key_cmp n q ≡ cond (is_eq (key_cmp (e.disk, e.off) q)) (Some (e.off + e.len)) (get key_cmp m q)

old_or_new : (m n : Ends) (e : Extent) → IsPut m n e → (q : Key) (end : ℕ) → get key_cmp n q ≡ Some end → (get key_cmp m q ≡ Some end) ⊎ IsNew e q end
old_or_new m n e put q end there =
    elim (cases_Bool (is_eq (key_cmp (e.disk, e.off) q))) [
      | inl tied ↦
          let same : (e.disk, e.off) ≡ q = key_exact (e.disk, e.off) q ((Equal-is (key_cmp (e.disk, e.off) q)).0 tied) in
          let value : Some (e.off + e.len) ≡ Some end = sym (cond-true _ _ _ tied) ∙ (sym (put q) ∙ there) in
          inr (record { disk = ap (λ (p : Key). p.0) same; off = ap (λ (p : Key). p.1) same; to = cc })
      | inr other ↦ inl (sym (cond-false _ _ _ other) ∙ (sym (put q) ∙ there))
    ]

-- one that does not meet the new one stays
kept : (m n : Ends) (e t : Extent) → IsPut m n e → 0 < e.len → t.off < t.off + t.len → meets e t ≡ false → get key_cmp m (t.disk, t.off) ≡ Some (t.off + t.len) → get key_cmp n (t.disk, t.off) ≡ Some (t.off + t.len)
kept m n e t put sector filled apart found = put (t.disk, t.off) ∙ (cond-false _ _ _ (false_from_ne_true _ tied) ∙ found)
  where
    tied : is_eq (key_cmp (e.disk, e.off) (t.disk, t.off)) ≡ true → ⊥
    tied h =
        let here : Key = (e.disk, e.off) in
        let there : Key = (t.disk, t.off) in
        let same : here ≡ there = key_exact here there ((Equal-is (key_cmp (e.disk, e.off) (t.disk, t.off))).0 h) in
        let off : e.off ≡ t.off = ap (λ (p : Key). p.1) same in
        false≢true (sym apart ∙ do_meet e t (record { disks = ap (λ (p : Key). p.0) same; first = omega arith; second = omega arith }))

-- the extent from there to there
abbrev pub is_at : Word → ℕ → ℕ → Extent → Bool
is_at disk off end t = bytes_eq t.disk disk && t.off == off && t.off + t.len == end

-- one more that meets none
pub laid_more : (m n : Ends) (done : List Extent) (e : Extent) → IsLaid m done → has_sector e ≡ true → list_any (meets e) done ≡ false → IsPut m n e → IsLaid n (done ++ e ∷ [])
laid_more m n done e laid sector apart put =
    record {
      found = All-push (λ t. get key_cmp n (t.disk, t.off) ≡ Some (t.off + t.len)) done e (λ k d lt. kept m n e (get_or done k d) put full (laid.filled _ _ _ (laid.found k d lt)) (misses k d lt) (laid.found k d lt)) here;
      known = λ disk off end there. known' disk off end (old_or_new m n e put (disk, off) end there);
      filled = λ disk off end there. filled' disk off end (old_or_new m n e put (disk, off) end there);
      apart = λ disk off end off' end' there there' lt. apart' disk off end off' end' (old_or_new m n e put (disk, off) end there) (old_or_new m n e put (disk, off') end' there') lt;
    }
  where
    full : 0 < e.len
    full = ltb-true 0 e.len sector

    here : get key_cmp n (e.disk, e.off) ≡ Some (e.off + e.len)
    here = put (e.disk, e.off) ∙ cond-true _ _ _ (ap is_eq (tied_itself key_total (e.disk, e.off)))

    misses : (k : ℕ) (d : Extent) → k < length done → meets e (get_or done k d) ≡ false
    misses k d lt = false_from_ne_true _ (λ h. false≢true (sym apart ∙ list_any_at (meets e) done k d lt h))

    known' : (disk : Word) (off end : ℕ) → (get key_cmp m (disk, off) ≡ Some end) ⊎ IsNew e (disk, off) end → list_any (is_at disk off end) (done ++ e ∷ []) ≡ true
    known' disk off end (inl old) = list_any-append (is_at disk off end) done (e ∷ []) ∙ or_left _ _ (laid.known disk off end old)
    known' disk off end (inr new) =
        let tests : is_at disk off end e ≡ true = and_from _ _ (and_from _ _ (subst (λ d. bytes_eq e.disk d ≡ true) new.disk (bytes_eq_self e.disk)) (eq-eqb e.off off new.off)) (eq-eqb (e.off + e.len) end new.to) in
        list_any-append (is_at disk off end) done (e ∷ []) ∙ or_right _ _ (or_left _ _ tests)

    filled' : (disk : Word) (off end : ℕ) → (get key_cmp m (disk, off) ≡ Some end) ⊎ IsNew e (disk, off) end → off < end
    filled' disk off end (inl old) = laid.filled disk off end old
    filled' disk off end (inr new) =
        let at : e.off ≡ off = new.off in
        let to : e.off + e.len ≡ end = new.to in
        let sectors : 0 < e.len = full in
        omega arith

    clash : {P : Type 0} (disk : Word) (off end : ℕ) → get key_cmp m (disk, off) ≡ Some end → e.disk ≡ disk → e.off < end → off < e.off + e.len → P
    clash disk off end old on first second = absurd (false≢true (sym apart ∙ known_meets done e disk off end (laid.known disk off end old) on first second))

    apart' : (disk : Word) (off end off' end' : ℕ) → (get key_cmp m (disk, off) ≡ Some end) ⊎ IsNew e (disk, off) end → (get key_cmp m (disk, off') ≡ Some end') ⊎ IsNew e (disk, off') end' → off < off' → end ≤ off'
    apart' disk off end off' end' (inl old) (inl old') lt = laid.apart disk off end off' end' old old' lt
    apart' disk off end off' end' (inl old) (inr new) lt =
        let at : e.off ≡ off' = new.off in
        let sectors : 0 < e.len = full in
        elim (cases_lt off' end) [
          | inl under ↦ clash disk off end old new.disk (omega arith) (omega arith)
          | inr over ↦ over
        ]
    apart' disk off end off' end' (inr new) (inl old') lt =
        let at : e.off ≡ off = new.off in
        let to : e.off + e.len ≡ end = new.to in
        let filled : off' < end' = laid.filled disk off' end' old' in
        elim (cases_lt off' end) [
          | inl under ↦ clash disk off' end' old' new.disk (omega arith) (omega arith)
          | inr over ↦ over
        ]
    apart' disk off end off' end' (inr new) (inr new') lt =
        let at : e.off ≡ off = new.off in
        let at' : e.off ≡ off' = new'.off in
        absurd (omega arith)
