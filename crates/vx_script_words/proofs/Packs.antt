-- Names that were packed are found again, and disks as well.
use Rattle.std.proofs.Common.{◌≡◌, ◌∙◌, sym, ap, subst, refl, ℕ, suc, ◌+◌, ◌<◌, ◌≤◌, true, cond, List, [], ◌∷◌, ◌++◌, length, take, drop, append_assoc, arith}
use Rattle.std.specs.Prelude.{◌==◌, not}
use Rattle.std.specs.List.{list_all, flat_map, position_or_len}
use Rattle.std.proofs.lemmas.Grind.{flat_map-append}
use Rattle.std.proofs.lemmas.Bool.{and_parts, eq-eqb, cond-false, not-true}
use Rattle.std.proofs.lemmas.List.{append-nil, length-append}
use Rattle.std.proofs.Math.Numerals.{one-add, add-one}
use Rattle.vx_names.specs.Form.{is_name}
use Rattle.vx_script_words.specs.Packed.{names_from, names_in, packed_name, packed, ArePacked, paired, both_names, ArePaired}
use Rattle.vx_script_words.specs.Words.{up_to, past}
use Rattle.vx_script_words.specs.declared.value.DiskAt.{DiskAt}
use Rattle.vx_script_words.proofs.Plain.{is_not, name_without}
use Rattle.vx_script_words.proofs.Sorts.{all_pushed}

-- ---- up to a byte, and behind it

pub take_front : (w t : List ℕ) → take (length w) (w ++ t) ≡ w
take_front [] t = refl
take_front (b ∷ bs) t = ap (λ (xs : List ℕ). b ∷ xs) (take_front bs t)

pub drop_front : (w t : List ℕ) → drop (length w) (w ++ t) ≡ t
drop_front [] t = refl
drop_front (b ∷ bs) t = drop_front bs t

place_at : (b : ℕ) (x y : List ℕ) → list_all (is_not b) x ≡ true → position_or_len (λ c. c == b) (x ++ b ∷ y) ≡ length x
place_at b [] y h = ap (λ t. cond (not t) (1 + position_or_len (λ c. c == b) y) 0) (eq-eqb b b refl)
place_at b (c ∷ cs) y h =
    let parts = and_parts (is_not b c) (list_all (is_not b) cs) h in
    ap (λ t. cond t (1 + position_or_len (λ d. d == b) (cs ++ b ∷ y)) 0) parts.0 ∙ ap (λ n. 1 + n) (place_at b cs y parts.1) ∙ one-add (length cs)

pub up_to_is : (b : ℕ) (x y : List ℕ) → list_all (is_not b) x ≡ true → up_to b (x ++ b ∷ y) ≡ x
up_to_is b x y h = ap (λ n. take n (x ++ b ∷ y)) (place_at b x y h) ∙ take_front x (b ∷ y)

drop_more_front : (w y : List ℕ) (b : ℕ) → drop (suc (length w)) (w ++ b ∷ y) ≡ y
drop_more_front [] y b = refl
drop_more_front (c ∷ cs) y b = drop_more_front cs y b

pub past_is : (b : ℕ) (x y : List ℕ) → list_all (is_not b) x ≡ true → past b (x ++ b ∷ y) ≡ y
past_is b x y h = ap (λ n. drop (n + 1) (x ++ b ∷ y)) (place_at b x y h) ∙ ap (λ n. drop n (x ++ b ∷ y)) (add-one (length x)) ∙ drop_more_front x y b

-- ---- names

no_zero : (name : List ℕ) → is_name name ≡ true → list_all (is_not 0) name ≡ true
no_zero name h = name_without 0 (λ b plain e. let dark = plain.dark in omega (arith, dark, e)) name h

found_first : (begun name rest : List ℕ) → list_all (is_not 0) name ≡ true → names_from begun (name ++ 0 ∷ rest) ≡ (begun ++ name) ∷ names_from [] rest
found_first begun [] rest h = ap (λ b. b ∷ names_from [] rest) (sym (append-nil begun))
found_first begun (b ∷ bs) rest h =
    let parts = and_parts (is_not 0 b) (list_all (is_not 0) bs) h in
    cond-false _ _ _ (not-true (b == 0) parts.0) ∙ found_first (begun ++ b ∷ []) bs rest parts.1 ∙ ap (λ t. t ∷ names_from [] rest) (append_assoc begun (b ∷ []) bs)

again : (names : List (List ℕ)) → list_all is_name names ≡ true → names_in (packed names) ≡ names
unfolding names_in
again [] h = refl
again (n ∷ ns) h =
    let parts = and_parts (is_name n) (list_all is_name ns) h in
    ap (names_from []) (append_assoc n (0 ∷ []) (packed ns)) ∙ found_first [] n (packed ns) (no_zero n parts.0) ∙ ap (λ (t : List (List ℕ)). n ∷ t) (again ns parts.1)

are_packed : (names : List (List ℕ)) → list_all is_name names ≡ true → ArePacked (packed names)
are_packed names h = (ap packed (again names h), ap (list_all is_name) (again names h) ∙ h)

pub no_names : (names_in [] ≡ []) × ArePacked []
unfolding names_in
no_names = (refl, (refl, refl))

-- one more name behind the others
pub more_packed : (bytes name : List ℕ) → ArePacked bytes → is_name name ≡ true → (names_in ((bytes ++ name) ++ 0 ∷ []) ≡ names_in bytes ++ name ∷ []) × ArePacked ((bytes ++ name) ++ 0 ∷ [])
more_packed bytes name p h =
    let all : List (List ℕ) = names_in bytes ++ name ∷ [] in
    let good : list_all is_name all ≡ true = all_pushed is_name (names_in bytes) name p.1 h in
    let whole : packed all ≡ (bytes ++ name) ++ 0 ∷ [] =
    flat_map-append packed_name (names_in bytes) (name ∷ []) ∙ ap (λ t. packed (names_in bytes) ++ t) (append-nil (packed_name name)) ∙ ap (λ t. t ++ packed_name name) p.0 ∙ sym (append_assoc bytes name (0 ∷ [])) in
    (sym (ap names_in whole) ∙ again all good, subst ArePacked whole (are_packed all good))

-- the first name of some bytes
pub record First (bytes : List ℕ) : Type 0 where
  pub name : List ℕ
  pub more : List (List ℕ)
  pub all : names_in bytes ≡ name ∷ more
  pub word : up_to 0 bytes ≡ name
  pub good : is_name name ≡ true
  pub rest : names_in (past 0 bytes) ≡ more
  pub packed_rest : ArePacked (past 0 bytes)
  pub less : length (past 0 bytes) < length bytes

pub first_name : (bytes : List ℕ) → ArePacked bytes → 0 < length bytes → First bytes
first_name bytes p some = by_names (names_in bytes) refl
  where
    by_names : (names : List (List ℕ)) → names_in bytes ≡ names → First bytes
    by_names [] e = let none : length bytes ≡ 0 = sym (ap length p.0) ∙ ap (λ ns. length (packed ns)) e in absurd (omega (arith, some, none))
    by_names (n ∷ ns) e =
        let parts = and_parts (is_name n) (list_all is_name ns) (sym (ap (list_all is_name) e) ∙ p.1) in
        let whole : bytes ≡ n ++ 0 ∷ packed ns = sym p.0 ∙ ap packed e ∙ append_assoc n (0 ∷ []) (packed ns) in
        let behind : past 0 bytes ≡ packed ns = ap (past 0) whole ∙ past_is 0 n (packed ns) (no_zero n parts.0) in
        record {
          name = n;
          more = ns;
          all = e;
          word = ap (up_to 0) whole ∙ up_to_is 0 n (packed ns) (no_zero n parts.0);
          good = parts.0;
          rest = ap names_in behind ∙ again ns parts.1;
          packed_rest = subst ArePacked (sym behind) (are_packed ns parts.1);
          less = omega (arith, ap length behind, ap length whole, length-append n (0 ∷ packed ns));
        }

-- ---- disks

pair_pushed : (disks : List DiskAt) (disk device : List ℕ) → paired (flat_map both_names disks ++ disk ∷ device ∷ []) ≡ disks ++ record { disk = disk; device = device } ∷ []
pair_pushed [] disk device = refl
pair_pushed (d ∷ ds) disk device = ap (λ (t : List DiskAt). d ∷ t) (pair_pushed ds disk device)

-- one more disk behind the others
pub more_paired : (names : List (List ℕ)) (pair : DiskAt) → ArePaired names → (paired ((names ++ pair.disk ∷ []) ++ pair.device ∷ []) ≡ paired names ++ pair ∷ []) × ArePaired ((names ++ pair.disk ∷ []) ++ pair.device ∷ [])
more_paired names pair p =
    let one : (names ++ pair.disk ∷ []) ++ pair.device ∷ [] ≡ flat_map both_names (paired names) ++ pair.disk ∷ pair.device ∷ [] = append_assoc names (pair.disk ∷ []) (pair.device ∷ []) ∙ ap (λ t. t ++ pair.disk ∷ pair.device ∷ []) (sym p) in
    let all : paired ((names ++ pair.disk ∷ []) ++ pair.device ∷ []) ≡ paired names ++ pair ∷ [] = ap paired one ∙ pair_pushed (paired names) pair.disk pair.device in
    (all, ap (flat_map both_names) all ∙ flat_map-append both_names (paired names) (pair ∷ []) ∙ sym one)

pub no_bytes : (bytes : List ℕ) → length bytes ≤ 0 → names_in bytes ≡ []
no_bytes [] h = no_names.0
no_bytes (b ∷ bs) h = absurd (omega arith)
