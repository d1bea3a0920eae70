-- Where a word stops being an attribute.
use Rattle.std.proofs.Common.{◌≡◌, ℕ, zero, suc, ◌+◌, ◌<◌, true, false, Option, None, Some, List, [], ◌∷◌, ◌++◌, length, take, drop, refl, sym, ◌∙◌, ap, subst, eq-eqb, arith, add-one, append_assoc, length-append}
use Rattle.std.proofs.lemmas.Bool.{and_parts, and_from, false≢true, eqb-true}
use Rattle.std.proofs.lemmas.List.{take-append-drop, length-take-le}
use Rattle.std.proofs.Math.Seq.{drop-append_seam}
use Rattle.vx_names.specs.Attribute.{is_attr, is_value, value_word, attr_word, IsValueWord, IsAttrWord}
use Rattle.vx_names.specs.Form.{is_name, begins_with}
use Rattle.vx_names.specs.Named.{IsNameWord, name_front}
use Rattle.vx_names.specs.Place.{IsPlace}
use Rattle.vx_names.specs.declared.attr.Attr.{Attr}
use Rattle.vx_names.proofs.Names.{name_place, front_before, front_inside, name_front_again, name_of_front, begins_name}
use Rattle.vx_names.proofs.Places.{place_behind}

pub split_same : (n m x y : List ℕ) → length n ≡ length m → n ++ x ≡ m ++ y → (n ≡ m) × (x ≡ y)
split_same [] [] x y len e = (refl, e)
split_same [] (c ∷ m) x y len e = absurd (omega arith)
split_same (b ∷ n) [] x y len e = absurd (omega arith)
split_same (b ∷ n) (c ∷ m) x y len e =
    let rest = split_same n m x y (omega arith) (cc) in
    let first : b ≡ c = cc in
    (let ns = rest.0 in cc, rest.1)

name_some : (n : List ℕ) → is_name n ≡ true → 0 < length n
name_some [] h = absurd (false≢true h)
name_some (b ∷ bs) h = omega arith

pub value_same : (x y : Option (List ℕ)) → is_value x ≡ true → is_value y ≡ true → value_word x ≡ value_word y → x ≡ y
value_same None None h k e = refl
value_same None (Some n) h k e = absurd (false≢true (subst (λ (w : List ℕ). is_name w ≡ true) (sym e) k))
value_same (Some m) None h k e = absurd (false≢true (subst (λ (w : List ℕ). is_name w ≡ true) e h))
value_same (Some m) (Some n) h k e = ap Some e

-- the name of an attribute is the front of its word
pub attr_front : (n v : List ℕ) → is_name n ≡ true → name_front (n ++ 61 ∷ v) ≡ length n
attr_front n v h = front_before n 61 v h refl

pub attr_split : (n v m w : List ℕ) → is_name n ≡ true → is_name m ≡ true → n ++ 61 ∷ v ≡ m ++ 61 ∷ w → (n ≡ m) × (v ≡ w)
attr_split n v m w h k e =
    let len : length n ≡ length m = sym (attr_front n v h) ∙ ap name_front e ∙ attr_front m w k in
    let both = split_same n m (61 ∷ v) (61 ∷ w) len e in
    let rest = both.1 in
    (both.0, cc)

attr_of : (n : List ℕ) (v : Option (List ℕ)) → Attr
attr_of n v = record { name = n; value = v }

-- one word spells one attribute
pub attr_same : (word n : List ℕ) (v : Option (List ℕ)) (a : Attr) → is_name n ≡ true → is_value v ≡ true → is_attr a ≡ true
    → word ≡ n ++ 61 ∷ value_word v → word ≡ attr_word a → (let x : Attr = record { name = n; value = v } in x) ≡ a
unfolding attr_of
attr_same word n v a h k ha e f =
    let parts = and_parts (is_name a.name) (is_value a.value) ha in
    let both = attr_split n (value_word v) a.name (value_word a.value) h parts.0 (sym e ∙ f) in
    let values : v ≡ a.value = value_same v a.value k parts.1 both.1 in
    ap (λ (m : List ℕ). attr_of m v) both.0 ∙ ap (attr_of a.name) values

-- no `=` stands behind the longest name at the front
pub Stops : List ℕ → Type 0
Stops w = 0 < name_front w → begins_with 61 (drop (name_front w) w) ≡ true → ⊥

pub stops_from : (w : List ℕ) → (0 < name_front w → begins_with 61 (drop (name_front w) w) ≡ true → ⊥) → Stops w
unfolding Stops
stops_from w h = h

begins_it : (w x : List ℕ) (c : ℕ) → w ≡ c ∷ x → begins_with c w ≡ true
begins_it w x c e = subst (λ (v : List ℕ). begins_with c v ≡ true) (sym e) (eq-eqb c c refl)

-- the word behind the byte
pub behind_byte : (w : List ℕ) (c : ℕ) → begins_with c w ≡ true → w ≡ c ∷ drop 1 w
behind_byte [] c h = absurd (false≢true h)
behind_byte (b ∷ bs) c h = let e : b ≡ c = eqb-true b c h in ap (λ (x : ℕ). x ∷ bs) e

pub not_attr : (w : List ℕ) → Stops w → IsAttrWord w → ⊥
unfolding Stops
not_attr w stops h =
    let a : Attr = h.0 in
    let named : is_name a.name ≡ true = (and_parts (is_name a.name) (is_value a.value) h.1).0 in
    let front : name_front w ≡ length a.name = ap name_front h.2 ∙ attr_front a.name (value_word a.value) named in
    stops (omega (arith, front, name_some a.name named)) (begins_it (drop (name_front w) w) (value_word a.value) 61 (ap (λ (n : ℕ). drop n w) front ∙ ap (drop (length a.name)) h.2 ∙ drop-append_seam a.name (61 ∷ value_word a.value)))

byte_at : (k : ℕ) (w r : List ℕ) (c : ℕ) (v : List ℕ) → k < length w → drop k (take (suc k) w ++ r) ≡ c ∷ v → (x : List ℕ) × (drop k w ≡ c ∷ x)
byte_at k [] r c v lt e = absurd (omega arith)
byte_at zero (b ∷ bs) r c v lt e = (bs, let same : b ≡ c = cc in ap (λ (x : ℕ). x ∷ bs) same)
byte_at (suc k) (b ∷ bs) r c v lt e = byte_at k bs r c v (omega arith) e

begins_attr : (k : ℕ) (w : List ℕ) → k ≡ name_front w → (rest : List ℕ) × IsAttrWord (take k w ++ rest)
begins_attr k w e =
    let name = begins_name k w e in
    (name.0 ++ 61 ∷ 45 ∷ [], (record { name = take k w ++ name.0; value = None }, and_from _ _ name.1 refl, sym (append_assoc (take k w) name.0 (61 ∷ 45 ∷ []))))

-- where no `=` comes, the place is the end of the front
pub attr_place : (w : List ℕ) → Stops w → IsPlace IsAttrWord w (name_front w)
unfolding Stops
attr_place w stops = record {
  inside = front_inside w;
  before = begins_attr (name_front w) w refl;
  here = λ lt b.
      let k : ℕ = name_front w in
      let whole : IsAttrWord (take (suc (name_front w)) w ++ b.0) = rw add-one at b.1 in
      let a : Attr = whole.0 in
      let named : is_name a.name ≡ true = (and_parts (is_name a.name) (is_value a.value) whole.1).0 in
      let front : name_front w ≡ length a.name = sym (name_front_again (name_front w) w b.0 refl lt) ∙ ap name_front whole.2 ∙ attr_front a.name (value_word a.value) named in
      let behind : drop (name_front w) (take (suc (name_front w)) w ++ b.0) ≡ 61 ∷ value_word a.value =
      ap (drop (name_front w)) whole.2 ∙ ap (λ (n : ℕ). drop n (a.name ++ 61 ∷ value_word a.value)) front ∙ drop-append_seam a.name (61 ∷ value_word a.value) in
      let found = byte_at (name_front w) w b.0 61 (value_word a.value) lt behind in
      stops (omega (arith, front, name_some a.name named)) (begins_it (drop (name_front w) w) found.0 61 found.1);
}

-- behind `name=` the place is that of the value
pub value_place : (word n v : List ℕ) (place : ℕ) → is_name n ≡ true → word ≡ n ++ 61 ∷ v → IsPlace IsValueWord v place → IsPlace IsAttrWord word (length n + 1 + place)
value_place word n v place h e p =
    let front : List ℕ = n ++ 61 ∷ [] in
    let whole : word ≡ (n ++ 61 ∷ []) ++ v = e ∙ sym (append_assoc n (61 ∷ []) v) in
    let behind : IsPlace IsAttrWord ((n ++ 61 ∷ []) ++ v) (length (n ++ 61 ∷ []) + place) = place_behind IsAttrWord IsValueWord (n ++ 61 ∷ []) v place (rest_of n h) (attr_with n h) p in
    let len : length (n ++ 61 ∷ []) + place ≡ length n + 1 + place = omega (arith, length-append n (61 ∷ [])) in
    subst (λ (w : List ℕ). IsPlace IsAttrWord w (length n + 1 + place)) (sym whole) (subst (λ (k : ℕ). IsPlace IsAttrWord ((n ++ 61 ∷ []) ++ v) k) len behind)
  where
    rest_of : (n : List ℕ) → is_name n ≡ true → (w : List ℕ) → IsAttrWord ((n ++ 61 ∷ []) ++ w) → IsValueWord w
    rest_of n h w a =
        let named = and_parts (is_name a.0.name) (is_value a.0.value) a.1 in
        (a.0.value, named.1, (attr_split n w a.0.name (value_word a.0.value) h named.0 (sym (append_assoc n (61 ∷ []) w) ∙ a.2)).1)

    attr_with : (n : List ℕ) → is_name n ≡ true → (w : List ℕ) → IsValueWord w → IsAttrWord ((n ++ 61 ∷ []) ++ w)
    attr_with n h w v = (record { name = n; value = v.0 }, and_from _ _ h v.1, append_assoc n (61 ∷ []) w ∙ ap (λ (x : List ℕ). n ++ 61 ∷ x) v.2)

dash_only : (c : ℕ) (w : List ℕ) (v : Option (List ℕ)) → is_value v ≡ true → 45 ∷ c ∷ w ≡ value_word v → ⊥
dash_only c w None h e = cc
dash_only c w (Some n) h e = false≢true (subst (λ (x : List ℕ). is_name x ≡ true) (sym e) h)

-- behind `-` nothing comes
pub dash_place : (w : List ℕ) → begins_with 45 w ≡ true → (length w ≡ 1 → ⊥) → IsPlace IsValueWord w 1
dash_place [] h long = absurd (false≢true h)
dash_place (b ∷ []) h long = absurd (long refl)
dash_place (b ∷ c ∷ w) h long = subst (λ (v : List ℕ). IsPlace IsValueWord v 1) (sym (behind_byte (b ∷ c ∷ w) 45 h)) (at c w)
  where
    at : (c : ℕ) (w : List ℕ) → IsPlace IsValueWord (45 ∷ c ∷ w) 1
    at c w = record {
      inside = omega arith;
      before = ([], (None, refl, refl));
      here = λ lt b. dash_only c b.0 b.1.0 b.1.1 b.1.2;
    }

pub not_dash_more : (w : List ℕ) → begins_with 45 w ≡ true → (length w ≡ 1 → ⊥) → IsValueWord w → ⊥
not_dash_more [] h long v = absurd (false≢true h)
not_dash_more (b ∷ []) h long v = long refl
not_dash_more (b ∷ c ∷ w) h long v = dash_only c w v.0 v.1 (sym (behind_byte (b ∷ c ∷ w) 45 h) ∙ v.2)

pub dash_alone : (w : List ℕ) → begins_with 45 w ≡ true → length w ≡ 1 → w ≡ 45 ∷ []
dash_alone [] h one = absurd (false≢true h)
dash_alone (b ∷ []) h one = behind_byte (b ∷ []) 45 h
dash_alone (b ∷ c ∷ w) h one = absurd (omega arith)

-- a value that does not begin with `-` is a name
pub name_value_place : (w : List ℕ) → begins_with 45 w ≡ false → IsPlace IsValueWord w (name_front w)
name_value_place w other =
    let p : IsPlace IsNameWord w (name_front w) = name_place w in
    record {
      inside = p.inside;
      before = (p.before.0, (Some (take (name_front w) w ++ p.before.0), p.before.1, refl));
      here = λ lt b. p.here lt (b.0, named (name_front w) w b.0 lt other b.1.0 b.1.1 b.1.2);
    }
  where
    named : (k : ℕ) (w r : List ℕ) → k < length w → begins_with 45 w ≡ false → (v : Option (List ℕ)) → is_value v ≡ true → take (k + 1) w ++ r ≡ value_word v → IsNameWord (take (k + 1) w ++ r)
    named k w r lt other (Some n) h e = subst (λ (x : List ℕ). is_name x ≡ true) (sym e) h
    named k [] r lt other None h e = absurd (omega arith)
    named k (b ∷ bs) r lt other None h e =
        let one : b ∷ (take k bs ++ r) ≡ 45 ∷ [] = rw add-one at e in
        let same : b ≡ 45 = cc in
        absurd (false≢true (sym other ∙ begins_it (b ∷ bs) bs 45 (ap (λ (x : ℕ). x ∷ bs) same)))

pub not_name_value : (w : List ℕ) → begins_with 45 w ≡ false → (is_name w ≡ true → ⊥) → IsValueWord w → ⊥
not_name_value w other unnamed h = by h.0 h.1 h.2
  where
    by : (v : Option (List ℕ)) → is_value v ≡ true → w ≡ value_word v → ⊥
    by None k e = false≢true (sym other ∙ begins_it w [] 45 e)
    by (Some n) k e = unnamed (subst (λ (x : List ℕ). is_name x ≡ true) (sym e) k)

-- the word behind the name of an attribute is a value
pub value_of_attr : (word n v : List ℕ) (a : Attr) → is_name n ≡ true → is_attr a ≡ true → word ≡ n ++ 61 ∷ v → word ≡ attr_word a → IsValueWord v
value_of_attr word n v a h ha e f =
    let parts = and_parts (is_name a.name) (is_value a.value) ha in
    (a.value, parts.1, (attr_split n v a.name (value_word a.value) h parts.0 (sym e ∙ f)).1)

-- the parts of a word with `=` behind the front
pub attr_parts : (w : List ℕ) (k : ℕ) → begins_with 61 (drop k w) ≡ true → w ≡ take k w ++ 61 ∷ drop 1 (drop k w)
attr_parts w k h = sym (take-append-drop k w) ∙ ap (λ (x : List ℕ). take k w ++ x) (behind_byte (drop k w) 61 h)

pub stops_unnamed : (w : List ℕ) (k : ℕ) → k ≡ name_front w → (is_name (take k w) ≡ true → ⊥) → Stops w
stops_unnamed w k e unnamed = stops_from w (λ some h. unnamed (name_of_front k w e (omega (arith, some, e))))

pub stops_unequal : (w : List ℕ) (k : ℕ) → k ≡ name_front w → begins_with 61 (drop k w) ≡ false → Stops w
stops_unequal w k e f = stops_from w (λ some h. false≢true (sym f ∙ ap (λ (n : ℕ). begins_with 61 (drop n w)) e ∙ h))

-- the place of the value within the word
pub value_place_front : (w : List ℕ) (k place : ℕ) → k ≡ name_front w → is_name (take k w) ≡ true → begins_with 61 (drop k w) ≡ true
    → IsPlace IsValueWord (drop 1 (drop k w)) place → IsPlace IsAttrWord w (k + 1 + place)
value_place_front w k place e named h p =
    let len : length (take k w) ≡ k = length-take-le k w (omega (arith, e, front_inside w)) in
    subst (λ (n : ℕ). IsPlace IsAttrWord w (n + 1 + place)) len (value_place w (take k w) (drop 1 (drop k w)) place named (attr_parts w k h) p)
