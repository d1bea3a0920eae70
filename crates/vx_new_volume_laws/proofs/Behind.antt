-- New names: none is known, and their numbers rise.
use Rattle.std.proofs.Common.{◌≡◌, ℕ, zero, suc, ◌+◌, ◌≤◌, nat_le, Bool, true, false, Some, None, List, [], ◌∷◌, ◌++◌, length, refl, sym, ap, ◌∙◌, subst, inl, inr, arith, if◌then◌else◌, append_assoc, append-nil}
use Rattle.std.proofs.lemmas.Bool.{leb-true}
use Rattle.vx_base.specs.Named.{Word}
use Rattle.vx_names.specs.Form.{is_name}
use Rattle.vx_new_volumes.specs.Naming.{Numbered, as_name, free_name, is_known, name_at, names_behind, next_name, numbered}
use Rattle.vx_image.proofs.PlexMembers.{IsIn}
use Rattle.vx_new_volume_laws.proofs.Parts.{then_some}
use Rattle.vx_new_volume_laws.proofs.Stems.{numbered_one}

-- a name that is not known, of a number from one on
pub record IsFree (known : List Word) (stem : Word) (from : ℕ) (t : Numbered) : Type 0 where
  pub least : from ≤ t.number
  pub most : t.number ≤ 999999
  pub is : t.name ≡ numbered stem t.number
  pub new : is_known known t.name ≡ false

pub same_word : (a b : Word) → as_name a ≡ Some b → b ≡ a
same_word a b e = by (is_name a) e
  where
    by : (t : Bool) → (if t then Some a else None) ≡ Some b → b ≡ a
    by true e = cc
    by false e = cc

name_is : (stem : Word) (n : ℕ) (name : Word) → name_at stem n ≡ Some name → (n ≤ 999999) × (name ≡ numbered stem n)
name_is stem n name e = by (nat_le n 999999) refl e
  where
    by : (b : Bool) → nat_le n 999999 ≡ b → (if b then as_name (numbered stem n) else None) ≡ Some name → (n ≤ 999999) × (name ≡ numbered stem n)
    by true le is = (leb-true n 999999 le, same_word (numbered stem n) name is)
    by false le is = cc

free_is : (n : ℕ) (known : List Word) (stem : Word) (from : ℕ) (t : Numbered) → free_name n known stem from ≡ Some t → IsFree known stem from t
free_is zero known stem from t e = cc
free_is (suc n) known stem from t e =
    let at = then_some (name_at stem from) (λ name. if is_known known name then free_name n known stem (from + 1) else Some (record { name = name; number = from })) t e in
    by at.0 (name_is stem from at.0 at.1) (is_known known at.0) refl at.2 (free_is n known stem (from + 1) t)
  where
    by : (name : Word) → (from ≤ 999999) × (name ≡ numbered stem from) → (b : Bool) → is_known known name ≡ b → (if b then free_name n known stem (from + 1) else Some (record { name = name; number = from })) ≡ Some t
        → (free_name n known stem (from + 1) ≡ Some t → IsFree known stem (from + 1) t) → IsFree known stem from t
    by name at true is more on = let r = on more in let le = r.least in record { least = omega (arith, le); most = r.most; is = r.is; new = r.new }
    by name at false is here on =
        let own : Numbered = record { name = name; number = from } in
        let same : own ≡ t = cc in
        subst (λ (x : Numbered). IsFree known stem from x) same (record { least = omega arith; most = at.0; is = at.1; new = is })

pub next_is : (known : List Word) (stem : Word) (from : ℕ) (t : Numbered) → next_name known stem from ≡ Some t → IsFree known stem from t
next_is known stem from t e = free_is (suc (length known)) known stem from t e

-- the name is that of a number from one on, and not known
pub record IsNumbered (known : List Word) (stem : Word) (from : ℕ) (name : Word) : Type 0 where
  pub number : ℕ
  pub least : from ≤ number
  pub most : number ≤ 999999
  pub is : name ≡ numbered stem number
  pub new : is_known known name ≡ false

pub from_later : (known : List Word) (stem : Word) (a b : ℕ) (name : Word) → a ≤ b → IsNumbered known stem b name → IsNumbered known stem a name
from_later known stem a b name le r = let least = r.least in record { number = r.number; least = omega (arith, le, least); most = r.most; is = r.is; new = r.new }

-- no name stands twice
abbrev pub AreOnce : List Word → Type 0
AreOnce [] = Unit {0}
AreOnce (w ∷ ws) = ((v : Word) → IsIn ws v → w ≡ v → ⊥) × AreOnce ws

-- the names that stand behind others
pub record AreNew (known : List Word) (stem : Word) (from n : ℕ) (done all : List Word) : Type 0 where
  pub names : List Word
  pub are : all ≡ done ++ names
  pub count : length names ≡ n
  pub each : (name : Word) → IsIn names name → IsNumbered known stem from name
  pub once : AreOnce names

same_list : (a b : List Word) → Some a ≡ Some b → b ≡ a
same_list a b e = cc

pub new_names : (n : ℕ) (done known : List Word) (stem : Word) (from : ℕ) (all : List Word) → names_behind n done known stem from ≡ Some all → AreNew known stem from n done all
new_names zero done known stem from all e = record { names = []; are = same_list done all e ∙ sym (append-nil done); count = refl; each = λ name there. absurd there; once = tt }
new_names (suc n) done known stem from all e =
    let t = then_some (next_name known stem from) (λ t. names_behind n (done ++ t.name ∷ []) known stem (t.number + 1)) all e in
    by t.0 (next_is known stem from t.0 t.1) (new_names n (done ++ t.0.name ∷ []) known stem (t.0.number + 1) all t.2)
  where
    by : (t : Numbered) → IsFree known stem from t → AreNew known stem (t.number + 1) n (done ++ t.name ∷ []) all → AreNew known stem from (suc n) done all
    by t free rest =
        let least = free.least in
        let head : IsNumbered known stem from t.name = record { number = t.number; least = least; most = free.most; is = free.is; new = free.new } in
        record {
          names = t.name ∷ rest.names;
          are = rest.are ∙ append_assoc done (t.name ∷ []) rest.names;
          count = ap suc rest.count;
          each = each head rest;
          once = (λ v there same. apart rest v there same, rest.once);
        }
      where
        each : IsNumbered known stem from t.name → AreNew known stem (t.number + 1) n (done ++ t.name ∷ []) all → (name : Word) → IsIn (t.name ∷ rest.names) name → IsNumbered known stem from name
        each head more name (inl same) = subst (λ w. IsNumbered known stem from w) (sym same) head
        each head more name (inr there) = let least = free.least in from_later known stem from (t.number + 1) name (omega (arith, least)) (rest.each name there)

        apart : AreNew known stem (t.number + 1) n (done ++ t.name ∷ []) all → (v : Word) → IsIn rest.names v → t.name ≡ v → ⊥
        apart more v there same =
            let r = rest.each v there in
            let least = r.least in
            let one = (numbered_one stem stem t.number r.number free.most r.most (sym free.is ∙ same ∙ r.is)).1 in
            absurd (omega (arith, least, one))

-- so many new names
pub record AreFound (known : List Word) (stem : Word) (n : ℕ) (all : List Word) : Type 0 where
  pub count : length all ≡ n
  pub each : (name : Word) → IsIn all name → IsNumbered known stem 1 name
  pub once : AreOnce all

pub found : (n : ℕ) (known : List Word) (stem : Word) (all : List Word) → names_behind n [] known stem 1 ≡ Some all → AreFound known stem n all
found n known stem all e =
    let r = new_names n [] known stem 1 all e in
    record {
      count = ap (λ (ws : List Word). length ws) r.are ∙ r.count;
      each = λ name there. r.each name (subst (λ (ws : List Word). IsIn ws name) r.are there);
      once = subst AreOnce (sym r.are) r.once;
    }
