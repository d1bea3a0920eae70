-- The subdisks that are put at places: where each lies, and that no two have one name.
use Rattle.std.proofs.Common.{◌≡◌, ◌⊎◌, ℕ, ◌+◌, ◌<◌, ◌≤◌, Bool, true, false, Some, List, [], ◌∷◌, ◌++◌, map, refl, sym, ap, ◌∙◌, subst, inl, inr, arith, if◌then◌else◌, append_assoc, append-nil}
use Rattle.std.specs.Str.{bytes_eq}
use Rattle.std.proofs.lemmas.List.{map-append}
use Rattle.vx_base.specs.Named.{Word}
use Rattle.vx_base.proofs.NamedLemmas.{bytes_eq_self, bytes_eq_same}
use Rattle.vx_config_parts.specs.declared.object.Object.{Object}
use Rattle.vx_config_parts.specs.Objects.{name_of}
use Rattle.vx_image.proofs.PlexMembers.{IsIn, in_either}
use Rattle.vx_new_volumes.specs.declared.next.Next.{Next}
use Rattle.vx_new_volumes.specs.Laying.{Laid, next_on, subdisk, with_next}
use Rattle.vx_new_volumes.specs.Naming.{Numbered, is_known, next_name, numbered}
use Rattle.vx_new_volume_laws.proofs.Parts.{then_some}
use Rattle.vx_new_volume_laws.proofs.Stems.{numbered_one}
use Rattle.vx_new_volume_laws.proofs.Behind.{AreOnce, IsFree, next_is}
use Rattle.vx_new_volume_laws.proofs.Places.{Place, put_each, put_place}

-- the subdisk of the name at the place
abbrev pub as_placed : Word → Place → Object
as_placed name p = subdisk name p.plex p.col p.at p.extent

-- the records are subdisks at these places
abbrev pub ArePlaced : List Place → List Object → Type 0
ArePlaced [] [] = Unit {0}
ArePlaced [] (o ∷ os) = ⊥
ArePlaced (p ∷ ps) [] = ⊥
ArePlaced (p ∷ ps) (o ∷ os) = ((name : Word) × (o ≡ as_placed name p)) × ArePlaced ps os

-- the name is that of a number that comes no more on its disk, and was not known
pub record IsOwn (known : List Word) (nexts : List Next) (name : Word) : Type 0 where
  pub disk : Word
  pub number : ℕ
  pub is : name ≡ numbered disk number
  pub most : number ≤ 999999
  pub passed : number < next_on nexts disk
  pub new : is_known known name ≡ false

-- the names so far
pub record AreOwn (known : List Word) (l : Laid) : Type 0 where
  pub each : (name : Word) → IsIn (map name_of l.objects) name → IsOwn known l.nexts name
  pub once : AreOnce (map name_of l.objects)

pub once_append : (xs ys : List Word) → AreOnce xs → AreOnce ys → ((v : Word) → IsIn xs v → IsIn ys v → ⊥) → AreOnce (xs ++ ys)
once_append [] ys h k apart = k
once_append (x ∷ xs) ys h k apart = (
  λ v there same. elim (in_either xs ys v there) [ inl a ↦ h.0 v a same | inr b ↦ apart x (inl refl) (subst (λ (w : Word). IsIn ys w) (sym same) b) ],
  once_append xs ys h.1 k (λ v a b. apart v (inr a) b),
)

-- the number that comes next on a disk, once it is set for one
next_set : (d disk : Word) (number : ℕ) (ns : List Next) → next_on (with_next disk number ns) d ≡ (if bytes_eq disk d then number else next_on ns d)
next_set d disk number [] = refl
next_set d disk number (n ∷ ns) = by (bytes_eq n.disk disk) refl (next_set d disk number ns)
  where
    off : (b : Bool) → bytes_eq n.disk d ≡ b → bytes_eq disk d ≡ b → (if bytes_eq disk d then number else next_on ns d) ≡ (if bytes_eq disk d then number else (if bytes_eq n.disk d then n.number else next_on ns d))
    off true own e = ap (λ (t : Bool). if t then number else next_on ns d) e ∙ sym (ap (λ (t : Bool). if t then number else (if bytes_eq n.disk d then n.number else next_on ns d)) e)
    off false own e = ap (λ (t : Bool). if bytes_eq disk d then number else (if t then n.number else next_on ns d)) (sym own)

    other : (a b : Bool) → bytes_eq n.disk disk ≡ false → bytes_eq n.disk d ≡ a → bytes_eq disk d ≡ b → (if a then n.number else (if b then number else next_on ns d)) ≡ (if b then number else (if a then n.number else next_on ns d))
    other true true e f g = absurd (differs (sym e ∙ subst (λ (w : Word). bytes_eq n.disk w ≡ true) (sym (bytes_eq_same disk d g)) f))
      where
        differs : false ≡ true → ⊥
        differs h = cc
    other true false e f g = refl
    other false b e f g = refl

    by : (b : Bool) → bytes_eq n.disk disk ≡ b → next_on (with_next disk number ns) d ≡ (if bytes_eq disk d then number else next_on ns d)
        → next_on (if b then record { disk = disk; number = number } ∷ ns else n ∷ with_next disk number ns) d ≡ (if bytes_eq disk d then number else (if bytes_eq n.disk d then n.number else next_on ns d))
    by true e more = off (bytes_eq disk d) (ap (λ (w : Word). bytes_eq w d) (bytes_eq_same n.disk disk e)) refl
    by false e more =
        ap (λ (k : ℕ). if bytes_eq n.disk d then n.number else k) more
        ∙ other (bytes_eq n.disk d) (bytes_eq disk d) e refl refl

still_passed : (b : Bool) (d disk : Word) (k number next : ℕ) → bytes_eq disk d ≡ b → k < next → (disk ≡ d → next < number) → k < (if b then number else next)
still_passed true d disk k number next e lt more = let past = more (bytes_eq_same disk d e) in omega (arith, lt, past)
still_passed false d disk k number next e lt more = lt

module _ (known : List Word) where
  -- one more name of a disk's next number
  own_more : (disk : Word) (l : Laid) (o : Object) (t : Numbered) → IsFree known disk (next_on l.nexts disk) t → name_of o ≡ t.name → AreOwn known l
      → AreOwn known (record { objects = l.objects ++ o ∷ []; nexts = with_next disk (t.number + 1) l.nexts })
  own_more disk l o t free named own = record {
    each = λ name there. by name (in_either (map name_of l.objects) (name_of o ∷ []) name (subst (λ (ws : List Word). IsIn ws name) (map-append name_of l.objects (o ∷ [])) there));
    once = subst AreOnce (sym (map-append name_of l.objects (o ∷ []))) (once_append (map name_of l.objects) (name_of o ∷ []) own.once ((λ v there same. there), tt) apart);
  }
    where
      kept : (d : Word) (k : ℕ) → k < next_on l.nexts d → k < next_on (with_next disk (t.number + 1) l.nexts) d
      kept d k lt =
          subst (λ (m : ℕ). k < m) (sym (next_set d disk (t.number + 1) l.nexts))
          (still_passed (bytes_eq disk d) d disk k (t.number + 1) (next_on l.nexts d) refl lt (λ same. let least = free.least in let at : next_on l.nexts disk ≡ next_on l.nexts d = ap (λ (w : Word). next_on l.nexts w) same in omega (arith, least, at)))

      last : t.number < next_on (with_next disk (t.number + 1) l.nexts) disk
      last = subst (λ (m : ℕ). t.number < m) (sym (next_set disk disk (t.number + 1) l.nexts ∙ ap (λ (b : Bool). if b then t.number + 1 else next_on l.nexts disk) (bytes_eq_self disk))) (omega arith)

      by : (name : Word) → IsIn (map name_of l.objects) name ⊎ IsIn (name_of o ∷ []) name → IsOwn known (with_next disk (t.number + 1) l.nexts) name
      by name (inl old) = let r = own.each name old in record { disk = r.disk; number = r.number; is = r.is; most = r.most; passed = kept r.disk r.number r.passed; new = r.new }
      by name (inr (inl same)) =
          let is : name ≡ t.name = same ∙ named in
          record { disk = disk; number = t.number; is = is ∙ free.is; most = free.most; passed = last; new = subst (λ (w : Word). is_known known w ≡ false) (sym is) free.new }
      by name (inr (inr there)) = absurd there

      apart : (v : Word) → IsIn (map name_of l.objects) v → IsIn (name_of o ∷ []) v → ⊥
      apart v there (inl same) =
          let r = own.each v there in
          let one = numbered_one r.disk disk r.number t.number r.most free.most (sym r.is ∙ same ∙ named ∙ free.is) in
          let least = free.least in
          let lt = r.passed in
          let at : next_on l.nexts r.disk ≡ next_on l.nexts disk = ap (λ (w : Word). next_on l.nexts w) one.0 in
          let number = one.1 in
          absurd (omega (arith, least, lt, at, number))
      apart v there (inr more) = more

  -- what stands behind the records so far
  pub record ArePut (ps : List Place) (l m : Laid) : Type 0 where
    pub objects : List Object
    pub are : m.objects ≡ l.objects ++ objects
    pub placed : ArePlaced ps objects
    pub own : AreOwn known m

  same_laid : (l m : Laid) → Some l ≡ Some m → m ≡ l
  same_laid l m e = cc

  abbrev laid_with : Place → Laid → Numbered → Laid
  laid_with p l t = record { objects = l.objects ++ subdisk t.name p.plex p.col p.at p.extent ∷ []; nexts = with_next p.extent.disk (t.number + 1) l.nexts }

  pub put : (ps : List Place) (l m : Laid) → put_each known ps l ≡ Some m → AreOwn known l → ArePut ps l m
  put [] l m e own =
      let same = same_laid l m e in
      record { objects = []; are = ap (λ (x : Laid). x.objects) same ∙ sym (append-nil l.objects); placed = tt; own = subst (AreOwn known) (sym same) own }
  put (p ∷ ps) l m e own =
      let first = then_some (put_place known p l) (put_each known ps) m e in
      let t = then_some (next_name known p.extent.disk (next_on l.nexts p.extent.disk)) (λ t. Some (laid_with p l t)) first.0 first.1 in
      let o : Object = as_placed t.0.name p in
      let same = same_laid (laid_with p l t.0) first.0 t.2 in
      let more = own_more p.extent.disk l o t.0 (next_is known p.extent.disk (next_on l.nexts p.extent.disk) t.0 t.1) refl own in
      let rest = put ps first.0 m first.2 (subst (AreOwn known) (sym same) more) in
      record {
        objects = o ∷ rest.objects;
        are = rest.are ∙ ap (λ (x : Laid). x.objects ++ rest.objects) same ∙ append_assoc l.objects (o ∷ []) rest.objects;
        placed = ((t.0.name, refl), rest.placed);
        own = rest.own;
      }
