-- No sector of a disk is in two subdisks of a valid configuration.
use Rattle.std.proofs.Common.{◌≡◌, ℕ, ◌+◌, ◌<◌, ◌≤◌, Bool, true, false, cond, List, [], ◌∷◌, Option, Some, None, refl, sym, ◌∙◌, ap, subst, inl, inr, arith}
use Rattle.std.specs.Prelude.{◌&&◌, ◌||◌, nat_lt}
use Rattle.std.specs.List.{list_any, fold}
use Rattle.std.specs.Prelude.{take, drop}
use Rattle.std.specs.Str.{bytes_eq}
use Rattle.std.proofs.lemmas.Bool.{false≢true}
use Rattle.vx_base.specs.Named.{Word}
use Rattle.vx_base.proofs.NamedLemmas.{bytes_eq_self}
use Rattle.vx_config_parts.specs.declared.object.Object.{Object}
use Rattle.vx_config_parts.specs.declared.object.Object.TheVariants.{GroupRecord, DiskRecord, SubdiskRecord, PlexRecord, VolRecord, DcoRecord, SnapRecord}
use Rattle.vx_config_parts.specs.declared.subdisk.Subdisk.{Subdisk}
use Rattle.vx_config_parts.specs.Objects.{is_subdisk, comes_before}
use Rattle.vx_rules.specs.Overlap.{shares_sector, overlaps_earlier, first_overlap_with, first_overlap}
use Rattle.vx_rules.proofs.NameOrder.{same_place}
use Rattle.vx_rules.specs.Rules.{first_broken, fault_of, fault_over, rules}
use Rattle.vx_rules.specs.declared.rule.Rule.TheVariants as rule
use Rattle.vx_rules.specs.Overlap.{overlap_of, overlap_fault}
use Rattle.vx_image.specs.Once.{IsOneOf, HasSector}
use Rattle.vx_image.proofs.Valid.{one_rule, over_rule}

-- ---- where no subdisk overlaps an earlier one

-- a name that was found stays found
found_on : (all os : List Object) (name : Word) → (other : Word) × (fold (first_overlap_with all) (Some name) os ≡ Some other)
found_on all [] name = (name, refl)
found_on all (SubdiskRecord s ∷ os) name = by (overlaps_earlier all s) (comes_before s.name name) (λ n. found_on all os n) where
  by : (b c : Bool) → ((n : Word) → (other : Word) × (fold (first_overlap_with all) (Some n) os ≡ Some other)) →
      (other : Word) × (fold (first_overlap_with all) (cond b (cond c (Some s.name) (Some name)) (Some name)) os ≡ Some other)
  by true true on = on s.name
  by true false on = on name
  by false c on = on name
found_on all (GroupRecord o ∷ os) name = found_on all os name
found_on all (DiskRecord o ∷ os) name = found_on all os name
found_on all (PlexRecord o ∷ os) name = found_on all os name
found_on all (VolRecord o ∷ os) name = found_on all os name
found_on all (DcoRecord o ∷ os) name = found_on all os name
found_on all (SnapRecord o ∷ os) name = found_on all os name

none_some : {X : Type 0} (x : X) → None ≡ Some x → ⊥
none_some x e = cc

same_subdisk : (s t : Subdisk) → SubdiskRecord s ≡ SubdiskRecord t → s ≡ t
same_subdisk s t e = cc

-- the first of them does not, where none was found ..
head_overlaps : (all os : List Object) (t s : Subdisk) (b : Bool) → b ≡ overlaps_earlier all t → fold (first_overlap_with all) (cond b (Some t.name) None) os ≡ None → s ≡ t → overlaps_earlier all s ≡ false
head_overlaps all os t s true is e h = absurd (let f = found_on all os t.name in none_some f.0 (sym e ∙ f.1))
head_overlaps all os t s false is e h = ap (λ x. overlaps_earlier all x) h ∙ sym is

-- .. and none is found among the others
tail_found : (all os : List Object) (t : Subdisk) (b : Bool) → fold (first_overlap_with all) (cond b (Some t.name) None) os ≡ None → fold (first_overlap_with all) None os ≡ None
tail_found all os t true e = absurd (let f = found_on all os t.name in none_some f.0 (sym e ∙ f.1))
tail_found all os t false e = e

-- none of these overlaps an earlier one
none_overlaps : (all os : List Object) → fold (first_overlap_with all) None os ≡ None → (s : Subdisk) → IsOneOf os (SubdiskRecord s) → overlaps_earlier all s ≡ false
none_overlaps all [] e s h = absurd h
none_overlaps all (SubdiskRecord t ∷ os) e s (inl h) = head_overlaps all os t s (overlaps_earlier all t) refl e (same_subdisk s t h)
none_overlaps all (SubdiskRecord t ∷ os) e s (inr h) = none_overlaps all os (tail_found all os t (overlaps_earlier all t) e) s h
none_overlaps all (GroupRecord o ∷ os) e s (inl h) = cc
none_overlaps all (GroupRecord o ∷ os) e s (inr h) = none_overlaps all os e s h
none_overlaps all (DiskRecord o ∷ os) e s (inl h) = cc
none_overlaps all (DiskRecord o ∷ os) e s (inr h) = none_overlaps all os e s h
none_overlaps all (PlexRecord o ∷ os) e s (inl h) = cc
none_overlaps all (PlexRecord o ∷ os) e s (inr h) = none_overlaps all os e s h
none_overlaps all (VolRecord o ∷ os) e s (inl h) = cc
none_overlaps all (VolRecord o ∷ os) e s (inr h) = none_overlaps all os e s h
none_overlaps all (DcoRecord o ∷ os) e s (inl h) = cc
none_overlaps all (DcoRecord o ∷ os) e s (inr h) = none_overlaps all os e s h
none_overlaps all (SnapRecord o ∷ os) e s (inl h) = cc
none_overlaps all (SnapRecord o ∷ os) e s (inr h) = none_overlaps all os e s h

-- a record that is there passes what none passes, not
neither : (a b : Bool) → (a || b) ≡ false → (a ≡ false) × (b ≡ false)
neither true b e = absurd (false≢true (sym e))
neither false b e = (refl, e)

passes_none : (test : Object → Bool) (os : List Object) (o : Object) → list_any test os ≡ false → IsOneOf os o → test o ≡ false
passes_none test [] o e h = absurd h
passes_none test (p ∷ ps) o e (inl h) = ap test h ∙ (neither (test p) (list_any test ps) e).0
passes_none test (p ∷ ps) o e (inr h) = passes_none test ps o (neither (test p) (list_any test ps) e).1 h

all_three : (a b c : Bool) → a ≡ true → b ≡ true → c ≡ true → (a && b && c) ≡ true
all_three a b c x y z = rw x (rw y (rw z refl))

is_below : (a b sector : ℕ) → a ≤ sector → sector < b → nat_lt a b ≡ true
is_below a b sector l r = grind (arith, l, r)

shares : (s t : Subdisk) (sector : ℕ) → s.disk ≡ t.disk → HasSector s sector → HasSector t sector → shares_sector s t ≡ true
shares s t sector disk h k =
    all_three (bytes_eq s.disk t.disk) (nat_lt s.off (t.off + t.len)) (nat_lt t.off (s.off + s.len)) (subst (λ d. bytes_eq s.disk d ≡ true) disk (bytes_eq_self s.disk))
    (is_below s.off (t.off + t.len) sector h.from k.below) (is_below t.off (s.off + s.len) sector k.from h.below)

-- one of two that share a sector does not come before the other
not_earlier : (all : List Object) (s t : Subdisk) → first_overlap all ≡ None → IsOneOf all (SubdiskRecord s) → IsOneOf all (SubdiskRecord t) → shares_sector s t ≡ true → comes_before t.name s.name ≡ false
not_earlier all s t e hs ht share = by (comes_before t.name s.name) (passes_none (λ o. is_subdisk (λ t. comes_before t.name s.name && shares_sector s t) o) all (SubdiskRecord t) (none_overlaps all all e s hs) ht) where
  by : (b : Bool) → (b && shares_sector s t) ≡ false → b ≡ false
  by true f = absurd (false≢true (sym f ∙ share))
  by false f = refl

pub once : (all : List Object) → first_overlap all ≡ None → (s t : Subdisk) → IsOneOf all (SubdiskRecord s) → IsOneOf all (SubdiskRecord t) → s.disk ≡ t.disk →
    (sector : ℕ) → HasSector s sector → HasSector t sector → s.name ≡ t.name
once all e s t hs ht disk sector x y =
    same_place s.name t.name (not_earlier all t s e ht hs (shares t s sector (sym disk) y x)) (not_earlier all s t e hs ht (shares s t sector disk x y))

-- ---- of a valid configuration

overlap_rule : (all : List Object) → first_broken all ≡ None → fault_of rule.SubdisksDoNotOverlap all ≡ None
unfolding first_broken
overlap_rule all e = one_rule (take 10 rules) rule.SubdisksDoNotOverlap (drop 11 rules) all e

overlap_none : (all : List Object) → fault_over rule.SubdisksDoNotOverlap all ≡ None → overlap_fault all ≡ None
unfolding fault_over
overlap_none all e = e

no_name : (found : Option Word) → overlap_of found ≡ None → found ≡ None
no_name None e = refl
no_name (Some name) e = cc

pub valid_once : (all : List Object) → first_broken all ≡ None → (s t : Subdisk) → IsOneOf all (SubdiskRecord s) → IsOneOf all (SubdiskRecord t) → s.disk ≡ t.disk →
    (sector : ℕ) → HasSector s sector → HasSector t sector → s.name ≡ t.name
valid_once all e = once all (no_name (first_overlap all) (overlap_none all (over_rule rule.SubdisksDoNotOverlap all (overlap_rule all e))))
