-- The good disks by name and the free extents are told by the configuration, and so is the answer.
use Rattle.std.proofs.Common.{◌≡◌, ℕ, Bool, true, false, Result, List, [], ◌∷◌, refl, sym, ap, ◌∙◌, subst, inl, inr, ◌||◌}
use Rattle.std.specs.List.{list_any}
use Rattle.std.specs.Str.{bytes_eq}
use Rattle.std.proofs.lemmas.Bool.{false≢true, and_parts, or_from, or_left, cases_Bool, false_from_ne_true}
use Rattle.vx_base.specs.Named.{Word}
use Rattle.vx_base.proofs.NamedLemmas.{bytes_eq_self, bytes_eq_same}
use Rattle.vx_config_parts.specs.declared.disk.Disk.{Disk}
use Rattle.vx_config_parts.specs.Objects.{comes_before}
use Rattle.vx_rules.proofs.NameOrder.{before_itself, before_later, not_before, same_place}
use Rattle.vx_objects.specs.declared.config.Config.{Config}
use Rattle.vx_space.specs.declared.extent.Extent.{Extent}
use Rattle.vx_space.specs.Disks.{names_rise, next_is_later}
use Rattle.vx_space.specs.Free.{EachHasOneFreeList}
use Rattle.vx_new_volumes.specs.declared.fault.PlanFault.{PlanFault}
use Rattle.vx_new_volumes.specs.declared.request.Request.{Request}
use Rattle.vx_new_volumes.specs.declared.parts.Plan.{Plan}
use Rattle.vx_new_volumes.specs.Disks.{names_of}
use Rattle.vx_new_volumes.specs.Rule.{rule}
use Rattle.vx_new_volumes.specs.Planned.{IsPlanned}

abbrev named : Word → Disk → Bool
named n d = bytes_eq d.name n

-- no later disk has a name that does not come behind the first
none_behind : (d : Disk) (ds : List Disk) → names_rise (d ∷ ds) ≡ true → (n : Word) → comes_before d.name n ≡ false → list_any (named n) ds ≡ false
none_behind d [] rise n h = refl
none_behind d (e ∷ es) rise n h =
    let parts = and_parts (comes_before d.name e.name) (names_rise (e ∷ es)) rise in
    or_from _ _
    (false_from_ne_true _ (λ same. false≢true (sym h ∙ subst (λ m. comes_before d.name m ≡ true) (bytes_eq_same e.name n same) parts.0)))
    (none_behind e es parts.1 n (false_from_ne_true _ (λ k. false≢true (sym h ∙ before_later d.name e.name n parts.0 k))))

-- a name that comes before the first is not there
none_before : (d : Disk) (ds : List Disk) → names_rise (d ∷ ds) ≡ true → (n : Word) → comes_before n d.name ≡ true → list_any (named n) (d ∷ ds) ≡ false
none_before d ds rise n h =
    or_from _ _ (false_from_ne_true _ (λ same. false≢true (sym (before_itself n) ∙ subst (λ m. comes_before n m ≡ true) (bytes_eq_same d.name n same) h))) (none_behind d ds rise n (not_before n d.name h))

abbrev Alike : List Disk → List Disk → Type 0
Alike ds es = (n : Word) → list_any (named n) ds ≡ list_any (named n) es

first_there : (d : Disk) (ds : List Disk) → list_any (named d.name) (d ∷ ds) ≡ true
first_there d ds = or_left _ _ (bytes_eq_self d.name)

not_before_first : (d e : Disk) (ds es : List Disk) → names_rise (e ∷ es) ≡ true → Alike (d ∷ ds) (e ∷ es) → comes_before d.name e.name ≡ false
not_before_first d e ds es rise alike = false_from_ne_true _ (λ h. false≢true (sym (none_before e es rise d.name h) ∙ sym (alike d.name) ∙ first_there d ds))

first_named : (d e : Disk) (ds es : List Disk) → names_rise (d ∷ ds) ≡ true → names_rise (e ∷ es) ≡ true → Alike (d ∷ ds) (e ∷ es) → d.name ≡ e.name
first_named d e ds es up rise alike = same_place d.name e.name (not_before_first d e ds es rise alike) (not_before_first e d es ds up (λ n. sym (alike n)))

rest_alike : (d e : Disk) (ds es : List Disk) → names_rise (d ∷ ds) ≡ true → names_rise (e ∷ es) ≡ true → Alike (d ∷ ds) (e ∷ es) → d.name ≡ e.name → Alike ds es
rest_alike d e ds es up rise alike same n = elim (cases_Bool (bytes_eq d.name n)) [
  | inl here ↦
      let is = bytes_eq_same d.name n here in
      none_behind d ds up n (subst (λ m. comes_before d.name m ≡ false) is (before_itself d.name))
      ∙ sym (none_behind e es rise n (subst (λ m. comes_before e.name m ≡ false) (sym same ∙ is) (before_itself e.name)))
  | inr other ↦
      let other' : bytes_eq e.name n ≡ false = subst (λ m. bytes_eq m n ≡ false) same other in
      sym (ap (λ (b : Bool). b || list_any (named n) ds) other) ∙ alike n ∙ ap (λ (b : Bool). b || list_any (named n) es) other'
]

-- disks whose names rise have the same names where each name is there in both
names_same : (ds es : List Disk) → names_rise ds ≡ true → names_rise es ≡ true → Alike ds es → names_of ds ≡ names_of es
names_same [] [] up rise alike = refl
names_same [] (e ∷ es) up rise alike = absurd (false≢true (alike e.name ∙ first_there e es))
names_same (d ∷ ds) [] up rise alike = absurd (false≢true (sym (alike d.name) ∙ first_there d ds))
names_same (d ∷ ds) (e ∷ es) up rise alike =
    let same = first_named d e ds es up rise alike in
    let rest = names_same ds es (and_parts (next_is_later d ds) (names_rise ds) up).1 (and_parts (next_is_later e es) (names_rise es) rise).1 (rest_alike d e ds es up rise alike same) in
    ap (λ (n : Word). n ∷ names_of ds) same ∙ ap (λ (ns : List Word). e.name ∷ ns) rest

pub one_answer : EachHasOneFreeList → (c : Config) (good : ℕ) (r : Request) (a b : Result Plan PlanFault) → IsPlanned c good r a → IsPlanned c good r b → a ≡ b
one_answer one c good r a b p q =
    let names = names_same p.disks q.disks p.are_good.order q.are_good.order (λ n. p.are_good.there (named n) ∙ sym (q.are_good.there (named n))) in
    let free : p.free ≡ q.free = one c good p.free q.free p.are_free q.are_free in
    sym p.is ∙ ap (λ (ns : List Word). rule r ns p.free) names ∙ ap (λ (es : List Extent). rule r (names_of q.disks) es) free ∙ q.is
