-- How the life of a volume goes on by entries of which each is of one region.
use Rattle.std.proofs.Common.{◌≡◌, ◌≢◌, ℕ, ◌-◌, ◌/◌, ◌<◌, Bool, true, false, refl, sym, ◌∙◌, ap, subst, inl, inr, arith, cond, List, [], ◌∷◌, IsTrue}
use Rattle.std.specs.Prelude.{◌==◌, ◌&&◌, ◌⊎◌}
use Rattle.std.proofs.lemmas.Bool.Decides.{nat_tests}
use Rattle.vx_base.specs.Blocks.{is_in}
use Rattle.vx_mask.proofs.Tests.{true_or_false, not_both, or_from_right, or_from_left, or_cases}
use Rattle.vx_life.specs.declared.EntryKind.{EntryKind}
use Rattle.vx_life.specs.declared.EntryKind.TheVariants as kinds
use Rattle.vx_life.specs.Candidates.{Values, IsAmong, Candidates}
use Rattle.vx_life.specs.Entry.{Entry, ReadsAmong, candidates_after, candidates_of, values_after}
use Rattle.vx_life.specs.Life.{Life, GoesOn, IsNext, life_after}
use Rattle.vx_core.specs.History.{AllOf, AreCounted, IsRecord}
use Rattle.vx_core.specs.Region.{Fixed}
use Rattle.vx_core_laws.specs.Tracking.{is_torn}
use Rattle.vx_volume.specs.Laws.{with_made}
use Rattle.vx_moments.specs.Tracks.{was_torn_in}
use Rattle.vx_volume_laws.specs.Running.{entries_in}

-- the life after entries, one after the other
abbrev pub lived : List Entry → Life → Life
lived [] life = life
lived (e ∷ es) life = lived es (life_after e life)

-- the number that was drawn last, by the entries
abbrev pub last_of : ℕ → List Entry → ℕ
last_of from [] = from
last_of from (e ∷ es) = e.part.number

-- ---- tests

pub same_test : (n m : ℕ) → n ≡ m → (n == m) ≡ true
same_test n m e = grind (arith, nat_tests)

pub test_same : (n m : ℕ) → (n == m) ≡ true → n ≡ m
test_same n m e = grind (arith, nat_tests)

pub other_test : (n m : ℕ) → n ≢ m → (n == m) ≡ false
other_test n m apart = elim (true_or_false (n == m)) [ inl same ↦ absurd (apart (test_same n m same)) | inr other ↦ other ]

-- ---- records

counted_last : (region from : ℕ) (es : List Entry) (last : ℕ) → AreCounted region from es last → last_of from es ≡ last
counted_last region from [] last h = sym h
counted_last region from (e ∷ es) last h = h.1

pub record_last : (region from : ℕ) (first : Candidates) (es : List Entry) (last : ℕ) → IsRecord region from first es last → last_of from es ≡ last
record_last region from first es last h = counted_last region from es last h.counted

record_behind : (region from : ℕ) (first : Candidates) (e : Entry) (es : List Entry) (last : ℕ) → IsRecord region from first (e ∷ es) last → IsRecord region from first es (last - 1)
record_behind region from first e es last h = record { legal = h.legal.1; counted = h.counted.3; ordered = h.ordered.1 }

-- some number is the last of a record
abbrev pub HasRecord : Fixed → List Entry → Type 0
HasRecord fixed es = (last : ℕ) × IsRecord fixed.region fixed.from fixed.first es last

behind : (b : Bool) (fixed : Fixed) (e : Entry) (es : List Entry) → HasRecord fixed (cond b (e ∷ es) es) → HasRecord fixed es
behind true fixed e es h = (h.0 - 1, record_behind fixed.region fixed.from fixed.first e es h.0 h.1)
behind false fixed e es h = h

pub record_before : (r : ℕ) (fixed : Fixed) (made es : List Entry) → HasRecord fixed (with_made r made es) → HasRecord fixed es
record_before r fixed [] es h = h
record_before r fixed (e ∷ made) es h = behind (e.part.region == r) fixed e es (record_before r fixed made (cond (e.part.region == r) (e ∷ es) es) h)

-- ---- a life and the histories of the regions

-- the entry lies in one region of a volume, and is of this epoch
pub record IsPlaced (length size count epoch : ℕ) (e : Entry) : Type 0 where
  pub inside : e.part.region < count
  pub epoch_is : e.part.epoch ≡ epoch
  pub here : (k : ℕ) → IsTrue (is_in e.start e.count k) → (k < length) × (k / size ≡ e.part.region)

module _ (length size count epoch : ℕ) (fixed : ℕ → Fixed) where
  -- the life speaks of the regions with these histories
  pub record Agrees (life : Life) (entries : ℕ → List Entry) : Type 0 where
    pub epoch_is : life.epoch ≡ epoch
    pub candidates : (b r : ℕ) → b < length → b / size ≡ r → life.candidates b ≡ candidates_of (fixed r).first (entries r) b
    pub last : (r : ℕ) → r < count → life.last r ≡ last_of (fixed r).from (entries r)
    pub entries_are : (r : ℕ) → entries_in r life.entries ≡ entries r

  module _ (e : Entry) (life : Life) (entries : ℕ → List Entry) (placed : IsPlaced length size count epoch e) (agrees : Agrees life entries) where
    abbrev more : ℕ → List Entry
    more r = cond (e.part.region == r) (e ∷ entries r) (entries r)

    not_here : (b r : ℕ) → b / size ≡ r → (e.part.region == r) ≡ false → is_in e.start e.count b ≡ false
    not_here b r at other =
        elim (true_or_false (is_in e.start e.count b)) [
          | inl here ↦ not_both (same_test e.part.region r (sym (placed.here b here).1 ∙ at)) other
          | inr out ↦ out
        ]

    candidates_now : (b r : ℕ) → b < length → b / size ≡ r → candidates_after e life.candidates b ≡ candidates_of (fixed r).first (more r) b
    candidates_now b r lt at =
        elim (true_or_false (e.part.region == r)) [
          | inl equal ↦ rw equal (ap (λ (old : Values). cond (is_in e.start e.count b) (values_after e.kind (e.values b) old) old) (agrees.candidates b r lt at))
          | inr other ↦ rw (other, not_here b r at other) (agrees.candidates b r lt at)
        ]

    last_now : (r : ℕ) → r < count → (life_after e life).last r ≡ last_of (fixed r).from (more r)
    last_now r lt =
        elim (true_or_false (e.part.region == r)) [
          | inl equal ↦ rw (equal, same_test r e.part.region (sym (test_same e.part.region r equal))) refl
          | inr other ↦ rw (other, other_test r e.part.region (λ same. not_both (same_test e.part.region r (sym same)) other)) (agrees.last r lt)
        ]

    entries_now : (r : ℕ) → entries_in r (e ∷ life.entries) ≡ more r
    entries_now r = ap (λ (es : List Entry). cond (e.part.region == r) (e ∷ es) es) (agrees.entries_are r)

    agrees_after : Agrees (life_after e life) more
    agrees_after = record { epoch_is = agrees.epoch_is; candidates = candidates_now; last = last_now; entries_are = entries_now }

    reads_by : (kind : EntryKind) → ReadsAmong kind (candidates_of (fixed e.part.region).first (entries e.part.region)) e → ReadsAmong kind life.candidates e
    reads_by kinds.Read reads = λ k here. let at = placed.here k here in subst (λ (values : Values). IsAmong values (e.values k)) (sym (agrees.candidates k e.part.region at.0 at.1)) (reads k here)
    reads_by kinds.Write reads = tt
    reads_by kinds.Torn reads = tt
    reads_by kinds.Missed reads = tt

    is_next : HasRecord (fixed e.part.region) (e ∷ entries e.part.region) → IsNext life e
    is_next h =
        let before = agrees.last e.part.region placed.inside ∙ counted_last (fixed e.part.region).region (fixed e.part.region).from (entries e.part.region) (h.0 - 1) h.1.counted.3 in
        let number = h.1.counted.1 in
        let some = h.1.counted.2 in
        record {
          epoch = placed.epoch_is ∙ sym agrees.epoch_is;
          number = omega (arith, before, number, some);
          reads = reads_by e.kind h.1.legal.0;
        }

  pub life_goes : (es : List Entry) (life : Life) (entries : ℕ → List Entry) → AllOf (IsPlaced length size count epoch) es → Agrees life entries →
      ((r : ℕ) → r < count → HasRecord (fixed r) (with_made r es (entries r))) → GoesOn life es (lived es life) × Agrees (lived es life) (λ r. with_made r es (entries r))
  life_goes [] life entries placed agrees records = (refl, agrees)
  life_goes (e ∷ es) life entries placed agrees records =
      let r = e.part.region in
      let own : HasRecord (fixed r) (cond (r == r) (e ∷ entries r) (entries r)) = record_before r (fixed r) es (cond (r == r) (e ∷ entries r) (entries r)) (records r placed.0.inside) in
      let next : HasRecord (fixed r) (e ∷ entries r) = subst (λ (b : Bool). HasRecord (fixed r) (cond b (e ∷ entries r) (entries r))) (same_test r r refl) own in
      let rest = life_goes es (life_after e life) (more e life entries placed.0 agrees) placed.1 (agrees_after e life entries placed.0 agrees) records in
      ((is_next e life entries placed.0 agrees next, rest.0), rest.1)

-- ---- torn entries of a life

-- what is torn in a region stays so in its life
pub torn_lived : (r : ℕ) (es : List Entry) (life : Life) → (was_torn_in r es ≡ true) ⊎ (was_torn_in r life.entries ≡ true) → was_torn_in r (lived es life).entries ≡ true
torn_lived r [] life (inl none) = cc
torn_lived r [] life (inr was) = was
torn_lived r (e ∷ es) life (inr was) = torn_lived r es (life_after e life) (inr (or_from_right (is_torn e.kind && e.part.region == r) (was_torn_in r life.entries) was))
torn_lived r (e ∷ es) life (inl some) =
    elim (or_cases (is_torn e.kind && e.part.region == r) (was_torn_in r es) some) [
      | inl now ↦ torn_lived r es (life_after e life) (inr (or_from_left (is_torn e.kind && e.part.region == r) (was_torn_in r life.entries) now))
      | inr later ↦ torn_lived r es (life_after e life) (inl later)
    ]

pub lived_epoch : (es : List Entry) (life : Life) → (lived es life).epoch ≡ life.epoch
lived_epoch [] life = refl
lived_epoch (e ∷ es) life = lived_epoch es (life_after e life)
