-- What calls that end make of the candidates and of the order of entries.
use Rattle.std.proofs.Common.{◌≡◌, ℕ, ◌+◌, ◌-◌, ◌<◌, ◌≤◌, inl, inr, Bool, true, false, refl, sym, ◌∙◌, subst, arith, cond, List, [], ◌∷◌}
use Rattle.vx_core.specs.declared.stage.Job.TheVariants.{Write as WriteJob}
use Rattle.vx_core.specs.declared.stage.Act.TheVariants.{Done}
use Rattle.vx_base.specs.Blocks.{Contents, is_in}
use Rattle.vx_life.specs.Candidates.{Values, IsAmong, Candidates}
use Rattle.vx_life.specs.Entry.{Entry, candidates_of}
use Rattle.vx_core.specs.History.{Call, Pending, NoCall, Reads, Writes, with_pending, overlaid, IsRecord, AreCounted, IsNextCall, MayBegin, number_after}
use Rattle.vx_core.specs.Region.{CallOf, AreOf, entries_after}
use Rattle.vx_life.specs.Candidates.{OneOf, Any, or_also}

-- a value over another is still one that may be there
among_also : (vs : Values) (v w : List ℕ) → IsAmong vs v → IsAmong (or_also w vs) v
among_also Any v w h = tt
among_also (OneOf values) v w h = inr h

among_new : (vs : Values) (w : List ℕ) → IsAmong (or_also w vs) w
among_new Any w = tt
among_new (OneOf values) w = inl refl

-- the values of a block after a call that is missed or torn there
missed_may : (b : Bool) (vs : Values) (v : List ℕ) → IsAmong vs v → IsAmong (cond b vs vs) v
missed_may true vs v h = h
missed_may false vs v h = h

missed_was : (b : Bool) (vs : Values) (v : List ℕ) → IsAmong (cond b vs vs) v → IsAmong vs v
missed_was true vs v h = h
missed_was false vs v h = h

torn_may : (b : Bool) (vs : Values) (v w : List ℕ) → IsAmong vs v → IsAmong (cond b (or_also w vs) vs) v
torn_may true vs v w h = among_also vs v w h
torn_may false vs v w h = h

-- a candidate is one with the pending call as if it ended now
pub pending_may : (first : Candidates) (entries : List Entry) (call : Pending) (i : ℕ) (v : List ℕ) →
    IsAmong (candidates_of first entries i) v → IsAmong (candidates_of first (with_pending call entries) i) v
pending_may first entries NoCall i v h = h
pending_may first entries (Reads call) i v h = missed_may (is_in call.start call.count i) (candidates_of first entries i) v h
pending_may first entries (Writes call values) i v h = torn_may (is_in call.start call.count i) (candidates_of first entries i) v (values i) h

-- the pending write over a block that may be there may be there
over_may : (b : Bool) (vs : Values) (new old : List ℕ) → IsAmong (cond b (or_also new vs) vs) old → IsAmong (cond b (or_also new vs) vs) (cond b new old)
over_may true vs new old h = among_new vs new
over_may false vs new old h = h

pub overlaid_in : (first : Candidates) (entries : List Entry) (call : Pending) (old : Contents) (i : ℕ) →
    IsAmong (candidates_of first (with_pending call entries) i) (old i) → IsAmong (candidates_of first (with_pending call entries) i) (overlaid call old i)
overlaid_in first entries NoCall old i h = h
overlaid_in first entries (Reads call) old i h = h
overlaid_in first entries (Writes call values) old i h = over_may (is_in call.start call.count i) (candidates_of first entries i) (values i) (old i) h

over_same : (b : Bool) (new old other : List ℕ) → old ≡ other → cond b new old ≡ cond b new other
over_same true new old other e = refl
over_same false new old other e = e

-- what lies over a block depends on that block alone
pub overlaid_same : (call : Pending) (old new : Contents) (i : ℕ) → old i ≡ new i → overlaid call old i ≡ overlaid call new i
overlaid_same NoCall old new i e = e
overlaid_same (Reads call) old new i e = e
overlaid_same (Writes call values) old new i e = over_same (is_in call.start call.count i) (values i) (old i) (new i) e

-- a write that is acknowledged leaves its blocks, where they are over the old ones
write_leaves : (b : Bool) (vs : Values) (new old v : List ℕ) → v ≡ cond b new old → IsAmong (cond b (or_also new vs) vs) v → IsAmong (cond b (OneOf (new ∷ [])) vs) v
write_leaves true vs new old v e h = inl e
write_leaves false vs new old v e h = h

pub done_candidate : (first : Candidates) (entries : List Entry) (call : Pending) (p : Contents) (old : Contents) (i : ℕ) (v : List ℕ) →
    CallOf WriteJob call → v ≡ overlaid call old i → IsAmong (candidates_of first (with_pending call entries) i) v →
    IsAmong (candidates_of first (entries_after Done call p entries) i) v
done_candidate first entries NoCall p old i v of e h = absurd of
done_candidate first entries (Reads call) p old i v of e h = absurd of
done_candidate first entries (Writes call values) p old i v of e h = write_leaves (is_in call.start call.count i) (candidates_of first entries i) (values i) (old i) v e h

-- a read leaves what it read, where the block is that
read_leaves : (b : Bool) (vs : Values) (given v : List ℕ) → (b ≡ true → v ≡ given) → IsAmong (cond b vs vs) v → IsAmong (cond b (OneOf (given ∷ [])) vs) v
read_leaves true vs given v same h = inl (same refl)
read_leaves false vs given v same h = h

pub read_candidate : (first : Candidates) (entries : List Entry) (call : Pending) (p blocks : Contents) (i : ℕ) (v : List ℕ) →
    AreOf call blocks p → v ≡ blocks i → IsAmong (candidates_of first (with_pending call entries) i) v →
    IsAmong (candidates_of first (entries_after Done call p entries) i) v
read_candidate first entries NoCall p blocks i v of e h = absurd of
read_candidate first entries (Writes call new) p blocks i v of e h = absurd of
read_candidate first entries (Reads call) p blocks i v of e h =
    read_leaves (is_in call.start call.count i) (candidates_of first entries i) (p i) v (λ inside. e ∙ sym (of i inside)) h

-- ---- the record of entries

-- a call that ends well stands where it stood as if it ended badly
pub done_write_record : (region from : ℕ) (first : Candidates) (entries : List Entry) (call : Pending) (p : Contents) (last : ℕ) → CallOf WriteJob call →
    IsRecord region from first (with_pending call entries) last → IsRecord region from first (entries_after Done call p entries) last
done_write_record region from first entries NoCall p last of h = absurd of
done_write_record region from first entries (Reads call) p last of h = absurd of
done_write_record region from first entries (Writes call values) p last of h = record { legal = (tt, h.legal.1); counted = h.counted; ordered = h.ordered }

pub done_read_record : (region from : ℕ) (first : Candidates) (entries : List Entry) (call : Pending) (p blocks : Contents) (last : ℕ) → AreOf call blocks p →
    ((i : ℕ) → IsAmong (candidates_of first (with_pending call entries) i) (blocks i)) →
    IsRecord region from first (with_pending call entries) last → IsRecord region from first (entries_after Done call p entries) last
done_read_record region from first entries NoCall p blocks last of may h = absurd of
done_read_record region from first entries (Writes call new) p blocks last of may h = absurd of
done_read_record region from first entries (Reads call) p blocks last of may h =
    record {
      legal = (
        (λ i inside. rw (of i inside) (missed_was (is_in call.start call.count i) (candidates_of first entries i) (blocks i) (may i))),
        h.legal.1,
      );
      counted = h.counted;
      ordered = h.ordered;
    }

-- a job without a call ends
pub quiet_entries : (entries : List Entry) (call : Pending) (p : Contents) → call ≡ NoCall → entries_after Done call p entries ≡ with_pending call entries
quiet_entries entries NoCall p e = refl
quiet_entries entries (Reads call) p e = cc
quiet_entries entries (Writes call new) p e = cc

pub quiet_told : (entries : List Entry) (call : Pending) → call ≡ NoCall → entries ≡ with_pending call entries
quiet_told entries NoCall e = refl
quiet_told entries (Reads call) e = cc
quiet_told entries (Writes call new) e = cc

-- a call begins
count_least : (region from last : ℕ) (entries : List Entry) → AreCounted region from entries last → from ≤ last
count_least region from last [] h = omega (arith, h)
count_least region from last (e ∷ es) h = omega (arith, h.2)

counted_next : (region from last number : ℕ) (entries : List Entry) → number ≡ last + 1 → AreCounted region from entries last → AreCounted region from entries (number - 1)
counted_next region from last number entries is h = subst (λ (n : ℕ). AreCounted region from entries n) before h
  where
    before : last ≡ number - 1
    before = omega (arith, is)

begun_at : (region from last : ℕ) (first : Candidates) (entries : List Entry) (call : Call) → IsNextCall region last entries call → IsRecord region from first entries last →
    (call.part.region ≡ region) × (call.part.number ≡ call.part.number) × (from < call.part.number) × AreCounted region from entries (call.part.number - 1)
begun_at region from last first entries call may h =
    let least = count_least region from last entries h.counted in
    (may.here, refl, omega (arith, may.number, least), counted_next region from last call.part.number entries may.number h.counted)

pub begun_record : (region from last : ℕ) (first : Candidates) (entries : List Entry) (call : Pending) → MayBegin region last entries call → IsRecord region from first entries last →
    IsRecord region from first (with_pending call entries) (number_after call last)
begun_record region from last first entries NoCall may h = h
begun_record region from last first entries (Reads call) may h =
    record { legal = (tt, h.legal); counted = begun_at region from last first entries call may h; ordered = (may.order, h.ordered) }
begun_record region from last first entries (Writes call values) may h =
    record { legal = (tt, h.legal); counted = begun_at region from last first entries call may h; ordered = (may.order, h.ordered) }
