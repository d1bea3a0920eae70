-- Retellings of a history: candidates only grow by them, and the order stays.
use Rattle.std.proofs.Common.{◌≡◌, ℕ, ◌-◌, Bool, true, false, IsTrue, refl, sym, subst, inl, inr, cond, List, [], ◌∷◌}
use Rattle.vx_base.specs.Blocks.{Contents, is_in}
use Rattle.vx_life.specs.declared.EntryKind.{EntryKind}
use Rattle.vx_life.specs.declared.EntryKind.TheVariants.{Read, Write, Torn, Missed}
use Rattle.vx_life.specs.Candidates.{Any, Candidates, IsAmong, OneOf, Values, or_also}
use Rattle.vx_life.specs.Entry.{Entry, IsHistory, ReadsAmong, candidates_after, candidates_of, values_after}
use Rattle.vx_core.specs.declared.stage.Phase.{Phase}
use Rattle.vx_core.specs.declared.stage.Stage.{Stage}
use Rattle.vx_core.specs.History.{AllOf, AreCounted, AreOrdered, IsRecord, MayPrecede, NoCall, Pending, Reads, Writes, with_pending}
use Rattle.vx_core.specs.Kept.{IsKept}
use Rattle.vx_core.specs.Region.{Around, told}
use Rattle.vx_core.specs.Soundness.{IsSound, IsSoundUnder}
use Rattle.vx_volume.specs.Retelling.{AreRetold, EachHistoryIsRetold, IsRetold}

-- ---- the values of one block

-- each value among the first is among the second
abbrev More : Values → Values → Type 0
More old new = (v : List ℕ) → IsAmong old v → IsAmong new v

also_more : (old new : Values) (value : List ℕ) → More old new → More (or_also value old) (or_also value new)
also_more old Any value more v h = tt
also_more Any (OneOf vs) value more v h = inr (more v tt)
also_more (OneOf us) (OneOf vs) value more v (inl same) = inl same
also_more (OneOf us) (OneOf vs) value more v (inr h) = inr (more v h)

-- an entry of the same kind
same_kind : (kind : EntryKind) (b : Bool) (old new : Values) (value : List ℕ) → More old new → More (cond b (values_after kind value old) old) (cond b (values_after kind value new) new)
same_kind kind false old new value more v h = more v h
same_kind Read true old new value more v h = h
same_kind Write true old new value more v h = h
same_kind Torn true old new value more v h = also_more old new value more v h
same_kind Missed true old new value more v h = more v h

-- a write as torn
written_value : (new : Values) (value : List ℕ) → More (OneOf (value ∷ [])) (or_also value new)
written_value Any value v h = tt
written_value (OneOf vs) value v (inl same) = inl same
written_value (OneOf vs) value v (inr h) = absurd h

write_as_torn : (b : Bool) (old new : Values) (value : List ℕ) → More old new → More (cond b (OneOf (value ∷ [])) old) (cond b (or_also value new) new)
write_as_torn false old new value more v h = more v h
write_as_torn true old new value more v h = written_value new value v h

-- a read as missed
read_value : (new : Values) (value : List ℕ) → IsAmong new value → More (OneOf (value ∷ [])) new
read_value new value among v (inl same) = subst (λ w. IsAmong new w) (sym same) among
read_value new value among v (inr h) = absurd h

read_as_missed : (b : Bool) (old new : Values) (value : List ℕ) → More old new → (IsTrue b → IsAmong old value) → More (cond b (OneOf (value ∷ [])) old) (cond b new new)
read_as_missed false old new value more among v h = more v h
read_as_missed true old new value more among v h = read_value new value (more value (among refl)) v h

-- ---- the candidates

abbrev Grow : Candidates → Candidates → Type 0
Grow old new = (k : ℕ) → More (old k) (new k)

reads_more : (kind : EntryKind) (e : Entry) (old new : Candidates) → Grow old new → ReadsAmong kind old e → ReadsAmong kind new e
reads_more Read e old new grow reads = λ k here. grow k (e.values k) (reads k here)
reads_more Write e old new grow reads = tt
reads_more Torn e old new grow reads = tt
reads_more Missed e old new grow reads = tt

-- the candidates after an entry of this kind
abbrev after_kind : EntryKind → Entry → Candidates → Candidates
after_kind kind e old = candidates_after (record e { kind = kind }) old

module _ (e : Entry) (old new : Candidates) (grow : Grow old new) where
  -- the second entry does what the first did, and more
  abbrev DoesMore : Entry → Type 0
  DoesMore f = Grow (candidates_after e old) (candidates_after f new) × ReadsAmong f.kind new f

  entry_more : (f : Entry) → ReadsAmong e.kind old e → IsRetold e f → DoesMore f
  entry_more f reads (inl same) =
      subst DoesMore (sym same) ((λ k. same_kind e.kind (is_in e.start e.count k) (old k) (new k) (e.values k) (grow k)), reads_more e.kind e old new grow reads)
  entry_more f reads (inr (inl torn)) =
      subst DoesMore (sym torn.1) (
        subst (λ (kind : EntryKind). Grow (after_kind kind e old) (after_kind Torn e new)) (sym torn.0) (λ k. write_as_torn (is_in e.start e.count k) (old k) (new k) (e.values k) (grow k)),
        tt,
      )
  entry_more f reads (inr (inr missed)) =
      let among : ReadsAmong Read old e = subst (λ (kind : EntryKind). ReadsAmong kind old e) missed.0 reads in
      subst DoesMore (sym missed.1) (
        subst (λ (kind : EntryKind). Grow (after_kind kind e old) (after_kind Missed e new)) (sym missed.0) (λ k. read_as_missed (is_in e.start e.count k) (old k) (new k) (e.values k) (grow k) (among k)),
        tt,
      )

-- a legal history told so is legal, and leaves no fewer candidates
pub history_more : (first : Candidates) (es fs : List Entry) → AreRetold es fs → IsHistory first es → Grow (candidates_of first es) (candidates_of first fs) × IsHistory first fs
history_more first [] [] retold h = ((λ k v among. among), tt)
history_more first [] (f ∷ fs) retold h = absurd retold
history_more first (e ∷ es) [] retold h = absurd retold
history_more first (e ∷ es) (f ∷ fs) retold h =
    let rest = history_more first es fs retold.1 h.1 in
    let more = entry_more e (candidates_of first es) (candidates_of first fs) rest.0 f h.0 retold.0 in
    (more.0, (more.1, rest.1))

-- ---- the order

-- what does not look at kinds and values stays
retold_fact : (fact : Entry → Type 0) → ((e : Entry) (kind : EntryKind) (values : Contents) → fact e → fact (record e { kind = kind; values = values })) → (e f : Entry) → IsRetold e f → fact e → fact f
retold_fact fact blind e f (inl same) h = subst fact (sym same) h
retold_fact fact blind e f (inr (inl torn)) h = subst fact (sym torn.1) (blind e Torn e.values h)
retold_fact fact blind e f (inr (inr missed)) h = subst fact (sym missed.1) (blind e Missed f.values h)

counted_still : (region from : ℕ) (es fs : List Entry) (last : ℕ) → AreRetold es fs → AreCounted region from es last → AreCounted region from fs last
counted_still region from [] [] last retold h = h
counted_still region from [] (f ∷ fs) last retold h = absurd retold
counted_still region from (e ∷ es) [] last retold h = absurd retold
counted_still region from (e ∷ es) (f ∷ fs) last retold h = (
  retold_fact (λ (d : Entry). d.part.region ≡ region) (λ d kind values fact. fact) e f retold.0 h.0,
  retold_fact (λ (d : Entry). d.part.number ≡ last) (λ d kind values fact. fact) e f retold.0 h.1,
  h.2,
  counted_still region from es fs (last - 1) retold.1 h.3,
)

precede_still : (session place epoch : ℕ) (es fs : List Entry) → AreRetold es fs → AllOf (MayPrecede session place epoch) es → AllOf (MayPrecede session place epoch) fs
precede_still session place epoch [] [] retold h = tt
precede_still session place epoch [] (f ∷ fs) retold h = absurd retold
precede_still session place epoch (e ∷ es) [] retold h = absurd retold
precede_still session place epoch (e ∷ es) (f ∷ fs) retold h =
    (retold_fact (MayPrecede session place epoch) (λ d kind values fact. fact) e f retold.0 h.0, precede_still session place epoch es fs retold.1 h.1)

ordered_still : (es fs : List Entry) → AreRetold es fs → AreOrdered es → AreOrdered fs
ordered_still [] [] retold h = tt
ordered_still [] (f ∷ fs) retold h = absurd retold
ordered_still (e ∷ es) [] retold h = absurd retold
ordered_still (e ∷ es) (f ∷ fs) retold h = (
  retold_fact (λ (d : Entry). AllOf (MayPrecede d.session d.place d.part.epoch) fs) (λ d kind values fact. fact) e f retold.0 (precede_still e.session e.place e.part.epoch es fs retold.1 h.0),
  ordered_still es fs retold.1 h.1,
)

pub record_still : (region from : ℕ) (first : Candidates) (es fs : List Entry) (last : ℕ) → AreRetold es fs → IsRecord region from first es last → IsRecord region from first fs last
record_still region from first es fs last retold h =
    record {
      legal = (history_more first es fs retold h.legal).1;
      counted = counted_still region from es fs last retold h.counted;
      ordered = ordered_still es fs retold h.ordered;
    }

-- ---- a region

pending_retold : (call : Pending) (es fs : List Entry) → AreRetold es fs → AreRetold (with_pending call es) (with_pending call fs)
pending_retold NoCall es fs retold = retold
pending_retold (Reads call) es fs retold = (inl refl, retold)
pending_retold (Writes call values) es fs retold = (inl refl, retold)

module _ (s : Stage) (phase : Phase) (a : Around) (fs : List Entry) (retold : AreRetold a.entries fs) (kept : IsKept s phase a) where
  abbrev now : Around
  now = record a { entries = fs }

  all_retold : AreRetold (told a) (told now)
  all_retold = pending_retold a.pending a.entries fs retold

  grows : Grow (candidates_of a.fixed.first (told a)) (candidates_of a.fixed.first (told now))
  grows = (history_more a.fixed.first (told a) (told now) all_retold kept.history.legal).0

  under_still : (B : ℕ → Bool) → IsSoundUnder s phase a B → IsSoundUnder s phase now B
  under_still B h =
      record {
        readable = h.readable;
        candidates = λ k i unmarked. grows i (a.disks.blocks k i) (h.candidates k i unmarked);
        agree = h.agree;
        tracked = h.tracked;
      }

  sound_still : IsSound s phase now
  sound_still =
      record {
        shown = kept.sound.shown;
        bounded = kept.sound.bounded;
        under = λ B between. under_still B (kept.sound.under B (record { least = between.least; most = between.most }));
        marked = kept.sound.marked;
      }

  pub kept_still : IsKept s phase now
  kept_still =
      record {
        form = kept.form;
        apart = kept.apart;
        sound = sound_still;
        call = kept.call;
        contents = kept.contents;
        history = record_still a.fixed.region a.fixed.from a.fixed.first (told a) (told now) a.last all_retold kept.history;
      }

pub history_retold : EachHistoryIsRetold
history_retold r fs retold kept = kept_still r.stage r.stage.phase r.around fs retold kept
