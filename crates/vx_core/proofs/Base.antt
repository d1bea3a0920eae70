-- What is kept, in parts: the facts that hold in every phase, and how a job ends.
use Rattle.std.proofs.Common.{◌≡◌, ℕ, ◌<◌, ◌^◌, ◌⊎◌, inl, inr, Bool, true, false, refl, List}
use Rattle.vx_core.specs.declared.stage.Act.{Act}
use Rattle.vx_core.specs.declared.stage.Phase.{Phase}
use Rattle.vx_core.specs.declared.stage.Stage.{Stage}
use Rattle.vx_core.specs.declared.stage.Act.TheVariants.{Done, Fault, Lost}
use Rattle.vx_core.specs.declared.stage.Phase.TheVariants.{Settled, Unsettled, Dead, Busy}
use Rattle.vx_base.specs.Blocks.{Contents}
use Rattle.vx_life.specs.Candidates.{IsAmong}
use Rattle.vx_life.specs.Entry.{Entry, candidates_of}
use Rattle.vx_mask.specs.Mask.{has}
use Rattle.vx_core.specs.Table.{current, ended}
use Rattle.vx_core.specs.History.{NoCall, IsRecord}
use Rattle.vx_core.specs.Region.{Disks, Fixed, Around, told, CallOf, entries_after, pending_after}
use Rattle.vx_core.specs.Soundness.{freeing, Agree, IsDirty, IsOpen, MarkedIn}
use Rattle.vx_core.specs.Form.{AreMasks, IsStage, FormAt, FormIn}
use Rattle.vx_core.specs.Kept.{ContentsAt, ContentsIn, CallIn, IsKept}
use Rattle.vx_core.proofs.Ends.{IsSoundAtEnds, sound_from_ends, ends_from_sound}

-- what a phase knows of its call, its masks and the blocks
abbrev pub InPhase : Stage → Phase → Around → Type 0
InPhase s (Busy w) a =
    CallOf w.job a.pending × (w.left < 2 ^ 64) × (w.good < 2 ^ 64) × (w.failed < 2 ^ 64) × FormAt s w w.step w.job × ContentsAt (current s) w w.step a.pending a.disks.blocks
InPhase s _ a = a.pending ≡ NoCall

-- what is kept, with soundness by its ends
pub record Holds (s : Stage) (phase : Phase) (a : Around) : Type 0 where
  pub stage : IsStage s a.fixed.held
  pub apart : (k : ℕ) → a.disks.marks.loose k ≡ true → has s.bits k ≡ false
  pub ends : IsSoundAtEnds s phase a
  pub under_way : InPhase s phase a
  pub history : IsRecord a.fixed.region a.fixed.from a.fixed.first (told a) a.last

phase_of : (s : Stage) (phase : Phase) (a : Around) → FormIn s phase → CallIn phase a.pending → ContentsIn s phase a.pending a.disks.blocks → InPhase s phase a
phase_of s Settled a form call contents = call
phase_of s Unsettled a form call contents = call
phase_of s Dead a form call contents = call
phase_of s (Busy w) a form call contents = (call, form.0, form.1, form.2, form.3, contents)

form_of : (s : Stage) (phase : Phase) (a : Around) → InPhase s phase a → FormIn s phase
form_of s Settled a h = tt
form_of s Unsettled a h = tt
form_of s Dead a h = tt
form_of s (Busy w) a h = (h.1, h.2, h.3, h.4)

call_of : (s : Stage) (phase : Phase) (a : Around) → InPhase s phase a → CallIn phase a.pending
call_of s Settled a h = h
call_of s Unsettled a h = h
call_of s Dead a h = h
call_of s (Busy w) a h = h.0

contents_of : (s : Stage) (phase : Phase) (a : Around) → InPhase s phase a → ContentsIn s phase a.pending a.disks.blocks
contents_of s Settled a h = tt
contents_of s Unsettled a h = tt
contents_of s Dead a h = tt
contents_of s (Busy w) a h = h.5

pub holds_from_kept : {s : Stage} {phase : Phase} {a : Around} → IsKept s phase a → Holds s phase a
holds_from_kept {s} {phase} {a} kept =
    record {
      stage = kept.form.stage;
      apart = kept.apart;
      ends = ends_from_sound kept.sound;
      under_way = phase_of s phase a kept.form.step kept.call kept.contents;
      history = kept.history;
    }

pub kept_from_holds : {s : Stage} {phase : Phase} {a : Around} → Holds s phase a → IsKept s phase a
kept_from_holds {s} {phase} {a} holds =
    record {
      form = record {
        stage = holds.stage;
        readable = let r = holds.ends.readable in (r.0, r.1, r.2.bits, r.2.freeing);
        step = form_of s phase a holds.under_way;
        marked = holds.ends.marked;
      };
      apart = holds.apart;
      sound = sound_from_ends holds.ends;
      call = call_of s phase a holds.under_way;
      contents = contents_of s phase a holds.under_way;
      history = holds.history;
    }

-- the facts that hold in every phase but while a mark is taken away; `entries` are with the pending call as if it ended now
pub record IsBaseOf (on off snaps bits : ℕ) (logged : Bool) (fixed : Fixed) (disks : Disks) (entries : List Entry) (last : ℕ) : Type 0 where
  pub stage : AreMasks on off snaps bits logged fixed.held
  pub apart : (k : ℕ) → disks.marks.loose k ≡ true → has bits k ≡ false
  pub shown : (n k : ℕ) → n < fixed.copies → has bits k ≡ true → disks.marks.shows n k ≡ true
  pub bounded : (n k : ℕ) → n < fixed.copies → disks.marks.shows n k ≡ true → (has bits k ≡ true) ⊎ (disks.marks.loose k ≡ true)
  pub readable : (k : ℕ) × (has on k ≡ true) × (has bits k ≡ false) × (disks.marks.loose k ≡ false)
  pub candidates : (k i : ℕ) → (fixed.held k ≡ true) × (has bits k ≡ false) → IsAmong (candidates_of fixed.first entries i) (disks.blocks k i)
  pub tracked : (m k i : ℕ) → has snaps m ≡ true → has bits m ≡ false → (fixed.held k ≡ true) × (has bits k ≡ false) → disks.blocks k i ≡ fixed.base m i
  pub history : IsRecord fixed.region fixed.from fixed.first entries last

abbrev pub IsBase : Stage → Around → Type 0
IsBase s a = IsBaseOf s.on s.off s.snaps s.bits s.logged a.fixed a.disks (told a) a.last

abbrev pub MayAgree : Stage → Phase → Around → Type 0
MayAgree s phase a = Agree a (has s.bits) ⊎ (IsOpen phase × IsDirty s a.fixed.held (has s.bits))

-- the unmarked plexes agree, or the region is dirty
abbrev pub MayDiffer : Stage → Around → Type 0
MayDiffer s a = Agree a (has s.bits) ⊎ IsDirty s a.fixed.held (has s.bits)

abbrev pub FreesNothing : Phase → Type 0
FreesNothing phase = (k : ℕ) → freeing phase k ≡ false

bits_or_loose : {x y z : Bool} → z ≡ false → (x ≡ true) ⊎ ((y ≡ true) ⊎ (z ≡ true)) → (x ≡ true) ⊎ (y ≡ true)
bits_or_loose none (inl x) = inl x
bits_or_loose none (inr (inl y)) = inr y
bits_or_loose none (inr (inr z)) = cc

pub base_of : {s : Stage} {phase : Phase} {a : Around} → FreesNothing phase → Holds s phase a → IsBase s a
base_of nothing holds =
    record {
      stage = holds.stage;
      apart = holds.apart;
      shown = holds.ends.shown;
      bounded = λ n k copy shows. bits_or_loose (nothing k) (holds.ends.bounded n k copy shows);
      readable = let r = holds.ends.readable in (r.0, r.1, r.2.bits, r.2.loose);
      candidates = holds.ends.candidates;
      tracked = holds.ends.tracked;
      history = holds.history;
    }

bits_or_loose_or : {x y z : Bool} → (x ≡ true) ⊎ (y ≡ true) → (x ≡ true) ⊎ ((y ≡ true) ⊎ (z ≡ true))
bits_or_loose_or (inl x) = inl x
bits_or_loose_or (inr y) = inr (inl y)

pub holds_from_base : {s : Stage} {phase : Phase} {a : Around} → FreesNothing phase → IsBase s a → MayAgree s phase a → MarkedIn s phase → InPhase s phase a → Holds s phase a
holds_from_base nothing base agree marked under_way =
    record {
      stage = base.stage;
      apart = base.apart;
      ends = record {
        shown = base.shown;
        bounded = λ n k copy shows. bits_or_loose_or (base.bounded n k copy shows);
        readable = let r = base.readable in (r.0, r.1, record { bits = r.2; loose = r.3; freeing = nothing r.0 });
        candidates = base.candidates;
        agree = agree;
        tracked = base.tracked;
        marked = marked;
      };
      under_way = under_way;
      history = base.history;
    }

-- ---- how a call ends

-- the state once this act has ended the call, where it does
abbrev pub ends_with : Act → Around → Contents → Around
ends_with act a p =
    record { disks = a.disks; fixed = a.fixed; entries = entries_after act a.pending p a.entries; pending = pending_after act a.pending; last = a.last }

-- what stands once a step has led to this stage and act
abbrev pub Lands : Stage × Act → Around → Contents → Type 0
Lands x a p = Holds x.0 x.0.phase (ends_with x.1 a p)

pub lands_settled_fault : (s : Stage) (a : Around) (p : Contents) → IsBase s a → Agree a (has s.bits) → Lands (ended s Settled Fault) a p
lands_settled_fault s a p base agree = holds_from_base (λ k. refl) base (inl agree) tt refl

open_agree : (s : Stage) (phase : Phase) (a : Around) → IsOpen phase → MayDiffer s a → MayAgree s phase a
open_agree s phase a is_open (inl agree) = inl agree
open_agree s phase a is_open (inr dirty) = inr (is_open, dirty)

pub lands_unsettled_fault : (s : Stage) (a : Around) (p : Contents) → IsBase s a → MayDiffer s a → Lands (ended s Unsettled Fault) a p
lands_unsettled_fault s a p base may = holds_from_base (λ k. refl) base (open_agree s Unsettled a tt may) tt refl

pub lands_lost : (s : Stage) (a : Around) (p : Contents) → IsBase s a → MayDiffer s a → Lands (ended s Dead Lost) a p
lands_lost s a p base may = holds_from_base (λ k. refl) base (open_agree s Dead a tt may) tt refl

-- an act that ends a job without a call
pub lands_done : (s : Stage) (a : Around) (p : Contents) → IsBase s (ends_with Done a p) → Agree a (has s.bits) → Lands (ended s Settled Done) a p
lands_done s a p base agree = holds_from_base (λ k. refl) base (inl agree) tt refl
