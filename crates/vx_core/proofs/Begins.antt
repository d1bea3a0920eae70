-- A job begins in a settled region, and the marks that a write lacks are written.
use Rattle.std.proofs.Common.{◌≡◌, ℕ, ◌<◌, ◌^◌, ◌⊎◌, inl, inr, Bool, true, false, refl, sym, subst, arith, cond, List}
use Rattle.vx_core.specs.declared.stage.Job.{Job}
use Rattle.vx_core.specs.declared.stage.Stage.{Stage}
use Rattle.vx_core.specs.declared.stage.Job.TheVariants.{Write as WriteJob, Copy as CopyJob, Settle, Clear}
use Rattle.vx_core.specs.declared.stage.Act.TheVariants.{Done, Skipped, Fault, Lost}
use Rattle.vx_core.specs.declared.stage.Step.TheVariants.{Unmark as AtUnmark}
use Rattle.vx_core.specs.declared.stage.Phase.TheVariants.{Settled, Dead, Busy}
use Rattle.vx_base.specs.Blocks.{Contents}
use Rattle.vx_life.specs.Entry.{Entry}
use Rattle.vx_mask.specs.Mask.{has, only, union, without}
use Rattle.vx_mask.specs.Marks.{AllGain, MayGain}
use Rattle.vx_mask.proofs.MaskLemmas.{has-zero, has-only_same, has-lt, without-lt, union-lt, only-lt, not_empty, same_as_only}
use Rattle.vx_mask.proofs.Sets.{in_union, union_parts, union_cases, in_without, without_parts, out_without_left, out_of}
use Rattle.vx_mask.proofs.Tests.{not_both, true_or_false}
use Rattle.vx_core.specs.Table.{need, freed_by, ended, busy, write}
use Rattle.vx_core.specs.History.{Pending, NoCall, Reads, Writes}
use Rattle.vx_core.specs.Region.{Disks, Around, CallOf}
use Rattle.vx_core.specs.Soundness.{MayHold, IsUnmarked, Agree, IsMarkedForWrite}
use Rattle.vx_core.specs.Form.{IsStage, FormAt}
use Rattle.vx_core.proofs.Base.{IsBase, IsBaseOf, Lands, ends_with, holds_from_base, lands_settled_fault, lands_lost, lands_done}
use Rattle.vx_core.proofs.Effects.{with_disks, HasFree, base_after_gain, base_after_wrong_mark}
use Rattle.vx_core.proofs.Histories.{quiet_entries, quiet_told}
use Rattle.vx_core.proofs.Jobs.{mk, agree_moved, lands_write}

-- ---- the marks that a write lacks

-- the marks that a write needs
wanted : Stage → ℕ
wanted s = union (only 30) (union s.snaps s.off)

need_parts : (b : Bool) (all bits k : ℕ) → has (cond b (without all bits) 0) k ≡ true → (b ≡ true) × (has all k ≡ true) × (has bits k ≡ false)
need_parts true all bits k there = let parts = without_parts _ _ _ there in (refl, parts.0, parts.1)
need_parts false all bits k there = not_both there (has-zero k)

pub need_has : (b : Bool) (all bits k : ℕ) → b ≡ true → has all k ≡ true → has bits k ≡ false → has (cond b (without all bits) 0) k ≡ true
need_has true all bits k logged there none = in_without _ _ _ there none
need_has false all bits k logged there none = cc

need_fits : (b : Bool) (all bits : ℕ) → all < 2 ^ 64 → cond b (without all bits) 0 < 2 ^ 64
need_fits true all bits fits = without-lt all bits fits
need_fits false all bits fits = omega arith

need-lt : (s : Stage) (held : ℕ → Bool) → IsStage s held → need s < 2 ^ 64
need-lt s held stage =
    need_fits s.logged (union (only 30) (union s.snaps s.off)) s.bits
    (union-lt (only 30) (union s.snaps s.off) (only-lt 30) (union-lt s.snaps s.off stage.snaps_fit stage.off_fits))

-- a plex that is on is not among them
pub need_free : (s : Stage) (held : ℕ → Bool) → IsStage s held → (k : ℕ) → has s.on k ≡ true → has (need s) k ≡ false
need_free s held stage k on =
    elim (true_or_false (has (need s) k)) [
      | inr none ↦ none
      | inl there ↦
          let parts = need_parts s.logged (union (only 30) (union s.snaps s.off)) s.bits k there in
          elim (union_cases _ _ _ parts.1) [
            | inl dirty ↦
                let at_30 : has s.on 30 ≡ true = rw (sym (same_as_only 30 k dirty)) on in
                not_both at_30 stage.dirty_apart.0
            | inr rest ↦
                elim (union_cases _ _ _ rest) [
                  | inl snap ↦ not_both snap (stage.snaps_apart k on)
                  | inr off ↦ not_both off (stage.off_apart k on)
                ]
          ]
    ]

need_unlogged : (s : Stage) → s.logged ≡ false → (k : ℕ) → has (need s) k ≡ false
need_unlogged s plain k =
    elim (true_or_false (has (need s) k)) [
      | inr none ↦ none
      | inl there ↦ not_both (need_parts s.logged (union (only 30) (union s.snaps s.off)) s.bits k there).0 plain
    ]

-- with these marks the region is marked for a write
wanted_marked : (s : Stage) (bits : ℕ) → ((k : ℕ) → has s.bits k ≡ true → has bits k ≡ true) → ((k : ℕ) → has (need s) k ≡ true → has bits k ≡ true) →
    s.logged ≡ true → (k : ℕ) → has (union (only 30) (union s.snaps s.off)) k ≡ true → has bits k ≡ true
wanted_marked s bits more most logged k there =
    elim (true_or_false (has s.bits k)) [
      | inl bit ↦ more k bit
      | inr none ↦ most k (need_has s.logged (union (only 30) (union s.snaps s.off)) s.bits k logged there none)
    ]

below_64 : 30 < 64
below_64 = omega arith

marked_from : (s : Stage) (bits : ℕ) → (s.logged ≡ true → (k : ℕ) → has (union (only 30) (union s.snaps s.off)) k ≡ true → has bits k ≡ true) →
    IsMarkedForWrite (record s { bits = bits })
marked_from s bits all logged = (
  all logged 30 (in_union _ _ _ (inl (has-only_same 30 below_64))),
  (λ m snap. all logged m (in_union _ _ _ (inr (in_union _ _ _ (inl snap))))),
  (λ k off. all logged k (in_union _ _ _ (inr (in_union _ _ _ (inr off))))),
)

pub marked_if_none_needed : (s : Stage) → need s ≡ 0 → IsMarkedForWrite s
marked_if_none_needed s none =
    marked_from s s.bits (wanted_marked s s.bits (λ k bit. bit) (λ k there. absurd (not_empty (need s) k there none)))

pub marked_once_written : (s : Stage) → IsMarkedForWrite (record s { bits = union s.bits (need s) })
marked_once_written s =
    marked_from s (union s.bits (need s))
    (wanted_marked s (union s.bits (need s)) (λ k bit. in_union _ _ _ (inl bit)) (λ k there. in_union _ _ _ (inr there)))

-- ---- the marks of a write are written

-- fewer unmarked plexes agree too
agree_more : (a : Around) (b c : ℕ) → Agree a (has b) → Agree a (has (union b c))
agree_more a b c agree j k i at_j at_k = agree j k i (at_j.0, (union_parts _ _ _ at_j.1).0) (at_k.0, (union_parts _ _ _ at_k.1).0)

need_has_free : (s : Stage) (a : Around) → IsBase s a → HasFree s a (need s)
need_has_free s a base = let r = base.readable in (r.0, r.1, r.2, need_free s a.fixed.held base.stage r.0 r.1)

pub lands_marked : (s : Stage) (a : Around) (now : Disks) (p : Contents) → IsBase s a → Agree a (has s.bits) → CallOf WriteJob a.pending →
    now.blocks ≡ a.disks.blocks → AllGain (need s) a.disks.marks now.marks →
    Lands (write (record s { bits = union s.bits (need s) })) (with_disks a now) p
lands_marked s a now p base agree of same gain =
    lands_write (record s { bits = union s.bits (need s) }) (with_disks a now) p
    (base_after_gain s a (need s) now base same gain (need-lt s a.fixed.held base.stage) (need_has_free s a base) (need_unlogged s))
    (agree_moved a now (has (union s.bits (need s))) same (agree_more a s.bits (need s) agree))
    of (marked_once_written s)

base_unmarked : (s : Stage) (a : Around) (now : Disks) → IsBase s a → now.blocks ≡ a.disks.blocks → MayGain (need s) a.disks.marks now.marks → IsBase s (with_disks a now)
base_unmarked s a now base same wrong =
    base_after_wrong_mark s a (need s) now base same wrong (need_has_free s a base)
    (λ k there. (need_parts s.logged (union (only 30) (union s.snaps s.off)) s.bits k there).2)

pub lands_mark_failed : (s : Stage) (a : Around) (now : Disks) (p : Contents) → IsBase s a → Agree a (has s.bits) → now.blocks ≡ a.disks.blocks →
    MayGain (need s) a.disks.marks now.marks → Lands (ended s Settled Fault) (with_disks a now) p
lands_mark_failed s a now p base agree same wrong =
    lands_settled_fault s (with_disks a now) p (base_unmarked s a now base same wrong) (agree_moved a now (has s.bits) same agree)

pub lands_mark_cut : (s : Stage) (a : Around) (now : Disks) (p : Contents) → IsBase s a → Agree a (has s.bits) → now.blocks ≡ a.disks.blocks →
    MayGain (need s) a.disks.marks now.marks → Lands (ended s Dead Lost) (with_disks a now) p
lands_mark_cut s a now p base agree same wrong =
    lands_lost s (with_disks a now) p (base_unmarked s a now base same wrong) (inl (agree_moved a now (has s.bits) same agree))

-- ---- jobs without a call

pub no_call_copy : (k : ℕ) (call : Pending) → CallOf (CopyJob k) call → call ≡ NoCall
no_call_copy k NoCall of = refl
no_call_copy k (Reads call) of = absurd of
no_call_copy k (Writes call values) of = absurd of

pub no_call_settle : (call : Pending) → CallOf Settle call → call ≡ NoCall
no_call_settle NoCall of = refl
no_call_settle (Reads call) of = absurd of
no_call_settle (Writes call values) of = absurd of

pub no_call_clear : (call : Pending) → CallOf Clear call → call ≡ NoCall
no_call_clear NoCall of = refl
no_call_clear (Reads call) of = absurd of
no_call_clear (Writes call values) of = absurd of

pub base_after_quiet_done : (s : Stage) (a : Around) (p : Contents) → IsBase s a → a.pending ≡ NoCall → IsBase s (ends_with Done a p)
base_after_quiet_done s a p base e =
    subst (λ (es : List Entry). IsBaseOf s.on s.off s.snaps s.bits s.logged a.fixed a.disks es a.last) (sym (quiet_entries a.entries a.pending p e)) base

pub base_after_skipped : (s : Stage) (a : Around) (p : Contents) → IsBase s a → a.pending ≡ NoCall → IsBase s (ends_with Skipped a p)
base_after_skipped s a p base e =
    subst (λ (es : List Entry). IsBaseOf s.on s.off s.snaps s.bits s.logged a.fixed a.disks es a.last) (sym (quiet_told a.entries a.pending e)) base

pub lands_quiet_done : (s : Stage) (a : Around) (p : Contents) → IsBase s a → Agree a (has s.bits) → a.pending ≡ NoCall → Lands (ended s Settled Done) a p
lands_quiet_done s a p base agree e = lands_done s a p (base_after_quiet_done s a p base e) agree

pub lands_skipped : (s : Stage) (a : Around) (p : Contents) → IsBase s a → Agree a (has s.bits) → a.pending ≡ NoCall → Lands (ended s Settled Skipped) a p
lands_skipped s a p base agree e = holds_from_base (λ k. refl) (base_after_skipped s a p base e) (inl agree) tt refl

-- ---- a mark is taken away

freed_or_not : (s : Stage) (b n k : ℕ) (loose : Bool) → (has s.bits k ≡ true) ⊎ (loose ≡ true) → (has (without s.bits b) k ≡ true) ⊎ ((loose ≡ true) ⊎ (has b k ≡ true))
freed_or_not s b n k loose (inr h) = inr (inl h)
freed_or_not s b n k loose (inl bit) =
    elim (true_or_false (has b k)) [ inl freed ↦ inr (inr freed) | inr none ↦ inl (in_without _ _ _ bit none) ]

-- the facts that stay once `bits` has lost the mark: the mark is that of a plex which holds what the others hold, or the dirty bit
pub record IsFreed (s : Stage) (a : Around) (b : ℕ) : Type 0 where
  pub claimed : (k : ℕ) → has b k ≡ true → has s.bits k ≡ true
  pub candidates : (k i : ℕ) → IsUnmarked a (has (without s.bits b)) k → MayHold a i (a.disks.blocks k i)
  pub agree : Agree a (has (without s.bits b))
  pub tracked : (m k i : ℕ) → has s.snaps m ≡ true → has (without s.bits b) m ≡ false → IsUnmarked a (has (without s.bits b)) k → a.disks.blocks k i ≡ a.fixed.base m i

not_freed : (s : Stage) (a : Around) (b r : ℕ) → IsFreed s a b → has s.bits r ≡ false → has b r ≡ false
not_freed s a b r freed none =
    elim (true_or_false (has b r)) [ inr out ↦ out | inl there ↦ not_both (freed.claimed r there) none ]

stage_freed : (s : Stage) (held : ℕ → Bool) (b : ℕ) → IsStage s held → IsStage (record s { bits = without s.bits b }) held
stage_freed s held b h =
    record {
      on_fits = h.on_fits;
      off_fits = h.off_fits;
      snaps_fit = h.snaps_fit;
      bits_fit = without-lt s.bits b h.bits_fit;
      off_apart = h.off_apart;
      snaps_apart = h.snaps_apart;
      off_snaps = h.off_snaps;
      dirty_apart = h.dirty_apart;
      held_on = h.held_on;
      plexes = h.plexes;
      alone = h.alone;
      unlogged = λ plain k. let u = h.unlogged plain k in (u.0, u.1, out_without_left s.bits b k u.2);
    }

-- where something is marked there is a log
pub bit_logged : (s : Stage) (held : ℕ → Bool) (k : ℕ) → IsStage s held → has s.bits k ≡ true → s.logged ≡ true
bit_logged s held k stage bit =
    elim (true_or_false s.logged) [ inl logged ↦ logged | inr plain ↦ not_both bit (stage.unlogged plain k).2 ]

out_of_30 : (bits : ℕ) → has (without bits (only 30)) 30 ≡ false
out_of_30 bits = out_of bits (only 30) 30 (has-only_same 30 below_64)

-- `bits` has lost the mark of the job, and the unmark is to be written
freed_lands : (s : Stage) (job : Job) (source left good failed : ℕ) (a : Around) (p : Contents) → IsBase s a → IsFreed s a (freed_by job) → CallOf job a.pending →
    left < 2 ^ 64 → good < 2 ^ 64 → failed < 2 ^ 64 →
    FormAt (record s { bits = without s.bits (freed_by job); phase = Busy (mk job AtUnmark source left good failed) }) (mk job AtUnmark source left good failed) AtUnmark job →
    Lands (busy (record s { bits = without s.bits (freed_by job) }) (mk job AtUnmark source left good failed)) a p
freed_lands s job source left good failed a p base freed of fits fits_good fits_failed form =
    record {
      stage = stage_freed s a.fixed.held (freed_by job) base.stage;
      apart = λ k loose. out_without_left s.bits (freed_by job) k (base.apart k loose);
      ends = record {
        shown = λ n k copy bit. base.shown n k copy (without_parts _ _ _ bit).0;
        bounded = λ n k copy shows. freed_or_not s (freed_by job) n k (a.disks.marks.loose k) (base.bounded n k copy shows);
        readable =
            let r = base.readable in
            (r.0, r.1, record { bits = out_without_left s.bits (freed_by job) r.0 r.2; loose = r.3; freeing = not_freed s a (freed_by job) r.0 freed r.2 });
        candidates = freed.candidates;
        agree = inl freed.agree;
        tracked = freed.tracked;
        marked = tt;
      };
      under_way = (of, fits, fits_good, fits_failed, form, tt);
      history = base.history;
    }

pub lands_clear_begun : (s : Stage) (source left good failed : ℕ) (a : Around) (p : Contents) → s.logged ≡ true → IsBase s a → IsFreed s a (only 30) → CallOf Clear a.pending →
    left < 2 ^ 64 → good < 2 ^ 64 → failed < 2 ^ 64 →
    Lands (busy (record s { bits = without s.bits (only 30) }) (mk Clear AtUnmark source left good failed)) a p
lands_clear_begun s source left good failed a p logged base freed of fits fits_good fits_failed =
    freed_lands s Clear source left good failed a p base freed of fits fits_good fits_failed (out_of_30 s.bits, logged)

pub lands_copied : (s : Stage) (plex source left good failed : ℕ) (a : Around) (p : Contents) → s.logged ≡ true → IsBase s a → IsFreed s a (only plex) → CallOf (CopyJob plex) a.pending →
    has s.on plex ≡ true → left < 2 ^ 64 → good < 2 ^ 64 → failed < 2 ^ 64 →
    Lands (busy (record s { bits = without s.bits (only plex) }) (mk (CopyJob plex) AtUnmark source left good failed)) a p
lands_copied s plex source left good failed a p logged base freed of on fits fits_good fits_failed =
    freed_lands s (CopyJob plex) source left good failed a p base freed of fits fits_good fits_failed
    (on, out_of s.bits (only plex) plex (has-only_same plex (has-lt s.on plex base.stage.on_fits on)), logged)
