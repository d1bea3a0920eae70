-- What the answers of the devices leave of the facts that hold in every phase.
use Rattle.std.proofs.Common.{◌≡◌, ℕ, ◌<◌, ◌^◌, inl, inr, true, false, sym, ◌∙◌}
use Rattle.vx_core.specs.declared.stage.Stage.{Stage}
use Rattle.vx_base.specs.Blocks.{Contents}
use Rattle.vx_mask.specs.Mask.{has, union}
use Rattle.vx_mask.specs.Marks.{AllGain, MayGain}
use Rattle.vx_mask.proofs.MaskLemmas.{has-zero, union-lt}
use Rattle.vx_mask.proofs.Sets.{in_union, union_parts, union_cases, out_union}
use Rattle.vx_mask.proofs.Tests.{not_both, true_or_false, or_from_left, or_from_right, or_cases, or_none, and_not, and_not_parts}
use Rattle.vx_core.specs.History.{overlaid}
use Rattle.vx_core.specs.Region.{Disks, Around, SameMarks}
use Rattle.vx_core.specs.Soundness.{MayHold, IsUnmarked}
use Rattle.vx_core.proofs.Base.{IsBase}
use Rattle.vx_core.proofs.Histories.{overlaid_in}

-- the same with other disks
abbrev pub with_disks : Around → Disks → Around
with_disks a now = record { disks = now; fixed = a.fixed; entries = a.entries; pending = a.pending; last = a.last }

-- ---- marks

-- a plex that is on and clean, and outside these marks
abbrev pub HasFree : Stage → Around → ℕ → Type 0
HasFree s a b = (k : ℕ) × (has s.on k ≡ true) × (has s.bits k ≡ false) × (has b k ≡ false)

pub bit_not_loose : (s : Stage) (a : Around) → IsBase s a → (k : ℕ) → has s.bits k ≡ true → a.disks.marks.loose k ≡ false
bit_not_loose s a base k bit =
    elim (true_or_false (a.disks.marks.loose k)) [ inr none ↦ none | inl loose ↦ not_both bit (base.apart k loose) ]

pub base_after_gain : (s : Stage) (a : Around) (b : ℕ) (now : Disks) → IsBase s a → now.blocks ≡ a.disks.blocks → AllGain b a.disks.marks now.marks →
    b < 2 ^ 64 → HasFree s a b → (s.logged ≡ false → (k : ℕ) → has b k ≡ false) →
    IsBase (record s { bits = union s.bits b }) (with_disks a now)
base_after_gain s a b now base same gain fits free unlogged =
    record {
      stage = record {
        on_fits = base.stage.on_fits;
        off_fits = base.stage.off_fits;
        snaps_fit = base.stage.snaps_fit;
        bits_fit = union-lt s.bits b base.stage.bits_fit fits;
        off_apart = base.stage.off_apart;
        snaps_apart = base.stage.snaps_apart;
        off_snaps = base.stage.off_snaps;
        dirty_apart = base.stage.dirty_apart;
        held_on = base.stage.held_on;
        plexes = base.stage.plexes;
        alone = base.stage.alone;
        unlogged = λ none k. let u = base.stage.unlogged none k in (u.0, u.1, out_union _ _ _ u.2 (unlogged none k));
      };
      apart = λ k loose. not_both loose (gain.loose k);
      shown = λ n k copy bit.
          rw (gain.shows n k)
          (elim (union_cases _ _ _ bit) [
            | inl old ↦ or_from_left _ _ (and_not _ _ (base.shown n k copy old) (bit_not_loose s a base k old))
            | inr new ↦ or_from_right _ _ new
          ]);
      bounded = λ n k copy shows.
          elim (or_cases _ _ (sym (gain.shows n k) ∙ shows)) [
            | inr new ↦ inl (in_union _ _ _ (inr new))
            | inl kept ↦
                let parts = and_not_parts _ _ kept in
                elim (base.bounded n k copy parts.0) [
                  | inl bit ↦ inl (in_union _ _ _ (inl bit))
                  | inr loose ↦ not_both loose parts.1
                ]
          ];
      readable = (free.0, free.1, out_union _ _ _ free.2 free.3, gain.loose free.0);
      candidates = λ k i unmarked. rw same (base.candidates k i (unmarked.0, (union_parts _ _ _ unmarked.1).0));
      tracked = λ m k i snap out unmarked.
          rw same (base.tracked m k i snap (union_parts _ _ _ out).0 (unmarked.0, (union_parts _ _ _ unmarked.1).0));
      history = base.history;
    }

-- a mark that failed, or was cut
pub base_after_wrong_mark : (s : Stage) (a : Around) (b : ℕ) (now : Disks) → IsBase s a → now.blocks ≡ a.disks.blocks →
    MayGain b a.disks.marks now.marks →
    HasFree s a b → ((k : ℕ) → has b k ≡ true → has s.bits k ≡ false) →
    IsBase s (with_disks a now)
base_after_wrong_mark s a b now base same (inl lost) free apart =
    record {
      stage = base.stage;
      apart = λ k loose. elim (or_cases _ _ (sym (lost.loose k) ∙ loose)) [ inl old ↦ base.apart k old | inr none ↦ not_both none (has-zero k) ];
      shown = λ n k copy bit.
          elim (lost.shows n k) [ inl kept ↦ kept ∙ base.shown n k copy bit | inr gone ↦ not_both gone.0 (bit_not_loose s a base k bit) ];
      bounded = λ n k copy shows.
          elim (lost.shows n k) [
            | inl kept ↦
                elim (base.bounded n k copy (sym kept ∙ shows)) [
                  | inl bit ↦ inl bit
                  | inr loose ↦ inr (lost.loose k ∙ or_from_left _ _ loose)
                ]
            | inr gone ↦ not_both shows gone.1
          ];
      readable = let r = base.readable in (r.0, r.1, r.2, lost.loose r.0 ∙ or_none _ _ r.3 (has-zero r.0));
      candidates = λ k i unmarked. rw same (base.candidates k i unmarked);
      tracked = λ m k i snap out unmarked. rw same (base.tracked m k i snap out unmarked);
      history = base.history;
    }
base_after_wrong_mark s a b now base same (inr gained) free apart =
    record {
      stage = base.stage;
      apart = λ k loose. apart k (sym (gained.loose k) ∙ loose);
      shown = λ n k copy bit.
          elim (gained.shows n k) [
            | inl kept ↦ kept ∙ and_not _ _ (base.shown n k copy bit) (bit_not_loose s a base k bit)
            | inr new ↦ new.1
          ];
      bounded = λ n k copy shows.
          elim (gained.shows n k) [
            | inl kept ↦
                let parts = and_not_parts _ _ (sym kept ∙ shows) in
                elim (base.bounded n k copy parts.0) [
                  | inl bit ↦ inl bit
                  | inr loose ↦ not_both loose parts.1
                ]
            | inr new ↦ inr (gained.loose k ∙ new.0)
          ];
      readable = (free.0, free.1, free.2, gained.loose free.0 ∙ free.3);
      candidates = λ k i unmarked. rw same (base.candidates k i unmarked);
      tracked = λ m k i snap out unmarked. rw same (base.tracked m k i snap out unmarked);
      history = base.history;
    }

-- ---- blocks

-- blocks that the unmarked plexes may hold
pub base_after_write : (s : Stage) (a : Around) (now : Disks) → IsBase s a → SameMarks a.disks now →
    ((k i : ℕ) → IsUnmarked a (has s.bits) k → MayHold a i (now.blocks k i)) →
    ((m k i : ℕ) → has s.snaps m ≡ true → has s.bits m ≡ false → IsUnmarked a (has s.bits) k → now.blocks k i ≡ a.fixed.base m i) →
    IsBase s (with_disks a now)
base_after_write s a now base same candidates tracked =
    record {
      stage = base.stage;
      apart = rw same base.apart;
      shown = rw same base.shown;
      bounded = rw same base.bounded;
      readable = rw same base.readable;
      candidates = candidates;
      tracked = tracked;
      history = base.history;
    }

pub overlaid_may : (a : Around) (old : Contents) (i : ℕ) → MayHold a i (old i) → MayHold a i (overlaid a.pending old i)
overlaid_may a old i h = overlaid_in a.fixed.first a.entries a.pending old i h
