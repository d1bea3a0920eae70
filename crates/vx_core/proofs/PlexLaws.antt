-- What is done to the plexes of a region between jobs keeps what is kept.
use Rattle.std.proofs.Common.{◌≡◌, ◌≢◌, ℕ, ◌<◌, ◌⊎◌, inl, inr, Bool, true, false, refl, sym, ◌∙◌, ap, subst}
use Rattle.std.specs.Prelude.{◌&&◌, ◌||◌, not}
use Rattle.vx_core.specs.declared.stage.Phase.{Phase}
use Rattle.vx_core.specs.declared.stage.Stage.{Stage}
use Rattle.vx_core.specs.declared.stage.Phase.TheVariants.{Settled}
use Rattle.vx_base.specs.Blocks.{Contents}
use Rattle.vx_mask.specs.Mask.{has, only, union}
use Rattle.vx_mask.proofs.MaskLemmas.{has-only_other, has-lt, without-lt, union-lt, only-lt, same_as_only}
use Rattle.vx_mask.proofs.Sets.{in_union, union_cases, out_union, in_without, without_parts, out_without_left, out_of}
use Rattle.vx_mask.proofs.Tests.{not_both, true_or_false, or_from_left, or_cases, and_not, and_not_parts}
use Rattle.vx_core.specs.Region.{Around}
use Rattle.vx_core.specs.Soundness.{IsUnmarked, Agree, IsData}
use Rattle.vx_core.specs.Form.{IsStage}
use Rattle.vx_core.specs.Kept.{IsKept}
use Rattle.vx_core.specs.Plexes.{set_on, set_off, take_out, put_in, taken_from, put_into, IsNew, SetOnKeeps, SetOffKeeps, TakeKeeps, PutKeeps}
use Rattle.vx_core.specs.Schedule.{IsIdle}
use Rattle.vx_core.proofs.Base.{holds_from_kept}
use Rattle.vx_core.proofs.Ends.{sound_from_ends, ends_from_sound}
use Rattle.vx_core.proofs.RecoveryLaws.{idle_marked}
use Rattle.vx_core.proofs.ScheduleLaws.{idle_form, idle_contents}

-- ---- a plex goes on

-- a plex that is data
pub data_moves : (s : Stage) (plex k : ℕ) → plex < 64 → IsData s k → IsData (set_on s plex) k
data_moves s plex k low (inl on) = inl (in_union _ _ _ (inl on))
data_moves s plex k low (inr off) =
    elim (true_or_false (has (only plex) k)) [
      | inl here ↦ inl (in_union _ _ _ (inr here))
      | inr other ↦ inr (in_without _ _ _ off other)
    ]

-- a data plex is in no other mask
data_snaps : (s : Stage) (held : ℕ → Bool) (k : ℕ) → IsStage s held → IsData s k → has s.snaps k ≡ false
data_snaps s held k stage (inl on) = stage.snaps_apart k on
data_snaps s held k stage (inr off) = stage.off_snaps k off

data_30 : (s : Stage) (held : ℕ → Bool) → IsStage s held → IsData s 30 → ⊥
data_30 s held stage (inl on) = not_both on stage.dirty_apart.0
data_30 s held stage (inr off) = not_both off stage.dirty_apart.1

data_low : (s : Stage) (held : ℕ → Bool) (k : ℕ) → IsStage s held → IsData s k → k < 64
data_low s held k stage (inl on) = has-lt s.on k stage.on_fits on
data_low s held k stage (inr off) = has-lt s.off k stage.off_fits off

out_union_30 : (s : Stage) (held : ℕ → Bool) (plex : ℕ) → IsStage s held → IsData s plex → has (union s.on (only plex)) 30 ≡ false
out_union_30 s held plex stage is_data =
    elim (true_or_false (has (only plex) 30)) [
      | inr other ↦ out_union _ _ _ stage.dirty_apart.0 other
      | inl here ↦ absurd (data_30 s held stage (subst (λ (k : ℕ). IsData s k) (sym (same_as_only plex 30 here)) is_data))
    ]

-- without a log the plex is the one that is on
only_one : (s : Stage) (held : ℕ → Bool) (plex k : ℕ) → IsStage s held → s.logged ≡ false → IsData s plex → has (union s.on (only plex)) k ≡ true → has s.on k ≡ true
only_one s held plex k h plain (inl on) there =
    elim (union_cases _ _ _ there) [ inl was ↦ was | inr here ↦ rw (same_as_only plex k here) on ]
only_one s held plex k h plain (inr off) there = not_both off (h.unlogged plain plex).0

pub stage_on : (s : Stage) (held : ℕ → Bool) (plex : ℕ) → IsStage s held → held plex ≡ true → IsStage (set_on s plex) held
stage_on s held plex h is_held =
    let is_data = h.plexes plex is_held in
    let low = data_low s held plex h is_data in
    record {
      on_fits = union-lt s.on (only plex) h.on_fits (only-lt plex);
      off_fits = without-lt s.off (only plex) h.off_fits;
      snaps_fit = h.snaps_fit;
      bits_fit = h.bits_fit;
      off_apart = λ k on.
          elim (union_cases _ _ _ on) [
            | inl was ↦ out_without_left s.off (only plex) k (h.off_apart k was)
            | inr here ↦ out_of s.off (only plex) k here
          ];
      snaps_apart = λ k on.
          elim (union_cases _ _ _ on) [
            | inl was ↦ h.snaps_apart k was
            | inr here ↦ data_snaps s held k h (subst (λ (m : ℕ). IsData s m) (sym (same_as_only plex k here)) is_data)
          ];
      off_snaps = λ k off. h.off_snaps k (without_parts _ _ _ off).0;
      dirty_apart = (out_union_30 s held plex h is_data, out_without_left s.off (only plex) 30 h.dirty_apart.1, h.dirty_apart.2);
      held_on = λ k on.
          elim (union_cases _ _ _ on) [
            | inl was ↦ h.held_on k was
            | inr here ↦ rw (same_as_only plex k here) is_held
          ];
      plexes = λ k there. data_moves s plex k low (h.plexes k there);
      alone = λ plain j k on_j on_k. h.alone plain j k (only_one s held plex j h plain is_data on_j) (only_one s held plex k h plain is_data on_k);
      unlogged = λ plain k. let u = h.unlogged plain k in (out_without_left s.off (only plex) k u.0, u.1, u.2);
    }

pub set_on_keeps : SetOnKeeps
set_on_keeps s phase a plex idle is_held kept =
    let h = holds_from_kept kept in
    let low = data_low s a.fixed.held plex h.stage (h.stage.plexes plex is_held) in
    record {
      form = record {
        stage = stage_on s a.fixed.held plex h.stage is_held;
        readable = let r = kept.form.readable in (r.0, in_union _ _ _ (inl r.1), r.2, r.3);
        step = idle_form (set_on s plex) phase idle;
        marked = idle_marked (set_on s plex) phase idle;
      };
      apart = h.apart;
      sound = sound_from_ends (record {
        shown = h.ends.shown;
        bounded = h.ends.bounded;
        readable = let r = h.ends.readable in (r.0, in_union _ _ _ (inl r.1), record { bits = r.2.bits; loose = r.2.loose; freeing = r.2.freeing });
        candidates = h.ends.candidates;
        agree =
            elim h.ends.agree [
              | inl agree ↦ inl agree
              | inr may ↦
                  inr (
                    may.0,
                    record {
                      two = let t = may.1.two in (t.0, t.1, t.2, data_moves s plex t.0 low t.3, data_moves s plex t.1 low t.4);
                      dirty = may.1.dirty;
                      off = λ k off is_held_k. may.1.off k (without_parts _ _ _ off).0 is_held_k;
                    },
                  )
            ];
        tracked = h.ends.tracked;
        marked = idle_marked (set_on s plex) phase idle;
      });
      call = kept.call;
      contents = idle_contents (set_on s plex) phase a.pending a.disks.blocks idle;
      history = kept.history;
    }

-- ---- a plex goes off

data_moves_off : (s : Stage) (plex k : ℕ) → IsData s k → IsData (set_off s plex) k
data_moves_off s plex k (inr off) = inr (in_union _ _ _ (inl off))
data_moves_off s plex k (inl on) =
    elim (true_or_false (has (only plex) k)) [
      | inl here ↦ inr (in_union _ _ _ (inr here))
      | inr other ↦ inl (in_without _ _ _ on other)
    ]

-- another plex that is on shows that there is a log
logged_by : {A : Type 0} (s : Stage) (held : ℕ → Bool) (plex j : ℕ) → IsStage s held → IsData s plex → has s.on j ≡ true → j ≢ plex → s.logged ≡ false → A
logged_by s held plex j h (inl on) on_j apart plain = absurd (apart (h.alone plain j plex on_j on))
logged_by s held plex j h (inr off) on_j apart plain = not_both off (h.unlogged plain plex).0

off_30 : (s : Stage) (held : ℕ → Bool) (plex : ℕ) → IsStage s held → IsData s plex → has (union s.off (only plex)) 30 ≡ false
off_30 s held plex stage is_data =
    elim (true_or_false (has (only plex) 30)) [
      | inr other ↦ out_union _ _ _ stage.dirty_apart.1 other
      | inl here ↦ absurd (data_30 s held stage (subst (λ (k : ℕ). IsData s k) (sym (same_as_only plex 30 here)) is_data))
    ]

pub stage_off : (s : Stage) (held : ℕ → Bool) (plex j : ℕ) → IsStage s held → IsData s plex → has s.on j ≡ true → j ≢ plex → IsStage (set_off s plex) held
stage_off s held plex j h is_data on_j apart =
    record {
      on_fits = without-lt s.on (only plex) h.on_fits;
      off_fits = union-lt s.off (only plex) h.off_fits (only-lt plex);
      snaps_fit = h.snaps_fit;
      bits_fit = h.bits_fit;
      off_apart = λ k on. let parts = without_parts _ _ _ on in out_union _ _ _ (h.off_apart k parts.0) parts.1;
      snaps_apart = λ k on. h.snaps_apart k (without_parts _ _ _ on).0;
      off_snaps = λ k off.
          elim (union_cases _ _ _ off) [
            | inl was ↦ h.off_snaps k was
            | inr here ↦ data_snaps s held k h (subst (λ (m : ℕ). IsData s m) (sym (same_as_only plex k here)) is_data)
          ];
      dirty_apart = (out_without_left s.on (only plex) 30 h.dirty_apart.0, off_30 s held plex h is_data, h.dirty_apart.2);
      held_on = λ k on. h.held_on k (without_parts _ _ _ on).0;
      plexes = λ k there. data_moves_off s plex k (h.plexes k there);
      alone = λ plain x y on_x on_y. logged_by s held plex j h is_data on_j apart plain;
      unlogged = λ plain k. logged_by s held plex j h is_data on_j apart plain;
    }

settled_agree : (s : Stage) (a : Around) → IsKept s Settled a → Agree a (has s.bits)
settled_agree s a kept = elim (ends_from_sound kept.sound).agree [ inl agree ↦ agree | inr may ↦ absurd may.0 ]

pub set_off_keeps : SetOffKeeps
set_off_keeps s a plex is_data spare kept =
    let h = holds_from_kept kept in
    let j = spare.other.0 in
    let on_j = in_without _ _ _ spare.other.1 (has-only_other plex j spare.other.3) in
    record {
      form = record { stage = stage_off s a.fixed.held plex j h.stage is_data spare.other.1 spare.other.3; readable = (j, on_j, spare.other.2, refl); step = tt; marked = tt };
      apart = h.apart;
      sound = sound_from_ends (record {
        shown = h.ends.shown;
        bounded = h.ends.bounded;
        readable = (j, on_j, record { bits = spare.other.2; loose = spare.tight j; freeing = refl });
        candidates = h.ends.candidates;
        agree = inl (settled_agree s a kept);
        tracked = h.ends.tracked;
        marked = tt;
      });
      call = kept.call;
      contents = tt;
      history = kept.history;
    }

-- ---- a plex is taken out

stage_taken : (s : Stage) (held : ℕ → Bool) (plex : ℕ) → IsStage s held → IsStage (take_out s plex) (λ k. held k && not (has (only plex) k))
stage_taken s held plex h =
    record {
      on_fits = without-lt s.on (only plex) h.on_fits;
      off_fits = without-lt s.off (only plex) h.off_fits;
      snaps_fit = h.snaps_fit;
      bits_fit = h.bits_fit;
      off_apart = λ k on. out_without_left s.off (only plex) k (h.off_apart k (without_parts _ _ _ on).0);
      snaps_apart = λ k on. h.snaps_apart k (without_parts _ _ _ on).0;
      off_snaps = λ k off. h.off_snaps k (without_parts _ _ _ off).0;
      dirty_apart = (out_without_left s.on (only plex) 30 h.dirty_apart.0, out_without_left s.off (only plex) 30 h.dirty_apart.1, h.dirty_apart.2);
      held_on = λ k on. let parts = without_parts _ _ _ on in and_not _ _ (h.held_on k parts.0) parts.1;
      plexes = λ k there.
          let parts = and_not_parts _ _ there in
          elim (h.plexes k parts.0) [ inl on ↦ inl (in_without _ _ _ on parts.1) | inr off ↦ inr (in_without _ _ _ off parts.1) ];
      alone = λ plain j k on_j on_k. h.alone plain j k (without_parts _ _ _ on_j).0 (without_parts _ _ _ on_k).0;
      unlogged = λ plain k. let u = h.unlogged plain k in (out_without_left s.off (only plex) k u.0, u.1, u.2);
    }

-- a plex that is unmarked afterwards was so before
taken_unmarked : (a : Around) (plex : ℕ) (B : ℕ → Bool) (k : ℕ) → IsUnmarked (taken_from a plex) B k → IsUnmarked a B k
taken_unmarked a plex B k unmarked = ((and_not_parts _ _ unmarked.0).0, unmarked.1)

pub take_keeps : TakeKeeps
take_keeps s a plex spare kept =
    let h = holds_from_kept kept in
    let j = spare.other.0 in
    let on_j = in_without _ _ _ spare.other.1 (has-only_other plex j spare.other.3) in
    record {
      form = record { stage = stage_taken s a.fixed.held plex h.stage; readable = (j, on_j, spare.other.2, refl); step = tt; marked = tt };
      apart = h.apart;
      sound = sound_from_ends (record {
        shown = h.ends.shown;
        bounded = h.ends.bounded;
        readable = (j, on_j, record { bits = spare.other.2; loose = spare.tight j; freeing = refl });
        candidates = λ k i unmarked. h.ends.candidates k i (taken_unmarked a plex (has s.bits) k unmarked);
        agree = inl (λ k l i at_k at_l. settled_agree s a kept k l i (taken_unmarked a plex (has s.bits) k at_k) (taken_unmarked a plex (has s.bits) l at_l));
        tracked = λ m k i snap out unmarked. h.ends.tracked m k i snap out (taken_unmarked a plex (has s.bits) k unmarked);
        marked = tt;
      });
      call = kept.call;
      contents = tt;
      history = kept.history;
    }

-- ---- a plex is put in

put_30 : (s : Stage) (plex : ℕ) → has s.off 30 ≡ false → plex ≢ 30 → has (union s.off (only plex)) 30 ≡ false
put_30 s plex none apart = out_union _ _ _ none (has-only_other plex 30 (λ e. apart (sym e)))

stage_put : (s : Stage) (held : ℕ → Bool) (plex : ℕ) → IsStage s held → s.logged ≡ true → held plex ≡ false → has s.snaps plex ≡ false → plex ≢ 30 →
    IsStage (put_in s plex) (λ k. held k || has (only plex) k)
stage_put s held plex h logged absent no_snap not_30 =
    record {
      on_fits = h.on_fits;
      off_fits = union-lt s.off (only plex) h.off_fits (only-lt plex);
      snaps_fit = h.snaps_fit;
      bits_fit = h.bits_fit;
      off_apart = λ k on.
          elim (true_or_false (has (only plex) k)) [
            | inr other ↦ out_union _ _ _ (h.off_apart k on) other
            | inl here ↦ not_both (subst (λ (m : ℕ). held m ≡ true) (same_as_only plex k here) (h.held_on k on)) absent
          ];
      snaps_apart = h.snaps_apart;
      off_snaps = λ k off.
          elim (union_cases _ _ _ off) [
            | inl was ↦ h.off_snaps k was
            | inr here ↦ rw (same_as_only plex k here) no_snap
          ];
      dirty_apart = (h.dirty_apart.0, put_30 s plex h.dirty_apart.1 not_30, h.dirty_apart.2);
      held_on = λ k on. or_from_left _ _ (h.held_on k on);
      plexes = λ k there.
          elim (or_cases _ _ there) [
            | inl was ↦ elim (h.plexes k was) [ inl on ↦ inl on | inr off ↦ inr (in_union _ _ _ (inl off)) ]
            | inr here ↦ inr (in_union _ _ _ (inr here))
          ];
      alone = λ plain. not_both logged plain;
      unlogged = λ plain. not_both logged plain;
    }

-- a plex that is unmarked afterwards was so before, and is another one
was_unmarked : (s : Stage) (a : Around) (plex k : ℕ) → has s.bits plex ≡ true → ((a.fixed.held k || has (only plex) k) ≡ true) × (has s.bits k ≡ false) →
    (a.fixed.held k ≡ true) × (has s.bits k ≡ false) × (k ≢ plex)
was_unmarked s a plex k bit unmarked =
    let apart : k ≢ plex = λ e. (let moved : has s.bits k ≡ true = rw e bit in not_both moved unmarked.1) in
    elim (or_cases _ _ unmarked.0) [
      | inl was ↦ (was, unmarked.1, apart)
      | inr here ↦ absurd (apart (same_as_only plex k here))
    ]

data_put : (s : Stage) (plex k : ℕ) → IsData s k → IsData (put_in s plex) k
data_put s plex k (inl on) = inl on
data_put s plex k (inr off) = inr (in_union _ _ _ (inl off))

put_marked : (s : Stage) (phase : Phase) (a : Around) (plex : ℕ) (blocks : ℕ → Contents) → IsIdle phase → IsNew s a plex blocks → has s.bits plex ≡ true →
    IsKept s phase a → IsKept (put_in s plex) phase (put_into a plex blocks)
put_marked s phase a plex blocks idle new bit kept =
    let h = holds_from_kept kept in
    record {
      form = record {
        stage = stage_put s a.fixed.held plex h.stage new.logged new.absent new.no_snap new.not_dirty;
        readable = kept.form.readable;
        step = idle_form (put_in s plex) phase idle;
        marked = idle_marked (put_in s plex) phase idle;
      };
      apart = h.apart;
      sound = sound_from_ends (record {
        shown = h.ends.shown;
        bounded = h.ends.bounded;
        readable = let r = h.ends.readable in (r.0, r.1, record { bits = r.2.bits; loose = r.2.loose; freeing = r.2.freeing });
        candidates = λ k i unmarked.
            let was = was_unmarked s a plex k bit unmarked in
            rw (new.others k i was.2) (h.ends.candidates k i (was.0, was.1));
        agree =
            elim h.ends.agree [
              | inl agree ↦
                  inl (λ j k i at_j at_k.
                  let was_j = was_unmarked s a plex j bit at_j in
                  let was_k = was_unmarked s a plex k bit at_k in
                  new.others j i was_j.2 ∙ agree j k i (was_j.0, was_j.1) (was_k.0, was_k.1) ∙ sym (new.others k i was_k.2))
              | inr may ↦
                  inr (
                    may.0,
                    record {
                      two = let t = may.1.two in (t.0, t.1, t.2, data_put s plex t.0 t.3, data_put s plex t.1 t.4);
                      dirty = may.1.dirty;
                      off = λ k off is_held.
                          elim (true_or_false (has (only plex) k)) [
                            | inl here ↦ rw (same_as_only plex k here) bit
                            | inr other ↦
                                may.1.off k
                                (elim (union_cases _ _ _ off) [ inl was ↦ was | inr here ↦ not_both here other ])
                                (elim (or_cases _ _ is_held) [ inl was ↦ was | inr here ↦ not_both here other ])
                          ];
                    },
                  )
            ];
        tracked = λ m k i snap out unmarked.
            let was = was_unmarked s a plex k bit unmarked in
            new.others k i was.2 ∙ h.ends.tracked m k i snap out (was.0, was.1);
        marked = idle_marked (put_in s plex) phase idle;
      });
      call = kept.call;
      contents = idle_contents (put_in s plex) phase a.pending blocks idle;
      history = kept.history;
    }

-- a plex that is unmarked afterwards is the new one, or was so before
new_or_old : (s : Stage) (a : Around) (plex k : ℕ) (blocks : ℕ → Contents) → a.fixed.held plex ≡ false → IsUnmarked (put_into a plex blocks) (has s.bits) k →
    (k ≡ plex) ⊎ (IsUnmarked a (has s.bits) k × (k ≢ plex))
new_or_old s a plex k blocks absent unmarked =
    elim (or_cases _ _ unmarked.0) [
      | inl was ↦ inr ((was, unmarked.1), (λ e. not_both was (subst (λ (n : ℕ). a.fixed.held n ≡ false) (sym e) absent)))
      | inr here ↦ inl (same_as_only plex k here)
    ]

put_like : (s : Stage) (a : Around) (plex j : ℕ) (blocks : ℕ → Contents) → IsNew s a plex blocks → IsUnmarked a (has s.bits) j → ((i : ℕ) → blocks plex i ≡ a.disks.blocks j i) →
    IsKept s Settled a → IsKept (put_in s plex) Settled (put_into a plex blocks)
put_like s a plex j blocks new at_j same kept =
    let h = holds_from_kept kept in
    let like : (k i : ℕ) → IsUnmarked (put_into a plex blocks) (has s.bits) k → blocks k i ≡ a.disks.blocks j i =
    λ k i unmarked.
    elim (new_or_old s a plex k blocks new.absent unmarked) [
      | inl here ↦ ap (λ x. blocks x i) here ∙ same i
      | inr was ↦ new.others k i was.1 ∙ settled_agree s a kept k j i was.0 at_j
    ] in
    record {
      form = record {
        stage = stage_put s a.fixed.held plex h.stage new.logged new.absent new.no_snap new.not_dirty;
        readable = kept.form.readable;
        step = tt;
        marked = tt;
      };
      apart = h.apart;
      sound = sound_from_ends (record {
        shown = h.ends.shown;
        bounded = h.ends.bounded;
        readable = let r = h.ends.readable in (r.0, r.1, record { bits = r.2.bits; loose = r.2.loose; freeing = r.2.freeing });
        candidates = λ k i unmarked. rw (like k i unmarked) (h.ends.candidates j i at_j);
        agree = inl (λ k l i at_k at_l. like k i at_k ∙ sym (like l i at_l));
        tracked = λ m k i snap out unmarked. like k i unmarked ∙ h.ends.tracked m j i snap out at_j;
        marked = tt;
      });
      call = kept.call;
      contents = tt;
      history = kept.history;
    }

pub put_keeps : PutKeeps
put_keeps s phase a plex blocks idle new (inl bit) kept = put_marked s phase a plex blocks idle new bit kept
put_keeps s phase a plex blocks idle new (inr like) kept =
    subst (λ (p : Phase). IsKept (put_in s plex) p (put_into a plex blocks)) (sym like.0)
    (put_like s a plex like.1 blocks new like.2 like.3 (subst (λ (p : Phase). IsKept s p a) like.0 kept))
