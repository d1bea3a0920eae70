-- A write call on its way: which plexes it has reached, and why the region stays sound at each of its steps.
use Rattle.std.proofs.Common.{◌≡◌, ◌≢◌, ℕ, ◌<◌, ◌^◌, ◌⊎◌, inl, inr, Bool, true, false, refl, sym, ◌∙◌, ap}
use Rattle.std.specs.Prelude.{◌&&◌, ◌||◌, not, ◌==◌}
use Rattle.vx_core.specs.declared.stage.Stage.{Stage}
use Rattle.vx_core.specs.declared.stage.Job.TheVariants.{Write as WriteJob}
use Rattle.vx_core.specs.declared.stage.Act.TheVariants.{Done}
use Rattle.vx_base.specs.Blocks.{Contents}
use Rattle.vx_mask.specs.Mask.{has, only, union, without, above_lowest}
use Rattle.vx_mask.proofs.MaskLemmas.{has-zero, has-union, has-without, without-lt, not_empty, one, two, same_as_only, apart_from_only, empty_from_test, some_from_test}
use Rattle.vx_mask.proofs.Sets.{union_cases, in_without, without_parts, same_or_not}
use Rattle.vx_mask.proofs.Tests.{not_both, true_or_false}
use Rattle.vx_core.specs.Table.{current}
use Rattle.vx_core.specs.History.{overlaid}
use Rattle.vx_core.specs.Region.{Disks, Around, Gets, MayGet, SameMarks, CallOf}
use Rattle.vx_core.specs.Soundness.{IsUnmarked, Agree, IsDirty, IsMarkedForWrite}
use Rattle.vx_core.specs.Form.{IsStage, IsParted}
use Rattle.vx_core.proofs.Base.{IsBase, ends_with}
use Rattle.vx_core.proofs.Effects.{with_disks, base_after_write, overlaid_may}
use Rattle.vx_core.proofs.Facts.{IsWriting}
use Rattle.vx_core.proofs.Histories.{done_candidate, done_write_record, overlaid_same}

-- ---- the parts, when the lowest plex of those left moves

moved_good : (l g f o : Bool) → (o ≡ true → l ≡ true) → (l || (g || f)) ≡ ((l && not o) || ((g || o) || f))
moved_good true true true true h0 = refl
moved_good true true true false h0 = refl
moved_good true true false true h0 = refl
moved_good true true false false h0 = refl
moved_good true false true true h0 = refl
moved_good true false true false h0 = refl
moved_good true false false true h0 = refl
moved_good true false false false h0 = refl
moved_good false true true true h0 = let e = h0 refl in cc
moved_good false true true false h0 = refl
moved_good false true false true h0 = let e = h0 refl in cc
moved_good false true false false h0 = refl
moved_good false false true true h0 = let e = h0 refl in cc
moved_good false false true false h0 = refl
moved_good false false false true h0 = let e = h0 refl in cc
moved_good false false false false h0 = refl

moved_failed : (l g f o : Bool) → (o ≡ true → l ≡ true) → (l || (g || f)) ≡ ((l && not o) || (g || (f || o)))
moved_failed true true true true h0 = refl
moved_failed true true true false h0 = refl
moved_failed true true false true h0 = refl
moved_failed true true false false h0 = refl
moved_failed true false true true h0 = refl
moved_failed true false true false h0 = refl
moved_failed true false false true h0 = refl
moved_failed true false false false h0 = refl
moved_failed false true true true h0 = let e = h0 refl in cc
moved_failed false true true false h0 = refl
moved_failed false true false true h0 = let e = h0 refl in cc
moved_failed false true false false h0 = refl
moved_failed false false true true h0 = let e = h0 refl in cc
moved_failed false false true false h0 = refl
moved_failed false false false true h0 = let e = h0 refl in cc
moved_failed false false false false h0 = refl

left_apart_more : (l g o : Bool) → (l && g) ≡ false → ((l && not o) && (g || o)) ≡ false
left_apart_more true true true h0 = cc
left_apart_more true true false h0 = cc
left_apart_more true false true h0 = refl
left_apart_more true false false h0 = refl
left_apart_more false true true h0 = refl
left_apart_more false true false h0 = refl
left_apart_more false false true h0 = refl
left_apart_more false false false h0 = refl

left_apart_same : (l f o : Bool) → (l && f) ≡ false → ((l && not o) && f) ≡ false
left_apart_same true true true h0 = cc
left_apart_same true true false h0 = cc
left_apart_same true false true h0 = refl
left_apart_same true false false h0 = refl
left_apart_same false true true h0 = refl
left_apart_same false true false h0 = refl
left_apart_same false false true h0 = refl
left_apart_same false false false h0 = refl

good_apart : (l g f o : Bool) → (o ≡ true → l ≡ true) → (l && f) ≡ false → (g && f) ≡ false → ((g || o) && f) ≡ false
good_apart true true true true h0 h1 h2 = cc
good_apart true true true false h0 h1 h2 = cc
good_apart true true false true h0 h1 h2 = refl
good_apart true true false false h0 h1 h2 = refl
good_apart true false true true h0 h1 h2 = cc
good_apart true false true false h0 h1 h2 = cc
good_apart true false false true h0 h1 h2 = refl
good_apart true false false false h0 h1 h2 = refl
good_apart false true true true h0 h1 h2 = let e = h0 refl in cc
good_apart false true true false h0 h1 h2 = cc
good_apart false true false true h0 h1 h2 = let e = h0 refl in cc
good_apart false true false false h0 h1 h2 = refl
good_apart false false true true h0 h1 h2 = let e = h0 refl in cc
good_apart false false true false h0 h1 h2 = refl
good_apart false false false true h0 h1 h2 = let e = h0 refl in cc
good_apart false false false false h0 h1 h2 = refl

failed_apart : (l g f o : Bool) → (o ≡ true → l ≡ true) → (l && g) ≡ false → (g && f) ≡ false → (g && (f || o)) ≡ false
failed_apart true true true true h0 h1 h2 = cc
failed_apart true true true false h0 h1 h2 = cc
failed_apart true true false true h0 h1 h2 = cc
failed_apart true true false false h0 h1 h2 = cc
failed_apart true false true true h0 h1 h2 = refl
failed_apart true false true false h0 h1 h2 = refl
failed_apart true false false true h0 h1 h2 = refl
failed_apart true false false false h0 h1 h2 = refl
failed_apart false true true true h0 h1 h2 = let e = h0 refl in cc
failed_apart false true true false h0 h1 h2 = cc
failed_apart false true false true h0 h1 h2 = let e = h0 refl in cc
failed_apart false true false false h0 h1 h2 = refl
failed_apart false false true true h0 h1 h2 = let e = h0 refl in cc
failed_apart false false true false h0 h1 h2 = refl
failed_apart false false false true h0 h1 h2 = let e = h0 refl in cc
failed_apart false false false false h0 h1 h2 = refl

abbrev InLeft : ℕ → ℕ → Type 0
InLeft left k0 = (k : ℕ) → has (only k0) k ≡ true → has left k ≡ true

in_left : (left k0 : ℕ) → has left k0 ≡ true → InLeft left k0
in_left left k0 there k same = rw (same_as_only k0 k same) there

pub parted_good : (all left good failed k0 : ℕ) → has left k0 ≡ true → IsParted all left good failed → IsParted all (without left (only k0)) (union good (only k0)) failed
parted_good all left good failed k0 there parted =
    record {
      each = λ k. rw (has-without left (only k0) k, has-union good (only k0) k)
          (parted.each k ∙ moved_good (has left k) (has good k) (has failed k) (has (only k0) k) (in_left left k0 there k));
      left_good = λ k. rw (has-without left (only k0) k, has-union good (only k0) k)
          (left_apart_more (has left k) (has good k) (has (only k0) k) (parted.left_good k));
      left_failed = λ k. rw (has-without left (only k0) k)
          (left_apart_same (has left k) (has failed k) (has (only k0) k) (parted.left_failed k));
      good_failed = λ k. rw (has-union good (only k0) k)
          (good_apart (has left k) (has good k) (has failed k) (has (only k0) k) (in_left left k0 there k) (parted.left_failed k) (parted.good_failed k));
    }

pub parted_failed : (all left good failed k0 : ℕ) → has left k0 ≡ true → IsParted all left good failed → IsParted all (without left (only k0)) good (union failed (only k0))
parted_failed all left good failed k0 there parted =
    record {
      each = λ k. rw (has-without left (only k0) k, has-union failed (only k0) k)
          (parted.each k ∙ moved_failed (has left k) (has good k) (has failed k) (has (only k0) k) (in_left left k0 there k));
      left_good = λ k. rw (has-without left (only k0) k)
          (left_apart_same (has left k) (has good k) (has (only k0) k) (parted.left_good k));
      left_failed = λ k. rw (has-without left (only k0) k, has-union failed (only k0) k)
          (left_apart_more (has left k) (has failed k) (has (only k0) k) (parted.left_failed k));
      good_failed = λ k. rw (has-union failed (only k0) k)
          (failed_apart (has left k) (has good k) (has failed k) (has (only k0) k) (in_left left k0 there k) (parted.left_good k) (parted.good_failed k));
    }

both : (x y : Bool) → (x && y) ≡ false → x ≡ true → y ≡ true → ⊥
both true true h p q = cc
both true false h p q = cc
both false y h p q = cc

apart_parts : (left other k0 k : ℕ) → ((k : ℕ) → (has left k && has other k) ≡ false) → has left k0 ≡ true → has other k ≡ true → k ≢ k0
apart_parts left other k0 k apart there here e =
    let moved : has other k0 ≡ true = rw (sym e) here in
    both (has left k0) (has other k0) (apart k0) there moved

-- ---- one write call

pub write_reaches : (all left good failed k0 : ℕ) (a : Around) (now : Disks) → IsWriting all left good failed a.pending a.disks.blocks → has left k0 ≡ true → k0 < 64 →
    Gets k0 (overlaid a.pending (a.disks.blocks k0)) a.disks.blocks now.blocks →
    IsWriting all (without left (only k0)) (union good (only k0)) failed a.pending now.blocks
write_reaches all left good failed k0 a now writing there low gets =
    record {
      parted = parted_good all left good failed k0 there writing.parted;
      old = writing.old;
      before = λ k i h.
          let parts = without_parts _ _ _ h in
          gets.others k i (apart_from_only k0 k low parts.1) ∙ writing.before k i parts.0;
      after = λ k i h.
          elim (union_cases _ _ _ h) [
            | inl reached ↦ gets.others k i (apart_parts left good k0 k writing.parted.left_good there reached) ∙ writing.after k i reached
            | inr same ↦
                ap (λ x. now.blocks x i) (same_as_only k0 k same)
                ∙ gets.gets i
                ∙ overlaid_same a.pending (a.disks.blocks k0) writing.old i (writing.before k0 i there)
          ];
      torn = λ k i h.
          let stays = gets.others k i (apart_parts left failed k0 k writing.parted.left_failed there h) in
          elim (writing.torn k i h) [ inl x ↦ inl (stays ∙ x) | inr y ↦ inr (stays ∙ y) ];
    }

pub write_misses : (all left good failed k0 : ℕ) (a : Around) (now : Disks) → IsWriting all left good failed a.pending a.disks.blocks → has left k0 ≡ true → k0 < 64 →
    MayGet k0 (overlaid a.pending (a.disks.blocks k0)) a.disks.blocks now.blocks →
    IsWriting all (without left (only k0)) good (union failed (only k0)) a.pending now.blocks
write_misses all left good failed k0 a now writing there low gets =
    record {
      parted = parted_failed all left good failed k0 there writing.parted;
      old = writing.old;
      before = λ k i h.
          let parts = without_parts _ _ _ h in
          gets.others k i (apart_from_only k0 k low parts.1) ∙ writing.before k i parts.0;
      after = λ k i h.
          gets.others k i (apart_parts left good k0 k writing.parted.left_good there h) ∙ writing.after k i h;
      torn = λ k i h.
          elim (union_cases _ _ _ h) [
            | inl missed ↦
                let stays = gets.others k i (apart_parts left failed k0 k writing.parted.left_failed there missed) in
                elim (writing.torn k i missed) [ inl x ↦ inl (stays ∙ x) | inr y ↦ inr (stays ∙ y) ]
            | inr same ↦
                let e = ap (λ x. now.blocks x i) (same_as_only k0 k same) in
                elim (gets.either i) [
                  | inl kept ↦ inl (e ∙ kept ∙ writing.before k0 i there)
                  | inr new ↦ inr (e ∙ new ∙ overlaid_same a.pending (a.disks.blocks k0) writing.old i (writing.before k0 i there))
                ]
          ];
    }

-- ---- what a region that is marked for a write knows

pub snap_marked : {A : Type 0} (s : Stage) (held : ℕ → Bool) (m : ℕ) → IsStage s held → IsMarkedForWrite s → has s.snaps m ≡ true → has s.bits m ≡ false → A
snap_marked s held m stage marked snap none =
    elim (true_or_false s.logged) [
      | inl logged ↦ not_both ((marked logged).1 m snap) none
      | inr plain ↦ not_both snap (stage.unlogged plain m).1
    ]

pub unmarked_current : (s : Stage) (held : ℕ → Bool) (k : ℕ) → IsStage s held → IsMarkedForWrite s → held k ≡ true → has s.bits k ≡ false → has (current s) k ≡ true
unmarked_current s held k stage marked is_held none =
    elim (stage.plexes k is_held) [
      | inl on ↦ in_without _ _ _ on none
      | inr off ↦
          elim (true_or_false s.logged) [
            | inl logged ↦ not_both ((marked logged).2 k off) none
            | inr plain ↦ not_both off (stage.unlogged plain k).0
          ]
    ]

-- it is dirty, or has one plex that is unmarked
pub marked_agrees : (s : Stage) (a : Around) → IsBase s a → IsMarkedForWrite s → Agree a (has s.bits) ⊎ IsDirty s a.fixed.held (has s.bits)
marked_agrees s a base marked =
    let fits : current s < 2 ^ 64 = without-lt s.on s.bits base.stage.on_fits in
    let some : current s ≢ 0 = not_empty (current s) base.readable.0 (in_without _ _ _ base.readable.1 base.readable.2) in
    elim (true_or_false (above_lowest (current s) == 0)) [
      | inl none ↦
          inl (λ j k i at_j at_k.
          let e : j ≡ k =
          one (current s) j fits (empty_from_test _ none) (unmarked_current s a.fixed.held j base.stage marked at_j.0 at_j.1)
          ∙ sym (one (current s) k fits (empty_from_test _ none) (unmarked_current s a.fixed.held k base.stage marked at_k.0 at_k.1)) in
          ap (λ x. a.disks.blocks x i) e)
      | inr more ↦
          let pair = two (current s) fits some (some_from_test _ more) in
          let first_on = (without_parts _ _ _ pair.3).0 in
          let second_on = (without_parts _ _ _ pair.4).0 in
          elim (true_or_false s.logged) [
            | inl logged ↦
                inr (record {
                  two = (pair.0, pair.1, pair.2, inl first_on, inl second_on);
                  dirty = (marked logged).0;
                  off = λ k is_off is_held. (marked logged).2 k is_off;
                })
            | inr plain ↦ absurd (pair.2 (base.stage.alone plain pair.0 pair.1 first_on second_on))
          ]
    ]

-- a plex that holds its old block or the new one may hold it
pub base_after_call : (s : Stage) (a : Around) (k0 : ℕ) (now : Disks) → IsBase s a → IsMarkedForWrite s → SameMarks a.disks now →
    MayGet k0 (overlaid a.pending (a.disks.blocks k0)) a.disks.blocks now.blocks → IsBase s (with_disks a now)
base_after_call s a k0 now base marked same gets =
    base_after_write s a now base same
    (λ k i unmarked.
    elim (same_or_not k0 k) [
      | inr other ↦ rw (gets.others k i other) (base.candidates k i unmarked)
      | inl here ↦
          let is_held : a.fixed.held k0 ≡ true = rw (sym here) unmarked.0 in
          let none : has s.bits k0 ≡ false = rw (sym here) unmarked.1 in
          let may = base.candidates k0 i (is_held, none) in
          elim (gets.either i) [
            | inl kept ↦ rw (ap (λ x. now.blocks x i) here ∙ kept) may
            | inr new ↦ rw (ap (λ x. now.blocks x i) here ∙ new) (overlaid_may a (a.disks.blocks k0) i may)
          ]
    ])
    (λ m k i snap out unmarked. snap_marked s a.fixed.held m base.stage marked snap out)

pub may_get : (k0 : ℕ) (new : Contents) (old now : ℕ → Contents) → Gets k0 new old now → MayGet k0 new old now
may_get k0 new old now gets = record { either = λ i. inr (gets.gets i); others = gets.others }

-- ---- the end of a write

-- where each unmarked plex holds the blocks of the write over the old ones, it may be acknowledged
pub base_after_write_done : (s : Stage) (a : Around) (p : Contents) (old : Contents) → CallOf WriteJob a.pending → IsBase s a →
    ((k i : ℕ) → IsUnmarked a (has s.bits) k → a.disks.blocks k i ≡ overlaid a.pending old i) →
    IsBase s (ends_with Done a p)
base_after_write_done s a p old of base holds =
    record {
      stage = base.stage;
      apart = base.apart;
      shown = base.shown;
      bounded = base.bounded;
      readable = base.readable;
      candidates = λ k i unmarked.
          done_candidate a.fixed.first a.entries a.pending p old i (a.disks.blocks k i) of (holds k i unmarked) (base.candidates k i unmarked);
      tracked = base.tracked;
      history = done_write_record a.fixed.region a.fixed.from a.fixed.first a.entries a.pending p a.last of base.history;
    }

or3_last : (x y z : Bool) → true ≡ (x || (y || z)) → x ≡ false → z ≡ false → y ≡ true
or3_last true y z h p q = cc
or3_last false true z h p q = refl
or3_last false false true h p q = cc
or3_last false false false h p q = cc

or3_middle : (x y z : Bool) → true ≡ (x || (y || z)) → x ≡ false → y ≡ false → z ≡ true
or3_middle true y z h p q = cc
or3_middle false true z h p q = cc
or3_middle false false true h p q = refl
or3_middle false false false h p q = cc

-- with none left, what has not failed is good, and what is not good has failed
pub good_of : (all good failed k : ℕ) → IsParted all 0 good failed → has all k ≡ true → has failed k ≡ false → has good k ≡ true
good_of all good failed k parted there none = or3_last _ _ _ (sym there ∙ parted.each k) (has-zero k) none

pub failed_of : (all good failed k : ℕ) → IsParted all 0 good failed → has all k ≡ true → has good k ≡ false → has failed k ≡ true
failed_of all good failed k parted there none = or3_middle _ _ _ (sym there ∙ parted.each k) (has-zero k) none

or3_true_second : (x y z : Bool) → y ≡ true → (x || (y || z)) ≡ true
or3_true_second true y z h = refl
or3_true_second false y z h = rw h refl

or3_true_third : (x y z : Bool) → z ≡ true → (x || (y || z)) ≡ true
or3_true_third true y z h = refl
or3_true_third false true z h = refl
or3_true_third false false z h = h

pub good_in : (all left good failed k : ℕ) → IsParted all left good failed → has good k ≡ true → has all k ≡ true
good_in all left good failed k parted h = parted.each k ∙ or3_true_second _ _ _ h

pub failed_in : (all left good failed k : ℕ) → IsParted all left good failed → has failed k ≡ true → has all k ≡ true
failed_in all left good failed k parted h = parted.each k ∙ or3_true_third _ _ _ h
