-- The volume that was cut while it was written is sound and can be opened.
use Rattle.std.proofs.Common.{◌≡◌, ◌≢◌, ◌⊎◌, inl, inr, ℕ, ◌<◌, Bool, true, false, refl, sym, ◌∙◌, subst, cond, List, [], ◌∷◌, arith}
use Rattle.std.specs.Prelude.{◌==◌, ◌||◌, Contains}
use Rattle.std.proofs.lemmas.Bool.Decides.{nat_tests}
use Rattle.vx_mask.specs.Mask.{has, only, union}
use Rattle.vx_mask.proofs.MaskLemmas.{has-zero, has-union, has-only_same, has-only_other, only-lt, union-lt}
use Rattle.vx_mask.proofs.Tests.{not_both, true_or_false, or_cases}
use Rattle.vx_core.specs.Form.{IsStage}
use Rattle.vx_life.specs.Candidates.{IsAmong, Any}
use Rattle.vx_core.specs.Soundness.{IsData}
use Rattle.vx_image.specs.Image.{PlexImage, is_marked_by_some, is_stale, is_available}
use Rattle.vx_image.specs.Meaning.{candidates_read}
use Rattle.vx_image.specs.Soundness.{IsSoundImage}
use Rattle.vx_image.proofs.Members.{is_in}
use Rattle.vx_volume_laws.specs.Opening.{IsOpened, is_block_of, region_blocks}
use Rattle.vx_volume_laws.specs.Example.{first_plex, second_plex, dirty_copy, half_written, opened_region, HalfWrittenOpens, AClearRelationNeedsAgreement}

-- a single map as a test
has_only : (j k : ℕ) → j < 64 → has (only j) k ≡ (k == j)
has_only j k low =
    elim (true_or_false (k == j)) [
      | inl is ↦ subst (λ (n : ℕ). has (only j) n ≡ true) (sym (same_of k j is)) (has-only_same j low) ∙ sym is
      | inr none ↦ has-only_other j k (other_of k j none) ∙ sym none
    ]
  where
    same_of : (k j : ℕ) → (k == j) ≡ true → k ≡ j
    same_of k j h = grind (arith, nat_tests)

    other_of : (k j : ℕ) → (k == j) ≡ false → k ≢ j
    other_of k j h = λ e. grind (arith, nat_tests)

has_on : (k : ℕ) → has (union (only 0) (only 1)) k ≡ (k == 0 || k == 1)
has_on k = has-union (only 0) (only 1) k ∙ rw (has_only 0 k (omega arith), has_only 1 k (omega arith)) refl

apart : (k : ℕ) → (k == 0 || k == 1) ≡ true → (k == 30) ≡ false
apart k h = grind (arith, nat_tests)

masks : (r : ℕ) → IsStage (opened_region r).stage (opened_region r).around.fixed.held
masks r =
    record {
      on_fits = union-lt (only 0) (only 1) (only-lt 0) (only-lt 1);
      off_fits = omega arith;
      snaps_fit = omega arith;
      bits_fit = only-lt 30;
      off_apart = λ k h. has-zero k;
      snaps_apart = λ k h. has-zero k;
      off_snaps = λ k h. has-zero k;
      dirty_apart = (has_on 30, has-zero 30, has-zero 30);
      held_on = λ k h. sym (has_on k) ∙ h;
      plexes = λ k h. inl (has_on k ∙ h);
      alone = λ h. cc;
      unlogged = λ h. cc;
    }

marked_only_dirty : (r k : ℕ) → is_marked_by_some half_written r k ≡ true → (k == 30) ≡ true
marked_only_dirty r k h = elim (or_cases (k == 30) false h) [ inl is ↦ is | inr none ↦ cc ]

one_of : (p : PlexImage) → Contains half_written.plexes p → (p ≡ first_plex) ⊎ (p ≡ second_plex)
one_of p one = elim (is_in half_written.plexes p one) [
  | inl first ↦ inl first
  | inr later ↦ elim later [ inl second ↦ inr second | inr none ↦ absurd none ]
]

first_there : Contains half_written.plexes first_plex
first_there = (0, omega arith, refl)

second_there : Contains half_written.plexes second_plex
second_there = (1, omega arith, refl)

-- a fact of both plexes
each_plex : (P : PlexImage → Type 0) → P first_plex → P second_plex → (p : PlexImage) → Contains half_written.plexes p → P p
each_plex P one two p is = elim (one_of p is) [ inl e ↦ subst P (sym e) one | inr e ↦ subst P (sym e) two ]

clear_choice : (r : ℕ) (B : ℕ → Bool) → ((k : ℕ) → B k ≡ true → is_marked_by_some half_written r k ≡ true) → (k : ℕ) → (k == 30) ≡ false → B k ≡ false
clear_choice r B most k none =
    elim (true_or_false (B k)) [
      | inr clear ↦ clear
      | inl is ↦ not_both (marked_only_dirty r k (most k is)) none
    ]

sound : IsSoundImage half_written
sound r B low choice =
    record {
      unmarked = (first_plex, first_there, clear_choice r B choice.most 0 refl);
      agree = inr (record {
        dirty = choice.least 30 refl;
        stale = λ p one stale held. not_both stale (each_plex (λ p. is_stale p ≡ false) refl refl p one);
      });
      tracked = λ m snap clear. absurd (is_in half_written.snaps m snap);
    }

differ : first_plex.values 0 ≢ second_plex.values 0
differ e = cc

held_plex : (k : ℕ) → (k == 0 || k == 1) ≡ true → (p : PlexImage) × Contains half_written.plexes p × (p.map ≡ k) × (p.held ≡ true)
held_plex k h =
    elim (or_cases (k == 0) (k == 1) h) [
      | inl is ↦ (first_plex, first_there, first_of_test k is, refl)
      | inr is ↦ (second_plex, second_there, second_of_test k is, refl)
    ]
  where
    first_of_test : (k : ℕ) → (k == 0) ≡ true → 0 ≡ k
    first_of_test k h = grind (arith, nat_tests)

    second_of_test : (k : ℕ) → (k == 1) ≡ true → 1 ≡ k
    second_of_test k h = grind (arith, nat_tests)

among_none : (r b : ℕ) → is_block_of half_written r b ≡ false → IsAmong ((opened_region r).around.fixed.first b) []
among_none r b none = by (is_block_of half_written r b) none
  where
    by : (is : Bool) → is ≡ false → IsAmong (cond is (candidates_read half_written b) Any) []
    by true e = cc
    by false e = tt

first_read : (r b : ℕ) → is_block_of half_written r b ≡ true → (opened_region r).around.fixed.first b ≡ candidates_read half_written b
first_read r b is = rw is refl

opened : (r : ℕ) → IsOpened half_written dirty_copy (candidates_read half_written) r (opened_region r)
opened r =
    record {
      masks = masks r;
      bits = λ k. has_only 30 k (omega arith);
      phase = refl;
      snaps = λ m h. not_both h (has-zero m);
      shows = λ n k lt. refl;
      tight = λ k. refl;
      held = held_plex;
      values = λ p one held b. each_plex (λ p. (opened_region r).around.disks.blocks p.map b ≡ region_blocks half_written r p b) refl refl p one;
      data_plexes = λ p one. each_plex (λ p. IsData (opened_region r).stage p.map) (inl (has_on 0)) (inl (has_on 1)) p one;
      on = λ p one. each_plex (λ p. has (opened_region r).stage.on p.map ≡ is_available p) (has_on 0) (has_on 1) p one;
      readable = (0, has_on 0, refl);
      base = λ m b h clear. not_both h (has-zero m);
      first = first_read r;
      beyond = among_none r;
      no_call = refl;
      no_entries = refl;
      no_number = refl;
    }

pub some_volume_opens : HalfWrittenOpens
some_volume_opens =
    record {
      sound = sound;
      well = record { region = omega arith; maps = (λ q one. elim (is_in (second_plex ∷ []) q one) [ inl e ↦ other q e | inr none ↦ absurd none ], (λ q one. absurd (is_in [] q one), tt)) };
      differ = differ;
      opened = opened;
    }
  where
    other : (q : PlexImage) → q ≡ second_plex → 0 ≢ q.map
    other q e = subst (λ (p : PlexImage). 0 ≢ p.map) (sym e) (λ h. omega arith)

-- the two plexes differ at the block of the region
holds_new : region_blocks half_written 0 first_plex 0 ≡ 1 ∷ []
holds_new = refl

holds_old : region_blocks half_written 0 second_plex 0 ≡ 0 ∷ []
holds_old = refl

apart_lists : (x y : List ℕ) → x ≡ 1 ∷ [] → y ≡ 0 ∷ [] → x ≡ y → ⊥
apart_lists x y new old e = cc

pub a_clear_relation_needs_agreement : AClearRelationNeedsAgreement
a_clear_relation_needs_agreement base sound =
    let under = sound.under (has (only 30)) (record { least = λ k bit. bit; most = λ k bit. inl bit }) in
    let clear : has (only 30) 2 ≡ false = has_only 30 2 (omega arith) in
    let first = under.tracked 2 0 0 (has_only 2 2 (omega arith)) clear (refl, has_only 30 0 (omega arith)) in
    let second = under.tracked 2 1 0 (has_only 2 2 (omega arith)) clear (refl, has_only 30 1 (omega arith)) in
    apart_lists (region_blocks half_written 0 first_plex 0) (region_blocks half_written 0 second_plex 0) holds_new holds_old (first ∙ sym second)
