-- What carving asks of the settings of the rows.
use Rattle.std.proofs.Common.{◌≡◌, ◌≢◌, ℕ, zero, suc, ◌+◌, ◌-◌, ◌<◌, ◌≤◌, ◌^◌, Bool, true, List, [], ◌∷◌, ◌++◌, length, reverse, get_or, min, refl, sym, ap, ◌∙◌, subst, arith, inl, inr, append_assoc}
use Rattle.std.specs.Prelude.{slice_index, slice_index_or, nat_le, ◌&&◌}
use Rattle.std.specs.List.{All, list_all, flat_map}
use Rattle.std.proofs.lemmas.Bool.{and_parts, and_from, cases_lt, leb-true}
use Rattle.std.proofs.lemmas.List.Concat.{flat_map-append}
use Rattle.std.proofs.lemmas.List.Elements.{All-nil, All-cons}
use Rattle.vx_piece.specs.Seen.{Seen}
use Rattle.vx_layout.specs.declared.run.Run.{Run}
use Rattle.vx_layout.specs.declared.strip.Strip.{Strip}
use Rattle.vx_layout.specs.declared.layout.Layout.{Layout}
use Rattle.vx_layout.specs.Columns.{capacity}
use Rattle.vx_carve.specs.Together.{AreOnce, SameSectors}
use Rattle.vx_carve.specs.Carved.{HaveNumbers, IsPlaced}
use Rattle.vx_carve.specs.Strips.{AreOfDisks, ArePlexes, AreApartStrips, EachStrip, HasNumber, IsFreeStrip, IsOpenRun, all_lie_in}
use Rattle.vx_carve.proofs.Stretches.{stretches_free}
use Rattle.vx_carve.proofs.Room.{strips_free}
use Rattle.vx_carve.proofs.Same.{same_trans, same_beside}
use Rattle.vx_carve.proofs.Runs.{same_after}
use Rattle.vx_carve.proofs.Plexes.{flat_turned}
use Rattle.vx_carve_rows.specs.Setting.{numbers, stretches, AreSetOut, ArePublic, is_apart_from}

number_is : (i : ℕ) → i < 4 → slice_index numbers i ≡ i
number_is zero lt = refl
number_is (suc zero) lt = refl
number_is (suc (suc zero)) lt = refl
number_is (suc (suc (suc zero))) lt = refl
number_is (suc (suc (suc (suc i)))) lt = absurd (omega (arith, lt))

pub have_numbers : HaveNumbers numbers
have_numbers i j lt lt' e = sym (number_is i lt) ∙ e ∙ number_is j lt'

stretch_at : (sectors k : ℕ) (d : Run) → k < 4 → (get_or (stretches sectors) k d).disk ≡ k
stretch_at sectors zero d lt = refl
stretch_at sectors (suc zero) d lt = refl
stretch_at sectors (suc (suc zero)) d lt = refl
stretch_at sectors (suc (suc (suc zero))) d lt = refl
stretch_at sectors (suc (suc (suc (suc k)))) d lt = absurd (omega (arith, lt))

of_disks : (sectors : ℕ) → AreOfDisks numbers (stretches sectors)
of_disks sectors = record {
  numbered = λ k d lt. let e = stretch_at sectors k d lt in omega (arith, e, lt);
  differ = λ j k d lt lt' e. sym (stretch_at sectors j d lt) ∙ e ∙ stretch_at sectors k d lt';
}

pub all_open : (sectors : ℕ) (ps : List Seen) → ArePublic sectors ps → AreOnce ps × All (IsOpenRun numbers ps) (stretches sectors)
all_open sectors ps public = stretches_free numbers (stretches sectors) ps have_numbers (of_disks sectors) public

pub public_moved : (sectors : ℕ) (ps qs : List Seen) → SameSectors ps qs → ArePublic sectors ps → ArePublic sectors qs
public_moved sectors ps qs same public device sector = same.sectors device sector ∙ public device sector

pub equal_le : (m n : ℕ) → m ≡ n → n ≤ m
equal_le m n e = omega (arith, e)

pub all_placed : (sectors : ℕ) → 0 < sectors → sectors < 2 ^ 40 → All (IsPlaced numbers) (stretches sectors)
all_placed sectors some fits zero d lt = record { disk = omega arith; some = some; fits = omega (arith, fits) }
all_placed sectors some fits (suc zero) d lt = record { disk = omega arith; some = some; fits = omega (arith, fits) }
all_placed sectors some fits (suc (suc zero)) d lt = record { disk = omega arith; some = some; fits = omega (arith, fits) }
all_placed sectors some fits (suc (suc (suc zero))) d lt = record { disk = omega arith; some = some; fits = omega (arith, fits) }
all_placed sectors some fits (suc (suc (suc (suc k)))) d lt = absurd (omega (arith, lt))

pub in_total : (s size total start count : ℕ) → start ≡ s → count ≡ min size (total - s) → 0 < count → start + count ≤ total
in_total s size total start count e f some = omega (arith, e, f, some)

passes_at : {X : Type 0} (test : X → Bool) (xs : List X) → list_all test xs ≡ true → All (λ x. test x ≡ true) xs
passes_at test [] h = All-nil (λ x. test x ≡ true)
passes_at test (x ∷ xs) h = let parts = and_parts (test x) (list_all test xs) h in All-cons (λ x. test x ≡ true) x xs parts.0 (passes_at test xs parts.1)

module _ (sectors blocks : ℕ) (ls : List Layout) (set : AreSetOut sectors blocks ls) where
  pub held : (k : ℕ) (d : Layout) → k < length ls → blocks ≤ capacity (slice_index_or ls k d).columns
  held k d lt = leb-true blocks (capacity (slice_index_or ls k d).columns) (passes_at (λ (l : Layout). nat_le blocks (capacity l.columns)) ls set.holds k d lt)

  module _ (ps : List Seen) (public : ArePublic sectors ps) where
    room : (k : ℕ) (d : Layout) → k < length ls → EachStrip (HasNumber numbers) (slice_index_or ls k d).columns × EachStrip (IsFreeStrip numbers ps) (slice_index_or ls k d).columns
    room k d lt = strips_free numbers (stretches sectors) ps (slice_index_or ls k d).columns (all_open sectors ps public).1 (passes_at (λ (l : Layout). all_lie_in (stretches sectors) l.columns) ls set.inside k d lt)

    pub free_strips : (k : ℕ) (d : Layout) → k < length ls → EachStrip (IsFreeStrip numbers ps) (slice_index_or ls k d).columns
    free_strips k d lt = (room k d lt).1

    pub are_plexes : ArePlexes numbers ls
    are_plexes = record { numbered = λ k d lt. (room k d lt).0; apart = apart }
      where
        apart : (j k : ℕ) (d : Layout) → j < length ls → k < length ls → j ≢ k → AreApartStrips (slice_index_or ls j d).columns (slice_index_or ls k d).columns
        apart j k d lt lt' other = elim (cases_lt j k) [
          | inl less ↦ (set.apart j k d lt lt' less).0
          | inr le ↦ (set.apart k j d lt' lt (strict j k le other)).1
        ]
          where
            strict : (j k : ℕ) → k ≤ j → j ≢ k → k < j
            strict j k le other = omega (arith, le, other)

-- one layout is set out by its columns
pub set_one : (sectors blocks : ℕ) (l : Layout) (columns : List (List Strip)) → l.columns ≡ columns → all_lie_in (stretches sectors) columns ≡ true → nat_le blocks (capacity columns) ≡ true → AreSetOut sectors blocks (l ∷ [])
set_one sectors blocks l columns e inside holds = record {
  inside = ap (λ b. b && true) (ap (all_lie_in (stretches sectors)) e ∙ inside);
  holds = ap (λ b. b && true) (ap (λ cs. nat_le blocks (capacity cs)) e ∙ holds);
  apart = λ j k d lt lt' less. absurd (omega (arith, lt', less));
}

-- and two by theirs
pub set_two : (sectors blocks : ℕ) (l m : Layout) (columns columns' : List (List Strip)) → l.columns ≡ columns → m.columns ≡ columns' →
    all_lie_in (stretches sectors) columns ≡ true → all_lie_in (stretches sectors) columns' ≡ true → nat_le blocks (capacity columns) ≡ true → nat_le blocks (capacity columns') ≡ true →
    is_apart_from columns columns' ≡ true → is_apart_from columns' columns ≡ true → AreSetOut sectors blocks (l ∷ m ∷ [])
set_two sectors blocks l m columns columns' e e' inside inside' holds holds' apart apart' = record {
  inside = and_from _ _ (ap (all_lie_in (stretches sectors)) e ∙ inside) (and_from _ true (ap (all_lie_in (stretches sectors)) e' ∙ inside') refl);
  holds = and_from _ _ (ap (λ cs. nat_le blocks (capacity cs)) e ∙ holds) (and_from _ true (ap (λ cs. nat_le blocks (capacity cs)) e' ∙ holds') refl);
  apart = both;
}
  where
    here : is_apart_from l.columns m.columns ≡ true
    here = ap (λ cs. is_apart_from cs m.columns) e ∙ ap (is_apart_from columns) e' ∙ apart

    there : is_apart_from m.columns l.columns ≡ true
    there = ap (λ cs. is_apart_from cs l.columns) e' ∙ ap (is_apart_from columns') e ∙ apart'

    both : (j k : ℕ) (d : Layout) → j < 2 → k < 2 → j < k → (is_apart_from (slice_index_or (l ∷ m ∷ []) j d).columns (slice_index_or (l ∷ m ∷ []) k d).columns ≡ true) × (is_apart_from (slice_index_or (l ∷ m ∷ []) k d).columns (slice_index_or (l ∷ m ∷ []) j d).columns ≡ true)
    both zero zero d lt lt' less = absurd (omega (arith, less))
    both zero (suc zero) d lt lt' less = (here, there)
    both zero (suc (suc k)) d lt lt' less = absurd (omega (arith, lt'))
    both (suc zero) zero d lt lt' less = absurd (omega (arith, less))
    both (suc zero) (suc zero) d lt lt' less = absurd (omega (arith, less))
    both (suc zero) (suc (suc k)) d lt lt' less = absurd (omega (arith, lt'))
    both (suc (suc j)) k d lt lt' less = absurd (omega (arith, lt))

-- the plexes of one region more are taken
pub more_rows : (olds ps qs : List Seen) (rows news turned : List (List Seen)) → SameSectors olds (flat_map (λ xs. xs) rows ++ ps) → SameSectors ps (flat_map (λ xs. xs) news ++ qs) → turned ≡ reverse news →
    SameSectors olds (flat_map (λ xs. xs) (rows ++ turned) ++ qs)
more_rows olds ps qs rows news turned all out e =
    let same = same_trans ps (flat_map (λ xs. xs) news ++ qs) (flat_map (λ xs. xs) turned ++ qs) out (subst (λ ts. SameSectors (flat_map (λ xs. xs) news ++ qs) (flat_map (λ xs. xs) ts ++ qs)) (sym e) (same_beside qs (flat_map (λ xs. xs) news) (flat_map (λ xs. xs) (reverse news)) (flat_turned news))) in
    let step = same_trans olds (flat_map (λ xs. xs) rows ++ ps) (flat_map (λ xs. xs) rows ++ (flat_map (λ xs. xs) turned ++ qs)) all (same_after (flat_map (λ xs. xs) rows) ps (flat_map (λ xs. xs) turned ++ qs) same) in
    let place : flat_map (λ xs. xs) rows ++ (flat_map (λ xs. xs) turned ++ qs) ≡ flat_map (λ xs. xs) (rows ++ turned) ++ qs =
    sym (append_assoc (flat_map (λ xs. xs) rows) (flat_map (λ xs. xs) turned) qs) ∙ ap (λ zs. zs ++ qs) (sym (flat_map-append (λ (xs : List Seen). xs) rows turned)) in
    subst (SameSectors olds) place step
