-- The plexes of a volume and those of its log lie apart.
use Rattle.std.proofs.Common.{◌≡◌, ℕ, zero, suc, ◌+◌, ◌<◌, List, [], ◌∷◌, ◌++◌, length, get_or, refl, ◌∙◌, subst, arith}
use Rattle.std.specs.List.{All}
use Rattle.std.proofs.lemmas.List.{get_or_append_left, get_or-append-add, length-append}
use Rattle.vx_piece.specs.Seen.{Seen}
use Rattle.vx_layout.specs.declared.layout.Layout.{Layout}
use Rattle.vx_carve.specs.Carved.{HaveNumbers, StaysBeside}
use Rattle.vx_carve.specs.Strips.{AreApartStrips, ArePlexes, EachStrip, HasNumber, IsFreeStrip}
use Rattle.vx_carve.proofs.Places.{volumes_stay}
use Rattle.vx_cut.proofs.Parts.{all_parts}
use Rattle.vx_lending.specs.Taken.{HaveBlocks, OthersStay}

same_item : {X : Type 0} (xs : List X) (j : ℕ) (d e : X) → j < length xs → get_or xs j d ≡ get_or xs j e
same_item [] j d e lt = absurd (omega (arith, lt))
same_item (x ∷ xs) zero d e lt = refl
same_item (x ∷ xs) (suc j) d e lt = same_item xs j d e (omega (arith, lt))

module _ (numbers : List ℕ) (ls ms : List Layout) (plexes : ArePlexes numbers (ls ++ ms)) where
  long : length (ls ++ ms) ≡ length ls + length ms
  long = length-append ls ms

  abbrev numbered_both : All (λ (l : Layout). EachStrip (HasNumber numbers) l.columns) ls × All (λ (l : Layout). EachStrip (HasNumber numbers) l.columns) ms
  numbered_both = all_parts (λ (l : Layout). EachStrip (HasNumber numbers) l.columns) ls ms plexes.numbered

  pub first_plexes : ArePlexes numbers ls
  first_plexes =
      record {
        numbered = numbered_both.0;
        apart = λ j k d lt lt' ne.
            let all = long in
            subst (λ (l : Layout). AreApartStrips l.columns (get_or ls k d).columns) (get_or_append_left ls ms d j lt)
            (subst (λ (m : Layout). AreApartStrips (get_or (ls ++ ms) j d).columns m.columns) (get_or_append_left ls ms d k lt') (plexes.apart j k d (omega (arith, all, lt)) (omega (arith, all, lt')) ne));
      }

  pub second_plexes : ArePlexes numbers ms
  second_plexes =
      record {
        numbered = numbered_both.1;
        apart = λ j k d lt lt' ne.
            let all = long in
            subst (λ (l : Layout). AreApartStrips l.columns (get_or ms k d).columns) (get_or-append-add ls ms j d)
            (subst (λ (m : Layout). AreApartStrips (get_or (ls ++ ms) (length ls + j) d).columns m.columns) (get_or-append-add ls ms k d) (plexes.apart (length ls + j) (length ls + k) d (omega (arith, all, lt)) (omega (arith, all, lt')) (λ e. ne (omega (arith, e)))));
      }

  apart_from : (k : ℕ) (d : Layout) → k < length ms → All (λ (l : Layout). AreApartStrips l.columns (get_or ms k d).columns) ls
  apart_from k d lt j e less =
      let all = long in
      let apart = plexes.apart j (length ls + k) d (omega (arith, all, less)) (omega (arith, all, lt)) (λ e. absurd (omega (arith, e, less))) in
      subst (λ (l : Layout). AreApartStrips l.columns (get_or ms k d).columns) (get_or_append_left ls ms d j less ∙ same_item ls j d e less)
      (subst (λ (m : Layout). AreApartStrips (get_or (ls ++ ms) j d).columns m.columns) (get_or-append-add ls ms k d) apart)

  -- once blocks of the first plexes were taken, those of the second are in pieces as before
  pub second_free : HaveNumbers numbers → (end : ℕ) (ps qs : List Seen) → HaveBlocks end ls → StaysBeside numbers ls 0 end ps qs → All (λ (l : Layout). EachStrip (IsFreeStrip numbers ps) l.columns) (ls ++ ms) →
      All (λ (l : Layout). EachStrip (IsFreeStrip numbers qs) l.columns) ms
  second_free have end ps qs inside stays free k d lt =
      let both = all_parts (λ (l : Layout). EachStrip (IsFreeStrip numbers ps) l.columns) ls ms free in
      volumes_stay numbers ls (get_or ms k d) have numbered_both.0 (numbered_both.1 k d lt) (apart_from k d lt) 0 end ps qs inside stays (both.1 k d lt)

  -- once blocks of both were taken, those of another plex are in pieces as before
  pub others_stay : HaveNumbers numbers → (end end' : ℕ) (ps qs rs : List Seen) → HaveBlocks end ls → HaveBlocks end' ms → StaysBeside numbers ls 0 end ps qs → StaysBeside numbers ms 0 end' qs rs → OthersStay numbers (ls ++ ms) ps rs
  others_stay have end end' ps qs rs inside inside' stays stays' other numbered apart free =
      let both = all_parts (λ (l : Layout). AreApartStrips l.columns other.columns) ls ms apart in
      volumes_stay numbers ms other have numbered_both.1 numbered both.1 0 end' qs rs inside' stays' (volumes_stay numbers ls other have numbered_both.0 numbered both.0 0 end ps qs inside stays free)
