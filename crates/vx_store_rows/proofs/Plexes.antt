-- Plexes that fit their mask, one by one.
use Rattle.std.proofs.Common.{◌≡◌, ℕ, ◌-◌, ◌<◌, ◌≤◌, true, false, sym, ◌∙◌, ap, subst, inl, inr, arith, List, [], ◌∷◌, length, map, get_or, take, drop}
use Rattle.std.proofs.Math.Seq.{take-length}
use Rattle.std.specs.Prelude.{◌==◌, ◌||◌}
use Rattle.std.proofs.lemmas.Bool.Decides.{eqb_tells}
use Rattle.vx_mask.specs.Mask.{has, union, only}
use Rattle.vx_mask.proofs.MaskLemmas.{has-union, has-zero, has-only_same, has-only_other, same_as_only}
use Rattle.vx_mask.proofs.Tests.{not_both, or_cases}
use Rattle.vx_piece.specs.Seen.{Seen}
use Rattle.vx_runs.specs.Run.{run_sectors}
use Rattle.vx_cell.specs.Plexes.{PlexSeen, plexes_seen}
use Rattle.vx_cell.specs.declared.plex.Plex.{Plex}
use Rattle.vx_store_rows.specs.Ready.{FitsPlexes}

none_fit : FitsPlexes 0 []
none_fit = record { held = λ k. has-zero k; below = λ k h. not_both h (has-zero k); differ = tt; cover = tt }

only_is : (map k : ℕ) → map < 30 → has (only map) k ≡ (map == k)
only_is map k lt =
    elim (eqb_tells map k) [
      | inl same ↦ subst (λ (n : ℕ). has (only map) n ≡ true) same.1 (has-only_same map (omega (arith, lt))) ∙ sym same.0
      | inr apart ↦ has-only_other map k (λ e. apart.1 (sym e)) ∙ sym apart.0
    ]

one_more : (map maps one both : ℕ) (pieces : List Seen) (rest : List PlexSeen) → map < 30 → has maps map ≡ false → run_sectors pieces ≡ 32 → FitsPlexes maps rest → one ≡ only map → both ≡ union one maps →
    FitsPlexes both (record { map = map; pieces = pieces } ∷ rest)
one_more map maps one both pieces rest lt free covers fits one_is both_is =
    let both_has : (k : ℕ) → has both k ≡ (has (only map) k || has maps k) = λ k. ap (λ m. has m k) (both_is ∙ ap (λ m. union m maps) one_is) ∙ has-union (only map) maps k in
    record {
      held = λ k. both_has k ∙ ap (λ b. b || has maps k) (only_is map k lt) ∙ ap (λ b. (map == k) || b) (fits.held k);
      below = λ k h. elim (or_cases (has (only map) k) (has maps k) (sym (both_has k) ∙ h)) [
        | inl own ↦ let e = same_as_only map k own in omega (arith, e, lt)
        | inr there ↦ fits.below k there
      ];
      differ = (sym (fits.held map) ∙ free, fits.differ);
      cover = (covers, fits.cover);
    }

module _ {P : Type 0} (seen : P → Seen) where
  pub none_in : (xs : List (Plex P)) → length xs < 1 → FitsPlexes 0 (plexes_seen seen xs)
  none_in [] lt = none_fit
  none_in (x ∷ xs) lt = absurd (omega (arith, lt))

  pub one_in : (maps one both : ℕ) (xs : List (Plex P)) (d : Plex P) → 1 ≤ length xs → d ≡ get_or xs 0 d → d.map < 30 → has maps d.map ≡ false → run_sectors (map seen d.pieces.items) ≡ 32 →
      FitsPlexes maps (plexes_seen seen (take (length xs - 1) (drop 1 xs))) → one ≡ only d.map → both ≡ union one maps → FitsPlexes both (plexes_seen seen xs)
  one_in maps one both [] d some is lt free covers fits one_is both_is = absurd (omega (arith, some))
  one_in maps one both (x ∷ xs) d some is lt free covers fits one_is both_is =
      let same : length (x ∷ xs) - 1 ≡ length xs = omega arith in
      let behind : take (length (x ∷ xs) - 1) xs ≡ xs = ap (λ (n : ℕ). take n xs) same ∙ take-length xs in
      one_more x.map maps one both (map seen x.pieces.items) (plexes_seen seen xs) (subst (λ (e : Plex P). e.map < 30) is lt) (subst (λ (e : Plex P). has maps e.map ≡ false) is free)
      (subst (λ (e : Plex P). run_sectors (map seen e.pieces.items) ≡ 32) is covers) (subst (λ (ys : List (Plex P)). FitsPlexes maps (plexes_seen seen ys)) behind fits) (subst (λ (e : Plex P). one ≡ only e.map) is one_is) both_is
