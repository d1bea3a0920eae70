-- Each subdisk of a plex lies in one of its columns.
use Rattle.std.proofs.Common.{◌≡◌, ◌⊎◌, inl, inr, ℕ, zero, suc, ◌+◌, ◌<◌, ◌≤◌, Bool, true, Option, Some, None, length, refl, sym, ◌∙◌, ap, subst, arith}
use Rattle.std.specs.Prelude.{◌&&◌, ◌==◌, nat_lt}
use Rattle.std.specs.List.{find, flat_map, list_all}
use Rattle.std.proofs.lemmas.Bool.{and_parts, and_from, cases_lt, cond-true, eq-eqb, eqb-true, ltb-true}
use Rattle.std.proofs.lemmas.Bool.Decides.{nat_tests}
use Rattle.vx_layout.specs.declared.strip.Strip.{Strip}
use Rattle.vx_layout.specs.Columns.{column_length, has_place}
use Rattle.vx_base.specs.Named.{Word}
use Rattle.vx_config_parts.specs.declared.subdisk.Subdisk.{Subdisk}
use Rattle.vx_config_parts.specs.declared.plex.Plex.{Plex}
use Rattle.vx_config_parts.specs.declared.object.Object.TheVariants.{SubdiskRecord}
use Rattle.vx_config_parts.specs.Objects.{refers}
use Rattle.vx_rules.specs.Columns.{is_in_column, all_pieces_good, piece_follows}
use Rattle.vx_objects.specs.declared.config.Config.{Config}
use Rattle.vx_objects.specs.Config.{objects_of}
use Rattle.vx_image.specs.Lies.{columns_from, strip_of, strip_then, strips_from, strips_of}
use Rattle.vx_group_edits.proofs.Lists.{found_in}
use Rattle.vx_image.proofs.PlexMembers.{IsIn, all_in, in_left, in_right, plex_in, subdisk_in}
use Rattle.vx_image.proofs.Plexes.{column_end, column_sum, config_valid, filled, whole_column}
use Rattle.vx_image.proofs.Shapes.{plex_good}

-- the first sector of a strip is one of it
pub first_place : (s : Strip) → 0 < s.count → has_place s (record { disk = s.disk; sector = s.start }) ≡ true
first_place s some = grind (arith, nat_tests)

-- the piece of the column that begins at the sector
abbrev begins_at : Word → ℕ → ℕ → Subdisk → Bool
begins_at name col at s = is_in_column name col s && s.at == at

module _ (c : Config) (p : Plex) (here : IsIn c.plexes p) where
  abbrev IsPieceOf : ℕ → Subdisk → Type 0
  IsPieceOf col s = IsIn c.subdisks s × (is_in_column p.name col s ≡ true)

  pieces_good : list_all (λ o. all_pieces_good (objects_of c) p o) (objects_of c) ≡ true
  pieces_good = let good = plex_good c (config_valid c) p (plex_in c p here) in good.pieces

  -- no two pieces of a column begin at one sector, ..
  only_piece : (col : ℕ) (s t : Subdisk) → IsPieceOf col s → IsPieceOf col t → s.at ≡ t.at → s ≡ t
  only_piece col = let whole = whole_column c (config_valid c) p pieces_good col in whole.only

  -- .. one that does not begin it begins where another ends, ..
  follows : (col : ℕ) (s : Subdisk) → IsPieceOf col s → 0 < s.at → (t : Subdisk) × IsPieceOf col t × (t.at + t.len ≡ s.at)
  follows col = let whole = whole_column c (config_valid c) p pieces_good col in whole.follows

  -- .. and so one that begins before another ends before it
  ends_before : (col k : ℕ) (s t : Subdisk) → IsPieceOf col s → IsPieceOf col t → s.at ≤ k → t.at < s.at → t.at + t.len ≤ s.at
  ends_before col zero s t piece other le less = absurd (omega (arith, le, less))
  ends_before col (suc k) s t piece other le less =
      let v = follows col s piece (omega (arith, less)) in
      let ends = v.2 in
      let long = filled c (config_valid c) v.0 v.1.0 in
      elim (cases_lt t.at v.0.at) [
        | inl before ↦ let r = ends_before col k v.0 t v.1 other (omega (arith, ends, long, le)) before in omega (arith, r, ends)
        | inr from ↦ elim (cases_lt v.0.at t.at) [
          | inl behind ↦ let r = ends_before col k t v.0 other v.1 (omega (arith, le, less)) behind in absurd (omega (arith, r, ends, less))
          | inr at ↦ let same = only_piece col v.0 t v.1 other (omega (arith, from, at)) in subst (λ x. x.at + x.len ≤ s.at) same (omega (arith, ends))
        ]
      ]

  -- the strips from a sector on have a piece that begins there or later, or end before it
  reached : (col n at : ℕ) (s : Subdisk) → IsPieceOf col s → at ≤ s.at →
      IsIn (strips_from n c p.name col at) (strip_of c.disks s) ⊎ (at + column_length (strips_from n c p.name col at) ≤ s.at)
  reached col zero at s piece le = inr (omega (arith, le))
  reached col (suc n) at s piece le = by (λ next le. reached col n next s piece le) (find (begins_at p.name col at) c.subdisks) refl
    where
      by : ((next : ℕ) → next ≤ s.at → IsIn (strips_from n c p.name col next) (strip_of c.disks s) ⊎ (next + column_length (strips_from n c p.name col next) ≤ s.at)) → (f : Option Subdisk) → find (begins_at p.name col at) c.subdisks ≡ f →
          IsIn (strip_then c.disks f (λ next. strips_from n c p.name col next)) (strip_of c.disks s) ⊎ (at + column_length (strip_then c.disks f (λ next. strips_from n c p.name col next)) ≤ s.at)
      by on None e = inr (omega (arith, le))
      by on (Some t) e =
          let r = found_in (begins_at p.name col at) c.subdisks t e in
          let parts = and_parts (is_in_column p.name col t) (t.at == at) r.1 in
          let begins : t.at ≡ at = eqb-true t.at at parts.1 in
          elim (cases_lt t.at s.at) [
            | inl less ↦ elim (on (t.at + t.len) (ends_before col s.at s t piece (r.0, parts.0) (omega arith) less)) [
              | inl one ↦ inl (inr one)
              | inr short ↦ inr (omega (arith, short, begins))
            ]
            | inr from ↦ inl (inl (ap (strip_of c.disks) (only_piece col s t piece (r.0, parts.0) (omega (arith, from, begins, le)))))
          ]

  in_columns : (n col k : ℕ) (strip : Strip) → col ≤ k → k < col + n → IsIn (strips_from (length c.subdisks) c p.name k 0) strip → IsIn (flat_map (λ strips. strips) (columns_from n c p.name col)) strip
  in_columns zero col k strip le lt one = absurd (omega (arith, le, lt))
  in_columns (suc n) col k strip le lt one =
      let first = strips_from (length c.subdisks) c p.name col 0 in
      let behind = flat_map (λ strips. strips) (columns_from n c p.name (col + 1)) in
      elim (cases_lt col k) [
        | inl less ↦ in_right first behind strip (in_columns n (col + 1) k strip (omega (arith, less)) (omega (arith, lt)) one)
        | inr ge ↦ let same : k ≡ col = omega (arith, le, ge) in in_left first behind strip (subst (λ j. IsIn (strips_from (length c.subdisks) c p.name j 0) strip) same one)
      ]

  -- each subdisk of the plex lies in one of its columns
  pub strip_in : (s : Subdisk) → IsIn c.subdisks s → refers s.plex p.name ≡ true → IsIn (strips_of c p) (strip_of c.disks s)
  strip_in s one of =
      let good = all_in (λ o. all_pieces_good (objects_of c) p o) (objects_of c) (SubdiskRecord s) pieces_good (subdisk_in c s one) in
      let low = ltb-true s.col p.ncol (and_parts (nat_lt s.col p.ncol) (piece_follows (objects_of c) p.name s) (sym (cond-true (refers s.plex p.name) (nat_lt s.col p.ncol && piece_follows (objects_of c) p.name s) true of) ∙ good)).0 in
      let piece : IsPieceOf s.col s = (one, and_from _ _ of (eq-eqb s.col s.col refl)) in
      let end = column_end c p.name s.col in
      let reach = end.reaches s piece in
      let sum = column_sum c (config_valid c) p pieces_good s.col in
      let long = filled c (config_valid c) s one in
      elim (reached s.col (length c.subdisks) 0 s piece (omega arith)) [
        | inl there ↦ in_columns p.ncol 0 s.col (strip_of c.disks s) (omega arith) (omega (arith, low)) there
        | inr short ↦ absurd (omega (arith, short, sum, reach, long))
      ]
