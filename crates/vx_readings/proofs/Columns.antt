-- The columns of a plex: each of its subdisks lies in them, and they are the same in whichever order the records of the configuration stand.
use Rattle.std.proofs.Common.{◌≡◌, ◌⊎◌, inl, inr, ℕ, zero, suc, ◌+◌, ◌-◌, ◌<◌, ◌≤◌, Bool, true, false, cond, Option, Some, None, List, [], ◌∷◌, length, refl, sym, ◌∙◌, ap, subst, arith}
use Rattle.std.specs.Prelude.{◌&&◌, ◌||◌, ◌==◌, not, nat_lt, slice_index_or}
use Rattle.std.specs.List.{find, flat_map, list_all}
use Rattle.std.proofs.lemmas.Bool.{and_parts, and_from, cases_lt, cond-true, eq-eqb, eqb-true, false≢true, ltb-true}
use Rattle.vx_base.specs.Named.{Word}
use Rattle.vx_mask.specs.Mask.{has}
use Rattle.vx_layout.specs.declared.strip.Strip.{Strip}
use Rattle.vx_layout.specs.Columns.{column_length, column_of, place_in, place_of, sector_of}
use Rattle.vx_config_parts.specs.declared.subdisk.Subdisk.{Subdisk}
use Rattle.vx_config_parts.specs.declared.plex.Plex.{Plex}
use Rattle.vx_config_parts.specs.declared.object.Object.TheVariants.{DiskRecord, SubdiskRecord}
use Rattle.vx_config_parts.specs.Objects.{refers}
use Rattle.vx_rules.specs.Columns.{is_in_column, all_pieces_good, piece_follows}
use Rattle.vx_rules.proofs.InOrder.{names_differ}
use Rattle.vx_objects.specs.declared.config.Config.{Config}
use Rattle.vx_objects.specs.Config.{objects_of}
use Rattle.vx_image.specs.Lies.{columns_from, columns_of, slot_of, strip_of, strip_then, strips_from, strips_of}
use Rattle.vx_image.proofs.PlexMembers.{IsIn, all_in, disk_in, in_left, in_right, one_named, plex_in, same_disk, subdisk_in}
use Rattle.vx_image.proofs.Plexes.{column_end, column_sum, config_valid, filled, on_disk, whole_column}
use Rattle.vx_image.proofs.Shapes.{plex_good}
use Rattle.vx_image.specs.Bytes.{Sectors, bytes_at, is_held}
use Rattle.vx_readings.specs.Readings.{HaveSameRecords}
use Rattle.vx_readings.proofs.Lists.{found_in, found_same}
use Rattle.vx_readings.proofs.Records.{disk_here, subdisk_here, subdisks_many, turned}

-- ---- the pieces of a column

-- the piece of the column that begins at the sector
abbrev begins_at : Word → ℕ → ℕ → Subdisk → Bool
begins_at name col at s = is_in_column name col s && s.at == at

module _ (c : Config) (p : Plex) (here : IsIn c.plexes p) where
  abbrev IsPieceOf : ℕ → Subdisk → Type 0
  IsPieceOf col s = IsIn c.subdisks s × (is_in_column p.name col s ≡ true)

  pieces_good : list_all (λ o. all_pieces_good (objects_of c) p o) (objects_of c) ≡ true
  pieces_good = let good = plex_good c (config_valid c) p (plex_in c p here) in good.pieces

  -- no two pieces of a column begin at one sector, ..
  only_piece : (col : ℕ) (s t : Subdisk) → IsPieceOf col s → IsPieceOf col t → s.at ≡ t.at → s ≡ t
  only_piece col = let whole = whole_column c (config_valid c) p pieces_good col in whole.only

  -- .. one that does not begin it begins where another ends, ..
  follows : (col : ℕ) (s : Subdisk) → IsPieceOf col s → 0 < s.at → (t : Subdisk) × IsPieceOf col t × (t.at + t.len ≡ s.at)
  follows col = let whole = whole_column c (config_valid c) p pieces_good col in whole.follows

  -- .. and so one that begins before another ends before it
  ends_before : (col k : ℕ) (s t : Subdisk) → IsPieceOf col s → IsPieceOf col t → s.at ≤ k → t.at < s.at → t.at + t.len ≤ s.at
  ends_before col zero s t piece other le less = absurd (omega (arith, le, less))
  ends_before col (suc k) s t piece other le less =
      let v = follows col s piece (omega (arith, less)) in
      let ends = v.2 in
      let long = filled c (config_valid c) v.0 v.1.0 in
      elim (cases_lt t.at v.0.at) [
        | inl before ↦ let r = ends_before col k v.0 t v.1 other (omega (arith, ends, long, le)) before in omega (arith, r, ends)
        | inr from ↦ elim (cases_lt v.0.at t.at) [
          | inl behind ↦ let r = ends_before col k t v.0 other v.1 (omega (arith, le, less)) behind in absurd (omega (arith, r, ends, less))
          | inr at ↦ let same = only_piece col v.0 t v.1 other (omega (arith, from, at)) in subst (λ x. x.at + x.len ≤ s.at) same (omega (arith, ends))
        ]
      ]

  -- the strips from a sector on have a piece that begins there or later, or end before it
  reached : (col n at : ℕ) (s : Subdisk) → IsPieceOf col s → at ≤ s.at →
      IsIn (strips_from n c p.name col at) (strip_of c.disks s) ⊎ (at + column_length (strips_from n c p.name col at) ≤ s.at)
  reached col zero at s piece le = inr (omega (arith, le))
  reached col (suc n) at s piece le = by (λ next le. reached col n next s piece le) (find (begins_at p.name col at) c.subdisks) refl
    where
      by : ((next : ℕ) → next ≤ s.at → IsIn (strips_from n c p.name col next) (strip_of c.disks s) ⊎ (next + column_length (strips_from n c p.name col next) ≤ s.at)) → (f : Option Subdisk) → find (begins_at p.name col at) c.subdisks ≡ f →
          IsIn (strip_then c.disks f (λ next. strips_from n c p.name col next)) (strip_of c.disks s) ⊎ (at + column_length (strip_then c.disks f (λ next. strips_from n c p.name col next)) ≤ s.at)
      by on None e = inr (omega (arith, le))
      by on (Some t) e =
          let r = found_in (begins_at p.name col at) c.subdisks t e in
          let parts = and_parts (is_in_column p.name col t) (t.at == at) r.1 in
          let begins : t.at ≡ at = eqb-true t.at at parts.1 in
          elim (cases_lt t.at s.at) [
            | inl less ↦ elim (on (t.at + t.len) (ends_before col s.at s t piece (r.0, parts.0) (omega arith) less)) [
              | inl one ↦ inl (inr one)
              | inr short ↦ inr (omega (arith, short, begins))
            ]
            | inr from ↦ inl (inl (ap (strip_of c.disks) (only_piece col s t piece (r.0, parts.0) (omega (arith, from, begins, le)))))
          ]

  in_columns : (n col k : ℕ) (strip : Strip) → col ≤ k → k < col + n → IsIn (strips_from (length c.subdisks) c p.name k 0) strip → IsIn (flat_map (λ strips. strips) (columns_from n c p.name col)) strip
  in_columns zero col k strip le lt one = absurd (omega (arith, le, lt))
  in_columns (suc n) col k strip le lt one =
      let first = strips_from (length c.subdisks) c p.name col 0 in
      let behind = flat_map (λ strips. strips) (columns_from n c p.name (col + 1)) in
      elim (cases_lt col k) [
        | inl less ↦ in_right first behind strip (in_columns n (col + 1) k strip (omega (arith, less)) (omega (arith, lt)) one)
        | inr ge ↦ let same : k ≡ col = omega (arith, le, ge) in in_left first behind strip (subst (λ j. IsIn (strips_from (length c.subdisks) c p.name j 0) strip) same one)
      ]

  -- each subdisk of the plex lies in one of its columns
  pub strip_in : (s : Subdisk) → IsIn c.subdisks s → refers s.plex p.name ≡ true → IsIn (strips_of c p) (strip_of c.disks s)
  strip_in s one of =
      let good = all_in (λ o. all_pieces_good (objects_of c) p o) (objects_of c) (SubdiskRecord s) pieces_good (subdisk_in c s one) in
      let low = ltb-true s.col p.ncol (and_parts (nat_lt s.col p.ncol) (piece_follows (objects_of c) p.name s) (sym (cond-true (refers s.plex p.name) (nat_lt s.col p.ncol && piece_follows (objects_of c) p.name s) true of) ∙ good)).0 in
      let piece : IsPieceOf s.col s = (one, and_from _ _ of (eq-eqb s.col s.col refl)) in
      let end = column_end c p.name s.col in
      let reach = end.reaches s piece in
      let sum = column_sum c (config_valid c) p pieces_good s.col in
      let long = filled c (config_valid c) s one in
      elim (reached s.col (length c.subdisks) 0 s piece (omega arith)) [
        | inl there ↦ in_columns p.ncol 0 s.col (strip_of c.disks s) (omega arith) (omega (arith, low)) there
        | inr short ↦ absurd (omega (arith, short, sum, reach, long))
      ]

-- ---- another order

module _ (c other : Config) (same : HaveSameRecords c other) where
  pub slot_same : (s : Subdisk) → IsIn c.subdisks s → slot_of other.disks s.disk ≡ slot_of c.disks s.disk
  slot_same s one =
      let a = on_disk c (config_valid c) s one in
      let b = on_disk other (config_valid other) s (subdisk_here c other same s one) in
      let there = disk_here other c (turned c other same) b.disk b.there in
      let is = same_disk b.disk a.disk (one_named [] (objects_of c) (DiskRecord b.disk) (DiskRecord a.disk) (names_differ (objects_of c) (config_valid c)) (disk_in c b.disk there) (disk_in c a.disk a.there) (b.named ∙ sym a.named)) in
      b.slot ∙ ap (λ d. d.slot) is ∙ sym a.slot

  module _ (p : Plex) (here : IsIn c.plexes p) where
    piece_same : (col at : ℕ) → find (begins_at p.name col at) other.subdisks ≡ find (begins_at p.name col at) c.subdisks
    piece_same col at = found_same (begins_at p.name col at) c.subdisks other.subdisks (subdisk_here c other same) (subdisk_here other c (turned c other same)) only
      where
        only : (s t : Subdisk) → IsIn c.subdisks s → IsIn c.subdisks t → begins_at p.name col at s ≡ true → begins_at p.name col at t ≡ true → s ≡ t
        only s t one two e f =
            let x = and_parts (is_in_column p.name col s) (s.at == at) e in
            let y = and_parts (is_in_column p.name col t) (t.at == at) f in
            only_piece c p here col s t (one, x.0) (two, y.0) (eqb-true s.at at x.1 ∙ sym (eqb-true t.at at y.1))

    strips_same : (n col at : ℕ) → strips_from n other p.name col at ≡ strips_from n c p.name col at
    strips_same zero col at = refl
    strips_same (suc n) col at =
        ap (λ f. strip_then other.disks f (λ next. strips_from n other p.name col next)) (piece_same col at)
        ∙ by (λ next. strips_same n col next) (find (begins_at p.name col at) c.subdisks) refl
      where
        by : ((next : ℕ) → strips_from n other p.name col next ≡ strips_from n c p.name col next) → (f : Option Subdisk) → find (begins_at p.name col at) c.subdisks ≡ f →
            strip_then other.disks f (λ next. strips_from n other p.name col next) ≡ strip_then c.disks f (λ next. strips_from n c p.name col next)
        by on None e = refl
        by on (Some s) e =
            let slot = slot_same s (found_in (begins_at p.name col at) c.subdisks s e).0 in
            let rest = on (s.at + s.len) in
            λ i. record { disk = slot i; start = s.off; count = s.len } ∷ rest i

    columns_alike : (n col : ℕ) → columns_from n other p.name col ≡ columns_from n c p.name col
    columns_alike zero col = refl
    columns_alike (suc n) col =
        let first = ap (λ k. strips_from k other p.name col 0) (subdisks_many c other same) ∙ strips_same (length c.subdisks) col 0 in
        let rest = columns_alike n (col + 1) in
        λ i. first i ∷ rest i

    pub columns_same : columns_of other p ≡ columns_of c p
    columns_same = columns_alike p.ncol 0

-- ---- good disks

-- the strips lie on good disks
abbrev are_good : ℕ → List Strip → Bool
are_good good strips = list_all (λ strip. has good strip.disk) strips

when : (a b : Bool) → (not a || b) ≡ true → a ≡ true → b ≡ true
when true b h is = h
when false b h is = absurd (false≢true is)

module _ (c : Config) (good : ℕ) (p : Plex) (held : is_held c good p ≡ true) where
  -- a subdisk of a plex that is held lies on a good disk, ..
  pub good_slot : (s : Subdisk) → IsIn c.subdisks s → refers s.plex p.name ≡ true → has good (slot_of c.disks s.disk) ≡ true
  good_slot s one of = when (refers s.plex p.name) (has good (slot_of c.disks s.disk)) (all_in (λ s. not (refers s.plex p.name) || has good (slot_of c.disks s.disk)) c.subdisks s held one) of

  strips_good : (n col at : ℕ) → are_good good (strips_from n c p.name col at) ≡ true
  strips_good zero col at = refl
  strips_good (suc n) col at = by (λ next. strips_good n col next) (find (begins_at p.name col at) c.subdisks) refl
    where
      by : ((next : ℕ) → are_good good (strips_from n c p.name col next) ≡ true) → (f : Option Subdisk) → find (begins_at p.name col at) c.subdisks ≡ f →
          are_good good (strip_then c.disks f (λ next. strips_from n c p.name col next)) ≡ true
      by on None e = refl
      by on (Some s) e =
          let r = found_in (begins_at p.name col at) c.subdisks s e in
          let of = (and_parts (refers s.plex p.name) (s.col == col) (and_parts (is_in_column p.name col s) (s.at == at) r.1).0).0 in
          and_from _ _ (good_slot s r.0 of) (on (s.at + s.len))

  column_good : (n col k : ℕ) → are_good good (slice_index_or (columns_from n c p.name col) k []) ≡ true
  column_good zero col k = refl
  column_good (suc n) col zero = strips_good (length c.subdisks) col 0
  column_good (suc n) col (suc k) = column_good n (col + 1) k

  -- .. so what lies at its places is the same by sectors that are the same on good disks
  module _ (old new : Sectors) (same : (disk sector : ℕ) → has good disk ≡ true → new disk sector ≡ old disk sector) where
    same_in : (strips : List Strip) (sector : ℕ) → are_good good strips ≡ true → bytes_at new (place_in strips sector) ≡ bytes_at old (place_in strips sector)
    same_in [] sector on = refl
    same_in (strip ∷ strips) sector on =
        let parts = and_parts (has good strip.disk) (are_good good strips) on in
        by (nat_lt sector strip.count) parts.0 (same_in strips (sector - strip.count) parts.1)
      where
        by : (b : Bool) → has good strip.disk ≡ true → bytes_at new (place_in strips (sector - strip.count)) ≡ bytes_at old (place_in strips (sector - strip.count)) →
            bytes_at new (cond b (Some (record { disk = strip.disk; sector = strip.start + sector })) (place_in strips (sector - strip.count)))
            ≡ bytes_at old (cond b (Some (record { disk = strip.disk; sector = strip.start + sector })) (place_in strips (sector - strip.count)))
        by true is rest = same strip.disk (strip.start + sector) is
        by false is rest = rest

    pub same_at : (b : ℕ) → bytes_at new (place_of p.unit (columns_of c p) b) ≡ bytes_at old (place_of p.unit (columns_of c p) b)
    same_at b = let k = column_of p.unit (columns_of c p) b in same_in (slice_index_or (columns_of c p) k []) (sector_of p.unit (columns_of c p) b) (column_good p.ncol 0 k)
