-- The places of the columns of each plex and log of a new volume.
use Rattle.std.proofs.Common.{◌≡◌, ℕ, zero, suc, ◌+◌, ◌<◌, ◌≤◌, ◌^◌, ◌==◌, min, Bool, false, cond, List, [], ◌∷◌, ◌++◌, length, map, refl, sym, ap, ◌∙◌, subst, inl, inr, arith, append-nil}
use Rattle.std.specs.Str.{bytes_eq}
use Rattle.std.proofs.lemmas.Bool.{and_from, and_left, and_right, eq-eqb, false_from_ne_true, ne_eqb}
use Rattle.vx_base.specs.Named.{Word}
use Rattle.vx_base.proofs.NamedLemmas.{bytes_eq_self, bytes_eq_same}
use Rattle.vx_config_parts.specs.declared.object.Object.{Object}
use Rattle.vx_config_parts.specs.Objects.{refers}
use Rattle.vx_rules.proofs.ColumnRuns.{runs_in}
use Rattle.vx_rules.proofs.Runs.{Run}
use Rattle.vx_rules.specs.References.{has_name}
use Rattle.vx_objects.specs.Config.{objects_of}
use Rattle.vx_image.proofs.PlexMembers.{IsIn, in_either}
use Rattle.vx_space.specs.declared.extent.Extent.{Extent}
use Rattle.vx_new_volumes.specs.Records.{data_plexes, dco_of, log_plex}
use Rattle.vx_new_volumes.specs.declared.volume.NewVolume.{NewVolume}
use Rattle.vx_moments.specs.World.{Group}
use Rattle.vx_new_volume_laws.proofs.Behind.{AreOnce}
use Rattle.vx_new_volume_laws.proofs.Places.{Place, column_places, columns_places, logs_places, places, plexes_places}
use Rattle.vx_new_volume_laws.proofs.Names.{logs_found, plex_no_log, plexes_found}
use Rattle.vx_new_volume_laws.proofs.Taking.{size}
use Rattle.vx_new_volume_laws.proofs.Lying.{IsCase, placed}
use Rattle.vx_new_volume_laws.proofs.Beside.{column_plex, columns_plex, logs_plex, plexes_plex}
use Rattle.vx_new_volume_laws.proofs.Counting.{no_piece_in}
use Rattle.vx_new_volume_laws.proofs.Runs.{is_at, no_data_runs, no_dco_runs, no_log_runs, no_runs, none_at, placed_runs, runs_append, runs_at, runs_at_both, runs_from}

-- ---- one column

column_at : (plex : Word) (col at : ℕ) (es : List Extent) → runs_at plex col (column_places plex col at es) ≡ runs_from at es
column_at plex col at [] = refl
column_at plex col at (e ∷ es) =
    ap (λ (b : Bool). cond b ((at, e.count) ∷ runs_at plex col (column_places plex col (min (at + e.count) 18446744073709551615) es)) (runs_at plex col (column_places plex col (min (at + e.count) 18446744073709551615) es))) (and_from (bytes_eq plex plex) (col == col) (bytes_eq_self plex) (eq-eqb col col refl))
    ∙ ap (λ (rs : List Run). (at, e.count) ∷ rs) (column_at plex col (min (at + e.count) 18446744073709551615) es)

column_col : (plex : Word) (col at : ℕ) (es : List Extent) (p : Place) → IsIn (column_places plex col at es) p → p.col ≡ col
column_col plex col at [] p there = absurd there
column_col plex col at (e ∷ es) p (inl same) = ap (λ (q : Place). q.col) same
column_col plex col at (e ∷ es) p (inr there) = column_col plex col (min (at + e.count) 18446744073709551615) es p there

-- the piece ends within the sectors of the column
column_within : (plex : Word) (col at : ℕ) (es : List Extent) (p : Place) → at + size es ≤ 18446744073709551615 → IsIn (column_places plex col at es) p → p.at + p.extent.count ≤ at + size es
column_within plex col at [] p le there = absurd there
column_within plex col at (e ∷ es) p le (inl same) =
    let start = ap (λ (q : Place). q.at) same in
    let long = ap (λ (q : Place). q.extent.count) same in
    omega (arith, start, long)
column_within plex col at (e ∷ es) p le (inr there) =
    let rest = column_within plex col (min (at + e.count) 18446744073709551615) es p (omega (arith, le)) there in
    omega (arith, rest)

other_col : (plex : Word) (col other : ℕ) (p : Place) → p.col ≡ other → (other ≡ col → ⊥) → is_at plex col p ≡ false
other_col plex col other p same out = and_right (bytes_eq p.plex plex) (p.col == col) (ne_eqb p.col col (λ e. out (sym same ∙ e)))

other_plex : (plex : Word) (col : ℕ) (p : Place) → (p.plex ≡ plex → ⊥) → is_at plex col p ≡ false
other_plex plex col p out = and_left (bytes_eq p.plex plex) (p.col == col) (false_from_ne_true (bytes_eq p.plex plex) (λ h. out (bytes_eq_same p.plex plex h)))

-- ---- the columns of a plex

-- a piece of one of the columns
pub record InColumn (plex : Word) (cs : List (List Extent)) (low : ℕ) (p : Place) : Type 0 where
  pub extents : List Extent
  pub is_column : IsIn cs extents
  pub piece : IsIn (column_places plex p.col 0 extents) p
  pub from : low ≤ p.col
  pub below : p.col < low + length cs

pub in_column : (plex : Word) (col : ℕ) (cs : List (List Extent)) (p : Place) → col + length cs ≤ 4294967295 → IsIn (columns_places plex col cs) p → InColumn plex cs col p
in_column plex col [] p le there = absurd there
in_column plex col (c ∷ cs) p le there = elim (in_either (column_places plex col 0 c) (columns_places plex (min (col + 1) 4294967295) cs) p there) [
  | inl here ↦
      let same = column_col plex col 0 c p here in
      record { extents = c; is_column = inl refl; piece = subst (λ (k : ℕ). IsIn (column_places plex k 0 c) p) (sym same) here; from = omega (arith, same); below = omega (arith, same) }
  | inr more ↦
      let r = in_column plex (min (col + 1) 4294967295) cs p (omega (arith, le)) more in
      let from = r.from in
      let below = r.below in
      record { extents = r.extents; is_column = inr r.is_column; piece = r.piece; from = omega (arith, from, le); below = omega (arith, below, le) }
]

columns_at : (plex : Word) (t i col : ℕ) (cs : List (List Extent)) → t ≡ col + i → i < length cs → col + length cs ≤ 4294967295 → (es : List Extent) × IsIn cs es × (runs_at plex t (columns_places plex col cs) ≡ runs_from 0 es)
columns_at plex t i col [] e lt le = absurd (omega (arith, lt))
columns_at plex t zero col (c ∷ cs) e lt le =
    let same : t ≡ col = omega (arith, e) in (
      c,
      inl refl,
      runs_at_both plex t (column_places plex col 0 c) (columns_places plex (min (col + 1) 4294967295) cs)
          ∙ (λ j. (ap (λ (k : ℕ). runs_at plex k (column_places plex col 0 c)) same ∙ column_at plex col 0 c) j
          ++ none_at plex t (columns_places plex (min (col + 1) 4294967295) cs) (λ p there. let r = in_column plex (min (col + 1) 4294967295) cs p (omega (arith, le)) there in let from = r.from in other_col plex t p.col p refl (λ h. absurd (omega (arith, from, h, same, le)))) j)
          ∙ append-nil (runs_from 0 c),
    )
columns_at plex t (suc i) col (c ∷ cs) e lt le =
    let r = columns_at plex t i (min (col + 1) 4294967295) cs (omega (arith, e, le)) (omega (arith, lt)) (omega (arith, le)) in (
      r.0,
      inr r.1,
      runs_at_both plex t (column_places plex col 0 c) (columns_places plex (min (col + 1) 4294967295) cs)
          ∙ ap (λ (rs : List Run). rs ++ runs_at plex t (columns_places plex (min (col + 1) 4294967295) cs)) (none_at plex t (column_places plex col 0 c) (λ p there. other_col plex t col p (column_col plex col 0 c p there) (λ h. absurd (omega (arith, e, h)))))
          ∙ r.2,
    )

-- ---- the plexes and logs

plexes_at : (names : List Word) (ps : List (List (List Extent))) (name : Word) → AreOnce names → length names ≡ length ps → IsIn names name
    → (cs : List (List Extent)) × IsIn ps cs × ((col : ℕ) → runs_at name col (plexes_places names ps) ≡ runs_at name col (columns_places name 0 cs))
plexes_at [] ps name once e there = absurd there
plexes_at (w ∷ names) [] name once e there = absurd (omega (arith, e))
plexes_at (w ∷ names) (p ∷ ps) name once e (inl same) = (
  p,
  inl refl,
  λ col.
      runs_at_both name col (columns_places w 0 p) (plexes_places names ps)
      ∙ ap (λ (rs : List Run). runs_at name col (columns_places w 0 p) ++ rs) (none_at name col (plexes_places names ps) (λ q there. other_plex name col q (λ h. once.0 q.plex (plexes_plex names ps q there) (sym same ∙ sym h))))
      ∙ append-nil (runs_at name col (columns_places w 0 p))
      ∙ ap (λ (v : Word). runs_at name col (columns_places v 0 p)) (sym same),
)
plexes_at (w ∷ names) (p ∷ ps) name once e (inr there) =
    let r = plexes_at names ps name once.1 (omega (arith, e)) there in (
      r.0,
      inr r.1,
      λ col.
          runs_at_both name col (columns_places w 0 p) (plexes_places names ps)
          ∙ ap (λ (rs : List Run). rs ++ runs_at name col (plexes_places names ps)) (none_at name col (columns_places w 0 p) (λ q here. other_plex name col q (λ h. once.0 name there (sym (columns_plex w 0 p q here) ∙ h))))
          ∙ r.2 col,
    )

logs_at : (names : List Word) (ls : List (List Extent)) (name : Word) → AreOnce names → length names ≡ length ls → IsIn names name → (es : List Extent) × IsIn ls es × (runs_at name 0 (logs_places names ls) ≡ runs_from 0 es)
logs_at [] ls name once e there = absurd there
logs_at (w ∷ names) [] name once e there = absurd (omega (arith, e))
logs_at (w ∷ names) (l ∷ ls) name once e (inl same) = (
  l,
  inl refl,
  runs_at_both name 0 (column_places w 0 0 l) (logs_places names ls)
      ∙ ap (λ (rs : List Run). runs_at name 0 (column_places w 0 0 l) ++ rs) (none_at name 0 (logs_places names ls) (λ q there. other_plex name 0 q (λ h. once.0 q.plex (logs_plex names ls q there) (sym same ∙ sym h))))
      ∙ append-nil (runs_at name 0 (column_places w 0 0 l))
      ∙ ap (λ (v : Word). runs_at name 0 (column_places v 0 0 l)) (sym same) ∙ column_at name 0 0 l,
)
logs_at (w ∷ names) (l ∷ ls) name once e (inr there) =
    let r = logs_at names ls name once.1 (omega (arith, e)) there in (
      r.0,
      inr r.1,
      runs_at_both name 0 (column_places w 0 0 l) (logs_places names ls)
          ∙ ap (λ (rs : List Run). rs ++ runs_at name 0 (logs_places names ls)) (none_at name 0 (column_places w 0 0 l) (λ q here. other_plex name 0 q (λ h. once.0 name there (sym (column_plex w 0 0 l q here) ∙ h))))
          ∙ r.2,
    )

-- where a piece of a plex lies, and one of a log
pub in_plexes : (names : List Word) (ps : List (List (List Extent))) (p : Place) → ((cs : List (List Extent)) → IsIn ps cs → length cs ≤ 4294967295) → IsIn (plexes_places names ps) p → (cs : List (List Extent)) × IsIn ps cs × InColumn p.plex cs 0 p
in_plexes [] ps p few there = absurd there
in_plexes (w ∷ names) [] p few there = absurd there
in_plexes (w ∷ names) (q ∷ qs) p few there = elim (in_either (columns_places w 0 q) (plexes_places names qs) p there) [
  | inl here ↦ (q, inl refl, subst (λ (v : Word). InColumn v q 0 p) (sym (columns_plex w 0 q p here)) (in_column w 0 q p (small (few q (inl refl))) here))
  | inr more ↦ let r = in_plexes names qs p (λ cs h. few cs (inr h)) more in (r.0, inr r.1, r.2)
]
  where
    small : length q ≤ 4294967295 → 0 + length q ≤ 4294967295
    small h = omega (arith, h)

pub in_logs : (names : List Word) (ls : List (List Extent)) (p : Place) → IsIn (logs_places names ls) p → (es : List Extent) × IsIn ls es × IsIn (column_places p.plex 0 0 es) p × (p.col ≡ 0)
in_logs [] ls p there = absurd there
in_logs (w ∷ names) [] p there = absurd there
in_logs (w ∷ names) (l ∷ ls) p there = elim (in_either (column_places w 0 0 l) (logs_places names ls) p there) [
  | inl here ↦ (l, inl refl, subst (λ (v : Word). IsIn (column_places v 0 0 l) p) (sym (column_plex w 0 0 l p here)) here, column_col w 0 0 l p here)
  | inr more ↦ let r = in_logs names ls p more in (r.0, inr r.1, r.2, r.3)
]

pub ends_within : (plex : Word) (col : ℕ) (es : List Extent) (p : Place) → size es < 2 ^ 40 → IsIn (column_places plex col 0 es) p → p.at + p.extent.count < 2 ^ 40
ends_within plex col es p low there = let le = column_within plex col 0 es p (omega (arith, low)) there in omega (arith, le, low)

-- ---- of all records

module _ (started : Bool) (g : Group) (n : NewVolume) (added : List Object) (c : IsCase started g n added) where
  abbrev group : List Object
  group = objects_of g.config

  abbrev all : List Object
  all = objects_of g.config ++ added

  others_runs : (plex : Word) (col : ℕ) → runs_in plex col (dco_of n c.made.dco ++ data_plexes n 0 c.made.plexes ++ map (log_plex n) c.made.logs ++ c.made.laid.objects) ≡ runs_in plex col c.made.laid.objects
  others_runs plex col =
      runs_append plex col (dco_of n c.made.dco ++ data_plexes n 0 c.made.plexes ++ map (log_plex n) c.made.logs) c.made.laid.objects
      ∙ ap (λ (rs : List Run). rs ++ runs_in plex col c.made.laid.objects) (
      runs_append plex col (dco_of n c.made.dco ++ data_plexes n 0 c.made.plexes) (map (log_plex n) c.made.logs)
      ∙ (λ i. runs_append plex col (dco_of n c.made.dco) (data_plexes n 0 c.made.plexes) i ++ no_log_runs n plex col c.made.logs i)
      ∙ (λ i. no_dco_runs n plex col c.made.dco i ++ no_data_runs n plex col 0 c.made.plexes i ++ []))

  -- the runs of a plex that the group has not
  all_runs : (plex : Word) (col : ℕ) → has_name plex group ≡ false → runs_in plex col all ≡ runs_at plex col (places c.made.plexes c.made.logs c.plan)
  all_runs plex col new =
      runs_append plex col group added
      ∙ ap (λ (rs : List Run). rs ++ runs_in plex col added) (no_runs plex col group (no_piece_in g plex new (λ s. refers s.plex plex) (λ s h. h)))
      ∙ ap (λ (os : List Object). runs_in plex col os) c.made.are
      ∙ others_runs plex col
      ∙ placed_runs plex col (places c.made.plexes c.made.logs c.plan) c.made.laid.objects (placed started g n added c)

  -- the columns of a plex
  pub record HasColumns (name : Word) : Type 0 where
    pub columns : List (List Extent)
    pub planned : IsIn c.plan.plexes columns
    pub runs : (t : ℕ) → t < length columns → length columns ≤ 4294967295 → (es : List Extent) × IsIn columns es × (runs_in name t (objects_of g.config ++ added) ≡ runs_from 0 es)

  pub plex_columns : (name : Word) → IsIn c.made.plexes name → has_name name (objects_of g.config) ≡ false → HasColumns name
  plex_columns name there new =
      let found = plexes_found group n c.plan added c.made in
      let r = plexes_at c.made.plexes c.plan.plexes name found.once found.count there in
      record {
        columns = r.0;
        planned = r.1;
        runs = λ t lt few.
            let one = columns_at name t t 0 r.0 (zero_add t) lt (small r.0 few) in (
              one.0,
              one.1,
              all_runs name t new ∙ runs_at_both name t (plexes_places c.made.plexes c.plan.plexes) (logs_places c.made.logs c.plan.logs)
                  ∙ ap (λ (rs : List Run). runs_at name t (plexes_places c.made.plexes c.plan.plexes) ++ rs) (none_at name t (logs_places c.made.logs c.plan.logs) (λ q here. other_plex name t q (λ h. plex_no_log group n c.plan added c.made name there (subst (λ (v : Word). IsIn c.made.logs v) h (logs_plex c.made.logs c.plan.logs q here)))))
                  ∙ append-nil (runs_at name t (plexes_places c.made.plexes c.plan.plexes))
                  ∙ r.2 t ∙ one.2,
            );
      }
    where
      zero_add : (t : ℕ) → t ≡ 0 + t
      zero_add t = omega arith

      small : (cs : List (List Extent)) → length cs ≤ 4294967295 → 0 + length cs ≤ 4294967295
      small cs h = omega (arith, h)

  pub log_column : (name : Word) → IsIn c.made.logs name → has_name name (objects_of g.config) ≡ false → (es : List Extent) × IsIn c.plan.logs es × (runs_in name 0 (objects_of g.config ++ added) ≡ runs_from 0 es)
  log_column name there new =
      let found = logs_found group n c.plan added c.made in
      let r = logs_at c.made.logs c.plan.logs name found.once found.count there in (
        r.0,
        r.1,
        all_runs name 0 new ∙ runs_at_both name 0 (plexes_places c.made.plexes c.plan.plexes) (logs_places c.made.logs c.plan.logs)
            ∙ ap (λ (rs : List Run). rs ++ runs_at name 0 (logs_places c.made.logs c.plan.logs)) (none_at name 0 (plexes_places c.made.plexes c.plan.plexes) (λ q here. other_plex name 0 q (λ h. plex_no_log group n c.plan added c.made name (subst (λ (v : Word). IsIn c.made.plexes v) h (plexes_plex c.made.plexes c.plan.plexes q here)) there)))
            ∙ r.2,
      )
