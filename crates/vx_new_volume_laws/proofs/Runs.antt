-- The pieces of columns among records, as runs of sectors.
use Rattle.std.proofs.Common.{◌≡◌, ℕ, ◌+◌, ◌<◌, ◌≤◌, ◌^◌, ◌==◌, ◌&&◌, max, min, Bool, true, false, cond, List, [], ◌∷◌, ◌++◌, refl, sym, ap, ◌∙◌, subst, inl, inr, arith, if◌then◌else◌, map}
use Rattle.std.specs.List.{list_all, list_any}
use Rattle.std.specs.Str.{bytes_eq}
use Rattle.std.proofs.lemmas.Bool.{and_from, and_left, eq-eqb, lt-ltb, or_left, or_parts}
use Rattle.vx_base.specs.Named.{Word}
use Rattle.vx_config_parts.specs.declared.object.Object.{Object}
use Rattle.vx_config_parts.specs.declared.object.Object.TheVariants.{SubdiskRecord, DcoRecord}
use Rattle.vx_config_parts.specs.Objects.{is_subdisk, refers}
use Rattle.vx_rules.specs.Columns.{is_in_column}
use Rattle.vx_rules.proofs.ColumnRuns.{last_end, runs_in}
use Rattle.vx_rules.proofs.Runs.{Run, chain, chain_follows, follows, full, good}
use Rattle.vx_image.proofs.PlexMembers.{IsIn}
use Rattle.vx_space.specs.declared.extent.Extent.{Extent}
use Rattle.vx_new_volumes.specs.Records.{data_plexes, dco_of, has_logs, log_plex}
use Rattle.vx_new_volumes.specs.declared.volume.NewVolume.{NewVolume}
use Rattle.vx_new_volume_laws.proofs.Places.{Place}
use Rattle.vx_new_volume_laws.proofs.Placed.{ArePlaced}
use Rattle.vx_new_volume_laws.proofs.Taking.{size}

-- ---- of records

pub runs_append : (plex : Word) (col : ℕ) (xs ys : List Object) → runs_in plex col (xs ++ ys) ≡ runs_in plex col xs ++ runs_in plex col ys
runs_append plex col [] ys = refl
runs_append plex col (SubdiskRecord s ∷ xs) ys = by (is_in_column plex col s) (runs_append plex col xs ys)
  where
    by : (b : Bool) → runs_in plex col (xs ++ ys) ≡ runs_in plex col xs ++ runs_in plex col ys
        → cond b ((s.at, s.len) ∷ runs_in plex col (xs ++ ys)) (runs_in plex col (xs ++ ys)) ≡ cond b ((s.at, s.len) ∷ runs_in plex col xs) (runs_in plex col xs) ++ runs_in plex col ys
    by true e = ap (λ (rs : List Run). (s.at, s.len) ∷ rs) e
    by false e = e
runs_append plex col (o ∷ xs) ys = runs_append plex col xs ys

-- where none is a piece of the plex
pub no_runs : (plex : Word) (col : ℕ) (xs : List Object) → list_any (λ o. is_subdisk (λ s. refers s.plex plex) o) xs ≡ false → runs_in plex col xs ≡ []
no_runs plex col [] e = refl
no_runs plex col (SubdiskRecord s ∷ xs) e =
    let parts = or_parts (refers s.plex plex) (list_any (λ o. is_subdisk (λ s. refers s.plex plex) o) xs) e in
    ap (λ (b : Bool). cond b ((s.at, s.len) ∷ runs_in plex col xs) (runs_in plex col xs)) (and_left (refers s.plex plex) (s.col == col) parts.0) ∙ no_runs plex col xs parts.1
no_runs plex col (o ∷ xs) e = no_runs plex col xs e

module _ (n : NewVolume) (plex : Word) (col : ℕ) where
  pub no_data_runs : (m : ℕ) (names : List Word) → runs_in plex col (data_plexes n m names) ≡ []
  no_data_runs m [] = refl
  no_data_runs m (name ∷ names) = no_data_runs (min (m + 1) 255) names

  pub no_log_runs : (names : List Word) → runs_in plex col (map (log_plex n) names) ≡ []
  no_log_runs [] = refl
  no_log_runs (name ∷ names) = no_log_runs names

  pub no_dco_runs : (dco : Word) → runs_in plex col (dco_of n dco) ≡ []
  no_dco_runs dco = by (has_logs n)
    where
      by : (b : Bool) → runs_in plex col (if b then DcoRecord (record { name = dco; vol = n.vol; maps = 32 }) ∷ [] else []) ≡ []
      by true = refl
      by false = refl

-- ---- of places

abbrev pub is_at : Word → ℕ → Place → Bool
is_at plex col p = bytes_eq p.plex plex && p.col == col

abbrev pub runs_at : Word → ℕ → List Place → List Run
runs_at plex col [] = []
runs_at plex col (p ∷ ps) = cond (is_at plex col p) ((p.at, p.extent.count) ∷ runs_at plex col ps) (runs_at plex col ps)

pub placed_runs : (plex : Word) (col : ℕ) (ps : List Place) (os : List Object) → ArePlaced ps os → runs_in plex col os ≡ runs_at plex col ps
placed_runs plex col [] [] h = refl
placed_runs plex col [] (o ∷ os) h = absurd h
placed_runs plex col (p ∷ ps) [] h = absurd h
placed_runs plex col (p ∷ ps) (o ∷ os) h =
    ap (λ (x : Object). runs_in plex col (x ∷ os)) h.0.1
    ∙ ap (λ (rs : List Run). cond (is_at plex col p) ((p.at, p.extent.count) ∷ rs) rs) (placed_runs plex col ps os h.1)

pub runs_at_both : (plex : Word) (col : ℕ) (ps qs : List Place) → runs_at plex col (ps ++ qs) ≡ runs_at plex col ps ++ runs_at plex col qs
runs_at_both plex col [] qs = refl
runs_at_both plex col (p ∷ ps) qs = by (is_at plex col p) (runs_at_both plex col ps qs)
  where
    by : (b : Bool) → runs_at plex col (ps ++ qs) ≡ runs_at plex col ps ++ runs_at plex col qs
        → cond b ((p.at, p.extent.count) ∷ runs_at plex col (ps ++ qs)) (runs_at plex col (ps ++ qs)) ≡ cond b ((p.at, p.extent.count) ∷ runs_at plex col ps) (runs_at plex col ps) ++ runs_at plex col qs
    by true e = ap (λ (rs : List Run). (p.at, p.extent.count) ∷ rs) e
    by false e = e

-- where none is in the column
pub none_at : (plex : Word) (col : ℕ) (ps : List Place) → ((p : Place) → IsIn ps p → is_at plex col p ≡ false) → runs_at plex col ps ≡ []
none_at plex col [] out = refl
none_at plex col (p ∷ ps) out =
    ap (λ (b : Bool). cond b ((p.at, p.extent.count) ∷ runs_at plex col ps) (runs_at plex col ps)) (out p (inl refl)) ∙ none_at plex col ps (λ q there. out q (inr there))

-- ---- a column of extents, one behind the other

abbrev pub runs_from : ℕ → List Extent → List Run
runs_from at [] = []
runs_from at (e ∷ es) = (at, e.count) ∷ runs_from (min (at + e.count) 18446744073709551615) es

pub from_chain : (at : ℕ) (es : List Extent) → at + size es ≤ 18446744073709551615 → chain at (runs_from at es) ≡ true
from_chain at [] le = refl
from_chain at (e ∷ es) le =
    let next : min (at + e.count) 18446744073709551615 ≡ at + e.count = omega (arith, le) in
    and_from (at == at) (chain (at + e.count) (runs_from (min (at + e.count) 18446744073709551615) es)) (eq-eqb at at refl)
    (subst (λ (k : ℕ). chain (at + e.count) (runs_from k es) ≡ true) (sym next) (from_chain (at + e.count) es (omega (arith, le))))

pub from_end : (at : ℕ) (es : List Extent) → at + size es ≤ 18446744073709551615 → last_end at (runs_from at es) ≡ at + size es
from_end at [] le = omega arith
from_end at (e ∷ es) le =
    let next : min (at + e.count) 18446744073709551615 ≡ at + e.count = omega (arith, le) in
    let later : max at (at + e.count) ≡ at + e.count = omega arith in
    let rest = from_end (at + e.count) es (omega (arith, le)) in
    let sum : at + e.count + size es ≡ at + (e.count + size es) = omega arith in
    ap (λ (k : ℕ). last_end k (runs_from (min (at + e.count) 18446744073709551615) es)) later
    ∙ ap (λ (k : ℕ). last_end (at + e.count) (runs_from k es)) next
    ∙ rest ∙ sum

from_full : (at : ℕ) (es : List Extent) → ((e : Extent) → IsIn es e → 0 < e.count) → list_all full (runs_from at es) ≡ true
from_full at [] some = refl
from_full at (e ∷ es) some =
    and_from (full (at, e.count)) (list_all full (runs_from (min (at + e.count) 18446744073709551615) es)) (lt-ltb 0 e.count (some e (inl refl)))
    (from_full (min (at + e.count) 18446744073709551615) es (λ f there. some f (inr there)))

from_begins : (es : List Extent) → 0 < size es → list_any (λ (r : Run). r.0 == 0) (runs_from 0 es) ≡ true
from_begins [] some = absurd (omega (arith, some))
from_begins (e ∷ es) some = or_left (0 == 0) (list_any (λ (r : Run). r.0 == 0) (runs_from (min (0 + e.count) 18446744073709551615) es)) refl

-- a column of some sectors is whole
pub from_good : (es : List Extent) → ((e : Extent) → IsIn es e → 0 < e.count) → 0 < size es → size es < 2 ^ 40 → good (runs_from 0 es) ≡ true
from_good es filled some low =
    and_from (list_any (λ (r : Run). r.0 == 0) (runs_from 0 es)) (list_all (follows 0 (runs_from 0 es)) (runs_from 0 es)) (from_begins es some)
    (chain_follows 0 (runs_from 0 es) (from_full 0 es filled) (from_chain 0 es (omega (arith, low))))
