-- The tests of a column over all records, as tests of its runs.
use Rattle.std.proofs.Common.{◌≡◌, ℕ, ◌+◌, Bool, true, false, cond, max, nat_le, List, [], ◌∷◌, Option, Some, None, refl, sym, ap, ◌∙◌, arith, zero-add, ◌&&◌, ◌||◌, ◌==◌}
use Rattle.std.specs.List.{list_any, list_all, count_by, fold}
use Rattle.std.specs.Option.{is_some}
use Rattle.std.proofs.lemmas.Bool.{and_parts, eqb-true}
use Rattle.vx_base.specs.Named.{Word}
use Rattle.vx_config_parts.specs.declared.subdisk.Subdisk.{Subdisk}
use Rattle.vx_config_parts.specs.declared.object.Object.{Object}
use Rattle.vx_config_parts.specs.declared.object.Object.TheVariants.{SubdiskRecord}
use Rattle.vx_config_parts.specs.Objects.{is_subdisk, refers}
use Rattle.vx_rules.specs.declared.piece.Piece.{Piece}
use Rattle.vx_rules.specs.declared.column.Column.{Column}
use Rattle.vx_rules.specs.Keys.{Key}
use Rattle.vx_rules.specs.Columns.{is_in_column, piece_follows, end_with, column_length}
use Rattle.vx_rules.specs.Pieces.{pieces, piece_before, is_in, grow, or_new, column_after, end_of, whole_of}
use Rattle.vx_rules.specs.Indexed.{follows_in, column_is_whole, column_is_there}
use Rattle.vx_rules.proofs.Runs.{Run, chain, follows, good}
use Rattle.vx_rules.proofs.ListTests.{count_more}

-- the runs of a column among pieces
abbrev pub runs : Key → List Piece → List Run
runs q [] = []
runs q (p ∷ ps) = cond (is_in q p) ((p.at, p.len) ∷ runs q ps) (runs q ps)

-- the runs of a column among records
abbrev pub runs_in : Word → ℕ → List Object → List Run
runs_in plex col [] = []
runs_in plex col (SubdiskRecord s ∷ os) = cond (is_in_column plex col s) ((s.at, s.len) ∷ runs_in plex col os) (runs_in plex col os)
runs_in plex col (o ∷ os) = runs_in plex col os

runs_before : (q : Key) (o : Option Word) (s : Subdisk) (ps : List Piece) → runs q (piece_before o s ps) ≡ cond (refers o q.0 && s.col == q.1) ((s.at, s.len) ∷ runs q ps) (runs q ps)
runs_before q None s ps = refl
runs_before q (Some n) s ps = refl

pub runs_same : (plex : Word) (col : ℕ) (all : List Object) → runs (plex, col) (pieces all) ≡ runs_in plex col all
runs_same plex col [] = refl
runs_same plex col (SubdiskRecord s ∷ os) = runs_before (plex, col) s.plex s (pieces os) ∙ ap (λ rs. cond (is_in_column plex col s) ((s.at, s.len) ∷ rs) rs) (runs_same plex col os)
runs_same plex col (o ∷ os) = runs_same plex col os

-- some piece of the column passes where some run does
any_run : (plex : Word) (col : ℕ) (g : ℕ → ℕ → Bool) (all : List Object) → list_any (λ o. is_subdisk (λ s. is_in_column plex col s && g s.at s.len) o) all ≡ list_any (λ r. g r.0 r.1) (runs_in plex col all)
any_run plex col g [] = refl
any_run plex col g (SubdiskRecord s ∷ os) = by (is_in_column plex col s) (any_run plex col g os)
  where
    by : (b : Bool) → list_any (λ o. is_subdisk (λ t. is_in_column plex col t && g t.at t.len) o) os ≡ list_any (λ r. g r.0 r.1) (runs_in plex col os) → ((b && g s.at s.len) || list_any (λ o. is_subdisk (λ t. is_in_column plex col t && g t.at t.len) o) os) ≡ list_any (λ r. g r.0 r.1) (cond b ((s.at, s.len) ∷ runs_in plex col os) (runs_in plex col os))
    by true h = ap (λ c. g s.at s.len || c) h
    by false h = h
any_run plex col g (o ∷ os) = any_run plex col g os

count_run : (plex : Word) (col : ℕ) (g : ℕ → ℕ → Bool) (all : List Object) → count_by (λ o. is_subdisk (λ s. is_in_column plex col s && g s.at s.len) o) all ≡ count_by (λ r. g r.0 r.1) (runs_in plex col all)
count_run plex col g [] = refl
count_run plex col g (SubdiskRecord s ∷ os) =
    count_more (λ o. is_subdisk (λ t. is_in_column plex col t && g t.at t.len) o) (SubdiskRecord s) os ∙ by (is_in_column plex col s) (count_run plex col g os)
  where
    by : (b : Bool) → count_by (λ o. is_subdisk (λ t. is_in_column plex col t && g t.at t.len) o) os ≡ count_by (λ r. g r.0 r.1) (runs_in plex col os) → cond (b && g s.at s.len) 1 0 + count_by (λ o. is_subdisk (λ t. is_in_column plex col t && g t.at t.len) o) os ≡ count_by (λ r. g r.0 r.1) (cond b ((s.at, s.len) ∷ runs_in plex col os) (runs_in plex col os))
    by true h = ap (λ n. cond (g s.at s.len) 1 0 + n) h ∙ sym (count_more (λ r. g r.0 r.1) (s.at, s.len) (runs_in plex col os))
    by false h = zero-add _ ∙ h
count_run plex col g (o ∷ os) = count_more (λ o. is_subdisk (λ s. is_in_column plex col s && g s.at s.len) o) o os ∙ (zero-add _ ∙ count_run plex col g os)

follows_run : (all : List Object) (plex : Word) (s : Subdisk) → piece_follows all plex s ≡ follows 0 (runs_in plex s.col all) (s.at, s.len)
follows_run all plex s =
    ap (λ b. (s.at == 0 || b) && nat_le (count_by (λ o. is_subdisk (λ t. is_in_column plex s.col t && t.at == s.at) o) all) 1) (any_run plex s.col (λ at len. at + len == s.at) all)
    ∙ ap (λ n. (s.at == 0 || list_any (λ r. r.0 + r.1 == s.at) (runs_in plex s.col all)) && nat_le n 1) (count_run plex s.col (λ at len. at == s.at) all)

all_run : (all os : List Object) (plex : Word) (col : ℕ) → list_all (follows_in all plex col) os ≡ list_all (follows 0 (runs_in plex col all)) (runs_in plex col os)
all_run all [] plex col = refl
all_run all (SubdiskRecord s ∷ os) plex col = by (is_in_column plex col s) refl (all_run all os plex col)
  where
    by : (b : Bool) → is_in_column plex col s ≡ b → list_all (follows_in all plex col) os ≡ list_all (follows 0 (runs_in plex col all)) (runs_in plex col os) → (cond b (piece_follows all plex s) true && list_all (follows_in all plex col) os) ≡ list_all (follows 0 (runs_in plex col all)) (cond b ((s.at, s.len) ∷ runs_in plex col os) (runs_in plex col os))
    by true e h =
        let same : s.col ≡ col = eqb-true s.col col (and_parts (refers s.plex plex) (s.col == col) e).1 in
        ap (λ c. c && list_all (follows_in all plex col) os) (follows_run all plex s ∙ ap (λ k. follows 0 (runs_in plex k all) (s.at, s.len)) same) ∙ ap (λ c. follows 0 (runs_in plex col all) (s.at, s.len) && c) h
    by false e h = h
all_run all (o ∷ os) plex col = all_run all os plex col

-- a column is whole where its runs are good
pub whole_run : (all : List Object) (plex : Word) (col : ℕ) → column_is_whole all plex col ≡ good (runs_in plex col all)
whole_run all plex col =
    ap (λ b. b && list_all (follows_in all plex col) all) (any_run plex col (λ at len. at == 0) all)
    ∙ ap (λ b. list_any (λ r. r.0 == 0) (runs_in plex col all) && b) (all_run all all plex col)

-- where the last of the runs ends
abbrev pub last_end : ℕ → List Run → ℕ
last_end end rs = fold (λ e r. max e (r.0 + r.1)) end rs

length_from : (plex : Word) (col end : ℕ) (os : List Object) → fold (end_with plex col) end os ≡ last_end end (runs_in plex col os)
length_from plex col end [] = refl
length_from plex col end (SubdiskRecord s ∷ os) = by (is_in_column plex col s) (λ e. length_from plex col e os)
  where
    by : (b : Bool) → ((e : ℕ) → fold (end_with plex col) e os ≡ last_end e (runs_in plex col os)) → fold (end_with plex col) (cond b (max end (s.at + s.len)) end) os ≡ last_end end (cond b ((s.at, s.len) ∷ runs_in plex col os) (runs_in plex col os))
    by true h = h (max end (s.at + s.len))
    by false h = h end
length_from plex col end (o ∷ os) = length_from plex col end os

pub length_run : (all : List Object) (plex : Word) (col : ℕ) → column_length all plex col ≡ last_end 0 (runs_in plex col all)
length_run all plex col = length_from plex col 0 all

pub there_run : (all : List Object) (plex : Word) (col : ℕ) → column_is_there all plex col ≡ list_any (λ r. true) (runs_in plex col all)
there_run [] plex col = refl
there_run (SubdiskRecord s ∷ os) plex col = by (is_in_column plex col s) (there_run os plex col)
  where
    by : (b : Bool) → column_is_there os plex col ≡ list_any (λ r. true) (runs_in plex col os) → (b || column_is_there os plex col) ≡ list_any (λ r. true) (cond b ((s.at, s.len) ∷ runs_in plex col os) (runs_in plex col os))
    by true h = refl
    by false h = h
there_run (o ∷ os) plex col = there_run os plex col

-- what is found of a column, run by run
abbrev pub grow_run : Option Column → Run → Option Column
grow_run c r = Some (record { end = max (or_new c).end (r.0 + r.1); whole = (or_new c).whole && r.0 == (or_new c).end })

pub column_runs : (q : Key) (c : Option Column) (ps : List Piece) → fold (column_after q) c ps ≡ fold grow_run c (runs q ps)
column_runs q c [] = refl
column_runs q c (p ∷ ps) = by (is_in q p) (λ d. column_runs q d ps)
  where
    by : (b : Bool) → ((d : Option Column) → fold (column_after q) d ps ≡ fold grow_run d (runs q ps)) → fold (column_after q) (cond b (Some (grow (or_new c) p)) c) ps ≡ fold grow_run c (cond b ((p.at, p.len) ∷ runs q ps) (runs q ps))
    by true h = h (Some (grow (or_new c) p))
    by false h = h c

pub found_end : (c : Column) (rs : List Run) → end_of (fold grow_run (Some c) rs) ≡ last_end c.end rs
found_end c [] = refl
found_end c (r ∷ rs) = found_end (record { end = max c.end (r.0 + r.1); whole = c.whole && r.0 == c.end }) rs

pub found_is : (c : Column) (rs : List Run) → is_some (fold grow_run (Some c) rs) ≡ true
found_is c [] = refl
found_is c (r ∷ rs) = found_is (record { end = max c.end (r.0 + r.1); whole = c.whole && r.0 == c.end }) rs

pub found_whole : (c : Column) (rs : List Run) → whole_of (fold grow_run (Some c) rs) ≡ (c.whole && chain c.end rs)
found_whole c [] = and_true c.whole
  where
    and_true : (b : Bool) → b ≡ (b && true)
    and_true true = refl
    and_true false = refl
found_whole c (r ∷ rs) = found_whole (record { end = max c.end (r.0 + r.1); whole = c.whole && r.0 == c.end }) rs ∙ by (r.0 == c.end) refl
  where
    assoc : (a b c : Bool) → ((a && b) && c) ≡ (a && (b && c))
    assoc true b c = refl
    assoc false b c = refl

    ends : (x e n : ℕ) → x ≡ e → max e (x + n) ≡ x + n
    ends x e n same = omega arith

    by : (b : Bool) → (r.0 == c.end) ≡ b → ((c.whole && b) && chain (max c.end (r.0 + r.1)) rs) ≡ (c.whole && (b && chain (r.0 + r.1) rs))
    by true e = assoc c.whole true (chain (max c.end (r.0 + r.1)) rs) ∙ ap (λ n. c.whole && chain n rs) (ends r.0 c.end r.1 (eqb-true r.0 c.end e))
    by false e = assoc c.whole false (chain (max c.end (r.0 + r.1)) rs)
