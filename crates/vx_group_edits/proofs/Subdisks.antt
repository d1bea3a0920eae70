-- The subdisks that a plan is laid as pass a test, where each subdisk of an extent does that passes another.
use Rattle.std.proofs.Common.{◌≡◌, ℕ, ◌+◌, min, Bool, true, Option, Some, None, List, [], ◌∷◌, ◌++◌, refl, ◌∙◌, subst, inl, inr}
use Rattle.std.specs.List.{list_all}
use Rattle.std.proofs.lemmas.Bool.{and_from, and_parts}
use Rattle.std.proofs.lemmas.List.Folds.{list_all-append}
use Rattle.vx_base.specs.Named.{Word}
use Rattle.vx_config_parts.specs.declared.object.Object.{Object}
use Rattle.vx_image.proofs.PlexMembers.{IsIn}
use Rattle.vx_space.specs.declared.extent.Extent.{Extent}
use Rattle.vx_new_volumes.specs.Laying.{Laid, next_on, put_column, put_columns, put_extent, put_logs, put_plexes, subdisk, with_next}
use Rattle.vx_new_volumes.specs.Naming.{Numbered, and_then, next_name}

pub then_some : {A B : Type 0} (a : Option A) (next : A → Option B) (b : B) → and_then a next ≡ Some b → (x : A) × (a ≡ Some x) × (next x ≡ Some b)
then_some None next b is = cc
then_some (Some x) next b is = (x, refl, is)

module _ (test : Object → Bool) (fit : Extent → Bool) (known : List Word) (plex : Word) (each : (name : Word) (col at : ℕ) (e : Extent) → fit e ≡ true → test (subdisk name plex col at e) ≡ true) where
  abbrev AllPass : Laid → Type 0
  AllPass l = list_all test l.objects ≡ true

  same_laid : (l m : Laid) → Some l ≡ Some m → AllPass l → AllPass m
  same_laid l m is pass = let same : l ≡ m = cc in subst AllPass same pass

  extent_passes : (col at : ℕ) (e : Extent) (l m : Laid) → fit e ≡ true → put_extent known plex col at e l ≡ Some m → AllPass l → AllPass m
  extent_passes col at e l m fits is pass =
      let next : Numbered → Laid = λ t. (let laid : Laid = record { objects = l.objects ++ subdisk t.name plex col at e ∷ []; nexts = with_next e.disk (t.number + 1) l.nexts } in laid) in
      let t = then_some (next_name known e.disk (next_on l.nexts e.disk)) (λ t. Some (next t)) m is in
      let new : list_all test (subdisk t.0.name plex col at e ∷ []) ≡ true = and_from (test (subdisk t.0.name plex col at e)) true (each t.0.name col at e fits) refl in
      same_laid (next t.0) m t.2 (list_all-append test l.objects (subdisk t.0.name plex col at e ∷ []) ∙ and_from _ _ pass new)

  -- the subdisks of one column
  pub column_passes : (col at : ℕ) (es : List Extent) (l m : Laid) → list_all fit es ≡ true → put_column known plex col at es l ≡ Some m → AllPass l → AllPass m
  column_passes col at [] l m fits is pass = same_laid l m is pass
  column_passes col at (e ∷ es) l m fits is pass =
      let parts = and_parts (fit e) (list_all fit es) fits in
      let t = then_some (put_extent known plex col at e l) (put_column known plex col (min (at + e.count) 18446744073709551615) es) m is in
      column_passes col (min (at + e.count) 18446744073709551615) es t.0 m parts.1 t.2 (extent_passes col at e l t.0 parts.0 t.1 pass)

  columns_pass : (col : ℕ) (cs : List (List Extent)) (l m : Laid) → list_all (list_all fit) cs ≡ true → put_columns known plex col cs l ≡ Some m → AllPass l → AllPass m
  columns_pass col [] l m fits is pass = same_laid l m is pass
  columns_pass col (c ∷ cs) l m fits is pass =
      let parts = and_parts (list_all fit c) (list_all (list_all fit) cs) fits in
      let t = then_some (put_column known plex col 0 c l) (put_columns known plex (min (col + 1) 4294967295) cs) m is in
      columns_pass (min (col + 1) 4294967295) cs t.0 m parts.1 t.2 (column_passes col 0 c l t.0 parts.0 t.1 pass)

  -- the subdisks of the one plex
  pub plex_passes : (ps : List (List (List Extent))) (l m : Laid) → list_all (list_all (list_all fit)) ps ≡ true → put_plexes known (plex ∷ []) ps l ≡ Some m → list_all test l.objects ≡ true → list_all test m.objects ≡ true
  plex_passes [] l m fits is pass = same_laid l m is pass
  plex_passes (p ∷ ps) l m fits is pass =
      let parts = and_parts (list_all (list_all fit) p) (list_all (list_all (list_all fit)) ps) fits in
      let t = then_some (put_columns known plex 0 p l) (put_plexes known [] ps) m is in
      same_laid t.0 m t.2 (columns_pass 0 p l t.0 parts.0 t.1 pass)

laid_is : (l m : Laid) → Some l ≡ Some m → l ≡ m
laid_is l m e = cc

-- the subdisks of logs of these names
pub logs_pass : (test : Object → Bool) (fit : Extent → Bool) (known names : List Word) → ((plex : Word) → IsIn names plex → (name : Word) (col at : ℕ) (e : Extent) → fit e ≡ true → test (subdisk name plex col at e) ≡ true) →
    (logs : List (List Extent)) (l m : Laid) → list_all (list_all fit) logs ≡ true → put_logs known names logs l ≡ Some m → list_all test l.objects ≡ true → list_all test m.objects ≡ true
logs_pass test fit known [] each logs l m fits is pass = subst (λ (x : Laid). list_all test x.objects ≡ true) (laid_is l m is) pass
logs_pass test fit known (n ∷ names) each [] l m fits is pass = subst (λ (x : Laid). list_all test x.objects ≡ true) (laid_is l m is) pass
logs_pass test fit known (n ∷ names) each (es ∷ logs) l m fits is pass =
    let parts = and_parts (list_all fit es) (list_all (list_all fit) logs) fits in
    let t = then_some (put_column known n 0 0 es l) (put_logs known names logs) m is in
    logs_pass test fit known names (λ plex there. each plex (inr there)) logs t.0 m parts.1 t.2 (column_passes test fit known n (each n (inl refl)) 0 0 es l t.0 parts.0 t.1 pass)
