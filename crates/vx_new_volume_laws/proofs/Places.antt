-- The subdisks of a new volume are put one after the other: each extent of the plan has a place in a column of a plex or a log.
use Rattle.std.proofs.Common.{◌≡◌, ℕ, ◌+◌, min, Option, Some, None, List, [], ◌∷◌, ◌++◌, refl, sym, ap, ◌∙◌}
use Rattle.vx_base.specs.Named.{Word}
use Rattle.vx_space.specs.declared.extent.Extent.{Extent}
use Rattle.vx_new_volumes.specs.declared.parts.Plan.{Plan}
use Rattle.vx_new_volumes.specs.Laying.{Laid, put_column, put_columns, put_extent, put_logs, put_plexes}
use Rattle.vx_new_volumes.specs.Naming.{and_then}
use Rattle.vx_new_volumes.specs.Records.{subdisks}

pub record Place : Type 0 where
  pub plex : Word
  pub col : ℕ
  pub at : ℕ
  pub extent : Extent

abbrev pub column_places : Word → ℕ → ℕ → List Extent → List Place
column_places plex col at [] = []
column_places plex col at (e ∷ es) = record { plex = plex; col = col; at = at; extent = e } ∷ column_places plex col (min (at + e.count) 18446744073709551615) es

abbrev pub columns_places : Word → ℕ → List (List Extent) → List Place
columns_places plex col [] = []
columns_places plex col (c ∷ cs) = column_places plex col 0 c ++ columns_places plex (min (col + 1) 4294967295) cs

abbrev pub plexes_places : List Word → List (List (List Extent)) → List Place
plexes_places [] ps = []
plexes_places (name ∷ names) [] = []
plexes_places (name ∷ names) (p ∷ ps) = columns_places name 0 p ++ plexes_places names ps

abbrev pub logs_places : List Word → List (List Extent) → List Place
logs_places [] ls = []
logs_places (name ∷ names) [] = []
logs_places (name ∷ names) (l ∷ ls) = column_places name 0 0 l ++ logs_places names ls

-- the places of a plan
abbrev pub places : List Word → List Word → Plan → List Place
places plexes logs plan = plexes_places plexes plan.plexes ++ logs_places logs plan.logs

abbrev pub put_place : List Word → Place → Laid → Option Laid
put_place known p l = put_extent known p.plex p.col p.at p.extent l

-- extents are put at these places
abbrev pub put_each : List Word → List Place → Laid → Option Laid
put_each known [] l = Some l
put_each known (p ∷ ps) l = and_then (put_place known p l) (put_each known ps)

abbrev pub none_laid : Laid
none_laid = record { objects = []; nexts = [] }

then_same : {A B : Type 0} (o : Option A) (f g : A → Option B) → ((a : A) → f a ≡ g a) → and_then o f ≡ and_then o g
then_same None f g same = refl
then_same (Some a) f g same = same a

then_then : {A B C : Type 0} (o : Option A) (f : A → Option B) (g : B → Option C) → and_then o (λ a. and_then (f a) g) ≡ and_then (and_then o f) g
then_then None f g = refl
then_then (Some a) f g = refl

module _ (known : List Word) where
  put_both : (ps qs : List Place) (l : Laid) → put_each known (ps ++ qs) l ≡ and_then (put_each known ps l) (put_each known qs)
  put_both [] qs l = refl
  put_both (p ∷ ps) qs l =
      then_same (put_place known p l) (put_each known (ps ++ qs)) (λ m. and_then (put_each known ps m) (put_each known qs)) (put_both ps qs)
      ∙ then_then (put_place known p l) (put_each known ps) (put_each known qs)

  column_put : (plex : Word) (col at : ℕ) (es : List Extent) (l : Laid) → put_column known plex col at es l ≡ put_each known (column_places plex col at es) l
  column_put plex col at [] l = refl
  column_put plex col at (e ∷ es) l =
      then_same (put_extent known plex col at e l) (put_column known plex col (min (at + e.count) 18446744073709551615) es) (put_each known (column_places plex col (min (at + e.count) 18446744073709551615) es))
      (column_put plex col (min (at + e.count) 18446744073709551615) es)

  columns_put : (plex : Word) (col : ℕ) (cs : List (List Extent)) (l : Laid) → put_columns known plex col cs l ≡ put_each known (columns_places plex col cs) l
  columns_put plex col [] l = refl
  columns_put plex col (c ∷ cs) l =
      ap (λ (o : Option Laid). and_then o (put_columns known plex (min (col + 1) 4294967295) cs)) (column_put plex col 0 c l)
      ∙ then_same (put_each known (column_places plex col 0 c) l) (put_columns known plex (min (col + 1) 4294967295) cs) (put_each known (columns_places plex (min (col + 1) 4294967295) cs)) (columns_put plex (min (col + 1) 4294967295) cs)
      ∙ sym (put_both (column_places plex col 0 c) (columns_places plex (min (col + 1) 4294967295) cs) l)

  plexes_put : (names : List Word) (ps : List (List (List Extent))) (l : Laid) → put_plexes known names ps l ≡ put_each known (plexes_places names ps) l
  plexes_put [] ps l = refl
  plexes_put (name ∷ names) [] l = refl
  plexes_put (name ∷ names) (p ∷ ps) l =
      ap (λ (o : Option Laid). and_then o (put_plexes known names ps)) (columns_put name 0 p l)
      ∙ then_same (put_each known (columns_places name 0 p) l) (put_plexes known names ps) (put_each known (plexes_places names ps)) (plexes_put names ps)
      ∙ sym (put_both (columns_places name 0 p) (plexes_places names ps) l)

  logs_put : (names : List Word) (ls : List (List Extent)) (l : Laid) → put_logs known names ls l ≡ put_each known (logs_places names ls) l
  logs_put [] ls l = refl
  logs_put (name ∷ names) [] l = refl
  logs_put (name ∷ names) (es ∷ ls) l =
      ap (λ (o : Option Laid). and_then o (put_logs known names ls)) (column_put name 0 0 es l)
      ∙ then_same (put_each known (column_places name 0 0 es) l) (put_logs known names ls) (put_each known (logs_places names ls)) (logs_put names ls)
      ∙ sym (put_both (column_places name 0 0 es) (logs_places names ls) l)

  -- the subdisks of a plan are put at its places
  pub subdisks_put : (plexes logs : List Word) (plan : Plan) → subdisks known plexes logs plan ≡ put_each known (places plexes logs plan) none_laid
  subdisks_put plexes logs plan =
      ap (λ (o : Option Laid). and_then o (put_logs known logs plan.logs)) (plexes_put plexes plan.plexes none_laid)
      ∙ then_same (put_each known (plexes_places plexes plan.plexes) none_laid) (put_logs known logs plan.logs) (put_each known (logs_places logs plan.logs)) (logs_put logs plan.logs)
      ∙ sym (put_both (plexes_places plexes plan.plexes) (logs_places logs plan.logs) none_laid)
