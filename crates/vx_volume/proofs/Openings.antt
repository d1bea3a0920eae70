-- The cells of a volume that is opened, one region after the other.
use Rattle.std.proofs.Common.{◌≡◌, ℕ, zero, suc, ◌+◌, ◌<◌, refl, sym, ◌∙◌, ap, subst, arith, List, [], ◌∷◌, ◌++◌, length, map, reverse, below_more}
use Rattle.std.proofs.lemmas.List.{append_assoc, length-map, map_push, reverse-append, reverse-reverse}
use Rattle.vx_cell.specs.Changes.{CellSeen}
use Rattle.vx_cell.specs.Plexes.{PlexSeen}
use Rattle.vx_marks.specs.Log.{LogSeen}
use Rattle.vx_pages.specs.Items.{item_at}
use Rattle.vx_maps.proofs.FetchRows.{before_at, last_at}
use Rattle.vx_volume.specs.declared.volume.VolumeShape.{VolumeShape}
use Rattle.vx_volume.specs.Opening.{AreOpenedCells, IsOpenedCell}
use Rattle.vx_volume.specs.Volume.{no_cell}

-- ---- a list that is turned round

pub no_items : {T : Type 0} (xs : List T) → length xs ≡ 0 → xs ≡ []
no_items [] e = refl
no_items (x ∷ xs) e = absurd (omega (arith, e))

module _ {T A : Type 0} (see : T → A) where
  turned : (xs : List T) → map see (reverse xs) ≡ reverse (map see xs)
  turned [] = refl
  turned (x ∷ xs) = ap (map see) (reverse-append (x ∷ []) xs) ∙ map_push see (reverse xs) x ∙ ap (λ (ys : List A). ys ++ see x ∷ []) (turned xs) ∙ sym (reverse-append (see x ∷ []) (map see xs))

  pub turned_back : (xs left : List T) → left ≡ reverse xs → reverse (map see left) ≡ map see xs
  turned_back xs left e = ap (λ (ys : List T). reverse (map see ys)) e ∙ ap reverse (turned xs) ∙ reverse-reverse (map see xs)

  pub taken : (done all : List A) (left rest : List T) (x : T) → left ≡ rest ++ x ∷ [] → done ++ reverse (map see left) ≡ all → (done ++ see x ∷ []) ++ reverse (map see rest) ≡ all
  taken done all left rest x e same =
      let last : reverse (map see left) ≡ see x ∷ [] ++ reverse (map see rest) = ap (λ (ys : List T). reverse (map see ys)) e ∙ ap reverse (map_push see rest x) ∙ reverse-append (map see rest) (see x ∷ []) in
      append_assoc done (see x ∷ []) (reverse (map see rest)) ∙ ap (λ (ys : List A). done ++ ys) (sym last) ∙ same

  pub pushed : (xs ys : List T) (x : T) → ys ≡ xs ++ x ∷ [] → map see ys ≡ map see xs ++ see x ∷ []
  pushed xs ys x e = ap (map see) e ∙ map_push see xs x

-- ---- cells

abbrev pub plexes_in : CellSeen → List PlexSeen
plexes_in cell = cell.plexes

pub plexes_pushed : (cells more : List CellSeen) (cell : CellSeen) (ps : List PlexSeen) → more ≡ cells ++ cell ∷ [] → cell.plexes ≡ ps → map plexes_in more ≡ map plexes_in cells ++ ps ∷ []
plexes_pushed cells more cell ps e is = pushed plexes_in cells more cell e ∙ ap (λ (qs : List PlexSeen). map plexes_in cells ++ qs ∷ []) is

plexes_at : (cells : List CellSeen) (r : ℕ) → item_at [] (map plexes_in cells) r ≡ (item_at no_cell cells r).plexes
plexes_at [] r = refl
plexes_at (c ∷ cs) zero = refl
plexes_at (c ∷ cs) (suc r) = plexes_at cs r

-- the first cells are those of their plexes
abbrev pub FirstOpened : VolumeShape → LogSeen → ℕ → List CellSeen → Type 0
FirstOpened shape log n cells = (r : ℕ) → r < n → IsOpenedCell shape log r (item_at no_cell cells r).plexes (item_at no_cell cells r)

module _ (shape : VolumeShape) (log : LogSeen) where
  pub plexes_opened : (r : ℕ) (ps : List PlexSeen) (cell : CellSeen) → IsOpenedCell shape log r ps cell → cell.plexes ≡ ps
  plexes_opened r ps cell is = ap plexes_in is.is

  pub opened_push : (n : ℕ) (cells : List CellSeen) (ps : List PlexSeen) (cell : CellSeen) → length cells ≡ n → FirstOpened shape log n cells → IsOpenedCell shape log n ps cell → FirstOpened shape log (n + 1) (cells ++ cell ∷ [])
  opened_push n cells ps cell size each is =
      below_more (λ (r : ℕ). IsOpenedCell shape log r (item_at no_cell (cells ++ cell ∷ []) r).plexes (item_at no_cell (cells ++ cell ∷ []) r)) n
      (λ r lt. subst (λ (x : CellSeen). IsOpenedCell shape log r x.plexes x) (sym (before_at no_cell cells cell r (subst (λ (m : ℕ). r < m) (sym size) lt))) (each r lt))
      (subst (λ (x : CellSeen). IsOpenedCell shape log n x.plexes x) (sym (ap (λ (m : ℕ). item_at no_cell (cells ++ cell ∷ []) m) (sym size) ∙ last_at no_cell cells cell))
      (subst (λ (qs : List PlexSeen). IsOpenedCell shape log n qs cell) (sym (ap plexes_in is.is)) is))

  pub all_opened : (n : ℕ) (cells : List CellSeen) (regions : List (List PlexSeen)) → length cells ≡ n → map plexes_in cells ≡ regions → FirstOpened shape log n cells → AreOpenedCells shape log regions cells
  all_opened n cells regions size same each =
      let long : length cells ≡ length regions = sym (length-map cells plexes_in) ∙ ap (λ (xs : List (List PlexSeen)). length xs) same in
      record {
        count = long;
        each = λ r lt.
            subst (λ (ps : List PlexSeen). IsOpenedCell shape log r ps (item_at no_cell cells r)) (sym (plexes_at cells r) ∙ ap (λ (xs : List (List PlexSeen)). item_at [] xs r) same)
            (each r (omega (arith, long, size, lt)));
      }
