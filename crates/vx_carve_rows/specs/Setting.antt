-- Four disks, and the layouts of plexes on them.
use Rattle.std.specs.Prelude.{◌≡◌, ℕ, ◌<◌, nat_le, Bool, true, List, [], ◌∷◌, length, slice_index_or}
use Rattle.std.specs.List.{list_all, flat_map}
use Rattle.vx_piece.specs.Seen.{Seen}
use Rattle.vx_layout.specs.declared.strip.Strip.{Strip}
use Rattle.vx_layout.specs.declared.run.Run.{Run}
use Rattle.vx_layout.specs.declared.layout.Layout.{Layout}
use Rattle.vx_layout.specs.Columns.{capacity, one_strip}
use Rattle.vx_layout.specs.Valid.{is_layout, is_apart}
use Rattle.vx_carve.specs.Strips.{all_lie_in, HaveTogether}

-- the numbers of the devices of the four slots
abbrev pub numbers : List ℕ
numbers = 0 ∷ 1 ∷ 2 ∷ 3 ∷ []

abbrev pub stretch : ℕ → ℕ → Run
stretch sectors disk = record { disk = disk; sector = 0; count = sectors; block = 0 }

-- the public regions of the disks, of so many sectors each
abbrev pub stretches : ℕ → List Run
stretches sectors = stretch sectors 0 ∷ stretch sectors 1 ∷ stretch sectors 2 ∷ stretch sectors 3 ∷ []

-- no strip of the one has a sector of a strip of the other
abbrev pub is_apart_from : List (List Strip) → List (List Strip) → Bool
is_apart_from columns columns' = list_all (λ x. list_all (is_apart x) (flat_map (λ strips. strips) columns')) (flat_map (λ strips. strips) columns)

-- a column of one strip on each disk
abbrev pub four_strips : ℕ → ℕ → List (List Strip)
four_strips start count = one_strip 0 start count ∷ one_strip 1 start count ∷ one_strip 2 start count ∷ one_strip 3 start count ∷ []

-- columns that are a layout in the public regions, for so many blocks
pub record IsPlexIn (sectors blocks unit : ℕ) (columns : List (List Strip)) : Type 0 where
  pub layout : is_layout unit columns ≡ true
  pub inside : all_lie_in (stretches sectors) columns ≡ true
  pub holds : nat_le blocks (capacity columns) ≡ true

-- the layouts are in the public regions, hold so many blocks, and have no sector in common
pub record AreSetOut (sectors blocks : ℕ) (ls : List Layout) : Type 0 where
  pub inside : list_all (λ (l : Layout). all_lie_in (stretches sectors) l.columns) ls ≡ true
  pub holds : list_all (λ (l : Layout). nat_le blocks (capacity l.columns)) ls ≡ true
  pub apart : (j k : ℕ) (d : Layout) → j < length ls → k < length ls → j < k → (is_apart_from (slice_index_or ls j d).columns (slice_index_or ls k d).columns ≡ true) × (is_apart_from (slice_index_or ls k d).columns (slice_index_or ls j d).columns ≡ true)

-- the pieces are together the public regions of the disks
abbrev pub ArePublic : ℕ → List Seen → Type 0
ArePublic sectors ps = HaveTogether numbers (stretches sectors) ps
