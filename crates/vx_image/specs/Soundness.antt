-- When an image is sound, and when two of volumes in a relation are.
use Rattle.std.specs.Prelude.{◌≡◌, ◌⊎◌, ℕ, ◌/◌, ◌<◌, Bool, true, false, List, Contains}
use Rattle.vx_config_parts.specs.declared.state.VolState.{VolState}
use Rattle.vx_config_parts.specs.declared.state.VolState.TheVariants as vol
use Rattle.vx_image.specs.Image.{PlexImage, Image, regions_of, is_stale, is_marked_by_all, is_marked_by_some}

-- a choice of the marks of a region: what every copy marks, and no more than what some copy marks
pub record IsChoiceOfMarks (v : Image) (r : ℕ) (B : ℕ → Bool) : Type 0 where
  pub least : (k : ℕ) → is_marked_by_all v r k ≡ true → B k ≡ true
  pub most : (k : ℕ) → B k ≡ true → is_marked_by_some v r k ≡ true

-- a held plex among these that the choice leaves unmarked
pub record IsUnmarkedPlex (plexes : List PlexImage) (B : ℕ → Bool) (p : PlexImage) : Type 0 where
  pub of : Contains plexes p
  pub held : p.held ≡ true
  pub unmarked : B p.map ≡ false

-- the unmarked held plexes hold the same in the region
abbrev pub PlexesAgree : Image → ℕ → (ℕ → Bool) → Type 0
PlexesAgree v r B = (p q : PlexImage) → IsUnmarkedPlex v.plexes B p → IsUnmarkedPlex v.plexes B q → (b : ℕ) → b < v.length → b / v.region ≡ r → p.values b ≡ q.values b

-- the region is dirty, and no stale plex that is held is unmarked
pub record IsDirtyBy (v : Image) (B : ℕ → Bool) : Type 0 where
  pub dirty : B 30 ≡ true
  pub stale : (p : PlexImage) → Contains v.plexes p → is_stale p ≡ true → p.held ≡ true → B p.map ≡ true

-- the plexes may differ by the volume's state: it is empty, or it was started and the region is dirty
abbrev pub MayDiffer : VolState → Image → (ℕ → Bool) → Type 0
MayDiffer vol.Empty v B = Unit {0}
MayDiffer vol.Clean v B = ⊥
MayDiffer vol.Active v B = IsDirtyBy v B
MayDiffer vol.NeedSync v B = IsDirtyBy v B
MayDiffer vol.Sync v B = IsDirtyBy v B

-- the region is sound by this choice of its marks
pub record IsSoundBy (v : Image) (r : ℕ) (B : ℕ → Bool) : Type 0 where
  -- some plex is unmarked
  pub unmarked : (p : PlexImage) × Contains v.plexes p × (B p.map ≡ false)
  -- the unmarked held plexes agree, or may differ
  pub agree : PlexesAgree v r B ⊎ MayDiffer v.state v B
  -- where the map of a relation is clear they agree, also in a dirty region
  pub tracked : (m : ℕ) → Contains v.snaps m → B m ≡ false → PlexesAgree v r B

-- The image is sound: each of its regions is, whichever choice one takes for the marks.
abbrev pub IsSoundImage : Image → Type 0
IsSoundImage v = (r : ℕ) (B : ℕ → Bool) → r < regions_of v → IsChoiceOfMarks v r B → IsSoundBy v r B

-- Two volumes in a relation, by its map in each: where both maps are clear, all unmarked held plexes of both agree.
abbrev pub IsSoundPair : Image → ℕ → Image → ℕ → Type 0
IsSoundPair v m w n =
    (r : ℕ) (B C : ℕ → Bool) → r < regions_of v → IsChoiceOfMarks v r B → IsChoiceOfMarks w r C → B m ≡ false → C n ≡ false →
    (p q : PlexImage) → IsUnmarkedPlex v.plexes B p → IsUnmarkedPlex w.plexes C q → (b : ℕ) → b < v.length → b / v.region ≡ r → p.values b ≡ q.values b
