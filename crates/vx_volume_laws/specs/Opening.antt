-- How a volume is opened over its bytes.
use Rattle.std.specs.Prelude.{◌≡◌, ◌≢◌, ℕ, ◌/◌, ◌<◌, ◌==◌, ◌&&◌, nat_lt, Bool, true, false, List, [], ◌∷◌, if◌then◌else◌, Contains}
use Rattle.vx_base.specs.Blocks.{Contents}
use Rattle.vx_life.specs.Candidates.{IsAmong, Candidates}
use Rattle.vx_mask.specs.Mask.{has}
use Rattle.vx_core.specs.declared.stage.Phase.TheVariants.{Settled, Unsettled}
use Rattle.vx_core.specs.History.{NoCall}
use Rattle.vx_core.specs.Region.{RegionState}
use Rattle.vx_core.specs.Form.{IsStage}
use Rattle.vx_core.specs.Schedule.{IsFresh}
use Rattle.vx_core.specs.Soundness.{IsData}
use Rattle.vx_image.specs.Image.{PlexImage, LogCopy, Image, IsFilled, regions_of, is_available}
use Rattle.vx_image.specs.Meaning.{StandsForCandidates}
use Rattle.vx_image.specs.Soundness.{IsSoundImage}

-- the block lies in the region
abbrev pub is_block_of : Image → ℕ → ℕ → Bool
is_block_of v r b = nat_lt r (regions_of v) && (nat_lt b v.length && b / v.region == r)

-- the blocks of a region on a plex; past its end they are all alike
abbrev pub region_blocks : Image → ℕ → PlexImage → Contents
region_blocks v r p b = if is_block_of v r b then p.values b else []

-- Region r is opened by the marks that one copy shows, over these candidates: it is unsettled where the copy marks it dirty,
-- else settled; the available plexes are on and the others off; nothing has happened in it.
pub record IsOpened (v : Image) (c : LogCopy) (candidates : Candidates) (r : ℕ) (s : RegionState) : Type 0 where
  pub masks : IsStage s.stage s.around.fixed.held
  pub bits : (k : ℕ) → has s.stage.bits k ≡ c r k
  pub phase : s.stage.phase ≡ (if c r 30 then Unsettled else Settled)
  pub snaps : (m : ℕ) → has s.stage.snaps m ≡ true → Contains v.snaps m
  pub shows : (n k : ℕ) → n < s.around.fixed.copies → s.around.disks.marks.shows n k ≡ c r k
  pub tight : (k : ℕ) → s.around.disks.marks.loose k ≡ false
  pub held : (k : ℕ) → s.around.fixed.held k ≡ true → (p : PlexImage) × Contains v.plexes p × (p.map ≡ k) × (p.held ≡ true)
  pub values : (p : PlexImage) → Contains v.plexes p → p.held ≡ true → (b : ℕ) → s.around.disks.blocks p.map b ≡ region_blocks v r p b
  pub data_plexes : (p : PlexImage) → Contains v.plexes p → IsData s.stage p.map
  pub on : (p : PlexImage) → Contains v.plexes p → has s.stage.on p.map ≡ is_available p
  -- there is a current plex
  pub readable : (k : ℕ) × (has s.stage.on k ≡ true) × (c r k ≡ false)
  -- a relation's list is read from it where the relation is clear
  pub base : (m b : ℕ) → has s.stage.snaps m ≡ true → c r m ≡ false → s.around.fixed.base m b ≡ s.around.disks.blocks readable.0 b
  pub first : (b : ℕ) → is_block_of v r b ≡ true → s.around.fixed.first b ≡ candidates b
  pub beyond : (b : ℕ) → is_block_of v r b ≡ false → IsAmong (s.around.fixed.first b) []
  pub no_call : s.around.pending ≡ NoCall
  pub no_entries : s.around.entries ≡ []
  pub no_number : s.around.last ≡ s.around.fixed.from

-- no two of these plexes have one map
abbrev pub HaveOwnMaps : List PlexImage → Type 0
HaveOwnMaps [] = Unit {0}
HaveOwnMaps (p ∷ ps) = ((q : PlexImage) → Contains ps q → p.map ≢ q.map) × HaveOwnMaps ps

-- regions have blocks, and data plexes have maps of their own: what the rules of a configuration keep
pub record IsWellFormed (v : Image) : Type 0 where
  pub region : 0 < v.region
  pub maps : HaveOwnMaps v.plexes

-- Over sound bytes, by the marks of whichever copy, a volume that is opened begins a life: each region is fresh.
abbrev pub EachOpeningIsFresh : Type 0
EachOpeningIsFresh =
    (v : Image) (candidates : Candidates) →
    IsSoundImage v → StandsForCandidates v candidates → IsFilled v.state → IsWellFormed v →
    (c : LogCopy) → Contains v.copies c →
    (r : ℕ) (s : RegionState) → IsOpened v c candidates r s → IsFresh s
