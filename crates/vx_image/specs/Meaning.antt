-- What an image says of its volume: the values that a block may have, the regions in which a plex surely differs or may differ,
-- and the dirty regions; and when it stands for what is known of them.
use Rattle.std.specs.Prelude.{◌≡◌, ℕ, ◌/◌, ◌<◌, Bool, true, not, ◌&&◌, nat_le, List, map, Contains}
use Rattle.std.specs.List.{list_all, filter}
use Rattle.vx_base.specs.Blocks.{Contents}
use Rattle.vx_life.specs.Candidates.{OneOf, IsAmong, IsChosen, Candidates}
use Rattle.vx_config_parts.specs.declared.state.VolState.{VolState}
use Rattle.vx_config_parts.specs.declared.state.VolState.TheVariants as vol
use Rattle.vx_image.specs.Image.{PlexImage, Image, regions_of, is_marked_by_all, is_marked_by_some, has_no_copy, is_read}

-- ---- what is read

-- what the plexes hold of a block
abbrev pub plex_values : ℕ → List PlexImage → List (List ℕ)
plex_values b ps = map (λ p. p.values b) ps

-- those of the lowest map
abbrev pub lowest_of : List PlexImage → List PlexImage
lowest_of ps = filter (λ p. list_all (λ q. nat_le p.map q.map) ps) ps

-- the plexes that are read in a region, by the volume's state: an empty volume is read from its lowest plex
abbrev pub plexes_read : VolState → Image → ℕ → List PlexImage
plexes_read vol.Empty v r = lowest_of v.plexes
plexes_read vol.Clean v r = filter (is_read v r) v.plexes
plexes_read vol.Active v r = filter (is_read v r) v.plexes
plexes_read vol.NeedSync v r = filter (is_read v r) v.plexes
plexes_read vol.Sync v r = filter (is_read v r) v.plexes

-- the plex is read at the block
abbrev pub IsReadAt : Image → ℕ → PlexImage → Type 0
IsReadAt v b p = Contains (plexes_read v.state v (b / v.region)) p

-- the candidates of a block: what the plexes hold that are read there
abbrev pub candidates_read : Image → Candidates
candidates_read v b = OneOf (plex_values b (plexes_read v.state v (b / v.region)))

-- the regions in which a map is surely marked: every copy shows it, and there is one
abbrev pub sure_read : Image → ℕ → ℕ → Bool
sure_read v k r = not (has_no_copy v) && is_marked_by_all v r k

-- the regions in which a map may be marked: some copy shows it
abbrev pub possible_read : Image → ℕ → ℕ → Bool
possible_read v k r = is_marked_by_some v r k

-- the dirty regions
abbrev pub dirty_read : Image → ℕ → Bool
dirty_read v = possible_read v 30

-- ---- what it stands for

-- each value that is read is among the candidates
abbrev pub StandsForCandidates : Image → Candidates → Type 0
StandsForCandidates v candidates = (b : ℕ) → b < v.length → (p : PlexImage) → IsReadAt v b p → IsAmong (candidates b) (p.values b)

-- every copy marks the map in each of these regions
abbrev pub IsMarkedInEach : Image → ℕ → (ℕ → Bool) → Type 0
IsMarkedInEach v k sure = (r : ℕ) → r < regions_of v → sure r ≡ true → is_marked_by_all v r k ≡ true

-- a copy marks the map only in these regions
abbrev pub IsMarkedWithin : Image → ℕ → (ℕ → Bool) → Type 0
IsMarkedWithin v k possible = (r : ℕ) → r < regions_of v → is_marked_by_some v r k ≡ true → possible r ≡ true

-- one list is read: at each block the plexes that are read hold the same, and it is among these candidates
pub record ReadsOneList (v : Image) (candidates : Candidates) (list : Contents) : Type 0 where
  pub among : IsChosen v.length candidates list
  pub reads : (b : ℕ) → b < v.length → (p : PlexImage) → IsReadAt v b p → p.values b ≡ list b

-- ---- laws

-- An image stands for the candidates that are read from it, ..
abbrev pub EachImageStandsForItself : Type 0
EachImageStandsForItself = (v : Image) → StandsForCandidates v (candidates_read v)

-- .. and these lie within whatever candidates it stands for.
abbrev pub EachReadingIsWithin : Type 0
EachReadingIsWithin =
    (v : Image) (candidates : Candidates) → StandsForCandidates v candidates →
    (b : ℕ) (value : List ℕ) → b < v.length → IsAmong (candidates_read v b) value → IsAmong (candidates b) value
