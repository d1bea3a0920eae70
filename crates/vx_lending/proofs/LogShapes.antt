-- What the shape of a log is to the geometry of its volume.
use Rattle.std.proofs.Common.{◌≡◌, ℕ, ◌/◌, ◌∙◌, List, [], ◌∷◌, refl, ap}
use Rattle.std.specs.List.{All}
use Rattle.std.proofs.lemmas.List.Elements.{All-nil, All-append}
use Rattle.vx_block.specs.Regions.{region_count}
use Rattle.vx_block.specs.declared.geometry.Geometry.{Geometry}
use Rattle.vx_mapfmt.specs.declared.shape.DcoShape.{DcoShape}
use Rattle.vx_mapfmt.specs.Header.{maps_header}
use Rattle.vx_mapfmt.specs.Sizes.{map_bytes_of}
use Rattle.vx_piece.specs.Seen.{Seen}
use Rattle.vx_cut.specs.Same.{HasSome}
use Rattle.vx_maps.specs.Copies.{AreCopies}
use Rattle.vx_maps.specs.Loading.{header_of}
use Rattle.vx_lending.specs.Logs.{log_header}
use Rattle.vx_lending.specs.Pieces.{copy_pieces}
use Rattle.vx_lending.specs.Taken.{AreLogCopies, slot_of}

module _ (shape : DcoShape) (geometry : Geometry) (same : shape.geometry ≡ geometry) where
  pub header_is : header_of shape ≡ log_header geometry
  header_is = ap (maps_header shape.geometry.length shape.geometry.region) shape.maps_known ∙ ap log_header same

  pub regions_are : shape.regions ≡ region_count geometry.length geometry.region
  regions_are = shape.counted ∙ ap (λ (g : Geometry). region_count g.length g.region) same

  pub slot_is : shape.map_bytes / 512 ≡ slot_of geometry
  slot_is = ap (λ n. n / 512) (shape.map_sized ∙ ap map_bytes_of regions_are)

pub some_copies : (size : ℕ) (copies : List (List Seen)) → (copies ≡ [] → ⊥) → AreLogCopies size copies → AreCopies size copies
some_copies size [] some are = absurd (some refl)
some_copies size (x ∷ xs) some are = are

-- no piece of the copies is empty
pub none_empty : (size : ℕ) (copies : List (List Seen)) → AreLogCopies size copies → All HasSome (copy_pieces copies)
none_empty size [] are = All-nil HasSome
none_empty size (x ∷ []) are = All-append HasSome x [] are.some (All-nil HasSome)
none_empty size (x ∷ y ∷ []) are = All-append HasSome x (copy_pieces (y ∷ [])) are.0.some (All-append HasSome y [] are.1.some (All-nil HasSome))
none_empty size (x ∷ y ∷ z ∷ more) are = absurd are
