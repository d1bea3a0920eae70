-- An image of which no copy marks what was healed.
use Rattle.std.specs.Prelude.{◌≡◌, ℕ, ◌<◌, true, false, Contains}
use Rattle.vx_mask.specs.Mask.{has}
use Rattle.vx_image.specs.Image.{Image, PlexImage, has_no_copy, is_available, regions_of}
use Rattle.vx_image.specs.Meaning.{dirty_read, possible_read, sure_read}

-- Some copy of the image counts, and none marks a region dirty, or one of an available plex. The mask has the plexes that are surely marked in
-- some region, and only such as some copy marks in one.
pub record IsWholeImage (image : Image) (mask : ℕ) : Type 0 where
  pub counts : has_no_copy image ≡ false
  pub clear : (r : ℕ) → r < regions_of image → dirty_read image r ≡ false
  pub whole : (p : PlexImage) → Contains image.plexes p → is_available p ≡ true → (r : ℕ) → r < regions_of image → possible_read image p.map r ≡ false
  pub sure : (p : PlexImage) → Contains image.plexes p → (r : ℕ) → r < regions_of image → sure_read image p.map r ≡ true → has mask p.map ≡ true
  pub possible : (p : PlexImage) → Contains image.plexes p → has mask p.map ≡ true → (r : ℕ) × (r < regions_of image) × (possible_read image p.map r ≡ true)
