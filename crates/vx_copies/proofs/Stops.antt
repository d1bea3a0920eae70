-- A pass that stops at a disk.
use Rattle.std.proofs.Common.{◌≡◌, ℕ, ◌<◌, List, length, map, get_or, set, refl, arith}
use Rattle.vx_piece.specs.Seen.{Seen}
use Rattle.vx_copies.specs.declared.disk.Disk.{Disk}
use Rattle.vx_copies.specs.declared.disk.Pass.{Pass}
use Rattle.vx_copies.specs.declared.disk.Pass.TheVariants.{Done, Dropped, Cut}
use Rattle.vx_copies.specs.Lists.{Each, AllOf}
use Rattle.vx_copies.specs.Disks.{DiskSeen, disk_seen, IsReady, IsCut, good_count}
use Rattle.vx_copies.specs.Pass.{HalfEnds, HalvesEnd, ToggleEnds, TogglesEnd}
use Rattle.vx_copies.proofs.GoodCounts.{all_set, fewer, any_set, same_count}

module _ {P : Type 0} (see : P → Seen) (text : List ℕ) (olds : List DiskSeen) (ds : List (Disk P)) (i : ℕ) (d e : Disk P) (lt : i < length ds) (ready : AllOf IsReady (map (disk_seen see) ds)) (good : Each (λ a b. b.good ≡ a.good) olds (map (disk_seen see) ds)) where
  count : good_count (map (disk_seen see) ds) ≡ good_count olds
  count = same_count olds (map (disk_seen see) ds) good

  pub halves_stop : (r : Pass) → (r ≡ Done → ⊥) → HalfEnds r text (disk_seen see (get_or ds i e)) (disk_seen see d) → HalvesEnd r text olds (map (disk_seen see) (set ds i d))
  halves_stop Done not ends = absurd (not refl)
  halves_stop Dropped not ends = let less = fewer see ds i d e lt ends.1.0 ends.1.1 in (all_set see IsReady ds i d ready ends.0, omega (arith, less, count))
  halves_stop Cut not ends = any_set see IsCut ds i d lt ends

  pub toggles_stop : (r : Pass) (sequence mask : ℕ) → (r ≡ Done → ⊥) → ToggleEnds r sequence mask text (disk_seen see (get_or ds i e)) (disk_seen see d) → TogglesEnd r sequence mask text olds (map (disk_seen see) (set ds i d))
  toggles_stop Done sequence mask not ends = absurd (not refl)
  toggles_stop Dropped sequence mask not ends = let less = fewer see ds i d e lt ends.1.0 ends.1.1 in (all_set see IsReady ds i d ready ends.0, omega (arith, less, count))
  toggles_stop Cut sequence mask not ends = any_set see IsCut ds i d lt ends
