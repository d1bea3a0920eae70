-- A plex that is parked: the group is the same, and the plex may join a volume that is marked for it.
use Rattle.std.proofs.Common.{◌≡◌, ℕ, ◌∙◌, List, [], ◌∷◌, ◌++◌, length, Some, refl, sym, ap, subst, arith}
use Rattle.std.specs.Prelude.{is_some}
use Rattle.std.specs.Global.{Vec}
use Rattle.std.proofs.lemmas.List.{length-map}
use Rattle.vx_block.specs.Regions.{region_count}
use Rattle.vx_piece.specs.Seen.{Seen}
use Rattle.vx_pages.specs.declared.local_piece.LocalPiece.{Ghosts}
use Rattle.vx_carve.specs.Together.{SameSectors}
use Rattle.vx_carve.specs.declared.pool.Pool.{Pool}
use Rattle.vx_carve.proofs.Again.{tells_self}
use Rattle.vx_carve.proofs.Same.{same_beside}
use Rattle.vx_cell.specs.Plexes.{plexes_seen}
use Rattle.vx_copies.specs.Disks.{DiskSeen}
use Rattle.vx_copies.specs.Lists.{Each}
use Rattle.vx_confdb.specs.Groups.{members}
use Rattle.vx_fronts.specs.Parted.{IsSameDisk}
use Rattle.vx_fronts.specs.Rests.{rests_of}
use Rattle.vx_volume.specs.Opening.{regions_seen}
use Rattle.vx_volume.specs.Volume.{volume_seen}
use Rattle.vx_lending.specs.RegionsTaken.{AreTakenRegions}
use Rattle.vx_lending.specs.Public.{lent_pieces, still_pieces}
use Rattle.vx_lending.specs.declared.public.Public.{Public}
use Rattle.vx_lending.specs.declared.public.Remains.{Remains}
use Rattle.vx_lending.specs.declared.public.Running.{Running}
use Rattle.vx_plex_pieces.specs.Laws.{EachTakenPlexMayBePut, EachTakenRegionIsARun}
use Rattle.vx_house.specs.Holders.{group_holders}
use Rattle.vx_house.specs.View.{IsGroupKept}
use Rattle.vx_house.specs.declared.house.Imported.{Imported}
use Rattle.vx_house.proofs.Laid.{holders_laid, parted_laid}
use Rattle.vx_stage_volumes.specs.Parting.{PartsGroup}
use Rattle.vx_stage_volumes.proofs.Otherwise.{sized_by}
use Rattle.vx_stage_mirrors.specs.Parking.{EachParkedPlexMayJoin, EachParkingParts}

-- ---- the house

same_disks : (hs : List DiskSeen) → Each IsSameDisk hs hs
same_disks [] = tt
same_disks (h ∷ hs) = (record { name = refl; device = refl; slot = refl; size = refl; good = refl; half = refl; number = refl; start = refl; stop = refl; private = λ p. p; told = tells_self 2048 h.seen.told }, same_disks hs)

module _ {P : Type 0} {ghosts : Ghosts P} (see : P → Seen) (alike : (p q : P) → is_some (see p).told ≡ is_some (see q).told) (old : Imported P ghosts) (kept : IsGroupKept see old) (pool : Pool P) (left : Vec (Remains P ghosts)) where
  abbrev now : Imported P ghosts
  now = record old { public = record old.public { pool = pool; left = left } }

  module _ (still : SameSectors (still_pieces see old.public) (still_pieces see (record old.public { pool = pool; left = left }))) where
    abbrev hs : List DiskSeen
    hs = members see old.base

    together : SameSectors (still_pieces see old.public ++ lent_pieces see old.public) (still_pieces see now.public ++ lent_pieces see now.public)
    together = same_beside (lent_pieces see old.public) (still_pieces see old.public) (still_pieces see now.public) still

    same_devices : group_holders see (Some now) ≡ group_holders see (Some old)
    same_devices = holders_laid see alike old now refl kept.whole.parted together

    kept_now : IsGroupKept see now
    kept_now = record {
      named = kept.named;
      text = kept.text;
      first = kept.first;
      carries = kept.carries;
      sized = sized_by (rests_of (still_pieces see old.public ++ lent_pieces see old.public) []) (rests_of (still_pieces see now.public ++ lent_pieces see now.public) []) hs same_devices kept.sized;
      slots = kept.slots;
      recorded = kept.recorded;
      whole = record { parted = parted_laid see alike old now refl kept.whole.parted together; volumes = kept.whole.volumes; stuck = kept.whole.stuck };
      placed = kept.placed;
    }

    parts : PartsGroup see old now
    parts = record { config = refl; base = refl; disks = same_disks (members see old.base); running = refl; stuck = refl; holders = same_devices; group = refl; kept = kept_now }

pub parking_parts : {P : Type 0} {ghosts : Ghosts P} (see : P → Seen) (old new : Imported P ghosts) → EachParkingParts see old new
parking_parts see old new alike kept lies = subst (PartsGroup see old) (sym lies.group) (parts see alike old kept new.public.pool new.public.left lies.still)

-- ---- the volume

pub parked_may_join : {P : Type 0} {ghosts : Ghosts P} (see : P → Seen) → EachTakenRegionIsARun → EachTakenPlexMayBePut → (old new : Public P ghosts) (r : Running P ghosts) → EachParkedPlexMayJoin see old new r
parked_may_join see are fits old new r numbers m l parked hs c good name is marked room enough =
    let runs = is.placed.runs in
    let last = parked.last in
    let v = volume_seen see r.volume in
    let g = r.form.shape.geometry in
    let regions = regions_seen see last.regions.items in
    let many : length regions ≡ region_count g.length g.region = length-map last.regions.items (λ plexes. plexes_seen see plexes.items) ∙ parked.long in
    let length_is : g.length ≡ v.length = sym runs.lies.lies.length_is in
    let region_is : g.region ≡ v.region = sym runs.lies.lies.region_is in
    let at : (length region : ℕ) → g.length ≡ length → g.region ≡ region → AreTakenRegions numbers (m ∷ []) (l ∷ []) length region regions =
    λ length region a b. subst (λ n. AreTakenRegions numbers (m ∷ []) (l ∷ []) length n regions) b (subst (λ n. AreTakenRegions numbers (m ∷ []) (l ∷ []) n g.region regions) a parked.regions) in
    record {
      may = record {
        before = old.left.items;
        last = last;
        left_is = parked.left;
        without = parked.without;
        one = (are numbers m l g.length g.region regions parked.regions).0;
        enough = (let long = parked.long in let count = last.regions.ok.0 in omega (arith, long, count, enough));
        may = record {
          whole = runs.whole;
          free = marked.free;
          plex = fits numbers m l v regions runs.whole (many ∙ ap (λ n. region_count n g.region) length_is ∙ ap (region_count v.length) region_is) (at v.length v.region length_is region_is) marked.marked;
          room = marked.room;
        };
      };
      taken = at is.of.len is.of.region (runs.form.shape_is.length_is ∙ sym runs.keeps.length_is) (runs.form.shape_is.region_is ∙ sym runs.keeps.region_is);
    }
