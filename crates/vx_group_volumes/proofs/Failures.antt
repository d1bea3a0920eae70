-- A plex that failed in a region has a device that failed, and so has the log.
use Rattle.std.proofs.Common.{◌≡◌, inl, inr, ℕ, zero, suc, ◌+◌, ◌<◌, Bool, true, List, [], ◌∷◌, length, map, refl, sym, ap, ◌∙◌, subst, arith}
use Rattle.std.specs.Prelude.{slice_index_or}
use Rattle.std.specs.List.{All, list_any}
use Rattle.std.proofs.lemmas.Bool.{and_parts}
use Rattle.std.proofs.lemmas.List.{length-map}
use Rattle.vx_piece.specs.Seen.{Seen}
use Rattle.vx_carve.specs.Carved.{ArePieces}
use Rattle.vx_carve.specs.Together.{HasSome, covers, faults_on}
use Rattle.vx_fronts.specs.Rests.{is_of}
use Rattle.vx_layout.specs.declared.layout.Layout.{Layout}
use Rattle.vx_layout.specs.declared.run.Run.{Run}
use Rattle.vx_layout.specs.declared.strip.Strip.{Strip}
use Rattle.vx_layout.specs.Runs.{AreRuns}
use Rattle.vx_pages.specs.declared.local_piece.LocalPiece.{Ghosts}
use Rattle.vx_cell.specs.Changes.{CellSeen}
use Rattle.vx_cell.specs.Plexes.{PieceRose, PlexSeen, RoseAt}
use Rattle.vx_config_parts.specs.declared.plex.Plex.{Plex}
use Rattle.vx_config_parts.specs.declared.vol.Vol.{Vol}
use Rattle.vx_config_parts.specs.Objects.{is_data_plex_of, is_log, is_log_plex_of, refers}
use Rattle.vx_objects.specs.declared.config.Config.{Config}
use Rattle.vx_image.specs.Lies.{columns_of}
use Rattle.vx_image.proofs.PlexMembers.{IsIn, in_any}
use Rattle.vx_image.specs.Bytes.{map_or_zero}
use Rattle.vx_image.proofs.Members.{contains, is_in}
use Rattle.vx_volume.specs.Volume.{VolumeSeen, cell_at, log_of, volume_seen}
use Rattle.vx_lending.specs.RegionPieces.{all_pieces, own_pieces}
use Rattle.vx_lending.specs.RegionsTaken.{own_map}
use Rattle.vx_lending.specs.declared.form.VolumeForm.{VolumeForm}
use Rattle.vx_lending.specs.Form.{AreLayouts, IsFormOf, IsLayoutOf}
use Rattle.vx_lending.specs.FormLaws.{good_disks}
use Rattle.vx_image.specs.UsedPlexes.{held_plexes, maps_of, used_logs}
use Rattle.vx_lending.proofs.Maps.{one_of_map}
use Rattle.vx_lending.proofs.Places.{IsTaken, columns_lie, held_taken, log_taken}
use Rattle.vx_lending.proofs.Zips.{zip_length}
use Rattle.vx_lending.specs.Left.{region_plexes}
use Rattle.vx_lending.specs.Logs.{log_copies, log_pieces}
use Rattle.vx_lending.specs.Pieces.{copy_pieces}
use Rattle.vx_lending.specs.Pieces.{own_pieces as own_copy}
use Rattle.vx_volume_laws.proofs.OpenedImages.{some_of}
use Rattle.vx_volume_laws.specs.Lying.{LiesAs}
use Rattle.vx_volume_laws.proofs.Plexes.{plexes_at}
use Rattle.vx_volume_laws.proofs.Spots.{all_right, cut_lies, cut_long}
use Rattle.vx_lending.specs.declared.public.Running.{Running}
use Rattle.vx_group_calls.proofs.HeldPieces.{log_stays}
use Rattle.vx_group_volumes.specs.Places.{disks_at}
use Rattle.vx_group_volumes.proofs.Held.{layout_plex}
use Rattle.vx_group_volumes.proofs.Spots.{IsAtBlock, any_flat, mapped_at, on_block}
use Rattle.vx_group_volumes.proofs.Strips.{place_own}
use Rattle.vx_group_volumes.specs.Devices.{LiesOnDevice}
use Rattle.vx_group_volumes.specs.PlexLaws.{DataFailuresAreOwn, LogFailuresAreOwn}
use Rattle.vx_group_volumes.proofs.Counts.{covers_first, rose_some, some_covered, still_of}
use Rattle.vx_group_volumes.proofs.Devices.{moved_device, on_device}
use Rattle.vx_group_volumes.proofs.Plexes.{log_now, opened_plex, plex_now}

-- ---- which piece has failed

-- a piece of the plex with the map is of the device
pub record HasPieceOn (k device : ℕ) (ps : List PlexSeen) : Type 0 where
  pub index : ℕ
  pub inside : index < length ps
  pub map_is : slice_index_or (map own_map ps) index 0 ≡ k
  pub piece : Seen
  pub there : IsIn (slice_index_or (map own_pieces ps) index []) piece
  pub on : piece.device ≡ device

piece_in : (i device : ℕ) (ps qs : List Seen) → PieceRose i device ps qs → (x : Seen) × IsIn ps x × (x.device ≡ device)
piece_in zero device [] qs rose = absurd rose
piece_in zero device (p ∷ ps) [] rose = absurd rose
piece_in zero device (p ∷ ps) (q ∷ qs) rose = (p, inl refl, rose.0)
piece_in (suc i) device [] qs rose = absurd rose
piece_in (suc i) device (p ∷ ps) [] rose = absurd rose
piece_in (suc i) device (p ∷ ps) (q ∷ qs) rose = let r = piece_in i device ps qs rose in (r.0, inr r.1, r.2)

rose_in : (k piece device : ℕ) (ps qs : List PlexSeen) → RoseAt k piece device ps qs → HasPieceOn k device ps
rose_in k piece device [] qs rose = absurd rose
rose_in k piece device (p ∷ ps) [] rose = absurd rose
rose_in k piece device (p ∷ ps) (q ∷ qs) (inl here) =
    let r = piece_in here.1 device p.pieces q.pieces here.3 in
    record { index = 0; inside = omega arith; map_is = here.0; piece = r.0; there = r.1; on = r.2 }
rose_in k piece device (p ∷ ps) (q ∷ qs) (inr rest) =
    let r = rose_in k piece device ps qs rest in
    let lt = r.inside in
    record { index = suc r.index; inside = omega (arith, lt); map_is = r.map_is; piece = r.piece; there = r.there; on = r.on }

-- no piece of a cut is empty
some_piece : (numbers : List ℕ) (unit : ℕ) (columns : List (List Strip)) (runs : List Run) (ps : List Seen) (start end : ℕ) → AreRuns unit columns start end runs → ArePieces numbers runs ps → (x : Seen) → IsIn ps x → 0 < x.sectors
some_piece numbers unit columns [] [] start end are pieces x there = absurd there
some_piece numbers unit columns [] (p ∷ ps) start end are pieces x there = absurd pieces
some_piece numbers unit columns (run ∷ runs) [] start end are pieces x there = absurd pieces
some_piece numbers unit columns (run ∷ runs) (p ∷ ps) start end are pieces x (inl same) =
    let some = are.1.some in
    let count = pieces.0.count_is in
    let own : x.sectors ≡ p.sectors = ap (λ (s : Seen). s.sectors) same in
    omega (arith, some, count, own)
some_piece numbers unit columns (run ∷ runs) (p ∷ ps) start end are pieces x (inr rest) = some_piece numbers unit columns runs ps (start + run.count) end are.3 pieces.1 x rest

-- so a piece of it has its first sector
piece_covered : (device : ℕ) (ps : List Seen) (x : Seen) → IsIn ps x → x.device ≡ device → 0 < x.sectors → list_any (covers device x.start) ps ≡ true
piece_covered device ps x there on some = in_any (covers device x.start) ps x there (covers_first x device on some)

-- ---- the plex of a layout

-- the plex at an index, with its layout and map
pub record IsPlexAt (c : Config) (plexes : List Plex) (index : ℕ) (l : Layout) : Type 0 where
  pub plex : Plex
  pub there : IsIn plexes plex
  pub layout : IsLayoutOf c plex l
  pub map_is : slice_index_or (maps_of plexes) index 0 ≡ map_or_zero plex.map

plex_at : (c : Config) (plexes : List Plex) (layouts : List Layout) (j : ℕ) (d : Layout) → AreLayouts c plexes layouts → j < length layouts → IsPlexAt c plexes j (slice_index_or layouts j d)
plex_at c [] [] j d are lt = absurd (omega (arith, lt))
plex_at c [] (l ∷ ls) j d are lt = absurd are
plex_at c (p ∷ ps) [] j d are lt = absurd are
plex_at c (p ∷ ps) (l ∷ ls) zero d are lt = record { plex = p; there = inl refl; layout = are.0; map_is = refl }
plex_at c (p ∷ ps) (l ∷ ls) (suc j) d are lt =
    let r = plex_at c ps ls j d are.1 (omega (arith, lt)) in
    record { plex = r.plex; there = inr r.there; layout = r.layout; map_is = r.map_is }

same_map : (own maps : List ℕ) (j m k : ℕ) → own ≡ maps → slice_index_or maps j 0 ≡ m → slice_index_or own j 0 ≡ k → m ≡ k
same_map own maps j m k same at has = sym at ∙ ap (λ (ms : List ℕ). slice_index_or ms j 0) (sym same) ∙ has

module _ (c : Config) (good : ℕ) (v : Vol) (fresh : Bool) (form : VolumeForm) (is : IsFormOf c good v fresh form) (numbers : List ℕ) (device : ℕ) where
  -- a plex of which a block lies on the device
  pub of_block : (p : Plex) (l : Layout) (k : ℕ) → IsTaken c good v p → IsLayoutOf c p l → IsAtBlock numbers l.unit l.columns device k → LiesOnDevice c (good_disks good c.disks) numbers p device
  of_block p l k taken lay block =
      let at : IsAtBlock numbers p.unit (columns_of c p) device k =
      subst (λ u. IsAtBlock numbers u (columns_of c p) device k) lay.unit (subst (λ columns. IsAtBlock numbers l.unit columns device k) lay.columns block) in
      let r = place_own c (good_disks good c.disks) p at.block at.place (columns_lie c good p taken.held p.ncol 0) at.at in
      on_device c (good_disks good c.disks) numbers p at.place device r.0 r.1 at.number_is

  -- the data plex of a map, of which a piece is of the device
  pub record IsDataOn (map : ℕ) : Type 0 where
    pub plex : Plex
    pub there : IsIn c.plexes plex
    pub data_is : is_data_plex_of v.name plex ≡ true
    pub map_is : map_or_zero plex.map ≡ map
    pub lies : LiesOnDevice c (good_disks good c.disks) numbers plex device

  -- a log plex of which a piece is
  pub record IsLogOn : Type 0 where
    pub plex : Plex
    pub there : IsIn c.plexes plex
    pub log_is : is_log_plex_of v.name plex ≡ true
    pub lies : LiesOnDevice c (good_disks good c.disks) numbers plex device

  module _ (volume : VolumeSeen) (copies : List (List Seen)) (lies : LiesAs numbers form volume copies) where
    abbrev regions : List (List PlexSeen)
    regions = region_plexes volume.cells

    in_region : (k r : ℕ) → r < length volume.cells → HasPieceOn k device (slice_index_or regions r []) → IsDataOn k
    in_region k r lt has =
        let plexes = slice_index_or regions r [] in
        let number = length-map volume.cells (λ (cell : CellSeen). cell.plexes) in
        let taken = lies.regions r (omega (arith, number, lt)) in
        let j = has.index in
        let there = has.inside in
        let own = length-map plexes own_map in
        let all = length-map (held_plexes c good v.name) (λ (x : Plex). map_or_zero x.map) in
        let maps : map own_map plexes ≡ maps_of (held_plexes c good v.name) = taken.maps_are ∙ is.maps in
        let many = ap length maps in
        let long = zip_length (IsLayoutOf c) (held_plexes c good v.name) form.layouts.items is.layouts in
        let laid : j < length form.layouts.items = omega (arith, own, all, many, long, there) in
        let d = some_of form.layouts.items j laid in
        let l = slice_index_or form.layouts.items j d in
        let ps = slice_index_or (map own_pieces plexes) j [] in
        let cut = taken.cut j d laid in
        let p = plex_at c (held_plexes c good v.name) form.layouts.items j d is.layouts laid in
        let t = held_taken c good v p.plex p.there in
        let some = some_piece numbers l.unit l.columns cut.runs ps _ _ cut.are_runs cut.pieces has.piece has.there in
        let any = piece_covered device ps has.piece has.there has.on some in
        record {
          plex = p.plex;
          there = t.0.there;
          data_is = t.1;
          map_is = same_map (map own_map plexes) (maps_of (held_plexes c good v.name)) j (map_or_zero p.plex.map) k maps p.map_is has.map_is;
          lies = of_block p.plex l has.piece.start t.0 p.layout (on_block numbers l.unit l.columns _ _ ps (cut_lies numbers l.unit l.columns _ _ ps cut) (cut_long numbers l.unit l.columns _ _ ps cut) device has.piece.start any);
        }

    -- where some piece of the plex of this map failed in a region
    pub data_on : (k piece r : ℕ) (qs : List PlexSeen) → r < length volume.cells → RoseAt k piece device (cell_at volume r).plexes qs → IsDataOn k
    data_on k piece r qs lt rose = in_region k r lt (subst (HasPieceOn k device) (sym (plexes_at volume.cells r)) (rose_in k piece device (cell_at volume r).plexes qs rose))

    -- where a piece of the log is of the device
    pub log_on : All HasSome (copy_pieces copies) → list_any (is_of device) (copy_pieces copies) ≡ true → IsLogOn
    log_on all some =
        let first = some_covered device (copy_pieces copies) all some in
        let k = first.0 in
        let r = any_flat (covers device k) own_copy copies first.1 in
        let n = r.0 in
        let there = r.1 in
        let long = lies.logs.long in
        let laid : n < length form.logs.items = omega (arith, long, there) in
        let d = some_of form.logs.items n laid in
        let l = slice_index_or form.logs.items n d in
        let ps = slice_index_or copies n [] in
        let sectors = lies.logs.sectors n laid in
        let p = layout_plex c (used_logs v.dco c good fresh v.name) form.logs.items n d is.logs laid in
        let t = log_taken c good v fresh v.dco p.0 p.1 in
        record {
          plex = p.0;
          there = t.0.there;
          log_is = t.1;
          lies = of_block p.0 l k t.0 p.2 (on_block numbers l.unit l.columns 0 _ ps (lies.logs.each n d laid) (omega (arith, sectors)) device k (subst (λ ps. list_any (covers device k) ps ≡ true) (mapped_at own_copy [] copies n refl) r.2));
        }

-- ---- the laws

module _ {P : Type 0} {ghosts : Ghosts P} (running : Running P ghosts) where
  pub data_failures : (new : _) → DataFailuresAreOwn ghosts.seen running new
  data_failures new c good numbers v placed counted plexes were p there r lt rose =
      let runs = placed.runs in
      let o = runs.opening in
      let device = rose.1 in
      let was = opened_plex o plexes were p there in
      let on = data_on o.config o.good o.vol o.fresh running.form runs.form numbers device (volume_seen ghosts.seen running.volume) (log_copies ghosts.seen (log_of running.volume)) runs.lies.lies p.map rose.0 r
      (cell_at (volume_seen ghosts.seen new) r).plexes lt rose.2 in
      let one : on.plex ≡ was.plex = one_of_map o.config o.vol runs.of on.plex was.plex on.there was.there on.data_is was.data_is (on.map_is ∙ sym was.map_is) in
      let now = plex_now o.config o.good o.vol o.fresh c good v runs.keeps on.plex on.there on.data_is in
      record {
        plex = now.plex;
        there = contains c.plexes now.plex now.there;
        data_is = now.data_is;
        name_is = now.keeps.name ∙ ap (λ (x : Plex). x.name) one ∙ was.name_is;
        failed = record { device = device; lies = moved_device o.config c (disks_at o) numbers on.plex now.plex device now.keeps.lies.columns on.lies; rose = counted r p.map rose.0 device lt rose.2 };
      }

  pub log_failures : (new : _) → LogFailuresAreOwn ghosts.seen running new
  log_failures new c good numbers v placed some goes rose =
      let runs = placed.runs in
      let o = runs.opening in
      let pieces = log_pieces ghosts.seen (log_of running.volume) in
      let pieces' = log_pieces ghosts.seen (log_of new) in
      let device = rose.device in
      let any = still_of device pieces pieces' (log_stays (log_of running.volume) (log_of new) goes) (rose_some device (faults_on device pieces) pieces' rose.log) in
      let on = log_on o.config o.good o.vol o.fresh running.form runs.form numbers device (volume_seen ghosts.seen running.volume) (log_copies ghosts.seen (log_of running.volume)) runs.lies.lies
      (all_right HasSome (all_pieces (region_plexes (volume_seen ghosts.seen running.volume).cells)) pieces some) any in
      let parts = and_parts (refers on.plex.vol o.vol.name) (is_log on.plex.kind) on.log_is in
      let q = placed.places on.plex (contains o.config.plexes on.plex on.there) parts.0 in
      record {
        plex = q.plex;
        there = q.there;
        log_is = log_now o.config o.good o.vol o.fresh c good v runs.keeps on.plex q.plex on.there parts.1 (is_in c.plexes q.plex q.there) q.name q.own;
        failed = record { device = device; lies = moved_device o.config c (disks_at o) numbers on.plex q.plex device q.lies.columns on.lies; rose = rose.held };
      }
