-- What a volume at rest has marked: its plexes that may miss something.
use Rattle.std.proofs.Common.{◌≡◌, ◌∙◌, ℕ, zero, suc, ◌<◌, Bool, true, false, ◌||◌, List, [], ◌∷◌, map, length, Option, Some, None, refl, sym, ap, subst, inl, arith}
use Rattle.std.specs.Prelude.{Contains}
use Rattle.std.specs.List.{list_any, filter}
use Rattle.vx_pages.specs.declared.local_piece.LocalPiece.{Ghosts}
use Rattle.vx_pages.specs.Items.{item_at}
use Rattle.vx_base.specs.Named.{Word}
use Rattle.vx_block.specs.Regions.{region_count}
use Rattle.vx_mask.specs.Mask.{has}
use Rattle.vx_piece.specs.Seen.{Seen}
use Rattle.vx_cell.specs.Changes.{CellSeen}
use Rattle.vx_copies.specs.Disks.{DiskSeen}
use Rattle.vx_config_parts.specs.declared.plex.Plex.{Plex}
use Rattle.vx_config_parts.specs.Objects.{is_data_plex_of}
use Rattle.vx_image.proofs.PlexMembers.{in_map}
use Rattle.vx_image.specs.Bytes.{Sectors, map_or_zero, plex_image}
use Rattle.vx_image.specs.Image.{PlexImage}
use Rattle.vx_image.proofs.Members.{contains, is_in}
use Rattle.vx_moments.specs.World.{Group, Volume}
use Rattle.vx_lending.proofs.Bits.{kept}
use Rattle.vx_volume.specs.Volume.{VolumeSeen, cell_at, no_cell, volume_seen}
use Rattle.vx_volume_laws.specs.Running.{RunsAsVolume}
use Rattle.vx_lending.specs.declared.public.Running.{Running}
use Rattle.vx_group_stop.specs.Stops.{AreMarked}
use Rattle.vx_state_edits.specs.Edits.{is_marked}
use Rattle.vx_stages.specs.Stopping.{AreMarksOf}
use Rattle.vx_house.specs.Runs.{IsRunOf}

-- what is so at an index is so of some item
any_at : {A : Type 0} (test : A → Bool) (none : A) (xs : List A) (i : ℕ) → i < length xs → test (item_at none xs i) ≡ true → list_any test xs ≡ true
any_at test none [] i inside is = absurd (omega arith)
any_at test none (x ∷ xs) zero inside is = ap (λ b. b || list_any test xs) is
any_at test none (x ∷ xs) (suc i) inside is = by (test x) (any_at test none xs i (omega arith) is)
  where
    by : (b : Bool) → list_any test xs ≡ true → (b || list_any test xs) ≡ true
    by true rest = refl
    by false rest = rest

-- what is so of some item is so at an index
at_any : {A : Type 0} (test : A → Bool) (none : A) (xs : List A) → list_any test xs ≡ true → (i : ℕ) × (i < length xs) × (test (item_at none xs i) ≡ true)
at_any test none [] any = absurd cc
at_any {A = A} test none (x ∷ xs) any = by (test x) refl any (at_any test none xs)
  where
    by : (b : Bool) → test x ≡ b → (b || list_any test xs) ≡ true → (list_any test xs ≡ true → (i : ℕ) × (i < length xs) × (test (item_at none xs i) ≡ true)) → (i : ℕ) × (i < length (x ∷ xs)) × (test (item_at none (x ∷ xs) i) ≡ true)
    by true e any rest = (0, omega arith, e)
    by false e any rest = let r = rest any in let inside = r.1 in (suc r.0, omega (arith, inside), r.2)

in_kept : {X : Type 0} (test : X → Bool) (xs : List X) (x : X) → Contains xs x → test x ≡ true → Contains (filter test xs) x
in_kept test xs x there is = contains (filter test xs) x (kept test xs x (is_in xs x there) is)

map_marked : (marks : ℕ) (o : Option ℕ) → is_marked marks o ≡ has marks (map_or_zero o)
map_marked marks None = refl
map_marked marks (Some k) = refl

module _ {P : Type 0} {ghosts : Ghosts P} (see : P → Seen) (hs : List DiskSeen) (g : Group) (name : Word) (r : Running P ghosts) (w : Volume) (run : IsRunOf see hs g name r w) (sound : w.sound ≡ true) (marks : ℕ) (are : AreMarked (volume_seen see r.volume) marks) where
  abbrev v : VolumeSeen
  v = volume_seen see r.volume

  abbrev runs : RunsAsVolume run.plexes v w
  runs = run.runs_as sound

  -- it has so many regions
  regions : region_count w.length w.region ≡ length v.cells
  regions = ap (λ n. region_count n w.region) runs.length_is ∙ ap (λ n. region_count v.length n) runs.region_is ∙ sym run.placed.runs.whole.count

  image_of_plex : (p : Plex) → Contains g.config.plexes p → is_data_plex_of name p ≡ true → (q : PlexImage) × Contains run.plexes q × (q.name ≡ p.name) × (q.map ≡ map_or_zero p.map)
  image_of_plex p there is_data =
      let bytes : Sectors = λ slot k. [] in
      let image : PlexImage = plex_image g.config g.good bytes p in
      let of_volume : is_data_plex_of run.of.name p ≡ true = ap (λ n. is_data_plex_of n p) run.named ∙ is_data in
      let here = in_map (plex_image g.config g.good bytes) (filter (is_data_plex_of run.of.name) g.config.plexes) p
      (is_in (filter (is_data_plex_of run.of.name) g.config.plexes) p (in_kept (is_data_plex_of run.of.name) g.config.plexes p there of_volume)) in
      run.plexes_of bytes image (contains (map (plex_image g.config g.good bytes) (filter (is_data_plex_of run.of.name) g.config.plexes)) image here)

  pub marks_of : AreMarksOf g name w marks
  marks_of = record {
    sure = λ p there is_data region inside missing.
        let q = image_of_plex p there is_data in
        let within : region < length v.cells = subst (λ n. region < n) regions inside in
        let surely : (w.tracks q.0.name).sure region ≡ true = ap (λ (t : Word). (w.tracks t).sure region) q.2 ∙ missing in
        let bits : has (cell_at v region).stage.bits q.0.map ≡ true = ((runs.each region within).tracks q.0 q.1).sure (run.sure sound q.0 q.1 region within surely) surely in
        map_marked marks p.map ∙ ap (has marks) (sym q.3) ∙ are q.0.map ∙ any_at (λ (cell : CellSeen). has cell.stage.bits q.0.map) no_cell v.cells region within bits;
    possible = λ p there is_data marked.
        let q = image_of_plex p there is_data in
        let some : has marks q.0.map ≡ true = ap (has marks) q.3 ∙ sym (map_marked marks p.map) ∙ marked in
        let r = at_any (λ (cell : CellSeen). has cell.stage.bits q.0.map) no_cell v.cells (sym (are q.0.map) ∙ some) in
        let inside : r.0 < region_count w.length w.region = subst (λ n. r.0 < n) (sym regions) r.1 in
        (r.0, inside, ap (λ (t : Word). (w.tracks t).possible r.0) (sym q.2) ∙ ((runs.each r.0 r.1).tracks q.0 q.1).possible (inl r.2));
  }
