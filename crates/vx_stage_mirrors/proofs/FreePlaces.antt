-- The sectors of a new plex are in the pool of its group.
use Rattle.std.proofs.Common.{◌≡◌, ◌∙◌, ℕ, ◌+◌, ◌-◌, ◌<◌, ◌≤◌, true, List, [], ◌∷◌, ◌++◌, map, refl, sym, ap, subst, arith}
use Rattle.std.specs.Prelude.{Contains, slice_index}
use Rattle.std.specs.List.{flat_map, list_all, list_any}
use Rattle.std.proofs.lemmas.List.{append-nil}
use Rattle.std.proofs.lemmas.List.Sums.{sum_by-append}
use Rattle.vx_pages.specs.declared.local_piece.LocalPiece.{Ghosts}
use Rattle.vx_base.specs.Named.{Word}
use Rattle.vx_piece.specs.Seen.{Seen}
use Rattle.vx_carve.specs.Strips.{EachStrip, IsFreeStrip, all_lie_in, lies_in}
use Rattle.vx_carve.specs.Together.{covers, has, owners}
use Rattle.vx_layout.specs.declared.place.Place.{Place}
use Rattle.vx_layout.specs.declared.strip.Strip.{Strip}
use Rattle.vx_layout.specs.Columns.{has_place}
use Rattle.vx_layout.specs.Valid.{is_apart}
use Rattle.vx_config_parts.specs.declared.object.Object.{Object}
use Rattle.vx_config_parts.specs.declared.plex.Plex.{Plex}
use Rattle.vx_objects.specs.declared.config.Config.{Config}
use Rattle.vx_objects.specs.declared.edit.Edit.TheVariants.{Make}
use Rattle.vx_objects.specs.Applied.{IsEdited}
use Rattle.vx_image.specs.Lies.{columns_of, strips_of}
use Rattle.vx_image.specs.Room.{public_of}
use Rattle.vx_image.proofs.Apart.{plexes_apart}
use Rattle.vx_image.proofs.PlexMembers.{IsIn}
use Rattle.vx_image.specs.Bytes.{is_held}
use Rattle.vx_image.specs.Own.{IsOfVolume}
use Rattle.vx_image.proofs.Members.{contains, each_from_all}
use Rattle.vx_copies.specs.Disks.{DiskSeen, good_mask}
use Rattle.vx_confdb.specs.Groups.{members}
use Rattle.vx_fronts.specs.Parted.{AreParted, IsCutShort}
use Rattle.vx_fronts.proofs.Parted.{all_at, few_fronts, free_at}
use Rattle.vx_fronts.proofs.Parted.{IsIn as IsDisk}
use Rattle.vx_volume.specs.Volume.{log_of, volume_seen}
use Rattle.vx_lending.specs.Left.{held_pieces}
use Rattle.vx_lending.specs.Logs.{log_copies}
use Rattle.vx_lending.specs.Public.{lent_pieces, remaining_pieces, running_pieces, still_pieces, stuck_pieces}
use Rattle.vx_lending.specs.declared.public.Running.{Running}
use Rattle.vx_lending.specs.FormLaws.{good_disks}
use Rattle.vx_lending.proofs.Places.{columns_lie}
use Rattle.vx_group_edits.specs.OfVolume.{AreOf}
use Rattle.vx_group_volumes.specs.Places.{IsOwnSector, disks_at}
use Rattle.vx_group_volumes.proofs.Held.{kept_sector, of_pieces}
use Rattle.vx_group_edits.specs.Joins.{plexes_in}
use Rattle.vx_group_edits.proofs.Joined.{new_apart, plex_joins}
use Rattle.vx_house.specs.Idle.{HaveRoom, IsGathered}
use Rattle.vx_house.specs.Runs.{AllInPlace, IsInPlace}
use Rattle.vx_house.specs.View.{IsGroupKept}
use Rattle.vx_house.specs.declared.house.Imported.{Imported}
use Rattle.vx_stage_mirrors.specs.PlaceLaws.{EachNewPlexIsFree}
use Rattle.vx_stage_mirrors.proofs.Fronts.{one_device}
use Rattle.vx_stage_mirrors.proofs.Strips.{each_strip, lies_on, none_have, not_in_both, place_there}

-- no volume that was there has a place of a new plex
not_old : (c c' : Config) (vol : Word) (added : List Object) → AreOf vol added → IsEdited (Make added ∷ []) c c' → (p : Plex) → Contains (plexes_in added) p → (x : Strip) → IsIn (strips_of c' p) x →
    (place : Place) → has_place x place ≡ true → (other : Word) → IsOfVolume c other place → ⊥
not_old c c' vol added of edits p new x on place has_it other (q, there, of', lies) =
    let apart = new_apart plexes_apart c c' vol added of edits p q new there in
    let rows = each_from_all (λ x. list_all (is_apart x) (strips_of c q)) (strips_of c' p) x apart (contains (strips_of c' p) x on) in
    not_in_both x lies.0 place (each_from_all (is_apart x) (strips_of c q) lies.0 rows lies.1) has_it lies.2

module _ {P : Type 0} {ghosts : Ghosts P} (see : P → Seen) (g : Imported P ghosts) (kept : IsGroupKept see g) (gathered : IsGathered see g) where
  abbrev hs : List DiskSeen
  hs = members see g.base

  abbrev good : ℕ
  good = good_mask hs

  abbrev behind : List Seen
  behind = still_pieces see g.public ++ lent_pieces see g.public

  parted : AreParted hs behind
  parted = kept.whole.parted

  -- each sector that no volume has is in the pool
  module _ (h : DiskSeen) (there : IsDisk h hs) (x : Strip) (slot : h.slot ≡ x.disk) (k : ℕ) (unowned : (other : Word) → IsOfVolume g.config other (record { disk = x.disk; sector = x.start + k }) → ⊥) where
    abbrev number : ℕ
    number = h.seen.device

    abbrev at : ℕ
    at = 2048 + x.start + k

    -- a piece of a running volume lies elsewhere
    module _ (name : Word) (r : Running P ghosts) (is : IsInPlace see hs g.config good name r) where
      own : list_any (covers number at) (held_pieces see r.volume) ≡ true → IsOwnSector g.config is.of.name (disks_at is.placed.runs.opening) is.numbers number at
      own any =
          let o = is.placed.runs.opening in
          kept_sector o.config o.good o.vol is.numbers number at g.config is.of.name is.placed.places
          (of_pieces o.config o.good o.vol o.fresh r.form is.placed.runs.form is.numbers number at (volume_seen see r.volume) (log_copies see (log_of r.volume)) is.placed.runs.lies.lies any)

      uncovered : list_any (covers number at) (held_pieces see r.volume) ≡ true → ⊥
      uncovered any =
          let s = own any in
          let d = is.opened s.slot s.on in
          let same : d.disk ≡ h = one_device hs d.disk h parted.fronts (λ n. few_fronts hs behind parted n 0) d.there there (sym d.number_is ∙ s.number_is) in
          let at_slot : s.slot ≡ x.disk = sym d.slot_is ∙ ap (λ (y : DiskSeen). y.slot) same ∙ slot in
          let at_sector : s.sector ≡ x.start + k = let e = s.place_is in omega (arith, e) in
          unowned is.of.name
          (subst (λ n. IsOfVolume g.config is.of.name (record { disk = x.disk; sector = n })) at_sector (subst (λ n. IsOfVolume g.config is.of.name (record { disk = n; sector = s.sector })) at_slot s.of))

    none_run : (es : List (Word × Running P ghosts)) → AllInPlace see hs g.config good es → owners number at (flat_map (running_pieces see) es) ≡ 0
    none_run [] all = refl
    none_run (e ∷ es) all =
        let sum = sum_by-append (has number at) (running_pieces see e) (flat_map (running_pieces see) es) in
        let here = none_have (running_pieces see e) number at (uncovered e.0 e.1 all.0) in
        let rest = none_run es all.1 in
        omega (arith, sum, here, rest)

    none_lent : owners number at (lent_pieces see g.public) ≡ 0
    none_lent =
        ap (λ rs. owners number at (flat_map (running_pieces see) g.public.running.entries ++ flat_map (stuck_pieces see) rs)) gathered.stuck
        ∙ ap (owners number at) (append-nil (flat_map (running_pieces see) g.public.running.entries))
        ∙ none_run g.public.running.entries kept.placed

    all_pool : still_pieces see g.public ≡ map see g.public.pool.items.items
    all_pool = ap (λ rs. map see g.public.pool.items.items ++ flat_map (remaining_pieces see) rs) gathered.left ∙ append-nil (map see g.public.pool.items.items)

    in_pool : at < h.sectors → owners number at (map see g.public.pool.items.items) ≡ 1
    in_pool inside =
        let short : h.seen.sectors ≤ 2048 = all_at IsCutShort hs h gathered.short there in
        let free = free_at hs behind parted h there (at - h.seen.sectors) (omega (arith, inside, short)) in
        let place : h.seen.sectors + (at - h.seen.sectors) ≡ at = omega (arith, short) in
        let all : owners number at behind ≡ 1 = subst (λ n. owners number n behind ≡ 1) place free in
        let sum = sum_by-append (has number at) (still_pieces see g.public) (lent_pieces see g.public) in
        let none = none_lent in
        let still : owners number at (still_pieces see g.public) ≡ 1 = omega (arith, all, sum, none) in
        subst (λ ps. owners number at ps ≡ 1) all_pool still

  -- so are those of a new plex
  module _ (c : Config) (vol : Word) (added : List Object) (of : AreOf vol added) (edits : IsEdited (Make added ∷ []) g.config c) (p : Plex) (new : Contains (plexes_in added) p) (numbers : List ℕ) (have : HaveRoom numbers hs good g.config.disks) where
    strip_free : (x : Strip) → IsIn (strips_of c p) x → lies_in (map public_of (good_disks good g.config.disks)) x ≡ true → IsFreeStrip numbers (map see g.public.pool.items.items) x
    strip_free x on lies k lt =
        let l = lies_on (good_disks good g.config.disks) x lies in
        let h = have l.disk (contains (good_disks good g.config.disks) l.disk l.there) in
        let room = h.room in
        let ends = l.ends in
        let inside : 2048 + x.start + k < h.on.disk.sectors = omega (arith, ends, room, lt) in
        let number : slice_index numbers x.disk ≡ h.on.disk.seen.device = ap (slice_index numbers) (sym l.slot) ∙ h.on.number_is in
        let place : Place = record { disk = x.disk; sector = x.start + k } in
        subst (λ n. owners n (2048 + x.start + k) (map see g.public.pool.items.items) ≡ 1) (sym number)
        (in_pool h.on.disk h.on.there x (h.on.slot_is ∙ l.slot) k (λ other own. not_old g.config c vol added of edits p new x on place (place_there x k lt) other own) inside)

    pub columns_free : is_held c good p ≡ true → EachStrip (IsFreeStrip numbers (map see g.public.pool.items.items)) (columns_of c p)
    columns_free held =
        let same : c.disks ≡ g.config.disks = (plex_joins g.config c vol added of edits).disks in
        each_strip (lies_in (map public_of (good_disks good g.config.disks))) (IsFreeStrip numbers (map see g.public.pool.items.items)) (columns_of c p) strip_free
        (subst (λ ds. all_lie_in (map public_of (good_disks good ds)) (columns_of c p) ≡ true) same (columns_lie c good p held p.ncol 0))

pub new_free : {P : Type 0} {ghosts : Ghosts P} (see : P → Seen) (g : Imported P ghosts) → EachNewPlexIsFree see g
new_free see g kept gathered c vol added of edits p new held l lay numbers have =
    subst (EachStrip (IsFreeStrip numbers (map see g.public.pool.items.items))) (sym lay.columns) (columns_free see g kept gathered c vol added of edits p new numbers have held)
