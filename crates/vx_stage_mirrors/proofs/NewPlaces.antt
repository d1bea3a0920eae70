-- The sectors of new logs are in the pool of their group.
use Rattle.std.proofs.Common.{◌≡◌, ◌∙◌, ℕ, ◌+◌, ◌-◌, ◌<◌, ◌≤◌, true, Some, List, [], ◌∷◌, ◌++◌, map, refl, sym, ap, subst, arith}
use Rattle.std.specs.Prelude.{Contains, slice_index}
use Rattle.std.specs.List.{filter, filter_map, flat_map, list_all, list_any}
use Rattle.std.proofs.lemmas.List.{append-nil}
use Rattle.std.proofs.lemmas.List.Sums.{sum_by-append}
use Rattle.vx_pages.specs.declared.local_piece.LocalPiece.{Ghosts}
use Rattle.vx_base.specs.Named.{Word}
use Rattle.vx_piece.specs.Seen.{Seen}
use Rattle.vx_carve.specs.Strips.{EachStrip, IsFreeStrip, all_lie_in, lies_in}
use Rattle.vx_carve.specs.Together.{covers, has, owners}
use Rattle.vx_layout.specs.declared.place.Place.{Place}
use Rattle.vx_layout.specs.declared.strip.Strip.{Strip}
use Rattle.vx_layout.specs.Columns.{has_place}
use Rattle.vx_layout.specs.Valid.{is_apart}
use Rattle.vx_config_parts.specs.declared.dco.Dco.{Dco}
use Rattle.vx_config_parts.specs.declared.object.Object.{Object}
use Rattle.vx_config_parts.specs.declared.object.Object.TheVariants.{SubdiskRecord}
use Rattle.vx_config_parts.specs.declared.plex.Plex.{Plex}
use Rattle.vx_config_parts.specs.declared.vol.Vol.{Vol}
use Rattle.vx_config_parts.specs.Objects.{refers}
use Rattle.vx_objects.specs.declared.config.Config.{Config}
use Rattle.vx_objects.specs.declared.edit.Edit.{Edit}
use Rattle.vx_objects.specs.declared.edit.Edit.TheVariants.{AddDco, Make, SetPlex, SetRegion}
use Rattle.vx_objects.specs.Applied.{IsEdited}
use Rattle.vx_objects.specs.Config.{objects_of}
use Rattle.vx_objects.specs.Edits.{added, edited, edited_by}
use Rattle.vx_objects.specs.Parts.{as_subdisk, in_kinds}
use Rattle.vx_image.specs.Lies.{columns_of, strips_of}
use Rattle.vx_image.specs.Room.{public_of}
use Rattle.vx_image.specs.Bytes.{is_held}
use Rattle.vx_image.specs.Own.{IsOfVolume}
use Rattle.vx_image.proofs.Apart.{plexes_apart}
use Rattle.vx_image.proofs.Members.{contains, each_from_all, is_in}
use Rattle.vx_image.proofs.PlexMembers.{IsIn, all_in, in_left, in_map}
use Rattle.vx_copies.specs.Disks.{DiskSeen, good_mask}
use Rattle.vx_confdb.specs.Groups.{members}
use Rattle.vx_fronts.specs.Parted.{AreParted, IsCutShort}
use Rattle.vx_fronts.proofs.Parted.{all_at, few_fronts, free_at}
use Rattle.vx_fronts.proofs.Parted.{IsIn as IsDisk}
use Rattle.vx_volume.specs.Volume.{log_of, volume_seen}
use Rattle.vx_lending.specs.Left.{held_pieces}
use Rattle.vx_lending.specs.Logs.{log_copies}
use Rattle.vx_lending.specs.Public.{lent_pieces, remaining_pieces, running_pieces, still_pieces, stuck_pieces}
use Rattle.vx_lending.specs.declared.public.Running.{Running}
use Rattle.vx_lending.specs.FormLaws.{good_disks}
use Rattle.vx_lending.proofs.Places.{columns_lie}
use Rattle.vx_new_volumes.specs.declared.logs.NewLogs.{NewLogs}
use Rattle.vx_new_volumes.specs.Logs.{region_with}
use Rattle.vx_stages.specs.Logging.{AreLogsLaid, log_state, prepare_edits}
use Rattle.vx_group_edits.specs.Joins.{plexes_in, subdisks_in}
use Rattle.vx_group_edits.specs.OfVolume.{AreEditsOf, AreOf, is_part_of}
use Rattle.vx_group_edits.proofs.ByKind.{subdisks_are, subdisks_own}
use Rattle.vx_group_edits.proofs.Columns.{columns_same, subdisks_of}
use Rattle.vx_group_edits.proofs.DcoEdits.{preparing_own}
use Rattle.vx_group_edits.proofs.EditSteps.{dco_leaves, make_behind, region_leaves, subdisks_set}
use Rattle.vx_group_edits.proofs.Lists.{filter_append, none_seen, not_picked, picked}
use Rattle.vx_group_edits.proofs.LogRecords.{logs_are_of, logs_made}
use Rattle.vx_group_edits.proofs.OwnEdits.{disks_same}
use Rattle.vx_group_edits.proofs.PlexNames.{name_new, names_are, plex_name, subdisk_off}
use Rattle.vx_group_volumes.specs.Places.{IsOwnSector, disks_at}
use Rattle.vx_group_volumes.proofs.Held.{kept_sector, of_pieces}
use Rattle.vx_house.specs.Idle.{HaveRoom, IsGathered}
use Rattle.vx_house.specs.Runs.{AllInPlace, IsInPlace}
use Rattle.vx_house.specs.View.{IsGroupKept}
use Rattle.vx_house.specs.declared.house.Imported.{Imported}
use Rattle.vx_stage_mirrors.proofs.Fronts.{one_device}
use Rattle.vx_stage_mirrors.proofs.Strips.{each_strip, lies_on, none_have, not_in_both, place_there}

-- ---- sectors that no volume has

-- no volume of the configuration has a place of the strip
abbrev pub IsUnowned : Config → Strip → Type 0
IsUnowned c x = (place : Place) → has_place x place ≡ true → (vol : Word) → IsOfVolume c vol place → ⊥

module _ {P : Type 0} {ghosts : Ghosts P} (see : P → Seen) (g : Imported P ghosts) (kept : IsGroupKept see g) (gathered : IsGathered see g) where
  abbrev hs : List DiskSeen
  hs = members see g.base

  abbrev good : ℕ
  good = good_mask hs

  abbrev behind : List Seen
  behind = still_pieces see g.public ++ lent_pieces see g.public

  parted : AreParted hs behind
  parted = kept.whole.parted

  -- each sector that no volume has is in the pool
  module _ (h : DiskSeen) (there : IsDisk h hs) (x : Strip) (slot : h.slot ≡ x.disk) (k : ℕ) (unowned : (vol : Word) → IsOfVolume g.config vol (record { disk = x.disk; sector = x.start + k }) → ⊥) where
    abbrev number : ℕ
    number = h.seen.device

    abbrev at : ℕ
    at = 2048 + x.start + k

    -- a piece of a running volume lies elsewhere
    module _ (name : Word) (r : Running P ghosts) (is : IsInPlace see hs g.config good name r) where
      own : list_any (covers number at) (held_pieces see r.volume) ≡ true → IsOwnSector g.config is.of.name (disks_at is.placed.runs.opening) is.numbers number at
      own any =
          let o = is.placed.runs.opening in
          kept_sector o.config o.good o.vol is.numbers number at g.config is.of.name is.placed.places
          (of_pieces o.config o.good o.vol o.fresh r.form is.placed.runs.form is.numbers number at (volume_seen see r.volume) (log_copies see (log_of r.volume)) is.placed.runs.lies.lies any)

      uncovered : list_any (covers number at) (held_pieces see r.volume) ≡ true → ⊥
      uncovered any =
          let s = own any in
          let d = is.opened s.slot s.on in
          let same : d.disk ≡ h = one_device hs d.disk h parted.fronts (λ n. few_fronts hs behind parted n 0) d.there there (sym d.number_is ∙ s.number_is) in
          let at_slot : s.slot ≡ x.disk = sym d.slot_is ∙ ap (λ (y : DiskSeen). y.slot) same ∙ slot in
          let at_sector : s.sector ≡ x.start + k = let e = s.place_is in omega (arith, e) in
          unowned is.of.name
          (subst (λ n. IsOfVolume g.config is.of.name (record { disk = x.disk; sector = n })) at_sector (subst (λ n. IsOfVolume g.config is.of.name (record { disk = n; sector = s.sector })) at_slot s.of))

    none_run : (es : List (Word × Running P ghosts)) → AllInPlace see hs g.config good es → owners number at (flat_map (running_pieces see) es) ≡ 0
    none_run [] all = refl
    none_run (e ∷ es) all =
        let sum = sum_by-append (has number at) (running_pieces see e) (flat_map (running_pieces see) es) in
        let here = none_have (running_pieces see e) number at (uncovered e.0 e.1 all.0) in
        let rest = none_run es all.1 in
        omega (arith, sum, here, rest)

    none_lent : owners number at (lent_pieces see g.public) ≡ 0
    none_lent =
        ap (λ rs. owners number at (flat_map (running_pieces see) g.public.running.entries ++ flat_map (stuck_pieces see) rs)) gathered.stuck
        ∙ ap (owners number at) (append-nil (flat_map (running_pieces see) g.public.running.entries))
        ∙ none_run g.public.running.entries kept.placed

    all_pool : still_pieces see g.public ≡ map see g.public.pool.items.items
    all_pool = ap (λ rs. map see g.public.pool.items.items ++ flat_map (remaining_pieces see) rs) gathered.left ∙ append-nil (map see g.public.pool.items.items)

    in_pool : at < h.sectors → owners number at (map see g.public.pool.items.items) ≡ 1
    in_pool inside =
        let short : h.seen.sectors ≤ 2048 = all_at IsCutShort hs h gathered.short there in
        let free = free_at hs behind parted h there (at - h.seen.sectors) (omega (arith, inside, short)) in
        let place : h.seen.sectors + (at - h.seen.sectors) ≡ at = omega (arith, short) in
        let all : owners number at behind ≡ 1 = subst (λ n. owners number n behind ≡ 1) place free in
        let sum = sum_by-append (has number at) (still_pieces see g.public) (lent_pieces see g.public) in
        let none = none_lent in
        let still : owners number at (still_pieces see g.public) ≡ 1 = omega (arith, all, sum, none) in
        subst (λ ps. owners number at ps ≡ 1) all_pool still

  -- So are those of a plex on good disks, by another configuration of the group, where no volume has one of them.
  module _ (c : Config) (disks : c.disks ≡ g.config.disks) (p : Plex) (unowned : (x : Strip) → IsIn (strips_of c p) x → IsUnowned g.config x) (numbers : List ℕ) (have : HaveRoom numbers hs good g.config.disks) where
    strip_free : (x : Strip) → IsIn (strips_of c p) x → lies_in (map public_of (good_disks good g.config.disks)) x ≡ true → IsFreeStrip numbers (map see g.public.pool.items.items) x
    strip_free x on lies k lt =
        let l = lies_on (good_disks good g.config.disks) x lies in
        let h = have l.disk (contains (good_disks good g.config.disks) l.disk l.there) in
        let room = h.room in
        let ends = l.ends in
        let inside : 2048 + x.start + k < h.on.disk.sectors = omega (arith, ends, room, lt) in
        let number : slice_index numbers x.disk ≡ h.on.disk.seen.device = ap (slice_index numbers) (sym l.slot) ∙ h.on.number_is in
        let place : Place = record { disk = x.disk; sector = x.start + k } in
        subst (λ n. owners n (2048 + x.start + k) (map see g.public.pool.items.items) ≡ 1) (sym number)
        (in_pool h.on.disk h.on.there x (h.on.slot_is ∙ l.slot) k (λ vol own. unowned x on place (place_there x k lt) vol own) inside)

    pub unowned_free : is_held c good p ≡ true → EachStrip (IsFreeStrip numbers (map see g.public.pool.items.items)) (columns_of c p)
    unowned_free held =
        each_strip (lies_in (map public_of (good_disks good g.config.disks))) (IsFreeStrip numbers (map see g.public.pool.items.items)) (columns_of c p) strip_free
        (subst (λ ds. all_lie_in (map public_of (good_disks good ds)) (columns_of c p) ≡ true) disks (columns_lie c good p held p.ncol 0))

-- ---- new logs

-- The configuration is edited so that the volume gets these logs.
module _ (c : Config) (good : ℕ) (v : Vol) (n : NewLogs) (plex : Plex) (more : List Object) (edits : List Edit) (laid : AreLogsLaid c good v n plex more edits) (c' : Config) (is : IsEdited edits c c') where
  are_of : AreOf v.name more
  are_of = logs_are_of (objects_of c) v laid.dco laid.plan (log_state v.state) more (logs_made (objects_of c) v laid.dco laid.plan (log_state v.state) more laid.records)

  own_edits : AreEditsOf c v.name edits
  own_edits = preparing_own c good v n plex more edits laid

  abbrev new_dco : Dco
  new_dco = record { name = laid.dco; vol = v.name; maps = 32 }

  -- the records before the map of the plex is set
  abbrev before : List Object
  before = edited (AddDco new_dco) (edited (Make more) (edited (SetRegion v.name (region_with v n.region)) (objects_of c)))

  edited_so : objects_of c' ≡ in_kinds (edited (SetPlex plex.name (Some v.name) plex.state (Some 0)) before)
  edited_so = is ∙ ap (λ (es : List Edit). in_kinds (edited_by es (objects_of c))) laid.edits_are

  same_disks : c'.disks ≡ c.disks
  same_disks = disks_same c c' v.name edits own_edits is

  -- its subdisks stand behind those that were there
  subdisks_behind : c'.subdisks ≡ c.subdisks ++ subdisks_in more
  subdisks_behind =
      subdisks_are c' (edited (SetPlex plex.name (Some v.name) plex.state (Some 0)) before) edited_so
      ∙ subdisks_set plex.name (Some v.name) plex.state (Some 0) before
      ∙ dco_leaves as_subdisk (λ v. refl) (λ d. refl) new_dco (edited (Make more) (edited (SetRegion v.name (region_with v n.region)) (objects_of c)))
      ∙ make_behind as_subdisk more (edited (SetRegion v.name (region_with v n.region)) (objects_of c))
      ∙ ap (λ ss. ss ++ subdisks_in more) (region_leaves as_subdisk (λ v. refl) (λ d. refl) v.name (region_with v n.region) (objects_of c) ∙ subdisks_own c)

  -- no plex that was there has the name of a log
  name_free : (q : Plex) → IsIn c.plexes q → (m : Word) → IsIn (filter_map plex_name more) m → q.name ≡ m → ⊥
  unfolding added
  name_free q here m new =
      name_new c c' v.name (prepare_edits v n laid.dco plex more)
      (subst (λ es. AreEditsOf c v.name es) laid.edits_are own_edits)
      edited_so q here (tt, (tt, (tt, (tt, tt)))) m (in_left (filter_map plex_name more) _ m new)

  no_subdisk : (q : Plex) → IsIn c.plexes q → filter (λ s. refers s.plex q.name) (subdisks_in more) ≡ []
  no_subdisk q here = none_seen (λ s. refers s.plex q.name) as_subdisk more (λ o there. by o (all_in (is_part_of v.name more) more o are_of there))
    where
      by : (o : Object) → is_part_of v.name more o ≡ true → picked (λ s. refers s.plex q.name) as_subdisk (as_subdisk o) ≡ []
      by (SubdiskRecord s) part = not_picked (λ s. refers s.plex q.name) as_subdisk s (subdisk_off v.name more q (name_free q here) s part)
      by o part = refl

  subdisks_same : (q : Plex) → IsIn c.plexes q → subdisks_of c' q.name ≡ subdisks_of c q.name
  subdisks_same q here =
      ap (λ ss. filter (λ s. refers s.plex q.name) ss) subdisks_behind
      ∙ filter_append (λ s. refers s.plex q.name) c.subdisks (subdisks_in more)
      ∙ ap (λ ss. subdisks_of c q.name ++ ss) (no_subdisk q here)
      ∙ append-nil (subdisks_of c q.name)

  -- a plex that was there lies where it lay
  columns_are : (q : Plex) → IsIn c.plexes q → columns_of c' q ≡ columns_of c q
  columns_are q here = columns_same c c' [] (same_disks ∙ sym (append-nil c.disks)) q.name (subdisks_same q here) q.ncol 0

  -- a log lies apart from it
  log_apart : (p q : Plex) → IsIn (plexes_in more) p → IsIn c.plexes q → list_all (λ x. list_all (is_apart x) (strips_of c q)) (strips_of c' p) ≡ true
  log_apart p q new here =
      subst (λ columns. list_all (λ x. list_all (is_apart x) (flat_map (λ strips. strips) columns)) (strips_of c' p) ≡ true) (columns_are q here)
      (plexes_apart c' p q (λ same. name_free q here p.name (subst (λ ns. IsIn ns p.name) (sym (names_are more)) (in_map (λ (x : Plex). x.name) (plexes_in more) p new)) (sym same)))

  -- so no volume that was there has a place of a log
  pub log_unowned : (p : Plex) → Contains (plexes_in more) p → (x : Strip) → IsIn (strips_of c' p) x → IsUnowned c x
  log_unowned p new x on place has_it vol (q, there, of, lies) =
      let apart = log_apart p q (is_in (plexes_in more) p new) (is_in c.plexes q there) in
      let rows = each_from_all (λ x. list_all (is_apart x) (strips_of c q)) (strips_of c' p) x apart (contains (strips_of c' p) x on) in
      not_in_both x lies.0 place (each_from_all (is_apart x) (strips_of c q) lies.0 rows lies.1) has_it lies.2
