-- What is known of a mirror on its group: its map may be marked, its plex may join then, and is to be copied to.
use Rattle.std.proofs.Common.{◌≡◌, ◌∙◌, ℕ, ◌<◌, ◌≤◌, true, cond, List, [], ◌∷◌, ◌++◌, length, Some, Ok, refl, sym, ap, subst, inl, inr, arith}
use Rattle.std.specs.Prelude.{Contains, is_some, vec_capacity}
use Rattle.std.specs.Str.{bytes_eq}
use Rattle.std.proofs.lemmas.Bool.{ltb-true}
use Rattle.vx_pages.specs.declared.local_piece.LocalPiece.{Ghosts}
use Rattle.vx_base.specs.Named.{Word}
use Rattle.vx_base.proofs.NamedLemmas.{bytes_eq_same, bytes_eq_self}
use Rattle.vx_mask.specs.Mask.{has, only, union}
use Rattle.vx_mask.proofs.MaskLemmas.{has-only_same, has-union}
use Rattle.vx_mask.proofs.Tests.{or_from_right}
use Rattle.vx_piece.specs.Seen.{Seen}
use Rattle.vx_block.specs.Regions.{region_count}
use Rattle.vx_copies.specs.Disks.{good_mask}
use Rattle.vx_confdb.specs.Groups.{members}
use Rattle.vx_config_parts.specs.declared.object.Object.{Object}
use Rattle.vx_config_parts.specs.declared.plex.Plex.{Plex}
use Rattle.vx_config_parts.specs.declared.vol.Vol.{Vol}
use Rattle.vx_objects.specs.declared.config.Config.{Config}
use Rattle.vx_image.proofs.PlexMembers.{IsIn, in_either}
use Rattle.vx_image.specs.Image.{is_available_state}
use Rattle.vx_image.specs.Bytes.{map_or_zero}
use Rattle.vx_image.specs.UsedPlexes.{IsVolOf}
use Rattle.vx_image.proofs.Members.{contains, is_in}
use Rattle.vx_volume.specs.Changing.{IsFreeIn, IsFreeOf, PutsPlex, SetsMap}
use Rattle.vx_volume.specs.Laws.{EachSettingMarks}
use Rattle.vx_cell.specs.Changes.{CellSeen}
use Rattle.vx_group_start.specs.Copying.{missed_regions}
use Rattle.vx_volume.specs.Opening.{regions_seen}
use Rattle.vx_volume.specs.Volume.{IsVolume, VolumeSeen, cell_at, volume_seen}
use Rattle.vx_lending.specs.RegionsTaken.{AreTakenRegions}
use Rattle.vx_lending.specs.declared.public.Public.{Public}
use Rattle.vx_lending.specs.declared.public.Remains.{Remains}
use Rattle.vx_lending.specs.declared.public.Running.{Running}
use Rattle.vx_lending.specs.Public.{running_at}
use Rattle.vx_group_volumes.specs.Runs.{RunsIn}
use Rattle.vx_group_edits.specs.Joins.{Joins}
use Rattle.vx_plex_pieces.specs.Parked.{IsParked}
use Rattle.vx_stage_mirrors.proofs.MarkedVolume.{SettingLaws}
use Rattle.vx_stage_mirrors.specs.CopyingLaws.{AreToCopy, EachMarkedRegionIsMissed, HasPlexToCopy}
use Rattle.vx_group_edits.proofs.Joined.{plex_joins}
use Rattle.vx_joined_volumes.specs.Joined.{JoinsOne}
use Rattle.vx_group_edits.specs.MirrorLaws.{EachLaidMirrorIsHeld}
use Rattle.vx_stage_mirrors.specs.declared.planning.PlannedMirror.{PlannedMirror}
use Rattle.vx_house.specs.Runs.{IsInPlace}
use Rattle.vx_house.specs.View.{IsGroupKept}
use Rattle.vx_house.specs.declared.house.Imported.{Imported}
use Rattle.vx_stage_volumes.specs.Opening.{good_of}
use Rattle.vx_stage_volumes.proofs.Absent.{one_vol}
use Rattle.vx_stage_volumes.proofs.Entries.{entry_found}
use Rattle.vx_stage_volumes.proofs.Named.{found_name, found_of}
use Rattle.vx_stage_mirrors.specs.Marking.{MarksIn, MayMark}
use Rattle.vx_stage_mirrors.proofs.MarkingFacts.{mark_keeps}
use Rattle.vx_stage_mirrors.proofs.FreeMaps.{free_map_free}
use Rattle.vx_stage_mirrors.specs.Joining.{IsJoinedIn, MayJoin, runs_left}
use Rattle.vx_stage_mirrors.specs.Moments.{IsPlannedFor}
use Rattle.vx_stage_mirrors.specs.Parking.{EachParkedPlexMayJoin, IsMarkedFor, LiesOtherwise, MayJoinAs}
use Rattle.vx_stage_mirrors.specs.Ending.{IsPlannedMirror}
use Rattle.vx_stage_mirrors.specs.ParkedPieces.{IsParkedFor}
use Rattle.vx_stage_mirrors.specs.declared.parking.ParkedPlex.{ParkedPlex}
use Rattle.vx_stage_mirrors.proofs.Free.{no_relation, none_has, prepared_by}

some_one : {X : Type 0} (x y : X) → Some x ≡ Some y → x ≡ y
some_one x y e = cc

-- it is ready to join: what is left over last may, and was planned for the group
pub record IsReadyToJoin {P : Type 0} {ghosts : Ghosts P} (see : P → Seen) (name : Word) (p : PlannedMirror) (parked : ParkedPlex P) (added : List Object) (g : Imported P ghosts) : Type 0 where
  pub may : MayJoin see p.map (vec_capacity parked.room) g.public.left.items (running_at g.public name)
  pub plan : IsPlannedFor see g name p.map parked.layout p.next may.last
  pub added_is : plan.added ≡ added
  pub plex_is : plan.plex ≡ p.plex

-- What the laws below promise.
pub record GroupLaws {P : Type 0} (ghosts : Ghosts P) : Type 0 where
  pub sets : SettingLaws
  pub marks : EachSettingMarks
  pub joins : (old new : Public P ghosts) (r : Running P ghosts) → EachParkedPlexMayJoin ghosts.seen old new r
  pub held : EachLaidMirrorIsHeld
  pub missed : EachMarkedRegionIsMissed

module _ {P : Type 0} {ghosts : Ghosts P} (laws : GroupLaws ghosts) (alike : (p q : P) → is_some (ghosts.seen p).told ≡ is_some (ghosts.seen q).told) (name : Word) (disks : List Word) (p : PlannedMirror) (g1 : Imported P ghosts) (kept1 : IsGroupKept ghosts.seen g1) (planned : IsPlannedMirror ghosts.seen name disks p g1)
    (running : Running P ghosts) (there : running_at g1.public name ≡ Some running) where
  abbrev see : P → Seen
  see = ghosts.seen

  abbrev v : Vol
  v = planned.volume

  abbrev m : ℕ
  m = p.map

  of : IsVolOf g1.config v
  of = found_of g1.config name v planned.found

  named : v.name ≡ name
  named = found_name g1.config name v planned.found

  prepared : is_some v.dco ≡ true
  prepared = prepared_by g1.config name disks v planned.found planned.fits

  place : IsInPlace see (members see g1.base) g1.config (good_of see g1) name running
  place = entry_found (λ n r. IsInPlace see (members see g1.base) g1.config (good_mask (members see g1.base)) n r) name g1.public.running.entries running kept1.placed there

  same_vol : place.of ≡ v
  same_vol = one_vol g1.config place.of v place.placed.runs.recorded of (place.named ∙ sym named)

  runs : RunsIn see g1.config (good_of see g1) place.numbers v running
  runs = subst (λ x. RunsIn see g1.config (good_of see g1) place.numbers x running) same_vol place.placed.runs

  pub is_free : IsFreeIn m (volume_seen see running.volume)
  is_free = free_map_free see running g1.config (good_of see g1) place.numbers v runs prepared m planned.planned.free.low (none_has g1.config v of prepared m planned.planned.free) (no_relation g1.config v of prepared m planned.planned.free)

  pub has_logs : 0 < length running.form.logs.items
  has_logs = ltb-true 0 (length running.form.logs.items) (runs.logged ∙ prepared)

  -- the blocks and regions of the running volume are those of its record
  length_is : running.form.shape.geometry.length ≡ v.len
  length_is = runs.form.shape_is.length_is ∙ sym runs.keeps.length_is

  region_is : running.form.shape.geometry.region ≡ v.region
  region_is = runs.form.shape_is.region_is ∙ sym runs.keeps.region_is

  pub count_is : length (volume_seen see running.volume).cells ≡ region_count v.len v.region
  count_is =
      let seen = volume_seen see running.volume in
      runs.whole.count ∙ ap (λ n. region_count n seen.region) (runs.lies.lies.length_is ∙ length_is) ∙ ap (region_count v.len) (runs.lies.lies.region_is ∙ region_is)

  -- ---- marked

  module _ (mid : Imported P ghosts) (parked : ParkedPlex P) (for_it : IsParkedFor see name p parked g1 mid) (lies : LiesOtherwise see g1 mid) (kept2 : IsGroupKept see mid) where
    was2 : running_at mid.public name ≡ Some running
    was2 = ap (λ (x : Imported P ghosts). running_at x.public name) lies.group ∙ there

    pub may_mark : MayMark see m (running_at mid.public name)
    may_mark = subst (MayMark see m) (sym was2) (runs.whole, is_free)

    module _ (g3 : Imported P ghosts) (marks : MarksIn see name m (Ok tt) mid g3) where
      abbrev after : Running P ghosts
      after = marks.runs.after

      before_is : marks.runs.before ≡ running
      before_is = some_one marks.runs.before running (sym marks.runs.was ∙ was2)

      form_is : after.form ≡ running.form
      form_is = marks.runs.form ∙ ap (λ (r : Running P ghosts). r.form) before_is

      abbrev was : VolumeSeen
      was = volume_seen see marks.runs.before.volume

      abbrev now : VolumeSeen
      now = volume_seen see after.volume

      was_free : IsFreeIn m was
      was_free = subst (λ (r : Running P ghosts). IsFreeIn m (volume_seen see r.volume)) (sym before_is) is_free

      sets : SetsMap m marks.runs.marks.bits (Ok tt) was now
      sets = marks.runs.marks.sets

      pub kept3 : IsGroupKept see g3
      kept3 = mark_keeps alike laws.sets mid g3 name m (Ok tt) may_mark marks kept2

      -- ---- its volume

      was_whole : IsVolume was
      was_whole = subst (λ (r : Running P ghosts). IsVolume (volume_seen see r.volume)) (sym before_is) runs.whole

      has_marked : (k : ℕ) → k < length now.cells → has (cell_at now k).stage.bits m ≡ true
      has_marked k lt = laws.marks m marks.runs.marks.bits was now sets was_whole was_free k lt ∙ marks.runs.marks.all k (subst (λ n. k < n) sets.cells.size lt)

      free_now : IsFreeIn m now
      free_now = record {
        there = sets.kept.there ∙ was_free.there;
        low = was_free.low;
        each = λ k lt.
            let inside : k < length was.cells = subst (λ n. k < n) sets.cells.size lt in
            let f = was_free.each k inside in
            subst (λ (c : CellSeen). IsFreeOf m c.stage) (sym (sets.cells.each k inside)) (record { on = f.on; off = f.off; snaps = f.snaps; logged = f.logged });
      }

      marked_for : IsMarkedFor see m after
      marked_for = record { free = free_now; marked = has_marked; room = marks.runs.room }

      there3 : running_at g3.public name ≡ Some after
      there3 = marks.runs.puts name ∙ ap (λ b. cond b (Some after) (running_at mid.public name)) (bytes_eq_self name)

      place3 : IsInPlace see (members see g3.base) g3.config (good_of see g3) name after
      place3 = entry_found (λ n r. IsInPlace see (members see g3.base) g3.config (good_mask (members see g3.base)) n r) name g3.public.running.entries after kept3.placed there3

      -- ---- its group

      config3 : g3.config ≡ g1.config
      config3 = ap (λ (x : Imported P ghosts). x.config) marks.same ∙ ap (λ (x : Imported P ghosts). x.config) lies.group

      base3 : g3.base ≡ g1.base
      base3 = ap (λ (x : Imported P ghosts). x.base) marks.same ∙ ap (λ (x : Imported P ghosts). x.base) lies.group

      same3 : g3 ≡ record g1 { public = g3.public }
      same3 = λ i. record { config = config3 i; base = base3 i; public = g3.public }

      left3 : g3.public.left.items ≡ mid.public.left.items
      left3 = ap (λ (x : Imported P ghosts). x.public.left.items) marks.same

      vol3 : place3.of ≡ v
      vol3 = one_vol g3.config place3.of v place3.placed.runs.recorded (subst (λ c. IsVolOf c v) (sym config3) of) (place3.named ∙ sym named)

      -- ---- it may join

      abbrev added : List Object
      added = planned.planned.added

      abbrev room : ℕ
      room = vec_capacity parked.room

      form_then : for_it.running.form ≡ after.form
      form_then = ap (λ (r : Running P ghosts). r.form) (some_one for_it.running running (sym for_it.there ∙ there)) ∙ sym form_is

      mays : MayJoinAs see for_it.numbers m parked.layout place3.of room mid.public.left.items after
      mays = laws.joins g1.public mid.public after for_it.numbers m parked.layout
          (subst (λ f. IsParked see for_it.numbers m parked.layout f.shape.geometry g1.public mid.public) form_then for_it.taken)
          (members see g3.base) g3.config (good_of see g3) name place3 marked_for room
          (subst (λ f. region_count f.shape.geometry.length f.shape.geometry.region ≤ room) form_then for_it.enough)

      joins_one : JoinsOne g1.config (good_of see g1) v added p.next.config p.plex m
      joins_one = record {
        of = planned.planned.at.of;
        edited = planned.planned.next.0;
        alone = planned.planned.at.plexes;
        data_is = planned.planned.at.own;
        state = subst (λ s. is_available_state s ≡ true) (sym planned.planned.at.state) refl;
        map = planned.planned.at.map;
        low = planned.planned.free.low;
        prepared = prepared;
        held = laws.held g1.config p.next.config (good_of see g1) v disks m added planned.planned.laid planned.planned.next.0 p.plex (subst (λ ps. Contains ps p.plex) (sym planned.planned.at.plexes) (contains (p.plex ∷ []) p.plex (inl refl)));
      }

      abbrev Taken : Remains P ghosts → Type 0
      Taken last = AreTakenRegions for_it.numbers (m ∷ []) (parked.layout ∷ []) v.len v.region (regions_seen see last.regions.items)

      abbrev PlanOf : Imported P ghosts → Remains P ghosts → Type 0
      PlanOf g last = (plan : IsPlannedFor see g name m parked.layout p.next last) × (plan.added ≡ added) × (plan.plex ≡ p.plex)

      plan_on : (last : Remains P ghosts) → Taken last → PlanOf (record g1 { public = g3.public }) last
      plan_on last taken = (
        record {
          vol = v;
          of = of;
          named = named;
          added = added;
          plex = p.plex;
          joins = joins_one;
          printed = planned.planned.next.1;
          layout = for_it.layout;
          numbers = for_it.numbers;
          slots = for_it.slots;
          taken = taken;
        },
        refl,
        refl,
      )

      both : (may : MayJoin see m room g3.public.left.items (running_at g3.public name)) × Taken may.last
      both =
          subst (λ o. (may : MayJoin see m room g3.public.left.items o) × Taken may.last) (sym there3)
          (subst (λ left. (may : MayJoin see m room left (Some after)) × Taken may.last) (sym left3)
          (mays.may, subst (λ (x : Vol). AreTakenRegions for_it.numbers (m ∷ []) (parked.layout ∷ []) x.len x.region (regions_seen see mays.may.last.regions.items)) vol3 mays.taken))

      pub ready : IsReadyToJoin see name p parked added g3
      ready =
          let plan = subst (λ x. PlanOf x both.0.last) (sym same3) (plan_on both.0.last both.1) in
          record { may = both.0; plan = plan.0; added_is = plan.1; plex_is = plan.2 }

      -- ---- it has joined

      module _ (g4 : Imported P ghosts) (joins : IsJoinedIn see name m parked.layout p.next g3 g4) where
        abbrev j : Running P ghosts
        j = joins.runs.after

        abbrev jv : VolumeSeen
        jv = volume_seen see j.volume

        joined_before : joins.runs.before ≡ after
        joined_before = some_one joins.runs.before after (sym joins.runs.was ∙ there3)

        low64 : m < 64
        low64 = let low = planned.planned.free.low in omega (arith, low)

        on_with : (a : ℕ) → has (union a (only m)) m ≡ true
        on_with a = has-union a (only m) m ∙ or_from_right (has a m) (has (only m) m) (has-only_same m low64)

        form_on : has j.form.shape.on m ≡ true
        form_on = ap (λ s. has s.on m) joins.runs.has.form.shape ∙ on_with joins.runs.before.form.shape.on

        logs_then : 0 < length j.form.logs.items
        logs_then = subst (λ n. 0 < n) (sym (ap length joins.runs.has.form.logs ∙ ap (λ (r : Running P ghosts). length r.form.logs.items) joined_before ∙ ap (λ f. length f.logs.items) form_is)) has_logs

        pub some_to_copy : HasPlexToCopy (only m) j
        some_to_copy = record { map = m; low = low64; in_mask = has-only_same m low64; on = form_on; logged = logs_then }

        pub are_to_copy : AreToCopy g4.config name (only m) j (bytes_eq p.plex.name)
        are_to_copy q in_config own same_name = record {
          low = subst (λ k. k < 64) (sym map_is) low64;
          in_mask = subst (λ k. has (only m) k ≡ true) (sym map_is) (has-only_same m low64);
          on = subst (λ k. has j.form.shape.on k ≡ true) (sym map_is) form_on;
        }
          where
            all : Joins g1.config v.name added p.next.config
            all = plex_joins g1.config p.next.config v.name added planned.planned.at.of planned.planned.next.0

            in_next : IsIn (g1.config.plexes ++ p.plex ∷ []) q
            in_next = subst (λ ps. IsIn ps q) (ap (λ (c : Config). c.plexes) joins.config ∙ all.plexes ∙ ap (λ ps. g1.config.plexes ++ ps) planned.planned.at.plexes) (is_in g4.config.plexes q in_config)

            is_plex : q ≡ p.plex
            is_plex = elim (in_either g1.config.plexes (p.plex ∷ []) q in_next) [
              | inl old ↦ absurd ((all.new p.plex (subst (λ ps. Contains ps p.plex) (sym planned.planned.at.plexes) (contains (p.plex ∷ []) p.plex (inl refl)))).name q (contains g1.config.plexes q old) (sym (bytes_eq_same p.plex.name q.name same_name)))
              | inr new ↦ elim new [ inl is ↦ is | inr none ↦ absurd none ]
            ]

            map_is : map_or_zero q.map ≡ m
            map_is = ap (λ (x : Plex). map_or_zero x.map) is_plex ∙ ap map_or_zero planned.planned.at.map

        -- each region misses it
        puts : PutsPlex m (runs_left see joins.last) (volume_seen see joins.runs.before.volume) jv
        puts = joins.runs.has.puts

        abbrev bv : VolumeSeen
        bv = volume_seen see joins.runs.before.volume

        bv_is : bv ≡ now
        bv_is = ap (λ (r : Running P ghosts). volume_seen see r.volume) joined_before

        on_there : (k : ℕ) → k < length jv.cells → has (cell_at jv k).stage.on m ≡ true
        on_there k lt =
            let inside : k < length bv.cells = subst (λ n. k < n) puts.cells.size lt in
            ap (λ (c : CellSeen). has c.stage.on m) (puts.cells.each k inside) ∙ on_with (cell_at bv k).stage.on

        bits_there : (k : ℕ) → k < length jv.cells → has (cell_at jv k).stage.bits m ≡ true
        bits_there k lt =
            let inside : k < length bv.cells = subst (λ n. k < n) puts.cells.size lt in
            ap (λ (c : CellSeen). has c.stage.bits m) (puts.cells.each k inside)
            ∙ ap (λ (x : VolumeSeen). has (cell_at x k).stage.bits m) bv_is ∙ has_marked k (subst (λ (x : VolumeSeen). k < length x.cells) bv_is inside)

        cells_there : length jv.cells ≡ region_count v.len v.region
        cells_there =
            puts.cells.size ∙ ap (λ (x : VolumeSeen). length x.cells) bv_is ∙ sets.cells.size ∙ ap (λ (r : Running P ghosts). length (volume_seen see r.volume).cells) before_is ∙ count_is

        pub all_copied : (n : ℕ) → n ≡ missed_regions (only m) jv → n ≡ region_count v.len v.region
        all_copied n is = is ∙ laws.missed (only m) m jv low64 (has-only_same m low64) on_there bits_there ∙ cells_there
