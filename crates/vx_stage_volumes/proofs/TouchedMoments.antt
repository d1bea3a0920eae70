-- The moments of a house of whose group pieces were called that are a volume's, by this configuration or by one that is still to come: the
-- devices have changed in its sectors alone.
use Rattle.std.proofs.Common.{◌≡◌, ◌∙◌, inl, inr, ℕ, Bool, true, false, List, [], ◌∷◌, map, Option, Some, refl, sym, ap, subst}
use Rattle.std.specs.Prelude.{Contains}
use Rattle.std.specs.BTreeMap.{is_at}
use Rattle.std.specs.Map.{lookup}
use Rattle.std.specs.Cmp.Lexicographic.{slice_cmp}
use Rattle.std.specs.List.{All, list_any}
use Rattle.std.specs.Ordering.{nat_cmp}
use Rattle.vx_pages.specs.declared.local_piece.LocalPiece.{Ghosts}
use Rattle.vx_base.specs.Counts.{Rose}
use Rattle.vx_base.specs.Named.{Word}
use Rattle.vx_piece.specs.Seen.{Seen}
use Rattle.vx_runs.specs.Run.{SomeCut}
use Rattle.vx_carve.specs.Together.{HasSome, covers, cut_on, faults_on}
use Rattle.vx_config_parts.specs.declared.disk.Disk.{Disk}
use Rattle.vx_objects.specs.declared.config.Config.{Config}
use Rattle.vx_image.proofs.PlexMembers.{IsIn, in_map}
use Rattle.vx_image.proofs.Members.{contains}
use Rattle.vx_copies.specs.Disks.{DiskSeen, good_mask}
use Rattle.vx_copies.specs.Lists.{AllOf, Each}
use Rattle.vx_confdb.specs.Groups.{members}
use Rattle.vx_shelf.specs.Shelf.{held_as as held_of}
use Rattle.vx_fronts.specs.Rests.{is_of, told_at}
use Rattle.vx_moments.specs.Leaving.{grouped}
use Rattle.vx_moments.specs.Moment.{Moment, AreLater}
use Rattle.vx_moments.specs.Moment.{HasFailed as FailsAt}
use Rattle.vx_moments.specs.World.{World, Device, Group}
use Rattle.vx_moments.specs.Group.{ChangesOnly, IsSectorOf}
use Rattle.vx_moments.specs.Owners.{IsDeviceOfVolume}
use Rattle.vx_stages.specs.GroupCalls.{CallsOnly}
use Rattle.vx_stages.specs.Touching.{FailsOn, IsCutOff, IsTouched}
use Rattle.vx_group_volumes.specs.Places.{IsSlotOf}
use Rattle.vx_house.specs.Holders.{group_holders, hand_holder, held_as, holder_in, holders, volume_holder, whole_members, IsTakenFrom}
use Rattle.vx_house.specs.Runs.{AreRuns, IsAtRun, IsNumbered, fronts_in, run_in}
use Rattle.vx_house.specs.Scene.{Shelved, Scene, seen_at, seen_in, faults_at, count_in, counts_of}
use Rattle.vx_house.specs.View.{at, scene, group_of, is_lent, member_in, member_of, IsDeviceOf, IsMoment, Keeps}
use Rattle.vx_house.specs.declared.house.House.{House}
use Rattle.vx_house.specs.declared.house.Imported.{Imported}
use Rattle.vx_house.proofs.Wholes.{mapped_members}
use Rattle.vx_house.proofs.Lists.{each_append, each_first, each_mapped}
use Rattle.vx_house.proofs.Moments.{counts_own, moment_at}
use Rattle.vx_house.proofs.Steps.{HeldStep, IsStep, faults_by, held_steps, place_by, steps_counts, steps_self}
use Rattle.vx_house_calls.specs.Passes.{IsOneOf, with_group}
use Rattle.vx_house_calls.proofs.Counts.{SameCounts}
use Rattle.vx_house_calls.proofs.Entries.{all_at_one}
use Rattle.vx_house_calls.proofs.Groups.{DiskIsCalled}
use Rattle.vx_house_calls.proofs.Houses.{rose_there, some_cut_on}
use Rattle.vx_house_calls.proofs.Owners.{HasNumber}
use Rattle.vx_house_calls.proofs.Steps.{SeenStep, count_stays, device_now, device_seen, device_stays, place_self, step_self}
use Rattle.vx_stage_volumes.specs.Touching.{AreOwnSectors}
use Rattle.vx_stage_volumes.proofs.TouchedHouse.{GroupGoesOn, disk_cut, disk_rose, held_now, number_disk, numbered, same_of, taken, were}
use Rattle.vx_stage_volumes.proofs.TouchedOwners.{device_own, sector_own}

module _ {P : Type 0} {ghosts : Ghosts P} (see : P → Seen) (shelf : Shelved) (h : House P ghosts) (g : Imported P ghosts) (has_group : h.group ≡ Some g) (pieces pieces' : List Seen) (now : Imported P ghosts)
    (on : GroupGoesOn see pieces pieces' g now) (keeps : Keeps see (at shelf h)) where
  abbrev hs : List DiskSeen
  hs = members see g.base

  abbrev pub k : House P ghosts
  k = with_group h now

  abbrev pub old : Scene
  old = scene see (at shelf h)

  abbrev pub new : Scene
  new = scene see (at shelf k)

  -- the group, as the world has it, ..
  abbrev pub gm : Group
  gm = record { config = g.config; good = good_mask (members see g.base); members = map member_of g.base.disks.items; sequence = g.base.sequence }

  -- .. and with the configuration that says where the volume lies
  abbrev pub by : Config → Group
  by c = record { config = c; good = good_mask (members see g.base); members = map member_of g.base.disks.items; sequence = g.base.sequence }

  module _ (c : Config) (name : Word) (disks : List Disk) (numbers : List ℕ) (opened : (slot : ℕ) → IsSlotOf disks slot → IsNumbered numbers hs gm.members slot) (own : AreOwnSectors c name disks numbers pieces) (some : All HasSome pieces)
      (config : now.config ≡ g.config) (running : now.public.running.entries ≡ g.public.running.entries) (m : Moment) (at_m : IsMoment see (at shelf h) m) where
    pub here : m.world.group ≡ Some gm
    here = at_m.group_is ∙ ap (group_of see) has_group

    own_number : (o : DiskSeen) → IsTakenFrom shelf.held (holder_in o) → HasNumber shelf.held o.device o.seen.device
    own_number o from = record { device = held_of o.seen; taken = from.1; is = refl }

    ms : AllOf (λ x. HasNumber shelf.held x.device x.seen.device) hs
    ms = numbered see shelf h g has_group pieces pieces' now on keeps

    -- a device with the number of one of the pieces is one of its plexes'
    device_is_own : (d : ℕ) (device : Word) → HasNumber shelf.held device d → list_any (is_of d) pieces ≡ true → IsDeviceOfVolume (by c) name device
    device_is_own = device_own hs (by c) name disks numbers opened shelf.held keeps.devices.numbers ms pieces own some

    disk_step : (o n : DiskSeen) → IsTakenFrom shelf.held (holder_in o) → DiskIsCalled pieces pieces' o n → IsStep (SeenStep (by c) name) (holder_in o) (holder_in n)
    disk_step o n from on = record {
      name = on.goes.device;
      goes = record {
        keeps = on.goes.keeps;
        tells = on.goes.tells;
        told = λ k other. told k other (list_any (covers o.seen.device k) pieces) refl;
        still = λ away. still away (list_any (is_of o.seen.device) pieces) refl;
      };
    }
      where
        told : (k : ℕ) → (IsSectorOf (by c) name o.device k → ⊥) → (b : Bool) → list_any (covers o.seen.device k) pieces ≡ b → told_at n.seen.told k ≡ told_at o.seen.told k
        told k other true e = absurd (other (sector_own hs (by c) name disks numbers opened shelf.held keeps.devices.numbers ms pieces own o.seen.device o.device (own_number o from) k e))
        told k other false e = on.goes.told k e

        still : (IsDeviceOfVolume (by c) name o.device → ⊥) → (b : Bool) → list_any (is_of o.seen.device) pieces ≡ b → SameCounts o.seen n.seen
        still away true e = absurd (away (device_is_own o.seen.device o.device (own_number o from) e))
        still away false e = on.counts.quiet e

    group_steps : Each (IsStep (SeenStep (by c) name)) (group_holders see (Some g)) (group_holders see k.group)
    group_steps =
        each_mapped (λ o n. IsStep (SeenStep (by c) name) (holder_in o) (holder_in n)) (IsStep (SeenStep (by c) name)) holder_in (λ o n step. step)
        (whole_members see g) (whole_members see now)
        (each_first (λ o. IsTakenFrom shelf.held (holder_in o)) (DiskIsCalled pieces pieces') (λ o n. IsStep (SeenStep (by c) name) (holder_in o) (holder_in n))
        (λ o n from on. disk_step o n from on)
        (whole_members see g) (whole_members see now) (taken see shelf h g has_group pieces pieces' now on keeps) on.disks)

    -- each device goes on
    steps : Each (IsStep (SeenStep (by c) name)) (holders see h) (holders see k)
    steps =
        let vs = map (volume_holder see) h.volumes.entries in
        let ts = map (hand_holder see) h.hand.items in
        let self = λ (x : Word) (s : Seen). step_self (by c) name x s in
        subst (λ os. Each (IsStep (SeenStep (by c) name)) os (holders see k)) (sym (were see shelf h g has_group pieces pieces' now on keeps))
        (each_append (IsStep (SeenStep (by c) name)) vs vs _ _ (steps_self (SeenStep (by c) name) self vs)
        (each_append (IsStep (SeenStep (by c) name)) (group_holders see (Some g)) (group_holders see k.group) ts ts group_steps (steps_self (SeenStep (by c) name) self ts)))

    held_step : (x : Word) → HeldStep (SeenStep (by c) name x) (held_as (holders see h) x) (held_as (holders see k) x)
    held_step x = held_steps (SeenStep (by c) name) (holders see h) (holders see k) x steps

    place_step : (x : Word) → HeldStep (SeenStep (by c) name x) (seen_at old x) (seen_at new x)
    place_step x =
        place_by (SeenStep (by c) name x) (HeldStep (SeenStep (by c) name x)) (held_as (holders see h) x) (held_as (holders see k) x) shelf.free x
        (held_step x) (λ none o. place_self (by c) name x o) (λ s t step. step)

    -- the devices of the world: of each that is told what it holds now
    abbrev pub devices : Word → Option Device
    devices x = device_seen (is_lent h x) (seen_at new x) (m.world.devices x)

    devices_now : (x : Word) → IsDeviceOf (is_lent h x) (seen_at new x) (devices x)
    devices_now x = device_now (by c) name x (is_lent h x) (seen_at old x) (seen_at new x) (m.world.devices x) (place_step x) (at_m.devices_are x)

    changes : ChangesOnly (by c) name m.world.devices devices
    changes x = device_stays (by c) name x (is_lent h x) (seen_at old x) (seen_at new x) (m.world.devices x) (place_step x) (at_m.devices_are x)

    pub counts_are_later : AreLater m.counts (counts_of new)
    counts_are_later = steps_counts (SeenStep (by c) name) (λ x s t step. step.keeps) (holders see h) (holders see k) steps shelf m.counts at_m.counts

    calls : CallsOnly (by c) name m.counts (counts_of new)
    calls = record {
      reads = λ x away. count_stays (by c) name x (λ (s : Seen). s.reads) 0 (λ s t same. same.reads) away (seen_at old x) (seen_at new x) (place_step x) ∙ sym (at_m.counts.reads x);
      writes = λ x away. count_stays (by c) name x (λ (s : Seen). s.writes) 0 (λ s t same. same.writes) away (seen_at old x) (seen_at new x) (place_step x) ∙ sym (at_m.counts.writes x);
      faults = λ x away.
          faults_by (SeenStep (by c) name x) (λ a b. b ≡ a) (held_as (holders see h) x) (held_as (holders see k) x) (shelf.counted x) (held_step x) refl (λ s t step. (step.still away).faults)
          ∙ sym (at_m.counts.faults x);
      shelf = sym at_m.counts.shelf;
    }

    abbrev pub after : World
    after = record m.world { devices = devices }

    -- the moment that follows
    abbrev pub n : Moment
    n = moment_at after new

    -- nothing but sectors of the volume has changed
    pub touched : IsTouched (by c) name m n
    touched = record { world = refl; changes = changes; calls = calls }

    group_now : group_of see (Some now) ≡ Some gm
    group_now = λ i. Some (record { config = config i; good = good_mask (members see (on.base i)); members = map member_of (on.base i).disks.items; sequence = (on.base i).sequence })

    runs_now : AreRuns see (Some now) m.world.group m.world.volumes
    runs_now x =
        subst (λ hs. IsAtRun see hs m.world.group x (run_in (Some now) x) (grouped (m.world.volumes x))) (ap (members see) (sym on.base))
        (subst (λ r. IsAtRun see hs m.world.group x r (grouped (m.world.volumes x))) (same_run x)
        (subst (λ o. IsAtRun see (fronts_in see o) m.world.group x (run_in o x) (grouped (m.world.volumes x))) has_group (at_m.runs_are x)))
      where
        same_run : (x : Word) → run_in (Some g) x ≡ run_in (Some now) x
        same_run x = ap (λ es. lookup (is_at (slice_cmp nat_cmp x)) es) (sym running)

    pub moment_now : IsMoment see (at shelf k) n
    moment_now = record {
      told = at_m.told;
      devices_are = devices_now;
      volumes_are = at_m.volumes_are;
      runs_are = runs_now;
      group_is = here ∙ sym group_now;
      counts = counts_own new;
    }

    -- ---- faults and cuts

    pub member_there : (x : DiskSeen) → IsOneOf hs x → Contains gm.members (member_in x)
    member_there x one =
        subst (λ ms. Contains ms (member_in x)) (sym (mapped_members see g.base.disks.items))
        (contains (map member_in hs) (member_in x) (in_map member_in hs x (turned hs x one)))
      where
        turned : (xs : List DiskSeen) (x : DiskSeen) → IsOneOf xs x → IsIn xs x
        turned [] x one = absurd one
        turned (y ∷ ys) x (inl is) = inl (sym is)
        turned (y ∷ ys) x (inr more) = inr (turned ys x more)

    module _ (x : DiskSeen) (one : IsOneOf hs x) where
      its_number : HasNumber shelf.held x.device x.seen.device
      its_number = all_at_one (λ y. HasNumber shelf.held y.device y.seen.device) hs x ms one

      -- a disk that some piece is on is a device of the volume
      pub disk_own : list_any (is_of x.seen.device) pieces ≡ true → IsDeviceOfVolume (by c) name x.device
      disk_own any = device_is_own x.seen.device x.device its_number any

      -- where the count of the pieces on it rose, that of the device did
      pub disk_fails : Rose (faults_on x.seen.device pieces) (faults_on x.seen.device pieces') → FailsAt m.counts (counts_of new) x.device
      disk_fails rose = subst (λ n. Rose n (faults_at new x.device)) (sym (at_m.counts.faults x.device)) (disk_rose see shelf h g has_group pieces pieces' now on keeps x one rose)

      -- where one of them is cut, the device is
      pub disk_is_cut : cut_on x.seen.device pieces' ≡ 1 → (counts_of new).cut x.device ≡ true
      disk_is_cut cut =
          ap (λ o. count_in (λ (s : Seen). s.cut) false (seen_in o shelf.free x.device)) (held_now see shelf h g has_group pieces pieces' now on keeps x one)
          ∙ disk_cut see shelf h g has_group pieces pieces' now on keeps x one cut

      -- the disk on it is told, and the device
      pub disk_fault : Rose (faults_on x.seen.device pieces) (faults_on x.seen.device pieces') → FailsOn (by c) name m.counts (counts_of new) x.name x.device
      disk_fault rose = record {
        member = member_in x;
        there = member_there x one;
        device_is = refl;
        disk_is = refl;
        own = disk_own (rose_there pieces pieces' x.seen.device (same_of see shelf h g has_group pieces pieces' now on keeps x.seen.device) rose);
        failed = disk_fails rose;
      }

    -- where some piece is cut, a device of the volume is
    pub some_lost : SomeCut pieces' → IsCutOff (by c) name (counts_of new)
    some_lost lost =
        let s = some_cut_on pieces' lost in
        let any : list_any (is_of s.0) pieces ≡ true = sym (same_of see shelf h g has_group pieces pieces' now on keeps s.0) ∙ s.1.there in
        let d = number_disk see shelf h g has_group pieces pieces' now on keeps s.0 any in (
          d.disk.device,
          disk_own d.disk d.there (subst (λ n. list_any (is_of n) pieces ≡ true) (sym d.number_is) any),
          disk_is_cut d.disk d.there (subst (λ n. cut_on n pieces' ≡ 1) (sym d.number_is) s.1.cut),
        )
