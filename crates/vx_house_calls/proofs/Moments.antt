-- The moments of a house of whose group one running volume was called.
use Rattle.std.proofs.Common.{◌≡◌, ◌∙◌, inl, inr, ℕ, Bool, true, false, cond, List, [], ◌∷◌, map, Option, Some, None, refl, sym, ap, subst}
use Rattle.std.specs.Prelude.{Contains, slice_index}
use Rattle.std.specs.BTreeMap.{BTreeMap}
use Rattle.std.specs.List.{All, list_any}
use Rattle.std.specs.Str.{bytes_eq}
use Rattle.vx_pages.specs.declared.local_piece.LocalPiece.{Ghosts}
use Rattle.vx_base.specs.Counts.{Rose}
use Rattle.vx_base.specs.Named.{Word, put}
use Rattle.vx_base.proofs.NamedLemmas.{bytes_eq_same}
use Rattle.vx_piece.specs.Seen.{Seen}
use Rattle.vx_runs.specs.Run.{SomeCut}
use Rattle.vx_carve.specs.Together.{HasSome, covers, cut_on, faults_on}
use Rattle.vx_config_parts.specs.declared.plex.Plex.{Plex}
use Rattle.vx_image.proofs.PlexMembers.{IsIn, in_map}
use Rattle.vx_image.proofs.Members.{contains}
use Rattle.vx_copies.specs.Disks.{DiskSeen, good_mask}
use Rattle.vx_copies.specs.Lists.{AllOf, Each}
use Rattle.vx_confdb.specs.Groups.{members}
use Rattle.vx_shelf.specs.Shelf.{held_as as held_of}
use Rattle.vx_fronts.specs.Rests.{is_of, told_at}
use Rattle.vx_lending.specs.Left.{held_pieces}
use Rattle.vx_moments.specs.Leaving.{lone, lone_by, grouped, grouped_by}
use Rattle.vx_moments.specs.Moment.{Moment, AreLater}
use Rattle.vx_moments.specs.Moment.{HasFailed as FailsAt}
use Rattle.vx_moments.specs.World.{World, Device, Group, Lies, OnDevice, OnPlexes, Volume}
use Rattle.vx_moments.specs.Group.{ChangesOnly, IsSectorOf}
use Rattle.vx_moments.specs.Owners.{IsDeviceOfVolume, device_at}
use Rattle.vx_stages.specs.GroupCalls.{CallsOnly, PlexHasFailed}
use Rattle.vx_stages.specs.Logs.{LogIsSpared}
use Rattle.vx_volume.specs.Volume.{volume_seen}
use Rattle.vx_volume_laws.specs.Exact.{IsExactVolume}
use Rattle.vx_volume_laws.specs.Running.{IsSureOfOthers, RunsAsVolume}
use Rattle.vx_lending.specs.declared.public.Running.{Running}
use Rattle.vx_lending.specs.Public.{running_at}
use Rattle.vx_group_volumes.specs.Places.{IsSlotOf, disks_at}
use Rattle.vx_house.specs.Holders.{group_holders, hand_holder, held_as, holder_in, holders, volume_at, volume_holder, whole_members, IsTakenFrom}
use Rattle.vx_house.specs.Runs.{IsAtRun, IsRunOf, fronts_in, run_in}
use Rattle.vx_group_volumes.specs.Opened.{opened_plexes}
use Rattle.vx_house.specs.Scene.{Shelved, Scene, seen_at, seen_in, faults_at, count_in, counts_of}
use Rattle.vx_house.specs.View.{at, scene, group_of, is_lent, member_in, member_of, IsAtVolume, IsDeviceOf, IsMoment, Keeps}
use Rattle.vx_house.specs.declared.house.House.{House}
use Rattle.vx_house.specs.declared.house.Imported.{Imported}
use Rattle.vx_house.proofs.Wholes.{mapped_members}
use Rattle.vx_house.proofs.Lists.{each_append, each_first, each_mapped}
use Rattle.vx_house.proofs.Moments.{counts_own, moment_at}
use Rattle.vx_house.proofs.Steps.{HeldStep, IsStep, faults_by, held_steps, place_by, steps_counts, steps_self}
use Rattle.vx_house_calls.specs.Passes.{EachCallGoesOn, GoesOnWith, IsCalledIn, IsCutOf, IsNext, IsOneOf, IsSlotOfDisk, LiesAlike, LiesOnSlot, RunsOn, SlotFails, SlotIsCut, with_group}
use Rattle.vx_house_calls.proofs.Counts.{SameCounts}
use Rattle.vx_house_calls.proofs.Entries.{all_at_one}
use Rattle.vx_house_calls.proofs.Groups.{DiskIsCalled, runs_after, some, whole_now, with_running}
use Rattle.vx_house_calls.proofs.Houses.{called_faults, called_keeps, disk_cut, disk_failed, disk_rose, disks, held_now, kept, number_disk, numbered, rose_disk, rose_there, same_of, some_cut_on, taken, were}
use Rattle.vx_house_calls.proofs.Owners.{HasNumber, device_own, sector_own, strip_device}
use Rattle.vx_house_calls.proofs.Steps.{SeenStep, count_stays, device_now, device_seen, device_stays, place_self, step_self}

-- a volume on plexes is one of the group, and not one alone
pub grouped_lies : (v : Volume) (plexes : List Word) → v.lies ≡ OnPlexes plexes → grouped (Some v) ≡ Some v
grouped_lies v plexes is = ap (λ l. grouped_by l v) is

pub lone_lies : (v : Volume) (plexes : List Word) → v.lies ≡ OnPlexes plexes → lone (Some v) ≡ None
lone_lies v plexes is = ap (λ l. lone_by l v) is

-- the volume of the world that the one of the house runs as
pub record IsRunThere {P : Type 0} {ghosts : Ghosts P} (see : P → Seen) (hs : List DiskSeen) (g : Group) (name : Word) (r : Running P ghosts) (o : Option Volume) : Type 0 where
  pub volume : Volume
  pub there : o ≡ Some volume
  pub run : IsRunOf see hs g name r volume

pub run_there : {P : Type 0} {ghosts : Ghosts P} (see : P → Seen) (hs : List DiskSeen) (g : Group) (name : Word) (r : Running P ghosts) (o : Option Volume) →
    IsAtRun see hs (Some g) name (Some r) (grouped o) → IsRunThere see hs g name r o
run_there see hs g name r None at = absurd at
run_there {ghosts = ghosts} see hs g name r (Some w) at = by w.lies at
  where
    by : (lies : Lies) → IsAtRun see hs (Some g) name (Some r) (grouped_by lies w) → IsRunThere see hs g name r (Some w)
    by (OnDevice device) at = absurd at
    by (OnPlexes plexes) at = record { volume = w; there = refl; run = at }

module _ {P : Type 0} {ghosts : Ghosts P} (see : P → Seen) (shelf : Shelved) (h : House P ghosts) (g : Imported P ghosts) (has_group : h.group ≡ Some g) (name : Word) (running : BTreeMap Word (Running P ghosts))
    (is : IsCalledIn see name g (with_running g running)) (keeps : Keeps see (at shelf h)) where
  abbrev hs : List DiskSeen
  hs = members see g.base

  abbrev pub k : House P ghosts
  k = with_group h (with_running g running)

  abbrev pub old : Scene
  old = scene see (at shelf h)

  abbrev pub new : Scene
  new = scene see (at shelf k)

  abbrev pieces : List Seen
  pieces = held_pieces see is.before.volume

  abbrev pieces' : List Seen
  pieces' = held_pieces see is.after.volume

  -- the group, as the world has it
  abbrev pub gm : Group
  gm = record { config = g.config; good = good_mask (members see g.base); members = map member_of g.base.disks.items; sequence = g.base.sequence }

  module _ (m : Moment) (at_m : IsMoment see (at shelf h) m) where
    pub here : m.world.group ≡ Some gm
    here = at_m.group_is ∙ ap (group_of see) has_group

    -- a volume that runs, as the world has it
    at_run : (x : Word) → IsAtRun see hs (Some gm) x (running_at g.public x) (grouped (m.world.volumes x))
    at_run x =
        subst (λ o. IsAtRun see (fronts_in see o) (Some gm) x (run_in o x) (grouped (m.world.volumes x))) has_group
        (subst (λ w. IsAtRun see (fronts_in see h.group) w x (run_in h.group x) (grouped (m.world.volumes x))) here (at_m.runs_are x))

    pub there : IsRunThere see hs gm name is.before (m.world.volumes name)
    there = run_there see hs gm name is.before (m.world.volumes name) (subst (λ r. IsAtRun see hs (Some gm) name r (grouped (m.world.volumes name))) is.was (at_run name))

    abbrev pub w : Volume
    w = there.volume

    abbrev pub run : IsRunOf see hs gm name is.before w
    run = there.run

    -- ---- devices

    own_number : (o : DiskSeen) → IsTakenFrom shelf.held (holder_in o) → HasNumber shelf.held o.device o.seen.device
    own_number o from = record { device = held_of o.seen; taken = from.1; is = refl }

    pieces_some : All HasSome pieces
    pieces_some = some see name g running is (kept see shelf h g has_group name running is keeps).whole

    numbers : AllOf (λ x. HasNumber shelf.held x.device x.seen.device) hs
    numbers = numbered see shelf h g has_group name running is keeps

    -- a device with the number of one of its pieces is one of its plexes'
    pub device_is_own : (d : ℕ) (device : Word) → HasNumber shelf.held device d → list_any (is_of d) pieces ≡ true → IsDeviceOfVolume gm name device
    device_is_own = device_own see hs gm name is.before w run shelf.held keeps.devices.numbers numbers pieces_some

    disk_step : (o n : DiskSeen) → IsTakenFrom shelf.held (holder_in o) → DiskIsCalled pieces pieces' o n → IsStep (SeenStep gm name) (holder_in o) (holder_in n)
    disk_step o n from on = record {
      name = on.goes.device;
      goes = record {
        keeps = on.goes.keeps;
        tells = on.goes.tells;
        told = λ k other. told k other (list_any (covers o.seen.device k) pieces) refl;
        still = λ away. still away (list_any (is_of o.seen.device) pieces) refl;
      };
    }
      where
        told : (k : ℕ) → (IsSectorOf gm name o.device k → ⊥) → (b : Bool) → list_any (covers o.seen.device k) pieces ≡ b → told_at n.seen.told k ≡ told_at o.seen.told k
        told k other true e = absurd (other (sector_own see hs gm name is.before w run shelf.held keeps.devices.numbers numbers o.seen.device o.device (own_number o from) k e))
        told k other false e = on.goes.told k e

        still : (IsDeviceOfVolume gm name o.device → ⊥) → (b : Bool) → list_any (is_of o.seen.device) pieces ≡ b → SameCounts o.seen n.seen
        still away true e = absurd (away (device_is_own o.seen.device o.device (own_number o from) e))
        still away false e = on.counts.quiet e

    group_steps : Each (IsStep (SeenStep gm name)) (group_holders see (Some g)) (group_holders see k.group)
    group_steps =
        each_mapped (λ o n. IsStep (SeenStep gm name) (holder_in o) (holder_in n)) (IsStep (SeenStep gm name)) holder_in (λ o n step. step)
        (whole_members see g) (whole_members see (with_running g running))
        (each_first (λ o. IsTakenFrom shelf.held (holder_in o)) (DiskIsCalled pieces pieces') (λ o n. IsStep (SeenStep gm name) (holder_in o) (holder_in n))
        (λ o n from on. disk_step o n from on)
        (whole_members see g) (whole_members see (with_running g running)) (taken see shelf h g has_group name running is keeps) (disks see shelf h g has_group name running is keeps))

    -- each device goes on
    steps : Each (IsStep (SeenStep gm name)) (holders see h) (holders see k)
    steps =
        let vs = map (volume_holder see) h.volumes.entries in
        let ts = map (hand_holder see) h.hand.items in
        let self = λ (x : Word) (s : Seen). step_self gm name x s in
        subst (λ os. Each (IsStep (SeenStep gm name)) os (holders see k)) (sym (were see shelf h g has_group name running is keeps))
        (each_append (IsStep (SeenStep gm name)) vs vs _ _ (steps_self (SeenStep gm name) self vs)
        (each_append (IsStep (SeenStep gm name)) (group_holders see (Some g)) (group_holders see k.group) ts ts group_steps (steps_self (SeenStep gm name) self ts)))

    held_step : (x : Word) → HeldStep (SeenStep gm name x) (held_as (holders see h) x) (held_as (holders see k) x)
    held_step x = held_steps (SeenStep gm name) (holders see h) (holders see k) x steps

    pub place_step : (x : Word) → HeldStep (SeenStep gm name x) (seen_at old x) (seen_at new x)
    place_step x =
        place_by (SeenStep gm name x) (HeldStep (SeenStep gm name x)) (held_as (holders see h) x) (held_as (holders see k) x) shelf.free x
        (held_step x) (λ none o. place_self gm name x o) (λ s t step. step)

    -- the devices of the world: of each that is told what it holds now
    abbrev pub devices : Word → Option Device
    devices x = device_seen (is_lent h x) (seen_at new x) (m.world.devices x)

    devices_now : (x : Word) → IsDeviceOf (is_lent h x) (seen_at new x) (devices x)
    devices_now x = device_now gm name x (is_lent h x) (seen_at old x) (seen_at new x) (m.world.devices x) (place_step x) (at_m.devices_are x)

    pub changes : ChangesOnly gm name m.world.devices devices
    changes x = device_stays gm name x (is_lent h x) (seen_at old x) (seen_at new x) (m.world.devices x) (place_step x) (at_m.devices_are x)

    pub counts_are_later : AreLater m.counts (counts_of new)
    counts_are_later = steps_counts (SeenStep gm name) (λ x s t step. step.keeps) (holders see h) (holders see k) steps shelf m.counts at_m.counts

    pub calls : CallsOnly gm name m.counts (counts_of new)
    calls = record {
      reads = λ x away. count_stays gm name x (λ (s : Seen). s.reads) 0 (λ s t same. same.reads) away (seen_at old x) (seen_at new x) (place_step x) ∙ sym (at_m.counts.reads x);
      writes = λ x away. count_stays gm name x (λ (s : Seen). s.writes) 0 (λ s t same. same.writes) away (seen_at old x) (seen_at new x) (place_step x) ∙ sym (at_m.counts.writes x);
      faults = λ x away.
          faults_by (SeenStep gm name x) (λ a b. b ≡ a) (held_as (holders see h) x) (held_as (holders see k) x) (shelf.counted x) (held_step x) refl (λ s t step. (step.still away).faults)
          ∙ sym (at_m.counts.faults x);
      shelf = sym at_m.counts.shelf;
    }

    -- ---- the volume

    module _ (later : Volume) (alike : LiesAlike w later)
        (runs_as : later.sound ≡ true → RunsAsVolume run.plexes (volume_seen see is.after.volume) later)
        (sure : later.sound ≡ true → IsSureOfOthers run.plexes (volume_seen see is.after.volume) later)
        (exact : later.sound ≡ true → LogIsSpared gm name later.failed → IsExactVolume (volume_seen see is.after.volume)) where
      run_now : IsRunOf see hs gm name is.after later
      unfolding runs_after
      run_now = record {
        of = run.of;
        named = run.named;
        started = run.started;
        numbers = run.numbers;
        own = run.own;
        placed = runs_after see name g running is gm.config gm.good run.numbers run.of run.placed;
        opened = run.opened;
        numbered = run.numbered;
        lies = alike.lies ∙ run.lies;
        length_is = alike.length_is ∙ run.length_is;
        region_is = alike.region_is ∙ run.region_is;
        plexes = run.plexes;
        plexes_of = run.plexes_of;
        plexes_then = run.plexes_then;
        runs_as = runs_as;
        sure = sure;
        exact = exact;
      }

      abbrev pub after : World
      after = record m.world { devices = devices; volumes = put name (Some later) m.world.volumes }

      abbrev pub n : Moment
      n = moment_at after new

      plexes_now : later.lies ≡ OnPlexes (opened_plexes run.placed.runs.opening)
      plexes_now = alike.lies ∙ run.lies

      run_by : (x : Word) (b : Bool) → bytes_eq name x ≡ b →
          IsAtRun see hs (Some gm) x (cond b (Some is.after) (running_at g.public x)) (grouped (cond b (Some later) (m.world.volumes x)))
      run_by x false e = at_run x
      run_by x true e =
          subst (λ n. IsAtRun see hs (Some gm) n (Some is.after) (grouped (Some later))) (bytes_eq_same name x e)
          (subst (λ o. IsAtRun see hs (Some gm) name (Some is.after) o) (sym (grouped_lies later _ plexes_now)) run_now)

      volume_by : (vol : Word) (b : Bool) → bytes_eq name vol ≡ b → IsAtVolume see (volume_at h vol) (lone (cond b (Some later) (m.world.volumes vol)))
      volume_by vol false e = at_m.volumes_are vol
      volume_by vol true e =
          let was : m.world.volumes vol ≡ Some w = ap m.world.volumes (sym (bytes_eq_same name vol e)) ∙ there.there in
          subst (IsAtVolume see (volume_at h vol)) (ap lone was ∙ lone_lies w _ run.lies ∙ sym (lone_lies later _ plexes_now)) (at_m.volumes_are vol)

      pub moment_now : IsMoment see (at shelf k) n
      moment_now = record {
        told = at_m.told;
        devices_are = devices_now;
        volumes_are = λ vol. volume_by vol (bytes_eq name vol) refl;
        runs_are = λ x.
            subst (λ o. IsAtRun see hs o x (running_at (with_running g running).public x) (grouped (put name (Some later) m.world.volumes x))) (sym here)
            (subst (λ r. IsAtRun see hs (Some gm) x r (grouped (put name (Some later) m.world.volumes x))) (sym (is.puts x)) (run_by x (bytes_eq name x) refl));
        group_is = here;
        counts = counts_own new;
      }

      pub next : IsNext see (at shelf k) gm name later m n
      next = record { is = moment_now; later = counts_are_later; counts = refl; world = refl; changes = changes; calls = calls }

    -- ---- faults and cuts

    module _ (x : DiskSeen) (one : IsOneOf hs x) where
      its_number : HasNumber shelf.held x.device x.seen.device
      its_number = all_at_one (λ y. HasNumber shelf.held y.device y.seen.device) hs x numbers one

      -- a disk that some piece of the volume is on is a device of the volume
      pub disk_own : list_any (is_of x.seen.device) pieces ≡ true → IsDeviceOfVolume gm name x.device
      disk_own any = device_is_own x.seen.device x.device its_number any

      -- where the count of the pieces on it rose, that of the device did
      pub disk_fails : Rose (faults_on x.seen.device pieces) (faults_on x.seen.device pieces') → FailsAt m.counts (counts_of new) x.device
      disk_fails rose = subst (λ n. Rose n (faults_at new x.device)) (sym (at_m.counts.faults x.device)) (disk_rose see shelf h g has_group name running is keeps x one rose)

      -- where one of them is cut, the device is
      pub disk_is_cut : cut_on x.seen.device pieces' ≡ 1 → (counts_of new).cut x.device ≡ true
      disk_is_cut cut =
          ap (λ o. count_in (λ (s : Seen). s.cut) false (seen_in o shelf.free x.device)) (held_now see shelf h g has_group name running is keeps x one)
          ∙ disk_cut see shelf h g has_group name running is keeps x one cut

    -- the slot of a disk that the volume was opened with is that of a member
    pub slot_disk : (slot number : ℕ) → IsSlotOf (disks_at run.placed.runs.opening) slot → slice_index run.numbers slot ≡ number → IsSlotOfDisk hs gm slot number
    slot_disk slot number on is_number = let n = run.opened slot on in record { disk = n.disk; there = n.there; number_is = sym n.number ∙ is_number; device_is = n.device }

    slot_fails : (slot number : ℕ) → IsSlotOf (disks_at run.placed.runs.opening) slot → slice_index run.numbers slot ≡ number →
        Rose (faults_on number pieces) (faults_on number pieces') →
        SlotFails gm old new m.counts (counts_of new) slot
    slot_fails slot number on is_number up =
        let d = slot_disk slot number on is_number in
        let rose : Rose (faults_on d.disk.seen.device pieces) (faults_on d.disk.seen.device pieces') = subst (λ n. Rose (faults_on n pieces) (faults_on n pieces')) (sym d.number_is) up in
        record { device = d.disk.device; device_is = d.device_is; failed = disk_fails d.disk d.there rose; seen = disk_failed see shelf h g has_group name running is keeps d.disk d.there rose }

    slot_is_cut : (slot number : ℕ) → IsSlotOf (disks_at run.placed.runs.opening) slot → slice_index run.numbers slot ≡ number → cut_on number pieces' ≡ 1 → SlotIsCut gm (counts_of new) slot
    slot_is_cut slot number on is_number one =
        let d = slot_disk slot number on is_number in
        record { device = d.disk.device; device_is = d.device_is; cut = disk_is_cut d.disk d.there (subst (λ n. cut_on n pieces' ≡ 1) (sym d.number_is) one) }

    -- a plex fails with the device of its slot
    plex_fails : (p : Plex) (slot number : ℕ) → LiesOnSlot gm p slot → IsSlotOf (disks_at run.placed.runs.opening) slot → slice_index run.numbers slot ≡ number →
        Rose (faults_on number pieces) (faults_on number pieces') →
        PlexHasFailed gm m.counts (counts_of new) p
    plex_fails p slot number lies on is_number up =
        let f = slot_fails slot number on is_number up in
        (f.device, strip_device gm p lies.0 f.device lies.1 (ap (device_at gm.members) lies.2 ∙ f.device_is), f.failed)

    -- where some piece is cut, a device of the volume is
    pub some_lost : SomeCut pieces' → IsCutOf gm name (counts_of new)
    some_lost lost =
        let c = some_cut_on pieces' lost in
        let any : list_any (is_of c.0) pieces ≡ true = sym (same_of see shelf h g has_group name running is keeps c.0) ∙ c.1.there in
        let d = number_disk see shelf h g has_group name running is keeps c.0 any in (
          d.disk.device,
          disk_own d.disk d.there (subst (λ n. list_any (is_of n) pieces ≡ true) (sym d.number_is) any),
          disk_is_cut d.disk d.there (subst (λ n. cut_on n pieces' ≡ 1) (sym d.number_is) c.1.cut),
        )

    member_there : (x : DiskSeen) → IsOneOf hs x → Contains gm.members (member_in x)
    member_there x one =
        subst (λ ms. Contains ms (member_in x)) (sym (mapped_members see g.base.disks.items))
        (contains (map member_in hs) (member_in x) (in_map member_in hs x (turned hs x one)))
      where
        turned : (xs : List DiskSeen) (x : DiskSeen) → IsOneOf xs x → IsIn xs x
        turned [] x one = absurd one
        turned (y ∷ ys) x (inl is) = inl (sym is)
        turned (y ∷ ys) x (inr more) = inr (turned ys x more)

    pub runs_on : RunsOn see (at shelf h) (at shelf k) hs name is.before is.after m
    runs_on = record {
      group = gm;
      here = here;
      volume = w;
      there = there.there;
      run = run;
      next = λ later alike runs_as sure exact. (n later alike runs_as sure exact, next later alike runs_as sure exact);
      members = member_there;
      slots = slot_disk;
      own = disk_own;
      failed = λ x one rose. (disk_fails x one rose, disk_own x one (rose_there pieces pieces' x.seen.device (same_of see shelf h g has_group name running is keeps x.seen.device) rose));
      cut = disk_is_cut;
      slot_failed = slot_fails;
      slot_cut = slot_is_cut;
      plex_failed = plex_fails;
      lost = some_lost;
    }

  pub goes_on : GoesOnWith see shelf h g (with_running g running) name is.before is.after
  goes_on = record {
    keeps = called_keeps see shelf h g has_group name running is keeps;
    whole = whole_now see name g running is (kept see shelf h g has_group name running is keeps).whole;
    faults = called_faults see shelf h g has_group name running is keeps;
    disks = rose_disk see shelf h g has_group name running is keeps;
    failed = disk_failed see shelf h g has_group name running is keeps;
    moments = runs_on;
  }

-- Whatever group it is then: it is as before but for its running volumes.
pub each_call_on : {P : Type 0} {ghosts : Ghosts P} (see : P → Seen) (h : House P ghosts) (old new : Imported P ghosts) → EachCallGoesOn see h old new
each_call_on see h old new shelf name has_group called keeps =
    subst (λ x. (is : IsCalledIn see name old x) → GoesOnWith see shelf h old x name is.before is.after) (sym called.same)
    (λ is. goes_on see shelf h old has_group name new.public.running is keeps) called
