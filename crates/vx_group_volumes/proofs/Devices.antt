-- The devices that the pieces of a running volume are of are those of its plexes.
use Rattle.std.proofs.Common.{◌≡◌, inl, inr, ℕ, List, [], ◌∷◌, Option, Some, refl, sym, ap, ◌∙◌, subst}
use Rattle.std.specs.Prelude.{◌&&◌, ◌==◌, nat_le, nat_lt, ◌-◌, Contains, slice_index}
use Rattle.std.specs.List.{flat_map}
use Rattle.std.proofs.lemmas.Bool.{and_parts, eqb-true}
use Rattle.vx_base.specs.Named.{Word}
use Rattle.vx_piece.specs.Seen.{Seen}
use Rattle.vx_carve.specs.Together.{faults_on}
use Rattle.vx_layout.specs.declared.place.Place.{Place}
use Rattle.vx_layout.specs.declared.strip.Strip.{Strip}
use Rattle.vx_pages.specs.declared.local_piece.LocalPiece.{Ghosts}
use Rattle.vx_config_parts.specs.declared.disk.Disk.{Disk}
use Rattle.vx_config_parts.specs.declared.plex.Plex.{Plex}
use Rattle.vx_objects.specs.declared.config.Config.{Config}
use Rattle.vx_image.specs.Lies.{columns_of, strips_of}
use Rattle.vx_image.proofs.PlexMembers.{IsIn, in_left, in_right}
use Rattle.vx_image.specs.Own.{IsOfPlex}
use Rattle.vx_image.proofs.Members.{contains, is_in}
use Rattle.vx_moments.specs.Owners.{device_at, devices_on, listed}
use Rattle.vx_volume.specs.Volume.{log_of, volume_seen}
use Rattle.vx_lending.specs.Left.{held_pieces}
use Rattle.vx_lending.specs.Logs.{log_copies}
use Rattle.vx_lending.specs.declared.public.Running.{Running}
use Rattle.vx_group_volumes.specs.Places.{IsOwnSector, IsSlotOf, disks_at}
use Rattle.vx_group_volumes.proofs.Held.{kept_sector, of_pieces}
use Rattle.vx_group_volumes.specs.Devices.{IsOwnDevice, LiesOnDevice}
use Rattle.vx_group_volumes.specs.PlexLaws.{EachCutDeviceIsOwn, EachDeviceIsNamed, EachFailedDeviceIsOwn, EachHeldDeviceIsOwn, EachOwnDeviceIsNamed}
use Rattle.vx_group_volumes.proofs.Counts.{rose_some, some_covered, some_cut_on, still_of}

-- a strip of the plex has the place
pub on_device : (c : Config) (disks : List Disk) (numbers : List ℕ) (p : Plex) (place : Place) (device : ℕ) → IsOfPlex c p place → IsSlotOf disks place.disk → slice_index numbers place.disk ≡ device → LiesOnDevice c disks numbers p device
on_device c disks numbers p place device of on number =
    let strip = of.0 in
    let first = and_parts (strip.disk == place.disk && nat_le strip.start place.sector) (nat_lt (place.sector - strip.start) strip.count) of.2 in
    record {
      slot = place.disk;
      on = on;
      number_is = number;
      strip = strip;
      there = of.1;
      disk_is = eqb-true strip.disk place.disk (and_parts (strip.disk == place.disk) (nat_le strip.start place.sector) first.0).0;
    }

-- a plex that lies where another one does lies on its devices
pub moved_device : (c0 c : Config) (disks : List Disk) (numbers : List ℕ) (p q : Plex) (device : ℕ) → columns_of c q ≡ columns_of c0 p → LiesOnDevice c0 disks numbers p device → LiesOnDevice c disks numbers q device
moved_device c0 c disks numbers p q device same lies =
    record {
      slot = lies.slot;
      on = lies.on;
      number_is = lies.number_is;
      strip = lies.strip;
      there = subst (λ (columns : List (List Strip)). Contains (flat_map (λ strips. strips) columns) lies.strip) (sym same) lies.there;
      disk_is = lies.disk_is;
    }

pub own_device : (c : Config) (vol : Word) (disks : List Disk) (numbers : List ℕ) (device k : ℕ) → IsOwnSector c vol disks numbers device k → IsOwnDevice c vol disks numbers device
own_device c vol disks numbers device k s =
    record { plex = s.of.0; there = s.of.1; own = s.of.2; lies = on_device c disks numbers s.of.0 (record { disk = s.slot; sector = s.sector }) device s.of.3 s.on s.number_is }

-- ---- by their names

in_some : {A B : Type 0} (f : A → List B) (xs : List A) (x : A) (y : B) → IsIn xs x → IsIn (f x) y → IsIn (flat_map f xs) y
in_some f [] x y here there = absurd here
in_some f (z ∷ xs) x y (inl same) there = in_left (f z) (flat_map f xs) y (subst (λ w. IsIn (f w) y) same there)
in_some f (z ∷ xs) x y (inr later) there = in_right (f z) (flat_map f xs) y (in_some f xs x y later there)

listed_one : (o : Option Word) (name : Word) → o ≡ Some name → IsIn (listed o) name
listed_one o name is = subst (λ (x : Option Word). IsIn (listed x) name) (sym is) (inl refl)

pub device_named : EachDeviceIsNamed
device_named g disks numbers p device lies name is =
    let devices = λ (strip : Strip). listed (device_at g.members strip.disk) in
    contains (devices_on g p) name
    (in_some devices (strips_of g.config p) lies.strip name (is_in (strips_of g.config p) lies.strip lies.there) (listed_one (device_at g.members lies.strip.disk) name (ap (device_at g.members) lies.disk_is ∙ is)))

pub own_named : EachOwnDeviceIsNamed
own_named g vol disks numbers device own name is = (own.plex, own.there, own.own, device_named g disks numbers own.plex device own.lies name is)

-- ---- of a running volume

module _ {P : Type 0} {ghosts : Ghosts P} (running : Running P ghosts) where
  abbrev held : List Seen
  held = held_pieces ghosts.seen running.volume

  pub held_own : EachHeldDeviceIsOwn ghosts.seen running
  held_own c good numbers v placed some device any =
      let runs = placed.runs in
      let r = some_covered device held some any in
      own_device c v.name (disks_at runs.opening) numbers device r.0
      (kept_sector runs.opening.config runs.opening.good runs.opening.vol numbers device r.0 c v.name placed.places
      (of_pieces runs.opening.config runs.opening.good runs.opening.vol runs.opening.fresh running.form runs.form numbers device r.0 (volume_seen ghosts.seen running.volume) (log_copies ghosts.seen (log_of running.volume)) runs.lies.lies r.1))

  pub failed_own : EachFailedDeviceIsOwn ghosts.seen running
  failed_own c good numbers v placed some held' keep device rose =
      held_own c good numbers v placed some device (still_of device held held' keep (rose_some device (faults_on device held) held' rose))

  pub cut_own : EachCutDeviceIsOwn ghosts.seen running
  cut_own c good numbers v placed some held' keep cut =
      let r = some_cut_on held' cut in
      (r.0, held_own c good numbers v placed some r.0 (still_of r.0 held held' keep r.1), r.2)
