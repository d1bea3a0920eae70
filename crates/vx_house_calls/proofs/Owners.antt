-- The devices of the pieces of a running volume are devices of its plexes, by their numbers.
use Rattle.std.proofs.Common.{◌≡◌, ◌∙◌, inl, inr, ℕ, ◌-◌, ◌==◌, ◌&&◌, ◌||◌, Bool, true, false, cond, List, [], ◌∷◌, Option, Some, refl, sym, ap, subst, arith}
use Rattle.std.specs.Prelude.{Contains, nat_le, nat_lt, slice_index}
use Rattle.std.specs.List.{All, list_any}
use Rattle.std.proofs.lemmas.Bool.{and_parts, eqb-true}
use Rattle.std.proofs.lemmas.List.Elements.{All-head, All-tail}
use Rattle.vx_pages.specs.declared.local_piece.LocalPiece.{Ghosts}
use Rattle.vx_base.specs.Named.{Word}
use Rattle.vx_piece.specs.Seen.{Seen}
use Rattle.vx_carve.specs.Together.{HasSome, covers}
use Rattle.vx_layout.specs.declared.strip.Strip.{Strip}
use Rattle.vx_config_parts.specs.declared.plex.Plex.{Plex}
use Rattle.vx_config_parts.specs.Objects.{refers}
use Rattle.vx_image.specs.Lies.{strips_of}
use Rattle.vx_image.proofs.PlexMembers.{IsIn}
use Rattle.vx_image.specs.Own.{IsOfVolume}
use Rattle.vx_image.proofs.Members.{contains, is_in}
use Rattle.vx_copies.specs.Disks.{DiskSeen}
use Rattle.vx_copies.specs.Lists.{AllOf}
use Rattle.vx_shelf.specs.Shelf.{Held, AreNumbered}
use Rattle.vx_fronts.specs.Rests.{is_of}
use Rattle.vx_lending.specs.Left.{held_pieces}
use Rattle.vx_lending.specs.Logs.{log_copies}
use Rattle.vx_moments.specs.World.{Group, Member, Volume}
use Rattle.vx_moments.specs.Group.{IsSectorOf}
use Rattle.vx_moments.specs.Owners.{IsDeviceOfVolume, device_at, devices_on, listed}
use Rattle.vx_volume.specs.Volume.{log_of, volume_seen}
use Rattle.vx_lending.specs.declared.public.Running.{Running}
use Rattle.vx_group_volumes.specs.Places.{IsOwnSector, IsSlotOf, disks_at}
use Rattle.vx_group_volumes.proofs.Held.{kept_sector, of_pieces}
use Rattle.vx_house.specs.Runs.{IsRunOf}
use Rattle.vx_house_calls.proofs.Entries.{all_at_one, in_flat}

-- ---- numbers

-- the device of the name was taken, and has the number
pub record HasNumber (held : Word → Option Held) (name : Word) (number : ℕ) : Type 0 where
  pub device : Held
  pub taken : held name ≡ Some device
  pub is : device.device ≡ number

pub same_name : (held : Word → Option Held) → AreNumbered held → (a b : Word) (n : ℕ) → HasNumber held a n → HasNumber held b n → a ≡ b
same_name held numbered a b n p q = numbered a b p.device q.device p.taken q.taken (p.is ∙ sym q.is)

-- ---- members

-- the member that a slot's device is of
pub record IsMemberAt (ms : List Member) (slot : ℕ) (device : Word) : Type 0 where
  pub member : Member
  pub there : IsIn ms member
  pub slot_is : member.slot ≡ slot
  pub device_is : member.device ≡ device

pub member_at : (ms : List Member) (slot : ℕ) (device : Word) → device_at ms slot ≡ Some device → IsMemberAt ms slot device
member_at [] slot device is = cc
member_at (m ∷ ms) slot device is = by (m.slot == slot) refl (member_at ms slot device) is
  where
    by : (b : Bool) → (m.slot == slot) ≡ b → (device_at ms slot ≡ Some device → IsMemberAt ms slot device) → cond b (Some m.device) (device_at ms slot) ≡ Some device →
        IsMemberAt (m ∷ ms) slot device
    by true e rest is = record { member = m; there = inl refl; slot_is = eqb-true m.slot slot e; device_is = (let same : m.device ≡ device = cc in same) }
    by false e rest is = let r = rest is in record { member = r.member; there = inr r.there; slot_is = r.slot_is; device_is = r.device_is }

-- a strip of the plex is on the device of its slot's member
pub strip_device : (g : Group) (p : Plex) (strip : Strip) (device : Word) → Contains (strips_of g.config p) strip → device_at g.members strip.disk ≡ Some device →
    Contains (devices_on g p) device
strip_device g p strip device there at =
    let one : IsIn (listed (device_at g.members strip.disk)) device = subst (λ o. IsIn (listed o) device) (sym at) (inl refl) in
    contains (devices_on g p) device (in_flat (λ (strip : Strip). listed (device_at g.members strip.disk)) (strips_of g.config p) strip device (is_in (strips_of g.config p) strip there) one)

-- ---- pieces

-- a piece of the device has its first sector
first_covered : (p : Seen) (d : ℕ) → is_of d p ≡ true → HasSome p → covers d p.start p ≡ true
first_covered p d e some = grind (arith, e, some)

pub covered_of : (ps : List Seen) (d : ℕ) → All HasSome ps → list_any (is_of d) ps ≡ true → (k : ℕ) × (list_any (covers d k) ps ≡ true)
covered_of [] d some any = cc
covered_of (p ∷ ps) d some any = by (is_of d p) refl any (covered_of ps d (All-tail HasSome p ps some))
  where
    or_true : (a b : Bool) → a ≡ true → (a || b) ≡ true
    or_true true b e = refl
    or_true false b e = cc

    or_behind : (a b : Bool) → b ≡ true → (a || b) ≡ true
    or_behind true b e = refl
    or_behind false b e = e

    by : (b : Bool) → is_of d p ≡ b → (b || list_any (is_of d) ps) ≡ true → (list_any (is_of d) ps ≡ true → (k : ℕ) × (list_any (covers d k) ps ≡ true)) →
        (k : ℕ) × (list_any (covers d k) (p ∷ ps) ≡ true)
    by true e any rest = (p.start, or_true (covers d p.start p) (list_any (covers d p.start) ps) (first_covered p d e (All-head HasSome p ps some)))
    by false e any rest = let r = rest any in (r.0, or_behind (covers d r.0 p) (list_any (covers d r.0) ps) r.1)

-- ---- a running volume

module _ {P : Type 0} {ghosts : Ghosts P} (see : P → Seen) (hs : List DiskSeen) (g : Group) (name : Word) (r : Running P ghosts) (w : Volume) (run : IsRunOf see hs g name r w)
    (held : Word → Option Held) (numbered : AreNumbered held) (taken : AllOf (λ h. HasNumber held h.device h.seen.device) hs) where
  abbrev pub pieces : List Seen
  pieces = held_pieces see r.volume

  own : (d k : ℕ) → list_any (covers d k) pieces ≡ true → IsOwnSector g.config run.of.name (disks_at run.placed.runs.opening) run.numbers d k
  own d k any =
      let o = run.placed.runs.opening in
      kept_sector o.config o.good o.vol run.numbers d k g.config run.of.name run.placed.places
      (of_pieces o.config o.good o.vol o.fresh r.form run.placed.runs.form run.numbers d k (volume_seen see r.volume) (log_copies see (log_of r.volume)) run.placed.runs.lies.lies any)

  -- the slot of a disk that the volume was opened with has the device that has its number
  pub slot_device : (slot d : ℕ) (device : Word) → IsSlotOf (disks_at run.placed.runs.opening) slot → slice_index run.numbers slot ≡ d → HasNumber held device d →
      device_at g.members slot ≡ Some device
  slot_device slot d device on number has =
      let n = run.opened slot on in
      let its : HasNumber held n.disk.device d = subst (HasNumber held n.disk.device) (sym n.number ∙ number)
      (all_at_one (λ h. HasNumber held h.device h.seen.device) hs n.disk taken n.there) in
      n.device ∙ ap (λ (x : Word). Some x) (same_name held numbered n.disk.device device d its has)

  -- a sector that one of its pieces has is the volume's, on the device of that number
  pub sector_own : (d : ℕ) (device : Word) → HasNumber held device d → (k : ℕ) → list_any (covers d k) pieces ≡ true → IsSectorOf g name device k
  sector_own d device has k any =
      let s = own d k any in
      let m = member_at g.members s.slot device (slot_device s.slot d device s.on s.number_is has) in
      record {
        member = m.member;
        there = contains g.members m.member m.there;
        device_is = m.device_is;
        sector = s.sector;
        place_is = s.place_is;
        of = subst (λ v. IsOfVolume g.config v (record { disk = m.member.slot; sector = s.sector })) run.named
            (subst (λ n. IsOfVolume g.config run.of.name (record { disk = n; sector = s.sector })) (sym m.slot_is) s.of);
      }

  on_strip : (strip : Strip) (slot sector : ℕ) → (strip.disk == slot && nat_le strip.start sector && nat_lt (sector - strip.start) strip.count) ≡ true → strip.disk ≡ slot
  on_strip strip slot sector has =
      eqb-true strip.disk slot (and_parts (strip.disk == slot) _ (and_parts (strip.disk == slot && nat_le strip.start sector) _ has).0).0

  -- a device that one of its pieces is of is one of its plexes'
  pub device_own : All HasSome pieces → (d : ℕ) (device : Word) → HasNumber held device d → list_any (is_of d) pieces ≡ true → IsDeviceOfVolume g name device
  device_own some d device has any =
      let k = covered_of pieces d some any in
      let s = own d k.0 k.1 in
      let p = s.of.0 in
      let lies = s.of.3 in
      let slot : lies.0.disk ≡ s.slot = on_strip lies.0 s.slot s.sector lies.2 in
      let at : device_at g.members lies.0.disk ≡ Some device = ap (device_at g.members) slot ∙ slot_device s.slot d device s.on s.number_is has in
      (p, s.of.1, subst (λ (v : Word). refers p.vol v ≡ true) run.named s.of.2, strip_device g p lies.0 device lies.1 at)
