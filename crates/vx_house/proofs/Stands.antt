-- The bytes of a group's devices stand for the volumes that run on its plexes, while no call is under way.
use Rattle.std.proofs.Common.{◌≡◌, ◌∙◌, ℕ, ◌+◌, ◌==◌, Bool, true, false, cond, List, [], ◌∷◌, ◌++◌, map, Option, Some, None, MatchOption, refl, sym, ap, subst, inl, inr}
use Rattle.std.specs.Prelude.{IfSome, Contains, is_some, slice_index}
use Rattle.std.specs.List.{All, flat_map}
use Rattle.std.proofs.lemmas.List.{append-nil}
use Rattle.std.proofs.lemmas.List.Elements.{All-cons, All-head, All-tail}
use Rattle.vx_pages.specs.declared.local_piece.LocalPiece.{Ghosts}
use Rattle.vx_base.specs.Blocks.{Contents}
use Rattle.vx_base.specs.Named.{Word}
use Rattle.vx_mask.specs.Mask.{has}
use Rattle.vx_piece.specs.Seen.{Seen, EndsThere, AreCounts}
use Rattle.vx_config_parts.specs.declared.vol.Vol.{Vol}
use Rattle.vx_config_parts.specs.declared.object.Object.{Object}
use Rattle.vx_config_parts.specs.declared.object.Object.TheVariants.{DiskRecord, SubdiskRecord, PlexRecord, VolRecord, DcoRecord, SnapRecord}
use Rattle.vx_objects.specs.declared.config.Config.{Config}
use Rattle.vx_objects.specs.Config.{objects_of}
use Rattle.vx_image.specs.Once.{IsOneOf}
use Rattle.vx_image.proofs.PlexMembers.{IsIn, from_map, in_either, one_in}
use Rattle.vx_image.proofs.Members.{contains}
use Rattle.vx_carve.specs.Together.{Holds}
use Rattle.vx_copies.specs.Disks.{DiskSeen, disk_seen}
use Rattle.vx_copies.specs.Lists.{AllOf, AnyOf}
use Rattle.vx_copies.specs.declared.disk.Disk.{Disk}
use Rattle.vx_confdb.specs.Groups.{members}
use Rattle.vx_fronts.specs.Fronts.{Rest, whole_told, with_device, whole_disk}
use Rattle.vx_fronts.specs.Laws.{whole_disks}
use Rattle.vx_fronts.specs.Parted.{AreParted, fronts_of}
use Rattle.vx_fronts.specs.Rests.{AllTell, IsTelling, rests_of, sector_in}
use Rattle.vx_fronts.proofs.Devices.{whole_is}
use Rattle.vx_fronts.proofs.Parted.{all_by, all_fronts, all_parts, parted_once}
use Rattle.vx_fronts.proofs.Sectors.{own_told}
use Rattle.vx_image.specs.Bytes.{Sectors, image_of}
use Rattle.vx_image.specs.Own.{SameInside}
use Rattle.vx_image.proofs.Own.{image_own}
use Rattle.vx_volume_laws.specs.Contents.{AreSectorsOf}
use Rattle.vx_lending.specs.Left.{held_pieces}
use Rattle.vx_lending.specs.declared.public.Running.{Running}
use Rattle.vx_lending.specs.Public.{lent_pieces, running_pieces, still_pieces, stuck_pieces}
use Rattle.vx_volume_laws.specs.Leaving.{EachLeavingStands}
use Rattle.vx_moments.specs.Group.{image_on, public_of, sectors_of}
use Rattle.vx_moments.specs.Lives.{GroupStands, StandForEach, StandsFor}
use Rattle.vx_moments.specs.Volumes.{StandsForVolume}
use Rattle.vx_group_volumes.proofs.Leavings.{leaving_stands}
use Rattle.vx_moments.specs.Leaving.{grouped}
use Rattle.vx_moments.specs.Moment.{Moment}
use Rattle.vx_moments.specs.World.{Device, Group, Member, Volume}
use Rattle.vx_house.specs.Holders.{group_holders, group_rests, hand_holder, held_as, holder_in, holders, volume_holder, whole_members}
use Rattle.vx_house.specs.Leaves.{StandsAt}
use Rattle.vx_moments.specs.Owners.{device_at}
use Rattle.vx_house.specs.Runs.{IsAtRun, IsRunOf, fronts_in, run_in}
use Rattle.vx_house.specs.Scene.{seen_in, seen_at}
use Rattle.vx_house.specs.View.{View, scene, is_lent, IsGroupWhole, IsMomentButGroup, KeepsButGroup}
use Rattle.vx_house.specs.declared.house.Imported.{Imported}
use Rattle.vx_house.proofs.AllLaws.{all_back, all_front, all_two, all_unmapped, found_by_one, held_each}
use Rattle.vx_house.proofs.Hands.{IsInWorld, in_world, volumes_apart}
use Rattle.vx_house.proofs.Wholes.{name_whole}

-- ---- records

-- a volume that is recorded is one of the configuration's
pub recorded_vol : (c : Config) (v : Vol) → IsOneOf (objects_of c) (VolRecord v) → Contains c.volumes v
recorded_vol c v is = by (one_in (objects_of c) (VolRecord v) is)
  where
    none_in : {A : Type 0} (f : A → Object) (xs : List A) → ((x : A) → VolRecord v ≡ f x → ⊥) → IsIn (map f xs) (VolRecord v) → ⊥
    none_in f xs out is = let r = from_map f xs (VolRecord v) is in out r.0 r.2

    same_vol : (u : Vol) → VolRecord v ≡ VolRecord u → v ≡ u
    same_vol u e = cc

    in_vols : (xs : List Vol) → IsIn (map VolRecord xs) (VolRecord v) → IsIn xs v
    in_vols [] is = absurd is
    in_vols (x ∷ xs) (inl e) = inl (same_vol x e)
    in_vols (x ∷ xs) (inr e) = inr (in_vols xs e)

    behind : IsIn (map DcoRecord c.dcos ++ map SnapRecord c.snaps) (VolRecord v) → ⊥
    behind is = elim (in_either (map DcoRecord c.dcos) (map SnapRecord c.snaps) (VolRecord v) is) [ inl a ↦ none_in DcoRecord c.dcos (λ x e. cc) a | inr b ↦ none_in SnapRecord c.snaps (λ x e. cc) b ]

    at_vols : IsIn (map VolRecord c.volumes ++ (map DcoRecord c.dcos ++ map SnapRecord c.snaps)) (VolRecord v) → Contains c.volumes v
    at_vols is = elim (in_either (map VolRecord c.volumes) _ (VolRecord v) is) [ inl a ↦ contains c.volumes v (in_vols c.volumes a) | inr b ↦ absurd (behind b) ]

    at_plexes : IsIn (map PlexRecord c.plexes ++ (map VolRecord c.volumes ++ (map DcoRecord c.dcos ++ map SnapRecord c.snaps))) (VolRecord v) → Contains c.volumes v
    at_plexes is = elim (in_either (map PlexRecord c.plexes) _ (VolRecord v) is) [ inl a ↦ absurd (none_in PlexRecord c.plexes (λ x e. cc) a) | inr b ↦ at_vols b ]

    at_subdisks : IsIn (map SubdiskRecord c.subdisks ++ (map PlexRecord c.plexes ++ (map VolRecord c.volumes ++ (map DcoRecord c.dcos ++ map SnapRecord c.snaps)))) (VolRecord v) → Contains c.volumes v
    at_subdisks is = elim (in_either (map SubdiskRecord c.subdisks) _ (VolRecord v) is) [ inl a ↦ absurd (none_in SubdiskRecord c.subdisks (λ x e. cc) a) | inr b ↦ at_plexes b ]

    by : IsIn (objects_of c) (VolRecord v) → Contains c.volumes v
    by (inl e) = cc
    by (inr is) = elim (in_either (map DiskRecord c.disks) _ (VolRecord v) is) [ inl a ↦ absurd (none_in DiskRecord c.disks (λ x e. cc) a) | inr b ↦ at_subdisks b ]

-- ---- lists

all_entries : {X : Type 0} (Q : Seen → Type 0) (f : X → List Seen) (xs : List X) → All Q (flat_map f xs) → AllOf (λ x. All Q (f x)) xs
all_entries Q f [] all = tt
all_entries Q f (x ∷ xs) all = let two = all_parts Q (f x) (flat_map f xs) all in (two.0, all_entries Q f xs two.1)

-- the sectors of a slot are those of its member's device
sectors_at : (devices : Word → Option Device) (ms : List Member) (slot : ℕ) (name : Word) → device_at ms slot ≡ Some name → (k : ℕ) → sectors_of devices ms slot k ≡ public_of (devices name) k
sectors_at devices [] slot name is k = cc
sectors_at devices (m ∷ ms) slot name is k = by (m.slot == slot) (sectors_at devices ms slot name) is
  where
    by : (b : Bool) → (device_at ms slot ≡ Some name → (k : ℕ) → sectors_of devices ms slot k ≡ public_of (devices name) k) → cond b (Some m.device) (device_at ms slot) ≡ Some name → (cond b (public_of (devices m.device)) (sectors_of devices ms slot)) k ≡ public_of (devices name) k
    by true rest e = let same : m.device ≡ name = cc in ap (λ (n : Word). public_of (devices n) k) same
    by false rest e = rest e k

-- what holds of all disks holds of one
at_disk : (Q : DiskSeen → Type 0) (hs : List DiskSeen) (h : DiskSeen) → AllOf Q hs → AnyOf (λ x. x ≡ h) hs → Q h
at_disk Q [] h all any = absurd any
at_disk Q (x ∷ xs) h all (inl e) = subst Q e all.0
at_disk Q (x ∷ xs) h all (inr any) = at_disk Q xs h all.1 any

-- ---- a group of a house

module _ {P : Type 0} {ghosts : Ghosts P} (see : P → Seen) (law : EachLeavingStands) (ends : (p : P) → EndsThere (see p)) (counts : (p : P) → AreCounts (see p)) (g : Imported P ghosts) (parted : AreParted (members see g.base) (still_pieces see g.public ++ lent_pieces see g.public)) where
  abbrev hs : List DiskSeen
  hs = members see g.base

  abbrev behind : List Seen
  behind = still_pieces see g.public ++ lent_pieces see g.public

  abbrev pieces : List Seen
  pieces = fronts_of hs ++ behind

  -- what the devices hold, by their numbers
  abbrev pub held : ℕ → Contents
  held = sector_in pieces

  parted_all : AreParted hs (behind ++ [])
  parted_all = subst (AreParted hs) (sym (append-nil behind)) parted

  ends_each : (ds : List (Disk P)) → AllOf (λ h. EndsThere h.seen × AreCounts h.seen) (map (disk_seen see) ds)
  ends_each [] = tt
  ends_each (d ∷ ds) = ((ends d.piece, counts d.piece), ends_each ds)

  module _ (tells : AllTell pieces) where
    told_each : AllOf (λ h. (whole_disk (rests_of behind []) h).seen.told ≡ Some (held h.seen.device)) hs
    told_each = all_by (λ h. (whole_disk (rests_of behind []) h).seen.told ≡ Some (held h.seen.device)) hs (λ h is.
        let facts = all_at_one h is in
        ap (λ (x : DiskSeen). x.seen.told) (whole_is hs behind [] parted_all h is facts.0 facts.1 tells))
      where
        all_at_one : (h : DiskSeen) → AnyOf (λ x. x ≡ h) hs → EndsThere h.seen × AreCounts h.seen
        all_at_one h is = at_disk (λ x. EndsThere x.seen × AreCounts x.seen) hs h (ends_each g.base.disks.items) is

    -- a running volume has its pieces among these
    hold_lent : All (Holds held) (lent_pieces see g.public)
    hold_lent = (all_parts (Holds held) (still_pieces see g.public) (lent_pieces see g.public) (all_parts (Holds held) (fronts_of hs) behind (own_told pieces (parted_once hs behind parted) tells)).1).1

    hold_run : (name : Word) (r : Running P ghosts) → run_in (Some g) name ≡ Some r → All (Holds held) (held_pieces see r.volume)
    hold_run name r is = found_by_one (λ e. All (Holds held) (running_pieces see e)) g.public.running.entries name r is (all_entries (Holds held) (running_pieces see) g.public.running.entries (all_parts (Holds held) (flat_map (running_pieces see) g.public.running.entries) (flat_map (stuck_pieces see) g.public.stuck.items) hold_lent).0)
        (λ e key value hold. subst (λ (x : Running P ghosts). All (Holds held) (held_pieces see x.volume)) value hold)

    -- the world's devices hold what they do
    module _ (devices : Word → Option Device) (public : AllOf (λ h. (k : ℕ) → public_of (devices h.device) k ≡ held h.seen.device (2048 + k)) hs) (w : Group) (name : Word) (r : Running P ghosts) (run : Volume) (is : IsRunOf see hs w name r run) (here : run_in (Some g) name ≡ Some r) where
      -- the sectors of good disks by the numbers of the opening
      abbrev meant : Sectors
      meant slot k = cond (has w.good slot) (held (slice_index is.numbers slot) (2048 + k)) (sectors_of devices w.members slot k)

      meant_good : AreSectorsOf w.good is.numbers held meant
      meant_good slot sector good = ap (λ b. cond b (held (slice_index is.numbers slot) (2048 + sector)) (sectors_of devices w.members slot sector)) good

      same_inside : SameInside w.config is.of.name meant (sectors_of devices w.members)
      same_inside place of = by (has w.good place.disk) refl
        where
          by : (b : Bool) → has w.good place.disk ≡ b → sectors_of devices w.members place.disk place.sector ≡ cond b (held (slice_index is.numbers place.disk) (2048 + place.sector)) (sectors_of devices w.members place.disk place.sector)
          by false e = refl
          by true e =
              let n = is.numbered place of e in
              sectors_at devices w.members place.disk n.disk.device n.device place.sector
              ∙ at_disk (λ h. (k : ℕ) → public_of (devices h.device) k ≡ held h.seen.device (2048 + k)) hs n.disk public n.there place.sector
              ∙ ap (λ number. held number (2048 + place.sector)) (sym n.number)

      module _ (known : run.sound ≡ true) where
        stands_by : StandsForVolume (image_of w.config w.good meant is.of) run
        stands_by = leaving_stands see r w.config w.good is.numbers is.of is.placed.runs law is.started is.plexes run (is.runs_as known) (is.sure known) held (hold_run name r here) meant meant_good (is.plexes_of meant)

        pub stands_now : StandsForVolume (image_on devices w is.of) run
        stands_now = subst (λ i. StandsForVolume i run) (sym (image_own w.config w.good is.of meant (sectors_of devices w.members) same_inside)) stands_by

-- ---- a moment

module _ {P : Type 0} {ghosts : Ghosts P} (see : P → Seen) (law : EachLeavingStands) (ends : (p : P) → EndsThere (see p)) (counts : (p : P) → AreCounts (see p)) (v : View P ghosts) (keeps : KeepsButGroup see v) (m : Moment) (is : IsMomentButGroup see v m) where
  module _ (g : Imported P ghosts) (has_group : v.house.group ≡ Some g) where
    parted_there : AreParted (members see g.base) (still_pieces see g.public ++ lent_pieces see g.public)
    parted_there = (subst (λ o. IfSome o (IsGroupWhole see)) has_group keeps.whole).parted

    at_whole : AllOf (λ h. IsInWorld m.world h.device h.seen) (whole_members see g)
    at_whole =
        let vs = map (volume_holder see) v.house.volumes.entries in
        let ts = map (hand_holder see) v.house.hand.items in
        let hs = holders see v.house in
        let apart = keeps.devices.apart in
        let each = all_front (λ o. held_as hs o.name ≡ Some o.seen) (group_holders see v.house.group) ts (all_back (λ o. held_as hs o.name ≡ Some o.seen) vs _ (held_each hs apart)) in
        let free = all_front (λ o. is_lent v.house o.name ≡ false) (group_holders see v.house.group) ts (volumes_apart see v.house.volumes.entries (group_holders see v.house.group ++ ts) apart) in
        let each_g = all_unmapped (λ o. held_as hs o.name ≡ Some o.seen) holder_in (whole_members see g) (subst (λ o. AllOf (λ x. held_as hs x.name ≡ Some x.seen) (group_holders see o)) has_group each) in
        let free_g = all_unmapped (λ o. is_lent v.house o.name ≡ false) holder_in (whole_members see g) (subst (λ o. AllOf (λ x. is_lent v.house x.name ≡ false) (group_holders see o)) has_group free) in
        all_two (λ h. held_as hs h.device ≡ Some h.seen) (λ h. is_lent v.house h.device ≡ false) (λ h. IsInWorld m.world h.device h.seen)
        (λ h held free. in_world m.world h.device h.seen (is_lent v.house h.device) (seen_at (scene see v) h.device) (m.world.devices h.device) refl free (ap (λ o. seen_in o v.shelf.free h.device) held) (is.devices_are h.device))
        (whole_members see g) each_g free_g

    front_tells : (o : Option Rest) (h : DiskSeen) (t : Option Contents) → (with_device o h).seen.told ≡ t → is_some t ≡ true → is_some h.seen.told ≡ true
    front_tells None h t e some = ap is_some e ∙ some
    front_tells (Some r) h t e some = by h.seen.told e
      where
        by : (u : Option Contents) → whole_told h.seen.sectors r.contents u ≡ t → is_some u ≡ true
        by None e = ap is_some e ∙ some
        by (Some c) e = refl

    tells_there : AllTell (fronts_of (members see g.base) ++ (still_pieces see g.public ++ lent_pieces see g.public))
    tells_there =
        let fronts = all_fronts IsTelling (members see g.base) (each (members see g.base) at_whole) in
        join (fronts_of (members see g.base)) (still_pieces see g.public ++ lent_pieces see g.public) fronts (parted_there.tell fronts)
      where
        each : (xs : List DiskSeen) → AllOf (λ h. IsInWorld m.world h.device h.seen) (whole_disks (group_rests see g) xs) → AllOf (λ h. IsTelling h.seen) xs
        each [] all = tt
        each (x ∷ xs) all = (front_tells (group_rests see g x.seen.device) x (Some all.0.device.contents) all.0.told refl, each xs all.1)

        join : (ps rs : List Seen) → AllTell ps → AllTell rs → AllTell (ps ++ rs)
        join [] rs one two = two
        join (p ∷ ps) rs one two = All-cons IsTelling p (ps ++ rs) (All-head IsTelling p ps one) (join ps rs (All-tail IsTelling p ps one) two)

    public_there : AllOf (λ h. (k : ℕ) → public_of (m.world.devices h.device) k ≡ held see law ends counts g parted_there h.seen.device (2048 + k)) (members see g.base)
    public_there = each (members see g.base) at_whole (told_each see law ends counts g parted_there tells_there)
      where
        each : (xs : List DiskSeen) → AllOf (λ h. IsInWorld m.world h.device h.seen) (whole_disks (group_rests see g) xs) → AllOf (λ h. (whole_disk (group_rests see g) h).seen.told ≡ Some (held see law ends counts g parted_there h.seen.device)) xs →
            AllOf (λ h. (k : ℕ) → public_of (m.world.devices h.device) k ≡ held see law ends counts g parted_there h.seen.device (2048 + k)) xs
        each [] all told = tt
        each (x ∷ xs) all told = (
          (λ k.
              let here = all.0 in
              let same : here.device.contents ≡ held see law ends counts g parted_there x.seen.device = one here.device.contents _ (sym here.told ∙ told.0) in
              ap (λ (n : Word). public_of (m.world.devices n) k) (sym (name_whole (group_rests see g x.seen.device) x)) ∙ ap (λ (o : Option Device). public_of o k) here.was ∙ ap (λ (c : Contents). c (2048 + k)) same),
          each xs all.1 told.1,
        )
          where
            one : (c d : Contents) → Some c ≡ Some d → c ≡ d
            one c d e = cc

  -- the bytes stand for each volume that runs
  pub stands_there : GroupStands m.world
  stands_there = by_world m.world.group refl
    where
      by_house : (w : Group) → m.world.group ≡ Some w → (name : Word) (run : Volume) → (o : Option (Imported P ghosts)) → v.house.group ≡ o → (r : Option (Running P ghosts)) → run_in o name ≡ r → IsAtRun see (fronts_in see o) (Some w) name r (Some run) → StandsFor m.world w name run
      by_house w in_world name run None e (Some r) here at = let no : ⊥ = cc in absurd no
      by_house w in_world name run o e None here at = absurd at
      by_house w in_world name run (Some g) e (Some r) here at = record {
        of = at.of;
        recorded = recorded_vol w.config at.of at.placed.runs.recorded;
        named = at.named;
        stands = stands_now see law ends counts g (parted_there g e) (tells_there g e) m.world.devices (public_there g e) w name r run at here;
      }

      by_world : (o : Option Group) → m.world.group ≡ o → MatchOption m.world.group (Unit {0}) (StandForEach m.world)
      by_world None e = subst (λ o. MatchOption o (Unit {0}) (StandForEach m.world)) (sym e) tt
      by_world (Some w) e = subst (λ o. MatchOption o (Unit {0}) (StandForEach m.world)) (sym e) (λ name run there.
          by_house w e name run v.house.group refl (run_in v.house.group name) refl
          (subst (λ x. IsAtRun see (fronts_in see v.house.group) (Some w) name (run_in v.house.group name) x) there
          (subst (λ x. IsAtRun see (fronts_in see v.house.group) x name (run_in v.house.group name) (grouped (m.world.volumes name))) e (is.runs_are name))))

-- so it is at each moment of such a house
pub stands_at : {P : Type 0} {ghosts : Ghosts P} (see : P → Seen) → EachLeavingStands → ((p : P) → EndsThere (see p)) → ((p : P) → AreCounts (see p)) → (v : View P ghosts) → StandsAt see v
stands_at see law ends counts v m keeps is = stands_there see law ends counts v keeps m is
