-- What the pieces of a running volume hold, and those that lie still, is what the devices of their group do, at each moment of a house that
-- keeps it.
use Rattle.std.proofs.Common.{◌≡◌, ◌∙◌, ℕ, ◌+◌, true, false, List, [], ◌∷◌, ◌++◌, map, Option, Some, None, refl, sym, ap, subst}
use Rattle.std.specs.Prelude.{IfSome, is_some}
use Rattle.std.specs.List.{All, flat_map}
use Rattle.std.proofs.lemmas.List.{append-nil}
use Rattle.std.proofs.lemmas.List.Elements.{All-cons, All-head, All-tail}
use Rattle.vx_pages.specs.declared.local_piece.LocalPiece.{Ghosts}
use Rattle.vx_base.specs.Blocks.{Contents}
use Rattle.vx_base.specs.Named.{Word}
use Rattle.vx_piece.specs.Seen.{Seen, EndsThere, AreCounts}
use Rattle.vx_carve.specs.Together.{Holds}
use Rattle.vx_copies.specs.Disks.{DiskSeen, disk_seen}
use Rattle.vx_copies.specs.Lists.{AllOf}
use Rattle.vx_copies.specs.declared.disk.Disk.{Disk}
use Rattle.vx_confdb.specs.Groups.{members}
use Rattle.vx_fronts.specs.Fronts.{Rest, whole_told, with_device, whole_disk}
use Rattle.vx_fronts.specs.Laws.{whole_disks}
use Rattle.vx_fronts.specs.Parted.{AreParted, fronts_of}
use Rattle.vx_fronts.specs.Rests.{AllTell, IsTelling, rests_of, sector_in}
use Rattle.vx_fronts.proofs.Devices.{whole_is}
use Rattle.vx_fronts.proofs.Parted.{all_at, all_by, all_fronts, all_parts, parted_once}
use Rattle.vx_fronts.proofs.Sectors.{own_told}
use Rattle.vx_lending.specs.Left.{held_pieces}
use Rattle.vx_lending.specs.declared.public.Running.{Running}
use Rattle.vx_lending.specs.Public.{lent_pieces, running_at, running_pieces, still_pieces, stuck_pieces}
use Rattle.vx_moments.specs.Group.{public_of}
use Rattle.vx_moments.specs.Moment.{Moment}
use Rattle.vx_moments.specs.World.{Device}
use Rattle.vx_house.specs.Holders.{group_holders, group_rests, hand_holder, held_as, holder_in, holders, volume_holder, whole_members}
use Rattle.vx_house.specs.Scene.{seen_in, seen_at}
use Rattle.vx_house.specs.View.{View, scene, is_lent, IsGroupWhole, IsMomentButGroup, KeepsButGroup}
use Rattle.vx_house.specs.declared.house.Imported.{Imported}
use Rattle.vx_house.proofs.AllLaws.{all_back, all_front, all_two, all_unmapped, found_by_one, held_each}
use Rattle.vx_house.proofs.Hands.{IsInWorld, in_world, volumes_apart}
use Rattle.vx_house.proofs.Wholes.{name_whole}

-- The pieces of the running volume hold what the devices of these disks do, which are found by their numbers.
pub record HoldsAlike {P : Type 0} {ghosts : Ghosts P} (see : P → Seen) (hs : List DiskSeen) (devices : Word → Option Device) (r : Running P ghosts) : Type 0 where
  pub held : ℕ → Contents
  pub hold : All (Holds held) (held_pieces see r.volume)
  pub public : AllOf (λ h. (k : ℕ) → public_of (devices h.device) k ≡ held h.seen.device (2048 + k)) hs

all_entries : {X : Type 0} (Q : Seen → Type 0) (f : X → List Seen) (xs : List X) → All Q (flat_map f xs) → AllOf (λ x. All Q (f x)) xs
all_entries Q f [] all = tt
all_entries Q f (x ∷ xs) all = let two = all_parts Q (f x) (flat_map f xs) all in (two.0, all_entries Q f xs two.1)

module _ {P : Type 0} {ghosts : Ghosts P} (see : P → Seen) (ends : (p : P) → EndsThere (see p)) (counts : (p : P) → AreCounts (see p)) (v : View P ghosts) (keeps : KeepsButGroup see v) (m : Moment) (is : IsMomentButGroup see v m) (g : Imported P ghosts) (has_group : v.house.group ≡ Some g) where
  abbrev pub hs : List DiskSeen
  hs = members see g.base

  abbrev pub behind : List Seen
  behind = still_pieces see g.public ++ lent_pieces see g.public

  abbrev pub pieces : List Seen
  pieces = fronts_of hs ++ behind

  -- what the devices hold, by their numbers
  abbrev pub held : ℕ → Contents
  held = sector_in pieces

  parted : AreParted hs behind
  parted = (subst (λ o. IfSome o (IsGroupWhole see)) has_group keeps.whole).parted

  at_whole : AllOf (λ h. IsInWorld m.world h.device h.seen) (whole_members see g)
  at_whole =
      let vs = map (volume_holder see) v.house.volumes.entries in
      let ts = map (hand_holder see) v.house.hand.items in
      let all = holders see v.house in
      let apart = keeps.devices.apart in
      let each = all_front (λ o. held_as all o.name ≡ Some o.seen) (group_holders see v.house.group) ts (all_back (λ o. held_as all o.name ≡ Some o.seen) vs _ (held_each all apart)) in
      let free = all_front (λ o. is_lent v.house o.name ≡ false) (group_holders see v.house.group) ts (volumes_apart see v.house.volumes.entries (group_holders see v.house.group ++ ts) apart) in
      let each_g = all_unmapped (λ o. held_as all o.name ≡ Some o.seen) holder_in (whole_members see g) (subst (λ o. AllOf (λ x. held_as all x.name ≡ Some x.seen) (group_holders see o)) has_group each) in
      let free_g = all_unmapped (λ o. is_lent v.house o.name ≡ false) holder_in (whole_members see g) (subst (λ o. AllOf (λ x. is_lent v.house x.name ≡ false) (group_holders see o)) has_group free) in
      all_two (λ h. held_as all h.device ≡ Some h.seen) (λ h. is_lent v.house h.device ≡ false) (λ h. IsInWorld m.world h.device h.seen)
      (λ h held free. in_world m.world h.device h.seen (is_lent v.house h.device) (seen_at (scene see v) h.device) (m.world.devices h.device) refl free (ap (λ o. seen_in o v.shelf.free h.device) held) (is.devices_are h.device))
      (whole_members see g) each_g free_g

  front_tells : (o : Option Rest) (h : DiskSeen) (t : Option Contents) → (with_device o h).seen.told ≡ t → is_some t ≡ true → is_some h.seen.told ≡ true
  front_tells None h t e some = ap is_some e ∙ some
  front_tells (Some r) h t e some = by h.seen.told e
    where
      by : (u : Option Contents) → whole_told h.seen.sectors r.contents u ≡ t → is_some u ≡ true
      by None e = ap is_some e ∙ some
      by (Some c) e = refl

  pub tells : AllTell pieces
  tells =
      let fronts = all_fronts IsTelling hs (each hs at_whole) in
      join (fronts_of hs) behind fronts (parted.tell fronts)
    where
      each : (xs : List DiskSeen) → AllOf (λ h. IsInWorld m.world h.device h.seen) (whole_disks (group_rests see g) xs) → AllOf (λ h. IsTelling h.seen) xs
      each [] all = tt
      each (x ∷ xs) all = (front_tells (group_rests see g x.seen.device) x (Some all.0.device.contents) all.0.told refl, each xs all.1)

      join : (ps rs : List Seen) → AllTell ps → AllTell rs → AllTell (ps ++ rs)
      join [] rs one two = two
      join (p ∷ ps) rs one two = All-cons IsTelling p (ps ++ rs) (All-head IsTelling p ps one) (join ps rs (All-tail IsTelling p ps one) two)

  ends_each : (ds : List (Disk P)) → AllOf (λ h. EndsThere h.seen × AreCounts h.seen) (map (disk_seen see) ds)
  ends_each [] = tt
  ends_each (d ∷ ds) = ((ends d.piece, counts d.piece), ends_each ds)

  told_each : AllOf (λ h. (whole_disk (rests_of behind []) h).seen.told ≡ Some (held h.seen.device)) hs
  told_each = all_by (λ h. (whole_disk (rests_of behind []) h).seen.told ≡ Some (held h.seen.device)) hs (λ h there.
      let facts = all_at (λ x. EndsThere x.seen × AreCounts x.seen) hs h (ends_each g.base.disks.items) there in
      ap (λ (x : DiskSeen). x.seen.told) (whole_is hs behind [] (subst (AreParted hs) (sym (append-nil behind)) parted) h there facts.0 facts.1 tells))

  pub public_there : AllOf (λ h. (k : ℕ) → public_of (m.world.devices h.device) k ≡ held h.seen.device (2048 + k)) hs
  public_there = each hs at_whole told_each
    where
      one : (c d : Contents) → Some c ≡ Some d → c ≡ d
      one c d e = cc

      each : (xs : List DiskSeen) → AllOf (λ h. IsInWorld m.world h.device h.seen) (whole_disks (group_rests see g) xs) → AllOf (λ h. (whole_disk (rests_of behind []) h).seen.told ≡ Some (held h.seen.device)) xs →
          AllOf (λ h. (k : ℕ) → public_of (m.world.devices h.device) k ≡ held h.seen.device (2048 + k)) xs
      each [] all told = tt
      each (x ∷ xs) all told = (
        (λ k.
            let here = all.0 in
            let same : here.device.contents ≡ held x.seen.device = one here.device.contents (held x.seen.device) (sym here.told ∙ told.0) in
            ap (λ (n : Word). public_of (m.world.devices n) k) (sym (name_whole (group_rests see g x.seen.device) x)) ∙ ap (λ (o : Option Device). public_of o k) here.was ∙ ap (λ (c : Contents). c (2048 + k)) same),
        each xs all.1 told.1,
      )

  pub hold_lent : All (Holds held) (lent_pieces see g.public)
  hold_lent = (all_parts (Holds held) (still_pieces see g.public) (lent_pieces see g.public) (all_parts (Holds held) (fronts_of hs) behind (own_told pieces (parted_once hs behind parted) tells)).1).1

  -- so do those that lie still
  pub hold_still : All (Holds held) (still_pieces see g.public)
  hold_still = (all_parts (Holds held) (still_pieces see g.public) (lent_pieces see g.public) (all_parts (Holds held) (fronts_of hs) behind (own_told pieces (parted_once hs behind parted) tells)).1).0

  pub holds_alike : (name : Word) (r : Running P ghosts) → running_at g.public name ≡ Some r → HoldsAlike see hs m.world.devices r
  holds_alike name r there = record {
    held = held;
    hold = found_by_one (λ e. All (Holds held) (running_pieces see e)) g.public.running.entries name r there
        (all_entries (Holds held) (running_pieces see) g.public.running.entries (all_parts (Holds held) (flat_map (running_pieces see) g.public.running.entries) (flat_map (stuck_pieces see) g.public.stuck.items) hold_lent).0)
        (λ e key value hold. subst (λ (x : Running P ghosts). All (Holds held) (held_pieces see x.volume)) value hold);
    public = public_there;
  }
