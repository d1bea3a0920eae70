-- The bytes of a volume that was stopped stand for it, by the configuration that was written.
use Rattle.std.proofs.Common.{◌≡◌, ◌∙◌, ℕ, ◌+◌, ◌<◌, ◌==◌, Bool, true, false, cond, List, [], ◌∷◌, Option, Some, refl, sym, ap, subst, inl, inr}
use Rattle.std.specs.Prelude.{Contains, slice_index}
use Rattle.std.specs.List.{flat_map}
use Rattle.vx_pages.specs.declared.local_piece.LocalPiece.{Ghosts}
use Rattle.vx_base.specs.Blocks.{Contents}
use Rattle.vx_base.specs.Named.{Word}
use Rattle.vx_mask.specs.Mask.{has}
use Rattle.vx_piece.specs.Seen.{Seen}
use Rattle.vx_config_parts.specs.declared.plex.Plex.{Plex}
use Rattle.vx_config_parts.specs.declared.state.VolState.TheVariants as vol
use Rattle.vx_config_parts.specs.declared.vol.Vol.{Vol}
use Rattle.vx_config_parts.specs.Objects.{is_log_plex_of, refers}
use Rattle.vx_copies.specs.Disks.{DiskSeen}
use Rattle.vx_copies.specs.Lists.{AllOf, AnyOf}
use Rattle.vx_layout.specs.declared.place.Place.{Place}
use Rattle.vx_layout.specs.declared.strip.Strip.{Strip}
use Rattle.vx_objects.specs.declared.config.Config.{Config}
use Rattle.vx_objects.specs.Applied.{IsEdited}
use Rattle.vx_image.specs.Lies.{columns_from, columns_of}
use Rattle.vx_image.specs.Bytes.{Sectors, image_of}
use Rattle.vx_image.specs.Image.{regions_of}
use Rattle.vx_image.specs.Own.{IsOfVolume, SameInside}
use Rattle.vx_image.specs.Meaning.{ReadsOneList, dirty_read}
use Rattle.vx_image.proofs.Members.{contains, is_in}
use Rattle.vx_image.proofs.Own.{image_own}
use Rattle.vx_volume_laws.specs.Contents.{AreSectorsOf}
use Rattle.vx_volume_laws.specs.Exact.{IsExactVolume}
use Rattle.vx_volume_laws.specs.Keeping.{ChangesStates, IsRestated}
use Rattle.vx_volume_laws.proofs.Plexes.{zip_left, zip_right}
use Rattle.vx_volume_laws.proofs.Restated.{columns_same}
use Rattle.vx_state_edits.specs.Edits.{stop_edits}
use Rattle.vx_moments.specs.Group.{public_of, sectors_of}
use Rattle.vx_moments.specs.Owners.{device_at}
use Rattle.vx_moments.specs.Volumes.{StandsForVolume}
use Rattle.vx_group_stop.specs.Laws.{AreClean, AreSettled}
use Rattle.vx_group_volumes.specs.Laws.{EachStopChangesStates}
use Rattle.vx_group_volumes.proofs.Stands.{stopped_clean, stopped_stands}
use Rattle.vx_moments.specs.World.{Device, Group, Member, Volume}
use Rattle.vx_lending.specs.declared.public.Running.{Running}
use Rattle.vx_volume.specs.Volume.{volume_seen}
use Rattle.vx_volume_laws.specs.Leaving.{EachStopStands}
use Rattle.vx_stages.specs.Logs.{LogIsSpared}
use Rattle.vx_house.specs.Runs.{IsRunOf}
use Rattle.vx_house.proofs.Logs.{IsLogPlexStill, spared_before}
use Rattle.vx_stage_volumes.proofs.Held.{HoldsAlike}

-- the sectors of a slot are those of its member's device
pub sectors_at : (devices : Word → Option Device) (ms : List Member) (slot : ℕ) (name : Word) → device_at ms slot ≡ Some name → (k : ℕ) → sectors_of devices ms slot k ≡ public_of (devices name) k
sectors_at devices [] slot name is k = cc
sectors_at devices (m ∷ ms) slot name is k = by (m.slot == slot) (sectors_at devices ms slot name) is
  where
    by : (b : Bool) → (device_at ms slot ≡ Some name → (k : ℕ) → sectors_of devices ms slot k ≡ public_of (devices name) k) → cond b (Some m.device) (device_at ms slot) ≡ Some name → (cond b (public_of (devices m.device)) (sectors_of devices ms slot)) k ≡ public_of (devices name) k
    by true rest e = let same : m.device ≡ name = cc in ap (λ (n : Word). public_of (devices n) k) same
    by false rest e = rest e k

-- what holds of all disks holds of one
at_disk : (Q : DiskSeen → Type 0) (hs : List DiskSeen) (h : DiskSeen) → AllOf Q hs → AnyOf (λ x. x ≡ h) hs → Q h
at_disk Q [] h all any = absurd any
at_disk Q (x ∷ xs) h all (inl e) = subst Q e all.0
at_disk Q (x ∷ xs) h all (inr any) = at_disk Q xs h all.1 any

-- ---- a volume of which states have changed has the sectors that it had

places_were : (c : Config) (good : ℕ) (v : Vol) (c' : Config) (good' : ℕ) (v' : Vol) → ChangesStates c good v false c' good' v' → (place : Place) → IsOfVolume c' v'.name place → IsOfVolume c v.name place
places_were c good v c' good' v' changes place (q, there, own, (strip, on, here)) =
    let r = zip_right (IsRestated v.name false) c.plexes c'.plexes changes.plexes q (is_in c'.plexes q there) in
    let p = r.0 in
    let same = r.2.same in
    let vol : v'.name ≡ v.name = ap (λ (x : Vol). x.name) changes.vol in
    let of : q.vol ≡ p.vol = ap (λ (x : Plex). x.vol) same in
    let columns : columns_of c' q ≡ columns_of c p = ap (λ (x : Plex). columns_from x.ncol c' x.name 0) same ∙ columns_same c c' changes.disks changes.subdisks p.ncol p.name 0 in (
      p,
      contains c.plexes p r.1,
      sym (ap (λ o. refers o v'.name) of ∙ ap (λ n. refers p.vol n) vol) ∙ own,
      (strip, subst (λ cs. Contains (flat_map (λ (strips : List Strip). strips) cs) strip) columns on, here),
    )

-- ---- the image that is left

module _ {P : Type 0} {ghosts : Ghosts P} (see : P → Seen) (law : EachStopStands) (states : EachStopChangesStates) (hs : List DiskSeen) (g : Group) (name : Word) (r : Running P ghosts) (w : Volume) (run : IsRunOf see hs g name r w) (devices : Word → Option Device) (alike : HoldsAlike see hs devices r)
    (settled : AreSettled (volume_seen see r.volume)) (marks : ℕ) (c' : Config) (edited : IsEdited (stop_edits g.config run.of marks) g.config c') (good' : ℕ) (fewer : (slot : ℕ) → has good' slot ≡ true → has g.good slot ≡ true) where
  abbrev clean : Vol
  clean = record run.of { state = vol.Clean }

  changes : ChangesStates g.config g.good run.of false c' g.good clean
  changes = (states g.config run.of marks run.placed.runs.recorded c' edited g.good).1

  -- the sectors of good disks by the numbers of the opening
  abbrev meant : Sectors
  meant slot k = cond (has good' slot) (alike.held (slice_index run.numbers slot) (2048 + k)) (sectors_of devices g.members slot k)

  meant_good : AreSectorsOf good' run.numbers alike.held meant
  meant_good slot sector good = ap (λ b. cond b (alike.held (slice_index run.numbers slot) (2048 + sector)) (sectors_of devices g.members slot sector)) good

  same_inside : SameInside c' clean.name meant (sectors_of devices g.members)
  same_inside place of = by (has good' place.disk) refl
    where
      by : (b : Bool) → has good' place.disk ≡ b → sectors_of devices g.members place.disk place.sector ≡ cond b (alike.held (slice_index run.numbers place.disk) (2048 + place.sector)) (sectors_of devices g.members place.disk place.sector)
      by false e = refl
      by true e =
          let n = run.numbered place (places_were g.config g.good run.of c' g.good clean changes place of) (fewer place.disk e) in
          sectors_at devices g.members place.disk n.disk.device n.device place.sector
          ∙ at_disk (λ h. (k : ℕ) → public_of (devices h.device) k ≡ alike.held h.seen.device (2048 + k)) hs n.disk alike.public n.there place.sector
          ∙ ap (λ number. alike.held number (2048 + place.sector)) (sym n.number)

  module _ (sound : w.sound ≡ true) where
    stands_by : StandsForVolume (image_of c' good' meant clean) w × (list : Contents) × ReadsOneList (image_of c' good' meant clean) w.life.candidates list
    stands_by = stopped_stands see r law states g.config g.good run.numbers run.of run.placed.runs settled marks c' edited good' fewer run.plexes w (run.runs_as sound) (run.sure sound) run.plexes_of
        alike.held alike.hold meant meant_good

    pub stands_clean : StandsForVolume (image_of c' good' (sectors_of devices g.members) clean) w × (list : Contents) × ReadsOneList (image_of c' good' (sectors_of devices g.members) clean) w.life.candidates list
    stands_clean = subst (λ i. StandsForVolume i w × (list : Contents) × ReadsOneList i w.life.candidates list) (sym (image_own c' good' clean meant (sectors_of devices g.members) same_inside)) stands_by

    module _ (unmarked : AreClean (volume_seen see r.volume)) (exact : IsExactVolume (volume_seen see r.volume)) where
      clear_by : (i : ℕ) → i < regions_of (image_of c' good' meant clean) → dirty_read (image_of c' good' meant clean) i ≡ false
      clear_by = stopped_clean see r states g.config g.good run.numbers run.of run.placed.runs settled unmarked exact marks c' edited good' fewer run.plexes w (run.runs_as sound) run.plexes_of
          alike.held alike.hold meant meant_good

      -- where no region is marked dirty, and the log is exact, no region of the image is dirty
      pub clear_clean : (i : ℕ) → i < regions_of (image_of c' good' (sectors_of devices g.members) clean) → dirty_read (image_of c' good' (sectors_of devices g.members) clean) i ≡ false
      clear_clean = subst (λ image. (i : ℕ) → i < regions_of image → dirty_read image i ≡ false) (sym (image_own c' good' clean meant (sectors_of devices g.members) same_inside)) clear_by

  -- ---- its log

  -- by the configuration that was written, on the same members, its log plexes are those that they were
  pub spared_then : (group : Group) → group.config ≡ c' → group.members ≡ g.members → (failed : Word → Bool) → LogIsSpared group name failed → LogIsSpared g name failed
  spared_then group config_is members_are failed =
      spared_before g group (λ slot d at. ap (λ ms. device_at ms slot) members_are ∙ at) name failed (λ p there log_is. still p there log_is)
    where
      still : (p : Plex) → Contains g.config.plexes p → is_log_plex_of name p ≡ true → IsLogPlexStill g group name p
      still p there log_is =
          let q = zip_left (IsRestated run.of.name false) g.config.plexes c'.plexes changes.plexes p (is_in g.config.plexes p there) in
          let same = q.2.same in
          let columns : columns_of c' q.0 ≡ columns_of g.config p = ap (λ (x : Plex). columns_from x.ncol c' x.name 0) same ∙ columns_same g.config c' changes.disks changes.subdisks p.ncol p.name 0 in
          record {
            plex = q.0;
            there = subst (λ (c : Config). Contains c.plexes q.0) (sym config_is) (contains c'.plexes q.0 q.1);
            log_is = ap (is_log_plex_of name) same ∙ log_is;
            columns = subst (λ (c : Config). columns_of c q.0 ≡ columns_of g.config p) (sym config_is) columns;
          }
