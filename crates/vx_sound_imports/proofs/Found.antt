-- What an import finds is the newest offer of the group, and has sound volumes; so has what it writes.
use Rattle.std.proofs.Common.{◌≡◌, ◌∙◌, ℕ, ◌==◌, not, true, false, List, [], ◌∷◌, ◌++◌, map, Option, Some, None, MatchOption, refl, sym, ap, subst, inr, arith}
use Rattle.std.specs.List.{AllZip, filter_map}
use Rattle.std.proofs.lemmas.Bool.{and_parts, eqb-true, false≢true}
use Rattle.std.proofs.lemmas.List.{map-append}
use Rattle.vx_base.specs.Named.{Word}
use Rattle.vx_base.proofs.NamedLemmas.{bytes_eq_same}
use Rattle.vx_mask.specs.Mask.{has}
use Rattle.vx_copies.specs.Image.{Offer}
use Rattle.vx_config_parts.specs.declared.object.Object.{Object}
use Rattle.vx_config_parts.specs.declared.object.Object.TheVariants.{DcoRecord, DiskRecord, PlexRecord, SnapRecord, SubdiskRecord, VolRecord}
use Rattle.vx_config_parts.specs.declared.plex.Plex.{Plex}
use Rattle.vx_config_parts.specs.declared.state.VolState.{VolState}
use Rattle.vx_config_parts.specs.declared.state.VolState.TheVariants as vol
use Rattle.vx_config_parts.specs.declared.vol.Vol.{Vol}
use Rattle.vx_objects.specs.declared.config.Config.{Config}
use Rattle.vx_objects.specs.Config.{objects_of}
use Rattle.vx_objects.specs.Parts.{as_disk, as_plex, as_snap, as_subdisk, as_vol, in_kinds, records_of}
use Rattle.vx_objects.proofs.InKinds.{are_sorted, disks_below, plexes_below, snaps_below, subdisks_below, volumes_below}
use Rattle.vx_image.proofs.PlexMembers.{IsIn, any_in, from_map, in_map}
use Rattle.vx_image.specs.Bytes.{Sectors, image_of, log_copies}
use Rattle.vx_image.specs.Image.{Image, WasStarted}
use Rattle.vx_image.specs.Soundness.{IsSoundImage}
use Rattle.vx_image.proofs.Imports.{sound_recorded}
use Rattle.vx_image.proofs.Members.{contains, in_filtered, into_filter, is_in}
use Rattle.vx_state_edits.specs.Edits.{is_new}
use Rattle.vx_volume_laws.specs.Keeping.{ChangesStates, IsRestated, KeepsVolume}
use Rattle.vx_volume_laws.proofs.Restated.{restated_kept}
use Rattle.vx_moments.specs.Commit.{Writing}
use Rattle.vx_moments.specs.Holding.{IsMemberDevice}
use Rattle.vx_moments.specs.Moment.{Counts}
use Rattle.vx_moments.specs.World.{Device, Group, Member, World}
use Rattle.vx_moments.specs.Group.{sectors_of}
use Rattle.vx_plans.proofs.Carriers.{FoundBy, found_by, is_there, one_there}
use Rattle.vx_stages.specs.Finding.{Candidate, IsCandidate, good_ones, group_found, import_records, member_of, needs_sync, needs_sync_state}
use Rattle.vx_stages.specs.Stages.{IsImporting}
use Rattle.vx_sound.specs.Offers.{IsHeaded, Offers}
use Rattle.vx_sound.specs.Sound.{IsChained, IsNewest}
use Rattle.vx_sound.specs.Standing.{IsLeading, IsStanding}
use Rattle.vx_sound.proofs.Commits.{import_ready}
use Rattle.vx_sound.proofs.Edits.{import_grown}
use Rattle.vx_sound.proofs.Headers.{mask_below}
use Rattle.vx_sound.proofs.Lists.{any_imp}
use Rattle.vx_sound.proofs.Imports.{candidate_headed, newest_taken, slot_in_mask, taken_from}
use Rattle.vx_sound_volumes.specs.Volumes.{AreSoundOn}
use Rattle.vx_sound_volumes.proofs.Commits.{all_each}
use Rattle.vx_sound_volumes.proofs.Images.{kept_sound}
use Rattle.vx_volume_laws.proofs.Configurations.{active_used}
use Rattle.vx_sound_imports.specs.Offered.{HasSoundOffer, IsElsewhere, IsReadAs, IsWholeGroup}
use Rattle.vx_sound_imports.proofs.Commits.{AreWritten, IsNextSound}
use Rattle.vx_sound_imports.proofs.Leading.{carrier, newest_is}
use Rattle.vx_sound_imports.proofs.Nexts.{IsSafe, alone_few, none_joins}

-- ---- the records that an import writes

abbrev pub synced : Vol → Vol
synced v = record v { state = needs_sync_state v.state }

others_stay : {X : Type 0} (wrap : X → Object) → ((x : X) → needs_sync (wrap x) ≡ wrap x) → (xs : List X) → map needs_sync (map wrap xs) ≡ map wrap xs
others_stay wrap same [] = refl
others_stay wrap same (x ∷ xs) = λ i. same x i ∷ others_stay wrap same xs i

volumes_go : (vs : List Vol) → map needs_sync (map VolRecord vs) ≡ map VolRecord (map synced vs)
volumes_go [] = refl
volumes_go (v ∷ vs) = ap (λ (os : List Object). VolRecord (synced v) ∷ os) (volumes_go vs)

module _ (c : Config) where
  all_go : map needs_sync (objects_of c) ≡ records_of c.group c.version c.disks c.subdisks c.plexes (map synced c.volumes) c.dcos c.snaps
  all_go =
      let ds = map DiskRecord c.disks in
      let ss = map SubdiskRecord c.subdisks in
      let ps = map PlexRecord c.plexes in
      let vs = map VolRecord c.volumes in
      let os = map DcoRecord c.dcos in
      let rs = map SnapRecord c.snaps in
      rw (
        map-append needs_sync ds (ss ++ (ps ++ (vs ++ (os ++ rs)))),
        map-append needs_sync ss (ps ++ (vs ++ (os ++ rs))),
        map-append needs_sync ps (vs ++ (os ++ rs)),
        map-append needs_sync vs (os ++ rs),
        map-append needs_sync os rs,
        others_stay DiskRecord (λ d. refl) c.disks,
        others_stay SubdiskRecord (λ d. refl) c.subdisks,
        others_stay PlexRecord (λ d. refl) c.plexes,
        volumes_go c.volumes,
        others_stay DcoRecord (λ d. refl) c.dcos,
        others_stay SnapRecord (λ d. refl) c.snaps,
      ) refl

-- what it has of each kind
pub record HasParts (c next : Config) : Type 0 where
  pub disks : next.disks ≡ c.disks
  pub subdisks : next.subdisks ≡ c.subdisks
  pub plexes : next.plexes ≡ c.plexes
  pub volumes : next.volumes ≡ map synced c.volumes
  pub snaps : next.snaps ≡ c.snaps

pub has_parts : (c next : Config) → objects_of next ≡ import_records c → HasParts c next
has_parts c next is =
    let vs = map synced c.volumes in
    let same : objects_of next ≡ records_of c.group c.version c.disks c.subdisks c.plexes vs c.dcos c.snaps = is ∙ ap in_kinds (all_go c) ∙ are_sorted c.disks c.subdisks c.plexes vs c.dcos c.snaps c.group c.version in
    record {
      disks = sym (disks_below next.disks next.subdisks next.plexes next.volumes next.dcos next.snaps) ∙ ap (filter_map as_disk) same ∙ disks_below c.disks c.subdisks c.plexes vs c.dcos c.snaps;
      subdisks = sym (subdisks_below next.disks next.subdisks next.plexes next.volumes next.dcos next.snaps) ∙ ap (filter_map as_subdisk) same ∙ subdisks_below c.disks c.subdisks c.plexes vs c.dcos c.snaps;
      plexes = sym (plexes_below next.disks next.subdisks next.plexes next.volumes next.dcos next.snaps) ∙ ap (filter_map as_plex) same ∙ plexes_below c.disks c.subdisks c.plexes vs c.dcos c.snaps;
      volumes = sym (volumes_below next.disks next.subdisks next.plexes next.volumes next.dcos next.snaps) ∙ ap (filter_map as_vol) same ∙ volumes_below c.disks c.subdisks c.plexes vs c.dcos c.snaps;
      snaps = sym (snaps_below next.disks next.subdisks next.plexes next.volumes next.dcos next.snaps) ∙ ap (filter_map as_snap) same ∙ snaps_below c.disks c.subdisks c.plexes vs c.dcos c.snaps;
    }

same_plexes : (name : Word) (ps : List Plex) → AllZip (IsRestated name false) ps ps
same_plexes name [] = tt
same_plexes name (p ∷ ps) = (record { same = refl; available = λ is. refl; active = λ is. active_used p.state }, same_plexes name ps)

-- ---- its volumes

-- the image of a volume in another state is its image in that state
module _ (c : Config) (good : ℕ) (bytes : Sectors) (v : Vol) (s : VolState) where
  same_copies : (dco : Option Word) → log_copies dco c good bytes (record v { state = s }) ≡ log_copies dco c good bytes v
  same_copies None = refl
  same_copies (Some dco) = refl

  pub image_in_state : image_of c good bytes (record v { state = s }) ≡ record (image_of c good bytes v) { state = s }
  image_in_state =
      let copies = same_copies v.dco in
      λ i. record (image_of c good bytes v) { state = s; copies = copies i }

-- an image in the state that an import records of it
pub imported_sound : (image : Image) → is_new image.state ≡ false → IsSoundImage image → IsSoundImage (record image { state = needs_sync_state image.state })
imported_sound image started sound = by image.state refl
  where
    by : (s : VolState) → image.state ≡ s → IsSoundImage (record image { state = needs_sync_state s })
    by vol.Empty is = absurd (false≢true (sym started ∙ ap is_new is))
    by vol.Clean is = subst (λ s. IsSoundImage (record image { state = s })) is sound
    by vol.Active is = sound_recorded image vol.NeedSync (subst WasStarted (sym is) tt) tt sound
    by vol.NeedSync is = subst (λ s. IsSoundImage (record image { state = s })) is sound
    by vol.Sync is = sound_recorded image vol.NeedSync (subst WasStarted (sym is) tt) tt sound

module _ (x : Writing) (devices : Word → Option Device) (next_is : objects_of x.config ≡ import_records x.group.config) (alone : x.joiners ≡ []) where
  abbrev c : Config
  c = x.group.config

  parts : HasParts c x.config
  parts = has_parts c x.config next_is

  module _ (good : ℕ) (few : (slot : ℕ) → has good slot ≡ true → has x.group.good slot ≡ true) (u : Vol) where
    changes : ChangesStates c x.group.good u false x.config good (synced u)
    changes = record {
      vol = refl;
      disks = parts.disks;
      subdisks = parts.subdisks;
      snaps = parts.snaps;
      plexes = subst (λ ps. AllZip (IsRestated u.name false) c.plexes ps) (sym parts.plexes) (same_plexes u.name c.plexes);
      failed = few;
    }

    -- the same of the volume in its old state
    keeps : KeepsVolume c x.group.good u false x.config good u
    keeps =
        let k = restated_kept c x.group.good u false x.config good (synced u) changes in
        record { length_is = k.length_is; region_is = k.region_is; dco = k.dco; plexes = k.plexes; logs = k.logs; log_plexes_are = k.log_plexes_are; relations = k.relations }

    synced_sound : is_new u.state ≡ false → AreSoundOn devices x.group → IsIn c.volumes u → IsSoundImage (image_of x.config good (sectors_of devices x.group.members) (synced u))
    synced_sound started sound there =
        let bytes = sectors_of devices x.group.members in
        subst IsSoundImage (sym (image_in_state x.config good bytes u (needs_sync_state u.state)))
        (imported_sound (image_of x.config good bytes u) started
        (kept_sound c x.group.good u x.config good u keeps refl bytes (sound u (contains c.volumes u there) started)))

  was_started : (s : VolState) → is_new (needs_sync_state s) ≡ false → is_new s ≡ false
  was_started vol.Empty is = is
  was_started vol.Clean is = refl
  was_started vol.Active is = refl
  was_started vol.NeedSync is = refl
  was_started vol.Sync is = refl

  pub import_next : (few : (good : ℕ) → AreWritten x good → (slot : ℕ) → has good slot ≡ true → has x.group.good slot ≡ true) → AreSoundOn devices x.group → IsNextSound x devices
  import_next few sound good written v there started =
      let u = from_map synced c.volumes v (subst (λ vs. IsIn vs v) parts.volumes (is_in x.config.volumes v there)) in
      subst (λ (w : Vol). IsSoundImage (image_of x.config good (sectors_of devices x.group.members) w)) (sym u.2)
      (synced_sound good (few good written) u.0 (was_started u.0.state (ap (λ (w : Vol). is_new w.state) (sym u.2) ∙ started)) sound u.1)

-- ---- what is found

-- a candidate of a good slot is among the good ones
good_among : (good : ℕ) (cs : List Candidate) (c : Candidate) → IsIn cs c → has good c.label.slot ≡ true → IsIn (good_ones good cs) c
good_among good cs c one is = is_in (good_ones good cs) c (into_filter (λ (d : Candidate). has good d.label.slot) cs c (contains cs c one) is)

module _ (dg : Word) (w : World) (old new : Counts) (x : Writing) (i : IsImporting dg w x old new) (was : IsChained dg w) where
  abbrev pub Takes : Offer → Config → Type 0
  Takes o config = (x.group ≡ group_found o i.found.counted config) × (objects_of x.config ≡ import_records config)

  pub all : FoundBy dg i.found.unread i.found.counted Takes
  all = found_by dg w i.found.unread i.found.counted Takes i.finds

  abbrev cs : List Candidate
  cs = i.found.counted

  abbrev pub o : Offer
  o = all.offer

  abbrev pub found_group : Group
  found_group = group_found o cs all.config

  pub offers : (c : Candidate) × Offers dg w c.name c.label.slot o
  offers = taken_from dg w old new i.found Takes all was

  found_member : (m : Member) → IsIn found_group.members m → (c : Candidate) × (m ≡ member_of c) × IsCandidate dg i.found.absent w c × (has o.good c.label.slot ≡ true)
  found_member m one =
      let r = from_map member_of (good_ones o.good cs) m one in
      let f = in_filtered (λ (c : Candidate). has o.good c.label.slot) cs r.0 r.1 in
      (r.0, r.2, all_each (IsCandidate dg i.found.absent w) cs i.found.count.each r.0 f.0, f.1)

  pub found_whole : IsWholeGroup found_group
  found_whole slot good =
      let low = slot_in_mask o.good slot (mask_below offers.1.device.contents o offers.1.offer) good in
      let one = any_in (is_there i.found.unread slot) cs (one_there 32 0 o.good slot i.found.unread cs all.none_missing (omega arith) (omega (arith, low)) good) in
      let at : one.0.label.slot ≡ slot = eqb-true one.0.label.slot slot (and_parts (not (i.found.unread one.0.name)) (one.0.label.slot == slot) one.2).1 in
      (member_of one.0, contains found_group.members (member_of one.0) (in_map member_of (good_ones o.good cs) one.0 (good_among o.good cs one.0 one.1 (subst (λ s. has o.good s ≡ true) (sym at) good))), at)

  pub found_read : IsReadAs dg w o found_group
  found_read = record {
    config = inr (all.records, all.spells, all.read);
    good = refl;
    named = λ m one. let r = found_member m (is_in found_group.members m one) in subst (λ (n : Member). has o.good n.slot ≡ true) (sym r.1) r.3;
    headed = λ m one.
        let r = found_member m (is_in found_group.members m one) in
        (r.0.device, subst (λ (n : Member). IsHeaded dg w n.device n.slot r.0.device) (sym r.1) (candidate_headed dg w i.found.absent r.0 r.2));
    whole = found_whole;
  }

  -- the group as it is found has sound volumes
  pub found_sound : HasSoundOffer dg w → AreSoundOn w.devices x.group
  found_sound sound =
      subst (AreSoundOn w.devices) (sym all.holds.0)
      (sound offers.0.name offers.0.label.slot o found_group offers.1 (newest_taken dg w old new i.found Takes all was) found_read)

  pub found_named : x.group.config.group ≡ dg
  found_named = ap (λ (g : Group). g.config.group) all.holds.0 ∙ bytes_eq_same all.config.group dg all.named

  -- the imported group is not found: its disks are held
  pub found_elsewhere : IsStanding w → ((g : Group) → w.group ≡ Some g → IsWholeGroup g) → IsElsewhere dg w
  found_elsewhere s whole g here is =
      let l : IsLeading w g = subst (λ (p : Option Group). MatchOption p (Unit {0}) (IsLeading w)) here s.group in
      let was' : IsChained g.config.group w = subst (λ n. IsChained n w) (sym is) was in
      let m = carrier w g l was' (whole g here) in
      let carries = m.2 m.3 in
      let same = newest_is w g l was' (whole g here) offers.0.name offers.0.label.slot o (subst (λ n. Offers n w offers.0.name offers.0.label.slot o) (sym is) offers.1) (subst (λ n. IsNewest n w o) (sym is) (newest_taken dg w old new i.found Takes all was)) in
      let i' = found_whole m.0.slot (subst (λ k. has k m.0.slot ≡ true) (sym same.0) m.3) in
      let c = found_member i'.0 (is_in found_group.members i'.0 i'.1) in
      let own : IsHeaded dg w c.0.name m.0.slot c.0.device = subst (λ t. IsHeaded dg w c.0.name t c.0.device) (ap (λ (n : Member). n.slot) (sym c.1) ∙ i'.2) (candidate_headed dg w i.found.absent c.0 c.2) in
      let device = was.apart m.0.slot c.0.name m.0.device c.0.device carries.offers.device own (subst (λ n. IsHeaded n w m.0.device m.0.slot carries.offers.device) is carries.offers.headed) in
      c.2.free (inr (subst (λ n. IsMemberDevice w.group n) (sym device) (subst (λ p. IsMemberDevice p m.0.device) (sym here) (any_imp (λ n. n ≡ m.0) (λ n. n.device ≡ m.0.device) g.members (λ n e. ap (λ (y : Member). y.device) e) m.1))))

  -- what is written has its name
  pub import_named : IsStanding w → x.config.group ≡ dg
  import_named s = (import_grown x.group.config x.config (all.holds.1 ∙ sym (ap (λ (g : Group). import_records g.config) all.holds.0))).group ∙ found_named

  -- no volume runs on its plexes
  pub import_safe : IsStanding w → IsSafe (λ name. ⊥) x w
  import_safe s =
      let ready = import_ready dg w x old new s i in
      let whole = subst IsWholeGroup (sym all.holds.0) found_whole in
      record {
        ready = ready;
        whole = whole;
        far = λ v there started place of joins. none_joins x i.joiners place.disk joins;
        next = λ devices same sound. import_next x devices (all.holds.1 ∙ sym (ap (λ (g : Group). import_records g.config) all.holds.0)) i.joiners (alone_few x i.joiners) sound;
        stands = λ devices same name u never. absurd never;
      }
