-- Disks that join a group, make one, or are imported.
use Rattle.std.proofs.Common.{◌≡◌, ◌∙◌, ℕ, zero, suc, ◌+◌, ◌<◌, ◌≤◌, ◌||◌, not, nat_lt, Bool, true, false, List, [], ◌∷◌, ◌++◌, Option, Some, None, refl, sym, ap, subst, inl, inr, arith}
use Rattle.std.specs.Prelude.{if◌then◌else◌, Contains, IsSome}
use Rattle.std.specs.List.{list_all}
use Rattle.std.specs.Str.{bytes_eq}
use Rattle.std.proofs.lemmas.Bool.{false≢true}
use Rattle.std.proofs.lemmas.Bool.Decides.{nat_tests}
use Rattle.std.proofs.lemmas.List.{append-nil}
use Rattle.vx_base.specs.Named.{Word}
use Rattle.vx_base.proofs.NamedLemmas.{bytes_eq_self}
use Rattle.vx_mask.specs.Mask.{has}
use Rattle.vx_header.specs.Named.{Label, header_of}
use Rattle.vx_header.specs.Sectors.{is_short_name}
use Rattle.vx_config_parts.specs.declared.fault.Limit.TheVariants as limit
use Rattle.vx_config_parts.specs.declared.object.Object.TheVariants.{VolRecord}
use Rattle.vx_config_parts.specs.declared.vol.Vol.{Vol}
use Rattle.vx_objects.specs.declared.config.Config.{Config}
use Rattle.vx_objects.specs.Config.{objects_of}
use Rattle.vx_image.proofs.PlexMembers.{IsIn, from_map, in_either}
use Rattle.vx_image.proofs.Members.{contains, in_filtered, is_in}
use Rattle.vx_script_words.specs.declared.value.DiskAt.{DiskAt}
use Rattle.vx_answers.specs.declared.refusal.Refusal.TheVariants as refusal
use Rattle.vx_answers.specs.declared.answer.End.{End}
use Rattle.vx_moments.specs.Commit.{IsCommitted, IsStopped, Writing, parties}
use Rattle.vx_moments.specs.Holding.{IsHeld, IsLent, IsMemberDevice, is_among}
use Rattle.vx_moments.specs.Moment.{Counts, Moment}
use Rattle.vx_moments.specs.World.{Device, Group, Member, World}
use Rattle.vx_moments.specs.Group.{AreOfOneSlot, HaveOwnDevices}
use Rattle.vx_stages.specs.Finding.{Candidate, IsCandidate, good_ones, group_found, import_records, member_of}
use Rattle.vx_stages.specs.Records.{are_disk_sized, devices_of, disk_records, disk_record, free_slot_from, member_at, names_of, new_members, new_records, next_slot, sectors_at, slot_in, slot_or_last}
use Rattle.vx_stages.specs.Stages.{AreFree, IsCreating, IsFree, IsImporting, IsJoining}
use Rattle.vx_stages.specs.Tests.{fails, limit_passed, unless}
use Rattle.vx_stages.specs.declared.test.Test.TheVariants as tests
use Rattle.vx_plans.proofs.Carriers.{found_by}
use Rattle.vx_group_edits.specs.Stays.{has_disk_in}
use Rattle.vx_group_edits.proofs.Added.{joining_keeps}
use Rattle.vx_sound_volumes.specs.Volumes.{AreSoundOn}
use Rattle.vx_sound_volumes.proofs.Commits.{all_each, commit_kept, disks_done, still_running}
use Rattle.vx_sound_volumes.proofs.Devices.{some_member}
use Rattle.vx_sound_volumes.proofs.Named.{join_back, no_volumes}
use Rattle.vx_sound_volumes.proofs.Parts.{Every, Keeps, member_device, not_none, others_change, some_same}

-- ---- a commit to devices that nobody holds, which is stopped

world_is : (old new : World) → new.group ≡ old.group → new.volumes ≡ old.volumes → new ≡ record old { devices = new.devices }
world_is old new group volumes = λ i. record { devices = new.devices; volumes = volumes i; group = group i }

pub stops_elsewhere : (place : ℕ) (x : Writing) (old : Moment) (end : End) (new : Moment) → ((m : Member) → IsIn (parties x) m → IsHeld old.world m.device → ⊥) → IsStopped x old end new → Keeps place Every old.world → Keeps place Every new.world
stops_elsewhere place x old end new free stopped k =
    subst (Keeps place Every) (sym (world_is old.world new.world stopped.group stopped.committing.volumes))
    (others_change place Every old.world new.world.devices
    (λ name member. stopped.committing.others name (λ any. let m = some_member (parties x) name any in free m.0 m.1 (inr (subst (IsMemberDevice old.world.group) (sym m.2) member)))) k)

-- a commit that makes the group known, none of whose volumes was started but sound ones
fresh_kept : (place : ℕ) (x : Writing) (old new : Moment) (c : IsCommitted x old new) → HaveOwnDevices (parties x) → ((m : Member) → IsIn (parties x) m → IsSome (old.world.devices m.device)) → ((m : Member) → IsIn (parties x) m → IsHeld old.world m.device → ⊥) →
    ((g : Group) → new.world.group ≡ Some g → AreSoundOn new.world.devices g) → Keeps place Every old.world → Keeps place Every new.world
fresh_kept place x old new c own there free sound k = record {
  running = still_running x c.last old new c.committing place k.running;
  stopped = λ g here v one of started idle. sound g here v one started;
  disks = disks_done x old new c own there (λ m one lent. free m one (inl lent));
}

-- ---- the next slot

free_from : (n slot s : ℕ) (config : Config) → free_slot_from n slot config ≡ Some s → has_disk_in config s ≡ false
free_from zero slot s config e = not_none s e
free_from (suc n) slot s config e = by (has_disk_in config slot) refl e (free_from n (slot + 1) s config)
  where
    by : (b : Bool) → has_disk_in config slot ≡ b → (if b then free_slot_from n (slot + 1) config else Some slot) ≡ Some s → (free_slot_from n (slot + 1) config ≡ Some s → has_disk_in config s ≡ false) → has_disk_in config s ≡ false
    by true is e more = more e
    by false is e more = subst (λ t. has_disk_in config t ≡ false) (some_same slot s e) is

-- no disk has it
next_free : (config : Config) → next_slot config < 32 → has_disk_in config (next_slot config) ≡ false
unfolding next_slot
next_free config low = by (free_slot_from 32 0 config) refl low
  where
    by : (o : Option ℕ) → free_slot_from 32 0 config ≡ o → slot_or_last o < 32 → has_disk_in config (slot_or_last o) ≡ false
    by None e low = absurd (omega (arith, low))
    by (Some s) e low = free_from 32 0 s config e

else_none : {X : Type 0} (b : Bool) (a : X) (rest : Option X) → (if b then Some a else rest) ≡ None → (b ≡ false) × (rest ≡ None)
else_none true a rest e = not_none a (sym e)
else_none false a rest e = (refl, e)

few : (count : ℕ) → nat_lt 32 count ≡ false → count ≤ 32
few count e = grind (arith, nat_tests)

-- so many disks are allowed
room_for : (disks : List DiskAt) (w : World) (g : Group) → w.group ≡ Some g → fails tests.JoinLimits disks w ≡ None → next_slot g.config < 32
unfolding fails
room_for disks w g here passed =
    let known : limit_passed (next_slot g.config + 1) (names_of disks) (are_disk_sized w (devices_of disks)) ≡ None = subst (λ (o : Option Group). limit_passed (slot_in o + 1) (names_of disks) (are_disk_sized w (devices_of disks)) ≡ None) here passed in
    let sized = else_none (not (are_disk_sized w (devices_of disks))) (refusal.DeviceLimit) (if nat_lt 32 (next_slot g.config + 1) then Some (refusal.Limit limit.Disks) else unless (list_all is_short_name (names_of disks)) (refusal.Limit limit.Name)) known in
    let in_room = else_none (nat_lt 32 (next_slot g.config + 1)) (refusal.Limit limit.Disks) (unless (list_all is_short_name (names_of disks)) (refusal.Limit limit.Name)) sized.1 in
    let low = few (next_slot g.config + 1) in_room.0 in
    omega arith

-- ---- a disk joins

module _ (place : ℕ) (p : DiskAt) (old new : Moment) (k : Keeps place Every old.world) (x : Writing) (j : IsJoining p old.world x) (free : IsFree old.world [] p.device) (room : next_slot x.group.config < 32) where
  abbrev next : ℕ
  next = next_slot x.group.config

  is_joiner : (m : Member) → IsIn x.joiners m → m ≡ member_at p next
  is_joiner m one = elim (subst (λ js. IsIn js m) j.joiner one) [ inl same ↦ same | inr never ↦ absurd never ]

  -- its device is no member's
  no_member : (m n : Member) → IsIn x.group.members m → IsIn x.joiners n → m.device ≡ n.device → ⊥
  no_member m n one joins same =
      let device : m.device ≡ p.device = same ∙ ap (λ (i : Member). i.device) (is_joiner n joins) in
      free.1.0 (inr (subst (IsMemberDevice old.world.group) device (member_device old.world x.group m (contains x.group.members m one) j.group)))

  joined_own : HaveOwnDevices (parties x)
  joined_own m n one other same = elim (in_either x.group.members x.joiners m (is_in (parties x) m one)) [
    | inl m_in ↦ elim (in_either x.group.members x.joiners n (is_in (parties x) n other)) [
      | inl n_in ↦ (k.disks x.group j.group).own m n (contains x.group.members m m_in) (contains x.group.members n n_in) same
      | inr n_joins ↦ absurd (no_member m n m_in n_joins same)
    ]
    | inr m_joins ↦ elim (in_either x.group.members x.joiners n (is_in (parties x) n other)) [
      | inl n_in ↦ absurd (no_member n m n_in m_joins (sym same))
      | inr n_joins ↦ ap (λ (i : Member). i.slot) (is_joiner m m_joins) ∙ sym (ap (λ (i : Member). i.slot) (is_joiner n n_joins))
    ]
  ]

  pub join_kept : IsCommitted x old new → Keeps place Every new.world
  join_kept c =
      commit_kept x old new c Every (λ u. Unit {0}) (joining_keeps x.group.config x.config (disk_record p next (sectors_at old.world p.device)) j.edited)
      (λ v one of started. (v, join_back x.group.config x.config v (disk_record p next (sectors_at old.world p.device)) j.edited one, refl, tt))
      (λ m one. let s : m.slot ≡ next = ap (λ (i : Member). i.slot) (is_joiner m one) in (subst (λ n. n < 64) (sym s) (omega (arith, room)), subst (λ n. has_disk_in x.group.config n ≡ false) (sym s) (next_free x.group.config room)))
      place j.group joined_own
      (λ m one. let d : m.device ≡ p.device = ap (λ (i : Member). i.device) (is_joiner m one) in (subst (λ n. IsSome (old.world.devices n)) (sym d) free.0, λ lent. free.1.0 (inl (subst (IsLent old.world) d lent)))) k

-- ---- a group is made

-- a new member has the device of some pair
new_member : (slot : ℕ) (ps : List DiskAt) (m : Member) → IsIn (new_members slot ps) m → (p : DiskAt) × IsIn ps p × (m.device ≡ p.device)
new_member slot [] m one = absurd one
new_member slot (p ∷ ps) m (inl same) = (p, inl refl, ap (λ (i : Member). i.device) same)
new_member slot (p ∷ ps) m (inr one) = let r = new_member (slot + 1) ps m one in (r.0, inr r.1, r.2)

among_last : (name : Word) (taken : List Word) → is_among name (taken ++ name ∷ []) ≡ true
among_last name [] = ap (λ b. b || false) (bytes_eq_self name)
among_last name (n ∷ taken) = by (bytes_eq n name) (among_last name taken)
  where
    by : (b : Bool) → is_among name (taken ++ name ∷ []) ≡ true → (b || is_among name (taken ++ name ∷ [])) ≡ true
    by true more = refl
    by false more = more

among_more : (name other : Word) (taken : List Word) → is_among name taken ≡ true → is_among name (taken ++ other ∷ []) ≡ true
among_more name other [] is = absurd (false≢true is)
among_more name other (n ∷ taken) is = by (bytes_eq n name) is (among_more name other taken)
  where
    by : (b : Bool) → (b || is_among name taken) ≡ true → (is_among name taken ≡ true → is_among name (taken ++ other ∷ []) ≡ true) → (b || is_among name (taken ++ other ∷ [])) ≡ true
    by true is more = refl
    by false is more = more is

module _ (w : World) where
  free_of : (taken : List Word) (ps : List DiskAt) → AreFree w taken (devices_of ps) → (p : DiskAt) → IsIn ps p → IsFree w taken p.device
  free_of taken [] free p one = absurd one
  free_of taken (q ∷ ps) free p (inl same) = subst (λ (i : DiskAt). IsFree w taken i.device) (sym same) free.0
  free_of taken (q ∷ ps) free p (inr one) =
      let r = free_of (taken ++ q.device ∷ []) ps free.1 p one in
      (r.0, (r.1.0, by (is_among p.device taken) refl r.1.1))
    where
      by : (b : Bool) → is_among p.device taken ≡ b → is_among p.device (taken ++ q.device ∷ []) ≡ false → b ≡ false
      by true e off = absurd (false≢true (sym off ∙ among_more p.device q.device taken e))
      by false e off = refl

  -- no device is taken twice
  twice : (taken : List Word) (slot : ℕ) (p : DiskAt) (ps : List DiskAt) → AreFree w (taken ++ p.device ∷ []) (devices_of ps) → (m : Member) → IsIn (new_members slot ps) m → m.device ≡ p.device → ⊥
  twice taken slot p ps free m one same =
      let r = new_member slot ps m one in
      false≢true (sym (free_of (taken ++ p.device ∷ []) ps free r.0 r.1).1.1 ∙ subst (λ d. is_among d (taken ++ p.device ∷ []) ≡ true) (sym same ∙ r.2) (among_last p.device taken))

  new_own : (taken : List Word) (slot : ℕ) (ps : List DiskAt) → AreFree w taken (devices_of ps) → (m n : Member) → IsIn (new_members slot ps) m → IsIn (new_members slot ps) n → AreOfOneSlot m n
  new_own taken slot [] free m n one other same = absurd one
  new_own taken slot (p ∷ ps) free m n (inl m_is) (inl n_is) same = ap (λ (i : Member). i.slot) m_is ∙ sym (ap (λ (i : Member). i.slot) n_is)
  new_own taken slot (p ∷ ps) free m n (inl m_is) (inr n_in) same = absurd (twice taken (slot + 1) p ps free.1 n n_in (sym same ∙ ap (λ (i : Member). i.device) m_is))
  new_own taken slot (p ∷ ps) free m n (inr m_in) (inl n_is) same = absurd (twice taken (slot + 1) p ps free.1 m m_in (same ∙ ap (λ (i : Member). i.device) n_is))
  new_own taken slot (p ∷ ps) free m n (inr m_in) (inr n_in) same = new_own (taken ++ p.device ∷ []) (slot + 1) ps free.1 m n m_in n_in same

  -- a group of disks alone has no volume
  no_vol : (slot : ℕ) (ps : List DiskAt) (v : Vol) → IsIn (disk_records slot w ps) (VolRecord v) → ⊥
  no_vol slot [] v one = one
  no_vol slot (p ∷ ps) v (inl same) = cc
  no_vol slot (p ∷ ps) v (inr one) = no_vol (slot + 1) ps v one

  pub no_new_vol : (dg : Word) (ps : List DiskAt) (v : Vol) → IsIn (new_records dg w ps) (VolRecord v) → ⊥
  no_new_vol dg ps v (inl same) = cc
  no_new_vol dg ps v (inr one) = no_vol 0 ps v one

module _ (place : ℕ) (dg : Word) (pairs : List DiskAt) (old new : Moment) (k : Keeps place Every old.world) (x : Writing) (c : IsCreating dg pairs old.world x) (free : AreFree old.world [] (devices_of pairs)) where
  all_new : parties x ≡ new_members 0 pairs
  all_new = ap (λ (g : Group). g.members ++ x.joiners) c.group ∙ c.joiners

  new_free : (m : Member) → IsIn (parties x) m → IsFree old.world [] m.device
  new_free m one =
      let r = new_member 0 pairs m (subst (λ ms. IsIn ms m) all_new one) in
      subst (IsFree old.world []) (sym r.2) (free_of old.world [] pairs free r.0 r.1)

  pub create_done : IsCommitted x old new → Keeps place Every new.world
  create_done is =
      fresh_kept place x old new is
      (λ m n one other same. new_own old.world [] 0 pairs free m n (subst (λ ms. IsIn ms m) all_new (is_in (parties x) m one)) (subst (λ ms. IsIn ms n) all_new (is_in (parties x) n other)) same)
      (λ m one. (new_free m one).0) (λ m one. (new_free m one).1.0)
      (λ g here v one started.
      let same = some_same (record { config = x.config; good = is.good; members = parties x; sequence = is.last }) g (sym is.group ∙ here) in
      absurd (no_volumes x.config (new_records dg old.world pairs) c.records (no_new_vol old.world dg pairs) v (is_in x.config.volumes v (subst (λ (h : Group). Contains h.config.volumes v) (sym same) one)))) k

  pub create_stops : (end : End) → IsStopped x old end new → Keeps place Every new.world
  create_stops end stopped = stops_elsewhere place x old end new (λ m one. (new_free m one).1.0) stopped k

-- ---- a group is imported

module _ (place : ℕ) (dg : Word) (w : World) (old new : Moment) (same_world : old.world ≡ w) (k : Keeps place Every w) (x : Writing) (before after : Counts) (i : IsImporting dg w x before after) where
  candidates_kept : Keeps place Every old.world
  candidates_kept = subst (Keeps place Every) (sym same_world) k

  -- each member is a candidate that counts
  found_member : (m : Member) → IsIn (parties x) m → (c : Candidate) × (m ≡ member_of c) × IsCandidate dg i.found.absent w c
  found_member m one =
      let cs = i.found.counted in
      let f = found_by dg w i.found.unread cs (λ o config. (x.group ≡ group_found o cs config) × (objects_of x.config ≡ import_records config)) i.finds in
      let members = ap (λ js. x.group.members ++ js) i.joiners ∙ append-nil x.group.members ∙ ap (λ (g : Group). g.members) f.holds.0 in
      let r = from_map member_of (good_ones f.offer.good cs) m (subst (λ ms. IsIn ms m) members one) in
      (r.0, r.2, all_each (IsCandidate dg i.found.absent w) cs i.found.count.each r.0 (in_filtered (λ (c : Candidate). has f.offer.good c.label.slot) cs r.0 r.1).0)

  found_there : (m : Member) → IsIn (parties x) m → IsSome (old.world.devices m.device)
  found_there m one =
      let r = found_member m one in
      subst (λ (v : World). IsSome (v.devices m.device)) (sym same_world) (subst (λ (n : Member). IsSome (w.devices n.device)) (sym r.1) (subst (λ (o : Option Device). IsSome o) (sym r.2.device_is) refl))

  found_free : (m : Member) → IsIn (parties x) m → IsHeld old.world m.device → ⊥
  found_free m one held = let r = found_member m one in r.2.free (subst (λ (n : Member). IsHeld w n.device) r.1 (subst (λ (v : World). IsHeld v m.device) same_world held))

  -- a device has one header
  one_slot : (a b : Candidate) → IsCandidate dg i.found.absent w a → IsCandidate dg i.found.absent w b → a.name ≡ b.name → a.label.slot ≡ b.label.slot
  one_slot a b is other same =
      let device : a.device ≡ b.device = some_same a.device b.device (sym is.device_is ∙ ap w.devices same ∙ other.device_is) in
      ap (λ (l : Label). l.slot) (some_same a.label b.label (sym is.header ∙ ap (λ (d : Device). header_of (d.contents 0)) device ∙ other.header))

  found_own : HaveOwnDevices (parties x)
  found_own m n one other same =
      let a = found_member m (is_in (parties x) m one) in
      let b = found_member n (is_in (parties x) n other) in
      ap (λ (y : Member). y.slot) a.1 ∙ one_slot a.0 b.0 a.2 b.2 (sym (ap (λ (y : Member). y.device) a.1) ∙ same ∙ ap (λ (y : Member). y.device) b.1) ∙ sym (ap (λ (y : Member). y.slot) b.1)

  pub import_done : IsCommitted x old new → ((g : Group) → new.world.group ≡ Some g → AreSoundOn new.world.devices g) → Keeps place Every new.world
  import_done c sound = fresh_kept place x old new c found_own found_there found_free sound candidates_kept

  pub import_stops : (end : End) → IsStopped x old end new → Keeps place Every new.world
  import_stops end stopped = stops_elsewhere place x old end new found_free stopped candidates_kept

pub join_done : (place : ℕ) (p : DiskAt) (old new : Moment) → Keeps place Every old.world → AreFree old.world [] (p.device ∷ []) → fails tests.JoinLimits (p ∷ []) old.world ≡ None → (x : Writing) → IsJoining p old.world x → IsCommitted x old new → Keeps place Every new.world
join_done place p old new k free limits x j c = join_kept place p old new k x j free.0 (room_for (p ∷ []) old.world x.group j.group limits) c
