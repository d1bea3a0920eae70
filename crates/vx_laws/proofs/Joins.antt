-- Disks that join a group, or make one, nothing failing, leave it whole.
use Rattle.std.proofs.Common.{◌≡◌, ℕ, ◌+◌, ◌-◌, ◌<◌, ◌≤◌, Bool, true, false, not, nat_lt, ◌&&◌, ◌||◌, ◌==◌, List, [], ◌∷◌, ◌++◌, length, Option, Some, None, refl, sym, ◌∙◌, ap, subst, inl, inr, arith, ◌⊎◌, map, append-nil, bytes_eq}
use Rattle.std.specs.Prelude.{if◌then◌else◌, IsSome}
use Rattle.std.specs.List.{list_any, list_all, filter_map}
use Rattle.std.specs.Str.{bytes_eq}
use Rattle.std.proofs.lemmas.Bool.{and_from, cases_lt}
use Rattle.std.proofs.lemmas.Bool.Decides.{nat_tests}
use Rattle.vx_base.specs.Named.{Word}
use Rattle.vx_base.proofs.NamedLemmas.{bytes_eq_self, bytes_eq_same}
use Rattle.vx_mask.specs.Mask.{has}
use Rattle.vx_mask.proofs.MaskLemmas.{has-zero}
use Rattle.vx_copies.specs.Lists.{AllOf, AnyOf}
use Rattle.vx_copies.specs.Image.{names_group}
use Rattle.vx_config_parts.specs.declared.disk.Disk.{Disk}
use Rattle.vx_config_parts.specs.declared.object.Object.{Object}
use Rattle.vx_config_parts.specs.declared.object.Object.TheVariants.{GroupRecord, DiskRecord}
use Rattle.vx_config_parts.specs.Objects.{is_disk}
use Rattle.vx_script_words.specs.declared.value.DiskAt.{DiskAt}
use Rattle.vx_script_forms.specs.declared.form.Form.TheVariants.{DgInit, DgAddDisk}
use Rattle.vx_moments.specs.World.{World, Device, Member, Group}
use Rattle.vx_moments.specs.Moment.{Moment}
use Rattle.vx_moments.specs.Holding.{IsLent, IsMemberDevice, is_among}
use Rattle.vx_moments.specs.Leaving.{group_gone}
use Rattle.vx_moments.specs.Commit.{Writing, parties, is_written_slot, is_slot_of, IsNoDeviceOf, IsCommitted}
use Rattle.vx_stages.specs.Finding.{Candidate, IsCandidate}
use Rattle.vx_plans.specs.Plans.{plan_of, plan_init, plan_add}
use Rattle.vx_stages.specs.Records.{devices_of, names_of, sectors_in, sectors_at, are_disk_sized, disk_record, member_at, next_slot, disk_records, new_members, slot_in}
use Rattle.vx_stages.specs.Stages.{IsFree, AreFree, NamesGroup, IsCreating, IsJoining}
use Rattle.vx_stages.specs.Tests.{fails, limit_passed}
use Rattle.vx_plans.specs.Laws.{WentWell}
use Rattle.vx_laws.specs.Returning.{SlotsRise, nobody, IsWhole, EachMadeGroupIsWhole, HasJustDisks, IsKeptOn, EachJoinedGroupIsWhole, IsLeftOn, IsDeviceOf}
use Rattle.vx_laws.proofs.ListFacts.{either, is_equal, equal_is, or_first, or_second, or_neither, all_map, all_all, any_map, any_from_list, all_append, any_front, any_behind, all_pass, both_ways}
use Rattle.vx_laws.proofs.Orderless.{is_plain}
use Rattle.vx_laws.proofs.Records.{disks_pass, just_disks}
use Rattle.vx_laws.proofs.Slots.{next_above, used_below, is_used}
use Rattle.vx_laws.proofs.Runs.{AllDone, served, stages_done, none_failed}
use Rattle.vx_laws.proofs.Commits.{IsRecorded, CanBeWritten, can_be, group_now, all_good, one_more, each_other, left_behind, HasItsHeader, kept_as}
use Rattle.std.proofs.lemmas.List.Folds.{list_any-append}
use Rattle.vx_objects.specs.declared.config.Config.{Config}
use Rattle.vx_objects.specs.declared.edit.Edit.TheVariants.{AddDisk}
use Rattle.vx_objects.specs.Applied.{IsEdited}
use Rattle.vx_objects.specs.Config.{objects_of}
use Rattle.vx_objects.specs.Edits.{edited, change, added}
use Rattle.vx_objects.specs.Parts.{in_kinds}
use Rattle.vx_objects.proofs.InKinds.{are_sorted}
use Rattle.vx_laws.proofs.SecondReads.{objects_are}
use Rattle.vx_moments.proofs.Lone.{lent_still}

-- ---- devices that join

-- a free device that is not taken and whose header names the group: there is none
abbrev IsUnnamed : Word → List Word → World → Type 0
IsUnnamed dg taken w = (name : Word) → IsFree w taken name → NamesGroup dg w name → ⊥

some_is : (o : Option Device) (d : Device) → o ≡ Some d → IsSome o
some_is o d e = subst IsSome (sym e) refl

-- a candidate would be one
no_candidate : (dg : Word) (taken : List Word) (w : World) (d : Candidate) → IsUnnamed dg taken w → IsCandidate dg nobody (group_gone w) d → (IsMemberDevice w.group d.name → ⊥) → is_among d.name taken ≡ false → ⊥
no_candidate dg taken w d none is free_of apart =
    none d.name
    (some_is (w.devices d.name) d.device is.device_is, (λ held. either (λ lent. is.free (inl (lent_still w d.name lent))) (λ member. free_of member) held, apart))
    (d.device, is.device_is, ap (names_group dg) is.header ∙ ap (λ (x : Word). bytes_eq x dg) is.group_is ∙ bytes_eq_self dg)

-- the member's name is not among those of the words, if none of the devices is the member's
not_among : (k : ℕ) (pairs : List DiskAt) (name : Word) → IsNoDeviceOf (new_members k pairs) name → is_among name (devices_of pairs) ≡ false
not_among k [] name off = refl
not_among k (p ∷ pairs) name off = or_neither (bytes_eq p.device name) (is_among name (devices_of pairs)) (apart (bytes_eq p.device name) refl) (not_among (k + 1) pairs name (λ any. off (inr any)))
  where
    apart : (b : Bool) → bytes_eq p.device name ≡ b → bytes_eq p.device name ≡ false
    apart true is = absurd (off (inl (bytes_eq_same p.device name is)))
    apart false is = is

free_ones : (w : World) (k : ℕ) (taken : List Word) (pairs : List DiskAt) → AreFree w taken (devices_of pairs) → AllOf (λ m. IsLent w m.device → ⊥) (new_members k pairs)
free_ones w k taken [] free = tt
free_ones w k taken (p ∷ pairs) free = (λ lent. free.0.1.0 (inl lent), free_ones w (k + 1) (taken ++ p.device ∷ []) pairs free.1)

-- ---- the members and the records

above : (n k : ℕ) (pairs : List DiskAt) → n < k → AllOf (λ m. n < m.slot) (new_members k pairs)
above n k [] lt = tt
above n k (p ∷ pairs) lt = (lt, above n (k + 1) pairs (omega (arith, lt)))

-- members whose slots are lower stand before them
rising : (ms : List Member) (k : ℕ) (pairs : List DiskAt) → SlotsRise ms → AllOf (λ m. m.slot < k) ms → SlotsRise (ms ++ new_members k pairs)
rising [] k [] rise low = tt
rising [] k (p ∷ pairs) rise low = (above k (k + 1) pairs (omega arith), rising [] (k + 1) pairs tt tt)
rising (m ∷ ms) k pairs rise low = (all_append (λ n. m.slot < n.slot) ms (new_members k pairs) rise.0 (above m.slot k pairs low.0), rising ms k pairs rise.1 low.1)

plain_records : (k : ℕ) (w : World) (pairs : List DiskAt) → list_all is_plain (disk_records k w pairs) ≡ true
plain_records k w [] = refl
plain_records k w (p ∷ pairs) = plain_records (k + 1) w pairs

-- the record is that of the member's disk on a device of so many sectors
abbrev is_of : ℕ → Member → Disk → Bool
is_of sectors m d = d.slot == m.slot && bytes_eq d.name m.disk && d.publen == sectors - 2048

own_record : (k sectors : ℕ) (p : DiskAt) → is_of sectors (member_at p k) (disk_record p k sectors) ≡ true
own_record k sectors p =
    and_from (k == k && bytes_eq p.disk p.disk) (sectors - 2048 == sectors - 2048) (and_from (k == k) (bytes_eq p.disk p.disk) (is_equal k k refl) (bytes_eq_self p.disk)) (is_equal (sectors - 2048) (sectors - 2048) refl)

-- each member has its record
abbrev IsOneOf : World → List Object → Member → Type 0
IsOneOf w os m = (d : Device) → w.devices m.device ≡ Some d → list_any (λ o. is_disk (is_of d.sectors m) o) os ≡ true

all_recorded : (k : ℕ) (w : World) (pairs : List DiskAt) → AllOf (IsOneOf w (disk_records k w pairs)) (new_members k pairs)
all_recorded k w [] = tt
all_recorded k w (p ∷ pairs) = (
  λ d is.
      or_first (is_of d.sectors (member_at p k) (disk_record p k (sectors_at w p.device))) _
      (ap (λ (n : ℕ). is_of d.sectors (member_at p k) (disk_record p k n)) (ap sectors_in is) ∙ own_record k d.sectors p),
  all_map (IsOneOf w (disk_records (k + 1) w pairs)) (IsOneOf w (disk_records k w (p ∷ pairs))) (new_members (k + 1) pairs)
      (λ m h d is. or_second (is_of d.sectors m (disk_record p k (sectors_at w p.device))) (list_any (λ o. is_disk (is_of d.sectors m) o) (disk_records (k + 1) w pairs)) (h d is))
      (all_recorded (k + 1) w pairs),
)

-- the name of the group's record
abbrev name_in : List Object → Word
name_in (GroupRecord g ∷ os) = g.name
name_in os = []

-- each slot from the first one up is that of a record
slots_used : (slot k : ℕ) (w : World) (pairs : List DiskAt) → k ≤ slot → slot < k + length pairs → list_any (λ o. is_disk (λ d. d.slot == slot) o) (disk_records k w pairs) ≡ true
slots_used slot k w [] low high = absurd (omega (arith, low, high))
slots_used slot k w (p ∷ pairs) low high =
    either (λ past. or_second (k == slot) (list_any (λ o. is_disk (λ d. d.slot == slot) o) (disk_records (k + 1) w pairs)) (slots_used slot (k + 1) w pairs (omega (arith, past)) (omega (arith, high))))
    (λ here. or_first (k == slot) (list_any (λ o. is_disk (λ d. d.slot == slot) o) (disk_records (k + 1) w pairs)) (is_equal k slot (omega (arith, here, low)))) (cases_lt k slot)

slots_low : (k : ℕ) (pairs : List DiskAt) → AllOf (λ m. m.slot < k + length pairs) (new_members k pairs)
slots_low k [] = tt
slots_low k (p ∷ pairs) = (omega arith, all_map (λ m. m.slot < (k + 1) + length pairs) (λ m. m.slot < k + length (p ∷ pairs)) (new_members (k + 1) pairs) (λ m lt. omega (arith, lt)) (slots_low (k + 1) pairs))

-- each member's slot is one of theirs
own_slots : (ms : List Member) → AllOf (λ m. is_slot_of ms m.slot ≡ true) ms
own_slots [] = tt
own_slots (m ∷ ms) = (
  or_first (m.slot == m.slot) (is_slot_of ms m.slot) (is_equal m.slot m.slot refl),
  all_map (λ n. is_slot_of ms n.slot ≡ true) (λ n. is_slot_of (m ∷ ms) n.slot ≡ true) ms (λ n h. or_second (m.slot == n.slot) (is_slot_of ms n.slot) h) (own_slots ms),
)

at_slot : (ms : List Member) (slot : ℕ) → is_slot_of ms slot ≡ true → AnyOf (λ m. m.slot ≡ slot) ms
at_slot ms slot is = any_map (λ m. (m.slot == slot) ≡ true) (λ m. m.slot ≡ slot) ms (λ m e. equal_is m.slot slot e) (any_from_list (λ m. m.slot == slot) ms is)

second_off : {A : Type 0} (a b : Bool) (x y : A) (o : Option A) → (if not a then Some x else (if b then Some y else o)) ≡ None → b ≡ false
second_off false b x y o e = cc
second_off true true x y o e = cc
second_off true false x y o e = refl

-- where the limits are kept, there are few disks
few_disks : (count : ℕ) (names : List Word) (sized : Bool) → limit_passed count names sized ≡ None → count ≤ 32
few_disks count names sized e = let low : nat_lt 32 count ≡ false = second_off sized (nat_lt 32 count) _ _ _ e in grind (arith, nat_tests)

-- ---- a group that is enlarged

one_of : (a b : Bool) → (a || b) ≡ true → (a ≡ true) ⊎ (b ≡ true)
one_of true b e = inl refl
one_of false b e = inr e

none_behind : (ms : List Member) (m : Member) (ns : List Member) → ms ++ m ∷ ns ≡ [] → ⊥
none_behind [] m ns e = cc
none_behind (k ∷ ms) m ns e = cc

-- Disks join the group, or make it: they have the slots from this one up, and the group's members, all good and kept, the
-- slots below. The configuration has their records, and no other free device bears its name.
record IsEnlarged (k : ℕ) (p : DiskAt) (pairs : List DiskAt) (w : World) (x : Writing) : Type 0 where
  joiners : x.joiners ≡ new_members k (p ∷ pairs)
  room : k + length (p ∷ pairs) ≤ 32
  free : AreFree w [] (devices_of (p ∷ pairs))
  just_disks : HasJustDisks x.config
  records : (test : Disk → Bool) → list_any (λ o. is_disk test o) (disk_records k w (p ∷ pairs)) ≡ true → list_any test x.config.disks ≡ true
  used : (slot : ℕ) → slot < k → is_used slot x.config ≡ true
  good : AllOf (λ m. has x.group.good m.slot ≡ true) x.group.members
  low : AllOf (λ m. m.slot < k) x.group.members
  rise : SlotsRise x.group.members
  placed : (slot : ℕ) → has x.group.good slot ≡ true → AnyOf (λ m. m.slot ≡ slot) x.group.members
  kept : AllOf (λ m. HasItsHeader x w m × IsRecorded x w m) x.group.members
  here : (name : Word) → IsMemberDevice w.group name → IsDeviceOf x.group.members name
  unnamed : IsUnnamed x.config.group (devices_of (p ∷ pairs)) w

module _ (k : ℕ) (p : DiskAt) (pairs : List DiskAt) (w : World) (x : Writing) (e : IsEnlarged k p pairs w x) where
  ready : CanBeWritten x w
  ready =
      let ms = x.group.members in
      let ns = new_members k (p ∷ pairs) in
      let in_joiners : (slot : ℕ) → is_slot_of ns slot ≡ is_slot_of x.joiners slot = λ slot. ap (λ (xs : List Member). is_slot_of xs slot) (sym e.joiners) in
      can_be x (is_written_slot x) ms (ms ++ ns) w (λ slot. refl) refl (ap (λ (xs : List Member). ms ++ xs) e.joiners)
      (record {
        some = none_behind ms (member_at p k) (new_members (k + 1) pairs);
        written = all_append (λ m. is_written_slot x m.slot ≡ true) ms ns
            (all_map (λ m. has x.group.good m.slot ≡ true) (λ m. is_written_slot x m.slot ≡ true) ms (λ m on. or_first (has x.group.good m.slot) (is_slot_of x.joiners m.slot) on) e.good)
            (all_map (λ m. is_slot_of ns m.slot ≡ true) (λ m. is_written_slot x m.slot ≡ true) ns (λ m on. or_second (has x.group.good m.slot) (is_slot_of x.joiners m.slot) (sym (in_joiners m.slot) ∙ on)) (own_slots ns));
        rising = rising ms k (p ∷ pairs) e.rise e.low;
        placed = λ slot on.
            either (λ was. any_front (λ m. m.slot ≡ slot) ms ns (e.placed slot was)) (λ new. any_behind (λ m. m.slot ≡ slot) ms ns (at_slot ns slot (in_joiners slot ∙ new)))
            (one_of (has x.group.good slot) (is_slot_of x.joiners slot) on);
        just_disks = e.just_disks;
        recorded = all_append (IsRecorded x w) ms ns (all_map (λ m. HasItsHeader x w m × IsRecorded x w m) (IsRecorded x w) ms (λ m h. h.1) e.kept)
            (all_all (IsOneOf w (disk_records k w (p ∷ pairs))) (λ m. IsLent w m.device → ⊥) (IsRecorded x w) ns (λ m one apart. (apart, λ d is. e.records (is_of d.sectors m) (one d is))) (all_recorded k w (p ∷ pairs)) (free_ones w k [] (p ∷ pairs) e.free));
        good = e.good;
        headed = all_map (λ m. HasItsHeader x w m × IsRecorded x w m) (HasItsHeader x w) ms (λ m h. h.0) e.kept;
      })

  packed : AllOf (λ m. m.slot < next_slot x.config) (parties x)
  packed =
      let up : k + length (p ∷ pairs) ≤ next_slot x.config =
      next_above x.config (k + length (p ∷ pairs)) e.room (λ slot lt. either (λ low. e.used slot low) (λ high. e.records (λ d. d.slot == slot) (slots_used slot k w (p ∷ pairs) high lt)) (cases_lt slot k)) in
      subst (λ (xs : List Member). AllOf (λ m. m.slot < next_slot x.config) (x.group.members ++ xs)) (sym e.joiners)
      (all_append (λ m. m.slot < next_slot x.config) x.group.members (new_members k (p ∷ pairs))
      (all_map (λ m. m.slot < k) (λ m. m.slot < next_slot x.config) x.group.members (λ m lt. omega (arith, lt, up)) e.low)
      (all_map (λ m. m.slot < k + length (p ∷ pairs)) (λ m. m.slot < next_slot x.config) (new_members k (p ∷ pairs)) (λ m lt. omega (arith, lt, up)) (slots_low k (p ∷ pairs))))

  nobody_else : (d : Candidate) → IsCandidate x.config.group nobody (group_gone w) d → IsNoDeviceOf (parties x) d.name → ⊥
  nobody_else d bears off =
      no_candidate x.config.group (devices_of (p ∷ pairs)) w d e.unnamed bears (λ member. off (any_front (λ m. m.device ≡ d.name) x.group.members x.joiners (e.here d.name member)))
      (not_among k (p ∷ pairs) d.name (λ any. off (any_behind (λ m. m.device ≡ d.name) x.group.members x.joiners (subst (λ (xs : List Member). IsDeviceOf xs d.name) (sym e.joiners) any))))

-- a whole group of the name, whose newest commit is the next
abbrev IsWholeAs : Word → ℕ → World → Type 0
IsWholeAs name sequence w = (g : Group) × (g.config.group ≡ name) × (g.sequence ≡ sequence + 1) × IsWhole g w

-- a group that is enlarged is whole
whole_by : (name : Word) (sequence k : ℕ) (p : DiskAt) (pairs : List DiskAt) (x : Writing) (old new : Moment) → x.config.group ≡ name → x.group.sequence ≡ sequence → IsEnlarged k p pairs old.world x → IsCommitted x old new → WentWell old new → IsWholeAs name sequence new.world
whole_by name sequence k p pairs x old new own from e c well =
    let can = ready k p pairs old.world x e in
    let none = nobody_else k p pairs old.world x e in
    let calm = none_failed old new well in (
      group_now x old new can c calm,
      own,
      one_more x old new can c calm ∙ ap (λ (n : ℕ). n + 1) from,
      record {
        here = c.group;
        left = left_behind x old new can c calm (λ d is off. absurd (none d is off));
        full = record {
          all_good = all_good x old new can c calm;
          packed = packed k p pairs old.world x e;
          alone = λ d is. either (λ mine. mine) (λ never. absurd never) (each_other x old new can c calm {Other = λ o. ⊥} none d is);
        };
      },
    )

-- ---- a new group

enlarged_new : (dg : Word) (p : DiskAt) (pairs : List DiskAt) (w : World) (x : Writing) → w.group ≡ None → AreFree w [] (devices_of (p ∷ pairs)) → length (p ∷ pairs) ≤ 32 → IsUnnamed dg (devices_of (p ∷ pairs)) w → IsCreating dg (p ∷ pairs) w x → IsEnlarged 0 p pairs w x
enlarged_new dg p pairs w x no_group free few unnamed is =
    let none : x.group.members ≡ [] = ap (λ (g : Group). g.members) is.group in
    let off : (slot : ℕ) → has x.group.good slot ≡ false = λ slot. ap (λ (g : Group). has g.good slot) is.group ∙ has-zero slot in
    record {
      joiners = is.joiners;
      room = omega (arith, few);
      free = free;
      just_disks = just_disks x.config (subst (λ (os : List Object). list_all is_plain os ≡ true) (sym is.records) (plain_records 0 w (p ∷ pairs)));
      records = λ test h. disks_pass x.config test ∙ ap (λ (os : List Object). list_any (λ o. is_disk test o) os) is.records ∙ h;
      used = λ slot lt. absurd (omega (arith, lt));
      good = subst (AllOf (λ m. has x.group.good m.slot ≡ true)) (sym none) tt;
      low = subst (AllOf (λ m. m.slot < 0)) (sym none) tt;
      rise = subst SlotsRise (sym none) tt;
      placed = λ slot on. both_ways (has x.group.good slot) on (off slot);
      kept = subst (AllOf (λ m. HasItsHeader x w m × IsRecorded x w m)) (sym none) tt;
      here = λ name member. absurd (subst (λ (o : Option Group). IsMemberDevice o name) no_group member);
      unnamed = subst (λ (name : Word). IsUnnamed name (devices_of (p ∷ pairs)) w) (sym (ap name_in is.records)) unnamed;
    }

made : (dg : Word) (p : DiskAt) (pairs : List DiskAt) (old new : Moment) → AllDone (p ∷ pairs) (plan_init dg) old new → IsWholeAs dg 0 new.world
unfolding fails
made dg p pairs old new (a, well_a, took, (b, well_b, looked, (c, well_c, none, (d, well_d, limits, (e, well_e, searched, (f, well_f, rules, (h, well_h, (no_group, (x, is, committed)), same))))))) =
    let world : Moment → World = λ m. m.world in
    let to_d : d.world ≡ old.world = ap world limits.1 ∙ ap world none.1 ∙ looked.1 ∙ took.1.stays.world in
    let to_f : f.world ≡ d.world = ap world rules.1 ∙ searched.1 in
    let free : AreFree f.world [] (devices_of (p ∷ pairs)) = subst (λ (w : World). AreFree w [] (devices_of (p ∷ pairs))) (sym (to_f ∙ to_d)) took.0 in
    let unnamed : IsUnnamed dg (devices_of (p ∷ pairs)) f.world = subst (IsUnnamed dg (devices_of (p ∷ pairs))) (sym to_f) searched.0 in
    let few = few_disks (length (p ∷ pairs)) (dg ∷ names_of (p ∷ pairs)) (are_disk_sized c.world (devices_of (p ∷ pairs))) limits.0 in
    subst (λ (m : Moment). IsWholeAs dg 0 m.world) (sym same)
    (whole_by dg 0 0 p pairs x f h (ap name_in is.records) (ap (λ (g : Group). g.sequence) is.group) (enlarged_new dg p pairs f.world x no_group free few unnamed is) committed (subst (λ (m : Moment). WentWell f m) same well_h))

pub each_made_group_is_whole : EachMadeGroupIsWhole
unfolding plan_of
each_made_group_is_whole = λ place c dg p pairs old new is step well.
    made dg p pairs old new (stages_done (p ∷ pairs) (plan_init dg) old new (served place c (DgInit dg (p ∷ pairs)) old _ new is step) well)

-- ---- a disk that joins

all_kept : (os : List Object) → filter_map (λ (o : Object). Some o) os ≡ os
all_kept [] = refl
all_kept (o ∷ os) = ap (λ (xs : List Object). o ∷ xs) (all_kept os)

edited_is : (disk : Disk) (os : List Object) → edited (AddDisk disk) os ≡ os ++ DiskRecord disk ∷ []
unfolding change added
edited_is disk os = ap (λ (xs : List Object). xs ++ DiskRecord disk ∷ []) (all_kept os)

map_append : (xs : List Disk) (disk : Disk) → map DiskRecord xs ++ DiskRecord disk ∷ [] ≡ map DiskRecord (xs ++ disk ∷ [])
map_append [] disk = refl
map_append (x ∷ xs) disk = ap (λ (os : List Object). DiskRecord x ∷ os) (map_append xs disk)

-- records of a group and of disks are sorted
plain_sorted : (group : Word) (version : ℕ) (disks : List Disk) → in_kinds (GroupRecord (record { name = group; version = version }) ∷ map DiskRecord disks) ≡ GroupRecord (record { name = group; version = version }) ∷ map DiskRecord disks
plain_sorted group version disks =
    ap (λ (os : List Object). in_kinds (GroupRecord (record { name = group; version = version }) ∷ os)) (sym (append-nil (map DiskRecord disks)))
    ∙ are_sorted disks [] [] [] [] [] group version
    ∙ ap (λ (os : List Object). GroupRecord (record { name = group; version = version }) ∷ os) (append-nil (map DiskRecord disks))

-- the records of the configuration, and the disk's behind them
records_are : (config after : Config) (disk : Disk) → HasJustDisks config → IsEdited (AddDisk disk ∷ []) config after → objects_of after ≡ GroupRecord (record { name = config.group; version = config.version }) ∷ map DiskRecord (config.disks ++ disk ∷ [])
records_are config after disk plain is =
    is ∙ ap (λ (os : List Object). in_kinds os) (edited_is disk (objects_of config))
    ∙ ap (λ (os : List Object). in_kinds (os ++ DiskRecord disk ∷ [])) (objects_are config plain)
    ∙ ap (λ (os : List Object). in_kinds (GroupRecord (record { name = config.group; version = config.version }) ∷ os)) (map_append config.disks disk)
    ∙ plain_sorted config.group config.version (config.disks ++ disk ∷ [])

any_disks : (test : Disk → Bool) (ds : List Disk) → list_any (λ o. is_disk test o) (map DiskRecord ds) ≡ list_any test ds
any_disks test [] = refl
any_disks test (d ∷ ds) = ap (λ (b : Bool). test d || b) (any_disks test ds)

all_plain : (ds : List Disk) → list_all is_plain (map DiskRecord ds) ≡ true
all_plain [] = refl
all_plain (d ∷ ds) = all_plain ds

module _ (config after : Config) (disk : Disk) (is : objects_of after ≡ GroupRecord (record { name = config.group; version = config.version }) ∷ map DiskRecord (config.disks ++ disk ∷ [])) where
  passes : (test : Disk → Bool) → list_any test after.disks ≡ (list_any test config.disks || (test disk || false))
  passes test = disks_pass after test ∙ ap (λ (os : List Object). list_any (λ o. is_disk test o) os) is ∙ any_disks test (config.disks ++ disk ∷ []) ∙ list_any-append test config.disks (disk ∷ [])

  passes_old : (test : Disk → Bool) → list_any test config.disks ≡ true → list_any test after.disks ≡ true
  passes_old test h = passes test ∙ or_first (list_any test config.disks) (test disk || false) h

  passes_new : (test : Disk → Bool) → (test disk || false) ≡ true → list_any test after.disks ≡ true
  passes_new test h = passes test ∙ or_second (list_any test config.disks) (test disk || false) h

enlarged : (p : DiskAt) (w : World) (x : Writing) → IsWhole x.group w → AreFree w [] (p.device ∷ []) → next_slot x.group.config + 1 ≤ 32 → IsUnnamed x.group.config.group (p.device ∷ []) w → IsJoining p w x → IsEnlarged (next_slot x.group.config) p [] w x
enlarged p w x whole free few unnamed is =
    let disk = disk_record p (next_slot x.group.config) (sectors_at w p.device) in
    let records = records_are x.group.config x.config disk whole.left.just_disks is.edited in
    let own : x.config.group ≡ x.group.config.group = ap name_in records in
    let left = subst (λ (ms : List Member). IsLeftOn x.group ms (group_gone w)) (all_pass (λ m. has x.group.good m.slot) x.group.members whole.full.all_good) whole.left in
    record {
      joiners = is.joiner;
      room = omega (arith, few);
      free = free;
      just_disks = just_disks x.config (subst (λ (os : List Object). list_all is_plain os ≡ true) (sym records) (all_plain (x.group.config.disks ++ disk ∷ [])));
      records = passes_new x.group.config x.config disk records;
      used = λ slot lt. passes_old x.group.config x.config disk records (λ d. d.slot == slot) (used_below x.group.config slot lt);
      good = whole.full.all_good;
      low = whole.full.packed;
      rise = left.rising;
      placed = left.placed;
      kept = all_map (IsKeptOn x.group left.text (group_gone w)) (λ m. HasItsHeader x w m × IsRecorded x w m) x.group.members
          (λ m k.
          let r = kept_as x.group left.text (group_gone w) x m own (λ l h. passes_old x.group.config x.config disk records (λ d. d.slot == l.slot && bytes_eq d.name l.disk && d.publen == l.sectors - 2048) h) k in
          (r.0, ((λ lent. r.1.0 (lent_still w m.device lent)), r.1.1))) left.kept;
      here = λ name member. subst (λ (o : Option Group). IsMemberDevice o name) whole.here member;
      unnamed = subst (λ (name : Word). IsUnnamed name (p.device ∷ []) w) (sym own) unnamed;
    }

joined : (g : Group) (p : DiskAt) (old new : Moment) → IsWhole g old.world → AllDone (p ∷ []) (plan_add g.config.group) old new → IsWholeAs g.config.group g.sequence new.world
unfolding fails
joined g p old new whole (a, well_a, took, (b, well_b, meant, (c, well_c, looked, (d, well_d, limits, (e, well_e, searched, (f, well_f, (x, is, committed), same)))))) =
    let world : Moment → World = λ m. m.world in
    let to_c : e.world ≡ c.world = searched.1 ∙ ap world limits.1 in
    let to_old : e.world ≡ old.world = to_c ∙ looked.1 ∙ ap world meant.1 ∙ took.1.stays.world in
    let whole_e : IsWhole g e.world = subst (IsWhole g) (sym to_old) whole in
    let one : g ≡ x.group = one_group g x.group e.world whole_e.here is.group in
    let whole_x : IsWhole x.group e.world = subst (λ (h : Group). IsWhole h e.world) one whole_e in
    let free : AreFree e.world [] (p.device ∷ []) = subst (λ (w : World). AreFree w [] (p.device ∷ [])) (sym to_old) took.0 in
    let unnamed : IsUnnamed x.group.config.group (p.device ∷ []) e.world =
    subst (λ (h : Group). IsUnnamed h.config.group (p.device ∷ []) e.world) one (subst (IsUnnamed g.config.group (p.device ∷ [])) (sym searched.1) searched.0) in
    let slot : slot_in c.world.group ≡ next_slot x.group.config = ap (λ (w : World). slot_in w.group) (sym to_c) ∙ ap slot_in is.group in
    let few : next_slot x.group.config + 1 ≤ 32 =
    subst (λ (n : ℕ). n + 1 ≤ 32) slot (few_disks (slot_in c.world.group + 1) (names_of (p ∷ [])) (are_disk_sized c.world (devices_of (p ∷ []))) limits.0) in
    let records = records_are x.group.config x.config (disk_record p (next_slot x.group.config) (sectors_at e.world p.device)) whole_x.left.just_disks is.edited in
    let named : x.config.group ≡ g.config.group = ap name_in records ∙ ap (λ (h : Group). h.config.group) (sym one) in
    subst (λ (m : Moment). IsWholeAs g.config.group g.sequence m.world) (sym same)
    (whole_by g.config.group g.sequence (next_slot x.group.config) p [] x e f named (ap (λ (h : Group). h.sequence) (sym one)) (enlarged p e.world x whole_x free few unnamed is) committed (subst (λ (m : Moment). WentWell e m) same well_f))
  where
    one_group : (m n : Group) (w : World) → w.group ≡ Some m → w.group ≡ Some n → m ≡ n
    one_group m n w here there = cc

pub each_joined_group_is_whole : EachJoinedGroupIsWhole
unfolding plan_of
each_joined_group_is_whole = λ place c g p old new is whole step well.
    joined g p old new whole (stages_done (p ∷ []) (plan_add g.config.group) old new (served place c (DgAddDisk g.config.group p) old _ new is step) well)
