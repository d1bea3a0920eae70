-- A commit that is done, no device having failed, leaves a group that can be found again.
use Rattle.std.proofs.Common.{◌≡◌, ◌≢◌, ◌⊎◌, ℕ, ◌+◌, ◌*◌, ◌-◌, ◌≤◌, Bool, true, false, List, [], ◌∷◌, length, Option, Some, MatchOption, refl, sym, ◌∙◌, ap, subst, inl, inr, arith}
use Rattle.std.specs.Prelude.{replicate}
use Rattle.std.specs.Str.{bytes_eq}
use Rattle.std.proofs.lemmas.List.{length-append, length-replicate}
use Rattle.vx_base.specs.Blocks.{Contents, blocks_in, written}
use Rattle.vx_base.specs.Named.{Word}
use Rattle.vx_base.proofs.BlockLemmas.{written_out, is_in-before, is_in-after}
use Rattle.vx_base.proofs.NamedLemmas.{bytes_eq_self, bytes_eq_same}
use Rattle.vx_mask.specs.Mask.{has}
use Rattle.vx_sector.specs.Fields.{zeros}
use Rattle.vx_header.specs.Named.{Label, header_of}
use Rattle.vx_copies.specs.Lists.{AllOf, AnyOf}
use Rattle.vx_copies.specs.Image.{filled, half_start, sectors_for}
use Rattle.vx_copies.specs.Written.{OldOrText}
use Rattle.vx_copies.proofs.Halves.{few_sectors}
use Rattle.vx_moments.specs.World.{World, Device, Volume, Member, Group}
use Rattle.vx_moments.specs.Moment.{Moment, HasFailed}
use Rattle.vx_moments.specs.Holding.{IsLent, IsHeld}
use Rattle.vx_moments.specs.Leaving.{group_gone}
use Rattle.vx_moments.specs.Copies.{label_of, IsCurrent}
use Rattle.vx_moments.specs.Commit.{Writing, parties, is_written_slot, DeviceGoes, MemberGoes, JoinerGoes, IsNoDeviceOf, NoneFailed, IsCarrying, IsHeaded, IsCommitted}
use Rattle.vx_stages.specs.Finding.{Candidate, IsCandidate, is_recorded}
use Rattle.vx_laws.specs.Returning.{SlotsRise, HasJustDisks, HasSamePublic, IsKeptOn, IsDeviceOf, nobody, IsOutdated, IsLeftOn, IsLeftBehind}
use Rattle.vx_laws.proofs.ListFacts.{either, both_ways, all_all, all_pass, all_append, all_front, all_behind}
use Rattle.vx_moments.proofs.Lone.{lent_was}
use Rattle.vx_moments.proofs.Lone.{lent_still}

-- ---- names of devices

-- one of the members lies on the device, or none does
pub on_or_off : (name : Word) (ms : List Member) → IsDeviceOf ms name ⊎ IsNoDeviceOf ms name
on_or_off name [] = inr (λ any. any)
on_or_off name (m ∷ ms) = by (bytes_eq m.device name) refl (on_or_off name ms)
  where
    by : (b : Bool) → bytes_eq m.device name ≡ b → IsDeviceOf ms name ⊎ IsNoDeviceOf ms name → IsDeviceOf (m ∷ ms) name ⊎ IsNoDeviceOf (m ∷ ms) name
    by true is rest = inl (inl (bytes_eq_same m.device name is))
    by false is (inl rest) = inl (inr rest)
    by false is (inr none) = inr (λ any. either (λ here. both_ways (bytes_eq m.device name) (subst (λ (x : Word). bytes_eq x name ≡ true) (sym here) (bytes_eq_self name)) is) none any)

same_lent : (a b : World) (name : Word) → b.volumes ≡ a.volumes → IsLent b name → IsLent a name
same_lent a b name same (vol, v, is, has) = (vol, v, ap (λ (f : Word → Option Volume). f vol) (sym same) ∙ is, has)

-- where the group has gone, only started volumes hold devices
pub just_lent : (w : World) (name : Word) → IsHeld (group_gone w) name → IsLent w name
just_lent w name (inl lent) = lent_was w name lent
just_lent w name (inr none) = absurd none

-- a free device whose header names a group is one in a world where it is free and as it was
pub same_candidate : (group : Word) (a b : World) (d : Candidate) → (IsHeld b d.name → ⊥) → b.devices d.name ≡ a.devices d.name → IsCandidate group nobody a d → IsCandidate group nobody b d
same_candidate group a b d free same is = record { free = free; device_is = same ∙ is.device_is; present = refl; header = is.header; group_is = is.group_is; size = is.size }

pub one_device : (o : Option Device) (d e : Device) → o ≡ Some d → o ≡ Some e → d ≡ e
one_device o d e f h = cc

-- ---- sectors that a commit leaves alone

-- a text fills no more than a half
filled_few : (text : List ℕ) → length text ≤ 522240 → blocks_in (filled text) ≤ 1020
unfolding zeros
filled_few text short =
    let more = 512 * sectors_for (length text) - length text in
    let long = length-append text (replicate more 0) in
    let fill = length-replicate {A = ℕ} more 0 in
    let few = few_sectors (length text) short in
    omega (arith, long, fill, few, short)

front_stays : (text : List ℕ) (c d : Contents) → OldOrText text c d → d 0 ≡ c 0
front_stays text c d only =
    either (λ e. e)
    (λ e. e ∙ written_out (half_start 1) (filled text) (written (half_start 0) (filled text) c) 0 (is_in-before (half_start 1) (blocks_in (filled text)) 0 (omega arith))
    ∙ written_out (half_start 0) (filled text) c 0 (is_in-before (half_start 0) (blocks_in (filled text)) 0 (omega arith)))
    (only 0 (λ e. absurd (omega (arith, e))))

public_stays : (text : List ℕ) (c d : Contents) → length text ≤ 522240 → OldOrText text c d → (k : ℕ) → 2048 ≤ k → d k ≡ c k
public_stays text c d short only k far =
    let few = filled_few text short in
    either (λ e. e)
    (λ e. e ∙ written_out (half_start 1) (filled text) (written (half_start 0) (filled text) c) k (is_in-after (half_start 1) (blocks_in (filled text)) k (omega (arith, few, far)))
    ∙ written_out (half_start 0) (filled text) c k (is_in-after (half_start 0) (blocks_in (filled text)) k (omega (arith, few, far))))
    (only k (λ e. absurd (omega (arith, e, far))))

-- ---- what is written, member by member

found_as : (P : Device → Type 0) (o : Option Device) (d : Device) → o ≡ Some d → MatchOption o ⊥ P → P d
found_as P o d is h = let Q : Option Device → Type 0 = λ x. MatchOption x ⊥ P in subst Q is h

-- it goes so, too
goes_so : {R S : Device → Device → Type 0} (name : Word) (old new : World) (g : DeviceGoes R name old new) → S g.before g.after → DeviceGoes S name old new
goes_so name old new g goes = record { before = g.before; after = g.after; was = g.was; is = g.is; sectors = g.sectors; goes = goes }

-- the member's device has its header, and offers the text
abbrev IsWritten : Writing → ℕ → ℕ → World → World → Member → Type 0
IsWritten x last good old new m = DeviceGoes (λ d e. (header_of (e.contents 0) ≡ Some (label_of x.config.group m e)) × IsCurrent last good x.text e.contents) m.device old new

-- the device of the member has its header
abbrev pub HasItsHeader : Writing → World → Member → Type 0
HasItsHeader x w m = (d : Device) → w.devices m.device ≡ Some d → header_of (d.contents 0) ≡ Some (label_of x.config.group m d)

module _ (x : Writing) (last good : ℕ) (old new : Moment) where
  written_by : {R : Device → Device → Type 0} (m : Member) → has good m.slot ≡ true → IsCarrying x last good new.world m → (g : DeviceGoes R m.device old.world new.world) → header_of (g.after.contents 0) ≡ Some (label_of x.config.group m g.after) → IsWritten x last good old.world new.world m
  written_by m is carrying g header = goes_so m.device old.world new.world g (header, found_as (λ d. IsCurrent last good x.text d.contents) (new.world.devices m.device) g.after g.is (carrying is))

  members_written : (ms : List Member) → AllOf (λ m. has x.group.good m.slot ≡ true) ms → AllOf (HasItsHeader x old.world) ms → AllOf (MemberGoes x last old new) ms → AllOf (λ m. has good m.slot ≡ true) ms → AllOf (IsCarrying x last good new.world) ms → AllOf (IsWritten x last good old.world new.world) ms
  members_written [] was headed goes is carrying = tt
  members_written (m ∷ ms) was headed goes is carrying =
      let g = goes.0.good was.0 in
      let header = ap header_of (front_stays x.text g.before.contents g.after.contents g.goes.only) ∙ headed.0 g.before g.was
      ∙ ap (λ (n : ℕ). Some (record { group = x.config.group; disk = m.disk; slot = m.slot; sectors = n })) (sym g.sectors) in
      (written_by m is.0 carrying.0 g header, members_written ms was.1 headed.1 goes.1 is.1 carrying.1)

  joiners_written : (ms : List Member) → AllOf (IsHeaded x good new.world) ms → AllOf (JoinerGoes x last old new) ms → AllOf (λ m. has good m.slot ≡ true) ms → AllOf (IsCarrying x last good new.world) ms → AllOf (IsWritten x last good old.world new.world) ms
  joiners_written [] headed goes is carrying = tt
  joiners_written (m ∷ ms) headed goes is carrying =
      let header = found_as (λ d. header_of (d.contents 0) ≡ Some (label_of x.config.group m d)) (new.world.devices m.device) goes.0.after goes.0.is (headed.0 is.0) in
      (written_by m is.0 carrying.0 goes.0 header, joiners_written ms headed.1 goes.1 is.1 carrying.1)

  -- the public sectors of the members' devices stay
  pub public_kept : (ms : List Member) → length x.text ≤ 522240 → AllOf (λ m. has x.group.good m.slot ≡ true) ms → AllOf (MemberGoes x last old new) ms → AllOf (λ m. DeviceGoes HasSamePublic m.device old.world new.world) ms
  public_kept [] short was goes = tt
  public_kept (m ∷ ms) short was goes =
      let g = goes.0.good was.0 in
      (goes_so m.device old.world new.world g (λ k far. public_stays x.text g.before.contents g.after.contents short g.goes.only k far), public_kept ms short was.1 goes.1)

-- ---- the group

-- no started volume has the device of the member, and the configuration that is written records it
abbrev pub IsRecorded : Writing → World → Member → Type 0
IsRecorded x w m = (IsLent w m.device → ⊥) × ((d : Device) → w.devices m.device ≡ Some d → is_recorded x.config (label_of x.config.group m d) ≡ true)

-- What is to be written can be found again: each of these disks is written, some, with slots that rise and are all that
-- are written; each is free and recorded; the group's members are good and have their headers.
pub record IsReady (x : Writing) (is_written : ℕ → Bool) (members all : List Member) (w : World) : Type 0 where
  pub some : all ≢ []
  pub written : AllOf (λ m. is_written m.slot ≡ true) all
  pub rising : SlotsRise all
  pub placed : (slot : ℕ) → is_written slot ≡ true → AnyOf (λ m. m.slot ≡ slot) all
  pub just_disks : HasJustDisks x.config
  pub recorded : AllOf (IsRecorded x w) all
  pub good : AllOf (λ m. has x.group.good m.slot ≡ true) members
  pub headed : AllOf (HasItsHeader x w) members

-- the group's members and those that join can be found again
abbrev pub CanBeWritten : Writing → World → Type 0
CanBeWritten x w = IsReady x (is_written_slot x) x.group.members (parties x) w

pub can_be : (x : Writing) (is_written : ℕ → Bool) (members all : List Member) (w : World) → ((slot : ℕ) → is_written_slot x slot ≡ is_written slot) → x.group.members ≡ members → parties x ≡ all → IsReady x is_written members all w → CanBeWritten x w
can_be x is_written members all w slots ours theirs ready =
    subst (λ (f : ℕ → Bool). IsReady x f x.group.members (parties x) w) (sym (λ i slot. slots slot i))
    (subst (λ (ms : List Member). IsReady x is_written ms (parties x) w) (sym ours)
    (subst (λ (ms : List Member). IsReady x is_written members ms w) (sym theirs) ready))

-- a member on whose device a group of the same name is kept
pub kept_as : (g : Group) (text : List ℕ) (w : World) (x : Writing) (m : Member) → x.config.group ≡ g.config.group → ((l : Label) → is_recorded g.config l ≡ true → is_recorded x.config l ≡ true) → IsKeptOn g text w m → HasItsHeader x w m × IsRecorded x w m
kept_as g text w x m own still k =
    let P : (Device → Word → Type 0) → Type 0 = λ Q. (d : Device) → w.devices m.device ≡ Some d → Q d x.config.group in
    let at : (Q : Device → Word → Type 0) → Q k.device g.config.group → P Q = λ Q h d is. subst (Q d) (sym own) (subst (λ (e : Device). Q e g.config.group) (one_device (w.devices m.device) k.device d k.device_is is) h) in (
      at (λ d name. header_of (d.contents 0) ≡ Some (label_of name m d)) k.header,
      (λ lent. k.free (inl lent), at (λ d name. is_recorded x.config (label_of name m d) ≡ true) (still (label_of g.config.group m k.device) k.recorded)),
    )

kept_good : (b : Bool) → (b ≡ false → ⊥) → b ≡ true
kept_good true never = refl
kept_good false never = absurd (never refl)

module _ (x : Writing) (old new : Moment) (ready : CanBeWritten x old.world) (c : IsCommitted x old new) (none : NoneFailed old.counts new.counts) where
  -- the group as it goes on
  abbrev pub group_now : Group
  group_now = record { config = x.config; good = c.good; members = parties x; sequence = c.last }

  pub all_good : AllOf (λ m. has c.good m.slot ≡ true) (parties x)
  all_good =
      all_all (λ m. is_written_slot x m.slot ≡ true) (λ m. is_written_slot x m.slot ≡ true → has c.good m.slot ≡ false → HasFailed old.counts new.counts m.device) (λ m. has c.good m.slot ≡ true) (parties x)
      (λ m is lacks. kept_good (has c.good m.slot) (λ off. none m.device (lacks is off))) ready.written c.mask.lacks

  pub one_more : c.last ≡ x.group.sequence + 1
  one_more = let once = c.committing.once none in let rose = c.rose in omega (arith, once, rose)

  each_written : AllOf (IsWritten x c.last c.good old.world new.world) (parties x)
  each_written =
      let Front : (P : Member → Type 0) → AllOf P (parties x) → AllOf P x.group.members = λ P all. all_front P x.group.members x.joiners all in
      let Behind : (P : Member → Type 0) → AllOf P (parties x) → AllOf P x.joiners = λ P all. all_behind P x.group.members x.joiners all in
      all_append (IsWritten x c.last c.good old.world new.world) x.group.members x.joiners
      (members_written x c.last c.good old new x.group.members ready.good ready.headed c.committing.members (Front (λ m. has c.good m.slot ≡ true) all_good) (Front (IsCarrying x c.last c.good new.world) c.carrying))
      (joiners_written x c.last c.good old new x.joiners c.headed c.committing.joiners (Behind (λ m. has c.good m.slot ≡ true) all_good) (Behind (IsCarrying x c.last c.good new.world) c.carrying))

  kept_on : (m : Member) → IsWritten x c.last c.good old.world new.world m → IsRecorded x old.world m → IsKeptOn group_now x.text (group_gone new.world) m
  kept_on m w r = record {
    device = w.after;
    device_is = w.is;
    free = λ held. r.0 (same_lent old.world new.world m.device c.committing.volumes (just_lent new.world m.device held));
    header = w.goes.0;
    recorded = ap (λ (n : ℕ). is_recorded x.config (record { group = x.config.group; disk = m.disk; slot = m.slot; sectors = n })) w.sectors ∙ r.1 w.before w.was;
    current = w.goes.1;
  }

  -- a free device whose header names the group is that of a member, or it was so before
  pub each_other : {Other : Candidate → Type 0} → ((d : Candidate) → IsCandidate x.config.group nobody (group_gone old.world) d → IsNoDeviceOf (parties x) d.name → Other d) → (d : Candidate) → IsCandidate x.config.group nobody (group_gone new.world) d → IsDeviceOf (parties x) d.name ⊎ Other d
  each_other {Other = Other} rest d is = either (λ (any : IsDeviceOf (parties x) d.name). inl any) (λ (off : IsNoDeviceOf (parties x) d.name). inr (rest d (was off) off)) (on_or_off d.name (parties x))
    where
      was : IsNoDeviceOf (parties x) d.name → IsCandidate x.config.group nobody (group_gone old.world) d
      was off =
          same_candidate x.config.group (group_gone new.world) (group_gone old.world) d (λ held. is.free (inl (lent_still new.world d.name (same_lent new.world old.world d.name (sym c.committing.volumes) (just_lent old.world d.name held)))))
          (sym (c.committing.others d.name off)) is

  -- once the group is let go it is left behind, if each other device whose header names it is outdated
  pub left_behind : ((d : Candidate) → IsCandidate x.config.group nobody (group_gone old.world) d → IsNoDeviceOf (parties x) d.name → IsOutdated group_now d) → IsLeftBehind group_now (group_gone new.world)
  left_behind rest =
      subst (λ (ms : List Member). IsLeftOn group_now ms (group_gone new.world)) (sym (all_pass (λ m. has c.good m.slot) (parties x) all_good))
      (record {
        no_group = refl;
        some = ready.some;
        rising = ready.rising;
        placed = λ slot is. ready.placed slot (c.mask.few slot is);
        just_disks = ready.just_disks;
        text = x.text;
        text_is = c.committing.text_is;
        kept = all_all (IsWritten x c.last c.good old.world new.world) (IsRecorded x old.world) (IsKeptOn group_now x.text (group_gone new.world)) (parties x) (λ m w r. kept_on m w r) each_written ready.recorded;
        others = each_other rest;
      })
