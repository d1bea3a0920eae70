-- What a call does to the running volumes of the imported group, and to a house.
use Rattle.std.specs.Prelude.{◌≡◌, ◌+◌, ◌≤◌, ℕ, ◌==◌, Bool, nat_lt, MatchBool, Option, Some, None, List}
use Rattle.std.specs.BTreeMap.{BTreeMap, is_at, get}
use Rattle.std.specs.Cmp.Lexicographic.{slice_cmp}
use Rattle.std.specs.Map.{set_value}
use Rattle.std.specs.Ordering.{nat_cmp}
use Rattle.vx_base.specs.Named.{Word, put, SameUnder}
use Rattle.vx_piece.specs.Seen.{Seen, Keeps}
use Rattle.vx_runs.specs.Run.{EachPiece}
use Rattle.vx_pages.specs.declared.local_piece.LocalPiece.{Ghosts}
use Rattle.vx_copies.specs.Lists.{AnyOf}
use Rattle.vx_copies.specs.declared.disk.Disk.{Disk}
use Rattle.vx_script_forms.specs.declared.call.Call.{Call}
use Rattle.vx_answers.specs.declared.answer.End.{End}
use Rattle.vx_answers.specs.declared.answer.End.TheVariants as ends
use Rattle.vx_answers.specs.declared.refusal.Refusal.TheVariants.{NotStarted, Range}
use Rattle.vx_stages.specs.Calls.{count_of, start_of, volume_of}
use Rattle.vx_volume.specs.Log.{LogGoes}
use Rattle.vx_volume.specs.Volume.{IsVolume, log_of, shape_of, volume_seen}
use Rattle.vx_lending.specs.Going.{GoTogether}
use Rattle.vx_lending.specs.Left.{held_pieces}
use Rattle.vx_volume_laws.specs.Lying.{LiesIn}
use Rattle.vx_lending.specs.Public.{running_at}
use Rattle.vx_lending.specs.declared.public.Running.{Running}
use Rattle.vx_group_calls.specs.Causes.{AreCutWhereDead, FailuresAreCounted, ServedHasCause}
use Rattle.vx_group_calls.specs.Serving.{ServesCall}
use Rattle.vx_group_calls.specs.declared.served.Served.{Served}
use Rattle.vx_group_calls.specs.declared.served.Served.TheVariants as served
use Rattle.vx_started.specs.declared.started.Started.{Started}
use Rattle.vx_house.specs.Holders.{volume_at}
use Rattle.vx_house.specs.declared.house.House.{House}
use Rattle.vx_house.specs.declared.house.Imported.{Imported}
use Rattle.vx_run.specs.Calling.{ServesAmong}

-- ---- names of a fault

-- the disk is on the device of this number
abbrev pub HasNumber : {P : Type 0} → (P → Seen) → ℕ → Disk P → Type 0
HasNumber see number d = (see d.piece).device ≡ number

abbrev pub is_on : {P : Type 0} → (P → Seen) → ℕ → Disk P → Bool
is_on see number d = (see d.piece).device == number

-- these are its name and that of the device
abbrev pub IsNamed : {P : Type 0} → (P → Seen) → ℕ → Word → Word → Disk P → Type 0
IsNamed see number told device d = HasNumber see number d × (d.name ≡ told) × (d.device ≡ device)

-- the device that failed is that of one of the disks
abbrev pub NamesFault : {P : Type 0} → (P → Seen) → List (Disk P) → Served → Type 0
NamesFault see disks (served.Done parts blocks) = Unit {0}
NamesFault see disks (served.Fault number parts) = AnyOf (HasNumber see number) disks
NamesFault see disks (served.Lost parts) = Unit {0}

-- the end tells the same, with the names of the device that failed and of the disk on it
abbrev pub IsToldAs : {P : Type 0} → (P → Seen) → List (Disk P) → Served → End → Type 0
IsToldAs see disks (served.Done parts blocks) end = end ≡ ends.Done None parts blocks
IsToldAs see disks (served.Fault number parts) end = (told : Word) × (device : Word) × (end ≡ ends.Fault told device parts) × AnyOf (IsNamed see number told device) disks
IsToldAs see disks (served.Lost parts) end = end ≡ ends.Lost parts

-- ---- running volumes

-- what runs under the name is a volume, and the call keeps to its blocks
abbrev pub MayRunCall : {P : Type 0} {ghosts : Ghosts P} → (P → Seen) → Call → Option (Running P ghosts) → Type 0
MayRunCall see call None = ⊥
MayRunCall see call (Some r) = IsVolume (volume_seen see r.volume) × (start_of call + count_of call ≤ (volume_seen see r.volume).length)

-- The running volume of the name has been called: it is another, in its place, and all others are as they were.
pub record RunsCall {P : Type 0} {ghosts : Ghosts P} (see : P → Seen) (call : Call) (name : Word) (answer : Served) (old new : BTreeMap Word (Running P ghosts)) : Type 0 where
  pub before : Running P ghosts
  pub after : Running P ghosts
  pub was : get (slice_cmp nat_cmp) old name ≡ Some before
  pub entries : new.entries ≡ set_value (is_at (slice_cmp nat_cmp name)) old.entries after
  pub puts : SameUnder (put name (Some after) (get (slice_cmp nat_cmp) old)) (get (slice_cmp nat_cmp) new)
  pub serves : ServesCall see call answer before after
  pub whole : IsVolume (volume_seen see after.volume)
  pub form : after.form ≡ before.form
  pub shape : shape_of after.volume ≡ shape_of before.volume
  pub stays : EachPiece Keeps (held_pieces see before.volume) (held_pieces see after.volume)
  pub goes : GoTogether (held_pieces see before.volume) (held_pieces see after.volume)
  pub follows : LogGoes see (log_of before.volume) (log_of after.volume)
  pub cause : ServedHasCause see answer before.volume after.volume
  pub counted : FailuresAreCounted see before.volume after.volume
  pub dead : AreCutWhereDead (volume_seen see before.volume) → AreCutWhereDead (volume_seen see after.volume)
  pub lies : (numbers : List ℕ) → LiesIn see numbers before.form before.volume → LiesIn see numbers after.form after.volume

-- a group in which a running volume has been called, which answered so
pub record IsServedIn {P : Type 0} {ghosts : Ghosts P} (see : P → Seen) (call : Call) (end : End) (old new : Imported P ghosts) : Type 0 where
  pub answer : Served
  pub runs : RunsCall see call (volume_of call) answer old.public.running new.public.running
  pub same : new ≡ record old { public = record old.public { running = new.public.running } }
  pub told : IsToldAs see old.base.disks.items answer end

-- each test in its order, where this runs under the name
abbrev pub ServesInGroup : {P : Type 0} {ghosts : Ghosts P} → (P → Seen) → Call → Option (Running P ghosts) → Imported P ghosts → Imported P ghosts → End → Type 0
ServesInGroup see call None old new end = (end ≡ ends.Refused (NotStarted (volume_of call))) × (new ≡ old)
ServesInGroup see call (Some r) old new end =
    MatchBool (nat_lt (volume_seen see r.volume).length (start_of call + count_of call))
    ((end ≡ ends.Refused Range) × (new ≡ old))
    (IsServedIn see call end old new)

-- the group is as it was
pub record IsSameGroup {P : Type 0} {ghosts : Ghosts P} (old new : Imported P ghosts) : Type 0 where
  pub same : new ≡ record old { public = record old.public { running = new.public.running } }
  pub entries : new.public.running.entries ≡ old.public.running.entries

-- ---- a house

abbrev pub IsSameIfThere : {P : Type 0} {ghosts : Ghosts P} → Option (Imported P ghosts) → Option (Imported P ghosts) → Type 0
IsSameIfThere None None = Unit {0}
IsSameIfThere None (Some n) = ⊥
IsSameIfThere (Some o) None = ⊥
IsSameIfThere (Some o) (Some n) = IsSameGroup o n

-- the house is as it was
pub record IsSameHouse {P : Type 0} {ghosts : Ghosts P} (old new : House P ghosts) : Type 0 where
  pub volumes : new.volumes.entries ≡ old.volumes.entries
  pub group : IsSameIfThere old.group new.group
  pub hand : new.hand ≡ old.hand

-- the group has been called
pub record CallsGroup {P : Type 0} {ghosts : Ghosts P} (see : P → Seen) (call : Call) (end : End) (g : Imported P ghosts) (old new : House P ghosts) : Type 0 where
  pub group : Imported P ghosts
  pub now : new ≡ record old { group = Some group }
  pub serves : ServesInGroup see call (running_at g.public (volume_of call)) g group end

abbrev pub ServesGroup : {P : Type 0} {ghosts : Ghosts P} → (P → Seen) → Call → Option (Imported P ghosts) → House P ghosts → House P ghosts → End → Type 0
ServesGroup see call None old new end = (end ≡ ends.Refused (NotStarted (volume_of call))) × (new ≡ old)
ServesGroup see call (Some g) old new end = CallsGroup see call end g old new

-- one of the volumes on whole devices has been called
pub record CallsVolumes {P : Type 0} {ghosts : Ghosts P} (see : P → Seen) (call : Call) (end : End) (b : Started P) (old new : House P ghosts) : Type 0 where
  pub volumes : BTreeMap Word (Started P)
  pub now : new ≡ record old { volumes = volumes }
  pub serves : ServesAmong see call (Some b) old.volumes volumes end

-- by what is started under the name: on a whole device, or else in the group
abbrev pub ServesBy : {P : Type 0} {ghosts : Ghosts P} → (P → Seen) → Call → Option (Started P) → House P ghosts → House P ghosts → End → Type 0
ServesBy see call (Some b) old new end = CallsVolumes see call end b old new
ServesBy see call None old new end = ServesGroup see call old.group old new end

abbrev pub ServesAny : {P : Type 0} {ghosts : Ghosts P} → (P → Seen) → Call → House P ghosts → House P ghosts → End → Type 0
ServesAny see call old new end = ServesBy see call (volume_at old (volume_of call)) old new end
