-- `read` and `write` of a volume. On a bare one a call is one device call for each of its parts, as its blocks lie one behind
-- the other on one device.
use Rattle.std.specs.Prelude.{◌≡◌, ◌≢◌, ℕ, ◌+◌, ◌-◌, ◌*◌, ◌/◌, ◌≤◌, true, Some, None, List, [], ◌∷◌, length, map, replicate}
use Rattle.vx_base.specs.Blocks.{Contents, block_at, is_in}
use Rattle.vx_base.specs.Named.{Word, put}
use Rattle.vx_block.specs.Regions.{part_at}
use Rattle.vx_life.specs.declared.EntryKind.{EntryKind}
use Rattle.vx_life.specs.declared.EntryKind.TheVariants as kinds
use Rattle.vx_life.specs.Entry.{Entry}
use Rattle.vx_life.specs.Life.{Life, GoesOn}
use Rattle.vx_script_forms.specs.declared.call.Call.{Call}
use Rattle.vx_script_forms.specs.declared.call.Call.TheVariants as calls
use Rattle.vx_answers.specs.declared.answer.End.{End}
use Rattle.vx_answers.specs.declared.answer.End.TheVariants as ends
use Rattle.vx_moments.specs.World.{Volume, Lies, OnDevice, OnPlexes}
use Rattle.vx_moments.specs.Moment.{Moment, Counts, HasFailed, IsQuiet}

abbrev pub volume_of : Call → Word
volume_of (calls.Read vol start count) = vol
volume_of (calls.Fill vol start count byte) = vol
volume_of (calls.Data vol start blocks) = vol

abbrev pub start_of : Call → ℕ
start_of (calls.Read vol start count) = start
start_of (calls.Fill vol start count byte) = start
start_of (calls.Data vol start blocks) = start

abbrev pub count_of : Call → ℕ
count_of (calls.Read vol start count) = count
count_of (calls.Fill vol start count byte) = count
count_of (calls.Data vol start blocks) = length blocks / 512

-- what the call reads, by the bytes that are printed, or writes
abbrev pub values_of : Call → List ℕ → Contents
values_of (calls.Read vol start count) printed k = block_at printed (k - start)
values_of (calls.Fill vol start count byte) printed k = replicate 512 byte
values_of (calls.Data vol start blocks) printed k = block_at blocks (k - start)

-- the kind of its entries once it is done
abbrev pub done_kind : Call → EntryKind
done_kind (calls.Read vol start count) = kinds.Read
done_kind (calls.Fill vol start count byte) = kinds.Write
done_kind (calls.Data vol start blocks) = kinds.Write

-- their kind where it failed: a write is torn, and a read missed
abbrev pub failed_kind : Call → EntryKind
failed_kind (calls.Read vol start count) = kinds.Missed
failed_kind (calls.Fill vol start count byte) = kinds.Torn
failed_kind (calls.Data vol start blocks) = kinds.Torn

-- a read prints its blocks, and a write none
abbrev pub printed_length : Call → ℕ
printed_length (calls.Read vol start count) = 512 * count
printed_length (calls.Fill vol start count byte) = 0
printed_length (calls.Data vol start blocks) = 0

-- the entry is of the part of this range with this index
pub record IsPart (size start count index : ℕ) (e : Entry) : Type 0 where
  pub region : e.part.region ≡ start / size + index
  pub range : part_at size start count index ≡ Some (record { start = e.start; count = e.count })

-- the entries are of the parts from this index on, in order
abbrev pub AreParts : ℕ → ℕ → ℕ → ℕ → List Entry → Type 0
AreParts size start count index [] = Unit {0}
AreParts size start count index (e ∷ es) = IsPart size start count index e × AreParts size start count (index + 1) es

-- the entry is of the command at this place, outside blocks, and has this kind and these values
pub record IsOf (place : ℕ) (kind : EntryKind) (values : Contents) (e : Entry) : Type 0 where
  pub session : e.session ≡ 0
  pub place_is : e.place ≡ place
  pub kind_is : e.kind ≡ kind
  pub values_are : (k : ℕ) → is_in e.start e.count k ≡ true → e.values k ≡ values k

abbrev pub AreOf : ℕ → EntryKind → Contents → List Entry → Type 0
AreOf place kind values [] = Unit {0}
AreOf place kind values (e ∷ es) = IsOf place kind values e × AreOf place kind values es

-- the entries of a call that is done: one for each part
pub record IsDoneBy (place : ℕ) (call : Call) (size : ℕ) (blocks : List ℕ) (es : List Entry) : Type 0 where
  pub each : AreOf place (done_kind call) (values_of call blocks) es
  pub all : part_at size (start_of call) (count_of call) (length es) ≡ None
  pub printed : length blocks ≡ printed_length call

-- the device that a bare volume lies on
abbrev pub LiesOn : Lies → Word → Type 0
LiesOn (OnDevice device) name = device ≡ name
LiesOn (OnPlexes plexes) name = ⊥

-- the answer tells of these entries, each of one part of the call
abbrev pub Tells : ℕ → Call → Volume → End → List Entry → Type 0
Tells place call v (ends.Done copied parts blocks) es = (copied ≡ None) × (map (λ e. e.part) es ≡ parts) × IsDoneBy place call v.region blocks es
Tells place call v (ends.Fault told device parts) es = (map (λ e. e.part) es ≡ parts) × AreOf place (failed_kind call) (values_of call []) es × (es ≢ []) × LiesOn v.lies device × (told ≡ device)
Tells place call v (ends.Lost parts) es = (map (λ e. e.part) es ≡ parts) × AreOf place (failed_kind call) (values_of call []) es
Tells place call v (ends.Refused refusal) es = ⊥
Tells place call v ends.ShelfFailed es = ⊥
Tells place call v ends.GroupLost es = ⊥

-- the answer tells of entries of the call's first parts, and by these the volume's life goes on
pub record Lives (place : ℕ) (call : Call) (v : Volume) (end : End) (life : Life) : Type 0 where
  pub entries : List Entry
  pub parts : AreParts v.region (start_of call) (count_of call) 0 entries
  pub told : Tells place call v end entries
  pub goes_on : GoesOn v.life entries life

-- a fault is told of the volume's device where it has failed, and a loss where its power is gone; else none failed
abbrev pub HasCause : Volume → Counts → Counts → End → Type 0
HasCause v old new (ends.Done copied parts blocks) = IsQuiet old new
HasCause v old new (ends.Fault told device parts) = HasFailed old new device
HasCause v old new (ends.Lost parts) = (device : Word) × LiesOn v.lies device × (new.cut device ≡ true)
HasCause v old new (ends.Refused refusal) = ⊥
HasCause v old new ends.ShelfFailed = ⊥
HasCause v old new ends.GroupLost = ⊥

-- how many sectors a call may hand to reads and to writes of its device
abbrev pub reads_of : Call → ℕ
reads_of (calls.Read vol start count) = count
reads_of (calls.Fill vol start count byte) = 0
reads_of (calls.Data vol start blocks) = 0

abbrev pub writes_of : Call → ℕ
writes_of (calls.Read vol start count) = 0
writes_of (calls.Fill vol start count byte) = count
writes_of (calls.Data vol start blocks) = length blocks / 512

-- each sector of the range is handed over at most once, and only on the volume's device
pub record CallsOnce (call : Call) (v : Volume) (old new : Counts) : Type 0 where
  pub reads : (name : Word) → LiesOn v.lies name → new.reads name ≤ old.reads name + reads_of call
  pub writes : (name : Word) → LiesOn v.lies name → new.writes name ≤ old.writes name + writes_of call
  pub others : (name : Word) → (LiesOn v.lies name → ⊥) → (new.reads name ≡ old.reads name) × (new.writes name ≡ old.writes name)

-- The call is served: the volume has lived on as the answer tells.
pub record IsServed (place : ℕ) (call : Call) (v : Volume) (old : Moment) (end : End) (new : Moment) : Type 0 where
  pub life : Life
  pub lives : Lives place call v end life
  pub world : new.world ≡ record old.world { volumes = put (volume_of call) (Some (record v { life = life })) old.world.volumes }
  pub cause : HasCause v old.counts new.counts end
  pub calls : CallsOnce call v old.counts new.counts
