-- The calls on one region, and the order of their entries.
use Rattle.std.specs.Prelude.{◌≡◌, ℕ, ◌+◌, ◌-◌, ◌<◌, ◌≤◌, List, [], ◌∷◌, if◌then◌else◌}
use Rattle.vx_base.specs.Blocks.{Contents, is_in}
use Rattle.vx_life.specs.declared.Part.{Part}
use Rattle.vx_life.specs.declared.EntryKind.{EntryKind}
use Rattle.vx_life.specs.declared.EntryKind.TheVariants.{Torn, Missed}
use Rattle.vx_life.specs.Candidates.{Candidates}
use Rattle.vx_life.specs.Entry.{Entry, IsHistory}

-- a call on the region: whose it is, the number that it drew, and its blocks, as the volume counts them
pub record Call : Type 0 where
  pub session : ℕ
  pub place : ℕ
  pub part : Part
  pub start : ℕ
  pub count : ℕ

-- the call that was begun and has not ended
pub data Pending : Type 0 where
  NoCall : Pending
  Reads : (call : Call) → Pending
  Writes : (call : Call) (values : Contents) → Pending

-- the entry of a call that ended so, with these values
abbrev pub entry_of : EntryKind → Call → Contents → Entry
entry_of kind call values =
    record { session = call.session; place = call.place; part = call.part; kind = kind; start = call.start; count = call.count; values = values }

abbrev pub no_values : Contents
no_values k = []

-- the entries, with the pending call as if it ended now: a write is torn, and a read is missed
abbrev pub with_pending : Pending → List Entry → List Entry
with_pending NoCall entries = entries
with_pending (Reads call) entries = entry_of Missed call no_values ∷ entries
with_pending (Writes call values) entries = entry_of Torn call values ∷ entries

-- the blocks with the pending write over them
abbrev pub overlaid : Pending → Contents → Contents
overlaid (Writes call values) old i = if is_in call.start call.count i then values i else old i
overlaid (Reads call) old i = old i
overlaid NoCall old i = old i

-- ---- order

-- a fact of each of the entries
abbrev pub AllOf : (Entry → Type 0) → List Entry → Type 0
AllOf fact [] = Unit {0}
AllOf fact (e ∷ es) = fact e × AllOf fact es

-- the entry may stand before a call of this session, place and epoch: epochs never fall, and a session's places rise
abbrev pub MayPrecede : (session place epoch : ℕ) → Entry → Type 0
MayPrecede session place epoch e = (e.part.epoch ≤ epoch) × (e.session ≡ session → e.place < place)

-- the entries, the newest first, are of the region and have the numbers above `from` up to `last`, each once and in order
abbrev pub AreCounted : (region from : ℕ) → List Entry → (last : ℕ) → Type 0
AreCounted region from [] last = last ≡ from
AreCounted region from (e ∷ es) last = (e.part.region ≡ region) × (e.part.number ≡ last) × (from < last) × AreCounted region from es (last - 1)

-- each entry may come after those before it
abbrev pub AreOrdered : List Entry → Type 0
AreOrdered [] = Unit {0}
AreOrdered (e ∷ es) = AllOf (MayPrecede e.session e.place e.part.epoch) es × AreOrdered es

-- the entries, the newest first, are a legal history of the region's blocks, in the order of their numbers
pub record IsRecord (region from : ℕ) (first : Candidates) (entries : List Entry) (last : ℕ) : Type 0 where
  pub legal : IsHistory first entries
  pub counted : AreCounted region from entries last
  pub ordered : AreOrdered entries

-- the call may be begun: it has the region's next number, and its session and epoch come in order
pub record IsNextCall (region last : ℕ) (entries : List Entry) (call : Call) : Type 0 where
  pub here : call.part.region ≡ region
  pub number : call.part.number ≡ last + 1
  pub order : AllOf (MayPrecede call.session call.place call.part.epoch) entries

abbrev pub MayBegin : (region last : ℕ) → List Entry → Pending → Type 0
MayBegin region last entries NoCall = Unit {0}
MayBegin region last entries (Reads call) = IsNextCall region last entries call
MayBegin region last entries (Writes call values) = IsNextCall region last entries call

-- the number that was drawn last, once the call has been begun
abbrev pub number_after : Pending → ℕ → ℕ
number_after NoCall last = last
number_after (Reads call) last = call.part.number
number_after (Writes call values) last = call.part.number
