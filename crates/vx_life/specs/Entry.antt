-- An entry of a history: one part of a call, with what was read or written there.
use Rattle.std.specs.Prelude.{ℕ, IsTrue, if◌then◌else◌, List, [], ◌∷◌}
use Rattle.vx_base.specs.Blocks.{Contents, is_in}
use Rattle.vx_life.specs.declared.Part.{Part}
use Rattle.vx_life.specs.declared.EntryKind.{EntryKind}
use Rattle.vx_life.specs.declared.EntryKind.TheVariants.{Read, Write, Torn, Missed}
use Rattle.vx_life.specs.Candidates.{Values, OneOf, IsAmong, or_also, Candidates}

pub record Entry : Type 0 where
  -- the session that made the call; 0 outside blocks
  pub session : ℕ
  -- the index of its line in the block, or of its command in the script
  pub place : ℕ
  pub part : Part
  pub kind : EntryKind
  -- the range, as the volume counts its blocks
  pub start : ℕ
  pub count : ℕ
  -- the value at each block of the range
  pub values : Contents

-- a block's values after a part that reads or writes this value there
abbrev pub values_after : EntryKind → List ℕ → Values → Values
values_after Read value old = OneOf (value ∷ [])
values_after Write value old = OneOf (value ∷ [])
values_after Torn value old = or_also value old
values_after Missed value old = old

-- the candidates after an entry, which speaks of the blocks of its range alone
abbrev pub candidates_after : Entry → Candidates → Candidates
candidates_after e old k = if is_in e.start e.count k then values_after e.kind (e.values k) (old k) else old k

-- each value that is read is among the block's candidates
abbrev pub ReadsAmong : EntryKind → Candidates → Entry → Type 0
ReadsAmong Read old e = (k : ℕ) → IsTrue (is_in e.start e.count k) → IsAmong (old k) (e.values k)
ReadsAmong Write old e = Unit {0}
ReadsAmong Torn old e = Unit {0}
ReadsAmong Missed old e = Unit {0}

-- the entries, the oldest first, are a legal history of the blocks
abbrev pub IsLegal : Candidates → List Entry → Type 0
IsLegal old [] = Unit {0}
IsLegal old (e ∷ es) = ReadsAmong e.kind old e × IsLegal (candidates_after e old) es

-- the candidates after these entries, the newest first
abbrev pub candidates_of : Candidates → List Entry → Candidates
candidates_of first [] = first
candidates_of first (e ∷ es) = candidates_after e (candidates_of first es)

-- the same history, told with the newest entry first
abbrev pub IsHistory : Candidates → List Entry → Type 0
IsHistory first [] = Unit {0}
IsHistory first (e ∷ es) = ReadsAmong e.kind (candidates_of first es) e × IsHistory first es
