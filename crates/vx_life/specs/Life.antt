-- A life of a volume, from its start to its stop, loss or joining.
use Rattle.std.specs.Prelude.{◌≡◌, ℕ, ◌+◌, ◌==◌, if◌then◌else◌, List, [], ◌∷◌}
use Rattle.vx_base.specs.Blocks.{Contents}
use Rattle.vx_life.specs.Candidates.{Candidates, known}
use Rattle.vx_life.specs.Entry.{Entry, candidates_after, ReadsAmong}

pub record Life : Type 0 where
  -- what each block may hold now
  pub candidates : Candidates
  pub epoch : ℕ
  -- the last number of each region
  pub last : ℕ → ℕ
  -- all entries of this life, the newest first
  pub entries : List Entry

-- a life over these candidates begins
abbrev pub begun_from : Candidates → Life
begun_from candidates = record { candidates = candidates; epoch = 0; last = λ _. 0; entries = [] }

-- a life over known contents begins
abbrev pub begun : Contents → Life
begun contents = begun_from (known contents)

-- the entry may come next: its epoch is the life's, its number follows the last of its region, and what it reads is there
pub record IsNext (life : Life) (e : Entry) : Type 0 where
  pub epoch : e.part.epoch ≡ life.epoch
  pub number : e.part.number ≡ life.last e.part.region + 1
  pub reads : ReadsAmong e.kind life.candidates e

abbrev pub life_after : Entry → Life → Life
life_after e life =
    record life {
      candidates = candidates_after e life.candidates;
      last = λ r. if r == e.part.region then e.part.number else life.last r;
      entries = e ∷ life.entries;
    }

-- the life goes on by these entries, one after the other
abbrev pub GoesOn : Life → List Entry → Life → Type 0
GoesOn old [] new = new ≡ old
GoesOn old (e ∷ es) new = IsNext old e × GoesOn (life_after e old) es new
