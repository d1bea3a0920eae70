-- What it is to create the maps of a volume.
use Rattle.std.specs.Prelude.{◌≡◌, ℕ, ◌&&◌, ◌||◌, Bool, true, false, is_some, List, [], ◌∷◌, Option, Some, None}
use Rattle.vx_base.specs.Counts.{Rose}
use Rattle.vx_mask.specs.Marks.{Marks}
use Rattle.vx_piece.specs.Seen.{Seen}
use Rattle.vx_runs.specs.Part.{told_or}
use Rattle.vx_runs.specs.Run.{RunTells}
use Rattle.vx_marks.specs.declared.marker.MarkFault.{MarkFault}
use Rattle.vx_marks.specs.declared.marker.MarkFault.TheVariants as mark
use Rattle.vx_maps.specs.declared.fault.StoreFault.{StoreFault}
use Rattle.vx_maps.specs.declared.fault.StoreFault.TheVariants.{OutOfMemory, NoCopy, Failed, PowerLost}
use Rattle.vx_maps.specs.Copies.{SameRuns}
use Rattle.vx_maps.specs.Wholes.{copy_faults}

-- the fault of a mark as one of a store; a store is never busy
abbrev pub IsFaultOf : MarkFault → StoreFault → Type 0
IsFaultOf (mark.Failed copy device) fault = fault ≡ Failed copy device
IsFaultOf mark.PowerLost fault = fault ≡ PowerLost
IsFaultOf mark.Busy fault = ⊥

abbrev pub IsBusy : MarkFault → Type 0
IsBusy (mark.Failed copy device) = ⊥
IsBusy mark.PowerLost = ⊥
IsBusy mark.Busy = Unit {0}

-- a piece is cut
abbrev pub run_cut : List Seen → Bool
run_cut [] = false
run_cut (p ∷ ps) = p.cut || run_cut ps

abbrev pub copies_cut : List (List Seen) → Bool
copies_cut [] = false
copies_cut (x ∷ xs) = run_cut x || copies_cut xs

-- Why a store is refused: for want of memory, and then its copies are the same runs; `Failed` only where the count of that copy's
-- pieces on that device rose; `PowerLost` only where a piece is cut.
abbrev pub IsRefusedFor : StoreFault → List (List Seen) → List (List Seen) → Type 0
IsRefusedFor OutOfMemory old new = SameRuns old new
IsRefusedFor NoCopy old new = ⊥
IsRefusedFor (Failed copy device) old new = Rose (copy_faults old copy device) (copy_faults new copy device)
IsRefusedFor PowerLost old new = copies_cut new ≡ true

-- the same, by what the pieces of a copy had counted
abbrev pub IsRefusedAfter : StoreFault → (ℕ → ℕ → ℕ) → List (List Seen) → Type 0
IsRefusedAfter OutOfMemory old new = ⊥
IsRefusedAfter NoCopy old new = ⊥
IsRefusedAfter (Failed copy device) old new = Rose (old copy device) (copy_faults new copy device)
IsRefusedAfter PowerLost old new = copies_cut new ≡ true

-- the first piece tells what it holds
abbrev pub head_tells : List Seen → Bool
head_tells [] = false
head_tells (p ∷ ps) = is_some p.told

abbrev pub heads_tell : List (List Seen) → Bool
heads_tell [] = true
heads_tell (x ∷ xs) = head_tells x && heads_tell xs

-- the copy begins with these bytes
abbrev pub BeginsWith : List ℕ → List Seen → Type 0
BeginsWith bytes [] = ⊥
BeginsWith bytes (p ∷ ps) = told_or p.told 0 ≡ bytes

abbrev pub EachBegins : List ℕ → List (List Seen) → Type 0
EachBegins bytes [] = Unit {0}
EachBegins bytes (x ∷ xs) = BeginsWith bytes x × EachBegins bytes xs

-- each copy begins with these bytes, where their first pieces tell what they hold
abbrev pub AllBeginWith : List ℕ → List (List Seen) → Type 0
AllBeginWith bytes copies = heads_tell copies ≡ true → EachBegins bytes copies

-- each piece of each copy tells what it holds
abbrev pub AllTell : List (List Seen) → Type 0
AllTell [] = Unit {0}
AllTell (x ∷ xs) = RunTells x × AllTell xs

-- the marks are told, no copy shows one, and none is loose
abbrev pub AreBlank : Option (ℕ → Marks) → Type 0
AreBlank None = ⊥
AreBlank (Some marks) = (region copy map : ℕ) → ((marks region).shows copy map ≡ false) × ((marks region).loose map ≡ false)
