-- What is done to a cell between calls.
use Rattle.std.specs.Prelude.{◌≡◌, ◌⊎◌, ℕ, ◌<◌, ◌==◌, Bool, true, false, if◌then◌else◌, List, [], ◌∷◌, map, Option, Result, Ok, Err}
use Rattle.std.specs.Vec.{vec_len, vec_capacity}
use Rattle.vx_mask.specs.Mask.{only, without}
use Rattle.vx_core.specs.declared.stage.Stage.{Stage}
use Rattle.vx_core.specs.Table.{current}
use Rattle.vx_core.specs.Plexes.{set_on, set_off, take_out}
use Rattle.vx_piece.specs.Seen.{Seen}
use Rattle.vx_runs.specs.Run.{EachPiece, IsArmed}
use Rattle.vx_cell.specs.declared.cell.Cell.{Cell}
use Rattle.vx_cell.specs.declared.fault.CellFault.{CellFault}
use Rattle.vx_cell.specs.declared.fault.CellFault.TheVariants.{Only}
use Rattle.vx_cell.specs.Plexes.{PlexSeen, plexes_seen}

-- what contracts see of a cell between calls: its region without a log
pub record CellSeen : Type 0 where
  pub stage : Stage
  pub region : ℕ
  pub start : ℕ
  pub size : ℕ
  pub number : ℕ
  pub epoch : ℕ
  pub plexes : List PlexSeen

abbrev pub cell_seen : {P : Type 0} → (P → Seen) → Cell P → CellSeen
cell_seen seen cell =
    record {
      stage = cell.stage;
      region = cell.region;
      start = cell.span.start;
      size = cell.span.count;
      number = cell.number;
      epoch = cell.epoch;
      plexes = plexes_seen seen cell.plexes.items;
    }

-- another plex is on and unmarked
abbrev pub has_other : Stage → ℕ → Bool
has_other s map = if without (current s) (only map) == 0 then false else true

-- the stage with the plex on or off
abbrev pub stage_with : Stage → ℕ → Bool → Stage
stage_with s map true = set_on s map
stage_with s map false = set_off s map

-- A plex is set on, or off. It stays where it is to go off and no other is on and unmarked, and that alone is refused.
abbrev pub IsSet : ℕ → Bool → CellSeen → CellSeen → Result (Unit {0}) CellFault → Type 0
IsSet map true old new result = (result ≡ Ok tt) × (new ≡ record old { stage = set_on old.stage map })
IsSet map false old new result =
    ((has_other old.stage map ≡ true) × (result ≡ Ok tt) × (new ≡ record old { stage = set_off old.stage map }))
    ⊎ ((has_other old.stage map ≡ false) × (result ≡ Err (Only map)) × (new ≡ old))

-- the first plex with the map is taken out of the list
abbrev pub IsTaken : ℕ → List PlexSeen → List PlexSeen → List Seen → Type 0
IsTaken k [] qs pieces = ⊥
IsTaken k (p ∷ ps) qs pieces =
    (((p.map == k) ≡ true) × (qs ≡ ps) × (pieces ≡ p.pieces))
    ⊎ (((p.map == k) ≡ false) × (rest : List PlexSeen) × (qs ≡ p ∷ rest) × IsTaken k ps rest pieces)

-- a plex leaves the cell with its pieces, where another is on and unmarked
pub record Leaves (map : ℕ) (old new : CellSeen) (pieces : List Seen) : Type 0 where
  pub other : has_other old.stage map ≡ true
  pub taken : IsTaken map old.plexes new.plexes pieces
  pub same : new ≡ record old { stage = take_out old.stage map; plexes = new.plexes }

-- the list of plexes has room for one more
abbrev pub HasRoom : {P : Type 0} → Cell P → Type 0
HasRoom cell = vec_len cell.plexes < vec_capacity cell.plexes

-- each plex keeps its map, and its pieces that are not cut get this stop
abbrev pub AreArmed : Option ℕ → List PlexSeen → List PlexSeen → Type 0
AreArmed stop [] [] = Unit {0}
AreArmed stop (p ∷ ps) (q ∷ qs) = (q.map ≡ p.map) × EachPiece (IsArmed stop) p.pieces q.pieces × AreArmed stop ps qs
AreArmed stop _ _ = ⊥

-- nothing else of the cell changes
pub record CellArmed (stop : Option ℕ) (old new : CellSeen) : Type 0 where
  pub plexes : AreArmed stop old.plexes new.plexes
  pub same : new ≡ record old { plexes = new.plexes }

-- ---- another log

-- the first of the plexes has number 0
abbrev pub first_as_zero : List PlexSeen → List PlexSeen
first_as_zero [] = []
first_as_zero (p ∷ ps) = record { map = 0; pieces = p.pieces } ∷ ps

-- plex 0 is on, there is no other plex and no relation, and nothing is marked; the region is logged or not
abbrev pub stage_alone : Bool → Stage → Stage
stage_alone logged s = record { on = only 0; off = 0; snaps = 0; bits = 0; logged = logged; phase = s.phase }

-- the first plex of the cell is its plex 0, which is alone
abbrev pub IsRenewed : Bool → CellSeen → CellSeen → Type 0
IsRenewed logged old new = new ≡ record old { stage = stage_alone logged old.stage; plexes = first_as_zero old.plexes }
