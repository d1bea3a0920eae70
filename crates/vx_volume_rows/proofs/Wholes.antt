-- The pieces of a volume that ran make up the devices again.
use Rattle.std.proofs.Common.{◌≡◌, ◌∙◌, List, [], ◌∷◌, ◌++◌, map, refl, sym, ap, subst}
use Rattle.std.specs.List.{flat_map}
use Rattle.std.proofs.lemmas.List.{append-nil}
use Rattle.std.proofs.lemmas.List.Elements.{All-nil, All-cons}
use Rattle.vx_piece.specs.Seen.{Seen}
use Rattle.vx_piece.specs.MemPiece.{mem_seen}
use Rattle.vx_piece.specs.declared.mem_piece.MemPiece.{MemPiece}
use Rattle.vx_carve.specs.Together.{SameSectors}
use Rattle.vx_copies.specs.Disks.{DiskSeen}
use Rattle.vx_fronts.specs.Parted.{AreParted}
use Rattle.vx_fronts.specs.Rests.{AllTell, IsTelling}
use Rattle.vx_fronts.proofs.Parted.{parted_called}
use Rattle.vx_lending.specs.Going.{GoTogether}
use Rattle.vx_lending.proofs.Goings.{go_beside, go_from, go_same, go_then}
use Rattle.vx_volume_rows.specs.Whole.{AreFromBehind}

-- pieces in memory tell what they hold
mem_tell : (xs : List MemPiece) → AllTell (map mem_seen xs)
mem_tell [] = All-nil IsTelling
mem_tell (x ∷ xs) = All-cons IsTelling (mem_seen x) (map mem_seen xs) refl (mem_tell xs)

-- what is still where nothing is left over
pub none_left : {X : Type 0} (f : X → List Seen) (ps : List Seen) (xs : List X) → xs ≡ [] → ps ++ flat_map f xs ≡ ps
none_left f ps xs e = ap (λ ys. ps ++ flat_map f ys) e ∙ append-nil ps

pub from_behind : (hs : List DiskSeen) (ps qs rs : List Seen) → qs ≡ ps → AreParted hs ps → GoTogether qs rs → AreFromBehind hs rs
from_behind hs ps qs rs e parted goes = record { behind = qs; parted = subst (AreParted hs) (sym e) parted; goes = goes }

pub ran_parted : (hs : List DiskSeen) (held held' still still' : List Seen) (xs : List MemPiece) → still' ≡ map mem_seen xs → AreFromBehind hs (held ++ still) → GoTogether held held' → SameSectors (held' ++ still) still' → AreParted hs (map mem_seen xs)
ran_parted hs held held' still still' xs e from goes same =
    let all = go_then from.behind (held ++ still) still' from.goes (go_then (held ++ still) (held' ++ still) still' (go_beside held held' still still goes (go_same still)) (go_from (held' ++ still) still' same)) in
    let here : GoTogether from.behind (map mem_seen xs) = subst (GoTogether from.behind) e all in
    parted_called hs from.behind (map mem_seen xs) here.sectors (here.some from.parted.some) (λ tells. mem_tell xs) from.parted
