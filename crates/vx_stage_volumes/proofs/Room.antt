-- A group with room for one more volume that could not be put back is as it was.
use Rattle.std.proofs.Common.{◌≡◌, List, [], ◌++◌, map, Some, refl, sym, ap, subst}
use Rattle.std.specs.Global.{Vec}
use Rattle.std.specs.List.{flat_map}
use Rattle.vx_pages.specs.declared.local_piece.LocalPiece.{Ghosts}
use Rattle.vx_piece.specs.Seen.{Seen}
use Rattle.vx_confdb.specs.Groups.{members}
use Rattle.vx_fronts.specs.Laws.{whole_disks}
use Rattle.vx_fronts.specs.Parted.{AreParted}
use Rattle.vx_fronts.specs.Rests.{rests_of}
use Rattle.vx_moments.specs.Moment.{Moment}
use Rattle.vx_lending.specs.declared.public.Running.{Running}
use Rattle.vx_lending.specs.Public.{running_pieces, still_pieces, stuck_pieces}
use Rattle.vx_group_start.specs.Laying.{AreStuckVolumes}
use Rattle.vx_house.specs.Holders.{holder_in}
use Rattle.vx_house.specs.Scene.{Shelved}
use Rattle.vx_house.specs.View.{AreSized, IsGroupKept, IsMoment, Keeps, at}
use Rattle.vx_house.specs.Runs.{AreRuns}
use Rattle.vx_house.specs.declared.house.House.{House}
use Rattle.vx_house.specs.declared.house.Imported.{Imported}
use Rattle.vx_house_calls.specs.Passes.{with_group}
use Rattle.vx_stage_volumes.specs.Stopping.{HasRoom}
use Rattle.vx_stage_volumes.proofs.Otherwise.{IsHeldOtherwise, otherwise_keeps, otherwise_moment}

module _ {P : Type 0} {ghosts : Ghosts P} (see : P → Seen) (g : Imported P ghosts) where
  -- the group with these volumes that could not be put back
  abbrev with_stuck : Vec (Running P ghosts) → Imported P ghosts
  with_stuck stuck = record g { public = record g.public { stuck = stuck } }

  -- the pieces behind the fronts
  abbrev behind : List (Running P ghosts) → List Seen
  behind stuck = still_pieces see g.public ++ (flat_map (running_pieces see) g.public.running.entries ++ flat_map (stuck_pieces see) stuck)

  kept_with : (stuck : Vec (Running P ghosts)) → stuck.items ≡ g.public.stuck.items → IsGroupKept see g → IsGroupKept see (with_stuck stuck)
  kept_with stuck same kept = record {
    named = kept.named;
    text = kept.text;
    first = kept.first;
    carries = kept.carries;
    sized = subst (λ xs. AreSized (whole_disks (rests_of (behind xs) []) (members see g.base))) (sym same) kept.sized;
    slots = kept.slots;
    recorded = kept.recorded;
    whole = record {
      parted = subst (λ xs. AreParted (members see g.base) (behind xs)) (sym same) kept.whole.parted;
      volumes = kept.whole.volumes;
      stuck = subst (AreStuckVolumes see) (sym same) kept.whole.stuck;
    };
    placed = kept.placed;
  }

  held_with : (stuck : Vec (Running P ghosts)) → stuck.items ≡ g.public.stuck.items → IsHeldOtherwise see g (with_stuck stuck)
  held_with stuck same = record {
    config = refl;
    base = refl;
    holders = ap (λ xs. map holder_in (whole_disks (rests_of (behind xs) []) (members see g.base))) same;
  }

  module _ (g' : Imported P ghosts) (room : HasRoom g g') where
    pub room_kept : IsGroupKept see g → IsGroupKept see g'
    room_kept kept = subst (IsGroupKept see) (sym room.same) (kept_with g'.public.stuck room.items kept)

    pub room_held : IsHeldOtherwise see g g'
    room_held = subst (IsHeldOtherwise see g) (sym room.same) (held_with g'.public.stuck room.items)

    pub room_config : g'.config ≡ g.config
    room_config = ap (λ (x : Imported P ghosts). x.config) room.same

    pub room_keeps : (shelf : Shelved) (h : House P ghosts) → h.group ≡ Some g → IsGroupKept see g → Keeps see (at shelf h) → Keeps see (at shelf (with_group h g'))
    room_keeps shelf h has kept keeps = otherwise_keeps see shelf h g g' has room_held keeps (room_kept kept)

    -- each moment that the house was it is
    pub room_moment : (shelf : Shelved) (h : House P ghosts) → h.group ≡ Some g → (m : Moment) → IsMoment see (at shelf h) m → IsMoment see (at shelf (with_group h g')) m
    room_moment shelf h has m is =
        let runs = subst (λ o. AreRuns see o m.world.group m.world.volumes) has is.runs_are in
        otherwise_moment see shelf h g g' has room_held m is m.world.volumes (λ name. refl) (subst (λ x. AreRuns see (Some x) m.world.group m.world.volumes) (sym room.same) runs)
