-- How a new history begins in a region that is settled.
use Rattle.std.specs.Prelude.{◌≡◌, ℕ, []}
use Rattle.vx_base.specs.Blocks.{Contents}
use Rattle.vx_life.specs.Candidates.{known}
use Rattle.vx_mask.specs.Mask.{has}
use Rattle.vx_core.specs.declared.stage.Phase.TheVariants.{Settled}
use Rattle.vx_core.specs.History.{NoCall}
use Rattle.vx_core.specs.Region.{RegionState}
use Rattle.vx_core.specs.Soundness.{IsUnmarked, MayHold}
use Rattle.vx_core.specs.Schedule.{IsFresh}
use Rattle.vx_core_laws.specs.Course.{IsKeptState}

-- the region with no history, over this list
abbrev pub begun_over : Contents → RegionState → RegionState
begun_over list r =
    record {
      stage = r.stage;
      around = record {
        disks = r.around.disks;
        fixed = record {
          held = r.around.fixed.held;
          copies = r.around.fixed.copies;
          base = r.around.fixed.base;
          first = known list;
          region = r.around.fixed.region;
          from = 0;
        };
        entries = [];
        pending = NoCall;
        last = 0;
      };
    }

-- One list is what each unmarked plex holds, each block of it is among the candidates, and a history may begin over it.
pub record BeginsOver (r : RegionState) (list : Contents) : Type 0 where
  pub hold : (k b : ℕ) → IsUnmarked r.around (has r.stage.bits) k → r.around.disks.blocks k b ≡ list b
  pub among : (b : ℕ) → MayHold r.around b (list b)
  pub fresh : IsFresh (begun_over list r)

abbrev pub EachSettledBegins : Type 0
EachSettledBegins = (r : RegionState) → IsKeptState r → r.stage.phase ≡ Settled → (list : Contents) × BeginsOver r list
