-- A volume of one block and two plexes that was cut while it was written: the plexes differ, and its region is dirty.
use Rattle.std.specs.Prelude.{◌≢◌, ℕ, ◌==◌, ◌||◌, true, false, [], ◌∷◌, if◌then◌else◌, codes}
use Rattle.vx_life.specs.Candidates.{Any}
use Rattle.vx_config_parts.specs.declared.state.VolState.TheVariants as vol
use Rattle.vx_config_parts.specs.declared.state.PlexState.TheVariants as plex
use Rattle.vx_mask.specs.Mask.{only, union}
use Rattle.vx_core.specs.declared.stage.Phase.TheVariants.{Unsettled}
use Rattle.vx_core.specs.History.{NoCall}
use Rattle.vx_core.specs.Region.{RegionState}
use Rattle.vx_core.specs.Soundness.{IsSound}
use Rattle.vx_base.specs.Blocks.{Contents}
use Rattle.vx_image.specs.Image.{PlexImage, LogCopy, Image}
use Rattle.vx_image.specs.Meaning.{candidates_read}
use Rattle.vx_image.specs.Soundness.{IsSoundImage}
use Rattle.vx_volume_laws.specs.Opening.{IsOpened, IsWellFormed, is_block_of, region_blocks}

abbrev pub first_plex : PlexImage
first_plex = record { name = codes "v-01"; map = 0; state = plex.Active; held = true; values = λ b. 1 ∷ [] }

abbrev pub second_plex : PlexImage
second_plex = record { name = codes "v-02"; map = 1; state = plex.Active; held = true; values = λ b. 0 ∷ [] }

-- the copy marks the region dirty, and nothing else
abbrev pub dirty_copy : LogCopy
dirty_copy r k = k == 30

abbrev pub half_written : Image
half_written =
    record { state = vol.NeedSync; length = 1; region = 1; plexes = first_plex ∷ second_plex ∷ []; snaps = []; copies = dirty_copy ∷ [] }

abbrev pub opened_region : ℕ → RegionState
opened_region r =
    record {
      stage = record { on = union (only 0) (only 1); off = 0; snaps = 0; bits = only 30; logged = true; phase = Unsettled };
      around = record {
        disks = record {
          blocks = λ k b. if k == 0 then region_blocks half_written r first_plex b else region_blocks half_written r second_plex b;
          marks = record { shows = λ n k. k == 30; loose = λ k. false };
        };
        fixed = record {
          held = λ k. k == 0 || k == 1;
          copies = 1;
          base = λ m b. [];
          first = λ b. if is_block_of half_written r b then candidates_read half_written b else Any;
          region = r;
          from = 0;
        };
        entries = [];
        pending = NoCall;
        last = 0;
      };
    }

-- It is sound though its plexes differ, and it can be opened: the laws of opening and recovery speak of something.
pub record HalfWrittenOpens : Type 0 where
  pub sound : IsSoundImage half_written
  pub well : IsWellFormed half_written
  pub differ : first_plex.values 0 ≢ second_plex.values 0
  pub opened : (r : ℕ) → IsOpened half_written dirty_copy (candidates_read half_written) r (opened_region r)

-- The same volume with a relation whose map is clear, as its region would be opened, with any list of the relation: the
-- region is dirty, so its plexes may differ, but for the relation.
abbrev pub related_region : (ℕ → Contents) → RegionState
related_region base =
    record {
      stage = record { on = union (only 0) (only 1); off = 0; snaps = only 2; bits = only 30; logged = true; phase = Unsettled };
      around = record {
        disks = (opened_region 0).around.disks;
        fixed = record {
          held = λ k. k == 0 || k == 1;
          copies = 1;
          base = base;
          first = λ b. if is_block_of half_written 0 b then candidates_read half_written b else Any;
          region = 0;
          from = 0;
        };
        entries = [];
        pending = NoCall;
        last = 0;
      };
    }

-- No list makes the region sound: a relation that is clear needs plexes that agree, also in a dirty region.
abbrev pub AClearRelationNeedsAgreement : Type 0
AClearRelationNeedsAgreement = (base : ℕ → Contents) → IsSound (related_region base).stage (related_region base).stage.phase (related_region base).around → ⊥
