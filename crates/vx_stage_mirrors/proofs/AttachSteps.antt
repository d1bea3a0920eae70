-- A plex that is put into use, on its group: each step may be done where the one before it is, and what that says of how it ends.
use Rattle.std.proofs.Common.{◌≡◌, ◌∙◌, ℕ, Bool, true, cond, Some, None, Err, refl, ap, subst, inl, inr}
use Rattle.std.specs.Prelude.{is_some}
use Rattle.vx_base.specs.Named.{Word}
use Rattle.vx_base.proofs.NamedLemmas.{bytes_eq_self}
use Rattle.vx_mask.specs.Mask.{only}
use Rattle.vx_piece.specs.Seen.{Seen}
use Rattle.vx_pages.specs.declared.local_piece.LocalPiece.{Ghosts}
use Rattle.vx_config_parts.specs.declared.plex.Plex.{Plex}
use Rattle.vx_config_parts.specs.declared.state.PlexState.TheVariants as plex_state
use Rattle.vx_config_parts.specs.declared.vol.Vol.{Vol}
use Rattle.vx_image.specs.Bytes.{map_or_zero}
use Rattle.vx_lending.specs.Public.{running_at}
use Rattle.vx_stages.specs.Logging.{AreEditsRefused}
use Rattle.vx_stages.specs.Mirroring.{RefusedFor}
use Rattle.vx_stages.specs.Plexes.{IsAttachRefused, MayAttach, attach_refusal, plex_in, state_edits}
use Rattle.vx_stages.specs.Tests.{volume_in}
use Rattle.vx_house.specs.declared.house.Imported.{Imported}
use Rattle.vx_house.specs.declared.stop.Stop.{Stop}
use Rattle.vx_house.specs.declared.stop.Stop.TheVariants as stops
use Rattle.vx_stage_changes.specs.Planning.{IsPlanned}
use Rattle.vx_stage_changes.specs.declared.planning.NextConfig.{NextConfig}
use Rattle.vx_stage_volumes.specs.Opening.{good_of}
use Rattle.vx_stage_mirrors.specs.Attaching.{IsAttachEnd, IsPlannedAttach}
use Rattle.vx_stage_mirrors.specs.Copying.{CopiesIn}
use Rattle.vx_stage_mirrors.specs.Ending.{seen_group}
use Rattle.vx_stage_mirrors.specs.LogEnding.{is_running}
use Rattle.vx_stage_mirrors.specs.Planned.{EndsAs}
use Rattle.vx_stage_mirrors.specs.Relogging.{RecordEnds}
use Rattle.vx_stage_mirrors.specs.Switching.{SwitchesIn}

module _ {P : Type 0} {ghosts : Ghosts P} (see : P → Seen) (g : Imported P ghosts) (vol name : Word) (runs : Bool) (runs_is : runs ≡ is_running g vol) (good : ℕ) (good_is : good ≡ good_of see g) where
  -- ---- a test refuses it

  abbrev Tested : Stop → Type 0
  Tested stop = EndsAs (RefusedFor (λ r. attach_refusal runs g.config good vol name ≡ Some r)) stop

  refused_here : (stop : Stop) → Tested stop → EndsAs (IsAttachRefused (is_running g vol) (seen_group see g) vol name) stop
  refused_here (stops.Ended end) (r, why, is) = inl (r, subst (λ b. attach_refusal b g.config (good_of see g) vol name ≡ Some r) runs_is (subst (λ k. attach_refusal runs g.config k vol name ≡ Some r) good_is why), is)
  refused_here stops.OutOfMemory why = tt

  pub ends_tested : (stop : Stop) → Tested stop → IsAttachEnd see vol name stop g g
  ends_tested stop why = inl (refl, refused_here stop why)

  -- ---- none does

  module _ (v : Vol) (found : volume_in vol g.config.volumes ≡ Some v) (p : Plex) (plex : plex_in name g.config.plexes ≡ Some p) (fits : attach_refusal runs g.config good vol name ≡ None) where
    pub may_attach : MayAttach (is_running g vol) g.config (good_of see g) vol name v p
    may_attach = record {
      volume = found;
      found = plex;
      fits = subst (λ b. attach_refusal b g.config (good_of see g) vol name ≡ None) runs_is (subst (λ k. attach_refusal runs g.config k vol name ≡ None) good_is fits);
    }

    unplanned_here : (stop : Stop) → EndsAs (AreEditsRefused g.config (state_edits v.name p plex_state.Active)) stop → EndsAs (IsAttachRefused (is_running g vol) (seen_group see g) vol name) stop
    unplanned_here (stops.Ended end) why = inr (v, p, may_attach, why)
    unplanned_here stops.OutOfMemory why = tt

    pub ends_unplanned : (stop : Stop) → EndsAs (AreEditsRefused g.config (state_edits v.name p plex_state.Active)) stop → IsAttachEnd see vol name stop g g
    ends_unplanned stop why = inl (refl, unplanned_here stop why)

    -- ---- it is planned

    module _ (next : NextConfig) (planned : IsPlanned (state_edits v.name p plex_state.Active) g.config next) where
      plan : IsPlannedAttach see vol name v p next g
      plan = record { may = may_attach; planned = planned }

      pub ends_unrecorded : (stop : Stop) (new : Imported P ghosts) → RecordEnds see next (Err stop) g new → IsAttachEnd see vol name stop g new
      ends_unrecorded stop new ends = inr (record { volume = v; plex = p; next = next; planned = plan; ends = inl ends })

      pub ends_attached : (stop : Stop) (switched new : Imported P ghosts) → SwitchesIn see vol (map_or_zero p.map) true next g switched → CopiesIn see vol (only (map_or_zero p.map)) stop switched new → IsAttachEnd see vol name stop g new
      ends_attached stop switched new switches copies =
          inr (record { volume = v; plex = p; next = next; planned = plan; ends = inr (record { switched = switched; switches = switches; copies = copies }) })

-- the volume runs still
pub runs_switched : {P : Type 0} {ghosts : Ghosts P} (see : P → Seen) (g new : Imported P ghosts) (vol : Word) (m : ℕ) (on : Bool) (next : NextConfig) → SwitchesIn see vol m on next g new → is_some (running_at new.public vol) ≡ true
runs_switched see g new vol m on next switches = ap is_some (switches.runs.puts vol ∙ ap (λ b. cond b (Some switches.runs.after) (running_at g.public vol)) (bytes_eq_self vol))
