-- A group of which a running volume has a plex on or off, once its state is recorded, is whole.
use Rattle.std.proofs.Common.{◌≡◌, ◌+◌, ◌++◌, Bool, Some, sym, subst}
use Rattle.std.specs.Prelude.{IfSome, is_some}
use Rattle.vx_base.specs.Named.{Word}
use Rattle.vx_piece.specs.Seen.{Seen}
use Rattle.vx_pages.specs.declared.local_piece.LocalPiece.{Ghosts}
use Rattle.vx_carve.specs.Together.{SameSectors}
use Rattle.vx_carve.proofs.Same.{same_refl}
use Rattle.vx_config_parts.specs.declared.plex.Plex.{Plex}
use Rattle.vx_config_parts.specs.declared.state.PlexState.{PlexState}
use Rattle.vx_config_parts.specs.declared.vol.Vol.{Vol}
use Rattle.vx_image.specs.Bytes.{map_or_zero}
use Rattle.vx_copies.specs.Disks.{CommitGoes}
use Rattle.vx_copies.specs.Lists.{Each}
use Rattle.vx_confdb.specs.Groups.{members}
use Rattle.vx_lending.specs.Public.{lent_pieces, still_pieces}
use Rattle.vx_lending.specs.declared.public.Running.{Running}
use Rattle.vx_house.specs.Scene.{Shelved}
use Rattle.vx_house.specs.View.{IsGroupKept, IsGroupWhole, Keeps, at}
use Rattle.vx_house.specs.declared.house.House.{House}
use Rattle.vx_house.specs.declared.house.Imported.{Imported}
use Rattle.vx_stage_changes.specs.declared.planning.NextConfig.{NextConfig}
use Rattle.vx_stage_mirrors.specs.SwitchMoments.{IsReadyToSwitch, IsSwitchPlanned}
use Rattle.vx_stage_mirrors.specs.Switching.{SwitchesIn}
use Rattle.vx_stage_mirrors.proofs.SwitchPieces.{lent_same, still_same, whole_switched}
use Rattle.vx_stage_mirrors.proofs.SwitchPieces.{whole_committed as committed_whole}

-- ---- what was done

-- The state of a plex was committed, as was planned, and then its running volume, which was ready for it, got it on or off.
pub record IsSwitch {P : Type 0} {ghosts : Ghosts P} (shelf : Shelved) (h : House P ghosts) (g new : Imported P ghosts) (name : Word) (v : Vol) (p : Plex) (state : PlexState) (on : Bool) (next : NextConfig) : Type 0 where
  pub alike : (p q : P) → is_some (ghosts.seen p).told ≡ is_some (ghosts.seen q).told
  pub has_group : h.group ≡ Some g
  pub keeps : Keeps ghosts.seen (at shelf h)
  pub plan : IsSwitchPlanned g name v p state on next
  pub switches : SwitchesIn ghosts.seen name (map_or_zero p.map) on next g new
  pub ready : IsReadyToSwitch ghosts.seen p on switches.runs.before

-- ---- the group is whole

module _ {P : Type 0} {ghosts : Ghosts P} {shelf : Shelved} {h : House P ghosts} {g new : Imported P ghosts} {name : Word} {v : Vol} {p : Plex} {state : PlexState} {on : Bool} {next : NextConfig} (it : IsSwitch shelf h g new name v p state on next) where
  abbrev see : P → Seen
  see = ghosts.seen

  abbrev before : Running P ghosts
  before = it.switches.runs.before

  abbrev after : Running P ghosts
  after = it.switches.runs.after

  pub kept : IsGroupKept ghosts.seen g
  kept = subst (λ o. IfSome o (IsGroupKept see)) it.has_group it.keeps.house.group

  -- ---- the commit

  abbrev committed : Imported P ghosts
  committed = record { config = next.config; base = new.base; public = g.public }

  pub commit_goes : Each (CommitGoes (g.base.sequence + 1) new.base.sequence next.text.items) (members ghosts.seen g.base) (members ghosts.seen new.base)
  commit_goes = it.switches.finished.tried.committed.goes

  pub whole_committed : IsGroupWhole ghosts.seen (record { config = next.config; base = new.base; public = g.public })
  whole_committed = committed_whole see g new kept.whole name (map_or_zero p.map) on next it.switches

  -- ---- the pieces

  pub same_pieces : SameSectors (still_pieces ghosts.seen g.public ++ lent_pieces ghosts.seen g.public) (still_pieces ghosts.seen new.public ++ lent_pieces ghosts.seen new.public)
  same_pieces =
      let behind = still_pieces see g.public ++ lent_pieces see g.public in
      let still = still_same see g new kept.whole name (map_or_zero p.map) on next it.switches in
      let lent = lent_same see g new kept.whole name (map_or_zero p.map) on next it.switches in
      subst (SameSectors behind) (λ i. sym still i ++ sym lent i) (same_refl behind)

  -- ---- the group

  pub now_is : new ≡ record { config = next.config; base = new.base; public = new.public }
  now_is = λ i. record { config = it.switches.config i; base = new.base; public = new.public }

  pub now_whole : IsGroupWhole ghosts.seen (record { config = next.config; base = new.base; public = new.public })
  now_whole = subst (IsGroupWhole see) now_is (whole_switched see g new kept.whole name (map_or_zero p.map) on next it.switches)
