-- A group of which a running volume has lost a plex, once that is recorded, is whole.
use Rattle.std.proofs.Common.{◌≡◌, ◌∙◌, ℕ, ◌+◌, Bool, List, ◌++◌, Some, refl, sym, ap, subst, append_assoc}
use Rattle.std.specs.Prelude.{IfSome, is_some}
use Rattle.std.specs.BTreeMap.{is_at}
use Rattle.std.specs.Cmp.Lexicographic.{slice_cmp}
use Rattle.std.specs.List.{flat_map}
use Rattle.std.specs.Ordering.{nat_cmp}
use Rattle.vx_base.specs.Named.{Word}
use Rattle.vx_piece.specs.Seen.{Seen}
use Rattle.vx_pages.specs.declared.local_piece.LocalPiece.{Ghosts}
use Rattle.vx_carve.specs.Together.{SameSectors}
use Rattle.vx_carve.proofs.Same.{same_beside, same_trans}
use Rattle.vx_config_parts.specs.declared.plex.Plex.{Plex}
use Rattle.vx_config_parts.specs.declared.vol.Vol.{Vol}
use Rattle.vx_copies.specs.Disks.{CommitGoes}
use Rattle.vx_copies.specs.Lists.{AllOf, Each}
use Rattle.vx_confdb.specs.Groups.{members}
use Rattle.vx_confdb.specs.declared.group.Group.{Group as Base}
use Rattle.vx_group_start.specs.Laying.{AreStuckVolumes}
use Rattle.vx_image.specs.Bytes.{map_or_zero}
use Rattle.vx_image.specs.UsedPlexes.{IsVolOf}
use Rattle.vx_volume.specs.Switching.{CanSpare, IsSettled, IsTight}
use Rattle.vx_volume.specs.Parting.{runs_of}
use Rattle.vx_volume.specs.Volume.{IsVolume, VolumeSeen, log_of, volume_seen}
use Rattle.vx_lending.specs.Left.{held_pieces, region_plexes}
use Rattle.vx_lending.specs.Logs.{log_pieces}
use Rattle.vx_lending.specs.Pieces.{copy_pieces}
use Rattle.vx_lending.specs.Public.{lent_pieces, running_pieces, still_pieces, stuck_pieces}
use Rattle.vx_lending.specs.RegionPieces.{all_pieces}
use Rattle.vx_lending.specs.declared.public.Running.{Running}
use Rattle.vx_joined_volumes.specs.Parted.{TakesOut}
use Rattle.vx_house.specs.Scene.{Shelved}
use Rattle.vx_house.specs.View.{IsGroupKept, IsGroupWhole, Keeps, at}
use Rattle.vx_house.specs.declared.house.House.{House}
use Rattle.vx_house.specs.declared.house.Imported.{Imported}
use Rattle.vx_house.proofs.Laid.{parted_laid}
use Rattle.vx_house_calls.proofs.Entries.{IsSetAt, flat_around, set_at}
use Rattle.vx_stage_changes.specs.Committing.{IsFinished}
use Rattle.vx_stage_changes.specs.Planning.{IsShortText}
use Rattle.vx_stage_changes.specs.declared.planning.NextConfig.{NextConfig}
use Rattle.vx_stage_changes.proofs.Stillness.{whole_now}
use Rattle.vx_stage_mirrors.proofs.Others.{all_put}
use Rattle.vx_stage_mirrors.proofs.RelogWhole.{committed_by}
use Rattle.vx_stage_dissociation.specs.Taking.{TakesIn}
use Rattle.vx_stage_dissociation.proofs.PartPieces.{ahead, put_aside, regions_part}

-- ---- what was done

-- before a plex leaves, the volume is settled, nothing is loose on its log, and in each region another plex is current
pub record IsReadyToLeave (m : ℕ) (v : VolumeSeen) : Type 0 where
  pub settled : IsSettled v
  pub tight : IsTight v
  pub spare : CanSpare m v

-- The next configuration is to record a data plex of the volume no more, which does not lie in it or is removed.
pub record IsLossOf {P : Type 0} {ghosts : Ghosts P} (g : Imported P ghosts) (v : Vol) (p : Plex) (remove : Bool) (next : NextConfig) : Type 0 where
  pub of : IsVolOf g.config v
  pub takes : TakesOut g.config v p remove next.config
  pub printed : IsShortText next.config next.text.items

-- That was committed, and then the running volume, which was ready for it, lost the plex.
pub record IsParting {P : Type 0} {ghosts : Ghosts P} (shelf : Shelved) (h : House P ghosts) (g new : Imported P ghosts) (v : Vol) (p : Plex) (remove : Bool) (next : NextConfig) : Type 0 where
  pub alike : (p q : P) → is_some (ghosts.seen p).told ≡ is_some (ghosts.seen q).told
  pub has_group : h.group ≡ Some g
  pub keeps : Keeps ghosts.seen (at shelf h)
  pub plan : IsLossOf g v p remove next
  pub base : Base P
  pub finished : IsFinished ghosts.seen next.text.items g.base base
  pub leaves : TakesIn ghosts.seen v.name (map_or_zero p.map) (committed_by g next base) new
  pub ready : IsReadyToLeave (map_or_zero p.map) (volume_seen ghosts.seen leaves.runs.before.volume)

-- ---- the group is whole

module _ {P : Type 0} {ghosts : Ghosts P} {shelf : Shelved} {h : House P ghosts} {g new : Imported P ghosts} {v : Vol} {p : Plex} {remove : Bool} {next : NextConfig} (it : IsParting shelf h g new v p remove next) where
  abbrev see : P → Seen
  see = ghosts.seen

  abbrev m : ℕ
  m = map_or_zero p.map

  abbrev before : Running P ghosts
  before = it.leaves.runs.before

  abbrev after : Running P ghosts
  after = it.leaves.runs.after

  pub kept : IsGroupKept ghosts.seen g
  kept = subst (λ o. IfSome o (IsGroupKept see)) it.has_group it.keeps.house.group

  -- ---- the commit

  abbrev committed : Imported P ghosts
  committed = committed_by g next it.base

  pub commit_goes : Each (CommitGoes (g.base.sequence + 1) it.base.sequence next.text.items) (members ghosts.seen g.base) (members ghosts.seen it.base)
  commit_goes = it.finished.tried.committed.goes

  pub whole_committed : IsGroupWhole ghosts.seen (committed_by g next it.base)
  whole_committed = whole_now see g committed (g.base.sequence + 1) it.base.sequence next.text.items commit_goes refl kept.whole

  -- ---- the pieces

  abbrev now : Imported P ghosts
  now = record { config = next.config; base = it.base; public = new.public }

  spot : IsSetAt g.public.running.entries new.public.running.entries before after
  spot = subst (λ es. IsSetAt g.public.running.entries es before after) (sym it.leaves.runs.entries) (set_at (is_at (slice_cmp nat_cmp v.name)) before after g.public.running.entries it.leaves.runs.was)

  stuck_same : new.public.stuck ≡ g.public.stuck
  stuck_same = ap (λ (x : Imported P ghosts). x.public.stuck) it.leaves.same

  abbrev taken : List Seen
  taken = copy_pieces (runs_of m (volume_seen see before.volume))

  -- the pieces of the plex, and what the volume has then, are together what it had
  held_parts : SameSectors (held_pieces see before.volume) (taken ++ held_pieces see after.volume)
  held_parts =
      let R = all_pieces (region_plexes (volume_seen see before.volume).cells) in
      let S = all_pieces (region_plexes (volume_seen see after.volume).cells) in
      let L = log_pieces see (log_of before.volume) in
      let cells = it.leaves.runs.volume.loses.cells in
      let parts : SameSectors R (taken ++ S) = regions_part m (volume_seen see before.volume).cells (volume_seen see after.volume).cells cells.size cells.each in
      subst (λ l. SameSectors (R ++ L) (taken ++ (S ++ log_pieces see l))) (sym it.leaves.runs.volume.log)
      (subst (SameSectors (R ++ L)) (in_order taken S L) (same_beside L R (taken ++ S) parts))
    where
      in_order : (a b c : List Seen) → (a ++ b) ++ c ≡ a ++ (b ++ c)
      in_order a b c = simp append_assoc

  together : SameSectors (taken ++ still_pieces see g.public) (still_pieces see new.public)
  together = subst (λ (ps : List (List Seen)). SameSectors (copy_pieces ps ++ still_pieces see g.public) (still_pieces see new.public)) it.leaves.runs.pieces it.leaves.together

  pub same_pieces : SameSectors (still_pieces ghosts.seen g.public ++ lent_pieces ghosts.seen g.public) (still_pieces ghosts.seen new.public ++ lent_pieces ghosts.seen new.public)
  same_pieces =
      let O = still_pieces see g.public in
      let N = still_pieces see new.public in
      let F = flat_map (running_pieces see) spot.before in
      let B = flat_map (running_pieces see) spot.behind in
      let S = flat_map (stuck_pieces see) g.public.stuck.items in
      let H = held_pieces see before.volume in
      let K = held_pieces see after.volume in
      let T = B ++ S in
      let was : lent_pieces see g.public ≡ F ++ (H ++ T) = ap (λ es. flat_map (running_pieces see) es ++ S) spot.was ∙ flat_around (running_pieces see) spot.before (spot.key, before) spot.behind S in
      let is : lent_pieces see new.public ≡ F ++ (K ++ T) =
      ap (λ s. flat_map (running_pieces see) new.public.running.entries ++ flat_map (stuck_pieces see) s.items) stuck_same
      ∙ ap (λ es. flat_map (running_pieces see) es ++ S) spot.is ∙ flat_around (running_pieces see) spot.before (spot.key, after) spot.behind S in
      subst (λ ps. SameSectors (O ++ ps) (N ++ lent_pieces see new.public)) (sym was)
      (subst (λ ps. SameSectors (O ++ (F ++ (H ++ T))) (N ++ ps)) (sym is)
      (same_trans (O ++ (F ++ (H ++ T))) (O ++ (F ++ ((taken ++ K) ++ T))) (N ++ (F ++ (K ++ T)))
      (ahead O (F ++ (H ++ T)) (F ++ ((taken ++ K) ++ T)) (ahead F (H ++ T) ((taken ++ K) ++ T) (same_beside T H (taken ++ K) held_parts)))
      (same_trans (O ++ (F ++ ((taken ++ K) ++ T))) ((taken ++ O) ++ (F ++ (K ++ T))) (N ++ (F ++ (K ++ T)))
      (put_aside taken O F K T)
      (same_beside (F ++ (K ++ T)) (taken ++ O) N together))))

  -- ---- its volumes

  volumes : AllOf (λ (e : Word × Running P ghosts). IsVolume (volume_seen see e.1.volume)) new.public.running.entries
  volumes = subst (λ es. AllOf (λ (e : Word × Running P ghosts). IsVolume (volume_seen see e.1.volume)) es) (sym it.leaves.runs.entries)
      (all_put (λ n (r : Running P ghosts). IsVolume (volume_seen see r.volume)) (λ n (r : Running P ghosts). IsVolume (volume_seen see r.volume)) v.name (λ key r other is. is) g.public.running.entries after it.leaves.runs.ordered kept.whole.volumes it.leaves.runs.volume.whole)

  -- ---- the group

  pub now_whole : IsGroupWhole ghosts.seen (record { config = next.config; base = it.base; public = new.public })
  now_whole = record {
    parted = parted_laid see it.alike committed now refl whole_committed.parted same_pieces;
    volumes = volumes;
    stuck = subst (λ s. AreStuckVolumes see s) (sym (ap (λ (x : Imported P ghosts). x.public.stuck.items) it.leaves.same)) kept.whole.stuck;
  }

  pub now_is : new ≡ record { config = next.config; base = it.base; public = new.public }
  now_is =
      let config = ap (λ (x : Imported P ghosts). x.config) it.leaves.same in
      let base = ap (λ (x : Imported P ghosts). x.base) it.leaves.same in
      λ i. record { config = config i; base = base i; public = new.public }
