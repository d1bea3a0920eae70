-- A group of which a running volume has lost a log plex, once that is recorded, is whole: its log gave up the copy that lay there, or none did.
use Rattle.std.proofs.Common.{◌≡◌, ◌∙◌, ℕ, ◌+◌, Bool, List, [], ◌∷◌, ◌++◌, Some, length, refl, sym, ap, subst, inl, inr, arith}
use Rattle.std.specs.Prelude.{◌⊎◌, IfSome, is_some}
use Rattle.std.specs.BTreeMap.{IsOrdered, get, is_at}
use Rattle.std.specs.Cmp.Lexicographic.{slice_cmp}
use Rattle.std.specs.List.{flat_map}
use Rattle.std.specs.Map.{set_value}
use Rattle.std.specs.Ordering.{nat_cmp}
use Rattle.vx_base.specs.Named.{SameUnder, Word, put}
use Rattle.vx_piece.specs.Seen.{Seen}
use Rattle.vx_pages.specs.declared.local_piece.LocalPiece.{Ghosts}
use Rattle.vx_layout.specs.declared.layout.Layout.{Layout}
use Rattle.vx_carve.specs.Together.{SameSectors}
use Rattle.vx_config_parts.specs.declared.plex.Plex.{Plex}
use Rattle.vx_config_parts.specs.declared.vol.Vol.{Vol}
use Rattle.vx_copies.specs.Disks.{CommitGoes}
use Rattle.vx_copies.specs.Lists.{AllOf, Each}
use Rattle.vx_confdb.specs.Groups.{members}
use Rattle.vx_confdb.specs.declared.group.Group.{Group as Base}
use Rattle.vx_group_start.specs.Laying.{AreStuckVolumes}
use Rattle.vx_image.specs.UsedPlexes.{IsVolOf}
use Rattle.vx_volume.specs.Volume.{IsVolume, volume_seen}
use Rattle.vx_lending.specs.Form.{IsLayoutOf}
use Rattle.vx_lending.specs.Left.{held_pieces}
use Rattle.vx_lending.specs.Public.{lent_pieces, running_pieces, still_pieces, stuck_pieces}
use Rattle.vx_lending.specs.declared.public.Running.{Running}
use Rattle.vx_yielded_volumes.specs.Yielded.{HasYielded, IsCopyOn, IsFormYielded, IsOnNoCopy, TakesLogOut}
use Rattle.vx_house.specs.Scene.{Shelved}
use Rattle.vx_house.specs.View.{IsGroupKept, IsGroupWhole, Keeps, at}
use Rattle.vx_house.specs.declared.house.House.{House}
use Rattle.vx_house.specs.declared.house.Imported.{Imported}
use Rattle.vx_house.proofs.Laid.{parted_laid}
use Rattle.vx_house_calls.proofs.Entries.{IsSetAt, flat_around, set_at}
use Rattle.vx_stage_changes.specs.Committing.{IsFinished}
use Rattle.vx_stage_changes.specs.Planning.{IsShortText}
use Rattle.vx_stage_changes.specs.declared.planning.NextConfig.{NextConfig}
use Rattle.vx_stage_changes.proofs.Stillness.{whole_now}
use Rattle.vx_stage_mirrors.specs.Relogging.{IsPowered}
use Rattle.vx_stage_mirrors.proofs.Others.{all_put}
use Rattle.vx_stage_mirrors.proofs.RelogWhole.{committed_by}

-- ---- what was done

-- the log of the running volume has given up the copy that lies so, and the power of its regions was there
pub record IsCopyGone {P : Type 0} {ghosts : Ghosts P} (see : P → Seen) (l : Layout) (before after : Running P ghosts) : Type 0 where
  pub copy : ℕ
  pub on : IsCopyOn before.form.logs.items copy l
  pub form : IsFormYielded copy before.form after.form
  pub volume : HasYielded see copy before.volume after.volume
  pub powered : IsPowered see before

-- no copy lies so, and the volume is as it was
pub record IsCopyNowhere {P : Type 0} {ghosts : Ghosts P} (l : Layout) (before after : Running P ghosts) : Type 0 where
  pub none : IsOnNoCopy before.form.logs.items l
  pub same : after ≡ before

abbrev pub IsLogOff : {P : Type 0} {ghosts : Ghosts P} → (P → Seen) → Layout → Running P ghosts → Running P ghosts → Type 0
IsLogOff see l before after = IsCopyGone see l before after ⊎ IsCopyNowhere l before after

-- The next configuration is to record a log plex of the volume no more, which lies so.
pub record IsLogLoss {P : Type 0} {ghosts : Ghosts P} (g : Imported P ghosts) (v : Vol) (p : Plex) (remove : Bool) (next : NextConfig) : Type 0 where
  pub of : IsVolOf g.config v
  pub takes : TakesLogOut g.config v p remove next.config
  pub printed : IsShortText next.config next.text.items
  pub layout : Layout
  pub lies : IsLayoutOf g.config p layout

-- the volume of the name is another then, in its place among the others
pub record IsPutFor {P : Type 0} {ghosts : Ghosts P} (name : Word) (before after : Running P ghosts) (old new : Imported P ghosts) : Type 0 where
  pub ordered : IsOrdered (slice_cmp nat_cmp) old.public.running
  pub was : get (slice_cmp nat_cmp) old.public.running name ≡ Some before
  pub entries : new.public.running.entries ≡ set_value (is_at (slice_cmp nat_cmp name)) old.public.running.entries after
  pub puts : SameUnder (put name (Some after) (get (slice_cmp nat_cmp) old.public.running)) (get (slice_cmp nat_cmp) new.public.running)
  pub same : new ≡ record old { public = record old.public { left = new.public.left; running = new.public.running } }

-- what lies still and what the one volume has are together what they were, whatever lies beside them
abbrev pub MovesPieces : {P : Type 0} {ghosts : Ghosts P} → (P → Seen) → Running P ghosts → Running P ghosts → Imported P ghosts → Imported P ghosts → Type 0
MovesPieces see before after old new =
    (F T : List Seen) → SameSectors (still_pieces see old.public ++ (F ++ (held_pieces see before.volume ++ T))) (still_pieces see new.public ++ (F ++ (held_pieces see after.volume ++ T)))

-- That was committed, and then the log of the running volume gave up the copy that lay there, or none did.
pub record IsYielding {P : Type 0} {ghosts : Ghosts P} (shelf : Shelved) (h : House P ghosts) (g new : Imported P ghosts) (v : Vol) (p : Plex) (remove : Bool) (next : NextConfig) : Type 0 where
  pub alike : (p q : P) → is_some (ghosts.seen p).told ≡ is_some (ghosts.seen q).told
  pub has_group : h.group ≡ Some g
  pub keeps : Keeps ghosts.seen (at shelf h)
  pub plan : IsLogLoss g v p remove next
  pub base : Base P
  pub finished : IsFinished ghosts.seen next.text.items g.base base
  pub before : Running P ghosts
  pub after : Running P ghosts
  pub puts : IsPutFor v.name before after (committed_by g next base) new
  pub moves : MovesPieces ghosts.seen before after (committed_by g next base) new
  pub whole : IsVolume (volume_seen ghosts.seen after.volume)
  pub off : IsLogOff ghosts.seen plan.layout before after

-- ---- the group is whole

module _ {P : Type 0} {ghosts : Ghosts P} {shelf : Shelved} {h : House P ghosts} {g new : Imported P ghosts} {v : Vol} {p : Plex} {remove : Bool} {next : NextConfig} (it : IsYielding shelf h g new v p remove next) where
  abbrev see : P → Seen
  see = ghosts.seen

  abbrev before : Running P ghosts
  before = it.before

  abbrev after : Running P ghosts
  after = it.after

  pub kept : IsGroupKept ghosts.seen g
  kept = subst (λ o. IfSome o (IsGroupKept see)) it.has_group it.keeps.house.group

  -- ---- the commit

  abbrev committed : Imported P ghosts
  committed = committed_by g next it.base

  pub commit_goes : Each (CommitGoes (g.base.sequence + 1) it.base.sequence next.text.items) (members ghosts.seen g.base) (members ghosts.seen it.base)
  commit_goes = it.finished.tried.committed.goes

  pub whole_committed : IsGroupWhole ghosts.seen (committed_by g next it.base)
  whole_committed = whole_now see g committed (g.base.sequence + 1) it.base.sequence next.text.items commit_goes refl kept.whole

  -- ---- the pieces

  abbrev now : Imported P ghosts
  now = record { config = next.config; base = it.base; public = new.public }

  spot : IsSetAt g.public.running.entries new.public.running.entries before after
  spot = subst (λ es. IsSetAt g.public.running.entries es before after) (sym it.puts.entries) (set_at (is_at (slice_cmp nat_cmp v.name)) before after g.public.running.entries it.puts.was)

  stuck_same : new.public.stuck ≡ g.public.stuck
  stuck_same = ap (λ (x : Imported P ghosts). x.public.stuck) it.puts.same

  pub same_pieces : SameSectors (still_pieces ghosts.seen g.public ++ lent_pieces ghosts.seen g.public) (still_pieces ghosts.seen new.public ++ lent_pieces ghosts.seen new.public)
  same_pieces =
      let O = still_pieces see g.public in
      let N = still_pieces see new.public in
      let F = flat_map (running_pieces see) spot.before in
      let B = flat_map (running_pieces see) spot.behind in
      let S = flat_map (stuck_pieces see) g.public.stuck.items in
      let H = held_pieces see before.volume in
      let K = held_pieces see after.volume in
      let T = B ++ S in
      let was : lent_pieces see g.public ≡ F ++ (H ++ T) = ap (λ es. flat_map (running_pieces see) es ++ S) spot.was ∙ flat_around (running_pieces see) spot.before (spot.key, before) spot.behind S in
      let is : lent_pieces see new.public ≡ F ++ (K ++ T) =
      ap (λ s. flat_map (running_pieces see) new.public.running.entries ++ flat_map (stuck_pieces see) s.items) stuck_same
      ∙ ap (λ es. flat_map (running_pieces see) es ++ S) spot.is ∙ flat_around (running_pieces see) spot.before (spot.key, after) spot.behind S in
      subst (λ ps. SameSectors (O ++ ps) (N ++ lent_pieces see new.public)) (sym was)
      (subst (λ ps. SameSectors (O ++ (F ++ (H ++ T))) (N ++ ps)) (sym is) (it.moves F T))

  -- ---- its volumes

  volumes : AllOf (λ (e : Word × Running P ghosts). IsVolume (volume_seen see e.1.volume)) new.public.running.entries
  volumes = subst (λ es. AllOf (λ (e : Word × Running P ghosts). IsVolume (volume_seen see e.1.volume)) es) (sym it.puts.entries)
      (all_put (λ n (r : Running P ghosts). IsVolume (volume_seen see r.volume)) (λ n (r : Running P ghosts). IsVolume (volume_seen see r.volume)) v.name (λ key r other is. is) g.public.running.entries after it.puts.ordered kept.whole.volumes it.whole)

  -- ---- the group

  pub now_whole : IsGroupWhole ghosts.seen (record { config = next.config; base = it.base; public = new.public })
  now_whole = record {
    parted = parted_laid see it.alike committed now refl whole_committed.parted same_pieces;
    volumes = volumes;
    stuck = subst (λ s. AreStuckVolumes see s) (sym (ap (λ (x : Imported P ghosts). x.public.stuck.items) it.puts.same)) kept.whole.stuck;
  }

  pub now_is : new ≡ record { config = next.config; base = it.base; public = new.public }
  now_is =
      let config = ap (λ (x : Imported P ghosts). x.config) it.puts.same in
      let base = ap (λ (x : Imported P ghosts). x.base) it.puts.same in
      λ i. record { config = config i; base = base i; public = new.public }
