-- A group that a plex has joined is whole.
use Rattle.std.proofs.Common.{◌≡◌, ◌∙◌, ℕ, ◌+◌, ◌++◌, refl, sym, ap, subst}
use Rattle.std.specs.Prelude.{IsSomeAnd, is_some}
use Rattle.std.specs.BTreeMap.{is_at}
use Rattle.std.specs.Cmp.Lexicographic.{slice_cmp}
use Rattle.std.specs.Ordering.{nat_cmp}
use Rattle.std.proofs.lemmas.List.{same_from_push}
use Rattle.vx_base.specs.Named.{Word}
use Rattle.vx_piece.specs.Seen.{Seen}
use Rattle.vx_pages.specs.declared.local_piece.LocalPiece.{Ghosts}
use Rattle.vx_carve.specs.Together.{SameSectors}
use Rattle.vx_layout.specs.declared.layout.Layout.{Layout}
use Rattle.vx_copies.specs.Disks.{CommitGoes}
use Rattle.vx_copies.specs.Lists.{AllOf, Each}
use Rattle.vx_confdb.specs.Groups.{members}
use Rattle.vx_volume.specs.Opening.{regions_seen}
use Rattle.vx_volume.specs.Volume.{IsVolume, volume_seen}
use Rattle.vx_lending.specs.RegionPieces.{all_pieces}
use Rattle.vx_lending.specs.Public.{lent_pieces, running_at, still_pieces}
use Rattle.vx_lending.specs.declared.public.Public.{Public}
use Rattle.vx_lending.specs.declared.public.Remains.{Remains}
use Rattle.vx_lending.specs.declared.public.Running.{Running}
use Rattle.vx_group_start.specs.Laying.{AreStuckVolumes}
use Rattle.vx_house.specs.View.{IsGroupWhole}
use Rattle.vx_house.specs.declared.house.Imported.{Imported}
use Rattle.vx_house.proofs.Laid.{parted_laid}
use Rattle.vx_house_calls.proofs.Entries.{IsSetAt, set_at}
use Rattle.vx_stage_changes.proofs.Stillness.{whole_now}
use Rattle.vx_stage_changes.specs.declared.planning.NextConfig.{NextConfig}
use Rattle.vx_stage_mirrors.specs.Joining.{IsJoinedIn, MayJoin, MayPut, runs_left}
use Rattle.vx_stage_mirrors.proofs.Others.{all_put}
use Rattle.vx_stage_mirrors.proofs.Pieces.{held_more, together}

module _ {P : Type 0} {ghosts : Ghosts P} (see : P → Seen) (alike : (p q : P) → is_some (see p).told ≡ is_some (see q).told) (g new : Imported P ghosts) (whole : IsGroupWhole see g)
    (name : Word) (m : ℕ) (l : Layout) (next : NextConfig) (room : ℕ) (may : MayJoin see m room g.public.left.items (running_at g.public name)) (joined : IsJoinedIn see name m l next g new) where
  abbrev before : Running P ghosts
  before = joined.runs.before

  abbrev after : Running P ghosts
  after = joined.runs.after

  -- ---- what was parked

  pub last_same : may.last ≡ joined.last
  last_same = (same_from_push may.before new.public.left.items may.last joined.last (sym may.left_is ∙ joined.left)).1

  pub may_put : MayPut see m (runs_left see joined.last) before
  may_put = subst (λ (x : Remains P ghosts). MayPut see m (runs_left see x) before) last_same (subst (λ o. IsSomeAnd o (MayPut see m (runs_left see may.last))) joined.runs.was may.may)

  -- ---- the commit

  -- the group whose commit is done
  abbrev pub committed : Imported P ghosts
  committed = record { config = next.config; base = new.base; public = g.public }

  pub commit_goes : Each (CommitGoes (g.base.sequence + 1) new.base.sequence next.text.items) (members see g.base) (members see new.base)
  commit_goes = joined.finished.tried.committed.goes

  pub whole_committed : IsGroupWhole see committed
  whole_committed = whole_now see g committed (g.base.sequence + 1) new.base.sequence next.text.items commit_goes refl whole

  -- ---- the pieces

  abbrev pub now : Imported P ghosts
  now = record { config = next.config; base = new.base; public = new.public }

  spot : IsSetAt g.public.running.entries new.public.running.entries before after
  spot = subst (λ es. IsSetAt g.public.running.entries es before after) (sym joined.runs.entries) (set_at (is_at (slice_cmp nat_cmp name)) before after g.public.running.entries joined.runs.was)

  pub same_pieces : SameSectors (still_pieces see g.public ++ lent_pieces see g.public) (still_pieces see new.public ++ lent_pieces see new.public)
  same_pieces = together see g.public new.public before after spot (ap (λ (p : Public P ghosts). p.stuck) joined.same) (all_pieces (regions_seen see joined.last.regions.items))
      joined.still
      (held_more see m (regions_seen see joined.last.regions.items) before after joined.runs.has.puts may_put.plex.count joined.runs.has.log)

  -- ---- its volumes

  volumes : AllOf (λ (e : Word × Running P ghosts). IsVolume (volume_seen see e.1.volume)) new.public.running.entries
  volumes = subst (λ es. AllOf (λ (e : Word × Running P ghosts). IsVolume (volume_seen see e.1.volume)) es) (sym joined.runs.entries)
      (all_put (λ n (r : Running P ghosts). IsVolume (volume_seen see r.volume)) (λ n (r : Running P ghosts). IsVolume (volume_seen see r.volume)) name (λ key r other is. is) g.public.running.entries after joined.runs.ordered whole.volumes joined.runs.has.whole)

  -- ---- the group

  pub now_whole : IsGroupWhole see now
  now_whole = record {
    parted = parted_laid see alike committed now refl whole_committed.parted same_pieces;
    volumes = volumes;
    stuck = subst (λ s. AreStuckVolumes see s) (sym (ap (λ (p : Public P ghosts). p.stuck.items) joined.same)) whole.stuck;
  }

  pub now_is : new ≡ now
  now_is = λ i. record { config = joined.config i; base = new.base; public = new.public }

  pub whole_joined : IsGroupWhole see new
  whole_joined = subst (IsGroupWhole see) (sym now_is) now_whole
