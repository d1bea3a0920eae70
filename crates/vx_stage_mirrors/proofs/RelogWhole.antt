-- A group of which a running volume has another log, once its records are committed, is whole; and the new log tells what it holds.
use Rattle.std.proofs.Common.{◌≡◌, ◌∙◌, ℕ, suc, ◌+◌, ◌-◌, ◌<◌, Bool, true, false, cond, List, [], ◌∷◌, ◌++◌, length, Option, Some, None, refl, sym, ap, subst, arith, append_assoc}
use Rattle.std.specs.Prelude.{IfSome, is_some, nat_lt, slice_index_or}
use Rattle.std.specs.BTreeMap.{is_at}
use Rattle.std.specs.Cmp.Lexicographic.{slice_cmp}
use Rattle.std.specs.List.{All, flat_map}
use Rattle.std.specs.Option.{option_map}
use Rattle.std.specs.Ordering.{nat_cmp}
use Rattle.std.proofs.lemmas.Bool.{false≢true}
use Rattle.std.proofs.lemmas.Grind.{flat_map-append}
use Rattle.std.proofs.lemmas.List.Elements.{All-cons, All-head, All-nil, All-tail}
use Rattle.vx_base.specs.Blocks.{Contents}
use Rattle.vx_base.specs.Named.{Word}
use Rattle.vx_piece.specs.Seen.{Seen}
use Rattle.vx_runs.specs.Part.{Tells}
use Rattle.vx_runs.specs.Run.{EachPiece, RunTells}
use Rattle.vx_pages.specs.declared.local_piece.LocalPiece.{Ghosts}
use Rattle.vx_pages.specs.Items.{item_at}
use Rattle.vx_pages.specs.Sector.{KeepsPiece}
use Rattle.vx_cut.specs.Same.{HasSome, SectorSeen, run_at, sector_in}
use Rattle.vx_layout.specs.declared.layout.Layout.{Layout}
use Rattle.vx_layout.specs.declared.run.Run.{Run}
use Rattle.vx_layout.specs.declared.strip.Strip.{Strip}
use Rattle.vx_layout.specs.Runs.{AreRuns}
use Rattle.vx_carve.specs.Carved.{ArePieces}
use Rattle.vx_carve.specs.Together.{AreOnce, SameSectors}
use Rattle.vx_carve.proofs.Runs.{once_rest}
use Rattle.vx_carve.proofs.Same.{same_beside, same_refl, same_trans}
use Rattle.vx_maps.specs.Copies.{SameRuns}
use Rattle.vx_maps.specs.Creating.{AllTell as EachTells}
use Rattle.vx_maps.specs.Going.{CopiesGo, CutCopiesGo}
use Rattle.vx_cell.specs.Changes.{CellSeen, IsRenewed, first_as_zero}
use Rattle.vx_cell.specs.Plexes.{PlexSeen}
use Rattle.vx_objects.specs.declared.edit.Edit.{Edit}
use Rattle.vx_copies.specs.Disks.{CommitGoes}
use Rattle.vx_copies.specs.Lists.{AllOf, Each}
use Rattle.vx_confdb.specs.Groups.{members}
use Rattle.vx_confdb.specs.declared.group.Group.{Group as Base}
use Rattle.vx_fronts.specs.Parted.{fronts_of}
use Rattle.vx_fronts.specs.Rests.{AllTell, IsTelling}
use Rattle.vx_fronts.proofs.Behind.{pieces_tell, turned, turned_back}
use Rattle.vx_fronts.proofs.Parted.{all_parts, parted_once}
use Rattle.vx_volume.specs.declared.log.VolumeLog.{VolumeLog}
use Rattle.vx_volume.specs.Log.{log_seen}
use Rattle.vx_volume.specs.Logging.{ChangesLog}
use Rattle.vx_volume.specs.Volume.{IsVolume, log_of, no_cell, volume_seen}
use Rattle.vx_lending.specs.Left.{held_pieces, region_plexes}
use Rattle.vx_lending.specs.Logs.{log_pieces}
use Rattle.vx_lending.specs.Pieces.{copy_pieces}
use Rattle.vx_lending.specs.Public.{lent_pieces, running_pieces, still_pieces, stuck_pieces}
use Rattle.vx_lending.specs.RegionPieces.{all_pieces, pieces_of}
use Rattle.vx_lending.specs.Taken.{AreTakenCopies}
use Rattle.vx_lending.specs.declared.public.Public.{Public}
use Rattle.vx_lending.specs.declared.public.Running.{Running}
use Rattle.vx_lending.proofs.Counts.{behind_first, in_first}
use Rattle.vx_volume_laws.proofs.OpenedImages.{some_of}
use Rattle.vx_group_start.specs.Laying.{AreStuckVolumes}
use Rattle.vx_house.specs.Scene.{Shelved}
use Rattle.vx_house.specs.View.{IsGroupKept, IsGroupWhole, Keeps, at}
use Rattle.vx_house.specs.declared.house.House.{House}
use Rattle.vx_house.specs.declared.house.Imported.{Imported}
use Rattle.vx_house.proofs.Laid.{parted_laid}
use Rattle.vx_house_calls.proofs.Entries.{IsSetAt, flat_around, set_at}
use Rattle.vx_stage_changes.specs.Committing.{IsFinished}
use Rattle.vx_stage_changes.specs.declared.planning.NextConfig.{NextConfig}
use Rattle.vx_stage_changes.proofs.Stillness.{whole_now}
use Rattle.vx_stage_mirrors.proofs.Others.{all_put}
use Rattle.vx_stage_mirrors.specs.LogMoments.{IsRelogPlanned}
use Rattle.vx_stage_mirrors.specs.Relogging.{IsNewLog, IsPowered, RelogsIn}

-- ---- what was done

-- the group whose commit is done
abbrev pub committed_by : {P : Type 0} {ghosts : Ghosts P} → Imported P ghosts → NextConfig → Base P → Imported P ghosts
committed_by g next base = record { config = next.config; base = base; public = g.public }

-- The records of a volume were committed, as was planned, and then its running volume got the log.
pub record IsRelog {P : Type 0} {ghosts : Ghosts P} (shelf : Shelved) (h : House P ghosts) (g new : Imported P ghosts) (name : Word) (edits : List Edit) (next : NextConfig) (layouts : List Layout) (log : VolumeLog P ghosts) : Type 0 where
  pub alike : (p q : P) → is_some (ghosts.seen p).told ≡ is_some (ghosts.seen q).told
  pub has_group : h.group ≡ Some g
  pub keeps : Keeps ghosts.seen (at shelf h)
  pub plan : IsRelogPlanned ghosts.seen g name edits next layouts
  pub base : Base P
  pub finished : IsFinished ghosts.seen next.text.items g.base base
  pub relogs : RelogsIn ghosts.seen name log layouts (committed_by g next base) new
  pub powered : IsPowered ghosts.seen relogs.runs.before
  pub fresh : IsNewLog ghosts.seen plan.numbers relogs.runs.before.form.shape.geometry layouts log

-- ---- the pieces

-- a region has the pieces that it had
own_first : (ps : List PlexSeen) → pieces_of (first_as_zero ps) ≡ pieces_of ps
own_first [] = refl
own_first (p ∷ ps) = refl

-- .. and so have all
regions_keep : (logged : Bool) (xs ys : List CellSeen) → length ys ≡ length xs → ((r : ℕ) → r < length xs → IsRenewed logged (item_at no_cell xs r) (item_at no_cell ys r)) → all_pieces (region_plexes ys) ≡ all_pieces (region_plexes xs)
regions_keep logged [] [] size each = refl
regions_keep logged [] (y ∷ ys) size each = absurd (omega (arith, size))
regions_keep logged (x ∷ xs) [] size each = absurd (omega (arith, size))
regions_keep logged (x ∷ xs) (y ∷ ys) size each =
    let first : pieces_of y.plexes ≡ pieces_of x.plexes = ap (λ (c : CellSeen). pieces_of c.plexes) (each 0 (omega arith)) ∙ own_first x.plexes in
    let rest = regions_keep logged xs ys (omega (arith, size)) (λ r lt. each (suc r) (omega (arith, lt))) in
    λ i. first i ++ rest i

-- the log is taken out of a running volume, ..
taken_out : (S F R L T : List Seen) → SameSectors (S ++ (F ++ ((R ++ L) ++ T))) ((L ++ S) ++ (F ++ (R ++ T)))
taken_out S F R L T =
    subst (λ ps. SameSectors ps ((L ++ S) ++ (F ++ (R ++ T)))) (behind S F R L T)
    (subst (SameSectors ((S ++ (F ++ R)) ++ (L ++ T))) (front S F R L T) (turned_back L (S ++ (F ++ R)) T))
  where
    behind : (s f r l t : List Seen) → (s ++ (f ++ r)) ++ (l ++ t) ≡ s ++ (f ++ ((r ++ l) ++ t))
    behind s f r l t = simp append_assoc

    front : (s f r l t : List Seen) → (l ++ (s ++ (f ++ r))) ++ t ≡ (l ++ s) ++ (f ++ (r ++ t))
    front s f r l t = simp append_assoc

-- .. or put into it
put_in : (S F R L T : List Seen) → SameSectors ((L ++ S) ++ (F ++ (R ++ T))) (S ++ (F ++ ((R ++ L) ++ T)))
put_in S F R L T =
    subst (λ ps. SameSectors ps (S ++ (F ++ ((R ++ L) ++ T)))) (front S F R L T)
    (subst (SameSectors ((L ++ (S ++ (F ++ R))) ++ T)) (behind S F R L T) (turned L (S ++ (F ++ R)) T))
  where
    behind : (s f r l t : List Seen) → (s ++ (f ++ r)) ++ (l ++ t) ≡ s ++ (f ++ ((r ++ l) ++ t))
    behind s f r l t = simp append_assoc

    front : (s f r l t : List Seen) → (l ++ (s ++ (f ++ r))) ++ t ≡ (l ++ s) ++ (f ++ (r ++ t))
    front s f r l t = simp append_assoc

module _ {P : Type 0} {ghosts : Ghosts P} (see : P → Seen) where
  -- all pieces behind the fronts are together what they were
  pieces_swapped : (old new : Public P ghosts) (before after : Running P ghosts) → IsSetAt old.running.entries new.running.entries before after → new.stuck ≡ old.stuck →
      (log : VolumeLog P ghosts) → log_of after.volume ≡ log → ChangesLog (log_seen see log) (volume_seen see before.volume) (volume_seen see after.volume) →
      SameSectors (log_pieces see (log_of before.volume) ++ still_pieces see old) (log_pieces see log ++ still_pieces see new) →
      SameSectors (still_pieces see old ++ lent_pieces see old) (still_pieces see new ++ lent_pieces see new)
  pieces_swapped old new before after at stuck log is_log changes pieces =
      let O = still_pieces see old in
      let N = still_pieces see new in
      let F = flat_map (running_pieces see) at.before in
      let B = flat_map (running_pieces see) at.behind in
      let S = flat_map (stuck_pieces see) old.stuck.items in
      let R = all_pieces (region_plexes (volume_seen see before.volume).cells) in
      let L = log_pieces see (log_of before.volume) in
      let M = log_pieces see log in
      let regions : all_pieces (region_plexes (volume_seen see after.volume).cells) ≡ R =
      regions_keep (log_seen see log).there (volume_seen see before.volume).cells (volume_seen see after.volume).cells changes.cells.size changes.cells.each in
      let held : held_pieces see after.volume ≡ R ++ M = λ i. regions i ++ log_pieces see (is_log i) in
      let was : lent_pieces see old ≡ F ++ ((R ++ L) ++ (B ++ S)) = ap (λ es. flat_map (running_pieces see) es ++ S) at.was ∙ flat_around (running_pieces see) at.before (at.key, before) at.behind S in
      let is : lent_pieces see new ≡ F ++ ((R ++ M) ++ (B ++ S)) =
      ap (λ s. flat_map (running_pieces see) new.running.entries ++ flat_map (stuck_pieces see) s.items) stuck
      ∙ ap (λ es. flat_map (running_pieces see) es ++ S) at.is ∙ flat_around (running_pieces see) at.before (at.key, after) at.behind S
      ∙ ap (λ ps. F ++ (ps ++ (B ++ S))) held in
      subst (λ ps. SameSectors (O ++ ps) (N ++ lent_pieces see new)) (sym was)
      (subst (λ ps. SameSectors (O ++ (F ++ ((R ++ L) ++ (B ++ S)))) (N ++ ps)) (sym is)
      (same_trans (O ++ (F ++ ((R ++ L) ++ (B ++ S)))) ((L ++ O) ++ (F ++ (R ++ (B ++ S)))) (N ++ (F ++ ((R ++ M) ++ (B ++ S))))
      (taken_out O F R L (B ++ S))
      (same_trans ((L ++ O) ++ (F ++ (R ++ (B ++ S)))) ((M ++ N) ++ (F ++ (R ++ (B ++ S)))) (N ++ (F ++ ((R ++ M) ++ (B ++ S))))
      (same_beside (F ++ (R ++ (B ++ S))) (L ++ O) (M ++ N) pieces)
      (put_in N F R M (B ++ S)))))

-- ---- the group is whole

module _ {P : Type 0} {ghosts : Ghosts P} {shelf : Shelved} {h : House P ghosts} {g new : Imported P ghosts} {name : Word} {edits : List Edit} {next : NextConfig} {layouts : List Layout} {log : VolumeLog P ghosts} (it : IsRelog shelf h g new name edits next layouts log) where
  abbrev see : P → Seen
  see = ghosts.seen

  abbrev before : Running P ghosts
  before = it.relogs.runs.before

  abbrev after : Running P ghosts
  after = it.relogs.runs.after

  pub kept : IsGroupKept ghosts.seen g
  kept = subst (λ o. IfSome o (IsGroupKept see)) it.has_group it.keeps.house.group

  -- ---- the commit

  abbrev committed : Imported P ghosts
  committed = committed_by g next it.base

  pub commit_goes : Each (CommitGoes (g.base.sequence + 1) it.base.sequence next.text.items) (members ghosts.seen g.base) (members ghosts.seen it.base)
  commit_goes = it.finished.tried.committed.goes

  pub whole_committed : IsGroupWhole ghosts.seen (committed_by g next it.base)
  whole_committed = whole_now see g committed (g.base.sequence + 1) it.base.sequence next.text.items commit_goes refl kept.whole

  -- ---- the pieces

  abbrev now : Imported P ghosts
  now = record { config = next.config; base = it.base; public = new.public }

  spot : IsSetAt g.public.running.entries new.public.running.entries before after
  spot = subst (λ es. IsSetAt g.public.running.entries es before after) (sym it.relogs.runs.entries) (set_at (is_at (slice_cmp nat_cmp name)) before after g.public.running.entries it.relogs.runs.was)

  stuck_same : new.public.stuck ≡ g.public.stuck
  stuck_same = ap (λ (x : Imported P ghosts). x.public.stuck) it.relogs.same

  pub same_pieces : SameSectors (still_pieces ghosts.seen g.public ++ lent_pieces ghosts.seen g.public) (still_pieces ghosts.seen new.public ++ lent_pieces ghosts.seen new.public)
  same_pieces = pieces_swapped see g.public new.public before after spot stuck_same log it.relogs.runs.has.log_is it.relogs.runs.has.changes it.relogs.pieces

  -- ---- its volumes

  volumes : AllOf (λ (e : Word × Running P ghosts). IsVolume (volume_seen see e.1.volume)) new.public.running.entries
  volumes = subst (λ es. AllOf (λ (e : Word × Running P ghosts). IsVolume (volume_seen see e.1.volume)) es) (sym it.relogs.runs.entries)
      (all_put (λ n (r : Running P ghosts). IsVolume (volume_seen see r.volume)) (λ n (r : Running P ghosts). IsVolume (volume_seen see r.volume)) name (λ key r other is. is) g.public.running.entries after it.relogs.runs.ordered kept.whole.volumes it.relogs.runs.has.whole)

  -- ---- the group

  pub now_whole : IsGroupWhole ghosts.seen (record { config = next.config; base = it.base; public = new.public })
  now_whole = record {
    parted = parted_laid see it.alike committed now refl whole_committed.parted same_pieces;
    volumes = volumes;
    stuck = subst (λ s. AreStuckVolumes see s) (sym (ap (λ (x : Imported P ghosts). x.public.stuck.items) it.relogs.same)) kept.whole.stuck;
  }

  pub now_is : new ≡ record { config = next.config; base = it.base; public = new.public }
  now_is =
      let config = ap (λ (x : Imported P ghosts). x.config) it.relogs.same in
      let base = ap (λ (x : Imported P ghosts). x.base) it.relogs.same in
      λ i. record { config = config i; base = base i; public = new.public }

  -- ---- what its log tells

  once : AreOnce (still_pieces see g.public ++ lent_pieces see g.public)
  once =
      let fronts = fronts_of (members see g.base) in
      let behind = still_pieces see g.public ++ lent_pieces see g.public in
      once_rest (fronts ++ behind) fronts behind (parted_once (members see g.base) behind kept.whole.parted) (same_refl (fronts ++ behind))

  -- the new log tells what it holds, where all pieces did
  pub log_told : AllTell (still_pieces ghosts.seen g.public ++ lent_pieces ghosts.seen g.public) → AllTell (log_pieces ghosts.seen log)
  log_told tells =
      let all = pieces_tell (still_pieces see g.public ++ lent_pieces see g.public) (still_pieces see new.public ++ lent_pieces see new.public) once tells same_pieces in
      let lent = (all_parts IsTelling (still_pieces see new.public) (lent_pieces see new.public) all).1 in
      let runs = (all_parts IsTelling (flat_map (running_pieces see) new.public.running.entries) (flat_map (stuck_pieces see) new.public.stuck.items) lent).0 in
      let split = subst AllTell (ap (flat_map (running_pieces see)) spot.is ∙ flat_map-append (running_pieces see) spot.before ((spot.key, after) ∷ spot.behind)) runs in
      let behind = (all_parts IsTelling (flat_map (running_pieces see) spot.before) (held_pieces see after.volume ++ flat_map (running_pieces see) spot.behind) split).1 in
      let held = (all_parts IsTelling (held_pieces see after.volume) (flat_map (running_pieces see) spot.behind) behind).0 in
      subst (λ (l : VolumeLog P ghosts). AllTell (log_pieces see l)) it.relogs.runs.has.log_is
      (all_parts IsTelling (all_pieces (region_plexes (volume_seen see after.volume).cells)) (log_pieces see (log_of after.volume)) held).1

-- ---- copies told what they hold before they were cut, where they do now

told_holds : (o : Option Contents) (k : ℕ) → is_some o ≡ true → is_some (option_map (λ (c : Contents). c k) o) ≡ true
told_holds None k is = is
told_holds (Some c) k is = refl

holds_told : (o : Option Contents) (k : ℕ) → is_some (option_map (λ (c : Contents). c k) o) ≡ true → Tells o
holds_told None k is = absurd (false≢true is)
holds_told (Some c) k is = tt

-- each sector of pieces that tell is told, ..
sector_told : (ps : List Seen) → AllTell ps → (k : ℕ) (x : SectorSeen) → run_at ps k ≡ Some x → is_some x.holds ≡ true
sector_told [] tells k x e = absurd (let none : None ≡ Some x = e in cc)
sector_told (p ∷ ps) tells k x e = by (nat_lt k p.sectors) e (sector_told ps (All-tail IsTelling p ps tells) (k - p.sectors) x)
  where
    by : (b : Bool) → cond b (Some (sector_in p k)) (run_at ps (k - p.sectors)) ≡ Some x → (run_at ps (k - p.sectors) ≡ Some x → is_some x.holds ≡ true) → is_some x.holds ≡ true
    by true here rest = let same : sector_in p k ≡ x = cc in subst (λ (y : SectorSeen). is_some y.holds ≡ true) same (told_holds p.told k (All-head IsTelling p ps tells))
    by false here rest = rest here

-- .. and pieces of which each sector is told tell, if none is empty
run_told : (ps : List Seen) → All HasSome ps → ((k : ℕ) (x : SectorSeen) → run_at ps k ≡ Some x → is_some x.holds ≡ true) → RunTells ps
run_told [] some each = tt
run_told (p ∷ ps) some each = (
  holds_told p.told 0 (each 0 (sector_in p 0) (in_first p ps 0 (All-head HasSome p ps some))),
  run_told ps (All-tail HasSome p ps some) (λ k x e. each (p.sectors + k) x (behind_first p ps k ∙ e)),
)

told_then : (ps qs : List Seen) → EachPiece KeepsPiece ps qs → AllTell qs → AllTell ps
told_then [] [] goes tells = All-nil IsTelling
told_then [] (q ∷ qs) goes tells = absurd goes
told_then (p ∷ ps) [] goes tells = absurd goes
told_then (p ∷ ps) (q ∷ qs) goes tells = All-cons IsTelling p ps (sym goes.0.tells ∙ All-head IsTelling q qs tells) (told_then ps qs goes.1 (All-tail IsTelling q qs tells))

copies_before : (xs ys zs : List (List Seen)) → SameRuns xs ys → CopiesGo KeepsPiece ys zs → ((k : ℕ) → k < length xs → All HasSome (slice_index_or xs k [])) → AllTell (copy_pieces zs) → EachTells xs
copies_before [] ys zs same goes some tells = tt
copies_before (x ∷ xs) [] zs same goes some tells = absurd same
copies_before (x ∷ xs) (y ∷ ys) [] same goes some tells = absurd goes
copies_before (x ∷ xs) (y ∷ ys) (z ∷ zs) same goes some tells =
    let both = all_parts IsTelling z (copy_pieces zs) tells in (
      run_told x (some 0 (omega arith)) (λ k s e. sector_told y (told_then y z goes.0 both.0) k s (same.0.each k ∙ e)),
      copies_before xs ys zs same.1 goes.1 (λ k lt. some (suc k) (omega (arith, lt))) both.1,
    )

-- no piece of a run of blocks is empty
pieces_some : (numbers : List ℕ) (unit : ℕ) (columns : List (List Strip)) (start end : ℕ) (runs : List Run) (ps : List Seen) → AreRuns unit columns start end runs → ArePieces numbers runs ps → All HasSome ps
pieces_some numbers unit columns start end [] [] are pieces = All-nil HasSome
pieces_some numbers unit columns start end [] (p ∷ ps) are pieces = absurd pieces
pieces_some numbers unit columns start end (run ∷ runs) [] are pieces = absurd pieces
pieces_some numbers unit columns start end (run ∷ runs) (p ∷ ps) are pieces =
    let some = are.1.some in
    let count = pieces.0.count_is in
    All-cons HasSome p ps (omega (arith, some, count)) (pieces_some numbers unit columns (start + run.count) end runs ps are.3 pieces.1)

pub copies_told_then : (numbers : List ℕ) (layouts : List Layout) (sectors : ℕ) (copies later : List (List Seen)) → AreTakenCopies numbers layouts sectors copies → CutCopiesGo KeepsPiece copies later → AllTell (copy_pieces later) → EachTells copies
copies_told_then numbers layouts sectors copies later taken goes tells =
    copies_before copies goes.cut later goes.same goes.goes
    (λ k lt.
    let long = taken.long in
    let low : k < length layouts = omega (arith, lt, long) in
    let d = some_of layouts k low in
    let cut = taken.cut k d low in
    pieces_some numbers (slice_index_or layouts k d).unit (slice_index_or layouts k d).columns 0 sectors cut.runs (slice_index_or copies k []) cut.are_runs cut.pieces)
    tells
