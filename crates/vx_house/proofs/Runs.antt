-- Running volumes of a group: none run, or those that did.
use Rattle.std.proofs.Common.{◌≡◌, true, false, Option, Some, None, [], ◌∷◌, refl, sym, ap, subst}
use Rattle.std.specs.Prelude.{List, IfSome, is_some}
use Rattle.vx_pages.specs.declared.local_piece.LocalPiece.{Ghosts}
use Rattle.vx_base.specs.Named.{Word}
use Rattle.vx_piece.specs.Seen.{Seen}
use Rattle.vx_copies.specs.Disks.{DiskSeen, good_mask}
use Rattle.vx_confdb.specs.Groups.{members}
use Rattle.vx_moments.specs.Leaving.{grouped, grouped_by, lone, lone_by}
use Rattle.vx_moments.proofs.Lone.{lone_all}
use Rattle.vx_moments.specs.World.{Volume, Group, World, Lies, OnDevice, OnPlexes}
use Rattle.vx_lending.specs.declared.public.Running.{Running}
use Rattle.vx_lending.specs.Public.{running_at}
use Rattle.vx_house.specs.Runs.{AllInPlace, AreInPlace, AreRuns, IsAtRun, IsInPlace, fronts_in, run_in}
use Rattle.vx_started.specs.declared.started.Started.{Started}
use Rattle.vx_house.specs.Holders.{volume_at}
use Rattle.vx_house.specs.Plain.{plain, told_volume}
use Rattle.vx_house.specs.View.{IsAtVolume, IsGroupIdle, RunsNone}
use Rattle.vx_house.specs.declared.house.House.{House}
use Rattle.vx_house.specs.declared.house.Imported.{Imported}
use Rattle.vx_house.proofs.AllLaws.{found_by_one, found_first, found_in}

module _ {P : Type 0} {ghosts : Ghosts P} (see : P → Seen) where
  -- an idle group has no running volume
  pub idle_runs : (g : Imported P ghosts) → IsGroupIdle g → (name : Word) → run_in (Some g) name ≡ None
  idle_runs g idle name = ap (λ es. found_in es name) idle.running

  -- where none is found by its name, there is none
  pub none_entries : (es : List (Word × Running P ghosts)) → ((name : Word) → found_in es name ≡ None) → es ≡ []
  none_entries [] none = refl
  none_entries (e ∷ es) none = absurd (no (found_first e es) (none e.0))
    where
      no : {X : Type 0} {o : Option X} {x : X} → o ≡ Some x → o ≡ None → ⊥
      no is gone = cc

  pub none_runs_in : (o : Option (Imported P ghosts)) → ((name : Word) → run_in o name ≡ None) → IfSome o RunsNone
  none_runs_in None none = tt
  none_runs_in (Some g) none = none_entries g.public.running.entries none

  pub none_found : (o : Option (Imported P ghosts)) → IfSome o RunsNone → (name : Word) → run_in o name ≡ None
  none_found None none name = refl
  none_found (Some g) none name = ap (λ es. found_in es name) none

  -- where none runs here, none does there
  pub none_there : (hs : List DiskSeen) (g : Option Group) (name : Word) (r : Option (Running P ghosts)) (w : Option Volume) → r ≡ None → IsAtRun see hs g name r w → w ≡ None
  none_there hs g name r None none is = refl
  none_there hs g name r (Some w) none is = absurd (subst (λ r. IsAtRun see hs g name r (Some w)) none is)

  pub none_at : (hs : List DiskSeen) (g : Option Group) (name : Word) (r : Option (Running P ghosts)) (w : Option Volume) → r ≡ None → w ≡ None → IsAtRun see hs g name r w
  none_at hs g name r w none gone = subst (λ r. IsAtRun see hs g name r w) (sym none) (subst (IsAtRun {ghosts = ghosts} see hs g name None) (sym gone) tt)

  pub none_grouped : (o : Option (Imported P ghosts)) (g : Option Group) (volumes : Word → Option Volume) → ((name : Word) → run_in o name ≡ None) → AreRuns see o g volumes → (name : Word) → grouped (volumes name) ≡ None
  none_grouped o g volumes none are name = none_there (fronts_in see o) g name (run_in o name) (grouped (volumes name)) (none name) (are name)

  pub none_are : (o : Option (Imported P ghosts)) (g : Option Group) (volumes : Word → Option Volume) → ((name : Word) → run_in o name ≡ None) → ((name : Word) → grouped (volumes name) ≡ None) → AreRuns see o g volumes
  none_are o g volumes none gone name = none_at (fronts_in see o) g name (run_in o name) (grouped (volumes name)) (none name) (gone name)

  -- none runs by another group either
  pub none_still : (o n : Option (Imported P ghosts)) (g f : Option Group) (volumes : Word → Option Volume) → ((name : Word) → run_in o name ≡ None) → ((name : Word) → run_in n name ≡ None) → AreRuns see o g volumes → AreRuns see n f volumes
  none_still o n g f volumes none none_now are = none_are n f volumes none_now (none_grouped o g volumes none are)

  -- where none runs, all that is started lies on whole devices
  pub all_alone : (h : House P ghosts) (w : World) → ((name : Word) → run_in h.group name ≡ None) → ((vol : Word) → IsAtVolume see (volume_at h vol) (lone (w.volumes vol))) → AreRuns see h.group w.group w.volumes → (vol : Word) → IsAtVolume see (volume_at h vol) (w.volumes vol)
  all_alone h w none volumes runs vol = subst (IsAtVolume see (volume_at h vol)) (lone_all (w.volumes vol) (none_grouped h.group w.group w.volumes none runs vol)) (volumes vol)

  -- a volume is started just where the house tells so
  pub told_same : (hs : List DiskSeen) (g : Option Group) (name : Word) (b : Option (Started P)) (r : Option (Running P ghosts)) (v : Option Volume) → IsAtVolume see b (lone v) → IsAtRun see hs g name r (grouped v) → is_some v ≡ is_some (told_volume b r)
  told_same hs g name b r None at run = by b r at run
    where
      by : (b : Option (Started P)) (r : Option (Running P ghosts)) → IsAtVolume see b None → IsAtRun see hs g name r None → false ≡ is_some (told_volume b r)
      by None None at run = refl
      by None (Some r) at run = absurd run
      by (Some b) r at run = absurd at
  told_same hs g name b r (Some w) at run = by w.lies b r at run
    where
      by : (lies : Lies) (b : Option (Started P)) (r : Option (Running P ghosts)) → IsAtVolume see b (lone_by lies w) → IsAtRun see hs g name r (grouped_by lies w) → true ≡ is_some (told_volume b r)
      by (OnDevice device) None r at run = absurd at
      by (OnDevice device) (Some b) r at run = refl
      by (OnPlexes plexes) None None at run = absurd run
      by (OnPlexes plexes) None (Some r) at run = refl
      by (OnPlexes plexes) (Some b) r at run = absurd at

  pub started_same : (h : House P ghosts) (w : World) → ((vol : Word) → IsAtVolume see (volume_at h vol) (lone (w.volumes vol))) → AreRuns see h.group w.group w.volumes → (vol : Word) → is_some (w.volumes vol) ≡ is_some ((plain see h).volumes vol)
  started_same h w volumes runs vol = told_same (fronts_in see h.group) w.group vol (volume_at h vol) (run_in h.group vol) (w.volumes vol) (volumes vol) (runs vol)

  -- ---- in their places

  -- where none runs, each is in its place
  pub none_in_place : (g : Imported P ghosts) → RunsNone g → AreInPlace see g
  none_in_place g none = subst (AllInPlace see (members see g.base) g.config (good_mask (members see g.base))) (sym none) tt

  -- one that runs is in its place
  pub place_at : (g : Imported P ghosts) → AreInPlace see g → (name : Word) (r : Running P ghosts) → running_at g.public name ≡ Some r → IsInPlace see (members see g.base) g.config (good_mask (members see g.base)) name r
  place_at g all name r is =
      let hs = members see g.base in
      found_by_one (λ (e : Word × Running P ghosts). IsInPlace see hs g.config (good_mask hs) e.0 e.1) g.public.running.entries name r is all
      (λ e key value place. subst (λ n. IsInPlace see hs g.config (good_mask hs) n r) key (subst (λ (x : Running P ghosts). IsInPlace see hs g.config (good_mask hs) e.0 x) value place))
