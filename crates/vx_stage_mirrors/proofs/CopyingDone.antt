-- The moment at which a running volume has been copied to: nothing is missing on the plexes, unless its log has failed.
use Rattle.std.proofs.Common.{◌≡◌, ◌∙◌, ◌⊎◌, ℕ, ◌<◌, Bool, true, false, cond, List, length, Option, Some, Ok, refl, sym, ap, subst, inl, inr}
use Rattle.std.specs.Prelude.{◌&&◌, Contains}
use Rattle.std.specs.List.{list_any}
use Rattle.std.specs.Str.{bytes_eq}
use Rattle.std.proofs.lemmas.Bool.{and_from, and_parts}
use Rattle.vx_pages.specs.declared.local_piece.LocalPiece.{Ghosts}
use Rattle.vx_base.specs.Named.{Word, put}
use Rattle.vx_base.proofs.NamedLemmas.{bytes_eq_same}
use Rattle.vx_mask.specs.Mask.{has}
use Rattle.vx_mask.proofs.Tests.{not_both}
use Rattle.vx_piece.specs.Seen.{Seen}
use Rattle.vx_core.specs.declared.stage.Phase.{Phase}
use Rattle.vx_core.specs.declared.stage.Phase.TheVariants.{Settled, Dead}
use Rattle.vx_copies.specs.Disks.{DiskSeen}
use Rattle.vx_confdb.specs.Groups.{members}
use Rattle.vx_config_parts.specs.declared.plex.Plex.{Plex}
use Rattle.vx_config_parts.specs.Objects.{is_data_plex_of, is_log_plex_of}
use Rattle.vx_objects.specs.declared.config.Config.{Config}
use Rattle.vx_image.proofs.PlexMembers.{any_in, in_any}
use Rattle.vx_image.proofs.Members.{contains, is_in}
use Rattle.vx_image.specs.Bytes.{map_or_zero}
use Rattle.vx_volume.specs.Volume.{VolumeSeen, cell_at, volume_seen}
use Rattle.vx_lending.specs.Public.{running_at}
use Rattle.vx_moments.specs.Lives.{volume_copied}
use Rattle.vx_moments.specs.Owners.{devices_on}
use Rattle.vx_group_volumes.specs.Copies.{AreOnIn, AreTight, AreUnmarked, RunsLike}
use Rattle.vx_group_volumes.proofs.Copied.{copy_unmarks_all, unmarked_misses_nothing}
use Rattle.vx_group_volumes.proofs.Plexes.{opened_plex, plex_now}
use Rattle.vx_volume_laws.specs.Exact.{IsExactVolume}
use Rattle.vx_moments.specs.Leaving.{grouped, lone}
use Rattle.vx_moments.specs.Moment.{Moment}
use Rattle.vx_moments.specs.World.{Group, OnPlexes, Volume, World}
use Rattle.vx_stages.specs.Logs.{LogIsSpared}
use Rattle.vx_stages.specs.Stopping.{ComesToRest, rested_volume}
use Rattle.vx_stages.specs.Touching.{VolumeGoes}
use Rattle.vx_group_volumes.specs.Opened.{opened_plexes}
use Rattle.vx_house.specs.Runs.{AreRuns, IsAtRun, IsRunOf}
use Rattle.vx_house.specs.Scene.{Shelved}
use Rattle.vx_house.specs.View.{IsMoment, at, group_of}
use Rattle.vx_house.specs.declared.house.House.{House}
use Rattle.vx_house.specs.declared.house.Imported.{Imported}
use Rattle.vx_house_calls.specs.Passes.{with_group}
use Rattle.vx_house_calls.proofs.Moments.{grouped_lies, lone_lies}
use Rattle.vx_stage_volumes.proofs.Otherwise.{otherwise_moment}
use Rattle.vx_stage_mirrors.specs.MarkingLaws.{IsMarkedAt}
use Rattle.vx_stage_mirrors.specs.Copying.{CopiesOne}
use Rattle.vx_stage_mirrors.specs.CopyingLaws.{AreToCopy, HasCopied, HasPlexToCopy}

some_one : {X : Type 0} (x y : X) → Some x ≡ Some y → x ≡ y
some_one x y e = cc

put_again : {X : Type 0} (name : Word) (o o' : Option X) (f : Word → Option X) → put name o' (put name o f) ≡ put name o' f
put_again {X = X} name o o' f = λ i x. by (bytes_eq name x) (f x) i
  where
    by : (b : Bool) (y : Option X) → cond b o' (cond b o y) ≡ cond b o' y
    by true y = refl
    by false y = refl

-- ---- whether a log is spared

-- a device that the log plex of the volume lies on has failed
abbrev log_fails : Group → Word → (Word → Bool) → Plex → Bool
log_fails g name failed p = is_log_plex_of name p && list_any failed (devices_on g p)

log_spared : (g : Group) (name : Word) (failed : Word → Bool) → LogIsSpared g name failed ⊎ (LogIsSpared g name failed → ⊥)
log_spared g name failed = by (list_any (log_fails g name failed) g.config.plexes) refl
  where
    spared : list_any (log_fails g name failed) g.config.plexes ≡ false → LogIsSpared g name failed
    spared none p there log device on = not_so (failed device) (λ up.
        not_both (in_any (log_fails g name failed) g.config.plexes p (is_in g.config.plexes p there) (and_from (is_log_plex_of name p) (list_any failed (devices_on g p)) log (in_any failed (devices_on g p) device (is_in (devices_on g p) device on) up))) none)
      where
        not_so : (b : Bool) → (b ≡ true → ⊥) → b ≡ false
        not_so true never = absurd (never refl)
        not_so false never = refl

    lost : list_any (log_fails g name failed) g.config.plexes ≡ true → LogIsSpared g name failed → ⊥
    lost any spared =
        let p = any_in (log_fails g name failed) g.config.plexes any in
        let both = and_parts (is_log_plex_of name p.0) (list_any failed (devices_on g p.0)) p.2 in
        let d = any_in failed (devices_on g p.0) both.1 in
        not_both d.2 (spared p.0 (contains g.config.plexes p.0 p.1) both.0 d.0 (contains (devices_on g p.0) d.0 d.1))

    by : (b : Bool) → list_any (log_fails g name failed) g.config.plexes ≡ b → LogIsSpared g name failed ⊎ (LogIsSpared g name failed → ⊥)
    by true any = inr (lost any)
    by false none = inl (spared none)

not_dead : (p : Phase) → p ≡ Settled → p ≡ Dead → ⊥
not_dead p is dead = let e : Settled ≡ Dead = sym is ∙ dead in cc

-- ---- the moment

module _ {P : Type 0} {ghosts : Ghosts P} (shelf : Shelved) (h : House P ghosts) (g now : Imported P ghosts) (has_group : h.group ≡ Some g) (name : Word) (mask n : ℕ)
    (one : CopiesOne ghosts.seen name mask (Ok n) g.public.running now.public.running) (same : now ≡ record g { public = record g.public { running = now.public.running } })
    (m : Moment) (at_m : IsMoment ghosts.seen (at shelf h) m) (marked : IsMarkedAt ghosts.seen shelf (with_group h now) (members ghosts.seen g.base) name one.before one.after m)
    (some : HasPlexToCopy mask one.before) (copied : Word → Bool) (to : AreToCopy g.config name mask one.before copied) where
  abbrev see : P → Seen
  see = ghosts.seen

  abbrev hs : List DiskSeen
  hs = members see g.base

  abbrev mid : House P ghosts
  mid = with_group h now

  abbrev becomes : VolumeSeen
  becomes = volume_seen see one.after.volume

  abbrev rest : ComesToRest name m marked.then
  rest = marked.rest

  abbrev gm : Group
  gm = rest.group

  abbrev left : Volume
  left = rested_volume rest

  abbrev run : IsRunOf see hs gm name one.after left
  run = marked.run

  config_is : gm.config ≡ g.config
  config_is = ap (λ (x : Group). x.config) (some_one gm _ (sym rest.here ∙ at_m.group_is ∙ ap (group_of see) has_group))

  -- the map is on in each region, if it is on in the form
  on_in : (k : ℕ) → has one.before.form.shape.on k ≡ true → (r : ℕ) → r < length becomes.cells → has (cell_at becomes r).stage.on k ≡ true
  on_in k on r lt = ap (λ mask. has mask k) (run.placed.runs.lies.lies.masks r lt).on ∙ ap (λ f. has f.shape.on k) one.form ∙ on

  are_on : AreOnIn mask becomes run.plexes copied
  are_on p one_of to_it =
      let o = run.placed.runs.opening in
      let was = opened_plex o run.plexes run.plexes_then p one_of in
      let q = plex_now o.config o.good o.vol o.fresh gm.config gm.good run.of run.placed.runs.keeps was.plex was.there was.data_is in
      let name_is : q.plex.name ≡ p.name = q.keeps.name ∙ was.name_is in
      let map_is : map_or_zero q.plex.map ≡ p.map = q.keeps.map ∙ was.map_is in
      let here : Contains g.config.plexes q.plex = subst (λ (c : Config). Contains c.plexes q.plex) config_is (contains gm.config.plexes q.plex q.there) in
      let c = to q.plex here (subst (λ x. is_data_plex_of x q.plex ≡ true) run.named q.data_is) (subst (λ x. copied x ≡ true) (sym name_is) to_it) in
      record {
        low = subst (λ k. k < 64) map_is c.low;
        in_mask = subst (λ k. has mask k ≡ true) map_is c.in_mask;
        on = λ r lt. subst (λ k. has (cell_at becomes r).stage.on k ≡ true) map_is (on_in (map_or_zero q.plex.map) c.on r lt);
      }

  unmarked : AreUnmarked mask becomes
  unmarked = copy_unmarks_all mask n (volume_seen see one.before.volume) becomes one.copied

  has_copies : 0 < becomes.log.copies
  has_copies =
      let l = run.placed.runs.lies.lies in
      let long : becomes.log.copies ≡ length one.before.form.logs.items = l.log.count ∙ l.logs.long ∙ ap (λ f. length f.logs.items) one.form in
      subst (λ c. 0 < c) (sym long) some.logged

  tight : IsExactVolume becomes → AreTight becomes
  tight exact r k lt = (exact r 0 lt (not_dead _ (unmarked r some.map lt some.low some.in_mask (on_in some.map some.on r lt)).settled) has_copies).tight k

  -- ---- the volume that is copied to

  abbrev whole : Volume
  whole = volume_copied copied left

  module _ (like : left.sound ≡ true → RunsLike run.plexes becomes left whole) where
    run_whole : IsRunOf see hs gm name one.after whole
    run_whole = record {
      of = run.of;
      named = run.named;
      started = run.started;
      numbers = run.numbers;
      own = run.own;
      placed = run.placed;
      opened = run.opened;
      numbered = run.numbered;
      lies = run.lies;
      length_is = run.length_is;
      region_is = run.region_is;
      plexes = run.plexes;
      plexes_of = run.plexes_of;
      plexes_then = run.plexes_then;
      runs_as = λ sound. (like sound).runs;
      sure = λ sound. (like sound).sure (run.sure sound);
      exact = run.exact;
    }

    abbrev volumes : Word → Option Volume
    volumes = put name (Some whole) marked.then.world.volumes

    abbrev then : Moment
    then = record { world = record marked.then.world { volumes = volumes }; counts = marked.then.counts }

    base_same : now.base ≡ g.base
    base_same = ap (λ (x : Imported P ghosts). x.base) same

    lies_now : left.lies ≡ OnPlexes (opened_plexes run.placed.runs.opening)
    lies_now = run.lies

    alone : (x : Word) → lone (volumes x) ≡ lone (marked.then.world.volumes x)
    alone x = by (bytes_eq name x) refl
      where
        by : (b : Bool) → bytes_eq name x ≡ b → lone (cond b (Some whole) (marked.then.world.volumes x)) ≡ lone (marked.then.world.volumes x)
        by false e = refl
        by true e = lone_lies whole _ lies_now ∙ sym (ap (λ y. lone (marked.then.world.volumes y)) (sym (bytes_eq_same name x e)) ∙ ap lone marked.there ∙ lone_lies left _ lies_now)

    runs_then : AreRuns see (Some now) (Some gm) marked.then.world.volumes
    runs_then = subst (λ o. AreRuns see (Some now) o marked.then.world.volumes) marked.group marked.is.runs_are

    runs_now : AreRuns see (Some now) (Some gm) volumes
    runs_now x = by (bytes_eq name x) refl
      where
        there : (b : Bool) → bytes_eq name x ≡ b → running_at now.public x ≡ cond b (Some one.after) (running_at g.public x)
        there b e = one.puts x ∙ ap (λ c. cond c (Some one.after) (running_at g.public x)) e

        by : (b : Bool) → bytes_eq name x ≡ b → IsAtRun see (members see now.base) (Some gm) x (running_at now.public x) (grouped (cond b (Some whole) (marked.then.world.volumes x)))
        by false e = runs_then x
        by true e =
            subst (λ o. IsAtRun see (members see now.base) (Some gm) x o (grouped (Some whole))) (sym (there true e))
            (subst (λ b. IsAtRun see (members see b) (Some gm) x (Some one.after) (grouped (Some whole))) (sym base_same)
            (subst (λ y. IsAtRun see hs (Some gm) y (Some one.after) (grouped (Some whole))) (bytes_eq_same name x e)
            (subst (λ o. IsAtRun see hs (Some gm) name (Some one.after) o) (sym (grouped_lies whole _ lies_now)) run_whole)))

    is_then : IsMoment see (at shelf mid) then
    is_then = otherwise_moment see shelf mid now now refl (record { config = refl; base = refl; holders = refl }) marked.then marked.is volumes alone (subst (λ o. AreRuns see (Some now) o volumes) (sym marked.group) runs_now)

    goes_then : VolumeGoes gm name whole m then
    goes_then = record {
      world =
          ap (λ (w : World). record w { volumes = put name (Some whole) w.volumes }) rest.goes.world
          ∙ ap (λ (v : Word → Option Volume). record m.world { devices = marked.then.world.devices; volumes = v }) (put_again name (Some left) (Some whole) m.world.volumes);
      changes = rest.goes.changes;
      calls = rest.goes.calls;
    }

    copied_then : (t : Moment) × IsMoment see (at shelf mid) t × HasCopied name copied m t
    copied_then = (
      then,
      is_then,
      record {
        group = gm;
        here = rest.here;
        plexes = rest.plexes;
        volume = rest.volume;
        there = rest.there;
        lies = rest.lies;
        failed = rest.failed;
        have_failed = rest.have_failed;
        after = marked.later;
        later = whole;
        becomes = inl refl;
        goes = goes_then;
      },
    )

  -- a device of the log has failed: it is as its devices have left it
  left_then : (LogIsSpared gm name left.failed → ⊥) → (t : Moment) × IsMoment see (at shelf mid) t × HasCopied name copied m t
  left_then lost = (
    marked.then,
    marked.is,
    record {
      group = gm;
      here = rest.here;
      plexes = rest.plexes;
      volume = rest.volume;
      there = rest.there;
      lies = rest.lies;
      failed = rest.failed;
      have_failed = rest.have_failed;
      after = marked.later;
      later = left;
      becomes = inr (lost, refl);
      goes = rest.goes;
    },
  )

  pub copied_at : (t : Moment) × IsMoment see (at shelf mid) t × HasCopied name copied m t
  copied_at = elim (log_spared gm name left.failed) [
    | inl spared ↦ copied_then (λ sound. unmarked_misses_nothing mask becomes one.whole unmarked (tight (run.exact sound spared)) run.plexes left (run.runs_as sound) copied are_on)
    | inr lost ↦ left_then lost
  ]
