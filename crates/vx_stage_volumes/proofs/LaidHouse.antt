-- A volume that has come to rest is laid down: each moment of the house goes to the one without it.
use Rattle.std.proofs.Common.{◌≡◌, ◌∙◌, Bool, true, false, cond, List, [], ◌++◌, Some, None, refl, sym, ap, subst}
use Rattle.std.specs.Prelude.{is_some}
use Rattle.std.specs.BTreeMap.{is_at}
use Rattle.std.specs.Cmp.Lexicographic.{slice_cmp}
use Rattle.std.specs.Ordering.{nat_cmp}
use Rattle.std.specs.Str.{bytes_eq}
use Rattle.vx_pages.specs.declared.local_piece.LocalPiece.{Ghosts}
use Rattle.vx_base.specs.Named.{Word, put}
use Rattle.vx_base.proofs.NamedLemmas.{bytes_eq_same}
use Rattle.vx_piece.specs.Seen.{Seen}
use Rattle.vx_copies.specs.Disks.{good_mask}
use Rattle.vx_copies.specs.Lists.{AllOf}
use Rattle.vx_confdb.specs.Groups.{members}
use Rattle.vx_fronts.specs.Rests.{rests_of}
use Rattle.vx_moments.specs.Leaving.{grouped, lone}
use Rattle.vx_moments.specs.Moment.{Moment}
use Rattle.vx_moments.specs.World.{Volume, OnPlexes}
use Rattle.vx_lending.specs.declared.public.Public.{Public}
use Rattle.vx_lending.specs.declared.public.Running.{Running}
use Rattle.vx_lending.specs.Public.{lent_pieces, running_at, still_pieces}
use Rattle.vx_stages.specs.Stopping.{without_volume}
use Rattle.vx_house.specs.Holders.{group_holders}
use Rattle.vx_house.specs.Runs.{AreInPlace, AreRuns, IsAtRun, IsInPlace}
use Rattle.vx_house.specs.Scene.{Shelved}
use Rattle.vx_house.specs.View.{IsGroupKept, IsMoment, Keeps, at}
use Rattle.vx_house.specs.declared.house.House.{House}
use Rattle.vx_house.specs.declared.house.Imported.{Imported}
use Rattle.vx_house.proofs.Laid.{holders_laid, parted_laid}
use Rattle.vx_house_calls.specs.Passes.{with_group}
use Rattle.vx_house_calls.proofs.Moments.{lone_lies}
use Rattle.vx_stage_volumes.specs.Laying.{IsLaid}
use Rattle.vx_stage_volumes.proofs.Laid.{all_without, taken_at}
use Rattle.vx_stage_volumes.proofs.Otherwise.{IsHeldOtherwise, otherwise_keeps, otherwise_moment, sized_by}

module _ {P : Type 0} {ghosts : Ghosts P} (see : P → Seen) (alike : (p q : P) → is_some (see p).told ≡ is_some (see q).told) (g : Imported P ghosts) (public : Public P ghosts) (name : Word) (laid : IsLaid see name g.public public) (r : Running P ghosts) (was : running_at g.public name ≡ Some r) (kept : IsGroupKept see g) where
  -- the group with what is behind its fronts now
  abbrev pub laid_group : Imported P ghosts
  laid_group = record g { public = public }

  holders_now : group_holders see (Some laid_group) ≡ group_holders see (Some g)
  holders_now = holders_laid see alike g laid_group refl kept.whole.parted laid.together

  pub laid_held : IsHeldOtherwise see g laid_group
  laid_held = record { config = refl; base = refl; holders = holders_now }

  -- each of the others is in its place
  placed_now : AreInPlace see laid_group
  placed_now =
      let Q = λ (e : Word × Running P ghosts). IsInPlace see (members see g.base) g.config (good_mask (members see g.base)) e.0 e.1 in
      let out = taken_at (is_at (slice_cmp nat_cmp name)) r g.public.running.entries was in
      subst (AllOf Q) (sym (laid.entries ∙ out.is)) (all_without Q out.before (out.key, r) out.behind (subst (AllOf Q) out.was kept.placed)).0

  pub laid_kept : IsGroupKept see laid_group
  laid_kept = record {
    named = kept.named;
    text = kept.text;
    first = kept.first;
    carries = kept.carries;
    sized = sized_by (rests_of (still_pieces see g.public ++ lent_pieces see g.public) []) (rests_of (still_pieces see public ++ lent_pieces see public) []) (members see g.base) holders_now kept.sized;
    slots = kept.slots;
    recorded = kept.recorded;
    whole = record { parted = parted_laid see alike g laid_group refl kept.whole.parted laid.together; volumes = laid.volumes; stuck = laid.stuck };
    placed = placed_now;
  }

  module _ (shelf : Shelved) (h : House P ghosts) (has : h.group ≡ Some g) where
    pub laid_keeps : Keeps see (at shelf h) → Keeps see (at shelf (with_group h laid_group))
    laid_keeps keeps = otherwise_keeps see shelf h g laid_group has laid_held keeps laid_kept

    module _ (m : Moment) (is : IsMoment see (at shelf h) m) (volume : Volume) (there : m.world.volumes name ≡ Some volume) (plexes : List Word) (lies : volume.lies ≡ OnPlexes plexes) where
      alone : (x : Word) → lone (put name None m.world.volumes x) ≡ lone (m.world.volumes x)
      alone x = by (bytes_eq name x) refl
        where
          by : (b : Bool) → bytes_eq name x ≡ b → lone (cond b None (m.world.volumes x)) ≡ lone (m.world.volumes x)
          by false e = refl
          by true e = sym (ap (λ n. lone (m.world.volumes n)) (sym (bytes_eq_same name x e)) ∙ ap lone there ∙ lone_lies volume plexes lies)

      runs_then : AreRuns see (Some g) m.world.group m.world.volumes
      runs_then = subst (λ o. AreRuns see o m.world.group m.world.volumes) has is.runs_are

      runs_now : AreRuns see (Some laid_group) m.world.group (put name None m.world.volumes)
      runs_now x = subst (λ o. IsAtRun see (members see g.base) m.world.group x o (grouped (put name None m.world.volumes x))) (sym (laid.puts x)) (by (bytes_eq name x) refl)
        where
          by : (b : Bool) → bytes_eq name x ≡ b → IsAtRun see (members see g.base) m.world.group x (cond b None (running_at g.public x)) (grouped (cond b None (m.world.volumes x)))
          by false e = runs_then x
          by true e = tt

      pub laid_moment : IsMoment see (at shelf (with_group h laid_group)) (without_volume name m)
      laid_moment = otherwise_moment see shelf h g laid_group has laid_held m is (put name None m.world.volumes) alone runs_now
