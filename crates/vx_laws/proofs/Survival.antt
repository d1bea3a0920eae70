-- A group that could be let go is left on its devices where the power goes.
use Rattle.std.proofs.Common.{Option, sym, ◌∙◌, subst, inl, inr}
use Rattle.vx_base.specs.Named.{Word}
use Rattle.vx_moments.specs.World.{World, Member, Group}
use Rattle.vx_moments.specs.Holding.{IsLent, IsHeld, IsMemberDevice}
use Rattle.vx_moments.specs.Leaving.{group_gone, PowerGoes}
use Rattle.vx_stages.specs.Finding.{Candidate, IsCandidate}
use Rattle.vx_laws.specs.Returning.{IsKeptOn, nobody, good_members, IsLeftBehind, IsFull, EachGroupOutlivesPower}
use Rattle.vx_laws.proofs.ListFacts.{clash, all_map}
use Rattle.vx_laws.proofs.Commits.{just_lent, same_candidate}
use Rattle.vx_moments.proofs.Lone.{lent_still}

module _ (g : Group) (old new : World) (left : IsLeftBehind g (group_gone old)) (gone : PowerGoes old new) (apart : (c : Candidate) → IsCandidate g.config.group nobody new c → IsLent old c.name → ⊥) where
  -- nobody holds anything
  nothing_held : (name : Word) → IsHeld new name → ⊥
  nothing_held name (inl (vol, v, is, has)) = clash (new.volumes vol) v (gone.volumes vol) is
  nothing_held name (inr member) = subst (λ (o : Option Group). IsMemberDevice o name) gone.no_group member

  kept_still : (m : Member) → IsKeptOn g left.text (group_gone old) m → IsKeptOn g left.text new m
  kept_still m k = record {
    device = k.device;
    device_is = gone.others m.device (λ lent. k.free (inl (lent_still old m.device lent))) ∙ k.device_is;
    free = nothing_held m.device;
    header = k.header;
    recorded = k.recorded;
    current = k.current;
  }

  was : (c : Candidate) → IsCandidate g.config.group nobody new c → IsCandidate g.config.group nobody (group_gone old) c
  was c is = same_candidate g.config.group new (group_gone old) c (λ held. apart c is (just_lent old c.name held)) (sym (gone.others c.name (apart c is))) is

  left_still : IsLeftBehind g new
  left_still = record {
    no_group = gone.no_group;
    some = left.some;
    rising = left.rising;
    placed = left.placed;
    just_disks = left.just_disks;
    text = left.text;
    text_is = left.text_is;
    kept = all_map (IsKeptOn g left.text (group_gone old)) (IsKeptOn g left.text new) (good_members g) (λ m k. kept_still m k) left.kept;
    others = λ c is. left.others c (was c is);
  }

  full_still : IsFull g (group_gone old) → IsFull g new
  full_still full = record { all_good = full.all_good; packed = full.packed; alone = λ c is. full.alone c (was c is) }

pub each_group_outlives_power : EachGroupOutlivesPower
each_group_outlives_power = λ g old new left gone apart. (left_still g old new left gone apart, full_still g old new left gone apart)
