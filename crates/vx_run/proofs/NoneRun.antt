-- Where no recorded volume is started, none of the group runs.
use Rattle.std.proofs.Common.{◌≡◌, ◌∙◌, ◌⊎◌, Bool, true, false, if◌then◌else◌, List, [], ◌∷◌, Option, Some, None, refl, ap, subst, inl, inr}
use Rattle.std.specs.Prelude.{is_some}
use Rattle.vx_pages.specs.declared.local_piece.LocalPiece.{Ghosts}
use Rattle.vx_base.specs.Named.{Word}
use Rattle.vx_piece.specs.Seen.{Seen}
use Rattle.vx_config_parts.specs.declared.vol.Vol.{Vol}
use Rattle.vx_image.proofs.PlexMembers.{IsIn}
use Rattle.vx_script_words.specs.declared.value.DiskAt.{DiskAt}
use Rattle.vx_started.specs.declared.started.Started.{Started}
use Rattle.vx_moments.specs.Leaving.{grouped}
use Rattle.vx_moments.specs.World.{Group, Volume}
use Rattle.vx_moments.specs.Moment.{Moment}
use Rattle.vx_lending.specs.declared.public.Running.{Running}
use Rattle.vx_stages.specs.Tests.{earlier, fails, first_started, in_use_by, started_of}
use Rattle.vx_config_parts.specs.Objects.{comes_before}
use Rattle.vx_stages.specs.declared.test.Test.TheVariants as tests
use Rattle.vx_house.specs.Holders.{volume_at}
use Rattle.vx_house.specs.Plain.{plain, told_volume}
use Rattle.vx_house.specs.Runs.{IsAtRun, fronts_in, run_in}
use Rattle.vx_house.specs.View.{View, IsMoment, group_of}
use Rattle.vx_house.proofs.Recorded.{recorded_run}

-- the first of two names is one of them
one_first : (name : Word) (o : Option Word) → earlier name o ≡ None → ⊥
one_first name None is = cc
one_first name (Some other) is = by (comes_before other name) is
  where
    by : (b : Bool) → (if b then Some other else Some name) ≡ None → ⊥
    by true is = cc
    by false is = cc

-- where there is no first, none is started
none_first : (started : Word → Option Volume) (vs : List Vol) (v : Vol) → first_started started vs ≡ None → IsIn vs v → is_some (started v.name) ≡ false
none_first started [] v none there = absurd there
none_first started (x ∷ vs) v none there = by (is_some (started x.name)) refl none there (none_first started vs v)
  where
    by : (b : Bool) → is_some (started x.name) ≡ b → (if b then earlier x.name (first_started started vs) else first_started started vs) ≡ None → (v ≡ x) ⊎ IsIn vs v → (first_started started vs ≡ None → IsIn vs v → is_some (started v.name) ≡ false) → is_some (started v.name) ≡ false
    by true is none there rest = absurd (one_first x.name (first_started started vs) none)
    by false is none (inl same) rest = ap (λ (y : Vol). is_some (started y.name)) same ∙ is
    by false is none (inr there) rest = rest none there

none_used : (o : Option Word) → in_use_by o ≡ None → o ≡ None
none_used None is = refl
none_used (Some name) is = cc

-- what runs is told as started
runs_told : {P : Type 0} {ghosts : Ghosts P} (b : Option (Started P)) (o : Option (Running P ghosts)) (r : Running P ghosts) → o ≡ Some r → is_some (told_volume b o) ≡ true
runs_told None None r is = cc
runs_told None (Some x) r is = refl
runs_told (Some b) o r is = refl

module _ {P : Type 0} {ghosts : Ghosts P} (see : P → Seen) (v : View P ghosts) (disks : List DiskAt) (passed : fails tests.NoneStarted disks (plain see v.house) ≡ None) (m : Moment) (is : IsMoment see v m) where
  no_first : started_of (plain see v.house).volumes (group_of see v.house.group) ≡ None
  unfolding fails
  no_first = none_used (started_of (plain see v.house).volumes (group_of see v.house.group)) passed

  pub none_runs : (name : Word) → run_in v.house.group name ≡ None
  none_runs name = by (group_of see v.house.group) no_first (subst (λ g. IsAtRun see (fronts_in see v.house.group) g name (run_in v.house.group name) (grouped (m.world.volumes name))) is.group_is (is.runs_are name)) (run_in v.house.group name) refl
    where
      by : (g : Option Group) → started_of (plain see v.house).volumes g ≡ None → IsAtRun see (fronts_in see v.house.group) g name (run_in v.house.group name) (grouped (m.world.volumes name)) → (r : Option (Running P ghosts)) → run_in v.house.group name ≡ r → r ≡ None
      by g none run None same = refl
      by None none run (Some r) same = no_group (grouped (m.world.volumes name)) (subst (λ o. IsAtRun see (fronts_in see v.house.group) None name o (grouped (m.world.volumes name))) same run)
        where
          no_group : (w : Option Volume) → IsAtRun see (fronts_in see v.house.group) None name (Some r) w → Some r ≡ None
          no_group None at_w = absurd at_w
          no_group (Some w) at_w = absurd at_w
      by (Some g) none run (Some r) same =
          let of = recorded_run see (fronts_in see v.house.group) g name r (grouped (m.world.volumes name)) (subst (λ o. IsAtRun see (fronts_in see v.house.group) (Some g) name o (grouped (m.world.volumes name))) same run) in
          let idle = none_first (plain see v.house).volumes g.config.volumes of.0 none of.1 in
          let told = runs_told (volume_at v.house of.0.name) (run_in v.house.group of.0.name) r (ap (run_in v.house.group) of.2 ∙ same) in
          cc
