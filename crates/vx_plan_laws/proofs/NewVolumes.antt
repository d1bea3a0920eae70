-- A new volume, once its records are added: it is recorded, it was never started, and nothing of the name is started.
use Rattle.std.proofs.Common.{◌≡◌, ◌∙◌, ◌&&◌, ◌||◌, ℕ, ◌+◌, nat_lt, Bool, true, false, not, is_some, if◌then◌else◌, Option, Some, None, List, [], ◌∷◌, ◌++◌, refl, sym, ap, subst, arith}
use Rattle.std.specs.List.{count_by, list_any}
use Rattle.std.specs.Str.{bytes_eq}
use Rattle.std.proofs.lemmas.Bool.{false≢true, not-false, or_parts}
use Rattle.std.proofs.lemmas.Bool.Decides.{nat_tests}
use Rattle.vx_base.specs.Named.{Word}
use Rattle.vx_base.proofs.NamedLemmas.{bytes_eq_self}
use Rattle.vx_config_parts.specs.declared.object.Object.{Object}
use Rattle.vx_config_parts.specs.declared.object.Object.TheVariants.{VolRecord}
use Rattle.vx_config_parts.specs.declared.state.VolState.{VolState}
use Rattle.vx_config_parts.specs.declared.state.VolState.TheVariants as vol
use Rattle.vx_config_parts.specs.declared.vol.Vol.{Vol}
use Rattle.vx_config_parts.specs.Objects.{is_vol, name_of}
use Rattle.vx_objects.specs.declared.config.Config.{Config}
use Rattle.vx_objects.specs.declared.edit.Edit.TheVariants.{Make}
use Rattle.vx_objects.specs.Applied.{IsEdited}
use Rattle.vx_objects.specs.Config.{objects_of}
use Rattle.vx_objects.specs.Edits.{added, change, edited}
use Rattle.vx_new_volumes.specs.Records.{vol_of}
use Rattle.vx_new_volumes.specs.declared.volume.NewVolume.{NewVolume}
use Rattle.vx_image.proofs.PlexMembers.{any_in, in_any}
use Rattle.vx_state_edits.specs.Edits.{is_new}
use Rattle.vx_image.specs.Image.{IsFilled}
use Rattle.vx_answers.specs.declared.refusal.Refusal.{Refusal}
use Rattle.vx_moments.specs.Moment.{Moment}
use Rattle.vx_moments.specs.World.{Group, Volume}
use Rattle.vx_stages.specs.Making.{is_started}
use Rattle.vx_stages.specs.Stages.{IsDone}
use Rattle.vx_stages.specs.Tests.{fails, recorded, state_of, volume_in}
use Rattle.vx_stages.specs.declared.stage.Source.TheVariants as source
use Rattle.vx_stages.specs.declared.stage.Stage.TheVariants as stage
use Rattle.vx_stages.specs.declared.test.Test.TheVariants as tests
use Rattle.vx_group_edits.proofs.Fresh.{each_fresh, is_fresh, new_one}
use Rattle.vx_group_edits.proofs.NewNames.{free_name, unstarted}
use Rattle.vx_plan_laws.specs.Keeping.{IsLeftUnopened}
use Rattle.vx_plan_laws.proofs.Counts.{any_counts, any_kept, count_append, first_of_two, none_counted, second_of_two, turned}
use Rattle.vx_plan_laws.proofs.Joins.{all_stay}
use Rattle.vx_plan_laws.proofs.KindOrder.{count_in_kinds}
use Rattle.vx_plan_laws.proofs.Records.{any_vol, named_in}

-- ---- the records behind an edit that adds some

-- as many of them pass as of those before, and of those that are added
counted : (t : Object → Bool) (c c' : Config) (more : List Object) → IsEdited (Make more ∷ []) c c' → count_by t (objects_of c') ≡ count_by t (objects_of c) + count_by t more
unfolding change added
counted t c c' more edits =
    ap (λ os. count_by t os) edits ∙ count_in_kinds t (edited (Make more) (objects_of c)) ∙ ap (λ os. count_by t (os ++ more)) (all_stay (objects_of c)) ∙ count_append t (objects_of c) more

-- ---- the volume of the name

-- a volume of the name that was started before
abbrev is_old : Word → Vol → Bool
is_old name v = bytes_eq v.name name && not (is_new v.state)

old_named : (name : Word) (o : Object) → is_vol (is_old name) o ≡ true → bytes_eq (name_of o) name ≡ true
old_named name (VolRecord v) is = first_of_two (bytes_eq v.name name) (not (is_new v.state)) is
old_named name o is = cc

not_fresh : (name : Word) (o : Object) → is_vol (is_old name) o ≡ true → is_fresh o ≡ true → ⊥
not_fresh name (VolRecord v) is fresh = by (is_new v.state) (second_of_two (bytes_eq v.name name) (not (is_new v.state)) is) fresh
  where
    by : (b : Bool) → not b ≡ true → b ≡ true → ⊥
    by true old new = false≢true old
    by false old new = false≢true new
not_fresh name o is fresh = cc

-- the first of the name is none that was started before
found_new : (name : Word) (vs : List Vol) (v : Vol) → list_any (is_old name) vs ≡ false → volume_in name vs ≡ Some v → is_new v.state ≡ true
found_new name [] v none found = cc
found_new name (u ∷ us) v none found = by (λ rest there. found_new name us v rest there) (bytes_eq u.name name) none found
  where
    by : (list_any (is_old name) us ≡ false → volume_in name us ≡ Some v → is_new v.state ≡ true) → (b : Bool) → ((b && not (is_new u.state)) || list_any (is_old name) us) ≡ false → (if b then Some u else volume_in name us) ≡ Some v → is_new v.state ≡ true
    by further true none is = let same : u ≡ v = cc in subst (λ (x : Vol). is_new x.state ≡ true) same (not-false (is_new u.state) (or_parts (not (is_new u.state)) (list_any (is_old name) us) none).0)
    by further false none is = further none is

-- more are counted, if some are added
some_more : (a b all : ℕ) → all ≡ a + b → nat_lt 0 b ≡ true → nat_lt 0 all ≡ true
some_more a b all is some = grind (arith, nat_tests)

some_one : (g h : Group) → Some g ≡ Some h → g ≡ h
some_one g h e = cc

not_filled : (state : VolState) → is_new state ≡ true → IsFilled state → ⊥
not_filled vol.Empty new filled = filled
not_filled vol.Clean new filled = cc
not_filled vol.Active new filled = cc
not_filled vol.NeedSync new filled = cc
not_filled vol.Sync new filled = cc

module _ (n : NewVolume) (old mid : Moment) (done : IsDone (stage.Make (source.Volume n)) [] old mid) where
  abbrev before : Config
  before = done.0.group.config

  abbrev after : Config
  after = done.0.config

  abbrev more : List Object
  more = done.1.added

  none_before : count_by (λ o. is_vol (is_old n.vol) o) (objects_of before) ≡ 0
  none_before =
      none_counted (λ o. is_vol (is_old n.vol) o) (objects_of before)
      (turned (list_any (λ o. is_vol (is_old n.vol) o) (objects_of before)) (list_any (λ o. bytes_eq (name_of o) n.vol) (objects_of before))
      (any_kept (λ o. is_vol (is_old n.vol) o) (λ o. bytes_eq (name_of o) n.vol) (objects_of before) (λ o is. old_named n.vol o is))
      (free_name (is_started old.world n.vol) (objects_of before) n done.1.adds.tested).1)

  none_added : count_by (λ o. is_vol (is_old n.vol) o) more ≡ 0
  none_added = none_counted (λ o. is_vol (is_old n.vol) o) more (by (list_any (λ o. is_vol (is_old n.vol) o) more) refl)
    where
      by : (b : Bool) → list_any (λ o. is_vol (is_old n.vol) o) more ≡ b → b ≡ false
      by false e = refl
      by true e =
          let one = any_in (λ o. is_vol (is_old n.vol) o) more e in
          absurd (not_fresh n.vol one.0 one.2 (each_fresh (source.Volume n) (is_started old.world) done.0.group more done.1.adds one.0 one.1))

  none_old : list_any (is_old n.vol) after.volumes ≡ false
  none_old =
      sym (any_vol after (is_old n.vol)) ∙ any_counts (λ o. is_vol (is_old n.vol) o) (objects_of after)
      ∙ ap (λ k. nat_lt 0 k) (counted (λ o. is_vol (is_old n.vol) o) before after more done.1.change.edited ∙ (λ i. none_before i + none_added i))

  -- the group is that of the commit
  written : (g : Group) → mid.world.group ≡ Some g → g.config ≡ after
  written g here = by done.2.group here
    where
      by : {now : Group} → mid.world.group ≡ Some now → mid.world.group ≡ Some g → g.config ≡ now.config
      by {now = now} at here = let same : g ≡ now = some_one g now (sym here ∙ at) in ap (λ (x : Group). x.config) same

  -- no start of it is refused as it cannot be opened: so is one of a volume alone that was started before
  pub is_opened : (r : Refusal) (new : Moment) → IsLeftUnopened n.vol mid r new → ⊥
  is_opened r new (g, here, (v, found, (may, touched, (none, filled, why)))) =
      not_filled v.state (found_new n.vol after.volumes v none_old (subst (λ (c : Config). volume_in n.vol c.volumes ≡ Some v) (written g here) found)) filled

  -- it is recorded
  named_more : list_any (λ o. is_vol (λ v. bytes_eq v.name n.vol) o) more ≡ true
  named_more =
      let own = new_one (is_started old.world) done.0.group n more done.1.adds in
      in_any (λ o. is_vol (λ v. bytes_eq v.name n.vol) o) more (VolRecord (vol_of n own.0)) own.1 (bytes_eq_self n.vol)

  named_after : list_any (λ v. bytes_eq v.name n.vol) after.volumes ≡ true
  named_after =
      sym (any_vol after (λ v. bytes_eq v.name n.vol)) ∙ any_counts (λ o. is_vol (λ v. bytes_eq v.name n.vol) o) (objects_of after)
      ∙ some_more (count_by (λ o. is_vol (λ v. bytes_eq v.name n.vol) o) (objects_of before)) _ _
      (counted (λ o. is_vol (λ v. bytes_eq v.name n.vol) o) before after more done.1.change.edited) (sym (any_counts (λ o. is_vol (λ v. bytes_eq v.name n.vol) o) more) ∙ named_more)

  pub added_there : (g : Group) × (mid.world.group ≡ Some g) × (is_some (volume_in n.vol g.config.volumes) ≡ true)
  added_there = (_, done.2.group, sym (named_in n.vol after.volumes) ∙ named_after)

  -- the test that nothing of the name is started lets it through
  pub no_gate : (r : Refusal) → fails (tests.Stopped n.vol) [] mid.world ≡ Some r → ⊥
  unfolding fails
  no_gate r is = by (mid.world.volumes n.vol) (unstarted n old mid done) is
    where
      by : (o : Option Volume) → o ≡ None → (if is_some o then state_of (recorded n.vol mid.world.group) else None) ≡ Some r → ⊥
      by None none is = cc
      by (Some v) none is = cc
