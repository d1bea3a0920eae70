-- A recovery that is refused leaves the world, or it has come to a volume that cannot be started or recovered.
use Rattle.std.proofs.Common.{◌≡◌, ◌⊎◌, ◌∙◌, Bool, true, false, is_some, List, Option, Some, None, refl, sym, ap, inl, inr}
use Rattle.std.specs.Prelude.{if◌then◌else◌}
use Rattle.vx_base.specs.Named.{Word}
use Rattle.vx_config_parts.specs.declared.vol.Vol.{Vol}
use Rattle.vx_answers.specs.declared.answer.View.{View}
use Rattle.vx_answers.specs.declared.refusal.Refusal.{Refusal}
use Rattle.vx_moments.specs.Moment.{Moment}
use Rattle.vx_moments.specs.World.{Group, World}
use Rattle.vx_stages.specs.Ends.{refused}
use Rattle.vx_stages.specs.Starting.{StopsUnopened}
use Rattle.vx_stages.specs.Tests.{volume_in}
use Rattle.vx_recovery.specs.Going.{Begin, Pass, Recovers, need_among, need_in, need_of}
use Rattle.vx_recovery.specs.Recovering.{RecoveryStops}
use Rattle.vx_plans.proofs.Recoveries.{EndsOne, ends_in}
use Rattle.vx_plan_laws.specs.Keeping.{IsLeftBegun, IsLeftRecovering, IsLeftUnstarted, IsUnopened}
use Rattle.vx_plan_laws.proofs.Volumes.{not_stopped, opening, same_refusal, start_left, start_refuses}

-- a volume that is started is recorded
begin_among : (o : Option Vol) → need_among o ≡ Begin → is_some o ≡ true
begin_among None e = cc
begin_among (Some v) e = refl

clean_there : (name : Word) (w : World) → need_of name w ≡ Begin → (g : Group) × (w.group ≡ Some g) × (is_some (volume_in name g.config.volumes) ≡ true)
clean_there name w need = by_run (is_some (w.volumes name)) need
  where
    by_group : (o : Option Group) → w.group ≡ o → need_in name o ≡ Begin → (g : Group) × (w.group ≡ Some g) × (is_some (volume_in name g.config.volumes) ≡ true)
    by_group None here e = cc
    by_group (Some g) here e = (g, here, begin_among (volume_in name g.config.volumes) e)

    by_run : (runs : Bool) → (if runs then Pass else need_in name w.group) ≡ Begin → (g : Group) × (w.group ≡ Some g) × (is_some (volume_in name g.config.volumes) ≡ true)
    by_run true e = cc
    by_run false e = by_group w.group refl e

module _ (r : Refusal) (new : Moment) where
  unopened : (old : Moment) (g : Group) (v : Vol) → StopsUnopened g v old (refused r) new → IsUnopened g v old r new
  unopened old g v stops = (stops.touched, opening old r new g v stops)

  begun_left : (name : Word) (old : Moment) → RecoveryStops name old (refused r) new → IsLeftBegun name old r new
  begun_left name old (inl b) = absurd (not_stopped b.stops.0 old r new b.stops.2)
  begun_left name old (inr (inl b)) =
      let s = b.ends.0 in
      (b.group, b.of, b.begun, b.begins, inl (b.ends.1 ∙ ap (λ (x : Refusal). Some x) (sym (same_refusal r s b.ends.2.0)), b.ends.2.1.stays.world))
  begun_left name old (inr (inr (inl b))) = (b.group, b.of, b.begun, b.begins, inr (inl (unopened b.begun b.group b.of b.ends)))
  begun_left name old (inr (inr (inr (inl b)))) = absurd b.ends.1
  begun_left name old (inr (inr (inr (inr b)))) =
      let h = b.ends in
      elim h.ends [
        | inl u ↦ (b.group, b.of, b.begun, b.begins, inr (inr (h.dirty, h.copied, h.marks, h.healed, h.heals, unopened h.healed b.group b.of u)))
        | inr e ↦ absurd (not_stopped e.stops.0 e.opened r new e.stops.2)
      ]

  one_left : (name : Word) (old : Moment) → EndsOne name old (refused r) new → IsLeftUnstarted name old r new ⊎ IsLeftBegun name old r new
  one_left name old (inl (need, over, stops)) =
      let there = clean_there name old.world need in
      inl (start_refuses old r new name there.0 there.1 there.2 stops, start_left old r new name stops)
  one_left name old (inr (need, stops)) = inr (begun_left name old stops)

  pub recover_left : (dg vol : Option Word) (old : Moment) (views : List View) → Recovers dg vol old views (refused r) new → (new.world ≡ old.world) ⊎ IsLeftRecovering vol old r new
  recover_left dg vol old views (inl (s, fails, none, ends)) = inl ends.1.stays.world
  recover_left dg vol old views (inr (passed, g, here, names, are, inl (none, (bytes, long, ends)))) = inl ends.1.stays.world
  recover_left dg vol old views (inr (passed, g, here, names, are, inr (short, sees))) =
      let e = ends_in names old views (refused r) new refl sees in
      inr (e.0, e.1, record { group = g; here = here; names = names; are = are; seen = e.2 }, one_left e.0 e.1 e.3)
