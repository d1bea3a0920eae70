-- The recovery of a volume is its three steps, one after the other.
use Rattle.std.proofs.Common.{◌≡◌, ◌∙◌, ◌⊎◌, ℕ, Some, None, sym, ap, subst, inl, inr}
use Rattle.vx_base.specs.Named.{Word}
use Rattle.vx_config_parts.specs.declared.vol.Vol.{Vol}
use Rattle.vx_answers.specs.declared.answer.End.{End}
use Rattle.vx_answers.specs.declared.refusal.Refusal.{Refusal}
use Rattle.vx_moments.specs.Moment.{AreLater, Moment}
use Rattle.vx_moments.specs.World.{Group, World}
use Rattle.vx_house.proofs.Moments.{later_trans}
use Rattle.vx_stages.specs.Starting.{StopsUnopened, refusal_at_once}
use Rattle.vx_stages.specs.Tests.{volume_in}
use Rattle.vx_recovery.specs.Healing.{IsHealed}
use Rattle.vx_recovery.specs.Recovering.{EndWants, HealingWants, IsOf, IsRecovered, IsRecoveryBegun, IsRecoveryEnded, IsRefusedBegun, RecoveryStops, RecoveryWants, StopsAtEnd, StopsBegun, StopsHealed, StopsHealing}
use Rattle.vx_recovery.specs.Steps.{EndLeft, EndStops, HasBegun, HasEnded, HasHealed, HealLeft, HealStops, OfBegun}

some_one : {X : Type 0} (x y : X) → Some x ≡ Some y → x ≡ y
some_one x y e = cc

-- two of the name in one world are one
same_group : (name : Word) (w : World) (g h : Group) (u v : Vol) → IsOf name w g u → IsOf name w h v → h ≡ g
same_group name w g h u v one other = some_one h g (sym other.group ∙ one.group)

same_volume : (name : Word) (w : World) (g h : Group) (u v : Vol) → IsOf name w g u → IsOf name w h v → v ≡ u
same_volume name w g h u v one other =
    some_one v u (sym other.volume ∙ (ap (λ (x : Group). volume_in name x.config.volumes) (same_group name w g h u v one other) ∙ one.volume))

-- what holds of the volume of the name holds of this one
of_this : (name : Word) (Holds : Group → Vol → Moment → Moment → Type 0) (m n : Moment) (g : Group) (v : Vol) → IsOf name m.world g v → OfBegun name Holds m n → Holds g v m n
of_this name Holds m n g v this (h, u, is, state, holds) =
    subst (λ (x : Group). Holds x v m n) (same_group name m.world g h v u this is) (subst (λ (y : Vol). Holds h y m n) (same_volume name m.world g h v u this is) holds)

-- ---- once its beginning is recorded

module _ (name : Word) (m a : Moment) (begun : HasBegun name m a) where
  abbrev g : Group
  g = begun.0

  abbrev v : Vol
  v = begun.1

  begins : IsRecoveryBegun name m g v a
  begins = begun.2

  stops_begun : (Ends : Group → Vol → Moment → End → Moment → Type 0) (end : End) (n : Moment) → AreLater a.counts n.counts → Ends g v a end n → StopsBegun name Ends m end n
  stops_begun Ends end n later is = record { group = g; of = v; begun = a; begins = begins; later = later; ends = is }

  -- the healing ends it
  pub heal_stops : (end : End) (n : Moment) → AreLater a.counts n.counts → HealStops name a end n → RecoveryStops name m end n
  heal_stops end n later stops = elim (of_this name (λ x y o w. IsRefusedBegun x y o end w ⊎ (StopsUnopened x y o end w ⊎ StopsHealing x y o end w)) a n g v begins.is stops) [
    | inl refused ↦ inr (inl (stops_begun IsRefusedBegun end n later refused))
    | inr (inl unopened) ↦ inr (inr (inl (stops_begun StopsUnopened end n later unopened)))
    | inr (inr healing) ↦ inr (inr (inr (inl (stops_begun StopsHealing end n later healing))))
  ]

  pub heal_wants : (n : Moment) → HealLeft name a n → RecoveryWants name m n
  heal_wants n (inl same) = inr (g, v, a, begins, inl (inl same))
  heal_wants n (inr left) = inr (g, v, a, begins, inl (of_this name HealingWants a n g v begins.is left))

  -- ---- once it is healed

  module _ (dirty copied marks : ℕ) (b : Moment) (later : AreLater a.counts b.counts) (healed : HasHealed name dirty copied marks a b) where
    here : (refusal_at_once g v ≡ None) × IsHealed g v dirty copied marks a b
    here = of_this name (λ x y o w. (refusal_at_once x y ≡ None) × IsHealed x y dirty copied marks o w) a b g v begins.is healed

    -- it is the volume of the group still
    still : IsOf name b.world g v
    still = record { group = ap (λ (w : World). w.group) here.1.healing.touched.world ∙ begins.is.group; volume = begins.is.volume }

    pub recovered : (n : Moment) → HasEnded name marks b n → IsRecovered name dirty copied m n
    recovered n ended = record {
      group = g;
      of = v;
      begun = a;
      begins = begins;
      healed = b;
      marks = marks;
      heals = here.1;
      later = later;
      ends = of_this name (λ x y o w. IsRecoveryEnded x y marks o w) b n g v still ended;
    }

    no_refusal : (r : Refusal) → refusal_at_once g v ≡ Some r → ⊥
    no_refusal r is = (let no : None ≡ Some r = sym here.0 ∙ is in cc)

    stops_healed : (end : End) (n : Moment) → AreLater b.counts n.counts → StopsUnopened g v b end n ⊎ StopsAtEnd g v marks b end n → RecoveryStops name m end n
    stops_healed end n rest is =
        inr (inr (inr (inr (stops_begun StopsHealed end n (later_trans a.counts b.counts n.counts later rest)
        (record { dirty = dirty; copied = copied; marks = marks; healed = b; heals = here.1; first = later; rest = rest; ends = is })))))

    pub end_stops : (end : End) (n : Moment) → AreLater b.counts n.counts → EndStops name marks b end n → RecoveryStops name m end n
    end_stops end n rest stops = elim (of_this name (λ x y o w. IsRefusedBegun x y o end w ⊎ (StopsUnopened x y o end w ⊎ StopsAtEnd x y marks o end w)) b n g v still stops) [
      | inl (r, is, refused) ↦ absurd (no_refusal r is)
      | inr is ↦ stops_healed end n rest is
    ]

    pub end_wants : (n : Moment) → EndLeft name b n → RecoveryWants name m n
    end_wants n (inl same) = inr (g, v, a, begins, inr (b, here.1.healing, inl same))
    end_wants n (inr left) = inr (g, v, a, begins, inr (b, here.1.healing, of_this name EndWants b n g v still left))
