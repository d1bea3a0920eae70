-- What is left as the group goes is sound.
use Rattle.std.proofs.Common.{◌≡◌, ◌∙◌, ℕ, Bool, true, false, List, [], ◌∷◌, Option, Some, None, MatchOption, refl, sym, ap, subst, inl, inr}
use Rattle.std.specs.Prelude.{if◌then◌else◌, Contains, is_some}
use Rattle.vx_base.specs.Named.{Word}
use Rattle.vx_config_parts.specs.declared.vol.Vol.{Vol}
use Rattle.vx_config_parts.specs.Objects.{comes_before}
use Rattle.vx_image.proofs.PlexMembers.{IsIn}
use Rattle.vx_state_edits.specs.Edits.{is_new}
use Rattle.vx_image.specs.Soundness.{IsSoundImage}
use Rattle.vx_image.proofs.Members.{contains, is_in}
use Rattle.vx_moments.specs.Leaving.{PowerGoes, group_gone, grouped}
use Rattle.vx_moments.specs.World.{Device, Group, Volume, World}
use Rattle.vx_moments.specs.Group.{image_on, public_of}
use Rattle.vx_moments.specs.Lives.{GroupStands, StandForEach}
use Rattle.vx_stages.specs.Tests.{earlier, fails, first_started, in_use_by, started_of}
use Rattle.vx_stages.specs.declared.test.Test.TheVariants as tests
use Rattle.vx_sound_volumes.specs.Volumes.{AreSoundOn, GroupLeaves, IsSoundBefore}
use Rattle.vx_sound_volumes.proofs.Commits.{one_vol}
use Rattle.vx_sound_volumes.proofs.Parts.{image_same}

-- ---- none is started

none_first : (started : Word → Option Volume) (vs : List Vol) → first_started started vs ≡ None → (v : Vol) → IsIn vs v → started v.name ≡ None
none_first started [] none v one = absurd one
none_first started (u ∷ vs) none v one = by (started u.name) refl none one (none_first started vs)
  where
    early : (o : Option Word) → earlier u.name o ≡ None → ⊥
    early None e = cc
    early (Some other) e = before (comes_before other u.name) e
      where
        before : (b : Bool) → (if b then Some other else Some u.name) ≡ None → ⊥
        before true e = cc
        before false e = cc

    by : (o : Option Volume) → started u.name ≡ o → (if is_some o then earlier u.name (first_started started vs) else first_started started vs) ≡ None → IsIn (u ∷ vs) v → (first_started started vs ≡ None → (w : Vol) → IsIn vs w → started w.name ≡ None) → started v.name ≡ None
    by (Some run) at none one more = absurd (early (first_started started vs) none)
    by None at none (inl same) more = ap (λ (w : Vol). started w.name) same ∙ at
    by None at none (inr one) more = more none v one

none_started : (w : World) (g : Group) → w.group ≡ Some g → fails tests.NoneStarted [] w ≡ None → (v : Vol) → IsIn g.config.volumes v → w.volumes v.name ≡ None
unfolding fails
none_started w g here passed v one = none_first w.volumes g.config.volumes (not_used (started_of w.volumes (Some g)) (subst (λ (o : Option Group). in_use_by (started_of w.volumes o) ≡ None) here passed)) v one
  where
    not_used : (o : Option Word) → in_use_by o ≡ None → o ≡ None
    not_used None e = refl
    not_used (Some name) e = cc

-- ---- each volume

module _ (place : ℕ) (w left : World) (g : Group) (s : IsSoundBefore place w) (here : w.group ≡ Some g) where
  idle_sound : fails tests.NoneStarted [] w ≡ None → AreSoundOn w.devices g
  idle_sound passed v there started = s.sound.stopped g here v there started (ap grouped (none_started w g here passed v (is_in g.config.volumes v there)))

  stand : GroupStands w → StandForEach w g
  stand stands = subst (λ (o : Option Group). MatchOption o (Unit {0}) (StandForEach w)) here stands

  one_stands : StandForEach w g → (v : Vol) → Contains g.config.volumes v → is_new v.state ≡ false → (o : Option Volume) → grouped (w.volumes v.name) ≡ o → IsSoundImage (image_on w.devices g v)
  one_stands stands v there started None is = s.sound.stopped g here v there started is
  one_stands stands v there started (Some run) is =
      let for_run = stands v.name run is in
      let same = one_vol g.config for_run.of v (is_in g.config.volumes for_run.of for_run.recorded) (is_in g.config.volumes v there) for_run.named in
      subst (λ (u : Vol). IsSoundImage (image_on w.devices g u)) same (for_run.stands (s.sound.running v.name run is)).sound

  standing_sound : GroupStands w → AreSoundOn w.devices g
  standing_sound stands v there started = one_stands (stand stands) v there started (grouped (w.volumes v.name)) refl

  -- the disks of the group have what they had as the power goes
  powerless : PowerGoes w left → AreSoundOn w.devices g → AreSoundOn left.devices g
  powerless goes sound v there started =
      subst IsSoundImage (sym (image_same g w.devices left.devices (λ m one n. ap (λ (o : Option Device). public_of o n) (goes.others m.device ((s.disks g here).apart m (contains g.members m one)))) v)) (sound v there started)

  gone_sound : left ≡ group_gone w → AreSoundOn w.devices g → AreSoundOn left.devices g
  gone_sound is sound = subst (λ (x : World). AreSoundOn x.devices g) (sym is) sound

  pub each_leaving : GroupLeaves w left → AreSoundOn left.devices g
  each_leaving (inl (passed, is)) = gone_sound is (idle_sound passed)
  each_leaving (inr (stands, inl is)) = gone_sound is (standing_sound stands)
  each_leaving (inr (stands, inr goes)) = powerless goes (standing_sound stands)
