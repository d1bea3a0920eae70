-- What a loss leaves of the volumes that ran on the group's plexes.
use Rattle.std.proofs.Common.{◌≡◌, ◌∙◌, true, Option, Some, MatchOption, sym, ap, subst}
use Rattle.std.proofs.lemmas.Bool.{false≢true}
use Rattle.vx_base.specs.Named.{Word}
use Rattle.vx_config_parts.specs.declared.vol.Vol.{Vol}
use Rattle.vx_image.proofs.Members.{is_in}
use Rattle.vx_answers.specs.declared.answer.End.{End}
use Rattle.vx_answers.specs.declared.answer.End.TheVariants as ends
use Rattle.vx_moments.specs.Group.{image_on}
use Rattle.vx_moments.specs.Leaving.{grouped}
use Rattle.vx_moments.specs.Lives.{GroupStands, StandForEach, StandsFor}
use Rattle.vx_moments.specs.World.{Group, Volume, World}
use Rattle.vx_plans.specs.Steps.{Leaves, done}
use Rattle.vx_sound.proofs.Fewer.{HadEach}
use Rattle.vx_sound.proofs.Settlement.{IsSettled, gone_back, power_back}
use Rattle.vx_sound.proofs.Steps.{command_ends}
use Rattle.vx_sound_volumes.proofs.Commits.{one_vol}
use Rattle.vx_sound_volumes.proofs.Parts.{keeps_all}
use Rattle.vx_sound_volumes.proofs.Stages.{StateLaws}
use Rattle.vx_sound_volumes.proofs.Steps.{form_kept}
use Rattle.vx_sound_imports.specs.Left.{HoldWithin, LiesWithin}
use Rattle.vx_sound_imports.proofs.Left.{fewer_left}
use Rattle.vx_sound_imports.proofs.Runs.{settled_by}
use Rattle.vx_sound_imports.proofs.Stages.{IsLostBy}
use Rattle.vx_sound_imports.proofs.Steps.{form_settles}
use Rattle.vx_loss_laws.specs.Losses.{is_loss}
use Rattle.vx_loss_laws.specs.Laws.{EachLossLeaves}

-- as the group records it, what the devices hold of a volume that runs lies within its candidates
holds_within : (w : World) (g : Group) → w.group ≡ Some g → GroupStands w → (name : Word) (u : Volume) → grouped (w.volumes name) ≡ Some u → u.sound ≡ true → HoldWithin w.devices g name u.life.candidates
holds_within w g here stands name u runs sound v one named started =
    let of : StandsFor w g name u = subst (λ (o : Option Group). MatchOption o (Unit {0}) (StandForEach w)) here stands name u runs in
    let same : of.of ≡ v = one_vol g.config of.of v (is_in g.config.volumes of.of of.recorded) (is_in g.config.volumes v one) (of.named ∙ sym named) in
    subst (λ (x : Vol). LiesWithin (image_on w.devices g x) u.life.candidates) same (let s = of.stands sound in record { sound = s.sound; among = s.candidates })

-- the group is gone alone, or the power is
had_by : (dg : Word) (end : End) (w left : World) → is_loss end ≡ true → IsSettled w → Leaves end w left → GroupStands w × (HadEach dg w left × IsLostBy end)
had_by dg ends.GroupLost w left is s (stands, gone) = (stands, (subst (HadEach dg w) (sym gone) (gone_back w dg), tt))
had_by dg (ends.Lost parts) w left is s (stands, goes) = (stands, (power_back w left goes s dg, tt))
had_by dg (ends.Done copied parts blocks) w left is s same = cc
had_by dg (ends.Refused r) w left is s same = cc
had_by dg (ends.Fault told device parts) w left is s same = cc
had_by dg ends.ShelfFailed w left is s same = cc

pub each_loss_leaves : StateLaws → EachLossLeaves
each_loss_leaves laws place c old answer new step g none s lost here name u runs =
    let over = step.over.world in
    let settled = settled_by step.end over (command_ends old step.views step.end step.over s.standing place c none step.does) in
    let undone : step.end ≡ done → ⊥ = λ is. false≢true (ap is_loss (sym is) ∙ lost) in
    let kept = form_kept laws place c.group c.form old step.views step.end step.over (λ is. absurd (undone is)) (keeps_all place old.world s.volumes) step.does in
    let dg = g.config.group in
    let gone = had_by dg step.end over new.world lost settled step.leaves in
    let settles = form_settles laws place old step.views step.end step.over (record { standing = s.standing; whole = s.whole; offers = s.offers }) s.volumes c.group c.form none step.does in
    fewer_left dg over new.world gone.1.0 (settled.copies dg) name u.life.candidates
    (settles.left g here gone.1.1 name u tt runs (holds_within over g here gone.0 name u runs (kept.running name u runs).0))
