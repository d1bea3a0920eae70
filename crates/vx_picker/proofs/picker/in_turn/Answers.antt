use Rattle.std.proofs.Common.{ℕ, ◌<◌, sym, subst}
use Rattle.vx_picker.proofs.MemberLemmas.{some_member, turn_inside}
use Rattle.vx_picker.proofs.picker.in_turn.Goals as goal

pub nonzero_rem-turn : goal.nonzero_rem-turn
nonzero_rem-turn c = subst (λ (n : ℕ). 0 < n) (sym c.count-members.ensures) (some_member c.args.mask c.requires c.ranges.mask.fits)

pub member_at-requires : goal.member_at-requires
member_at-requires c =
    turn_inside c.before.args.turn c.count-members.result _ (some_member c.before.args.mask c.before.requires c.before.ranges.mask.fits) c.count-members.ensures
