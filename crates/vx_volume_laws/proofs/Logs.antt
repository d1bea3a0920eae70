-- Where no call on a log failed, its copies show exactly the bits.
use Rattle.std.proofs.Common.{inl, inr, sym, ◌∙◌}
use Rattle.vx_mask.proofs.Tests.{true_or_false}
use Rattle.vx_core_laws.proofs.Courses.{course_keeps}
use Rattle.vx_core_laws.proofs.Exactly.{each_log_is_exact}
use Rattle.vx_volume_laws.specs.Logs.{after_courses, EachLogIsLeftExact}

pub each_log_is_left_exact : EachLogIsLeftExact
each_log_is_left_exact regions courses go v left c one r k =
    elim (true_or_false (after_courses courses regions r).stage.logged) [
      | inl log ↦
          let h = (left.copies c one).logged r log in
          let exact = each_log_is_exact (regions r) (courses r) (go.kept r) (go.idle r) (go.exact r) (go.fits r) (go.well r) (go.ended r) in
          h.1 k ∙ exact.shows (left.copies c one).copy k
      | inr plain ↦
          let kept = course_keeps (regions r) (courses r) (go.kept r) (go.fits r) in
          (left.copies c one).plain r plain k ∙ sym (kept.form.stage.unlogged plain k).2
    ]
