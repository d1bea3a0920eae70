-- A plex that was copied.
use Rattle.std.proofs.Common.{◌∙◌, sym}
use Rattle.vx_volume_laws.specs.Copies.{EachCopyIsTracked, EachWholeCopyIsTracked}

pub each_copy_is_tracked : EachCopyIsTracked
each_copy_is_tracked regions k t goes = record { sure = λ r e. cc; possible = goes.possible }

pub each_whole_copy_is_tracked : EachWholeCopyIsTracked
each_whole_copy_is_tracked regions k exact clear = record { sure = λ r e. cc; possible = λ r n low shown. sym (clear r) ∙ sym ((exact r).shows n k) ∙ shown }
