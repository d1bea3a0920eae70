-- What is held and counted under each name, once one device is known otherwise.
use Rattle.std.proofs.Common.{◌≡◌, ◌∙◌, Bool, true, false, cond, Option, Some, ap, refl, sym}
use Rattle.std.specs.BTreeMap.{BTreeMap, get}
use Rattle.std.specs.Cmp.Lexicographic.{slice_cmp}
use Rattle.std.specs.Ordering.{nat_cmp, is_eq}
use Rattle.std.proofs.lemmas.Map.Text.{is_eq-slice_cmp}
use Rattle.vx_base.specs.Named.{Word, put, SameUnder}
use Rattle.vx_shelf.specs.Shelf.{SameCounts, put_count}
use Rattle.vx_shelf.proofs.Counts.{put_there}
use Rattle.vx_files.specs.Known.{held_with, held_by, held_in, counted_by, counted_in}
use Rattle.vx_files.specs.declared.known.Known.{Known}

picked : {X : Type 0} (show : Option Known → X) (b : Bool) (one other : Option Known) → show (cond b one other) ≡ cond b (show one) (show other)
picked show true one other = refl
picked show false one other = refl

module _ (old new : BTreeMap Word Known) (name : Word) (one : Known) (updates : (q : Word) → get (slice_cmp nat_cmp) new q ≡ cond (is_eq (slice_cmp nat_cmp name q)) (Some one) (get (slice_cmp nat_cmp) old q)) where
  -- one device is known otherwise now, and under all other names the same is held
  pub held_put : SameUnder (put name (held_with one.device one.held) (held_in old)) (held_in new)
  held_put other =
      ap held_by (updates other)
      ∙ picked held_by (is_eq (slice_cmp nat_cmp name other)) (Some one) (get (slice_cmp nat_cmp) old other)
      ∙ ap (λ b. cond b (held_with one.device one.held) (held_in old other)) (is_eq-slice_cmp name other)

  pub counted_put : SameCounts (put_count name one.faults (counted_in old)) (counted_in new)
  counted_put other =
      ap counted_by (updates other)
      ∙ picked counted_by (is_eq (slice_cmp nat_cmp name other)) (Some one) (get (slice_cmp nat_cmp) old other)
      ∙ ap (λ b. cond b one.faults (counted_in old other)) (is_eq-slice_cmp name other)

  pub counted_kept : one.faults ≡ counted_in old name → SameCounts (counted_in old) (counted_in new)
  counted_kept same other = counted_put other ∙ put_there name one.faults (counted_in old) (sym same) other
