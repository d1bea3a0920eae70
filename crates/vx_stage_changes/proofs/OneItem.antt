-- The device in hand joins the imported group, or is in hand again, or is lost with the group or the power, as a stage.
use Rattle.std.proofs.Common.{◌≡◌, ◌<◌, ◌≤◌, List, [], ◌∷◌, length, get_or, Some, Result, Ok, Err, inl, inr, sym, ap, subst, arith}
use Rattle.vx_pages.specs.declared.local_piece.LocalPiece.{Ghosts}
use Rattle.vx_piece.specs.Seen.{Seen}
use Rattle.vx_script_words.specs.declared.value.DiskAt.{DiskAt}
use Rattle.vx_stages.specs.declared.stage.Stage.TheVariants as stage
use Rattle.vx_house.specs.Goes.{StageGoes}
use Rattle.vx_house.specs.Holders.{holders, AreHeld}
use Rattle.vx_house.specs.Scene.{Shelved}
use Rattle.vx_house.specs.View.{at, KeepsHouse}
use Rattle.vx_house.specs.declared.house.House.{House}
use Rattle.vx_house.specs.declared.house.Imported.{Imported}
use Rattle.vx_house.specs.declared.stop.Stop.{Stop}
use Rattle.vx_stage_changes.specs.Joining.{HandEnds}
use Rattle.vx_stage_changes.proofs.Joins.{joined_stage, lost_stage}
use Rattle.vx_stage_changes.proofs.FailedJoins.{back_stage}

-- a list of one
pub one_item : {X : Type 0} (xs : List X) (x : X) → 1 ≤ length xs → length xs < 2 → x ≡ get_or xs 0 x → xs ≡ x ∷ []
one_item [] x least most is = absurd (omega (arith, least))
one_item (y ∷ []) x least most is = ap (λ z. z ∷ []) (sym is)
one_item (y ∷ z ∷ xs) x least most is = absurd (omega (arith, most))

module _ {P : Type 0} {ghosts : Ghosts P} (see : P → Seen) (pair : DiskAt) (disks : List DiskAt) (only : disks ≡ pair ∷ []) (shelf : Shelved) (old now : House P ghosts) (keeps : KeepsHouse see old) (are_held : AreHeld shelf.held (holders see old)) (g g' : Imported P ghosts) (has : old.group ≡ Some g) (is_now : now.group ≡ Some g') (volumes : now.volumes ≡ old.volumes) (public : g'.public ≡ g.public) where
  by_end : (result : Result (Unit {0}) Stop) → HandEnds see pair result old.hand.items now.hand.items g g' → StageGoes see stage.Join (pair ∷ []) result (at shelf old) (at shelf now)
  by_end (Ok u) placed = joined_stage see pair shelf old now keeps are_held g g' has is_now volumes public placed
  by_end (Err stop) (inl placed) =
      let ends = placed.ends in
      let added = ends.3 in
      subst (λ s. StageGoes {T = Unit {0}} see stage.Join (pair ∷ []) (Err s) (at shelf old) (at shelf now)) (sym ends.2)
      (lost_stage see pair shelf old now keeps are_held g g' has is_now volumes public placed.taken added.slot added.text ends.1 placed.hand placed.empty added.join ends.0 added.gives added.writes)
  by_end (Err stop) (inr back) = back_stage see pair shelf old now keeps are_held g g' has is_now volumes public stop back

  pub join_goes : (result : Result (Unit {0}) Stop) → HandEnds see pair result old.hand.items now.hand.items g g' → StageGoes see stage.Join disks result (at shelf old) (at shelf now)
  join_goes result ends = subst (λ ds. StageGoes see stage.Join ds result (at shelf old) (at shelf now)) (sym only) (by_end result ends)
