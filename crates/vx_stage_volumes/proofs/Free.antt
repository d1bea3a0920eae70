-- What a start needs of its group: the sectors of a volume that does not run are in the pool.
use Rattle.std.proofs.Common.{◌≡◌, ◌∙◌, inl, inr, ℕ, ◌+◌, ◌<◌, ◌^◌, ◌==◌, Bool, true, false, cond, not, List, [], ◌∷◌, map, Some, None, refl, sym, ap, subst}
use Rattle.std.specs.Prelude.{◌||◌, nat_le, slice_index}
use Rattle.std.proofs.lemmas.Bool.{and_parts, eq-eqb, eqb-true, false≢true, leb-true}
use Rattle.vx_pages.specs.declared.local_piece.LocalPiece.{Ghosts}
use Rattle.vx_mask.specs.Mask.{has}
use Rattle.vx_piece.specs.Seen.{Seen}
use Rattle.vx_config_parts.specs.declared.disk.Disk.{Disk as Record}
use Rattle.vx_config_parts.specs.declared.vol.Vol.{Vol}
use Rattle.vx_copies.specs.Disks.{IsReady, disk_seen}
use Rattle.vx_copies.specs.Lists.{AllOf, AnyOf}
use Rattle.vx_copies.specs.declared.disk.Disk.{Disk}
use Rattle.vx_image.proofs.Members.{is_in}
use Rattle.vx_image.proofs.PlexMembers.{IsIn, all_in, any_in}
use Rattle.vx_lending.specs.FormLaws.{good_disks}
use Rattle.vx_lending.proofs.Distinct.{filtered}
use Rattle.vx_lending.specs.Public.{running_at}
use Rattle.vx_group_start.specs.Fresh.{is_fresh}
use Rattle.vx_house.specs.Idle.{EachIdleVolumeIsFree, HaveRoom}
use Rattle.vx_house.specs.View.{HaveSlots, IsGroupKept}
use Rattle.vx_house.specs.declared.house.Imported.{Imported}
use Rattle.vx_stage_volumes.specs.Disks.{has_disk, have_disks, is_disk_of}
use Rattle.vx_stage_volumes.specs.Numbers.{AreNumbersOf, number_at}
use Rattle.vx_stage_volumes.specs.Opening.{IsFreeIn, IsOpenGroup, good_of}

module _ {P : Type 0} (see : P → Seen) where
  other_slot : (ds : List (Disk P)) (d : Disk P) (slot : ℕ) → AllOf (λ e. e.slot ≡ slot → ⊥) ds → IsIn ds d → d.slot ≡ slot → ⊥
  other_slot [] d slot all there same = there
  other_slot (x ∷ ds) d slot all (inl is) same = all.0 (ap (λ (y : Disk P). y.slot) (sym is) ∙ same)
  other_slot (x ∷ ds) d slot all (inr there) same = other_slot ds d slot all.1 there same

  -- the number of a disk's slot is that of its device
  number_of : (ds : List (Disk P)) (d : Disk P) → HaveSlots ds → IsIn ds d → number_at see ds d.slot ≡ Some (see d.piece).device
  number_of [] d slots there = absurd there
  number_of (x ∷ ds) d slots (inl is) =
      subst (λ (y : Disk P). number_at see (x ∷ ds) y.slot ≡ Some (see y.piece).device) (sym is) (ap (λ b. cond b (Some (see x.piece).device) (number_at see ds x.slot)) (eq-eqb x.slot x.slot refl))
  number_of (x ∷ ds) d slots (inr there) = by (x.slot == d.slot) refl (number_of ds d slots.1 there)
    where
      by : (b : Bool) → (x.slot == d.slot) ≡ b → number_at see ds d.slot ≡ Some (see d.piece).device → cond b (Some (see x.piece).device) (number_at see ds d.slot) ≡ Some (see d.piece).device
      by true e rest = absurd (other_slot ds d x.slot slots.0 there (sym (eqb-true x.slot d.slot e)))
      by false e rest = rest

  seen_there : (ds : List (Disk P)) (d : Disk P) → IsIn ds d → AnyOf (λ h. h ≡ disk_seen see d) (map (disk_seen see) ds)
  seen_there [] d there = absurd there
  seen_there (x ∷ ds) d (inl is) = inl (ap (disk_seen see) (sym is))
  seen_there (x ∷ ds) d (inr there) = inr (seen_there ds d there)

  low_of : (ds : List (Disk P)) (d : Disk P) → AllOf IsReady (map (disk_seen see) ds) → IsIn ds d → d.slot < 32
  low_of [] d ready there = absurd there
  low_of (x ∷ ds) d ready (inl is) = subst (λ (y : Disk P). y.slot < 32) (sym is) ready.0.slot
  low_of (x ∷ ds) d ready (inr there) = low_of ds d ready.1 there

  -- the good disks that were found have room, by the numbers of the slots
  pub room_by : (ds : List (Disk P)) → HaveSlots ds → AllOf IsReady (map (disk_seen see) ds) → (numbers : List ℕ) (next : ℕ) → AreNumbersOf see ds 32 next numbers → (good : ℕ) (rs : List Record) → have_disks ds good rs ≡ true →
      HaveRoom numbers (map (disk_seen see) ds) good rs
  room_by ds slots ready numbers next are good rs all r there =
      let one = filtered (λ d. has good d.slot) rs r (is_in (good_disks good rs) r there) in
      let found = by (has good r.slot) (has_disk ds r) one.1 (all_in (λ r. not (has good r.slot) || has_disk ds r) rs r all one.0) in
      let d = any_in (is_disk_of r) ds found in
      let two = and_parts (d.0.slot == r.slot) (nat_le (2048 + r.publen) d.0.sectors) d.2 in
      let slot : d.0.slot ≡ r.slot = eqb-true d.0.slot r.slot two.0 in
      let at : number_at see ds r.slot ≡ Some (see d.0.piece).device = subst (λ n. number_at see ds n ≡ Some (see d.0.piece).device) slot (number_of ds d.0 slots d.1) in
      let low : r.slot < 32 = subst (λ n. n < 32) slot (low_of ds d.0 ready d.1) in
      let number : slice_index numbers r.slot ≡ (see d.0.piece).device = elim (are.each r.slot low) [
        | inl is ↦ some_same (slice_index numbers r.slot) (see d.0.piece).device (sym is ∙ at)
        | inr spare ↦ none_some (see d.0.piece).device (sym spare.bare ∙ at)
      ] in
      record {
        on = record { disk = disk_seen see d.0; there = seen_there ds d.0 d.1; slot_is = slot; number_is = number };
        room = leb-true (2048 + r.publen) d.0.sectors two.1;
      }
    where
      by : (a b : Bool) → a ≡ true → (not a || b) ≡ true → b ≡ true
      by true b e is = is
      by false b e is = absurd (false≢true e)

      some_same : (a b : ℕ) → Some a ≡ Some b → a ≡ b
      some_same a b e = cc

      none_some : {Q : Type 0} (b : ℕ) → None ≡ Some b → Q
      none_some b e = cc

-- The premise of `open_in`, where its good disks were found.
pub free_here : {P : Type 0} {ghosts : Ghosts P} (see : P → Seen) (g : Imported P ghosts) → EachIdleVolumeIsFree see g → IsGroupKept see g → IsOpenGroup see g → g.public.left.items ≡ [] → g.public.stuck.items ≡ [] → (v : Vol) → running_at g.public v.name ≡ None →
    have_disks g.base.disks.items (good_of see g) g.config.disks ≡ true → IsFreeIn see g v
free_here see g law kept short left stuck v idle found numbers form are numbered is =
    law kept (record { short = short; left = left; stuck = stuck }) v idle (is_fresh v.state) form is numbers
    (room_by see g.base.disks.items kept.slots kept.carries.alive.ready numbers (2 ^ 32) are (good_of see g) g.config.disks found)
