-- A group out of whose pieces a volume was opened that is held among those that could not be put back: copies of its log alone were called, so the
-- house keeps what it did, and nothing but sectors of the volume has changed in the world.
use Rattle.std.proofs.Common.{◌≡◌, ◌∙◌, ℕ, true, false, List, [], ◌∷◌, ◌++◌, map, Some, refl, sym, ap, subst}
use Rattle.std.specs.Prelude.{IfSome, is_some}
use Rattle.std.specs.List.{All, flat_map}
use Rattle.vx_pages.specs.declared.local_piece.LocalPiece.{Ghosts}
use Rattle.vx_base.specs.Named.{Word}
use Rattle.vx_mask.specs.Mask.{has as has_slot}
use Rattle.vx_piece.specs.Seen.{Seen}
use Rattle.vx_carve.specs.Together.{HasSome, SameSectors}
use Rattle.vx_config_parts.specs.declared.disk.Disk.{Disk as Record}
use Rattle.vx_config_parts.specs.declared.vol.Vol.{Vol}
use Rattle.vx_copies.specs.Disks.{good_mask}
use Rattle.vx_copies.specs.Lists.{AllOf}
use Rattle.vx_confdb.specs.Groups.{members}
use Rattle.vx_moments.specs.Moment.{Moment, AreLater}
use Rattle.vx_moments.specs.World.{Group}
use Rattle.vx_stages.specs.Touching.{IsTouched, Narrows}
use Rattle.vx_volume.specs.Volume.{IsVolume, volume_seen}
use Rattle.vx_lending.specs.FormLaws.{good_disks}
use Rattle.vx_lending.specs.Left.{held_pieces}
use Rattle.vx_lending.specs.Pieces.{copy_pieces}
use Rattle.vx_lending.specs.declared.public.Public.{Public}
use Rattle.vx_lending.specs.declared.public.Running.{Running}
use Rattle.vx_lending.specs.Public.{lent_pieces, remaining_pieces, still_pieces}
use Rattle.vx_group_start.specs.Fresh.{is_fresh}
use Rattle.vx_group_start.specs.Laying.{AreStuckVolumes}
use Rattle.vx_lending.specs.Form.{IsFormOf}
use Rattle.vx_group_volumes.specs.Places.{IsSlotOf}
use Rattle.vx_group_volumes.proofs.Taken.{sector_own}
use Rattle.vx_house.specs.Runs.{IsNumbered}
use Rattle.vx_house.specs.Scene.{FaultsGoOn, Shelved}
use Rattle.vx_house.specs.View.{IsGroupKept, IsMoment, Keeps, at, member_of, scene}
use Rattle.vx_house.specs.declared.house.House.{House}
use Rattle.vx_house.specs.declared.house.Imported.{Imported}
use Rattle.vx_house_calls.specs.Passes.{with_group}
use Rattle.vx_stage_volumes.specs.Opening.{OpensIn, good_of}
use Rattle.vx_stage_volumes.specs.Touching.{AreOwnSectors, IsTouchedIn, behind_of}
use Rattle.vx_stage_volumes.proofs.AtOnce.{new_is_fresh}
use Rattle.vx_stage_volumes.proofs.Narrowed.{HaveNarrowing, narrows}
use Rattle.vx_stage_volumes.proofs.Slots.{IsAtSlot, good_numbered, is_numbered, low_slots, slot_is_good}
use Rattle.vx_stage_volumes.proofs.TouchedBy.{cut_same, cuts, one_held, own_from, touched_to}
use Rattle.vx_stage_volumes.proofs.TouchedGroup.{disks_on, kept_now, of_disks, some}
use Rattle.vx_stage_volumes.proofs.TouchedHouse.{GroupGoesOn, touched_faults, touched_keeps}
use Rattle.vx_stage_volumes.proofs.TouchedMoments.{counts_are_later, moment_now, n, touched}

-- The volume is held among those that could not be put back.
pub record IsHeldPublic {P : Type 0} {ghosts : Ghosts P} (old opened : Public P ghosts) (running : Running P ghosts) (public : Public P ghosts) : Type 0 where
  pub pool : public.pool ≡ opened.pool
  pub left : public.left ≡ opened.left
  pub entries : public.running.entries ≡ old.running.entries
  pub stuck : public.stuck.items ≡ old.stuck.items ++ running ∷ []

-- The moment behind one: nothing but sectors of the volume has changed.
pub record IsTouchedAt {P : Type 0} {ghosts : Ghosts P} (see : P → Seen) (shelf : Shelved) (h : House P ghosts) (g : Group) (name : Word) (m : Moment) : Type 0 where
  pub then : Moment
  pub is : IsMoment see (at shelf h) then
  pub later : AreLater m.counts then.counts
  pub touched : IsTouched g name m then

-- the group, as the world has it
abbrev pub world_of : {P : Type 0} {ghosts : Ghosts P} → (P → Seen) → Imported P ghosts → Group
world_of see g = record { config = g.config; good = good_mask (members see g.base); members = map member_of g.base.disks.items; sequence = g.base.sequence }

all_end : {X : Type 0} (Q : X → Type 0) (xs : List X) (x : X) → AllOf Q xs → Q x → AllOf Q (xs ++ x ∷ [])
all_end Q [] x all one = (one, tt)
all_end Q (y ∷ ys) x all one = (all.0, all_end Q ys x all.1 one)

module _ {P : Type 0} {ghosts : Ghosts P} (alike : (p q : P) → is_some (ghosts.seen p).told ≡ is_some (ghosts.seen q).told) (shelf : Shelved) (h : House P ghosts) (g opened : Imported P ghosts) (has : h.group ≡ Some g) (keeps : Keeps ghosts.seen (at shelf h))
    (v : Vol) (running : Running P ghosts) (opens : OpensIn ghosts.seen v g opened running) (public : Public P ghosts) (held : IsHeldPublic g.public opened.public running public) where
  abbrev pub see : P → Seen
  see = ghosts.seen

  pub kept : IsGroupKept see g
  kept = subst (λ o. IfSome o (IsGroupKept see)) has keeps.house.group

  -- the group with it
  abbrev pub held_group : Imported P ghosts
  held_group = record g { public = public }

  abbrev pub X : List Seen
  X = held_pieces see running.volume ++ still_pieces see opened.public

  -- the pieces of the copies, before and after
  abbrev pub pieces : List Seen
  pieces = cuts see g opens.goes.copies X opens.goes.go

  abbrev pub pieces' : List Seen
  pieces' = copy_pieces opens.goes.go.later

  same_still : still_pieces see public ≡ still_pieces see opened.public
  same_still = ap (λ p. map see p.items.items ++ flat_map (remaining_pieces see) public.left.items) held.pool ∙ ap (λ l. map see opened.public.pool.items.items ++ flat_map (remaining_pieces see) l.items) held.left

  stuck_volumes : AreStuckVolumes see public.stuck.items
  stuck_volumes = subst (AreStuckVolumes see) (sym held.stuck) (all_end (λ (r : Running P ghosts). IsVolume (volume_seen see r.volume)) g.public.stuck.items running kept.whole.stuck opens.started.whole)

  pub touched_in : IsTouchedIn see pieces pieces' g public
  touched_in =
      touched_to see g opens.goes.copies X opens.goes.go public held.entries stuck_volumes
      (subst (λ ps. SameSectors ((held_pieces see running.volume ++ ps) ++ lent_pieces see g.public) (behind_of see public)) same_still (one_held see g public held.entries running held.stuck))

  abbrev pub on : GroupGoesOn see pieces pieces' g held_group
  on = record {
    base = refl;
    disks = disks_on see alike pieces pieces' g public touched_in kept;
    kept = kept_now see alike pieces pieces' g public touched_in kept;
    of_disks = of_disks see alike pieces pieces' g public touched_in kept;
    each = touched_in.called.each;
  }

  pub held_kept : IsGroupKept see held_group
  held_kept = on.kept

  abbrev pub held_house : House P ghosts
  held_house = with_group h held_group

  pub held_keeps : Keeps see (at shelf held_house)
  held_keeps = touched_keeps see shelf h g has pieces pieces' held_group on keeps

  pub held_faults : FaultsGoOn (scene see (at shelf h)) (scene see (at shelf held_house))
  held_faults = touched_faults see shelf h g has pieces pieces' held_group on keeps

  -- ---- the sectors of the copies

  abbrev pub disks : List Record
  disks = good_disks (good_of see g) g.config.disks

  -- a good slot has the number of its disk's device
  pub good_slots : (slot : ℕ) → has_slot (good_of see g) slot ≡ true → IsAtSlot opens.numbers (members see g.base) (world_of see g).members slot
  good_slots slot good = good_numbered see g.base.disks.items (low_slots (members see g.base) kept.carries.alive.ready) _ opens.numbers opens.are slot good

  pub slots_are : (slot : ℕ) → IsSlotOf disks slot → IsNumbered opens.numbers (members see g.base) (world_of see g).members slot
  slots_are slot of = is_numbered opens.numbers (members see g.base) (world_of see g).members slot (good_slots slot (slot_is_good (good_of see g) g.config.disks slot of))

  own : AreOwnSectors g.config v.name disks opens.numbers pieces
  own = own_from g.config v.name disks opens.numbers (copy_pieces opens.goes.copies) pieces (cut_same see g opens.goes.copies X opens.goes.go)
      (sector_own g.config (good_of see g) v (is_fresh v.state) running.form opens.form opens.numbers opens.goes.copies opens.goes.are)

  some_pieces : All HasSome pieces
  some_pieces = some see alike pieces pieces' g public touched_in kept

  pub held_at : (m : Moment) → IsMoment see (at shelf h) m → IsTouchedAt see shelf held_house (world_of see g) v.name m
  held_at m is = record {
    then = n see shelf h g has pieces pieces' held_group on keeps g.config v.name disks opens.numbers slots_are own some_pieces refl held.entries m is;
    is = moment_now see shelf h g has pieces pieces' held_group on keeps g.config v.name disks opens.numbers slots_are own some_pieces refl held.entries m is;
    later = counts_are_later see shelf h g has pieces pieces' held_group on keeps g.config v.name disks opens.numbers slots_are own some_pieces refl held.entries m is;
    touched = touched see shelf h g has pieces pieces' held_group on keeps g.config v.name disks opens.numbers slots_are own some_pieces refl held.entries m is;
  }

  -- the copies of its log have come nearer to one another
  pub held_narrows : HaveNarrowing see → (m : Moment) (is : IsMoment see (at shelf h) m) → Narrows (world_of see g) v m (held_at m is).then
  held_narrows laws m is old =
      let same : is_fresh v.state ≡ false = sym (new_is_fresh v.state) ∙ old in
      narrows see laws.ends laws.counts shelf h keeps g has public held_keeps m (held_at m is).then is (held_at m is).is g.config v X there opens.numbers opens.are opens.numbered running.form
      (subst (λ b. IsFormOf g.config (good_of see g) v b running.form) same opens.form) (is_fresh v.state) opens.goes same laws.law
    where
      there : SameSectors (X ++ lent_pieces see g.public) (behind_of see public)
      there = subst (λ ps. SameSectors ((held_pieces see running.volume ++ ps) ++ lent_pieces see g.public) (behind_of see public)) same_still (one_held see g public held.entries running held.stuck)
