-- The running volumes of the imported group, which a device joins.
use Rattle.std.proofs.Common.{◌≡◌, ◌∙◌, ◌⊎◌, ℕ, ◌+◌, ◌==◌, ◌||◌, ◌&&◌, Bool, true, false, List, [], ◌∷◌, ◌++◌, map, take, drop, if◌then◌else◌, Some, refl, sym, ap, subst, inl, inr}
use Rattle.std.proofs.lemmas.Bool.{eqb-true}
use Rattle.std.proofs.lemmas.List.{map-append, take-append-drop}
use Rattle.vx_pages.specs.declared.local_piece.LocalPiece.{Ghosts}
use Rattle.vx_base.specs.Named.{Word}
use Rattle.vx_piece.specs.Seen.{Seen}
use Rattle.vx_copies.specs.Disks.{DiskSeen, disk_seen, HasSlot, good_mask, is_good_slot}
use Rattle.vx_copies.specs.Lists.{AllOf, Each}
use Rattle.vx_confdb.specs.Groups.{members}
use Rattle.vx_objects.specs.declared.config.Config.{Config}
use Rattle.vx_script_words.specs.declared.value.DiskAt.{DiskAt}
use Rattle.vx_moments.specs.World.{Group, Member}
use Rattle.vx_moments.specs.Moment.{Moment}
use Rattle.vx_stages.specs.Records.{disk_record}
use Rattle.vx_group_edits.specs.Stays.{has_disk_in, AreFewer, EachStays}
use Rattle.vx_group_edits.proofs.Added.{joining_keeps}
use Rattle.vx_moments.specs.Owners.{device_at}
use Rattle.vx_house.specs.Runs.{AreInPlace, AreRuns}
use Rattle.vx_house.specs.Scene.{Shelved}
use Rattle.vx_house.specs.View.{at, group_of, member_in, member_of, IsMoment}
use Rattle.vx_house.specs.declared.house.House.{House}
use Rattle.vx_house.specs.declared.house.Imported.{Imported}
use Rattle.vx_house.specs.declared.house.Taken.{Taken}
use Rattle.vx_house.proofs.AllLaws.{all_append}
use Rattle.vx_house.proofs.Lists.{any_front, each_append}
use Rattle.vx_stage_changes.proofs.Alone.{low_by, went_by}
use Rattle.vx_stage_changes.proofs.Holders.{same_members}
use Rattle.vx_stage_changes.proofs.Owns.{AreDisksOf, KeepsThese, Runs, places_kept, runs_kept, runs_moved}
use Rattle.vx_stage_changes.proofs.Runners.{disks_on, seen_members}
use Rattle.vx_stage_changes.proofs.CommitSlots.{IsWent, mask_names, mask_was}
use Rattle.vx_stage_changes.specs.Joining.{disk_for}
use Rattle.vx_stage_changes.proofs.Admitted.{IsAdmitted, fs, goes_fronts, joins_fronts, js, kept, n, ns}
use Rattle.vx_stage_changes.proofs.Entry.{joins_went}

-- a good slot of these and one more is a good one of these, or that of the one
good_split : (slot : ℕ) (hs : List DiskSeen) (j : DiskSeen) → is_good_slot slot (hs ++ j ∷ []) ≡ true → (is_good_slot slot hs ≡ true) ⊎ (j.slot ≡ slot)
good_split slot [] j is = by j.good (j.slot == slot) refl is
  where
    by : (g b : Bool) → (j.slot == slot) ≡ b → ((g && b) || false) ≡ true → (is_good_slot slot [] ≡ true) ⊎ (j.slot ≡ slot)
    by true true e is = inr (eqb-true j.slot slot e)
    by true false e is = absurd (cc)
    by false b e is = absurd (cc)
good_split slot (h ∷ hs) j is = by (h.good && h.slot == slot) (good_split slot hs j) is
  where
    by : (b : Bool) → (is_good_slot slot (hs ++ j ∷ []) ≡ true → (is_good_slot slot hs ≡ true) ⊎ (j.slot ≡ slot)) → (b || is_good_slot slot (hs ++ j ∷ [])) ≡ true → ((b || is_good_slot slot hs) ≡ true) ⊎ (j.slot ≡ slot)
    by true rest is = inl refl
    by false rest is = rest is

-- members that are there are found before more
device_front : (ms more : List Member) (slot : ℕ) (d : Word) → device_at ms slot ≡ Some d → device_at (ms ++ more) slot ≡ Some d
device_front [] more slot d is = absurd (cc)
device_front (m ∷ ms) more slot d is = by (m.slot == slot) is (device_front ms more slot d)
  where
    by : (b : Bool) → (if b then Some m.device else device_at ms slot) ≡ Some d → (device_at ms slot ≡ Some d → device_at (ms ++ more) slot ≡ Some d) → (if b then Some m.device else device_at (ms ++ more) slot) ≡ Some d
    by true is rest = is
    by false is rest = rest is

module _ {P : Type 0} {ghosts : Ghosts P} {see : P → Seen} {shelf : Shelved} {pair : DiskAt} {old now : House P ghosts} {g g' : Imported P ghosts} {t : Taken P} {slot : ℕ} {text : List ℕ} {next : Config} (a : IsAdmitted see shelf pair old now g g' t slot text next) where
  abbrev first : ℕ
  first = g.base.sequence + 1

  abbrev number : ℕ
  number = g'.base.sequence

  disks : AreDisksOf (fs a) (ns a)
  disks = subst (AreDisksOf (fs a)) (take-append-drop (n a) (ns a)) (λ h there.
      let k = disks_on first number text (fs a) (take (n a) (ns a)) (goes_fronts a) h there in
      (k.0, any_front (λ x. x ≡ k.0) (take (n a) (ns a)) (drop (n a) (ns a)) k.1, k.2, k.3, k.4))

  runs_then : (m : Moment) → IsMoment see (at shelf old) m → AreRuns see (Some g) m.world.group m.world.volumes
  runs_then m is = subst (λ o. AreRuns see o m.world.group m.world.volumes) a.has is.runs_are

  -- the group of the world is as it was
  pub runs_stay : (m : Moment) → IsMoment see (at shelf old) m → AreRuns see now.group m.world.group m.world.volumes
  runs_stay m is = subst (λ o. AreRuns see o m.world.group m.world.volumes) (sym a.is_now) (runs_moved see g g' a.public disks m.world.group m.world.volumes (runs_then m is))

  went : Each IsWent (fs a ++ js a) (ns a)
  went = subst (Each IsWent (fs a ++ js a)) (take-append-drop (n a) (ns a)) (each_append IsWent (fs a) (take (n a) (ns a)) (js a) (drop (n a) (ns a))
      (went_by first number text (fs a) (take (n a) (ns a)) (goes_fronts a)) (joins_went g.base.name first number text (λ mask. Unit {0}) (js a) (drop (n a) (ns a)) (joins_fronts a)))

  low : AllOf HasSlot (fs a)
  low = low_by (fs a) (kept a).carries.alive.ready

  -- a slot that is good was good, or no disk had it
  fewer : AreFewer g.config (good_mask (fs a)) (good_mask (ns a))
  fewer k is =
      let was = mask_was (fs a ++ js a) (ns a) went (all_append HasSlot (fs a) (js a) low (a.join.slotted.low, tt)) k is in
      let both : AllOf HasSlot (fs a ++ js a) = all_append HasSlot (fs a) (js a) low (a.join.slotted.low, tt) in
      elim (good_split k (fs a) (disk_seen see (disk_for see pair slot t)) (sym (mask_names (fs a ++ js a) both k) ∙ was)) [
        | inl there ↦ inl (mask_names (fs a) low k ∙ there)
        | inr same ↦ inr (ap (has_disk_in g.config) (sym same) ∙ a.join.slotted.free)
      ]

  members_are : map member_of g'.base.disks.items ≡ map member_of g.base.disks.items ++ map member_in (drop (n a) (ns a))
  members_are =
      sym (seen_members see g'.base.disks.items)
      ∙ ap (map member_in) (sym (take-append-drop (n a) (ns a)))
      ∙ map-append member_in (take (n a) (ns a)) (drop (n a) (ns a))
      ∙ ap (λ ms. ms ++ map member_in (drop (n a) (ns a))) (same_members first number text (fs a) (take (n a) (ns a)) (goes_fronts a) ∙ seen_members see g.base.disks.items)

-- it is as the group is now
module _ {P : Type 0} {ghosts : Ghosts P} {see : P → Seen} {shelf : Shelved} {pair : DiskAt} {old now : House P ghosts} {g g' : Imported P ghosts} {t : Taken P} {slot : ℕ} {text : List ℕ} (a : IsAdmitted see shelf pair old now g g' t slot text g'.config) where
  abbrev seen_group : Imported P ghosts → Group
  seen_group x = record { config = x.config; good = good_mask (members see x.base); members = map member_of x.base.disks.items; sequence = x.base.sequence }

  stays : EachStays (λ v. Runs g v.name) g.config g'.config
  stays v of runs good good' less = joining_keeps g.config g'.config (disk_record pair slot (see t.piece).sectors) a.join.meant.edited v of tt good good' less

  -- in the house they are in their places still
  pub places_joined : AreInPlace see g'
  places_joined = places_kept see g g' a.public (disks a) stays (fewer a) (kept a).placed

  keeps_these : KeepsThese (Runs g) (seen_group g) (seen_group g')
  keeps_these = record {
    stays = stays;
    fewer = fewer a;
    devices = λ k d e. ap (λ ms. device_at ms k) (members_are a) ∙ device_front (map member_of g.base.disks.items) (map member_in (drop (n a) (ns a))) k d e;
  }

  pub runs_joined : (m : Moment) → IsMoment see (at shelf old) m → AreRuns see now.group (group_of see now.group) m.world.volumes
  runs_joined m is = subst (λ o. AreRuns see o (group_of see o) m.world.volumes) (sym a.is_now)
      (runs_kept see g g' a.public (disks a) (seen_group g) (seen_group g') keeps_these m.world.volumes
      (subst (λ o. AreRuns see (Some g) o m.world.volumes) (is.group_is ∙ ap (group_of see) a.has) (runs_then a m is)))
