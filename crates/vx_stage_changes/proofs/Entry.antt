-- Disks that join a group, before and now, and the disks of a group that takes one more.
use Rattle.std.proofs.Common.{◌≡◌, ◌∙◌, ℕ, suc, true, List, [], ◌∷◌, ◌++◌, map, length, Some, refl, sym, ap, subst}
use Rattle.std.proofs.lemmas.List.{append-nil, map-append}
use Rattle.vx_pages.specs.declared.local_piece.LocalPiece.{Ghosts}
use Rattle.vx_base.specs.Named.{Word}
use Rattle.vx_piece.specs.Seen.{Seen}
use Rattle.vx_copies.specs.Disks.{DiskSeen, disk_seen}
use Rattle.vx_copies.specs.Lists.{AllOf, Each}
use Rattle.vx_copies.specs.declared.disk.Disk.{Disk}
use Rattle.vx_confdb.specs.Create.{Joins}
use Rattle.vx_confdb.specs.Enlisted.{Enlists, Comes}
use Rattle.vx_confdb.specs.Prepare.{label_in}
use Rattle.vx_house.specs.Holders.{Holder, holders, group_holders, hand_holder, holder_in, volume_holder, whole_members}
use Rattle.vx_house.specs.declared.house.House.{House}
use Rattle.vx_house.specs.declared.house.Imported.{Imported}
use Rattle.vx_house.specs.declared.house.Taken.{Taken}
use Rattle.vx_stage_changes.proofs.DeviceLaws.{IsCalled}
use Rattle.vx_stage_changes.proofs.Holders.{both_tell}
use Rattle.vx_stage_changes.proofs.CommitSlots.{IsWent}
use Rattle.vx_stage_changes.proofs.CommitJoins.{IsNamedAs, IsEnlisted}
use Rattle.vx_house.specs.View.{member_in}
use Rattle.vx_copies.proofs.StepLaws.{each_map}
use Rattle.vx_house.proofs.Lists.{each_two, each_first}

pub held_long : {P : Type 0} (see : P → Seen) (ds : List (Disk P)) → length ds ≡ length (map (disk_seen see) ds)
held_long see [] = refl
held_long see (d ∷ ds) = ap suc (held_long see ds)

-- a disk that nothing was written to: it is good, and has the sectors of its device
abbrev pub IsWhole : DiskSeen → Type 0
IsWhole h = (h.good ≡ true) × (h.sectors ≡ h.seen.sectors)

module _ (group : Word) (first last : ℕ) (text : List ℕ) (Masks : ℕ → Type 0) (js ks : List DiskSeen) (joins : Each (Joins group text) js ks) where
  pub joins_called : Each (Enlists group first last text Masks) js ks → Each IsCalled js ks
  joins_called enlists =
      each_two (Joins group text) (Enlists group first last text Masks) IsCalled
      (λ a b joins enlists. record { device = joins.device; kept = joins.kept; reads = enlists.reads; tells = both_tell (Comes (label_in group a) first last text Masks) a.seen.told b.seen.told enlists.comes }) js ks joins enlists

  pub joins_went : Each IsWent js ks
  joins_went = each_map (Joins group text) IsWent (λ a b joins. record { slot = joins.slot; good = joins.good }) js ks joins

  pub joins_enlisted : (name : Word) → name ≡ group → AllOf IsWhole js → Each (Enlists group first last text Masks) js ks → Each (IsEnlisted name first last text Masks) js ks
  joins_enlisted name same whole enlists =
      each_first IsWhole (Enlists name first last text Masks) (IsEnlisted name first last text Masks) (λ a b facts is. record { good = facts.0; sectors = facts.1; enlists = is }) js ks whole
      (subst (λ n. Each (Enlists n first last text Masks) js ks) (sym same) enlists)

  pub joins_named : AllOf IsWhole js → Each IsNamedAs js ks
  joins_named whole = each_first IsWhole (Joins group text) IsNamedAs (λ a b facts is. record { name = is.name; size = is.size; sectors = facts.1 }) js ks whole joins

-- they are the same members
pub joined_members : (group : Word) (text : List ℕ) (xs ys : List DiskSeen) → Each (Joins group text) xs ys → map member_in ys ≡ map member_in xs
joined_members group text [] [] e = refl
joined_members group text [] (b ∷ ys) e = absurd e
joined_members group text (a ∷ xs) [] e = absurd e
joined_members group text (a ∷ xs) (b ∷ ys) e =
    let slot = e.0.slot in
    let name = e.0.name in
    let device = e.0.device in
    let first : member_in b ≡ member_in a = cc in
    let rest = joined_members group text xs ys e.1 in cc

-- all devices of a house with this group, and the device in hand
pub holders_before : {P : Type 0} {ghosts : Ghosts P} (see : P → Seen) (h : House P ghosts) (g : Imported P ghosts) (t : Taken P) (disk : Disk P) → h.group ≡ Some g → h.hand.items ≡ t ∷ [] → disk.device ≡ t.device → disk.piece ≡ t.piece
    → holders see h ≡ map (volume_holder see) h.volumes.entries ++ (map holder_in (whole_members see g ++ disk_seen see disk ∷ []) ++ [])
holders_before see h g t disk has hand device piece =
    let vs : List Holder = map (volume_holder see) h.volumes.entries in
    let one : hand_holder see t ≡ holder_in (disk_seen see disk) = cc in
    ap (λ o. vs ++ (group_holders see o ++ map (hand_holder see) h.hand.items)) has
    ∙ ap (λ l. vs ++ (map holder_in (whole_members see g) ++ map (hand_holder see) l)) hand
    ∙ ap (λ x. vs ++ (map holder_in (whole_members see g) ++ x ∷ [])) one
    ∙ ap (λ l. vs ++ l) (sym (map-append holder_in (whole_members see g) (disk_seen see disk ∷ [])) ∙ sym (append-nil (map holder_in (whole_members see g ++ disk_seen see disk ∷ []))))
