-- The disks of a group with their whole devices.
use Rattle.std.proofs.Common.{◌≡◌, ◌∙◌, List, [], ◌∷◌, ◌++◌, map, Option, Some, None, refl, sym, ap}
use Rattle.std.specs.List.{flat_map}
use Rattle.std.proofs.lemmas.List.{append-nil}
use Rattle.vx_pages.specs.declared.local_piece.LocalPiece.{Ghosts}
use Rattle.vx_piece.specs.Seen.{Seen}
use Rattle.vx_copies.specs.Disks.{DiskSeen, disk_seen}
use Rattle.vx_copies.specs.declared.disk.Disk.{Disk}
use Rattle.vx_confdb.specs.Groups.{members}
use Rattle.vx_fronts.specs.Fronts.{Rest, Rests, with_device}
use Rattle.vx_fronts.specs.Laws.{whole_disks}
use Rattle.vx_fronts.specs.Rests.{rests_of}
use Rattle.vx_lending.specs.Public.{lent_pieces, remaining_pieces, running_pieces, still_pieces, stuck_pieces}
use Rattle.vx_house.specs.Holders.{disk_holder, group_holders, group_rests, holder_in, whole_members}
use Rattle.vx_house.specs.View.{IsGroupIdle, member_in, member_of}
use Rattle.vx_house.specs.declared.house.Imported.{Imported}

-- ---- one disk

pub member_whole : (o : Option Rest) (h : DiskSeen) → member_in (with_device o h) ≡ member_in h
member_whole None h = refl
member_whole (Some r) h = refl

pub name_whole : (o : Option Rest) (h : DiskSeen) → (with_device o h).device ≡ h.device
name_whole None h = refl
name_whole (Some r) h = refl

-- ---- lists of disks

pub members_whole : (rests : Rests) (hs : List DiskSeen) → map member_in (whole_disks rests hs) ≡ map member_in hs
members_whole rests [] = refl
members_whole rests (h ∷ hs) = ap (λ m. m ∷ map member_in (whole_disks rests hs)) (member_whole (rests h.seen.device) h) ∙ ap (λ ms. member_in h ∷ ms) (members_whole rests hs)

pub mapped_holders : {P : Type 0} (see : P → Seen) (ds : List (Disk P)) → map (disk_holder see) ds ≡ map holder_in (map (disk_seen see) ds)
mapped_holders see [] = refl
mapped_holders see (d ∷ ds) = ap (λ hs. disk_holder see d ∷ hs) (mapped_holders see ds)

pub mapped_members : {P : Type 0} (see : P → Seen) (ds : List (Disk P)) → map member_of ds ≡ map member_in (map (disk_seen see) ds)
mapped_members see [] = refl
mapped_members see (d ∷ ds) = ap (λ ms. member_of d ∷ ms) (mapped_members see ds)

-- where no piece is behind a front, each disk is there whole
pub whole_none : (hs : List DiskSeen) → whole_disks (rests_of [] []) hs ≡ hs
whole_none [] = refl
whole_none (h ∷ hs) = ap (λ rest. h ∷ rest) (whole_none hs)

-- ---- a group

module _ {P : Type 0} {ghosts : Ghosts P} (see : P → Seen) (g : Imported P ghosts) where
  pub group_members : map member_of g.base.disks.items ≡ map member_in (whole_members see g)
  group_members = mapped_members see g.base.disks.items ∙ sym (members_whole (group_rests see g) (members see g.base))

  -- no disk of it is parted
  pub unparted : still_pieces see g.public ≡ [] → lent_pieces see g.public ≡ [] → whole_members see g ≡ members see g.base
  unparted still lent = ap (λ x. whole_disks (rests_of (x ++ lent_pieces see g.public) []) (members see g.base)) still ∙ ap (λ x. whole_disks (rests_of x []) (members see g.base)) lent ∙ whole_none (members see g.base)

  pub unparted_holders : still_pieces see g.public ≡ [] → lent_pieces see g.public ≡ [] → group_holders see (Some g) ≡ map (disk_holder see) g.base.disks.items
  unparted_holders still lent = ap (map holder_in) (unparted still lent) ∙ sym (mapped_holders see g.base.disks.items)

  -- no volume of it runs
  module _ (idle : IsGroupIdle g) where
    pub still_idle : still_pieces see g.public ≡ map see g.public.pool.items.items
    still_idle = ap (λ xs. map see g.public.pool.items.items ++ flat_map (remaining_pieces see) xs) idle.left ∙ append-nil (map see g.public.pool.items.items)

    pub lent_idle : lent_pieces see g.public ≡ []
    lent_idle = ap (λ xs. flat_map (running_pieces see) xs ++ flat_map (stuck_pieces see) g.public.stuck.items) idle.running ∙ ap (flat_map (stuck_pieces see)) idle.stuck

    -- so its rests are in the pool
    pub rests_idle : group_rests see g ≡ rests_of (map see g.public.pool.items.items) []
    rests_idle = ap (λ x. rests_of (still_pieces see g.public ++ x) []) lent_idle ∙ ap (λ x. rests_of x []) (append-nil (still_pieces see g.public) ∙ still_idle)
