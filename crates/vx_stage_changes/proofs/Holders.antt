-- A group's disks as holders of their devices, and as members of the world's group.
use Rattle.std.proofs.Common.{◌≡◌, ◌∙◌, ℕ, List, [], ◌∷◌, map, Option, Some, refl, sym, ap}
use Rattle.vx_pages.specs.declared.local_piece.LocalPiece.{Ghosts}
use Rattle.vx_base.specs.Blocks.{Contents}
use Rattle.vx_piece.specs.Seen.{Seen}
use Rattle.vx_copies.specs.Disks.{DiskSeen, CommitGoes, good_mask}
use Rattle.vx_copies.specs.Lists.{Each}
use Rattle.vx_copies.specs.Written.{BothTell}
use Rattle.vx_copies.proofs.WriteCounts.{tell_map}
use Rattle.vx_confdb.specs.Groups.{members}
use Rattle.vx_moments.specs.World.{Group}
use Rattle.vx_moments.specs.Moment.{Moment}
use Rattle.vx_fronts.proofs.Groups.{same_mask}
use Rattle.vx_house.specs.Holders.{group_rests, whole_members}
use Rattle.vx_house.specs.Scene.{Shelved}
use Rattle.vx_house.specs.View.{at, member_in, group_of, IsMoment}
use Rattle.vx_house.specs.declared.house.House.{House}
use Rattle.vx_house.specs.declared.house.Imported.{Imported}
use Rattle.vx_house.proofs.Wholes.{group_members}

-- disks that went on are the same members
pub same_members : (first last : ℕ) (text : List ℕ) (hs bs : List DiskSeen) → Each (CommitGoes first last text) hs bs → map member_in bs ≡ map member_in hs
same_members first last text [] [] e = refl
same_members first last text [] (b ∷ bs) e = absurd e
same_members first last text (a ∷ hs) [] e = absurd e
same_members first last text (a ∷ hs) (b ∷ bs) e =
    let slot = e.0.slot in
    let name = e.0.name in
    let device = e.0.device in
    let one : member_in b ≡ member_in a = cc in
    let rest = same_members first last text hs bs e.1 in cc

-- the imported group as the world's
abbrev pub world_group : {P : Type 0} {ghosts : Ghosts P} → (P → Seen) → Imported P ghosts → Group
world_group see g = record { config = g.config; good = good_mask (whole_members see g); members = map member_in (whole_members see g); sequence = g.base.sequence }

pub group_is : {P : Type 0} {ghosts : Ghosts P} (see : P → Seen) (g : Imported P ghosts) → group_of see (Some g) ≡ Some (world_group see g)
group_is see g =
    ap (λ ms. Some (let w : Group = record { config = g.config; good = good_mask (members see g.base); members = ms; sequence = g.base.sequence } in w)) (group_members see g)
    ∙ ap (λ n. Some (let w : Group = record { config = g.config; good = n; members = map member_in (whole_members see g); sequence = g.base.sequence } in w)) (sym (same_mask (group_rests see g) (members see g.base)))

pub group_before : {P : Type 0} {ghosts : Ghosts P} (see : P → Seen) (shelf : Shelved) (old : House P ghosts) (g : Imported P ghosts) → old.group ≡ Some g → (m : Moment) → IsMoment see (at shelf old) m → m.world.group ≡ Some (world_group see g)
group_before see shelf old g has m is = is.group_is ∙ ap (group_of see) has ∙ group_is see g

-- a disk that tells, whatever it tells
pub both_tell : (R : Contents → Contents → Type 0) (t u : Option Contents) → BothTell R t u → BothTell (λ c d. Unit {0}) t u
both_tell R t u is = tell_map R (λ c d. Unit {0}) (λ c d r. tt) t u is
