-- The running volumes of the imported group, whose disks a commit has written, where none joins by it.
use Rattle.std.proofs.Common.{◌≡◌, ◌∙◌, ℕ, ◌+◌, List, [], ◌∷◌, map, Some, refl, sym, ap, subst, inl, inr}
use Rattle.vx_pages.specs.declared.local_piece.LocalPiece.{Ghosts}
use Rattle.vx_piece.specs.Seen.{Seen}
use Rattle.vx_copies.specs.Disks.{DiskSeen, disk_seen, CommitGoes, good_mask}
use Rattle.vx_copies.specs.Lists.{Each}
use Rattle.vx_copies.specs.declared.disk.Disk.{Disk}
use Rattle.vx_confdb.specs.Groups.{members}
use Rattle.vx_moments.specs.World.{Group}
use Rattle.vx_moments.specs.Moment.{Moment}
use Rattle.vx_group_edits.specs.Stays.{AreFewer, EachStays}
use Rattle.vx_moments.specs.Owners.{device_at}
use Rattle.vx_house.specs.Runs.{AreInPlace, AreRuns}
use Rattle.vx_house.specs.Scene.{Shelved}
use Rattle.vx_house.specs.View.{at, group_of, member_in, member_of, IsMoment}
use Rattle.vx_house.specs.declared.house.House.{House}
use Rattle.vx_house.specs.declared.house.Imported.{Imported}
use Rattle.vx_stage_changes.proofs.Alone.{IsWrittenIn, low_by, went_by}
use Rattle.vx_stage_changes.proofs.Holders.{same_members}
use Rattle.vx_stage_changes.proofs.Owns.{AreDisksOf, KeepsThese, Runs, places_kept, runs_kept, runs_moved}
use Rattle.vx_stage_changes.proofs.CommitSlots.{mask_was}

-- disks that went on have their slots, and the names and numbers of their devices
pub disks_on : (first last : ℕ) (text : List ℕ) (hs bs : List DiskSeen) → Each (CommitGoes first last text) hs bs → AreDisksOf hs bs
disks_on first last text [] bs goes h there = absurd there
disks_on first last text (a ∷ hs) [] goes h there = absurd goes
disks_on first last text (a ∷ hs) (b ∷ bs) goes h (inl here) = (b, inl refl, goes.0.device ∙ ap (λ (x : DiskSeen). x.device) here, goes.0.kept.device ∙ ap (λ (x : DiskSeen). x.seen.device) here, goes.0.slot ∙ ap (λ (x : DiskSeen). x.slot) here)
disks_on first last text (a ∷ hs) (b ∷ bs) goes h (inr there) =
    let k = disks_on first last text hs bs goes.1 h there in
    (k.0, inr k.1, k.2, k.3, k.4)

pub disks_same : (hs : List DiskSeen) → AreDisksOf hs hs
disks_same hs h there = (h, there, refl, refl, refl)

-- disks as members, by what is seen of them
pub seen_members : {P : Type 0} (see : P → Seen) (ds : List (Disk P)) → map member_in (map (disk_seen see) ds) ≡ map member_of ds
seen_members see [] = refl
seen_members see (d ∷ ds) = ap (λ ms. member_of d ∷ ms) (seen_members see ds)

module _ {P : Type 0} {ghosts : Ghosts P} {see : P → Seen} {shelf : Shelved} {old : House P ghosts} {g g' : Imported P ghosts} {text : List ℕ} (w : IsWrittenIn see shelf old g g' text) where
  abbrev fs : List DiskSeen
  fs = members see g.base

  abbrev ns : List DiskSeen
  ns = members see g'.base

  goes : Each (CommitGoes (g.base.sequence + 1) g'.base.sequence text) fs ns
  goes = w.tried.committed.goes

  disks : AreDisksOf fs ns
  disks = disks_on (g.base.sequence + 1) g'.base.sequence text fs ns goes

  runs_then : (m : Moment) → IsMoment see (at shelf old) m → AreRuns see (Some g) m.world.group m.world.volumes
  runs_then m is = subst (λ o. AreRuns see o m.world.group m.world.volumes) w.has is.runs_are

  -- the group of the world is as it was
  pub runs_lost : (m : Moment) → IsMoment see (at shelf old) m → AreRuns see (Some g') m.world.group m.world.volumes
  runs_lost m is = runs_moved see g g' w.public disks m.world.group m.world.volumes (runs_then m is)

  -- the group as the world has it
  abbrev seen_group : Imported P ghosts → Group
  seen_group x = record { config = x.config; good = good_mask (members see x.base); members = map member_of x.base.disks.items; sequence = x.base.sequence }

  same_named : map member_of g'.base.disks.items ≡ map member_of g.base.disks.items
  same_named = sym (seen_members see g'.base.disks.items) ∙ same_members (g.base.sequence + 1) g'.base.sequence text fs ns goes ∙ seen_members see g.base.disks.items

  fewer : AreFewer g.config (good_mask fs) (good_mask ns)
  fewer slot e = inl (mask_was fs ns (went_by (g.base.sequence + 1) g'.base.sequence text fs ns goes) (low_by fs w.writable.ready) slot e)

  -- in the house they are in their places still
  pub places_done : EachStays (λ v. Runs g v.name) g.config g'.config → AreInPlace see g → AreInPlace see g'
  places_done stays all = places_kept see g g' w.public disks stays fewer all

  keeps_these : EachStays (λ v. Runs g v.name) g.config g'.config → KeepsThese (Runs g) (seen_group g) (seen_group g')
  keeps_these stays = record {
    stays = stays;
    fewer = fewer;
    devices = λ slot d e. ap (λ ms. device_at ms slot) same_named ∙ e;
  }

  -- it is as the group is now
  pub runs_done : EachStays (λ v. Runs g v.name) g.config g'.config → (m : Moment) → IsMoment see (at shelf old) m → AreRuns see (Some g') (group_of see (Some g')) m.world.volumes
  runs_done stays m is =
      runs_kept see g g' w.public disks (seen_group g) (seen_group g') (keeps_these stays) m.world.volumes
      (subst (λ o. AreRuns see (Some g) o m.world.volumes) (is.group_is ∙ ap (group_of see) w.has) (runs_then m is))
