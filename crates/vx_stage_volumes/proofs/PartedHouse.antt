-- A house whose group was parted otherwise is the same moments of the world.
use Rattle.std.proofs.Common.{◌≡◌, ◌∙◌, inl, inr, List, [], ◌∷◌, ◌++◌, map, Option, Some, None, refl, sym, ap, subst}
use Rattle.std.specs.BTreeMap.{BTreeMap, get}
use Rattle.std.specs.Cmp.Lexicographic.{slice_cmp}
use Rattle.std.specs.Ordering.{nat_cmp}
use Rattle.vx_pages.specs.declared.local_piece.LocalPiece.{Ghosts}
use Rattle.vx_base.specs.Named.{Word}
use Rattle.vx_piece.specs.Seen.{Seen}
use Rattle.vx_copies.specs.Disks.{DiskSeen}
use Rattle.vx_copies.specs.Lists.{Each}
use Rattle.vx_confdb.specs.Groups.{members}
use Rattle.vx_fronts.specs.Parted.{IsSameDisk}
use Rattle.vx_moments.specs.Moment.{Moment}
use Rattle.vx_moments.specs.World.{Group, Volume}
use Rattle.vx_moments.specs.Leaving.{grouped}
use Rattle.vx_lending.specs.declared.public.Running.{Running}
use Rattle.vx_lending.specs.Public.{running_at}
use Rattle.vx_stage_changes.proofs.Owns.{AreDisksOf, run_moved}
use Rattle.vx_house.specs.Holders.{AreHeld, hand_holder, group_holders, holders, volume_holder}
use Rattle.vx_house.specs.Runs.{AreRuns, IsAtRun, fronts_in, run_in}
use Rattle.vx_house.specs.Scene.{Scene, Shelved}
use Rattle.vx_house.specs.View.{IsMoment, IsMomentIn, Keeps, at, group_of, scene}
use Rattle.vx_house.specs.declared.house.House.{House}
use Rattle.vx_house.specs.declared.house.Imported.{Imported}
use Rattle.vx_stage_volumes.specs.Parting.{PartsGroup}

-- the same disks have the names and numbers of their devices
pub disks_of : (hs ks : List DiskSeen) → Each IsSameDisk hs ks → AreDisksOf hs ks
disks_of [] ks each h there = absurd there
disks_of (x ∷ hs) [] each h there = absurd each
disks_of (x ∷ hs) (k ∷ ks) each h (inl is) = (k, inl refl, each.0.device ∙ ap (λ (d : DiskSeen). d.device) is, each.0.number ∙ ap (λ (d : DiskSeen). d.seen.device) is, each.0.slot ∙ ap (λ (d : DiskSeen). d.slot) is)
disks_of (x ∷ hs) (k ∷ ks) each h (inr more) = let rest = disks_of hs ks each.1 h more in (rest.0, inr rest.1, rest.2, rest.3, rest.4)

at_moved : {P : Type 0} {ghosts : Ghosts P} (see : P → Seen) (hs ks : List DiskSeen) → AreDisksOf hs ks → (g : Option Group) (name : Word) (r : Option (Running P ghosts)) (w : Option Volume) → IsAtRun see hs g name r w → IsAtRun see ks g name r w
at_moved see hs ks same g name None None is = tt
at_moved see hs ks same g name None (Some w) is = absurd is
at_moved see hs ks same None name (Some r) None is = absurd is
at_moved see hs ks same (Some g) name (Some r) None is = absurd is
at_moved see hs ks same None name (Some r) (Some w) is = absurd is
at_moved see hs ks same (Some g) name (Some r) (Some w) is = run_moved see hs ks same g name r w is

module _ {P : Type 0} {ghosts : Ghosts P} (see : P → Seen) (shelf : Shelved) (h : House P ghosts) (g g' : Imported P ghosts) (has : h.group ≡ Some g) (parts : PartsGroup see g g') where
  -- the house with the group as it is now
  abbrev pub now : House P ghosts
  now = record h { group = Some g' }

  pub same_holders : holders see now ≡ holders see h
  same_holders = ap (λ hs. map (volume_holder see) h.volumes.entries ++ (hs ++ map (hand_holder see) h.hand.items)) (parts.holders ∙ ap (group_holders see) (sym has))

  pub same_scene : scene see (at shelf now) ≡ scene see (at shelf h)
  same_scene = ap (λ hs. (let s : Scene = record { shelf = shelf; taken = hs } in s)) same_holders

  pub keeps_now : Keeps see (at shelf h) → Keeps see (at shelf now)
  keeps_now keeps = record {
    devices = subst (AreHeld shelf.held) (sym same_holders) keeps.devices;
    house = record { ordered = keeps.house.ordered; hand = keeps.house.hand; volumes = keeps.house.volumes; group = parts.kept };
  }

  runs_now : (o : Option Group) (volumes : Word → Option Volume) → AreRuns see h.group o volumes → AreRuns see (Some g') o volumes
  runs_now o volumes runs name =
      subst (λ r. IsAtRun see (members see g'.base) o name r (grouped (volumes name))) (ap (λ (m : BTreeMap Word (Running P ghosts)). get (slice_cmp nat_cmp) m name) (sym parts.running))
      (at_moved see (members see g.base) (members see g'.base) (disks_of (members see g.base) (members see g'.base) parts.disks) o name (running_at g.public name) (grouped (volumes name))
      (subst (λ x. IsAtRun see (fronts_in see x) o name (run_in x name) (grouped (volumes name))) has (runs name)))

  -- each moment that the house was it is still
  pub moment_now : (m : Moment) → IsMoment see (at shelf h) m → IsMoment see (at shelf now) m
  moment_now m is = subst (λ s. IsMomentIn see s now m) (sym same_scene) (record {
    told = is.told;
    devices_are = is.devices_are;
    volumes_are = is.volumes_are;
    runs_are = runs_now m.world.group m.world.volumes is.runs_are;
    group_is = is.group_is ∙ ap (group_of see) has ∙ sym parts.group;
    counts = is.counts;
  })
