-- A house whose group holds its pieces otherwise is the same moments of the world, but for the volumes that left.
use Rattle.std.proofs.Common.{◌≡◌, ◌∙◌, List, [], ◌∷◌, ◌++◌, map, Option, Some, None, refl, sym, ap, subst}
use Rattle.vx_pages.specs.declared.local_piece.LocalPiece.{Ghosts}
use Rattle.vx_base.specs.Named.{Word}
use Rattle.vx_piece.specs.Seen.{Seen}
use Rattle.vx_copies.specs.Disks.{DiskSeen, good_mask}
use Rattle.vx_confdb.specs.Groups.{members}
use Rattle.vx_fronts.specs.Fronts.{Rest, Rests, with_device, whole_disk}
use Rattle.vx_fronts.specs.Laws.{whole_disks}
use Rattle.vx_moments.specs.Leaving.{lone}
use Rattle.vx_moments.specs.Moment.{Moment}
use Rattle.vx_moments.specs.World.{Group, Volume}
use Rattle.vx_house.specs.Holders.{Holder, AreHeld, group_holders, hand_holder, holder_in, holders, volume_at, volume_holder}
use Rattle.vx_house.specs.Runs.{AreRuns}
use Rattle.vx_house.specs.Scene.{Scene, Shelved}
use Rattle.vx_house.specs.View.{AreSized, IsAtVolume, IsGroupKept, IsMoment, IsMomentIn, Keeps, at, group_of, member_of, scene}
use Rattle.vx_house.specs.declared.house.House.{House}
use Rattle.vx_house.specs.declared.house.Imported.{Imported}
use Rattle.vx_house_calls.specs.Passes.{with_group}

-- The group is the same, and so are all its devices; what is behind its fronts is held otherwise.
pub record IsHeldOtherwise {P : Type 0} {ghosts : Ghosts P} (see : P → Seen) (g g' : Imported P ghosts) : Type 0 where
  pub config : g'.config ≡ g.config
  pub base : g'.base ≡ g.base
  pub holders : group_holders see (Some g') ≡ group_holders see (Some g)

-- the whole disks have their sizes, if the same is seen of them
sized_size : (o : Option Rest) (h : DiskSeen) → (with_device o h).sectors ≡ h.sectors
sized_size None h = refl
sized_size (Some r) h = refl

pub sized_by : (rests rests' : Rests) (hs : List DiskSeen) → map holder_in (whole_disks rests' hs) ≡ map holder_in (whole_disks rests hs) → AreSized (whole_disks rests hs) → AreSized (whole_disks rests' hs)
sized_by rests rests' [] same sized = tt
sized_by rests rests' (h ∷ hs) same sized = (
  ap (λ (s : Seen). s.sectors) (head_seen (holder_in (whole_disk rests' h)) (holder_in (whole_disk rests h)) (map holder_in (whole_disks rests' hs)) (map holder_in (whole_disks rests hs)) same)
      ∙ sized.0 ∙ sized_size (rests h.seen.device) h ∙ sym (sized_size (rests' h.seen.device) h),
  sized_by rests rests' hs (tails (holder_in (whole_disk rests' h)) (holder_in (whole_disk rests h)) (map holder_in (whole_disks rests' hs)) (map holder_in (whole_disks rests hs)) same) sized.1,
)
  where
    head_seen : (a b : Holder) (xs ys : List Holder) → a ∷ xs ≡ b ∷ ys → a.seen ≡ b.seen
    head_seen a b xs ys e = let one : a ≡ b = cc in ap (λ (x : Holder). x.seen) one

    tails : (a b : Holder) (xs ys : List Holder) → a ∷ xs ≡ b ∷ ys → xs ≡ ys
    tails a b xs ys e = cc

module _ {P : Type 0} {ghosts : Ghosts P} (see : P → Seen) (shelf : Shelved) (h : House P ghosts) (g g' : Imported P ghosts) (has : h.group ≡ Some g) (held : IsHeldOtherwise see g g') where
  abbrev now : House P ghosts
  now = with_group h g'

  same_holders : holders see now ≡ holders see h
  same_holders = ap (λ hs. map (volume_holder see) h.volumes.entries ++ (hs ++ map (hand_holder see) h.hand.items)) (held.holders ∙ ap (group_holders see) (sym has))

  pub otherwise_scene : scene see (at shelf now) ≡ scene see (at shelf h)
  otherwise_scene = ap (λ hs. (let s : Scene = record { shelf = shelf; taken = hs } in s)) same_holders

  same_group : group_of see (Some g') ≡ group_of see (Some g)
  same_group =
      ap (λ c. Some (let w : Group = record { config = c; good = good_mask (members see g'.base); members = map member_of g'.base.disks.items; sequence = g'.base.sequence } in w)) held.config
      ∙ ap (λ b. Some (let w : Group = record { config = g.config; good = good_mask (members see b); members = map member_of b.disks.items; sequence = b.sequence } in w)) held.base

  -- the house is kept, if the group is
  pub otherwise_keeps : Keeps see (at shelf h) → IsGroupKept see g' → Keeps see (at shelf now)
  otherwise_keeps keeps kept = record {
    devices = subst (AreHeld shelf.held) (sym same_holders) keeps.devices;
    house = record { ordered = keeps.house.ordered; hand = keeps.house.hand; volumes = keeps.house.volumes; group = kept };
  }

  -- each moment that it was it is with the volumes that run still
  pub otherwise_moment : (m : Moment) → IsMoment see (at shelf h) m → (volumes : Word → Option Volume) → ((name : Word) → lone (volumes name) ≡ lone (m.world.volumes name)) → AreRuns see (Some g') m.world.group volumes →
      IsMoment see (at shelf now) (record { world = record m.world { volumes = volumes }; counts = m.counts })
  otherwise_moment m is volumes alone runs = subst (λ s. IsMomentIn see s now (record { world = record m.world { volumes = volumes }; counts = m.counts })) (sym otherwise_scene) (record {
    told = is.told;
    devices_are = is.devices_are;
    volumes_are = λ name. subst (IsAtVolume see (volume_at h name)) (sym (alone name)) (is.volumes_are name);
    runs_are = runs;
    group_is = is.group_is ∙ ap (group_of see) has ∙ sym same_group;
    counts = is.counts;
  })
