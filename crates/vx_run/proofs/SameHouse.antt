-- A house whose maps have the entries that they had is the same moments.
use Rattle.std.proofs.Common.{◌≡◌, ◌∙◌, ◌<◌, List, [], ◌++◌, map, Option, Some, None, refl, sym, ap, subst}
use Rattle.std.specs.Prelude.{IfSome}
use Rattle.std.specs.BTreeMap.{BTreeMap}
use Rattle.std.specs.Cmp.Lexicographic.{slice_cmp}
use Rattle.std.specs.List.{flat_map, list_any}
use Rattle.std.specs.List.Sorted.{IsStrictlySortedBy}
use Rattle.std.specs.Map.{keys_of}
use Rattle.std.specs.Ordering.{nat_cmp}
use Rattle.std.specs.Str.{bytes_eq}
use Rattle.vx_pages.specs.declared.local_piece.LocalPiece.{Ghosts}
use Rattle.vx_base.specs.Named.{Word}
use Rattle.vx_piece.specs.Seen.{Seen}
use Rattle.vx_copies.specs.Disks.{good_mask}
use Rattle.vx_copies.specs.Lists.{AllOf}
use Rattle.vx_confdb.specs.Groups.{members}
use Rattle.vx_fronts.specs.Laws.{whole_disks}
use Rattle.vx_fronts.specs.Parted.{AreParted}
use Rattle.vx_fronts.specs.Rests.{rests_of}
use Rattle.vx_group_start.specs.Laying.{AreRunningVolumes}
use Rattle.vx_lending.specs.declared.public.Running.{Running}
use Rattle.vx_lending.specs.Public.{running_at, running_pieces, still_pieces, stuck_pieces}
use Rattle.vx_started.specs.declared.started.Started.{Started}
use Rattle.vx_moments.specs.Leaving.{grouped, lone}
use Rattle.vx_moments.specs.Moment.{Moment}
use Rattle.vx_house.specs.Holders.{group_holders, hand_holder, holder_in, holders, volume_holder, whole_members, AreHeld}
use Rattle.vx_house.specs.Runs.{AllInPlace, IsAtRun, fronts_in, run_in}
use Rattle.vx_house.specs.Scene.{Shelved, AreCountsOf, FaultsGoOn, seen_at}
use Rattle.vx_house.specs.View.{AreSized, IsAtVolume, IsDeviceOf, IsGroupKept, IsMoment, Keeps, at, group_of, is_lent, scene}
use Rattle.vx_house.specs.declared.house.House.{House}
use Rattle.vx_house.specs.declared.house.Imported.{Imported}
use Rattle.vx_house.proofs.AllLaws.{found_in}
use Rattle.vx_house.proofs.Moments.{faults_refl}
use Rattle.vx_house.proofs.Scenes.{scene_of}
use Rattle.vx_run.specs.Grouped.{IsSameGroup, IsSameHouse, IsSameIfThere}

-- ---- a group

module _ {P : Type 0} {ghosts : Ghosts P} (see : P → Seen) (g : Imported P ghosts) (running : BTreeMap Word (Running P ghosts)) (e : running.entries ≡ g.public.running.entries) where
  abbrev now : Imported P ghosts
  now = record g { public = record g.public { running = running } }

  abbrev lent_by : List (Word × Running P ghosts) → List Seen
  lent_by es = flat_map (running_pieces see) es ++ flat_map (stuck_pieces see) g.public.stuck.items

  whole_same : whole_members see now ≡ whole_members see g
  whole_same = ap (λ es. whole_disks (rests_of (still_pieces see g.public ++ lent_by es) []) (members see g.base)) e

  holders_now : group_holders see (Some now) ≡ group_holders see (Some g)
  holders_now = ap (map holder_in) whole_same

  kept_now : IsGroupKept see g → IsGroupKept see now
  kept_now kept = record {
    named = kept.named;
    text = kept.text;
    first = kept.first;
    carries = kept.carries;
    sized = subst AreSized (sym whole_same) kept.sized;
    slots = kept.slots;
    recorded = kept.recorded;
    whole = record {
      parted = subst (λ es. AreParted (members see g.base) (still_pieces see g.public ++ lent_by es)) (sym e) kept.whole.parted;
      volumes = subst (AreRunningVolumes see) (sym e) kept.whole.volumes;
      stuck = kept.whole.stuck;
    };
    placed = subst (AllInPlace see (members see g.base) g.config (good_mask (members see g.base))) (sym e) kept.placed;
  }

  run_now : (name : Word) → running_at now.public name ≡ running_at g.public name
  run_now name = ap (λ es. found_in es name) e

-- what is asked of the house stays
pub record SameFacts {P : Type 0} {ghosts : Ghosts P} (see : P → Seen) (o n : Option (Imported P ghosts)) : Type 0 where
  pub holders_are : group_holders see n ≡ group_holders see o
  pub kept : IfSome o (IsGroupKept see) → IfSome n (IsGroupKept see)
  pub fronts : fronts_in see n ≡ fronts_in see o
  pub run : (name : Word) → run_in n name ≡ run_in o name
  pub group : group_of see n ≡ group_of see o

facts_by : {P : Type 0} {ghosts : Ghosts P} (see : P → Seen) (g n : Imported P ghosts) → IsSameGroup g n → SameFacts see (Some g) (Some n)
facts_by {P = P} {ghosts = ghosts} see g n same = subst (λ (x : Imported P ghosts). SameFacts see (Some g) (Some x)) (sym same.same) (record {
  holders_are = holders_now see g n.public.running same.entries;
  kept = kept_now see g n.public.running same.entries;
  fronts = refl;
  run = run_now see g n.public.running same.entries;
  group = refl;
})

pub same_facts : {P : Type 0} {ghosts : Ghosts P} (see : P → Seen) (o n : Option (Imported P ghosts)) → IsSameIfThere o n → SameFacts see o n
same_facts see None None same = record { holders_are = refl; kept = λ k. k; fronts = refl; run = λ name. refl; group = refl }
same_facts see None (Some n) same = absurd same
same_facts see (Some g) None same = absurd same
same_facts see (Some g) (Some n) same = facts_by see g n same

-- ---- a house

module _ {P : Type 0} {ghosts : Ghosts P} (see : P → Seen) (shelf : Shelved) (h mid : House P ghosts) (same : IsSameHouse h mid) where
  facts : SameFacts see h.group mid.group
  facts = same_facts see h.group mid.group same.group

  same_holders : holders see mid ≡ holders see h
  same_holders =
      ap (λ (es : List (Word × Started P)). map (volume_holder see) es ++ (group_holders see mid.group ++ map (hand_holder see) mid.hand.items)) same.volumes
      ∙ ap (λ gs. map (volume_holder see) h.volumes.entries ++ (gs ++ map (hand_holder see) mid.hand.items)) facts.holders_are
      ∙ ap (λ ts. map (volume_holder see) h.volumes.entries ++ (group_holders see h.group ++ map (hand_holder see) ts)) (ap (λ hand. hand.items) same.hand)

  pub same_kept : Keeps see (at shelf h) → Keeps see (at shelf mid)
  same_kept keeps = record {
    devices = subst (AreHeld shelf.held) (sym same_holders) keeps.devices;
    house = record {
      ordered = subst (λ (es : List (Word × Started P)). IsStrictlySortedBy (slice_cmp nat_cmp) (keys_of es)) (sym same.volumes) keeps.house.ordered;
      hand = subst (λ ts. AllOf (λ t. 0 < (see t.piece).sectors) ts.items) (sym same.hand) keeps.house.hand;
      volumes = λ vol b is. keeps.house.volumes vol b (ap (λ es. found_in es vol) (sym same.volumes) ∙ is);
      group = facts.kept keeps.house.group;
    };
  }

  pub same_moment : (m : Moment) → IsMoment see (at shelf h) m → IsMoment see (at shelf mid) m
  same_moment m is = record {
    told = is.told;
    devices_are = λ name. subst (λ t. IsDeviceOf t (seen_at (scene see (at shelf mid)) name) (m.world.devices name)) (ap (λ (es : List (Word × Started P)). list_any (λ x. bytes_eq x.1.device name) es) (sym same.volumes))
        (subst (λ hs. IsDeviceOf (is_lent h name) (seen_at (scene_of shelf hs) name) (m.world.devices name)) (sym same_holders) (is.devices_are name));
    volumes_are = λ vol. subst (λ o. IsAtVolume see o (lone (m.world.volumes vol))) (ap (λ (es : List (Word × Started P)). found_in es vol) (sym same.volumes)) (is.volumes_are vol);
    runs_are = λ name.
        subst (λ o. IsAtRun see (fronts_in see mid.group) m.world.group name o (grouped (m.world.volumes name))) (sym (facts.run name))
        (subst (λ fs. IsAtRun see fs m.world.group name (run_in h.group name) (grouped (m.world.volumes name))) (sym facts.fronts) (is.runs_are name));
    group_is = is.group_is ∙ sym facts.group;
    counts = subst (λ hs. AreCountsOf (scene_of shelf hs) m.counts) (sym same_holders) is.counts;
  }

  pub same_faults : FaultsGoOn (scene see (at shelf h)) (scene see (at shelf mid))
  same_faults = subst (λ hs. FaultsGoOn (scene see (at shelf h)) (scene_of shelf hs)) (sym same_holders) (faults_refl (scene see (at shelf h)))

-- it is as itself
pub same_self : {P : Type 0} {ghosts : Ghosts P} (h : House P ghosts) → IsSameHouse h h
same_self h = record { volumes = refl; group = by h.group; hand = refl }
  where
    by : {P : Type 0} {ghosts : Ghosts P} (o : Option (Imported P ghosts)) → IsSameIfThere o o
    by None = tt
    by (Some g) = record { same = refl; entries = refl }
