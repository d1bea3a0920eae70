-- A group that is made of the devices in hand by a commit, or was to be made.
use Rattle.std.proofs.Common.{◌≡◌, ◌∙◌, ℕ, ◌≤◌, true, List, [], ◌∷◌, ◌++◌, map, None, refl, sym, ap, subst, inr}
use Rattle.std.proofs.lemmas.List.{append-nil}
use Rattle.vx_pages.specs.declared.local_piece.LocalPiece.{Ghosts}
use Rattle.vx_base.specs.Named.{Word}
use Rattle.vx_piece.specs.Seen.{Seen}
use Rattle.vx_copies.specs.Chain.{AreInOrder}
use Rattle.vx_copies.specs.Disks.{DiskSeen, disk_seen}
use Rattle.vx_copies.specs.Lists.{AllOf, Each}
use Rattle.vx_copies.specs.Written.{IsMaskOf as IsMaskIn}
use Rattle.vx_copies.specs.declared.disk.Disk.{Disk}
use Rattle.vx_confdb.specs.Create.{Joins}
use Rattle.vx_confdb.specs.Enlisted.{AreEnlisted}
use Rattle.vx_objects.specs.declared.config.Config.{Config}
use Rattle.vx_config_parts.specs.declared.object.Object.TheVariants.{GroupRecord}
use Rattle.vx_script_words.specs.declared.value.DiskAt.{DiskAt}
use Rattle.vx_moments.specs.World.{Group}
use Rattle.vx_moments.specs.Moment.{Moment}
use Rattle.vx_moments.specs.Commit.{Writing}
use Rattle.vx_stages.specs.Records.{devices_of, sectors_in, sectors_at}
use Rattle.vx_stages.specs.Stages.{IsCreating}
use Rattle.vx_house.specs.Holders.{holders, group_holders, hand_holder, volume_holder, AreHeld, holder_in}
use Rattle.vx_house.specs.Scene.{Shelved}
use Rattle.vx_house.specs.View.{at, IsMoment, KeepsHouse, member_in}
use Rattle.vx_house.specs.declared.house.House.{House}
use Rattle.vx_house.proofs.Ends.{moment_but_group}
use Rattle.vx_house.proofs.AllLaws.{all_each}
use Rattle.vx_stage_changes.proofs.CommitJoins.{AreCalled, AreWritten, moment_on, back_gone}
use Rattle.vx_stage_changes.proofs.Members.{writing, IsGone}
use Rattle.vx_stage_changes.proofs.CommitSlots.{slotted}
use Rattle.vx_stage_changes.specs.Creating.{disks_from, IsDrawn}
use Rattle.vx_stage_changes.proofs.NewConfig.{named_so}
use Rattle.vx_stage_changes.proofs.Enlistment.{names_in, all_good, have_slots, hand_held, members_from, records_from}
use Rattle.vx_stage_changes.proofs.Entry.{IsWhole, joins_called, joins_went, joins_enlisted}
use Rattle.vx_house.proofs.Lists.{all_of_pairs}

-- A house whose devices in hand were to become a group, with this configuration, and as their disks are now.
pub record IsBegunOf {P : Type 0} {ghosts : Ghosts P} (see : P → Seen) (dg : Word) (pairs : List DiskAt) (shelf : Shelved) (old now : House P ghosts) (text : List ℕ) (config : Config) (last : ℕ) (ks : List DiskSeen) : Type 0 where
  pub keeps : KeepsHouse see old
  pub none : old.group ≡ None
  pub named : names_in old.hand.items ≡ devices_of pairs
  pub volumes : now.volumes ≡ old.volumes
  pub are_held : AreHeld shelf.held (holders see old)
  pub drawn : IsDrawn dg (disks_from see 0 old.hand.items pairs) config text
  pub few : last ≤ 32
  pub are : AreEnlisted dg last text (map (disk_seen see) (disks_from see 0 old.hand.items pairs)) ks
  pub joins : Each (Joins dg text) (map (disk_seen see) (disks_from see 0 old.hand.items pairs)) ks
  pub order : AreInOrder dg 0 ks
  pub is : holders see now ≡ map (volume_holder see) old.volumes.entries ++ (map holder_in ks ++ [])

module _ {P : Type 0} {ghosts : Ghosts P} {see : P → Seen} {dg : Word} {pairs : List DiskAt} {shelf : Shelved} {old now : House P ghosts} {text : List ℕ} {config : Config} {last : ℕ} {ks : List DiskSeen} (b : IsBegunOf see dg pairs shelf old now text config last ks) where
  abbrev ds : List (Disk P)
  ds = disks_from see 0 old.hand.items pairs

  abbrev pub js : List DiskSeen
  js = map (disk_seen see) ds

  abbrev Masks : ℕ → Type 0
  Masks = IsMaskIn js ks

  pub whole : AllOf IsWhole js
  whole = all_good see 0 old.hand.items pairs

  pub group_name : config.group ≡ dg
  group_name = named_so dg ds config b.drawn.records

  -- the group has no disk yet
  abbrev pub before : Group
  before = record { config = config; good = 0; members = []; sequence = 0 }

  pub begun : AreCalled see shelf old now [] [] [] js ks
  begun = record {
    long = refl;
    was =
        ap (λ o. map (volume_holder see) old.volumes.entries ++ (group_holders see o ++ map (hand_holder see) old.hand.items)) b.none
        ∙ ap (λ l. map (volume_holder see) old.volumes.entries ++ l) (hand_held see 0 old.hand.items pairs b.named ∙ sym (append-nil (map holder_in js)));
    is = b.is;
    volumes = b.volumes;
    held = b.are_held;
    called = joins_called dg 1 last text Masks js ks b.joins b.are.enlists;
    went = joins_went dg 1 last text Masks js ks b.joins;
    low = tt;
    slots = slotted see ds (have_slots see 0 old.hand.items pairs);
    sound = all_each IsWhole (λ j. j.good ≡ true) (λ h is. is.0) js whole;
  }

  pub written : AreWritten before config text (map member_in js) last [] [] js ks
  written = record {
    few = b.few;
    once = b.are.once;
    printed = b.drawn.printed.0;
    short = b.drawn.printed.1;
    touched = tt;
    enlisted = joins_enlisted dg 1 last text Masks js ks b.joins config.group group_name whole b.are.enlists;
    order = subst (λ n. AreInOrder n 0 ks) (sym group_name) b.order;
    lead = inr refl;
  }

  -- what is written
  abbrev pub x : Writing
  x = writing before config text (map member_in js) [] js

  pub creating : (m : Moment) → IsMoment see (at shelf old) m → IsCreating dg pairs m.world x
  creating m is =
      let gone = back_gone begun m (moment_but_group see (at shelf old) m is) m.world.group in
      record {
        records = b.drawn.records ∙ ap (λ os. GroupRecord (record { name = dg; version = 1 }) ∷ os)
            (records_from see m.world 0 old.hand.items pairs b.named (all_of_pairs (IsGone m (moment_on begun m m.world.group)) (λ h. sectors_at m.world h.device ≡ h.seen.sectors) (λ a c is. ap sectors_in is.pair.was) js ks gone));
        group = refl;
        joiners = members_from see 0 old.hand.items pairs b.named;
        carriers = refl;
      }
