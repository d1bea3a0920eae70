-- A device that joins the imported group by a commit, or is lost with it: its devices were called, and what was written.
use Rattle.std.proofs.Common.{◌≡◌, ◌≢◌, ◌∙◌, ℕ, ◌+◌, List, [], ◌∷◌, ◌++◌, map, take, drop, Some, refl, sym, ap, subst, inl}
use Rattle.vx_pages.specs.declared.local_piece.LocalPiece.{Ghosts}
use Rattle.vx_piece.specs.Seen.{Seen}
use Rattle.vx_copies.specs.Chain.{AreInOrder, IsLed, OneOffersSince}
use Rattle.vx_copies.specs.Disks.{DiskSeen, disk_seen, CommitGoes}
use Rattle.vx_copies.specs.Lists.{AllOf, Each}
use Rattle.vx_copies.specs.Written.{Touches, IsQuiet}
use Rattle.vx_copies.specs.Written.{IsMaskOf as IsMaskIn}
use Rattle.vx_copies.specs.declared.disk.Disk.{Disk}
use Rattle.vx_confdb.specs.Enlisted.{Enlists}
use Rattle.vx_confdb.specs.Prepare.{Tells}
use Rattle.vx_objects.specs.declared.config.Config.{Config}
use Rattle.vx_objects.specs.Applied.{IsEdited}
use Rattle.vx_objects.specs.declared.edit.Edit.TheVariants.{AddDisk}
use Rattle.vx_script_words.specs.declared.value.DiskAt.{DiskAt}
use Rattle.vx_moments.specs.Moment.{Moment}
use Rattle.vx_moments.specs.Commit.{Writing}
use Rattle.vx_stages.specs.Records.{disk_record, sectors_at}
use Rattle.vx_stages.specs.Stages.{IsJoining}
use Rattle.vx_fronts.proofs.Disks.{same_slot}
use Rattle.vx_fronts.proofs.Groups.{all_whole, whole_lead, whole_order}
use Rattle.vx_house.specs.Holders.{Holder, group_holders, hand_holder, holder_in, volume_holder}
use Rattle.vx_house.specs.Scene.{Shelved}
use Rattle.vx_house.specs.View.{at, member_in, IsMoment}
use Rattle.vx_house.specs.declared.house.House.{House}
use Rattle.vx_house.specs.declared.house.Imported.{Imported}
use Rattle.vx_house.specs.declared.house.Taken.{Taken}
use Rattle.vx_stage_changes.proofs.Alone.{touched_by, called_by, went_by, low_by}
use Rattle.vx_stage_changes.proofs.DeviceLaws.{IsCalled}
use Rattle.vx_stage_changes.proofs.Holders.{world_group, group_before}
use Rattle.vx_stage_changes.proofs.CommitJoins.{AreCalled, AreWritten}
use Rattle.vx_stage_changes.proofs.Members.{writing}
use Rattle.vx_stage_changes.proofs.CommitSlots.{IsWent, AreSlotted, slotted, slotted_wholes}
use Rattle.vx_stage_changes.specs.Joining.{disk_for}
use Rattle.vx_stage_changes.proofs.Admitted.{IsAdmitted, bs, entered, front_is, back_is, fronts_tell, fs, goes, hs, joins, js, kept, ks, n, ns, private, private_now, ready, rests, was, whole, wholes_now, ws}
use Rattle.vx_stage_changes.proofs.Configs.{joined_group}
use Rattle.vx_stage_changes.proofs.Entry.{held_long, joins_called, joins_went, joins_enlisted}
use Rattle.vx_stage_changes.proofs.Room.{unrecorded}
use Rattle.vx_stage_changes.proofs.FailedJoins.{hand_sectors}
use Rattle.vx_house.proofs.Lists.{each_append, each_long}

-- one more disk, whose slot is none of theirs
pub slots_more : (h : DiskSeen) (hs : List DiskSeen) → AllOf (λ e. e.slot ≢ h.slot) hs → AreSlotted hs → AreSlotted (hs ++ h ∷ [])
slots_more h [] other slots = (tt, tt)
slots_more h (a ∷ hs) other slots = (all hs slots.0, slots_more h hs other.1 slots.1)
  where
    all : (xs : List DiskSeen) → AllOf (λ e. e.slot ≢ a.slot) xs → AllOf (λ e. e.slot ≢ a.slot) (xs ++ h ∷ [])
    all [] rest = ((λ same. other.0 (sym same)), tt)
    all (x ∷ xs) rest = (rest.0, all xs rest.1)

pub all_held : {P : Type 0} (see : P → Seen) (slot : ℕ) (ds : List (Disk P)) → AllOf (λ d. d.slot ≢ slot) ds → AllOf (λ e. e.slot ≢ slot) (map (disk_seen see) ds)
all_held see slot [] other = tt
all_held see slot (d ∷ ds) other = (other.0, all_held see slot ds other.1)

module _ {P : Type 0} {ghosts : Ghosts P} {see : P → Seen} {shelf : Shelved} {pair : DiskAt} {old now : House P ghosts} {g g' : Imported P ghosts} {t : Taken P} {slot : ℕ} {text : List ℕ} {next : Config} (a : IsAdmitted see shelf pair old now g g' t slot text next) where
  abbrev disk : Disk P
  disk = disk_for see pair slot t

  abbrev first : ℕ
  first = g.base.sequence + 1

  abbrev number : ℕ
  number = g'.base.sequence

  abbrev Masks : ℕ → Type 0
  Masks = IsMaskIn (hs a ++ js a) (bs a ++ ks a)

  abbrev vs : List Holder
  vs = map (volume_holder see) old.volumes.entries

  pub same_group : next.group ≡ g.config.group
  same_group = joined_group (disk_record pair slot (see t.piece).sectors) g.config next a.join.meant.edited

  pub same_name : next.group ≡ g.base.name
  same_name = same_group ∙ sym (kept a).named

  same_masks : IsMaskIn (hs a ++ js a) (ws a) ≡ Masks
  same_masks = ap (IsMaskIn (hs a ++ js a)) (sym (whole a))

  touches : Each (Touches first number text Masks) (hs a) (bs a)
  touches = subst (λ l. Each (Touches first number text Masks) l (bs a)) (front_is a) (subst (λ M. Each (Touches first number text M) (take (n a) (hs a ++ js a)) (bs a)) same_masks (entered a).touches)

  enlists : Each (Enlists g.base.name first number text Masks) (js a) (ks a)
  enlists = subst (λ l. Each (Enlists g.base.name first number text Masks) l (ks a)) (back_is a) (subst (λ M. Each (Enlists g.base.name first number text M) (drop (n a) (hs a ++ js a)) (ks a)) same_masks (entered a).enlists)

  other_slots : AllOf (λ e. e.slot ≢ slot) (hs a)
  other_slots = all_whole (rests a) (λ e. e.slot ≢ slot) (λ e. e.slot ≢ slot) (λ o h wide other same. other (sym (same_slot o h) ∙ same)) (fs a) (private a)
      (all_held see slot g.base.disks.items (unrecorded g.config slot g.base.disks.items (kept a).recorded a.join.slotted.free))

  pub admitted : AreCalled see shelf old now [] (hs a) (bs a) (js a) (ks a)
  admitted = record {
    long = each_long (CommitGoes first number text) (hs a) (bs a) (goes a);
    was = was a;
    is =
        ap (λ v. map (volume_holder see) v.entries ++ (group_holders see now.group ++ map (hand_holder see) now.hand.items)) a.volumes
        ∙ ap (λ o. vs ++ (group_holders see o ++ map (hand_holder see) now.hand.items)) a.is_now
        ∙ ap (λ l. vs ++ (group_holders see (Some g') ++ map (hand_holder see) l)) a.empty
        ∙ ap (λ l. vs ++ (map holder_in l ++ [])) (wholes_now a ∙ sym (whole a));
    volumes = a.volumes;
    held = a.held;
    called = each_append IsCalled (hs a) (bs a) (js a) (ks a) (called_by first number text Masks (hs a) (bs a) (goes a) touches) (joins_called g.base.name first number text Masks (js a) (ks a) (joins a) enlists);
    went = each_append IsWent (hs a) (bs a) (js a) (ks a) (went_by first number text (hs a) (bs a) (goes a)) (joins_went g.base.name first number text Masks (js a) (ks a) (joins a));
    low = low_by (hs a) (ready a);
    slots = slots_more (disk_seen see disk) (hs a) other_slots (slotted_wholes (rests a) (fs a) (slotted see g.base.disks.items (kept a).slots));
    sound = (refl, tt);
  }

  -- the fronts that were there lead
  led : AllOf Tells (hs a) → IsLed g.base.name g.base.sequence (n a) (ws a)
  led tells = whole_lead (rests a) g.base.name g.base.sequence (n a) (ns a) (private_now a) (subst (λ m. IsLed g.base.name g.base.sequence m (ns a)) (held_long see g.base.disks.items) (a.taken.lead (fronts_tell (rests a) (fs a) tells)))

  pub written : AreWritten (world_group see g) next text (map member_in (hs a)) number (hs a) (bs a) (js a) (ks a)
  written = record {
    few = a.taken.few;
    once = λ quiet. (entered a).once (subst (Each IsQuiet (hs a ++ js a)) (whole a) quiet);
    printed = a.join.meant.printed.0;
    short = a.join.meant.printed.1;
    touched = touched_by first number text Masks (hs a) (bs a) (ready a) (goes a) touches;
    enlisted = joins_enlisted g.base.name first number text Masks (js a) (ks a) (joins a) next.group same_name ((refl, refl), tt) enlists;
    order = subst (AreInOrder next.group g.base.sequence) (sym (whole a)) (subst (λ m. AreInOrder m g.base.sequence (ws a)) (sym same_name) (whole_order (rests a) g.base.name g.base.sequence (ns a) (private_now a) a.taken.order));
    lead = inl (
      refl,
      λ tells.
          subst (λ l. OneOffersSince next.group g.base.sequence l → OneOffersSince next.group g.base.sequence (bs a)) (sym (whole a))
          (subst (λ m. OneOffersSince m g.base.sequence (ws a) → OneOffersSince m g.base.sequence (bs a)) (sym same_name) (led tells)),
    );
  }

  -- what is written
  abbrev pub x : Writing
  x = writing (world_group see g) next text (map member_in (hs a)) (hs a) (js a)

  pub joining : (m : Moment) → IsMoment see (at shelf old) m → IsJoining pair m.world x
  joining m is =
      let device = a.in_hand.named in
      let free = a.join.slotted.next in
      let sized : sectors_at m.world pair.device ≡ (see t.piece).sectors = ap (sectors_at m.world) (sym device) ∙ hand_sectors see shelf old t a.in_hand.only a.held.apart m is in
      record {
        group = group_before see shelf old g a.has m is;
        edited = subst (λ s. IsEdited (AddDisk (disk_record pair s (sectors_at m.world pair.device)) ∷ []) g.config next) (sym free) (subst (λ k. IsEdited (AddDisk (disk_record pair slot k) ∷ []) g.config next) (sym sized) a.join.meant.edited);
        joiner = cc;
        carriers = refl;
      }
