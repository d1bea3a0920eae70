-- What changes, records that are added, disks that join, and new groups write has sound volumes; so has what a start, a stop and a mirror
-- write.
use Rattle.std.proofs.Common.{◌≡◌, ◌∙◌, ◌≢◌, ℕ, ◌<◌, false, List, [], ◌∷◌, Option, Some, refl, sym, ap, subst, inl, inr, arith}
use Rattle.std.specs.Prelude.{Contains}
use Rattle.vx_base.specs.Named.{Word}
use Rattle.vx_mask.specs.Mask.{has}
use Rattle.vx_mask.proofs.MaskLemmas.{has-zero}
use Rattle.vx_mask.proofs.Tests.{not_both, true_or_false}
use Rattle.vx_config_parts.specs.declared.vol.Vol.{Vol}
use Rattle.vx_objects.specs.Applied.{IsEdited}
use Rattle.vx_objects.specs.Config.{objects_of}
use Rattle.vx_image.proofs.PlexMembers.{IsIn}
use Rattle.vx_group_edits.proofs.Lists.{among}
use Rattle.vx_config_parts.specs.declared.object.Object.{Object}
use Rattle.vx_config_parts.specs.declared.object.Object.TheVariants.{VolRecord}
use Rattle.vx_objects.specs.declared.edit.Edit.TheVariants.{Make}
use Rattle.vx_image.proofs.Members.{contains, is_in}
use Rattle.vx_script_words.specs.declared.value.DiskAt.{DiskAt}
use Rattle.vx_state_edits.specs.Edits.{is_new, start_edits, started, stop_edits, stopped}
use Rattle.vx_state_edits.specs.Laws.{EachStartRestates, EachStopRestates}
use Rattle.vx_config_parts.specs.declared.state.VolState.TheVariants as vol
use Rattle.vx_moments.specs.Commit.{Writing}
use Rattle.vx_moments.specs.World.{Device, Group, Member, World}
use Rattle.vx_group_edits.specs.Laws.{EachStartKeeps, EachStopKeeps, StaysBy}
use Rattle.vx_group_edits.specs.OfVolume.{AreOf}
use Rattle.vx_group_edits.specs.Stays.{has_disk_in}
use Rattle.vx_group_edits.proofs.Added.{joining_keeps, making_keeps}
use Rattle.vx_group_edits.proofs.ByKind.{records_vol}
use Rattle.vx_group_edits.proofs.Commands.{change_keeps}
use Rattle.vx_group_edits.proofs.OfVolume.{plex_keeps_others}
use Rattle.vx_stages.specs.Ends.{IsChange}
use Rattle.vx_stages.specs.Making.{is_started}
use Rattle.vx_stages.specs.Records.{disk_record, new_records, next_slot, sectors_at}
use Rattle.vx_stages.specs.Recorded.{IsSoundAs}
use Rattle.vx_stages.specs.Stages.{IsCreating, IsJoining, IsMaking, edits_of}
use Rattle.vx_stages.specs.declared.stage.Change.{Change}
use Rattle.vx_stages.specs.declared.stage.Source.{Source}
use Rattle.vx_sound.specs.Standing.{IsStanding}
use Rattle.vx_sound.proofs.Commits.{added_ready, change_ready, make_ready}
use Rattle.vx_sound.proofs.Joiners.{next_free}
use Rattle.vx_sound.proofs.Ready.{IsReady}
use Rattle.vx_sound.proofs.Running.{start_ready, stop_ready}
use Rattle.vx_sound_volumes.specs.Volumes.{AreSoundOn}
use Rattle.vx_sound_volumes.proofs.Commits.{vol_of}
use Rattle.vx_sound_volumes.proofs.Joiners.{no_new_vol}
use Rattle.vx_sound_volumes.proofs.Named.{change_back, join_back, make_back, no_volumes, parts_back, restated_back}
use Rattle.vx_sound_volumes.proofs.Parts.{Besides, Every, some_same}
use Rattle.vx_sound_imports.specs.Left.{LiesWithin}
use Rattle.vx_sound_imports.specs.Offered.{IsWholeGroup}
use Rattle.vx_sound_imports.proofs.Nexts.{IsSafe, KeepsOwn, kept_safe, none_vacant, recorded_safe, whole_safe}
use Rattle.vx_sound_imports.proofs.Stopped.{stopped_within}
use Rattle.vx_sound_volumes.proofs.Recoveries.{own_now}
use Rattle.vx_image.specs.Bytes.{image_of}
use Rattle.vx_image.specs.Soundness.{IsSoundImage}
use Rattle.vx_moments.specs.Group.{sectors_of}

-- each good slot of the imported group has a member
abbrev pub HasWhole : World → Type 0
HasWhole w = (g : Group) → w.group ≡ Some g → IsWholeGroup g

-- ---- changes

pub change_safe : (change : Change) (w : World) (x : Writing) → IsStanding w → HasWhole w → IsChange (edits_of change w.group) w x → IsSafe Every x w
change_safe change w x s whole is =
    let edited : IsEdited (edits_of change (Some x.group)) x.group.config x.config = subst (λ (o : Option Group). IsEdited (edits_of change o) x.group.config x.config) is.group is.edited in
    let ready = change_ready change w x s is in
    kept_safe x w ready (whole x.group is.group) (StaysBy change) (change_keeps x.group change x.config edited) (none_vacant x is.joiners) (λ v one started. change_back x.group change x.config v edited one)

pub make_safe : (from : Source) (w : World) (x : Writing) → IsStanding w → HasWhole w → IsMaking from w x → IsSafe Every x w
make_safe from w x s whole is =
    let ready = make_ready from w x s is in
    let all = whole x.group is.change.group in
    kept_safe x w ready all (λ u. Unit {0}) (making_keeps x.group.config x.config from x.group is.added (is_started w) is.adds is.fine is.change.edited) (none_vacant x is.change.joiners)
    (λ v one started. (v, make_back x.group.config x.config v from x.group is.added (is_started w) is.adds is.change.edited started one, refl, tt))

-- ---- a disk joins

pub join_safe : (p : DiskAt) (w : World) (x : Writing) → IsReady x w → HasWhole w → IsJoining p w x → next_slot x.group.config < 32 → IsSafe Every x w
join_safe p w x ready whole j room =
    kept_safe x w ready (whole x.group j.group) (λ u. Unit {0}) (joining_keeps x.group.config x.config (disk_record p next (sectors_at w p.device)) j.edited)
    (λ m one. let at = slot_is m one in (subst (λ n. n < 64) (sym at) (omega (arith, room)), subst (λ n. has_disk_in x.group.config n ≡ false) (sym at) free))
    (λ v one started. (v, join_back x.group.config x.config v (disk_record p next (sectors_at w p.device)) j.edited one, refl, tt))
  where
    next : ℕ
    next = next_slot x.group.config

    free : has_disk_in x.group.config next ≡ false
    free = elim (true_or_false (has_disk_in x.group.config next)) [ inl is ↦ absurd (next_free x.group.config room is) | inr none ↦ none ]

    slot_is : (m : Member) → IsIn x.joiners m → m.slot ≡ next
    slot_is m one = elim (subst (λ js. IsIn js m) j.joiner one) [ inl same ↦ ap (λ (i : Member). i.slot) same | inr never ↦ absurd never ]

-- ---- a group is made

-- it has no volumes
module _ (dg : Word) (pairs : List DiskAt) (w : World) (x : Writing) (c : IsCreating dg pairs w x) where
  no_volume : (v : Vol) → Contains x.config.volumes v → ⊥
  no_volume v there = no_volumes x.config (new_records dg w pairs) c.records (no_new_vol w dg pairs) v (is_in x.config.volumes v there)

  pub created_sound : (devices : Word → Option Device) → AreSoundOn devices x.group
  created_sound devices v there started = absurd (no_volume v (subst (λ (g : Group). Contains g.config.volumes v) c.group there))

pub create_safe : (dg : Word) (pairs : List DiskAt) (w : World) (x : Writing) → IsReady x w → IsCreating dg pairs w x → IsSafe Every x w
create_safe dg pairs w x ready c = record {
  ready = ready;
  whole = λ slot good. absurd (not_both good (ap (λ (g : Group). has g.good slot) c.group ∙ has-zero slot));
  far = λ v there started place of joins. no_volume dg pairs w x c v there;
  next = λ devices same sound good few v there started. absurd (no_volume dg pairs w x c v there);
  stands = λ devices same name u p stands good few v there named started. absurd (no_volume dg pairs w x c v there);
}

-- ---- states

module _ (w : World) (x : Writing) (s : IsStanding w) (g : Group) (here : w.group ≡ Some g) (whole : HasWhole w) (v : Vol) where
  own_group : w.group ≡ Some x.group → g ≡ x.group
  own_group at = some_same g x.group (sym here ∙ at)

  pub start_safe : EachStartRestates → EachStartKeeps → IsIn g.config.volumes v → (is : IsChange (start_edits g.config v) w x) → IsSoundAs g x.config v.name w → IsSafe (Besides v.name) x w
  start_safe restates keeps there is sound_as =
      let own = own_group is.group in
      let mine = subst (λ (h : Group). IsIn h.config.volumes v) own there in
      let edited : IsEdited (start_edits x.group.config v) x.group.config x.config = subst (λ (h : Group). IsEdited (start_edits h.config v) x.group.config x.config) own is.edited in
      recorded_safe x w (start_ready w x s g here v is) (whole x.group is.group) is.joiners g own v.name (λ y there is started. sound_as y there is) (λ u. u.name ≢ v.name)
      (keeps x.group.config x.config v (vol_of x.group.config v mine) edited)
      (λ u one other started_before.
      restated_back x.group.config x.config u v.name vol.Active (started (is_new v.state))
      (restates x.group.config v (among (objects_of x.group.config) (VolRecord v) (records_vol x.group.config v mine)) x.config edited) other one)

  -- what it stands for it stands for as it is stopped too
  pub stop_safe : EachStopRestates → EachStopKeeps → IsIn g.config.volumes v → is_new v.state ≡ false → (marks : ℕ) (is : IsChange (stop_edits g.config v marks) w x) → IsSoundAs g x.config v.name w → IsSafe Every x w
  stop_safe restates keeps there filled marks is sound_as =
      let own = own_group is.group in
      let mine = subst (λ (h : Group). IsIn h.config.volumes v) own there in
      let edited : IsEdited (stop_edits x.group.config v marks) x.group.config x.config = subst (λ (h : Group). IsEdited (stop_edits h.config v marks) x.group.config x.config) own is.edited in
      let r = restates x.group.config v marks (among (objects_of x.group.config) (VolRecord v) (records_vol x.group.config v mine)) x.config edited in
      let ready = stop_ready w x s g here v marks (stop_edits g.config v marks) refl is in
      let all = whole x.group is.group in
      let others = recorded_safe x w ready all is.joiners g own v.name (λ y there is started. sound_as y there is) (λ u. u.name ≢ v.name)
      (keeps x.group.config x.config v marks (vol_of x.group.config v mine) edited)
      (λ u one other started_before. restated_back x.group.config x.config u v.name vol.Clean (stopped marks) r other one) in
      whole_safe x w ready all is.joiners g own v.name (λ y there is started. sound_as y there is) others
      (λ devices same candidates holds y one at before sound.
      let bytes = sectors_of devices x.group.members in
      let is_now : y ≡ record v { state = vol.Clean } = own_now x.group.config x.config v mine vol.Clean (stopped marks) r y (is_in x.config.volumes y one) at in
      subst (λ (z : Vol). LiesWithin (image_of x.config x.group.good bytes z) candidates) (sym is_now)
      (stopped_within x.group.config x.config v mine marks r filled x.group.good x.group.good (λ slot good. good) bytes candidates (holds v (contains x.group.config.volumes v mine) refl filled)
      (subst (λ (z : Vol). IsSoundImage (image_of x.config x.group.good bytes z)) is_now sound)))

-- ---- records of one volume that are added

pub added_safe : (w : World) (x : Writing) → IsStanding w → (g : Group) → w.group ≡ Some g → HasWhole w → (name : Word) (added : List Object) → AreOf name added → IsChange (Make added ∷ []) w x → IsSoundAs g x.config name w → KeepsOwn x w name → IsSafe Every x w
added_safe w x s g here whole name added of is sound_as keeps =
    let ready = added_ready added w x s is in
    let all = whole x.group is.group in
    let own = some_same g x.group (sym here ∙ is.group) in
    whole_safe x w ready all is.joiners g own name (λ y there is started. sound_as y there is)
    (recorded_safe x w ready all is.joiners g own name (λ y there is started. sound_as y there is) (λ u. u.name ≢ name) (plex_keeps_others x.group.config x.config name added of is.edited)
    (λ u one other started_before. (u, parts_back x.group.config x.config u name added of is.edited one, refl, other)))
    keeps
