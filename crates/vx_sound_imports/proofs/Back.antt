-- What an import finds of a group that has left is the group as it was.
use Rattle.std.proofs.Common.{◌≡◌, ◌∙◌, ℕ, zero, suc, ◌+◌, ◌==◌, ◌&&◌, ◌||◌, not, true, false, List, [], ◌∷◌, ◌++◌, length, map, Option, Some, None, refl, sym, ap, subst, inl, inr}
use Rattle.std.specs.Prelude.{Contains}
use Rattle.std.specs.List.{filter, find, list_all}
use Rattle.std.proofs.lemmas.List.{append-nil}
use Rattle.vx_base.specs.Counts.{Rose}
use Rattle.vx_base.specs.Named.{Word}
use Rattle.vx_base.proofs.CountLemmas.{later_and_rose}
use Rattle.vx_mask.specs.Mask.{has}
use Rattle.vx_mask.proofs.Tests.{not_both, or_from_left, true_or_false}
use Rattle.vx_block.specs.Regions.{region_count}
use Rattle.vx_life.specs.Candidates.{Candidates}
use Rattle.vx_mapfmt.specs.Bits.{is_headed, marks}
use Rattle.vx_copies.specs.Image.{Offer}
use Rattle.vx_layout.specs.Columns.{place_of}
use Rattle.vx_config_parts.specs.declared.plex.Plex.{Plex}
use Rattle.vx_config_parts.specs.declared.state.VolState.{VolState}
use Rattle.vx_config_parts.specs.declared.state.VolState.TheVariants as vol
use Rattle.vx_config_parts.specs.declared.vol.Vol.{Vol}
use Rattle.vx_config_parts.specs.Objects.{is_data_plex_of, is_log_plex_of, refers}
use Rattle.vx_objects.specs.declared.config.Config.{Config}
use Rattle.vx_objects.specs.Config.{objects_of}
use Rattle.vx_image.specs.Lies.{columns_from, slot_of, strip_then, strips_from}
use Rattle.vx_rules.specs.Columns.{is_in_column}
use Rattle.vx_image.proofs.PlexMembers.{IsIn, in_left, in_map}
use Rattle.vx_image.specs.Bytes.{Sectors, bytes_at, image_of, is_active, is_held, log_copies, map_or_zero, plex_contents, plex_image, relation_maps}
use Rattle.vx_image.specs.Image.{Image, WasStarted}
use Rattle.vx_image.specs.Meaning.{StandsForCandidates}
use Rattle.vx_image.proofs.Imports.{stands_recorded}
use Rattle.vx_image.proofs.Members.{contains, is_in}
use Rattle.vx_script_forms.specs.declared.form.Form.{Form}
use Rattle.vx_script_forms.specs.declared.form.Form.TheVariants as form
use Rattle.vx_answers.specs.declared.answer.End.{End}
use Rattle.vx_answers.specs.declared.answer.View.{View}
use Rattle.vx_state_edits.specs.Edits.{is_new}
use Rattle.vx_moments.specs.Commit.{IsCommitted, NoneFailed, Writing, is_slot_of, is_written_slot, parties}
use Rattle.vx_moments.specs.Moment.{Counts, HasFailed, Moment}
use Rattle.vx_moments.specs.World.{Group, Member, Volume, World}
use Rattle.vx_moments.specs.Group.{image_on, public_of, sectors_of}
use Rattle.vx_moments.specs.Volumes.{StandsForVolume}
use Rattle.vx_plans.specs.Plans.{plan_of}
use Rattle.vx_plans.specs.Steps.{DoesForm, CountsAfter}
use Rattle.vx_stages.specs.Finding.{import_records, needs_sync_state}
use Rattle.vx_stages.specs.Stages.{IsDone, IsImporting}
use Rattle.vx_stages.specs.declared.stage.Stage.TheVariants as stage
use Rattle.vx_sound.specs.Offers.{Offers}
use Rattle.vx_sound.specs.Sound.{IsChained, IsConfigOf}
use Rattle.vx_sound.specs.Standing.{IsStanding}
use Rattle.vx_sound.proofs.Fewer.{HadEach, offered}
use Rattle.vx_sound.proofs.Imports.{newest_taken}
use Rattle.vx_sound.proofs.Settlement.{gone_back, power_back, settled, standing_gone, standing_left}
use Rattle.vx_readings.specs.Readings.{HaveSameRecords}
use Rattle.vx_readings.proofs.Images.{less_image}
use Rattle.vx_readings.proofs.Records.{turned}
use Rattle.vx_readings.proofs.Texts.{one_reading, vol_here}
use Rattle.vx_sound_volumes.specs.Volumes.{GroupLeaves}
use Rattle.vx_sound_volumes.proofs.Parts.{sectors_same, some_same}
use Rattle.vx_sound_imports.specs.Back.{EachGroupComesBack, IsBack, imported}
use Rattle.vx_sound_imports.specs.Offered.{AreAllSound, IsReadAs, IsWholeGroup}
use Rattle.vx_sound_imports.proofs.Alike.{AreAlike, alike_stands}
use Rattle.vx_sound_imports.proofs.Commits.{public_stays}
use Rattle.vx_sound_imports.proofs.Counted.{reading_plexes}
use Rattle.vx_sound_imports.proofs.Fewer.{newest_before}
use Rattle.vx_sound_imports.proofs.Found.{HasParts, image_in_state, all, found_group, found_read, found_whole, has_parts, imported_sound, offers}
use Rattle.vx_sound_imports.proofs.Leading.{first, newest_is, own_headed, read_headed}
use Rattle.vx_sound_imports.proofs.Nexts.{alone_few}
use Rattle.vx_sound_imports.proofs.Runs.{left_group, stopped_none}
use Rattle.vx_sound_imports.proofs.Slots.{AreHeadedIn, each_of, same_slot}
use Rattle.vx_sound_imports.proofs.Stages.{leads}

-- ---- another reading

module _ (c other : Config) (v : Vol) (good good' : ℕ) (bytes bytes' : Sectors) (same : HaveSameRecords c other)
    (goods : (disk : ℕ) → has good' disk ≡ has good disk) (reads : (disk k : ℕ) → has good disk ≡ true → bytes' disk k ≡ bytes disk k) where
  pub reading_alike : AreAlike (image_of c good bytes v) (image_of other good' bytes' v)
  reading_alike = record {
    less = less_image c other v good good' bytes bytes' same (record { good = λ place of is. sym (goods place.disk) ∙ is; same = λ place of is. reads place.disk place.sector (sym (goods place.disk) ∙ is) });
    more = less_image other c v good' good bytes' bytes (turned c other same)
        (record { good = λ place of is. goods place.disk ∙ is; same = λ place of is. sym (reads place.disk place.sector is) });
    plexes = reading_plexes c other v good good' bytes bytes' same;
  }

-- ---- the state that an import records

-- what is read of a volume in one state in which it was started is read of it in the other
pub state_among : (image : Image) → is_new image.state ≡ false → (candidates : Candidates) → StandsForCandidates image candidates → StandsForCandidates (record image { state = needs_sync_state image.state }) candidates
state_among image started candidates stands = by image.state refl
  where
    by : (s : VolState) → image.state ≡ s → StandsForCandidates (record image { state = needs_sync_state s }) candidates
    by vol.Empty is = absurd (not_both (ap is_new is) started)
    by vol.Clean is = subst (λ s. StandsForCandidates (record image { state = s }) candidates) is stands
    by vol.Active is = stands_recorded image vol.NeedSync candidates (subst WasStarted (sym is) tt) tt stands
    by vol.NeedSync is = subst (λ s. StandsForCandidates (record image { state = s }) candidates) is stands
    by vol.Sync is = stands_recorded image vol.NeedSync candidates (subst WasStarted (sym is) tt) tt stands

state_stands : (image : Image) → is_new image.state ≡ false → (run : Volume) → StandsForVolume image run → StandsForVolume (record image { state = needs_sync_state image.state }) run
state_stands image started run stands = record {
  sound = imported_sound image started stands.sound;
  candidates = state_among image started run.life.candidates stands.candidates;
  sure = λ p one. stands.sure p one;
  possible = λ p one. stands.possible p one;
  dirty = stands.dirty;
}

-- a configuration with the same disks, subdisks, plexes and relations has the same image of a volume
module _ (c next : Config) (parts : HasParts c next) (good : ℕ) (bytes : Sectors) (v : Vol) where
  strips_same : (n : ℕ) (name : Word) (col at : ℕ) → strips_from n next name col at ≡ strips_from n c name col at
  strips_same zero name col at = refl
  strips_same (suc n) name col at = λ i. strip_then (parts.disks i) (find (λ s. is_in_column name col s && s.at == at) (parts.subdisks i)) (λ k. strips_same n name col k i)

  columns_are : (n : ℕ) (name : Word) (col : ℕ) → columns_from n next name col ≡ columns_from n c name col
  columns_are zero name col = refl
  columns_are (suc n) name col =
      let first : strips_from (length next.subdisks) next name col 0 ≡ strips_from (length c.subdisks) c name col 0 =
      ap (λ ss. strips_from (length ss) next name col 0) parts.subdisks ∙ strips_same (length c.subdisks) name col 0 in
      let rest = columns_are n name (col + 1) in
      λ i. first i ∷ rest i

  held_is : (p : Plex) → is_held next good p ≡ is_held c good p
  held_is p = λ i. list_all (λ s. not (refers s.plex p.name) || has good (slot_of (parts.disks i) s.disk)) (parts.subdisks i)

  contents_are : (p : Plex) → plex_contents next bytes p ≡ plex_contents c bytes p
  contents_are p = ap (λ columns. λ b. bytes_at bytes (place_of p.unit columns b)) (columns_are p.ncol p.name 0)

  plexes_are : map (plex_image next good bytes) (filter (is_data_plex_of v.name) next.plexes) ≡ map (plex_image c good bytes) (filter (is_data_plex_of v.name) c.plexes)
  plexes_are = λ i. map (λ p. record { name = p.name; map = map_or_zero p.map; state = p.state; held = held_is p i; values = contents_are p i }) (filter (is_data_plex_of v.name) (parts.plexes i))

  copies_are : (dco : Option Word) → log_copies dco next good bytes v ≡ log_copies dco c good bytes v
  copies_are None = refl
  copies_are (Some dco) = λ i. map (λ p r k. marks (region_count v.len v.region) (contents_are p i) k r)
      (filter (λ p. is_log_plex_of v.name p && (is_active p.state && (held_is p i && is_headed v.len v.region (contents_are p i)))) (parts.plexes i))

  pub parts_image : image_of next good bytes v ≡ image_of c good bytes v
  parts_image =
      let snaps = ap (λ ss. relation_maps ss v.name) parts.snaps in
      let copies = copies_are v.dco in
      let plexes = plexes_are in
      λ i. record { state = v.state; length = v.len; region = v.region; plexes = plexes i; snaps = snaps i; copies = copies i }

-- ---- what is left

-- what is left has no header that there was not, and its copies are chained
record IsLeft (w left : World) : Type 0 where
  had : (dg : Word) → HadEach dg w left
  standing : IsStanding left

left_by : (place : ℕ) (w left : World) → AreAllSound place w → GroupLeaves w left → IsLeft w left
left_by place w left s (inl (none, gone)) = subst (IsLeft w) (sym gone) (record { had = gone_back w; standing = standing_gone w (settled w s.standing) })
left_by place w left s (inr (stands, inl gone)) = subst (IsLeft w) (sym gone) (record { had = gone_back w; standing = standing_gone w (settled w s.standing) })
left_by place w left s (inr (stands, inr goes)) = record { had = power_back w left goes (settled w s.standing); standing = standing_left w left goes (settled w s.standing) }

module _ (place : ℕ) (w left : World) (g : Group) (s : AreAllSound place w) (here : w.group ≡ Some g) (leaves : GroupLeaves w left) where
  abbrev dg : Word
  dg = g.config.group

  is_left : IsLeft w left
  is_left = left_by place w left s leaves

  chained : IsChained dg w
  chained = s.standing.copies dg

  abbrev chained_left : IsChained dg left
  chained_left = is_left.standing.copies dg

  module _ (old new : Moment) (same : old.world ≡ left) (none : NoneFailed old.counts new.counts) (mid : Moment) (is_mid : mid.world ≡ old.world) (later : (device : Word) → HasFailed mid.counts new.counts device → HasFailed old.counts new.counts device)
      (x : Writing) (i : IsImporting dg left x old.counts mid.counts) (c : IsCommitted x mid new) where
    abbrev found : Group
    found = found_group dg left old.counts mid.counts x i chained_left

    abbrev o : Offer
    o = (all dg left old.counts mid.counts x i chained_left).offer

    abbrev read : Config
    read = (all dg left old.counts mid.counts x i chained_left).config

    is_read : IsReadAs dg left o found
    is_read = found_read dg left old.counts mid.counts x i chained_left

    offer : Offers dg left (offers dg left old.counts mid.counts x i chained_left).0.name (offers dg left old.counts mid.counts x i chained_left).0.label.slot o
    offer = (offers dg left old.counts mid.counts x i chained_left).1

    -- it is the newest of the group as it left, so the group's own
    known : (o.good ≡ g.good) × (o.text ≡ (first w g (leads w g s.standing here) chained (s.whole g here)).text)
    known =
        let at = offers dg left old.counts mid.counts x i chained_left in
        newest_is w g (leads w g s.standing here) chained (s.whole g here) at.0.name at.0.label.slot o (offered dg w left (is_left.had dg) at.0.name at.0.label.slot o offer)
        (newest_before dg w left (is_left.had dg) chained at.0.name at.0.label.slot o found offer (newest_taken dg left old.counts mid.counts i.found _ (all dg left old.counts mid.counts x i chained_left) chained_left) is_read)

    same_records : HaveSameRecords g.config read
    same_records =
        let f = first w g (leads w g s.standing here) chained (s.whole g here) in
        one_reading g.config read f.text f.text_is (subst (λ t. IsConfigOf t read) known.1 is_read.config)

    x_group : x.group ≡ found
    x_group = (all dg left old.counts mid.counts x i chained_left).holds.0

    next_is : objects_of x.config ≡ import_records read
    next_is = (all dg left old.counts mid.counts x i chained_left).holds.1

    x_good : x.group.good ≡ g.good
    x_good = ap (λ (h : Group). h.good) x_group ∙ known.0

    x_members : x.group.members ≡ found.members
    x_members = ap (λ (h : Group). h.members) x_group

    few : (slot : ℕ) → has c.good slot ≡ true → has g.good slot ≡ true
    few slot is = subst (λ n. has n slot ≡ true) x_good (alone_few x i.joiners c.good c.mask.few slot is)

    -- no disk has failed
    kept : (slot : ℕ) → has g.good slot ≡ true → has c.good slot ≡ true
    kept slot good = elim (true_or_false (has c.good slot)) [
      | inl is ↦ is
      | inr lacks ↦
          let was : has x.group.good slot ≡ true = subst (λ n. has n slot ≡ true) (sym x_good) good in
          let m = subst IsWholeGroup (sym x_group) (found_whole dg left old.counts mid.counts x i chained_left) slot was in
          let failed = each_of (λ (n : Member). is_written_slot x n.slot ≡ true → has c.good n.slot ≡ false → HasFailed mid.counts new.counts n.device) (parties x) c.mask.lacks m.0 (in_left x.group.members x.joiners m.0 (is_in x.group.members m.0 m.1))
          (or_from_left (has x.group.good m.0.slot) (is_slot_of x.joiners m.0.slot) (subst (λ t. has x.group.good t ≡ true) (sym m.2) was)) (subst (λ t. has c.good t ≡ false) (sym m.2) lacks) in
          absurd (none m.0.device (later m.0.device failed))
    ]

    good_same : (slot : ℕ) → has c.good slot ≡ has g.good slot
    good_same slot = elim (true_or_false (has g.good slot)) [
      | inl good ↦ kept slot good ∙ sym good
      | inr bad ↦ elim (true_or_false (has c.good slot)) [
        | inl is ↦ absurd (not_both (few slot is) bad)
        | inr off ↦ off ∙ sym bad
      ]
    ]

    -- ---- bytes

    abbrev now : Group
    now = record { config = x.config; good = c.good; members = parties x; sequence = c.last }

    members_are : parties x ≡ found.members
    members_are = ap (λ js. x.group.members ++ js) i.joiners ∙ append-nil x.group.members ∙ x_members

    -- the public regions are those that were left
    as_left : (name : Word) (k : ℕ) → public_of (new.world.devices name) k ≡ public_of (left.devices name) k
    as_left name k = public_stays x c.last mid new c.committing name k ∙ ap (λ (v : World). public_of (v.devices name) k) (is_mid ∙ same)

    found_headed : (slot : ℕ) → AreHeadedIn dg w found.members slot
    found_headed slot m one at = let h = read_headed dg left o found is_read slot m one at in (h.0, is_left.had dg m.device slot h.0 h.1)

    same_bytes : (disk k : ℕ) → has g.good disk ≡ true → sectors_of new.world.devices (parties x) disk k ≡ sectors_of left.devices g.members disk k
    same_bytes disk k good =
        let m = s.whole g here disk good in
        let n = found_whole dg left old.counts mid.counts x i chained_left disk (subst (λ t. has t disk ≡ true) (sym known.0) good) in
        ap (λ ms. sectors_of new.world.devices ms disk k) members_are
        ∙ sectors_same left.devices new.world.devices found.members (λ y one t. as_left y.device t) disk k
        ∙ same_slot dg w chained left.devices g.members found.members disk (own_headed w g (leads w g s.standing here) chained (s.whole g here) disk good) (found_headed disk)
        m.0 (is_in g.members m.0 m.1) m.2 n.0 (is_in found.members n.0 n.1) n.2 k

    -- ---- volumes

    one_back : (v : Vol) → is_new v.state ≡ false → (run : Volume) → StandsForVolume (image_on left.devices g v) run → StandsForVolume (image_on new.world.devices now (imported v)) run
    one_back v started run stands =
        let bytes = sectors_of new.world.devices (parties x) in
        let alike = reading_alike g.config read v g.good c.good (sectors_of left.devices g.members) bytes same_records good_same (λ disk k good. same_bytes disk k good) in
        let read_stands = alike_stands (image_on left.devices g v) (image_of read c.good bytes v) alike run stands started in
        let recorded = state_stands (image_of read c.good bytes v) started run read_stands in
        subst (λ (y : Image). StandsForVolume y run) (sym (parts_image read x.config (has_parts read x.config next_is) c.good bytes (imported v) ∙ image_in_state read c.good bytes v (needs_sync_state v.state))) recorded

    here_still : (v : Vol) → Contains g.config.volumes v → Contains x.config.volumes (imported v)
    here_still v one =
        contains x.config.volumes (imported v)
        (subst (λ vs. IsIn vs (imported v)) (sym (has_parts read x.config next_is).volumes) (in_map imported read.volumes v (is_in read.volumes v (vol_here g.config read same_records v one))))

    is_back : IsBack g left now new.world
    is_back = record { read = read; same = same_records; records = next_is; good = good_same; there = here_still; stands = λ v one started run stands. one_back v started run stands }

-- ---- the command

module _ (place : ℕ) (w left : World) (g : Group) (s : AreAllSound place w) (here : w.group ≡ Some g) (leaves : GroupLeaves w left) where
  -- the group has left
  none_left : left.group ≡ None
  none_left = gone leaves
    where
      gone : GroupLeaves w left → left.group ≡ None
      gone (inl (none, is)) = ap (λ (v : World). v.group) is
      gone (inr (stands, inl is)) = ap (λ (v : World). v.group) is
      gone (inr (stands, inr goes)) = goes.no_group

  done_back : (old new : Moment) → old.world ≡ left → NoneFailed old.counts new.counts → IsDone (stage.Import g.config.group) [] old new → (h : Group) → new.world.group ≡ Some h → IsBack g left h new.world
  done_back old new same none (free, mid, between, (x, is, c)) h at =
      let i : IsImporting g.config.group left x old.counts mid.counts = subst (λ (v : World). IsImporting g.config.group v x old.counts mid.counts) same is in
      let group : Group = record { config = x.config; good = c.good; members = parties x; sequence = c.last } in
      subst (λ (k : Group). IsBack g left k new.world) (some_same group h (sym c.group ∙ at))
      (is_back place w left g s here leaves old new same none mid between.world (λ device failed. later_and_rose 1 (old.counts.faults device) (mid.counts.faults device) (new.counts.faults device) (between.first.faults device) failed) x i c)

  module _ (at : ℕ) (dg : Option Word) (old : Moment) (views : List View) (end : End) (new : Moment) (same : old.world ≡ left) where
    form_back : (none : NoneFailed old.counts new.counts) → DoesForm at dg (form.DgImport g.config.group) old views end new → (h : Group) → new.world.group ≡ Some h → IsBack g left h new.world
    unfolding plan_of
    form_back none (inl (mid, later, is, (shows, over, stays))) h there =
        subst (λ (m : Moment). IsBack g left h m.world) (sym stays)
        (done_back old mid same (subst (λ (m : Moment). NoneFailed old.counts m.counts) stays none) is h (ap (λ (m : Moment). m.world.group) (sym stays) ∙ there))
    form_back none (inr (no_views, later, stops)) h there = stopped_none g.config.group old new end (ap (λ (v : World). v.group) same ∙ none_left) stops h there

    command_back : (f : Form) → f ≡ form.DgImport g.config.group → NoneFailed old.counts new.counts → DoesForm at dg f old views end new → (h : Group) → new.world.group ≡ Some h → IsBack g left h new.world
    command_back f is none does h there = form_back none (subst (λ k. DoesForm at dg k old views end new) is does) h there

-- where no device is seen to have failed once the power is back, none had failed before
none_failed_over : (cut : Option ℕ) (old over new : Counts) → CountsAfter cut over new → NoneFailed old new → NoneFailed old over
none_failed_over None old over new same none = subst (λ n. NoneFailed old n) same none
none_failed_over (Some n) old over new back none = λ device failed. none device (subst (Rose (old.faults device)) (sym (back.faults device)) failed)

pub each_group_comes_back : EachGroupComesBack
each_group_comes_back place w left g s here leaves at c old answer new form_is same step none h there =
    let over : new.world ≡ step.over.world = left_group step.end step.over.world new.world step.leaves h there in
    subst (IsBack g left h) (sym over)
    (command_back place w left g s here leaves at c.group old step.views step.end step.over same c.form form_is (none_failed_over c.cut old.counts step.over.counts new.counts step.counts none) step.does h (ap (λ (v : World). v.group) (sym over) ∙ there))
