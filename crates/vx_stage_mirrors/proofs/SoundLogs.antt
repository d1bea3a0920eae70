-- A volume of one data plex is sound as it is to be recorded with new logs, once an empty log was written or where it was never started, and
-- as it is to be recorded without them.
use Rattle.std.proofs.Common.{◌≡◌, ◌⊎◌, ◌∙◌, ℕ, ◌<◌, Bool, true, false, Some, None, List, [], ◌∷◌, ◌++◌, map, refl, sym, ap, subst, inl, inr}
use Rattle.std.specs.Prelude.{◌&&◌, ◌==◌, nat_le, if◌then◌else◌, Contains, Option}
use Rattle.std.specs.List.{filter_map}
use Rattle.std.specs.Str.{bytes_eq}
use Rattle.std.proofs.lemmas.Bool.{and_from, and_parts, eqb-true, false≢true, false_from_ne_true}
use Rattle.vx_base.specs.Named.{Word}
use Rattle.vx_base.proofs.NamedLemmas.{bytes_eq_same}
use Rattle.vx_config_parts.specs.declared.dco.Dco.{Dco}
use Rattle.vx_config_parts.specs.declared.object.Object.{Object}
use Rattle.vx_config_parts.specs.declared.object.Object.TheVariants.{PlexRecord, VolRecord}
use Rattle.vx_config_parts.specs.declared.fault.ObjectFault.TheVariants.{NoLog}
use Rattle.vx_config_parts.specs.declared.plex.Plex.{Plex}
use Rattle.vx_config_parts.specs.declared.state.PlexState.{PlexState}
use Rattle.vx_config_parts.specs.declared.state.PlexState.TheVariants as plex_state
use Rattle.vx_config_parts.specs.declared.state.VolState.{VolState}
use Rattle.vx_config_parts.specs.declared.state.VolState.TheVariants as vol_state
use Rattle.vx_config_parts.specs.declared.vol.Vol.{Vol}
use Rattle.vx_config_parts.specs.Objects.{is_data_plex_of, is_log_plex_of, is_plex}
use Rattle.vx_rules.specs.Faults.{unless}
use Rattle.vx_rules.specs.Maps.{is_in_use, log_count}
use Rattle.vx_objects.specs.declared.config.Config.{Config}
use Rattle.vx_objects.specs.declared.edit.Edit.{Edit}
use Rattle.vx_objects.specs.declared.edit.Edit.TheVariants.{AddDco, Make, SetPlex, SetRegion}
use Rattle.vx_objects.specs.Applied.{IsEdited}
use Rattle.vx_objects.specs.Config.{objects_of}
use Rattle.vx_objects.specs.Edits.{edited, edited_by}
use Rattle.vx_objects.specs.Parts.{as_plex, in_kinds}
use Rattle.vx_objects.proofs.OneGroup.{second_none, unless_none}
use Rattle.vx_image.specs.Bytes.{Sectors, is_active, is_held, is_log_copy, log_copies, plex_contents, plex_marks, relation_maps}
use Rattle.vx_mapfmt.specs.Bits.{is_headed}
use Rattle.vx_image.specs.Image.{LogCopy, regions_of}
use Rattle.vx_image.specs.Soundness.{IsSoundImage}
use Rattle.vx_image.specs.UsedPlexes.{IsVolOf}
use Rattle.vx_image.proofs.Members.{contains, is_in}
use Rattle.vx_image.proofs.PlexMembers.{IsIn, from_map, in_either, in_one, plex_in}
use Rattle.vx_lending.proofs.Distinct.{filtered}
use Rattle.vx_lending.proofs.Rules.{one_plex}
use Rattle.vx_new_volumes.specs.declared.logs.NewLogs.{NewLogs}
use Rattle.vx_new_volumes.specs.Logs.{dco_fault, logs_fault, logs_fit, logs_limit_fault, new_dco_fault, region_with}
use Rattle.vx_new_volumes.specs.Records.{dco_name}
use Rattle.vx_state_edits.specs.Edits.{is_new}
use Rattle.vx_moments.specs.Group.{image_on, sectors_of}
use Rattle.vx_moments.specs.World.{Group, World}
use Rattle.vx_group_edits.specs.Dcos.{ChangesDco}
use Rattle.vx_group_edits.specs.Joins.{plexes_in}
use Rattle.vx_group_edits.proofs.ByKind.{plexes_are, plexes_own, records_vol, vol_recorded}
use Rattle.vx_group_edits.proofs.DcoEdits.{log_no_data}
use Rattle.vx_group_edits.proofs.DcosGiven.{preparing_changes}
use Rattle.vx_group_edits.proofs.DcosTaken.{unpreparing_changes}
use Rattle.vx_group_edits.proofs.EditSteps.{as_set, dco_leaves, make_behind, plexes_set, region_leaves}
use Rattle.vx_group_edits.proofs.FreeMaps.{none_passes}
use Rattle.vx_group_edits.proofs.Lists.{filter_none, only_in}
use Rattle.vx_group_edits.proofs.LoneImages.{lone_image_sound, lone_plex_holds}
use Rattle.vx_stages.specs.Logged.{HasEmptyLog, by_config}
use Rattle.vx_stages.specs.Logging.{AreLogsLaid, MayLoseLog, log_state}
use Rattle.vx_stages.specs.Recorded.{IsSoundAs}
use Rattle.vx_stage_volumes.proofs.Absent.{one_vol}
use Rattle.vx_stage_volumes.proofs.Named.{found_name}

-- ---- a volume of one plex

-- its image is sound where no copy of its log marks anything
module _ (g : Group) (v : Vol) (next : Config) (v' : Vol) (p p' : Plex) (changes : ChangesDco g.config v next v' p p') (w : World) where
  abbrev bytes : Sectors
  bytes = sectors_of w.devices g.members

  name_same : v'.name ≡ v.name
  name_same = ap (λ (x : Vol). x.name) changes.volume

  lone_sound : ((c : LogCopy) → Contains (image_on w.devices (by_config next g) v').copies c → (r k : ℕ) → r < regions_of (image_on w.devices (by_config next g) v') → c r k ≡ false) → IsSoundImage (image_on w.devices (by_config next g) v')
  lone_sound clear =
      let holds = lone_plex_holds g.config v next v' p p' changes g.good bytes in
      lone_image_sound (image_on w.devices (by_config next g) v') holds.1 holds.3 (subst (λ n. relation_maps next.snaps n ≡ []) (sym name_same) changes.alone_now) clear

  -- no other volume of the new configuration has its name
  its_own : (u : Vol) → Contains next.volumes u → u.name ≡ v.name → u ≡ v'
  its_own u there named = one_vol next u v' (in_one (objects_of next) (VolRecord u) (records_vol next u (is_in next.volumes u there))) changes.recorded (named ∙ sym name_same)

  sound_by : IsSoundImage (image_on w.devices (by_config next g) v') → IsSoundAs g next v.name w
  sound_by sound u there named = subst (λ (x : Vol). IsSoundImage (image_on w.devices (by_config next g) x)) (sym (its_own u there named)) sound

-- ---- logs that come

-- a log plex that is active is in use
in_use : (s : PlexState) → is_active s ≡ true → is_in_use s ≡ true
in_use plex_state.Active e = refl
in_use plex_state.Empty e = refl
in_use s e = absurd (false≢true e)

-- new logs of a volume that was never started are empty
empty_logs : (s : VolState) → is_new s ≡ true → log_state s ≡ plex_state.Empty
empty_logs vol_state.Empty new = refl
empty_logs s new = absurd (false≢true new)

-- a plex that is set keeps its name
set_name : (plex : Word) (to : Option Word) (state : PlexState) (k : Option ℕ) (q : Plex) → (as_set plex to state k q).name ≡ q.name
set_name plex to state k q = by (bytes_eq q.name plex)
  where
    by : (b : Bool) → (if b then record q { vol = to; state = state; map = k } else q).name ≡ q.name
    by true = refl
    by false = refl

-- .. and one of another name is left
set_other : (plex : Word) (to : Option Word) (state : PlexState) (k : Option ℕ) (q : Plex) → (q.name ≡ plex → ⊥) → as_set plex to state k q ≡ q
set_other plex to state k q other = ap (λ (b : Bool). if b then record q { vol = to; state = state; map = k } else q) (false_from_ne_true (bytes_eq q.name plex) (λ h. other (bytes_eq_same q.name plex h)))

module _ (g : Group) (v : Vol) (of : IsVolOf g.config v) (n : NewLogs) (fits : logs_fault (objects_of g.config) v n.count n.region ≡ None) (plex : Plex) (added : List Object) (edits : List Edit)
    (laid : AreLogsLaid g.config g.good v n plex added edits) (next : Config) (is : IsEdited edits g.config next) where
  abbrev all : List Object
  all = objects_of g.config

  -- the volume then, and its data plex
  abbrev v' : Vol
  v' = (preparing_changes g.config g.good v n plex added edits of fits laid next is).0

  abbrev p' : Plex
  p' = (preparing_changes g.config g.good v n plex added edits of fits laid next is).1

  changes : ChangesDco g.config v next v' plex p'
  changes = (preparing_changes g.config g.good v n plex added edits of fits laid next is).2

  -- ---- its plexes then

  abbrev dco : Dco
  dco = record { name = laid.dco; vol = v.name; maps = 32 }

  abbrev regions : List Object
  regions = edited (SetRegion v.name (region_with v n.region)) all

  -- the records before the map of the plex is set
  abbrev before : List Object
  before = edited (AddDco dco) (edited (Make added) regions)

  edited_so : objects_of next ≡ in_kinds (edited (SetPlex plex.name (Some v.name) plex.state (Some 0)) before)
  edited_so = is ∙ ap (λ (es : List Edit). in_kinds (edited_by es all)) laid.edits_are

  plexes_before : filter_map as_plex before ≡ g.config.plexes ++ plexes_in added
  plexes_before =
      dco_leaves as_plex (λ v. refl) (λ d. refl) dco (edited (Make added) regions)
      ∙ make_behind as_plex added regions
      ∙ ap (λ ps. ps ++ plexes_in added) (region_leaves as_plex (λ v. refl) (λ d. refl) v.name (region_with v n.region) all ∙ plexes_own g.config)

  abbrev set : Plex → Plex
  set q = as_set plex.name (Some v.name) plex.state (Some 0) q

  plexes_next : next.plexes ≡ map set (g.config.plexes ++ plexes_in added)
  plexes_next =
      plexes_are next (edited (SetPlex plex.name (Some v.name) plex.state (Some 0)) before) edited_so
      ∙ plexes_set plex.name (Some v.name) plex.state (Some 0) before
      ∙ ap (λ ps. map set ps) plexes_before

  -- ---- no log of it is active, where its logs are empty

  no_logs : log_count all v.name ≡ 0
  no_logs =
      let tested = second_none (logs_limit_fault all v n.count (region_with v n.region)) (new_dco_fault all v n.count) fits in
      let fit = unless_none (logs_fit all v.name n.count) (NoLog v.name) (second_none (dco_fault all v.dco (dco_name v.name)) (unless (logs_fit all v.name n.count) (NoLog v.name)) tested) in
      eqb-true (log_count all v.name) 0 (and_parts (nat_le n.count 2) (log_count all v.name == 0) (and_parts (nat_le 1 n.count) (nat_le n.count 2 && log_count all v.name == 0) fit).1).1

  data_next : IsIn next.plexes p' × (is_data_plex_of v.name p' ≡ true)
  data_next = filtered (is_data_plex_of v.name) next.plexes p' (subst (λ ps. IsIn ps p') (sym changes.is) (inl refl))

  -- a log plex has another name than the data plex
  log_differs : (p : Plex) → IsIn next.plexes p → is_log_plex_of v.name p ≡ true → p.name ≡ plex.name → ⊥
  log_differs p there log same =
      let one = one_plex next p p' there data_next.0 (same ∙ sym (ap (λ (x : Plex). x.name) changes.plex)) in
      false≢true (sym (log_no_data v.name p log) ∙ subst (λ (x : Plex). is_data_plex_of v.name x ≡ true) (sym one) data_next.1)

  none_active : is_new v.state ≡ true → (p : Plex) → IsIn next.plexes p → is_log_plex_of v.name p ≡ true → is_active p.state ≡ true → ⊥
  none_active new p there log active =
      let from = from_map set (g.config.plexes ++ plexes_in added) p (subst (λ ps. IsIn ps p) plexes_next there) in
      let named : p.name ≡ from.0.name = ap (λ (x : Plex). x.name) from.2 ∙ set_name plex.name (Some v.name) plex.state (Some 0) from.0 in
      let same : p ≡ from.0 = from.2 ∙ set_other plex.name (Some v.name) plex.state (Some 0) from.0 (λ e. log_differs p there log (named ∙ e)) in
      elim (in_either g.config.plexes (plexes_in added) from.0 from.1) [
        | inl old ↦ was p log active (subst (λ (x : Plex). IsIn g.config.plexes x) (sym same) old)
        | inr more ↦ came p active (subst (λ (x : Plex). IsIn (plexes_in added) x) (sym same) more)
      ]
    where
      -- it had none that is in use
      was : (p : Plex) → is_log_plex_of v.name p ≡ true → is_active p.state ≡ true → IsIn g.config.plexes p → ⊥
      was p log active old =
          none_passes (λ o. is_plex (λ p. is_log_plex_of v.name p && is_in_use p.state) o) all (PlexRecord p) no_logs (plex_in g.config p old)
          (and_from (is_log_plex_of v.name p) (is_in_use p.state) log (in_use p.state active))

      -- the new ones are empty
      came : (p : Plex) → is_active p.state ≡ true → IsIn (plexes_in added) p → ⊥
      came p active more =
          let logs = (preparing_changes g.config g.good v n plex added edits of fits laid next is).4.logs in
          let state : p.state ≡ plex_state.Empty = (logs.logs p (contains (plexes_in added) p more)).1 ∙ empty_logs v.state new in
          false≢true (sym (ap is_active state) ∙ active)

  module _ (w : World) where
    abbrev sectors : Sectors
    sectors = sectors_of w.devices g.members

    named_same : v'.name ≡ v.name
    named_same = ap (λ (x : Vol). x.name) changes.volume

    no_copy : is_new v.state ≡ true → (p : Plex) → IsIn next.plexes p → is_log_copy next g.good sectors v' p ≡ false
    no_copy new p there =
        false_from_ne_true (is_log_copy next g.good sectors v' p)
        (λ h.
        let rest = is_held next g.good p && is_headed v'.len v'.region (plex_contents next sectors p) in
        let parts = and_parts (is_log_plex_of v'.name p) (is_active p.state && rest) h in
        none_active new p there (subst (λ vol. is_log_plex_of vol p ≡ true) named_same parts.0) (and_parts (is_active p.state) rest parts.1).0)

    no_copies : is_new v.state ≡ true → (image_on w.devices (by_config next g) v').copies ≡ []
    no_copies new =
        ap (λ o. log_copies o next g.good sectors v') (preparing_changes g.config g.good v n plex added edits of fits laid next is).4.dco_is
        ∙ ap (λ ps. map (plex_marks next sectors v') ps) (filter_none (is_log_copy next g.good sectors v') next.plexes (no_copy new))

    -- The log was written, or the volume was never started.
    pub prepared_sound : (is_new v.state ≡ true) ⊎ ((u : Vol) → Contains next.volumes u → u.name ≡ v.name → HasEmptyLog (image_on w.devices (by_config next g) u)) → IsSoundAs g next v.name w
    prepared_sound (inl new) =
        sound_by g v next v' plex p' changes w
        (lone_sound g v next v' plex p' changes w (λ c there r k low. absurd (is_in [] c (subst (λ cs. Contains cs c) (no_copies new) there))))
    prepared_sound (inr written) =
        sound_by g v next v' plex p' changes w
        (lone_sound g v next v' plex p' changes w (written v' (contains next.volumes v' (vol_recorded next v' changes.recorded)) named_same).nothing)

-- ---- logs that go

-- what counts as the copy of a volume without a log marks nothing
no_marks : (copies : List LogCopy) → copies ≡ (λ r k. false) ∷ [] → (c : LogCopy) → Contains copies c → (r k : ℕ) → c r k ≡ false
no_marks copies are c there r k = ap (λ (d : LogCopy). d r k) (only_in c (λ r k. false) (is_in ((λ r k. false) ∷ []) c (subst (λ cs. Contains cs c) are there)))

pub unprepared_sound : (g : Group) (name : Word) (v : Vol) (plex : Plex) (edits : List Edit) → MayLoseLog g.config name v plex edits → (next : Config) → IsEdited edits g.config next → (w : World) → IsSoundAs g next name w
unprepared_sound g name v plex edits may next is w =
    let r = unpreparing_changes g.config name v plex edits may next is in
    let bytes = sectors_of w.devices g.members in
    subst (λ vol. IsSoundAs g next vol w) (found_name g.config name v may.found)
    (sound_by g v next r.0 plex r.1 r.2 w
    (lone_sound g v next r.0 plex r.1 r.2 w (λ c there r' k low. no_marks (log_copies r.0.dco next g.good bytes r.0) (ap (λ o. log_copies o next g.good bytes r.0) r.3) c there r' k)))
