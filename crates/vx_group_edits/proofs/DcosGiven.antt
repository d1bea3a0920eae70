-- What a volume of one data plex is once it has got logs and a DCO, and once it has lost them.
use Rattle.std.proofs.Common.{◌≡◌, ℕ, ◌≤◌, Bool, true, false, not, Option, Some, None, List, [], ◌∷◌, ◌++◌, length, map, refl, sym, ◌∙◌, ap, subst, inl, inr, arith}
use Rattle.std.specs.Prelude.{◌&&◌, ◌||◌, ◌==◌, nat_le}
use Rattle.std.specs.List.{filter, filter_map, list_all}
use Rattle.std.proofs.lemmas.Bool.{and_from, and_parts, eqb-true, false≢true, false_from_ne_true, leb-true}
use Rattle.std.proofs.lemmas.List.{append-nil}
use Rattle.vx_base.specs.Named.{Word}
use Rattle.vx_mask.specs.Mask.{has}
use Rattle.vx_config_parts.specs.declared.dco.Dco.{Dco}
use Rattle.vx_config_parts.specs.declared.fault.ObjectFault.TheVariants.{NoLog}
use Rattle.vx_config_parts.specs.declared.object.Object.{Object}
use Rattle.vx_config_parts.specs.declared.object.Object.TheVariants.{PlexRecord, SubdiskRecord, VolRecord, DcoRecord}
use Rattle.vx_config_parts.specs.declared.plex.Plex.{Plex}
use Rattle.vx_config_parts.specs.declared.state.PlexState.{PlexState}
use Rattle.vx_config_parts.specs.declared.state.PlexState.TheVariants as plex_state
use Rattle.vx_config_parts.specs.declared.subdisk.Subdisk.{Subdisk}
use Rattle.vx_config_parts.specs.declared.vol.Vol.{Vol}
use Rattle.vx_config_parts.specs.Objects.{is_data_plex_of, is_log_plex_of, is_plex, refers}
use Rattle.vx_rules.specs.Faults.{unless}
use Rattle.vx_rules.specs.Maps.{is_in_use, log_count}
use Rattle.vx_objects.specs.declared.config.Config.{Config}
use Rattle.vx_objects.specs.declared.edit.Edit.{Edit}
use Rattle.vx_objects.specs.declared.edit.Edit.TheVariants.{AddDco, Make, SetPlex, SetRegion}
use Rattle.vx_objects.specs.Applied.{IsEdited}
use Rattle.vx_objects.specs.Config.{objects_of}
use Rattle.vx_objects.specs.Edits.{added, edited, edited_by}
use Rattle.vx_objects.specs.Parts.{as_plex, as_subdisk, in_kinds}
use Rattle.vx_objects.proofs.OneGroup.{first_none, second_none, unless_none}
use Rattle.vx_image.specs.Bytes.{is_held}
use Rattle.vx_image.specs.Lies.{slot_of}
use Rattle.vx_image.specs.UsedPlexes.{IsVolOf, is_used_log, is_used_state}
use Rattle.vx_image.proofs.PlexMembers.{IsIn, all_in, in_left, in_map, one_in, plex_in}
use Rattle.vx_image.proofs.Members.{contains, is_in}
use Rattle.vx_new_volumes.specs.declared.logs.NewLogs.{NewLogs}
use Rattle.vx_new_volumes.specs.Disks.{names_of}
use Rattle.vx_new_volumes.specs.Logs.{dco_fault, logs_fault, logs_fit, logs_limit_fault, logs_request, new_dco_fault, region_with}
use Rattle.vx_new_volumes.specs.Records.{dco_name}
use Rattle.vx_stages.specs.Logging.{AreLogsLaid, log_state, prepare_edits}
use Rattle.vx_volume_laws.specs.Keeping.{data_plexes}
use Rattle.vx_group_edits.specs.Dcos.{ChangesDco, GetsLogs}
use Rattle.vx_group_edits.specs.DcoLaws.{EachNewLogIsUsed, EachPreparingChangesDco}
use Rattle.vx_group_edits.specs.Joins.{plexes_in, subdisks_in}
use Rattle.vx_group_edits.specs.OfVolume.{AreEditsOf, AreOf, is_part_of}
use Rattle.vx_group_edits.proofs.ByKind.{plexes_own, subdisks_are, subdisks_own}
use Rattle.vx_group_edits.proofs.Columns.{subdisks_of}
use Rattle.vx_group_edits.proofs.DcoEdits.{log_no_data, own_plex, preparing_own}
use Rattle.vx_group_edits.proofs.EditSteps.{as_set, dco_leaves, gets_dco, in_regions, make_behind, region_leaves, stays_with, subdisks_set}
use Rattle.vx_group_edits.proofs.FreeMaps.{none_passes}
use Rattle.vx_group_edits.proofs.GoodDisks.{free_lies, good_name}
use Rattle.vx_group_edits.proofs.Held.{lies, new_held}
use Rattle.vx_group_edits.proofs.Lists.{all_each, filter_append, filter_none, filter_passed, filter_narrow, none_seen, not_picked, picked}
use Rattle.vx_group_edits.proofs.LogRecords.{AreLogsMade, added_pass, are_logs, laid_pass, logs_are_of, logs_made, some_log}
use Rattle.vx_group_edits.proofs.LonePlexes.{HasAlone, changes, filter_mapped, no_relations, one_data, plexes_now, set_other, test_left, unrelated}
use Rattle.vx_group_edits.proofs.OwnEdits.{disks_same, snaps_same}
use Rattle.vx_group_edits.proofs.Plans.{logs_count, logs_lie}
use Rattle.vx_group_edits.proofs.PlexNames.{name_new, names_are, plex_name, subdisk_off}

-- ---- lists

map_each : {A : Type 0} (f : A → A) (xs : List A) → ((x : A) → IsIn xs x → f x ≡ x) → map f xs ≡ xs
map_each f [] each = refl
map_each f (x ∷ xs) each = let first = each x (inl refl) in let rest = map_each f xs (λ y there. each y (inr there)) in λ i. first i ∷ rest i

no_dco_had : (group : List Object) (o new : Option Word) → dco_fault group o new ≡ None → o ≡ None
no_dco_had group None new e = refl
no_dco_had group (Some dco) new e = cc

-- ---- a volume gets logs

module _ (c : Config) (good : ℕ) (v : Vol) (n : NewLogs) (plex : Plex) (more : List Object) (edits : List Edit) (of : IsVolOf c v) (fits : logs_fault (objects_of c) v n.count n.region ≡ None)
    (laid : AreLogsLaid c good v n plex more edits) (c' : Config) (is : IsEdited edits c c') where
  abbrev all : List Object
  all = objects_of c

  -- ---- the tests

  tested : new_dco_fault all v n.count ≡ None
  tested = second_none (logs_limit_fault all v n.count (region_with v n.region)) (new_dco_fault all v n.count) fits

  none : v.dco ≡ None
  none = no_dco_had all v.dco (dco_name v.name) (first_none (dco_fault all v.dco (dco_name v.name)) (unless (logs_fit all v.name n.count) (NoLog v.name)) tested)

  fit : (nat_le 1 n.count ≡ true) × ((nat_le n.count 2 && log_count all v.name == 0) ≡ true)
  fit =
      and_parts (nat_le 1 n.count) (nat_le n.count 2 && log_count all v.name == 0)
      (unless_none (logs_fit all v.name n.count) (NoLog v.name) (second_none (dco_fault all v.dco (dco_name v.name)) (unless (logs_fit all v.name n.count) (NoLog v.name)) tested))

  no_logs : log_count all v.name ≡ 0
  no_logs = eqb-true (log_count all v.name) 0 (and_parts (nat_le n.count 2) (log_count all v.name == 0) fit.1).1

  -- ---- the records

  made : AreLogsMade all v laid.dco laid.plan (log_state v.state) more
  made = logs_made all v laid.dco laid.plan (log_state v.state) more laid.records

  are_of : AreOf v.name more
  are_of = logs_are_of all v laid.dco laid.plan (log_state v.state) more made

  own_edits : AreEditsOf c v.name edits
  own_edits = preparing_own c good v n plex more edits laid

  abbrev new_dco : Dco
  new_dco = record { name = laid.dco; vol = v.name; maps = 32 }

  abbrev now : Vol
  now = record v { region = region_with v n.region; dco = Some laid.dco }

  -- the records before the map of the plex is set
  abbrev before : List Object
  before = edited (AddDco new_dco) (edited (Make more) (edited (SetRegion v.name (region_with v n.region)) all))

  edited_so : objects_of c' ≡ in_kinds (edited (SetPlex plex.name (Some v.name) plex.state (Some 0)) before)
  edited_so = is ∙ ap (λ (es : List Edit). in_kinds (edited_by es all)) laid.edits_are

  behind : {A : Type 0} (pick : Object → Option A) → ((v : Vol) → pick (VolRecord v) ≡ None) → ((d : Dco) → pick (DcoRecord d) ≡ None) → filter_map pick before ≡ filter_map pick all ++ filter_map pick more
  behind pick no_vol no_dco =
      dco_leaves pick no_vol no_dco new_dco (edited (Make more) (edited (SetRegion v.name (region_with v n.region)) all))
      ∙ make_behind pick more (edited (SetRegion v.name (region_with v n.region)) all)
      ∙ ap (λ xs. xs ++ filter_map pick more) (region_leaves pick no_vol no_dco v.name (region_with v n.region) all)

  plexes_before : filter_map as_plex before ≡ c.plexes ++ plexes_in more
  plexes_before = behind as_plex (λ v. refl) (λ d. refl) ∙ ap (λ ps. ps ++ plexes_in more) (plexes_own c)

  subdisks_before : filter_map as_subdisk before ≡ c.subdisks ++ subdisks_in more
  subdisks_before = behind as_subdisk (λ v. refl) (λ d. refl) ∙ ap (λ ss. ss ++ subdisks_in more) (subdisks_own c)

  there : IsIn before (VolRecord now)
  there =
      let regions : Vol = record v { region = region_with v n.region } in
      let first = in_regions v regions all (one_in all (VolRecord v) of) (region_with v n.region) refl in
      let second = stays_with regions (edited (SetRegion v.name (region_with v n.region)) all) first more in
      gets_dco regions now (edited (Make more) (edited (SetRegion v.name (region_with v n.region)) all)) second new_dco refl refl

  -- ---- names

  are_named : filter_map plex_name more ≡ map (λ (p : Plex). p.name) (plexes_in more)
  are_named = names_are more

  leaves_all : (p : Plex) → IsIn c.plexes p → (m : Word) → IsIn (filter_map plex_name more) m → p.name ≡ m → ⊥
  unfolding added
  leaves_all p here m new =
      name_new c c' v.name (prepare_edits v n laid.dco plex more)
      (subst (λ es. AreEditsOf c v.name es) laid.edits_are own_edits)
      edited_so p here (tt, (tt, (tt, (tt, tt)))) m (in_left (filter_map plex_name more) _ m new)

  free : (p q : Plex) → IsIn c.plexes p → IsIn (plexes_in more) q → p.name ≡ q.name → ⊥
  free p q here new = leaves_all p here q.name (subst (λ ns. IsIn ns q.name) (sym are_named) (in_map (λ (p : Plex). p.name) (plexes_in more) q new))

  -- ---- the data plex

  own : IsIn c.plexes plex × (is_data_plex_of v.name plex ≡ true)
  own = own_plex c v.name plex laid.plex_is

  was : data_plexes c v.name ≡ plex ∷ []
  was = one_data c v of none plex own.0 own.1

  logs_of_it : (p : Plex) → IsIn (plexes_in more) p → (is_log_plex_of v.name p ≡ true) × (p.state ≡ log_state v.state)
  logs_of_it p new = (are_logs all v laid.dco laid.plan (log_state v.state) more made).logs p (contains (plexes_in more) p new)

  data_before : filter (is_data_plex_of v.name) (filter_map as_plex before) ≡ plex ∷ []
  data_before =
      ap (λ ps. filter (is_data_plex_of v.name) ps) plexes_before
      ∙ filter_append (is_data_plex_of v.name) c.plexes (plexes_in more)
      ∙ ap (λ ps. data_plexes c v.name ++ ps) (filter_none (is_data_plex_of v.name) (plexes_in more) (λ p new. log_no_data v.name p (logs_of_it p new).0))
      ∙ append-nil (data_plexes c v.name)
      ∙ was

  no_subdisk : filter (λ s. refers s.plex plex.name) (subdisks_in more) ≡ []
  no_subdisk = none_seen (λ s. refers s.plex plex.name) as_subdisk more (λ o here. by o (all_in (is_part_of v.name more) more o are_of here))
    where
      by : (o : Object) → is_part_of v.name more o ≡ true → picked (λ s. refers s.plex plex.name) as_subdisk (as_subdisk o) ≡ []
      by (SubdiskRecord s) part = not_picked (λ s. refers s.plex plex.name) as_subdisk s (subdisk_off v.name more plex (leaves_all plex own.0) s part)
      by o part = refl

  alone : HasAlone c v.name plex now before
  alone = record {
    volume = there;
    plexes = data_before;
    subdisks =
        ap (λ ss. filter (λ s. refers s.plex plex.name) ss) subdisks_before
        ∙ filter_append (λ s. refers s.plex plex.name) c.subdisks (subdisks_in more)
        ∙ ap (λ ss. subdisks_of c plex.name ++ ss) no_subdisk
        ∙ append-nil (subdisks_of c plex.name);
  }

  same_disks : c'.disks ≡ c.disks
  same_disks = disks_same c c' v.name edits own_edits is

  changed : ChangesDco c v c' now plex (record plex { map = Some 0 })
  changed = changes c c' v plex (Some 0) now before own.1 alone edited_so refl refl was same_disks (snaps_same c c' v.name edits own_edits is) (no_relations v.name c.snaps (unrelated c v of none))

  -- ---- the logs

  subdisks_behind : c'.subdisks ≡ c.subdisks ++ subdisks_in more
  subdisks_behind =
      subdisks_are c' (edited (SetPlex plex.name (Some v.name) plex.state (Some 0)) before) edited_so
      ∙ subdisks_set plex.name (Some v.name) plex.state (Some 0) before
      ∙ subdisks_before

  -- each subdisk that is added is on a disk with the name of a good one
  added_lie : list_all (lies (good_name c.disks good)) more ≡ true
  added_lie =
      let on = good_name c.disks good in
      let planned = logs_lie on (logs_request v n.count n.region) (names_of laid.planned.disks) laid.planned.free laid.plan (free_lies c good laid.planned.free laid.planned.are_free) laid.planned.is in
      added_pass all v laid.dco laid.plan (log_state v.state) more made (lies on) (λ name. refl)
      (laid_pass all v laid.dco laid.plan (log_state v.state) more made (lies on) (λ e. on e.disk) (λ p new name col at e fits. fits) planned)

  held : (p : Plex) → IsIn (plexes_in more) p → is_held c' good p ≡ true
  held p new = new_held c c' good more same_disks subdisks_behind added_lie p (λ q here same. free q p (is_in c.plexes q here) new same)

  some_there : 1 ≤ length laid.plan.logs
  some_there =
      let count = logs_count (logs_request v n.count n.region) (names_of laid.planned.disks) laid.planned.free laid.plan laid.planned.is in
      let some = leb-true 1 n.count fit.0 in
      omega (arith, count, some)

  gets : GetsLogs c good v (log_state v.state) more c' now
  gets = record {
    none = none;
    dco = laid.dco;
    dco_is = refl;
    logs = are_logs all v laid.dco laid.plan (log_state v.state) more made;
    some = some_log all v laid.dco laid.plan (log_state v.state) more made some_there;
    held = λ p new. held p (is_in (plexes_in more) p new);
  }

  -- ---- which logs are used

  module _ (active : log_state v.state ≡ plex_state.Active) (wide : ℕ) (wider : (slot : ℕ) → has good slot ≡ true → has wide slot ≡ true) where
    -- an active log plex of the volume
    abbrev is_active_log : Plex → Bool
    is_active_log p = is_log_plex_of v.name p && is_used_state false p.state

    in_use : (s : PlexState) → is_used_state false s ≡ true → is_in_use s ≡ true
    in_use plex_state.Active e = refl
    in_use plex_state.Empty e = refl
    in_use s e = absurd (false≢true e)

    -- it had none
    none_active : (p : Plex) → IsIn c.plexes p → is_active_log p ≡ false
    none_active p here =
        false_from_ne_true (is_active_log p)
        (λ h.
        let parts = and_parts (is_log_plex_of v.name p) (is_used_state false p.state) h in
        none_passes (λ o. is_plex (λ p. is_log_plex_of v.name p && is_in_use p.state) o) all (PlexRecord p) no_logs (plex_in c p here)
        (and_from (is_log_plex_of v.name p) (is_in_use p.state) parts.0 (in_use p.state parts.1)))

    new_active : (p : Plex) → IsIn (plexes_in more) p → is_active_log p ≡ true
    new_active p new = and_from (is_log_plex_of v.name p) (is_used_state false p.state) (logs_of_it p new).0 (ap (λ s. is_used_state false s) ((logs_of_it p new).1 ∙ active))

    data_inactive : (p : Plex) → is_data_plex_of v.name p ≡ true → is_active_log p ≡ false
    data_inactive p d =
        false_from_ne_true (is_active_log p)
        (λ h. false≢true (sym (log_no_data v.name p (and_parts (is_log_plex_of v.name p) (is_used_state false p.state) h).0) ∙ d))

    set_new : (p : Plex) → IsIn (plexes_in more) p → as_set plex.name (Some v.name) plex.state (Some 0) p ≡ p
    set_new p new = set_other c c' v plex (Some 0) now before own.1 alone edited_so p (λ e. free plex p own.0 new (sym e))

    active_now : filter is_active_log c'.plexes ≡ plexes_in more
    active_now =
        let set = as_set plex.name (Some v.name) plex.state (Some 0) in
        ap (λ ps. filter is_active_log ps) (plexes_now c c' v plex (Some 0) now before own.1 alone edited_so)
        ∙ filter_mapped is_active_log set (filter_map as_plex before)
        (test_left c c' v plex (Some 0) now before own.1 alone edited_so is_active_log (data_inactive (record plex { map = Some 0 }) own.1 ∙ sym (data_inactive plex own.1)))
        ∙ ap (λ ps. map set (filter is_active_log ps)) plexes_before
        ∙ ap (λ ps. map set ps) (filter_append is_active_log c.plexes (plexes_in more))
        ∙ ap (λ ps. map set (ps ++ filter is_active_log (plexes_in more))) (filter_none is_active_log c.plexes none_active)
        ∙ ap (λ ps. map set ps) (filter_passed is_active_log (plexes_in more) new_active)
        ∙ map_each set (plexes_in more) set_new

    narrow : (p : Plex) → is_used_log c' wide false v.name p ≡ true → is_active_log p ≡ true
    narrow p h =
        let parts = and_parts (is_log_plex_of v.name p) (is_used_state false p.state && is_held c' wide p) h in
        and_from (is_log_plex_of v.name p) (is_used_state false p.state) parts.0 (and_parts (is_used_state false p.state) (is_held c' wide p) parts.1).0

    held_wide : (p : Plex) → is_held c' good p ≡ true → is_held c' wide p ≡ true
    held_wide p h = all_each (λ s. not (refers s.plex p.name) || has wide (slot_of c'.disks s.disk)) c'.subdisks (λ s here. by s (refers s.plex p.name) (all_in (λ s. not (refers s.plex p.name) || has good (slot_of c'.disks s.disk)) c'.subdisks s h here))
      where
        by : (s : Subdisk) (b : Bool) → (not b || has good (slot_of c'.disks s.disk)) ≡ true → (not b || has wide (slot_of c'.disks s.disk)) ≡ true
        by s true e = wider (slot_of c'.disks s.disk) e
        by s false e = refl

    used_now : filter (is_used_log c' wide false v.name) c'.plexes ≡ plexes_in more
    used_now =
        filter_narrow (is_used_log c' wide false v.name) is_active_log narrow c'.plexes
        ∙ ap (λ ps. filter (is_used_log c' wide false v.name) ps) active_now
        ∙ filter_passed (is_used_log c' wide false v.name) (plexes_in more)
        (λ p new.
        let parts = and_parts (is_log_plex_of v.name p) (is_used_state false p.state) (new_active p new) in
        and_from (is_log_plex_of v.name p) (is_used_state false p.state && is_held c' wide p) parts.0 (and_from (is_used_state false p.state) (is_held c' wide p) parts.1 (held_wide p (held p new))))

pub preparing_changes : EachPreparingChangesDco
preparing_changes c good v n plex more edits of fits laid c' is =
    (now c good v n plex more edits of fits laid c' is, record plex { map = Some 0 }, changed c good v n plex more edits of fits laid c' is, refl, gets c good v n plex more edits of fits laid c' is)

pub new_log_used : EachNewLogIsUsed
new_log_used c good v n plex more edits of fits laid active c' is dco wide wider = used_now c good v n plex more edits of fits laid c' is active wide wider
