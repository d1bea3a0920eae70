-- What is to be committed for a running volume that goes on with other logs then, or without one.
use Rattle.std.proofs.Common.{◌≡◌, ◌∙◌, ℕ, Bool, true, false, Some, None, List, [], ◌∷◌, length, map, refl, sym, ap, subst, arith}
use Rattle.std.specs.Prelude.{◌^◌, ◌==◌, nat_lt, not, is_some}
use Rattle.std.specs.List.{AllZip}
use Rattle.std.proofs.lemmas.Bool.{eqb-true, false≢true, lt-ltb}
use Rattle.vx_base.specs.Named.{Word}
use Rattle.vx_mask.specs.Mask.{has}
use Rattle.vx_piece.specs.Seen.{Seen}
use Rattle.vx_pages.specs.declared.local_piece.LocalPiece.{Ghosts}
use Rattle.vx_layout.specs.declared.layout.Layout.{Layout}
use Rattle.vx_copies.specs.Disks.{good_mask}
use Rattle.vx_confdb.specs.Groups.{members}
use Rattle.vx_config_parts.specs.declared.object.Object.{Object}
use Rattle.vx_config_parts.specs.declared.object.Object.TheVariants.{VolRecord}
use Rattle.vx_config_parts.specs.declared.plex.Plex.{Plex}
use Rattle.vx_config_parts.specs.declared.state.PlexState.TheVariants as plex_state
use Rattle.vx_config_parts.specs.declared.state.VolState.{VolState}
use Rattle.vx_config_parts.specs.declared.state.VolState.TheVariants as vol_state
use Rattle.vx_config_parts.specs.declared.vol.Vol.{Vol}
use Rattle.vx_objects.specs.declared.config.Config.{Config}
use Rattle.vx_objects.specs.declared.edit.Edit.{Edit}
use Rattle.vx_objects.specs.declared.edit.Edit.TheVariants.{RemoveDco, RemovePlex, SetPlex}
use Rattle.vx_objects.specs.Config.{objects_of}
use Rattle.vx_objects.specs.Edits.{edited, edited_by}
use Rattle.vx_objects.specs.Parts.{in_kinds}
use Rattle.vx_objects.proofs.OneGroup.{first_none}
use Rattle.vx_image.specs.UsedPlexes.{IsVolOf, used_logs}
use Rattle.vx_image.proofs.Members.{is_in}
use Rattle.vx_image.proofs.PlexMembers.{IsIn, one_in}
use Rattle.vx_lending.specs.Form.{AreLayouts, IsLayoutOf}
use Rattle.vx_new_volumes.specs.declared.logs.NewLogs.{NewLogs}
use Rattle.vx_new_volumes.specs.Logs.{logs_fault, region_with}
use Rattle.vx_state_edits.specs.Edits.{is_new}
use Rattle.vx_answers.specs.declared.refusal.Refusal.{Refusal}
use Rattle.vx_answers.specs.declared.refusal.Refusal.TheVariants as refusal
use Rattle.vx_moments.specs.World.{Group}
use Rattle.vx_group_edits.specs.Dcos.{ChangesDco, GetsLogs}
use Rattle.vx_group_edits.specs.Joins.{plexes_in}
use Rattle.vx_group_edits.specs.OfVolume.{AreEditsOf}
use Rattle.vx_group_edits.proofs.ByKind.{vol_is}
use Rattle.vx_group_edits.proofs.DcoEdits.{fits_logs, preparing_own, unpreparing_own}
use Rattle.vx_group_edits.proofs.DcosGiven.{new_log_used, preparing_changes}
use Rattle.vx_group_edits.proofs.DcosTaken.{unpreparing_changes}
use Rattle.vx_group_edits.proofs.EditSteps.{edits_behind, loses_dco, stays_removed, stays_set}
use Rattle.vx_stages.specs.Logged.{log_names}
use Rattle.vx_stages.specs.Logging.{AreLogsLaid, MayLoseLog, found_for_logs, has_other_region, log_plexes_of, log_state, prepare_refusal, unprepare_edits}
use Rattle.vx_stages.specs.Refusals.{refusal_from}
use Rattle.vx_stages.specs.Tests.{volume_in, where_}
use Rattle.vx_house.specs.declared.house.Imported.{Imported}
use Rattle.vx_stage_changes.specs.Planning.{IsPlanned}
use Rattle.vx_stage_changes.specs.declared.planning.NextConfig.{NextConfig}
use Rattle.vx_stage_volumes.specs.Numbers.{AreNumbersOf}
use Rattle.vx_stage_volumes.specs.Opening.{AreSlotNumbers, good_of}
use Rattle.vx_stage_volumes.specs.Parting.{PartsGroup}
use Rattle.vx_stage_volumes.proofs.Absent.{one_vol}
use Rattle.vx_stage_volumes.proofs.Named.{found_name, found_of}
use Rattle.vx_stage_mirrors.specs.LogEnding.{IsPlannedLoss, IsPlannedPrepare, IsVolNext, is_running}
use Rattle.vx_stage_mirrors.specs.Making.{IsFormNext, MakesIn}
use Rattle.vx_stage_mirrors.specs.LogMoments.{IsRelogPlanned}

-- ---- what is told of a plan

-- It is planned for the volume, which has this data plex, by these numbers.
pub record IsRelogFor {P : Type 0} {ghosts : Ghosts P} (see : P → Seen) (g : Imported P ghosts) (name : Word) (edits : List Edit) (next : NextConfig) (layouts : List Layout) (v : Vol) (plex : Plex) (numbers : List ℕ) : Type 0 where
  pub plan : IsRelogPlanned see g name edits next layouts
  pub volume_is : plan.volume ≡ v
  pub plex_is : plan.plex ≡ plex
  pub numbers_are : plan.numbers ≡ numbers

-- the volume has no DCO, and its new logs are used then
pub record IsJoinPlanned {P : Type 0} {ghosts : Ghosts P} (see : P → Seen) (g : Imported P ghosts) (name : Word) (edits : List Edit) (next : NextConfig) (layouts : List Layout) (v : Vol) (plex : Plex) (numbers : List ℕ) : Type 0 where
  pub for_it : IsRelogFor see g name edits next layouts v plex numbers
  pub none : v.dco ≡ None
  pub logs : map (λ (p : Plex). p.name) (used_logs for_it.plan.later.dco next.config (good_of see g) false name) ≡ log_names next.config (good_of see g) name

-- the volume has no DCO then, so that none are used
pub record IsPartPlanned {P : Type 0} {ghosts : Ghosts P} (see : P → Seen) (g : Imported P ghosts) (name : Word) (edits : List Edit) (next : NextConfig) (v : Vol) (plex : Plex) (numbers : List ℕ) : Type 0 where
  pub for_it : IsRelogFor see g name edits next [] v plex numbers
  pub none : for_it.plan.later.dco ≡ None
  pub logs : used_logs for_it.plan.later.dco next.config (good_of see g) false name ≡ []

-- ---- the tests

where_none : (holds : Bool) (r : Refusal) → where_ holds r ≡ None → holds ≡ false
where_none true r e = cc
where_none false r e = refl

not_other : (b : Bool) → not b ≡ false → b ≡ true
not_other true e = refl
not_other false e = absurd (false≢true (sym e))

active_logs : (s : VolState) → is_new s ≡ false → log_state s ≡ plex_state.Active
active_logs vol_state.Empty e = absurd (false≢true (sym e))
active_logs s e = refl

-- a volume that runs keeps its regions
same_region : (c : Config) (n : NewLogs) (v : Vol) → volume_in n.vol c.volumes ≡ Some v → prepare_refusal true c n ≡ None → region_with v n.region ≡ v.region
same_region c n v found fits =
    let tested = subst (λ o. found_for_logs true c n o ≡ None) found fits in
    let none = first_none (where_ (has_other_region v n.region) (refusal.VolState v.state)) (refusal_from (logs_fault (objects_of c) v n.count n.region)) tested in
    eqb-true (region_with v n.region) v.region (not_other (region_with v n.region == v.region) (where_none (has_other_region v n.region) (refusal.VolState v.state) none))

-- lists that go together are both empty, or none is
some_zipped : {A B : Type 0} (R : A → B → Type 0) (xs : List A) (ys : List B) → AllZip R xs ys → (x : A) → IsIn xs x → nat_lt 0 (length ys) ≡ true
some_zipped R [] ys zip x there = absurd there
some_zipped R (y ∷ xs) [] zip x there = absurd zip
some_zipped R (y ∷ xs) (z ∷ ys) zip x there = lt-ltb 0 (length (z ∷ ys)) (omega arith)

-- ---- logs that come

module _ {P : Type 0} {ghosts : Ghosts P} (see : P → Seen) (g : Imported P ghosts) (n : NewLogs) (v : Vol) (next : NextConfig) (found : volume_in n.vol g.config.volumes ≡ Some v) (fits : prepare_refusal true g.config n ≡ None)
    (plex : Plex) (added : List Object) (edits : List Edit) (laid : AreLogsLaid g.config (good_of see g) v n plex added edits) (planned : IsPlanned edits g.config next) (filled : is_new v.state ≡ false)
    (later : Vol) (of_later : IsVolNext v next later) (layouts : List Layout) (lie : AreLayouts next.config (used_logs later.dco next.config (good_of see g) false later.name) layouts) where
  abbrev good : ℕ
  good = good_of see g

  of : IsVolOf g.config v
  of = found_of g.config n.vol v found

  named : v.name ≡ n.vol
  named = found_name g.config n.vol v found

  no_fault : logs_fault (objects_of g.config) v n.count n.region ≡ None
  no_fault = fits_logs true g.config n v found fits

  -- the volume then, and its data plex
  abbrev v' : Vol
  v' = (preparing_changes g.config good v n plex added edits of no_fault laid next.config planned.0).0

  abbrev p' : Plex
  p' = (preparing_changes g.config good v n plex added edits of no_fault laid next.config planned.0).1

  changes : ChangesDco g.config v next.config v' plex p'
  changes = (preparing_changes g.config good v n plex added edits of no_fault laid next.config planned.0).2

  region_is : v'.region ≡ region_with v n.region
  region_is = (preparing_changes g.config good v n plex added edits of no_fault laid next.config planned.0).3

  gets : GetsLogs g.config good v (log_state v.state) added next.config v'
  gets = (preparing_changes g.config good v n plex added edits of no_fault laid next.config planned.0).4

  -- its new logs are used, by more slots too
  used : (more : ℕ) → ((slot : ℕ) → has good slot ≡ true → has more slot ≡ true) → used_logs v'.dco next.config more false n.vol ≡ plexes_in added
  used more wider =
      ap (λ o. used_logs o next.config more false n.vol) gets.dco_is
      ∙ ap (λ vol. used_logs (Some gets.dco) next.config more false vol) (sym named)
      ∙ new_log_used g.config good v n plex added edits of no_fault laid (active_logs v.state filled) next.config planned.0 gets.dco more wider

  same_later : later ≡ v'
  same_later = one_vol next.config later v' of_later.of changes.recorded (of_later.name ∙ sym (ap (λ (x : Vol). x.name) changes.volume))

  -- so they lie on these layouts
  lie_new : AreLayouts next.config (plexes_in added) layouts
  lie_new =
      subst (λ ps. AreLayouts next.config ps layouts)
      (ap (λ vol. used_logs later.dco next.config good false vol) (of_later.name ∙ named) ∙ ap (λ (x : Vol). used_logs x.dco next.config good false n.vol) same_later ∙ used good (λ slot e. e)) lie

  module _ (numbers : List ℕ) (slots : AreSlotNumbers see g numbers) where
    abbrev plan : IsRelogPlanned see g n.vol edits next layouts
    plan = record {
      record_of = record { own = subst (λ vol. AreEditsOf g.config vol edits) named (preparing_own g.config good v n plex added edits laid); edited = planned.0; printed = planned.1 };
      volume = v;
      of = of;
      named = named;
      later = v';
      plex = plex;
      plex_then = p';
      changes = changes;
      region = region_is ∙ same_region g.config n v found fits;
      logged = some_zipped (IsLayoutOf next.config) (plexes_in added) layouts lie_new gets.some.0 (is_in (plexes_in added) gets.some.0 gets.some.1) ∙ sym (ap (λ o. is_some o) gets.dco_is);
      logs = λ more wider. subst (λ ps. AreLayouts next.config ps layouts) (sym (used more wider)) lie_new;
      numbers = numbers;
      slots = (2 ^ 32, slots);
    }

    joins : IsJoinPlanned see g n.vol edits next layouts v plex numbers
    joins = record {
      for_it = record { plan = plan; volume_is = refl; plex_is = refl; numbers_are = refl };
      none = gets.none;
      logs = ap (λ o. map (λ (p : Plex). p.name) (used_logs o next.config good false n.vol)) gets.dco_is;
    }

-- It is planned for a group, and so for another one of the same configuration and good slots, where it was planned for a volume that runs. The
-- form is one on a group of the same good slots.
pub join_planned : {P : Type 0} {ghosts : Ghosts P} (see : P → Seen) (g g' made : Imported P ghosts) (n : NewLogs) (v : Vol) (next : NextConfig) (plan : IsPlannedPrepare see n v next g) → is_new v.state ≡ false → is_running g n.vol ≡ true →
    g'.config ≡ g.config → good_of see g' ≡ good_of see g → good_of see made ≡ good_of see g → (later : Vol) → IsVolNext v next later → (layouts : List Layout) → (by : IsFormNext see made next.config later) → by.form.logs.items ≡ layouts →
    (numbers : List ℕ) → AreSlotNumbers see g' numbers → IsJoinPlanned see g' n.vol plan.planned.edits next layouts v plan.planned.plex numbers
join_planned see g g' made n v next plan filled runs config good good_made later of layouts by logs numbers slots =
    let p = plan.planned in
    joins see g' n v next
    (subst (λ (c : Config). volume_in n.vol c.volumes ≡ Some v) (sym config) plan.found)
    (subst (λ c. prepare_refusal true c n ≡ None) (sym config) (subst (λ b. prepare_refusal b g.config n ≡ None) runs plan.fits))
    p.plex p.added p.edits
    (subst (λ c. AreLogsLaid c (good_of see g') v n p.plex p.added p.edits) (sym config) (subst (λ k. AreLogsLaid g.config k v n p.plex p.added p.edits) (sym good) p.laid))
    (subst (λ c. IsPlanned p.edits c next) (sym config) p.next)
    filled later of layouts
    (subst (λ k. AreLayouts next.config (used_logs later.dco next.config k false later.name) layouts) (good_made ∙ sym good) (subst (λ ls. AreLayouts next.config (used_logs later.dco next.config (good_of see made) false later.name) ls) logs by.form_is.logs))
    numbers slots

some_one : (a b : Group) → Some a ≡ Some b → a ≡ b
some_one a b e = cc

-- So it is on the group behind the making of the log.
pub made_planned : {P : Type 0} {ghosts : Ghosts P} (see : P → Seen) (g ready mid : Imported P ghosts) (n : NewLogs) (v : Vol) (next : NextConfig) (plan : IsPlannedPrepare see n v next g) → is_new v.state ≡ false → is_running g n.vol ≡ true → PartsGroup see g ready →
    (later : Vol) → IsVolNext v next later → (layouts : List Layout) → (makes : MakesIn see next.config later layouts ready mid) → IsJoinPlanned see mid n.vol plan.planned.edits next layouts v plan.planned.plex makes.by.numbers
made_planned {P = P} {ghosts = ghosts} see g ready mid n v next plan filled runs parts later of layouts makes =
    let base : mid.base ≡ ready.base = ap (λ (x : Imported P ghosts). x.base) makes.same.group in
    let config : mid.config ≡ ready.config = ap (λ (x : Imported P ghosts). x.config) makes.same.group in
    let good : good_of see ready ≡ good_of see g = ap (λ (w : Group). w.good) (some_one _ _ parts.group) in
    join_planned see g mid ready n v next plan filled runs (config ∙ parts.config) (ap (λ b. good_mask (members see b)) base ∙ good) good later of layouts makes.by makes.logs_are makes.by.numbers
    (subst (λ b. AreNumbersOf see b.disks.items 32 (2 ^ 32) makes.by.numbers) (sym base) makes.by.are)

-- ---- logs that go

-- the volume stays while plexes are removed
stays_all : (v : Vol) (ls : List Plex) (all : List Object) → IsIn all (VolRecord v) → IsIn (edited_by (map (λ (p : Plex). RemovePlex p.name) ls) all) (VolRecord v)
stays_all v [] all there = there
stays_all v (l ∷ ls) all there = stays_all v ls (edited (RemovePlex l.name) all) (stays_removed v all there l.name)

module _ {P : Type 0} {ghosts : Ghosts P} (see : P → Seen) (g : Imported P ghosts) (name : Word) (v : Vol) (next : NextConfig) (loss : IsPlannedLoss see name v next g) where
  abbrev pub edits_lost : List Edit
  edits_lost = unprepare_edits g.config v loss.dco loss.planned.plex

  -- the volume may lose its log by these edits
  pub may_lose : MayLoseLog g.config name v loss.planned.plex edits_lost
  may_lose = record { found = loss.found; fits = loss.fits; plex_is = loss.planned.plex_is; dco = loss.dco; dco_is = loss.dco_is; edits_are = refl }

  of_v : IsVolOf g.config v
  of_v = found_of g.config name v loss.found

  named_v : v.name ≡ name
  named_v = found_name g.config name v loss.found

  abbrev u : Vol
  u = (unpreparing_changes g.config name v loss.planned.plex edits_lost may_lose next.config loss.planned.next.0).0

  changed : ChangesDco g.config v next.config u loss.planned.plex (unpreparing_changes g.config name v loss.planned.plex edits_lost may_lose next.config loss.planned.next.0).1
  changed = (unpreparing_changes g.config name v loss.planned.plex edits_lost may_lose next.config loss.planned.next.0).2

  no_dco : u.dco ≡ None
  no_dco = (unpreparing_changes g.config name v loss.planned.plex edits_lost may_lose next.config loss.planned.next.0).3

  -- ---- it keeps its regions

  abbrev all : List Object
  all = objects_of g.config

  abbrev without : List Object
  without = edited_by (map (λ (p : Plex). RemovePlex p.name) (log_plexes_of g.config v.name)) all

  abbrev bare : Vol
  bare = record v { dco = None }

  abbrev last : Edit
  last = SetPlex loss.planned.plex.name (Some v.name) loss.planned.plex.state None

  edited_so : objects_of next.config ≡ in_kinds (edited last (edited (RemoveDco loss.dco) without))
  edited_so = loss.planned.next.0 ∙ ap (λ os. in_kinds os) (edits_behind (map (λ (p : Plex). RemovePlex p.name) (log_plexes_of g.config v.name)) (RemoveDco loss.dco ∷ last ∷ []) all)

  recorded_bare : IsVolOf next.config bare
  recorded_bare =
      let there = stays_all v (log_plexes_of g.config v.name) all (one_in all (VolRecord v) of_v) in
      let gone = loses_dco v bare without there loss.dco loss.dco_is refl in
      vol_is next.config (edited last (edited (RemoveDco loss.dco) without)) edited_so bare (stays_set bare (edited (RemoveDco loss.dco) without) gone loss.planned.plex.name (Some v.name) loss.planned.plex.state None)

  same_regions : u.region ≡ v.region
  same_regions = ap (λ (x : Vol). x.region) (one_vol next.config u bare changed.recorded recorded_bare (ap (λ (x : Vol). x.name) changed.volume))

  module _ (numbers : List ℕ) (slots : (top : ℕ) × AreNumbersOf see g.base.disks.items 32 top numbers) where
    abbrev plan_v : IsRelogPlanned see g name edits_lost next []
    plan_v = record {
      record_of = record { own = subst (λ vol. AreEditsOf g.config vol edits_lost) named_v (unpreparing_own g.config name v loss.planned.plex edits_lost may_lose); edited = loss.planned.next.0; printed = loss.planned.next.1 };
      volume = v;
      of = of_v;
      named = named_v;
      later = u;
      plex = loss.planned.plex;
      plex_then = (unpreparing_changes g.config name v loss.planned.plex edits_lost may_lose next.config loss.planned.next.0).1;
      changes = changed;
      region = same_regions;
      logged = sym (ap (λ o. is_some o) no_dco);
      logs = λ more wider. subst (λ o. AreLayouts next.config (used_logs o next.config more false name) []) (sym no_dco) tt;
      numbers = numbers;
      slots = slots;
    }

    -- It is planned for the group, by whatever numbers of its slots.
    pub part_planned : IsPartPlanned see g name edits_lost next v loss.planned.plex numbers
    part_planned = record {
      for_it = record { plan = plan_v; volume_is = refl; plex_is = refl; numbers_are = refl };
      none = no_dco;
      logs = ap (λ o. used_logs o next.config (good_of see g) false name) no_dco;
    }
