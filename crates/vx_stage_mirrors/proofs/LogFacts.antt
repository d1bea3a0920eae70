-- What is known of logs that are planned for a volume of a group, and of those that are to go.
use Rattle.std.proofs.Common.{◌≡◌, ◌∙◌, ◌⊎◌, Bool, true, false, List, [], ◌∷◌, ◌++◌, map, Option, Some, None, refl, sym, ap, subst, inl, inr}
use Rattle.std.specs.Prelude.{Contains, IfSome, is_some}
use Rattle.std.specs.BTreeMap.{get}
use Rattle.std.specs.Cmp.Lexicographic.{slice_cmp}
use Rattle.std.specs.Ordering.{nat_cmp}
use Rattle.std.proofs.lemmas.Bool.{false≢true}
use Rattle.vx_base.specs.Named.{Word}
use Rattle.vx_pages.specs.declared.local_piece.LocalPiece.{Ghosts}
use Rattle.vx_piece.specs.Seen.{Seen}
use Rattle.vx_block.specs.declared.geometry.Geometry.{Geometry}
use Rattle.vx_layout.specs.declared.layout.Layout.{Layout}
use Rattle.vx_config_parts.specs.declared.plex.Plex.{Plex}
use Rattle.vx_config_parts.specs.declared.state.PlexState.TheVariants as plex_state
use Rattle.vx_config_parts.specs.declared.state.VolState.{VolState}
use Rattle.vx_config_parts.specs.declared.state.VolState.TheVariants as vol_state
use Rattle.vx_config_parts.specs.declared.vol.Vol.{Vol}
use Rattle.vx_objects.specs.declared.config.Config.{Config}
use Rattle.vx_objects.specs.declared.edit.Edit.{Edit}
use Rattle.vx_objects.specs.Config.{objects_of}
use Rattle.vx_image.specs.Image.{WasStarted}
use Rattle.vx_image.specs.UsedPlexes.{IsVolOf, used_logs}
use Rattle.vx_state_edits.specs.Edits.{is_new}
use Rattle.vx_confdb.specs.Groups.{members}
use Rattle.vx_copies.specs.Disks.{good_mask}
use Rattle.vx_moments.specs.Moment.{Moment}
use Rattle.vx_moments.specs.World.{Group, World}
use Rattle.vx_lending.specs.declared.public.Public.{Public}
use Rattle.vx_lending.specs.declared.public.Running.{Running}
use Rattle.vx_lending.specs.Public.{running_at}
use Rattle.vx_maps.specs.Going.{CutCopiesGo}
use Rattle.vx_pages.specs.Sector.{KeepsPiece}
use Rattle.vx_moments.specs.Group.{image_on}
use Rattle.vx_stages.specs.Logged.{HasEmptyLog, by_config, log_names}
use Rattle.vx_stages.specs.Recorded.{IsSoundAs}
use Rattle.vx_volume.specs.declared.log.VolumeLog.TheVariants as logs
use Rattle.vx_group_edits.specs.Dcos.{ChangesDco, GetsLogs}
use Rattle.vx_group_edits.specs.Joins.{plexes_in}
use Rattle.vx_group_edits.proofs.DcoEdits.{fits_logs}
use Rattle.vx_group_edits.proofs.DcosGiven.{new_log_used, preparing_changes}
use Rattle.vx_new_volumes.specs.declared.logs.NewLogs.{NewLogs}
use Rattle.vx_new_volumes.specs.Logs.{logs_fault}
use Rattle.vx_stages.specs.Logging.{log_state, unprepare_edits}
use Rattle.vx_house.specs.Runs.{IsInPlace}
use Rattle.vx_house.specs.Scene.{Shelved}
use Rattle.vx_house.specs.View.{IsGroupKept, Keeps, at}
use Rattle.vx_house.specs.declared.house.House.{House}
use Rattle.vx_house.specs.declared.house.Imported.{Imported}
use Rattle.vx_house_calls.specs.Passes.{with_group}
use Rattle.vx_stage_changes.specs.declared.planning.NextConfig.{NextConfig}
use Rattle.vx_stage_volumes.specs.Opening.{good_of}
use Rattle.vx_stage_volumes.specs.Parting.{PartsGroup}
use Rattle.vx_stage_volumes.proofs.Absent.{one_vol}
use Rattle.vx_stage_volumes.proofs.Entries.{entry_found}
use Rattle.vx_stage_volumes.proofs.Named.{found_name, found_of}
use Rattle.vx_stage_mirrors.specs.Ending.{seen_group}
use Rattle.vx_stage_mirrors.specs.LogEnding.{IsPlannedLoss, IsPlannedPrepare, IsPoweredIn, IsVolNext, is_running}
use Rattle.vx_stage_mirrors.specs.Making.{MakesIn}
use Rattle.vx_stage_mirrors.specs.LogMoments.{EachRelogGoes, IsNextOf, IsRelogAt, LiesThen, RecordGoes}
use Rattle.vx_stage_mirrors.specs.Relogging.{IsLogJoined, IsNewLog, IsNewStore, IsPowered, IsRecordedIn, RelogsIn}
use Rattle.vx_stage_mirrors.proofs.Geometries.{same_geometries}
use Rattle.vx_stage_mirrors.proofs.LogGoing.{some_one}
use Rattle.vx_stage_mirrors.proofs.PrepareGoes.{JoinsAt, PlanFacts}
use Rattle.vx_stage_mirrors.proofs.RelogPlans.{IsJoinPlanned, IsPartPlanned, made_planned, may_lose, part_planned}
use Rattle.vx_stage_mirrors.proofs.SlotNumbers.{HasNumbers}
use Rattle.vx_stage_mirrors.proofs.SoundLogs.{prepared_sound, unprepared_sound}
use Rattle.vx_stage_mirrors.proofs.UnprepareGoes.{LossFacts}

started_is_old : (s : VolState) → WasStarted s → is_new s ≡ true → ⊥
started_is_old vol_state.Empty was new = was
started_is_old vol_state.Clean was new = was
started_is_old vol_state.Active was new = false≢true new
started_is_old vol_state.NeedSync was new = false≢true new
started_is_old vol_state.Sync was new = false≢true new

active_logs : (s : VolState) → is_new s ≡ false → log_state s ≡ plex_state.Active
active_logs vol_state.Empty e = absurd (false≢true (sym e))
active_logs s e = refl

some_of : {X : Type 0} (o : Option X) → is_some o ≡ true → (x : X) × (o ≡ Some x)
some_of None e = absurd (false≢true e)
some_of (Some x) e = (x, refl)

-- a kind of moment that another one is
record_weaker : {P : Type 0} {ghosts : Ghosts P} (see : P → Seen) (shelf : Shelved) (h : House P ghosts) (new : Imported P ghosts) (A B : Moment → Type 0) → ((m : Moment) → A m → B m) → RecordGoes see shelf h new A → RecordGoes see shelf h new B
record_weaker see shelf h new A B then r = record { keeps = r.keeps; faults = r.faults; moments = λ m is. then m (r.moments m is) }

at_weaker : {P : Type 0} {ghosts : Ghosts P} (see : P → Seen) (shelf : Shelved) (h : House P ghosts) (name : Word) (edits : List Edit) (config : Config) (A B : List Word → List Word → Type 0) → ((xs ys : List Word) → A xs ys → B xs ys) → (m : Moment) →
    IsRelogAt see shelf h name edits config A m → IsRelogAt see shelf h name edits config B m
at_weaker see shelf h name edits config A B then m r = record {
  recorded = r.recorded;
  writing = r.writing;
  config_is = r.config_is;
  change = r.change;
  committed = r.committed;
  before = r.before;
  was = r.was;
  plexes = r.plexes;
  lay = r.lay;
  plexes_then = r.plexes_then;
  goes = then r.plexes r.plexes_then r.goes;
  then = r.then;
  is = r.is;
  after = r.after;
  world = r.world;
  counts = r.counts;
}

-- ---- logs that come

module _ {P : Type 0} {ghosts : Ghosts P} (alike : (p q : P) → is_some (ghosts.seen p).told ≡ is_some (ghosts.seen q).told) (relogs : (h : House P ghosts) (old new : Imported P ghosts) → EachRelogGoes ghosts.seen h old new) (g : Imported P ghosts) (kept : IsGroupKept ghosts.seen g)
    (n : NewLogs) (v : Vol) (next : NextConfig) (planned : IsPlannedPrepare ghosts.seen n v next g) where
  abbrev see : P → Seen
  see = ghosts.seen

  of : IsVolOf g.config v
  of = found_of g.config n.vol v planned.found

  named : v.name ≡ n.vol
  named = found_name g.config n.vol v planned.found

  -- one that was never started does not run
  idle : is_new v.state ≡ true → running_at g.public n.vol ≡ None
  idle new = by (running_at g.public n.vol) refl
    where
      by : (o : Option (Running P ghosts)) → running_at g.public n.vol ≡ o → o ≡ None
      by None e = refl
      by (Some r) e =
          let place = entry_found (λ key x. IsInPlace see (members see g.base) g.config (good_mask (members see g.base)) key x) n.vol g.public.running.entries r kept.placed e in
          let same : place.of ≡ v = one_vol g.config place.of v place.placed.runs.recorded of (place.named ∙ sym named) in
          absurd (started_is_old v.state (subst (λ (x : Vol). WasStarted x.state) same place.started) new)

  -- ---- the volume then

  no_fault : logs_fault (objects_of g.config) v n.count n.region ≡ None
  no_fault = fits_logs (is_running g n.vol) g.config n v planned.found planned.fits

  abbrev v' : Vol
  v' = (preparing_changes g.config (good_of see g) v n planned.planned.plex planned.planned.added planned.planned.edits of no_fault planned.planned.laid next.config planned.planned.next.0).0

  abbrev p' : Plex
  p' = (preparing_changes g.config (good_of see g) v n planned.planned.plex planned.planned.added planned.planned.edits of no_fault planned.planned.laid next.config planned.planned.next.0).1

  changes : ChangesDco g.config v next.config v' planned.planned.plex p'
  changes = (preparing_changes g.config (good_of see g) v n planned.planned.plex planned.planned.added planned.planned.edits of no_fault planned.planned.laid next.config planned.planned.next.0).2

  gets : GetsLogs g.config (good_of see g) v (log_state v.state) planned.planned.added next.config v'
  gets = (preparing_changes g.config (good_of see g) v n planned.planned.plex planned.planned.added planned.planned.edits of no_fault planned.planned.laid next.config planned.planned.next.0).4

  same_later : (later : Vol) → IsVolNext v next later → later ≡ v'
  same_later later is = one_vol next.config later v' is.of changes.recorded (is.name ∙ sym (ap (λ (x : Vol). x.name) changes.volume))

  next_is : is_new v.state ≡ false → (later : Vol) → IsVolNext v next later → (g1 : Imported P ghosts) → g1.config ≡ g.config → good_of see g1 ≡ good_of see g → IsNextOf see g1 next.config n.vol later
  next_is filled later is g1 config good =
      let used : used_logs later.dco next.config (good_of see g1) false later.name ≡ plexes_in planned.planned.added =
      ap (λ k. used_logs later.dco next.config k false later.name) good
      ∙ ap (λ (x : Vol). used_logs x.dco next.config (good_of see g) false x.name) (same_later later is)
      ∙ ap (λ x. used_logs v'.dco next.config (good_of see g) false x) (ap (λ (x : Vol). x.name) changes.volume)
      ∙ ap (λ o. used_logs o next.config (good_of see g) false v.name) gets.dco_is
      ∙ new_log_used g.config (good_of see g) v n planned.planned.plex planned.planned.added planned.planned.edits of no_fault planned.planned.laid (active_logs v.state filled) next.config planned.planned.next.0 gets.dco (good_of see g) (λ slot e. e) in
      record {
        there = is.of;
        named = is.name ∙ named;
        disks = changes.disks ∙ ap (λ (c : Config). c.disks) (sym config);
        some = (gets.some.0, subst (λ ps. Contains ps gets.some.0) (sym used) gets.some.1);
      }

  -- ---- where it runs

  module _ (filled : is_new v.state ≡ false) (runs : is_running g n.vol ≡ true) (power : IsPoweredIn see n.vol g) (shelf : Shelved) (h : House P ghosts) (mid : Imported P ghosts) (has : h.group ≡ Some mid) (keeps : Keeps see (at shelf h))
      (ready : Imported P ghosts) (parts : PartsGroup see g ready) (later : Vol) (is : IsVolNext v next later) (layouts : List Layout) (makes : MakesIn see next.config later layouts ready mid)
      (recorded new : Imported P ghosts) (commits : IsRecordedIn see next mid recorded) (joined : IsLogJoined see v.name layouts recorded new) where
    abbrev plan : IsJoinPlanned see mid n.vol planned.planned.edits next layouts v planned.planned.plex makes.by.numbers
    plan = made_planned see g ready mid n v next planned filled runs parts later is layouts makes

    abbrev before : Running P ghosts
    before = (some_of (running_at g.public n.vol) runs).0

    there : running_at g.public n.vol ≡ Some before
    there = (some_of (running_at g.public n.vol) runs).1

    there_mid : running_at mid.public n.vol ≡ Some before
    there_mid = ap (λ r. get (slice_cmp nat_cmp) r n.vol) (makes.same.running ∙ parts.running) ∙ there

    powered : IsPowered see before
    powered = subst (λ o. IfSome o (IsPowered see)) there power

    -- ---- its blocks and regions

    place : IsInPlace see (members see g.base) g.config (good_mask (members see g.base)) n.vol before
    place = entry_found (λ key x. IsInPlace see (members see g.base) g.config (good_mask (members see g.base)) key x) n.vol g.public.running.entries before kept.placed there

    same_vol : place.of ≡ v
    same_vol = one_vol g.config place.of v place.placed.runs.recorded of (place.named ∙ sym named)

    length_was : before.form.shape.geometry.length ≡ v.len
    length_was = place.placed.runs.form.shape_is.length_is ∙ sym place.placed.runs.keeps.length_is ∙ ap (λ (x : Vol). x.len) same_vol

    region_was : before.form.shape.geometry.region ≡ v.region
    region_was = place.placed.runs.form.shape_is.region_is ∙ sym place.placed.runs.keeps.region_is ∙ ap (λ (x : Vol). x.region) same_vol

    region_same : later.region ≡ v.region
    region_same =
        ap (λ (x : Vol). x.region) (one_vol next.config later plan.for_it.plan.later is.of plan.for_it.plan.changes.recorded (is.name ∙ sym (ap (λ (x : Vol). x.name) plan.for_it.plan.changes.volume ∙ ap (λ (x : Vol). x.name) plan.for_it.volume_is)))
        ∙ plan.for_it.plan.region ∙ ap (λ (x : Vol). x.region) plan.for_it.volume_is

    length_same : later.len ≡ v.len
    length_same = ap (λ (x : Vol). x.len) (same_later later is) ∙ ap (λ (x : Vol). x.len) changes.volume

    same_geometry : makes.by.form.shape.geometry ≡ before.form.shape.geometry
    same_geometry =
        let length_is : makes.by.form.shape.geometry.length ≡ before.form.shape.geometry.length = makes.by.form_is.shape_is.length_is ∙ length_same ∙ sym length_was in
        let region_is : makes.by.form.shape.geometry.region ≡ before.form.shape.geometry.region = makes.by.form_is.shape_is.region_is ∙ region_same ∙ sym region_was in
        same_geometries makes.by.form.shape.geometry before.form.shape.geometry length_is region_is

    -- ---- the log that was made is the one that it goes on with

    same_public : recorded.public ≡ mid.public
    same_public = commits.public

    same_store : joined.store ≡ makes.made.store
    same_store = (joined.taken ready.public.left.items makes.made.last makes.made.store (ap (λ (p : Public P ghosts). p.left.items) same_public ∙ makes.made.left) makes.made.log_is).0

    new_store : IsNewStore see makes.by.numbers before.form.shape.geometry layouts makes.made.store
    new_store =
        subst (λ (x : Geometry). IsNewStore see makes.by.numbers x layouts makes.made.store) same_geometry
        (subst (λ ls. IsNewStore see makes.by.numbers makes.by.form.shape.geometry ls makes.made.store) makes.logs_are
        (record { copies = makes.made.copies; taken = makes.made.are; cut = subst (λ x. CutCopiesGo KeepsPiece makes.made.copies x) makes.made.later makes.made.go.cut; fresh = makes.made.fresh }))

    new_log : IsNewLog see plan.for_it.plan.numbers before.form.shape.geometry layouts (logs.Maps joined.store)
    new_log =
        subst (λ ns. IsNewStore see ns before.form.shape.geometry layouts joined.store) (sym plan.for_it.numbers_are)
        (subst (λ x. IsNewStore see makes.by.numbers before.form.shape.geometry layouts x) (sym same_store) new_store)

    goes_on : (xs ys : List Word) → LiesThen plan.for_it.plan.volume.dco plan.for_it.plan.plex (used_logs plan.for_it.plan.later.dco next.config (good_of see mid) false n.vol) xs ys → ys ≡ xs ++ log_names next.config (good_of see g) n.vol
    goes_on xs ys lies =
        let alone : xs ≡ plan.for_it.plan.plex.name ∷ [] = lies.alone (ap (λ (x : Vol). x.dco) plan.for_it.volume_is ∙ plan.none) in
        let named_logs : map (λ (p : Plex). p.name) (used_logs plan.for_it.plan.later.dco next.config (good_of see mid) false n.vol) ≡ log_names next.config (good_of see g) n.vol = plan.logs ∙ ap (λ k. log_names next.config k n.vol) good_mid in
        lies.later_is ∙ ap (λ ns. plan.for_it.plan.plex.name ∷ ns) named_logs ∙ ap (λ ps. ps ++ log_names next.config (good_of see g) n.vol) (sym alone)
      where
        good_mid : good_of see mid ≡ good_of see g
        good_mid = ap (λ (x : Imported P ghosts). good_of see x) makes.same.group ∙ ap (λ (w : Group). w.good) (some_one _ _ parts.group)

    joins_goes : RecordGoes see shelf h new (JoinsAt see shelf (with_group h new) n.vol planned.planned.edits next.config (log_names next.config (good_of see g) n.vol))
    joins_goes =
        record_weaker see shelf h new _ _ (λ m r. at_weaker see shelf (with_group h new) n.vol planned.planned.edits next.config _ _ goes_on m r)
        (relogs h mid new shelf n.vol planned.planned.edits next layouts (logs.Maps joined.store) alike has keeps plan.for_it.plan before there_mid powered new_log recorded commits
        (subst (λ x. RelogsIn see x (logs.Maps joined.store) layouts recorded new) named joined.relogs))

  sound_then : (w : World) → (is_new v.state ≡ false → (later : Vol) → Contains next.config.volumes later → later.name ≡ n.vol → HasEmptyLog (image_on w.devices (by_config next.config (seen_group see g)) later)) → IsSoundAs (seen_group see g) next.config n.vol w
  sound_then w written =
      subst (λ x. IsSoundAs (seen_group see g) next.config x w) named
      (prepared_sound (seen_group see g) v of n no_fault planned.planned.plex planned.planned.added planned.planned.edits planned.planned.laid next.config planned.planned.next.0 w (by (is_new v.state) refl))
    where
      by : (b : Bool) → is_new v.state ≡ b → (is_new v.state ≡ true) ⊎ ((u : Vol) → Contains next.config.volumes u → u.name ≡ v.name → HasEmptyLog (image_on w.devices (by_config next.config (seen_group see g)) u))
      by true e = inl e
      by false e = inr (λ u there same. written e u there (same ∙ named))

  pub plan_facts : PlanFacts see g n v next planned
  plan_facts = record { idle = idle; next_is = next_is; sound = sound_then; joins = joins_goes }

-- ---- logs that go

module _ {P : Type 0} {ghosts : Ghosts P} (alike : (p q : P) → is_some (ghosts.seen p).told ≡ is_some (ghosts.seen q).told) (relogs : (h : House P ghosts) (old new : Imported P ghosts) → EachRelogGoes ghosts.seen h old new) (g : Imported P ghosts) (kept : IsGroupKept ghosts.seen g)
    (slots : HasNumbers ghosts.seen g.base.disks.items 32) (name : Word) (v : Vol) (next : NextConfig) (planned : IsPlannedLoss ghosts.seen name v next g) where
  abbrev look : P → Seen
  look = ghosts.seen

  abbrev part_plan : IsPartPlanned look g name (unprepare_edits g.config v planned.dco planned.planned.plex) next v planned.planned.plex slots.numbers
  part_plan = part_planned look g name v next planned slots.numbers (slots.top, slots.are)

  lies_alone : (xs ys : List Word) → LiesThen part_plan.for_it.plan.volume.dco part_plan.for_it.plan.plex (used_logs part_plan.for_it.plan.later.dco next.config (good_of look g) false name) xs ys → ys ≡ planned.planned.plex.name ∷ []
  lies_alone xs ys lies =
      lies.later_is ∙ ap (λ ls. part_plan.for_it.plan.plex.name ∷ map (λ (p : Plex). p.name) ls) part_plan.logs ∙ ap (λ (x : Plex). x.name ∷ []) part_plan.for_it.plex_is

  parts_goes : is_running g name ≡ true → IsPoweredIn look name g → (shelf : Shelved) (h : House P ghosts) → h.group ≡ Some g → Keeps look (at shelf h) →
      (recorded new : Imported P ghosts) → IsRecordedIn look next g recorded → RelogsIn look name logs.Absent [] recorded new →
      RecordGoes look shelf h new (IsRelogAt look shelf (with_group h new) name (unprepare_edits g.config v planned.dco planned.planned.plex) next.config (λ plexes later. later ≡ planned.planned.plex.name ∷ []))
  parts_goes runs power shelf h has keeps recorded new commits parted =
      let one = some_of (running_at g.public name) runs in
      record_weaker look shelf h new _ _ (λ m r. at_weaker look shelf (with_group h new) name (unprepare_edits g.config v planned.dco planned.planned.plex) next.config _ _ lies_alone m r)
      (relogs h g new shelf name (unprepare_edits g.config v planned.dco planned.planned.plex) next [] logs.Absent alike has keeps part_plan.for_it.plan one.0 one.1 (subst (λ o. IfSome o (IsPowered look)) one.1 power) refl recorded commits parted)

  pub loss_facts : LossFacts look g name v next planned
  loss_facts = record {
    edits = unprepare_edits g.config v planned.dco planned.planned.plex;
    edits_are = refl;
    loses = may_lose look g name v next planned;
    sound = λ w. unprepared_sound (seen_group look g) name v planned.planned.plex (unprepare_edits g.config v planned.dco planned.planned.plex) (may_lose look g name v next planned) next.config planned.planned.next.0 w;
    parts = parts_goes;
  }
