-- What is planned for a group that is kept, and what the steps behind it ask for and say by that.
use Rattle.std.proofs.Common.{◌≡◌, ◌∙◌, ℕ, Bool, true, false, Option, Some, None, Ok, Err, Result, List, [], ◌∷◌, ◌++◌, map, refl, sym, ap, subst, inl, inr}
use Rattle.std.specs.Prelude.{is_some, IsSomeAnd, MatchBool}
use Rattle.std.specs.BTreeMap.{get}
use Rattle.std.specs.Global.{Vec}
use Rattle.std.specs.List.{flat_map}
use Rattle.std.specs.Cmp.Lexicographic.{slice_cmp}
use Rattle.std.specs.Ordering.{nat_cmp}
use Rattle.std.proofs.lemmas.Bool.{false≢true}
use Rattle.std.proofs.lemmas.List.{same_from_push}
use Rattle.std.proofs.lemmas.Option.{same_Some}
use Rattle.vx_base.specs.Named.{Word}
use Rattle.vx_piece.specs.Seen.{Seen}
use Rattle.vx_pages.specs.declared.local_piece.LocalPiece.{Ghosts}
use Rattle.vx_copies.specs.Disks.{good_mask}
use Rattle.vx_confdb.specs.Groups.{IsAlive, members}
use Rattle.vx_layout.specs.declared.layout.Layout.{Layout}
use Rattle.vx_config_parts.specs.declared.plex.Plex.{Plex}
use Rattle.vx_config_parts.specs.declared.state.PlexState.TheVariants as plex_state
use Rattle.vx_config_parts.specs.declared.state.VolState.{VolState}
use Rattle.vx_config_parts.specs.declared.state.VolState.TheVariants as vol_state
use Rattle.vx_config_parts.specs.declared.vol.Vol.{Vol}
use Rattle.vx_config_parts.specs.contracts.state.VolState.{the_type}
use denote.Enum.Bare.{sameb}
use Rattle.vx_objects.specs.Config.{objects_of}
use Rattle.vx_new_volumes.specs.declared.logs.NewLogs.{NewLogs}
use Rattle.vx_new_volumes.specs.Logs.{logs_fault, region_with}
use Rattle.vx_image.specs.Bytes.{map_or_zero, relation_maps}
use Rattle.vx_image.specs.UsedPlexes.{IsVolOf}
use Rattle.vx_volume.specs.declared.log.VolumeLog.{VolumeLog}
use Rattle.vx_volume.specs.declared.log.VolumeLog.TheVariants as logs
use Rattle.vx_volume.specs.Log.{log_seen}
use Rattle.vx_volume.specs.Logging.{IsNewLogFor}
use Rattle.vx_volume.specs.Volume.{log_of, volume_seen}
use Rattle.vx_lending.specs.declared.left.LogLeft.TheVariants.{Store}
use Rattle.vx_lending.specs.declared.public.Public.{Public}
use Rattle.vx_lending.specs.declared.public.Remains.{Remains}
use Rattle.vx_lending.specs.declared.public.Running.{Running}
use Rattle.vx_lending.specs.Logs.{log_pieces}
use Rattle.vx_lending.specs.Public.{remaining_pieces, running_at, still_pieces}
use Rattle.vx_carve.specs.Together.{SameSectors}
use Rattle.vx_group_start.specs.Making.{EndsInLog}
use Rattle.vx_volume_laws.specs.Keeping.{data_plexes}
use Rattle.vx_group_volumes.specs.Places.{RunsInPlace}
use Rattle.vx_moments.specs.World.{Group}
use Rattle.vx_state_edits.specs.Edits.{is_new}
use Rattle.vx_stages.specs.Logging.{AreLogsUnplanned, IsPrepareRefused, log_state, prepare_refusal, unprepare_edits, unprepare_refusal}
use Rattle.vx_stages.specs.Tests.{volume_in}
use Rattle.vx_group_edits.specs.Dcos.{ChangesDco, GetsLogs}
use Rattle.vx_group_edits.proofs.DcoEdits.{fits_logs}
use Rattle.vx_group_edits.proofs.DcosGiven.{preparing_changes}
use Rattle.vx_group_edits.proofs.DcosTaken.{unpreparing_changes}
use Rattle.vx_joined_volumes.proofs.Alone.{alone_in, lone_maps}
use Rattle.vx_house.specs.Runs.{IsInPlace}
use Rattle.vx_house.specs.View.{IsGroupKept}
use Rattle.vx_house.specs.declared.house.Imported.{Imported}
use Rattle.vx_house.specs.declared.stop.Stop.{Stop}
use Rattle.vx_house.specs.declared.stop.Stop.TheVariants as stops
use Rattle.vx_stage_changes.specs.declared.planning.NextConfig.{NextConfig}
use Rattle.vx_stage_volumes.specs.Opening.{good_of}
use Rattle.vx_stage_volumes.specs.Parting.{PartsGroup}
use Rattle.vx_stage_volumes.proofs.Entries.{entry_found}
use Rattle.vx_stage_volumes.proofs.Named.{found_name, found_of, found_one}
use Rattle.vx_stage_mirrors.specs.Ending.{seen_group}
use Rattle.vx_stage_mirrors.specs.LogEnding.{FilledEnds, IsPlannedLoss, IsPlannedPrepare, IsPoweredIn, IsVolNext, LosesLog, MakesAndRecords, PrepareEnds, ReadyEnds, UnprepareEnds, is_running}
use Rattle.vx_stage_mirrors.specs.Making.{IsUnmadeIn, MakesIn}
use Rattle.vx_stage_mirrors.specs.Next.{HasLogsNext}
use Rattle.vx_stage_mirrors.specs.Planned.{EndsAs}
use Rattle.vx_stage_mirrors.specs.PlannedLogs.{AreLogsPlanned, IsLossPlanned}
use Rattle.vx_stage_mirrors.specs.Relogging.{IsLogJoined, IsRecordedIn, IsUnlogged, MayRelog, MayRelogLeft, RecordEnds, RelogsIn}
use Rattle.vx_stage_mirrors.proofs.FreshLogs.{absent_may, fresh_may}
use Rattle.vx_stage_mirrors.proofs.Tested.{prepared_had_none, runs_with_its_regions}
use Rattle.vx_stage_mirrors.proofs.Unlogged.{has_no_log}

-- ---- a running volume of the group

some_at : {X : Type 0} (o : Option X) → is_some o ≡ true → (x : X) × (o ≡ Some x)
some_at None e = absurd (false≢true e)
some_at (Some x) e = (x, refl)

with_some : {X : Type 0} (o : Option X) (Q : X → Type 0) → IsSomeAnd o Q → (x : X) × (o ≡ Some x) × Q x
with_some None Q h = absurd h
with_some (Some x) Q h = (x, refl, h)

-- the running volume of the name is this one, which the configuration records, and runs in its place
record IsRunning {P : Type 0} {ghosts : Ghosts P} (see : P → Seen) (g : Imported P ghosts) (name : Word) (v : Vol) : Type 0 where
  run : Running P ghosts
  there : running_at g.public name ≡ Some run
  numbers : List ℕ
  placed : RunsInPlace see g.config (good_of see g) numbers v run

module _ {P : Type 0} {ghosts : Ghosts P} (see : P → Seen) (g : Imported P ghosts) (kept : IsGroupKept see g) (name : Word) (v : Vol) (found : volume_in name g.config.volumes ≡ Some v) (runs : is_some (running_at g.public name) ≡ true) where
  it_runs : IsRunning see g name v
  it_runs =
      let at = some_at (running_at g.public name) runs in
      let place : IsInPlace see (members see g.base) g.config (good_of see g) name at.0 =
      entry_found (λ n x. IsInPlace see (members see g.base) g.config (good_mask (members see g.base)) n x) name g.public.running.entries at.0 kept.placed at.1 in
      let same : place.of ≡ v = found_one g.config name v found place.of place.placed.runs.recorded place.named in
      record { run = at.0; there = at.1; numbers = place.numbers; placed = subst (λ x. RunsInPlace see g.config (good_of see g) place.numbers x at.0) same place.placed }

-- it has one data plex alone, and no relation, so that a log that is new for it can be its log
module _ {P : Type 0} {ghosts : Ghosts P} (see : P → Seen) (g : Imported P ghosts) (name : Word) (v : Vol) (it : IsRunning see g name v) (plex : Plex) (one : data_plexes g.config v.name ≡ plex ∷ []) (none : relation_maps g.config.snaps v.name ≡ []) where
  may_get : (log : VolumeLog P ghosts) → IsNewLogFor (log_seen see log) (volume_seen see it.run.volume) → MayRelog see log it.run
  may_get log fits = record {
    whole = it.placed.runs.whole;
    map = map_or_zero plex.map;
    alone = alone_in see it.run g.config (good_of see g) it.numbers v it.placed plex one none;
    maps = lone_maps see it.run g.config (good_of see g) it.numbers v it.placed plex one;
    fits = fits;
  }

-- ---- `prepare`: before anything is touched

module _ {P : Type 0} {ghosts : Ghosts P} (see : P → Seen) (g : Imported P ghosts) (n : NewLogs) (runs : Bool) (runs_is : runs ≡ is_running g n.vol) (v : Vol) (found : volume_in n.vol g.config.volumes ≡ Some v) (fits : prepare_refusal runs g.config n ≡ None) (good : ℕ)
    (good_is : good ≡ good_of see g) where
  fits_here : prepare_refusal (is_running g n.vol) g.config n ≡ None
  fits_here = subst (λ b. prepare_refusal b g.config n ≡ None) runs_is fits

  pub unplanned_here : (stop : Stop) → EndsAs (AreLogsUnplanned g.config good v n) stop → EndsAs (IsPrepareRefused (is_running g n.vol) (seen_group see g) n) stop
  unplanned_here stops.OutOfMemory why = tt
  unplanned_here (stops.Ended end) why = inr (v, found, fits_here, subst (λ k. AreLogsUnplanned g.config k v n end) good_is why)

  pub planned_here : (next : NextConfig) → AreLogsPlanned g.config good v n next → IsPlannedPrepare see n v next g
  planned_here next planned = record { found = found; fits = fits_here; planned = subst (λ k. AreLogsPlanned g.config k v n next) good_is planned }

-- a group that was made ready has the same plan
module _ {P : Type 0} {ghosts : Ghosts P} (see : P → Seen) (old ready : Imported P ghosts) (parts : PartsGroup see old ready) where
  good_ready : good_of see ready ≡ good_of see old
  good_ready = ap (λ (w : Group). w.good) (same_Some (seen_group see ready) (seen_group see old) parts.group)

  pub runs_ready : (name : Word) → is_running ready name ≡ is_running old name
  runs_ready name = ap (λ m. is_some (get (slice_cmp nat_cmp) m name)) parts.running

  pub planned_ready : (n : NewLogs) (v : Vol) (next : NextConfig) → IsPlannedPrepare see n v next old → IsPlannedPrepare see n v next ready
  planned_ready n v next p = record {
    found = subst (λ c. volume_in n.vol c.volumes ≡ Some v) (sym parts.config) p.found;
    fits = subst (λ c. prepare_refusal (is_running ready n.vol) c n ≡ None) (sym parts.config) (subst (λ b. prepare_refusal b old.config n ≡ None) (sym (runs_ready n.vol)) p.fits);
    planned = subst (λ c. AreLogsPlanned c (good_of see ready) v n next) (sym parts.config) (subst (λ k. AreLogsPlanned old.config k v n next) (sym good_ready) p.planned);
  }

module _ {P : Type 0} {ghosts : Ghosts P} (see : P → Seen) (n : NewLogs) (v : Vol) (next : NextConfig) (old new : Imported P ghosts) (planned : IsPlannedPrepare see n v next old) (result : Result (Unit {0}) Stop) where
  pub prepared_new : is_new v.state ≡ true → RecordEnds see next result old new → PrepareEnds see n result old new
  prepared_new never ends = inr (record { volume = v; next = next; planned = planned; ends = subst (λ b. MatchBool b (RecordEnds see next result old new) (ReadyEnds see v next result old new)) (sym never) ends })

  pub prepared_filled : is_new v.state ≡ false → IsPoweredIn see n.vol old → (ready : Imported P ghosts) → PartsGroup see old ready → FilledEnds see v next result ready new → PrepareEnds see n result old new
  prepared_filled filled power ready parts ends =
      let named = found_name old.config n.vol v planned.found in
      let all : ReadyEnds see v next result old new = record { power = subst (λ (w : Word). IsPoweredIn see w old) (sym named) power; ready = ready; parts = parts; ends = ends } in
      inr (record { volume = v; next = next; planned = planned; ends = subst (λ b. MatchBool b (RecordEnds see next result old new) (ReadyEnds see v next result old new)) (sym filled) all })

-- ---- on a group that is ready

same_new : (s : VolState) → sameb the_type s vol_state.Empty ≡ is_new s
same_new vol_state.Empty = refl
same_new vol_state.Clean = refl
same_new vol_state.Active = refl
same_new vol_state.NeedSync = refl
same_new vol_state.Sync = refl

-- what the code's comparison of the state says
pub new_by : (s : VolState) (b : Bool) → b ≡ sameb the_type s vol_state.Empty → is_new s ≡ b
new_by s b is = sym (same_new s) ∙ sym is

active_by : (s : VolState) → is_new s ≡ false → log_state s ≡ plex_state.Active
active_by vol_state.Empty e = absurd (false≢true (sym e))
active_by vol_state.Clean e = refl
active_by vol_state.Active e = refl
active_by vol_state.NeedSync e = refl
active_by vol_state.Sync e = refl

module _ {P : Type 0} {ghosts : Ghosts P} (see : P → Seen) (n : NewLogs) (v : Vol) (next : NextConfig) (g : Imported P ghosts) (planned : IsPlannedPrepare see n v next g) where
  of : IsVolOf g.config v
  of = found_of g.config n.vol v planned.found

  pub named : v.name ≡ n.vol
  named = found_name g.config n.vol v planned.found

  faultless : logs_fault (objects_of g.config) v n.count n.region ≡ None
  faultless = fits_logs (is_running g n.vol) g.config n v planned.found planned.fits

  pub logs_next : is_new v.state ≡ false → HasLogsNext see n.vol next.config g
  logs_next filled = record {
    volume = v;
    of = of;
    named = named;
    logs = n;
    fits = faultless;
    plex = planned.planned.plex;
    added = planned.planned.added;
    edits = planned.planned.edits;
    laid = planned.planned.laid;
    edited = planned.planned.next.0;
    active = active_by v.state filled;
  }

  -- the volume by the next configuration
  pub later_is : (later : Vol) → volume_in n.vol next.config.volumes ≡ Some later → IsVolNext v next later
  later_is later found = record { of = found_of next.config n.vol later found; name = found_name next.config n.vol later found ∙ sym named }

  changes : (w : Vol) × (p : Plex) × ChangesDco g.config v next.config w planned.planned.plex p × (w.region ≡ region_with v n.region) × GetsLogs g.config (good_of see g) v (log_state v.state) planned.planned.added next.config w
  changes = preparing_changes g.config (good_of see g) v n planned.planned.plex planned.planned.added planned.planned.edits of faultless planned.planned.laid next.config planned.planned.next.0

  -- ---- the new log is made, or not

  pub unmade_here : (stop : Stop) (new : Imported P ghosts) → IsSomeAnd (volume_in n.vol next.config.volumes) (λ w. IsUnmadeIn see next.config w stop g new) → FilledEnds see v next (Err stop) g new
  unmade_here stop new unmade =
      let one = with_some (volume_in n.vol next.config.volumes) (λ w. IsUnmadeIn see next.config w stop g new) unmade in
      inl (record { later = one.0; of = later_is one.0 one.1; unmade = one.2 })

  module _ (layouts : List Layout) (mid : Imported P ghosts) (makes : IsSomeAnd (volume_in n.vol next.config.volumes) (λ w. MakesIn see next.config w layouts g mid)) where
    it_makes : (w : Vol) × (volume_in n.vol next.config.volumes ≡ Some w) × MakesIn see next.config w layouts g mid
    it_makes = with_some (volume_in n.vol next.config.volumes) (λ w. MakesIn see next.config w layouts g mid) makes

    made : MakesIn see next.config it_makes.0 layouts g mid
    made = it_makes.2

    pub alive_made : IsAlive see g.base → IsAlive see mid.base
    alive_made alive = subst (λ (x : Imported P ghosts). IsAlive see x.base) (sym made.same.group) alive

    pub going_made : g.base.lost ≡ None → mid.base.lost ≡ None
    going_made going = ap (λ (x : Imported P ghosts). x.base.lost) made.same.group ∙ going

    -- ---- it is recorded, or not

    recorded_so : (result : Result (Unit {0}) Stop) (new : Imported P ghosts) → RecordEnds see next result mid new → MakesAndRecords see v next result g new
    recorded_so result new records = record { later = it_makes.0; of = later_is it_makes.0 it_makes.1; layouts = layouts; mid = mid; makes = made; records = records }

    pub unrecorded_here : (stop : Stop) (new : Imported P ghosts) → RecordEnds see next (Err stop) mid new → FilledEnds see v next (Err stop) g new
    unrecorded_here stop new records = inr (recorded_so (Err stop) new records)

    module _ (recorded : Imported P ghosts) (records : IsRecordedIn see next mid recorded) where
      -- the log that was made is the last of what is left over
      pub left_there : EndsInLog recorded.public.left.items
      left_there =
          subst (λ (p : Public P ghosts). EndsInLog p.left.items) (sym records.public)
          (record { before = g.public.left.items; last = made.made.last; left_is = made.made.left; store = made.made.store; log_is = made.made.log_is; regions = made.made.regions })

      -- the volume does not run
      pub rests_here : is_running g n.vol ≡ false → FilledEnds see v next (Ok tt) g recorded
      unfolding recorded_so
      rests_here rests = record {
        recorded = recorded;
        makes = recorded_so (Ok tt) recorded records;
        joins = subst (λ b. MatchBool b (IsLogJoined see v.name layouts recorded recorded) (recorded ≡ recorded)) (sym (ap (is_running g) named ∙ rests)) refl;
      }

      -- it runs, and goes on with the log
      module _ (runs : is_running g n.vol ≡ true) where
        pub joins_here : (new : Imported P ghosts) → IsLogJoined see n.vol layouts recorded new → FilledEnds see v next (Ok tt) g new
        unfolding recorded_so
        joins_here new joins = record {
          recorded = recorded;
          makes = recorded_so (Ok tt) recorded records;
          joins = subst (λ b. MatchBool b (IsLogJoined see v.name layouts recorded new) (new ≡ recorded)) (sym (ap (is_running g) named ∙ runs)) (subst (λ (w : Word). IsLogJoined see w layouts recorded new) (sym named) joins);
        }

        module _ (kept : IsGroupKept see g) where
          it : IsRunning see g n.vol v
          it = it_runs see g kept n.vol v planned.found runs

          still_there : running_at recorded.public n.vol ≡ Some it.run
          still_there = ap (λ (p : Public P ghosts). running_at p n.vol) records.public ∙ ap (λ m. get (slice_cmp nat_cmp) m n.vol) made.same.running ∙ it.there

          unlogged : IsUnlogged it.run
          unlogged = has_no_log see g.config (good_of see g) it.numbers v it.run it.placed.runs (prepared_had_none (is_running g n.vol) g.config n v planned.found planned.fits)

          pub none_there : IsSomeAnd (running_at recorded.public n.vol) IsUnlogged
          none_there = subst (λ o. IsSomeAnd o IsUnlogged) (sym still_there) unlogged

          later_same : changes.0 ≡ it_makes.0
          later_same = found_one next.config n.vol it_makes.0 it_makes.1 changes.0 changes.2.recorded (ap (λ (x : Vol). x.name) changes.2.volume ∙ named)

          region_is : region_with v n.region ≡ v.region
          region_is = runs_with_its_regions g.config n v planned.found (subst (λ b. prepare_refusal b g.config n ≡ None) runs planned.fits)

          may_made : MayRelog see (logs.Maps made.made.store) it.run
          may_made =
              let shape = made.by.form_is.shape_is in
              may_get see g n.vol v it planned.planned.plex changes.2.was changes.2.alone (logs.Maps made.made.store)
              (fresh_may see g.config (good_of see g) it.numbers v it.run it.placed.runs made.made.copies made.by.form.shape.geometry
              (shape.length_is ∙ ap (λ (x : Vol). x.len) (sym later_same) ∙ ap (λ (x : Vol). x.len) changes.2.volume)
              (shape.region_is ∙ ap (λ (x : Vol). x.region) (sym later_same) ∙ changes.3 ∙ region_is) made.made.store made.made.fresh)

          may_left : MayRelogLeft see mid.public.left.items it.run
          may_left before last store left log_is =
              let ends = same_from_push g.public.left.items before made.made.last last (sym made.made.left ∙ left) in
              let logs_same : Store made.made.store ≡ Store store = sym made.made.log_is ∙ ap (λ (x : Remains P ghosts). x.log) ends.1 ∙ log_is in
              let same : made.made.store ≡ store = cc in
              subst (λ s. MayRelog see (logs.Maps s) it.run) same may_made

          pub may_there : IsSomeAnd (running_at recorded.public n.vol) (MayRelogLeft see recorded.public.left.items)
          may_there = subst (λ o. IsSomeAnd o (MayRelogLeft see recorded.public.left.items)) (sym still_there) (subst (λ (p : Public P ghosts). MayRelogLeft see p.left.items it.run) (sym records.public) may_left)

-- ---- `unprepare`

module _ {P : Type 0} {ghosts : Ghosts P} (see : P → Seen) (g : Imported P ghosts) (name : Word) (v : Vol) (found : volume_in name g.config.volumes ≡ Some v) (fits : unprepare_refusal g.config name ≡ None) (dco : Word) (dco_is : v.dco ≡ Some dco)
    (next : NextConfig) (planned : IsLossPlanned g.config v dco next) where
  loss_is : IsPlannedLoss see name v next g
  loss_is = record { found = found; fits = fits; dco = dco; dco_is = dco_is; planned = planned }

  loss_changes : (w : Vol) × (p : Plex) × ChangesDco g.config v next.config w planned.plex p × (w.dco ≡ None)
  loss_changes =
      unpreparing_changes g.config name v planned.plex (unprepare_edits g.config v dco planned.plex)
      (record { found = found; fits = fits; plex_is = planned.plex_is; dco = dco; dco_is = dco_is; edits_are = refl }) next.config planned.next.0

  -- it is not recorded
  pub kept_here : IsPoweredIn see name g → (stop : Stop) (new : Imported P ghosts) → RecordEnds see next (Err stop) g new → UnprepareEnds see name (Err stop) g new
  kept_here power stop new ends = inr (record { volume = v; next = next; planned = loss_is; power = power; ends = ends })

  module _ (recorded : Imported P ghosts) (records : IsRecordedIn see next g recorded) where
    same_runs : running_at g.public name ≡ running_at recorded.public name
    same_runs = ap (λ (p : Public P ghosts). running_at p name) (sym records.public)

    runs_as : (b : Bool) → is_running recorded name ≡ b → is_running g v.name ≡ b
    runs_as b runs = ap (is_running g) (found_name g.config name v found) ∙ ap is_some same_runs ∙ runs

    loses : (new : Imported P ghosts) → MatchBool (is_running g v.name) (RelogsIn see v.name logs.Absent [] recorded new) (new ≡ recorded) → LosesLog see v next g new
    loses new parts = record { recorded = recorded; records = records; parts = parts }

    -- the volume does not run
    pub lost_at_rest : IsPoweredIn see name g → is_running recorded name ≡ false → UnprepareEnds see name (Ok tt) g recorded
    lost_at_rest power rests =
        inr (record {
          volume = v;
          next = next;
          planned = loss_is;
          power = power;
          ends = loses recorded (subst (λ b. MatchBool b (RelogsIn see v.name logs.Absent [] recorded recorded) (recorded ≡ recorded)) (sym (runs_as false rests)) refl);
        })

    -- it runs, and goes on without a log
    module _ (runs : is_running recorded name ≡ true) where
      pub may_part : IsGroupKept see g → IsSomeAnd (running_at recorded.public name) (MayRelog see logs.Absent)
      may_part kept =
          let it = it_runs see g kept name v found (ap is_some same_runs ∙ runs) in
          subst (λ o. IsSomeAnd o (MayRelog see logs.Absent)) (sym it.there ∙ same_runs) (may_get see g name v it planned.plex loss_changes.2.was loss_changes.2.alone logs.Absent (absent_may (volume_seen see it.run.volume)))

      -- what was left over lies in another list then
      pub lost_running : IsPoweredIn see name g → (left : Vec (Remains P ghosts)) → left.items ≡ recorded.public.left.items → (new : Imported P ghosts) →
          RelogsIn see name logs.Absent [] (record recorded { public = record recorded.public { left = left } }) new → UnprepareEnds see name (Ok tt) g new
      lost_running power left same new is =
          let none : VolumeLog P ghosts = logs.Absent in
          let parts : RelogsIn see name logs.Absent [] recorded new = record {
            runs = is.runs;
            pieces = subst (λ (rs : List (Remains P ghosts)). SameSectors (log_pieces see (log_of is.runs.before.volume) ++ (map see recorded.public.pool.items.items ++ flat_map (remaining_pieces see) rs)) (log_pieces see none ++ still_pieces see new.public)) same is.pieces;
            same = is.same;
          } in
          inr (record {
            volume = v;
            next = next;
            planned = loss_is;
            power = power;
            ends = loses new (subst (λ b. MatchBool b (RelogsIn see v.name logs.Absent [] recorded new) (new ≡ recorded)) (sym (runs_as true runs))
                (subst (λ (w : Word). RelogsIn see w logs.Absent [] recorded new) (sym (found_name g.config name v found)) parts));
          })
