-- A call on a volume of the group that runs is what the plans say of it.
use Rattle.std.proofs.Common.{◌≡◌, ◌∙◌, ◌⊎◌, ◌+◌, ◌<◌, ◌≤◌, ℕ, Bool, true, false, ◌&&◌, ◌||◌, not, ◌==◌, nat_le, nat_lt, List, [], ◌∷◌, map, length, Option, Some, refl, sym, ap, subst, inl, inr}
use Rattle.std.specs.Prelude.{IfSome, MatchOption, MatchBool, Contains, is_some, if◌then◌else◌}
use Rattle.std.specs.List.{All, list_any, list_all, filter}
use Rattle.std.proofs.lemmas.Bool.{le-ltb, ltb-true, leb-true, le-leb, and_parts}
use Rattle.vx_pages.specs.declared.local_piece.LocalPiece.{Ghosts}
use Rattle.vx_base.specs.Counts.{Rose, later_count}
use Rattle.vx_base.specs.Named.{Word}
use Rattle.vx_mask.specs.Mask.{has}
use Rattle.vx_mask.proofs.Tests.{or_from_left, or_from_right}
use Rattle.vx_life.specs.declared.Part.{Part}
use Rattle.vx_life.specs.Entry.{Entry}
use Rattle.vx_life.specs.Life.{Life}
use Rattle.vx_core.specs.History.{AllOf as Every, MayPrecede}
use Rattle.vx_piece.specs.Seen.{Seen}
use Rattle.vx_carve.specs.Together.{HasSome, faults_on}
use Rattle.vx_cell.specs.Plexes.{PlexRose}
use Rattle.vx_copies.specs.Disks.{DiskSeen, disk_seen}
use Rattle.vx_copies.specs.Lists.{AnyOf}
use Rattle.vx_copies.specs.declared.disk.Disk.{Disk}
use Rattle.vx_confdb.specs.Groups.{members}
use Rattle.vx_config_parts.specs.declared.plex.Plex.{Plex}
use Rattle.vx_config_parts.specs.Objects.{is_data_plex_of}
use Rattle.vx_image.proofs.PlexMembers.{IsIn}
use Rattle.vx_image.specs.Bytes.{Sectors, plex_image}
use Rattle.vx_image.specs.Image.{PlexImage}
use Rattle.vx_image.proofs.Members.{contains, is_in}
use Rattle.vx_lending.proofs.Rules.{one_plex}
use Rattle.vx_script_forms.specs.declared.call.Call.{Call}
use Rattle.vx_answers.specs.declared.answer.End.{End}
use Rattle.vx_answers.specs.declared.answer.End.TheVariants as ends
use Rattle.vx_answers.specs.declared.refusal.Refusal.TheVariants.{NotStarted, Range}
use Rattle.vx_moments.specs.Moment.{Counts, Moment, Rests}
use Rattle.vx_moments.specs.Moment.{HasFailed as FailsAt}
use Rattle.vx_moments.specs.World.{Group, Volume}
use Rattle.vx_moments.specs.Owners.{IsDeviceOfVolume, owner_of, owners_of, devices_on}
use Rattle.vx_moments.specs.Tracks.{TrackOwner, has_failed, volume_after, volume_failed, volume_goes, volume_lived}
use Rattle.vx_moments.proofs.Tracked.{goes_length, goes_lies, goes_region}
use Rattle.vx_volume.specs.Volume.{cell_at, volume_seen}
use Rattle.vx_volume_laws.specs.Exact.{IsExactVolume, LogIsWell}
use Rattle.vx_volume_laws.specs.RunLaws.{FailuresAreTold, OwnersFit}
use Rattle.vx_lending.specs.Left.{held_pieces}
use Rattle.vx_lending.specs.declared.public.Running.{Running}
use Rattle.vx_lending.specs.Public.{running_at}
use Rattle.vx_group_calls.specs.Causes.{ServedHasCause}
use Rattle.vx_group_calls.specs.Serving.{Tells}
use Rattle.vx_group_calls.specs.declared.served.Served.{Served}
use Rattle.vx_group_calls.specs.declared.served.Served.TheVariants as served
use Rattle.vx_group_calls.proofs.Sources.{tell_still}
use Rattle.vx_group_volumes.specs.Devices.{DataHasFailed, HasFailedOn}
use Rattle.vx_group_volumes.specs.Devices.{LogHasFailed as LogFailedOn}
use Rattle.vx_group_volumes.specs.Opened.{opened_plexes}
use Rattle.vx_group_volumes.proofs.Failures.{data_failures, log_failures}
use Rattle.vx_group_volumes.proofs.HeldDevices.{plexes_fit}
use Rattle.vx_group_volumes.proofs.Plexes.{owner_is}
use Rattle.vx_stages.specs.Calls.{volume_of, start_of, count_of}
use Rattle.vx_stages.specs.GroupCalls.{BecomesBy, CurrentHaveFailed, EndHasCause, FaultHasCause, IsLastPart, IsServedOnPlexes, LogHasFailed, PlexHasFailed, TellsParts, comes_next, is_known}
use Rattle.vx_stages.specs.Logs.{LogIsSpared}
use Rattle.vx_plans.specs.Serving.{CallRuns, ServesOn}
use Rattle.vx_group_volumes.specs.Places.{disks_at}
use Rattle.vx_house.specs.Runs.{IsRunOf}
use Rattle.vx_house.specs.Scene.{Shelved, IsBlamed, counts_of}
use Rattle.vx_house.specs.Scene.{HasFailed as SceneFailed}
use Rattle.vx_house.specs.View.{IsGroupKept, IsMoment, Keeps, at, member_in, scene}
use Rattle.vx_house.specs.declared.house.House.{House}
use Rattle.vx_house.specs.declared.house.Imported.{Imported}
use Rattle.vx_house_calls.specs.Passes.{GoesOnWith, IsCalledIn, IsNext, IsOneOf, RunsOn, with_group}
use Rattle.vx_house_calls.proofs.Groups.{some}
use Rattle.vx_house_calls.proofs.Logs.{exact_still}
use Rattle.vx_house_calls.proofs.Moments.{each_call_on}
use Rattle.vx_run.specs.Grouped.{IsNamed, IsServedIn, IsToldAs}
use Rattle.vx_run.proofs.CommandEnds.{moment_end}
use Rattle.vx_run.proofs.Given.{Given}

-- the volume of the world has the blocks of the one that runs as it
pub run_length : {P : Type 0} {ghosts : Ghosts P} (see : P → Seen) (hs : List DiskSeen) (g : Group) (name : Word) (r : Running P ghosts) (w : Volume) → IsRunOf see hs g name r w → w.length ≡ (volume_seen see r.volume).length
run_length see hs g name r w run = run.length_is ∙ run.placed.runs.keeps.length_is ∙ sym run.placed.runs.form.shape_is.length_is ∙ sym run.placed.runs.lies.lies.length_is

-- ---- lists

any_in : {X : Type 0} (test : X → Bool) (xs : List X) (x : X) → IsIn xs x → test x ≡ true → list_any test xs ≡ true
any_in test [] x there is = absurd there
any_in test (y ∷ ys) x (inl same) is = ap (λ b. b || list_any test ys) (ap test (sym same) ∙ is)
any_in test (y ∷ ys) x (inr more) is = by (test y) (any_in test ys x more is)
  where
    by : (b : Bool) → list_any test ys ≡ true → (b || list_any test ys) ≡ true
    by true rest = refl
    by false rest = rest

-- what was kept of a list
in_kept : {X : Type 0} (test : X → Bool) (xs : List X) (x : X) → IsIn xs x → test x ≡ true → IsIn (filter test xs) x
in_kept test [] x there is = absurd there
in_kept test (y ∷ ys) x there is = by (test y) refl there (λ more. in_kept test ys x more is)
  where
    by : (b : Bool) → test y ≡ b → (x ≡ y) ⊎ IsIn ys x → (IsIn ys x → IsIn (filter test ys) x) → IsIn (if b then y ∷ filter test ys else filter test ys) x
    by true e (inl same) rest = inl same
    by true e (inr more) rest = inr (rest more)
    by false e (inl same) rest = absurd (let no : true ≡ false = sym is ∙ ap test same ∙ e in cc)
    by false e (inr more) rest = rest more

in_mapped : {X Y : Type 0} (f : X → Y) (xs : List X) (x : X) → IsIn xs x → IsIn (map f xs) (f x)
in_mapped f [] x there = absurd there
in_mapped f (y ∷ ys) x (inl same) = inl (ap f same)
in_mapped f (y ∷ ys) x (inr more) = inr (in_mapped f ys x more)

-- entries tell of no failure
goes_failed : (owners : Word → TrackOwner) (es : List Entry) (v : Volume) → (volume_goes owners es v).failed ≡ v.failed
goes_failed owners [] v = refl
goes_failed owners (e ∷ es) v = goes_failed owners es (volume_after owners e v)

-- ---- places

-- what comes next may be called
may_come : (place epoch : ℕ) (es : List Entry) → list_all (λ (e : Entry). nat_le e.part.epoch epoch && (not (e.session == 0) || nat_lt e.place place)) es ≡ true → Every (MayPrecede 0 place epoch) es
may_come place epoch [] all = tt
may_come place epoch (e ∷ es) all =
    let two = and_parts (nat_le e.part.epoch epoch && (not (e.session == 0) || nat_lt e.place place)) (list_all (λ (e : Entry). nat_le e.part.epoch epoch && (not (e.session == 0) || nat_lt e.place place)) es) all in
    let one = and_parts (nat_le e.part.epoch epoch) (not (e.session == 0) || nat_lt e.place place) two.0 in
    ((leb-true e.part.epoch epoch one.0, λ same. before same one.1), may_come place epoch es two.1)
  where
    before : e.session ≡ 0 → (not (e.session == 0) || nat_lt e.place place) ≡ true → e.place < place
    before same is = ltb-true e.place place (ap (λ s. not (s == 0) || nat_lt e.place place) (sym same) ∙ is)

-- ---- a call

module _ {P : Type 0} {ghosts : Ghosts P} (alike : (p q : P) → is_some (ghosts.seen p).told ≡ is_some (ghosts.seen q).told) (shelf : Shelved) (h : House P ghosts) (g now : Imported P ghosts) (has_group : h.group ≡ Some g) (call : Call) (end : End)
    (done : IsServedIn ghosts.seen call end g now) (keeps : Keeps ghosts.seen (at shelf h)) where
  abbrev see : P → Seen
  see = ghosts.seen

  abbrev vol : Word
  vol = volume_of call

  abbrev r : Running P ghosts
  r = done.runs.before

  abbrev later_run : Running P ghosts
  later_run = done.runs.after

  abbrev held : List Seen
  held = held_pieces see r.volume

  abbrev held' : List Seen
  held' = held_pieces see later_run.volume

  abbrev mid : House P ghosts
  mid = with_group h now

  called : IsCalledIn see vol g now
  called = record {
    before = r;
    after = later_run;
    was = done.runs.was;
    entries = done.runs.entries;
    puts = done.runs.puts;
    same = done.same;
    called = record { each = done.runs.stays; goes = done.runs.goes };
    tells = tell_still r.volume later_run.volume alike done.runs.stays;
    whole = done.runs.whole;
    form = done.runs.form;
    shape = done.runs.shape;
    lies = done.runs.lies;
    dead = done.runs.dead;
  }

  goes : GoesOnWith see shelf h g now vol r later_run
  unfolding called
  goes = each_call_on see h g now shelf vol has_group called keeps

  -- no piece of it is empty
  all_some : All HasSome held
  unfolding called
  all_some = subst (λ x. (is : IsCalledIn see vol g x) → All HasSome (held_pieces see is.before.volume)) (sym done.same)
      (λ is. some see vol g now.public.running is (subst (λ o. IfSome o (IsGroupKept see)) has_group keeps.house.group).whole) called

  module _ (place : ℕ) (m : Moment) (at_m : IsMoment see (at shelf h) m) where
    abbrev on : RunsOn see (at shelf h) (at shelf mid) (members see g.base) vol r later_run m
    on = goes.moments m at_m

    abbrev gm : Group
    gm = on.group

    abbrev w : Volume
    w = on.volume

    abbrev run : IsRunOf see (members see g.base) gm vol r w
    run = on.run

    abbrev names : List Word
    names = opened_plexes run.placed.runs.opening

    abbrev counts : Counts
    counts = counts_of (scene see (at shelf mid))

    abbrev owners : Word → TrackOwner
    owners = owners_of gm vol names

    fit : OwnersFit run.plexes (volume_seen see r.volume) owners
    fit = subst (λ n. OwnersFit run.plexes (volume_seen see r.volume) (owners_of gm n names)) run.named (plexes_fit r gm run.numbers run.of run.placed run.plexes run.plexes_then)

    -- the devices that have failed
    failed : Word → Bool
    failed name = nat_le (later_count (m.counts.faults name) 1) (counts.faults name)

    have_failed : (name : Word) → failed name ≡ true → FailsAt m.counts counts name
    unfolding failed
    have_failed name is = leb-true (later_count (m.counts.faults name) 1) (counts.faults name) is

    is_failed : (name : Word) → FailsAt m.counts counts name → failed name ≡ true
    unfolding failed
    is_failed name up = le-leb (later_count (m.counts.faults name) 1) (counts.faults name) up

    -- a plex one of whose slots has failed has
    plex_fails : (q : Plex) → HasFailedOn gm.config (disks_at run.placed.runs.opening) run.numbers held held' q → PlexHasFailed gm m.counts counts q
    plex_fails q f = on.plex_failed q f.lies.slot f.device (f.lies.strip, f.lies.there, f.lies.disk_is) f.lies.on f.lies.number_is f.rose

    -- the data plex of the name that has failed in a region
    data_fails : (p : PlexImage) → Contains run.plexes p → (region : ℕ) → region < length (volume_seen see r.volume).cells → PlexRose p.map (cell_at (volume_seen see r.volume) region).plexes (cell_at (volume_seen see later_run.volume) region).plexes →
        DataHasFailed gm.config vol (disks_at run.placed.runs.opening) run.numbers held held' p.name
    data_fails p there region inside rose = subst (λ n. DataHasFailed gm.config n (disks_at run.placed.runs.opening) run.numbers held held' p.name) run.named
        (data_failures r later_run.volume gm.config gm.good run.numbers run.of run.placed done.runs.counted run.plexes run.plexes_then p there region inside rose)

    are_told : FailuresAreTold run.plexes owners failed (volume_seen see r.volume) (volume_seen see later_run.volume)
    are_told p there region inside rose =
        let f = data_fails p there region inside rose in
        let up = plex_fails f.plex f.failed in
        let owner : owners p.name ≡ owner_of gm names f.plex = ap owners (sym f.name_is) ∙ owner_is gm vol names f.plex (is_in gm.config.plexes f.plex f.there) f.data_is in
        ap (has_failed failed) owner ∙ any_in failed (devices_on gm f.plex) up.0 (is_in (devices_on gm f.plex) up.0 up.1) (is_failed up.0 up.2)

    -- ---- what it has become

    -- a volume of the world that has come next
    record Comes (later : Volume) : Type 0 where
      becomes : BecomesBy (is_known place w) place call gm names w m.counts counts end later
      next : (n : Moment) × IsNext see (at shelf mid) gm vol later m n

    -- the end tells what the answer does
    tells_as : (a : Served) → IsToldAs see g.base.disks.items a end → (es : List Entry) → Tells place call w.region a es → TellsParts place call w.region end es
    tells_as (served.Done parts blocks) is es tells = subst (λ e. TellsParts place call w.region e es) (sym is) (refl, tells.0, tells.1)
    tells_as (served.Fault number parts) is es tells = subst (λ e. TellsParts place call w.region e es) (sym is.2) tells
    tells_as (served.Lost parts) is es tells = subst (λ e. TellsParts place call w.region e es) (sym is) tells

    -- the devices that have failed in its life, with those of the call
    failed_lived : (es : List Entry) (life : Life) → (volume_lived owners failed es life w).failed ≡ (volume_failed owners failed w).failed
    failed_lived es life = goes_failed owners es (volume_failed owners failed w)

    -- where no device of the log has failed, the log stays exact
    exact_lived : w.sound ≡ true → (es : List Entry) (life : Life) → (LogIsWell (volume_seen see r.volume) (volume_seen see later_run.volume) → IsExactVolume (volume_seen see r.volume) → IsExactVolume (volume_seen see later_run.volume)) →
        LogIsSpared gm vol (volume_lived owners failed es life w).failed → IsExactVolume (volume_seen see later_run.volume)
    exact_lived sound es life stays spared =
        exact_still (at shelf h) (at shelf mid) (members see g.base) vol r later_run m on done.runs.stays done.runs.follows all_some (volume_failed owners failed w).failed
        (λ device up. or_from_left (failed device) (w.failed device) (is_failed device up)) (subst (LogIsSpared gm vol) (failed_lived es life) spared)
        sound (λ device was. or_from_right (failed device) (w.failed device) was) stays

    known_comes : is_known place w ≡ true → (later : Volume) × Comes later
    known_comes known =
        let two = and_parts w.sound (comes_next place w.life) known in
        let lives = done.runs.serves run.plexes w (run.runs_as two.0) owners failed fit are_told place (may_come place w.life.epoch w.life.entries two.1) in
        let later : Volume = volume_lived owners failed lives.entries lives.runs.life w in (
          later,
          record {
            becomes = subst (λ b. BecomesBy b place call gm names w m.counts counts end later) (sym known) (record {
              entries = lives.entries;
              life = lives.runs.life;
              parts = lives.parts;
              told = tells_as done.answer done.told lives.entries lives.told;
              goes_on = lives.runs.goes_on;
              failed = failed;
              have_failed = have_failed;
              is = refl;
            });
            next = on.next later
                (record {
                  lies = goes_lies owners lives.entries (volume_failed owners failed w);
                  length_is = goes_length owners lives.entries (volume_failed owners failed w);
                  region_is = goes_region owners lives.entries (volume_failed owners failed w);
                })
                (λ sound. lives.runs.runs) (λ sound. lives.runs.sure (run.sure two.0))
                (λ sound spared. exact_lived two.0 lives.entries lives.runs.life lives.runs.exact spared);
          },
        )

    unknown_comes : is_known place w ≡ false → (later : Volume) × Comes later
    unknown_comes unknown =
        let later : Volume = record w { sound = false } in (
          later,
          record {
            becomes = subst (λ b. BecomesBy b place call gm names w m.counts counts end later) (sym unknown) refl;
            next = on.next later (record { lies = refl; length_is = refl; region_is = refl }) (λ sound. absurd (let no : false ≡ true = sound in cc)) (λ sound. absurd (let no : false ≡ true = sound in cc))
                (λ sound. absurd (let no : false ≡ true = sound in cc));
          },
        )

    comes : (later : Volume) × Comes later
    comes = by (is_known place w) refl
      where
        by : (b : Bool) → is_known place w ≡ b → (later : Volume) × Comes later
        by true e = known_comes e
        by false e = unknown_comes e

    -- ---- why it ended so

    -- a data plex of the volume is one of those that it runs on, by its name
    image_of_plex : (p : Plex) → Contains gm.config.plexes p → is_data_plex_of vol p ≡ true → (q : PlexImage) × Contains run.plexes q × (q.name ≡ p.name)
    image_of_plex p there is_data =
        let bytes : Sectors = λ slot k. [] in
        let image : PlexImage = plex_image gm.config gm.good bytes p in
        let of_volume : is_data_plex_of run.of.name p ≡ true = ap (λ n. is_data_plex_of n p) run.named ∙ is_data in
        let here = in_mapped (plex_image gm.config gm.good bytes) (filter (is_data_plex_of run.of.name) gm.config.plexes) p
        (in_kept (is_data_plex_of run.of.name) gm.config.plexes p (is_in gm.config.plexes p there) of_volume) in
        let q = run.plexes_of bytes image (contains (map (plex_image gm.config gm.good bytes) (filter (is_data_plex_of run.of.name) gm.config.plexes)) image here) in
        (q.0, q.1, q.2)

    -- what is written to and surely not behind in a region was on and unmarked there
    current_failed : w.sound ≡ true → (region : ℕ) → region < length (volume_seen see r.volume).cells →
        ((k : ℕ) → has (cell_at (volume_seen see r.volume) region).stage.on k ≡ true → has (cell_at (volume_seen see r.volume) region).stage.bits k ≡ false → PlexRose k (cell_at (volume_seen see r.volume) region).plexes (cell_at (volume_seen see later_run.volume) region).plexes) →
        CurrentHaveFailed gm vol names w region m.counts counts
    current_failed sound region inside all p there is_data written clean =
        let q = image_of_plex p there is_data in
        let owner : owners q.0.name ≡ owner_of gm names p = ap owners q.2 ∙ owner_is gm vol names p (is_in gm.config.plexes p there) is_data in
        let maps = fit q.0 q.1 region inside in
        let is_on : has (cell_at (volume_seen see r.volume) region).stage.on q.0.map ≡ true = sym maps.available ∙ ap (λ (o : TrackOwner). o.available) owner ∙ written in
        let rose = all q.0.map is_on (unmarked q.0 q.1 (ap (λ (t : Word). (w.tracks t).possible region) q.2 ∙ clean)) in
        let f = data_fails q.0 q.1 region inside rose in
        let same = one_plex gm.config f.plex p (is_in gm.config.plexes f.plex f.there) (is_in gm.config.plexes p there) (f.name_is ∙ q.2) in
        subst (PlexHasFailed gm m.counts counts) same (plex_fails f.plex f.failed)
      where
        unmarked : (q : PlexImage) → Contains run.plexes q → (w.tracks q.name).possible region ≡ false → has (cell_at (volume_seen see r.volume) region).stage.bits q.map ≡ false
        unmarked q one none = by (has (cell_at (volume_seen see r.volume) region).stage.bits q.map) refl
          where
            by : (b : Bool) → has (cell_at (volume_seen see r.volume) region).stage.bits q.map ≡ b → has (cell_at (volume_seen see r.volume) region).stage.bits q.map ≡ false
            by false e = e
            by true e =
                let seen : (w.tracks q.name).possible region ≡ true = (((run.runs_as sound).each region inside).tracks q one).possible (inl e) in
                absurd (let no : true ≡ false = sym seen ∙ none in cc)

    log_failed : LogFailedOn gm.config vol (disks_at run.placed.runs.opening) run.numbers held held' → LogHasFailed gm vol m.counts counts
    log_failed f = (f.plex, f.there, f.log_is, plex_fails f.plex f.failed)

    excused : is_known place w ≡ true → (number : ℕ) (parts : List Part) → ServedHasCause see (served.Fault number parts) r.volume later_run.volume → (last : Part) → IsLastPart parts last →
        LogHasFailed gm vol m.counts counts ⊎ CurrentHaveFailed gm vol names w last.region m.counts counts
    excused known number parts cause last is =
        let two = and_parts w.sound (comes_next place w.life) known in
        let why = cause.1 last is in
        elim why.1 [
          | inl log ↦ inl (log_failed (subst (λ n. LogFailedOn gm.config n (disks_at run.placed.runs.opening) run.numbers held held') run.named
              (log_failures r later_run.volume gm.config gm.good run.numbers run.of run.placed all_some done.runs.follows log)))
          | inr all ↦ inr (current_failed two.0 last.region why.0 all)
        ]

    -- the disk of a number is a member of the group
    named_disk : (number : ℕ) (told device : Word) (ds : List (Disk P)) → AnyOf (IsNamed see number told device) ds → (d : Disk P) × IsOneOf (map (disk_seen see) ds) (disk_seen see d) × IsNamed see number told device d
    named_disk number told device [] any = absurd any
    named_disk number told device (d ∷ ds) (inl is) = (d, inl refl, is)
    named_disk number told device (d ∷ ds) (inr more) = let rest = named_disk number told device ds more in (rest.0, inr rest.1, rest.2)

    fault_cause : (number : ℕ) (parts : List Part) (told device : Word) → AnyOf (IsNamed see number told device) g.base.disks.items → ServedHasCause see (served.Fault number parts) r.volume later_run.volume → (known : Bool) → is_known place w ≡ known →
        FaultHasCause known vol gm names w m.counts counts told device parts
    fault_cause number parts told device any cause known e =
        let d = named_disk number told device g.base.disks.items any in
        let fails = on.failed (disk_seen see d.0) d.1 (subst (λ n. Rose (faults_on n held) (faults_on n held')) (sym d.2.0) cause.0) in
        record {
          member = member_in (disk_seen see d.0);
          there = on.members (disk_seen see d.0) d.1;
          device_is = d.2.2;
          disk_is = d.2.1;
          own = subst (IsDeviceOfVolume gm vol) d.2.2 fails.1;
          failed = subst (FailsAt m.counts counts) d.2.2 fails.0;
          excused = λ yes. excused (e ∙ yes) number parts cause;
        }

    cause_by : (a : Served) → IsToldAs see g.base.disks.items a end → ServedHasCause see a r.volume later_run.volume → (known : Bool) → is_known place w ≡ known → EndHasCause known vol gm names w m.counts counts end
    cause_by (served.Done parts blocks) is cause known e = subst (EndHasCause known vol gm names w m.counts counts) (sym is) tt
    cause_by (served.Fault number parts) is cause known e = subst (EndHasCause known vol gm names w m.counts counts) (sym is.2) (fault_cause number parts is.0 is.1 is.3 cause known e)
    cause_by (served.Lost parts) is cause known e = subst (EndHasCause known vol gm names w m.counts counts) (sym is) (on.lost (cause run.placed.runs.cut))

    -- ---- the moment that it is then

    abbrev later : Volume
    later = comes.0

    abbrev n : Moment
    n = comes.1.next.0

    abbrev next : IsNext see (at shelf mid) gm vol later m n
    next = comes.1.next.1

    serves : IsServedOnPlexes place call names w m end n
    unfolding comes
    serves = record {
      group = gm;
      here = on.here;
      later = later;
      becomes = subst (λ c. BecomesBy (is_known place w) place call gm names w m.counts c end later) (sym next.counts) comes.1.becomes;
      world = next.world;
      changes = next.changes;
      cause = subst (λ c. EndHasCause (is_known place w) vol gm names w m.counts c end) (sym next.counts) (cause_by done.answer done.told done.runs.cause (is_known place w) refl);
      calls = next.calls;
    }

    runs : start_of call + count_of call ≤ (volume_seen see r.volume).length → CallRuns place call m end n
    runs within =
        let inside : start_of call + count_of call ≤ w.length = subst (λ x. start_of call + count_of call ≤ x) (sym (run_length see (members see g.base) gm vol r w run)) within in
        subst (λ o. MatchOption o ((end ≡ ends.Refused (NotStarted vol)) × Rests m n) (λ u. MatchBool (nat_lt u.length (start_of call + count_of call)) ((end ≡ ends.Refused Range) × Rests m n) (ServesOn u.lies place call u m end n))) (sym on.there)
        (subst (λ t. MatchBool t ((end ≡ ends.Refused Range) × Rests m n) (ServesOn w.lies place call w m end n)) (sym (le-ltb w.length (start_of call + count_of call) inside))
        (subst (λ l. ServesOn l place call w m end n) (sym run.lies) serves))

  -- ---- the house

  blamed_by : (a : Served) → IsToldAs see g.base.disks.items a end → ServedHasCause see a r.volume later_run.volume → IsBlamed end (scene see (at shelf h)) (scene see (at shelf mid))
  blamed_by (served.Done parts blocks) is cause = subst (λ e. IsBlamed e (scene see (at shelf h)) (scene see (at shelf mid))) (sym is) tt
  blamed_by (served.Fault number parts) is cause = subst (λ e. IsBlamed e (scene see (at shelf h)) (scene see (at shelf mid))) (sym is.2) (by g.base.disks.items is.3 (λ d there. goes.failed (disk_seen see d) there))
    where
      by : (ds : List (Disk P)) → AnyOf (IsNamed see number is.0 is.1) ds → ((d : Disk P) → IsOneOf (map (disk_seen see) ds) (disk_seen see d) → Rose (faults_on (see d.piece).device held) (faults_on (see d.piece).device held') → SceneFailed d.device (scene see (at shelf h)) (scene see (at shelf mid))) →
          SceneFailed is.1 (scene see (at shelf h)) (scene see (at shelf mid))
      by [] any each = absurd any
      by (d ∷ ds) (inl named) each = subst (λ x. SceneFailed x (scene see (at shelf h)) (scene see (at shelf mid))) named.2 (each d (inl refl) (subst (λ n. Rose (faults_on n held) (faults_on n held')) (sym named.0) cause.0))
      by (d ∷ ds) (inr more) each = by ds more (λ x there. each x (inr there))
  blamed_by (served.Lost parts) is cause = subst (λ e. IsBlamed e (scene see (at shelf h)) (scene see (at shelf mid))) (sym is) tt

  given_by : (place : ℕ) → start_of call + count_of call ≤ (volume_seen see r.volume).length → Given see shelf call place end h mid
  given_by place within = record {
    keeps = goes.keeps;
    goes = λ m at_m. (
      n place m at_m,
      record {
        is = moment_end see end (at shelf mid) (n place m at_m) (next place m at_m).is;
        later = (next place m at_m).later;
        does = (refl, (next place m at_m).later, runs place m at_m within);
      },
    );
    faults = goes.faults;
    blamed = blamed_by done.answer done.told done.runs.cause;
  }

  pub grouped_given : (place : ℕ) (one : Running P ghosts) → running_at g.public vol ≡ Some one → start_of call + count_of call ≤ (volume_seen see one.volume).length → Given see shelf call place end h mid
  grouped_given place one found within = given_by place (subst (λ (x : Running P ghosts). start_of call + count_of call ≤ (volume_seen see x.volume).length) same within)
    where
      some_one : (a b : Running P ghosts) (o : Option (Running P ghosts)) → o ≡ Some a → o ≡ Some b → a ≡ b
      some_one a b o x y = cc

      same : one ≡ r
      same = some_one one r (running_at g.public vol) found done.runs.was
