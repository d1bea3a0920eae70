-- A running volume of one plex that has another log runs as the one of the world that has it.
use Rattle.std.proofs.Common.{◌≡◌, ℕ, ◌≤◌, Bool, true, false, cond, List, [], ◌∷◌, ◌++◌, length, map, Option, Some, None, refl, sym, ◌∙◌, ap, subst, arith, inr}
use Rattle.std.specs.Prelude.{◌&&◌}
use Rattle.std.specs.List.{filter}
use Rattle.std.proofs.lemmas.Bool.{and_from, and_parts, false≢true}
use Rattle.std.proofs.lemmas.List.{append-nil}
use Rattle.vx_base.specs.Named.{Word}
use Rattle.vx_mask.specs.Mask.{has}
use Rattle.vx_mask.proofs.Sets.{in_union}
use Rattle.vx_piece.specs.Seen.{Seen}
use Rattle.vx_pages.specs.declared.local_piece.LocalPiece.{Ghosts}
use Rattle.vx_layout.specs.declared.layout.Layout.{Layout}
use Rattle.vx_config_parts.specs.declared.plex.Plex.{Plex}
use Rattle.vx_config_parts.specs.declared.vol.Vol.{Vol}
use Rattle.vx_config_parts.specs.Objects.{is_log_plex_of}
use Rattle.vx_objects.specs.declared.config.Config.{Config}
use Rattle.vx_image.specs.Bytes.{Sectors, image_of, is_held, map_or_zero}
use Rattle.vx_image.specs.Image.{PlexImage, WasStarted}
use Rattle.vx_image.specs.Lies.{slot_of}
use Rattle.vx_image.specs.UsedPlexes.{is_used_log, is_used_state, used_logs}
use Rattle.vx_copies.specs.Disks.{DiskSeen}
use Rattle.vx_moments.specs.World.{Group, OnPlexes, Volume}
use Rattle.vx_stages.specs.Logged.{volume_relogged}
use Rattle.vx_volume.specs.Log.{log_seen}
use Rattle.vx_volume.specs.Logging.{IsAlone, IsNewLogFor, ShowsNothing}
use Rattle.vx_volume.specs.Volume.{log_of, volume_seen}
use Rattle.vx_lending.specs.Form.{AreLayouts, IsLayoutOf}
use Rattle.vx_lending.specs.declared.public.Running.{Running}
use Rattle.vx_lending.proofs.Zips.{zip_length}
use Rattle.vx_volume_laws.specs.Leaving.{AreNamedIn}
use Rattle.vx_volume_laws.proofs.Configurations.{kept_named}
use Rattle.vx_change_laws.specs.Laws.{RunsStill}
use Rattle.vx_change_laws.proofs.Loggings.{log_change_exact, log_change_runs}
use Rattle.vx_group_edits.proofs.Columns.{held_before}
use Rattle.vx_group_volumes.specs.Opened.{WereThere, opened_plexes}
use Rattle.vx_group_volumes.specs.Places.{IsSlotOf, disks_at}
use Rattle.vx_group_volumes.specs.Runs.{Opening}
use Rattle.vx_joined_volumes.specs.Joined.{good_joined, mask_of_slots, opening_joined}
use Rattle.vx_joined_volumes.specs.Laws.{AgreeOn}
use Rattle.vx_joined_volumes.proofs.Alone.{each_plex_alone, held_lone, lone_data, was_held}
use Rattle.vx_joined_volumes.proofs.RelogNamed.{each_volume_renamed}
use Rattle.vx_joined_volumes.proofs.Runs.{kept_by}
use Rattle.vx_house.specs.Runs.{IsNumbered, IsRunOf}
use Rattle.vx_stage_mirrors.specs.Joins.{AreNumbersIn, AreStillDisks, GoesOn}
use Rattle.vx_stage_mirrors.proofs.RelogPlaces.{IsReloggedBy, opened_relogged, placed_relogged}

-- ---- the logs that are used

filter_fewer : {A : Type 0} (t u : A → Bool) → ((x : A) → t x ≡ true → u x ≡ true) → (xs : List A) → length (filter t xs) ≤ length (filter u xs)
filter_fewer t u more [] = omega arith
filter_fewer t u more (x ∷ xs) = by (t x) (u x) refl refl (filter_fewer t u more xs)
  where
    by : (b c : Bool) → t x ≡ b → u x ≡ c → length (filter t xs) ≤ length (filter u xs) → length (cond b (x ∷ filter t xs) (filter t xs)) ≤ length (cond c (x ∷ filter u xs) (filter u xs))
    by true true e f rest = omega (arith, rest)
    by true false e f rest = absurd (false≢true (sym f ∙ more x e))
    by false true e f rest = omega (arith, rest)
    by false false e f rest = rest

-- where a test lets more pass, and as many do, the same do
filter_same : {A : Type 0} (t u : A → Bool) → ((x : A) → t x ≡ true → u x ≡ true) → (xs : List A) → length (filter u xs) ≡ length (filter t xs) → filter u xs ≡ filter t xs
filter_same t u more [] long = refl
filter_same t u more (x ∷ xs) long = by (t x) (u x) refl refl long (filter_fewer t u more xs) (filter_same t u more xs)
  where
    by : (b c : Bool) → t x ≡ b → u x ≡ c → length (cond c (x ∷ filter u xs) (filter u xs)) ≡ length (cond b (x ∷ filter t xs) (filter t xs)) → length (filter t xs) ≤ length (filter u xs) →
        (length (filter u xs) ≡ length (filter t xs) → filter u xs ≡ filter t xs) → cond c (x ∷ filter u xs) (filter u xs) ≡ cond b (x ∷ filter t xs) (filter t xs)
    by true true e f long few rest = ap (λ ys. x ∷ ys) (rest (omega (arith, long)))
    by true false e f long few rest = absurd (false≢true (sym f ∙ more x e))
    by false true e f long few rest = absurd (omega (arith, long, few))
    by false false e f long few rest = rest long

module _ (c : Config) (good more : ℕ) (each : (slot : ℕ) → has good slot ≡ true → has more slot ≡ true) (vol : Word) where
  used_more : (p : Plex) → is_used_log c good false vol p ≡ true → is_used_log c more false vol p ≡ true
  used_more p is =
      let first = and_parts (is_log_plex_of vol p) (is_used_state false p.state && is_held c good p) is in
      let second = and_parts (is_used_state false p.state) (is_held c good p) first.1 in
      let held = held_before c c [] (sym (append-nil c.disks)) p.name refl more good (λ s there now. each (slot_of c.disks s.disk) now) p refl second.1 in
      and_from _ _ first.0 (and_from _ _ second.0 held)

  -- the same logs are used by more good slots, if they lie so by both
  same_logs : (dco : Option Word) (layouts : List Layout) → AreLayouts c (used_logs dco c good false vol) layouts → AreLayouts c (used_logs dco c more false vol) layouts → used_logs dco c more false vol ≡ used_logs dco c good false vol
  same_logs None layouts lie lie' = refl
  same_logs (Some d) layouts lie lie' =
      filter_same (is_used_log c good false vol) (is_used_log c more false vol) used_more c.plexes
      (sym (zip_length (IsLayoutOf c) (used_logs (Some d) c more false vol) layouts lie') ∙ zip_length (IsLayoutOf c) (used_logs (Some d) c good false vol) layouts lie)

-- ---- the run

-- whatever the devices hold, the plexes have their names and maps
abbrev no_bytes : Sectors
no_bytes = λ slot k. []

module _ {P : Type 0} {ghosts : Ghosts P} (see : P → Seen) (before after : Running P ghosts) (hs ks : List DiskSeen) (same : AreStillDisks hs ks) (g g' : Group) (goes : GoesOn g g')
    (name : Word) (w : Volume) (run : IsRunOf see hs g name before w) (numbers : List ℕ) (are : AreNumbersIn numbers hs g)
    (v' : Vol) (p p' : Plex) (logs : List Layout) (one : IsReloggedBy see g.config g.good run.of numbers g'.config v' p p' logs before after)
    (may : IsNewLogFor (log_seen see (log_of after.volume)) (volume_seen see before.volume)) (nothing : ShowsNothing (log_seen see (log_of after.volume)) (volume_seen see before.volume)) where
  abbrev opening : Opening
  opening = opening_joined run.placed.runs.opening g'.config g.good v'

  abbrev relogged : Volume
  relogged = volume_relogged (opened_plexes (opening_joined run.placed.runs.opening g'.config g.good v')) w

  -- ---- its disks

  still_on : (slot : ℕ) → IsNumbered numbers hs g.members slot → IsNumbered numbers ks g'.members slot
  still_on slot n =
      let k = same n.disk n.there in
      record { disk = k.0; there = k.1; device = goes.devices slot n.disk.device n.device ∙ ap (λ (d : Word). Some d) (sym k.2); number = n.number ∙ sym k.3 }

  agree : AgreeOn (disks_at run.placed.runs.opening) run.numbers numbers
  agree slot there = let n = run.opened slot there in are.each slot n.disk n.there n.device ∙ sym n.number

  on_opened : (slot : ℕ) → IsSlotOf (disks_at run.placed.runs.opening) slot → IsNumbered numbers ks g'.members slot
  on_opened slot there =
      let n = run.opened slot there in
      still_on slot (record { disk = n.disk; there = n.there; device = n.device; number = are.each slot n.disk n.there n.device })

  -- ---- its plex

  abbrev later : List PlexImage
  later = (image_of g'.config g.good no_bytes v').plexes

  alone : IsAlone (map_or_zero p.map) (volume_seen see before.volume)
  alone = each_plex_alone see before g.config g.good run.numbers run.of run.placed g'.config v' p p' one.changes one.region

  -- it lies on its plex and the new logs
  pub names_relogged : opened_plexes (opening_joined run.placed.runs.opening g'.config g.good v') ≡ p.name ∷ map (λ (q : Plex). q.name) (used_logs v'.dco g'.config g.good false run.of.name)
  names_relogged =
      let joined = good_joined run.placed.runs.opening g.good in
      let more = λ (slot : ℕ) (here : has g.good slot ≡ true). in_union (mask_of_slots (disks_at run.placed.runs.opening)) g.good slot (inr here) in
      (each_volume_renamed see before g.config g.good run.numbers run.of run.placed g'.config v' p p' one.changes one.region).0
      ∙ ap (λ (qs : List Plex). p.name ∷ map (λ (q : Plex). q.name) qs) (same_logs g'.config g.good joined more run.of.name v'.dco logs (one.lie g.good (λ slot here. here)) (one.lie joined more))

  -- .. and it lay on its plex alone, where it had no log
  pub names_alone : run.of.dco ≡ None → opened_plexes run.placed.runs.opening ≡ p.name ∷ []
  names_alone none =
      let o = run.placed.runs.opening in
      let was = lone_data see before g.config g.good run.numbers run.of run.placed p one.changes.was in
      let held = held_lone o.config o.good o.vol.name was.item was.is (was_held see before g.config g.good run.numbers run.of run.placed p one.changes.was) in
      ap (λ (qs : List Plex). map (λ (q : Plex). q.name) qs ++ map (λ (q : Plex). q.name) (used_logs o.vol.dco o.config o.good o.fresh o.vol.name)) held
      ∙ ap (λ (d : Option Word). (was.item.name ∷ []) ++ map (λ (q : Plex). q.name) (used_logs d o.config o.good o.fresh o.vol.name)) (sym run.placed.runs.keeps.dco ∙ none)
      ∙ ap (λ (n : Word). n ∷ []) (sym was.goes.same.name)

  were_there : WereThere opening later
  were_there = ((each_volume_renamed see before g.config g.good run.numbers run.of run.placed g'.config v' p p' one.changes one.region).1 no_bytes).0

  runs_still : w.sound ≡ true → RunsStill run.plexes later (volume_seen see before.volume) (volume_seen see after.volume) w relogged
  runs_still sound =
      log_change_runs (map_or_zero p.map) (log_seen see (log_of after.volume)) (volume_seen see before.volume) (volume_seen see after.volume) one.volume.changes run.placed.runs.whole alone may nothing
      run.plexes later w (run.runs_as sound) (opened_plexes opening)

  -- ---- so it runs

  pub run_relogged : IsRunOf see ks g' name after (volume_relogged (opened_plexes (opening_joined run.placed.runs.opening g'.config g.good v')) w)
  run_relogged =
      let j = placed_relogged see before after g.config g.good run.numbers run.of run.placed numbers are.slots agree g'.config v' p p' logs one g'.good goes.fewer in
      record {
        of = v';
        named = ap (λ (x : Vol). x.name) one.changes.volume ∙ run.named;
        started = subst WasStarted (sym (ap (λ (x : Vol). x.state) one.changes.volume)) run.started;
        numbers = numbers;
        own = are.slots.own;
        placed = j.0;
        opened = opened_relogged run.placed.runs.opening g'.config g.good v' j.0.runs.opening j.1 (IsNumbered numbers ks g'.members) on_opened (λ slot here. still_on slot (are.some slot here));
        numbered = λ place of here. still_on place.disk (are.some place.disk (goes.fewer place.disk here));
        lies = ap (λ (x : Opening). OnPlexes (opened_plexes x)) (sym j.1);
        length_is = run.length_is ∙ sym (ap (λ (x : Vol). x.len) one.changes.volume);
        region_is = run.region_is ∙ sym one.region;
        plexes = later;
        plexes_of = λ bytes. kept_named g'.config g.good v' false g'.config g'.good v' (kept_by g'.config g.good g'.good v' goes.fewer) no_bytes bytes;
        plexes_then = λ bytes. subst (λ (x : Opening). AreNamedIn later (image_of x.config x.good bytes x.vol).plexes) (sym j.1) (were_there bytes);
        runs_as = λ sound. (runs_still sound).runs;
        sure = λ sound. (runs_still sound).sure (run.sure sound);
        exact = λ sound spared. log_change_exact (log_seen see (log_of after.volume)) (volume_seen see before.volume) (volume_seen see after.volume) one.volume.changes nothing;
      }
