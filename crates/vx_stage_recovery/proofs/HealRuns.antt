-- A volume whose recovery is begun, and that was opened out of the pieces of its group: it runs in its place by its own configuration. As it is healed
-- its pieces fail with their devices.
use Rattle.std.proofs.Common.{◌≡◌, ◌∙◌, ◌&&◌, ℕ, Bool, true, false, List, [], ◌∷◌, ◌++◌, map, Option, Some, None, refl, sym, ap, subst}
use Rattle.std.specs.Prelude.{Contains}
use Rattle.std.specs.List.{AllZip}
use Rattle.std.proofs.lemmas.Bool.{and_parts}
use Rattle.vx_pages.specs.declared.local_piece.LocalPiece.{Ghosts}
use Rattle.vx_base.specs.Named.{Word}
use Rattle.vx_mask.specs.Mask.{has}
use Rattle.vx_piece.specs.Seen.{Seen}
use Rattle.vx_config_parts.specs.declared.plex.Plex.{Plex}
use Rattle.vx_config_parts.specs.declared.state.VolState.{VolState}
use Rattle.vx_config_parts.specs.declared.state.VolState.TheVariants as vol
use Rattle.vx_config_parts.specs.declared.vol.Vol.{Vol}
use Rattle.vx_objects.specs.declared.config.Config.{Config}
use Rattle.vx_image.specs.Bytes.{Sectors, image_of, is_held, map_or_zero, plex_image}
use Rattle.vx_image.specs.Image.{Image, IsFilled, PlexImage, is_available, is_available_state}
use Rattle.vx_image.specs.UsedPlexes.{IsVolOf, held_plexes, used_logs}
use Rattle.vx_image.proofs.Members.{contains, is_in}
use Rattle.vx_image.proofs.PlexMembers.{any_in, in_any}
use Rattle.vx_moments.specs.Holding.{is_among}
use Rattle.vx_moments.specs.Moment.{Counts}
use Rattle.vx_moments.specs.Moment.{HasFailed as FailsAt}
use Rattle.vx_moments.specs.Owners.{devices_on, owner_of, owners_of}
use Rattle.vx_moments.specs.Tracks.{TrackOwner, has_failed}
use Rattle.vx_moments.specs.World.{Group}
use Rattle.vx_state_edits.specs.Edits.{is_marked}
use Rattle.vx_volume.specs.Log.{log_seen}
use Rattle.vx_volume.specs.Volume.{log_of, volume_seen}
use Rattle.vx_volume.specs.declared.volume.Volume.{Volume as Code}
use Rattle.vx_volume_laws.specs.Keeping.{ChangesStates, IsRestated}
use Rattle.vx_volume_laws.specs.RunLaws.{FailuresAreTold, OwnersFit}
use Rattle.vx_volume_laws.proofs.Configurations.{active_used, kept_named, volume_kept}
use Rattle.vx_volume_laws.proofs.Held.{in_image, of_image}
use Rattle.vx_volume_laws.proofs.Restated.{restated_kept}
use Rattle.vx_lending.specs.Form.{IsFormOf}
use Rattle.vx_lending.specs.FormLaws.{AreNumbered, good_disks}
use Rattle.vx_lending.specs.Left.{held_pieces}
use Rattle.vx_lending.specs.Logs.{log_copies}
use Rattle.vx_lending.specs.declared.public.Public.{Public}
use Rattle.vx_lending.specs.declared.public.Running.{Running}
use Rattle.vx_group_start.specs.Fresh.{is_fresh}
use Rattle.vx_group_start.specs.Started.{IsStarted}
use Rattle.vx_group_calls.specs.Causes.{AreCutWhereDead}
use Rattle.vx_group_volumes.specs.Devices.{HasFailedOn}
use Rattle.vx_group_volumes.specs.Laws.{GoesOn}
use Rattle.vx_group_volumes.specs.Opened.{WereThere, opened_plexes}
use Rattle.vx_group_volumes.specs.Places.{RunsInPlace}
use Rattle.vx_group_volumes.specs.Runs.{Opening, RunsIn}
use Rattle.vx_group_volumes.proofs.Failures.{data_failures}
use Rattle.vx_group_volumes.proofs.Held.{of_pieces, own_sector}
use Rattle.vx_group_volumes.proofs.Owners.{owners_fit}
use Rattle.vx_group_volumes.proofs.Places.{places_stay}
use Rattle.vx_group_volumes.proofs.Plexes.{among_held, held_among, owner_is}
use Rattle.vx_group_volumes.proofs.Starts.{started_runs}
use Rattle.vx_healed_regions.specs.Laws.{some_failed}
use Rattle.vx_healed_volumes.specs.Whole.{IsWholeImage}
use Rattle.vx_recovery.specs.Healing.{AreMarksLeft, OnHasFailed}
use Rattle.vx_stages.specs.GroupCalls.{PlexHasFailed}
use Rattle.vx_stages.specs.Starting.{plexes_started}
use Rattle.vx_stage_volumes.specs.Touching.{AreOwnSectors}
use Rattle.vx_stage_volumes.proofs.AtOnce.{new_is_fresh}

-- two tests are one where each passes with the other
same_test : (a b : Bool) → (a ≡ true → b ≡ true) → (b ≡ true → a ≡ true) → a ≡ b
same_test true b f g = sym (f refl)
same_test false true f g = g refl
same_test false false f g = refl

turned : (a b : Bool) → (a && b) ≡ (b && a)
turned true true = refl
turned true false = refl
turned false true = refl
turned false false = refl

-- ---- no state has changed

plexes_stay : (of : Word) (ps : List Plex) → AllZip (IsRestated of false) ps ps
plexes_stay of [] = tt
plexes_stay of (p ∷ ps) = (record { same = refl; available = λ own. refl; active = λ own. active_used p.state }, plexes_stay of ps)

states_stay : (c : Config) (good : ℕ) (v : Vol) → ChangesStates c good v false c good v
states_stay c good v = record { vol = refl; disks = refl; subdisks = refl; snaps = refl; plexes = plexes_stay v.name c.plexes; failed = λ slot is. is }

pub sync_filled : (s : VolState) → s ≡ vol.Sync → IsFilled s
sync_filled s is = subst IsFilled (sym is) tt

pub sync_old : (s : VolState) → s ≡ vol.Sync → is_fresh s ≡ false
sync_old s is = ap is_fresh is

-- the volume v of the group, over its configuration and good disks, opened out of `old`
module _ {P : Type 0} {ghosts : Ghosts P} (g : Group) (v : Vol) (of : IsVolOf g.config v) (sync : v.state ≡ vol.Sync) (numbers : List ℕ) (old new : Public P ghosts) (running : Running P ghosts)
    (form : IsFormOf g.config g.good v (is_fresh v.state) running.form) (started : IsStarted ghosts.seen v numbers old new running) (numbered : AreNumbered numbers g.good g.config.disks) where
  abbrev pub see : P → Seen
  see = ghosts.seen

  pub form_old : IsFormOf g.config g.good v false running.form
  form_old = subst (λ (b : Bool). IsFormOf g.config g.good v b running.form) (sync_old v.state sync) form

  pub changes : ChangesStates g.config g.good v (is_fresh v.state) g.config g.good v
  changes = subst (λ (b : Bool). ChangesStates g.config g.good v b g.config g.good v) (sym (sync_old v.state sync)) (states_stay g.config g.good v)

  abbrev pub opened_by : Opening
  opened_by = record { config = g.config; good = g.good; vol = v; fresh = is_fresh v.state }

  pub runs0 : RunsIn see g.config g.good numbers v running
  runs0 = started_runs g.config g.good v numbers old new running of form started g.config g.good v of (sync_filled v.state sync) changes

  -- ---- it runs in its place

  abbrev pub placed : RunsInPlace see g.config g.good numbers v running
  placed = record {
    runs = record {
      recorded = of;
      filled = sync_filled v.state sync;
      opening = opened_by;
      of = of;
      form = form;
      keeps = restated_kept g.config g.good v (is_fresh v.state) g.config g.good v changes;
      whole = started.whole;
      shape = started.shape;
      logged = runs0.logged;
      lies = runs0.lies;
      cut = runs0.cut;
    };
    places = places_stay g.config v.name;
    numbered = numbered;
    were_good = λ place lies now. now;
  }

  -- each sector of its pieces is its own
  pub own : AreOwnSectors g.config v.name (good_disks g.good g.config.disks) numbers (held_pieces see running.volume)
  own device k any =
      own_sector g.config g.good v numbers device k
      (of_pieces g.config g.good v (is_fresh v.state) running.form form numbers device k (volume_seen see running.volume) (log_copies see (log_of running.volume)) runs0.lies.lies any)

  -- none of its regions is dead but where it is cut
  pub cut : AreCutWhereDead (volume_seen see running.volume)
  cut = runs0.cut

  -- ---- its owners

  abbrev pub names : List Word
  names = plexes_started g v

  abbrev pub owners : Word → TrackOwner
  owners = owners_of g v.name names

  pub same_names : names ≡ opened_plexes opened_by
  same_names = ap (λ b. map (λ (p : Plex). p.name) (held_plexes g.config g.good v.name) ++ map (λ (p : Plex). p.name) (used_logs v.dco g.config g.good b v.name)) (new_is_fresh v.state)

  module _ (bytes : Sectors) where
    abbrev pub image : Image
    image = image_of g.config g.good bytes v

    owner_fits : (p : PlexImage) → Contains image.plexes p → (owners p.name).available ≡ is_available p
    owner_fits p one =
        let x = of_image g.config g.good bytes v p one in
        let held : is_among x.plex.name (opened_plexes opened_by) ≡ is_held g.config g.good x.plex = same_test _ _ (held_among opened_by x.plex x.there) (among_held opened_by x.plex x.there x.of) in
        ap (λ (q : PlexImage). (owners q.name).available) x.is
        ∙ ap (λ (o : TrackOwner). o.available) (owner_is g v.name names x.plex x.there x.of)
        ∙ ap (λ ns. is_available_state x.plex.state && is_among x.plex.name ns) same_names
        ∙ ap (λ b. is_available_state x.plex.state && b) held
        ∙ turned (is_available_state x.plex.state) (is_held g.config g.good x.plex)
        ∙ ap is_available (sym x.is)

    pub fit : OwnersFit image.plexes (volume_seen see running.volume) owners
    fit = owners_fit g.config g.good v of running.form.shape form.shape_is (log_seen see (log_of running.volume)) started.regions (volume_seen see running.volume) started.opened bytes owners owner_fits

    were : WereThere opened_by image.plexes
    were other = kept_named g.config g.good v false g.config g.good v (volume_kept g.config g.good v) other bytes

    -- ---- devices that failed as it was healed

    module _ (after : Code P ghosts) (goes : GoesOn see running.volume after) (m n : Counts)
        (plex_fails : (q : Plex) → HasFailedOn g.config (good_disks g.good g.config.disks) numbers (held_pieces see running.volume) (held_pieces see after) q → PlexHasFailed g m n q)
        (failed : Word → Bool) (is_failed : (device : Word) → FailsAt m n device → failed device ≡ true) (have_failed : (device : Word) → failed device ≡ true → FailsAt m n device) where
      pub are_told : FailuresAreTold image.plexes owners failed (volume_seen see running.volume) (volume_seen see after)
      are_told p there region inside rose =
          let f = data_failures running after g.config g.good numbers v placed goes.together.counted image.plexes were p there region inside rose in
          let up = plex_fails f.plex f.failed in
          let owner : owners p.name ≡ owner_of g names f.plex = ap owners (sym f.name_is) ∙ owner_is g v.name names f.plex (is_in g.config.plexes f.plex f.there) f.data_is in
          ap (has_failed failed) owner ∙ in_any failed (devices_on g f.plex) up.0 (is_in (devices_on g f.plex) up.0 up.1) (is_failed up.0 up.2)

      -- where some plex that is written to has failed, one that is on has
      pub on_failed : some_failed image owners failed ≡ true → (name : Word) × OnHasFailed g v m n name
      on_failed any =
          let p = any_in (λ (p : PlexImage). is_available p && has_failed failed (owners p.name)) image.plexes any in
          let two = and_parts (is_available p.0) (has_failed failed (owners p.0.name)) p.2 in
          let x = of_image g.config g.good bytes v p.0 (contains image.plexes p.0 p.1) in
          let owner : owners p.0.name ≡ owner_of g names x.plex = ap (λ (q : PlexImage). owners q.name) x.is ∙ owner_is g v.name names x.plex x.there x.of in
          let d = any_in failed (devices_on g x.plex) (sym (ap (has_failed failed) owner) ∙ two.1) in
          (x.plex.name, (x.plex, contains g.config.plexes x.plex x.there, refl, x.of, sym (ap is_available x.is) ∙ two.0, (d.0, contains (devices_on g x.plex) d.0 d.1, have_failed d.0 d.2)))

-- ---- its marks

marked_so : (mask : ℕ) (o : Option ℕ) → has mask (map_or_zero o) ≡ true → is_marked mask o ≡ true
marked_so mask None is = is
marked_so mask (Some k) is = is

so_marked : (mask : ℕ) (o : Option ℕ) → is_marked mask o ≡ true → has mask (map_or_zero o) ≡ true
so_marked mask None is = is
so_marked mask (Some k) is = is

-- the marks of a whole image are those of its data plexes that are left
pub marks_left : (g : Group) (v : Vol) (bytes : Sectors) (marks : ℕ) → IsWholeImage (image_of g.config g.good bytes v) marks → AreMarksLeft g v (image_of g.config g.good bytes v) marks
marks_left g v bytes marks whole = record {
  sure = λ p one r inside marked q there own map_is. marked_so marks q.map (subst (λ k. has marks k ≡ true) (sym map_is) (whole.sure p one r inside marked));
  possible = λ q there own marked.
      whole.possible (plex_image g.config g.good bytes q) (in_image g.config g.good bytes v q (is_in g.config.plexes q there) own) (so_marked marks q.map marked);
}
