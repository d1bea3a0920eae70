-- A volume that was opened, by a start or a recovery, runs by the configuration that records it as started, as the volume of the world whose life
-- begins over its bytes.
use Rattle.std.proofs.Common.{◌≡◌, ◌∙◌, ◌⊎◌, inl, inr, ℕ, ◌&&◌, Bool, true, false, List, ◌++◌, map, refl, sym, ap, subst}
use Rattle.std.specs.Prelude.{Contains}
use Rattle.std.specs.List.{All}
use Rattle.vx_pages.specs.declared.local_piece.LocalPiece.{Ghosts}
use Rattle.vx_base.specs.Blocks.{Contents}
use Rattle.vx_base.specs.Named.{Word}
use Rattle.vx_mask.specs.Mask.{has}
use Rattle.vx_piece.specs.Seen.{Seen}
use Rattle.vx_carve.specs.Together.{Holds}
use Rattle.vx_config_parts.specs.declared.plex.Plex.{Plex}
use Rattle.vx_config_parts.specs.declared.state.VolState.{VolState}
use Rattle.vx_config_parts.specs.declared.state.VolState.TheVariants as vol
use Rattle.vx_config_parts.specs.declared.vol.Vol.{Vol}
use Rattle.vx_objects.specs.declared.config.Config.{Config}
use Rattle.vx_state_edits.specs.Edits.{is_new}
use Rattle.vx_copies.specs.Disks.{DiskSeen}
use Rattle.vx_image.specs.Bytes.{Sectors, image_of, is_held}
use Rattle.vx_image.specs.Deciding.{EachImageIsSoundOrNot}
use Rattle.vx_image.specs.Image.{Image, IsFilled, PlexImage, is_available, is_available_state}
use Rattle.vx_image.specs.Soundness.{IsSoundImage}
use Rattle.vx_image.specs.UsedPlexes.{IsVolOf, held_plexes, used_logs}
use Rattle.vx_moments.specs.Holding.{is_among}
use Rattle.vx_moments.specs.World.{Group, Member, OnPlexes, Volume}
use Rattle.vx_moments.specs.Lives.{volume_begun, volume_by, volume_first}
use Rattle.vx_moments.specs.Owners.{owners_of}
use Rattle.vx_moments.specs.Tracks.{TrackOwner, unsure}
use Rattle.vx_moments.specs.Volumes.{volume_read}
use Rattle.vx_volume.specs.Log.{log_seen}
use Rattle.vx_volume.specs.Volume.{log_of, volume_seen}
use Rattle.vx_lending.specs.Form.{IsFormOf}
use Rattle.vx_lending.specs.FormLaws.{AreNumbered, good_disks}
use Rattle.vx_volume_laws.specs.Contents.{AreSectorsOf}
use Rattle.vx_volume_laws.specs.Keeping.{ChangesStates, KeepsVolume}
use Rattle.vx_volume_laws.specs.Leaving.{EachRunningForgets}
use Rattle.vx_volume_laws.specs.RunLaws.{OwnersFit}
use Rattle.vx_volume_laws.specs.Exact.{IsExactVolume}
use Rattle.vx_volume_laws.specs.Running.{IsSureOfOthers, RunsAsVolume}
use Rattle.vx_volume_laws.specs.Start.{EachEmptyBegins}
use Rattle.vx_volume_laws.specs.Starting.{EachOpeningRuns}
use Rattle.vx_volume_laws.proofs.Configurations.{kept_named, volume_kept}
use Rattle.vx_volume_laws.proofs.Held.{of_image}
use Rattle.vx_volume_laws.proofs.Restated.{restated_kept}
use Rattle.vx_lending.specs.declared.public.Public.{Public}
use Rattle.vx_lending.specs.declared.public.Running.{Running}
use Rattle.vx_lending.specs.Public.{still_pieces}
use Rattle.vx_group_start.specs.Fresh.{is_fresh}
use Rattle.vx_group_start.specs.Started.{IsStarted}
use Rattle.vx_group_volumes.specs.Opened.{opened_plexes}
use Rattle.vx_group_volumes.specs.Places.{IsSlotOf, RunsInPlace}
use Rattle.vx_group_volumes.specs.Runs.{Opening, RunsIn}
use Rattle.vx_group_volumes.proofs.Firsts.{fresh_exact, fresh_runs}
use Rattle.vx_group_volumes.proofs.Owners.{owners_fit}
use Rattle.vx_group_volumes.proofs.Places.{restated_keep}
use Rattle.vx_group_volumes.proofs.Plexes.{among_held, held_among, owner_is}
use Rattle.vx_group_volumes.proofs.Starts.{loaded_exact, loaded_runs, started_runs}
use Rattle.vx_stages.specs.Starting.{plexes_started, volume_started}
use Rattle.vx_carve.specs.Carved.{HaveNumbers}
use Rattle.vx_house.specs.Runs.{IsInPlace, IsRunOf}
use Rattle.vx_stage_volumes.specs.Opening.{may_open}
use Rattle.vx_stage_volumes.proofs.AtOnce.{new_is_fresh}
use Rattle.vx_stage_volumes.proofs.Slots.{IsAtSlot, is_numbered, on_disk, slot_is_good}

-- What laws promise of volumes that begin to run.
pub record HaveLifeLaws : Type 0 where
  pub decided : EachImageIsSoundOrNot
  pub opening : EachOpeningRuns
  pub forgets : EachRunningForgets
  pub empty : EachEmptyBegins

-- two tests are one where each passes with the other
same_test : (a b : Bool) → (a ≡ true → b ≡ true) → (b ≡ true → a ≡ true) → a ≡ b
same_test true b f g = sym (f refl)
same_test false true f g = g refl
same_test false false f g = refl

turned : (a b : Bool) → (a && b) ≡ (b && a)
turned true true = refl
turned true false = refl
turned false true = refl
turned false false = refl

-- by whichever state, it lies on these plexes, with the blocks and regions of the image, and is taken as sound
by_lies : (s : VolState) (names : List Word) (i : Image) → (volume_by s names i).lies ≡ OnPlexes names
by_lies vol.Empty names i = refl
by_lies vol.Clean names i = refl
by_lies vol.Active names i = refl
by_lies vol.NeedSync names i = refl
by_lies vol.Sync names i = refl

by_length : (s : VolState) (names : List Word) (i : Image) → (volume_by s names i).length ≡ i.length
by_length vol.Empty names i = refl
by_length vol.Clean names i = refl
by_length vol.Active names i = refl
by_length vol.NeedSync names i = refl
by_length vol.Sync names i = refl

by_region : (s : VolState) (names : List Word) (i : Image) → (volume_by s names i).region ≡ i.region
by_region vol.Empty names i = refl
by_region vol.Clean names i = refl
by_region vol.Active names i = refl
by_region vol.NeedSync names i = refl
by_region vol.Sync names i = refl

by_sound : (s : VolState) (names : List Word) (i : Image) → (volume_by s names i).sound ≡ true
by_sound vol.Empty names i = refl
by_sound vol.Clean names i = refl
by_sound vol.Active names i = refl
by_sound vol.NeedSync names i = refl
by_sound vol.Sync names i = refl

-- The volume of the world that begins: whether its bytes were sound, and that it runs so if they were.
pub record BeginsAs (g : Group) (v : Vol) (image : Image) (Runs : Volume → Type 0) : Type 0 where
  pub sound : Bool
  pub if_sound : IsSoundImage image → sound ≡ true
  pub if_new : is_new v.state ≡ true → sound ≡ true
  pub runs : sound ≡ true → Runs (volume_started g v image sound)

-- the volume v of the group, over the configuration c and the good disks of it, opened out of `old`
module _ {P : Type 0} {ghosts : Ghosts P} (laws : HaveLifeLaws) (g : Group) (v : Vol) (of : IsVolOf g.config v) (may : may_open v.state ≡ true) (numbers : List ℕ) (old new : Public P ghosts) (running : Running P ghosts)
    (form : IsFormOf g.config g.good v (is_fresh v.state) running.form) (started : IsStarted ghosts.seen v numbers old new running) where
  abbrev pub see : P → Seen
  see = ghosts.seen

  abbrev pub names : List Word
  names = plexes_started g v

  abbrev owners : Word → TrackOwner
  owners = owners_of g v.name names

  abbrev pub opened_by : Opening
  opened_by = record { config = g.config; good = g.good; vol = v; fresh = is_fresh v.state }

  same_names : names ≡ opened_plexes opened_by
  same_names = ap (λ b. map (λ (p : Plex). p.name) (held_plexes g.config g.good v.name) ++ map (λ (p : Plex). p.name) (used_logs v.dco g.config g.good b v.name)) (new_is_fresh v.state)

  -- ---- its owners

  module _ (bytes : Sectors) where
    abbrev pub image : Image
    image = image_of g.config g.good bytes v

    owner_fits : (p : PlexImage) → Contains image.plexes p → (owners p.name).available ≡ is_available p
    owner_fits p one =
        let x = of_image g.config g.good bytes v p one in
        let held : is_among x.plex.name (opened_plexes opened_by) ≡ is_held g.config g.good x.plex = same_test _ _ (held_among opened_by x.plex x.there) (among_held opened_by x.plex x.there x.of) in
        ap (λ (q : PlexImage). (owners q.name).available) x.is
        ∙ ap (λ (o : TrackOwner). o.available) (owner_is g v.name names x.plex x.there x.of)
        ∙ ap (λ ns. is_available_state x.plex.state && is_among x.plex.name ns) same_names
        ∙ ap (λ b. is_available_state x.plex.state && b) held
        ∙ turned (is_available_state x.plex.state) (is_held g.config g.good x.plex)
        ∙ ap is_available (sym x.is)

    fit : OwnersFit image.plexes (volume_seen see running.volume) owners
    fit = owners_fit g.config g.good v of running.form.shape form.shape_is (log_seen see (log_of running.volume)) started.regions (volume_seen see running.volume) started.opened bytes owners owner_fits

    -- it runs as this one, nothing is sure of plexes that are written to, and its log is exact
    abbrev pub Runs : Volume → Type 0
    Runs w = RunsAsVolume image.plexes (volume_seen see running.volume) w × IsSureOfOthers image.plexes (volume_seen see running.volume) w × IsExactVolume (volume_seen see running.volume)

    module _ (contents : ℕ → Contents) (hold : All (Holds contents) (still_pieces see old)) (sectors : AreSectorsOf g.good numbers contents bytes) where
      empty_runs : v.state ≡ vol.Empty → Runs (unsure owners (volume_first names image))
      empty_runs e =
          let form_is = subst (λ s. IsFormOf g.config g.good v (is_fresh s) running.form) e form in
          let runs = laws.forgets image.plexes (volume_seen see running.volume) (volume_first names image)
          (fresh_runs g.config g.good v numbers old new running of e form_is started contents hold bytes sectors laws.empty laws.opening names) owners fit in
          (runs.0, runs.1, fresh_exact g.config g.good v numbers old new running of e form_is started contents hold bytes sectors)

      filled_runs : IsFilled v.state → is_fresh v.state ≡ false → IsSoundImage image → Runs (unsure owners (volume_read names image))
      filled_runs filled old_is sound =
          let form_is = subst (λ b. IsFormOf g.config g.good v b running.form) old_is form in
          let runs = laws.forgets image.plexes (volume_seen see running.volume) (volume_read names image)
          (loaded_runs g.config g.good v numbers old new running of filled form_is started contents hold bytes sectors laws.opening sound names) owners fit in
          (runs.0, runs.1, loaded_exact g.config g.good v numbers old new running of filled form_is started contents hold bytes sectors)

      -- the volume that begins by the state that it has
      as_begun : (s : VolState) → v.state ≡ s → (b : Bool) → b ≡ true → Runs (unsure owners (volume_by s names image)) → Runs (volume_started g v image b)
      as_begun s e b is runs =
          subst (λ (x : Bool). Runs (record (volume_begun g v names image) { sound = x })) (by_sound v.state names image ∙ sym is)
          (subst (λ (x : VolState). Runs (unsure owners (volume_by x names image))) (sym e) runs)

      pub begins : BeginsAs g v image Runs
      begins = by v.state refl may
        where
          -- one that was started before is sound by its bytes, or not
          filled : (s : VolState) → v.state ≡ s → IsFilled s → is_fresh s ≡ false → is_new s ≡ false → (Runs (unsure owners (volume_read names image)) → Runs (unsure owners (volume_by s names image))) → BeginsAs g v image Runs
          filled s e has old_is not_new read = decide (laws.decided image)
            where
              decide : IsSoundImage image ⊎ (IsSoundImage image → ⊥) → BeginsAs g v image Runs
              decide (inl sound) = record {
                sound = true;
                if_sound = λ s. refl;
                if_new = λ new. refl;
                runs = λ is. as_begun s e true refl (read (filled_runs (subst (λ (x : VolState). IsFilled x) (sym e) has) (ap is_fresh e ∙ old_is) sound));
              }
              decide (inr not) = record {
                sound = false;
                if_sound = λ s. absurd (not s);
                if_new = λ new. (let no : false ≡ true = sym (ap is_new e ∙ not_new) ∙ new in no);
                runs = λ is. absurd (let no : false ≡ true = is in cc);
              }

          by : (s : VolState) → v.state ≡ s → may_open s ≡ true → BeginsAs g v image Runs
          by vol.Empty e may = record { sound = true; if_sound = λ sound. refl; if_new = λ new. refl; runs = λ is. as_begun vol.Empty e true refl (empty_runs e) }
          by vol.Clean e may = filled vol.Clean e tt refl refl (λ runs. runs)
          by vol.Active e may = absurd (let no : false ≡ true = may in cc)
          by vol.NeedSync e may = filled vol.NeedSync e tt refl refl (λ runs. runs)
          by vol.Sync e may = filled vol.Sync e tt refl refl (λ runs. runs)

  -- ---- recorded as started

  module _ (numbered : AreNumbered numbers g.good g.config.disks) (own : HaveNumbers numbers) (c' : Config) (good' : ℕ) (hs' : List DiskSeen) (members' : List Member)
      (of' : IsVolOf c' (record v { state = vol.Active })) (changes : ChangesStates g.config g.good v (is_fresh v.state) c' good' (record v { state = vol.Active }))
      (at_slot : (slot : ℕ) → has g.good slot ≡ true → IsAtSlot numbers hs' members' slot) where
    abbrev pub v' : Vol
    v' = record v { state = vol.Active }

    pub keeps : KeepsVolume g.config g.good v (is_fresh v.state) c' good' v'
    keeps = restated_kept g.config g.good v (is_fresh v.state) c' good' v' changes

    pub runs0 : RunsIn see c' good' numbers v' running
    runs0 = started_runs g.config g.good v numbers old new running of form started c' good' v' of' tt changes

    abbrev pub placed : RunsInPlace see c' good' numbers v' running
    placed = record {
      runs = record { recorded = of'; filled = tt; opening = opened_by; of = of; form = form; keeps = keeps; whole = started.whole; shape = started.shape; logged = runs0.logged; lies = runs0.lies; cut = runs0.cut };
      places = restated_keep g.config g.good v (is_fresh v.state) c' good' v' changes;
      numbered = numbered;
      were_good = λ place lies now. changes.failed place.disk now;
    }

    opened_slot : (slot : ℕ) → IsSlotOf (good_disks g.good g.config.disks) slot → IsAtSlot numbers hs' members' slot
    opened_slot slot on = at_slot slot (slot_is_good g.good g.config.disks slot on)

    pub in_place : (name : Word) → v.name ≡ name → IsInPlace see hs' c' good' name running
    in_place name named = record {
      of = v';
      named = named;
      started = tt;
      numbers = numbers;
      own = own;
      placed = placed;
      opened = λ slot on. on_disk numbers hs' members' slot (opened_slot slot on);
      numbered = λ place lies good. on_disk numbers hs' members' place.disk (at_slot place.disk (changes.failed place.disk good));
    }

    module _ (sequence : ℕ) (bytes : Sectors) (begun : BeginsAs g v (image_of g.config g.good bytes v) (Runs bytes)) where
      abbrev pub w : Volume
      w = volume_started g v (image_of g.config g.good bytes v) begun.sound

      pub w_lies : w.lies ≡ OnPlexes names
      w_lies = by_lies v.state names (image_of g.config g.good bytes v)

      pub run_of : (name : Word) → v.name ≡ name → IsRunOf see hs' (record { config = c'; good = good'; members = members'; sequence = sequence }) name running w
      run_of name named = record {
        of = v';
        named = named;
        started = tt;
        numbers = numbers;
        own = own;
        placed = placed;
        opened = λ slot on. is_numbered numbers hs' members' slot (opened_slot slot on);
        numbered = λ place lies good. is_numbered numbers hs' members' place.disk (at_slot place.disk (changes.failed place.disk good));
        lies = w_lies ∙ ap OnPlexes same_names;
        length_is = by_length v.state names (image_of g.config g.good bytes v);
        region_is = by_region v.state names (image_of g.config g.good bytes v);
        plexes = (image_of g.config g.good bytes v).plexes;
        plexes_of = λ other. kept_named g.config g.good v (is_fresh v.state) c' good' v' keeps bytes other;
        plexes_then = λ other. kept_named g.config g.good v false g.config g.good v (volume_kept g.config g.good v) other bytes;
        runs_as = λ sound. (begun.runs sound).0;
        sure = λ sound. (begun.runs sound).1;
        exact = λ sound spared. (begun.runs sound).2;
      }
