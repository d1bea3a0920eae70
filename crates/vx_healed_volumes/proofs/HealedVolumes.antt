-- A volume that was opened over its bytes and healed: what it leaves.
use Rattle.std.proofs.Common.{◌≡◌, ◌∙◌, ℕ, Bool, true, false, List, [], ◌∷◌, Result, Ok, refl, sym, ap, subst}
use Rattle.std.specs.Prelude.{nat_lt, length}
use Rattle.std.specs.List.{AllZip}
use Rattle.std.proofs.lemmas.Bool.{false≢true}
use Rattle.vx_base.specs.Blocks.{Contents}
use Rattle.vx_base.specs.Named.{Word}
use Rattle.vx_pages.specs.declared.local_piece.LocalPiece.{Ghosts}
use Rattle.vx_config_parts.specs.declared.plex.Plex.{Plex}
use Rattle.vx_config_parts.specs.declared.state.VolState.{VolState}
use Rattle.vx_config_parts.specs.declared.state.VolState.TheVariants as vol
use Rattle.vx_config_parts.specs.declared.vol.Vol.{Vol}
use Rattle.vx_objects.specs.declared.config.Config.{Config}
use Rattle.vx_image.specs.Bytes.{Sectors, image_of}
use Rattle.vx_image.specs.Image.{IsFilled, PlexImage, WasStarted}
use Rattle.vx_image.specs.Meaning.{ReadsOneList, candidates_read}
use Rattle.vx_image.specs.Soundness.{IsSoundImage}
use Rattle.vx_image.specs.UsedPlexes.{IsVolOf}
use Rattle.vx_lending.specs.Form.{IsFormOf}
use Rattle.vx_lending.specs.Logs.{log_copies}
use Rattle.vx_lending.specs.declared.form.VolumeForm.{VolumeForm}
use Rattle.vx_lending.specs.declared.public.Public.{Public}
use Rattle.vx_lending.specs.declared.public.Running.{Running}
use Rattle.vx_moments.specs.Tracks.{TrackOwner, unsure, volume_failed}
use Rattle.vx_moments.specs.Volumes.{StandsForVolume, volume_read}
use Rattle.vx_moments.specs.World.{Volume}
use Rattle.vx_volume.specs.declared.fault.IoFault.{IoFault}
use Rattle.vx_volume.specs.Volume.{log_of, volume_seen}
use Rattle.vx_volume_laws.specs.Keeping.{ChangesStates, IsRestated}
use Rattle.vx_volume_laws.specs.Lying.{LiesIn}
use Rattle.vx_volume_laws.specs.Leaving.{AreNamedIn, AreSettled, EachLeavingStands, EachRunningForgets, EachStopStands, IsLeftBy}
use Rattle.vx_volume_laws.specs.RunLaws.{FailuresAreTold, OwnersFit}
use Rattle.vx_volume_laws.specs.Running.{IsSureOfOthers, RunsAsVolume}
use Rattle.vx_volume_laws.specs.Starting.{EachOpeningRuns}
use Rattle.vx_volume_laws.proofs.Configurations.{active_used, kept_named, volume_kept}
use Rattle.vx_volume_laws.proofs.Leavings.{volume_leaves}
use Rattle.vx_group_start.specs.Fresh.{is_fresh}
use Rattle.vx_group_start.specs.Started.{IsStarted}
use Rattle.vx_group_volumes.specs.Runs.{RunsIn}
use Rattle.vx_group_volumes.proofs.Leavings.{leaving_stands}
use Rattle.vx_group_volumes.proofs.Starts.{loaded_runs, started_runs}
use Rattle.vx_group_recover.specs.Laws.{EachHealingHeals}
use Rattle.vx_group_recover.specs.declared.healing.Healed.{Healed}
use Rattle.vx_recovery.specs.Recovering.{is_recovered}
use Rattle.vx_healed_volumes.specs.Healed.{AreSectorsAround, IsHealedBy}
use Rattle.vx_healed_volumes.specs.Laws.{EachHealedVolumeReadsOneList, EachHealedVolumeStands, EachHealingRunsOn}
use Rattle.vx_healed_volumes.proofs.HealingReasons.{healing_goes_on}

-- ---- a state in which a volume is recovered

pub was_filled : (s : VolState) → is_recovered s ≡ true → IsFilled s
was_filled vol.Empty is = absurd (false≢true is)
was_filled vol.Clean is = tt
was_filled vol.Active is = tt
was_filled vol.NeedSync is = tt
was_filled vol.Sync is = tt

was_started : (s : VolState) → is_recovered s ≡ true → WasStarted s
was_started vol.Empty is = absurd (false≢true is)
was_started vol.Clean is = absurd (false≢true is)
was_started vol.Active is = tt
was_started vol.NeedSync is = tt
was_started vol.Sync is = tt

pub not_fresh : (s : VolState) → is_recovered s ≡ true → is_fresh s ≡ false
not_fresh vol.Empty is = absurd (false≢true is)
not_fresh vol.Clean is = refl
not_fresh vol.Active is = refl
not_fresh vol.NeedSync is = refl
not_fresh vol.Sync is = refl

-- ---- by its own configuration it runs

plexes_stay : (of : Word) (ps : List Plex) → AllZip (IsRestated of false) ps ps
plexes_stay of [] = tt
plexes_stay of (p ∷ ps) = (record { same = refl; available = λ own. refl; active = λ own. active_used p.state }, plexes_stay of ps)

-- no state has changed
states_stay : (c : Config) (good : ℕ) (v : Vol) → ChangesStates c good v false c good v
states_stay c good v = record { vol = refl; disks = refl; subdisks = refl; snaps = refl; plexes = plexes_stay v.name c.plexes; failed = λ slot is. is }

module _ {P : Type 0} {ghosts : Ghosts P} (c : Config) (good : ℕ) (v : Vol) (numbers : List ℕ) (old new : Public P ghosts) (running : Running P ghosts) (of : IsVolOf c v) (state : is_recovered v.state ≡ true)
    (form : IsFormOf c good v false running.form) (started : IsStarted ghosts.seen v numbers old new running) where
  pub opened_runs : RunsIn ghosts.seen c good numbers v running
  opened_runs =
      let fresh = sym (not_fresh v.state state) in
      started_runs c good v numbers old new running of (subst (λ (b : Bool). IsFormOf c good v b running.form) fresh form) started c good v of (was_filled v.state state)
      (subst (λ (b : Bool). ChangesStates c good v b c good v) fresh (states_stay c good v))

-- ---- once it is healed

module _ {P : Type 0} {ghosts : Ghosts P} (c : Config) (good : ℕ) (v : Vol) (numbers : List ℕ) (old new : Public P ghosts) (running after : Running P ghosts) (result : Result Healed IoFault)
    (is : IsHealedBy ghosts.seen c good v numbers old new running after result) where
  pub healed_runs : RunsIn ghosts.seen c good numbers v after
  healed_runs =
      let was = opened_runs c good v numbers old new running is.of is.state is.form is.started in
      let goes = healing_goes_on running.volume after.volume result is.heals is.follows in
      let o = was.opening in
      let same = sym is.form_is in
      record {
        recorded = was.recorded;
        filled = was.filled;
        opening = o;
        of = was.of;
        form = subst (λ (form : VolumeForm). IsFormOf o.config o.good o.vol o.fresh form) same was.form;
        keeps = was.keeps;
        whole = is.whole;
        shape = is.shape ∙ was.shape ∙ ap (λ (form : VolumeForm). form.shape) same;
        logged = ap (λ (form : VolumeForm). nat_lt 0 (length form.logs.items)) is.form_is ∙ was.logged;
        lies = goes.lies numbers after.form (subst (λ (form : VolumeForm). LiesIn ghosts.seen numbers form running.volume) same was.lies);
        cut = goes.cut was.cut;
      }

  module _ (opening : EachOpeningRuns) (forgets : EachRunningForgets) (healing : EachHealingRunsOn) (before behind : Sectors) (around : AreSectorsAround ghosts.seen good numbers old after before behind)
      (sound : IsSoundImage (image_of c good before v)) (owners : Word → TrackOwner) (failed : Word → Bool) (fit : OwnersFit (image_of c good before v).plexes (volume_seen ghosts.seen running.volume) owners)
      (told : FailuresAreTold (image_of c good before v).plexes owners failed (volume_seen ghosts.seen running.volume) (volume_seen ghosts.seen after.volume)) (plexes : List Word) where
    abbrev pub images : List PlexImage
    images = (image_of c good before v).plexes

    -- the volume of the world as it was opened, and as it is healed
    abbrev pub begun : Volume
    begun = unsure owners (volume_read plexes (image_of c good before v))

    abbrev pub later : Volume
    later = volume_failed owners failed begun

    forgot : RunsAsVolume images (volume_seen ghosts.seen running.volume) begun × IsSureOfOthers images (volume_seen ghosts.seen running.volume) begun
    forgot =
        forgets images (volume_seen ghosts.seen running.volume) (volume_read plexes (image_of c good before v))
        (loaded_runs c good v numbers old new running is.of (was_filled v.state is.state) is.form is.started around.contents around.held before around.were opening sound plexes)
        owners fit

    pub on : RunsAsVolume images (volume_seen ghosts.seen after.volume) later × (IsSureOfOthers images (volume_seen ghosts.seen running.volume) begun → IsSureOfOthers images (volume_seen ghosts.seen after.volume) later)
    on = healing (volume_seen ghosts.seen running.volume) (volume_seen ghosts.seen after.volume) result is.heals is.started.whole is.whole images begun forgot.0 owners failed fit told

    named : AreNamedIn (image_of c good behind v).plexes images
    named = kept_named c good v false c good v (volume_kept c good v) before behind

    stands : EachLeavingStands → StandsForVolume (image_of c good behind v) later
    stands law = leaving_stands ghosts.seen after c good numbers v healed_runs law (was_started v.state is.state) images later on.0 (on.1 forgot.1) around.contents' around.held' behind around.are named

    pub left : IsLeftBy images (volume_seen ghosts.seen after.volume) later on.0 (image_of c good behind v)
    left =
        let runs = healed_runs in
        volume_leaves runs.opening.config runs.opening.good runs.opening.vol runs.opening.fresh after.form runs.of runs.form numbers (volume_seen ghosts.seen after.volume)
        (log_copies ghosts.seen (log_of after.volume)) runs.whole runs.lies.lies around.contents' around.held' c good v runs.keeps runs.filled behind around.are images later on.0 named

    list : EachStopStands → AreSettled (volume_seen ghosts.seen after.volume) → (list : Contents) × ReadsOneList (image_of c good behind v) (candidates_read (image_of c good before v)) list
    list law settled =
        let r = law images (volume_seen ghosts.seen after.volume) later is.whole on.0 (on.1 forgot.1) settled (image_of c good behind v) left in
        (r.1, r.2)

pub healed_stands : {P : Type 0} {ghosts : Ghosts P} (old new : Public P ghosts) (running after : Running P ghosts) → EachOpeningRuns → EachRunningForgets → EachHealingRunsOn → EachLeavingStands →
    EachHealedVolumeStands ghosts.seen old new running after
healed_stands old new running after opening forgets healing law c good v numbers result is before behind around sound owners failed fit told plexes =
    stands c good v numbers old new running after result is opening forgets healing before behind around sound owners failed fit told plexes law

pub healed_list : {P : Type 0} {ghosts : Ghosts P} (old new : Public P ghosts) (running after : Running P ghosts) → EachOpeningRuns → EachRunningForgets → EachHealingRunsOn → EachStopStands → EachHealingHeals →
    EachHealedVolumeReadsOneList ghosts.seen old new running after
healed_list {ghosts = ghosts} old new running after opening forgets healing law heals c good v numbers healed is before behind around sound owners failed fit told =
    list c good v numbers old new running after (Ok healed) is opening forgets healing before behind around sound owners failed fit told [] law
    (heals (volume_seen ghosts.seen running.volume) (volume_seen ghosts.seen after.volume) healed is.heals).1.settled
