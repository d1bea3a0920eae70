-- A recovery of volumes keeps volumes sound: as its beginning is recorded a volume is as sound as it was, its bytes are healed, and it runs over them.
use Rattle.std.proofs.Common.{◌≡◌, ◌≢◌, ◌∙◌, ℕ, Bool, true, false, List, [], ◌∷◌, ◌++◌, Option, Some, None, append-nil, refl, sym, ap, subst, inl, inr}
use Rattle.std.specs.Prelude.{if◌then◌else◌}
use Rattle.std.specs.List.{AllZip}
use Rattle.std.specs.Str.{bytes_eq}
use Rattle.vx_base.specs.Named.{Word}
use Rattle.vx_base.proofs.NamedLemmas.{bytes_eq_self}
use Rattle.vx_mask.specs.Mask.{has}
use Rattle.vx_mask.proofs.Tests.{not_both, or_cases, true_or_false}
use Rattle.vx_config_parts.specs.declared.object.Object.TheVariants.{VolRecord}
use Rattle.vx_config_parts.specs.declared.plex.Plex.{Plex}
use Rattle.vx_config_parts.specs.declared.state.PlexState.{PlexState}
use Rattle.vx_config_parts.specs.declared.state.VolState.{VolState}
use Rattle.vx_config_parts.specs.declared.state.VolState.TheVariants as vol
use Rattle.vx_config_parts.specs.declared.vol.Vol.{Vol}
use Rattle.vx_config_parts.specs.Objects.{refers}
use Rattle.vx_objects.specs.declared.config.Config.{Config}
use Rattle.vx_objects.specs.declared.edit.Edit.{Edit}
use Rattle.vx_objects.specs.Applied.{IsEdited}
use Rattle.vx_objects.specs.Config.{objects_of}
use Rattle.vx_image.proofs.PlexMembers.{IsIn, from_map}
use Rattle.vx_image.specs.Bytes.{Sectors, image_of, is_active}
use Rattle.vx_image.specs.Image.{Image, is_available_state}
use Rattle.vx_image.specs.Soundness.{IsSoundImage, MayDiffer}
use Rattle.vx_image.proofs.Members.{contains, is_in}
use Rattle.vx_state_edits.specs.Edits.{is_new, recovered, recovered_edits, recovery_edits}
use Rattle.vx_state_edits.specs.Laws.{EachRecoveryRestates, IsPlexAfter, Restates, in_state}
use Rattle.vx_answers.specs.declared.answer.End.{End}
use Rattle.vx_answers.specs.declared.answer.View.{View}
use Rattle.vx_moments.specs.Commit.{IsCommitted, Writing, is_slot_of, parties}
use Rattle.vx_moments.specs.Group.{image_on, sectors_of}
use Rattle.vx_moments.specs.Leaving.{grouped}
use Rattle.vx_moments.specs.Moment.{Moment}
use Rattle.vx_moments.specs.World.{Group, Volume, World}
use Rattle.vx_volume_laws.specs.Keeping.{ChangesStates, IsRestated}
use Rattle.vx_volume_laws.proofs.Configurations.{active_used}
use Rattle.vx_volume_laws.proofs.Restated.{restated_kept}
use Rattle.vx_stages.specs.Ends.{IsChange}
use Rattle.vx_stages.specs.Starting.{StartStops, StartWants, StopsUnopened, plexes_started, volume_started}
use Rattle.vx_recovery.specs.Going.{Recovers, RecoversShort}
use Rattle.vx_recovery.specs.Healing.{IsHealing}
use Rattle.vx_recovery.specs.Recovering.{EndWants, HealingWants, IsOf, IsRecovered, IsRecoveryBegun, IsRecoveryEnded, IsRefusedBegun, IsReopened, RecoveryStops, RecoveryWants, StopsAtEnd, StopsBegun, StopsHealed, StopsHealing, is_recovered}
use Rattle.vx_plans.proofs.Recoveries.{AreCarried, IsEndedBy, recovers_on, recovers_short_on}
use Rattle.vx_group_edits.specs.Stays.{EachStays}
use Rattle.vx_group_edits.proofs.ByKind.{records_vol}
use Rattle.vx_group_edits.proofs.Lists.{among}
use Rattle.vx_group_edits.proofs.Restated.{restated_untouched}
use Rattle.vx_group_edits.proofs.Untouched.{stays}
use Rattle.vx_sound_volumes.proofs.Changes.{change_kept, change_stops}
use Rattle.vx_sound_volumes.proofs.Commits.{member_public, one_vol}
use Rattle.vx_sound_volumes.proofs.Images.{restated_sound}
use Rattle.vx_sound_volumes.proofs.Named.{restated_back}
use Rattle.vx_sound_volumes.proofs.Parts.{Besides, Every, Keeps, put_run, sectors_same, some_same}
use Rattle.vx_sound_volumes.proofs.Running.{fewer_names, found_there, lies_so, narrowed_kept, one_more, own_kept, start_ends, start_wants, started_next}
use Rattle.vx_sound_volumes.proofs.Stages.{StateLaws}

-- ---- other states of a volume are recorded

pub zip_all : {A B : Type 0} (R S : A → B → Type 0) → ((a : A) (b : B) → R a b → S a b) → (xs : List A) (ys : List B) → AllZip R xs ys → AllZip S xs ys
zip_all R S each [] [] all = tt
zip_all R S each [] (y ∷ ys) all = absurd all
zip_all R S each (x ∷ xs) [] all = absurd all
zip_all R S each (x ∷ xs) (y ∷ ys) all = (each x y all.0, zip_all R S each xs ys all.1)

pub restated_keeps : (c c' : Config) (u : Vol) (next : VolState) (after : Plex → PlexState) → Restates u.name next after c c' → EachStays (λ v. v.name ≢ u.name) c c'
restated_keeps c c' u next after r v of other good good' fewer = stays c v c' good good' fewer (restated_untouched c v of u.name other next after c' r)

module _ (c c' : Config) (v : Vol) (there : IsIn c.volumes v) (next : VolState) (after : Plex → PlexState) (r : Restates v.name next after c c') where
  -- the volume of the name is the same but for its state
  pub own_now : (w : Vol) → IsIn c'.volumes w → w.name ≡ v.name → w ≡ record v { state = next }
  own_now w one named =
      let u = from_map (in_state v.name next) c.volumes w (subst (λ vs. IsIn vs w) r.volumes one) in
      let same : u.0 ≡ v = one_vol c u.0 v u.1 there (sym (by u.0 (bytes_eq u.0.name v.name)) ∙ ap (λ (y : Vol). y.name) (sym u.2) ∙ named) in
      u.2 ∙ ap (in_state v.name next) same ∙ ap (λ (b : Bool). if b then record v { state = next } else v) (bytes_eq_self v.name)
    where
      by : (y : Vol) (b : Bool) → (if b then record y { state = next } else y).name ≡ y.name
      by y true = refl
      by y false = refl

  -- where its plexes keep their states, and it may differ as it might, it is as sound
  module _ (plexes_stay : (p : Plex) → after p ≡ p.state) (differs : (i : Image) (B : ℕ → Bool) → MayDiffer v.state i B → MayDiffer next i B) (good good' : ℕ) (fewer : (slot : ℕ) → has good' slot ≡ true → has good slot ≡ true) where
    restated : (p q : Plex) → IsPlexAfter v.name after p q → IsRestated v.name false p q
    restated p q one =
        let state : q.state ≡ p.state = elim (true_or_false (refers p.vol v.name)) [ inl own ↦ one.own own ∙ plexes_stay p | inr other ↦ one.other other ] in
        record { same = one.same; available = λ kind. ap is_available_state state; active = λ log. ap is_active state ∙ active_used p.state }

    pub changes : ChangesStates c good v false c' good' (record v { state = next })
    changes = record {
      vol = refl;
      disks = r.disks;
      subdisks = r.subdisks;
      snaps = r.snaps;
      plexes = zip_all (IsPlexAfter v.name after) (IsRestated v.name false) restated c.plexes c'.plexes r.plexes;
      failed = fewer;
    }

    pub own_sound : (bytes : Sectors) → IsSoundImage (image_of c good bytes v) → IsSoundImage (image_of c' good' bytes (record v { state = next }))
    own_sound bytes sound =
        let u : Vol = record v { state = next } in
        restated_sound c good v c' good' u (restated_kept c good v false c' good' u changes) bytes (differs (image_of c' good' bytes u)) sound

module _ (place : ℕ) (edits : List Edit) (x : Writing) (old : Moment) (is : IsChange edits old.world x) (new : Moment) (c : IsCommitted x old new) (v : Vol) (there : IsIn x.group.config.volumes v) (next : VolState) (after : Plex → PlexState) (r : Restates v.name next after x.group.config x.config) where
  -- the others are kept
  pub others_kept : Keeps place (Besides v.name) old.world → Keeps place (Besides v.name) new.world
  others_kept k =
      change_kept place (Besides v.name) edits x old is k (λ u. u.name ≢ v.name) new c (restated_keeps x.group.config x.config v next after r)
      (λ u one other started. restated_back x.group.config x.config u v.name next after r other one)

  -- the volume of the name, as it is recorded now
  pub recorded_now : (g : Group) (w : Vol) → new.world.group ≡ Some g → IsIn g.config.volumes w → w.name ≡ v.name → w ≡ record v { state = next }
  recorded_now g w here one named =
      let now : Group = record { config = x.config; good = c.good; members = parties x; sequence = c.last } in
      own_now x.group.config x.config v there next after r w (subst (λ (h : Group). IsIn h.config.volumes w) (sym (some_same now g (sym c.group ∙ here))) one) named

  module _ (plexes_stay : (p : Plex) → after p ≡ p.state) (differs : (i : Image) (B : ℕ → Bool) → MayDiffer v.state i B → MayDiffer next i B) where
    fewer : (slot : ℕ) → has c.good slot ≡ true → has x.group.good slot ≡ true
    fewer slot good = elim (or_cases (has x.group.good slot) (is_slot_of x.joiners slot) (c.mask.few slot good)) [
      | inl was ↦ was
      | inr joins ↦ absurd (not_both joins (ap (λ js. is_slot_of js slot) is.joiners))
    ]

    bytes_are : sectors_of new.world.devices (parties x) ≡ sectors_of old.world.devices x.group.members
    bytes_are =
        ap (λ ms. sectors_of new.world.devices ms) (ap (λ js. x.group.members ++ js) is.joiners ∙ append-nil x.group.members)
        ∙ (λ i slot k. sectors_same old.world.devices new.world.devices x.group.members (λ m one n. member_public x c.last old new c.committing m one n) slot k i)

    now_sound : IsSoundImage (image_on old.world.devices x.group v) → IsSoundImage (image_of x.config c.good (sectors_of new.world.devices (parties x)) (record v { state = next }))
    now_sound sound =
        subst (λ (b : Sectors). IsSoundImage (image_of x.config c.good b (record v { state = next }))) (sym bytes_are)
        (own_sound x.group.config x.config v there next after r plexes_stay differs x.group.good c.good fewer (sectors_of old.world.devices x.group.members) sound)

    pub all_kept : is_new v.state ≡ false → old.world.volumes v.name ≡ None → Keeps place Every old.world → Keeps place Every new.world
    all_kept started idle k =
        one_more place new.world v.name
        (λ g here w one named began free.
        let now : Group = record { config = x.config; good = c.good; members = parties x; sequence = c.last } in
        let same : now ≡ g = some_same now g (sym c.group ∙ here) in
        let at : w ≡ record v { state = next } = recorded_now g w here (is_in g.config.volumes w one) named in
        subst (λ (h : Group). IsSoundImage (image_on new.world.devices h w)) same
        (subst (λ (y : Vol). IsSoundImage (image_on new.world.devices now y)) (sym at)
        (now_sound (k.stopped x.group is.group v (contains x.group.config.volumes v there) tt started (ap grouped idle)))))
        (others_kept (fewer_names place old.world v.name k))

-- ---- one volume

-- a volume that is recovered was started before
pub recovered_before : (s : VolState) → is_recovered s ≡ true → is_new s ≡ false
recovered_before vol.Empty e = cc
recovered_before vol.Clean e = refl
recovered_before vol.Active e = refl
recovered_before vol.NeedSync e = refl
recovered_before vol.Sync e = refl

-- and may differ as one whose recovery is begun
pub differs_so : (s : VolState) → is_recovered s ≡ true → (i : Image) (B : ℕ → Bool) → MayDiffer s i B → MayDiffer vol.Sync i B
differs_so vol.Empty e i B may = cc
differs_so vol.Clean e i B may = cc
differs_so vol.Active e i B may = may
differs_so vol.NeedSync e i B may = may
differs_so vol.Sync e i B may = may

-- what is recorded as a recovery begins
module _ (restates : EachRecoveryRestates) (name : Word) (w : World) (x : Writing) (g : Group) (v : Vol) (was : IsOf name w g v) (change : IsChange (recovery_edits g.config v) w x) where
  pub begin_own : g ≡ x.group
  begin_own = some_same g x.group (sym was.group ∙ change.group)

  pub begin_there : IsIn x.group.config.volumes v
  begin_there = subst (λ (h : Group). IsIn h.config.volumes v) begin_own (found_there name g.config.volumes v was.volume).0

  pub begin_restates : Restates v.name vol.Sync (λ p. p.state) x.group.config x.config
  begin_restates =
      restates x.group.config v (among (objects_of x.group.config) (VolRecord v) (records_vol x.group.config v begin_there)) x.config
      (subst (λ (h : Group). IsEdited (recovery_edits h.config v) x.group.config x.config) begin_own change.edited)

module _ (laws : StateLaws) (place : ℕ) where
  module _ (name : Word) (old : Moment) (g : Group) (v : Vol) (new : Moment) (b : IsRecoveryBegun name old g v new) where
    begun_there : IsIn b.writing.group.config.volumes b.of
    begun_there = begin_there laws.recovery_restates name old.world b.writing b.group b.of b.was b.change

    begun_restates : Restates b.of.name vol.Sync (λ p. p.state) b.writing.group.config b.writing.config
    begun_restates = begin_restates laws.recovery_restates name old.world b.writing b.group b.of b.was b.change

    begun_name : b.of.name ≡ name
    begun_name = (found_there name b.group.config.volumes b.of b.was.volume).1

    -- its recovery is recorded as begun
    pub begun_kept : Keeps place Every old.world → Keeps place Every new.world
    begun_kept k =
        all_kept place (recovery_edits b.group.config b.of) b.writing old b.change new b.committed b.of begun_there vol.Sync (λ p. p.state) begun_restates (λ p. refl) (differs_so b.of.state b.state)
        (recovered_before b.of.state b.state) (ap old.world.volumes begun_name ∙ b.free) k

    -- it is the volume that it was, in its state
    pub begun_is : v ≡ record b.of { state = vol.Sync }
    begun_is =
        let found = found_there name g.config.volumes v b.is.volume in
        recorded_now place (recovery_edits b.group.config b.of) b.writing old b.change new b.committed b.of begun_there vol.Sync (λ p. p.state) begun_restates g v b.is.group found.0 (found.1 ∙ sym begun_name)

    pub begun_before : is_new v.state ≡ false
    begun_before = ap (λ (u : Vol). is_new u.state) begun_is

    -- and does not run
    pub begun_free : new.world.volumes v.name ≡ None
    begun_free = ap (λ (f : Word → Option Volume). f v.name) b.committed.committing.volumes ∙ ap old.world.volumes (found_there name g.config.volumes v b.is.volume).1 ∙ b.free

  -- this volume of the group
  module _ (name : Word) (old : Moment) (k : Keeps place Every old.world) (g : Group) (v : Vol) (of : IsOf name old.world g v) where
    there : IsIn g.config.volumes v
    there = (found_there name g.config.volumes v of.volume).0

    -- it is healed so far
    pub healing_kept : (new : Moment) → IsHealing g v old new → Keeps place Every new.world
    healing_kept new h = own_kept place old k g v new of.group there h.touched (λ started sound. (h.stands sound).sound)

    pub healing_of : (new : Moment) → IsHealing g v old new → IsOf name new.world g v
    healing_of new h = record { group = ap (λ (w : World). w.group) h.touched.world ∙ of.group; volume = of.volume }

    -- it is opened, or cannot be
    pub opened_kept : (new : Moment) → IsReopened g v old new → Keeps place Every new.world
    opened_kept new o = narrowed_kept place old k g v new of.group there o.touched o.narrows

    unopened_kept : (end : End) (new : Moment) → StopsUnopened g v old end new → Keeps place Every new.world
    unopened_kept end new u = narrowed_kept place old k g v new of.group there u.touched u.narrows

    opened_group : (new : Moment) → IsReopened g v old new → new.world.group ≡ Some g
    opened_group new o = ap (λ (w : World). w.group) o.touched.world ∙ of.group

    begins_sound : (marks : ℕ) (new : Moment) (e : IsRecoveryEnded g v marks old new) → e.runs.sound ≡ true
    begins_sound marks new e = elim (true_or_false (is_new v.state)) [
      | inl fresh ↦ e.runs.if_new fresh
      | inr before ↦ e.runs.if_sound (k.stopped g of.group v (contains g.config.volumes v there) tt before (ap grouped e.free))
    ]

    -- its end is recorded, and it runs
    pub ended_kept : (marks : ℕ) (new : Moment) → IsRecoveryEnded g v marks old new → Keeps place Every new.world
    ended_kept marks new e =
        let x = e.writing in
        let own : g ≡ x.group = some_same g x.group (sym (opened_group e.opened e.opens) ∙ e.change.group) in
        let mine : IsIn x.group.config.volumes v = subst (λ (h : Group). IsIn h.config.volumes v) own there in
        let edited : IsEdited (recovered_edits x.group.config v marks) x.group.config x.config = subst (λ (h : Group). IsEdited (recovered_edits h.config v marks) x.group.config x.config) own e.change.edited in
        let r : Restates v.name vol.Active (recovered marks) x.group.config x.config =
        laws.recovered_restates x.group.config v marks (among (objects_of x.group.config) (VolRecord v) (records_vol x.group.config v mine)) x.config edited in
        let recorded = others_kept place (recovered_edits g.config v marks) x e.opened e.change e.recorded e.committed v mine vol.Active (recovered marks) r (fewer_names place e.opened.world v.name (opened_kept e.opened e.opens)) in
        let image = image_on old.world.devices g v in
        subst (Keeps place Every) (sym e.runs.world)
        (put_run place e.recorded.world v.name (volume_started g v image e.runs.sound) (plexes_started g v) (lies_so v.state (plexes_started g v) image) (begins_sound marks new e) (started_next place g v image e.runs.sound) recorded)

    unended_kept : (marks : ℕ) (end : End) (new : Moment) → StopsAtEnd g v marks old end new → Keeps place Every new.world
    unended_kept marks end new e = change_stops place Every (recovered_edits g.config v marks) e.stops.0 e.opened e.stops.1 (opened_kept e.opened e.opens) end new e.stops.2

    -- ---- want of memory

    healing_left : (new : Moment) → HealingWants g v old new → Keeps place Every new.world
    healing_left new (inl same) = subst (Keeps place Every) (sym same) k
    healing_left new (inr (inl opened)) = narrowed_kept place old k g v new of.group there opened.0 opened.1
    healing_left new (inr (inr h)) = healing_kept new h

    end_left : (new : Moment) → EndWants g v old new → Keeps place Every new.world
    end_left new (inl same) = subst (Keeps place Every) (sym same) k
    end_left new (inr opened) = narrowed_kept place old k g v new of.group there opened.0 opened.1

  pub recovered_kept : (name : Word) (dirty copied : ℕ) (old mid : Moment) → Keeps place Every old.world → IsRecovered name dirty copied old mid → Keeps place Every mid.world
  recovered_kept name dirty copied old mid k r =
      let begun = begun_kept name old r.group r.of r.begun r.begins k in
      let h = r.heals.healing in
      ended_kept name r.healed (healing_kept name r.begun begun r.group r.of r.begins.is r.healed h) r.group r.of (healing_of name r.begun begun r.group r.of r.begins.is r.healed h) r.marks mid r.ends

  module _ (name : Word) (old : Moment) (end : End) (new : Moment) (k : Keeps place Every old.world) where
    stops_begun : (How : Group → Vol → Moment → End → Moment → Type 0) → ((g : Group) (v : Vol) (m : Moment) → Keeps place Every m.world → IsOf name m.world g v → How g v m end new → Keeps place Every new.world) → StopsBegun name How old end new → Keeps place Every new.world
    stops_begun How goes b = goes b.group b.of b.begun (begun_kept name old b.group b.of b.begun b.begins k) b.begins.is b.ends

    healed_ends : (g : Group) (v : Vol) (m : Moment) → Keeps place Every m.world → IsOf name m.world g v → StopsHealed g v m end new → Keeps place Every new.world
    healed_ends g v m j of h =
        let healed = healing_kept name m j g v of h.healed h.heals.healing in
        let still = healing_of name m j g v of h.healed h.heals.healing in
        elim h.ends [
          | inl u ↦ unopened_kept name h.healed healed g v still end new u
          | inr e ↦ unended_kept name h.healed healed g v still h.marks end new e
        ]

    recovery_ends : RecoveryStops name old end new → Keeps place Every new.world
    recovery_ends (inl b) = change_stops place Every (recovery_edits b.group.config b.of) b.stops.0 old b.stops.1 k end new b.stops.2
    recovery_ends (inr (inl b)) = stops_begun IsRefusedBegun (λ g v m j of h. subst (Keeps place Every) (sym h.2.1.stays.world) j) b
    recovery_ends (inr (inr (inl b))) = stops_begun StopsUnopened (λ g v m j of h. unopened_kept name m j g v of end new h) b
    recovery_ends (inr (inr (inr (inl b)))) = stops_begun StopsHealing (λ g v m j of h. healing_kept name m j g v of new h.0) b
    recovery_ends (inr (inr (inr (inr b)))) = stops_begun StopsHealed healed_ends b

  recovery_left : (name : Word) (old new : Moment) → Keeps place Every old.world → RecoveryWants name old new → Keeps place Every new.world
  recovery_left name old new k (inl same) = subst (Keeps place Every) (sym same) k
  recovery_left name old new k (inr (g, v, begun, b, inl wants)) = healing_left name begun (begun_kept name old g v begun b k) g v b.is new wants
  recovery_left name old new k (inr (g, v, begun, b, inr (healed, h, wants))) =
      let j = begun_kept name old g v begun b k in
      end_left name healed (healing_kept name begun j g v b.is healed h) g v (healing_of name begun j g v b.is healed h) new wants

  start_left : (name : Word) (old new : Moment) → Keeps place Every old.world → StartWants name old new → Keeps place Every new.world
  start_left name old new k (inl same) = subst (Keeps place Every) (sym same) k
  start_left name old new k (inr (g, v, here, found, may, touched, narrows)) = start_wants place old new name g v here found touched narrows k

  -- ---- the volumes

  abbrev Holds : Moment → Type 0
  Holds m = Keeps place Every m.world

  pub starts : (name : Word) (old : Moment) (end : End) (new : Moment) → Holds old → StartStops name old end new → Holds new
  starts name old end new k stops = start_ends laws.start_restates laws.start_keeps place old end new k name stops

  carried : AreCarried Holds
  carried = record {
    clean = λ name old began mid k need later stops over. starts name old began mid k stops;
    healed = λ name dirty copied old mid k need later r. recovered_kept name dirty copied old mid k r;
  }

  ended : IsEndedBy Holds (λ end m. Holds m)
  ended = record {
    over = λ m k. k;
    refused = λ r old end new k is. subst (Keeps place Every) (sym is.1.stays.world) k;
    clean = λ name old end new k need later stops over. starts name old end new k stops;
    healed = λ name old end new k need later stops. recovery_ends name old end new k stops;
  }

  pub recover_kept : (dg vol : Option Word) (old : Moment) (views : List View) (end : End) (new : Moment) → Keeps place Every old.world → Recovers dg vol old views end new → Keeps place Every new.world
  recover_kept dg vol old views end new k does = recovers_on Holds (λ e m. Holds m) carried ended dg vol old views end new k does

  pub recover_left : (vol : Option Word) (old new : Moment) → Keeps place Every old.world → RecoversShort vol old new → Keeps place Every new.world
  recover_left vol old new k short =
      recovers_short_on Holds Holds carried
      (record { clean = λ name old new k need wants. start_left name old new k wants; healed = λ name old new k need wants. recovery_left name old new k wants })
      vol old new k (λ same. subst (Keeps place Every) (sym same) k) short
