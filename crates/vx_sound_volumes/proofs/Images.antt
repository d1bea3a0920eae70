-- A volume that another configuration keeps is as sound, by the same bytes.
use Rattle.std.proofs.Common.{◌≡◌, ◌∙◌, inl, inr, ℕ, suc, ◌/◌, ◌<◌, Bool, true, false, ◌&&◌, not, Option, Some, None, List, [], ◌∷◌, length, refl, sym, ap, subst}
use Rattle.std.specs.Prelude.{Contains}
use Rattle.std.specs.List.{AllZip, filter}
use Rattle.std.proofs.lemmas.Bool.{and_parts, and_from, false≢true}
use Rattle.std.proofs.lemmas.List.{length-map}
use Rattle.vx_base.specs.Blocks.{Contents}
use Rattle.vx_base.specs.Named.{Word}
use Rattle.vx_block.specs.Regions.{region_count}
use Rattle.vx_layout.specs.declared.strip.Strip.{Strip}
use Rattle.vx_layout.specs.Columns.{place_of}
use Rattle.vx_mapfmt.specs.Bits.{is_headed, marks}
use Rattle.vx_config_parts.specs.declared.plex.Plex.{Plex}
use Rattle.vx_config_parts.specs.declared.state.PlexState.{PlexState}
use Rattle.vx_config_parts.specs.declared.state.PlexState.TheVariants as plex
use Rattle.vx_config_parts.specs.declared.state.VolState.{VolState}
use Rattle.vx_config_parts.specs.declared.state.VolState.TheVariants as vol
use Rattle.vx_config_parts.specs.declared.vol.Vol.{Vol}
use Rattle.vx_config_parts.specs.Objects.{is_log_plex_of}
use Rattle.vx_objects.specs.declared.config.Config.{Config}
use Rattle.vx_image.specs.Lies.{columns_of}
use Rattle.vx_image.proofs.PlexMembers.{IsIn, from_map, in_map}
use Rattle.vx_image.specs.Bytes.{Sectors, bytes_at, image_of, is_active, is_held, is_log_copy, log_copies, plex_contents, plex_image, plex_marks}
use Rattle.vx_image.specs.Image.{Image, LogCopy, PlexImage, is_available_state, regions_of}
use Rattle.vx_image.specs.Soundness.{IsChoiceOfMarks, IsDirtyBy, IsSoundImage, IsUnmarkedPlex, MayDiffer, PlexesAgree}
use Rattle.vx_image.specs.UsedPlexes.{is_used_log, is_used_state, used_logs}
use Rattle.vx_image.proofs.Members.{all_from_each, any_from_one, contains, each_from_all, from_filter, into_filter, is_in, one_from_any}
use Rattle.vx_volume_laws.specs.Keeping.{KeepsPlex, KeepsVolume, LiesStill, data_plexes}
use Rattle.vx_readings.proofs.Less.{IsLessImage}

pub used_active : (s : PlexState) → is_active s ≡ true → is_used_state false s ≡ true
used_active plex.Empty h = absurd (false≢true h)
used_active plex.Clean h = h
used_active plex.Active h = refl
used_active plex.IoFail h = h
used_active plex.Stale h = h
used_active plex.SnapAtt h = h
used_active plex.SnapDone h = h
used_active plex.DcoSnp h = h

active_used : (s : PlexState) → is_used_state false s ≡ true → is_active s ≡ true
active_used plex.Empty h = absurd (false≢true h)
active_used plex.Clean h = h
active_used plex.Active h = refl
active_used plex.IoFail h = h
active_used plex.Stale h = h
active_used plex.SnapAtt h = h
active_used plex.SnapDone h = h
active_used plex.DcoSnp h = h

-- one of two lists that go together, and its fellow
before_in : {X : Type 0} (R : X → X → Type 0) (ps qs : List X) → AllZip R ps qs → (q : X) → IsIn qs q → (p : X) × IsIn ps p × R p q
before_in R [] [] each q one = absurd one
before_in R [] (x ∷ qs) each q one = absurd each
before_in R (p ∷ ps) [] each q one = absurd one
before_in R (p ∷ ps) (x ∷ qs) each q (inl same) = (p, inl refl, subst (R p) (sym same) each.0)
before_in R (p ∷ ps) (x ∷ qs) each q (inr one) = let r = before_in R ps qs each.1 q one in (r.0, inr r.1, r.2)

after_in : {X : Type 0} (R : X → X → Type 0) (ps qs : List X) → AllZip R ps qs → (p : X) → IsIn ps p → (q : X) × IsIn qs q × R p q
after_in R [] [] each p one = absurd one
after_in R [] (x ∷ qs) each p one = absurd one
after_in R (x ∷ ps) [] each p one = absurd each
after_in R (x ∷ ps) (q ∷ qs) each p (inl same) = (q, inl refl, subst (λ y. R y q) (sym same) each.0)
after_in R (x ∷ ps) (q ∷ qs) each p (inr one) = let r = after_in R ps qs each.1 p one in (r.0, inr r.1, r.2)

as_many : {X : Type 0} (R : X → X → Type 0) (ps qs : List X) → AllZip R ps qs → length qs ≡ length ps
as_many R [] [] each = refl
as_many R [] (x ∷ qs) each = absurd each
as_many R (x ∷ ps) [] each = absurd each
as_many R (x ∷ ps) (y ∷ qs) each = ap suc (as_many R ps qs each.1)

moved : {X : Type 0} (xs : List X) (x y : X) → x ≡ y → IsIn xs y → IsIn xs x
moved xs x y same one = subst (IsIn xs) (sym same) one

-- the same plex, which is held no more than it was
record IsStill (p q : PlexImage) : Type 0 where
  name : q.name ≡ p.name
  map : q.map ≡ p.map
  available : is_available_state q.state ≡ is_available_state p.state
  held : q.held ≡ true → p.held ≡ true
  values : q.values ≡ p.values

module _ (c : Config) (good : ℕ) (v : Vol) (c' : Config) (good' : ℕ) (v' : Vol) (keeps : KeepsVolume c good v false c' good' v') (bytes : Sectors) where
  abbrev old : Image
  old = image_of c good bytes v

  abbrev new : Image
  new = image_of c' good' bytes v'

  same_contents : (p q : Plex) → LiesStill c c' p q → plex_contents c' bytes q ≡ plex_contents c bytes p
  same_contents p q still =
      let at : ℕ → List (List Strip) → Contents = λ unit columns b. bytes_at bytes (place_of unit columns b) in
      ap (λ unit. at unit (columns_of c' q)) still.unit ∙ ap (at p.unit) still.columns

  -- ---- plexes

  is_still : (p q : Plex) → KeepsPlex c good c' good' p q → IsStill (plex_image c good bytes p) (plex_image c' good' bytes q)
  is_still p q k = record { name = k.name; map = k.map; available = k.available; held = k.held; values = same_contents p q k.lies }

  before : (y : PlexImage) → Contains new.plexes y → (x : PlexImage) × Contains old.plexes x × IsStill x y
  before y one =
      let q = from_map (plex_image c' good' bytes) (data_plexes c' v'.name) y (is_in new.plexes y one) in
      let p = before_in (KeepsPlex c good c' good') (data_plexes c v.name) (data_plexes c' v'.name) keeps.plexes q.0 q.1 in
      (plex_image c good bytes p.0, contains old.plexes (plex_image c good bytes p.0) (in_map (plex_image c good bytes) (data_plexes c v.name) p.0 p.1), subst (IsStill (plex_image c good bytes p.0)) (sym q.2) (is_still p.0 q.0 p.2))

  after : (x : PlexImage) → Contains old.plexes x → (y : PlexImage) × Contains new.plexes y × IsStill x y
  after x one =
      let p = from_map (plex_image c good bytes) (data_plexes c v.name) x (is_in old.plexes x one) in
      let q = after_in (KeepsPlex c good c' good') (data_plexes c v.name) (data_plexes c' v'.name) keeps.plexes p.0 p.1 in
      (plex_image c' good' bytes q.0, contains new.plexes (plex_image c' good' bytes q.0) (in_map (plex_image c' good' bytes) (data_plexes c' v'.name) q.0 q.1), subst (λ z. IsStill z (plex_image c' good' bytes q.0)) (sym p.2) (is_still p.0 q.0 q.2))

  -- ---- copies of the log

  same_marks : (p q : Plex) → LiesStill c c' p q → plex_marks c' bytes v' q ≡ plex_marks c bytes v p
  same_marks p q still =
      let shown : ℕ → ℕ → Contents → LogCopy = λ len region contents r k. marks (region_count len region) contents k r in
      ap (λ n. shown n v'.region (plex_contents c' bytes q)) keeps.length_is ∙ ap (λ n. shown v.len n (plex_contents c' bytes q)) keeps.region_is ∙ ap (shown v.len v.region) (same_contents p q still)

  headed_before : (p q : Plex) → LiesStill c c' p q → is_headed v'.len v'.region (plex_contents c' bytes q) ≡ true → is_headed v.len v.region (plex_contents c bytes p) ≡ true
  headed_before p q still h =
      sym (ap (λ n. is_headed n v'.region (plex_contents c' bytes q)) keeps.length_is ∙ ap (λ n. is_headed v.len n (plex_contents c' bytes q)) keeps.region_is ∙ ap (is_headed v.len v.region) (same_contents p q still)) ∙ h

  -- a log plex that counts is used and has a header
  used_now : (q : Plex) → is_log_copy c' good' bytes v' q ≡ true → (is_used_log c' good' false v'.name q ≡ true) × (is_headed v'.len v'.region (plex_contents c' bytes q) ≡ true)
  used_now q counts =
      let headed = is_headed v'.len v'.region (plex_contents c' bytes q) in
      let held = is_held c' good' q in
      let first = and_parts (is_log_plex_of v'.name q) (is_active q.state && (held && headed)) counts in
      let second = and_parts (is_active q.state) (held && headed) first.1 in
      let third = and_parts held headed second.1 in
      (and_from (is_log_plex_of v'.name q) (is_used_state false q.state && held) first.0 (and_from (is_used_state false q.state) held (used_active q.state second.0) third.0), third.1)

  counted : (p : Plex) → is_used_log c good false v.name p ≡ true → is_headed v.len v.region (plex_contents c bytes p) ≡ true → is_log_copy c good bytes v p ≡ true
  counted p used head =
      let headed = is_headed v.len v.region (plex_contents c bytes p) in
      let held = is_held c good p in
      let log = and_parts (is_log_plex_of v.name p) (is_used_state false p.state && held) used in
      let on = and_parts (is_used_state false p.state) held log.1 in
      and_from (is_log_plex_of v.name p) (is_active p.state && (held && headed)) log.0 (and_from (is_active p.state) (held && headed) (active_used p.state on.0) (and_from held headed on.1 head))

  -- a copy that counts now counted before
  one_before : (dco : Word) (x : LogCopy) (q p : Plex) → x ≡ plex_marks c' bytes v' q → is_headed v'.len v'.region (plex_contents c' bytes q) ≡ true → Contains (used_logs (Some dco) c good false v.name) p → LiesStill c c' p q → IsIn (log_copies (Some dco) c good bytes v) x
  one_before dco x q p is headed used still =
      let was = from_filter (is_used_log c good false v.name) c.plexes p used in
      let copy = into_filter (is_log_copy c good bytes v) c.plexes p was.0 (counted p was.1 (headed_before p q still headed)) in
      moved (log_copies (Some dco) c good bytes v) x (plex_marks c bytes v p) (is ∙ same_marks p q still)
      (in_map (plex_marks c bytes v) (filter (is_log_copy c good bytes v) c.plexes) p (is_in (filter (is_log_copy c good bytes v) c.plexes) p copy))

  copy_before : (dco dco0 : Option Word) → dco ≡ dco0 → ((q : Plex) → Contains (used_logs dco c' good' false v'.name) q → (p : Plex) × Contains (used_logs dco0 c good false v.name) p × LiesStill c c' p q) →
      (x : LogCopy) → IsIn (log_copies dco c' good' bytes v') x → IsIn (log_copies dco0 c good bytes v) x
  copy_before None None e logs x there = there
  copy_before None (Some d) e logs x there = absurd cc
  copy_before (Some d) None e logs x there = absurd cc
  copy_before (Some d) (Some d0) e logs x there =
      let q = from_map (plex_marks c' bytes v') (filter (is_log_copy c' good' bytes v') c'.plexes) x there in
      let one = from_filter (is_log_copy c' good' bytes v') c'.plexes q.0 (contains (filter (is_log_copy c' good' bytes v') c'.plexes) q.0 q.1) in
      let used = used_now q.0 one.1 in
      let was = logs q.0 (into_filter (is_used_log c' good' false v'.name) c'.plexes q.0 one.0 used.0) in
      one_before d0 x q.0 was.0 q.2 used.1 was.1 was.2

  copies : (x : LogCopy) → Contains new.copies x → Contains old.copies x
  copies x one = contains old.copies x (copy_before v'.dco v.dco keeps.dco keeps.logs x (is_in new.copies x one))

  -- it says no more than it said, of as many plexes
  pub kept_less : v'.state ≡ v.state → IsLessImage old new
  kept_less state = record {
    state = state;
    length = keeps.length_is;
    region = keeps.region_is;
    before = λ y one. let r = before y one in (r.0, r.1, record { name = r.2.name; map = r.2.map; available = r.2.available; held = r.2.held; values = λ held. r.2.values });
    after = λ x one. let r = after x one in (r.0, r.1, r.2.map);
    snaps = λ m one. subst (λ ms. Contains ms m) keeps.relations one;
    copies = copies;
  }

  pub kept_plexes : length new.plexes ≡ length old.plexes
  kept_plexes = length-map (data_plexes c' v'.name) (plex_image c' good' bytes) ∙ as_many (KeepsPlex c good c' good') (data_plexes c v.name) (data_plexes c' v'.name) keeps.plexes ∙ sym (length-map (data_plexes c v.name) (plex_image c good bytes))

  -- ---- soundness

  choice_before : (r : ℕ) (B : ℕ → Bool) → IsChoiceOfMarks new r B → IsChoiceOfMarks old r B
  choice_before r B choice = record {
    least = λ k all. choice.least k (all_from_each (λ x. x r k) new.copies (λ x one. each_from_all (λ x. x r k) old.copies x all (copies x one)));
    most = λ k is. let one = one_from_any (λ x. x r k) new.copies (choice.most k is) in any_from_one (λ x. x r k) old.copies one.0 (copies one.0 one.1) one.2;
  }

  unmarked_plex : (B : ℕ → Bool) (q : PlexImage) → IsUnmarkedPlex new.plexes B q → (p : PlexImage) × IsUnmarkedPlex old.plexes B p × (q.values ≡ p.values)
  unmarked_plex B q is =
      let r = before q is.of in
      (r.0, record { of = r.1; held = r.2.held is.held; unmarked = ap B (sym r.2.map) ∙ is.unmarked }, r.2.values)

  agree_still : (r : ℕ) (B : ℕ → Bool) → PlexesAgree old r B → PlexesAgree new r B
  agree_still r B agree p q one other b lt at =
      let x = unmarked_plex B p one in
      let y = unmarked_plex B q other in
      ap (λ f. f b) x.2 ∙ agree x.0 y.0 x.1 y.1 b (subst (λ n. b < n) keeps.length_is lt) (subst (λ n. b / n ≡ r) keeps.region_is at) ∙ sym (ap (λ f. f b) y.2)

  dirty_still : (B : ℕ → Bool) → IsDirtyBy old B → IsDirtyBy new B
  dirty_still B dirty = record {
    dirty = dirty.dirty;
    stale = λ q one stale held. let r = before q one in ap B r.2.map ∙ dirty.stale r.0 r.1 (ap not (sym r.2.available) ∙ stale) (r.2.held held);
  }

  may_still : (s : VolState) (B : ℕ → Bool) → MayDiffer s old B → MayDiffer s new B
  may_still vol.Empty B may = tt
  may_still vol.Clean B may = absurd may
  may_still vol.Active B may = dirty_still B may
  may_still vol.NeedSync B may = dirty_still B may
  may_still vol.Sync B may = dirty_still B may

  -- by its other state it may differ where it might by its own
  pub restated_sound : ((B : ℕ → Bool) → MayDiffer v.state new B → MayDiffer v'.state new B) → IsSoundImage old → IsSoundImage new
  restated_sound differs sound r B low choice =
      let same_regions : regions_of new ≡ regions_of old = ap (λ n. region_count n v'.region) keeps.length_is ∙ ap (region_count v.len) keeps.region_is in
      let by = sound r B (subst (λ n. r < n) same_regions low) (choice_before r B choice) in
      record {
        unmarked = let q = after by.unmarked.0 by.unmarked.1 in (q.0, q.1, ap B q.2.map ∙ by.unmarked.2);
        agree = elim by.agree [ inl agree ↦ inl (agree_still r B agree) | inr may ↦ inr (differs B (may_still v.state B may)) ];
        tracked = λ m one clear. agree_still r B (by.tracked m (subst (λ ms. Contains ms m) keeps.relations one) clear);
      }

pub kept_sound : (c : Config) (good : ℕ) (v : Vol) (c' : Config) (good' : ℕ) (v' : Vol) → KeepsVolume c good v false c' good' v' → v'.state ≡ v.state → (bytes : Sectors) → IsSoundImage (image_of c good bytes v) → IsSoundImage (image_of c' good' bytes v')
kept_sound c good v c' good' v' keeps state bytes sound = restated_sound c good v c' good' v' keeps bytes (λ B may. subst (λ s. MayDiffer s (image_of c' good' bytes v') B) (sym state) may) sound
