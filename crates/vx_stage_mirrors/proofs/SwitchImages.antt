-- The image of a volume of which a plex is recorded in another state: it is sound where that before was, and the plex went into use; or where
-- that before would be sound as recorded clean.
use Rattle.std.proofs.Common.{◌≡◌, ◌∙◌, ℕ, ◌/◌, ◌<◌, Bool, true, false, List, [], ◌∷◌, map, Option, Some, None, refl, sym, ap, subst, inl, inr}
use Rattle.std.specs.Prelude.{◌&&◌, Contains, not}
use Rattle.std.specs.List.{filter, list_all, list_any}
use Rattle.std.proofs.lemmas.Bool.{false_from_ne_true, false≢true}
use Rattle.vx_base.specs.Named.{Word}
use Rattle.vx_block.specs.Regions.{region_count}
use Rattle.vx_layout.specs.Columns.{place_of}
use Rattle.vx_mapfmt.specs.Bits.{is_headed, marks}
use Rattle.vx_config_parts.specs.declared.plex.Plex.{Plex}
use Rattle.vx_config_parts.specs.declared.snap.Snap.{Snap}
use Rattle.vx_config_parts.specs.declared.state.PlexState.{PlexState}
use Rattle.vx_config_parts.specs.declared.state.VolState.{VolState}
use Rattle.vx_config_parts.specs.declared.state.VolState.TheVariants as vol
use Rattle.vx_config_parts.specs.declared.vol.Vol.{Vol}
use Rattle.vx_config_parts.specs.Objects.{is_data_plex_of, is_log_plex_of}
use Rattle.vx_objects.specs.declared.config.Config.{Config}
use Rattle.vx_image.specs.Bytes.{Sectors, bytes_at, image_of, is_active, is_held, is_log_copy, log_copies, plex_contents, plex_image, plex_marks, relation_maps}
use Rattle.vx_image.specs.Image.{Image, LogCopy, PlexImage, is_available_state, is_stale, regions_of}
use Rattle.vx_image.specs.Soundness.{IsChoiceOfMarks, IsDirtyBy, IsSoundBy, IsSoundImage, IsUnmarkedPlex, MayDiffer, PlexesAgree}
use Rattle.vx_lending.proofs.Distinct.{filtered}
use Rattle.vx_image.proofs.PlexMembers.{IsIn}
use Rattle.vx_group_edits.proofs.DcoEdits.{log_no_data}
use Rattle.vx_volume_laws.proofs.Held.{in_image, of_image}
use Rattle.vx_joined_volumes.specs.Switched.{SetsState}
use Rattle.vx_joined_volumes.proofs.SwitchEdits.{came_from, data_same, held_as, lies_same, map_same, name_same, own_or_other, plexes_now, set, set_own, snaps_stay, stays_in}
use Rattle.vx_joined_volumes.proofs.Zips.{filter_maps}

-- ---- two images

-- the plex is one of the image in another state
pub record ComesFrom (v : Image) (x : PlexImage) : Type 0 where
  pub was : PlexImage
  pub there : Contains v.plexes was
  pub same : x ≡ record was { state = x.state }

-- an image has its plexes in other states
pub record IsRestatedImage (v v' : Image) : Type 0 where
  pub same : v' ≡ record v { plexes = v'.plexes }
  pub comes : (x : PlexImage) → Contains v'.plexes x → ComesFrom v x
  pub stays : (y : PlexImage) → Contains v.plexes y → (x : PlexImage) × Contains v'.plexes x × (x.map ≡ y.map)

-- the plex is that one in another state, and recorded stale only if that is
pub record IsNowUsed (x was : PlexImage) : Type 0 where
  pub same : x ≡ record was { state = x.state }
  pub stale : is_stale x ≡ true → is_stale was ≡ true

-- an image has its plexes in other states, and none is recorded stale that was not
pub record IsUsedImage (v v' : Image) : Type 0 where
  pub same : v' ≡ record v { plexes = v'.plexes }
  pub comes : (x : PlexImage) → Contains v'.plexes x → (y : PlexImage) × Contains v.plexes y × IsNowUsed x y
  pub stays : (y : PlexImage) → Contains v.plexes y → (x : PlexImage) × Contains v'.plexes x × IsNowUsed x y

module _ (v v' : Image) (re : IsRestatedImage v v') where
  choice_was : (r : ℕ) (B : ℕ → Bool) → IsChoiceOfMarks v' r B → IsChoiceOfMarks v r B
  choice_was r B choice =
      let copies : v'.copies ≡ v.copies = ap (λ (u : Image). u.copies) re.same in
      record {
        least = λ k all. choice.least k (ap (λ cs. list_all (λ (c : LogCopy). c r k) cs) copies ∙ all);
        most = λ k chosen. ap (λ cs. list_any (λ (c : LogCopy). c r k) cs) (sym copies) ∙ choice.most k chosen;
      }

  region_was : (r : ℕ) → r < regions_of v' → r < regions_of v
  region_was r lt = subst (λ (u : Image). r < regions_of u) re.same lt

  unmarked_was : (B : ℕ → Bool) (x : PlexImage) (one : IsUnmarkedPlex v'.plexes B x) → IsUnmarkedPlex v.plexes B (re.comes x one.of).was
  unmarked_was B x one =
      let y = re.comes x one.of in
      record { of = y.there; held = ap (λ (p : PlexImage). p.held) (sym y.same) ∙ one.held; unmarked = ap (λ (p : PlexImage). B p.map) (sym y.same) ∙ one.unmarked }

  agree_now : (r : ℕ) (B : ℕ → Bool) → PlexesAgree v r B → PlexesAgree v' r B
  agree_now r B agree p q at_p at_q b lt here =
      let x = re.comes p at_p.of in
      let y = re.comes q at_q.of in
      ap (λ (u : PlexImage). u.values b) x.same
      ∙ agree x.was y.was (unmarked_was B p at_p) (unmarked_was B q at_q) b (subst (λ (u : Image). b < u.length) re.same lt) (ap (λ (u : Image). b / u.region) (sym re.same) ∙ here)
      ∙ ap (λ (u : PlexImage). u.values b) (sym y.same)

  -- one whose plexes may differ only where those before might, or agree
  sound_by : (state : VolState) (r : ℕ) (B : ℕ → Bool) → (MayDiffer state (record v { state = state }) B → MayDiffer v'.state v' B) → IsSoundBy (record v { state = state }) r B → IsSoundBy v' r B
  sound_by state r B differ under = record {
    unmarked = let p = under.unmarked in let x = re.stays p.0 p.1 in (x.0, x.1, ap B x.2 ∙ p.2);
    agree = elim under.agree [ inl agree ↦ inl (agree_now r B agree) | inr may ↦ inr (differ may) ];
    tracked = λ m one clear. agree_now r B (under.tracked m (subst (λ (u : Image). Contains u.snaps m) re.same one) clear);
  }

  -- so it is sound where the other would be as recorded clean, ..
  pub sound_as_clean : IsSoundImage (record v { state = vol.Clean }) → IsSoundImage v'
  sound_as_clean sound r B lt choice =
      let was = choice_was r B choice in
      sound_by vol.Clean r B (λ may. absurd may) (sound r B (region_was r lt) (record { least = was.least; most = was.most }))

  -- .. and where it is, if no plex is recorded stale that was not
  module _ (used : IsUsedImage v v') where
    dirty_now : (B : ℕ → Bool) → IsDirtyBy v B → IsDirtyBy v' B
    dirty_now B dirty = record {
      dirty = dirty.dirty;
      stale = λ x one is held.
          let y = used.comes x one in
          ap (λ (p : PlexImage). B p.map) y.2.same ∙ dirty.stale y.0 y.1 (y.2.stale is) (ap (λ (p : PlexImage). p.held) (sym y.2.same) ∙ held);
    }

    differ_now : (state : VolState) (B : ℕ → Bool) → MayDiffer state v B → MayDiffer state v' B
    differ_now vol.Empty B may = tt
    differ_now vol.Clean B may = absurd may
    differ_now vol.Active B may = dirty_now B may
    differ_now vol.NeedSync B may = dirty_now B may
    differ_now vol.Sync B may = dirty_now B may

    pub sound_still : IsSoundImage v → IsSoundImage v'
    sound_still sound r B lt choice =
        sound_by v.state r B (λ may. subst (λ (s : VolState). MayDiffer s v' B) (sym (ap (λ (u : Image). u.state) re.same)) (differ_now v.state B may)) (sound r B (region_was r lt) (choice_was r B choice))

-- ---- the images of the records

-- a change that leaves what is made of each
maps_alike : {A B : Type 0} (f : A → A) (g h : A → B) (xs : List A) → ((x : A) → IsIn xs x → g (f x) ≡ h x) → map g (map f xs) ≡ map h xs
maps_alike f g h [] same = refl
maps_alike f g h (x ∷ xs) same = let first = same x (inl refl) in let rest = maps_alike f g h xs (λ y there. same y (inr there)) in λ i. first i ∷ rest i

module _ (c c' : Config) (v : Vol) (p : Plex) (next : PlexState) (sets : SetsState c v p next c') (good : ℕ) (bytes : Sectors) where
  abbrev becomes : Plex → Plex
  becomes q = set c c' v p next sets q

  -- ---- a plex

  contents_same : (q : Plex) → IsIn c.plexes q → plex_contents c' bytes (becomes q) ≡ plex_contents c bytes q
  contents_same q there = let lies = lies_same c c' v p next sets q there in λ i b. bytes_at bytes (place_of (lies.unit i) (lies.columns i) b)

  image_same : (q : Plex) → IsIn c.plexes q → plex_image c' good bytes (becomes q) ≡ record (plex_image c good bytes q) { state = (becomes q).state }
  image_same q there =
      let name = name_same c c' v p next sets q there in
      let number = map_same c c' v p next sets q there in
      let held = held_as c c' v p next sets good q there in
      let values = contents_same q there in
      λ i. record { name = name i; map = number i; state = (becomes q).state; held = held i; values = values i }

  -- ---- the log

  -- a plex of the log is one as before
  copy_same : (q : Plex) → IsIn c.plexes q → is_log_copy c' good bytes v (becomes q) ≡ is_log_copy c good bytes v q
  copy_same q there = elim (own_or_other c c' v p next sets q there) [
    | inl own ↦
        let of_data : is_data_plex_of v.name q ≡ true = ap (is_data_plex_of v.name) own ∙ sets.data_is in
        let rest : Plex → Config → Bool = λ x d. is_active x.state && (is_held d good x && is_headed v.len v.region (plex_contents d bytes x)) in
        ap (λ b. b && rest (becomes q) c') (no_log (becomes q) (data_same c c' v p next sets q there ∙ of_data)) ∙ sym (ap (λ b. b && rest q c) (no_log q of_data))
    | inr other ↦
        let held = held_as c c' v p next sets good q there in
        let values = contents_same q there in
        λ i. is_log_plex_of v.name (other.1 i) && (is_active (other.1 i).state && (held i && is_headed v.len v.region (values i)))
  ]
    where
      no_log : (x : Plex) → is_data_plex_of v.name x ≡ true → is_log_plex_of v.name x ≡ false
      no_log x is = false_from_ne_true _ (λ log. false≢true (sym (log_no_data v.name x log) ∙ is))

  marks_same : (q : Plex) → IsIn c.plexes q → plex_marks c' bytes v (becomes q) ≡ plex_marks c bytes v q
  marks_same q there = let values = contents_same q there in λ i r k. marks (region_count v.len v.region) (values i) k r

  copies_same : (dco : Option Word) → log_copies dco c' good bytes v ≡ log_copies dco c good bytes v
  copies_same None = refl
  copies_same (Some dco) =
      ap (λ ps. map (plex_marks c' bytes v) (filter (is_log_copy c' good bytes v) ps)) (plexes_now c c' v p next sets)
      ∙ ap (λ ps. map (plex_marks c' bytes v) ps) (filter_maps (is_log_copy c good bytes v) (is_log_copy c' good bytes v) becomes c.plexes copy_same)
      ∙ maps_alike becomes (plex_marks c' bytes v) (plex_marks c bytes v) (filter (is_log_copy c good bytes v) c.plexes) (λ q one. marks_same q (filtered (is_log_copy c good bytes v) c.plexes q one).0)

  -- ---- the image

  abbrev was : Image
  was = image_of c good bytes v

  abbrev now : Image
  now = image_of c' good bytes v

  comes_from : (x : PlexImage) → Contains now.plexes x → (q : Plex) × IsIn c.plexes q × (is_data_plex_of v.name q ≡ true) × (x ≡ plex_image c' good bytes (becomes q))
  comes_from x one =
      let x_is = of_image c' good bytes v x one in
      let q = came_from c c' v p next sets x_is.plex x_is.there in (
        q.0,
        q.1,
        sym (data_same c c' v p next sets q.0 q.1) ∙ ap (is_data_plex_of v.name) (sym q.2) ∙ x_is.of,
        x_is.is ∙ ap (plex_image c' good bytes) q.2,
      )

  pub image_restated : IsRestatedImage was now
  image_restated = record {
    same = let snaps = ap (λ (ss : List Snap). relation_maps ss v.name) (snaps_stay c c' v p next sets) in let copies = copies_same v.dco in λ i. record now { snaps = snaps i; copies = copies i };
    comes = λ x one.
        let q = comes_from x one in
        record {
          was = plex_image c good bytes q.0;
          there = in_image c good bytes v q.0 q.1 q.2;
          same = q.3 ∙ image_same q.0 q.1 ∙ ap (λ (s : PlexState). record (plex_image c good bytes q.0) { state = s }) (ap (λ (u : PlexImage). u.state) (sym q.3));
        };
    stays = λ y one.
        let y_is = of_image c good bytes v y one in (
          plex_image c' good bytes (becomes y_is.plex),
          in_image c' good bytes v (becomes y_is.plex) (stays_in c c' v p next sets y_is.plex y_is.there) (data_same c c' v p next sets y_is.plex y_is.there ∙ y_is.of),
          map_same c c' v p next sets y_is.plex y_is.there ∙ ap (λ (u : PlexImage). u.map) (sym y_is.is),
        );
  }

  -- where the plex went into use each is one that was, and is recorded stale only if that was
  module _ (available : is_available_state next ≡ true) where
    now_used : (q : Plex) → IsIn c.plexes q → (x : PlexImage) → x ≡ plex_image c' good bytes (becomes q) → IsNowUsed x (plex_image c good bytes q)
    now_used q there x is = record {
      same = is ∙ image_same q there ∙ ap (λ (s : PlexState). record (plex_image c good bytes q) { state = s }) (ap (λ (u : PlexImage). u.state) (sym is));
      stale = λ stale.
          let state : not (is_available_state (becomes q).state) ≡ true = ap (λ (u : PlexImage). is_stale u) (sym is) ∙ stale in
          elim (own_or_other c c' v p next sets q there) [
            | inl own ↦
                let set_so : (becomes q).state ≡ next = ap (λ (x : Plex). (becomes x).state) own ∙ ap (λ (x : Plex). x.state) (set_own c c' v p next sets) in
                absurd (false≢true (sym (ap (λ (s : PlexState). not (is_available_state s)) set_so ∙ ap not available) ∙ state))
            | inr other ↦ ap (λ (x : Plex). not (is_available_state x.state)) (sym other.1) ∙ state
          ];
    }

    pub image_used : IsUsedImage was now
    image_used = record {
      same = image_restated.same;
      comes = λ x one. let q = comes_from x one in (plex_image c good bytes q.0, in_image c good bytes v q.0 q.1 q.2, now_used q.0 q.1 x q.3);
      stays = λ y one.
          let y_is = of_image c good bytes v y one in
          let q = y_is.plex in (
            plex_image c' good bytes (becomes q),
            in_image c' good bytes v (becomes q) (stays_in c c' v p next sets q y_is.there) (data_same c c' v p next sets q y_is.there ∙ y_is.of),
            subst (IsNowUsed (plex_image c' good bytes (becomes q))) (sym y_is.is) (now_used q y_is.there (plex_image c' good bytes (becomes q)) refl),
          );
    }
