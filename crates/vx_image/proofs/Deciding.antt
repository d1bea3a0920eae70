-- Whether an image is sound is decided region by region, by the marks of the maps of its plexes and relations and of the dirty map.
use Rattle.std.proofs.Common.{◌≡◌, inl, inr, ℕ, ◌/◌, ◌<◌, ◌++◌, Bool, true, false, refl, sym, ◌∙◌, List, ◌∷◌, map}
use Rattle.std.specs.Prelude.{Contains}
use Rattle.vx_config_parts.specs.declared.state.VolState.{VolState}
use Rattle.vx_config_parts.specs.declared.state.VolState.TheVariants as vol
use Rattle.vx_image.proofs.PlexMembers.{IsIn, in_left, in_map, in_right}
use Rattle.vx_image.specs.Image.{PlexImage, Image, regions_of, is_stale}
use Rattle.vx_image.specs.Soundness.{IsChoiceOfMarks, IsDirtyBy, IsSoundBy, IsUnmarkedPlex, MayDiffer, PlexesAgree}
use Rattle.vx_image.specs.Deciding.{EachImageIsSoundOrNot}
use Rattle.vx_image.proofs.Members.{is_in}
use Rattle.vx_image.proofs.Decided.{Decided, after_decided, below_decided, both_decided, decided_by, each_decided, either_decided, same_list, same_number, same_truth, some_decided}
use Rattle.vx_image.proofs.Choices.{choices_decided}

-- ---- by one choice

module _ (v : Image) (r : ℕ) (B : ℕ → Bool) where
  -- the plexes hold the same in the region, where they are held and unmarked
  abbrev Agree : PlexImage → PlexImage → Type 0
  Agree p q = (q.held ≡ true) → (B q.map ≡ false) → (b : ℕ) → b < v.length → b / v.region ≡ r → p.values b ≡ q.values b

  abbrev AgreeWith : PlexImage → Type 0
  AgreeWith p = (p.held ≡ true) → (B p.map ≡ false) → (q : PlexImage) → Contains v.plexes q → Agree p q

  two_agree : (p q : PlexImage) → Decided (Agree p q)
  two_agree p q =
      after_decided (same_truth q.held true) (after_decided (same_truth (B q.map) false)
      (below_decided (λ b. b / v.region ≡ r → p.values b ≡ q.values b) (λ b. after_decided (same_number (b / v.region) r) (same_list (p.values b) (q.values b))) v.length))

  agrees_with : (p : PlexImage) → Decided (AgreeWith p)
  agrees_with p = after_decided (same_truth p.held true) (after_decided (same_truth (B p.map) false) (each_decided (Agree p) (two_agree p) v.plexes))

  plexes_agree : Decided (PlexesAgree v r B)
  plexes_agree = decided_by there back (each_decided AgreeWith agrees_with v.plexes)
    where
      there : ((p : PlexImage) → Contains v.plexes p → AgreeWith p) → PlexesAgree v r B
      there each p q one other = each p one.of one.held one.unmarked q other.of other.held other.unmarked

      back : PlexesAgree v r B → (p : PlexImage) → Contains v.plexes p → AgreeWith p
      back agree p one held clear q other held' clear' = agree p q (record { of = one; held = held; unmarked = clear }) (record { of = other; held = held'; unmarked = clear' })

  dirty_by : Decided (IsDirtyBy v B)
  dirty_by =
      decided_by (λ x. record { dirty = x.0; stale = x.1 }) (λ is. (is.dirty, is.stale))
      (both_decided (same_truth (B 30) true)
      (each_decided (λ p. is_stale p ≡ true → p.held ≡ true → B p.map ≡ true) (λ p. after_decided (same_truth (is_stale p) true) (after_decided (same_truth p.held true) (same_truth (B p.map) true))) v.plexes))

  may_differ : (state : VolState) → Decided (MayDiffer state v B)
  may_differ vol.Empty = inl tt
  may_differ vol.Clean = inr (λ may. may)
  may_differ vol.Active = dirty_by
  may_differ vol.NeedSync = dirty_by
  may_differ vol.Sync = dirty_by

  sound_by : Decided (IsSoundBy v r B)
  sound_by =
      decided_by (λ x. record { unmarked = x.0; agree = x.1.0; tracked = x.1.1 }) (λ is. (is.unmarked, (is.agree, is.tracked)))
      (both_decided (some_decided (λ p. B p.map ≡ false) (λ p. same_truth (B p.map) false) v.plexes)
      (both_decided (either_decided plexes_agree (may_differ v.state))
      (each_decided (λ m. B m ≡ false → PlexesAgree v r B) (λ m. after_decided (same_truth (B m) false) plexes_agree) v.snaps)))

-- ---- only these maps matter

-- the maps of the plexes and of the relations, and the dirty map
maps_of : Image → List ℕ
maps_of v = 30 ∷ map (λ p. p.map) v.plexes ++ v.snaps

plex_map : (v : Image) (p : PlexImage) → Contains v.plexes p → IsIn (maps_of v) p.map
unfolding maps_of
plex_map v p one = inr (in_left (map (λ (q : PlexImage). q.map) v.plexes) v.snaps p.map (in_map (λ (q : PlexImage). q.map) v.plexes p (is_in v.plexes p one)))

snap_map : (v : Image) (m : ℕ) → Contains v.snaps m → IsIn (maps_of v) m
unfolding maps_of
snap_map v m one = inr (in_right (map (λ (q : PlexImage). q.map) v.plexes) v.snaps m (is_in v.snaps m one))

dirty_map : (v : Image) → IsIn (maps_of v) 30
unfolding maps_of
dirty_map v = inl refl

module _ (v : Image) (r : ℕ) (B C : ℕ → Bool) (alike : (k : ℕ) → IsIn (maps_of v) k → B k ≡ C k) where
  unmarked_alike : (p : PlexImage) → IsUnmarkedPlex v.plexes C p → IsUnmarkedPlex v.plexes B p
  unmarked_alike p is = record { of = is.of; held = is.held; unmarked = alike p.map (plex_map v p is.of) ∙ is.unmarked }

  agree_alike : PlexesAgree v r B → PlexesAgree v r C
  agree_alike agree p q one other = agree p q (unmarked_alike p one) (unmarked_alike q other)

  dirty_alike : IsDirtyBy v B → IsDirtyBy v C
  dirty_alike is = record { dirty = sym (alike 30 (dirty_map v)) ∙ is.dirty; stale = λ p one stale held. sym (alike p.map (plex_map v p one)) ∙ is.stale p one stale held }

  may_alike : (state : VolState) → MayDiffer state v B → MayDiffer state v C
  may_alike vol.Empty may = tt
  may_alike vol.Clean may = may
  may_alike vol.Active may = dirty_alike may
  may_alike vol.NeedSync may = dirty_alike may
  may_alike vol.Sync may = dirty_alike may

  sound_alike : IsSoundBy v r B → IsSoundBy v r C
  sound_alike is = record {
    unmarked = let x = is.unmarked in (x.0, x.1, sym (alike x.0.map (plex_map v x.0 x.1)) ∙ x.2);
    agree = elim is.agree [ inl agree ↦ inl (agree_alike agree) | inr may ↦ inr (may_alike v.state may) ];
    tracked = λ m one clear. agree_alike (is.tracked m one (alike m (snap_map v m one) ∙ clear));
  }

-- ---- the image

abbrev IsSoundRegion : Image → ℕ → Type 0
IsSoundRegion v r = (B : ℕ → Bool) → IsChoiceOfMarks v r B → IsSoundBy v r B

region_decided : (v : Image) (r : ℕ) → Decided (IsSoundRegion v r)
region_decided v r = choices_decided v r (IsSoundBy v r) (sound_by v r) (maps_of v) (sound_alike v r)

pub image_decided : EachImageIsSoundOrNot
image_decided v = decided_by (λ each r B low choice. each r low B choice) (λ sound r low B choice. sound r B low choice) (below_decided (IsSoundRegion v) (region_decided v) (regions_of v))
