-- An image is as sound where it says no more: each of its plexes was there, held and with what it holds; each copy of its log was one.
use Rattle.std.proofs.Common.{◌≡◌, ◌∙◌, inl, inr, ℕ, ◌/◌, ◌<◌, Bool, true, not, sym, ap, subst}
use Rattle.std.specs.Prelude.{Contains}
use Rattle.vx_block.specs.Regions.{region_count}
use Rattle.vx_config_parts.specs.declared.state.VolState.{VolState}
use Rattle.vx_config_parts.specs.declared.state.VolState.TheVariants as vol
use Rattle.vx_image.specs.Image.{Image, LogCopy, PlexImage, is_available_state, regions_of}
use Rattle.vx_image.specs.Soundness.{IsChoiceOfMarks, IsDirtyBy, IsSoundImage, IsUnmarkedPlex, MayDiffer, PlexesAgree}
use Rattle.vx_image.proofs.Members.{all_from_each, any_from_one, each_from_all, one_from_any}

-- the plex is the same, held no more than it was, and where it is held with what it held
pub record IsLessPlex (old new : PlexImage) : Type 0 where
  pub name : new.name ≡ old.name
  pub map : new.map ≡ old.map
  pub available : is_available_state new.state ≡ is_available_state old.state
  pub held : new.held ≡ true → old.held ≡ true
  pub values : new.held ≡ true → new.values ≡ old.values

pub record IsLessImage (old new : Image) : Type 0 where
  pub state : new.state ≡ old.state
  pub length : new.length ≡ old.length
  pub region : new.region ≡ old.region
  pub before : (y : PlexImage) → Contains new.plexes y → (x : PlexImage) × Contains old.plexes x × IsLessPlex x y
  pub after : (x : PlexImage) → Contains old.plexes x → (y : PlexImage) × Contains new.plexes y × (y.map ≡ x.map)
  pub snaps : (m : ℕ) → Contains new.snaps m → Contains old.snaps m
  pub copies : (x : LogCopy) → Contains new.copies x → Contains old.copies x

module _ (old new : Image) (less : IsLessImage old new) where
  choice_before : (r : ℕ) (B : ℕ → Bool) → IsChoiceOfMarks new r B → IsChoiceOfMarks old r B
  choice_before r B choice = record {
    least = λ k all. choice.least k (all_from_each (λ x. x r k) new.copies (λ x one. each_from_all (λ x. x r k) old.copies x all (less.copies x one)));
    most = λ k is. let one = one_from_any (λ x. x r k) new.copies (choice.most k is) in any_from_one (λ x. x r k) old.copies one.0 (less.copies one.0 one.1) one.2;
  }

  unmarked_plex : (B : ℕ → Bool) (q : PlexImage) → IsUnmarkedPlex new.plexes B q → (p : PlexImage) × IsUnmarkedPlex old.plexes B p × (q.values ≡ p.values)
  unmarked_plex B q is =
      let r = less.before q is.of in
      (r.0, record { of = r.1; held = r.2.held is.held; unmarked = ap B (sym r.2.map) ∙ is.unmarked }, r.2.values is.held)

  agree_still : (r : ℕ) (B : ℕ → Bool) → PlexesAgree old r B → PlexesAgree new r B
  agree_still r B agree p q one other b lt at =
      let x = unmarked_plex B p one in
      let y = unmarked_plex B q other in
      ap (λ f. f b) x.2 ∙ agree x.0 y.0 x.1 y.1 b (subst (λ n. b < n) less.length lt) (subst (λ n. b / n ≡ r) less.region at) ∙ sym (ap (λ f. f b) y.2)

  dirty_still : (B : ℕ → Bool) → IsDirtyBy old B → IsDirtyBy new B
  dirty_still B dirty = record {
    dirty = dirty.dirty;
    stale = λ q one stale held. let r = less.before q one in ap B r.2.map ∙ dirty.stale r.0 r.1 (ap not (sym r.2.available) ∙ stale) (r.2.held held);
  }

  may_still : (s : VolState) (B : ℕ → Bool) → MayDiffer s old B → MayDiffer s new B
  may_still vol.Empty B may = tt
  may_still vol.Clean B may = absurd may
  may_still vol.Active B may = dirty_still B may
  may_still vol.NeedSync B may = dirty_still B may
  may_still vol.Sync B may = dirty_still B may

  pub less_sound : IsSoundImage old → IsSoundImage new
  less_sound sound r B low choice =
      let same_regions : regions_of new ≡ regions_of old = ap (λ n. region_count n new.region) less.length ∙ ap (region_count old.length) less.region in
      let by = sound r B (subst (λ n. r < n) same_regions low) (choice_before r B choice) in
      record {
        unmarked = let q = less.after by.unmarked.0 by.unmarked.1 in (q.0, q.1, ap B q.2 ∙ by.unmarked.2);
        agree = elim by.agree [ inl agree ↦ inl (agree_still r B agree) | inr may ↦ inr (subst (λ s. MayDiffer s new B) (sym less.state) (may_still old.state B may)) ];
        tracked = λ m one clear. agree_still r B (by.tracked m (less.snaps m one) clear);
      }
