-- A volume that was started, in another such state.
use Rattle.std.proofs.Common.{◌≡◌, inl, inr, ℕ, ◌/◌, Bool, refl, subst, List}
use Rattle.std.specs.Prelude.{Contains}
use Rattle.vx_config_parts.specs.declared.state.VolState.{VolState}
use Rattle.vx_config_parts.specs.declared.state.VolState.TheVariants as vol
use Rattle.vx_image.specs.Image.{PlexImage, Image, WasStarted, IsFilled}
use Rattle.vx_image.specs.Meaning.{plexes_read}
use Rattle.vx_image.specs.Soundness.{IsDirtyBy, MayDiffer}
use Rattle.vx_image.specs.Import.{EachImportIsSound, EachImportStands}

pub may_differ : (state : VolState) (v : Image) (B : ℕ → Bool) → WasStarted state → IsDirtyBy v B → MayDiffer state v B
may_differ vol.Empty v B was dirty = absurd was
may_differ vol.Clean v B was dirty = absurd was
may_differ vol.Active v B was dirty = dirty
may_differ vol.NeedSync v B was dirty = dirty
may_differ vol.Sync v B was dirty = dirty

pub dirty_of : (state : VolState) (v : Image) (B : ℕ → Bool) → IsFilled state → MayDiffer state v B → IsDirtyBy v B
dirty_of vol.Empty v B filled may = absurd filled
dirty_of vol.Clean v B filled may = absurd may
dirty_of vol.Active v B filled may = may
dirty_of vol.NeedSync v B filled may = may
dirty_of vol.Sync v B filled may = may

pub filled : (state : VolState) → WasStarted state → IsFilled state
filled vol.Empty was = absurd was
filled vol.Clean was = absurd was
filled vol.Active was = tt
filled vol.NeedSync was = tt
filled vol.Sync was = tt

pub sound_recorded : EachImportIsSound
sound_recorded v state was is sound r B low choice =
    let by = sound r B low (record { least = choice.least; most = choice.most }) in
    record {
      unmarked = by.unmarked;
      agree = elim by.agree [
        | inl agree ↦ inl agree
        | inr may ↦ let dirty = dirty_of v.state v B (filled v.state was) may in inr (may_differ state (record v { state = state }) B is (record { dirty = dirty.dirty; stale = dirty.stale }))
      ];
      tracked = by.tracked;
    }

plexes_recorded : (old state : VolState) (v : Image) (r : ℕ) → WasStarted old → WasStarted state → plexes_read state (record v { state = state }) r ≡ plexes_read old v r
plexes_recorded vol.Empty state v r was is = absurd was
plexes_recorded vol.Clean state v r was is = absurd was
plexes_recorded old vol.Empty v r was is = absurd is
plexes_recorded old vol.Clean v r was is = absurd is
plexes_recorded vol.Active vol.Active v r was is = refl
plexes_recorded vol.Active vol.NeedSync v r was is = refl
plexes_recorded vol.Active vol.Sync v r was is = refl
plexes_recorded vol.NeedSync vol.Active v r was is = refl
plexes_recorded vol.NeedSync vol.NeedSync v r was is = refl
plexes_recorded vol.NeedSync vol.Sync v r was is = refl
plexes_recorded vol.Sync vol.Active v r was is = refl
plexes_recorded vol.Sync vol.NeedSync v r was is = refl
plexes_recorded vol.Sync vol.Sync v r was is = refl

pub stands_recorded : EachImportStands
stands_recorded v state candidates was is stands b lt p one =
    stands b lt p (subst (λ (ps : List PlexImage). Contains ps p) (plexes_recorded v.state state v (b / v.region) was is) one)
