-- What keeps volumes, one configuration after another.
use Rattle.std.proofs.Common.{◌≡◌, false, List, [], ◌∷◌, refl, sym, ap, ◌∙◌}
use Rattle.std.specs.List.{AllZip}
use Rattle.vx_config_parts.specs.declared.plex.Plex.{Plex}
use Rattle.vx_config_parts.specs.declared.state.PlexState.{PlexState}
use Rattle.vx_config_parts.specs.declared.state.PlexState.TheVariants as plex
use Rattle.vx_config_parts.specs.Objects.{is_data_plex_of}
use Rattle.vx_objects.specs.declared.config.Config.{Config}
use Rattle.vx_image.specs.Image.{PlexImage}
use Rattle.vx_image.specs.Bytes.{is_active, plex_image}
use Rattle.vx_image.specs.UsedPlexes.{is_used_state}
use Rattle.vx_lending.proofs.Bits.{kept}
use Rattle.vx_lending.proofs.Distinct.{filtered}
use Rattle.vx_volume_laws.proofs.Held.{in_image, of_image}
use Rattle.vx_volume_laws.specs.Keeping.{EachKeepingGoesOn, EachKeptVolumeIsNamed, EachVolumeKeepsItself, KeepsLogPlex, KeepsPlex, LiesStill, data_plexes, log_plexes}
use Rattle.vx_volume_laws.proofs.Plexes.{zip_right}

zip_same : {A : Type 0} (R : A → A → Type 0) → ((x : A) → R x x) → (xs : List A) → AllZip R xs xs
zip_same R same [] = tt
zip_same R same (x ∷ xs) = (same x, zip_same R same xs)

zip_then : {A B C : Type 0} (R : A → B → Type 0) (S : B → C → Type 0) (T : A → C → Type 0) → ((x : A) (y : B) (z : C) → R x y → S y z → T x z) → (xs : List A) (ys : List B) (zs : List C) → AllZip R xs ys → AllZip S ys zs → AllZip T xs zs
zip_then R S T each [] [] [] a b = tt
zip_then R S T each [] [] (z ∷ zs) a b = absurd b
zip_then R S T each [] (y ∷ ys) zs a b = absurd a
zip_then R S T each (x ∷ xs) [] zs a b = absurd a
zip_then R S T each (x ∷ xs) (y ∷ ys) [] a b = absurd b
zip_then R S T each (x ∷ xs) (y ∷ ys) (z ∷ zs) a b = (each x y z a.0 b.0, zip_then R S T each xs ys zs a.1 b.1)

lies_same : (c : Config) (p : Plex) → LiesStill c c p p
lies_same c p = record { unit = refl; columns = refl }

lies_then : (c0 c c' : Config) (p q q' : Plex) → LiesStill c0 c p q → LiesStill c c' q q' → LiesStill c0 c' p q'
lies_then c0 c c' p q q' a b = record { unit = b.unit ∙ a.unit; columns = b.columns ∙ a.columns }

-- a log plex that stays as it is counts just where it is active
pub active_used : (s : PlexState) → is_active s ≡ is_used_state false s
active_used plex.Empty = refl
active_used plex.Clean = refl
active_used plex.Active = refl
active_used plex.IoFail = refl
active_used plex.Stale = refl
active_used plex.SnapAtt = refl
active_used plex.SnapDone = refl
active_used plex.DcoSnp = refl

pub volume_kept : EachVolumeKeepsItself
volume_kept c good v =
    record {
      length_is = refl;
      region_is = refl;
      dco = refl;
      plexes = zip_same (KeepsPlex c good c good) (λ p. record { name = refl; map = refl; lies = lies_same c p; available = refl; held = λ h. h }) (data_plexes c v.name);
      logs = λ q one. (q, one, lies_same c q);
      log_plexes_are = zip_same (KeepsLogPlex c false c) (λ p. record { name = refl; lies = lies_same c p; used = active_used p.state }) (log_plexes c v.name);
      relations = refl;
    }

pub keeping_goes_on : EachKeepingGoesOn
keeping_goes_on c0 good0 v0 fresh c good v c' good' v' a b =
    record {
      length_is = b.length_is ∙ a.length_is;
      region_is = b.region_is ∙ a.region_is;
      dco = b.dco ∙ a.dco;
      plexes = zip_then (KeepsPlex c0 good0 c good) (KeepsPlex c good c' good') (KeepsPlex c0 good0 c' good')
          (λ p q q' x y.
          record { name = y.name ∙ x.name; map = y.map ∙ x.map; lies = lies_then c0 c c' p q q' x.lies y.lies; available = y.available ∙ x.available; held = λ h. x.held (y.held h) }) (data_plexes c0 v0.name) (data_plexes c v.name) (data_plexes c' v'.name) a.plexes b.plexes;
      logs = λ q' one.
          let q = b.logs q' one in
          let p = a.logs q.0 q.1 in
          (p.0, p.1, lies_then c0 c c' p.0 q.0 q' p.2 q.2);
      log_plexes_are = zip_then (KeepsLogPlex c0 fresh c) (KeepsLogPlex c false c') (KeepsLogPlex c0 fresh c')
          (λ p q q' x y. record { name = y.name ∙ x.name; lies = lies_then c0 c c' p q q' x.lies y.lies; used = y.used ∙ sym (active_used q.state) ∙ x.used }) (log_plexes c0 v0.name) (log_plexes c v.name) (log_plexes c' v'.name) a.log_plexes_are b.log_plexes_are;
      relations = b.relations ∙ a.relations;
    }

pub kept_named : EachKeptVolumeIsNamed
kept_named c0 good0 v0 fresh c good v keeps bytes0 bytes p one =
    let x = of_image c good bytes v p one in
    let r = zip_right (KeepsPlex c0 good0 c good) (data_plexes c0 v0.name) (data_plexes c v.name) keeps.plexes x.plex (kept (is_data_plex_of v.name) c.plexes x.plex x.there x.of) in
    let w = filtered (is_data_plex_of v0.name) c0.plexes r.0 r.1 in
    (plex_image c0 good0 bytes0 r.0, in_image c0 good0 bytes0 v0 r.0 w.0 w.1, sym (ap (λ (y : PlexImage). y.name) x.is ∙ r.2.name), sym (ap (λ (y : PlexImage). y.map) x.is ∙ r.2.map))
