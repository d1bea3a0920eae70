-- A form is that of the configuration of which states have changed.
use Rattle.std.proofs.Common.{◌≡◌, ℕ, Bool, true, false, not, Option, Some, None, List, [], ◌∷◌, refl, sym, ap, ◌∙◌}
use Rattle.std.specs.Prelude.{◌&&◌, ◌||◌}
use Rattle.std.specs.List.{AllZip, filter, list_all}
use Rattle.vx_base.specs.Named.{Word}
use Rattle.vx_mask.specs.Mask.{has}
use Rattle.vx_layout.specs.declared.layout.Layout.{Layout}
use Rattle.vx_config_parts.specs.declared.disk.Disk.{Disk}
use Rattle.vx_config_parts.specs.declared.plex.Plex.{Plex}
use Rattle.vx_config_parts.specs.declared.subdisk.Subdisk.{Subdisk}
use Rattle.vx_config_parts.specs.declared.vol.Vol.{Vol}
use Rattle.vx_config_parts.specs.Objects.{is_data_plex_of, is_log_plex_of, refers}
use Rattle.vx_objects.specs.declared.config.Config.{Config}
use Rattle.vx_image.specs.Lies.{columns_from, slot_of}
use Rattle.vx_image.specs.Image.{is_available_state}
use Rattle.vx_image.specs.Bytes.{is_held, map_or_zero, relation_maps}
use Rattle.vx_lending.specs.RegionsTaken.{is_among}
use Rattle.vx_lending.specs.declared.form.VolumeForm.{VolumeForm}
use Rattle.vx_image.specs.UsedPlexes.{held_plexes, is_on, is_used_log, is_used_state, maps_of, off_plexes, on_plexes, used_logs}
use Rattle.vx_lending.specs.Form.{AreLayouts, IsFormOf, IsMaskOf}
use Rattle.vx_volume_laws.specs.Forms.{EachFormIsKept, IsUsedAlike, KeepsForm}
use Rattle.vx_volume_laws.specs.Keeping.{LiesStill}
use Rattle.vx_volume_laws.proofs.Restated.{columns_same, zip_filter}

both_alike : (a a' b b' : Bool) → a' ≡ a → (a ≡ true → b' ≡ b) → (a' && b') ≡ (a && b)
both_alike true true b b' e same = same refl
both_alike true false b b' e same = absurd cc
both_alike false true b b' e same = absurd cc
both_alike false false b b' e same = refl

zip_maps : (ps qs : List Plex) → AllZip (λ (p q : Plex). map_or_zero q.map ≡ map_or_zero p.map) ps qs → maps_of qs ≡ maps_of ps
zip_maps [] [] h = refl
zip_maps [] (q ∷ qs) h = absurd h
zip_maps (p ∷ ps) [] h = absurd h
zip_maps (p ∷ ps) (q ∷ qs) h = ap (λ (m : ℕ). m ∷ maps_of qs) h.0 ∙ ap (λ ms. map_or_zero p.map ∷ ms) (zip_maps ps qs h.1)

layouts_still : (c0 c : Config) (ps qs : List Plex) (ls : List Layout) → AllZip (LiesStill c0 c) ps qs → AreLayouts c0 ps ls → AreLayouts c qs ls
layouts_still c0 c [] [] [] still are = tt
layouts_still c0 c [] [] (l ∷ ls) still are = absurd are
layouts_still c0 c [] (q ∷ qs) ls still are = absurd still
layouts_still c0 c (p ∷ ps) [] ls still are = absurd still
layouts_still c0 c (p ∷ ps) (q ∷ qs) [] still are = absurd are
layouts_still c0 c (p ∷ ps) (q ∷ qs) (l ∷ ls) still are = (record { unit = are.0.unit ∙ sym still.0.unit; columns = are.0.columns ∙ sym still.0.columns }, layouts_still c0 c ps qs ls still.1 are.1)

mask_of : (maps maps' : List ℕ) (mask : ℕ) → maps' ≡ maps → IsMaskOf maps mask → IsMaskOf maps' mask
mask_of maps maps' mask same is = record { fits = is.fits; each = λ k. is.each k ∙ sym (ap (λ ms. is_among k ms) same) }

module _ (c0 : Config) (good : ℕ) (v0 : Vol) (fresh : Bool) (c : Config) (v : Vol) (fresh' : Bool) (keeps : KeepsForm c0 v0 fresh c v fresh') where
  name_is : v.name ≡ v0.name
  name_is = ap (λ (x : Vol). x.name) keeps.vol

  held_alike : (p q : Plex) → IsUsedAlike v0.name fresh fresh' p q → is_held c good q ≡ is_held c0 good p
  held_alike p q r =
      ap (λ (n : Word). list_all (λ (s : Subdisk). not (refers s.plex n) || has good (slot_of c.disks s.disk)) c.subdisks) (ap (λ (x : Plex). x.name) r.same)
      ∙ ap (λ (ds : List Disk). list_all (λ (s : Subdisk). not (refers s.plex p.name) || has good (slot_of ds s.disk)) c.subdisks) keeps.disks
      ∙ ap (λ (ss : List Subdisk). list_all (λ (s : Subdisk). not (refers s.plex p.name) || has good (slot_of c0.disks s.disk)) ss) keeps.subdisks

  lies_alike : (p q : Plex) → IsUsedAlike v0.name fresh fresh' p q → LiesStill c0 c p q
  lies_alike p q r =
      record {
        unit = ap (λ (x : Plex). x.unit) r.same;
        columns = ap (λ (x : Plex). columns_from x.ncol c x.name 0) r.same ∙ columns_same c0 c keeps.disks keeps.subdisks p.ncol p.name 0;
      }

  map_alike : (p q : Plex) → IsUsedAlike v0.name fresh fresh' p q → map_or_zero q.map ≡ map_or_zero p.map
  map_alike p q r = ap (λ (x : Plex). map_or_zero x.map) r.same

  data_alike : (p q : Plex) → IsUsedAlike v0.name fresh fresh' p q → is_data_plex_of v.name q ≡ is_data_plex_of v0.name p
  data_alike p q r = ap (λ (n : Word). is_data_plex_of n q) name_is ∙ ap (λ (x : Plex). is_data_plex_of v0.name x) r.same

  log_alike : (p q : Plex) → IsUsedAlike v0.name fresh fresh' p q → is_log_plex_of v.name q ≡ is_log_plex_of v0.name p
  log_alike p q r = ap (λ (n : Word). is_log_plex_of n q) name_is ∙ ap (λ (x : Plex). is_log_plex_of v0.name x) r.same

  on_alike : (p q : Plex) → IsUsedAlike v0.name fresh fresh' p q → is_data_plex_of v0.name p ≡ true → is_on c good q ≡ is_on c0 good p
  on_alike p q r own = ap (λ (b : Bool). b && is_available_state q.state) (held_alike p q r) ∙ ap (λ (b : Bool). is_held c0 good p && b) (r.available own)

  -- what goes with the data plexes of a kind
  some_data : (S : Plex → Plex → Type 0) (t u : Plex → Bool) → ((p q : Plex) → IsUsedAlike v0.name fresh fresh' p q → is_data_plex_of v0.name p ≡ true → u q ≡ t p) → ((p q : Plex) → IsUsedAlike v0.name fresh fresh' p q → S p q) →
      AllZip S (filter (λ p. is_data_plex_of v0.name p && t p) c0.plexes) (filter (λ q. is_data_plex_of v.name q && u q) c.plexes)
  some_data S t u alike each =
      zip_filter (IsUsedAlike v0.name fresh fresh') S (λ p. is_data_plex_of v0.name p && t p) (λ q. is_data_plex_of v.name q && u q)
      (λ p q r. both_alike (is_data_plex_of v0.name p) (is_data_plex_of v.name q) (t p) (u q) (data_alike p q r) (alike p q r)) (λ p q r own. each p q r) c0.plexes c.plexes keeps.plexes

  abbrev SameMap : Plex → Plex → Type 0
  SameMap p q = map_or_zero q.map ≡ map_or_zero p.map

  on_maps : maps_of (on_plexes c good v.name) ≡ maps_of (on_plexes c0 good v0.name)
  on_maps = zip_maps (on_plexes c0 good v0.name) (on_plexes c good v.name) (some_data SameMap (is_on c0 good) (is_on c good) on_alike map_alike)

  off_maps : maps_of (off_plexes c good v.name) ≡ maps_of (off_plexes c0 good v0.name)
  off_maps = zip_maps (off_plexes c0 good v0.name) (off_plexes c good v.name) (some_data SameMap (λ p. not (is_on c0 good p)) (λ q. not (is_on c good q)) (λ p q r own. ap not (on_alike p q r own)) map_alike)

  held_maps : maps_of (held_plexes c good v.name) ≡ maps_of (held_plexes c0 good v0.name)
  held_maps = zip_maps (held_plexes c0 good v0.name) (held_plexes c good v.name) (some_data SameMap (is_held c0 good) (is_held c good) (λ p q r own. held_alike p q r) map_alike)

  used_alike : (dco dco0 : Option Word) → dco ≡ dco0 → AllZip (LiesStill c0 c) (used_logs dco0 c0 good fresh v0.name) (used_logs dco c good fresh' v.name)
  used_alike None None e = tt
  used_alike None (Some d) e = absurd cc
  used_alike (Some d) None e = absurd cc
  used_alike (Some d) (Some d0) e =
      zip_filter (IsUsedAlike v0.name fresh fresh') (LiesStill c0 c) (is_used_log c0 good fresh v0.name) (is_used_log c good fresh' v.name)
      (λ p q r.
      both_alike (is_log_plex_of v0.name p) (is_log_plex_of v.name q) (is_used_state fresh p.state && is_held c0 good p) (is_used_state fresh' q.state && is_held c good q) (log_alike p q r)
      (λ own. ap (λ (b : Bool). b && is_held c good q) (r.used own) ∙ ap (λ (b : Bool). is_used_state fresh p.state && b) (held_alike p q r))) (λ p q r own. lies_alike p q r) c0.plexes c.plexes keeps.plexes

  form_kept : (form : VolumeForm) → IsFormOf c0 good v0 fresh form → IsFormOf c good v fresh' form
  form_kept form is =
      record {
        shape_is = record {
          length_is = is.shape_is.length_is ∙ sym (ap (λ (x : Vol). x.len) keeps.vol);
          region_is = is.shape_is.region_is ∙ sym (ap (λ (x : Vol). x.region) keeps.vol);
          on = mask_of (maps_of (on_plexes c0 good v0.name)) (maps_of (on_plexes c good v.name)) form.shape.on on_maps is.shape_is.on;
          off = mask_of (maps_of (off_plexes c0 good v0.name)) (maps_of (off_plexes c good v.name)) form.shape.off off_maps is.shape_is.off;
          snaps = mask_of (relation_maps c0.snaps v0.name) (relation_maps c.snaps v.name) form.shape.snaps (ap (λ ss. relation_maps ss v.name) keeps.snaps ∙ ap (λ (n : Word). relation_maps c0.snaps n) name_is) is.shape_is.snaps;
        };
        maps = is.maps ∙ sym held_maps;
        layouts = layouts_still c0 c (held_plexes c0 good v0.name) (held_plexes c good v.name) form.layouts.items (some_data (LiesStill c0 c) (is_held c0 good) (is_held c good) (λ p q r own. held_alike p q r) lies_alike) is.layouts;
        logs = layouts_still c0 c (used_logs v0.dco c0 good fresh v0.name) (used_logs v.dco c good fresh' v.name) form.logs.items (used_alike v.dco v0.dco (ap (λ (x : Vol). x.dco) keeps.vol)) is.logs;
      }

pub each_form_is_kept : EachFormIsKept
each_form_is_kept c0 good v0 fresh form is c v fresh' keeps = form_kept c0 good v0 fresh c v fresh' keeps form is
