-- The first region that a loaded log shows without a current plex is the first one of which the image says it.
use Rattle.std.proofs.Common.{◌≡◌, ◌∙◌, ℕ, ◌<◌, ◌&&◌, not, Bool, true, false, refl, sym, ap, subst, arith}
use Rattle.std.specs.Prelude.{Contains}
use Rattle.std.specs.List.{filter}
use Rattle.std.proofs.lemmas.Bool.{false≢true}
use Rattle.vx_block.specs.Regions.{region_count}
use Rattle.vx_mask.specs.Mask.{has}
use Rattle.vx_config_parts.specs.declared.plex.Plex.{Plex}
use Rattle.vx_config_parts.specs.declared.vol.Vol.{Vol}
use Rattle.vx_config_parts.specs.Objects.{is_data_plex_of}
use Rattle.vx_objects.specs.declared.config.Config.{Config}
use Rattle.vx_image.proofs.PlexMembers.{IsIn, all_in, from_map, in_any, in_map}
use Rattle.vx_image.specs.Bytes.{Sectors, image_of, map_or_zero, plex_image}
use Rattle.vx_image.specs.Image.{Image, LogCopy, PlexImage, has_no_copy, is_available, is_marked_by_all, regions_of}
use Rattle.vx_image.specs.Meaning.{possible_read, sure_read}
use Rattle.vx_image.specs.UsedPlexes.{IsVolOf, is_on}
use Rattle.vx_image.proofs.Members.{contains, is_in}
use Rattle.vx_marks.specs.Log.{LogSeen}
use Rattle.vx_stages.specs.Starting.{IsFirstMissed}
use Rattle.vx_volume.specs.Opening.{IsFirstUnread, count_of}
use Rattle.vx_lending.specs.Form.{IsFormOf}
use Rattle.vx_lending.specs.declared.form.VolumeForm.{VolumeForm}
use Rattle.vx_lending.proofs.Bits.{into_on, kept, on_plex}
use Rattle.vx_lending.proofs.Distinct.{filtered}

module _ (c : Config) (good : ℕ) (bytes : Sectors) (v : Vol) (fresh : Bool) (form : VolumeForm) (of : IsVolOf c v) (is : IsFormOf c good v fresh form) (log : LogSeen) (copy : LogCopy) (one : Contains (image_of c good bytes v).copies copy)
    (claims : (r k : ℕ) → r < count_of form.shape → log.claims r k ≡ copy r k) (r : ℕ) (first : IsFirstUnread form.shape log r) where
  abbrev image : Image
  image = image_of c good bytes v

  same_count : count_of form.shape ≡ regions_of image
  same_count =
      ap (λ n. region_count n form.shape.geometry.region) is.shape_is.length_is
      ∙ ap (λ n. region_count v.len n) is.shape_is.region_is

  one_in : IsIn image.copies copy
  one_in = is_in image.copies copy one

  -- the region is marked there on each available plex
  marked : (p : PlexImage) → Contains image.plexes p → is_available p ≡ true → possible_read image p.map r ≡ true
  marked p there available =
      let f = from_map (plex_image c good bytes) (filter (is_data_plex_of v.name) c.plexes) p (is_in image.plexes p there) in
      let q : Plex = f.0 in
      let w = filtered (is_data_plex_of v.name) c.plexes q f.1 in
      let on : is_on c good q ≡ true = subst (λ x. is_available x ≡ true) f.2 available in
      let has_map : has form.shape.on (map_or_zero q.map) ≡ true = is.shape_is.on.each (map_or_zero q.map) ∙ into_on c good v q w.0 w.1 on in
      let shown : copy r (map_or_zero q.map) ≡ true =
      sym (claims r (map_or_zero q.map) first.inside) ∙ first.none (map_or_zero q.map) has_map in
      subst (λ (x : PlexImage). possible_read image x.map r ≡ true) (sym f.2)
      (in_any (λ (l : LogCopy). l r (map_or_zero q.map)) image.copies copy one_in shown)

  -- a map that a copy shows unmarked is not surely marked
  not_sure : (k q : ℕ) → copy q k ≡ false → sure_read image k q ≡ false
  not_sure k q clear = by (not (has_no_copy image)) (is_marked_by_all image q k) refl
    where
      by : (a b : Bool) → is_marked_by_all image q k ≡ b → (a && b) ≡ false
      by false b e = refl
      by true false e = refl
      by true true e = absurd (false≢true (sym clear ∙ all_in (λ (l : LogCopy). l q k) image.copies copy e one_in))

  pub first_missed : IsFirstMissed image r
  first_missed = record {
    inside = subst (λ n. r < n) same_count first.inside;
    here = marked;
    before = λ q low.
        let current = first.before q low in
        let p = on_plex c good v of form.shape is.shape_is current.0 current.1 in
        let ps = filter (is_data_plex_of v.name) c.plexes in
        let inside : q < count_of form.shape = before_inside q low first.inside in (
          plex_image c good bytes p.plex,
          contains image.plexes (plex_image c good bytes p.plex)
              (in_map (plex_image c good bytes) ps p.plex (kept (is_data_plex_of v.name) c.plexes p.plex p.there p.own)),
          p.on,
          not_sure (map_or_zero p.plex.map) q (ap (λ k. copy q k) p.map_is ∙ sym (claims q current.0 inside) ∙ current.2),
        );
  }
    where
      before_inside : (q : ℕ) → q < r → r < count_of form.shape → q < count_of form.shape
      before_inside q low inside = omega (arith, low, inside)
