-- The image of a volume of one data plex, and its soundness.
use Rattle.std.proofs.Common.{◌≡◌, ℕ, ◌<◌, Bool, false, [], ◌∷◌, map, refl, sym, ◌∙◌, ap, subst, inl}
use Rattle.std.specs.Prelude.{Contains}
use Rattle.std.proofs.lemmas.Bool.{false≢true, false_from_ne_true}
use Rattle.vx_layout.specs.Columns.{place_of}
use Rattle.vx_config_parts.specs.declared.plex.Plex.{Plex}
use Rattle.vx_config_parts.specs.declared.vol.Vol.{Vol}
use Rattle.vx_objects.specs.declared.config.Config.{Config}
use Rattle.vx_image.specs.Bytes.{Sectors, bytes_at, image_of, map_or_zero, plex_image}
use Rattle.vx_image.specs.Image.{Image, LogCopy, PlexImage, regions_of}
use Rattle.vx_image.specs.Soundness.{IsChoiceOfMarks, IsSoundBy, IsUnmarkedPlex, PlexesAgree}
use Rattle.vx_image.proofs.PlexMembers.{IsIn, any_in}
use Rattle.vx_image.proofs.Members.{contains, is_in}
use Rattle.vx_volume_laws.specs.Keeping.{data_plexes}
use Rattle.vx_group_edits.specs.Dcos.{ChangesDco}
use Rattle.vx_group_edits.specs.DcoLaws.{EachLoneImageIsSound, EachLonePlexHolds}
use Rattle.vx_group_edits.proofs.Lists.{only_in}

module _ (c : Config) (v : Vol) (c' : Config) (v' : Vol) (p p' : Plex) (changes : ChangesDco c v c' v' p p') (good : ℕ) (bytes : Sectors) where
  was : (image_of c good bytes v).plexes ≡ plex_image c good bytes p ∷ []
  was = ap (λ ps. map (plex_image c good bytes) ps) changes.was

  is : (image_of c' good bytes v').plexes ≡ plex_image c' good bytes p' ∷ []
  is =
      ap (λ n. map (plex_image c' good bytes) (data_plexes c' n)) (ap (λ (x : Vol). x.name) changes.volume)
      ∙ ap (λ ps. map (plex_image c' good bytes) ps) changes.is

  -- the plex holds what it held
  same : plex_image c' good bytes p' ≡ record (plex_image c good bytes p) { map = map_or_zero p'.map }
  same =
      let plex = changes.plex in
      let held = changes.held good in
      let unit = changes.lies.unit in
      let columns = changes.lies.columns in
      λ i. record { name = (plex i).name; map = map_or_zero p'.map; state = (plex i).state; held = held i; values = λ b. bytes_at bytes (place_of (unit i) (columns i) b) }

pub lone_plex_holds : EachLonePlexHolds
lone_plex_holds c v c' v' p p' changes good bytes =
    (plex_image c good bytes p, plex_image c' good bytes p', was c v c' v' p p' changes good bytes, is c v c' v' p p' changes good bytes, same c v c' v' p p' changes good bytes, changes.number)

module _ (v : Image) (p : PlexImage) (one : v.plexes ≡ p ∷ []) (clear : (c : LogCopy) → Contains v.copies c → (r k : ℕ) → r < regions_of v → c r k ≡ false) (r : ℕ) (B : ℕ → Bool) (inside : r < regions_of v) (choice : IsChoiceOfMarks v r B) where
  -- no choice marks anything
  unmarked : (k : ℕ) → B k ≡ false
  unmarked k =
      false_from_ne_true (B k)
      (λ h. let c = any_in (λ c. c r k) v.copies (choice.most k h) in false≢true (sym (clear c.0 (contains v.copies c.0 c.1) r k inside) ∙ c.2))

  -- there is one plex, and it agrees with itself
  agree : PlexesAgree v r B
  agree q s u w b inside here =
      let it : (x : PlexImage) → IsUnmarkedPlex v.plexes B x → x ≡ p = λ x m. only_in x p (subst (λ ps. IsIn ps x) one (is_in v.plexes x m.of)) in
      ap (λ (x : PlexImage). x.values b) (it q u ∙ sym (it s w))

  sound_by : IsSoundBy v r B
  sound_by = record {
    unmarked = (p, contains v.plexes p (subst (λ ps. IsIn ps p) (sym one) (inl refl)), unmarked p.map);
    agree = inl agree;
    tracked = λ m there none. agree;
  }

pub lone_image_sound : EachLoneImageIsSound
lone_image_sound v p one none clear r B inside choice = sound_by v p one clear r B inside choice
