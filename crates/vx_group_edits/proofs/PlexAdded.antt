-- The image of a volume to which one data plex is added is that which it had, with what the plex holds behind it.
use Rattle.std.proofs.Common.{◌≡◌, ◌∙◌, ℕ, Bool, true, false, cond, List, [], ◌∷◌, ◌++◌, map, Option, Some, None, refl, ap}
use Rattle.std.specs.Prelude.{◌&&◌}
use Rattle.std.specs.List.{filter}
use Rattle.std.proofs.lemmas.Bool.{false≢true}
use Rattle.std.proofs.lemmas.List.{append-nil}
use Rattle.vx_base.specs.Named.{Word}
use Rattle.vx_mapfmt.specs.Bits.{is_headed}
use Rattle.vx_config_parts.specs.declared.object.Object.{Object}
use Rattle.vx_config_parts.specs.declared.plex.Plex.{Plex}
use Rattle.vx_config_parts.specs.declared.plex.PlexKind.{PlexKind}
use Rattle.vx_config_parts.specs.declared.plex.PlexKind.TheVariants.{Data, Log}
use Rattle.vx_config_parts.specs.declared.vol.Vol.{Vol}
use Rattle.vx_config_parts.specs.Objects.{is_data, is_data_plex_of, is_log, refers}
use Rattle.vx_objects.specs.declared.config.Config.{Config}
use Rattle.vx_objects.specs.declared.edit.Edit.TheVariants.{Make}
use Rattle.vx_objects.specs.Applied.{IsEdited}
use Rattle.vx_image.specs.Bytes.{Sectors, image_of, is_active, is_held, is_log_copy, plex_contents, plex_image, plex_marks}
use Rattle.vx_image.specs.Image.{Image, LogCopy, PlexImage}
use Rattle.vx_group_edits.specs.OfVolume.{AreOf}
use Rattle.vx_group_edits.specs.Joins.{copies_in, images_in, joined_image, plexes_in, with_plex}
use Rattle.vx_group_edits.proofs.Joined.{image_joined}

-- a data plex is none of a log
not_log : (own : Bool) (k : PlexKind) (rest : Bool) → (own && is_data k) ≡ true → ((own && is_log k) && rest) ≡ false
not_log true Data rest of_data = refl
not_log true Log rest of_data = absurd (false≢true of_data)
not_log false k rest of_data = refl

module _ (c c' : Config) (good : ℕ) (bytes : Sectors) (v : Vol) (added : List Object) (p : Plex) (one : plexes_in added ≡ p ∷ []) (of_data : is_data_plex_of v.name p ≡ true) where
  abbrev was : Image
  was = image_of c good bytes v

  images_one : images_in c' good bytes v added ≡ plex_image c' good bytes p ∷ []
  images_one =
      ap (λ ps. map (plex_image c' good bytes) (filter (is_data_plex_of v.name) ps)) one
      ∙ ap (λ (b : Bool). map (plex_image c' good bytes) (cond b (p ∷ []) [])) of_data

  no_copy : is_log_copy c' good bytes v p ≡ false
  no_copy = not_log (refers p.vol v.name) p.kind (is_active p.state && (is_held c' good p && is_headed v.len v.region (plex_contents c' bytes p))) of_data

  copies_none : (dco : Option Word) → copies_in dco c' good bytes v added ≡ []
  copies_none None = refl
  copies_none (Some dco) =
      ap (λ ps. map (plex_marks c' bytes v) (filter (is_log_copy c' good bytes v) ps)) one
      ∙ ap (λ (b : Bool). map (plex_marks c' bytes v) (cond b (p ∷ []) [])) no_copy

  joined_one : joined_image c c' good bytes v added ≡ with_plex was (plex_image c' good bytes p)
  joined_one =
      let copies : was.copies ++ copies_in v.dco c' good bytes v added ≡ was.copies = ap (λ (cs : List LogCopy). was.copies ++ cs) (copies_none v.dco) ∙ append-nil was.copies in
      let images : was.plexes ++ images_in c' good bytes v added ≡ was.plexes ++ plex_image c' good bytes p ∷ [] = ap (λ (ps : List PlexImage). was.plexes ++ ps) images_one in
      λ i. record { state = v.state; length = v.len; region = v.region; plexes = images i; snaps = was.snaps; copies = copies i }

  pub image_added : AreOf v.name added → IsEdited (Make added ∷ []) c c' → image_of c' good bytes v ≡ with_plex was (plex_image c' good bytes p)
  image_added of edited = image_joined c c' v added of edited good bytes ∙ joined_one
