-- A volume of one plex that gets logs, or loses them, lies within the candidates that it lay within, if it is sound so.
use Rattle.std.proofs.Common.{◌≡◌, ◌∙◌, ℕ, ◌/◌, ◌<◌, ◌==◌, ◌||◌, true, false, List, [], ◌∷◌, length, refl, sym, ap, subst, inl}
use Rattle.std.specs.Prelude.{Contains}
use Rattle.std.proofs.lemmas.Bool.{and_from, and_parts}
use Rattle.vx_life.specs.Candidates.{Candidates, IsAmong}
use Rattle.vx_config_parts.specs.declared.plex.Plex.{Plex}
use Rattle.vx_config_parts.specs.declared.vol.Vol.{Vol}
use Rattle.vx_objects.specs.declared.config.Config.{Config}
use Rattle.vx_image.specs.Bytes.{Sectors, image_of}
use Rattle.vx_image.specs.Image.{Image, PlexImage, is_alone, is_available, is_read, is_unmarked_by_some}
use Rattle.vx_image.specs.Meaning.{IsReadAt}
use Rattle.vx_image.specs.Soundness.{IsSoundImage}
use Rattle.vx_image.specs.UsedPlexes.{IsVolOf}
use Rattle.vx_image.proofs.Members.{contains, from_filter, into_filter, is_in}
use Rattle.vx_image.proofs.PlexMembers.{IsIn}
use Rattle.vx_state_edits.specs.Edits.{is_new}
use Rattle.vx_moments.proofs.Blocks.{below_count}
use Rattle.vx_group_edits.specs.Dcos.{ChangesDco}
use Rattle.vx_group_edits.proofs.Lists.{only_in}
use Rattle.vx_group_edits.proofs.LoneImages.{lone_plex_holds}
use Rattle.vx_sound_imports.specs.Left.{LiesWithin}
use Rattle.vx_sound_imports.proofs.Alike.{started_read}
use Rattle.vx_sound_imports.proofs.Kept.{lone_read, some_blocks}

module _ (c c' : Config) (v v' : Vol) (p p' : Plex) (changes : ChangesDco c v c' v' p p') (of : IsVolOf c v) (started : is_new v.state ≡ false) (good : ℕ) (bytes : Sectors) (candidates : Candidates)
    (lies : LiesWithin (image_of c good bytes v) candidates) where
  abbrev old : Image
  old = image_of c good bytes v

  abbrev new : Image
  new = image_of c' good bytes v'

  holds : (q : PlexImage) × (q' : PlexImage) × (old.plexes ≡ q ∷ []) × (new.plexes ≡ q' ∷ []) × (q' ≡ record q { map = q'.map }) × (q'.map ≡ 0)
  holds = lone_plex_holds c v c' v' p p' changes good bytes

  abbrev q : PlexImage
  q = holds.0

  there : Contains old.plexes q
  there = contains old.plexes q (subst (λ ps. IsIn ps q) (sym holds.2) (inl refl))

  lonely : (length old.plexes == 1) ≡ true
  lonely = ap (λ (ps : List PlexImage). length ps == 1) holds.2

  -- the one plex was read at each block, wherever it is available
  was_read : (b : ℕ) → b < v.len → is_available q ≡ true → IsReadAt old b q
  was_read b low available =
      let r = b / v.region in
      let read = lone_read old lies.sound lonely q there r (below_count b v.len v.region (some_blocks c v of) low) in
      subst (λ (ps : List PlexImage). Contains ps q) (sym (started_read v.state old r started))
      (into_filter (is_read old r) old.plexes q there (and_from (is_available q) (is_unmarked_by_some old r q.map || is_alone old) available read))

  one_among : (b : ℕ) → b < v.len → (x : PlexImage) → Contains new.plexes x → is_available x ≡ true → IsAmong (candidates b) (x.values b)
  one_among b low x one available =
      let same : x ≡ record q { map = holds.1.map } = only_in x holds.1 (subst (λ ps. IsIn ps x) holds.3 (is_in new.plexes x one)) ∙ holds.4 in
      subst (λ (y : PlexImage). IsAmong (candidates b) (y.values b)) (sym same) (lies.among b low q (was_read b low (subst (λ (y : PlexImage). is_available y ≡ true) same available)))

  pub lone_within : IsSoundImage new → LiesWithin new candidates
  lone_within sound = record {
    sound = sound;
    among = λ b low x at.
        let r = b / v'.region in
        let still : is_new v'.state ≡ false = ap (λ (y : Vol). is_new y.state) changes.volume ∙ started in
        let found = from_filter (is_read new r) new.plexes x (subst (λ (ps : List PlexImage). Contains ps x) (started_read v'.state new r still) at) in
        one_among b (subst (λ n. b < n) (ap (λ (y : Vol). y.len) changes.volume) low) x found.0 (and_parts (is_available x) (is_unmarked_by_some new r x.map || is_alone new) found.1).0;
  }
