-- A volume with a plex that each copy of its log marks everywhere lies within the candidates that it lay within, if it is sound so.
use Rattle.std.proofs.Common.{◌≡◌, ◌∙◌, ℕ, ◌/◌, ◌<◌, ◌==◌, ◌||◌, not, true, false, List, [], ◌∷◌, ◌++◌, length, sym, ap, subst, inl, inr, arith, length-append}
use Rattle.std.specs.Prelude.{Contains}
use Rattle.std.proofs.lemmas.Bool.{and_from, and_parts, eqb-true, false≢true}
use Rattle.vx_life.specs.Candidates.{Candidates}
use Rattle.vx_mask.proofs.Tests.{or_cases, or_from_left}
use Rattle.vx_config_parts.specs.declared.object.Object.{Object}
use Rattle.vx_config_parts.specs.declared.plex.Plex.{Plex}
use Rattle.vx_config_parts.specs.declared.vol.Vol.{Vol}
use Rattle.vx_objects.specs.declared.config.Config.{Config}
use Rattle.vx_objects.specs.declared.edit.Edit.TheVariants.{Make}
use Rattle.vx_objects.specs.Applied.{IsEdited}
use Rattle.vx_image.specs.Bytes.{Sectors, image_of, map_or_zero, plex_image}
use Rattle.vx_image.specs.Image.{Image, LogCopy, PlexImage, has_no_copy, is_alone, is_available, is_marked_by_all, is_read, is_unmarked_by_some, regions_of}
use Rattle.vx_image.specs.Meaning.{StandsForCandidates}
use Rattle.vx_image.specs.Soundness.{IsSoundImage}
use Rattle.vx_image.specs.UsedPlexes.{IsVolOf}
use Rattle.vx_image.proofs.Members.{contains, each_from_all, from_filter, into_filter, is_in, one_from_any}
use Rattle.vx_image.proofs.PlexMembers.{IsIn, in_either, in_map}
use Rattle.vx_state_edits.specs.Edits.{is_new}
use Rattle.vx_moments.proofs.Blocks.{below_count}
use Rattle.vx_volume_laws.specs.Keeping.{data_plexes}
use Rattle.vx_group_edits.specs.Joins.{with_plex}
use Rattle.vx_group_edits.specs.Mirrors.{IsMirrorAt}
use Rattle.vx_group_edits.proofs.PlexAdded.{image_added}
use Rattle.vx_sound_imports.specs.Left.{LiesWithin}
use Rattle.vx_sound_imports.proofs.Alike.{started_read}
use Rattle.vx_sound_imports.proofs.Kept.{some_blocks}

-- a list with another element behind is not of one
not_one : {X : Type 0} (xs : List X) (x y : X) → IsIn xs x → (length (xs ++ y ∷ []) == 1) ≡ true → ⊥
not_one [] x y one lonely = one
not_one (z ∷ xs) x y one lonely = let two = eqb-true (length ((z ∷ xs) ++ y ∷ [])) 1 lonely in let more = length-append xs (y ∷ []) in omega (arith, two, more)

-- ---- one plex more

module _ (v : Image) (p : PlexImage) (q : PlexImage) (other : Contains v.plexes q) (started : is_new v.state ≡ false) (sized : 0 < v.region) (candidates : Candidates) (among : StandsForCandidates v candidates)
    (marked : (r : ℕ) → r < regions_of v → is_marked_by_all v r p.map ≡ true) where
  -- none is read as the only one
  not_alone : is_alone (with_plex v p) ≡ true → ⊥
  not_alone alone = not_one v.plexes q p (is_in v.plexes q other) (and_parts (has_no_copy (with_plex v p)) (length (v.plexes ++ p ∷ []) == 1) alone).1

  unmarked : (r : ℕ) (x : PlexImage) → (is_unmarked_by_some (with_plex v p) r x.map || is_alone (with_plex v p)) ≡ true → is_unmarked_by_some v r x.map ≡ true
  unmarked r x read = elim (or_cases (is_unmarked_by_some (with_plex v p) r x.map) (is_alone (with_plex v p)) read) [ inl clear ↦ clear | inr alone ↦ absurd (not_alone alone) ]

  -- and so the new one is not read
  not_new : (r : ℕ) → r < regions_of v → is_unmarked_by_some v r p.map ≡ true → ⊥
  not_new r low clear =
      let c = one_from_any (λ (x : LogCopy). not (x r p.map)) v.copies clear in
      false≢true (sym (ap not (each_from_all (λ (x : LogCopy). x r p.map) v.copies c.0 (marked r low) c.1)) ∙ c.2)

  pub more_among : StandsForCandidates (with_plex v p) candidates
  more_among b low x at =
      let r = b / v.region in
      let found = from_filter (is_read (with_plex v p) r) (v.plexes ++ p ∷ []) x (subst (λ (ps : List PlexImage). Contains ps x) (started_read v.state (with_plex v p) r started) at) in
      let parts = and_parts (is_available x) (is_unmarked_by_some (with_plex v p) r x.map || is_alone (with_plex v p)) found.1 in
      let clear = unmarked r x parts.1 in
      elim (in_either v.plexes (p ∷ []) x (is_in (v.plexes ++ p ∷ []) x found.0)) [
        | inl before ↦
            let was = contains v.plexes x before in
            among b low x (subst (λ (ps : List PlexImage). Contains ps x) (sym (started_read v.state v r started))
            (into_filter (is_read v r) v.plexes x was (and_from (is_available x) (is_unmarked_by_some v r x.map || is_alone v) parts.0 (or_from_left (is_unmarked_by_some v r x.map) (is_alone v) clear))))
        | inr last ↦ absurd (only last (λ same. not_new r (below_count b v.length v.region sized low) (subst (λ (y : PlexImage). is_unmarked_by_some v r y.map ≡ true) same clear)))
      ]
    where
      only : IsIn (p ∷ []) x → (x ≡ p → ⊥) → ⊥
      only (inl same) never = never same
      only (inr none) never = none

-- ---- a mirror

module _ (c c' : Config) (good : ℕ) (bytes : Sectors) (v : Vol) (of : IsVolOf c v) (started : is_new v.state ≡ false) (m : ℕ) (added : List Object) (p : Plex) (is : IsMirrorAt v m added p) (edited : IsEdited (Make added ∷ []) c c')
    (lowest : Plex) (there : IsIn (data_plexes c v.name) lowest) (marked : (r : ℕ) → r < regions_of (image_of c good bytes v) → is_marked_by_all (image_of c good bytes v) r m ≡ true) where
  pub mirrored_within : (candidates : Candidates) → LiesWithin (image_of c good bytes v) candidates → IsSoundImage (image_of c' good bytes v) → LiesWithin (image_of c' good bytes v) candidates
  mirrored_within candidates lies sound =
      let was = image_of c good bytes v in
      let more = plex_image c' good bytes p in
      let other = plex_image c good bytes lowest in
      let map_is : more.map ≡ m = ap map_or_zero is.map in
      record {
        sound = sound;
        among = subst (λ (i : Image). StandsForCandidates i candidates) (sym (image_added c c' good bytes v added p is.plexes is.own is.of edited))
            (more_among was more other (contains was.plexes other (in_map (plex_image c good bytes) (data_plexes c v.name) lowest there)) started (some_blocks c v of) candidates lies.among
            (λ r low. subst (λ k. is_marked_by_all was r k ≡ true) (sym map_is) (marked r low)));
      }
