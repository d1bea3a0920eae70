-- The plexes of a volume that a plex has joined, by their names and maps.
use Rattle.std.proofs.Common.{◌≡◌, ◌⊎◌, inl, inr, ℕ, false, List, [], ◌∷◌, ◌++◌, map, refl, sym, ◌∙◌, ap, subst}
use Rattle.std.specs.Prelude.{Contains}
use Rattle.std.proofs.lemmas.List.{append_assoc, map-append}
use Rattle.vx_base.specs.Named.{Word}
use Rattle.vx_piece.specs.Seen.{Seen}
use Rattle.vx_pages.specs.declared.local_piece.LocalPiece.{Ghosts}
use Rattle.vx_config_parts.specs.declared.object.Object.{Object}
use Rattle.vx_config_parts.specs.declared.plex.Plex.{Plex}
use Rattle.vx_config_parts.specs.declared.vol.Vol.{Vol}
use Rattle.vx_objects.specs.declared.config.Config.{Config}
use Rattle.vx_image.proofs.PlexMembers.{IsIn, in_either, in_left, in_right}
use Rattle.vx_image.specs.Bytes.{Sectors, image_of, map_or_zero}
use Rattle.vx_image.specs.Image.{PlexImage}
use Rattle.vx_image.specs.UsedPlexes.{held_plexes, used_logs}
use Rattle.vx_image.proofs.Members.{contains, is_in}
use Rattle.vx_lending.specs.declared.public.Running.{Running}
use Rattle.vx_volume_laws.specs.Leaving.{AreNamedIn}
use Rattle.vx_volume_laws.proofs.Held.{in_image, of_image}
use Rattle.vx_change_laws.specs.Joining.{AreJoinedBy, IsMapOfNone, IsNameOfNone}
use Rattle.vx_group_edits.specs.Joins.{plexes_in}
use Rattle.vx_group_volumes.specs.Opened.{WereThere, opened_plexes}
use Rattle.vx_group_volumes.specs.Places.{RunsInPlace}
use Rattle.vx_group_volumes.specs.Runs.{Opening}
use Rattle.vx_joined_volumes.specs.Joined.{JoinsOne, good_joined, opening_joined}
use Rattle.vx_joined_volumes.specs.Laws.{EachJoinedVolumeIsNamed, IsNamedSo}
use Rattle.vx_joined_volumes.proofs.Forms.{held_joined, joins, logs_joined, new_there, other_map}
use Rattle.vx_joined_volumes.proofs.Now.{IsNow, image_now}
use Rattle.vx_joined_volumes.proofs.Plexes.{IsSameData, IsSameLog, held_same, logs_same}
use Rattle.vx_joined_volumes.proofs.Zips.{zip_map}

abbrev name_of_plex : Plex → Word
name_of_plex q = q.name

module _ {P : Type 0} {ghosts : Ghosts P} (see : P → Seen) (running : Running P ghosts) (c : Config) (good : ℕ) (numbers : List ℕ) (v : Vol) (placed : RunsInPlace see c good numbers v running)
    (added : List Object) (c' : Config) (p : Plex) (m : ℕ) (one : JoinsOne c good v added c' p m) where
  abbrev o : Opening
  o = placed.runs.opening

  abbrev joined : ℕ
  joined = good_joined placed.runs.opening good

  -- ---- the names that it counts as opened with

  data_names : map name_of_plex (held_plexes c' joined v.name) ≡ map name_of_plex (held_plexes o.config o.good o.vol.name) ++ p.name ∷ []
  data_names =
      ap (λ ps. map name_of_plex ps) (held_joined see running c good numbers v placed added c' p m one)
      ∙ map-append name_of_plex (held_plexes c joined v.name) (p ∷ [])
      ∙ ap (λ ns. ns ++ p.name ∷ [])
      (zip_map (IsSameData o.config o.good c joined) name_of_plex name_of_plex (λ x y s. s.same.name) (held_plexes o.config o.good o.vol.name) (held_plexes c joined v.name) (held_same see running c good numbers v placed))

  log_names : map name_of_plex (used_logs v.dco c' joined false v.name) ≡ map name_of_plex (used_logs o.vol.dco o.config o.good o.fresh o.vol.name)
  log_names =
      ap (λ ps. map name_of_plex ps) (logs_joined see running c good numbers v placed added c' p m one)
      ∙ zip_map (IsSameLog o.config o.good o.fresh c joined) name_of_plex name_of_plex (λ x y s. s.same.name) (used_logs o.vol.dco o.config o.good o.fresh o.vol.name) (used_logs v.dco c joined false v.name) (logs_same see running c good numbers v placed)

  names_joined : opened_plexes (opening_joined placed.runs.opening c' good v) ≡
      map name_of_plex (held_plexes o.config o.good o.vol.name) ++ p.name ∷ map name_of_plex (used_logs o.vol.dco o.config o.good o.fresh o.vol.name)
  names_joined =
      ap (λ ns. ns ++ map name_of_plex (used_logs v.dco c' joined false v.name)) data_names
      ∙ ap (λ ns. (map name_of_plex (held_plexes o.config o.good o.vol.name) ++ p.name ∷ []) ++ ns) log_names
      ∙ append_assoc (map name_of_plex (held_plexes o.config o.good o.vol.name)) (p.name ∷ []) (map name_of_plex (used_logs o.vol.dco o.config o.good o.fresh o.vol.name))

  -- ---- its plexes

  -- a data plex that was there is there still
  stays : (q : Plex) → IsIn c.plexes q → IsIn c'.plexes q
  stays q there = subst (λ ps. IsIn ps q) (sym (joins see running c good numbers v placed added c' p m one).plexes) (in_left c.plexes (plexes_in added) q there)

  -- .. and each is one that was there, or the new one
  came : (q : Plex) → IsIn c'.plexes q → IsIn c.plexes q ⊎ (q ≡ p)
  came q there =
      let all = (joins see running c good numbers v placed added c' p m one).plexes ∙ ap (λ ps. c.plexes ++ ps) one.alone in
      elim (in_either c.plexes (p ∷ []) q (subst (λ ps. IsIn ps q) all there)) [
        | inl old ↦ inl old
        | inr new ↦ elim new [ inl same ↦ inr same | inr none ↦ absurd none ]
      ]

  module _ (plexes : List PlexImage) (were : WereThere placed.runs.opening plexes) (are : (bytes : Sectors) → AreNamedIn (image_of c good bytes v).plexes plexes) (image : PlexImage) (name_is : image.name ≡ p.name) (map_is : image.map ≡ m) where
    abbrev later : List PlexImage
    later = plexes ++ image ∷ []

    now : (x : PlexImage) → Contains plexes x → IsNow c v x
    now x here = image_now see running c good numbers v placed plexes were x here

    either : (x : PlexImage) → Contains later x → Contains plexes x ⊎ (x ≡ image)
    either x here = elim (in_either plexes (image ∷ []) x (is_in later x here)) [
      | inl old ↦ inl (contains plexes x old)
      | inr new ↦ elim new [ inl same ↦ inr same | inr none ↦ absurd none ]
    ]

    were_later : WereThere (opening_joined placed.runs.opening c' good v) later
    were_later bytes x here = elim (either x here) [
      | inl old ↦ let q = now x old in (_, in_image c' joined bytes v q.plex (stays q.plex q.there) q.own, q.name, q.map)
      | inr same ↦ (
        _,
        in_image c' joined bytes v p (new_there see running c good numbers v placed added c' p m one) one.data_is,
        sym (ap (λ (y : PlexImage). y.name) same ∙ name_is),
        ap map_or_zero one.map ∙ sym (ap (λ (y : PlexImage). y.map) same ∙ map_is),
      )
    ]

    are_later : (good' : ℕ) (bytes : Sectors) → AreNamedIn (image_of c' good' bytes v).plexes later
    are_later good' bytes x here =
        let q = of_image c' good' bytes v x here in
        elim (came q.plex q.there) [
          | inl old ↦
              let y = are bytes _ (in_image c good bytes v q.plex old q.of) in
              (y.0, contains later y.0 (in_left plexes (image ∷ []) y.0 (is_in plexes y.0 y.1)), y.2 ∙ sym (ap (λ (z : PlexImage). z.name) q.is), y.3 ∙ sym (ap (λ (z : PlexImage). z.map) q.is))
          | inr same ↦ (
            image,
            contains later image (in_right plexes (image ∷ []) image (inl refl)),
            name_is ∙ sym (ap (λ (z : PlexImage). z.name) q.is ∙ ap name_of_plex same),
            map_is ∙ sym (ap (λ (z : PlexImage). z.map) q.is ∙ ap (λ (w : Plex). map_or_zero w.map) same ∙ ap map_or_zero one.map),
          )
        ]

    joined_by : AreJoinedBy p.name m plexes later
    joined_by x here = elim (either x here) [
      | inl old ↦ inl (x, old, refl, refl)
      | inr same ↦ inr (ap (λ (y : PlexImage). y.name) same ∙ name_is, ap (λ (y : PlexImage). y.map) same ∙ map_is)
    ]

    new_map : IsMapOfNone m plexes
    new_map x here same = let q = now x here in other_map see running c good numbers v placed added c' p m one q.plex q.there q.own (q.map ∙ same)

    new_name : IsNameOfNone p.name plexes
    new_name x here same =
        let q = now x here in
        let is_new = (joins see running c good numbers v placed added c' p m one).new p (contains (plexes_in added) p (subst (λ ps. IsIn ps p) (sym one.alone) (inl refl))) in
        is_new.name q.plex (contains c.plexes q.plex q.there) (q.name ∙ same)

    named_so : IsNamedSo (opening_joined placed.runs.opening c' good v) c' v p m plexes later
    named_so = record { were = were_later; are = are_later; joined = joined_by; map = new_map; name = new_name }

pub each_volume_named : {P : Type 0} {ghosts : Ghosts P} (see : P → Seen) (running : Running P ghosts) → EachJoinedVolumeIsNamed see running
each_volume_named see running c good numbers v placed added c' p m one =
    (names_joined see running c good numbers v placed added c' p m one, λ plexes were are image name_is map_is. named_so see running c good numbers v placed added c' p m one plexes were are image name_is map_is)
