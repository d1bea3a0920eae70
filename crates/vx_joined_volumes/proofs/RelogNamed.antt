-- The plexes of a volume of one plex that was given another log, by their names and maps.
use Rattle.std.proofs.Common.{◌≡◌, inl, inr, ℕ, false, List, [], ◌∷◌, ◌++◌, map, ◌∙◌, ap, subst}
use Rattle.std.specs.Prelude.{Contains}
use Rattle.vx_base.specs.Named.{Word}
use Rattle.vx_mask.proofs.Sets.{in_union}
use Rattle.vx_piece.specs.Seen.{Seen}
use Rattle.vx_pages.specs.declared.local_piece.LocalPiece.{Ghosts}
use Rattle.vx_config_parts.specs.declared.plex.Plex.{Plex}
use Rattle.vx_config_parts.specs.declared.vol.Vol.{Vol}
use Rattle.vx_config_parts.specs.Objects.{is_data_plex_of}
use Rattle.vx_objects.specs.declared.config.Config.{Config}
use Rattle.vx_image.proofs.PlexMembers.{IsIn}
use Rattle.vx_image.specs.Bytes.{Sectors, image_of, map_or_zero}
use Rattle.vx_image.specs.Image.{PlexImage}
use Rattle.vx_image.specs.UsedPlexes.{used_logs}
use Rattle.vx_lending.proofs.Bits.{kept}
use Rattle.vx_lending.specs.declared.public.Running.{Running}
use Rattle.vx_volume_laws.specs.Leaving.{AreNamedIn}
use Rattle.vx_volume_laws.proofs.Configurations.{kept_named, volume_kept}
use Rattle.vx_volume_laws.proofs.Held.{of_image}
use Rattle.vx_group_volumes.specs.Opened.{WereThere, opened_plexes}
use Rattle.vx_group_volumes.specs.Places.{RunsInPlace, disks_at}
use Rattle.vx_group_edits.specs.Dcos.{ChangesDco}
use Rattle.vx_joined_volumes.specs.Joined.{good_joined, mask_of_slots, opening_joined}
use Rattle.vx_joined_volumes.specs.RelogLaws.{EachReloggedVolumeIsNamed}
use Rattle.vx_joined_volumes.proofs.RelogForms.{data_now, held_all, name_is}
use Rattle.vx_joined_volumes.proofs.Runs.{kept_by}

abbrev name_of_plex : Plex → Word
name_of_plex q = q.name

only_in : {A : Type 0} (y x : A) → IsIn (y ∷ []) x → x ≡ y
only_in y x (inl same) = same
only_in y x (inr none) = absurd none

module _ {P : Type 0} {ghosts : Ghosts P} (see : P → Seen) (running : Running P ghosts) (c : Config) (good : ℕ) (numbers : List ℕ) (v : Vol) (placed : RunsInPlace see c good numbers v running)
    (c' : Config) (v' : Vol) (p p' : Plex) (changes : ChangesDco c v c' v' p p') where
  abbrev joined : ℕ
  joined = good_joined placed.runs.opening good

  same_name : p'.name ≡ p.name
  same_name = ap name_of_plex changes.plex

  names_relogged : opened_plexes (opening_joined placed.runs.opening c' good v') ≡ p.name ∷ map name_of_plex (used_logs v'.dco c' joined false v.name)
  names_relogged =
      ap (λ ps. map name_of_plex ps ++ map name_of_plex (used_logs v'.dco c' joined false v'.name)) (held_all see running c good numbers v placed c' v' p p' changes)
      ∙ ap (λ n. n ∷ map name_of_plex (used_logs v'.dco c' joined false v'.name)) same_name
      ∙ ap (λ n. p.name ∷ map name_of_plex (used_logs v'.dco c' joined false n)) (name_is see running c good numbers v placed c' v' p p' changes)

  were_relogged : (some : Sectors) → WereThere (opening_joined placed.runs.opening c' good v') (image_of c' good some v').plexes
  were_relogged some bytes =
      kept_named c' joined v' false c' good v' (kept_by c' joined good v' (λ slot here. in_union (mask_of_slots (disks_at placed.runs.opening)) good slot (inr here))) bytes some

  are_relogged : (some bytes : Sectors) → AreNamedIn (image_of c' good bytes v').plexes (image_of c' good some v').plexes
  are_relogged some bytes = kept_named c' good v' false c' good v' (volume_kept c' good v') some bytes

  one_relogged : (some : Sectors) (q : PlexImage) → Contains (image_of c' good some v').plexes q → (q.name ≡ p.name) × (q.map ≡ 0)
  one_relogged some q there =
      let of = of_image c' good some v' q there in
      let among = subst (λ ps. IsIn ps of.plex) (data_now see running c good numbers v placed c' v' p p' changes) (kept (is_data_plex_of v'.name) c'.plexes of.plex of.there of.of) in
      let same = only_in p' of.plex among in (
        ap (λ (x : PlexImage). x.name) of.is ∙ ap name_of_plex same ∙ same_name,
        ap (λ (x : PlexImage). x.map) of.is ∙ ap (λ (x : Plex). map_or_zero x.map) same ∙ changes.number,
      )

pub each_volume_renamed : {P : Type 0} {ghosts : Ghosts P} (see : P → Seen) (running : Running P ghosts) → EachReloggedVolumeIsNamed see running
each_volume_renamed see running c good numbers v placed c' v' p p' changes region = (
  names_relogged see running c good numbers v placed c' v' p p' changes,
  λ some. (
    were_relogged see running c good numbers v placed c' v' p p' changes some,
    λ bytes. are_relogged see running c good numbers v placed c' v' p p' changes some bytes,
    λ q there. one_relogged see running c good numbers v placed c' v' p p' changes some q there,
  ),
)
