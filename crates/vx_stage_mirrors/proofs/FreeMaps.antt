-- A map that none of the plexes and relations of a volume has is free in its regions.
use Rattle.std.proofs.Common.{◌≡◌, ◌≢◌, ◌∙◌, ℕ, ◌<◌, Bool, true, false, List, refl, sym, ap, subst}
use Rattle.std.specs.Prelude.{◌&&◌, ◌==◌, Contains, is_some, nat_lt}
use Rattle.std.proofs.lemmas.Bool.{and_parts, eqb-true}
use Rattle.vx_mask.specs.Mask.{has}
use Rattle.vx_piece.specs.Seen.{Seen}
use Rattle.vx_pages.specs.declared.local_piece.LocalPiece.{Ghosts}
use Rattle.vx_config_parts.specs.declared.plex.Plex.{Plex}
use Rattle.vx_config_parts.specs.declared.vol.Vol.{Vol}
use Rattle.vx_config_parts.specs.Objects.{is_data_plex_of}
use Rattle.vx_objects.specs.declared.config.Config.{Config}
use Rattle.vx_image.proofs.PlexMembers.{IsIn, any_in, from_map}
use Rattle.vx_image.proofs.Members.{contains}
use Rattle.vx_image.specs.Bytes.{map_or_zero, relation_maps}
use Rattle.vx_image.specs.UsedPlexes.{is_on, maps_of, off_plexes, on_plexes}
use Rattle.vx_volume.specs.Changing.{IsFreeIn}
use Rattle.vx_volume.specs.Volume.{VolumeSeen, cell_at, volume_seen}
use Rattle.vx_lending.proofs.Bits.{kept}
use Rattle.vx_lending.proofs.Distinct.{filtered}
use Rattle.vx_lending.specs.RegionsTaken.{is_among}
use Rattle.vx_volume_laws.specs.Keeping.{KeepsPlex, data_plexes}
use Rattle.vx_volume_laws.specs.Lying.{HasMasksOf}
use Rattle.vx_volume_laws.proofs.Plexes.{zip_left}
use Rattle.vx_lending.specs.declared.public.Running.{Running}
use Rattle.vx_group_volumes.specs.Runs.{RunsIn}
use Rattle.vx_stage_mirrors.specs.MarkingLaws.{EachFreeMapIsFree}

-- what would lead to nothing is not so
not_so : (b : Bool) → (b ≡ true → ⊥) → b ≡ false
not_so true never = absurd (never refl)
not_so false never = refl

-- a map that none of the plexes has is not among their maps
none_among : (m : ℕ) (ps : List Plex) → ((p : Plex) → IsIn ps p → map_or_zero p.map ≢ m) → is_among m (maps_of ps) ≡ false
none_among m ps each = not_so (is_among m (maps_of ps)) (λ any.
    let x = any_in (λ n. n == m) (maps_of ps) any in
    let p = from_map (λ (p : Plex). map_or_zero p.map) ps x.0 x.1 in
    each p.0 p.1 (sym p.2 ∙ eqb-true x.0 m x.2))

module _ {P : Type 0} {ghosts : Ghosts P} (see : P → Seen) (running : Running P ghosts) (c : Config) (good : ℕ) (numbers : List ℕ) (v : Vol) (runs : RunsIn see c good numbers v running) (prepared : is_some v.dco ≡ true)
    (m : ℕ) (low : m < 30) (none : (p : Plex) → Contains (data_plexes c v.name) p → map_or_zero p.map ≢ m) (apart : Contains (relation_maps c.snaps v.name) m → ⊥) where
  abbrev c0 : Config
  c0 = runs.opening.config

  abbrev v0 : Vol
  v0 = runs.opening.vol

  abbrev seen : VolumeSeen
  seen = volume_seen see running.volume

  has_log : seen.log.there ≡ true
  has_log =
      let l = runs.lies.lies in
      l.log.there ∙ ap (λ n. nat_lt 0 n) l.logs.long ∙ runs.logged ∙ prepared

  -- no data plex had it as the volume was opened
  none_then : (p : Plex) → IsIn c0.plexes p → is_data_plex_of v0.name p ≡ true → map_or_zero p.map ≢ m
  none_then p there own same =
      let k = KeepsPlex c0 runs.opening.good c good in
      let q = zip_left k (data_plexes c0 v0.name) (data_plexes c v.name) runs.keeps.plexes p (kept (is_data_plex_of v0.name) c0.plexes p there own) in
      none q.0 (contains (data_plexes c v.name) q.0 q.1) (q.2.map ∙ same)

  none_on : is_among m (maps_of (on_plexes c0 runs.opening.good v0.name)) ≡ false
  none_on = none_among m (on_plexes c0 runs.opening.good v0.name) (λ p there.
      let f = filtered (λ p. is_data_plex_of v0.name p && is_on c0 runs.opening.good p) c0.plexes p there in
      none_then p f.0 (and_parts (is_data_plex_of v0.name p) _ f.1).0)

  none_off : is_among m (maps_of (off_plexes c0 runs.opening.good v0.name)) ≡ false
  none_off = none_among m (off_plexes c0 runs.opening.good v0.name) (λ p there.
      let f = filtered _ c0.plexes p there in
      none_then p f.0 (and_parts (is_data_plex_of v0.name p) _ f.1).0)

  none_related : is_among m (relation_maps c0.snaps v0.name) ≡ false
  none_related = not_so (is_among m (relation_maps c0.snaps v0.name)) (λ any.
      let x = any_in (λ n. n == m) (relation_maps c0.snaps v0.name) any in
      let there : IsIn (relation_maps c0.snaps v0.name) m = subst (IsIn (relation_maps c0.snaps v0.name)) (eqb-true x.0 m x.2) x.1 in
      apart (contains (relation_maps c.snaps v.name) m (subst (λ maps. IsIn maps m) (sym runs.keeps.relations) there)))

  pub map_free : IsFreeIn m seen
  map_free = record {
    there = has_log;
    low = low;
    each = λ r lt.
        let s : HasMasksOf running.form.shape seen.log.there (cell_at seen r).stage = runs.lies.lies.masks r lt in
        let shape = runs.form.shape_is in
        record {
          on = ap (λ mask. has mask m) s.on ∙ shape.on.each m ∙ none_on;
          off = ap (λ mask. has mask m) s.off ∙ shape.off.each m ∙ none_off;
          snaps = ap (λ mask. has mask m) s.snaps ∙ shape.snaps.each m ∙ none_related;
          logged = s.logged_is ∙ has_log;
        };
  }

pub free_map_free : {P : Type 0} {ghosts : Ghosts P} (see : P → Seen) (running : Running P ghosts) → EachFreeMapIsFree see running
free_map_free see running c good numbers v runs prepared m low none apart = map_free see running c good numbers v runs prepared m low none apart
