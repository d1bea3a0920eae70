-- What the end of a recovery records changes states alone, and keeps each other volume.
use Rattle.std.proofs.Common.{◌≡◌, ◌≢◌, ℕ, Bool, true, false, List, [], ◌∷◌, refl, sym, subst, inl, inr}
use Rattle.std.proofs.lemmas.Bool.{false≢true}
use Rattle.vx_config_parts.specs.declared.object.Object.{Object}
use Rattle.vx_config_parts.specs.declared.object.Object.TheVariants.{VolRecord}
use Rattle.vx_config_parts.specs.declared.plex.PlexKind.{PlexKind}
use Rattle.vx_config_parts.specs.declared.plex.PlexKind.TheVariants.{Data, Log}
use Rattle.vx_config_parts.specs.declared.state.PlexState.{PlexState}
use Rattle.vx_config_parts.specs.declared.state.PlexState.TheVariants as plex
use Rattle.vx_config_parts.specs.declared.state.VolState.TheVariants as vol
use Rattle.vx_config_parts.specs.declared.vol.Vol.{Vol}
use Rattle.vx_config_parts.specs.Objects.{is_data, is_log}
use Rattle.vx_objects.specs.declared.config.Config.{Config}
use Rattle.vx_objects.specs.Applied.{IsEdited}
use Rattle.vx_objects.specs.Config.{objects_of}
use Rattle.vx_image.specs.Bytes.{is_active}
use Rattle.vx_image.specs.Image.{is_available_state}
use Rattle.vx_image.specs.Once.{IsOneOf}
use Rattle.vx_image.specs.UsedPlexes.{IsVolOf, is_used_state}
use Rattle.vx_state_edits.specs.Edits.{recovered, recovered_as, recovered_edits}
use Rattle.vx_state_edits.specs.Laws.{EachRecoveredRestates, EachRestatedVolumeIsRecorded, IsAmong}
use Rattle.vx_volume_laws.proofs.Configurations.{active_used}
use Rattle.vx_volume_laws.specs.Keeping.{ChangesStates}
use Rattle.vx_group_start.specs.Fresh.{is_fresh}
use Rattle.vx_group_edits.proofs.Restated.{restated_untouched}
use Rattle.vx_group_edits.proofs.Untouched.{stays}
use Rattle.vx_group_edits.specs.Stays.{EachStays}
use Rattle.vx_group_volumes.proofs.Recorded.{changes_states}
use Rattle.vx_stage_volumes.proofs.Named.{recorded_of}

-- ---- states of plexes

recovered_available : (k : PlexKind) (marked : Bool) (s : PlexState) → is_data k ≡ true → is_available_state (recovered_as k marked s) ≡ is_available_state s
recovered_available Log marked s kind = absurd (false≢true kind)
recovered_available Data true plex.SnapAtt kind = refl
recovered_available Data false plex.SnapAtt kind = refl
recovered_available Data marked plex.IoFail kind = refl
recovered_available Data marked other kind = refl

recovered_used : (k : PlexKind) (marked : Bool) (s : PlexState) → is_log k ≡ true → is_active (recovered_as k marked s) ≡ is_used_state false s
recovered_used Data marked s log = absurd (false≢true log)
recovered_used Log marked s log = active_used s

-- ---- the configuration

one_of : (os : List Object) (o : Object) → IsAmong os o → IsOneOf os o
one_of [] o one = absurd one
one_of (p ∷ ps) o (inl is) = inl is
one_of (p ∷ ps) o (inr more) = inr (one_of ps o more)

-- What the end of a recovery records of a volume changes states alone: it is active then.
pub recovered_changes : EachRecoveredRestates → EachRestatedVolumeIsRecorded → (c : Config) (v : Vol) (marks : ℕ) → IsVolOf c v → is_fresh v.state ≡ false → (c' : Config) → IsEdited (recovered_edits c v marks) c c' → (good : ℕ) →
    IsVolOf c' (record v { state = vol.Active }) × ChangesStates c good v (is_fresh v.state) c' good (record v { state = vol.Active })
recovered_changes restates recorded c v marks of old c' edited good =
    let here = recorded_of c v of in
    let changes = restates c v marks here c' edited in (
      one_of (objects_of c') (VolRecord (record v { state = vol.Active })) (recorded c v vol.Active (recovered marks) c' here changes),
      subst (λ fresh. ChangesStates c good v fresh c' good (record v { state = vol.Active })) (sym old)
          (changes_states c v vol.Active (recovered marks) c' false good changes (λ p. recovered_available p.kind _ p.state) (λ p. recovered_used p.kind _ p.state)),
    )

-- It keeps each other volume.
pub recovered_keeps : EachRecoveredRestates → (c c' : Config) (u : Vol) (marks : ℕ) → IsVolOf c u → IsEdited (recovered_edits c u marks) c c' → EachStays (λ v. v.name ≢ u.name) c c'
recovered_keeps restates c c' u marks here edits v of other good good' fewer =
    stays c v c' good good' fewer
    (restated_untouched c v of u.name other vol.Active (recovered marks) c' (restates c u marks (recorded_of c u here) c' edits))
