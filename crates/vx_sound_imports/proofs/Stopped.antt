-- A volume lies within the candidates that it lay within as a stop records it, if it is sound so.
use Rattle.std.proofs.Common.{◌≡◌, ◌∙◌, ℕ, ◌/◌, Bool, true, false, List, refl, sym, ap, subst}
use Rattle.std.specs.Prelude.{Contains}
use Rattle.std.proofs.lemmas.Bool.{and_parts, false≢true}
use Rattle.vx_life.specs.Candidates.{Candidates}
use Rattle.vx_mask.specs.Mask.{has}
use Rattle.vx_config_parts.specs.declared.plex.Plex.{Plex}
use Rattle.vx_config_parts.specs.declared.plex.PlexKind.{PlexKind}
use Rattle.vx_config_parts.specs.declared.plex.PlexKind.TheVariants.{Data, Log}
use Rattle.vx_config_parts.specs.declared.state.PlexState.{PlexState}
use Rattle.vx_config_parts.specs.declared.state.PlexState.TheVariants as plex
use Rattle.vx_config_parts.specs.declared.state.VolState.TheVariants as vol
use Rattle.vx_config_parts.specs.declared.vol.Vol.{Vol}
use Rattle.vx_config_parts.specs.Objects.{is_data, is_log, refers}
use Rattle.vx_objects.specs.declared.config.Config.{Config}
use Rattle.vx_image.specs.Bytes.{Sectors, image_of, is_active}
use Rattle.vx_image.specs.Image.{Image, PlexImage, is_available_state}
use Rattle.vx_image.specs.Meaning.{StandsForCandidates}
use Rattle.vx_image.specs.Soundness.{IsSoundImage}
use Rattle.vx_image.specs.UsedPlexes.{is_used_state}
use Rattle.vx_image.proofs.PlexMembers.{IsIn}
use Rattle.vx_states.specs.Table.{plex_stopped}
use Rattle.vx_state_edits.specs.Edits.{is_marked, is_new, stopped, stopped_as}
use Rattle.vx_state_edits.specs.Laws.{IsPlexAfter, Restates}
use Rattle.vx_volume_laws.specs.Keeping.{ChangesStates, IsRestated, KeepsVolume}
use Rattle.vx_volume_laws.proofs.Configurations.{active_used}
use Rattle.vx_volume_laws.proofs.Restated.{restated_kept}
use Rattle.vx_sound_volumes.proofs.Commits.{vol_of}
use Rattle.vx_sound_volumes.proofs.Recoveries.{zip_all}
use Rattle.vx_sound_imports.specs.Left.{LiesWithin}
use Rattle.vx_sound_imports.proofs.Alike.{started_read}
use Rattle.vx_sound_imports.proofs.Found.{image_in_state}
use Rattle.vx_sound_imports.proofs.Kept.{kept_within}

-- ---- states

-- a plex is available just where it was
stop_available : (marked : Bool) (s : PlexState) → is_available_state (plex_stopped marked s) ≡ is_available_state s
stop_available true plex.Active = refl
stop_available false plex.Active = refl
stop_available marked other = refl

data_available : (k : PlexKind) (marked : Bool) (s : PlexState) → is_data k ≡ true → is_available_state (stopped_as k marked s) ≡ is_available_state s
data_available Data marked s kind = stop_available marked s
data_available Log marked s kind = absurd (false≢true kind)

log_used : (k : PlexKind) (marked : Bool) (s : PlexState) → is_log k ≡ true → is_active (stopped_as k marked s) ≡ is_used_state false s
log_used Data marked s log = absurd (false≢true log)
log_used Log marked s log = active_used s

-- ---- the volume

module _ (c c' : Config) (v : Vol) (there : IsIn c.volumes v) (marks : ℕ) (r : Restates v.name vol.Clean (stopped marks) c c') (started : is_new v.state ≡ false) (good good' : ℕ) (fewer : (slot : ℕ) → has good' slot ≡ true → has good slot ≡ true) where
  abbrev now : Vol
  now = record v { state = vol.Clean }

  restated : (p q : Plex) → IsPlexAfter v.name (stopped marks) p q → IsRestated v.name false p q
  restated p q is = record {
    same = is.same;
    available = λ kind. let both = and_parts (refers p.vol v.name) (is_data p.kind) kind in ap is_available_state (is.own both.0) ∙ data_available p.kind (is_marked marks p.map) p.state both.1;
    active = λ log. let both = and_parts (refers p.vol v.name) (is_log p.kind) log in ap is_active (is.own both.0) ∙ log_used p.kind (is_marked marks p.map) p.state both.1;
  }

  changes : ChangesStates c good v false c' good' now
  changes = record {
    vol = refl;
    disks = r.disks;
    subdisks = r.subdisks;
    snaps = r.snaps;
    plexes = zip_all (IsPlexAfter v.name (stopped marks)) (IsRestated v.name false) restated c.plexes c'.plexes r.plexes;
    failed = fewer;
  }

  -- so it is in the state that it had
  keeps_it : KeepsVolume c good v false c' good' v
  keeps_it =
      let k = restated_kept c good v false c' good' now changes in
      record { length_is = refl; region_is = refl; dco = refl; plexes = k.plexes; logs = k.logs; log_plexes_are = k.log_plexes_are; relations = k.relations }

  pub stopped_within : (bytes : Sectors) (candidates : Candidates) → LiesWithin (image_of c good bytes v) candidates → IsSoundImage (image_of c' good' bytes now) → LiesWithin (image_of c' good' bytes now) candidates
  stopped_within bytes candidates lies sound =
      let kept = kept_within c good v c' good' v keeps_it refl (vol_of c v there) bytes candidates started lies in
      let image = image_of c' good' bytes v in
      let as_now : image_of c' good' bytes now ≡ record image { state = vol.Clean } = image_in_state c' good' bytes v vol.Clean in
      record {
        sound = sound;
        among = subst (λ (i : Image). StandsForCandidates i candidates) (sym as_now) (λ b low p at. kept.among b low p (subst (λ (ps : List PlexImage). Contains ps p) (sym (started_read v.state image (b / v.region) started)) at));
      }
