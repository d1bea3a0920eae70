-- A volume that a plex has left runs in its place by the new configuration.
use Rattle.std.proofs.Common.{◌≡◌, ℕ, ◌<◌, Bool, true, List, length, refl, sym, ◌∙◌, ap, subst}
use Rattle.std.specs.Prelude.{is_some, nat_lt}
use Rattle.std.proofs.lemmas.List.{length-map}
use Rattle.vx_block.specs.declared.geometry.Geometry.{Geometry}
use Rattle.vx_mask.specs.Mask.{has}
use Rattle.vx_piece.specs.Seen.{Seen}
use Rattle.vx_layout.specs.declared.layout.Layout.{Layout}
use Rattle.vx_pages.specs.declared.local_piece.LocalPiece.{Ghosts}
use Rattle.vx_config_parts.specs.declared.plex.Plex.{Plex}
use Rattle.vx_config_parts.specs.declared.vol.Vol.{Vol}
use Rattle.vx_objects.specs.declared.config.Config.{Config}
use Rattle.vx_image.specs.Bytes.{map_or_zero}
use Rattle.vx_image.specs.UsedPlexes.{held_plexes}
use Rattle.vx_volume.specs.declared.log.VolumeLog.{VolumeLog}
use Rattle.vx_volume.specs.declared.volume.VolumeShape.{VolumeShape}
use Rattle.vx_volume.specs.Opening.{count_of}
use Rattle.vx_volume.specs.Parting.{shape_without}
use Rattle.vx_volume.specs.Volume.{log_of, shape_of, volume_seen}
use Rattle.vx_lending.specs.Form.{IsLayoutOf}
use Rattle.vx_lending.specs.FormLaws.{AreNumbered}
use Rattle.vx_lending.specs.Logs.{log_copies}
use Rattle.vx_lending.proofs.Zips.{zip_length}
use Rattle.vx_lending.specs.declared.public.Running.{Running}
use Rattle.vx_volume_laws.specs.Lying.{IsLogFor, LiesAs, LiesIn}
use Rattle.vx_change_laws.specs.Laws.{IsCutIfDead}
use Rattle.vx_group_volumes.specs.Places.{RunsInPlace}
use Rattle.vx_group_volumes.specs.Runs.{Opening}
use Rattle.vx_group_volumes.proofs.Places.{places_stay}
use Rattle.vx_joined_volumes.specs.Joined.{good_joined, opening_joined}
use Rattle.vx_joined_volumes.specs.Parted.{HasParted, IsFormParted, TakesOut}
use Rattle.vx_joined_volumes.specs.PartLaws.{EachPartedVolumeRunsInPlace}
use Rattle.vx_joined_volumes.proofs.Now.{more_good}
use Rattle.vx_joined_volumes.proofs.PartEdits.{has_lost}
use Rattle.vx_joined_volumes.proofs.PartForms.{form_parted}
use Rattle.vx_joined_volumes.proofs.PartRegions.{lies_parted}
use Rattle.vx_joined_volumes.proofs.Runs.{kept_by}

module _ {P : Type 0} {ghosts : Ghosts P} (see : P → Seen) (running later : Running P ghosts) (c : Config) (good : ℕ) (numbers : List ℕ) (v : Vol) (placed : RunsInPlace see c good numbers v running)
    (p : Plex) (remove : Bool) (c' : Config) (takes : TakesOut c v p remove c')
    (is : IsFormParted (map_or_zero p.map) running.form later.form) (has_gone : HasParted see (map_or_zero p.map) running.volume later.volume) where
  abbrev o : Opening
  o = placed.runs.opening

  shape_is : shape_of later.volume ≡ later.form.shape
  shape_is = has_gone.shape ∙ ap (λ (s : VolumeShape). shape_without s (map_or_zero p.map)) placed.runs.shape ∙ sym is.shape

  geometry_is : later.form.shape.geometry ≡ running.form.shape.geometry
  geometry_is = ap (λ (s : VolumeShape). s.geometry) is.shape

  many : length running.form.maps.items ≡ length running.form.layouts.items
  many =
      ap length placed.runs.form.maps ∙ length-map (held_plexes o.config o.good o.vol.name) (λ (q : Plex). map_or_zero q.map)
      ∙ sym (zip_length (IsLayoutOf o.config) (held_plexes o.config o.good o.vol.name) running.form.layouts.items placed.runs.form.layouts)

  lies_as : LiesAs numbers later.form (volume_seen see later.volume) (log_copies see (log_of running.volume))
  lies_as =
      lies_parted numbers running.form later.form (map_or_zero p.map) is (volume_seen see running.volume) (volume_seen see later.volume) (log_copies see (log_of running.volume)) placed.runs.lies.lies has_gone.loses many

  lies_now : LiesIn see numbers later.form later.volume
  lies_now = record {
    some = subst (λ (g : Geometry). 0 < count_of (record later.form.shape { geometry = g })) (sym geometry_is) placed.runs.lies.some;
    log_for = subst (λ (g : Geometry). IsLogFor g (log_of later.volume)) (sym geometry_is) (subst (λ (log : VolumeLog P ghosts). IsLogFor running.form.shape.geometry log) (sym has_gone.log) placed.runs.lies.log_for);
    lies = subst (λ (log : VolumeLog P ghosts). LiesAs numbers later.form (volume_seen see later.volume) (log_copies see log)) (sym has_gone.log) lies_as;
  }

  -- it has a log just where it has a DCO
  logged_now : nat_lt 0 (length later.form.logs.items) ≡ is_some v.dco
  logged_now = ap (λ (ls : List Layout). nat_lt 0 (length ls)) is.logs ∙ placed.runs.logged

  pub runs_parted : ((r : ℕ) → r < length (volume_seen see later.volume).cells → IsCutIfDead (volume_seen see later.volume) r) → AreNumbered numbers (good_joined placed.runs.opening good) c'.disks →
      (good' : ℕ) → ((slot : ℕ) → has good' slot ≡ true → has good slot ≡ true) → (now : RunsInPlace see c' good' numbers v later) × (now.runs.opening ≡ opening_joined placed.runs.opening c' good v)
  runs_parted cut numbered good' fewer =
      let recorded = (has_lost c c' v p remove takes).recorded placed.runs.recorded in
      let more : (slot : ℕ) → has good' slot ≡ true → has (good_joined placed.runs.opening good) slot ≡ true = λ slot here. more_good see running c good numbers v placed slot (fewer slot here) in (
        record {
          runs = record {
            recorded = recorded;
            filled = placed.runs.filled;
            opening = opening_joined placed.runs.opening c' good v;
            of = recorded;
            form = form_parted see running c good numbers v placed p remove c' takes later.form is;
            keeps = kept_by c' (good_joined placed.runs.opening good) good' v more;
            logged = logged_now;
            whole = has_gone.whole;
            shape = shape_is;
            lies = lies_now;
            cut = cut;
          };
          places = places_stay c' v.name;
          numbered = numbered;
          were_good = λ at own now. more at.disk now;
        },
        refl,
      )

pub each_volume_parted : {P : Type 0} {ghosts : Ghosts P} (see : P → Seen) (running later : Running P ghosts) → EachPartedVolumeRunsInPlace see running later
each_volume_parted see running later c good numbers v placed p remove c' takes is has_gone cut numbered good' fewer =
    runs_parted see running later c good numbers v placed p remove c' takes is has_gone cut numbered good' fewer
