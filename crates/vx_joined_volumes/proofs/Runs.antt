-- A volume that a plex has joined runs in its place by the new configuration.
use Rattle.std.proofs.Common.{◌≡◌, ℕ, ◌<◌, true, false, List, [], ◌∷◌, length, map, refl, sym, ◌∙◌, ap, subst, arith}
use Rattle.std.specs.Prelude.{is_some, nat_lt}
use Rattle.std.specs.List.{AllZip}
use Rattle.std.proofs.lemmas.List.{length-map}
use Rattle.vx_base.specs.Named.{Word}
use Rattle.vx_block.specs.declared.geometry.Geometry.{Geometry}
use Rattle.vx_mask.specs.Mask.{has, only, union}
use Rattle.vx_piece.specs.Seen.{Seen}
use Rattle.vx_layout.specs.declared.layout.Layout.{Layout}
use Rattle.vx_pages.specs.declared.local_piece.LocalPiece.{Ghosts}
use Rattle.vx_config_parts.specs.declared.object.Object.{Object}
use Rattle.vx_config_parts.specs.declared.plex.Plex.{Plex}
use Rattle.vx_config_parts.specs.declared.vol.Vol.{Vol}
use Rattle.vx_objects.specs.declared.config.Config.{Config}
use Rattle.vx_image.specs.Bytes.{map_or_zero}
use Rattle.vx_image.specs.UsedPlexes.{held_plexes}
use Rattle.vx_volume.specs.declared.log.VolumeLog.{VolumeLog}
use Rattle.vx_volume.specs.declared.volume.VolumeShape.{VolumeShape}
use Rattle.vx_volume.specs.Opening.{count_of}
use Rattle.vx_volume.specs.Volume.{log_of, shape_of, volume_seen}
use Rattle.vx_lending.specs.RegionsTaken.{AreTakenRegions, is_among}
use Rattle.vx_lending.specs.Form.{IsLayoutOf}
use Rattle.vx_lending.specs.FormLaws.{AreNumbered}
use Rattle.vx_lending.proofs.Zips.{zip_length}
use Rattle.vx_lending.specs.declared.public.Running.{Running}
use Rattle.vx_lending.specs.Logs.{log_copies}
use Rattle.vx_volume_laws.specs.Keeping.{IsRestated, KeepsVolume}
use Rattle.vx_volume_laws.specs.Lying.{IsLogFor, LiesAs, LiesIn}
use Rattle.vx_volume_laws.proofs.Restated.{restated_kept}
use Rattle.vx_change_laws.proofs.Places.{joining_cut}
use Rattle.vx_group_calls.specs.Causes.{AreCutWhereDead}
use Rattle.vx_group_volumes.specs.Places.{RunsInPlace}
use Rattle.vx_group_volumes.specs.Runs.{Opening}
use Rattle.vx_group_volumes.proofs.Places.{places_stay}
use Rattle.vx_joined_volumes.specs.Joined.{HasJoined, IsFormJoined, JoinsOne, good_joined, opening_joined, plex_of_run}
use Rattle.vx_joined_volumes.specs.Laws.{EachJoinedVolumeRunsInPlace}
use Rattle.vx_joined_volumes.proofs.Forms.{form_joined, map_new, recorded_now}
use Rattle.vx_joined_volumes.proofs.Now.{more_good}
use Rattle.vx_joined_volumes.proofs.Plexes.{used_active}
use Rattle.vx_joined_volumes.proofs.Regions.{lies_joined}

-- ---- the configuration

restated : (vol : Word) (ps : List Plex) → AllZip (IsRestated vol false) ps ps
restated vol [] = tt
restated vol (p ∷ ps) = (record { same = refl; available = λ own. refl; active = λ own. sym (used_active p.state) }, restated vol ps)

-- a configuration keeps its volumes as disks fail
pub kept_by : (c : Config) (more good : ℕ) (v : Vol) → ((slot : ℕ) → has good slot ≡ true → has more slot ≡ true) → KeepsVolume c more v false c good v
kept_by c more good v each =
    restated_kept c more v false c good v (record { vol = refl; disks = refl; subdisks = refl; snaps = refl; plexes = restated v.name c.plexes; failed = each })

-- ---- the volume

module _ {P : Type 0} {ghosts : Ghosts P} (see : P → Seen) (running joined : Running P ghosts) (c : Config) (good : ℕ) (numbers : List ℕ) (v : Vol) (placed : RunsInPlace see c good numbers v running)
    (added : List Object) (c' : Config) (p : Plex) (m : ℕ) (one : JoinsOne c good v added c' p m) (l : Layout) (lay : IsLayoutOf c' p l) (is : IsFormJoined m l running.form joined.form)
    (runs : List (List Seen)) (put : HasJoined see numbers v m l runs running.volume joined.volume) where
  abbrev o : Opening
  o = placed.runs.opening

  shape_is : shape_of joined.volume ≡ joined.form.shape
  shape_is = put.shape ∙ ap (λ (s : VolumeShape). record s { on = union s.on (only m) }) placed.runs.shape ∙ sym is.shape

  many : length running.form.maps.items ≡ length running.form.layouts.items
  many =
      ap length placed.runs.form.maps ∙ length-map (held_plexes o.config o.good o.vol.name) (λ (q : Plex). map_or_zero q.map)
      ∙ sym (zip_length (IsLayoutOf o.config) (held_plexes o.config o.good o.vol.name) running.form.layouts.items placed.runs.form.layouts)

  none : is_among m running.form.maps.items ≡ false
  none = map_new see running c good numbers v placed added c' p m one

  length_is : v.len ≡ running.form.shape.geometry.length
  length_is = placed.runs.keeps.length_is ∙ sym placed.runs.form.shape_is.length_is

  region_is : v.region ≡ running.form.shape.geometry.region
  region_is = placed.runs.keeps.region_is ∙ sym placed.runs.form.shape_is.region_is

  taken : AreTakenRegions numbers (m ∷ []) (l ∷ []) running.form.shape.geometry.length running.form.shape.geometry.region (map (plex_of_run m) runs)
  taken =
      subst (λ n. AreTakenRegions numbers (m ∷ []) (l ∷ []) n running.form.shape.geometry.region (map (plex_of_run m) runs)) length_is
      (subst (λ n. AreTakenRegions numbers (m ∷ []) (l ∷ []) v.len n (map (plex_of_run m) runs)) region_is put.taken)

  lies_as : LiesAs numbers joined.form (volume_seen see joined.volume) (log_copies see (log_of running.volume))
  lies_as =
      lies_joined numbers running.form joined.form m l is (volume_seen see running.volume) (volume_seen see joined.volume) (log_copies see (log_of running.volume)) placed.runs.lies.lies
      runs put.puts put.fits.count many none taken

  lies_now : LiesIn see numbers joined.form joined.volume
  lies_now = record {
    some = subst (λ (s : VolumeShape). 0 < count_of s) (sym is.shape) placed.runs.lies.some;
    log_for = subst (λ (g : Geometry). IsLogFor g (log_of joined.volume)) (sym (ap (λ (s : VolumeShape). s.geometry) is.shape)) (subst (λ (log : VolumeLog P ghosts). IsLogFor running.form.shape.geometry log) (sym put.log) placed.runs.lies.log_for);
    lies = subst (λ (log : VolumeLog P ghosts). LiesAs numbers joined.form (volume_seen see joined.volume) (log_copies see log)) (sym put.log) lies_as;
  }

  cut_now : AreCutWhereDead (volume_seen see joined.volume)
  cut_now r lt =
      let same = put.puts.cells.size in
      let inside : r < length (volume_seen see running.volume).cells = omega (arith, lt, same) in
      joining_cut m runs (volume_seen see running.volume) (volume_seen see joined.volume) put.puts r inside (placed.runs.cut r inside)

  -- it has a log just where it has a DCO
  logged_now : nat_lt 0 (length joined.form.logs.items) ≡ is_some v.dco
  logged_now = ap (λ ls. nat_lt 0 (length ls)) is.logs ∙ placed.runs.logged

  pub runs_joined : AreNumbered numbers (good_joined placed.runs.opening good) c'.disks → (good' : ℕ) → ((slot : ℕ) → has good' slot ≡ true → has good slot ≡ true) →
      (now : RunsInPlace see c' good' numbers v joined) × (now.runs.opening ≡ opening_joined placed.runs.opening c' good v)
  runs_joined numbered good' fewer =
      let recorded = recorded_now see running c good numbers v placed added c' p m one in
      let more : (slot : ℕ) → has good' slot ≡ true → has (good_joined placed.runs.opening good) slot ≡ true = λ slot here. more_good see running c good numbers v placed slot (fewer slot here) in (
        record {
          runs = record {
            recorded = recorded;
            filled = placed.runs.filled;
            opening = opening_joined placed.runs.opening c' good v;
            of = recorded;
            form = form_joined see running c good numbers v placed added c' p m one l lay joined.form is;
            keeps = kept_by c' (good_joined placed.runs.opening good) good' v more;
            logged = logged_now;
            whole = put.whole;
            shape = shape_is;
            lies = lies_now;
            cut = cut_now;
          };
          places = places_stay c' v.name;
          numbered = numbered;
          were_good = λ at own now. more at.disk now;
        },
        refl,
      )

pub each_volume_joined : {P : Type 0} {ghosts : Ghosts P} (see : P → Seen) (running joined : Running P ghosts) → EachJoinedVolumeRunsInPlace see running joined
each_volume_joined see running joined c good numbers v placed added c' p m one l lay is runs put = runs_joined see running joined c good numbers v placed added c' p m one l lay is runs put
