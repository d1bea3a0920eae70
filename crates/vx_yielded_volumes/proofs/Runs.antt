-- A volume that a plex of its log has left runs in its place by the new configuration.
use Rattle.std.proofs.Common.{◌≡◌, ℕ, ◌-◌, ◌<◌, Bool, false, true, List, [], ◌∷◌, length, refl, sym, ◌∙◌, ap, subst, arith}
use Rattle.std.specs.Prelude.{is_some, nat_lt}
use Rattle.std.specs.List.{remove}
use Rattle.std.proofs.lemmas.Bool.{lt-ltb}
use Rattle.std.proofs.lemmas.List.Edits.{length-remove}
use Rattle.vx_mask.specs.Mask.{has}
use Rattle.vx_piece.specs.Seen.{Seen}
use Rattle.vx_layout.specs.declared.layout.Layout.{Layout}
use Rattle.vx_pages.specs.declared.local_piece.LocalPiece.{Ghosts}
use Rattle.vx_maps.specs.Loading.{copy_at}
use Rattle.vx_config_parts.specs.declared.plex.Plex.{Plex}
use Rattle.vx_config_parts.specs.declared.vol.Vol.{Vol}
use Rattle.vx_objects.specs.declared.config.Config.{Config}
use Rattle.vx_volume.specs.declared.volume.VolumeShape.{VolumeShape}
use Rattle.vx_volume.specs.Opening.{count_of}
use Rattle.vx_volume.specs.Volume.{log_of, shape_of, volume_seen}
use Rattle.vx_lending.specs.Form.{IsFormOf}
use Rattle.vx_lending.specs.FormLaws.{AreNumbered}
use Rattle.vx_lending.specs.Logs.{log_copies}
use Rattle.vx_lending.specs.Taken.{log_sectors}
use Rattle.vx_lending.specs.declared.public.Running.{Running}
use Rattle.vx_volume_laws.specs.Lying.{IsLogFor, LiesAs, LiesIn}
use Rattle.vx_volume_laws.specs.Places.{LieOnLogs}
use Rattle.vx_volume_laws.proofs.LeftLogs.{log_over}
use Rattle.vx_change_laws.specs.Laws.{IsCutIfDead}
use Rattle.vx_group_volumes.specs.Places.{RunsInPlace}
use Rattle.vx_group_volumes.proofs.Places.{places_stay}
use Rattle.vx_joined_volumes.specs.Joined.{good_joined, opening_joined}
use Rattle.vx_joined_volumes.proofs.Now.{more_good}
use Rattle.vx_joined_volumes.proofs.Runs.{kept_by}
use Rattle.vx_yielded_volumes.specs.Yielded.{HasYielded, IsFormYielded, TakesLogOut}
use Rattle.vx_yielded_volumes.specs.YieldLaws.{EachUnloggedVolumeRunsInPlace, EachYieldedVolumeRunsInPlace}
use Rattle.vx_yielded_volumes.proofs.Edits.{has_lost}
use Rattle.vx_yielded_volumes.proofs.Forms.{form_unlogged, form_yielded}
use Rattle.vx_yielded_volumes.proofs.Lies.{copies_left, copy_left, lies_yielded, still_for}

-- ---- it lies where its form says

module _ {P : Type 0} {ghosts : Ghosts P} (running later : Running P ghosts) (c : Config) (good : ℕ) (numbers : List ℕ) (v : Vol) (placed : RunsInPlace ghosts.seen c good numbers v running)
    (copy : ℕ) (inside : copy < length running.form.logs.items) (is : IsFormYielded copy running.form later.form) (given : HasYielded ghosts.seen copy running.volume later.volume) where
  shape_is : shape_of later.volume ≡ later.form.shape
  shape_is = given.shape ∙ placed.runs.shape ∙ sym is.shape

  -- it had two copies
  two : length (log_copies ghosts.seen (log_of running.volume)) ≡ 2
  two = sym placed.runs.lies.lies.log.count ∙ given.yields.gives.two

  left : log_copies ghosts.seen (log_of later.volume) ≡ copy_at (log_copies ghosts.seen (log_of running.volume)) (1 - copy) ∷ []
  left = copies_left ghosts.seen copy given.gone (log_of running.volume) (log_of later.volume) given.parts

  some_now : 0 < count_of later.form.shape
  some_now = subst (λ (s : VolumeShape). 0 < count_of s) (sym is.shape) placed.runs.lies.some

  for_now : IsLogFor later.form.shape.geometry (log_of later.volume)
  for_now =
      still_for ghosts.seen later.form.shape.geometry (log_of running.volume) (log_of later.volume) given.parts.shape
      (subst (λ (s : VolumeShape). IsLogFor s.geometry (log_of running.volume)) (sym is.shape) placed.runs.lies.log_for)

  lie_now : LieOnLogs numbers later.form.logs.items (log_sectors later.form.shape.geometry) (log_copies ghosts.seen (log_of later.volume))
  lie_now =
      subst (λ (s : VolumeShape). LieOnLogs numbers later.form.logs.items (log_sectors s.geometry) (log_copies ghosts.seen (log_of later.volume))) (sym is.shape)
      (subst (λ (ls : List Layout). LieOnLogs numbers ls (log_sectors running.form.shape.geometry) (log_copies ghosts.seen (log_of later.volume))) (sym is.logs)
      (subst (λ (xs : List (List Seen)). LieOnLogs numbers (remove running.form.logs.items copy) (log_sectors running.form.shape.geometry) xs) (sym left)
      (copy_left numbers (log_sectors running.form.shape.geometry) running.form.logs.items (log_copies ghosts.seen (log_of running.volume)) copy placed.runs.lies.lies.logs two inside)))

  lies_as : LiesAs numbers later.form (volume_seen ghosts.seen later.volume) (log_copies ghosts.seen (log_of later.volume))
  lies_as =
      lies_yielded numbers running.form later.form copy is (volume_seen ghosts.seen running.volume) (volume_seen ghosts.seen later.volume) given.yields (log_copies ghosts.seen (log_of running.volume)) (log_copies ghosts.seen (log_of later.volume))
      placed.runs.lies.lies lie_now (log_over later.form.shape.geometry (log_of later.volume) for_now some_now)

  pub lies_now : LiesIn ghosts.seen numbers later.form later.volume
  lies_now = record { some = some_now; log_for = for_now; lies = lies_as }

  -- it has a log still, and so it had a DCO
  pub logged_now : nat_lt 0 (length later.form.logs.items) ≡ is_some v.dco
  logged_now =
      let long = placed.runs.lies.lies.logs.long in
      let both = two in
      let less = length-remove running.form.logs.items copy inside in
      ap (λ (ls : List Layout). nat_lt 0 (length ls)) is.logs
      ∙ lt-ltb 0 (length (remove running.form.logs.items copy)) (omega (arith, long, both, less))
      ∙ sym (lt-ltb 0 (length running.form.logs.items) (omega (arith, long, both)))
      ∙ placed.runs.logged

  -- ---- by the new configuration

  pub runs_yielded : (p : Plex) (removes : Bool) (c' : Config) (takes : TakesLogOut c v p removes c') → IsFormOf c' (good_joined placed.runs.opening good) v false later.form →
      ((r : ℕ) → r < length (volume_seen ghosts.seen later.volume).cells → IsCutIfDead (volume_seen ghosts.seen later.volume) r) → AreNumbered numbers (good_joined placed.runs.opening good) c'.disks →
      (good' : ℕ) → ((slot : ℕ) → has good' slot ≡ true → has good slot ≡ true) → (now : RunsInPlace ghosts.seen c' good' numbers v later) × (now.runs.opening ≡ opening_joined placed.runs.opening c' good v)
  runs_yielded p removes c' takes form cut numbered good' fewer =
      let recorded = (has_lost c c' v p removes takes).recorded placed.runs.recorded in
      let more : (slot : ℕ) → has good' slot ≡ true → has (good_joined placed.runs.opening good) slot ≡ true = λ slot here. more_good ghosts.seen running c good numbers v placed slot (fewer slot here) in (
        record {
          runs = record {
            recorded = recorded;
            filled = placed.runs.filled;
            opening = opening_joined placed.runs.opening c' good v;
            of = recorded;
            form = form;
            keeps = kept_by c' (good_joined placed.runs.opening good) good' v more;
            logged = logged_now;
            whole = given.whole;
            shape = shape_is;
            lies = lies_now;
            cut = cut;
          };
          places = places_stay c' v.name;
          numbered = numbered;
          were_good = λ at own now. more at.disk now;
        },
        refl,
      )

pub each_volume_yielded : {P : Type 0} {ghosts : Ghosts P} (running later : Running P ghosts) → EachYieldedVolumeRunsInPlace ghosts.seen running later
each_volume_yielded {ghosts = ghosts} running later c good numbers v placed p removes c' takes l lay copy on is given cut numbered good' fewer =
    runs_yielded running later c good numbers v placed copy on.inside is given p removes c' takes
    (form_yielded ghosts.seen running c good numbers v placed p removes c' takes l lay copy on later.form is) cut numbered good' fewer

-- ---- with no copy on the plex

pub each_volume_unlogged : {P : Type 0} {ghosts : Ghosts P} (see : P → Seen) (running : Running P ghosts) → EachUnloggedVolumeRunsInPlace see running
each_volume_unlogged see running c good numbers v placed p removes c' takes l lay none numbered good' fewer =
    let recorded = (has_lost c c' v p removes takes).recorded placed.runs.recorded in
    let more : (slot : ℕ) → has good' slot ≡ true → has (good_joined placed.runs.opening good) slot ≡ true = λ slot here. more_good see running c good numbers v placed slot (fewer slot here) in (
      record {
        runs = record {
          recorded = recorded;
          filled = placed.runs.filled;
          opening = opening_joined placed.runs.opening c' good v;
          of = recorded;
          form = form_unlogged see running c good numbers v placed p removes c' takes l lay none;
          keeps = kept_by c' (good_joined placed.runs.opening good) good' v more;
          logged = placed.runs.logged;
          whole = placed.runs.whole;
          shape = placed.runs.shape;
          lies = placed.runs.lies;
          cut = placed.runs.cut;
        };
        places = places_stay c' v.name;
        numbered = numbered;
        were_good = λ at own now. more at.disk now;
      },
      refl,
    )
