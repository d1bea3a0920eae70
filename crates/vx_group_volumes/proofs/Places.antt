-- What keeps where the plexes of a volume lie, and volumes that run in their places.
use Rattle.std.proofs.Common.{◌≡◌, ℕ, false, List, refl, sym, ap, ◌∙◌, subst}
use Rattle.std.specs.Prelude.{Contains}
use Rattle.std.specs.List.{flat_map}
use Rattle.vx_base.specs.Named.{Word}
use Rattle.vx_layout.specs.declared.place.Place.{Place}
use Rattle.vx_image.specs.Own.{IsOfVolume}
use Rattle.vx_pages.specs.declared.local_piece.LocalPiece.{Ghosts}
use Rattle.vx_config_parts.specs.declared.plex.Plex.{Plex}
use Rattle.vx_config_parts.specs.declared.vol.Vol.{Vol}
use Rattle.vx_config_parts.specs.Objects.{refers}
use Rattle.vx_objects.specs.declared.config.Config.{Config}
use Rattle.vx_image.specs.Lies.{columns_from}
use Rattle.vx_image.specs.Image.{IsFilled}
use Rattle.vx_image.proofs.Members.{contains, is_in}
use Rattle.vx_lending.specs.Form.{IsFormOf}
use Rattle.vx_lending.specs.FormLaws.{AreNumbered}
use Rattle.vx_image.specs.UsedPlexes.{IsVolOf}
use Rattle.vx_volume_laws.specs.Keeping.{ChangesStates, IsRestated}
use Rattle.vx_volume_laws.proofs.Plexes.{zip_left}
use Rattle.vx_volume_laws.proofs.Restated.{columns_same}
use Rattle.vx_lending.specs.declared.public.Public.{Public}
use Rattle.vx_lending.specs.declared.public.Running.{Running}
use Rattle.vx_group_start.specs.Fresh.{is_fresh}
use Rattle.vx_group_start.specs.Started.{IsStarted}
use Rattle.vx_group_volumes.proofs.Leavings.{recorded_runs}
use Rattle.vx_group_volumes.proofs.Starts.{started_runs}
use Rattle.vx_group_volumes.specs.Places.{KeepsPlaces, RunsInPlace}
use Rattle.vx_group_volumes.specs.SectorLaws.{PlacesGoOn, PlacesStay, RestatedKeepPlaces}

pub places_stay : PlacesStay
places_stay c vol p there own = record { plex = p; there = there; own = own; name = refl; lies = record { unit = refl; columns = refl } }

pub places_go_on : PlacesGoOn
places_go_on c0 vol0 c vol c' vol' keeps more p there own =
    let q = keeps p there own in
    let r = more q.plex q.there q.own in
    record { plex = r.plex; there = r.there; own = r.own; name = r.name ∙ q.name; lies = record { unit = r.lies.unit ∙ q.lies.unit; columns = r.lies.columns ∙ q.lies.columns } }

-- a sector of the volume is one in a configuration that keeps where its plexes lie
pub place_stays : (c0 : Config) (vol0 : Word) (c : Config) (vol : Word) → KeepsPlaces c0 vol0 c vol → (place : Place) → IsOfVolume c0 vol0 place → IsOfVolume c vol place
place_stays c0 vol0 c vol keeps place (p, there, own, (strip, on, here)) =
    let q = keeps p there own in
    (q.plex, q.there, q.own, (strip, subst (λ columns. Contains (flat_map (λ strips. strips) columns) strip) (sym q.lies.columns) on, here))

pub restated_keep : RestatedKeepPlaces
restated_keep c0 good0 v0 fresh c good v changes p there own =
    let r = zip_left (IsRestated v0.name fresh) c0.plexes c.plexes changes.plexes p (is_in c0.plexes p there) in
    let same = r.2.same in
    let vol : v.name ≡ v0.name = ap (λ (x : Vol). x.name) changes.vol in
    let of : r.0.vol ≡ p.vol = ap (λ (x : Plex). x.vol) same in
    record {
      plex = r.0;
      there = contains c.plexes r.0 r.1;
      own = ap (λ o. refers o v.name) of ∙ ap (λ n. refers p.vol n) vol ∙ own;
      name = ap (λ (x : Plex). x.name) same;
      lies = record { unit = ap (λ (x : Plex). x.unit) same; columns = ap (λ (x : Plex). columns_from x.ncol c x.name 0) same ∙ columns_same c0 c changes.disks changes.subdisks p.ncol p.name 0 };
    }

-- ---- volumes that run

module _ {P : Type 0} {ghosts : Ghosts P} (running : Running P ghosts) where
  pub in_place_started : (c : Config) (good : ℕ) (v : Vol) (numbers : List ℕ) (old new : Public P ghosts) (of : IsVolOf c v) (form_is : IsFormOf c good v (is_fresh v.state) running.form)
      (started : IsStarted ghosts.seen v numbers old new running) → AreNumbered numbers good c.disks →
      (c' : Config) (good' : ℕ) (v' : Vol) → IsVolOf c' v' → IsFilled v'.state → ChangesStates c good v (is_fresh v.state) c' good' v' → RunsInPlace ghosts.seen c' good' numbers v' running
  unfolding started_runs
  in_place_started c good v numbers old new of form_is started numbered c' good' v' of' filled changes = record {
    runs = started_runs c good v numbers old new running of form_is started c' good' v' of' filled changes;
    places = restated_keep c good v (is_fresh v.state) c' good' v' changes;
    numbered = numbered;
    were_good = λ at own now. changes.failed at.disk now;
  }

  pub in_place_recorded : (c : Config) (good : ℕ) (numbers : List ℕ) (v : Vol) → RunsInPlace ghosts.seen c good numbers v running →
      (c' : Config) (good' : ℕ) (v' : Vol) → IsVolOf c' v' → IsFilled v'.state → ChangesStates c good v false c' good' v' → RunsInPlace ghosts.seen c' good' numbers v' running
  unfolding recorded_runs
  in_place_recorded c good numbers v place c' good' v' of' filled changes = record {
    runs = recorded_runs ghosts.seen running c good numbers v place.runs c' good' v' of' filled changes;
    places = places_go_on place.runs.opening.config place.runs.opening.vol.name c v.name c' v'.name place.places (restated_keep c good v false c' good' v' changes);
    numbered = place.numbered;
    were_good = λ at own now. place.were_good at own (changes.failed at.disk now);
  }
