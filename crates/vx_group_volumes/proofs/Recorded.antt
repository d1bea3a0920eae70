-- What a start and a stop record changes states alone.
use Rattle.std.proofs.Common.{◌≡◌, ℕ, Bool, true, false, List, [], ◌∷◌, refl, ap, ◌∙◌, subst, inl, inr}
use Rattle.std.specs.List.{AllZip}
use Rattle.std.proofs.lemmas.Bool.{and_parts, false≢true}
use Rattle.vx_config_parts.specs.declared.object.Object.{Object}
use Rattle.vx_config_parts.specs.declared.object.Object.TheVariants.{VolRecord}
use Rattle.vx_config_parts.specs.declared.plex.Plex.{Plex}
use Rattle.vx_config_parts.specs.declared.plex.PlexKind.{PlexKind}
use Rattle.vx_config_parts.specs.declared.plex.PlexKind.TheVariants.{Data, Log}
use Rattle.vx_config_parts.specs.declared.state.PlexState.{PlexState}
use Rattle.vx_config_parts.specs.declared.state.PlexState.TheVariants as plex
use Rattle.vx_config_parts.specs.declared.state.VolState.{VolState}
use Rattle.vx_config_parts.specs.declared.state.VolState.TheVariants as vol
use Rattle.vx_config_parts.specs.declared.vol.Vol.{Vol}
use Rattle.vx_config_parts.specs.Objects.{is_data, is_log, refers}
use Rattle.vx_objects.specs.declared.config.Config.{Config}
use Rattle.vx_objects.specs.Config.{objects_of}
use Rattle.vx_image.specs.Once.{IsOneOf}
use Rattle.vx_image.specs.Image.{is_available_state}
use Rattle.vx_image.specs.Bytes.{is_active}
use Rattle.vx_states.specs.Table.{plex_started, plex_stopped}
use Rattle.vx_state_edits.specs.Edits.{is_new, log_started, started, started_as, stopped, stopped_as}
use Rattle.vx_state_edits.specs.Laws.{EachRestatedVolumeIsRecorded, EachStartRestates, EachStopRestates, IsAmong, IsPlexAfter, Restates}
use Rattle.vx_image.specs.UsedPlexes.{is_used_state}
use Rattle.vx_volume_laws.proofs.Configurations.{active_used}
use Rattle.vx_volume_laws.specs.Keeping.{ChangesStates, IsRestated}
use Rattle.vx_group_start.specs.Fresh.{is_fresh}
use Rattle.vx_group_volumes.specs.Laws.{EachStartChangesStates, EachStopChangesStates}

zip_weaker : {A B : Type 0} (R S : A → B → Type 0) → ((x : A) (y : B) → R x y → S x y) → (xs : List A) (ys : List B) → AllZip R xs ys → AllZip S xs ys
zip_weaker R S f [] [] all = tt
zip_weaker R S f [] (y ∷ ys) all = absurd all
zip_weaker R S f (x ∷ xs) [] all = absurd all
zip_weaker R S f (x ∷ xs) (y ∷ ys) all = (f x y all.0, zip_weaker R S f xs ys all.1)

-- ---- among the records

among : (os : List Object) (o : Object) → IsOneOf os o → IsAmong os o
among [] o one = absurd one
among (p ∷ ps) o (inl is) = inl is
among (p ∷ ps) o (inr more) = inr (among ps o more)

one_of : (os : List Object) (o : Object) → IsAmong os o → IsOneOf os o
one_of [] o one = absurd one
one_of (p ∷ ps) o (inl is) = inl is
one_of (p ∷ ps) o (inr more) = inr (one_of ps o more)

-- ---- states of plexes

start_available : (s : PlexState) → is_available_state (plex_started s) ≡ is_available_state s
start_available plex.Empty = refl
start_available plex.Clean = refl
start_available plex.IoFail = refl
start_available other = refl

stop_available : (marked : Bool) (s : PlexState) → is_available_state (plex_stopped marked s) ≡ is_available_state s
stop_available true plex.Active = refl
stop_available false plex.Active = refl
stop_available marked other = refl

log_used : (first : Bool) (s : PlexState) → is_active (log_started first s) ≡ is_used_state first s
log_used true plex.Empty = refl
log_used false plex.Empty = refl
log_used first plex.Clean = refl
log_used first plex.Active = refl
log_used first plex.IoFail = refl
log_used first plex.Stale = refl
log_used first plex.SnapAtt = refl
log_used first plex.SnapDone = refl
log_used first plex.DcoSnp = refl

started_available : (first : Bool) (k : PlexKind) (s : PlexState) → is_data k ≡ true → is_available_state (started_as first k s) ≡ is_available_state s
started_available first Data s kind = start_available s
started_available first Log s kind = absurd (false≢true kind)

started_used : (first : Bool) (k : PlexKind) (s : PlexState) → is_log k ≡ true → is_active (started_as first k s) ≡ is_used_state first s
started_used first Data s log = absurd (false≢true log)
started_used first Log s log = log_used first s

stopped_available : (k : PlexKind) (marked : Bool) (s : PlexState) → is_data k ≡ true → is_available_state (stopped_as k marked s) ≡ is_available_state s
stopped_available Data marked s kind = stop_available marked s
stopped_available Log marked s kind = absurd (false≢true kind)

stopped_used : (k : PlexKind) (marked : Bool) (s : PlexState) → is_log k ≡ true → is_active (stopped_as k marked s) ≡ is_used_state false s
stopped_used Data marked s log = absurd (false≢true log)
stopped_used Log marked s log = active_used s

-- ---- the configuration

module _ (c : Config) (v : Vol) (next : VolState) (after : Plex → PlexState) (c' : Config) (fresh : Bool) (good : ℕ) (changes : Restates v.name next after c c')
    (available : (p : Plex) → is_data p.kind ≡ true → is_available_state (after p) ≡ is_available_state p.state)
    (used : (p : Plex) → is_log p.kind ≡ true → is_active (after p) ≡ is_used_state fresh p.state) where
  restated : (p q : Plex) → IsPlexAfter v.name after p q → IsRestated v.name fresh p q
  restated p q is = record {
    same = is.same;
    available = λ kind.
        let both = and_parts (refers p.vol v.name) (is_data p.kind) kind in
        ap is_available_state (is.own both.0) ∙ available p both.1;
    active = λ log.
        let both = and_parts (refers p.vol v.name) (is_log p.kind) log in
        ap is_active (is.own both.0) ∙ used p both.1;
  }

  pub changes_states : ChangesStates c good v fresh c' good (record v { state = next })
  changes_states = record {
    vol = refl;
    disks = changes.disks;
    subdisks = changes.subdisks;
    snaps = changes.snaps;
    plexes = zip_weaker (IsPlexAfter v.name after) (IsRestated v.name fresh) restated c.plexes c'.plexes changes.plexes;
    failed = λ slot there. there;
  }

fresh_is : (s : VolState) → is_new s ≡ is_fresh s
fresh_is vol.Empty = refl
fresh_is vol.Clean = refl
fresh_is vol.Active = refl
fresh_is vol.NeedSync = refl
fresh_is vol.Sync = refl

pub start_changes : EachStartRestates → EachRestatedVolumeIsRecorded → EachStartChangesStates
start_changes restates recorded c v of c' edited good =
    let here = among (objects_of c) (VolRecord v) of in
    let changes = restates c v here c' edited in (
      one_of (objects_of c') _ (recorded c v vol.Active (started (is_new v.state)) c' here changes),
      subst (λ fresh. ChangesStates c good v fresh c' good (record v { state = vol.Active })) (fresh_is v.state)
          (changes_states c v vol.Active (started (is_new v.state)) c' (is_new v.state) good changes (λ p. started_available (is_new v.state) p.kind p.state) (λ p. started_used (is_new v.state) p.kind p.state)),
    )

pub stop_changes : EachStopRestates → EachRestatedVolumeIsRecorded → EachStopChangesStates
stop_changes restates recorded c v marks of c' edited good =
    let here = among (objects_of c) (VolRecord v) of in
    let changes = restates c v marks here c' edited in (
      one_of (objects_of c') _ (recorded c v vol.Clean (stopped marks) c' here changes),
      changes_states c v vol.Clean (stopped marks) c' false good changes (λ p. stopped_available p.kind _ p.state) (λ p. stopped_used p.kind _ p.state),
    )
