-- A piece that failed is where the answer says.
use Rattle.std.proofs.Common.{◌≡◌, ℕ, refl, sym, subst, List, Option, Some, None, Result, Ok, Err}
use Rattle.std.specs.Prelude.{IsSome}
use Rattle.vx_core.specs.declared.stage.Event.{Event}
use Rattle.vx_core.specs.declared.stage.Event.TheVariants.{Wrote, WriteFailed, Got, ReadFailed, Cut}
use Rattle.vx_core.specs.declared.stage.Act.{Act}
use Rattle.vx_core.specs.Follow.{IsFailure}
use Rattle.vx_marks.specs.Log.{LogSeen}
use Rattle.vx_runs.specs.declared.run.RunFault.{RunFault}
use Rattle.vx_runs.specs.declared.run.RunFault.TheVariants.{Failed, PowerLost}
use Rattle.vx_cell.specs.declared.fault.Place.{Place}
use Rattle.vx_cell.specs.declared.fault.Place.TheVariants.{Data}
use Rattle.vx_cell.specs.declared.acts.Answered.{Answered}
use Rattle.vx_cell.specs.Plexes.{PlexSeen, ChangesPlex, RoseAt}
use Rattle.vx_cell.specs.Acts.{IsPlexWritten, IsPlexRead, IsPlaced, FailsAt, FitsPlace, HasPlace, HasRisen, write_event, read_event, event_of}
use Rattle.vx_cell.proofs.Changes.{change_rose, failed_rose}

pub some_same : {X : Type 0} {x y : X} → Some x ≡ Some y → x ≡ y
some_same e = cc

pub write_rose : (k at piece device : ℕ) (bytes : List ℕ) (ps qs : List PlexSeen) → ChangesPlex k (IsPlexWritten at bytes (Err (Failed piece device))) ps qs → RoseAt k piece device ps qs
write_rose k at piece device bytes ps qs c =
    change_rose k (IsPlexWritten at bytes (Err (Failed piece device))) ps qs piece device
    (λ p q h. let r = h.run.cause in (r.0, r.1, failed_rose r.0 device p.pieces q.pieces r.2)) c

pub read_rose : (k at piece device : ℕ) (into : List ℕ) (ps qs : List PlexSeen) → ChangesPlex k (IsPlexRead at into (Err (Failed piece device))) ps qs → RoseAt k piece device ps qs
read_rose k at piece device into ps qs c =
    change_rose k (IsPlexRead at into (Err (Failed piece device))) ps qs piece device
    (λ p q h. let r = h.run.cause in (r.0, r.1, failed_rose r.0 device p.pieces q.pieces r.2)) c

risen : (place found : Option Place) (ps qs : List PlexSeen) (log log' : LogSeen) → place ≡ found → HasRisen found ps log qs log' → HasRisen place ps log qs log'
risen place found ps qs log log' e h = subst (λ (x : Option Place). HasRisen x ps log qs log') (sym e) h

-- the place of an event that is no failure
fits_none : (act : Act) (event found : Event) (place : Option Place) → event ≡ found → (IsFailure found → ⊥) → place ≡ None → FitsPlace act event place
fits_none act event found place e never none = subst (λ (x : Option Place). FitsPlace act event x) (sym none) (λ fails. never (subst (λ (x : Event). IsFailure x) e fails))

-- .. and of one that is
fits_some : (act : Act) (event found : Event) (place : Option Place) (x : Place) → event ≡ found → FailsAt act found x → place ≡ Some x → FitsPlace act event place
fits_some act event found place x e fails is = subst (λ (y : Option Place). FitsPlace act event y) (sym is) (subst (λ (y : Event). FailsAt act y x) (sym e) fails)

pub some_from_fits : (act : Act) (event : Event) (place : Option Place) → FitsPlace act event place → IsFailure event → IsSome place
some_from_fits act event None fits fails = absurd (fits fails)
some_from_fits act event (Some x) fits fails = refl

pub placed_write : (act : Act) (k at : ℕ) (bytes : List ℕ) (result : Result (Unit {0}) RunFault) (answer : Option Answered) (ps qs : List PlexSeen) (log log' : LogSeen) →
    ((piece device : ℕ) → FailsAt act WriteFailed (Data k piece device)) →
    event_of answer ≡ Some (write_event result) → HasPlace k result answer → ChangesPlex k (IsPlexWritten at bytes result) ps qs → IsPlaced act answer ps log qs log'
placed_write act k at bytes result None ps qs log log' own e place c = tt
placed_write act k at bytes (Ok u) (Some answer) ps qs log log' own e place c = (risen answer.place None ps qs log log' place tt, fits_none act answer.event Wrote answer.place (some_same e) (λ h. h) place)
placed_write act k at bytes (Err PowerLost) (Some answer) ps qs log log' own e place c = (risen answer.place None ps qs log log' place tt, fits_none act answer.event Cut answer.place (some_same e) (λ h. h) place)
placed_write act k at bytes (Err (Failed piece device)) (Some answer) ps qs log log' own e place c =
    (risen answer.place (Some (Data k piece device)) ps qs log log' place (write_rose k at piece device bytes ps qs c), fits_some act answer.event WriteFailed answer.place (Data k piece device) (some_same e) (own piece device) place)

pub placed_read : (act : Act) (k at : ℕ) (into : List ℕ) (result : Result (Unit {0}) RunFault) (answer : Option Answered) (ps qs : List PlexSeen) (log log' : LogSeen) →
    ((piece device : ℕ) → FailsAt act (ReadFailed k) (Data k piece device)) →
    event_of answer ≡ Some (read_event k result) → HasPlace k result answer → ChangesPlex k (IsPlexRead at into result) ps qs → IsPlaced act answer ps log qs log'
placed_read act k at into result None ps qs log log' own e place c = tt
placed_read act k at into (Ok u) (Some answer) ps qs log log' own e place c = (risen answer.place None ps qs log log' place tt, fits_none act answer.event Got answer.place (some_same e) (λ h. h) place)
placed_read act k at into (Err PowerLost) (Some answer) ps qs log log' own e place c = (risen answer.place None ps qs log log' place tt, fits_none act answer.event Cut answer.place (some_same e) (λ h. h) place)
placed_read act k at into (Err (Failed piece device)) (Some answer) ps qs log log' own e place c =
    (risen answer.place (Some (Data k piece device)) ps qs log log' place (read_rose k at piece device into ps qs c), fits_some act answer.event (ReadFailed k) answer.place (Data k piece device) (some_same e) (own piece device) place)
