-- A run over sound copies leaves them sound, and one over sound volumes leaves those sound.
use Rattle.std.proofs.Common.{ℕ, Bool, List, [], ◌∷◌, ◌++◌, Option, subst, inl, inr}
use Rattle.vx_script.specs.declared.command.Command.{Command}
use Rattle.vx_moments.specs.Leaving.{PowerGoes}
use Rattle.vx_moments.specs.Lives.{GroupStands}
use Rattle.vx_moments.specs.World.{World}
use Rattle.vx_answers.specs.declared.answer.Answer.{Answer}
use Rattle.vx_moments.specs.Moment.{Moment}
use Rattle.vx_plans.specs.Steps.{IsTranscript}
use Rattle.vx_sound.specs.Laws.{IsIdle, WriteNoHeader}
use Rattle.vx_sound.specs.Sound.{AreSound}
use Rattle.vx_sound.proofs.Steps.{each_run_keeps_devices_sound}
use Rattle.vx_sound.proofs.Wants.{each_run_left_off_keeps_devices_sound}
use Rattle.vx_sound_imports.specs.Laws.{AreDevicesSound, EachRunKeepsDevicesSound, EachRunLeftOffKeepsDevicesSound}
use Rattle.vx_house.specs.Scene.{Shelved}
use Rattle.vx_run.specs.Ends.{CarriesOut, IsShelfOf, StopsShort}
use Rattle.vx_run.specs.Run.{RestsIn}
use Rattle.vx_run.specs.Soundly.{HasSoundVolumes, IsSoundShelf, StaysSound}

front_writes : (cs ds : List Command) → WriteNoHeader (cs ++ ds) → WriteNoHeader cs
front_writes [] ds none = tt
front_writes (c ∷ cs) ds none = (none.0, front_writes cs ds none.1)

-- a run that may be left off in a command, for want of memory
rested_sound : (old : Moment) (begun : List Command) (answers : List Answer) (last : Moment) (rest : List Command) (off : Moment) (left : World)
    → WriteNoHeader begun → IsIdle old.world → AreSound old.world → IsTranscript 0 old begun answers last → RestsIn rest last off → PowerGoes off.world left → AreSound left
rested_sound old begun answers last [] off left none idle sound run same goes =
    each_run_keeps_devices_sound 0 old begun answers last left none idle sound run (subst (λ (w : World). PowerGoes w left) same goes)
rested_sound old begun answers last (c ∷ cs) off left none idle sound run (inl same) goes =
    each_run_keeps_devices_sound 0 old begun answers last left none idle sound run (subst (λ (w : World). PowerGoes w left) same goes)
rested_sound old begun answers last (c ∷ cs) off left none idle sound run (inr (at, same, wants)) goes =
    each_run_left_off_keeps_devices_sound 0 old begun answers last c at left none idle sound run wants (subst (λ (w : World). PowerGoes w left) same goes)

-- so it is with the volumes of all groups
rested_all : EachRunKeepsDevicesSound → EachRunLeftOffKeepsDevicesSound → (old : Moment) (begun : List Command) (answers : List Answer) (last : Moment) (rest : List Command) (off : Moment) (left : World)
    → WriteNoHeader begun → IsIdle old.world → AreDevicesSound old.world → IsTranscript 0 old begun answers last → RestsIn rest last off → GroupStands off.world → PowerGoes off.world left → AreDevicesSound left
rested_all whole part old begun answers last [] off left none idle sound run same stands goes =
    whole 0 old begun answers last left none idle sound run (subst GroupStands same stands) (subst (λ (w : World). PowerGoes w left) same goes)
rested_all whole part old begun answers last (c ∷ cs) off left none idle sound run (inl same) stands goes =
    whole 0 old begun answers last left none idle sound run (subst GroupStands same stands) (subst (λ (w : World). PowerGoes w left) same goes)
rested_all whole part old begun answers last (c ∷ cs) off left none idle sound run (inr (at, same, wants)) stands goes =
    part 0 old begun answers last c at left none idle sound run wants (subst GroupStands same stands) (subst (λ (w : World). PowerGoes w left) same goes)

-- a shelf has no group and no volumes
idle : (s : Shelved) (m : Moment) → IsShelfOf s m → IsIdle m.world
idle s m is = record { group = is.no_group; volumes = is.no_volumes }

-- a run that is carried out
module _ (commands : List Command) (old : Shelved) (taken : Option (List ℕ)) (new : Shelved) (taken' : Option (List ℕ)) (fine : Bool) (run : CarriesOut commands old taken new taken' fine) (none : WriteNoHeader commands) where
  carried_copies : IsSoundShelf old → IsSoundShelf new
  carried_copies (m, is, sound) =
      let goes = run.goes m is in (
        record { world = goes.1; counts = goes.5 },
        goes.7,
        each_run_keeps_devices_sound 0 m commands run.answers goes.0 goes.1 none (idle old m is) sound goes.2 goes.4.1,
      )

  carried_volumes : EachRunKeepsDevicesSound → HasSoundVolumes old → HasSoundVolumes new
  carried_volumes whole (m, is, sound) =
      let goes = run.goes m is in (
        record { world = goes.1; counts = goes.5 },
        goes.7,
        whole 0 m commands run.answers goes.0 goes.1 none (idle old m is) sound goes.2 goes.4.0 goes.4.1,
      )

pub carried_sound : EachRunKeepsDevicesSound → (commands : List Command) (old : Shelved) (taken : Option (List ℕ)) (new : Shelved) (taken' : Option (List ℕ)) (fine : Bool) → CarriesOut commands old taken new taken' fine → StaysSound commands old new
carried_sound whole commands old taken new taken' fine run none = record {
  copies = carried_copies commands old taken new taken' fine run none;
  volumes = carried_volumes commands old taken new taken' fine run none whole;
}

-- one that is left off
module _ (commands : List Command) (old : Shelved) (taken : Option (List ℕ)) (new : Shelved) (taken' : Option (List ℕ)) (run : StopsShort commands old taken new taken') (none : WriteNoHeader commands) where
  front : WriteNoHeader run.begun
  front = front_writes run.begun run.left (subst WriteNoHeader run.split none)

  short_copies : IsSoundShelf old → IsSoundShelf new
  short_copies (m, is, sound) =
      let goes = run.goes m is in (
        record { world = goes.1; counts = goes.5 },
        goes.7,
        rested_sound m run.begun run.answers goes.2.0 run.left goes.0 goes.1 front (idle old m is) sound goes.2.1 goes.2.3 goes.4.1,
      )

  short_volumes : EachRunKeepsDevicesSound → EachRunLeftOffKeepsDevicesSound → HasSoundVolumes old → HasSoundVolumes new
  short_volumes whole part (m, is, sound) =
      let goes = run.goes m is in (
        record { world = goes.1; counts = goes.5 },
        goes.7,
        rested_all whole part m run.begun run.answers goes.2.0 run.left goes.0 goes.1 front (idle old m is) sound goes.2.1 goes.2.3 goes.4.0 goes.4.1,
      )

pub short_sound : EachRunKeepsDevicesSound → EachRunLeftOffKeepsDevicesSound → (commands : List Command) (old : Shelved) (taken : Option (List ℕ)) (new : Shelved) (taken' : Option (List ℕ)) → StopsShort commands old taken new taken' → StaysSound commands old new
short_sound whole part commands old taken new taken' run none = record {
  copies = short_copies commands old taken new taken' run none;
  volumes = short_volumes commands old taken new taken' run none whole part;
}
