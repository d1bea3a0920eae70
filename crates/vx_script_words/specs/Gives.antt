-- What a function answered is what the definition gives, unless memory ran out.
use Rattle.std.specs.Prelude.{◌≡◌, ℕ, Result, Err}
use Rattle.vx_script_words.specs.declared.fault.LineFault.{LineFault}
use Rattle.vx_script_words.specs.declared.fault.LineFault.TheVariants.{OutOfMemory, Left}

abbrev pub Fails : {A : Type 0} → LineFault → Result A ℕ → Type 0
Fails OutOfMemory read = Unit {0}
Fails (Left left) read = read ≡ Err left
