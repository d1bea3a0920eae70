-- What the top call does at each status.
use Rattle.std.specs.Prelude.{◌≡◌, ◌⊎◌, ℕ, ◌+◌, ◌≤◌, Bool, false, List, [], ◌∷◌, ◌++◌, Option, Some, Ok, Err, take, codes}
use Rattle.std.specs.Fmt.{decimal}
use Rattle.std.specs.Str.{bytes_eq}
use Rattle.vx_base.specs.Counts.{Rose, later_count}
use Rattle.vx_script.specs.Script.{Place, script_of}
use Rattle.vx_script.specs.declared.command.Command.{Command}
use Rattle.vx_house.specs.Scene.{Shelved}
use Rattle.vx_run.specs.Ends.{CarriesOut, StopsShort}
use Rattle.vx_run.specs.Soundly.{StaysSound}

-- the words are `--images` and a folder
abbrev pub is_form : List (List ℕ) → Bool
is_form [] = false
is_form (a ∷ []) = false
is_form (a ∷ b ∷ []) = bytes_eq a (codes "--images")
is_form (a ∷ b ∷ c ∷ rest) = false

-- the words are `--images` and this folder
abbrev pub NamesFolder : List (List ℕ) → List ℕ → Type 0
NamesFolder words dir = words ≡ codes "--images" ∷ dir ∷ []

-- the most bytes that a script may have
abbrev pub longest : ℕ
longest = 16777216

-- a source that tells its bytes had these left, and has none now
abbrev pub IsReadToItsEnd : Option (List ℕ) → Option (List ℕ) → List ℕ → Type 0
IsReadToItsEnd old new all = (bytes : List ℕ) → old ≡ Some bytes → (bytes ≡ all) × (new ≡ Some [])

-- more bytes than a script may have were read
abbrev pub HasPassedMore : ℕ → ℕ → Type 0
HasPassedMore before now = later_count before (longest + 1) ≤ now

-- no more were read
abbrev pub HasPassedFew : ℕ → ℕ → Type 0
HasPassedFew before now = now ≤ before + longest

-- the line was written, or a front of it where the sink failed
abbrev pub TellsLine : List ℕ → Option (List ℕ) → Option (List ℕ) → ℕ → ℕ → Type 0
TellsLine line old new before now = (text : List ℕ) → old ≡ Some text → (new ≡ Some (text ++ line)) ⊎ (Rose before now × (n : ℕ) × (new ≡ Some (text ++ take n line)))

-- the line of a script's fault, which names its place
abbrev pub place_line : Place → List ℕ
place_line place = codes "script " ++ decimal place.line ++ codes " " ++ decimal place.column ++ codes "\n"

-- the line of the place was written, or a front of it where the sink failed
abbrev pub TellsPlace : Place → Option (List ℕ) → Option (List ℕ) → ℕ → ℕ → Type 0
TellsPlace place old new before now = TellsLine (place_line place) old new before now

-- the bytes spell commands, and these were carried out
abbrev pub IsSpelledRun : List ℕ → Shelved → Option (List ℕ) → Shelved → Option (List ℕ) → Bool → Type 0
IsSpelledRun bytes old taken new taken' fine = (commands : List Command) × (script_of bytes ≡ Ok commands) × CarriesOut commands old taken new taken' fine

-- the bytes spell commands, and a first part of these was begun
abbrev pub IsSpelledStop : List ℕ → Shelved → Option (List ℕ) → Shelved → Option (List ℕ) → Type 0
IsSpelledStop bytes old taken new taken' = (commands : List Command) × (script_of bytes ≡ Ok commands) × StopsShort commands old taken new taken'

-- the source was read to its end, its bytes spell commands, and these were carried out
abbrev pub IsCarriedThrough : Option (List ℕ) → Option (List ℕ) → Shelved → Option (List ℕ) → Shelved → Option (List ℕ) → Bool → Type 0
IsCarriedThrough left left' old taken new taken' fine = (bytes : List ℕ) → left ≡ Some bytes → (left' ≡ Some []) × IsSpelledRun bytes old taken new taken' fine

-- the same of a first part of these
abbrev pub IsCutOff : Option (List ℕ) → Option (List ℕ) → Shelved → Option (List ℕ) → Shelved → Option (List ℕ) → Type 0
IsCutOff left left' old taken new taken' = (bytes : List ℕ) → left ≡ Some bytes → (left' ≡ Some []) × IsSpelledStop bytes old taken new taken'

-- the source was read to its end, and its bytes are no script, for a fault at this place
abbrev pub IsNoScript : Place → Option (List ℕ) → Option (List ℕ) → Type 0
IsNoScript place left left' = (bytes : List ℕ) → left ≡ Some bytes → (left' ≡ Some []) × (script_of bytes ≡ Err place)

-- the line names the place at which the bytes of the source are no script
abbrev pub TellsFault : Option (List ℕ) → Option (List ℕ) → Option (List ℕ) → Option (List ℕ) → ℕ → ℕ → Type 0
TellsFault left left' taken taken' before now = (place : Place) × TellsPlace place taken taken' before now × IsNoScript place left left'

-- Where the source's bytes spell commands of which none puts a header at the front of a volume, and the configuration
-- copies on the shelf were sound, they are sound; where the volumes of its groups were too, they are.
abbrev pub LeavesSound : Option (List ℕ) → Shelved → Shelved → Type 0
LeavesSound left old new = (bytes : List ℕ) (commands : List Command) → left ≡ Some bytes → script_of bytes ≡ Ok commands → StaysSound commands old new
