-- Words of several parts: a disk and its device, and what a break-off names.
use Rattle.std.specs.Prelude.{ℕ, ◌-◌, ◌^◌, if◌then◌else◌, is_some, Option, Some, None, List, length, take, drop, codes}
use Rattle.std.specs.Str.{bytes_eq}
use Rattle.vx_names.specs.Form.{is_name}
use Rattle.vx_script_words.specs.Words.{up_to, past}
use Rattle.vx_script_words.specs.Number.{number_of, within}
use Rattle.vx_script_words.specs.declared.value.DiskAt.{DiskAt}
use Rattle.vx_script_words.specs.declared.value.Value.{Value}
use Rattle.vx_script_words.specs.declared.value.Value.TheVariants.{BreakOff}

-- what follows the front, where the word begins with it
abbrev pub behind : List ℕ → List ℕ → Option (List ℕ)
behind front word = if bytes_eq (take (length front) word) front then Some (drop (length front) word) else None

abbrev pub name_of : List ℕ → Option (List ℕ)
name_of word = if is_name word then Some word else None

abbrev pub name_behind : Option (List ℕ) → Option (List ℕ)
name_behind None = None
name_behind (Some word) = name_of word

abbrev pub number_behind : Option (List ℕ) → Option ℕ
number_behind None = None
number_behind (Some word) = within 0 (2 ^ 40 - 1) (number_of word)

-- the N of `cut=N`
abbrev pub cut_of : List ℕ → Option ℕ
cut_of word = number_behind (behind (codes "cut=") word)

abbrev pub both : Option (List ℕ) → Option (List ℕ) → Option DiskAt
both None device = None
both (Some disk) None = None
both (Some disk) (Some device) = Some (record { disk = disk; device = device })

-- DM=DEV; a word `cut=N` is none
abbrev pub pair_of : List ℕ → Option DiskAt
pair_of word = if is_some (cut_of word) then None else both (name_of (up_to 61 word)) (name_of (past 61 word))

abbrev pub three : Option (List ℕ) → Option (List ℕ) → Option (Option (List ℕ)) → Option Value
three None snap plex = None
three (Some vol) None plex = None
three (Some vol) (Some snap) None = None
three (Some vol) (Some snap) (Some plex) = Some (BreakOff vol snap plex)

abbrev pub just : Option (List ℕ) → Option (Option (List ℕ))
just None = None
just (Some plex) = Some (Some plex)

-- plex=PLEX, or nmirror=1
abbrev pub plex_of : List ℕ → Option (Option (List ℕ))
plex_of word = if bytes_eq word (codes "nmirror=1") then Some None else just (name_behind (behind (codes "plex=") word))

-- VOL/newvol=SNAP/plex=PLEX, or VOL/newvol=SNAP/nmirror=1
abbrev pub break_off_of : List ℕ → Option Value
break_off_of word = three (name_of (up_to 47 word)) (name_behind (behind (codes "newvol=") (up_to 47 (past 47 word)))) (plex_of (past 47 (past 47 word)))
