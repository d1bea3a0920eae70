-- The lines of each answer.
use Rattle.std.specs.Prelude.{ℕ, List, [], ◌∷◌, ◌++◌, suc, zero, Bool, true, false, Option, Some, None}
use Rattle.std.specs.List.{flat_map}
use Rattle.std.specs.Prelude.{codes}
use Rattle.std.specs.Fmt.{decimal}
use Rattle.vx_base.specs.Named.{Word}
use Rattle.vx_base.specs.Blocks.{block_at, blocks_in}
use Rattle.vx_block.specs.Word.{block_word}
use Rattle.vx_life.specs.declared.Part.{Part}
use Rattle.vx_config_parts.specs.Words.{plex_state_word, vol_state_word}
use Rattle.vx_config_parts.specs.declared.fault.Limit.{Limit as Which}
use Rattle.vx_config_parts.specs.declared.fault.Limit.TheVariants as limit
use Rattle.vx_answers.specs.declared.answer.Answer.{Answer}
use Rattle.vx_answers.specs.declared.answer.Answer.TheVariants.{One, Block}
use Rattle.vx_answers.specs.declared.answer.BlockLine.{BlockLine}
use Rattle.vx_answers.specs.declared.answer.End.{End}
use Rattle.vx_answers.specs.declared.answer.End.TheVariants as ends
use Rattle.vx_answers.specs.declared.answer.View.{View}
use Rattle.vx_answers.specs.declared.answer.View.TheVariants as view
use Rattle.vx_answers.specs.declared.refusal.Refusal.{Refusal}
use Rattle.vx_answers.specs.declared.refusal.Refusal.TheVariants as refusal

-- a blank, and the part
abbrev pub part_word : Part → List ℕ
part_word p = codes " " ++ decimal p.region ++ codes ":" ++ decimal p.epoch ++ codes "." ++ decimal p.number

-- the numbers below n
abbrev pub below : ℕ → List ℕ
below zero = []
below (suc n) = below n ++ n ∷ []

-- a blank, and the word of a block
abbrev pub block_word_at : List ℕ → ℕ → List ℕ
block_word_at bytes k = codes " " ++ block_word (block_at bytes k)

abbrev pub block_words : List ℕ → List ℕ
block_words bytes = flat_map (block_word_at bytes) (below (blocks_in bytes))

abbrev pub limit_word : Which → List ℕ
limit_word limit.Group = codes "dg"
limit_word limit.Number = codes "number"
limit_word limit.Disks = codes "disks"
limit_word limit.Volumes = codes "volumes"
limit_word limit.Name = codes "name"
limit_word limit.Region = codes "region"
limit_word limit.Regions = codes "regions"
limit_word limit.Plexes = codes "plexes"

-- the name, or `-` where there is none
abbrev pub name_or_none : Option Word → List ℕ
name_or_none None = codes "-"
name_or_none (Some name) = name

abbrev pub refusal_words : Refusal → List ℕ
refusal_words refusal.NotBuilt = codes "not built"
refusal_words (refusal.NoDisk name) = codes "no disk " ++ name
refusal_words (refusal.Held name) = codes "held " ++ name
refusal_words (refusal.Exists name) = codes "exists " ++ name
refusal_words (refusal.NotInitialised name) = codes "not initialised " ++ name
refusal_words (refusal.Missing disk) = codes "missing " ++ name_or_none disk
refusal_words (refusal.NoGroup group) = codes "no group " ++ name_or_none group
refusal_words (refusal.TooLong bytes) = codes "too long " ++ decimal bytes
refusal_words (refusal.Damaged disk byte) = codes "damaged " ++ disk ++ codes " " ++ decimal byte
refusal_words (refusal.BadRecord line) = codes "record " ++ decimal line
refusal_words (refusal.NoObject name) = codes "no object " ++ name
refusal_words (refusal.InUse name) = codes "in use " ++ name
refusal_words (refusal.Overlap name) = codes "overlap " ++ name
refusal_words (refusal.Outside name) = codes "outside " ++ name
refusal_words (refusal.NotWhole name) = codes "not whole " ++ name
refusal_words (refusal.NoMap name) = codes "no map " ++ name
refusal_words refusal.DeviceLimit = codes "limit device"
refusal_words (refusal.Limit which) = codes "limit " ++ limit_word which
refusal_words (refusal.NoSpace have need) = codes "no space " ++ decimal have ++ codes " " ++ decimal need
refusal_words (refusal.TooFewDisks count) = codes "too few disks " ++ decimal count
refusal_words (refusal.OnlyPlex name) = codes "only " ++ name
refusal_words (refusal.NotStarted name) = codes "not started " ++ name
refusal_words refusal.Range = codes "range"
refusal_words (refusal.NoCurrent region) = codes "no current " ++ decimal region
refusal_words (refusal.NoLog name) = codes "no log " ++ name
refusal_words (refusal.VolState state) = codes "state " ++ vol_state_word state
refusal_words (refusal.PlexState state) = codes "state " ++ plex_state_word state
refusal_words (refusal.NotDone region) = codes "not done " ++ decimal region
refusal_words (refusal.NotRelated name) = codes "not related " ++ name
refusal_words (refusal.InSession name) = codes "in session " ++ name
refusal_words (refusal.Mirrored name plexes) = codes "mirrored " ++ name ++ codes " " ++ decimal plexes
refusal_words (refusal.Cascade name) = codes "cascade " ++ name

-- behind `ok`, how many regions were copied
abbrev pub copied_words : Option ℕ → List ℕ
copied_words None = []
copied_words (Some regions) = codes " copied " ++ decimal regions

-- how a command ended, without the newline
abbrev pub end_words : End → List ℕ
end_words (ends.Done copied parts blocks) = codes "ok" ++ copied_words copied ++ flat_map part_word parts ++ block_words blocks
end_words (ends.Refused why) = codes "refused " ++ refusal_words why
end_words (ends.Fault told device parts) = codes "fault " ++ told ++ flat_map part_word parts
end_words ends.ShelfFailed = codes "fault -"
end_words ends.GroupLost = codes "fault group"
end_words (ends.Lost parts) = codes "lost" ++ flat_map part_word parts

-- the lines of a view
abbrev pub view_lines : View → List ℕ
view_lines (view.Text text) = text
view_lines (view.Recovered vol dirty copied) = codes "volume " ++ vol ++ codes " recovered " ++ decimal dirty ++ codes " copied " ++ decimal copied ++ codes "\n"
view_lines (view.Snap snap source changed regions) =
    codes "snap " ++ snap ++ codes " source " ++ source ++ codes " changed " ++ decimal changed ++ codes " of " ++ decimal regions ++ codes "\n"

-- the line of a block's line
abbrev pub block_line : BlockLine → List ℕ
block_line l = decimal l.session ++ codes " " ++ end_words l.end ++ codes "\n"

-- the last line of a block
abbrev pub last_line : Bool → List ℕ
last_line true = codes "end lost\n"
last_line false = codes "end\n"

abbrev pub lines_of : Answer → List ℕ
lines_of (One views end) = flat_map view_lines views ++ end_words end ++ codes "\n"
lines_of (Block lines lost) = flat_map block_line lines ++ last_line lost

abbrev pub text_of : List Answer → List ℕ
text_of answers = flat_map lines_of answers
