-- What becomes of a configuration's text.
use Rattle.std.specs.Prelude.{◌≡◌, ◌⊎◌, ◌==◌, ◌&&◌, ◌-◌, ◌<◌, ◌≤◌, not, ℕ, Bool, if◌then◌else◌, is_some, List, [], ◌∷◌, length, map, Option, Some, None, MatchOption, MatchBool}
use Rattle.std.specs.List.{list_any}
use Rattle.std.specs.Str.{bytes_eq}
use Rattle.std.specs.BTreeMap.{BTreeMap, get}
use Rattle.std.specs.Cmp.Lexicographic.{slice_cmp}
use Rattle.std.specs.Ordering.{nat_cmp}
use Rattle.vx_base.specs.Named.{Word}
use Rattle.vx_mask.specs.Mask.{has}
use Rattle.vx_header.specs.Named.{Label, label_of}
use Rattle.vx_record.specs.Content.{Content}
use Rattle.vx_record.specs.Grammar.{Spells, IsBadLine}
use Rattle.vx_record.specs.declared.fault.RecordFault.{RecordFault}
use Rattle.vx_record.specs.declared.fault.RecordFault.TheVariants as read_fault
use Rattle.vx_config_parts.specs.declared.disk.Disk.{Disk}
use Rattle.vx_config_parts.specs.declared.vol.Vol.{Vol}
use Rattle.vx_config_parts.specs.declared.fault.ObjectFault.{ObjectFault}
use Rattle.vx_rules.specs.Rules.{first_broken}
use Rattle.vx_objects.specs.declared.config.Config.{Config}
use Rattle.vx_objects.specs.Config.{objects_of}
use Rattle.vx_objects.specs.Printed.{IsReadOf}
use Rattle.vx_import.specs.declared.device.GroupDevice.{GroupDevice}
use Rattle.vx_started.specs.declared.started.Started.{Started}
use Rattle.vx_answers.specs.declared.refusal.Refusal.{Refusal}
use Rattle.vx_answers.specs.declared.refusal.Refusal.TheVariants as refusal
use Rattle.vx_moments.specs.Copies.{IsTextOf}
use Rattle.vx_stages.specs.Finding.{IsBrokenBy, import_records}
use Rattle.vx_stages.specs.Refusals.{refusal_by, refusal_from}
use Rattle.vx_stage_import.specs.declared.judging.Judged.{Judged}
use Rattle.vx_stage_import.specs.declared.judging.Judged.TheVariants.{Refused, Ready}

-- what the headers of the devices say
abbrev pub labels_of : {P : Type 0} → List (GroupDevice P) → List Label
labels_of fs = map (λ f. label_of f.header) fs

-- the record is that of the header's disk
abbrev pub is_disk_of : Label → Disk → Bool
is_disk_of l d = d.slot == l.slot && bytes_eq d.name l.disk && d.publen == l.sectors - 2048

-- the disk of the first header whose slot is good and whose disk is not recorded
abbrev pub stray_in : List Disk → ℕ → List Label → Option Word
stray_in disks good [] = None
stray_in disks good (l ∷ ls) = if has good l.slot && not (list_any (is_disk_of l) disks) then Some l.disk else stray_in disks good ls

-- a volume of the name is started
abbrev pub is_started : {P : Type 0} → BTreeMap Word (Started P) → Word → Bool
is_started volumes name = is_some (get (slice_cmp nat_cmp) volumes name)

-- the first of the volumes that has a name of a started one
abbrev pub started_in : (Word → Bool) → List Vol → Option Word
started_in started [] = None
started_in started (v ∷ vs) = if started v.name then Some v.name else started_in started vs

-- the text is refused at the line that is no record; want of memory is no judgement
abbrev pub BadIs : RecordFault → Judged → Type 0
BadIs (read_fault.BadRecord line) j = j ≡ Refused (refusal.BadRecord line)
BadIs read_fault.OutOfMemory j = ⊥

-- the configuration is ready to be committed, and this is its text
abbrev pub IsReady : Config → List ℕ → Judged → Type 0
IsReady after text (Refused r) = ⊥
IsReady after text (Ready config t) = (config ≡ after) × (t.items ≡ text)

-- the text is too long, or can be committed
abbrev pub SizeJudged : Config → List ℕ → Judged → Type 0
SizeJudged after text j = ((522240 < length text) × (j ≡ Refused (refusal.TooLong (length text)))) ⊎ ((length text ≤ 522240) × IsReady after text j)

-- the configuration has a text, which is too long, or can be committed
abbrev pub PrintJudged : Config → Judged → Type 0
PrintJudged after j = (text : List ℕ) × IsTextOf after text × SizeJudged after text j

-- the refusal that a fault gives, where it is one
abbrev pub RefusedBy : ObjectFault → Judged → Type 0
RefusedBy fault j = (r : Refusal) × (refusal_by fault ≡ Some r) × (j ≡ Refused r)

-- it breaks a rule, or its text is judged
abbrev pub CommitJudged : Config → Judged → Type 0
CommitJudged config j =
    ((r : Refusal) × (refusal_from (first_broken (import_records config)) ≡ Some r) × (j ≡ Refused r))
    ⊎ ((after : Config) × (objects_of after ≡ import_records config) × (first_broken (import_records config) ≡ None) × PrintJudged after j)

-- the configuration has another name, lacks a disk, has a started volume, or is judged to be committed
abbrev pub ConfigJudged : Word → Config → ℕ → List Label → (Word → Bool) → Judged → Type 0
ConfigJudged dg config good labels started j =
    MatchBool (bytes_eq config.group dg)
    (MatchOption (stray_in config.disks good labels)
    (MatchOption (started_in started config.volumes) (CommitJudged config j) (λ name. j ≡ Refused (refusal.Exists name)))
    (λ disk. j ≡ Refused (refusal.NoObject disk)))
    (j ≡ Refused (refusal.NoObject dg))

-- the records break a rule, or are those of a configuration, which is judged
abbrev pub RecordsJudged : Word → List Content → ℕ → List Label → (Word → Bool) → Judged → Type 0
RecordsJudged dg records good labels started j =
    ((r : Refusal) × IsBrokenBy records r × (j ≡ Refused r))
    ⊎ ((config : Config) × IsReadOf records config × ConfigJudged dg config good labels started j)

-- a line of the text is no record, or its records are judged
abbrev pub TextJudged : Word → List ℕ → ℕ → List Label → (Word → Bool) → Judged → Type 0
TextJudged dg text good labels started j =
    ((line : ℕ) × IsBadLine text line × (j ≡ Refused (refusal.BadRecord line)))
    ⊎ ((records : List Content) × Spells text records × RecordsJudged dg records good labels started j)
