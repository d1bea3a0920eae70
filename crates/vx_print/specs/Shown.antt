-- What is printed of a configuration.
use Rattle.std.specs.Prelude.{◌≡◌, ◌++◌, ◌&&◌, ℕ, if◌then◌else◌, Bool, true, false, Option, None, Some, List, map}
use Rattle.std.specs.List.{filter, list_any}
use Rattle.std.specs.List.Sorted.{IsPermutation, IsSorted}
use Rattle.std.specs.Str.{bytes_eq}
use Rattle.std.specs.Cmp.Lexicographic.{slice_cmp}
use Rattle.std.specs.declared.cmp.Ordering.{Ordering}
use Rattle.std.specs.Ordering.{nat_cmp, ordering_then}
use Rattle.vx_base.specs.Named.{Word}
use Rattle.vx_config_parts.specs.declared.object.Object.{Object}
use Rattle.vx_config_parts.specs.declared.object.Object.TheVariants.{SubdiskRecord, PlexRecord, VolRecord, DcoRecord}
use Rattle.vx_config_parts.specs.Objects.{is_plex, refers}
use Rattle.vx_record.specs.Content.{Content}
use Rattle.vx_record.specs.Grammar.{AreRecords, records_text}
use Rattle.vx_objects.specs.declared.config.Config.{Config}
use Rattle.vx_objects.specs.Laws.{place_of}
use Rattle.vx_objects.specs.Printed.{record_of}

-- the attribute names one that passes the test
abbrev pub names_one : Option Word → (Word → Bool) → Bool
names_one None test = false
names_one (Some name) test = test name

-- the volume, its DCO, its plexes, and the subdisks of the plexes that pass the test
abbrev pub is_of : Word → (Word → Bool) → Object → Bool
is_of vol test (SubdiskRecord s) = names_one s.plex test
is_of vol test (PlexRecord p) = refers p.vol vol
is_of vol test (VolRecord v) = bytes_eq v.name vol
is_of vol test (DcoRecord d) = bytes_eq d.vol vol
is_of vol test o = false

-- the name is that of a plex of the volume
abbrev pub is_plex_of : Word → List Object → Word → Bool
is_plex_of vol all name = list_any (λ o. is_plex (λ p. bytes_eq name p.name && refers p.vol vol) o) all

-- each record, or those of the volume that is asked for
abbrev pub is_shown : Option Word → List Object → Object → Bool
is_shown None all o = true
is_shown (Some vol) all o = is_of vol (is_plex_of vol all) o

-- the plex's name, where it is one of the volume
abbrev pub plex_of : Word → Object → Option Word
plex_of vol (PlexRecord p) = if refers p.vol vol then Some p.name else None
plex_of vol o = None

-- kind by kind, and within a kind by name
abbrev pub by_kind : Content → Content → Ordering
by_kind a b = ordering_then (nat_cmp (place_of a.kind) (place_of b.kind)) (slice_cmp nat_cmp a.name b.name)

-- the text of the records that are shown, kind by kind and within a kind by name, was appended
pub record IsPrinted (only : Option Word) (all : List Object) (old new : List ℕ) : Type 0 where
  pub shown : List Content
  pub same : IsPermutation (map record_of (filter (λ o. is_shown only all o) all)) shown
  pub ordered : IsSorted by_kind shown
  pub valid : AreRecords shown
  pub text : new ≡ old ++ records_text shown

-- the volume that is asked for, where none has the name
abbrev pub missing : Option Word → Config → Option Word
missing None config = None
missing (Some vol) config = if list_any (λ v. bytes_eq v.name vol) config.volumes then None else Some vol
