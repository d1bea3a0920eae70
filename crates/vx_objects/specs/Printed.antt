-- The record that an object is printed as, and the object that a record is read as.
use Rattle.std.specs.Prelude.{◌≡◌, ◌⊎◌, ◌==◌, ◌&&◌, ℕ, min, decimal, Bool, true, IsTrue, Option, Some, None, List, [], ◌∷◌, map}
use Rattle.std.specs.List.{list_all}
use Rattle.vx_base.specs.Named.{Word}
use Rattle.vx_names.specs.declared.attr.Attr.{Attr}
use Rattle.vx_record.specs.Content.{Content}
use Rattle.vx_record.specs.Words.{label_word}
use Rattle.vx_record.specs.declared.kind.Kind.{Kind}
use Rattle.vx_record.specs.declared.kind.Kind.TheVariants as kinds
use Rattle.vx_record.specs.declared.label.Label.{Label}
use Rattle.vx_record.specs.declared.label.Label.TheVariants as labels
use Rattle.vx_config_parts.specs.declared.object.Object.{Object}
use Rattle.vx_config_parts.specs.declared.object.Object.TheVariants.{GroupRecord, DiskRecord, SubdiskRecord, PlexRecord, VolRecord, DcoRecord, SnapRecord}
use Rattle.vx_config_parts.specs.declared.fault.ObjectFault.{ObjectFault}
use Rattle.vx_config_parts.specs.declared.fault.ObjectFault.TheVariants.{OutOfMemory}
use Rattle.vx_rules.specs.Limits.{numbers_fit, is_short}
use Rattle.vx_config_parts.specs.Objects.{name_of}
use Rattle.vx_rules.specs.Rules.{first_broken}
use Rattle.vx_config_parts.specs.Words.{plex_kind_word, layout_word, plex_state_word, vol_state_word, policy_word}
use Rattle.vx_objects.specs.declared.config.Config.{Config}
use Rattle.vx_objects.specs.Config.{objects_of}
use Rattle.vx_objects.specs.Parts.{in_kinds}

abbrev pub attr : Label → Option Word → Attr
attr label value = record { name = label_word label; value = value }

abbrev pub numeral : ℕ → Option Word
numeral n = Some (decimal n)

abbrev pub numeral_or_none : Option ℕ → Option Word
numeral_or_none None = None
numeral_or_none (Some n) = Some (decimal n)

abbrev pub attrs_of : Object → List Attr
attrs_of (GroupRecord g) = attr labels.Version (numeral g.version) ∷ []
attrs_of (DiskRecord d) = attr labels.Device (Some d.device) ∷ attr labels.Slot (numeral d.slot) ∷ attr labels.Publen (numeral d.publen) ∷ []
attrs_of (SubdiskRecord s) =
    attr labels.Disk (Some s.disk)
    ∷ attr labels.Off (numeral s.off)
    ∷ attr labels.Len (numeral s.len)
    ∷ attr labels.Plex s.plex
    ∷ attr labels.Col (numeral s.col)
    ∷ attr labels.At (numeral s.at)
    ∷ []
attrs_of (PlexRecord p) =
    attr labels.Vol p.vol
    ∷ attr labels.Kind (Some (plex_kind_word p.kind))
    ∷ attr labels.Layout (Some (layout_word p.layout))
    ∷ attr labels.Ncol (numeral p.ncol)
    ∷ attr labels.Unit (numeral p.unit)
    ∷ attr labels.State (Some (plex_state_word p.state))
    ∷ attr labels.Map (numeral_or_none p.map)
    ∷ []
attrs_of (VolRecord v) =
    attr labels.Len (numeral v.len)
    ∷ attr labels.Region (numeral v.region)
    ∷ attr labels.Rdpol (Some (policy_word v.rdpol))
    ∷ attr labels.Prefer v.prefer
    ∷ attr labels.State (Some (vol_state_word v.state))
    ∷ attr labels.Dco v.dco
    ∷ []
attrs_of (DcoRecord d) = attr labels.Vol (Some d.vol) ∷ attr labels.Maps (numeral d.maps) ∷ []
attrs_of (SnapRecord s) =
    attr labels.Vol (Some s.vol)
    ∷ attr labels.Of (Some s.of)
    ∷ attr labels.Map (numeral s.map)
    ∷ attr labels.Ofmap (numeral s.ofmap)
    ∷ []

abbrev pub kind_of : Object → Kind
kind_of (GroupRecord g) = kinds.Dg
kind_of (DiskRecord d) = kinds.Dm
kind_of (SubdiskRecord s) = kinds.Sd
kind_of (PlexRecord p) = kinds.Plex
kind_of (VolRecord v) = kinds.Vol
kind_of (DcoRecord d) = kinds.Dco
kind_of (SnapRecord s) = kinds.Snap

-- the record that an object is printed as
abbrev pub record_of : Object → Content
record_of o = record { kind = kind_of o; name = name_of o; attrs = attrs_of o }

-- the object has a record: its numbers are those of the text form, and the version is 1
abbrev pub has_record : Object → Bool
has_record (GroupRecord g) = g.version == 1
has_record o = numbers_fit o

abbrev pub map_is_short : Option ℕ → Bool
map_is_short None = true
map_is_short (Some n) = is_short n

-- a record can say the object: its numbers are those of the text form, whatever its fields hold; the version is 1, and a DCO has 32 maps
abbrev pub can_be_said : Object → Bool
can_be_said (GroupRecord g) = g.version == 1
can_be_said (DiskRecord d) = is_short d.slot && is_short d.publen
can_be_said (SubdiskRecord s) = is_short s.off && is_short s.len && is_short s.col && is_short s.at
can_be_said (PlexRecord p) = is_short p.ncol && is_short p.unit && map_is_short p.map
can_be_said (VolRecord v) = is_short v.len && is_short v.region
can_be_said (DcoRecord d) = d.maps == 32
can_be_said (SnapRecord s) = is_short s.map && is_short s.ofmap

-- a number, or the greatest of its field where that cannot hold it
abbrev pub cut_byte : ℕ → ℕ
cut_byte n = min n 255

abbrev pub cut_word : ℕ → ℕ
cut_word n = min n 4294967295

abbrev pub cut_map : Option ℕ → Option ℕ
cut_map None = None
cut_map (Some n) = Some (cut_byte n)

-- an object with its numbers as the fields hold them
abbrev pub cut : Object → Object
cut (DiskRecord d) = DiskRecord (record d { slot = cut_byte d.slot })
cut (SubdiskRecord s) = SubdiskRecord (record s { col = cut_word s.col })
cut (PlexRecord p) = PlexRecord (record p { ncol = cut_word p.ncol; map = cut_map p.map })
cut (SnapRecord s) = SnapRecord (record s { map = cut_byte s.map; ofmap = cut_byte s.ofmap })
cut o = o

-- the record says the object
abbrev pub Says : Content → Object → Type 0
Says c o = (record_of o ≡ c) × IsTrue (can_be_said o)

-- the records say these objects, one by one
abbrev pub Say : List Content → List Object → Type 0
Say records all = (map record_of all ≡ records) × IsTrue (list_all can_be_said all)

-- the object, as its fields hold it, is what the record says
abbrev pub IsReadAs : Content → Object → Type 0
IsReadAs c o = (said : Object) × Says c said × (cut said ≡ o)

abbrev pub AreReadAs : List Content → List Object → Type 0
AreReadAs records all = (said : List Object) × Say records said × (map cut said ≡ all)

-- the configuration's objects are those that the records say, sorted into their kinds
abbrev pub IsReadOf : List Content → Config → Type 0
IsReadOf records config = (said : List Object) × Say records said × (objects_of config ≡ in_kinds said)

-- the fault of the objects that the records say, as their fields hold them, sorted into their kinds; or memory was not there
abbrev pub IsUnreadOf : List Content → ObjectFault → Type 0
IsUnreadOf records fault = (fault ≡ OutOfMemory) ⊎ ((said : List Object) × Say records said × (first_broken (in_kinds (map cut said)) ≡ Some fault))

-- the records of a configuration
abbrev pub records_in : Config → List Content
records_in config = map record_of (objects_of config)
