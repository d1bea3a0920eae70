-- What an edit does to the records.
use Rattle.std.specs.Prelude.{ℕ, Bool, true, Option, Some, None, List, [], ◌∷◌, ◌++◌, ◌&&◌, not, if◌then◌else◌}
use Rattle.std.specs.List.{list_any, filter_map}
use Rattle.std.specs.Str.{bytes_eq}
use Rattle.vx_base.specs.Named.{Word}
use Rattle.vx_config_parts.specs.declared.vol.PolicyKind.{PolicyKind}
use Rattle.vx_config_parts.specs.declared.vol.PolicyKind.TheVariants as kind
use Rattle.vx_config_parts.specs.declared.vol.PolicyName.{PolicyName}
use Rattle.vx_config_parts.specs.declared.vol.PolicyName.TheVariants as policy
use Rattle.vx_config_parts.specs.declared.state.PlexState.{PlexState}
use Rattle.vx_config_parts.specs.declared.state.VolState.{VolState}
use Rattle.vx_config_parts.specs.declared.object.Object.{Object}
use Rattle.vx_config_parts.specs.declared.object.Object.TheVariants.{DiskRecord, SubdiskRecord, PlexRecord, VolRecord, DcoRecord, SnapRecord}
use Rattle.vx_config_parts.specs.declared.fault.ObjectFault.{ObjectFault}
use Rattle.vx_config_parts.specs.declared.fault.ObjectFault.TheVariants.{NoObject}
use Rattle.vx_config_parts.specs.Objects.{is_plex, is_dco, is_snap, refers}
use Rattle.vx_rules.specs.Faults.{first_some, unless}
use Rattle.vx_rules.specs.References.{has_plex, has_vol}
use Rattle.vx_rules.specs.Rules.{first_broken}
use Rattle.vx_objects.specs.declared.edit.Edit.{Edit}
use Rattle.vx_objects.specs.declared.edit.Edit.TheVariants as edit
use Rattle.vx_objects.specs.Parts.{in_kinds}

-- the plex of that name gets this volume, state and map
abbrev pub set_plex : Word → Option Word → PlexState → Option ℕ → Object → Object
set_plex plex vol next map (PlexRecord p) = PlexRecord (if bytes_eq p.name plex then record p { vol = vol; state = next; map = map } else p)
set_plex plex vol next map o = o

abbrev pub policy_kind : PolicyName → PolicyKind
policy_kind policy.Round = kind.Round
policy_kind (policy.Prefer plex) = kind.Prefer
policy_kind policy.Select = kind.Select

abbrev pub policy_plex : PolicyName → Option Word
policy_plex policy.Round = None
policy_plex (policy.Prefer plex) = Some plex
policy_plex policy.Select = None

-- the volume of that name gets this state and policy
abbrev pub set_vol : Word → VolState → PolicyName → Object → Object
set_vol vol next policy (VolRecord v) = VolRecord (if bytes_eq v.name vol then record v { state = next; rdpol = policy_kind policy; prefer = policy_plex policy } else v)
set_vol vol next policy o = o

-- the volume of that name gets this region
abbrev pub set_region : Word → ℕ → Object → Object
set_region vol region (VolRecord v) = VolRecord (if bytes_eq v.name vol then record v { region = region } else v)
set_region vol region o = o

-- the volume of that name names this DCO
abbrev pub set_dco : Word → Word → Object → Object
set_dco vol dco (VolRecord v) = VolRecord (if bytes_eq v.name vol then record v { dco = Some dco } else v)
set_dco vol dco o = o

-- the DCO of that name goes, and no volume names it
abbrev pub without_dco : Word → Object → Option Object
without_dco dco (VolRecord v) = Some (VolRecord (if refers v.dco dco then record v { dco = None } else v))
without_dco dco (DcoRecord d) = if bytes_eq d.name dco then None else Some (DcoRecord d)
without_dco dco o = Some o

-- the plex of that name and its subdisks go
abbrev pub stays_without_plex : Word → Object → Bool
stays_without_plex plex (PlexRecord p) = not (bytes_eq p.name plex)
stays_without_plex plex (SubdiskRecord s) = not (refers s.plex plex)
stays_without_plex plex o = true

-- the attribute names a plex of the volume
abbrev pub names_plex_of : Option Word → Word → List Object → Bool
names_plex_of attribute vol all = list_any (λ o. is_plex (λ p. refers attribute p.name && refers p.vol vol) o) all

-- the volume of that name goes, its plexes with their subdisks, and its DCO
abbrev pub stays_without_vol : Word → List Object → Object → Bool
stays_without_vol vol all (VolRecord v) = not (bytes_eq v.name vol)
stays_without_vol vol all (PlexRecord p) = not (refers p.vol vol)
stays_without_vol vol all (SubdiskRecord s) = not (names_plex_of s.plex vol all)
stays_without_vol vol all (DcoRecord d) = not (bytes_eq d.vol vol)
stays_without_vol vol all o = true

abbrev pub stays_without_snap : Word → Object → Bool
stays_without_snap snap (SnapRecord s) = not (bytes_eq s.name snap)
stays_without_snap snap o = true

abbrev pub kept : Bool → Object → Option Object
kept stays o = if stays then Some o else None

-- what an edit makes of a record: another, or none where it goes
unfoldable pub change : Edit → List Object → Object → Option Object
change (edit.AddDisk disk) all o = Some o
change (edit.Make objects) all o = Some o
change (edit.SetPlex plex vol next map) all o = Some (set_plex plex vol next map o)
change (edit.SetVol vol next policy) all o = Some (set_vol vol next policy o)
change (edit.RemovePlex plex) all o = kept (stays_without_plex plex o) o
change (edit.RemoveVol vol) all o = kept (stays_without_vol vol all o) o
change (edit.AddDco dco) all o = Some (set_dco dco.vol dco.name o)
change (edit.RemoveDco dco) all o = without_dco dco o
change (edit.AddSnap snap) all o = Some o
change (edit.RemoveSnap snap) all o = kept (stays_without_snap snap o) o
change (edit.SetRegion vol region) all o = Some (set_region vol region o)

-- the records that an edit adds
unfoldable pub added : Edit → List Object
added (edit.AddDisk disk) = DiskRecord disk ∷ []
added (edit.Make objects) = objects
added (edit.AddDco dco) = DcoRecord dco ∷ []
added (edit.AddSnap snap) = SnapRecord snap ∷ []
added _ = []

-- the records after an edit
abbrev pub edited : Edit → List Object → List Object
edited e all = filter_map (λ o. change e all o) all ++ added e

abbrev pub has_dco : Word → List Object → Bool
has_dco name all = list_any (λ o. is_dco (λ d. bytes_eq d.name name) o) all

abbrev pub has_snap : Word → List Object → Bool
has_snap name all = list_any (λ o. is_snap (λ s. bytes_eq s.name name) o) all

-- the record that an edit changes or removes, where it is not there
unfoldable pub target_fault : Edit → List Object → Option ObjectFault
target_fault (edit.SetPlex plex vol next map) all = unless (has_plex plex all) (NoObject plex)
target_fault (edit.SetVol vol next policy) all = unless (has_vol vol all) (NoObject vol)
target_fault (edit.RemovePlex plex) all = unless (has_plex plex all) (NoObject plex)
target_fault (edit.RemoveVol vol) all = unless (has_vol vol all) (NoObject vol)
target_fault (edit.RemoveDco dco) all = unless (has_dco dco all) (NoObject dco)
target_fault (edit.RemoveSnap snap) all = unless (has_snap snap all) (NoObject snap)
target_fault (edit.SetRegion vol region) all = unless (has_vol vol all) (NoObject vol)
target_fault _ all = None

-- the records after the edits, one after the other
abbrev pub edited_by : List Edit → List Object → List Object
edited_by [] all = all
edited_by (e ∷ es) all = edited_by es (edited e all)

-- why the edits are refused: the first that changes what is not there, else the first broken rule
abbrev pub refusal_of : List Edit → List Object → Option ObjectFault
refusal_of [] all = first_broken (in_kinds all)
refusal_of (e ∷ es) all = first_some (target_fault e all) (refusal_of es (edited e all))
