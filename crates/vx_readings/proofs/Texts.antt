-- Whatever configuration the text of one is read as has its records.
use Rattle.std.proofs.Common.{◌≡◌, ℕ, true, List, [], ◌∷◌, ◌++◌, map, Ok, refl, sym, ◌∙◌, ap, subst, inl, inr}
use Rattle.std.specs.Prelude.{Contains}
use Rattle.std.specs.List.{filter, filter_map, list_all}
use Rattle.std.specs.List.Sorted.{IsPermutation}
use Rattle.std.proofs.lemmas.List.Sorted.{IsPermutation-cons, IsPermutation-refl, IsPermutation-sym, IsPermutation-trans}
use Rattle.vx_record.specs.Content.{Content}
use Rattle.vx_record.specs.Grammar.{Spells}
use Rattle.vx_record.proofs.Faults.{spells_one}
use Rattle.vx_config_parts.specs.declared.vol.Vol.{Vol}
use Rattle.vx_config_parts.specs.declared.object.Object.{Object}
use Rattle.vx_config_parts.specs.declared.object.Object.TheVariants.{GroupRecord, DiskRecord, SubdiskRecord, PlexRecord, VolRecord, DcoRecord, SnapRecord}
use Rattle.vx_config_parts.specs.declared.fault.ObjectFault.{ObjectFault}
use Rattle.vx_objects.specs.declared.config.Config.{Config}
use Rattle.vx_objects.specs.Config.{objects_of}
use Rattle.vx_objects.specs.Parts.{as_group, as_disk, as_subdisk, as_plex, as_vol, as_dco, as_snap, in_kinds, sorted_below}
use Rattle.vx_objects.specs.Printed.{record_of, can_be_said, Say, IsReadOf, records_in}
use Rattle.vx_objects.proofs.OneSaid.{one_list}
use Rattle.vx_objects.proofs.RoundTrip.{ok_back}
use Rattle.vx_image.proofs.Members.{contains, is_in}
use Rattle.vx_moments.specs.Copies.{IsTextOf}
use Rattle.vx_readings.specs.Readings.{EachTextHasOneReading, HaveSameRecords}
use Rattle.vx_readings.proofs.Lists.{all_permuted, spread, unmapped}
use Rattle.vx_readings.proofs.Records.{turned, volume_here}

-- ---- records in their kinds are the same records

module _ (all : List Object) where
  abbrev groups : List Object
  groups = map GroupRecord (filter_map as_group all)

  abbrev disks : List Object
  disks = map DiskRecord (filter_map as_disk all)

  abbrev subdisks : List Object
  subdisks = map SubdiskRecord (filter_map as_subdisk all)

  abbrev plexes : List Object
  plexes = map PlexRecord (filter_map as_plex all)

  abbrev volumes : List Object
  volumes = map VolRecord (filter_map as_vol all)

  abbrev dcos : List Object
  dcos = map DcoRecord (filter_map as_dco all)

  abbrev snaps : List Object
  snaps = map SnapRecord (filter_map as_snap all)

  -- one more record stands in front of those of its kind
  put : (o : Object) → IsPermutation (o ∷ in_kinds all) (in_kinds (o ∷ all))
  put (GroupRecord g) = IsPermutation-refl (GroupRecord g ∷ in_kinds all)
  put (DiskRecord d) = spread (DiskRecord d) (groups ∷ []) (sorted_below all)
  put (SubdiskRecord s) = spread (SubdiskRecord s) (groups ∷ disks ∷ []) (subdisks ++ (plexes ++ (volumes ++ (dcos ++ snaps))))
  put (PlexRecord p) = spread (PlexRecord p) (groups ∷ disks ∷ subdisks ∷ []) (plexes ++ (volumes ++ (dcos ++ snaps)))
  put (VolRecord v) = spread (VolRecord v) (groups ∷ disks ∷ subdisks ∷ plexes ∷ []) (volumes ++ (dcos ++ snaps))
  put (DcoRecord d) = spread (DcoRecord d) (groups ∷ disks ∷ subdisks ∷ plexes ∷ volumes ∷ []) (dcos ++ snaps)
  put (SnapRecord s) = spread (SnapRecord s) (groups ∷ disks ∷ subdisks ∷ plexes ∷ volumes ∷ dcos ∷ []) snaps

sorted : (all : List Object) → IsPermutation all (in_kinds all)
sorted [] = IsPermutation-refl []
sorted (o ∷ all) = IsPermutation-trans (o ∷ all) (o ∷ in_kinds all) (in_kinds (o ∷ all)) (IsPermutation-cons o all (in_kinds all) (sorted all)) (put all o)

-- ---- what records say

-- records can say those of a configuration
all_said : (c : Config) → list_all can_be_said (objects_of c) ≡ true
all_said c =
    let read : IsReadOf (records_in c) c = ok_back {E = ObjectFault} (Ok (records_in c)) c (objects_of c) (objects_of c) refl refl refl in
    subst (λ os. list_all can_be_said os ≡ true) (sym read.2) (all_permuted can_be_said read.0 (in_kinds read.0) (sorted read.0) read.1.1)

-- what is said by the records of a configuration, in some order, are its records
said_same : (c : Config) (rs : List Content) (said : List Object) → IsPermutation (records_in c) rs → Say rs said → IsPermutation (objects_of c) said
said_same c rs said same say =
    let back = unmapped record_of (objects_of c) rs same in
    let is = one_list back.0 said (all_permuted can_be_said (objects_of c) back.0 back.1 (all_said c)) say.1 (back.2 ∙ sym say.0) in
    subst (λ os. IsPermutation (objects_of c) os) is back.1

-- ---- the text of a configuration

all_stay : (os : List Object) → filter (λ (o : Object). true) os ≡ os
all_stay [] = refl
all_stay (o ∷ os) = ap (λ (rest : List Object). o ∷ rest) (all_stay os)

-- the records of a configuration's text, in the order of print
shown_of : (c : Config) (text : List ℕ) → (printed : IsTextOf c text) → IsPermutation (records_in c) printed.shown
shown_of c text printed = subst (λ (os : List Object). IsPermutation (map record_of os) printed.shown) (all_stay (objects_of c)) printed.same

spelled : (c : Config) (text : List ℕ) → (printed : IsTextOf c text) → Spells text printed.shown
spelled c text printed = record { valid = printed.valid; spelled = printed.text }

pub one_reading : EachTextHasOneReading
one_reading c other text printed (inl again) =
    let shown : printed.shown ≡ again.shown = spells_one text printed.shown again.shown (spelled c text printed) (spelled other text again) in
    let back = IsPermutation-sym (records_in other) again.shown (shown_of other text again) in
    let same = IsPermutation-trans (records_in c) again.shown (records_in other) (subst (λ rs. IsPermutation (records_in c) rs) shown (shown_of c text printed)) back in
    said_same c (records_in other) (objects_of other) same (refl, all_said other)
one_reading c other text printed (inr (rs, spells, (said, say, made))) =
    let shown : printed.shown ≡ rs = spells_one text printed.shown rs (spelled c text printed) spells in
    let here = said_same c rs said (subst (λ xs. IsPermutation (records_in c) xs) shown (shown_of c text printed)) say in
    subst (λ os. IsPermutation (objects_of c) os) (sym made) (IsPermutation-trans (objects_of c) said (in_kinds said) here (sorted said))

-- ---- volumes

-- configurations with the same records have the same volumes
pub vol_here : (c other : Config) → HaveSameRecords c other → (v : Vol) → Contains c.volumes v → Contains other.volumes v
vol_here c other same v one = contains other.volumes v (volume_here c other same v (is_in c.volumes v one))

pub vol_there : (c other : Config) → HaveSameRecords c other → (v : Vol) → Contains other.volumes v → Contains c.volumes v
vol_there c other same v one = vol_here other c (turned c other same) v one
