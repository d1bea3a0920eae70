-- No rule sees the states of volumes and of data plexes, nor whether a log plex that counts is new or active.
use Rattle.std.proofs.Common.{◌≡◌, ℕ, ◌+◌, ◌*◌, ◌%◌, Bool, true, false, not, ◌&&◌, ◌||◌, ◌==◌, nat_lt, nat_le, is_some, Option, Some, None, List, [], ◌∷◌, ◌++◌, map, refl, sym, ◌∙◌, ap, if◌then◌else◌}
use Rattle.std.specs.List.{list_any, list_all, count_by}
use Rattle.std.specs.Str.{bytes_eq}
use Rattle.std.proofs.lemmas.List.{map-append}
use Rattle.vx_base.specs.Named.{Word}
use Rattle.vx_config_parts.specs.declared.disk.Disk.{Disk}
use Rattle.vx_config_parts.specs.declared.fault.ObjectFault.TheVariants as fault
use Rattle.vx_config_parts.specs.declared.fault.Limit.TheVariants as limit
use Rattle.vx_config_parts.specs.declared.object.Object.{Object}
use Rattle.vx_config_parts.specs.declared.object.Object.TheVariants.{GroupRecord, DiskRecord, SubdiskRecord, PlexRecord, VolRecord, DcoRecord, SnapRecord}
use Rattle.vx_config_parts.specs.declared.plex.Plex.{Plex}
use Rattle.vx_config_parts.specs.declared.plex.PlexKind.{PlexKind}
use Rattle.vx_config_parts.specs.declared.plex.PlexKind.TheVariants.{Data, Log}
use Rattle.vx_config_parts.specs.declared.plex.PlexLayout.{PlexLayout}
use Rattle.vx_config_parts.specs.declared.plex.PlexLayout.TheVariants.{Concat, Stripe}
use Rattle.vx_config_parts.specs.declared.snap.Snap.{Snap}
use Rattle.vx_config_parts.specs.declared.state.PlexState.{PlexState}
use Rattle.vx_config_parts.specs.declared.state.VolState.{VolState}
use Rattle.vx_config_parts.specs.declared.subdisk.Subdisk.{Subdisk}
use Rattle.vx_config_parts.specs.declared.vol.PolicyKind.{PolicyKind}
use Rattle.vx_config_parts.specs.declared.vol.PolicyKind.TheVariants as kind
use Rattle.vx_config_parts.specs.declared.vol.Vol.{Vol}
use Rattle.vx_config_parts.specs.Objects.{name_of, is_group, is_disk, is_subdisk, is_plex, is_vol, is_dco, is_snap, comes_before, refers, is_data_plex_of, is_log, is_log_plex_of}
use Rattle.vx_rules.specs.Below.{all_below}
use Rattle.vx_rules.specs.Columns.{is_in_column, column_begins, piece_follows, all_pieces_good, end_with, column_length, columns_are_equal, layout_is_good, plex_length, columns_are_good}
use Rattle.vx_rules.specs.Overlap.{shares_sector, overlaps_earlier, lesser, first_overlap_with, overlap_of}
use Rattle.vx_rules.specs.Sizes.{holds, layout_fits_kind}
use Rattle.vx_rules.specs.declared.rule.Rule.{Rule}
use Rattle.vx_rules.specs.declared.rule.Rule.TheVariants as rule
use Rattle.vx_rules.specs.Faults.{first_some, unless, first_of}
use Rattle.vx_rules.specs.Limits.{numbers_fit, slot_is_own, name_is_short, region_is_good, regions_are_good, plexes_are_good}
use Rattle.vx_rules.specs.Maps.{has_map, map_uses, maps_fit, maps_differ, maps_are_good, map_fault, is_in_use, logs_are_good, log_fault, prefer_fault_of, prefer_fault}
use Rattle.vx_rules.specs.References.{has_name, repeated_after, has_disk, has_plex, has_vol, has_dco_of, has_vol_with, missing, reference_fault}
use Rattle.vx_rules.specs.Relations.{relation_fault, relation_log_fault, is_prepared, has_shape, shape_fault}
use Rattle.vx_rules.specs.Rules.{fault_in, fault_over, fault_of, first_broken_of, rules, first_broken}
use Rattle.vx_rules.specs.Space.{outside_fault}
use Rattle.vx_rules.specs.Whole.{has_volume_within, holds_volume, is_whole, whole_fault}
use Rattle.vx_state_edits.proofs.Restating.{plex_in, vol_in, restated, any_changed, all_changed, count_changed, fold_changed, name_same, group_same, disk_same, subdisk_like, plex_like, vol_like, dco_same, snap_same}

module _ (f : Plex → PlexState) (g : Vol → VolState) (steady : (p : Plex) → is_log p.kind ≡ true → is_in_use (f p) ≡ is_in_use p.state) (all : List Object) where
  abbrev now : List Object
  now = map (restated f g) all

  -- ---- what is looked up

  any_plex : (t : Plex → Bool) → ((p : Plex) → t (plex_in f p) ≡ t p) → list_any (λ o. is_plex t o) now ≡ list_any (λ o. is_plex t o) all
  any_plex t like = any_changed (restated f g) (λ o. is_plex t o) (λ o. is_plex t o) (plex_like f g t t like) all

  any_vol : (t u : Vol → Bool) → ((v : Vol) → t (vol_in g v) ≡ u v) → list_any (λ o. is_vol t o) now ≡ list_any (λ o. is_vol u o) all
  any_vol t u like = any_changed (restated f g) (λ o. is_vol t o) (λ o. is_vol u o) (vol_like f g t u like) all

  any_subdisk : (t u : Subdisk → Bool) → ((s : Subdisk) → t s ≡ u s) → list_any (λ o. is_subdisk t o) now ≡ list_any (λ o. is_subdisk u o) all
  any_subdisk t u like = any_changed (restated f g) (λ o. is_subdisk t o) (λ o. is_subdisk u o) (subdisk_like f g t u like) all

  any_disk : (t : Disk → Bool) → list_any (λ o. is_disk t o) now ≡ list_any (λ o. is_disk t o) all
  any_disk t = any_changed (restated f g) (λ o. is_disk t o) (λ o. is_disk t o) (disk_same f g t) all

  any_snap : (t : Snap → Bool) → list_any (λ o. is_snap t o) now ≡ list_any (λ o. is_snap t o) all
  any_snap t = any_changed (restated f g) (λ o. is_snap t o) (λ o. is_snap t o) (snap_same f g t) all

  count_plex : (t : Plex → Bool) → ((p : Plex) → t (plex_in f p) ≡ t p) → count_by (λ o. is_plex t o) now ≡ count_by (λ o. is_plex t o) all
  count_plex t like = count_changed (restated f g) (λ o. is_plex t o) (λ o. is_plex t o) (plex_like f g t t like) all

  count_snap : (t : Snap → Bool) → count_by (λ o. is_snap t o) now ≡ count_by (λ o. is_snap t o) all
  count_snap t = count_changed (restated f g) (λ o. is_snap t o) (λ o. is_snap t o) (snap_same f g t) all

  disk_there : (name : Word) → has_disk name now ≡ has_disk name all
  disk_there name = any_disk (λ d. bytes_eq d.name name)

  plex_there : (name : Word) → has_plex name now ≡ has_plex name all
  plex_there name = any_plex (λ p. bytes_eq p.name name) (λ p. refl)

  vol_there : (name : Word) → has_vol name now ≡ has_vol name all
  vol_there name = any_vol (λ v. bytes_eq v.name name) (λ v. bytes_eq v.name name) (λ v. refl)

  dco_there : (name vol : Word) → has_dco_of name vol now ≡ has_dco_of name vol all
  dco_there name vol = any_changed (restated f g) (λ o. is_dco (λ d. bytes_eq d.name name && bytes_eq d.vol vol) o) (λ o. is_dco (λ d. bytes_eq d.name name && bytes_eq d.vol vol) o) (dco_same f g (λ d. bytes_eq d.name name && bytes_eq d.vol vol)) all

  owner_there : (name dco : Word) → has_vol_with name dco now ≡ has_vol_with name dco all
  owner_there name dco = any_vol (λ v. bytes_eq v.name name && refers v.dco dco) (λ v. bytes_eq v.name name && refers v.dco dco) (λ v. refl)

  -- ---- columns

  length_same : (plex : Word) (col : ℕ) → column_length now plex col ≡ column_length all plex col
  length_same plex col = fold_changed (restated f g) (end_with plex col) (end_with plex col) like 0 all
    where
      like : (end : ℕ) (o : Object) → end_with plex col end (restated f g o) ≡ end_with plex col end o
      like end (PlexRecord p) = refl
      like end (VolRecord v) = refl
      like end o = refl

  begins_same : (plex : Word) (col : ℕ) → column_begins now plex col ≡ column_begins all plex col
  begins_same plex col = any_subdisk (λ s. is_in_column plex col s && s.at == 0) (λ s. is_in_column plex col s && s.at == 0) (λ s. refl)

  follows_same : (plex : Word) (s : Subdisk) → piece_follows now plex s ≡ piece_follows all plex s
  follows_same plex s =
      let behind = any_subdisk (λ t. is_in_column plex s.col t && t.at + t.len == s.at) (λ t. is_in_column plex s.col t && t.at + t.len == s.at) (λ t. refl) in
      let same = count_changed (restated f g) (λ o. is_subdisk (λ t. is_in_column plex s.col t && t.at == s.at) o) (λ o. is_subdisk (λ t. is_in_column plex s.col t && t.at == s.at) o)
      (subdisk_like f g (λ t. is_in_column plex s.col t && t.at == s.at) (λ t. is_in_column plex s.col t && t.at == s.at) (λ t. refl)) all in
      λ i. (s.at == 0 || behind i) && nat_le (same i) 1

  module _ (p : Plex) where
    layout_same : (l : PlexLayout) → layout_is_good now (plex_in f p) l ≡ layout_is_good all p l
    layout_same Concat = refl
    layout_same Stripe = λ i. nat_le 2 p.ncol && nat_le p.ncol 16 && nat_lt 0 p.unit && length_same p.name 0 i % p.unit == 0

    equal_same : columns_are_equal now (plex_in f p) ≡ columns_are_equal all p
    equal_same = λ i. all_below p.ncol (λ c. begins_same p.name c i && length_same p.name c i == length_same p.name 0 i)

    piece_like : (o : Object) → all_pieces_good now (plex_in f p) (restated f g o) ≡ all_pieces_good all p o
    piece_like (SubdiskRecord s) = λ i. if refers s.plex p.name then nat_lt s.col p.ncol && follows_same p.name s i else true
    piece_like (PlexRecord q) = refl
    piece_like (VolRecord v) = refl
    piece_like o = refl

    pieces_same : list_all (λ o. all_pieces_good now (plex_in f p) o) now ≡ list_all (λ o. all_pieces_good all p o) all
    pieces_same = all_changed (restated f g) (λ o. all_pieces_good now (plex_in f p) o) (λ o. all_pieces_good all p o) piece_like all

    columns_same : columns_are_good now (plex_in f p) ≡ columns_are_good all p
    columns_same = λ i. layout_same p.layout i && equal_same i && pieces_same i

    holds_same : (k : PlexKind) (m n : ℕ) → m ≡ n → (v : Vol) → holds k m (vol_in g v) ≡ holds k n v
    holds_same Data m n e v = λ i. nat_le v.len (e i)
    holds_same Log m n e v = ap (λ (k : ℕ). holds Log k v) e

    within_same : (vol : Word) → has_volume_within now vol p.kind (plex_length now (plex_in f p)) ≡ has_volume_within all vol p.kind (plex_length all p)
    within_same vol =
        let long : plex_length now (plex_in f p) ≡ plex_length all p = λ i. p.ncol * length_same p.name 0 i in
        any_vol (λ v. bytes_eq v.name vol && holds p.kind (plex_length now (plex_in f p)) v) (λ v. bytes_eq v.name vol && holds p.kind (plex_length all p) v)
        (λ v. ap (λ (b : Bool). bytes_eq v.name vol && b) (holds_same p.kind (plex_length now (plex_in f p)) (plex_length all p) long v))

    held_same : (vol : Option Word) → holds_volume now (plex_in f p) vol ≡ holds_volume all p vol
    held_same None = refl
    held_same (Some vol) = within_same vol

    whole_same : is_whole now (plex_in f p) ≡ is_whole all p
    whole_same = λ i. layout_fits_kind p.kind p.layout && columns_same i && held_same p.vol i

  -- ---- maps, logs and policies of a volume

  module _ (v : Vol) where
    fit_like : (o : Object) → maps_fit (vol_in g v) (restated f g o) ≡ maps_fit v o
    fit_like (PlexRecord p) = refl
    fit_like (SnapRecord s) = refl
    fit_like (VolRecord w) = refl
    fit_like o = refl

    uses_same : (m : ℕ) → map_uses now v.name m ≡ map_uses all v.name m
    uses_same m =
        let data_uses = count_plex (λ p. is_data_plex_of v.name p && has_map p.map m) (λ p. refl) in
        let uses = count_snap (λ s. bytes_eq s.vol v.name && s.map == m) in
        let of_uses = count_snap (λ s. bytes_eq s.of v.name && s.ofmap == m) in
        λ i. data_uses i + uses i + of_uses i

    differ_same : maps_differ now v.name ≡ maps_differ all v.name
    unfolding maps_differ
    differ_same = λ i. all_below 30 (λ m. nat_le (uses_same m i) 1)

    maps_same : maps_are_good now (vol_in g v) ≡ maps_are_good all v
    maps_same =
        let fit = all_changed (restated f g) (λ o. maps_fit (vol_in g v) o) (λ o. maps_fit v o) fit_like all in
        λ i. fit i && differ_same i

  counts_same : (vol : Word) (p : Plex) → (is_log_plex_of vol p && is_in_use (f p)) ≡ (is_log_plex_of vol p && is_in_use p.state)
  counts_same vol p = by (refers p.vol vol) (is_log p.kind) (steady p)
    where
      by : (a b : Bool) → (b ≡ true → is_in_use (f p) ≡ is_in_use p.state) → ((a && b) && is_in_use (f p)) ≡ ((a && b) && is_in_use p.state)
      by true true same = same refl
      by true false same = refl
      by false b same = refl

  logs_same : (vol : Word) (dco : Option Word) → logs_are_good now vol dco ≡ logs_are_good all vol dco
  logs_same vol None =
      let few = count_plex (λ p. is_data_plex_of vol p) (λ p. refl) in
      λ i. nat_le (few i) 1
  logs_same vol (Some dco) =
      let logs = count_plex (λ p. is_log_plex_of vol p && is_in_use p.state) (counts_same vol) in
      λ i. nat_le 1 (logs i) && nat_le (logs i) 2

  preferred_same : (vol : Word) (rdpol : PolicyKind) (prefer : Option Word) → prefer_fault_of now vol rdpol prefer ≡ prefer_fault_of all vol rdpol prefer
  preferred_same vol kind.Prefer (Some plex) = ap (λ (b : Bool). unless b (fault.NoObject plex)) (any_plex (λ p. bytes_eq p.name plex && is_data_plex_of vol p) (λ p. refl))
  preferred_same vol kind.Prefer None = refl
  preferred_same vol kind.Round None = refl
  preferred_same vol kind.Round (Some plex) = refl
  preferred_same vol kind.Select None = refl
  preferred_same vol kind.Select (Some plex) = refl

  -- ---- the rules on each record

  reference_same : (o : Object) → reference_fault now (restated f g o) ≡ reference_fault all o
  reference_same (GroupRecord x) = refl
  reference_same (DiskRecord d) = refl
  reference_same (SubdiskRecord s) = λ i. first_some (unless (disk_there s.disk i) (fault.NoObject s.disk)) (missing s.plex (λ p. plex_there p i))
  reference_same (PlexRecord p) = λ i. missing p.vol (λ v. vol_there v i)
  reference_same (VolRecord v) = λ i. first_some (missing v.prefer (λ p. plex_there p i)) (missing v.dco (λ d. dco_there d v.name i))
  reference_same (DcoRecord d) = λ i. unless (owner_there d.vol d.name i) (fault.NoObject d.vol)
  reference_same (SnapRecord s) = λ i. first_some (unless (vol_there s.vol i) (fault.NoObject s.vol)) (unless (vol_there s.of i) (fault.NoObject s.of))

  numbers_same : (o : Object) → numbers_fit (restated f g o) ≡ numbers_fit o
  numbers_same (PlexRecord p) = refl
  numbers_same (VolRecord v) = refl
  numbers_same o = refl

  slot_same : (o : Object) → slot_is_own now (restated f g o) ≡ slot_is_own all o
  slot_same (DiskRecord d) =
      let few = count_changed (restated f g) (λ o. is_disk (λ e. e.slot == d.slot) o) (λ o. is_disk (λ e. e.slot == d.slot) o) (disk_same f g (λ e. e.slot == d.slot)) all in
      λ i. nat_lt d.slot 32 && nat_le (few i) 1
  slot_same (PlexRecord p) = refl
  slot_same (VolRecord v) = refl
  slot_same o = refl

  short_same : (o : Object) → name_is_short (restated f g o) ≡ name_is_short o
  short_same (PlexRecord p) = refl
  short_same (VolRecord v) = refl
  short_same o = refl

  region_same : (o : Object) → region_is_good (restated f g o) ≡ region_is_good o
  region_same (PlexRecord p) = refl
  region_same (VolRecord v) = refl
  region_same o = refl

  regions_same : (o : Object) → regions_are_good (restated f g o) ≡ regions_are_good o
  regions_same (PlexRecord p) = refl
  regions_same (VolRecord v) = refl
  regions_same o = refl

  plexes_same : (o : Object) → plexes_are_good now (restated f g o) ≡ plexes_are_good all o
  plexes_same (PlexRecord p) = refl
  plexes_same (VolRecord v) =
      let some = any_plex (λ p. is_data_plex_of v.name p) (λ p. refl) in
      let few = count_plex (λ p. refers p.vol v.name) (λ p. refl) in
      λ i. some i && nat_le (few i) 32
  plexes_same o = refl

  outside_same : (o : Object) → outside_fault now (restated f g o) ≡ outside_fault all o
  outside_same (SubdiskRecord s) =
      let room = any_disk (λ d. bytes_eq d.name s.disk && nat_le (s.off + s.len) d.publen) in
      λ i. unless (nat_lt 0 s.len && room i) (fault.Outside s.name)
  outside_same (PlexRecord p) = refl
  outside_same (VolRecord v) = refl
  outside_same o = refl

  wholes_same : (o : Object) → whole_fault now (restated f g o) ≡ whole_fault all o
  wholes_same (PlexRecord p) = ap (λ (b : Bool). unless b (fault.NotWhole p.name)) (whole_same p)
  wholes_same (VolRecord v) = refl
  wholes_same o = refl

  map_same : (o : Object) → map_fault now (restated f g o) ≡ map_fault all o
  map_same (PlexRecord p) = refl
  map_same (VolRecord v) = ap (λ (b : Bool). unless b (fault.NoMap v.name)) (maps_same v)
  map_same o = refl

  log_same : (o : Object) → log_fault now (restated f g o) ≡ log_fault all o
  log_same (PlexRecord p) = refl
  log_same (VolRecord v) = ap (λ (b : Bool). unless b (fault.NoLog v.name)) (logs_same v.name v.dco)
  log_same o = refl

  prefer_same : (o : Object) → prefer_fault now (restated f g o) ≡ prefer_fault all o
  prefer_same (PlexRecord p) = refl
  prefer_same (VolRecord v) = preferred_same v.name v.rdpol v.prefer
  prefer_same o = refl

  relation_same : (o : Object) → relation_fault now (restated f g o) ≡ relation_fault all o
  relation_same (SnapRecord s) =
      let one = count_snap (λ t. bytes_eq t.vol s.vol) in
      let none = any_snap (λ t. bytes_eq t.vol s.of) in
      λ i. unless (one i == 1 && not (none i)) (fault.InUse s.vol)
  relation_same (PlexRecord p) = refl
  relation_same (VolRecord v) = refl
  relation_same o = refl

  prepared_same : (vol : Word) → is_prepared now vol ≡ is_prepared all vol
  prepared_same vol = any_vol (λ v. bytes_eq v.name vol && is_some v.dco) (λ v. bytes_eq v.name vol && is_some v.dco) (λ v. refl)

  relation_log_same : (o : Object) → relation_log_fault now (restated f g o) ≡ relation_log_fault all o
  relation_log_same (SnapRecord s) = λ i. first_some (unless (prepared_same s.vol i) (fault.NoLog s.vol)) (unless (prepared_same s.of i) (fault.NoLog s.of))
  relation_log_same (PlexRecord p) = refl
  relation_log_same (VolRecord v) = refl
  relation_log_same o = refl

  has_shape_same : (vol : Word) (len region : ℕ) → has_shape now vol len region ≡ has_shape all vol len region
  has_shape_same vol len region = any_vol (λ v. bytes_eq v.name vol && v.len == len && v.region == region) (λ v. bytes_eq v.name vol && v.len == len && v.region == region) (λ v. refl)

  shape_same : (o : Object) → shape_fault now (restated f g o) ≡ shape_fault all o
  shape_same (SnapRecord s) =
      ap (λ (b : Bool). unless b (fault.Limit limit.Region))
      (any_vol (λ v. bytes_eq v.name s.vol && has_shape now s.of v.len v.region) (λ v. bytes_eq v.name s.vol && has_shape all s.of v.len v.region)
      (λ v. ap (λ (b : Bool). bytes_eq v.name s.vol && b) (has_shape_same s.of v.len v.region)))
  shape_same (PlexRecord p) = refl
  shape_same (VolRecord v) = refl
  shape_same o = refl

  in_same : (r : Rule) (o : Object) → fault_in r now (restated f g o) ≡ fault_in r all o
  unfolding fault_in
  in_same rule.OneGroup o = refl
  in_same rule.NamesDiffer o = refl
  in_same rule.ReferencesAreThere o = reference_same o
  in_same rule.NumbersFit o = ap (λ (b : Bool). unless b (fault.Limit limit.Number)) (numbers_same o)
  in_same rule.SlotsDiffer o = ap (λ (b : Bool). unless b (fault.Limit limit.Disks)) (slot_same o)
  in_same rule.VolumesAreFew o = refl
  in_same rule.NamesAreShort o = ap (λ (b : Bool). unless b (fault.Limit limit.Name)) (short_same o)
  in_same rule.RegionSizesAreGood o = ap (λ (b : Bool). unless b (fault.Limit limit.Region)) (region_same o)
  in_same rule.RegionsAreGood o = ap (λ (b : Bool). unless b (fault.Limit limit.Regions)) (regions_same o)
  in_same rule.PlexesAreGood o = ap (λ (b : Bool). unless b (fault.Limit limit.Plexes)) (plexes_same o)
  in_same rule.SubdisksLieInside o = outside_same o
  in_same rule.SubdisksDoNotOverlap o = refl
  in_same rule.PlexesAreWhole o = wholes_same o
  in_same rule.MapsAreGood o = map_same o
  in_same rule.LogsAreGood o = log_same o
  in_same rule.PreferredPlexIsThere o = prefer_same o
  in_same rule.RelationsAreAlone o = relation_same o
  in_same rule.RelatedVolumesHaveLogs o = relation_log_same o
  in_same rule.RelatedVolumesHaveOneShape o = shape_same o

  first_same : (r : Rule) (os : List Object) → first_of (fault_in r now) (map (restated f g) os) ≡ first_of (fault_in r all) os
  first_same r [] = refl
  first_same r (o ∷ os) = λ i. first_some (in_same r o i) (first_same r os i)

  -- ---- the rules on the records together

  named_same : (name : Word) (os : List Object) → has_name name (map (restated f g) os) ≡ has_name name os
  named_same name os = any_changed (restated f g) (λ o. bytes_eq (name_of o) name) (λ o. bytes_eq (name_of o) name) (λ o. ap (λ (n : Word). bytes_eq n name) (name_same f g o)) os

  repeated_same : (before os : List Object) → repeated_after (map (restated f g) before) (map (restated f g) os) ≡ repeated_after before os
  repeated_same before [] = refl
  repeated_same before (o ∷ os) =
      let here : unless (not (has_name (name_of (restated f g o)) (map (restated f g) before))) (fault.Exists (name_of (restated f g o))) ≡ unless (not (has_name (name_of o) before)) (fault.Exists (name_of o)) =
      ap (λ (n : Word). unless (not (has_name n (map (restated f g) before))) (fault.Exists n)) (name_same f g o) ∙ ap (λ (b : Bool). unless (not b) (fault.Exists (name_of o))) (named_same (name_of o) before) in
      let more : repeated_after (map (restated f g) before ++ restated f g o ∷ []) (map (restated f g) os) ≡ repeated_after (before ++ o ∷ []) os =
      ap (λ (l : List Object). repeated_after l (map (restated f g) os)) (sym (map-append (restated f g) before (o ∷ []))) ∙ repeated_same (before ++ o ∷ []) os in
      λ i. first_some (here i) (more i)

  earlier_same : (s : Subdisk) → overlaps_earlier now s ≡ overlaps_earlier all s
  earlier_same s = any_subdisk (λ t. comes_before t.name s.name && shares_sector s t) (λ t. comes_before t.name s.name && shares_sector s t) (λ t. refl)

  overlap_like : (best : Option Word) (o : Object) → first_overlap_with now best (restated f g o) ≡ first_overlap_with all best o
  overlap_like best (SubdiskRecord s) = λ i. if earlier_same s i then lesser best s.name else best
  overlap_like best (PlexRecord p) = refl
  overlap_like best (VolRecord v) = refl
  overlap_like best o = refl

  over_same : (r : Rule) → fault_over r now ≡ fault_over r all
  unfolding fault_over
  over_same rule.OneGroup =
      let one = count_changed (restated f g) (λ o. is_group (λ x. true) o) (λ o. is_group (λ x. true) o) (group_same f g (λ x. true)) all in
      let version = any_changed (restated f g) (λ o. is_group (λ x. x.version == 1) o) (λ o. is_group (λ x. x.version == 1) o) (group_same f g (λ x. x.version == 1)) all in
      λ i. unless (one i == 1 && version i) (fault.Limit limit.Group)
  over_same rule.NamesDiffer = repeated_same [] all
  over_same rule.VolumesAreFew =
      let few = count_changed (restated f g) (λ o. is_vol (λ v. true) o) (λ o. is_vol (λ v. true) o) (vol_like f g (λ v. true) (λ v. true) (λ v. refl)) all in
      λ i. unless (nat_le (few i) 64) (fault.Limit limit.Volumes)
  over_same rule.SubdisksDoNotOverlap = ap overlap_of (fold_changed (restated f g) (first_overlap_with now) (first_overlap_with all) overlap_like None all)
  over_same r = refl

  rule_same : (r : Rule) → fault_of r now ≡ fault_of r all
  unfolding fault_of
  rule_same r = λ i. first_some (over_same r i) (first_same r all i)

  rules_same : (rs : List Rule) → first_broken_of rs now ≡ first_broken_of rs all
  rules_same [] = refl
  rules_same (r ∷ rs) = λ i. first_some (rule_same r i) (rules_same rs i)

  -- the refusal of such records is that of the records before
  pub unseen : first_broken now ≡ first_broken all
  unfolding first_broken
  unseen = rules_same rules
