-- Where the records that belong together are as before, each rule that held of a record holds still.
use Rattle.std.proofs.Common.{◌≡◌, ℕ, ◌+◌, ◌*◌, ◌%◌, ◌≤◌, Bool, true, false, not, ◌&&◌, ◌||◌, ◌==◌, nat_lt, nat_le, is_some, Option, Some, None, List, refl, sym, ◌∙◌, ap, if◌then◌else◌}
use Rattle.std.specs.List.{list_any, list_all, count_by, fold}
use Rattle.std.specs.Str.{bytes_eq}
use Rattle.vx_base.specs.Named.{Word}
use Rattle.vx_rules.specs.Below.{all_below}
use Rattle.vx_rules.specs.Columns.{is_in_column, column_begins, piece_follows, piece_is_good, all_pieces_good, column_length, columns_are_equal, layout_is_good, plex_length, columns_are_good}
use Rattle.vx_rules.specs.Overlap.{shares_sector, overlaps_earlier, first_overlap_with, overlap_of}
use Rattle.vx_rules.specs.Sizes.{holds, layout_fits_kind}
use Rattle.vx_config_parts.specs.declared.group.Group.{Group}
use Rattle.vx_config_parts.specs.declared.disk.Disk.{Disk}
use Rattle.vx_config_parts.specs.declared.subdisk.Subdisk.{Subdisk}
use Rattle.vx_config_parts.specs.declared.plex.Plex.{Plex}
use Rattle.vx_config_parts.specs.declared.plex.PlexLayout.{PlexLayout}
use Rattle.vx_config_parts.specs.declared.plex.PlexLayout.TheVariants.{Concat, Stripe}
use Rattle.vx_config_parts.specs.declared.vol.Vol.{Vol}
use Rattle.vx_config_parts.specs.declared.vol.PolicyKind.{PolicyKind}
use Rattle.vx_config_parts.specs.declared.vol.PolicyKind.TheVariants as kind
use Rattle.vx_config_parts.specs.declared.state.VolState.{VolState}
use Rattle.vx_config_parts.specs.declared.dco.Dco.{Dco}
use Rattle.vx_config_parts.specs.declared.snap.Snap.{Snap}
use Rattle.vx_config_parts.specs.declared.object.Object.{Object}
use Rattle.vx_config_parts.specs.declared.object.Object.TheVariants.{GroupRecord, DiskRecord, SubdiskRecord, PlexRecord, VolRecord, DcoRecord, SnapRecord}
use Rattle.vx_config_parts.specs.declared.fault.Limit.TheVariants as limit
use Rattle.vx_config_parts.specs.declared.fault.ObjectFault.TheVariants as fault
use Rattle.vx_config_parts.specs.Objects.{is_group, is_disk, is_subdisk, is_plex, is_vol, is_dco, is_snap, comes_before, refers, is_data, is_log, is_data_plex_of, is_log_plex_of}
use Rattle.vx_rules.specs.declared.rule.Rule.TheVariants as rule
use Rattle.vx_rules.specs.Faults.{unless}
use Rattle.vx_rules.specs.Limits.{numbers_fit, slot_is_own, volumes_are_few, name_is_short, plexes_are_good}
use Rattle.vx_rules.specs.Maps.{has_map, map_uses, plex_map_fits, maps_fit, maps_differ, maps_are_good, is_in_use, logs_are_good, has_data_plex, prefer_fault_of}
use Rattle.vx_rules.specs.References.{has_disk, has_plex, has_vol, has_dco_of, has_vol_with, missing}
use Rattle.vx_rules.specs.Relations.{relation_is_alone, is_prepared, has_shape, shapes_are_equal}
use Rattle.vx_rules.specs.Rules.{fault_in, fault_over}
use Rattle.vx_rules.specs.Space.{has_room, lies_inside}
use Rattle.vx_rules.specs.Whole.{has_volume_within, holds_volume, is_whole}
use Rattle.vx_objects.proofs.OneGroup.{second_none, unless_none}
use Rattle.vx_plan_laws.proofs.Counts.{and_kept, first_of_two, second_of_two, first_of_three, turned, same_number, any_counts, any_like, any_kept}
use Rattle.vx_plan_laws.proofs.Differ.{AreOnce, none_repeated}
use Rattle.vx_plan_laws.proofs.FirstRefusals.{both_none, both_kept, unless_true, unless_kept, IsFine, AreFine}
use Rattle.vx_plan_laws.proofs.OneRule.{EachName, OfName, of_each, missing_kept, plex_asks, subdisk_asks, subdisk_like, refuted, pieces_by, bad_plex, bad_snap, maps_by, with_policy, holds_steady, reaches, length_from, none_overlaps, none_found, overlap_none, fewer, some_still, none_fewer}

-- ---- what is as before

-- as many records pass the test as before
abbrev pub IsSame : List Object → List Object → (Object → Bool) → Type 0
IsSame old new test = count_by test new ≡ count_by test old

-- what passes lies in the plex of the name
abbrev pub AsksPlex : Word → (Subdisk → Bool) → Type 0
AsksPlex plex test = (s : Subdisk) → test s ≡ true → refers s.plex plex ≡ true

-- what passes is the plex of the name
abbrev pub AsksName : Word → (Plex → Bool) → Type 0
AsksName plex test = (p : Plex) → test p ≡ true → bytes_eq p.name plex ≡ true

-- what passes is a plex of the volume
abbrev pub AsksVolume : Word → (Plex → Bool) → Type 0
AsksVolume vol test = (p : Plex) → test p ≡ true → refers p.vol vol ≡ true

-- what passes is the volume of the name, whatever its state and policy
pub record AsksShape (vol : Word) (test : Vol → Bool) : Type 0 where
  pub named : (v : Vol) → test v ≡ true → bytes_eq v.name vol ≡ true
  pub steady : (v : Vol) (state : VolState) (rdpol : PolicyKind) (prefer : Option Word) → test (with_policy v state rdpol prefer) ≡ test v

-- what passes is a DCO of the volume
abbrev pub AsksDco : Word → (Dco → Bool) → Type 0
AsksDco vol test = (d : Dco) → test d ≡ true → bytes_eq d.vol vol ≡ true

-- What belongs to these volumes and plexes is as before, and so are groups and relations; no disk is gone; there are no more
-- subdisks and volumes.
pub record Keeps (old new : List Object) (Vols Plexes : Word → Type 0) : Type 0 where
  pub groups : (test : Group → Bool) → IsSame old new (λ o. is_group test o)
  pub disks : (test : Disk → Bool) → list_any (λ o. is_disk test o) old ≡ true → list_any (λ o. is_disk test o) new ≡ true
  pub subdisks : (plex : Word) (test : Subdisk → Bool) → Plexes plex → AsksPlex plex test → IsSame old new (λ o. is_subdisk test o)
  pub plexes : (plex : Word) (test : Plex → Bool) → Plexes plex → AsksName plex test → IsSame old new (λ o. is_plex test o)
  pub plexes_of : (vol : Word) (test : Plex → Bool) → Vols vol → AsksVolume vol test → IsSame old new (λ o. is_plex test o)
  pub volumes : (vol : Word) (test : Vol → Bool) → Vols vol → AsksShape vol test → IsSame old new (λ o. is_vol test o)
  pub dcos : (vol : Word) (test : Dco → Bool) → Vols vol → AsksDco vol test → IsSame old new (λ o. is_dco test o)
  pub snaps : (test : Snap → Bool) → IsSame old new (λ o. is_snap test o)
  pub few_subdisks : (test : Subdisk → Bool) → count_by (λ o. is_subdisk test o) new ≤ count_by (λ o. is_subdisk test o) old
  pub few_volumes : count_by (λ o. is_vol (λ v. true) o) new ≤ count_by (λ o. is_vol (λ v. true) o) old

pub any_same : (old new : List Object) (test : Object → Bool) → IsSame old new test → list_any test new ≡ list_any test old
any_same old new test same = any_counts test new ∙ ap (λ (n : ℕ). nat_lt 0 n) same ∙ sym (any_counts test old)

-- what a record refers to is as before
abbrev pub IsOn : (Word → Type 0) → (Word → Type 0) → List Object → Object → Type 0
IsOn Vols Plexes new (GroupRecord g) = Unit {0}
IsOn Vols Plexes new (DiskRecord d) = slot_is_own new (DiskRecord d) ≡ true
IsOn Vols Plexes new (SubdiskRecord s) = OfName Plexes s.plex
IsOn Vols Plexes new (PlexRecord p) = OfName Vols p.vol × Plexes p.name
IsOn Vols Plexes new (VolRecord v) = Vols v.name
IsOn Vols Plexes new (DcoRecord d) = Vols d.vol
IsOn Vols Plexes new (SnapRecord s) = Vols s.vol × Vols s.of

-- ---- each record

module _ (old new : List Object) (Vols Plexes : Word → Type 0) (k : Keeps old new Vols Plexes) where
  any_subdisk : (plex : Word) (test : Subdisk → Bool) → Plexes plex → AsksPlex plex test → list_any (λ o. is_subdisk test o) new ≡ list_any (λ o. is_subdisk test o) old
  any_subdisk plex test on asks = any_same old new (λ o. is_subdisk test o) (k.subdisks plex test on asks)

  any_plex_of : (vol : Word) (test : Plex → Bool) → Vols vol → AsksVolume vol test → list_any (λ o. is_plex test o) new ≡ list_any (λ o. is_plex test o) old
  any_plex_of vol test on asks = any_same old new (λ o. is_plex test o) (k.plexes_of vol test on asks)

  any_volume : (vol : Word) (test : Vol → Bool) → Vols vol → AsksShape vol test → list_any (λ o. is_vol test o) new ≡ list_any (λ o. is_vol test o) old
  any_volume vol test on asks = any_same old new (λ o. is_vol test o) (k.volumes vol test on asks)

  any_snap : (test : Snap → Bool) → list_any (λ o. is_snap test o) new ≡ list_any (λ o. is_snap test o) old
  any_snap test = any_same old new (λ o. is_snap test o) (k.snaps test)

  plex_there : (plex : Word) → Plexes plex → has_plex plex old ≡ true → has_plex plex new ≡ true
  plex_there plex on e = any_same old new (λ o. is_plex (λ p. bytes_eq p.name plex) o) (k.plexes plex (λ p. bytes_eq p.name plex) on (λ p is. is)) ∙ e

  vol_there : (vol : Word) → Vols vol → has_vol vol old ≡ true → has_vol vol new ≡ true
  vol_there vol on e = any_volume vol (λ v. bytes_eq v.name vol) on (record { named = λ v is. is; steady = λ v state rdpol prefer. refl }) ∙ e

  -- ---- a subdisk

  subdisk_kept : (s : Subdisk) → OfName Plexes s.plex → IsFine old (SubdiskRecord s) → IsFine new (SubdiskRecord s)
  unfolding fault_in
  subdisk_kept s on fine rule.ReferencesAreThere =
      both_kept (unless (has_disk s.disk old) (fault.NoObject s.disk)) (missing s.plex (λ p. has_plex p old)) (unless (has_disk s.disk new) (fault.NoObject s.disk)) (missing s.plex (λ p. has_plex p new))
      (unless_kept (has_disk s.disk old) (has_disk s.disk new) (fault.NoObject s.disk) (k.disks (λ d. bytes_eq d.name s.disk)))
      (missing_kept Plexes (λ p. has_plex p old) (λ p. has_plex p new) plex_there s.plex on)
      (fine rule.ReferencesAreThere)
  subdisk_kept s on fine rule.SubdisksLieInside =
      unless_kept (lies_inside old s) (lies_inside new s) (fault.Outside s.name)
      (and_kept (nat_lt 0 s.len) (has_room old s) (nat_lt 0 s.len) (has_room new s) (λ e. e) (k.disks (λ d. bytes_eq d.name s.disk && nat_le (s.off + s.len) d.publen)))
      (fine rule.SubdisksLieInside)
  subdisk_kept s on fine rule.NumbersFit = fine rule.NumbersFit
  subdisk_kept s on fine r = refl

  -- ---- a plex

  module _ (p : Plex) (named : Plexes p.name) where
    begins : (col : ℕ) → column_begins new p.name col ≡ column_begins old p.name col
    begins col = any_subdisk p.name (λ s. is_in_column p.name col s && s.at == 0) named (λ s e. first_of_three (refers s.plex p.name) (s.col == col) (s.at == 0) e)

    long : (col : ℕ) → column_length new p.name col ≡ column_length old p.name col
    long col =
        same_number (column_length new p.name col) (column_length old p.name col)
        (λ n. length_from p.name col n 0 new
        ∙ ap (λ (b : Bool). nat_lt n 0 || b) (any_subdisk p.name (reaches p.name col n) named (λ s e. first_of_three (refers s.plex p.name) (s.col == col) (nat_lt n (s.at + s.len)) e))
        ∙ sym (length_from p.name col n 0 old))

    equal : columns_are_equal new p ≡ columns_are_equal old p
    equal = λ i. all_below p.ncol (λ c. begins c i && long c i == long 0 i)

    laid_out : (layout : PlexLayout) → layout_is_good new p layout ≡ layout_is_good old p layout
    laid_out Concat = refl
    laid_out Stripe = λ i. nat_le 2 p.ncol && nat_le p.ncol 16 && nat_lt 0 p.unit && long 0 i % p.unit == 0

    follows : (s : Subdisk) → piece_follows new p.name s ≡ piece_follows old p.name s
    follows s =
        let before = any_subdisk p.name (λ t. is_in_column p.name s.col t && t.at + t.len == s.at) named (λ t e. first_of_three (refers t.plex p.name) (t.col == s.col) (t.at + t.len == s.at) e) in
        let beside = k.subdisks p.name (λ t. is_in_column p.name s.col t && t.at == s.at) named (λ t e. first_of_three (refers t.plex p.name) (t.col == s.col) (t.at == s.at) e) in
        λ i. (s.at == 0 || before i) && nat_le (beside i) 1

    piece : (s : Subdisk) → piece_is_good new p s ≡ piece_is_good old p s
    piece s = λ i. if refers s.plex p.name then nat_lt s.col p.ncol && follows s i else true

    pieces : list_all (λ o. all_pieces_good new p o) new ≡ list_all (λ o. all_pieces_good old p o) old
    pieces =
        pieces_by new p new
        ∙ ap not (any_subdisk p.name (λ s. not (piece_is_good new p s)) named (λ s e. refuted (refers s.plex p.name) (nat_lt s.col p.ncol && piece_follows new p.name s) e))
        ∙ ap not (any_like (λ o. is_subdisk (λ s. not (piece_is_good new p s)) o) (λ o. is_subdisk (λ s. not (piece_is_good old p s)) o) old (subdisk_like (λ s. not (piece_is_good new p s)) (λ s. not (piece_is_good old p s)) (λ s. ap not (piece s))))
        ∙ sym (pieces_by old p old)

    columns : columns_are_good new p ≡ columns_are_good old p
    columns = λ i. laid_out p.layout i && equal i && pieces i

    held : (vol : Option Word) → OfName Vols vol → holds_volume new p vol ≡ holds_volume old p vol
    held None on = refl
    held (Some vol) on =
        any_volume vol (λ v. bytes_eq v.name vol && holds p.kind (plex_length new p) v) on
        (record {
          named = λ v e. first_of_two (bytes_eq v.name vol) (holds p.kind (plex_length new p) v) e;
          steady = λ v state rdpol prefer. ap (λ (b : Bool). bytes_eq v.name vol && b) (holds_steady p.kind (plex_length new p) v state rdpol prefer);
        })
        ∙ (λ i. has_volume_within old vol p.kind (p.ncol * long 0 i))

    whole : OfName Vols p.vol → is_whole new p ≡ is_whole old p
    whole on = λ i. layout_fits_kind p.kind p.layout && columns i && held p.vol on i

  plex_kept : (p : Plex) → OfName Vols p.vol → Plexes p.name → IsFine old (PlexRecord p) → IsFine new (PlexRecord p)
  unfolding fault_in
  plex_kept p on named fine rule.ReferencesAreThere = missing_kept Vols (λ v. has_vol v old) (λ v. has_vol v new) vol_there p.vol on (fine rule.ReferencesAreThere)
  plex_kept p on named fine rule.PlexesAreWhole = unless_kept (is_whole old p) (is_whole new p) (fault.NotWhole p.name) (λ e. whole p named on ∙ e) (fine rule.PlexesAreWhole)
  plex_kept p on named fine rule.MapsAreGood = fine rule.MapsAreGood
  plex_kept p on named fine rule.NumbersFit = fine rule.NumbersFit
  plex_kept p on named fine r = refl

  -- ---- a volume, whatever its state and policy

  has_data_same : (vol : Word) → Vols vol → (plex : Word) → has_data_plex plex vol new ≡ has_data_plex plex vol old
  has_data_same vol on plex =
      any_plex_of vol (λ p. bytes_eq p.name plex && is_data_plex_of vol p) on
      (λ p e. first_of_two (refers p.vol vol) (is_data p.kind) (second_of_two (bytes_eq p.name plex) (is_data_plex_of vol p) e))

  pub prefer_same : (vol : Word) → Vols vol → (rdpol : PolicyKind) (prefer : Option Word) → prefer_fault_of new vol rdpol prefer ≡ prefer_fault_of old vol rdpol prefer
  prefer_same vol on kind.Prefer (Some plex) = ap (λ (b : Bool). unless b (fault.NoObject plex)) (has_data_same vol on plex)
  prefer_same vol on kind.Prefer None = refl
  prefer_same vol on kind.Round prefer = by prefer
    where
      by : (a : Option Word) → prefer_fault_of new vol kind.Round a ≡ prefer_fault_of old vol kind.Round a
      by None = refl
      by (Some plex) = refl
  prefer_same vol on kind.Select prefer = by prefer
    where
      by : (a : Option Word) → prefer_fault_of new vol kind.Select a ≡ prefer_fault_of old vol kind.Select a
      by None = refl
      by (Some plex) = refl

  -- a plex that is preferred is there
  preferred : (vol : Word) (rdpol : PolicyKind) (prefer : Option Word) → prefer_fault_of new vol rdpol prefer ≡ None → missing prefer (λ p. has_plex p new) ≡ None
  preferred vol rdpol None e = refl
  preferred vol kind.Prefer (Some plex) e =
      unless_kept (has_data_plex plex vol new) (has_plex plex new) (fault.NoObject plex)
      (any_kept (λ o. is_plex (λ p. bytes_eq p.name plex && is_data_plex_of vol p) o) (λ o. is_plex (λ p. bytes_eq p.name plex) o) new
      (plex_asks (λ p. bytes_eq p.name plex && is_data_plex_of vol p) (λ p. bytes_eq p.name plex) (λ p is. first_of_two (bytes_eq p.name plex) (is_data_plex_of vol p) is)))
      e
  preferred vol kind.Round (Some plex) e = cc
  preferred vol kind.Select (Some plex) e = cc

  module _ (v : Vol) (on : Vols v.name) where
    plexes_same : plexes_are_good new (VolRecord v) ≡ plexes_are_good old (VolRecord v)
    plexes_same =
        let some = any_plex_of v.name (λ p. is_data_plex_of v.name p) on (λ p e. first_of_two (refers p.vol v.name) (is_data p.kind) e) in
        let few = k.plexes_of v.name (λ p. refers p.vol v.name) on (λ p e. e) in
        λ i. some i && nat_le (few i) 32

    uses_same : (map : ℕ) → map_uses new v.name map ≡ map_uses old v.name map
    uses_same map =
        let data_uses = k.plexes_of v.name (λ p. is_data_plex_of v.name p && has_map p.map map) on (λ p e. first_of_three (refers p.vol v.name) (is_data p.kind) (has_map p.map map) e) in
        let snap_uses = k.snaps (λ s. bytes_eq s.vol v.name && s.map == map) in
        let of_uses = k.snaps (λ s. bytes_eq s.of v.name && s.ofmap == map) in
        λ i. data_uses i + snap_uses i + of_uses i

    differ_same : maps_differ new v.name ≡ maps_differ old v.name
    unfolding maps_differ
    differ_same = λ i. all_below 30 (λ m. nat_le (uses_same m i) 1)

    fit_same : list_all (λ o. maps_fit v o) new ≡ list_all (λ o. maps_fit v o) old
    fit_same =
        let plexes = any_plex_of v.name (bad_plex v) on (λ p e. refuted (refers p.vol v.name) (plex_map_fits p.kind (is_some v.dco) p.map) e) in
        let relations = any_snap (bad_snap v) in
        maps_by v new ∙ (λ i. not (plexes i || relations i)) ∙ sym (maps_by v old)

    maps_same : maps_are_good new v ≡ maps_are_good old v
    maps_same = λ i. fit_same i && differ_same i

    logs_same : (dco : Option Word) → logs_are_good new v.name dco ≡ logs_are_good old v.name dco
    logs_same None =
        let few = k.plexes_of v.name (λ p. is_data_plex_of v.name p) on (λ p e. first_of_two (refers p.vol v.name) (is_data p.kind) e) in
        λ i. nat_le (few i) 1
    logs_same (Some dco) =
        let logs = k.plexes_of v.name (λ p. is_log_plex_of v.name p && is_in_use p.state) on (λ p e. first_of_three (refers p.vol v.name) (is_log p.kind) (is_in_use p.state) e) in
        λ i. nat_le 1 (logs i) && nat_le (logs i) 2

    dco_there : (dco : Word) → has_dco_of dco v.name old ≡ true → has_dco_of dco v.name new ≡ true
    dco_there dco e =
        any_same old new (λ o. is_dco (λ d. bytes_eq d.name dco && bytes_eq d.vol v.name) o)
        (k.dcos v.name (λ d. bytes_eq d.name dco && bytes_eq d.vol v.name) on (λ d is. second_of_two (bytes_eq d.name dco) (bytes_eq d.vol v.name) is)) ∙ e

    pub vol_kept : (state : VolState) (rdpol : PolicyKind) (prefer : Option Word) → prefer_fault_of new v.name rdpol prefer ≡ None → IsFine old (VolRecord v) → IsFine new (VolRecord (with_policy v state rdpol prefer))
    unfolding fault_in
    vol_kept state rdpol prefer there fine rule.ReferencesAreThere =
        both_none (missing prefer (λ p. has_plex p new)) (missing v.dco (λ d. has_dco_of d v.name new)) (preferred v.name rdpol prefer there)
        (missing_kept EachName (λ d. has_dco_of d v.name old) (λ d. has_dco_of d v.name new) (λ d any. dco_there d) v.dco (of_each v.dco)
        (second_none (missing v.prefer (λ p. has_plex p old)) (missing v.dco (λ d. has_dco_of d v.name old)) (fine rule.ReferencesAreThere)))
    vol_kept state rdpol prefer there fine rule.NumbersFit = fine rule.NumbersFit
    vol_kept state rdpol prefer there fine rule.NamesAreShort = fine rule.NamesAreShort
    vol_kept state rdpol prefer there fine rule.RegionSizesAreGood = fine rule.RegionSizesAreGood
    vol_kept state rdpol prefer there fine rule.RegionsAreGood = fine rule.RegionsAreGood
    vol_kept state rdpol prefer there fine rule.PlexesAreGood = ap (λ (b : Bool). unless b (fault.Limit limit.Plexes)) plexes_same ∙ fine rule.PlexesAreGood
    vol_kept state rdpol prefer there fine rule.MapsAreGood = ap (λ (b : Bool). unless b (fault.NoMap v.name)) maps_same ∙ fine rule.MapsAreGood
    vol_kept state rdpol prefer there fine rule.LogsAreGood = ap (λ (b : Bool). unless b (fault.NoLog v.name)) (logs_same v.dco) ∙ fine rule.LogsAreGood
    vol_kept state rdpol prefer there fine rule.PreferredPlexIsThere = there
    vol_kept state rdpol prefer there fine r = refl

  -- ---- the other records

  dco_kept : (d : Dco) → Vols d.vol → IsFine old (DcoRecord d) → IsFine new (DcoRecord d)
  unfolding fault_in
  dco_kept d on fine rule.ReferencesAreThere =
      unless_kept (has_vol_with d.vol d.name old) (has_vol_with d.vol d.name new) (fault.NoObject d.vol)
      (λ e. any_volume d.vol (λ v. bytes_eq v.name d.vol && refers v.dco d.name) on (record { named = λ v is. first_of_two (bytes_eq v.name d.vol) (refers v.dco d.name) is; steady = λ v state rdpol prefer. refl }) ∙ e)
      (fine rule.ReferencesAreThere)
  dco_kept d on fine rule.NumbersFit = fine rule.NumbersFit
  dco_kept d on fine r = refl

  module _ (s : Snap) (on : Vols s.vol) (of_on : Vols s.of) where
    alone : relation_is_alone new s ≡ relation_is_alone old s
    alone =
        let one = k.snaps (λ t. bytes_eq t.vol s.vol) in
        let none = any_snap (λ t. bytes_eq t.vol s.of) in
        λ i. one i == 1 && not (none i)

    prepared : (vol : Word) → Vols vol → is_prepared old vol ≡ true → is_prepared new vol ≡ true
    prepared vol here e = any_volume vol (λ v. bytes_eq v.name vol && is_some v.dco) here (record { named = λ v is. first_of_two (bytes_eq v.name vol) (is_some v.dco) is; steady = λ v state rdpol prefer. refl }) ∙ e

    shape_of : (len region : ℕ) → has_shape new s.of len region ≡ has_shape old s.of len region
    shape_of len region =
        any_volume s.of (λ v. bytes_eq v.name s.of && v.len == len && v.region == region) of_on
        (record { named = λ v is. first_of_three (bytes_eq v.name s.of) (v.len == len) (v.region == region) is; steady = λ v state rdpol prefer. refl })

    shapes : shapes_are_equal new s ≡ shapes_are_equal old s
    shapes =
        any_volume s.vol (λ v. bytes_eq v.name s.vol && has_shape new s.of v.len v.region) on
        (record { named = λ v is. first_of_two (bytes_eq v.name s.vol) (has_shape new s.of v.len v.region) is; steady = λ v state rdpol prefer. refl })
        ∙ (λ i. list_any (λ o. is_vol (λ v. bytes_eq v.name s.vol && shape_of v.len v.region i) o) old)

    snap_kept : IsFine old (SnapRecord s) → IsFine new (SnapRecord s)
    unfolding fault_in
    snap_kept fine rule.ReferencesAreThere =
        both_kept (unless (has_vol s.vol old) (fault.NoObject s.vol)) (unless (has_vol s.of old) (fault.NoObject s.of)) (unless (has_vol s.vol new) (fault.NoObject s.vol)) (unless (has_vol s.of new) (fault.NoObject s.of))
        (unless_kept (has_vol s.vol old) (has_vol s.vol new) (fault.NoObject s.vol) (vol_there s.vol on))
        (unless_kept (has_vol s.of old) (has_vol s.of new) (fault.NoObject s.of) (vol_there s.of of_on))
        (fine rule.ReferencesAreThere)
    snap_kept fine rule.RelationsAreAlone = ap (λ (b : Bool). unless b (fault.InUse s.vol)) alone ∙ fine rule.RelationsAreAlone
    snap_kept fine rule.RelatedVolumesHaveLogs =
        both_kept (unless (is_prepared old s.vol) (fault.NoLog s.vol)) (unless (is_prepared old s.of) (fault.NoLog s.of)) (unless (is_prepared new s.vol) (fault.NoLog s.vol)) (unless (is_prepared new s.of) (fault.NoLog s.of))
        (unless_kept (is_prepared old s.vol) (is_prepared new s.vol) (fault.NoLog s.vol) (prepared s.vol on))
        (unless_kept (is_prepared old s.of) (is_prepared new s.of) (fault.NoLog s.of) (prepared s.of of_on))
        (fine rule.RelatedVolumesHaveLogs)
    snap_kept fine rule.RelatedVolumesHaveOneShape = ap (λ (b : Bool). unless b (fault.Limit limit.Region)) shapes ∙ fine rule.RelatedVolumesHaveOneShape
    snap_kept fine rule.NumbersFit = fine rule.NumbersFit
    snap_kept fine r = refl

  group_kept : (g : Group) → IsFine old (GroupRecord g) → IsFine new (GroupRecord g)
  unfolding fault_in
  group_kept g fine rule.NamesAreShort = fine rule.NamesAreShort
  group_kept g fine r = refl

  pub disk_fine : (d : Disk) → numbers_fit (DiskRecord d) ≡ true → slot_is_own new (DiskRecord d) ≡ true → name_is_short (DiskRecord d) ≡ true → IsFine new (DiskRecord d)
  unfolding fault_in
  disk_fine d fits own short rule.NumbersFit = unless_true (numbers_fit (DiskRecord d)) (fault.Limit limit.Number) fits
  disk_fine d fits own short rule.SlotsDiffer = unless_true (slot_is_own new (DiskRecord d)) (fault.Limit limit.Disks) own
  disk_fine d fits own short rule.NamesAreShort = unless_true (name_is_short (DiskRecord d)) (fault.Limit limit.Name) short
  disk_fine d fits own short r = refl

  disk_kept : (d : Disk) → slot_is_own new (DiskRecord d) ≡ true → IsFine old (DiskRecord d) → IsFine new (DiskRecord d)
  unfolding fault_in
  disk_kept d own fine =
      disk_fine d (unless_none (numbers_fit (DiskRecord d)) (fault.Limit limit.Number) (fine rule.NumbersFit)) own
      (unless_none (name_is_short (DiskRecord d)) (fault.Limit limit.Name) (fine rule.NamesAreShort))

  old_prefer : (v : Vol) → IsFine old (VolRecord v) → prefer_fault_of old v.name v.rdpol v.prefer ≡ None
  unfolding fault_in
  old_prefer v fine = fine rule.PreferredPlexIsThere

  -- a record of which all is as before
  pub record_kept : (o : Object) → IsOn Vols Plexes new o → IsFine old o → IsFine new o
  record_kept (GroupRecord g) on fine = group_kept g fine
  record_kept (DiskRecord d) on fine = disk_kept d on fine
  record_kept (SubdiskRecord s) on fine = subdisk_kept s on fine
  record_kept (PlexRecord p) on fine = plex_kept p on.0 on.1 fine
  record_kept (VolRecord v) on fine = vol_kept v on v.state v.rdpol v.prefer (prefer_same v.name on v.rdpol v.prefer ∙ old_prefer v fine) fine
  record_kept (DcoRecord d) on fine = dco_kept d on fine
  record_kept (SnapRecord s) on fine = snap_kept s on.0 on.1 fine

  -- ---- the records together

  few_overlap : list_any (λ o. is_subdisk (λ s. overlaps_earlier old s) o) old ≡ false → list_any (λ o. is_subdisk (λ s. overlaps_earlier new s) o) new ≡ false
  few_overlap none =
      let fewer_any : (test : Subdisk → Bool) → list_any (λ o. is_subdisk test o) old ≡ false → list_any (λ o. is_subdisk test o) new ≡ false =
      λ test e. any_counts (λ o. is_subdisk test o) new ∙ none_fewer (count_by (λ o. is_subdisk test o) new) (count_by (λ o. is_subdisk test o) old) (k.few_subdisks test) (sym (any_counts (λ o. is_subdisk test o) old) ∙ e) in
      turned (list_any (λ o. is_subdisk (λ s. overlaps_earlier new s) o) new) (list_any (λ o. is_subdisk (λ s. overlaps_earlier old s) o) new)
      (any_kept (λ o. is_subdisk (λ s. overlaps_earlier new s) o) (λ o. is_subdisk (λ s. overlaps_earlier old s) o) new
      (subdisk_asks (λ s. overlaps_earlier new s) (λ s. overlaps_earlier old s)
      (λ s is. some_still (overlaps_earlier new s) (overlaps_earlier old s) (fewer_any (λ t. comes_before t.name s.name && shares_sector s t)) is)))
      (fewer_any (λ s. overlaps_earlier old s) none)

  pub group_over : fault_over rule.OneGroup old ≡ None → fault_over rule.OneGroup new ≡ None
  unfolding fault_over
  group_over over =
      let one = k.groups (λ g. true) in
      let version = any_same old new (λ o. is_group (λ g. g.version == 1) o) (k.groups (λ g. g.version == 1)) in
      (λ i. unless (one i == 1 && version i) (fault.Limit limit.Group)) ∙ over

  pub over_kept : AreOnce new → AreFine old → AreFine new
  unfolding fault_over
  over_kept once over rule.OneGroup = group_over (over rule.OneGroup)
  over_kept once over rule.NamesDiffer = none_repeated new once
  over_kept once over rule.VolumesAreFew =
      unless_kept (volumes_are_few old) (volumes_are_few new) (fault.Limit limit.Volumes)
      (fewer (count_by (λ o. is_vol (λ v. true) o) new) (count_by (λ o. is_vol (λ v. true) o) old) 64 k.few_volumes) (over rule.VolumesAreFew)
  over_kept once over rule.SubdisksDoNotOverlap =
      ap overlap_of (none_found new new (few_overlap (none_overlaps old old (overlap_none (fold (first_overlap_with old) None old) (over rule.SubdisksDoNotOverlap)))))
  over_kept once over r = refl
