-- What a configuration records, by its records and by its lists.
use Rattle.std.proofs.Common.{◌≡◌, Bool, true, false, is_some, is_none, ◌||◌, Option, Some, None, List, [], ◌∷◌, refl, ◌∙◌, ap, if◌then◌else◌}
use Rattle.std.specs.List.{list_any, filter_map}
use Rattle.std.specs.Str.{bytes_eq}
use Rattle.vx_base.specs.Named.{Word}
use Rattle.vx_config_parts.specs.declared.disk.Disk.{Disk}
use Rattle.vx_config_parts.specs.declared.plex.Plex.{Plex}
use Rattle.vx_config_parts.specs.declared.vol.Vol.{Vol}
use Rattle.vx_config_parts.specs.declared.snap.Snap.{Snap}
use Rattle.vx_config_parts.specs.declared.object.Object.{Object}
use Rattle.vx_config_parts.specs.declared.object.Object.TheVariants.{DiskRecord, PlexRecord, VolRecord, SnapRecord}
use Rattle.vx_config_parts.specs.Objects.{is_disk, is_plex, is_vol, is_snap}
use Rattle.vx_rules.specs.References.{has_vol}
use Rattle.vx_rules.specs.Rules.{first_broken, is_valid}
use Rattle.vx_objects.specs.declared.config.Config.{Config}
use Rattle.vx_objects.specs.Config.{objects_of}
use Rattle.vx_objects.specs.Parts.{as_disk, as_plex, as_vol, as_snap}
use Rattle.vx_objects.proofs.InKinds.{disks_below, plexes_below, volumes_below, snaps_below}
use Rattle.vx_stages.specs.Tests.{volume_in}

nothing : {A : Type 0} (o : Option A) → is_none o ≡ true → o ≡ None
nothing None e = refl
nothing (Some x) e = cc

none_broken : (all : List Object) → is_valid all ≡ true → first_broken all ≡ None
unfolding is_valid
none_broken all valid = nothing (first_broken all) valid

-- no rule is broken in a configuration
pub is_kept : (c : Config) → first_broken (objects_of c) ≡ None
is_kept c = none_broken (objects_of c) c.valid

disk_among : (test : Disk → Bool) (os : List Object) → list_any (λ o. is_disk test o) os ≡ list_any test (filter_map as_disk os)
disk_among test [] = refl
disk_among test (DiskRecord d ∷ os) = ap (λ (b : Bool). test d || b) (disk_among test os)
disk_among test (o ∷ os) = disk_among test os

plex_among : (test : Plex → Bool) (os : List Object) → list_any (λ o. is_plex test o) os ≡ list_any test (filter_map as_plex os)
plex_among test [] = refl
plex_among test (PlexRecord p ∷ os) = ap (λ (b : Bool). test p || b) (plex_among test os)
plex_among test (o ∷ os) = plex_among test os

vol_among : (test : Vol → Bool) (os : List Object) → list_any (λ o. is_vol test o) os ≡ list_any test (filter_map as_vol os)
vol_among test [] = refl
vol_among test (VolRecord v ∷ os) = ap (λ (b : Bool). test v || b) (vol_among test os)
vol_among test (o ∷ os) = vol_among test os

snap_among : (test : Snap → Bool) (os : List Object) → list_any (λ o. is_snap test o) os ≡ list_any test (filter_map as_snap os)
snap_among test [] = refl
snap_among test (SnapRecord s ∷ os) = ap (λ (b : Bool). test s || b) (snap_among test os)
snap_among test (o ∷ os) = snap_among test os

module _ (c : Config) where
  pub any_disk : (test : Disk → Bool) → list_any (λ o. is_disk test o) (objects_of c) ≡ list_any test c.disks
  any_disk test = disk_among test (objects_of c) ∙ ap (λ (ds : List Disk). list_any test ds) (disks_below c.disks c.subdisks c.plexes c.volumes c.dcos c.snaps)

  pub any_plex : (test : Plex → Bool) → list_any (λ o. is_plex test o) (objects_of c) ≡ list_any test c.plexes
  any_plex test = plex_among test (objects_of c) ∙ ap (λ (ps : List Plex). list_any test ps) (plexes_below c.disks c.subdisks c.plexes c.volumes c.dcos c.snaps)

  pub any_vol : (test : Vol → Bool) → list_any (λ o. is_vol test o) (objects_of c) ≡ list_any test c.volumes
  any_vol test = vol_among test (objects_of c) ∙ ap (λ (vs : List Vol). list_any test vs) (volumes_below c.disks c.subdisks c.plexes c.volumes c.dcos c.snaps)

  pub any_snap : (test : Snap → Bool) → list_any (λ o. is_snap test o) (objects_of c) ≡ list_any test c.snaps
  any_snap test = snap_among test (objects_of c) ∙ ap (λ (ss : List Snap). list_any test ss) (snaps_below c.disks c.subdisks c.plexes c.volumes c.dcos c.snaps)

pub named_in : (vol : Word) (vs : List Vol) → list_any (λ v. bytes_eq v.name vol) vs ≡ is_some (volume_in vol vs)
named_in vol [] = refl
named_in vol (v ∷ vs) = by (bytes_eq v.name vol) (named_in vol vs)
  where
    by : (b : Bool) → list_any (λ v. bytes_eq v.name vol) vs ≡ is_some (volume_in vol vs) → (b || list_any (λ v. bytes_eq v.name vol) vs) ≡ is_some (if b then Some v else volume_in vol vs)
    by true e = refl
    by false e = e

-- a volume that is recorded is there
pub has_recorded : (vol : Word) (c : Config) → is_some (volume_in vol c.volumes) ≡ true → has_vol vol (objects_of c) ≡ true
has_recorded vol c e = any_vol c (λ v. bytes_eq v.name vol) ∙ named_in vol c.volumes ∙ e
