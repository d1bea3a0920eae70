-- The laws of a configuration.
use Rattle.std.proofs.Common.{◌≡◌, ℕ, ◌+◌, ◌<◌, Bool, true, refl, sym, subst, arith}
use Rattle.std.specs.Prelude.{◌&&◌, ◌==◌}
use Rattle.std.specs.List.{count_by}
use Rattle.std.specs.Str.{bytes_eq}
use Rattle.std.proofs.lemmas.Bool.{and_from, eq-eqb}
use Rattle.vx_base.specs.Named.{Word}
use Rattle.vx_base.proofs.NamedLemmas.{bytes_eq_self}
use Rattle.vx_block.specs.Geometry.{is_geometry}
use Rattle.vx_config_parts.specs.declared.object.Object.{Object}
use Rattle.vx_config_parts.specs.declared.object.Object.TheVariants.{PlexRecord, SnapRecord}
use Rattle.vx_config_parts.specs.Objects.{is_data_plex_of, is_plex, is_snap}
use Rattle.vx_rules.specs.Maps.{has_map, map_uses}
use Rattle.vx_objects.specs.declared.config.Config.{Config}
use Rattle.vx_objects.specs.Config.{objects_of}
use Rattle.vx_image.proofs.PlexMembers.{plex_in}
use Rattle.vx_image.proofs.Members.{contains, is_in}
use Rattle.vx_lending.proofs.Rules.{snap_in, vol_geometry}
use Rattle.vx_new_volumes.specs.Rule.{has_small_numbers}
use Rattle.vx_new_volumes.specs.Mirrors.{mirror_request}
use Rattle.vx_group_edits.proofs.ByKind.{plex_recorded}
use Rattle.vx_group_edits.specs.MirrorLaws.{EachFreeMapIsFree, EachLaidMirrorIsNew, EachLowestPlexIsLowest, EachMirrorCanBeAskedFor, EachVolumeHasALowestPlex}
use Rattle.vx_group_edits.specs.Mirrors.{IsFreeMapOf}
use Rattle.vx_group_edits.proofs.FreeMaps.{free_found, none_passes}
use Rattle.vx_group_edits.proofs.Lowest.{lowest_below, lowest_in, lowest_some}
use Rattle.vx_group_edits.proofs.Records.{mirror_is_of}
use Rattle.vx_group_edits.proofs.Requests.{small_request, some_data}

pub has_lowest : EachVolumeHasALowestPlex
has_lowest c v of = let own = some_data c v of in lowest_some v.name (objects_of c) own.0 own.1 own.2

pub is_lowest : EachLowestPlexIsLowest
is_lowest c vol p e =
    let own = lowest_in vol (objects_of c) p e in
    record {
      there = contains c.plexes p (plex_recorded c p own.0);
      own = own.1;
      lowest = λ q there mine. lowest_below vol (objects_of c) p q e (plex_in c q (is_in c.plexes q there)) mine;
    }

pub can_be_asked : EachMirrorCanBeAskedFor
can_be_asked c v lowest disks of e =
    and_from (is_geometry v.len v.region) (has_small_numbers (mirror_request (objects_of c) v lowest disks)) (vol_geometry c v of)
    (small_request c v lowest disks (lowest_in v.name (objects_of c) lowest e).0)

module _ (c : Config) (vol : Word) (m : ℕ) where
  abbrev of_plexes : Object → Bool
  of_plexes o = is_plex (λ p. is_data_plex_of vol p && has_map p.map m) o

  abbrev of_snapshots : Object → Bool
  of_snapshots o = is_snap (λ s. bytes_eq s.vol vol && s.map == m) o

  abbrev of_originals : Object → Bool
  of_originals o = is_snap (λ s. bytes_eq s.of vol && s.ofmap == m) o

  has_one : (word : Word) (k : ℕ) → word ≡ vol → k ≡ m → (bytes_eq word vol && k == m) ≡ true
  has_one word k same is = and_from (bytes_eq word vol) (k == m) (subst (λ w. bytes_eq w vol ≡ true) (sym same) (bytes_eq_self vol)) (eq-eqb k m is)

  unused_free : map_uses (objects_of c) vol m ≡ 0 → m < 30 → IsFreeMapOf c vol m
  unused_free none low =
      let all = objects_of c in
      let total : count_by of_plexes all + count_by of_snapshots all + count_by of_originals all ≡ 0 = none in
      record {
        low = low;
        plexes = λ p there own is. none_passes of_plexes all (PlexRecord p) (omega (arith, total)) (plex_in c p (is_in c.plexes p there)) (and_from (is_data_plex_of vol p) (has_map p.map m) own (subst (λ o. has_map o m ≡ true) (sym is) (eq-eqb m m refl)));
        snapshots = λ s there own is. none_passes of_snapshots all (SnapRecord s) (omega (arith, total)) (snap_in c s (is_in c.snaps s there)) (has_one s.vol s.map own is);
        originals = λ s there own is. none_passes of_originals all (SnapRecord s) (omega (arith, total)) (snap_in c s (is_in c.snaps s there)) (has_one s.of s.ofmap own is);
      }

pub is_free : EachFreeMapIsFree
is_free c vol m e = let found = free_found (objects_of c) vol m e in unused_free c vol m found.1 found.0

pub is_new : EachLaidMirrorIsNew
is_new c good v disks m added laid =
    let made = mirror_is_of (objects_of c) v laid.lowest m laid.plan added laid.records in
    (made.0, made.2, is_free c v.name m laid.free)
