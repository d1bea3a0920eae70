-- What the rules say of a volume of a valid configuration, its plexes and its relations.
use Rattle.std.proofs.Common.{◌≡◌, ◌⊎◌, inl, inr, ℕ, ◌<◌, ◌≤◌, Bool, true, false, cond, Option, Some, None, List, [], ◌++◌, map, take, drop, refl, sym, ◌∙◌, subst, arith}
use Rattle.std.specs.Prelude.{◌&&◌, nat_lt, nat_le, is_some}
use Rattle.std.specs.List.{list_all}
use Rattle.std.specs.Str.{bytes_eq}
use Rattle.std.proofs.lemmas.Bool.{and_parts, false≢true, ltb-true, leb-true}
use Rattle.vx_base.specs.Named.{Word}
use Rattle.vx_base.proofs.NamedLemmas.{bytes_eq_same}
use Rattle.vx_block.specs.Geometry.{is_geometry}
use Rattle.vx_config_parts.specs.declared.object.Object.{Object}
use Rattle.vx_config_parts.specs.declared.object.Object.TheVariants.{DiskRecord, SubdiskRecord, PlexRecord, VolRecord, DcoRecord, SnapRecord}
use Rattle.vx_config_parts.specs.declared.plex.Plex.{Plex}
use Rattle.vx_config_parts.specs.declared.plex.PlexKind.{PlexKind}
use Rattle.vx_config_parts.specs.declared.plex.PlexKind.TheVariants.{Data, Log}
use Rattle.vx_config_parts.specs.declared.snap.Snap.{Snap}
use Rattle.vx_config_parts.specs.declared.vol.Vol.{Vol}
use Rattle.vx_config_parts.specs.declared.fault.Limit.TheVariants as limit
use Rattle.vx_config_parts.specs.declared.fault.ObjectFault.TheVariants.{Limit, NoMap, NoLog}
use Rattle.vx_config_parts.specs.Objects.{refers, is_data, is_data_plex_of, name_of}
use Rattle.vx_rules.specs.Below.{all_below}
use Rattle.vx_rules.proofs.Below.{all_below_fails}
use Rattle.vx_rules.specs.declared.rule.Rule.TheVariants as rule
use Rattle.vx_rules.specs.Faults.{unless}
use Rattle.vx_rules.specs.Limits.{regions_are_good}
use Rattle.vx_rules.specs.Maps.{map_uses, plex_map_fits, maps_fit, maps_differ, maps_are_good, logs_are_good}
use Rattle.vx_rules.specs.Relations.{is_prepared}
use Rattle.vx_rules.specs.Rules.{fault_in, fault_of, rules, first_broken}
use Rattle.vx_rules.proofs.InOrder.{names_differ}
use Rattle.vx_objects.specs.declared.config.Config.{Config}
use Rattle.vx_objects.specs.Config.{objects_of}
use Rattle.vx_objects.proofs.OneGroup.{first_none, second_none, unless_none}
use Rattle.vx_image.proofs.PlexMembers.{IsIn, in_right, in_map, one_in, one_named, plex_in, vol_any, all_in}
use Rattle.vx_image.proofs.Plexes.{config_valid}
use Rattle.vx_image.proofs.Valid.{one_rule, in_rule}
use Rattle.vx_image.specs.Bytes.{map_or_zero}
use Rattle.vx_image.specs.UsedPlexes.{IsVolOf}
use Rattle.vx_lending.proofs.Distinct.{AreDistinct, distinct_right, distinct_left, distinct_before, distinct_names}

-- ---- rules

maps_rule : (all : List Object) → first_broken all ≡ None → fault_of rule.MapsAreGood all ≡ None
unfolding first_broken
maps_rule all e = one_rule (take 12 rules) rule.MapsAreGood (drop 13 rules) all e

logs_rule : (all : List Object) → first_broken all ≡ None → fault_of rule.LogsAreGood all ≡ None
unfolding first_broken
logs_rule all e = one_rule (take 13 rules) rule.LogsAreGood (drop 14 rules) all e

regions_rule : (all : List Object) → first_broken all ≡ None → fault_of rule.RegionsAreGood all ≡ None
unfolding first_broken
regions_rule all e = one_rule (take 7 rules) rule.RegionsAreGood (drop 8 rules) all e

related_rule : (all : List Object) → first_broken all ≡ None → fault_of rule.RelatedVolumesHaveLogs all ≡ None
unfolding first_broken
related_rule all e = one_rule (take 16 rules) rule.RelatedVolumesHaveLogs (drop 17 rules) all e

maps_in : (all : List Object) (v : Vol) → fault_in rule.MapsAreGood all (VolRecord v) ≡ None → maps_are_good all v ≡ true
unfolding fault_in
maps_in all v e = unless_none (maps_are_good all v) (NoMap v.name) e

logs_in : (all : List Object) (v : Vol) → fault_in rule.LogsAreGood all (VolRecord v) ≡ None → logs_are_good all v.name v.dco ≡ true
unfolding fault_in
logs_in all v e = unless_none (logs_are_good all v.name v.dco) (NoLog v.name) e

regions_in : (all : List Object) (v : Vol) → fault_in rule.RegionsAreGood all (VolRecord v) ≡ None → is_geometry v.len v.region ≡ true
unfolding fault_in
regions_in all v e = unless_none (regions_are_good (VolRecord v)) (Limit limit.Regions) e

related_in : (all : List Object) (s : Snap) → fault_in rule.RelatedVolumesHaveLogs all (SnapRecord s) ≡ None → (is_prepared all s.vol ≡ true) × (is_prepared all s.of ≡ true)
unfolding fault_in
related_in all s e = (
  unless_none (is_prepared all s.vol) (NoLog s.vol) (first_none (unless (is_prepared all s.vol) (NoLog s.vol)) (unless (is_prepared all s.of) (NoLog s.of)) e),
  unless_none (is_prepared all s.of) (NoLog s.of) (second_none (unless (is_prepared all s.vol) (NoLog s.vol)) (unless (is_prepared all s.of) (NoLog s.of)) e),
)

-- ---- a volume

vol_in : (c : Config) (v : Vol) → IsVolOf c v → IsIn (objects_of c) (VolRecord v)
vol_in c v of = one_in (objects_of c) (VolRecord v) of

pub vol_maps : (c : Config) (v : Vol) → IsVolOf c v → maps_are_good (objects_of c) v ≡ true
vol_maps c v of = maps_in (objects_of c) v (in_rule rule.MapsAreGood (objects_of c) (VolRecord v) (maps_rule (objects_of c) (config_valid c)) (vol_in c v of))

pub vol_logs : (c : Config) (v : Vol) → IsVolOf c v → logs_are_good (objects_of c) v.name v.dco ≡ true
vol_logs c v of = logs_in (objects_of c) v (in_rule rule.LogsAreGood (objects_of c) (VolRecord v) (logs_rule (objects_of c) (config_valid c)) (vol_in c v of))

pub vol_geometry : (c : Config) (v : Vol) → IsVolOf c v → is_geometry v.len v.region ≡ true
vol_geometry c v of = regions_in (objects_of c) v (in_rule rule.RegionsAreGood (objects_of c) (VolRecord v) (regions_rule (objects_of c) (config_valid c)) (vol_in c v of))

all_below_at : (test : ℕ → Bool) (n k : ℕ) → k < n → all_below n test ≡ true → test k ≡ true
all_below_at test n k lt all = by (test k) refl
  where
    by : (b : Bool) → test k ≡ b → test k ≡ true
    by true e = e
    by false e = absurd (false≢true (sym (all_below_fails test k n lt e) ∙ all))

uses_one : (all : List Object) (vol : Word) (k : ℕ) → k < 30 → maps_differ all vol ≡ true → map_uses all vol k ≤ 1
unfolding maps_differ
uses_one all vol k lt e = leb-true (map_uses all vol k) 1 (all_below_at (λ m. nat_le (map_uses all vol m) 1) 30 k lt e)

-- no map below 30 is used twice
pub map_once : (c : Config) (v : Vol) → IsVolOf c v → (k : ℕ) → k < 30 → map_uses (objects_of c) v.name k ≤ 1
map_once c v of k lt = uses_one (objects_of c) v.name k lt (and_parts (list_all (λ o. maps_fit v o) (objects_of c)) (maps_differ (objects_of c) v.name) (vol_maps c v of)).1

pub object_fits : (c : Config) (v : Vol) → IsVolOf c v → (o : Object) → IsIn (objects_of c) o → maps_fit v o ≡ true
object_fits c v of o there = all_in (λ o. maps_fit v o) (objects_of c) o (and_parts (list_all (λ o. maps_fit v o) (objects_of c)) (maps_differ (objects_of c) v.name) (vol_maps c v of)).0 there

-- ---- its data plexes

fits_at : (b prepared : Bool) (k : PlexKind) (m : Option ℕ) → cond b (plex_map_fits k prepared m) true ≡ true → b ≡ true → is_data k ≡ true → plex_map_fits Data prepared m ≡ true
fits_at true prepared Data m e there own = e
fits_at true prepared Log m e there own = absurd (false≢true own)
fits_at false prepared k m e there own = absurd (false≢true there)

-- a data plex has a map exactly where the volume has a DCO
pub plex_fits : (c : Config) (v : Vol) → IsVolOf c v → (p : Plex) → IsIn c.plexes p → is_data_plex_of v.name p ≡ true → plex_map_fits Data (is_some v.dco) p.map ≡ true
plex_fits c v of p there own =
    let parts = and_parts (refers p.vol v.name) (is_data p.kind) own in
    fits_at (refers p.vol v.name) (is_some v.dco) p.kind p.map (object_fits c v of (PlexRecord p) (plex_in c p there)) parts.0 parts.1

low_fits : (prepared : Bool) (m : Option ℕ) → plex_map_fits Data prepared m ≡ true → map_or_zero m < 30
low_fits prepared None e = omega arith
low_fits prepared (Some k) e = ltb-true k 30 (and_parts prepared (nat_lt k 30) e).1

pub plex_low : (c : Config) (v : Vol) → IsVolOf c v → (p : Plex) → IsIn c.plexes p → is_data_plex_of v.name p ≡ true → map_or_zero p.map < 30
plex_low c v of p there own = low_fits (is_some v.dco) p.map (plex_fits c v of p there own)

-- ---- its relations

pub snap_in : (c : Config) (s : Snap) → IsIn c.snaps s → IsIn (objects_of c) (SnapRecord s)
snap_in c s h =
    inr (in_right (map DiskRecord c.disks) _ (SnapRecord s) (in_right (map SubdiskRecord c.subdisks) _ (SnapRecord s) (in_right (map PlexRecord c.plexes) _ (SnapRecord s)
    (in_right (map VolRecord c.volumes) _ (SnapRecord s) (in_right (map DcoRecord c.dcos) _ (SnapRecord s) (in_map SnapRecord c.snaps s h))))))

-- the relation has this map in the log of the volume
pub record HasRelation (c : Config) (v : Vol) (s : Snap) (k : ℕ) : Type 0 where
  pub there : IsIn c.snaps s
  pub side : ((bytes_eq s.vol v.name ≡ true) × (s.map ≡ k)) ⊎ ((bytes_eq s.of v.name ≡ true) × (s.ofmap ≡ k))

cond_at : (b x : Bool) → cond b x true ≡ true → b ≡ true → x ≡ true
cond_at true x e h = e
cond_at false x e h = absurd (false≢true h)

pub relation_low : (c : Config) (v : Vol) → IsVolOf c v → (s : Snap) (k : ℕ) → HasRelation c v s k → k < 30
relation_low c v of s k r =
    let parts = and_parts (cond (bytes_eq s.vol v.name) (nat_lt s.map 30) true) (cond (bytes_eq s.of v.name) (nat_lt s.ofmap 30) true) (object_fits c v of (SnapRecord s) (snap_in c s r.there)) in
    elim r.side [
      | inl w ↦ subst (λ n. n < 30) w.1 (ltb-true s.map 30 (cond_at (bytes_eq s.vol v.name) (nat_lt s.map 30) parts.0 w.0))
      | inr w ↦ subst (λ n. n < 30) w.1 (ltb-true s.ofmap 30 (cond_at (bytes_eq s.of v.name) (nat_lt s.ofmap 30) parts.1 w.0))
    ]

same_vol : (v w : Vol) → VolRecord v ≡ VolRecord w → v ≡ w
same_vol v w e = cc

prepared_is : (c : Config) (v : Vol) → IsVolOf c v → (name : Word) → bytes_eq name v.name ≡ true → is_prepared (objects_of c) name ≡ true → is_some v.dco ≡ true
prepared_is c v of name same h =
    let found = vol_any (λ w. bytes_eq w.name name && is_some w.dco) (objects_of c) h in
    let parts = and_parts (bytes_eq found.0.name name) (is_some found.0.dco) found.2 in
    let one = one_named [] (objects_of c) (VolRecord found.0) (VolRecord v) (names_differ (objects_of c) (config_valid c)) found.1 (vol_in c v of) (bytes_eq_same found.0.name name parts.0 ∙ bytes_eq_same name v.name same) in
    subst (λ w. is_some w.dco ≡ true) (same_vol found.0 v one) parts.1

-- a volume in a relation has a DCO
pub relation_prepared : (c : Config) (v : Vol) → IsVolOf c v → (s : Snap) (k : ℕ) → HasRelation c v s k → is_some v.dco ≡ true
relation_prepared c v of s k r =
    let both = related_in (objects_of c) s (in_rule rule.RelatedVolumesHaveLogs (objects_of c) (SnapRecord s) (related_rule (objects_of c) (config_valid c)) (snap_in c s r.there)) in
    elim r.side [
      | inl w ↦ prepared_is c v of s.vol w.0 both.0
      | inr w ↦ prepared_is c v of s.of w.0 both.1
    ]

-- ---- names

-- no two plexes have one name
pub plex_names : (c : Config) → AreDistinct (λ (p : Plex). p.name) c.plexes
plex_names c =
    let all = distinct_names [] (objects_of c) (names_differ (objects_of c) (config_valid c)) in
    distinct_before PlexRecord name_of c.plexes
    (distinct_left name_of (map PlexRecord c.plexes) (map VolRecord c.volumes ++ (map DcoRecord c.dcos ++ map SnapRecord c.snaps))
    (distinct_right name_of (map SubdiskRecord c.subdisks) (map PlexRecord c.plexes ++ (map VolRecord c.volumes ++ (map DcoRecord c.dcos ++ map SnapRecord c.snaps)))
    (distinct_right name_of (map DiskRecord c.disks) (map SubdiskRecord c.subdisks ++ (map PlexRecord c.plexes ++ (map VolRecord c.volumes ++ (map DcoRecord c.dcos ++ map SnapRecord c.snaps)))) all.1)))

-- two plexes of one name are one
pub one_plex : (c : Config) (p q : Plex) → IsIn c.plexes p → IsIn c.plexes q → p.name ≡ q.name → p ≡ q
one_plex c p q here there same = same_plex p q (one_named [] (objects_of c) (PlexRecord p) (PlexRecord q) (names_differ (objects_of c) (config_valid c)) (plex_in c p here) (plex_in c q there) same)
  where
    same_plex : (p q : Plex) → PlexRecord p ≡ PlexRecord q → p ≡ q
    same_plex p q e = cc
