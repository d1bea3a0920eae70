-- The request for a mirror keeps to its ranges, by the rules of the configuration.
use Rattle.std.proofs.Common.{◌≡◌, ◌≤◌, ◌^◌, Bool, true, None, List, take, drop, refl, arith}
use Rattle.std.specs.Prelude.{◌==◌, ◌%◌, nat_lt, nat_le}
use Rattle.std.proofs.lemmas.Bool.{and_from, and_parts, eqb-true, false≢true, le-leb, leb-true, ltb-true}
use Rattle.vx_base.specs.Named.{Word}
use Rattle.vx_config_parts.specs.declared.object.Object.{Object}
use Rattle.vx_config_parts.specs.declared.object.Object.TheVariants.{PlexRecord, VolRecord}
use Rattle.vx_config_parts.specs.declared.plex.Plex.{Plex}
use Rattle.vx_config_parts.specs.declared.plex.PlexLayout.{PlexLayout}
use Rattle.vx_config_parts.specs.declared.plex.PlexLayout.TheVariants.{Concat, Stripe}
use Rattle.vx_config_parts.specs.declared.vol.Vol.{Vol}
use Rattle.vx_config_parts.specs.declared.fault.Limit.TheVariants as limit
use Rattle.vx_config_parts.specs.declared.fault.ObjectFault.TheVariants.{Limit}
use Rattle.vx_config_parts.specs.Objects.{is_data_plex_of, is_plex, refers}
use Rattle.vx_rules.specs.Columns.{all_pieces_good, column_length, columns_are_equal, columns_are_good, layout_is_good}
use Rattle.vx_rules.specs.Sizes.{layout_fits_kind}
use Rattle.std.specs.List.{count_by, list_all, list_any}
use Rattle.vx_rules.specs.declared.rule.Rule.TheVariants as rule
use Rattle.vx_rules.specs.Limits.{fits_word, is_short, map_fits, plexes_are_good}
use Rattle.vx_rules.specs.Rules.{fault_in, fault_of, first_broken, rules}
use Rattle.vx_rules.specs.Whole.{holds_volume}
use Rattle.vx_objects.specs.declared.config.Config.{Config}
use Rattle.vx_objects.specs.Config.{objects_of}
use Rattle.vx_objects.proofs.OneGroup.{unless_none}
use Rattle.vx_image.proofs.PlexMembers.{IsIn, any_in, one_in}
use Rattle.vx_image.proofs.Plexes.{and3, and4, config_valid}
use Rattle.vx_image.proofs.Valid.{in_rule, numbers_are, one_rule, plex_whole}
use Rattle.vx_image.specs.UsedPlexes.{IsVolOf}
use Rattle.vx_new_volumes.specs.Rule.{has_small_numbers}
use Rattle.vx_new_volumes.specs.Mirrors.{mirror_request}

-- ---- a volume has a data plex

plexes_rule : (all : List Object) → first_broken all ≡ None → fault_of rule.PlexesAreGood all ≡ None
unfolding first_broken
plexes_rule all e = one_rule (take 8 rules) rule.PlexesAreGood (drop 9 rules) all e

plexes_of_vol : (all : List Object) (v : Vol) → fault_in rule.PlexesAreGood all (VolRecord v) ≡ None → plexes_are_good all (VolRecord v) ≡ true
unfolding fault_in
plexes_of_vol all v e = unless_none (plexes_are_good all (VolRecord v)) (Limit limit.Plexes) e

pub some_data : (c : Config) (v : Vol) → IsVolOf c v → (p : Plex) × IsIn (objects_of c) (PlexRecord p) × (is_data_plex_of v.name p ≡ true)
some_data c v of =
    let good = plexes_of_vol (objects_of c) v (in_rule rule.PlexesAreGood (objects_of c) (VolRecord v) (plexes_rule (objects_of c) (config_valid c)) (one_in (objects_of c) (VolRecord v) of)) in
    let test : Object → Bool = λ o. is_plex (λ p. is_data_plex_of v.name p) o in
    let r = any_in test (objects_of c) (and_parts (list_any test (objects_of c)) (nat_le (count_by (λ o. is_plex (λ p. refers p.vol v.name) o) (objects_of c)) 32) good).0 in
    by r.0 r.1 r.2
  where
    by : (o : Object) → IsIn (objects_of c) o → is_plex (λ p. is_data_plex_of v.name p) o ≡ true → (p : Plex) × IsIn (objects_of c) (PlexRecord p) × (is_data_plex_of v.name p ≡ true)
    by (PlexRecord p) there own = (p, there, own)
    by o there own = absurd (false≢true own)

-- ---- its columns and its unit

record AreSmall (p : Plex) : Type 0 where
  some : 1 ≤ p.ncol
  few : p.ncol ≤ 16
  unit : 1 ≤ p.unit
  short : p.unit ≤ 1099511627776

small_by : (all : List Object) (p : Plex) (l : PlexLayout) → layout_is_good all p l ≡ true → is_short p.unit ≡ true → AreSmall p
small_by all p Concat e short =
    let parts = and_parts (p.ncol == 1) (p.unit == 128) e in
    let one = eqb-true p.ncol 1 parts.0 in
    let unit = eqb-true p.unit 128 parts.1 in
    record { some = omega (arith, one); few = omega (arith, one); unit = omega (arith, unit); short = omega (arith, unit) }
small_by all p Stripe e short =
    let parts = and4 (nat_le 2 p.ncol) (nat_le p.ncol 16) (nat_lt 0 p.unit) (column_length all p.name 0 % p.unit == 0) e in
    let two = leb-true 2 p.ncol parts.0 in
    let few = leb-true p.ncol 16 parts.1 in
    let unit = ltb-true 0 p.unit parts.2 in
    let low = ltb-true p.unit 1099511627776 short in
    record { some = omega (arith, two); few = few; unit = omega (arith, unit); short = omega (arith, low) }

small_plex : (c : Config) (p : Plex) → IsIn (objects_of c) (PlexRecord p) → AreSmall p
small_plex c p there =
    let all = objects_of c in
    let whole = and3 (layout_fits_kind p.kind p.layout) (columns_are_good all p) (holds_volume all p p.vol) (plex_whole all p (config_valid c) there) in
    let columns = and3 (layout_is_good all p p.layout) (columns_are_equal all p) (list_all (λ o. all_pieces_good all p o) all) whole.1 in
    let numbers = and3 (is_short p.unit) (fits_word p.ncol) (map_fits p.map) (numbers_are all (PlexRecord p) (config_valid c) there) in
    small_by all p p.layout columns.0 numbers.0

pub small_request : (c : Config) (v : Vol) (p : Plex) (disks : List Word) → IsIn (objects_of c) (PlexRecord p) → has_small_numbers (mirror_request (objects_of c) v p disks) ≡ true
small_request c v p disks there =
    let small = small_plex c p there in
    and_from (nat_le 1 p.ncol) _ (le-leb 1 p.ncol small.some)
    (and_from (nat_le p.ncol 16) _ (le-leb p.ncol 16 small.few)
    (and_from (nat_le 1 p.unit) _ (le-leb 1 p.unit small.unit)
    (and_from (nat_le p.unit (2 ^ 40)) true (le-leb p.unit (2 ^ 40) small.short) refl)))
