-- The numbers of a new volume's records fit their fields.
use Rattle.std.proofs.Common.{◌≡◌, ℕ, ◌+◌, ◌<◌, ◌≤◌, ◌^◌, ◌==◌, ◌&&◌, Bool, true, false, Some, None, List, ◌++◌, length, refl, ap, ◌∙◌, inl, inr, arith, if◌then◌else◌}
use Rattle.std.proofs.lemmas.Bool.{and_from, and_parts, eqb-true, lt-ltb, ltb-true}
use Rattle.vx_base.specs.Named.{Word}
use Rattle.vx_config_parts.specs.declared.fault.Limit.TheVariants as limit
use Rattle.vx_config_parts.specs.declared.fault.ObjectFault.TheVariants.{Limit}
use Rattle.vx_config_parts.specs.declared.object.Object.{Object}
use Rattle.vx_config_parts.specs.declared.object.Object.TheVariants.{DiskRecord, PlexRecord, VolRecord}
use Rattle.vx_rules.specs.declared.rule.Rule.TheVariants as rule
use Rattle.vx_rules.specs.Faults.{unless}
use Rattle.vx_rules.specs.Limits.{fits_byte, fits_word, is_short, map_fits, numbers_fit}
use Rattle.vx_rules.specs.Rules.{fault_in, fault_over}
use Rattle.vx_objects.specs.Config.{objects_of}
use Rattle.vx_image.proofs.PlexMembers.{IsIn, disk_in, in_either}
use Rattle.vx_image.proofs.Plexes.{config_valid}
use Rattle.vx_image.proofs.Valid.{numbers_are}
use Rattle.vx_new_volumes.specs.Records.{data_plex, has_logs, vol_of}
use Rattle.vx_new_volumes.specs.declared.volume.NewVolume.{NewVolume}
use Rattle.vx_moments.specs.World.{Group}
use Rattle.vx_new_volume_laws.proofs.Parts.{of_each}
use Rattle.vx_new_volume_laws.proofs.Places.{Place, logs_places, places, plexes_places}
use Rattle.vx_new_volume_laws.proofs.Placed.{as_placed}
use Rattle.vx_new_volume_laws.proofs.Repeats.{unless_true}
use Rattle.vx_new_volume_laws.proofs.Low.{length_low, region_low}
use Rattle.vx_new_volume_laws.proofs.Plans.{column_size}
use Rattle.vx_new_volume_laws.proofs.Lying.{IsCase, on_disk}
use Rattle.vx_new_volume_laws.proofs.Lists.{first_there}
use Rattle.vx_new_volume_laws.proofs.Ruled.{holds_in, rule_holds}
use Rattle.vx_new_volume_laws.proofs.Beside.{sub_place}
use Rattle.vx_new_volume_laws.proofs.Limits.{Holds, mirrors_are, small_counts}
use Rattle.vx_new_volume_laws.proofs.Columns.{ends_within, in_logs, in_plexes}
use Rattle.vx_new_volume_laws.proofs.Sizes.{unit_within}
use Rattle.vx_new_volume_laws.proofs.Whole.{columns_some, few_columns, length_some, units_some}

module _ (started : Bool) (g : Group) (n : NewVolume) (added : List Object) (c : IsCase started g n added) where
  abbrev group : List Object
  group = objects_of g.config

  abbrev all : List Object
  all = objects_of g.config ++ added

  vol_fits : numbers_fit (VolRecord (vol_of n c.made.dco)) ≡ true
  vol_fits =
      let region = region_low n.request.region c.passed.region in
      and_from (is_short n.request.length) (is_short n.request.region) (lt-ltb n.request.length (2 ^ 40) (length_low n.request.length n.request.region c.passed.geometry)) (lt-ltb n.request.region (2 ^ 40) (omega (arith, region)))

  -- a piece ends in the sectors of its column, which is one of few
  piece_low : (p : Place) → IsIn (places c.made.plexes c.made.logs c.plan) p → (p.at + p.extent.count < 2 ^ 40) × (p.col < 16)
  piece_low p there = elim (in_either (plexes_places c.made.plexes c.plan.plexes) (logs_places c.made.logs c.plan.logs) p there) [
    | inl own ↦
        let r = in_plexes c.made.plexes c.plan.plexes p (few_columns started g n added c) own in
        let plex = c.plans.plexes r.0 r.1 in
        let count = plex.count in
        let below = r.2.below in
        let few = (small_counts started g n added c).1 in
        (ends_within p.plex p.col r.2.extents p (plex.low r.2.extents r.2.is_column) r.2.piece, omega (arith, count, below, few))
    | inr log ↦
        let r = in_logs c.made.logs c.plan.logs p log in
        let col = r.3 in
        (ends_within p.plex 0 r.0 p (c.plans.logs r.0 r.1).1 r.2, omega (arith, col))
  ]

  sub_fits : (name : Word) (p : Place) → IsIn (places c.made.plexes c.made.logs c.plan) p → numbers_fit (as_placed name p) ≡ true
  sub_fits name p there =
      let r = on_disk started g n added c p there in
      let fits = numbers_are group (DiskRecord r.0) (config_valid g.config) (disk_in g.config r.0 r.1) in
      let short = ltb-true r.0.publen (2 ^ 40) (and_parts (is_short r.0.publen) (fits_byte r.0.slot) fits).0 in
      let end = r.3 in
      let low = piece_low p there in
      let at = low.0 in
      let col = low.1 in
      and_from (is_short p.extent.start && is_short p.extent.count && is_short p.at) (fits_word p.col)
      (and_from (is_short p.extent.start && is_short p.extent.count) (is_short p.at)
      (and_from (is_short p.extent.start) (is_short p.extent.count) (lt-ltb p.extent.start (2 ^ 40) (omega (arith, end, short))) (lt-ltb p.extent.count (2 ^ 40) (omega (arith, end, short))))
      (lt-ltb p.at (2 ^ 40) (omega (arith, at))))
      (lt-ltb p.col 4294967295 (omega (arith, col)))

  module _ (some : 1 ≤ n.request.mirrors) (unit : n.request.ncol ≡ 1 → n.request.unit ≡ 128) where
    column_low : column_size n.request < 2 ^ 40
    column_low =
        let count = c.plans.plex_count in
        let p = first_there c.plan.plexes (omega (arith, count, some)) in
        let plex = c.plans.plexes p.0 p.1 in
        let columns = plex.count in
        let more = columns_some started g n added c in
        let es = first_there p.0 (omega (arith, columns, more)) in
        let long = plex.each es.0 es.1 in
        let low = plex.low es.0 es.1 in
        omega (arith, long, low)

    unit_low : n.request.unit < 2 ^ 40
    unit_low = by (n.request.ncol == 1) refl
      where
        by : (b : Bool) → (n.request.ncol == 1) ≡ b → n.request.unit < 2 ^ 40
        by true one = let is = unit (eqb-true n.request.ncol 1 one) in omega (arith, is)
        by false several =
            let le = unit_within n.request (columns_some started g n added c) (units_some started g n added c) (length_some started g n added c) several in
            let low = column_low in
            omega (arith, le, low)

    plex_fits : (k : ℕ) (name : Word) → k < length c.made.plexes → numbers_fit (PlexRecord (data_plex n k name)) ≡ true
    plex_fits k name lt =
        let few = (small_counts started g n added c).1 in
        and_from (is_short n.request.unit && fits_word n.request.ncol) (map_fits (if has_logs n then Some k else None))
        (and_from (is_short n.request.unit) (fits_word n.request.ncol) (lt-ltb n.request.unit (2 ^ 40) unit_low) (lt-ltb n.request.ncol 4294967295 (omega (arith, few)))) (by (has_logs n))
      where
        by : (b : Bool) → map_fits (if b then Some k else None) ≡ true
        by true =
            let few = (small_counts started g n added c).4 in
            let count = mirrors_are started g n added c in
            lt-ltb k 255 (omega (arith, lt, few, count))
        by false = refl

    pub numbers_hold : Holds started g n added c rule.NumbersFit
    unfolding fault_in fault_over
    numbers_hold =
        rule_holds rule.NumbersFit group added refl (holds_in group (config_valid g.config) rule.NumbersFit)
        (of_each (λ o. unless (numbers_fit o) (Limit limit.Number) ≡ None) n group c.plan added c.made (unless_true (numbers_fit (VolRecord (vol_of n c.made.dco))) (Limit limit.Number) vol_fits) (λ logs. refl)
        (λ k name lt there. unless_true (numbers_fit (PlexRecord (data_plex n k name))) (Limit limit.Number) (plex_fits k name lt)) (λ name there. refl)
        (λ o there. let r = sub_place started g n added c o there in ap (λ (x : Object). unless (numbers_fit x) (Limit limit.Number)) r.3 ∙ unless_true (numbers_fit (as_placed r.2 r.0)) (Limit limit.Number) (sub_fits r.2 r.0 r.1)))
