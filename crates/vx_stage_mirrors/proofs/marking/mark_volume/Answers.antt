use Rattle.std.proofs.Common.{◌∙◌, ℕ, ◌<◌, sym, ap, subst, arith, Ok, Err}
use Rattle.vx_block.specs.Regions.{region_count}
use Rattle.vx_volume.specs.declared.volume.VolumeShape.{VolumeShape}
use Rattle.vx_volume.specs.Changing.{IsKnownMap, SetsMap}
use Rattle.vx_volume.specs.Volume.{volume_seen}
use Rattle.vx_lending.proofs.NewLogs.{all_bits}
use Rattle.vx_volume.specs.Bytes.{map_bit}
use Rattle.vx_stage_mirrors.proofs.marking.mark_volume.Goals as goal

pub returns-in-Ok-set_map-clause-marks : goal.returns-in-Ok-set_map-clause-marks
returns-in-Ok-set_map-clause-marks g c = record {
  bits = map_bit c.deref.result.now;
  all = λ r lt.
      let regions = c.regions.ensures ∙ ap (λ (s : VolumeShape). region_count s.geometry.length s.geometry.region) c.shape.ensures in
      let inside = subst (λ (n : ℕ). r < n) (c.requires.whole.count ∙ sym regions) lt in
      let n = c.div_ceil-bytes.ensures in
      all_bits c.div_ceil-bytes.result r c.deref.result.now (c.deref.ensures.value ∙ c.in-Ok.ensures.items_if_clones_equal (λ y h. h)) (omega (arith, n, inside));
  sets = subst (λ v. SetsMap c.args.map (map_bit c.deref.result.now) (Ok tt) v (volume_seen g.P.Piece.seen c.set_map.new.self)) c.reserve_plex.ensures.same c.in-Ok-set_map.ensures.sets;
}

pub returns-clause-marks : goal.returns-clause-marks
returns-clause-marks g c = (
  subst (IsKnownMap c.args.map) c.reserve_plex.ensures.same c.if-not-knows_map.ensures,
  record {
    bits = map_bit c.deref.result.now;
    all = λ r lt.
        let regions = c.regions.ensures ∙ ap (λ (s : VolumeShape). region_count s.geometry.length s.geometry.region) c.shape.ensures in
        let inside = subst (λ (n : ℕ). r < n) (c.requires.whole.count ∙ sym regions) lt in
        let n = c.div_ceil-bytes.ensures in
        all_bits c.div_ceil-bytes.result r c.deref.result.now (c.deref.ensures.value ∙ c.in-Ok.ensures.items_if_clones_equal (λ y h. h)) (omega (arith, n, inside));
    sets = subst (λ v. SetsMap c.args.map (map_bit c.deref.result.now) (Err c.in-Err.fault) v (volume_seen g.P.Piece.seen c.set_map.new.self)) c.reserve_plex.ensures.same c.in-Err.ensures.sets;
  },
)
