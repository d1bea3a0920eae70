use Rattle.std.proofs.Common.{rules, ◌≡◌, ◌<◌, ◌^◌}
use Rattle.vx_store_rows.proofs.Masks.{fitting, some_from_not}
use Rattle.vx_store_rows.proofs.region.fits.Goals as goal

pub returns : goal.returns
returns c =
    let all_maps : c.with-all.result ≡ c.args.maps = search rules in
    let sole_on : c.less-sole.result ≡ c.args.on = search rules in
    let others_snaps : c.less-others.result ≡ c.args.snaps = search rules in
    let small : c.args.snaps < 2 ^ 30 = search rules in
    λ some.
    fitting c.args.on c.args.off c.args.snaps c.args.bits c.args.maps c.with-all.result c.less-sole.result c.less-others.result c.less-current.result
    c.ranges.on.fits c.ranges.off.fits c.ranges.snaps.fits c.ranges.bits.fits
    c.with-all.ensures all_maps c.less-sole.ensures sole_on c.less-others.ensures others_snaps small c.less-current.ensures (some_from_not c.less-current.result some) c.requires
