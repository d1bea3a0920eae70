use Rattle.std.proofs.Common.{◌≡◌, false, length, rules, refl, sym, ◌∙◌, arith}
use Rattle.std.proofs.lemmas.List.{take_all}
use Rattle.vx_copies.specs.Disks.{disk_seen}
use Rattle.vx_sector.specs.Fields.{zeros}
use Rattle.vx_confdb.proofs.Preparation.{front_write, front_just, front_more, front_then, zero_begins, zero_blank, prepares_trans}
use Rattle.vx_confdb.proofs.joining.prepare.Goals as goal

pub put_header-requires-clause-blank : goal.put_header-requires-clause-blank
put_header-requires-clause-blank g c κs within =
    let zero : c.put_zeros.new.out ≡ zeros 512 = sym (take_all 512 c.put_zeros.new.out (omega (arith, c.put_zeros.auto.out, c.requires.size))) ∙ c.put_zeros.ensures in
    let size : length c.put_zeros.new.out ≡ 512 = omega (arith, c.put_zeros.auto.out, c.requires.size) in
    zero_blank c.put_zeros.new.out size zero _ _ c.write.result c.in-Ok.field-0 c.in-Ok.is c.write.ensures.told.told

pub returns-in-Ok-clause-prepares : goal.returns-in-Ok-clause-prepares
returns-in-Ok-clause-prepares g c =
    let zero : c.put_zeros.new.out ≡ zeros 512 = sym (take_all 512 c.put_zeros.new.out (omega (arith, c.put_zeros.auto.out, c.requires.size))) ∙ c.put_zeros.ensures in
    let size : length c.put_zeros.new.out ≡ 512 = omega (arith, c.put_zeros.auto.out, c.requires.size) in
    prepares_trans c.args.group.now _ _ _ (record { slot = refl; name = refl; device = refl; size = refl; half = refl; kept = c.write.ensures.kept; good = search rules; told = zero_begins c.put_zeros.new.out size zero _ _ _ c.write.result c.write.ensures.told.told }) c.put_header.ensures.prepares

pub returns-in-Err-Failed-clause-prepares : goal.returns-in-Err-Failed-clause-prepares
returns-in-Err-Failed-clause-prepares g c =
    let zero : c.put_zeros.new.out ≡ zeros 512 = sym (take_all 512 c.put_zeros.new.out (omega (arith, c.put_zeros.auto.out, c.requires.size))) ∙ c.put_zeros.ensures in
    let size : length c.put_zeros.new.out ≡ 512 = omega (arith, c.put_zeros.auto.out, c.requires.size) in
    record {
      slot = refl;
      name = refl;
      device = refl;
      size = refl;
      half = refl;
      kept = c.write.ensures.kept;
      good = search rules;
      told = zero_begins c.put_zeros.new.out size zero _ _ _ c.write.result c.write.ensures.told.told;
    }

pub returns-in-Err-PowerLost-clause-prepares : goal.returns-in-Err-PowerLost-clause-prepares
returns-in-Err-PowerLost-clause-prepares g c =
    let zero : c.put_zeros.new.out ≡ zeros 512 = sym (take_all 512 c.put_zeros.new.out (omega (arith, c.put_zeros.auto.out, c.requires.size))) ∙ c.put_zeros.ensures in
    let size : length c.put_zeros.new.out ≡ 512 = omega (arith, c.put_zeros.auto.out, c.requires.size) in
    record {
      slot = refl;
      name = refl;
      device = refl;
      size = refl;
      half = refl;
      kept = c.write.ensures.kept;
      good = search rules;
      told = zero_begins c.put_zeros.new.out size zero _ _ _ c.write.result c.write.ensures.told.told;
    }

pub returns-in-Err-Failed-clause-fronts : goal.returns-in-Err-Failed-clause-fronts
returns-in-Err-Failed-clause-fronts g c = front_more 1 2 _ _ (omega arith) (front_write c.put_zeros.new.out 1 (disk_seen g.P.Piece.seen c.args.disk.now) (record { name = c.args.disk.now.name; device = c.args.disk.now.device; slot = c.args.disk.now.slot; sectors = c.args.disk.now.sectors; good = false; half = c.args.disk.now.half; seen = g.P.Piece.seen c.write.new.self }) c.write.result (omega (arith, c.put_zeros.auto.out, c.requires.size)) (omega arith) c.write.ensures.told)

pub returns-in-Err-PowerLost-clause-fronts : goal.returns-in-Err-PowerLost-clause-fronts
returns-in-Err-PowerLost-clause-fronts g c = front_more 1 2 _ _ (omega arith) (front_write c.put_zeros.new.out 1 (disk_seen g.P.Piece.seen c.args.disk.now) (record { name = c.args.disk.now.name; device = c.args.disk.now.device; slot = c.args.disk.now.slot; sectors = c.args.disk.now.sectors; good = c.args.disk.now.good; half = c.args.disk.now.half; seen = g.P.Piece.seen c.write.new.self }) c.write.result (omega (arith, c.put_zeros.auto.out, c.requires.size)) (omega arith) c.write.ensures.told)

pub returns-in-Ok-clause-fronts : goal.returns-in-Ok-clause-fronts
returns-in-Ok-clause-fronts g c = front_then _ _ _ (front_write c.put_zeros.new.out 1 (disk_seen g.P.Piece.seen c.args.disk.now) (record { name = c.args.disk.now.name; device = c.args.disk.now.device; slot = c.args.disk.now.slot; sectors = c.args.disk.now.sectors; good = c.args.disk.now.good; half = c.args.disk.now.half; seen = g.P.Piece.seen c.write.new.self }) c.write.result (omega (arith, c.put_zeros.auto.out, c.requires.size)) (omega arith) c.write.ensures.told) c.put_header.ensures.fronts

pub returns-in-Ok-clause-just : goal.returns-in-Ok-clause-just
returns-in-Ok-clause-just g c = λ done good.
    let first = front_just c.put_zeros.new.out 1 (disk_seen g.P.Piece.seen c.args.disk.now) (record { name = c.args.disk.now.name; device = c.args.disk.now.device; slot = c.args.disk.now.slot; sectors = c.args.disk.now.sectors; good = c.args.disk.now.good; half = c.args.disk.now.half; seen = g.P.Piece.seen c.write.new.self }) c.write.result c.in-Ok.field-0 (omega (arith, c.put_zeros.auto.out, c.requires.size)) c.in-Ok.is c.write.ensures.off c.write.ensures.told in
    let second = c.put_header.ensures.just done good in
    omega (arith, first, second)
