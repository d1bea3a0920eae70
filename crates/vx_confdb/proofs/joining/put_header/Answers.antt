use Rattle.vx_copies.proofs.Halves.{wide_on}
use Rattle.std.proofs.Common.{◌≡◌, false, arith, rules, refl, ◌∙◌, ap, Some}
use Rattle.vx_copies.specs.Disks.{disk_seen}
use Rattle.vx_header.specs.Named.{Label, header_of}
use Rattle.vx_header.proofs.Labels.{header_back}
use Rattle.vx_confdb.proofs.Preparation.{front_write, front_just, header_begins, header_blank, header_named, blank_names}
use Rattle.vx_confdb.proofs.joining.put_header.Goals as goal

pub returns-in-Ok-clause-prepares : goal.returns-in-Ok-clause-prepares
returns-in-Ok-clause-prepares g c =
    let label : Label = record { group = c.args.group.now; disk = c.args.disk.now.name; slot = c.args.disk.now.slot; sectors = c.args.disk.now.sectors } in
    let says : header_of c.put.new.out ≡ Some label = ap header_of c.put.ensures ∙ header_back label (record { group = c.requires.fresh.group_short; disk = c.requires.fresh.name_short; slot = c.requires.fresh.slot; public = c.requires.fresh.public; at_most = c.requires.fresh.at_most }) in
    record {
      slot = refl;
      name = refl;
      device = refl;
      size = refl;
      half = refl;
      kept = c.write.ensures.kept;
      good = search rules;
      told = header_begins c.put.new.out (c.put.auto.out ∙ c.requires.size) label says _ _ c.write.result c.requires.blank c.write.ensures.told.told;
    }

pub returns-in-Err-Failed-clause-prepares : goal.returns-in-Err-Failed-clause-prepares
returns-in-Err-Failed-clause-prepares g c =
    let label : Label = record { group = c.args.group.now; disk = c.args.disk.now.name; slot = c.args.disk.now.slot; sectors = c.args.disk.now.sectors } in
    let says : header_of c.put.new.out ≡ Some label = ap header_of c.put.ensures ∙ header_back label (record { group = c.requires.fresh.group_short; disk = c.requires.fresh.name_short; slot = c.requires.fresh.slot; public = c.requires.fresh.public; at_most = c.requires.fresh.at_most }) in
    record {
      slot = refl;
      name = refl;
      device = refl;
      size = refl;
      half = refl;
      kept = c.write.ensures.kept;
      good = search rules;
      told = header_begins c.put.new.out (c.put.auto.out ∙ c.requires.size) label says _ _ c.write.result c.requires.blank c.write.ensures.told.told;
    }

pub returns-in-Err-PowerLost-clause-prepares : goal.returns-in-Err-PowerLost-clause-prepares
returns-in-Err-PowerLost-clause-prepares g c =
    let label : Label = record { group = c.args.group.now; disk = c.args.disk.now.name; slot = c.args.disk.now.slot; sectors = c.args.disk.now.sectors } in
    let says : header_of c.put.new.out ≡ Some label = ap header_of c.put.ensures ∙ header_back label (record { group = c.requires.fresh.group_short; disk = c.requires.fresh.name_short; slot = c.requires.fresh.slot; public = c.requires.fresh.public; at_most = c.requires.fresh.at_most }) in
    record {
      slot = refl;
      name = refl;
      device = refl;
      size = refl;
      half = refl;
      kept = c.write.ensures.kept;
      good = search rules;
      told = header_begins c.put.new.out (c.put.auto.out ∙ c.requires.size) label says _ _ c.write.result c.requires.blank c.write.ensures.told.told;
    }

pub returns-in-Ok-clause-ends : goal.returns-in-Ok-clause-ends
returns-in-Ok-clause-ends g c =
    let label : Label = record { group = c.args.group.now; disk = c.args.disk.now.name; slot = c.args.disk.now.slot; sectors = c.args.disk.now.sectors } in
    let blank = header_blank c.put.new.out (c.put.auto.out ∙ c.requires.size) _ _ c.write.result c.requires.blank c.write.ensures.told.told in
    let says : header_of c.put.new.out ≡ Some label = ap header_of c.put.ensures ∙ header_back label (record { group = c.requires.fresh.group_short; disk = c.requires.fresh.name_short; slot = c.requires.fresh.slot; public = c.requires.fresh.public; at_most = c.requires.fresh.at_most }) in
    record {
      ready = record { slot = c.requires.fresh.slot; half = c.requires.fresh.half; sectors = wide_on _ _ c.write.ensures.kept.sectors c.requires.fresh.private; names = λ is. blank_names _ _ blank };
      blank = λ is. blank;
      headed = λ is. header_named c.put.new.out (c.put.auto.out ∙ c.requires.size) label _ _ c.write.result c.in-Ok.field-0 says c.in-Ok.is c.write.ensures.told.told;
    }

pub returns-in-Ok-clause-fronts : goal.returns-in-Ok-clause-fronts
returns-in-Ok-clause-fronts g c = front_write c.put.new.out 0 (disk_seen g.P.Piece.seen c.args.disk.now) (record { name = c.args.disk.now.name; device = c.args.disk.now.device; slot = c.args.disk.now.slot; sectors = c.args.disk.now.sectors; good = c.args.disk.now.good; half = c.args.disk.now.half; seen = g.P.Piece.seen c.write.new.self }) c.write.result (c.put.auto.out ∙ c.requires.size) (omega arith) c.write.ensures.told

pub returns-in-Err-Failed-clause-fronts : goal.returns-in-Err-Failed-clause-fronts
returns-in-Err-Failed-clause-fronts g c = front_write c.put.new.out 0 (disk_seen g.P.Piece.seen c.args.disk.now) (record { name = c.args.disk.now.name; device = c.args.disk.now.device; slot = c.args.disk.now.slot; sectors = c.args.disk.now.sectors; good = false; half = c.args.disk.now.half; seen = g.P.Piece.seen c.write.new.self }) c.write.result (c.put.auto.out ∙ c.requires.size) (omega arith) c.write.ensures.told

pub returns-in-Err-PowerLost-clause-fronts : goal.returns-in-Err-PowerLost-clause-fronts
returns-in-Err-PowerLost-clause-fronts g c = front_write c.put.new.out 0 (disk_seen g.P.Piece.seen c.args.disk.now) (record { name = c.args.disk.now.name; device = c.args.disk.now.device; slot = c.args.disk.now.slot; sectors = c.args.disk.now.sectors; good = c.args.disk.now.good; half = c.args.disk.now.half; seen = g.P.Piece.seen c.write.new.self }) c.write.result (c.put.auto.out ∙ c.requires.size) (omega arith) c.write.ensures.told

pub returns-in-Ok-clause-just : goal.returns-in-Ok-clause-just
returns-in-Ok-clause-just g c = λ done good. front_just c.put.new.out 0 (disk_seen g.P.Piece.seen c.args.disk.now) (record { name = c.args.disk.now.name; device = c.args.disk.now.device; slot = c.args.disk.now.slot; sectors = c.args.disk.now.sectors; good = c.args.disk.now.good; half = c.args.disk.now.half; seen = g.P.Piece.seen c.write.new.self }) c.write.result c.in-Ok.field-0 (c.put.auto.out ∙ c.requires.size) c.in-Ok.is c.write.ensures.off c.write.ensures.told
