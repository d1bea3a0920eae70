use Rattle.std.proofs.Common.{◌-◌, false, rules, refl, arith, length}
use Rattle.vx_copies.proofs.Halves.{wide_on, said_there, toggle_told, toggle_offer, toggle_named, toggle_says, toggle_failed, toggle_there}
use Rattle.vx_copies.proofs.StepLaws.{if_good}
use Rattle.vx_copies.proofs.Counts.{ok_not_cut, most_writes, just_writes, one_block}
use Rattle.vx_copies.specs.Disks.{disk_seen}
use Rattle.vx_copies.proofs.disk.put_toggle.Goals as goal

pub returns-in-Ok-clause-stamps : goal.returns-in-Ok-clause-stamps
returns-in-Ok-clause-stamps g c =
    let said = said_there c.args.sequence (1 - c.args.disk.now.half) (length c.args.text.now) c.args.mask c.put.new.out c.put.ensures c.requires.some (omega arith) (omega (arith, c.requires.ready.half)) c.requires.fits (omega arith) in
    record {
      slot = refl;
      name = refl;
      device = refl;
      size = refl;
      kept = c.write.ensures.kept;
      good = search rules;
      offers = if_good c.args.sequence c.args.mask c.args.text.now c.args.disk.now.good _ _ (search rules) (toggle_told c.args.disk.now.half c.args.sequence c.args.mask c.args.text.now c.put.new.out c.requires.ready.half (search rules) said _ _ c.write.result (c.requires.ready.names (search rules)) (c.requires.spare (search rules)) c.write.ensures.told.told);
      idle = λ e. search rules;
    }

pub returns-in-Err-Failed-clause-stamps : goal.returns-in-Err-Failed-clause-stamps
returns-in-Err-Failed-clause-stamps g c =
    let said = said_there c.args.sequence (1 - c.args.disk.now.half) (length c.args.text.now) c.args.mask c.put.new.out c.put.ensures c.requires.some (omega arith) (omega (arith, c.requires.ready.half)) c.requires.fits (omega arith) in
    record {
      slot = refl;
      name = refl;
      device = refl;
      size = refl;
      kept = c.write.ensures.kept;
      good = search rules;
      offers = if_good c.args.sequence c.args.mask c.args.text.now c.args.disk.now.good _ _ (search rules) (toggle_told c.args.disk.now.half c.args.sequence c.args.mask c.args.text.now c.put.new.out c.requires.ready.half (search rules) said _ _ c.write.result (c.requires.ready.names (search rules)) (c.requires.spare (search rules)) c.write.ensures.told.told);
      idle = λ e. search rules;
    }

pub returns-in-Err-PowerLost-clause-stamps : goal.returns-in-Err-PowerLost-clause-stamps
returns-in-Err-PowerLost-clause-stamps g c =
    let said = said_there c.args.sequence (1 - c.args.disk.now.half) (length c.args.text.now) c.args.mask c.put.new.out c.put.ensures c.requires.some (omega arith) (omega (arith, c.requires.ready.half)) c.requires.fits (omega arith) in
    record {
      slot = refl;
      name = refl;
      device = refl;
      size = refl;
      kept = c.write.ensures.kept;
      good = search rules;
      offers = if_good c.args.sequence c.args.mask c.args.text.now c.args.disk.now.good _ _ (search rules) (toggle_told c.args.disk.now.half c.args.sequence c.args.mask c.args.text.now c.put.new.out c.requires.ready.half (search rules) said _ _ c.write.result (c.requires.ready.names (search rules)) (c.requires.spare (search rules)) c.write.ensures.told.told);
      idle = λ e. search rules;
    }

pub returns-in-Ok-clause-ends : goal.returns-in-Ok-clause-ends
returns-in-Ok-clause-ends g c =
    let said = said_there c.args.sequence (1 - c.args.disk.now.half) (length c.args.text.now) c.args.mask c.put.new.out c.put.ensures c.requires.some (omega arith) (omega (arith, c.requires.ready.half)) c.requires.fits (omega arith) in (
      record {
        slot = c.requires.ready.slot;
        half = omega (arith, c.requires.ready.half);
        sectors = wide_on _ _ c.write.ensures.kept.sectors c.requires.ready.sectors;
        names = λ is. toggle_named c.args.disk.now.half c.args.sequence c.args.mask c.args.text.now c.put.new.out c.requires.ready.half (search rules) said _ _ c.write.result c.in-Ok.field-0 c.in-Ok.is c.write.ensures.told.told;
      },
      λ is. toggle_offer c.args.disk.now.half c.args.sequence c.args.mask c.args.text.now c.put.new.out c.requires.ready.half (search rules) said _ _ c.write.result c.in-Ok.field-0 c.in-Ok.is (c.requires.spare (search rules)) c.write.ensures.told.told,
      refl,
    )

pub returns-in-Err-Failed-clause-put : goal.returns-in-Err-Failed-clause-put
returns-in-Err-Failed-clause-put g c =
    let said = said_there c.args.sequence (1 - c.args.disk.now.half) (length c.args.text.now) c.args.mask c.put.new.out c.put.ensures c.requires.some (omega arith) (omega (arith, c.requires.ready.half)) c.requires.fits (omega arith) in
    record {
      told = toggle_failed c.args.disk.now.half c.args.sequence c.args.mask c.args.text.now c.put.new.out c.requires.ready.half (search rules) said (disk_seen g.P.Piece.seen c.args.disk.now) (record { name = c.args.disk.now.name; device = c.args.disk.now.device; slot = c.args.disk.now.slot; sectors = c.args.disk.now.sectors; good = false; half = c.args.disk.now.half; seen = g.P.Piece.seen c.write.new.self }) refl (search rules) _ _ c.write.result (λ good. cc) c.write.ensures.told.told;
      reads = c.write.ensures.told.reads;
      writes = most_writes _ _ _ c.put.new.out _ (one_block _ (search rules)) c.write.ensures.told.writes;
    }

pub returns-in-Ok-clause-put : goal.returns-in-Ok-clause-put
returns-in-Ok-clause-put g c =
    let said = said_there c.args.sequence (1 - c.args.disk.now.half) (length c.args.text.now) c.args.mask c.put.new.out c.put.ensures c.requires.some (omega arith) (omega (arith, c.requires.ready.half)) c.requires.fits (omega arith) in
    record {
      told = toggle_there c.args.disk.now.half c.args.sequence c.args.mask c.args.text.now c.put.new.out c.requires.ready.half (search rules) said (disk_seen g.P.Piece.seen c.args.disk.now) (record { name = c.args.disk.now.name; device = c.args.disk.now.device; slot = c.args.disk.now.slot; sectors = c.args.disk.now.sectors; good = c.args.disk.now.good; half = 1 - c.args.disk.now.half; seen = g.P.Piece.seen c.write.new.self }) refl (search rules) _ _ c.write.result c.in-Ok.field-0 c.in-Ok.is c.write.ensures.told.told;
      reads = c.write.ensures.told.reads;
      writes = most_writes _ _ _ c.put.new.out _ (one_block _ (search rules)) c.write.ensures.told.writes;
    }

pub returns-in-Ok-clause-done : goal.returns-in-Ok-clause-done
returns-in-Ok-clause-done g c = λ done.
    let said = said_there c.args.sequence (1 - c.args.disk.now.half) (length c.args.text.now) c.args.mask c.put.new.out c.put.ensures c.requires.some (omega arith) (omega (arith, c.requires.ready.half)) c.requires.fits (omega arith) in
    record {
      put = record {
        told = toggle_there c.args.disk.now.half c.args.sequence c.args.mask c.args.text.now c.put.new.out c.requires.ready.half (search rules) said (disk_seen g.P.Piece.seen c.args.disk.now) (record { name = c.args.disk.now.name; device = c.args.disk.now.device; slot = c.args.disk.now.slot; sectors = c.args.disk.now.sectors; good = c.args.disk.now.good; half = 1 - c.args.disk.now.half; seen = g.P.Piece.seen c.write.new.self }) refl (search rules) _ _ c.write.result c.in-Ok.field-0 c.in-Ok.is c.write.ensures.told.told;
        reads = c.write.ensures.told.reads;
        writes = most_writes _ _ _ c.put.new.out _ (one_block _ (search rules)) c.write.ensures.told.writes;
      };
      good = refl;
      half = λ good. refl;
      says = λ good. toggle_says c.args.disk.now.half c.args.sequence c.args.mask c.args.text.now c.put.new.out c.requires.ready.half (search rules) said _ _ c.write.result c.in-Ok.field-0 c.in-Ok.is c.write.ensures.told.told;
      writes = λ good. just_writes _ _ _ c.put.new.out _ (one_block _ (search rules)) (ok_not_cut _ _ c.write.result c.in-Ok.field-0 c.in-Ok.is c.write.ensures.off) c.write.ensures.told.writes;
    }

pub returns-in-Err-PowerLost-clause-put : goal.returns-in-Err-PowerLost-clause-put
returns-in-Err-PowerLost-clause-put g c =
    let said = said_there c.args.sequence (1 - c.args.disk.now.half) (length c.args.text.now) c.args.mask c.put.new.out c.put.ensures c.requires.some (omega arith) (omega (arith, c.requires.ready.half)) c.requires.fits (omega arith) in
    record {
      told = toggle_failed c.args.disk.now.half c.args.sequence c.args.mask c.args.text.now c.put.new.out c.requires.ready.half (search rules) said (disk_seen g.P.Piece.seen c.args.disk.now) (record { name = c.args.disk.now.name; device = c.args.disk.now.device; slot = c.args.disk.now.slot; sectors = c.args.disk.now.sectors; good = c.args.disk.now.good; half = c.args.disk.now.half; seen = g.P.Piece.seen c.write.new.self }) refl (search rules) _ _ c.write.result (λ good. refl) c.write.ensures.told.told;
      reads = c.write.ensures.told.reads;
      writes = most_writes _ _ _ c.put.new.out _ (one_block _ (search rules)) c.write.ensures.told.writes;
    }
