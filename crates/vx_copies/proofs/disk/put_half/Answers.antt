use Rattle.std.proofs.Common.{rules, refl}
use Rattle.vx_copies.proofs.Halves.{wide_on, half_inside, half_told, half_text, names_on, half_put, half_holds}
use Rattle.vx_copies.proofs.Counts.{ok_not_cut, most_writes, just_writes, half_sectors}
use Rattle.vx_copies.proofs.disk.put_half.Goals as goal

pub write-requires : goal.write-requires
write-requires g c = half_inside (g.P.Piece.seen c.args.disk.now.piece) c.args.disk.now.half c.args.text.now c.args.padded.now c.requires.ready.half c.requires.ready.sectors c.requires.padded

pub returns-in-Ok-clause-stays : goal.returns-in-Ok-clause-stays
returns-in-Ok-clause-stays g c = record {
  slot = refl;
  name = refl;
  device = refl;
  size = refl;
  half = refl;
  kept = c.write.ensures.kept;
  good = search rules;
  told = half_told c.args.disk.now.half c.args.text.now c.args.padded.now c.requires.ready.half c.requires.padded _ _ c.write.result (c.requires.ready.names (search rules)) c.write.ensures.told.told;
  idle = λ e. search rules;
}

pub returns-in-Ok-clause-ends : goal.returns-in-Ok-clause-ends
returns-in-Ok-clause-ends g c =
    let stays = half_told c.args.disk.now.half c.args.text.now c.args.padded.now c.requires.ready.half c.requires.padded _ _ c.write.result (c.requires.ready.names (search rules)) c.write.ensures.told.told in (
      record { slot = c.requires.ready.slot; half = c.requires.ready.half; sectors = wide_on _ _ c.write.ensures.kept.sectors c.requires.ready.sectors; names = λ is. names_on c.args.disk.now.half _ _ stays (c.requires.ready.names is) },
      λ is. half_text c.args.disk.now.half c.args.text.now c.args.padded.now c.requires.ready.half c.requires.padded _ _ c.write.result c.in-Ok.field-0 c.in-Ok.is c.write.ensures.told.told,
      refl,
    )

pub returns-in-Err-Failed-clause-stays : goal.returns-in-Err-Failed-clause-stays
returns-in-Err-Failed-clause-stays g c = record {
  slot = refl;
  name = refl;
  device = refl;
  size = refl;
  half = refl;
  kept = c.write.ensures.kept;
  good = search rules;
  told = half_told c.args.disk.now.half c.args.text.now c.args.padded.now c.requires.ready.half c.requires.padded _ _ c.write.result (c.requires.ready.names (search rules)) c.write.ensures.told.told;
  idle = λ e. search rules;
}

pub returns-in-Err-PowerLost-clause-stays : goal.returns-in-Err-PowerLost-clause-stays
returns-in-Err-PowerLost-clause-stays g c = record {
  slot = refl;
  name = refl;
  device = refl;
  size = refl;
  half = refl;
  kept = c.write.ensures.kept;
  good = search rules;
  told = half_told c.args.disk.now.half c.args.text.now c.args.padded.now c.requires.ready.half c.requires.padded _ _ c.write.result (c.requires.ready.names (search rules)) c.write.ensures.told.told;
  idle = λ e. search rules;
}

pub returns-in-Ok-clause-put : goal.returns-in-Ok-clause-put
returns-in-Ok-clause-put g c = record {
  half = refl;
  told = half_put c.args.disk.now.half c.args.text.now c.args.padded.now c.requires.ready.half c.requires.padded _ _ c.write.result c.write.ensures.told.told;
  reads = c.write.ensures.told.reads;
  writes = most_writes _ _ _ c.args.padded.now _ (half_sectors c.args.text.now c.args.padded.now c.requires.padded) c.write.ensures.told.writes;
}

pub returns-in-Err-Failed-clause-put : goal.returns-in-Err-Failed-clause-put
returns-in-Err-Failed-clause-put g c = record {
  half = refl;
  told = half_put c.args.disk.now.half c.args.text.now c.args.padded.now c.requires.ready.half c.requires.padded _ _ c.write.result c.write.ensures.told.told;
  reads = c.write.ensures.told.reads;
  writes = most_writes _ _ _ c.args.padded.now _ (half_sectors c.args.text.now c.args.padded.now c.requires.padded) c.write.ensures.told.writes;
}

pub returns-in-Err-PowerLost-clause-put : goal.returns-in-Err-PowerLost-clause-put
returns-in-Err-PowerLost-clause-put g c = record {
  half = refl;
  told = half_put c.args.disk.now.half c.args.text.now c.args.padded.now c.requires.ready.half c.requires.padded _ _ c.write.result c.write.ensures.told.told;
  reads = c.write.ensures.told.reads;
  writes = most_writes _ _ _ c.args.padded.now _ (half_sectors c.args.text.now c.args.padded.now c.requires.padded) c.write.ensures.told.writes;
}

pub returns-in-Ok-clause-done : goal.returns-in-Ok-clause-done
returns-in-Ok-clause-done g c = λ done. record {
  put = record {
    half = refl;
    told = half_put c.args.disk.now.half c.args.text.now c.args.padded.now c.requires.ready.half c.requires.padded _ _ c.write.result c.write.ensures.told.told;
    reads = c.write.ensures.told.reads;
    writes = most_writes _ _ _ c.args.padded.now _ (half_sectors c.args.text.now c.args.padded.now c.requires.padded) c.write.ensures.told.writes;
  };
  good = refl;
  holds = λ good. half_holds c.args.disk.now.half c.args.text.now c.args.padded.now c.requires.ready.half c.requires.padded _ _ c.write.result c.in-Ok.field-0 c.in-Ok.is c.write.ensures.told.told;
  writes = λ good. just_writes _ _ _ c.args.padded.now _ (half_sectors c.args.text.now c.args.padded.now c.requires.padded) (ok_not_cut _ _ c.write.result c.in-Ok.field-0 c.in-Ok.is c.write.ensures.off) c.write.ensures.told.writes;
}
