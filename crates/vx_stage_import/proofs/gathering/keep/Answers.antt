use Rattle.std.proofs.Common.{◌≡◌, ◌<◌, true, length, rules, ◌∙◌, refl, inl, inr, arith}
use Rattle.vx_stage_import.proofs.Places.{room_in}
use Rattle.vx_stage_import.proofs.PutAmong.{roomy_on, kept_on, used_at, counted_group, counted_size}
use Rattle.vx_stage_import.proofs.gathering.keep.Goals as goal

pub put_in-requires-clause-room : goal.put_in-requires-clause-room
put_in-requires-clause-room g c κs within =
    let less : length c.args.finds.now.items < 32 = room_in c.args.finds.now.items c.deref.result.now c.deref.ensures.value c.in-Some.place c.args.header.slot c.args.header.slot_below c.requires.room.rising c.in-Some.ensures in
    omega (arith, less, c.requires.room.enough)

pub returns-in-None-clause-ends : goal.returns-in-None-clause-ends
returns-in-None-clause-ends g c = inl (
  record { given = c.give-in-None.ensures.given; back = c.give-in-None.ensures.back; quiet = c.give-in-None.ensures.quiet; counts = c.give-in-None.ensures.counts },
  refl,
  λ group size. used_at g.S.P.Piece.seen c.args.header.slot c.args.finds.now.items c.deref.result.now c.deref.ensures.value c.in-None.ensures,
)

pub returns-in-Some-clause-room : goal.returns-in-Some-clause-room
returns-in-Some-clause-room g c =
    roomy_on g.S.P.Piece.seen c.args.finds.now.items c.put_in.new.finds.items c.in-Some.place _ c.put_in.ensures.put _ _ c.deref.result.now c.requires.room c.deref.ensures.value c.in-Some.ensures c.put_in.ensures.room

pub returns-in-Some-clause-ends : goal.returns-in-Some-clause-ends
returns-in-Some-clause-ends g c =
    let counted : c.counts.result ≡ true = search rules in
    inr (
      refl,
      counted_group c.args.header.group c.args.dg.now c.args.header.sectors c.sectors.result c.counts.result c.counts.ensures counted,
      counted_size c.args.header.group c.args.dg.now c.args.header.sectors c.sectors.result c.counts.result c.counts.ensures counted ∙ c.sectors.ensures,
      kept_on g.S.P.Piece.seen c.args.finds.now.items c.put_in.new.finds.items c.in-Some.place _ c.put_in.ensures.put refl,
    )
