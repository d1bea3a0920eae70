use Rattle.std.proofs.Common.{rules, ◌≡◌, ◌+◌, ◌++◌, [], ◌∷◌, Some, None, sym, subst, arith}
use Rattle.vx_stage_volumes.specs.Numbers.{AreNumbersOf, number_at}
use Rattle.vx_stage_volumes.proofs.Numbers.{up_to, with_disk, with_spare}
use Rattle.vx_stage_volumes.proofs.numbering.numbers_of.Goals.{in-Some+in_ok-push-in-Some, in-None+in-Some-spare_number+in-Some-checked_add+in_ok-push-in-None}
use Rattle.vx_stage_volumes.proofs.numbering.numbers_of.Goals as goal

pub slots-preserved : goal.slots-preserved
slots-preserved g c = record {
  low = search rules;
  high = search rules;
  are = elim c.match-number_at.branch [
    | in-Some+in_ok-push-in-Some w ↦
        let items : c.match-number_at.numbers.items ≡ c.slots.numbers.items ++ w.in-Some.number ∷ [] = search rules in
        let at : number_at g.P.Piece.seen c.args.disks.now c.slots.slot ≡ Some w.in-Some.number = search rules in
        let same : c.match-number_at.next ≡ c.slots.next = search rules in
        subst (λ n. AreNumbersOf g.P.Piece.seen c.args.disks.now (c.slots.slot + 1) n c.match-number_at.numbers.items) (sym same)
        (subst (AreNumbersOf g.P.Piece.seen c.args.disks.now (c.slots.slot + 1) c.slots.next) (sym items)
        (with_disk g.P.Piece.seen c.args.disks.now c.requires.own c.slots.slot c.slots.next c.slots.numbers.items w.in-Some.number c.slots.invariant.are at))
    | in-None+in-Some-spare_number+in-Some-checked_add+in_ok-push-in-None w ↦
        let items : c.match-number_at.numbers.items ≡ c.slots.numbers.items ++ w.in-Some-spare_number.number ∷ [] = search rules in
        let none : number_at g.P.Piece.seen c.args.disks.now c.slots.slot ≡ None = search rules in
        let next : c.match-number_at.next ≡ w.in-Some-spare_number.number + 1 = search rules in
        subst (λ n. AreNumbersOf g.P.Piece.seen c.args.disks.now (c.slots.slot + 1) n c.match-number_at.numbers.items) (sym next)
        (subst (AreNumbersOf g.P.Piece.seen c.args.disks.now (c.slots.slot + 1) (w.in-Some-spare_number.number + 1)) (sym items)
        (with_spare g.P.Piece.seen c.args.disks.now c.requires.own c.slots.slot c.slots.next c.slots.numbers.items w.in-Some-spare_number.number
        c.slots.invariant.are none w.in-Some-spare_number.ensures.unused w.in-Some-spare_number.ensures.from))
  ];
}

pub returns : goal.returns
returns g c =
    let long : c.slots.slot ≡ 32 = (let low = c.slots.invariant.low in let test = c.slots-test.false in omega (arith, low, test)) in
    up_to g.P.Piece.seen c.args.disks.now 32 c.slots.next 4294967296 c.slots.numbers.items (let high = c.slots.invariant.high in omega (arith, high))
    (subst (λ n. AreNumbersOf g.P.Piece.seen c.args.disks.now n c.slots.next c.slots.numbers.items) long c.slots.invariant.are)
