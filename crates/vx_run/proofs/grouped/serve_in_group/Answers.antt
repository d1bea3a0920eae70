use Rattle.std.proofs.Common.{◌≡◌, ◌∙◌, ◌+◌, ◌≤◌, Some, refl, sym, ap, subst, rules, arith}
use Rattle.std.specs.Prelude.{MatchBool}
use Rattle.std.proofs.lemmas.Bool.{le-ltb}
use Rattle.std.specs.BTreeMap.{get}
use Rattle.std.specs.Cmp.Lexicographic.{slice_cmp}
use Rattle.std.specs.Ordering.{nat_cmp}
use Rattle.vx_answers.specs.declared.answer.End.TheVariants.{Refused}
use Rattle.vx_answers.specs.declared.refusal.Refusal.TheVariants.{Range}
use Rattle.vx_stages.specs.Calls.{count_of, start_of, volume_of}
use Rattle.vx_lending.specs.Public.{running_at}
use Rattle.vx_volume.specs.Volume.{volume_seen}
use Rattle.vx_run.specs.Grouped.{IsServedIn, IsToldAs, MayRunCall, NamesFault, RunsCall, ServesInGroup}
use Rattle.vx_run.proofs.Served.{is_volume, names_fault}
use Rattle.vx_run.proofs.grouped.serve_in_group.Goals as goal

pub serve_running-requires-clause-may : goal.serve_running-requires-clause-may
serve_running-requires-clause-may g c κs within =
    let found : get (slice_cmp nat_cmp) c.args.group.now.public.running c.volume_of-name.result ≡ Some c.in-Some.running.now = search rules in
    let size : c.shape.result.geometry.length ≡ (volume_seen g.P.Piece.seen c.in-Some.running.now.volume).length = ap (λ s. s.geometry.length) c.shape.ensures in
    let end : c.end_of.result ≡ start_of c.args.call.now + count_of c.args.call.now = c.end_of.ensures in
    subst (MayRunCall g.P.Piece.seen c.args.call.now) (sym found)
    (is_volume g.P.Piece.seen c.args.group.now c.requires.whole c.volume_of-name.result c.in-Some.running.now found, omega (arith, size, end, c.if-shape-end_of.false))

pub told-requires-after_bounds : goal.told-requires-after_bounds
told-requires-after_bounds g c κs within =
    let runs = c.in_ok-served.ensures.runs in
    subst (λ ds. NamesFault g.P.Piece.seen ds c.in_ok-served.served) (sym c.disks.ensures)
    (names_fault g.P.Piece.seen c.args.group.now c.requires.whole c.volume_of-name.result runs.before runs.was c.in_ok-served.served runs.after runs.stays runs.cause)

pub returns-clause-serves : goal.returns-clause-serves
returns-clause-serves g c =
    let name : c.volume_of-name.result ≡ volume_of c.args.call.now = c.volume_of-name.ensures in
    let found : running_at c.args.group.now.public c.volume_of-name.result ≡ Some c.in-Some.running.now = search rules in
    let size : c.shape.result.geometry.length ≡ (volume_seen g.P.Piece.seen c.in-Some.running.now.volume).length = ap (λ s. s.geometry.length) c.shape.ensures in
    let end : c.end_of.result ≡ start_of c.args.call.now + count_of c.args.call.now = c.end_of.ensures in
    let now = record c.args.group.now { public = record c.args.group.now.public { running = c.serve_running.new.running } } in
    let within : start_of c.args.call.now + count_of c.args.call.now ≤ (volume_seen g.P.Piece.seen c.in-Some.running.now.volume).length = omega (arith, size, end, c.if-shape-end_of.false) in
    subst (λ o. ServesInGroup g.P.Piece.seen c.args.call.now o c.args.group.now now c.told.result) (sym found ∙ ap (running_at c.args.group.now.public) name)
    (subst (λ t. MatchBool t ((c.told.result ≡ Refused Range) × (now ≡ c.args.group.now)) (IsServedIn g.P.Piece.seen c.args.call.now c.told.result c.args.group.now now)) (sym (le-ltb (volume_seen g.P.Piece.seen c.in-Some.running.now.volume).length (start_of c.args.call.now + count_of c.args.call.now) within)) (record {
      answer = c.in_ok-served.served;
      runs = subst (λ n. RunsCall g.P.Piece.seen c.args.call.now n c.in_ok-served.served c.args.group.now.public.running c.serve_running.new.running) name c.in_ok-served.ensures.runs;
      same = refl;
      told = subst (λ ds. IsToldAs g.P.Piece.seen ds c.in_ok-served.served c.told.result) c.disks.ensures c.told.ensures;
    }))
