use Rattle.std.proofs.Common.{◌≡◌, ◌∙◌, ◌+◌, ◌++◌, ◌∷◌, [], ℕ, refl, sym, ap, take}
use Rattle.std.proofs.lemmas.List.{take_more}
use Rattle.std.proofs.lemmas.Result.{err_from_is_err_and}
use Rattle.vx_house.proofs.Takes.{took_next, stop_next}
use Rattle.vx_house.proofs.taking.take_disks.Goals as goal

pub returns-in_err-take_one : goal.returns-in_err-take_one
returns-in_err-take_one g c =
    let i : ℕ = c.loop-disk.disk-index in
    let more : take (i + 1) c.args.disks.now ≡ take i c.args.disks.now ++ c.disk-item.result ∷ [] = take_more c.args.disks.now i c.disk-item.result c.loop-disk-test.true ∙ ap (λ x. take i c.args.disks.now ++ x ∷ []) (sym c.disk-item.is) in
    let p = err_from_is_err_and c.from_residual.result c.from_residual.ensures.1 in
    record { goes = rw (p.1, p.2) (stop_next g.S.P.Piece.seen c.args.disks.now i c.disk-item.result c.in_err-take_one.field-0.0 _ _ _ (c.requires.ready.empty refl) more c.loop-disk.invariant.took c.in_err-take_one.ensures.gives) }

pub loop-disk-preserved : goal.loop-disk-preserved
loop-disk-preserved g c =
    let i : ℕ = c.loop-disk.disk-index in
    let more : take (i + 1) c.args.disks.now ≡ take i c.args.disks.now ++ c.disk-item.result ∷ [] = take_more c.args.disks.now i c.disk-item.result c.loop-disk-test.true ∙ ap (λ x. take i c.args.disks.now ++ x ∷ []) (sym c.disk-item.is) in
    record { took = took_next g.S.P.Piece.seen c.args.disks.now i c.disk-item.result _ _ _ more c.loop-disk.invariant.took c.in_ok-take_one.ensures.gives }
