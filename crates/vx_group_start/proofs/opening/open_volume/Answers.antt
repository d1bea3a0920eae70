-- The form is that of the configuration, and the volume is opened with it.
use Rattle.std.proofs.Common.{◌≡◌, refl, ap, subst, inr, List, map, ◌++◌}
use Rattle.std.specs.List.{flat_map}
use Rattle.std.proofs.lemmas.Result.{IfErr-weaker, IfOk-weaker, on_err_weaker}
use Rattle.vx_piece.specs.Seen.{Seen}
use Rattle.vx_lending.specs.Form.{IsFormOf}
use Rattle.vx_lending.proofs.Places.{can_be_taken}
use Rattle.vx_lending.proofs.Rooms.{logs_are}
use Rattle.vx_lending.specs.Left.{held_pieces}
use Rattle.vx_lending.specs.Public.{remaining_pieces, still_pieces}
use Rattle.vx_group_start.specs.Fresh.{is_fresh}
use Rattle.vx_group_start.specs.Together.{GoByLog}
use Rattle.vx_group_start.proofs.Early.{early}
use Rattle.vx_group_start.proofs.Forms.{logged, no_logs, openable, roomy}
use Rattle.vx_group_start.proofs.Same.{come_from, not_started_from, started_from}
use Rattle.vx_group_start.proofs.Untouched.{never_unread}
use Rattle.vx_group_start.proofs.opening.open_volume.Goals as goal

pub open_form-requires-clause-taking : goal.open_form-requires-clause-taking
open_form-requires-clause-taking g c κs within =
    let is : IsFormOf c.args.config.now c.args.good c.args.vol.now (is_fresh c.args.vol.now.state) c.in-Ok.form = subst (λ b. IsFormOf c.args.config.now c.args.good c.args.vol.now b c.in-Ok.form) c.is_fresh.ensures c.in-Ok.ensures.form in
    can_be_taken c.args.config.now c.args.good c.args.vol.now (is_fresh c.args.vol.now.state) c.in-Ok.form is c.requires.of c.args.numbers.now (map g.P.Piece.seen c.args.public.now.pool.items.items) c.requires.numbered (c.requires.free c.in-Ok.form is)

pub open_form-requires-clause-few : goal.open_form-requires-clause-few
open_form-requires-clause-few g c κs within = (logs_are c.args.config.now c.args.good c.args.vol.now c.is_fresh.result c.in-Ok.form c.requires.of c.in-Ok.ensures.form).few

pub open_form-requires-clause-roomy : goal.open_form-requires-clause-roomy
open_form-requires-clause-roomy g c κs within = roomy c.args.vol.now c.in-Ok.form (logs_are c.args.config.now c.args.good c.args.vol.now c.is_fresh.result c.in-Ok.form c.requires.of c.in-Ok.ensures.form)

pub open_form-requires-clause-openable : goal.open_form-requires-clause-openable
open_form-requires-clause-openable g c κs within log regions = openable c.args.config.now c.args.good c.args.vol.now c.is_fresh.result c.in-Ok.form c.requires.of c.in-Ok.ensures.form c.in-None.ensures.on c.args.numbers.now log regions

pub open_form-requires-clause-logged : goal.open_form-requires-clause-logged
open_form-requires-clause-logged g c κs within = logged _ _ c.in-None.ensures.logs (no_logs c.args.vol.now c.in-Ok.form (logs_are c.args.config.now c.args.good c.args.vol.now c.is_fresh.result c.in-Ok.form c.requires.of c.in-Ok.ensures.form))

pub returns-in-Some-clause-refused : goal.returns-in-Some-clause-refused
returns-in-Some-clause-refused g c =
    let is : IsFormOf c.args.config.now c.args.good c.args.vol.now (is_fresh c.args.vol.now.state) c.in-Ok.form = subst (λ b. IsFormOf c.args.config.now c.args.good c.args.vol.now b c.in-Ok.form) c.is_fresh.ensures c.in-Ok.ensures.form in
    inr (c.in-Ok.form, is, early c.args.config.now c.args.good c.args.vol.now c.args.numbers.now c.in-Ok.form c.requires.of is c.args.public.now (record c.args.public.now { left = c.reserve.new.self }) c.in-Some.fault c.in-Some.ensures.some)

pub returns-in-None-clause-started : goal.returns-in-None-clause-started
returns-in-None-clause-started g c =
    let still : still_pieces g.P.Piece.seen (record c.args.public.now { left = c.reserve.new.self }) ≡ still_pieces g.P.Piece.seen c.args.public.now = ap (λ xs. map g.P.Piece.seen c.args.public.now.pool.items.items ++ flat_map (remaining_pieces g.P.Piece.seen) xs) c.reserve.ensures.items in
    IfOk-weaker c.open_form.result _ _
    (λ running s. started_from c.args.vol.now c.args.numbers.now c.args.public.now (record c.args.public.now { left = c.reserve.new.self }) c.open_form.new.public still running refl s)
    c.open_form.ensures.started

pub returns-in-None-clause-refused : goal.returns-in-None-clause-refused
returns-in-None-clause-refused g c =
    let is : IsFormOf c.args.config.now c.args.good c.args.vol.now (is_fresh c.args.vol.now.state) c.in-Ok.form = subst (λ b. IsFormOf c.args.config.now c.args.good c.args.vol.now b c.in-Ok.form) c.is_fresh.ensures c.in-Ok.ensures.form in
    let still : still_pieces g.P.Piece.seen (record c.args.public.now { left = c.reserve.new.self }) ≡ still_pieces g.P.Piece.seen c.args.public.now = ap (λ xs. map g.P.Piece.seen c.args.public.now.pool.items.items ++ flat_map (remaining_pieces g.P.Piece.seen) xs) c.reserve.ensures.items in
    IfErr-weaker c.open_form.result _ _
    (λ fault h. inr (c.in-Ok.form, is, not_started_from c.args.vol.now c.args.numbers.now c.args.public.now (record c.args.public.now { left = c.reserve.new.self }) c.open_form.new.public still c.in-Ok.form fault h))
    c.open_form.ensures.refused

pub returns-in-None-clause-untouched : goal.returns-in-None-clause-untouched
returns-in-None-clause-untouched g c fresh r same =
    let is : IsFormOf c.args.config.now c.args.good c.args.vol.now (is_fresh c.args.vol.now.state) c.in-Ok.form = subst (λ b. IsFormOf c.args.config.now c.args.good c.args.vol.now b c.in-Ok.form) c.is_fresh.ensures c.in-Ok.ensures.form in
    never_unread c.args.config.now c.args.good c.args.vol.now c.args.numbers.now c.in-Ok.form is fresh (c.in-None.ensures.lowest fresh) (record c.args.public.now { left = c.reserve.new.self }) c.open_form.new.public c.open_form.result r c.open_form.ensures.refused same

pub returns-in-Some-clause-untouched : goal.returns-in-Some-clause-untouched
returns-in-Some-clause-untouched g c fresh r same = ap (λ xs. map g.P.Piece.seen c.args.public.now.pool.items.items ++ flat_map (remaining_pieces g.P.Piece.seen) xs) c.reserve.ensures.items

pub returns-in-None-clause-goes : goal.returns-in-None-clause-goes
returns-in-None-clause-goes g c =
    let still : still_pieces g.P.Piece.seen (record c.args.public.now { left = c.reserve.new.self }) ≡ still_pieces g.P.Piece.seen c.args.public.now = ap (λ xs. map g.P.Piece.seen c.args.public.now.pool.items.items ++ flat_map (remaining_pieces g.P.Piece.seen) xs) c.reserve.ensures.items in
    IfOk-weaker c.open_form.result _ _
    (λ running go. subst (λ (xs : List Seen). GoByLog c.args.numbers.now running.form (is_fresh c.args.vol.now.state) xs (held_pieces g.P.Piece.seen running.volume ++ still_pieces g.P.Piece.seen c.open_form.new.public)) still go)
    c.open_form.ensures.goes

pub returns-in-None-clause-comes_back : goal.returns-in-None-clause-comes_back
returns-in-None-clause-comes_back g c =
    let is : IsFormOf c.args.config.now c.args.good c.args.vol.now (is_fresh c.args.vol.now.state) c.in-Ok.form = subst (λ b. IsFormOf c.args.config.now c.args.good c.args.vol.now b c.in-Ok.form) c.is_fresh.ensures c.in-Ok.ensures.form in
    let still : still_pieces g.P.Piece.seen (record c.args.public.now { left = c.reserve.new.self }) ≡ still_pieces g.P.Piece.seen c.args.public.now = ap (λ xs. map g.P.Piece.seen c.args.public.now.pool.items.items ++ flat_map (remaining_pieces g.P.Piece.seen) xs) c.reserve.ensures.items in
    on_err_weaker c.open_form.result
    (λ come. come_from c.args.config.now c.args.good c.args.vol.now c.args.numbers.now c.in-Ok.form (still_pieces g.P.Piece.seen c.args.public.now) (still_pieces g.P.Piece.seen (record c.args.public.now { left = c.reserve.new.self })) (still_pieces g.P.Piece.seen c.open_form.new.public) is still come)
    c.open_form.ensures.comes_back
