-- The log is made on the plexes that the next configuration adds, which lie in the pool of the group.
use Rattle.std.proofs.Common.{rules, ◌≡◌, Some, true, false, sym, subst}
use Rattle.vx_lending.specs.Form.{IsFormOf}
use Rattle.vx_stages.specs.Tests.{volume_in}
use Rattle.vx_stage_volumes.specs.Disks.{have_disks}
use Rattle.vx_stage_volumes.specs.Numbers.{HaveOwnNumbers}
use Rattle.vx_stage_volumes.proofs.Openings.{numbers_are}
use Rattle.vx_stage_volumes.proofs.Owned.{own_by, pool_once}
use Rattle.vx_stage_mirrors.proofs.NewForms.{ends_early, ends_made, ends_unmade, few, form_next, free, have_blocks, none_to_copy, plexes, recorded, some}
use Rattle.vx_stage_mirrors.proofs.making.make.Goals as goal

pub returns-then-not-have_disks : goal.returns-then-not-have_disks
returns-then-not-have_disks g c = record { ends = ends_early g.P.Piece.seen c.args.name.now c.args.next.now c.args.group.now c.requires.next }

pub numbers_of-requires-clause-own : goal.numbers_of-requires-clause-own
numbers_of-requires-clause-own g c κs within =
    subst (HaveOwnNumbers g.P.Piece.seen) (sym c.disks-2.ensures) (own_by g.P.Piece.seen c.args.group.now c.requires.kept)

pub returns-in_default : goal.returns-in_default
returns-in_default g c = record { ends = ends_early g.P.Piece.seen c.args.name.now c.args.next.now c.args.group.now c.requires.next }

pub returns-in_default-volume_in : goal.returns-in_default-volume_in
returns-in_default-volume_in g c = record { ends = ends_early g.P.Piece.seen c.args.name.now c.args.next.now c.args.group.now c.requires.next }

pub form_of-requires : goal.form_of-requires
form_of-requires g c =
    let found : volume_in c.args.name.now c.args.next.now.volumes ≡ Some c.in-Some.vol = search rules in
    recorded g.P.Piece.seen c.args.name.now c.args.next.now c.args.group.now c.requires.next c.in-Some.vol found

pub make_log-requires-clause-few : goal.make_log-requires-clause-few
make_log-requires-clause-few g c κs within =
    let found : volume_in c.args.name.now c.args.next.now.volumes ≡ Some c.in-Some.vol = search rules in
    let is = subst (λ n. IsFormOf c.args.next.now n c.in-Some.vol false c.in-Ok-form_of.form) c.good-good.ensures.just c.in-Ok-form_of.ensures.form in
    few g.P.Piece.seen c.args.name.now c.args.next.now c.args.group.now c.requires.next c.in-Some.vol found c.in-Ok-form_of.form is

pub make_log-requires-clause-some : goal.make_log-requires-clause-some
make_log-requires-clause-some g c κs within =
    let found : volume_in c.args.name.now c.args.next.now.volumes ≡ Some c.in-Some.vol = search rules in
    let is = subst (λ n. IsFormOf c.args.next.now n c.in-Some.vol false c.in-Ok-form_of.form) c.good-good.ensures.just c.in-Ok-form_of.ensures.form in
    some g.P.Piece.seen c.args.name.now c.args.next.now c.args.group.now c.requires.next c.in-Some.vol found c.in-Ok-form_of.form is

pub make_log-requires-clause-roomy : goal.make_log-requires-clause-roomy
make_log-requires-clause-roomy g c κs within =
    let found : volume_in c.args.name.now c.args.next.now.volumes ≡ Some c.in-Some.vol = search rules in
    let is = subst (λ n. IsFormOf c.args.next.now n c.in-Some.vol false c.in-Ok-form_of.form) c.good-good.ensures.just c.in-Ok-form_of.ensures.form in
    have_blocks g.P.Piece.seen c.args.name.now c.args.next.now c.args.group.now c.requires.next c.in-Some.vol found c.in-Ok-form_of.form is

pub make_log-requires-clause-apart : goal.make_log-requires-clause-apart
make_log-requires-clause-apart g c κs within =
    let are = numbers_are g.P.Piece.seen c.args.group.now c.disks-2.result.now c.in-Ok.numbers.items c.deref.result.now c.disks-2.ensures c.deref.ensures.value c.in-Ok.ensures in
    are.own

pub make_log-requires-clause-plexes : goal.make_log-requires-clause-plexes
make_log-requires-clause-plexes g c κs within =
    let found : volume_in c.args.name.now c.args.next.now.volumes ≡ Some c.in-Some.vol = search rules in
    let is = subst (λ n. IsFormOf c.args.next.now n c.in-Some.vol false c.in-Ok-form_of.form) c.good-good.ensures.just c.in-Ok-form_of.ensures.form in
    let all : have_disks c.args.group.now.base.disks.items c.good-good.result c.args.next.now.disks ≡ true = search rules in
    let have = subst (λ n. have_disks c.args.group.now.base.disks.items n c.args.next.now.disks ≡ true) c.good-good.ensures.just all in
    let are = numbers_are g.P.Piece.seen c.args.group.now c.disks-2.result.now c.in-Ok.numbers.items c.deref.result.now c.disks-2.ensures c.deref.ensures.value c.in-Ok.ensures in
    plexes g.P.Piece.seen c.args.name.now c.args.next.now c.args.group.now c.requires.next c.in-Some.vol found c.in-Ok-form_of.form is c.requires.kept have c.deref.result.now are

pub make_log-requires-clause-once : goal.make_log-requires-clause-once
make_log-requires-clause-once g c κs within = pool_once g.P.Piece.seen c.args.group.now c.requires.kept

pub make_log-requires-clause-free : goal.make_log-requires-clause-free
make_log-requires-clause-free g c κs within =
    let found : volume_in c.args.name.now c.args.next.now.volumes ≡ Some c.in-Some.vol = search rules in
    let is = subst (λ n. IsFormOf c.args.next.now n c.in-Some.vol false c.in-Ok-form_of.form) c.good-good.ensures.just c.in-Ok-form_of.ensures.form in
    let all : have_disks c.args.group.now.base.disks.items c.good-good.result c.args.next.now.disks ≡ true = search rules in
    let have = subst (λ n. have_disks c.args.group.now.base.disks.items n c.args.next.now.disks ≡ true) c.good-good.ensures.just all in
    let are = numbers_are g.P.Piece.seen c.args.group.now c.disks-2.result.now c.in-Ok.numbers.items c.deref.result.now c.disks-2.ensures c.deref.ensures.value c.in-Ok.ensures in
    free g.P.Piece.seen c.args.name.now c.args.next.now c.args.group.now c.requires.next c.in-Some.vol found c.in-Ok-form_of.form is c.requires.kept have c.deref.result.now are c.requires.ready

pub make_log-requires-clause-one : goal.make_log-requires-clause-one
make_log-requires-clause-one g c κs within =
    let found : volume_in c.args.name.now c.args.next.now.volumes ≡ Some c.in-Some.vol = search rules in
    let is = subst (λ n. IsFormOf c.args.next.now n c.in-Some.vol false c.in-Ok-form_of.form) c.good-good.ensures.just c.in-Ok-form_of.ensures.form in
    none_to_copy g.P.Piece.seen c.args.name.now c.args.next.now c.args.group.now c.requires.next c.in-Some.vol found c.in-Ok-form_of.form is

pub returns-in-Ok-make_log : goal.returns-in-Ok-make_log
returns-in-Ok-make_log g c =
    let found : volume_in c.args.name.now c.args.next.now.volumes ≡ Some c.in-Some.vol = search rules in
    let is = subst (λ n. IsFormOf c.args.next.now n c.in-Some.vol false c.in-Ok-form_of.form) c.good-good.ensures.just c.in-Ok-form_of.ensures.form in
    let all : have_disks c.args.group.now.base.disks.items c.good-good.result c.args.next.now.disks ≡ true = search rules in
    let have = subst (λ n. have_disks c.args.group.now.base.disks.items n c.args.next.now.disks ≡ true) c.good-good.ensures.just all in
    let are = numbers_are g.P.Piece.seen c.args.group.now c.disks-2.result.now c.in-Ok.numbers.items c.deref.result.now c.disks-2.ensures c.deref.ensures.value c.in-Ok.ensures in
    record {
      ends = ends_made g.P.Piece.seen c.args.name.now c.args.next.now c.args.group.now c.requires.next c.in-Some.vol found c.make_log.new.public c.in-Ok-make_log.ensures.running c.in-Ok-make_log.ensures.stuck
          (form_next g.P.Piece.seen c.args.name.now c.args.next.now c.args.group.now c.requires.next c.in-Some.vol found c.in-Ok-form_of.form is c.requires.kept have c.deref.result.now are)
          c.in-Ok-make_log.ensures.made;
    }

pub returns : goal.returns
returns g c =
    let found : volume_in c.args.name.now c.args.next.now.volumes ≡ Some c.in-Some.vol = search rules in
    let is = subst (λ n. IsFormOf c.args.next.now n c.in-Some.vol false c.in-Ok-form_of.form) c.good-good.ensures.just c.in-Ok-form_of.ensures.form in
    let all : have_disks c.args.group.now.base.disks.items c.good-good.result c.args.next.now.disks ≡ true = search rules in
    let have = subst (λ n. have_disks c.args.group.now.base.disks.items n c.args.next.now.disks ≡ true) c.good-good.ensures.just all in
    let are = numbers_are g.P.Piece.seen c.args.group.now c.disks-2.result.now c.in-Ok.numbers.items c.deref.result.now c.disks-2.ensures c.deref.ensures.value c.in-Ok.ensures in
    record {
      ends = ends_unmade g.P.Piece.seen c.args.name.now c.args.next.now c.args.group.now c.requires.next c.in-Some.vol found c.make_log.new.public c.in-Err.ensures.running c.in-Err.ensures.stuck
          (form_next g.P.Piece.seen c.args.name.now c.args.next.now c.args.group.now c.requires.next c.in-Some.vol found c.in-Ok-form_of.form is c.requires.kept have c.deref.result.now are)
          c.in-Err.fault c.unopened.result (search rules) c.in-Err.ensures.refused c.in-Err.ensures.back;
    }
