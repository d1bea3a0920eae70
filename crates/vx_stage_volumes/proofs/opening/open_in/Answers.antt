use Rattle.std.proofs.Common.{rules, ◌≡◌, true, sym, subst}
use Rattle.vx_stage_volumes.specs.Disks.{have_disks}
use Rattle.vx_stage_volumes.specs.Numbers.{HaveOwnNumbers}
use Rattle.vx_stage_volumes.proofs.Configs.{same_config}
use Rattle.vx_stage_volumes.proofs.Openings.{free_by, numbers_are, opens_by, refused_by, wanting}
use Rattle.vx_stage_volumes.proofs.Owned.{numbered_by, own_by, pool_once, ready_by}
use Rattle.vx_stage_volumes.proofs.opening.open_in.Goals as goal

pub returns-then-not-have_disks-clause-unopened : goal.returns-then-not-have_disks-clause-unopened
returns-then-not-have_disks-clause-unopened g c = wanting g.P.Piece.seen c.args.vol.now c.args.group.now _ (same_config c.args.group.now.config _)

pub numbers_of-requires-clause-own : goal.numbers_of-requires-clause-own
numbers_of-requires-clause-own g c κs within =
    subst (HaveOwnNumbers g.P.Piece.seen) (sym c.disks-2.ensures) (own_by g.P.Piece.seen c.args.group.now c.requires.kept)

pub returns-in_default-clause-unopened : goal.returns-in_default-clause-unopened
returns-in_default-clause-unopened g c = wanting g.P.Piece.seen c.args.vol.now c.args.group.now _ (same_config c.args.group.now.config _)

pub open_volume-requires-clause-numbered : goal.open_volume-requires-clause-numbered
open_volume-requires-clause-numbered g c κs within =
    let all : have_disks c.args.group.now.base.disks.items c.good-good.result c.args.group.now.config.disks ≡ true = search rules in
    let are =
    numbers_are g.P.Piece.seen c.args.group.now c.disks-2.result.now c.in-Ok.numbers.items c.deref.result.now c.disks-2.ensures
    c.deref.ensures.value c.in-Ok.ensures in
    numbered_by g.P.Piece.seen c.args.group.now.base.disks.items (ready_by g.P.Piece.seen c.args.group.now c.requires.kept)
    c.good-good.result c.args.group.now.config.disks all c.deref.result.now are.long

pub open_volume-requires-clause-once : goal.open_volume-requires-clause-once
open_volume-requires-clause-once g c κs within = pool_once g.P.Piece.seen c.args.group.now c.requires.kept

pub open_volume-requires-clause-free : goal.open_volume-requires-clause-free
open_volume-requires-clause-free g c κs within =
    let all : have_disks c.args.group.now.base.disks.items c.good-good.result c.args.group.now.config.disks ≡ true = search rules in
    let are =
    numbers_are g.P.Piece.seen c.args.group.now c.disks-2.result.now c.in-Ok.numbers.items c.deref.result.now c.disks-2.ensures
    c.deref.ensures.value c.in-Ok.ensures in
    let numbered =
    numbered_by g.P.Piece.seen c.args.group.now.base.disks.items (ready_by g.P.Piece.seen c.args.group.now c.requires.kept)
    c.good-good.result c.args.group.now.config.disks all c.deref.result.now are.long in
    let have = subst (λ n. have_disks c.args.group.now.base.disks.items n c.args.group.now.config.disks ≡ true) c.good-good.ensures.just all in
    λ form is.
    free_by g.P.Piece.seen c.args.vol.now c.args.group.now _ (same_config c.args.group.now.config _) (c.requires.free have) c.good-good.result
    c.good-good.ensures.just c.deref.result.now are numbered form is

pub returns-in-Ok-open_volume-clause-opens : goal.returns-in-Ok-open_volume-clause-opens
returns-in-Ok-open_volume-clause-opens g c =
    let all : have_disks c.args.group.now.base.disks.items c.good-good.result c.args.group.now.config.disks ≡ true = search rules in
    let are =
    numbers_are g.P.Piece.seen c.args.group.now c.disks-2.result.now c.in-Ok.numbers.items c.deref.result.now c.disks-2.ensures
    c.deref.ensures.value c.in-Ok.ensures in
    let numbered =
    numbered_by g.P.Piece.seen c.args.group.now.base.disks.items (ready_by g.P.Piece.seen c.args.group.now c.requires.kept)
    c.good-good.result c.args.group.now.config.disks all c.deref.result.now are.long in
    opens_by g.P.Piece.seen c.args.vol.now c.args.group.now _ (same_config c.args.group.now.config _) c.open_volume.new.public
    c.open_volume.ensures.running c.open_volume.ensures.stuck
    c.good-good.result c.good-good.ensures.just c.deref.result.now are numbered
    c.in-Ok-open_volume.running c.in-Ok-open_volume.ensures.form c.in-Ok-open_volume.ensures.started c.in-Ok-open_volume.ensures.goes
    c.in-Ok-open_volume.ensures.left

pub returns-clause-unopened : goal.returns-clause-unopened
returns-clause-unopened g c =
    let all : have_disks c.args.group.now.base.disks.items c.good-good.result c.args.group.now.config.disks ≡ true = search rules in
    let are =
    numbers_are g.P.Piece.seen c.args.group.now c.disks-2.result.now c.in-Ok.numbers.items c.deref.result.now c.disks-2.ensures
    c.deref.ensures.value c.in-Ok.ensures in
    let numbered =
    numbered_by g.P.Piece.seen c.args.group.now.base.disks.items (ready_by g.P.Piece.seen c.args.group.now c.requires.kept)
    c.good-good.result c.args.group.now.config.disks all c.deref.result.now are.long in
    refused_by g.P.Piece.seen c.args.vol.now c.args.group.now _ (same_config c.args.group.now.config _) c.open_volume.new.public
    c.open_volume.ensures.running c.open_volume.ensures.stuck
    c.good-good.result c.good-good.ensures.just c.deref.result.now are numbered
    c.in-Err.fault c.unopened.result (search rules) c.in-Err.ensures.refused c.in-Err.ensures.back c.in-Err.ensures.comes_back
