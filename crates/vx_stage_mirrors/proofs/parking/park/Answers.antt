use Rattle.std.proofs.Common.{rules, ◌≡◌, true, sym, subst}
use Rattle.vx_lending.specs.Form.{IsLayoutOf}
use Rattle.vx_stage_mirrors.proofs.FreePlaces.{new_free}
use Rattle.vx_stage_mirrors.proofs.Taken.{held_taken}
use Rattle.vx_stage_volumes.specs.Disks.{have_disks}
use Rattle.vx_stage_volumes.specs.Numbers.{HaveOwnNumbers}
use Rattle.vx_stage_volumes.proofs.Configs.{same_config}
use Rattle.vx_stage_volumes.proofs.Openings.{numbers_are}
use Rattle.vx_stage_volumes.proofs.Owned.{own_by, pool_once}
use Rattle.vx_stage_mirrors.proofs.Parks.{free, inside_by, is_plex, lies_same, lies_with, parked_for, plexes}
use Rattle.vx_stage_mirrors.proofs.parking.park.Goals as goal

pub returns-then-not-have_disks-clause-lies : goal.returns-then-not-have_disks-clause-lies
returns-then-not-have_disks-clause-lies g c = lies_same g.P.Piece.seen c.args.group.now _ (same_config c.args.group.now.config _)

pub numbers_of-requires-clause-own : goal.numbers_of-requires-clause-own
numbers_of-requires-clause-own g c κs within =
    subst (HaveOwnNumbers g.P.Piece.seen) (sym c.disks-2.ensures) (own_by g.P.Piece.seen c.args.group.now c.requires.kept)

pub returns-in_err-numbers-clause-lies : goal.returns-in_err-numbers-clause-lies
returns-in_err-numbers-clause-lies g c = lies_same g.P.Piece.seen c.args.group.now _ (same_config c.args.group.now.config _)

pub layout_of-requires : goal.layout_of-requires
layout_of-requires g c = is_plex c.args.group.now c.requires.kept c.args.name.now c.args.planned.now c.requires.addition

pub returns-in_err-layout-clause-lies : goal.returns-in_err-layout-clause-lies
returns-in_err-layout-clause-lies g c = lies_same g.P.Piece.seen c.args.group.now _ (same_config c.args.group.now.config _)

pub returns-in_err-room-clause-lies : goal.returns-in_err-room-clause-lies
returns-in_err-room-clause-lies g c = lies_same g.P.Piece.seen c.args.group.now _ (same_config c.args.group.now.config _)

pub park_plex-requires-clause-inside : goal.park_plex-requires-clause-inside
park_plex-requires-clause-inside g c κs within =
    let all : have_disks c.args.group.now.base.disks.items c.good.result c.args.group.now.config.disks ≡ true = search rules in
    let found = subst (λ n. have_disks c.args.group.now.base.disks.items n c.args.group.now.config.disks ≡ true) c.good.ensures.just all in
    let are = numbers_are g.P.Piece.seen c.args.group.now c.disks-2.result.now c.in_ok-numbers.numbers.items c.deref.result.now c.disks-2.ensures c.deref.ensures.value c.in_ok-numbers.ensures in
    let lay : IsLayoutOf c.args.planned.now.next.config c.args.planned.now.plex c.in_ok-layout.layout = record { unit = c.in_ok-layout.ensures.unit; columns = c.in_ok-layout.ensures.columns } in
    inside_by c.args.group.now c.requires.kept c.args.name.now c.args.planned.now c.requires.addition c.requires.ready c.requires.held found c.deref.result.now are c.in_ok-layout.layout lay held_taken
    c.geometry_of-geometry.result c.geometry_of-geometry.ensures

pub park_plex-requires-clause-plexes : goal.park_plex-requires-clause-plexes
park_plex-requires-clause-plexes g c κs within =
    let all : have_disks c.args.group.now.base.disks.items c.good.result c.args.group.now.config.disks ≡ true = search rules in
    let found = subst (λ n. have_disks c.args.group.now.base.disks.items n c.args.group.now.config.disks ≡ true) c.good.ensures.just all in
    let are = numbers_are g.P.Piece.seen c.args.group.now c.disks-2.result.now c.in_ok-numbers.numbers.items c.deref.result.now c.disks-2.ensures c.deref.ensures.value c.in_ok-numbers.ensures in
    let lay : IsLayoutOf c.args.planned.now.next.config c.args.planned.now.plex c.in_ok-layout.layout = record { unit = c.in_ok-layout.ensures.unit; columns = c.in_ok-layout.ensures.columns } in
    plexes c.args.group.now c.requires.kept c.args.name.now c.args.planned.now c.requires.addition c.requires.ready c.requires.held found c.deref.result.now are c.in_ok-layout.layout lay held_taken

pub park_plex-requires-clause-once : goal.park_plex-requires-clause-once
park_plex-requires-clause-once g c κs within = pool_once g.P.Piece.seen c.args.group.now c.requires.kept

pub park_plex-requires-clause-free : goal.park_plex-requires-clause-free
park_plex-requires-clause-free g c κs within =
    let all : have_disks c.args.group.now.base.disks.items c.good.result c.args.group.now.config.disks ≡ true = search rules in
    let found = subst (λ n. have_disks c.args.group.now.base.disks.items n c.args.group.now.config.disks ≡ true) c.good.ensures.just all in
    let are = numbers_are g.P.Piece.seen c.args.group.now c.disks-2.result.now c.in_ok-numbers.numbers.items c.deref.result.now c.disks-2.ensures c.deref.ensures.value c.in_ok-numbers.ensures in
    let lay : IsLayoutOf c.args.planned.now.next.config c.args.planned.now.plex c.in_ok-layout.layout = record { unit = c.in_ok-layout.ensures.unit; columns = c.in_ok-layout.ensures.columns } in
    free c.args.group.now c.requires.kept c.args.name.now c.args.planned.now c.requires.addition c.requires.ready c.requires.held found c.deref.result.now are c.in_ok-layout.layout lay
    (new_free g.P.Piece.seen c.args.group.now)

pub returns-in_err-park_plex-clause-lies : goal.returns-in_err-park_plex-clause-lies
returns-in_err-park_plex-clause-lies g c =
    lies_with g.P.Piece.seen c.args.group.now _ (same_config c.args.group.now.config _) c.park_plex.new.public c.in_err-park_plex.ensures.running c.in_err-park_plex.ensures.stuck c.in_err-park_plex.ensures.still

pub returns-clause-parked : goal.returns-clause-parked
returns-clause-parked g c =
    let all : have_disks c.args.group.now.base.disks.items c.good.result c.args.group.now.config.disks ≡ true = search rules in
    let found = subst (λ n. have_disks c.args.group.now.base.disks.items n c.args.group.now.config.disks ≡ true) c.good.ensures.just all in
    let are = numbers_are g.P.Piece.seen c.args.group.now c.disks-2.result.now c.in_ok-numbers.numbers.items c.deref.result.now c.disks-2.ensures c.deref.ensures.value c.in_ok-numbers.ensures in
    let lay : IsLayoutOf c.args.planned.now.next.config c.args.planned.now.plex c.in_ok-layout.layout = record { unit = c.in_ok-layout.ensures.unit; columns = c.in_ok-layout.ensures.columns } in
    parked_for c.args.group.now c.requires.kept c.args.name.now c.args.planned.now c.requires.addition c.requires.ready c.requires.held found c.deref.result.now are c.in_ok-layout.layout lay
    _ c.in_ok-room.room c.geometry_of-geometry.result c.geometry_of-geometry.ensures c.in_ok-park_plex.ensures.parked c.in_ok-room.ensures.items (search rules)

pub returns-clause-lies : goal.returns-clause-lies
returns-clause-lies g c =
    lies_with g.P.Piece.seen c.args.group.now _ (same_config c.args.group.now.config _) c.park_plex.new.public c.in_ok-park_plex.ensures.running c.in_ok-park_plex.ensures.stuck c.in_ok-park_plex.ensures.still
