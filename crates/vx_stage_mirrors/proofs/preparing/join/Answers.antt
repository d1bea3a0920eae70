-- The log that was left over last is that of the volume.
use Rattle.std.proofs.Common.{◌∙◌, ◌++◌, refl, sym, ap, subst}
use Rattle.std.specs.Prelude.{IsSomeAnd}
use Rattle.std.specs.BTreeMap.{get}
use Rattle.std.specs.Cmp.Lexicographic.{slice_cmp}
use Rattle.std.specs.Ordering.{nat_cmp}
use Rattle.vx_carve.specs.Together.{SameSectors}
use Rattle.vx_lending.specs.Logs.{log_pieces}
use Rattle.vx_lending.specs.Public.{still_pieces}
use Rattle.vx_volume.specs.declared.log.VolumeLog.TheVariants.{Maps}
use Rattle.vx_stage_mirrors.proofs.Entries.{public_but}
use Rattle.vx_stage_mirrors.specs.Relogging.{IsUnlogged, MayRelog}
use Rattle.vx_stage_mirrors.proofs.Relogs.{may_relog, of_found, relogs_in}
use Rattle.vx_stage_mirrors.proofs.preparing.join.Goals as goal

pub relog-requires-clause-may : goal.relog-requires-clause-may
relog-requires-clause-may g c κs within =
    let see = g.P.Piece.seen in
    let group = c.args.group.now in
    let mid = c.take_log-store.new.public in
    let store = c.take_log-store.result in
    subst (λ m. IsSomeAnd (get (slice_cmp nat_cmp) m c.args.name.now) (MayRelog see (Maps store))) (sym c.take_log-store.ensures.running)
    (may_relog see group.public.left.items mid.left.items store (get (slice_cmp nat_cmp) group.public.running c.args.name.now) c.requires.left c.take_log-store.ensures.taken c.requires.may)

pub returns : goal.returns
returns g c =
    let see = g.P.Piece.seen in
    let group = c.args.group.now in
    let mid = c.take_log-store.new.public in
    let store = c.take_log-store.result in
    let new = record group { public = record mid { running = c.relog.new.running } } in
    let relogs = c.relog.ensures.relogs in
    let was = ap (λ m. get (slice_cmp nat_cmp) m c.args.name.now) (sym c.take_log-store.ensures.running) ∙ relogs.was in
    let none : IsUnlogged relogs.before = of_found see IsUnlogged (get (slice_cmp nat_cmp) group.public.running c.args.name.now) relogs.before was c.requires.none in
    record {
      joined = record {
        store = store;
        taken = c.take_log-store.ensures.taken;
        relogs = relogs_in see c.args.name.now (Maps store) c.args.logs.items mid.running c.relog.new.running relogs c.args.logs.items group new c.take_log-store.ensures.running refl refl
            (subst (λ l. SameSectors (log_pieces see l ++ still_pieces see group.public) (log_pieces see (Maps store) ++ still_pieces see mid)) (sym none) c.take_log-store.ensures.still)
            (ap (λ p. record group { public = p }) (public_but group.public mid.pool mid.left c.relog.new.running mid.stuck c.take_log-store.ensures.pool c.take_log-store.ensures.stuck));
      };
    }
