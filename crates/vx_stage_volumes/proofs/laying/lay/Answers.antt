use Rattle.std.proofs.Common.{◌≡◌, ◌∙◌, Some, None, refl, sym, ap, subst}
use Rattle.std.specs.BTreeMap.{get, is_at}
use Rattle.std.specs.Cmp.Lexicographic.{slice_cmp}
use Rattle.std.specs.Map.{lookup}
use Rattle.std.specs.Ordering.{nat_cmp}
use Rattle.vx_carve.proofs.Same.{same_trans}
use Rattle.vx_group_start.specs.Laying.{AreRunningVolumes}
use Rattle.vx_stage_volumes.proofs.Laid.{one_out, puts_as, volumes_left}
use Rattle.vx_stage_volumes.proofs.laying.lay.Goals as goal

pub put_back-requires-clause-whole : goal.put_back-requires-clause-whole
put_back-requires-clause-whole g c κs within =
    let found : lookup (is_at (slice_cmp nat_cmp c.args.name.now)) c.args.public.now.running.entries ≡ Some c.in-Some.running = sym c.remove.ensures.value ∙ c.in-Some.is in
    (volumes_left g.P.Piece.seen c.args.public.now (record c.args.public.now { running = c.remove.new.self }) (is_at (slice_cmp nat_cmp c.args.name.now)) c.in-Some.running found c.remove.ensures.entries c.requires.volumes).1

pub returns : goal.returns
returns g c =
    let found : lookup (is_at (slice_cmp nat_cmp c.args.name.now)) c.args.public.now.running.entries ≡ Some c.in-Some.running = sym c.remove.ensures.value ∙ c.in-Some.is in
    let mid = record c.args.public.now { running = c.remove.new.self } in
    record {
      laid = record {
        entries = ap (λ m. m.entries) c.put_back.ensures.running ∙ c.remove.ensures.entries;
        puts = λ q. ap (λ m. get (slice_cmp nat_cmp) m q) c.put_back.ensures.running ∙ puts_as c.args.public.now.running c.remove.new.self c.args.name.now None c.remove.ensures.updates.0 q;
        together = same_trans _ _ _ (one_out g.P.Piece.seen c.args.public.now mid (is_at (slice_cmp nat_cmp c.args.name.now)) c.in-Some.running found c.remove.ensures.entries refl refl) c.put_back.ensures.together;
        volumes = subst (λ m. AreRunningVolumes g.P.Piece.seen m.entries) (sym c.put_back.ensures.running)
            (volumes_left g.P.Piece.seen c.args.public.now mid (is_at (slice_cmp nat_cmp c.args.name.now)) c.in-Some.running found c.remove.ensures.entries c.requires.volumes).0;
        stuck = c.put_back.ensures.stuck;
      };
    }
