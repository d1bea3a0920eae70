use Rattle.std.proofs.Common.{rules, ◌≡◌, ◌∙◌, ap, subst, inl, inr}
use Rattle.vx_mask.specs.Mask.{only}
use Rattle.std.proofs.lemmas.Result.{err_from_is_err_and}
use Rattle.vx_stage_mirrors.specs.Copying.{CopiesIn}
use Rattle.vx_stage_mirrors.proofs.Joins.{addition, alive, going, held, joins_then, kept_parked, marks_then, runs_joined, whole}
use Rattle.vx_stage_mirrors.proofs.mirroring.join.Goals as goal

pub park-requires-clause-addition : goal.park-requires-clause-addition
park-requires-clause-addition g c κs within = addition c.requires.alike c.args.name.now c.args.disks.now c.args.planned c.args.group.now c.requires.kept c.requires.planned c.requires.there

pub park-requires-clause-held : goal.park-requires-clause-held
park-requires-clause-held g c κs within = held c.requires.alike c.args.name.now c.args.disks.now c.args.planned c.args.group.now c.requires.kept c.requires.planned c.requires.there

pub mark_plex-requires-clause-kept : goal.mark_plex-requires-clause-kept
mark_plex-requires-clause-kept g c κs within =
    kept_parked c.requires.alike c.args.name.now c.args.disks.now c.args.planned c.args.group.now c.requires.kept c.requires.planned c.requires.there c.park.new.group
    (record { parked = c.in-Ok.parked; for_it = c.in-Ok.ensures.parked; lies = c.in-Ok.ensures.lies })

pub mark_plex-requires-clause-may : goal.mark_plex-requires-clause-may
mark_plex-requires-clause-may g c κs within =
    marks_then c.requires.alike c.args.name.now c.args.disks.now c.args.planned c.args.group.now c.requires.kept c.requires.planned c.requires.there c.park.new.group
    (record { parked = c.in-Ok.parked; for_it = c.in-Ok.ensures.parked; lies = c.in-Ok.ensures.lies })

pub returns-in_err-mark_plex : goal.returns-in_err-mark_plex
returns-in_err-mark_plex g c =
    let p = err_from_is_err_and c.from_residual.result c.from_residual.ensures.1 in
    record {
      ends = rw (p.1, p.2) (inr (inl (record {
        mid = c.park.new.group;
        parks = record { parked = c.in-Ok.parked; for_it = c.in-Ok.ensures.parked; lies = c.in-Ok.ensures.lies };
        marks = c.in_err-mark_plex.ensures.ends;
      })));
    }

pub join_plex-requires-clause-alive : goal.join_plex-requires-clause-alive
join_plex-requires-clause-alive g c κs within =
    alive c.requires.alike c.args.name.now c.args.disks.now c.args.planned c.args.group.now c.requires.kept c.requires.planned c.requires.there c.park.new.group
    (record { parked = c.in-Ok.parked; for_it = c.in-Ok.ensures.parked; lies = c.in-Ok.ensures.lies }) c.mark_plex.new.group c.in_ok-mark_plex.ensures.ends

pub join_plex-requires-clause-going : goal.join_plex-requires-clause-going
join_plex-requires-clause-going g c κs within =
    going c.requires.alike c.args.name.now c.args.disks.now c.args.planned c.args.group.now c.requires.kept c.requires.planned c.requires.there c.park.new.group
    (record { parked = c.in-Ok.parked; for_it = c.in-Ok.ensures.parked; lies = c.in-Ok.ensures.lies }) c.mark_plex.new.group c.in_ok-mark_plex.ensures.ends

pub join_plex-requires-clause-short : goal.join_plex-requires-clause-short
join_plex-requires-clause-short g c κs within = c.requires.planned.planned.next.1.1

pub join_plex-requires-clause-may : goal.join_plex-requires-clause-may
join_plex-requires-clause-may g c κs within =
    joins_then c.requires.alike c.args.name.now c.args.disks.now c.args.planned c.args.group.now c.requires.kept c.requires.planned c.requires.there c.park.new.group
    (record { parked = c.in-Ok.parked; for_it = c.in-Ok.ensures.parked; lies = c.in-Ok.ensures.lies }) c.mark_plex.new.group c.in_ok-mark_plex.ensures.ends

pub join_plex-requires-clause-none : goal.join_plex-requires-clause-none
join_plex-requires-clause-none g c κs within = c.in-Ok.ensures.parked.empty

pub returns-in_err-join_plex : goal.returns-in_err-join_plex
returns-in_err-join_plex g c =
    let p = err_from_is_err_and c.from_residual-in_err-join_plex.result c.from_residual-in_err-join_plex.ensures.1 in
    record {
      ends = rw (p.1, p.2) (inr (inr (inl (record {
        mid = c.park.new.group;
        parks = record { parked = c.in-Ok.parked; for_it = c.in-Ok.ensures.parked; lies = c.in-Ok.ensures.lies };
        marked = c.mark_plex.new.group;
        marks = c.in_ok-mark_plex.ensures.ends;
        ends = c.in_err-join_plex.ensures.ends;
      }))));
    }

pub copy_plexes-requires-clause-whole : goal.copy_plexes-requires-clause-whole
copy_plexes-requires-clause-whole g c κs within =
    whole c.requires.alike c.args.name.now c.args.disks.now c.args.planned c.args.group.now c.requires.kept c.requires.planned c.requires.there c.park.new.group
    (record { parked = c.in-Ok.parked; for_it = c.in-Ok.ensures.parked; lies = c.in-Ok.ensures.lies }) c.mark_plex.new.group c.in_ok-mark_plex.ensures.ends
    c.join_plex.new.group c.in_ok-join_plex.ensures.ends

pub copy_plexes-requires-clause-there : goal.copy_plexes-requires-clause-there
copy_plexes-requires-clause-there g c κs within =
    runs_joined c.requires.alike c.args.name.now c.args.disks.now c.args.planned c.args.group.now c.requires.kept c.requires.planned c.requires.there c.park.new.group
    (record { parked = c.in-Ok.parked; for_it = c.in-Ok.ensures.parked; lies = c.in-Ok.ensures.lies }) c.mark_plex.new.group c.in_ok-mark_plex.ensures.ends
    c.join_plex.new.group c.in_ok-join_plex.ensures.ends

pub returns : goal.returns
returns g c = let map_is : c.from.result ≡ c.args.planned.map = search rules in record {
  ends = inr (inr (inr (record {
    mid = c.park.new.group;
    parks = record { parked = c.in-Ok.parked; for_it = c.in-Ok.ensures.parked; lies = c.in-Ok.ensures.lies };
    marked = c.mark_plex.new.group;
    marks = c.in_ok-mark_plex.ensures.ends;
    joined = c.join_plex.new.group;
    joins = c.in_ok-join_plex.ensures.ends;
    copies = subst (λ m. CopiesIn g.P.Piece.seen c.args.name.now m c.copy_plexes.result c.join_plex.new.group c.copy_plexes.new.group) (c.of.ensures ∙ ap only map_is) c.copy_plexes.ensures;
  })));
}
