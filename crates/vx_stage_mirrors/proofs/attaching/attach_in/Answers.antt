use Rattle.std.proofs.Common.{rules, ◌≡◌, ◌∙◌, true, ap, subst, sym}
use Rattle.std.specs.Prelude.{IsSomeAnd}
use Rattle.std.proofs.lemmas.Result.{err_from_is_err_and}
use Rattle.vx_image.specs.Bytes.{map_or_zero}
use Rattle.vx_mask.specs.Mask.{only}
use Rattle.vx_lending.specs.Public.{running_at}
use Rattle.vx_stage_mirrors.specs.Copying.{CopiesIn}
use Rattle.vx_stage_mirrors.specs.LogEnding.{is_running}
use Rattle.vx_stage_mirrors.specs.Switching.{MaySwitch, SwitchesIn}
use Rattle.vx_stage_mirrors.proofs.AttachFacts.{may_switch}
use Rattle.vx_stage_mirrors.proofs.AttachSteps.{ends_attached, ends_unrecorded, may_attach}
use Rattle.vx_stage_mirrors.proofs.SwitchPieces.{whole_switched}
use Rattle.vx_stage_mirrors.proofs.attaching.attach_in.Goals as goal

pub switch_plex-requires-clause-may : goal.switch_plex-requires-clause-may
switch_plex-requires-clause-may g c κs within =
    let see = g.P.Piece.seen in
    let group = c.args.group.now in
    let runs_is : c.contains_key-runs.result ≡ is_running group c.args.vol.now = search rules in
    subst (λ m. IsSomeAnd (running_at group.public c.args.vol.now) (MaySwitch see m true)) (sym c.map_or_zero-map.ensures)
    (may_switch see group c.requires.kept c.args.vol.now c.args.name.now c.in_ok-volume.volume c.in_ok-volume.plex
    (may_attach see group c.args.vol.now c.args.name.now c.contains_key-runs.result runs_is c.good.result c.good.ensures.just c.in_ok-volume.volume c.in_ok-volume.ensures.found c.in_ok-volume.plex c.in_ok-volume.ensures.plex c.in_ok-volume.ensures.passes))

pub returns-in_err-switch_plex : goal.returns-in_err-switch_plex
returns-in_err-switch_plex g c =
    let see = g.P.Piece.seen in
    let group = c.args.group.now in
    let runs_is : c.contains_key-runs.result ≡ is_running group c.args.vol.now = search rules in
    let p = err_from_is_err_and c.from_residual-in_err-switch_plex.result c.from_residual-in_err-switch_plex.ensures.1 in
    record {
      ends = rw (p.1, p.2)
          (ends_unrecorded see group c.args.vol.now c.args.name.now c.contains_key-runs.result runs_is c.good.result c.good.ensures.just c.in_ok-volume.volume c.in_ok-volume.ensures.found c.in_ok-volume.plex c.in_ok-volume.ensures.plex c.in_ok-volume.ensures.passes
          c.in_ok-next.next c.in_ok-next.ensures.planned c.in_err-switch_plex.field-0.0 c.switch_plex.new.group c.in_err-switch_plex.ensures.ends);
    }

pub copy_plexes-requires-clause-whole : goal.copy_plexes-requires-clause-whole
copy_plexes-requires-clause-whole g c κs within =
    whole_switched g.P.Piece.seen c.args.group.now c.switch_plex.new.group c.requires.kept.whole c.args.vol.now c.map_or_zero-map.result true c.in_ok-next.next c.in_ok-switch_plex.ensures.ends

pub returns : goal.returns
returns g c =
    let see = g.P.Piece.seen in
    let group = c.args.group.now in
    let vol = c.args.vol.now in
    let runs_is : c.contains_key-runs.result ≡ is_running group vol = search rules in
    let wide : c.from.result ≡ c.map_or_zero-map.result = search rules in
    let mask_is : c.of.result ≡ only (map_or_zero c.in_ok-volume.plex.map) = c.of.ensures ∙ ap only wide ∙ ap only c.map_or_zero-map.ensures in
    record {
      ends =
          ends_attached see group vol c.args.name.now c.contains_key-runs.result runs_is c.good.result c.good.ensures.just c.in_ok-volume.volume c.in_ok-volume.ensures.found c.in_ok-volume.plex c.in_ok-volume.ensures.plex c.in_ok-volume.ensures.passes
          c.in_ok-next.next c.in_ok-next.ensures.planned c.copy_plexes.result c.switch_plex.new.group c.copy_plexes.new.group
          (subst (λ m. SwitchesIn see vol m true c.in_ok-next.next group c.switch_plex.new.group) c.map_or_zero-map.ensures c.in_ok-switch_plex.ensures.ends)
          (subst (λ m. CopiesIn see vol m c.copy_plexes.result c.switch_plex.new.group c.copy_plexes.new.group) mask_is c.copy_plexes.ensures);
    }
