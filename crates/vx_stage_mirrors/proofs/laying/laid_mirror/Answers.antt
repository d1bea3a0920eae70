use Rattle.std.proofs.Common.{subst}
use Rattle.std.proofs.lemmas.Result.{IfErr-weaker}
use Rattle.vx_stages.specs.Mirroring.{HasNoRecords, IsMirrorUnlaid, RefusedFor}
use Rattle.vx_stage_mirrors.specs.Planned.{EndsAs}
use Rattle.vx_stage_mirrors.proofs.Mirrors.{asked_by, can_ask, no_records}
use Rattle.vx_stage_mirrors.proofs.laying.laid_mirror.Goals as goal

pub plan_of-requires : goal.plan_of-requires
plan_of-requires c =
    let asked = asked_by c.args.config.now c.args.vol.now c.args.disks.now c.in-Ok.group.items c.deref.result.now c.deref-2.result.now c.lowest_plex.result c.unwrap-lowest.result c.in-Ok-mirror_request.request
    c.in-Ok.ensures c.deref.ensures.value c.deref-2.ensures.value c.lowest_plex.ensures c.unwrap-lowest.ensures c.in-Ok-mirror_request.ensures in
    can_ask c.args.config.now c.args.good c.args.vol.now c.args.disks.now c.in-Ok.group.items c.unwrap-lowest.result c.in-Ok-mirror_request.request asked c.each_mirror_can_be_asked_for.ensures c.requires.recorded

pub returns-clause-unlaid : goal.returns-clause-unlaid
returns-clause-unlaid c =
    let config = c.args.config.now in
    let vol = c.args.vol.now in
    let disks = c.args.disks.now in
    let lowest = c.unwrap-lowest.result in
    let plan = c.in_ok-plan.plan in
    let asked = asked_by config vol disks c.in-Ok.group.items c.deref.result.now c.deref-2.result.now c.lowest_plex.result lowest c.in-Ok-mirror_request.request
    c.in-Ok.ensures c.deref.ensures.value c.deref-2.ensures.value c.lowest_plex.ensures c.unwrap-lowest.ensures c.in-Ok-mirror_request.ensures in
    IfErr-weaker c.recorded.result (EndsAs (RefusedFor (HasNoRecords c.deref-3.result.now vol lowest plan))) (EndsAs (RefusedFor (IsMirrorUnlaid config c.args.good vol disks)))
    (λ stop why. no_records config c.args.good vol disks c.in-Ok.group.items lowest c.in-Ok-mirror_request.request asked plan c.in_ok-plan.ensures.planned stop
    (subst (λ os. EndsAs (RefusedFor (HasNoRecords os vol lowest plan)) stop) c.deref-3.ensures.value why)) c.recorded.ensures.unrecorded
