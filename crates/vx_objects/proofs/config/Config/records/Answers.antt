use Rattle.std.proofs.Common.{◌≡◌, ◌∙◌, true, List, sym, subst}
use Rattle.std.specs.List.{list_all}
use Rattle.vx_config_parts.specs.declared.object.Object.{Object}
use Rattle.vx_objects.specs.Printed.{has_record}
use Rattle.vx_objects.proofs.RoundTrip.{ok_back}
use Rattle.vx_objects.proofs.Numbers.{have_records}
use Rattle.vx_objects.proofs.config.Config.records.Goals as goal

pub records_of-requires : goal.records_of-requires
records_of-requires c =
    let config = c.args.self.now in
    subst (λ (xs : List Object). list_all has_record xs ≡ true) (sym (c.deref.ensures.value ∙ c.in_ok-all.ensures))
    (have_records config.group config.version config.disks config.subdisks config.plexes config.volumes config.dcos config.snaps config.valid)

pub returns-clause-back : goal.returns-clause-back
returns-clause-back c = ok_back c.records_of.result c.args.self.now c.in_ok-all.all.items c.deref.result.now c.deref.ensures.value c.in_ok-all.ensures c.records_of.ensures
