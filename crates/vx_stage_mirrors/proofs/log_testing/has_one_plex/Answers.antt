use Rattle.std.proofs.Common.{ap, rules, tests}
use Rattle.std.specs.Prelude.{nat_eq}
use Rattle.std.proofs.lemmas.Iterator.{YieldsList-from_slice}
use Rattle.std.proofs.lemmas.Iterator.Consumers.{YieldsList-from_filter, count_from_yields_List}
use Rattle.vx_config_parts.specs.Objects.{is_data_plex_of}
use Rattle.vx_stage_mirrors.proofs.log_testing.has_one_plex.Goals as goal

pub returns : goal.returns
returns c =
    ap (λ n. nat_eq n 1)
    (count_from_yields_List c.filter.result c.count.result c.count.ensures.ran
    (YieldsList-from_filter _ (is_data_plex_of c.args.vol.now) (YieldsList-from_slice c.args.plexes.now cc) c.filter.ensures.closure (λ x b q k. search (rules, tests))))
