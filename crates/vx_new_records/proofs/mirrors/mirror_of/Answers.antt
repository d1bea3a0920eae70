use Rattle.std.proofs.Common.{rules}
use Rattle.vx_new_records.proofs.Behind.{no_plex_name, plex_is_named}
use Rattle.vx_new_records.proofs.mirrors.mirror_of.Goals as goal

pub returns-in_default : goal.returns-in_default
returns-in_default c =
    no_plex_name c.args.group.now c.args.vol.now c.args.lowest.now c.args.map c.args.plan.now c.in_ok-known.known.names.items (search rules) (search rules)

pub returns : goal.returns
returns c =
    rw (plex_is_named c.args.group.now c.args.vol.now c.args.lowest.now c.args.map c.args.plan.now c.in_ok-known.known.names.items (record { name = c.in-Some.next.name; number = c.in-Some.next.number }) c.mirror_plex-plex.result (search rules) (search rules) (search rules))
    (search rules)
