use Rattle.std.proofs.Common.{subst, length, get_or, ◌<◌, ◌≡◌}
use Rattle.vx_image.proofs.PlexMembers.{plex_is_of}
use Rattle.vx_config_rows.proofs.lies.lies.Goals as goal

pub layout_of-requires : goal.layout_of-requires
layout_of-requires c =
    let index = c.loop-index.index in
    let plex = c.index-plexes-index.result in
    let inside = subst (λ plexes. index < length plexes) c.as_slice-plexes.ensures c.loop-index-test.true in
    let is = subst (λ plexes. plex ≡ get_or plexes index plex) c.as_slice-plexes.ensures c.index-plexes-index.is in
    plex_is_of c.args.config.now index plex plex inside is
