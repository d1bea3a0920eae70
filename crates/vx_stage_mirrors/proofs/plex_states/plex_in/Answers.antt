use Rattle.std.proofs.Common.{rules, tests, ◌≡◌, ◌∙◌, Some, List, [], ◌∷◌, cond, refl, ap}
use Rattle.std.specs.List.{find}
use Rattle.std.specs.Str.{bytes_eq}
use Rattle.std.proofs.lemmas.Iterator.{YieldsList-from_slice}
use Rattle.std.proofs.lemmas.Iterator.Search.{find_from_yields_List}
use Rattle.vx_base.specs.Named.{Word}
use Rattle.vx_config_parts.specs.declared.plex.Plex.{Plex}
use Rattle.vx_stages.specs.Plexes.{plex_in}
use Rattle.vx_stage_mirrors.proofs.plex_states.plex_in.Goals as goal

found : (name : Word) (ps : List Plex) → find (λ (p : Plex). bytes_eq p.name name) ps ≡ plex_in name ps
found name [] = refl
found name (p ∷ ps) = ap (cond (bytes_eq p.name name) (Some p)) (found name ps)

pub returns : goal.returns
returns c =
    c.copied.ensures
    ∙ find_from_yields_List (λ (p : Plex). bytes_eq p.name c.args.name.now) _ _ _ c.find.ensures.ran (YieldsList-from_slice c.args.plexes.now cc) (λ x b q k. search (rules, tests))
    ∙ found c.args.name.now c.args.plexes.now
