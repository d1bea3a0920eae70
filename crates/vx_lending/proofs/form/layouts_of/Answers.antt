use Rattle.std.proofs.Common.{◌≡◌, ◌∙◌, ◌++◌, ◌∷◌, [], take, sym, subst, ap, ◌+◌}
use Rattle.std.proofs.lemmas.List.{take_more}
use Rattle.vx_lending.specs.Form.{AreLayouts, IsLayoutOf}
use Rattle.vx_lending.proofs.Zips.{zip_push}
use Rattle.vx_lending.proofs.form.layouts_of.Goals as goal

pub loop-plex-preserved : goal.loop-plex-preserved
loop-plex-preserved c =
    let config = c.args.config.now in
    let plexes = c.args.plexes.now in
    let i = c.loop-plex.plex-index in
    let item = c.plex-item.result in
    let more : take (i + 1) plexes ≡ take i plexes ++ item ∷ [] = take_more plexes i item c.loop-plex-test.true ∙ ap (λ p. take i plexes ++ p ∷ []) (sym c.plex-item.is) in
    subst (λ ps. AreLayouts config ps c.push.new.self.items) (sym more)
    (subst (λ ls. AreLayouts config (take i plexes ++ item ∷ []) ls) (sym c.in_ok-push.ensures.items)
    (zip_push (IsLayoutOf config) (take i plexes) c.loop-plex.layouts.items item c.in_ok-layout.layout c.loop-plex.invariant (record { unit = c.in_ok-layout.ensures.unit; columns = c.in_ok-layout.ensures.columns })))
