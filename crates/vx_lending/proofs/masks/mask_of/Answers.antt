use Rattle.std.proofs.Common.{◌≡◌, ◌∙◌, ◌<◌, ◌++◌, ◌∷◌, [], take, get_or, sym, ap, subst}
use Rattle.std.proofs.lemmas.List.{take_more}
use Rattle.vx_mask.specs.Mask.{only, union}
use Rattle.vx_lending.specs.Form.{IsMaskOf}
use Rattle.vx_lending.proofs.Unions.{mask_none, mask_push}
use Rattle.vx_lending.proofs.masks.mask_of.Goals as goal

pub loop-map-init : goal.loop-map-init
loop-map-init c = mask_none

pub loop-map-preserved : goal.loop-map-preserved
loop-map-preserved c =
    let maps = c.args.maps.now in
    let i = c.loop-map.map-index in
    let m = get_or maps i 0 in
    let low : m < 64 = c.requires i 0 c.loop-map-test.true in
    let is : c.with-mask.result ≡ union c.loop-map.mask (only m) = c.with-mask.ensures ∙ ap (union c.loop-map.mask) (c.of.ensures ∙ ap only c.from.ensures) in
    subst (λ ms. IsMaskOf ms c.with-mask.result) (sym (take_more maps i 0 c.loop-map-test.true))
    (subst (λ n. IsMaskOf (take i maps ++ m ∷ []) n) (sym is) (mask_push (take i maps) c.loop-map.mask m c.loop-map.invariant low))
