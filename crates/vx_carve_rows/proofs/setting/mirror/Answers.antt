use Rattle.std.proofs.Common.{rules, ◌≡◌, ◌∷◌, [], List, sym, subst}
use Rattle.vx_layout.specs.declared.layout.Layout.{Layout}
use Rattle.vx_carve_rows.specs.Setting.{AreSetOut}
use Rattle.vx_carve_rows.proofs.Disks.{set_two}
use Rattle.vx_carve_rows.proofs.setting.mirror.Goals as goal

pub invariant_of-result-clause-set_out : goal.invariant_of-result-clause-set_out
invariant_of-result-clause-set_out c =
    let first = c.requires.first in
    let second = c.requires.second in
    let here : c.in_ok-first.first.columns ≡ c.args.first.now ∷ [] = search rules in
    let there : c.in_ok-second.second.columns ≡ c.args.second.now ∷ [] = search rules in
    let items : c.in_ok-layouts.layouts.items ≡ c.in_ok-first.first ∷ c.in_ok-second.second ∷ [] = search rules in
    let out : AreSetOut c.args.sectors c.args.geometry.length (c.in_ok-first.first ∷ c.in_ok-second.second ∷ []) =
    set_two c.args.sectors c.args.geometry.length c.in_ok-first.first c.in_ok-second.second (c.args.first.now ∷ []) (c.args.second.now ∷ []) here there first.inside second.inside first.holds second.holds c.requires.apart c.requires.apart_too in
    subst (λ (ls : List Layout). AreSetOut c.args.sectors c.args.geometry.length ls) (sym items) out
