use Rattle.std.proofs.Common.{◌≡◌, ◌∙◌, ℕ, List, [], ◌∷◌, length, map, replicate, refl, ap}
use Rattle.vx_stage_mirrors.proofs.relogging.relog_form.Goals as goal

-- as many zeros as there are items
all_zero : (xs : List ℕ) → replicate {A = ℕ} (length xs) 0 ≡ map (λ (x : ℕ). 0) xs
all_zero [] = refl
all_zero (x ∷ xs) = ap (λ ys. 0 ∷ ys) (all_zero xs)

pub returns : goal.returns
returns c = record {
  shape = ap (λ n. record c.args.form.now.shape { on = n; off = 0; snaps = 0 }) c.of.ensures;
  maps = c.fill.ensures.items (λ y e. e) ∙ ap (λ n. replicate n 0) c.args.form.now.maps.ok.0 ∙ all_zero c.args.form.now.maps.items;
  layouts = refl;
  logs_are = refl;
}
