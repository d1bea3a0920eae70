-- Running volumes under their names, and what is beside them.
use Rattle.std.proofs.Common.{◌≡◌, ◌∙◌, cond, Some, ap}
use Rattle.std.specs.BTreeMap.{BTreeMap, get}
use Rattle.std.specs.Cmp.Lexicographic.{slice_cmp}
use Rattle.std.specs.Ordering.{nat_cmp, is_eq}
use Rattle.std.proofs.lemmas.Map.Text.{is_eq-slice_cmp}
use Rattle.std.specs.Global.{Vec}
use Rattle.vx_base.specs.Named.{Word, put, SameUnder}
use Rattle.vx_carve.specs.declared.pool.Pool.{Pool}
use Rattle.vx_pages.specs.declared.local_piece.LocalPiece.{Ghosts}
use Rattle.vx_lending.specs.declared.public.Public.{Public}
use Rattle.vx_lending.specs.declared.public.Remains.{Remains}
use Rattle.vx_lending.specs.declared.public.Running.{Running}

-- what stands under each name once one is put
pub puts_as : {X : Type 0} (old new : BTreeMap Word X) (key : Word) (x : X) → ((q : Word) → get (slice_cmp nat_cmp) new q ≡ cond (is_eq (slice_cmp nat_cmp key q)) (Some x) (get (slice_cmp nat_cmp) old q)) → SameUnder (put key (Some x) (get (slice_cmp nat_cmp) old)) (get (slice_cmp nat_cmp) new)
puts_as old new key x puts q = puts q ∙ ap (λ b. cond b (Some x) (get (slice_cmp nat_cmp) old q)) (is_eq-slice_cmp key q)

-- with the same pool and the same volumes that are stuck it is as it was, but for what is left over and what runs
pub public_but : {P : Type 0} {ghosts : Ghosts P} (old : Public P ghosts) (pool : Pool P) (left : Vec (Remains P ghosts)) (running : BTreeMap Word (Running P ghosts)) (stuck : Vec (Running P ghosts)) → pool ≡ old.pool → stuck ≡ old.stuck →
    (let p : Public P ghosts = record { pool = pool; left = left; running = running; stuck = stuck } in p) ≡ record old { left = left; running = running }
public_but old pool left running stuck same_pool same_stuck = λ i. record { pool = same_pool i; left = left; running = running; stuck = same_stuck i }
