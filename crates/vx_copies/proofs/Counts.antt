-- How many sectors a write hands to a piece.
use Rattle.std.proofs.Common.{◌≡◌, ℕ, suc, ◌+◌, ◌-◌, ◌*◌, ◌≤◌, Bool, true, false, List, length, Result, Ok, Err, refl, ap, ◌∙◌, arith}
use Rattle.std.specs.Prelude.{IsTrue}
use Rattle.std.proofs.Math.Nat.{suc-mul}
use Rattle.vx_base.specs.Blocks.{blocks_in}
use Rattle.vx_base.specs.Counts.{later_count}
use Rattle.vx_piece.specs.Seen.{Seen, IsOff, count_after}
use Rattle.vx_piece.specs.declared.piece.PieceFault.{PieceFault}
use Rattle.vx_copies.specs.Image.{sectors_for}
use Rattle.vx_copies.specs.Pass.{IsPadded}

pub half_sectors : (text padded : List ℕ) → IsPadded text padded → blocks_in padded ≡ sectors_for (length text)
half_sectors text padded fills = omega (arith, fills.size)

pub one_block : (sector : List ℕ) → length sector ≡ 512 → blocks_in sector ≡ 1
one_block sector size = omega (arith, size)

-- a call that is answered Ok had power
pub ok_not_cut : {T : Type 0} (old new : Seen) (result : Result T PieceFault) (u : T) → result ≡ Ok u → (IsTrue old.cut → IsOff old new result) → old.cut ≡ false
ok_not_cut old new (Ok v) u is off = by old.cut refl
  where
    by : (b : Bool) → old.cut ≡ b → b ≡ false
    by true e = let bad = (off e).answer in cc
    by false e = refl
ok_not_cut old new (Err f) u is off = cc

pub most_writes : (cut : Bool) (before now : ℕ) (bytes : List ℕ) (n : ℕ) → blocks_in bytes ≡ n → now ≡ count_after cut before bytes → now ≤ before + n
most_writes true before now bytes n size is = omega (arith, is)
most_writes false before now bytes n size is = omega (arith, is, size)

pub just_writes : (cut : Bool) (before now : ℕ) (bytes : List ℕ) (n : ℕ) → blocks_in bytes ≡ n → cut ≡ false → now ≡ count_after cut before bytes → now ≡ later_count before n
just_writes true before now bytes n size e is = cc
just_writes false before now bytes n size e is = is ∙ ap (later_count before) size

-- one attempt more, of so many sectors each
pub more_calls : (a b c f l k : ℕ) → f ≤ l + 1 → b ≤ a + (l + 1 - f) * k → c ≤ b + (l + 1 + 1 - (l + 1)) * k → c ≤ a + (l + 1 + 1 - f) * k
more_calls a b c f l k le first next =
    let one : l + 1 + 1 - (l + 1) ≡ 1 = omega arith in
    let last : (l + 1 + 1 - (l + 1)) * k ≡ k = ap (λ n. n * k) one ∙ (let e : 1 * k ≡ k = omega arith in e) in
    let rest : l + 1 + 1 - f ≡ suc (l + 1 - f) = omega (arith, le) in
    let all : (l + 1 + 1 - f) * k ≡ (l + 1 - f) * k + k = ap (λ n. n * k) rest ∙ suc-mul (l + 1 - f) k in
    omega (arith, first, next, last, all)
