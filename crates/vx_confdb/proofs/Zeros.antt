-- A text with the zeros behind it.
use Rattle.std.proofs.Common.{◌≡◌, ℕ, ◌+◌, ◌-◌, ◌*◌, ◌≤◌, List, ◌++◌, length, map, take, replicate, Result, arith, sym, ◌∙◌, ap, subst}
use Rattle.std.proofs.lemmas.List.{take_at, take-replicate, length-append}
use Rattle.vx_piece.specs.Seen.{Seen}
use Rattle.vx_copies.specs.Image.{sectors_for, filled}
use Rattle.vx_sector.specs.Fields.{zeros}
use Rattle.vx_copies.specs.Disks.{disk_seen}
use Rattle.vx_copies.specs.declared.disk.Disk.{Disk}
use Rattle.vx_copies.specs.declared.writing.Lost.{Lost}
use Rattle.vx_confdb.specs.Carried.{IsCarried}
use Rattle.vx_copies.specs.Pass.{IsPadded}

-- the first of some zeros
pub first_zeros : (m n : ℕ) → m ≤ n → take m (replicate n 0) ≡ zeros m
unfolding zeros
first_zeros m n le = take-replicate m n 0 le

module _ (text pad out : List ℕ) (n : ℕ) (is : out ≡ text ++ pad) (rest : length pad ≡ 512 * n - length text) (enough : length text ≤ 512 * n) where
  pub front : take (length text) out ≡ text
  front = ap (take (length text)) is ∙ take_at text pad (length text) (omega arith)

  size : length out ≡ 512 * n
  size = let e : length out ≡ length text + length pad = ap (λ (xs : List ℕ). length xs) is ∙ length-append text pad in omega (arith, e, rest, enough)

  pub long : length text ≤ length out
  long = omega (arith, size, enough)

  pub padded_is : pad ≡ zeros (512 * n - length text) → n ≡ sectors_for (length text) → length text ≤ 522240 → IsPadded (take (length text) out) out
  padded_is blank sectors fits =
      let same : length (take (length text) out) ≡ length text = ap (λ (xs : List ℕ). length xs) front in
      record {
        front = ap (λ (k : ℕ). take k out) same;
        size = size ∙ ap (λ (k : ℕ). 512 * k) sectors ∙ ap (λ (k : ℕ). 512 * sectors_for k) (sym same);
        zeros = is ∙ ap (λ p. text ++ p) blank ∙ ap (λ (k : ℕ). text ++ zeros (512 * k - length text)) sectors ∙ ap filled (sym front);
        fits = omega (arith, same, fits);
      }

-- what is carried for equal disks and texts
pub carried_in : {P : Type 0} (see : P → Seen) (r : Result (Unit {0}) Lost) (carriers before now : ℕ) (told text : List ℕ) (lent old out new : List (Disk P)) → told ≡ text → lent ≡ old → out ≡ new
    → IsCarried r carriers before now told (map (disk_seen see) lent) (map (disk_seen see) out) → IsCarried r carriers before now text (map (disk_seen see) old) (map (disk_seen see) new)
carried_in see r carriers before now told text lent old out new e f h is =
    subst (λ x. IsCarried r carriers before now text (map (disk_seen see) old) (map (disk_seen see) x)) h
    (subst (λ x. IsCarried r carriers before now text (map (disk_seen see) x) (map (disk_seen see) out)) f
    (subst (λ x. IsCarried r carriers before now x (map (disk_seen see) lent) (map (disk_seen see) out)) e is))
