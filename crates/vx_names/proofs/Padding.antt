use Rattle.std.proofs.Common.{◌≡◌, ℕ, ◌-◌, ◌≤◌, true, List, ◌++◌, length, drop, replicate, refl, arith, length-append}
use Rattle.std.proofs.lemmas.List.{drop_at, take_at, drop-replicate, length-drop}
use Rattle.vx_names.specs.Form.{is_name}
use Rattle.vx_names.specs.Inside.{IsPadded}

pub padded_word : (word : List ℕ) → length word ≤ 31 → is_name word ≡ true → IsPadded (record { bytes = word ++ drop (length word) (replicate 31 0); len = length word })
padded_word word short named =
    let there : length (drop (length word) (replicate {A = ℕ} 31 0)) ≡ 31 - length word = length-drop {A = ℕ} (length word) (replicate 31 0) in
    record {
      size = omega (arith, length-append word (drop (length word) (replicate 31 0)), there);
      short = short;
      zeros = rw (drop_at word (drop (length word) (replicate 31 0)) (length word) refl) (drop-replicate (length word) 31 0);
      named = rw (take_at word (drop (length word) (replicate 31 0)) (length word) refl) named;
    }
