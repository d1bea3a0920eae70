-- A name is kept in 31 bytes, with zeros behind it.
use Rattle.std.specs.Prelude.{◌≡◌, IsTrue, ℕ, ◌-◌, ◌≤◌, List, ◌++◌, length, take, drop, replicate}
use Rattle.std.proofs.Common.{arith}
use Rattle.std.proofs.lemmas.List.{length-take-le, take-append-drop}
use Rattle.vx_names.specs.Form.{is_name}
use Rattle.vx_names.specs.declared.name.Name.TheInside.{Inside}

abbrev pub name_bytes : Inside → List ℕ
name_bytes n = take n.len n.bytes

pub record IsPadded (n : Inside) : Type 0 where
  pub size : length n.bytes ≡ 31
  pub short : n.len ≤ 31
  pub zeros : drop n.len n.bytes ≡ replicate (31 - n.len) 0
  pub named : IsTrue (is_name (name_bytes n))

abbrev pub padded : List ℕ → Inside
padded bs = record { bytes = bs ++ replicate (31 - length bs) 0; len = length bs }

inside : (b c : List ℕ) (l m : ℕ) → b ≡ c → l ≡ m → (let x : Inside = record { bytes = b; len = l } in x) ≡ (record { bytes = c; len = m })
inside b c l m p q = λ i. record { bytes = p i; len = q i }

pub padded-name_bytes : (n : Inside) → IsPadded n → padded (name_bytes n) ≡ n
padded-name_bytes n h =
    let short : n.len ≤ length n.bytes = omega (arith, h.size, h.short) in
    let same : length (take n.len n.bytes) ≡ n.len = length-take-le n.len n.bytes short in
    inside _ _ _ _ (rw (same, ← h.zeros) (take-append-drop n.len n.bytes)) same
