-- The pages of a map lie in its slot.
use Rattle.std.proofs.Common.{◌≡◌, ℕ, ◌+◌, ◌*◌, ◌/◌, ◌<◌, arith, sym, ◌∙◌, ap}
use Rattle.std.proofs.Math.Nat.{mul_assoc, add-mul}
use Rattle.vx_mapfmt.specs.Sizes.{map_bytes_of, page_count}

unit_sectors : (n : ℕ) → n * 8192 / 512 ≡ n * 16
unit_sectors n = omega arith

-- so many slots, in sectors
pub slots_before : (k bytes units : ℕ) → bytes ≡ units * 8192 → k * (bytes / 512) ≡ k * bytes / 512
slots_before k bytes units e =
    ap (λ (n : ℕ). k * (n / 512)) e ∙ ap (λ (n : ℕ). k * n) (unit_sectors units) ∙ sym (mul_assoc k units 16)
    ∙ sym (unit_sectors (k * units)) ∙ ap (λ (n : ℕ). n / 512) (mul_assoc k units 8192) ∙ ap (λ (n : ℕ). k * n / 512) (sym e)

-- one slot more
one_more : (k n : ℕ) → (k + 1) * n ≡ k * n + n
one_more k n = let one : 1 * n ≡ n = omega arith in add-mul k 1 n ∙ ap (λ (m : ℕ). k * n + m) one

pub slot_after : (map bytes units : ℕ) → bytes ≡ units * 8192 → (3 + map) * (bytes / 512) + bytes / 512 ≡ (3 + (map + 1)) * bytes / 512
slot_after map bytes units e =
    let place : 3 + map + 1 ≡ 3 + (map + 1) = omega arith in
    sym (one_more (3 + map) (bytes / 512)) ∙ ap (λ (k : ℕ). k * (bytes / 512)) place ∙ slots_before (3 + (map + 1)) bytes units e

-- behind its first sector a slot has room for all pages
pub page_fits : (regions bytes page : ℕ) → bytes ≡ map_bytes_of regions → page < page_count regions → 1 + page < bytes / 512
page_fits regions bytes page e lt = omega arith

plain : (a p b c : ℕ) → 1 + p < b → a + b ≡ c → a + 1 + p < c
plain a p b c lt e = omega arith

pub page_in_slot : (regions bytes map page units : ℕ) → bytes ≡ map_bytes_of regions → bytes ≡ units * 8192 → page < page_count regions →
    (3 + map) * (bytes / 512) + 1 + page < (3 + (map + 1)) * bytes / 512
page_in_slot regions bytes map page units e f lt =
    let fits : 1 + page < bytes / 512 = page_fits regions bytes page e lt in
    let after : (3 + map) * (bytes / 512) + bytes / 512 ≡ (3 + (map + 1)) * bytes / 512 = slot_after map bytes units f in
    plain ((3 + map) * (bytes / 512)) page (bytes / 512) ((3 + (map + 1)) * bytes / 512) fits after
