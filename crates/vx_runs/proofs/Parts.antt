-- The part of a call on a run that lies in one piece.
use Rattle.std.proofs.Common.{◌≡◌, ◌⊎◌, inl, inr, ℕ, ◌+◌, ◌-◌, ◌*◌, ◌/◌, ◌%◌, ◌<◌, ◌≤◌, ◌++◌, false, refl, sym, ◌∙◌, ap, subst, arith, List, length, take, drop, Option, Some, None, Result, Ok, Err}
use Rattle.std.specs.Prelude.{max, min, if◌then◌else◌, OnOk, IfSome}
use Rattle.std.proofs.lemmas.Bool.{cond-true, cond-false}
use Rattle.std.proofs.lemmas.List.{length-take-le, length-drop, take_all}
use Rattle.std.proofs.lemmas.Slice.{put_mid-paste}
use borrow.Rule.Slice.PartMut.{put_mid}
use Rattle.vx_base.specs.Blocks.{Contents, block_at, blocks_in, is_in, written, AreBlocks}
use Rattle.vx_base.proofs.BlockLemmas.{block_at-part, block_at-put, is_in_cases, is_in-true, is_in-before, is_in-after, written_in, written_out}
use Rattle.vx_piece.specs.Seen.{Seen, Keeps, Writes, IsWritten, IsRead, HasCause}
use Rattle.vx_piece.specs.declared.piece.PieceFault.{PieceFault}
use Rattle.vx_piece.specs.declared.piece.PieceFault.TheVariants.{Failed, PowerLost}
use Rattle.vx_runs.specs.Part.{told_or, Tells, put_at, PartHasCause, PartWrites, IsPartWritten, PartGives, IsPartRead}

-- the bytes of the blocks from `low` up to `high`
abbrev pub cut_out : List ℕ → ℕ → ℕ → List ℕ
cut_out bytes low high = take (high * 512 - low * 512) (drop (low * 512) bytes)

pub cut_block : (bytes : List ℕ) (low high k : ℕ) → k < high - low → block_at (cut_out bytes low high) k ≡ block_at bytes (low + k)
cut_block bytes low high k lt =
    subst (λ (n : ℕ). block_at (take (high * 512 - low * 512) (drop n bytes)) k ≡ block_at bytes (low + k)) (turned low) (block_at-part bytes low (high * 512 - low * 512) k (omega (arith, lt)))
  where
    turned : (n : ℕ) → 512 * n ≡ n * 512
    turned n = omega arith

pub cut_length : (bytes : List ℕ) (low high : ℕ) → high * 512 ≤ length bytes → length (cut_out bytes low high) ≡ high * 512 - low * 512
cut_length bytes low high fits = length-take-le (high * 512 - low * 512) (drop (low * 512) bytes) (let e = length-drop (low * 512) bytes in omega (arith, fits, e))

pub cut_blocks : (bytes : List ℕ) (low high : ℕ) → high * 512 ≤ length bytes → blocks_in (cut_out bytes low high) ≡ high - low
cut_blocks bytes low high fits = let e = cut_length bytes low high fits in omega (arith, e)

-- ---- where the range of a call and a piece meet

-- the call goes from `first` up to `last`, which both the range and the piece have
pub record Meets (start at count sectors first last : ℕ) : Type 0 where
  pub from : first ≡ max at start
  pub upto : last ≡ min (at + count) (start + sectors)

max_cases : (a b : ℕ) → (max a b ≡ a) × (b ≤ a) ⊎ (max a b ≡ b) × (a ≤ b)
max_cases a b = grind arith

min_cases : (a b : ℕ) → (min a b ≡ a) × (a ≤ b) ⊎ (min a b ≡ b) × (b ≤ a)
min_cases a b = grind arith

pub meets_bounds : (start at count sectors first last : ℕ) → Meets start at count sectors first last → (at ≤ first) × (start ≤ first) × (last ≤ at + count) × (last ≤ start + sectors)
meets_bounds start at count sectors first last m =
    let e = m.from in
    let f = m.upto in (omega (arith, e), omega (arith, e), omega (arith, f), omega (arith, f))

-- a block of the piece lies in the range where it lies in what both have
pub meets_in : (start at count sectors first last k : ℕ) → Meets start at count sectors first last → k < sectors → at ≤ start + k → start + k < at + count →
    (first ≤ start + k) × (start + k < last)
meets_in start at count sectors first last k m inside le lt =
    let e = m.from in
    let f = m.upto in (omega (arith, e, le), omega (arith, f, lt, inside))

module _ (start at sectors first last : ℕ) (bytes : List ℕ) (m : Meets start at (length bytes / 512) sectors first last) (some : first < last) (whole : length bytes % 512 ≡ 0) where
  abbrev sub : List ℕ
  sub = cut_out bytes (first - at) (last - at)

  fits : (last - at) * 512 ≤ length bytes
  fits = let b = meets_bounds start at (length bytes / 512) sectors first last m in omega (arith, b.2, whole)

  pub sub_blocks : blocks_in sub ≡ last - first
  sub_blocks =
      let b = meets_bounds start at (length bytes / 512) sectors first last m in
      let e = cut_blocks bytes (first - at) (last - at) fits in
      omega (arith, e, b.0, some)

  -- what a write of that part does to a block of the piece
  pub part_put : (old : Contents) (k : ℕ) → k < sectors → written (first - start) sub old k ≡ put_at at bytes (start + k) (old k)
  part_put old k inside =
      let b = meets_bounds start at (length bytes / 512) sectors first last m in
      let n = sub_blocks in
      elim (is_in_cases at (blocks_in bytes) (start + k)) [
        | inl h ↦
            let in_both = meets_in start at (length bytes / 512) sectors first last k m inside h.0 h.1 in
            let low : first - start ≤ k = omega (arith, in_both.0) in
            let high : k < (first - start) + blocks_in sub = omega (arith, in_both.1, n, b.1) in
            let here : (first - at) + (k - (first - start)) ≡ (start + k) - at = omega (arith, low, b.0, b.1, in_both.0) in
            written_in (first - start) sub old k low high
            ∙ cut_block bytes (first - at) (last - at) (k - (first - start)) (omega (arith, high, n, b.0, b.1, some))
            ∙ ap (block_at bytes) here
            ∙ sym (cond-true _ _ _ (is_in-true at (blocks_in bytes) (start + k) h.0 h.1))
        | inr h ↦
            let out : is_in (first - start) (blocks_in sub) k ≡ false = elim h [
              | inl lt ↦ is_in-before (first - start) (blocks_in sub) k (omega (arith, lt, b.0, b.1))
              | inr le ↦ is_in-after (first - start) (blocks_in sub) k (omega (arith, le, n, b.2, b.1))
            ] in
            written_out (first - start) sub old k out
            ∙ sym (cond-false _ _ _ (elim h [ inl lt ↦ is_in-before at (blocks_in bytes) (start + k) lt | inr le ↦ is_in-after at (blocks_in bytes) (start + k) le ]))
      ]

cause_of : {T : Type 0} (old new : Seen) (result : Result T PieceFault) → HasCause old new result → PartHasCause old new result
cause_of old new (Ok u) cause = cause.quiet
cause_of old new (Err Failed) cause = cause.failed refl
cause_of old new (Err PowerLost) cause = cause.cut refl

tells_on : {T E : Type 0} (at : ℕ) (bytes : List ℕ) (old new : Option Contents) (result : Result T E) → Writes at bytes old new result → Tells old → Tells new
tells_on at bytes None new result w t = absurd t
tells_on at bytes (Some old) None result w t = absurd w
tells_on at bytes (Some old) (Some new) result w t = tt

written_told : {T : Type 0} (place start at : ℕ) (piece bytes : List ℕ) (sectors : ℕ) (old new : Option Contents) (result : Result T PieceFault) → Writes place piece old new result → Tells old →
    ((contents : Contents) (k : ℕ) → k < sectors → written place piece contents k ≡ put_at at bytes (start + k) (contents k)) → (k : ℕ) → k < sectors → PartWrites start at bytes (told_or old) (told_or new) result k
written_told place start at piece bytes sectors None new result w t put k lt = absurd t
written_told place start at piece bytes sectors (Some old) None result w t put k lt = absurd w
written_told place start at piece bytes sectors (Some old) (Some new) (Ok u) w t put k lt = w k ∙ put old k lt
written_told place start at piece bytes sectors (Some old) (Some new) (Err e) w t put k lt = elim (w k) [ inl same ↦ inl same | inr is ↦ inr (is ∙ put old k lt) ]

pub part_written : {T : Type 0} (start at first last : ℕ) (bytes : List ℕ) (old new : Seen) (result : Result T PieceFault) → Meets start at (length bytes / 512) old.sectors first last → first < last →
    length bytes % 512 ≡ 0 → Keeps old new → IsWritten (first - start) (cut_out bytes (first - at) (last - at)) old new result → HasCause old new result → IsPartWritten start at bytes old new result
part_written start at first last bytes old new result m some whole kept told cause =
    record {
      kept = kept;
      tells = tells_on (first - start) (cut_out bytes (first - at) (last - at)) old.told new.told result told.told;
      writes = λ t. written_told (first - start) start at (cut_out bytes (first - at) (last - at)) bytes old.sectors old.told new.told result told.told t (part_put start at old.sectors first last bytes m some whole);
      cause = cause_of old new result cause;
    }

-- ---- a read

-- a part of the buffer is written over
pub put_blocks : (low : ℕ) (size : ℕ) (into part : List ℕ) → length part ≡ size → size % 512 ≡ 0 → low * 512 + size ≤ length into → (k : ℕ) →
    block_at (put_mid (low * 512) size into part) k ≡ written low part (block_at into) k
put_blocks low size into part len whole fits k =
    let all : take (length part) part ≡ part = take_all (length part) part (omega arith) in
    ap (λ (bs : List ℕ). block_at bs k) (put_mid-paste (low * 512) size into part part (length part) refl len refl)
    ∙ ap (λ (bs : List ℕ). block_at (take (low * 512) into ++ bs ++ drop (low * 512 + length part) into) k) all
    ∙ subst (λ (n : ℕ). block_at (take n into ++ part ++ drop (n + length part) into) k ≡ written low part (block_at into) k) (turned low)
    (block_at-put into part low (omega (arith, fits, len)) (omega (arith, len, whole)) k)
  where
    turned : (n : ℕ) → 512 * n ≡ n * 512
    turned n = omega arith

told_of : (part : List ℕ) (place : ℕ) (told : Option Contents) → Tells told → IfSome told (λ contents. AreBlocks part contents place) → AreBlocks part (told_or told) place
told_of part place None t h = absurd t
told_of part place (Some contents) t h = h

module _ (start at sectors first last : ℕ) (into part : List ℕ) (m : Meets start at (length into / 512) sectors first last) (some : first < last) (whole : length into % 512 ≡ 0)
    (len : length part ≡ (last - at) * 512 - (first - at) * 512) where
  part_blocks : blocks_in part ≡ last - first
  part_blocks = let b = meets_bounds start at (length into / 512) sectors first last m in omega (arith, len, b.0, some)

  pub part_gives : (told : Contents) → AreBlocks part told (first - start) → (k : ℕ) → k < length into / 512 →
      block_at (put_mid ((first - at) * 512) ((last - at) * 512 - (first - at) * 512) into part) k ≡ (if is_in start sectors (at + k) then told ((at + k) - start) else block_at into k)
  part_gives told gives k lt =
      let b = meets_bounds start at (length into / 512) sectors first last m in
      let n = part_blocks in
      put_blocks (first - at) ((last - at) * 512 - (first - at) * 512) into part len (omega (arith, b.0, some)) (omega (arith, b.0, b.2, some, whole)) k
      ∙ elim (is_in_cases start sectors (at + k)) [
        | inl h ↦
            let e = m.from in
            let f = m.upto in
            let low : first - at ≤ k = omega (arith, e, h.0) in
            let high : k < (first - at) + blocks_in part = omega (arith, n, f, h.1, lt, b.0) in
            let here : (first - start) + (k - (first - at)) ≡ (at + k) - start = omega (arith, low, b.0, b.1, h.0) in
            written_in (first - at) part (block_at into) k low high ∙ gives (k - (first - at)) (omega (arith, high, low)) ∙ ap told here
            ∙ sym (cond-true _ _ _ (is_in-true start sectors (at + k) h.0 h.1))
        | inr h ↦
            let e = m.from in
            let f = m.upto in
            let out : is_in (first - at) (blocks_in part) k ≡ false = elim h [
              | inl below ↦ is_in-before (first - at) (blocks_in part) k (omega (arith, e, below))
              | inr above ↦ is_in-after (first - at) (blocks_in part) k (omega (arith, n, b.0, b.3, above, some))
            ] in
            written_out (first - at) part (block_at into) k out
            ∙ sym (cond-false _ _ _ (elim h [ inl below ↦ is_in-before start sectors (at + k) below | inr above ↦ is_in-after start sectors (at + k) above ]))
      ]

read_gives : {T : Type 0} (start at first last : ℕ) (into part : List ℕ) (piece : Seen) (result : Result T PieceFault) → Meets start at (length into / 512) piece.sectors first last → first < last → length into % 512 ≡ 0 →
    length part ≡ (last - at) * 512 - (first - at) * 512 → length (put_mid ((first - at) * 512) ((last - at) * 512 - (first - at) * 512) into part) ≡ length into →
    OnOk result (IfSome piece.told (λ contents. AreBlocks part contents (first - start))) →
    PartGives start at into (put_mid ((first - at) * 512) ((last - at) * 512 - (first - at) * 512) into part) piece result
read_gives start at first last into part piece (Ok u) m some whole len same gives =
    λ t k lt. part_gives start at piece.sectors first last into part m some whole len (told_or piece.told) (told_of part (first - start) piece.told t gives) k (omega (arith, lt, same))
read_gives start at first last into part piece (Err e) m some whole len same gives = tt

pub part_read : {T : Type 0} (start at first last : ℕ) (into part : List ℕ) (old new : Seen) (result : Result T PieceFault) → Meets start at (length into / 512) old.sectors first last → first < last →
    length into % 512 ≡ 0 → length part ≡ (last - at) * 512 - (first - at) * 512 → length (put_mid ((first - at) * 512) ((last - at) * 512 - (first - at) * 512) into part) ≡ length into →
    Keeps old new → IsRead old new → OnOk result (IfSome old.told (λ contents. AreBlocks part contents (first - start))) → HasCause old new result →
    IsPartRead start at into (put_mid ((first - at) * 512) ((last - at) * 512 - (first - at) * 512) into part) old new result
part_read start at first last into part old new result m some whole len same kept read gives cause =
    record { kept = kept; told = read.told; writes = read.writes; gives = read_gives start at first last into part old result m some whole len same gives; cause = cause_of old new result cause }
