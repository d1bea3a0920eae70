-- The entries that a receipt tells are those that the answer to a script's call tells.
use Rattle.std.proofs.Common.{◌≡◌, ℕ, ◌+◌, ◌-◌, ◌*◌, ◌/◌, ◌<◌, ◌≤◌, true, refl, sym, ◌∙◌, ap, subst, arith, List, [], ◌∷◌, length, take, replicate, None, Result, Ok, Err}
use Rattle.std.specs.Prelude.{nat_le, nat_lt}
use Rattle.std.proofs.Math.Seq.{drop-nil, take-nil}
use Rattle.std.proofs.lemmas.Bool.Decides.{nat_tests}
use Rattle.std.proofs.lemmas.List.{take-replicate, drop-replicate}
use Rattle.vx_base.specs.Blocks.{block_at, is_in}
use Rattle.vx_block.specs.Regions.{part_at}
use Rattle.vx_block.proofs.PartLemmas.{part_is}
use Rattle.vx_mask.proofs.Tests.{both_parts}
use Rattle.vx_life.specs.declared.EntryKind.{EntryKind}
use Rattle.vx_life.specs.declared.EntryKind.TheVariants as kinds
use Rattle.vx_life.specs.Entry.{Entry}
use Rattle.vx_script_forms.specs.declared.call.Call.{Call}
use Rattle.vx_script_forms.specs.declared.call.Call.TheVariants as calls
use Rattle.vx_cell.specs.Running.{Caller}
use Rattle.vx_volume.specs.declared.fault.IoFault.{IoFault}
use Rattle.vx_volume.specs.declared.fault.IoFault.TheVariants.{Fault, PowerLost, Range}
use Rattle.vx_volume.specs.declared.receipt.Receipt.{Receipt}
use Rattle.vx_volume.specs.Laws.{values_of}
use Rattle.vx_stages.specs.Calls.{AreOf, AreParts, count_of, done_kind, failed_kind, printed_length, start_of}
use Rattle.vx_stages.specs.Calls.{values_of as told_values}
use Rattle.vx_volume_laws.specs.Telling.{AreOfParts, HoldFrom, IsOfPart, TellsEntries, span_of}
use Rattle.vx_group_calls.specs.declared.served.Served.{Served}
use Rattle.vx_group_calls.specs.Ending.{EndsAs}
use Rattle.vx_group_calls.specs.Serving.{Tells}

-- the command at this place, outside blocks
abbrev pub outside : ℕ → Caller
outside place = record { session = 0; place = place }

in_bounds : (start count k : ℕ) → is_in start count k ≡ true → (start ≤ k) × (k < start + count)
in_bounds start count k is = let parts = both_parts (nat_le start k) (nat_lt k (start + count)) is in (from parts.0, to parts.1)
  where
    from : nat_le start k ≡ true → start ≤ k
    from h = grind (arith, nat_tests, h)

    to : nat_lt k (start + count) ≡ true → k < start + count
    to h = grind (arith, nat_tests, h)

-- ---- one entry after the other

module _ (kind : EntryKind) (size place start : ℕ) (receipt : Receipt) where
  parts_are : (index : ℕ) (es : List Entry) → HoldFrom (IsOfPart kind size (outside place) start receipt) index es → AreParts size start receipt.count index es
  parts_are index [] hold = tt
  parts_are index (e ∷ es) hold = (record { region = hold.0.region; range = hold.0.range }, parts_are (index + 1) es hold.1)

  of_them : 0 < size → 0 < receipt.count → (values : List ℕ → ℕ → List ℕ) (printed : List ℕ) → ((k : ℕ) → start ≤ k → k < start + receipt.count → values_of kind start receipt.blocks.items k ≡ values printed k) →
      (index : ℕ) (es : List Entry) → HoldFrom (IsOfPart kind size (outside place) start receipt) index es → AreOf place kind (values printed) es
  of_them sized some values printed same index [] hold = tt
  of_them sized some values printed same index (e ∷ es) hold = (
    record {
      session = hold.0.session;
      place_is = hold.0.place;
      kind_is = hold.0.kind_is;
      values_are = λ k is.
          let at = part_is size start receipt.count index sized some (span_of e) hold.0.range in
          let bounds = in_bounds e.start e.count k is in
          let low = at.from in
          let high = at.to in
          hold.0.values k is ∙ same k (omega (arith, bounds.0, low)) (omega (arith, bounds.1, high));
    },
    of_them sized some values printed same (index + 1) es hold.1,
  )

-- ---- a call

-- a call of the script reads or writes these blocks from there on, and prints these
pub record IsCallOf (call : Call) (done stopped : EntryKind) (start count : ℕ) (blocks printed : List ℕ) : Type 0 where
  pub start_is : start ≡ start_of call
  pub count_is : count ≡ count_of call
  pub done_is : done ≡ done_kind call
  pub stopped_is : stopped ≡ failed_kind call
  pub printed_is : length printed ≡ printed_length call
  pub values : (k : ℕ) → start ≤ k → k < start + count → values_of done start blocks k ≡ told_values call printed k
  pub failed_values : (k : ℕ) → start ≤ k → k < start + count → values_of stopped start blocks k ≡ told_values call [] k

module _ (call : Call) (done stopped : EntryKind) (start : ℕ) (receipt : Receipt) (printed : List ℕ) (is : IsCallOf call done stopped start receipt.count receipt.blocks.items printed) (size place : ℕ) (sized : 0 < size) (some : 0 < receipt.count) where
  their_parts : (kind : EntryKind) (es : List Entry) → HoldFrom (IsOfPart kind size (outside place) start receipt) 0 es → AreParts size (start_of call) (count_of call) 0 es
  their_parts kind es hold =
      subst (λ (n : ℕ). AreParts size n (count_of call) 0 es) is.start_is (subst (λ (n : ℕ). AreParts size start n 0 es) is.count_is (parts_are kind size place start receipt 0 es hold))

  stopped_of : (es : List Entry) → AreOfParts stopped size (outside place) start receipt es → AreOf place (failed_kind call) (told_values call []) es
  stopped_of es are = subst (λ (kind : EntryKind). AreOf place kind (told_values call []) es) is.stopped_is (of_them stopped size place start receipt sized some (told_values call) [] is.failed_values 0 es are.each)

  done_of : (es : List Entry) → AreOfParts done size (outside place) start receipt es → AreOf place (done_kind call) (told_values call printed) es
  done_of es are = subst (λ (kind : EntryKind). AreOf place kind (told_values call printed) es) is.done_is (of_them done size place start receipt sized some (told_values call) printed is.values 0 es are.each)

  all_told : (es : List Entry) → part_at size start receipt.count (length es) ≡ None → part_at size (start_of call) (count_of call) (length es) ≡ None
  all_told es all = subst (λ (n : ℕ). part_at size n (count_of call) (length es) ≡ None) is.start_is (subst (λ (n : ℕ). part_at size start n (length es) ≡ None) is.count_is all)

  -- the entries are of the call's first parts, and the answer tells them
  pub call_tells : (result : Result (Unit {0}) IoFault) (served : Served) (es : List Entry) → TellsEntries done stopped size (outside place) start result receipt es → EndsAs result receipt.parts.items printed served →
      AreParts size (start_of call) (count_of call) 0 es × Tells place call size served es
  call_tells (Ok u) served es tells ends =
      (their_parts done es tells.0.each, subst (λ (s : Served). Tells place call size s es) (sym ends) (tells.0.parts, record { each = done_of es tells.0; all = all_told es tells.1; printed = is.printed_is }))
  call_tells (Err (Fault where')) served es tells ends = (their_parts stopped es tells.0.each, subst (λ (s : Served). Tells place call size s es) (sym ends) (tells.0.parts, stopped_of es tells.0, tells.1))
  call_tells (Err PowerLost) served es tells ends = (their_parts stopped es tells.each, subst (λ (s : Served). Tells place call size s es) (sym ends) (tells.parts, stopped_of es tells))
  call_tells (Err Range) served es tells ends = absurd ends

-- ---- the calls of a script

none_at : (k : ℕ) → block_at [] k ≡ []
none_at k = ap (take 512) (drop-nil (512 * k)) ∙ take-nil 512

pub read_call : (vol : List ℕ) (start count : ℕ) (blocks : List ℕ) → length blocks ≡ 512 * count → IsCallOf (calls.Read vol start count) kinds.Read kinds.Missed start count blocks blocks
read_call vol start count blocks long =
    record { start_is = refl; count_is = refl; done_is = refl; stopped_is = refl; printed_is = long; values = λ k low high. refl; failed_values = λ k low high. sym (none_at (k - start)) }

filled_at : (count byte k : ℕ) → k < count → block_at (replicate (512 * count) byte) k ≡ replicate 512 byte
filled_at count byte k lt = ap (take 512) (drop-replicate (512 * k) (512 * count) byte) ∙ take-replicate 512 (512 * count - 512 * k) byte (omega (arith, lt))

pub fill_call : (vol : List ℕ) (start count byte : ℕ) (blocks : List ℕ) → blocks ≡ replicate (512 * count) byte → IsCallOf (calls.Fill vol start count byte) kinds.Write kinds.Torn start count blocks []
fill_call vol start count byte blocks are =
    let each : (k : ℕ) → start ≤ k → k < start + count → block_at blocks (k - start) ≡ replicate 512 byte = λ k low high. ap (λ (bytes : List ℕ). block_at bytes (k - start)) are ∙ filled_at count byte (k - start) (omega (arith, low, high)) in
    record { start_is = refl; count_is = refl; done_is = refl; stopped_is = refl; printed_is = refl; values = each; failed_values = each }

pub data_call : (vol : List ℕ) (start : ℕ) (bytes blocks : List ℕ) → blocks ≡ bytes → IsCallOf (calls.Data vol start bytes) kinds.Write kinds.Torn start (length bytes / 512) blocks []
data_call vol start bytes blocks are =
    let each : (k : ℕ) → block_at blocks (k - start) ≡ block_at bytes (k - start) = λ k. ap (λ (b : List ℕ). block_at b (k - start)) are in
    record { start_is = refl; count_is = refl; done_is = refl; stopped_is = refl; printed_is = refl; values = λ k low high. each k; failed_values = λ k low high. each k }
