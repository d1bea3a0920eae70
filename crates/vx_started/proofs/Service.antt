-- A call that has gone through its parts is served as its answer tells.
use Rattle.std.proofs.Common.{◌≡◌, ◌⊎◌, ℕ, ◌+◌, ◌-◌, ◌*◌, ◌/◌, ◌<◌, ◌≤◌, List, [], ◌∷◌, length, take, replicate, Option, Some, None, Result, Ok, Err, subst, sym, ap, ◌∙◌, refl, inl, inr, arith}
use Rattle.std.specs.Prelude.{OnOk, OnErr}
use Rattle.std.proofs.lemmas.List.{take-replicate, drop-replicate}
use Rattle.vx_base.specs.Blocks.{Contents, block_at}
use Rattle.vx_block.specs.Regions.{part_at}
use Rattle.vx_block.proofs.PartLemmas.{part_is}
use Rattle.vx_piece.specs.Seen.{Seen}
use Rattle.vx_piece.specs.declared.piece.PieceFault.{PieceFault}
use Rattle.vx_life.specs.declared.Part.{Part}
use Rattle.vx_life.specs.declared.EntryKind.{EntryKind}
use Rattle.vx_life.specs.declared.EntryKind.TheVariants as kinds
use Rattle.vx_life.specs.Candidates.{Candidates}
use Rattle.vx_life.specs.Entry.{Entry}
use Rattle.vx_script_forms.specs.declared.call.Call.{Call}
use Rattle.vx_script_forms.specs.declared.call.Call.TheVariants as calls
use Rattle.vx_answers.specs.declared.answer.End.{End}
use Rattle.vx_answers.specs.declared.answer.End.TheVariants.{Done, Fault, Lost}
use Rattle.vx_moments.specs.World.{Volume, Lies, OnDevice}
use Rattle.vx_stages.specs.Calls.{LiesOn, start_of, count_of, values_of, done_kind, failed_kind, printed_length, AreParts, AreOf}
use Rattle.vx_started.specs.Stands.{IsAmongTold, CallGoes, Serves}
use Rattle.vx_started.specs.Buffers.{HoldsFirst}
use Rattle.vx_started.specs.Writes.{IsWriteOf}
use Rattle.vx_started.proofs.Choice.{is_in_bounds}
use Rattle.vx_started.proofs.PartSteps.{entries_are_parts}

pub told_some : (n : ℕ) (told : Option Contents) (c : Candidates) → IsAmongTold n told c → (contents : Contents) × (told ≡ Some contents)
told_some n None c among = absurd among
told_some n (Some contents) c among = (contents, refl)

-- entries of parts of the range tell no values outside it
same_in : (place size start count index : ℕ) (kind : EntryKind) (values others : Contents) (es : List Entry) → 0 < size → 0 < count → ((k : ℕ) → start ≤ k → k < start + count → values k ≡ others k) → AreParts size start count index es → AreOf place kind values es → AreOf place kind others es
same_in place size start count index kind values others [] sized some same parts each = tt
same_in place size start count index kind values others (e ∷ es) sized some same parts each =
    let range = part_is size start count index sized some _ parts.0.range in (
      record {
        session = each.0.session;
        place_is = each.0.place_is;
        kind_is = each.0.kind_is;
        values_are = λ k h.
            let bounds = is_in_bounds e.start e.count k h in
            each.0.values_are k h ∙ same k (omega (arith, bounds.0, range.from)) (omega (arith, bounds.1, range.to));
      },
      same_in place size start count (index + 1) kind values others es sized some same parts.1 each.1,
    )

-- what was read is what the buffer holds
held_in : (start count : ℕ) (contents : Contents) (blocks : List ℕ) → HoldsFirst blocks (Some contents) start count → (k : ℕ) → start ≤ k → k < start + count → contents k ≡ block_at blocks (k - start)
held_in start count contents blocks holds k from to =
    let there : start + (k - start) ≡ k = omega (arith, from) in
    ap contents (sym there) ∙ sym (holds (k - start) (omega (arith, from, to)))

goes_in : (n size start count : ℕ) (kind : EntryKind) (values others : Contents) (old new : Seen) (numbers later : List ℕ) (parts : List Part) → 0 < size → 0 < count → ((k : ℕ) → start ≤ k → k < start + count → values k ≡ others k) → CallGoes n size start count kind values old numbers new later parts → CallGoes n size start count kind others old numbers new later parts
goes_in n size start count kind values others old new numbers later parts sized some same goes place before stands =
    let gone = goes place before stands in
    record {
      entries = gone.entries;
      life = gone.life;
      first = gone.first;
      each = same_in place size start count 0 kind values others gone.entries sized some same gone.first gone.each;
      told = gone.told;
      goes_on = gone.goes_on;
      stands = gone.stands;
    }

module _ (v : Volume) (device : List ℕ) (lies : v.lies ≡ OnDevice device) (end_told : End) (old new : Seen) (numbers later : List ℕ) (parts : List Part) where
  pub served_read : (vol : List ℕ) (start count total : ℕ) (blocks : List ℕ) → 0 < v.region → 0 < count → ((contents : Contents) → old.told ≡ Some contents → CallGoes v.length v.region start count kinds.Read contents old numbers new later parts) → HoldsFirst blocks old.told start count → part_at v.region start count total ≡ None → length parts ≡ total → length blocks ≡ 512 * count → end_told ≡ Done None parts blocks → Serves (calls.Read vol start count) end_told old numbers new later v
  served_read vol start count total blocks sized some goes holds end all long is place stands =
      let told = told_some v.length old.told v.life.candidates stands.told in
      let gone = goes told.0 told.1 place v.life stands in
      let held : HoldsFirst blocks (Some told.0) start count = subst (λ t. HoldsFirst blocks t start count) told.1 holds in (
        gone.life,
        record {
          entries = gone.entries;
          parts = gone.first;
          told = rw is (
            refl,
            gone.told,
            record {
              each = same_in place v.region start count 0 kinds.Read told.0 (λ k. block_at blocks (k - start)) gone.entries sized some (held_in start count told.0 blocks held) gone.first gone.each;
              all = ap (part_at v.region start count) (entries_are_parts gone.entries parts gone.told ∙ all) ∙ end;
              printed = long;
            },
          );
          goes_on = gone.goes_on;
        },
        gone.stands,
      )

  pub served_write : (call : Call) (total : ℕ) → printed_length call ≡ 0 → CallGoes v.length v.region (start_of call) (count_of call) (done_kind call) (values_of call []) old numbers new later parts → part_at v.region (start_of call) (count_of call) total ≡ None → length parts ≡ total → end_told ≡ Done None parts [] → Serves call end_told old numbers new later v
  served_write call total prints goes end all is place stands =
      let gone = goes place v.life stands in (
        gone.life,
        record {
          entries = gone.entries;
          parts = gone.first;
          told = rw is (
            refl,
            gone.told,
            record {
              each = gone.each;
              all = ap (part_at v.region (start_of call) (count_of call)) (entries_are_parts gone.entries parts gone.told ∙ all) ∙ end;
              printed = sym prints;
            },
          );
          goes_on = gone.goes_on;
        },
        gone.stands,
      )

  pub served_failed : (call : Call) → CallGoes v.length v.region (start_of call) (count_of call) (failed_kind call) (values_of call []) old numbers new later parts → 0 < length parts → (end_told ≡ Fault device device parts) ⊎ (end_told ≡ Lost parts) → Serves call end_told old numbers new later v
  served_failed call goes some (inl is) place stands =
      let gone = goes place v.life stands in
      let on_device : LiesOn v.lies device = subst (λ (l : Lies). LiesOn l device) (sym lies) refl in
      let begun : gone.entries ≡ [] → ⊥ = λ e. absurd (omega (arith, ap length e, entries_are_parts gone.entries parts gone.told, some)) in
      (gone.life, record { entries = gone.entries; parts = gone.first; told = rw is (gone.told, gone.each, begun, on_device, refl); goes_on = gone.goes_on }, gone.stands)
  served_failed call goes some (inr is) place stands =
      let gone = goes place v.life stands in
      (gone.life, record { entries = gone.entries; parts = gone.first; told = rw is (gone.told, gone.each); goes_on = gone.goes_on }, gone.stands)

-- the same, told of the volume's own length and regions
at_shape : (v : Volume) (n size start count : ℕ) (kind : EntryKind) (values : Contents) (old new : Seen) (numbers later : List ℕ) (parts : List Part) → v.length ≡ n → v.region ≡ size → CallGoes n size start count kind values old numbers new later parts → CallGoes v.length v.region start count kind values old numbers new later parts
at_shape v n size start count kind values old new numbers later parts length_is region_is goes =
    subst (λ m. CallGoes m v.region start count kind values old numbers new later parts) (sym length_is) (subst (λ s. CallGoes n s start count kind values old numbers new later parts) (sym region_is) goes)

module _ (v : Volume) (device : List ℕ) (n size : ℕ) (lies : v.lies ≡ OnDevice device) (length_is : v.length ≡ n) (region_is : v.region ≡ size) (sized : 0 < size) (end_told : End) (old new : Seen) (numbers later : List ℕ) (parts : List Part) (total start count : ℕ) (some : 0 < count) (end : part_at size start count total ≡ None) where
  here : part_at v.region start count total ≡ None
  here = ap (λ s. part_at s start count total) region_is ∙ end

  pub read_served : {T : Type 0} (vol : List ℕ) (blocks : List ℕ) (outcome : Result T PieceFault)
      → OnOk outcome ((contents : Contents) → old.told ≡ Some contents → CallGoes n size start count kinds.Read contents old numbers new later parts) → OnOk outcome (HoldsFirst blocks old.told start count) → OnOk outcome (length parts ≡ total) → length blocks ≡ 512 * count → OnOk outcome (end_told ≡ Done None parts blocks)
      → OnErr outcome (CallGoes n size start count kinds.Missed (λ k. block_at [] (k - start)) old numbers new later parts) → OnErr outcome (0 < length parts) → OnErr outcome ((end_told ≡ Fault device device parts) ⊎ (end_told ≡ Lost parts))
      → Serves (calls.Read vol start count) end_told old numbers new later v
  read_served vol blocks (Ok u) goes holds all long is failed begun told =
      served_read v device lies end_told old new numbers later parts vol start count total blocks (subst (λ s. 0 < s) (sym region_is) sized) some
      (λ contents e. at_shape v n size start count kinds.Read contents old new numbers later parts length_is region_is (goes contents e)) holds here all long is
  read_served vol blocks (Err e) goes holds all long is failed begun told =
      served_failed v device lies end_told old new numbers later parts (calls.Read vol start count) (at_shape v n size start count kinds.Missed (λ k. block_at [] (k - start)) old new numbers later parts length_is region_is failed) begun told

  module _ (call : Call) (bytes : List ℕ) (is_write : IsWriteOf start count bytes call) where
    -- the entries are of the call, as they are of these bytes
    of_call : (kind : EntryKind) → CallGoes n size start count kind (λ k. block_at bytes (k - start)) old numbers new later parts → CallGoes v.length v.region (start_of call) (count_of call) kind (values_of call []) old numbers new later parts
    of_call kind goes =
        let there : CallGoes n size start count kind (values_of call []) old numbers new later parts = goes_in n size start count kind (λ k. block_at bytes (k - start)) (values_of call []) old new numbers later parts sized some is_write.values goes in
        subst (λ s. CallGoes v.length v.region s (count_of call) kind (values_of call []) old numbers new later parts) (sym is_write.starts)
        (subst (λ m. CallGoes v.length v.region start m kind (values_of call []) old numbers new later parts) (sym is_write.counts)
        (at_shape v n size start count kind (values_of call []) old new numbers later parts length_is region_is there))

    over_call : part_at v.region (start_of call) (count_of call) total ≡ None
    over_call = ap (λ s. part_at v.region s (count_of call) total) is_write.starts ∙ ap (λ m. part_at v.region start m total) is_write.counts ∙ here

    pub write_served : {T : Type 0} (blocks : List ℕ) (outcome : Result T PieceFault)
        → OnOk outcome (CallGoes n size start count kinds.Write (λ k. block_at bytes (k - start)) old numbers new later parts) → OnOk outcome (length parts ≡ total) → blocks ≡ [] → OnOk outcome (end_told ≡ Done None parts blocks)
        → OnErr outcome (CallGoes n size start count kinds.Torn (λ k. block_at bytes (k - start)) old numbers new later parts) → OnErr outcome (0 < length parts) → OnErr outcome ((end_told ≡ Fault device device parts) ⊎ (end_told ≡ Lost parts))
        → Serves call end_told old numbers new later v
    write_served blocks (Ok u) goes all none is failed begun told =
        served_write v device lies end_told old new numbers later parts call total is_write.prints
        (subst (λ kind. CallGoes v.length v.region (start_of call) (count_of call) kind (values_of call []) old numbers new later parts) (sym is_write.done) (of_call kinds.Write goes)) over_call all (is ∙ ap (λ b. Done None parts b) none)
    write_served blocks (Err e) goes all none is failed begun told =
        served_failed v device lies end_told old new numbers later parts call
        (subst (λ kind. CallGoes v.length v.region (start_of call) (count_of call) kind (values_of call []) old numbers new later parts) (sym is_write.failed) (of_call kinds.Torn failed)) begun told

-- ---- the calls that write

-- each block of a fill is the byte
filled_at : (count byte k : ℕ) → k < count → block_at (replicate (512 * count) byte) k ≡ replicate 512 byte
filled_at count byte k lt = ap (take 512) (drop-replicate (512 * k) (512 * count) byte) ∙ take-replicate 512 (512 * count - 512 * k) byte (omega (arith, lt))

pub fill_writes : (vol : List ℕ) (start count byte : ℕ) (bytes : List ℕ) → bytes ≡ replicate (512 * count) byte → IsWriteOf start count bytes (calls.Fill vol start count byte)
fill_writes vol start count byte bytes are = record {
  starts = refl;
  counts = refl;
  done = refl;
  failed = refl;
  prints = refl;
  values = λ k from to. ap (λ (b : List ℕ). block_at b (k - start)) are ∙ filled_at count byte (k - start) (omega (arith, from, to));
}

pub data_writes : (vol : List ℕ) (start count : ℕ) (blocks bytes : List ℕ) → bytes ≡ blocks → length blocks / 512 ≡ count → IsWriteOf start count bytes (calls.Data vol start blocks)
data_writes vol start count blocks bytes are counts = record {
  starts = refl;
  counts = counts;
  done = refl;
  failed = refl;
  prints = refl;
  values = λ k from to. ap (λ (b : List ℕ). block_at b (k - start)) are;
}
