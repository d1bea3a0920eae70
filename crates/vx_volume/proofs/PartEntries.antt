-- The entries of the parts of a call, and how the histories of a volume go on with them.
use Rattle.std.proofs.Common.{◌≡◌, ◌≢◌, ℕ, zero, suc, ◌+◌, ◌*◌, ◌/◌, ◌<◌, ◌≤◌, max, Bool, true, false, if◌then◌else◌, refl, sym, ◌∙◌, ap, subst, inl, inr, arith, List, [], ◌∷◌, ◌++◌, length, map, Option, Some, None, Result, Ok, Err}
use Rattle.std.proofs.lemmas.Bool.{cases_eq}
use Rattle.std.proofs.lemmas.List.{append-nil, map-append}
use Rattle.vx_block.specs.declared.geometry.Span.{Span}
use Rattle.vx_block.specs.Regions.{part_at}
use Rattle.vx_life.specs.declared.EntryKind.{EntryKind}
use Rattle.vx_life.specs.declared.Part.{Part}
use Rattle.vx_life.specs.Entry.{Entry}
use Rattle.vx_core.specs.declared.stage.Phase.{Phase}
use Rattle.vx_core.specs.declared.stage.Phase.TheVariants.{Settled, Unsettled, Dead, Busy}
use Rattle.vx_core.specs.History.{AllOf, MayPrecede}
use Rattle.vx_core.specs.Region.{Fixed}
use Rattle.vx_core.specs.Schedule.{IsIdle}
use Rattle.vx_cell.specs.declared.fault.CellFault.{CellFault}
use Rattle.vx_cell.specs.Changes.{CellSeen}
use Rattle.vx_cell.specs.Region.{RegionSeen}
use Rattle.vx_cell.specs.Running.{Caller}
use Rattle.vx_volume.specs.declared.fault.IoFault.{IoFault}
use Rattle.vx_volume.specs.declared.fault.IoFault.TheVariants.{Range, Fault, PowerLost}
use Rattle.vx_volume.specs.declared.receipt.Receipt.{Receipt}
use Rattle.vx_volume.specs.Calls.{Calling, CallsPart, CallsParts, IsOutside, IsRead, IsWritten, bytes_of, called, io_stop, parts_in}
use Rattle.vx_volume.specs.Laws.{AreMadeOf, AreTold, EachReadOfVolumeGoesOn, EachWriteOfVolumeGoesOn, MakesEntries, MayComeNext, GoesOn, MayTellRead, MayTellWrite, RegionsGoOn, next_entry, with_made}
use Rattle.vx_volume.specs.Loop.{AreDone, AreMade}
use Rattle.vx_volume.specs.Receipts.{part_of, with_part}
use Rattle.vx_volume.specs.Volume.{IsVolume, VolumeSeen, cell_at, region_at, with_log}
use Rattle.vx_volume.proofs.Histories.{goes_same}
use Rattle.vx_volume.proofs.Volumes.{AreIndexed, IsWay, call_goes, going_same, going_then, indexed, read_way, write_way}

-- ---- a part of a range

some_span : (b : Bool) (x span : Span) → (if b then Some x else None) ≡ Some span → x ≡ span
some_span true x span e = cc
some_span false x span e = cc

-- a part lies behind the start of its region
part_begins : (size start count index : ℕ) (span : Span) → part_at size start count index ≡ Some span → (start / size + index) * size ≤ span.start
part_begins size start count index span e =
    let begins : max start ((start / size + index) * size) ≡ span.start = ap (λ (s : Span). s.start) (some_span _ _ span e) in
    omega (arith, begins)

-- ---- the entries of a call

made_more : (r : ℕ) (made more entries : List Entry) → with_made r (made ++ more) entries ≡ with_made r more (with_made r made entries)
made_more r [] more entries = refl
made_more r (e ∷ made) more entries = made_more r made more _

-- the same with the entries told otherwise
going_as : (old new : VolumeSeen) (fixed : ℕ → Fixed) (entries entries' entries'' : ℕ → List Entry) → ((r : ℕ) → entries'' r ≡ entries' r) → RegionsGoOn old new fixed entries entries' → RegionsGoOn old new fixed entries entries''
going_as old new fixed entries entries' entries'' same going =
    record {
      count = going.count;
      each = λ r lt. let g = going.each r lt in subst (λ (es : List Entry). GoesOn (region_at old r) (region_at new r) (fixed r) (entries r) es) (sym (same r)) g;
      told = going.told;
    }

same_part : (region epoch number : ℕ) (p : Part) → region ≡ p.region → epoch ≡ p.epoch → number ≡ p.number → (let made : Part = record { region = region; epoch = epoch; number = number } in made) ≡ p
same_part region epoch number p e f g = rw (e, f, g) refl

-- the parts of the entries are those of a receipt
parts_made : (phase : Phase) (may : EntryKind → Type 0) (entry : EntryKind → Entry) (made : List Entry) (p : Part) (parts : List Part) → AreMadeOf phase may entry made → ((phase ≡ Dead → ⊥) → (kind : EntryKind) → (entry kind).part ≡ p) →
    parts ++ map (λ (e : Entry). e.part) made ≡ with_part phase p parts
parts_made Dead may entry made p parts are is = ap (λ (es : List Entry). parts ++ map (λ (e : Entry). e.part) es) are ∙ append-nil parts
parts_made Settled may entry made p parts are is = ap (λ (es : List Entry). parts ++ map (λ (e : Entry). e.part) es) are.2 ∙ ap (λ (q : Part). parts ++ q ∷ []) (is (λ e. cc) are.0)
parts_made Unsettled may entry made p parts are is = ap (λ (es : List Entry). parts ++ map (λ (e : Entry). e.part) es) are.2 ∙ ap (λ (q : Part). parts ++ q ∷ []) (is (λ e. cc) are.0)
parts_made (Busy w) may entry made p parts are is = ap (λ (es : List Entry). parts ++ map (λ (e : Entry). e.part) es) are.2 ∙ ap (λ (q : Part). parts ++ q ∷ []) (is (λ e. cc) are.0)

-- What has become of a volume once the first parts of a call were called: the regions behind them are as they were, and all go on
-- with the entries of the parts.
pub record HasCalled (v : VolumeSeen) (fixed : ℕ → Fixed) (entries : ℕ → List Entry) (first : ℕ) (now : Calling) (made : List Entry) : Type 0 where
  pub size : now.volume.region ≡ v.region
  pub index : AreIndexed now.volume
  pub later : (i : ℕ) → first ≤ i → cell_at now.volume i ≡ cell_at v i
  pub own : now.volume.log.lent ≡ false
  pub parts : map (λ (e : Entry). e.part) made ≡ now.parts
  pub fresh : (i : ℕ) → first ≤ i → (es : List Entry) → with_made i made es ≡ es
  pub goes : RegionsGoOn v now.volume fixed entries (λ i. with_made i made (entries i))

module _ (Way : Span → List ℕ → Option CellFault → RegionSeen → RegionSeen → Type 0) (may : Option CellFault → EntryKind → Type 0) (way : IsWay Way may)
    (v : VolumeSeen) (volume : IsVolume v) (who : Caller) (fixed : ℕ → Fixed) (entries : ℕ → List Entry) (next : MayComeNext v who fixed entries) (start count : ℕ) (bytes : List ℕ) where
  -- one part is called
  part_goes : (n : ℕ) (stop : Option CellFault) (mid new : Calling) (made : List Entry) → HasCalled v fixed entries (start / v.region + n) mid made → CallsPart Way start count bytes n stop mid new →
      (made' : List Entry) × MakesEntries may v who start count bytes n stop made made' × HasCalled v fixed entries (start / v.region + suc n) new made'
  part_goes n stop mid new made come calls =
      let r = calls.region in
      let these = bytes_of bytes start calls.span in
      let at : r ≡ start / v.region + n = calls.is_region ∙ ap (λ (s : ℕ). start / s + n) come.size in
      let part : part_at v.region start count n ≡ Some calls.span = subst (λ (s : ℕ). part_at s start count n ≡ Some calls.span) come.size calls.part in
      let inside : r < length v.cells = subst (λ (m : ℕ). r < m) come.goes.count calls.ends.inside in
      let cell : cell_at mid.volume r ≡ cell_at v r = come.later r (omega (arith, at)) in
      let was = volume.each r inside in
      let begins : r * v.region ≤ calls.span.start = subst (λ (m : ℕ). m * v.region ≤ calls.span.start) (sym at) (part_begins v.region start count n calls.span part) in
      let idle : IsIdle (cell_at mid.volume r).stage.phase = subst (λ (c : CellSeen). IsIdle c.stage.phase) (sym cell) was.idle in
      let behind : (cell_at mid.volume r).start ≤ calls.span.start = subst (λ (c : CellSeen). c.start ≤ calls.span.start) (sym cell) (subst (λ (m : ℕ). m ≤ calls.span.start) (sym was.start) begins) in
      let order : AllOf (MayPrecede who.session who.place (cell_at mid.volume r).epoch) (with_made r made (entries r)) =
      subst (λ (es : List Entry). AllOf (MayPrecede who.session who.place (cell_at mid.volume r).epoch) es) (sym (come.fresh r (omega (arith, at)) (entries r)))
      (subst (λ (c : CellSeen). AllOf (MayPrecede who.session who.place c.epoch) (entries r)) (sym cell) (next.order r inside)) in
      let goes = call_goes Way may way r calls.span these stop mid.volume new.volume calls.ends come.index come.goes.told idle come.own behind who fixed (λ i. with_made i made (entries i)) (next.here r inside) order in
      let gone = way.gone (region_at mid.volume r) (region_at new.volume r) calls.span these stop calls.ends.goes in
      let number = way.number (region_at mid.volume r) (region_at new.volume r) calls.span these stop calls.ends.goes in
      let more = goes.0 in
      let behind_it : (i : ℕ) → start / v.region + suc n ≤ i → i ≢ r = λ i le e. absurd (omega (arith, at, e, le)) in (
        made ++ more,
        record {
          span = calls.span;
          part = part;
          region = r;
          is_region = at;
          made = more;
          are = subst (λ (c : CellSeen). AreMadeOf c.stage.phase (may stop) (next_entry (with_log c mid.volume.log) who calls.span these) more) cell goes.1;
          after = refl;
        },
        record {
          size = ap (λ (x : VolumeSeen). x.region) calls.ends.same ∙ come.size;
          index = λ i lt.
              elim (cases_eq i r) [
                | inl is ↦ subst (λ (m : ℕ). (cell_at new.volume m).region ≡ m) (sym is) (gone.stays.region ∙ come.index r calls.ends.inside)
                | inr apart ↦ ap (λ (c : CellSeen). c.region) (calls.ends.others i apart) ∙ come.index i (subst (λ (m : ℕ). i < m) calls.ends.count lt)
              ];
          later = λ i le. calls.ends.others i (behind_it i le) ∙ come.later i (omega (arith, le));
          own = gone.stays.log.lent ∙ come.own;
          parts = map-append (λ (e : Entry). e.part) made more ∙ ap (λ (ps : List Part). ps ++ map (λ (e : Entry). e.part) more) come.parts
              ∙ parts_made (cell_at mid.volume r).stage.phase (may stop) (next_entry (region_at mid.volume r) who calls.span these) more (part_of new.volume r) mid.parts goes.1
              (λ alive kind. same_part (cell_at mid.volume r).region (cell_at mid.volume r).epoch ((cell_at mid.volume r).number + 1) (part_of new.volume r) (come.index r calls.ends.inside) (sym gone.stays.epoch) (sym (number alive)))
              ∙ sym calls.told;
          fresh = λ i le es. made_more i made more es ∙ goes.2.elsewhere i (behind_it i le) (with_made i made es) ∙ come.fresh i (omega (arith, le)) es;
          goes = going_as v new.volume fixed entries (λ i. with_made i more (with_made i made (entries i))) (λ i. with_made i (made ++ more) (entries i)) (λ i. made_more i made more (entries i))
              (going_then v mid.volume new.volume fixed entries (λ i. with_made i made (entries i)) (λ i. with_made i more (with_made i made (entries i))) come.goes goes.3);
        },
      )

  abbrev begun : Calling
  begun = record { volume = called v; parts = [] }

  begins : AreTold v → HasCalled v fixed entries (start / v.region + 0) begun []
  begins told =
      record {
        size = refl;
        index = indexed v volume;
        later = λ i le. refl;
        own = volume.own;
        parts = refl;
        fresh = λ i le es. refl;
        goes = record { count = refl; each = λ r lt. goes_same (region_at v r) (fixed r) (entries r); told = told };
      }

  parts_go : AreTold v → (n : ℕ) (mid : Calling) → AreDone (CallsPart Way start count bytes) n begun mid → (made : List Entry) × AreDone (MakesEntries may v who start count bytes) n [] made × HasCalled v fixed entries (start / v.region + n) mid made
  parts_go told zero mid done = ([], refl, subst (λ (c : Calling). HasCalled v fixed entries (start / v.region + 0) c []) (sym done) (begins told))
  parts_go told (suc n) new done =
      let before = parts_go told n done.0 done.1 in
      let last = part_goes n None done.0 new before.0 before.2 done.2 in
      (last.0, (before.0, before.1, last.1), last.2)

  pub call_made : AreTold v → (total : ℕ) (stop : Option CellFault) (new : Calling) → AreMade (CallsPart Way start count bytes) total stop begun new →
      (made : List Entry) × AreMade (MakesEntries may v who start count bytes) total stop [] made × (first : ℕ) × HasCalled v fixed entries first new made
  call_made told total None new done = let all = parts_go told total new done in (all.0, all.1, start / v.region + total, all.2)
  call_made told total (Some fault) new made =
      let before = parts_go told made.0 made.1 made.3 in
      let last = part_goes made.0 (Some fault) made.1 new before.0 before.2 made.4 in
      (last.0, (made.0, before.0, made.2, before.1, last.1), start / v.region + suc made.0, last.2)

-- ---- a call on a volume

module _ (Way : Span → List ℕ → Option CellFault → RegionSeen → RegionSeen → Type 0) (may : Option CellFault → EntryKind → Type 0) (way : IsWay Way may)
    (start : ℕ) (old new : VolumeSeen) (before after : Receipt) (volume : IsVolume old) (told : AreTold old) (who : Caller) (fixed : ℕ → Fixed) (entries : ℕ → List Entry) where
  -- the range does not lie in the volume
  outside : IsOutside start old new before after → RegionsGoOn old new fixed entries entries
  outside is = subst (λ (v : VolumeSeen). RegionsGoOn old v fixed entries entries) (sym is.same) (going_same old fixed entries told)

  pub all_made : (result : Result (Unit {0}) IoFault) → CallsParts Way start old new result before after → MayComeNext old who fixed entries →
      (made : List Entry) × (map (λ (e : Entry). e.part) made ≡ after.parts.items) × AreMade (MakesEntries may old who start after.count after.blocks.items) (parts_in old.region start after.count) (io_stop result) [] made
      × RegionsGoOn old new fixed entries (λ r. with_made r made (entries r))
  all_made result ends next =
      let all = call_made Way may way old volume who fixed entries next start before.count after.blocks.items told (parts_in old.region start before.count) (io_stop result) (record { volume = new; parts = after.parts.items }) ends.made in
      (all.0, all.3.parts, subst (λ (n : ℕ). AreMade (MakesEntries may old who start n after.blocks.items) (parts_in old.region start n) (io_stop result) [] all.0) (sym ends.count) all.1, all.3.goes)

pub read_of_volume : EachReadOfVolumeGoesOn
read_of_volume start old new (Err Range) before after ends volume told who fixed entries next = ([], refl, outside IsRead MayTellRead read_way start old new before after volume told who fixed entries ends)
read_of_volume start old new (Ok u) before after ends volume told who fixed entries next =
    let all = all_made IsRead MayTellRead read_way start old new before after volume told who fixed entries (Ok u) ends.0 next in (all.0, (all.1, all.2), all.3)
read_of_volume start old new (Err (Fault place)) before after ends volume told who fixed entries next =
    let all = all_made IsRead MayTellRead read_way start old new before after volume told who fixed entries (Err (Fault place)) ends.0 next in (all.0, (all.1, all.2), all.3)
read_of_volume start old new (Err PowerLost) before after ends volume told who fixed entries next =
    let all = all_made IsRead MayTellRead read_way start old new before after volume told who fixed entries (Err PowerLost) ends.0 next in (all.0, (all.1, all.2), all.3)

pub write_of_volume : EachWriteOfVolumeGoesOn
write_of_volume start from old new (Err Range) before after ends volume told who fixed entries next = ([], refl, outside IsWritten MayTellWrite write_way start old new before after volume told who fixed entries ends)
write_of_volume start from old new (Ok u) before after ends volume told who fixed entries next =
    let all = all_made IsWritten MayTellWrite write_way start old new before after volume told who fixed entries (Ok u) ends.0 next in (all.0, (all.1, all.2), all.3)
write_of_volume start from old new (Err (Fault place)) before after ends volume told who fixed entries next =
    let all = all_made IsWritten MayTellWrite write_way start old new before after volume told who fixed entries (Err (Fault place)) ends.0 next in (all.0, (all.1, all.2), all.3)
write_of_volume start from old new (Err PowerLost) before after ends volume told who fixed entries next =
    let all = all_made IsWritten MayTellWrite write_way start old new before after volume told who fixed entries (Err PowerLost) ends.0 next in (all.0, (all.1, all.2), all.3)
