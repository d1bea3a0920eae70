-- The entries that a receipt tells are those of the histories, told coarser where the call was stopped.
use Rattle.std.proofs.Common.{◌≡◌, ◌≢◌, ℕ, zero, suc, ◌+◌, ◌-◌, ◌*◌, ◌/◌, ◌<◌, ◌≤◌, true, refl, sym, ◌∙◌, ap, subst, inl, inr, arith, List, [], ◌∷◌, ◌++◌, length, map, Option, Some, None, Result}
use Rattle.std.specs.Prelude.{◌⊎◌, nat_le, nat_lt, take, drop}
use Rattle.std.proofs.lemmas.Bool.Decides.{nat_tests}
use Rattle.std.proofs.lemmas.List.{append-nil}
use Rattle.std.proofs.lemmas.Nat.{div-mul-add}
use Rattle.std.proofs.Math.Nat.{div-mul-le_self}
use Rattle.vx_base.specs.Blocks.{block_at, is_in}
use Rattle.vx_base.proofs.BlockLemmas.{block_at-part}
use Rattle.vx_block.specs.declared.geometry.Span.{Span}
use Rattle.vx_block.proofs.PartLemmas.{part_is}
use Rattle.vx_mask.proofs.Tests.{both_parts}
use Rattle.vx_life.specs.declared.EntryKind.{EntryKind}
use Rattle.vx_life.specs.declared.EntryKind.TheVariants as kinds
use Rattle.vx_life.specs.Entry.{Entry}
use Rattle.vx_core.specs.declared.stage.Phase.{Phase}
use Rattle.vx_core.specs.declared.stage.Phase.TheVariants.{Settled, Unsettled, Dead, Busy}
use Rattle.vx_core.specs.History.{AllOf}
use Rattle.vx_cell.specs.declared.fault.CellFault.{CellFault}
use Rattle.vx_cell.specs.declared.fault.CellFault.TheVariants as cell
use Rattle.vx_cell.specs.Changes.{CellSeen}
use Rattle.vx_cell.specs.Region.{RegionSeen}
use Rattle.vx_cell.specs.Running.{Caller}
use Rattle.vx_volume.specs.declared.receipt.Receipt.{Receipt}
use Rattle.vx_volume.specs.Calls.{Calling, CallsPart, IsRead, IsWritten, bytes_of, called}
use Rattle.vx_volume.specs.Laws.{AreMadeOf, MakesEntries, next_entry, values_of}
use Rattle.vx_volume.specs.Loop.{AreDone, stop_of}
use Rattle.vx_volume.specs.Retelling.{AreRetold, IsRetold}
use Rattle.vx_volume.specs.Volume.{IsVolume, VolumeSeen, cell_at, region_at}
use Rattle.vx_volume.proofs.Entries.{dead_or}
use Rattle.vx_volume.proofs.Ranges.{part_inside}
use Rattle.vx_moments.proofs.Blocks.{below_count}
use Rattle.vx_volume_laws.specs.Telling.{HoldFrom, IsOfPart}
use Rattle.vx_volume_laws.proofs.LivesOn.{IsPlaced}

-- ---- one entry

-- an entry of the first kind may be told as one of the second
abbrev pub MayBeTold : EntryKind → EntryKind → Type 0
MayBeTold kinds.Read kinds.Read = Unit {0}
MayBeTold kinds.Read kinds.Missed = Unit {0}
MayBeTold kinds.Missed kinds.Missed = Unit {0}
MayBeTold kinds.Write kinds.Write = Unit {0}
MayBeTold kinds.Write kinds.Torn = Unit {0}
MayBeTold kinds.Torn kinds.Torn = Unit {0}
MayBeTold _ _ = ⊥

next_retold : (kind told : EntryKind) → MayBeTold kind told → (r : RegionSeen) (who : Caller) (span : Span) (bytes : List ℕ) → IsRetold (next_entry r who span bytes kind) (next_entry r who span bytes told)
next_retold kinds.Read kinds.Read may r who span bytes = inl refl
next_retold kinds.Read kinds.Missed may r who span bytes = inr (inr (refl, refl))
next_retold kinds.Missed kinds.Missed may r who span bytes = inl refl
next_retold kinds.Write kinds.Write may r who span bytes = inl refl
next_retold kinds.Write kinds.Torn may r who span bytes = inr (inl (refl, refl))
next_retold kinds.Torn kinds.Torn may r who span bytes = inl refl
next_retold kind told may r who span bytes = absurd may

-- what a region that is not dead made
made_one : (phase : Phase) (may : EntryKind → Type 0) (entry : EntryKind → Entry) (made : List Entry) → (phase ≡ Dead → ⊥) → AreMadeOf phase may entry made → (kind : EntryKind) × may kind × (made ≡ entry kind ∷ [])
made_one Settled may entry made alive are = are
made_one Unsettled may entry made alive are = are
made_one (Busy w) may entry made alive are = are
made_one Dead may entry made alive are = absurd (alive refl)

made_dead : (phase : Phase) (may : EntryKind → Type 0) (entry : EntryKind → Entry) (made : List Entry) → phase ≡ Dead → AreMadeOf phase may entry made → made ≡ []
made_dead Settled may entry made dead are = cc
made_dead Unsettled may entry made dead are = cc
made_dead (Busy w) may entry made dead are = cc
made_dead Dead may entry made dead are = are

-- ---- lists

retold_more : (es fs : List Entry) (e f : Entry) → AreRetold es fs → IsRetold e f → AreRetold (es ++ e ∷ []) (fs ++ f ∷ [])
retold_more [] [] e f retold one = (one, tt)
retold_more [] (y ∷ ys) e f retold one = absurd retold
retold_more (x ∷ xs) [] e f retold one = absurd retold
retold_more (x ∷ xs) (y ∷ ys) e f retold one = (retold.0, retold_more xs ys e f retold.1 one)

hold_more : (fact : ℕ → Entry → Type 0) (index n : ℕ) (es : List Entry) (e : Entry) → HoldFrom fact index es → index + length es ≡ n → fact n e → HoldFrom fact index (es ++ e ∷ [])
hold_more fact index n [] e hold is one = (subst (λ (m : ℕ). fact m e) (omega (arith, is)) one, tt)
hold_more fact index n (x ∷ xs) e hold is one = (hold.0, hold_more fact (index + 1) n xs e hold.1 (omega (arith, is)) one)

length_more : (es : List Entry) (e : Entry) (n : ℕ) → length es ≡ n → length (es ++ e ∷ []) ≡ suc n
length_more [] e n is = omega (arith, is)
length_more (x ∷ xs) e zero is = absurd (omega (arith, is))
length_more (x ∷ xs) e (suc n) is = let rest = length_more xs e n (omega (arith, is)) in omega (arith, rest)

some_left : (es : List Entry) (e : Entry) → es ++ e ∷ [] ≡ [] → ⊥
some_left [] e is = cc
some_left (x ∷ xs) e is = cc

pub hold_as : (fact fact' : ℕ → Entry → Type 0) → ((i : ℕ) (e : Entry) → fact i e → fact' i e) → (index : ℕ) (es : List Entry) → HoldFrom fact index es → HoldFrom fact' index es
hold_as fact fact' turn index [] hold = tt
hold_as fact fact' turn index (e ∷ es) hold = (turn index e hold.0, hold_as fact fact' turn (index + 1) es hold.1)

pub hold_all : (fact : ℕ → Entry → Type 0) (all : Entry → Type 0) → ((i : ℕ) (e : Entry) → fact i e → all e) → (index : ℕ) (es : List Entry) → HoldFrom fact index es → AllOf all es
hold_all fact all turn index [] hold = tt
hold_all fact all turn index (e ∷ es) hold = (turn index e hold.0, hold_all fact all turn (index + 1) es hold.1)

pub same_parts : (es fs : List Entry) → AreRetold es fs → map (λ (e : Entry). e.part) fs ≡ map (λ (e : Entry). e.part) es
same_parts [] [] retold = refl
same_parts [] (f ∷ fs) retold = absurd retold
same_parts (e ∷ es) [] retold = absurd retold
same_parts (e ∷ es) (f ∷ fs) retold = cong2 f.part e.part _ _ (retold_part e f retold.0) (same_parts es fs retold.1)
  where
    cong2 : {X : Type 0} (x y : X) (xs ys : List X) → x ≡ y → xs ≡ ys → x ∷ xs ≡ y ∷ ys
    cong2 x y xs ys p q = rw (p, q) refl

    retold_part : (e f : Entry) → IsRetold e f → f.part ≡ e.part
    retold_part e f (inl same) = ap (λ (x : Entry). x.part) same
    retold_part e f (inr (inl torn)) = ap (λ (x : Entry). x.part) torn.1
    retold_part e f (inr (inr missed)) = ap (λ (x : Entry). x.part) missed.1

-- ---- the bytes of a part

-- a block is in a range
in_tests : (start count k : ℕ) → is_in start count k ≡ true → (start ≤ k) × (k < start + count)
in_tests start count k h =
    let parts = both_parts (nat_le start k) (nat_lt k (start + count)) h in (from parts.0, to parts.1)
  where
    from : nat_le start k ≡ true → start ≤ k
    from h = grind (arith, nat_tests)

    to : nat_lt k (start + count) ≡ true → k < start + count
    to h = grind (arith, nat_tests)

same_block : (bytes : List ℕ) (start from count k : ℕ) → start ≤ from → from ≤ k → k < from + count → block_at (take (512 * count) (drop (512 * (from - start)) bytes)) (k - from) ≡ block_at bytes (k - start)
same_block bytes start from count k first low high =
    let sum : from - start + (k - from) ≡ k - start = omega (arith, first, low) in
    block_at-part bytes (from - start) (512 * count) (k - from) (omega (arith, low, high)) ∙ ap (λ (n : ℕ). block_at bytes n) sum

-- the bytes of a part are those that the range has there
part_values : (kind : EntryKind) (start : ℕ) (span : Span) (bytes : List ℕ) → start ≤ span.start → (k : ℕ) → is_in span.start span.count k ≡ true → values_of kind span.start (bytes_of bytes start span) k ≡ values_of kind start bytes k
part_values kinds.Read start span bytes first k here = let at = in_tests span.start span.count k here in same_block bytes start span.start span.count k first at.0 at.1
part_values kinds.Write start span bytes first k here = let at = in_tests span.start span.count k here in same_block bytes start span.start span.count k first at.0 at.1
part_values kinds.Torn start span bytes first k here = let at = in_tests span.start span.count k here in same_block bytes start span.start span.count k first at.0 at.1
part_values kinds.Missed start span bytes first k here = refl

-- ---- the parts of a call

-- blocks of one region
same_quotient : (size a k : ℕ) → a ≤ k → k < a / size * size + size → k / size ≡ a / size
same_quotient size a k from to =
    let low : a / size * size ≤ a = div-mul-le_self a size in
    let is : k ≡ a / size * size + (k - a / size * size) = omega (arith, low, from) in
    ap (λ (n : ℕ). n / size) is ∙ div-mul-add (a / size) size (k - a / size * size) (omega (arith, low, from, to))

module _ (v : VolumeSeen) (volume : IsVolume v) (sized : 0 < v.region) (epoch : ℕ) (epochs : (r : ℕ) → r < length v.cells → (cell_at v r).epoch ≡ epoch)
    (may : Option CellFault → EntryKind → Type 0) (who : Caller) (start : ℕ) (receipt : Receipt) (some : 0 < receipt.count) (inside : start + receipt.count ≤ v.length) (told : EntryKind) where
  -- an entry as it is told
  pub record IsTold (index : ℕ) (e : Entry) : Type 0 where
    pub of : IsOfPart told v.region who start receipt index e
    pub placed : IsPlaced v.length v.region (length v.cells) epoch e

  -- the region of a part is not dead
  abbrev Lives : ℕ → Type 0
  Lives i = (cell_at v (start / v.region + i)).stage.phase ≡ Dead → ⊥

  one_told : (n : ℕ) (stop : Option CellFault) (old new : List Entry) → MakesEntries may v who start receipt.count receipt.blocks.items n stop old new →
      ((kind : EntryKind) → may stop kind → MayBeTold kind told) → Lives n →
      (e : Entry) × (f : Entry) × (new ≡ old ++ e ∷ []) × IsRetold e f × IsTold n f
  one_told n stop old new call turn lives =
      let span = call.span in
      let r = call.region in
      let place = part_is v.region start receipt.count n sized some span call.part in
      let one = part_inside v v.region v.length start receipt.count n span refl refl sized inside place in
      let at : span.start / v.region ≡ r = place.region ∙ sym call.is_region in
      let low : span.start < v.length = omega (arith, one.inside, place.some) in
      let below : r < length v.cells = subst (λ (m : ℕ). m < length v.cells) at (subst (λ (m : ℕ). span.start / v.region < m) (sym volume.count) (below_count span.start v.length v.region sized low)) in
      let alive : (cell_at v r).stage.phase ≡ Dead → ⊥ = λ dead. lives (ap (λ (m : ℕ). (cell_at v m).stage.phase) (sym call.is_region) ∙ dead) in
      let entry : (EntryKind → Entry) = next_entry (region_at v r) who span (bytes_of receipt.blocks.items start span) in
      let is = made_one (cell_at v r).stage.phase (may stop) entry call.made alive call.are in
      let index = (volume.each r below).index in (
        entry is.0,
        entry told,
        call.after ∙ ap (λ (es : List Entry). old ++ es) is.2,
        next_retold is.0 told (turn is.0 is.1) (region_at v r) who span (bytes_of receipt.blocks.items start span),
        record {
          of = record { region = index ∙ call.is_region; range = call.part; session = refl; place = refl; kind_is = refl; values = part_values told start span receipt.blocks.items place.from };
          placed = record {
            inside = subst (λ (m : ℕ). m < length v.cells) (sym index) below;
            epoch_is = epochs r below;
            here = λ k here.
                let at_k = in_tests span.start span.count k here in
                (omega (arith, at_k.1, one.inside), same_quotient v.region span.start k at_k.0 (omega (arith, at_k.1, one.one)) ∙ at ∙ sym index);
          };
        },
      )

  -- the entries of the first parts, as they are told
  pub record AreToldAs (n : ℕ) (made fs : List Entry) : Type 0 where
    pub retold : AreRetold made fs
    pub each : HoldFrom IsTold 0 fs
    pub count : length fs ≡ n

  told_more : (n : ℕ) (mid made fs : List Entry) (e f : Entry) → AreToldAs n mid fs → made ≡ mid ++ e ∷ [] → IsRetold e f → IsTold n f → AreToldAs (suc n) made (fs ++ f ∷ [])
  told_more n mid made fs e f before is retold one =
      record {
        retold = subst (λ (es : List Entry). AreRetold es (fs ++ f ∷ [])) (sym is) (retold_more mid fs e f before.retold retold);
        each = hold_more IsTold 0 n fs f before.each (omega (arith, before.count)) one;
        count = length_more fs f n before.count;
      }

  pub all_told : ((kind : EntryKind) → may None kind → MayBeTold kind told) → (n : ℕ) (made : List Entry) → AreDone (MakesEntries may v who start receipt.count receipt.blocks.items) n [] made →
      ((i : ℕ) → i < n → Lives i) → (fs : List Entry) × AreToldAs n made fs
  all_told turn zero made done lives = ([], record { retold = subst (λ (es : List Entry). AreRetold es []) (sym done) tt; each = tt; count = refl })
  all_told turn (suc n) made done lives =
      let before = all_told turn n done.0 done.1 (λ i lt. lives i (omega (arith, lt))) in
      let one = one_told n None done.0 made done.2 turn (lives n (omega arith)) in
      (before.0 ++ one.1 ∷ [], told_more n done.0 made before.0 one.0 one.1 before.1 one.2 one.3 one.4)

  -- with the one that was stopped, where its region was not dead
  pub stopped_told : ((stop : Option CellFault) (kind : EntryKind) → may stop kind → MayBeTold kind told) → (fault : CellFault) (n : ℕ) (mid made : List Entry) →
      AreDone (MakesEntries may v who start receipt.count receipt.blocks.items) n [] mid → MakesEntries may v who start receipt.count receipt.blocks.items n (Some fault) mid made →
      ((i : ℕ) → i < n → Lives i) → (fs : List Entry) × (m : ℕ) × AreToldAs m made fs × (Lives n → fs ≢ [])
  stopped_told turn fault n mid made done last lives =
      let before = all_told (turn None) n mid done lives in
      dead_or (cell_at v (start / v.region + n)).stage.phase
      (λ dead.
      let phase : (cell_at v last.region).stage.phase ≡ Dead = ap (λ (m : ℕ). (cell_at v m).stage.phase) last.is_region ∙ dead in
      let none = made_dead (cell_at v last.region).stage.phase (may (Some fault)) (next_entry (region_at v last.region) who last.span (bytes_of receipt.blocks.items start last.span)) last.made phase last.are in
      let same : made ≡ mid = last.after ∙ ap (λ (es : List Entry). mid ++ es) none ∙ append-nil mid in
      (before.0, n, subst (λ (es : List Entry). AreToldAs n es before.0) (sym same) before.1, λ alive e. alive dead))
      (λ alive.
      let one = one_told n (Some fault) mid made last (turn (Some fault)) alive in
      (before.0 ++ one.1 ∷ [], suc n, told_more n mid made before.0 one.0 one.1 before.1 one.2 one.3 one.4, λ lives e. some_left before.0 one.1 e))

-- ---- regions of parts that were done are not dead

-- a call of a dead region is not begun
abbrev pub IsNeverDead : (Span → List ℕ → Option CellFault → RegionSeen → RegionSeen → Type 0) → Type 0
IsNeverDead Way = (span : Span) (bytes : List ℕ) (stop : Option CellFault) (old new : RegionSeen) → Way span bytes stop old new → old.stage.phase ≡ Dead → stop ≡ Some cell.PowerLost

pub read_alive : IsNeverDead IsRead
read_alive span bytes stop old new is dead = is.stopped ∙ ap (λ (result : Result ℕ CellFault). stop_of result) (is.ended.dead dead).answer

pub write_alive : IsNeverDead IsWritten
write_alive span bytes stop old new is dead = is.stopped ∙ ap (λ (result : Result ℕ CellFault). stop_of result) (is.ended.dead dead).answer

module _ (Way : Span → List ℕ → Option CellFault → RegionSeen → RegionSeen → Type 0) (never : IsNeverDead Way) (v : VolumeSeen) (start count : ℕ) (bytes : List ℕ) where
  abbrev Alive : ℕ → Type 0
  Alive i = (cell_at v (start / v.region + i)).stage.phase ≡ Dead → ⊥

  -- the regions behind the first parts are as they were
  record AreBehind (n : ℕ) (now : Calling) : Type 0 where
    pub size : now.volume.region ≡ v.region
    pub later : (i : ℕ) → start / v.region + n ≤ i → cell_at now.volume i ≡ cell_at v i

  -- what stops the call of a dead region
  stop_dead : (n : ℕ) (stop : Option CellFault) (mid new : Calling) → AreBehind n mid → CallsPart Way start count bytes n stop mid new → (cell_at v (start / v.region + n)).stage.phase ≡ Dead → stop ≡ Some cell.PowerLost
  stop_dead n stop mid new behind call dead =
      let r = call.region in
      let at : r ≡ start / v.region + n = call.is_region ∙ ap (λ (s : ℕ). start / s + n) behind.size in
      let same : cell_at mid.volume r ≡ cell_at v r = behind.later r (omega (arith, at)) in
      let phase : (cell_at mid.volume r).stage.phase ≡ Dead = ap (λ (c : CellSeen). c.stage.phase) same ∙ ap (λ (m : ℕ). (cell_at v m).stage.phase) at ∙ dead in
      never call.span (bytes_of bytes start call.span) stop (region_at mid.volume r) (region_at new.volume r) call.ends.goes phase

  parts_alive : (n : ℕ) (now : Calling) → AreDone (CallsPart Way start count bytes) n (record { volume = called v; parts = [] }) now → AreBehind n now × ((i : ℕ) → i < n → Alive i)
  parts_alive zero now done = (subst (λ (c : Calling). AreBehind zero c) (sym done) (record { size = refl; later = λ i le. refl }), λ i lt. absurd (omega (arith, lt)))
  parts_alive (suc n) now done =
      let before = parts_alive n done.0 done.1 in
      let call = done.2 in
      let at : call.region ≡ start / v.region + n = call.is_region ∙ ap (λ (s : ℕ). start / s + n) before.0.size in (
        record {
          size = ap (λ (x : VolumeSeen). x.region) call.ends.same ∙ before.0.size;
          later = λ i le. call.ends.others i (λ e. absurd (omega (arith, at, e, le))) ∙ before.0.later i (omega (arith, le));
        },
        λ i lt. alive_at i n lt (before.1 i) (λ dead. none_some (stop_dead n None done.0 now before.0 call dead)),
      )
    where
      none_some : {X : Type 0} {x : X} → (let o : Option X = None in o) ≡ Some x → ⊥
      none_some e = cc

      below_or : (i n : ℕ) → i < suc n → (i < n) ⊎ (i ≡ n)
      below_or i n lt = grind (arith)

      alive_at : (i n : ℕ) → i < suc n → (i < n → Alive i) → Alive n → Alive i
      alive_at i n lt before last = elim (below_or i n lt) [ inl less ↦ before less | inr same ↦ subst (λ (m : ℕ). Alive m) (sym same) last ]

  pub done_alive : (n : ℕ) (now : Calling) → AreDone (CallsPart Way start count bytes) n (record { volume = called v; parts = [] }) now → (i : ℕ) → i < n → Alive i
  done_alive n now done = (parts_alive n now done).1

  pub stopped_alive : (n : ℕ) (fault : CellFault) (mid new : Calling) → AreDone (CallsPart Way start count bytes) n (record { volume = called v; parts = [] }) mid → CallsPart Way start count bytes n (Some fault) mid new →
      (fault ≡ cell.PowerLost → ⊥) → Alive n
  stopped_alive n fault mid new done call lost dead = lost (some_same (stop_dead n (Some fault) mid new (parts_alive n mid done).0 call dead))
    where
      some_same : {a b : CellFault} → Some a ≡ Some b → a ≡ b
      some_same e = cc
