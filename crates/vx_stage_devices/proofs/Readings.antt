-- Devices in hand that were read.
use Rattle.std.proofs.Common.{◌≡◌, ◌∙◌, ◌+◌, ◌≤◌, Bool, true, false, List, [], ◌∷◌, map, refl, sym, ap, arith}
use Rattle.vx_pages.specs.declared.local_piece.LocalPiece.{Ghosts}
use Rattle.vx_base.specs.Counts.{later_count}
use Rattle.vx_base.specs.Named.{Word}
use Rattle.vx_piece.specs.Seen.{Seen, Keeps, IsRead}
use Rattle.vx_copies.specs.Lists.{Each, AllOf}
use Rattle.vx_moments.specs.Moment.{Moment, WritesNone}
use Rattle.vx_moments.specs.Holding.{is_among}
use Rattle.vx_stages.specs.Stages.{ReadsEach, ReadsAtMost}
use Rattle.vx_house.specs.Goes.{IsStill}
use Rattle.vx_house.specs.Holders.{Holder, holders, hand_holder, hand_names, held_as}
use Rattle.vx_house.specs.Scene.{Shelved, count_in, counts_of}
use Rattle.vx_house.specs.View.{at, IsMoment}
use Rattle.vx_house.specs.declared.house.House.{House}
use Rattle.vx_house.specs.declared.house.Taken.{Taken}
use Rattle.vx_stage_devices.specs.Looks.{IsOnlyRead, IsReadOnce}
use Rattle.vx_house.proofs.Readings.{IsReadOn, read_self}
use Rattle.vx_house.proofs.Steps.{IsStep, HeldStep, held_steps, place_by, faults_by}
use Rattle.vx_copies.proofs.StepLaws.{each_map}
use Rattle.vx_house.proofs.Hands.{none_in_hand}

only_read : {P : Type 0} (see : P → Seen) (t u : Taken P) → IsOnlyRead see t u → IsReadOn t.device (see t.piece) (see u.piece)
only_read see t u read = record { kept = read.kept; same = read.same }

-- a device of which one sector was read at most where it is among these, and else none
pub record IsLooked (names : List Word) (name : Word) (old new : Seen) : Type 0 where
  pub read : IsReadOn name old new
  pub these : is_among name names ≡ true → new.reads ≤ old.reads + 1
  pub others : is_among name names ≡ false → new.reads ≡ old.reads

pub looked_on : (names : List Word) (name : Word) (s t : Seen) → IsLooked names name s t → Keeps s t
looked_on names name s t looked = looked.read.kept

pub looked_told : (names : List Word) (name : Word) (s t : Seen) → IsLooked names name s t → t.told ≡ s.told
looked_told names name s t looked = looked.read.same.told

pub looked_self : (names : List Word) (hs : List Holder) → AllOf (λ o. IsLooked names o.name o.seen o.seen) hs
looked_self names [] = tt
looked_self names (h ∷ hs) = (record { read = read_self h.name h.seen; these = λ is. omega arith; others = λ is. refl }, looked_self names hs)

-- a device that was read once where it is among these, and else not at all
pub record IsCounted (names : List Word) (name : Word) (old new : Seen) : Type 0 where
  pub read : IsReadOn name old new
  pub quiet : new.faults ≡ old.faults
  pub these : is_among name names ≡ true → new.reads ≡ later_count old.reads 1
  pub others : is_among name names ≡ false → new.reads ≡ old.reads

pub counted_on : (names : List Word) (name : Word) (s t : Seen) → IsCounted names name s t → Keeps s t
counted_on names name s t counted = counted.read.kept

pub counted_told : (names : List Word) (name : Word) (s t : Seen) → IsCounted names name s t → t.told ≡ s.told
counted_told names name s t counted = counted.read.same.told

not_both : (b : Bool) → b ≡ true → b ≡ false → ⊥
not_both b t f = cc

pub counted_self : (names : List Word) (hs : List Holder) → AllOf (λ o. is_among o.name names ≡ false) hs → AllOf (λ o. IsCounted names o.name o.seen o.seen) hs
counted_self names [] all = tt
counted_self names (h ∷ hs) all = (record { read = read_self h.name h.seen; quiet = refl; these = λ t. absurd (not_both (is_among h.name names) t all.0); others = λ f. refl }, counted_self names hs all.1)

-- each of these is among them
pub looked_each : {P : Type 0} (see : P → Seen) (names : List Word) (ts us : List (Taken P)) → AllOf (λ t. is_among t.device names ≡ true) ts → Each (IsOnlyRead see) ts us → Each (IsStep (IsLooked names)) (map (hand_holder see) ts) (map (hand_holder see) us)
looked_each see names [] [] all each = tt
looked_each see names [] (u ∷ us) all each = absurd each
looked_each see names (t ∷ ts) [] all each = absurd each
looked_each see names (t ∷ ts) (u ∷ us) all each = (
  record { name = each.0.device; goes = record { read = only_read see t u each.0; these = λ is. each.0.most; others = λ f. absurd (not_both (is_among t.device names) all.0 f) } },
  looked_each see names ts us all.1 each.1,
)

pub counted_each : {P : Type 0} (see : P → Seen) (names : List Word) (ts us : List (Taken P)) → AllOf (λ t. is_among t.device names ≡ true) ts → Each (IsReadOnce see) ts us → Each (IsStep (IsCounted names)) (map (hand_holder see) ts) (map (hand_holder see) us)
counted_each see names [] [] all each = tt
counted_each see names [] (u ∷ us) all each = absurd each
counted_each see names (t ∷ ts) [] all each = absurd each
counted_each see names (t ∷ ts) (u ∷ us) all each = (
  record { name = each.0.read.device; goes = record { read = only_read see t u each.0.read; quiet = each.0.quiet; these = λ is. each.0.once; others = λ f. absurd (not_both (is_among t.device names) all.0 f) } },
  counted_each see names ts us all.1 each.1,
)

-- The counts of what was read.
module _ {P : Type 0} {ghosts : Ghosts P} (see : P → Seen) (h k : House P ghosts) (shelf : Shelved) (m : Moment) (is : IsMoment see (at shelf h) m) where
  pub writes_none : (Q : Word → Seen → Seen → Type 0) → ((name : Word) (s t : Seen) → Q name s t → IsRead s t) → (ns : List Holder) → Each (IsStep Q) (holders see h) ns → WritesNone m.counts (counts_of (record { shelf = shelf; taken = ns }))
  writes_none Q read ns each name =
      place_by (Q name) (λ a b. count_in (λ seen. seen.writes) 0 b ≡ count_in (λ seen. seen.writes) 0 a) (held_as (holders see h) name) (held_as ns name) shelf.free name (held_steps Q (holders see h) ns name each)
      (λ none o. refl) (λ s t q. (read name s t q).writes)
      ∙ sym (is.counts.writes name)

  pub reads_these : (ns : List Holder) → Each (IsStep (IsCounted (hand_names h))) (holders see h) ns → ReadsEach (hand_names h) m.counts (counts_of (record { shelf = shelf; taken = ns }))
  reads_these ns each = record {
    these = λ name among.
        place_by (IsCounted (hand_names h) name) (λ a b. count_in (λ seen. seen.reads) 0 b ≡ later_count (count_in (λ seen. seen.reads) 0 a) 1) (held_as (holders see h) name) (held_as ns name) shelf.free name (step name)
        (λ none o. absurd (not_both (is_among name (hand_names h)) among (none_in_hand see h name none))) (λ s t q. q.these among)
        ∙ ap (λ n. later_count n 1) (sym (is.counts.reads name));
    others = λ name away.
        place_by (IsCounted (hand_names h) name) (λ a b. count_in (λ seen. seen.reads) 0 b ≡ count_in (λ seen. seen.reads) 0 a) (held_as (holders see h) name) (held_as ns name) shelf.free name (step name)
        (λ none o. refl) (λ s t q. q.others away)
        ∙ sym (is.counts.reads name);
    writes = writes_none (IsCounted (hand_names h)) (λ name s t q. q.read.same) ns each;
    quiet = record {
      devices = λ name. faults_by (IsCounted (hand_names h) name) (λ a b. b ≡ a) (held_as (holders see h) name) (held_as ns name) (shelf.counted name) (step name) refl (λ s t q. q.quiet) ∙ sym (is.counts.faults name);
      shelf = sym is.counts.shelf;
    };
  }
    where
      step : (name : Word) → HeldStep (IsCounted (hand_names h) name) (held_as (holders see h) name) (held_as ns name)
      step name = held_steps (IsCounted (hand_names h)) (holders see h) ns name each

  pub reads_most : (ns : List Holder) → Each (IsStep (IsLooked (hand_names h))) (holders see h) ns → ReadsAtMost (hand_names h) m.counts (counts_of (record { shelf = shelf; taken = ns }))
  reads_most ns each = record {
    these = λ name among.
        let up = place_by (IsLooked (hand_names h) name) (λ a b. count_in (λ seen. seen.reads) 0 b ≤ count_in (λ seen. seen.reads) 0 a + 1) (held_as (holders see h) name) (held_as ns name) shelf.free name (step name)
        (λ none o. omega arith) (λ s t q. q.these among) in
        let e = is.counts.reads name in omega (arith, up, e);
    others = λ name away.
        place_by (IsLooked (hand_names h) name) (λ a b. count_in (λ seen. seen.reads) 0 b ≡ count_in (λ seen. seen.reads) 0 a) (held_as (holders see h) name) (held_as ns name) shelf.free name (step name)
        (λ none o. refl) (λ s t q. q.others away)
        ∙ sym (is.counts.reads name);
    writes = writes_none (IsLooked (hand_names h)) (λ name s t q. q.read.same) ns each;
  }
    where
      step : (name : Word) → HeldStep (IsLooked (hand_names h) name) (held_as (holders see h) name) (held_as ns name)
      step name = held_steps (IsLooked (hand_names h)) (holders see h) ns name each

-- the house is as before, but that its hand was read
pub still_each : {P : Type 0} (see : P → Seen) (ts us : List (Taken P)) → Each (IsReadOnce see) ts us → Each (IsStill see) ts us
still_each see ts us each = each_map (IsReadOnce see) (IsStill see) (λ t u read. record { device = read.read.device; sectors = read.read.kept.sectors; told = read.read.same.told }) ts us each
