-- The first sectors of copies are written.
use Rattle.std.proofs.Common.{◌≡◌, ◌≢◌, inl, inr, ℕ, zero, suc, ◌+◌, ◌/◌, ◌%◌, ◌<◌, Bool, true, false, refl, sym, ◌∙◌, ap, subst, arith, List, length, Option, Some, None, Result, Ok, Err}
use Rattle.std.specs.Prelude.{is_some, not, nat_le, nat_lt, ◌&&◌}
use Rattle.std.specs.Global.{Vec}
use Rattle.std.proofs.Math.Nat.{zero-div}
use Rattle.std.proofs.lemmas.Bool.{cases_order}
use Rattle.vx_base.specs.Counts.{Rose}
use Rattle.vx_piece.specs.Seen.{Seen}
use Rattle.vx_marks.specs.declared.marker.MarkFault.{MarkFault}
use Rattle.vx_marks.specs.declared.marker.MarkFault.TheVariants.{Failed, PowerLost, Busy}
use Rattle.vx_mapfmt.specs.Sizes.{map_bytes_of}
use Rattle.vx_pages.specs.Sector.{Copies, AreSectors, HasCause, faults_at, or_first}
use Rattle.vx_maps.specs.Heads.{ArePut, HasFirst, HasFirstSecond, HaveFirst}
use Rattle.vx_maps.specs.Slots.{HoldsSingle, IsLaid, IsLaidOn, IsTakable, IsTakableSecond, IsPlaceable, IsPlaceableSecond, Moved, MovedBoth, MovedSecond, SheetsSeen, is_paged, slot_at}
use Rattle.vx_maps.specs.Wholes.{sheet_faults, second_faults}
use Rattle.vx_maps.specs.Spares.{HasRoom, HasRoomSecond}
use Rattle.vx_maps.specs.declared.joining.Spares.{Spares}

some_single : (x : Option Seen) → HoldsSingle x → is_some x ≡ true
some_single None h = absurd h
some_single (Some p) h = refl

takable_second : (second : Option (List (Option Seen))) → HasFirstSecond second → IsTakableSecond 0 second
takable_second None h = tt
takable_second (Some slots) h = (h.inside, some_single _ h.single)

pub takable_first : (sheets : SheetsSeen) → HaveFirst sheets → IsTakable 0 sheets
takable_first sheets h = record { inside = h.first.inside; first = some_single _ h.first.single; second = takable_second sheets.second h.second }

-- the holes are there to put the pieces back
place_second : (p : Option Seen) (pair : Bool) (out mid : Option (List (Option Seen))) → MovedSecond 0 p out mid → IsTakableSecond 0 out → pair ≡ is_some out → IsPlaceableSecond 0 pair mid
place_second None pair None None moved inside e = e
place_second None pair None (Some y) moved inside e = absurd moved
place_second None pair (Some x) y moved inside e = absurd moved
place_second (Some p) pair None y moved inside e = absurd moved
place_second (Some p) pair (Some x) None moved inside e = absurd moved
place_second (Some p) pair (Some x) (Some y) moved inside e = let s = moved.size in let i = inside.0 in (e, omega (arith, s, i), moved.gone)

pub placeable_first : (c : Copies) (pair : Bool) (out mid : SheetsSeen) → MovedBoth 0 c out mid → IsTakable 0 out → pair ≡ is_some out.second → IsPlaceable 0 pair mid
placeable_first c pair out mid moved inside e =
    record { inside = (let s = moved.first.size in let i = inside.inside in omega (arith, s, i)); first = moved.first.gone; second = place_second c.second pair out.second mid.second moved.second inside.second e }

-- ---- what stays

laid_one : (size count : ℕ) (p q : Seen) (old mid new : List (Option Seen)) → Moved 0 p old mid → Moved 0 q new mid → q.sectors ≡ 1 → IsLaidOn size count old → IsLaidOn size count new
laid_one size count p q old mid new out back one laid =
    let s = out.size in
    let t = back.size in
    record {
      long = (let l = laid.long in omega (arith, s, t, l));
      holes = λ k lt. same k ∙ laid.holes k (omega (arith, s, t, lt));
      single = λ k x lt is.
          elim (cases_order k 0) [
            | inl e ↦ by x (sym (ap (slot_at new) e ∙ back.was) ∙ is)
            | inr other ↦ laid.single k x lt (sym (elsewhere k (λ e. elim other [ inl low ↦ omega (arith, low, e) | inr high ↦ omega (arith, high, e) ])) ∙ is)
          ];
    }
  where
    elsewhere : (k : ℕ) → k ≢ 0 → slot_at new k ≡ slot_at old k
    elsewhere k apart = sym (back.others k apart) ∙ out.others k apart

    same : (k : ℕ) → is_some (slot_at new k) ≡ is_some (slot_at old k)
    same k =
        elim (cases_order k 0) [
          | inl e ↦ ap (λ (n : ℕ). is_some (slot_at new n)) e ∙ ap (λ (x : Option Seen). is_some x) back.was ∙ sym (ap (λ (n : ℕ). is_some (slot_at old n)) e ∙ ap (λ (x : Option Seen). is_some x) out.was)
          | inr other ↦ ap (λ (x : Option Seen). is_some x) (elsewhere k (λ e. elim other [ inl low ↦ omega (arith, low, e) | inr high ↦ omega (arith, high, e) ]))
        ]

    by : (x : Seen) → Some q ≡ Some x → x.sectors ≡ 1
    by x e = inside q x e one
      where
        inside : (a b : Seen) → Some a ≡ Some b → a.sectors ≡ 1 → b.sectors ≡ 1
        inside a b f g = cc

laid_second : (size count : ℕ) (p q : Option Seen) (old mid new : Option (List (Option Seen))) → MovedSecond 0 p old mid → MovedSecond 0 q new mid → ((x : Seen) → q ≡ Some x → x.sectors ≡ 1) → ((slots : List (Option Seen)) → old ≡ Some slots → IsLaidOn size count slots) →
    (slots : List (Option Seen)) → new ≡ Some slots → IsLaidOn size count slots
laid_second size count p q old mid None out back one laid slots e = cc
laid_second size count None q None None (Some z) out back one laid slots e = absurd (none q z back)
  where
    none : (q : Option Seen) (z : List (Option Seen)) → MovedSecond 0 q (Some z) None → ⊥
    none None z h = h
    none (Some q) z h = h
laid_second size count None q None (Some y) (Some z) out back one laid slots e = absurd out
laid_second size count None q (Some x) mid (Some z) out back one laid slots e = absurd out
laid_second size count (Some p) q None mid (Some z) out back one laid slots e = absurd out
laid_second size count (Some p) q (Some x) None (Some z) out back one laid slots e = absurd out
laid_second size count (Some p) None (Some x) (Some y) (Some z) out back one laid slots e = absurd back
laid_second size count (Some p) (Some q) (Some x) (Some y) (Some z) out back one laid slots e = subst (IsLaidOn size count) (inside z slots e) (laid_one size count p q x y z out back (one q refl) (laid x refl))
  where
    inside : (a b : List (Option Seen)) → Some a ≡ Some b → a ≡ b
    inside a b f = cc

second_single : (c : Copies) (x : Seen) → AreSectors c → c.second ≡ Some x → x.sectors ≡ 1
second_single c x are e = by c.first c.second x (are 1) e
  where
    by : (f : Seen) (s : Option Seen) (x : Seen) → (or_first f s).sectors ≡ 1 → s ≡ Some x → x.sectors ≡ 1
    by f None x h e = cc
    by f (Some y) x h e = cc

single_is : (x : Option Seen) (p : Seen) → x ≡ Some p → HoldsSingle x → p.sectors ≡ 1
single_is x p e h = subst HoldsSingle e h

before_single : (first : Seen) (p : Option Seen) (out mid : Option (List (Option Seen))) → first.sectors ≡ 1 → MovedSecond 0 p out mid → HasFirstSecond out → AreSectors (record { first = first; second = p })
before_single first p out mid is moved h zero = is
before_single first None None None is moved h (suc n) = is
before_single first None None (Some y) is moved h (suc n) = absurd moved
before_single first None (Some x) y is moved h (suc n) = absurd moved
before_single first (Some p) None y is moved h (suc n) = absurd moved
before_single first (Some p) (Some x) None is moved h (suc n) = absurd moved
before_single first (Some p) (Some x) (Some y) is moved h (suc n) = single_is _ p moved.was h.single

pub are_sectors : (before : Copies) (old mid : SheetsSeen) → MovedBoth 0 before old mid → HaveFirst old → AreSectors before
are_sectors before old mid out has = before_single before.first before.second old.second mid.second (single_is _ before.first out.first.was has.first.single) out.second has.second

pub laid_still : {T : Type 0} (bytes : List ℕ) (size count : ℕ) (old new : SheetsSeen) (result : Result T MarkFault) → ArePut bytes old new result → HaveFirst old → IsLaid size count old → IsLaid size count new
laid_still bytes size count old new result p has laid =
    let are = p.put.kept.sectors (are_sectors p.before old p.between p.out has) in
    record {
      first = laid_one size count p.before.first p.after.first old.first p.between.first new.first p.out.first p.back.first (are 0) laid.first;
      second = laid_second size count p.before.second p.after.second old.second p.between.second new.second p.out.second p.back.second (λ x e. second_single p.after x are e) laid.second;
    }

-- ---- what is there

paged_zero : (size count : ℕ) → is_paged size count 0 ≡ false
paged_zero size count = let z : 0 / size ≡ 0 = zero-div size in ap (λ (q : ℕ). (nat_le 3 q && nat_le 1 (0 % size)) && (nat_lt q 35 && nat_le (0 % size) count)) z

has_single : (x : Option Seen) → is_some x ≡ true → ((p : Seen) → x ≡ Some p → p.sectors ≡ 1) → HoldsSingle x
has_single None there single = cc
has_single (Some p) there single = single p refl

first_one : (size count : ℕ) (slots : List (Option Seen)) → 0 < size → IsLaidOn size count slots → HasFirst slots
first_one size count slots some laid =
    let l = laid.long in
    let inside : 0 < length slots = omega (arith, l, some) in
    record { inside = inside; single = has_single _ (laid.holes 0 inside ∙ ap (λ (b : Bool). not b) (paged_zero size count)) (λ p is. laid.single 0 p (omega (arith, some)) is) }

first_second : (size count : ℕ) (second : Option (List (Option Seen))) → 0 < size → ((slots : List (Option Seen)) → second ≡ Some slots → IsLaidOn size count slots) → HasFirstSecond second
first_second size count None some laid = tt
first_second size count (Some slots) some laid = first_one size count slots some (laid slots refl)

pub have_first : (size count : ℕ) (sheets : SheetsSeen) → 0 < size → IsLaid size count sheets → HaveFirst sheets
have_first size count sheets some laid = record { first = first_one size count sheets.first some laid.first; second = first_second size count sheets.second some laid.second }

pub some_size : (regions bytes : ℕ) → bytes ≡ map_bytes_of regions → 0 < bytes / 512
some_size regions bytes e = omega (arith, e)

-- ---- room and copies

pub second_there : (p q : Option Seen) (old mid new : Option (List (Option Seen))) → MovedSecond 0 p old mid → MovedSecond 0 q new mid → is_some new ≡ is_some old
second_there None None None None None out back = refl
second_there None None None None (Some z) out back = absurd back
second_there None (Some q) None None None out back = absurd back
second_there None (Some q) None None (Some z) out back = absurd back
second_there None q None (Some y) new out back = absurd out
second_there None q (Some x) mid new out back = absurd out
second_there (Some p) q None mid new out back = absurd out
second_there (Some p) q (Some x) None new out back = absurd out
second_there (Some p) None (Some x) (Some y) None out back = absurd back
second_there (Some p) None (Some x) (Some y) (Some z) out back = absurd back
second_there (Some p) (Some q) (Some x) (Some y) None out back = absurd back
second_there (Some p) (Some q) (Some x) (Some y) (Some z) out back = refl

module _ {P : Type 0} where
  room_second : (p q : Option Seen) (old mid new : Option (List (Option Seen))) (spare : Option (Vec P)) → MovedSecond 0 p old mid → MovedSecond 0 q new mid → HasRoomSecond old spare → HasRoomSecond new spare
  room_second None None None None None spare out back room = room
  room_second None None None None (Some z) spare out back room = absurd back
  room_second None (Some q) None None None spare out back room = absurd back
  room_second None (Some q) None None (Some z) spare out back room = absurd back
  room_second None q None (Some y) new spare out back room = absurd out
  room_second None q (Some x) mid new spare out back room = absurd out
  room_second (Some p) q None mid new spare out back room = absurd out
  room_second (Some p) q (Some x) None new spare out back room = absurd out
  room_second (Some p) None (Some x) (Some y) None spare out back room = absurd back
  room_second (Some p) None (Some x) (Some y) (Some z) spare out back room = absurd back
  room_second (Some p) (Some q) (Some x) (Some y) None spare out back room = absurd back
  room_second (Some p) (Some q) (Some x) (Some y) (Some z) None out back room = absurd room
  room_second (Some p) (Some q) (Some x) (Some y) (Some z) (Some s) out back room =
      let a = out.size in let b = back.size in let r = room.1 in (room.0, omega (arith, a, b, r))

  pub room_put : {T : Type 0} (bytes : List ℕ) (old new : SheetsSeen) (result : Result T MarkFault) (spares : Spares P) → ArePut bytes old new result → HasRoom old spares → HasRoom new spares
  room_put bytes old new result spares p room =
      let a = p.out.first.size in
      let b = p.back.first.size in
      let r = room.first.1 in
      record {
        first = (room.first.0, omega (arith, a, b, r));
        second = room_second p.before.second p.after.second old.second p.between.second new.second spares.second p.out.second p.back.second room.second;
        empty = room.empty;
        shell = room.shell;
      }

-- ---- counts

second_sum : (first : Seen) (p : Option Seen) (out mid : Option (List (Option Seen))) (device : ℕ) → MovedSecond 0 p out mid → second_faults device mid + faults_at (record { first = first; second = p }) 1 device ≡ second_faults device out
second_sum first None None None device moved = refl
second_sum first None None (Some y) device moved = absurd moved
second_sum first None (Some x) y device moved = absurd moved
second_sum first (Some p) None y device moved = absurd moved
second_sum first (Some p) (Some x) None device moved = absurd moved
second_sum first (Some p) (Some x) (Some y) device moved = moved.faults device

sums : (c : Copies) (out mid : SheetsSeen) → MovedBoth 0 c out mid → (copy device : ℕ) → sheet_faults copy device mid + faults_at c copy device ≡ sheet_faults copy device out
sums c out mid moved zero device = moved.first.faults device
sums c out mid moved (suc zero) device = second_sum c.first c.second out.second mid.second device moved.second
sums c out mid moved (suc (suc copy)) device = refl

same_more : (a b m o n : ℕ) → m + a ≡ o → m + b ≡ n → b ≡ a → n ≡ o
same_more a b m o n e f g = omega (arith, e, f, g)

rose_more : (a b m o n : ℕ) → m + a ≡ o → m + b ≡ n → Rose a b → Rose o n
rose_more a b m o n e f g = omega (arith, e, f, g)

pub heads_cause : (bytes : List ℕ) (old new : SheetsSeen) (cut : Bool) (result : Result (Unit {0}) MarkFault) → (p : ArePut bytes old new result) → HasCause (faults_at p.before) (faults_at p.after) cut result →
    HasCause (λ copy device. sheet_faults copy device old) (λ copy device. sheet_faults copy device new) cut result
heads_cause bytes old new cut (Ok u) p cause = λ copy device. same_more _ _ _ _ _ (sums p.before old p.between p.out copy device) (sums p.after new p.between p.back copy device) (cause copy device)
heads_cause bytes old new cut (Err (Failed copy device)) p cause = record {
  rose = rose_more _ _ _ _ _ (sums p.before old p.between p.out copy device) (sums p.after new p.between p.back copy device) cause.rose;
  others = λ copy' device' apart. same_more _ _ _ _ _ (sums p.before old p.between p.out copy' device') (sums p.after new p.between p.back copy' device') (cause.others copy' device' apart);
}
heads_cause bytes old new cut (Err PowerLost) p cause = cause
heads_cause bytes old new cut (Err Busy) p cause = cause
