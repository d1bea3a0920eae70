-- How slots, pages and stores go on: where one piece is changed, and from one call to the next.
use Rattle.std.proofs.Common.{◌≡◌, ◌≢◌, inl, inr, ℕ, refl, sym, ◌∙◌, ap, subst, arith, List, [], Option, Some, None, Result, Ok, Err}
use Rattle.std.specs.Prelude.{is_some}
use Rattle.std.specs.Global.{Vec}
use Rattle.std.proofs.lemmas.Bool.{cases_order}
use Rattle.vx_piece.specs.Seen.{Seen}
use Rattle.vx_pages.specs.declared.local_piece.LocalPiece.{Ghosts}
use Rattle.vx_pages.specs.Items.{EachItem}
use Rattle.vx_pages.specs.Sector.{Copies, SectorSeen, KeepsPiece, KeepsSector, copy_of}
use Rattle.vx_pages.specs.Page.{EachSector, no_sector}
use Rattle.vx_pages.specs.Reading.{ReadsSector}
use Rattle.vx_pages.specs.Stays.{piece_same, piece_then}
use Rattle.vx_pages.proofs.SameCopies.{copies_then}
use Rattle.vx_maps.specs.Slots.{IsLaid, IsLaidOn, Moved, MovedBoth, MovedSecond, SheetsSeen, slot_at}
use Rattle.vx_maps.specs.Spares.{HasRoom, HasRoomSecond}
use Rattle.vx_pages.specs.Pages.{PiecesGo, RowGoes}
use Rattle.vx_maps.specs.Going.{GridGoes, ReadsPiece, SecondGoes, SheetsGo, SlotGoes, SlotsGo, StoreGoes}
use Rattle.vx_maps.specs.Loading.{GridMaySettle, GridReads, GridSettled, IsSettledAs}
use Rattle.vx_marks.specs.declared.marker.MarkFault.{MarkFault}
use Rattle.vx_maps.specs.declared.store.MapStore.{MapStore}
use Rattle.vx_maps.specs.declared.joining.Spares.{Spares}

-- ---- one piece is changed

module _ (rel : Seen → Seen → Type 0) (same : (p : Seen) → rel p p) where
  slot_same : (x : Option Seen) → SlotGoes rel x x
  slot_same None = tt
  slot_same (Some p) = same p

  slots_same : (xs : List (Option Seen)) → SlotsGo rel xs xs
  slots_same xs = record { size = refl; each = λ k. slot_same (slot_at xs k) }

  second_same : (x : Option (List (Option Seen))) → SecondGoes rel x x
  second_same None = tt
  second_same (Some xs) = slots_same xs

  pub sheets_same : (s : SheetsSeen) → SheetsGo rel s s
  sheets_same s = record { first = slots_same s.first; second = second_same s.second }

  slots_changed : (p q : Seen) (old mid new : List (Option Seen)) → Moved 0 p old mid → Moved 0 q new mid → rel p q → SlotsGo rel old new
  slots_changed p q old mid new out back change =
      record {
        size = sym back.size ∙ out.size;
        each = λ k.
            elim (cases_order k 0) [
              | inl e ↦ subst (λ (n : ℕ). SlotGoes rel (slot_at old n) (slot_at new n)) (sym e) here
              | inr other ↦ subst (λ (a : Option Seen). SlotGoes rel (slot_at old k) a) (sym (elsewhere k (λ e. elim other [ inl low ↦ omega (arith, low, e) | inr high ↦ omega (arith, high, e) ]))) (slot_same (slot_at old k))
            ];
      }
    where
      here : SlotGoes rel (slot_at old 0) (slot_at new 0)
      here = subst (λ (a : Option Seen). SlotGoes rel a (slot_at new 0)) (sym out.was) (subst (λ (b : Option Seen). SlotGoes rel (Some p) b) (sym back.was) change)

      elsewhere : (k : ℕ) → k ≢ 0 → slot_at new k ≡ slot_at old k
      elsewhere k apart = sym (back.others k apart) ∙ out.others k apart

  second_changed : (f f' : Seen) (p q : Option Seen) (old mid new : Option (List (Option Seen))) → MovedSecond 0 p old mid → MovedSecond 0 q new mid →
      ((n : ℕ) → rel (copy_of (record { first = f; second = p }) n) (copy_of (record { first = f'; second = q }) n)) → SecondGoes rel old new
  second_changed f f' None None None None None out back r = tt
  second_changed f f' None None None None (Some z) out back r = absurd back
  second_changed f f' None (Some q) None None None out back r = absurd back
  second_changed f f' None (Some q) None None (Some z) out back r = absurd back
  second_changed f f' None q None (Some y) new out back r = absurd out
  second_changed f f' None q (Some x) mid new out back r = absurd out
  second_changed f f' (Some p) q None mid new out back r = absurd out
  second_changed f f' (Some p) q (Some x) None new out back r = absurd out
  second_changed f f' (Some p) None (Some x) (Some y) None out back r = absurd back
  second_changed f f' (Some p) None (Some x) (Some y) (Some z) out back r = absurd back
  second_changed f f' (Some p) (Some q) (Some x) (Some y) None out back r = absurd back
  second_changed f f' (Some p) (Some q) (Some x) (Some y) (Some z) out back r = slots_changed p q x y z out back (r 1)

  pub sheets_changed : (c c' : Copies) (old mid new : SheetsSeen) → MovedBoth 0 c old mid → MovedBoth 0 c' new mid → ((n : ℕ) → rel (copy_of c n) (copy_of c' n)) → SheetsGo rel old new
  sheets_changed c c' old mid new out back r =
      record { first = slots_changed c.first c'.first old.first mid.first new.first out.first back.first (r 0); second = second_changed c.first c'.first c.second c'.second old.second mid.second new.second out.second back.second r }

-- ---- items

pub items_then : {A : Type 0} (none : A) (f g h : ℕ → A → A → Type 0) → ((i : ℕ) (a b c : A) → f i a b → g i b c → h i a c) → (xs ys zs : List A) → EachItem none f xs ys → EachItem none g ys zs → EachItem none h xs zs
items_then none f g h on xs ys zs one two = record { size = two.size ∙ one.size; each = λ i lt. on i _ _ _ (one.each i lt) (two.each i (let s = one.size in omega (arith, s, lt))) }

pub items_weaker : {A : Type 0} (none : A) (f g : ℕ → A → A → Type 0) → ((i : ℕ) (a b : A) → f i a b → g i a b) → (xs ys : List A) → EachItem none f xs ys → EachItem none g xs ys
items_weaker none f g on xs ys each = record { size = each.size; each = λ i lt. on i _ _ (each.each i lt) }

-- ---- one call after another

module _ (one two both : Seen → Seen → Type 0) (on : (a b c : Seen) → one a b → two b c → both a c) where
  slot_then : (x y z : Option Seen) → SlotGoes one x y → SlotGoes two y z → SlotGoes both x z
  slot_then None None None f g = tt
  slot_then None None (Some r) f g = absurd g
  slot_then None (Some q) z f g = absurd f
  slot_then (Some p) None z f g = absurd f
  slot_then (Some p) (Some q) None f g = absurd g
  slot_then (Some p) (Some q) (Some r) f g = on p q r f g

  slots_then : (x y z : List (Option Seen)) → SlotsGo one x y → SlotsGo two y z → SlotsGo both x z
  slots_then x y z f g = record { size = g.size ∙ f.size; each = λ k. slot_then _ _ _ (f.each k) (g.each k) }

  second_then : (x y z : Option (List (Option Seen))) → SecondGoes one x y → SecondGoes two y z → SecondGoes both x z
  second_then None None None f g = tt
  second_then None None (Some r) f g = absurd g
  second_then None (Some q) z f g = absurd f
  second_then (Some p) None z f g = absurd f
  second_then (Some p) (Some q) None f g = absurd g
  second_then (Some p) (Some q) (Some r) f g = slots_then p q r f g

  pub sheets_then : (x y z : SheetsSeen) → SheetsGo one x y → SheetsGo two y z → SheetsGo both x z
  sheets_then x y z f g = record { first = slots_then _ _ _ f.first g.first; second = second_then _ _ _ f.second g.second }

  pieces_then : (a b c : Copies) → PiecesGo one a b → PiecesGo two b c → PiecesGo both a c
  pieces_then a b c f g = record { pair = g.pair ∙ f.pair; each = λ n. on _ _ _ (f.each n) (g.each n) }

  pub grid_then : (x y z : List (List SectorSeen)) → GridGoes one x y → GridGoes two y z → GridGoes both x z
  grid_then =
      items_then [] (λ i. RowGoes one) (λ i. RowGoes two) (λ i. RowGoes both)
      (λ i. items_then no_sector (λ m a b. PiecesGo one a.copies b.copies) (λ m a b. PiecesGo two a.copies b.copies) (λ m a b. PiecesGo both a.copies b.copies) (λ m a b c. pieces_then a.copies b.copies c.copies))

  pub store_then : {P : Type 0} {ghosts : Ghosts P} (a b c : MapStore P ghosts) → StoreGoes ghosts.seen one a b → StoreGoes ghosts.seen two b c → StoreGoes ghosts.seen both a c
  store_then a b c f g = record { shape = g.shape ∙ f.shape; places = g.places ∙ f.places; sheets = sheets_then _ _ _ f.sheets g.sheets; grid = grid_then _ _ _ f.grid g.grid }

pub reads_same : (p : Seen) → ReadsPiece p p
reads_same p = record { kept = piece_same p; told = refl }

pub reads_then : (a b c : Seen) → ReadsPiece a b → ReadsPiece b c → ReadsPiece a c
reads_then a b c f g = record { kept = piece_then a b c f.kept g.kept; told = g.told ∙ f.told }

pub keeps_reads : (a b c : Seen) → ReadsPiece a b → KeepsPiece b c → KeepsPiece a c
keeps_reads a b c f g = piece_then a b c f.kept g

-- ---- of pages

pub grid_same : (rel : Seen → Seen → Type 0) → ((p : Seen) → rel p p) → (xs : List (List SectorSeen)) → GridGoes rel xs xs
grid_same rel same xs = record { size = refl; each = λ i lt. record { size = refl; each = λ m inside. record { pair = refl; each = λ n. same _ } } }

reads_pieces : (m : ℕ) (a b : SectorSeen) → ReadsSector a b → PiecesGo ReadsPiece a.copies b.copies
reads_pieces m a b h = record { pair = h.copies.kept.pair; each = λ n. record { kept = h.copies.kept.each n; told = h.copies.told n } }

pub grid_reads : (xs ys : List (List SectorSeen)) → GridReads xs ys → GridGoes ReadsPiece xs ys
grid_reads = items_weaker [] (λ i. EachSector (λ m. ReadsSector)) (λ i. RowGoes ReadsPiece) (λ i. items_weaker no_sector (λ m. ReadsSector) (λ m a b. PiecesGo ReadsPiece a.copies b.copies) reads_pieces)

kept_pieces : (m : ℕ) (a b : SectorSeen) → KeepsSector a b → PiecesGo KeepsPiece a.copies b.copies
kept_pieces m a b h = record { pair = h.pair; each = h.each }

grid_may : (rows : List (List (List ℕ))) (xs ys : List (List SectorSeen)) → GridMaySettle rows xs ys → GridGoes KeepsPiece xs ys
grid_may rows xs ys each = record { size = each.size; each = λ i lt. let row = each.each i lt in record { size = row.size; each = λ m inside. kept_pieces m _ _ (row.each m inside).kept } }

pub grid_settled : (rows : List (List (List ℕ))) (xs ys : List (List SectorSeen)) → GridSettled rows xs ys → GridGoes KeepsPiece xs ys
grid_settled rows xs ys each = record { size = each.size; each = λ i lt. let row = each.each i lt in record { size = row.size; each = λ m inside. kept_pieces m _ _ (row.each m inside).kept } }

pub grid_read_then : (xs ys zs : List (List SectorSeen)) → GridReads xs ys → GridReads ys zs → GridReads xs zs
grid_read_then =
    items_then [] (λ i. EachSector (λ m. ReadsSector)) (λ i. EachSector (λ m. ReadsSector)) (λ i. EachSector (λ m. ReadsSector))
    (λ i. items_then no_sector (λ m. ReadsSector) (λ m. ReadsSector) (λ m. ReadsSector) (λ m a b c f g.
    record {
      copies = record { kept = copies_then a.copies b.copies c.copies f.copies.kept g.copies.kept; told = λ n. g.copies.told n ∙ f.copies.told n };
      sure = g.sure ∙ f.sure;
      loose = g.loose ∙ f.loose;
    }))

-- ---- what stays

room_second : {P : Type 0} (rel : Seen → Seen → Type 0) (x y : Option (List (Option Seen))) (spare : Option (Vec P)) → SecondGoes rel x y → HasRoomSecond x spare → HasRoomSecond y spare
room_second rel None None None go room = tt
room_second rel None None (Some v) go room = absurd room
room_second rel None (Some ys) spare go room = absurd go
room_second rel (Some xs) None spare go room = absurd go
room_second rel (Some xs) (Some ys) None go room = absurd room
room_second rel (Some xs) (Some ys) (Some v) go room = (room.0, let s = go.size in let r = room.1 in omega (arith, s, r))

pub room_goes : {P : Type 0} (rel : Seen → Seen → Type 0) (old new : SheetsSeen) (spares : Spares P) → SheetsGo rel old new → HasRoom old spares → HasRoom new spares
room_goes rel old new spares go room =
    record {
      first = (room.first.0, let s = go.first.size in let r = room.first.1 in omega (arith, s, r));
      second = room_second rel old.second new.second spares.second go.second room.second;
      empty = room.empty;
      shell = room.shell;
    }

module _ (rel : Seen → Seen → Type 0) (sectors : (p q : Seen) → rel p q → q.sectors ≡ p.sectors) where
  there : (x y : Option Seen) → SlotGoes rel x y → is_some y ≡ is_some x
  there None None go = refl
  there None (Some q) go = absurd go
  there (Some p) None go = absurd go
  there (Some p) (Some q) go = refl

  single : (x y : Option Seen) (q : Seen) → SlotGoes rel x y → y ≡ Some q → ((p : Seen) → x ≡ Some p → p.sectors ≡ 1) → q.sectors ≡ 1
  single None None q go is one = cc
  single None (Some r) q go is one = absurd go
  single (Some p) None q go is one = absurd go
  single (Some p) (Some r) q go is one =
      let e : r ≡ q = cc in ap (λ (x : Seen). x.sectors) (sym e) ∙ sectors p r go ∙ one p refl

  laid_one : (size count : ℕ) (xs ys : List (Option Seen)) → SlotsGo rel xs ys → IsLaidOn size count xs → IsLaidOn size count ys
  laid_one size count xs ys go laid =
      record {
        long = (let s = go.size in let l = laid.long in omega (arith, s, l));
        holes = λ k lt. there _ _ (go.each k) ∙ laid.holes k (let s = go.size in omega (arith, s, lt));
        single = λ k p lt is. single _ _ p (go.each k) is (λ q e. laid.single k q lt e);
      }

  laid_two : (size count : ℕ) (x y : Option (List (Option Seen))) → SecondGoes rel x y → ((slots : List (Option Seen)) → x ≡ Some slots → IsLaidOn size count slots) → (slots : List (Option Seen)) → y ≡ Some slots → IsLaidOn size count slots
  laid_two size count None None go laid slots is = cc
  laid_two size count None (Some ys) go laid slots is = absurd go
  laid_two size count (Some xs) None go laid slots is = absurd go
  laid_two size count (Some xs) (Some ys) go laid slots is = let e : ys ≡ slots = cc in subst (IsLaidOn size count) e (laid_one size count xs ys go (laid xs refl))

  pub laid_goes : (size count : ℕ) (old new : SheetsSeen) → SheetsGo rel old new → IsLaid size count old → IsLaid size count new
  laid_goes size count old new go laid = record { first = laid_one size count old.first new.first go.first laid.first; second = laid_two size count old.second new.second go.second laid.second }

pub second_goes : (rel : Seen → Seen → Type 0) (x y : Option (List (Option Seen))) → SecondGoes rel x y → is_some y ≡ is_some x
second_goes rel None None go = refl
second_goes rel None (Some ys) go = absurd go
second_goes rel (Some xs) None go = absurd go
second_goes rel (Some xs) (Some ys) go = refl

pub store_same : {P : Type 0} {ghosts : Ghosts P} (store : MapStore P ghosts) → StoreGoes ghosts.seen KeepsPiece store store
store_same store = record { shape = refl; places = refl; sheets = sheets_same KeepsPiece piece_same _; grid = grid_same KeepsPiece piece_same _ }

-- a store that was read keeps its pieces
pub store_keeps : {P : Type 0} {ghosts : Ghosts P} (old new : MapStore P ghosts) → StoreGoes ghosts.seen ReadsPiece old new → StoreGoes ghosts.seen KeepsPiece old new
store_keeps old new go = store_then ReadsPiece KeepsPiece KeepsPiece keeps_reads old new new go (store_same new)

pub settled_as : (rows : List (List (List ℕ))) (xs ys : List (List SectorSeen)) (result : Result (Unit {0}) MarkFault) → IsSettledAs rows xs ys result → GridGoes KeepsPiece xs ys
settled_as rows xs ys (Ok u) each = grid_settled rows xs ys each
settled_as rows xs ys (Err fault) each = grid_may rows xs ys each
