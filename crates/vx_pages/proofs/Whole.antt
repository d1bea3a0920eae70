-- What calls on all sectors of a page do one after another.
use Rattle.std.proofs.Common.{◌≡◌, inr, ℕ, suc, ◌<◌, Bool, true, false, refl, sym, ◌∙◌, ap, subst, arith, List, [], ◌∷◌, length, Result, Ok, Err}
use Rattle.std.specs.Prelude.{◌||◌}
use Rattle.vx_base.specs.Counts.{Rose}
use Rattle.vx_marks.specs.declared.marker.MarkFault.{MarkFault}
use Rattle.vx_marks.specs.declared.marker.MarkFault.TheVariants.{Failed, PowerLost, Busy}
use Rattle.vx_pages.specs.Sector.{Copies, SectorSeen, Goes, Turns, NoneLoose, Swept, BitPut, ShownPut, BitOpened, ShownMay, BitSet, ShownSet, BitLeft, ShownLeft, HasCause, faults_at, is_cut}
use Rattle.vx_pages.specs.Page.{EachSector, IsChanged, IsMarkedIn, IsUnmarkedIn, AllSet, AllLeft, asked, sector_at, faults_in, cut_in}
use Rattle.vx_pages.proofs.Ways.{sets, leaves}

pub each_then : (f g h : ℕ → SectorSeen → SectorSeen → Type 0) (a b c : List SectorSeen) → ((map : ℕ) (x y z : SectorSeen) → f map x y → g map y z → h map x z) →
    EachSector f a b → EachSector g b c → EachSector h a c
each_then f g h a b c both first last =
    record {
      size = last.size ∙ first.size;
      each = λ m lt. let e = first.size in both m _ _ _ (first.each m lt) (last.each m (omega (arith, e, lt)));
    }

faults_same : (xs ys : List SectorSeen) → length ys ≡ length xs → ((map : ℕ) → map < length xs → (sector_at ys map).copies ≡ (sector_at xs map).copies) → (copy device : ℕ) → faults_in ys copy device ≡ faults_in xs copy device
faults_same [] [] size same copy device = refl
faults_same [] (y ∷ ys) size same copy device = absurd (omega arith)
faults_same (x ∷ xs) [] size same copy device = absurd (omega arith)
faults_same (x ∷ xs) (y ∷ ys) size same copy device =
    let e : faults_at y.copies copy device ≡ faults_at x.copies copy device = ap (λ (c : Copies). faults_at c copy device) (same 0 (omega arith)) in
    let f = faults_same xs ys (omega arith) (λ map lt. same (suc map) (omega arith)) copy device in omega (arith, e, f)

cut_same : (xs ys : List SectorSeen) → length ys ≡ length xs → ((map : ℕ) → map < length xs → (sector_at ys map).copies ≡ (sector_at xs map).copies) → cut_in ys ≡ cut_in xs
cut_same [] [] size same = refl
cut_same [] (y ∷ ys) size same = absurd (omega arith)
cut_same (x ∷ xs) [] size same = absurd (omega arith)
cut_same (x ∷ xs) (y ∷ ys) size same =
    ap (λ (b : Bool). b || cut_in ys) (ap is_cut (same 0 (omega arith))) ∙ ap (λ (b : Bool). is_cut x.copies || b) (cut_same xs ys (omega arith) (λ map lt. same (suc map) (omega arith)))

all_set : (bits region : ℕ) (on : Bool) (a b c : List SectorSeen) → EachSector (λ map. Goes NoneLoose Swept) a b → IsChanged {T = Unit {0}} bits region on (Ok tt) b c → AllSet bits region on a c
all_set bits region on a b c first last =
    each_then (λ m. Goes NoneLoose Swept) (λ m. Goes (BitPut (asked bits region m) on) (ShownPut (asked bits region m) on)) (λ m. Goes (BitSet (asked bits region m) on) (ShownSet (asked bits region m) on)) a b c
    (λ m x y z one two. sets (asked bits region m) on x y z one two) first last

all_left : (bits region : ℕ) (on : Bool) (a b c : List SectorSeen) (fault : MarkFault) → EachSector (λ map. Goes NoneLoose Swept) a b → IsChanged {T = Unit {0}} bits region on (Err fault) b c → AllLeft bits region on a c
all_left bits region on a b c fault first last =
    each_then (λ m. Goes NoneLoose Swept) (λ m. Goes (BitOpened (asked bits region m)) (ShownMay (asked bits region m) on)) (λ m. Goes (BitLeft (asked bits region m)) (ShownLeft (asked bits region m) on)) a b c
    (λ m x y z one two. leaves (asked bits region m) on x y z one two) first last

pub marked : (bits region : ℕ) (a b c : List SectorSeen) (result : Result (Unit {0}) MarkFault) → EachSector (λ map. Goes NoneLoose Swept) a b → IsChanged bits region true result b c → IsMarkedIn bits region result a c
marked bits region a b c (Ok u) first last = all_set bits region true a b c first last
marked bits region a b c (Err fault) first last = inr (all_left bits region true a b c fault first last)

pub unmarked : (bits region : ℕ) (a b c : List SectorSeen) (result : Result (Unit {0}) MarkFault) → EachSector (λ map. Goes NoneLoose Swept) a b → IsChanged bits region false result b c → IsUnmarkedIn bits region result a c
unmarked bits region a b c (Ok u) first last = all_set bits region false a b c first last
unmarked bits region a b c (Err fault) first last = inr (all_left bits region false a b c fault first last)

-- memory alone was changed
pub turned_faults : (fact : ℕ → ℕ → Bool → Bool → Bool → Bool → Type 0) (xs ys : List SectorSeen) → EachSector (λ map. Turns (fact map)) xs ys → (copy device : ℕ) → faults_in ys copy device ≡ faults_in xs copy device
turned_faults fact xs ys h = faults_same xs ys h.size (λ map lt. (h.each map lt).copies)

pub turned_cut : (fact : ℕ → ℕ → Bool → Bool → Bool → Bool → Type 0) (xs ys : List SectorSeen) → EachSector (λ map. Turns (fact map)) xs ys → cut_in ys ≡ cut_in xs
turned_cut fact xs ys h = cut_same xs ys h.size (λ map lt. (h.each map lt).copies)

-- a cause stands when counts and power stay
pub cause_stays : (old mid new : ℕ → ℕ → ℕ) (cut cut' : Bool) (fault : MarkFault) → HasCause {T = Unit {0}} old mid cut (Err fault) → ((copy device : ℕ) → new copy device ≡ mid copy device) → cut' ≡ cut →
    HasCause {T = Unit {0}} old new cut' (Err fault)
cause_stays old mid new cut cut' (Failed copy device) cause same is =
    record {
      rose = subst (λ (n : ℕ). Rose (old copy device) n) (sym (same copy device)) cause.rose;
      others = λ copy' device' apart. same copy' device' ∙ cause.others copy' device' apart;
    }
cause_stays old mid new cut cut' PowerLost cause same is = is ∙ cause
cause_stays old mid new cut cut' Busy cause same is = cause

-- a cause stands when no count had risen before
pub cause_after : (old mid new : ℕ → ℕ → ℕ) (cut : Bool) (result : Result (Unit {0}) MarkFault) → ((copy device : ℕ) → mid copy device ≡ old copy device) → HasCause mid new cut result → HasCause old new cut result
cause_after old mid new cut (Ok u) quiet same = λ copy device. same copy device ∙ quiet copy device
cause_after old mid new cut (Err (Failed copy device)) quiet cause =
    record {
      rose = subst (λ (n : ℕ). Rose n (new copy device)) (quiet copy device) cause.rose;
      others = λ copy' device' apart. cause.others copy' device' apart ∙ quiet copy' device';
    }
cause_after old mid new cut (Err PowerLost) quiet cause = cause
cause_after old mid new cut (Err Busy) quiet cause = cause
