-- How a sector is read from one copy, and how each copy is made to hold a sector.
use Rattle.std.proofs.Common.{◌≡◌, inl, inr, ℕ, zero, suc, Bool, true, false, refl, sym, ◌∙◌, subst, ap, arith, List, length, Option, Some, None, Result, Ok, Err}
use Rattle.std.specs.Prelude.{◌||◌, is_some, IfSome}
use Rattle.vx_base.specs.Counts.{Rose}
use Rattle.vx_base.specs.Blocks.{Contents, AreBlocks}
use Rattle.vx_piece.specs.Seen.{Seen, Keeps, IsRead, HasCause as HasPieceCause}
use Rattle.vx_runs.specs.Part.{told_or}
use Rattle.vx_marks.specs.declared.marker.MarkFault.{MarkFault}
use Rattle.vx_marks.specs.declared.marker.MarkFault.TheVariants.{Failed, PowerLost, Busy}
use Rattle.vx_pages.specs.Sector.{KeepsPiece, copy_of, copy_tells, held, faults_at, is_cut, HasCause, Holds}
use Rattle.vx_pages.specs.Pieces.{PieceCause}
use Rattle.vx_pages.specs.Reading.{HasRisen, IsFaultAt, IsGot, IsGotOn, IsMended, IsMendedOn, IsWhatIs, PieceRisen}
use Rattle.vx_pages.specs.Stays.{piece_same}
use Rattle.vx_pages.proofs.Puts.{keeps_pair, no_second_step, first_cause, second_cause, faults_same, rose_on, whole_block}

-- ---- one copy is read

fault_at : (number : ℕ) (old new : Seen) (result : Result (Unit {0}) MarkFault) → PieceCause number old new result → IsFaultAt number result
fault_at number old new (Ok u) cause = tt
fault_at number old new (Err (Failed copy device)) cause = cause.0
fault_at number old new (Err PowerLost) cause = tt
fault_at number old new (Err Busy) cause = tt

first_causes : (f f' : Seen) (s : Option Seen) (result : Result (Unit {0}) MarkFault) → KeepsPiece f f' → PieceCause 0 f f' result →
    HasCause (faults_at (record { first = f; second = s })) (faults_at (record { first = f'; second = s })) (is_cut (record { first = f'; second = s })) result
first_causes f f' s (Ok u) step cause = same
  where
    same : (copy device : ℕ) → faults_at (record { first = f'; second = s }) copy device ≡ faults_at (record { first = f; second = s }) copy device
    same zero device = faults_same f f' device step cause
    same (suc zero) device = refl
    same (suc (suc n)) device = refl
first_causes f f' s (Err fault) step cause = first_cause f f' s fault step cause

pub got_first : (n : ℕ) (bytes : List ℕ) (f f' : Seen) (s : Option Seen) (result : Result (Unit {0}) MarkFault) → n ≡ 0 → IsGotOn 0 bytes f f' result →
    IsGot n bytes (record { first = f; second = s }) (record { first = f'; second = s }) result
got_first n bytes f f' s result is h =
    subst (λ (k : ℕ). IsGot k bytes (record { first = f; second = s }) (record { first = f'; second = s }) result) (sym is)
    (record {
      reads = record { kept = keeps_pair f f' s s h.kept (no_second_step s); told = told s };
      gives = h.gives;
      at = fault_at 0 f f' result h.cause;
      cause = first_causes f f' s result h.kept h.cause;
    })
  where
    told : (s : Option Seen) (m : ℕ) → (copy_of (record { first = f'; second = s }) m).told ≡ (copy_of (record { first = f; second = s }) m).told
    told s zero = h.told
    told None (suc m) = h.told
    told (Some p) (suc m) = refl

pub got_second : (n : ℕ) (bytes : List ℕ) (f p q : Seen) (result : Result (Unit {0}) MarkFault) → n ≡ 1 → IsGotOn 1 bytes p q result →
    IsGot n bytes (record { first = f; second = Some p }) (record { first = f; second = Some q }) result
got_second n bytes f p q result is h =
    subst (λ (k : ℕ). IsGot k bytes (record { first = f; second = Some p }) (record { first = f; second = Some q }) result) (sym is)
    (record {
      reads = record { kept = keeps_pair f f (Some p) (Some q) (piece_same f) h.kept; told = told };
      gives = h.gives;
      at = fault_at 1 p q result h.cause;
      cause = second_cause f f p q result (piece_same f) refl h.kept h.cause;
    })
  where
    told : (m : ℕ) → (copy_of (record { first = f; second = Some q }) m).told ≡ (copy_of (record { first = f; second = Some p }) m).told
    told zero = refl
    told (suc m) = h.told

-- ---- each copy is made to hold a sector

first_risen : (f f' : Seen) (s : Option Seen) (fault : MarkFault) → KeepsPiece f f' → PieceRisen {T = Unit {0}} 0 f f' (Err fault) →
    HasRisen {T = Unit {0}} (faults_at (record { first = f; second = s })) (faults_at (record { first = f'; second = s })) (is_cut (record { first = f'; second = s })) (Err fault)
first_risen f f' s (Failed copy device) h cause =
    subst (λ (n : ℕ). Rose (faults_at (record { first = f; second = s }) n device) (faults_at (record { first = f'; second = s }) n device)) (sym cause.0) (rose_on f f' device h cause.1 cause.2)
first_risen f f' s PowerLost h cause = rw cause refl
first_risen f f' s Busy h cause = cause

second_risen : (f f' p q : Seen) (result : Result (Unit {0}) MarkFault) → KeepsPiece p q → PieceRisen 1 p q result →
    HasRisen (faults_at (record { first = f; second = Some p })) (faults_at (record { first = f'; second = Some q })) (is_cut (record { first = f'; second = Some q })) result
second_risen f f' p q (Ok u) h cause = tt
second_risen f f' p q (Err (Failed copy device)) h cause =
    subst (λ (n : ℕ). Rose (faults_at (record { first = f; second = Some p }) n device) (faults_at (record { first = f'; second = Some q }) n device)) (sym cause.0) (rose_on p q device h cause.1 cause.2)
second_risen f f' p q (Err PowerLost) h cause = or_right f'.cut q.cut cause
  where
    or_right : (x y : Bool) → y ≡ true → (x || y) ≡ true
    or_right true y e = refl
    or_right false y e = e
second_risen f f' p q (Err Busy) h cause = cause

pub mend_stops : (bytes : List ℕ) (f f' : Seen) (s : Option Seen) (fault : MarkFault) → IsMendedOn {T = Unit {0}} 0 bytes f f' (Err fault) →
    IsMended {T = Unit {0}} bytes (record { first = f; second = s }) (record { first = f'; second = s }) (Err fault)
mend_stops bytes f f' s fault h = record { kept = keeps_pair f f' s s h.kept (no_second_step s); holds = λ n t. holds s n t; cause = first_risen f f' s fault h.kept h.cause }
  where
    holds : (s : Option Seen) (n : ℕ) → copy_tells (record { first = f; second = s }) n ≡ true → Holds {T = Unit {0}} bytes (held (record { first = f; second = s }) n) (held (record { first = f'; second = s }) n) (Err fault)
    holds s zero t = h.holds t
    holds None (suc n) t = h.holds t
    holds (Some p) (suc n) t = inl refl

pub mend_only : (bytes : List ℕ) (f f' : Seen) → IsMendedOn {T = Unit {0}} 0 bytes f f' (Ok tt) → IsMended {T = Unit {0}} bytes (record { first = f; second = None }) (record { first = f'; second = None }) (Ok tt)
mend_only bytes f f' h = record { kept = keeps_pair f f' None None h.kept tt; holds = λ n t. holds n t; cause = tt }
  where
    holds : (n : ℕ) → copy_tells (record { first = f; second = None }) n ≡ true → held (record { first = f'; second = None }) n ≡ bytes
    holds zero t = h.holds t
    holds (suc n) t = h.holds t

pub mend_both : (bytes : List ℕ) (f f' p q : Seen) (result : Result (Unit {0}) MarkFault) → IsMendedOn {T = Unit {0}} 0 bytes f f' (Ok tt) → IsMendedOn 1 bytes p q result →
    IsMended bytes (record { first = f; second = Some p }) (record { first = f'; second = Some q }) result
mend_both bytes f f' p q result one two =
    record {
      kept = keeps_pair f f' (Some p) (Some q) one.kept two.kept;
      holds = λ n t. holds result two.holds n t;
      cause = second_risen f f' p q result two.kept two.cause;
    }
  where
    holds : (result : Result (Unit {0}) MarkFault) → (is_some p.told ≡ true → Holds bytes (told_or p.told 0) (told_or q.told 0) result) → (n : ℕ) → copy_tells (record { first = f; second = Some p }) n ≡ true →
        Holds bytes (held (record { first = f; second = Some p }) n) (held (record { first = f'; second = Some q }) n) result
    holds (Ok u) h zero t = one.holds t
    holds (Ok u) h (suc n) t = h t
    holds (Err fault) h zero t = inr (one.holds t)
    holds (Err fault) h (suc n) t = h t

-- ---- one piece is read

module _ (bytes : List ℕ) (len : length bytes ≡ 512) where
  what_is : (told : Option Contents) → IfSome told (λ contents. AreBlocks bytes contents 0) → is_some told ≡ true → bytes ≡ told_or told 0
  what_is None blocks t = cc
  what_is (Some contents) blocks t = sym (whole_block bytes len) ∙ blocks 0 (omega arith)

  pub got_well : (copy : ℕ) (old new : Seen) → Keeps old new → IsRead old new → IfSome old.told (λ contents. AreBlocks bytes contents 0) → HasPieceCause {T = Unit {0}} old new (Ok tt) → IsGotOn {T = Unit {0}} copy bytes old new (Ok tt)
  got_well copy old new kept same blocks cause = record { kept = record { kept = kept; tells = ap (λ (t : Option Contents). is_some t) same.told }; told = same.told; gives = what_is old.told blocks; cause = cause.quiet }

  pub held_as : (other : List ℕ) (old : Seen) → length other ≡ 512 → bytes ≡ other → IfSome old.told (λ contents. AreBlocks other contents 0) → IsWhatIs bytes old
  held_as other old size same blocks t = rest old.told (subst (λ (b : List ℕ). IfSome old.told (λ contents. AreBlocks b contents 0)) (sym same) blocks) t
    where
      rest : (told : Option Contents) → IfSome told (λ contents. AreBlocks bytes contents 0) → is_some told ≡ true → bytes ≡ told_or told 0
      rest = what_is
