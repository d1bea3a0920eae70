-- How a sector is written on one copy after the other.
use Rattle.std.proofs.Common.{◌≡◌, ◌≢◌, ◌⊎◌, inl, inr, ℕ, zero, suc, ◌≤◌, Bool, true, false, refl, sym, ◌∙◌, subst, arith, List, length, Option, Some, None, Result, Ok, Err}
use Rattle.std.specs.Prelude.{◌+◌, ◌/◌, ◌==◌, ◌||◌, is_some, if◌then◌else◌}
use Rattle.std.proofs.lemmas.List.{take_all}
use Rattle.std.proofs.lemmas.Bool.{cond-true, cond-false, eq-eqb, ne_eqb}
use Rattle.vx_base.specs.Counts.{Rose, later_count}
use Rattle.vx_base.specs.Blocks.{Contents, block_at, written}
use Rattle.vx_base.proofs.BlockLemmas.{written_in}
use Rattle.vx_piece.specs.Seen.{Seen, Keeps, Writes, IsOff, IsWritten, HasCause as HasPieceCause}
use Rattle.vx_piece.specs.declared.piece.PieceFault.{PieceFault}
use Rattle.vx_piece.specs.declared.piece.PieceFault.TheVariants as piece
use Rattle.vx_runs.specs.Part.{told_or}
use Rattle.vx_marks.specs.declared.marker.MarkFault.{MarkFault}
use Rattle.vx_marks.specs.declared.marker.MarkFault.TheVariants.{Failed, PowerLost, Busy}
use Rattle.vx_pages.specs.Sector.{KeepsPiece, copy_of, copy_tells, held, faults_on, faults_at, is_cut, KeepsCopies, RiseAt, HasCause, Holds, IsPut, SectorHands}
use Rattle.vx_pages.specs.Counts.{Hands}
use Rattle.vx_pages.specs.Pieces.{PieceCause, IsPutOn}
use Rattle.vx_pages.specs.Stays.{piece_same}

-- ---- one piece

-- what becomes of the one sector of a piece
pub whole_block : (bytes : List ℕ) → length bytes ≡ 512 → block_at bytes 0 ≡ bytes
whole_block bytes len = take_all 512 bytes (omega arith)

put_block : (bytes : List ℕ) (old : Contents) → length bytes ≡ 512 → written 0 bytes old 0 ≡ bytes
put_block bytes old len = written_in 0 bytes old 0 (omega arith) (omega arith) ∙ whole_block bytes len

told_same : {T E : Type 0} (bytes : List ℕ) (old new : Option Contents) (result : Result T E) → Writes 0 bytes old new result → is_some new ≡ is_some old
told_same bytes None None result w = refl
told_same bytes None (Some new) result w = absurd w
told_same bytes (Some old) None result w = absurd w
told_same bytes (Some old) (Some new) result w = refl

told_put : (bytes : List ℕ) (old new : Option Contents) → length bytes ≡ 512 → Writes {T = Unit {0}} {E = PieceFault} 0 bytes old new (Ok tt) → is_some old ≡ true → told_or new 0 ≡ bytes
told_put bytes None new len w t = cc
told_put bytes (Some old) None len w t = absurd w
told_put bytes (Some old) (Some new) len w t = w 0 ∙ put_block bytes old len

told_torn : {E : Type 0} (bytes : List ℕ) (old new : Option Contents) (e : E) → length bytes ≡ 512 → Writes {T = Unit {0}} 0 bytes old new (Err e) → is_some old ≡ true → (told_or new 0 ≡ told_or old 0) ⊎ (told_or new 0 ≡ bytes)
told_torn bytes None new e len w t = cc
told_torn bytes (Some old) None e len w t = absurd w
told_torn bytes (Some old) (Some new) e len w t = elim (w 0) [ inl same ↦ inl same | inr is ↦ inr (is ∙ put_block bytes old len) ]

-- one sector was handed over
one_done : (cut : Bool) (old new len : ℕ) → len ≡ 512 → cut ≢ true → new ≡ (if cut then old else later_count old (len / 512)) → new ≡ later_count old 1
one_done true old new len whole on is = absurd (on refl)
one_done false old new len whole on is = omega (arith, whole, is)

one_most : (cut : Bool) (old new len : ℕ) → len ≡ 512 → new ≡ (if cut then old else later_count old (len / 512)) → new ≤ old + 1
one_most true old new len whole is = omega (arith, is)
one_most false old new len whole is = omega (arith, whole, is)

module _ (number : ℕ) (bytes : List ℕ) (old new : Seen) (len : length bytes ≡ 512) (kept : Keeps old new) where
  pub put_well : IsWritten {T = Unit {0}} {E = PieceFault} 0 bytes old new (Ok tt) → (old.cut ≡ true → IsOff {T = Unit {0}} old new (Ok tt)) → HasPieceCause {T = Unit {0}} old new (Ok tt) →
      IsPutOn {T = Unit {0}} number bytes old new (Ok tt)
  put_well w off cause =
      record {
        kept = kept;
        tells = told_same bytes old.told new.told _ w.told;
        holds = told_put bytes old.told new.told len w.told;
        cause = cause.quiet;
        counts = record { writes = one_done old.cut _ _ (length bytes) len (λ cut. let e = (off cut).answer in cc) w.writes; reads = w.reads };
      }

  pub put_failed : (result : Result (Unit {0}) PieceFault) (device : ℕ) → result ≡ Err piece.Failed → device ≡ old.device → IsWritten 0 bytes old new result → HasPieceCause old new result →
      IsPutOn {T = Unit {0}} number bytes old new (Err (Failed number device))
  put_failed result device is who w cause =
      record {
        kept = kept;
        tells = told_same bytes old.told new.told _ w.told;
        holds = told_torn bytes old.told new.told piece.Failed len (subst (λ (r : Result (Unit {0}) PieceFault). Writes 0 bytes old.told new.told r) is w.told);
        cause = (refl, who, cause.failed is);
        counts = record { writes = one_most old.cut _ _ (length bytes) len w.writes; reads = w.reads };
      }

  pub put_cut : (result : Result (Unit {0}) PieceFault) → result ≡ Err piece.PowerLost → IsWritten 0 bytes old new result → HasPieceCause old new result → IsPutOn {T = Unit {0}} number bytes old new (Err PowerLost)
  put_cut result is w cause =
      record {
        kept = kept;
        tells = told_same bytes old.told new.told _ w.told;
        holds = told_torn bytes old.told new.told piece.PowerLost len (subst (λ (r : Result (Unit {0}) PieceFault). Writes 0 bytes old.told new.told r) is w.told);
        cause = cause.cut is;
        counts = record { writes = one_most old.cut _ _ (length bytes) len w.writes; reads = w.reads };
      }

-- ---- the pieces of both copies

abbrev SecondSteps : Option Seen → Option Seen → Type 0
SecondSteps None None = Unit {0}
SecondSteps (Some p) (Some q) = KeepsPiece p q
SecondSteps _ _ = ⊥

steps_of : {T : Type 0} (number : ℕ) (bytes : List ℕ) (old new : Seen) (result : Result T MarkFault) → IsPutOn number bytes old new result → KeepsPiece old new
steps_of number bytes old new result h = record { kept = h.kept; tells = h.tells }

pub no_second_step : (s : Option Seen) → SecondSteps s s
no_second_step None = tt
no_second_step (Some p) = piece_same p

le_cond : (b : Bool) (m n : ℕ) → m ≤ n → (if b then m else 0) ≤ (if b then n else 0)
le_cond true m n le = le
le_cond false m n le = omega arith

faults_le : (p q : Seen) (device : ℕ) → KeepsPiece p q → faults_on p device ≤ faults_on q device
faults_le p q device h = rw h.kept.device (le_cond (p.device == device) p.faults q.faults h.kept.faults)

cut_stays : (p q : Seen) → KeepsPiece p q → p.cut ≡ true → q.cut ≡ true
cut_stays p q h is = h.kept.cut is

or_later : (x y x' y' : Bool) → (x ≡ true → x' ≡ true) → (y ≡ true → y' ≡ true) → (x || y) ≡ true → (x' || y') ≡ true
or_later true y x' y' first second h = rw (first refl) refl
or_later false y true y' first second h = refl
or_later false y false y' first second h = second h

pub keeps_pair : (f f' : Seen) (s s' : Option Seen) → KeepsPiece f f' → SecondSteps s s' → KeepsCopies (record { first = f; second = s }) (record { first = f'; second = s' })
keeps_pair f f' None None one two =
    record {
      each = each;
      sectors = λ h. sectors h;
      pair = refl;
      tells = rw one.tells refl;
      faults = faults;
      cut = or_later f.cut false f'.cut false (cut_stays f f' one) (λ h. h);
    }
  where
    each : (n : ℕ) → KeepsPiece (copy_of (record { first = f; second = None }) n) (copy_of (record { first = f'; second = None }) n)
    each zero = one
    each (suc n) = one

    sectors : ((n : ℕ) → (copy_of (record { first = f; second = None }) n).sectors ≡ 1) → (n : ℕ) → (copy_of (record { first = f'; second = None }) n).sectors ≡ 1
    sectors h zero = one.kept.sectors ∙ h 0
    sectors h (suc n) = one.kept.sectors ∙ h 0

    faults : (copy device : ℕ) → faults_at (record { first = f; second = None }) copy device ≤ faults_at (record { first = f'; second = None }) copy device
    faults zero device = faults_le f f' device one
    faults (suc zero) device = omega arith
    faults (suc (suc n)) device = omega arith
keeps_pair f f' None (Some q) one two = absurd two
keeps_pair f f' (Some p) None one two = absurd two
keeps_pair f f' (Some p) (Some q) one two =
    record {
      each = each;
      sectors = λ h. sectors h;
      pair = refl;
      tells = rw (one.tells, two.tells) refl;
      faults = faults;
      cut = or_later f.cut p.cut f'.cut q.cut (cut_stays f f' one) (cut_stays p q two);
    }
  where
    each : (n : ℕ) → KeepsPiece (copy_of (record { first = f; second = Some p }) n) (copy_of (record { first = f'; second = Some q }) n)
    each zero = one
    each (suc n) = two

    sectors : ((n : ℕ) → (copy_of (record { first = f; second = Some p }) n).sectors ≡ 1) → (n : ℕ) → (copy_of (record { first = f'; second = Some q }) n).sectors ≡ 1
    sectors h zero = one.kept.sectors ∙ h 0
    sectors h (suc n) = two.kept.sectors ∙ h 1

    faults : (copy device : ℕ) → faults_at (record { first = f; second = Some p }) copy device ≤ faults_at (record { first = f'; second = Some q }) copy device
    faults zero device = faults_le f f' device one
    faults (suc zero) device = faults_le p q device two
    faults (suc (suc n)) device = omega arith

-- ---- causes

pub faults_same : (p q : Seen) (device : ℕ) → KeepsPiece p q → q.faults ≡ p.faults → faults_on q device ≡ faults_on p device
faults_same p q device h same = rw (h.kept.device, same) refl

faults_here : (p : Seen) (device : ℕ) → device ≡ p.device → faults_on p device ≡ p.faults
faults_here p device is = cond-true _ _ _ (eq-eqb p.device device (sym is))

faults_elsewhere : (p : Seen) (device other : ℕ) → device ≡ p.device → other ≢ device → faults_on p other ≡ 0
faults_elsewhere p device other is apart = cond-false _ _ _ (ne_eqb p.device other (λ e. apart (sym e ∙ sym is)))

pub rose_on : (p q : Seen) (device : ℕ) → KeepsPiece p q → device ≡ p.device → Rose p.faults q.faults → Rose (faults_on p device) (faults_on q device)
rose_on p q device h is rose = rw (faults_here p device is, faults_here q device (is ∙ sym h.kept.device)) rose

still_elsewhere : (p q : Seen) (device other : ℕ) → KeepsPiece p q → device ≡ p.device → other ≢ device → faults_on q other ≡ faults_on p other
still_elsewhere p q device other h is apart = faults_elsewhere q device other (is ∙ sym h.kept.device) apart ∙ sym (faults_elsewhere p device other is apart)

first_rose : (f f' : Seen) (s : Option Seen) (device : ℕ) → KeepsPiece f f' → device ≡ f.device → Rose f.faults f'.faults → RiseAt 0 device (faults_at (record { first = f; second = s })) (faults_at (record { first = f'; second = s }))
first_rose f f' s device h is rose = record { rose = rose_on f f' device h is rose; others = others }
  where
    others : (copy' device' : ℕ) → (copy' ≡ 0 → device' ≢ device) → faults_at (record { first = f'; second = s }) copy' device' ≡ faults_at (record { first = f; second = s }) copy' device'
    others zero device' apart = still_elsewhere f f' device device' h is (apart refl)
    others (suc zero) device' apart = refl
    others (suc (suc n)) device' apart = refl

second_rose : (f f' p q : Seen) (device : ℕ) → KeepsPiece f f' → f'.faults ≡ f.faults → KeepsPiece p q → device ≡ p.device → Rose p.faults q.faults →
    RiseAt 1 device (faults_at (record { first = f; second = Some p })) (faults_at (record { first = f'; second = Some q }))
second_rose f f' p q device one quiet h is rose = record { rose = rose_on p q device h is rose; others = others }
  where
    others : (copy' device' : ℕ) → (copy' ≡ 1 → device' ≢ device) → faults_at (record { first = f'; second = Some q }) copy' device' ≡ faults_at (record { first = f; second = Some p }) copy' device'
    others zero device' apart = faults_same f f' device' one quiet
    others (suc zero) device' apart = still_elsewhere p q device device' h is (apart refl)
    others (suc (suc n)) device' apart = refl

pub first_cause : (f f' : Seen) (s : Option Seen) (fault : MarkFault) → KeepsPiece f f' → PieceCause {T = Unit {0}} 0 f f' (Err fault) →
    HasCause {T = Unit {0}} (faults_at (record { first = f; second = s })) (faults_at (record { first = f'; second = s })) (is_cut (record { first = f'; second = s })) (Err fault)
first_cause f f' s (Failed copy device) h cause =
    subst (λ (n : ℕ). RiseAt n device (faults_at (record { first = f; second = s })) (faults_at (record { first = f'; second = s }))) (sym cause.0) (first_rose f f' s device h cause.1 cause.2)
first_cause f f' s PowerLost h cause = rw cause refl
first_cause f f' s Busy h cause = cause

pub second_cause : (f f' p q : Seen) (result : Result (Unit {0}) MarkFault) → KeepsPiece f f' → f'.faults ≡ f.faults → KeepsPiece p q → PieceCause 1 p q result →
    HasCause (faults_at (record { first = f; second = Some p })) (faults_at (record { first = f'; second = Some q })) (is_cut (record { first = f'; second = Some q })) result
second_cause f f' p q (Ok u) one quiet h cause = same
  where
    same : (copy device : ℕ) → faults_at (record { first = f'; second = Some q }) copy device ≡ faults_at (record { first = f; second = Some p }) copy device
    same zero device = faults_same f f' device one quiet
    same (suc zero) device = faults_same p q device h cause
    same (suc (suc n)) device = refl
second_cause f f' p q (Err (Failed copy device)) one quiet h cause =
    subst (λ (n : ℕ). RiseAt n device (faults_at (record { first = f; second = Some p })) (faults_at (record { first = f'; second = Some q }))) (sym cause.0)
    (second_rose f f' p q device one quiet h cause.1 cause.2)
second_cause f f' p q (Err PowerLost) one quiet h cause = or_right f'.cut q.cut cause
  where
    or_right : (x y : Bool) → y ≡ true → (x || y) ≡ true
    or_right true y e = refl
    or_right false y e = e
second_cause f f' p q (Err Busy) one quiet h cause = cause

-- ---- counts

no_hands : (p : Seen) (fault : MarkFault) → Hands {T = Unit {0}} 1 (Err fault) p p
no_hands p fault = record { writes = omega arith; reads = refl }

one_hands : (p q : Seen) (result : Result (Unit {0}) MarkFault) → Hands {T = Unit {0}} 1 (Ok tt) p q → Hands 1 result p q
one_hands p q (Ok u) h = h
one_hands p q (Err fault) h = record { writes = let e = h.writes in omega (arith, e); reads = h.reads }

first_hands : (f f' : Seen) (s : Option Seen) (fault : MarkFault) → Hands {T = Unit {0}} 1 (Err fault) f f' → SectorHands {T = Unit {0}} 1 (Err fault) (record { first = f; second = s }) (record { first = f'; second = s })
first_hands f f' s fault h = record { each = each s; idle = λ e. absurd (omega (arith, e)) }
  where
    each : (s : Option Seen) (k : ℕ) → Hands {T = Unit {0}} 1 (Err fault) (copy_of (record { first = f; second = s }) k) (copy_of (record { first = f'; second = s }) k)
    each s zero = h
    each None (suc k) = h
    each (Some p) (suc k) = no_hands p fault

only_hands : (f f' : Seen) → Hands {T = Unit {0}} 1 (Ok tt) f f' → SectorHands {T = Unit {0}} 1 (Ok tt) (record { first = f; second = None }) (record { first = f'; second = None })
only_hands f f' h = record { each = each; idle = λ e. absurd (omega (arith, e)) }
  where
    each : (k : ℕ) → Hands {T = Unit {0}} 1 (Ok tt) (copy_of (record { first = f; second = None }) k) (copy_of (record { first = f'; second = None }) k)
    each zero = h
    each (suc k) = h

both_hands : (f f' p q : Seen) (result : Result (Unit {0}) MarkFault) → Hands {T = Unit {0}} 1 (Ok tt) f f' → Hands 1 result p q → SectorHands 1 result (record { first = f; second = Some p }) (record { first = f'; second = Some q })
both_hands f f' p q result one two = record { each = each; idle = λ e. absurd (omega (arith, e)) }
  where
    each : (k : ℕ) → Hands 1 result (copy_of (record { first = f; second = Some p }) k) (copy_of (record { first = f'; second = Some q }) k)
    each zero = one_hands f f' result one
    each (suc k) = two

-- ---- the whole

pub put_stops : (bytes : List ℕ) (f f' : Seen) (s : Option Seen) (fault : MarkFault) → IsPutOn {T = Unit {0}} 0 bytes f f' (Err fault) →
    IsPut {T = Unit {0}} bytes (record { first = f; second = s }) (record { first = f'; second = s }) (Err fault)
put_stops bytes f f' s fault h =
    let step : KeepsPiece f f' = steps_of 0 bytes f f' (Err fault) h in
    record { kept = keeps_pair f f' s s step (no_second_step s); holds = λ n t. holds s n t; cause = first_cause f f' s fault step h.cause; counts = first_hands f f' s fault h.counts }
  where
    holds : (s : Option Seen) (n : ℕ) → copy_tells (record { first = f; second = s }) n ≡ true → Holds {T = Unit {0}} bytes (held (record { first = f; second = s }) n) (held (record { first = f'; second = s }) n) (Err fault)
    holds s zero t = h.holds t
    holds None (suc n) t = h.holds t
    holds (Some p) (suc n) t = inl refl

pub put_only : (bytes : List ℕ) (f f' : Seen) → IsPutOn {T = Unit {0}} 0 bytes f f' (Ok tt) → IsPut {T = Unit {0}} bytes (record { first = f; second = None }) (record { first = f'; second = None }) (Ok tt)
put_only bytes f f' h =
    let step : KeepsPiece f f' = steps_of {T = Unit {0}} 0 bytes f f' (Ok tt) h in
    record { kept = keeps_pair f f' None None step tt; holds = λ n t. holds n t; cause = same step; counts = only_hands f f' h.counts }
  where
    holds : (n : ℕ) → copy_tells (record { first = f; second = None }) n ≡ true → held (record { first = f'; second = None }) n ≡ bytes
    holds zero t = h.holds t
    holds (suc n) t = h.holds t

    same : KeepsPiece f f' → (copy device : ℕ) → faults_at (record { first = f'; second = None }) copy device ≡ faults_at (record { first = f; second = None }) copy device
    same step zero device = faults_same f f' device step h.cause
    same step (suc zero) device = refl
    same step (suc (suc n)) device = refl

pub put_both : (bytes : List ℕ) (f f' p q : Seen) (result : Result (Unit {0}) MarkFault) → IsPutOn {T = Unit {0}} 0 bytes f f' (Ok tt) → IsPutOn 1 bytes p q result →
    IsPut bytes (record { first = f; second = Some p }) (record { first = f'; second = Some q }) result
put_both bytes f f' p q result one two =
    let first : KeepsPiece f f' = steps_of {T = Unit {0}} 0 bytes f f' (Ok tt) one in
    let second : KeepsPiece p q = steps_of 1 bytes p q result two in
    record {
      kept = keeps_pair f f' (Some p) (Some q) first second;
      holds = λ n t. holds result two.holds n t;
      cause = second_cause f f' p q result first one.cause second two.cause;
      counts = both_hands f f' p q result one.counts two.counts;
    }
  where
    holds : (result : Result (Unit {0}) MarkFault) → (is_some p.told ≡ true → Holds bytes (told_or p.told 0) (told_or q.told 0) result) → (n : ℕ) → copy_tells (record { first = f; second = Some p }) n ≡ true →
        Holds bytes (held (record { first = f; second = Some p }) n) (held (record { first = f'; second = Some q }) n) result
    holds (Ok u) h zero t = one.holds t
    holds (Err fault) h zero t = inr (one.holds t)
    holds (Ok u) h (suc n) t = h t
    holds (Err fault) h (suc n) t = h t
