-- How the sector of a map goes on by each of its calls.
use Rattle.std.proofs.Common.{arith, ◌≡◌, ◌⊎◌, inl, inr, ℕ, Bool, true, false, refl, sym, ◌∙◌, ap, List, length, Result, Ok, Err}
use Rattle.std.specs.Prelude.{◌&&◌, ◌||◌, not, if◌then◌else◌}
use Rattle.vx_mask.proofs.Tests.{not_both}
use Rattle.vx_mapfmt.specs.Bits.{bit_in}
use Rattle.vx_sector.specs.Fields.{zeros}
use Rattle.vx_marks.specs.declared.marker.MarkFault.{MarkFault}
use Rattle.vx_pages.specs.Bytes.{same_place}
use Rattle.vx_pages.specs.Sector.{AreSectors, IsMade, Copies, SectorSeen, copy_tells, held, shown, IsFormed, KeepsCopies, KeepsSector, Holds, IsPut, Goes, SameBits, Swept, IsTidied, IsFirm, Turns, NoneLoose, BitPut, BitMay, ShownPut, ShownMay, BitOpened, copy_of}
use Rattle.vx_pages.proofs.Bits.{no_bit}
use Rattle.vx_pages.proofs.Telling.{each_tells}
use Rattle.vx_pages.specs.Stays.{piece_same}

abbrev pub seen : Copies → List ℕ → List ℕ → SectorSeen
seen c sure loose = record { copies = c; sure = sure; loose = loose }

and_none : (x : Bool) → (x && not true) ≡ false
and_none true = refl
and_none false = refl

pub and_all : (x : Bool) → (x && not false) ≡ x
and_all true = refl
and_all false = refl

or_all : (x : Bool) → (x || true) ≡ true
or_all true = refl
or_all false = refl

or_none : (x : Bool) → (x || false) ≡ x
or_none true = refl
or_none false = refl

pub kept_of : (c c' : Copies) (sure loose sure' loose' : List ℕ) → KeepsCopies c c' → KeepsSector (seen c sure loose) (seen c' sure' loose')
kept_of c c' sure loose sure' loose' k = record { each = k.each; pair = k.pair; tells = k.tells; faults = k.faults; cut = k.cut }

pub kept_same : (c : Copies) (sure loose sure' loose' : List ℕ) → KeepsSector (seen c sure loose) (seen c sure' loose')
kept_same c sure loose sure' loose' = record { each = λ n. piece_same (copy_of c n); pair = refl; tells = refl; faults = λ copy device. omega arith; cut = λ h. h }

-- ---- what is loose is written again

swept_or_not : (x l x' : Bool) → x' ≡ (x && not l) → (x' ≡ x) ⊎ ((l ≡ true) × (x' ≡ false))
swept_or_not true true x' e = inr (refl, e)
swept_or_not true false x' e = inl e
swept_or_not false l x' e = inl e

pub tidy_none : (c : Copies) (sure loose : List ℕ) → loose ≡ zeros 512 → Goes SameBits Swept (seen c sure loose) (seen c sure loose)
tidy_none c sure loose none =
    record {
      kept = kept_same c sure loose sure loose;
      bits = λ region. (refl, refl);
      shows = λ n t region. sym (ap (λ (l : Bool). shown c n region && not l) (ap (λ (page : List ℕ). bit_in page region) none ∙ no_bit region) ∙ and_all _);
    }

pub tidied : (c c' : Copies) (sure loose : List ℕ) (result : Result (Unit {0}) MarkFault) → IsFormed (seen c sure loose) → IsPut sure c c' result → IsTidied result (seen c sure loose) (seen c' sure loose)
tidied c c' sure loose (Ok u) formed put =
    record {
      kept = kept_of c c' sure loose sure loose put.kept;
      bits = λ region. (refl, refl);
      shows = λ n t region. ap (λ (page : List ℕ). bit_in page region) (put.holds n t) ∙ sym (formed.shows n t region);
    }
tidied c c' sure loose (Err fault) formed put =
    record {
      kept = kept_of c c' sure loose sure loose put.kept;
      bits = λ region. (refl, refl);
      shows = λ n t region.
          elim (put.holds n t) [
            | inl same ↦ inl (ap (λ (page : List ℕ). bit_in page region) same)
            | inr is ↦ swept_or_not _ _ _ (ap (λ (page : List ℕ). bit_in page region) is ∙ sym (formed.shows n t region))
          ];
    }

still_sure : (x l s x' : Bool) → (x && not l) ≡ s → (x' ≡ x) ⊎ (x' ≡ s) → (x' && not l) ≡ s
still_sure x l s x' h (inl same) = rw same h
still_sure true true s x' h (inr is) = rw is (and_none s ∙ h)
still_sure true false s x' h (inr is) = rw is (and_all s)
still_sure false l s x' h (inr is) = rw (is, sym h) refl

pub tidy_formed : (c c' : Copies) (sure loose : List ℕ) (result : Result (Unit {0}) MarkFault) → IsFormed (seen c sure loose) → IsPut sure c c' result → IsFormed (seen c' sure loose)
tidy_formed c c' sure loose result formed put =
    record {
      sectors = put.kept.sectors formed.sectors;
      sure = formed.sure;
      loose = formed.loose;
      shows = λ n t region. let t' = sym (put.kept.each n).tells ∙ t in still_sure _ _ _ _ (formed.shows n t' region) (shows result n region (put.holds n t'));
    }
  where
    shows : (result : Result (Unit {0}) MarkFault) (n region : ℕ) → Holds sure (held c n) (held c' n) result → (shown c' n region ≡ shown c n region) ⊎ (shown c' n region ≡ bit_in sure region)
    shows (Ok u) n region is = inr (ap (λ (page : List ℕ). bit_in page region) is)
    shows (Err fault) n region (inl same) = inl (ap (λ (page : List ℕ). bit_in page region) same)
    shows (Err fault) n region (inr is) = inr (ap (λ (page : List ℕ). bit_in page region) is)

-- ---- nothing is loose any more

none_in : (loose : List ℕ) (region : ℕ) → loose ≡ zeros 512 → bit_in loose region ≡ false
none_in loose region none = ap (λ (page : List ℕ). bit_in page region) none ∙ no_bit region

pub forgets : (c : Copies) (sure loose loose' : List ℕ) → loose' ≡ zeros 512 → Turns NoneLoose (seen c sure loose) (seen c sure loose')
forgets c sure loose loose' none = record { copies = refl; bits = λ region. (refl, none_in loose' region none) }

pub forget_formed : (c : Copies) (sure loose loose' : List ℕ) → length loose' ≡ 512 → loose' ≡ zeros 512 → IsFirm (seen c sure loose) → IsFormed (seen c sure loose) → IsFormed (seen c sure loose')
forget_formed c sure loose loose' len none firm formed =
    record {
      sectors = formed.sectors;
      sure = formed.sure;
      loose = len;
      shows = λ n t region. shown_sure _ _ _ _ (formed.shows n t region) (firm n t region) (none_in loose' region none);
    }
  where
    shown_sure : (x l s l' : Bool) → (x && not l) ≡ s → (x && l) ≡ false → l' ≡ false → (x && not l') ≡ s
    shown_sure true true s l' h out none = not_both refl out
    shown_sure true false s l' h out none = rw none h
    shown_sure false l s l' h out none = h

-- ---- a bit is put

-- the page with the bit of a region put to this value
abbrev pub WithBit : ℕ → Bool → List ℕ → List ℕ → Type 0
WithBit region on old new = (other : ℕ) → bit_in new other ≡ (if same_place region other then on else bit_in old other)

pub firm_shows : (c : Copies) (sure loose : List ℕ) → IsFormed (seen c sure loose) → ((other : ℕ) → bit_in loose other ≡ false) → (n : ℕ) → copy_tells c n ≡ true → (region : ℕ) → shown c n region ≡ bit_in sure region
firm_shows c sure loose formed clean n t region =
    sym (and_all _) ∙ ap (λ (l : Bool). shown c n region && not l) (sym (clean region)) ∙ formed.shows n t region

pub bit_put : (c c' : Copies) (sure loose sure' : List ℕ) (region : ℕ) (on : Bool) → IsFormed (seen c sure loose) → ((other : ℕ) → bit_in loose other ≡ false) → WithBit region on sure sure' →
    IsPut {T = Unit {0}} sure' c c' (Ok tt) → Goes (BitPut (same_place region) on) (ShownPut (same_place region) on) (seen c sure loose) (seen c' sure' loose)
bit_put c c' sure loose sure' region on formed clean bits put =
    record {
      kept = kept_of c c' sure loose sure' loose put.kept;
      bits = λ other. (bits other, refl);
      shows = λ n t other.
          ap (λ (page : List ℕ). bit_in page other) (put.holds n t) ∙ bits other
          ∙ ap (λ (x : Bool). if same_place region other then on else x) (sym (firm_shows c sure loose formed clean n t other));
    }

pub put_formed : (c c' : Copies) (sure loose sure' : List ℕ) → IsFormed (seen c sure loose) → ((other : ℕ) → bit_in loose other ≡ false) → length sure' ≡ 512 →
    IsPut {T = Unit {0}} sure' c c' (Ok tt) → IsFormed (seen c' sure' loose)
put_formed c c' sure loose sure' formed clean len put =
    record {
      sectors = put.kept.sectors formed.sectors;
      sure = len;
      loose = formed.loose;
      shows = λ n t other.
          ap (λ (l : Bool). shown c' n other && not l) (clean other) ∙ and_all _ ∙ ap (λ (page : List ℕ). bit_in page other) (put.holds n (sym (put.kept.each n).tells ∙ t));
    }

-- one bit that was to be put may be there or not
torn_bit : (a on x s x' s' : Bool) → x ≡ s → s' ≡ (if a then on else s) → (x' ≡ x) ⊎ (x' ≡ s') → (x' ≡ x) ⊎ ((a ≡ true) × (x' ≡ on))
torn_bit a on x s x' s' firm is (inl same) = inl same
torn_bit true on x s x' s' firm is (inr put) = inr (refl, put ∙ is)
torn_bit false on x s x' s' firm is (inr put) = inl (put ∙ is ∙ sym firm)

pub torn_page : (old new bytes : List ℕ) (region : ℕ) → (new ≡ old) ⊎ (new ≡ bytes) → (bit_in new region ≡ bit_in old region) ⊎ (bit_in new region ≡ bit_in bytes region)
torn_page old new bytes region (inl same) = inl (ap (λ (page : List ℕ). bit_in page region) same)
torn_page old new bytes region (inr is) = inr (ap (λ (page : List ℕ). bit_in page region) is)

not_asked : (a on s s' : Bool) → s' ≡ (if a then on else s) → a ≡ false → s' ≡ s
not_asked true on s s' is out = not_both refl out
not_asked false on s s' is out = is

module _ (c c' : Copies) (sure loose sure' sure'' loose' : List ℕ) (region : ℕ) (on : Bool) (fault : MarkFault) (formed : IsFormed (seen c sure loose)) (clean : (other : ℕ) → bit_in loose other ≡ false)
    (first : WithBit region on sure sure') (later : WithBit region false sure' sure'') (opened : WithBit region true loose loose') (put : IsPut {T = Unit {0}} sure' c c' (Err fault)) where
  pub bit_failed : Goes (BitMay (same_place region)) (ShownMay (same_place region) on) (seen c sure loose) (seen c' sure'' loose')
  bit_failed =
      record {
        kept = kept_of c c' sure loose sure'' loose' put.kept;
        bits = λ other out. (not_asked _ _ _ _ (later other) out ∙ not_asked _ _ _ _ (first other) out, not_asked _ _ _ _ (opened other) out);
        shows = λ n t other. torn_bit _ _ _ _ _ _ (firm_shows c sure loose formed clean n t other) (first other) (torn_page _ _ _ other (put.holds n t));
      }

  pub failed_formed : length sure'' ≡ 512 → length loose' ≡ 512 → IsFormed (seen c' sure'' loose')
  failed_formed len len' =
      record {
        sectors = put.kept.sectors formed.sectors;
        sure = len;
        loose = len';
        shows = λ n t other.
            let t' = sym (put.kept.each n).tells ∙ t in
            left _ _ _ _ _ _ _ _ _ (firm_shows c sure loose formed clean n t' other) (clean other) (first other) (later other) (opened other) (torn_page _ _ _ other (put.holds n t'));
      }
    where
      left : (a on x s l x' s' s'' l' : Bool) → x ≡ s → l ≡ false → s' ≡ (if a then on else s) → s'' ≡ (if a then false else s') → l' ≡ (if a then true else l) → (x' ≡ x) ⊎ (x' ≡ s') → (x' && not l') ≡ s''
      left true on x s l x' s' s'' l' firm none is is' unsure torn = rw (unsure, is') (and_none x')
      left false on x s l x' s' s'' l' firm none is is' unsure (inl same) = rw (unsure, none, is', is, same, firm) (and_all s)
      left false on x s l x' s' s'' l' firm none is is' unsure (inr put) = rw (unsure, none, is', put, is) (and_all s)

-- ---- a bit is left unsure

open_bits : (a s l s' l' : Bool) → s' ≡ (if a then false else s) → l' ≡ (if a then true else l) → (s' ≡ (s && not a)) × (l' ≡ (l || a))
open_bits true s l s' l' is unsure = (is ∙ sym (and_none s), unsure ∙ sym (or_all l))
open_bits false s l s' l' is unsure = (is ∙ sym (and_all s), unsure ∙ sym (or_none l))

pub opens : (c : Copies) (sure loose sure' loose' : List ℕ) (region : ℕ) → WithBit region false sure sure' → WithBit region true loose loose' →
    Turns (BitOpened (same_place region)) (seen c sure loose) (seen c sure' loose')
opens c sure loose sure' loose' region is unsure = record { copies = refl; bits = λ other. open_bits _ _ _ _ _ (is other) (unsure other) }

pub open_formed : (c : Copies) (sure loose sure' loose' : List ℕ) (region : ℕ) → length sure' ≡ 512 → length loose' ≡ 512 → WithBit region false sure sure' → WithBit region true loose loose' →
    IsFormed (seen c sure loose) → IsFormed (seen c sure' loose')
open_formed c sure loose sure' loose' region len len' is unsure formed =
    record { sectors = formed.sectors; sure = len; loose = len'; shows = λ n t other. left _ _ _ _ _ _ (formed.shows n t other) (is other) (unsure other) }
  where
    left : (a x l s l' s' : Bool) → (x && not l) ≡ s → s' ≡ (if a then false else s) → l' ≡ (if a then true else l) → (x && not l') ≡ s'
    left true x l s l' s' h is unsure = rw (unsure, is) (and_none x)
    left false x l s l' s' h is unsure = rw (unsure, is) h

-- ---- a sector is made

pub made_formed : (c c' : Copies) (sure loose : List ℕ) → AreSectors c → length sure ≡ 512 → length loose ≡ 512 → loose ≡ zeros 512 → IsPut {T = Unit {0}} sure c c' (Ok tt) → IsFormed (seen c' sure loose)
made_formed c c' sure loose sectors len len' none put =
    record {
      sectors = put.kept.sectors sectors;
      sure = len;
      loose = len';
      shows = λ n t region.
          ap (λ (l : Bool). shown c' n region && not l) (none_in loose region none) ∙ and_all _ ∙ ap (λ (page : List ℕ). bit_in page region) (put.holds n (sym (put.kept.each n).tells ∙ t));
    }

pub made : (c c' : Copies) (sure loose : List ℕ) → loose ≡ zeros 512 → IsPut {T = Unit {0}} sure c c' (Ok tt) → IsMade sure c (seen c' sure loose)
made c c' sure loose none put = record { kept = put.kept; holds = λ t n. put.holds n (each_tells c t n); sure = refl; loose = λ region. none_in loose region none; quiet = put.cause }
