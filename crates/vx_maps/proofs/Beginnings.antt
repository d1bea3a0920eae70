-- Copies whose first sectors were written begin with the bytes.
use Rattle.std.proofs.Common.{◌≡◌, ℕ, ◌+◌, Bool, true, false, refl, sym, ◌∙◌, ap, subst, arith, List, [], ◌∷◌, Option, Some, None, Result, Ok, Err}
use Rattle.std.specs.Prelude.{is_some, ◌&&◌, ◌||◌, OnOk}
use Rattle.std.specs.Option.{option_map}
use Rattle.vx_base.specs.Counts.{Rose}
use Rattle.vx_mask.proofs.Tests.{both_parts}
use Rattle.vx_piece.specs.Seen.{Seen}
use Rattle.vx_runs.specs.Part.{told_or}
use Rattle.vx_marks.specs.declared.marker.MarkFault.{MarkFault}
use Rattle.vx_marks.specs.declared.marker.MarkFault.TheVariants.{Failed, PowerLost, Busy}
use Rattle.vx_pages.specs.Sector.{Copies, HasCause, SectorSeen, held, is_cut, second_cut, tells}
use Rattle.vx_pages.proofs.Telling.{each_tells}
use Rattle.vx_maps.specs.Slots.{MovedBoth, MovedSecond, SheetsSeen, filled, part_at, slot_at}
use Rattle.vx_maps.specs.Heads.{ArePut}
use Rattle.vx_maps.specs.Copies.{copies_list}
use Rattle.vx_maps.specs.Wholes.{whole_copies}
use Rattle.vx_maps.specs.Creating.{AllBeginWith, BeginsWith, head_tells}
use Rattle.vx_maps.specs.Cutness.{slot_cut, slots_cut, sheets_cut}
use Rattle.vx_maps.specs.Cutness.{second_cut as slots_second_cut}

-- the first piece of a copy
pub begins_one : (size copy : ℕ) (grid : List (List SectorSeen)) (slots : List (Option Seen)) (p : Seen) (bytes : List ℕ) → slot_at slots 0 ≡ Some p → told_or p.told 0 ≡ bytes → BeginsWith bytes (filled size copy grid 0 slots)
begins_one size copy grid [] p bytes e h = cc
begins_one size copy grid (None ∷ xs) p bytes e h = cc
begins_one size copy grid (Some x ∷ xs) p bytes e h = ap (λ (o : Option Seen). told_or (part_at 0 o None).told 0) e ∙ h

pub tells_one : (size copy : ℕ) (grid : List (List SectorSeen)) (slots : List (Option Seen)) (p : Seen) → slot_at slots 0 ≡ Some p → head_tells (filled size copy grid 0 slots) ≡ is_some p.told
tells_one size copy grid [] p e = cc
tells_one size copy grid (None ∷ xs) p e = cc
tells_one size copy grid (Some x ∷ xs) p e = cc

pub begins_both : (size : ℕ) (grid : List (List SectorSeen)) (first : List (Option Seen)) (second mid : Option (List (Option Seen))) (p : Seen) (q : Option Seen) (bytes : List ℕ) → slot_at first 0 ≡ Some p → MovedSecond 0 q second mid →
    (tells (record { first = p; second = q }) ≡ true → (n : ℕ) → held (record { first = p; second = q }) n ≡ bytes) → AllBeginWith bytes (copies_list (filled size 0 grid 0 first) (option_map (filled size 1 grid 0) second))
begins_both size grid first None None p None bytes e moved holds told =
    let t = sym (tells_one size 0 grid first p e) ∙ (both_parts _ _ told).0 in
    (begins_one size 0 grid first p bytes e (holds (and_both _ _ t refl) 0), tt)
  where
    and_both : (a b : Bool) → a ≡ true → b ≡ true → (a && b) ≡ true
    and_both a b one two = rw (one, two) refl
begins_both size grid first None None p (Some q) bytes e moved holds told = absurd moved
begins_both size grid first None (Some y) p None bytes e moved holds told = absurd moved
begins_both size grid first None (Some y) p (Some q) bytes e moved holds told = absurd moved
begins_both size grid first (Some x) None p None bytes e moved holds told = absurd moved
begins_both size grid first (Some x) None p (Some q) bytes e moved holds told = absurd moved
begins_both size grid first (Some x) (Some y) p None bytes e moved holds told = absurd moved
begins_both size grid first (Some x) (Some y) p (Some q) bytes e moved holds told =
    let t = sym (tells_one size 0 grid first p e) ∙ (both_parts _ _ told).0 in
    let u = sym (tells_one size 1 grid x q moved.was) ∙ (both_parts _ _ (both_parts _ _ told).1).0 in
    (begins_one size 0 grid first p bytes e (holds (and_both _ _ t u) 0), (begins_one size 1 grid x q bytes moved.was (holds (and_both _ _ t u) 1), tt))
  where
    and_both : (a b : Bool) → a ≡ true → b ≡ true → (a && b) ≡ true
    and_both a b one two = rw (one, two) refl

pub heads_begin : (size : ℕ) (grid : List (List SectorSeen)) (bytes : List ℕ) (old new : SheetsSeen) (result : Result (Unit {0}) MarkFault) → ArePut bytes old new result → OnOk result (AllBeginWith bytes (whole_copies size grid new))
heads_begin size grid bytes old new (Err fault) p = tt
heads_begin size grid bytes old new (Ok u) p =
    begins_both size grid new.first new.second p.between.second p.after.first p.after.second bytes p.back.first.was p.back.second
    (λ told n. p.put.holds n (each_tells p.before (sym p.put.kept.tells ∙ told) n))

-- ---- power and counts

pub or_left : (a b : Bool) → a ≡ true → (a || b) ≡ true
or_left a b e = rw e refl

pub or_right : (a b : Bool) → b ≡ true → (a || b) ≡ true
or_right true b e = refl
or_right false b e = e

pub or_either : (a b c : Bool) → (a ≡ true → c ≡ true) → (b ≡ true → c ≡ true) → (a || b) ≡ true → c ≡ true
or_either true b c f g e = f refl
or_either false b c f g e = g e

cut_first : (slots : List (Option Seen)) (p : Seen) → slot_at slots 0 ≡ Some p → p.cut ≡ true → slots_cut slots ≡ true
cut_first [] p e h = cc
cut_first (x ∷ xs) p e h = or_left (slot_cut x) (slots_cut xs) (ap slot_cut e ∙ h)

cut_second : (q : Option Seen) (second mid : Option (List (Option Seen))) → MovedSecond 0 q second mid → second_cut q ≡ true → slots_second_cut second ≡ true
cut_second None second mid moved h = cc
cut_second (Some q) None mid moved h = absurd moved
cut_second (Some q) (Some x) None moved h = absurd moved
cut_second (Some q) (Some x) (Some y) moved h = cut_first x q moved.was h

pub heads_cut : (c : Copies) (new mid : SheetsSeen) → MovedBoth 0 c new mid → is_cut c ≡ true → sheets_cut new ≡ true
heads_cut c new mid back =
    or_either _ _ _ (λ h. or_left (slots_cut new.first) (slots_second_cut new.second) (cut_first new.first c.first back.first.was h))
    (λ h. or_right (slots_cut new.first) (slots_second_cut new.second) (cut_second c.second new.second mid.second back.second h))

rose_add : (a b h : ℕ) → Rose a b → Rose (a + h) (b + h)
rose_add a b h e = omega (arith, e)

pub cause_add : (f g h f' g' : ℕ → ℕ → ℕ) (cut cut' : Bool) (result : Result (Unit {0}) MarkFault) → ((copy device : ℕ) → f' copy device ≡ f copy device + h copy device) → ((copy device : ℕ) → g' copy device ≡ g copy device + h copy device) → (cut ≡ true → cut' ≡ true) →
    HasCause f g cut result → HasCause f' g' cut' result
cause_add f g h f' g' cut cut' (Ok u) a b power cause = λ copy device. b copy device ∙ ap (λ (n : ℕ). n + h copy device) (cause copy device) ∙ sym (a copy device)
cause_add f g h f' g' cut cut' (Err (Failed copy device)) a b power cause = record {
  rose = subst (λ (n : ℕ). Rose n (g' copy device)) (sym (a copy device)) (subst (Rose (f copy device + h copy device)) (sym (b copy device)) (rose_add _ _ (h copy device) cause.rose));
  others = λ copy' device' apart. b copy' device' ∙ ap (λ (n : ℕ). n + h copy' device') (cause.others copy' device' apart) ∙ sym (a copy' device');
}
cause_add f g h f' g' cut cut' (Err PowerLost) a b power cause = power cause
cause_add f g h f' g' cut cut' (Err Busy) a b power cause = cause
