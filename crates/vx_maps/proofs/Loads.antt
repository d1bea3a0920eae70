-- What a store is that was filled from its copies.
use Rattle.std.proofs.Common.{◌≡◌, inl, inr, ℕ, ◌≤◌, Bool, sym, ◌∙◌, subst, arith, List, [], true, Err}
use Rattle.vx_base.specs.Counts.{Rose}
use Rattle.vx_piece.specs.Seen.{Seen}
use Rattle.vx_marks.specs.declared.marker.MarkFault.{MarkFault}
use Rattle.vx_marks.specs.declared.marker.MarkFault.TheVariants as mark
use Rattle.vx_pages.specs.Reading.{HasRisen, IsSettled, ReadsSector, image_at}
use Rattle.vx_pages.specs.Sector.{SectorSeen, KeepsSector}
use Rattle.vx_pages.specs.Page.{EachSector, no_sector}
use Rattle.vx_pages.specs.Stays.{piece_then}
use Rattle.vx_maps.specs.declared.fault.StoreFault.{StoreFault}
use Rattle.vx_maps.specs.declared.fault.StoreFault.TheVariants.{OutOfMemory, NoCopy, Failed, PowerLost}
use Rattle.vx_maps.specs.Creating.{IsFaultOf, copies_cut}
use Rattle.vx_maps.specs.Loading.{FoundAt, GridReads, GridSettled, IsFilledAs, IsFoundFrom, IsPassedBy, IsUnfilledAs, TakenBy, images_at}
use Rattle.vx_maps.specs.Wholes.{copy_faults}
use Rattle.vx_maps.proofs.Finds.{passed_later}
use Rattle.vx_maps.proofs.Steps.{items_then}

-- ---- a sector that was read, and then made what its image is

kept_then : (a b c : SectorSeen) → ReadsSector a b → KeepsSector b c → KeepsSector a c
kept_then a b c one two =
    let read = one.copies.kept in
    record {
      each = λ n. piece_then _ _ _ (read.each n) (two.each n);
      pair = two.pair ∙ read.pair;
      tells = two.tells ∙ read.tells;
      faults = λ copy device. let low = read.faults copy device in let high = two.faults copy device in omega (arith, low, high);
      cut = λ cut. two.cut (read.cut cut);
    }

settled_then : (bytes : List ℕ) (a b c : SectorSeen) → ReadsSector a b → IsSettled bytes b c → IsSettled bytes a c
settled_then bytes a b c one two = record { kept = kept_then a b c one two.kept; holds = λ t n. two.holds (one.copies.kept.tells ∙ t) n; sure = two.sure; loose = two.loose }

pub settled_on : (rows : List (List (List ℕ))) (xs ys zs : List (List SectorSeen)) → GridReads xs ys → GridSettled rows ys zs → GridSettled rows xs zs
settled_on rows =
    items_then [] (λ i. EachSector (λ m. ReadsSector)) (λ i. EachSector (λ m. IsSettled (image_at (images_at rows i) m))) (λ i. EachSector (λ m. IsSettled (image_at (images_at rows i) m)))
    (λ i. items_then no_sector (λ m. ReadsSector) (λ m. IsSettled (image_at (images_at rows i) m)) (λ m. IsSettled (image_at (images_at rows i) m)) (λ m. settled_then (image_at (images_at rows i) m)))

-- ---- what was found is found later too

pub found_later : (n : ℕ) (header : List ℕ) (regions : ℕ) (old mid new : ℕ → ℕ → ℕ) (copies : List (List Seen)) (rows : List (List (List ℕ))) (grid : List (List SectorSeen)) → ((copy device : ℕ) → mid copy device ≤ new copy device) →
    FoundAt 0 n header regions old mid copies rows grid → FoundAt 0 n header regions old new copies rows grid
found_later n header regions old mid new copies rows grid grown found =
    record { inside = found.inside; passed = λ m le lt. passed_later header old mid new copies m grown (found.passed m le lt); headed = found.headed; gives = found.gives }

pub taken_of : (n : ℕ) (header : List ℕ) (regions : ℕ) (old new : ℕ → ℕ → ℕ) (copies : List (List Seen)) (rows : List (List (List ℕ))) (grid : List (List SectorSeen)) → FoundAt 0 n header regions old new copies rows grid → TakenBy header old new copies
taken_of n header regions old new copies rows grid found = record { copy = n; inside = found.inside; passed = λ m lt. found.passed m (omega arith) lt; headed = found.headed }

module _ (header : List ℕ) (regions : ℕ) (old new : ℕ → ℕ → ℕ) (cut : Bool) (copies copies' : List (List Seen)) (grid grid' : List (List SectorSeen)) where
  -- a write failed
  pub filled_failed : (fault : MarkFault) (f : StoreFault) → IsFaultOf fault f → TakenBy header old new copies → HasRisen {T = Unit {0}} old new cut (Err fault) → IsFilledAs {T = Unit {0}} header regions old new cut copies copies' grid grid' (Err f)
  filled_failed (mark.Failed copy device) f is taken cause = subst (λ (x : StoreFault). IsFilledAs {T = Unit {0}} header regions old new cut copies copies' grid grid' (Err x)) (sym is) (taken, cause)
  filled_failed mark.PowerLost f is taken cause = subst (λ (x : StoreFault). IsFilledAs {T = Unit {0}} header regions old new cut copies copies' grid grid' (Err x)) (sym is) cause
  filled_failed mark.Busy f is taken cause = absurd cause

  -- no copy was found
  pub filled_none : (rows : List (List (List ℕ))) (f : StoreFault) → IsFoundFrom 0 header regions old new cut copies rows grid (Err f) → IsFilledAs {T = Unit {0}} header regions old new cut copies copies' grid grid' (Err f)
  filled_none rows OutOfMemory h = absurd h
  filled_none rows NoCopy h = λ n lt. h n (omega arith) lt
  filled_none rows (Failed copy device) h = absurd h
  filled_none rows PowerLost h = h

  -- the copies are given back
  passed_as : (n : ℕ) → ((copy device : ℕ) → copy_faults copies' copy device ≡ new copy device) → IsPassedBy header old new copies n → IsPassedBy header old (copy_faults copies') copies n
  passed_as n same (inl rose) = inl (rose.0, subst (λ (k : ℕ). Rose (old n rose.0) k) (sym (same n rose.0)) rose.1)
  passed_as n same (inr bad) = inr bad

  pub unfilled : (f : StoreFault) → ((copy device : ℕ) → copy_faults copies' copy device ≡ new copy device) → (cut ≡ true → copies_cut copies' ≡ true) → IsFilledAs {T = Unit {0}} header regions old new cut copies copies' grid grid' (Err f) → IsUnfilledAs header f old copies copies'
  unfilled OutOfMemory same power h = h
  unfilled NoCopy same power h = λ n lt. passed_as n same (h n lt)
  unfilled (Failed copy device) same power h = (
    record { copy = h.0.copy; inside = h.0.inside; passed = λ n lt. passed_as n same (h.0.passed n lt); headed = h.0.headed },
    subst (λ (k : ℕ). Rose (old copy device) k) (sym (same copy device)) h.1,
  )
  unfilled PowerLost same power h = power h

-- why there is no store does not speak of what the copies are then
pub refused_from : (header : List ℕ) (regions : ℕ) (old new : ℕ → ℕ → ℕ) (cut : Bool) (copies c c' : List (List Seen)) (grid g g' : List (List SectorSeen)) (f : StoreFault) → IsFilledAs {T = Unit {0}} header regions old new cut copies c grid g (Err f) → IsFilledAs {T = Unit {0}} header regions old new cut copies c' grid g' (Err f)
refused_from header regions old new cut copies c c' grid g g' OutOfMemory h = h
refused_from header regions old new cut copies c c' grid g g' NoCopy h = h
refused_from header regions old new cut copies c c' grid g g' (Failed copy device) h = h
refused_from header regions old new cut copies c c' grid g g' PowerLost h = h
