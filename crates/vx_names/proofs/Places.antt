-- Places of one form from those of another.
use Rattle.std.proofs.Common.{◌≡◌, ℕ, ◌+◌, ◌<◌, List, [], ◌++◌, length, take, sym, ◌∙◌, ap, subst, arith, append_assoc, length-append}
use Rattle.std.proofs.Math.Seq.{take-length, take-append-add}
use Rattle.std.proofs.lemmas.List.{append-nil}
use Rattle.vx_names.specs.Place.{IsPlace}

-- a word of the form goes on to its end
pub place_at_end : (Form : List ℕ → Type 0) (word : List ℕ) → Form word → IsPlace Form word (length word)
place_at_end Form word h = record {
  inside = omega arith;
  before = ([], subst Form (sym (append-nil (take (length word) word) ∙ take-length word)) h);
  here = λ lt b. absurd (omega arith);
}

-- behind a front that says nothing more of how a word goes on
pub place_behind : (Form Rest : List ℕ → Type 0) (front word : List ℕ) (place : ℕ)
    → ((w : List ℕ) → Form (front ++ w) → Rest w)
    → ((w : List ℕ) → Rest w → Form (front ++ w))
    → IsPlace Rest word place → IsPlace Form (front ++ word) (length front + place)
place_behind Form Rest front word place to from h = record {
  inside = omega (arith, h.inside, length-append front word);
  before = (h.before.0, subst Form (sym (ap (λ xs. xs ++ h.before.0) (take-append-add front word place) ∙ append_assoc front (take place word) h.before.0)) (from (take place word ++ h.before.0) h.before.1));
  here = λ lt b.
      let more : place < length word = omega (arith, lt, length-append front word) in
      let at : length front + place + 1 ≡ length front + (place + 1) = omega arith in
      let split : take (length front + place + 1) (front ++ word) ++ b.0 ≡ front ++ (take (place + 1) word ++ b.0) =
      ap (λ n. take n (front ++ word) ++ b.0) at ∙ ap (λ xs. xs ++ b.0) (take-append-add front word (place + 1)) ∙ append_assoc front (take (place + 1) word) b.0 in
      h.here more (b.0, to (take (place + 1) word ++ b.0) (subst Form split b.1));
}
