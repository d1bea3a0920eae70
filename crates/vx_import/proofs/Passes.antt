-- The reading of the toggles, device by device.
use Rattle.std.proofs.Common.{◌≡◌, ℕ, zero, suc, ◌+◌, ◌<◌, ◌≤◌, Bool, true, false, cond, List, [], ◌∷◌, length, map, take, drop, get_or, set, Option, Some, None, refl, sym, ap, ◌∙◌, subst, arith}
use Rattle.std.specs.Prelude.{IsTrue, IfSome}
use Rattle.vx_base.specs.Blocks.{Contents}
use Rattle.vx_base.specs.Named.{Word}
use Rattle.vx_piece.specs.Seen.{Seen}
use Rattle.vx_header.specs.Named.{header_of}
use Rattle.vx_header.specs.Said.{toggle_of}
use Rattle.vx_copies.specs.Image.{text_sectors}
use Rattle.vx_copies.specs.Lists.{Each, AllOf}
use Rattle.vx_copies.proofs.StepLaws.{keeps_refl, keeps_trans, drops_refl, drops_trans}
use Rattle.vx_import.specs.Looks.{Looked, looked, IsOurs, IsReading, HasReading, Reads, toggle_read, said_in}
use Rattle.vx_import.specs.Choice.{TakenIs}
use Rattle.vx_import.specs.Toggles.{Passes, Inspects, ReadBy}
use Rattle.vx_import.specs.Answers.{IsOf, IsRising}
use Rattle.vx_import.proofs.Looks.{all_on, was_readable}
use Rattle.vx_import.specs.declared.choosing.Taken.{Taken}
use Rattle.vx_import.specs.declared.choosing.Taken.TheVariants as taken
use Rattle.vx_import.specs.declared.device.GroupDevice.{GroupDevice}
use Rattle.vx_import.specs.declared.device.Reading.{Reading}

pub inspects_refl : (a : Looked) → Inspects a a
inspects_refl a = record { device = refl; label = refl; kept = keeps_refl a.seen; same = record { told = refl; writes = refl }; readable = drops_refl a.readable a.seen; most = few a.seen.told }
  where
    few : (o : Option Contents) → IfSome o (λ d. a.seen.reads ≤ a.seen.reads + 1 + text_sectors (toggle_of (d 1)))
    few None = tt
    few (Some d) = omega arith

pub passes_refl : (a : Looked) → Passes a a
passes_refl a = record { device = refl; label = refl; kept = keeps_refl a.seen; same = record { told = refl; writes = refl }; readable = drops_refl a.readable a.seen; most = omega arith }

-- its toggle was read, and no text
pub inspects_pass : (a b : Looked) → Passes a b → Inspects a b
inspects_pass a b is = record { device = is.device; label = is.label; kept = is.kept; same = is.same; readable = is.readable; most = few a.seen.told }
  where
    few : (o : Option Contents) → IfSome o (λ d. b.seen.reads ≤ a.seen.reads + 1 + text_sectors (toggle_of (d 1)))
    few None = tt
    few (Some d) = let most = is.most in omega (arith, most)

-- the text of the toggle that was read is the one that its sector names
text_named : (f : Looked) → HasReading f → IfSome f.seen.told (λ d. text_sectors (toggle_read f) ≤ text_sectors (toggle_of (d 1)))
text_named f has = by f.readable f.seen.told has
  where
    by : (r : Bool) (o : Option Contents) → (IsTrue r → IfSome o (λ d. IsReading f.reading (d 1))) → IfSome o (λ d. text_sectors (cond r (said_in f.reading) None) ≤ text_sectors (toggle_of (d 1)))
    by r None has = tt
    by true (Some d) has = let same : text_sectors (toggle_of (d 1)) ≡ text_sectors (said_in f.reading) = ap text_sectors (has refl).said in omega (arith, same)
    by false (Some d) has = omega arith

-- its toggle was read, and then the text that this names
pub inspects_by : (a b c : Looked) → Passes a b → HasReading b × Reads b c → Inspects a c
inspects_by a b c p (has, q) = record {
  device = q.device ∙ p.device;
  label = q.label ∙ p.label;
  kept = keeps_trans _ _ _ p.kept q.kept;
  same = record { told = q.same.told ∙ p.same.told; writes = q.same.writes ∙ p.same.writes };
  readable = drops_trans a.readable b.readable c.readable a.seen b.seen c.seen p.kept q.kept p.readable q.readable;
  most = subst (λ (o : Option Contents). IfSome o (λ d. c.seen.reads ≤ a.seen.reads + 1 + text_sectors (toggle_of (d 1)))) p.same.told (few b.seen.told (text_named b has));
}
  where
    few : (o : Option Contents) → IfSome o (λ d. text_sectors (toggle_read b) ≤ text_sectors (toggle_of (d 1))) → IfSome o (λ d. c.seen.reads ≤ a.seen.reads + 1 + text_sectors (toggle_of (d 1)))
    few None named = tt
    few (Some d) named = let one = p.most in let text = q.most in omega (arith, one, text, named)

pub of_over : (group : Word) (a b : Looked) → Inspects a b → IsOf group a → IsOf group b
of_over group a b is of = record {
  group_is = ap (λ l. l.group) is.label ∙ of.group_is;
  headed = subst (λ l. IfSome b.seen.told (λ c. header_of (c 0) ≡ Some l)) (sym is.label) (subst (λ (o : Option Contents). IfSome o (λ c. header_of (c 0) ≡ Some a.label)) (sym is.same.told) of.headed);
}

above_over : (slot : ℕ) (a b : Looked) → Inspects a b → slot < a.label.slot → slot < b.label.slot
above_over slot a b is lt = let same : b.label.slot ≡ a.label.slot = ap (λ l. l.slot) is.label in let more : slot < b.label.slot = omega (arith, same, lt) in more

pub rising_over : (xs ys : List Looked) → Each Inspects xs ys → IsRising xs → IsRising ys
rising_over [] [] is rising = tt
rising_over [] (y ∷ ys) is rising = absurd is
rising_over (x ∷ xs) [] is rising = absurd is
rising_over (x ∷ xs) (y ∷ ys) is rising =
    let same : x.label.slot ≡ y.label.slot = ap (λ l. l.slot) (sym is.0.label) in (
      all_on Inspects (λ g. y.label.slot < g.label.slot) (above_over y.label.slot) xs ys is.1 (subst (λ n. AllOf (λ g. n < g.label.slot) xs) same rising.0),
      rising_over xs ys is.1 rising.1,
    )

pub reading_on : (a b : Looked) → Reads a b → HasReading a → HasReading b
reading_on a b is has readable =
    subst (λ (x : Reading). IfSome b.seen.told (λ c. IsReading x (c 1))) (sym is.reading) (subst (λ (o : Option Contents). IfSome o (λ c. IsReading a.reading (c 1))) (sym is.same.told) (has (was_readable a.readable b.readable a.seen b.seen is.readable readable)))

pub all_ours : (group : Word) (fs : List Looked) → AllOf (IsOf group) fs → AllOf HasReading fs → AllOf (IsOurs group) fs
all_ours group [] of read = tt
all_ours group (f ∷ fs) of read = (record { group_is = of.0.group_is; headed = of.0.headed; reads = read.0 }, all_ours group fs of.1 read.1)

module _ {P : Type 0} (see : P → Seen) where
  pub all_more : (Q : Looked → Type 0) (fs : List (GroupDevice P)) (i : ℕ) (d : GroupDevice P) → AllOf Q (map (looked see) (take i fs)) → Q (looked see d) → AllOf Q (map (looked see) (take (suc i) (set fs i d)))
  all_more Q [] i d all is = tt
  all_more Q (x ∷ fs) zero d all is = (is, tt)
  all_more Q (x ∷ fs) (suc i) d all is = (all.0, all_more Q fs i d all.1 is)

  -- devices that were passed, of which those from one on are as they were
  pub first_same : (Q : Looked → Type 0) (ls : List Looked) (fs : List (GroupDevice P)) (i : ℕ) (d : GroupDevice P) → i < length fs → Each Passes ls (map (looked see) fs) → drop i (map (looked see) fs) ≡ drop i ls → AllOf Q ls → Q (looked see (get_or fs i d))
  first_same Q ls [] i d lt all rest was = absurd (omega (arith, lt))
  first_same Q [] (x ∷ fs) i d lt all rest was = absurd all
  first_same Q (l ∷ ls) (x ∷ fs) zero d lt all rest was = let here : l ≡ looked see x = cc in subst Q here was.0
  first_same Q (l ∷ ls) (x ∷ fs) (suc i) d lt all rest was = first_same Q ls fs i d (omega (arith, lt)) all.1 rest was.1

  pub pass_next : (ls : List Looked) (fs : List (GroupDevice P)) (i : ℕ) (d e : GroupDevice P) → i < length fs → Each Passes ls (map (looked see) fs) → drop i (map (looked see) fs) ≡ drop i ls → Passes (looked see (get_or fs i e)) (looked see d) → Each Passes ls (map (looked see) (set fs i d))
  pass_next ls [] i d e lt all rest is = absurd (omega (arith, lt))
  pass_next [] (x ∷ fs) i d e lt all rest is = absurd all
  pass_next (l ∷ ls) (x ∷ fs) zero d e lt all rest is = let here : looked see x ≡ l = cc in (subst (λ a. Passes a (looked see d)) here is, all.1)
  pass_next (l ∷ ls) (x ∷ fs) (suc i) d e lt all rest is = (all.0, pass_next ls fs i d e (omega (arith, lt)) all.1 rest is)

  pub rest_next : (ls : List Looked) (fs : List (GroupDevice P)) (i : ℕ) (d : GroupDevice P) → Each Passes ls (map (looked see) fs) → drop i (map (looked see) fs) ≡ drop i ls → drop (suc i) (map (looked see) (set fs i d)) ≡ drop (suc i) ls
  rest_next [] [] i d all rest = refl
  rest_next (l ∷ ls) [] i d all rest = absurd all
  rest_next [] (x ∷ fs) i d all rest = absurd all
  rest_next (l ∷ ls) (x ∷ fs) zero d all rest = cc
  rest_next (l ∷ ls) (x ∷ fs) (suc i) d all rest = rest_next ls fs i d all.1 rest

pub read_by : (t : Taken) (buffer : List ℕ) (fs : List Looked) → AllOf HasReading fs → TakenIs t buffer fs → ReadBy t fs
read_by (taken.Text b) buffer fs read is = read
read_by taken.Nothing buffer fs read is = read
read_by taken.Cut buffer fs read is = is
