-- Devices that were passed, one after the other.
use Rattle.std.proofs.Common.{◌≡◌, ◌∙◌, ℕ, zero, suc, ◌<◌, ◌≤◌, ◌⊎◌, Bool, true, false, cond, List, [], ◌∷◌, ◌++◌, length, map, take, get_or, Option, Some, None, refl, sym, subst, arith, inl, inr}
use Rattle.std.proofs.lemmas.List.{take_all, append-nil}
use Rattle.std.specs.Prelude.{IsSome}
use Rattle.std.specs.Str.{bytes_eq}
use Rattle.vx_base.specs.Counts.{Rose}
use Rattle.vx_base.specs.Named.{Word}
use Rattle.vx_base.proofs.NamedLemmas.{bytes_eq_self}
use Rattle.vx_header.specs.Named.{Label}
use Rattle.vx_piece.specs.Seen.{Seen}
use Rattle.vx_shelf.specs.Listed.{IsRising}
use Rattle.vx_copies.specs.Lists.{AllOf}
use Rattle.vx_import.specs.Looks.{Looked, looked}
use Rattle.vx_import.specs.declared.device.GroupDevice.{GroupDevice}
use Rattle.vx_moments.specs.Holding.{is_among}
use Rattle.vx_house.specs.Holders.{Holder, held_as, AreHeld}
use Rattle.vx_house.specs.Scene.{Shelved, Scene, seen_at}
use Rattle.vx_stage_import.specs.Finds.{holders_of, beside, IsNaming, HasSlot, AllBefore}
use Rattle.vx_stage_import.specs.Gathering.{HeadersRead, IsMet, AreMet, GatherGoes, PassGoes}
use Rattle.vx_stage_import.specs.declared.gathering.Passed.{Passed}
use Rattle.vx_stage_import.specs.declared.gathering.Passed.TheVariants.{Done, Cut, OutOfMemory}
use Rattle.vx_stage_import.proofs.Headers.{headers_next, headers_all}
use Rattle.vx_stage_import.proofs.Names.{or_true, or_first}
use Rattle.vx_stage_import.proofs.Passes.{none_before}
use Rattle.vx_house.specs.Reading.{Stays, OnlyRead}
use Rattle.vx_house.proofs.Readings.{only_refl, only_trans}
use Rattle.vx_house.proofs.Refusals.{told_free}

-- one more name
pub all_next : (Q R : Word → Type 0) → ((name : Word) → Q name → R name) → (names : List Word) (i : ℕ) (d : Word) → i < length names → AllOf Q (take i names) → R (get_or names i d) → AllOf R (take (suc i) names)
all_next Q R on [] i d lt all here = absurd (omega (arith, lt))
all_next Q R on (n ∷ names) zero d lt all here = (here, tt)
all_next Q R on (n ∷ names) (suc i) d lt all here = (on n all.0, all_next Q R on names i d (omega (arith, lt)) all.1 here)

held_behind : (xs ys : List Holder) (name : Word) → held_as xs name ≡ None → held_as ys name ≡ None → held_as (xs ++ ys) name ≡ None
held_behind [] ys name one two = two
held_behind (x ∷ xs) ys name one two = by_test (bytes_eq x.name name) (held_behind xs ys name) one
  where
    by_test : (b : Bool) → (held_as xs name ≡ None → held_as ys name ≡ None → held_as (xs ++ ys) name ≡ None) → cond b (Some x.seen) (held_as xs name) ≡ None → cond b (Some x.seen) (held_as (xs ++ ys) name) ≡ None
    by_test true rest e = cc
    by_test false rest e = rest e two

held_first : (xs ys : List Holder) (name : Word) → held_as (xs ++ ys) name ≡ None → held_as xs name ≡ None
held_first [] ys name none = refl
held_first (x ∷ xs) ys name none = by_test (bytes_eq x.name name) (held_first xs ys name) none
  where
    by_test : (b : Bool) → (held_as (xs ++ ys) name ≡ None → held_as xs name ≡ None) → cond b (Some x.seen) (held_as (xs ++ ys) name) ≡ None → cond b (Some x.seen) (held_as xs name) ≡ None
    by_test true rest e = cc
    by_test false rest e = rest e

-- a device that stays names the group as before
pub naming_on : (group : Word) (label : Label) (a b : Seen) → Stays (Some a) (Some b) → IsNaming group label a → IsNaming group label b
naming_on group label a b stays naming = record { contents = naming.contents; told = stays.1.told ∙ naming.told; header = naming.header; group_is = naming.group_is; size = naming.size ∙ sym stays.0.sectors }

pub stays_to : (a : Seen) (o : Option Seen) → Stays (Some a) o → (b : Seen) × (o ≡ Some b) × Stays (Some a) (Some b)
stays_to a None stays = absurd stays
stays_to a (Some b) stays = (b, refl, stays)

-- one that was met is met as others are passed
pub met_on : (group name : Word) (old mid new : Scene) (fs gs : List Looked) → OnlyRead mid new → ((slot : ℕ) → HasSlot slot name fs → HasSlot slot name gs) → IsMet group name old mid fs → IsMet group name old new gs
met_on group name old mid new fs gs reads more met = λ seen label none is naming. elim (met seen label none is naming) [
  | inl rose ↦ inl (let up = reads.faults.devices name in omega (arith, rose, up))
  | inr has ↦ inr (more label.slot has)
]

-- the same passing, as its end and its name are known
pub pass_named : (r s : Passed) (group name n : Word) (old new : Scene) (fs : List Looked) → r ≡ s → name ≡ n → PassGoes r group name old new fs → PassGoes s group n old new fs
pass_named r s group name n old new fs ends named goes = subst (λ x. PassGoes x group n old new fs) ends (subst (λ x. PassGoes r group x old new fs) named goes)

module _ (group : Word) (old : Shelved) (others : List Holder) (mid new : Shelved) (fs gs : List Looked) where
  abbrev first : Scene
  first = record { shelf = old; taken = others }

  met_here : (name : Word) → OnlyRead first (beside mid others fs) → AllBefore fs name → IsMet group name (beside mid others fs) (beside new others gs) gs → IsMet group name first (beside new others gs) gs
  met_here name reads before met = λ seen label none is naming.
      let told = told_free (held_as others name) old.free name seen none is in
      let there = stays_to seen (seen_at (beside mid others fs) name) (subst (λ o. Stays o (seen_at (beside mid others fs) name)) is (reads.seen told name)) in
      elim (met there.0 label (held_behind others (holders_of fs) name none (none_before name fs before)) there.1 (naming_on group label seen there.0 there.2 naming)) [
        | inl rose ↦ inl (let up = reads.faults.devices name in omega (arith, rose, up))
        | inr has ↦ inr has
      ]

  abbrev pub was : List Word → Word → Type 0
  was excused name = (is_among name excused ≡ true) ⊎ IsMet group name first (beside mid others fs) fs

  abbrev pub will : List Word → Word → Type 0
  will excused name = (is_among name excused ≡ true) ⊎ IsMet group name first (beside new others gs) gs

  headers_on : (names : List Word) (i : ℕ) (d : Word) → IsRising names → i < length names → OnlyRead first (beside mid others fs) → (IsSome old.free → HeadersRead (take i names) first (beside mid others fs)) → (IsSome mid.free → HeadersRead (get_or names i d ∷ []) (beside mid others fs) (beside new others gs)) → IsSome old.free → HeadersRead (take (suc i) names) first (beside new others gs)
  headers_on names i d rising lt reads all one told = headers_next names i d first (beside mid others fs) (beside new others gs) rising lt (λ name none. held_first others (holders_of fs) name none) (all told) (one (reads.told told))

  -- one more device was passed
  pub gather_next : (names : List Word) (i : ℕ) (d : Word) → IsRising names → i < length names → AllBefore fs (get_or names i d) → ((slot : ℕ) (other : Word) → HasSlot slot other fs → HasSlot slot other gs)
      → GatherGoes Done group (take i names) first (beside mid others fs) fs → PassGoes Done group (get_or names i d) (beside mid others fs) (beside new others gs) gs → GatherGoes Done group (take (suc i) names) first (beside new others gs) gs
  gather_next names i d rising lt before more all one = record { held = one.held; reads = only_trans first (beside mid others fs) (beside new others gs) all.reads one.reads; headers = headers_on names i d rising lt all.reads all.headers one.headers; ends = by one.ends }
    where
      goes_on : (excused : List Word) → ((name : Word) → is_among name all.ends.excused ≡ true → is_among name excused ≡ true) → (name : Word) → was all.ends.excused name → will excused name
      goes_on excused within name (inl among) = inl (within name among)
      goes_on excused within name (inr met) = inr (met_on group name first (beside mid others fs) (beside new others gs) fs gs one.reads (λ slot has. more slot name has) met)

      by : Rose mid.faults new.faults ⊎ IsMet group (get_or names i d) (beside mid others fs) (beside new others gs) gs → AreMet group (take (suc i) names) first (beside new others gs) gs
      by (inl rose) = record {
        excused = get_or names i d ∷ all.ends.excused;
        shelf = let e = all.ends.shelf in omega (arith, e, rose);
        met = all_next (was all.ends.excused) (will (get_or names i d ∷ all.ends.excused)) (goes_on (get_or names i d ∷ all.ends.excused) (λ name among. or_true (bytes_eq (get_or names i d) name) (is_among name all.ends.excused) among)) names i d lt all.ends.met (inl (or_first (bytes_eq (get_or names i d) (get_or names i d)) (is_among (get_or names i d) all.ends.excused) (bytes_eq_self (get_or names i d))));
      }
      by (inr met) = record {
        excused = all.ends.excused;
        shelf = let e = all.ends.shelf in let up = one.reads.faults.shelf in omega (arith, e, up);
        met = all_next (was all.ends.excused) (will all.ends.excused) (goes_on all.ends.excused (λ name among. among)) names i d lt all.ends.met (inr (met_here (get_or names i d) all.reads before met));
      }

  -- the power is gone
  pub gather_cut : (names : List Word) (i : ℕ) (d : Word) → IsRising names → i < length names → GatherGoes Done group (take i names) first (beside mid others fs) fs → PassGoes Cut group (get_or names i d) (beside mid others fs) (beside new others gs) gs → GatherGoes Cut group names first (beside new others gs) gs
  gather_cut names i d rising lt all one = record { held = one.held; reads = only_trans first (beside mid others fs) (beside new others gs) all.reads one.reads; headers = λ told. headers_all names (suc i) first (beside new others gs) (headers_on names i d rising lt all.reads all.headers one.headers told); ends = λ told. one.ends (all.reads.told told) }

  pub gather_starved : (names : List Word) (i : ℕ) (d : Word) → IsRising names → i < length names → GatherGoes Done group (take i names) first (beside mid others fs) fs → PassGoes OutOfMemory group (get_or names i d) (beside mid others fs) (beside new others gs) gs → GatherGoes OutOfMemory group names first (beside new others gs) gs
  gather_starved names i d rising lt all one = record { held = one.held; reads = only_trans first (beside mid others fs) (beside new others gs) all.reads one.reads; headers = λ told. headers_all names (suc i) first (beside new others gs) (headers_on names i d rising lt all.reads all.headers one.headers told); ends = tt }

-- none was passed yet
pub gather_none : {P : Type 0} (see : P → Seen) (group : Word) (names : List Word) (shelf : Shelved) (others : List Holder) (fs : List (GroupDevice P)) → fs ≡ [] → AreHeld shelf.held others → GatherGoes Done group (take 0 names) (record { shelf = shelf; taken = others }) (beside shelf others (map (looked see) fs)) (map (looked see) fs)
gather_none {P = P} see group names shelf others fs none are =
    subst (λ (xs : List (GroupDevice P)). GatherGoes Done group (take 0 names) (record { shelf = shelf; taken = others }) (beside shelf others (map (looked see) xs)) (map (looked see) xs)) (sym none)
    (subst (λ hs. GatherGoes Done group (take 0 names) (record { shelf = shelf; taken = others }) (record { shelf = shelf; taken = hs }) []) (sym (append-nil others))
    (record { held = are; reads = only_refl (record { shelf = shelf; taken = others }); headers = λ told name. inl refl; ends = record { excused = []; shelf = omega arith; met = tt } }))

pub gather_all : (group : Word) (names : List Word) (i : ℕ) (old new : Scene) (fs : List Looked) → length names ≤ i → GatherGoes Done group (take i names) old new fs → GatherGoes Done group names old new fs
gather_all group names i old new fs le goes = subst (λ ns. GatherGoes Done group ns old new fs) (take_all i names le) goes

pub before_first : {P : Type 0} (see : P → Seen) (fs : List (GroupDevice P)) (name : Word) → fs ≡ [] → AllBefore (map (looked see) fs) name
before_first {P = P} see fs name none = subst (λ (xs : List (GroupDevice P)). AllBefore (map (looked see) xs) name) (sym none) tt
