-- The devices that were found are those that count.
use Rattle.std.proofs.Common.{◌≡◌, ◌∙◌, ◌&&◌, ◌||◌, ◌⊎◌, ℕ, ◌<◌, Bool, true, false, not, cond, List, [], ◌∷◌, ◌++◌, map, Option, Some, None, refl, sym, ap, subst, inl, inr, append_assoc, arith}
use Rattle.std.specs.Prelude.{IfSome, IsSome}
use Rattle.std.specs.List.{list_any}
use Rattle.std.specs.Str.{bytes_eq}
use Rattle.std.proofs.Math.Dec.{leb}
use Rattle.std.proofs.lemmas.Bool.{leb-true, le-leb, cond-false}
use Rattle.vx_pages.specs.declared.local_piece.LocalPiece.{Ghosts}
use Rattle.vx_base.specs.Blocks.{Contents}
use Rattle.vx_base.specs.Counts.{Rose, later_count}
use Rattle.vx_base.specs.Named.{Word}
use Rattle.vx_base.proofs.NamedLemmas.{bytes_eq_self, bytes_eq_same}
use Rattle.vx_header.specs.Named.{Label, header_of}
use Rattle.vx_piece.specs.Seen.{Seen, Keeps, IsRead}
use Rattle.vx_shelf.specs.Listed.{Lists, is_listed}
use Rattle.vx_copies.specs.Lists.{AllOf, AnyOf}
use Rattle.vx_import.specs.Looks.{Looked}
use Rattle.vx_started.specs.declared.started.Started.{Started}
use Rattle.vx_moments.specs.World.{Device}
use Rattle.vx_moments.specs.Moment.{Moment, Counts, HasFailed}
use Rattle.vx_moments.specs.Holding.{IsHeld, is_among}
use Rattle.vx_stages.specs.Finding.{Candidate, IsCandidate, AreRising, AreCounted, IsUpTo, Found}
use Rattle.vx_house.specs.Holders.{Holder, holders, volume_holder, held_as, AreApart, hand_names}
use Rattle.vx_house.specs.Scene.{Shelved, Scene, seen_in, seen_at, faults_in, faults_at, counts_of, FaultsGoOn}
use Rattle.vx_house.specs.View.{IsMoment, IsDeviceOf, is_lent, at, scene}
use Rattle.vx_house.specs.declared.house.House.{House}
use Rattle.vx_house.proofs.Free.{held_in}
use Rattle.vx_house.proofs.Holders.{IsApart, apart_turned}
use Rattle.vx_house.proofs.AllLaws.{all_back, all_two, all_unmapped}
use Rattle.vx_stage_import.specs.Places.{ArePlaced}
use Rattle.vx_stage_import.specs.Finds.{holder_of, holders_of, beside, contents_in, candidate_of, candidates_of, IsOfGroup, IsNaming}
use Rattle.vx_stage_import.specs.Gathering.{IsMet}
use Rattle.vx_stage_import.specs.Importing.{all_read, IsSince}
use Rattle.vx_stage_import.proofs.Inspections.{held_finds}
use Rattle.vx_stage_import.proofs.Links.{IsLinked}
use Rattle.vx_stage_import.proofs.Passes.{self_up_to}
use Rattle.vx_stage_import.proofs.ReadAtMost.{not_held_here}
use Rattle.vx_stage_import.proofs.Names.{or_true, or_first}
use Rattle.vx_house.specs.Reading.{Stays}

-- the name is that of one of them
abbrev pub is_found : Word → List Looked → Bool
is_found name fs = list_any (λ f. bytes_eq f.device name) fs

rising_map : (slot : ℕ) (fs : List Looked) → AllOf (λ n. slot < n) (map (λ f. f.label.slot) fs) → AllOf (λ d. slot < d.label.slot) (candidates_of fs)
rising_map slot [] all = tt
rising_map slot (f ∷ fs) all = (all.0, rising_map slot fs all.1)

rising_all : (fs : List Looked) → ArePlaced (map (λ f. f.label.slot) fs) → AreRising (candidates_of fs)
rising_all [] placed = tt
rising_all (f ∷ fs) placed = (rising_map f.label.slot fs placed.0, rising_all fs placed.1)

all_found : (before fs : List Looked) → AllOf (λ f. is_found f.device (before ++ fs) ≡ true) fs
all_found before [] = tt
all_found before (f ∷ fs) = (here before, subst (λ xs. AllOf (λ g. is_found g.device xs ≡ true) fs) (append_assoc before (f ∷ []) fs) (all_found (before ++ f ∷ []) fs))
  where
    here : (xs : List Looked) → is_found f.device (xs ++ f ∷ fs) ≡ true
    here [] = or_first (bytes_eq f.device f.device) (is_found f.device fs) (bytes_eq_self f.device)
    here (x ∷ xs) = or_true (bytes_eq x.device f.device) (is_found f.device (xs ++ f ∷ fs)) (here xs)

-- one that has the name
named_one : (Q : Looked → Type 0) (name : Word) (fs : List Looked) → AllOf Q fs → is_found name fs ≡ true → AnyOf (λ f. Q f × (f.device ≡ name)) fs
named_one Q name [] all is = cc
named_one Q name (f ∷ fs) all is = by (bytes_eq f.device name) refl (named_one Q name fs all.1) is
  where
    by : (b : Bool) → bytes_eq f.device name ≡ b → (is_found name fs ≡ true → AnyOf (λ f. Q f × (f.device ≡ name)) fs) → (b || is_found name fs) ≡ true → AnyOf (λ f. Q f × (f.device ≡ name)) (f ∷ fs)
    by true e rest is = inl (all.0, bytes_eq_same f.device name e)
    by false e rest is = inr (rest is)

any_candidate : (P : Looked → Type 0) (R : Candidate → Type 0) → ((f : Looked) → P f → R (candidate_of f)) → (fs : List Looked) → AnyOf P fs → AnyOf R (candidates_of fs)
any_candidate P R on [] any = absurd any
any_candidate P R on (f ∷ fs) (inl is) = inl (on f is)
any_candidate P R on (f ∷ fs) (inr any) = inr (any_candidate P R on fs any)

listed_one : (Q : Word → Type 0) (name : Word) (names : List Word) → AllOf Q names → is_listed name names ≡ true → Q name
listed_one Q name [] all is = cc
listed_one Q name (n ∷ names) all is = by (bytes_eq n name) refl (listed_one Q name names all.1) is
  where
    by : (b : Bool) → bytes_eq n name ≡ b → (is_listed name names ≡ true → Q name) → (b || is_listed name names) ≡ true → Q name
    by true e rest is = subst Q (bytes_eq_same n name e) all.0
    by false e rest is = rest is

-- none of the first has a name of the others
pub none_beside : (xs ys : List Holder) → AreApart (xs ++ ys) → AllOf (λ y. held_as xs y.name ≡ None) ys
none_beside [] [] apart = tt
none_beside [] (y ∷ ys) apart = (refl, none_beside [] ys apart.1)
none_beside (x ∷ xs) ys apart =
    all_two (λ y. bytes_eq x.name y.name ≡ false) (λ y. held_as xs y.name ≡ None) (λ y. held_as (x ∷ xs) y.name ≡ None) (λ y away none. cond-false _ _ _ away ∙ none) ys (all_back (IsApart x) xs ys apart.0) (none_beside xs ys apart.1)

-- a device that the house does not hold is not lent
lent_held : {P : Type 0} (see : P → Seen) (es : List (Word × Started P)) (hs : List Holder) (name : Word) → held_as (map (volume_holder see) es ++ hs) name ≡ None → list_any (λ e. bytes_eq e.1.device name) es ≡ false
lent_held see [] hs name none = refl
lent_held see (e ∷ es) hs name none = by (bytes_eq e.1.device name) (lent_held see es hs name) none
  where
    by : (b : Bool) → (held_as (map (volume_holder see) es ++ hs) name ≡ None → list_any (λ e. bytes_eq e.1.device name) es ≡ false) → cond b (Some (see e.1.piece)) (held_as (map (volume_holder see) es ++ hs) name) ≡ None → (b || list_any (λ e. bytes_eq e.1.device name) es) ≡ false
    by true rest none = cc
    by false rest none = rest none

-- the device of the world that is told
told_of : (lent : Bool) (s : Seen) (device : Option Device) → lent ≡ false → IsDeviceOf lent (Some s) device → (d : Device) × (device ≡ Some d) × (d.sectors ≡ s.sectors) × (s.told ≡ Some d.contents)
told_of lent s None own is = absurd is
told_of lent s (Some d) own is = (d, refl, is.0, is.1 own)

seen_of : (lent : Bool) (s : Option Seen) (d : Device) → lent ≡ false → IsDeviceOf lent s (Some d) → (seen : Seen) × (s ≡ Some seen) × (d.sectors ≡ seen.sectors) × (seen.told ≡ Some d.contents)
seen_of lent None d own is = absurd is
seen_of lent (Some seen) d own is = (seen, refl, is.0, is.1 own)

pub stays_some : (o : Option Seen) (now : Seen) → Stays o (Some now) → (s : Seen) × (o ≡ Some s) × Keeps s now × IsRead s now
stays_some None now is = absurd is
stays_some (Some s) now is = (s, refl, is.0, is.1)

some_names : (name : Word) (hand : List Word) → hand ≡ [] → is_among name hand ≡ true → ⊥
some_names name hand none is = let no : is_among name hand ≡ false = ap (is_among name) none in cc

-- a device that cannot be read any more
abbrev pub unread_by : List Looked → Word → Bool
unread_by fs name = list_any (λ f. bytes_eq f.device name && not f.readable) fs

none_unread : (h : Holder) (fs : List Looked) → AllOf (λ o. bytes_eq o.name h.name ≡ false) (holders_of fs) → unread_by fs h.name ≡ false
none_unread h [] apart = refl
none_unread h (f ∷ fs) apart = ap (λ b. (b && not f.readable) || unread_by fs h.name) apart.0 ∙ none_unread h fs apart.1

-- what holds of each that cannot be read any more holds of what is named so
pub unread_named : (Q : Word → Type 0) (name : Word) (fs : List Looked) → AllOf (λ f. f.readable ≡ false → Q f.device) fs → unread_by fs name ≡ true → Q name
unread_named Q name [] all is = cc
unread_named Q name (f ∷ fs) all is = by (bytes_eq f.device name) f.readable refl refl (unread_named Q name fs all.1) is
  where
    by : (b r : Bool) → bytes_eq f.device name ≡ b → f.readable ≡ r → (unread_by fs name ≡ true → Q name) → ((b && not r) || unread_by fs name) ≡ true → Q name
    by true false e d rest is = subst Q (bytes_eq_same f.device name e) (all.0 d)
    by true true e d rest is = rest is
    by false r e d rest is = rest is

-- each is said to be unread where a read of it has failed
each_unread : (fs : List Looked) → AreApart (holders_of fs) → AllOf (λ f. unread_by fs f.device ≡ not f.readable) fs
each_unread [] apart = tt
each_unread (f ∷ fs) apart = (here (bytes_eq_self f.device) (none_unread (holder_of f) fs (turned fs apart.0)), others fs apart.0 (each_unread fs apart.1))
  where
    by : (c : Bool) → (c || false) ≡ c
    by true = refl
    by false = refl

    here : bytes_eq f.device f.device ≡ true → unread_by fs f.device ≡ false → unread_by (f ∷ fs) f.device ≡ not f.readable
    here self rest = ap (λ x. (x && not f.readable) || unread_by fs f.device) self ∙ ap (λ x. not f.readable || x) rest ∙ by (not f.readable)

    turned : (gs : List Looked) → AllOf (IsApart (holder_of f)) (holders_of gs) → AllOf (λ o. bytes_eq o.name f.device ≡ false) (holders_of gs)
    turned [] away = tt
    turned (g ∷ gs) away = (apart_turned f.device g.device away.0, turned gs away.1)

    others : (gs : List Looked) → AllOf (IsApart (holder_of f)) (holders_of gs) → AllOf (λ g. unread_by fs g.device ≡ not g.readable) gs → AllOf (λ g. unread_by (f ∷ fs) g.device ≡ not g.readable) gs
    others [] away all = tt
    others (g ∷ gs) away all = (ap (λ b. (b && not f.readable) || unread_by fs g.device) away.0 ∙ all.0, others gs away.1 all.1)

module _ {P : Type 0} {ghosts : Ghosts P} (see : P → Seen) (group : Word) (names : List Word) (first now : Shelved) (h : House P ghosts) (fs : List Looked) (since : IsSince see all_read group names first now h fs) (m : Moment) (is : IsMoment see (at first h) m) where
  abbrev pub start : Scene
  start = scene see (at first h)

  abbrev pub then : Scene
  then = beside now (holders see h) fs

  -- nothing is held under the name in the house: no volume has the device, and nobody else
  not_lent : (name : Word) → held_as (holders see h) name ≡ None → is_lent h name ≡ false
  not_lent name none = lent_held see h.volumes.entries _ name none

  not_in_house : (name : Word) → (IsHeld m.world name → ⊥) → held_as (holders see h) name ≡ None
  not_in_house name free = by (held_as (holders see h) name) refl
    where
      hand_empty : hand_names h ≡ []
      hand_empty = ap (map (λ t. t.device)) since.ready

      by : (o : Option Seen) → held_as (holders see h) name ≡ o → held_as (holders see h) name ≡ None
      by None e = e
      by (Some seen) e = elim (held_in see h m.world is.volumes_are is.group_is since.keeps.house name seen e) [
        | inl among ↦ absurd (some_names name (hand_names h) hand_empty among)
        | inr held ↦ absurd (free held)
      ]

  -- a device that was found: it is of the group, nobody held it, and it has stayed
  pub record IsThere (f : Looked) : Type 0 where
    pub of : IsOfGroup group f
    pub none : held_as (holders see h) f.device ≡ None
    pub here : seen_at then f.device ≡ Some f.seen
    pub faults : faults_at then f.device ≡ f.seen.faults

  pub all_there : AllOf IsThere fs
  all_there =
      all_two (IsOfGroup group) (λ f. (held_as (holders see h) f.device ≡ None) × (held_as (holders see h ++ holders_of fs) f.device ≡ Some f.seen)) IsThere
      (λ f of is. record { of = of; none = is.0; here = ap (λ o. seen_in o now.free f.device) is.1; faults = ap (λ o. faults_in o (now.counted f.device)) is.1 }) fs since.each
      (all_two (λ f. held_as (holders see h) f.device ≡ None) (λ f. held_as (holders see h ++ holders_of fs) f.device ≡ Some f.seen) (λ f. (held_as (holders see h) f.device ≡ None) × (held_as (holders see h ++ holders_of fs) f.device ≡ Some f.seen))
      (λ f none at. (none, at)) fs
      (all_unmapped (λ o. held_as (holders see h) o.name ≡ None) holder_of fs (none_beside (holders see h) (holders_of fs) since.held.apart))
      (held_finds (holders see h) fs since.held.apart))

  -- what the world has of it
  pub record IsWorlds (f : Looked) : Type 0 where
    pub contents : Contents
    pub told : f.seen.told ≡ Some contents
    pub device : m.world.devices f.device ≡ Some (candidate_of f).device

  pub found_device : (f : Looked) → IsThere f → IsWorlds f
  found_device f there =
      let s = stays_some (seen_at start f.device) f.seen (subst (Stays (seen_at start f.device)) there.here (since.reads.seen is.told f.device)) in
      let d = told_of (is_lent h f.device) s.0 (m.world.devices f.device) (not_lent f.device there.none) (subst (λ o. IsDeviceOf (is_lent h f.device) o (m.world.devices f.device)) s.1 (is.devices_are f.device)) in
      let told : f.seen.told ≡ Some d.0.contents = s.3.told ∙ d.3 in
      let sectors : d.0.sectors ≡ f.seen.sectors = d.2 ∙ sym s.2.sectors in record {
        contents = d.0.contents;
        told = told;
        device = d.1 ∙ ap (λ n. Some (let x : Device = record { sectors = n; contents = d.0.contents } in x)) sectors ∙ ap (λ c. Some (let x : Device = record { sectors = f.seen.sectors; contents = c } in x)) (sym (ap contents_in told));
      }

  pub one_candidate : (absent : Word → Bool) (f : Looked) → IsThere f → absent f.device ≡ false → IsCandidate group absent m.world (candidate_of f)
  one_candidate absent f there present =
      let d = found_device f there in record {
        free = not_held_here see group first h since.keeps m is f.device there.none;
        device_is = d.device;
        present = present;
        header = ap (λ c. header_of (c 0)) (ap contents_in d.told) ∙ subst (λ (o : Option Contents). IfSome o (λ c. header_of (c 0) ≡ Some f.label)) d.told there.of.headed;
        group_is = there.of.group_is;
        size = there.of.size;
      }

  all_candidates : (absent : Word → Bool) (gs : List Looked) → AllOf IsThere gs → AllOf (λ f. absent f.device ≡ false) gs → AllOf (IsCandidate group absent m.world) (candidates_of gs)
  all_candidates absent [] there present = tt
  all_candidates absent (g ∷ gs) there present = (one_candidate absent g there.0 present.0, all_candidates absent gs there.1 present.1)

  -- the count of the device has risen
  abbrev has_risen : Word → Bool
  has_risen name = leb (later_count (faults_at start name) 1) (faults_at then name)

  -- a device that failed or is excused, and that is not among those that were found
  abbrev pub absent_by : Word → Bool
  absent_by name = (has_risen name || is_among name since.met.excused) && not (is_found name fs)

  present_found : (name : Word) → is_found name fs ≡ true → absent_by name ≡ false
  present_found name found = by (has_risen name || is_among name since.met.excused) (is_found name fs) found
    where
      by : (b c : Bool) → c ≡ true → (b && not c) ≡ false
      by true c e = ap not e
      by false c e = refl

  found_present : (name : Word) → (has_risen name || is_among name since.met.excused) ≡ true → absent_by name ≡ false → is_found name fs ≡ true
  found_present name failed present = by (has_risen name || is_among name since.met.excused) (is_found name fs) failed present
    where
      by : (b c : Bool) → b ≡ true → (b && not c) ≡ false → c ≡ true
      by true true e is = refl
      by true false e is = cc
      by false c e is = cc

  same_slot : (g : Looked) (c : Candidate) → IsThere g → IsCandidate group absent_by m.world c → g.device ≡ c.name → g.label.slot ≡ c.label.slot
  same_slot g c there counts named =
      let mine : IsCandidate group (λ n. false) m.world (candidate_of g) = one_candidate (λ n. false) g there refl in
      let here : m.world.devices g.device ≡ Some c.device = ap m.world.devices named ∙ counts.device_is in
      let device : Some (candidate_of g).device ≡ Some c.device = sym mine.device_is ∙ here in
      let header : header_of ((candidate_of g).device.contents 0) ≡ header_of (c.device.contents 0) = some_same (candidate_of g).device c.device device in
      let labels : Some g.label ≡ Some c.label = sym mine.header ∙ header ∙ counts.header in
      label_same g.label c.label labels
    where
      some_same : (a b : Device) → Some a ≡ Some b → header_of (a.contents 0) ≡ header_of (b.contents 0)
      some_same a b e = let x : a ≡ b = cc in ap (λ (d : Device). header_of (d.contents 0)) x

      label_same : (a b : Label) → Some a ≡ Some b → a.slot ≡ b.slot
      label_same a b e = let x : a ≡ b = cc in ap (λ (l : Label). l.slot) x

  abbrev HasOne : Candidate → Type 0
  HasOne c = AnyOf (λ d. (d.label.slot ≡ c.label.slot) × IsUpTo d.name c.name) (candidates_of fs)

  -- one that counts is found itself, where it has failed or is excused
  by_name : (c : Candidate) → IsCandidate group absent_by m.world c → (has_risen c.name || is_among c.name since.met.excused) ≡ true → HasOne c
  by_name c counts e =
      any_candidate (λ g. IsThere g × (g.device ≡ c.name)) (λ d. (d.label.slot ≡ c.label.slot) × IsUpTo d.name c.name)
      (λ g there. (same_slot g c there.0 counts there.1, self_up_to g.device c.name there.1)) fs
      (named_one IsThere c.name fs all_there (found_present c.name e counts.present))

  listed_here : (c : Candidate) (seen : Seen) → held_as (holders see h) c.name ≡ None → seen_at start c.name ≡ Some seen → is_listed c.name names ≡ true
  listed_here c seen none there = by first.free since.lists (sym (ap (λ o. seen_in o first.free c.name) none) ∙ there)
    where
      by : (free : Option (Word → Option Seen)) → IfSome free (λ devices. Lists names devices first.held) → seen_in None free c.name ≡ Some seen → is_listed c.name names ≡ true
      by None lists e = cc
      by (Some d) lists e = (lists c.name).1 (inl (subst IsSome (sym e) refl))

  first_one : (c : Candidate) → IsCandidate group absent_by m.world c → HasOne c
  first_one c counts =
      let none = not_in_house c.name counts.free in
      let s = seen_of (is_lent h c.name) (seen_at start c.name) c.device (not_lent c.name none) (subst (IsDeviceOf (is_lent h c.name) (seen_at start c.name)) counts.device_is (is.devices_are c.name)) in
      let naming : IsNaming group c.label s.0 = record { contents = c.device.contents; told = s.3; header = counts.header; group_is = counts.group_is; size = counts.size ∙ s.2 } in
      elim (listed_one (λ name. (is_among name since.met.excused ≡ true) ⊎ IsMet group name start then fs) c.name names since.met.met (listed_here c s.0 none s.1)) [
        | inl excused ↦ by_name c counts (or_true (has_risen c.name) (is_among c.name since.met.excused) excused)
        | inr met ↦ elim (met s.0 c.label none s.1 naming) [
          | inl rose ↦ by_name c counts (or_first (has_risen c.name) (is_among c.name since.met.excused) (le-leb (later_count (faults_at start c.name) 1) (faults_at then c.name) rose))
          | inr has ↦ any_candidate (λ g. (g.label.slot ≡ c.label.slot) × IsUpTo g.device c.name) (λ d. (d.label.slot ≡ c.label.slot) × IsUpTo d.name c.name) (λ g e. e) fs has
        ]
      ]

  -- those that were found are those that count
  pub are_counted : AreCounted group absent_by m.world (candidates_of fs)
  are_counted = record {
    each = all_candidates absent_by fs all_there (all_two (λ g. is_found g.device fs ≡ true) (λ g. is_found g.device fs ≡ true) (λ g. absent_by g.device ≡ false) (λ g p q. present_found g.device p) fs (all_found [] fs) (all_found [] fs));
    rising = rising_all fs since.rising;
    first = first_one;
  }

  pub apart_finds : AreApart (holders_of fs)
  apart_finds = apart_behind (holders see h) (holders_of fs) since.held.apart
    where
      apart_behind : (xs ys : List Holder) → AreApart (xs ++ ys) → AreApart ys
      apart_behind [] ys apart = apart
      apart_behind (x ∷ xs) ys apart = apart_behind xs ys apart.1

  -- what was found is told, and linked with what the definition speaks of
  pub all_linked : AllOf (IsLinked (unread_by fs)) fs
  all_linked = all_two IsThere (λ f. unread_by fs f.device ≡ not f.readable) (IsLinked (unread_by fs)) (λ f there e. let d = found_device f there in record { unread_is = e; contents = d.contents; told = d.told }) fs all_there (each_unread fs apart_finds)

  module _ (end : Scene) (later : FaultsGoOn then end) where
    abbrev new : Counts
    new = counts_of end

    failed_on : (name : Word) → Rose (faults_at start name) (faults_at then name) → HasFailed m.counts new name
    failed_on name rose = let e = is.counts.faults name in let up = later.devices name in omega (arith, rose, e, up)

    pub gone_here : (name : Word) → absent_by name ≡ true → HasFailed m.counts new name ⊎ (is_among name since.met.excused ≡ true)
    gone_here name absent = by (has_risen name) refl (is_among name since.met.excused) refl (is_found name fs) absent
      where
        by : (b : Bool) → has_risen name ≡ b → (c : Bool) → is_among name since.met.excused ≡ c → (d : Bool) → ((b || c) && not d) ≡ true → HasFailed m.counts new name ⊎ (is_among name since.met.excused ≡ true)
        by true e c f d is = inl (failed_on name (leb-true (later_count (faults_at start name) 1) (faults_at then name) e))
        by false e true f d is = inr f
        by false e false f d is = cc

    pub all_dropped : AllOf (λ f. f.readable ≡ false → HasFailed m.counts new f.device) fs
    all_dropped =
        all_two IsThere (λ f. f.readable ≡ false → Rose (faults_at start f.device) f.seen.faults) (λ f. f.readable ≡ false → HasFailed m.counts new f.device)
        (λ f there drops unread. failed_on f.device (subst (Rose (faults_at start f.device)) (sym there.faults) (drops unread))) fs all_there since.dropped

    -- What was found, by the counts at the end.
    abbrev pub found_of : Found group m.world m.counts new
    found_of = record {
      absent = absent_by;
      unread = unread_by fs;
      excused = since.met.excused;
      gone = gone_here;
      failed = λ name unread. unread_named (HasFailed m.counts new) name fs all_dropped unread;
      shelf = let rose = since.met.shelf in let e = is.counts.shelf in let up = later.shelf in omega (arith, rose, e, up);
      counted = candidates_of fs;
      count = are_counted;
    }
