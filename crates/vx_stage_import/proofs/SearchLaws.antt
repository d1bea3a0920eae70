-- What holds since the shelf told its names, as devices are found and their toggles read.
use Rattle.std.proofs.Common.{◌≡◌, ◌∙◌, ◌⊎◌, ◌≤◌, ◌+◌, ℕ, Bool, true, false, Option, Some, None, List, [], ◌∷◌, ◌++◌, map, refl, sym, ap, subst, inl, inr, arith}
use Rattle.std.specs.Prelude.{IfSome, IsSome}
use Rattle.vx_pages.specs.declared.local_piece.LocalPiece.{Ghosts}
use Rattle.vx_base.specs.Blocks.{Contents}
use Rattle.vx_base.specs.Counts.{Rose}
use Rattle.vx_base.specs.Named.{Word, SameUnder}
use Rattle.vx_piece.specs.Seen.{Seen}
use Rattle.vx_shelf.specs.Listed.{Lists}
use Rattle.vx_shelf.specs.Shelf.{SameCounts}
use Rattle.vx_copies.specs.Disks.{Drops}
use Rattle.vx_copies.specs.Lists.{Each, AllOf}
use Rattle.vx_import.specs.Looks.{Looked, looked}
use Rattle.vx_import.specs.Toggles.{Inspects}
use Rattle.vx_import.specs.declared.device.GroupDevice.{GroupDevice}
use Rattle.vx_header.specs.Said.{toggle_of}
use Rattle.vx_copies.specs.Image.{text_sectors}
use Rattle.vx_moments.specs.Holding.{is_among}
use Rattle.vx_moments.specs.Moment.{Moment}
use Rattle.vx_stages.specs.Stages.{ImportReads}
use Rattle.vx_house.specs.Holders.{holders, held_as}
use Rattle.vx_house.specs.Scene.{Shelved, Scene, seen_in, seen_at, faults_in, faults_at, count_in, reads_at, counts_of}
use Rattle.vx_house.specs.View.{Keeps, IsMoment, at, scene}
use Rattle.vx_house.specs.declared.house.House.{House}
use Rattle.vx_house.proofs.Holders.{later_held}
use Rattle.vx_house.proofs.AllLaws.{all_each}
use Rattle.vx_house.proofs.Lists.{held_behind}
use Rattle.vx_house.proofs.Steps.{HeldStep, held_steps}
use Rattle.vx_stage_import.specs.Places.{slots_of, ArePlaced}
use Rattle.vx_stage_import.specs.Finds.{holders_of, beside, IsFind, IsOfGroup, AreFinds, AreLooked}
use Rattle.vx_stage_import.specs.Gathering.{IsHeaderRead, HeadersRead, IsMet, GatherGoes}
use Rattle.vx_stage_import.specs.Giving.{IsBack}
use Rattle.vx_stage_import.specs.Importing.{header_alone, all_read, IsAsked, IsSince}
use Rattle.vx_stage_import.specs.declared.gathering.Passed.TheVariants.{Done}
use Rattle.vx_stage_import.proofs.Gathers.{naming_on, stays_to, met_on}
use Rattle.vx_stage_import.proofs.Headers.{same_reads, header_as}
use Rattle.vx_stage_import.proofs.Inspections.{held_finds, read_each, slot_inspected}
use Rattle.vx_stage_import.proofs.ReadAtMost.{header_so, reads_so}
use Rattle.vx_house.specs.Reading.{Stays, OnlyRead, AreRead}
use Rattle.vx_house.proofs.Readings.{IsReadOn, only_trans, only_each, only_unmoved, each_behind, each_later}
use Rattle.vx_house.proofs.Refusals.{told_free, only_asked, held_asked}

pub unread_asked : {P : Type 0} {ghosts : Ghosts P} (see : P → Seen) (first now : Shelved) (h : House P ghosts) → now.free ≡ first.free → (name : Word) → reads_at (scene see (at now h)) name ≡ reads_at (scene see (at first h)) name
unread_asked see first now h stays name = same_reads (scene see (at first h)) (scene see (at now h)) name (ap (λ f. seen_in (held_as (holders see h) name) f name) stays)

-- the names are told: nothing was taken
pub names_asked : {P : Type 0} {ghosts : Ghosts P} (see : P → Seen) (names : List Word) (first now : Shelved) (h : House P ghosts) → Keeps see (at first h) → h.hand.items ≡ [] → h.group ≡ None → IfSome first.free (λ devices. Lists names devices first.held)
    → SameUnder first.held now.held → now.free ≡ first.free → SameCounts first.counted now.counted → first.faults ≤ now.faults → IsAsked see names first now h
names_asked see names first now h keeps ready none lists same stays counts later = record {
  keeps = keeps;
  ready = ready;
  none = none;
  lists = lists;
  still = record { held = held_asked first now same stays counts later (holders see h) keeps.devices; reads = only_asked first now same stays counts later (holders see h) };
  unread = unread_asked see first now h stays;
}

-- the shelf was asked, and nothing was taken
pub still_asked : {P : Type 0} {ghosts : Ghosts P} (see : P → Seen) (first now : Shelved) (h : House P ghosts) → Keeps see (at first h) → SameUnder first.held now.held → now.free ≡ first.free → SameCounts first.counted now.counted → first.faults ≤ now.faults → AreRead (scene see (at first h)) (scene see (at now h))
still_asked see first now h keeps same stays counts later = record { held = held_asked first now same stays counts later (holders see h) keeps.devices; reads = only_asked first now same stays counts later (holders see h) }

-- one that is met from then on is met from the beginning on
met_first : (group name : Word) (a b c : Scene) (fs : List Looked) → OnlyRead a b → b.taken ≡ a.taken → IsMet group name b c fs → IsMet group name a c fs
met_first group name a b c fs reads same met = λ seen label none is naming.
    let told = told_free (held_as a.taken name) a.shelf.free name seen none is in
    let there = stays_to seen (seen_at b name) (subst (λ o. Stays o (seen_at b name)) is (reads.seen told name)) in
    elim (met there.0 label (ap (λ hs. held_as hs name) same ∙ none) there.1 (naming_on group label seen there.0 there.2 naming)) [
      | inl rose ↦ inl (let up = reads.faults.devices name in omega (arith, rose, up))
      | inr has ↦ inr has
    ]

all_met : (group : Word) (excused : List Word) (a b c : Scene) (fs : List Looked) → OnlyRead a b → b.taken ≡ a.taken → (names : List Word) → AllOf (λ name. (is_among name excused ≡ true) ⊎ IsMet group name b c fs) names → AllOf (λ name. (is_among name excused ≡ true) ⊎ IsMet group name a c fs) names
all_met group excused a b c fs reads same = all_each (λ name. (is_among name excused ≡ true) ⊎ IsMet group name b c fs) (λ name. (is_among name excused ≡ true) ⊎ IsMet group name a c fs) by
  where
    by : (name : Word) → (is_among name excused ≡ true) ⊎ IsMet group name b c fs → (is_among name excused ≡ true) ⊎ IsMet group name a c fs
    by name (inl among) = inl among
    by name (inr met) = inr (met_first group name a b c fs reads same met)

of_group : (group : Word) (f : Looked) → IsFind group f → IsOfGroup group f
of_group group f is = record { group_is = is.group_is; size = is.size; headed = is.headed; slot = is.slot; public = is.public }

none_dropped : (Q : Looked → Type 0) (group : Word) (fs : List Looked) → AllOf (IsFind group) fs → AllOf (λ f. f.readable ≡ false → Q f) fs
none_dropped Q group = all_each (IsFind group) (λ f. f.readable ≡ false → Q f) (λ f is unread. let readable : f.readable ≡ true = is.readable in cc)

pub slots_mapped : {P : Type 0} (see : P → Seen) (ds : List (GroupDevice P)) → map (λ f. f.label.slot) (map (looked see) ds) ≡ slots_of ds
slots_mapped see [] = refl
slots_mapped see (d ∷ ds) = ap (λ ns. d.header.slot ∷ ns) (slots_mapped see ds)

-- the devices were found
pub since_found : {P : Type 0} {ghosts : Ghosts P} (see : P → Seen) (group : Word) (names : List Word) (first mid now : Shelved) (h : House P ghosts) (room : ℕ) (ds : List (GroupDevice P)) → IsAsked see names first mid h → AreFinds see group room ds
    → GatherGoes Done group names (scene see (at mid h)) (beside now (holders see h) (map (looked see) ds)) (map (looked see) ds) → IsSince see header_alone group names first now h (map (looked see) ds)
since_found see group names first mid now h room ds asked are goes = record {
  keeps = asked.keeps;
  ready = asked.ready;
  none = asked.none;
  lists = asked.lists;
  held = goes.held;
  reads = only_trans (scene see (at first h)) (scene see (at mid h)) then asked.still.reads goes.reads;
  counted = λ told. let read = from_first told in record { found = all_each (λ f. held_as (holders see h ++ holders_of fs) f.device ≡ Some f.seen) IsHeaded (one_header read) fs (held_finds (holders see h) fs goes.held.apart); others = λ name none. read name };
  met = record {
    excused = goes.ends.excused;
    shelf = let rose = goes.ends.shelf in let up = asked.still.reads.faults.shelf in omega (arith, rose, up);
    met = all_met group goes.ends.excused (scene see (at first h)) (scene see (at mid h)) then fs asked.still.reads refl names goes.ends.met;
  };
  each = all_each (IsFind group) (IsOfGroup group) (of_group group) fs are.each;
  rising = subst ArePlaced (sym (slots_mapped see ds)) are.roomy.rising;
  dropped = none_dropped (λ f. Rose (faults_at (scene see (at first h)) f.device) f.seen.faults) group fs are.each;
}
  where
    fs : List Looked
    fs = map (looked see) ds

    start : Scene
    start = scene see (at first h)

    then : Scene
    then = beside now (holders see h) fs

    from_first : IsSome first.free → HeadersRead names start then
    from_first told = λ name. header_as names (scene see (at mid h)) then start then name refl (sym (asked.unread name)) refl (goes.headers (asked.still.reads.told told) name)

    IsHeaded : Looked → Type 0
    IsHeaded f = IfSome f.seen.told (λ contents. f.seen.reads ≤ reads_at start f.device + header_alone contents)

    one_header : HeadersRead names start then → (f : Looked) → held_as (holders see h ++ holders_of fs) f.device ≡ Some f.seen → IsHeaded f
    one_header read f held = by f.seen.told
      where
        here : reads_at then f.device ≡ f.seen.reads
        here = ap (λ o. count_in (λ (s : Seen). s.reads) 0 (seen_in o now.free f.device)) held

        most : f.seen.reads ≤ reads_at start f.device + 1
        most = elim (read f.device) [ inl same ↦ omega (arith, here, same) | inr up ↦ (let few = up.2 in omega (arith, here, few)) ]

        by : (o : Option Contents) → IfSome o (λ contents. f.seen.reads ≤ reads_at start f.device + header_alone contents)
        by None = tt
        by (Some contents) = most

module _ {P : Type 0} {ghosts : Ghosts P} (see : P → Seen) (group : Word) (names : List Word) (first now : Shelved) (h : House P ghosts) (room : ℕ) (ds es : List (GroupDevice P)) (since : IsSince see header_alone group names first now h (map (looked see) ds)) (are : AreFinds see group room ds) (each : Each Inspects (map (looked see) ds) (map (looked see) es)) (looks : AreLooked see group es) where
  abbrev fs : List Looked
  fs = map (looked see) ds

  abbrev gs : List Looked
  gs = map (looked see) es

  abbrev start : Scene
  start = scene see (at first h)

  inspected : OnlyRead (beside now (holders see h) fs) (beside now (holders see h) gs)
  inspected = only_each now (holders see h ++ holders_of fs) (holders see h ++ holders_of gs) (each_behind (holders see h) (holders_of fs) (holders_of gs) (read_each fs gs each))

  finds_faults : AllOf (λ f. faults_at (beside now (holders see h) fs) f.device ≡ f.seen.faults) fs
  finds_faults =
      all_each (λ f. held_as (holders see h ++ holders_of fs) f.device ≡ Some f.seen) (λ f. faults_at (beside now (holders see h) fs) f.device ≡ f.seen.faults) (λ f at. ap (λ o. faults_in o (now.counted f.device)) at) fs (held_finds (holders see h) fs since.held.apart)

  rose_dropped : (x y : Bool) (a b : Seen) → Drops x y a b → x ≡ true → y ≡ false → Rose a.faults b.faults
  rose_dropped x true a b drops was is = cc
  rose_dropped false false a b drops was is = cc
  rose_dropped true false a b drops was is = drops

  all_dropped : (xs ys : List Looked) → Each Inspects xs ys → AllOf (IsFind group) xs → AllOf (λ f. faults_at (beside now (holders see h) fs) f.device ≡ f.seen.faults) xs → AllOf (λ f. f.readable ≡ false → Rose (faults_at start f.device) f.seen.faults) ys
  all_dropped [] [] went finds faults = tt
  all_dropped [] (y ∷ ys) went finds faults = absurd went
  all_dropped (x ∷ xs) [] went finds faults = absurd went
  all_dropped (x ∷ xs) (y ∷ ys) went finds faults = (
    (λ unread.
        let rose = rose_dropped x.readable y.readable x.seen y.seen went.0.readable finds.0.readable unread in
        let e = faults.0 in
        let up = since.reads.faults.devices x.device in
        let same : faults_at start y.device ≡ faults_at start x.device = ap (faults_at start) went.0.device in
        omega (arith, rose, e, up, same)),
    all_dropped xs ys went.1 finds.1 faults.1,
  )

  -- the toggle and its text were read of a device, besides its header
  one_read : (f g : Looked) → Inspects f g → IfSome f.seen.told (λ contents. f.seen.reads ≤ reads_at start f.device + header_alone contents) → IfSome g.seen.told (λ contents. g.seen.reads ≤ reads_at start g.device + all_read contents)
  one_read f g went was =
      subst (λ n. IfSome g.seen.told (λ contents. g.seen.reads ≤ reads_at start n + all_read contents)) (sym went.device)
      (subst (λ (o : Option Contents). IfSome o (λ contents. g.seen.reads ≤ reads_at start f.device + all_read contents)) (sym went.same.told) (by f.seen.told was went.most))
    where
      by : (o : Option Contents) → IfSome o (λ contents. f.seen.reads ≤ reads_at start f.device + header_alone contents) → IfSome o (λ contents. g.seen.reads ≤ f.seen.reads + 1 + text_sectors (toggle_of (contents 1))) → IfSome o (λ contents. g.seen.reads ≤ reads_at start f.device + all_read contents)
      by None header most = tt
      by (Some contents) header most = omega (arith, header, most)

  all_read_on : (xs ys : List Looked) → Each Inspects xs ys → AllOf (λ f. IfSome f.seen.told (λ contents. f.seen.reads ≤ reads_at start f.device + header_alone contents)) xs → AllOf (λ g. IfSome g.seen.told (λ contents. g.seen.reads ≤ reads_at start g.device + all_read contents)) ys
  all_read_on [] [] went was = tt
  all_read_on [] (y ∷ ys) went was = absurd went
  all_read_on (x ∷ xs) [] went was = absurd went
  all_read_on (x ∷ xs) (y ∷ ys) went was = (one_read x y went.0 was.0, all_read_on xs ys went.1 was.1)

  -- others were not read meanwhile
  none_was : (Q : Seen → Seen → Type 0) (a b : Option Seen) → HeldStep Q a b → b ≡ None → a ≡ None
  none_was Q None b step none = refl
  none_was Q (Some a) None step none = absurd step
  none_was Q (Some a) (Some b) step none = cc

  read_others : (name : Word) → held_as (holders_of gs) name ≡ None → IsSome first.free → IsHeaderRead names start (beside now (holders see h) gs) name
  read_others name none told =
      let was : held_as (holders_of fs) name ≡ None = none_was (IsReadOn name) (held_as (holders_of fs) name) (held_as (holders_of gs) name) (held_steps IsReadOn (holders_of fs) (holders_of gs) name (read_each fs gs each)) none in
      header_as names start (beside now (holders see h) fs) start (beside now (holders see h) gs) name refl refl
      (same_reads (beside now (holders see h) fs) (beside now (holders see h) gs) name (ap (λ o. seen_in o now.free name) (held_behind (holders see h) (holders_of gs) (holders_of fs) name (none ∙ sym was)))) ((since.counted told).others name was)

  -- their toggles were read
  pub since_inspected : IsSince see all_read group names first now h gs
  since_inspected = record {
    keeps = since.keeps;
    ready = since.ready;
    none = since.none;
    lists = since.lists;
    held = later_held now.held (holders see h ++ holders_of fs) (holders see h ++ holders_of gs) (each_later (holders see h ++ holders_of fs) (holders see h ++ holders_of gs) (each_behind (holders see h) (holders_of fs) (holders_of gs) (read_each fs gs each))) since.held;
    reads = only_trans start (beside now (holders see h) fs) (beside now (holders see h) gs) since.reads inspected;
    counted = λ told. record { found = all_read_on fs gs each (since.counted told).found; others = λ name none. read_others name none told };
    met = record {
      excused = since.met.excused;
      shelf = let rose = since.met.shelf in let up = inspected.faults.shelf in omega (arith, rose, up);
      met = all_each (λ name. (is_among name since.met.excused ≡ true) ⊎ IsMet group name start (beside now (holders see h) fs) fs) (λ name. (is_among name since.met.excused ≡ true) ⊎ IsMet group name start (beside now (holders see h) gs) gs) met_then names since.met.met;
    };
    each = looks.each;
    rising = subst ArePlaced (sym (slots_mapped see es)) looks.rising;
    dropped = all_dropped fs gs each are.each finds_faults;
  }
    where
      met_then : (name : Word) → (is_among name since.met.excused ≡ true) ⊎ IsMet group name start (beside now (holders see h) fs) fs → (is_among name since.met.excused ≡ true) ⊎ IsMet group name start (beside now (holders see h) gs) gs
      met_then name (inl among) = inl among
      met_then name (inr met) = inr (met_on group name start (beside now (holders see h) fs) (beside now (holders see h) gs) fs gs inspected (λ slot has. slot_inspected fs gs each slot name has) met)

-- all devices that were found go back
pub since_back : {P : Type 0} {ghosts : Ghosts P} (see : P → Seen) (group : Word) (names : List Word) (first now new : Shelved) (h : House P ghosts) (fs : List Looked) → IsSince see all_read group names first now h fs → IsBack (beside now (holders see h) fs) (scene see (at new h)) → AreRead (scene see (at first h)) (scene see (at new h))
since_back see group names first now new h fs since back = record {
  held = back.held;
  reads = only_trans (scene see (at first h)) (beside now (holders see h) fs) (scene see (at new h)) since.reads (only_unmoved (beside now (holders see h) fs) (scene see (at new h)) back.moved);
}

-- the search found nothing
pub asked_read : {P : Type 0} {ghosts : Ghosts P} (see : P → Seen) (names : List Word) (first mid new : Shelved) (h : House P ghosts) → IsAsked see names first mid h → AreRead (scene see (at mid h)) (scene see (at new h)) → AreRead (scene see (at first h)) (scene see (at new h))
asked_read see names first mid new h asked read = record { held = read.held; reads = only_trans (scene see (at first h)) (scene see (at mid h)) (scene see (at new h)) asked.still.reads read.reads }

pub asked_reads : {P : Type 0} {ghosts : Ghosts P} (see : P → Seen) (group : Word) (names : List Word) (first mid new : Shelved) (h : House P ghosts) (asked : IsAsked see names first mid h) (read : AreRead (scene see (at mid h)) (scene see (at new h))) → (IsSome mid.free → HeadersRead names (scene see (at mid h)) (scene see (at new h))) → (m : Moment) → IsMoment see (at first h) m → ImportReads group m.world m.counts (counts_of (scene see (at new h)))
asked_reads see group names first mid new h asked read headers m is =
    reads_so see group first h asked.keeps m is (scene see (at new h)) ((asked_read see names first mid new h asked read).reads.seen is.told)
    (λ name. header_so see group first h asked.keeps m is names asked.lists (scene see (at new h)) name
    (header_as names (scene see (at mid h)) (scene see (at new h)) (scene see (at first h)) (scene see (at new h)) name refl (sym (asked.unread name)) refl (headers (asked.still.reads.told is.told) name)))
