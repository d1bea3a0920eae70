-- The room that a group has for one more disk, and what a device without a header offers.
use Rattle.std.proofs.Common.{◌≡◌, ◌≢◌, ◌∙◌, ℕ, suc, ◌<◌, ◌≤◌, ◌^◌, Bool, true, false, ◌==◌, ◌||◌, Option, Some, None, List, [], ◌∷◌, ◌++◌, length, map, Result, Ok, Err, refl, sym, ap, subst, arith}
use Rattle.std.specs.Prelude.{IfSome, IsTrue}
use Rattle.std.specs.List.{list_any, IsDistinct, AllByRecursion}
use Rattle.std.proofs.lemmas.Bool.{eqb-true}
use Rattle.std.proofs.lemmas.Map.Steps.{length-le_from_distinct_below}
use Rattle.vx_pages.specs.declared.local_piece.LocalPiece.{Ghosts}
use Rattle.vx_base.specs.Blocks.{Contents}
use Rattle.vx_base.specs.Named.{Word}
use Rattle.vx_header.specs.Named.{Label, header_of}
use Rattle.vx_header.specs.Sectors.{is_short_name}
use Rattle.vx_piece.specs.Seen.{Seen}
use Rattle.vx_copies.specs.Disks.{disk_seen, IsReady}
use Rattle.vx_copies.specs.Image.{names_group, offer_if, offer_of, offer_in, offer_told}
use Rattle.vx_copies.specs.Lists.{AllOf}
use Rattle.vx_copies.specs.declared.disk.Disk.{Disk as Piece}
use Rattle.vx_confdb.specs.Prepare.{IsFresh}
use Rattle.vx_objects.specs.declared.config.Config.{Config}
use Rattle.vx_objects.specs.Applied.{IsEdited}
use Rattle.vx_script_words.specs.declared.value.DiskAt.{DiskAt}
use Rattle.vx_house.specs.View.{HaveSlots, AreRecorded, IsGroupKept}
use Rattle.vx_house.specs.declared.house.Imported.{Imported}
use Rattle.vx_house.specs.declared.house.Taken.{Taken}
use Rattle.vx_house.specs.declared.stop.Stop.{Stop}
use Rattle.vx_house.proofs.AllLaws.{all_each, all_unmapped}
use Rattle.vx_stage_changes.specs.Joining.{has_slot, IsSlot, disk_for, join_edits, AddEnds, JoinEnds, IsInHand, IsPlaced, IsKeptBack}
use Rattle.vx_stage_changes.specs.Planning.{IsPlanned, IsShortText, IsUnplanned}
use Rattle.vx_stage_changes.specs.declared.planning.NextConfig.{NextConfig}

not_both : (b : Bool) → b ≡ true → b ≡ false → ⊥
not_both b t f = cc

apart : (a b : ℕ) → a ≢ b → (a == b) ≡ false
apart a b other = by_test (a == b) refl
  where
    by_test : (t : Bool) → (a == b) ≡ t → (a == b) ≡ false
    by_test false e = e
    by_test true e = absurd (other (eqb-true a b e))

module _ {P : Type 0} where
  abbrev slots_of : List (Piece P) → List ℕ
  slots_of ds = map (λ d. d.slot) ds

  -- a slot that no record has is no disk's
  pub unrecorded : (config : Config) (slot : ℕ) (ds : List (Piece P)) → AreRecorded config ds → has_slot slot config ≡ false → AllOf (λ d. d.slot ≢ slot) ds
  unrecorded config slot [] recorded free = tt
  unrecorded config slot (d ∷ ds) recorded free = (λ same. not_both (has_slot slot config) (subst (λ n. has_slot n config ≡ true) same recorded.0) free, unrecorded config slot ds recorded.1 free)

  all_apart : (slot : ℕ) (ds : List (Piece P)) → AllOf (λ d. d.slot ≢ slot) ds → AllByRecursion (λ y. (slot == y) ≡ false) (slots_of ds)
  all_apart slot [] other = tt
  all_apart slot (d ∷ ds) other = (apart slot d.slot (λ same. other.0 (sym same)), all_apart slot ds other.1)

  distinct : (ds : List (Piece P)) → HaveSlots ds → IsDistinct ◌==◌ (slots_of ds)
  unfolding IsDistinct
  distinct [] slots = tt
  distinct (d ∷ ds) slots = (all_apart d.slot ds slots.0, distinct ds slots.1)

  more_distinct : (slot : ℕ) (ds : List (Piece P)) → AllOf (λ d. d.slot ≢ slot) ds → HaveSlots ds → IsDistinct ◌==◌ (slot ∷ slots_of ds)
  unfolding IsDistinct
  more_distinct slot ds other slots = (all_apart slot ds other, distinct ds slots)

  all_low : (ds : List (Piece P)) → AllOf (λ d. d.slot < 32) ds → (q : ℕ) → list_any (λ n. q == n) (slots_of ds) ≡ true → q < 32
  all_low [] low q is = absurd (cc)
  all_low (d ∷ ds) low q is = by_test (q == d.slot) refl (all_low ds low.1 q) is
    where
      by_test : (b : Bool) → (q == d.slot) ≡ b → (list_any (λ n. q == n) (slots_of ds) ≡ true → q < 32) → (b || list_any (λ n. q == n) (slots_of ds)) ≡ true → q < 32
      by_test true e rest is = subst (λ n. n < 32) (sym (eqb-true q d.slot e)) low.0
      by_test false e rest is = rest is

  more_low : (slot : ℕ) → slot < 32 → (ds : List (Piece P)) → AllOf (λ d. d.slot < 32) ds → (q : ℕ) → list_any (λ n. q == n) (slot ∷ slots_of ds) ≡ true → q < 32
  more_low slot here ds low q is = by_test (q == slot) refl is
    where
      by_test : (b : Bool) → (q == slot) ≡ b → (b || list_any (λ n. q == n) (slots_of ds)) ≡ true → q < 32
      by_test true e is = subst (λ n. n < 32) (sym (eqb-true q slot e)) here
      by_test false e is = all_low ds low q is

  slots_length : (ds : List (Piece P)) → length (slots_of ds) ≡ length ds
  slots_length [] = refl
  slots_length (d ∷ ds) = ap suc (slots_length ds)

  -- where a slot is free, fewer than 32 disks have one
  pub few_disks : (slot : ℕ) → slot < 32 → (ds : List (Piece P)) → AllOf (λ d. d.slot < 32) ds → AllOf (λ d. d.slot ≢ slot) ds → HaveSlots ds → length ds < 32
  few_disks slot here ds low other slots =
      let most = length-le_from_distinct_below (slot ∷ slots_of ds) 32 (more_distinct slot ds other slots) (more_low slot here ds low) in
      omega (arith, most, slots_length ds)

-- a slot is free, so the group has room
pub has_room : {P : Type 0} {ghosts : Ghosts P} (see : P → Seen) (slot : ℕ) (g : Imported P ghosts) → IsGroupKept see g → IsSlot slot g.config → length g.base.disks.items < 32
has_room see slot g kept free =
    few_disks slot free.low g.base.disks.items
    (all_each (λ d. IsReady (disk_seen see d)) (λ d. d.slot < 32) (λ d ready. ready.slot) g.base.disks.items (all_unmapped IsReady (disk_seen see) g.base.disks.items kept.carries.alive.ready))
    (unrecorded g.config slot g.base.disks.items kept.recorded free.free) kept.slots

no_label : (group : Word) (label : Option Label) (contents : Contents) → label ≡ None → offer_if (names_group group label) (offer_of contents) ≡ None
no_label group None contents is = refl
no_label group (Some l) contents is = absurd (cc)

-- a device without a header offers nothing
pub offers_none : (group : Word) (told : Option Contents) → IfSome told (λ contents. header_of (contents 0) ≡ None) → offer_told group told ≡ None
unfolding offer_in
offers_none group None bare = refl
offers_none group (Some contents) bare = no_label group (header_of (contents 0)) contents bare

-- the disk that is added is the device in hand
pub join_ends : {P : Type 0} {ghosts : Ghosts P} (see : P → Seen) (pair : DiskAt) (t : Taken P) (disk : Piece P) (slot : ℕ) (next : NextConfig) (old new : Imported P ghosts) (result : Result (Unit {0}) (Stop × Option (Taken P))) → disk ≡ disk_for see pair slot t → IsSlot slot old.config
    → IsFresh see old.base.name (disk_for see pair slot t) → IsPlanned (join_edits see pair slot t) old.config next → AddEnds see disk next result old new → JoinEnds see pair t result old new
join_ends {P = P} see pair t disk slot next old new result is free fresh planned ends = by result (subst (λ d. AddEnds see d next result old new) is ends)
  where
    by : (r : Result (Unit {0}) (Stop × Option (Taken P))) → AddEnds see (disk_for see pair slot t) next r old new → JoinEnds see pair t r old new
    by (Ok u) e = record {
      text = next.text.items;
      slot = slot;
      join = record { slotted = free; meant = record { edited = subst (IsEdited (join_edits see pair slot t) old.config) (sym e.0) planned.0; printed = subst (λ c. IsShortText c next.text.items) (sym e.0) planned.1 }; fresh = fresh };
      gives = e.1;
      writes = e.2;
    }
    by (Err (stop, None)) e = (
      e.0,
      next.config,
      e.1,
      record {
        text = next.text.items;
        slot = slot;
        join = record { slotted = free; meant = record { edited = planned.0; printed = planned.1 }; fresh = fresh };
        gives = e.2;
        writes = e.3;
      },
    )
    by (Err (stop, Some back)) e = record {
      same = e.1;
      config = e.2;
      base = e.3;
      why = λ s next_is. subst (IsUnplanned (join_edits see pair s t) old.config) (sym e.0) tt;
    }

-- the device in hand becomes a disk that the group may take
pub is_fresh : {P : Type 0} {ghosts : Ghosts P} (see : P → Seen) (pair : DiskAt) (slot sectors : ℕ) (t : Taken P) (g : Imported P ghosts) → IsGroupKept see g → sectors ≡ (see t.piece).sectors → slot < 32 → 2048 < sectors → sectors ≤ 2 ^ 40 → IsTrue (is_short_name pair.disk) → IsTrue (is_short_name g.config.group)
    → IsFresh see g.base.name (disk_for see pair slot t)
is_fresh see pair slot sectors t g kept same low more most short group = record {
  good = refl;
  slot = low;
  half = omega arith;
  private = omega (arith, same, more);
  group_short = subst (λ n. IsTrue (is_short_name n)) (sym kept.named) group;
  name_short = short;
  public = omega (arith, same, more);
  at_most = omega (arith, same, most);
}

-- the hand had this device alone
pub only_one : {P : Type 0} (pair : DiskAt) (t : Taken P) (before now : List (Taken P)) → before ≡ now ++ t ∷ [] → map (λ x. x.device) before ≡ pair.device ∷ [] → IsInHand pair t before × (now ≡ [])
only_one {P = P} pair t before now are named = by now are (ap (map (λ x. x.device)) (sym are) ∙ named)
  where
    by : (xs : List (Taken P)) → before ≡ xs ++ t ∷ [] → map (λ x. x.device) (xs ++ t ∷ []) ≡ pair.device ∷ [] → IsInHand pair t before × (xs ≡ [])
    by [] e names = (record { only = e; named = (let same : t.device ≡ pair.device = cc in same) }, refl)
    by (x ∷ []) e names = absurd (cc)
    by (x ∷ y ∷ xs) e names = absurd (cc)

pub placed : {P : Type 0} {ghosts : Ghosts P} (see : P → Seen) (pair : DiskAt) (t : Taken P) (result : Result (Unit {0}) (Stop × Option (Taken P))) (before now : List (Taken P)) (old new : Imported P ghosts) → before ≡ now ++ t ∷ [] → map (λ x. x.device) before ≡ pair.device ∷ [] → JoinEnds see pair t result old new → IsPlaced see pair result before now old new
placed see pair t result before now old new are named ends = let one = only_one pair t before now are named in record { taken = t; hand = one.0; empty = one.1; ends = ends }

pub kept_back : {P : Type 0} {ghosts : Ghosts P} (see : P → Seen) (pair : DiskAt) (t back : Taken P) (stop : Stop) (before now after : List (Taken P)) (old new : Imported P ghosts) → before ≡ now ++ t ∷ [] → map (λ x. x.device) before ≡ pair.device ∷ [] → after ≡ now ++ back ∷ [] → JoinEnds see pair t (Err (stop, Some back)) old new → IsKeptBack see pair stop before after old new
kept_back see pair t back stop before now after old new are named put ends = record {
  taken = t;
  hand = (only_one pair t before now are named).0;
  same = put ∙ ap (λ x. now ++ x ∷ []) ends.same ∙ sym are;
  unjoined = record { same = refl; config = ends.config; base = ends.base; why = ends.why };
}
