-- What the writing of a first toggle and of a header does to what a device offers.
use Rattle.std.proofs.Common.{◌≡◌, ◌⊎◌, ℕ, zero, suc, ◌-◌, ◌*◌, ◌<◌, Bool, true, false, List, [], ◌∷◌, length, map, take, drop, set, get_or, Option, Some, None, Result, Ok, Err, refl, sym, ap, ◌∙◌, subst, arith, inl, inr}
use Rattle.std.specs.Prelude.{◌≤◌, IsTrue, MatchOption}
use Rattle.std.proofs.lemmas.Bool.{cases_order}
use Rattle.std.proofs.lemmas.List.{take_all}
use Rattle.vx_base.specs.Blocks.{Contents, block_at, written, IsTorn}
use Rattle.vx_base.specs.Named.{Word}
use Rattle.vx_base.proofs.BlockLemmas.{written_in}
use Rattle.vx_header.specs.Named.{Label, header_of}
use Rattle.vx_header.specs.Said.{toggle_of}
use Rattle.vx_header.proofs.Toggles.{zeros_say}
use Rattle.vx_sector.specs.Fields.{zeros}
use Rattle.vx_base.specs.Counts.{later_count}
use Rattle.vx_piece.specs.declared.piece.PieceFault.{PieceFault}
use Rattle.vx_piece.specs.Seen.{Seen, Writes, IsWritten, IsOff}
use Rattle.vx_copies.specs.Lists.{AllOf}
use Rattle.vx_copies.specs.Disks.{DiskSeen, disk_seen, NamesHalf, RestStays}
use Rattle.vx_copies.specs.declared.disk.Disk.{Disk}
use Rattle.vx_copies.specs.Image.{toggle_at, offer_by, offer_of, offer_if, names_group, offer_in}
use Rattle.vx_copies.specs.Written.{BothTell, WritesJust}
use Rattle.vx_copies.proofs.WriteCounts.{tell_refl, tell_trans}
use Rattle.vx_copies.proofs.Counts.{one_block, most_writes, just_writes, ok_not_cut}
use Rattle.vx_copies.proofs.InGroup.{told_none}
use Rattle.vx_copies.proofs.Halves.{torn_out, written_torn}
use Rattle.vx_copies.proofs.StepLaws.{keeps_trans, keeps_refl, drops_trans, drops_refl, rest_refl, rest_trans}
use Rattle.vx_confdb.specs.Prepare.{IsFresh, IsBlank, Says, Begins, OnlyFront, Fronts, Prepares, AreJoined, label_in}
use Rattle.vx_confdb.specs.declared.joining.Prepared.{Prepared}
use Rattle.vx_confdb.proofs.Labels.{same_label}

no_offer : (b : Bool) → offer_if b None ≡ None
no_offer true = refl
no_offer false = refl

-- a device whose toggle says nothing offers nothing
pub blank_offers : (group : Word) (c : Contents) → toggle_at c ≡ None → offer_in group c ≡ None
unfolding offer_in offer_of
blank_offers group c blank = ap (λ t. offer_if (names_group group (header_of (c 0))) (offer_by t c)) blank ∙ no_offer (names_group group (header_of (c 0)))

-- a toggle of zeros says nothing
pub zero_toggle : (c : Contents) → c 1 ≡ zeros 512 → toggle_at c ≡ None
unfolding toggle_at
zero_toggle c blank = ap toggle_of blank ∙ zeros_say 512

all_same : (c d : Contents) → ((k : ℕ) → d k ≡ c k) → d ≡ c
all_same c d same = λ i k. same k i

module _ (sector : List ℕ) (size : length sector ≡ 512) where
  there : (at : ℕ) (c : Contents) → written at sector c at ≡ sector
  there at c =
      let none : at - at ≡ 0 = omega arith in
      written_in at sector c at (omega arith) (omega (arith, size)) ∙ ap (block_at sector) none ∙ take_all 512 sector (omega (arith, size))

  beside : (at : ℕ) (c d : Contents) → IsTorn at sector c d → (k : ℕ) → (k < at) ⊎ (at < k) → d k ≡ c k
  beside at c d torn k other = torn_out at sector c d torn k (elim other [ inl lt ↦ inl lt | inr lt ↦ inr (omega (arith, size, lt)) ])

  apart : (at k : ℕ) → (k ≡ at) ⊎ ((k < at) ⊎ (at < k))
  apart at k = cases_order k at

  -- what is not the sector stays, but for the sector itself
  whole : (at : ℕ) (c d : Contents) → IsTorn at sector c d → d at ≡ c at → d ≡ c
  whole at c d torn same = all_same c d (λ k. elim (apart at k) [ inl is ↦ ap d is ∙ same ∙ ap c (sym is) | inr other ↦ beside at c d torn k other ])

  behind : (at : ℕ) (c d : Contents) → at < 2 → IsTorn at sector c d → RestStays c d
  behind at c d lt torn = λ k le. beside at c d torn k (inr (omega (arith, lt, le)))

  -- a toggle of zeros, torn or not
  module _ (zero : sector ≡ zeros 512) where
    zero_torn : (label : Label) (c d : Contents) → IsTorn 1 sector c d → Begins label (Some c) (Some d)
    zero_torn label c d torn = (
      elim (torn 1) [
        | inl same ↦ inl (whole 1 c d torn same)
        | inr new ↦ inr (inl (beside 1 c d torn 0 (inl (omega arith)), new ∙ there 1 c ∙ zero))
      ],
      behind 1 c d (omega arith) torn,
    )

    pub zero_begins : {T E : Type 0} (label : Label) (told after : Option Contents) (result : Result T E) → Writes 1 sector told after result → Begins label told after
    zero_begins label None None result writes = tt
    zero_begins label None (Some d) result writes = absurd writes
    zero_begins label (Some c) None result writes = absurd writes
    zero_begins label (Some c) (Some d) (Ok u) writes = zero_torn label c d (written_torn 1 sector c d writes)
    zero_begins label (Some c) (Some d) (Err e) writes = zero_torn label c d writes

    pub zero_blank : {T E : Type 0} (told after : Option Contents) (result : Result T E) (u : T) → result ≡ Ok u → Writes 1 sector told after result → IsBlank after
    zero_blank None None result u is writes = tt
    zero_blank None (Some d) result u is writes = absurd writes
    zero_blank (Some c) None result u is writes = absurd writes
    zero_blank (Some c) (Some d) (Ok v) u is writes = writes 1 ∙ there 1 c ∙ zero
    zero_blank (Some c) (Some d) (Err e) u is writes = cc

  -- a header, torn or not, over a toggle of zeros
  header_torn : (c d : Contents) → c 1 ≡ zeros 512 → IsTorn 0 sector c d → d 1 ≡ zeros 512
  header_torn c d blank torn = beside 0 c d torn 1 (inr (omega arith)) ∙ blank

  pub header_blank : {T E : Type 0} (told after : Option Contents) (result : Result T E) → IsBlank told → Writes 0 sector told after result → IsBlank after
  header_blank None None result blank writes = tt
  header_blank None (Some d) result blank writes = absurd writes
  header_blank (Some c) None result blank writes = absurd writes
  header_blank (Some c) (Some d) (Ok u) blank writes = header_torn c d blank (written_torn 0 sector c d writes)
  header_blank (Some c) (Some d) (Err e) blank writes = header_torn c d blank writes

  module _ (label : Label) (says : header_of sector ≡ Some label) where
    label_torn : (c d : Contents) → c 1 ≡ zeros 512 → IsTorn 0 sector c d → Begins label (Some c) (Some d)
    label_torn c d blank torn = (
      elim (torn 0) [
        | inl same ↦ inl (whole 0 c d torn same)
        | inr new ↦ inr (inr (ap header_of (new ∙ there 0 c) ∙ says, header_torn c d blank torn))
      ],
      behind 0 c d (omega arith) torn,
    )

    pub header_begins : {T E : Type 0} (told after : Option Contents) (result : Result T E) → IsBlank told → Writes 0 sector told after result → Begins label told after
    header_begins None None result blank writes = tt
    header_begins None (Some d) result blank writes = absurd writes
    header_begins (Some c) None result blank writes = absurd writes
    header_begins (Some c) (Some d) (Ok u) blank writes = label_torn c d blank (written_torn 0 sector c d writes)
    header_begins (Some c) (Some d) (Err e) blank writes = label_torn c d blank writes

  pub header_named : {T E : Type 0} (label : Label) (told after : Option Contents) (result : Result T E) (u : T) → header_of sector ≡ Some label → result ≡ Ok u → Writes 0 sector told after result → Says label after
  header_named label None None result u says is writes = tt
  header_named label None (Some d) result u says is writes = absurd writes
  header_named label (Some c) None result u says is writes = absurd writes
  header_named label (Some c) (Some d) (Ok v) u says is writes = ap header_of (writes 0 ∙ there 0 c) ∙ says
  header_named label (Some c) (Some d) (Err e) u says is writes = cc

  pub front_only : {T E : Type 0} (at : ℕ) → at < 2 → (told after : Option Contents) (result : Result T E) → Writes at sector told after result → BothTell OnlyFront told after
  front_only at lt None None result writes = tt
  front_only at lt None (Some d) result writes = absurd writes
  front_only at lt (Some c) None result writes = absurd writes
  front_only at lt (Some c) (Some d) (Ok u) writes = λ k le. beside at c d (written_torn at sector c d writes) k (inr (omega (arith, lt, le)))
  front_only at lt (Some c) (Some d) (Err e) writes = λ k le. beside at c d writes k (inr (omega (arith, lt, le)))

-- one write of a sector in front, and one after another
pub front_write : {T E : Type 0} (sector : List ℕ) (at : ℕ) (a b : DiskSeen) (result : Result T E) → length sector ≡ 512 → at < 2 → IsWritten at sector a.seen b.seen result → Fronts 1 a b
front_write sector at a b result size lt is = record { only = front_only sector size at lt a.seen.told b.seen.told result is.told; reads = is.reads; writes = most_writes a.seen.cut a.seen.writes b.seen.writes sector 1 (one_block sector size) is.writes }

pub front_just : {T : Type 0} (sector : List ℕ) (at : ℕ) (a b : DiskSeen) (result : Result T PieceFault) (u : T) → length sector ≡ 512 → result ≡ Ok u → (IsTrue a.seen.cut → IsOff a.seen b.seen result) → IsWritten at sector a.seen b.seen result → b.seen.writes ≡ later_count a.seen.writes 1
front_just sector at a b result u size ok off is = just_writes a.seen.cut a.seen.writes b.seen.writes sector 1 (one_block sector size) (ok_not_cut a.seen b.seen result u ok off) is.writes

pub front_more : (m n : ℕ) (a b : DiskSeen) → m ≤ n → Fronts m a b → Fronts n a b
front_more m n a b le p = record { only = p.only; reads = p.reads; writes = let w = p.writes in omega (arith, w, le) }

pub front_then : (a b c : DiskSeen) → Fronts 1 a b → Fronts 1 b c → Fronts 2 a c
front_then a b c p q = record {
  only = tell_trans OnlyFront OnlyFront OnlyFront (λ x y z f g k le. g k le ∙ f k le) a.seen.told b.seen.told c.seen.told p.only q.only;
  reads = q.reads ∙ p.reads;
  writes = let v = p.writes in let w = q.writes in omega (arith, v, w);
}

pub front_none : (n : ℕ) (a : DiskSeen) → Fronts n a a
front_none n a = record { only = tell_refl OnlyFront (λ c k le. refl) a.seen.told; reads = refl; writes = omega arith }

abbrev pub FrontsJust : DiskSeen → DiskSeen → Type 0
FrontsJust a b = Fronts 2 a b × WritesJust 2 a b

pub front_of : (a b : DiskSeen) → FrontsJust a b → Fronts 2 a b
front_of a b is = is.0

pub just_of : (a b : DiskSeen) → FrontsJust a b → WritesJust 2 a b
just_of a b is = is.1

-- a disk whose toggle says nothing has no half that is named
pub blank_names : (half : ℕ) (told : Option Contents) → IsBlank told → NamesHalf half told
blank_names half None blank = tt
blank_names half (Some c) blank = subst (λ t. MatchOption t (Unit {0}) (λ x. x.half ≡ half)) (sym (zero_toggle c blank)) tt

-- a device in memory whose first sector is no header offers nothing
abbrev header_told : Option Contents → Option Label
header_told None = None
header_told (Some c) = header_of (c 0)

pub bare_offers : (group : Word) (bytes items : List ℕ) → Some (block_at items) ≡ Some (block_at bytes) → header_of (take 512 bytes) ≡ None → offer_in group (block_at items) ≡ None
bare_offers group bytes items same none =
    let front : 512 * 0 ≡ 0 = omega arith in
    let is : header_of (block_at items 0) ≡ None = ap header_told same ∙ ap (λ n. header_of (take 512 (drop n bytes))) front ∙ none in
    told_none group (Some (block_at items)) is

-- one write after the other
begins_trans : (label : Label) (a b c : Option Contents) → Begins label a b → Begins label b c → Begins label a c
begins_trans label None None None p q = tt
begins_trans label None None (Some c) p q = absurd q
begins_trans label None (Some b) c p q = absurd p
begins_trans label (Some a) None c p q = absurd p
begins_trans label (Some a) (Some b) None p q = absurd q
begins_trans label (Some a) (Some b) (Some c) (p, r) (inl same, t) = (by p, rest_trans a b c r t)
  where
    by : (b ≡ a) ⊎ ((b 0 ≡ a 0) × (b 1 ≡ zeros 512)) ⊎ ((header_of (b 0) ≡ Some label) × (b 1 ≡ zeros 512)) → (c ≡ a) ⊎ ((c 0 ≡ a 0) × (c 1 ≡ zeros 512)) ⊎ ((header_of (c 0) ≡ Some label) × (c 1 ≡ zeros 512))
    by (inl e) = inl (same ∙ e)
    by (inr (inl e)) = inr (inl (ap (λ (x : Contents). x 0) same ∙ e.0, ap (λ (x : Contents). x 1) same ∙ e.1))
    by (inr (inr e)) = inr (inr (ap (λ (x : Contents). header_of (x 0)) same ∙ e.0, ap (λ (x : Contents). x 1) same ∙ e.1))
begins_trans label (Some a) (Some b) (Some c) (p, r) (inr (inl still), t) = (by p, rest_trans a b c r t)
  where
    by : (b ≡ a) ⊎ ((b 0 ≡ a 0) × (b 1 ≡ zeros 512)) ⊎ ((header_of (b 0) ≡ Some label) × (b 1 ≡ zeros 512)) → (c ≡ a) ⊎ ((c 0 ≡ a 0) × (c 1 ≡ zeros 512)) ⊎ ((header_of (c 0) ≡ Some label) × (c 1 ≡ zeros 512))
    by (inl e) = inr (inl (still.0 ∙ ap (λ (x : Contents). x 0) e, still.1))
    by (inr (inl e)) = inr (inl (still.0 ∙ e.0, still.1))
    by (inr (inr e)) = inr (inr (ap header_of still.0 ∙ e.0, still.1))
begins_trans label (Some a) (Some b) (Some c) (p, r) (inr (inr headed), t) = (inr (inr headed), rest_trans a b c r t)

begins_refl : (label : Label) (a : Option Contents) → Begins label a a
begins_refl label None = tt
begins_refl label (Some a) = (inl refl, rest_refl a)

pub prepares_trans : (group : Word) (a b c : DiskSeen) → Prepares group a b → Prepares group b c → Prepares group a c
prepares_trans group a b c p q = record {
  slot = q.slot ∙ p.slot;
  name = q.name ∙ p.name;
  device = q.device ∙ p.device;
  size = q.size ∙ p.size;
  half = q.half ∙ p.half;
  kept = keeps_trans _ _ _ p.kept q.kept;
  good = drops_trans a.good b.good c.good a.seen b.seen c.seen p.kept q.kept p.good q.good;
  told = begins_trans (label_in group a) a.seen.told b.seen.told c.seen.told p.told (subst (λ l. Begins l b.seen.told c.seen.told) (same_label group a b p.name p.slot p.size) q.told);
}

pub prepares_refl : (group : Word) (a : DiskSeen) → Prepares group a a
prepares_refl group a = record { slot = refl; name = refl; device = refl; size = refl; half = refl; kept = keeps_refl a.seen; good = drops_refl a.good a.seen; told = begins_refl (label_in group a) a.seen.told }

-- disks of the list
pub fresh_at : {P : Type 0} (see : P → Seen) (group : Word) (ds : List (Disk P)) (i : ℕ) (d : Disk P) → i < length ds → AllOf (IsFresh see group) (drop i ds) → IsFresh see group (get_or ds i d)
fresh_at see group [] i d lt all = absurd (omega (arith, lt))
fresh_at see group (x ∷ ds) zero d lt all = all.0
fresh_at see group (x ∷ ds) (suc i) d lt all = fresh_at see group ds i d (omega (arith, lt)) all

pub fresh_rest : {P : Type 0} (see : P → Seen) (group : Word) (ds : List (Disk P)) (i : ℕ) (d : Disk P) → AllOf (IsFresh see group) (drop i ds) → AllOf (IsFresh see group) (drop (suc i) (set ds i d))
fresh_rest see group [] i d all = tt
fresh_rest see group (x ∷ ds) zero d all = all.1
fresh_rest see group (x ∷ ds) (suc i) d all = fresh_rest see group ds i d all

-- what was joined of equal lists
pub joined_in : {P : Type 0} (see : P → Seen) (r : Prepared) (group : Word) (lent old out new : List (Disk P)) → lent ≡ old → out ≡ new → AreJoined r group (map (disk_seen see) lent) (map (disk_seen see) out) → AreJoined r group (map (disk_seen see) old) (map (disk_seen see) new)
joined_in see r group lent old out new f h is =
    subst (λ x. AreJoined r group (map (disk_seen see) old) (map (disk_seen see) x)) h (subst (λ x. AreJoined r group (map (disk_seen see) x) (map (disk_seen see) out)) f is)
