-- Disks of which the fronts were called, with their whole devices.
use Rattle.std.proofs.Common.{◌≡◌, ◌∙◌, inl, inr, ℕ, ◌+◌, ◌-◌, ◌*◌, ◌<◌, ◌≤◌, Bool, true, false, ◌||◌, List, Option, Some, None, refl, sym, ap, subst, arith, length}
use Rattle.std.specs.Prelude.{MatchOption, IsTrue}
use Rattle.vx_base.specs.Blocks.{Contents}
use Rattle.vx_base.specs.Counts.{Rose, later_count}
use Rattle.vx_base.specs.Named.{Word}
use Rattle.vx_header.specs.Named.{Label, header_of}
use Rattle.vx_header.specs.Said.{Said}
use Rattle.vx_piece.specs.Seen.{Seen, Keeps}
use Rattle.vx_copies.specs.Image.{Offer, offer_of, offer_told, names_group}
use Rattle.vx_copies.specs.Disks.{DiskSeen, IsCut, IsReady, NamesHalf, CommitGoes, Drops, Offers, IsOffer, IsMember}
use Rattle.vx_copies.specs.Written.{BothTell, IsTurned, Touches, Turns, TurnedOnce, OldOrText, IsQuiet, CarriesIfGood, IsCurrent, WritesJust, sectors_of}
use Rattle.vx_copies.specs.Commit.{HasRisen}
use Rattle.vx_confdb.specs.Prepare.{Says}
use Rattle.vx_fronts.specs.Fronts.{Rest, with_rest, whole_told, whole_seen, with_device, HasPrivate}
use Rattle.vx_fronts.proofs.Contents.{private, whole_offer, whole_offer_in, whole_toggle, half_stays, offers, holds, said_fits, turned, old_or_text, sector_same}

-- ---- counts

rose_whole : (before now rest : ℕ) → Rose before now → Rose (later_count before rest) (later_count now rest)
rose_whole before now rest rose = omega (arith, rose)

or_left : (a b c : Bool) → (IsTrue a → IsTrue b) → IsTrue (a || c) → IsTrue (b || c)
or_left a true c f t = refl
or_left true false c f t = absurd (bad (f refl))
  where
    bad : IsTrue false → ⊥
    bad e = cc
or_left false false c f t = t

pub true_left : (a c : Bool) → IsTrue a → IsTrue (a || c)
true_left true c t = refl
true_left false c t = cc

pub kept_whole : (n m : ℕ) → m ≡ n → (old new : Seen) (r : Rest) → Keeps old new → Keeps (whole_seen n old r) (whole_seen m new r)
kept_whole n m same old new r kept = record {
  device = kept.device;
  start = kept.start;
  sectors = same;
  stop = kept.stop;
  faults = let x = kept.faults in omega (arith, x);
  cut = or_left old.cut new.cut r.cut kept.cut;
}

-- ---- what is told

-- what holds of two fronts holds of their devices, where they have one size
pub both_whole : (n m : ℕ) → m ≡ n → (rest : Contents) (R S : Contents → Contents → Type 0) → ((c d : Contents) → R c d → S (with_rest n c rest) (with_rest n d rest)) → (t u : Option Contents) → BothTell R t u → BothTell S (whole_told n rest t) (whole_told m rest u)
both_whole n m same rest R S f t u both = subst (λ k. BothTell S (whole_told n rest t) (whole_told k rest u)) (sym same) (by t u both)
  where
    by : (t u : Option Contents) → BothTell R t u → BothTell S (whole_told n rest t) (whole_told n rest u)
    by None None both = tt
    by None (Some d) both = absurd both
    by (Some c) None both = absurd both
    by (Some c) (Some d) both = f c d both

pub offers_whole : (n m : ℕ) → m ≡ n → 2048 ≤ n → (rest : Contents) (first last : ℕ) (text : List ℕ) (t u : Option Contents) → Offers first last text t u → Offers first last text (whole_told n rest t) (whole_told m rest u)
offers_whole n m same wide rest first last text t u is = subst (λ k. Offers first last text (whole_told n rest t) (whole_told k rest u)) (sym same) (by t u is)
  where
    by : (t u : Option Contents) → Offers first last text t u → Offers first last text (whole_told n rest t) (whole_told n rest u)
    by None None is = tt
    by None (Some d) is = absurd is
    by (Some c) None is = absurd is
    by (Some c) (Some d) is = offers n wide rest first last text c d is

-- a test of what one front tells, that goes by its private region
pub told_whole : (n : ℕ) (rest : Contents) (Q : Contents → Type 0) → ((c : Contents) → Q c → Q (with_rest n c rest)) → (t : Option Contents) → MatchOption t (Unit {0}) Q → MatchOption (whole_told n rest t) (Unit {0}) Q
told_whole n rest Q f None is = tt
told_whole n rest Q f (Some c) is = f c is

-- ---- one disk

module _ (o : Option Rest) where
  abbrev whole : DiskSeen → DiskSeen
  whole h = with_device o h

  pub same_good : (h : DiskSeen) → (whole h).good ≡ h.good
  same_good h = by o
    where
      by : (o : Option Rest) → (with_device o h).good ≡ h.good
      by None = refl
      by (Some r) = refl

  pub same_slot : (h : DiskSeen) → (whole h).slot ≡ h.slot
  same_slot h = by o
    where
      by : (o : Option Rest) → (with_device o h).slot ≡ h.slot
      by None = refl
      by (Some r) = refl

offer_by : (n : ℕ) → 2048 ≤ n → (rest : Contents) (group : Word) (t : Option Contents) → offer_told group (whole_told n rest t) ≡ offer_told group t
offer_by n wide rest group None = refl
offer_by n wide rest group (Some c) = whole_offer_in n wide rest c group

-- it offers what its front does
pub same_offer : (o : Option Rest) (h : DiskSeen) → HasPrivate h → (group : Word) → offer_told group (with_device o h).seen.told ≡ offer_told group h.seen.told
same_offer None h wide group = refl
same_offer (Some r) h wide group = offer_by h.seen.sectors wide.front r.contents group h.seen.told

pub goes_one : (first last : ℕ) (text : List ℕ) (o : Option Rest) (a b : DiskSeen) → HasPrivate a → CommitGoes first last text a b → CommitGoes first last text (with_device o a) (with_device o b)
goes_one first last text None a b wide goes = goes
goes_one first last text (Some r) a b wide goes = record {
  slot = goes.slot;
  name = goes.name;
  device = goes.device;
  size = goes.size;
  kept = kept_whole a.sectors b.sectors goes.size a.seen b.seen r goes.kept;
  good = by a.good b.good goes.good;
  offers = offers_whole a.seen.sectors b.seen.sectors goes.kept.sectors wide.front r.contents first last text a.seen.told b.seen.told goes.offers;
  idle = λ e. ap (λ n. whole_seen n b.seen r) goes.size ∙ ap (λ s. whole_seen a.sectors s r) (goes.idle e);
}
  where
    by : (old new : Bool) → Drops old new a.seen b.seen → Drops old new (whole_seen a.sectors a.seen r) (whole_seen b.sectors b.seen r)
    by old true drops = drops
    by false false drops = tt
    by true false drops = rose_whole a.seen.faults b.seen.faults r.faults drops

module _ (first last : ℕ) (text : List ℕ) (Masks Masks' : ℕ → Type 0) (masks : (mask : ℕ) → Masks mask → Masks' mask) where
  turns_one : (a b a' b' : DiskSeen) (n : ℕ) → 2048 ≤ n → (rest c d : Contents) → a'.half ≡ a.half → b'.half ≡ b.half → b'.good ≡ b.good → Turns first last text Masks a b c d → Turns first last text Masks' a' b' (with_rest n c rest) (with_rest n d rest)
  turns_one a b a' b' n wide rest c d ha hb gb (inl not) = inl (record {
    toggle = sector_same n wide rest c d 1 (omega arith) not.toggle;
    named = subst (λ h. HalfStaysOf h) (sym ha) (half_stays n wide rest a.half c d not.named);
    half = λ e. hb ∙ not.half (subst IsTrue gb e) ∙ sym ha;
  })
    where
      HalfStaysOf : ℕ → Type 0
      HalfStaysOf h = (k : ℕ) → 2 + 1020 * h ≤ k → k < 2 + 1020 * h + 1020 → with_rest n d rest k ≡ with_rest n c rest k
  turns_one a b a' b' n wide rest c d ha hb gb (inr (inl once)) = inr (inl (subst (λ h. TurnedOnce first last text Masks' h (with_rest n c rest) (with_rest n d rest)) (sym ha) (record {
    turned = turned n wide rest first last text Masks Masks' masks (1 - a.half) d once.turned;
    named = half_stays n wide rest a.half c d once.named;
  })))
  turns_one a b a' b' n wide rest c d ha hb gb (inr (inr again)) = inr (inr (record { again = again.again; now = again.now; turned = turned n wide rest first last text Masks Masks' masks again.now d again.turned }))

  pub touches_one : (o : Option Rest) (a b : DiskSeen) → HasPrivate a → CommitGoes first last text a b → Touches first last text Masks a b → Touches first last text Masks' (with_device o a) (with_device o b)
  touches_one None a b wide goes is = record {
    turns = both_map a.seen.told b.seen.told is.turns;
    only = is.only;
    reads = is.reads;
    writes = is.writes;
  }
    where
      turned_map : (half : ℕ) (d : Contents) → IsTurned first last text Masks half d → IsTurned first last text Masks' half d
      turned_map half d t = record { sequence = t.sequence; mask = t.mask; from = t.from; up_to = t.up_to; masks = masks t.mask t.masks; says = t.says; holds = t.holds }

      turns_map : (c d : Contents) → Turns first last text Masks a b c d → Turns first last text Masks' a b c d
      turns_map c d (inl not) = inl not
      turns_map c d (inr (inl once)) = inr (inl (record { turned = turned_map (1 - a.half) d once.turned; named = once.named }))
      turns_map c d (inr (inr again)) = inr (inr (record { again = again.again; now = again.now; turned = turned_map again.now d again.turned }))

      both_map : (t u : Option Contents) → BothTell (Turns first last text Masks a b) t u → BothTell (Turns first last text Masks' a b) t u
      both_map None None both = tt
      both_map None (Some d) both = absurd both
      both_map (Some c) None both = absurd both
      both_map (Some c) (Some d) both = turns_map c d both
  touches_one (Some r) a b wide goes is = record {
    turns = both_whole a.seen.sectors b.seen.sectors goes.kept.sectors r.contents (Turns first last text Masks a b) (Turns first last text Masks' (with_device (Some r) a) (with_device (Some r) b))
        (λ c d t. turns_one a b (with_device (Some r) a) (with_device (Some r) b) a.seen.sectors wide.front r.contents c d refl refl refl t) a.seen.told b.seen.told is.turns;
    only = both_whole a.seen.sectors b.seen.sectors goes.kept.sectors r.contents (OldOrText text) (OldOrText text) (λ c d t k not. old_or_text a.seen.sectors wide.front r.contents text c d k (t k not)) a.seen.told b.seen.told is.only;
    reads = ap (λ n. later_count n r.reads) is.reads;
    writes = let w = is.writes in at_most b.seen.writes a.seen.writes ((last + 1 - first) * sectors_of text) r.writes w;
  }
    where
      at_most : (b a more rest : ℕ) → b ≤ a + more → later_count b rest ≤ later_count a rest + more
      at_most b a more rest le = omega (arith, le)

-- ---- what is asked of one disk

pub quiet_one : (o : Option Rest) (a b : DiskSeen) → IsQuiet (with_device o a) (with_device o b) → IsQuiet a b
quiet_one None a b quiet = quiet
quiet_one (Some r) a b quiet = λ rose. quiet (rose_whole a.seen.faults b.seen.faults r.faults rose)

pub rose_one : (o : Option Rest) (a b : DiskSeen) → Rose a.seen.faults b.seen.faults → Rose (with_device o a).seen.faults (with_device o b).seen.faults
rose_one None a b rose = rose
rose_one (Some r) a b rose = rose_whole a.seen.faults b.seen.faults r.faults rose

pub risen_one : (o : Option Rest) (a b : DiskSeen) → HasRisen a b → HasRisen (with_device o a) (with_device o b)
risen_one o a b risen = λ good. rose_one o a b (risen (subst IsTrue (same_good o a) good))

pub writes_one : (n : ℕ) (o : Option Rest) (a b : DiskSeen) → WritesJust n a b → WritesJust n (with_device o a) (with_device o b)
writes_one n None a b just = just
writes_one n (Some r) a b just = λ good. ap (λ x. later_count x r.writes) (just good) ∙ turn a.seen.writes n r.writes
  where
    turn : (x n y : ℕ) → later_count (later_count x n) y ≡ later_count (later_count x y) n
    turn x n y = omega arith

pub cut_one : (o : Option Rest) (h : DiskSeen) → IsCut h → IsCut (with_device o h)
cut_one None h cut = cut
cut_one (Some r) h cut = true_left h.seen.cut r.cut cut

pub ready_one : (o : Option Rest) (h : DiskSeen) → HasPrivate h → IsReady h → IsReady (with_device o h)
ready_one None h wide ready = ready
ready_one (Some r) h wide ready = record {
  slot = ready.slot;
  half = ready.half;
  sectors = wide.device;
  names = λ good. named h.seen.told (ready.names good);
}
  where
    named : (t : Option Contents) → NamesHalf h.half t → NamesHalf h.half (whole_told h.seen.sectors r.contents t)
    named None is = tt
    named (Some c) is = subst (λ (s : Option Said). MatchOption s (Unit {0}) (λ t. t.half ≡ h.half)) (sym (whole_toggle h.seen.sectors ready.sectors r.contents c)) is

pub says_one : (label : Label) (o : Option Rest) (h : DiskSeen) → HasPrivate h → Says label h.seen.told → Says label (with_device o h).seen.told
says_one label None h wide says = says
says_one label (Some r) h wide says = by h.seen.told says
  where
    by : (t : Option Contents) → Says label t → Says label (whole_told h.seen.sectors r.contents t)
    by None says = tt
    by (Some c) says = ap header_of (private h.seen.sectors wide.front r.contents c 0 (omega arith)) ∙ says

-- what it offers of a number
pub offer_one : (sequence mask : ℕ) (text : List ℕ) (o : Option Rest) (h : DiskSeen) → HasPrivate h → IsOffer sequence mask text h → IsOffer sequence mask text (with_device o h)
offer_one sequence mask text None h wide is = is
offer_one sequence mask text (Some r) h wide is = λ good.
    told_whole h.seen.sectors r.contents (λ c. offer_of c ≡ Some (let x : Offer = record { sequence = sequence; good = mask; text = text } in x)) (λ c e. whole_offer h.seen.sectors wide.front r.contents c ∙ e) h.seen.told (is good)

pub carries_one : (sequence mask : ℕ) (text : List ℕ) (o : Option Rest) (h : DiskSeen) → HasPrivate h → CarriesIfGood sequence mask text h → CarriesIfGood sequence mask text (with_device o h)
carries_one sequence mask text None h wide is = is
carries_one sequence mask text (Some r) h wide is = λ good. told_whole h.seen.sectors r.contents (IsCurrent sequence mask text h.half) current h.seen.told (is good)
  where
    current : (c : Contents) → IsCurrent sequence mask text h.half c → IsCurrent sequence mask text h.half (with_rest h.seen.sectors c r.contents)
    current c now =
        let fits = said_fits h.seen.sectors wide.front r.contents c (record { sequence = sequence; half = h.half; length = length text; good = mask }) now.says in
        record { says = whole_toggle h.seen.sectors wide.front r.contents c ∙ now.says; holds = holds h.seen.sectors wide.front r.contents text h.half c fits.0 fits.1 now.holds }

-- a device whose front is a member is one
pub member_back : (o : Option Rest) (h : DiskSeen) → HasPrivate h → (group : Word) → IsMember group (with_device o h).seen.told → IsMember group h.seen.told
member_back None h wide group is = is
member_back (Some r) h wide group is = by h.seen.told is
  where
    by : (t : Option Contents) → IsMember group (whole_told h.seen.sectors r.contents t) → IsMember group t
    by None is = absurd is
    by (Some c) is = ap (λ x. names_group group (header_of x)) (sym (private h.seen.sectors wide.front r.contents c 0 (omega arith))) ∙ is
