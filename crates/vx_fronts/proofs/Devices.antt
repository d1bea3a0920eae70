-- Disks that are parted otherwise have the same whole devices.
use Rattle.std.proofs.Common.{◌≡◌, ◌∙◌, inl, inr, ℕ, ◌+◌, ◌-◌, ◌<◌, ◌≤◌, ◌==◌, min, nat_lt, Bool, true, false, cond, ◌||◌, List, [], ◌∷◌, ◌++◌, map, Option, Some, None, refl, sym, ap, subst, arith}
use Rattle.std.specs.Prelude.{is_some, IfSome}
use Rattle.std.specs.List.{sum_by, list_any, All}
use Rattle.std.proofs.lemmas.Bool.{ltb-true, ltb-false}
use Rattle.std.proofs.lemmas.List.Sums.{sum_by-append}
use Rattle.std.proofs.lemmas.List.Elements.{All-append, All-weaker}
use Rattle.vx_base.specs.Blocks.{Contents}
use Rattle.vx_piece.specs.Seen.{Seen, AreCounts, EndsThere}
use Rattle.vx_carve.specs.Together.{has_at, has, owners, faults_of, writes_of, reads_of, cut_of, faults_on, writes_on, reads_on, cut_on, HoldsTold, Holds, HasSome, AreOnce, SameSectors}
use Rattle.vx_carve.proofs.Same.{same_beside}
use Rattle.vx_copies.specs.Lists.{Each, AllOf}
use Rattle.vx_copies.specs.Disks.{DiskSeen}
use Rattle.vx_fronts.specs.Fronts.{whole_told, with_device, whole_disk}
use Rattle.vx_fronts.specs.Rests.{sector_in, is_of, rest_in, rests_of, untold, IsTelling, AllTell}
use Rattle.vx_fronts.specs.Parted.{AreParted, AreSameWhole, HasDevice, IsFront, IsOfSome, IsSameDisk, Reparts, fronts_of}
use Rattle.vx_fronts.proofs.Sectors.{none_counted, other_lacks, own_told, sector_none, sector_same, sector_skip, self, tell_same}
use Rattle.vx_fronts.proofs.Parted.{IsIn, all_at, all_by, all_fronts, all_onto, all_parts, any_onto, front_alone, front_at, fronts_have, few_fronts, own_kept, parted_once, tell_back, tells_back}

-- ---- a device out of all pieces of it

-- what the pieces are together, of a device of so many sectors that this front begins
abbrev seen_as : (ps lent : List Seen) → ℕ → Option Contents → Seen → Seen
seen_as ps lent sectors told front = record {
  device = front.device;
  start = front.start;
  sectors = sectors;
  told = told;
  faults = faults_on front.device (ps ++ lent);
  writes = writes_on front.device (ps ++ lent);
  reads = reads_on front.device (ps ++ lent);
  cut = cut_on front.device (ps ++ lent) == 1;
  stop = front.stop;
}

abbrev disk_as : (ps lent : List Seen) → Option Contents → DiskSeen → DiskSeen
disk_as ps lent told h = record h { seen = seen_as ps lent h.sectors told h.seen }

same_seen : (a b : Seen) → a.device ≡ b.device → a.start ≡ b.start → a.sectors ≡ b.sectors → a.told ≡ b.told → a.faults ≡ b.faults → a.writes ≡ b.writes → a.reads ≡ b.reads → a.cut ≡ b.cut → a.stop ≡ b.stop → a ≡ b
same_seen a b device start sectors told faults writes reads cut stop = λ i. record {
  device = device i;
  start = start i;
  sectors = sectors i;
  told = told i;
  faults = faults i;
  writes = writes i;
  reads = reads i;
  cut = cut i;
  stop = stop i;
}

with_seen : (h : DiskSeen) (a b : Seen) → a ≡ b → (let x : DiskSeen = record h { seen = a } in x) ≡ record h { seen = b }
with_seen h a b e = λ i. record h { seen = e i }

-- ---- counts

joined_count : (f s n m : ℕ) → n ≡ f + s → min (f + min s m) m ≡ min n m
joined_count f s n m e = omega (arith, e)

alone_count : (f s n m : ℕ) → n ≡ f + s → s ≡ 0 → f ≤ m → f ≡ min n m
alone_count f s n m e none le = omega (arith, e, none, le)

joined_cut : (c : Bool) (s n : ℕ) → n ≡ cond c 1 0 + s → (c || min s 1 == 1) ≡ (min n 1 == 1)
joined_cut true s n e = sym (ap (λ k. min k 1 == 1) e ∙ at s)
  where
    at : (s : ℕ) → (min (1 + s) 1 == 1) ≡ true
    at s = grind arith
joined_cut false s n e = sym (ap (λ k. min k 1 == 1) (e ∙ omega arith))

alone_cut : (c : Bool) (s n : ℕ) → n ≡ cond c 1 0 + s → s ≡ 0 → c ≡ (min n 1 == 1)
alone_cut true s n e none = sym (ap (λ k. min k 1 == 1) (e ∙ ap (λ k. 1 + k) none))
alone_cut false s n e none = sym (ap (λ k. min k 1 == 1) (e ∙ ap (λ k. 0 + k) none))

-- two runs from the first sector that have the same sectors are as long
same_length : (number start n m : ℕ) → start ≡ 0 → 0 < n → ((k : ℕ) → has_at number start n number k ≡ has_at number 0 m number k) → n ≡ m
same_length number start n m e some same =
    let low = last number start n m (n - 1) e (omega (arith, some)) (same (n - 1)) in
    let high = next number start n m e (same n) in
    omega (arith, low, high, some)
  where
    last : (number start n m k : ℕ) → start ≡ 0 → k < n → has_at number start n number k ≡ has_at number 0 m number k → k < m
    last number start n m k e lt same = grind (arith, e, lt, same)

    next : (number start n m : ℕ) → start ≡ 0 → has_at number start n number n ≡ has_at number 0 m number n → m ≤ n
    next number start n m e same = grind (arith, e, same)

counts_here : (b : Bool) (n : ℕ) → b ≡ true → cond b n 0 ≡ n
counts_here b n e = ap (λ v. cond v n 0) e

counts_not : (b : Bool) (n : ℕ) → b ≡ false → cond b n 0 ≡ 0
counts_not b n e = ap (λ v. cond v n 0) e

past_front : (number start count k : ℕ) → start ≡ 0 → count ≤ k → has_at number start count number k ≡ 0
past_front number start count k e le = grind (arith, e, le)

-- ---- one disk of those that are parted

module _ (hs : List DiskSeen) (still lent : List Seen) (parted : AreParted hs (still ++ lent)) (h : DiskSeen) (is : IsIn h hs) (ends : EndsThere h.seen) (counts : AreCounts h.seen) where
  abbrev d : ℕ
  d = h.seen.device

  abbrev behind : List Seen
  behind = still ++ lent

  abbrev all : List Seen
  all = fronts_of hs ++ still

  front : IsFront h
  front = all_at IsFront hs h parted.fronts is

  sum_all : (b : Seen → ℕ) → ((p : Seen) → is_of d p ≡ false → b p ≡ 0) → sum_by b (all ++ lent) ≡ b h.seen + sum_by b behind
  sum_all b zero_if =
      let outer = sum_by-append b all lent in
      let inner = sum_by-append b (fronts_of hs) still in
      let back = sum_by-append b still lent in
      let alone = front_alone b hs h zero_if parted.fronts is (few_fronts hs behind parted d 0) in
      omega (arith, outer, inner, back, alone)

  counted : (b : Seen → ℕ) (n : ℕ) → b h.seen ≡ n → ((p : Seen) → is_of d p ≡ false → b p ≡ 0) → sum_by b (all ++ lent) ≡ n + sum_by b behind
  counted b n e zero_if = sum_all b zero_if ∙ ap (λ m. m + sum_by b behind) e

  faults : sum_by (faults_of d) (all ++ lent) ≡ h.seen.faults + sum_by (faults_of d) behind
  faults = counted (faults_of d) h.seen.faults (counts_here (d == d) h.seen.faults (self d)) (λ p e. counts_not (is_of d p) p.faults e)

  writes : sum_by (writes_of d) (all ++ lent) ≡ h.seen.writes + sum_by (writes_of d) behind
  writes = counted (writes_of d) h.seen.writes (counts_here (d == d) h.seen.writes (self d)) (λ p e. counts_not (is_of d p) p.writes e)

  reads : sum_by (reads_of d) (all ++ lent) ≡ h.seen.reads + sum_by (reads_of d) behind
  reads = counted (reads_of d) h.seen.reads (counts_here (d == d) h.seen.reads (self d)) (λ p e. counts_not (is_of d p) p.reads e)

  cuts : sum_by (cut_of d) (all ++ lent) ≡ cond h.seen.cut 1 0 + sum_by (cut_of d) behind
  cuts = counted (cut_of d) (cond h.seen.cut 1 0) (counts_here (d == d) (cond h.seen.cut 1 0) (self d)) (λ p e. counts_not (is_of d p) (cond p.cut 1 0) e)

  -- where no piece of the device is behind, none counts
  none : list_any (is_of d) behind ≡ false → (b : Seen → ℕ) → ((p : Seen) → is_of d p ≡ false → b p ≡ 0) → sum_by b behind ≡ 0
  none e b zero_if = none_counted b d behind zero_if e

  none_have : list_any (is_of d) behind ≡ false → (k : ℕ) → owners d k behind ≡ 0
  none_have e k = none e (has d k) (λ p e. other_lacks p d k e)

  size : list_any (is_of d) behind ≡ false → h.seen.sectors ≡ h.sectors
  size e = same_length d h.seen.start h.seen.sectors h.sectors front.start (let private = front.private in omega (arith, private)) (λ k.
      let sum = sum_by-append (has d k) (fronts_of hs) behind in
      let mine = fronts_have hs behind h parted is k in
      let whole = all_at (HasDevice (fronts_of hs ++ behind)) hs h parted.each is k in
      let zero_there = none_have e k in
      omega (arith, sum, mine, whole, zero_there))

  abbrev seen_by : Bool → Seen
  seen_by b = (with_device (cond b (Some (rest_in still lent d)) None) h).seen

  same_by : (b : Bool) → list_any (is_of d) behind ≡ b → (t u : Option Contents) → t ≡ u → (let x : Seen = record (seen_by b) { told = t } in x) ≡ seen_as all lent h.sectors u h.seen
  same_by true e t u told = same_seen _ _ refl refl refl told
      (joined_count h.seen.faults (sum_by (faults_of d) behind) _ _ faults)
      (joined_count h.seen.writes (sum_by (writes_of d) behind) _ _ writes)
      (joined_count h.seen.reads (sum_by (reads_of d) behind) _ _ reads)
      (joined_cut h.seen.cut (sum_by (cut_of d) behind) _ cuts)
      refl
  same_by false e t u told = same_seen _ _ refl refl (size e) told
      (alone_count h.seen.faults (sum_by (faults_of d) behind) _ _ faults (none e (faults_of d) (λ p e. counts_not (is_of d p) p.faults e)) (let f = counts.faults in omega (arith, f)))
      (alone_count h.seen.writes (sum_by (writes_of d) behind) _ _ writes (none e (writes_of d) (λ p e. counts_not (is_of d p) p.writes e)) (let f = counts.writes in omega (arith, f)))
      (alone_count h.seen.reads (sum_by (reads_of d) behind) _ _ reads (none e (reads_of d) (λ p e. counts_not (is_of d p) p.reads e)) (let f = counts.reads in omega (arith, f)))
      (alone_cut h.seen.cut (sum_by (cut_of d) behind) _ cuts (none e (cut_of d) (λ p e. counts_not (is_of d p) (cond p.cut 1 0) e)))
      refl

  pub bare_is : untold (whole_disk (rests_of still lent) h) ≡ disk_as all lent None h
  bare_is = by (list_any (is_of d) behind) refl
    where
      by : (b : Bool) → list_any (is_of d) behind ≡ b → untold (whole_disk (rests_of still lent) h) ≡ disk_as all lent None h
      by true e = ap (λ v. untold (with_device (cond v (Some (rest_in still lent d)) None) h)) e ∙ with_seen h _ _ (same_by true e None None refl)
      by false e = ap (λ v. untold (with_device (cond v (Some (rest_in still lent d)) None) h)) e ∙ with_seen h _ _ (same_by false e None None refl)

  -- ---- what it holds

  pub once_all : AreOnce all
  once_all device k =
      let once = parted_once hs behind parted device k in
      let sum = sum_by-append (has device k) (fronts_of hs) behind in
      let sum' = sum_by-append (has device k) still lent in
      let sum'' = sum_by-append (has device k) (fronts_of hs) still in
      omega (arith, once, sum, sum', sum'')

  module _ (tells : AllTell all) where
    in_front : (c : Contents) → h.seen.told ≡ Some c → (k : ℕ) → k < h.seen.sectors → c k ≡ sector_in all d k
    in_front c e k lt =
        let held : Holds (sector_in all) h.seen = front_at (Holds (sector_in all)) hs h ((all_parts (Holds (sector_in all)) (fronts_of hs) still (own_told all once_all tells)).0) is in
        let there : HoldsTold (sector_in all) d h.seen.start h.seen.sectors (Some c) = subst (λ o. HoldsTold (sector_in all) d h.seen.start h.seen.sectors o) e held in
        let start = front.start in
        there k lt ∙ ap (λ j. sector_in all d j) (omega (arith, start))

    in_rest : (k : ℕ) → h.seen.sectors ≤ k → sector_in all d k ≡ sector_in still d k
    in_rest k le = sector_skip (fronts_of hs) still d k (fronts_have hs behind h parted is k ∙ past_front d h.seen.start h.seen.sectors k front.start le)

    at_end : list_any (is_of d) behind ≡ false → (c : Contents) → h.seen.told ≡ Some c → (k : ℕ) → h.seen.sectors ≤ k → c k ≡ sector_in all d k
    at_end e c f k le =
        let past : (k : ℕ) → h.seen.sectors ≤ k → c k ≡ [] = subst (λ o. IfSome o (λ contents. (k : ℕ) → h.seen.sectors ≤ k → contents k ≡ [])) f ends in
        let zero_there = none_have e k in
        let sum = sum_by-append (has d k) still lent in
        past k le ∙ sym (in_rest k le ∙ sector_none still d k (omega (arith, zero_there, sum)))

    told_by : (b : Bool) → list_any (is_of d) behind ≡ b → (o : Option Contents) → h.seen.told ≡ o → is_some o ≡ true → (seen_by b).told ≡ Some (sector_in all d)
    told_by b e None f some = let no : ⊥ = cc in absurd no
    told_by true e (Some c) f some = ap (λ o. whole_told h.seen.sectors (sector_in still d) o) f ∙ ap (λ (x : Contents). Some x) (λ i k. each k (nat_lt k h.seen.sectors) refl i)
      where
        each : (k : ℕ) (v : Bool) → nat_lt k h.seen.sectors ≡ v → cond v (c k) (sector_in still d k) ≡ sector_in all d k
        each k true g = in_front c f k (ltb-true k h.seen.sectors g)
        each k false g = sym (in_rest k (ltb-false k h.seen.sectors g))
    told_by false e (Some c) f some = f ∙ ap (λ (x : Contents). Some x) (λ i k. each k (nat_lt k h.seen.sectors) refl i)
      where
        each : (k : ℕ) (v : Bool) → nat_lt k h.seen.sectors ≡ v → c k ≡ sector_in all d k
        each k true g = in_front c f k (ltb-true k h.seen.sectors g)
        each k false g = at_end e c f k (ltb-false k h.seen.sectors g)

    front_tells : is_some h.seen.told ≡ true
    front_tells = front_at IsTelling hs h ((all_parts IsTelling (fronts_of hs) still tells).0) is

    pub whole_is : whole_disk (rests_of still lent) h ≡ disk_as all lent (Some (sector_in all d)) h
    whole_is = by (list_any (is_of d) behind) refl
      where
        by : (b : Bool) → list_any (is_of d) behind ≡ b → whole_disk (rests_of still lent) h ≡ disk_as all lent (Some (sector_in all d)) h
        by true e = ap (λ v. with_device (cond v (Some (rest_in still lent d)) None) h) e ∙ with_seen h _ _ (same_by true e (seen_by true).told _ (told_by true e h.seen.told refl front_tells))
        by false e = ap (λ v. with_device (cond v (Some (rest_in still lent d)) None) h) e ∙ with_seen h _ _ (same_by false e (seen_by false).told _ (told_by false e h.seen.told refl front_tells))

-- ---- all disks, parted otherwise

map_two : (R : DiskSeen → DiskSeen → Type 0) (f g k : DiskSeen → DiskSeen) (hs bs : List DiskSeen) → Each R hs bs → ((a b : DiskSeen) → IsIn a hs → IsIn b bs → R a b → k (g b) ≡ k (f a)) → map k (map g bs) ≡ map k (map f hs)
map_two R f g k [] [] each same = refl
map_two R f g k [] (b ∷ bs) each same = absurd each
map_two R f g k (a ∷ hs) [] each same = absurd each
map_two R f g k (a ∷ hs) (b ∷ bs) each same = λ i. same a b (inl refl) (inl refl) each.0 i ∷ map_two R f g k hs bs each.1 (λ x y p q r. same x y (inr p) (inr q) r) i

map_one : (R : DiskSeen → DiskSeen → Type 0) (f g : DiskSeen → DiskSeen) (hs bs : List DiskSeen) → Each R hs bs → ((a b : DiskSeen) → IsIn a hs → IsIn b bs → R a b → g b ≡ f a) → map g bs ≡ map f hs
map_one R f g [] [] each same = refl
map_one R f g [] (b ∷ bs) each same = absurd each
map_one R f g (a ∷ hs) [] each same = absurd each
map_one R f g (a ∷ hs) (b ∷ bs) each same = λ i. same a b (inl refl) (inl refl) each.0 i ∷ map_one R f g hs bs each.1 (λ x y p q r. same x y (inr p) (inr q) r) i

front_has : (hs : List DiskSeen) → AllOf IsFront hs → All HasSome (fronts_of hs)
front_has hs fronts = all_fronts HasSome hs (all_by (λ h. HasSome h.seen) hs (λ h is. let private = (all_at IsFront hs h fronts is).private in omega (arith, private)))

module _ (lent : List Seen) (hs bs : List DiskSeen) (still still' : List Seen) (parted : AreParted hs (still ++ lent)) (re : Reparts hs bs still still') where
  abbrev all_old : List Seen
  all_old = fronts_of hs ++ still

  abbrev all_new : List Seen
  all_new = fronts_of bs ++ still'

  beside : SameSectors (all_old ++ lent) (all_new ++ lent)
  beside = same_beside lent all_old all_new re.pieces

  owned : (device k : ℕ) → owners device k (fronts_of bs ++ (still' ++ lent)) ≡ owners device k (fronts_of hs ++ (still ++ lent))
  owned device k =
      let a = sum_by-append (has device k) (fronts_of bs) (still' ++ lent) in
      let b = sum_by-append (has device k) still' lent in
      let c = sum_by-append (has device k) (fronts_of hs) (still ++ lent) in
      let d = sum_by-append (has device k) still lent in
      let e = sum_by-append (has device k) (fronts_of bs) still' in
      let f = sum_by-append (has device k) (fronts_of hs) still in
      let same = re.pieces.sectors device k in
      omega (arith, a, b, c, d, e, f, same)

  some_new : All HasSome (still' ++ lent)
  some_new =
      let old = all_parts HasSome still lent parted.some in
      let new = re.pieces.some (All-append HasSome (fronts_of hs) still (front_has hs parted.fronts) old.0) in
      All-append HasSome still' lent ((all_parts HasSome (fronts_of bs) still' new).1) old.1

  onto : (a b : DiskSeen) → IsSameDisk a b → HasDevice (fronts_of hs ++ (still ++ lent)) a → HasDevice (fronts_of bs ++ (still' ++ lent)) b
  onto a b is own k =
      owned b.seen.device k ∙ ap (λ d. owners d k (fronts_of hs ++ (still ++ lent))) is.number ∙ own k
      ∙ ap (λ n. has_at a.seen.device 0 n a.seen.device k) (sym is.size) ∙ ap (λ d. has_at d 0 b.sectors d k) (sym is.number)

  own_new : All (IsOfSome bs) (still' ++ lent)
  own_new =
      All-weaker (IsOfSome hs) (IsOfSome bs) (λ p is. any_onto IsSameDisk (λ h. h.seen.device ≡ p.device) (λ h. h.seen.device ≡ p.device) (λ a b same e. same.number ∙ e) hs bs re.disks is) (still' ++ lent)
      (own_kept hs (still ++ lent) (still' ++ lent) parted.own some_new (λ device k le. let sum = sum_by-append (has device k) (fronts_of bs) (still' ++ lent) in let same = owned device k in omega (arith, sum, same, le)))

  once_old : AreOnce all_old
  once_old device k =
      let once = parted_once hs (still ++ lent) parted device k in
      let sum = sum_by-append (has device k) (fronts_of hs) (still ++ lent) in
      let sum' = sum_by-append (has device k) still lent in
      let sum'' = sum_by-append (has device k) (fronts_of hs) still in
      omega (arith, once, sum, sum', sum'')

  tell_all : AllTell (fronts_of hs) → AllTell all_old
  tell_all tells = All-append IsTelling (fronts_of hs) still tells ((all_parts IsTelling still lent (parted.tell tells)).0)

  tell_new : AllTell (fronts_of hs) → AllTell all_new
  tell_new tells = tell_same all_old all_new once_old (tell_all tells) re.pieces

  pub parted_new : AreParted bs (still' ++ lent)
  parted_new = record {
    fronts = all_onto IsSameDisk IsFront IsFront (λ a b is front. record { start = is.start ∙ front.start; private = is.private front.private }) hs bs re.disks parted.fronts;
    each = all_onto IsSameDisk (HasDevice (fronts_of hs ++ (still ++ lent))) (HasDevice (fronts_of bs ++ (still' ++ lent))) onto hs bs re.disks parted.each;
    own = own_new;
    some = some_new;
    tell = λ tells'.
        let tells = tell_back IsSameDisk (λ a b is. tells_back 2048 a.seen.told b.seen.told is.told) hs bs re.disks tells' in
        All-append IsTelling still' lent ((all_parts IsTelling (fronts_of bs) still' (tell_new tells)).1) ((all_parts IsTelling still lent (parted.tell tells)).1);
  }

  as_same : (a b : DiskSeen) → IsSameDisk a b → (t u : Option Contents) → t ≡ u → disk_as all_new lent t b ≡ disk_as all_old lent u a
  as_same a b is t u told =
      let front : seen_as all_new lent b.sectors t b.seen ≡ seen_as all_old lent a.sectors u a.seen = same_seen _ _ is.number is.start is.size told
      (ap (λ d. faults_on d (all_new ++ lent)) is.number ∙ beside.faults a.seen.device)
      (ap (λ d. writes_on d (all_new ++ lent)) is.number ∙ beside.writes a.seen.device)
      (ap (λ d. reads_on d (all_new ++ lent)) is.number ∙ beside.reads a.seen.device)
      (ap (λ d. cut_on d (all_new ++ lent) == 1) is.number ∙ ap (λ n. n == 1) (beside.cut a.seen.device))
      is.stop in
      λ i. record {
        name = is.name i;
        device = is.device i;
        slot = is.slot i;
        sectors = is.size i;
        good = is.good i;
        half = is.half i;
        seen = front i;
      }

  module _ (ends : AllOf (λ h. EndsThere h.seen) hs) (counts : AllOf (λ h. AreCounts h.seen) hs) (ends' : AllOf (λ h. EndsThere h.seen) bs) (counts' : AllOf (λ h. AreCounts h.seen) bs) where
    bare_one : (a b : DiskSeen) → IsIn a hs → IsIn b bs → IsSameDisk a b → untold (whole_disk (rests_of still' lent) b) ≡ untold (whole_disk (rests_of still lent) a)
    bare_one a b p q is =
        bare_is bs still' lent parted_new b q (all_at (λ h. EndsThere h.seen) bs b ends' q) (all_at (λ h. AreCounts h.seen) bs b counts' q)
        ∙ as_same a b is None None refl
        ∙ sym (bare_is hs still lent parted a p (all_at (λ h. EndsThere h.seen) hs a ends p) (all_at (λ h. AreCounts h.seen) hs a counts p))

    whole_one : AllTell (fronts_of hs) → (a b : DiskSeen) → IsIn a hs → IsIn b bs → IsSameDisk a b → whole_disk (rests_of still' lent) b ≡ whole_disk (rests_of still lent) a
    whole_one tells a b p q is =
        whole_is bs still' lent parted_new b q (all_at (λ h. EndsThere h.seen) bs b ends' q) (all_at (λ h. AreCounts h.seen) bs b counts' q) (tell_new tells)
        ∙ as_same a b is (Some (sector_in all_new b.seen.device)) (Some (sector_in all_old a.seen.device)) (ap (λ (x : Contents). Some x) (ap (λ d. sector_in all_new d) is.number ∙ (λ i k. sector_same all_old all_new once_old (tell_all tells) re.pieces a.seen.device k i)))
        ∙ sym (whole_is hs still lent parted a p (all_at (λ h. EndsThere h.seen) hs a ends p) (all_at (λ h. AreCounts h.seen) hs a counts p) (tell_all tells))

    pub same_whole : AreSameWhole lent hs bs still still'
    same_whole = record {
      disks = re.disks;
      parted = parted_new;
      counts = map_two IsSameDisk (whole_disk (rests_of still lent)) (whole_disk (rests_of still' lent)) untold hs bs re.disks bare_one;
      tell = λ tells. (all_parts IsTelling (fronts_of bs) still' (tell_new tells)).0;
      whole = λ tells. map_one IsSameDisk (whole_disk (rests_of still lent)) (whole_disk (rests_of still' lent)) hs bs re.disks (whole_one tells);
    }
