-- Disks that are parted otherwise, one after the other.
use Rattle.std.proofs.Common.{◌≡◌, ◌∙◌, inl, inr, ℕ, ◌+◌, ◌<◌, ◌≤◌, List, [], ◌∷◌, ◌++◌, map, reverse, Option, Some, None, refl, sym, ap, subst, append_assoc, arith}
use Rattle.std.specs.Prelude.{Result, Ok, Err, OnOk}
use Rattle.std.specs.List.{sum_by}
use Rattle.std.proofs.lemmas.Bool.{cond-true, lt-ltb}
use Rattle.std.proofs.lemmas.List.{append-nil, map-append, reverse-append, reverse-reverse}
use Rattle.std.proofs.lemmas.List.Sums.{sum_by-cons, sum_by-append}
use Rattle.std.proofs.lemmas.List.Elements.{All-head}
use Rattle.vx_base.specs.Blocks.{Contents}
use Rattle.vx_piece.specs.Seen.{Seen, AreCounts, EndsThere, IsSplit}
use Rattle.vx_piece.specs.Told.{front_told}
use Rattle.vx_carve.specs.Together.{has_at, has, HasSome, SameSectors, TellsFront}
use Rattle.vx_carve.proofs.Again.{tells_self}
use Rattle.vx_carve.proofs.Same.{same_refl, same_trans, same_beside, same_cut}
use Rattle.vx_carve.proofs.Swaps.{same_behind, same_swapped}
use Rattle.vx_copies.specs.Lists.{Each, AllOf}
use Rattle.vx_copies.specs.Disks.{DiskSeen, disk_seen}
use Rattle.vx_copies.specs.declared.disk.Disk.{Disk}
use Rattle.vx_copies.proofs.StepLaws.{each_refl, each_trans}
use Rattle.vx_fronts.specs.Laws.{whole_disks}
use Rattle.vx_fronts.specs.Rests.{AllTell, rests_of, untold}
use Rattle.vx_fronts.specs.Parted.{AreParted, AreSameWhole, HasDevice, IsFront, IsJoinable, IsOfSome, IsSameDisk, IsWhole, Reparts, RepartsOne, fronts_of}
use Rattle.vx_fronts.proofs.Sectors.{is_one}
use Rattle.vx_fronts.proofs.Parted.{IsIn, all_at, any_in, fronts_have, front_fits, free_at, parted_once}
use Rattle.vx_fronts.proofs.Devices.{parted_new, same_whole}

-- ---- one disk

tells_after : (n : ℕ) (o u v : Option Contents) → TellsFront n o u → TellsFront n u v → TellsFront n o v
tells_after n None u v e front = by u e front
  where
    by : (u : Option Contents) → u ≡ None → TellsFront n u v → v ≡ None
    by None e front = front
    by (Some c) e front = let no : ⊥ = cc in absurd no
tells_after n (Some c) None v front e = subst (TellsFront n (Some c)) (sym e) tt
tells_after n (Some c) (Some d) None front later = tt
tells_after n (Some c) (Some d) (Some b) front later = λ k lt. later k lt ∙ front k lt

same_disk : (h : DiskSeen) → IsSameDisk h h
same_disk h = record { name = refl; device = refl; slot = refl; size = refl; good = refl; half = refl; number = refl; start = refl; stop = refl; private = λ p. p; told = tells_self 2048 h.seen.told }

same_after : (a b c : DiskSeen) → IsSameDisk a b → IsSameDisk b c → IsSameDisk a c
same_after a b c p q = record {
  name = q.name ∙ p.name;
  device = q.device ∙ p.device;
  slot = q.slot ∙ p.slot;
  size = q.size ∙ p.size;
  good = q.good ∙ p.good;
  half = q.half ∙ p.half;
  number = q.number ∙ p.number;
  start = q.start ∙ p.start;
  stop = q.stop ∙ p.stop;
  private = λ le. q.private (p.private le);
  told = tells_after 2048 a.seen.told b.seen.told c.seen.told p.told q.told;
}

-- the part in front tells of itself what the piece did
tells_part : (n : ℕ) (o u : Option Contents) → u ≡ front_told n o → TellsFront n o u
tells_part n None u e = e
tells_part n (Some c) u e = subst (TellsFront n (Some c)) (sym e) (λ k lt. cond-true _ _ _ (lt-ltb k n lt))

-- a disk is parted, and the part behind is put in
pub opened_one : (h : DiskSeen) (x y : Seen) (still still' : List Seen) → 2048 < h.seen.sectors → IsSplit 2048 h.seen x y → SameSectors (y ∷ still) still' → RepartsOne h (record h { seen = x }) still still'
opened_one h x y still still' long cut put = record {
  disk = record {
    name = refl;
    device = refl;
    slot = refl;
    size = refl;
    good = refl;
    half = refl;
    number = cut.devices.0;
    start = cut.starts.0;
    stop = cut.stops.0;
    private = λ le. (let size = cut.sizes.0 in omega (arith, size));
    told = tells_part 2048 h.seen.told x.told cut.front;
  };
  pieces = same_trans _ _ _ (same_beside still (h.seen ∷ []) (x ∷ y ∷ []) (same_cut 2048 h.seen x y (omega arith) long cut)) (same_behind x (y ∷ still) still' put);
}

-- ---- one of several disks

pieces_first : (ys : List DiskSeen) (a b : Seen) (mid new : List Seen) → SameSectors (a ∷ mid) (b ∷ new) → SameSectors (a ∷ (fronts_of ys ++ mid)) (b ∷ (fronts_of ys ++ new))
pieces_first [] a b mid new same = same
pieces_first (y ∷ ys) a b mid new same =
    same_trans _ _ _ (same_swapped a y.seen (fronts_of ys ++ mid)) (same_trans _ _ _ (same_behind y.seen _ _ (pieces_first ys a b mid new same)) (same_swapped y.seen b (fronts_of ys ++ new)))

pieces_among : (xs ys : List DiskSeen) (h h' : DiskSeen) (mid new : List Seen) → SameSectors (h.seen ∷ mid) (h'.seen ∷ new) → SameSectors (fronts_of (xs ++ h ∷ ys) ++ mid) (fronts_of (xs ++ h' ∷ ys) ++ new)
pieces_among [] ys h h' mid new same = pieces_first ys h.seen h'.seen mid new same
pieces_among (x ∷ xs) ys h h' mid new same = same_behind x.seen _ _ (pieces_among xs ys h h' mid new same)

disks_among : (xs ys : List DiskSeen) (h h' : DiskSeen) → IsSameDisk h h' → Each IsSameDisk (xs ++ h ∷ ys) (xs ++ h' ∷ ys)
disks_among [] ys h h' same = (same, each_refl IsSameDisk same_disk ys)
disks_among (x ∷ xs) ys h h' same = (same_disk x, disks_among xs ys h h' same)

reparts_more : (old xs ys : List DiskSeen) (h h' : DiskSeen) (still mid new : List Seen) → Reparts old (xs ++ h ∷ ys) still mid → RepartsOne h h' mid new → Reparts old (xs ++ h' ∷ ys) still new
reparts_more old xs ys h h' still mid new all one = record {
  disks = each_trans IsSameDisk same_after old (xs ++ h ∷ ys) (xs ++ h' ∷ ys) all.disks (disks_among xs ys h h' one.disk);
  pieces = same_trans _ _ _ all.pieces (pieces_among xs ys h h' mid new one.pieces);
}

pub reparts_none : (hs : List DiskSeen) (still : List Seen) → Reparts hs hs still still
reparts_none hs still = record { disks = each_refl IsSameDisk same_disk hs; pieces = same_refl _ }

is_in_middle : (xs ys : List DiskSeen) (h : DiskSeen) → IsIn h (xs ++ h ∷ ys)
is_in_middle [] ys h = inl refl
is_in_middle (x ∷ xs) ys h = inr (is_in_middle xs ys h)

pub all_push : (Q : DiskSeen → Type 0) (xs : List DiskSeen) (h : DiskSeen) → AllOf Q xs → Q h → AllOf Q (xs ++ h ∷ [])
all_push Q [] h all q = (q, tt)
all_push Q (x ∷ xs) h all q = (all.0, all_push Q xs h all.1 q)

-- ---- a disk that can be joined

member_counts : (f : Seen → ℕ) (hs : List DiskSeen) (h : DiskSeen) → IsIn h hs → f h.seen ≤ sum_by f (fronts_of hs)
member_counts f [] h is = absurd is
member_counts f (g ∷ hs) h (inl e) = subst (λ (x : DiskSeen). f x.seen ≤ sum_by f (fronts_of (g ∷ hs))) e (let sum = sum_by-cons f g.seen (fronts_of hs) in omega (arith, sum))
member_counts f (g ∷ hs) h (inr is) = let sum = sum_by-cons f g.seen (fronts_of hs) in let le = member_counts f hs h is in omega (arith, sum, le)

joinable_at : (hs : List DiskSeen) (h : DiskSeen) (still : List Seen) → AreParted hs still → IsIn h hs → IsJoinable h still
joinable_at hs h still parted is = record {
  front = all_at IsFront hs h parted.fronts is;
  fits = front_fits hs still parted h is;
  once = λ device k.
      let all = parted_once hs still parted device k in
      let sum = sum_by-append (has device k) (fronts_of hs) still in
      let mine = member_counts (has device k) hs h is in
      let sum' = sum_by-cons (has device k) h.seen still in
      omega (arith, all, sum, mine, sum');
  free = free_at hs still parted h is;
}

-- disks that were parted are so with nothing lent
pub parted_none : (hs bs : List DiskSeen) (still still' : List Seen) → AreParted hs still → Reparts hs bs still still' → AreParted bs still'
parted_none hs bs still still' parted re = subst (AreParted bs) (append-nil still') (parted_new [] hs bs still still' (subst (AreParted hs) (sym (append-nil still)) parted) re)

-- ---- the loop over the disks

module _ {P : Type 0} (see : P → Seen) where
  seen_all : (done left rest : List (Disk P)) (d : Disk P) → left ≡ rest ++ d ∷ [] → map (disk_seen see) (done ++ reverse left) ≡ map (disk_seen see) done ++ disk_seen see d ∷ map (disk_seen see) (reverse rest)
  seen_all done left rest d e = ap (λ zs. map (disk_seen see) (done ++ reverse zs)) e ∙ ap (λ zs. map (disk_seen see) (done ++ zs)) (reverse-append rest (d ∷ [])) ∙ map-append (disk_seen see) done (d ∷ reverse rest)

  seen_more : (done ys rest : List (Disk P)) (d : Disk P) → ys ≡ done ++ d ∷ [] → map (disk_seen see) (ys ++ reverse rest) ≡ map (disk_seen see) done ++ disk_seen see d ∷ map (disk_seen see) (reverse rest)
  seen_more done ys rest d e = ap (λ zs. map (disk_seen see) (zs ++ reverse rest)) e ∙ ap (map (disk_seen see)) (append_assoc done (d ∷ []) (reverse rest)) ∙ map-append (disk_seen see) done (d ∷ reverse rest)

  pub loop_starts : (ds left none : List (Disk P)) (still still' : List Seen) → left ≡ reverse ds → none ≡ [] → still' ≡ still → Reparts (map (disk_seen see) ds) (map (disk_seen see) (none ++ reverse left)) still still'
  loop_starts ds left none still still' e f g =
      subst (λ zs. Reparts (map (disk_seen see) ds) (map (disk_seen see) zs) still still') (sym (ap (λ zs. zs ++ reverse left) f ∙ ap reverse e ∙ reverse-reverse ds))
      (subst (λ zs. Reparts (map (disk_seen see) ds) (map (disk_seen see) ds) still zs) (sym g) (reparts_none (map (disk_seen see) ds) still))

  pub loop_goes : (old : List DiskSeen) (done left rest ys : List (Disk P)) (d d' : Disk P) (still mid new : List Seen) → left ≡ rest ++ d ∷ [] → ys ≡ done ++ d' ∷ [] →
      Reparts old (map (disk_seen see) (done ++ reverse left)) still mid → RepartsOne (disk_seen see d) (disk_seen see d') mid new → Reparts old (map (disk_seen see) (ys ++ reverse rest)) still new
  loop_goes old done left rest ys d d' still mid new e f all one =
      subst (λ zs. Reparts old zs still new) (sym (seen_more done ys rest d' f))
      (reparts_more old (map (disk_seen see) done) (map (disk_seen see) (reverse rest)) (disk_seen see d) (disk_seen see d') still mid new (subst (λ zs. Reparts old zs still mid) (seen_all done left rest d e) all) one)

  pub loop_ends : (old : List DiskSeen) (done left : List (Disk P)) (still new : List Seen) → left ≡ [] → Reparts old (map (disk_seen see) (done ++ reverse left)) still new → Reparts old (map (disk_seen see) done) still new
  loop_ends old done left still new e all = subst (λ zs. Reparts old (map (disk_seen see) zs) still new) (ap (λ zs. done ++ reverse zs) e ∙ append-nil done) all

  pub loop_joinable : (old : List DiskSeen) (done left rest : List (Disk P)) (d : Disk P) (still mid : List Seen) → left ≡ rest ++ d ∷ [] → AreParted old still → Reparts old (map (disk_seen see) (done ++ reverse left)) still mid → IsJoinable (disk_seen see d) mid
  loop_joinable old done left rest d still mid e parted all =
      let now = subst (λ zs. Reparts old zs still mid) (seen_all done left rest d e) all in
      joinable_at (map (disk_seen see) done ++ disk_seen see d ∷ map (disk_seen see) (reverse rest)) (disk_seen see d) mid (parted_none old _ still mid parted now) (is_in_middle (map (disk_seen see) done) (map (disk_seen see) (reverse rest)) (disk_seen see d))

  pub loop_formed : (Q : DiskSeen → Type 0) (done ys : List (Disk P)) (d : Disk P) → ys ≡ done ++ d ∷ [] → AllOf Q (map (disk_seen see) done) → Q (disk_seen see d) → AllOf Q (map (disk_seen see) ys)
  loop_formed Q done ys d e all q = subst (λ zs. AllOf Q zs) (sym (ap (map (disk_seen see)) e ∙ map-append (disk_seen see) done (d ∷ []))) (all_push Q (map (disk_seen see) done) (disk_seen see d) all q)

  pub seen_parts : (xs ys olds news : List (Disk P)) (still still' : List Seen) → xs ≡ olds → news ≡ ys → Reparts (map (disk_seen see) xs) (map (disk_seen see) ys) still still' → Reparts (map (disk_seen see) olds) (map (disk_seen see) news) still still'
  seen_parts xs ys olds news still still' e f re =
      subst (λ zs. Reparts (map (disk_seen see) olds) (map (disk_seen see) zs) still still') (sym f) (subst (λ zs. Reparts (map (disk_seen see) zs) (map (disk_seen see) ys) still still') e re)

  pub seen_each : (Q : Seen → Type 0) → ((p : P) → Q (see p)) → (ds : List (Disk P)) → AllOf (λ h. Q h.seen) (map (disk_seen see) ds)
  seen_each Q f [] = tt
  seen_each Q f (d ∷ ds) = (f d.piece, seen_each Q f ds)

  pub none_seen : (ps : List P) → map see ps ≡ [] → ps ≡ []
  none_seen [] e = refl
  none_seen (p ∷ ps) e = let no : ⊥ = cc in absurd no

  -- disks that were parted otherwise have the same whole devices
  pub same_devices : ((p : P) → EndsThere (see p)) → ((p : P) → AreCounts (see p)) → (lent : List Seen) (ds es : List (Disk P)) (still still' : List Seen) → AreParted (map (disk_seen see) ds) (still ++ lent) → Reparts (map (disk_seen see) ds) (map (disk_seen see) es) still still' → AreSameWhole lent (map (disk_seen see) ds) (map (disk_seen see) es) still still'
  same_devices ends counts lent ds es still still' parted re =
      same_whole lent (map (disk_seen see) ds) (map (disk_seen see) es) still still' parted re (seen_each EndsThere ends ds) (seen_each AreCounts counts ds) (seen_each EndsThere ends es) (seen_each AreCounts counts es)

  -- the same where nothing is lent
  pub same_alone : ((p : P) → EndsThere (see p)) → ((p : P) → AreCounts (see p)) → (ds es : List (Disk P)) (still still' : List Seen) → AreParted (map (disk_seen see) ds) still → Reparts (map (disk_seen see) ds) (map (disk_seen see) es) still still' → AreSameWhole [] (map (disk_seen see) ds) (map (disk_seen see) es) still still'
  same_alone ends counts ds es still still' parted re = same_devices ends counts [] ds es still still' (subst (AreParted (map (disk_seen see) ds)) (sym (append-nil still)) parted) re

pub on_ok : {T E : Type 0} (r : Result T E) (A B : Type 0) → (A → B) → OnOk r A → OnOk r B
on_ok (Ok x) A B f a = f a
on_ok (Err e) A B f a = tt

-- ---- disks that are whole again

-- with nothing behind, the disks are there whole
pub whole_alone : (hs : List DiskSeen) → whole_disks (rests_of [] []) hs ≡ hs
whole_alone [] = refl
whole_alone (h ∷ hs) = ap (λ xs. h ∷ xs) (whole_alone hs)

-- where each front is the whole device, nothing is behind
none_left : (hs : List DiskSeen) (behind : List Seen) → AreParted hs behind → AllOf IsWhole hs → behind ≡ []
none_left hs [] parted whole = refl
none_left hs (p ∷ ps) parted whole =
    let there = any_in (λ h. h.seen.device ≡ p.device) hs (All-head (IsOfSome hs) p ps parted.own) in
    let h = there.0 in
    let device = h.seen.device in
    let k = p.start + 0 in
    let front = all_at IsFront hs h parted.fronts there.1.0 in
    let size = all_at IsWhole hs h whole there.1.0 in
    let one : has device k p ≡ 1 = subst (λ d. has d k p ≡ 1) (sym there.1.1) (is_one p 0 (All-head HasSome p ps parted.some)) in
    let sum = sum_by-append (has device k) (fronts_of hs) (p ∷ ps) in
    let sum' = sum_by-cons (has device k) p ps in
    let mine = fronts_have hs (p ∷ ps) h parted there.1.0 k in
    let all = all_at (HasDevice (fronts_of hs ++ (p ∷ ps))) hs h parted.each there.1.0 k in
    let same : has device k h.seen ≡ has_at device 0 h.sectors device k = ap (λ n. has_at device n h.seen.sectors device k) front.start ∙ ap (λ n. has_at device 0 n device k) size in
    let no : ⊥ = omega (arith, one, sum, sum', mine, all, same) in
    absurd no

module _ (hs bs : List DiskSeen) (still still' : List Seen) (same : AreSameWhole [] hs bs still still') (whole : AllOf IsWhole bs) where
  pub none : still' ≡ []
  none = none_left bs still' (subst (AreParted bs) (append-nil still') same.parted) whole

  pub counts_again : map untold bs ≡ map untold (whole_disks (rests_of still []) hs)
  counts_again = ap (map untold) (sym (whole_alone bs)) ∙ ap (λ zs. map untold (whole_disks (rests_of zs []) bs)) (sym none) ∙ same.counts

  pub whole_again : AllTell (fronts_of hs) → bs ≡ whole_disks (rests_of still []) hs
  whole_again tells = sym (whole_alone bs) ∙ ap (λ zs. whole_disks (rests_of zs []) bs) (sym none) ∙ same.whole tells
