-- The rests of devices, where the pieces behind are moved, lent, put back and called.
use Rattle.std.proofs.Common.{◌≡◌, ◌∙◌, ℕ, ◌+◌, ◌≤◌, ◌==◌, min, Bool, true, false, cond, ◌||◌, List, [], ◌∷◌, ◌++◌, Some, None, refl, sym, ap, subst, arith, append_assoc}
use Rattle.std.specs.Prelude.{IsTrue}
use Rattle.std.specs.List.{list_any, All}
use Rattle.std.proofs.lemmas.List.Sums.{sum_by-cons, sum_by-append}
use Rattle.std.proofs.lemmas.List.Sorted.{IsPermutation-append_comm, IsPermutation-append_left}
use Rattle.vx_piece.specs.Seen.{Seen, Keeps}
use Rattle.vx_carve.specs.Together.{covers, has, owners, HasSome, SameSectors}
use Rattle.vx_carve.proofs.Same.{same_trans, same_moved, same_beside}
use Rattle.vx_copies.specs.Disks.{DiskSeen}
use Rattle.vx_fronts.specs.Fronts.{Rest, with_device, whole_disk}
use Rattle.vx_fronts.specs.Rests.{sector_in, is_of, rest_in, rests_of, bare}
use Rattle.vx_fronts.specs.RestLaws.{RestsAreCounted, RestsStay, PiecesTellStill, LentAreCounted, LentAreEmpty, BackAreCounted, BackAreHeld, NoneIsBehind, DevicesWereCalled}
use Rattle.vx_fronts.proofs.Sectors.{sector_same, sector_none, sector_append, tell_same, any_same, once_kept}

-- ---- counts

bare_by : (b c : Bool) (r s : Rest) → c ≡ b → s.faults ≡ r.faults → s.writes ≡ r.writes → s.reads ≡ r.reads → s.cut ≡ r.cut → bare (cond c (Some s) None) ≡ bare (cond b (Some r) None)
bare_by b c r s e faults writes reads cut = ap (λ v. bare (cond v (Some s) None)) e ∙ by b
  where
    by : (b : Bool) → bare (cond b (Some s) None) ≡ bare (cond b (Some r) None)
    by true = λ i. Some (record { contents = λ k. []; faults = faults i; writes = writes i; reads = reads i; cut = cut i })
    by false = refl

counts_same : (still lent still' lent' : List Seen) → All HasSome (still ++ lent) → SameSectors (still ++ lent) (still' ++ lent') → (device : ℕ) → bare (rests_of still' lent' device) ≡ bare (rests_of still lent device)
counts_same still lent still' lent' some same device =
    bare_by (list_any (is_of device) (still ++ lent)) (list_any (is_of device) (still' ++ lent')) (rest_in still lent device) (rest_in still' lent' device)
    (any_same (still ++ lent) (still' ++ lent') device some (same.some some) (λ k. same.sectors device k))
    (same.faults device) (same.writes device) (same.reads device) (ap (λ n. n == 1) (same.cut device))

pub rests_counted : RestsAreCounted
rests_counted still still' lent some same device = counts_same still lent still' lent some (same_beside lent still still' same) device

-- those that were taken are behind the others
pub turned : (taken still lent : List Seen) → SameSectors ((taken ++ still) ++ lent) (still ++ (taken ++ lent))
turned taken still lent = subst (λ xs. SameSectors ((taken ++ still) ++ lent) xs) (append_assoc still taken lent) (same_moved _ _ (IsPermutation-append_left lent (taken ++ still) (still ++ taken) (IsPermutation-append_comm taken still)))

pub turned_back : (back still lent : List Seen) → SameSectors (still ++ (back ++ lent)) ((back ++ still) ++ lent)
turned_back back still lent = subst (λ xs. SameSectors xs ((back ++ still) ++ lent)) (append_assoc still back lent) (same_moved _ _ (IsPermutation-append_left lent (still ++ back) (back ++ still) (IsPermutation-append_comm still back)))

pub lent_counted : LentAreCounted
lent_counted still taken still' lent some same device = counts_same still lent still' (taken ++ lent) some (same_trans _ _ _ (same_beside lent still (taken ++ still') same) (turned taken still' lent)) device

pub back_counted : BackAreCounted
back_counted still back still' lent some same device = counts_same still (back ++ lent) still' lent some (same_trans _ _ _ (turned_back back still lent) (same_beside lent (back ++ still) still' same)) device

-- ---- contents

rest_by : (b c : Bool) (r s : Rest) → c ≡ b → s.contents ≡ r.contents → s.faults ≡ r.faults → s.writes ≡ r.writes → s.reads ≡ r.reads → s.cut ≡ r.cut → cond c (Some s) None ≡ cond b (Some r) None
rest_by b c r s e contents faults writes reads cut = ap (λ v. cond v (Some s) None) e ∙ by b
  where
    by : (b : Bool) → cond b (Some s) None ≡ cond b (Some r) None
    by true = λ i. Some (record { contents = contents i; faults = faults i; writes = writes i; reads = reads i; cut = cut i })
    by false = refl

pub rests_stay : RestsStay
rests_stay still still' lent some once tells same = λ i device. at device i
  where
    all : SameSectors (still ++ lent) (still' ++ lent)
    all = same_beside lent still still' same

    at : (device : ℕ) → rests_of still' lent device ≡ rests_of still lent device
    at device =
        rest_by (list_any (is_of device) (still ++ lent)) (list_any (is_of device) (still' ++ lent)) (rest_in still lent device) (rest_in still' lent device)
        (any_same (still ++ lent) (still' ++ lent) device some (all.some some) (λ k. all.sectors device k))
        (λ i k. sector_same still still' once tells same device k i)
        (all.faults device) (all.writes device) (all.reads device) (ap (λ n. n == 1) (all.cut device))

pub pieces_tell : PiecesTellStill
pieces_tell ps qs once tells same = tell_same ps qs once tells same

any_owner : (xs : List Seen) (device k : ℕ) → list_any (covers device k) xs ≡ true → 1 ≤ owners device k xs
any_owner [] device k any = let no : ⊥ = cc in absurd no
any_owner (x ∷ xs) device k any = one_more (covers device k x) any (sum_by-cons (has device k) x xs) (λ e. any_owner xs device k e)
  where
    one_more : (b : Bool) → b || list_any (covers device k) xs ≡ true → owners device k (x ∷ xs) ≡ cond b 1 0 + owners device k xs → (list_any (covers device k) xs ≡ true → 1 ≤ owners device k xs) → 1 ≤ owners device k (x ∷ xs)
    one_more true any sum rest = omega (arith, sum)
    one_more false any sum rest = let le = rest any in omega (arith, sum, le)

pub lent_empty : LentAreEmpty
lent_empty still taken still' once tells same device k = by (list_any (covers device k) taken) refl there
  where
    there : cond (list_any (covers device k) taken) (sector_in taken device k) (sector_in still' device k) ≡ sector_in still device k
    there = sym (sector_append taken still' device k) ∙ sector_same still (taken ++ still') once tells same device k

    by : (b : Bool) → list_any (covers device k) taken ≡ b → cond b (sector_in taken device k) (sector_in still' device k) ≡ sector_in still device k → sector_in still' device k ≡ cond b [] (sector_in still device k)
    by true e f =
        let one = any_owner taken device k e in
        let few = once_kept still (taken ++ still') same once device k in
        let sum = sum_by-append (has device k) taken still' in
        sector_none still' device k (omega (arith, one, few, sum))
    by false e f = f

pub back_held : BackAreHeld
back_held still back still' once tells same device k = sector_same (back ++ still) still' once tells same device k ∙ sector_append back still device k

-- ---- whole devices

pub none_behind : NoneIsBehind
none_behind h = refl

cut_up : (m n : ℕ) → min m 1 ≤ min n 1 → (min m 1 == 1) ≡ true → (min n 1 == 1) ≡ true
cut_up m n le is = grind (arith, le, is)

both_up : (a b c d : Bool) → (IsTrue a → IsTrue b) → (IsTrue c → IsTrue d) → IsTrue (a || c) → IsTrue (b || d)
both_up true b c d f g t = by b (f refl)
  where
    by : (b : Bool) → IsTrue b → IsTrue (b || d)
    by true e = refl
    by false e = let no : ⊥ = cc in absurd no
both_up false b c d f g t = by b (g t)
  where
    by : (b : Bool) → IsTrue d → IsTrue (b || d)
    by true e = refl
    by false e = e

called_by : (b c : Bool) → c ≡ b → (r s : Rest) → r.faults ≤ s.faults → (IsTrue r.cut → IsTrue s.cut) → (old new : DiskSeen) → new.sectors ≡ old.sectors → Keeps old.seen new.seen → Keeps (with_device (cond b (Some r) None) old).seen (with_device (cond c (Some s) None) new).seen
called_by b c e r s faults cut old new size kept = subst (λ v. Keeps (with_device (cond b (Some r) None) old).seen (with_device (cond v (Some s) None) new).seen) (sym e) (by b)
  where
    by : (b : Bool) → Keeps (with_device (cond b (Some r) None) old).seen (with_device (cond b (Some s) None) new).seen
    by true = record {
      device = kept.device;
      start = kept.start;
      sectors = size;
      stop = kept.stop;
      faults = let f = kept.faults in omega (arith, f, faults);
      cut = both_up old.seen.cut new.seen.cut r.cut s.cut kept.cut cut;
    }
    by false = kept

pub devices_called : DevicesWereCalled
devices_called still lent still' lent' old new some some' called size kept =
    let device = old.seen.device in
    subst (λ d. Keeps (whole_disk (rests_of still lent) old).seen (with_device (rests_of still' lent' d) new).seen) (sym kept.device)
    (called_by (list_any (is_of device) (still ++ lent)) (list_any (is_of device) (still' ++ lent'))
    (any_same (still ++ lent) (still' ++ lent') device some some' (λ k. called.sectors device k))
    (rest_in still lent device) (rest_in still' lent' device)
    (called.faults device) (cut_up _ _ (called.cut device)) old new size kept)
