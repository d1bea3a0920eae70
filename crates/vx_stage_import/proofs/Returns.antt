-- The last of the devices that were found is given back, or becomes the first disk.
use Rattle.std.proofs.Common.{◌≡◌, ◌∙◌, ℕ, ◌≤◌, ◌+◌, Bool, true, false, cond, List, [], ◌∷◌, ◌++◌, map, length, Option, refl, sym, ap, subst, append_assoc, arith}
use Rattle.std.proofs.lemmas.List.{append-nil, map-append}
use Rattle.vx_base.specs.Named.{Word}
use Rattle.vx_mask.specs.Mask.{has}
use Rattle.vx_piece.specs.Seen.{Seen}
use Rattle.vx_shelf.specs.Shelf.{Held}
use Rattle.vx_copies.specs.Disks.{DiskSeen as DiskHeld, disk_seen as disk_held}
use Rattle.vx_copies.specs.declared.disk.Disk.{Disk}
use Rattle.vx_import.specs.Looks.{Looked, looked}
use Rattle.vx_import.specs.declared.device.GroupDevice.{GroupDevice}
use Rattle.vx_house.specs.Holders.{Holder, IsTakenFrom, AreHeld}
use Rattle.vx_house.specs.Scene.{Shelved, Scene}
use Rattle.vx_house.proofs.Holders.{give_one, all_here}
use Rattle.vx_house.proofs.Scenes.{scene_of, give_scene, unmoved_refl, unmoved_trans}
use Rattle.vx_stage_import.specs.Finds.{holder_of, holders_of, beside}
use Rattle.vx_stage_import.specs.Giving.{IsBack, IsSorted, good_looks, disk_in, disks_in, seen_disks, disk_holders}
use Rattle.vx_house.specs.Reading.{IsReturned}

pub back_then : (a b c : Scene) → IsBack a b → IsBack b c → IsBack a c
back_then a b c p q = record { held = q.held; moved = unmoved_trans a b c p.moved q.moved }

pub back_refl : (s : Scene) → AreHeld s.shelf.held s.taken → IsBack s s
back_refl s are = record { held = are; moved = unmoved_refl s }

one_back : (old new : Shelved) (xs : List Holder) (h : Holder) (ys : List Holder) → AreHeld old.held (xs ++ h ∷ ys) → IsReturned h.name h.seen old new → IsBack (scene_of old (xs ++ h ∷ ys)) (scene_of new (xs ++ ys))
one_back old new xs h ys are back = record {
  held = give_one old.held new.held xs h ys back.given are;
  moved = give_scene old new xs h ys are.apart back.back back.quiet back.counts;
}

module _ {P : Type 0} (see : P → Seen) (fs rest : List (GroupDevice P)) (one : GroupDevice P) (was : fs ≡ rest ++ one ∷ []) (others ys : List Holder) where
  abbrev last : Holder
  last = holder_of (looked see one)

  abbrev front : List Holder
  front = holders_of (map (looked see) rest)

  -- the devices but for the last one, and this one
  looks_split : map (looked see) fs ≡ map (looked see) rest ++ looked see one ∷ []
  looks_split = ap (map (looked see)) was ∙ map-append (looked see) rest (one ∷ [])

  split : others ++ (holders_of (map (looked see) fs) ++ ys) ≡ (others ++ front) ++ last ∷ ys
  split =
      ap (λ ls. others ++ (holders_of ls ++ ys)) looks_split
      ∙ ap (λ hs. others ++ (hs ++ ys)) (map-append holder_of (map (looked see) rest) (looked see one ∷ []))
      ∙ ap (λ hs. others ++ hs) (append_assoc front (last ∷ []) ys)
      ∙ sym (append_assoc others front (last ∷ ys))

  pub last_taken : (held : Word → Option Held) → AreHeld held (others ++ (holders_of (map (looked see) fs) ++ ys)) → IsTakenFrom held last
  last_taken held are = all_here (IsTakenFrom held) (others ++ front) last ys (subst (AreHeld held) split are).each

  -- it goes back
  pub last_back : (old new : Shelved) → IsReturned one.device (see one.piece) old new → AreHeld old.held (others ++ (holders_of (map (looked see) fs) ++ ys))
      → IsBack (scene_of old (others ++ (holders_of (map (looked see) fs) ++ ys))) (scene_of new (others ++ (front ++ ys)))
  last_back old new back are =
      subst (λ hs. IsBack (scene_of old hs) (scene_of new (others ++ (front ++ ys)))) (sym split)
      (subst (λ hs. IsBack (scene_of old ((others ++ front) ++ last ∷ ys)) (scene_of new hs)) (append_assoc others front ys)
      (one_back old new (others ++ front) last ys (subst (AreHeld old.held) split are) back))

  -- it is the first disk
  pub last_stays : (old : Shelved) → AreHeld old.held (others ++ (holders_of (map (looked see) fs) ++ ys)) → IsBack (scene_of old (others ++ (holders_of (map (looked see) fs) ++ ys))) (scene_of old (others ++ (front ++ last ∷ ys)))
  last_stays old are =
      let same : others ++ (holders_of (map (looked see) fs) ++ ys) ≡ others ++ (front ++ last ∷ ys) = split ∙ append_assoc others front (last ∷ ys) in
      subst (λ hs. IsBack (scene_of old (others ++ (holders_of (map (looked see) fs) ++ ys))) (scene_of old hs)) same (back_refl (scene_of old (others ++ (holders_of (map (looked see) fs) ++ ys))) are)

-- without disks behind them
module _ {P : Type 0} (see : P → Seen) (fs rest : List (GroupDevice P)) (one : GroupDevice P) (was : fs ≡ rest ++ one ∷ []) (others : List Holder) where
  abbrev these : List Holder
  these = holders_of (map (looked see) fs)

  nothing_behind : (held : Word → Option Held) → AreHeld held (others ++ these) → AreHeld held (others ++ (these ++ []))
  nothing_behind held are = subst (λ hs. AreHeld held (others ++ hs)) (sym (append-nil these)) are

  pub find_taken : (held : Word → Option Held) → AreHeld held (others ++ these) → IsTakenFrom held (holder_of (looked see one))
  find_taken held are = last_taken see fs rest one was others [] held (nothing_behind held are)

  pub find_back : (old new : Shelved) → IsReturned one.device (see one.piece) old new → AreHeld old.held (others ++ these) → IsBack (beside old others (map (looked see) fs)) (beside new others (map (looked see) rest))
  find_back old new back are =
      subst (λ hs. IsBack (scene_of old (others ++ hs)) (beside new others (map (looked see) rest))) (append-nil these)
      (subst (λ hs. IsBack (scene_of old (others ++ (these ++ []))) (scene_of new (others ++ hs))) (append-nil (holders_of (map (looked see) rest)))
      (last_back see fs rest one was others [] old new back (nothing_behind old.held are)))

filter_back : (good : ℕ) (xs : List Looked) (f : Looked) → good_looks good (xs ++ f ∷ []) ≡ good_looks good xs ++ cond (has good f.label.slot) (f ∷ []) []
filter_back good [] f = refl
filter_back good (x ∷ xs) f = by (has good x.label.slot) (filter_back good xs f)
  where
    by : (b : Bool) → good_looks good (xs ++ f ∷ []) ≡ good_looks good xs ++ cond (has good f.label.slot) (f ∷ []) [] → cond b (x ∷ good_looks good (xs ++ f ∷ [])) (good_looks good (xs ++ f ∷ [])) ≡ cond b (x ∷ good_looks good xs) (good_looks good xs) ++ cond (has good f.label.slot) (f ∷ []) []
    by true rest = ap (λ ys. x ∷ ys) rest
    by false rest = rest

-- one device is sorted
module _ {P : Type 0} (see : P → Seen) (good : ℕ) (fs rest : List (GroupDevice P)) (one : GroupDevice P) (was : fs ≡ rest ++ one ∷ []) (ds es : List (Disk P)) (old new : Shelved) (b : Bool) (sorted : IsSorted b see (looked see one) ds es old new) where
  abbrev ls : List Looked
  ls = map (looked see) rest

  disks_by : (b : Bool) → has good one.header.slot ≡ b → IsSorted b see (looked see one) ds es old new → disks_in (good_looks good ls ++ cond b (looked see one ∷ []) []) ++ seen_disks see ds ≡ disks_in (good_looks good ls) ++ seen_disks see es
  disks_by true e is =
      ap (λ xs. xs ++ seen_disks see ds) (map-append disk_in (good_looks good ls) (looked see one ∷ []))
      ∙ append_assoc (disks_in (good_looks good ls)) (disk_in (looked see one) ∷ []) (seen_disks see ds)
      ∙ ap (λ (d : DiskHeld). disks_in (good_looks good ls) ++ d ∷ seen_disks see ds) (sym is.disk_is)
      ∙ ap (λ (xs : List (Disk P)). disks_in (good_looks good ls) ++ seen_disks see xs) (sym is.disks_are)
  disks_by false e is =
      ap (λ xs. disks_in xs ++ seen_disks see ds) (append-nil (good_looks good ls))
      ∙ ap (λ (xs : List (Disk P)). disks_in (good_looks good ls) ++ seen_disks see xs) (sym is.same)

  pub disks_then : (all : List DiskHeld) → has good one.header.slot ≡ b → all ≡ disks_in (good_looks good (map (looked see) fs)) ++ seen_disks see ds → all ≡ disks_in (good_looks good ls) ++ seen_disks see es
  disks_then all same so_far =
      so_far
      ∙ ap (λ (xs : List (GroupDevice P)). disks_in (good_looks good (map (looked see) xs)) ++ seen_disks see ds) was
      ∙ ap (λ xs. disks_in (good_looks good xs) ++ seen_disks see ds) (map-append (looked see) rest (one ∷ []))
      ∙ ap (λ xs. disks_in xs ++ seen_disks see ds) (filter_back good ls (looked see one))
      ∙ ap (λ x. disks_in (good_looks good ls ++ cond x (looked see one ∷ []) []) ++ seen_disks see ds) same
      ∙ disks_by b same sorted

  count_by : (b : Bool) → IsSorted b see (looked see one) ds es old new → length es ≤ 1 + length ds
  count_by true is = let e = ap length is.disks_are in omega (arith, e)
  count_by false is = let e = ap length is.same in omega (arith, e)

  pub at_most_one : length es ≤ 1 + length ds
  at_most_one = count_by b sorted

  goes_by : (others : List Holder) (b : Bool) → IsSorted b see (looked see one) ds es old new → AreHeld old.held (others ++ (holders_of (map (looked see) fs) ++ disk_holders see ds))
      → IsBack (scene_of old (others ++ (holders_of (map (looked see) fs) ++ disk_holders see ds))) (scene_of new (others ++ (holders_of ls ++ disk_holders see es)))
  goes_by others true is are =
      subst (λ (s : Shelved). IsBack (scene_of old (others ++ (holders_of (map (looked see) fs) ++ disk_holders see ds))) (scene_of s (others ++ (holders_of ls ++ disk_holders see es)))) (sym is.still)
      (subst (λ hs. IsBack (scene_of old (others ++ (holders_of (map (looked see) fs) ++ disk_holders see ds))) (scene_of old (others ++ (holders_of ls ++ hs)))) (holder_is is.disk is.disk_is ∙ ap (disk_holders see) (sym is.disks_are))
      (last_stays see fs rest one was others (disk_holders see ds) old are))
    where
      holder_is : (d : Disk P) → disk_held see d ≡ disk_in (looked see one) → holder_of (looked see one) ∷ disk_holders see ds ≡ disk_holders see (d ∷ ds)
      holder_is d e = ap (λ (x : DiskHeld). (let h : Holder = record { name = x.device; seen = x.seen } in h) ∷ disk_holders see ds) (sym e)
  goes_by others false is are =
      subst (λ (xs : List (Disk P)). IsBack (scene_of old (others ++ (holders_of (map (looked see) fs) ++ disk_holders see ds))) (scene_of new (others ++ (holders_of ls ++ disk_holders see xs)))) (sym is.same)
      (last_back see fs rest one was others (disk_holders see ds) old new is.back are)

  pub sorted_goes : (others : List Holder) (first : Scene) → IsBack first (scene_of old (others ++ (holders_of (map (looked see) fs) ++ disk_holders see ds))) → IsBack first (scene_of new (others ++ (holders_of ls ++ disk_holders see es)))
  sorted_goes others first back = back_then first (scene_of old (others ++ (holders_of (map (looked see) fs) ++ disk_holders see ds))) (scene_of new (others ++ (holders_of ls ++ disk_holders see es))) back (goes_by others b sorted back.held)

pub sorted_good : {P : Type 0} (see : P → Seen) (b : Bool) (f : Looked) (ds es : List (Disk P)) (old new : Shelved) → b ≡ true → IsSorted true see f ds es old new → IsSorted b see f ds es old new
sorted_good {P = P} see b f ds es old new e is = subst (λ x. IsSorted x see f ds es old new) (sym e) is

module _ {P : Type 0} (see : P → Seen) where
  pub disks_begin : (all : List DiskHeld) (ds : List (Disk P)) → ds ≡ [] → all ≡ all ++ seen_disks see ds
  disks_begin all ds none = sym (append-nil all) ∙ ap (λ (xs : List (Disk P)). all ++ seen_disks see xs) (sym none)

  pub disks_end : (good : ℕ) (fs : List (GroupDevice P)) (all : List DiskHeld) (ds : List (Disk P)) → fs ≡ [] → all ≡ disks_in (good_looks good (map (looked see) fs)) ++ seen_disks see ds → seen_disks see ds ≡ all
  disks_end good fs all ds none is = sym (is ∙ ap (λ (xs : List (GroupDevice P)). disks_in (good_looks good (map (looked see) xs)) ++ seen_disks see ds) none)

  pub sort_begins : (others hs : List Holder) (ds : List (Disk P)) (shelf : Shelved) → ds ≡ [] → AreHeld shelf.held (others ++ hs) → IsBack (scene_of shelf (others ++ hs)) (scene_of shelf (others ++ (hs ++ disk_holders see ds)))
  sort_begins others hs ds shelf none are =
      subst (λ ks. IsBack (scene_of shelf (others ++ hs)) (scene_of shelf (others ++ ks))) (sym (append-nil hs) ∙ ap (λ (xs : List (Disk P)). hs ++ disk_holders see xs) (sym none)) (back_refl (scene_of shelf (others ++ hs)) are)

  pub sort_ends : (others : List Holder) (fs : List (GroupDevice P)) (ds : List (Disk P)) (first : Scene) (shelf : Shelved) → fs ≡ [] → IsBack first (scene_of shelf (others ++ (holders_of (map (looked see) fs) ++ disk_holders see ds))) → IsBack first (scene_of shelf (others ++ disk_holders see ds))
  sort_ends others fs ds first shelf none back = subst (λ (xs : List (GroupDevice P)). IsBack first (scene_of shelf (others ++ (holders_of (map (looked see) xs) ++ disk_holders see ds)))) none back
