-- The headers of devices that are looked at, each of which is read once at most.
use Rattle.std.proofs.Common.{◌≡◌, ◌∙◌, ◌||◌, ◌≤◌, ◌<◌, ℕ, zero, suc, ◌+◌, Bool, true, false, List, [], ◌∷◌, ◌++◌, length, take, get_or, None, refl, sym, ap, subst, inl, inr, arith}
use Rattle.std.specs.Prelude.{IsSome}
use Rattle.std.specs.List.Sorted.{IsStrictlySortedBy}
use Rattle.std.specs.Str.{bytes_eq}
use Rattle.std.proofs.lemmas.Bool.{cond-false}
use Rattle.vx_base.specs.Named.{Word}
use Rattle.vx_base.proofs.NamedLemmas.{bytes_eq_self, bytes_eq_same}
use Rattle.vx_piece.specs.Seen.{Seen, Keeps, IsRead}
use Rattle.vx_shelf.specs.Listed.{IsRising}
use Rattle.vx_moments.specs.Holding.{is_among}
use Rattle.vx_house.specs.Holders.{Holder, held_as, AreHeld}
use Rattle.vx_house.specs.Reading.{IsReturned}
use Rattle.vx_house.specs.Scene.{Shelved, Scene, seen_in, seen_at, count_in, reads_at}
use Rattle.vx_house.proofs.Holders.{take_one, held_at}
use Rattle.vx_house.proofs.Scenes.{scene_of, IsHanded, take_scene, give_scene}
use Rattle.vx_house.proofs.Steps.{each_name}
use Rattle.vx_house.proofs.ReadsInHand as took
use Rattle.vx_stage_import.specs.Gathering.{IsHeaderRead, HeadersRead}
use Rattle.vx_stage_import.proofs.Names.{less_apart, rising_at, or_true, or_first}

-- as much was read of a device that is seen as before
pub same_reads : (s t : Scene) (name : Word) → seen_at t name ≡ seen_at s name → reads_at t name ≡ reads_at s name
same_reads s t name same = ap (count_in (λ (seen : Seen). seen.reads) 0) same

-- where the same are held, and as much was read before and after
pub header_as : (names : List Word) (old new first last : Scene) (name : Word) → first.taken ≡ old.taken → reads_at first name ≡ reads_at old name → reads_at last name ≡ reads_at new name → IsHeaderRead names old new name → IsHeaderRead names first last name
header_as names old new first last name taken before after (inl same) = inl (after ∙ same ∙ sym before)
header_as names old new first last name taken before after (inr (among, none, most)) = inr (among, ap (λ hs. held_as hs name) taken ∙ none, omega (arith, before, after, most))

pub headers_then : (names : List Word) (old mid new : Scene) → ((name : Word) → seen_at new name ≡ seen_at mid name) → HeadersRead names old mid → HeadersRead names old new
headers_then names old mid new same read = λ name. header_as names old mid old new name refl refl (same_reads mid new name (same name)) (read name)

-- one name more
among_one : (name other : Word) → is_among other (name ∷ []) ≡ true → name ≡ other
among_one name other is = bytes_eq_same name other (by (bytes_eq name other) is)
  where
    by : (b : Bool) → (b || false) ≡ true → b ≡ true
    by true e = refl
    by false e = cc

among_here : (names : List Word) (i : ℕ) (d : Word) → i < length names → is_among (get_or names i d) (take (suc i) names) ≡ true
among_here [] i d lt = absurd (omega (arith, lt))
among_here (n ∷ names) zero d lt = or_first (bytes_eq n n) false (bytes_eq_self n)
among_here (n ∷ names) (suc i) d lt = or_true (bytes_eq n (get_or names i d)) _ (among_here names i d (omega (arith, lt)))

among_later : (names : List Word) (i : ℕ) (name : Word) → is_among name (take i names) ≡ true → is_among name (take (suc i) names) ≡ true
among_later [] zero name is = cc
among_later [] (suc i) name is = cc
among_later (n ∷ names) zero name is = cc
among_later (n ∷ names) (suc i) name is = by (bytes_eq n name) (among_later names i name) is
  where
    by : (b : Bool) → (is_among name (take i names) ≡ true → is_among name (take (suc i) names) ≡ true) → (b || is_among name (take i names)) ≡ true → (b || is_among name (take (suc i) names)) ≡ true
    by true rest e = refl
    by false rest e = rest e

among_all : (names : List Word) (i : ℕ) (name : Word) → is_among name (take i names) ≡ true → is_among name names ≡ true
among_all [] zero name is = cc
among_all [] (suc i) name is = cc
among_all (n ∷ names) zero name is = cc
among_all (n ∷ names) (suc i) name is = by (bytes_eq n name) (among_all names i name) is
  where
    by : (b : Bool) → (is_among name (take i names) ≡ true → is_among name names ≡ true) → (b || is_among name (take i names)) ≡ true → (b || is_among name names) ≡ true
    by true rest e = refl
    by false rest e = rest e

-- of rising names none is among those before it
pub fresh_at : (names : List Word) (i : ℕ) (d : Word) → IsRising names → i < length names → is_among (get_or names i d) (take i names) ≡ false
unfolding IsStrictlySortedBy
fresh_at [] i d rising lt = absurd (omega (arith, lt))
fresh_at (n ∷ names) zero d rising lt = refl
fresh_at (n ∷ names) (suc i) d rising lt =
    ap (λ b. b || is_among (get_or names i d) (take i names)) (less_apart n (get_or names i d) (rising_at (n ∷ names) zero (suc i) d d rising (omega arith) lt)) ∙ fresh_at names i d rising.1 (omega (arith, lt))

-- the header of one device more
pub headers_next : (names : List Word) (i : ℕ) (d : Word) (old mid new : Scene) → IsRising names → i < length names → ((name : Word) → held_as mid.taken name ≡ None → held_as old.taken name ≡ None) → HeadersRead (take i names) old mid → HeadersRead (get_or names i d ∷ []) mid new → HeadersRead (take (suc i) names) old new
headers_next names i d old mid new rising lt front all one = λ name. by name (all name) (one name)
  where
    by : (name : Word) → IsHeaderRead (take i names) old mid name → IsHeaderRead (get_or names i d ∷ []) mid new name → IsHeaderRead (take (suc i) names) old new name
    by name (inl e) (inl f) = inl (f ∙ e)
    by name (inr (among, none, most)) (inl f) = inr (among_later names i name among, none, omega (arith, most, f))
    by name (inl e) (inr (among, none, most)) = inr (subst (λ n. is_among n (take (suc i) names) ≡ true) (among_one (get_or names i d) name among) (among_here names i d lt), front name none, omega (arith, e, most))
    by name (inr (among, none, most)) (inr (here, p, q)) =
        let fresh : is_among name (take i names) ≡ false = subst (λ n. is_among n (take i names) ≡ false) (among_one (get_or names i d) name here) (fresh_at names i d rising lt) in cc

pub headers_all : (names : List Word) (i : ℕ) (old new : Scene) → HeadersRead (take i names) old new → HeadersRead names old new
headers_all names i old new read = λ name. by name (read name)
  where
    by : (name : Word) → IsHeaderRead (take i names) old new name → IsHeaderRead names old new name
    by name (inl same) = inl same
    by name (inr (among, none, most)) = inr (among_all names i name among, none, most)

-- a device was taken, its header was read, and it is kept or given back
module _ (old mid : Shelved) (xs ys : List Holder) (name : Word) (seen after : Seen) (are : AreHeld old.held (xs ++ ys)) (handed : IsHanded name seen old mid) (kept : Keeps seen after) (same : IsRead seen after) (most : after.reads ≤ seen.reads + 1) where
  abbrev before : Holder
  before = record { name = name; seen = seen }

  abbrev now : Holder
  now = record { name = name; seen = after }

  abbrev start : Scene
  start = scene_of old (xs ++ ys)

  -- another one is seen as it was
  other_kept : IsSome old.free → (other : Word) → bytes_eq name other ≡ false → seen_at (scene_of mid (xs ++ now ∷ ys)) other ≡ seen_at start other
  other_kept told other away =
      let held = take_one old.held mid.held xs before ys handed.numbers handed.taken are in
      ap (λ o. seen_in o mid.free other) (held_at xs now ys other (took.held_now old mid xs ys name seen after are handed kept same).apart ∙ cond-false _ _ _ away ∙ sym (held_at xs before ys other held.apart ∙ cond-false _ _ _ away))
      ∙ (take_scene old mid xs before ys held.apart handed).seen told other

  read_by : IsSome old.free → (new : Scene) → seen_at new name ≡ seen_at (scene_of mid (xs ++ now ∷ ys)) name → ((other : Word) → bytes_eq name other ≡ false → seen_at new other ≡ seen_at start other) → HeadersRead (name ∷ []) start new
  read_by told new here others =
      let was : reads_at start name ≡ seen.reads = ap (count_in (λ (s : Seen). s.reads) 0) (took.was_told old mid xs ys name seen after are handed kept same told) in
      let is : reads_at new name ≡ after.reads = ap (count_in (λ (s : Seen). s.reads) 0) (here ∙ took.is_told old mid xs ys name seen after are handed kept same) in
      each_name name (IsHeaderRead (name ∷ []) start new)
      (inr (or_first (bytes_eq name name) false (bytes_eq_self name), took.not_held old mid xs ys name seen after are handed kept same, omega (arith, was, is, most)))
      (λ other away. inl (same_reads start new other (others other away)))

  pub header_kept : IsSome old.free → HeadersRead (name ∷ []) start (scene_of mid (xs ++ now ∷ ys))
  header_kept told = read_by told (scene_of mid (xs ++ now ∷ ys)) refl (other_kept told)

  pub header_back : (new : Shelved) → IsReturned name after mid new → IsSome old.free → HeadersRead (name ∷ []) start (scene_of new (xs ++ ys))
  header_back new back told =
      let moved = give_scene mid new xs now ys (took.held_now old mid xs ys name seen after are handed kept same).apart back.back back.quiet back.counts in
      let seen_back = moved.seen ((took.read_now old mid xs ys name seen after are handed kept same).told told) in
      read_by told (scene_of new (xs ++ ys)) (seen_back name) (λ other away. seen_back other ∙ other_kept told other away)
