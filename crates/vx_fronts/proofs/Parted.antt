-- Disks of which the devices are in pieces.
use Rattle.std.proofs.Common.{◌≡◌, ◌∙◌, inl, inr, ℕ, zero, suc, ◌+◌, ◌-◌, ◌<◌, ◌≤◌, Bool, true, false, cond, List, [], ◌∷◌, ◌++◌, get_or, Option, Some, None, refl, sym, ap, subst, arith}
use Rattle.std.specs.Prelude.{is_some}
use Rattle.std.specs.List.{sum_by, list_any, All}
use Rattle.std.proofs.lemmas.List.Sums.{sum_by-cons, sum_by-append, get_or-le-sum_by}
use Rattle.std.proofs.lemmas.List.Elements.{All-nil, All-cons, All-head, All-tail, All-append, All-weaker}
use Rattle.vx_base.specs.Blocks.{Contents}
use Rattle.vx_piece.specs.Seen.{Seen}
use Rattle.vx_carve.specs.Together.{covers_at, covers, has_at, has, owners, HasSome, IsFree, AreOnce, SameSectors, TellsFront}
use Rattle.vx_copies.specs.Lists.{Each, AllOf, AnyOf}
use Rattle.vx_copies.specs.Disks.{DiskSeen, CommitGoes, Offers}
use Rattle.vx_copies.proofs.StepLaws.{each_map}
use Rattle.vx_base.specs.Named.{Word}
use Rattle.vx_confdb.specs.Create.{Enters, Joins}
use Rattle.vx_confdb.specs.Prepare.{label_in}
use Rattle.vx_fronts.specs.Fronts.{HasPrivate}
use Rattle.vx_fronts.specs.Rests.{is_of, IsTelling, AllTell}
use Rattle.vx_fronts.specs.Parted.{AreParted, HasDevice, IsFront, IsOfSome, IsWhole, fronts_of}
use Rattle.vx_fronts.specs.RestLaws.{PartedAreFree, PartedHavePrivate}
use Rattle.vx_fronts.proofs.Sectors.{covered, is_one, lacks_all, none_counted, other_lacks, tell_same}

-- ---- members of lists

-- the disk is one of these
abbrev pub IsIn : DiskSeen → List DiskSeen → Type 0
IsIn h hs = AnyOf (λ g. g ≡ h) hs

pub all_at : (Q : DiskSeen → Type 0) (hs : List DiskSeen) (h : DiskSeen) → AllOf Q hs → IsIn h hs → Q h
all_at Q [] h all is = absurd is
all_at Q (g ∷ hs) h all (inl e) = subst Q e all.0
all_at Q (g ∷ hs) h all (inr is) = all_at Q hs h all.1 is

-- what holds of each that is one of these
pub all_by : (Q : DiskSeen → Type 0) (hs : List DiskSeen) → ((h : DiskSeen) → IsIn h hs → Q h) → AllOf Q hs
all_by Q [] f = tt
all_by Q (h ∷ hs) f = (f h (inl refl), all_by Q hs (λ g is. f g (inr is)))

pub any_in : (Q : DiskSeen → Type 0) (hs : List DiskSeen) → AnyOf Q hs → (h : DiskSeen) × (IsIn h hs × Q h)
any_in Q [] any = absurd any
any_in Q (h ∷ hs) (inl q) = (h, (inl refl, q))
any_in Q (h ∷ hs) (inr any) = let there = any_in Q hs any in (there.0, (inr there.1.0, there.1.1))

pub any_map : (Q R : DiskSeen → Type 0) (hs : List DiskSeen) → ((h : DiskSeen) → Q h → R h) → AnyOf Q hs → AnyOf R hs
any_map Q R [] f any = absurd any
any_map Q R (h ∷ hs) f (inl q) = inl (f h q)
any_map Q R (h ∷ hs) f (inr any) = inr (any_map Q R hs f any)

pub all_onto : (R : DiskSeen → DiskSeen → Type 0) (P Q : DiskSeen → Type 0) → ((a b : DiskSeen) → R a b → P a → Q b) → (hs bs : List DiskSeen) → Each R hs bs → AllOf P hs → AllOf Q bs
all_onto R P Q f [] [] each all = tt
all_onto R P Q f [] (b ∷ bs) each all = absurd each
all_onto R P Q f (a ∷ hs) [] each all = absurd each
all_onto R P Q f (a ∷ hs) (b ∷ bs) each all = (f a b each.0 all.0, all_onto R P Q f hs bs each.1 all.1)

pub any_onto : (R : DiskSeen → DiskSeen → Type 0) (P Q : DiskSeen → Type 0) → ((a b : DiskSeen) → R a b → P a → Q b) → (hs bs : List DiskSeen) → Each R hs bs → AnyOf P hs → AnyOf Q bs
any_onto R P Q f [] [] each any = absurd any
any_onto R P Q f [] (b ∷ bs) each any = absurd each
any_onto R P Q f (a ∷ hs) [] each any = absurd each
any_onto R P Q f (a ∷ hs) (b ∷ bs) each (inl p) = inl (f a b each.0 p)
any_onto R P Q f (a ∷ hs) (b ∷ bs) each (inr any) = inr (any_onto R P Q f hs bs each.1 any)

-- what holds of each front
pub all_fronts : (Q : Seen → Type 0) (hs : List DiskSeen) → AllOf (λ h. Q h.seen) hs → All Q (fronts_of hs)
all_fronts Q [] all = All-nil Q
all_fronts Q (h ∷ hs) all = All-cons Q h.seen (fronts_of hs) all.0 (all_fronts Q hs all.1)

pub front_at : (Q : Seen → Type 0) (hs : List DiskSeen) (h : DiskSeen) → All Q (fronts_of hs) → IsIn h hs → Q h.seen
front_at Q [] h all is = absurd is
front_at Q (g ∷ hs) h all (inl e) = subst (λ (x : DiskSeen). Q x.seen) e (All-head Q g.seen (fronts_of hs) all)
front_at Q (g ∷ hs) h all (inr is) = front_at Q hs h (All-tail Q g.seen (fronts_of hs) all) is

pub all_parts : (Q : Seen → Type 0) (ps rs : List Seen) → All Q (ps ++ rs) → All Q ps × All Q rs
all_parts Q [] rs all = (All-nil Q, all)
all_parts Q (p ∷ ps) rs all = let rest = all_parts Q ps rs (All-tail Q p (ps ++ rs) all) in (All-cons Q p ps (All-head Q p (ps ++ rs) all) rest.0, rest.1)

-- ---- fronts

at_most_one : (b : Bool) → cond b 1 0 ≤ 1
at_most_one true = omega arith
at_most_one false = omega arith

-- a front has the first sector of its device
pub has_first : (h : DiskSeen) → IsFront h → has h.seen.device 0 h.seen ≡ 1
has_first h front =
    let start = front.start in
    let private = front.private in
    subst (λ k. has h.seen.device k h.seen ≡ 1) (omega (arith, start)) (is_one h.seen 0 (omega (arith, private)))

-- one that has not the first sector of a device is of another one
not_of : (device : ℕ) (h : DiskSeen) → IsFront h → has device 0 h.seen ≡ 0 → is_of device h.seen ≡ false
not_of device h front none =
    let private = front.private in
    lacks_all h.seen device (omega (arith, private)) (subst (λ k. has device k h.seen ≡ 0) (sym front.start) none)

none_of : (device : ℕ) (hs : List DiskSeen) → AllOf IsFront hs → owners device 0 (fronts_of hs) ≡ 0 → list_any (is_of device) (fronts_of hs) ≡ false
none_of device [] fronts none = refl
none_of device (h ∷ hs) fronts none =
    let sum = sum_by-cons (has device 0) h.seen (fronts_of hs) in
    let here = not_of device h fronts.0 (omega (arith, sum, none)) in
    let there = none_of device hs fronts.1 (omega (arith, sum, none)) in
    cc

one_of : (hs : List DiskSeen) (h : DiskSeen) → AllOf IsFront hs → IsIn h hs → 1 ≤ owners h.seen.device 0 (fronts_of hs)
one_of [] h fronts is = absurd is
one_of (g ∷ hs) h fronts (inl e) =
    let sum = sum_by-cons (has g.seen.device 0) g.seen (fronts_of hs) in
    let first = has_first g fronts.0 in
    subst (λ (x : DiskSeen). 1 ≤ owners x.seen.device 0 (fronts_of (g ∷ hs))) e (omega (arith, sum, first))
one_of (g ∷ hs) h fronts (inr is) =
    let sum = sum_by-cons (has h.seen.device 0) g.seen (fronts_of hs) in
    let le = one_of hs h fronts.1 is in
    omega (arith, sum, le)

-- where the first sector of a device is in one front, the other fronts count nothing for it
pub front_alone : (b : Seen → ℕ) (hs : List DiskSeen) (h : DiskSeen) → ((p : Seen) → is_of h.seen.device p ≡ false → b p ≡ 0) → AllOf IsFront hs → IsIn h hs → owners h.seen.device 0 (fronts_of hs) ≤ 1 → sum_by b (fronts_of hs) ≡ b h.seen
front_alone b [] h zero_if fronts is few = absurd is
front_alone b (g ∷ hs) h zero_if fronts (inl e) few = here
  where
    few_there : owners g.seen.device 0 (fronts_of (g ∷ hs)) ≤ 1
    few_there = subst (λ (x : DiskSeen). owners x.seen.device 0 (fronts_of (g ∷ hs)) ≤ 1) (sym e) few

    others : owners g.seen.device 0 (fronts_of hs) ≡ 0
    others = let sum = sum_by-cons (has g.seen.device 0) g.seen (fronts_of hs) in let first = has_first g fronts.0 in let le = few_there in omega (arith, sum, first, le)

    there : sum_by b (fronts_of hs) ≡ 0
    there = none_counted b g.seen.device (fronts_of hs) (λ p e'. zero_if p (subst (λ (x : DiskSeen). is_of x.seen.device p ≡ false) e e')) (none_of g.seen.device hs fronts.1 others)

    here : sum_by b (fronts_of (g ∷ hs)) ≡ b h.seen
    here = subst (λ (x : DiskSeen). sum_by b (fronts_of (g ∷ hs)) ≡ b x.seen) e (let sum = sum_by-cons b g.seen (fronts_of hs) in let none = there in omega (arith, sum, none))
front_alone b (g ∷ hs) h zero_if fronts (inr is) few =
    let sum = sum_by-cons (has h.seen.device 0) g.seen (fronts_of hs) in
    let some = one_of hs h fronts.1 is in
    let none : has h.seen.device 0 g.seen ≡ 0 = omega (arith, sum, some, few) in
    let zero_here = zero_if g.seen (not_of h.seen.device g fronts.0 none) in
    let rest = front_alone b hs h zero_if fronts.1 is (omega (arith, sum, few)) in
    let all = sum_by-cons b g.seen (fronts_of hs) in
    omega (arith, zero_here, rest, all)

-- ---- whose a sector is

owner_gives : (Q : Type 0) (ps : List Seen) (device k : ℕ) → All (λ p. p.device ≡ device → Q) ps → 1 ≤ owners device k ps → Q
owner_gives Q [] device k all some = let no : ⊥ = omega (arith, some) in absurd no
owner_gives Q (p ∷ ps) device k all some = one_more (covers device k p) refl (sum_by-cons (has device k) p ps) (λ le. owner_gives Q ps device k (All-tail (λ p. p.device ≡ device → Q) p ps all) le)
  where
    one_more : (b : Bool) → covers device k p ≡ b → owners device k (p ∷ ps) ≡ cond b 1 0 + owners device k ps → (1 ≤ owners device k ps → Q) → Q
    one_more true e sum rest = All-head (λ p. p.device ≡ device → Q) p ps all ((covered p.device p.start p.sectors device k e).0)
    one_more false e sum rest = rest (omega (arith, sum, some))

pub fronts_own : (hs : List DiskSeen) → All (IsOfSome hs) (fronts_of hs)
fronts_own [] = All-nil (IsOfSome [])
fronts_own (h ∷ hs) = All-cons (IsOfSome (h ∷ hs)) h.seen (fronts_of hs) (inl refl) (All-weaker (IsOfSome hs) (IsOfSome (h ∷ hs)) (λ p is. inr is) (fronts_of hs) (fronts_own hs))

-- a sector that one of these pieces has is of some disk's device
pub of_some : (hs : List DiskSeen) (behind : List Seen) → All (IsOfSome hs) behind → (device k : ℕ) → 1 ≤ owners device k (fronts_of hs ++ behind) → AnyOf (λ h. h.seen.device ≡ device) hs
of_some hs behind own device k some =
    owner_gives (AnyOf (λ h. h.seen.device ≡ device) hs) (fronts_of hs ++ behind) device k
    (All-weaker (IsOfSome hs) (λ p. p.device ≡ device → AnyOf (λ h. h.seen.device ≡ device) hs) (λ p is e. any_map (λ h. h.seen.device ≡ p.device) (λ h. h.seen.device ≡ device) hs (λ h x. x ∙ e) is) (fronts_of hs ++ behind)
    (All-append (IsOfSome hs) (fronts_of hs) behind (fronts_own hs) own))
    some

once_by : (hs : List DiskSeen) (ps : List Seen) (device k : ℕ) → AllOf (HasDevice ps) hs → AnyOf (λ h. h.seen.device ≡ device) hs → owners device k ps ≤ 1
once_by hs ps device k each any =
    let there = any_in (λ h. h.seen.device ≡ device) hs any in
    let has_it = all_at (HasDevice ps) hs there.0 each there.1.0 in
    subst (λ d. owners d k ps ≤ 1) there.1.1 (let is = has_it k in let most = at_most_one (covers_at there.0.seen.device 0 there.0.sectors there.0.seen.device k) in omega (arith, is, most))

pub parted_once : (hs : List DiskSeen) (behind : List Seen) → AreParted hs behind → AreOnce (fronts_of hs ++ behind)
parted_once hs behind parted device k = by (owners device k (fronts_of hs ++ behind)) refl
  where
    by : (n : ℕ) → n ≡ owners device k (fronts_of hs ++ behind) → owners device k (fronts_of hs ++ behind) ≤ 1
    by zero e = omega (arith, e)
    by (suc n) e = once_by hs (fronts_of hs ++ behind) device k parted.each (of_some hs behind parted.own device k (omega (arith, e)))

-- the first sector of each disk's device is in one front
pub few_fronts : (hs : List DiskSeen) (behind : List Seen) → AreParted hs behind → (device k : ℕ) → owners device k (fronts_of hs) ≤ 1
few_fronts hs behind parted device k = let once = parted_once hs behind parted device k in let sum = sum_by-append (has device k) (fronts_of hs) behind in omega (arith, once, sum)

-- ---- the private regions, and the sectors behind

at_end : (number start count : ℕ) → start ≡ 0 → has_at number start count number count ≡ 0
at_end number start count e = grind (arith, e)

below_end : (number sectors k : ℕ) → has_at number 0 sectors number k ≡ 1 → k < sectors
below_end number sectors k is = grind (arith, is)

pub inside_device : (number sectors k : ℕ) → k < sectors → has_at number 0 sectors number k ≡ 1
inside_device number sectors k lt = grind (arith, lt)

pub behind_front : (number start count k : ℕ) → start ≡ 0 → has_at number start count number (count + k) ≡ 0
behind_front number start count k e = grind (arith, e)

within_front : (number start count k : ℕ) → start ≡ 0 → k < count → has_at number start count number k ≡ 1
within_front number start count k e lt = grind (arith, e, lt)

-- how many of the fronts have a sector
pub fronts_have : (hs : List DiskSeen) (behind : List Seen) (h : DiskSeen) → AreParted hs behind → IsIn h hs → (k : ℕ) → owners h.seen.device k (fronts_of hs) ≡ has h.seen.device k h.seen
fronts_have hs behind h parted is k = front_alone (has h.seen.device k) hs h (λ p e. other_lacks p h.seen.device k e) parted.fronts is (few_fronts hs behind parted h.seen.device 0)

module _ (hs : List DiskSeen) (behind : List Seen) (parted : AreParted hs behind) where
  -- a front is not longer than its device
  pub front_fits : (h : DiskSeen) → IsIn h hs → h.seen.sectors ≤ h.sectors
  front_fits h is =
      let front = all_at IsFront hs h parted.fronts is in
      let private = front.private in
      let last = h.seen.sectors - 1 in
      let one = within_front h.seen.device h.seen.start h.seen.sectors last front.start (omega (arith, private)) in
      let sum = sum_by-append (has h.seen.device last) (fronts_of hs) behind in
      let mine = fronts_have hs behind h parted is last in
      let all = all_at (HasDevice (fronts_of hs ++ behind)) hs h parted.each is last in
      let most = at_most_one (covers_at h.seen.device 0 h.sectors h.seen.device last) in
      let there = below_end h.seen.device h.sectors last (omega (arith, one, sum, mine, all, most)) in
      omega (arith, there, private)

  pub private_all : AllOf HasPrivate hs
  private_all = all_by HasPrivate hs (λ h is. let private = (all_at IsFront hs h parted.fronts is).private in let fits = front_fits h is in record { front = private; device = omega (arith, private, fits) })

  pub free_at : (h : DiskSeen) → IsIn h hs → IsFree h.seen.device h.seen.sectors (h.sectors - h.seen.sectors) behind
  free_at h is k lt =
      let front = all_at IsFront hs h parted.fronts is in
      let at = h.seen.sectors + k in
      let none = behind_front h.seen.device h.seen.start h.seen.sectors k front.start in
      let sum = sum_by-append (has h.seen.device at) (fronts_of hs) behind in
      let mine = fronts_have hs behind h parted is at in
      let all = all_at (HasDevice (fronts_of hs ++ behind)) hs h parted.each is at in
      let one = inside_device h.seen.device h.sectors at (omega (arith, lt)) in
      omega (arith, none, sum, mine, all, one)

  pub free_all : AllOf (λ h. IsFree h.seen.device h.seen.sectors (h.sectors - h.seen.sectors) behind) hs
  free_all = all_by (λ h. IsFree h.seen.device h.seen.sectors (h.sectors - h.seen.sectors) behind) hs free_at

-- ---- pieces behind that are called or moved

-- pieces that have no other sectors are of the same disks
pub own_kept : (hs : List DiskSeen) (behind qs : List Seen) → All (IsOfSome hs) behind → All HasSome qs → ((device k : ℕ) → 1 ≤ owners device k qs → 1 ≤ owners device k (fronts_of hs ++ behind)) → All (IsOfSome hs) qs
own_kept hs behind qs own some there = λ i d lt.
    let p = get_or qs i d in
    let part = get_or-le-sum_by (has p.device (p.start + 0)) qs i d lt in
    let one = is_one p 0 (some i d lt) in
    of_some hs behind own p.device (p.start + 0) (there p.device (p.start + 0) (omega (arith, part, one)))

pub parted_called : (hs : List DiskSeen) (behind behind' : List Seen) → ((device sector : ℕ) → owners device sector behind' ≡ owners device sector behind) → All HasSome behind' → (AllTell behind → AllTell behind') → AreParted hs behind → AreParted hs behind'
parted_called hs behind behind' same some tell parted = record {
  fronts = parted.fronts;
  each = all_by (HasDevice (fronts_of hs ++ behind')) hs (λ h is k. owned h.seen.device k ∙ all_at (HasDevice (fronts_of hs ++ behind)) hs h parted.each is k);
  own = own_kept hs behind behind' parted.own some (λ device k le. let sum = sum_by-append (has device k) (fronts_of hs) behind in let e = same device k in omega (arith, sum, e, le));
  some = some;
  tell = λ tells. tell (parted.tell tells);
}
  where
    owned : (device k : ℕ) → owners device k (fronts_of hs ++ behind') ≡ owners device k (fronts_of hs ++ behind)
    owned device k = sum_by-append (has device k) (fronts_of hs) behind' ∙ ap (λ n. owners device k (fronts_of hs) + n) (same device k) ∙ sym (sum_by-append (has device k) (fronts_of hs) behind)

once_behind_fronts : (hs : List DiskSeen) (behind : List Seen) → AreParted hs behind → AreOnce behind
once_behind_fronts hs behind parted device k = let once = parted_once hs behind parted device k in let sum = sum_by-append (has device k) (fronts_of hs) behind in omega (arith, once, sum)

pub parted_stay : (hs : List DiskSeen) (behind behind' : List Seen) → SameSectors behind behind' → AreParted hs behind → AreParted hs behind'
parted_stay hs behind behind' same parted = parted_called hs behind behind' same.sectors (same.some parted.some) (λ tells. tell_same behind behind' (once_behind_fronts hs behind parted) tells same) parted

-- ---- fronts that are called

-- the front is the same run, and tells nothing where the other did not
record IsAlike (old new : DiskSeen) : Type 0 where
  size : new.sectors ≡ old.sectors
  number : new.seen.device ≡ old.seen.device
  start : new.seen.start ≡ old.seen.start
  sectors : new.seen.sectors ≡ old.seen.sectors
  tell : IsTelling new.seen → IsTelling old.seen

-- what tells of a piece that begins with another, that one tells
pub tells_back : (n : ℕ) (o u : Option Contents) → TellsFront n o u → is_some u ≡ true → is_some o ≡ true
tells_back n None u e some = let no : ⊥ = cc in absurd no
tells_back n (Some c) u front some = refl

pub tell_back : (R : DiskSeen → DiskSeen → Type 0) → ((a b : DiskSeen) → R a b → IsTelling b.seen → IsTelling a.seen) → (hs bs : List DiskSeen) → Each R hs bs → AllTell (fronts_of bs) → AllTell (fronts_of hs)
tell_back R f [] [] each tells = tells
tell_back R f [] (b ∷ bs) each tells = absurd each
tell_back R f (a ∷ hs) [] each tells = absurd each
tell_back R f (a ∷ hs) (b ∷ bs) each tells = All-cons IsTelling a.seen (fronts_of hs) (f a b each.0 (All-head IsTelling b.seen (fronts_of bs) tells)) (tell_back R f hs bs each.1 (All-tail IsTelling b.seen (fronts_of bs) tells))

same_runs : (hs bs : List DiskSeen) → Each IsAlike hs bs → (device k : ℕ) → owners device k (fronts_of bs) ≡ owners device k (fronts_of hs)
same_runs [] [] each device k = refl
same_runs [] (b ∷ bs) each device k = absurd each
same_runs (a ∷ hs) [] each device k = absurd each
same_runs (a ∷ hs) (b ∷ bs) each device k =
    let is = each.0 in
    let here : has device k b.seen ≡ has device k a.seen = ap (λ n. has_at n b.seen.start b.seen.sectors device k) is.number ∙ ap (λ n. has_at a.seen.device n b.seen.sectors device k) is.start ∙ ap (λ n. has_at a.seen.device a.seen.start n device k) is.sectors in
    let rest = same_runs hs bs each.1 device k in
    let sum = sum_by-cons (has device k) b.seen (fronts_of bs) in
    let sum' = sum_by-cons (has device k) a.seen (fronts_of hs) in
    omega (arith, here, rest, sum, sum')

parted_alike : (hs bs : List DiskSeen) (behind : List Seen) → Each IsAlike hs bs → AreParted hs behind → AreParted bs behind
parted_alike hs bs behind each parted = record {
  fronts = all_onto IsAlike IsFront IsFront (λ a b is front. record { start = is.start ∙ front.start; private = (let s = is.sectors in let p = front.private in omega (arith, s, p)) }) hs bs each parted.fronts;
  each = all_onto IsAlike (HasDevice (fronts_of hs ++ behind)) (HasDevice (fronts_of bs ++ behind)) onto hs bs each parted.each;
  own = All-weaker (IsOfSome hs) (IsOfSome bs) (λ p is. any_onto IsAlike (λ h. h.seen.device ≡ p.device) (λ h. h.seen.device ≡ p.device) (λ a b is' e. is'.number ∙ e) hs bs each is) behind parted.own;
  some = parted.some;
  tell = λ tells. parted.tell (tell_back IsAlike (λ a b is. is.tell) hs bs each tells);
}
  where
    onto : (a b : DiskSeen) → IsAlike a b → HasDevice (fronts_of hs ++ behind) a → HasDevice (fronts_of bs ++ behind) b
    onto a b is own k =
        let sum = sum_by-append (has b.seen.device k) (fronts_of bs) behind in
        let sum' = sum_by-append (has b.seen.device k) (fronts_of hs) behind in
        let runs = same_runs hs bs each b.seen.device k in
        let here : owners b.seen.device k (fronts_of hs ++ behind) ≡ has_at b.seen.device 0 a.sectors b.seen.device k = subst (λ d. owners d k (fronts_of hs ++ behind) ≡ has_at d 0 a.sectors d k) (sym is.number) (own k) in
        subst (λ n. owners b.seen.device k (fronts_of bs ++ behind) ≡ has_at b.seen.device 0 n b.seen.device k) (sym is.size) (omega (arith, sum, sum', runs, here))

alike_by : (first last : ℕ) (text : List ℕ) (a b : DiskSeen) → CommitGoes first last text a b → IsAlike a b
alike_by first last text a b goes = record {
  size = goes.size;
  number = goes.kept.device;
  start = goes.kept.start;
  sectors = goes.kept.sectors;
  tell = told a.seen.told b.seen.told goes.offers;
}
  where
    told : (t u : Option Contents) → Offers first last text t u → is_some u ≡ true → is_some t ≡ true
    told None None is some = some
    told None (Some d) is some = absurd is
    told (Some c) u is some = refl

alike_joined : (group : Word) (text : List ℕ) (a b : DiskSeen) → Joins group text a b → IsAlike a b
alike_joined group text a b joins = record {
  size = joins.size;
  number = joins.kept.device;
  start = joins.kept.start;
  sectors = joins.kept.sectors;
  tell = told a.seen.told b.seen.told joins.told;
}
  where
    told : (t u : Option Contents) → Enters (label_in group a) text t u → is_some u ≡ true → is_some t ≡ true
    told None None is some = some
    told None (Some d) is some = absurd is
    told (Some c) u is some = refl

-- disks of which the last have joined, and the others had a commit
pub parted_entered : (group : Word) (first last : ℕ) (text : List ℕ) (hs bs js ks : List DiskSeen) (behind : List Seen) → Each (CommitGoes first last text) hs bs → Each (Joins group text) js ks → AreParted (hs ++ js) behind → AreParted (bs ++ ks) behind
parted_entered group first last text hs bs js ks behind goes joins parted =
    parted_alike (hs ++ js) (bs ++ ks) behind (both hs bs (each_map (CommitGoes first last text) IsAlike (alike_by first last text) hs bs goes) (each_map (Joins group text) IsAlike (alike_joined group text) js ks joins)) parted
  where
    both : (xs ys : List DiskSeen) → Each IsAlike xs ys → Each IsAlike js ks → Each IsAlike (xs ++ js) (ys ++ ks)
    both [] [] e d = d
    both [] (y ∷ ys) e d = absurd e
    both (x ∷ xs) [] e d = absurd e
    both (x ∷ xs) (y ∷ ys) e d = (e.0, both xs ys e.1 d)

pub parted_committed : (first last : ℕ) (text : List ℕ) (hs bs : List DiskSeen) (behind : List Seen) → Each (CommitGoes first last text) hs bs → AreParted hs behind → AreParted bs behind
parted_committed first last text hs bs behind each parted = parted_alike hs bs behind (each_map (CommitGoes first last text) IsAlike (alike_by first last text) hs bs each) parted

-- ---- disks that are there whole

pub parted_alone : (hs : List DiskSeen) → AllOf IsFront hs → AllOf IsWhole hs → AreOnce (fronts_of hs) → AreParted hs []
parted_alone hs fronts whole once = record {
  fronts = fronts;
  each = all_by (HasDevice (fronts_of hs ++ [])) hs each;
  own = All-nil (IsOfSome hs);
  some = All-nil HasSome;
  tell = λ tells. All-nil IsTelling;
}
  where
    each : (h : DiskSeen) → IsIn h hs → HasDevice (fronts_of hs ++ []) h
    each h is k =
        let front = all_at IsFront hs h fronts is in
        let size = all_at IsWhole hs h whole is in
        sum_by-append (has h.seen.device k) (fronts_of hs) []
        ∙ ap (λ n. n + 0) (front_alone (has h.seen.device k) hs h (λ p e. other_lacks p h.seen.device k e) fronts is (once h.seen.device 0))
        ∙ omega arith
        ∙ ap (λ n. has_at h.seen.device n h.seen.sectors h.seen.device k) front.start
        ∙ ap (λ n. has_at h.seen.device 0 n h.seen.device k) size

pub private_parted : PartedHavePrivate
private_parted hs behind parted = private_all hs behind parted

pub free_parted : PartedAreFree
free_parted hs behind parted = free_all hs behind parted
