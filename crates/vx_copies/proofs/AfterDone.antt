-- After Ok the configuration is the new text, whichever disks can be read, where one good disk can.
use Rattle.std.proofs.Common.{◌≡◌, ℕ, ◌+◌, ◌<◌, ◌≤◌, Bool, List, [], ◌∷◌, Option, Some, None, Result, Ok, Err, ◌⊎◌, true, false, cond, ltb, refl, sym, ◌∙◌, subst, arith, inl, inr}
use Rattle.std.specs.Prelude.{MatchOption, OnOk}
use Rattle.std.proofs.lemmas.Bool.{cond-true, cond-false, lt-ltb, le-ltb, cases_lt}
use Rattle.vx_base.specs.Blocks.{Contents}
use Rattle.vx_header.specs.Named.{header_of}
use Rattle.vx_copies.specs.Image.{Offer, offer_of, offer_in, offer_if, names_group, offer_told, higher}
use Rattle.vx_base.specs.Named.{Word}
use Rattle.vx_copies.specs.Lists.{Each, AllOf, AnyOf}
use Rattle.vx_copies.specs.Disks.{DiskSeen, CommitGoes, IsOffer, IsBelow, IsNew, IsMember, good_mask}
use Rattle.vx_copies.specs.Config.{configuration, GivesOldOrNew, GivesNew, IsOlder, HasGoodMask, IsReadableGood}
use Rattle.vx_copies.specs.declared.writing.Lost.{Lost}
use Rattle.vx_copies.specs.Commit.{CommitEnds}
use Rattle.vx_copies.proofs.Choice.{under_all}
use Rattle.vx_copies.proofs.InGroup.{in_member}

abbrev pub IsAtLeast : ℕ → Option Offer → Type 0
IsAtLeast n None = ⊥
IsAtLeast n (Some o) = n ≤ o.sequence

left : (n : ℕ) (a b : Option Offer) → IsAtLeast n a → IsAtLeast n (higher a b)
left n None b is = absurd is
left n (Some x) None is = is
left n (Some x) (Some y) is = elim (cases_lt x.sequence y.sequence) [
  | inl lt ↦ subst (IsAtLeast n) (sym (cond-true _ _ _ (lt-ltb x.sequence y.sequence lt))) (let r : n ≤ y.sequence = omega (arith, is, lt) in r)
  | inr le ↦ subst (IsAtLeast n) (sym (cond-false _ _ _ (le-ltb x.sequence y.sequence le))) is
]

right : (n : ℕ) (a b : Option Offer) → IsAtLeast n b → IsAtLeast n (higher a b)
right n a None is = absurd is
right n None (Some y) is = is
right n (Some x) (Some y) is = elim (cases_lt x.sequence y.sequence) [
  | inl lt ↦ subst (IsAtLeast n) (sym (cond-true _ _ _ (lt-ltb x.sequence y.sequence lt))) is
  | inr le ↦ subst (IsAtLeast n) (sym (cond-false _ _ _ (le-ltb x.sequence y.sequence le))) (let r : n ≤ x.sequence = omega (arith, is, le) in r)
]

offered : (group : Word) (n mask : ℕ) (text : List ℕ) (told : Option Contents) → IsMember group told → MatchOption told (Unit {0}) (λ c. offer_of c ≡ Some (record { sequence = n; good = mask; text = text })) → IsAtLeast n (offer_told group told)
offered group n mask text None is offer = absurd is
offered group n mask text (Some c) is offer = subst (IsAtLeast n) (sym (in_member group c is ∙ offer)) (let r : n ≤ n = omega arith in r)

module _ (group : Word) (readable : ℕ → Bool) (n mask : ℕ) (text : List ℕ) where
  pub highest_least : (hs : List DiskSeen) → AnyOf (IsReadableGood group readable) hs → AllOf (IsOffer n mask text) hs → IsAtLeast n (configuration group readable hs)
  highest_least [] any all = absurd any
  highest_least (h ∷ hs) (inl is) all = left n _ _ (subst (IsAtLeast n) (sym (cond-true _ _ _ is.0)) (offered group n mask text h.seen.told is.2 (all.0 is.1)))
  highest_least (h ∷ hs) (inr is) all = right n _ _ (highest_least hs is all.1)

-- the offer is older, or has the sequence and the mask
abbrev pub IsUnder : ℕ → ℕ → Option Offer → Type 0
IsUnder n mask None = Unit {0}
IsUnder n mask (Some o) = (o.sequence < n) ⊎ (o.good ≡ mask)

higher_of : (n mask : ℕ) (x y : Offer) (b : Bool) → IsUnder n mask (Some x) → IsUnder n mask (Some y) → IsUnder n mask (cond b (Some y) (Some x))
higher_of n mask x y true a b = b
higher_of n mask x y false a b = a

higher_is : (n mask : ℕ) (a b : Option Offer) → IsUnder n mask a → IsUnder n mask b → IsUnder n mask (higher a b)
higher_is n mask None b is h = h
higher_is n mask (Some x) None is h = is
higher_is n mask (Some x) (Some y) is h = higher_of n mask x y (ltb x.sequence y.sequence) is h

where_readable : (n mask : ℕ) (r : Bool) (a : Option Offer) → IsUnder n mask a → IsUnder n mask (cond r a None)
where_readable n mask true a is = is
where_readable n mask false a is = tt

where_named : (n mask : ℕ) (b : Bool) (a : Option Offer) → IsUnder n mask a → IsUnder n mask (offer_if b a)
where_named n mask true a is = is
where_named n mask false a is = tt

good_under : (group : Word) (n mask : ℕ) (text : List ℕ) (told : Option Contents) → MatchOption told (Unit {0}) (λ c. offer_of c ≡ Some (record { sequence = n; good = mask; text = text })) → IsUnder n mask (offer_told group told)
unfolding offer_in
good_under group n mask text None offer = tt
good_under group n mask text (Some c) offer = where_named n mask (names_group group (header_of (c 0))) (offer_of c) (subst (IsUnder n mask) (sym offer) (inr refl))

older_under : (n mask : ℕ) (o : Option Offer) → MatchOption o (Unit {0}) (λ o. o.sequence < n) → IsUnder n mask o
older_under n mask None is = tt
older_under n mask (Some o) is = inl is

one_under : (group : Word) (n mask : ℕ) (text : List ℕ) (h : DiskSeen) → IsOffer n mask text h → IsOlder group n h → IsUnder n mask (offer_told group h.seen.told)
one_under group n mask text h offer older = by_test h.good refl
  where
    by_test : (b : Bool) → h.good ≡ b → IsUnder n mask (offer_told group h.seen.told)
    by_test true e = good_under group n mask text h.seen.told (offer e)
    by_test false e = older_under n mask (offer_told group h.seen.told) (older e)

all_under : (group : Word) (readable : ℕ → Bool) (n mask : ℕ) (text : List ℕ) (hs : List DiskSeen) → AllOf (IsOffer n mask text) hs → AllOf (IsOlder group n) hs → IsUnder n mask (configuration group readable hs)
all_under group readable n mask text [] offers older = tt
all_under group readable n mask text (h ∷ hs) offers older =
    higher_is n mask _ _ (where_readable n mask (readable h.slot) (offer_told group h.seen.told) (one_under group n mask text h offers.0 older.0)) (all_under group readable n mask text hs offers.1 older.1)

has_mask : (n mask : ℕ) (hs : List DiskSeen) (o : Option Offer) → mask ≡ good_mask hs → IsAtLeast n o → IsUnder n mask o → HasGoodMask hs o
has_mask n mask hs None is least under = absurd least
has_mask n mask hs (Some o) is least (inl lt) = absurd (omega (arith, lt, least))
has_mask n mask hs (Some o) is least (inr good) = good ∙ is

not_both : (n old : ℕ) (a : Option Offer) → old < n → IsAtLeast n a → MatchOption a (Unit {0}) (λ x. x.sequence ≤ old) → ⊥
not_both n old None lt least under = least
not_both n old (Some a) lt least under = omega (arith, lt, least, under)

pub is_new : (group : Word) (readable : ℕ → Bool) (old n mask : ℕ) (text : List ℕ) (olds bs : List DiskSeen) → old < n → AllOf (IsBelow group old) olds → GivesOldOrNew group (old + 1) n text olds bs → AllOf (IsOffer n mask text) bs → AnyOf (IsReadableGood group readable) bs → IsNew (old + 1) n text (configuration group readable bs)
is_new group readable old n mask text olds bs lt below gives all any = elim (gives readable) [
  | inl same ↦ absurd (not_both n old (configuration group readable bs) lt (highest_least group readable n mask text bs any all) (subst (λ o. MatchOption o (Unit {0}) (λ x. x.sequence ≤ old)) (sym same) (under_all group old n text readable olds below)))
  | inr new ↦ new
]

pub ok_is : {T : Type 0} (r : Result T Lost) (group : Word) (carriers old n : ℕ) (text : List ℕ) (olds bs : List DiskSeen) → OnOk r (old < n) → OnOk r ((group : Word) → AllOf (IsBelow group old) olds → AllOf (IsOlder group n) bs) → CommitEnds r carriers n text olds bs → AllOf (IsBelow group old) olds → GivesOldOrNew group (old + 1) n text olds bs → OnOk r (GivesNew group (old + 1) n text bs)
ok_is (Ok u) group carriers old n text olds bs lt older ends below gives = λ readable any. (
  is_new group readable old n ends.1.mask text olds bs lt below gives ends.1.each any,
  has_mask n ends.1.mask bs _ ends.1.just (highest_least group readable n ends.1.mask text bs any ends.1.each) (all_under group readable n ends.1.mask text bs ends.1.each (older group below)),
)
ok_is (Err e) group carriers old n text olds bs lt older ends below gives = tt

-- one that is not good was not written in the last attempt
older_one : (group : Word) (last n : ℕ) (text : List ℕ) (a b : DiskSeen) → last < n → IsBelow group last a → CommitGoes n n text a b → b.good ≡ a.good → IsOlder group n b
older_one group last n text a b lt below goes good bad =
    subst (λ s. MatchOption (offer_told group s.told) (Unit {0}) (λ o. o.sequence < n)) (sym (goes.idle (sym good ∙ bad))) (raised last n (offer_told group a.seen.told) lt below)
  where
    raised : (last n : ℕ) (o : Option Offer) → last < n → MatchOption o (Unit {0}) (λ o. o.sequence ≤ last) → MatchOption o (Unit {0}) (λ o. o.sequence < n)
    raised last n None lt le = tt
    raised last n (Some o) lt le = omega (arith, lt, le)

pub older_all : (group : Word) (last n : ℕ) (text : List ℕ) (hs bs : List DiskSeen) → last < n → AllOf (IsBelow group last) hs → Each (CommitGoes n n text) hs bs → Each (λ a b. b.good ≡ a.good) hs bs → AllOf (IsOlder group n) bs
older_all group last n text [] [] lt below goes good = tt
older_all group last n text [] (b ∷ bs) lt below goes good = absurd goes
older_all group last n text (a ∷ hs) [] lt below goes good = absurd goes
older_all group last n text (a ∷ hs) (b ∷ bs) lt below goes good = (older_one group last n text a b lt below.0 goes.0 good.0, older_all group last n text hs bs lt below.1 goes.1 good.1)
