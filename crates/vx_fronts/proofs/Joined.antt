-- A disk that joins others whose devices are in pieces, and pieces that are lent.
use Rattle.std.proofs.Common.{◌≡◌, ◌≢◌, ◌∙◌, inl, inr, ℕ, zero, suc, ◌+◌, ◌==◌, Bool, true, false, cond, List, [], ◌∷◌, ◌++◌, Option, Some, None, refl, sym, ap, arith}
use Rattle.std.specs.Prelude.{is_some, MatchOption}
use Rattle.std.specs.List.{sum_by}
use Rattle.std.proofs.lemmas.List.Folds.{list_any_none}
use Rattle.std.proofs.lemmas.List.Sums.{sum_by-append, sum_by-cons}
use Rattle.std.proofs.lemmas.List.Elements.{All-nil, All-cons, All-head, All-tail, All-weaker}
use Rattle.vx_base.specs.Blocks.{Contents}
use Rattle.vx_piece.specs.Seen.{Seen}
use Rattle.vx_carve.specs.Together.{has_at, has, owners}
use Rattle.vx_carve.proofs.Same.{same_trans, same_beside}
use Rattle.vx_copies.specs.Lists.{AllOf, AnyOf}
use Rattle.vx_copies.specs.Disks.{DiskSeen}
use Rattle.vx_fronts.specs.Fronts.{with_device}
use Rattle.vx_fronts.specs.Rests.{is_of, rest_in, IsTelling, AllTell, rests_of}
use Rattle.vx_fronts.specs.Parted.{AreParted, HasDevice, IsFront, IsOfSome, fronts_of}
use Rattle.vx_fronts.specs.RestLaws.{BackStayParted, DisksTell, IsApart, JoinedIsWhole, JoinedStayParted, LentStayParted, PartsAreOnce}
use Rattle.vx_fronts.proofs.Sectors.{other_lacks, same_number}
use Rattle.vx_fronts.proofs.Behind.{turned, turned_back}
use Rattle.vx_fronts.proofs.Parted.{of_some, parted_stay}
use Rattle.vx_fronts.proofs.Steps.{all_push}

-- ---- pieces that are lent

pub lent_parted : LentStayParted
lent_parted hs still taken still' lent same parted = parted_stay hs (still ++ lent) (still' ++ (taken ++ lent)) (same_trans _ _ _ (same_beside lent still (taken ++ still') same) (turned taken still' lent)) parted

pub back_parted : BackStayParted
back_parted hs still back still' lent same parted = parted_stay hs (still ++ (back ++ lent)) (still' ++ lent) (same_trans _ _ _ (turned_back back still lent) (same_beside lent (back ++ still) still' same)) parted

-- ---- a disk that joins

differs : (device number : ℕ) → (number ≡ device → ⊥) → (number == device) ≡ false
differs device number not = by (number == device) refl
  where
    by : (b : Bool) → (number == device) ≡ b → (number == device) ≡ false
    by true e = absurd (not (same_number device number e))
    by false e = e

none_is : (Q : DiskSeen → Type 0) (hs : List DiskSeen) → AllOf (λ g. Q g → ⊥) hs → AnyOf Q hs → ⊥
none_is Q [] none any = any
none_is Q (h ∷ hs) none (inl q) = none.0 q
none_is Q (h ∷ hs) none (inr any) = none_is Q hs none.1 any

all_map : (Q R : DiskSeen → Type 0) (hs : List DiskSeen) → ((h : DiskSeen) → Q h → R h) → AllOf Q hs → AllOf R hs
all_map Q R [] f all = tt
all_map Q R (h ∷ hs) f all = (f h all.0, all_map Q R hs f all.1)

any_more : (Q : DiskSeen → Type 0) (hs : List DiskSeen) (h : DiskSeen) → AnyOf Q hs → AnyOf Q (hs ++ h ∷ [])
any_more Q [] h any = absurd any
any_more Q (g ∷ hs) h (inl q) = inl q
any_more Q (g ∷ hs) h (inr any) = inr (any_more Q hs h any)

fronts_more : (b : Seen → ℕ) (hs : List DiskSeen) (h : DiskSeen) → sum_by b (fronts_of (hs ++ h ∷ [])) ≡ sum_by b (fronts_of hs) + b h.seen
fronts_more b [] h = sum_by-cons b h.seen [] ∙ omega arith
fronts_more b (g ∷ hs) h =
    let rest = fronts_more b hs h in
    let sum = sum_by-cons b g.seen (fronts_of (hs ++ h ∷ [])) in
    let sum' = sum_by-cons b g.seen (fronts_of hs) in
    omega (arith, rest, sum, sum')

tell_first : (hs : List DiskSeen) (h : DiskSeen) → AllTell (fronts_of (hs ++ h ∷ [])) → AllTell (fronts_of hs)
tell_first [] h tells = All-nil IsTelling
tell_first (g ∷ hs) h tells = All-cons IsTelling g.seen (fronts_of hs) (All-head IsTelling g.seen (fronts_of (hs ++ h ∷ [])) tells) (tell_first hs h (All-tail IsTelling g.seen (fronts_of (hs ++ h ∷ [])) tells))

-- no sector of the device is in a piece of the others
apart_lacks : (hs : List DiskSeen) (behind : List Seen) (h : DiskSeen) → IsApart hs h → AreParted hs behind → (k : ℕ) → owners h.seen.device k (fronts_of hs ++ behind) ≡ 0
apart_lacks hs behind h apart parted k = by (owners h.seen.device k (fronts_of hs ++ behind)) refl
  where
    by : (n : ℕ) → n ≡ owners h.seen.device k (fronts_of hs ++ behind) → owners h.seen.device k (fronts_of hs ++ behind) ≡ 0
    by zero e = sym e
    by (suc n) e = absurd (none_is (λ g. g.seen.device ≡ h.seen.device) hs apart.other (of_some hs behind parted.own h.seen.device k (omega (arith, e))))

pub joined_parted : JoinedStayParted
joined_parted hs behind h apart parted = record {
  fronts = all_push IsFront hs h parted.fronts apart.front;
  each = all_push (HasDevice (fronts_of (hs ++ h ∷ []) ++ behind)) hs h (others hs apart.other parted.each) own;
  own = All-weaker (IsOfSome hs) (IsOfSome (hs ++ h ∷ [])) (λ p is. any_more (λ g. g.seen.device ≡ p.device) hs h is) behind parted.own;
  some = parted.some;
  tell = λ tells. parted.tell (tell_first hs h tells);
}
  where
    total : (b : Seen → ℕ) → sum_by b (fronts_of (hs ++ h ∷ []) ++ behind) ≡ sum_by b (fronts_of hs ++ behind) + b h.seen
    total b = let more = fronts_more b hs h in let sum = sum_by-append b (fronts_of (hs ++ h ∷ [])) behind in let sum' = sum_by-append b (fronts_of hs) behind in omega (arith, more, sum, sum')

    others : (gs : List DiskSeen) → AllOf (λ g. g.seen.device ≢ h.seen.device) gs → AllOf (HasDevice (fronts_of hs ++ behind)) gs → AllOf (HasDevice (fronts_of (hs ++ h ∷ []) ++ behind)) gs
    others [] other each = tt
    others (g ∷ gs) other each = (
      (λ k.
          let none = other_lacks h.seen g.seen.device k (differs g.seen.device h.seen.device (λ e. other.0 (sym e))) in
          let sum = total (has g.seen.device k) in
          let was = each.0 k in
          omega (arith, none, sum, was)),
      others gs other.1 each.1,
    )

    own : HasDevice (fronts_of (hs ++ h ∷ []) ++ behind) h
    own k =
        let none = apart_lacks hs behind h apart parted k in
        let sum = total (has h.seen.device k) in
        let same : has h.seen.device k h.seen ≡ has_at h.seen.device 0 h.sectors h.seen.device k = ap (λ n. has_at h.seen.device n h.seen.sectors h.seen.device k) apart.front.start ∙ ap (λ n. has_at h.seen.device 0 n h.seen.device k) apart.whole in
        omega (arith, none, sum, same)

-- no piece is behind its front, ..
pub joined_unparted : (hs : List DiskSeen) (still lent : List Seen) (h : DiskSeen) → IsApart hs h → AreParted hs (still ++ lent) → rests_of still lent h.seen.device ≡ None
joined_unparted hs still lent h apart parted =
    ap (λ v. cond v (Some (rest_in still lent h.seen.device)) None)
    (list_any_none (is_of h.seen.device) (still ++ lent) (All-weaker (IsOfSome hs) (λ p. is_of h.seen.device p ≡ false) other (still ++ lent) parted.own))
  where
    other : (p : Seen) → IsOfSome hs p → is_of h.seen.device p ≡ false
    other p is = differs h.seen.device p.device (λ e. none_is (λ g. g.seen.device ≡ p.device) hs (all_map (λ g. g.seen.device ≢ h.seen.device) (λ g. g.seen.device ≡ p.device → ⊥) hs (λ g not f. not (f ∙ e)) apart.other) is)

-- .. so it is there whole
pub joined_whole : JoinedIsWhole
joined_whole hs still lent h apart parted = ap (λ o. with_device o h) (joined_unparted hs still lent h apart parted)

-- ---- small steps

pub disks_tell : DisksTell
disks_tell [] tells = All-nil IsTelling
disks_tell (h ∷ hs) tells = All-cons IsTelling h.seen (fronts_of hs) (told h.seen.told tells.0) (disks_tell hs tells.1)
  where
    told : (o : Option Contents) → MatchOption o ⊥ (λ contents. Unit {0}) → is_some o ≡ true
    told None is = absurd is
    told (Some c) is = refl

pub parts_once : PartsAreOnce
parts_once ps qs once = (
  (λ device k. let few = once device k in let sum = sum_by-append (has device k) ps qs in omega (arith, few, sum)),
  (λ device k. let few = once device k in let sum = sum_by-append (has device k) ps qs in omega (arith, few, sum)),
)
