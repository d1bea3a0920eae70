-- What a commit leaves of a group.
use Rattle.std.proofs.Common.{◌≡◌, ℕ, suc, ◌<◌, ◌≤◌, Bool, true, false, List, [], ◌∷◌, length, take, Option, Some, None, Result, Ok, Err, refl, sym, ap, ◌∙◌, subst, inl, inr}
use Rattle.std.specs.Prelude.{IsTrue, MatchOption}
use Rattle.std.proofs.lemmas.List.{take_all}
use Rattle.vx_base.specs.Blocks.{Contents}
use Rattle.vx_base.specs.Named.{Word}
use Rattle.vx_header.specs.Named.{header_of}
use Rattle.vx_piece.specs.Seen.{Seen}
use Rattle.vx_copies.specs.Lists.{Each, AllOf}
use Rattle.vx_copies.specs.Disks.{DiskSeen, HasSlot, IsReady, Drops, CommitGoes, Offers}
use Rattle.vx_copies.specs.Commit.{CommitEnds, HasRisen}
use Rattle.vx_copies.specs.declared.writing.Lost.{Lost}
use Rattle.vx_copies.specs.declared.writing.Lost.TheVariants as lost
use Rattle.vx_confdb.specs.Faults.{fault_of}
use Rattle.vx_header.specs.Named.{Label}
use Rattle.vx_confdb.specs.Prepare.{Says, label_in}
use Rattle.vx_confdb.specs.Groups.{members, IsAlive, IsGroup, IsMemberOf, WrittenBy, IsWritten, CommitGives}
use Rattle.vx_confdb.specs.declared.fault.GroupFault.{GroupFault}
use Rattle.vx_confdb.specs.declared.fault.GroupFault.TheVariants as fault
use Rattle.vx_confdb.specs.declared.group.Group.{Group}

was_good : (x y : Bool) (a b : Seen) → Drops x y a b → IsTrue y → IsTrue x
was_good x true a b d is = d
was_good x false a b d is = cc

headed_told : (a b : Label) (f l : ℕ) (text : List ℕ) (t u : Option Contents) → b ≡ a → Offers f l text t u → Says a t → Says b u
headed_told a b f l text None None same offers is = tt
headed_told a b f l text None (Some d) same offers is = absurd offers
headed_told a b f l text (Some c) None same offers is = absurd offers
headed_told a b f l text (Some c) (Some d) same offers is = ap header_of offers.0 ∙ is ∙ ap Some (sym same)

pub same_label : (group : Word) (a b : DiskSeen) → b.name ≡ a.name → b.slot ≡ a.slot → b.sectors ≡ a.sectors → label_in group b ≡ label_in group a
same_label group a b p q r = λ i. record { group = group; disk = p i; slot = q i; sectors = r i }

-- headers stay
pub headed_stays : (group : Word) (f l : ℕ) (text : List ℕ) (hs bs : List DiskSeen) → Each (CommitGoes f l text) hs bs → AllOf (IsMemberOf group) hs → AllOf (IsMemberOf group) bs
headed_stays group f l text [] [] goes all = tt
headed_stays group f l text [] (b ∷ bs) goes all = absurd goes
headed_stays group f l text (a ∷ hs) [] goes all = absurd goes
headed_stays group f l text (a ∷ hs) (b ∷ bs) goes all =
    (λ good. headed_told (label_in group a) (label_in group b) f l text a.seen.told b.seen.told (same_label group a b goes.0.name goes.0.slot goes.0.size) goes.0.offers (all.0 (was_good a.good b.good a.seen b.seen goes.0.good good)), headed_stays group f l text hs bs goes.1 all.1)

-- slots stay
pub slots_stay : (f l : ℕ) (text : List ℕ) (hs bs : List DiskSeen) → Each (CommitGoes f l text) hs bs → AllOf HasSlot hs → AllOf HasSlot bs
slots_stay f l text [] [] goes all = tt
slots_stay f l text [] (b ∷ bs) goes all = absurd goes
slots_stay f l text (a ∷ hs) [] goes all = absurd goes
slots_stay f l text (a ∷ hs) (b ∷ bs) goes all = (subst (λ n. n < 32) (sym goes.0.slot) all.0, slots_stay f l text hs bs goes.1 all.1)

pub ready_slots : (hs : List DiskSeen) → AllOf IsReady hs → AllOf HasSlot hs
ready_slots [] all = tt
ready_slots (h ∷ hs) all = (all.0.slot, ready_slots hs all.1)

-- the slots of a group, lost or not
pub group_slots : {P : Type 0} (see : P → Seen) (g : Group P) → IsGroup see g → AllOf HasSlot (members see g)
group_slots see g is = by g.lost is
  where
    by : (l : Option Lost) → MatchOption l (IsAlive see g) (λ x. AllOf HasSlot (members see g)) → AllOf HasSlot (members see g)
    by None alive = ready_slots (members see g) alive.ready
    by (Some x) slots = slots

-- a group that is lost
pub lost_group : {P : Type 0} (see : P → Seen) (g : Group P) (l : Lost) → g.lost ≡ Some l → AllOf HasSlot (members see g) → IsGroup see g
lost_group see g l is slots = subst (λ o. MatchOption o (IsAlive see g) (λ x. AllOf HasSlot (members see g))) (sym is) slots

-- one whose good disks carry a text
pub alive_group : {P : Type 0} (see : P → Seen) (g : Group P) → g.lost ≡ None → IsAlive see g → IsGroup see g
alive_group see g is alive = subst (λ o. MatchOption o (IsAlive see g) (λ x. AllOf HasSlot (members see g))) (sym is) alive

-- the answer of a lost commit
pub lost_by : {P : Type 0} (see : P → Seen) (r : Result (Unit {0}) Lost) (l : Lost) (carriers n : ℕ) (text : List ℕ) (old new : Group P) → r ≡ Err l → new.lost ≡ Some l → CommitEnds r carriers n text (members see old) (members see new) → WrittenBy see (Err (fault_of l)) carriers text old new
lost_by see (Ok u) l carriers n text old new is lost ends = cc
lost_by see (Err lost.GroupLost) lost.GroupLost carriers n text old new is lost ends = (lost, ends)
lost_by see (Err lost.PowerLost) lost.PowerLost carriers n text old new is lost ends = (lost, ends)
lost_by see (Err lost.GroupLost) lost.PowerLost carriers n text old new is lost ends = cc
lost_by see (Err lost.PowerLost) lost.GroupLost carriers n text old new is lost ends = cc

-- a commit whose carriers are all disks
pub take_whole : {X : Type 0} (n : ℕ) (xs : List X) → length xs ≤ n → take n xs ≡ xs
take_whole n xs le = take_all n xs le

pub gives_from : {P : Type 0} (see : P → Seen) (r : Result (Unit {0}) GroupFault) (n : ℕ) (text : List ℕ) (old new : Group P) → length (members see old) ≤ n → length (members see new) ≤ n → IsWritten see r n text old new → CommitGives see r text old new
gives_from see (Ok u) n text old new few few' is = (is.committed, is.ends)
gives_from see (Err fault.OutOfMemory) n text old new few few' is = absurd is.ends
gives_from see (Err (fault.TooLong k)) n text old new few few' is = absurd is.ends
gives_from see (Err fault.GroupLost) n text old new few few' is =
    inr (is.committed, is.ends.0, subst (λ xs. Each HasRisen xs (members see new)) (take_whole n (members see old) few) (subst (Each HasRisen (take n (members see old))) (take_whole n (members see new) few') is.ends.1))
gives_from see (Err fault.PowerLost) n text old new few few' is = inr (is.committed, is.ends.0, is.ends.1)

-- a lost group answers the same again
pub again_gives : {P : Type 0} (see : P → Seen) (l : Lost) (text : List ℕ) (g : Group P) → g.lost ≡ Some l → CommitGives see (Err (fault_of l)) text g g
again_gives see lost.GroupLost text g is = inl (is, refl)
again_gives see lost.PowerLost text g is = inl (is, refl)

-- as many disks
pub same_length : {X : Type 0} (R : X → X → Type 0) (xs ys : List X) → Each R xs ys → length ys ≡ length xs
same_length R [] [] is = refl
same_length R [] (y ∷ ys) is = absurd is
same_length R (x ∷ xs) [] is = absurd is
same_length R (x ∷ xs) (y ∷ ys) is = ap suc (same_length R xs ys is.1)
