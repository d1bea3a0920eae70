-- What the making of a group leaves of its disks.
use Rattle.std.proofs.Common.{◌≡◌, ◌⊎◌, ℕ, ◌≤◌, Bool, true, false, cond, List, [], ◌∷◌, ◌++◌, length, map, take, Option, Some, None, Result, Ok, Err, refl, sym, ap, ◌∙◌, subst, arith, inl, inr}
use Rattle.std.specs.Prelude.{IsTrue, MatchOption}
use Rattle.std.proofs.lemmas.Slice.Eq.{bytes_eq-Decides}
use Rattle.vx_base.specs.Blocks.{Contents}
use Rattle.vx_base.specs.Counts.{Rose}
use Rattle.vx_base.specs.Named.{Word}
use Rattle.vx_header.specs.Named.{Label, header_of}
use Rattle.vx_piece.specs.Seen.{Seen, Keeps}
use Rattle.vx_copies.specs.Lists.{Each, AllOf}
use Rattle.vx_copies.specs.Image.{Offer, offer_of, offer_in, offer_told, names_group, higher}
use Rattle.vx_copies.specs.Disks.{DiskSeen, disk_seen, Drops, CommitGoes, Offers, IsReady, IsBelow, IsNew, IsMember}
use Rattle.vx_copies.specs.Config.{configuration, GivesOldOrNew}
use Rattle.vx_copies.specs.Chain.{Copy, copy_of, AgreeIn, IsGoodMember, IsSound}
use Rattle.vx_copies.proofs.StepLaws.{keeps_trans, drops_trans, rest_trans, each_map}
use Rattle.vx_confdb.specs.Prepare.{Says, label_in, Begins, Prepares, IsPrepared, IsBlank, OffersNone, Tells}
use Rattle.vx_confdb.specs.Groups.{IsMemberOf}
use Rattle.vx_copies.specs.Commit.{CommitEnds, HasRisen}
use Rattle.vx_copies.specs.declared.disk.Disk.{Disk}
use Rattle.vx_copies.specs.declared.writing.Lost.{Lost}
use Rattle.vx_copies.specs.declared.writing.Lost.TheVariants as lost
use Rattle.vx_confdb.specs.Faults.{fault_of}
use Rattle.vx_confdb.specs.Create.{Enters, Joins, GivesNoneOrText, IsBegun, RefusedBy}
use Rattle.vx_confdb.proofs.Labels.{take_whole, same_label}
use Rattle.vx_confdb.proofs.Preparation.{blank_offers, zero_toggle}

none_told : (group : Word) (label : Label) (t u : Option Contents) → Begins label t u → offer_told group t ≡ None → offer_told group u ≡ None
none_told group label None None is none = refl
none_told group label None (Some u) is none = absurd is
none_told group label (Some t) None is none = absurd is
none_told group label (Some t) (Some u) (how, rest) none = elim how [
  | inl same ↦ ap (offer_in group) same ∙ none
  | inr (inl still) ↦ blank_offers group u (zero_toggle u still.1)
  | inr (inr headed) ↦ blank_offers group u (zero_toggle u headed.1)
]

-- what offered nothing still does
pub none_all : (group : Word) (hs bs : List DiskSeen) → Each (Prepares group) hs bs → AllOf (OffersNone group) hs → AllOf (OffersNone group) bs
none_all group [] [] is all = tt
none_all group [] (b ∷ bs) is all = absurd is
none_all group (a ∷ hs) [] is all = absurd is
none_all group (a ∷ hs) (b ∷ bs) is all = (none_told group (label_in group a) a.seen.told b.seen.told is.0.told all.0, none_all group hs bs is.1 all.1)

pub none_below : (group : Word) (n : ℕ) (hs : List DiskSeen) → AllOf (OffersNone group) hs → AllOf (IsBelow group n) hs
none_below group n [] all = tt
none_below group n (h ∷ hs) all = (subst (λ o. MatchOption o (Unit {0}) (λ x. x.sequence ≤ n)) (sym all.0) tt, none_below group n hs all.1)

pub prepared_ready : (group : Word) (hs : List DiskSeen) → AllOf (IsPrepared group) hs → AllOf IsReady hs
prepared_ready group [] all = tt
prepared_ready group (h ∷ hs) all = (all.0.ready, prepared_ready group hs all.1)

pub prepared_headed : (group : Word) (hs : List DiskSeen) → AllOf (IsPrepared group) hs → AllOf (IsMemberOf group) hs
prepared_headed group [] all = tt
prepared_headed group (h ∷ hs) all = (all.0.headed, prepared_headed group hs all.1)

pub none_if : (r : Bool) (o : Option Offer) → o ≡ None → cond r o None ≡ None
none_if true o is = is
none_if false o is = refl

pub none_given : (group : Word) (readable : ℕ → Bool) (hs : List DiskSeen) → AllOf (OffersNone group) hs → configuration group readable hs ≡ None
none_given group readable [] all = refl
none_given group readable (h ∷ hs) all =
    ap (λ o. higher o (configuration group readable hs)) (none_if (readable h.slot) (offer_told group h.seen.told) all.0) ∙ none_given group readable hs all.1

new_text : (f l : ℕ) (text : List ℕ) (o : Option Offer) → IsNew f l text o → (o ≡ None) ⊎ ((x : Offer) × (o ≡ Some x) × (x.text ≡ text))
new_text f l text None is = absurd is
new_text f l text (Some x) is = inr (x, refl, is.2)

pub none_or_text : (group : Word) (f l : ℕ) (text : List ℕ) (hs bs : List DiskSeen) → AllOf (OffersNone group) hs → GivesOldOrNew group f l text hs bs → GivesNoneOrText group text bs
none_or_text group f l text hs bs none gives = λ readable. elim (gives readable) [
  | inl same ↦ inl (same ∙ none_given group readable hs none)
  | inr new ↦ new_text f l text (configuration group readable bs) new
]

pub none_still : (group : Word) (text : List ℕ) (hs : List DiskSeen) → AllOf (OffersNone group) hs → GivesNoneOrText group text hs
none_still group text hs none = λ readable. inl (none_given group readable hs none)

-- disks that joined, and then were written
begins_enters : (label : Label) (text : List ℕ) (t u : Option Contents) → Begins label t u → Enters label text t u
begins_enters label text None None is = tt
begins_enters label text None (Some u) is = absurd is
begins_enters label text (Some t) None is = absurd is
begins_enters label text (Some t) (Some u) (inl same, rest) = (inl same, rest)
begins_enters label text (Some t) (Some u) (inr (inl still), rest) = (inr (inl still), rest)
begins_enters label text (Some t) (Some u) (inr (inr headed), rest) = (inr (inr (headed.0, inl headed.1)), rest)

pub prepares_joins : (group : Word) (text : List ℕ) (a b : DiskSeen) → Prepares group a b → Joins group text a b
prepares_joins group text a b is = record { slot = is.slot; name = is.name; device = is.device; size = is.size; kept = is.kept; good = is.good; told = begins_enters (label_in group a) text a.seen.told b.seen.told is.told }

new_text_of : (f l : ℕ) (text : List ℕ) (o : Option Offer) → IsNew f l text o → MatchOption o ⊥ (λ x. x.text ≡ text)
new_text_of f l text None is = absurd is
new_text_of f l text (Some o) is = is.2

-- a member without a configuration, written
written_enters : (label : Label) (f l : ℕ) (text : List ℕ) (t u v : Option Contents) → Begins label t u → IsBlank u → Says label u → Offers f l text u v → Enters label text t v
written_enters label f l text None None None begins blank says is = tt
written_enters label f l text None None (Some v) begins blank says is = absurd is
written_enters label f l text None (Some u) v begins blank says is = absurd begins
written_enters label f l text (Some t) None v begins blank says is = absurd begins
written_enters label f l text (Some t) (Some u) None begins blank says is = absurd is
written_enters label f l text (Some t) (Some u) (Some v) begins blank says (header, inl same, rest) = (inr (inr (ap header_of header ∙ says, inl (same.0 ∙ blank))), rest_trans t u v begins.1 rest)
written_enters label f l text (Some t) (Some u) (Some v) begins blank says (header, inr new, rest) = (inr (inr (ap header_of header ∙ says, inr (new_text_of f l text (offer_of v) new))), rest_trans t u v begins.1 rest)

pub written_joins : (group : Word) (f l : ℕ) (text : List ℕ) (a b c : DiskSeen) → Prepares group a b → IsPrepared group b → CommitGoes f l text b c → Joins group text a c
written_joins group f l text a b c p prepared q = record {
  slot = q.slot ∙ p.slot;
  name = q.name ∙ p.name;
  device = q.device ∙ p.device;
  size = q.size ∙ p.size;
  kept = keeps_trans _ _ _ p.kept q.kept;
  good = drops_trans a.good b.good c.good a.seen b.seen c.seen p.kept q.kept p.good q.good;
  told = by b.good refl;
}
  where
    by : (g : Bool) → b.good ≡ g → Enters (label_in group a) text a.seen.told c.seen.told
    by true good = written_enters (label_in group a) f l text a.seen.told b.seen.told c.seen.told p.told (prepared.blank good) (subst (λ x. Says x b.seen.told) (same_label group a b p.name p.slot p.size) (prepared.headed good)) q.offers
    by false bad = subst (λ (s : Seen). Enters (label_in group a) text a.seen.told s.told) (sym (q.idle bad)) (begins_enters (label_in group a) text a.seen.told b.seen.told p.told)

pub all_prepare : (group : Word) (text : List ℕ) (hs bs : List DiskSeen) → Each (Prepares group) hs bs → Each (Joins group text) hs bs
all_prepare group text hs bs is = each_map (Prepares group) (Joins group text) (prepares_joins group text) hs bs is

pub all_join : (group : Word) (f l : ℕ) (text : List ℕ) (hs bs cs : List DiskSeen) → Each (Prepares group) hs bs → AllOf (IsPrepared group) bs → Each (CommitGoes f l text) bs cs → Each (Joins group text) hs cs
all_join group f l text [] [] [] p prepared q = tt
all_join group f l text [] [] (c ∷ cs) p prepared q = absurd q
all_join group f l text [] (b ∷ bs) cs p prepared q = absurd p
all_join group f l text (a ∷ hs) [] cs p prepared q = absurd p
all_join group f l text (a ∷ hs) (b ∷ bs) [] p prepared q = absurd q
all_join group f l text (a ∷ hs) (b ∷ bs) (c ∷ cs) p prepared q = (written_joins group f l text a b c p.0 prepared.0 q.0, all_join group f l text hs bs cs p.1 prepared.1 q.1)

-- the count of each that was good has risen
risen_one : (group : Word) (a b c : DiskSeen) → Prepares group a b → Keeps b.seen c.seen → HasRisen b c → HasRisen a c
risen_one group a b c p q rose = λ good. by a.good b.good good p.good rose
  where
    by : (x y : Bool) → IsTrue x → Drops x y a.seen b.seen → (IsTrue y → Rose b.seen.faults c.seen.faults) → Rose a.seen.faults c.seen.faults
    by true true is drops rises = let f = p.kept.faults in let r = rises refl in omega (arith, f, r)
    by true false is drops rises = let f = q.faults in omega (arith, drops, f)
    by false y is drops rises = cc

pub all_rose : (group : Word) (f l : ℕ) (text : List ℕ) (hs bs cs : List DiskSeen) → Each (Prepares group) hs bs → Each (CommitGoes f l text) bs cs → Each HasRisen bs cs → Each HasRisen hs cs
all_rose group f l text [] [] [] p q rose = tt
all_rose group f l text [] [] (c ∷ cs) p q rose = absurd q
all_rose group f l text [] (b ∷ bs) cs p q rose = absurd p
all_rose group f l text (a ∷ hs) [] cs p q rose = absurd p
all_rose group f l text (a ∷ hs) (b ∷ bs) [] p q rose = absurd q
all_rose group f l text (a ∷ hs) (b ∷ bs) (c ∷ cs) p q rose = (risen_one group a b c p.0 q.0.kept rose.0, all_rose group f l text hs bs cs p.1 q.1 rose.1)

-- a group that offers nothing is sound
pub tells_still : (label : Label) (t u : Option Contents) → Begins label t u → MatchOption t ⊥ (λ c. Unit {0}) → MatchOption u ⊥ (λ c. Unit {0})
tells_still label None u begins tells = absurd tells
tells_still label (Some t) None begins tells = absurd begins
tells_still label (Some t) (Some u) begins tells = tt

pub tell_all : (group : Word) (hs bs : List DiskSeen) → Each (Prepares group) hs bs → AllOf Tells hs → AllOf Tells bs
tell_all group [] [] is all = tt
tell_all group [] (b ∷ bs) is all = absurd is
tell_all group (a ∷ hs) [] is all = absurd is
tell_all group (a ∷ hs) (b ∷ bs) is all = (tells_still (label_in group a) a.seen.told b.seen.told is.0.told all.0, tell_all group hs bs is.1 all.1)

pub member_one : (group : Word) (label : Label) (t : Option Contents) → label.group ≡ group → MatchOption t ⊥ (λ c. Unit {0}) → Says label t → IsMember group t
member_one group label None same tells is = absurd tells
member_one group label (Some c) same tells is = ap (names_group group) is ∙ (bytes_eq-Decides label.group group).1 same

pub members_of : (group : Word) (hs : List DiskSeen) → AllOf Tells hs → AllOf (IsMemberOf group) hs → AllOf (IsGoodMember group) hs
members_of group [] tells all = tt
members_of group (h ∷ hs) tells all = (λ good. member_one group (label_in group h) h.seen.told refl tells.0 (all.0 good), members_of group hs tells.1 all.1)

none_of : (Q : Offer → Type 0) (c : Copy) → c.offer ≡ None → MatchOption c.offer (Unit {0}) Q
none_of Q c is = subst (λ o. MatchOption o (Unit {0}) Q) (sym is) tt

all_none : (Q : Offer → Type 0) (cs : List Copy) → AllOf (λ c. c.offer ≡ None) cs → AllOf (λ c. MatchOption c.offer (Unit {0}) Q) cs
all_none Q [] all = tt
all_none Q (c ∷ cs) all = (none_of Q c all.0, all_none Q cs all.1)

copies_none : (group : Word) (os : List Copy) (hs : List DiskSeen) → AllOf (λ c. c.offer ≡ None) os → AllOf (OffersNone group) hs → AllOf (λ c. c.offer ≡ None) (os ++ map (copy_of group) hs)
copies_none group [] [] others all = tt
copies_none group [] (h ∷ hs) others all = (all.0, copies_none group [] hs others all.1)
copies_none group (o ∷ os) hs others all = (others.0, copies_none group os hs others.1 all)

agree_none : (cs ds : List Copy) → AllOf (λ c. c.offer ≡ None) cs → AllOf (λ c. AllOf (λ d. AgreeIn c.offer d.offer) ds) cs
agree_none [] ds all = tt
agree_none (c ∷ cs) ds all = (subst (λ o. AllOf (λ d. AgreeIn o d.offer) ds) (sym all.0) (nothing ds), agree_none cs ds all.1)
  where
    nothing : (es : List Copy) → AllOf (λ d. AgreeIn None d.offer) es
    nothing [] = tt
    nothing (e ∷ es) = (tt, nothing es)

pub sound_none : (group : Word) (missing : ℕ) (os : List Copy) (n k : ℕ) (hs : List DiskSeen) → AllOf (λ c. c.offer ≡ None) os → AllOf (OffersNone group) hs → AllOf Tells hs → AllOf (IsMemberOf group) hs → IsSound group missing os n k hs
sound_none group missing os n k hs others none tells headed =
    let all = copies_none group os hs others none in
    record { members = members_of group hs tells headed; chained = all_none _ _ all; agree = agree_none _ _ all; newest = all_none _ _ all; up_to = all_none _ _ all }

-- the answer of a lost commit
pub refused_by : {P : Type 0} (see : P → Seen) (r : Result (Unit {0}) Lost) (l : Lost) (n k : ℕ) (name : Word) (text : List ℕ) (old mid new : List (Disk P)) → r ≡ Err l
    → length (map (disk_seen see) mid) ≤ n → length (map (disk_seen see) new) ≤ n
    → IsBegun name text (map (disk_seen see) old) (map (disk_seen see) new) → Each (Prepares name) (map (disk_seen see) old) (map (disk_seen see) mid) → Each (CommitGoes 1 k text) (map (disk_seen see) mid) (map (disk_seen see) new)
    → CommitEnds r n k text (map (disk_seen see) mid) (map (disk_seen see) new) → RefusedBy see (fault_of l) name text old new
refused_by see (Ok u) l n k name text old mid new is few few' begun prepares goes ends = cc
refused_by see (Err lost.GroupLost) lost.GroupLost n k name text old mid new is few few' begun prepares goes ends =
    (begun, all_rose name 1 k text _ _ _ prepares goes (subst (λ xs. Each HasRisen xs (map (disk_seen see) new)) (take_whole n (map (disk_seen see) mid) few) (subst (Each HasRisen (take n (map (disk_seen see) mid))) (take_whole n (map (disk_seen see) new) few') ends)))
refused_by see (Err lost.PowerLost) lost.PowerLost n k name text old mid new is few few' begun prepares goes ends = (begun, ends)
refused_by see (Err lost.GroupLost) lost.PowerLost n k name text old mid new is few few' begun prepares goes ends = cc
refused_by see (Err lost.PowerLost) lost.GroupLost n k name text old mid new is few few' begun prepares goes ends = cc
