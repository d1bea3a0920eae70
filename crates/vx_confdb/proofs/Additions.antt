-- A disk that offers nothing stands behind the others.
use Rattle.std.proofs.Common.{◌≡◌, ◌⊎◌, ℕ, zero, suc, ◌+◌, ◌≤◌, Bool, cond, List, [], ◌∷◌, ◌++◌, length, map, take, drop, Option, Some, None, Result, Ok, Err, refl, sym, ap, ◌∙◌, subst, inl, inr}
use Rattle.std.specs.Prelude.{MatchOption}
use Rattle.std.proofs.lemmas.List.{length-append, length-map}
use Rattle.vx_base.specs.Named.{Word}
use Rattle.vx_piece.specs.Seen.{Seen}
use Rattle.vx_copies.specs.Lists.{Each, AllOf, AnyOf}
use Rattle.vx_copies.specs.Image.{Offer, offer_told, higher}
use Rattle.vx_copies.specs.Disks.{DiskSeen, disk_seen, HasSlot, CommitGoes, IsReady, IsBelow, IsCut}
use Rattle.vx_copies.specs.Config.{configuration, GivesOldOrNew}
use Rattle.vx_copies.specs.Chain.{Copy, copy_of, AreInOrder, AllUpTo, NamesNewer, NamesMissing, IsChained, AgreeIn, AllAgree, NamesGood, IsGoodMember, IsLed, IsSound}
use Rattle.vx_copies.specs.declared.disk.Disk.{Disk}
use Rattle.vx_copies.specs.Commit.{HasRisen}
use Rattle.vx_confdb.specs.Add.{IsTaken, IsJoined, AddGives}
use Rattle.vx_confdb.specs.Create.{Joins}
use Rattle.vx_confdb.specs.Groups.{members, IsMemberOf, IsAlive, IsGroup, WrittenBy}
use Rattle.vx_confdb.specs.Prepare.{Prepares, PrepareEnds, IsPrepared, OffersNone, Tells, label_in}
use Rattle.vx_confdb.specs.declared.fault.GroupFault.{GroupFault}
use Rattle.vx_confdb.specs.declared.fault.GroupFault.TheVariants as fault
use Rattle.vx_confdb.specs.declared.group.Group.{Group}
use Rattle.vx_confdb.specs.declared.joining.Prepared.{Prepared}
use Rattle.vx_confdb.specs.declared.joining.Prepared.TheVariants.{Done, Cut}
use Rattle.vx_confdb.proofs.Labels.{same_length, ready_slots}
use Rattle.vx_confdb.proofs.NoOffers.{prepares_joins, written_joins, none_if, none_below, tells_still, member_one}

pub all_last : {X : Type 0} (Q : X → Type 0) (xs : List X) (x : X) → AllOf Q xs → Q x → AllOf Q (xs ++ x ∷ [])
all_last Q [] x all is = (is, tt)
all_last Q (y ∷ ys) x all is = (all.0, all_last Q ys x all.1 is)

pub any_last : {X : Type 0} (Q : X → Type 0) (xs : List X) (x : X) → Q x → AnyOf Q (xs ++ x ∷ [])
any_last Q [] x is = inl is
any_last Q (y ∷ ys) x is = inr (any_last Q ys x is)

pub each_last : {X : Type 0} (R : X → X → Type 0) (xs ys : List X) (x y : X) → Each R xs ys → R x y → Each R (xs ++ x ∷ []) (ys ++ y ∷ [])
each_last R [] [] x y all is = (is, tt)
each_last R [] (b ∷ bs) x y all is = absurd all
each_last R (a ∷ hs) [] x y all is = absurd all
each_last R (a ∷ hs) (b ∷ bs) x y all is = (all.0, each_last R hs bs x y all.1 is)

pub map_last : {X Y : Type 0} (f : X → Y) (xs : List X) (x : X) → map f (xs ++ x ∷ []) ≡ map f xs ++ f x ∷ []
map_last f [] x = refl
map_last f (y ∷ ys) x = ap (λ zs. f y ∷ zs) (map_last f ys x)

pub mid_members : {P : Type 0} (see : P → Seen) (xs ys zs : List (Disk P)) (d : Disk P) → ys ≡ xs → zs ≡ ys ++ d ∷ [] → map (disk_seen see) zs ≡ map (disk_seen see) xs ++ disk_seen see d ∷ []
mid_members see xs ys zs d e f = ap (map (disk_seen see)) f ∙ map_last (disk_seen see) ys d ∙ ap (λ ws. map (disk_seen see) ws ++ disk_seen see d ∷ []) e

take_first : {X : Type 0} (xs ys : List X) → take (length xs) (xs ++ ys) ≡ xs
take_first [] ys = refl
take_first (x ∷ xs) ys = ap (λ zs. x ∷ zs) (take_first xs ys)

pub first_of : {X : Type 0} (n : ℕ) (xs ys : List X) → n ≡ length xs → take n (xs ++ ys) ≡ xs
first_of n xs ys e = ap (λ k. take k (xs ++ ys)) e ∙ take_first xs ys

-- it changes no configuration
pub same_configuration : (group : Word) (readable : ℕ → Bool) (hs : List DiskSeen) (h : DiskSeen) → OffersNone group h → configuration group readable (hs ++ h ∷ []) ≡ configuration group readable hs
same_configuration group readable [] h none = ap (λ o. higher o None) (none_if (readable h.slot) (offer_told group h.seen.told) none)
same_configuration group readable (a ∷ hs) h none = ap (higher (cond (readable a.slot) (offer_told group a.seen.told) None)) (same_configuration group readable hs h none)

-- the disks that were there, and the one that joined
pub take_each : {X : Type 0} (R : X → X → Type 0) (n : ℕ) (xs ys : List X) → Each R xs ys → Each R (take n xs) (take n ys)
take_each R zero xs ys is = tt
take_each R (suc n) [] [] is = tt
take_each R (suc n) [] (y ∷ ys) is = absurd is
take_each R (suc n) (x ∷ xs) [] is = absurd is
take_each R (suc n) (x ∷ xs) (y ∷ ys) is = (is.0, take_each R n xs ys is.1)

pub drop_each : {X : Type 0} (R : X → X → Type 0) (n : ℕ) (xs ys : List X) → Each R xs ys → Each R (drop n xs) (drop n ys)
drop_each R zero xs ys is = is
drop_each R (suc n) [] [] is = tt
drop_each R (suc n) [] (y ∷ ys) is = absurd is
drop_each R (suc n) (x ∷ xs) [] is = absurd is
drop_each R (suc n) (x ∷ xs) (y ∷ ys) is = drop_each R n xs ys is.1

pub drop_first : {X : Type 0} (xs ys : List X) → drop (length xs) (xs ++ ys) ≡ ys
drop_first [] ys = refl
drop_first (x ∷ xs) ys = drop_first xs ys

pub old_go : (n f l : ℕ) (text : List ℕ) (hs ms new : List DiskSeen) (h : DiskSeen) → n ≡ length hs → ms ≡ hs ++ h ∷ [] → Each (CommitGoes f l text) ms new → Each (CommitGoes f l text) hs (take n new)
old_go n f l text hs ms new h long is goes = subst (λ xs. Each (CommitGoes f l text) xs (take n new)) (ap (take n) is ∙ first_of n hs (h ∷ []) long) (take_each (CommitGoes f l text) n ms new goes)

-- the new disk, as it was written or not
last_goes : (R : DiskSeen → DiskSeen → Type 0) (n : ℕ) (hs ms new : List DiskSeen) (h : DiskSeen) → n ≡ length hs → ms ≡ hs ++ h ∷ [] → Each R ms new → Each R (h ∷ []) (drop n new)
last_goes R n hs ms new h long is goes = subst (λ xs. Each R xs (drop n new)) (ap (drop n) is ∙ ap (λ k. drop k (hs ++ h ∷ [])) long ∙ drop_first hs (h ∷ [])) (drop_each R n ms new goes)

pub new_joins : (r : Prepared) (group : Word) (n f l : ℕ) (text : List ℕ) (hs ms new : List DiskSeen) (h h' : DiskSeen) → n ≡ length hs → ms ≡ hs ++ h' ∷ [] → Prepares group h h' → PrepareEnds r group h' → (r ≡ Cut → new ≡ ms)
    → Each (CommitGoes f l text) ms new → Each (Joins group text) (h ∷ []) (drop n new)
new_joins Done group n f l text hs ms new h h' long is prepares ends stays goes =
    by (drop n new) (last_goes (CommitGoes f l text) n hs ms new h' long is goes)
  where
    by : (xs : List DiskSeen) → Each (CommitGoes f l text) (h' ∷ []) xs → Each (Joins group text) (h ∷ []) xs
    by [] all = absurd all
    by (x ∷ []) all = (written_joins group f l text h h' x prepares ends all.0, tt)
    by (x ∷ (y ∷ ys)) all = absurd all.1
new_joins Cut group n f l text hs ms new h h' long is prepares ends stays goes =
    let same : drop n new ≡ h' ∷ [] = ap (drop n) (stays refl ∙ is) ∙ ap (λ k. drop k (hs ++ h' ∷ [])) long ∙ drop_first hs (h' ∷ []) in
    subst (Each (Joins group text) (h ∷ [])) (sym same) (prepares_joins group text h h' prepares, tt)

-- the chain with a copy more that offers nothing
module _ (x : Copy) (none : x.offer ≡ None) where
  none_of : (Q : Offer → Type 0) → MatchOption x.offer (Unit {0}) Q
  none_of Q = subst (λ o. MatchOption o (Unit {0}) Q) (sym none) tt

  up_to_last : (n : ℕ) (cs : List Copy) → AllUpTo n cs → AllUpTo n (cs ++ x ∷ [])
  up_to_last n cs all = all_last _ cs x all (none_of _)

  up_to_first : (n : ℕ) (cs : List Copy) → AllUpTo n (cs ++ x ∷ []) → AllUpTo n cs
  up_to_first n [] all = tt
  up_to_first n (c ∷ cs) all = (all.0, up_to_first n cs all.1)

  newer_last : (o : Offer) (cs : List Copy) → NamesNewer o cs → NamesNewer o (cs ++ x ∷ [])
  newer_last o [] newer = absurd newer
  newer_last o (c ∷ cs) (inl is) = inl is
  newer_last o (c ∷ cs) (inr is) = inr (newer_last o cs is)

  linked : (missing : ℕ) (cs : List Copy) (c : Option Offer) → MatchOption c (Unit {0}) (λ o. AllUpTo o.sequence cs ⊎ (NamesNewer o cs ⊎ NamesMissing missing o)) → MatchOption c (Unit {0}) (λ o. AllUpTo o.sequence (cs ++ x ∷ []) ⊎ (NamesNewer o (cs ++ x ∷ []) ⊎ NamesMissing missing o))
  linked missing cs None is = tt
  linked missing cs (Some o) (inl top) = inl (up_to_last o.sequence cs top)
  linked missing cs (Some o) (inr (inl newer)) = inr (inl (newer_last o cs newer))
  linked missing cs (Some o) (inr (inr gone)) = inr (inr gone)

  all_map : (Q R : Copy → Type 0) → ((c : Copy) → Q c → R c) → (cs : List Copy) → AllOf Q cs → AllOf R cs
  all_map Q R f [] all = tt
  all_map Q R f (c ∷ cs) all = (f c all.0, all_map Q R f cs all.1)

  pub chained_last : (missing : ℕ) (cs : List Copy) → IsChained missing cs → IsChained missing (cs ++ x ∷ [])
  chained_last missing cs chained = all_last _ cs x (all_map _ _ (λ c. linked missing cs c.offer) cs chained) (none_of _)

  agree_with : (o : Option Offer) → AgreeIn o x.offer
  agree_with None = tt
  agree_with (Some o) = subst (AgreeIn (Some o)) (sym none) tt

  with_all : (cs : List Copy) → AllOf (λ d. AgreeIn x.offer d.offer) cs
  with_all cs = subst (λ o. AllOf (λ d. AgreeIn o d.offer) cs) (sym none) (nothing cs)
    where
      nothing : (ds : List Copy) → AllOf (λ d. AgreeIn None d.offer) ds
      nothing [] = tt
      nothing (d ∷ ds) = (tt, nothing ds)

  pub agree_last : (cs : List Copy) → AllAgree cs → AllAgree (cs ++ x ∷ [])
  agree_last cs all = all_last _ cs x (all_map _ _ (λ c is. all_last _ cs x is (agree_with c.offer)) cs all) (with_all (cs ++ x ∷ []))

  newest_by : (cs : List Copy) (hs : List DiskSeen) (c : Option Offer) → MatchOption c (Unit {0}) (λ o. AllUpTo o.sequence cs → NamesGood o hs) → MatchOption c (Unit {0}) (λ o. AllUpTo o.sequence (cs ++ x ∷ []) → NamesGood o hs)
  newest_by cs hs None is = tt
  newest_by cs hs (Some o) is = λ top. is (up_to_first o.sequence cs top)

  pub newest_last : (cs : List Copy) (hs : List DiskSeen) → AllOf (λ c. MatchOption c.offer (Unit {0}) (λ o. AllUpTo o.sequence cs → NamesGood o hs)) cs → AllOf (λ c. MatchOption c.offer (Unit {0}) (λ o. AllUpTo o.sequence (cs ++ x ∷ []) → NamesGood o hs)) (cs ++ x ∷ [])
  newest_last cs hs all = all_last _ cs x (all_map _ _ (λ c. newest_by cs hs c.offer) cs all) (none_of _)

append_last : {X : Type 0} (os cs : List X) (c : X) → os ++ (cs ++ c ∷ []) ≡ (os ++ cs) ++ c ∷ []
append_last [] cs c = refl
append_last (o ∷ os) cs c = ap (λ xs. o ∷ xs) (append_last os cs c)

copies_last : (group : Word) (os : List Copy) (hs : List DiskSeen) (h : DiskSeen) → os ++ map (copy_of group) (hs ++ h ∷ []) ≡ (os ++ map (copy_of group) hs) ++ copy_of group h ∷ []
copies_last group os hs h = ap (λ cs. os ++ cs) (map_last (copy_of group) hs h) ∙ append_last os (map (copy_of group) hs) (copy_of group h)

pub chain_with : (group : Word) (missing : ℕ) (os : List Copy) (last n : ℕ) (hs : List DiskSeen) (h : DiskSeen) → OffersNone group h → IsSound group missing os last n hs → IsChained missing (os ++ map (copy_of group) (hs ++ h ∷ []))
chain_with group missing os last n hs h none sound = subst (IsChained missing) (sym (copies_last group os hs h)) (chained_last (copy_of group h) none missing (os ++ map (copy_of group) hs) sound.chained)

pub sound_with : (group : Word) (missing : ℕ) (os : List Copy) (last n : ℕ) (hs : List DiskSeen) (h : DiskSeen) → n ≡ length hs → OffersNone group h → IsGoodMember group h → IsSound group missing os last n hs → IsSound group missing os last n (hs ++ h ∷ [])
sound_with group missing os last n hs h long none member sound =
    let same = sym (copies_last group os hs h) in
    let whole : take n hs ≡ take n (hs ++ h ∷ []) = first_whole ∙ sym (first_of n hs (h ∷ []) long) in
    record {
      members = all_last _ hs h sound.members member;
      chained = chain_with group missing os last n hs h none sound;
      agree = subst AllAgree same (agree_last (copy_of group h) none (os ++ map (copy_of group) hs) sound.agree);
      newest = subst (λ xs. AllOf (λ c. MatchOption c.offer (Unit {0}) (λ o. AllUpTo o.sequence (os ++ map (copy_of group) (hs ++ h ∷ [])) → NamesGood o xs)) (os ++ map (copy_of group) (hs ++ h ∷ []))) whole
          (subst (λ cs. AllOf (λ c. MatchOption c.offer (Unit {0}) (λ o. AllUpTo o.sequence cs → NamesGood o (take n hs))) cs) same (newest_last (copy_of group h) none (os ++ map (copy_of group) hs) (take n hs) sound.newest));
      up_to = subst (AllUpTo last) same (up_to_last (copy_of group h) none last (os ++ map (copy_of group) hs) sound.up_to);
    }
  where
    first_whole : take n hs ≡ hs
    first_whole = ap (λ k. take k hs) long ∙ take_own hs
      where
        take_own : (xs : List DiskSeen) → take (length xs) xs ≡ xs
        take_own [] = refl
        take_own (y ∷ ys) = ap (λ zs. y ∷ zs) (take_own ys)

-- one disk more has joined
pub joined_is : {P : Type 0} (see : P → Seen) (r : Prepared) (mid : Group P) (hs : List DiskSeen) (h : DiskSeen) → members see mid ≡ hs ++ h ∷ [] → length mid.disks.items ≤ 32
    → AllOf IsReady hs → AllOf (IsMemberOf mid.name) hs → AllOf (IsBelow mid.name mid.sequence) hs → OffersNone mid.name h → HasSlot h → PrepareEnds r mid.name h → IsJoined see r mid
joined_is see Done mid hs h is few ready headed below none slot ends = record {
  ready = subst (AllOf IsReady) (sym is) (all_last IsReady hs h ready ends.ready);
  headed = subst (AllOf (IsMemberOf mid.name)) (sym is) (all_last (IsMemberOf mid.name) hs h headed ends.headed);
  below = subst (AllOf (IsBelow mid.name mid.sequence)) (sym is) (all_last (IsBelow mid.name mid.sequence) hs h below (none_below mid.name mid.sequence (h ∷ []) (none, tt)).0);
  few = few;
}
joined_is see Cut mid hs h is few ready headed below none slot ends = (
  subst (AllOf HasSlot) (sym is) (all_last HasSlot hs h (ready_slots hs ready) slot),
  subst (AllOf (IsBelow mid.name mid.sequence)) (sym is) (all_last (IsBelow mid.name mid.sequence) hs h below (none_below mid.name mid.sequence (h ∷ []) (none, tt)).0),
  subst (AnyOf IsCut) (sym is) (any_last IsCut hs h ends),
)

-- the disk as it joined
pub member_by : (group : Word) (h h' : DiskSeen) → Prepares group h h' → Tells h → IsPrepared group h' → IsGoodMember group h'
member_by group h h' prepares tells prepared = λ good. member_one group (label_in group h') h'.seen.told refl (tells_still (label_in group h) h.seen.told h'.seen.told prepares.told tells) (prepared.headed good)

pub chain_by : (r : Prepared) (group : Word) (missing : ℕ) (os : List Copy) (last later n : ℕ) (hs ms new : List DiskSeen) (h h' : DiskSeen) → ms ≡ hs ++ h' ∷ [] → n ≡ length hs → Prepares group h h' → OffersNone group h' → PrepareEnds r group h'
    → (r ≡ Cut → new ≡ ms) → (IsSound group missing os last n ms → IsSound group missing os later n new) → Tells h → IsSound group missing os last n hs → IsChained missing (os ++ map (copy_of group) new)
chain_by Done group missing os last later n hs ms new h h' is long prepares none ends stays goes tells sound =
    (goes (subst (IsSound group missing os last n) (sym is) (sound_with group missing os last n hs h' long none (member_by group h h' prepares tells ends) sound))).chained
chain_by Cut group missing os last later n hs ms new h h' is long prepares none ends stays goes tells sound =
    subst (λ xs. IsChained missing (os ++ map (copy_of group) xs)) (sym (stays refl ∙ is)) (chain_with group missing os last n hs h' none sound)

pub whole_by : (r : Prepared) (group : Word) (missing : ℕ) (os : List Copy) (last later n k : ℕ) (hs ms new : List DiskSeen) (h h' : DiskSeen) → ms ≡ hs ++ h' ∷ [] → n ≡ length hs → Prepares group h h' → OffersNone group h' → PrepareEnds r group h'
    → (r ≡ Cut → ⊥) → (IsSound group missing os last n ms → IsSound group missing os later k new) → Tells h → IsSound group missing os last n hs → IsSound group missing os later k new
whole_by Done group missing os last later n k hs ms new h h' is long prepares none ends not goes tells sound =
    goes (subst (IsSound group missing os last n) (sym is) (sound_with group missing os last n hs h' long none (member_by group h h' prepares tells ends) sound))
whole_by Cut group missing os last later n k hs ms new h h' is long prepares none ends not goes tells sound = absurd (not refl)

pub taken_is : {P : Type 0} (see : P → Seen) (r : Prepared) (text : List ℕ) (disk d : Disk P) (old new : Group P) (ms : List DiskSeen) → ms ≡ members see old ++ disk_seen see d ∷ [] → Prepares old.name (disk_seen see disk) (disk_seen see d) → OffersNone old.name (disk_seen see d)
    → PrepareEnds r old.name (disk_seen see d) → (r ≡ Cut → members see new ≡ ms)
    → new.name ≡ old.name → Each (CommitGoes (old.sequence + 1) new.sequence text) ms (members see new) → GivesOldOrNew old.name (old.sequence + 1) new.sequence text ms (members see new) → AreInOrder old.name old.sequence (members see new)
    → (n : ℕ) → n ≡ length old.disks.items → (AllOf Tells (take n ms) → IsLed old.name old.sequence n (members see new)) → new.sequence ≤ old.sequence + 32
    → ((missing : ℕ) (os : List Copy) → Tells (disk_seen see disk) → IsSound old.name missing os old.sequence (length old.disks.items) (members see old) → IsChained missing (os ++ map (copy_of old.name) (members see new))) → IsTaken see text disk old new
taken_is see r text disk d old new ms is prepares none ends stays name goes gives order n size lead few chain =
    let long : length old.disks.items ≡ length (members see old) = sym (length-map old.disks.items (disk_seen see)) in
    let led : AllOf Tells (take (length old.disks.items) ms) → IsLed old.name old.sequence (length old.disks.items) (members see new) = subst (λ k. AllOf Tells (take k ms) → IsLed old.name old.sequence k (members see new)) size lead in
    record {
      name = name;
      goes = old_go (length old.disks.items) (old.sequence + 1) new.sequence text (members see old) ms (members see new) (disk_seen see d) long is goes;
      joins = new_joins r old.name (length old.disks.items) (old.sequence + 1) new.sequence text (members see old) ms (members see new) (disk_seen see disk) (disk_seen see d) long is prepares ends stays goes;
      old_or_new = λ readable. elim (gives readable) [
        | inl same ↦ inl (same ∙ ap (configuration old.name readable) is ∙ same_configuration old.name readable (members see old) (disk_seen see d) none)
        | inr new_is ↦ inr new_is
      ];
      order = order;
      lead = λ tells. led (subst (AllOf Tells) (sym (ap (take (length old.disks.items)) is ∙ first_of (length old.disks.items) (members see old) (disk_seen see d ∷ []) long)) tells);
      few = few;
      chained = chain;
    }

pub lost_taken : {P : Type 0} (see : P → Seen) (f : GroupFault) (n : ℕ) (text : List ℕ) (disk d : Disk P) (old mid new : Group P) → members see mid ≡ members see old ++ disk_seen see d ∷ [] → n ≡ length (members see old) → n ≡ length old.disks.items
    → IsTaken see text disk old new → WrittenBy see (Err f) n text mid new → AddGives see (Err (f, None)) text disk old new
lost_taken see fault.OutOfMemory n text disk d old mid new is long size taken ends = absurd ends
lost_taken see (fault.TooLong k) n text disk d old mid new is long size taken ends = absurd ends
lost_taken see fault.GroupLost n text disk d old mid new is long size taken ends =
    inr (refl, (taken, ends.0, subst (λ k. Each HasRisen (members see old) (take k (members see new))) size (subst (λ xs. Each HasRisen xs (take n (members see new))) (ap (take n) is ∙ first_of n (members see old) (disk_seen see d ∷ []) long) ends.1)))
lost_taken see fault.PowerLost n text disk d old mid new is long size taken ends = inr (refl, (taken, ends.0, ends.1))

pub one_longer : {X : Type 0} (xs ys zs : List X) (x : X) → ys ≡ xs → zs ≡ ys ++ x ∷ [] → length zs ≡ length xs + 1
one_longer xs ys zs x e f = ap (λ ws. length ws) f ∙ length-append ys (x ∷ []) ∙ ap (λ ws. length ws + 1) e

pub alive_by : {P : Type 0} (see : P → Seen) (g : Group P) → g.lost ≡ None → IsGroup see g → IsAlive see g
alive_by see g e is = subst (λ l. MatchOption l (IsAlive see g) (λ x. AllOf HasSlot (members see g))) e is

pub ok_not_err : {T E : Type 0} (r : Result T E) (u : T) (e : E) → r ≡ Ok u → r ≡ Err e → ⊥
ok_not_err (Ok v) u e is not = cc
ok_not_err (Err f) u e is not = cc

pub held_length : {P : Type 0} (see : P → Seen) (R : DiskSeen → DiskSeen → Type 0) (xs ys : List (Disk P)) → Each R (map (disk_seen see) xs) (map (disk_seen see) ys) → length ys ≡ length xs
held_length see R xs ys is = sym (length-map ys (disk_seen see)) ∙ same_length R (map (disk_seen see) xs) (map (disk_seen see) ys) is ∙ length-map xs (disk_seen see)
