-- Lists of disks of which the fronts were called, with their whole devices.
use Rattle.std.proofs.Common.{◌≡◌, ◌∙◌, ◌⊎◌, inl, inr, ℕ, zero, suc, ◌+◌, ◌≤◌, ◌<◌, ◌==◌, Bool, false, cond, ◌||◌, ◌&&◌, List, [], ◌∷◌, map, take, Option, Some, None, refl, sym, ap, subst, arith}
use Rattle.std.specs.Prelude.{MatchOption, IsTrue}
use Rattle.vx_base.specs.Counts.{Rose}
use Rattle.vx_base.specs.Named.{Word}
use Rattle.vx_mask.specs.Mask.{has, union, only}
use Rattle.vx_copies.specs.Image.{Offer, offer_told, highest}
use Rattle.vx_copies.specs.Lists.{Each, AllOf, AnyOf}
use Rattle.vx_copies.specs.Disks.{DiskSeen, IsCut, IsReady, IsBelow, IsOffer, IsNew, CommitGoes, good_mask, good_count, is_good_slot}
use Rattle.vx_copies.specs.Config.{offers_of, configuration, GivesOldOrNew, GivesNew, IsReadableGood, HasGoodMask}
use Rattle.vx_copies.specs.Chain.{OffersSince, IsInOrder, AreInOrder, IsLed}
use Rattle.vx_copies.specs.Commit.{AllOffer, HasRisen}
use Rattle.vx_copies.specs.Written.{Recorded, Touches, IsMaskOf, IsQuiet, CarriesIfGood, IsDone, WritesJust}
use Rattle.vx_confdb.specs.Prepare.{label_in}
use Rattle.vx_confdb.specs.Groups.{IsMemberOf}
use Rattle.vx_fronts.specs.Fronts.{Rest, Rests, with_device, whole_disk, HasPrivate}
use Rattle.vx_fronts.specs.Laws.{EachCommitIsWhole, EachTextIsCarriedWhole, EachWriteIsWhole, EachFailureIsWhole, EachCutIsWhole, EachConfigurationIsWhole, EachMaskIsWhole, EachLeadIsWhole}
use Rattle.vx_fronts.proofs.Disks.{same_good, same_slot, same_offer, goes_one, touches_one, quiet_one, rose_one, risen_one, writes_one, cut_one, ready_one, says_one, offer_one, carries_one, member_back}

module _ (rests : Rests) where
  abbrev w : DiskSeen → DiskSeen
  w = whole_disk rests

  -- what holds of each pair with one rest holds of each pair with its device
  pub each_whole : (R T S : DiskSeen → DiskSeen → Type 0) → ((a b : DiskSeen) → R a b → b.seen.device ≡ a.seen.device) → ((o : Option Rest) (a b : DiskSeen) → HasPrivate a → R a b → T a b → S (with_device o a) (with_device o b))
      → (hs bs : List DiskSeen) → AllOf HasPrivate hs → Each R hs bs → Each T hs bs → Each S (map w hs) (map w bs)
  each_whole R T S same f [] [] wide r t = tt
  each_whole R T S same f [] (b ∷ bs) wide r t = absurd r
  each_whole R T S same f (a ∷ hs) [] wide r t = absurd r
  each_whole R T S same f (a ∷ hs) (b ∷ bs) wide r t =
      (subst (λ d. S (w a) (with_device (rests d) b)) (sym (same a b r.0)) (f (rests a.seen.device) a b wide.0 r.0 t.0), each_whole R T S same f hs bs wide.1 r.1 t.1)

  -- the other way
  pub each_front : (R S T : DiskSeen → DiskSeen → Type 0) → ((a b : DiskSeen) → R a b → b.seen.device ≡ a.seen.device) → ((o : Option Rest) (a b : DiskSeen) → S (with_device o a) (with_device o b) → T a b)
      → (hs bs : List DiskSeen) → Each R hs bs → Each S (map w hs) (map w bs) → Each T hs bs
  each_front R S T same f [] [] r s = tt
  each_front R S T same f [] (b ∷ bs) r s = absurd r
  each_front R S T same f (a ∷ hs) [] r s = absurd r
  each_front R S T same f (a ∷ hs) (b ∷ bs) r s = (f (rests a.seen.device) a b (subst (λ d. S (w a) (with_device (rests d) b)) (same a b r.0) s.0), each_front R S T same f hs bs r.1 s.1)

  pub all_whole : (Q R : DiskSeen → Type 0) → ((o : Option Rest) (h : DiskSeen) → HasPrivate h → Q h → R (with_device o h)) → (hs : List DiskSeen) → AllOf HasPrivate hs → AllOf Q hs → AllOf R (map w hs)
  all_whole Q R f [] wide q = tt
  all_whole Q R f (h ∷ hs) wide q = (f (rests h.seen.device) h wide.0 q.0, all_whole Q R f hs wide.1 q.1)

  pub any_whole : (Q R : DiskSeen → Type 0) → ((o : Option Rest) (h : DiskSeen) → Q h → R (with_device o h)) → (hs : List DiskSeen) → AnyOf Q hs → AnyOf R (map w hs)
  any_whole Q R f [] q = absurd q
  any_whole Q R f (h ∷ hs) (inl q) = inl (f (rests h.seen.device) h q)
  any_whole Q R f (h ∷ hs) (inr q) = inr (any_whole Q R f hs q)

  pub any_front : (Q R : DiskSeen → Type 0) → ((o : Option Rest) (h : DiskSeen) → HasPrivate h → R (with_device o h) → Q h) → (hs : List DiskSeen) → AllOf HasPrivate hs → AnyOf R (map w hs) → AnyOf Q hs
  any_front Q R f [] wide q = absurd q
  any_front Q R f (h ∷ hs) wide (inl q) = inl (f (rests h.seen.device) h wide.0 q)
  any_front Q R f (h ∷ hs) wide (inr q) = inr (any_front Q R f hs wide.1 q)

  -- ---- slots, masks and offers

  pub same_mask : (hs : List DiskSeen) → good_mask (map w hs) ≡ good_mask hs
  same_mask [] = refl
  same_mask (h ∷ hs) =
      ap (λ g. cond g (union (good_mask (map w hs)) (only (w h).slot)) (good_mask (map w hs))) (same_good (rests h.seen.device) h)
      ∙ ap (λ s. cond h.good (union (good_mask (map w hs)) (only s)) (good_mask (map w hs))) (same_slot (rests h.seen.device) h)
      ∙ ap (λ m. cond h.good (union m (only h.slot)) m) (same_mask hs)

  pub same_slots : (slot : ℕ) (hs : List DiskSeen) → is_good_slot slot (map w hs) ≡ is_good_slot slot hs
  same_slots slot [] = refl
  same_slots slot (h ∷ hs) =
      ap (λ g. (g && (w h).slot == slot) || is_good_slot slot (map w hs)) (same_good (rests h.seen.device) h)
      ∙ ap (λ s. (h.good && s == slot) || is_good_slot slot (map w hs)) (same_slot (rests h.seen.device) h)
      ∙ ap (λ x. (h.good && h.slot == slot) || x) (same_slots slot hs)

  same_count : (hs : List DiskSeen) → good_count (map w hs) ≡ good_count hs
  same_count [] = refl
  same_count (h ∷ hs) = ap (λ g. cond g 1 0 + good_count (map w hs)) (same_good (rests h.seen.device) h) ∙ ap (λ n. cond h.good 1 0 + n) (same_count hs)

  pub take_whole : (n : ℕ) (hs : List DiskSeen) → take n (map w hs) ≡ map w (take n hs)
  take_whole zero hs = refl
  take_whole (suc n) [] = refl
  take_whole (suc n) (h ∷ hs) = ap (λ hs. w h ∷ hs) (take_whole n hs)

  all_take : (Q : DiskSeen → Type 0) (n : ℕ) (hs : List DiskSeen) → AllOf Q hs → AllOf Q (take n hs)
  all_take Q zero hs all = tt
  all_take Q (suc n) [] all = tt
  all_take Q (suc n) (h ∷ hs) all = (all.0, all_take Q n hs all.1)

  same_offers : (group : Word) (readable : ℕ → Bool) (hs : List DiskSeen) → AllOf HasPrivate hs → offers_of group readable (map w hs) ≡ offers_of group readable hs
  same_offers group readable [] wide = refl
  same_offers group readable (h ∷ hs) wide =
      ap (λ s. cond (readable s) (offer_told group (w h).seen.told) None ∷ offers_of group readable (map w hs)) (same_slot (rests h.seen.device) h)
      ∙ ap (λ x. cond (readable h.slot) x None ∷ offers_of group readable (map w hs)) (same_offer (rests h.seen.device) h wide.0 group)
      ∙ ap (λ xs. cond (readable h.slot) (offer_told group h.seen.told) None ∷ xs) (same_offers group readable hs wide.1)

  pub same_configuration : (group : Word) (readable : ℕ → Bool) (hs : List DiskSeen) → AllOf HasPrivate hs → configuration group readable (map w hs) ≡ configuration group readable hs
  same_configuration group readable hs wide = ap highest (same_offers group readable hs wide)

  -- ---- a commit

  module _ (first last : ℕ) (text : List ℕ) (hs bs : List DiskSeen) (goes : Each (CommitGoes first last text) hs bs) where
    abbrev Goes : DiskSeen → DiskSeen → Type 0
    Goes = CommitGoes first last text

    same_device : (a b : DiskSeen) → Goes a b → b.seen.device ≡ a.seen.device
    same_device a b g = g.kept.device

    front_quiet : Each IsQuiet (map w hs) (map w bs) → Each IsQuiet hs bs
    front_quiet quiet = each_front Goes IsQuiet IsQuiet same_device quiet_one hs bs goes quiet

    module _ (wide : AllOf HasPrivate hs) where
      both : (T S : DiskSeen → DiskSeen → Type 0) → ((o : Option Rest) (a b : DiskSeen) → HasPrivate a → Goes a b → T a b → S (with_device o a) (with_device o b)) → Each T hs bs → Each S (map w hs) (map w bs)
      both T S f each = each_whole Goes T S same_device f hs bs wide goes each

      pub whole_goes : Each Goes (map w hs) (map w bs)
      whole_goes = both Goes Goes (λ o a b wide g t. goes_one first last text o a b wide g) goes

      pub whole_mask : (mask : ℕ) → IsMaskOf hs bs mask → IsMaskOf (map w hs) (map w bs) mask
      whole_mask mask is = record {
        good = λ slot e. same_slots slot hs ∙ is.good slot e;
        lacks = both (λ a b. IsTrue a.good → has mask a.slot ≡ false → Rose a.seen.faults b.seen.faults) (λ a b. IsTrue a.good → has mask a.slot ≡ false → Rose a.seen.faults b.seen.faults)
            (λ o a b wide g lacks good lack. rose_one o a b (lacks (subst IsTrue (same_good o a) good) (ap (has mask) (sym (same_slot o a)) ∙ lack))) is.lacks;
      }

      pub whole_recorded : Recorded first last text hs bs → Recorded first last text (map w hs) (map w bs)
      whole_recorded is = record {
        touches = both (Touches first last text (IsMaskOf hs bs)) (Touches first last text (IsMaskOf (map w hs) (map w bs)))
            (λ o a b wide g t. touches_one first last text (IsMaskOf hs bs) (IsMaskOf (map w hs) (map w bs)) whole_mask o a b wide g t) is.touches;
        once = λ quiet. is.once (front_quiet quiet);
      }

      pub whole_writes : (n : ℕ) → (Each IsQuiet hs bs → Each (WritesJust n) hs bs) → Each IsQuiet (map w hs) (map w bs) → Each (WritesJust n) (map w hs) (map w bs)
      whole_writes n just quiet = both (WritesJust n) (WritesJust n) (λ o a b wide g t. writes_one n o a b t) (just (front_quiet quiet))

      pub whole_risen : Each HasRisen hs bs → Each HasRisen (map w hs) (map w bs)
      whole_risen risen = both HasRisen HasRisen (λ o a b wide g t. risen_one o a b t) risen

      pub private_then : AllOf HasPrivate bs
      private_then = by hs bs wide goes
        where
          by : (hs bs : List DiskSeen) → AllOf HasPrivate hs → Each Goes hs bs → AllOf HasPrivate bs
          by [] [] wide each = tt
          by [] (b ∷ bs) wide each = absurd each
          by (a ∷ hs) [] wide each = absurd each
          by (a ∷ hs) (b ∷ bs) wide each = (record { front = let x = wide.0.front in let y = each.0.kept.sectors in omega (arith, x, y); device = let x = wide.0.device in let y = each.0.size in omega (arith, x, y) }, by hs bs wide.1 each.1)

      -- each set of devices that can be read gives what the fronts give
      pub whole_old_or_new : (group : Word) (from to : ℕ) (text : List ℕ) → GivesOldOrNew group from to text hs bs → GivesOldOrNew group from to text (map w hs) (map w bs)
      whole_old_or_new group from to text gives readable = by (gives readable)
        where
          new_is : configuration group readable (map w bs) ≡ configuration group readable bs
          new_is = same_configuration group readable bs private_then

          by : (configuration group readable bs ≡ configuration group readable hs) ⊎ IsNew from to text (configuration group readable bs) → (configuration group readable (map w bs) ≡ configuration group readable (map w hs)) ⊎ IsNew from to text (configuration group readable (map w bs))
          by (inl old) = inl (new_is ∙ old ∙ sym (same_configuration group readable hs wide))
          by (inr new) = inr (subst (IsNew from to text) (sym new_is) new)

  -- ---- what the disks offer

  since_front : (group : Word) (before : ℕ) (o : Option Rest) (h : DiskSeen) → HasPrivate h → (x : Offer) → OffersSince group before (with_device o h) x → OffersSince group before h x
  since_front group before o h wide x since = record { is = sym (same_offer o h wide group) ∙ since.is; newer = since.newer }

  since_whole : (group : Word) (before : ℕ) (o : Option Rest) (h : DiskSeen) → HasPrivate h → (x : Offer) → OffersSince group before h x → OffersSince group before (with_device o h) x
  since_whole group before o h wide x since = record { is = same_offer o h wide group ∙ since.is; newer = since.newer }

  pub whole_order : (group : Word) (before : ℕ) (hs : List DiskSeen) → AllOf HasPrivate hs → AreInOrder group before hs → AreInOrder group before (map w hs)
  whole_order group before hs wide order =
      all_whole (λ a. AllOf (Two a) hs) (λ a. AllOf (Two a) (map w hs))
      (λ o a private row. all_whole (Two a) (Two (with_device o a)) (λ p b private' two x y f g. in_order p b x y (two x y (since_front group before o a private x f) (since_front group before p b private' y g))) hs wide row) hs wide order
    where
      Two : DiskSeen → DiskSeen → Type 0
      Two a b = (x y : Offer) → OffersSince group before a x → OffersSince group before b y → IsInOrder x y b.slot

      in_order : (p : Option Rest) (b : DiskSeen) (x y : Offer) → IsInOrder x y b.slot → IsInOrder x y (with_device p b).slot
      in_order p b x y is = record { names = λ le. ap (has x.good) (same_slot p b) ∙ is.names le; one = is.one }

  pub whole_lead : (group : Word) (before carriers : ℕ) (hs : List DiskSeen) → AllOf HasPrivate hs → IsLed group before carriers hs → IsLed group before carriers (map w hs)
  whole_lead group before carriers hs wide led any =
      subst (AnyOf One) (sym (take_whole carriers hs))
      (any_kept (take carriers hs) (all_take HasPrivate carriers hs wide)
      (led (any_front One One (λ o h private one. (one.0, since_front group before o h private one.0 one.1)) hs wide any)))
    where
      One : DiskSeen → Type 0
      One h = (x : Offer) × OffersSince group before h x

      any_kept : (hs : List DiskSeen) → AllOf HasPrivate hs → AnyOf One hs → AnyOf One (map w hs)
      any_kept [] wide any = absurd any
      any_kept (h ∷ hs) wide (inl one) = inl (one.0, since_whole group before (rests h.seen.device) h wide.0 one.0 one.1)
      any_kept (h ∷ hs) wide (inr any) = inr (any_kept hs wide.1 any)

  -- ---- a commit that is done

  module _ (group : Word) (first last carriers : ℕ) (text : List ℕ) (bs : List DiskSeen) (wide : AllOf HasPrivate bs) where
    pub whole_offers : AllOffer last text bs → AllOffer last text (map w bs)
    whole_offers is = record {
      mask = is.mask;
      names = λ slot. is.names slot ∙ sym (same_slots slot bs);
      just = is.just ∙ sym (same_mask bs);
      each = all_whole (IsOffer last is.mask text) (IsOffer last is.mask text) (offer_one last is.mask text) bs wide is.each;
    }

    pub whole_gives : GivesNew group first last text bs → GivesNew group first last text (map w bs)
    whole_gives gives readable any =
        let there = gives readable (any_front (IsReadableGood group readable) (IsReadableGood group readable)
        (λ o h private is. (ap readable (sym (same_slot o h)) ∙ is.0, subst IsTrue (same_good o h) is.1, member_back o h private group is.2)) bs wide any) in
        let same = sym (same_configuration group readable bs wide) in
        (subst (IsNew first last text) same there.0, subst (HasGoodMask (map w bs)) same (masked (configuration group readable bs) there.1))
      where
        masked : (o : Option Offer) → HasGoodMask bs o → HasGoodMask (map w bs) o
        masked None is = absurd is
        masked (Some x) is = is ∙ sym (same_mask bs)

    pub whole_ready : AllOf IsReady bs → AllOf IsReady (map w bs)
    whole_ready ready = all_whole IsReady IsReady (λ o h private is. ready_one o h private is) bs wide ready

    pub whole_headed : AllOf (IsMemberOf group) bs → AllOf (IsMemberOf group) (map w bs)
    whole_headed headed = all_whole (IsMemberOf group) (IsMemberOf group) headed_one bs wide headed
      where
        headed_one : (o : Option Rest) (h : DiskSeen) → HasPrivate h → IsMemberOf group h → IsMemberOf group (with_device o h)
        headed_one None h private is = is
        headed_one (Some r) h private is = λ good. says_one (label_in group h) (Some r) h private (is good)

    pub whole_below : AllOf (IsBelow group last) bs → AllOf (IsBelow group last) (map w bs)
    whole_below below = all_whole (IsBelow group last) (IsBelow group last)
        (λ o h private is. subst (λ (x : Option Offer). MatchOption x (Unit {0}) (λ y. y.sequence ≤ last)) (sym (same_offer o h private group)) is) bs wide below

    pub whole_done : IsDone carriers last text bs → IsDone carriers last text (map w bs)
    whole_done done = record {
      some = subst (λ n. 0 < n) (sym (ap good_count (take_whole carriers bs) ∙ same_count (take carriers bs))) done.some;
      current = subst (λ m. AllOf (CarriesIfGood last m text) (map w bs)) (sym (same_mask bs)) (all_whole (CarriesIfGood last (good_mask bs) text) (CarriesIfGood last (good_mask bs) text) (carries_one last (good_mask bs) text) bs wide done.current);
    }

pub each_commit : EachCommitIsWhole
each_commit rests group before last text old new wide is = record {
  goes = whole_goes rests (before + 1) last text old new is.goes wide;
  old_or_new = whole_old_or_new rests (before + 1) last text old new is.goes wide group (before + 1) last text is.old_or_new;
  order = whole_order rests group before new (private_then rests (before + 1) last text old new is.goes wide) is.order;
  recorded = whole_recorded rests (before + 1) last text old new is.goes wide is.recorded;
}

pub each_text : EachTextIsCarriedWhole
each_text rests group before last carriers text new wide is = record {
  offers = whole_offers rests group (before + 1) last carriers text new wide is.offers;
  gives = whole_gives rests group (before + 1) last carriers text new wide is.gives;
  ready = whole_ready rests group (before + 1) last carriers text new wide is.ready;
  headed = whole_headed rests group (before + 1) last carriers text new wide is.headed;
  below = whole_below rests group (before + 1) last carriers text new wide is.below;
  done = whole_done rests group (before + 1) last carriers text new wide is.done;
}

pub each_write : EachWriteIsWhole
each_write rests first last text n old new wide goes just = whole_writes rests first last text old new goes wide n just

pub each_failure : EachFailureIsWhole
each_failure rests first last text old new wide goes risen = whole_risen rests first last text old new goes wide risen

pub each_cut : EachCutIsWhole
each_cut rests disks cut = any_whole rests IsCut IsCut cut_one disks cut

pub each_configuration : EachConfigurationIsWhole
each_configuration rests group readable disks wide = same_configuration rests group readable disks wide

pub each_mask : EachMaskIsWhole
each_mask rests disks = same_mask rests disks

pub each_lead : EachLeadIsWhole
each_lead rests group before carriers disks wide led = whole_lead rests group before carriers disks wide led
