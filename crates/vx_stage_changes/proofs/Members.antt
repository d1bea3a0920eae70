-- What a commit leaves of a group's disks, as what it may leave of the world.
use Rattle.std.proofs.Common.{◌≡◌, ◌∙◌, ◌⊎◌, inl, inr, ℕ, ◌+◌, ◌-◌, ◌*◌, ◌≤◌, ◌==◌, ◌||◌, ◌&&◌, Bool, true, false, List, [], ◌∷◌, ◌++◌, map, length, Some, refl, sym, ap, subst, arith}
use Rattle.std.specs.Prelude.{IsTrue, MatchOption}
use Rattle.std.proofs.Math.Nat.{mul-le-mul_right}
use Rattle.std.proofs.lemmas.Bool.{eq-eqb}
use Rattle.std.proofs.lemmas.List.{map-append}
use Rattle.vx_base.specs.Counts.{Rose}
use Rattle.vx_base.specs.Named.{Word}
use Rattle.vx_mask.specs.Mask.{has}
use Rattle.vx_piece.specs.Seen.{Seen}
use Rattle.vx_header.specs.Named.{Label}
use Rattle.vx_copies.specs.Disks.{DiskSeen, NamesHalf, HasSlot, Drops, is_good_slot, good_mask}
use Rattle.vx_copies.specs.Chain.{OffersSince as OffersSinceIn, IsInOrder, AreInOrder as AreInOrderIn, OneOffersSince as OneOffersSinceIn}
use Rattle.vx_copies.specs.Image.{Offer, offer_in, offer_told}
use Rattle.vx_copies.specs.Lists.{AllOf, AnyOf, Each}
use Rattle.vx_copies.specs.Written.{Touches}
use Rattle.vx_copies.specs.Written.{IsMaskOf as IsMaskIn}
use Rattle.vx_confdb.specs.Enlisted.{Enlists}
use Rattle.vx_confdb.specs.Prepare.{Tells, label_in}
use Rattle.vx_objects.specs.declared.config.Config.{Config}
use Rattle.vx_moments.specs.World.{Device, Member, Group}
use Rattle.vx_moments.specs.Moment.{Moment, HasFailed}
use Rattle.vx_moments.specs.Copies.{IsTextOf, IsEntered, label_of}
use Rattle.vx_moments.specs.Commit.{Writing, parties, is_slot_of, is_written_slot, IsMaskOf, NoneFailed, MemberGoes, JoinerGoes, IsNoDeviceOf, sectors_of, OffersSince, AreInOrder, OneOffersSince, IsCommitting}
use Rattle.vx_house.specs.View.{member_in}
use Rattle.vx_house.proofs.AllLaws.{all_front}
use Rattle.vx_stage_changes.proofs.DeviceLaws.{IsPair}
use Rattle.vx_stage_changes.proofs.CommitSlots.{AreSlotted, mask_names, good_slots}
use Rattle.vx_stage_changes.proofs.DiskToDevice.{struck, entered}
use Rattle.vx_copies.proofs.StepLaws.{each_map}
use Rattle.vx_house.proofs.Lists.{each_two, each_first, all_of_each, all_before, all_of_pairs, any_mapped, any_of_each}

-- a disk before and now: it has kept its slot, and it is good unless it has failed
pub record IsGone (m n : Moment) (a b : DiskSeen) : Type 0 where
  pub pair : IsPair m n a b
  pub slot : b.slot ≡ a.slot
  pub good : Drops a.good b.good a.seen b.seen

-- a disk of the group that a commit has written, if it is good
pub record IsMemberWritten (first last : ℕ) (text : List ℕ) (Masks : ℕ → Type 0) (m n : Moment) (a b : DiskSeen) : Type 0 where
  pub gone : IsGone m n a b
  pub idle : a.good ≡ false → b.seen ≡ a.seen
  pub names : IsTrue a.good → NamesHalf a.half a.seen.told
  pub touches : Touches first last text Masks a b

-- a disk that joins by the commit
pub record IsJoinerWritten (group : Word) (first last : ℕ) (text : List ℕ) (Masks : ℕ → Type 0) (m n : Moment) (a b : DiskSeen) : Type 0 where
  pub gone : IsGone m n a b
  pub good : a.good ≡ true
  pub sectors : a.sectors ≡ a.seen.sectors
  pub enlists : Enlists group first last text Masks a b

or_split : (a b : Bool) → (a || b) ≡ true → (a ≡ true) ⊎ (b ≡ true)
or_split true b e = inl refl
or_split false b e = inr e

or_assoc : (a b c : Bool) → ((a || b) || c) ≡ (a || (b || c))
or_assoc true b c = refl
or_assoc false b c = refl

good_append : (slot : ℕ) (hs js : List DiskSeen) → is_good_slot slot (hs ++ js) ≡ (is_good_slot slot hs || is_good_slot slot js)
good_append slot [] js = refl
good_append slot (h ∷ hs) js = ap (λ b. (h.good && h.slot == slot) || b) (good_append slot hs js) ∙ sym (or_assoc (h.good && h.slot == slot) (is_good_slot slot hs) (is_good_slot slot js))

-- all joiners are good
joiner_slots : (slot : ℕ) (js : List DiskSeen) → AllOf (λ j. j.good ≡ true) js → is_slot_of (map member_in js) slot ≡ is_good_slot slot js
joiner_slots slot [] all = refl
joiner_slots slot (j ∷ js) all = ap (λ b. (j.slot == slot) || b) (joiner_slots slot js all.1) ∙ ap (λ g. (g && j.slot == slot) || is_good_slot slot js) (sym all.0)

bool_false : (b : Bool) → b ≡ true → b ≡ false → ⊥
bool_false b t f = cc

-- one that was good and is not has failed
pub rose_one : (old new : Bool) (a b : Seen) → Drops old new a b → old ≡ true → new ≡ false → Rose a.faults b.faults
rose_one true false a b drops p q = drops
rose_one old true a b drops p q = cc
rose_one false new a b drops p q = cc

-- the disks of the group carry the commit, of which one leads; or all its disks carry it
abbrev pub AreLed : Word → ℕ → List Member → List DiskSeen → List DiskSeen → List DiskSeen → List DiskSeen → Type 0
AreLed group before carriers hs bs js ks =
    ((carriers ≡ map member_in hs) × (AllOf Tells hs → OneOffersSinceIn group before (bs ++ ks) → OneOffersSinceIn group before bs))
    ⊎ (carriers ≡ map member_in (hs ++ js))

-- one of the second ones, by one of the first ones
any_after : {X Y : Type 0} (R : X → X → Type 0) (P : Y → Type 0) (Q : X → Type 0) (f : X → Y) → ((a b : X) → R a b → P (f a) → Q b) → (xs ys : List X) → Each R xs ys → AnyOf P (map f xs) → AnyOf Q ys
any_after R P Q f g [] ys e any = absurd any
any_after R P Q f g (x ∷ xs) [] e any = absurd e
any_after R P Q f g (x ∷ xs) (y ∷ ys) e (inl here) = inl (g x y e.0 here)
any_after R P Q f g (x ∷ xs) (y ∷ ys) e (inr there) = inr (any_after R P Q f g xs ys e.1 there)

-- what is written
abbrev pub writing : Group → Config → List ℕ → List Member → List DiskSeen → List DiskSeen → Writing
writing group config text carriers hs js = record {
  group = record { config = group.config; good = good_mask hs; members = map member_in hs; sequence = group.sequence };
  joiners = map member_in js;
  config = config;
  text = text;
  carriers = carriers;
}

module _ (group : Group) (config : Config) (text : List ℕ) (carriers : List Member) (hs bs js ks : List DiskSeen) where
  abbrev here : Writing
  here = writing group config text carriers hs js

  module _ (low : AllOf HasSlot hs) (sound : AllOf (λ j. j.good ≡ true) js) (slots : AreSlotted (hs ++ js)) where
    pub written_slot : (slot : ℕ) → is_written_slot here slot ≡ is_good_slot slot (hs ++ js)
    written_slot slot =
        ap (λ b. b || is_slot_of (map member_in js) slot) (mask_names hs low slot)
        ∙ ap (λ b. is_good_slot slot hs || b) (joiner_slots slot js sound)
        ∙ sym (good_append slot hs js)

    -- a disk that is written was good
    pub written_good : AllOf (λ a. is_written_slot here a.slot ≡ true → a.good ≡ true) (hs ++ js)
    written_good = by (hs ++ js) (good_slots (hs ++ js) slots)
      where
        by : (es : List DiskSeen) → AllOf (λ h. is_good_slot h.slot (hs ++ js) ≡ h.good) es → AllOf (λ a. is_written_slot here a.slot ≡ true → a.good ≡ true) es
        by [] is = tt
        by (e ∷ es) is = ((λ w. sym is.0 ∙ sym (written_slot e.slot) ∙ w), by es is.1)

    -- a disk of the group that is not good is not written
    pub member_good : AllOf (λ a. has (good_mask hs) a.slot ≡ true → a.good ≡ true) hs
    member_good = by hs (all_front (λ h. is_good_slot h.slot (hs ++ js) ≡ h.good) hs js (good_slots (hs ++ js) slots))
      where
        or_first : (b c : Bool) → b ≡ true → (b || c) ≡ true
        or_first true c e = refl
        or_first false c e = cc

        by : (es : List DiskSeen) → AllOf (λ h. is_good_slot h.slot (hs ++ js) ≡ h.good) es → AllOf (λ a. has (good_mask hs) a.slot ≡ true → a.good ≡ true) es
        by [] is = tt
        by (e ∷ es) is = ((λ w. sym is.0 ∙ good_append e.slot hs js ∙ or_first (is_good_slot e.slot hs) (is_good_slot e.slot js) (sym (mask_names hs low e.slot) ∙ w)), by es is.1)

    pub member_bad : AllOf (λ a. has (good_mask hs) a.slot ≡ false → a.good ≡ false) hs
    member_bad = by hs (λ slot e. e)
      where
        or_right : (a b : Bool) → b ≡ true → (a || b) ≡ true
        or_right true b e = refl
        or_right false b e = e

        at_slot : (e : DiskSeen) (es : List DiskSeen) (g t : Bool) → e.good ≡ g → (e.slot == e.slot) ≡ t → t ≡ true → ((slot : ℕ) → is_good_slot slot (e ∷ es) ≡ true → is_good_slot slot hs ≡ true) → has (good_mask hs) e.slot ≡ false → g ≡ false
        at_slot e es false t p q same f w = refl
        at_slot e es true t p q same f w =
            let on : (e.good && e.slot == e.slot) ≡ true = ap (λ x. x && e.slot == e.slot) p ∙ q ∙ same in
            let is : is_good_slot e.slot hs ≡ true = f e.slot (ap (λ x. x || is_good_slot e.slot es) on) in
            absurd (bool_false (has (good_mask hs) e.slot) (mask_names hs low e.slot ∙ is) w)

        by : (es : List DiskSeen) → ((slot : ℕ) → is_good_slot slot es ≡ true → is_good_slot slot hs ≡ true) → AllOf (λ a. has (good_mask hs) a.slot ≡ false → a.good ≡ false) es
        by [] f = tt
        by (e ∷ es) f = (at_slot e es e.good (e.slot == e.slot) refl refl (eq-eqb e.slot e.slot refl) f, by es (λ slot is. f slot (or_right (e.good && e.slot == slot) (is_good_slot slot es) is)))

    module _ (m n : Moment) where
      -- a mask of slots
      pub same_mask : (mask : ℕ) → Each (IsGone m n) (hs ++ js) (bs ++ ks) → IsMaskIn (hs ++ js) (bs ++ ks) mask → IsMaskOf here m.counts n.counts mask
      same_mask mask gone is = record {
        few = λ slot e. written_slot slot ∙ is.good slot e;
        lacks = subst (AllOf (λ p. is_written_slot here p.slot ≡ true → has mask p.slot ≡ false → HasFailed m.counts n.counts p.device)) (map-append member_in hs js)
            (all_of_each Lacks (λ p. is_written_slot here p.slot ≡ true → has mask p.slot ≡ false → HasFailed m.counts n.counts p.device) member_in
            (λ a b facts w l. subst (λ x. Rose x (n.counts.faults a.device)) (sym facts.0.pair.faults) (subst (λ y. Rose a.seen.faults y) (sym facts.0.pair.faults') (facts.1 (facts.2 w) l))) (hs ++ js) (bs ++ ks)
            (each_first (λ a. is_written_slot here a.slot ≡ true → a.good ≡ true) (λ a b. IsGone m n a b × (IsTrue a.good → has mask a.slot ≡ false → Rose a.seen.faults b.seen.faults)) Lacks (λ a b w facts. (facts.0, facts.1, w)) (hs ++ js) (bs ++ ks) written_good
            (each_two (IsGone m n) (λ a b. IsTrue a.good → has mask a.slot ≡ false → Rose a.seen.faults b.seen.faults) (λ a b. IsGone m n a b × (IsTrue a.good → has mask a.slot ≡ false → Rose a.seen.faults b.seen.faults)) (λ a b p q. (p, q)) (hs ++ js) (bs ++ ks) gone is.lacks)));
      }
        where
          Lacks : DiskSeen → DiskSeen → Type 0
          Lacks a b = IsGone m n a b × (IsTrue a.good → has mask a.slot ≡ false → Rose a.seen.faults b.seen.faults) × (is_written_slot here a.slot ≡ true → a.good ≡ true)

      -- what the device of a disk offers now is what is told of it
      offers_since : (a b : DiskSeen) → IsGone m n a b → (o : Offer) → OffersSince here n.world (member_in a) o → OffersSinceIn config.group group.sequence b o
      offers_since a b gone o since =
          let same : Some since.device ≡ Some (record { sectors = a.seen.sectors; contents = gone.pair.now }) = sym since.is ∙ gone.pair.is in
          let contents : since.device.contents ≡ gone.pair.now = cc in
          record { is = ap (offer_told config.group) gone.pair.tells ∙ ap (offer_in config.group) (sym contents) ∙ since.offers; newer = since.newer }

      abbrev TwoIn : DiskSeen → DiskSeen → Type 0
      TwoIn a b = (o p : Offer) → OffersSinceIn config.group group.sequence a o → OffersSinceIn config.group group.sequence b p → IsInOrder o p b.slot

      abbrev Two : Member → Member → Type 0
      Two a b = (o p : Offer) → OffersSince here n.world a o → OffersSince here n.world b p → IsInOrder o p b.slot

      two : (a b c d : DiskSeen) → IsGone m n a c → IsGone m n b d → TwoIn c d → Two (member_in a) (member_in b)
      two a b c d first second in_order o p f g =
          let is = in_order o p (offers_since a c first o f) (offers_since b d second p g) in
          record { names = λ le. ap (has o.good) (sym second.slot) ∙ is.names le; one = is.one }

      -- the offers of the disks are in order, and so are those of their devices
      pub all_in_order : Each (IsGone m n) (hs ++ js) (bs ++ ks) → AreInOrderIn config.group group.sequence (bs ++ ks) → AreInOrder here n.world
      all_in_order gone order =
          subst (λ ps. AllOf (λ a. AllOf (Two a) ps) ps) (map-append member_in hs js)
          (all_before (IsGone m n) (λ c. AllOf (TwoIn c) (bs ++ ks)) (λ a. AllOf (Two a) (map member_in (hs ++ js))) member_in
          (λ a c first row. all_before (IsGone m n) (TwoIn c) (Two (member_in a)) member_in (λ b d. two a b c d first) (hs ++ js) (bs ++ ks) gone row) (hs ++ js) (bs ++ ks) gone order)

      -- what is told of a disk is what its device offers now
      since_offers : (a b : DiskSeen) → IsGone m n a b → (o : Offer) → OffersSinceIn config.group group.sequence b o → OffersSince here n.world (member_in a) o
      since_offers a b gone o since = record {
        device = record { sectors = a.seen.sectors; contents = gone.pair.now };
        is = gone.pair.is;
        offers = sym (ap (offer_told config.group) gone.pair.tells) ∙ since.is;
        newer = since.newer;
      }

      abbrev OneIn : DiskSeen → Type 0
      OneIn b = (o : Offer) × OffersSinceIn config.group group.sequence b o

      abbrev One : Member → Type 0
      One a = (o : Offer) × OffersSince here n.world a o

      one_told : (xs ys : List DiskSeen) → Each (IsGone m n) xs ys → OneOffersSince here n.world (map member_in xs) → OneOffersSinceIn config.group group.sequence ys
      one_told xs ys gone any = any_after (IsGone m n) One OneIn member_in (λ a b is one. (one.0, offers_since a b is one.0 one.1)) xs ys gone any

      one_offers : (xs ys : List DiskSeen) → Each (IsGone m n) xs ys → OneOffersSinceIn config.group group.sequence ys → OneOffersSince here n.world (map member_in xs)
      one_offers xs ys gone any = any_of_each (IsGone m n) OneIn One member_in (λ a b is one. (one.0, since_offers a b is one.0 one.1)) xs ys gone any

      -- a disk that was called tells what it holds
      tells_one : (a b : DiskSeen) → IsGone m n a b → Tells a
      tells_one a b is = subst (λ t. MatchOption t ⊥ (λ c. Unit {0})) (sym is.pair.told) tt

      -- where one of the devices offers something of the commit, one that carries it does
      pub one_leads : Each (IsGone m n) hs bs → Each (IsGone m n) (hs ++ js) (bs ++ ks) → AreLed config.group group.sequence carriers hs bs js ks → OneOffersSince here n.world (parties here) → OneOffersSince here n.world carriers
      one_leads front gone (inl led) any = subst (OneOffersSince here n.world) (sym led.0)
          (one_offers hs bs front (led.1 (all_of_pairs (IsGone m n) Tells tells_one hs bs front) (one_told (hs ++ js) (bs ++ ks) gone (subst (OneOffersSince here n.world) (sym (map-append member_in hs js)) any))))
      one_leads front gone (inr all) any = subst (OneOffersSince here n.world) (sym (map-append member_in hs js) ∙ sym all) any

      module _ (last last' : ℕ) (up : last ≤ last') (least : group.sequence ≤ last') (MasksIn : ℕ → Type 0) (masks : (mask : ℕ) → MasksIn mask → IsMaskOf here m.counts n.counts mask) where
        abbrev IsWrittenHere : DiskSeen → DiskSeen → Type 0
        IsWrittenHere a b = IsMemberWritten (group.sequence + 1) last text MasksIn m n a b

        abbrev IsEnteredHere : DiskSeen → DiskSeen → Type 0
        IsEnteredHere a b = IsJoinerWritten config.group (group.sequence + 1) last text MasksIn m n a b

        more_sectors : (last + 1 - (group.sequence + 1)) * sectors_of text ≤ (last' - group.sequence) * sectors_of text
        more_sectors = mul-le-mul_right (sectors_of text) (omega (arith, up))

        member_goes : (a b : DiskSeen) → (has (good_mask hs) a.slot ≡ true → a.good ≡ true) → (has (good_mask hs) a.slot ≡ false → a.good ≡ false) → IsWrittenHere a b → MemberGoes here last' m n (member_in a)
        member_goes a b good bad is = record {
          good = λ e. record {
            before = record { sectors = a.seen.sectors; contents = is.gone.pair.before };
            after = record { sectors = a.seen.sectors; contents = is.gone.pair.now };
            was = is.gone.pair.was;
            is = is.gone.pair.is;
            sectors = refl;
            goes = struck (group.sequence + 1) last last' up text MasksIn (IsMaskOf here m.counts n.counts) masks a b is.gone.pair.before is.gone.pair.now is.touches is.gone.pair.told is.gone.pair.tells (is.names (good e));
          };
          idle = λ e.
              let same : Some is.gone.pair.now ≡ Some is.gone.pair.before = sym is.gone.pair.tells ∙ ap (λ (s : Seen). s.told) (is.idle (bad e)) ∙ is.gone.pair.told in
              let one : is.gone.pair.now ≡ is.gone.pair.before = cc in
              is.gone.pair.is ∙ ap (λ c. Some (let d : Device = record { sectors = a.seen.sectors; contents = c } in d)) one ∙ sym is.gone.pair.was;
        }

        joiner_goes : (a b : DiskSeen) → IsEnteredHere a b → JoinerGoes here last' m n (member_in a)
        joiner_goes a b is = record {
          before = record { sectors = a.seen.sectors; contents = is.gone.pair.before };
          after = record { sectors = a.seen.sectors; contents = is.gone.pair.now };
          was = is.gone.pair.was;
          is = is.gone.pair.is;
          sectors = refl;
          goes =
              let same : label_in config.group a ≡ label_of config.group (member_in a) (record { sectors = a.seen.sectors; contents = is.gone.pair.before }) = ap (λ k. let l : Label = record { group = config.group; disk = a.name; slot = a.slot; sectors = k } in l) is.sectors in
              subst (λ l. IsEntered l (group.sequence + 1) last' (IsMaskOf here m.counts n.counts) text is.gone.pair.before is.gone.pair.now) same
              (entered (group.sequence + 1) last last' up text MasksIn (IsMaskOf here m.counts n.counts) masks config.group a b is.gone.pair.before is.gone.pair.now is.enlists is.gone.pair.told is.gone.pair.tells);
        }

        writes_by : (a b : DiskSeen) (bound : ℕ) → IsPair m n a b → b.seen.writes ≤ a.seen.writes + bound → n.counts.writes a.device ≤ m.counts.writes a.device + bound
        writes_by a b bound pair most = let x = pair.writes in let y = pair.writes' in omega (arith, x, y, most)

        -- what it leaves of all others
        pub record IsBeside : Type 0 where
          pub others : (name : Word) → (AnyOf (λ h. h.device ≡ name) (hs ++ js) → ⊥) → n.world.devices name ≡ m.world.devices name
          pub idle : (name : Word) → (AnyOf (λ h. h.device ≡ name) (hs ++ js) → ⊥) → (n.counts.writes name ≡ m.counts.writes name) × (n.counts.faults name ≡ m.counts.faults name)
          pub volumes : n.world.volumes ≡ m.world.volumes
          pub reads : (name : Word) → n.counts.reads name ≡ m.counts.reads name
          pub shelf : n.counts.shelf ≡ m.counts.shelf

        none_of_parties : (name : Word) → IsNoDeviceOf (parties here) name → AnyOf (λ h. h.device ≡ name) (hs ++ js) → ⊥
        none_of_parties name none any = none (subst (AnyOf (λ p. p.device ≡ name)) (map-append member_in hs js) (any_mapped (λ p. p.device ≡ name) member_in (hs ++ js) any))

        pub is_committing : IsTextOf config text → length text ≤ 522240 → last' ≤ group.sequence + 32 → (NoneFailed m.counts n.counts → last' ≤ group.sequence + 1)
            → Each IsWrittenHere hs bs → Each IsEnteredHere js ks → Each (IsGone m n) (hs ++ js) (bs ++ ks) → AreInOrderIn config.group group.sequence (bs ++ ks) → AreLed config.group group.sequence carriers hs bs js ks → IsBeside → IsCommitting here last' m n
        is_committing printed short few once written joined gone order led beside = record {
          text_is = printed;
          short = short;
          from = least;
          up_to = few;
          once = once;
          members = all_of_each Member_ (MemberGoes here last' m n) member_in (λ a b facts. member_goes a b facts.0 facts.1 facts.2) hs bs
              (each_first (λ a. has (good_mask hs) a.slot ≡ true → a.good ≡ true) (λ a b. (has (good_mask hs) a.slot ≡ false → a.good ≡ false) × IsWrittenHere a b) Member_ (λ a b p q. (p, q.0, q.1)) hs bs member_good
              (each_first (λ a. has (good_mask hs) a.slot ≡ false → a.good ≡ false) IsWrittenHere (λ a b. (has (good_mask hs) a.slot ≡ false → a.good ≡ false) × IsWrittenHere a b) (λ a b p q. (p, q)) hs bs member_bad written));
          joiners = all_of_each IsEnteredHere (JoinerGoes here last' m n) member_in joiner_goes js ks joined;
          order = all_in_order gone order;
          lead = one_leads (each_map IsWrittenHere (IsGone m n) (λ a b is. is.gone) hs bs written) gone led;
          others = λ name none. beside.others name (none_of_parties name none);
          volumes = beside.volumes;
          reads = beside.reads;
          idle = λ name none. beside.idle name (none_of_parties name none);
          shelf = beside.shelf;
          written = all_of_each IsWrittenHere (λ p. n.counts.writes p.device ≤ m.counts.writes p.device + (last' - group.sequence) * sectors_of text) member_in
              (λ a b is. writes_by a b ((last' - group.sequence) * sectors_of text) is.gone.pair (let w = is.touches.writes in omega (arith, w, more_sectors))) hs bs written;
          entered = all_of_each IsEnteredHere (λ p. n.counts.writes p.device ≤ m.counts.writes p.device + ((last' - group.sequence) * sectors_of text + 2)) member_in
              (λ a b is. writes_by a b ((last' - group.sequence) * sectors_of text + 2) is.gone.pair (let w = is.enlists.writes in omega (arith, w, more_sectors))) js ks joined;
        }
          where
            Member_ : DiskSeen → DiskSeen → Type 0
            Member_ a b = (has (good_mask hs) a.slot ≡ true → a.good ≡ true) × (has (good_mask hs) a.slot ≡ false → a.good ≡ false) × IsWrittenHere a b
