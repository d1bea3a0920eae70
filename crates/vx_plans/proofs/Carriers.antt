-- The disks that carry a commit: there is one, where the command's world has one.
use Rattle.std.proofs.Common.{◌≡◌, ◌≢◌, ◌⊎◌, ℕ, zero, suc, ◌+◌, ◌<◌, ◌≤◌, ◌==◌, ◌&&◌, ◌||◌, not, Bool, true, false, cond, List, [], ◌∷◌, map, Option, Some, None, refl, sym, ◌∙◌, ap, subst, inl, inr, arith, MatchOption, MatchBool, nat_lt, is_some, ◌^◌}
use Rattle.std.proofs.lemmas.Bool.{cases_lt, eqb-true}
use Rattle.std.specs.List.{list_any}
use Rattle.vx_base.specs.Named.{Word}
use Rattle.vx_mask.specs.Mask.{has}
use Rattle.vx_copies.specs.Image.{Offer, offer_in, highest, higher}
use Rattle.vx_copies.specs.Lists.{AllOf, AnyOf}
use Rattle.vx_record.specs.Content.{Content}
use Rattle.vx_record.specs.Grammar.{Spells}
use Rattle.vx_objects.specs.declared.config.Config.{Config}
use Rattle.vx_objects.specs.Config.{objects_of}
use Rattle.vx_objects.specs.Printed.{IsReadOf}
use Rattle.vx_script_words.specs.declared.value.DiskAt.{DiskAt}
use Rattle.vx_answers.specs.declared.refusal.Refusal.{Refusal}
use Rattle.vx_moments.specs.Commit.{Writing, is_written_slot, is_slot_of}
use Rattle.vx_moments.specs.Moment.{Counts}
use Rattle.vx_moments.specs.World.{World, Device, Member, Group}
use Rattle.std.specs.Str.{bytes_eq}
use Rattle.vx_stages.specs.Finding.{is_recorded, IsDamage, IsDiskOf, Candidate, IsCandidate, Finds, FindsOffer, FindsAll, FindsText, offers_of, first_that, is_damaged_one, is_taken_of, missing_from, good_ones, members_of, member_of, group_found, import_records}
use Rattle.vx_stages.specs.Records.{new_members, member_at}
use Rattle.vx_stages.specs.Stages.{IsCreating, IsImporting}
use Rattle.vx_plans.proofs.Calm.{any_map}

-- a member that is written carries the commit
abbrev pub HasCarrier : Writing → Type 0
HasCarrier x = AnyOf (λ m. is_written_slot x m.slot ≡ true) x.carriers

or_left : (a b : Bool) → a ≡ true → (a || b) ≡ true
or_left true b is = refl
or_left false b is = cc

or_right : (a b : Bool) → b ≡ true → (a || b) ≡ true
or_right true b is = refl
or_right false b is = is

-- the members of the group, of which one is good
by_members : (x : Writing) → x.carriers ≡ x.group.members → AnyOf (λ m. has x.group.good m.slot ≡ true) x.group.members → HasCarrier x
by_members x carriers good =
    subst (λ (ms : List Member). AnyOf (λ m. is_written_slot x m.slot ≡ true) ms) (sym carriers)
    (any_map (λ m. has x.group.good m.slot ≡ true) (λ m. is_written_slot x m.slot ≡ true) x.group.members (λ m is. or_left (has x.group.good m.slot) (is_slot_of x.joiners m.slot) is) good)

-- the imported group has a good disk
abbrev pub IsAlive : World → Type 0
IsAlive w = MatchOption w.group (Unit {0}) (λ g. AnyOf (λ m. has g.good m.slot ≡ true) g.members)

pub by_group : (w : World) (x : Writing) → w.group ≡ Some x.group → x.carriers ≡ x.group.members → IsAlive w → HasCarrier x
by_group w x here carriers some =
    by_members x carriers (subst (λ (o : Option Group). MatchOption o (Unit {0}) (λ g. AnyOf (λ m. has g.good m.slot ≡ true) g.members)) here some)

-- the disks of a new group
pub by_words : (dg : Word) (disks : List DiskAt) (w : World) (x : Writing) → IsCreating dg disks w x → disks ≢ [] → HasCarrier x
by_words dg [] w x creating some = absurd (some refl)
by_words dg (p ∷ ps) w x creating some =
    let joins : x.joiners ≡ member_at p 0 ∷ new_members 1 ps = creating.joiners in
    let first : is_slot_of x.joiners 0 ≡ true = ap (λ (ms : List Member). is_slot_of ms 0) joins in
    subst (λ (ms : List Member). AnyOf (λ m. is_written_slot x m.slot ≡ true) ms) (sym (creating.carriers ∙ joins)) (inl (or_right (has x.group.good 0) (is_slot_of x.joiners 0) first))

-- the highest of the offers is that of one of the candidates
pub one_offers : (dg : Word) (unread : Word → Bool) (cs : List Candidate) (o : Offer) → highest (offers_of dg unread cs) ≡ Some o → AnyOf (λ c. offer_in dg c.device.contents ≡ Some o) cs
one_offers dg unread [] o is = cc
one_offers dg unread (c ∷ cs) o is = by (unread c.name) (offer_in dg c.device.contents) refl (highest (offers_of dg unread cs)) (λ top. one_offers dg unread cs o top) is
  where
    of_two : (a b : Offer) (lower : Bool) → offer_in dg c.device.contents ≡ Some a → (Some b ≡ Some o → AnyOf (λ d. offer_in dg d.device.contents ≡ Some o) cs) → cond lower (Some b) (Some a) ≡ Some o → AnyOf (λ d. offer_in dg d.device.contents ≡ Some o) (c ∷ cs)
    of_two a b true mine more top = inr (more top)
    of_two a b false mine more top = inl (mine ∙ top)

    by : (off : Bool) (own : Option Offer) → offer_in dg c.device.contents ≡ own → (rest : Option Offer) → (rest ≡ Some o → AnyOf (λ d. offer_in dg d.device.contents ≡ Some o) cs) → higher (cond off None own) rest ≡ Some o → AnyOf (λ d. offer_in dg d.device.contents ≡ Some o) (c ∷ cs)
    by true own mine rest more top = inr (more top)
    by false None mine rest more top = inr (more top)
    by false (Some a) mine None more top = inl (mine ∙ top)
    by false (Some a) mine (Some b) more top = of_two a b (nat_lt a.sequence b.sequence) mine more top

-- a candidate of the slot that can be read
abbrev pub is_there : (Word → Bool) → ℕ → Candidate → Bool
is_there unread slot c = not (unread c.name) && c.label.slot == slot

passed : (at : ℕ) (bad : Bool) (missing : Option ℕ) → cond bad (Some at) missing ≡ None → missing ≡ None
passed at true missing e = cc
passed at false missing e = e

denied : (at : ℕ) (good there : Bool) (missing : Option ℕ) → good ≡ true → cond (good && not there) (Some at) missing ≡ None → there ≡ true
denied at good true missing is e = refl
denied at true false missing is e = cc
denied at false false missing is e = cc

-- where no slot is missing, a good one has its candidate
pub one_there : (n from good slot : ℕ) (unread : Word → Bool) (cs : List Candidate) → missing_from n from good unread cs ≡ None → from ≤ slot → slot < from + n → has good slot ≡ true → list_any (is_there unread slot) cs ≡ true
one_there zero from good slot unread cs none low high is = absurd (omega arith)
one_there (suc n) from good slot unread cs none low high is =
    by_place (cases_lt from slot) (λ rest low' high'. one_there n (from + 1) good slot unread cs rest low' high' is)
  where
    by_place : (from < slot) ⊎ (slot ≤ from) → (missing_from n (from + 1) good unread cs ≡ None → from + 1 ≤ slot → slot < from + 1 + n → list_any (is_there unread slot) cs ≡ true) → list_any (is_there unread slot) cs ≡ true
    by_place (inl below) more = more (passed from (has good from && not (list_any (is_there unread from) cs)) (missing_from n (from + 1) good unread cs) none) (omega arith) (omega arith)
    by_place (inr above) more =
        let same : from ≡ slot = omega arith in
        let here : has good from ≡ true = subst (λ (s : ℕ). has good s ≡ true) (sym same) is in
        subst (λ (s : ℕ). list_any (is_there unread s) cs ≡ true) same (denied from (has good from) (list_any (is_there unread from) cs) (missing_from n (from + 1) good unread cs) here none)

-- so the members of the good slots have one of it
one_member : (good slot : ℕ) (unread : Word → Bool) (cs : List Candidate) → has good slot ≡ true → list_any (is_there unread slot) cs ≡ true → AnyOf (λ m. has good m.slot ≡ true) (members_of good cs)
one_member good slot unread [] is none = cc
one_member good slot unread (c ∷ cs) is any = by (has good c.label.slot) refl (is_there unread slot c) refl any (λ rest. one_member good slot unread cs is rest)
  where
    slots : (off same : Bool) → (not off && same) ≡ true → same ≡ true
    slots true same e = cc
    slots false same e = e

    kept : (good_here : Bool) → AnyOf (λ m. has good m.slot ≡ true) (members_of good cs) → AnyOf (λ m. has good m.slot ≡ true) (map member_of (cond good_here (c ∷ good_ones good cs) (good_ones good cs)))
    kept true any = inr any
    kept false any = any

    by : (good_here : Bool) → has good c.label.slot ≡ good_here → (there : Bool) → is_there unread slot c ≡ there → (there || list_any (is_there unread slot) cs) ≡ true → (list_any (is_there unread slot) cs ≡ true → AnyOf (λ m. has good m.slot ≡ true) (members_of good cs)) → AnyOf (λ m. has good m.slot ≡ true) (map member_of (cond good_here (c ∷ good_ones good cs) (good_ones good cs)))
    by true g there t any more = inl g
    by false g true t any more =
        let same : c.label.slot ≡ slot = eqb-true c.label.slot slot (slots (unread c.name) (c.label.slot == slot) t) in
        let yes : has good c.label.slot ≡ true = subst (λ (s : ℕ). has good s ≡ true) (sym same) is in
        cc
    by false g false t any more = more any

of_three : {C V : Type 0} → (b : Bool) (x : Option C) (y : Option V) (T : Type 0) → MatchBool b (MatchOption x (MatchOption y T (λ v. ⊥)) (λ c. ⊥)) ⊥ → (b ≡ true) × (x ≡ None) × T
of_three true None None T h = (refl, refl, h)
of_three true None (Some v) T h = absurd h
of_three true (Some c) y T h = absurd h
of_three false x y T h = absurd h

of_two : (b : Bool) (x y : Option Candidate) (T : Type 0) → MatchBool b (MatchOption x ⊥ (λ c. ⊥)) (MatchOption y T (λ c. (r : Refusal) × IsDamage c r × ⊥)) → T
of_two true None y T h = absurd h
of_two true (Some c) y T h = absurd h
of_two false x None T h = h
of_two false x (Some c) T h = absurd h.2

of_missing : (text : List ℕ) (x : Option ℕ) (T : Type 0) → MatchOption x T (λ slot. (disk : Option Word) × IsDiskOf text slot disk × ⊥) → (x ≡ None) × T
of_missing text None T h = (refl, h)
of_missing text (Some slot) T h = absurd h.2

of_offers : (x : Option Offer) (y : Option Candidate) (T : Offer → Type 0) → MatchOption x (MatchOption y ⊥ (λ c. (r : Refusal) × IsDamage c r × ⊥)) T → (o : Offer) × (x ≡ Some o) × T o
of_offers None None T h = absurd h
of_offers None (Some c) T h = absurd h.2
of_offers (Some o) y T h = (o, refl, h)

-- what is found, where nothing is refused: the offer, which no good slot is missing of, and the configuration that it is read as
pub record FoundBy (dg : Word) (unread : Word → Bool) (cs : List Candidate) (F : Offer → Config → Type 0) : Type 0 where
  pub offer : Offer
  pub config : Config
  pub highest_is : highest (offers_of dg unread cs) ≡ Some offer
  pub none_missing : missing_from 32 0 offer.good unread cs ≡ None
  pub records : List Content
  pub spells : Spells offer.text records
  pub read : IsReadOf records config
  pub named : bytes_eq config.group dg ≡ true
  pub recorded : first_that (λ c. not (is_recorded config c.label)) (good_ones offer.good cs) ≡ None
  pub holds : F offer config

module _ (dg : Word) (w : World) (unread : Word → Bool) (cs : List Candidate) (F : Offer → Config → Type 0) where
  by_text : (o : Offer) → highest (offers_of dg unread cs) ≡ Some o → missing_from 32 0 o.good unread cs ≡ None → FindsText dg w o cs (λ r. ⊥) (F o) → FoundBy dg unread cs F
  by_text o top none (inl bad) = absurd bad.2
  by_text o top none (inr (rs, spells, inl broken)) = absurd broken.2
  by_text o top none (inr (rs, spells, inr (config, read, h))) =
      let all = of_three (bytes_eq config.group dg) (first_that (λ c. not (is_recorded config c.label)) (good_ones o.good cs)) (first_that (λ v. is_some (w.volumes v.name)) config.volumes) (F o config) h in
      record { offer = o; config = config; highest_is = top; none_missing = none; records = rs; spells = spells; read = read; named = all.0; recorded = all.1; holds = all.2 }

  by_offer : (o : Offer) → highest (offers_of dg unread cs) ≡ Some o → FindsOffer dg w unread o cs (λ r. ⊥) (F o) → FoundBy dg unread cs F
  by_offer o top h =
      let whole : FindsAll dg w unread o cs (λ r. ⊥) (F o) = of_two (nat_lt (2 ^ 63) o.sequence) (first_that (is_taken_of dg unread o.sequence) cs) (first_that (is_damaged_one unread (λ c. has o.good c.label.slot)) cs) (FindsAll dg w unread o cs (λ r. ⊥) (F o)) h in
      let all = of_missing o.text (missing_from 32 0 o.good unread cs) (FindsText dg w o cs (λ r. ⊥) (F o)) whole in
      by_text o top all.0 all.1

  pub found_by : Finds dg w unread cs (λ r. ⊥) F → FoundBy dg unread cs F
  found_by h =
      let found = of_offers (highest (offers_of dg unread cs)) (first_that (is_damaged_one unread (λ c. true)) cs) (λ o. FindsOffer dg w unread o cs (λ r. ⊥) (F o)) h in
      by_offer found.0 found.1 found.2

-- each configuration that a device offers names a slot
abbrev pub NamesSlots : World → Type 0
NamesSlots w = (dg name : Word) (d : Device) (o : Offer) → w.devices name ≡ Some d → offer_in dg d.contents ≡ Some o → (slot : ℕ) × (slot < 32) × (has o.good slot ≡ true)

one_slot : (w : World) → NamesSlots w → (dg : Word) (absent : Word → Bool) (o : Offer) (cs : List Candidate) → AllOf (IsCandidate dg absent w) cs → AnyOf (λ c. offer_in dg c.device.contents ≡ Some o) cs → (slot : ℕ) × (slot < 32) × (has o.good slot ≡ true)
one_slot w masks dg absent o [] all any = absurd any
one_slot w masks dg absent o (c ∷ cs) all (inl here) = masks dg c.name c.device o all.0.device_is here
one_slot w masks dg absent o (c ∷ cs) all (inr there) = one_slot w masks dg absent o cs all.1 there

-- the members of a group that is found
pub by_devices : (dg : Word) (w : World) (x : Writing) (old new : Counts) → IsImporting dg w x old new → NamesSlots w → HasCarrier x
by_devices dg w x old new importing masks =
    let cs = importing.found.counted in
    let unread = importing.found.unread in
    let found = found_by dg w unread cs (λ o config. (x.group ≡ group_found o cs config) × (objects_of x.config ≡ import_records config)) importing.finds in
    let o = found.offer in
    let slot = one_slot w masks dg importing.found.absent o cs importing.found.count.each (one_offers dg unread cs o found.highest_is) in
    let there = one_there 32 0 o.good slot.0 unread cs found.none_missing (omega arith) slot.1 slot.2 in
    let member = one_member o.good slot.0 unread cs slot.2 there in
    by_members x importing.carriers (subst (λ (g : Group). AnyOf (λ m. has g.good m.slot ≡ true) g.members) (sym found.holds.0) member)
