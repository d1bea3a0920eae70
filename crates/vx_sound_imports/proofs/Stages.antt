-- What a stage leaves of the groups that are not imported, and of the imported one where it is lost.
use Rattle.std.proofs.Common.{◌≡◌, ◌∙◌, ℕ, ◌==◌, true, false, Option, Some, None, MatchOption, sym, ap, subst, inl, inr}
use Rattle.std.proofs.lemmas.Bool.{eqb-true}
use Rattle.std.specs.Str.{bytes_eq}
use Rattle.vx_life.specs.Candidates.{Candidates}
use Rattle.vx_base.specs.Named.{Word}
use Rattle.vx_base.proofs.NamedLemmas.{name_cases, bytes_eq_self}
use Rattle.vx_mask.specs.Mask.{has}
use Rattle.vx_mask.proofs.Tests.{not_both, or_cases}
use Rattle.vx_image.proofs.PlexMembers.{any_in, in_left, in_right}
use Rattle.vx_image.specs.Soundness.{IsSoundImage}
use Rattle.vx_image.proofs.Members.{contains, is_in}
use Rattle.vx_answers.specs.declared.answer.End.{End}
use Rattle.vx_answers.specs.declared.answer.End.TheVariants as ends
use Rattle.vx_moments.specs.Commit.{IsCommitted, IsCommitting, IsStopped, Writing, is_slot_of, parties}
use Rattle.vx_moments.specs.Moment.{Moment}
use Rattle.vx_moments.specs.Leaving.{grouped}
use Rattle.vx_moments.specs.World.{Group, Member, Volume, World}
use Rattle.vx_sound.specs.Sound.{AreSound}
use Rattle.vx_sound.specs.Standing.{Carries, IsLeading, IsStanding}
use Rattle.vx_sound.proofs.CommitSteps.{other_back}
use Rattle.vx_sound.proofs.Fewer.{HadEach}
use Rattle.vx_sound.proofs.Headers.{one_group}
use Rattle.vx_sound.proofs.Lists.{all_two, one_of}
use Rattle.vx_sound.proofs.Ready.{IsHeadedAs, IsReady}
use Rattle.vx_sound_volumes.specs.Volumes.{AreSoundOn}
use Rattle.vx_sound_volumes.proofs.Parts.{Besides, Every, image_same, not_none, some_same}
use Rattle.vx_sound_imports.specs.Offered.{HasSoundOffer, HaveSoundOffers, IsElsewhere, IsWholeGroup}
use Rattle.vx_sound_imports.proofs.Commits.{commit_offers, public_stays}
use Rattle.vx_sound_imports.proofs.Fewer.{AreReadSound, fewer_read, fewer_sound}
use Rattle.vx_sound_imports.proofs.Writings.{HasWhole}
use Rattle.vx_sound_imports.specs.Left.{HoldWithin, IsLeft}
use Rattle.vx_sound_imports.proofs.Leading.{leading_read}
use Rattle.vx_sound_imports.proofs.Left.{AreReadAs, IsNextAs, commit_left, fewer_as, leading_as}
use Rattle.vx_sound_imports.proofs.Nexts.{IsSafe}

-- the group, or the power, is lost by this end
abbrev pub IsLostBy : End → Type 0
IsLostBy ends.GroupLost = Unit {0}
IsLostBy (ends.Lost parts) = Unit {0}
IsLostBy (ends.Done copied parts blocks) = ⊥
IsLostBy (ends.Refused r) = ⊥
IsLostBy (ends.Fault told device parts) = ⊥
IsLostBy ends.ShelfFailed = ⊥

-- What a command leaves as it is over: sound volumes of each group that is not imported; and where it has lost the imported one, the devices of
-- that offer sound volumes, if its own are sound, and stand for those that ran, of such names, if its own bytes do.
pub record Settles (P : Word → Type 0) (end : End) (w : World) : Type 0 where
  pub elsewhere : HaveSoundOffers w
  pub whole : HasWhole w
  pub own : (g : Group) → w.group ≡ Some g → IsLostBy end → AreSoundOn w.devices g → HasSoundOffer g.config.group w
  pub left : (g : Group) → w.group ≡ Some g → IsLostBy end → (name : Word) (u : Volume) → P name → grouped (w.volumes name) ≡ Some u → HoldWithin w.devices g name u.life.candidates → IsLeft g.config.group w name u.life.candidates

-- for fewer names
pub settles_fewer : (P Q : Word → Type 0) (end : End) (w : World) → ((name : Word) → P name → Q name) → Settles Q end w → Settles P end w
settles_fewer P Q end w fewer s = record { elsewhere = s.elsewhere; whole = s.whole; own = s.own; left = λ g here lost name u p. s.left g here lost name u (fewer name p) }

pub settles_some : {P : Word → Type 0} (end : End) (w : World) → Settles Every end w → Settles P end w
settles_some {P = P} end w s = settles_fewer P Every end w (λ name p. tt) s

-- also for a name of which no volume runs on plexes
pub settles_idle : (vol : Word) (end : End) (w : World) → w.volumes vol ≡ None → Settles (Besides vol) end w → Settles Every end w
settles_idle vol end w idle s = record {
  elsewhere = s.elsewhere;
  whole = s.whole;
  own = s.own;
  left = λ g here lost name u p runs. s.left g here lost name u (λ same. not_none u (sym (ap grouped (subst (λ n. w.volumes n ≡ None) (sym same) idle)) ∙ runs)) runs;
}

pub leads : (w : World) (g : Group) → IsStanding w → w.group ≡ Some g → IsLeading w g
leads w g s here = subst (λ (o : Option Group). MatchOption o (Unit {0}) (IsLeading w)) here s.group

-- so it is where the imported group leads
pub standing_settles : (end : End) (w : World) → IsStanding w → HasWhole w → HaveSoundOffers w → Settles Every end w
standing_settles end w s whole offers = record {
  elsewhere = offers;
  whole = whole;
  own = λ g here lost sound. leading_read w g (leads w g s here) (s.copies g.config.group) (whole g here) w.devices sound;
  left = λ g here lost name u p runs stands. leading_as w g (leads w g s here) (s.copies g.config.group) (whole g here) name u.life.candidates w.devices stands;
}

pub same_settles : (end : End) (old new : World) → new ≡ old → IsStanding old → HasWhole old → HaveSoundOffers old → Settles Every end new
same_settles end old new same s whole offers = subst (Settles Every end) (sym same) (standing_settles end old s whole offers)

-- ---- headers that stay or go

pub offers_kept : (old new : World) → AreSound old → ((dg : Word) → IsElsewhere dg new → IsElsewhere dg old × HadEach dg old new) → HaveSoundOffers old → HaveSoundOffers new
offers_kept old new sound had offers dg away = let k = had dg away in fewer_sound dg old new k.1 (sound dg) (offers dg k.0)

-- the group is the one that was
pub elsewhere_before : (old new : World) → new.group ≡ old.group → (dg : Word) → IsElsewhere dg new → IsElsewhere dg old
elsewhere_before old new same dg away g here is = away g (same ∙ here) is

pub whole_before : (old new : World) → new.group ≡ old.group → HasWhole old → HasWhole new
whole_before old new same whole g here = whole g (sym same ∙ here)

-- ---- commits

module _ (x : Writing) (old : Moment) (s : IsStanding old.world) (ready : IsReady x old.world) where
  -- the imported group is that of the writing, by name
  pub one_name : old.world.group ≡ Some x.group → x.group.config.group ≡ x.config.group
  one_name here =
      let l = leads old.world x.group s here in
      let m = one_of (λ m. (has x.group.good m.slot ≡ true → Carries old.world x.group m) × (has x.group.good m.slot ≡ true → IsHeadedAs x.config.group old.world m)) (λ m. has x.group.good m.slot ≡ true) x.group.members
      (all_two (λ m. has x.group.good m.slot ≡ true → Carries old.world x.group m) (λ m. has x.group.good m.slot ≡ true → IsHeadedAs x.config.group old.world m)
      (λ m. (has x.group.good m.slot ≡ true → Carries old.world x.group m) × (has x.group.good m.slot ≡ true → IsHeadedAs x.config.group old.world m)) x.group.members (λ m a b. (a, b)) l.carrying ready.good) l.some in
      let carries = m.1.0 m.2 in
      let headed = m.1.1 m.2 in
      one_group x.group.config.group x.config.group old.world m.0.device m.0.slot m.0.slot carries.offers.device headed.0 carries.offers.headed headed.1

  -- another group is none that is imported
  pub imported_away : old.world.group ≡ Some x.group → (dg : Word) → (x.config.group ≡ dg → ⊥) → IsElsewhere dg old.world
  imported_away here dg differs g at is = differs (sym (one_name here) ∙ ap (λ (h : Group). h.config.group) (some_same x.group g (sym here ∙ at)) ∙ is)

  -- other groups are let alone
  pub others_had : (last : ℕ) (new : Moment) → IsCommitting x last old new → (dg : Word) → (x.config.group ≡ dg → ⊥) → HadEach dg old.world new.world
  others_had last new c dg differs = other_back x last old new c ready dg (λ same. differs (sym same))

  -- ---- a commit that is done

  module _ (whole : IsWholeGroup x.group) (new : Moment) (c : IsCommitted x old new) (offers : HaveSoundOffers old.world) where
    abbrev now : Group
    now = record { config = x.config; good = c.good; members = parties x; sequence = c.last }

    whole_now : IsWholeGroup now
    whole_now slot good = elim (or_cases (has x.group.good slot) (is_slot_of x.joiners slot) (c.mask.few slot good)) [
      | inl was ↦ let m = whole slot was in (m.0, contains (parties x) m.0 (in_left x.group.members x.joiners m.0 (is_in x.group.members m.0 m.1)), m.2)
      | inr joins ↦ let j = any_in (λ (m : Member). m.slot == slot) x.joiners joins in (j.0, contains (parties x) j.0 (in_right x.group.members x.joiners j.0 j.1), eqb-true j.0.slot slot j.2)
    ]

    pub committed_known : ((dg : Word) → (x.config.group ≡ dg → ⊥) → IsElsewhere dg old.world) → HaveSoundOffers new.world × HasWhole new.world
    committed_known away = (
      offers_kept old.world new.world s.copies (λ dg other. let differs = λ (is : x.config.group ≡ dg). other now c.group is in (away dg differs, others_had c.last new c.committing dg differs)) offers,
      λ g here. subst IsWholeGroup (some_same now g (sym c.group ∙ here)) whole_now,
    )

-- ---- a commit that is stopped

module _ (P : Word → Type 0) (x : Writing) (old : Moment) (s : IsStanding old.world) (safe : IsSafe P x old.world) (end : End) (new : Moment) (stopped : IsStopped x old end new) where
  abbrev c : IsCommitting x stopped.last old new
  c = stopped.committing

  one_named : old.world.group ≡ Some x.group → x.group.config.group ≡ x.config.group
  one_named here = one_name x old s safe.ready here

  others_stay : (dg : Word) → (x.config.group ≡ dg → ⊥) → HadEach dg old.world new.world
  others_stay dg differs = others_had x old s safe.ready stopped.last new c dg differs

  own_offers : old.world.group ≡ Some x.group → AreSoundOn new.world.devices x.group → HasSoundOffer x.config.group new.world
  own_offers here sound =
      commit_offers x stopped.last old new c safe.ready s.copies safe.whole
      (subst (λ dg. AreReadSound new.world.devices dg old.world) (one_named here) (leading_read old.world x.group (leads old.world x.group s here) (s.copies x.group.config.group) safe.whole new.world.devices sound))
      (safe.next new.world.devices (public_stays x stopped.last old new c) sound) safe.far

  own_left : old.world.group ≡ Some x.group → (name : Word) (u : Candidates) → HoldWithin new.world.devices x.group name u → IsNextAs x new.world.devices name u → IsLeft x.config.group new.world name u
  own_left here name u stands next =
      commit_left x stopped.last old new c safe.ready s.copies safe.whole name u
      (subst (λ dg. AreReadAs new.world.devices dg old.world name u) (one_named here) (leading_as old.world x.group (leads old.world x.group s here) (s.copies x.group.config.group) safe.whole name u new.world.devices stands))
      next safe.far

  -- what the bytes of a volume lie within is left, where they do so as it is to be recorded too
  pub stopped_left : old.world.group ≡ Some x.group → (g : Group) → new.world.group ≡ Some g → (name : Word) (u : Candidates) → HoldWithin new.world.devices g name u → IsNextAs x new.world.devices name u → IsLeft g.config.group new.world name u
  stopped_left here g at name u stands next =
      let same : x.group ≡ g = some_same x.group g (sym here ∙ sym stopped.group ∙ at) in
      subst (λ (h : Group). IsLeft h.config.group new.world name u) same
      (subst (λ dg. IsLeft dg new.world name u) (sym (one_named here)) (own_left here name u (subst (λ (h : Group). HoldWithin new.world.devices h name u) (sym same) stands) next))

  -- of the imported group
  pub stopped_settles : old.world.group ≡ Some x.group → HasWhole old.world → HaveSoundOffers old.world → Settles P end new.world
  stopped_settles here whole offers = record {
    elsewhere = offers_kept old.world new.world s.copies (λ dg other.
        let before = elsewhere_before old.world new.world stopped.group dg other in
        (before, others_stay dg (λ is. before x.group here (one_named here ∙ is)))) offers;
    whole = whole_before old.world new.world stopped.group whole;
    own = λ g at lost sound.
        let same : x.group ≡ g = some_same x.group g (sym here ∙ sym stopped.group ∙ at) in
        subst (λ (h : Group). HasSoundOffer h.config.group new.world) same
        (subst (λ dg. HasSoundOffer dg new.world) (sym (one_named here)) (own_offers here (subst (AreSoundOn new.world.devices) (sym same) sound)));
    left = λ g at lost name u p runs stands.
        let same : x.group ≡ g = some_same x.group g (sym here ∙ sym stopped.group ∙ at) in
        stopped_left here g at name u.life.candidates stands
        (safe.stands new.world.devices (public_stays x stopped.last old new c) name u.life.candidates p (subst (λ (h : Group). HoldWithin new.world.devices h name u.life.candidates) (sym same) stands));
  }

  -- of a group that is not imported
  module _ (away : IsElsewhere x.config.group old.world) (sound : AreSoundOn new.world.devices x.group) (whole : HasWhole old.world) (offers : HaveSoundOffers old.world) where
    before : AreReadSound new.world.devices x.config.group old.world
    before name slot o g offer newest read v there started =
        subst IsSoundImage (sym (image_same g old.world.devices new.world.devices (λ m one k. public_stays x stopped.last old new c m.device k) v)) (offers x.config.group away name slot o g offer newest read v there started)

    written : HasSoundOffer x.config.group new.world
    written = commit_offers x stopped.last old new c safe.ready s.copies safe.whole before (safe.next new.world.devices (public_stays x stopped.last old new c) sound) safe.far

    differs : (dg : Word) → bytes_eq x.config.group dg ≡ false → x.config.group ≡ dg → ⊥
    differs dg other is = not_both (subst (λ n. bytes_eq x.config.group n ≡ true) is (bytes_eq_self x.config.group)) other

    -- the imported group is another one
    own_stays : (g : Group) → old.world.group ≡ Some g → AreSoundOn new.world.devices g → HasSoundOffer g.config.group new.world
    own_stays g here all =
        fewer_read g.config.group old.world new.world (others_stay g.config.group (λ is. away g here (sym is))) (s.copies g.config.group) new.world.devices
        (leading_read old.world g (leads old.world g s here) (s.copies g.config.group) (whole g here) new.world.devices all)

    own_as : (g : Group) → old.world.group ≡ Some g → (name : Word) (u : Candidates) → HoldWithin new.world.devices g name u → IsLeft g.config.group new.world name u
    own_as g here name u stands =
        fewer_as g.config.group old.world new.world (others_stay g.config.group (λ is. away g here (sym is))) (s.copies g.config.group) name u new.world.devices
        (leading_as old.world g (leads old.world g s here) (s.copies g.config.group) (whole g here) name u new.world.devices stands)

    pub unknown_settles : Settles Every end new.world
    unknown_settles = record {
      elsewhere = λ dg other. elim (name_cases x.config.group dg) [
        | inl same ↦ subst (λ n. HasSoundOffer n new.world) same written
        | inr differ ↦ fewer_sound dg old.world new.world (others_stay dg (differs dg differ)) (s.copies dg) (offers dg (elsewhere_before old.world new.world stopped.group dg other))
      ];
      whole = whole_before old.world new.world stopped.group whole;
      own = λ g at lost all. own_stays g (sym stopped.group ∙ at) all;
      left = λ g at lost name u p runs stands. own_as g (sym stopped.group ∙ at) name u.life.candidates stands;
    }
