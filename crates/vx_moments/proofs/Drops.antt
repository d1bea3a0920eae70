-- Volumes of which a disk was dropped.
use Rattle.std.proofs.Common.{◌≡◌, ◌∙◌, inl, inr, ℕ, suc, ◌/◌, ◌<◌, Bool, true, false, ◌&&◌, ◌||◌, ◌==◌, not, nat_le, List, [], ◌∷◌, length, refl, sym, ap, subst}
use Rattle.std.specs.Prelude.{Contains}
use Rattle.std.specs.List.{list_all, list_any, filter}
use Rattle.std.proofs.lemmas.Bool.{and_parts, and_from, or_cases, or_left, or_right}
use Rattle.vx_block.specs.Regions.{region_count}
use Rattle.vx_life.specs.Candidates.{IsAmong}
use Rattle.vx_config_parts.specs.declared.state.VolState.{VolState}
use Rattle.vx_config_parts.specs.declared.state.VolState.TheVariants as vol
use Rattle.vx_image.proofs.PlexMembers.{IsIn}
use Rattle.vx_image.specs.Image.{PlexImage, LogCopy, Image, regions_of, is_available, is_available_state, is_marked_by_all, is_marked_by_some, is_unmarked_by_some, is_alone, has_no_copy, is_read}
use Rattle.vx_image.specs.Meaning.{plexes_read}
use Rattle.vx_image.specs.Soundness.{IsChoiceOfMarks, IsUnmarkedPlex, PlexesAgree, IsDirtyBy, MayDiffer, IsSoundImage}
use Rattle.vx_image.proofs.Members.{is_in, contains, all_from_each, each_from_all, one_from_any, any_from_one, from_filter, into_filter, only_one}
use Rattle.vx_moments.proofs.Blocks.{below_count}
use Rattle.vx_moments.specs.Drops.{MayBeDropped, EachMayBeDropped, HasLost, EachDropIsSound, EachDropStands}

-- the plex before of one that is there now, and the other way
pub before_in : (ps qs : List PlexImage) → EachMayBeDropped ps qs → (q : PlexImage) → IsIn qs q → (p : PlexImage) × IsIn ps p × MayBeDropped p q
before_in [] [] each q one = absurd one
before_in [] (x ∷ qs) each q one = absurd each
before_in (p ∷ ps) [] each q one = absurd one
before_in (p ∷ ps) (x ∷ qs) each q (inl same) = (p, inl refl, subst (MayBeDropped p) (sym same) each.0)
before_in (p ∷ ps) (x ∷ qs) each q (inr one) = let r = before_in ps qs each.1 q one in (r.0, inr r.1, r.2)

pub after_in : (ps qs : List PlexImage) → EachMayBeDropped ps qs → (p : PlexImage) → IsIn ps p → (q : PlexImage) × IsIn qs q × MayBeDropped p q
after_in [] [] each p one = absurd one
after_in [] (x ∷ qs) each p one = absurd one
after_in (x ∷ ps) [] each p one = absurd each
after_in (x ∷ ps) (q ∷ qs) each p (inl same) = (q, inl refl, subst (λ y. MayBeDropped y q) (sym same) each.0)
after_in (x ∷ ps) (q ∷ qs) each p (inr one) = let r = after_in ps qs each.1 p one in (r.0, inr r.1, r.2)

module _ (old new : Image) (lost : HasLost old new) where
  before : (q : PlexImage) → Contains new.plexes q → (p : PlexImage) × Contains old.plexes p × MayBeDropped p q
  before q one = let r = before_in old.plexes new.plexes lost.plexes q (is_in new.plexes q one) in (r.0, contains old.plexes r.0 r.1, r.2)

  after : (p : PlexImage) → Contains old.plexes p → (q : PlexImage) × Contains new.plexes q × MayBeDropped p q
  after p one = let r = after_in old.plexes new.plexes lost.plexes p (is_in old.plexes p one) in (r.0, contains new.plexes r.0 r.1, r.2)

  -- what every copy marked the fewer copies mark, and what one of these marks one of those did
  all_still : (r k : ℕ) → is_marked_by_all old r k ≡ true → is_marked_by_all new r k ≡ true
  all_still r k all = all_from_each (λ c. c r k) new.copies (λ c one. each_from_all (λ c. c r k) old.copies c all (lost.copies c one))

  some_before : (r k : ℕ) → is_marked_by_some new r k ≡ true → is_marked_by_some old r k ≡ true
  some_before r k some = let one = one_from_any (λ c. c r k) new.copies some in any_from_one (λ c. c r k) old.copies one.0 (lost.copies one.0 one.1) one.2

  unmarked_before : (r k : ℕ) → is_unmarked_by_some new r k ≡ true → is_unmarked_by_some old r k ≡ true
  unmarked_before r k some = let one = one_from_any (λ c. not (c r k)) new.copies some in any_from_one (λ c. not (c r k)) old.copies one.0 (lost.copies one.0 one.1) one.2

  choice_before : (r : ℕ) (B : ℕ → Bool) → IsChoiceOfMarks new r B → IsChoiceOfMarks old r B
  choice_before r B choice = record { least = λ k all. choice.least k (all_still r k all); most = λ k is. some_before r k (choice.most k is) }

  unmarked_plex : (B : ℕ → Bool) (q : PlexImage) → IsUnmarkedPlex new.plexes B q → (p : PlexImage) × IsUnmarkedPlex old.plexes B p × (q.values ≡ p.values)
  unmarked_plex B q is =
      let r = before q is.of in
      (r.0, record { of = r.1; held = r.2.held is.held; unmarked = ap B (sym r.2.map) ∙ is.unmarked }, r.2.values)

  agree_still : (r : ℕ) (B : ℕ → Bool) → PlexesAgree old r B → PlexesAgree new r B
  agree_still r B agree p q one other b lt at =
      let x = unmarked_plex B p one in
      let y = unmarked_plex B q other in
      ap (λ f. f b) x.2 ∙ agree x.0 y.0 x.1 y.1 b (subst (λ n. b < n) lost.length lt) (subst (λ n. b / n ≡ r) lost.region at) ∙ sym (ap (λ f. f b) y.2)

  dirty_still : (B : ℕ → Bool) → IsDirtyBy old B → IsDirtyBy new B
  dirty_still B dirty = record {
    dirty = dirty.dirty;
    stale = λ q one stale held. let r = before q one in ap B r.2.map ∙ dirty.stale r.0 r.1 (ap (λ s. not (is_available_state s)) (sym r.2.state) ∙ stale) (r.2.held held);
  }

  may_still : (state : VolState) (B : ℕ → Bool) → MayDiffer state old B → MayDiffer state new B
  may_still vol.Empty B may = tt
  may_still vol.Clean B may = absurd may
  may_still vol.Active B may = dirty_still B may
  may_still vol.NeedSync B may = dirty_still B may
  may_still vol.Sync B may = dirty_still B may

  sound_still : IsSoundImage old → IsSoundImage new
  sound_still sound r B low choice =
      let by = sound r B (subst (λ n. r < n) same_regions low) (choice_before r B choice) in
      record {
        unmarked = let q = after by.unmarked.0 by.unmarked.1 in (q.0, q.1, ap B q.2.map ∙ by.unmarked.2);
        agree = elim by.agree [ inl agree ↦ inl (agree_still r B agree) | inr may ↦ inr (subst (λ s. MayDiffer s new B) (sym lost.state) (may_still old.state B may)) ];
        tracked = λ m one clear. agree_still r B (by.tracked m (subst (λ ms. Contains ms m) lost.snaps one) clear);
      }
    where
      same_regions : regions_of new ≡ regions_of old
      same_regions = ap (λ n. region_count n new.region) lost.length ∙ ap (region_count old.length) lost.region

pub drop_sound : EachDropIsSound
drop_sound old new lost sound = sound_still old new lost sound

-- ---- what is read

each_length : (ps qs : List PlexImage) → EachMayBeDropped ps qs → length qs ≡ length ps
each_length [] [] each = refl
each_length [] (q ∷ qs) each = absurd each
each_length (p ∷ ps) [] each = absurd each
each_length (p ∷ ps) (q ∷ qs) each = ap suc (each_length ps qs each.1)

-- where there are copies, what all of them mark is a choice
some_of_all : (copies : List LogCopy) (r k : ℕ) → (length copies == 0) ≡ false → list_all (λ c. c r k) copies ≡ true → list_any (λ c. c r k) copies ≡ true
some_of_all [] r k some all = cc
some_of_all (c ∷ cs) r k some all = or_left (c r k) (list_any (λ d. d r k) cs) (and_parts (c r k) (list_all (λ d. d r k) cs) all).0

unmarked_of_all : (copies : List LogCopy) (r k : ℕ) → list_all (λ c. c r k) copies ≡ false → list_any (λ c. not (c r k)) copies ≡ true
unmarked_of_all [] r k all = cc
unmarked_of_all (c ∷ cs) r k all = by (c r k) refl (λ e. unmarked_of_all cs r k e) all
  where
    by : (b : Bool) → c r k ≡ b → (list_all (λ d. d r k) cs ≡ false → list_any (λ d. not (d r k)) cs ≡ true) → (b && list_all (λ d. d r k) cs) ≡ false → (not b || list_any (λ d. not (d r k)) cs) ≡ true
    by true e rest all = rest all
    by false e rest all = refl

module _ (old new : Image) (lost : HasLost old new) (sound : IsSoundImage old) (r : ℕ) (low : r < regions_of old) where
  -- the only data plex of a sound volume that had copies is unmarked by some
  alone_unmarked : (p : PlexImage) → Contains old.plexes p → (length old.plexes == 1) ≡ true → has_no_copy old ≡ false → is_unmarked_by_some old r p.map ≡ true
  alone_unmarked p one only some =
      let choice : IsChoiceOfMarks old r (λ k. is_marked_by_all old r k) = record { least = λ k all. all; most = λ k all. some_of_all old.copies r k some all } in
      let by = sound r (λ k. is_marked_by_all old r k) low choice in
      let same : p ≡ by.unmarked.0 = only_one old.plexes p by.unmarked.0 only one by.unmarked.1 in
      unmarked_of_all old.copies r p.map (ap (λ (x : PlexImage). is_marked_by_all old r x.map) same ∙ by.unmarked.2)

  read_before : (p q : PlexImage) → Contains old.plexes p → MayBeDropped p q → is_read new r q ≡ true → is_read old r p ≡ true
  read_before p q one drop read =
      let parts = and_parts (is_available q) (is_unmarked_by_some new r q.map || is_alone new) read in
      let there = and_parts q.held (is_available_state q.state) parts.0 in
      and_from (is_available p) (is_unmarked_by_some old r p.map || is_alone old)
      (and_from p.held (is_available_state p.state) (drop.held there.0) (ap is_available_state (sym drop.state) ∙ there.1))
      (elim (or_cases (is_unmarked_by_some new r q.map) (is_alone new) parts.1) [
        | inl some ↦ or_left (is_unmarked_by_some old r p.map) (is_alone old) (unmarked_before old new lost r p.map (ap (is_unmarked_by_some new r) (sym drop.map) ∙ some))
        | inr alone ↦ by (has_no_copy old) refl (ap (λ n. n == 1) (sym (each_length old.plexes new.plexes lost.plexes)) ∙ (and_parts (has_no_copy new) (length new.plexes == 1) alone).1)
      ])
    where
      by : (b : Bool) → has_no_copy old ≡ b → (length old.plexes == 1) ≡ true → (is_unmarked_by_some old r p.map || is_alone old) ≡ true
      by true none only = or_right (is_unmarked_by_some old r p.map) (is_alone old) (and_from (has_no_copy old) (length old.plexes == 1) none only)
      by false some only = or_left (is_unmarked_by_some old r p.map) (is_alone old) (alone_unmarked p one only some)

  filled : (q : PlexImage) → Contains (filter (is_read new r) new.plexes) q → (p : PlexImage) × Contains (filter (is_read old r) old.plexes) p × (q.values ≡ p.values)
  filled q one =
      let there = from_filter (is_read new r) new.plexes q one in
      let p = before old new lost q there.0 in
      (p.0, into_filter (is_read old r) old.plexes p.0 p.1 (read_before p.0 q p.1 p.2 there.1), p.2.values)

  -- a plex of the lowest map was so
  lowest_before : (p q : PlexImage) → Contains old.plexes p → MayBeDropped p q → list_all (λ x. nat_le q.map x.map) new.plexes ≡ true → list_all (λ x. nat_le p.map x.map) old.plexes ≡ true
  lowest_before p q one drop lowest = all_from_each (λ x. nat_le p.map x.map) old.plexes (λ x there.
      let y = after old new lost x there in
      ap (λ n. nat_le n x.map) (sym drop.map) ∙ ap (nat_le q.map) (sym y.2.map) ∙ each_from_all (λ z. nat_le q.map z.map) new.plexes y.0 lowest y.1)

  -- a plex that is read was read
  plex_before : (state : VolState) (q : PlexImage) → Contains (plexes_read state new r) q → (p : PlexImage) × Contains (plexes_read state old r) p × (q.values ≡ p.values)
  plex_before vol.Empty q one =
      let there = from_filter (λ p. list_all (λ x. nat_le p.map x.map) new.plexes) new.plexes q one in
      let p = before old new lost q there.0 in
      (p.0, into_filter (λ p. list_all (λ x. nat_le p.map x.map) old.plexes) old.plexes p.0 p.1 (lowest_before p.0 q p.1 p.2 there.1), p.2.values)
  plex_before vol.Clean q one = filled q one
  plex_before vol.Active q one = filled q one
  plex_before vol.NeedSync q one = filled q one
  plex_before vol.Sync q one = filled q one

pub drop_stands : EachDropStands
drop_stands old new candidates lost sized sound stands b lt q one =
    let r = b / new.region in
    let at : b / old.region ≡ r = ap (λ n. b / n) (sym lost.region) in
    let lt' : b < old.length = subst (λ n. b < n) lost.length lt in
    let low : r < regions_of old = subst (λ n. n < regions_of old) at (below_count b old.length old.region sized lt') in
    let here : Contains (plexes_read old.state new r) q = subst (λ s. Contains (plexes_read s new r) q) lost.state one in
    let p = plex_before old new lost sound r low old.state q here in
    subst (IsAmong (candidates b)) (sym (ap (λ f. f b) p.2)) (stands b lt' p.0 (subst (λ n. Contains (plexes_read old.state old n) p.0) (sym at) p.1))
