-- An image that says no more than another stands for the same volumes, and so does one that says the same, of plexes and copies in another order.
use Rattle.std.proofs.Common.{◌≡◌, ◌∙◌, ℕ, ◌/◌, ◌<◌, ◌==◌, arith, ◌||◌, not, true, false, List, [], ◌∷◌, length, refl, sym, ap, subst, inl, inr}
use Rattle.std.specs.Prelude.{Contains}
use Rattle.std.specs.List.{filter}
use Rattle.std.proofs.lemmas.Bool.{and_from, and_parts, eqb-true, false≢true}
use Rattle.vx_block.specs.Regions.{region_count}
use Rattle.vx_mask.proofs.Tests.{or_cases, or_from_left, or_from_right}
use Rattle.vx_life.specs.Candidates.{Candidates, IsAmong}
use Rattle.vx_config_parts.specs.declared.state.VolState.{VolState}
use Rattle.vx_config_parts.specs.declared.state.VolState.TheVariants as vol
use Rattle.vx_image.specs.Image.{Image, PlexImage, has_no_copy, is_alone, is_available, is_available_state, is_marked_by_all, is_marked_by_some, is_read, is_unmarked_by_some, regions_of}
use Rattle.vx_image.specs.Meaning.{IsReadAt, StandsForCandidates, plexes_read}
use Rattle.vx_image.proofs.Members.{all_from_each, any_from_one, each_from_all, from_filter, into_filter, is_in, one_from_any}
use Rattle.vx_state_edits.specs.Edits.{is_new}
use Rattle.vx_moments.specs.World.{Volume}
use Rattle.vx_moments.specs.Volumes.{StandsForVolume}
use Rattle.vx_readings.proofs.Less.{IsLessImage, IsLessPlex, less_sound}

-- each says no more than the other, and they have as many plexes
pub record AreAlike (one other : Image) : Type 0 where
  pub less : IsLessImage one other
  pub more : IsLessImage other one
  pub plexes : length other.plexes ≡ length one.plexes

-- the plexes that are read of a volume that was started
pub started_read : (s : VolState) (v : Image) (r : ℕ) → is_new s ≡ false → plexes_read s v r ≡ filter (is_read v r) v.plexes
started_read vol.Empty v r started = absurd (false≢true (sym started))
started_read vol.Clean v r started = refl
started_read vol.Active v r started = refl
started_read vol.NeedSync v r started = refl
started_read vol.Sync v r started = refl

-- a list of which each is in an empty one is empty
none_left : {X : Type 0} (xs ys : List X) → ((x : X) → Contains xs x → Contains ys x) → (length ys == 0) ≡ true → (length xs == 0) ≡ true
none_left [] ys each none = refl
none_left (x ∷ xs) [] each none = absurd (is_in [] x (each x (0, omega arith, refl)))
none_left (x ∷ xs) (y ∷ ys) each none = let same = eqb-true (length (y ∷ ys)) 0 none in absurd (omega (arith, same))

-- a plex that is read as the only one, as no copy of the log counts, was read in the region of the block before
abbrev pub LoneWasRead : Image → Image → Type 0
LoneWasRead one other = (b : ℕ) → b < other.length → is_alone other ≡ true → (q : PlexImage) → Contains one.plexes q → (is_unmarked_by_some one (b / other.region) q.map || is_alone one) ≡ true

module _ (one other : Image) (less : IsLessImage one other) (lone : LoneWasRead one other) where
  same_regions : regions_of other ≡ regions_of one
  same_regions = ap (λ n. region_count n other.region) less.length ∙ ap (region_count one.length) less.region

  -- ---- marks

  all_still : (r k : ℕ) → is_marked_by_all one r k ≡ true → is_marked_by_all other r k ≡ true
  all_still r k all = all_from_each (λ c. c r k) other.copies (λ c there. each_from_all (λ c. c r k) one.copies c all (less.copies c there))

  some_before : (r k : ℕ) → is_marked_by_some other r k ≡ true → is_marked_by_some one r k ≡ true
  some_before r k some = let c = one_from_any (λ c. c r k) other.copies some in any_from_one (λ c. c r k) one.copies c.0 (less.copies c.0 c.1) c.2

  unmarked_before : (r k : ℕ) → is_unmarked_by_some other r k ≡ true → is_unmarked_by_some one r k ≡ true
  unmarked_before r k some = let c = one_from_any (λ c. not (c r k)) other.copies some in any_from_one (λ c. not (c r k)) one.copies c.0 (less.copies c.0 c.1) c.2

  -- ---- what is read

  module _ (p : PlexImage) (there : Contains other.plexes p) where
    before : (q : PlexImage) × Contains one.plexes q × IsLessPlex q p
    before = less.before p there

    held_of : is_available p ≡ true → p.held ≡ true
    held_of is = (and_parts p.held (is_available_state p.state) is).0

    available_before : is_available p ≡ true → is_available before.0 ≡ true
    available_before is =
        and_from before.0.held (is_available_state before.0.state) (before.2.held (held_of is)) (sym before.2.available ∙ (and_parts p.held (is_available_state p.state) is).1)

    read_before : (b : ℕ) → b < other.length → is_read other (b / other.region) p ≡ true → is_read one (b / other.region) before.0 ≡ true
    read_before b low is =
        let r = b / other.region in
        let parts = and_parts (is_available p) (is_unmarked_by_some other r p.map || is_alone other) is in
        and_from (is_available before.0) (is_unmarked_by_some one r before.0.map || is_alone one) (available_before parts.0)
        (elim (or_cases (is_unmarked_by_some other r p.map) (is_alone other) parts.1) [
          | inl clear ↦ or_from_left (is_unmarked_by_some one r before.0.map) (is_alone one) (subst (λ k. is_unmarked_by_some one r k ≡ true) before.2.map (unmarked_before r p.map clear))
          | inr alone ↦ lone b low alone before.0 before.1
        ])

    values_of : (r : ℕ) → is_read other r p ≡ true → p.values ≡ before.0.values
    values_of r is = before.2.values (held_of (and_parts (is_available p) (is_unmarked_by_some other r p.map || is_alone other) is).0)

  pub less_among : (candidates : Candidates) → is_new one.state ≡ false → StandsForCandidates one candidates → StandsForCandidates other candidates
  less_among candidates started stands b low p at =
      let started' : is_new other.state ≡ false = ap is_new less.state ∙ started in
      let r = b / other.region in
      let found = from_filter (is_read other r) other.plexes p (subst (λ ps. Contains ps p) (started_read other.state other r started') at) in
      let q = before p found.0 in
      let read = subst (λ n. is_read one (b / n) q.0 ≡ true) less.region (read_before p found.0 b low found.1) in
      let at' : IsReadAt one b q.0 = subst (λ ps. Contains ps q.0) (sym (started_read one.state one (b / one.region) started)) (into_filter (is_read one (b / one.region)) one.plexes q.0 q.1 read) in
      subst (λ (x : List ℕ). IsAmong (candidates b) x) (sym (ap (λ f. f b) (values_of p found.0 r found.1))) (stands b (subst (λ n. b < n) less.length low) q.0 at')

  pub less_stands : (run : Volume) → is_new one.state ≡ false → StandsForVolume one run → StandsForVolume other run
  less_stands run started stands = record {
    sound = less_sound one other less stands.sound;
    candidates = less_among run.life.candidates started stands.candidates;
    sure = λ p there r low is.
        let q = before p there in
        subst (λ k. is_marked_by_all other r k ≡ true) (sym q.2.map)
        (all_still r q.0.map (stands.sure q.0 q.1 r (subst (λ n. r < n) same_regions low) (subst (λ n. (run.tracks n).sure r ≡ true) q.2.name is)));
    possible = λ p there r low marked.
        let q = before p there in
        subst (λ n. (run.tracks n).possible r ≡ true) (sym q.2.name)
        (stands.possible q.0 q.1 r (subst (λ n. r < n) same_regions low) (subst (λ k. is_marked_by_some one r k ≡ true) q.2.map (some_before r p.map marked)));
    dirty = λ r low marked. stands.dirty r (subst (λ n. r < n) same_regions low) (some_before r 30 marked);
  }

pub alike_stands : (one other : Image) → AreAlike one other → (run : Volume) → StandsForVolume one run → is_new one.state ≡ false → StandsForVolume other run
alike_stands one other alike run stands started = less_stands one other alike.less lone run started stands
  where
    lone : LoneWasRead one other
    lone b low alone q there =
        let parts = and_parts (has_no_copy other) (length other.plexes == 1) alone in
        or_from_right (is_unmarked_by_some one (b / other.region) q.map) (is_alone one)
        (and_from (has_no_copy one) (length one.plexes == 1) (none_left one.copies other.copies alike.more.copies parts.0) (subst (λ n. (n == 1) ≡ true) alike.plexes parts.1))
