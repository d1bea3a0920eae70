-- The image of an EMPTY volume as its first life begins: a copy of the log marks all plexes but the lowest, in each region. It stands
-- for the volume of that life.
use Rattle.std.proofs.Common.{◌≡◌, inl, inr, ℕ, Bool, true, false, not, List, [], ◌∷◌, refl, sym, ap, ◌∙◌, subst}
use Rattle.std.specs.Prelude.{nat_le, if◌then◌else◌, Contains}
use Rattle.std.specs.List.{list_all, list_any}
use Rattle.std.specs.Str.{bytes_eq}
use Rattle.std.proofs.lemmas.Bool.{and_from, false≢true, or_cases}
use Rattle.vx_base.specs.Named.{Word}
use Rattle.vx_base.proofs.NamedLemmas.{bytes_eq_self}
use Rattle.vx_config_parts.specs.declared.state.VolState.TheVariants as vol
use Rattle.vx_core.specs.Region.{RegionState}
use Rattle.vx_life.specs.Candidates.{Candidates}
use Rattle.vx_image.specs.Image.{PlexImage, LogCopy, Image, is_marked_by_all, is_marked_by_some}
use Rattle.vx_image.specs.Meaning.{lowest_of}
use Rattle.vx_image.specs.Soundness.{IsSoundBy, IsSoundImage, PlexesAgree}
use Rattle.vx_image.proofs.Members.{is_in, any_from_one, from_filter, into_filter, one_from_any}
use Rattle.vx_moments.specs.Lives.{no_track, volume_first, whole_track}
use Rattle.vx_moments.specs.Volumes.{StandsForVolume, is_named}
use Rattle.vx_volume_laws.specs.Opening.{IsOpened, IsWellFormed}
use Rattle.vx_volume_laws.specs.Start.{EachEmptyBegins, IsStartOf}
use Rattle.vx_volume_laws.specs.Starting.{BeginsOver}

-- no plex of these has a lower map
abbrev pub is_low : List PlexImage → PlexImage → Bool
is_low ps p = list_all (λ (q : PlexImage). nat_le p.map q.map) ps

-- a copy that marks these maps, in each region
abbrev pub marks_of : (ℕ → Bool) → LogCopy
marks_of others r k = others k

-- the image with that copy alone, and these relations
abbrev pub begun_as : (ℕ → Bool) → List ℕ → Image → Image
begun_as others snaps e = record e { state = vol.Clean; snaps = snaps; copies = marks_of others ∷ [] }

not_false : (b : Bool) → not b ≡ false → b ≡ true
not_false true h = refl
not_false false h = absurd (false≢true (sym h))

-- What is known of the image of an EMPTY volume, and of the maps that its new log marks: these are of all plexes but the lowest, and
-- no two plexes have one name.
pub record IsFirst (e : Image) (others : ℕ → Bool) : Type 0 where
  pub empty_is : e.state ≡ vol.Empty
  pub well : IsWellFormed e
  pub lowest : (p : PlexImage) → Contains e.plexes p → others p.map ≡ not (is_low e.plexes p)
  pub some : (p : PlexImage) × Contains e.plexes p × (others p.map ≡ false)
  pub clean : others 30 ≡ false
  pub names : (p q : PlexImage) → Contains e.plexes p → Contains e.plexes q → bytes_eq q.name p.name ≡ true → q ≡ p

-- ---- what is opened over the one is opened over the other

pub begun_opened : (e : Image) (others : ℕ → Bool) (copy : LogCopy) (candidates : Candidates) (r : ℕ) (s : RegionState) → IsOpened e copy candidates r s → IsOpened (begun_as others e.snaps e) copy candidates r s
begun_opened e others copy candidates r s is =
    record {
      masks = is.masks;
      bits = is.bits;
      phase = is.phase;
      snaps = is.snaps;
      shows = is.shows;
      tight = is.tight;
      held = is.held;
      values = is.values;
      data_plexes = is.data_plexes;
      on = is.on;
      readable = is.readable;
      base = is.base;
      first = is.first;
      beyond = is.beyond;
      no_call = is.no_call;
      no_entries = is.no_entries;
      no_number = is.no_number;
    }

module _ (e : Image) (others : ℕ → Bool) (is : IsFirst e others) where
  abbrev image : Image
  image = begun_as others e.snaps e

  -- ---- it is sound

  only_copy : (c : LogCopy) → Contains (marks_of others ∷ []) c → c ≡ marks_of others
  only_copy c one = elim (is_in (marks_of others ∷ []) c one) [ inl same ↦ same | inr none ↦ absurd none ]

  in_lowest : (p : PlexImage) → Contains e.plexes p → is_low e.plexes p ≡ true → Contains (lowest_of e.plexes) p
  in_lowest p one low = into_filter (is_low e.plexes) e.plexes p one low

  -- without its relations it is the start of the EMPTY volume
  starts : IsStartOf e (begun_as others [] e)
  starts =
      record {
        empty_is = is.empty_is;
        filled = tt;
        length = refl;
        region = refl;
        alone = refl;
        plexes = λ p one. (p, one, record { map = refl; held = refl; values = λ b. refl });
        low = (is.some.0, is.some.1, λ c one r. ap (λ (x : LogCopy). x r is.some.0.map) (only_copy c one) ∙ is.some.2);
        copy = refl;
        marked = λ c one r low p one_p clear.
            let unmarked : others p.map ≡ false = ap (λ (x : LogCopy). x r p.map) (sym (only_copy c one)) ∙ clear in
            (p, in_lowest p one_p (not_false (is_low e.plexes p) (sym (is.lowest p one_p) ∙ unmarked)), record { map = refl; held = refl; values = λ b. refl });
      }

  -- a clean volume has no region whose plexes may differ
  agrees : (r : ℕ) (B : ℕ → Bool) → IsSoundBy (begun_as others [] e) r B → PlexesAgree (begun_as others [] e) r B
  agrees r B by = elim by.agree [ inl agree ↦ agree | inr may ↦ absurd may ]

  sound_begun : EachEmptyBegins → IsSoundImage image
  sound_begun law r B low choice =
      let by = (law e (begun_as others [] e) starts (record { region = is.well.region; maps = is.well.maps })).0 r B low (record { least = choice.least; most = choice.most }) in
      record { unmarked = by.unmarked; agree = inl (agrees r B by); tracked = λ m one clear. agrees r B by }

  -- ---- it stands for the volume of the first life

  track_sure : (b : Bool) (r : ℕ) → (if b then no_track else whole_track).sure r ≡ true → b ≡ false
  track_sure true r h = absurd (false≢true h)
  track_sure false r h = refl

  track_possible : (b : Bool) (r : ℕ) → b ≡ false → (if b then no_track else whole_track).possible r ≡ true
  track_possible true r h = absurd (false≢true (sym h))
  track_possible false r h = refl

  -- a plex is marked where no lowest plex has its name, ..
  marked_other : (p : PlexImage) → Contains e.plexes p → list_any (is_named p.name) (lowest_of e.plexes) ≡ false → others p.map ≡ true
  marked_other p one none = by (is_low e.plexes p) refl
    where
      by : (b : Bool) → is_low e.plexes p ≡ b → others p.map ≡ true
      by true low = absurd (false≢true (sym none ∙ any_from_one (is_named p.name) (lowest_of e.plexes) p (in_lowest p one low) (bytes_eq_self p.name)))
      by false low = is.lowest p one ∙ ap not low

  -- .. and there alone
  other_marked : (p : PlexImage) → Contains e.plexes p → others p.map ≡ true → list_any (is_named p.name) (lowest_of e.plexes) ≡ false
  other_marked p one marked = by (list_any (is_named p.name) (lowest_of e.plexes)) refl
    where
      by : (b : Bool) → list_any (is_named p.name) (lowest_of e.plexes) ≡ b → b ≡ false
      by true some =
          let q = one_from_any (is_named p.name) (lowest_of e.plexes) some in
          let low = from_filter (is_low e.plexes) e.plexes q.0 q.1 in
          let same : q.0 ≡ p = is.names p q.0 one low.0 q.2 in
          absurd (false≢true (sym (is.lowest p one ∙ ap not (subst (λ (x : PlexImage). is_low e.plexes x ≡ true) same low.1)) ∙ marked))
      by false none = refl

  all_of : (k : ℕ) → others k ≡ true → (r : ℕ) → is_marked_by_all image r k ≡ true
  all_of k h r = and_from (others k) true h refl

  some_of : (k r : ℕ) → is_marked_by_some image r k ≡ true → others k ≡ true
  some_of k r h = elim (or_cases (others k) false h) [ inl marked ↦ marked | inr none ↦ absurd (false≢true none) ]

  pub begun_stands : EachEmptyBegins → (plexes : List Word) → StandsForVolume image (volume_first plexes e)
  begun_stands law plexes =
      record {
        sound = sound_begun law;
        candidates = (law e (begun_as others [] e) starts (record { region = is.well.region; maps = is.well.maps })).1;
        sure = λ p one r low sure. all_of p.map (marked_other p one (track_sure (list_any (is_named p.name) (lowest_of e.plexes)) r sure)) r;
        possible = λ p one r low marked. track_possible (list_any (is_named p.name) (lowest_of e.plexes)) r (other_marked p one (some_of p.map r marked));
        dirty = λ r low marked. absurd (false≢true (sym is.clean ∙ some_of 30 r marked));
      }

  pub begun_over : (plexes : List Word) → BeginsOver image (volume_first plexes e)
  begun_over plexes = record { length_is = refl; region_is = refl; life = refl; began = refl }

  pub begun_well : IsWellFormed image
  begun_well = record { region = is.well.region; maps = is.well.maps }
