-- What is read from the bytes of a volume, and the volume that they stand for.
use Rattle.std.proofs.Common.{◌≡◌, ℕ, Bool, true, false, refl}
use Rattle.std.specs.Prelude.{◌&&◌, ◌||◌, not, Contains}
use Rattle.std.specs.List.{list_all, list_any}
use Rattle.std.proofs.lemmas.Bool.{false≢true, and_parts, and_from}
use Rattle.vx_base.proofs.NamedLemmas.{bytes_eq_self}
use Rattle.vx_image.specs.Image.{PlexImage, Image, is_marked_by_all, has_no_copy}
use Rattle.vx_image.specs.Meaning.{sure_read, possible_read}
use Rattle.vx_image.proofs.Members.{each_from_all, any_from_one}
use Rattle.vx_image.proofs.Readings.{read_stands, read_within}
use Rattle.vx_moments.specs.Volumes.{is_named, track_read, EachVolumeIsReadBack, EachVolumeReadStands}

not_false : (b : Bool) → b ≡ false → not b ≡ true
not_false true h = cc
not_false false h = refl

pub each_volume_is_read_back : EachVolumeIsReadBack
each_volume_is_read_back image v stands =
    record {
      candidates = λ b value lt among. read_within image v.life.candidates stands.candidates b value lt among;
      sure = λ some p one r low sure. and_from (not (has_no_copy image)) (is_marked_by_all image r p.map) (not_false (has_no_copy image) some) (stands.sure p one r low sure);
      possible = stands.possible;
      dirty = stands.dirty;
    }

or_second : (a b : Bool) → a ≡ true → (not a || b) ≡ true → b ≡ true
or_second true b e h = h
or_second false b e h = absurd (false≢true e)

module _ (v : Image) (p : PlexImage) (one : Contains v.plexes p) (r : ℕ) where
  sure_marked : (track_read v p.name).sure r ≡ true → is_marked_by_all v r p.map ≡ true
  sure_marked sure =
      let each = (and_parts (list_any (is_named p.name) v.plexes) (list_all (λ q. not (is_named p.name q) || sure_read v q.map r) v.plexes) sure).1 in
      let own = each_from_all (λ q. not (is_named p.name q) || sure_read v q.map r) v.plexes p each one in
      (and_parts (not (has_no_copy v)) (is_marked_by_all v r p.map) (or_second (is_named p.name p) (sure_read v p.map r) (bytes_eq_self p.name) own)).1

  marked_possible : possible_read v p.map r ≡ true → (track_read v p.name).possible r ≡ true
  marked_possible marked = any_from_one (λ q. is_named p.name q && possible_read v q.map r) v.plexes p one (and_from (is_named p.name p) (possible_read v p.map r) (bytes_eq_self p.name) marked)

pub each_volume_read_stands : EachVolumeReadStands
each_volume_read_stands plexes v sound =
    record {
      sound = sound;
      candidates = read_stands v;
      sure = λ p one r low sure. sure_marked v p one r sure;
      possible = λ p one r low marked. marked_possible v p one r marked;
      dirty = λ r low marked. marked;
    }
