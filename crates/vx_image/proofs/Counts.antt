-- What a recovery counts by one copy is what may be told.
use Rattle.std.proofs.Common.{◌≡◌, Bool, true, refl}
use Rattle.std.specs.Prelude.{◌&&◌, not}
use Rattle.std.specs.List.{list_any}
use Rattle.vx_mask.proofs.Tests.{both_parts}
use Rattle.vx_image.specs.Image.{PlexImage, LogCopy, is_available, is_marked_by_all, is_marked_by_some, has_no_copy}
use Rattle.vx_image.specs.Counts.{is_behind_by, EachCountFits}
use Rattle.vx_image.proofs.Members.{each_from_all, one_from_any, any_from_one}

both_true : (x y : Bool) → x ≡ true → y ≡ true → (x && y) ≡ true
both_true x y p q = rw (p, q) refl

pub count_fits : EachCountFits
count_fits v c one =
    record {
      dirty = record {
        set = λ r. c r 30;
        size = refl;
        least = λ r low all. each_from_all (λ (d : LogCopy). d r 30) v.copies c (both_parts (not (has_no_copy v)) (is_marked_by_all v r 30) all).1 one;
        most = λ r low marked. any_from_one (λ (d : LogCopy). d r 30) v.copies c one marked;
      };
      copied = record {
        set = is_behind_by v c;
        size = refl;
        least = λ r low sure.
            let p = one_from_any (λ (p : PlexImage). is_available p && is_marked_by_all v r p.map) v.plexes (both_parts (not (has_no_copy v)) (list_any (λ (p : PlexImage). is_available p && is_marked_by_all v r p.map) v.plexes) sure).1 in
            let x = both_parts (is_available p.0) (is_marked_by_all v r p.0.map) p.2 in
            any_from_one (λ (p : PlexImage). is_available p && c r p.map) v.plexes p.0 p.1 (both_true (is_available p.0) (c r p.0.map) x.0 (each_from_all (λ (d : LogCopy). d r p.0.map) v.copies c x.1 one));
        most = λ r low marked.
            let p = one_from_any (λ (p : PlexImage). is_available p && c r p.map) v.plexes marked in
            let x = both_parts (is_available p.0) (c r p.0.map) p.2 in
            any_from_one (λ (p : PlexImage). is_available p && is_marked_by_some v r p.map) v.plexes p.0 p.1 (both_true (is_available p.0) (is_marked_by_some v r p.0.map) x.0 (any_from_one (λ (d : LogCopy). d r p.0.map) v.copies c one x.1));
      };
    }
