-- A volume that another configuration keeps, whatever disks have failed since, lies within the candidates that it lay within.
use Rattle.std.proofs.Common.{◌≡◌, ◌∙◌, ℕ, ◌/◌, ◌<◌, ◌==◌, ◌||◌, zero, suc, ◌&&◌, not, true, false, List, [], ◌∷◌, length, refl, sym, ap, subst, inl, inr, arith}
use Rattle.std.specs.Prelude.{Contains, nat_lt}
use Rattle.std.proofs.lemmas.Bool.{and_from, and_parts, false≢true}
use Rattle.vx_life.specs.Candidates.{Candidates}
use Rattle.vx_mask.proofs.Tests.{not_both, or_from_left, or_from_right, true_or_false}
use Rattle.vx_config_parts.specs.declared.vol.Vol.{Vol}
use Rattle.vx_objects.specs.declared.config.Config.{Config}
use Rattle.vx_image.specs.Bytes.{Sectors, image_of}
use Rattle.vx_image.specs.Image.{Image, LogCopy, PlexImage, has_no_copy, is_alone, is_marked_by_some, is_unmarked_by_some, regions_of}
use Rattle.vx_image.specs.Soundness.{IsSoundImage}
use Rattle.vx_image.specs.UsedPlexes.{IsVolOf}
use Rattle.vx_image.proofs.Members.{any_from_one, each_from_all, only_one}
use Rattle.vx_image.proofs.PlexMembers.{IsIn}
use Rattle.vx_lending.proofs.Rules.{vol_geometry}
use Rattle.vx_block.specs.Geometry.{is_region_size}
use Rattle.vx_state_edits.specs.Edits.{is_new}
use Rattle.vx_moments.proofs.Blocks.{below_count}
use Rattle.vx_readings.proofs.Less.{IsLessImage, less_sound}
use Rattle.vx_volume_laws.specs.Keeping.{KeepsVolume}
use Rattle.vx_group_edits.specs.Stays.{AreFewer, EachStays}
use Rattle.vx_group_edits.proofs.ByKind.{vol_recorded}
use Rattle.vx_sound_volumes.proofs.Commits.{one_vol, vol_of}
use Rattle.vx_sound_volumes.proofs.Images.{kept_less, kept_plexes}
use Rattle.vx_sound_imports.specs.Left.{LiesWithin}
use Rattle.vx_sound_imports.proofs.Alike.{LoneWasRead, less_among}

pub some_one : {X : Type 0} (xs : List X) → (length xs == 0) ≡ false → (x : X) × Contains xs x
some_one [] e = absurd (false≢true (sym e))
some_one (x ∷ xs) e = (x, (0, omega arith, refl))

-- where a copy counts, the only plex of a sound volume is marked by none
lone_clear : (one : Image) → IsSoundImage one → has_no_copy one ≡ false → (length one.plexes == 1) ≡ true → (p : PlexImage) → Contains one.plexes p → (r : ℕ) → r < regions_of one → is_unmarked_by_some one r p.map ≡ true
lone_clear one sound copies lonely p there r low =
    let c = some_one one.copies copies in
    let by = sound r (λ k. is_marked_by_some one r k) low (record {
      least = λ k all. any_from_one (λ (x : LogCopy). x r k) one.copies c.0 c.1 (each_from_all (λ (x : LogCopy). x r k) one.copies c.0 all c.1);
      most = λ k is. is;
    }) in
    let same : by.unmarked.0 ≡ p = only_one one.plexes by.unmarked.0 p lonely by.unmarked.1 there in
    let none : is_marked_by_some one r p.map ≡ false = subst (λ (q : PlexImage). is_marked_by_some one r q.map ≡ false) same by.unmarked.2 in
    any_from_one (λ (x : LogCopy). not (x r p.map)) one.copies c.0 c.1
    (elim (true_or_false (c.0 r p.map)) [
      | inl is ↦ absurd (not_both (any_from_one (λ (x : LogCopy). x r p.map) one.copies c.0 c.1 is) none)
      | inr off ↦ ap not off
    ])

-- it is read wherever it is available
pub lone_read : (one : Image) → IsSoundImage one → (length one.plexes == 1) ≡ true → (p : PlexImage) → Contains one.plexes p → (r : ℕ) → r < regions_of one → (is_unmarked_by_some one r p.map || is_alone one) ≡ true
lone_read one sound lonely p there r low = elim (true_or_false (has_no_copy one)) [
  | inl none ↦ or_from_right (is_unmarked_by_some one r p.map) (is_alone one) (and_from (has_no_copy one) (length one.plexes == 1) none lonely)
  | inr copies ↦ or_from_left (is_unmarked_by_some one r p.map) (is_alone one) (lone_clear one sound copies lonely p there r low)
]

module _ (one other : Image) (less : IsLessImage one other) (plexes : length other.plexes ≡ length one.plexes) (sized : 0 < one.region) (sound : IsSoundImage one) where
  was_read : LoneWasRead one other
  was_read b low alone q there =
      let parts = and_parts (has_no_copy other) (length other.plexes == 1) alone in
      let lonely : (length one.plexes == 1) ≡ true = subst (λ n. (n == 1) ≡ true) plexes parts.1 in
      let inside : b / other.region < regions_of one = subst (λ n. b / n < regions_of one) (sym less.region) (below_count b one.length one.region sized (subst (λ n. b < n) less.length low)) in
      lone_read one sound lonely q there (b / other.region) inside

pub fewer_within : (one other : Image) → IsLessImage one other → length other.plexes ≡ length one.plexes → 0 < one.region → (candidates : Candidates) → is_new one.state ≡ false → LiesWithin one candidates → LiesWithin other candidates
fewer_within one other less plexes sized candidates started lies = record {
  sound = less_sound one other less lies.sound;
  among = less_among one other less (was_read one other less plexes sized lies.sound) candidates started lies.among;
}

some_size : (n : ℕ) → is_region_size n ≡ true → 0 < n
some_size zero h = absurd (false≢true h)
some_size (suc n) h = omega arith

pub some_blocks : (c : Config) (v : Vol) → IsVolOf c v → 0 < v.region
some_blocks c v of =
    let first = and_parts (is_region_size v.region && nat_lt 0 v.len) _ (vol_geometry c v of) in
    some_size v.region (and_parts (is_region_size v.region) (nat_lt 0 v.len) first.0).0

pub kept_within : (c : Config) (good : ℕ) (v : Vol) (c' : Config) (good' : ℕ) (v' : Vol) → KeepsVolume c good v false c' good' v' → v'.state ≡ v.state → IsVolOf c v → (bytes : Sectors) (candidates : Candidates) → is_new v.state ≡ false →
    LiesWithin (image_of c good bytes v) candidates → LiesWithin (image_of c' good' bytes v') candidates
kept_within c good v c' good' v' keeps state of bytes candidates started lies =
    fewer_within (image_of c good bytes v) (image_of c' good' bytes v') (kept_less c good v c' good' v' keeps bytes state) (kept_plexes c good v c' good' v' keeps bytes) (some_blocks c v of) candidates started lies

-- what an edit keeps lies where it lay, as the new configuration records it
pub stayed_within : (These : Vol → Type 0) (c c' : Config) → EachStays These c c' → (good good' : ℕ) → AreFewer c good good' → (v w : Vol) → IsIn c.volumes v → These v → IsIn c'.volumes w → v.name ≡ w.name →
    (bytes : Sectors) (candidates : Candidates) → (is_new v.state ≡ false → LiesWithin (image_of c good bytes v) candidates) → is_new w.state ≡ false → LiesWithin (image_of c' good' bytes w) candidates
stayed_within These c c' stays good good' fewer v w there these mine same bytes candidates lies started =
    let of = vol_of c v there in
    let s = stays v of these good good' fewer in
    let one : s.now ≡ w = one_vol c' s.now w (vol_recorded c' s.now s.recorded) mine (s.name ∙ same) in
    let before : is_new v.state ≡ false = ap is_new (sym s.state ∙ ap (λ (y : Vol). y.state) one) ∙ started in
    subst (λ (y : Vol). LiesWithin (image_of c' good' bytes y) candidates) one (kept_within c good v c' good' s.now s.keeps s.state of bytes candidates before (lies before))
