-- What refuses the start of a volume at once is what its form says.
use Rattle.std.proofs.Common.{◌≡◌, ◌∙◌, ◌≢◌, inl, inr, ℕ, ◌<◌, ◌≤◌, ◌^◌, ◌==◌, Bool, true, false, not, List, [], ◌∷◌, length, Some, refl, sym, ap, subst, arith}
use Rattle.std.specs.Prelude.{◌&&◌, ◌||◌, is_some, nat_le}
use Rattle.std.specs.Int.{bit_at, w64}
use Rattle.std.specs.List.{list_any}
use Rattle.std.proofs.lemmas.Bool.{and_parts, cases_lt, eqb-true, false≢true, le-leb, leb-true}
use Rattle.std.proofs.lemmas.Nat.Bits.{bit_at-trailing_zeros}
use Rattle.vx_mask.specs.Mask.{has, lowest, union}
use Rattle.vx_mask.proofs.MaskLemmas.{has-lowest, not_empty, union-lt}
use Rattle.vx_mask.proofs.Sets.{in_union, union_cases}
use Rattle.vx_config_parts.specs.declared.plex.Plex.{Plex}
use Rattle.vx_config_parts.specs.declared.state.VolState.{VolState}
use Rattle.vx_config_parts.specs.declared.state.VolState.TheVariants as vol
use Rattle.vx_config_parts.specs.declared.vol.Vol.{Vol}
use Rattle.vx_config_parts.specs.Objects.{is_data_plex_of}
use Rattle.vx_objects.specs.declared.config.Config.{Config}
use Rattle.vx_answers.specs.declared.answer.End.TheVariants as ends
use Rattle.vx_answers.specs.declared.refusal.Refusal.{Refusal}
use Rattle.vx_answers.specs.declared.refusal.Refusal.TheVariants as refusal
use Rattle.vx_image.proofs.PlexMembers.{IsIn, all_in, any_in, in_any}
use Rattle.vx_image.specs.Bytes.{map_or_zero}
use Rattle.vx_image.specs.UsedPlexes.{IsVolOf, is_on, on_plexes, used_logs}
use Rattle.vx_image.proofs.Members.{all_from_each, is_in}
use Rattle.vx_state_edits.specs.Edits.{is_new}
use Rattle.vx_stages.specs.Starting.{first_of, is_lowest}
use Rattle.vx_stages.specs.Tests.{where_}
use Rattle.vx_volume.specs.declared.volume.VolumeShape.{VolumeShape}
use Rattle.vx_lending.specs.Form.{IsFormOf, IsLayoutOf, IsShapeOf}
use Rattle.vx_lending.specs.declared.form.VolumeForm.{VolumeForm}
use Rattle.vx_lending.proofs.Bits.{into_off, into_on, kept, off_plex, on_plex}
use Rattle.vx_lending.proofs.Distinct.{filtered}
use Rattle.vx_lending.proofs.Zips.{zip_length}
use Rattle.vx_group_start.specs.Fresh.{is_fresh}
use Rattle.vx_stage_volumes.specs.Early.{has_current, is_empty, refusal_here, refusal_of_form}

-- a volume was never started in one state alone
pub new_is_fresh : (s : VolState) → is_new s ≡ is_fresh s
new_is_fresh vol.Empty = refl
new_is_fresh vol.Clean = refl
new_is_fresh vol.Active = refl
new_is_fresh vol.NeedSync = refl
new_is_fresh vol.Sync = refl

-- two tests that hold together are one
same_test : (a b : Bool) → (a ≡ true → b ≡ true) → (b ≡ true → a ≡ true) → a ≡ b
same_test true b f g = sym (f refl)
same_test false true f g = g refl
same_test false false f g = refl

-- no map of a mask is below its lowest
lowest_least : (mask k : ℕ) → mask < 2 ^ 64 → has mask k ≡ true → lowest mask ≤ k
unfolding has lowest
lowest_least mask k fits there =
    elim (cases_lt k (lowest mask)) [
      | inr le ↦ le
      | inl less ↦
          let some : mask ≢ 0 = not_empty mask k there in
          let zero_is : bit_at mask k ≡ 0 = (bit_at-trailing_zeros w64 mask (omega (arith, some)) fits).2 k less in
          absurd (none_there (bit_at mask k == 1) there (ap (λ (n : ℕ). n == 1) zero_is))
    ]
  where
    none_there : (b : Bool) → b ≡ true → b ≡ false → ⊥
    none_there b h k = false≢true (sym k ∙ h)

-- a list is as empty as it is long
empty_long : {A B : Type 0} (xs : List A) (ys : List B) → length ys ≡ length xs → (length xs == 0) ≡ is_empty ys
empty_long [] [] same = refl
empty_long [] (y ∷ ys) same = let no : ⊥ = omega (arith, same) in absurd no
empty_long (x ∷ xs) [] same = let no : ⊥ = omega (arith, same) in absurd no
empty_long (x ∷ xs) (y ∷ ys) same = by (length (x ∷ xs) == 0) refl
  where
    by : (b : Bool) → (length (x ∷ xs) == 0) ≡ b → b ≡ false
    by true e = let none : length (x ∷ xs) ≡ 0 = eqb-true (length (x ∷ xs)) 0 e in absurd (omega (arith, none))
    by false e = refl

module _ (c : Config) (good : ℕ) (v : Vol) (shape : VolumeShape) (is : IsShapeOf c good v shape) (of : IsVolOf c v) where
  in_on : (p : Plex) → IsIn (on_plexes c good v.name) p → has shape.on (map_or_zero p.map) ≡ true
  in_on p there =
      let w = filtered (λ p. is_data_plex_of v.name p && is_on c good p) c.plexes p there in
      let two = and_parts (is_data_plex_of v.name p) (is_on c good p) w.1 in
      is.on.each (map_or_zero p.map) ∙ into_on c good v p w.0 two.0 two.1

  -- each data plex has its map in one of the masks
  in_all : (p : Plex) → IsIn c.plexes p → is_data_plex_of v.name p ≡ true → has (union shape.on shape.off) (map_or_zero p.map) ≡ true
  in_all p there own = by (is_on c good p) refl
    where
      by : (b : Bool) → is_on c good p ≡ b → has (union shape.on shape.off) (map_or_zero p.map) ≡ true
      by true e = in_union shape.on shape.off _ (inl (is.on.each (map_or_zero p.map) ∙ into_on c good v p there own e))
      by false e = in_union shape.on shape.off _ (inr (is.off.each (map_or_zero p.map) ∙ into_off c good v p there own e))

  all_fit : union shape.on shape.off < 2 ^ 64
  all_fit = union-lt shape.on shape.off is.on.fits is.off.fits

  -- some plex is on where the mask has one
  some_on : list_any (λ (p : Plex). true) (on_plexes c good v.name) ≡ not (shape.on == 0)
  some_on = same_test _ _ (λ any. let p = any_in (λ (p : Plex). true) (on_plexes c good v.name) any in by (shape.on == 0) refl (not_empty shape.on (map_or_zero p.0.map) (in_on p.0 p.1))) back
    where
      by : (b : Bool) → (shape.on == 0) ≡ b → shape.on ≢ 0 → not b ≡ true
      by true e some = absurd (some (eqb-true shape.on 0 e))
      by false e some = refl

      other : (b : Bool) → (shape.on == 0) ≡ b → not b ≡ true → shape.on ≢ 0
      other true e h = absurd (false≢true h)
      other false e h = λ zero. let no : (shape.on == 0) ≡ true = ap (λ (n : ℕ). n == 0) zero in false≢true (sym e ∙ no)

      back : not (shape.on == 0) ≡ true → list_any (λ (p : Plex). true) (on_plexes c good v.name) ≡ true
      back some =
          let low = has-lowest shape.on (other (shape.on == 0) refl some) is.on.fits in
          let p = on_plex c good v of shape is (lowest shape.on) low in
          in_any (λ (p : Plex). true) (on_plexes c good v.name) p.plex
          (kept (λ p. is_data_plex_of v.name p && is_on c good p) c.plexes p.plex p.there (and_both _ _ p.own p.on)) refl
        where
          and_both : (a b : Bool) → a ≡ true → b ≡ true → (a && b) ≡ true
          and_both true b h k = k
          and_both false b h k = absurd (false≢true h)

  -- the lowest map
  abbrev low : ℕ
  low = lowest (union shape.on shape.off)

  -- the lowest data plex is on where the mask has it
  lowest_on : list_any (is_lowest c v.name) (on_plexes c good v.name) ≡ has shape.on (lowest (union shape.on shape.off))
  lowest_on = same_test _ _ forth back
    where
      -- no data plex is below one that is lowest
      forth : list_any (is_lowest c v.name) (on_plexes c good v.name) ≡ true → has shape.on low ≡ true
      forth any =
          let p = any_in (is_lowest c v.name) (on_plexes c good v.name) any in
          let on = in_on p.0 p.1 in
          let all : has (union shape.on shape.off) (map_or_zero p.0.map) ≡ true = in_union shape.on shape.off _ (inl on) in
          let there = has-lowest (union shape.on shape.off) (not_empty (union shape.on shape.off) (map_or_zero p.0.map) all) all_fit in
          let least : low ≤ map_or_zero p.0.map = lowest_least (union shape.on shape.off) (map_or_zero p.0.map) all_fit all in
          let most : map_or_zero p.0.map ≤ low = elim (union_cases shape.on shape.off low there) [
            | inl h ↦ let q = on_plex c good v of shape is low h in at_most p.0 p.2 q.plex q.there q.own q.map_is
            | inr h ↦ let q = off_plex c good v of shape is low h in at_most p.0 p.2 q.plex q.there q.own q.map_is
          ] in
          let same : map_or_zero p.0.map ≡ low = omega (arith, least, most) in
          subst (λ n. has shape.on n ≡ true) same on
        where
          at_most : (p : Plex) → is_lowest c v.name p ≡ true → (q : Plex) → IsIn c.plexes q → is_data_plex_of v.name q ≡ true → map_or_zero q.map ≡ low → map_or_zero p.map ≤ low
          at_most p is q there own map_is =
              subst (λ n. map_or_zero p.map ≤ n) map_is
              (leb-true (map_or_zero p.map) (map_or_zero q.map) (all_in (λ (q : Plex). nat_le (map_or_zero p.map) (map_or_zero q.map)) _ q is (kept (is_data_plex_of v.name) c.plexes q there own)))

      back : has shape.on low ≡ true → list_any (is_lowest c v.name) (on_plexes c good v.name) ≡ true
      back h =
          let p = on_plex c good v of shape is low h in
          in_any (is_lowest c v.name) (on_plexes c good v.name) p.plex (kept (λ p. is_data_plex_of v.name p && is_on c good p) c.plexes p.plex p.there (and_both _ _ p.own p.on))
          (all_from_each (λ (q : Plex). nat_le (map_or_zero p.plex.map) (map_or_zero q.map)) _ (λ q there.
          let w = filtered (is_data_plex_of v.name) c.plexes q (is_in _ q there) in
          le-leb (map_or_zero p.plex.map) (map_or_zero q.map) (subst (λ n. n ≤ map_or_zero q.map) (sym p.map_is) (lowest_least (union shape.on shape.off) (map_or_zero q.map) all_fit (in_all q w.0 w.1)))))
        where
          and_both : (a b : Bool) → a ≡ true → b ≡ true → (a && b) ≡ true
          and_both true b h k = k
          and_both false b h k = absurd (false≢true h)

  -- some plex may be current by the form where one is by the configuration
  current_is : (fresh : Bool) → list_any (λ (p : Plex). not fresh || is_lowest c v.name p) (on_plexes c good v.name) ≡ has_current fresh shape
  current_is true = lowest_on
  current_is false = some_on

-- The start of a volume with this form is refused at once as the configuration says.
pub refused_by_form : (c : Config) (good : ℕ) (v : Vol) (form : VolumeForm) → IsVolOf c v → IsFormOf c good v (is_fresh v.state) form → refusal_here c good v ≡ refusal_of_form v form
refused_by_form c good v form of is =
    let logs : (length (used_logs v.dco c good (is_new v.state) v.name) == 0) ≡ is_empty form.logs.items =
    ap (λ (b : Bool). length (used_logs v.dco c good b v.name) == 0) (new_is_fresh v.state) ∙ empty_long _ form.logs.items (zip_length (IsLayoutOf c) _ form.logs.items is.logs) in
    let current = current_is c good v form.shape is.shape_is of (is_new v.state) in
    ap (λ (b : Bool). first_of (where_ (is_some v.dco && b) (refusal.NoLog v.name)) (where_ ((is_new v.state || not (is_some v.dco)) && not (list_any (λ (p : Plex). not (is_new v.state) || is_lowest c v.name p) (on_plexes c good v.name))) (refusal.NoCurrent 0))) logs
    ∙ ap (λ (b : Bool). first_of (where_ (is_some v.dco && is_empty form.logs.items) (refusal.NoLog v.name)) (where_ ((is_new v.state || not (is_some v.dco)) && not b) (refusal.NoCurrent 0))) current

-- what refuses it is told
pub refused_as : (c : Config) (good : ℕ) (v : Vol) (form : VolumeForm) → IsVolOf c v → IsFormOf c good v (is_fresh v.state) form → (r : Refusal) → refusal_of_form v form ≡ Some r →
    (x : Refusal) × (refusal_here c good v ≡ Some x) × (ends.Refused r ≡ ends.Refused x)
refused_as c good v form of is r told = (r, refused_by_form c good v form of is ∙ told, refl)
