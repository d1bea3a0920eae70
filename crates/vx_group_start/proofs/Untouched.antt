-- A volume that was never started, and whose lowest plex is on, is not refused for want of a current plex.
use Rattle.std.proofs.Common.{◌≡◌, ℕ, ◌<◌, ◌^◌, Bool, true, false, List, Result, Err, refl, sym, ap, ◌∙◌, subst, inl, inr}
use Rattle.std.specs.Prelude.{◌&&◌, not, nat_lt, IfErr}
use Rattle.std.proofs.Math.Bool.{and-false}
use Rattle.std.proofs.lemmas.Bool.{cases_lt, false≢true}
use Rattle.vx_mask.specs.Mask.{has, lowest, only}
use Rattle.vx_mask.proofs.MaskLemmas.{has-above, has-only_same, has-without}
use Rattle.vx_block.specs.Regions.{region_count}
use Rattle.vx_piece.specs.Seen.{Seen}
use Rattle.vx_pages.specs.declared.local_piece.LocalPiece.{Ghosts}
use Rattle.vx_config_parts.specs.declared.vol.Vol.{Vol}
use Rattle.vx_volume.specs.declared.log.VolumeLog.{VolumeLog}
use Rattle.vx_volume.specs.declared.log.VolumeLog.TheVariants.{Absent, Maps}
use Rattle.vx_volume.specs.declared.volume.VolumeShape.{VolumeShape}
use Rattle.vx_volume.specs.Log.{log_seen}
use Rattle.vx_objects.specs.declared.config.Config.{Config}
use Rattle.vx_lending.specs.declared.form.VolumeForm.{VolumeForm}
use Rattle.vx_lending.specs.Form.{IsFormOf}
use Rattle.vx_lending.specs.Logs.{marked_maps}
use Rattle.vx_lending.specs.declared.public.Public.{Public}
use Rattle.vx_group_start.specs.declared.fault.StartFault.{StartFault}
use Rattle.vx_group_start.specs.declared.fault.StartFault.TheVariants.{NoCurrent}
use Rattle.vx_group_start.specs.Fresh.{all_maps, is_fresh, is_lowest_on, maps_to_copy}
use Rattle.vx_group_start.specs.Logs.{IsLogOf}
use Rattle.vx_group_start.specs.Refused.{IsNotStarted}

-- a map of a mask is one of 64
of_64 : (mask k : ℕ) → mask < 2 ^ 64 → has mask k ≡ true → k < 64
of_64 mask k fits there = elim (cases_lt k 64) [
  | inl less ↦ less
  | inr more ↦ absurd (false≢true (sym (has-above mask k fits more) ∙ there))
]

-- the lowest map is not marked by a new log
not_marked : (shape : VolumeShape) → lowest (all_maps shape) < 64 → marked_maps (maps_to_copy shape) (lowest (all_maps shape)) ≡ false
not_marked shape low =
    let k : ℕ = lowest (all_maps shape) in
    ap (λ (b : Bool). nat_lt k 32 && b) (has-without (all_maps shape) (only k) k ∙ ap (λ (b : Bool). has (all_maps shape) k && not b) (has-only_same k low) ∙ and-false (has (all_maps shape) k))
    ∙ and-false (nat_lt k 32)

-- so it is not claimed
not_claimed : {P : Type 0} {ghosts : Ghosts P} (shape : VolumeShape) (copies : List (List Seen)) (log : VolumeLog P ghosts) (r : ℕ) → (log_seen ghosts.seen log).has_region r ≡ true →
    lowest (all_maps shape) < 64 → IsLogOf ghosts.seen true shape copies log → (log_seen ghosts.seen log).claims r (lowest (all_maps shape)) ≡ false
not_claimed shape copies Absent r known low is = refl
not_claimed shape copies (Maps store) r known low is = is.claims r (lowest (all_maps shape)) known ∙ not_marked shape low

module _ {P : Type 0} {ghosts : Ghosts P} (c : Config) (good : ℕ) (v : Vol) (numbers : List ℕ) (form : VolumeForm) (is : IsFormOf c good v (is_fresh v.state) form) (fresh : is_fresh v.state ≡ true) (on : is_lowest_on form.shape ≡ true)
    (old new : Public P ghosts) where
  has_current : (r : ℕ) → IsNotStarted ghosts.seen v numbers form old new (NoCurrent r) → ⊥
  has_current r (inl unread) =
      let k : ℕ = lowest (all_maps form.shape) in
      let low : k < 64 = of_64 form.shape.on k is.shape_is.on.fits on in
      let inside : r < region_count v.len v.region = subst (λ n. r < region_count n v.region) is.shape_is.length_is (subst (λ n. r < region_count form.shape.geometry.length n) is.shape_is.region_is unread.first.inside) in
      let known = unread.is.fits.regions r inside in
      let log_is : IsLogOf ghosts.seen true form.shape unread.is.copies unread.log = subst (λ b. IsLogOf ghosts.seen b form.shape unread.is.copies unread.log) fresh unread.is.log_is in
      false≢true (sym (not_claimed form.shape unread.is.copies unread.log r known low log_is) ∙ unread.first.none k on)
  has_current r (inr away) = false≢true (sym away.away ∙ on)

  -- what was answered over pieces was not that
  pub never_unread : {T X : Type 0} (result : Result T StartFault) (r : ℕ) → IfErr result (λ fault. IsNotStarted ghosts.seen v numbers form old new fault) → result ≡ Err (NoCurrent r) → X
  never_unread result r refused same = absurd (has_current r (subst (λ (x : Result _ StartFault). IfErr x (λ fault. IsNotStarted ghosts.seen v numbers form old new fault)) same refused))
