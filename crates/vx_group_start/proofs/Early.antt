-- A volume that is refused before anything is touched.
use Rattle.std.proofs.Common.{◌≡◌, ℕ, zero, suc, ◌<◌, Bool, true, false, List, [], length, None, refl, sym, ap, ◌∙◌, subst, arith, inl, inr}
use Rattle.std.specs.Prelude.{is_some, ◌&&◌, nat_lt}
use Rattle.std.specs.List.{All}
use Rattle.std.proofs.lemmas.Bool.{and_parts, false≢true}
use Rattle.std.proofs.lemmas.List.Elements.{All-nil}
use Rattle.vx_block.specs.Geometry.{is_region_size}
use Rattle.vx_block.specs.Regions.{region_count}
use Rattle.vx_mask.specs.Mask.{has}
use Rattle.vx_mask.proofs.MaskLemmas.{has-zero}
use Rattle.vx_piece.specs.Seen.{Seen}
use Rattle.vx_carve.specs.Together.{Holds}
use Rattle.vx_layout.specs.declared.layout.Layout.{Layout}
use Rattle.vx_pages.specs.declared.local_piece.LocalPiece.{Ghosts}
use Rattle.vx_config_parts.specs.declared.vol.Vol.{Vol}
use Rattle.vx_objects.specs.declared.config.Config.{Config}
use Rattle.vx_volume.specs.declared.log.VolumeLog.TheVariants.{Absent}
use Rattle.vx_volume.specs.declared.volume.VolumeShape.{VolumeShape}
use Rattle.vx_volume.specs.Log.{absent_log}
use Rattle.vx_volume.specs.Opening.{IsFirstUnread}
use Rattle.vx_lending.specs.declared.form.VolumeForm.{VolumeForm}
use Rattle.vx_lending.specs.Form.{IsFormOf}
use Rattle.vx_lending.specs.FormLaws.{IsLogFor}
use Rattle.vx_image.specs.UsedPlexes.{IsVolOf}
use Rattle.vx_lending.proofs.Rules.{vol_geometry}
use Rattle.vx_lending.proofs.Rooms.{logs_are}
use Rattle.vx_maps.proofs.CopyRuns.{none_cut}
use Rattle.vx_lending.specs.Taken.{AreTakenCopies}
use Rattle.vx_lending.specs.declared.public.Public.{Public}
use Rattle.vx_lending.specs.Public.{still_pieces}
use Rattle.vx_group_start.specs.declared.fault.StartFault.{StartFault}
use Rattle.vx_group_start.specs.declared.fault.StartFault.TheVariants.{OutOfMemory, NoLog, NoCurrent, Failed, PowerLost}
use Rattle.vx_group_start.specs.Fresh.{is_fresh}
use Rattle.vx_group_start.specs.Logs.{AreStartCopies, IsLogOf}
use Rattle.vx_group_start.specs.Refused.{IsNotStarted}
use Rattle.vx_group_start.specs.Steps.{IsEarly}

-- ---- no log, and so no copies

copies_none : (numbers : List ℕ) (logs : List Layout) (sectors : ℕ) → logs ≡ [] → AreTakenCopies numbers logs sectors []
copies_none numbers logs sectors e =
    record {
      long = sym (ap (λ (ls : List Layout). length ls) e);
      cut = λ k d lt. absurd (let none : length logs ≡ 0 = ap (λ (ls : List Layout). length ls) e in omega (arith, none, lt));
    }

start_none : (numbers : List ℕ) (form : VolumeForm) (before : List Seen) → form.logs.items ≡ [] → AreStartCopies numbers form before []
start_none numbers form before e = record { taken = copies_none numbers form.logs.items _ e; hold = λ contents h. All-nil (λ copy. All (Holds contents) copy) }

absent_of : {P : Type 0} (ghosts : Ghosts P) (fresh : Bool) (shape : VolumeShape) → IsLogOf {P = P} {ghosts = ghosts} ghosts.seen fresh shape [] Absent
absent_of ghosts true shape = refl
absent_of ghosts false shape = refl

absent_for : (v : Vol) → v.dco ≡ None → IsLogFor v absent_log
absent_for v none = record { there = sym (ap (λ dco. is_some dco) none); regions = λ r lt. refl; maps = λ there. omega arith }

-- ---- no plex that is on

some_size : (n : ℕ) → is_region_size n ≡ true → 0 < n
some_size zero h = absurd (false≢true h)
some_size (suc n) h = omega arith

some_blocks : (n : ℕ) → nat_lt 0 n ≡ true → 0 < n
some_blocks zero h = absurd (false≢true h)
some_blocks (suc n) h = omega arith

some_region : (length region : ℕ) → 0 < length → 0 < region → 0 < region_count length region
some_region length region some some' = grind arith

has_none : (k : ℕ) → has 0 k ≡ true → ⊥
has_none k h = false≢true (sym (has-zero k) ∙ h)

pub first_none : (c : Config) (good : ℕ) (v : Vol) (fresh : Bool) (form : VolumeForm) → IsVolOf c v → IsFormOf c good v fresh form → form.shape.on ≡ 0 → IsFirstUnread form.shape absent_log 0
first_none c good v fresh form of is none =
    let first = and_parts (is_region_size v.region && nat_lt 0 v.len) _ (vol_geometry c v of) in
    let both = and_parts (is_region_size v.region) (nat_lt 0 v.len) first.0 in
    let region = some_size v.region both.0 in
    let blocks = some_blocks v.len both.1 in
    let e = is.shape_is.length_is in
    let f = is.shape_is.region_is in
    record {
      inside = some_region form.shape.geometry.length form.shape.geometry.region (omega (arith, e, blocks)) (omega (arith, f, region));
      none = λ k on. absurd (has_none k (subst (λ n. has n k ≡ true) none on));
      before = λ i lt. absurd (omega (arith, lt));
    }

module _ {P : Type 0} {ghosts : Ghosts P} (c : Config) (good : ℕ) (v : Vol) (numbers : List ℕ) (form : VolumeForm) (of : IsVolOf c v) (is : IsFormOf c good v (is_fresh v.state) form) (old new : Public P ghosts) where
  pub early : (fault : StartFault) → IsEarly v form fault → IsNotStarted ghosts.seen v numbers form old new fault
  early OutOfMemory h = absurd h
  early NoLog h = record { dco = h.0; copies = []; are = start_none numbers form (still_pieces ghosts.seen old) h.1; filled = λ fresh. refl; passed = λ n lt. absurd (omega (arith, lt)) }
  early (NoCurrent r) (zero_is, inl h) =
      inl (record {
        log = Absent;
        is = record {
          copies = [];
          are = start_none numbers form (still_pieces ghosts.seen old) ((logs_are c good v (is_fresh v.state) form of is).none h.0);
          log_is = absent_of ghosts (is_fresh v.state) form.shape;
          cut = none_cut [];
          fits = absent_for v h.0;
        };
        first = subst (IsFirstUnread form.shape absent_log) (sym zero_is) (first_none c good v (is_fresh v.state) form of is h.1);
      })
  early (NoCurrent r) (zero_is, inr h) = inr (record { fresh = h.0; away = h.1; first = zero_is })
  early (Failed device) h = absurd h
  early PowerLost h = absurd h
