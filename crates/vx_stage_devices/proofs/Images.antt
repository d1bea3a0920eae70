-- The stage that makes a device of zeros.
use Rattle.std.proofs.Common.{◌≡◌, ◌∙◌, ◌↔◌, ℕ, ◌≤◌, ◌<◌, Bool, false, List, Option, Some, None, Ok, Err, replicate, refl, sym, ap, subst, arith, inl, inr}
use Rattle.std.specs.Prelude.{IsTrue, IsSome, IfSome}
use Rattle.std.specs.Str.{bytes_eq}
use Rattle.vx_pages.specs.declared.local_piece.LocalPiece.{Ghosts}
use Rattle.vx_base.specs.Blocks.{Contents}
use Rattle.vx_base.specs.Counts.{Rose}
use Rattle.vx_base.specs.Named.{Word, put, SameUnder}
use Rattle.vx_base.proofs.NamedLemmas.{put_same, put_other}
use Rattle.vx_piece.specs.Seen.{Seen}
use Rattle.vx_shelf.specs.Shelf.{Held, IsMade, IsUsed, Joins, SameCounts}
use Rattle.vx_script_words.specs.declared.value.DiskAt.{DiskAt}
use Rattle.vx_answers.specs.declared.refusal.Refusal.TheVariants.{Exists}
use Rattle.vx_moments.specs.World.{World, Device}
use Rattle.vx_moments.specs.Moment.{Moment, AreLater, CallsNone, IsQuiet}
use Rattle.vx_stages.specs.Ends.{fault_of, refused}
use Rattle.vx_stages.specs.Stages.{IsDone}
use Rattle.vx_stages.specs.declared.stage.Stage.TheVariants as stage
use Rattle.vx_house.specs.Goes.{Goes, StageGoes}
use Rattle.vx_house.specs.Holders.{holders, held_as}
use Rattle.vx_house.specs.Scene.{Shelved, seen_in, seen_at, faults_in, faults_at, count_in, counts_of, FaultsGoOn}
use Rattle.vx_house.specs.View.{View, at, scene, is_lent, IsDeviceOf, IsMoment, Keeps}
use Rattle.vx_house.specs.declared.stop.Stop.TheVariants.{Ended, OutOfMemory}
use Rattle.vx_house.proofs.Free.{not_held, nowhere_is_none}
use Rattle.vx_house.proofs.Holders.{same_held}
use Rattle.vx_house.proofs.Moments.{moment_at, counts_own, later_refl, faults_moved}
use Rattle.vx_house.proofs.Takes.{some_of, rests_self, rested_moment, still_rested, failing_faults, failing_moment, failing_later, failing_calls}
use Rattle.vx_house.proofs.Steps.{each_name}

told_zeros : (told : Option Contents) (count : ℕ) → IsSome told → IfSome told (λ c. (k : ℕ) → k < count → c k ≡ replicate 512 0) → (c : Contents) × (told ≡ Some c) × ((k : ℕ) → k < count → c k ≡ replicate 512 0)
told_zeros None count is zeros = cc
told_zeros (Some c) count is zeros = (c, refl, zeros)

not_some : {X : Type 0} (o : Option X) → (IsSome o → ⊥) → o ≡ None
not_some None none = refl
not_some (Some x) none = absurd (none refl)

-- what the shelf says of the name, once it answered
pub is_unused : (free : Option (Word → Option Seen)) (held : Word → Option Held) (name : Word) (A : Type 0) → (A → ⊥) → IfSome free (λ devices. A ↔ IsUsed name devices held) → IfSome free (λ devices. IsUsed name devices held → ⊥)
is_unused None held name A not both = tt
is_unused (Some devices) held name A not both = λ used. not (both.1 used)

pub is_used : (free : Option (Word → Option Seen)) (held : Word → Option Held) (name : Word) (A : Type 0) → A → IfSome free (λ devices. A ↔ IsUsed name devices held) → IfSome free (λ devices. IsUsed name devices held)
is_used None held name A it both = tt
is_used (Some devices) held name A it both = both.0 it

-- a device that is seen stands in the world
stands : (lent : Bool) (o : Option Seen) (d : Option Device) → IsDeviceOf lent o d → IsSome o → IsSome d
stands lent None d of some = cc
stands lent (Some s) None of some = absurd of
stands lent (Some s) (Some d) of some = refl

module _ {P : Type 0} {ghosts : Ghosts P} (see : P → Seen) (v : View P ghosts) (keeps : Keeps see v) (shelf : Shelved) (name : Word) (sectors : ℕ) (disks : List DiskAt) (held : SameUnder v.shelf.held shelf.held) (counts : SameCounts v.shelf.counted shelf.counted) where
  abbrev new : View P ghosts
  new = at shelf v.house

  new_keeps : Keeps see new
  new_keeps = record { devices = same_held v.shelf.held shelf.held (holders see v.house) held keeps.devices; house = keeps.house }

  same_faults : (other : Word) → faults_at (scene see new) other ≡ faults_at (scene see v) other
  same_faults other = ap (faults_in (held_as (holders see v.house) other)) (counts other)

  new_faults : v.shelf.faults ≤ shelf.faults → FaultsGoOn (scene see v) (scene see new)
  new_faults later = record { devices = λ other. let e = same_faults other in omega (arith, e); shelf = later }

  -- The device is made.
  module _ (old_devices new_devices : Word → Option Seen) (old_told : v.shelf.free ≡ Some old_devices) (new_told : shelf.free ≡ Some new_devices) (joins : Joins name sectors v.shelf.held old_devices new_devices) (unused : IsUsed name old_devices v.shelf.held → ⊥)
      (quiet : shelf.faults ≡ v.shelf.faults) (m : Moment) (is : IsMoment see v m) where
    zeros : (c : Contents) × (joins.device.told ≡ Some c) × ((k : ℕ) → k < sectors → c k ≡ replicate 512 0)
    zeros = told_zeros joins.device.told sectors joins.blank.told joins.blank.zeros

    abbrev blank : Device
    blank = record { sectors = sectors; contents = zeros.0 }

    abbrev made : World
    made = record m.world { devices = put name (Some blank) m.world.devices }

    none_free : old_devices name ≡ None
    none_free = not_some (old_devices name) (λ some. unused (inl some))

    none_held : v.shelf.held name ≡ None
    none_held = not_some (v.shelf.held name) (λ some. unused (inr some))

    held_none : held_as (holders see v.house) name ≡ None
    held_none = not_held v.shelf.held (holders see v.house) name keeps.devices.each none_held

    seen_before : seen_at (scene see v) name ≡ None
    seen_before = ap (λ o. seen_in o v.shelf.free name) held_none ∙ ap (λ f. seen_in None f name) old_told ∙ none_free

    seen_now : seen_at (scene see new) name ≡ Some joins.device
    seen_now = ap (λ o. seen_in o shelf.free name) held_none ∙ ap (λ f. seen_in None f name) new_told ∙ joins.after name ∙ put_same name (Some joins.device) old_devices

    seen_other : (other : Word) → bytes_eq name other ≡ false → seen_at (scene see new) other ≡ seen_at (scene see v) other
    seen_other other e =
        ap (λ f. seen_in (held_as (holders see v.house) other) f other) new_told ∙ by_held (held_as (holders see v.house) other)
        ∙ sym (ap (λ f. seen_in (held_as (holders see v.house) other) f other) old_told)
      where
        by_held : (o : Option Seen) → seen_in o (Some new_devices) other ≡ seen_in o (Some old_devices) other
        by_held None = joins.after other ∙ put_other name other (Some joins.device) old_devices e
        by_held (Some s) = refl

    made_moment : IsMoment see new (moment_at made (scene see new))
    made_moment = record {
      told = subst IsSome (sym new_told) refl;
      devices_are = each_name name (λ other. IsDeviceOf (is_lent v.house other) (seen_at (scene see new) other) (put name (Some blank) m.world.devices other))
          (subst (λ o. IsDeviceOf (is_lent v.house name) o (put name (Some blank) m.world.devices name)) (sym seen_now)
          (subst (λ d. IsDeviceOf (is_lent v.house name) (Some joins.device) d) (sym (put_same name (Some blank) m.world.devices)) (sym joins.blank.sectors, λ free. zeros.1)))
          (λ other e. subst (λ o. IsDeviceOf (is_lent v.house other) o (put name (Some blank) m.world.devices other)) (sym (seen_other other e))
          (subst (λ d. IsDeviceOf (is_lent v.house other) (seen_at (scene see v) other) d) (sym (put_other name other (Some blank) m.world.devices e)) (is.devices_are other)));
      volumes_are = is.volumes_are;
      runs_are = is.runs_are;
      group_is = is.group_is;
      counts = counts_own (scene see new);
    }

    made_later : AreLater m.counts (counts_of (scene see new))
    made_later = record {
      faults = λ other. let a = is.counts.faults other in let b = same_faults other in omega (arith, a, b);
      cut = each_name name (λ other. IsTrue (m.counts.cut other) → IsTrue (count_in (λ seen. seen.cut) false (seen_at (scene see new) other)))
          (λ cut. let none : m.counts.cut name ≡ false = is.counts.cut name ∙ ap (count_in (λ seen. seen.cut) false) seen_before in cc)
          (λ other e cut. subst IsTrue (is.counts.cut other ∙ ap (count_in (λ seen. seen.cut) false) (sym (seen_other other e))) cut);
      shelf = let a = is.counts.shelf in omega (arith, a, quiet);
    }

    made_calls : CallsNone m.counts (counts_of (scene see new))
    made_calls = record {
      reads = each_name name (λ other. count_in (λ seen. seen.reads) 0 (seen_at (scene see new) other) ≡ m.counts.reads other)
          (ap (count_in (λ seen. seen.reads) 0) seen_now ∙ joins.blank.reads ∙ sym (is.counts.reads name ∙ ap (count_in (λ seen. seen.reads) 0) seen_before))
          (λ other e. ap (count_in (λ seen. seen.reads) 0) (seen_other other e) ∙ sym (is.counts.reads other));
      writes = each_name name (λ other. count_in (λ seen. seen.writes) 0 (seen_at (scene see new) other) ≡ m.counts.writes other)
          (ap (count_in (λ seen. seen.writes) 0) seen_now ∙ joins.blank.writes ∙ sym (is.counts.writes name ∙ ap (count_in (λ seen. seen.writes) 0) seen_before))
          (λ other e. ap (count_in (λ seen. seen.writes) 0) (seen_other other e) ∙ sym (is.counts.writes other));
    }

    made_quiet : IsQuiet m.counts (counts_of (scene see new))
    made_quiet = record { devices = λ other. same_faults other ∙ sym (is.counts.faults other); shelf = quiet ∙ sym is.counts.shelf }

    made_goes : (n : Moment) × IsMoment see new n × AreLater m.counts n.counts × IsDone (stage.MakeImage name sectors) disks m n
    made_goes = (
      moment_at made (scene see new),
      made_moment,
      made_later,
      (
        nowhere_is_none see (scene see v) v.house keeps.devices refl keeps.house m.world is.volumes_are is.group_is old_devices old_told is.devices_are name (record { not_free = none_free; not_held = none_held }),
        record { contents = zeros.0; zeros = zeros.2; is = refl },
        made_calls,
        made_quiet,
      ),
    )

  goes_by : (a b : Option (Word → Option Seen)) → v.shelf.free ≡ a → shelf.free ≡ b → IsMade name sectors v.shelf.held a b → IfSome a (λ devices. IsUsed name devices v.shelf.held → ⊥) → shelf.faults ≡ v.shelf.faults → Goes see (IsDone (stage.MakeImage name sectors) disks) v new
  goes_by None b at_old at_new made unused quiet m is = let some = some_of v.shelf.free is.told in let e : v.shelf.free ≡ Some some.0 = some.1 in cc
  goes_by (Some x) None at_old at_new made unused quiet m is = absurd made
  goes_by (Some x) (Some y) at_old at_new made unused quiet m is = made_goes x y at_old at_new made unused quiet m is

  pub image_made : IsMade name sectors v.shelf.held v.shelf.free shelf.free → IfSome v.shelf.free (λ devices. IsUsed name devices v.shelf.held → ⊥) → shelf.faults ≡ v.shelf.faults → StageGoes {T = Unit {0}} see (stage.MakeImage name sectors) disks (Ok tt) v new
  image_made made unused quiet = record {
    keeps = new_keeps;
    goes = goes_by v.shelf.free shelf.free refl refl made unused quiet;
    gives = tt;
    still = λ e. cc;
    faults = new_faults (omega (arith, quiet));
    blamed = tt;
  }

  module _ (free : shelf.free ≡ v.shelf.free) where
    -- the name is used
    used_stands : IfSome v.shelf.free (λ devices. IsUsed name devices v.shelf.held) → (m : Moment) → IsMoment see v m → IsSome (m.world.devices name)
    used_stands used m is =
        let devices = some_of v.shelf.free is.told in
        stands (is_lent v.house name) (seen_at (scene see v) name) (m.world.devices name) (is.devices_are name)
        (subst (λ f. IsSome (seen_in (held_as (holders see v.house) name) f name)) (sym devices.1)
        (by_held devices.0 (held_as (holders see v.house) name) refl (subst (λ (f : Option (Word → Option Seen)). IfSome f (λ d. IsUsed name d v.shelf.held)) devices.1 used)))
      where
        by_held : (devices : Word → Option Seen) (o : Option Seen) → held_as (holders see v.house) name ≡ o → IsUsed name devices v.shelf.held → IsSome (seen_in o (Some devices) name)
        by_held devices (Some s) e used = refl
        by_held devices None e (inl there) = there
        by_held devices None e (inr taken) = let none : v.shelf.held name ≡ None = keeps.devices.only name e in cc

    pub image_exists : IfSome v.shelf.free (λ devices. IsUsed name devices v.shelf.held) → shelf.faults ≡ v.shelf.faults → StageGoes {T = Unit {0}} see (stage.MakeImage name sectors) disks (Err (Ended (refused (Exists name)))) v new
    image_exists used quiet =
        let rested = still_rested see v keeps shelf v.house refl refl refl free held counts quiet in
        record {
          keeps = new_keeps;
          goes = λ m is. (m, rested_moment see v new rested m is, later_refl m.counts, inl (used_stands used m is, (refl, rests_self m)));
          gives = tt;
          still = λ e. tt;
          faults = faults_moved (scene see v) (scene see new) rested.moved;
          blamed = tt;
        }

    pub image_failed : Rose v.shelf.faults shelf.faults → v.shelf.faults ≤ shelf.faults → StageGoes {T = Unit {0}} see (stage.MakeImage name sectors) disks (Err (Ended (fault_of name))) v new
    image_failed rose later = record {
      keeps = new_keeps;
      goes = λ m is. (
        moment_at m.world (scene see new),
        failing_moment see v keeps shelf v.house refl refl refl free held counts later m is,
        failing_later see v keeps shelf v.house refl refl refl free held counts later m is,
        inr (refl, failing_calls see v keeps shelf v.house refl refl refl free held counts later m is, refl, subst (λ n. Rose n shelf.faults) (sym is.counts.shelf) rose),
      );
      gives = tt;
      still = λ e. tt;
      faults = failing_faults see v keeps shelf v.house refl refl refl free held counts later;
      blamed = inr rose;
    }

    pub image_refused : shelf.faults ≡ v.shelf.faults → StageGoes {T = Unit {0}} see (stage.MakeImage name sectors) disks (Err OutOfMemory) v new
    image_refused quiet =
        let rested = still_rested see v keeps shelf v.house refl refl refl free held counts quiet in
        record {
          keeps = new_keeps;
          goes = λ m is. (m, rested_moment see v new rested m is, later_refl m.counts, refl);
          gives = tt;
          still = λ e. tt;
          faults = faults_moved (scene see v) (scene see new) rested.moved;
          blamed = tt;
        }
