-- A volume that is opened out of the pieces of its group, or not.
use Rattle.std.proofs.Common.{◌≡◌, inl, inr, ℕ, ◌^◌, ◌++◌, List, map, refl, sym, ap, subst}
use Rattle.vx_pages.specs.declared.local_piece.LocalPiece.{Ghosts}
use Rattle.vx_piece.specs.Seen.{Seen}
use Rattle.vx_config_parts.specs.declared.vol.Vol.{Vol}
use Rattle.vx_copies.specs.declared.disk.Disk.{Disk}
use Rattle.vx_lending.specs.Form.{IsFormOf}
use Rattle.vx_objects.specs.declared.config.Config.{Config}
use Rattle.vx_lending.specs.FormLaws.{AreFree, AreNumbered, all_layouts}
use Rattle.vx_lending.specs.declared.form.VolumeForm.{VolumeForm}
use Rattle.vx_lending.specs.Going.{GoTogether}
use Rattle.vx_lending.specs.Left.{held_pieces}
use Rattle.vx_lending.specs.declared.public.Public.{Public}
use Rattle.vx_lending.specs.declared.public.Running.{Running}
use Rattle.vx_lending.specs.Public.{still_pieces}
use Rattle.vx_group_start.specs.Fresh.{is_fresh}
use Rattle.vx_group_start.specs.Refused.{IsRefused}
use Rattle.vx_group_start.specs.Started.{IsStarted}
use Rattle.vx_group_start.specs.Together.{ComeBack, GoByLog}
use Rattle.vx_group_start.specs.declared.fault.StartFault.{StartFault}
use Rattle.vx_house.specs.declared.house.Imported.{Imported}
use Rattle.vx_house.specs.declared.stop.Stop.{Stop}
use Rattle.vx_house.specs.declared.stop.Stop.TheVariants as stops
use Rattle.vx_stage_volumes.specs.Naming.{unopened}
use Rattle.vx_stage_volumes.specs.Numbers.{AreNumbersOf}
use Rattle.vx_stage_volumes.specs.Opening.{AreSlotNumbers, IsFreeIn, IsUnopenedIn, OpensIn, SameButStill, good_of}

-- the numbers that were found are those of the slots
pub numbers_are : {P : Type 0} {ghosts : Ghosts P} (see : P → Seen) (g : Imported P ghosts) (ds : List (Disk P)) (found numbers : List ℕ) → ds ≡ g.base.disks.items → numbers ≡ found →
    AreNumbersOf see ds 32 (2 ^ 32) found → AreSlotNumbers see g numbers
numbers_are see g ds found numbers disks same are = subst (λ ns. AreNumbersOf see g.base.disks.items 32 (2 ^ 32) ns) (sym same) (subst (λ xs. AreNumbersOf see xs 32 (2 ^ 32) found) disks are)

-- The configuration of the group may be said to be valid in another way: it is the same.
module _ {P : Type 0} {ghosts : Ghosts P} (see : P → Seen) (v : Vol) (g : Imported P ghosts) (config : Config) (config_is : config ≡ g.config) where
  -- the group with other pieces behind its fronts
  abbrev with_public : Config → Public P ghosts → Imported P ghosts
  with_public k public = record { config = k; base = g.base; public = public }

  same_but : (public : Public P ghosts) → public.running ≡ g.public.running → public.stuck ≡ g.public.stuck → SameButStill g (with_public config public)
  same_but public running stuck = record { group = ap (λ k. with_public k public) config_is; running = running; stuck = stuck }

  -- nothing was touched
  pub wanting : IsUnopenedIn see v g (with_public config g.public) stops.OutOfMemory
  wanting = record { same = same_but g.public refl refl; cause = inl (refl, refl) }

  module _ (public : Public P ghosts) (running : public.running ≡ g.public.running) (stuck : public.stuck ≡ g.public.stuck)
      (good : ℕ) (good_is : good ≡ good_of see g) (numbers : List ℕ) (are : AreSlotNumbers see g numbers) (numbered : AreNumbered numbers good config.disks) where
    pub numbered_here : AreNumbered numbers (good_of see g) g.config.disks
    numbered_here = subst (λ n. AreNumbered numbers n g.config.disks) good_is (subst (λ (k : Config). AreNumbered numbers good k.disks) config_is numbered)

    pub opens_by : (r : Running P ghosts) → IsFormOf config good v (is_fresh v.state) r.form → IsStarted see v numbers g.public public r → GoByLog numbers r.form (is_fresh v.state) (still_pieces see g.public) (held_pieces see r.volume ++ still_pieces see public) → public.left.items ≡ g.public.left.items → OpensIn see v g (with_public config public) r
    opens_by r form started goes left = record {
      same = same_but public running stuck;
      left = left;
      numbers = numbers;
      are = are;
      numbered = numbered_here;
      form = subst (λ n. IsFormOf g.config n v (is_fresh v.state) r.form) good_is (subst (λ k. IsFormOf k good v (is_fresh v.state) r.form) config_is form);
      started = started;
      goes = goes;
    }

    pub refused_by : (fault : StartFault) (stop : Stop) → stop ≡ unopened see g.base.disks.items v.name fault → IsRefused see config good v numbers g.public public fault → GoTogether (still_pieces see g.public) (still_pieces see public) → ComeBack config good v numbers (still_pieces see g.public) (still_pieces see public) →
        IsUnopenedIn see v g (with_public config public) stop
    refused_by fault stop is refused back comes = record {
      same = same_but public running stuck;
      cause = inr (
        fault,
        is,
        record {
          numbers = numbers;
          are = are;
          numbered = numbered_here;
          refused = subst (λ n. IsRefused see g.config n v numbers g.public public fault) good_is (subst (λ k. IsRefused see k good v numbers g.public public fault) config_is refused);
          back = back;
          comes = subst (λ n. ComeBack g.config n v numbers (still_pieces see g.public) (still_pieces see public)) good_is (subst (λ k. ComeBack k good v numbers (still_pieces see g.public) (still_pieces see public)) config_is comes);
        },
      );
    }

  -- what a form lies in is free
  pub free_by : IsFreeIn see g v → (good : ℕ) → good ≡ good_of see g → (numbers : List ℕ) → AreSlotNumbers see g numbers → AreNumbered numbers good config.disks → (form : VolumeForm) → IsFormOf config good v (is_fresh v.state) form →
      AreFree numbers (map see g.public.pool.items.items) (all_layouts form)
  free_by free good good_is numbers are numbered form is = free numbers form are
      (subst (λ n. AreNumbered numbers n g.config.disks) good_is (subst (λ (k : Config). AreNumbered numbers good k.disks) config_is numbered))
      (subst (λ n. IsFormOf g.config n v (is_fresh v.state) form) good_is (subst (λ k. IsFormOf k good v (is_fresh v.state) form) config_is is))
