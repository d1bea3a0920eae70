-- Power that comes back to devices of a shelf, and the house over it.
use Rattle.std.proofs.Common.{◌≡◌, ◌≤◌, ℕ, Bool, true, false, Option, Some, None, Result, Ok, Err, refl, sym, ap, subst, ◌∙◌, arith}
use Rattle.std.specs.Prelude.{IsSome}
use Rattle.vx_pages.specs.declared.local_piece.LocalPiece.{Ghosts}
use Rattle.vx_base.specs.Named.{Word}
use Rattle.vx_piece.specs.Seen.{Seen}
use Rattle.vx_power.specs.Returned.{AreReturned, HasPower, IsReturned}
use Rattle.vx_script.specs.declared.command.Command.{Command}
use Rattle.vx_answers.specs.declared.answer.Answer.{Answer}
use Rattle.vx_answers.specs.declared.answer.Answer.TheVariants.{One, Block}
use Rattle.vx_moments.specs.Moment.{AreLater, Counts, Moment}
use Rattle.vx_moments.specs.World.{Device}
use Rattle.vx_plans.specs.Steps.{AreAsBefore, CountsAfter, Does, LeavesOff, PowerReturns, Serves}
use Rattle.vx_house.specs.Holders.{AreHeld, held_as, holders}
use Rattle.vx_shelf.specs.Shelf.{Held}
use Rattle.vx_house.specs.Scene.{FaultsGoOn, Scene, Shelved, shelved, count_in, counts_of, faults_at, faults_in, seen_at, seen_in}
use Rattle.vx_house.specs.View.{IsDeviceOf, IsMoment, Keeps, KeepsButGroup, View, at, scene}
use Rattle.vx_house.specs.declared.house.House.{House}
use Rattle.vx_house.proofs.Holders.{same_held}
use Rattle.vx_house.proofs.Moments.{faults_trans}
use Rattle.vx_run.specs.Ends.{IsShelfOf, bare}
use Rattle.vx_run.specs.Powers.{FaultsAreLater, GetsPower, StepEnds}
use Rattle.vx_run.specs.Serving.{AnswerBlamed, CommandEnds}
use Rattle.vx_run.specs.declared.unserved.Unserved.{Unserved}
use Rattle.vx_run.specs.declared.unserved.Unserved.TheVariants as unserved
use Rattle.vx_run.proofs.CommandEnds.{blamed_on}

-- ---- shelves

module _ {S : Type 0} (free : S → Option (Word → Option Seen)) (held : S → Word → Option Held) (counted : S → Word → ℕ) (faults : S → ℕ) (a b : S) where
  -- of which the same is seen
  pub same_shelved : free b ≡ free a → held b ≡ held a → counted b ≡ counted a → faults b ≡ faults a → shelved free held counted faults b ≡ shelved free held counted faults a
  same_shelved f h c x = λ i. record { free = f i; held = h i; counted = c i; faults = x i }

  pub gets_power : (gone : Word → Bool) → AreReturned gone (free a) (free b) → held b ≡ held a → counted b ≡ counted a → faults b ≡ faults a → GetsPower gone (shelved free held counted faults a) (shelved free held counted faults b)
  gets_power gone back h c x = record { free = back; held = λ name. ap (λ f. f name) h; counted = λ name. ap (λ f. f name) c; faults = x }

-- ---- one device

abbrev is_cut : Option Seen → Bool
is_cut o = count_in (λ (seen : Seen). seen.cut) false o

abbrev read_of : Option Seen → ℕ
read_of o = count_in (λ (seen : Seen). seen.reads) 0 o

abbrev written_of : Option Seen → ℕ
written_of o = count_in (λ (seen : Seen). seen.writes) 0 o

-- the device is the same of the world, and its counts are as they were where it had its power, and no higher else
record SeenReturned (old new : Option Seen) : Type 0 where
  device : (lent : Bool) (d : Option Device) → IsDeviceOf lent old d → IsDeviceOf lent new d
  cut : is_cut old ≡ false → is_cut new ≡ false
  reads : (read_of new ≤ read_of old) × (is_cut old ≡ false → read_of new ≡ read_of old)
  writes : (written_of new ≤ written_of old) × (is_cut old ≡ false → written_of new ≡ written_of old)

seen_stays : (o : Option Seen) → SeenReturned o o
seen_stays o = record { device = λ lent d is. is; cut = λ has. has; reads = (omega arith, λ has. refl); writes = (omega arith, λ has. refl) }

never : {A : Type 0} (b : Bool) → b ≡ true → b ≡ false → A
never true is not = cc
never false is not = cc

device_back : (old new : Seen) → HasPower old new → (lent : Bool) (d : Option Device) → IsDeviceOf lent (Some old) d → IsDeviceOf lent (Some new) d
device_back old new back lent None is = is
device_back old new back lent (Some d) is = (is.0 ∙ sym back.sectors, λ none. back.told ∙ is.1 none)

seen_back : (old new : Seen) → HasPower old new → SeenReturned (Some old) (Some new)
seen_back old new back = record {
  device = device_back old new back;
  cut = λ has. never old.cut back.cut has;
  reads = (back.reads, λ has. never old.cut back.cut has);
  writes = (back.writes, λ has. never old.cut back.cut has);
}

device_returns : (gone : Bool) (old new : Option Seen) → IsReturned gone old new → SeenReturned old new
device_returns false old new same = subst (SeenReturned old) (sym same) (seen_stays old)
device_returns true None new back = absurd back
device_returns true (Some old) None back = absurd back
device_returns true (Some old) (Some new) back = seen_back old new back

shelf_returns : (gone : Word → Bool) (old new : Option (Word → Option Seen)) → AreReturned gone old new → (held : Option Seen) (name : Word) → SeenReturned (seen_in held old name) (seen_in held new name)
shelf_returns gone old new back (Some seen) name = seen_stays (Some seen)
shelf_returns gone None None back None name = seen_stays None
shelf_returns gone None (Some new) back None name = absurd back
shelf_returns gone (Some old) None back None name = absurd back
shelf_returns gone (Some old) (Some new) back None name = device_returns (gone name) (old name) (new name) (back name)

still_told : (gone : Word → Bool) (old new : Option (Word → Option Seen)) → AreReturned gone old new → IsSome old → IsSome new
still_told gone None None back told = told
still_told gone None (Some new) back told = refl
still_told gone (Some old) None back told = absurd back
still_told gone (Some old) (Some new) back told = refl

-- ---- the house

module _ {P : Type 0} {ghosts : Ghosts P} (see : P → Seen) (gone : Word → Bool) (s t : Shelved) (back : GetsPower gone s t) (h : House P ghosts) where
  abbrev before : Scene
  before = scene see (at s h)

  abbrev after : Scene
  after = scene see (at t h)

  pub held_still : AreHeld s.held (holders see h) → AreHeld t.held (holders see h)
  held_still are = same_held s.held t.held (holders see h) back.held are

  same_faults : (name : Word) → faults_at after name ≡ faults_at before name
  same_faults name = by (held_as (holders see h) name)
    where
      by : (o : Option Seen) → faults_in o (t.counted name) ≡ faults_in o (s.counted name)
      by None = back.counted name
      by (Some seen) = refl

  pub faults_still : FaultsGoOn before after
  faults_still = record { devices = λ name. (let e = same_faults name in omega (arith, e)); shelf = (let e = back.faults in omega (arith, e)) }

  seen_returns : (name : Word) → SeenReturned (seen_at before name) (seen_at after name)
  seen_returns name = shelf_returns gone s.free t.free back.free (held_as (holders see h) name) name

  module _ (n : Moment) (is : IsMoment see (at s h) n) where
    -- the same world, with the counts that are seen now
    abbrev pub moment_back : Moment
    moment_back = record n { counts = counts_of after }

    pub is_back : IsMoment see (at t h) moment_back
    is_back = record {
      told = still_told gone s.free t.free back.free is.told;
      devices_are = λ name. (seen_returns name).device _ (n.world.devices name) (is.devices_are name);
      volumes_are = is.volumes_are;
      runs_are = is.runs_are;
      group_is = is.group_is;
      counts = record { faults = λ name. refl; reads = λ name. refl; writes = λ name. refl; cut = λ name. refl; shelf = refl };
    }

    pub power_returns : PowerReturns n.counts moment_back.counts
    power_returns = record {
      faults = λ name. same_faults name ∙ sym (is.counts.faults name);
      shelf = back.faults ∙ sym is.counts.shelf;
      cut = λ name has. (seen_returns name).cut (sym (is.counts.cut name) ∙ has);
      reads = λ name. (let r = (seen_returns name).reads in let e = is.counts.reads name in (omega (arith, r.0, e), λ has. r.1 (sym (is.counts.cut name) ∙ has) ∙ sym e));
      writes = λ name. (let r = (seen_returns name).writes in let e = is.counts.writes name in (omega (arith, r.0, e), λ has. r.1 (sym (is.counts.cut name) ∙ has) ∙ sym e));
    }

  keeps_still : Keeps see (at s h) → Keeps see (at t h)
  keeps_still keeps = record { devices = held_still keeps.devices; house = keeps.house }

  but_keeps_still : KeepsButGroup see (at s h) → KeepsButGroup see (at t h)
  but_keeps_still keeps = record { devices = held_still keeps.devices; ordered = keeps.ordered; hand = keeps.hand; volumes = keeps.volumes; whole = keeps.whole }

-- ---- a shelf that nobody holds a device of

module _ (gone : Word → Bool) (s t : Shelved) (back : GetsPower gone s t) where
  pub bare_faults : FaultsGoOn (bare s) (bare t)
  bare_faults = record { devices = λ name. (let e = back.counted name in omega (arith, e)); shelf = (let e = back.faults in omega (arith, e)) }

  bare_returns : (name : Word) → SeenReturned (seen_in None s.free name) (seen_in None t.free name)
  bare_returns name = shelf_returns gone s.free t.free back.free None name

  module _ (m : Moment) (is : IsShelfOf s m) where
    pub bare_back : IsShelfOf t (record m { counts = counts_of (bare t) })
    bare_back = record {
      told = still_told gone s.free t.free back.free is.told;
      devices_are = λ name. (bare_returns name).device false (m.world.devices name) (is.devices_are name);
      no_volumes = is.no_volumes;
      no_group = is.no_group;
      counts = record { faults = λ name. refl; reads = λ name. refl; writes = λ name. refl; cut = λ name. refl; shelf = refl };
    }

    pub bare_power : PowerReturns m.counts (counts_of (bare t))
    bare_power = record {
      faults = λ name. back.counted name ∙ sym (is.counts.faults name);
      shelf = back.faults ∙ sym is.counts.shelf;
      cut = λ name has. (bare_returns name).cut (sym (is.counts.cut name) ∙ has);
      reads = λ name. (let r = (bare_returns name).reads in let e = is.counts.reads name in (omega (arith, r.0, e), λ has. r.1 (sym (is.counts.cut name) ∙ has) ∙ sym e));
      writes = λ name. (let r = (bare_returns name).writes in let e = is.counts.writes name in (omega (arith, r.0, e), λ has. r.1 (sym (is.counts.cut name) ∙ has) ∙ sym e));
    }

-- ---- a command

pub later_faults : (a b : Counts) → AreLater a b → FaultsAreLater a b
later_faults a b later = record { faults = later.faults; shelf = later.shelf }

returned_faults : (a b c : Counts) → AreLater a b → PowerReturns b c → FaultsAreLater a c
returned_faults a b c later back = record { faults = λ name. (let x = later.faults name in let e = back.faults name in omega (arith, x, e)); shelf = (let x = later.shelf in let e = back.shelf in omega (arith, x, e)) }

answer_on : (x : Answer) (a b c : Scene) → AnswerBlamed x a b → FaultsGoOn b c → AnswerBlamed x a c
answer_on (One views end) a b c blamed on = blamed_on end a b c blamed on
answer_on (Block lines lost) a b c blamed on = tt

module _ {P : Type 0} {ghosts : Ghosts P} (see : P → Seen) (place : ℕ) (c : Command) (old : View P ghosts) where
  -- a command without a word `cut=N` has come to its end as it is
  none_cut : (answer : Answer) (new : View P ghosts) (cut : Option ℕ) → cut ≡ None → (m n : Moment) → Serves (Does place c) AreAsBefore m answer n → Serves (Does place c) (CountsAfter cut) m answer n
  none_cut answer new None none m n serves = serves
  none_cut answer new (Some k) none m n serves = cc

  pub uncut_step : (result : Result Answer Unserved) (new : View P ghosts) → c.cut ≡ None → CommandEnds see (Does place c) (LeavesOff c) result old new → StepEnds see place c result old new
  uncut_step (Ok answer) new none ends = record {
    keeps = ends.keeps;
    empty = ends.empty;
    goes = λ m is. (let n = ends.goes m is in (n.0, n.1, later_faults m.counts n.0.counts n.2, none_cut answer new c.cut none m n.0 n.3));
    faults = ends.faults;
    blamed = ends.blamed;
  }
  uncut_step (Err unserved.OutOfMemory) new none ends = record {
    keeps = ends.keeps;
    empty = ends.empty;
    goes = λ m is. (let n = ends.goes m is in (n.0, n.1, later_faults m.counts n.0.counts n.2, (n.0, refl, n.3)));
    faults = ends.faults;
  }
  uncut_step (Err unserved.HeldUp) new none ends = ends

  -- behind one that has a word `cut=N` the power is back
  module _ (s t : Shelved) (h : House P ghosts) (gone : Word → Bool) (back : GetsPower gone s t) where
    cut_serves : (answer : Answer) (k : ℕ) (cut : Option ℕ) → cut ≡ Some k → (m n : Moment) (is : IsMoment see (at s h) n) → Serves (Does place c) AreAsBefore m answer n → Serves (Does place c) (CountsAfter cut) m answer (moment_back see gone s t back h n is)
    cut_serves answer k None some m n is serves = cc
    cut_serves answer k (Some j) some m n is serves = record {
      views = serves.views;
      end = serves.end;
      told = serves.told;
      over = serves.over;
      does = serves.does;
      leaves = serves.leaves;
      counts = subst (λ (over : Counts). PowerReturns over (moment_back see gone s t back h n is).counts) serves.counts (power_returns see gone s t back h n is);
    }

    pub cut_step : (k : ℕ) (result : Result Answer Unserved) → c.cut ≡ Some k → CommandEnds see (Does place c) (LeavesOff c) result old (at s h) → StepEnds see place c result old (at t h)
    cut_step k (Ok answer) some ends = record {
      keeps = keeps_still see gone s t back h ends.keeps;
      empty = ends.empty;
      goes = λ m is. (let n = ends.goes m is in (
        moment_back see gone s t back h n.0 n.1,
        is_back see gone s t back h n.0 n.1,
        returned_faults m.counts n.0.counts (moment_back see gone s t back h n.0 n.1).counts n.2 (power_returns see gone s t back h n.0 n.1),
        cut_serves answer k c.cut some m n.0 n.1 n.3,
      ));
      faults = faults_trans (scene see old) (scene see (at s h)) (scene see (at t h)) ends.faults (faults_still see gone s t back h);
      blamed = answer_on answer (scene see old) (scene see (at s h)) (scene see (at t h)) ends.blamed (faults_still see gone s t back h);
    }
    cut_step k (Err unserved.OutOfMemory) some ends = record {
      keeps = but_keeps_still see gone s t back h ends.keeps;
      empty = ends.empty;
      goes = λ m is. (let n = ends.goes m is in (
        moment_back see gone s t back h n.0 n.1,
        is_back see gone s t back h n.0 n.1,
        returned_faults m.counts n.0.counts (moment_back see gone s t back h n.0 n.1).counts n.2 (power_returns see gone s t back h n.0 n.1),
        (n.0, refl, n.3),
      ));
      faults = faults_trans (scene see old) (scene see (at s h)) (scene see (at t h)) ends.faults (faults_still see gone s t back h);
    }
    cut_step k (Err unserved.HeldUp) some ends = record { held = held_still see gone s t back h ends.held; some = ends.some; whole = ends.whole; disks = ends.disks }
