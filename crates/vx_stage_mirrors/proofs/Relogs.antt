-- A running volume of the group gets another log, which was left over, or leaves the one that it had.
use Rattle.std.proofs.Common.{◌≡◌, ◌∙◌, ◌++◌, List, Option, Some, None, sym, ap, subst}
use Rattle.std.specs.Prelude.{IsSomeAnd}
use Rattle.std.specs.BTreeMap.{BTreeMap, IsOrdered, get, is_at}
use Rattle.std.specs.Cmp.Lexicographic.{slice_cmp}
use Rattle.std.specs.Map.{set_value}
use Rattle.std.specs.Ordering.{nat_cmp}
use Rattle.vx_base.specs.Named.{SameUnder, Word, put}
use Rattle.vx_piece.specs.Seen.{Seen}
use Rattle.vx_carve.specs.Together.{SameSectors}
use Rattle.vx_layout.specs.declared.layout.Layout.{Layout}
use Rattle.vx_pages.specs.declared.local_piece.LocalPiece.{Ghosts}
use Rattle.vx_maps.specs.declared.store.MapStore.{MapStore}
use Rattle.vx_volume.specs.declared.log.VolumeLog.{VolumeLog}
use Rattle.vx_volume.specs.declared.log.VolumeLog.TheVariants as logs
use Rattle.vx_volume.specs.Volume.{log_of}
use Rattle.vx_lending.specs.Logs.{log_pieces}
use Rattle.vx_lending.specs.Public.{still_pieces}
use Rattle.vx_lending.specs.declared.public.Remains.{Remains}
use Rattle.vx_lending.specs.declared.public.Running.{Running}
use Rattle.vx_group_start.specs.Making.{EndsInLog, IsLogTaken}
use Rattle.vx_house.specs.declared.house.Imported.{Imported}
use Rattle.vx_stage_mirrors.specs.Relogging.{HasNewLog, MayRelog, MayRelogLeft, RelogsIn, RelogsOne}

module _ {P : Type 0} {ghosts : Ghosts P} (see : P → Seen) where
  -- what was taken is the log that was left over last
  pub may_relog : (left left' : List (Remains P ghosts)) (store : MapStore P ghosts) (o : Option (Running P ghosts)) → EndsInLog left → IsLogTaken store left left' → IsSomeAnd o (MayRelogLeft see left) → IsSomeAnd o (MayRelog see (logs.Maps store))
  may_relog left left' store None ends taken may = may
  may_relog left left' store (Some r) ends taken may =
      subst (λ (s : MapStore P ghosts). MayRelog see (logs.Maps s) r) (sym (taken ends.before ends.last ends.store ends.left_is ends.log_is).0) (may ends.before ends.last ends.store ends.left_is ends.log_is)

  -- what holds of the running volume of a name
  pub of_found : (Q : Running P ghosts → Type 0) (o : Option (Running P ghosts)) (r : Running P ghosts) → o ≡ Some r → IsSomeAnd o Q → Q r
  of_found Q o r is holds = subst (λ (x : Option (Running P ghosts)). IsSomeAnd x Q) is holds

  module _ (name : Word) (log : VolumeLog P ghosts) (layouts : List Layout) (running running' : BTreeMap Word (Running P ghosts)) (r : RelogsOne see name log layouts running running') where
    -- the log that it had
    pub log_was : (was : VolumeLog P ghosts) → IsSomeAnd (get (slice_cmp nat_cmp) running name) (λ x. was ≡ log_of x.volume) → was ≡ log_of r.before.volume
    log_was was is = of_found (λ x. was ≡ log_of x.volume) (get (slice_cmp nat_cmp) running name) r.before r.was is

    -- the running ones of the group were those, and are these
    pub relogs_in : (layouts' : List Layout) (old new : Imported P ghosts) → running ≡ old.public.running → new.public.running ≡ running' → layouts ≡ layouts' →
        SameSectors (log_pieces see (log_of r.before.volume) ++ still_pieces see old.public) (log_pieces see log ++ still_pieces see new.public) →
        new ≡ record old { public = record old.public { left = new.public.left; running = new.public.running } } → RelogsIn see name log layouts' old new
    relogs_in layouts' old new were are lie pieces same = record {
      runs = record {
        before = r.before;
        after = r.after;
        ordered = subst (λ (m : BTreeMap Word (Running P ghosts)). IsOrdered (slice_cmp nat_cmp) m) were r.ordered;
        was = ap (λ (m : BTreeMap Word (Running P ghosts)). get (slice_cmp nat_cmp) m name) (sym were) ∙ r.was;
        entries = ap (λ (m : BTreeMap Word (Running P ghosts)). m.entries) are ∙ r.entries ∙ ap (λ (m : BTreeMap Word (Running P ghosts)). set_value (is_at (slice_cmp nat_cmp name)) m.entries r.after) were;
        puts = subst (λ (m : BTreeMap Word (Running P ghosts)). SameUnder (put name (Some r.after) (get (slice_cmp nat_cmp) old.public.running)) (get (slice_cmp nat_cmp) m)) (sym are)
            (subst (λ (m : BTreeMap Word (Running P ghosts)). SameUnder (put name (Some r.after) (get (slice_cmp nat_cmp) m)) (get (slice_cmp nat_cmp) running')) were r.puts);
        has = subst (λ ls. HasNewLog see log ls r.before r.after) lie r.has;
      };
      pieces = pieces;
      same = same;
    }
