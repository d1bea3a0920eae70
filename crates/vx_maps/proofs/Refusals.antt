-- Why a store is refused, by what its copies have counted.
use Rattle.std.proofs.Common.{◌≡◌, ℕ, ◌+◌, Bool, true, false, refl, sym, ap, subst, List, [], ◌∷◌, Result, Ok, Err}
use Rattle.vx_base.specs.Counts.{Rose}
use Rattle.vx_piece.specs.Seen.{Seen}
use Rattle.vx_marks.specs.Log.{LogSeen, MarkHasCause}
use Rattle.vx_marks.specs.declared.marker.MarkFault.{MarkFault}
use Rattle.vx_marks.specs.declared.marker.MarkFault.TheVariants as mark
use Rattle.vx_maps.specs.declared.fault.StoreFault.{StoreFault}
use Rattle.vx_maps.specs.declared.fault.StoreFault.TheVariants.{NoCopy, OutOfMemory, Failed, PowerLost}
use Rattle.vx_pages.specs.declared.local_piece.LocalPiece.{Ghosts}
use Rattle.vx_pages.specs.declared.page.Page.{Page}
use Rattle.vx_pages.specs.Sector.{HasCause}
use Rattle.vx_pages.specs.Pages.{grid_seen, page_seen}
use Rattle.vx_maps.specs.Store.{pages_cut, pages_faults, pages_seen, store_log}
use Rattle.vx_maps.specs.Slots.{grid_faults}
use Rattle.vx_maps.specs.Copies.{SameRuns}
use Rattle.vx_maps.specs.Wholes.{copy_faults}
use Rattle.vx_maps.specs.Creating.{AllTell, IsFaultOf, IsRefusedAfter, IsRefusedFor, copies_cut}

pub grid_pages : {P : Type 0} {ghosts : Ghosts P} (pages : List (Page P ghosts)) (copy device : ℕ) → grid_faults copy device (grid_seen ghosts.seen pages) ≡ pages_faults (pages_seen ghosts.seen pages) copy device
grid_pages [] copy device = refl
grid_pages {P} {ghosts} (p ∷ pages) copy device = ap (λ (n : ℕ). (page_seen ghosts.seen p).faults copy device + n) (grid_pages pages copy device)

pub plain_cause : (regions regions' : ℕ) (old new : List LogSeen) (result : Result (Unit {0}) MarkFault) → MarkHasCause (store_log regions old) (store_log regions' new) result → HasCause (pages_faults old) (pages_faults new) (pages_cut new) result
plain_cause regions regions' old new (Ok u) cause = cause
plain_cause regions regions' old new (Err (mark.Failed copy device)) cause = record { rose = cause.rose; others = cause.others }
plain_cause regions regions' old new (Err mark.PowerLost) cause = cause
plain_cause regions regions' old new (Err mark.Busy) cause = absurd (no cause.1)
  where
    no : false ≡ true → ⊥
    no e = cc

pub refused_after : (fault : MarkFault) (f : StoreFault) (old new : ℕ → ℕ → ℕ) (cut : Bool) (copies : List (List Seen)) → IsFaultOf fault f → HasCause {T = Unit {0}} old new cut (Err fault) → ((copy device : ℕ) → copy_faults copies copy device ≡ new copy device) → (cut ≡ true → copies_cut copies ≡ true) →
    IsRefusedAfter f old copies
refused_after (mark.Failed copy device) f old new cut copies is cause same shown = subst (λ (x : StoreFault). IsRefusedAfter x old copies) (sym is) (subst (Rose (old copy device)) (sym (same copy device)) cause.rose)
refused_after mark.PowerLost f old new cut copies is cause same shown = subst (λ (x : StoreFault). IsRefusedAfter x old copies) (sym is) (shown cause)
refused_after mark.Busy f old new cut copies is cause same shown = absurd is

pub refused_for : (f : StoreFault) (old : List (List Seen)) (counts : ℕ → ℕ → ℕ) (copies : List (List Seen)) → ((copy device : ℕ) → counts copy device ≡ copy_faults old copy device) → IsRefusedAfter f counts copies → IsRefusedFor f old copies
refused_for NoCopy old counts copies same h = absurd h
refused_for OutOfMemory old counts copies same h = absurd h
refused_for (Failed copy device) old counts copies same h = subst (λ (n : ℕ). Rose n (copy_faults copies copy device)) (same copy device) h
refused_for PowerLost old counts copies same h = h

pub runs_tell : (old new : List (List Seen)) → SameRuns old new → AllTell old → AllTell new
runs_tell [] [] same told = tt
runs_tell [] (y ∷ ys) same told = absurd same
runs_tell (x ∷ xs) [] same told = absurd same
runs_tell (x ∷ xs) (y ∷ ys) same told = (same.0.tells told.0, runs_tell xs ys same.1 told.1)
