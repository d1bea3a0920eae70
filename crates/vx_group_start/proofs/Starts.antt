-- A volume that was opened over pieces that were taken is started.
use Rattle.std.proofs.Common.{◌≡◌, ℕ, zero, suc, ◌<◌, ◌≤◌, List, [], ◌∷◌, ◌++◌, length, map, Result, Ok, Err, refl, sym, ap, ◌∙◌, subst, arith, append_assoc, inl, inr}
use Rattle.std.specs.Prelude.{IfOk, nat_lt, is_some, true}
use Rattle.std.specs.List.{All, flat_map}
use Rattle.std.proofs.lemmas.Bool.{false≢true}
use Rattle.std.proofs.lemmas.Bool.Decides.{nat_tests}
use Rattle.std.proofs.lemmas.List.Elements.{All-nil, All-cons}
use Rattle.vx_base.specs.Blocks.{Contents}
use Rattle.vx_base.specs.Counts.{Rose}
use Rattle.vx_piece.specs.Seen.{Seen}
use Rattle.vx_carve.specs.Together.{Holds, SameSectors, faults_on}
use Rattle.vx_carve.proofs.Same.{same_beside, same_refl}
use Rattle.vx_cut.proofs.Parts.{all_parts}
use Rattle.vx_cell.specs.Changes.{CellSeen}
use Rattle.vx_cell.specs.Plexes.{PlexSeen}
use Rattle.vx_pages.specs.Items.{item_at}
use Rattle.vx_pages.specs.Sector.{KeepsPiece}
use Rattle.vx_pages.specs.declared.local_piece.LocalPiece.{Ghosts}
use Rattle.vx_maps.specs.Going.{CutCopiesGo}
use Rattle.vx_maps.specs.Loading.{copy_at}
use Rattle.vx_config_parts.specs.declared.vol.Vol.{Vol}
use Rattle.vx_volume.specs.declared.log.VolumeLog.{VolumeLog}
use Rattle.vx_volume.specs.declared.volume.VolumeShape.{VolumeShape}
use Rattle.vx_volume.specs.Log.{log_seen}
use Rattle.vx_marks.specs.Log.{LogSeen}
use Rattle.vx_volume.specs.Opening.{IsOpened, count_of}
use Rattle.vx_volume.specs.Volume.{VolumeSeen, log_of, no_cell, volume_seen}
use Rattle.vx_lending.specs.declared.form.VolumeForm.{VolumeForm}
use Rattle.vx_lending.specs.FormLaws.{all_layouts}
use Rattle.vx_lending.specs.RegionPieces.{all_pieces}
use Rattle.vx_lending.specs.RegionsTaken.{AreTakenRegions}
use Rattle.vx_lending.specs.Going.{GoTogether}
use Rattle.vx_lending.specs.Left.{held_pieces, region_plexes}
use Rattle.vx_lending.specs.Logs.{log_copies, log_header, log_pieces}
use Rattle.vx_lending.specs.Pieces.{copy_pieces}
use Rattle.vx_lending.specs.Taken.{AreTakenCopies, OthersStay, log_sectors, slot_of}
use Rattle.vx_lending.proofs.LogCopies.{log_copies as copies_roomy}
use Rattle.vx_lending.proofs.LogShapes.{none_empty}
use Rattle.vx_lending.proofs.Goings.{go_beside, go_from, go_same, go_then}
use Rattle.vx_lending.specs.declared.public.Public.{Public}
use Rattle.vx_lending.specs.declared.public.Running.{Running}
use Rattle.vx_lending.specs.Public.{remaining_pieces, still_pieces}
use Rattle.vx_group_start.specs.declared.fault.StartFault.{StartFault}
use Rattle.vx_group_start.specs.declared.fault.StartFault.TheVariants.{OutOfMemory, NoLog, NoCurrent, Failed, PowerLost}
use Rattle.vx_group_start.specs.Logs.{AreStartCopies, IsPassedOver, IsStartLog}
use Rattle.vx_group_start.specs.Refused.{IsNotStarted}
use Rattle.vx_group_start.specs.Started.{IsStarted}
use Rattle.vx_group_start.specs.Steps.{IsLogOver, IsRefusedOver, StartsOver}
use Rattle.vx_group_start.specs.Fresh.{is_fresh}
use Rattle.vx_group_start.specs.Together.{ComeNearer, GoByLog}
use Rattle.vx_group_start.proofs.Nearer.{log_nearer}

-- ---- the plexes of an opened volume

cell_plexes_at : (n : ℕ) (cells : List CellSeen) (regions : List (List PlexSeen)) → length cells ≡ length regions → ((r : ℕ) → r < length regions → (item_at no_cell cells r).plexes ≡ item_at [] regions r) → region_plexes cells ≡ regions
cell_plexes_at n [] [] long each = refl
cell_plexes_at n [] (x ∷ xs) long each = absurd (omega (arith, long))
cell_plexes_at n (c ∷ cs) [] long each = absurd (omega (arith, long))
cell_plexes_at n (c ∷ cs) (x ∷ xs) long each =
    ap (λ (y : List PlexSeen). y ∷ region_plexes cs) (each 0 (omega arith)) ∙ ap (λ (ys : List (List PlexSeen)). x ∷ ys) (cell_plexes_at n cs xs (omega (arith, long)) (λ r lt. each (suc r) (omega (arith, lt))))

opened_plexes : (shape : VolumeShape) (log : LogSeen) (regions : List (List PlexSeen)) (v : VolumeSeen) → IsOpened shape log regions v → region_plexes v.cells ≡ regions
opened_plexes shape log regions v opened = cell_plexes_at 0 v.cells regions opened.cells.count (λ r lt. ap (λ (c : CellSeen). c.plexes) (opened.cells.each r lt).is)

-- ---- pieces

-- what each copy holds
pub all_copies : (contents : ℕ → Contents) (copies : List (List Seen)) → All (Holds contents) (copy_pieces copies) → All (λ copy. All (Holds contents) copy) copies
all_copies contents [] h = All-nil (λ copy. All (Holds contents) copy)
all_copies contents (x ∷ xs) h = let both = all_parts (Holds contents) x (copy_pieces xs) h in All-cons (λ copy. All (Holds contents) copy) x xs both.0 (all_copies contents xs both.1)

-- pieces that were taken out of the pool, beside those that are left
pub still_taken : (ts ps qs ls : List Seen) → SameSectors ps (ts ++ qs) → SameSectors (ps ++ ls) (ts ++ (qs ++ ls))
still_taken ts ps qs ls same = subst (λ (zs : List Seen). SameSectors (ps ++ ls) zs) (append_assoc ts qs ls) (same_beside ls ps (ts ++ qs) same)

some_copies : (n : ℕ) → 0 < n → nat_lt 0 n ≡ true
some_copies zero lt = absurd (omega (arith, lt))
some_copies (suc n) lt = grind (arith, nat_tests)

passed_before : (header : List ℕ) (copy before old new : List Seen) → SameSectors before old → IsPassedOver header old new copy → IsPassedOver header before new copy
passed_before header copy before old new same (inl x) = inl (x.0, x.1, subst (λ n. Rose n (faults_on x.0 new)) (same.faults x.0) x.2)
passed_before header copy before old new same (inr x) = inr x

pub ok_both : {T E : Type 0} (r : Result T E) (P Q : T → Type 0) → IfOk r P → IfOk r Q → IfOk r (λ x. P x × Q x)
ok_both (Ok x) P Q p q = (p, q)
ok_both (Err e) P Q p q = tt

-- ---- the whole

-- what was taken for a form out of the pool
pub record AreTakenFor (numbers : List ℕ) (ps qs : List Seen) (regions : List (List PlexSeen)) (copies : List (List Seen)) (form : VolumeForm) : Type 0 where
  pub long : length regions ≡ count_of form.shape
  pub regions_are : AreTakenRegions numbers form.maps.items form.layouts.items form.shape.geometry.length form.shape.geometry.region regions
  pub copies_are : AreTakenCopies numbers form.logs.items (log_sectors form.shape.geometry) copies
  pub same : SameSectors ps ((all_pieces regions ++ copy_pieces copies) ++ qs)
  pub others : OthersStay numbers (all_layouts form) ps qs

module _ {P : Type 0} {ghosts : Ghosts P} (v : Vol) (numbers : List ℕ) (old mid : Public P ghosts) (left : mid.left.items ≡ old.left.items) (regions : List (List PlexSeen)) (copies : List (List Seen)) where
  abbrev pool_of : Public P ghosts → List Seen
  pool_of p = map ghosts.seen p.pool.items.items

  module _ (form : VolumeForm) (taken : AreTakenFor numbers (pool_of old) (pool_of mid) regions copies form) where
    pub all_same : SameSectors (still_pieces ghosts.seen old) ((all_pieces regions ++ copy_pieces copies) ++ still_pieces ghosts.seen mid)
    all_same =
        subst (λ xs. SameSectors (still_pieces ghosts.seen old) ((all_pieces regions ++ copy_pieces copies) ++ (pool_of mid ++ flat_map (remaining_pieces ghosts.seen) xs))) (sym left)
        (still_taken (all_pieces regions ++ copy_pieces copies) (pool_of old) (pool_of mid) (flat_map (remaining_pieces ghosts.seen) old.left.items) taken.same)

    held_all : (contents : ℕ → Contents) → All (Holds contents) (still_pieces ghosts.seen old) → All (Holds contents) (all_pieces regions ++ copy_pieces copies) × All (Holds contents) (still_pieces ghosts.seen mid)
    held_all contents h = all_parts (Holds contents) (all_pieces regions ++ copy_pieces copies) (still_pieces ghosts.seen mid) (all_same.contents contents h)

    held_parts : (contents : ℕ → Contents) → All (Holds contents) (still_pieces ghosts.seen old) → All (Holds contents) (all_pieces regions) × All (Holds contents) (copy_pieces copies)
    held_parts contents h = all_parts (Holds contents) (all_pieces regions) (copy_pieces copies) (held_all contents h).0

    pub start_copies : AreStartCopies numbers form (still_pieces ghosts.seen old) copies
    start_copies = record { taken = taken.copies_are; hold = λ contents h. all_copies contents copies (held_parts contents h).1 }

    start_log : (log : VolumeLog P ghosts) → IsLogOver ghosts.seen v form.shape copies log → IsStartLog ghosts.seen v numbers form (still_pieces ghosts.seen old) log
    start_log log over = record { copies = copies; are = start_copies; log_is = over.log_is; cut = over.cut; fits = over.fits }

    started_as : (running : Running P ghosts) → running.form ≡ form → IsLogOver ghosts.seen v form.shape copies (log_of running.volume) → IsOpened form.shape (log_seen ghosts.seen (log_of running.volume)) regions (volume_seen ghosts.seen running.volume) →
        GoTogether (still_pieces ghosts.seen old) (held_pieces ghosts.seen running.volume ++ still_pieces ghosts.seen mid)
    started_as running same over opened =
        let plexes = opened_plexes form.shape (log_seen ghosts.seen (log_of running.volume)) regions (volume_seen ghosts.seen running.volume) opened in
        subst (λ xs. GoTogether (still_pieces ghosts.seen old) ((all_pieces xs ++ log_pieces ghosts.seen (log_of running.volume)) ++ still_pieces ghosts.seen mid)) (sym plexes)
        (go_then _ _ _ (go_from _ _ all_same)
        (go_beside (all_pieces regions ++ copy_pieces copies) (all_pieces regions ++ log_pieces ghosts.seen (log_of running.volume)) (still_pieces ghosts.seen mid) (still_pieces ghosts.seen mid)
        (go_beside (all_pieces regions) (all_pieces regions) (copy_pieces copies) (log_pieces ghosts.seen (log_of running.volume)) (go_same _) over.goes) (go_same _)))

    all_out : SameSectors (still_pieces ghosts.seen old) (all_pieces regions ++ (copy_pieces copies ++ still_pieces ghosts.seen mid))
    all_out = subst (λ (xs : List Seen). SameSectors (still_pieces ghosts.seen old) xs) (append_assoc (all_pieces regions) (copy_pieces copies) (still_pieces ghosts.seen mid)) all_same

    gone_as : length form.logs.items ≤ 2 → (running : Running P ghosts) → CutCopiesGo KeepsPiece copies (log_copies ghosts.seen (log_of running.volume)) → region_plexes (volume_seen ghosts.seen running.volume).cells ≡ regions →
        ComeNearer (is_fresh v.state) form.shape.geometry copies (log_copies ghosts.seen (log_of running.volume)) →
        GoByLog numbers form (is_fresh v.state) (still_pieces ghosts.seen old) (held_pieces ghosts.seen running.volume ++ still_pieces ghosts.seen mid)
    gone_as few running cut plexes nearer =
        record {
          copies = copies;
          are = taken.copies_are;
          go = record {
            regions = regions;
            later = log_copies ghosts.seen (log_of running.volume);
            rest = still_pieces ghosts.seen mid;
            some = none_empty (slot_of form.shape.geometry) copies (copies_roomy numbers form.logs.items (slot_of form.shape.geometry) copies few taken.copies_are);
            taken = all_out;
            cut = cut;
            back = subst (λ (xs : List (List PlexSeen)). SameSectors (all_pieces regions ++ (log_pieces ghosts.seen (log_of running.volume) ++ still_pieces ghosts.seen mid)) ((all_pieces xs ++ log_pieces ghosts.seen (log_of running.volume)) ++ still_pieces ghosts.seen mid)) (sym plexes)
                (subst (λ (xs : List Seen). SameSectors xs ((all_pieces regions ++ log_pieces ghosts.seen (log_of running.volume)) ++ still_pieces ghosts.seen mid)) (append_assoc (all_pieces regions) (log_pieces ghosts.seen (log_of running.volume)) (still_pieces ghosts.seen mid)) (same_refl _));
          };
          nearer = nearer;
        }

    -- how the pieces have gone on
    pub gone_by : length form.logs.items ≤ 2 → (running : Running P ghosts) → StartsOver ghosts.seen v form regions copies running → GoByLog numbers running.form (is_fresh v.state) (still_pieces ghosts.seen old) (held_pieces ghosts.seen running.volume ++ still_pieces ghosts.seen mid)
    gone_by few running starts =
        let over : IsLogOver ghosts.seen v form.shape copies (log_of running.volume) = subst (IsLogOver ghosts.seen v form.shape copies) (sym starts.runs.log_is) starts.over in
        subst (λ (f : VolumeForm). GoByLog numbers f (is_fresh v.state) (still_pieces ghosts.seen old) (held_pieces ghosts.seen running.volume ++ still_pieces ghosts.seen mid)) (sym starts.runs.form_is)
        (gone_as few running over.cut (opened_plexes form.shape (log_seen ghosts.seen starts.log) regions (volume_seen ghosts.seen running.volume) starts.runs.opened)
        (log_nearer (is_fresh v.state) form.shape copies (log_of running.volume) over.log_is))

    -- why it is not started
    pub unstarted_by : (new : Public P ghosts) (fault : StartFault) → is_some v.dco ≡ nat_lt 0 (length copies) → IsRefusedOver ghosts.seen v form copies (all_pieces regions ++ copy_pieces copies) mid new fault → IsNotStarted ghosts.seen v numbers form old new fault
    unstarted_by new OutOfMemory dco h = tt
    unstarted_by new NoLog dco h =
        record {
          dco = dco ∙ some_copies (length copies) h.1;
          copies = copies;
          are = start_copies;
          filled = λ fresh. absurd (false≢true (sym h.0 ∙ fresh));
          passed = λ n lt. passed_before (log_header form.shape.geometry) (copy_at copies n) (still_pieces ghosts.seen old) ((all_pieces regions ++ copy_pieces copies) ++ still_pieces ghosts.seen mid) (still_pieces ghosts.seen new) all_same (h.2 n lt);
        }
    unstarted_by new (NoCurrent r) dco h = inl (record { log = h.log; is = start_log h.log h.over; first = h.first })
    unstarted_by new (Failed device) dco h = record { copies = copies; are = start_copies; own = h.0; rose = subst (λ n. Rose n (faults_on device (still_pieces ghosts.seen new))) (all_same.faults device) h.1 }
    unstarted_by new PowerLost dco h = record { copies = copies; are = start_copies; device = h.0; own = h.1; cut = h.2 }

  pub started_over : (form : VolumeForm) → AreTakenFor numbers (pool_of old) (pool_of mid) regions copies form → (running : Running P ghosts) → StartsOver ghosts.seen v form regions copies running → IsStarted ghosts.seen v numbers old mid running
  unfolding start_log
  started_over form taken running starts =
      let same = sym starts.runs.form_is in
      let log_is = sym starts.runs.log_is in
      let taken' : AreTakenFor numbers (pool_of old) (pool_of mid) regions copies running.form = subst (AreTakenFor numbers (pool_of old) (pool_of mid) regions copies) same taken in
      let over : IsLogOver ghosts.seen v form.shape copies (log_of running.volume) = subst (IsLogOver ghosts.seen v form.shape copies) log_is starts.over in
      let over' : IsLogOver ghosts.seen v running.form.shape copies (log_of running.volume) = subst (λ (f : VolumeForm). IsLogOver ghosts.seen v f.shape copies (log_of running.volume)) same over in
      let opened : IsOpened form.shape (log_seen ghosts.seen (log_of running.volume)) regions (volume_seen ghosts.seen running.volume) = subst (λ (l : VolumeLog P ghosts). IsOpened form.shape (log_seen ghosts.seen l) regions (volume_seen ghosts.seen running.volume)) log_is starts.runs.opened in
      record {
        regions = regions;
        long = taken'.long;
        taken = taken'.regions_are;
        hold = λ contents h. ((held_parts form taken contents h).0, (held_all form taken contents h).1);
        log = start_log running.form taken' (log_of running.volume) over';
        out = all_out form taken;
        opened = subst (λ (f : VolumeForm). IsOpened f.shape (log_seen ghosts.seen (log_of running.volume)) regions (volume_seen ghosts.seen running.volume)) same opened;
        whole = starts.runs.whole;
        shape = starts.runs.shape ∙ ap (λ (f : VolumeForm). f.shape) same;
        goes = started_as form taken running starts.runs.form_is over opened;
        others = taken'.others;
      }
