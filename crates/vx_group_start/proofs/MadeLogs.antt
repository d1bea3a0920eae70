-- A new log is made on copies that were taken, and lies among what is left over.
use Rattle.std.proofs.Common.{◌≡◌, ◌∙◌, ℕ, ◌<◌, List, [], ◌∷◌, ◌++◌, length, true, map, refl, sym, ap, subst, inr, arith}
use Rattle.std.specs.Global.{Vec}
use Rattle.std.specs.List.{flat_map}
use Rattle.std.proofs.lemmas.Bool.{false≢true}
use Rattle.vx_base.specs.Counts.{Rose}
use Rattle.vx_piece.specs.Seen.{Seen}
use Rattle.vx_carve.specs.Carved.{HaveNumbers, StaysBeside}
use Rattle.vx_carve.specs.Strips.{ArePlexes, EachStrip, IsFreeStrip}
use Rattle.vx_carve.specs.Together.{Holds, SameSectors, faults_on}
use Rattle.vx_carve.proofs.Places.{volumes_stay}
use Rattle.vx_carve.proofs.Same.{same_refl, same_trans}
use Rattle.vx_cut.proofs.Parts.{all_parts}
use Rattle.vx_cell.specs.declared.plex.Plex.{Plex}
use Rattle.vx_pages.specs.declared.local_piece.LocalPiece.{Ghosts}
use Rattle.vx_pages.specs.Sector.{KeepsPiece}
use Rattle.vx_maps.specs.Going.{CutCopiesGo}
use Rattle.vx_maps.specs.Wholes.{store_copies}
use Rattle.vx_maps.specs.declared.store.MapStore.{MapStore}
use Rattle.vx_volume.specs.declared.log.VolumeLog.{VolumeLog}
use Rattle.vx_volume.specs.declared.log.VolumeLog.TheVariants.{Absent, Maps}
use Rattle.vx_volume.specs.declared.volume.VolumeShape.{VolumeShape}
use Rattle.vx_volume.specs.Opening.{regions_seen}
use Rattle.vx_lending.specs.declared.form.VolumeForm.{VolumeForm}
use Rattle.vx_lending.specs.declared.left.LogLeft.{LogLeft}
use Rattle.vx_lending.specs.declared.left.LogLeft.TheVariants.{Copies, Store}
use Rattle.vx_lending.specs.declared.public.Public.{Public}
use Rattle.vx_lending.specs.declared.public.Remains.{Remains}
use Rattle.vx_lending.specs.Left.{left_copies}
use Rattle.vx_lending.specs.Logs.{IsFreshStore, log_copies}
use Rattle.vx_lending.specs.Pieces.{copy_pieces}
use Rattle.vx_lending.specs.Public.{remaining_pieces, still_pieces}
use Rattle.vx_lending.specs.RegionPieces.{all_pieces}
use Rattle.vx_lending.specs.Taken.{AreLogCopies, AreTakenCopies, HaveBlocks, log_sectors, slot_of}
use Rattle.vx_lending.proofs.LogShapes.{none_empty}
use Rattle.vx_group_start.specs.declared.fault.StartFault.{StartFault}
use Rattle.vx_group_start.specs.declared.fault.StartFault.TheVariants.{OutOfMemory, NoLog, NoCurrent, Failed, PowerLost}
use Rattle.vx_group_start.specs.Fresh.{maps_to_copy}
use Rattle.vx_group_start.specs.Logs.{AreStartCopies, IsLogOf}
use Rattle.vx_group_start.specs.Making.{IsLogMade, IsLogUnmade, IsMadeOver, IsUnmadeOver}
use Rattle.vx_group_start.specs.Steps.{IsNoLog}
use Rattle.vx_group_start.specs.Together.{ComeBackFrom, GoByCopies}
use Rattle.vx_group_start.proofs.Rises.{cut_beside, rose_beside}
use Rattle.vx_group_start.proofs.Starts.{all_copies, still_taken}
use Rattle.vx_group_start.proofs.Stills.{first_of, still_more}
use Rattle.vx_group_start.proofs.Together.{among}

-- ---- a log that is left over

-- its pieces are those that are left
alone : {P : Type 0} {ghosts : Ghosts P} (see : P → Seen) (last : Remains P ghosts) (store : MapStore P ghosts) → last.log ≡ Store store → last.regions.items ≡ [] → remaining_pieces see last ≡ copy_pieces (store_copies see store)
alone {P = P} {ghosts = ghosts} see last store log none =
    ap (λ (l : LogLeft P ghosts). all_pieces (regions_seen see last.regions.items) ++ copy_pieces (left_copies see l)) log
    ∙ ap (λ (rs : List (Vec (Plex P))). all_pieces (regions_seen see rs) ++ copy_pieces (store_copies see store)) none

module _ {P : Type 0} {ghosts : Ghosts P} (see : P → Seen) (left left' : List (Remains P ghosts)) (last : Remains P ghosts) (store : MapStore P ghosts) (log : last.log ≡ Store store) (none : last.regions.items ≡ []) (ps : List Seen) where
  -- it is put behind what was left over
  pub left_still : left' ≡ left ++ last ∷ [] → SameSectors (copy_pieces (store_copies see store) ++ (ps ++ flat_map (remaining_pieces see) left)) (ps ++ flat_map (remaining_pieces see) left')
  left_still e =
      still_more (remaining_pieces see) left left' last (copy_pieces (store_copies see store)) ps ps e
      (subst (λ (xs : List Seen). SameSectors (copy_pieces (store_copies see store) ++ ps) (xs ++ ps)) (sym (alone see last store log none)) (same_refl _))

  -- it is taken
  pub taken_still : left ≡ left' ++ last ∷ [] → SameSectors (ps ++ flat_map (remaining_pieces see) left) (copy_pieces (store_copies see store) ++ (ps ++ flat_map (remaining_pieces see) left'))
  taken_still e =
      subst (λ (xs : List Seen). SameSectors (ps ++ flat_map (remaining_pieces see) left) (xs ++ (ps ++ flat_map (remaining_pieces see) left'))) (alone see last store log none) (first_of (remaining_pieces see) left left' last ps e)

-- what is there is this log
pub one_store : {P : Type 0} {ghosts : Ghosts P} (a b : MapStore P ghosts) (last r : Remains P ghosts) → last ≡ r → last.log ≡ Store a → r.log ≡ Store b → b ≡ a
one_store {P = P} {ghosts = ghosts} a b last r e f h = let same : Store a ≡ Store b = sym f ∙ ap (λ (x : Remains P ghosts). x.log) e ∙ h in cc

-- and no copies that were not made a log
pub not_copies : {P : Type 0} {ghosts : Ghosts P} (store : MapStore P ghosts) (copies : Vec (Vec P)) (last r : Remains P ghosts) → last ≡ r → last.log ≡ Store store → r.log ≡ Copies copies → ⊥
not_copies {P = P} {ghosts = ghosts} store copies last r e f h = let same : Store store ≡ Copies copies = sym f ∙ ap (λ (x : Remains P ghosts). x.log) e ∙ h in absurd cc

-- ---- over copies

-- copies without regions
pub no_regions : {P : Type 0} (see : P → Seen) (regions : List (Vec (Plex P))) (cs ss os : List Seen) → regions ≡ [] → SameSectors ((all_pieces (regions_seen see regions) ++ cs) ++ ss) os → SameSectors (cs ++ ss) os
no_regions {P = P} see regions cs ss os none same = subst (λ (rs : List (Vec (Plex P))). SameSectors ((all_pieces (regions_seen see rs) ++ cs) ++ ss) os) none same

module _ {P : Type 0} {ghosts : Ghosts P} (shape : VolumeShape) (copies : List (List Seen)) (log : VolumeLog P ghosts) where
  -- of copies there is a log
  pub not_absent : log ≡ Absent → IsLogOf ghosts.seen true shape copies log → 0 < length copies → ⊥
  not_absent is of some =
      let none : copies ≡ [] = subst (λ (l : VolumeLog P ghosts). IsLogOf ghosts.seen true shape copies l) is of in
      let long : length copies ≡ 0 = ap (λ (xs : List (List Seen)). length xs) none in
      absurd (omega (arith, long, some))

  -- it is a new store
  pub new_store : (store : MapStore P ghosts) → log ≡ Maps store → IsLogOf ghosts.seen true shape copies log → IsFreshStore ghosts.seen shape.geometry (maps_to_copy shape) copies store
  new_store store is of = subst (λ (l : VolumeLog P ghosts). IsLogOf ghosts.seen true shape copies l) is of

  pub store_goes : (store : MapStore P ghosts) → log ≡ Maps store → CutCopiesGo KeepsPiece copies (log_copies ghosts.seen log) → CutCopiesGo KeepsPiece copies (store_copies ghosts.seen store)
  store_goes store is go = subst (λ (l : VolumeLog P ghosts). CutCopiesGo KeepsPiece copies (log_copies ghosts.seen l)) is go

-- there is no new log
pub unmade_over : (header : List ℕ) (copies left : List (List Seen)) (ss os : List Seen) (fault : StartFault) → SameSectors (copy_pieces left ++ ss) os → IsNoLog true header copies left fault → IsUnmadeOver copies (copy_pieces copies ++ ss) os fault
unmade_over header copies left ss os OutOfMemory same h = tt
unmade_over header copies left ss os NoLog same h = absurd (false≢true (sym h.0))
unmade_over header copies left ss os (NoCurrent r) same h = absurd h
unmade_over header copies left ss os (Failed device) same h = (h.0, rose_beside device [] (copy_pieces copies) (copy_pieces left) ss os same h.1)
unmade_over header copies left ss os PowerLost same h = (h.0, h.1, cut_beside h.0 [] (copy_pieces left) ss os same h.2)

-- ---- over copies that were taken out of the pool

module _ {P : Type 0} {ghosts : Ghosts P} (old mid : Public P ghosts) (left : mid.left.items ≡ old.left.items) (copies : List (List Seen)) (taken : SameSectors (map ghosts.seen old.pool.items.items) (copy_pieces copies ++ map ghosts.seen mid.pool.items.items)) where
  all_out : SameSectors (still_pieces ghosts.seen old) (copy_pieces copies ++ still_pieces ghosts.seen mid)
  all_out =
      subst (λ xs. SameSectors (still_pieces ghosts.seen old) (copy_pieces copies ++ (map ghosts.seen mid.pool.items.items ++ flat_map (remaining_pieces ghosts.seen) xs))) (sym left)
      (still_taken (copy_pieces copies) (map ghosts.seen old.pool.items.items) (map ghosts.seen mid.pool.items.items) (flat_map (remaining_pieces ghosts.seen) old.left.items) taken)

  -- they are put back as they were taken
  pub all_back : (new : Public P ghosts) → SameSectors (copy_pieces copies ++ still_pieces ghosts.seen mid) (still_pieces ghosts.seen new) → SameSectors (still_pieces ghosts.seen old) (still_pieces ghosts.seen new)
  all_back new same = same_trans _ _ _ all_out same

  module _ (numbers : List ℕ) (form : VolumeForm) (are : AreTakenCopies numbers form.logs.items (log_sectors form.shape.geometry) copies) (new : Public P ghosts) where
    -- a new log was made
    pub log_made : HaveBlocks (log_sectors form.shape.geometry) form.logs.items → HaveNumbers numbers → ArePlexes numbers form.logs.items → AreLogCopies (slot_of form.shape.geometry) copies →
        StaysBeside numbers form.logs.items 0 (log_sectors form.shape.geometry) (map ghosts.seen old.pool.items.items) (map ghosts.seen mid.pool.items.items) → maps_to_copy form.shape ≡ 0 → IsMadeOver ghosts.seen form.shape copies mid new →
        IsLogMade ghosts.seen numbers form old new
    log_made roomy have plexes log stays one made = record {
      last = made.left.last;
      left = made.left.left ∙ ap (λ xs. xs ++ made.left.last ∷ []) left;
      regions = made.left.regions;
      store = made.store;
      log_is = made.left.log_is;
      copies = copies;
      are = are;
      go = record {
        regions = [];
        later = store_copies ghosts.seen made.store;
        rest = still_pieces ghosts.seen mid;
        some = none_empty (slot_of form.shape.geometry) copies log;
        taken = all_out;
        cut = made.cut;
        back = made.still;
      };
      later = refl;
      fresh = subst (λ n. IsFreshStore ghosts.seen form.shape.geometry n copies made.store) one made.fresh;
      others = λ other numbered apart free.
          subst (λ p. EachStrip (IsFreeStrip numbers (map ghosts.seen p.items.items)) other.columns) (sym made.pool)
          (volumes_stay numbers form.logs.items other have plexes.numbered numbered apart 0 (log_sectors form.shape.geometry) (map ghosts.seen old.pool.items.items) (map ghosts.seen mid.pool.items.items) roomy stays free);
    }

    start_copies : AreStartCopies numbers form (still_pieces ghosts.seen old) copies
    start_copies = record { taken = are; hold = λ contents h. all_copies contents copies (all_parts (Holds contents) (copy_pieces copies) (still_pieces ghosts.seen mid) (all_out.contents contents h)).0 }

    -- there is none
    pub log_unmade : (fault : StartFault) → IsUnmadeOver copies (copy_pieces copies ++ still_pieces ghosts.seen mid) (still_pieces ghosts.seen new) fault → IsLogUnmade ghosts.seen numbers form old new fault
    log_unmade OutOfMemory h = tt
    log_unmade NoLog h = absurd h
    log_unmade (NoCurrent r) h = absurd h
    log_unmade (Failed device) h = record { copies = copies; are = start_copies; own = h.0; rose = subst (λ n. Rose n (faults_on device (still_pieces ghosts.seen new))) (all_out.faults device) h.1 }
    log_unmade PowerLost h = record { copies = copies; are = start_copies; device = h.0; own = h.1; cut = h.2 }

    -- the pieces have gone on by the copies
    pub log_back : GoByCopies copies (copy_pieces copies ++ still_pieces ghosts.seen mid) (still_pieces ghosts.seen new) → ComeBackFrom numbers form true (still_pieces ghosts.seen old) (still_pieces ghosts.seen new)
    log_back go =
        inr (record {
          copies = copies;
          are = are;
          go = among copies (copy_pieces copies ++ still_pieces ghosts.seen mid) (still_pieces ghosts.seen new) (still_pieces ghosts.seen old) (still_pieces ghosts.seen new) all_out go (same_refl _);
          nearer = λ h. absurd (false≢true (sym h));
        })
