-- A group out of whose pieces a volume was opened, or was to be: the copies of its log alone were called.
use Rattle.std.proofs.Common.{◌≡◌, ◌∙◌, ℕ, ◌≤◌, ◌||◌, Bool, true, false, cond, List, [], ◌∷◌, ◌++◌, refl, sym, ap, subst, arith, append_assoc}
use Rattle.std.specs.List.{flat_map, list_any}
use Rattle.std.proofs.lemmas.Bool.{false≢true}
use Rattle.std.proofs.lemmas.List.{append-nil}
use Rattle.std.proofs.lemmas.List.Elements.{All-cons, All-head, All-nil, All-tail}
use Rattle.std.proofs.lemmas.List.Sums.{sum_by-cons}
use Rattle.vx_pages.specs.declared.local_piece.LocalPiece.{Ghosts}
use Rattle.vx_base.specs.Named.{Word}
use Rattle.vx_piece.specs.Seen.{Keeps, Seen}
use Rattle.vx_runs.specs.Run.{EachPiece}
use Rattle.vx_pages.specs.Sector.{KeepsPiece}
use Rattle.vx_carve.specs.Together.{SameSectors, covers, has, owners}
use Rattle.vx_carve.proofs.Runs.{same_after}
use Rattle.vx_carve.proofs.Same.{same_beside, same_refl, same_trans}
use Rattle.vx_fronts.specs.Rests.{AllTell, IsTelling}
use Rattle.vx_fronts.proofs.Behind.{turned, turned_back}
use Rattle.vx_maps.specs.Going.{CopiesGo}
use Rattle.vx_lending.specs.RegionPieces.{all_pieces}
use Rattle.vx_config_parts.specs.declared.disk.Disk.{Disk}
use Rattle.vx_objects.specs.declared.config.Config.{Config}
use Rattle.vx_lending.specs.Left.{held_pieces}
use Rattle.vx_lending.specs.Pieces.{copy_pieces}
use Rattle.vx_lending.proofs.Goings.{copies_go}
use Rattle.vx_lending.specs.declared.public.Public.{Public}
use Rattle.vx_lending.specs.declared.public.Running.{Running}
use Rattle.vx_lending.specs.Public.{lent_pieces, running_pieces, still_pieces, stuck_pieces}
use Rattle.vx_group_start.specs.Laying.{AreStuckVolumes}
use Rattle.vx_group_start.specs.Together.{GoByCopies}
use Rattle.vx_group_volumes.specs.Disks.{AreCalled}
use Rattle.vx_house.specs.declared.house.Imported.{Imported}
use Rattle.vx_stage_volumes.specs.Touching.{AreOwnSectors, IsTouchedIn, behind_of}
use Rattle.vx_stage_volumes.proofs.RunsSame.{runs_same}

-- ---- pieces in another order

grouped : (R C S L : List Seen) → (R ++ (C ++ S)) ++ L ≡ (R ++ C) ++ (S ++ L)
grouped R C S L = simp append_assoc

-- some in the midst are put behind all, ..
pub put_last : (R C S L : List Seen) → SameSectors ((R ++ (C ++ S)) ++ L) ((R ++ (S ++ L)) ++ C)
put_last R C S L =
    let X = R ++ (S ++ L) in
    subst (λ ps. SameSectors ps (X ++ C)) (sym (grouped R C S L))
    (same_trans ((R ++ C) ++ (S ++ L)) (C ++ X) (X ++ C) (turned R C (S ++ L))
    (subst (λ ps. SameSectors ps (X ++ C)) (append-nil (C ++ X)) (subst (λ ps. SameSectors ((C ++ X) ++ []) (X ++ ps)) (append-nil C) (turned C X []))))

-- .. and back
pub put_back : (R C S L : List Seen) → SameSectors ((R ++ (S ++ L)) ++ C) ((R ++ (C ++ S)) ++ L)
put_back R C S L =
    let X = R ++ (S ++ L) in
    subst (λ ps. SameSectors (X ++ C) ps) (sym (grouped R C S L))
    (same_trans (X ++ C) (C ++ X) ((R ++ C) ++ (S ++ L))
    (subst (λ ps. SameSectors (X ++ C) ps) (append-nil (C ++ X)) (subst (λ ps. SameSectors (X ++ ps) ((C ++ X) ++ [])) (append-nil C) (turned_back C X [])))
    (turned_back R C (S ++ L)))

-- ---- copies that were called

each_append : (ps qs rs ss : List Seen) → EachPiece KeepsPiece ps qs → EachPiece KeepsPiece rs ss → EachPiece KeepsPiece (ps ++ rs) (qs ++ ss)
each_append [] [] rs ss a b = b
each_append [] (q ∷ qs) rs ss a b = absurd a
each_append (p ∷ ps) [] rs ss a b = absurd a
each_append (p ∷ ps) (q ∷ qs) rs ss a b = (a.0, each_append ps qs rs ss a.1 b)

each_copy : (xs ys : List (List Seen)) → CopiesGo KeepsPiece xs ys → EachPiece KeepsPiece (copy_pieces xs) (copy_pieces ys)
each_copy [] [] go = tt
each_copy [] (y ∷ ys) go = absurd go
each_copy (x ∷ xs) [] go = absurd go
each_copy (x ∷ xs) (y ∷ ys) go = each_append x y (copy_pieces xs) (copy_pieces ys) go.0 (each_copy xs ys go.1)

kept_each : (ps qs : List Seen) → EachPiece KeepsPiece ps qs → EachPiece Keeps ps qs
kept_each [] [] go = tt
kept_each [] (q ∷ qs) go = absurd go
kept_each (p ∷ ps) [] go = absurd go
kept_each (p ∷ ps) (q ∷ qs) go = (go.0.kept, kept_each ps qs go.1)

tells_each : (ps qs : List Seen) → EachPiece KeepsPiece ps qs → AllTell ps → AllTell qs
tells_each [] [] go tells = All-nil IsTelling
tells_each [] (q ∷ qs) go tells = absurd go
tells_each (p ∷ ps) [] go tells = absurd go
tells_each (p ∷ ps) (q ∷ qs) go tells = All-cons IsTelling q qs (go.0.tells ∙ All-head IsTelling p ps tells) (tells_each ps qs go.1 (All-tail IsTelling p ps tells))

-- ---- sectors that some piece has

or_true : (a b : Bool) → a ≡ true → (a || b) ≡ true
or_true true b e = refl
or_true false b e = absurd (false≢true e)

owned : (device k : ℕ) (ps : List Seen) → list_any (covers device k) ps ≡ true → 1 ≤ owners device k ps
owned device k [] any = absurd (false≢true any)
owned device k (p ∷ ps) any = by (covers device k p) refl any (owned device k ps)
  where
    by : (b : Bool) → covers device k p ≡ b → (b || list_any (covers device k) ps) ≡ true → (list_any (covers device k) ps ≡ true → 1 ≤ owners device k ps) → 1 ≤ owners device k (p ∷ ps)
    by true e any rest =
        let here : has device k p ≡ 1 = ap {B = ℕ} (λ b. cond b 1 0) e in
        let sum = sum_by-cons (has device k) p ps in
        omega (arith, here, sum)
    by false e any rest = let more = rest any in let sum = sum_by-cons (has device k) p ps in omega (arith, more, sum)

lacking : (device k : ℕ) (ps : List Seen) → list_any (covers device k) ps ≡ false → owners device k ps ≡ 0
lacking device k [] none = refl
lacking device k (p ∷ ps) none = by (covers device k p) refl none (lacking device k ps)
  where
    by : (b : Bool) → covers device k p ≡ b → (b || list_any (covers device k) ps) ≡ false → (list_any (covers device k) ps ≡ false → owners device k ps ≡ 0) → owners device k (p ∷ ps) ≡ 0
    by true e any rest = absurd (false≢true (sym any))
    by false e any rest =
        let here : has device k p ≡ 0 = ap {B = ℕ} (λ b. cond b 1 0) e in
        let there = rest any in
        let sum = sum_by-cons (has device k) p ps in
        omega (arith, here, there, sum)

any_from : (ps qs : List Seen) → SameSectors ps qs → (device k : ℕ) → list_any (covers device k) qs ≡ true → list_any (covers device k) ps ≡ true
any_from ps qs same device k any = by (list_any (covers device k) ps) refl
  where
    by : (b : Bool) → list_any (covers device k) ps ≡ b → b ≡ true
    by true e = refl
    by false e = let a = owned device k qs any in let b = lacking device k ps e in let c = same.sectors device k in absurd (omega (arith, a, b, c))

-- pieces that are together those have no sector that those have not
pub own_from : (c : Config) (vol : Word) (disks : List Disk) (numbers : List ℕ) (ps qs : List Seen) → SameSectors ps qs → AreOwnSectors c vol disks numbers ps → AreOwnSectors c vol disks numbers qs
own_from c vol disks numbers ps qs same own device k any = own device k (any_from ps qs same device k any)

module _ {P : Type 0} {ghosts : Ghosts P} (see : P → Seen) (old : Imported P ghosts) (copies : List (List Seen)) (X : List Seen) (go : GoByCopies copies (still_pieces see old.public) X) where
  abbrev R : List Seen
  R = all_pieces go.regions

  abbrev S : List Seen
  S = go.rest

  abbrev L : List Seen
  L = lent_pieces see old.public

  -- the pieces of the copies as they were cut
  abbrev pub cuts : List Seen
  cuts = copy_pieces go.cut.cut

  -- those that were called are the copies, once these were cut
  pub cut_same : SameSectors (copy_pieces copies) cuts
  cut_same = runs_same copies go.cut.cut go.cut.same go.some

  called : AreCalled cuts (copy_pieces go.later)
  called = record { each = kept_each cuts (copy_pieces go.later) (each_copy go.cut.cut go.later go.cut.goes); goes = copies_go go.cut.cut go.later go.cut.goes }

  were : SameSectors (behind_of see old.public) ((R ++ (S ++ L)) ++ cuts)
  were =
      same_trans _ _ _ (same_beside L (still_pieces see old.public) (R ++ (copy_pieces copies ++ S)) go.taken)
      (same_trans _ _ _ (put_last R (copy_pieces copies) S L) (same_after (R ++ (S ++ L)) (copy_pieces copies) cuts cut_same))

  are : SameSectors ((R ++ (S ++ L)) ++ copy_pieces go.later) (X ++ L)
  are = same_trans _ _ _ (put_back R (copy_pieces go.later) S L) (same_beside L (R ++ (copy_pieces go.later ++ S)) X go.back)

  -- so the group goes on by them, wherever its pieces lie then
  pub touched_to : (public : Public P ghosts) → public.running.entries ≡ old.public.running.entries → AreStuckVolumes see public.stuck.items → SameSectors (X ++ L) (behind_of see public) → IsTouchedIn see cuts (copy_pieces go.later) old public
  touched_to public running stuck there = record {
    running = running;
    stuck = stuck;
    others = R ++ (S ++ L);
    were = were;
    are = same_trans _ _ _ are there;
    called = called;
    tells = tells_each cuts (copy_pieces go.later) (each_copy go.cut.cut go.later go.cut.goes);
  }

-- ---- where they lie then

module _ {P : Type 0} {ghosts : Ghosts P} (see : P → Seen) (old : Imported P ghosts) (public : Public P ghosts) (running : public.running.entries ≡ old.public.running.entries) where
  -- no volume was opened, and all lie still
  pub all_still : public.stuck.items ≡ old.public.stuck.items → SameSectors (still_pieces see public ++ lent_pieces see old.public) (behind_of see public)
  all_still stuck = subst (λ ls. SameSectors (still_pieces see public ++ lent_pieces see old.public) (still_pieces see public ++ ls)) same (same_refl (still_pieces see public ++ lent_pieces see old.public))
    where
      same : lent_pieces see old.public ≡ lent_pieces see public
      same = ap (λ es. flat_map (running_pieces see) es ++ flat_map (stuck_pieces see) old.public.stuck.items) (sym running) ∙ ap (λ rs. flat_map (running_pieces see) public.running.entries ++ flat_map (stuck_pieces see) rs) (sym stuck)

  -- one was opened, and is held among those that could not be put back
  pub one_held : (r : Running P ghosts) → public.stuck.items ≡ old.public.stuck.items ++ r ∷ [] → SameSectors ((held_pieces see r.volume ++ still_pieces see public) ++ lent_pieces see old.public) (behind_of see public)
  one_held r stuck =
      let H = held_pieces see r.volume in
      let L = lent_pieces see old.public in
      let behind : SameSectors (H ++ L) (L ++ H) = subst (λ ps. SameSectors ps (L ++ H)) (append-nil (H ++ L)) (subst (λ ps. SameSectors ((H ++ L) ++ []) (L ++ ps)) (append-nil H) (turned H L [])) in
      subst (λ ls. SameSectors ((H ++ still_pieces see public) ++ L) (still_pieces see public ++ ls)) same
      (same_trans _ _ _ (turned H (still_pieces see public) L) (same_after (still_pieces see public) (H ++ L) (L ++ H) behind))
    where
      flat_end : (rs : List (Running P ghosts)) → flat_map (stuck_pieces see) (rs ++ r ∷ []) ≡ flat_map (stuck_pieces see) rs ++ held_pieces see r.volume
      flat_end [] = append-nil (held_pieces see r.volume)
      flat_end (x ∷ rs) = ap (λ ps. held_pieces see x.volume ++ ps) (flat_end rs) ∙ sym (append_assoc (held_pieces see x.volume) (flat_map (stuck_pieces see) rs) (held_pieces see r.volume))

      same : lent_pieces see old.public ++ held_pieces see r.volume ≡ lent_pieces see public
      same =
          append_assoc (flat_map (running_pieces see) old.public.running.entries) (flat_map (stuck_pieces see) old.public.stuck.items) (held_pieces see r.volume)
          ∙ ap (λ ps. flat_map (running_pieces see) old.public.running.entries ++ ps) (sym (flat_end old.public.stuck.items))
          ∙ ap (λ rs. flat_map (running_pieces see) old.public.running.entries ++ flat_map (stuck_pieces see) rs) (sym stuck)
          ∙ ap (λ es. flat_map (running_pieces see) es ++ flat_map (stuck_pieces see) public.stuck.items) (sym running)
