-- The steps of a log plex that leaves a running volume, on the group.
use Rattle.std.proofs.Common.{◌≡◌, ◌≢◌, ◌∙◌, ◌++◌, ℕ, ◌<◌, Bool, true, false, List, [], ◌∷◌, length, map, Option, None, Some, Result, Ok, Err, refl, sym, ap, subst, inl, inr, arith}
use Rattle.std.specs.Prelude.{◌⊎◌, ◌==◌, IfSome, IsSomeAnd, MatchOption}
use Rattle.std.specs.BTreeMap.{BTreeMap, IsOrdered}
use Rattle.std.specs.Cmp.Lexicographic.{slice_cmp}
use Rattle.std.specs.Global.{Vec}
use Rattle.std.specs.List.{flat_map}
use Rattle.std.specs.Ordering.{nat_cmp}
use Rattle.std.proofs.lemmas.Bool.{eq-eqb, eqb-true, false≢true}
use Rattle.vx_base.specs.Named.{Word}
use Rattle.vx_piece.specs.Seen.{Seen}
use Rattle.vx_pages.specs.declared.local_piece.LocalPiece.{Ghosts}
use Rattle.vx_layout.specs.declared.layout.Layout.{Layout}
use Rattle.vx_carve.specs.Together.{SameSectors}
use Rattle.vx_config_parts.specs.declared.plex.Plex.{Plex}
use Rattle.vx_answers.specs.declared.refusal.Refusal.TheVariants as refusal
use Rattle.vx_volume.specs.Changing.{runs_seen}
use Rattle.vx_lending.specs.Form.{IsLayoutOf}
use Rattle.vx_lending.specs.Pieces.{copy_pieces}
use Rattle.vx_lending.specs.Public.{remaining_pieces, running_at, still_pieces}
use Rattle.vx_lending.specs.declared.public.Public.{Public}
use Rattle.vx_lending.specs.declared.public.Remains.{Remains}
use Rattle.vx_lending.specs.declared.public.Running.{Running}
use Rattle.vx_yielded_volumes.specs.Yielded.{IsCopyOn, IsOnNoCopy}
use Rattle.vx_stages.specs.Ends.{refused}
use Rattle.vx_house.specs.View.{IsGroupKept}
use Rattle.vx_house.specs.declared.house.Imported.{Imported}
use Rattle.vx_house.specs.declared.stop.Stop.{Stop}
use Rattle.vx_house.specs.declared.stop.Stop.TheVariants as stops
use Rattle.vx_stage_changes.specs.declared.planning.NextConfig.{NextConfig}
use Rattle.vx_stage_mirrors.specs.LogEnding.{is_running}
use Rattle.vx_stage_mirrors.specs.Relogging.{IsPowered, IsRecordedIn, RecordEnds}
use Rattle.vx_stage_mirrors.proofs.DetachFacts.{IsRunningIn, it_runs}
use Rattle.vx_stage_mirrors.proofs.Entries.{public_but}
use Rattle.vx_stage_dissociation.specs.Yielding.{EndsOnly, EndsUnlogged, EndsYielded, GivesIn, GivesOne, HasRoomForCopy, LogEnds, MayGiveUp, MayYield, YieldEnds, YieldsIn}

-- ---- the copy is given up

pub gives_in : {P : Type 0} {ghosts : Ghosts P} (see : P → Seen) (g : Imported P ghosts) (name : Word) (copy : ℕ) (gone : List Seen) (running : BTreeMap Word (Running P ghosts)) → GivesOne see name copy gone g.public.running running →
    (public : Public P ghosts) → public.running ≡ running → public.pool ≡ g.public.pool → public.stuck ≡ g.public.stuck →
    SameSectors (copy_pieces (gone ∷ []) ++ still_pieces see (let p : Public P ghosts = record g.public { running = running } in p)) (still_pieces see public) →
    GivesIn see name copy g (record g { public = public })
gives_in {P = P} {ghosts = ghosts} see g name copy gone running one public are pool stuck together = record {
  gone = gone;
  runs = subst (λ (x : BTreeMap Word (Running P ghosts)). GivesOne see name copy gone g.public.running x) (sym are) one;
  together = together;
  same = ap (λ (p : Public P ghosts). record g { public = p }) (public_but g.public public.pool public.left public.running public.stuck pool stuck);
}

-- what is left over lies in a longer list by then
pub yields_in : {P : Type 0} {ghosts : Ghosts P} (see : P → Seen) (g : Imported P ghosts) (name : Word) (copy : ℕ) (next : NextConfig) (recorded : Imported P ghosts) → IsRecordedIn see next g recorded → (left : Vec (Remains P ghosts)) → left.items ≡ recorded.public.left.items →
    (new : Imported P ghosts) → GivesIn see name copy (record recorded { public = record recorded.public { left = left } }) new → YieldsIn see name copy next g new
yields_in {P = P} {ghosts = ghosts} see g name copy next recorded records left same new t = record {
  recorded = recorded;
  records = records;
  gives = record {
    gone = t.gone;
    runs = t.runs;
    together = subst (λ (rs : List (Remains P ghosts)). SameSectors (copy_pieces (t.gone ∷ []) ++ (map see recorded.public.pool.items.items ++ flat_map (remaining_pieces see) rs)) (still_pieces see new.public)) same t.together;
    same = t.same;
  };
}

both_some : {X : Type 0} (A B C : X → Type 0) → ((x : X) → A x → B x → C x) → (o : Option X) → IsSomeAnd o A → IsSomeAnd o B → IsSomeAnd o C
both_some A B C f None a b = a
both_some A B C f (Some x) a b = f x a b

-- it may be given up once the commit is done
pub may_give_up : {P : Type 0} {ghosts : Ghosts P} (see : P → Seen) (g : Imported P ghosts) (name : Word) (copy room : ℕ) (next : NextConfig) (recorded : Imported P ghosts) → IsRecordedIn see next g recorded →
    IsSomeAnd (running_at g.public name) (MayYield see copy) → IsSomeAnd (running_at g.public name) (HasRoomForCopy see copy room) → IsSomeAnd (running_at recorded.public name) (MayGiveUp see copy room)
may_give_up {P = P} {ghosts = ghosts} see g name copy room next recorded records may enough =
    subst (λ (x : Public P ghosts). IsSomeAnd (running_at x name) (MayGiveUp see copy room)) (sym records.public)
    (both_some (MayYield see copy) (HasRoomForCopy see copy room) (MayGiveUp see copy room) (λ r a b. record { may = a; room_for = b }) (running_at g.public name) may enough)

-- ---- where the copies are

module _ {P : Type 0} {ghosts : Ghosts P} (see : P → Seen) (g : Imported P ghosts) (vol : Word) (p : Plex) (next : NextConfig) (kept : IsGroupKept see g) (runs : is_running g vol ≡ true) (l : Layout) where
  it : IsRunningIn see g vol
  it = it_runs see g kept vol runs

  abbrev r : Running P ghosts
  r = it.run

  -- what is found of the volume of the name, if it runs
  abbrev IsFound : Option ℕ → Running P ghosts → Type 0
  IsFound o r = MatchOption o (IsOnNoCopy r.form.logs.items l) (λ copy. IsCopyOn r.form.logs.items copy l)

  at : (Q : Running P ghosts → Type 0) → IfSome (running_at g.public vol) Q → Q r
  at Q has = subst (λ o. IfSome o Q) it.there has

  -- ---- the copy

  module _ (copy : ℕ) (found : IfSome (running_at g.public vol) (λ r. MatchOption (Some copy) (IsOnNoCopy r.form.logs.items l) (λ k. IsCopyOn r.form.logs.items k l))) (two : Bool) (answer : IfSome (running_at g.public vol) (λ r. two ≡ (length r.form.logs.items == 2))) where
    on : IsCopyOn r.form.logs.items copy l
    on = at (IsFound (Some copy)) found

    is_two : two ≡ (length r.form.logs.items == 2)
    is_two = at (λ (x : Running P ghosts). two ≡ (length x.form.logs.items == 2)) answer

    not_two : two ≡ false → length r.form.logs.items ≢ 2
    not_two is same = false≢true (sym is ∙ is_two ∙ eq-eqb (length r.form.logs.items) 2 same)

    has_two : two ≡ true → length r.form.logs.items ≡ 2
    has_two is = eqb-true (length r.form.logs.items) 2 (sym is_two ∙ is)

    -- it is one of two
    pub copy_low : two ≡ true → copy < 2
    copy_low is = let inside = on.inside in let long = has_two is in omega (arith, inside, long)

    pub may_yield : two ≡ true → IsSomeAnd (running_at g.public vol) (MayYield see copy)
    may_yield is =
        subst (λ o. IsSomeAnd o (MayYield see copy)) (sym it.there) (record {
          whole = it.placed.runs.whole;
          some = copy_low is;
          two = it.placed.runs.lies.lies.log.count ∙ it.placed.runs.lies.lies.logs.long ∙ has_two is;
          logs = has_two is;
        })

    -- ---- how it ends

    module _ (lay : IsLayoutOf g.config p l) (ordered : IsOrdered (slice_cmp nat_cmp) g.public.running) where
      pub only_ends : two ≡ false → LogEnds see vol p next (Err (stops.Ended (refused (refusal.OnlyPlex p.name)))) g g
      only_ends is = inr (record { layout = l; of = lay; running = r; there = it.there; ordered = ordered; ends = inr (inl (record { copy = copy; on = on; not_two = not_two is; result_is = refl; same = refl })) })

      pub yielded_ends : IfSome (running_at g.public vol) (IsPowered see) → (result : Result (Unit {0}) Stop) (new : Imported P ghosts) → YieldEnds see vol copy next result g new → LogEnds see vol p next result g new
      yielded_ends power result new e =
          inr (record { layout = l; of = lay; running = r; there = it.there; ordered = ordered; ends = inr (inr (record { copy = copy; on = on; powered = at (IsPowered see) power; ends = e })) })

  -- no copy lies so
  pub unlogged_ends : IsLayoutOf g.config p l → IsOrdered (slice_cmp nat_cmp) g.public.running → IfSome (running_at g.public vol) (λ r. MatchOption None (IsOnNoCopy r.form.logs.items l) (λ k. IsCopyOn r.form.logs.items k l)) →
      (result : Result (Unit {0}) Stop) (new : Imported P ghosts) → RecordEnds see next result g new → LogEnds see vol p next result g new
  unlogged_ends lay ordered found result new e = inr (record { layout = l; of = lay; running = r; there = it.there; ordered = ordered; ends = inl (record { none = at (IsFound None) found; ends = e }) })
