-- The steps of a data plex that leaves a running volume, on the group.
use Rattle.std.proofs.Common.{◌≡◌, ◌∙◌, ◌++◌, ℕ, Bool, true, false, List, length, Some, Result, Ok, Err, refl, sym, ap, subst, inl, inr, map}
use Rattle.std.specs.Prelude.{IfSome, IsSomeAnd, MatchBool, is_some}
use Rattle.std.specs.BTreeMap.{BTreeMap}
use Rattle.std.specs.Global.{Vec}
use Rattle.std.specs.List.{flat_map}
use Rattle.std.proofs.lemmas.List.{length-map}
use Rattle.vx_base.specs.Named.{Word}
use Rattle.vx_piece.specs.Seen.{Seen}
use Rattle.vx_pages.specs.declared.local_piece.LocalPiece.{Ghosts}
use Rattle.vx_carve.specs.Together.{SameSectors}
use Rattle.vx_config_parts.specs.declared.plex.Plex.{Plex}
use Rattle.vx_answers.specs.declared.refusal.Refusal.TheVariants as refusal
use Rattle.vx_image.specs.Bytes.{map_or_zero}
use Rattle.vx_image.specs.UsedPlexes.{held_plexes}
use Rattle.vx_volume.specs.Switching.{CanSpare, Needs}
use Rattle.vx_volume.specs.Volume.{volume_seen}
use Rattle.vx_lending.proofs.Zips.{zip_length}
use Rattle.vx_lending.specs.Form.{IsLayoutOf}
use Rattle.vx_lending.specs.Pieces.{copy_pieces}
use Rattle.vx_lending.specs.Public.{remaining_pieces, running_at, still_pieces}
use Rattle.vx_lending.specs.declared.public.Public.{Public}
use Rattle.vx_lending.specs.declared.public.Remains.{Remains}
use Rattle.vx_lending.specs.declared.public.Running.{Running}
use Rattle.vx_group_volumes.specs.Runs.{Opening}
use Rattle.vx_stages.specs.Ends.{refused}
use Rattle.vx_house.specs.View.{IsGroupKept}
use Rattle.vx_house.specs.declared.house.Imported.{Imported}
use Rattle.vx_house.specs.declared.stop.Stop.{Stop}
use Rattle.vx_house.specs.declared.stop.Stop.TheVariants as stops
use Rattle.vx_stage_changes.specs.declared.planning.NextConfig.{NextConfig}
use Rattle.vx_stage_volumes.specs.Resting.{MayRest}
use Rattle.vx_stage_volumes.proofs.Steps.{may_rest}
use Rattle.vx_stage_mirrors.specs.LogEnding.{is_running}
use Rattle.vx_stage_mirrors.specs.Relogging.{IsRecordedIn}
use Rattle.vx_stage_mirrors.specs.Settling.{SettleEnds, SettlesIn}
use Rattle.vx_stage_mirrors.proofs.DetachFacts.{IsRunningIn, it_runs}
use Rattle.vx_stage_mirrors.proofs.Entries.{public_but}
use Rattle.vx_stage_dissociation.specs.Rested.{LeaveEnds, RestedEnds}
use Rattle.vx_stage_dissociation.specs.Taking.{HasRoomFor, MayTake, TakesIn, TakesOne}

-- ---- the plex is taken out

pub takes_in : {P : Type 0} {ghosts : Ghosts P} (see : P → Seen) (g : Imported P ghosts) (name : Word) (m : ℕ) (pieces : List (List Seen)) (running : BTreeMap Word (Running P ghosts)) → TakesOne see name m pieces g.public.running running →
    (public : Public P ghosts) → public.running ≡ running → public.pool ≡ g.public.pool → public.stuck ≡ g.public.stuck →
    SameSectors (copy_pieces pieces ++ still_pieces see (let p : Public P ghosts = record g.public { running = running } in p)) (still_pieces see public) →
    TakesIn see name m g (record g { public = public })
takes_in {P = P} {ghosts = ghosts} see g name m pieces running one public are pool stuck together = record {
  pieces = pieces;
  runs = subst (λ (x : BTreeMap Word (Running P ghosts)). TakesOne see name m pieces g.public.running x) (sym are) one;
  together = together;
  same = ap (λ (p : Public P ghosts). record g { public = p }) (public_but g.public public.pool public.left public.running public.stuck pool stuck);
}

-- ---- before

module _ {P : Type 0} {ghosts : Ghosts P} (see : P → Seen) (g : Imported P ghosts) (vol : Word) (p : Plex) (next : NextConfig) where
  -- what runs under the name of its volume is a volume
  pub may_settle : IsGroupKept see g → is_running g vol ≡ true → MayRest see (running_at g.public vol)
  may_settle kept runs = may_rest see g.public vol kept.whole.volumes runs

  pub unsettled_ends : (stop : Stop) (new : Imported P ghosts) → SettleEnds see vol (Err stop) g new → RestedEnds see vol p next (Err stop) g new
  unsettled_ends stop new e = inl (record { stop = stop; result_is = refl; ends = e })

  -- ---- at rest

  module _ (mid : Imported P ghosts) (settles : SettlesIn see vol (Ok tt) g mid) (there : running_at mid.public vol ≡ Some settles.runs.after) (m : ℕ) (map_is : m ≡ map_or_zero p.map) where
    abbrev after : Running P ghosts
    after = settles.runs.after

    abbrev IsAnswer : Bool → Type 0
    IsAnswer b = MatchBool b (Needs m (volume_seen see after.volume)) (CanSpare m (volume_seen see after.volume))

    answered : (b : Bool) → IfSome (running_at mid.public vol) (λ r. MatchBool b (Needs m (volume_seen see r.volume)) (CanSpare m (volume_seen see r.volume))) → IsAnswer b
    answered b is = subst (λ o. IfSome o (λ r. MatchBool b (Needs m (volume_seen see r.volume)) (CanSpare m (volume_seen see r.volume)))) there is

    pub needed_ends : (b : Bool) → IfSome (running_at mid.public vol) (λ r. MatchBool b (Needs m (volume_seen see r.volume)) (CanSpare m (volume_seen see r.volume))) → b ≡ true →
        RestedEnds see vol p next (Err (stops.Ended (refused (refusal.OnlyPlex p.name)))) g mid
    needed_ends b is needs = inr (record {
      mid = mid;
      settles = settles;
      ends = inl (record { needs = subst (λ k. Needs k (volume_seen see after.volume)) map_is (subst IsAnswer needs (answered b is)); result_is = refl; same = refl });
    })

    module _ (b : Bool) (is : IfSome (running_at mid.public vol) (λ r. MatchBool b (Needs m (volume_seen see r.volume)) (CanSpare m (volume_seen see r.volume)))) (spares : b ≡ false) where
      spare : CanSpare m (volume_seen see after.volume)
      spare = subst IsAnswer spares (answered b is)

      pub spared_ends : (result : Result (Unit {0}) Stop) (new : Imported P ghosts) → LeaveEnds see vol m next result mid new → RestedEnds see vol p next result g new
      spared_ends result new e = inr (record {
        mid = mid;
        settles = settles;
        ends = inr (record {
          spare = subst (λ k. CanSpare k (volume_seen see after.volume)) map_is spare;
          ends = subst (λ k. LeaveEnds see vol k next result mid new) map_is e;
        });
      })

      -- memory was wanting
      pub wanted_ends : RestedEnds see vol p next (Err stops.OutOfMemory) g mid
      wanted_ends = spared_ends (Err stops.OutOfMemory) mid (refl, refl)

      -- the commit is done, and what is left over lies in a longer list
      pub left_ends : (recorded : Imported P ghosts) → IsRecordedIn see next mid recorded → (left : Vec (Remains P ghosts)) → left.items ≡ recorded.public.left.items → (new : Imported P ghosts) →
          TakesIn see vol m (record recorded { public = record recorded.public { left = left } }) new → RestedEnds see vol p next (Ok tt) g new
      left_ends recorded records left same new t =
          let takes : TakesIn see vol m recorded new = record {
            pieces = t.pieces;
            runs = t.runs;
            together = subst (λ (rs : List (Remains P ghosts)). SameSectors (copy_pieces t.pieces ++ (map see recorded.public.pool.items.items ++ flat_map (remaining_pieces see) rs)) (still_pieces see new.public)) same t.together;
            same = t.same;
          } in
          spared_ends (Ok tt) new (record { recorded = recorded; records = records; takes = takes })

      -- the plex may be taken out
      module _ (kept : IsGroupKept see mid) where
        it : IsRunningIn see mid vol
        it = it_runs see mid kept vol (ap (λ o. is_some o) there)

        same_run : it.run ≡ after
        same_run = same (sym it.there ∙ there)
          where
            same : Some it.run ≡ Some after → it.run ≡ after
            same e = cc

        many : length after.form.maps.items ≡ length after.form.layouts.items
        many = subst (λ (r : Running P ghosts). length r.form.maps.items ≡ length r.form.layouts.items) same_run (
            let o : Opening = it.placed.runs.opening in
            ap length it.placed.runs.form.maps ∙ length-map (held_plexes o.config o.good o.vol.name) (λ (q : Plex). map_or_zero q.map)
            ∙ sym (zip_length (IsLayoutOf o.config) (held_plexes o.config o.good o.vol.name) it.run.form.layouts.items it.placed.runs.form.layouts)
            )

        pub may_take : (recorded : Imported P ghosts) → IsRecordedIn see next mid recorded → (room : ℕ) → IsSomeAnd (running_at mid.public vol) (HasRoomFor see room) → IsSomeAnd (running_at recorded.public vol) (MayTake see m room)
        may_take recorded records room enough =
            subst (λ (x : Public P ghosts). IsSomeAnd (running_at x vol) (MayTake see m room)) (sym records.public)
            (subst (λ o. IsSomeAnd o (MayTake see m room)) (sym there) (record {
              whole = settles.runs.whole;
              many = many;
              spare = spare;
              room_for = subst (λ o. IsSomeAnd o (HasRoomFor see room)) there enough;
            }))
