-- The steps of a data plex that goes out of use, on the group.
use Rattle.std.proofs.Common.{◌≡◌, ◌∙◌, ℕ, Bool, true, false, cond, Option, Some, None, Result, Ok, Err, refl, sym, ap, subst, inl, inr}
use Rattle.std.specs.Prelude.{Contains, IfSome, IsSomeAnd, MatchBool, is_some}
use Rattle.std.specs.BTreeMap.{IsOrdered, get, is_at}
use Rattle.std.specs.Cmp.Lexicographic.{slice_cmp}
use Rattle.std.proofs.lemmas.Map.Steps.{set_value_same}
use Rattle.std.specs.Ordering.{nat_cmp}
use Rattle.std.specs.Str.{bytes_eq}
use Rattle.vx_base.specs.Named.{SameUnder, Word, put}
use Rattle.vx_base.proofs.NamedLemmas.{bytes_eq_same}
use Rattle.vx_piece.specs.Seen.{Seen}
use Rattle.vx_pages.specs.declared.local_piece.LocalPiece.{Ghosts}
use Rattle.vx_config_parts.specs.declared.plex.Plex.{Plex}
use Rattle.vx_config_parts.specs.declared.state.PlexState.TheVariants as plex_state
use Rattle.vx_config_parts.specs.Objects.{is_data_plex_of}
use Rattle.vx_objects.specs.declared.config.Config.{Config}
use Rattle.vx_answers.specs.declared.answer.End.{End}
use Rattle.vx_answers.specs.declared.refusal.Refusal.TheVariants as refusal
use Rattle.vx_image.specs.Bytes.{map_or_zero}
use Rattle.vx_lending.specs.Public.{running_at}
use Rattle.vx_lending.specs.RegionsTaken.{is_among}
use Rattle.vx_lending.specs.declared.public.Public.{Public}
use Rattle.vx_lending.specs.declared.public.Running.{Running}
use Rattle.vx_volume.specs.Switching.{CanSpare, HasPlex, Needs}
use Rattle.vx_volume.specs.Volume.{volume_seen}
use Rattle.vx_joined_volumes.proofs.SwitchPlexes.{each_plex_known, each_plex_left_out}
use Rattle.vx_stages.specs.Ends.{refused}
use Rattle.vx_stages.specs.Logging.{AreEditsRefused}
use Rattle.vx_stages.specs.Plexes.{IsDetachRefused, detach_refusal, plex_in, state_edits}
use Rattle.vx_house.specs.View.{IsGroupKept}
use Rattle.vx_house.specs.declared.house.Imported.{Imported}
use Rattle.vx_house.specs.declared.stop.Stop.{Stop}
use Rattle.vx_house.specs.declared.stop.Stop.TheVariants as stops
use Rattle.vx_stage_changes.specs.Planning.{IsPlanned}
use Rattle.vx_stage_changes.specs.declared.planning.NextConfig.{NextConfig}
use Rattle.vx_stage_volumes.specs.Opening.{good_of}
use Rattle.vx_stage_volumes.specs.Resting.{MayRest}
use Rattle.vx_stage_volumes.proofs.Steps.{may_rest}
use Rattle.vx_stage_mirrors.specs.Detaching.{DetachEnds, EndsRested, IsPlannedDetach, MayGoOff}
use Rattle.vx_stage_mirrors.specs.Ending.{seen_group}
use Rattle.vx_stage_mirrors.specs.LogEnding.{is_running}
use Rattle.vx_stage_mirrors.specs.Planned.{EndsAs}
use Rattle.vx_stage_mirrors.specs.Relogging.{RecordEnds}
use Rattle.vx_stage_mirrors.specs.Settling.{SettleEnds, SettlesIn}
use Rattle.vx_stage_mirrors.specs.Switching.{SwitchEnds, SwitchesOne}
use Rattle.vx_stage_mirrors.proofs.DetachFacts.{IsRunningIn, found_vol, it_runs, plex_data, plex_there, vol_runs}

-- ---- a plex that the volume was opened without

put_same : {X : Type 0} (name : Word) (x : X) (old : Word → Option X) → old name ≡ Some x → SameUnder (put name (Some x) old) old
put_same {X = X} name x old is other = by (bytes_eq name other) refl
  where
    by : (b : Bool) → bytes_eq name other ≡ b → old other ≡ cond b (Some x) (old other)
    by true e = ap old (sym (bytes_eq_same name other e)) ∙ is
    by false e = refl

module _ {P : Type 0} {ghosts : Ghosts P} (see : P → Seen) (old new : Imported P ghosts) (name : Word) (map : ℕ) (next : NextConfig) (ordered : IsOrdered (slice_cmp nat_cmp) old.public.running) (r : Running P ghosts) (there : running_at old.public name ≡ Some r) (may : MayGoOff see map r)
    (left : is_among map r.form.maps.items ≡ false) where
  same_one : SwitchesOne see name map false old.public.running old.public.running
  same_one = record {
    before = r;
    after = r;
    ordered = ordered;
    was = there;
    entries = sym (set_value_same (is_at (slice_cmp nat_cmp name)) old.public.running.entries r there);
    puts = put_same name r (get (slice_cmp nat_cmp) old.public.running) there;
    form = (may.left left).0;
    volume = (may.left left).1;
  }

  left_by : (result : Result (Unit {0}) Stop) → RecordEnds see next result old new → SwitchEnds see name map false next result old new
  left_by (Err stop) e = e
  left_by (Ok u) e = record {
    config = e.config;
    finished = e.finished;
    runs = subst (λ (x : Public P ghosts). SwitchesOne see name map false old.public.running x.running) (sym e.public) same_one;
    public = ap (λ (x : Public P ghosts). (let y : Public P ghosts = record x { running = new.public.running } in y)) e.public;
  }

-- its state alone is committed
pub left_out_ends : {P : Type 0} {ghosts : Ghosts P} (see : P → Seen) (old new : Imported P ghosts) (name : Word) (map : ℕ) (next : NextConfig) → IsOrdered (slice_cmp nat_cmp) old.public.running →
    IsSomeAnd (running_at old.public name) (MayGoOff see map) → (taken : Bool) → IfSome (running_at old.public name) (λ r. taken ≡ is_among map r.form.maps.items) → taken ≡ false →
    (result : Result (Unit {0}) Stop) → RecordEnds see next result old new → SwitchEnds see name map false next result old new
left_out_ends {P = P} {ghosts = ghosts} see old new name map next ordered may taken is not result e = by (running_at old.public name) refl may is
  where
    by : (o : Option (Running P ghosts)) → running_at old.public name ≡ o → IsSomeAnd o (MayGoOff see map) → IfSome o (λ r. taken ≡ is_among map r.form.maps.items) → SwitchEnds see name map false next result old new
    by None there may is = absurd may
    by (Some r) there may is = left_by see old new name map next ordered r there may (sym is ∙ not) result e

-- one that it was opened with may be switched off
pub taken_there : {P : Type 0} {ghosts : Ghosts P} (see : P → Seen) (map : ℕ) (o : Option (Running P ghosts)) → IsSomeAnd o (MayGoOff see map) → (taken : Bool) → IfSome o (λ r. taken ≡ is_among map r.form.maps.items) → taken ≡ true →
    IsSomeAnd o (λ r. HasPlex map (volume_seen see r.volume))
taken_there see map None may taken is there = absurd may
taken_there see map (Some r) may taken is there = may.taken (sym is ∙ there)

-- ---- before anything is touched

module _ {P : Type 0} {ghosts : Ghosts P} (see : P → Seen) (g : Imported P ghosts) (name vol : Word) (p : Plex) (found : plex_in name g.config.plexes ≡ Some p) (own : p.vol ≡ Some vol) (fits : detach_refusal (is_running g) g.config name ≡ None) where
  -- what runs under the name of its volume is a volume
  pub may_settle : IsGroupKept see g → MayRest see (running_at g.public vol)
  may_settle kept = may_rest see g.public vol kept.whole.volumes (vol_runs (is_running g) g.config name vol p found own fits)

  module _ (kept : IsGroupKept see g) where
    it : IsRunningIn see g vol
    it = it_runs see g kept vol (vol_runs (is_running g) g.config name vol p found own fits)

    unplanned_by : (end : End) → AreEditsRefused g.config (state_edits vol p plex_state.Stale) end → IsDetachRefused (is_running g) (seen_group see g) name end
    unplanned_by end why =
        inr (
          it.volume,
          p,
          record { found = found; fits = fits; volume = found_vol g.config it.volume it.placed.runs.recorded; own = own ∙ ap (λ (n : Word). Some n) (sym it.named) },
          subst (λ (n : Word). AreEditsRefused g.config (state_edits n p plex_state.Stale) end) (sym it.named) why,
        )

    pub unplanned_ends : (stop : Stop) → EndsAs (AreEditsRefused g.config (state_edits vol p plex_state.Stale)) stop → DetachEnds see name (Err stop) g g
    unplanned_ends (stops.Ended end) why = inl (refl, unplanned_by end why)
    unplanned_ends stops.OutOfMemory why = inl (refl, tt)

  -- ---- planned

  module _ (next : NextConfig) (next_is : IsPlanned (state_edits vol p plex_state.Stale) g.config next) where
    abbrev planned : IsPlannedDetach name vol p next g
    planned = record { found = found; own = own; fits = fits; next_is = next_is }

    pub unsettled_ends : (stop : Stop) (new : Imported P ghosts) → SettleEnds see vol (Err stop) g new → DetachEnds see name (Err stop) g new
    unsettled_ends stop new e = inr (record { vol = vol; plex = p; next = next; planned = planned; ends = inl (record { stop = stop; result_is = refl; ends = e }) })

    pub rested_ends : (result : Result (Unit {0}) Stop) (new : Imported P ghosts) → EndsRested see name vol p next result g new → DetachEnds see name result g new
    rested_ends result new e = inr (record { vol = vol; plex = p; next = next; planned = planned; ends = inr e })

    -- ---- at rest

    module _ (mid : Imported P ghosts) (settles : SettlesIn see vol (Ok tt) g mid) (there : running_at mid.public vol ≡ Some settles.runs.after) (map : ℕ) (map_is : map ≡ map_or_zero p.map) where
      abbrev after : Running P ghosts
      after = settles.runs.after

      abbrev IsAnswer : Bool → Type 0
      IsAnswer b = MatchBool b (Needs map (volume_seen see after.volume)) (CanSpare map (volume_seen see after.volume))

      answered : (b : Bool) → IfSome (running_at mid.public vol) (λ r. MatchBool b (Needs map (volume_seen see r.volume)) (CanSpare map (volume_seen see r.volume))) → IsAnswer b
      answered b is = subst (λ o. IfSome o (λ r. MatchBool b (Needs map (volume_seen see r.volume)) (CanSpare map (volume_seen see r.volume)))) there is

      pub needed_ends : (b : Bool) → IfSome (running_at mid.public vol) (λ r. MatchBool b (Needs map (volume_seen see r.volume)) (CanSpare map (volume_seen see r.volume))) → b ≡ true →
          DetachEnds see name (Err (stops.Ended (refused (refusal.OnlyPlex name)))) g mid
      needed_ends b is needs =
          rested_ends (Err (stops.Ended (refused (refusal.OnlyPlex name)))) mid (record {
            mid = mid;
            settles = settles;
            ends = inl (record { needs = subst (λ k. Needs k (volume_seen see after.volume)) map_is (subst IsAnswer needs (answered b is)); result_is = refl; same = refl });
          })

      pub spared_ends : (b : Bool) → IfSome (running_at mid.public vol) (λ r. MatchBool b (Needs map (volume_seen see r.volume)) (CanSpare map (volume_seen see r.volume))) → b ≡ false →
          (result : Result (Unit {0}) Stop) (new : Imported P ghosts) → SwitchEnds see vol map false next result mid new → DetachEnds see name result g new
      spared_ends b is spares result new e =
          rested_ends result new (record {
            mid = mid;
            settles = settles;
            ends = inr (record {
              spare = subst (λ k. CanSpare k (volume_seen see after.volume)) map_is (subst IsAnswer spares (answered b is));
              ends = subst (λ k. SwitchEnds see vol k false next result mid new) map_is e;
            });
          })

      -- the plex may go off
      module _ (kept : IsGroupKept see mid) (config : mid.config ≡ g.config) where
        own_then : IsRunningIn see mid vol
        own_then = it_runs see mid kept vol (ap (λ o. is_some o) there)

        same_run : own_then.run ≡ after
        same_run = same (sym own_then.there ∙ there)
          where
            same : Some own_then.run ≡ Some after → own_then.run ≡ after
            same e = cc

        own_data : is_data_plex_of own_then.volume.name p ≡ true
        own_data = ap (λ (n : Word). is_data_plex_of n p) own_then.named ∙ plex_data (is_running g) g.config name vol p found own fits

        there_then : Contains mid.config.plexes p
        there_then = subst (λ (c : Config). Contains c.plexes p) (sym config) (plex_there (is_running g) g.config name vol p found own fits)

        off_by : CanSpare (map_or_zero p.map) (volume_seen see own_then.run.volume) → MayGoOff see (map_or_zero p.map) own_then.run
        off_by spare =
            let known = each_plex_known see own_then.run mid.config (good_of see mid) own_then.numbers own_then.volume own_then.placed p there_then own_data in
            record {
              whole = own_then.placed.runs.whole;
              spare = spare;
              taken = known.there;
              left = each_plex_left_out see own_then.run mid.config (good_of see mid) own_then.numbers own_then.volume own_then.placed p there_then own_data;
            }

        off_then : CanSpare map (volume_seen see after.volume) → MayGoOff see map after
        off_then spare =
            subst (λ k. MayGoOff see k after) (sym map_is)
            (subst (MayGoOff see (map_or_zero p.map)) same_run
            (off_by (subst (λ (r : Running P ghosts). CanSpare (map_or_zero p.map) (volume_seen see r.volume)) (sym same_run) (subst (λ k. CanSpare k (volume_seen see after.volume)) map_is spare))))

      pub may_go_off : IsGroupKept see mid → mid.config ≡ g.config → (b : Bool) → IfSome (running_at mid.public vol) (λ r. MatchBool b (Needs map (volume_seen see r.volume)) (CanSpare map (volume_seen see r.volume))) → b ≡ false →
          IsSomeAnd (running_at mid.public vol) (MayGoOff see map)
      may_go_off kept config b is spares = subst (λ o. IsSomeAnd o (MayGoOff see map)) (sym there) (off_then kept config (subst IsAnswer spares (answered b is)))
