-- What is known of a plex that may be put into use: it is a data plex of its volume, which runs and was opened with it.
use Rattle.std.proofs.Common.{◌≡◌, ◌∙◌, ◌<◌, Bool, true, false, cond, List, [], ◌∷◌, Option, Some, None, refl, sym, subst, inl, inr}
use Rattle.std.specs.Prelude.{◌&&◌, IsSomeAnd, is_some}
use Rattle.std.specs.Str.{bytes_eq}
use Rattle.std.proofs.lemmas.Bool.{and_parts, false≢true}
use Rattle.vx_base.specs.Named.{Word}
use Rattle.vx_base.proofs.NamedLemmas.{bytes_eq_same}
use Rattle.vx_piece.specs.Seen.{Seen}
use Rattle.vx_pages.specs.declared.local_piece.LocalPiece.{Ghosts}
use Rattle.vx_config_parts.specs.declared.plex.Plex.{Plex}
use Rattle.vx_config_parts.specs.declared.state.PlexState.TheVariants as plex_state
use Rattle.vx_config_parts.specs.declared.vol.Vol.{Vol}
use Rattle.vx_config_parts.specs.Objects.{is_data, is_data_plex_of, refers}
use Rattle.vx_confdb.specs.Groups.{IsAlive, members}
use Rattle.vx_copies.specs.Disks.{good_mask}
use Rattle.vx_image.specs.Bytes.{is_held, map_or_zero}
use Rattle.vx_image.specs.UsedPlexes.{IsVolOf}
use Rattle.vx_image.proofs.Members.{contains}
use Rattle.vx_image.proofs.PlexMembers.{IsIn}
use Rattle.vx_lending.proofs.Rules.{plex_low}
use Rattle.vx_lending.specs.Public.{running_at}
use Rattle.vx_lending.specs.declared.public.Running.{Running}
use Rattle.vx_answers.specs.declared.refusal.Refusal.{Refusal}
use Rattle.vx_answers.specs.declared.refusal.Refusal.TheVariants as refusal
use Rattle.vx_group_edits.specs.OfVolume.{AreEditsOf}
use Rattle.vx_group_edits.proofs.DcoEdits.{own_name}
use Rattle.vx_joined_volumes.specs.Switched.{SetsState, WasTaken}
use Rattle.vx_joined_volumes.specs.SwitchLaws.{IsKnownPlex}
use Rattle.vx_joined_volumes.proofs.SwitchPlexes.{each_plex_known}
use Rattle.vx_stages.specs.Plexes.{MayAttach, found_to_attach, is_attachable, may_be_used, plex_in, state_edits}
use Rattle.vx_stages.specs.Tests.{unless}
use Rattle.vx_house.specs.Runs.{IsInPlace}
use Rattle.vx_house.specs.View.{IsGroupKept}
use Rattle.vx_house.specs.declared.house.Imported.{Imported}
use Rattle.vx_stage_changes.specs.declared.planning.NextConfig.{NextConfig}
use Rattle.vx_stage_volumes.specs.Opening.{good_of}
use Rattle.vx_stage_volumes.proofs.Absent.{one_vol}
use Rattle.vx_stage_volumes.proofs.Entries.{entry_found}
use Rattle.vx_stage_volumes.proofs.Named.{found_name, found_of}
use Rattle.vx_stage_mirrors.specs.Attaching.{IsPlannedAttach}
use Rattle.vx_stage_mirrors.specs.LogEnding.{is_running}
use Rattle.vx_stage_mirrors.specs.LogMoments.{IsRecordOf}
use Rattle.vx_stage_mirrors.specs.SwitchMoments.{IsSwitchPlanned}
use Rattle.vx_stage_mirrors.specs.Switching.{MaySwitch}

-- ---- the plex of a name

plex_found : (name : Word) (ps : List Plex) (p : Plex) → plex_in name ps ≡ Some p → IsIn ps p × (bytes_eq p.name name ≡ true)
plex_found name [] p e = absurd cc
plex_found name (q ∷ ps) p e = by (plex_found name ps p) (bytes_eq q.name name) refl e
  where
    by : (plex_in name ps ≡ Some p → IsIn ps p × (bytes_eq p.name name ≡ true)) → (b : Bool) → bytes_eq q.name name ≡ b → cond b (Some q) (plex_in name ps) ≡ Some p → IsIn (q ∷ ps) p × (bytes_eq p.name name ≡ true)
    by on true is e = let same : p ≡ q = cc in (inl same, subst (λ (x : Plex). bytes_eq x.name name ≡ true) (sym same) is)
    by on false is e = let r = on e in (inr r.0, r.1)

-- ---- the tests

some_is : {X : Type 0} (o : Option X) → is_some o ≡ true → (x : X) × (o ≡ Some x)
some_is None e = absurd (false≢true e)
some_is (Some x) e = (x, refl)

passes : (runs fits : Bool) (r s : Refusal) → cond runs (unless fits r) (Some s) ≡ None → (runs ≡ true) × (fits ≡ true)
passes true true r s e = (refl, refl)
passes true false r s e = absurd cc
passes false fits r s e = absurd cc

module _ {P : Type 0} {ghosts : Ghosts P} (see : P → Seen) (g : Imported P ghosts) (kept : IsGroupKept see g) (vol name : Word) (v : Vol) (p : Plex) (may : MayAttach (is_running g vol) g.config (good_of see g) vol name v p) where
  tests : (is_running g vol ≡ true) × (is_attachable g.config (good_of see g) vol p ≡ true)
  tests = passes (is_running g vol) (is_attachable g.config (good_of see g) vol p) (refusal.PlexState p.state) (refusal.NotStarted vol)
      (subst (λ o. found_to_attach (is_running g vol) g.config (good_of see g) vol name o ≡ None) may.found
      (subst (λ o. cond (is_some o) (found_to_attach (is_running g vol) g.config (good_of see g) vol name (plex_in name g.config.plexes)) (Some (refusal.NoObject vol)) ≡ None) may.volume may.fits))

  pub runs_now : is_running g vol ≡ true
  runs_now = tests.0

  pub of : IsVolOf g.config v
  of = found_of g.config vol v may.volume

  pub volume_named : v.name ≡ vol
  volume_named = found_name g.config vol v may.volume

  pub plex_there : IsIn g.config.plexes p
  plex_there = (plex_found name g.config.plexes p may.found).0

  pub plex_named : p.name ≡ name
  plex_named = bytes_eq_same p.name name (plex_found name g.config.plexes p may.found).1

  parts : (is_data_plex_of vol p ≡ true) × ((may_be_used p.state && is_held g.config (good_of see g) p) ≡ true)
  parts = and_parts (is_data_plex_of vol p) (may_be_used p.state && is_held g.config (good_of see g) p) tests.1

  pub own : is_data_plex_of v.name p ≡ true
  own = subst (λ n. is_data_plex_of n p ≡ true) (sym volume_named) parts.0

  pub held : is_held g.config (good_of see g) p ≡ true
  held = (and_parts (may_be_used p.state) (is_held g.config (good_of see g) p) parts.1).1

  pub low : map_or_zero p.map < 30
  low = plex_low g.config v of p plex_there own

  -- ---- its volume

  pub run : Running P ghosts
  run = (some_is (running_at g.public vol) runs_now).0

  pub there : running_at g.public vol ≡ Some run
  unfolding run
  there = (some_is (running_at g.public vol) runs_now).1

  pub place : IsInPlace see (members see g.base) g.config (good_of see g) vol run
  place = entry_found (λ n r. IsInPlace see (members see g.base) g.config (good_mask (members see g.base)) n r) vol g.public.running.entries run kept.placed there

  pub same_vol : place.of ≡ v
  same_vol = one_vol g.config place.of v place.placed.runs.recorded of (place.named ∙ sym volume_named)

  known : IsKnownPlex see run place.placed.runs.opening g.config (good_of see g) p
  known = each_plex_known see run g.config (good_of see g) place.numbers place.of place.placed p (contains g.config.plexes p plex_there) (subst (λ (x : Vol). is_data_plex_of x.name p ≡ true) (sym same_vol) own)

  pub taken : WasTaken run.form p
  taken = known.held held

  -- ---- it may be switched on

  pub may_switch : IsSomeAnd (running_at g.public vol) (MaySwitch see (map_or_zero p.map) true)
  may_switch =
      subst (λ o. IsSomeAnd o (MaySwitch see (map_or_zero p.map) true)) (sym there)
      (record { whole = place.placed.runs.whole; there = known.there taken; spare = λ never. absurd (false≢true (sym never)) })

  pub alive : IsAlive see g.base
  alive = kept.carries.alive

  pub going : g.base.lost ≡ None
  going = kept.carries.lost

  -- ---- what is to be recorded

  module _ (next : NextConfig) (planned : IsPlannedAttach see vol name v p next g) where
    pub sets : SetsState g.config v p plex_state.Active next.config
    sets = record { there = contains g.config.plexes p plex_there; data_is = own; edited = planned.planned.0 }

    pub switch_plan : IsSwitchPlanned g vol v p plex_state.Active true next
    switch_plan = record { of = of; named = volume_named; sets = sets; printed = planned.planned.1; available = refl }

    refers_own : refers p.vol v.name ≡ true
    refers_own = (and_parts (refers p.vol v.name) (is_data p.kind) own).0

    edits_own : AreEditsOf g.config v.name (state_edits v.name p plex_state.Active)
    edits_own = (
      (refl, own_name g.config v.name p plex_there refers_own),
      tt,
    )

    pub record_of : IsRecordOf g vol (state_edits v.name p plex_state.Active) next
    record_of = record { own = subst (λ n. AreEditsOf g.config n (state_edits v.name p plex_state.Active)) volume_named edits_own; edited = planned.planned.0; printed = planned.planned.1 }
