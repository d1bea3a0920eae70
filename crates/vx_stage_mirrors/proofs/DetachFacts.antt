-- What is known of a data plex that is to go out of use, in a group that is kept.
use Rattle.std.proofs.Common.{◌≡◌, ◌∙◌, Bool, true, false, cond, Option, Some, None, ℕ, List, [], ◌∷◌, refl, sym, ap, subst, inl, inr}
use Rattle.std.specs.Prelude.{◌&&◌, Contains, is_some}
use Rattle.std.specs.Str.{bytes_eq}
use Rattle.std.proofs.lemmas.Bool.{and_from, and_parts, false≢true}
use Rattle.vx_base.specs.Named.{Word}
use Rattle.vx_base.proofs.NamedLemmas.{bytes_eq_same, bytes_eq_self}
use Rattle.vx_piece.specs.Seen.{Seen}
use Rattle.vx_pages.specs.declared.local_piece.LocalPiece.{Ghosts}
use Rattle.vx_copies.specs.Disks.{good_mask}
use Rattle.vx_confdb.specs.Groups.{members}
use Rattle.vx_config_parts.specs.declared.object.Object.TheVariants.{VolRecord}
use Rattle.vx_config_parts.specs.declared.plex.Plex.{Plex}
use Rattle.vx_config_parts.specs.declared.plex.PlexKind.{PlexKind}
use Rattle.vx_config_parts.specs.declared.plex.PlexKind.TheVariants.{Data, Log}
use Rattle.vx_config_parts.specs.declared.state.PlexState.{PlexState}
use Rattle.vx_config_parts.specs.declared.vol.Vol.{Vol}
use Rattle.vx_config_parts.specs.Objects.{is_data_plex_of, refers}
use Rattle.vx_config_parts.specs.Objects.{is_data as is_data_kind}
use Rattle.vx_objects.specs.declared.config.Config.{Config}
use Rattle.vx_objects.specs.Config.{objects_of}
use Rattle.vx_answers.specs.declared.refusal.Refusal.TheVariants as refusal
use Rattle.vx_image.specs.UsedPlexes.{IsVolOf}
use Rattle.vx_image.proofs.Members.{contains}
use Rattle.vx_image.proofs.PlexMembers.{IsIn, one_named}
use Rattle.vx_image.proofs.Plexes.{config_valid}
use Rattle.vx_rules.proofs.InOrder.{names_differ}
use Rattle.vx_lending.specs.Public.{running_at}
use Rattle.vx_lending.specs.declared.public.Running.{Running}
use Rattle.vx_group_volumes.specs.Places.{RunsInPlace}
use Rattle.vx_group_edits.proofs.ByKind.{records_vol, vol_recorded}
use Rattle.vx_group_edits.specs.OfVolume.{AreEditsOf}
use Rattle.vx_group_edits.proofs.DcoEdits.{own_name}
use Rattle.vx_stages.specs.Plexes.{detach_refusal, detach_refusal_of, found_to_detach, is_in_use, plex_in, state_edits}
use Rattle.vx_stages.specs.Tests.{is_data, unless, volume_in}
use Rattle.vx_house.specs.Runs.{IsInPlace}
use Rattle.vx_house.specs.View.{IsGroupKept}
use Rattle.vx_house.specs.declared.house.Imported.{Imported}
use Rattle.vx_stage_volumes.specs.Opening.{good_of}
use Rattle.vx_stage_volumes.proofs.Entries.{entry_found}
use Rattle.vx_stage_mirrors.specs.LogEnding.{is_running}

-- ---- what was found, and what the tests say of it

pub found_plex : (name : Word) (ps : List Plex) (p : Plex) → plex_in name ps ≡ Some p → IsIn ps p × (p.name ≡ name)
found_plex name [] p e = absurd cc
found_plex name (q ∷ ps) p e = by (found_plex name ps p) (bytes_eq q.name name) refl e
  where
    by : (plex_in name ps ≡ Some p → IsIn ps p × (p.name ≡ name)) → (b : Bool) → bytes_eq q.name name ≡ b → cond b (Some q) (plex_in name ps) ≡ Some p → IsIn (q ∷ ps) p × (p.name ≡ name)
    by rest true is e = let same : p ≡ q = cc in (inl same, subst (λ (x : Plex). x.name ≡ name) (sym same) (bytes_eq_same q.name name is))
    by rest false is e = let r = rest e in (inr r.0, r.1)

passed_by : (runs fits : Bool) (now : PlexState) (vol : Word) → cond runs (unless fits (refusal.PlexState now)) (Some (refusal.NotStarted vol)) ≡ None → (runs ≡ true) × (fits ≡ true)
passed_by true true now vol e = (refl, refl)
passed_by true false now vol e = absurd cc
passed_by false fits now vol e = absurd cc

same_kind : (k : PlexKind) → is_data k ≡ true → is_data_kind k ≡ true
same_kind Data e = refl
same_kind Log e = absurd (false≢true e)

module _ (runs : Word → Bool) (c : Config) (name vol : Word) (p : Plex) (found : plex_in name c.plexes ≡ Some p) (own : p.vol ≡ Some vol) (fits : detach_refusal runs c name ≡ None) where
  passes : (runs vol ≡ true) × ((is_data p.kind && is_in_use p.state) ≡ true)
  passes =
      let here : detach_refusal_of runs p p.vol ≡ None = subst (λ o. found_to_detach runs name o ≡ None) found fits in
      passed_by (runs vol) (is_data p.kind && is_in_use p.state) p.state vol (subst (λ o. detach_refusal_of runs p o ≡ None) own here)

  -- its volume runs
  pub vol_runs : runs vol ≡ true
  vol_runs = passes.0

  pub plex_there : Contains c.plexes p
  plex_there = contains c.plexes p (found_plex name c.plexes p found).0

  pub plex_own : refers p.vol vol ≡ true
  plex_own = ap (λ o. refers o vol) own ∙ bytes_eq_self vol

  pub plex_data : is_data_plex_of vol p ≡ true
  plex_data = and_from _ _ plex_own (same_kind p.kind (and_parts (is_data p.kind) (is_in_use p.state) passes.1).0)

  -- the edits are of the volume alone
  pub edits_own : (next : PlexState) → AreEditsOf c vol (state_edits vol p next)
  edits_own next = ((refl, own_name c vol p (found_plex name c.plexes p found).0 plex_own), tt)

-- ---- a volume under its name

same_vol : (x y : Vol) → VolRecord x ≡ VolRecord y → x ≡ y
same_vol x y e = cc

find_vol : (vs : List Vol) (v : Vol) → IsIn vs v → (u : Vol) × (volume_in v.name vs ≡ Some u) × IsIn vs u × (u.name ≡ v.name)
find_vol [] v there = absurd there
find_vol (x ∷ vs) v there = by (λ later. find_vol vs v later) (bytes_eq x.name v.name) refl there
  where
    by : (IsIn vs v → (u : Vol) × (volume_in v.name vs ≡ Some u) × IsIn vs u × (u.name ≡ v.name)) → (b : Bool) → bytes_eq x.name v.name ≡ b → IsIn (x ∷ vs) v → (u : Vol) × (cond b (Some x) (volume_in v.name vs) ≡ Some u) × IsIn (x ∷ vs) u × (u.name ≡ v.name)
    by rest true is there = (x, refl, inl refl, bytes_eq_same x.name v.name is)
    by rest false is (inl same) = absurd (false≢true (sym is ∙ ap (λ (y : Vol). bytes_eq y.name v.name) (sym same) ∙ bytes_eq_self v.name))
    by rest false is (inr later) = let r = rest later in (r.0, r.1, inr r.2, r.3)

-- a volume of the configuration is the one that is found under its name
pub found_vol : (c : Config) (v : Vol) → IsVolOf c v → volume_in v.name c.volumes ≡ Some v
found_vol c v of =
    let there = vol_recorded c v of in
    let r = find_vol c.volumes v there in
    let same = same_vol r.0 v (one_named [] (objects_of c) (VolRecord r.0) (VolRecord v) (names_differ (objects_of c) (config_valid c)) (records_vol c r.0 r.2) (records_vol c v there) r.3) in
    r.1 ∙ ap (λ (x : Vol). Some x) same

-- ---- the running volume

some_at : {X : Type 0} (o : Option X) → is_some o ≡ true → (x : X) × (o ≡ Some x)
some_at None e = absurd (false≢true e)
some_at (Some x) e = (x, refl)

-- the running volume of the name, which the configuration records as this one, runs in its place
pub record IsRunningIn {P : Type 0} {ghosts : Ghosts P} (see : P → Seen) (g : Imported P ghosts) (vol : Word) : Type 0 where
  pub run : Running P ghosts
  pub there : running_at g.public vol ≡ Some run
  pub volume : Vol
  pub named : volume.name ≡ vol
  pub numbers : List ℕ
  pub placed : RunsInPlace see g.config (good_of see g) numbers volume run

pub it_runs : {P : Type 0} {ghosts : Ghosts P} (see : P → Seen) (g : Imported P ghosts) → IsGroupKept see g → (vol : Word) → is_running g vol ≡ true → IsRunningIn see g vol
it_runs see g kept vol runs =
    let at = some_at (running_at g.public vol) runs in
    let place : IsInPlace see (members see g.base) g.config (good_mask (members see g.base)) vol at.0 =
    entry_found (λ n x. IsInPlace see (members see g.base) g.config (good_mask (members see g.base)) n x) vol g.public.running.entries at.0 kept.placed at.1 in
    record { run = at.0; there = at.1; volume = place.of; named = place.named; numbers = place.numbers; placed = place.placed }
