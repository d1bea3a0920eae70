-- No rule refuses the edits of a volume and its plexes.
use Rattle.std.proofs.Common.{◌≡◌, ℕ, Bool, true, false, Option, None, List, [], ◌∷◌, map, refl, ◌∙◌, ap, if◌then◌else◌, inl, inr}
use Rattle.std.specs.Str.{bytes_eq}
use Rattle.vx_base.specs.Named.{Word}
use Rattle.vx_base.proofs.NamedLemmas.{bytes_eq_self}
use Rattle.vx_config_parts.specs.declared.object.Object.{Object}
use Rattle.vx_config_parts.specs.declared.object.Object.TheVariants.{PlexRecord, VolRecord}
use Rattle.vx_config_parts.specs.declared.fault.ObjectFault.TheVariants.{NoObject}
use Rattle.vx_config_parts.specs.declared.plex.Plex.{Plex}
use Rattle.vx_config_parts.specs.declared.plex.PlexKind.{PlexKind}
use Rattle.vx_config_parts.specs.declared.plex.PlexKind.TheVariants.{Data, Log}
use Rattle.vx_config_parts.specs.declared.state.PlexState.{PlexState}
use Rattle.vx_config_parts.specs.declared.state.PlexState.TheVariants as plex
use Rattle.vx_config_parts.specs.declared.state.VolState.{VolState}
use Rattle.vx_config_parts.specs.declared.vol.Vol.{Vol}
use Rattle.vx_config_parts.specs.Objects.{is_plex, is_vol, is_log, refers}
use Rattle.vx_rules.specs.Faults.{first_some, unless}
use Rattle.vx_rules.specs.Maps.{is_in_use}
use Rattle.vx_rules.specs.References.{has_plex, has_vol}
use Rattle.vx_rules.specs.Rules.{first_broken}
use Rattle.vx_objects.specs.declared.config.Config.{Config}
use Rattle.vx_objects.specs.Config.{objects_of}
use Rattle.vx_objects.specs.Edits.{set_vol, edited, edited_by, target_fault, refusal_of}
use Rattle.vx_objects.specs.Parts.{in_kinds}
use Rattle.vx_state_edits.specs.Edits.{plexes_of, plex_edit, vol_edit, policy_of, state_edits, log_started, started_as, started, stopped_as, stopped, recovered_as, recovered, is_marked}
use Rattle.vx_state_edits.specs.Laws.{IsAmong, IsRecorded}
use Rattle.vx_state_edits.proofs.ByKind.{sorted_restated, records_plex}
use Rattle.vx_state_edits.proofs.Changes.{is_kept, plex_state, vol_state, all_set}
use Rattle.vx_state_edits.proofs.Members.{any_among, from_filter}
use Rattle.vx_state_edits.proofs.Restating.{any_changed}
use Rattle.vx_state_edits.proofs.Steps.{set_one, plex_edited, volume_edited}
use Rattle.vx_state_edits.proofs.Unseen.{unseen}

there_then : {A : Type 0} (there : Bool) (x : A) (rest : Option A) → there ≡ true → first_some (unless there x) rest ≡ rest
there_then true x rest e = refl
there_then false x rest e = cc

-- ---- what is edited is there

module _ (after : Plex → PlexState) where
  one_there : (name : Word) (q : Plex) (o : Object) → is_plex (λ p. bytes_eq p.name name) (set_one after q o) ≡ is_plex (λ p. bytes_eq p.name name) o
  one_there name q (PlexRecord p) = by (bytes_eq p.name q.name)
    where
      by : (b : Bool) → is_plex (λ p. bytes_eq p.name name) (PlexRecord (if b then record p { vol = q.vol; state = after q; map = q.map } else p)) ≡ bytes_eq p.name name
      by true = refl
      by false = refl
  one_there name q o = refl

  plex_stays : (name : Word) (q : Plex) (os : List Object) → has_plex name (edited (plex_edit after q) os) ≡ has_plex name os
  plex_stays name q os =
      ap (λ (l : List Object). has_plex name l) (plex_edited after q os)
      ∙ any_changed (λ o. set_one after q o) (λ o. is_plex (λ p. bytes_eq p.name name) o) (λ o. is_plex (λ p. bytes_eq p.name name) o) (one_there name q) os

  vol_like : (next : VolState) (v : Vol) (name : Word) (o : Object) → is_plex (λ p. bytes_eq p.name name) (set_vol v.name next (policy_of v.rdpol v.prefer) o) ≡ is_plex (λ p. bytes_eq p.name name) o
  vol_like next v name (VolRecord w) = refl
  vol_like next v name o = refl

  plex_beside : (next : VolState) (v : Vol) (name : Word) (os : List Object) → has_plex name (edited (vol_edit next v) os) ≡ has_plex name os
  plex_beside next v name os =
      ap (λ (l : List Object). has_plex name l) (volume_edited after next v os)
      ∙ any_changed (λ o. set_vol v.name next (policy_of v.rdpol v.prefer) o) (λ o. is_plex (λ p. bytes_eq p.name name) o) (λ o. is_plex (λ p. bytes_eq p.name name) o) (vol_like next v name) os

  plex_target : (q : Plex) (os : List Object) → target_fault (plex_edit after q) os ≡ unless (has_plex q.name os) (NoObject q.name)
  unfolding target_fault
  plex_target q os = refl

  vol_target : (next : VolState) (v : Vol) (os : List Object) → target_fault (vol_edit next v) os ≡ unless (has_vol v.name os) (NoObject v.name)
  unfolding target_fault
  vol_target next v os = refl

  -- edits of plexes that are there are refused as the records afterwards are
  plexes_refused : (qs : List Plex) (os : List Object) → ((q : Plex) → IsAmong qs q → has_plex q.name os ≡ true)
      → refusal_of (map (plex_edit after) qs) os ≡ first_broken (in_kinds (edited_by (map (plex_edit after) qs) os))
  plexes_refused [] os there = refl
  plexes_refused (q ∷ qs) os there =
      ap (λ f. first_some f (refusal_of (map (plex_edit after) qs) (edited (plex_edit after q) os))) (plex_target q os)
      ∙ there_then (has_plex q.name os) (NoObject q.name) (refusal_of (map (plex_edit after) qs) (edited (plex_edit after q) os)) (there q (inl refl))
      ∙ plexes_refused qs (edited (plex_edit after q) os) (λ p m. plex_stays p.name q os ∙ there p (inr m))

  module _ (c : Config) (v : Vol) (recorded : IsRecorded c v) (next : VolState) (steady : (p : Plex) → is_log p.kind ≡ true → is_in_use (after p) ≡ is_in_use p.state) where
    abbrev f : Plex → PlexState
    f = plex_state v.name after

    abbrev g : Vol → VolState
    g = vol_state v.name next

    own_there : (q : Plex) → IsAmong (plexes_of c v.name) q → has_plex q.name (objects_of c) ≡ true
    own_there q m =
        let r = from_filter (λ x. refers x.vol v.name) c.plexes q m in
        any_among (λ o. is_plex (λ p. bytes_eq p.name q.name) o) (objects_of c) (PlexRecord q) (records_plex c q r.0) (bytes_eq_self q.name)

    refused : refusal_of (state_edits next after c v) (objects_of c) ≡ first_broken (in_kinds (edited_by (state_edits next after c v) (objects_of c)))
    refused =
        let rest = refusal_of (map (plex_edit after) (plexes_of c v.name)) (edited (vol_edit next v) (objects_of c)) in
        ap (λ f. first_some f rest) (vol_target next v (objects_of c))
        ∙ there_then (has_vol v.name (objects_of c)) (NoObject v.name) rest (any_among (λ o. is_vol (λ w. bytes_eq w.name v.name) o) (objects_of c) (VolRecord v) recorded (bytes_eq_self v.name))
        ∙ plexes_refused (plexes_of c v.name) (edited (vol_edit next v) (objects_of c)) (λ q m. plex_beside next v q.name (objects_of c) ∙ own_there q m)

    steady_all : (p : Plex) → is_log p.kind ≡ true → is_in_use (f p) ≡ is_in_use p.state
    steady_all p e = by (refers p.vol v.name) (steady p e)
      where
        by : (b : Bool) → is_in_use (after p) ≡ is_in_use p.state → is_in_use (if b then after p else p.state) ≡ is_in_use p.state
        by true same = same
        by false same = refl

    pub none_refused : refusal_of (state_edits next after c v) (objects_of c) ≡ None
    none_refused =
        refused
        ∙ ap (λ (l : List Object). first_broken (in_kinds l)) (all_set c v recorded next after)
        ∙ ap first_broken (sorted_restated f g c)
        ∙ unseen f g steady_all (objects_of c)
        ∙ is_kept c

-- ---- a log plex counts as it did

log_counts : (first : Bool) (s : PlexState) → is_in_use (log_started first s) ≡ is_in_use s
log_counts true plex.Empty = refl
log_counts false plex.Empty = refl
log_counts first other = refl

start_steady : (first : Bool) (k : PlexKind) (s : PlexState) → is_log k ≡ true → is_in_use (started_as first k s) ≡ is_in_use s
start_steady first Data s e = cc
start_steady first Log s e = log_counts first s

stop_steady : (k : PlexKind) (marked : Bool) (s : PlexState) → is_log k ≡ true → is_in_use (stopped_as k marked s) ≡ is_in_use s
stop_steady Data marked s e = cc
stop_steady Log marked s e = refl

pub start_counts : (first : Bool) (p : Plex) → is_log p.kind ≡ true → is_in_use (started first p) ≡ is_in_use p.state
start_counts first p e = start_steady first p.kind p.state e

pub stop_counts : (marks : ℕ) (p : Plex) → is_log p.kind ≡ true → is_in_use (stopped marks p) ≡ is_in_use p.state
stop_counts marks p e = stop_steady p.kind (is_marked marks p.map) p.state e

recovered_steady : (k : PlexKind) (marked : Bool) (s : PlexState) → is_log k ≡ true → is_in_use (recovered_as k marked s) ≡ is_in_use s
recovered_steady Data marked s e = cc
recovered_steady Log marked s e = refl

pub recovered_counts : (marks : ℕ) (p : Plex) → is_log p.kind ≡ true → is_in_use (recovered marks p) ≡ is_in_use p.state
recovered_counts marks p e = recovered_steady p.kind (is_marked marks p.map) p.state e
