-- What is known of a data plex that is to leave a volume whose log has to be asked: the volume does not run, was started before and has a DCO, of
-- which a log is on good disks.
use Rattle.std.proofs.Common.{◌≡◌, ◌∙◌, ◌==◌, ◌&&◌, ◌||◌, not, Bool, true, false, cond, Option, Some, None, [], length, refl, sym, ap, subst}
use Rattle.std.specs.Prelude.{is_some}
use Rattle.std.specs.List.{list_any}
use Rattle.std.proofs.lemmas.Bool.{and_from, and_parts, false≢true}
use Rattle.vx_base.proofs.NamedLemmas.{bytes_eq_self}
use Rattle.vx_piece.specs.Seen.{Seen}
use Rattle.vx_pages.specs.declared.local_piece.LocalPiece.{Ghosts}
use Rattle.vx_config_parts.specs.declared.plex.Plex.{Plex}
use Rattle.vx_config_parts.specs.declared.plex.PlexKind.{PlexKind}
use Rattle.vx_config_parts.specs.declared.plex.PlexKind.TheVariants.{Data, Log}
use Rattle.vx_config_parts.specs.declared.vol.Vol.{Vol}
use Rattle.vx_config_parts.specs.Objects.{is_data as is_data_kind, is_data_plex_of, refers}
use Rattle.vx_answers.specs.declared.refusal.Refusal.{Refusal}
use Rattle.vx_answers.specs.declared.refusal.Refusal.TheVariants as refusal
use Rattle.vx_state_edits.specs.Edits.{is_new}
use Rattle.vx_image.specs.UsedPlexes.{on_plexes, used_logs}
use Rattle.vx_image.proofs.Members.{is_in}
use Rattle.vx_image.proofs.PlexMembers.{any_in}
use Rattle.vx_lending.specs.Public.{running_at}
use Rattle.vx_lending.proofs.Maps.{one_without}
use Rattle.vx_joined_volumes.specs.Parted.{TakesOut}
use Rattle.vx_stages.specs.Leaving.{ByLog, ByRecord, FromLog, FromRest, Way, found_leaving_refusal, has_other_data, has_other_log, is_asked, is_besides, is_last, is_log_state, named_leaving_refusal, plex_leaving_refusal, volume_leaving_refusal, way_of, way_refusal}
use Rattle.vx_stages.specs.Starting.{first_of, is_first_read}
use Rattle.vx_stages.specs.Tests.{is_data, where_}
use Rattle.vx_group_start.specs.Fresh.{is_fresh}
use Rattle.vx_house.specs.declared.house.Imported.{Imported}
use Rattle.vx_stage_changes.specs.declared.planning.NextConfig.{NextConfig}
use Rattle.vx_stage_volumes.specs.Early.{refusal_here}
use Rattle.vx_stage_volumes.specs.Opening.{good_of}
use Rattle.vx_stage_volumes.proofs.AtOnce.{new_is_fresh}
use Rattle.vx_stage_mirrors.specs.LogEnding.{is_running}
use Rattle.vx_stage_dissociation.specs.Planned.{IsLeavingPlanned}
use Rattle.vx_stage_dissociation.proofs.LeaveFacts.{edited, plex_there, vol_there}

data_too : (k : PlexKind) → is_data k ≡ true → is_data_kind k ≡ true
data_too Data e = refl
data_too Log e = absurd (false≢true e)

-- ---- the way

-- the way of one whose log is asked
abbrev is_log_way : Way → Bool
is_log_way ByRecord = false
is_log_way FromLog = false
is_log_way FromRest = false
is_log_way ByLog = true

-- it is that of a data plex of a volume that does not run and has to be asked
pub ask_way : (of_data runs : Bool) (v : Vol) → way_of of_data runs v ≡ ByLog → (of_data ≡ true) × (runs ≡ false) × (is_asked v ≡ true)
ask_way true true v e = absurd (false≢true (ap is_log_way e))
ask_way true false v e = (refl, refl, by (is_asked v) e)
  where
    by : (b : Bool) → cond b ByLog ByRecord ≡ ByLog → b ≡ true
    by true h = refl
    by false h = absurd (false≢true (ap is_log_way h))
ask_way false true v e = absurd (false≢true (ap is_log_way e))
ask_way false false v e = absurd (false≢true (ap is_log_way e))

-- the way of one that goes by its record alone
abbrev is_record_way : Way → Bool
is_record_way ByRecord = true
is_record_way FromLog = false
is_record_way FromRest = false
is_record_way ByLog = false

-- a plex that goes by its record alone is of a volume that does not run, and if it is one of data, that has nothing to be asked
pub record_way : (of_data runs : Bool) (v : Vol) → way_of of_data runs v ≡ ByRecord → (runs ≡ false) × (of_data ≡ true → is_asked v ≡ false)
record_way true true v e = absurd (false≢true (ap is_record_way e))
record_way true false v e = (refl, λ is. by (is_asked v) e)
  where
    by : (b : Bool) → cond b ByLog ByRecord ≡ ByRecord → b ≡ false
    by true h = absurd (false≢true (ap is_record_way h))
    by false h = refl
record_way false true v e = absurd (false≢true (ap is_record_way e))
record_way false false v e = (refl, λ is. absurd (false≢true is))

-- ---- the tests

some_none : {Q : Type 0} (r : Refusal) → Some r ≡ None → Q
some_none r e = cc

middle_none : (a b c : Option Refusal) → first_of a (first_of b c) ≡ None → (b ≡ None) × (c ≡ None)
middle_none (Some r) b c e = some_none r e
middle_none None (Some r) c e = some_none r e
middle_none None None c e = (refl, e)

where_none : (b : Bool) (r : Refusal) → where_ b r ≡ None → b ≡ false
where_none true r e = some_none r e
where_none false r e = refl

not_false : (b : Bool) → not b ≡ false → b ≡ true
not_false true e = refl
not_false false e = absurd (false≢true (sym e))

none_by : {X : Type 0} (o : Option X) → is_some o ≡ false → o ≡ None
none_by None e = refl
none_by (Some x) e = absurd (false≢true (sym e))

module _ {P : Type 0} {ghosts : Ghosts P} (see : P → Seen) (way : Way) (g : Imported P ghosts) (v : Vol) (p : Plex) (next : NextConfig) (planned : IsLeavingPlanned see way v p next g) where
  passed : volume_leaving_refusal (is_running g v.name) g.config (good_of see g) v p ≡ None
  passed =
      sym
      (ap (λ o. found_leaving_refusal (is_running g) g.config (good_of see g) planned.remove p.name o) planned.plan.found
      ∙ ap (λ o. plex_leaving_refusal (is_running g) g.config (good_of see g) planned.remove p o) planned.own
      ∙ ap (λ o. named_leaving_refusal (is_running g) g.config (good_of see g) p v.name o) planned.volume)
      ∙ planned.plan.fits

  way_passed : way_refusal way g.config (good_of see g) v ≡ None
  way_passed = subst (λ w. way_refusal w g.config (good_of see g) v ≡ None) planned.way_is (middle_none _ _ _ passed).0

  -- a data plex of it is not the last
  another : is_data p.kind ≡ true → has_other_data g.config v.name p.name ≡ true
  another of_data =
      not_false (has_other_data g.config v.name p.name)
      (sym (ap (λ b. cond b (not (has_other_data g.config v.name p.name)) (is_log_state p.state && not (has_other_log g.config (good_of see g) v.name p.name))) of_data) ∙ where_none (is_last g.config (good_of see g) v.name p) (refusal.OnlyPlex p.name) (middle_none _ _ _ passed).1)

  own_data : is_data p.kind ≡ true → is_data_plex_of v.name p ≡ true
  own_data of_data = and_from (refers p.vol v.name) (is_data_kind p.kind) (ap (λ o. refers o v.name) planned.own ∙ bytes_eq_self v.name) (data_too p.kind of_data)

  -- so its volume has a DCO
  pub has_dco : is_data p.kind ≡ true → is_some v.dco ≡ false → ⊥
  has_dco of_data none =
      let q = any_in (λ (q : Plex). is_data_plex_of v.name q && is_besides p.name q) g.config.plexes (another of_data) in
      let both = and_parts (is_data_plex_of v.name q.0) (is_besides p.name q.0) q.2 in
      let same : q.0 ≡ p = one_without g.config v (vol_there see way g v p next planned) q.0 p q.1 (is_in g.config.plexes p (plex_there see way g v p next planned)) both.0 (own_data of_data) none in
      false≢true (sym (ap not (bytes_eq_self p.name)) ∙ ap (λ (x : Plex). is_besides p.name x) (sym same) ∙ both.1)

  pub rests : is_running g v.name ≡ false → running_at g.public v.name ≡ None
  rests none = none_by (running_at g.public v.name) none

  pub takes_by : is_data p.kind ≡ true → TakesOut g.config v p planned.remove next.config
  takes_by of_data = record { there = plex_there see way g v p next planned; data_is = own_data of_data; edited = edited see way g v p next planned }

-- ---- one whose log is asked

module _ {P : Type 0} {ghosts : Ghosts P} (see : P → Seen) (g : Imported P ghosts) (v : Vol) (p : Plex) (next : NextConfig) (planned : IsLeavingPlanned see ByLog v p next g) where
  its_way : (is_data p.kind ≡ true) × (is_running g v.name ≡ false) × (is_asked v ≡ true)
  its_way = ask_way (is_data p.kind) (is_running g v.name) v planned.way_is

  dco_there : is_some v.dco ≡ true
  dco_there = (and_parts (is_some v.dco) (not (is_new v.state)) its_way.2).0

  not_not : (b : Bool) → not b ≡ true → b ≡ false
  not_not true e = absurd (false≢true e)
  not_not false e = refl

  pub not_new : is_new v.state ≡ false
  not_new = not_not (is_new v.state) (and_parts (is_some v.dco) (not (is_new v.state)) its_way.2).1

  pub not_fresh : is_fresh v.state ≡ false
  not_fresh = sym (new_is_fresh v.state) ∙ not_new

  pub ask_absent : running_at g.public v.name ≡ None
  ask_absent = rests see ByLog g v p next planned its_way.1

  pub ask_takes : TakesOut g.config v p planned.remove next.config
  ask_takes = takes_by see ByLog g v p next planned its_way.0

  -- no test of a start would refuse it
  no_log : (fresh dco : Bool) → fresh ≡ false → dco ≡ true → where_ (length (used_logs v.dco g.config (good_of see g) false v.name) == 0) (refusal.NoLog v.name) ≡ None → (other : Bool) →
      first_of (where_ (dco && (length (used_logs v.dco g.config (good_of see g) fresh v.name) == 0)) (refusal.NoLog v.name)) (where_ ((fresh || not dco) && other) (refusal.NoCurrent 0)) ≡ None
  no_log true dco e f none other = absurd (false≢true (sym e))
  no_log false false e f none other = absurd (false≢true f)
  no_log false true e f none other = ap (λ o. first_of o None) none

  pub ask_early : refusal_here g.config (good_of see g) v ≡ None
  ask_early = no_log (is_new v.state) (is_some v.dco) not_new dco_there (way_passed see ByLog g v p next planned)
      (not (list_any (is_first_read (record { config = g.config; good = good_of see g; members = []; sequence = 0 }) v) (on_plexes g.config (good_of see g) v.name)))
