-- What is known of a log plex that is to leave a running volume, once that is planned.
use Rattle.std.proofs.Common.{◌≡◌, ◌∙◌, Bool, true, false, cond, refl, sym, ap, subst}
use Rattle.std.proofs.lemmas.Bool.{and_from, false≢true}
use Rattle.vx_base.proofs.NamedLemmas.{bytes_eq_self}
use Rattle.vx_piece.specs.Seen.{Seen}
use Rattle.vx_pages.specs.declared.local_piece.LocalPiece.{Ghosts}
use Rattle.vx_config_parts.specs.declared.object.Object.TheVariants.{PlexRecord}
use Rattle.vx_config_parts.specs.declared.plex.Plex.{Plex}
use Rattle.vx_config_parts.specs.declared.plex.PlexKind.{PlexKind}
use Rattle.vx_config_parts.specs.declared.plex.PlexKind.TheVariants.{Data, Log}
use Rattle.vx_config_parts.specs.declared.vol.Vol.{Vol}
use Rattle.vx_config_parts.specs.Objects.{is_log, refers}
use Rattle.vx_objects.specs.Config.{objects_of}
use Rattle.vx_image.specs.Lies.{IsPlexOf}
use Rattle.vx_image.proofs.PlexMembers.{in_one, plex_in}
use Rattle.vx_yielded_volumes.specs.Yielded.{TakesLogOut}
use Rattle.vx_stages.specs.Tests.{is_data}
use Rattle.vx_house.specs.declared.house.Imported.{Imported}
use Rattle.vx_stage_changes.specs.declared.planning.NextConfig.{NextConfig}
use Rattle.vx_stage_mirrors.specs.LogEnding.{is_running}
use Rattle.vx_stage_mirrors.proofs.DetachFacts.{found_plex}
use Rattle.vx_stages.specs.Leaving.{ByLog, ByRecord, FromLog, FromRest, Way, is_asked, way_of}
use Rattle.vx_stage_dissociation.specs.Planned.{IsLeavingPlanned}
use Rattle.vx_stage_dissociation.proofs.LeaveFacts.{edited, plex_there}

-- the way of one whose copy is given up
abbrev is_yield : Way → Bool
is_yield ByRecord = false
is_yield FromLog = true
is_yield FromRest = false
is_yield ByLog = false

either_no : (b : Bool) (x y : Way) → is_yield x ≡ false → is_yield y ≡ false → is_yield (cond b x y) ≡ false
either_no true x y first second = first
either_no false x y first second = second

-- it is that of a log plex of a volume that runs
yield_way : (of_data runs : Bool) (v : Vol) → way_of of_data runs v ≡ FromLog → (of_data ≡ false) × (runs ≡ true)
yield_way true true v e = absurd (false≢true (ap is_yield e))
yield_way true false v e = absurd (false≢true (sym (either_no (is_asked v) ByLog ByRecord refl refl) ∙ ap is_yield e))
yield_way false true v e = (refl, refl)
yield_way false false v e = absurd (false≢true (ap is_yield e))

log_too : (k : PlexKind) → is_data k ≡ false → is_log k ≡ true
log_too Data e = absurd (false≢true (sym e))
log_too Log e = refl

module _ {P : Type 0} {ghosts : Ghosts P} (see : P → Seen) (g : Imported P ghosts) (v : Vol) (p : Plex) (next : NextConfig) (planned : IsLeavingPlanned see FromLog v p next g) where
  ways : (is_data p.kind ≡ false) × (is_running g v.name ≡ true)
  ways = yield_way (is_data p.kind) (is_running g v.name) v planned.way_is

  pub no_data : is_data p.kind ≡ false
  no_data = ways.0

  pub log_runs : is_running g v.name ≡ true
  log_runs = ways.1

  pub takes_log : TakesLogOut g.config v p planned.remove next.config
  takes_log = record {
    there = plex_there see FromLog g v p next planned;
    log_is = and_from (refers p.vol v.name) (is_log p.kind) (ap (λ o. refers o v.name) planned.own ∙ bytes_eq_self v.name) (log_too p.kind no_data);
    edited = edited see FromLog g v p next planned;
  }

  pub plex_recorded : IsPlexOf g.config p
  plex_recorded = in_one (objects_of g.config) (PlexRecord p) (plex_in g.config p (found_plex p.name g.config.plexes p planned.plan.found).0)
