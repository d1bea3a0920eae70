-- What is known of a plex that is to leave its volume, once that is planned.
use Rattle.std.proofs.Common.{◌≡◌, ◌∙◌, Bool, true, false, cond, List, [], ◌∷◌, refl, sym, ap, subst}
use Rattle.std.specs.Prelude.{Contains}
use Rattle.std.proofs.lemmas.Bool.{and_from, false≢true}
use Rattle.vx_base.proofs.NamedLemmas.{bytes_eq_self}
use Rattle.vx_piece.specs.Seen.{Seen}
use Rattle.vx_pages.specs.declared.local_piece.LocalPiece.{Ghosts}
use Rattle.vx_config_parts.specs.declared.plex.Plex.{Plex}
use Rattle.vx_config_parts.specs.declared.plex.PlexKind.{PlexKind}
use Rattle.vx_config_parts.specs.declared.plex.PlexKind.TheVariants.{Data, Log}
use Rattle.vx_config_parts.specs.declared.vol.Vol.{Vol}
use Rattle.vx_config_parts.specs.Objects.{is_data as is_data_kind, refers}
use Rattle.vx_objects.specs.declared.edit.Edit.{Edit}
use Rattle.vx_objects.specs.Applied.{IsEdited}
use Rattle.vx_image.specs.UsedPlexes.{IsVolOf}
use Rattle.vx_image.proofs.Members.{contains}
use Rattle.vx_joined_volumes.specs.Parted.{TakesOut, leaving_edit}
use Rattle.vx_stages.specs.Tests.{is_data}
use Rattle.vx_house.specs.declared.house.Imported.{Imported}
use Rattle.vx_stage_changes.specs.declared.planning.NextConfig.{NextConfig}
use Rattle.vx_stage_volumes.proofs.Named.{found_of}
use Rattle.vx_stage_mirrors.specs.LogEnding.{is_running}
use Rattle.vx_stage_mirrors.proofs.DetachFacts.{found_plex}
use Rattle.vx_stages.specs.Leaving.{ByLog, ByRecord, FromLog, FromRest, Way, is_asked, leaving_edits, way_of}
use Rattle.vx_stage_dissociation.specs.Planned.{IsLeavingPlanned}

-- ---- the way

-- the way of one that comes to rest
abbrev is_rest : Way → Bool
is_rest ByRecord = false
is_rest FromLog = false
is_rest FromRest = true
is_rest ByLog = false

either_no : (b : Bool) (x y : Way) → is_rest x ≡ false → is_rest y ≡ false → is_rest (cond b x y) ≡ false
either_no true x y first second = first
either_no false x y first second = second

-- it is that of a data plex of a volume that runs
pub rest_way : (of_data runs : Bool) (v : Vol) → way_of of_data runs v ≡ FromRest → (of_data ≡ true) × (runs ≡ true)
rest_way true true v e = (refl, refl)
rest_way true false v e = absurd (false≢true (sym (either_no (is_asked v) ByLog ByRecord refl refl) ∙ ap is_rest e))
rest_way false true v e = absurd (false≢true (ap is_rest e))
rest_way false false v e = absurd (false≢true (ap is_rest e))

data_too : (k : PlexKind) → is_data k ≡ true → is_data_kind k ≡ true
data_too Data e = refl
data_too Log e = absurd (false≢true e)

-- ---- the edit

-- the edits of the world are those of the configuration
pub edits_same : (p : Plex) (remove : Bool) → leaving_edits remove p ≡ leaving_edit remove p ∷ []
edits_same p true = refl
edits_same p false = refl

module _ {P : Type 0} {ghosts : Ghosts P} (see : P → Seen) (way : Way) (g : Imported P ghosts) (v : Vol) (p : Plex) (next : NextConfig) (planned : IsLeavingPlanned see way v p next g) where
  pub plex_there : Contains g.config.plexes p
  plex_there = contains g.config.plexes p (found_plex p.name g.config.plexes p planned.plan.found).0

  pub vol_there : IsVolOf g.config v
  vol_there = found_of g.config v.name v planned.volume

  pub edited : IsEdited (leaving_edit planned.remove p ∷ []) g.config next.config
  edited = subst (λ (es : List Edit). IsEdited es g.config next.config) (edits_same p planned.remove) planned.plan.next_is.0

  -- one that leaves a running volume is a data plex of it
  pub takes_out : way ≡ FromRest → TakesOut g.config v p planned.remove next.config
  takes_out is = record {
    there = plex_there;
    data_is = and_from (refers p.vol v.name) (is_data_kind p.kind) (ap (λ o. refers o v.name) planned.own ∙ bytes_eq_self v.name) (data_too p.kind (rest_way (is_data p.kind) (is_running g v.name) v (planned.way_is ∙ is)).0);
    edited = edited;
  }

  pub vol_runs : way ≡ FromRest → is_running g v.name ≡ true
  vol_runs is = (rest_way (is_data p.kind) (is_running g v.name) v (planned.way_is ∙ is)).1
