-- What is known of a plex that passed the tests, and how the stage ends on the group by that.
use Rattle.std.proofs.Common.{◌≡◌, ◌∙◌, ℕ, Bool, true, false, Option, Some, None, Result, Err, refl, sym, ap, subst, inl, inr}
use Rattle.vx_base.specs.Named.{Word}
use Rattle.vx_piece.specs.Seen.{Seen}
use Rattle.vx_pages.specs.declared.local_piece.LocalPiece.{Ghosts}
use Rattle.vx_config_parts.specs.declared.plex.Plex.{Plex}
use Rattle.vx_config_parts.specs.declared.vol.Vol.{Vol}
use Rattle.vx_answers.specs.declared.refusal.Refusal.{Refusal}
use Rattle.vx_answers.specs.declared.refusal.Refusal.TheVariants as refusal
use Rattle.vx_objects.specs.declared.config.Config.{Config}
use Rattle.vx_stages.specs.Logging.{AreEditsRefused}
use Rattle.vx_stages.specs.Plexes.{plex_in}
use Rattle.vx_stages.specs.Tests.{is_data, unless, volume_in}
use Rattle.vx_house.specs.declared.house.Imported.{Imported}
use Rattle.vx_house.specs.declared.stop.Stop.{Stop}
use Rattle.vx_house.specs.declared.stop.Stop.TheVariants as stops
use Rattle.vx_stage_changes.specs.Planning.{IsPlanned}
use Rattle.vx_stage_changes.specs.declared.planning.NextConfig.{NextConfig}
use Rattle.vx_stage_volumes.specs.Opening.{good_of}
use Rattle.vx_stage_volumes.proofs.Named.{found_name}
use Rattle.vx_stage_mirrors.specs.LogEnding.{is_running}
use Rattle.vx_stage_mirrors.specs.Planned.{EndsAs}
use Rattle.vx_stage_mirrors.proofs.DetachFacts.{found_plex}
use Rattle.vx_stage_dissociation.specs.Ending.{DissociateEnds, WayEnds}
use Rattle.vx_stage_dissociation.specs.Going.{EachHouseRemoves}
use Rattle.vx_stages.specs.Leaving.{Way, found_leaving_refusal, leaving_edits, leaving_refusal, named_leaving_refusal, plex_leaving_refusal, way_of}
use Rattle.vx_stage_dissociation.specs.Planned.{IsLeavingPlanned, IsPlanFor, own_volume}

-- ---- by the tests

unless_none : (b : Bool) (r : Refusal) → unless b r ≡ None → b ≡ true
unless_none true r e = refl
unless_none false r e = absurd cc

not_refused : (r : Refusal) → Some r ≡ None → ⊥
not_refused r e = cc

no_some : {X : Type 0} (x : X) → None ≡ Some x → ⊥
no_some x e = cc

-- one without a volume can only be removed
alone_by : (runs : Word → Bool) (c : Config) (good : ℕ) (remove : Bool) (p : Plex) (o : Option Word) → own_volume c o ≡ None → plex_leaving_refusal runs c good remove p o ≡ None → (o ≡ None) × (remove ≡ true)
alone_by runs c good remove p None own fits = (refl, unless_none remove (refusal.PlexState p.state) fits)
alone_by runs c good remove p (Some vol) own fits = absurd (not_refused (refusal.NoObject vol) (subst (λ o. named_leaving_refusal runs c good p vol o ≡ None) own fits))

-- .. and the volume of another one has its name
own_by : (c : Config) (o : Option Word) (v : Vol) → own_volume c o ≡ Some v → (o ≡ Some v.name) × (volume_in v.name c.volumes ≡ Some v)
own_by c None v is = absurd (no_some v is)
own_by c (Some vol) v is =
    let named : v.name ≡ vol = found_name c vol v is in
    (ap (λ n. Some n) (sym named), subst (λ n. volume_in n c.volumes ≡ Some v) (sym named) is)

module _ {P : Type 0} {ghosts : Ghosts P} (see : P → Seen) (g : Imported P ghosts) (name : Word) (remove : Bool) (p : Plex) (own : Option Vol) (found : plex_in name g.config.plexes ≡ Some p) (own_is : own ≡ own_volume g.config p.vol)
    (passes : leaving_refusal (is_running g) g.config (good_of see g) remove name ≡ None) where
  named : p.name ≡ name
  named = (found_plex name g.config.plexes p found).1

  fits : plex_leaving_refusal (is_running g) g.config (good_of see g) remove p p.vol ≡ None
  fits = subst (λ o. found_leaving_refusal (is_running g) g.config (good_of see g) remove name o ≡ None) found passes

  -- ---- nothing is planned

  pub unplanned_ends : (stop : Stop) → EndsAs (AreEditsRefused g.config (leaving_edits remove p)) stop → DissociateEnds see remove name (Err stop) g g
  unplanned_ends (stops.Ended end) why = inl (refl, inr (p, record { found = found; fits = passes }, why))
  unplanned_ends stops.OutOfMemory why = inl (refl, tt)

  -- ---- planned

  module _ (next : NextConfig) (next_is : IsPlanned (leaving_edits remove p) g.config next) where
    plan : IsPlanFor see remove p next g
    plan = record {
      found = subst (λ n. plex_in n g.config.plexes ≡ Some p) (sym named) found;
      fits = subst (λ n. leaving_refusal (is_running g) g.config (good_of see g) remove n ≡ None) (sym named) passes;
      next_is = next_is;
    }

    -- it is of no volume
    module _ (none : own ≡ None) where
      alone : (p.vol ≡ None) × (remove ≡ true)
      alone = alone_by (is_running g) g.config (good_of see g) remove p p.vol (sym own_is ∙ none) fits

      pub is_alone : p.vol ≡ None
      is_alone = alone.0

      pub alone_planned : IsPlanFor see true p next g
      alone_planned = subst (λ b. IsPlanFor see b p next g) alone.1 plan

      pub alone_ends : (result : Result (Unit {0}) Stop) (new : Imported P ghosts) → EachHouseRemoves see p next result g new → DissociateEnds see remove name result g new
      alone_ends result new e = inr (inl (record { removed = alone.1; plex = p; named = named; none = alone.0; next = next; planned = alone_planned; ends = e }))

    -- it is of this one
    module _ (v : Vol) (some : own ≡ Some v) (way : Way) (way_is : way_of (is_data p.kind) (is_running g v.name) v ≡ way) where
      its : (p.vol ≡ Some v.name) × (volume_in v.name g.config.volumes ≡ Some v)
      its = own_by g.config p.vol v (sym own_is ∙ some)

      pub way_planned : IsLeavingPlanned see way v p next g
      way_planned = record { remove = remove; plan = plan; own = its.0; volume = its.1; way_is = way_is }

      pub way_ends : (result : Result (Unit {0}) Stop) (new : Imported P ghosts) → WayEnds see way v p next result g new → DissociateEnds see remove name result g new
      unfolding way_planned
      way_ends result new e = inr (inr (record { volume = v; plex = p; named = named; next = next; way = way; planned = way_planned; removed = refl; ends = e }))
