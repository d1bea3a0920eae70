-- The tests of a plex that is to leave its volume, and why nothing is planned.
use Rattle.std.proofs.Common.{◌≡◌, ◌∙◌, ℕ, ◌<◌, Bool, true, false, cond, List, [], ◌∷◌, length, Option, Some, None, refl, sym, ap, subst, arith}
use Rattle.std.specs.Prelude.{◌==◌, ◌||◌, is_some, not}
use Rattle.std.specs.List.{filter, list_any}
use Rattle.std.proofs.lemmas.Bool.{false_from_ne_true, false≢true}
use Rattle.vx_base.specs.Named.{Word}
use Rattle.vx_mask.proofs.MaskLemmas.{empty_from_test}
use Rattle.vx_config_parts.specs.declared.plex.Plex.{Plex}
use Rattle.vx_config_parts.specs.declared.vol.Vol.{Vol}
use Rattle.vx_objects.specs.declared.config.Config.{Config}
use Rattle.vx_objects.specs.declared.edit.Edit.{Edit}
use Rattle.vx_image.specs.UsedPlexes.{is_used_log, used_logs}
use Rattle.vx_stages.specs.Logging.{AreEditsRefused}
use Rattle.vx_stages.specs.Mirroring.{RefusedFor}
use Rattle.vx_stages.specs.Plexes.{plex_in}
use Rattle.vx_stages.specs.Tests.{volume_in}
use Rattle.vx_house.specs.declared.stop.Stop.{Stop}
use Rattle.vx_house.specs.declared.stop.Stop.TheVariants as stops
use Rattle.vx_stage_changes.specs.Planning.{IsUnplanned}
use Rattle.vx_stage_mirrors.specs.Planned.{EndsAs}
use Rattle.vx_stages.specs.Leaving.{found_leaving_refusal, leaving_refusal, named_leaving_refusal, plex_leaving_refusal, volume_leaving_refusal}

some_long : (n : ℕ) → 0 < n → not (n == 0) ≡ true
some_long n some = ap not (false_from_ne_true (n == 0) (λ e. let none = empty_from_test n e in absurd (omega (arith, none, some))))

-- some item passes a test just where those that do are some
any_long : {A : Type 0} (t : A → Bool) (xs : List A) → list_any t xs ≡ not (length (filter t xs) == 0)
any_long t [] = refl
any_long t (x ∷ xs) = by (t x) (any_long t xs)
  where
    by : (b : Bool) → list_any t xs ≡ not (length (filter t xs) == 0) → (b || list_any t xs) ≡ not (length (cond b (x ∷ filter t xs) (filter t xs)) == 0)
    by true rest = sym (some_long (length (x ∷ filter t xs)) (omega arith))
    by false rest = rest

-- so it is with the logs that a volume uses
pub logs_long : (dco : Option Word) (c : Config) (good : ℕ) (vol : Word) → is_some dco ≡ true → list_any (is_used_log c good false vol) c.plexes ≡ not (length (used_logs dco c good false vol) == 0)
logs_long None c good vol e = absurd (false≢true e)
logs_long (Some dco) c good vol e = any_long (is_used_log c good false vol) c.plexes

pub unplanned_as : (c : Config) (edits edits' : List Edit) → edits ≡ edits' → (stop : Stop) → IsUnplanned edits c stop → EndsAs (AreEditsRefused c edits') stop
unplanned_as c edits edits' same stop why = by stop (subst (λ es. IsUnplanned es c stop) same why)
  where
    by : (s : Stop) → IsUnplanned edits' c s → EndsAs (AreEditsRefused c edits') s
    by stops.OutOfMemory h = tt
    by (stops.Ended end) h = h

-- a test that refuses it of its volume refuses it
pub refused_as : (runs : Word → Bool) (c : Config) (good : ℕ) (remove : Bool) (name : Word) (p : Plex) (vol : Word) (v : Vol) → plex_in name c.plexes ≡ Some p → p.vol ≡ Some vol → volume_in vol c.volumes ≡ Some v → (run : Bool) → run ≡ runs v.name → (these : ℕ) → these ≡ good →
    (stop : Stop) → EndsAs (RefusedFor (λ r. volume_leaving_refusal run c these v p ≡ Some r)) stop → EndsAs (RefusedFor (λ r. leaving_refusal runs c good remove name ≡ Some r)) stop
refused_as runs c good remove name p vol v found own there run run_is these these_are stops.OutOfMemory why = tt
refused_as runs c good remove name p vol v found own there run run_is these these_are (stops.Ended end) (r, is, e) = (
  r,
  ap (found_leaving_refusal runs c good remove name) found
      ∙ ap (plex_leaving_refusal runs c good remove p) own
      ∙ ap (named_leaving_refusal runs c good p vol) there
      ∙ sym (ap (λ b. volume_leaving_refusal b c these v p) run_is ∙ ap (λ n. volume_leaving_refusal (runs v.name) c n v p) these_are)
      ∙ is,
  e,
)
