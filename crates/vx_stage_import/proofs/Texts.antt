-- What is judged of a text is what the definition of an import says of it.
use Rattle.std.proofs.Common.{◌≡◌, ◌∙◌, ◌&&◌, Bool, true, false, cond, not, is_some, List, [], ◌∷◌, map, Option, Some, None, refl, sym, ap, subst, inl, inr}
use Rattle.std.specs.Prelude.{MatchOption, MatchBool}
use Rattle.std.specs.Str.{bytes_eq}
use Rattle.std.proofs.lemmas.Bool.{cond-true, cond-false}
use Rattle.vx_base.specs.Named.{Word}
use Rattle.vx_mask.specs.Mask.{has}
use Rattle.vx_header.specs.Named.{Label}
use Rattle.vx_config_parts.specs.declared.vol.Vol.{Vol}
use Rattle.vx_objects.specs.declared.config.Config.{Config}
use Rattle.vx_copies.specs.Image.{Offer}
use Rattle.vx_answers.specs.declared.refusal.Refusal.{Refusal}
use Rattle.vx_answers.specs.declared.refusal.Refusal.TheVariants as refusal
use Rattle.vx_moments.specs.World.{World}
use Rattle.vx_stages.specs.Finding.{Candidate, first_that, is_recorded, good_ones, FindsConfig, FindsText}
use Rattle.vx_stage_import.specs.Judging.{stray_in, started_in, CommitJudged, ConfigJudged, TextJudged}
use Rattle.vx_stage_import.specs.declared.judging.Judged.{Judged}
use Rattle.vx_stage_import.specs.declared.judging.Judged.TheVariants as judged

abbrev pub labels_in : List Candidate → List Label
labels_in cs = map (λ c. c.label) cs

abbrev option_name : Option Candidate → Option Word
option_name None = None
option_name (Some c) = Some c.label.disk

abbrev option_vol : Option Vol → Option Word
option_vol None = None
option_vol (Some v) = Some v.name

-- what follows where the text is refused so, or its configuration is judged so
module _ (dg : Word) (o : Offer) (cs : List Candidate) (w : World) (j : Judged) (Refused : Refusal → Type 0) (Taken : Config → Type 0) (refused : (r : Refusal) → j ≡ judged.Refused r → Refused r) (taken : (config : Config) → CommitJudged config j → Taken config) where
  stray_is : (config : Config) (ds : List Candidate) → option_name (first_that (λ c. not (is_recorded config c.label)) (good_ones o.good ds)) ≡ stray_in config.disks o.good (labels_in ds)
  stray_is config [] = refl
  stray_is config (c ∷ ds) = by (has o.good c.label.slot) (is_recorded config c.label) refl (stray_is config ds)
    where
      by : (g r : Bool) → is_recorded config c.label ≡ r → option_name (first_that (λ c. not (is_recorded config c.label)) (good_ones o.good ds)) ≡ stray_in config.disks o.good (labels_in ds)
          → option_name (first_that (λ c. not (is_recorded config c.label)) (cond g (c ∷ good_ones o.good ds) (good_ones o.good ds))) ≡ cond (g && not (is_recorded config c.label)) (Some c.label.disk) (stray_in config.disks o.good (labels_in ds))
      by false r e rest = rest
      by true true e rest = ap option_name (cond-false _ _ _ (ap not e)) ∙ rest ∙ sym (cond-false _ _ _ (ap not e))
      by true false e rest = ap option_name (cond-true _ _ _ (ap not e)) ∙ sym (cond-true _ _ _ (ap not e))

  -- the first good one that is not recorded
  stray_link : (X : Type 0) (R : Word → Type 0) (c : Option Candidate) → MatchOption (option_name c) X R → MatchOption c X (λ c. R c.label.disk)
  stray_link X R None is = is
  stray_link X R (Some c) is = is

  module _ (started : Word → Bool) (same : (name : Word) → started name ≡ is_some (w.volumes name)) where
    started_is : (vs : List Vol) → option_vol (first_that (λ v. is_some (w.volumes v.name)) vs) ≡ started_in started vs
    started_is [] = refl
    started_is (v ∷ vs) = by (is_some (w.volumes v.name)) (started v.name) (same v.name) (started_is vs)
      where
        by : (b s : Bool) → s ≡ b → option_vol (first_that (λ v. is_some (w.volumes v.name)) vs) ≡ started_in started vs
            → option_vol (cond b (Some v) (first_that (λ v. is_some (w.volumes v.name)) vs)) ≡ cond s (Some v.name) (started_in started vs)
        by true true e rest = refl
        by false false e rest = rest
        by true false e rest = cc
        by false true e rest = cc

    started_link : (X : Type 0) (R : Word → Type 0) (v : Option Vol) → MatchOption (option_vol v) X R → MatchOption v X (λ v. R v.name)
    started_link X R None is = is
    started_link X R (Some v) is = is

    abbrev OnVolumes : Config → Type 0
    OnVolumes config = MatchOption (first_that (λ v. is_some (w.volumes v.name)) config.volumes) (Taken config) (λ v. Refused (refusal.Exists v.name))

    pub config_link : (config : Config) → ConfigJudged dg config o.good (labels_in cs) started j → FindsConfig dg w o cs config Refused Taken
    config_link config is = by_group (bytes_eq config.group dg) is
      where
        on_started : (x : Option Word) → MatchOption x (CommitJudged config j) (λ name. j ≡ judged.Refused (refusal.Exists name)) → MatchOption x (Taken config) (λ name. Refused (refusal.Exists name))
        on_started None is = taken config is
        on_started (Some name) is = refused (refusal.Exists name) is

        volumes : MatchOption (started_in started config.volumes) (CommitJudged config j) (λ name. j ≡ judged.Refused (refusal.Exists name)) → OnVolumes config
        volumes is =
            started_link (Taken config) (λ name. Refused (refusal.Exists name)) (first_that (λ v. is_some (w.volumes v.name)) config.volumes)
            (subst (λ x. MatchOption x (Taken config) (λ name. Refused (refusal.Exists name))) (sym (started_is config.volumes)) (on_started (started_in started config.volumes) is))

        on_stray : (x : Option Word) → MatchOption x (MatchOption (started_in started config.volumes) (CommitJudged config j) (λ name. j ≡ judged.Refused (refusal.Exists name))) (λ disk. j ≡ judged.Refused (refusal.NoObject disk)) → MatchOption x (OnVolumes config) (λ disk. Refused (refusal.NoObject disk))
        on_stray None is = volumes is
        on_stray (Some disk) is = refused (refusal.NoObject disk) is

        strays : MatchOption (stray_in config.disks o.good (labels_in cs)) (MatchOption (started_in started config.volumes) (CommitJudged config j) (λ name. j ≡ judged.Refused (refusal.Exists name))) (λ disk. j ≡ judged.Refused (refusal.NoObject disk)) → MatchOption (first_that (λ c. not (is_recorded config c.label)) (good_ones o.good cs)) (OnVolumes config) (λ c. Refused (refusal.NoObject c.label.disk))
        strays is =
            stray_link (OnVolumes config) (λ disk. Refused (refusal.NoObject disk)) (first_that (λ c. not (is_recorded config c.label)) (good_ones o.good cs))
            (subst (λ x. MatchOption x (OnVolumes config) (λ disk. Refused (refusal.NoObject disk))) (sym (stray_is config cs)) (on_stray (stray_in config.disks o.good (labels_in cs)) is))

        by_group : (b : Bool) → MatchBool b (MatchOption (stray_in config.disks o.good (labels_in cs)) (MatchOption (started_in started config.volumes) (CommitJudged config j) (λ name. j ≡ judged.Refused (refusal.Exists name))) (λ disk. j ≡ judged.Refused (refusal.NoObject disk))) (j ≡ judged.Refused (refusal.NoObject dg)) → MatchBool b (MatchOption (first_that (λ c. not (is_recorded config c.label)) (good_ones o.good cs)) (OnVolumes config) (λ c. Refused (refusal.NoObject c.label.disk))) (Refused (refusal.NoObject dg))
        by_group true is = strays is
        by_group false is = refused (refusal.NoObject dg) is

    -- what follows from a text that was judged is what the definition says of it
    pub text_link : TextJudged dg o.text o.good (labels_in cs) started j → FindsText dg w o cs Refused Taken
    text_link (inl (line, bad, e)) = inl (line, bad, refused (refusal.BadRecord line) e)
    text_link (inr (records, spells, inl (r, broken, e))) = inr (records, spells, inl (r, broken, refused r e))
    text_link (inr (records, spells, inr (config, made, is))) = inr (records, spells, inr (config, made, config_link config is))
