-- Each record of a new volume has a name of its own.
use Rattle.std.proofs.Common.{◌≡◌, ℕ, ◌+◌, ◌<◌, Bool, true, false, None, List, [], ◌∷◌, ◌++◌, length, map, codes, min, refl, sym, ap, ◌∙◌, subst, inl, inr, arith, if◌then◌else◌, length-append}
use Rattle.std.proofs.lemmas.List.{map-append}
use Rattle.vx_base.specs.Named.{Word}
use Rattle.vx_config_parts.specs.declared.object.Object.{Object}
use Rattle.vx_config_parts.specs.declared.object.Object.TheVariants.{DcoRecord}
use Rattle.vx_config_parts.specs.Objects.{name_of}
use Rattle.vx_rules.specs.References.{repeated_after}
use Rattle.vx_image.proofs.PlexMembers.{IsIn, in_either, in_left, in_right}
use Rattle.vx_new_volumes.specs.declared.parts.Plan.{Plan}
use Rattle.vx_new_volumes.specs.Records.{data_plexes, dco_of, has_logs, log_plex, log_stem, names_known}
use Rattle.vx_new_volumes.specs.declared.volume.NewVolume.{NewVolume}
use Rattle.vx_new_volume_laws.proofs.Parts.{IsMade}
use Rattle.vx_new_volume_laws.proofs.Stems.{numbered_one}
use Rattle.vx_new_volume_laws.proofs.Behind.{AreFound, AreOnce, found, same_word}
use Rattle.vx_new_volume_laws.proofs.Passed.{Passed}
use Rattle.vx_new_volume_laws.proofs.Places.{none_laid, places, subdisks_put}
use Rattle.vx_new_volume_laws.proofs.Placed.{ArePut, once_append, put}
use Rattle.vx_new_volume_laws.proofs.Repeats.{not_had, not_known, repeated_append, repeated_new}

longer : (s t : Word) → 0 < length t → s ≡ s ++ t → ⊥
longer s t some e = let long = ap (λ (w : Word). length w) e in let sum = length-append s t in absurd (omega (arith, long, sum, some))

names4 : (a b c d : List Object) → map name_of (a ++ b ++ c ++ d) ≡ map name_of a ++ map name_of b ++ map name_of c ++ map name_of d
names4 a b c d =
    map-append name_of (a ++ b ++ c) d
    ∙ ap (λ (l : List Word). l ++ map name_of d) (map-append name_of (a ++ b) c ∙ ap (λ (l : List Word). l ++ map name_of c) (map-append name_of a b))

module _ (n : NewVolume) where
  data_names : (m : ℕ) (names : List Word) → map name_of (data_plexes n m names) ≡ names
  data_names m [] = refl
  data_names m (name ∷ names) = ap (λ (l : List Word). name ∷ l) (data_names (min (m + 1) 255) names)

  log_names : (names : List Word) → map name_of (map (log_plex n) names) ≡ names
  log_names [] = refl
  log_names (name ∷ names) = ap (λ (l : List Word). name ∷ l) (log_names names)

  abbrev dco_names : Word → List Word
  dco_names dco = if has_logs n then dco ∷ [] else []

  names_of_dco : (dco : Word) → map name_of (dco_of n dco) ≡ dco_names dco
  names_of_dco dco = by (has_logs n)
    where
      by : (b : Bool) → map name_of (if b then DcoRecord (record { name = dco; vol = n.vol; maps = 32 }) ∷ [] else []) ≡ (if b then dco ∷ [] else [])
      by true = refl
      by false = refl

  in_dco_names : (dco v : Word) → IsIn (dco_names dco) v → (v ≡ dco) × (has_logs n ≡ true)
  in_dco_names dco v there = by (has_logs n) refl there
    where
      by : (b : Bool) → has_logs n ≡ b → IsIn (if b then dco ∷ [] else []) v → (v ≡ dco) × (has_logs n ≡ true)
      by true e (inl same) = (same, e)
      by true e (inr none) = absurd none
      by false e none = absurd none

  once_dco : (dco : Word) → AreOnce (dco_names dco)
  once_dco dco = by (has_logs n)
    where
      by : (b : Bool) → AreOnce (if b then dco ∷ [] else [])
      by true = ((λ v there same. there), tt)
      by false = tt

module _ (group : List Object) (n : NewVolume) (plan : Plan) (added : List Object) (m : IsMade group n plan added) where
  abbrev known : List Word
  known = names_known group n m.dco

  abbrev all_known : List Word
  all_known = known ++ m.plexes ++ m.logs

  pub plexes_found : AreFound (names_known group n m.dco) n.vol (length plan.plexes) m.plexes
  plexes_found = found (length plan.plexes) known n.vol m.plexes m.are_plexes

  pub logs_found : AreFound (names_known group n m.dco) (log_stem n.vol) (length plan.logs) m.logs
  logs_found = found (length plan.logs) known (log_stem n.vol) m.logs m.are_logs

  pub subdisks_found : ArePut (names_known group n m.dco ++ m.plexes ++ m.logs) (places m.plexes m.logs plan) none_laid m.laid
  subdisks_found = put all_known (places m.plexes m.logs plan) none_laid m.laid (sym (subdisks_put all_known m.plexes m.logs plan) ∙ m.is_laid) (record { each = λ name there. absurd there; once = tt })

  abbrev subs : List Word
  subs = map name_of m.laid.objects

  names_are : map name_of added ≡ n.vol ∷ (dco_names n m.dco ++ m.plexes ++ m.logs ++ subs)
  names_are =
      ap (λ (os : List Object). map name_of os) m.are
      ∙ ap (λ (l : List Word). n.vol ∷ l) (
      names4 (dco_of n m.dco) (data_plexes n 0 m.plexes) (map (log_plex n) m.logs) m.laid.objects
      ∙ (λ i. names_of_dco n m.dco i ++ data_names n 0 m.plexes i ++ log_names n m.logs i ++ subs))

  -- ---- no two are one

  dco_is : m.dco ≡ n.vol ++ codes "_dco"
  dco_is = same_word (n.vol ++ codes "_dco") m.dco m.is_dco

  plex_new : (v : Word) → IsIn m.plexes v → IsIn known v → ⊥
  plex_new v there had = not_known known v (plexes_found.each v there).new had

  log_new : (v : Word) → IsIn m.logs v → IsIn known v → ⊥
  log_new v there had = not_known known v (logs_found.each v there).new had

  sub_new : (v : Word) → IsIn subs v → IsIn all_known v → ⊥
  sub_new v there had = not_known all_known v (subdisks_found.own.each v there).new had

  pub plex_no_log : (v : Word) → IsIn m.plexes v → IsIn m.logs v → ⊥
  plex_no_log v p l =
      let a = plexes_found.each v p in
      let b = logs_found.each v l in
      longer n.vol (codes "_dcl") (omega arith) (numbered_one n.vol (log_stem n.vol) a.number b.number a.most b.most (sym a.is ∙ b.is)).0

  in_front : (v : Word) → IsIn known v → IsIn all_known v
  in_front v there = in_left (known ++ m.plexes) m.logs v (in_left known m.plexes v there)

  dco_in : (v : Word) → IsIn (dco_names n m.dco) v → IsIn known v
  dco_in v there = inr (inl (in_dco_names n m.dco v there).0)

  apart_subs : (v : Word) → IsIn (dco_names n m.dco ++ m.plexes ++ m.logs) v → IsIn subs v → ⊥
  apart_subs v there sub = sub_new v sub (elim (in_either (dco_names n m.dco ++ m.plexes) m.logs v there) [
    | inr l ↦ in_right (known ++ m.plexes) m.logs v l
    | inl own ↦ elim (in_either (dco_names n m.dco) m.plexes v own) [
      | inl d ↦ in_front v (dco_in v d)
      | inr p ↦ in_left (known ++ m.plexes) m.logs v (in_right known m.plexes v p)
    ]
  ])

  apart_logs : (v : Word) → IsIn (dco_names n m.dco ++ m.plexes) v → IsIn m.logs v → ⊥
  apart_logs v there l = elim (in_either (dco_names n m.dco) m.plexes v there) [
    | inl d ↦ log_new v l (dco_in v d)
    | inr p ↦ plex_no_log v p l
  ]

  once_behind : AreOnce (dco_names n m.dco ++ m.plexes ++ m.logs ++ subs)
  once_behind =
      once_append (dco_names n m.dco ++ m.plexes ++ m.logs) subs
      (once_append (dco_names n m.dco ++ m.plexes) m.logs (once_append (dco_names n m.dco) m.plexes (once_dco n m.dco) plexes_found.once (λ v d p. plex_new v p (dco_in v d))) logs_found.once apart_logs)
      subdisks_found.own.once apart_subs

  -- what stands behind the volume: a name of each kind
  module _ (Q : Word → Type 0) (dco : has_logs n ≡ true → Q m.dco) (plex : (v : Word) → IsIn m.plexes v → Q v) (log : (v : Word) → IsIn m.logs v → Q v) (sub : (v : Word) → IsIn subs v → Q v) where
    of_names : (v : Word) → IsIn (dco_names n m.dco ++ m.plexes ++ m.logs ++ subs) v → Q v
    of_names v there = elim (in_either (dco_names n m.dco ++ m.plexes ++ m.logs) subs v there) [
      | inr s ↦ sub v s
      | inl plain ↦ elim (in_either (dco_names n m.dco ++ m.plexes) m.logs v plain) [
        | inr l ↦ log v l
        | inl own ↦ elim (in_either (dco_names n m.dco) m.plexes v own) [
          | inr p ↦ plex v p
          | inl d ↦ let r = in_dco_names n m.dco v d in subst Q (sym r.0) (dco r.1)
        ]
      ]
    ]

  vol_in : IsIn known n.vol
  vol_in = inl refl

  once_names : AreOnce (map name_of added)
  once_names = subst AreOnce (sym names_are) (
    of_names (λ v. n.vol ≡ v → ⊥)
        (λ logs same. longer n.vol (codes "_dco") (omega arith) (same ∙ dco_is))
        (λ v p same. plex_new v p (subst (λ (w : Word). IsIn known w) same vol_in))
        (λ v l same. log_new v l (subst (λ (w : Word). IsIn known w) same vol_in))
        (λ v s same. sub_new v s (in_front v (subst (λ (w : Word). IsIn known w) same vol_in))),
    once_behind,
  )

  module _ (started : Bool) (p : Passed started group n) where
    -- no record of the group has a name of theirs
    pub not_of_group : (w : Word) → IsIn (map name_of added) w → IsIn (map name_of group) w → ⊥
    not_of_group w there = by (subst (λ (l : List Word). IsIn l w) names_are there)
      where
        by : IsIn (n.vol ∷ (dco_names n m.dco ++ m.plexes ++ m.logs ++ subs)) w → IsIn (map name_of group) w → ⊥
        by (inl same) = subst (λ (v : Word). IsIn (map name_of group) v → ⊥) (sym same) (not_had group n.vol p.free)
        by (inr more) =
            of_names (λ v. IsIn (map name_of group) v → ⊥)
            (λ logs. not_had group m.dco (p.dco_free m.dco m.is_dco logs))
            (λ v x had. plex_new v x (inr (inr had)))
            (λ v x had. log_new v x (inr (inr had)))
            (λ v x had. sub_new v x (in_front v (inr (inr had))))
            w more

    pub names_differ : repeated_after [] group ≡ None → repeated_after [] (group ++ added) ≡ None
    names_differ valid = repeated_append [] group added valid (repeated_new group added not_of_group once_names)
