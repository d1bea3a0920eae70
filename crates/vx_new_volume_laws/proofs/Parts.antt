-- The records of a new volume, part by part.
use Rattle.std.proofs.Common.{◌≡◌, ℕ, Bool, true, false, Option, Some, None, List, [], ◌∷◌, ◌++◌, length, map, refl, sym, subst, inl, inr, if◌then◌else◌, min, ◌+◌, ◌<◌, arith}
use Rattle.vx_base.specs.Named.{Word}
use Rattle.vx_config_parts.specs.declared.object.Object.{Object}
use Rattle.vx_config_parts.specs.declared.object.Object.TheVariants.{PlexRecord, VolRecord, DcoRecord}
use Rattle.vx_new_volumes.specs.declared.parts.Plan.{Plan}
use Rattle.vx_new_volumes.specs.Laying.{Laid}
use Rattle.vx_new_volumes.specs.Naming.{and_then, names_behind}
use Rattle.vx_new_volumes.specs.Records.{data_plex, data_plexes, dco_name, dco_of, has_logs, log_plex, log_stem, names_known, records_of, subdisks, vol_of}
use Rattle.vx_new_volumes.specs.declared.volume.NewVolume.{NewVolume}
use Rattle.vx_image.proofs.PlexMembers.{IsIn, from_map, in_either}

pub then_some : {A B : Type 0} (a : Option A) (next : A → Option B) (b : B) → and_then a next ≡ Some b → (x : A) × (a ≡ Some x) × (next x ≡ Some b)
then_some None next b is = cc
then_some (Some x) next b is = (x, refl, is)

-- the records behind the volume
abbrev pub others_of : NewVolume → Word → List Word → List Word → Laid → List Object
others_of n dco plexes logs l = dco_of n dco ++ data_plexes n 0 plexes ++ map (log_plex n) logs ++ l.objects

-- what the records of the new volume are
pub record IsMade (group : List Object) (n : NewVolume) (plan : Plan) (added : List Object) : Type 0 where
  pub dco : Word
  pub plexes : List Word
  pub logs : List Word
  pub laid : Laid
  pub is_dco : dco_name n.vol ≡ Some dco
  pub are_plexes : names_behind (length plan.plexes) [] (names_known group n dco) n.vol 1 ≡ Some plexes
  pub are_logs : names_behind (length plan.logs) [] (names_known group n dco) (log_stem n.vol) 1 ≡ Some logs
  pub is_laid : subdisks (names_known group n dco ++ plexes ++ logs) plexes logs plan ≡ Some laid
  pub are : added ≡ VolRecord (vol_of n dco) ∷ others_of n dco plexes logs laid

same_some : (os ps : List Object) → Some ps ≡ Some os → os ≡ ps
same_some os ps e = cc

module _ (group : List Object) (n : NewVolume) (plan : Plan) where
  abbrev records : Word → List Word → List Word → Laid → List Object
  records dco plexes logs l = VolRecord (vol_of n dco) ∷ dco_of n dco ++ data_plexes n 0 plexes ++ map (log_plex n) logs ++ l.objects

  abbrev by_laid : Word → List Word → List Word → Option (List Object)
  by_laid dco plexes logs = and_then (subdisks (names_known group n dco ++ plexes ++ logs) plexes logs plan) (λ l. Some (records dco plexes logs l))

  abbrev by_logs : Word → List Word → Option (List Object)
  by_logs dco plexes = and_then (names_behind (length plan.logs) [] (names_known group n dco) (log_stem n.vol) 1) (by_laid dco plexes)

  abbrev by_plexes : Word → Option (List Object)
  by_plexes dco = and_then (names_behind (length plan.plexes) [] (names_known group n dco) n.vol 1) (by_logs dco)

  pub made_of : (added : List Object) → records_of group n plan ≡ Some added → IsMade group n plan added
  unfolding records_of
  made_of added is =
      let dco = then_some (dco_name n.vol) by_plexes added is in
      let plexes = then_some (names_behind (length plan.plexes) [] (names_known group n dco.0) n.vol 1) (by_logs dco.0) added dco.2 in
      let logs = then_some (names_behind (length plan.logs) [] (names_known group n dco.0) (log_stem n.vol) 1) (by_laid dco.0 plexes.0) added plexes.2 in
      let known = names_known group n dco.0 ++ plexes.0 ++ logs.0 in
      let laid = then_some (subdisks known plexes.0 logs.0 plan) (λ l. Some (records dco.0 plexes.0 logs.0 l)) added logs.2 in
      record {
        dco = dco.0;
        plexes = plexes.0;
        logs = logs.0;
        laid = laid.0;
        is_dco = dco.1;
        are_plexes = plexes.1;
        are_logs = logs.1;
        is_laid = laid.1;
        are = same_some added (records dco.0 plexes.0 logs.0 laid.0) laid.2;
      }

-- ---- what holds of each of them

module _ (P : Object → Type 0) (n : NewVolume) where
  of_data : (m : ℕ) (names : List Word) → ((k : ℕ) (name : Word) → k < m + length names → IsIn names name → P (PlexRecord (data_plex n k name))) → (o : Object) → IsIn (data_plexes n m names) o → P o
  of_data m [] each o there = absurd there
  of_data m (name ∷ names) each o (inl same) = subst P (sym same) (each m name (omega arith) (inl refl))
  of_data m (name ∷ names) each o (inr there) = of_data (min (m + 1) 255) names (λ k other lt more. each k other (omega (arith, lt)) (inr more)) o there

  of_dco : (dco : Word) → (has_logs n ≡ true → P (DcoRecord (record { name = dco; vol = n.vol; maps = 32 }))) → (o : Object) → IsIn (dco_of n dco) o → P o
  of_dco dco here = by (has_logs n) refl
    where
      by : (b : Bool) → has_logs n ≡ b → (o : Object) → IsIn (if b then DcoRecord (record { name = dco; vol = n.vol; maps = 32 }) ∷ [] else []) o → P o
      by true e o (inl same) = subst P (sym same) (here e)
      by true e o (inr there) = absurd there
      by false e o there = absurd there

  of_log : (names : List Word) → ((name : Word) → IsIn names name → P (log_plex n name)) → (o : Object) → IsIn (map (log_plex n) names) o → P o
  of_log names each o there = let r = from_map (log_plex n) names o there in subst P (sym r.2) (each r.0 r.1)

  -- each record behind the volume is its DCO, a data plex, a log or a subdisk
  pub of_others : (group : List Object) (plan : Plan) (added : List Object) (m : IsMade group n plan added) → (has_logs n ≡ true → P (DcoRecord (record { name = m.dco; vol = n.vol; maps = 32 })))
      → ((k : ℕ) (name : Word) → k < length m.plexes → IsIn m.plexes name → P (PlexRecord (data_plex n k name))) → ((name : Word) → IsIn m.logs name → P (log_plex n name)) → ((o : Object) → IsIn m.laid.objects o → P o)
      → (o : Object) → IsIn (others_of n m.dco m.plexes m.logs m.laid) o → P o
  of_others group plan added m dco plex log sub o there =
      elim (in_either (dco_of n m.dco ++ data_plexes n 0 m.plexes ++ map (log_plex n) m.logs) m.laid.objects o there) [
        | inr s ↦ sub o s
        | inl plain ↦ elim (in_either (dco_of n m.dco ++ data_plexes n 0 m.plexes) (map (log_plex n) m.logs) o plain) [
          | inr l ↦ of_log m.logs log o l
          | inl own ↦ elim (in_either (dco_of n m.dco) (data_plexes n 0 m.plexes) o own) [
            | inl d ↦ of_dco m.dco dco o d
            | inr p ↦ of_data 0 m.plexes (λ k name lt here. plex k name (omega (arith, lt)) here) o p
          ]
        ]
      ]

  -- each record is the volume, or one of those
  pub of_each : (group : List Object) (plan : Plan) (added : List Object) (m : IsMade group n plan added) → P (VolRecord (vol_of n m.dco)) → (has_logs n ≡ true → P (DcoRecord (record { name = m.dco; vol = n.vol; maps = 32 })))
      → ((k : ℕ) (name : Word) → k < length m.plexes → IsIn m.plexes name → P (PlexRecord (data_plex n k name))) → ((name : Word) → IsIn m.logs name → P (log_plex n name)) → ((o : Object) → IsIn m.laid.objects o → P o)
      → (o : Object) → IsIn added o → P o
  of_each group plan added m vol dco plex log sub o there = by (subst (λ os. IsIn os o) m.are there)
    where
      by : IsIn (VolRecord (vol_of n m.dco) ∷ others_of n m.dco m.plexes m.logs m.laid) o → P o
      by (inl same) = subst P (sym same) vol
      by (inr more) = of_others group plan added m dco plex log sub o more
