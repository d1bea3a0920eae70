-- What a plan takes of free extents lies on the disks that they lie on.
use Rattle.std.proofs.Common.{◌≡◌, ℕ, zero, suc, ◌+◌, ◌*◌, ◌-◌, ◌==◌, min, nat_lt, Bool, true, false, cond, Option, Some, None, Result, Ok, Err, List, [], ◌∷◌, ◌++◌, length, refl, sym, ◌∙◌, ap, subst, arith}
use Rattle.std.specs.List.{list_all}
use Rattle.std.specs.Str.{bytes_eq}
use Rattle.std.proofs.lemmas.Bool.{and_from, and_parts}
use Rattle.std.proofs.lemmas.List.{length-append}
use Rattle.std.proofs.lemmas.List.Folds.{list_all-append}
use Rattle.vx_base.specs.Named.{Word}
use Rattle.vx_base.proofs.NamedLemmas.{bytes_eq_same}
use Rattle.vx_rules.specs.Sizes.{log_length}
use Rattle.vx_space.specs.declared.extent.Extent.{Extent}
use Rattle.vx_space.specs.Extents.{between, left, taken, total}
use Rattle.vx_new_volumes.specs.declared.fault.PlanFault.{PlanFault}
use Rattle.vx_new_volumes.specs.declared.fault.PlanFault.TheVariants.{NoSpace, TooFewDisks}
use Rattle.vx_new_volumes.specs.declared.parts.Plan.{Plan}
use Rattle.vx_new_volumes.specs.declared.request.Request.{Request}
use Rattle.vx_new_volumes.specs.Disks.{candidates, first_with, others, total_on, without}
use Rattle.vx_new_volumes.specs.Rule.{as_column, column_length, mirror, plan_over, rule, then_logs}
use Rattle.vx_new_volumes.specs.Steps.{Step, Taken, and_then, behind, gather, kept, place, place_on, repeated, spread}

-- ---- steps that took something

then_ok : {A B : Type 0} (a : Result A PlanFault) (next : A → Result B PlanFault) (b : B) → and_then a next ≡ Ok b → (x : A) × (a ≡ Ok x) × (next x ≡ Ok b)
then_ok (Ok x) next b e = (x, refl, e)
then_ok (Err fault) next b e = cc

same_taken : {A : Type 0} (a b : Taken A) → ◌≡◌ {A = Result (Taken A) PlanFault} (Ok a) (Ok b) → a ≡ b
same_taken a b e = cc

same_plan : (a b : Plan) → ◌≡◌ {A = Result Plan PlanFault} (Ok a) (Ok b) → a ≡ b
same_plan a b e = cc

-- ---- what a plan takes, one after the other

record Steps (r : Request) (disks unused : List Word) (free : List Extent) (plan : Plan) : Type 0 where
  mirrors : Taken (List (List (List Extent)))
  mirrors_are : repeated (mirror r) r.mirrors [] unused free ≡ Ok mirrors
  logs : Taken (List (List Extent))
  logs_are : repeated (place (log_length r.length r.region)) r.logs [] disks mirrors.free ≡ Ok logs
  plexes_is : plan.plexes ≡ mirrors.part
  logs_is : plan.logs ≡ logs.part

steps_of : (r : Request) (disks unused : List Word) (free : List Extent) (plan : Plan) → plan_over r disks unused free ≡ Ok plan → Steps r disks unused free plan
steps_of r disks unused free plan e = by (nat_lt (length unused) (r.mirrors * r.ncol)) e
  where
    by : (b : Bool) → cond b (Err (TooFewDisks (r.mirrors * r.ncol))) (and_then (repeated (mirror r) r.mirrors [] unused free) (then_logs r disks)) ≡ Ok plan → Steps r disks unused free plan
    by true h = cc
    by false h =
        let s = then_ok (repeated (mirror r) r.mirrors [] unused free) (then_logs r disks) plan h in
        let l = then_ok (repeated (place (log_length r.length r.region)) r.logs [] disks s.0.free) (λ l. Ok (record { plexes = s.0.part; logs = l.part })) plan s.2 in
        let own : Plan = record { plexes = s.0.part; logs = l.0.part } in
        let same = same_plan own plan l.2 in
        record {
          mirrors = s.0;
          mirrors_are = s.1;
          logs = l.0;
          logs_are = l.1;
          plexes_is = ap (λ (p : Plan). p.plexes) (sym same);
          logs_is = ap (λ (p : Plan). p.logs) (sym same);
        }

repeated_count : {A : Type 0} (step : Step A) (n : ℕ) (done : List A) (ds : List Word) (free : List Extent) (t : Taken (List A)) → repeated step n done ds free ≡ Ok t → length t.part ≡ length done + n
repeated_count step zero done ds free t e =
    let own : Taken (List _) = record { part = done; disks = ds; free = free } in
    let same = ap (λ (x : Taken (List _)). length x.part) (same_taken own t e) in
    omega (arith, same)
repeated_count step (suc n) done ds free t e =
    let s = then_ok (step ds free) (λ s. repeated step n (done ++ s.part ∷ []) s.disks s.free) t e in
    let rest = repeated_count step n (done ++ s.0.part ∷ []) s.0.disks s.0.free t s.2 in
    let one = length-append done (s.0.part ∷ []) in
    omega (arith, rest, one)

-- there are as many logs as were asked for
pub logs_count : (r : Request) (names : List Word) (free : List Extent) (plan : Plan) → rule r names free ≡ Ok plan → length plan.logs ≡ r.logs
logs_count r names free plan e =
    let disks = candidates r.disks names in
    let steps = steps_of r disks (without r.avoid disks) free plan e in
    let count = repeated_count (place (log_length r.length r.region)) r.logs [] disks steps.mirrors.free steps.logs steps.logs_are in
    ap (λ ls. length ls) steps.logs_is ∙ omega (arith, count)

-- the disks that pass a test of names
module _ (good : Word → Bool) where
  -- each extent is on one of them
  abbrev pub extents_lie : List Extent → Bool
  extents_lie es = list_all (λ e. good e.disk) es

  -- .. of each column
  abbrev pub columns_lie : List (List Extent) → Bool
  columns_lie cs = list_all extents_lie cs

  -- .. of each plex
  abbrev pub plexes_lie : List (List (List Extent)) → Bool
  plexes_lie ps = list_all columns_lie ps

  -- ---- one disk

  both_lie : (es fs : List Extent) → extents_lie es ≡ true → extents_lie fs ≡ true → extents_lie (es ++ fs) ≡ true
  both_lie es fs one other = list_all-append (λ e. good e.disk) es fs ∙ and_from (extents_lie es) (extents_lie fs) one other

  between_lies : (disk : Word) (a b : ℕ) → good disk ≡ true → extents_lie (between disk a b) ≡ true
  between_lies disk a b is = by (nat_lt a b)
    where
      by : (t : Bool) → extents_lie (cond t (record { disk = disk; start = a; count = b - a } ∷ []) []) ≡ true
      by true = and_from (good disk) true is refl
      by false = refl

  is_same : (disk other : Word) → bytes_eq disk other ≡ true → good disk ≡ true → good other ≡ true
  is_same disk other same is = subst (λ w. good w ≡ true) (bytes_eq_same disk other same) is

  taken_lies : (disk : Word) (count : ℕ) (es : List Extent) → extents_lie es ≡ true → extents_lie (taken disk count es) ≡ true
  taken_lies disk count [] lie = refl
  taken_lies disk count (e ∷ es) lie =
      let parts = and_parts (good e.disk) (extents_lie es) lie in
      by parts.0 (bytes_eq e.disk disk) refl (taken_lies disk (count - min count e.count) es parts.1) (taken_lies disk count es parts.1)
    where
      by : good e.disk ≡ true → (b : Bool) → bytes_eq e.disk disk ≡ b → extents_lie (taken disk (count - min count e.count) es) ≡ true → extents_lie (taken disk count es) ≡ true →
          extents_lie (cond b (between disk e.start (e.start + min count e.count) ++ taken disk (count - min count e.count) es) (taken disk count es)) ≡ true
      by is true same cut all =
          both_lie (between disk e.start (e.start + min count e.count)) (taken disk (count - min count e.count) es) (between_lies disk e.start (e.start + min count e.count) (is_same e.disk disk same is)) cut
      by is false same cut all = all

  left_lies : (disk : Word) (count : ℕ) (es : List Extent) → extents_lie es ≡ true → extents_lie (left disk count es) ≡ true
  left_lies disk count [] lie = refl
  left_lies disk count (e ∷ es) lie =
      let parts = and_parts (good e.disk) (extents_lie es) lie in
      by parts.0 (bytes_eq e.disk disk) refl (left_lies disk (count - min count e.count) es parts.1) (left_lies disk count es parts.1)
    where
      by : good e.disk ≡ true → (b : Bool) → bytes_eq e.disk disk ≡ b → extents_lie (left disk (count - min count e.count) es) ≡ true → extents_lie (left disk count es) ≡ true →
          extents_lie (cond b (between disk (e.start + min count e.count) (e.start + e.count) ++ left disk (count - min count e.count) es) (e ∷ left disk count es)) ≡ true
      by is true same cut all =
          both_lie (between disk (e.start + min count e.count) (e.start + e.count)) (left disk (count - min count e.count) es) (between_lies disk (e.start + min count e.count) (e.start + e.count) (is_same e.disk disk same is)) cut
      by is false same cut all = and_from (good e.disk) (extents_lie (left disk count es)) is all

  -- ---- steps

  -- what was taken lies so, and so does what is free still
  record Lies {A : Type 0} (part_lies : A → Bool) (t : Taken A) : Type 0 where
    part : part_lies t.part ≡ true
    free : extents_lie t.free ≡ true

  gather_lies : (need : ℕ) (ds : List Word) (free : List Extent) → extents_lie free ≡ true → Lies extents_lie (gather need ds free)
  gather_lies need [] free lie = record { part = refl; free = lie }
  gather_lies need (d ∷ ds) free lie =
      let count = min need (total d free) in
      by (taken_lies d count free lie) (count == 0) (gather_lies need ds free lie) (gather_lies (need - count) ds (left d count free) (left_lies d count free lie))
    where
      by : extents_lie (taken d (min need (total d free)) free) ≡ true → (b : Bool) → Lies extents_lie (gather need ds free) → Lies extents_lie (gather (need - min need (total d free)) ds (left d (min need (total d free)) free)) →
          Lies extents_lie (cond b (kept d (gather need ds free)) (behind (taken d (min need (total d free)) free) (gather (need - min need (total d free)) ds (left d (min need (total d free)) free))))
      by first true all cut = record { part = all.part; free = all.free }
      by first false all cut = record {
        part = both_lie (taken d (min need (total d free)) free) (gather (need - min need (total d free)) ds (left d (min need (total d free)) free)).part first cut.part;
        free = cut.free;
      }

  spread_lies : (need : ℕ) (ds : List Word) (free : List Extent) (t : Taken (List Extent)) → extents_lie free ≡ true → spread need ds free ≡ Ok t → Lies extents_lie t
  spread_lies need ds free t lie e = by (nat_lt (total_on ds free) need) e
    where
      by : (b : Bool) → cond b (Err (NoSpace (total_on ds free) need)) (Ok (gather need ds free)) ≡ Ok t → Lies extents_lie t
      by true h = cc
      by false h = subst (Lies extents_lie) (same_taken (gather need ds free) t h) (gather_lies need ds free lie)

  place_lies : (need : ℕ) (ds : List Word) (free : List Extent) (t : Taken (List Extent)) → extents_lie free ≡ true → place need ds free ≡ Ok t → Lies extents_lie t
  place_lies need ds free t lie e = by (first_with need ds free) e
    where
      by : (o : Option Word) → place_on o need ds free ≡ Ok t → Lies extents_lie t
      by None h = cc
      by (Some d) h =
          let own : Taken (List Extent) = record { part = taken d need free; disks = others d ds; free = left d need free } in
          subst (Lies extents_lie) (same_taken own t h) (record { part = taken_lies d need free lie; free = left_lies d need free lie })

  -- one after the other
  module _ {A : Type 0} (step : Step A) (part_lies : A → Bool) (lies : (ds : List Word) (free : List Extent) (t : Taken A) → extents_lie free ≡ true → step ds free ≡ Ok t → Lies part_lies t) where
    repeated_lie : (n : ℕ) (done : List A) (ds : List Word) (free : List Extent) (t : Taken (List A)) → list_all part_lies done ≡ true → extents_lie free ≡ true → repeated step n done ds free ≡ Ok t → Lies (list_all part_lies) t
    repeated_lie zero done ds free t all lie e =
        let own : Taken (List A) = record { part = done; disks = ds; free = free } in
        subst (Lies (list_all part_lies)) (same_taken own t e) (record { part = all; free = lie })
    repeated_lie (suc n) done ds free t all lie e =
        let s = then_ok (step ds free) (λ s. repeated step n (done ++ s.part ∷ []) s.disks s.free) t e in
        let first = lies ds free s.0 lie s.1 in
        let more = list_all-append part_lies done (s.0.part ∷ []) ∙ and_from _ _ all (and_from (part_lies s.0.part) true first.part refl) in
        repeated_lie n (done ++ s.0.part ∷ []) s.0.disks s.0.free t more first.free s.2

  mirror_lies : (r : Request) (ds : List Word) (free : List Extent) (t : Taken (List (List Extent))) → extents_lie free ≡ true → mirror r ds free ≡ Ok t → Lies columns_lie t
  mirror_lies r ds free t lie e = by (r.ncol == 1) e
    where
      by : (b : Bool) → cond b (and_then (spread r.length ds free) as_column) (repeated (place (column_length r)) r.ncol [] ds free) ≡ Ok t → Lies columns_lie t
      by true h =
          let s = then_ok (spread r.length ds free) as_column t h in
          let own : Taken (List (List Extent)) = record { part = s.0.part ∷ []; disks = s.0.disks; free = s.0.free } in
          let first = spread_lies r.length ds free s.0 lie s.1 in
          subst (Lies columns_lie) (same_taken own t s.2) (record { part = and_from (extents_lie s.0.part) true first.part refl; free = first.free })
      by false h = repeated_lie (place (column_length r)) extents_lie (place_lies (column_length r)) r.ncol [] ds free t refl lie h

  -- ---- the plan

  module _ (r : Request) (names : List Word) (free : List Extent) (plan : Plan) (lie : extents_lie free ≡ true) (e : rule r names free ≡ Ok plan) where
    abbrev disks : List Word
    disks = candidates r.disks names

    steps : Steps r disks (without r.avoid disks) free plan
    steps = steps_of r disks (without r.avoid disks) free plan e

    mirrors_lie : Lies (list_all columns_lie) steps.mirrors
    mirrors_lie = repeated_lie (mirror r) columns_lie (mirror_lies r) r.mirrors [] (without r.avoid disks) free steps.mirrors refl lie steps.mirrors_are

    -- the plexes of a plan lie on the disks that the free extents lie on, ..
    pub plan_lies : plexes_lie plan.plexes ≡ true
    plan_lies = subst (λ ps. plexes_lie ps ≡ true) (sym steps.plexes_is) mirrors_lie.part

    -- .. and so do its logs
    pub logs_lie : columns_lie plan.logs ≡ true
    logs_lie =
        let need = log_length r.length r.region in
        subst (λ ls. columns_lie ls ≡ true) (sym steps.logs_is)
        (repeated_lie (place need) extents_lie (place_lies need) r.logs [] disks steps.mirrors.free steps.logs refl mirrors_lie.free steps.logs_are).part
