-- What a plan of a request takes of the free space.
use Rattle.std.proofs.Common.{◌≡◌, ℕ, zero, suc, ◌*◌, ◌<◌, ◌^◌, ◌==◌, nat_lt, Bool, true, false, cond, not, Result, Ok, Err, List, [], ◌∷◌, ◌++◌, length, refl, sym, ap, ◌∙◌, subst, inl, inr, arith, append_assoc, append-nil, if◌then◌else◌}
use Rattle.std.proofs.lemmas.Bool.{and_parts, eqb-true, false≢true}
use Rattle.vx_base.specs.Named.{Word}
use Rattle.vx_config_parts.specs.declared.disk.Disk.{Disk}
use Rattle.vx_config_parts.specs.Objects.{comes_before}
use Rattle.vx_rules.specs.Sizes.{log_length}
use Rattle.vx_rules.proofs.NameOrder.{before_itself, before_later}
use Rattle.vx_image.proofs.PlexMembers.{IsIn}
use Rattle.vx_space.specs.declared.extent.Extent.{Extent}
use Rattle.vx_space.specs.Disks.{names_rise, next_is_later}
use Rattle.vx_new_volumes.specs.declared.fault.PlanFault.{PlanFault}
use Rattle.vx_new_volumes.specs.declared.fault.PlanFault.TheVariants.{TooFewDisks}
use Rattle.vx_new_volumes.specs.declared.parts.Plan.{Plan}
use Rattle.vx_new_volumes.specs.declared.request.Request.{Request}
use Rattle.vx_new_volumes.specs.Disks.{candidates, is_among, names_of, without}
use Rattle.vx_new_volumes.specs.Rule.{as_column, column_length, mirror, plan_over, rule, then_logs}
use Rattle.vx_new_volumes.specs.Steps.{Step, Taken, and_then, place, repeated, spread}
use Rattle.vx_new_volume_laws.proofs.Behind.{AreOnce}
use Rattle.vx_new_volume_laws.proofs.Taking.{IsSmall, Low, Splits, Steps, filtered_once, place_takes, same_taken, size, splits_none, splits_then, spread_takes}

-- the extents of several things
abbrev pub flat : {A : Type 0} → (A → List Extent) → List A → List Extent
flat f [] = []
flat f (x ∷ xs) = f x ++ flat f xs

abbrev pub columns_flat : List (List Extent) → List Extent
columns_flat cs = flat (λ es. es) cs

step_some : {A B : Type 0} (a : Result A PlanFault) (next : A → Result B PlanFault) (b : B) → and_then a next ≡ Ok b → (x : A) × (a ≡ Ok x) × (next x ≡ Ok b)
step_some (Ok x) next b e = (x, refl, e)
step_some (Err fault) next b e = cc

module _ {A : Type 0} (step : Step A) (P : A → Type 0) (f : A → List Extent) (takes : (ds : List Word) (free : List Extent) (t : Taken A) → AreOnce ds → Low free → step ds free ≡ Ok t → Steps P f free t) where
  -- so many steps, behind what there is
  pub record Repeats (n : ℕ) (done : List A) (free : List Extent) (t : Taken (List A)) : Type 0 where
    pub new : List A
    pub are : t.part ≡ done ++ new
    pub count : length new ≡ n
    pub each : (a : A) → IsIn new a → P a
    pub splits : Splits free (flat f new) t.free
    pub once : AreOnce t.disks
    pub low : Low t.free

  pub repeats : (n : ℕ) (done : List A) (ds : List Word) (free : List Extent) (t : Taken (List A)) → AreOnce ds → Low free → repeated step n done ds free ≡ Ok t → Repeats n done free t
  repeats zero done ds free t once low e =
      let own : Taken (List A) = record { part = done; disks = ds; free = free } in
      subst (Repeats zero done free) (same_taken own t e)
      (record { new = []; are = sym (append-nil done); count = refl; each = λ a there. absurd there; splits = splits_none free; once = once; low = low })
  repeats (suc n) done ds free t once low e =
      let s = step_some (step ds free) (λ s. repeated step n (done ++ s.part ∷ []) s.disks s.free) t e in
      let first = takes ds free s.0 once low s.1 in
      let rest = repeats n (done ++ s.0.part ∷ []) s.0.disks s.0.free t first.once first.low s.2 in
      record {
        new = s.0.part ∷ rest.new;
        are = rest.are ∙ append_assoc done (s.0.part ∷ []) rest.new;
        count = ap suc rest.count;
        each = λ a there. each s.0.part first.holds rest.new rest.each a there;
        splits = splits_then free (f s.0.part) s.0.free (flat f rest.new) t.free first.splits rest.splits;
        once = rest.once;
        low = rest.low;
      }
    where
      each : (x : A) → P x → (xs : List A) → ((a : A) → IsIn xs a → P a) → (a : A) → IsIn (x ∷ xs) a → P a
      each x here xs more a (inl same) = subst P (sym same) here
      each x here xs more a (inr there) = more a there

-- ---- a plex

-- the sectors of each of its columns
abbrev pub column_size : Request → ℕ
column_size r = if r.ncol == 1 then r.length else column_length r

pub record IsPlex (r : Request) (p : List (List Extent)) : Type 0 where
  pub count : length p ≡ r.ncol
  pub each : (c : List Extent) → IsIn p c → size c ≡ column_size r
  pub low : (c : List Extent) → IsIn p c → size c < 2 ^ 40

pub mirror_takes : (r : Request) → r.length < 2 ^ 40 → (ds : List Word) (free : List Extent) (t : Taken (List (List Extent))) → AreOnce ds → Low free → mirror r ds free ≡ Ok t → Steps (IsPlex r) (flat (λ es. es)) free t
mirror_takes r short ds free t once low e = by (r.ncol == 1) refl e
  where
    by : (b : Bool) → (r.ncol == 1) ≡ b → cond b (and_then (spread r.length ds free) as_column) (repeated (place (column_length r)) r.ncol [] ds free) ≡ Ok t → Steps (IsPlex r) (flat (λ es. es)) free t
    by true one h =
        let s = step_some (spread r.length ds free) as_column t h in
        let own : Taken (List (List Extent)) = record { part = s.0.part ∷ []; disks = s.0.disks; free = s.0.free } in
        let first = spread_takes r.length ds free s.0 once low s.1 in
        let long : size s.0.part ≡ column_size r = first.holds ∙ sym (ap (λ (b : Bool). cond b r.length (column_length r)) one) in
        subst (Steps (IsPlex r) (flat (λ es. es)) free) (same_taken own t s.2)
        (record {
          splits = subst (λ (es : List Extent). Splits free es s.0.free) (sym (append-nil s.0.part)) first.splits;
          holds = record { count = sym (eqb-true r.ncol 1 one); each = λ c there. only s.0.part long c there; low = λ c there. shorter s.0.part first.holds c there };
          once = first.once;
          low = first.low;
        })
      where
        only : (es : List Extent) → size es ≡ column_size r → (c : List Extent) → IsIn (es ∷ []) c → size c ≡ column_size r
        only es long c (inl same) = ap (λ (x : List Extent). size x) same ∙ long
        only es long c (inr none) = absurd none

        shorter : (es : List Extent) → size es ≡ r.length → (c : List Extent) → IsIn (es ∷ []) c → size c < 2 ^ 40
        shorter es long c (inl same) = let own = ap (λ (x : List Extent). size x) same in omega (arith, own, long, short)
        shorter es long c (inr none) = absurd none
    by false several h =
        let all = repeats (place (column_length r)) (IsSmall (column_length r)) (λ es. es) (place_takes (column_length r)) r.ncol [] ds free t once low h in
        let long : column_length r ≡ column_size r = sym (ap (λ (b : Bool). cond b r.length (column_length r)) several) in
        record {
          splits = subst (λ (cs : List (List Extent)). Splits free (flat (λ es. es) cs) t.free) (sym all.are) all.splits;
          holds = record {
            count = ap (λ (cs : List (List Extent)). length cs) all.are ∙ all.count;
            each = λ c there. (all.each c (subst (λ (cs : List (List Extent)). IsIn cs c) all.are there)).0 ∙ long;
            low = λ c there. let small = all.each c (subst (λ (cs : List (List Extent)). IsIn cs c) all.are there) in let is = small.0 in let lt = small.1 in omega (arith, is, lt);
          };
          once = all.once;
          low = all.low;
        }

-- ---- the plan

pub record Plans (r : Request) (free : List Extent) (plan : Plan) : Type 0 where
  pub plex_count : length plan.plexes ≡ r.mirrors
  pub log_count : length plan.logs ≡ r.logs
  pub plexes : (p : List (List Extent)) → IsIn plan.plexes p → IsPlex r p
  pub logs : (l : List Extent) → IsIn plan.logs l → (size l ≡ log_length r.length r.region) × (size l < 2 ^ 40)
  pub rest : List Extent
  pub splits : Splits free (flat (flat (λ es. es)) plan.plexes ++ flat (λ es. es) plan.logs) rest

same_plan : (a b : Plan) → ◌≡◌ {A = Result Plan PlanFault} (Ok a) (Ok b) → a ≡ b
same_plan a b e = cc

logs_then : (r : Request) (short : r.length < 2 ^ 40) (disks : List Word) (free : List Extent) (t : Taken (List (List (List Extent)))) (plan : Plan) → AreOnce disks
    → Repeats (mirror r) (IsPlex r) (flat (λ es. es)) (mirror_takes r short) r.mirrors [] free t → then_logs r disks t ≡ Ok plan → Plans r free plan
logs_then r short disks free t plan once m e =
    let s = step_some (repeated (place (log_length r.length r.region)) r.logs [] disks t.free) (λ l. Ok (record { plexes = t.part; logs = l.part })) plan e in
    let l = repeats (place (log_length r.length r.region)) (IsSmall (log_length r.length r.region)) (λ es. es) (place_takes (log_length r.length r.region)) r.logs [] disks t.free s.0 once m.low s.1 in
    let own : Plan = record { plexes = t.part; logs = s.0.part } in
    subst (Plans r free) (same_plan own plan s.2)
    (record {
      plex_count = ap (λ (ps : List (List (List Extent))). length ps) m.are ∙ m.count;
      log_count = ap (λ (ls : List (List Extent)). length ls) l.are ∙ l.count;
      plexes = λ p there. m.each p (subst (λ (ps : List (List (List Extent))). IsIn ps p) m.are there);
      logs = λ es there. let small = l.each es (subst (λ (ls : List (List Extent)). IsIn ls es) l.are there) in let is = small.0 in let lt = small.1 in (small.0, omega (arith, is, lt));
      rest = s.0.free;
      splits = splits_then free (flat (flat (λ es. es)) t.part) t.free (flat (λ es. es) s.0.part) s.0.free
          (subst (λ (ps : List (List (List Extent))). Splits free (flat (flat (λ es. es)) ps) t.free) (sym m.are) m.splits)
          (subst (λ (ls : List (List Extent)). Splits t.free (flat (λ es. es) ls) s.0.free) (sym l.are) l.splits);
    })

over_plans : (r : Request) (short : r.length < 2 ^ 40) (disks unused : List Word) (free : List Extent) (plan : Plan) → AreOnce disks → AreOnce unused → Low free → plan_over r disks unused free ≡ Ok plan → Plans r free plan
over_plans r short disks unused free plan once few low e = by (nat_lt (length unused) (r.mirrors * r.ncol)) e
  where
    by : (b : Bool) → cond b (Err (TooFewDisks (r.mirrors * r.ncol))) (and_then (repeated (mirror r) r.mirrors [] unused free) (then_logs r disks)) ≡ Ok plan → Plans r free plan
    by true h = cc
    by false h =
        let s = step_some (repeated (mirror r) r.mirrors [] unused free) (then_logs r disks) plan h in
        logs_then r short disks free s.0 plan once (repeats (mirror r) (IsPlex r) (flat (λ es. es)) (mirror_takes r short) r.mirrors [] unused free s.0 few low s.1) s.2

-- ---- the disks

later_names : (d : Disk) (ds : List Disk) → names_rise (d ∷ ds) ≡ true → (v : Word) → IsIn (names_of ds) v → comes_before d.name v ≡ true
later_names d [] rise v there = absurd there
later_names d (e ∷ es) rise v (inl same) = subst (λ (w : Word). comes_before d.name w ≡ true) (sym same) (and_parts (comes_before d.name e.name) (names_rise (e ∷ es)) rise).0
later_names d (e ∷ es) rise v (inr there) =
    let parts = and_parts (comes_before d.name e.name) (names_rise (e ∷ es)) rise in
    before_later d.name e.name v parts.0 (later_names e es parts.1 v there)

names_once : (ds : List Disk) → names_rise ds ≡ true → AreOnce (names_of ds)
names_once [] rise = tt
names_once (d ∷ ds) rise = (
  λ v there same. false≢true (sym (before_itself d.name) ∙ subst (λ (w : Word). comes_before d.name w ≡ true) (sym same) (later_names d ds rise v there)),
  names_once ds (and_parts (next_is_later d ds) (names_rise ds) rise).1,
)

candidates_once : (asked ds : List Word) → AreOnce ds → AreOnce (candidates asked ds)
candidates_once [] ds once = once
candidates_once (n ∷ ns) ds once = filtered_once (is_among (n ∷ ns)) ds once

-- a plan over good disks by name takes so
pub rule_plans : (r : Request) → r.length < 2 ^ 40 → (ds : List Disk) (free : List Extent) (plan : Plan) → names_rise ds ≡ true → Low free → rule r (names_of ds) free ≡ Ok plan → Plans r free plan
rule_plans r short ds free plan rise low e =
    let once = candidates_once r.disks (names_of ds) (names_once ds rise) in
    over_plans r short (candidates r.disks (names_of ds)) (without r.avoid (candidates r.disks (names_of ds))) free plan once
    (filtered_once (λ d. not (is_among r.avoid d)) (candidates r.disks (names_of ds)) once) low e
