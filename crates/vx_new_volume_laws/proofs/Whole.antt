-- The plexes and logs of a new volume are whole, and those of its group are still.
use Rattle.std.proofs.Common.{◌≡◌, ℕ, zero, suc, ◌+◌, ◌*◌, ◌%◌, ◌<◌, ◌≤◌, ◌^◌, ◌==◌, ◌&&◌, nat_le, nat_lt, Bool, true, false, Some, None, List, [], ◌∷◌, ◌++◌, length, refl, sym, ap, ◌∙◌, subst, inl, inr, arith, if◌then◌else◌}
use Rattle.std.specs.Str.{bytes_eq}
use Rattle.std.proofs.lemmas.Bool.{and_from, and_parts, eq-eqb, eqb-true, false_from_ne_true, le-leb, leb-true, lt-ltb, ltb-true, not_from_false}
use Rattle.vx_base.specs.Named.{Word}
use Rattle.vx_base.proofs.NamedLemmas.{bytes_eq_self, bytes_eq_same}
use Rattle.vx_block.specs.Geometry.{is_geometry, is_region_size}
use Rattle.vx_config_parts.specs.declared.fault.ObjectFault.TheVariants.{NotWhole}
use Rattle.vx_config_parts.specs.declared.object.Object.{Object}
use Rattle.vx_config_parts.specs.declared.object.Object.TheVariants.{VolRecord}
use Rattle.vx_config_parts.specs.declared.plex.Plex.{Plex}
use Rattle.vx_config_parts.specs.declared.plex.PlexKind.{PlexKind}
use Rattle.vx_config_parts.specs.declared.plex.PlexKind.TheVariants.{Data, Log}
use Rattle.vx_config_parts.specs.declared.plex.PlexLayout.TheVariants.{Concat, Stripe}
use Rattle.vx_config_parts.specs.declared.state.PlexState.TheVariants as plex_state
use Rattle.vx_config_parts.specs.Objects.{is_subdisk, is_vol, refers}
use Rattle.vx_rules.specs.Columns.{column_length, columns_are_good, layout_is_good}
use Rattle.vx_rules.specs.Indexed.{column_is_whole, has_piece_from}
use Rattle.vx_rules.specs.Sizes.{holds, log_length}
use Rattle.vx_rules.proofs.ColumnRuns.{last_end, length_run, runs_in, whole_run}
use Rattle.vx_rules.proofs.Good.{passes_whole}
use Rattle.vx_rules.proofs.Runs.{Run, good}
use Rattle.vx_rules.specs.declared.rule.Rule.TheVariants as rule
use Rattle.vx_rules.specs.References.{has_name}
use Rattle.vx_rules.specs.Rules.{fault_in, fault_over}
use Rattle.vx_rules.specs.Whole.{has_volume_within, is_whole, whole_fault}
use Rattle.vx_objects.specs.Config.{objects_of}
use Rattle.vx_image.proofs.PlexMembers.{IsIn, in_any, in_either, in_left, in_right}
use Rattle.vx_image.proofs.Plexes.{config_valid}
use Rattle.vx_space.specs.declared.extent.Extent.{Extent}
use Rattle.vx_new_volumes.specs.Records.{data_plex, layout_of, vol_of}
use Rattle.vx_new_volumes.specs.declared.volume.NewVolume.{NewVolume}
use Rattle.vx_moments.specs.World.{Group}
use Rattle.vx_new_volume_laws.proofs.Parts.{of_each}
use Rattle.vx_new_volume_laws.proofs.Places.{Place, logs_places, places, plexes_places}
use Rattle.vx_new_volume_laws.proofs.Repeats.{unless_true}
use Rattle.vx_new_volume_laws.proofs.Names.{plex_no_log}
use Rattle.vx_new_volume_laws.proofs.Taking.{size}
use Rattle.vx_new_volume_laws.proofs.Plans.{column_size, flat}
use Rattle.vx_new_volume_laws.proofs.Lying.{IsCase}
use Rattle.vx_new_volume_laws.proofs.Lists.{below_each}
use Rattle.vx_new_volume_laws.proofs.Ruled.{holds_in, none_more, rule_holds}
use Rattle.vx_new_volume_laws.proofs.Beside.{log_new, logs_plex, none_passes, plex_new, plexes_plex, sub_place, vol_there}
use Rattle.vx_new_volume_laws.proofs.Counting.{no_piece_in}
use Rattle.vx_new_volume_laws.proofs.Limits.{Holds, small_counts}
use Rattle.vx_new_volume_laws.proofs.Runs.{from_end, from_good, runs_from}
use Rattle.vx_new_volume_laws.proofs.WholeOwn.{whole_own}
use Rattle.vx_new_volume_laws.proofs.Columns.{HasColumns, in_logs, in_plexes, log_column, plex_columns}
use Rattle.vx_new_volume_laws.proofs.Sizes.{column_cover, column_some, column_units, log_some, several_columns}

in_flat : {A : Type 0} (f : A → List Extent) (xs : List A) (x : A) (e : Extent) → IsIn xs x → IsIn (f x) e → IsIn (flat f xs) e
in_flat f [] x e there here = absurd there
in_flat f (y ∷ xs) x e (inl same) here = in_left (f y) (flat f xs) e (subst (λ z. IsIn (f z) e) same here)
in_flat f (y ∷ xs) x e (inr there) here = in_right (f y) (flat f xs) e (in_flat f xs x e there here)

-- a column whose pieces are extents one behind the other
module _ (all : List Object) (plex : Word) (col : ℕ) (es : List Extent) (runs : runs_in plex col all ≡ runs_from 0 es) (low : size es < 2 ^ 40) where
  long_column : column_length all plex col ≡ size es
  long_column =
      let whole = from_end 0 es (omega (arith, low)) in
      let same : 0 + size es ≡ size es = omega arith in
      length_run all plex col ∙ ap (λ (rs : List Run). last_end 0 rs) runs ∙ whole ∙ same

  whole_column : ((e : Extent) → IsIn es e → 0 < e.count) → 0 < size es → column_is_whole all plex col ≡ true
  whole_column filled some = whole_run all plex col ∙ ap (λ (rs : List Run). good rs) runs ∙ from_good es filled some low

-- where each column is whole and of one size, and none lies behind them
good_columns : (all : List Object) (p : Plex) (long : ℕ) → 1 ≤ p.ncol → ((col : ℕ) → col < p.ncol → (column_is_whole all p.name col ≡ true) × (column_length all p.name col ≡ long)) → layout_is_good all p p.layout ≡ true
    → has_piece_from all p.name p.ncol ≡ false → columns_are_good all p ≡ true
good_columns all p long some each layout behind =
    sym (passes_whole all p layout
    (below_each (λ c. column_is_whole all p.name c && column_length all p.name c == column_length all p.name 0) p.ncol
    (λ c lt. and_from (column_is_whole all p.name c) (column_length all p.name c == column_length all p.name 0) (each c lt).0 (eq-eqb (column_length all p.name c) (column_length all p.name 0) ((each c lt).1 ∙ sym (each 0 (omega (arith, some))).1)))))
    ∙ not_from_false (has_piece_from all p.name p.ncol) behind

module _ (started : Bool) (g : Group) (n : NewVolume) (added : List Object) (c : IsCase started g n added) where
  abbrev group : List Object
  group = objects_of g.config

  abbrev all : List Object
  all = objects_of g.config ++ added

  -- ---- sizes of the request

  pub columns_some : 1 ≤ n.request.ncol
  columns_some = (small_counts started g n added c).0

  pub units_some : 1 ≤ n.request.unit
  units_some = (small_counts started g n added c).2

  pub length_some : 0 < n.request.length
  length_some = ltb-true 0 n.request.length (and_parts (is_region_size n.request.region) (nat_lt 0 n.request.length) (and_parts (is_region_size n.request.region && nat_lt 0 n.request.length) (nat_le n.request.length (262144 * n.request.region)) c.passed.geometry).0).1

  pub few_columns : (cs : List (List Extent)) → IsIn c.plan.plexes cs → length cs ≤ 4294967295
  few_columns cs there = let count = (c.plans.plexes cs there).count in let few = (small_counts started g n added c).1 in omega (arith, count, few)

  plex_filled : (cs : List (List Extent)) (es : List Extent) → IsIn c.plan.plexes cs → IsIn cs es → (e : Extent) → IsIn es e → 0 < e.count
  plex_filled cs es plan column e there =
      c.plans.splits.filled e (in_left (flat (flat (λ es. es)) c.plan.plexes) (flat (λ es. es) c.plan.logs) e (in_flat (flat (λ es. es)) c.plan.plexes cs e plan (in_flat (λ es. es) cs es e column there)))

  log_filled : (es : List Extent) → IsIn c.plan.logs es → (e : Extent) → IsIn es e → 0 < e.count
  log_filled es plan e there = c.plans.splits.filled e (in_right (flat (flat (λ es. es)) c.plan.plexes) (flat (λ es. es) c.plan.logs) e (in_flat (λ es. es) c.plan.logs es e plan there))

  -- ---- no piece lies behind the columns

  none_behind : (plex : Word) (ncol : ℕ) → has_name plex group ≡ false → ((p : Place) → IsIn (places c.made.plexes c.made.logs c.plan) p → p.plex ≡ plex → p.col < ncol) → has_piece_from all plex ncol ≡ false
  none_behind plex ncol new inside =
      none_more (λ o. is_subdisk (λ s. refers s.plex plex && nat_le ncol s.col) o) group added
      (no_piece_in g plex new (λ s. refers s.plex plex && nat_le ncol s.col) (λ s h. (and_parts (refers s.plex plex) (nat_le ncol s.col) h).0))
      (none_passes started g n added c (λ o. is_subdisk (λ s. refers s.plex plex && nat_le ncol s.col) o) refl refl (λ k name lt there. refl) (λ name there. refl)
      (λ p name there. false_from_ne_true (bytes_eq p.plex plex && nat_le ncol p.col) (λ h.
      let parts = and_parts (bytes_eq p.plex plex) (nat_le ncol p.col) h in
      let from = leb-true ncol p.col parts.1 in
      let below = inside p there (bytes_eq_same p.plex plex parts.0) in
      absurd (omega (arith, from, below)))))

  plex_inside : (name : Word) → IsIn c.made.plexes name → (p : Place) → IsIn (places c.made.plexes c.made.logs c.plan) p → p.plex ≡ name → p.col < n.request.ncol
  plex_inside name here p there same = elim (in_either (plexes_places c.made.plexes c.plan.plexes) (logs_places c.made.logs c.plan.logs) p there) [
    | inl own ↦
        let r = in_plexes c.made.plexes c.plan.plexes p few_columns own in
        let count = (c.plans.plexes r.0 r.1).count in
        let below = r.2.below in
        omega (arith, count, below)
    | inr log ↦ absurd (plex_no_log group n c.plan added c.made name here (subst (λ (v : Word). IsIn c.made.logs v) same (logs_plex c.made.logs c.plan.logs p log)))
  ]

  log_inside : (name : Word) → IsIn c.made.logs name → (p : Place) → IsIn (places c.made.plexes c.made.logs c.plan) p → p.plex ≡ name → p.col < 1
  log_inside name here p there same = elim (in_either (plexes_places c.made.plexes c.plan.plexes) (logs_places c.made.logs c.plan.logs) p there) [
    | inl own ↦ absurd (plex_no_log group n c.plan added c.made name (subst (λ (v : Word). IsIn c.made.plexes v) same (plexes_plex c.made.plexes c.plan.plexes p own)) here)
    | inr log ↦ let is = (in_logs c.made.logs c.plan.logs p log).3 in omega (arith, is)
  ]

  own_holds : (kind : PlexKind) (length : ℕ) → holds kind length (vol_of n c.made.dco) ≡ true → has_volume_within all n.vol kind length ≡ true
  own_holds kind length h =
      in_any (λ o. is_vol (λ v. bytes_eq v.name n.vol && holds kind length v) o) all (VolRecord (vol_of n c.made.dco)) (in_right group added (VolRecord (vol_of n c.made.dco)) (vol_there started g n added c))
      (and_from (bytes_eq n.vol n.vol) (holds kind length (vol_of n c.made.dco)) (bytes_eq_self n.vol) h)

  -- ---- a log

  abbrev log_size : ℕ
  log_size = log_length n.request.length n.request.region

  module _ (name : Word) (there : IsIn c.made.logs name) where
    abbrev log_fields : Plex
    log_fields = record { name = name; vol = Some n.vol; kind = Log; layout = Concat; ncol = 1; unit = 128; state = plex_state.Empty; map = None }

    log_is_new : has_name name group ≡ false
    log_is_new = log_new started g n added c name there

    log_is : (column_is_whole all name 0 ≡ true) × (column_length all name 0 ≡ log_size)
    log_is =
        let r = log_column started g n added c name there log_is_new in
        let sizes = c.plans.logs r.0 r.1 in
        let is = sizes.0 in
        let some = log_some n.request.length n.request.region in
        (whole_column all name 0 r.0 r.2 sizes.1 (log_filled r.0 r.1) (omega (arith, is, some)), long_column all name 0 r.0 r.2 sizes.1 ∙ sizes.0)

    one_column : (col : ℕ) → col < 1 → (column_is_whole all name col ≡ true) × (column_length all name col ≡ log_size)
    one_column zero lt = log_is
    one_column (suc col) lt = absurd (omega (arith, lt))

    log_held : holds Log (1 * column_length all name 0) (vol_of n c.made.dco) ≡ true
    log_held =
        let long = log_is.1 in
        let same : 1 * column_length all name 0 ≡ column_length all name 0 = omega arith in
        and_from (is_geometry n.request.length n.request.region) (nat_le log_size (1 * column_length all name 0)) c.passed.geometry (le-leb log_size (1 * column_length all name 0) (omega (arith, long, same)))

    log_whole : is_whole all log_fields ≡ true
    log_whole =
        and_from (true && columns_are_good all log_fields) (has_volume_within all n.vol Log (1 * column_length all name 0))
        (good_columns all log_fields log_size (omega arith) one_column refl (none_behind name 1 log_is_new (log_inside name there)))
        (own_holds Log (1 * column_length all name 0) log_held)

  -- ---- a data plex

  module _ (unit : n.request.ncol ≡ 1 → n.request.unit ≡ 128) where
    module _ (k : ℕ) (name : Word) (there : IsIn c.made.plexes name) where
      abbrev fields : Plex
      fields = data_plex n k name

      is_new : has_name name group ≡ false
      is_new = plex_new started g n added c name there

      columns : HasColumns started g n added c name
      columns = plex_columns started g n added c name there is_new

      each_column : (col : ℕ) → col < n.request.ncol → (column_is_whole all name col ≡ true) × (column_length all name col ≡ column_size n.request)
      each_column col lt =
          let plex = c.plans.plexes columns.columns columns.planned in
          let count = plex.count in
          let r = columns.runs col (omega (arith, lt, count)) (few_columns columns.columns columns.planned) in
          let long = plex.each r.0 r.1 in
          let low = plex.low r.0 r.1 in
          let some = column_some n.request columns_some units_some length_some in
          (whole_column all name col r.0 r.2 low (plex_filled columns.columns r.0 columns.planned r.1) (omega (arith, long, some)), long_column all name col r.0 r.2 low ∙ long)

      first_long : column_length all name 0 ≡ column_size n.request
      first_long = let some = columns_some in (each_column 0 (omega (arith, some))).1

      layout_good : layout_is_good all fields (layout_of n.request.ncol) ≡ true
      layout_good = by (n.request.ncol == 1) refl
        where
          by : (b : Bool) → (n.request.ncol == 1) ≡ b → layout_is_good all fields (if b then Concat else Stripe) ≡ true
          by true one = and_from (n.request.ncol == 1) (n.request.unit == 128) one (eq-eqb n.request.unit 128 (unit (eqb-true n.request.ncol 1 one)))
          by false several =
              let small = small_counts started g n added c in
              let some = small.2 in
              and_from (nat_le 2 n.request.ncol && nat_le n.request.ncol 16 && nat_lt 0 n.request.unit) (column_length all name 0 % n.request.unit == 0)
              (and_from (nat_le 2 n.request.ncol && nat_le n.request.ncol 16) (nat_lt 0 n.request.unit)
              (and_from (nat_le 2 n.request.ncol) (nat_le n.request.ncol 16) (le-leb 2 n.request.ncol (several_columns n.request.ncol small.0 several)) (le-leb n.request.ncol 16 small.1))
              (lt-ltb 0 n.request.unit (omega (arith, some))))
              (eq-eqb (column_length all name 0 % n.request.unit) 0 (ap (λ (m : ℕ). m % n.request.unit) first_long ∙ column_units n.request columns_some units_some length_some several))

      plex_held : holds Data (n.request.ncol * column_length all name 0) (vol_of n c.made.dco) ≡ true
      plex_held =
          let same : n.request.ncol * column_length all name 0 ≡ n.request.ncol * column_size n.request = ap (λ (m : ℕ). n.request.ncol * m) first_long in
          let cover = column_cover n.request columns_some units_some length_some in
          le-leb n.request.length (n.request.ncol * column_length all name 0) (omega (arith, same, cover))

      plex_whole : is_whole all fields ≡ true
      plex_whole =
          and_from (true && columns_are_good all fields) (has_volume_within all n.vol Data (n.request.ncol * column_length all name 0))
          (good_columns all fields (column_size n.request) columns_some each_column layout_good (none_behind name n.request.ncol is_new (plex_inside name there)))
          (own_holds Data (n.request.ncol * column_length all name 0) plex_held)

    pub whole_hold : Holds started g n added c rule.PlexesAreWhole
    unfolding fault_in fault_over
    whole_hold =
        rule_holds rule.PlexesAreWhole group added refl (λ o there. whole_own started g n added c o there (holds_in group (config_valid g.config) rule.PlexesAreWhole o there))
        (of_each (λ o. whole_fault all o ≡ None) n group c.plan added c.made refl (λ logs. refl)
        (λ k name lt there. unless_true (is_whole all (data_plex n k name)) (NotWhole name) (plex_whole k name there))
        (λ name there. unless_true (is_whole all (log_fields name there)) (NotWhole name) (log_whole name there))
        (λ o there. let r = sub_place started g n added c o there in ap (λ (x : Object). whole_fault all x) r.3))
