-- The logs of volumes, of a group's records with those of a new volume.
use Rattle.std.proofs.Common.{◌≡◌, ◌≤◌, ◌&&◌, ◌||◌, nat_le, Bool, true, false, is_some, Option, Some, None, List, ◌++◌, refl, sym, ◌∙◌, arith, if◌then◌else◌}
use Rattle.std.specs.List.{count_by}
use Rattle.std.specs.Str.{bytes_eq}
use Rattle.std.proofs.lemmas.Bool.{and_from, and_parts, false≢true, le-leb, leb-true, ltb-true}
use Rattle.vx_base.specs.Named.{Word}
use Rattle.vx_base.proofs.NamedLemmas.{bytes_eq_self}
use Rattle.vx_config_parts.specs.declared.fault.ObjectFault.TheVariants.{NoLog}
use Rattle.vx_config_parts.specs.declared.object.Object.{Object}
use Rattle.vx_config_parts.specs.declared.object.Object.TheVariants.{VolRecord, SnapRecord}
use Rattle.vx_config_parts.specs.declared.plex.Plex.{Plex}
use Rattle.vx_config_parts.specs.Objects.{is_data, is_data_plex_of, is_log, is_log_plex_of, is_plex, is_vol, refers}
use Rattle.vx_rules.specs.declared.rule.Rule.TheVariants as rule
use Rattle.vx_rules.specs.Faults.{unless}
use Rattle.vx_rules.specs.Maps.{data_count, is_in_use, log_count, log_fault, logs_are_good}
use Rattle.vx_rules.specs.References.{has_name}
use Rattle.vx_rules.specs.Relations.{is_prepared, relation_log_fault}
use Rattle.vx_rules.specs.Rules.{fault_in, fault_over}
use Rattle.vx_objects.specs.Config.{objects_of}
use Rattle.vx_image.proofs.PlexMembers.{IsIn}
use Rattle.vx_image.proofs.Plexes.{config_valid}
use Rattle.vx_new_volumes.specs.Records.{has_logs}
use Rattle.vx_new_volumes.specs.declared.volume.NewVolume.{NewVolume}
use Rattle.vx_moments.specs.World.{Group}
use Rattle.vx_new_volume_laws.proofs.Repeats.{unless_true}
use Rattle.vx_new_volume_laws.proofs.Lying.{IsCase}
use Rattle.vx_new_volume_laws.proofs.Ruled.{any_more, both_kept, count_same, holds_in, rule_holds, unless_kept}
use Rattle.vx_new_volume_laws.proofs.Beside.{no_plex_of}
use Rattle.vx_new_volume_laws.proofs.Counting.{count_all, count_each, had_here}
use Rattle.vx_new_volume_laws.proofs.Limits.{Holds, each_plain, logs_are, mirrors_are, small_counts}

relation_logs_more : (xs ys : List Object) (o : Object) → relation_log_fault xs o ≡ None → relation_log_fault (xs ++ ys) o ≡ None
relation_logs_more xs ys (SnapRecord s) e =
    both_kept (unless (is_prepared xs s.vol) (NoLog s.vol)) (unless (is_prepared xs s.of) (NoLog s.of)) (unless (is_prepared (xs ++ ys) s.vol) (NoLog s.vol)) (unless (is_prepared (xs ++ ys) s.of) (NoLog s.of))
    (unless_kept (is_prepared xs s.vol) (is_prepared (xs ++ ys) s.vol) (NoLog s.vol) (any_more (λ o. is_vol (λ v. bytes_eq v.name s.vol && is_some v.dco) o) xs ys))
    (unless_kept (is_prepared xs s.of) (is_prepared (xs ++ ys) s.of) (NoLog s.of) (any_more (λ o. is_vol (λ v. bytes_eq v.name s.of && is_some v.dco) o) xs ys)) e
relation_logs_more xs ys o e = refl

module _ (started : Bool) (g : Group) (n : NewVolume) (added : List Object) (c : IsCase started g n added) where
  abbrev group : List Object
  group = objects_of g.config

  abbrev all : List Object
  all = objects_of g.config ++ added

  pub relation_logs_hold : Holds started g n added c rule.RelatedVolumesHaveLogs
  unfolding fault_in fault_over
  relation_logs_hold =
      rule_holds rule.RelatedVolumesHaveLogs group added refl (λ o there. relation_logs_more group added o (holds_in group (config_valid g.config) rule.RelatedVolumesHaveLogs o there))
      (each_plain started g n added c (relation_log_fault all) refl refl (λ p. refl) (λ s. refl))

  -- ---- logs

  -- as many plexes of another volume are there as before
  pub plexes_same : (vol : Word) → has_name vol (objects_of g.config) ≡ true → (test : Plex → Bool) → ((p : Plex) → test p ≡ true → refers p.vol vol ≡ true) → count_by (λ o. is_plex test o) (objects_of g.config ++ added) ≡ count_by (λ o. is_plex test o) (objects_of g.config)
  plexes_same vol had test asks = count_same (λ o. is_plex test o) group added (no_plex_of started g n added c vol had test asks)

  pub data_asks : (vol : Word) (p : Plex) → is_data_plex_of vol p ≡ true → refers p.vol vol ≡ true
  data_asks vol p h = (and_parts (refers p.vol vol) (is_data p.kind) h).0

  log_asks : (vol : Word) (p : Plex) → (is_log_plex_of vol p && is_in_use p.state) ≡ true → refers p.vol vol ≡ true
  log_asks vol p h = (and_parts (refers p.vol vol) (is_log p.kind) (and_parts (is_log_plex_of vol p) (is_in_use p.state) h).0).0

  logs_same : (vol : Word) → has_name vol group ≡ true → (dco : Option Word) → logs_are_good all vol dco ≡ logs_are_good group vol dco
  logs_same vol had None = let same = plexes_same vol had (λ p. is_data_plex_of vol p) (data_asks vol) in (λ i. nat_le (same i) 1)
  logs_same vol had (Some dco) = let same = plexes_same vol had (λ p. is_log_plex_of vol p && is_in_use p.state) (log_asks vol) in (λ i. nat_le 1 (same i) && nat_le (same i) 2)

  log_own : (o : Object) → IsIn group o → log_fault group o ≡ None → log_fault all o ≡ None
  log_own (VolRecord v) there e = unless_kept (logs_are_good group v.name v.dco) (logs_are_good all v.name v.dco) (NoLog v.name) (λ h. logs_same v.name (had_here g (VolRecord v) there) v.dco ∙ h) e
  log_own o there e = refl

  own_logs : log_count all n.vol ≡ n.request.logs
  own_logs =
      let sum = count_all started g n added c (λ p. is_log_plex_of n.vol p && is_in_use p.state) (log_asks n.vol) in
      let each = count_each started g n added c (λ p. is_log_plex_of n.vol p && is_in_use p.state) false true (λ k name. by (bytes_eq n.vol n.vol)) (λ name. and_from (bytes_eq n.vol n.vol && true) true (and_from (bytes_eq n.vol n.vol) true (bytes_eq_self n.vol) refl) refl) in
      let logs = logs_are started g n added c in
      omega (arith, sum, each, logs)
    where
      by : (b : Bool) → ((b && false) && true) ≡ false
      by true = refl
      by false = refl

  own_data : data_count all n.vol ≡ n.request.mirrors
  own_data =
      let sum = count_all started g n added c (λ p. is_data_plex_of n.vol p) (data_asks n.vol) in
      let each = count_each started g n added c (λ p. is_data_plex_of n.vol p) true false (λ k name. and_from (bytes_eq n.vol n.vol) true (bytes_eq_self n.vol) refl) (λ name. by (bytes_eq n.vol n.vol)) in
      let mirrors = mirrors_are started g n added c in
      omega (arith, sum, each, mirrors)
    where
      by : (b : Bool) → (b && false) ≡ false
      by true = refl
      by false = refl

  logs_new : logs_are_good all n.vol (if has_logs n then Some c.made.dco else None) ≡ true
  logs_new = by (has_logs n) refl
    where
      by : (b : Bool) → has_logs n ≡ b → logs_are_good all n.vol (if b then Some c.made.dco else None) ≡ true
      by true e =
          let some = ltb-true 0 n.request.logs e in
          let small = (small_counts started g n added c).5 in
          let count = own_logs in
          and_from (nat_le 1 (log_count all n.vol)) (nat_le (log_count all n.vol) 2) (le-leb 1 (log_count all n.vol) (omega (arith, some, count))) (le-leb (log_count all n.vol) 2 (omega (arith, small, count)))
      by false e =
          let count = own_data in
          let one : n.request.mirrors ≤ 1 = leb-true n.request.mirrors 1 (or_first (nat_le n.request.mirrors 1) (has_logs n) e c.passed.logged) in
          le-leb (data_count all n.vol) 1 (omega (arith, count, one))
        where
          or_first : (a b : Bool) → b ≡ false → (a || b) ≡ true → a ≡ true
          or_first true b f h = refl
          or_first false b f h = absurd (false≢true (sym f ∙ h))

  pub logs_hold : Holds started g n added c rule.LogsAreGood
  unfolding fault_in fault_over
  logs_hold =
      rule_holds rule.LogsAreGood group added refl (λ o there. log_own o there (holds_in group (config_valid g.config) rule.LogsAreGood o there))
      (each_plain started g n added c (log_fault all) (unless_true (logs_are_good all n.vol (if has_logs n then Some c.made.dco else None)) (NoLog n.vol) logs_new) refl (λ p. refl) (λ s. refl))
