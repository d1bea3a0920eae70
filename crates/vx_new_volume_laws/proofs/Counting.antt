-- How many plexes and volumes are among the records of a new volume, and that none of the group is of it.
use Rattle.std.proofs.Common.{◌≡◌, ℕ, suc, ◌+◌, min, Bool, true, false, cond, Option, Some, None, List, [], ◌∷◌, ◌++◌, length, map, refl, sym, ap, ◌∙◌, subst, arith, if◌then◌else◌}
use Rattle.std.specs.List.{count_by, list_any}
use Rattle.std.specs.Str.{bytes_eq}
use Rattle.std.proofs.lemmas.Bool.{false≢true, false_from_ne_true}
use Rattle.vx_base.specs.Named.{Word}
use Rattle.vx_base.proofs.NamedLemmas.{bytes_eq_self, bytes_eq_same}
use Rattle.vx_config_parts.specs.declared.fault.ObjectFault.TheVariants.{NoObject}
use Rattle.vx_config_parts.specs.declared.object.Object.{Object}
use Rattle.vx_config_parts.specs.declared.object.Object.TheVariants.{SubdiskRecord, PlexRecord, VolRecord, DcoRecord, SnapRecord}
use Rattle.vx_config_parts.specs.declared.plex.Plex.{Plex}
use Rattle.vx_config_parts.specs.declared.snap.Snap.{Snap}
use Rattle.vx_config_parts.specs.declared.subdisk.Subdisk.{Subdisk}
use Rattle.vx_config_parts.specs.Objects.{is_plex, is_subdisk, is_vol, name_of, refers}
use Rattle.vx_rules.proofs.ListTests.{any_weaker, count_more, count_none}
use Rattle.vx_rules.specs.declared.rule.Rule.TheVariants as rule
use Rattle.vx_rules.specs.Faults.{unless}
use Rattle.vx_rules.specs.References.{has_disk, has_name, has_plex, has_vol, missing, reference_fault}
use Rattle.vx_rules.specs.Rules.{fault_in}
use Rattle.vx_objects.proofs.OneGroup.{first_none, second_none, unless_none}
use Rattle.vx_objects.specs.Config.{objects_of}
use Rattle.vx_image.proofs.PlexMembers.{IsIn, in_any}
use Rattle.vx_image.proofs.Plexes.{config_valid}
use Rattle.vx_new_volumes.specs.Records.{data_plex, data_plexes, dco_of, has_logs, log_plex, vol_of}
use Rattle.vx_new_volumes.specs.declared.volume.NewVolume.{NewVolume}
use Rattle.vx_moments.specs.World.{Group}
use Rattle.vx_new_volume_laws.proofs.Parts.{of_others}
use Rattle.vx_new_volume_laws.proofs.Lists.{none_any}
use Rattle.vx_new_volume_laws.proofs.Lying.{IsCase}
use Rattle.vx_new_volume_laws.proofs.Ruled.{count_both, holds_in}
use Rattle.vx_new_volume_laws.proofs.Beside.{sub_place}

-- ---- nothing of the group is of the volume

has_some : (all : List Object) (o : Object) → IsIn all o → has_name (name_of o) all ≡ true
has_some all o there = in_any (λ p. bytes_eq (name_of p) (name_of o)) all o there (bytes_eq_self (name_of o))

vol_name : (v : Word) (o : Object) → is_vol (λ x. bytes_eq x.name v) o ≡ true → bytes_eq (name_of o) v ≡ true
vol_name v (VolRecord x) h = h
vol_name v o h = absurd (false≢true h)

vol_has_name : (all : List Object) (v : Word) → has_vol v all ≡ true → has_name v all ≡ true
vol_has_name all v h = any_weaker (λ o. is_vol (λ x. bytes_eq x.name v) o) (λ o. bytes_eq (name_of o) v) all (vol_name v) h

plex_name : (v : Word) (o : Object) → is_plex (λ x. bytes_eq x.name v) o ≡ true → bytes_eq (name_of o) v ≡ true
plex_name v (PlexRecord x) h = h
plex_name v o h = absurd (false≢true h)

plex_has_name : (all : List Object) (v : Word) → has_plex v all ≡ true → has_name v all ≡ true
plex_has_name all v h = any_weaker (λ o. is_plex (λ x. bytes_eq x.name v) o) (λ o. bytes_eq (name_of o) v) all (plex_name v) h

refers_there : (a : Option Word) (vol : Word) (is_there : Word → Bool) → missing a is_there ≡ None → refers a vol ≡ true → is_there vol ≡ true
refers_there None vol is_there e h = absurd (false≢true h)
refers_there (Some w) vol is_there e h = subst (λ (v : Word). is_there v ≡ true) (bytes_eq_same w vol h) (unless_none (is_there w) (NoObject w) e)

module _ (g : Group) where
  abbrev group : List Object
  group = objects_of g.config

  refers_in : (o : Object) → IsIn (objects_of g.config) o → reference_fault (objects_of g.config) o ≡ None
  unfolding fault_in
  refers_in o there = holds_in group (config_valid g.config) rule.ReferencesAreThere o there

  -- a name that nothing has is no volume's of a plex, ..
  pub no_plex_in : (vol : Word) → has_name vol (objects_of g.config) ≡ false → (test : Plex → Bool) → ((p : Plex) → test p ≡ true → refers p.vol vol ≡ true) → list_any (λ o. is_plex test o) (objects_of g.config) ≡ false
  no_plex_in vol new test asks = none_any (λ o. is_plex test o) group each
    where
      each : (o : Object) → IsIn group o → is_plex test o ≡ false
      each (PlexRecord p) there =
          false_from_ne_true (test p) (λ h. false≢true (sym new ∙ vol_has_name group vol (refers_there p.vol vol (λ v. has_vol v group) (refers_in (PlexRecord p) there) (asks p h))))
      each o there = refl

  -- nor that of a plex of a subdisk, ..
  pub no_piece_in : (plex : Word) → has_name plex (objects_of g.config) ≡ false → (test : Subdisk → Bool) → ((s : Subdisk) → test s ≡ true → refers s.plex plex ≡ true) → list_any (λ o. is_subdisk test o) (objects_of g.config) ≡ false
  no_piece_in plex new test asks = none_any (λ o. is_subdisk test o) group each
    where
      each : (o : Object) → IsIn group o → is_subdisk test o ≡ false
      each (SubdiskRecord s) there =
          let e = second_none (unless (has_disk s.disk group) (NoObject s.disk)) (missing s.plex (λ p. has_plex p group)) (refers_in (SubdiskRecord s) there) in
          false_from_ne_true (test s) (λ h. false≢true (sym new ∙ plex_has_name group plex (refers_there s.plex plex (λ p. has_plex p group) e (asks s h))))
      each o there = refl

  not_eq : (a b : Word) → has_name b group ≡ false → has_vol a group ≡ true → bytes_eq a b ≡ false
  not_eq a b new had = false_from_ne_true (bytes_eq a b) (λ h. false≢true (sym new ∙ subst (λ (w : Word). has_name w group ≡ true) (bytes_eq_same a b h) (vol_has_name group a had)))

  -- .. nor of a relation
  pub no_snap_in : (vol : Word) → has_name vol (objects_of g.config) ≡ false → (s : Snap) → IsIn (objects_of g.config) (SnapRecord s) → (bytes_eq s.vol vol ≡ false) × (bytes_eq s.of vol ≡ false)
  no_snap_in vol new s there =
      let e = refers_in (SnapRecord s) there in
      let a = first_none (unless (has_vol s.vol group) (NoObject s.vol)) (unless (has_vol s.of group) (NoObject s.of)) e in
      let b = second_none (unless (has_vol s.vol group) (NoObject s.vol)) (unless (has_vol s.of group) (NoObject s.of)) e in
      (not_eq s.vol vol new (unless_none (has_vol s.vol group) (NoObject s.vol) a), not_eq s.of vol new (unless_none (has_vol s.of group) (NoObject s.of) b))

  pub had_here : (o : Object) → IsIn (objects_of g.config) o → has_name (name_of o) (objects_of g.config) ≡ true
  had_here o there = has_some group o there

-- ---- the plexes of the volume

count_data : (n : NewVolume) (test : Plex → Bool) (b : Bool) → ((k : ℕ) (name : Word) → test (data_plex n k name) ≡ b) → (m : ℕ) (names : List Word) → count_by (λ o. is_plex test o) (data_plexes n m names) ≡ cond b (length names) 0
count_data n test b each m [] = by b
  where
    by : (b : Bool) → ◌≡◌ {A = ℕ} 0 (cond b 0 0)
    by true = refl
    by false = refl
count_data n test b each m (name ∷ names) =
    count_more (λ o. is_plex test o) (PlexRecord (data_plex n m name)) (data_plexes n (min (m + 1) 255) names)
    ∙ (λ i. cond (each m name i) 1 0 + count_data n test b each (min (m + 1) 255) names i)
    ∙ by b
  where
    by : (b : Bool) → cond b 1 0 + cond b (length names) 0 ≡ cond b (suc (length names)) 0
    by true = omega arith
    by false = omega arith

pub count_logs : (n : NewVolume) (test : Plex → Bool) (b : Bool) → ((name : Word) → is_plex test (log_plex n name) ≡ b) → (names : List Word) → count_by (λ o. is_plex test o) (map (log_plex n) names) ≡ cond b (length names) 0
count_logs n test b each [] = by b
  where
    by : (b : Bool) → ◌≡◌ {A = ℕ} 0 (cond b 0 0)
    by true = refl
    by false = refl
count_logs n test b each (name ∷ names) =
    count_more (λ o. is_plex test o) (log_plex n name) (map (log_plex n) names)
    ∙ (λ i. cond (each name i) 1 0 + count_logs n test b each names i)
    ∙ by b
  where
    by : (b : Bool) → cond b 1 0 + cond b (length names) 0 ≡ cond b (suc (length names)) 0
    by true = omega arith
    by false = omega arith

module _ (started : Bool) (g : Group) (n : NewVolume) (added : List Object) (c : IsCase started g n added) where
  no_plex_sub : (test : Plex → Bool) → count_by (λ o. is_plex test o) c.made.laid.objects ≡ 0
  no_plex_sub test = count_none (λ o. is_plex test o) c.made.laid.objects (none_any (λ o. is_plex test o) c.made.laid.objects (λ o there. ap (λ (x : Object). is_plex test x) (sub_place started g n added c o there).3))

  no_plex_dco : (test : Plex → Bool) → count_by (λ o. is_plex test o) (dco_of n c.made.dco) ≡ 0
  no_plex_dco test = by (has_logs n)
    where
      by : (b : Bool) → count_by (λ o. is_plex test o) (if b then DcoRecord (record { name = c.made.dco; vol = n.vol; maps = 32 }) ∷ [] else []) ≡ 0
      by true = refl
      by false = refl

  -- the plexes among the records are the data plexes and the logs
  pub count_plexes : (test : Plex → Bool) → count_by (λ o. is_plex test o) added ≡ count_by (λ o. is_plex test o) (data_plexes n 0 c.made.plexes) + count_by (λ o. is_plex test o) (map (log_plex n) c.made.logs)
  count_plexes test =
      let t : Object → Bool = λ o. is_plex test o in
      let a = count_more t (VolRecord (vol_of n c.made.dco)) (dco_of n c.made.dco ++ data_plexes n 0 c.made.plexes ++ map (log_plex n) c.made.logs ++ c.made.laid.objects) in
      let b = count_both t (dco_of n c.made.dco ++ data_plexes n 0 c.made.plexes ++ map (log_plex n) c.made.logs) c.made.laid.objects in
      let d = count_both t (dco_of n c.made.dco ++ data_plexes n 0 c.made.plexes) (map (log_plex n) c.made.logs) in
      let e = count_both t (dco_of n c.made.dco) (data_plexes n 0 c.made.plexes) in
      let f = no_plex_sub test in
      let h = no_plex_dco test in
      ap (λ (os : List Object). count_by t os) c.made.are ∙ omega (arith, a, b, d, e, f, h)

  -- of those that pass the same test each
  pub count_each : (test : Plex → Bool) (a b : Bool) → ((k : ℕ) (name : Word) → test (data_plex n k name) ≡ a) → ((name : Word) → is_plex test (log_plex n name) ≡ b)
      → count_by (λ o. is_plex test o) added ≡ cond a (length c.made.plexes) 0 + cond b (length c.made.logs) 0
  count_each test a b each log = count_plexes test ∙ (λ i. count_data n test a each 0 c.made.plexes i + count_logs n test b log c.made.logs i)

  -- where those of the group are none of the volume, so it is of all
  pub count_all : (test : Plex → Bool) → ((p : Plex) → test p ≡ true → refers p.vol n.vol ≡ true) → count_by (λ o. is_plex test o) (objects_of g.config ++ added) ≡ count_by (λ o. is_plex test o) added
  count_all test asks =
      let sum = count_both (λ o. is_plex test o) (objects_of g.config) added in
      let none = count_none (λ o. is_plex test o) (objects_of g.config) (no_plex_in g n.vol c.passed.free test asks) in
      omega (arith, sum, none)

  -- it is the one volume among them
  pub one_vol : count_by (λ o. is_vol (λ v. true) o) added ≡ 1
  one_vol =
      let t : Object → Bool = λ o. is_vol (λ v. true) o in
      let a = count_more t (VolRecord (vol_of n c.made.dco)) (dco_of n c.made.dco ++ data_plexes n 0 c.made.plexes ++ map (log_plex n) c.made.logs ++ c.made.laid.objects) in
      let b = count_none t (dco_of n c.made.dco ++ data_plexes n 0 c.made.plexes ++ map (log_plex n) c.made.logs ++ c.made.laid.objects) (none_any t (dco_of n c.made.dco ++ data_plexes n 0 c.made.plexes ++ map (log_plex n) c.made.logs ++ c.made.laid.objects)
      (of_others (λ o. t o ≡ false) n (objects_of g.config) c.plan added c.made (λ logs. refl) (λ k name lt there. refl) (λ name there. refl) (λ o there. ap t (sub_place started g n added c o there).3))) in
      ap (λ (os : List Object). count_by t os) c.made.are ∙ omega (arith, a, b)
