-- The change maps of volumes, of a group's records with those of a new volume.
use Rattle.std.proofs.Common.{◌≡◌, ℕ, ◌+◌, ◌<◌, ◌≤◌, ◌==◌, ◌&&◌, min, nat_le, nat_lt, Bool, true, false, cond, is_some, Some, None, List, [], ◌∷◌, ◌++◌, length, refl, sym, ap, ◌∙◌, subst, inl, inr, arith, if◌then◌else◌}
use Rattle.std.specs.List.{count_by, list_all}
use Rattle.std.specs.Str.{bytes_eq}
use Rattle.std.proofs.lemmas.Bool.{and_from, and_left, and_parts, cases_lt, eqb-true, false≢true, false_from_ne_true, le-leb, le-ltb, lt-ltb}
use Rattle.std.proofs.lemmas.List.Folds.{list_all-append}
use Rattle.vx_base.specs.Named.{Word}
use Rattle.vx_base.proofs.NamedLemmas.{bytes_eq_self, bytes_eq_same}
use Rattle.vx_config_parts.specs.declared.fault.ObjectFault.TheVariants.{NoMap}
use Rattle.vx_config_parts.specs.declared.object.Object.{Object}
use Rattle.vx_config_parts.specs.declared.object.Object.TheVariants.{PlexRecord, VolRecord, SnapRecord}
use Rattle.vx_config_parts.specs.declared.plex.Plex.{Plex}
use Rattle.vx_config_parts.specs.declared.plex.PlexKind.TheVariants.{Data, Log}
use Rattle.vx_config_parts.specs.declared.snap.Snap.{Snap}
use Rattle.vx_config_parts.specs.declared.vol.Vol.{Vol}
use Rattle.vx_config_parts.specs.Objects.{is_data_plex_of, is_plex, is_snap, refers}
use Rattle.vx_rules.specs.Below.{all_below}
use Rattle.vx_rules.proofs.ListTests.{count_more, count_none}
use Rattle.vx_rules.specs.declared.rule.Rule.TheVariants as rule
use Rattle.vx_rules.specs.Maps.{has_map, map_fault, map_uses, maps_are_good, maps_differ, maps_fit, plex_map_fits}
use Rattle.vx_rules.specs.References.{has_name}
use Rattle.vx_rules.specs.Rules.{fault_in, fault_over}
use Rattle.vx_objects.specs.Config.{objects_of}
use Rattle.vx_image.proofs.PlexMembers.{IsIn, in_any}
use Rattle.vx_image.proofs.Plexes.{config_valid}
use Rattle.vx_new_volumes.specs.Records.{data_plex, data_plexes, has_logs, log_plex, vol_of}
use Rattle.vx_new_volumes.specs.declared.volume.NewVolume.{NewVolume}
use Rattle.vx_moments.specs.World.{Group}
use Rattle.vx_new_volume_laws.proofs.Parts.{of_each}
use Rattle.vx_new_volume_laws.proofs.Repeats.{unless_true}
use Rattle.vx_new_volume_laws.proofs.Lists.{all_each, below_each, none_any}
use Rattle.vx_new_volume_laws.proofs.Lying.{IsCase}
use Rattle.vx_new_volume_laws.proofs.Ruled.{count_same, holds_in, none_more, rule_holds, unless_kept}
use Rattle.vx_new_volume_laws.proofs.Beside.{no_snap, sub_place}
use Rattle.vx_new_volume_laws.proofs.Counting.{count_all, count_logs, count_plexes, had_here, no_plex_in, no_snap_in}
use Rattle.vx_new_volume_laws.proofs.Limits.{Holds, mirrors_are, small_counts}
use Rattle.vx_new_volume_laws.proofs.Logs.{data_asks, plexes_same}

module _ (n : NewVolume) (j : ℕ) where
  -- a data plex of the volume that has the map
  abbrev has_it : Object → Bool
  has_it o = is_plex (λ p. is_data_plex_of n.vol p && has_map p.map j) o

  one_more : (b : Bool) (m k rest count : ℕ) → (b ≡ true → m ≡ j) → rest ≤ cond (nat_lt j k) 0 1 → count ≡ cond b 1 0 + rest → k ≡ m + 1 → count ≤ cond (nat_lt j m) 0 1
  one_more true m k rest count same le sum next =
      let at = same refl in
      let behind : nat_lt j k ≡ true = lt-ltb j k (omega (arith, at, next)) in
      let here : nat_lt j m ≡ false = le-ltb j m (omega (arith, at)) in
      let none : rest ≤ 0 = subst (λ (b : Bool). rest ≤ cond b 0 1) behind le in
      subst (λ (b : Bool). count ≤ cond b 0 1) (sym here) (omega (arith, none, sum))
  one_more false m k rest count same le sum next = elim (cases_lt j m) [
    | inl lt ↦
        let behind : nat_lt j k ≡ true = lt-ltb j k (omega (arith, lt, next)) in
        let none : rest ≤ 0 = subst (λ (b : Bool). rest ≤ cond b 0 1) behind le in
        subst (λ (b : Bool). count ≤ cond b 0 1) (sym (lt-ltb j m lt)) (omega (arith, none, sum))
    | inr from ↦ subst (λ (b : Bool). count ≤ cond b 0 1) (sym (le-ltb j m from)) (omega (arith, few (nat_lt j k) le, sum))
  ]
    where
      few : (b : Bool) → rest ≤ cond b 0 1 → rest ≤ 1
      few true h = omega (arith, h)
      few false h = h

  map_is : (m : ℕ) (name : Word) → has_it (PlexRecord (data_plex n m name)) ≡ true → m ≡ j
  map_is m name h = by (has_logs n) (and_parts (is_data_plex_of n.vol (data_plex n m name)) (has_map (if has_logs n then Some m else None) j) h).1
    where
      by : (b : Bool) → has_map (if b then Some m else None) j ≡ true → m ≡ j
      by true e = eqb-true m j e
      by false e = absurd (false≢true e)

  -- data plexes of rising maps have the map once at most
  maps_rise : (m : ℕ) (names : List Word) → m + length names ≤ 255 → count_by has_it (data_plexes n m names) ≤ cond (nat_lt j m) 0 1
  maps_rise m [] le = by (nat_lt j m)
    where
      by : (b : Bool) → 0 ≤ cond b 0 1
      by true = omega arith
      by false = omega arith
  maps_rise m (name ∷ names) le =
      let next : min (m + 1) 255 ≡ m + 1 = omega (arith, le) in
      one_more (has_it (PlexRecord (data_plex n m name))) m (min (m + 1) 255) (count_by has_it (data_plexes n (min (m + 1) 255) names)) (count_by has_it (data_plexes n m (name ∷ names))) (map_is m name)
      (maps_rise (min (m + 1) 255) names (omega (arith, le))) (count_more has_it (PlexRecord (data_plex n m name)) (data_plexes n (min (m + 1) 255) names)) next

module _ (started : Bool) (g : Group) (n : NewVolume) (added : List Object) (c : IsCase started g n added) where
  abbrev group : List Object
  group = objects_of g.config

  abbrev all : List Object
  all = objects_of g.config ++ added

  uses_same : (vol : Word) → has_name vol group ≡ true → (m : ℕ) → map_uses all vol m ≡ map_uses group vol m
  uses_same vol had m =
      let a = plexes_same started g n added c vol had (λ p. is_data_plex_of vol p && has_map p.map m) (λ p h. data_asks started g n added c vol p (and_parts (is_data_plex_of vol p) (has_map p.map m) h).0) in
      let b = count_same (λ o. is_snap (λ s. bytes_eq s.vol vol && s.map == m) o) group added (no_snap started g n added c (λ s. bytes_eq s.vol vol && s.map == m)) in
      let d = count_same (λ o. is_snap (λ s. bytes_eq s.of vol && s.ofmap == m) o) group added (no_snap started g n added c (λ s. bytes_eq s.of vol && s.ofmap == m)) in
      λ i. a i + b i + d i

  differ_same : (vol : Word) → has_name vol group ≡ true → maps_differ all vol ≡ maps_differ group vol
  unfolding maps_differ
  differ_same vol had = λ i. all_below 30 (λ m. nat_le (uses_same vol had m i) 1)

  -- no record of the new volume has maps of another
  fit_other : (v : Vol) → has_name v.name group ≡ true → (o : Object) → IsIn added o → maps_fit v o ≡ true
  fit_other v had =
      of_each (λ o. maps_fit v o ≡ true) n group c.plan added c.made refl (λ logs. refl) (λ k name lt there. by (data_plex n k name) is_other) (λ name there. other_log name)
      (λ o there. let r = sub_place started g n added c o there in ap (λ (x : Object). maps_fit v x) r.3)
    where
      is_other : bytes_eq n.vol v.name ≡ false
      is_other = false_from_ne_true (bytes_eq n.vol v.name) (λ h. false≢true (sym c.passed.free ∙ subst (λ (w : Word). has_name w group ≡ true) (sym (bytes_eq_same n.vol v.name h)) had))

      by : (p : Plex) → refers p.vol v.name ≡ false → maps_fit v (PlexRecord p) ≡ true
      by p other = ap (λ (b : Bool). if b then plex_map_fits p.kind (is_some v.dco) p.map else true) other

      other_log : (name : Word) → maps_fit v (log_plex n name) ≡ true
      other_log name = ap (λ (b : Bool). if b then plex_map_fits Log (is_some v.dco) None else true) is_other

  maps_own : (v : Vol) → IsIn group (VolRecord v) → maps_are_good group v ≡ true → maps_are_good all v ≡ true
  maps_own v there h =
      let had = had_here g (VolRecord v) there in
      let parts = and_parts (list_all (λ o. maps_fit v o) group) (maps_differ group v.name) h in
      and_from (list_all (λ o. maps_fit v o) all) (maps_differ all v.name)
      (list_all-append (λ o. maps_fit v o) group added ∙ and_from (list_all (λ o. maps_fit v o) group) (list_all (λ o. maps_fit v o) added) parts.0 (all_each (λ o. maps_fit v o) added (fit_other v had)))
      (differ_same v.name had ∙ parts.1)

  map_own : (o : Object) → IsIn group o → map_fault group o ≡ None → map_fault all o ≡ None
  map_own (VolRecord v) there e = unless_kept (maps_are_good group v) (maps_are_good all v) (NoMap v.name) (maps_own v there) e
  map_own (PlexRecord p) there e = e
  map_own o there e = refl

  abbrev own : Vol
  own = vol_of n c.made.dco

  -- the group's records have no maps of the new volume, ..
  fit_group : (o : Object) → IsIn group o → maps_fit own o ≡ true
  fit_group (PlexRecord p) there =
      ap (λ (b : Bool). if b then plex_map_fits p.kind (is_some own.dco) p.map else true)
      (false_from_ne_true (refers p.vol n.vol) (λ h. false≢true (sym (no_plex_in g n.vol c.passed.free (λ p. refers p.vol n.vol) (λ p h. h)) ∙ in_any (λ o. is_plex (λ p. refers p.vol n.vol) o) group (PlexRecord p) there h)))
  fit_group (SnapRecord s) there =
      let out = no_snap_in g n.vol c.passed.free s there in
      λ i. (if out.0 i then nat_lt s.map 30 else true) && (if out.1 i then nat_lt s.ofmap 30 else true)
  fit_group o there = refl

  -- .. and its own are of 0 to 29
  fit_new : (o : Object) → IsIn added o → maps_fit own o ≡ true
  fit_new =
      of_each (λ o. maps_fit own o ≡ true) n group c.plan added c.made refl (λ logs. refl) (λ k name lt there. fit_data k name lt) (λ name there. fit_log name)
      (λ o there. let r = sub_place started g n added c o there in ap (λ (x : Object). maps_fit own x) r.3)
    where
      fit_data : (k : ℕ) (name : Word) → k < length c.made.plexes → maps_fit own (PlexRecord (data_plex n k name)) ≡ true
      fit_data k name lt =
          ap (λ (b : Bool). if b then plex_map_fits Data (is_some (if has_logs n then Some c.made.dco else None)) (if has_logs n then Some k else None) else true) (bytes_eq_self n.vol)
          ∙ by (has_logs n)
        where
          by : (b : Bool) → plex_map_fits Data (is_some (if b then Some c.made.dco else None)) (if b then Some k else None) ≡ true
          by true =
              let few = (small_counts started g n added c).4 in
              let count = mirrors_are started g n added c in
              lt-ltb k 30 (omega (arith, lt, few, count))
          by false = refl

      fit_log : (name : Word) → maps_fit own (log_plex n name) ≡ true
      fit_log name = ap (λ (b : Bool). if b then true else true) (bytes_eq_self n.vol)

  snaps_none : (test : Snap → Bool) → ((s : Snap) → IsIn group (SnapRecord s) → test s ≡ false) → count_by (λ o. is_snap test o) all ≡ 0
  snaps_none test each = count_none (λ o. is_snap test o) all (none_more (λ o. is_snap test o) group added (none_any (λ o. is_snap test o) group by) (no_snap started g n added c test))
    where
      by : (o : Object) → IsIn group o → is_snap test o ≡ false
      by (SnapRecord s) there = each s there
      by o there = refl

  uses_new : (m : ℕ) → map_uses all n.vol m ≤ 1
  uses_new m =
      let sum = count_all started g n added c (λ p. is_data_plex_of n.vol p && has_map p.map m) (λ p h. data_asks started g n added c n.vol p (and_parts (is_data_plex_of n.vol p) (has_map p.map m) h).0) in
      let parts = count_plexes started g n added c (λ p. is_data_plex_of n.vol p && has_map p.map m) in
      let logs = count_logs n (λ p. is_data_plex_of n.vol p && has_map p.map m) false (λ name. by (bytes_eq n.vol n.vol)) c.made.logs in
      let few = (small_counts started g n added c).4 in
      let count = mirrors_are started g n added c in
      let once = maps_rise n m 0 c.made.plexes (omega (arith, few, count)) in
      let from = at_most (nat_lt m 0) in
      let a = snaps_none (λ s. bytes_eq s.vol n.vol && s.map == m) (λ s there. and_left (bytes_eq s.vol n.vol) (s.map == m) (no_snap_in g n.vol c.passed.free s there).0) in
      let b = snaps_none (λ s. bytes_eq s.of n.vol && s.ofmap == m) (λ s there. and_left (bytes_eq s.of n.vol) (s.ofmap == m) (no_snap_in g n.vol c.passed.free s there).1) in
      omega (arith, sum, parts, logs, once, from, a, b)
    where
      by : (b : Bool) → ((b && false) && false) ≡ false
      by true = refl
      by false = refl

      at_most : (b : Bool) → cond b 0 1 ≤ 1
      at_most true = omega arith
      at_most false = omega arith

  differ_new : maps_differ all n.vol ≡ true
  unfolding maps_differ
  differ_new = below_each (λ m. nat_le (map_uses all n.vol m) 1) 30 (λ m lt. le-leb (map_uses all n.vol m) 1 (uses_new m))

  maps_new : maps_are_good all own ≡ true
  maps_new =
      and_from (list_all (λ o. maps_fit own o) all) (maps_differ all n.vol)
      (list_all-append (λ o. maps_fit own o) group added ∙ and_from (list_all (λ o. maps_fit own o) group) (list_all (λ o. maps_fit own o) added) (all_each (λ o. maps_fit own o) group fit_group) (all_each (λ o. maps_fit own o) added fit_new))
      differ_new

  pub maps_hold : Holds started g n added c rule.MapsAreGood
  unfolding fault_in fault_over
  maps_hold =
      rule_holds rule.MapsAreGood group added refl (λ o there. map_own o there (holds_in group (config_valid g.config) rule.MapsAreGood o there))
      (of_each (λ o. map_fault all o ≡ None) n group c.plan added c.made (unless_true (maps_are_good all own) (NoMap n.vol) maps_new) (λ logs. refl) (λ k name lt there. refl) (λ name there. refl)
      (λ o there. let r = sub_place started g n added c o there in ap (λ (x : Object). map_fault all x) r.3))
