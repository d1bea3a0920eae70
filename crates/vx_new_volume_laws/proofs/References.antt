-- What the records of a new volume refer to is there, and nothing of it is the group's but disks.
use Rattle.std.proofs.Common.{◌≡◌, Bool, true, false, ◌&&◌, Option, Some, None, List, ◌++◌, refl, ap, ◌∙◌, subst, inl, inr, if◌then◌else◌}
use Rattle.std.specs.Str.{bytes_eq}
use Rattle.std.proofs.lemmas.Bool.{and_from}
use Rattle.vx_base.specs.Named.{Word}
use Rattle.vx_base.proofs.NamedLemmas.{bytes_eq_self}
use Rattle.vx_config_parts.specs.declared.fault.ObjectFault.TheVariants.{InUse, NoObject}
use Rattle.vx_config_parts.specs.declared.object.Object.{Object}
use Rattle.vx_config_parts.specs.declared.object.Object.TheVariants.{GroupRecord, DiskRecord, SubdiskRecord, PlexRecord, VolRecord, DcoRecord, SnapRecord}
use Rattle.vx_config_parts.specs.declared.vol.PolicyKind.{PolicyKind}
use Rattle.vx_config_parts.specs.declared.vol.PolicyKind.TheVariants.{Round, Prefer, Select}
use Rattle.vx_config_parts.specs.Objects.{is_data_plex_of, is_dco, is_disk, is_plex, is_vol, refers}
use Rattle.vx_rules.specs.declared.rule.Rule.TheVariants as rule
use Rattle.vx_rules.specs.Adding.{fault_by, had, had_fault, is_had_as}
use Rattle.vx_rules.specs.Faults.{first_of, unless}
use Rattle.vx_rules.specs.Maps.{has_data_plex, prefer_fault, prefer_fault_of}
use Rattle.vx_rules.specs.References.{has_dco_of, has_disk, has_name, has_plex, has_vol, has_vol_with, missing, reference_fault}
use Rattle.vx_rules.specs.Rules.{fault_in, fault_over}
use Rattle.vx_rules.proofs.FirstNames.{none_named}
use Rattle.vx_objects.specs.Config.{objects_of}
use Rattle.vx_image.proofs.PlexMembers.{IsIn, disk_in, in_any, in_right}
use Rattle.vx_image.proofs.Plexes.{config_valid}
use Rattle.vx_new_volumes.specs.Records.{data_plex, has_logs, log_plex, vol_of}
use Rattle.vx_new_volumes.specs.declared.volume.NewVolume.{NewVolume}
use Rattle.vx_moments.specs.World.{Group}
use Rattle.vx_new_volume_laws.proofs.Parts.{of_each}
use Rattle.vx_new_volume_laws.proofs.Places.{Place, places}
use Rattle.vx_new_volume_laws.proofs.Placed.{as_placed}
use Rattle.vx_new_volume_laws.proofs.Repeats.{both_none, none_found, unless_true}
use Rattle.vx_new_volume_laws.proofs.Lying.{IsCase, on_disk}
use Rattle.vx_new_volume_laws.proofs.Ruled.{any_more, both_kept, holds_in, rule_holds, unless_kept}
use Rattle.vx_new_volume_laws.proofs.Beside.{dco_there, log_there, place_new, place_plex, plex_there, sub_place, vol_there}

missing_more : (a : Option Word) (f g : Word → Bool) → ((w : Word) → f w ≡ true → g w ≡ true) → missing a f ≡ None → missing a g ≡ None
missing_more None f g on e = refl
missing_more (Some w) f g on e = unless_kept (f w) (g w) (NoObject w) (on w) e

-- ---- with more records behind

module _ (xs ys : List Object) where
  more_vols : (w : Word) → has_vol w xs ≡ true → has_vol w (xs ++ ys) ≡ true
  more_vols w = any_more (λ o. is_vol (λ v. bytes_eq v.name w) o) xs ys

  more_plexes : (w : Word) → has_plex w xs ≡ true → has_plex w (xs ++ ys) ≡ true
  more_plexes w = any_more (λ o. is_plex (λ p. bytes_eq p.name w) o) xs ys

  reference_more : (o : Object) → reference_fault xs o ≡ None → reference_fault (xs ++ ys) o ≡ None
  reference_more (GroupRecord x) e = refl
  reference_more (DiskRecord x) e = refl
  reference_more (SubdiskRecord s) e =
      both_kept (unless (has_disk s.disk xs) (NoObject s.disk)) (missing s.plex (λ p. has_plex p xs)) (unless (has_disk s.disk (xs ++ ys)) (NoObject s.disk)) (missing s.plex (λ p. has_plex p (xs ++ ys)))
      (unless_kept (has_disk s.disk xs) (has_disk s.disk (xs ++ ys)) (NoObject s.disk) (any_more (λ o. is_disk (λ d. bytes_eq d.name s.disk) o) xs ys))
      (missing_more s.plex (λ p. has_plex p xs) (λ p. has_plex p (xs ++ ys)) more_plexes) e
  reference_more (PlexRecord p) e = missing_more p.vol (λ v. has_vol v xs) (λ v. has_vol v (xs ++ ys)) more_vols e
  reference_more (VolRecord v) e =
      both_kept (missing v.prefer (λ p. has_plex p xs)) (missing v.dco (λ d. has_dco_of d v.name xs)) (missing v.prefer (λ p. has_plex p (xs ++ ys))) (missing v.dco (λ d. has_dco_of d v.name (xs ++ ys)))
      (missing_more v.prefer (λ p. has_plex p xs) (λ p. has_plex p (xs ++ ys)) more_plexes)
      (missing_more v.dco (λ d. has_dco_of d v.name xs) (λ d. has_dco_of d v.name (xs ++ ys)) (λ w. any_more (λ o. is_dco (λ d. bytes_eq d.name w && bytes_eq d.vol v.name) o) xs ys)) e
  reference_more (DcoRecord d) e = unless_kept (has_vol_with d.vol d.name xs) (has_vol_with d.vol d.name (xs ++ ys)) (NoObject d.vol) (any_more (λ o. is_vol (λ v. bytes_eq v.name d.vol && refers v.dco d.name) o) xs ys) e
  reference_more (SnapRecord s) e =
      both_kept (unless (has_vol s.vol xs) (NoObject s.vol)) (unless (has_vol s.of xs) (NoObject s.of)) (unless (has_vol s.vol (xs ++ ys)) (NoObject s.vol)) (unless (has_vol s.of (xs ++ ys)) (NoObject s.of))
      (unless_kept (has_vol s.vol xs) (has_vol s.vol (xs ++ ys)) (NoObject s.vol) (more_vols s.vol)) (unless_kept (has_vol s.of xs) (has_vol s.of (xs ++ ys)) (NoObject s.of) (more_vols s.of)) e

  prefers_more : (vol : Word) (rdpol : PolicyKind) (prefer : Option Word) → prefer_fault_of xs vol rdpol prefer ≡ None → prefer_fault_of (xs ++ ys) vol rdpol prefer ≡ None
  prefers_more vol Prefer (Some plex) e = unless_kept (has_data_plex plex vol xs) (has_data_plex plex vol (xs ++ ys)) (NoObject plex) (any_more (λ o. is_plex (λ p. bytes_eq p.name plex && is_data_plex_of vol p) o) xs ys) e
  prefers_more vol Prefer None e = cc
  prefers_more vol Round (Some plex) e = cc
  prefers_more vol Round None e = refl
  prefers_more vol Select (Some plex) e = cc
  prefers_more vol Select None e = refl

  prefer_more : (o : Object) → prefer_fault xs o ≡ None → prefer_fault (xs ++ ys) o ≡ None
  prefer_more (VolRecord v) e = prefers_more v.name v.rdpol v.prefer e
  prefer_more o e = refl

-- ---- the rules

module _ (started : Bool) (g : Group) (n : NewVolume) (added : List Object) (c : IsCase started g n added) where
  abbrev group : List Object
  group = objects_of g.config

  abbrev all : List Object
  all = objects_of g.config ++ added

  has_own_vol : has_vol n.vol all ≡ true
  has_own_vol = in_any (λ o. is_vol (λ v. bytes_eq v.name n.vol) o) all (VolRecord (vol_of n c.made.dco)) (in_right group added (VolRecord (vol_of n c.made.dco)) (vol_there started g n added c)) (bytes_eq_self n.vol)

  has_own_plex : (p : Place) → IsIn (places c.made.plexes c.made.logs c.plan) p → has_plex p.plex all ≡ true
  has_own_plex p there = elim (place_plex started g n added c p there) [
    | inl a ↦ let r = plex_there started g n added c p.plex a in in_any (λ o. is_plex (λ q. bytes_eq q.name p.plex) o) all (PlexRecord (data_plex n r.0 p.plex)) (in_right group added (PlexRecord (data_plex n r.0 p.plex)) r.1) (bytes_eq_self p.plex)
    | inr b ↦ in_any (λ o. is_plex (λ q. bytes_eq q.name p.plex) o) all (log_plex n p.plex) (in_right group added (log_plex n p.plex) (log_there started g n added c p.plex b)) (bytes_eq_self p.plex)
  ]

  has_own_disk : (p : Place) → IsIn (places c.made.plexes c.made.logs c.plan) p → has_disk p.extent.disk all ≡ true
  has_own_disk p there =
      let r = on_disk started g n added c p there in
      any_more (λ o. is_disk (λ d. bytes_eq d.name p.extent.disk) o) group added
      (in_any (λ o. is_disk (λ d. bytes_eq d.name p.extent.disk) o) group (DiskRecord r.0) (disk_in g.config r.0 r.1) (subst (λ (w : Word). bytes_eq r.0.name w ≡ true) r.2 (bytes_eq_self r.0.name)))

  sub_refers : (name : Word) (p : Place) → IsIn (places c.made.plexes c.made.logs c.plan) p → reference_fault all (as_placed name p) ≡ None
  sub_refers name p there =
      both_none (unless (has_disk p.extent.disk all) (NoObject p.extent.disk)) (unless (has_plex p.plex all) (NoObject p.plex))
      (unless_true (has_disk p.extent.disk all) (NoObject p.extent.disk) (has_own_disk p there)) (unless_true (has_plex p.plex all) (NoObject p.plex) (has_own_plex p there))

  plex_refers : missing (Some n.vol) (λ v. has_vol v all) ≡ None
  plex_refers = unless_true (has_vol n.vol all) (NoObject n.vol) has_own_vol

  dco_refers : has_logs n ≡ true → has_vol_with n.vol c.made.dco all ≡ true
  dco_refers logs =
      in_any (λ o. is_vol (λ v. bytes_eq v.name n.vol && refers v.dco c.made.dco) o) all (VolRecord (vol_of n c.made.dco)) (in_right group added (VolRecord (vol_of n c.made.dco)) (vol_there started g n added c))
      (and_from (bytes_eq n.vol n.vol) (refers (if has_logs n then Some c.made.dco else None) c.made.dco) (bytes_eq_self n.vol) (ap (λ (b : Bool). refers (if b then Some c.made.dco else None) c.made.dco) logs ∙ bytes_eq_self c.made.dco))

  vol_refers : missing (if has_logs n then Some c.made.dco else None) (λ d. has_dco_of d n.vol all) ≡ None
  vol_refers = by (has_logs n) refl
    where
      by : (b : Bool) → has_logs n ≡ b → missing (if b then Some c.made.dco else None) (λ d. has_dco_of d n.vol all) ≡ None
      by false e = refl
      by true e =
          let o : Object = DcoRecord (record { name = c.made.dco; vol = n.vol; maps = 32 }) in
          unless_true (has_dco_of c.made.dco n.vol all) (NoObject c.made.dco)
          (in_any (λ o. is_dco (λ d. bytes_eq d.name c.made.dco && bytes_eq d.vol n.vol) o) all o (in_right group added o (dco_there started g n added c e)) (and_from (bytes_eq c.made.dco c.made.dco) (bytes_eq n.vol n.vol) (bytes_eq_self c.made.dco) (bytes_eq_self n.vol)))

  each_refers : (o : Object) → IsIn added o → reference_fault all o ≡ None
  each_refers =
      of_each (λ o. reference_fault all o ≡ None) n group c.plan added c.made vol_refers
      (λ logs. unless_true (has_vol_with n.vol c.made.dco all) (NoObject n.vol) (dco_refers logs))
      (λ k name lt there. plex_refers) (λ name there. plex_refers)
      (λ o there. let r = sub_place started g n added c o there in ap (λ (x : Object). reference_fault all x) r.3 ∙ sub_refers r.2 r.0 r.1)

  pub references_hold : fault_by rule.ReferencesAreThere (objects_of g.config ++ added) (objects_of g.config ++ added) ≡ None
  unfolding fault_over fault_in
  references_hold = rule_holds rule.ReferencesAreThere group added refl (λ o there. reference_more group added o (holds_in group (config_valid g.config) rule.ReferencesAreThere o there)) each_refers

  pub preferred_hold : fault_by rule.PreferredPlexIsThere (objects_of g.config ++ added) (objects_of g.config ++ added) ≡ None
  unfolding fault_over fault_in
  preferred_hold =
      rule_holds rule.PreferredPlexIsThere group added refl (λ o there. prefer_more group added o (holds_in group (config_valid g.config) rule.PreferredPlexIsThere o there))
      (of_each (λ o. prefer_fault all o ≡ None) n group c.plan added c.made refl (λ logs. refl) (λ k name lt there. refl) (λ name there. refl)
      (λ o there. let r = sub_place started g n added c o there in ap (λ (x : Object). prefer_fault all x) r.3))

  -- ---- nothing that they refer to is the group's

  not_had : (w : Word) → has_name w group ≡ false → had group (Some w) ≡ None
  not_had w new = ap (λ (f : Option Object). if is_had_as f then Some (InUse w) else None) (none_named w group new)

  dco_not_had : had group (if has_logs n then Some c.made.dco else None) ≡ None
  dco_not_had = by (has_logs n) refl
    where
      by : (b : Bool) → has_logs n ≡ b → had group (if b then Some c.made.dco else None) ≡ None
      by false e = refl
      by true e = not_had c.made.dco (c.passed.dco_free c.made.dco c.made.is_dco e)

  pub none_had : first_of (had_fault (objects_of g.config)) added ≡ None
  none_had =
      none_found (had_fault group) added
      (of_each (λ o. had_fault group o ≡ None) n group c.plan added c.made dco_not_had (λ logs. not_had n.vol c.passed.free) (λ k name lt there. not_had n.vol c.passed.free) (λ name there. not_had n.vol c.passed.free)
      (λ o there. let r = sub_place started g n added c o there in ap (λ (x : Object). had_fault group x) r.3 ∙ not_had r.0.plex (place_new started g n added c r.0 r.1)))
