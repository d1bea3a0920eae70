-- Sums over records: they stay where the records are sorted into their kinds, and grow with those that pass a test.
use Rattle.std.proofs.Common.{◌≡◌, ℕ, ◌+◌, cond, Bool, Some, List, [], ◌∷◌, ◌++◌, map, refl, ap, ◌∙◌, inl, inr, arith}
use Rattle.std.specs.List.{count_by, filter_map, sum_by}
use Rattle.std.proofs.lemmas.List.Sums.{sum_by-append, sum_by-cons}
use Rattle.vx_config_parts.specs.declared.dco.Dco.{Dco}
use Rattle.vx_config_parts.specs.declared.disk.Disk.{Disk}
use Rattle.vx_config_parts.specs.declared.plex.Plex.{Plex}
use Rattle.vx_config_parts.specs.declared.snap.Snap.{Snap}
use Rattle.vx_config_parts.specs.declared.subdisk.Subdisk.{Subdisk}
use Rattle.vx_config_parts.specs.declared.vol.Vol.{Vol}
use Rattle.vx_config_parts.specs.declared.object.Object.{Object}
use Rattle.vx_config_parts.specs.declared.object.Object.TheVariants.{GroupRecord, DiskRecord, SubdiskRecord, PlexRecord, VolRecord, DcoRecord, SnapRecord}
use Rattle.vx_rules.proofs.ListTests.{count_more}
use Rattle.vx_objects.specs.declared.config.Config.{Config}
use Rattle.vx_objects.specs.declared.edit.Edit.TheVariants.{Make}
use Rattle.vx_objects.specs.Applied.{IsEdited}
use Rattle.vx_objects.specs.Config.{objects_of}
use Rattle.vx_objects.specs.Edits.{added, change, edited}
use Rattle.vx_objects.specs.Parts.{as_group, as_disk, as_subdisk, as_plex, as_vol, as_dco, as_snap, in_kinds, records_below, sorted_below}
use Rattle.vx_image.proofs.PlexMembers.{IsIn}

module _ (f : Object → ℕ) where
  -- ---- by kinds

  sum_below : (disks : List Disk) (subdisks : List Subdisk) (plexes : List Plex) (volumes : List Vol) (dcos : List Dco) (snaps : List Snap)
      → sum_by f (records_below disks subdisks plexes volumes dcos snaps) ≡ sum_by f (map DiskRecord disks) + (sum_by f (map SubdiskRecord subdisks) + (sum_by f (map PlexRecord plexes) + (sum_by f (map VolRecord volumes) + (sum_by f (map DcoRecord dcos) + sum_by f (map SnapRecord snaps)))))
  sum_below disks subdisks plexes volumes dcos snaps =
      let a = sum_by-append f (map DiskRecord disks) (map SubdiskRecord subdisks ++ (map PlexRecord plexes ++ (map VolRecord volumes ++ (map DcoRecord dcos ++ map SnapRecord snaps)))) in
      let b = sum_by-append f (map SubdiskRecord subdisks) (map PlexRecord plexes ++ (map VolRecord volumes ++ (map DcoRecord dcos ++ map SnapRecord snaps))) in
      let c = sum_by-append f (map PlexRecord plexes) (map VolRecord volumes ++ (map DcoRecord dcos ++ map SnapRecord snaps)) in
      let d = sum_by-append f (map VolRecord volumes) (map DcoRecord dcos ++ map SnapRecord snaps) in
      let e = sum_by-append f (map DcoRecord dcos) (map SnapRecord snaps) in
      omega (arith, a, b, c, d, e)

  pub sum_objects : (c : Config)
      → sum_by f (objects_of c) ≡ f (GroupRecord (record { name = c.group; version = c.version })) + (sum_by f (map DiskRecord c.disks) + (sum_by f (map SubdiskRecord c.subdisks) + (sum_by f (map PlexRecord c.plexes) + (sum_by f (map VolRecord c.volumes) + (sum_by f (map DcoRecord c.dcos) + sum_by f (map SnapRecord c.snaps))))))
  sum_objects c =
      sum_by-cons f (GroupRecord (record { name = c.group; version = c.version })) (records_below c.disks c.subdisks c.plexes c.volumes c.dcos c.snaps)
      ∙ ap (λ (k : ℕ). f (GroupRecord (record { name = c.group; version = c.version })) + k) (sum_below c.disks c.subdisks c.plexes c.volumes c.dcos c.snaps)

  abbrev parts : List Object → ℕ
  parts os =
      sum_by f (map GroupRecord (filter_map as_group os))
      + (sum_by f (map DiskRecord (filter_map as_disk os))
      + (sum_by f (map SubdiskRecord (filter_map as_subdisk os))
      + (sum_by f (map PlexRecord (filter_map as_plex os))
      + (sum_by f (map VolRecord (filter_map as_vol os)) + (sum_by f (map DcoRecord (filter_map as_dco os)) + sum_by f (map SnapRecord (filter_map as_snap os)))))))

  split : (os : List Object) → sum_by f (in_kinds os) ≡ parts os
  split os =
      sum_by-append f (map GroupRecord (filter_map as_group os)) (sorted_below os)
      ∙ ap (λ (k : ℕ). sum_by f (map GroupRecord (filter_map as_group os)) + k)
      (sum_below (filter_map as_disk os) (filter_map as_subdisk os) (filter_map as_plex os) (filter_map as_vol os) (filter_map as_dco os) (filter_map as_snap os))

  -- one more record is one of its kind
  one_more : (o : Object) (os : List Object) → parts (o ∷ os) ≡ f o + parts os
  one_more (GroupRecord x) os = let here = sum_by-cons f (GroupRecord x) (map GroupRecord (filter_map as_group os)) in omega (arith, here)
  one_more (DiskRecord x) os = let here = sum_by-cons f (DiskRecord x) (map DiskRecord (filter_map as_disk os)) in omega (arith, here)
  one_more (SubdiskRecord x) os = let here = sum_by-cons f (SubdiskRecord x) (map SubdiskRecord (filter_map as_subdisk os)) in omega (arith, here)
  one_more (PlexRecord x) os = let here = sum_by-cons f (PlexRecord x) (map PlexRecord (filter_map as_plex os)) in omega (arith, here)
  one_more (VolRecord x) os = let here = sum_by-cons f (VolRecord x) (map VolRecord (filter_map as_vol os)) in omega (arith, here)
  one_more (DcoRecord x) os = let here = sum_by-cons f (DcoRecord x) (map DcoRecord (filter_map as_dco os)) in omega (arith, here)
  one_more (SnapRecord x) os = let here = sum_by-cons f (SnapRecord x) (map SnapRecord (filter_map as_snap os)) in omega (arith, here)

  all_parts : (os : List Object) → parts os ≡ sum_by f os
  all_parts [] = refl
  all_parts (o ∷ os) = let more = all_parts os in let here = one_more o os in let all = sum_by-cons f o os in omega (arith, more, here, all)

  -- ---- of a configuration that records are added to

  stay : (os : List Object) → filter_map (λ o. Some o) os ≡ os
  stay [] = refl
  stay (o ∷ os) = ap (λ (rest : List Object). o ∷ rest) (stay os)

  pub sum_made : (c c' : Config) (more : List Object) → IsEdited (Make more ∷ []) c c' → sum_by f (objects_of c') ≡ sum_by f (objects_of c) + sum_by f more
  unfolding change added
  sum_made c c' more edits =
      ap (sum_by f) edits ∙ split (edited (Make more) (objects_of c)) ∙ all_parts (edited (Make more) (objects_of c))
      ∙ ap (λ os. sum_by f (os ++ more)) (stay (objects_of c)) ∙ sum_by-append f (objects_of c) more

  -- ---- beside another sum

  -- it is above another by one for each that passes, where it is so of each
  pub sum_grown : (h : Object → ℕ) (test : Object → Bool) (os : List Object) → ((o : Object) → IsIn os o → f o ≡ h o + cond (test o) 1 0) → sum_by f os ≡ sum_by h os + count_by test os
  sum_grown h test [] each = refl
  sum_grown h test (o ∷ os) each =
      let here = each o (inl refl) in
      let rest = sum_grown h test os (λ p there. each p (inr there)) in
      let a = sum_by-cons f o os in
      let b = sum_by-cons h o os in
      let c = count_more test o os in
      omega (arith, here, rest, a, b, c)

  pub sum_same : (h : Object → ℕ) (os : List Object) → ((o : Object) → IsIn os o → f o ≡ h o) → sum_by f os ≡ sum_by h os
  sum_same h [] each = refl
  sum_same h (o ∷ os) each =
      sum_by-cons f o os ∙ (λ i. each o (inl refl) i + sum_same h os (λ p there. each p (inr there)) i) ∙ h_cons
    where
      h_cons : h o + sum_by h os ≡ sum_by h (o ∷ os)
      h_cons = let b = sum_by-cons h o os in omega (arith, b)
