-- The records of a new volume beside those of its group: what is among them, and what of the group they do not touch.
use Rattle.std.proofs.Common.{◌≡◌, ◌⊎◌, ℕ, ◌+◌, ◌<◌, min, Bool, true, false, Option, Some, List, [], ◌∷◌, ◌++◌, length, map, refl, sym, ap, ◌∙◌, subst, inl, inr, if◌then◌else◌}
use Rattle.std.specs.List.{list_any}
use Rattle.std.proofs.lemmas.Bool.{false≢true, false_from_ne_true}
use Rattle.vx_base.specs.Named.{Word}
use Rattle.vx_base.proofs.NamedLemmas.{bytes_eq_same}
use Rattle.vx_config_parts.specs.declared.disk.Disk.{Disk}
use Rattle.vx_config_parts.specs.declared.group.Group.{Group as GroupFields}
use Rattle.vx_config_parts.specs.declared.plex.Plex.{Plex}
use Rattle.vx_config_parts.specs.declared.snap.Snap.{Snap}
use Rattle.vx_config_parts.specs.declared.subdisk.Subdisk.{Subdisk}
use Rattle.vx_config_parts.specs.declared.object.Object.{Object}
use Rattle.vx_config_parts.specs.declared.object.Object.TheVariants.{PlexRecord, VolRecord, DcoRecord}
use Rattle.vx_config_parts.specs.Objects.{is_disk, is_group, is_plex, is_snap, is_subdisk, refers}
use Rattle.vx_rules.specs.References.{has_name}
use Rattle.vx_objects.specs.Config.{objects_of}
use Rattle.vx_image.proofs.PlexMembers.{IsIn, in_either, in_left, in_map, in_right}
use Rattle.vx_space.specs.declared.extent.Extent.{Extent}
use Rattle.vx_new_volumes.specs.Records.{data_plex, data_plexes, dco_of, has_logs, log_plex, names_known, vol_of}
use Rattle.vx_new_volumes.specs.declared.volume.NewVolume.{NewVolume}
use Rattle.vx_moments.specs.World.{Group}
use Rattle.vx_new_volume_laws.proofs.Parts.{of_each}
use Rattle.vx_new_volume_laws.proofs.Places.{Place, column_places, columns_places, logs_places, places, plexes_places}
use Rattle.vx_new_volume_laws.proofs.Placed.{as_placed}
use Rattle.vx_new_volume_laws.proofs.Repeats.{no_name, not_known}
use Rattle.vx_new_volume_laws.proofs.Names.{logs_found, plexes_found}
use Rattle.vx_new_volume_laws.proofs.Lists.{none_any}
use Rattle.vx_new_volume_laws.proofs.Lying.{IsCase, placed, placed_in}

-- ---- the plex or log of a place

pub column_plex : (plex : Word) (col at : ℕ) (es : List Extent) (p : Place) → IsIn (column_places plex col at es) p → p.plex ≡ plex
column_plex plex col at [] p there = absurd there
column_plex plex col at (e ∷ es) p (inl same) = ap (λ (q : Place). q.plex) same
column_plex plex col at (e ∷ es) p (inr there) = column_plex plex col (min (at + e.count) 18446744073709551615) es p there

pub columns_plex : (plex : Word) (col : ℕ) (cs : List (List Extent)) (p : Place) → IsIn (columns_places plex col cs) p → p.plex ≡ plex
columns_plex plex col [] p there = absurd there
columns_plex plex col (c ∷ cs) p there = elim (in_either (column_places plex col 0 c) (columns_places plex (min (col + 1) 4294967295) cs) p there) [
  | inl here ↦ column_plex plex col 0 c p here
  | inr more ↦ columns_plex plex (min (col + 1) 4294967295) cs p more
]

pub plexes_plex : (names : List Word) (ps : List (List (List Extent))) (p : Place) → IsIn (plexes_places names ps) p → IsIn names p.plex
plexes_plex [] ps p there = absurd there
plexes_plex (name ∷ names) [] p there = absurd there
plexes_plex (name ∷ names) (q ∷ qs) p there = elim (in_either (columns_places name 0 q) (plexes_places names qs) p there) [
  | inl here ↦ inl (columns_plex name 0 q p here)
  | inr more ↦ inr (plexes_plex names qs p more)
]

pub logs_plex : (names : List Word) (ls : List (List Extent)) (p : Place) → IsIn (logs_places names ls) p → IsIn names p.plex
logs_plex [] ls p there = absurd there
logs_plex (name ∷ names) [] p there = absurd there
logs_plex (name ∷ names) (l ∷ ls) p there = elim (in_either (column_places name 0 0 l) (logs_places names ls) p there) [
  | inl here ↦ inl (column_plex name 0 0 l p here)
  | inr more ↦ inr (logs_plex names ls p more)
]

data_there : (n : NewVolume) (m : ℕ) (names : List Word) (name : Word) → IsIn names name → (k : ℕ) × IsIn (data_plexes n m names) (PlexRecord (data_plex n k name))
data_there n m [] name there = absurd there
data_there n m (w ∷ names) name (inl same) = (m, inl (ap (λ (v : Word). PlexRecord (data_plex n m v)) same))
data_there n m (w ∷ names) name (inr there) = let r = data_there n (min (m + 1) 255) names name there in (r.0, inr r.1)

module _ (started : Bool) (g : Group) (n : NewVolume) (added : List Object) (c : IsCase started g n added) where
  abbrev group : List Object
  group = objects_of g.config

  -- ---- what is among them

  pub vol_there : IsIn added (VolRecord (vol_of n c.made.dco))
  vol_there = subst (λ (os : List Object). IsIn os (VolRecord (vol_of n c.made.dco))) (sym c.made.are) (inl refl)

  others_there : (o : Object) → IsIn (dco_of n c.made.dco ++ data_plexes n 0 c.made.plexes ++ map (log_plex n) c.made.logs ++ c.made.laid.objects) o → IsIn added o
  others_there o there = subst (λ (os : List Object). IsIn os o) (sym c.made.are) (inr there)

  plain_there : (o : Object) → IsIn (dco_of n c.made.dco ++ data_plexes n 0 c.made.plexes ++ map (log_plex n) c.made.logs) o → IsIn added o
  plain_there o there = others_there o (in_left (dco_of n c.made.dco ++ data_plexes n 0 c.made.plexes ++ map (log_plex n) c.made.logs) c.made.laid.objects o there)

  own_there : (o : Object) → IsIn (dco_of n c.made.dco ++ data_plexes n 0 c.made.plexes) o → IsIn added o
  own_there o there = plain_there o (in_left (dco_of n c.made.dco ++ data_plexes n 0 c.made.plexes) (map (log_plex n) c.made.logs) o there)

  pub dco_there : has_logs n ≡ true → IsIn added (DcoRecord (record { name = c.made.dco; vol = n.vol; maps = 32 }))
  dco_there logs =
      let o : Object = DcoRecord (record { name = c.made.dco; vol = n.vol; maps = 32 }) in
      own_there o (in_left (dco_of n c.made.dco) (data_plexes n 0 c.made.plexes) o (subst (λ (b : Bool). IsIn (if b then o ∷ [] else []) o) (sym logs) (inl refl)))

  pub plex_there : (name : Word) → IsIn c.made.plexes name → (k : ℕ) × IsIn added (PlexRecord (data_plex n k name))
  plex_there name there =
      let r = data_there n 0 c.made.plexes name there in
      (r.0, own_there (PlexRecord (data_plex n r.0 name)) (in_right (dco_of n c.made.dco) (data_plexes n 0 c.made.plexes) (PlexRecord (data_plex n r.0 name)) r.1))

  pub log_there : (name : Word) → IsIn c.made.logs name → IsIn added (log_plex n name)
  log_there name there =
      plain_there (log_plex n name) (in_right (dco_of n c.made.dco ++ data_plexes n 0 c.made.plexes) (map (log_plex n) c.made.logs) (log_plex n name) (in_map (log_plex n) c.made.logs name there))

  -- a subdisk lies at a place
  pub sub_place : (o : Object) → IsIn c.made.laid.objects o → (p : Place) × IsIn (places c.made.plexes c.made.logs c.plan) p × (name : Word) × (o ≡ as_placed name p)
  sub_place o there = placed_in (places c.made.plexes c.made.logs c.plan) c.made.laid.objects o (placed started g n added c) there

  pub place_plex : (p : Place) → IsIn (places c.made.plexes c.made.logs c.plan) p → IsIn c.made.plexes p.plex ⊎ IsIn c.made.logs p.plex
  place_plex p there = elim (in_either (plexes_places c.made.plexes c.plan.plexes) (logs_places c.made.logs c.plan.logs) p there) [
    | inl here ↦ inl (plexes_plex c.made.plexes c.plan.plexes p here)
    | inr more ↦ inr (logs_plex c.made.logs c.plan.logs p more)
  ]

  -- ---- names that are not the group's

  pub plex_new : (v : Word) → IsIn c.made.plexes v → has_name v (objects_of g.config) ≡ false
  plex_new v there = no_name group v (λ had. not_known (names_known group n c.made.dco) v ((plexes_found group n c.plan added c.made).each v there).new (inr (inr had)))

  pub log_new : (v : Word) → IsIn c.made.logs v → has_name v (objects_of g.config) ≡ false
  log_new v there = no_name group v (λ had. not_known (names_known group n c.made.dco) v ((logs_found group n c.plan added c.made).each v there).new (inr (inr had)))

  pub place_new : (p : Place) → IsIn (places c.made.plexes c.made.logs c.plan) p → has_name p.plex (objects_of g.config) ≡ false
  place_new p there = elim (place_plex p there) [ inl a ↦ plex_new p.plex a | inr b ↦ log_new p.plex b ]

  -- ---- tests that none of them passes

  -- each of them is the volume, its DCO, a plex of it or a subdisk of such a plex
  module _ (test : Object → Bool) (vol : test (VolRecord (vol_of n c.made.dco)) ≡ false) (dco : test (DcoRecord (record { name = c.made.dco; vol = n.vol; maps = 32 })) ≡ false)
      (plex : (k : ℕ) (name : Word) → k < length c.made.plexes → IsIn c.made.plexes name → test (PlexRecord (data_plex n k name)) ≡ false) (log : (name : Word) → IsIn c.made.logs name → test (log_plex n name) ≡ false)
      (sub : (p : Place) (name : Word) → IsIn (places c.made.plexes c.made.logs c.plan) p → test (as_placed name p) ≡ false) where
    pub none_passes : list_any test added ≡ false
    none_passes = none_any test added (of_each (λ o. test o ≡ false) n group c.plan added c.made vol (λ logs. dco) plex log (λ o there. let r = sub_place o there in ap test r.3 ∙ sub r.0 r.2 r.1))

  pub no_group : (test : GroupFields → Bool) → list_any (λ o. is_group test o) added ≡ false
  no_group test = none_passes (λ o. is_group test o) refl refl (λ k name lt there. refl) (λ name there. refl) (λ p name there. refl)

  pub no_disk : (test : Disk → Bool) → list_any (λ o. is_disk test o) added ≡ false
  no_disk test = none_passes (λ o. is_disk test o) refl refl (λ k name lt there. refl) (λ name there. refl) (λ p name there. refl)

  pub no_snap : (test : Snap → Bool) → list_any (λ o. is_snap test o) added ≡ false
  no_snap test = none_passes (λ o. is_snap test o) refl refl (λ k name lt there. refl) (λ name there. refl) (λ p name there. refl)

  -- none is a plex of another volume, ..
  pub no_plex_of : (vol : Word) → has_name vol (objects_of g.config) ≡ true → (test : Plex → Bool) → ((p : Plex) → test p ≡ true → refers p.vol vol ≡ true) → list_any (λ o. is_plex test o) added ≡ false
  no_plex_of vol had test asks =
      let other : (p : Plex) → p.vol ≡ Some n.vol → test p ≡ false =
      λ p own. false_from_ne_true (test p) (λ h. false≢true (sym c.passed.free ∙ subst (λ (w : Word). has_name w group ≡ true) (sym (bytes_eq_same n.vol vol (subst (λ (o : Option Word). refers o vol ≡ true) own (asks p h)))) had)) in
      none_passes (λ o. is_plex test o) refl refl (λ k name lt there. other (data_plex n k name) refl) (λ name there. by_log name other) (λ p name there. refl)
    where
      by_log : (name : Word) → ((p : Plex) → p.vol ≡ Some n.vol → test p ≡ false) → is_plex test (log_plex n name) ≡ false
      by_log name other = other _ refl

  -- .. nor a subdisk of a plex of the group
  pub no_piece_of : (plex : Word) → has_name plex (objects_of g.config) ≡ true → (test : Subdisk → Bool) → ((s : Subdisk) → test s ≡ true → refers s.plex plex ≡ true) → list_any (λ o. is_subdisk test o) added ≡ false
  no_piece_of plex had test asks = none_passes (λ o. is_subdisk test o) refl refl (λ k name lt there. refl) (λ name there. refl) (λ p name there. other p name there)
    where
      piece : Word → Place → Subdisk
      piece name p = record { name = name; disk = p.extent.disk; off = p.extent.start; len = p.extent.count; plex = Some p.plex; col = p.col; at = p.at }

      other : (p : Place) (name : Word) → IsIn (places c.made.plexes c.made.logs c.plan) p → test (piece name p) ≡ false
      other p name there = false_from_ne_true (test (piece name p)) (λ h. false≢true (sym (place_new p there) ∙ subst (λ (w : Word). has_name w group ≡ true) (sym (bytes_eq_same p.plex plex (asks (piece name p) h))) had))
