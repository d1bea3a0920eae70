-- The records of a configuration in other states, kind by kind.
use Rattle.std.proofs.Common.{◌≡◌, ℕ, List, [], ◌∷◌, ◌++◌, map, refl, sym, ◌∙◌, ap, subst, inr}
use Rattle.std.specs.List.{filter_map}
use Rattle.std.proofs.lemmas.List.{map-append}
use Rattle.vx_base.specs.Named.{Word}
use Rattle.vx_config_parts.specs.declared.dco.Dco.{Dco}
use Rattle.vx_config_parts.specs.declared.disk.Disk.{Disk}
use Rattle.vx_config_parts.specs.declared.group.Group.{Group}
use Rattle.vx_config_parts.specs.declared.object.Object.{Object}
use Rattle.vx_config_parts.specs.declared.object.Object.TheVariants.{GroupRecord, DiskRecord, SubdiskRecord, PlexRecord, VolRecord, DcoRecord, SnapRecord}
use Rattle.vx_config_parts.specs.declared.plex.Plex.{Plex}
use Rattle.vx_config_parts.specs.declared.snap.Snap.{Snap}
use Rattle.vx_config_parts.specs.declared.state.PlexState.{PlexState}
use Rattle.vx_config_parts.specs.declared.state.VolState.{VolState}
use Rattle.vx_config_parts.specs.declared.subdisk.Subdisk.{Subdisk}
use Rattle.vx_config_parts.specs.declared.vol.Vol.{Vol}
use Rattle.vx_objects.specs.declared.config.Config.{Config}
use Rattle.vx_objects.specs.Config.{objects_of}
use Rattle.vx_objects.specs.Parts.{as_disk, as_subdisk, as_plex, as_vol, as_dco, as_snap, records_below, records_of, in_kinds}
use Rattle.vx_objects.proofs.InKinds.{disks_below, subdisks_below, plexes_below, volumes_below, dcos_below, snaps_below, are_sorted}
use Rattle.vx_state_edits.specs.Laws.{IsAmong}
use Rattle.vx_state_edits.proofs.Members.{among_left, among_right, among_map, plex_among, vol_among}
use Rattle.vx_state_edits.proofs.Restating.{plex_in, vol_in, restated}

module _ (f : Plex → PlexState) (g : Vol → VolState) where
  kind_changed : {A : Type 0} (make : A → Object) (change : A → A) → ((a : A) → restated f g (make a) ≡ make (change a)) → (xs : List A) → map (restated f g) (map make xs) ≡ map make (map change xs)
  kind_changed make change is [] = refl
  kind_changed make change is (x ∷ xs) = λ i. is x i ∷ kind_changed make change is xs i

  kind_stays : {A : Type 0} (make : A → Object) → ((a : A) → restated f g (make a) ≡ make a) → (xs : List A) → map (restated f g) (map make xs) ≡ map make xs
  kind_stays make is [] = refl
  kind_stays make is (x ∷ xs) = λ i. is x i ∷ kind_stays make is xs i

  below_restated : (disks : List Disk) (subdisks : List Subdisk) (plexes : List Plex) (volumes : List Vol) (dcos : List Dco) (snaps : List Snap)
      → map (restated f g) (records_below disks subdisks plexes volumes dcos snaps) ≡ records_below disks subdisks (map (plex_in f) plexes) (map (vol_in g) volumes) dcos snaps
  below_restated disks subdisks plexes volumes dcos snaps =
      let a = kind_stays DiskRecord (λ x. refl) disks in
      let b = kind_stays SubdiskRecord (λ x. refl) subdisks in
      let p = kind_changed PlexRecord (plex_in f) (λ x. refl) plexes in
      let v = kind_changed VolRecord (vol_in g) (λ x. refl) volumes in
      let d = kind_stays DcoRecord (λ x. refl) dcos in
      let s = kind_stays SnapRecord (λ x. refl) snaps in
      let h = restated f g in
      map-append h (map DiskRecord disks) (map SubdiskRecord subdisks ++ (map PlexRecord plexes ++ (map VolRecord volumes ++ (map DcoRecord dcos ++ map SnapRecord snaps))))
      ∙ ap (λ (l : List Object). map h (map DiskRecord disks) ++ l) (map-append h (map SubdiskRecord subdisks) (map PlexRecord plexes ++ (map VolRecord volumes ++ (map DcoRecord dcos ++ map SnapRecord snaps))))
      ∙ ap (λ (l : List Object). map h (map DiskRecord disks) ++ (map h (map SubdiskRecord subdisks) ++ l)) (map-append h (map PlexRecord plexes) (map VolRecord volumes ++ (map DcoRecord dcos ++ map SnapRecord snaps)))
      ∙ ap (λ (l : List Object). map h (map DiskRecord disks) ++ (map h (map SubdiskRecord subdisks) ++ (map h (map PlexRecord plexes) ++ l))) (map-append h (map VolRecord volumes) (map DcoRecord dcos ++ map SnapRecord snaps))
      ∙ ap (λ (l : List Object). map h (map DiskRecord disks) ++ (map h (map SubdiskRecord subdisks) ++ (map h (map PlexRecord plexes) ++ (map h (map VolRecord volumes) ++ l)))) (map-append h (map DcoRecord dcos) (map SnapRecord snaps))
      ∙ (λ i. a i ++ (b i ++ (p i ++ (v i ++ (d i ++ s i)))))

  module _ (c : Config) where
    abbrev pub now : List Object
    now = records_of c.group c.version c.disks c.subdisks (map (plex_in f) c.plexes) (map (vol_in g) c.volumes) c.dcos c.snaps

    pub records_restated : map (restated f g) (objects_of c) ≡ now
    records_restated = ap (λ (l : List Object). GroupRecord (record { name = c.group; version = c.version }) ∷ l) (below_restated c.disks c.subdisks c.plexes c.volumes c.dcos c.snaps)

    -- such records stand in the order of their kinds
    pub sorted_restated : in_kinds (map (restated f g) (objects_of c)) ≡ map (restated f g) (objects_of c)
    sorted_restated = ap in_kinds records_restated ∙ are_sorted c.disks c.subdisks (map (plex_in f) c.plexes) (map (vol_in g) c.volumes) c.dcos c.snaps c.group c.version ∙ sym records_restated

-- a configuration with the same records has the same of each kind
pub record HasKinds (c : Config) (name : Word) (number : ℕ) (ds : List Disk) (ss : List Subdisk) (ps : List Plex) (vs : List Vol) (os : List Dco) (rs : List Snap) : Type 0 where
  pub group : c.group ≡ name
  pub version : c.version ≡ number
  pub disks : c.disks ≡ ds
  pub subdisks : c.subdisks ≡ ss
  pub plexes : c.plexes ≡ ps
  pub volumes : c.volumes ≡ vs
  pub dcos : c.dcos ≡ os
  pub snaps : c.snaps ≡ rs

pub has_kinds : (c : Config) (name : Word) (number : ℕ) (ds : List Disk) (ss : List Subdisk) (ps : List Plex) (vs : List Vol) (os : List Dco) (rs : List Snap)
    → objects_of c ≡ records_of name number ds ss ps vs os rs → HasKinds c name number ds ss ps vs os rs
has_kinds c name number ds ss ps vs os rs e =
    let own : Group = record { name = c.group; version = c.version } in
    let other : Group = record { name = name; version = number } in
    let front : GroupRecord own ≡ GroupRecord other = cc in
    let whole : own ≡ other = cc in
    record {
      group = ap (λ (g : Group). g.name) whole;
      version = ap (λ (g : Group). g.version) whole;
      disks = sym (disks_below c.disks c.subdisks c.plexes c.volumes c.dcos c.snaps) ∙ ap (filter_map as_disk) e ∙ disks_below ds ss ps vs os rs;
      subdisks = sym (subdisks_below c.disks c.subdisks c.plexes c.volumes c.dcos c.snaps) ∙ ap (filter_map as_subdisk) e ∙ subdisks_below ds ss ps vs os rs;
      plexes = sym (plexes_below c.disks c.subdisks c.plexes c.volumes c.dcos c.snaps) ∙ ap (filter_map as_plex) e ∙ plexes_below ds ss ps vs os rs;
      volumes = sym (volumes_below c.disks c.subdisks c.plexes c.volumes c.dcos c.snaps) ∙ ap (filter_map as_vol) e ∙ volumes_below ds ss ps vs os rs;
      dcos = sym (dcos_below c.disks c.subdisks c.plexes c.volumes c.dcos c.snaps) ∙ ap (filter_map as_dco) e ∙ dcos_below ds ss ps vs os rs;
      snaps = sym (snaps_below c.disks c.subdisks c.plexes c.volumes c.dcos c.snaps) ∙ ap (filter_map as_snap) e ∙ snaps_below ds ss ps vs os rs;
    }

-- ---- what is among the records is in its list

module _ (c : Config) where
  pub plex_recorded : (p : Plex) → IsAmong (objects_of c) (PlexRecord p) → IsAmong c.plexes p
  plex_recorded p m = subst (λ (ps : List Plex). IsAmong ps p) (plexes_below c.disks c.subdisks c.plexes c.volumes c.dcos c.snaps) (plex_among (objects_of c) p m)

  pub vol_recorded : (v : Vol) → IsAmong (objects_of c) (VolRecord v) → IsAmong c.volumes v
  vol_recorded v m = subst (λ (vs : List Vol). IsAmong vs v) (volumes_below c.disks c.subdisks c.plexes c.volumes c.dcos c.snaps) (vol_among (objects_of c) v m)

  pub records_plex : (p : Plex) → IsAmong c.plexes p → IsAmong (objects_of c) (PlexRecord p)
  records_plex p m =
      let behind : List Object = map VolRecord c.volumes ++ (map DcoRecord c.dcos ++ map SnapRecord c.snaps) in
      inr (among_right (map DiskRecord c.disks) (map SubdiskRecord c.subdisks ++ (map PlexRecord c.plexes ++ behind)) (PlexRecord p)
      (among_right (map SubdiskRecord c.subdisks) (map PlexRecord c.plexes ++ behind) (PlexRecord p) (among_left (map PlexRecord c.plexes) behind (PlexRecord p) (among_map PlexRecord c.plexes p m))))

  pub records_vol : (v : Vol) → IsAmong c.volumes v → IsAmong (objects_of c) (VolRecord v)
  records_vol v m =
      let behind : List Object = map DcoRecord c.dcos ++ map SnapRecord c.snaps in
      inr (among_right (map DiskRecord c.disks) (map SubdiskRecord c.subdisks ++ (map PlexRecord c.plexes ++ (map VolRecord c.volumes ++ behind))) (VolRecord v)
      (among_right (map SubdiskRecord c.subdisks) (map PlexRecord c.plexes ++ (map VolRecord c.volumes ++ behind)) (VolRecord v)
      (among_right (map PlexRecord c.plexes) (map VolRecord c.volumes ++ behind) (VolRecord v) (among_left (map VolRecord c.volumes) behind (VolRecord v) (among_map VolRecord c.volumes v m)))))
