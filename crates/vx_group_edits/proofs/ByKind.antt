-- The records of each kind after edits that change records, drop some, and add others behind them.
use Rattle.std.proofs.Common.{◌≡◌, true, Option, Some, None, List, [], ◌∷◌, ◌++◌, map, refl, sym, ◌∙◌, ap, subst, inr}
use Rattle.std.specs.List.{filter, filter_map}
use Rattle.std.proofs.lemmas.List.Elements.{filter_map-append}
use Rattle.vx_config_parts.specs.declared.dco.Dco.{Dco}
use Rattle.vx_config_parts.specs.declared.group.Group.{Group}
use Rattle.vx_config_parts.specs.declared.object.Object.{Object}
use Rattle.vx_config_parts.specs.declared.object.Object.TheVariants.{GroupRecord, DiskRecord, SubdiskRecord, PlexRecord, VolRecord, DcoRecord}
use Rattle.vx_config_parts.specs.declared.plex.Plex.{Plex}
use Rattle.vx_config_parts.specs.declared.snap.Snap.{Snap}
use Rattle.vx_config_parts.specs.declared.vol.Vol.{Vol}
use Rattle.vx_config_parts.specs.Objects.{refers}
use Rattle.vx_objects.specs.declared.config.Config.{Config}
use Rattle.vx_objects.specs.Config.{objects_of}
use Rattle.vx_objects.specs.Parts.{as_group, as_disk, as_subdisk, as_plex, as_vol, as_dco, as_snap, in_kinds, sorted_below}
use Rattle.vx_objects.proofs.InKinds.{disks_below, subdisks_below, plexes_below, volumes_below, dcos_below, snaps_below}
use Rattle.vx_image.proofs.PlexMembers.{IsIn, in_left, in_map, in_one, in_right, one_in}
use Rattle.vx_image.specs.UsedPlexes.{IsVolOf}
use Rattle.vx_group_edits.proofs.Lists.{filter_all, in_filter_map, picked, same_seen, same_with, seen}
use Rattle.vx_group_edits.proofs.Untouched.{Untouched, plexes_of}

behind_groups : {A : Type 0} (pick : Object → Option A) → ((g : Group) → pick (GroupRecord g) ≡ None) → (gs : List Group) (os : List Object) → filter_map pick (map GroupRecord gs ++ os) ≡ filter_map pick os
behind_groups pick never [] os = refl
behind_groups pick never (g ∷ gs) os = rw (never g) (behind_groups pick never gs os)

-- a volume among the volumes is among the records
pub records_vol : (c : Config) (v : Vol) → IsIn c.volumes v → IsIn (objects_of c) (VolRecord v)
records_vol c v there =
    inr (in_right (map DiskRecord c.disks) _ (VolRecord v) (in_right (map SubdiskRecord c.subdisks) _ (VolRecord v) (in_right (map PlexRecord c.plexes) _ (VolRecord v)
    (in_left (map VolRecord c.volumes) _ (VolRecord v) (in_map VolRecord c.volumes v there)))))

-- ---- a configuration with these records, sorted into their kinds

module _ (c : Config) (all : List Object) (is : objects_of c ≡ in_kinds all) where
  pub disks_are : c.disks ≡ filter_map as_disk all
  disks_are =
      sym (disks_below c.disks c.subdisks c.plexes c.volumes c.dcos c.snaps) ∙ ap (λ os. filter_map as_disk os) is ∙ behind_groups as_disk (λ g. refl) (filter_map as_group all) (sorted_below all)
      ∙ disks_below (filter_map as_disk all) (filter_map as_subdisk all) (filter_map as_plex all) (filter_map as_vol all) (filter_map as_dco all) (filter_map as_snap all)

  pub subdisks_are : c.subdisks ≡ filter_map as_subdisk all
  subdisks_are =
      sym (subdisks_below c.disks c.subdisks c.plexes c.volumes c.dcos c.snaps) ∙ ap (λ os. filter_map as_subdisk os) is ∙ behind_groups as_subdisk (λ g. refl) (filter_map as_group all) (sorted_below all)
      ∙ subdisks_below (filter_map as_disk all) (filter_map as_subdisk all) (filter_map as_plex all) (filter_map as_vol all) (filter_map as_dco all) (filter_map as_snap all)

  pub plexes_are : c.plexes ≡ filter_map as_plex all
  plexes_are =
      sym (plexes_below c.disks c.subdisks c.plexes c.volumes c.dcos c.snaps) ∙ ap (λ os. filter_map as_plex os) is ∙ behind_groups as_plex (λ g. refl) (filter_map as_group all) (sorted_below all)
      ∙ plexes_below (filter_map as_disk all) (filter_map as_subdisk all) (filter_map as_plex all) (filter_map as_vol all) (filter_map as_dco all) (filter_map as_snap all)

  pub volumes_are : c.volumes ≡ filter_map as_vol all
  volumes_are =
      sym (volumes_below c.disks c.subdisks c.plexes c.volumes c.dcos c.snaps) ∙ ap (λ os. filter_map as_vol os) is ∙ behind_groups as_vol (λ g. refl) (filter_map as_group all) (sorted_below all)
      ∙ volumes_below (filter_map as_disk all) (filter_map as_subdisk all) (filter_map as_plex all) (filter_map as_vol all) (filter_map as_dco all) (filter_map as_snap all)

  pub dcos_are : c.dcos ≡ filter_map as_dco all
  dcos_are =
      sym (dcos_below c.disks c.subdisks c.plexes c.volumes c.dcos c.snaps) ∙ ap (λ os. filter_map as_dco os) is ∙ behind_groups as_dco (λ g. refl) (filter_map as_group all) (sorted_below all)
      ∙ dcos_below (filter_map as_disk all) (filter_map as_subdisk all) (filter_map as_plex all) (filter_map as_vol all) (filter_map as_dco all) (filter_map as_snap all)

  pub snaps_are : c.snaps ≡ filter_map as_snap all
  snaps_are =
      sym (snaps_below c.disks c.subdisks c.plexes c.volumes c.dcos c.snaps) ∙ ap (λ os. filter_map as_snap os) is ∙ behind_groups as_snap (λ g. refl) (filter_map as_group all) (sorted_below all)
      ∙ snaps_below (filter_map as_disk all) (filter_map as_subdisk all) (filter_map as_plex all) (filter_map as_vol all) (filter_map as_dco all) (filter_map as_snap all)

  -- a volume that is among them is recorded
  pub vol_is : (v : Vol) → IsIn all (VolRecord v) → IsVolOf c v
  vol_is v there = in_one (objects_of c) (VolRecord v) (records_vol c v (subst (λ vs. IsIn vs v) (sym volumes_are) (in_filter_map as_vol all (VolRecord v) v there refl)))

-- the records of a configuration are sorted already, kind by kind
module _ (c : Config) where
  pub disks_own : filter_map as_disk (objects_of c) ≡ c.disks
  disks_own = disks_below c.disks c.subdisks c.plexes c.volumes c.dcos c.snaps

  pub subdisks_own : filter_map as_subdisk (objects_of c) ≡ c.subdisks
  subdisks_own = subdisks_below c.disks c.subdisks c.plexes c.volumes c.dcos c.snaps

  pub plexes_own : filter_map as_plex (objects_of c) ≡ c.plexes
  plexes_own = plexes_below c.disks c.subdisks c.plexes c.volumes c.dcos c.snaps

  pub volumes_own : filter_map as_vol (objects_of c) ≡ c.volumes
  volumes_own = volumes_below c.disks c.subdisks c.plexes c.volumes c.dcos c.snaps

  pub dcos_own : filter_map as_dco (objects_of c) ≡ c.dcos
  dcos_own = dcos_below c.disks c.subdisks c.plexes c.volumes c.dcos c.snaps

  pub snaps_own : filter_map as_snap (objects_of c) ≡ c.snaps
  snaps_own = snaps_below c.disks c.subdisks c.plexes c.volumes c.dcos c.snaps

-- ---- edits

-- Of the records each becomes another one or none, and more stand behind them. Of the plexes of the volume, of their subdisks, of the
-- disks and of the relations each stays, and none but disks is added.
pub record Leaves (c : Config) (v : Vol) (h : Object → Option Object) (more : List Object) : Type 0 where
  pub now : Vol
  pub vol : h (VolRecord v) ≡ Some (VolRecord now)
  pub name : now.name ≡ v.name
  pub state : now.state ≡ v.state
  pub length_is : now.len ≡ v.len
  pub region_is : now.region ≡ v.region
  pub dco : now.dco ≡ v.dco
  pub plexes : (o : Object) → IsIn (objects_of c) o → seen (λ p. refers p.vol v.name) as_plex (h o) ≡ picked (λ p. refers p.vol v.name) as_plex (as_plex o)
  pub subdisks : (p : Plex) → IsIn (plexes_of c v.name) p → (o : Object) → IsIn (objects_of c) o →
      seen (λ s. refers s.plex p.name) as_subdisk (h o) ≡ picked (λ s. refers s.plex p.name) as_subdisk (as_subdisk o)
  pub disks : (o : Object) → IsIn (objects_of c) o → seen (λ d. true) as_disk (h o) ≡ picked (λ d. true) as_disk (as_disk o)
  pub snaps : (o : Object) → IsIn (objects_of c) o → seen (λ s. true) as_snap (h o) ≡ picked (λ s. true) as_snap (as_snap o)
  pub no_plex : filter (λ p. refers p.vol v.name) (filter_map as_plex more) ≡ []
  pub no_subdisk : (p : Plex) → IsIn (plexes_of c v.name) p → filter (λ s. refers s.plex p.name) (filter_map as_subdisk more) ≡ []
  pub no_snap : filter (λ (s : Snap). true) (filter_map as_snap more) ≡ []

module _ (c : Config) (v : Vol) (of : IsVolOf c v) (c' : Config) (h : Object → Option Object) (more : List Object) (is : objects_of c' ≡ in_kinds (filter_map h (objects_of c) ++ more)) (leaves : Leaves c v h more) where
  abbrev all : List Object
  all = filter_map h (objects_of c) ++ more

  pub untouched : Untouched c v c'
  untouched = record {
    now = leaves.now;
    recorded = vol_is c' all is leaves.now (in_left (filter_map h (objects_of c)) more (VolRecord leaves.now) (in_filter_map h (objects_of c) (VolRecord v) (VolRecord leaves.now) (one_in (objects_of c) (VolRecord v) of) leaves.vol));
    name = leaves.name;
    state = leaves.state;
    length_is = leaves.length_is;
    region_is = leaves.region_is;
    dco = leaves.dco;
    plexes =
        ap (λ ps. filter (λ p. refers p.vol v.name) ps) (plexes_are c' all is)
        ∙ same_with (λ p. refers p.vol v.name) as_plex h (objects_of c) more leaves.plexes leaves.no_plex
        ∙ ap (λ ps. filter (λ p. refers p.vol v.name) ps) (plexes_own c);
    subdisks = λ p there.
        ap (λ ss. filter (λ s. refers s.plex p.name) ss) (subdisks_are c' all is)
        ∙ same_with (λ s. refers s.plex p.name) as_subdisk h (objects_of c) more (leaves.subdisks p there) (leaves.no_subdisk p there)
        ∙ ap (λ ss. filter (λ s. refers s.plex p.name) ss) (subdisks_own c);
    more = filter_map as_disk more;
    disks =
        disks_are c' all is
        ∙ filter_map-append as_disk (filter_map h (objects_of c)) more
        ∙ ap (λ ds. ds ++ filter_map as_disk more)
        (sym (filter_all (filter_map as_disk (filter_map h (objects_of c)))) ∙ same_seen (λ d. true) as_disk h (objects_of c) leaves.disks ∙ filter_all (filter_map as_disk (objects_of c)) ∙ disks_own c);
    snaps =
        snaps_are c' all is
        ∙ sym (filter_all (filter_map as_snap all))
        ∙ same_with (λ s. true) as_snap h (objects_of c) more leaves.snaps leaves.no_snap
        ∙ filter_all (filter_map as_snap (objects_of c))
        ∙ snaps_own c;
  }

-- a plex among the records is one of the plexes, and a volume one of the volumes
pub plex_recorded : (c : Config) (p : Plex) → IsIn (objects_of c) (PlexRecord p) → IsIn c.plexes p
plex_recorded c p there = subst (λ ps. IsIn ps p) (plexes_own c) (in_filter_map as_plex (objects_of c) (PlexRecord p) p there refl)

pub vol_recorded : (c : Config) (v : Vol) → IsVolOf c v → IsIn c.volumes v
vol_recorded c v of = subst (λ vs. IsIn vs v) (volumes_own c) (in_filter_map as_vol (objects_of c) (VolRecord v) v (one_in (objects_of c) (VolRecord v) of) refl)

-- a DCO among the DCOs is among the records
pub dco_in : (c : Config) (d : Dco) → IsIn c.dcos d → IsIn (objects_of c) (DcoRecord d)
dco_in c d there =
    inr (in_right (map DiskRecord c.disks) _ (DcoRecord d) (in_right (map SubdiskRecord c.subdisks) _ (DcoRecord d) (in_right (map PlexRecord c.plexes) _ (DcoRecord d)
    (in_right (map VolRecord c.volumes) _ (DcoRecord d) (in_left (map DcoRecord c.dcos) _ (DcoRecord d) (in_map DcoRecord c.dcos d there))))))
