-- Plexes that are added to a volume stand behind those that it had, which stay as they were.
use Rattle.std.proofs.Common.{◌≡◌, ℕ, Bool, true, false, cond, not, Option, Some, None, List, [], ◌∷◌, ◌++◌, map, refl, sym, ◌∙◌, ap, subst, inl, inr}
use Rattle.std.specs.Prelude.{◌&&◌, ◌||◌, Contains}
use Rattle.std.specs.List.{filter, filter_map, flat_map, list_all}
use Rattle.std.proofs.Math.Bool.{and-true}
use Rattle.std.proofs.lemmas.List.{append-nil, map-append}
use Rattle.std.proofs.lemmas.List.Elements.{filter_map-append}
use Rattle.std.proofs.lemmas.List.Folds.{list_all-append}
use Rattle.vx_base.specs.Named.{Word}
use Rattle.vx_block.specs.Regions.{region_count}
use Rattle.vx_mask.specs.Mask.{has}
use Rattle.vx_mapfmt.specs.Bits.{marks, is_headed}
use Rattle.vx_layout.specs.Columns.{place_of}
use Rattle.vx_layout.specs.Valid.{is_apart}
use Rattle.vx_config_parts.specs.declared.object.Object.{Object}
use Rattle.vx_config_parts.specs.declared.object.Object.TheVariants.{GroupRecord, DiskRecord, SubdiskRecord, PlexRecord, VolRecord, DcoRecord, SnapRecord}
use Rattle.vx_config_parts.specs.declared.plex.Plex.{Plex}
use Rattle.vx_config_parts.specs.declared.subdisk.Subdisk.{Subdisk}
use Rattle.vx_config_parts.specs.declared.vol.Vol.{Vol}
use Rattle.vx_config_parts.specs.Objects.{is_data_plex_of, is_log_plex_of, refers}
use Rattle.vx_objects.specs.declared.config.Config.{Config}
use Rattle.vx_objects.specs.declared.edit.Edit.TheVariants.{Make}
use Rattle.vx_objects.specs.Applied.{IsEdited}
use Rattle.vx_objects.specs.Config.{objects_of}
use Rattle.vx_objects.specs.Parts.{as_dco, as_disk, as_plex, as_snap, as_subdisk, as_vol, in_kinds}
use Rattle.vx_image.specs.Lies.{PlexesLieApart, columns_of, slot_of, strips_of}
use Rattle.vx_image.proofs.PlexMembers.{IsIn, all_in, in_left, in_map, one_in}
use Rattle.vx_image.proofs.Members.{contains, is_in}
use Rattle.vx_image.specs.Bytes.{Sectors, bytes_at, image_of, is_active, is_held, is_log_copy, log_copies, map_or_zero, plex_image, plex_marks, relation_maps}
use Rattle.vx_image.specs.Image.{is_available_state}
use Rattle.vx_image.specs.UsedPlexes.{is_on, is_used_log, is_used_state}
use Rattle.vx_lending.proofs.Distinct.{filtered}
use Rattle.vx_group_edits.specs.OfVolume.{AreOf, is_part_of}
use Rattle.vx_group_edits.proofs.Added.{made_behind}
use Rattle.vx_group_edits.proofs.ByKind.{dcos_are, dcos_own, disks_are, disks_own, plexes_are, plexes_own, snaps_are, snaps_own, subdisks_are, subdisks_own, vol_is, volumes_are, volumes_own}
use Rattle.vx_group_edits.proofs.Columns.{columns_same}
use Rattle.vx_group_edits.proofs.Lists.{filter_append, filter_passed, none_seen, not_picked, picked}
use Rattle.vx_group_edits.proofs.OwnEdits.{no_parts}
use Rattle.vx_group_edits.proofs.PlexNames.{names_are, names_free, subdisk_off}
use Rattle.vx_group_edits.specs.Joins.{IsNewPlex, Joins, StaysAsItWas, copies_in, images_in, joined_image, plexes_in, subdisks_in, subdisks_of}
use Rattle.vx_group_edits.specs.JoinedLaws.{EachImageIsJoined, EachNewPlexLiesApart, EachPlexJoins}

-- ---- lists

filter_same : {A : Type 0} (t u : A → Bool) (xs : List A) → ((x : A) → IsIn xs x → u x ≡ t x) → filter u xs ≡ filter t xs
filter_same t u [] same = refl
filter_same t u (x ∷ xs) same = ap (λ b. cond b (x ∷ filter u xs) (filter u xs)) (same x (inl refl)) ∙ ap (λ ys. cond (t x) (x ∷ ys) ys) (filter_same t u xs (λ y there. same y (inr there)))

map_same : {A B : Type 0} (f g : A → B) (xs : List A) → ((x : A) → IsIn xs x → g x ≡ f x) → map g xs ≡ map f xs
map_same f g [] same = refl
map_same f g (x ∷ xs) same = let first = same x (inl refl) in let rest = map_same f g xs (λ y there. same y (inr there)) in λ i. first i ∷ rest i

-- what none passes each may fail
none_passed : {A : Type 0} (t u : A → Bool) (xs : List A) → filter t xs ≡ [] → list_all (λ x. not (t x) || u x) xs ≡ true
none_passed t u [] none = refl
none_passed t u (x ∷ xs) none = by (none_passed t u xs) (t x) refl none
  where
    by : (filter t xs ≡ [] → list_all (λ x. not (t x) || u x) xs ≡ true) → (b : Bool) → t x ≡ b → cond b (x ∷ filter t xs) (filter t xs) ≡ [] → list_all (λ x. not (t x) || u x) (x ∷ xs) ≡ true
    by on true is e = absurd cc
    by on false is e = rw is (on e)

plex_from : (os : List Object) (p : Plex) → IsIn (plexes_in os) p → IsIn os (PlexRecord p)
plex_from [] p there = there
plex_from (PlexRecord q ∷ os) p (inl same) = inl (ap (λ x. PlexRecord x) same)
plex_from (PlexRecord q ∷ os) p (inr there) = inr (plex_from os p there)
plex_from (GroupRecord x ∷ os) p there = inr (plex_from os p there)
plex_from (DiskRecord x ∷ os) p there = inr (plex_from os p there)
plex_from (SubdiskRecord x ∷ os) p there = inr (plex_from os p there)
plex_from (VolRecord x ∷ os) p there = inr (plex_from os p there)
plex_from (DcoRecord x ∷ os) p there = inr (plex_from os p there)
plex_from (SnapRecord x ∷ os) p there = inr (plex_from os p there)

module _ (c c' : Config) (vol : Word) (more : List Object) (of : AreOf vol more) (edits : IsEdited (Make more ∷ []) c c') where
  abbrev all : List Object
  all = objects_of c ++ more

  is : objects_of c' ≡ in_kinds all
  is = made_behind c c' more edits

  -- ---- kind by kind

  -- what there is of a kind stands behind what there was
  behind : {A : Type 0} (pick : Object → Option A) (was : List A) → filter_map pick (objects_of c) ≡ was → filter_map pick all ≡ was ++ filter_map pick more
  behind pick was own = filter_map-append pick (objects_of c) more ∙ ap (λ xs. xs ++ filter_map pick more) own

  -- .. and nothing, where nothing is added
  unchanged : {A : Type 0} (pick : Object → Option A) (was : List A) → filter_map pick (objects_of c) ≡ was → filter_map pick more ≡ [] → filter_map pick all ≡ was
  unchanged pick was own none = behind pick was own ∙ ap (λ xs. was ++ xs) none ∙ append-nil was

  disks_same : c'.disks ≡ c.disks
  disks_same = disks_are c' all is ∙ unchanged as_disk c.disks (disks_own c) (no_parts as_disk (λ p. refl) (λ s. refl) vol more of)

  volumes_same : c'.volumes ≡ c.volumes
  volumes_same = volumes_are c' all is ∙ unchanged as_vol c.volumes (volumes_own c) (no_parts as_vol (λ p. refl) (λ s. refl) vol more of)

  dcos_same : c'.dcos ≡ c.dcos
  dcos_same = dcos_are c' all is ∙ unchanged as_dco c.dcos (dcos_own c) (no_parts as_dco (λ p. refl) (λ s. refl) vol more of)

  snaps_same : c'.snaps ≡ c.snaps
  snaps_same = snaps_are c' all is ∙ unchanged as_snap c.snaps (snaps_own c) (no_parts as_snap (λ p. refl) (λ s. refl) vol more of)

  plexes_joined : c'.plexes ≡ c.plexes ++ plexes_in more
  plexes_joined = plexes_are c' all is ∙ behind as_plex c.plexes (plexes_own c)

  subdisks_joined : c'.subdisks ≡ c.subdisks ++ subdisks_in more
  subdisks_joined = subdisks_are c' all is ∙ behind as_subdisk c.subdisks (subdisks_own c)

  -- ---- a plex that was there

  no_subdisk : (p : Plex) → IsIn c.plexes p → filter (λ s. refers s.plex p.name) (subdisks_in more) ≡ []
  no_subdisk p here = none_seen (λ s. refers s.plex p.name) as_subdisk more (λ o there. by o (all_in (is_part_of vol more) more o of there))
    where
      by : (o : Object) → is_part_of vol more o ≡ true → picked (λ s. refers s.plex p.name) as_subdisk (as_subdisk o) ≡ []
      by (SubdiskRecord s) part = not_picked (λ s. refers s.plex p.name) as_subdisk s (subdisk_off vol more p (names_free c c' vol more of edits p here) s part)
      by o part = refl

  subdisks_same : (p : Plex) → IsIn c.plexes p → subdisks_of c' p.name ≡ subdisks_of c p.name
  subdisks_same p here =
      ap (λ ss. filter (λ s. refers s.plex p.name) ss) subdisks_joined
      ∙ filter_append (λ s. refers s.plex p.name) c.subdisks (subdisks_in more)
      ∙ ap (λ ss. subdisks_of c p.name ++ ss) (no_subdisk p here)
      ∙ append-nil (subdisks_of c p.name)

  columns_are : (p : Plex) → IsIn c.plexes p → columns_of c' p ≡ columns_of c p
  columns_are p here = columns_same c c' [] (disks_same ∙ sym (append-nil c.disks)) p.name (subdisks_same p here) p.ncol 0

  held_same : (good : ℕ) (p : Plex) → IsIn c.plexes p → is_held c' good p ≡ is_held c good p
  held_same good p here =
      let is_good : Subdisk → Bool = λ s. not (refers s.plex p.name) || has good (slot_of c.disks s.disk) in
      ap (λ ds. list_all (λ s. not (refers s.plex p.name) || has good (slot_of ds s.disk)) c'.subdisks) disks_same
      ∙ ap (λ ss. list_all is_good ss) subdisks_joined
      ∙ list_all-append is_good c.subdisks (subdisks_in more)
      ∙ ap (λ b. list_all is_good c.subdisks && b) (none_passed (λ s. refers s.plex p.name) (λ s. has good (slot_of c.disks s.disk)) (subdisks_in more) (no_subdisk p here))
      ∙ and-true (list_all is_good c.subdisks)

  stays_as : (p : Plex) → IsIn c.plexes p → StaysAsItWas c c' p
  stays_as p here = record {
    there = contains c'.plexes p (subst (λ ps. IsIn ps p) (sym plexes_joined) (in_left c.plexes (plexes_in more) p here));
    subdisks = subdisks_same p here;
    lies = record { unit = refl; columns = columns_are p here };
    held = λ good. held_same good p here;
  }

  -- ---- a new one

  is_own : (p : Plex) → IsIn (plexes_in more) p → refers p.vol vol ≡ true
  is_own p there = all_in (is_part_of vol more) more (PlexRecord p) of (plex_from more p there)

  new_plex : (p : Plex) → IsIn (plexes_in more) p → IsNewPlex c vol p
  new_plex p there = record {
    own = is_own p there;
    name = λ q here same. names_free c c' vol more of edits q (is_in c.plexes q here) p.name (subst (λ ns. IsIn ns p.name) (sym (names_are more)) (in_map (λ (x : Plex). x.name) (plexes_in more) p there)) same;
  }

  -- it lies apart from those that were there
  apart_from : PlexesLieApart → (p q : Plex) → Contains (plexes_in more) p → Contains c.plexes q → list_all (λ x. list_all (is_apart x) (strips_of c q)) (strips_of c' p) ≡ true
  apart_from apart p q there here =
      subst (λ columns. list_all (λ x. list_all (is_apart x) (flat_map (λ strips. strips) columns)) (strips_of c' p) ≡ true) (columns_are q (is_in c.plexes q here))
      (apart c' p q (λ same. (new_plex p (is_in (plexes_in more) p there)).name q here (sym same)))

  -- ---- what the volume has

  -- what passes a test stands behind what passed, where those that were there pass just if they did
  joined : (t u : Plex → Bool) → ((p : Plex) → IsIn c.plexes p → u p ≡ t p) → filter u c'.plexes ≡ filter t c.plexes ++ filter u (plexes_in more)
  joined t u same = ap (λ ps. filter u ps) plexes_joined ∙ filter_append u c.plexes (plexes_in more) ∙ ap (λ ps. ps ++ filter u (plexes_in more)) (filter_same t u c.plexes same)

  joins : Joins c vol more c'
  joins = record {
    disks = disks_same;
    subdisks = subdisks_joined;
    plexes = plexes_joined;
    volumes = volumes_same;
    recorded = λ v there. vol_is c' all is v (in_left (objects_of c) more (VolRecord v) (one_in (objects_of c) (VolRecord v) there));
    dcos = dcos_same;
    snaps = snaps_same;
    old = λ p there. stays_as p (is_in c.plexes p there);
    new = λ p there. new_plex p (is_in (plexes_in more) p there);
    own = joined (λ p. refers p.vol vol) (λ p. refers p.vol vol) (λ p here. refl) ∙ ap (λ ps. filter (λ p. refers p.vol vol) c.plexes ++ ps) (filter_passed (λ p. refers p.vol vol) (plexes_in more) is_own);
    data_is = joined (is_data_plex_of vol) (is_data_plex_of vol) (λ p here. refl);
    held = λ good. joined (λ p. is_data_plex_of vol p && is_held c good p) (λ p. is_data_plex_of vol p && is_held c' good p) (λ p here. ap (λ b. is_data_plex_of vol p && b) (held_same good p here));
    on = λ good. joined (λ p. is_data_plex_of vol p && is_on c good p) (λ p. is_data_plex_of vol p && is_on c' good p) (λ p here. ap (λ b. is_data_plex_of vol p && (b && is_available_state p.state)) (held_same good p here));
    off = λ good. joined (λ p. is_data_plex_of vol p && not (is_on c good p)) (λ p. is_data_plex_of vol p && not (is_on c' good p)) (λ p here. ap (λ b. is_data_plex_of vol p && not (b && is_available_state p.state)) (held_same good p here));
    logs = λ dco good fresh. joined (is_used_log c good fresh vol) (is_used_log c' good fresh vol) (λ p here. ap (λ b. is_log_plex_of vol p && (is_used_state fresh p.state && b)) (held_same good p here));
  }

  -- ---- its image

  module _ (good : ℕ) (bytes : Sectors) (v : Vol) where
    image_same : (p : Plex) → IsIn c.plexes p → plex_image c' good bytes p ≡ plex_image c good bytes p
    image_same p here =
        let held = held_same good p here in
        let columns = columns_are p here in
        λ i. record { name = p.name; map = map_or_zero p.map; state = p.state; held = held i; values = λ b. bytes_at bytes (place_of p.unit (columns i) b) }

    marks_same : (p : Plex) → IsIn c.plexes p → plex_marks c' bytes v p ≡ plex_marks c bytes v p
    marks_same p here =
        let columns = columns_are p here in
        λ i r k. marks (region_count v.len v.region) (λ b. bytes_at bytes (place_of p.unit (columns i) b)) k r

    copy_same : (p : Plex) → IsIn c.plexes p → is_log_copy c' good bytes v p ≡ is_log_copy c good bytes v p
    copy_same p here =
        let held = held_same good p here in
        let columns = columns_are p here in
        λ i. is_log_plex_of v.name p && (is_active p.state && (held i && is_headed v.len v.region (λ b. bytes_at bytes (place_of p.unit (columns i) b))))

    images_joined : map (plex_image c' good bytes) (filter (is_data_plex_of v.name) c'.plexes) ≡ map (plex_image c good bytes) (filter (is_data_plex_of v.name) c.plexes) ++ images_in c' good bytes v more
    images_joined =
        ap (λ ps. map (plex_image c' good bytes) ps) (joined (is_data_plex_of v.name) (is_data_plex_of v.name) (λ p here. refl))
        ∙ map-append (plex_image c' good bytes) (filter (is_data_plex_of v.name) c.plexes) (filter (is_data_plex_of v.name) (plexes_in more))
        ∙ ap (λ xs. xs ++ images_in c' good bytes v more)
        (map_same (plex_image c good bytes) (plex_image c' good bytes) (filter (is_data_plex_of v.name) c.plexes) (λ p there. image_same p (filtered (is_data_plex_of v.name) c.plexes p there).0))

    copies_joined : (dco : Option Word) → log_copies dco c' good bytes v ≡ log_copies dco c good bytes v ++ copies_in dco c' good bytes v more
    copies_joined None = refl
    copies_joined (Some dco) =
        ap (λ ps. map (plex_marks c' bytes v) ps) (joined (is_log_copy c good bytes v) (is_log_copy c' good bytes v) copy_same)
        ∙ map-append (plex_marks c' bytes v) (filter (is_log_copy c good bytes v) c.plexes) (filter (is_log_copy c' good bytes v) (plexes_in more))
        ∙ ap (λ xs. xs ++ copies_in (Some dco) c' good bytes v more)
        (map_same (plex_marks c bytes v) (plex_marks c' bytes v) (filter (is_log_copy c good bytes v) c.plexes) (λ p there. marks_same p (filtered (is_log_copy c good bytes v) c.plexes p there).0))

    image_is : image_of c' good bytes v ≡ joined_image c c' good bytes v more
    image_is =
        let images = images_joined in
        let copies = copies_joined v.dco in
        let snaps : relation_maps c'.snaps v.name ≡ relation_maps c.snaps v.name = ap (λ ss. relation_maps ss v.name) snaps_same in
        λ i. record { state = v.state; length = v.len; region = v.region; plexes = images i; snaps = snaps i; copies = copies i }

pub plex_joins : EachPlexJoins
plex_joins c c' vol more of edits = joins c c' vol more of edits

pub image_joined : EachImageIsJoined
image_joined c c' v more of edits good bytes = image_is c c' v.name more of edits good bytes v

pub new_apart : PlexesLieApart → EachNewPlexLiesApart
new_apart apart c c' vol more of edits p q there here = apart_from c c' vol more of edits apart p q there here
