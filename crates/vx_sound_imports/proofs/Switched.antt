-- A configuration that records another state of one data plex of a volume: the volume's image is the same but for the state of that plex. Where
-- the plex is stale by then the volume lies within the candidates that it lay within, if it is sound so.
use Rattle.std.proofs.Common.{◌≡◌, ◌∙◌, ℕ, ◌/◌, ◌==◌, ◌||◌, ◌&&◌, not, Bool, true, false, cond, Option, Some, None, List, [], ◌∷◌, map, refl, sym, ap, subst, inl, inr}
use Rattle.std.specs.Prelude.{◌⊎◌, Contains, if◌then◌else◌}
use Rattle.std.specs.List.{filter, filter_map, list_all}
use Rattle.std.specs.Str.{bytes_eq}
use Rattle.std.proofs.lemmas.Bool.{and_parts, false≢true, false_from_ne_true}
use Rattle.std.proofs.lemmas.List.{append-nil, length-map}
use Rattle.vx_base.specs.Blocks.{Contents}
use Rattle.vx_base.specs.Named.{Word}
use Rattle.vx_base.proofs.NamedLemmas.{bytes_eq_same}
use Rattle.vx_block.specs.Regions.{region_count}
use Rattle.vx_life.specs.Candidates.{Candidates}
use Rattle.vx_mask.specs.Mask.{has}
use Rattle.vx_layout.specs.declared.strip.Strip.{Strip}
use Rattle.vx_layout.specs.Columns.{place_of}
use Rattle.vx_mapfmt.specs.Bits.{is_headed, marks}
use Rattle.vx_config_parts.specs.declared.disk.Disk.{Disk}
use Rattle.vx_config_parts.specs.declared.object.Object.{Object}
use Rattle.vx_config_parts.specs.declared.object.Object.TheVariants.{PlexRecord}
use Rattle.vx_config_parts.specs.declared.plex.Plex.{Plex}
use Rattle.vx_config_parts.specs.declared.snap.Snap.{Snap}
use Rattle.vx_config_parts.specs.declared.state.PlexState.{PlexState}
use Rattle.vx_config_parts.specs.declared.subdisk.Subdisk.{Subdisk}
use Rattle.vx_config_parts.specs.declared.vol.Vol.{Vol}
use Rattle.vx_config_parts.specs.Objects.{is_data, is_data_plex_of, is_log_plex_of, refers}
use Rattle.vx_objects.specs.declared.config.Config.{Config}
use Rattle.vx_objects.specs.declared.edit.Edit.TheVariants.{SetPlex}
use Rattle.vx_objects.specs.Applied.{IsEdited}
use Rattle.vx_objects.specs.Config.{objects_of}
use Rattle.vx_objects.specs.Edits.{added, change, edited, set_plex}
use Rattle.vx_objects.specs.Parts.{as_vol}
use Rattle.vx_image.specs.Bytes.{Sectors, bytes_at, image_of, is_active, is_held, is_log_copy, log_copies, plex_contents, plex_image, plex_marks, relation_maps}
use Rattle.vx_image.specs.Image.{Image, LogCopy, PlexImage, has_no_copy, is_alone, is_available, is_available_state, is_read, is_unmarked_by_some}
use Rattle.vx_image.specs.Lies.{slot_of}
use Rattle.vx_image.specs.Meaning.{StandsForCandidates}
use Rattle.vx_image.specs.Soundness.{IsSoundImage}
use Rattle.vx_image.proofs.Members.{contains, from_filter, into_filter, is_in}
use Rattle.vx_image.proofs.PlexMembers.{IsIn, from_map}
use Rattle.vx_lending.proofs.Rules.{one_plex}
use Rattle.vx_state_edits.specs.Edits.{is_new}
use Rattle.vx_stages.specs.Plexes.{state_edits}
use Rattle.vx_volume_laws.proofs.Restated.{columns_same}
use Rattle.vx_group_edits.proofs.ByKind.{plexes_are, plexes_own, subdisks_are, subdisks_own, volumes_are, volumes_own}
use Rattle.vx_group_edits.proofs.DcoEdits.{log_no_data}
use Rattle.vx_group_edits.proofs.EditSteps.{as_set, plexes_set, subdisks_set}
use Rattle.vx_group_edits.proofs.LonePlexes.{filter_mapped, refers_is}
use Rattle.vx_group_edits.proofs.OwnEdits.{disks_same, set_with, snaps_same}
use Rattle.vx_sound.proofs.Plexes.{state_own}
use Rattle.vx_sound_imports.specs.Left.{LiesWithin}
use Rattle.vx_sound_imports.proofs.Alike.{started_read}

-- ---- lists

same_map : {A B : Type 0} (f g : A → B) (xs : List A) → ((x : A) → IsIn xs x → f x ≡ g x) → map f xs ≡ map g xs
same_map f g [] same = refl
same_map f g (x ∷ xs) same = ap (λ y. y ∷ map f xs) (same x (inl refl)) ∙ ap (λ ys. g x ∷ ys) (same_map f g xs (λ y there. same y (inr there)))

map_twice : {A B : Type 0} (k : A → B) (h : A → A) (g : B → B) (xs : List A) → ((x : A) → k (h x) ≡ g (k x)) → map k (map h xs) ≡ map g (map k xs)
map_twice k h g [] same = refl
map_twice k h g (x ∷ xs) same = ap (λ y. y ∷ map k (map h xs)) (same x) ∙ ap (λ ys. g (k x) ∷ ys) (map_twice k h g xs same)

same_filter : {A : Type 0} (t u : A → Bool) (xs : List A) → ((x : A) → t x ≡ u x) → filter t xs ≡ filter u xs
same_filter t u [] same = refl
same_filter t u (x ∷ xs) same = ap (λ b. cond b (x ∷ filter t xs) (filter t xs)) (same x) ∙ ap (λ ys. cond (u x) (x ∷ ys) ys) (same_filter t u xs same)

-- what changes passes the test neither before nor behind that
left_out : {A : Type 0} (t : A → Bool) (h : A → A) (xs : List A) → ((x : A) → IsIn xs x → (h x ≡ x) ⊎ ((t (h x) ≡ false) × (t x ≡ false))) → filter t (map h xs) ≡ filter t xs
left_out t h [] each = refl
left_out t h (x ∷ xs) each = by (each x (inl refl)) (left_out t h xs (λ y there. each y (inr there)))
  where
    by : (h x ≡ x) ⊎ ((t (h x) ≡ false) × (t x ≡ false)) → filter t (map h xs) ≡ filter t xs → cond (t (h x)) (h x ∷ filter t (map h xs)) (filter t (map h xs)) ≡ cond (t x) (x ∷ filter t xs) (filter t xs)
    by (inl same) rest = ap (λ y. cond (t y) (y ∷ filter t (map h xs)) (filter t (map h xs))) same ∙ ap (λ ys. cond (t x) (x ∷ ys) ys) rest
    by (inr (gone, was)) rest = ap (λ b. cond b (h x ∷ filter t (map h xs)) (filter t (map h xs))) gone ∙ rest ∙ ap (λ b. cond b (x ∷ filter t xs) (filter t xs)) (sym was)

-- ---- the configuration

-- the plex of this name in the state, any other as it is
abbrev in_state : Word → PlexState → Plex → Plex
in_state name next q = if bytes_eq q.name name then record q { state = next } else q

abbrev shown_in_state : Word → PlexState → PlexImage → PlexImage
shown_in_state name next q = if bytes_eq q.name name then record q { state = next } else q

module _ (c c' : Config) (vol : Word) (p : Plex) (next : PlexState) (there : IsIn c.plexes p) (own : is_data_plex_of vol p ≡ true) (is : IsEdited (state_edits vol p next) c c') where
  abbrev all : List Object
  all = edited (SetPlex p.name (Some vol) next p.map) (objects_of c)

  refers_own : refers p.vol vol ≡ true
  refers_own = (and_parts (refers p.vol vol) (is_data p.kind) own).0

  -- a plex of the name is this one
  the_plex : (q : Plex) → IsIn c.plexes q → bytes_eq q.name p.name ≡ true → q ≡ p
  the_plex q here named = one_plex c q p here there (bytes_eq_same q.name p.name named)

  one_set : (q : Plex) → IsIn c.plexes q → as_set p.name (Some vol) next p.map q ≡ in_state p.name next q
  one_set q here = by (bytes_eq q.name p.name) refl
    where
      by : (b : Bool) → bytes_eq q.name p.name ≡ b → (if b then record q { vol = Some vol; state = next; map = p.map } else q) ≡ (if b then record q { state = next } else q)
      by true named =
          let same = the_plex q here named in
          ap (λ (o : Option Word). record q { vol = o; state = next; map = p.map }) (sym (ap (λ (x : Plex). x.vol) same ∙ refers_is p.vol vol refers_own))
          ∙ ap (λ (m : Option ℕ). record q { state = next; map = m }) (sym (ap (λ (x : Plex). x.map) same))
      by false named = refl

  plexes_now : c'.plexes ≡ map (in_state p.name next) c.plexes
  plexes_now =
      plexes_are c' all is ∙ plexes_set p.name (Some vol) next p.map (objects_of c)
      ∙ ap (λ ps. map (as_set p.name (Some vol) next p.map) ps) (plexes_own c)
      ∙ same_map (as_set p.name (Some vol) next p.map) (in_state p.name next) c.plexes one_set

  subdisks_now : c'.subdisks ≡ c.subdisks
  subdisks_now = subdisks_are c' all is ∙ subdisks_set p.name (Some vol) next p.map (objects_of c) ∙ subdisks_own c

  disks_now : c'.disks ≡ c.disks
  disks_now = disks_same c c' vol (state_edits vol p next) (state_own c vol p next there refers_own) is

  snaps_now : c'.snaps ≡ c.snaps
  snaps_now = snaps_same c c' vol (state_edits vol p next) (state_own c vol p next there refers_own) is

  no_vol_set : (o : Object) → as_vol (set_plex p.name (Some vol) next p.map o) ≡ as_vol o
  no_vol_set (PlexRecord q) = refl
  no_vol_set o = refl

  vols_set : filter_map as_vol all ≡ filter_map as_vol (objects_of c)
  unfolding change added
  vols_set = set_with as_vol (λ o. Some (set_plex p.name (Some vol) next p.map o)) no_vol_set (objects_of c) [] ∙ append-nil (filter_map as_vol (objects_of c))

  pub volumes_now : c'.volumes ≡ c.volumes
  volumes_now = volumes_are c' all is ∙ vols_set ∙ volumes_own c

  -- ---- the image

  module _ (good : ℕ) (bytes : Sectors) where
    same_contents : (q : Plex) → plex_contents c' bytes q ≡ plex_contents c bytes q
    same_contents q = ap (λ (columns : List (List Strip)). (let f : Contents = λ b. bytes_at bytes (place_of q.unit columns b) in f)) (columns_same c c' disks_now subdisks_now q.ncol q.name 0)

    same_held : (q : Plex) → is_held c' good q ≡ is_held c good q
    same_held q =
        ap (λ (ds : List Disk). list_all (λ (s : Subdisk). not (refers s.plex q.name) || has good (slot_of ds s.disk)) c'.subdisks) disks_now
        ∙ ap (λ (ss : List Subdisk). list_all (λ (s : Subdisk). not (refers s.plex q.name) || has good (slot_of c.disks s.disk)) ss) subdisks_now

    same_image : (q : Plex) → plex_image c' good bytes q ≡ plex_image c good bytes q
    same_image q =
        ap (λ (h : Bool). record (plex_image c' good bytes q) { held = h }) (same_held q)
        ∙ ap (λ (f : Contents). record (plex_image c good bytes q) { values = f }) (same_contents q)

    -- the plex shows its state
    shown : (q : Plex) → plex_image c good bytes (in_state p.name next q) ≡ shown_in_state p.name next (plex_image c good bytes q)
    shown q = by (bytes_eq q.name p.name)
      where
        by : (b : Bool) → plex_image c good bytes (if b then record q { state = next } else q) ≡ (if b then record (plex_image c good bytes q) { state = next } else plex_image c good bytes q)
        by true = refl
        by false = refl

    module _ (v : Vol) (named : v.name ≡ vol) where
      still_data : (q : Plex) → is_data_plex_of v.name (in_state p.name next q) ≡ is_data_plex_of v.name q
      still_data q = by (bytes_eq q.name p.name)
        where
          by : (b : Bool) → is_data_plex_of v.name (if b then record q { state = next } else q) ≡ is_data_plex_of v.name q
          by true = refl
          by false = refl

      images_now : (image_of c' good bytes v).plexes ≡ map (shown_in_state p.name next) (image_of c good bytes v).plexes
      images_now =
          same_map (plex_image c' good bytes) (plex_image c good bytes) (filter (is_data_plex_of v.name) c'.plexes) (λ q here. same_image q)
          ∙ ap (λ ps. map (plex_image c good bytes) (filter (is_data_plex_of v.name) ps)) plexes_now
          ∙ ap (λ ps. map (plex_image c good bytes) ps) (filter_mapped (is_data_plex_of v.name) (in_state p.name next) c.plexes (λ q here. still_data q))
          ∙ map_twice (plex_image c good bytes) (in_state p.name next) (shown_in_state p.name next) (filter (is_data_plex_of v.name) c.plexes) shown

      -- ---- its log

      same_marks : (q : Plex) → plex_marks c' bytes v q ≡ plex_marks c bytes v q
      same_marks q = ap (λ (f : Contents). (let m : LogCopy = λ r k. marks (region_count v.len v.region) f k r in m)) (same_contents q)

      same_copy : (q : Plex) → is_log_copy c' good bytes v q ≡ is_log_copy c good bytes v q
      same_copy q =
          ap (λ (h : Bool). is_log_plex_of v.name q && (is_active q.state && (h && is_headed v.len v.region (plex_contents c' bytes q)))) (same_held q)
          ∙ ap (λ (f : Contents). is_log_plex_of v.name q && (is_active q.state && (is_held c good q && is_headed v.len v.region f))) (same_contents q)

      -- the plex is no copy of the log, whatever its state is
      no_copy : (q : Plex) → is_log_plex_of v.name q ≡ false → is_log_copy c good bytes v q ≡ false
      no_copy q off = ap (λ (b : Bool). b && (is_active q.state && (is_held c good q && is_headed v.len v.region (plex_contents c bytes q)))) off

      data_no_log : is_log_plex_of v.name p ≡ false
      data_no_log = false_from_ne_true (is_log_plex_of v.name p) (λ log. false≢true (sym (log_no_data v.name p log) ∙ subst (λ n. is_data_plex_of n p ≡ true) (sym named) own))

      copy_still : (q : Plex) → IsIn c.plexes q → (in_state p.name next q ≡ q) ⊎ ((is_log_copy c good bytes v (in_state p.name next q) ≡ false) × (is_log_copy c good bytes v q ≡ false))
      copy_still q here = by (bytes_eq q.name p.name) refl
        where
          by : (b : Bool) → bytes_eq q.name p.name ≡ b →
              ((if b then record q { state = next } else q) ≡ q) ⊎ ((is_log_copy c good bytes v (if b then record q { state = next } else q) ≡ false) × (is_log_copy c good bytes v q ≡ false))
          by true is_named =
              let off = ap (λ (x : Plex). is_log_plex_of v.name x) (the_plex q here is_named) ∙ data_no_log in
              inr (no_copy (record q { state = next }) off, no_copy q off)
          by false is_named = inl refl

      copies_now : (dco : Option Word) → log_copies dco c' good bytes v ≡ log_copies dco c good bytes v
      copies_now None = refl
      copies_now (Some name) =
          same_map (plex_marks c' bytes v) (plex_marks c bytes v) (filter (is_log_copy c' good bytes v) c'.plexes) (λ q here. same_marks q)
          ∙ ap (λ ps. map (plex_marks c bytes v) ps)
          (same_filter (is_log_copy c' good bytes v) (is_log_copy c good bytes v) c'.plexes same_copy
          ∙ ap (λ ps. filter (is_log_copy c good bytes v) ps) plexes_now
          ∙ left_out (is_log_copy c good bytes v) (in_state p.name next) c.plexes copy_still)

      -- the image is the same but for that state
      pub image_now : image_of c' good bytes v ≡ record (image_of c good bytes v) { plexes = map (shown_in_state p.name next) (image_of c good bytes v).plexes }
      image_now =
          ap (λ (ps : List PlexImage). record (image_of c' good bytes v) { plexes = ps }) images_now
          ∙ ap (λ (ms : List ℕ). record (image_of c' good bytes v) { plexes = map (shown_in_state p.name next) (image_of c good bytes v).plexes; snaps = ms }) (ap (λ (ss : List Snap). relation_maps ss v.name) snaps_now)
          ∙ ap (λ (cs : List LogCopy). record (image_of c good bytes v) { plexes = map (shown_in_state p.name next) (image_of c good bytes v).plexes; copies = cs }) (copies_now v.dco)

-- ---- a plex that is read no more

module _ (v : Image) (name : Word) (next : PlexState) (off : is_available_state next ≡ false) (started : is_new v.state ≡ false) (candidates : Candidates) (among : StandsForCandidates v candidates) where
  abbrev now : Image
  now = record v { plexes = map (shown_in_state name next) v.plexes }

  same_alone : is_alone now ≡ is_alone v
  same_alone = ap (λ (n : ℕ). has_no_copy v && (n == 1)) (length-map v.plexes (shown_in_state name next))

  -- it is another one, which was read
  was_other : (r : ℕ) (x : PlexImage) → is_read now r (shown_in_state name next x) ≡ true → (shown_in_state name next x ≡ x) × (is_read v r x ≡ true)
  was_other r x read = by (bytes_eq x.name name) read
    where
      by : (b : Bool) → is_read now r (if b then record x { state = next } else x) ≡ true → ((if b then record x { state = next } else x) ≡ x) × (is_read v r x ≡ true)
      by true is =
          let on = (and_parts (x.held && is_available_state next) (is_unmarked_by_some v r x.map || is_alone now) is).0 in
          absurd (false≢true (sym off ∙ (and_parts x.held (is_available_state next) on).1))
      by false is = (refl, subst (λ (b : Bool). (is_available x && (is_unmarked_by_some v r x.map || b)) ≡ true) same_alone is)

  pub fewer_among : StandsForCandidates now candidates
  fewer_among b low y at =
      let r = b / v.region in
      let found = from_filter (is_read now r) now.plexes y (subst (λ (ps : List PlexImage). Contains ps y) (started_read v.state now r started) at) in
      let x = from_map (shown_in_state name next) v.plexes y (is_in now.plexes y found.0) in
      let was = was_other r x.0 (subst (λ (z : PlexImage). is_read now r z ≡ true) x.2 found.1) in
      let same : y ≡ x.0 = x.2 ∙ was.0 in
      among b low y (subst (λ (ps : List PlexImage). Contains ps y) (sym (started_read v.state v r started))
      (into_filter (is_read v r) v.plexes y (contains v.plexes y (subst (λ (z : PlexImage). IsIn v.plexes z) (sym same) x.1)) (subst (λ (z : PlexImage). is_read v r z ≡ true) (sym same) was.1)))

pub switched_within : (c c' : Config) (vol : Word) (p : Plex) (next : PlexState) → IsIn c.plexes p → is_data_plex_of vol p ≡ true → IsEdited (state_edits vol p next) c c' → is_available_state next ≡ false →
    (good : ℕ) (bytes : Sectors) (v : Vol) → v.name ≡ vol → is_new v.state ≡ false → (candidates : Candidates) → LiesWithin (image_of c good bytes v) candidates → IsSoundImage (image_of c' good bytes v) → LiesWithin (image_of c' good bytes v) candidates
switched_within c c' vol p next there own is off good bytes v named started candidates lies sound = record {
  sound = sound;
  among = subst (λ (i : Image). StandsForCandidates i candidates) (sym (image_now c c' vol p next there own is good bytes v named)) (fewer_among (image_of c good bytes v) p.name next off started candidates lies.among);
}
