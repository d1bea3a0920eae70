-- Where the plexes of a form lie.
use Rattle.std.proofs.Common.{◌≡◌, ◌≢◌, inl, inr, ℕ, zero, suc, ◌+◌, ◌<◌, ◌≤◌, Bool, true, false, not, Option, Some, None, List, [], ◌∷◌, ◌++◌, length, map, refl, sym, ap, ◌∙◌, subst, arith}
use Rattle.std.proofs.lemmas.List.{length-map}
use Rattle.std.specs.Prelude.{◌&&◌, ◌||◌, ◌==◌, nat_le, slice_index_or}
use Rattle.std.specs.List.{All, list_all}
use Rattle.std.proofs.lemmas.Bool.{and_parts, and_from, false≢true, eq-eqb, eqb-true, le-leb}
use Rattle.std.proofs.lemmas.List.Elements.{All-nil, All-cons, All-head, All-tail, All-map, All-contains, All-weaker}
use Rattle.vx_base.specs.Named.{Word}
use Rattle.vx_mask.specs.Mask.{has}
use Rattle.vx_piece.specs.Seen.{Seen}
use Rattle.vx_layout.specs.declared.strip.Strip.{Strip}
use Rattle.vx_layout.specs.declared.layout.Layout.{Layout}
use Rattle.vx_layout.specs.Columns.{capacity}
use Rattle.vx_carve.specs.Strips.{AreApartStrips, ArePlexes, EachStrip, HasNumber, IsFreeStrip, IsOpenRun, lies_in, all_lie_in}
use Rattle.vx_carve.proofs.Room.{strips_free}
use Rattle.vx_config_parts.specs.declared.disk.Disk.{Disk}
use Rattle.vx_config_parts.specs.declared.subdisk.Subdisk.{Subdisk}
use Rattle.vx_config_parts.specs.declared.plex.Plex.{Plex}
use Rattle.vx_config_parts.specs.declared.plex.PlexKind.{PlexKind}
use Rattle.vx_config_parts.specs.declared.plex.PlexKind.TheVariants.{Data, Log}
use Rattle.vx_config_parts.specs.declared.vol.Vol.{Vol}
use Rattle.vx_config_parts.specs.Objects.{refers, is_data, is_log, is_data_plex_of, is_log_plex_of}
use Rattle.vx_objects.specs.declared.config.Config.{Config}
use Rattle.vx_image.specs.Lies.{slot_of, strip_of, strips_from, columns_from, columns_of}
use Rattle.vx_image.specs.Room.{public_of, AreLayoutsOf}
use Rattle.vx_image.proofs.PlexMembers.{IsIn, in_either, in_any, any_in, all_in, in_map, from_map, plex_in}
use Rattle.vx_image.proofs.Plexes.{config_valid, on_disk}
use Rattle.vx_image.proofs.Apart.{all_from, strips_come, plexes_apart, one_name}
use Rattle.vx_image.proofs.Shapes.{holds_its_volume}
use Rattle.vx_image.proofs.Room.{layouts_apart}
use Rattle.vx_image.proofs.Members.{is_in, contains, into_filter}
use Rattle.vx_image.specs.Bytes.{is_held, map_or_zero}
use Rattle.vx_lending.specs.RegionsTaken.{AreDifferent}
use Rattle.vx_lending.specs.declared.form.VolumeForm.{VolumeForm}
use Rattle.vx_image.specs.UsedPlexes.{IsVolOf, held_plexes, used_logs, is_used_log, is_used_state}
use Rattle.vx_lending.specs.Form.{IsLayoutOf, AreLayouts, IsFormOf}
use Rattle.vx_lending.specs.FormLaws.{good_disks, all_layouts, AreFree, AreNumbered, CanBeTaken}
use Rattle.vx_lending.proofs.Distinct.{AreDistinct, distinct_append, distinct_filter, distinct_at, filtered}
use Rattle.vx_lending.proofs.Rules.{plex_names, one_plex}
use Rattle.vx_lending.proofs.Maps.{maps_differ}
use Rattle.vx_lending.proofs.Zips.{zip_length, zip_at, zip_all, zip_append}

-- ---- on good disks

module _ (c : Config) (good : ℕ) where
  good_slot : (p : Plex) → is_held c good p ≡ true → (s : Subdisk) → IsIn c.subdisks s → refers s.plex p.name ≡ true → has good (slot_of c.disks s.disk) ≡ true
  good_slot p held s there of = by (refers s.plex p.name) (has good (slot_of c.disks s.disk)) of (all_in (λ s. not (refers s.plex p.name) || has good (slot_of c.disks s.disk)) c.subdisks s held there)
    where
      by : (a b : Bool) → a ≡ true → (not a || b) ≡ true → b ≡ true
      by true b e h = h
      by false b e h = absurd (false≢true e)

  strip_lies : (p : Plex) → is_held c good p ≡ true → (s : Subdisk) → IsIn c.subdisks s → refers s.plex p.name ≡ true → lies_in (map public_of (good_disks good c.disks)) (strip_of c.disks s) ≡ true
  strip_lies p held s there of =
      let d = on_disk c (config_valid c) s there in
      let slot : has good d.disk.slot ≡ true = subst (λ n. has good n ≡ true) d.slot (good_slot p held s there of) in
      let among : IsIn (good_disks good c.disks) d.disk = is_in (good_disks good c.disks) d.disk (into_filter (λ e. has good e.slot) c.disks d.disk (contains c.disks d.disk d.there) slot) in
      let room = d.room in
      in_any (λ r. r.disk == slot_of c.disks s.disk && nat_le r.sector s.off && nat_le (s.off + s.len) (r.sector + r.count)) (map public_of (good_disks good c.disks)) (public_of d.disk) (in_map public_of (good_disks good c.disks) d.disk among)
      (and_from _ _ (and_from _ _ (eq-eqb d.disk.slot (slot_of c.disks s.disk) (sym d.slot)) (le-leb 0 s.off (omega arith))) (le-leb (s.off + s.len) (0 + d.disk.publen) (omega (arith, room))))

  strips_lie : (p : Plex) → is_held c good p ≡ true → (n col at : ℕ) → list_all (lies_in (map public_of (good_disks good c.disks))) (strips_from n c p.name col at) ≡ true
  strips_lie p held n col at = all_from (lies_in (map public_of (good_disks good c.disks))) (strips_from n c p.name col at) (λ x h.
      let r = strips_come n c p.name col at x h in
      let parts = and_parts (refers r.subdisk.plex p.name) (r.subdisk.col == col) r.piece.1 in
      subst (λ y. lies_in (map public_of (good_disks good c.disks)) y ≡ true) (sym r.is) (strip_lies p held r.subdisk r.piece.0 parts.0))

  pub columns_lie : (p : Plex) → is_held c good p ≡ true → (n col : ℕ) → all_lie_in (map public_of (good_disks good c.disks)) (columns_from n c p.name col) ≡ true
  columns_lie p held zero col = refl
  columns_lie p held (suc n) col = and_from _ _ (strips_lie p held (length c.subdisks) col 0) (columns_lie p held n (col + 1))

  -- a plex of the volume of which all disks are good
  pub record IsTaken (v : Vol) (p : Plex) : Type 0 where
    pub there : IsIn c.plexes p
    pub of : refers p.vol v.name ≡ true
    pub held : is_held c good p ≡ true

  pub held_taken : (v : Vol) (p : Plex) → IsIn (held_plexes c good v.name) p → IsTaken v p × (is_data_plex_of v.name p ≡ true)
  held_taken v p h =
      let w = filtered (λ p. is_data_plex_of v.name p && is_held c good p) c.plexes p h in
      let parts = and_parts (is_data_plex_of v.name p) (is_held c good p) w.1 in
      (record { there = w.0; of = (and_parts (refers p.vol v.name) (is_data p.kind) parts.0).0; held = parts.1 }, parts.0)

  pub log_taken : (v : Vol) (fresh : Bool) (dco : Option Word) (p : Plex) → IsIn (used_logs dco c good fresh v.name) p → IsTaken v p × (is_log_plex_of v.name p ≡ true)
  log_taken v fresh None p h = absurd h
  log_taken v fresh (Some dco) p h =
      let w = filtered (is_used_log c good fresh v.name) c.plexes p h in
      let parts = and_parts (is_log_plex_of v.name p) (is_used_state fresh p.state && is_held c good p) w.1 in
      (record { there = w.0; of = (and_parts (refers p.vol v.name) (is_log p.kind) parts.0).0; held = (and_parts (is_used_state fresh p.state) (is_held c good p) parts.1).1 }, parts.0)

  -- the plexes of a form, and behind them its logs
  abbrev pub form_plexes : Vol → Bool → List Plex
  form_plexes v fresh = held_plexes c good v.name ++ used_logs v.dco c good fresh v.name

  pub each_taken : (v : Vol) (fresh : Bool) (p : Plex) → IsIn (held_plexes c good v.name ++ used_logs v.dco c good fresh v.name) p → IsTaken v p
  each_taken v fresh p h = elim (in_either (held_plexes c good v.name) (used_logs v.dco c good fresh v.name) p h) [
    | inl a ↦ (held_taken v p a).0
    | inr b ↦ (log_taken v fresh v.dco p b).0
  ]

  pub all_are : (v : Vol) (fresh : Bool) (form : VolumeForm) → IsFormOf c good v fresh form → AreLayouts c (held_plexes c good v.name ++ used_logs v.dco c good fresh v.name) (all_layouts form)
  all_are v fresh form is = zip_append (IsLayoutOf c) (held_plexes c good v.name) (used_logs v.dco c good fresh v.name) form.layouts.items form.logs.items is.layouts is.logs

  pub form_lies : (v : Vol) (fresh : Bool) (form : VolumeForm) → IsFormOf c good v fresh form → All (λ (l : Layout). all_lie_in (map public_of (good_disks good c.disks)) l.columns ≡ true) (all_layouts form)
  form_lies v fresh form is =
      zip_all (IsLayoutOf c) (λ (l : Layout). all_lie_in (map public_of (good_disks good c.disks)) l.columns ≡ true) (held_plexes c good v.name ++ used_logs v.dco c good fresh v.name) (all_layouts form) (all_are v fresh form is)
      (λ p l h r. subst (λ columns. all_lie_in (map public_of (good_disks good c.disks)) columns ≡ true) (sym r.columns) (columns_lie p (each_taken v fresh p h).held p.ncol 0))

  pub form_free : (v : Vol) (fresh : Bool) (form : VolumeForm) → IsFormOf c good v fresh form → (numbers : List ℕ) (ps : List Seen) → All (λ d. IsOpenRun numbers ps (public_of d)) (good_disks good c.disks) → AreFree numbers ps (all_layouts form)
  form_free v fresh form is numbers ps clear =
      All-weaker (λ (l : Layout). all_lie_in (map public_of (good_disks good c.disks)) l.columns ≡ true) (λ (l : Layout). EachStrip (IsFreeStrip numbers ps) l.columns)
      (λ l lie. (strips_free numbers (map public_of (good_disks good c.disks)) ps l.columns (All-map (IsOpenRun numbers ps) public_of (good_disks good c.disks) clear) lie).1)
      (all_layouts form) (form_lies v fresh form is)

-- ---- numbers

each_strip : (test : Strip → Bool) (P : Strip → Type 0) → ((x : Strip) → test x ≡ true → P x) → (columns : List (List Strip)) → list_all (λ strips. list_all test strips) columns ≡ true → EachStrip P columns
each_strip test P each [] h = All-nil (λ strips. All P strips)
each_strip test P each (strips ∷ columns) h =
    let parts = and_parts (list_all test strips) (list_all (λ strips. list_all test strips) columns) h in
    All-cons (λ strips. All P strips) strips columns (row strips parts.0) (each_strip test P each columns parts.1)
  where
    row : (strips : List Strip) → list_all test strips ≡ true → All P strips
    row [] h = All-nil P
    row (x ∷ strips) h = let parts = and_parts (test x) (list_all test strips) h in All-cons P x strips (each x parts.0) (row strips parts.1)

numbered_strip : (numbers : List ℕ) (disks : List Disk) → All (λ (d : Disk). d.slot < length numbers) disks → (x : Strip) → lies_in (map public_of disks) x ≡ true → HasNumber numbers x
numbered_strip numbers disks all x h =
    let r = any_in (λ r. r.disk == x.disk && nat_le r.sector x.start && nat_le (x.start + x.count) (r.sector + r.count)) (map public_of disks) h in
    let d = from_map public_of disks r.0 r.1 in
    let first = and_parts (r.0.disk == x.disk && nat_le r.0.sector x.start) _ r.2 in
    let same = eqb-true r.0.disk x.disk (and_parts (r.0.disk == x.disk) _ first.0).0 in
    let slot : d.0.slot ≡ r.0.disk = ap (λ y. y.disk) (sym d.2) in
    subst (λ n. n < length numbers) (slot ∙ same) (All-contains (λ (d : Disk). d.slot < length numbers) disks d.0 all (contains disks d.0 d.1))

-- ---- taken together

data_or_log : (k : PlexKind) → is_data k ≡ true → is_log k ≡ true → ⊥
data_or_log Data a b = false≢true b
data_or_log Log a b = false≢true a

module _ (c : Config) (good : ℕ) (v : Vol) (fresh : Bool) (form : VolumeForm) (is : IsFormOf c good v fresh form) where
  numbered : (numbers : List ℕ) → AreNumbered numbers good c.disks → All (λ (l : Layout). EachStrip (HasNumber numbers) l.columns) (all_layouts form)
  numbered numbers have =
      All-weaker (λ (l : Layout). all_lie_in (map public_of (good_disks good c.disks)) l.columns ≡ true) (λ (l : Layout). EachStrip (HasNumber numbers) l.columns)
      (λ l lie. each_strip (lies_in (map public_of (good_disks good c.disks))) (HasNumber numbers) (numbered_strip numbers (good_disks good c.disks) have) l.columns lie)
      (all_layouts form) (form_lies c good v fresh form is)

  names : AreDistinct (λ (p : Plex). p.name) (held_plexes c good v.name ++ used_logs v.dco c good fresh v.name)
  names = distinct_append (λ (p : Plex). p.name) (held_plexes c good v.name) (used_logs v.dco c good fresh v.name)
      (distinct_filter (λ (p : Plex). p.name) (λ p. is_data_plex_of v.name p && is_held c good p) c.plexes (plex_names c))
      (logs v.dco)
      (λ p q here there same.
      let a = held_taken c good v p here in
      let b = log_taken c good v fresh v.dco q there in
      let one = one_plex c p q a.0.there b.0.there same in
      data_or_log q.kind (subst (λ (x : Plex). is_data x.kind ≡ true) one (and_parts (refers p.vol v.name) (is_data p.kind) a.1).1) (and_parts (refers q.vol v.name) (is_log q.kind) b.1).1)
    where
      logs : (dco : Option Word) → AreDistinct (λ (p : Plex). p.name) (used_logs dco c good fresh v.name)
      logs None = tt
      logs (Some dco) = distinct_filter (λ (p : Plex). p.name) (is_used_log c good fresh v.name) c.plexes (plex_names c)

  layouts_of : (plexes : List Plex) (layouts : List Layout) → AreLayouts c plexes layouts → AreLayoutsOf c plexes layouts
  layouts_of plexes layouts are = record { long = zip_length (IsLayoutOf c) plexes layouts are; each = λ k p d lt. (zip_at (IsLayoutOf c) plexes layouts are k p d lt).columns }

  all_apart : (numbers : List ℕ) → AreNumbered numbers good c.disks → ArePlexes numbers (all_layouts form)
  all_apart numbers have =
      layouts_apart c numbers (held_plexes c good v.name ++ used_logs v.dco c good fresh v.name) (all_layouts form) (layouts_of (held_plexes c good v.name ++ used_logs v.dco c good fresh v.name) (all_layouts form) (all_are c good v fresh form is))
      (λ j k p lt lt' other same. distinct_at (λ (p : Plex). p.name) (held_plexes c good v.name ++ used_logs v.dco c good fresh v.name) names j k p lt lt' other same)
      (numbered numbers have)

  own_apart : (numbers : List ℕ) → AreNumbered numbers good c.disks → ArePlexes numbers form.layouts.items
  own_apart numbers have =
      layouts_apart c numbers (held_plexes c good v.name) form.layouts.items (layouts_of (held_plexes c good v.name) form.layouts.items is.layouts)
      (λ j k p lt lt' other same. distinct_at (λ (p : Plex). p.name) (held_plexes c good v.name) (distinct_filter (λ (p : Plex). p.name) (λ p. is_data_plex_of v.name p && is_held c good p) c.plexes (plex_names c)) j k p lt lt' other same)
      (first (λ (l : Layout). EachStrip (HasNumber numbers) l.columns) form.layouts.items form.logs.items (numbered numbers have))
    where
      first : (P : Layout → Type 0) (ls ms : List Layout) → All P (ls ++ ms) → All P ls
      first P [] ms all = All-nil P
      first P (l ∷ ls) ms all = All-cons P l ls (All-head P l (ls ++ ms) all) (first P ls ms (All-tail P l (ls ++ ms) all))

  -- each data plex holds the volume
  inside : IsVolOf c v → (k : ℕ) (d : Layout) → k < length form.layouts.items → form.shape.geometry.length ≤ capacity (slice_index_or form.layouts.items k d).columns
  inside of = zip_all (IsLayoutOf c) (λ (l : Layout). form.shape.geometry.length ≤ capacity l.columns) (held_plexes c good v.name) form.layouts.items is.layouts (λ p l h r.
      let a = held_taken c good v p h in
      let fits : v.len ≤ capacity (columns_of c p) = holds_its_volume c (config_valid c) p (plex_in c p a.0.there) v of a.1 in
      let long = is.shape_is.length_is in
      subst (λ columns. form.shape.geometry.length ≤ capacity columns) (sym r.columns) (omega (arith, fits, long)))

  first_free : (numbers : List ℕ) (ps : List Seen) (ls ms : List Layout) → AreFree numbers ps (ls ++ ms) → AreFree numbers ps ls
  first_free numbers ps [] ms all = All-nil (λ (l : Layout). EachStrip (IsFreeStrip numbers ps) l.columns)
  first_free numbers ps (l ∷ ls) ms all =
      All-cons (λ (l : Layout). EachStrip (IsFreeStrip numbers ps) l.columns) l ls (All-head (λ (l : Layout). EachStrip (IsFreeStrip numbers ps) l.columns) l (ls ++ ms) all)
      (first_free numbers ps ls ms (All-tail (λ (l : Layout). EachStrip (IsFreeStrip numbers ps) l.columns) l (ls ++ ms) all))

  pub can_be_taken : IsVolOf c v → (numbers : List ℕ) (ps : List Seen) → AreNumbered numbers good c.disks → AreFree numbers ps (all_layouts form) → CanBeTaken numbers ps form
  can_be_taken of numbers ps have free =
      record {
        maps = ap length is.maps ∙ length-map (held_plexes c good v.name) (λ (p : Plex). map_or_zero p.map) ∙ sym (zip_length (IsLayoutOf c) (held_plexes c good v.name) form.layouts.items is.layouts);
        differ = subst AreDifferent (sym is.maps) (maps_differ c v of (is_held c good));
        inside = inside of;
        plexes = own_apart numbers have;
        free = first_free numbers ps form.layouts.items form.logs.items free;
        all_plexes = all_apart numbers have;
        all_free = free;
      }

-- ---- two volumes

-- plexes of two volumes have two names
other_name : (c : Config) (good good' : ℕ) (v w : Vol) (p q : Plex) → IsTaken c good v p → IsTaken c good' w q → v.name ≢ w.name → p.name ≡ q.name → ⊥
other_name c good good' v w p q a b differ same =
    let one = one_plex c p q a.there b.there same in
    differ (one_name p.vol v.name w.name a.of (subst (λ (x : Plex). refers x.vol w.name ≡ true) (sym one) b.of))

pub forms_apart : (c : Config) (good good' : ℕ) (v w : Vol) (fresh fresh' : Bool) (form form' : VolumeForm) → IsFormOf c good v fresh form → IsFormOf c good' w fresh' form' → v.name ≢ w.name →
    All (λ (l : Layout). All (λ (m : Layout). AreApartStrips l.columns m.columns) (all_layouts form')) (all_layouts form)
forms_apart c good good' v w fresh fresh' form form' is is' differ =
    zip_all (IsLayoutOf c) (λ (l : Layout). All (λ (m : Layout). AreApartStrips l.columns m.columns) (all_layouts form')) (held_plexes c good v.name ++ used_logs v.dco c good fresh v.name) (all_layouts form) (all_are c good v fresh form is)
    (λ p l here r. zip_all (IsLayoutOf c) (λ (m : Layout). AreApartStrips l.columns m.columns) (held_plexes c good' w.name ++ used_logs w.dco c good' fresh' w.name) (all_layouts form') (all_are c good' w fresh' form' is')
    (λ q m there s.
    let apart : AreApartStrips (columns_of c p) (columns_of c q) = plexes_apart c p q (other_name c good good' v w p q (each_taken c good v fresh p here) (each_taken c good' w fresh' q there) differ) in
    subst (λ x. AreApartStrips x m.columns) (sym r.columns) (subst (λ y. AreApartStrips (columns_of c p) y) (sym s.columns) apart)))
