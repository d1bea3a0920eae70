-- A configuration in which a volume, its plexes and their subdisks are the same keeps it.
use Rattle.std.proofs.Common.{◌≡◌, ℕ, zero, suc, ◌+◌, ◌-◌, true, false, Option, Some, None, List, ◌++◌, length, refl, sym, ◌∙◌, ap, subst, inl, inr}
use Rattle.std.specs.Prelude.{◌&&◌, ◌==◌, nat_le, nat_lt, Contains}
use Rattle.std.specs.List.{AllZip, filter, find, flat_map, list_any}
use Rattle.std.proofs.lemmas.Bool.{false≢true, and_parts, and_from, eq-eqb, eqb-true}
use Rattle.vx_base.specs.Named.{Word}
use Rattle.vx_mask.specs.Mask.{has}
use Rattle.vx_config_parts.specs.declared.disk.Disk.{Disk}
use Rattle.vx_config_parts.specs.declared.plex.Plex.{Plex}
use Rattle.vx_config_parts.specs.declared.subdisk.Subdisk.{Subdisk}
use Rattle.vx_config_parts.specs.declared.vol.Vol.{Vol}
use Rattle.vx_config_parts.specs.Objects.{is_data, is_data_plex_of, is_log, is_log_plex_of, refers}
use Rattle.vx_objects.specs.declared.config.Config.{Config}
use Rattle.vx_rules.specs.Columns.{is_in_column}
use Rattle.vx_layout.specs.Columns.{has_place}
use Rattle.vx_layout.specs.declared.place.Place.{Place}
use Rattle.vx_layout.specs.declared.strip.Strip.{Strip}
use Rattle.vx_image.specs.Own.{IsOfVolume}
use Rattle.vx_image.specs.Lies.{columns_from, slot_of, strip_of, strip_then, strips_from, strips_of}
use Rattle.vx_image.proofs.PlexMembers.{IsIn, in_any, in_either}
use Rattle.vx_image.proofs.Plexes.{config_valid, on_disk}
use Rattle.vx_image.specs.Bytes.{is_held, relation_maps}
use Rattle.vx_image.proofs.Members.{contains, is_in}
use Rattle.vx_image.specs.UsedPlexes.{IsVolOf, is_used_log, is_used_state, used_logs}
use Rattle.vx_lending.proofs.Bits.{kept}
use Rattle.vx_lending.proofs.Distinct.{filtered}
use Rattle.vx_volume_laws.proofs.Configurations.{active_used}
use Rattle.vx_volume_laws.specs.Keeping.{KeepsLogPlex, KeepsPlex, KeepsVolume, LiesStill, data_plexes, log_plexes}
use Rattle.vx_group_edits.specs.Stays.{AreFewer, StaysPlex, StaysRecorded}
use Rattle.vx_group_edits.proofs.Columns.{columns_same, held_before, subdisks_of}
use Rattle.vx_group_edits.proofs.Lists.{filter_narrow, found_in, zip_each}

-- the plexes of a volume
abbrev pub plexes_of : Config → Word → List Plex
plexes_of c vol = filter (λ p. refers p.vol vol) c.plexes

-- ---- the strips of a plex are its subdisks

strip_from : (n : ℕ) (c : Config) (name : Word) (col at : ℕ) (x : Strip) → IsIn (strips_from n c name col at) x → (s : Subdisk) × IsIn c.subdisks s × (x ≡ strip_of c.disks s)
strip_from zero c name col at x there = absurd there
strip_from (suc n) c name col at x there = by (λ next. strip_from n c name col next x) (find (λ s. is_in_column name col s && s.at == at) c.subdisks) refl there
  where
    by : ((next : ℕ) → IsIn (strips_from n c name col next) x → (s : Subdisk) × IsIn c.subdisks s × (x ≡ strip_of c.disks s)) → (o : Option Subdisk) → find (λ s. is_in_column name col s && s.at == at) c.subdisks ≡ o → IsIn (strip_then c.disks o (λ next. strips_from n c name col next)) x → (s : Subdisk) × IsIn c.subdisks s × (x ≡ strip_of c.disks s)
    by rest None e there = absurd there
    by rest (Some s) e (inl same) = (s, (found_in (λ s. is_in_column name col s && s.at == at) c.subdisks s e).0, same)
    by rest (Some s) e (inr there) = rest (s.at + s.len) there

strip_among : (n : ℕ) (c : Config) (name : Word) (col : ℕ) (x : Strip) → IsIn (flat_map (λ strips. strips) (columns_from n c name col)) x → (s : Subdisk) × IsIn c.subdisks s × (x ≡ strip_of c.disks s)
strip_among zero c name col x there = absurd there
strip_among (suc n) c name col x there = elim (in_either (strips_from (length c.subdisks) c name col 0) (flat_map (λ strips. strips) (columns_from n c name (col + 1))) x there) [
  | inl here ↦ strip_from (length c.subdisks) c name col 0 x here
  | inr rest ↦ strip_among n c name (col + 1) x rest
]

strip_of_some : (c : Config) (p : Plex) (x : Strip) → IsIn (strips_of c p) x → (s : Subdisk) × IsIn c.subdisks s × (x ≡ strip_of c.disks s)
strip_of_some c p x there = strip_among p.ncol c p.name 0 x there

-- a place is on the disk of its strip
place_disk : (strip : Strip) (place : Place) → has_place strip place ≡ true → strip.disk ≡ place.disk
place_disk strip place here = eqb-true strip.disk place.disk (and_parts (strip.disk == place.disk) (nat_le strip.start place.sector) (and_parts (strip.disk == place.disk && nat_le strip.start place.sector) (nat_lt (place.sector - strip.start) strip.count) here).0).0

-- The volume is recorded with all that it had but its policy; its plexes, their subdisks and the relations are the same; and disks
-- may have been added behind those that were there.
pub record Untouched (c : Config) (v : Vol) (c' : Config) : Type 0 where
  pub now : Vol
  pub recorded : IsVolOf c' now
  pub name : now.name ≡ v.name
  pub state : now.state ≡ v.state
  pub length_is : now.len ≡ v.len
  pub region_is : now.region ≡ v.region
  pub dco : now.dco ≡ v.dco
  pub plexes : plexes_of c' v.name ≡ plexes_of c v.name
  pub subdisks : (p : Plex) → IsIn (plexes_of c v.name) p → subdisks_of c' p.name ≡ subdisks_of c p.name
  pub more : List Disk
  pub disks : c'.disks ≡ c.disks ++ more
  pub snaps : c'.snaps ≡ c.snaps

module _ (c : Config) (v : Vol) (c' : Config) (good good' : ℕ) (fewer : AreFewer c good good') (is : Untouched c v c') where
  -- a disk of a subdisk that is good now was good before
  failed : (s : Subdisk) → IsIn c.subdisks s → has good' (slot_of c.disks s.disk) ≡ true → has good (slot_of c.disks s.disk) ≡ true
  failed s there now =
      let d = on_disk c (config_valid c) s there in
      let found : list_any (λ (x : Disk). x.slot == slot_of c.disks s.disk) c.disks ≡ true = in_any (λ (x : Disk). x.slot == slot_of c.disks s.disk) c.disks d.disk d.there (eq-eqb d.disk.slot (slot_of c.disks s.disk) (sym d.slot)) in
      elim (fewer (slot_of c.disks s.disk) now) [
        | inl before ↦ before
        | inr none ↦ absurd (false≢true (sym none ∙ found))
      ]

  lies : (p : Plex) → IsIn (plexes_of c v.name) p → LiesStill c c' p p
  lies p there = record { unit = refl; columns = columns_same c c' is.more is.disks p.name (is.subdisks p there) p.ncol 0 }

  held : (p : Plex) → IsIn (plexes_of c v.name) p → is_held c' good' p ≡ true → is_held c good p ≡ true
  held p there = held_before c c' is.more is.disks p.name (is.subdisks p there) good good' failed p refl

  plex_kept : (p : Plex) → IsIn (data_plexes c v.name) p → KeepsPlex c good c' good' p p
  plex_kept p there =
      let one = filtered (is_data_plex_of v.name) c.plexes p there in
      let own = kept (λ p. refers p.vol v.name) c.plexes p one.0 (and_parts (refers p.vol v.name) (is_data p.kind) one.1).0 in
      record { name = refl; map = refl; lies = lies p own; available = refl; held = held p own }

  data_narrow : (p : Plex) → is_data_plex_of v.name p ≡ true → refers p.vol v.name ≡ true
  data_narrow p h = (and_parts (refers p.vol v.name) (is_data p.kind) h).0

  data_same : data_plexes c' is.now.name ≡ data_plexes c v.name
  data_same =
      ap (λ n. data_plexes c' n) is.name
      ∙ filter_narrow (is_data_plex_of v.name) (λ p. refers p.vol v.name) data_narrow c'.plexes
      ∙ ap (λ ps. filter (is_data_plex_of v.name) ps) is.plexes
      ∙ sym (filter_narrow (is_data_plex_of v.name) (λ p. refers p.vol v.name) data_narrow c.plexes)

  log_kept : (dco dco0 : Option Word) (name : Word) → dco ≡ dco0 → name ≡ v.name → (q : Plex) → IsIn (used_logs dco c' good' false name) q → (p : Plex) × Contains (used_logs dco0 c good false v.name) p × LiesStill c c' p q
  log_kept None dco0 name e n q there = absurd there
  log_kept (Some d) None name e n q there = absurd cc
  log_kept (Some d) (Some d0) name e n q there =
      let one = filtered (is_used_log c' good' false v.name) c'.plexes q (subst (λ m. IsIn (used_logs (Some d) c' good' false m) q) n there) in
      let first = and_parts (is_log_plex_of v.name q) (is_used_state false q.state && is_held c' good' q) one.1 in
      let second = and_parts (is_used_state false q.state) (is_held c' good' q) first.1 in
      let refers_to = (and_parts (refers q.vol v.name) (is_log q.kind) first.0).0 in
      let own = subst (λ ps. IsIn ps q) is.plexes (kept (λ p. refers p.vol v.name) c'.plexes q one.0 refers_to) in
      let before = filtered (λ p. refers p.vol v.name) c.plexes q own in
      (q, contains (used_logs (Some d0) c good false v.name) q (kept (is_used_log c good false v.name) c.plexes q before.0 (and_from _ _ first.0 (and_from _ _ second.0 (held q own second.1)))), lies q own)

  log_narrow : (p : Plex) → is_log_plex_of v.name p ≡ true → refers p.vol v.name ≡ true
  log_narrow p h = (and_parts (refers p.vol v.name) (is_log p.kind) h).0

  logs_same : log_plexes c' is.now.name ≡ log_plexes c v.name
  logs_same =
      ap (λ n. log_plexes c' n) is.name
      ∙ filter_narrow (is_log_plex_of v.name) (λ p. refers p.vol v.name) log_narrow c'.plexes
      ∙ ap (λ ps. filter (is_log_plex_of v.name) ps) is.plexes
      ∙ sym (filter_narrow (is_log_plex_of v.name) (λ p. refers p.vol v.name) log_narrow c.plexes)

  log_plex_kept : (p : Plex) → IsIn (log_plexes c v.name) p → KeepsLogPlex c false c' p p
  log_plex_kept p there =
      let one = filtered (is_log_plex_of v.name) c.plexes p there in
      let own = kept (λ p. refers p.vol v.name) c.plexes p one.0 (log_narrow p one.1) in
      record { name = refl; lies = lies p own; used = active_used p.state }

  keeps : KeepsVolume c good v false c' good' is.now
  keeps = record {
    length_is = is.length_is;
    region_is = is.region_is;
    dco = is.dco;
    plexes = subst (λ ps. AllZip (KeepsPlex c good c' good') (data_plexes c v.name) ps) (sym data_same) (zip_each (KeepsPlex c good c' good') (data_plexes c v.name) plex_kept);
    logs = λ q one. log_kept is.now.dco v.dco is.now.name is.dco is.name q (is_in (used_logs is.now.dco c' good' false is.now.name) q one);
    log_plexes_are = subst (λ ps. AllZip (KeepsLogPlex c false c') (log_plexes c v.name) ps) (sym logs_same) (zip_each (KeepsLogPlex c false c') (log_plexes c v.name) log_plex_kept);
    relations = ap (λ n. relation_maps c'.snaps n) is.name ∙ ap (λ ss. relation_maps ss v.name) is.snaps;
  }

  plex_stays : (p : Plex) → Contains c.plexes p → refers p.vol v.name ≡ true → StaysPlex c c' is.now.name p
  plex_stays p there own =
      let mine = kept (λ p. refers p.vol v.name) c.plexes p (is_in c.plexes p there) own in
      record {
        there = contains c'.plexes p (filtered (λ p. refers p.vol v.name) c'.plexes p (subst (λ ps. IsIn ps p) (sym is.plexes) mine)).0;
        own = subst (λ n. refers p.vol n ≡ true) (sym is.name) own;
        lies = lies p mine;
      }

  -- the sectors of the volume
  places : (place : Place) → IsOfVolume c' is.now.name place → IsOfVolume c v.name place
  places place (q, there, own, (strip, on, here)) =
      let mine = subst (λ ps. IsIn ps q) is.plexes (kept (λ p. refers p.vol v.name) c'.plexes q (is_in c'.plexes q there) (subst (λ n. refers q.vol n ≡ true) is.name own)) in
      let before = filtered (λ p. refers p.vol v.name) c.plexes q mine in
      (q, contains c.plexes q before.0, before.1, (strip, subst (λ columns. Contains (flat_map (λ strips. strips) columns) strip) (lies q mine).columns on, here))

  good_there : (place : Place) → IsOfVolume c v.name place → has good' place.disk ≡ true → has good place.disk ≡ true
  good_there place (p, there, own, (strip, on, here)) now =
      let s = strip_of_some c p strip (is_in (strips_of c p) strip on) in
      let slot : slot_of c.disks s.0.disk ≡ place.disk = ap (λ (x : Strip). x.disk) (sym s.2) ∙ place_disk strip place here in
      subst (λ n. has good n ≡ true) slot (failed s.0 s.1 (subst (λ n. has good' n ≡ true) (sym slot) now))

  pub stays : StaysRecorded c good v c' good'
  stays = record { now = is.now; recorded = is.recorded; name = is.name; state = is.state; keeps = keeps; plexes = plex_stays; places = places; were_good = good_there }
