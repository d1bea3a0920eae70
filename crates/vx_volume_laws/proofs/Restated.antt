-- A configuration of which states have changed keeps its volumes.
use Rattle.std.proofs.Common.{◌≡◌, ℕ, zero, suc, ◌+◌, Bool, true, false, cond, not, Option, Some, None, List, [], ◌∷◌, length, refl, sym, ap, ◌∙◌, subst}
use Rattle.std.specs.Prelude.{◌&&◌, ◌||◌, ◌==◌, Contains}
use Rattle.std.specs.List.{AllZip, filter, find, list_all}
use Rattle.std.proofs.lemmas.Bool.{and_parts, and_from, false≢true}
use Rattle.vx_base.specs.Named.{Word}
use Rattle.vx_mask.specs.Mask.{has}
use Rattle.vx_layout.specs.declared.strip.Strip.{Strip}
use Rattle.vx_config_parts.specs.declared.disk.Disk.{Disk}
use Rattle.vx_config_parts.specs.declared.plex.Plex.{Plex}
use Rattle.vx_config_parts.specs.declared.state.PlexState.{PlexState}
use Rattle.vx_config_parts.specs.declared.state.PlexState.TheVariants as plex
use Rattle.vx_config_parts.specs.declared.subdisk.Subdisk.{Subdisk}
use Rattle.vx_config_parts.specs.declared.vol.Vol.{Vol}
use Rattle.vx_config_parts.specs.Objects.{is_data_plex_of, is_log_plex_of, refers}
use Rattle.vx_rules.specs.Columns.{is_in_column}
use Rattle.vx_objects.specs.declared.config.Config.{Config}
use Rattle.vx_image.specs.Lies.{columns_from, slot_of, strip_of, strip_then, strips_from}
use Rattle.vx_image.proofs.PlexMembers.{IsIn}
use Rattle.vx_image.specs.Bytes.{is_active, is_held, map_or_zero, relation_maps}
use Rattle.vx_image.proofs.Members.{contains, is_in}
use Rattle.vx_image.specs.UsedPlexes.{is_used_log, is_used_state, used_logs}
use Rattle.vx_lending.proofs.Bits.{kept}
use Rattle.vx_lending.proofs.Distinct.{filtered}
use Rattle.vx_volume_laws.specs.Keeping.{ChangesStates, EachRestatedVolumeIsKept, IsRestated, KeepsLogPlex, KeepsPlex, LiesStill}
use Rattle.vx_volume_laws.proofs.Plexes.{zip_right}

-- ---- lists

-- two lists that go together do so where each is filtered alike
pub zip_filter : {A B : Type 0} (R S : A → B → Type 0) (t : A → Bool) (u : B → Bool) → ((x : A) (y : B) → R x y → u y ≡ t x) → ((x : A) (y : B) → R x y → t x ≡ true → S x y) →
    (xs : List A) (ys : List B) → AllZip R xs ys → AllZip S (filter t xs) (filter u ys)
zip_filter R S t u alike each [] [] h = tt
zip_filter R S t u alike each [] (y ∷ ys) h = absurd h
zip_filter R S t u alike each (x ∷ xs) [] h = absurd h
zip_filter R S t u alike each (x ∷ xs) (y ∷ ys) h =
    subst (λ (b : Bool). AllZip S (cond (t x) (x ∷ filter t xs) (filter t xs)) (cond b (y ∷ filter u ys) (filter u ys))) (sym (alike x y h.0)) (by (t x) refl (zip_filter R S t u alike each xs ys h.1))
  where
    by : (b : Bool) → t x ≡ b → AllZip S (filter t xs) (filter u ys) → AllZip S (cond b (x ∷ filter t xs) (filter t xs)) (cond b (y ∷ filter u ys) (filter u ys))
    by true e rest = (each x y h.0 e, rest)
    by false e rest = rest

all_weaker : {A : Type 0} (t u : A → Bool) → ((x : A) → t x ≡ true → u x ≡ true) → (xs : List A) → list_all t xs ≡ true → list_all u xs ≡ true
all_weaker t u weaker [] h = refl
all_weaker t u weaker (x ∷ xs) h = let w = and_parts (t x) (list_all t xs) h in and_from _ _ (weaker x w.0) (all_weaker t u weaker xs w.1)

-- ---- columns

module _ (c0 c : Config) (disks : c.disks ≡ c0.disks) (subdisks : c.subdisks ≡ c0.subdisks) where
  strips_same : (n : ℕ) (name : Word) (col at : ℕ) → strips_from n c name col at ≡ strips_from n c0 name col at
  strips_same zero name col at = refl
  strips_same (suc n) name col at =
      ap (λ (ds : List Disk). strip_then ds (find (λ s. is_in_column name col s && s.at == at) c.subdisks) (λ next. strips_from n c name col next)) disks
      ∙ ap (λ (ss : List Subdisk). strip_then c0.disks (find (λ s. is_in_column name col s && s.at == at) ss) (λ next. strips_from n c name col next)) subdisks
      ∙ by (λ s. strips_same n name col (s.at + s.len)) (find (λ s. is_in_column name col s && s.at == at) c0.subdisks)
    where
      by : ((s : Subdisk) → strips_from n c name col (s.at + s.len) ≡ strips_from n c0 name col (s.at + s.len)) → (o : Option Subdisk) → strip_then c0.disks o (λ next. strips_from n c name col next) ≡ strip_then c0.disks o (λ next. strips_from n c0 name col next)
      by rest None = refl
      by rest (Some s) = ap (λ (more : List Strip). strip_of c0.disks s ∷ more) (rest s)

  pub columns_same : (n : ℕ) (name : Word) (col : ℕ) → columns_from n c name col ≡ columns_from n c0 name col
  columns_same zero name col = refl
  columns_same (suc n) name col =
      ap (λ (ss : List Subdisk). strips_from (length ss) c name col 0 ∷ columns_from n c name (col + 1)) subdisks
      ∙ ap (λ (strips : List Strip). strips ∷ columns_from n c name (col + 1)) (strips_same (length c0.subdisks) name col 0)
      ∙ ap (λ (rest : List (List Strip)). strips_from (length c0.subdisks) c0 name col 0 ∷ rest) (columns_same n name (col + 1))

  held_same : (good0 good : ℕ) → ((slot : ℕ) → has good slot ≡ true → has good0 slot ≡ true) → (p q : Plex) → q.name ≡ p.name → is_held c good q ≡ true → is_held c0 good0 p ≡ true
  held_same good0 good failed p q name held =
      all_weaker (λ (s : Subdisk). not (refers s.plex p.name) || has good (slot_of c0.disks s.disk)) (λ (s : Subdisk). not (refers s.plex p.name) || has good0 (slot_of c0.disks s.disk))
      (λ s h. weaker (not (refers s.plex p.name)) (has good (slot_of c0.disks s.disk)) (has good0 (slot_of c0.disks s.disk)) (failed (slot_of c0.disks s.disk)) h) c0.subdisks
      (subst (λ (ss : List Subdisk). list_all (λ (s : Subdisk). not (refers s.plex p.name) || has good (slot_of c0.disks s.disk)) ss ≡ true) subdisks
      (subst (λ (ds : List Disk). list_all (λ (s : Subdisk). not (refers s.plex p.name) || has good (slot_of ds s.disk)) c.subdisks ≡ true) disks
      (subst (λ (n : Word). list_all (λ (s : Subdisk). not (refers s.plex n) || has good (slot_of c.disks s.disk)) c.subdisks ≡ true) name held)))
    where
      weaker : (a b d : Bool) → (b ≡ true → d ≡ true) → (a || b) ≡ true → (a || d) ≡ true
      weaker true b d more h = refl
      weaker false b d more h = more h

-- ---- the configuration

used_is_active : (s : PlexState) → is_used_state false s ≡ true → is_active s ≡ true
used_is_active plex.Empty h = absurd (false≢true h)
used_is_active plex.Clean h = h
used_is_active plex.Active h = refl
used_is_active plex.IoFail h = h
used_is_active plex.Stale h = h
used_is_active plex.SnapAtt h = h
used_is_active plex.SnapDone h = h
used_is_active plex.DcoSnp h = h

module _ (c0 : Config) (good0 : ℕ) (v0 : Vol) (fresh : Bool) (c : Config) (good : ℕ) (v : Vol) (changes : ChangesStates c0 good0 v0 fresh c good v) where
  name_is : v.name ≡ v0.name
  name_is = ap (λ (x : Vol). x.name) changes.vol

  dco_is : v.dco ≡ v0.dco
  dco_is = ap (λ (x : Vol). x.dco) changes.vol

  lies_still : (p q : Plex) → IsRestated v0.name fresh p q → LiesStill c0 c p q
  lies_still p q r =
      record {
        unit = ap (λ (x : Plex). x.unit) r.same;
        columns = ap (λ (x : Plex). columns_from x.ncol c x.name 0) r.same ∙ columns_same c0 c changes.disks changes.subdisks p.ncol p.name 0;
      }

  plex_kept : (p q : Plex) → IsRestated v0.name fresh p q → is_data_plex_of v0.name p ≡ true → KeepsPlex c0 good0 c good p q
  plex_kept p q r own =
      record {
        name = ap (λ (x : Plex). x.name) r.same;
        map = ap (λ (x : Plex). map_or_zero x.map) r.same;
        lies = lies_still p q r;
        available = r.available own;
        held = held_same c0 c changes.disks changes.subdisks good0 good changes.failed p q (ap (λ (x : Plex). x.name) r.same);
      }

  data_alike : (p q : Plex) → IsRestated v0.name fresh p q → is_data_plex_of v.name q ≡ is_data_plex_of v0.name p
  data_alike p q r = ap (λ (n : Word). is_data_plex_of n q) name_is ∙ ap (λ (x : Plex). is_data_plex_of v0.name x) r.same

  log_kept : (dco dco0 : Option Word) → dco ≡ dco0 → (q : Plex) → IsIn (used_logs dco c good false v.name) q → (p : Plex) × Contains (used_logs dco0 c0 good0 fresh v0.name) p × LiesStill c0 c p q
  log_kept None dco0 e q there = absurd there
  log_kept (Some d) None e q there = absurd cc
  log_kept (Some d) (Some d0) e q there =
      let w = filtered (is_used_log c good false v.name) c.plexes q there in
      let z = zip_right (IsRestated v0.name fresh) c0.plexes c.plexes changes.plexes q w.0 in
      let p = z.0 in
      let r = z.2 in
      let first = and_parts (is_log_plex_of v.name q) (is_used_state false q.state && is_held c good q) w.1 in
      let second = and_parts (is_used_state false q.state) (is_held c good q) first.1 in
      let log : is_log_plex_of v0.name p ≡ true = sym (ap (λ (n : Word). is_log_plex_of n q) name_is ∙ ap (λ (x : Plex). is_log_plex_of v0.name x) r.same) ∙ first.0 in
      let used = sym (r.active log) ∙ used_is_active q.state second.0 in
      let held = held_same c0 c changes.disks changes.subdisks good0 good changes.failed p q (ap (λ (x : Plex). x.name) r.same) second.1 in
      (p, contains (used_logs (Some d0) c0 good0 fresh v0.name) p (kept (is_used_log c0 good0 fresh v0.name) c0.plexes p z.1 (and_from _ _ log (and_from _ _ used held))), lies_still p q r)

  log_plex_kept : (p q : Plex) → IsRestated v0.name fresh p q → is_log_plex_of v0.name p ≡ true → KeepsLogPlex c0 fresh c p q
  log_plex_kept p q r own = record { name = ap (λ (x : Plex). x.name) r.same; lies = lies_still p q r; used = r.active own }

  log_alike : (p q : Plex) → IsRestated v0.name fresh p q → is_log_plex_of v.name q ≡ is_log_plex_of v0.name p
  log_alike p q r = ap (λ (n : Word). is_log_plex_of n q) name_is ∙ ap (λ (x : Plex). is_log_plex_of v0.name x) r.same

pub restated_kept : EachRestatedVolumeIsKept
restated_kept c0 good0 v0 fresh c good v changes =
    record {
      length_is = ap (λ (x : Vol). x.len) changes.vol;
      region_is = ap (λ (x : Vol). x.region) changes.vol;
      dco = dco_is c0 good0 v0 fresh c good v changes;
      plexes = zip_filter (IsRestated v0.name fresh) (KeepsPlex c0 good0 c good) (is_data_plex_of v0.name) (is_data_plex_of v.name) (data_alike c0 good0 v0 fresh c good v changes) (plex_kept c0 good0 v0 fresh c good v changes) c0.plexes c.plexes changes.plexes;
      logs = λ q one. log_kept c0 good0 v0 fresh c good v changes v.dco v0.dco (dco_is c0 good0 v0 fresh c good v changes) q (is_in (used_logs v.dco c good false v.name) q one);
      log_plexes_are = zip_filter (IsRestated v0.name fresh) (KeepsLogPlex c0 fresh c) (is_log_plex_of v0.name) (is_log_plex_of v.name) (log_alike c0 good0 v0 fresh c good v changes) (log_plex_kept c0 good0 v0 fresh c good v changes) c0.plexes c.plexes changes.plexes;
      relations = ap (λ ss. relation_maps ss v.name) changes.snaps ∙ ap (λ (n : Word). relation_maps c0.snaps n) (name_is c0 good0 v0 fresh c good v changes);
    }
