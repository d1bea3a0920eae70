-- The logs of a form: how many there are, and how large they are.
use Rattle.std.proofs.Common.{◌≡◌, ℕ, ◌+◌, ◌*◌, ◌/◌, ◌≤◌, Bool, true, false, cond, Option, Some, None, List, [], ◌∷◌, ◌++◌, length, map, refl, sym, ap, ◌∙◌, subst, arith}
use Rattle.std.specs.Prelude.{◌&&◌, nat_le}
use Rattle.std.specs.List.{count_by, filter}
use Rattle.std.proofs.lemmas.Bool.{and_parts, and_from, false≢true, leb-true}
use Rattle.vx_base.specs.Named.{Word}
use Rattle.vx_block.specs.Regions.{region_count}
use Rattle.vx_layout.specs.declared.layout.Layout.{Layout}
use Rattle.vx_layout.specs.Columns.{capacity}
use Rattle.vx_mapfmt.specs.Sizes.{parts_of, map_bytes_of, plex_bytes_of}
use Rattle.vx_config_parts.specs.declared.object.Object.{Object}
use Rattle.vx_config_parts.specs.declared.object.Object.TheVariants.{GroupRecord, DiskRecord, SubdiskRecord, PlexRecord, VolRecord, DcoRecord, SnapRecord}
use Rattle.vx_config_parts.specs.declared.plex.Plex.{Plex}
use Rattle.vx_config_parts.specs.declared.state.PlexState.{PlexState}
use Rattle.vx_config_parts.specs.declared.state.PlexState.TheVariants as plex
use Rattle.vx_config_parts.specs.declared.vol.Vol.{Vol}
use Rattle.vx_config_parts.specs.Objects.{is_plex, is_log_plex_of}
use Rattle.vx_rules.specs.Sizes.{log_length}
use Rattle.vx_rules.proofs.ListTests.{count_more}
use Rattle.vx_rules.specs.Maps.{is_in_use, log_count, logs_are_good}
use Rattle.vx_objects.specs.declared.config.Config.{Config}
use Rattle.vx_objects.specs.Config.{objects_of}
use Rattle.vx_image.specs.Lies.{columns_of}
use Rattle.vx_image.proofs.PlexMembers.{one_in, plex_in}
use Rattle.vx_image.proofs.Plexes.{config_valid}
use Rattle.vx_image.proofs.Shapes.{holds_its_log}
use Rattle.vx_image.specs.Bytes.{is_held}
use Rattle.vx_lending.specs.declared.form.VolumeForm.{VolumeForm}
use Rattle.vx_image.specs.UsedPlexes.{IsVolOf, used_logs, is_used_log, is_used_state}
use Rattle.vx_lending.specs.Form.{IsLayoutOf, IsFormOf}
use Rattle.vx_lending.specs.FormLaws.{HasLogs}
use Rattle.vx_lending.proofs.Rules.{vol_logs}
use Rattle.vx_lending.proofs.Places.{log_taken}
use Rattle.vx_lending.proofs.Zips.{zip_length, zip_all}

-- ---- how many

count_behind : (test : Object → Bool) (xs ys : List Object) → count_by test ys ≤ count_by test (xs ++ ys)
count_behind test [] ys = omega arith
count_behind test (x ∷ xs) ys = let more = count_more test x (xs ++ ys) in let rest = count_behind test xs ys in omega (arith, more, rest)

count_before : (test : Object → Bool) (xs ys : List Object) → count_by test xs ≤ count_by test (xs ++ ys)
count_before test [] ys = omega arith
count_before test (x ∷ xs) ys = let more = count_more test x (xs ++ ys) in let here = count_more test x xs in let rest = count_before test xs ys in omega (arith, more, here, rest)

-- the plexes among the records are those of the configuration
count_plexes : (c : Config) (test : Object → Bool) → count_by test (map PlexRecord c.plexes) ≤ count_by test (objects_of c)
count_plexes c test =
    let behind = map VolRecord c.volumes ++ (map DcoRecord c.dcos ++ map SnapRecord c.snaps) in
    let below = map DiskRecord c.disks ++ (map SubdiskRecord c.subdisks ++ (map PlexRecord c.plexes ++ behind)) in
    let first = count_before test (map PlexRecord c.plexes) behind in
    let second = count_behind test (map SubdiskRecord c.subdisks) (map PlexRecord c.plexes ++ behind) in
    let third = count_behind test (map DiskRecord c.disks) (map SubdiskRecord c.subdisks ++ (map PlexRecord c.plexes ++ behind)) in
    let fourth = count_more test (GroupRecord (record { name = c.group; version = c.version })) below in
    omega (arith, first, second, third, fourth)

-- what passes one test passes the other
few_pass : (test other : Plex → Bool) → ((p : Plex) → test p ≡ true → other p ≡ true) → (ps : List Plex) → length (filter test ps) ≤ count_by (λ o. is_plex other o) (map PlexRecord ps)
few_pass test other weaker [] = omega arith
few_pass test other weaker (p ∷ ps) = by (test p) (other p) (weaker p) (count_more (λ o. is_plex other o) (PlexRecord p) (map PlexRecord ps)) (few_pass test other weaker ps)
  where
    by : (a b : Bool) → (a ≡ true → b ≡ true) → count_by (λ o. is_plex other o) (PlexRecord p ∷ map PlexRecord ps) ≡ cond b 1 0 + count_by (λ o. is_plex other o) (map PlexRecord ps) →
        length (filter test ps) ≤ count_by (λ o. is_plex other o) (map PlexRecord ps) → length (cond a (p ∷ filter test ps) (filter test ps)) ≤ count_by (λ o. is_plex other o) (PlexRecord p ∷ map PlexRecord ps)
    by true true w more rest = omega (arith, more, rest)
    by true false w more rest = absurd (false≢true (w refl))
    by false b w more rest = omega (arith, more, rest)

used_in : (fresh : Bool) (s : PlexState) → is_used_state fresh s ≡ true → is_in_use s ≡ true
used_in fresh plex.Empty h = refl
used_in fresh plex.Clean h = h
used_in fresh plex.Active h = refl
used_in fresh plex.IoFail h = h
used_in fresh plex.Stale h = h
used_in fresh plex.SnapAtt h = h
used_in fresh plex.SnapDone h = h
used_in fresh plex.DcoSnp h = h

few_logs : (c : Config) (good : ℕ) (fresh : Bool) (vol : Word) (dco : Option Word) → logs_are_good (objects_of c) vol dco ≡ true → length (used_logs dco c good fresh vol) ≤ 2
few_logs c good fresh vol None h = omega arith
few_logs c good fresh vol (Some dco) h =
    let most = leb-true (log_count (objects_of c) vol) 2 (and_parts (nat_le 1 (log_count (objects_of c) vol)) (nat_le (log_count (objects_of c) vol) 2) h).1 in
    let some = few_pass (is_used_log c good fresh vol) (λ p. is_log_plex_of vol p && is_in_use p.state) (λ p used.
    let parts = and_parts (is_log_plex_of vol p) (is_used_state fresh p.state && is_held c good p) used in
    and_from _ _ parts.0 (used_in fresh p.state (and_parts (is_used_state fresh p.state) (is_held c good p) parts.1).0)) c.plexes in
    let all = count_plexes c (λ o. is_plex (λ p. is_log_plex_of vol p && is_in_use p.state) o) in
    omega (arith, most, some, all)

-- ---- how large

whole_sectors : (x n : ℕ) → (3 + 32) * (x * 8192) / 512 ≤ n → (3 + 32) * (x * 8192) ≤ 512 * n
whole_sectors x n h = omega (arith, h)

bytes_fit : (length region n : ℕ) → log_length length region ≤ n → plex_bytes_of 32 (map_bytes_of (region_count length region)) ≤ 512 * n
bytes_fit length region n h = whole_sectors (parts_of 8192 (512 + parts_of 8 (region_count length region))) n h

none_empty : {A : Type 0} (xs : List A) → length xs ≡ 0 → xs ≡ []
none_empty [] e = refl
none_empty (x ∷ xs) e = absurd (omega (arith, e))

pub logs_are : (c : Config) (good : ℕ) (v : Vol) (fresh : Bool) (form : VolumeForm) → IsVolOf c v → IsFormOf c good v fresh form → HasLogs v form
logs_are c good v fresh form of is =
    let long = zip_length (IsLayoutOf c) (used_logs v.dco c good fresh v.name) form.logs.items is.logs in
    let few = few_logs c good fresh v.name v.dco (vol_logs c v of) in
    record {
      few = omega (arith, long, few);
      none = λ e. none_empty form.logs.items (long ∙ ap (λ dco. length (used_logs dco c good fresh v.name)) e);
      room = zip_all (IsLayoutOf c) (λ (l : Layout). plex_bytes_of 32 (map_bytes_of (region_count form.shape.geometry.length form.shape.geometry.region)) ≤ 512 * capacity l.columns) (used_logs v.dco c good fresh v.name) form.logs.items is.logs (λ p l h r.
          let a = log_taken c good v fresh v.dco p h in
          let fits = holds_its_log c (config_valid c) p (plex_in c p a.0.there) v (one_in (objects_of c) (VolRecord v) of) a.1 in
          let room : plex_bytes_of 32 (map_bytes_of (region_count v.len v.region)) ≤ 512 * capacity (columns_of c p) = bytes_fit v.len v.region (capacity (columns_of c p)) fits in
          subst (λ n. plex_bytes_of 32 (map_bytes_of n) ≤ 512 * capacity l.columns) (sym (ap (λ n. region_count n form.shape.geometry.region) is.shape_is.length_is ∙ ap (λ n. region_count v.len n) is.shape_is.region_is))
          (subst (λ columns. plex_bytes_of 32 (map_bytes_of (region_count v.len v.region)) ≤ 512 * capacity columns) (sym r.columns) room));
    }
