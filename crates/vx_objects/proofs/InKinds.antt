-- Records that stand in the order of their kinds are left as they are where they are sorted into kinds.
use Rattle.std.specs.Prelude.{nat_le, nat_lt}
use Rattle.std.specs.List.{filter_map, list_all}
use Rattle.std.specs.List.Sorted.{IsSortedBy}
use Rattle.std.proofs.Common.{◌≡◌, ℕ, suc, ◌+◌, ◌<◌, Bool, true, false, Option, Some, None, List, [], ◌∷◌, ◌++◌, map, length, get_or, refl, ◌∙◌, ap, subst, arith, append-nil}
use Rattle.std.proofs.lemmas.Bool.{and_parts, and_from}
use Rattle.std.proofs.lemmas.Bool.Decides.{nat_tests}
use Rattle.std.proofs.lemmas.List.Elements.{filter_map-append}
use Rattle.std.proofs.lemmas.List.MinMax.{IsStrictWeakOrder-by_number}
use Rattle.std.proofs.lemmas.List.Sorted.{sorted_far}
use Rattle.vx_base.specs.Named.{Word}
use Rattle.vx_config_parts.specs.declared.disk.Disk.{Disk}
use Rattle.vx_config_parts.specs.declared.subdisk.Subdisk.{Subdisk}
use Rattle.vx_config_parts.specs.declared.plex.Plex.{Plex}
use Rattle.vx_config_parts.specs.declared.vol.Vol.{Vol}
use Rattle.vx_config_parts.specs.declared.dco.Dco.{Dco}
use Rattle.vx_config_parts.specs.declared.snap.Snap.{Snap}
use Rattle.vx_config_parts.specs.declared.object.Object.{Object}
use Rattle.vx_config_parts.specs.declared.object.Object.TheVariants.{GroupRecord, DiskRecord, SubdiskRecord, PlexRecord, VolRecord, DcoRecord, SnapRecord}
use Rattle.vx_objects.specs.Laws.{place_of}
use Rattle.vx_objects.specs.Parts.{as_group, as_disk, as_subdisk, as_plex, as_vol, as_dco, as_snap, records_below, records_of, in_kinds}
use Rattle.vx_objects.specs.Printed.{kind_of}

none : {A B : Type 0} (pick : Object → Option B) (make : A → Object) → ((a : A) → pick (make a) ≡ None) → (xs : List A) → filter_map pick (map make xs) ≡ []
none pick make never [] = refl
none pick make never (x ∷ xs) = rw (never x, none pick make never xs) refl

each : {A : Type 0} (pick : Object → Option A) (make : A → Object) → ((a : A) → pick (make a) ≡ Some a) → (xs : List A) → filter_map pick (map make xs) ≡ xs
each pick make ever [] = refl
each pick make ever (x ∷ xs) = rw (ever x, each pick make ever xs) refl

module _ (disks : List Disk) (subdisks : List Subdisk) (plexes : List Plex) (volumes : List Vol) (dcos : List Dco) (snaps : List Snap) where
  across : {B : Type 0} (pick : Object → Option B) → filter_map pick (records_below disks subdisks plexes volumes dcos snaps) ≡ filter_map pick (map DiskRecord disks) ++ (filter_map pick (map SubdiskRecord subdisks) ++ (filter_map pick (map PlexRecord plexes) ++ (filter_map pick (map VolRecord volumes) ++ (filter_map pick (map DcoRecord dcos) ++ filter_map pick (map SnapRecord snaps)))))
  across pick = rw (filter_map-append, filter_map-append pick (map SubdiskRecord subdisks), filter_map-append pick (map PlexRecord plexes), filter_map-append pick (map VolRecord volumes), filter_map-append pick (map DcoRecord dcos)) refl

  groups_below : filter_map as_group (records_below disks subdisks plexes volumes dcos snaps) ≡ []
  groups_below = across as_group ∙ rw (none as_group DiskRecord (λ a. refl) disks, none as_group SubdiskRecord (λ a. refl) subdisks, none as_group PlexRecord (λ a. refl) plexes, none as_group VolRecord (λ a. refl) volumes, none as_group DcoRecord (λ a. refl) dcos, none as_group SnapRecord (λ a. refl) snaps) refl

  pub disks_below : filter_map as_disk (records_below disks subdisks plexes volumes dcos snaps) ≡ disks
  disks_below = across as_disk ∙ rw (each as_disk DiskRecord (λ a. refl) disks, none as_disk SubdiskRecord (λ a. refl) subdisks, none as_disk PlexRecord (λ a. refl) plexes, none as_disk VolRecord (λ a. refl) volumes, none as_disk DcoRecord (λ a. refl) dcos, none as_disk SnapRecord (λ a. refl) snaps) (append-nil disks)

  pub subdisks_below : filter_map as_subdisk (records_below disks subdisks plexes volumes dcos snaps) ≡ subdisks
  subdisks_below = across as_subdisk ∙ rw (none as_subdisk DiskRecord (λ a. refl) disks, each as_subdisk SubdiskRecord (λ a. refl) subdisks, none as_subdisk PlexRecord (λ a. refl) plexes, none as_subdisk VolRecord (λ a. refl) volumes, none as_subdisk DcoRecord (λ a. refl) dcos, none as_subdisk SnapRecord (λ a. refl) snaps) (append-nil subdisks)

  pub plexes_below : filter_map as_plex (records_below disks subdisks plexes volumes dcos snaps) ≡ plexes
  plexes_below = across as_plex ∙ rw (none as_plex DiskRecord (λ a. refl) disks, none as_plex SubdiskRecord (λ a. refl) subdisks, each as_plex PlexRecord (λ a. refl) plexes, none as_plex VolRecord (λ a. refl) volumes, none as_plex DcoRecord (λ a. refl) dcos, none as_plex SnapRecord (λ a. refl) snaps) (append-nil plexes)

  pub volumes_below : filter_map as_vol (records_below disks subdisks plexes volumes dcos snaps) ≡ volumes
  volumes_below = across as_vol ∙ rw (none as_vol DiskRecord (λ a. refl) disks, none as_vol SubdiskRecord (λ a. refl) subdisks, none as_vol PlexRecord (λ a. refl) plexes, each as_vol VolRecord (λ a. refl) volumes, none as_vol DcoRecord (λ a. refl) dcos, none as_vol SnapRecord (λ a. refl) snaps) (append-nil volumes)

  pub dcos_below : filter_map as_dco (records_below disks subdisks plexes volumes dcos snaps) ≡ dcos
  dcos_below = across as_dco ∙ rw (none as_dco DiskRecord (λ a. refl) disks, none as_dco SubdiskRecord (λ a. refl) subdisks, none as_dco PlexRecord (λ a. refl) plexes, none as_dco VolRecord (λ a. refl) volumes, each as_dco DcoRecord (λ a. refl) dcos, none as_dco SnapRecord (λ a. refl) snaps) (append-nil dcos)

  pub snaps_below : filter_map as_snap (records_below disks subdisks plexes volumes dcos snaps) ≡ snaps
  snaps_below = across as_snap ∙ rw (none as_snap DiskRecord (λ a. refl) disks, none as_snap SubdiskRecord (λ a. refl) subdisks, none as_snap PlexRecord (λ a. refl) plexes, none as_snap VolRecord (λ a. refl) volumes, none as_snap DcoRecord (λ a. refl) dcos, each as_snap SnapRecord (λ a. refl) snaps) refl

  -- the records of a configuration are sorted into their kinds
  pub are_sorted : (group : Word) (version : ℕ) → in_kinds (records_of group version disks subdisks plexes volumes dcos snaps) ≡ records_of group version disks subdisks plexes volumes dcos snaps
  are_sorted group version = rw (groups_below, disks_below, subdisks_below, plexes_below, volumes_below, dcos_below, snaps_below) refl

abbrev pub place : Object → ℕ
place o = place_of (kind_of o)

-- a record at or behind the place is none of an earlier kind
no_group : (n : ℕ) (o : Object) → 0 < n → nat_le n (place o) ≡ true → as_group o ≡ None
no_group n (GroupRecord g) lt h = absurd (grind (arith, nat_tests))
no_group n o lt h = refl

no_disk : (n : ℕ) (o : Object) → 1 < n → nat_le n (place o) ≡ true → as_disk o ≡ None
no_disk n (DiskRecord d) lt h = absurd (grind (arith, nat_tests))
no_disk n o lt h = refl

no_subdisk : (n : ℕ) (o : Object) → 2 < n → nat_le n (place o) ≡ true → as_subdisk o ≡ None
no_subdisk n (SubdiskRecord s) lt h = absurd (grind (arith, nat_tests))
no_subdisk n o lt h = refl

no_plex : (n : ℕ) (o : Object) → 3 < n → nat_le n (place o) ≡ true → as_plex o ≡ None
no_plex n (PlexRecord p) lt h = absurd (grind (arith, nat_tests))
no_plex n o lt h = refl

no_vol : (n : ℕ) (o : Object) → 4 < n → nat_le n (place o) ≡ true → as_vol o ≡ None
no_vol n (VolRecord v) lt h = absurd (grind (arith, nat_tests))
no_vol n o lt h = refl

no_dco : (n : ℕ) (o : Object) → 5 < n → nat_le n (place o) ≡ true → as_dco o ≡ None
no_dco n (DcoRecord d) lt h = absurd (grind (arith, nat_tests))
no_dco n o lt h = refl

gone : {B : Type 0} (pick : Object → Option B) (test : Object → Bool) → ((o : Object) → test o ≡ true → pick o ≡ None) → (os : List Object) → list_all test os ≡ true → filter_map pick os ≡ []
gone pick test never [] h = refl
gone pick test never (o ∷ os) h =
    let parts = and_parts (test o) (list_all test os) h in
    rw (never o parts.0, gone pick test never os parts.1) refl

all_from : (test : Object → Bool) (os : List Object) → ((k : ℕ) (d : Object) → k < length os → test (get_or os k d) ≡ true) → list_all test os ≡ true
all_from test [] h = refl
all_from test (o ∷ os) h = and_from (test o) (list_all test os) (h 0 o (omega arith)) (all_from test os (λ k d lt. h (suc k) d (omega arith)))

abbrev pub InOrder : List Object → Type 0
InOrder os = IsSortedBy (λ a b. nat_lt (place a) (place b)) os

at_least : (a b : ℕ) → nat_lt a b ≡ false → nat_le b a ≡ true
at_least a b h = grind (arith, nat_tests)

first_least : (o : Object) (os : List Object) → InOrder (o ∷ os) → list_all (λ p. nat_le (place o) (place p)) os ≡ true
first_least o os h =
    all_from (λ p. nat_le (place o) (place p)) os
    (λ k d lt. at_least (place (get_or os k d)) (place o) (sorted_far (λ a b. nat_lt (place a) (place b)) (IsStrictWeakOrder-by_number place) (o ∷ os) h 0 (suc k) d (omega arith) (omega arith)))

others : (o : Object) (os : List Object) → InOrder (o ∷ os) → InOrder os
others o os h = λ k d low high.
    let e : suc k + 1 ≡ suc (k + 1) = omega arith in
    subst (λ (n : ℕ). nat_lt (place (get_or (o ∷ os) n d)) (place (get_or (o ∷ os) (suc k) d)) ≡ false) e (h (suc k) d (omega arith) (omega arith))

-- the first record stands in front of those of its kind, and none is of an earlier one
first_kept : (o : Object) (os : List Object) → list_all (λ p. nat_le (place o) (place p)) os ≡ true → in_kinds os ≡ os → in_kinds (o ∷ os) ≡ o ∷ os
first_kept (GroupRecord g) os h e = ap (λ (rest : List Object). GroupRecord g ∷ rest) e
first_kept (DiskRecord d) os h e =
    let g = gone as_group _ (λ o t. no_group 1 o (omega arith) t) os h in
    rw g (ap (λ (rest : List Object). DiskRecord d ∷ rest) (rw g at e))
first_kept (SubdiskRecord s) os h e =
    let g = gone as_group _ (λ o t. no_group 2 o (omega arith) t) os h in
    let d = gone as_disk _ (λ o t. no_disk 2 o (omega arith) t) os h in
    rw (g, d) (ap (λ (rest : List Object). SubdiskRecord s ∷ rest) (rw (g, d) at e))
first_kept (PlexRecord p) os h e =
    let g = gone as_group _ (λ o t. no_group 3 o (omega arith) t) os h in
    let d = gone as_disk _ (λ o t. no_disk 3 o (omega arith) t) os h in
    let s = gone as_subdisk _ (λ o t. no_subdisk 3 o (omega arith) t) os h in
    rw (g, d, s) (ap (λ (rest : List Object). PlexRecord p ∷ rest) (rw (g, d, s) at e))
first_kept (VolRecord v) os h e =
    let g = gone as_group _ (λ o t. no_group 4 o (omega arith) t) os h in
    let d = gone as_disk _ (λ o t. no_disk 4 o (omega arith) t) os h in
    let s = gone as_subdisk _ (λ o t. no_subdisk 4 o (omega arith) t) os h in
    let p = gone as_plex _ (λ o t. no_plex 4 o (omega arith) t) os h in
    rw (g, d, s, p) (ap (λ (rest : List Object). VolRecord v ∷ rest) (rw (g, d, s, p) at e))
first_kept (DcoRecord x) os h e =
    let g = gone as_group _ (λ o t. no_group 5 o (omega arith) t) os h in
    let d = gone as_disk _ (λ o t. no_disk 5 o (omega arith) t) os h in
    let s = gone as_subdisk _ (λ o t. no_subdisk 5 o (omega arith) t) os h in
    let p = gone as_plex _ (λ o t. no_plex 5 o (omega arith) t) os h in
    let v = gone as_vol _ (λ o t. no_vol 5 o (omega arith) t) os h in
    rw (g, d, s, p, v) (ap (λ (rest : List Object). DcoRecord x ∷ rest) (rw (g, d, s, p, v) at e))
first_kept (SnapRecord x) os h e =
    let g = gone as_group _ (λ o t. no_group 6 o (omega arith) t) os h in
    let d = gone as_disk _ (λ o t. no_disk 6 o (omega arith) t) os h in
    let s = gone as_subdisk _ (λ o t. no_subdisk 6 o (omega arith) t) os h in
    let p = gone as_plex _ (λ o t. no_plex 6 o (omega arith) t) os h in
    let v = gone as_vol _ (λ o t. no_vol 6 o (omega arith) t) os h in
    let c = gone as_dco _ (λ o t. no_dco 6 o (omega arith) t) os h in
    rw (g, d, s, p, v, c) (ap (λ (rest : List Object). SnapRecord x ∷ rest) (rw (g, d, s, p, v, c) at e))

-- records in the order of their kinds stay as they are
pub stay : (os : List Object) → InOrder os → in_kinds os ≡ os
stay [] h = refl
stay (o ∷ os) h = first_kept o os (first_least o os h) (stay os (others o os h))
