-- A volume is removed with all that belongs to it: no rule is broken.
use Rattle.std.proofs.Common.{◌≡◌, ℕ, ◌≤◌, Bool, true, false, not, ◌&&◌, ◌||◌, ◌==◌, Option, Some, None, List, [], ◌∷◌, ◌++◌, refl, sym, ◌∙◌, ap, subst, add-zero, le_trans}
use Rattle.std.specs.List.{list_any, count_by, filter_map}
use Rattle.std.specs.Str.{bytes_eq}
use Rattle.std.proofs.lemmas.Bool.{or_parts, and_from}
use Rattle.vx_base.specs.Named.{Word}
use Rattle.vx_base.proofs.NamedLemmas.{bytes_eq_self, bytes_eq_same}
use Rattle.vx_copies.specs.Lists.{AllOf}
use Rattle.vx_config_parts.specs.declared.group.Group.{Group}
use Rattle.vx_config_parts.specs.declared.disk.Disk.{Disk}
use Rattle.vx_config_parts.specs.declared.subdisk.Subdisk.{Subdisk}
use Rattle.vx_config_parts.specs.declared.plex.Plex.{Plex}
use Rattle.vx_config_parts.specs.declared.vol.Vol.{Vol}
use Rattle.vx_config_parts.specs.declared.dco.Dco.{Dco}
use Rattle.vx_config_parts.specs.declared.snap.Snap.{Snap}
use Rattle.vx_config_parts.specs.declared.object.Object.{Object}
use Rattle.vx_config_parts.specs.declared.object.Object.TheVariants.{GroupRecord, DiskRecord, SubdiskRecord, PlexRecord, VolRecord, DcoRecord, SnapRecord}
use Rattle.vx_config_parts.specs.declared.fault.ObjectFault.TheVariants.{NoObject}
use Rattle.vx_config_parts.specs.Objects.{name_of, is_group, is_disk, is_subdisk, is_plex, is_vol, is_dco, is_snap, refers}
use Rattle.vx_rules.specs.Faults.{unless}
use Rattle.vx_rules.specs.Named.{first_named, as_plex}
use Rattle.vx_rules.specs.References.{has_vol, repeated_after}
use Rattle.vx_rules.specs.Rules.{first_broken}
use Rattle.vx_rules.proofs.InOrder.{names_differ}
use Rattle.vx_rules.proofs.Lookups.{passes, any_plex}
use Rattle.vx_objects.specs.declared.edit.Edit.TheVariants.{RemoveVol}
use Rattle.vx_objects.specs.Edits.{stays_without_vol, names_plex_of, kept, change, added, target_fault, refusal_of}
use Rattle.vx_objects.specs.Parts.{in_kinds}
use Rattle.vx_plan_laws.proofs.Counts.{not_true, second_of_two, and_never, turned, count_append, count_like, count_le, count_without, count_filter_map, all_append, all_filter_map, all_both, IsAmong, each_among}
use Rattle.vx_plan_laws.proofs.Differ.{AreOnce, once}
use Rattle.vx_plan_laws.proofs.FirstRefusals.{IsFine, AreFine, unless_true, both_none, each_holds, over_all, in_all}
use Rattle.vx_plan_laws.proofs.OneRule.{OfName}
use Rattle.vx_plan_laws.proofs.Keeps.{Keeps, IsSame, IsOn, any_same, record_kept, over_kept}
use Rattle.vx_plan_laws.proofs.KindOrder.{slot_kept, sorted}

guarded : (a b : Bool) → (b ≡ true → a ≡ true) → (a && b) ≡ b
guarded true b on = refl
guarded false true on = on refl
guarded false false on = refl

and_other : (a b : Bool) → (a && b) ≡ false → a ≡ true → b ≡ false
and_other true b e is = e
and_other false b e is = cc

passes_kept : (test : Object → Bool) (stays : Bool) (o : Object) → passes test (kept stays o) ≡ (stays && test o)
passes_kept test true o = refl
passes_kept test false o = refl

kept_is : (stays : Bool) (o p : Object) → kept stays o ≡ Some p → (stays ≡ true) × (o ≡ p)
kept_is true o p e = (refl, cc)
kept_is false o p e = absurd (cc)

flips : (a b : Word) → bytes_eq a b ≡ bytes_eq b a
flips a b = by (bytes_eq a b) (bytes_eq b a) (λ is. subst (λ (x : Word). bytes_eq b x ≡ true) (sym (bytes_eq_same a b is)) (bytes_eq_self b)) (λ is. subst (λ (x : Word). bytes_eq a x ≡ true) (sym (bytes_eq_same b a is)) (bytes_eq_self a))
  where
    by : (x y : Bool) → (x ≡ true → y ≡ true) → (y ≡ true → x ≡ true) → x ≡ y
    by true y f g = sym (f refl)
    by false true f g = g refl
    by false false f g = refl

-- what the attribute names
refers_is : (a : Option Word) (name : Word) → refers a name ≡ true → a ≡ Some name
refers_is None name e = cc
refers_is (Some other) name e = ap (λ (n : Word). Some n) (bytes_eq_same other name e)

fails_then : (found : Option Plex) (test : Plex → Bool) → passes (λ p. not (test p)) found ≡ true → passes test found ≡ false
fails_then None test e = refl
fails_then (Some p) test e = not_true (test p) e

module _ (vol : Word) (old : List Object) where
  abbrev stays : Object → Bool
  stays o = stays_without_vol vol old o

  abbrev now : List Object
  now = filter_map (λ o. kept (stays o) o) old ++ []

  -- volumes of another name stay, and plexes whose name no plex of the volume has
  abbrev Vols : Word → Type 0
  Vols name = bytes_eq name vol ≡ false

  abbrev Plexes : Word → Type 0
  Plexes name = names_plex_of (Some name) vol old ≡ false

  stayed : (test : Object → Bool) → count_by test now ≡ count_by (λ o. stays o && test o) old
  stayed test =
      count_append test (filter_map (λ o. kept (stays o) o) old) []
      ∙ add-zero (count_by test (filter_map (λ o. kept (stays o) o) old))
      ∙ count_filter_map test (λ o. kept (stays o) o) old
      ∙ count_like (λ o. passes test (kept (stays o) o)) (λ o. stays o && test o) old (λ o. passes_kept test (stays o) o)

  -- where all that pass stay
  same : (test : Object → Bool) → ((o : Object) → test o ≡ true → stays o ≡ true) → IsSame old now test
  same test on = stayed test ∙ count_like (λ o. stays o && test o) test old (λ o. guarded (stays o) (test o) (on o))

  fewer : (test : Object → Bool) → count_by test now ≤ count_by test old
  fewer test = subst (λ (n : ℕ). n ≤ count_by test old) (sym (stayed test)) (count_le (λ o. stays o && test o) test old (λ o is. second_of_two (stays o) (test o) is))

  -- another name is not the volume's
  other : (name own : Word) → Vols name → own ≡ name → bytes_eq own vol ≡ false
  other name own on is = subst (λ (n : Word). bytes_eq n vol ≡ false) (sym is) on

  group_stays : (test : Group → Bool) (o : Object) → is_group test o ≡ true → stays o ≡ true
  group_stays test (GroupRecord g) e = refl
  group_stays test o e = cc

  disk_stays : (test : Disk → Bool) (o : Object) → is_disk test o ≡ true → stays o ≡ true
  disk_stays test (DiskRecord d) e = refl
  disk_stays test o e = cc

  snap_stays : (test : Snap → Bool) (o : Object) → is_snap test o ≡ true → stays o ≡ true
  snap_stays test (SnapRecord s) e = refl
  snap_stays test o e = cc

  subdisk_stays : (plex : Word) (test : Subdisk → Bool) → Plexes plex → ((s : Subdisk) → test s ≡ true → refers s.plex plex ≡ true) → (o : Object) → is_subdisk test o ≡ true → stays o ≡ true
  subdisk_stays plex test on asks (SubdiskRecord s) e = ap not (subst (λ (a : Option Word). names_plex_of a vol old ≡ false) (sym (refers_is s.plex plex (asks s e))) on)
  subdisk_stays plex test on asks o e = cc

  plex_stays : (name : Word) (test : Plex → Bool) → Vols name → ((p : Plex) → test p ≡ true → refers p.vol name ≡ true) → (o : Object) → is_plex test o ≡ true → stays o ≡ true
  plex_stays name test on asks (PlexRecord p) e = ap not (subst (λ (a : Option Word). refers a vol ≡ false) (sym (refers_is p.vol name (asks p e))) on)
  plex_stays name test on asks o e = cc

  vol_stays : (name : Word) (test : Vol → Bool) → Vols name → ((v : Vol) → test v ≡ true → bytes_eq v.name name ≡ true) → (o : Object) → is_vol test o ≡ true → stays o ≡ true
  vol_stays name test on asks (VolRecord v) e = ap not (other name v.name on (bytes_eq_same v.name name (asks v e)))
  vol_stays name test on asks o e = cc

  dco_stays : (name : Word) (test : Dco → Bool) → Vols name → ((d : Dco) → test d ≡ true → bytes_eq d.vol name ≡ true) → (o : Object) → is_dco test o ≡ true → stays o ≡ true
  dco_stays name test on asks (DcoRecord d) e = ap not (other name d.vol on (bytes_eq_same d.vol name (asks d e)))
  dco_stays name test on asks o e = cc

  -- a plex of that name is none of the volume's
  named_stays : (name : Word) (test : Plex → Bool) → ((p : Plex) → test p ≡ true → bytes_eq p.name name ≡ true)
      → (o : Object) → is_plex (λ p. refers (Some name) p.name && refers p.vol vol) o ≡ false → (stays o && is_plex test o) ≡ is_plex test o
  named_stays name test asks (PlexRecord p) none = guarded (not (refers p.vol vol)) (test p) (λ is. ap not (and_other (bytes_eq name p.name) (refers p.vol vol) none (flips name p.name ∙ asks p is)))
  named_stays name test asks o none = and_never (stays o)

  keeps : Keeps old now Vols Plexes
  keeps = record {
    groups = λ test. same (λ o. is_group test o) (group_stays test);
    disks = λ test e. any_same old now (λ o. is_disk test o) (same (λ o. is_disk test o) (disk_stays test)) ∙ e;
    subdisks = λ plex test on asks. same (λ o. is_subdisk test o) (subdisk_stays plex test on asks);
    plexes = λ plex test on asks. stayed (λ o. is_plex test o) ∙ count_without (λ o. is_plex (λ p. refers (Some plex) p.name && refers p.vol vol) o) (λ o. stays o && is_plex test o) (λ o. is_plex test o) old on (named_stays plex test asks);
    plexes_of = λ name test on asks. same (λ o. is_plex test o) (plex_stays name test on asks);
    volumes = λ name test on asks. same (λ o. is_vol test o) (vol_stays name test on asks.named);
    dcos = λ name test on asks. same (λ o. is_dco test o) (dco_stays name test on asks);
    snaps = λ test. same (λ o. is_snap test o) (snap_stays test);
    few_subdisks = λ test. fewer (λ o. is_subdisk test o);
    few_volumes = fewer (λ o. is_vol (λ v. true) o);
  }

  of_plex : (a : Option Word) → names_plex_of a vol old ≡ false → OfName Plexes a
  of_plex None e = tt
  of_plex (Some name) e = e

  of_vol : (a : Option Word) → refers a vol ≡ false → OfName Vols a
  of_vol None e = tt
  of_vol (Some name) e = e

  module _ (over : AreFine old) (each : AllOf (IsFine old) old) (differ : repeated_after [] old ≡ None) (unrelated : list_any (λ o. is_snap (λ s. bytes_eq s.vol vol || bytes_eq s.of vol) o) old ≡ false) where
    -- no plex of the volume has the name of one that stays
    own_name : (p : Plex) → refers p.vol vol ≡ false → IsAmong old (PlexRecord p) → Plexes p.name
    own_name p free among =
        any_plex old differ p.name (λ q. refers (Some p.name) q.name && refers q.vol vol) (λ q. refers q.vol vol) (λ q. ap (λ (b : Bool). b && refers q.vol vol) (flips p.name q.name))
        ∙ fails_then (as_plex (first_named p.name old)) (λ q. refers q.vol vol)
        (sym (any_plex old differ p.name (λ q. bytes_eq q.name p.name && not (refers q.vol vol)) (λ q. not (refers q.vol vol)) (λ q. refl))
        ∙ among (λ o. is_plex (λ q. bytes_eq q.name p.name && not (refers q.vol vol)) o) (and_from (bytes_eq p.name p.name) (not (refers p.vol vol)) (bytes_eq_self p.name) (ap not free)))

    free : (s : Snap) → IsAmong old (SnapRecord s) → Vols s.vol × Vols s.of
    free s among =
        or_parts (bytes_eq s.vol vol) (bytes_eq s.of vol)
        (turned (bytes_eq s.vol vol || bytes_eq s.of vol) (list_any (λ o. is_snap (λ s. bytes_eq s.vol vol || bytes_eq s.of vol) o) old) (among (λ o. is_snap (λ s. bytes_eq s.vol vol || bytes_eq s.of vol) o)) unrelated)

    on : (o : Object) → stays o ≡ true → IsFine old o → IsAmong old o → IsOn Vols Plexes now o
    on (GroupRecord g) is fine among = tt
    on (DiskRecord d) is fine among = slot_kept old now d (same (λ o. is_disk (λ e. e.slot == d.slot) o) (disk_stays (λ e. e.slot == d.slot))) fine
    on (SubdiskRecord s) is fine among = of_plex s.plex (not_true (names_plex_of s.plex vol old) is)
    on (PlexRecord p) is fine among = let none = not_true (refers p.vol vol) is in (of_vol p.vol none, own_name p none among)
    on (VolRecord v) is fine among = not_true (bytes_eq v.name vol) is
    on (DcoRecord d) is fine among = not_true (bytes_eq d.vol vol) is
    on (SnapRecord s) is fine among = free s among

    still : (o p : Object) → kept (stays o) o ≡ Some p → IsFine old o × IsAmong old o → IsFine now p
    still o p e is = let here = kept_is (stays o) o p e in subst (IsFine now) here.1 (record_kept old now Vols Plexes keeps o (on o here.0 is.0 is.1) is.0)

    once_now : AreOnce now
    once_now name = le_trans (fewer (λ o. bytes_eq (name_of o) name)) (once old differ name)

    rest_kept : first_broken (in_kinds now) ≡ None
    rest_kept =
        sorted now (over_kept old now Vols Plexes keeps once_now over)
        (all_append (IsFine now) (filter_map (λ o. kept (stays o) o) old) []
        (all_filter_map (λ o. IsFine old o × IsAmong old o) (IsFine now) (λ o. kept (stays o) o) old still (all_both (IsFine old) (IsAmong old) old each (each_among old))) tt)
        once_now

-- no rule refuses the removal of a volume that is there and in no relation
pub removal_kept : (vol : Word) (old : List Object) → first_broken old ≡ None → has_vol vol old ≡ true → list_any (λ o. is_snap (λ s. bytes_eq s.vol vol || bytes_eq s.of vol) o) old ≡ false → refusal_of (RemoveVol vol ∷ []) old ≡ None
unfolding change added target_fault
removal_kept vol old valid there unrelated =
    let hold = each_holds old valid in
    both_none (unless (has_vol vol old) (NoObject vol)) (first_broken (in_kinds (filter_map (λ o. kept (stays_without_vol vol old o) o) old ++ []))) (unless_true (has_vol vol old) (NoObject vol) there)
    (rest_kept vol old (over_all old hold) (in_all old hold) (names_differ old valid) unrelated)
