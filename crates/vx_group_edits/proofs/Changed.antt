-- Another policy of a volume, and the removal of a volume.
use Rattle.std.proofs.Common.{◌≡◌, ◌≢◌, Bool, true, false, not, Option, Some, None, List, [], ◌++◌, refl, sym, ◌∙◌, ap, subst}
use Rattle.std.specs.Prelude.{◌&&◌, if◌then◌else◌}
use Rattle.std.specs.List.{filter_map}
use Rattle.std.specs.Str.{bytes_eq}
use Rattle.std.proofs.lemmas.Bool.{false≢true, and_parts, false_from_ne_true}
use Rattle.vx_base.specs.Named.{Word}
use Rattle.vx_base.proofs.NamedLemmas.{bytes_eq_same}
use Rattle.vx_config_parts.specs.declared.object.Object.{Object}
use Rattle.vx_config_parts.specs.declared.object.Object.TheVariants.{DiskRecord, SubdiskRecord, PlexRecord, VolRecord, SnapRecord}
use Rattle.vx_config_parts.specs.declared.plex.Plex.{Plex}
use Rattle.vx_config_parts.specs.declared.state.VolState.{VolState}
use Rattle.vx_config_parts.specs.declared.subdisk.Subdisk.{Subdisk}
use Rattle.vx_config_parts.specs.declared.vol.PolicyName.{PolicyName}
use Rattle.vx_config_parts.specs.declared.vol.Vol.{Vol}
use Rattle.vx_config_parts.specs.Objects.{is_plex, refers}
use Rattle.vx_objects.specs.declared.config.Config.{Config}
use Rattle.vx_objects.specs.declared.edit.Edit.TheVariants.{SetVol, RemoveVol}
use Rattle.vx_objects.specs.Config.{objects_of}
use Rattle.vx_objects.specs.Edits.{added, change, edited, kept, names_plex_of, policy_kind, policy_plex, set_vol, stays_without_vol}
use Rattle.vx_objects.specs.Parts.{as_disk, as_plex, as_snap, as_subdisk, in_kinds}
use Rattle.vx_image.proofs.PlexMembers.{IsIn, any_in}
use Rattle.vx_lending.proofs.Distinct.{filtered}
use Rattle.vx_lending.proofs.Rules.{one_plex}
use Rattle.vx_group_edits.specs.Laws.{EachPolicyKeeps, EachRemovalKeeps}
use Rattle.vx_group_edits.proofs.ByKind.{Leaves, plex_recorded, untouched}
use Rattle.vx_group_edits.proofs.Lists.{kept_seen, not_picked, picked, seen}
use Rattle.vx_group_edits.proofs.Untouched.{plexes_of, stays}

-- ---- another policy

policy_edited : (vol : Word) (state : VolState) (policy : PolicyName) (os : List Object) → edited (SetVol vol state policy) os ≡ filter_map (λ o. Some (set_vol vol state policy o)) os ++ []
unfolding change added
policy_edited vol state policy os = refl

module _ (vol : Word) (state : VolState) (policy : PolicyName) where
  abbrev set : Object → Option Object
  set o = Some (set_vol vol state policy o)

  policy_leaves : (c : Config) (v : Vol) → (v.name ≡ vol → v.state ≡ state) → Leaves c v set []
  policy_leaves c v same = by (bytes_eq v.name vol) refl
    where
      plex_seen : (t : Plex → Bool) (o : Object) → seen t as_plex (set o) ≡ picked t as_plex (as_plex o)
      plex_seen t (VolRecord w) = refl
      plex_seen t o = refl

      subdisk_seen : (t : Subdisk → Bool) (o : Object) → seen t as_subdisk (set o) ≡ picked t as_subdisk (as_subdisk o)
      subdisk_seen t (VolRecord w) = refl
      subdisk_seen t o = refl

      disk_seen : (o : Object) → seen (λ d. true) as_disk (set o) ≡ picked (λ d. true) as_disk (as_disk o)
      disk_seen (VolRecord w) = refl
      disk_seen o = refl

      snap_seen : (o : Object) → seen (λ s. true) as_snap (set o) ≡ picked (λ s. true) as_snap (as_snap o)
      snap_seen (VolRecord w) = refl
      snap_seen o = refl

      with_now : (now : Vol) → set (VolRecord v) ≡ Some (VolRecord now) → now.name ≡ v.name → now.state ≡ v.state → now.len ≡ v.len → now.region ≡ v.region → now.dco ≡ v.dco → Leaves c v set []
      with_now now is name state_is len region dco = record {
        now = now;
        vol = is;
        name = name;
        state = state_is;
        length_is = len;
        region_is = region;
        dco = dco;
        plexes = λ o there. plex_seen (λ p. refers p.vol v.name) o;
        subdisks = λ p own o there. subdisk_seen (λ s. refers s.plex p.name) o;
        disks = λ o there. disk_seen o;
        snaps = λ o there. snap_seen o;
        no_plex = refl;
        no_subdisk = λ p own. refl;
        no_snap = refl;
      }

      by : (b : Bool) → bytes_eq v.name vol ≡ b → Leaves c v set []
      by true e =
          let now : Vol = record v { state = state; rdpol = policy_kind policy; prefer = policy_plex policy } in
          with_now now (ap (λ (b : Bool). Some (VolRecord (if b then now else v))) e) refl (sym (same (bytes_eq_same v.name vol e))) refl refl refl
      by false e =
          let now : Vol = record v { state = state; rdpol = policy_kind policy; prefer = policy_plex policy } in
          with_now v (ap (λ (b : Bool). Some (VolRecord (if b then now else v))) e) refl refl refl refl refl

pub policy_keeps : EachPolicyKeeps
policy_keeps c c' vol state policy edits v of same good good' fewer =
    stays c v c' good good' fewer
    (untouched c v of c' (set vol state policy) [] (edits ∙ ap (λ os. in_kinds os) (policy_edited vol state policy (objects_of c))) (policy_leaves vol state policy c v same))

-- ---- a removal

removal_edited : (vol : Word) (os : List Object) → edited (RemoveVol vol) os ≡ filter_map (λ o. kept (stays_without_vol vol os o) o) os ++ []
unfolding change added
removal_edited vol os = refl

-- an attribute that names one volume names no other
pub names_one : (attribute : Option Word) (a b : Word) → refers attribute a ≡ true → (a ≡ b → ⊥) → refers attribute b ≡ false
names_one None a b is other = refl
names_one (Some n) a b is other = false_from_ne_true (bytes_eq n b) (λ h. other (sym (bytes_eq_same n a is) ∙ bytes_eq_same n b h))

pub true_from_not : (b : Bool) → not b ≡ false → b ≡ true
true_from_not true e = refl
true_from_not false e = absurd (false≢true (sym e))

module _ (c : Config) (v : Vol) (vol : Word) (other : v.name ≢ vol) where
  abbrev stays_there : Object → Bool
  stays_there o = stays_without_vol vol (objects_of c) o

  abbrev without : Object → Option Object
  without o = kept (stays_there o) o

  -- a plex that goes is none of this volume
  plex_gone : (o : Object) → stays_there o ≡ false → picked (λ p. refers p.vol v.name) as_plex (as_plex o) ≡ []
  plex_gone (PlexRecord p) gone = not_picked (λ p. refers p.vol v.name) as_plex p (names_one p.vol vol v.name (true_from_not (refers p.vol vol) gone) (λ e. other (sym e)))
  plex_gone o gone = refl

  -- a subdisk that goes is none of a plex of this volume
  subdisk_off : (p : Plex) → IsIn (plexes_of c v.name) p → (s : Subdisk) → not (names_plex_of s.plex vol (objects_of c)) ≡ false → refers s.plex p.name ≡ false
  subdisk_off p own s gone =
      let found = any_in (λ o. is_plex (λ q. refers s.plex q.name && refers q.vol vol) o) (objects_of c) (true_from_not (names_plex_of s.plex vol (objects_of c)) gone) in
      by found.0 found.1 found.2
    where
      by : (o : Object) → IsIn (objects_of c) o → is_plex (λ q. refers s.plex q.name && refers q.vol vol) o ≡ true → refers s.plex p.name ≡ false
      by (PlexRecord q) there is =
          let parts = and_parts (refers s.plex q.name) (refers q.vol vol) is in
          let mine = filtered (λ p. refers p.vol v.name) c.plexes p own in
          names_one s.plex q.name p.name parts.0
          (λ same.
          let one = one_plex c q p (plex_recorded c q there) mine.0 same in
          let of_vol = subst (λ (x : Plex). refers x.vol vol ≡ true) one parts.1 in
          false≢true (sym (names_one p.vol vol v.name of_vol (λ e. other (sym e))) ∙ mine.1))
      by o there is = absurd (false≢true is)

  subdisk_gone : (p : Plex) → IsIn (plexes_of c v.name) p → (o : Object) → stays_there o ≡ false → picked (λ s. refers s.plex p.name) as_subdisk (as_subdisk o) ≡ []
  subdisk_gone p own (SubdiskRecord s) gone = not_picked (λ s. refers s.plex p.name) as_subdisk s (subdisk_off p own s gone)
  subdisk_gone p own o gone = refl

  -- no disk and no relation goes
  disk_gone : (o : Object) → stays_there o ≡ false → picked (λ d. true) as_disk (as_disk o) ≡ []
  disk_gone (DiskRecord d) gone = absurd (false≢true (sym gone))
  disk_gone o gone = refl

  snap_gone : (o : Object) → stays_there o ≡ false → picked (λ s. true) as_snap (as_snap o) ≡ []
  snap_gone (SnapRecord s) gone = absurd (false≢true (sym gone))
  snap_gone o gone = refl

  removal_leaves : Leaves c v without []
  removal_leaves = record {
    now = v;
    vol = ap (λ (b : Bool). kept (not b) (VolRecord v)) (false_from_ne_true (bytes_eq v.name vol) (λ h. other (bytes_eq_same v.name vol h)));
    name = refl;
    state = refl;
    length_is = refl;
    region_is = refl;
    dco = refl;
    plexes = λ o there. kept_seen (λ p. refers p.vol v.name) as_plex (stays_there o) o (plex_gone o);
    subdisks = λ p own o there. kept_seen (λ s. refers s.plex p.name) as_subdisk (stays_there o) o (subdisk_gone p own o);
    disks = λ o there. kept_seen (λ d. true) as_disk (stays_there o) o (disk_gone o);
    snaps = λ o there. kept_seen (λ s. true) as_snap (stays_there o) o (snap_gone o);
    no_plex = refl;
    no_subdisk = λ p own. refl;
    no_snap = refl;
  }

pub removal_keeps : EachRemovalKeeps
removal_keeps c c' vol edits v of other good good' fewer =
    stays c v c' good good' fewer
    (untouched c v of c' (without c v vol other) [] (edits ∙ ap (λ os. in_kinds os) (removal_edited vol (objects_of c))) (removal_leaves c v vol other))
