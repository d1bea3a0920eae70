-- What the edit of a plex that leaves its volume makes of a configuration: the volume has its other plexes, in their order.
use Rattle.std.proofs.Common.{◌≡◌, ◌≢◌, ℕ, Bool, true, false, cond, not, Option, Some, None, List, [], ◌∷◌, ◌++◌, map, refl, sym, ◌∙◌, ap, subst}
use Rattle.std.specs.Prelude.{◌&&◌, if◌then◌else◌, Contains}
use Rattle.std.specs.List.{cons_option, filter, filter_map, flat_map}
use Rattle.std.specs.Str.{bytes_eq}
use Rattle.std.proofs.lemmas.Bool.{and_parts, false≢true, false_from_ne_true}
use Rattle.std.proofs.lemmas.List.{append-nil}
use Rattle.std.proofs.lemmas.List.Elements.{filter_map-append}
use Rattle.vx_base.specs.Named.{Word}
use Rattle.vx_base.proofs.NamedLemmas.{bytes_eq_same, bytes_eq_self}
use Rattle.vx_mask.proofs.Tests.{and_none}
use Rattle.vx_layout.specs.declared.place.Place.{Place}
use Rattle.vx_layout.specs.declared.strip.Strip.{Strip}
use Rattle.vx_layout.specs.Columns.{has_place}
use Rattle.vx_config_parts.specs.declared.object.Object.{Object}
use Rattle.vx_config_parts.specs.declared.object.Object.TheVariants.{GroupRecord, DiskRecord, SubdiskRecord, PlexRecord, VolRecord, DcoRecord, SnapRecord}
use Rattle.vx_config_parts.specs.declared.plex.Plex.{Plex}
use Rattle.vx_config_parts.specs.declared.state.PlexState.TheVariants as plex_state
use Rattle.vx_config_parts.specs.declared.vol.Vol.{Vol}
use Rattle.vx_config_parts.specs.Objects.{is_data, is_data_plex_of, is_log, is_log_plex_of, refers}
use Rattle.vx_objects.specs.declared.config.Config.{Config}
use Rattle.vx_objects.specs.declared.edit.Edit.TheVariants.{RemovePlex, SetPlex}
use Rattle.vx_objects.specs.Applied.{IsEdited}
use Rattle.vx_objects.specs.Config.{objects_of}
use Rattle.vx_objects.specs.Edits.{added, change, edited, kept as kept_if, stays_without_plex}
use Rattle.vx_objects.specs.Parts.{as_plex}
use Rattle.vx_image.specs.Bytes.{is_held}
use Rattle.vx_image.specs.Image.{is_available_state}
use Rattle.vx_image.specs.Lies.{columns_of}
use Rattle.vx_image.specs.Own.{IsOfVolume}
use Rattle.vx_image.specs.UsedPlexes.{IsVolOf, held_plexes, is_on, is_used_log, is_used_state, off_plexes, on_plexes, used_logs}
use Rattle.vx_image.proofs.Members.{contains, is_in}
use Rattle.vx_image.proofs.PlexMembers.{IsIn, in_map, one_in}
use Rattle.vx_lending.proofs.Bits.{kept}
use Rattle.vx_lending.proofs.Distinct.{filtered}
use Rattle.vx_lending.proofs.Places.{log_taken}
use Rattle.vx_lending.proofs.Rules.{one_plex}
use Rattle.vx_group_edits.specs.OfVolume.{AreEditsOf, IsPlexNameOf}
use Rattle.vx_group_edits.proofs.ByKind.{plexes_are, plexes_own, subdisks_are, subdisks_own, vol_is}
use Rattle.vx_group_edits.proofs.DcoEdits.{own_name}
use Rattle.vx_group_edits.proofs.Columns.{columns_same, held_before, subdisks_of}
use Rattle.vx_group_edits.proofs.EditSteps.{as_set, plexes_set, stays_removed, stays_set, subdisks_set, subdisks_stay}
use Rattle.vx_group_edits.proofs.Lists.{filter_narrow, filter_passed}
use Rattle.vx_group_edits.proofs.OfVolume.{own_edit_keeps_others}
use Rattle.vx_group_edits.proofs.OwnEdits.{disks_same, snaps_same}
use Rattle.vx_joined_volumes.specs.Parted.{IsTakenOut, TakesOut, leaving_edit}
use Rattle.vx_joined_volumes.specs.PartLaws.{EachLeavingIsOfItsVolume, EachLeavingKeepsOthers, EachPlexIsTakenOut}
use Rattle.vx_joined_volumes.proofs.Held.{same_test}
use Rattle.vx_joined_volumes.proofs.PartLists.{filter_alike}
use Rattle.vx_joined_volumes.proofs.Plexes.{data_no_log}
use Rattle.vx_joined_volumes.proofs.Zips.{filter_twice}

-- the plex has another name
abbrev pub is_other : Word → Plex → Bool
is_other name q = not (bytes_eq q.name name)

pub other_name : (name : Word) (q : Plex) → is_other name q ≡ true → q.name ≢ name
other_name name q other same = false≢true (sym (ap not (subst (λ (n : Word). bytes_eq q.name n ≡ true) same (bytes_eq_self q.name))) ∙ other)

pub name_other : (name : Word) (q : Plex) → q.name ≢ name → is_other name q ≡ true
name_other name q other = ap not (false_from_ne_true (bytes_eq q.name name) (λ h. other (bytes_eq_same q.name name h)))

-- ---- the plexes among the records

-- one of this name is removed, ..
module _ (name : Word) where
  abbrev left_by : Object → Option Object
  left_by o = kept_if (stays_without_plex name o) o

  removes : (os : List Object) → filter_map as_plex (filter_map left_by os) ≡ filter (is_other name) (filter_map as_plex os)
  removes [] = refl
  removes (PlexRecord p ∷ os) = by (not (bytes_eq p.name name)) (removes os)
    where
      by : (b : Bool) → filter_map as_plex (filter_map left_by os) ≡ filter (is_other name) (filter_map as_plex os) →
          filter_map as_plex (cons_option (kept_if b (PlexRecord p)) (filter_map left_by os)) ≡ cond b (p ∷ filter (is_other name) (filter_map as_plex os)) (filter (is_other name) (filter_map as_plex os))
      by true e = ap (λ ps. p ∷ ps) e
      by false e = e
  removes (SubdiskRecord s ∷ os) = by (not (refers s.plex name)) (removes os)
    where
      by : (b : Bool) → filter_map as_plex (filter_map left_by os) ≡ filter (is_other name) (filter_map as_plex os) →
          filter_map as_plex (cons_option (kept_if b (SubdiskRecord s)) (filter_map left_by os)) ≡ filter (is_other name) (filter_map as_plex os)
      by true e = e
      by false e = e
  removes (GroupRecord x ∷ os) = removes os
  removes (DiskRecord x ∷ os) = removes os
  removes (VolRecord x ∷ os) = removes os
  removes (DcoRecord x ∷ os) = removes os
  removes (SnapRecord x ∷ os) = removes os

  plexes_removed : (os : List Object) → filter_map as_plex (edited (RemovePlex name) os) ≡ filter (is_other name) (filter_map as_plex os)
  unfolding change added
  plexes_removed os = filter_map-append as_plex (filter_map left_by os) [] ∙ append-nil (filter_map as_plex (filter_map left_by os)) ∙ removes os

  -- .. or set to be of no volume: then no volume has it
  abbrev set_out : Plex → Plex
  set_out q = as_set name None plex_state.Empty None q

  none_set : (vol : Word) (ps : List Plex) → filter (λ q. refers q.vol vol) (map set_out ps) ≡ filter (λ q. is_other name q && refers q.vol vol) ps
  none_set vol [] = refl
  none_set vol (q ∷ ps) = by (bytes_eq q.name name) (none_set vol ps)
    where
      by : (b : Bool) → filter (λ q. refers q.vol vol) (map set_out ps) ≡ filter (λ q. is_other name q && refers q.vol vol) ps →
          filter (λ q. refers q.vol vol) ((if b then record q { vol = None; state = plex_state.Empty; map = None } else q) ∷ map set_out ps)
          ≡ cond (not b && refers q.vol vol) (q ∷ filter (λ q. is_other name q && refers q.vol vol) ps) (filter (λ q. is_other name q && refers q.vol vol) ps)
      by true e = e
      by false e = ap (λ ys. cond (refers q.vol vol) (q ∷ ys) ys) e

  set_other : (q : Plex) → q.name ≢ name → set_out q ≡ q
  set_other q other = ap (λ (b : Bool). if b then record q { vol = None; state = plex_state.Empty; map = None } else q) (false_from_ne_true (bytes_eq q.name name) (λ h. other (bytes_eq_same q.name name h)))

-- ---- the configuration

-- The volume has in the other configuration the plexes that it had but for the one of this name, in their order, and these have the
-- subdisks that they had. The volume, the disks, the relations and each other plex are recorded as they were.
pub record HasLost (c c' : Config) (v : Vol) (name : Word) : Type 0 where
  pub recorded : IsVolOf c v → IsVolOf c' v
  pub disks : c'.disks ≡ c.disks
  pub snaps : c'.snaps ≡ c.snaps
  pub own : filter (λ q. refers q.vol v.name) c'.plexes ≡ filter (λ q. is_other name q && refers q.vol v.name) c.plexes
  pub subdisks : (other : Word) → name ≢ other → subdisks_of c' other ≡ subdisks_of c other
  pub others : (q : Plex) → IsIn c.plexes q → q.name ≢ name → IsIn c'.plexes q

module _ (c c' : Config) (v : Vol) (p : Plex) (named : IsPlexNameOf c v.name p.name) where
  lost_set : IsEdited (SetPlex p.name None plex_state.Empty None ∷ []) c c' → HasLost c c' v p.name
  lost_set is =
      let all = edited (SetPlex p.name None plex_state.Empty None) (objects_of c) in
      let plexes : c'.plexes ≡ map (set_out p.name) c.plexes = plexes_are c' all is ∙ plexes_set p.name None plex_state.Empty None (objects_of c) ∙ ap (λ ps. map (set_out p.name) ps) (plexes_own c) in
      record {
        recorded = λ of. vol_is c' all is v (stays_set v (objects_of c) (one_in (objects_of c) (VolRecord v) of) p.name None plex_state.Empty None);
        disks = disks_same c c' v.name (SetPlex p.name None plex_state.Empty None ∷ []) ((tt, named), tt) is;
        snaps = snaps_same c c' v.name (SetPlex p.name None plex_state.Empty None ∷ []) ((tt, named), tt) is;
        own = ap (λ ps. filter (λ q. refers q.vol v.name) ps) plexes ∙ none_set p.name v.name c.plexes;
        subdisks = λ other differs. ap (λ ss. filter (λ s. refers s.plex other) ss) (subdisks_are c' all is ∙ subdisks_set p.name None plex_state.Empty None (objects_of c) ∙ subdisks_own c);
        others = λ q there other. subst (λ ps. IsIn ps q) (sym plexes) (subst (λ (x : Plex). IsIn (map (set_out p.name) c.plexes) x) (set_other p.name q other) (in_map (set_out p.name) c.plexes q there));
      }

  lost_removed : IsEdited (RemovePlex p.name ∷ []) c c' → HasLost c c' v p.name
  lost_removed is =
      let all = edited (RemovePlex p.name) (objects_of c) in
      let plexes : c'.plexes ≡ filter (is_other p.name) c.plexes = plexes_are c' all is ∙ plexes_removed p.name (objects_of c) ∙ ap (λ ps. filter (is_other p.name) ps) (plexes_own c) in
      record {
        recorded = λ of. vol_is c' all is v (stays_removed v (objects_of c) (one_in (objects_of c) (VolRecord v) of) p.name);
        disks = disks_same c c' v.name (RemovePlex p.name ∷ []) (named, tt) is;
        snaps = snaps_same c c' v.name (RemovePlex p.name ∷ []) (named, tt) is;
        own = ap (λ ps. filter (λ q. refers q.vol v.name) ps) plexes ∙ filter_twice (is_other p.name) (λ q. refers q.vol v.name) c.plexes;
        subdisks = λ other differs.
            ap (λ ss. filter (λ s. refers s.plex other) ss) (subdisks_are c' all is)
            ∙ subdisks_stay p.name (objects_of c) other differs
            ∙ ap (λ ss. filter (λ s. refers s.plex other) ss) (subdisks_own c);
        others = λ q there other. subst (λ ps. IsIn ps q) (sym plexes) (kept (is_other p.name) c.plexes q there (name_other p.name q other));
      }

  pub lost_by : (remove : Bool) → IsEdited (leaving_edit remove p ∷ []) c c' → HasLost c c' v p.name
  lost_by true is = lost_removed is
  lost_by false is = lost_set is

  own_by : (remove : Bool) → AreEditsOf c v.name (leaving_edit remove p ∷ [])
  own_by true = (named, tt)
  own_by false = ((tt, named), tt)

module _ (c c' : Config) (v : Vol) (p : Plex) (remove : Bool) (takes : TakesOut c v p remove c') where
  pub p_there : IsIn c.plexes p
  p_there = is_in c.plexes p takes.there

  its_name : IsPlexNameOf c v.name p.name
  its_name = own_name c v.name p p_there (and_parts (refers p.vol v.name) (is_data p.kind) takes.data_is).0

  pub edits_own : AreEditsOf c v.name (leaving_edit remove p ∷ [])
  edits_own = own_by c c' v p its_name remove

  pub has_lost : HasLost c c' v p.name
  has_lost = lost_by c c' v p its_name remove takes.edited

-- ---- the plexes of the volume

same_by : (other own now was : Bool) → (now ≡ true → own ≡ true) → (other ≡ true → now ≡ was) → ((other && own) && now) ≡ (was && other)
same_by false own now was narrow same = sym (and_none was)
same_by true true true was narrow same = ap (λ b. b && true) (same refl)
same_by true true false was narrow same = ap (λ b. b && true) (same refl)
same_by true false true was narrow same = absurd (false≢true (narrow refl))
same_by true false false was narrow same = ap (λ b. b && true) (same refl)

module _ (c c' : Config) (v : Vol) (name : Word) (lost : HasLost c c' v name) where
  -- a plex of the volume is one that it had, of another name
  pub came_from : (x : Plex) → IsIn c'.plexes x → refers x.vol v.name ≡ true → IsIn c.plexes x × (is_other name x ≡ true)
  came_from x there own =
      let w = filtered (λ q. is_other name q && refers q.vol v.name) c.plexes x (subst (λ ps. IsIn ps x) lost.own (kept (λ q. refers q.vol v.name) c'.plexes x there own)) in
      (w.0, (and_parts (is_other name x) (refers x.vol v.name) w.1).0)

  disks_now : c'.disks ≡ c.disks ++ []
  disks_now = lost.disks ∙ sym (append-nil c.disks)

  disks_then : c.disks ≡ c'.disks ++ []
  disks_then = sym lost.disks ∙ sym (append-nil c'.disks)

  -- another plex lies where it lay, and by the same disks all of its are good
  pub columns_stay : (q : Plex) → q.name ≢ name → columns_of c' q ≡ columns_of c q
  columns_stay q other = columns_same c c' [] disks_now q.name (lost.subdisks q.name (λ same. other (sym same))) q.ncol 0

  pub held_as : (good : ℕ) (q : Plex) → q.name ≢ name → is_held c' good q ≡ is_held c good q
  held_as good q other =
      let same = lost.subdisks q.name (λ same. other (sym same)) in
      same_test (is_held c' good q) (is_held c good q)
      (held_before c c' [] disks_now q.name same good good (λ s there h. h) q refl)
      (held_before c' c [] disks_then q.name (sym same) good good (λ s there h. h) q refl)

  -- of its plexes those pass a test that passed it, without that of the name
  passed : (now was : Plex → Bool) → ((q : Plex) → now q ≡ true → refers q.vol v.name ≡ true) → ((q : Plex) → q.name ≢ name → now q ≡ was q) → filter now c'.plexes ≡ filter (is_other name) (filter was c.plexes)
  passed now was narrow same =
      filter_narrow now (λ q. refers q.vol v.name) narrow c'.plexes
      ∙ ap (λ ps. filter now ps) lost.own
      ∙ filter_twice (λ q. is_other name q && refers q.vol v.name) now c.plexes
      ∙ filter_alike (λ q. (is_other name q && refers q.vol v.name) && now q) (λ q. was q && is_other name q) c.plexes
      (λ q there. same_by (is_other name q) (refers q.vol v.name) (now q) (was q) (narrow q) (λ other. same q (other_name name q other)))
      ∙ sym (filter_twice was (is_other name) c.plexes)

  data_narrow : (t : Plex → Bool) (q : Plex) → (is_data_plex_of v.name q && t q) ≡ true → refers q.vol v.name ≡ true
  data_narrow t q passes = (and_parts (refers q.vol v.name) (is_data q.kind) (and_parts (is_data_plex_of v.name q) (t q) passes).0).0

  data_that : (now was : Plex → Bool) → ((q : Plex) → q.name ≢ name → now q ≡ was q) →
      filter (λ q. is_data_plex_of v.name q && now q) c'.plexes ≡ filter (is_other name) (filter (λ q. is_data_plex_of v.name q && was q) c.plexes)
  data_that now was same =
      passed (λ q. is_data_plex_of v.name q && now q) (λ q. is_data_plex_of v.name q && was q) (data_narrow now) (λ q other. ap (λ b. is_data_plex_of v.name q && b) (same q other))

  on_as : (good : ℕ) (q : Plex) → q.name ≢ name → is_on c' good q ≡ is_on c good q
  on_as good q other = ap (λ b. b && is_available_state q.state) (held_as good q other)

  pub held_now : (good : ℕ) → held_plexes c' good v.name ≡ filter (is_other name) (held_plexes c good v.name)
  held_now good = data_that (is_held c' good) (is_held c good) (held_as good)

  pub on_now : (good : ℕ) → on_plexes c' good v.name ≡ filter (is_other name) (on_plexes c good v.name)
  on_now good = data_that (is_on c' good) (is_on c good) (on_as good)

  pub off_now : (good : ℕ) → off_plexes c' good v.name ≡ filter (is_other name) (off_plexes c good v.name)
  off_now good = data_that (λ q. not (is_on c' good q)) (λ q. not (is_on c good q)) (λ q other. ap not (on_as good q other))

  pub logs_now : (dco : Option Word) (good : ℕ) (fresh : Bool) → used_logs dco c' good fresh v.name ≡ filter (is_other name) (used_logs dco c good fresh v.name)
  logs_now None good fresh = refl
  logs_now (Some dco) good fresh =
      passed (is_used_log c' good fresh v.name) (is_used_log c good fresh v.name)
      (λ q passes. (and_parts (refers q.vol v.name) (is_log q.kind) (and_parts (is_log_plex_of v.name q) (is_used_state fresh q.state && is_held c' good q) passes).0).0)
      (λ q other. ap (λ b. is_log_plex_of v.name q && (is_used_state fresh q.state && b)) (held_as good q other))

  place_was : (place : Place) → IsOfVolume c' v.name place → IsOfVolume c v.name place
  place_was place of =
      let q = came_from of.0 (is_in c'.plexes of.0 of.1) of.2 in (
        of.0,
        contains c.plexes of.0 q.0,
        of.2,
        subst (λ columns. (strip : Strip) × Contains (flat_map (λ strips. strips) columns) strip × (has_place strip place ≡ true)) (columns_stay of.0 (other_name name of.0 q.1)) of.3,
      )

-- ---- all that the edit leaves

module _ (c c' : Config) (v : Vol) (p : Plex) (remove : Bool) (takes : TakesOut c v p remove c') where
  abbrev lost : HasLost c c' v p.name
  lost = has_lost c c' v p remove takes

  -- no log of the volume has the name, so each that was used is
  pub log_other : (q : Plex) → IsIn c.plexes q → is_log_plex_of v.name q ≡ true → q.name ≢ p.name
  log_other q there log same =
      false≢true (sym (data_no_log v.name p takes.data_is) ∙ subst (λ (x : Plex). is_log_plex_of v.name x ≡ true) (one_plex c q p there (p_there c c' v p remove takes) same) log)

  pub logs_stay : (dco : Option Word) (good : ℕ) (fresh : Bool) → used_logs dco c' good fresh v.name ≡ used_logs dco c good fresh v.name
  logs_stay dco good fresh =
      logs_now c c' v p.name lost dco good fresh
      ∙ filter_passed (is_other p.name) (used_logs dco c good fresh v.name) (λ q there.
      let log = log_taken c good v fresh dco q there in
      name_other p.name q (log_other q log.0.there log.1))

  differs : (q : Plex) → IsIn c.plexes q → q ≢ p → q.name ≢ p.name
  differs q there other same = other (one_plex c q p there (p_there c c' v p remove takes) same)

  none_named : (x : Plex) → IsIn c'.plexes x → x.name ≡ p.name → refers x.vol v.name ≡ false
  none_named x there same = false_from_ne_true (refers x.vol v.name) (λ own. other_name p.name x (came_from c c' v p.name lost x there own).1 same)

  taken_out : IsVolOf c v → IsTakenOut c v p c'
  taken_out of = record {
    recorded = lost.recorded of;
    disks = lost.disks;
    snaps = lost.snaps;
    others = λ q there other. contains c'.plexes q (lost.others q (is_in c.plexes q there) (differs q (is_in c.plexes q there) other));
    none_added = λ x there own. contains c.plexes x (came_from c c' v p.name lost x (is_in c'.plexes x there) own).0;
    gone = λ x there same. none_named x (is_in c'.plexes x there) same;
    lies = λ q there other. record { unit = refl; columns = columns_stay c c' v p.name lost q (differs q (is_in c.plexes q there) other) };
    places = place_was c c' v p.name lost;
  }

pub each_taken_out : EachPlexIsTakenOut
each_taken_out c v of p remove c' takes = taken_out c c' v p remove takes of

pub each_leaving_own : EachLeavingIsOfItsVolume
each_leaving_own c v p remove c' takes = edits_own c c' v p remove takes

pub each_leaving_keeps : EachLeavingKeepsOthers
each_leaving_keeps c v p remove c' takes = own_edit_keeps_others c c' v.name (leaving_edit remove p ∷ []) (edits_own c c' v p remove takes) takes.edited
