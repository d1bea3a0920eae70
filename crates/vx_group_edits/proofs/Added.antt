-- Records that are added.
use Rattle.std.proofs.Common.{◌≡◌, Bool, true, false, cond, Option, Some, None, List, [], ◌∷◌, ◌++◌, refl, sym, ◌∙◌, ap, subst, inl, inr}
use Rattle.std.specs.List.{filter, filter_map}
use Rattle.std.specs.Str.{bytes_eq}
use Rattle.std.proofs.lemmas.Bool.{false≢true, false_from_ne_true}
use Rattle.std.proofs.lemmas.List.{append-nil}
use Rattle.vx_base.specs.Named.{Word}
use Rattle.vx_base.proofs.NamedLemmas.{bytes_eq_self, bytes_eq_same}
use Rattle.vx_config_parts.specs.declared.disk.Disk.{Disk}
use Rattle.vx_config_parts.specs.declared.fault.ObjectFault.{ObjectFault}
use Rattle.vx_config_parts.specs.declared.fault.ObjectFault.TheVariants as fault
use Rattle.vx_config_parts.specs.declared.object.Object.{Object}
use Rattle.vx_config_parts.specs.declared.object.Object.TheVariants.{GroupRecord, DiskRecord, SubdiskRecord, PlexRecord, VolRecord, DcoRecord, SnapRecord}
use Rattle.vx_config_parts.specs.declared.plex.Plex.{Plex}
use Rattle.vx_config_parts.specs.declared.snap.Snap.{Snap}
use Rattle.vx_config_parts.specs.declared.vol.Vol.{Vol}
use Rattle.vx_config_parts.specs.Objects.{name_of, refers}
use Rattle.vx_rules.specs.Adding.{firsts, had, had_fault, is_had, is_had_as}
use Rattle.vx_rules.specs.Faults.{first_of, first_some}
use Rattle.vx_rules.specs.Named.{first_named}
use Rattle.vx_rules.proofs.InOrder.{names_differ}
use Rattle.vx_objects.specs.declared.config.Config.{Config}
use Rattle.vx_objects.specs.declared.edit.Edit.TheVariants.{AddDisk, Make}
use Rattle.vx_objects.specs.Config.{objects_of}
use Rattle.vx_objects.specs.Edits.{added, change, edited}
use Rattle.vx_objects.specs.Parts.{as_plex, as_snap, as_subdisk, in_kinds}
use Rattle.vx_objects.proofs.OneGroup.{first_none, second_none}
use Rattle.vx_image.proofs.PlexMembers.{IsIn, first_of_in, one_in, plex_in}
use Rattle.vx_image.proofs.Plexes.{config_valid}
use Rattle.vx_answers.specs.declared.refusal.Refusal.{Refusal}
use Rattle.vx_stages.specs.Making.{adding_refusal, broken, limit_rules, reference_rules, space_rules, started_name}
use Rattle.vx_stages.specs.Refusals.{refusal_from}
use Rattle.vx_image.specs.UsedPlexes.{IsVolOf}
use Rattle.vx_lending.proofs.Distinct.{AreDistinct, distinct_names, filtered}
use Rattle.vx_group_edits.specs.Laws.{EachJoiningKeeps, EachMakingKeeps, EachRewritingKeeps}
use Rattle.vx_group_edits.proofs.ByKind.{Leaves, untouched}
use Rattle.vx_group_edits.proofs.Fresh.{each_fresh, is_fresh}
use Rattle.vx_group_edits.proofs.Lists.{none_seen, not_picked, picked}
use Rattle.vx_group_edits.proofs.Untouched.{plexes_of, stays}

pub all_stay : (os : List Object) → filter_map (λ o. Some o) os ≡ os
all_stay [] = refl
all_stay (o ∷ os) = ap (λ ps. o ∷ ps) (all_stay os)

abbrev stay : Object → Option Object
stay o = Some o

-- records of which none is of a plex of the volume, nor a relation
record AreOthers (c : Config) (v : Vol) (more : List Object) : Type 0 where
  no_plex : filter (λ p. refers p.vol v.name) (filter_map as_plex more) ≡ []
  no_subdisk : (p : Plex) → IsIn (plexes_of c v.name) p → filter (λ s. refers s.plex p.name) (filter_map as_subdisk more) ≡ []
  no_snap : filter (λ (s : Snap). true) (filter_map as_snap more) ≡ []

added_leaves : (c : Config) (v : Vol) (more : List Object) → AreOthers c v more → Leaves c v stay more
added_leaves c v more others = record {
  now = v;
  vol = refl;
  name = refl;
  state = refl;
  length_is = refl;
  region_is = refl;
  dco = refl;
  plexes = λ o there. refl;
  subdisks = λ p own o there. refl;
  disks = λ o there. refl;
  snaps = λ o there. refl;
  no_plex = others.no_plex;
  no_subdisk = others.no_subdisk;
  no_snap = others.no_snap;
}

-- ---- nothing, and a disk

pub rewriting_keeps : EachRewritingKeeps
rewriting_keeps c c' edits v of other good good' fewer =
    stays c v c' good good' fewer
    (untouched c v of c' stay [] (edits ∙ ap (λ os. in_kinds os) (sym (append-nil (filter_map stay (objects_of c)) ∙ all_stay (objects_of c))))
    (added_leaves c v [] (record { no_plex = refl; no_subdisk = λ p own. refl; no_snap = refl })))

joining_edited : (disk : Disk) (os : List Object) → edited (AddDisk disk) os ≡ filter_map (λ o. Some o) os ++ DiskRecord disk ∷ []
unfolding change added
joining_edited disk os = refl

pub joining_keeps : EachJoiningKeeps
joining_keeps c c' disk edits v of other good good' fewer =
    stays c v c' good good' fewer
    (untouched c v of c' stay (DiskRecord disk ∷ []) (edits ∙ ap (λ os. in_kinds os) (joining_edited disk (objects_of c)))
    (added_leaves c v (DiskRecord disk ∷ []) (record { no_plex = refl; no_subdisk = λ p own. refl; no_snap = refl })))

-- ---- records of a source

making_edited : (more os : List Object) → edited (Make more) os ≡ filter_map (λ o. Some o) os ++ more
unfolding change added
making_edited more os = refl

-- behind the records of the configuration
pub made_behind : (c c' : Config) (more : List Object) → objects_of c' ≡ in_kinds (edited (Make more) (objects_of c)) → objects_of c' ≡ in_kinds (objects_of c ++ more)
made_behind c c' more is = is ∙ ap (λ os. in_kinds os) (making_edited more (objects_of c)) ∙ ap (λ os. in_kinds (os ++ more)) (all_stay (objects_of c))

-- a record is found by its name
first_is : (os : List Object) (o : Object) → AreDistinct name_of os → IsIn os o → first_named (name_of o) os ≡ Some o
first_is [] o differ there = absurd there
first_is (p ∷ os) o differ there = by (λ m. first_is os o differ.1 m) (bytes_eq (name_of p) (name_of o)) refl there
  where
    by : (IsIn os o → first_named (name_of o) os ≡ Some o) → (b : Bool) → bytes_eq (name_of p) (name_of o) ≡ b → IsIn (p ∷ os) o → cond b (Some p) (first_named (name_of o) os) ≡ Some o
    by on true is (inl same) = ap (λ x. Some x) (sym same)
    by on true is (inr there) = absurd (differ.0 o there (bytes_eq_same (name_of p) (name_of o) is))
    by on false is (inl same) = absurd (false≢true (sym is ∙ subst (λ x. bytes_eq (name_of x) (name_of o) ≡ true) same (bytes_eq_self (name_of o))))
    by on false is (inr there) = on there

own_found : (c : Config) (o : Object) → IsIn (objects_of c) o → first_named (name_of o) (objects_of c) ≡ Some o
own_found c o there = first_is (objects_of c) o (distinct_names [] (objects_of c) (names_differ (objects_of c) (config_valid c))) there

-- an attribute that names what the group has is refused
not_had : (group : List Object) (attribute : Option Word) (name : Word) → had group attribute ≡ None → is_had group name ≡ true → refers attribute name ≡ false
not_had group None name none is = refl
not_had group (Some n) name none is =
    false_from_ne_true (bytes_eq n name)
    (λ h. by (is_had group n) none (subst (λ m. is_had group m ≡ true) (sym (bytes_eq_same n name h)) is))
  where
    by : (b : Bool) → cond b (Some (fault.InUse n)) None ≡ None → b ≡ true → ⊥
    by true e is = cc
    by false e is = false≢true is

vol_had : (c : Config) (v : Vol) → IsVolOf c v → is_had (objects_of c) v.name ≡ true
vol_had c v of = ap is_had_as (own_found c (VolRecord v) (one_in (objects_of c) (VolRecord v) of))

plex_had : (c : Config) (p : Plex) → IsIn c.plexes p → is_had (objects_of c) p.name ≡ true
plex_had c p there = ap is_had_as (own_found c (PlexRecord p) (plex_in c p there))

module _ (c : Config) (v : Vol) (of : IsVolOf c v) (more : List Object) (none : first_of (had_fault (objects_of c)) more ≡ None) where
  no_plex_of : (o : Object) → had_fault (objects_of c) o ≡ None → picked (λ p. refers p.vol v.name) as_plex (as_plex o) ≡ []
  no_plex_of (PlexRecord p) e = not_picked (λ p. refers p.vol v.name) as_plex p (not_had (objects_of c) p.vol v.name e (vol_had c v of))
  no_plex_of o e = refl

  no_subdisk_of : (p : Plex) → IsIn (plexes_of c v.name) p → (o : Object) → had_fault (objects_of c) o ≡ None → picked (λ s. refers s.plex p.name) as_subdisk (as_subdisk o) ≡ []
  no_subdisk_of p own (SubdiskRecord s) e = not_picked (λ s. refers s.plex p.name) as_subdisk s (not_had (objects_of c) s.plex p.name e (plex_had c p (filtered (λ p. refers p.vol v.name) c.plexes p own).0))
  no_subdisk_of p own o e = refl

  are_others : ((o : Object) → IsIn more o → picked (λ s. true) as_snap (as_snap o) ≡ []) → AreOthers c v more
  are_others no_snaps = record {
    no_plex = none_seen (λ p. refers p.vol v.name) as_plex more (λ o there. no_plex_of o (first_of_in (had_fault (objects_of c)) more o none there));
    no_subdisk = λ p own. none_seen (λ s. refers s.plex p.name) as_subdisk more (λ o there. no_subdisk_of p own o (first_of_in (had_fault (objects_of c)) more o none there));
    no_snap = none_seen (λ s. true) as_snap more no_snaps;
  }

-- a fresh record is of no relation
no_relation : (o : Object) → is_fresh o ≡ true → picked (λ s. true) as_snap (as_snap o) ≡ []
no_relation (SnapRecord x) e = cc
no_relation (GroupRecord x) e = cc
no_relation (DiskRecord x) e = cc
no_relation (SubdiskRecord x) e = refl
no_relation (PlexRecord x) e = refl
no_relation (VolRecord x) e = refl
no_relation (DcoRecord x) e = refl

-- ---- the tests of added records let none through that refers to a plex or a volume of the group

-- the fault is answered wherever it is there
abbrev pub IsAnswered : Option ObjectFault → Type 0
IsAnswered f = refusal_from f ≡ None → f ≡ None

had_answered : (group : List Object) (attribute : Option Word) → IsAnswered (had group attribute)
had_answered group None e = refl
had_answered group (Some n) e = by (is_had group n) e
  where
    by : (b : Bool) → refusal_from (cond b (Some (fault.InUse n)) None) ≡ None → cond b (Some (fault.InUse n)) None ≡ None
    by true e = cc
    by false e = refl

pub first_answered : (a b : Option ObjectFault) → IsAnswered a → IsAnswered b → IsAnswered (first_some a b)
first_answered None b here there e = there e
first_answered (Some f) b here there e = here e

record_answered : (group : List Object) (o : Object) → IsAnswered (had_fault group o)
record_answered group (GroupRecord x) e = refl
record_answered group (DiskRecord x) e = refl
record_answered group (SubdiskRecord s) e = had_answered group s.plex e
record_answered group (PlexRecord p) e = had_answered group p.vol e
record_answered group (VolRecord v) e = first_answered (had group v.prefer) (had group v.dco) (had_answered group v.prefer) (had_answered group v.dco) e
record_answered group (DcoRecord d) e = had_answered group (Some d.vol) e
record_answered group (SnapRecord x) e = refl

each_answered : (group more : List Object) → IsAnswered (first_of (had_fault group) more)
each_answered group [] e = refl
each_answered group (o ∷ more) e = first_answered (had_fault group o) (first_of (had_fault group) more) (record_answered group o) (each_answered group more) e

none_had : (is_started : Word → Bool) (group more : List Object) → adding_refusal is_started group more ≡ None → first_of (had_fault group) more ≡ None
none_had is_started group more e =
    let known = firsts (group ++ more) in
    let all = group ++ more in
    let tests : Option Refusal = first_some (broken limit_rules known all) (first_some (started_name is_started more) (broken space_rules known all)) in
    let rest = second_none (broken reference_rules known all) (first_some (refusal_from (first_of (had_fault group) more)) tests) e in
    each_answered group more (first_none (refusal_from (first_of (had_fault group) more)) tests rest)

pub making_keeps : EachMakingKeeps
making_keeps c c' from g more is_started adds fine edits v of other good good' fewer =
    let no_snaps : (o : Object) → IsIn more o → picked (λ s. true) as_snap (as_snap o) ≡ [] = λ o there. no_relation o (each_fresh from is_started g more adds o there) in
    stays c v c' good good' fewer
    (untouched c v of c' stay more (edits ∙ ap (λ os. in_kinds os) (making_edited more (objects_of c)))
    (added_leaves c v more (are_others c v of more (none_had is_started (objects_of c) more fine) no_snaps)))
