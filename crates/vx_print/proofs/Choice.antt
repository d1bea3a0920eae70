-- The records that are chosen by a set of the volume's plexes are those that are shown.
use Rattle.std.specs.Prelude.{◌&&◌, ◌||◌, if◌then◌else◌, IfOk, IsTrue}
use Rattle.std.specs.BTreeSet.{BTreeSet, contains, IsFromIterResult}
use Rattle.std.specs.Cmp.Lexicographic.{slice_cmp}
use Rattle.std.specs.List.{cons_option, filter, filter_map, list_all, list_any}
use Rattle.std.specs.Ordering.{eq_by_cmp, nat_cmp}
use Rattle.std.specs.Str.{bytes_eq}
use Rattle.std.specs.Cmp.Rules.{comparing}
use Rattle.std.proofs.Common.{◌≡◌, Bool, true, false, Option, Some, None, Result, Ok, Err, Vec, Global, List, [], ◌∷◌, refl, sym, ◌∙◌, ap, subst, rules}
use Rattle.std.proofs.lemmas.Bool.{and_parts, and_from}
use Rattle.vx_base.specs.Named.{Word}
use Rattle.vx_config_parts.specs.declared.object.Object.{Object}
use Rattle.vx_config_parts.specs.declared.object.Object.TheVariants.{GroupRecord, DiskRecord, SubdiskRecord, PlexRecord, VolRecord, DcoRecord, SnapRecord}
use Rattle.vx_config_parts.specs.Objects.{refers}
use Rattle.vx_objects.specs.declared.config.Config.{Config}
use Rattle.vx_objects.specs.Config.{objects_of}
use Rattle.vx_objects.specs.Printed.{has_record}
use Rattle.vx_objects.proofs.Numbers.{have_records}
use Rattle.vx_print.specs.Shown.{is_of, is_plex_of, is_shown, plex_of}

same_by_cmp : (a b : Word) → eq_by_cmp (slice_cmp nat_cmp) a b ≡ bytes_eq a b
same_by_cmp a b = search (comparing, rules)

and_true : (a : Bool) → (a && true) ≡ a
and_true true = refl
and_true false = refl

and_false : (a : Bool) → (a && false) ≡ false
and_false true = refl
and_false false = refl

with_one : (test : Word → Bool) (name : Word) (names : List Word) (b : Bool) → list_any test (cons_option (if b then Some name else None) names) ≡ ((test name && b) || list_any test names)
with_one test name names true = rw (and_true (test name)) refl
with_one test name names false = rw (and_false (test name)) refl

-- a name is among those of the volume's plexes
among : (vol w : Word) (all : List Object) → list_any (λ n. bytes_eq w n) (filter_map (plex_of vol) all) ≡ is_plex_of vol all w
among vol w [] = refl
among vol w (PlexRecord p ∷ all) = with_one (λ n. bytes_eq w n) p.name (filter_map (plex_of vol) all) (refers p.vol vol) ∙ ap (λ (b : Bool). (bytes_eq w p.name && refers p.vol vol) || b) (among vol w all)
among vol w (GroupRecord g ∷ all) = among vol w all
among vol w (DiskRecord d ∷ all) = among vol w all
among vol w (SubdiskRecord s ∷ all) = among vol w all
among vol w (VolRecord v ∷ all) = among vol w all
among vol w (DcoRecord d ∷ all) = among vol w all
among vol w (SnapRecord s ∷ all) = among vol w all

in_set : (vol : Word) (all : List Object) (s : BTreeSet Word) → IsFromIterResult (slice_cmp nat_cmp) (filter_map (plex_of vol) all) s → (w : Word) → contains (slice_cmp nat_cmp) s w ≡ is_plex_of vol all w
in_set vol all s made w = made.0 w ∙ (λ i. list_any (λ n. same_by_cmp w n i) (filter_map (plex_of vol) all)) ∙ among vol w all

-- the records of the volume, by the set of its plexes
pub by_set : (vol : Word) (all : List Object) (s : BTreeSet Word) → IsFromIterResult (slice_cmp nat_cmp) (filter_map (plex_of vol) all) s → filter (λ o. is_of vol (contains (slice_cmp nat_cmp) s) o) all ≡ filter (λ o. is_shown (Some vol) all o) all
by_set vol all s made = λ i. filter (λ o. is_of vol (λ w. in_set vol all s made w i) o) all

all_stay : (os : List Object) → filter (λ (o : Object). true) os ≡ os
all_stay [] = refl
all_stay (o ∷ os) = ap (λ (rest : List Object). o ∷ rest) (all_stay os)

keep_one : (p : Object → Bool) (o : Object) (os : List Object) (b : Bool) → p o ≡ true → list_all p os ≡ true → list_all p (if b then o ∷ os else os) ≡ true
keep_one p o os true h k = and_from (p o) (list_all p os) h k
keep_one p o os false h k = k

-- what holds of all holds of those that are chosen
chosen_pass : (p test : Object → Bool) (os : List Object) → list_all p os ≡ true → list_all p (filter test os) ≡ true
chosen_pass p test [] h = refl
chosen_pass p test (o ∷ os) h =
    let parts = and_parts (p o) (list_all p os) h in
    keep_one p o (filter test os) (test o) parts.0 (chosen_pass p test os parts.1)

pub none_chosen : (only : Option Word) (all items : List Object) → only ≡ None → items ≡ all → items ≡ filter (λ o. is_shown only all o) all
none_chosen only all items e same = same ∙ sym (all_stay all) ∙ (λ i. filter (λ o. is_shown (sym e i) all o) all)

pub have_all : (config : Config) (items : List Object) → items ≡ objects_of config → list_all has_record items ≡ true
have_all config items e = subst (λ (xs : List Object). list_all has_record xs ≡ true) (sym e) (have_records config.group config.version config.disks config.subdisks config.plexes config.volumes config.dcos config.snaps config.valid)

chosen_have : (config : Config) (test : Object → Bool) (items : List Object) → items ≡ filter test (objects_of config) → list_all has_record items ≡ true
chosen_have config test items e = subst (λ (xs : List Object). list_all has_record xs ≡ true) (sym e) (chosen_pass has_record test (objects_of config) (have_all config (objects_of config) refl))

pub ok_have : {E : Type 0} (r : Result (Vec Object Global) E) (config : Config) (test : Object → Bool) (now : List Object) → now ≡ objects_of config → IfOk r (λ v. v.items ≡ filter test now) → IfOk r (λ v. IsTrue (list_all has_record v.items))
ok_have (Ok v) config test now e is = chosen_have config test v.items (is ∙ ap (λ (os : List Object). filter test os) e)
ok_have (Err x) config test now e is = tt
