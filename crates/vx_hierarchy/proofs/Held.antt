-- A plex is held where its name is not among those of the plexes of which a disk is not good and whose pieces are not lent.
use Rattle.std.specs.Prelude.{◌||◌, ◌&&◌, not, if◌then◌else◌}
use Rattle.std.specs.BTreeSet.{BTreeSet, contains, IsFromIterResult}
use Rattle.std.specs.Cmp.Lexicographic.{slice_cmp}
use Rattle.std.specs.List.{cons_option, filter_map, list_all, list_any}
use Rattle.std.specs.Ordering.{eq_by_cmp, nat_cmp}
use Rattle.std.specs.Str.{bytes_eq}
use Rattle.std.specs.Cmp.Rules.{comparing}
use Rattle.std.proofs.Common.{◌≡◌, ℕ, Bool, true, false, Option, Some, None, List, [], ◌∷◌, refl, sym, ◌∙◌, ap, rules}
use Rattle.vx_base.specs.Named.{Word}
use Rattle.vx_base.proofs.NamedLemmas.{bytes_eq_same}
use Rattle.vx_mask.specs.Mask.{has}
use Rattle.vx_config_parts.specs.declared.disk.Disk.{Disk}
use Rattle.vx_config_parts.specs.declared.object.Object.{Object}
use Rattle.vx_config_parts.specs.declared.plex.Plex.{Plex}
use Rattle.vx_config_parts.specs.declared.subdisk.Subdisk.{Subdisk}
use Rattle.vx_config_parts.specs.Objects.{refers}
use Rattle.vx_objects.specs.declared.config.Config.{Config}
use Rattle.vx_objects.specs.Config.{objects_of}
use Rattle.vx_image.specs.Lies.{slot_of}
use Rattle.vx_hierarchy.specs.Rows.{is_lent, lost_plex, plex_row, stays_held, unless_lent}
use Rattle.vx_hierarchy.specs.declared.row.Row.{Row}

same_by_cmp : (a b : Word) → eq_by_cmp (slice_cmp nat_cmp) a b ≡ bytes_eq b a
same_by_cmp a b = search (comparing, rules)

-- one subdisk more: its plex is lost where its disk is not good and its pieces are not lent
one_more : (w : Word) (lent : List Word) (plex : Option Word) (good : Bool) (lost : List Word) (others : Bool) → not (list_any (λ n. bytes_eq n w) lost) ≡ (others || is_lent lent w) →
    not (list_any (λ n. bytes_eq n w) (cons_option (if good then None else unless_lent lent plex) lost)) ≡ (((not (refers plex w) || good) && others) || is_lent lent w)
one_more w lent None true lost others e = e
one_more w lent None false lost others e = e
one_more w lent (Some p) true lost others e = by_test (bytes_eq p w)
  where
    by_test : (b : Bool) → not (list_any (λ n. bytes_eq n w) lost) ≡ (((not b || true) && others) || is_lent lent w)
    by_test true = e
    by_test false = e
one_more w lent (Some p) false lost others e = by_test (bytes_eq p w) refl (is_lent lent p) refl
  where
    or_true : (b : Bool) → (b || true) ≡ true
    or_true true = refl
    or_true false = refl

    same_lent : bytes_eq p w ≡ true → is_lent lent w ≡ is_lent lent p
    same_lent same = ap (is_lent lent) (sym (bytes_eq_same p w same))

    by_test : (b : Bool) → bytes_eq p w ≡ b → (l : Bool) → is_lent lent p ≡ l →
        not (list_any (λ n. bytes_eq n w) (cons_option (if l then None else Some p) lost)) ≡ (((not b || false) && others) || is_lent lent w)
    by_test true same true is = e ∙ ap (λ (x : Bool). others || x) (same_lent same ∙ is) ∙ or_true others ∙ sym (same_lent same ∙ is)
    by_test true same false is = ap (λ (x : Bool). not (x || list_any (λ n. bytes_eq n w) lost)) same ∙ sym (same_lent same ∙ is)
    by_test false same true is = e
    by_test false same false is = ap (λ (x : Bool). not (x || list_any (λ n. bytes_eq n w) lost)) same ∙ e

not_lost : (disks : List Disk) (good : ℕ) (lent : List Word) (w : Word) (subdisks : List Subdisk) →
    not (list_any (λ n. bytes_eq n w) (filter_map (lost_plex disks good lent) subdisks)) ≡ (list_all (λ s. not (refers s.plex w) || has good (slot_of disks s.disk)) subdisks || is_lent lent w)
not_lost disks good lent w [] = refl
not_lost disks good lent w (s ∷ ss) = one_more w lent s.plex (has good (slot_of disks s.disk)) (filter_map (lost_plex disks good lent) ss) _ (not_lost disks good lent w ss)

is_not_in : (c : Config) (good : ℕ) (lent : List Word) (lost : BTreeSet Word) → IsFromIterResult (slice_cmp nat_cmp) (filter_map (lost_plex c.disks good lent) c.subdisks) lost → (p : Plex) →
    not (contains (slice_cmp nat_cmp) lost p.name) ≡ stays_held c good lent p
is_not_in c good lent lost made p =
    ap not (made.0 p.name ∙ (λ i. list_any (λ n. same_by_cmp p.name n i) (filter_map (lost_plex c.disks good lent) c.subdisks))) ∙ not_lost c.disks good lent p.name c.subdisks

-- the rows of plexes by the names of those that are lost
pub by_lost : (c : Config) (good : ℕ) (lent : List Word) (lost : BTreeSet Word) (started : Word → Bool) (all : List Object) (plexes : List Plex) (found : List Row) →
    IsFromIterResult (slice_cmp nat_cmp) (filter_map (lost_plex c.disks good lent) c.subdisks) lost →
    found ≡ filter_map (plex_row all (λ p. not (contains (slice_cmp nat_cmp) lost p.name)) started) plexes → all ≡ objects_of c → plexes ≡ c.plexes → found ≡ filter_map (plex_row (objects_of c) (stays_held c good lent) started) c.plexes
by_lost c good lent lost started all plexes found made e is same = e ∙ (λ i. filter_map (plex_row (is i) (λ p. is_not_in c good lent lost made p i) started) (same i))
