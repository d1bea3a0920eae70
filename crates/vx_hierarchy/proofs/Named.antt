-- The walk that gathers plexes by their names.
use Rattle.std.proofs.Common.{◌≡◌, ℕ, ◌+◌, ◌<◌, Bool, true, false, cond, Option, Some, None, is_some, List, [], ◌∷◌, ◌++◌, length, take, get_or, refl, sym, ◌∙◌, ap, subst, inl, inr, add-one}
use Rattle.std.specs.List.{filter_map}
use Rattle.std.specs.Option.{option_or}
use Rattle.std.specs.Cmp.Lexicographic.{slice_cmp}
use Rattle.std.specs.Ordering.{nat_cmp, is_eq}
use Rattle.std.specs.Str.{bytes_eq}
use Rattle.std.proofs.Math.Seq.{take-suc}
use Rattle.std.proofs.lemmas.List.Folds.{find-append}
use Rattle.std.proofs.lemmas.Map.Text.{is_eq-slice_cmp}
use Rattle.vx_base.specs.Named.{Word}
use Rattle.vx_base.proofs.NamedLemmas.{bytes_eq_self, name_cases}
use Rattle.vx_config_parts.specs.declared.plex.Plex.{Plex}
use Rattle.vx_config_parts.specs.declared.subdisk.Subdisk.{Subdisk}
use Rattle.vx_hierarchy.specs.Rows.{plex_named, subdisk_row}
use Rattle.vx_hierarchy.specs.declared.row.Row.{Row}

-- one plex more is looked at
pub named_more : (plexes : List Plex) (i : ℕ) (p : Plex) (name : Word) (new old : Option Plex) → i < length plexes → p ≡ get_or plexes i p → old ≡ plex_named (take i plexes) name → new ≡ option_or old (plex_named (p ∷ []) name) → new ≡ plex_named (take (i + 1) plexes) name
named_more plexes i p name new old lt is e f =
    let more : take (i + 1) plexes ≡ take i plexes ++ p ∷ [] = ap (λ k. take k plexes) (add-one i) ∙ take-suc plexes i p lt ∙ ap (λ q. take i plexes ++ q ∷ []) (sym is) in
    f ∙ ap (λ o. option_or o (plex_named (p ∷ []) name)) e ∙ sym (find-append (λ q. bytes_eq q.name name) (take i plexes) (p ∷ [])) ∙ sym (ap (λ qs. plex_named qs name) more)

none_stays : {A : Type 0} (o : Option A) → o ≡ option_or o None
none_stays None = refl
none_stays (Some x) = refl

none_is : {A : Type 0} (o : Option A) → is_some o ≡ false → o ≡ None
none_is None e = refl
none_is (Some x) e = cc

-- a plex whose name is not there is put
pub is_put : (p : Plex) (name : Word) (old : Word → Option Plex) (new : Option Plex) → is_some (old p.name) ≡ false → new ≡ cond (is_eq (slice_cmp nat_cmp p.name name)) (Some p) (old name) → new ≡ option_or (old name) (plex_named (p ∷ []) name)
is_put p name old new absent is =
    is ∙ ap (λ (b : Bool). cond b (Some p) (old name)) (is_eq-slice_cmp p.name name)
    ∙ elim (name_cases p.name name) [
      | inl same ↦
          let here : bytes_eq p.name name ≡ true = subst (λ n. bytes_eq p.name n ≡ true) same (bytes_eq_self p.name) in
          let none : old name ≡ None = none_is (old name) (subst (λ n. is_some (old n) ≡ false) same absent) in
          rw (none, here) refl
      | inr other ↦ rw other (none_stays (old name))
    ]

-- the rows of subdisks by the plexes under their names
pub by_names : (plexes : List Plex) (all : List Plex) (named : Word → Option Plex) (subdisks pieces : List Subdisk) (found : List Row) →
    ((name : Word) → named name ≡ plex_named all name) → all ≡ plexes → pieces ≡ subdisks → found ≡ filter_map (subdisk_row named) pieces → found ≡ filter_map (subdisk_row (plex_named plexes)) subdisks
by_names plexes all named subdisks pieces found is same so e = e ∙ (λ i. filter_map (subdisk_row (λ name. is name i)) (so i)) ∙ ap (λ (ps : List Plex). filter_map (subdisk_row (plex_named ps)) subdisks) same
