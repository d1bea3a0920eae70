-- The view by what is said alike of which volumes are started, and of which plexes of these are held.
use Rattle.std.specs.List.{cons_option, filter, filter_map}
use Rattle.std.specs.List.Sorted.{IsPermutation}
use Rattle.std.specs.Option.{option_map}
use Rattle.std.proofs.Common.{◌≡◌, ℕ, Bool, true, false, Option, Some, None, List, [], ◌∷◌, ◌++◌, map, refl, ◌∙◌, ap, subst, inl, inr}
use Rattle.vx_base.specs.Named.{Word}
use Rattle.vx_config_parts.specs.declared.plex.Plex.{Plex}
use Rattle.vx_config_parts.specs.declared.state.PlexState.{PlexState}
use Rattle.vx_rules.specs.Columns.{plex_length}
use Rattle.vx_objects.specs.declared.config.Config.{Config}
use Rattle.vx_objects.specs.Config.{objects_of}
use Rattle.vx_image.proofs.PlexMembers.{IsIn}
use Rattle.vx_hierarchy.specs.Hierarchy.{IsHierarchy}
use Rattle.vx_hierarchy.specs.Kernel.{plex_kernel}
use Rattle.vx_hierarchy.specs.Rows.{is_asked, plex_named, plex_row, plex_row_of, rows, subdisk_row, volume_row}
use Rattle.vx_hierarchy.specs.declared.kernel.Kernel.{Kernel}
use Rattle.vx_hierarchy.specs.declared.row.Row.{Row}
use Rattle.vx_hierarchy.specs.declared.row.Row.TheVariants.{PlexRow}

filter_map_same : {A B : Type 0} (f g : A → Option B) (xs : List A) → ((x : A) → IsIn xs x → f x ≡ g x) → filter_map f xs ≡ filter_map g xs
filter_map_same f g [] each = refl
filter_map_same f g (x ∷ xs) each = λ i. cons_option (each x (inl refl) i) (filter_map_same f g xs (λ y there. each y (inr there)) i)

-- of a volume that is not started it does not matter
kernel_same : (state : PlexState) (held held' started started' : Bool) → started ≡ started' → (started ≡ true → held ≡ held') → plex_kernel started held state ≡ plex_kernel started' held' state
kernel_same state held held' true started' same alike = ap (λ (b : Bool). plex_kernel true b state) (alike refl) ∙ ap (λ (b : Bool). plex_kernel b held' state) same
kernel_same state held held' false started' same alike = ap (λ (b : Bool). plex_kernel b held' state) same

module _ (c : Config) (held held' : Plex → Bool) (started started' : Word → Bool) (same : (vol : Word) → started vol ≡ started' vol)
    (alike : (p : Plex) (vol : Word) → IsIn c.plexes p → p.vol ≡ Some vol → started vol ≡ true → held p ≡ held' p) where
  row_same : (p : Plex) → IsIn c.plexes p → plex_row (objects_of c) held started p ≡ plex_row (objects_of c) held' started' p
  row_same p there = by p.vol refl
    where
      by : (o : Option Word) → p.vol ≡ o → option_map (plex_row_of (objects_of c) held started p) o ≡ option_map (plex_row_of (objects_of c) held' started' p) o
      by None e = refl
      by (Some vol) e =
          ap (λ (k : Kernel). Some (PlexRow p vol k (plex_length (objects_of c) p))) (kernel_same p.state (held p) (held' p) (started vol) (started' vol) (same vol) (λ is. alike p vol there e is))

  rows_same : rows c held started ≡ rows c held' started'
  rows_same = λ i.
      map (volume_row (λ vol. same vol i)) c.volumes
      ++ (filter_map_same (plex_row (objects_of c) held started) (plex_row (objects_of c) held' started') c.plexes row_same i ++ filter_map (subdisk_row (plex_named c.plexes)) c.subdisks)

  pub hierarchy_same : (only : Option Word) (old new : List ℕ) → IsHierarchy c held started only old new → IsHierarchy c held' started' only old new
  hierarchy_same only old new h = record { shown = h.shown; same = subst (λ (rs : List Row). IsPermutation (filter (is_asked only) rs) h.shown) rows_same h.same; ordered = h.ordered; text = h.text }
