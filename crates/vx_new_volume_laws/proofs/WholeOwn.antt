-- The plexes of a group are whole still, with the records of a new volume behind them.
use Rattle.std.proofs.Common.{◌≡◌, ℕ, ◌*◌, ◌%◌, ◌==◌, ◌&&◌, nat_le, nat_lt, not, Bool, true, Option, Some, None, List, ◌++◌, refl, sym, ap, ◌∙◌, append-nil}
use Rattle.std.specs.Str.{bytes_eq}
use Rattle.std.proofs.lemmas.Bool.{and_from, and_parts}
use Rattle.vx_base.specs.Named.{Word}
use Rattle.vx_config_parts.specs.declared.fault.ObjectFault.TheVariants.{NotWhole}
use Rattle.vx_config_parts.specs.declared.object.Object.{Object}
use Rattle.vx_config_parts.specs.declared.object.Object.TheVariants.{PlexRecord}
use Rattle.vx_config_parts.specs.declared.plex.Plex.{Plex}
use Rattle.vx_config_parts.specs.declared.plex.PlexLayout.{PlexLayout}
use Rattle.vx_config_parts.specs.declared.plex.PlexLayout.TheVariants.{Concat, Stripe}
use Rattle.vx_config_parts.specs.Objects.{is_subdisk, is_vol, refers}
use Rattle.vx_rules.specs.Below.{all_below}
use Rattle.vx_rules.specs.Columns.{column_length, columns_are_good, layout_is_good, plex_length}
use Rattle.vx_rules.specs.Indexed.{column_is_whole, has_piece_from}
use Rattle.vx_rules.specs.Sizes.{holds, layout_fits_kind}
use Rattle.vx_rules.proofs.ColumnRuns.{last_end, length_run, runs_in, whole_run}
use Rattle.vx_rules.proofs.Good.{tests_say}
use Rattle.vx_rules.proofs.Runs.{Run, good}
use Rattle.vx_rules.specs.Whole.{has_volume_within, holds_volume, is_whole, whole_fault}
use Rattle.vx_objects.specs.Config.{objects_of}
use Rattle.vx_image.proofs.PlexMembers.{IsIn}
use Rattle.vx_new_volumes.specs.declared.volume.NewVolume.{NewVolume}
use Rattle.vx_moments.specs.World.{Group}
use Rattle.vx_new_volume_laws.proofs.Lying.{IsCase}
use Rattle.vx_new_volume_laws.proofs.Ruled.{any_more, any_same, unless_kept}
use Rattle.vx_new_volume_laws.proofs.Beside.{no_piece_of}
use Rattle.vx_new_volume_laws.proofs.Counting.{had_here}
use Rattle.vx_new_volume_laws.proofs.Runs.{no_runs, runs_append}

module _ (started : Bool) (g : Group) (n : NewVolume) (added : List Object) (c : IsCase started g n added) where
  abbrev group : List Object
  group = objects_of g.config

  abbrev all : List Object
  all = objects_of g.config ++ added

  module _ (p : Plex) (there : IsIn (objects_of g.config) (PlexRecord p)) where
    runs_same : (col : ℕ) → runs_in p.name col all ≡ runs_in p.name col group
    runs_same col =
        runs_append p.name col group added
        ∙ ap (λ (rs : List Run). runs_in p.name col group ++ rs) (no_runs p.name col added (no_piece_of started g n added c p.name (had_here g (PlexRecord p) there) (λ s. refers s.plex p.name) (λ s h. h)))
        ∙ append-nil (runs_in p.name col group)

    long : (col : ℕ) → column_length all p.name col ≡ column_length group p.name col
    long col = length_run all p.name col ∙ ap (λ (rs : List Run). last_end 0 rs) (runs_same col) ∙ sym (length_run group p.name col)

    column_same : (col : ℕ) → column_is_whole all p.name col ≡ column_is_whole group p.name col
    column_same col = whole_run all p.name col ∙ ap (λ (rs : List Run). good rs) (runs_same col) ∙ sym (whole_run group p.name col)

    behind_same : has_piece_from all p.name p.ncol ≡ has_piece_from group p.name p.ncol
    behind_same =
        any_same (λ o. is_subdisk (λ s. refers s.plex p.name && nat_le p.ncol s.col) o) group added
        (no_piece_of started g n added c p.name (had_here g (PlexRecord p) there) (λ s. refers s.plex p.name && nat_le p.ncol s.col) (λ s h. (and_parts (refers s.plex p.name) (nat_le p.ncol s.col) h).0))

    layout_same : (layout : PlexLayout) → layout_is_good all p layout ≡ layout_is_good group p layout
    layout_same Concat = refl
    layout_same Stripe = λ i. nat_le 2 p.ncol && nat_le p.ncol 16 && nat_lt 0 p.unit && long 0 i % p.unit == 0

    columns_same : columns_are_good all p ≡ columns_are_good group p
    columns_same =
        sym (tests_say all p)
        ∙ (λ i. (layout_same p.layout i && all_below p.ncol (λ c. column_same c i && long c i == long 0 i)) && not (behind_same i))
        ∙ tests_say group p

    held : (vol : Option Word) → holds_volume group p vol ≡ true → holds_volume all p vol ≡ true
    held None h = refl
    held (Some vol) h =
        any_more (λ o. is_vol (λ v. bytes_eq v.name vol && holds p.kind (plex_length all p) v) o) group added
        ((λ i. has_volume_within group vol p.kind (p.ncol * long 0 i)) ∙ h)

    whole_still : is_whole group p ≡ true → is_whole all p ≡ true
    whole_still h =
        let a = and_parts (layout_fits_kind p.kind p.layout && columns_are_good group p) (holds_volume group p p.vol) h in
        let b = and_parts (layout_fits_kind p.kind p.layout) (columns_are_good group p) a.0 in
        and_from (layout_fits_kind p.kind p.layout && columns_are_good all p) (holds_volume all p p.vol)
        (and_from (layout_fits_kind p.kind p.layout) (columns_are_good all p) b.0 (columns_same ∙ b.1)) (held p.vol a.1)

  pub whole_own : (o : Object) → IsIn (objects_of g.config) o → whole_fault (objects_of g.config) o ≡ None → whole_fault (objects_of g.config ++ added) o ≡ None
  whole_own (PlexRecord p) there e = unless_kept (is_whole group p) (is_whole all p) (NotWhole p.name) (whole_still p there) e
  whole_own o there e = refl
