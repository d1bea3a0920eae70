-- A volume may be opened over regions that were taken.
use Rattle.std.proofs.Common.{◌≡◌, ◌∙◌, ℕ, zero, suc, List, [], ◌∷◌, slice_index_or, refl, sym, subst}
use Rattle.vx_cell.specs.Plexes.{PlexSeen}
use Rattle.vx_pages.specs.Items.{item_at}
use Rattle.vx_volume.specs.declared.volume.VolumeShape.{VolumeShape}
use Rattle.vx_volume.specs.Opening.{ArePlexesOf, size_of}
use Rattle.vx_lending.specs.RegionLaws.{AreMapsOf, TakenRegionsMayBeOpened}
use Rattle.vx_lending.specs.RegionsTaken.{IsTakenRegion}
use Rattle.vx_layout.specs.declared.layout.Layout.{Layout}

same_item : {A : Type 0} (none : A) (xs : List A) (i : ℕ) → item_at none xs i ≡ slice_index_or xs i none
same_item none [] i = refl
same_item none (x ∷ xs) zero = refl
same_item none (x ∷ xs) (suc i) = same_item none xs i

plexes_open : (shape : VolumeShape) (numbers maps : List ℕ) (layouts : List Layout) (start size : ℕ) (plexes : List PlexSeen) → AreMapsOf shape maps → IsTakenRegion numbers maps layouts start size plexes → ArePlexesOf shape size plexes
plexes_open shape numbers maps layouts start size plexes of taken =
    record {
      held = λ k on. taken.held k ∙ of.on k on;
      known = λ k holds. of.known k (sym (taken.held k) ∙ holds);
      differ = taken.differ;
      cover = taken.cover;
    }

pub regions_open : TakenRegionsMayBeOpened
regions_open shape log numbers maps layouts regions masks of count taken =
    record {
      masks = masks;
      count = count;
      plexes = λ r inside. subst (λ (plexes : List PlexSeen). ArePlexesOf shape (size_of shape r) plexes) (sym (same_item [] regions r)) (plexes_open shape numbers maps layouts _ _ _ of (taken r inside));
    }
