-- Where a plex lies that is added to a volume of a group.
use Rattle.std.specs.Prelude.{◌≡◌, ℕ, ◌≤◌, true, List, [], ◌∷◌, map, Contains}
use Rattle.vx_base.specs.Named.{Word}
use Rattle.vx_pages.specs.declared.local_piece.LocalPiece.{Ghosts}
use Rattle.vx_piece.specs.Seen.{Seen}
use Rattle.vx_layout.specs.declared.layout.Layout.{Layout}
use Rattle.vx_layout.specs.Columns.{capacity}
use Rattle.vx_carve.specs.Strips.{ArePlexes, EachStrip, IsFreeStrip}
use Rattle.vx_config_parts.specs.declared.object.Object.{Object}
use Rattle.vx_config_parts.specs.declared.plex.Plex.{Plex}
use Rattle.vx_config_parts.specs.declared.vol.Vol.{Vol}
use Rattle.vx_config_parts.specs.Objects.{is_data_plex_of}
use Rattle.vx_objects.specs.declared.config.Config.{Config}
use Rattle.vx_objects.specs.declared.edit.Edit.TheVariants.{Make}
use Rattle.vx_objects.specs.Applied.{IsEdited}
use Rattle.vx_image.specs.Bytes.{is_held}
use Rattle.vx_image.specs.UsedPlexes.{IsVolOf}
use Rattle.vx_copies.specs.Disks.{good_mask}
use Rattle.vx_confdb.specs.Groups.{members}
use Rattle.vx_lending.specs.Form.{IsLayoutOf}
use Rattle.vx_lending.specs.FormLaws.{AreNumbered}
use Rattle.vx_group_edits.specs.OfVolume.{AreOf}
use Rattle.vx_group_edits.specs.Joins.{plexes_in}
use Rattle.vx_house.specs.Idle.{HaveRoom, IsGathered}
use Rattle.vx_house.specs.View.{IsGroupKept}
use Rattle.vx_house.specs.declared.house.Imported.{Imported}

-- In a kept group that was gathered, all sectors of a new plex are in the pool, whatever volumes run, if all its disks are good.
abbrev pub EachNewPlexIsFree : {P : Type 0} {ghosts : Ghosts P} → (P → Seen) → Imported P ghosts → Type 0
EachNewPlexIsFree see g =
    IsGroupKept see g → IsGathered see g → (c : Config) (vol : Word) (added : List Object) → AreOf vol added → IsEdited (Make added ∷ []) g.config c →
    (p : Plex) → Contains (plexes_in added) p → is_held c (good_mask (members see g.base)) p ≡ true → (l : Layout) → IsLayoutOf c p l →
    (numbers : List ℕ) → HaveRoom numbers (members see g.base) (good_mask (members see g.base)) g.config.disks →
    EachStrip (IsFreeStrip numbers (map see g.public.pool.items.items)) l.columns

-- The strips of a plex whose disks are all good have numbers, and each volume of which it is a data plex has no more blocks than it.
abbrev pub EachHeldPlexCanBeTaken : Type 0
EachHeldPlexCanBeTaken =
    (c : Config) (good : ℕ) (p : Plex) (l : Layout) → Contains c.plexes p → is_held c good p ≡ true → IsLayoutOf c p l → (numbers : List ℕ) → AreNumbered numbers good c.disks →
    ArePlexes numbers (l ∷ []) × ((v : Vol) → IsVolOf c v → is_data_plex_of v.name p ≡ true → v.len ≤ capacity l.columns)
