-- An edit of one plex, which leaves its volume or is removed, leaves the volumes as they are recorded.
use Rattle.std.proofs.Common.{◌≡◌, ◌≢◌, Bool, true, false, Option, Some, None, List, [], ◌∷◌, ◌++◌, refl, sym, ◌∙◌, ap}
use Rattle.std.specs.Prelude.{not}
use Rattle.std.specs.List.{filter_map}
use Rattle.std.specs.Str.{bytes_eq}
use Rattle.std.proofs.lemmas.List.{append-nil}
use Rattle.vx_base.specs.Named.{Word}
use Rattle.vx_config_parts.specs.declared.object.Object.{Object}
use Rattle.vx_config_parts.specs.declared.object.Object.TheVariants.{PlexRecord, SubdiskRecord, VolRecord}
use Rattle.vx_config_parts.specs.declared.plex.Plex.{Plex}
use Rattle.vx_config_parts.specs.declared.state.PlexState.TheVariants.{Empty}
use Rattle.vx_config_parts.specs.declared.vol.Vol.{Vol}
use Rattle.vx_config_parts.specs.Objects.{refers}
use Rattle.vx_rules.proofs.InOrder.{names_differ}
use Rattle.vx_objects.specs.declared.config.Config.{Config}
use Rattle.vx_objects.specs.declared.edit.Edit.{Edit}
use Rattle.vx_objects.specs.declared.edit.Edit.TheVariants as edit
use Rattle.vx_objects.specs.Applied.{IsEdited}
use Rattle.vx_objects.specs.Config.{objects_of}
use Rattle.vx_objects.specs.Edits.{added, edited, kept}
use Rattle.vx_objects.specs.Parts.{as_vol}
use Rattle.vx_image.specs.UsedPlexes.{IsVolOf}
use Rattle.vx_image.proofs.PlexMembers.{IsIn, one_in, one_named, plex_in}
use Rattle.vx_image.proofs.Plexes.{config_valid}
use Rattle.vx_stages.specs.Leaving.{leaving_edits}
use Rattle.vx_group_edits.specs.OfVolume.{AreEditsOf, IsEditOf}
use Rattle.vx_group_edits.proofs.ByKind.{volumes_are, volumes_own}
use Rattle.vx_group_edits.proofs.OwnEdits.{edited_is, set_by, set_with, then_pick}

-- a record that stays or goes is no volume's
no_vol : (b : Bool) (o : Object) → as_vol o ≡ None → then_pick as_vol (kept b o) ≡ as_vol o
no_vol true o none = refl
no_vol false o none = sym none

abbrev left_by : (remove : Bool) → Plex → Edit
left_by true p = edit.RemovePlex p.name
left_by false p = edit.SetPlex p.name None Empty None

module _ (p : Plex) where
  picks_same : (remove : Bool) (o : Object) → then_pick as_vol (set_by (left_by remove p) o) ≡ as_vol o
  picks_same true (PlexRecord q) = no_vol (not (bytes_eq q.name p.name)) (PlexRecord q) refl
  picks_same true (SubdiskRecord q) = no_vol (not (refers q.plex p.name)) (SubdiskRecord q) refl
  picks_same true o = refl
  picks_same false (PlexRecord q) = refl
  picks_same false o = refl

  adds_none : (remove : Bool) → added (left_by remove p) ≡ []
  unfolding added
  adds_none true = refl
  adds_none false = refl

  module _ (c : Config) (vol : Word) (remove : Bool) (of : IsEditOf c vol (left_by remove p)) where
    same_picked : (os : List Object) → filter_map as_vol (edited (left_by remove p) os) ≡ filter_map as_vol os
    same_picked os =
        ap (λ ps. filter_map as_vol ps) (edited_is c vol (left_by remove p) of os)
        ∙ set_with as_vol (λ o. set_by (left_by remove p) o) (picks_same remove) os (added (left_by remove p))
        ∙ ap (λ more. filter_map as_vol os ++ filter_map as_vol more) (adds_none remove)
        ∙ append-nil (filter_map as_vol os)

    volumes_by : (c' : Config) → IsEdited (left_by remove p ∷ []) c c' → c'.volumes ≡ c.volumes
    volumes_by c' is = volumes_are c' (edited (left_by remove p) (objects_of c)) is ∙ same_picked (objects_of c) ∙ volumes_own c

-- the edits by which a plex leaves its volume
pub leaving_volumes : (c c' : Config) (vol : Word) (p : Plex) (remove : Bool) → AreEditsOf c vol (leaving_edits remove p) → IsEdited (leaving_edits remove p) c c' → c'.volumes ≡ c.volumes
leaving_volumes c c' vol p true of is = volumes_by p c vol true of.0 c' is
leaving_volumes c c' vol p false of is = volumes_by p c vol false of.0 c' is

-- no volume has the name of a plex
pub plex_no_vol : (c : Config) (p : Plex) (v : Vol) → IsIn c.plexes p → IsVolOf c v → v.name ≢ p.name
plex_no_vol c p v there of same = differ (one_named [] (objects_of c) (VolRecord v) (PlexRecord p) (names_differ (objects_of c) (config_valid c)) (one_in (objects_of c) (VolRecord v) of) (plex_in c p there) same)
  where
    differ : VolRecord v ≡ PlexRecord p → ⊥
    differ e = cc
