-- Volumes that begin to run and are left: the bytes of all that do not run stay sound.
use Rattle.std.proofs.Common.{◌≡◌, ◌∙◌, ◌≢◌, Bool, true, false, [], map, inr, Option, Some, None, refl, sym, ap, subst}
use Rattle.std.specs.Str.{bytes_eq}
use Rattle.vx_base.specs.Named.{Word, put}
use Rattle.vx_base.proofs.NamedLemmas.{bytes_eq_same, put_same, put_other}
use Rattle.vx_config_parts.specs.declared.object.Object.TheVariants.{DiskRecord, SubdiskRecord, PlexRecord, VolRecord}
use Rattle.vx_config_parts.specs.declared.vol.Vol.{Vol}
use Rattle.vx_rules.proofs.InOrder.{names_differ}
use Rattle.vx_objects.specs.declared.config.Config.{Config}
use Rattle.vx_objects.specs.Config.{objects_of}
use Rattle.vx_image.proofs.PlexMembers.{IsIn, in_left, in_right, in_map, one_named}
use Rattle.vx_image.proofs.Plexes.{config_valid}
use Rattle.vx_image.specs.Soundness.{IsSoundImage}
use Rattle.vx_image.proofs.Members.{is_in}
use Rattle.vx_moments.specs.World.{Volume, World}
use Rattle.vx_moments.specs.Group.{image_on}
use Rattle.vx_moments.specs.Lives.{volume_begun, EachStartLeavesSound, EachLeavingLeavesSound}
use Rattle.vx_moments.proofs.OtherVolumes.{volumes_sound}

apart : (vol name : Word) → name ≢ vol → bytes_eq vol name ≡ false
apart vol name differ = by (bytes_eq vol name) refl
  where
    by : (b : Bool) → bytes_eq vol name ≡ b → bytes_eq vol name ≡ false
    by true e = absurd (differ (sym (bytes_eq_same vol name e)))
    by false e = e

module _ (vol : Word) (o : Option Volume) (old new : World) (is : new.volumes ≡ put vol o old.volumes) where
  idle_before : (name : Word) → name ≢ vol → new.volumes name ≡ None → old.volumes name ≡ None
  idle_before name differ none = sym (put_other vol name o old.volumes (apart vol name differ)) ∙ sym (ap (λ (f : Word → Option Volume). f name) is) ∙ none

  here_now : new.volumes vol ≡ o
  here_now = ap (λ (f : Word → Option Volume). f vol) is ∙ put_same vol o old.volumes

pub start_leaves : EachStartLeavesSound
start_leaves g v plexes old new own begins sound =
    let run : Volume = record (volume_begun g v plexes (image_on old.devices g v)) { sound = begins.sound } in
    volumes_sound g v.name old new own begins.changes (idle_before v.name (Some run) old new begins.volumes)
    (λ w there same none. absurd (let here : new.volumes v.name ≡ Some run = here_now v.name (Some run) old new begins.volumes in cc)) sound

-- ---- two volumes of one name are one

vol_in : (c : Config) (v : Vol) → IsIn c.volumes v → IsIn (objects_of c) (VolRecord v)
vol_in c v one = inr (in_right (map DiskRecord c.disks) _ (VolRecord v) (in_right (map SubdiskRecord c.subdisks) _ (VolRecord v) (in_right (map PlexRecord c.plexes) _ (VolRecord v) (in_left (map VolRecord c.volumes) _ (VolRecord v) (in_map VolRecord c.volumes v one)))))

same_vol : (v w : Vol) → VolRecord v ≡ VolRecord w → v ≡ w
same_vol v w e = cc

one_vol : (c : Config) (v w : Vol) → IsIn c.volumes v → IsIn c.volumes w → v.name ≡ w.name → v ≡ w
one_vol c v w h k same = same_vol v w (one_named [] (objects_of c) (VolRecord v) (VolRecord w) (names_differ (objects_of c) (config_valid c)) (vol_in c v h) (vol_in c w k) same)

pub leaving_leaves : EachLeavingLeavesSound
leaving_leaves g v run old new own there known left sound =
    volumes_sound g v.name old new own left.changes (idle_before v.name None old new left.volumes)
    (λ w there' same none.
    let one : v ≡ w = one_vol g.config v w (is_in g.config.volumes v there) (is_in g.config.volumes w there') (sym same) in
    subst (λ x. IsSoundImage (image_on new.devices g x)) one (left.stands known).sound) sound
