-- The form of a volume of which states have changed.
use Rattle.std.specs.Prelude.{◌≡◌, ℕ, Bool, true}
use Rattle.std.specs.List.{AllZip}
use Rattle.vx_base.specs.Named.{Word}
use Rattle.vx_config_parts.specs.declared.plex.Plex.{Plex}
use Rattle.vx_config_parts.specs.declared.vol.Vol.{Vol}
use Rattle.vx_config_parts.specs.Objects.{is_data_plex_of, is_log_plex_of}
use Rattle.vx_objects.specs.declared.config.Config.{Config}
use Rattle.vx_image.specs.Image.{is_available_state}
use Rattle.vx_lending.specs.declared.form.VolumeForm.{VolumeForm}
use Rattle.vx_image.specs.UsedPlexes.{is_used_state}
use Rattle.vx_lending.specs.Form.{IsFormOf}

-- The plex is the same but for its state: a data plex of the volume is available just where it was, and a log plex is used just where
-- it was.
pub record IsUsedAlike (vol : Word) (fresh fresh' : Bool) (p q : Plex) : Type 0 where
  pub same : q ≡ record p { state = q.state }
  pub available : is_data_plex_of vol p ≡ true → is_available_state q.state ≡ is_available_state p.state
  pub used : is_log_plex_of vol p ≡ true → is_used_state fresh' q.state ≡ is_used_state fresh p.state

-- of a configuration such states have changed, and no disk has failed
pub record KeepsForm (c0 : Config) (v0 : Vol) (fresh : Bool) (c : Config) (v : Vol) (fresh' : Bool) : Type 0 where
  pub vol : v ≡ record v0 { state = v.state }
  pub disks : c.disks ≡ c0.disks
  pub subdisks : c.subdisks ≡ c0.subdisks
  pub snaps : c.snaps ≡ c0.snaps
  pub plexes : AllZip (IsUsedAlike v0.name fresh fresh') c0.plexes c.plexes

-- Then the form of the volume is its form again, as of a volume that was started over the form that it had as it was EMPTY.
abbrev pub EachFormIsKept : Type 0
EachFormIsKept =
    (c0 : Config) (good : ℕ) (v0 : Vol) (fresh : Bool) (form : VolumeForm) → IsFormOf c0 good v0 fresh form →
    (c : Config) (v : Vol) (fresh' : Bool) → KeepsForm c0 v0 fresh c v fresh' → IsFormOf c good v fresh' form
