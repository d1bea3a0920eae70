-- Where a log is not spared by what has failed before or since, it is not by what failed before, or a device of it has failed since.
use Rattle.std.proofs.Common.{◌≡◌, ◌⊎◌, ◌||◌, Bool, true, false, refl, inl, inr}
use Rattle.std.specs.Prelude.{◌&&◌}
use Rattle.std.specs.List.{list_any}
use Rattle.std.proofs.lemmas.Bool.{and_from, and_parts}
use Rattle.vx_base.specs.Named.{Word}
use Rattle.vx_mask.proofs.Tests.{not_both}
use Rattle.vx_config_parts.specs.declared.plex.Plex.{Plex}
use Rattle.vx_config_parts.specs.Objects.{is_log_plex_of}
use Rattle.vx_image.proofs.PlexMembers.{any_in, in_any}
use Rattle.vx_image.proofs.Members.{contains, is_in}
use Rattle.vx_moments.specs.Moment.{Counts, HasFailed}
use Rattle.vx_moments.specs.World.{Group}
use Rattle.vx_moments.specs.Owners.{devices_on}
use Rattle.vx_stages.specs.GroupCalls.{LogHasFailed}
use Rattle.vx_stages.specs.Logs.{LogIsSpared}

module _ (g : Group) (name : Word) (old new : Counts) (failed was : Word → Bool) (true_of : (device : Word) → failed device ≡ true → HasFailed old new device) where
  -- a device that the log plex of the volume lies on has failed
  abbrev fails : Plex → Bool
  fails p = is_log_plex_of name p && list_any failed (devices_on g p)

  neither : (a b : Bool) → (a ≡ true → ⊥) → b ≡ false → (a || b) ≡ false
  neither true b never is = absurd (never refl)
  neither false b never is = is

  spared_too : list_any fails g.config.plexes ≡ false → LogIsSpared g name was → LogIsSpared g name (λ d. failed d || was d)
  spared_too none spared p there log device on = neither (failed device) (was device)
      (λ up. not_both (in_any fails g.config.plexes p (is_in g.config.plexes p there) (and_from (is_log_plex_of name p) (list_any failed (devices_on g p)) log (in_any failed (devices_on g p) device (is_in (devices_on g p) device on) up))) none)
      (spared p there log device on)

  has_failed : list_any fails g.config.plexes ≡ true → LogHasFailed g name old new
  has_failed any =
      let p = any_in fails g.config.plexes any in
      let both = and_parts (is_log_plex_of name p.0) (list_any failed (devices_on g p.0)) p.2 in
      let d = any_in failed (devices_on g p.0) both.1 in
      (p.0, contains g.config.plexes p.0 p.1, both.0, (d.0, contains (devices_on g p.0) d.0 d.1, true_of d.0 d.2))

  pub log_lost : (LogIsSpared g name (λ d. failed d || was d) → ⊥) → LogHasFailed g name old new ⊎ (LogIsSpared g name was → ⊥)
  log_lost lost = by (list_any fails g.config.plexes) refl
    where
      by : (b : Bool) → list_any fails g.config.plexes ≡ b → LogHasFailed g name old new ⊎ (LogIsSpared g name was → ⊥)
      by true any = inl (has_failed any)
      by false none = inr (λ spared. lost (spared_too none spared))
