-- A house that has a group now, by what the group is made of.
use Rattle.std.proofs.Common.{◌≡◌, ◌∙◌, Some, ap}
use Rattle.vx_pages.specs.declared.local_piece.LocalPiece.{Ghosts}
use Rattle.vx_confdb.specs.declared.group.Group.{Group}
use Rattle.vx_objects.specs.declared.config.Config.{Config}
use Rattle.vx_house.specs.declared.house.House.{House}
use Rattle.vx_house.specs.declared.house.Imported.{Imported}

module _ {P : Type 0} {ghosts : Ghosts P} (h : House P ghosts) (g : Imported P ghosts) where
  abbrev pub with_group : Imported P ghosts → House P ghosts
  with_group i = record { volumes = h.volumes; group = Some i; hand = h.hand }

  pub grouped : (config : Config) (base : Group P) → g.config ≡ config → g.base ≡ base → with_group g ≡ with_group (record { config = config; base = base; public = g.public })
  grouped config base config_is base_is =
      ap (λ (x : Config). with_group (record { config = x; base = g.base; public = g.public })) config_is
      ∙ ap (λ (x : Group P). with_group (record { config = config; base = x; public = g.public })) base_is
