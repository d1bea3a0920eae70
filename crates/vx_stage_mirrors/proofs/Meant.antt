-- What the devices of a group hold of a running volume, by the numbers of the slots that it was opened with.
use Rattle.std.proofs.Common.{◌≡◌, ◌∙◌, ℕ, ◌+◌, Bool, true, false, cond, List, [], refl, sym, ap}
use Rattle.std.specs.Prelude.{Contains, slice_index}
use Rattle.vx_base.specs.Blocks.{Contents}
use Rattle.vx_base.specs.Named.{Word}
use Rattle.vx_mask.specs.Mask.{has}
use Rattle.vx_piece.specs.Seen.{Seen}
use Rattle.vx_pages.specs.declared.local_piece.LocalPiece.{Ghosts}
use Rattle.vx_config_parts.specs.declared.object.Object.TheVariants.{VolRecord}
use Rattle.vx_config_parts.specs.declared.vol.Vol.{Vol}
use Rattle.vx_copies.specs.Disks.{DiskSeen}
use Rattle.vx_rules.proofs.InOrder.{names_differ}
use Rattle.vx_objects.specs.declared.config.Config.{Config}
use Rattle.vx_objects.specs.Config.{objects_of}
use Rattle.vx_image.proofs.Members.{is_in}
use Rattle.vx_image.proofs.PlexMembers.{one_in, one_named}
use Rattle.vx_image.proofs.Plexes.{config_valid}
use Rattle.vx_image.specs.Bytes.{Sectors}
use Rattle.vx_image.specs.Own.{SameInside}
use Rattle.vx_image.specs.UsedPlexes.{IsVolOf}
use Rattle.vx_moments.specs.Group.{public_of, sectors_of}
use Rattle.vx_moments.specs.World.{Group, Volume, World}
use Rattle.vx_lending.specs.declared.public.Running.{Running}
use Rattle.vx_volume_laws.specs.Contents.{AreSectorsOf}
use Rattle.vx_group_edits.proofs.ByKind.{records_vol}
use Rattle.vx_house.specs.Runs.{IsRunOf}
use Rattle.vx_house_calls.proofs.Entries.{all_at_one}
use Rattle.vx_stage_volumes.proofs.Stands.{sectors_at}
use Rattle.vx_stage_mirrors.specs.MarkedLaws.{HoldsOnDevices}

-- one that is recorded under the name of another is that one
pub same_vol : (c : Config) (u v : Vol) → IsVolOf c u → Contains c.volumes v → v.name ≡ u.name → v ≡ u
same_vol c u v of there named = same v u (one_named [] (objects_of c) (VolRecord v) (VolRecord u) (names_differ (objects_of c) (config_valid c)) (records_vol c v (is_in c.volumes v there)) (one_in (objects_of c) (VolRecord u) of) named)
  where
    same : (x y : Vol) → VolRecord x ≡ VolRecord y → x ≡ y
    same x y e = cc

module _ {P : Type 0} {ghosts : Ghosts P} (see : P → Seen) (hs : List DiskSeen) (g : Group) (name : Word) (r : Running P ghosts) (w : Volume) (run : IsRunOf see hs g name r w) (world : World) (held : ℕ → Contents) (holds : HoldsOnDevices see hs world.devices held r) where
  abbrev bytes : Sectors
  bytes = sectors_of world.devices g.members

  -- the sectors of good disks by the numbers of the opening
  abbrev pub meant : Sectors
  meant slot k = cond (has g.good slot) (held (slice_index run.numbers slot) (2048 + k)) (sectors_of world.devices g.members slot k)

  pub meant_good : AreSectorsOf g.good run.numbers held meant
  meant_good slot sector good = ap (λ b. cond b (held (slice_index run.numbers slot) (2048 + sector)) (bytes slot sector)) good

  -- the same of the volume's own
  pub same_inside : SameInside g.config run.of.name meant (sectors_of world.devices g.members)
  same_inside place of = by (has g.good place.disk) refl
    where
      by : (b : Bool) → has g.good place.disk ≡ b → bytes place.disk place.sector ≡ cond b (held (slice_index run.numbers place.disk) (2048 + place.sector)) (bytes place.disk place.sector)
      by false e = refl
      by true e =
          let n = run.numbered place of e in
          sectors_at world.devices g.members place.disk n.disk.device n.device place.sector
          ∙ all_at_one (λ (h : DiskSeen). (k : ℕ) → public_of (world.devices h.device) k ≡ held h.seen.device (2048 + k)) hs n.disk holds.public n.there place.sector
          ∙ ap (λ number. held number (2048 + place.sector)) (sym n.number)
