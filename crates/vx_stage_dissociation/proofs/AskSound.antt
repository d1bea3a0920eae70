-- What a volume that was opened to ask its log says of the bytes as they were and as they are then: whether the plex can be spared, and that the
-- volume is sound by the next configuration.
use Rattle.std.proofs.Common.{◌≡◌, ℕ, ◌<◌, Bool, false, List, Some, refl, subst}
use Rattle.std.specs.Prelude.{is_some}
use Rattle.std.specs.List.{All}
use Rattle.vx_pages.specs.declared.local_piece.LocalPiece.{Ghosts}
use Rattle.vx_base.specs.Blocks.{Contents}
use Rattle.vx_carve.specs.Together.{Holds}
use Rattle.vx_confdb.specs.Groups.{members}
use Rattle.vx_copies.specs.Disks.{DiskSeen}
use Rattle.vx_config_parts.specs.declared.plex.Plex.{Plex}
use Rattle.vx_config_parts.specs.declared.vol.Vol.{Vol}
use Rattle.vx_objects.specs.declared.config.Config.{Config}
use Rattle.vx_image.specs.Bytes.{Sectors, map_or_zero}
use Rattle.vx_image.specs.Soundness.{IsSoundImage}
use Rattle.vx_image.specs.UsedPlexes.{IsVolOf}
use Rattle.vx_image.proofs.Members.{is_in}
use Rattle.vx_moments.specs.Group.{image_on, sectors_of}
use Rattle.vx_moments.specs.Moment.{Moment}
use Rattle.vx_moments.specs.World.{Group}
use Rattle.vx_volume.specs.Log.{log_seen}
use Rattle.vx_volume.specs.Volume.{log_of, volume_seen}
use Rattle.vx_volume.specs.Switching.{CanSpare, Needs}
use Rattle.vx_lending.specs.Form.{IsFormOf}
use Rattle.vx_lending.specs.Public.{still_pieces}
use Rattle.vx_group_start.specs.Fresh.{is_fresh}
use Rattle.vx_volume_laws.specs.Contents.{AreSectorsOf}
use Rattle.vx_joined_volumes.specs.Parted.{TakesOut}
use Rattle.vx_stages.specs.Left.{IsNeededIn, IsSparedIn}
use Rattle.vx_house.specs.Scene.{Shelved}
use Rattle.vx_house.specs.View.{IsMoment, Keeps, at}
use Rattle.vx_house.specs.declared.house.House.{House}
use Rattle.vx_house.specs.declared.house.Imported.{Imported}
use Rattle.vx_house.proofs.Ends.{keeps_but_group, moment_but_group}
use Rattle.vx_stage_volumes.specs.Opening.{good_of}
use Rattle.vx_stage_volumes.specs.Parting.{PartsGroup}
use Rattle.vx_stage_volumes.proofs.Held.{HoldsAlike, held as held_by, hold_still, public_there}
use Rattle.vx_stage_volumes.proofs.HeldStart.{world_of}
use Rattle.vx_stage_volumes.proofs.Narrowed.{HaveNarrowing}
use Rattle.vx_stage_volumes.proofs.Slots.{is_numbered}
use Rattle.vx_stage_volumes.proofs.SoundAs.{holds_stuck}
use Rattle.vx_stage_volumes.proofs.StillSectors.{sectors_are}
use Rattle.vx_stage_dissociation.specs.Asking.{AsksIn}
use Rattle.vx_stage_dissociation.proofs.AskHouse.{at_mid, g_held, good_slots, h_held, hk, keeps_held, keeps_mid, touched_at}
use Rattle.vx_stage_dissociation.proofs.AskImages.{is_needed, is_spared, sound_without_it}
use Rattle.vx_stage_dissociation.proofs.AskMarks.{IsShown, is_claimed, is_shown}

module _ {P : Type 0} {ghosts : Ghosts P} (alike : (p q : P) → is_some (ghosts.seen p).told ≡ is_some (ghosts.seen q).told) (laws : HaveNarrowing ghosts.seen) (shelf : Shelved) (h : House P ghosts) (keeps : Keeps ghosts.seen (at shelf h))
    {g mid : Imported P ghosts} (has : h.group ≡ Some g) (parts : PartsGroup ghosts.seen g mid) (room : mid.public.stuck.len < mid.public.stuck.cap)
    {v : Vol} (p : Plex) {needed : Bool} {new : Imported P ghosts} (asks : AsksIn ghosts.seen v (map_or_zero p.map) needed mid new)
    (of : IsVolOf mid.config v) (not_fresh : is_fresh v.state ≡ false) (remove : Bool) (c' : Config) (takes : TakesOut mid.config v p remove c') (m : Moment) (at_m : IsMoment ghosts.seen (at shelf h) m) where
  abbrev gm : Group
  gm = world_of ghosts.seen mid

  abbrev hs : List DiskSeen
  hs = members ghosts.seen mid.base

  abbrev form_is : IsFormOf mid.config (good_of ghosts.seen mid) v false asks.running.form
  form_is = subst (λ b. IsFormOf mid.config (good_of ghosts.seen mid) v b asks.running.form) not_fresh asks.opens.form

  -- ---- the bytes as they were

  abbrev contents : ℕ → Contents
  contents = held_by ghosts.seen laws.ends laws.counts (at shelf (hk alike shelf h keeps has parts room asks)) (keeps_but_group ghosts.seen (at shelf (hk alike shelf h keeps has parts room asks)) (keeps_mid alike shelf h keeps has parts room asks)) m
      (moment_but_group ghosts.seen (at shelf (hk alike shelf h keeps has parts room asks)) m (at_mid alike shelf h keeps has parts room asks m at_m)) mid refl

  abbrev bytes : Sectors
  bytes = sectors_of m.world.devices gm.members

  still : All (Holds contents) (still_pieces ghosts.seen mid.public)
  still = hold_still ghosts.seen laws.ends laws.counts (at shelf (hk alike shelf h keeps has parts room asks)) (keeps_but_group ghosts.seen (at shelf (hk alike shelf h keeps has parts room asks)) (keeps_mid alike shelf h keeps has parts room asks)) m
      (moment_but_group ghosts.seen (at shelf (hk alike shelf h keeps has parts room asks)) m (at_mid alike shelf h keeps has parts room asks m at_m)) mid refl

  sectors : AreSectorsOf (good_of ghosts.seen mid) asks.opens.numbers contents bytes
  sectors =
      sectors_are m.world.devices hs gm.members (good_of ghosts.seen mid) asks.opens.numbers contents
      (public_there ghosts.seen laws.ends laws.counts (at shelf (hk alike shelf h keeps has parts room asks)) (keeps_but_group ghosts.seen (at shelf (hk alike shelf h keeps has parts room asks)) (keeps_mid alike shelf h keeps has parts room asks)) m
      (moment_but_group ghosts.seen (at shelf (hk alike shelf h keeps has parts room asks)) m (at_mid alike shelf h keeps has parts room asks m at_m)) mid refl)
      (λ slot good. is_numbered asks.opens.numbers hs gm.members slot (good_slots alike shelf h keeps has parts room asks slot good))

  shown : IsShown mid.config (good_of ghosts.seen mid) v asks.opens.numbers mid.public asks.opened.public asks.running of not_fresh form_is asks.opens.started contents still bytes sectors
  shown = is_shown mid.config (good_of ghosts.seen mid) v asks.opens.numbers mid.public asks.opened.public asks.running of not_fresh form_is asks.opens.started contents still bytes sectors

  abbrev m_of_p : ℕ
  m_of_p = map_or_zero p.map

  pub spared_before : CanSpare (map_or_zero p.map) (volume_seen ghosts.seen asks.running.volume) → IsSparedIn (image_on m.world.devices (world_of ghosts.seen mid) v) p
  spared_before =
      is_spared mid.config (good_of ghosts.seen mid) v of p (is_in mid.config.plexes p takes.there) takes.data_is asks.running.form form_is (log_seen ghosts.seen (log_of asks.running.volume)) asks.opens.started.regions asks.opens.started.long
      (volume_seen ghosts.seen asks.running.volume) asks.opens.started.opened bytes shown.copy shown.one shown.shows.claims

  pub needed_before : Needs (map_or_zero p.map) (volume_seen ghosts.seen asks.running.volume) → IsNeededIn (image_on m.world.devices (world_of ghosts.seen mid) v) p
  needed_before =
      is_needed mid.config (good_of ghosts.seen mid) v of p (is_in mid.config.plexes p takes.there) takes.data_is asks.running.form form_is (log_seen ghosts.seen (log_of asks.running.volume)) asks.opens.started.regions asks.opens.started.long
      (volume_seen ghosts.seen asks.running.volume) asks.opens.started.opened bytes shown.copy shown.one shown.shows.claims

  -- ---- the bytes as they are then

  abbrev then : Moment
  then = (touched_at alike shelf h keeps has parts room asks m at_m).then

  abbrev bytes' : Sectors
  bytes' = sectors_of then.world.devices gm.members

  holds : HoldsAlike ghosts.seen hs then.world.devices asks.running
  holds =
      holds_stuck ghosts.seen laws.ends laws.counts (at shelf (h_held alike shelf h keeps has parts room asks)) (keeps_but_group ghosts.seen (at shelf (h_held alike shelf h keeps has parts room asks)) (keeps_held alike shelf h keeps has parts room asks)) then
      (moment_but_group ghosts.seen (at shelf (h_held alike shelf h keeps has parts room asks)) then (touched_at alike shelf h keeps has parts room asks m at_m).is) (g_held alike shelf h keeps has parts room asks) refl asks.opened.public.stuck.items asks.running refl

  sectors_then : AreSectorsOf (good_of ghosts.seen mid) asks.opens.numbers holds.held bytes'
  sectors_then =
      sectors_are then.world.devices hs gm.members (good_of ghosts.seen mid) asks.opens.numbers holds.held holds.public
      (λ slot good. is_numbered asks.opens.numbers hs gm.members slot (good_slots alike shelf h keeps has parts room asks slot good))

  -- where it can be spared, the volume is as sound without it
  pub sound_then : CanSpare (map_or_zero p.map) (volume_seen ghosts.seen asks.running.volume) → IsSoundImage (image_on then.world.devices (world_of ghosts.seen mid) v) → IsSoundImage (image_on then.world.devices (record (world_of ghosts.seen mid) { config = c' }) v)
  sound_then spare =
      sound_without_it mid.config (good_of ghosts.seen mid) v of p (is_in mid.config.plexes p takes.there) takes.data_is asks.running.form form_is (log_seen ghosts.seen (log_of asks.running.volume)) asks.opens.started.regions asks.opens.started.long
      (volume_seen ghosts.seen asks.running.volume) asks.opens.started.opened bytes'
      (is_claimed mid.config (good_of ghosts.seen mid) v asks.opens.numbers mid.public asks.opened.public asks.running of not_fresh form_is asks.opens.started contents still bytes sectors asks.opens.form holds.held holds.hold bytes' sectors_then)
      remove c' takes spare
