-- What the healing of a volume makes of its bytes, by the devices of the world before it was opened and after it was put back.
use Rattle.std.proofs.Common.{◌≡◌, ℕ, ◌<◌, Bool, true, nat_le, Some, Result, Ok, refl, sym, ap, subst}
use Rattle.std.specs.Prelude.{◌&&◌, ◌||◌, is_some}
use Rattle.std.proofs.lemmas.Bool.{leb-true, le-leb}
use Rattle.vx_pages.specs.declared.local_piece.LocalPiece.{Ghosts}
use Rattle.vx_base.specs.Blocks.{Contents}
use Rattle.vx_base.specs.Counts.{later_count}
use Rattle.vx_base.specs.Named.{Word}
use Rattle.vx_mask.specs.Mask.{has as has_slot}
use Rattle.vx_piece.specs.Seen.{Seen}
use Rattle.vx_confdb.specs.Groups.{members}
use Rattle.vx_config_parts.specs.declared.state.VolState.{VolState}
use Rattle.vx_config_parts.specs.declared.state.VolState.TheVariants as vol
use Rattle.vx_config_parts.specs.declared.vol.Vol.{Vol}
use Rattle.vx_image.specs.Bytes.{Sectors, image_of}
use Rattle.vx_image.specs.Counts.{is_possibly_behind}
use Rattle.vx_image.specs.Image.{Image}
use Rattle.vx_image.specs.Meaning.{dirty_read}
use Rattle.vx_image.specs.Soundness.{IsSoundImage}
use Rattle.vx_image.specs.UsedPlexes.{IsVolOf}
use Rattle.vx_moments.specs.Group.{sectors_of}
use Rattle.vx_moments.specs.Lives.{volume_by}
use Rattle.vx_moments.specs.Moment.{Moment}
use Rattle.vx_moments.specs.Moment.{HasFailed as FailsAt}
use Rattle.vx_moments.specs.Tracks.{TrackOwner, unsure, volume_failed}
use Rattle.vx_moments.specs.Volumes.{StandsForVolume}
use Rattle.vx_moments.specs.World.{Group}
use Rattle.vx_volume.specs.Volume.{volume_seen}
use Rattle.vx_volume_laws.specs.RunLaws.{FailuresAreTold, OwnersFit}
use Rattle.vx_lending.specs.declared.public.Running.{Running}
use Rattle.vx_group_recover.specs.declared.healing.Healed.{Healed}
use Rattle.vx_group_volumes.specs.Laws.{GoesOn}
use Rattle.vx_healed_regions.specs.Laws.{some_failed}
use Rattle.vx_healed_volumes.specs.Healed.{AreSectorsAround, IsHealedBy}
use Rattle.vx_recovery.specs.Healing.{IsHealed, IsHealing, IsMended}
use Rattle.vx_recovery.specs.Recovering.{is_recovered}
use Rattle.vx_stages.specs.Starting.{plexes_started}
use Rattle.vx_house.specs.Runs.{IsNumbered}
use Rattle.vx_house.specs.Scene.{Shelved}
use Rattle.vx_house.specs.View.{IsMoment, Keeps, at}
use Rattle.vx_house.specs.declared.house.House.{House}
use Rattle.vx_house.specs.declared.house.Imported.{Imported}
use Rattle.vx_house.specs.declared.stop.Stop.{Stop}
use Rattle.vx_house.proofs.Ends.{keeps_but_group, moment_but_group}
use Rattle.vx_stage_volumes.specs.Opening.{OpensIn, good_of}
use Rattle.vx_stage_volumes.specs.Parting.{PartsGroup}
use Rattle.vx_stage_volumes.proofs.Held.{HoldsAlike, held as held_by, hold_still, public_there}
use Rattle.vx_stage_volumes.proofs.HeldStart.{world_of}
use Rattle.vx_stage_volumes.proofs.Slots.{is_numbered}
use Rattle.vx_stage_volumes.proofs.SoundAs.{holds_stuck}
use Rattle.vx_stage_volumes.proofs.StillSectors.{sectors_are}
use Rattle.vx_stage_recovery.specs.Healing.{IsHealedIn}
use Rattle.vx_stage_recovery.proofs.HealHouse.{at2, at_mid, g2, good_slots, h2, hk, keeps2, keeps_mid, n, plex_fails, touched2}
use Rattle.vx_stage_recovery.proofs.HealLaws.{HaveHealLaws, HavePieceLaws}
use Rattle.vx_stage_recovery.proofs.HealRuns.{are_told, fit, form_old, marks_left, on_failed, owners}

module _ {P : Type 0} {ghosts : Ghosts P} (alike : (p q : P) → is_some (ghosts.seen p).told ≡ is_some (ghosts.seen q).told) (laws : HaveHealLaws ghosts) (pieces : HavePieceLaws ghosts) (shelf : Shelved) (h : House P ghosts) (keeps : Keeps ghosts.seen (at shelf h))
    {g mid : Imported P ghosts} (has : h.group ≡ Some g) (parts : PartsGroup ghosts.seen g mid) (room : mid.public.stuck.len < mid.public.stuck.cap)
    {v : Vol} (of : IsVolOf mid.config v) (sync : v.state ≡ vol.Sync) {opened : Imported P ghosts} {running : Running P ghosts} (opens : OpensIn ghosts.seen v mid opened running)
    {told : Result Healed Stop} {new : Imported P ghosts} (healed : IsHealedIn ghosts.seen running told opened new) where
  abbrev see : P → Seen
  see = ghosts.seen

  abbrev after : Running P ghosts
  after = healed.after

  abbrev gm : Group
  gm = world_of see mid

  -- its pieces stay in their places
  pub goes : GoesOn see running.volume after.volume
  goes = laws.goes running.volume after.volume healed.result healed.heals.heals healed.heals.follows

  pub heals_by : IsHealedBy see mid.config (good_of see mid) v opens.numbers mid.public opened.public running after healed.result
  heals_by = record {
    of = of;
    state = ap is_recovered sync;
    form = form_old gm v of sync opens.numbers mid.public opened.public running opens.form opens.started opens.numbered;
    started = opens.started;
    heals = healed.heals.heals;
    whole = healed.heals.whole;
    form_is = healed.heals.form_is;
    shape = healed.heals.shape;
    follows = healed.heals.follows;
  }

  abbrev owned : Word → TrackOwner
  owned = owners gm v of sync opens.numbers mid.public opened.public running opens.form opens.started opens.numbered

  module _ (m : Moment) (at_m : IsMoment see (at shelf h) m) where
    abbrev then : Moment
    then = n alike shelf h keeps has parts room of sync opens healed goes m at_m

    -- ---- the sectors of the good disks

    abbrev before : Sectors
    before = sectors_of m.world.devices gm.members

    abbrev behind : Sectors
    behind = sectors_of then.world.devices gm.members

    at_k : IsMoment see (at shelf (hk alike shelf h keeps has parts room of sync opens healed goes)) m
    at_k = at_mid alike shelf h keeps has parts room of sync opens healed goes m at_m

    numbered : (slot : ℕ) → has_slot (good_of see mid) slot ≡ true → IsNumbered opens.numbers (members see mid.base) gm.members slot
    numbered slot good = is_numbered opens.numbers (members see mid.base) gm.members slot (good_slots alike shelf h keeps has parts room of sync opens healed goes slot good)

    abbrev contents : ℕ → Contents
    contents =
        held_by see pieces.ends pieces.counts (at shelf (hk alike shelf h keeps has parts room of sync opens healed goes))
        (keeps_but_group see (at shelf (hk alike shelf h keeps has parts room of sync opens healed goes)) (keeps_mid alike shelf h keeps has parts room of sync opens healed goes)) m
        (moment_but_group see (at shelf (hk alike shelf h keeps has parts room of sync opens healed goes)) m at_k) mid refl

    -- its pieces hold then what the devices do
    holds : HoldsAlike see (members see mid.base) then.world.devices after
    holds =
        holds_stuck see pieces.ends pieces.counts (at shelf (h2 alike shelf h keeps has parts room of sync opens healed goes))
        (keeps_but_group see (at shelf (h2 alike shelf h keeps has parts room of sync opens healed goes)) (keeps2 alike shelf h keeps has parts room of sync opens healed goes)) then
        (moment_but_group see (at shelf (h2 alike shelf h keeps has parts room of sync opens healed goes)) then (at2 alike shelf h keeps has parts room of sync opens healed goes m at_m))
        (g2 alike shelf h keeps has parts room of sync opens healed goes) refl opened.public.stuck.items after refl

    pub around : AreSectorsAround see (good_of see mid) opens.numbers mid.public after before behind
    around = record {
      contents = contents;
      held = hold_still see pieces.ends pieces.counts (at shelf (hk alike shelf h keeps has parts room of sync opens healed goes))
          (keeps_but_group see (at shelf (hk alike shelf h keeps has parts room of sync opens healed goes)) (keeps_mid alike shelf h keeps has parts room of sync opens healed goes)) m
          (moment_but_group see (at shelf (hk alike shelf h keeps has parts room of sync opens healed goes)) m at_k) mid refl;
      were = sectors_are m.world.devices (members see mid.base) gm.members (good_of see mid) opens.numbers contents
          (public_there see pieces.ends pieces.counts (at shelf (hk alike shelf h keeps has parts room of sync opens healed goes))
          (keeps_but_group see (at shelf (hk alike shelf h keeps has parts room of sync opens healed goes)) (keeps_mid alike shelf h keeps has parts room of sync opens healed goes)) m
          (moment_but_group see (at shelf (hk alike shelf h keeps has parts room of sync opens healed goes)) m at_k) mid refl)
          numbered;
      contents' = holds.held;
      held' = holds.hold;
      are = sectors_are then.world.devices (members see mid.base) gm.members (good_of see mid) opens.numbers holds.held holds.public numbered;
    }

    -- ---- devices that failed

    failed : Word → Bool
    failed device = nat_le (later_count (m.counts.faults device) 1) (then.counts.faults device)

    have_failed : (device : Word) → failed device ≡ true → FailsAt m.counts then.counts device
    unfolding failed
    have_failed device is = leb-true (later_count (m.counts.faults device) 1) (then.counts.faults device) is

    is_failed : (device : Word) → FailsAt m.counts then.counts device → failed device ≡ true
    unfolding failed
    is_failed device up = le-leb (later_count (m.counts.faults device) 1) (then.counts.faults device) up

    abbrev was : Image
    was = image_of mid.config (good_of see mid) before v

    fits : OwnersFit was.plexes (volume_seen see running.volume) owned
    fits = fit gm v of sync opens.numbers mid.public opened.public running opens.form opens.started opens.numbered before

    tells : FailuresAreTold was.plexes owned failed (volume_seen see running.volume) (volume_seen see after.volume)
    tells =
        are_told gm v of sync opens.numbers mid.public opened.public running opens.form opens.started opens.numbered before after.volume goes m.counts then.counts
        (plex_fails alike shelf h keeps has parts room of sync opens healed goes m at_m) failed is_failed have_failed

    -- ---- wherever it was stopped

    pub healing : IsHealing gm v m then
    healing = record {
      touched = touched2 alike shelf h keeps has parts room of sync opens healed goes m at_m;
      plexes = laws.spares mid.public opened.public running after mid.config (good_of see mid) v opens.numbers healed.result heals_by before behind around;
      failed = failed;
      have_failed = have_failed;
      stands = λ sound.
          subst (λ (s : VolState). StandsForVolume (image_of mid.config (good_of see mid) behind v) (volume_failed owned failed (unsure owned (volume_by s (plexes_started gm v) was)))) (sym sync)
          (laws.stands mid.public opened.public running after mid.config (good_of see mid) v opens.numbers healed.result heals_by before behind around sound owned failed fits tells (plexes_started gm v));
    }

    -- ---- where it is done

    module _ (done : Healed) (is : healed.result ≡ Ok done) where
      heals_done : IsHealedBy see mid.config (good_of see mid) v opens.numbers mid.public opened.public running after (Ok done)
      heals_done = subst (IsHealedBy see mid.config (good_of see mid) v opens.numbers mid.public opened.public running after) is heals_by

      mended : IsSoundImage was → IsMended gm v done.copied done.marks m then
      mended sound =
          let whole = laws.whole mid.public opened.public running after mid.config (good_of see mid) v opens.numbers done heals_done before behind around sound owned failed fits tells in
          let list = laws.list mid.public opened.public running after mid.config (good_of see mid) v opens.numbers done heals_done before behind around sound owned failed fits tells in
          record {
            clear = whole.clear;
            whole = whole.whole;
            list = list.0;
            reads = list.1;
            upper = λ r. is_possibly_behind was r || (some_failed was owned failed && dirty_read was r);
            upper_is = record {
              failed = some_failed was owned failed;
              if_failed = on_failed gm v of sync opens.numbers mid.public opened.public running opens.form opens.started opens.numbered before after.volume goes m.counts then.counts
                  (plex_fails alike shelf h keeps has parts room of sync opens healed goes m at_m) failed is_failed have_failed;
              upper_is = λ r. refl;
            };
            copied_is = laws.copied mid.public opened.public running after mid.config (good_of see mid) v opens.numbers done heals_done before behind around sound owned failed fits tells;
            marks_are = marks_left gm v behind done.marks whole;
          }

      pub is_healed : IsHealed gm v done.dirty done.copied done.marks m then
      is_healed = record {
        healing = healing;
        dirty_is = laws.dirty mid.public opened.public running after mid.config (good_of see mid) v opens.numbers done heals_done before behind around;
        mended = mended;
      }
