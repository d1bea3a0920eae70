-- A plex that went on is copied to: how the world says it.
use Rattle.std.proofs.Common.{◌≡◌, ◌⊎◌, ℕ, [], Some, None, refl, inl, inr}
use Rattle.std.specs.Str.{bytes_eq}
use Rattle.vx_base.specs.Named.{Word}
use Rattle.vx_config_parts.specs.declared.vol.Vol.{Vol}
use Rattle.vx_answers.specs.declared.answer.End.{End}
use Rattle.vx_answers.specs.declared.answer.End.TheVariants as ends
use Rattle.vx_moments.specs.Moment.{Moment}
use Rattle.vx_moments.specs.World.{Volume}
use Rattle.vx_moments.specs.Lives.{volume_copied}
use Rattle.vx_stages.specs.Attached.{AttachCopiesTo, AttachEnds, IsAttachCopied, IsCopyCount}
use Rattle.vx_stages.specs.Logs.{LogIsSpared}
use Rattle.vx_stages.specs.Stopping.{ComesToRest, RestStops, rested_volume}
use Rattle.vx_stages.specs.Touching.{PassHasCause}
use Rattle.vx_stage_mirrors.specs.CopyingLaws.{HasCopied, left_by}
use Rattle.vx_stage_mirrors.proofs.Logs.{log_lost}

module _ (v : Vol) (plex : Word) (before : Volume) (old : Moment) where
  -- ---- it is done

  becomes : (n : ℕ) (new : Moment) (c : HasCopied v.name (bytes_eq plex) old new) → AttachCopiesTo c.group v plex c.plexes c.failed old.counts new.counts (ends.Done (Some n) [] []) c.volume c.later
  becomes n new c = by c.becomes
    where
      by : (c.later ≡ volume_copied (bytes_eq plex) (left_by c.group v.name c.plexes c.failed c.volume))
          ⊎ ((LogIsSpared c.group v.name (left_by c.group v.name c.plexes c.failed c.volume).failed → ⊥) × (c.later ≡ left_by c.group v.name c.plexes c.failed c.volume)) →
          AttachCopiesTo c.group v plex c.plexes c.failed old.counts new.counts (ends.Done (Some n) [] []) c.volume c.later
      by (inl whole) = inl whole
      by (inr (lost, left)) = inr (inl (log_lost c.group v.name old.counts new.counts c.failed c.volume.failed c.have_failed lost), left)

  pub att_copied : (n : ℕ) → IsCopyCount before plex n → (new : Moment) → HasCopied v.name (bytes_eq plex) old new → IsAttachCopied v plex before old (ends.Done (Some n) [] []) new
  att_copied n count new c = record {
    group = c.group;
    here = c.here;
    volume = c.volume;
    was = c.there;
    plexes = c.plexes;
    lies = c.lies;
    later = c.later;
    failed = c.failed;
    have_failed = c.have_failed;
    becomes = becomes n new c;
    goes = c.goes;
    ends = ((n, refl, count), refl, refl);
  }

  -- without a DCO the volume has no tracks
  pub att_unlogged : v.dco ≡ None → (n : ℕ) → IsCopyCount before plex n → (new : Moment) → ComesToRest v.name old new → IsAttachCopied v plex before old (ends.Done (Some n) [] []) new
  att_unlogged none n count new c = record {
    group = c.group;
    here = c.here;
    volume = c.volume;
    was = c.there;
    plexes = c.plexes;
    lies = c.lies;
    later = rested_volume c;
    failed = c.failed;
    have_failed = c.have_failed;
    becomes = inr (inr none, refl);
    goes = c.goes;
    ends = ((n, refl, count), refl, refl);
  }

  -- ---- a fault is told

  module _ (end : End) (new : Moment) (s : RestStops v.name old end new) where
    copies_by : (e : End) → PassHasCause s.rest.group v.name old.counts new.counts e → AttachCopiesTo s.rest.group v plex s.rest.plexes s.rest.failed old.counts new.counts e s.rest.volume (rested_volume s.rest) × AttachEnds s.rest.group v.name before plex old.counts new.counts e
    copies_by (ends.Fault told device parts) cause = (refl, cause)
    copies_by (ends.Lost parts) cause = (refl, cause)
    copies_by (ends.Done copied parts blocks) cause = absurd cause
    copies_by (ends.Refused r) cause = absurd cause
    copies_by ends.GroupLost cause = absurd cause
    copies_by ends.ShelfFailed cause = absurd cause

    pub att_stopped : IsAttachCopied v plex before old end new
    att_stopped = record {
      group = s.rest.group;
      here = s.rest.here;
      volume = s.rest.volume;
      was = s.rest.there;
      plexes = s.rest.plexes;
      lies = s.rest.lies;
      later = rested_volume s.rest;
      failed = s.rest.failed;
      have_failed = s.rest.have_failed;
      becomes = (copies_by end s.cause).0;
      goes = s.rest.goes;
      ends = (copies_by end s.cause).1;
    }
