-- The plex that has joined is copied to: how the world says it.
use Rattle.std.proofs.Common.{◌≡◌, ◌⊎◌, ℕ, [], Some, refl, ap, inl, inr}
use Rattle.std.specs.Str.{bytes_eq}
use Rattle.vx_base.specs.Named.{Word}
use Rattle.vx_block.specs.Regions.{region_count}
use Rattle.vx_config_parts.specs.declared.vol.Vol.{Vol}
use Rattle.vx_answers.specs.declared.answer.End.{End}
use Rattle.vx_answers.specs.declared.answer.End.TheVariants as ends
use Rattle.vx_moments.specs.Moment.{Moment}
use Rattle.vx_moments.specs.Lives.{volume_copied}
use Rattle.vx_stages.specs.Logs.{LogIsSpared}
use Rattle.vx_stages.specs.Stopping.{RestStops, rested_volume}
use Rattle.vx_stages.specs.Touching.{PassHasCause}
use Rattle.vx_stages.specs.Mirrored.{IsMirrorCopied, MirrorCopiesTo, MirrorEnds}
use Rattle.vx_stage_mirrors.specs.CopyingLaws.{HasCopied, left_by}
use Rattle.vx_stage_mirrors.proofs.Logs.{log_lost}

module _ (v : Vol) (plex : Word) (old : Moment) where
  becomes : (n : ℕ) (new : Moment) (c : HasCopied v.name (bytes_eq plex) old new) → MirrorCopiesTo c.group v.name plex c.plexes c.failed old.counts new.counts (ends.Done (Some n) [] []) c.volume c.later
  becomes n new c = by c.becomes
    where
      by : (c.later ≡ volume_copied (bytes_eq plex) (left_by c.group v.name c.plexes c.failed c.volume))
          ⊎ ((LogIsSpared c.group v.name (left_by c.group v.name c.plexes c.failed c.volume).failed → ⊥) × (c.later ≡ left_by c.group v.name c.plexes c.failed c.volume)) →
          MirrorCopiesTo c.group v.name plex c.plexes c.failed old.counts new.counts (ends.Done (Some n) [] []) c.volume c.later
      by (inl whole) = inl whole
      by (inr (lost, left)) = inr (log_lost c.group v.name old.counts new.counts c.failed c.volume.failed c.have_failed lost, left)

  -- it is done
  pub is_copied : (n : ℕ) → n ≡ region_count v.len v.region → (new : Moment) → HasCopied v.name (bytes_eq plex) old new → IsMirrorCopied v plex old (ends.Done (Some n) [] []) new
  is_copied n all new c = record {
    group = c.group;
    here = c.here;
    volume = c.volume;
    was = c.there;
    plexes = c.plexes;
    lies = c.lies;
    later = c.later;
    failed = c.failed;
    have_failed = c.have_failed;
    becomes = becomes n new c;
    goes = c.goes;
    ends = (ap (λ x. Some x) all, refl, refl);
  }

  -- a fault is told
  module _ (end : End) (new : Moment) (s : RestStops v.name old end new) where
    copies_by : (e : End) → PassHasCause s.rest.group v.name old.counts new.counts e → MirrorCopiesTo s.rest.group v.name plex s.rest.plexes s.rest.failed old.counts new.counts e s.rest.volume (rested_volume s.rest) × MirrorEnds s.rest.group v old.counts new.counts e
    copies_by (ends.Fault told device parts) cause = (refl, cause)
    copies_by (ends.Lost parts) cause = (refl, cause)
    copies_by (ends.Done copied parts blocks) cause = absurd cause
    copies_by (ends.Refused r) cause = absurd cause
    copies_by ends.GroupLost cause = absurd cause
    copies_by ends.ShelfFailed cause = absurd cause

    pub is_stopped : IsMirrorCopied v plex old end new
    is_stopped = record {
      group = s.rest.group;
      here = s.rest.here;
      volume = s.rest.volume;
      was = s.rest.there;
      plexes = s.rest.plexes;
      lies = s.rest.lies;
      later = rested_volume s.rest;
      failed = s.rest.failed;
      have_failed = s.rest.have_failed;
      becomes = (copies_by end s.cause).0;
      goes = s.rest.goes;
      ends = (copies_by end s.cause).1;
    }
