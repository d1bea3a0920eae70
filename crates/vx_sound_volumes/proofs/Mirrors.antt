-- A running volume that gets a mirror.
use Rattle.std.proofs.Common.{◌≡◌, ◌≢◌, ◌∙◌, ℕ, Bool, true, List, [], ◌∷◌, Option, Some, None, MatchOption, refl, sym, ap, subst, inl, inr}
use Rattle.vx_base.specs.Named.{Word}
use Rattle.vx_life.specs.Life.{Life}
use Rattle.vx_config_parts.specs.declared.vol.Vol.{Vol}
use Rattle.vx_objects.specs.declared.edit.Edit.TheVariants.{Make}
use Rattle.vx_answers.specs.declared.answer.End.{End}
use Rattle.vx_answers.specs.declared.answer.End.TheVariants as ends
use Rattle.vx_answers.specs.declared.refusal.Refusal.TheVariants as refusal
use Rattle.vx_moments.specs.Leaving.{grouped}
use Rattle.vx_moments.specs.Moment.{Counts, Moment}
use Rattle.vx_moments.specs.World.{Group, Volume}
use Rattle.vx_stages.specs.Ends.{EndsIn}
use Rattle.vx_stages.specs.GroupCalls.{comes_next}
use Rattle.vx_stages.specs.Mirrored.{IsMarkedFor, IsMirrorCopied, IsMirroredBy, MirrorCopiesTo, MirrorStops, MirrorStopsIn, volume_joined}
use Rattle.vx_group_edits.specs.OfVolume.{AreOf}
use Rattle.vx_group_edits.proofs.OfVolume.{plex_keeps_others}
use Rattle.vx_group_edits.proofs.Each.{is_new as mirror_is_new}
use Rattle.vx_sound_volumes.proofs.Changes.{change_kept, change_stops}
use Rattle.vx_sound_volumes.proofs.Named.{parts_back}
use Rattle.vx_sound_volumes.proofs.Parts.{Besides, Every, Keeps, grouped_runs, put_run}
use Rattle.vx_sound_volumes.proofs.Running.{IsSameRun, fewer_names, found_there, goes_kept, rested, same_run}

-- what copying to its plex leaves of the volume
module _ (now : Group) (name plex : Word) (plexes : List Word) (failed : Word → Bool) (old new : Counts) (run later : Volume) where
  copies : (end : End) → MirrorCopiesTo now name plex plexes failed old new end run later → IsSameRun run later
  copies (ends.Done copied parts blocks) (inl is) = same_run run later _ is (record { lies = refl; sound = refl; life = refl })
  copies (ends.Done copied parts blocks) (inr (log, is)) = same_run run later _ is (record { lies = refl; sound = refl; life = refl })
  copies (ends.Fault told device parts) is = same_run run later _ is (record { lies = refl; sound = refl; life = refl })
  copies (ends.Lost parts) is = same_run run later _ is (record { lies = refl; sound = refl; life = refl })
  copies (ends.Refused r) is = same_run run later _ is (record { lies = refl; sound = refl; life = refl })
  copies ends.ShelfFailed is = same_run run later _ is (record { lies = refl; sound = refl; life = refl })
  copies ends.GroupLost is = same_run run later _ is (record { lies = refl; sound = refl; life = refl })

-- the records of a mirror are of its volume alone
pub own_records : (g : Group) (name : Word) (disks : List Word) (old mid : Moment) (mark : IsMarkedFor g name disks old mid) → AreOf name mark.added
own_records g name disks old mid mark =
    let made = mirror_is_new g.config g.good mark.volume disks mark.map mark.added mark.mirror.laid in
    subst (λ n. AreOf n mark.added) (found_there name g.config.volumes mark.volume mark.mirror.found).1 made.1.of

module _ (place : ℕ) (name : Word) (disks : List Word) (old : Moment) (k : Keeps place Every old.world) where
  module _ (g : Group) where
    -- its records are committed
    recorded_kept : (m : Moment) (b : IsMirroredBy g name disks old m) → Keeps place (Besides name) b.recorded.world
    recorded_kept m b =
        let mark = b.mark in
        let x = b.writing in
        let of = own_records g name disks old b.marked mark in
        let before = fewer_names place b.marked.world name (rested place name old k b.marked mark.rest) in
        change_kept place (Besides name) (Make mark.added ∷ []) x b.marked b.change before (λ u. u.name ≢ name) b.recorded b.committed
        (plex_keeps_others x.group.config x.config name mark.added of b.change.edited)
        (λ u one other started. (u, parts_back x.group.config x.config u name mark.added of b.change.edited one, refl, other))

    -- it joins
    joined_kept : (m : Moment) → IsMirroredBy g name disks old m → Keeps place Every m.world
    joined_kept m b =
        let j = b.joins in
        let recorded = recorded_kept m b in
        let was = recorded.running name j.volume (ap grouped j.was ∙ grouped_runs j.volume j.plexes j.lies) in
        subst (Keeps place Every) (sym j.world) (put_run place b.recorded.world name (volume_joined j.later b.mark.plex.name j.volume) j.later refl was.0 was.1 recorded)

    copied_kept : (v : Vol) (plex : Word) (m : Moment) (end : End) (new : Moment) → IsMirroredBy g name disks old m → IsMirrorCopied v plex m end new → Keeps place Every new.world
    copied_kept v plex m end new b c =
        let joined = joined_kept m b in
        let was = joined.running v.name c.volume (ap grouped c.was ∙ grouped_runs c.volume c.plexes c.lies) in
        let s = copies c.group v.name plex c.plexes c.failed m.counts new.counts c.volume c.later end c.becomes in
        goes_kept place m joined c.group v.name c.later c.plexes new c.here (s.lies ∙ c.lies) (s.sound ∙ was.0) (subst (λ (l : Life). comes_next place l ≡ true) (sym s.life) was.1) c.goes

  in_group : (g : Group) (end : End) (new : Moment) → MirrorStopsIn g name disks old end new → Keeps place Every new.world
  in_group g end new (inl (why, rests)) = subst (Keeps place Every) (sym rests.stays.world) k
  in_group g end new (inr (inl u)) = rested place name old k new u.stops.rest
  in_group g end new (inr (inr (inl c))) = change_stops place Every (Make c.mark.added ∷ []) c.stops.0 c.marked c.stops.1 (rested place name old k c.marked c.mark.rest) end new c.stops.2
  in_group g end new (inr (inr (inr a))) = copied_kept g a.mirrored.mark.volume a.mirrored.mark.plex.name a.joined end new a.mirrored a.copied

  in_world : (o : Option Group) (end : End) (new : Moment) → MatchOption o (EndsIn (refusal.NoGroup None) old end new) (λ g. MirrorStopsIn g name disks old end new) → Keeps place Every new.world
  in_world None end new ends = subst (Keeps place Every) (sym ends.1.stays.world) k
  in_world (Some g) end new stops = in_group g end new stops

  pub mirror_ends : (end : End) (new : Moment) → MirrorStops name disks old end new → Keeps place Every new.world
  mirror_ends end new stops = in_world old.world.group end new stops
