-- An empty log was made for a volume of the next configuration: what that does to a house and its moments.
use Rattle.std.proofs.Common.{◌≡◌, inr, true, false, List, ◌++◌, Some, subst}
use Rattle.std.specs.Prelude.{Contains, is_some}
use Rattle.std.specs.List.{All}
use Rattle.std.proofs.lemmas.List.Elements.{All-weaker}
use Rattle.vx_pages.specs.declared.local_piece.LocalPiece.{Ghosts}
use Rattle.vx_pages.specs.Sector.{KeepsPiece}
use Rattle.vx_base.specs.Named.{Word}
use Rattle.vx_piece.specs.Seen.{AreCounts, EndsThere, Seen}
use Rattle.vx_carve.specs.Together.{Holds}
use Rattle.vx_layout.specs.declared.layout.Layout.{Layout}
use Rattle.vx_maps.specs.Creating.{AllTell}
use Rattle.vx_maps.specs.Going.{CutCopiesGo}
use Rattle.vx_config_parts.specs.declared.plex.Plex.{Plex}
use Rattle.vx_config_parts.specs.declared.vol.Vol.{Vol}
use Rattle.vx_objects.specs.declared.config.Config.{Config}
use Rattle.vx_fronts.specs.Rests.{IsTelling, sector_in}
use Rattle.vx_fronts.proofs.Parted.{all_parts}
use Rattle.vx_image.specs.UsedPlexes.{IsVolOf, used_logs}
use Rattle.vx_lending.specs.Pieces.{copy_pieces}
use Rattle.vx_lending.specs.Public.{still_pieces}
use Rattle.vx_lending.specs.RegionPieces.{all_pieces}
use Rattle.vx_moments.specs.Moment.{Moment}
use Rattle.vx_moments.specs.Group.{image_on}
use Rattle.vx_stages.specs.Logged.{HasEmptyLog, IsLogWritten, by_config}
use Rattle.vx_group_start.proofs.Together.{copies_told, holding}
use Rattle.vx_house.specs.Scene.{Shelved}
use Rattle.vx_house.specs.View.{IsMoment, Keeps, at}
use Rattle.vx_house.specs.declared.house.House.{House}
use Rattle.vx_house.specs.declared.house.Imported.{Imported}
use Rattle.vx_house.proofs.Ends.{keeps_but_group, moment_but_group}
use Rattle.vx_stage_volumes.specs.Opening.{good_of}
use Rattle.vx_stage_volumes.proofs.Held.{held, hold_still}
use Rattle.vx_stage_volumes.proofs.Narrowed.{are_sectors, bytes', hold_then, news}
use Rattle.vx_stage_mirrors.specs.Ending.{seen_group}
use Rattle.vx_stage_mirrors.specs.Making.{MakesIn}
use Rattle.vx_stage_mirrors.specs.LogMoments.{EachLogIsMade, LogGoes}
use Rattle.vx_stage_mirrors.proofs.LogImages.{log_is_empty}
use Rattle.vx_stage_mirrors.proofs.LogMoments.{carried, is_log_touched, is_next, keeps_on, lie_there, log_goes, n, one_of_name}
use Rattle.vx_stage_mirrors.proofs.LogTouches.{IsLogTried, made_called, made_log}

module _ {P : Type 0} {ghosts : Ghosts P} (ends : (p : P) → EndsThere (ghosts.seen p)) (counts : (p : P) → AreCounts (ghosts.seen p)) (alike : (p q : P) → is_some (ghosts.seen p).told ≡ is_some (ghosts.seen q).told)
    (shelf : Shelved) (h : House P ghosts) (keeps : Keeps ghosts.seen (at shelf h)) (g : Imported P ghosts) (has : h.group ≡ Some g) (c : Config) (v : Vol) (layouts : List Layout) (g' : Imported P ghosts) (makes : MakesIn ghosts.seen c v layouts g g') where
  abbrev see : P → Seen
  see = ghosts.seen

  tried : IsLogTried see c v g g'
  tried = inr (made_called see c v layouts g g' makes)

  module _ (m : Moment) (is : IsMoment see (at shelf h) m) where
    -- the copies as they were taken told what they held
    told : AllTell makes.made.copies
    told =
        let contents = held see ends counts (at shelf h) (keeps_but_group see (at shelf h) keeps) m (moment_but_group see (at shelf h) m is) g has in
        let all = makes.made.go.taken.contents contents (hold_still see ends counts (at shelf h) (keeps_but_group see (at shelf h) keeps) m (moment_but_group see (at shelf h) m is) g has) in
        let behind = (all_parts (Holds contents) (all_pieces makes.made.go.regions) (copy_pieces makes.made.copies ++ makes.made.go.rest) all).1 in
        let own = (all_parts (Holds contents) (copy_pieces makes.made.copies) makes.made.go.rest behind).0 in
        copies_told makes.made.copies (All-weaker (Holds contents) IsTelling (holding contents) (copy_pieces makes.made.copies) own)

    -- the moment that follows
    abbrev after : Moment
    after = n see ends counts alike shelf h keeps g has c v g' makes.same tried m is

    -- the image has a log then, of which nothing is marked
    empty : (log : Plex) → Contains (used_logs v.dco c (good_of see g) false v.name) log → HasEmptyLog (image_on after.world.devices (by_config c (seen_group see g)) v)
    empty log there =
        let kept = keeps_on see ends counts alike shelf h keeps g has c v g' makes.same tried in
        let on = is_next see ends counts alike shelf h keeps g has c v g' makes.same tried m is in
        let still = still_pieces see g'.public in
        let lie = lie_there see ends counts alike shelf h keeps g has c v g' makes.same tried in
        let made = made_log see c v layouts g g' makes in
        let contents = sector_in (news see ends counts shelf h keeps g has g'.public kept m after is on c v still lie) in
        let hold = hold_then see ends counts shelf h keeps g has g'.public kept m after is on c v still lie makes.by.numbers makes.by.are makes.by.numbered makes.by.form makes.by.form_is true made in
        log_is_empty c (good_of see g) v makes.by.form makes.by.form_is makes.by.numbers makes.made.copies makes.made.store makes.made.are
        (subst (λ xs. CutCopiesGo KeepsPiece makes.made.copies xs) makes.made.later makes.made.go.cut) told makes.made.fresh
        contents (subst (λ xs. All (Holds contents) (copy_pieces xs)) makes.made.later hold)
        (bytes' see ends counts shelf h keeps g has g'.public kept m after is on c v still lie)
        (are_sectors see ends counts shelf h keeps g has g'.public kept m after is on c v still lie makes.by.numbers makes.by.are makes.by.numbered makes.by.form makes.by.form_is true made)
        log there

    written : (of : IsVolOf c v) (log : Plex) → Contains (used_logs v.dco c (good_of see g) false v.name) log → IsLogWritten (seen_group see g) c v.name m after
    written of log there = record {
      log = is_log_touched see ends counts alike shelf h keeps g has c v g' makes.same tried m is of;
      written = λ w one named.
          subst (λ (x : Vol). HasEmptyLog (image_on after.world.devices (by_config c (seen_group see g)) x))
          (one_of_name see ends counts alike shelf h keeps g has c v g' makes.same tried m is of w one named) (empty log there);
    }

  -- it goes so
  made_goes : (of : IsVolOf c v) (log : Plex) → Contains (used_logs v.dco c (good_of see g) false v.name) log → (name : Word) → v.name ≡ name →
      (goes : LogGoes see shelf h c name g g') × ((m : Moment) (i : IsMoment see (at shelf h) m) → IsLogWritten (seen_group see g) c name m (goes.then m i))
  made_goes of log there name named =
      carried see ends counts alike shelf h keeps g has c v g' makes.same tried name named
      (λ (x : Word) (then : Imported P ghosts). (goes : LogGoes see shelf h c x g then) × ((m : Moment) (i : IsMoment see (at shelf h) m) → IsLogWritten (seen_group see g) c x m (goes.then m i)))
      (log_goes see ends counts alike shelf h keeps g has c v g' makes.same tried of, λ m i. written m i of log there)

pub log_made : {P : Type 0} {ghosts : Ghosts P} → ((p : P) → EndsThere (ghosts.seen p)) → ((p : P) → AreCounts (ghosts.seen p)) → (h : House P ghosts) (old new : Imported P ghosts) → EachLogIsMade ghosts.seen h old new
log_made ends counts h old new shelf next name later layouts alike has keeps of makes =
    made_goes ends counts alike shelf h keeps old has next later layouts new makes of.there of.some.0 of.some.1 name of.named
