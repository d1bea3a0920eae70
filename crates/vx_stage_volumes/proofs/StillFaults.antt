-- Where the count of the pieces of a group that lie still rose, the device of one of its disks has failed, and where one of them is cut, so
-- is the device.
use Rattle.std.proofs.Common.{◌≡◌, ◌∙◌, true, false, List, [], ◌++◌, Some, sym, ap, subst}
use Rattle.vx_pages.specs.declared.local_piece.LocalPiece.{Ghosts}
use Rattle.vx_base.specs.Counts.{Rose}
use Rattle.vx_piece.specs.Seen.{Seen}
use Rattle.vx_carve.specs.Together.{cut_on, faults_on}
use Rattle.vx_copies.specs.Disks.{DiskSeen}
use Rattle.vx_confdb.specs.Groups.{members}
use Rattle.vx_fronts.specs.Fronts.{whole_disk}
use Rattle.vx_fronts.specs.Rests.{rests_of}
use Rattle.vx_lending.specs.Public.{lent_pieces, still_pieces}
use Rattle.vx_moments.specs.Moment.{Moment}
use Rattle.vx_moments.specs.Moment.{HasFailed as FailsAt}
use Rattle.vx_house.specs.Scene.{Scene, Shelved, counts_of, count_in, faults_at, seen_in}
use Rattle.vx_house.specs.View.{IsMoment, Keeps, at, scene}
use Rattle.vx_house.specs.declared.house.House.{House}
use Rattle.vx_house.specs.declared.house.Imported.{Imported}
use Rattle.vx_house_calls.specs.Passes.{IsOneOf, with_group}
use Rattle.vx_stage_volumes.proofs.BehindCounts.{cut_whole, rose_whole}
use Rattle.vx_stage_volumes.proofs.TouchedHouse.{GroupGoesOn, faults_are, faults_were, held_now}

module _ {P : Type 0} {ghosts : Ghosts P} (see : P → Seen) (shelf : Shelved) (h : House P ghosts) (g : Imported P ghosts) (has_group : h.group ≡ Some g) (pieces pieces' : List Seen) (now : Imported P ghosts)
    (on : GroupGoesOn see pieces pieces' g now) (keeps : Keeps see (at shelf h)) (lent : lent_pieces see now.public ≡ lent_pieces see g.public) where
  abbrev old : Scene
  old = scene see (at shelf h)

  abbrev new : Scene
  new = scene see (at shelf (with_group h now))

  module _ (x : DiskSeen) (one : IsOneOf (members see g.base) x) where
    pub still_rose : Rose (faults_on x.seen.device (still_pieces see g.public)) (faults_on x.seen.device (still_pieces see now.public)) → Rose (faults_at old x.device) (faults_at new x.device)
    still_rose rose =
        let S = still_pieces see g.public in
        let S' = still_pieces see now.public in
        let L = lent_pieces see g.public in
        let was = whole_disk (rests_of (S ++ L) []) x in
        let is = whole_disk (rests_of (S' ++ lent_pieces see now.public) []) x in
        let whole : Rose was.seen.faults is.seen.faults =
        subst (λ ps. Rose was.seen.faults (whole_disk (rests_of (S' ++ ps) []) x).seen.faults) (sym lent) (rose_whole x L S S' rose) in
        subst (λ n. Rose n (faults_at new x.device)) (sym (faults_were see shelf h g has_group pieces pieces' now on keeps x one))
        (subst (λ n. Rose was.seen.faults n) (sym (faults_are see shelf h g has_group pieces pieces' now on keeps x one)) whole)

    -- so it is at each moment
    pub still_fails : (m : Moment) → IsMoment see (at shelf h) m → Rose (faults_on x.seen.device (still_pieces see g.public)) (faults_on x.seen.device (still_pieces see now.public)) → FailsAt m.counts (counts_of new) x.device
    still_fails m is rose = subst (λ n. Rose n (faults_at new x.device)) (sym (is.counts.faults x.device)) (still_rose rose)

    pub still_cut : cut_on x.seen.device (still_pieces see now.public) ≡ 1 → (counts_of new).cut x.device ≡ true
    still_cut cut =
        ap (λ o. count_in (λ (s : Seen). s.cut) false (seen_in o shelf.free x.device))
        (held_now see shelf h g has_group pieces pieces' now on keeps x one)
        ∙ cut_whole x (lent_pieces see now.public) (still_pieces see now.public) cut
