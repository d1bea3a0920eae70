-- A group of which pieces were called, some among others: its disks go on, and it is kept as before.
use Rattle.std.proofs.Common.{◌≡◌, ◌∙◌, ℕ, true, false, List, [], ◌++◌, sym, subst}
use Rattle.std.specs.Prelude.{is_some}
use Rattle.std.specs.List.{All, list_any}
use Rattle.std.proofs.lemmas.List.{append-nil}
use Rattle.vx_pages.specs.declared.local_piece.LocalPiece.{Ghosts}
use Rattle.vx_base.specs.Counts.{Rose}
use Rattle.vx_piece.specs.Seen.{Seen}
use Rattle.vx_carve.specs.Together.{HasSome, SameSectors, cut_on, faults_on}
use Rattle.vx_copies.specs.Disks.{DiskSeen, good_mask}
use Rattle.vx_copies.specs.Lists.{Each}
use Rattle.vx_confdb.specs.Groups.{members}
use Rattle.vx_fronts.specs.Fronts.{whole_disk}
use Rattle.vx_fronts.specs.Laws.{whole_disks}
use Rattle.vx_fronts.specs.Parted.{AreParted, IsOfSome}
use Rattle.vx_fronts.specs.Rests.{AllTell, is_of, rests_of}
use Rattle.vx_fronts.proofs.Parted.{all_parts, parted_stay}
use Rattle.vx_lending.specs.declared.public.Public.{Public}
use Rattle.vx_group_start.specs.Laying.{AreRunningVolumes}
use Rattle.vx_group_volumes.specs.Disks.{DiskGoesOn}
use Rattle.vx_group_volumes.proofs.Called.{each_disk_on}
use Rattle.vx_house.specs.Holders.{whole_members}
use Rattle.vx_house.specs.Runs.{AllInPlace}
use Rattle.vx_house.specs.View.{IsGroupKept, IsGroupWhole}
use Rattle.vx_house.specs.declared.house.Imported.{Imported}
use Rattle.vx_house.proofs.Lists.{each_two}
use Rattle.vx_house_calls.proofs.Counts.{SameCounts, cut, quiet, rose}
use Rattle.vx_house_calls.proofs.Entries.{all_on, each_of}
use Rattle.vx_house_calls.proofs.Groups.{CountsGoOn, DiskIsCalled, number_whole}
use Rattle.vx_stage_volumes.specs.Touching.{IsTouchedIn, behind_of}
use Rattle.vx_stage_volumes.proofs.PartedGroup.{wholes_stay}

counts_at : (held held' : List Seen) (d : ℕ) (old new : Seen) → old.device ≡ d → new.device ≡ d → (list_any (is_of d) held ≡ false → SameCounts old new) →
    (Rose (faults_on d held) (faults_on d held') → Rose old.faults new.faults) → (cut_on d held' ≡ 1 → new.cut ≡ true) → CountsGoOn held held' old new
counts_at held held' d old new e e' quiet rose cut = record {
  number = e' ∙ sym e;
  quiet = λ none. quiet (subst (λ n. list_any (is_of n) held ≡ false) e none);
  rose = λ up. rose (subst (λ n. Rose (faults_on n held) (faults_on n held')) e up);
  cut = λ one. cut (subst (λ n. cut_on n held' ≡ 1) e one);
}

module _ {P : Type 0} {ghosts : Ghosts P} (see : P → Seen) (alike : (p q : P) → is_some (see p).told ≡ is_some (see q).told) (held held' : List Seen) (g : Imported P ghosts) (public : Public P ghosts) (is : IsTouchedIn see held held' g public)
    (kept : IsGroupKept see g) where
  abbrev pub now : Imported P ghosts
  now = record g { public = public }

  abbrev hs : List DiskSeen
  hs = members see g.base

  abbrev olds : List Seen
  olds = is.others ++ ([] ++ (held ++ []))

  abbrev news : List Seen
  news = is.others ++ ([] ++ (held' ++ []))

  were : SameSectors (behind_of see g.public) olds
  were = subst (λ ps. SameSectors (behind_of see g.public) (is.others ++ ps)) (sym (append-nil held)) is.were

  are : SameSectors news (behind_of see public)
  are = subst (λ ps. SameSectors (is.others ++ ps) (behind_of see public)) (sym (append-nil held')) is.are

  parted : AreParted hs olds
  parted = parted_stay hs (behind_of see g.public) olds were kept.whole.parted

  on : ((AllTell held → AllTell held') → AreParted hs news) × Each (DiskGoesOn held) (whole_disks (rests_of olds []) hs) (whole_disks (rests_of news []) hs)
  on = each_disk_on hs is.others [] held held' [] parted is.called

  parted_news : AreParted hs news
  parted_news = on.0 is.tells

  -- its pieces have sectors, on devices of the group's disks
  pub some : All HasSome held
  some = (all_parts HasSome held [] (all_parts HasSome is.others (held ++ []) parted.some).1).0

  pub of_disks : All (IsOfSome hs) held
  of_disks = (all_parts (IsOfSome hs) held [] (all_parts (IsOfSome hs) is.others (held ++ []) parted.own).1).0

  one : (x : DiskSeen) → CountsGoOn held held' (whole_disk (rests_of olds []) x).seen (whole_disk (rests_of news []) x).seen
  one x = counts_at held held' x.seen.device _ _ (number_whole (rests_of olds [] x.seen.device) x) (number_whole (rests_of news [] x.seen.device) x)
      (quiet is.others [] held held' [] is.called.each x) (rose is.others [] held held' [] is.called.each x) (cut is.others [] held held' [] is.called.each x)

  both : Each (DiskIsCalled held held') (whole_disks (rests_of olds []) hs) (whole_disks (rests_of news []) hs)
  both = each_two (DiskGoesOn held) (λ a b. CountsGoOn held held' a.seen b.seen) (DiskIsCalled held held') (λ a b goes counts. record { goes = goes; counts = counts }) _ _
      on.1 (each_of (λ a b. CountsGoOn held held' a.seen b.seen) (whole_disk (rests_of olds [])) (whole_disk (rests_of news [])) one hs)

  -- each disk goes on
  pub disks_on : Each (DiskIsCalled held held') (whole_members see g) (whole_members see now)
  disks_on =
      subst (λ ds. Each (DiskIsCalled held held') ds (whole_members see now)) (wholes_stay see alike g.base.disks.items (behind_of see g.public) olds kept.whole.parted were)
      (subst (λ ds. Each (DiskIsCalled held held') (whole_disks (rests_of olds []) hs) ds) (sym (wholes_stay see alike g.base.disks.items news (behind_of see public) parted_news are)) both)

  whole_now : IsGroupWhole see now
  whole_now = record {
    parted = parted_stay hs news (behind_of see public) are parted_news;
    volumes = subst (AreRunningVolumes see) (sym is.running) kept.whole.volumes;
    stuck = is.stuck;
  }

  -- it is kept
  pub kept_now : IsGroupKept see now
  kept_now = record {
    named = kept.named;
    text = kept.text;
    first = kept.first;
    carries = kept.carries;
    sized = all_on (DiskIsCalled held held') (λ h. h.seen.sectors ≡ h.sectors) (λ h. h.seen.sectors ≡ h.sectors)
        (λ a b on size. on.goes.keeps.sectors ∙ size ∙ sym on.goes.size) (whole_members see g) (whole_members see now) disks_on kept.sized;
    slots = kept.slots;
    recorded = kept.recorded;
    whole = whole_now;
    placed = subst (AllInPlace see hs g.config (good_mask hs)) (sym is.running) kept.placed;
  }
