-- Copies that were taken for the log of a volume lie on its log plexes, and only their sectors change as it is opened.
use Rattle.std.proofs.Common.{◌≡◌, inl, inr, ℕ, suc, ◌+◌, ◌<◌, Bool, true, false, List, [], ◌∷◌, ◌++◌, length, refl, sym, subst, arith}
use Rattle.std.specs.Prelude.{slice_index_or}
use Rattle.std.specs.List.{All, list_any}
use Rattle.std.proofs.lemmas.List.Sums.{sum_by-append}
use Rattle.std.proofs.lemmas.List.Elements.{All-append, All-cons, All-nil}
use Rattle.vx_piece.specs.Seen.{Seen}
use Rattle.vx_carve.specs.Carved.{ArePieces}
use Rattle.vx_carve.specs.Together.{AreOnce, HasSome, covers, has}
use Rattle.vx_layout.specs.declared.layout.Layout.{Layout}
use Rattle.vx_layout.specs.declared.run.Run.{Run}
use Rattle.vx_layout.specs.declared.strip.Strip.{Strip}
use Rattle.vx_layout.specs.Runs.{AreRuns}
use Rattle.vx_copies.specs.Disks.{DiskSeen}
use Rattle.vx_copies.specs.Lists.{Each}
use Rattle.vx_fronts.specs.Fronts.{whole_disk}
use Rattle.vx_fronts.specs.Laws.{whole_disks}
use Rattle.vx_fronts.specs.Parted.{AreParted, fronts_of}
use Rattle.vx_fronts.specs.RestLaws.{WereCalled}
use Rattle.vx_fronts.specs.Rests.{AllTell, is_of, rest_in, rests_of}
use Rattle.vx_fronts.proofs.Behind.{devices_called}
use Rattle.vx_fronts.proofs.Parted.{parted_called, parted_once}
use Rattle.vx_fronts.proofs.Sectors.{any_same}
use Rattle.vx_config_parts.specs.declared.plex.Plex.{Plex}
use Rattle.vx_config_parts.specs.declared.vol.Vol.{Vol}
use Rattle.vx_objects.specs.declared.config.Config.{Config}
use Rattle.vx_image.proofs.PlexMembers.{IsIn}
use Rattle.vx_image.specs.UsedPlexes.{used_logs}
use Rattle.vx_image.proofs.Members.{contains, is_in}
use Rattle.vx_lending.specs.declared.form.VolumeForm.{VolumeForm}
use Rattle.vx_lending.specs.Form.{AreLayouts, IsFormOf, IsLayoutOf}
use Rattle.vx_lending.specs.FormLaws.{good_disks}
use Rattle.vx_lending.proofs.Places.{IsTaken, log_taken}
use Rattle.vx_lending.specs.Going.{GoTogether}
use Rattle.vx_lending.specs.Pieces.{copy_pieces}
use Rattle.vx_lending.specs.Pieces.{own_pieces as own_copy}
use Rattle.vx_lending.specs.Taken.{AreTakenCopies, log_sectors}
use Rattle.vx_lending.proofs.Goings.{go_beside, go_same}
use Rattle.vx_volume_laws.proofs.OpenedImages.{some_of}
use Rattle.vx_volume_laws.proofs.Spots.{cut_lies, cut_long}
use Rattle.vx_group_start.specs.Together.{GoByCopies}
use Rattle.vx_group_start.proofs.Together.{beside, counts, own, together}
use Rattle.vx_group_volumes.specs.Devices.{LiesOnDevice}
use Rattle.vx_group_volumes.specs.Disks.{DiskGoesOn}
use Rattle.vx_group_volumes.specs.LogLaws.{EachDiskGoesByCopies, EachLogChangesOnly, EachLogCountsItsOwn, EachLogHasItsCopy, EachTakenCopyIsOwn, EachTakenDeviceIsOwn}
use Rattle.vx_group_volumes.proofs.Called.{disk_by, keeps_same}
use Rattle.vx_group_volumes.proofs.Counts.{some_covered}
use Rattle.vx_group_volumes.proofs.Failures.{of_block}
use Rattle.vx_group_volumes.proofs.Held.{layout_plex, of_layout, own_sector}
use Rattle.vx_group_volumes.proofs.Spots.{IsAtBlock, any_flat, mapped_at, on_block}
use Rattle.vx_group_volumes.proofs.Worlds.{changes_only, members_whole, others_whole}

-- ---- where copies lie

-- no piece of a cut is empty
none_empty : (numbers : List ℕ) (unit : ℕ) (columns : List (List Strip)) (runs : List Run) (ps : List Seen) (start end : ℕ) → AreRuns unit columns start end runs → ArePieces numbers runs ps → All HasSome ps
none_empty numbers unit columns [] [] start end are pieces = All-nil HasSome
none_empty numbers unit columns [] (p ∷ ps) start end are pieces = absurd pieces
none_empty numbers unit columns (run ∷ runs) [] start end are pieces = absurd pieces
none_empty numbers unit columns (run ∷ runs) (p ∷ ps) start end are pieces =
    let some = are.1.some in
    let count = pieces.0.count_is in
    All-cons HasSome p ps (omega (arith, some, count)) (none_empty numbers unit columns runs ps (start + run.count) end are.3 pieces.1)

-- the layout of a plex
pub layout_of : (c : Config) (plexes : List Plex) (layouts : List Layout) (p : Plex) → AreLayouts c plexes layouts → IsIn plexes p → (n : ℕ) × (n < length layouts) × ((d : Layout) → IsLayoutOf c p (slice_index_or layouts n d))
layout_of c [] layouts p are there = absurd there
layout_of c (q ∷ qs) [] p are there = absurd are
layout_of c (q ∷ qs) (l ∷ ls) p are (inl same) = (0, omega arith, λ d. subst (λ (x : Plex). IsLayoutOf c x l) (sym same) are.0)
layout_of c (q ∷ qs) (l ∷ ls) p are (inr there) = let r = layout_of c qs ls p are.1 there in let lt = r.1 in (suc r.0, omega (arith, lt), r.2)

module _ (c : Config) (good : ℕ) (v : Vol) (fresh : Bool) (form : VolumeForm) (is : IsFormOf c good v fresh form) (numbers : List ℕ) (copies : List (List Seen))
    (taken : AreTakenCopies numbers form.logs.items (log_sectors form.shape.geometry) copies) where
  module _ (n : ℕ) (laid : n < length form.logs.items) (d : Layout) where
    abbrev layout : Layout
    layout = slice_index_or form.logs.items n d

    abbrev copy : List Seen
    copy = slice_index_or copies n []

    pub at_block : (device k : ℕ) → list_any (covers device k) copy ≡ true → IsAtBlock numbers layout.unit layout.columns device k
    at_block device k any =
        let cut = taken.cut n d laid in
        on_block numbers layout.unit layout.columns 0 (log_sectors form.shape.geometry) copy (cut_lies numbers layout.unit layout.columns 0 (log_sectors form.shape.geometry) copy cut) (cut_long numbers layout.unit layout.columns 0 (log_sectors form.shape.geometry) copy cut)
        device k any

    pub lies_on : (p : Plex) → IsTaken c good v p → IsLayoutOf c p layout → (device : ℕ) → list_any (is_of device) copy ≡ true → LiesOnDevice c (good_disks good c.disks) numbers p device
    lies_on p there lay device any =
        let cut = taken.cut n d laid in
        let r = some_covered device copy (none_empty numbers layout.unit layout.columns cut.runs copy 0 (log_sectors form.shape.geometry) cut.are_runs cut.pieces) any in
        of_block c good v fresh form is numbers device p layout r.0 there lay (at_block device r.0 r.1)

  pub laid_at : (n : ℕ) → n < length copies → n < length form.logs.items
  laid_at n lt = let long = taken.long in omega (arith, long, lt)

  -- the log plex of a copy
  pub plex_at : (n : ℕ) → n < length copies → (d : Layout) → (p : Plex) × IsIn (used_logs v.dco c good fresh v.name) p × IsLayoutOf c p (slice_index_or form.logs.items n d)
  plex_at n lt d = layout_plex c (used_logs v.dco c good fresh v.name) form.logs.items n d is.logs (laid_at n lt)

pub sector_own : EachTakenCopyIsOwn
sector_own c good v fresh form is numbers copies taken device k any =
    let r = any_flat (covers device k) own_copy copies any in
    let n = r.0 in
    let laid = laid_at c good v fresh form is numbers copies taken n r.1 in
    let d = some_of form.logs.items n laid in
    let p = plex_at c good v fresh form is numbers copies taken n r.1 d in
    own_sector c good v numbers device k
    (of_layout c good v fresh form is numbers device k p.0 (slice_index_or form.logs.items n d) (log_taken c good v fresh v.dco p.0 p.1).0 p.2
    (at_block c good v fresh form is numbers copies taken n laid d device k (subst (λ ps. list_any (covers device k) ps ≡ true) (mapped_at own_copy [] copies n refl) r.2)))

pub device_own : EachTakenDeviceIsOwn
device_own c good v fresh form is numbers copies taken device any =
    let r = any_flat (is_of device) own_copy copies any in
    let n = r.0 in
    let laid = laid_at c good v fresh form is numbers copies taken n r.1 in
    let d = some_of form.logs.items n laid in
    let p = plex_at c good v fresh form is numbers copies taken n r.1 d in
    let t = (log_taken c good v fresh v.dco p.0 p.1).0 in
    record {
      plex = p.0;
      there = contains c.plexes p.0 t.there;
      own = t.of;
      lies = lies_on c good v fresh form is numbers copies taken n laid d p.0 t p.2 device (subst (λ ps. list_any (is_of device) ps ≡ true) (mapped_at own_copy [] copies n refl) r.2);
    }

pub log_copy : EachLogHasItsCopy
log_copy c good v fresh form is numbers copies taken p there =
    let logs = used_logs v.dco c good fresh v.name in
    let among = is_in logs p there in
    let r = layout_of c logs form.logs.items p is.logs among in
    let n = r.0 in
    let lt = r.1 in
    let long = taken.long in
    let d = some_of form.logs.items n lt in (
      n,
      record {
        inside = omega (arith, lt, long);
        on = λ device any. lies_on c good v fresh form is numbers copies taken n lt d p (log_taken c good v fresh v.dco p among).0 (r.2 d) device any;
      },
    )

-- ---- what their calls change

module _ (hs : List DiskSeen) (copies : List (List Seen)) (old new others : List Seen) (parted : AreParted hs (old ++ others)) (tells : AllTell (old ++ others)) (g : GoByCopies copies old new) where
  abbrev olds : List Seen
  olds = old ++ others

  abbrev news : List Seen
  news = new ++ others

  go : GoByCopies copies olds news
  go = beside copies old new others g

  goes : GoTogether olds news
  goes = together copies olds news go

  once : AreOnce olds
  once device k = let all = parted_once hs olds parted device k in let sum = sum_by-append (has device k) (fronts_of hs) olds in omega (arith, all, sum)

  ended : GoTogether (olds ++ []) (news ++ [])
  ended = go_beside olds news [] [] goes (go_same [])

  were : WereCalled (olds ++ []) (news ++ [])
  were = record { sectors = ended.sectors; faults = ended.faults; cut = ended.cut }

  some_olds : All HasSome (olds ++ [])
  some_olds = All-append HasSome olds [] parted.some (All-nil HasSome)

  disk_on : (h : DiskSeen) → DiskGoesOn (copy_pieces copies) (whole_disk (rests_of olds []) h) (whole_disk (rests_of news []) h)
  disk_on h = disk_by (copy_pieces copies) (rest_in olds [] h.seen.device) (rest_in news [] h.seen.device) h
      (λ k none. (own copies olds news go once tells).1 h.seen.device k none)
      (list_any (is_of h.seen.device) (olds ++ [])) (list_any (is_of h.seen.device) (news ++ []))
      (any_same (olds ++ []) (news ++ []) h.seen.device some_olds (ended.some some_olds) (λ k. ended.sectors h.seen.device k))
      (devices_called olds [] news [] h h some_olds (ended.some some_olds) were refl (keeps_same h.seen))

  disks_on : (xs : List DiskSeen) → Each (DiskGoesOn (copy_pieces copies)) (whole_disks (rests_of olds []) xs) (whole_disks (rests_of news []) xs)
  disks_on [] = tt
  disks_on (x ∷ xs) = (disk_on x, disks_on xs)

  parted_on : AreParted hs news
  parted_on = parted_called hs olds news goes.sectors (goes.some parted.some) (λ all. (own copies olds news go once tells).0) parted

pub disks_by : EachDiskGoesByCopies
disks_by hs copies old new others parted tells g = (parted_on hs copies old new others parted tells g, disks_on hs copies old new others parted tells g hs)

pub log_changes : EachLogChangesOnly
log_changes g numbers v fresh form is have numbered hs before after others members parted tells goes old new was now stay =
    changes_only g v.name numbers (good_disks g.good g.config.disks) have numbered (copy_pieces goes.copies)
    (λ device k any. sector_own g.config g.good v fresh form is numbers goes.copies goes.are device k any)
    old new (whole_disks (rests_of (before ++ others) []) hs) (whole_disks (rests_of (after ++ others) []) hs)
    (members_whole g numbers (rests_of (before ++ others) []) hs members) (disks_by hs goes.copies before after others parted tells goes.go).1 was now (others_whole (rests_of (before ++ others) []) hs old new stay)

pub log_counts : EachLogCountsItsOwn
log_counts c good v fresh form is numbers before after others goes device away = counts goes.copies (before ++ others) (after ++ others) (beside goes.copies before after others goes.go) device (by (list_any (is_of device) (copy_pieces goes.copies)) refl)
  where
    by : (b : Bool) → list_any (is_of device) (copy_pieces goes.copies) ≡ b → list_any (is_of device) (copy_pieces goes.copies) ≡ false
    by true e = absurd (away (device_own c good v fresh form is numbers goes.copies goes.are device e))
    by false e = e
