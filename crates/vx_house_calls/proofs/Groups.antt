-- A group of which one running volume was called: its disks go on, and it is kept as before.
use Rattle.std.proofs.Common.{◌≡◌, ◌∙◌, ℕ, true, false, List, [], ◌∷◌, ◌++◌, Option, Some, None, refl, sym, ap, subst}
use Rattle.std.specs.Prelude.{nat_lt, length}
use Rattle.std.specs.BTreeMap.{BTreeMap, is_at}
use Rattle.std.specs.Cmp.Lexicographic.{slice_cmp}
use Rattle.std.specs.List.{All, flat_map, list_any}
use Rattle.std.specs.Ordering.{nat_cmp}
use Rattle.vx_pages.specs.declared.local_piece.LocalPiece.{Ghosts}
use Rattle.vx_base.specs.Counts.{Rose}
use Rattle.vx_base.specs.Named.{Word}
use Rattle.vx_piece.specs.Seen.{Seen}
use Rattle.vx_carve.specs.Together.{HasSome, cut_on, faults_on}
use Rattle.vx_copies.specs.Disks.{DiskSeen, good_mask}
use Rattle.vx_copies.specs.Lists.{Each}
use Rattle.vx_confdb.specs.Groups.{members}
use Rattle.vx_config_parts.specs.declared.vol.Vol.{Vol}
use Rattle.vx_objects.specs.declared.config.Config.{Config}
use Rattle.vx_lending.specs.Form.{IsFormOf}
use Rattle.vx_fronts.specs.Fronts.{Rest, whole_disk, with_device}
use Rattle.vx_fronts.specs.Laws.{whole_disks}
use Rattle.vx_fronts.specs.Parted.{AreParted, IsOfSome}
use Rattle.vx_fronts.specs.Rests.{AllTell, is_of, rests_of}
use Rattle.vx_fronts.proofs.Parted.{all_parts}
use Rattle.vx_lending.specs.Left.{held_pieces}
use Rattle.vx_lending.specs.declared.public.Running.{Running}
use Rattle.vx_lending.specs.Public.{lent_pieces, running_pieces, still_pieces, stuck_pieces}
use Rattle.vx_group_start.specs.Laying.{AreRunningVolumes}
use Rattle.vx_volume.specs.Volume.{IsVolume, volume_seen}
use Rattle.vx_group_volumes.specs.Disks.{DiskGoesOn}
use Rattle.vx_group_volumes.specs.Places.{RunsInPlace}
use Rattle.vx_group_volumes.proofs.Called.{each_disk_on}
use Rattle.vx_house.specs.Holders.{whole_members}
use Rattle.vx_house.specs.Runs.{AllInPlace, AreInPlace, IsInPlace}
use Rattle.vx_house.specs.View.{IsGroupKept, IsGroupWhole}
use Rattle.vx_house.specs.declared.house.Imported.{Imported}
use Rattle.vx_house.proofs.Holders.{all_here, all_others, all_put}
use Rattle.vx_house.proofs.Lists.{each_two}
use Rattle.vx_house_calls.specs.Passes.{IsCalledIn}
use Rattle.vx_house_calls.proofs.Counts.{SameCounts, cut, quiet, rose}
use Rattle.vx_house_calls.proofs.Entries.{IsSetAt, all_on, each_of, flat_around, set_at}

-- the group with these running volumes
abbrev pub with_running : {P : Type 0} {ghosts : Ghosts P} → Imported P ghosts → BTreeMap Word (Running P ghosts) → Imported P ghosts
with_running g running = record g { public = record g.public { running = running } }

-- What is counted of a device goes on with what these pieces have counted.
pub record CountsGoOn (held held' : List Seen) (old new : Seen) : Type 0 where
  pub number : new.device ≡ old.device
  pub quiet : list_any (is_of old.device) held ≡ false → SameCounts old new
  pub rose : Rose (faults_on old.device held) (faults_on old.device held') → Rose old.faults new.faults
  pub cut : cut_on old.device held' ≡ 1 → new.cut ≡ true

counts_at : (held held' : List Seen) (d : ℕ) (old new : Seen) → old.device ≡ d → new.device ≡ d → (list_any (is_of d) held ≡ false → SameCounts old new) →
    (Rose (faults_on d held) (faults_on d held') → Rose old.faults new.faults) → (cut_on d held' ≡ 1 → new.cut ≡ true) → CountsGoOn held held' old new
counts_at held held' d old new e e' quiet rose cut = record {
  number = e' ∙ sym e;
  quiet = λ none. quiet (subst (λ n. list_any (is_of n) held ≡ false) e none);
  rose = λ up. rose (subst (λ n. Rose (faults_on n held) (faults_on n held')) e up);
  cut = λ one. cut (subst (λ n. cut_on n held' ≡ 1) e one);
}

-- the disk goes on with its device, and what is counted of that
pub record DiskIsCalled (held held' : List Seen) (old new : DiskSeen) : Type 0 where
  pub goes : DiskGoesOn held old new
  pub counts : CountsGoOn held held' old.seen new.seen

pub number_whole : (o : Option Rest) (h : DiskSeen) → (with_device o h).seen.device ≡ h.seen.device
number_whole None h = refl
number_whole (Some r) h = refl

module _ {P : Type 0} {ghosts : Ghosts P} (see : P → Seen) (name : Word) (g : Imported P ghosts) (running : BTreeMap Word (Running P ghosts)) (is : IsCalledIn see name g (with_running g running)) where
  abbrev pub now : Imported P ghosts
  now = with_running g running

  abbrev pub held : List Seen
  held = held_pieces see is.before.volume

  abbrev pub held' : List Seen
  held' = held_pieces see is.after.volume

  pub spot : IsSetAt g.public.running.entries running.entries is.before is.after
  spot =
      let e = set_at (is_at (slice_cmp nat_cmp name)) is.before is.after g.public.running.entries is.was in
      record { key = e.key; before = e.before; behind = e.behind; was = e.was; is = is.entries ∙ e.is }

  -- the pieces before those of the volume, and behind them
  abbrev still : List Seen
  still = still_pieces see g.public

  abbrev front : List Seen
  front = flat_map (running_pieces see) spot.before

  abbrev rest : List Seen
  rest = flat_map (running_pieces see) spot.behind ++ flat_map (stuck_pieces see) g.public.stuck.items

  abbrev olds : List Seen
  olds = still ++ (front ++ (held ++ rest))

  abbrev news : List Seen
  news = still ++ (front ++ (held' ++ rest))

  round : (es : List (Word × Running P ghosts)) (x : Running P ghosts) → es ≡ spot.before ++ (spot.key, x) ∷ spot.behind →
      flat_map (running_pieces see) es ++ flat_map (stuck_pieces see) g.public.stuck.items ≡ front ++ (held_pieces see x.volume ++ rest)
  round es x at =
      ap (λ es. flat_map (running_pieces see) es ++ flat_map (stuck_pieces see) g.public.stuck.items) at
      ∙ flat_around (running_pieces see) spot.before (spot.key, x) spot.behind (flat_map (stuck_pieces see) g.public.stuck.items)

  behind_were : still_pieces see g.public ++ lent_pieces see g.public ≡ olds
  behind_were = ap (λ ps. still ++ ps) (round g.public.running.entries is.before spot.was)

  behind_are : still_pieces see now.public ++ lent_pieces see now.public ≡ news
  behind_are = ap (λ ps. still ++ ps) (round running.entries is.after spot.is)

  abbrev hs : List DiskSeen
  hs = members see g.base

  wholes_were : whole_members see g ≡ whole_disks (rests_of olds []) hs
  wholes_were = ap (λ ps. whole_disks (rests_of ps []) hs) behind_were

  wholes_are : whole_members see now ≡ whole_disks (rests_of news []) hs
  wholes_are = ap (λ ps. whole_disks (rests_of ps []) hs) behind_are

  module _ (whole : IsGroupWhole see g) where
    parted : AreParted hs olds
    parted = subst (AreParted hs) behind_were whole.parted

    -- its pieces have sectors, on devices of the group's disks
    pub some : All HasSome held
    some = (all_parts HasSome held rest (all_parts HasSome front (held ++ rest) (all_parts HasSome still (front ++ (held ++ rest)) parted.some).1).1).0

    pub of_disks : All (IsOfSome hs) held
    of_disks = (all_parts (IsOfSome hs) held rest (all_parts (IsOfSome hs) front (held ++ rest) (all_parts (IsOfSome hs) still (front ++ (held ++ rest)) parted.own).1).1).0

    on : ((AllTell held → AllTell held') → AreParted hs news) × Each (DiskGoesOn held) (whole_disks (rests_of olds []) hs) (whole_disks (rests_of news []) hs)
    on = each_disk_on hs still front held held' rest parted is.called

    one : (x : DiskSeen) → CountsGoOn held held' (whole_disk (rests_of olds []) x).seen (whole_disk (rests_of news []) x).seen
    one x = counts_at held held' x.seen.device _ _ (number_whole (rests_of olds [] x.seen.device) x) (number_whole (rests_of news [] x.seen.device) x)
        (quiet still front held held' rest is.called.each x) (rose still front held held' rest is.called.each x) (cut still front held held' rest is.called.each x)

    both : Each (DiskIsCalled held held') (whole_disks (rests_of olds []) hs) (whole_disks (rests_of news []) hs)
    both = each_two (DiskGoesOn held) (λ a b. CountsGoOn held held' a.seen b.seen) (DiskIsCalled held held') (λ a b goes counts. record { goes = goes; counts = counts }) _ _
        on.1 (each_of (λ a b. CountsGoOn held held' a.seen b.seen) (whole_disk (rests_of olds [])) (whole_disk (rests_of news [])) one hs)

    -- each disk goes on
    pub disks_on : Each (DiskIsCalled held held') (whole_members see g) (whole_members see now)
    disks_on =
        subst (λ ds. Each (DiskIsCalled held held') ds (whole_members see now)) (sym wholes_were)
        (subst (λ ds. Each (DiskIsCalled held held') (whole_disks (rests_of olds []) hs) ds) (sym wholes_are) both)

    runs_now : AreRunningVolumes see running.entries
    runs_now =
        let ok = λ (e : Word × Running P ghosts). IsVolume (volume_seen see e.1.volume) in
        subst (AreRunningVolumes see) (sym spot.is)
        (all_put ok spot.before (spot.key, is.after) spot.behind is.whole
        (all_others ok spot.before (spot.key, is.before) spot.behind (subst (AreRunningVolumes see) spot.was whole.volumes)))

    pub whole_now : IsGroupWhole see now
    whole_now = record { parted = subst (AreParted hs) (sym behind_are) (on.0 is.tells); volumes = runs_now; stuck = whole.stuck }

  -- the volume that was called runs in its place still
  unfoldable pub runs_after : (c : Config) (good : ℕ) (numbers : List ℕ) (of : Vol) → RunsInPlace see c good numbers of is.before → RunsInPlace see c good numbers of is.after
  runs_after c good numbers of placed =
      let o = placed.runs.opening in
      record {
        runs = record {
          recorded = placed.runs.recorded;
          filled = placed.runs.filled;
          opening = o;
          of = placed.runs.of;
          form = subst (IsFormOf o.config o.good o.vol o.fresh) (sym is.form) placed.runs.form;
          keeps = placed.runs.keeps;
          whole = is.whole;
          shape = is.shape ∙ placed.runs.shape ∙ ap (λ f. f.shape) (sym is.form);
          logged = ap (λ f. nat_lt 0 (length f.logs.items)) is.form ∙ placed.runs.logged;
          lies = is.lies numbers placed.runs.lies;
          cut = is.dead placed.runs.cut;
        };
        places = placed.places;
        numbered = placed.numbered;
        were_good = placed.were_good;
      }

  place_now : (c : Config) (good : ℕ) (x : Word) → IsInPlace see hs c good x is.before → IsInPlace see hs c good x is.after
  unfolding runs_after
  place_now c good x run = record {
    of = run.of;
    named = run.named;
    started = run.started;
    numbers = run.numbers;
    own = run.own;
    placed = runs_after c good run.numbers run.of run.placed;
    opened = run.opened;
    numbered = run.numbered;
  }

  pub places_now : AreInPlace see g → AreInPlace see now
  places_now all =
      let good = good_mask hs in
      let ok = λ (e : Word × Running P ghosts). IsInPlace see hs g.config good e.0 e.1 in
      let were = subst (AllInPlace see hs g.config good) spot.was all in
      subst (AllInPlace see hs g.config good) (sym spot.is)
      (all_put ok spot.before (spot.key, is.after) spot.behind (place_now g.config good spot.key (all_here ok spot.before (spot.key, is.before) spot.behind were))
      (all_others ok spot.before (spot.key, is.before) spot.behind were))

  pub kept_now : IsGroupKept see g → IsGroupKept see now
  kept_now kept = record {
    named = kept.named;
    text = kept.text;
    first = kept.first;
    carries = kept.carries;
    sized = all_on (DiskIsCalled held held') (λ h. h.seen.sectors ≡ h.sectors) (λ h. h.seen.sectors ≡ h.sectors)
        (λ a b on size. on.goes.keeps.sectors ∙ size ∙ sym on.goes.size) (whole_members see g) (whole_members see now) (disks_on kept.whole) kept.sized;
    slots = kept.slots;
    recorded = kept.recorded;
    whole = whole_now kept.whole;
    placed = places_now kept.placed;
  }
