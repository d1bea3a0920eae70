-- What a volume of the code leaves on its disks stands for the volume of the world.
use Rattle.std.proofs.Common.{◌≡◌, ◌≢◌, ◌⊎◌, inl, inr, ℕ, zero, suc, ◌<◌, ◌/◌, Bool, true, false, refl, sym, ◌∙◌, ap, subst, cond, List, [], ◌∷◌, length, map, arith, Option, None, Result, Ok, Err}
use Rattle.std.specs.Prelude.{◌&&◌, ◌||◌, ◌==◌, not, nat_lt, Contains}
use Rattle.std.proofs.lemmas.Bool.{cases_eq}
use Rattle.std.proofs.lemmas.Bool.Decides.{nat_tests}
use Rattle.std.specs.List.{filter, list_all, list_any}
use Rattle.std.proofs.lemmas.List.{length-map}
use Rattle.std.proofs.lemmas.List.Folds.{list_all-map}
use Rattle.vx_base.specs.Blocks.{Contents}
use Rattle.vx_base.specs.Named.{Word}
use Rattle.vx_block.specs.Regions.{region_count}
use Rattle.vx_life.specs.Candidates.{Candidates, IsAmong, Values}
use Rattle.vx_mask.specs.Mask.{has}
use Rattle.vx_mask.proofs.Tests.{true_or_false, not_both, or_cases, both_parts}
use Rattle.vx_config_parts.specs.declared.state.VolState.{VolState}
use Rattle.vx_config_parts.specs.declared.state.VolState.TheVariants as vol
use Rattle.vx_core.specs.declared.stage.Phase.{Phase}
use Rattle.vx_core.specs.declared.stage.Phase.TheVariants.{Settled}
use Rattle.vx_life.specs.Entry.{candidates_of}
use Rattle.vx_core.specs.Region.{RegionState, told}
use Rattle.vx_core_laws.specs.Course.{IsKeptState}
use Rattle.vx_core_laws.specs.Tracking.{IsSeen}
use Rattle.vx_core_laws.proofs.Beginnings.{settled_begins}
use Rattle.vx_cell.specs.declared.fault.CellFault.{CellFault}
use Rattle.vx_cell.specs.declared.fault.CellFault.TheVariants as cell
use Rattle.vx_cell.specs.Calls.{LeavesPhase}
use Rattle.vx_cell.specs.Changes.{CellSeen}
use Rattle.vx_volume.specs.Loop.{AreDone, stop_of}
use Rattle.vx_volume.specs.Passes.{Settles}
use Rattle.vx_volume.specs.Volume.{IsVolume, VolumeSeen, cell_at}
use Rattle.vx_moments.specs.World.{Track, Volume}
use Rattle.vx_image.specs.Image.{PlexImage, LogCopy, Image, WasStarted, IsFilled, regions_of, is_available, is_available_state, is_read, is_alone, has_no_copy, is_marked_by_all, is_marked_by_some, is_unmarked_by_some}
use Rattle.vx_image.specs.Soundness.{IsDirtyBy, IsSoundImage, MayDiffer}
use Rattle.vx_image.specs.Meaning.{plexes_read}
use Rattle.vx_image.proofs.Members.{one_from_any, from_filter, into_filter, only_one}
use Rattle.vx_moments.specs.Volumes.{StandsForVolume}
use Rattle.vx_moments.proofs.Blocks.{below_count}
use Rattle.vx_image.specs.Meaning.{ReadsOneList}
use Rattle.vx_volume_laws.specs.Regions.{GoWith, IsPlexOfRegions, Regions, LeaveImage}
use Rattle.vx_volume_laws.specs.Volumes.{EachVolumeIsLeft, RunsAs}
use Rattle.vx_volume_laws.specs.Leaving.{AreSettled, EachLeavingStands, EachRunningForgets, EachSettlingSettles, EachStopStands, IsLeftBy, AreNamedIn, told_by}
use Rattle.vx_volume_laws.specs.Running.{IsSureOfOthers, RunsAsVolume, state_at, states_of}
use Rattle.vx_volume_laws.proofs.LivesVolumes.{done_keeps}

-- ---- nothing is sure of what is written to

unsure_sure : (b : Bool) (t : Track) (r : ℕ) → (cond b (record t { sure = λ r. false }) t).sure r ≡ true → (b ≡ false) × (t.sure r ≡ true)
unsure_sure true t r h = cc
unsure_sure false t r h = (refl, h)

unsure_possible : (b : Bool) (t : Track) (r : ℕ) → t.possible r ≡ true → (cond b (record t { sure = λ r. false }) t).possible r ≡ true
unsure_possible true t r h = h
unsure_possible false t r h = h

pub each_running_forgets : EachRunningForgets
each_running_forgets plexes v w run owners fit = (
  record {
    fixed = run.fixed;
    some = run.some;
    sized = run.sized;
    length_is = run.length_is;
    region_is = run.region_is;
    epoch = run.epoch;
    told = run.told;
    held = run.held;
    copies = run.copies;
    each = λ r lt.
        let was = run.each r lt in
        record {
          kept = was.kept;
          here = was.here;
          candidates = was.candidates;
          last = was.last;
          tracks = λ p one.
              let g = was.tracks p one in
              record {
                sure = λ other h. g.sure other (unsure_sure (owners p.name).available (w.tracks p.name) r h).1;
                possible = λ seen. unsure_possible (owners p.name).available (w.tracks p.name) r (g.possible seen);
              };
          dirty = was.dirty;
          unsettled = was.unsettled;
        };
  },
  λ p one r lt h.
      let is = fit p one r lt in
      let off : has (cell_at v r).stage.on p.map ≡ false = sym is.available ∙ (unsure_sure (owners p.name).available (w.tracks p.name) r h).0 in
      elim is.known [ inl on ↦ not_both on off | inr other ↦ other ],
)

-- ---- all regions by their numbers

-- the image is what the regions leave, also behind the last one
pub record IsLeftAs (plexes : List PlexImage) (v : VolumeSeen) (w : Volume) (run : RunsAsVolume plexes v w) (image : Image) : Type 0 where
  pub leave : LeaveImage (states_of v run.fixed w.life.entries) image
  pub plexes_of : AreNamedIn image.plexes plexes
  pub length_is : image.length ≡ v.length
  pub region_is : image.region ≡ v.region
  pub filled : IsFilled image.state

pub is_below : (r n : ℕ) → r < n → nat_lt r n ≡ true
is_below r n lt = grind (arith, nat_tests)

from_below : (r n : ℕ) → nat_lt r n ≡ true → r < n
from_below r n h = grind (arith, nat_tests)

module _ (plexes : List PlexImage) (v : VolumeSeen) (w : Volume) (is : IsVolume v) (run : RunsAsVolume plexes v w) where
  abbrev n : ℕ
  n = length v.cells

  abbrev regions : Regions
  regions = states_of v run.fixed w.life.entries

  abbrev at : Regions
  at = state_at v run.fixed w.life.entries

  count_is : n ≡ region_count v.length v.region
  count_is = is.count

  first_below : 0 < n
  first_below =
      let h = below_count 0 v.length v.region run.sized run.some in
      subst (λ (m : ℕ). 0 < m) (sym count_is) (omega (arith, h))

  states_below : (r : ℕ) → r < n → regions r ≡ at r
  states_below r lt = ap (λ (b : Bool). cond b (at r) (at 0)) (is_below r n lt)

  -- what holds of each region of the volume holds of all
  of_all : (P : RegionState → Type 0) → ((r : ℕ) → r < n → P (at r)) → (r : ℕ) → P (regions r)
  of_all P each r =
      elim (true_or_false (nat_lt r n)) [
        | inl below ↦ subst (λ (b : Bool). P (cond b (at r) (at 0))) (sym below) (each r (from_below r n below))
        | inr beyond ↦ subst (λ (b : Bool). P (cond b (at r) (at 0))) (sym beyond) (each 0 first_below)
      ]

  kept_all : (r : ℕ) → IsKeptState (regions r)
  kept_all = of_all (λ (s : RegionState). IsKeptState s) (λ r lt. (run.each r lt).kept)

  block_below : (b : ℕ) → b < v.length → b / v.region < n
  block_below b lt = subst (λ (m : ℕ). b / v.region < m) (sym count_is) (below_count b v.length v.region run.sized lt)

  -- the volume of the world, of which anything may be said behind the last region
  abbrev clipped : Volume
  clipped =
      record w {
        life = record w.life { last = λ r. (regions r).around.last };
        dirty = λ r. cond (nat_lt r n) (w.dirty r) true;
        tracks = λ name. record { sure = λ r. nat_lt r n && (w.tracks name).sure r; possible = λ r. cond (nat_lt r n) ((w.tracks name).possible r) true };
      }

  clipped_possible : (set : ℕ → Bool) (s : ℕ → RegionState) (k : ℕ) → ((r : ℕ) → r < n → IsSeen (at r) k → set r ≡ true) →
      (r m : ℕ) → m < (regions r).around.fixed.copies → (regions r).around.disks.marks.shows m k ≡ true → cond (nat_lt r n) (set r) true ≡ true
  clipped_possible set s k goes r m lt shown =
      elim (true_or_false (nat_lt r n)) [
        | inr beyond ↦ ap (λ (b : Bool). cond b (set r) true) beyond
        | inl below ↦
            let at_r = from_below r n below in
            let same = states_below r at_r in
            ap (λ (b : Bool). cond b (set r) true) below
            ∙ goes r at_r ((run.each r at_r).kept.sound.bounded m k (subst (λ (s : RegionState). m < s.around.fixed.copies) same lt) (subst (λ (s : RegionState). s.around.disks.marks.shows m k ≡ true) same shown))
      ]

  module _ (sure_of : IsSureOfOthers plexes v w) (image : Image) (left : IsLeftAs plexes v w run image) where
    track_goes : (p : PlexImage) → Contains plexes p → GoWith regions p.map (clipped.tracks p.name).sure (clipped.tracks p.name).possible
    track_goes p one =
        record {
          sure = λ r h.
              let both = both_parts (nat_lt r n) ((w.tracks p.name).sure r) h in
              let lt = from_below r n both.0 in
              subst (λ (s : RegionState). has s.stage.bits p.map ≡ true) (sym (states_below r lt)) (((run.each r lt).tracks p one).sure (sure_of p one r lt both.1) both.1);
          possible = clipped_possible (w.tracks p.name).possible regions p.map (λ r lt seen. ((run.each r lt).tracks p one).possible seen);
        }

    runs_clipped : RunsAs image.plexes regions clipped
    runs_clipped =
        record {
          kept = kept_all;
          life = record {
            candidates = λ b lt.
                let lt' : b < v.length = subst (λ (m : ℕ). b < m) run.length_is lt in
                let quotient : b / w.region ≡ b / v.region = ap (λ (m : ℕ). b / m) run.region_is in
                let below : b / w.region < n = subst (λ (m : ℕ). m < n) (sym quotient) (block_below b lt') in
                subst (λ (s : RegionState). w.life.candidates b ≡ candidates_of s.around.fixed.first (told s.around) b) (sym (states_below (b / w.region) below)) ((run.each (b / w.region) below).candidates b lt refl);
            last = λ r. refl;
          };
          tracks = λ p one.
              let q = left.plexes_of p one in
              subst (λ (name : Word). GoWith regions p.map (clipped.tracks name).sure (clipped.tracks name).possible) q.2
              (subst (λ (k : ℕ). GoWith regions k (clipped.tracks q.0.name).sure (clipped.tracks q.0.name).possible) q.3 (track_goes q.0 q.1));
          dirty = clipped_possible w.dirty regions 30 (λ r lt seen. (run.each r lt).dirty seen);
        }

    image_below : (r : ℕ) → r < regions_of image → nat_lt r n ≡ true
    image_below r lt =
        is_below r n (subst (λ (m : ℕ). r < m) (sym count_is) (subst (λ (m : ℕ). r < region_count m v.region) left.length_is (subst (λ (m : ℕ). r < region_count image.length m) left.region_is lt)))

    unclipped : StandsForVolume image clipped → StandsForVolume image w
    unclipped stands =
        record {
          sound = stands.sound;
          candidates = stands.candidates;
          sure = λ p one r lt h. stands.sure p one r lt (ap (λ (b : Bool). b && (w.tracks p.name).sure r) (image_below r lt) ∙ h);
          possible = λ p one r lt some. sym (ap (λ (b : Bool). cond b ((w.tracks p.name).possible r) true) (image_below r lt)) ∙ stands.possible p one r lt some;
          dirty = λ r lt some. sym (ap (λ (b : Bool). cond b (w.dirty r) true) (image_below r lt)) ∙ stands.dirty r lt some;
        }

    pub stands_left : EachVolumeIsLeft → ((r : ℕ) → WasStarted image.state ⊎ ((regions r).stage.phase ≡ Settled)) → StandsForVolume image w
    stands_left law started =
        unclipped (law image regions clipped runs_clipped left.leave (left.length_is ∙ sym run.length_is) (left.region_is ∙ sym run.region_is) left.filled started)

    -- ---- one list

    module _ (settled : AreSettled v) where
      settled_all : (r : ℕ) → (regions r).stage.phase ≡ Settled
      settled_all = of_all (λ (s : RegionState). s.stage.phase ≡ Settled) settled

      abbrev the_list : Contents
      the_list b = (settled_begins (regions (b / image.region)) (kept_all (b / image.region)) (settled_all (b / image.region))).0 b

      -- a plex that is read is one of the regions', and unmarked
      plex_read : (r : ℕ) (p : PlexImage) → r < regions_of image → Contains image.plexes p → is_unmarked_by_some image r p.map || is_alone image ≡ true →
          (has (regions r).stage.bits p.map ≡ false) × IsPlexOfRegions image.length image.region regions p
      plex_read r p low one h =
          elim (or_cases (is_unmarked_by_some image r p.map) (is_alone image) h) [
            | inl some ↦ by_copy (one_from_any (λ (c : LogCopy). not (c r p.map)) image.copies some)
            | inr alone ↦
                let q = left.leave.current r (has (regions r).stage.bits) (record { least = λ k bit. bit; most = λ k bit. inl bit }) in
                let same : q.0 ≡ p = only_one image.plexes q.0 p (both_parts (has_no_copy image) (length image.plexes == 1) alone).1 q.1 one in
                (subst (λ (x : PlexImage). has (regions r).stage.bits x.map ≡ false) same q.2, subst (λ (x : PlexImage). IsPlexOfRegions image.length image.region regions x) same q.3)
          ]
        where
          not_true : (b : Bool) → not b ≡ true → b ≡ false
          not_true true h = cc
          not_true false h = refl

          by_copy : (c : LogCopy) × Contains image.copies c × (not (c r p.map) ≡ true) → (has (regions r).stage.bits p.map ≡ false) × IsPlexOfRegions image.length image.region regions p
          by_copy c =
              let clear : c.0 r p.map ≡ false = not_true (c.0 r p.map) c.2 in (
                elim (true_or_false (has (regions r).stage.bits p.map)) [
                  | inr none ↦ none
                  | inl bit ↦
                      elim (true_or_false (regions r).stage.logged) [
                        | inr plain ↦ ((kept_all r).form.stage.unlogged plain p.map).2
                        | inl log ↦
                            let copy = left.leave.copies c.0 c.1 in
                            let shows = copy.logged r log in
                            not_both (shows.1 p.map ∙ (kept_all r).sound.shown copy.copy p.map shows.0 bit) clear
                      ]
                ],
                elim (left.leave.plexes p one) [ inl of ↦ of | inr new ↦ not_both (new c.0 c.1 r low) clear ],
              )

      read_of : (state : VolState) (r : ℕ) (p : PlexImage) → IsFilled state → Contains (plexes_read state image r) p → Contains image.plexes p × (is_read image r p ≡ true)
      read_of vol.Empty r p was one = absurd was
      read_of vol.Clean r p was one = from_filter (is_read image r) image.plexes p one
      read_of vol.Active r p was one = from_filter (is_read image r) image.plexes p one
      read_of vol.NeedSync r p was one = from_filter (is_read image r) image.plexes p one
      read_of vol.Sync r p was one = from_filter (is_read image r) image.plexes p one

      one_list : ReadsOneList image w.life.candidates the_list
      one_list =
          record {
            among = λ b lt.
                let r = b / image.region in
                let lives = runs_clipped.life.candidates b (subst (λ (m : ℕ). b < m) (left.length_is ∙ sym run.length_is) lt) in
                let quotient : b / w.region ≡ r = ap (λ (m : ℕ). b / m) (run.region_is ∙ sym left.region_is) in
                let same : w.life.candidates b ≡ candidates_of (regions r).around.fixed.first (told (regions r).around) b =
                subst (λ (m : ℕ). w.life.candidates b ≡ candidates_of (regions m).around.fixed.first (told (regions m).around) b) quotient lives in
                subst (λ (values : Values). IsAmong values (the_list b)) (sym same) ((settled_begins (regions r) (kept_all r) (settled_all r)).1.among b);
            reads = λ b lt p one.
                let r = b / image.region in
                let read = read_of image.state r p left.filled one in
                let parts = both_parts (is_available p) (is_unmarked_by_some image r p.map || is_alone image) read.1 in
                let held = (both_parts p.held (is_available_state p.state) parts.0).0 in
                let low = below_count b image.length image.region left.leave.sized lt in
                let x = plex_read r p low read.0 parts.1 in
                x.1.values held b lt ∙ (settled_begins (regions r) (kept_all r) (settled_all r)).1.hold p.map b (x.1.held r held, x.0);
          }

      pub stands_settled : EachVolumeIsLeft → StandsForVolume image w × (list : Contents) × ReadsOneList image w.life.candidates list
      stands_settled law = (stands_left law (λ r. inr (settled_all r)), the_list, one_list)

-- ---- an image, and the same with its copies told by the regions

list_any-map : {X Y : Type 0} (test : Y → Bool) (f : X → Y) (xs : List X) → list_any test (map f xs) ≡ list_any (λ x. test (f x)) xs
list_any-map test f [] = refl
list_any-map test f (x ∷ xs) = ap (λ (b : Bool). test (f x) || b) (list_any-map test f xs)

module _ (n : ℕ) (image : Image) (counts : (r : ℕ) → r < regions_of image → nat_lt r n ≡ true) where
  abbrev seen : Image
  seen = told_by n image

  abbrev turned : LogCopy → LogCopy
  turned c r = c (cond (nat_lt r n) r 0)

  all_as : (r k : ℕ) → r < regions_of image → is_marked_by_all seen r k ≡ is_marked_by_all image r k
  all_as r k low = list_all-map (λ (c : LogCopy). c r k) turned image.copies ∙ ap (λ (b : Bool). list_all (λ (c : LogCopy). c (cond b r 0) k) image.copies) (counts r low)

  some_as : (r k : ℕ) → r < regions_of image → is_marked_by_some seen r k ≡ is_marked_by_some image r k
  some_as r k low = list_any-map (λ (c : LogCopy). c r k) turned image.copies ∙ ap (λ (b : Bool). list_any (λ (c : LogCopy). c (cond b r 0) k) image.copies) (counts r low)

  clear_as : (r k : ℕ) → r < regions_of image → is_unmarked_by_some seen r k ≡ is_unmarked_by_some image r k
  clear_as r k low = list_any-map (λ (c : LogCopy). not (c r k)) turned image.copies ∙ ap (λ (b : Bool). list_any (λ (c : LogCopy). not (c (cond b r 0) k)) image.copies) (counts r low)

  alone_as : is_alone seen ≡ is_alone image
  alone_as = ap (λ (m : ℕ). (m == 0) && (length image.plexes == 1)) (length-map image.copies turned)

  read_as : (r : ℕ) (p : PlexImage) → r < regions_of image → is_read seen r p ≡ is_read image r p
  read_as r p low = ap (λ (b : Bool). is_available p && (b || is_alone seen)) (clear_as r p.map low) ∙ ap (λ (b : Bool). is_available p && (is_unmarked_by_some image r p.map || b)) alone_as

  by_filter : (r : ℕ) (p : PlexImage) → r < regions_of image → Contains (filter (is_read image r) image.plexes) p → Contains (filter (is_read seen r) image.plexes) p
  by_filter r p low one = let h = from_filter (is_read image r) image.plexes p one in into_filter (is_read seen r) image.plexes p h.0 (read_as r p low ∙ h.1)

  read_still : (state : VolState) (r : ℕ) (p : PlexImage) → r < regions_of image → Contains (plexes_read state image r) p → Contains (plexes_read state seen r) p
  read_still vol.Empty r p low one = one
  read_still vol.Clean r p low one = by_filter r p low one
  read_still vol.Active r p low one = by_filter r p low one
  read_still vol.NeedSync r p low one = by_filter r p low one
  read_still vol.Sync r p low one = by_filter r p low one

  dirty_still : (B : ℕ → Bool) → IsDirtyBy seen B → IsDirtyBy image B
  dirty_still B h = record { dirty = h.dirty; stale = h.stale }

  differ_still : (state : VolState) (B : ℕ → Bool) → MayDiffer state seen B → MayDiffer state image B
  differ_still vol.Empty B h = h
  differ_still vol.Clean B h = h
  differ_still vol.Active B h = dirty_still B h
  differ_still vol.NeedSync B h = dirty_still B h
  differ_still vol.Sync B h = dirty_still B h

  sound_still : IsSoundImage seen → IsSoundImage image
  sound_still sound r B low choice =
      let by = sound r B low (record { least = λ k all. choice.least k (sym (all_as r k low) ∙ all); most = λ k chosen. some_as r k low ∙ choice.most k chosen }) in
      record {
        unmarked = by.unmarked;
        agree = elim by.agree [ inl agree ↦ inl agree | inr differ ↦ inr (differ_still image.state B differ) ];
        tracked = by.tracked;
      }

  module _ (sized : 0 < image.region) where
    stands_still : (w : Volume) → StandsForVolume seen w → StandsForVolume image w
    stands_still w stands =
        record {
          sound = sound_still stands.sound;
          candidates = λ b lt p one. stands.candidates b lt p (read_still image.state (b / image.region) p (below_count b image.length image.region sized lt) one);
          sure = λ p one r low h. sym (all_as r p.map low) ∙ stands.sure p one r low h;
          possible = λ p one r low some. stands.possible p one r low (some_as r p.map low ∙ some);
          dirty = λ r low some. stands.dirty r low (some_as r 30 low ∙ some);
        }

    list_still : (candidates : Candidates) (list : Contents) → ReadsOneList seen candidates list → ReadsOneList image candidates list
    list_still candidates list old =
        record {
          among = old.among;
          reads = λ b lt p one. old.reads b lt p (read_still image.state (b / image.region) p (below_count b image.length image.region sized lt) one);
        }

module _ (plexes : List PlexImage) (v : VolumeSeen) (w : Volume) (is : IsVolume v) (run : RunsAsVolume plexes v w) (image : Image) (left : IsLeftBy plexes v w run image) where
  counted : (r : ℕ) → r < regions_of image → nat_lt r (length v.cells) ≡ true
  counted r lt =
      is_below r (length v.cells) (subst (λ (m : ℕ). r < m) (sym is.count) (subst (λ (m : ℕ). r < region_count m v.region) left.length_is (subst (λ (m : ℕ). r < region_count image.length m) left.region_is lt)))

  left_as : IsLeftAs plexes v w run (told_by (length v.cells) image)
  left_as = record { leave = left.leave; plexes_of = left.plexes_of; length_is = left.length_is; region_is = left.region_is; filled = left.filled }

  sized_image : 0 < image.region
  sized_image = left.leave.sized

pub each_leaving_stands : EachVolumeIsLeft → EachLeavingStands
each_leaving_stands law plexes v w is run sure_of image left started =
    stands_still (length v.cells) image (counted plexes v w is run image left) (sized_image plexes v w is run image left) w
    (stands_left plexes v w is run sure_of (told_by (length v.cells) image) (left_as plexes v w is run image left) law (λ r. inl started))

pub each_stop_stands : EachVolumeIsLeft → EachStopStands
each_stop_stands law plexes v w is run sure_of settled image left =
    let all = stands_settled plexes v w is run sure_of (told_by (length v.cells) image) (left_as plexes v w is run image left) settled law in
    let counts = counted plexes v w is run image left in
    let sized = sized_image plexes v w is run image left in
    (stands_still (length v.cells) image counts sized w all.0, all.1, list_still (length v.cells) image counts sized w.life.candidates all.1 all.2)

-- ---- a pass that settles

settled_by : {T : Type 0} (result : Result T CellFault) (phase : Phase) → (let o : Option CellFault = None in o) ≡ stop_of result → LeavesPhase result phase → phase ≡ Settled
settled_by (Ok value) phase done leaves = leaves
settled_by (Err fault) phase done leaves = cc

lost_not : {T : Type 0} (result : Result T CellFault) → (let o : Option CellFault = None in o) ≡ stop_of result → result ≡ Err cell.PowerLost → ⊥
lost_not (Ok value) done lost = cc
lost_not (Err fault) done lost = cc

settles_done : (n : ℕ) (old new : VolumeSeen) → AreDone Settles n old new → (r : ℕ) → r < n → (cell_at new r).stage.phase ≡ Settled
settles_done zero old new done r lt = absurd (omega (arith, lt))
settles_done (suc n) old new done r lt =
    let step = done.2 in
    let job = step.goes in
    let before = settles_done n old done.0 done.1 in
    elim (cases_eq r n) [
      | inl same ↦ subst (λ (m : ℕ). (cell_at new m).stage.phase ≡ Settled) (sym same) (settled_by job.result (cell_at new n).stage.phase job.stopped (job.ends.ended.ended (λ dead. lost_not job.result job.stopped (job.ends.ended.dead dead).answer)).phase)
      | inr apart ↦ ap (λ (c : CellSeen). c.stage.phase) (step.others r apart) ∙ before r (less r n lt apart)
    ]
  where
    less : (r n : ℕ) → r < suc n → r ≢ n → r < n
    less r n lt apart = grind (arith)

pub each_settling_settles : EachSettlingSettles
each_settling_settles old new u ends r lt = settles_done (length old.cells) old new ends.0 r (subst (λ (m : ℕ). r < m) (count_kept (length old.cells) old new ends.0) lt)
  where
    count_kept : (n : ℕ) (old new : VolumeSeen) → AreDone Settles n old new → length new.cells ≡ length old.cells
    count_kept n old new done = done_keeps Settles (λ (v : VolumeSeen). length v.cells) (λ n stop a b step. step.count) n old new done
