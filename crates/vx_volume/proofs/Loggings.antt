-- A volume of one plex that was given another log: it is one as before, and its regions stand for the histories that they stood for.
use Rattle.std.proofs.Common.{◌≡◌, ℕ, ◌-◌, ◌<◌, ◌≤◌, Bool, true, false, if◌then◌else◌, refl, sym, ◌∙◌, ap, subst, inl, inr, arith, List, [], ◌∷◌, length}
use Rattle.std.specs.Prelude.{◌==◌, ◌||◌}
use Rattle.std.proofs.lemmas.Bool.{cases_eq}
use Rattle.vx_base.specs.Blocks.{is_in}
use Rattle.vx_life.specs.Entry.{Entry}
use Rattle.vx_mask.specs.Mask.{has, only, union}
use Rattle.vx_mask.proofs.MaskLemmas.{has-only_other, has-only_same, has-zero, only-lt, same_as_only}
use Rattle.vx_mask.proofs.Sets.{union_cases}
use Rattle.vx_mask.proofs.Tests.{not_both}
use Rattle.vx_core.specs.declared.stage.Stage.{Stage}
use Rattle.vx_core.specs.declared.stage.Phase.{Phase}
use Rattle.vx_core.specs.Form.{IsFormed, IsStage}
use Rattle.vx_core.specs.History.{NoCall}
use Rattle.vx_core.specs.Region.{Around, Fixed}
use Rattle.vx_core.specs.Schedule.{IsIdle}
use Rattle.vx_core.specs.Soundness.{MayHold}
use Rattle.vx_core.proofs.Ends.{IsSoundAtEnds, ends_from_sound, sound_from_ends}
use Rattle.vx_core.proofs.ScheduleLaws.{idle_contents}
use Rattle.vx_marks.specs.Log.{LogSeen}
use Rattle.vx_pages.specs.Items.{EachItem, item_at}
use Rattle.vx_piece.specs.Seen.{Seen}
use Rattle.vx_cell.specs.Changes.{CellSeen, IsRenewed, first_as_zero, stage_alone}
use Rattle.vx_cell.specs.Plexes.{AllCover, AllTell, MapsDiffer, PlexSeen, blocks_of, contents_of, holds}
use Rattle.vx_cell.specs.Region.{IsLogOf, IsTold, IsWhole, StandsFor, marks_or, state_of}
use Rattle.vx_cell.proofs.Changes.{other_number, same_test}
use Rattle.vx_volume.specs.Laws.{EachLogChangeStands, EachLogChangeTells, with_log_of}
use Rattle.vx_volume.specs.Logging.{IsAlone, IsAloneIn, IsNewLogFor}
use Rattle.vx_volume.specs.Volume.{IsCellOf, IsVolume, VolumeSeen, cell_at, no_cell, with_log}
use Rattle.vx_volume.proofs.Wholes.{idle_form, idle_freeing, idle_marked}

-- ---- one plex, as number 0

abbrev one : ℕ → List Seen → List PlexSeen
one map pieces = record { map = map; pieces = pieces } ∷ []

pub zero_on : has (only 0) 0 ≡ true
zero_on = has-only_same 0 (omega arith)

holds_zero : (pieces : List Seen) (k : ℕ) → holds (one 0 pieces) k ≡ has (only 0) k
holds_zero pieces k =
    elim (cases_eq k 0) [
      | inl e ↦ subst (λ (n : ℕ). holds (one 0 pieces) n ≡ has (only 0) n) (sym e) (sym zero_on)
      | inr apart ↦ ap (λ (b : Bool). b || false) (other_number 0 k (λ e. apart (sym e))) ∙ sym (has-only_other 0 k apart)
    ]

as_zero : (map : ℕ) (c : CellSeen) (alone : IsAloneIn map c) → first_as_zero c.plexes ≡ one 0 alone.pieces
as_zero map c alone = ap first_as_zero alone.plexes

pub holds_alone : (map : ℕ) (c : CellSeen) → IsAloneIn map c → (k : ℕ) → holds (first_as_zero c.plexes) k ≡ has (only 0) k
holds_alone map c alone k = ap (λ (ps : List PlexSeen). holds ps k) (as_zero map c alone) ∙ holds_zero alone.pieces k

contents_alone : (map : ℕ) (pieces : List Seen) (i : ℕ) → contents_of (one map pieces) map i ≡ contents_of (one 0 pieces) 0 i
contents_alone map pieces i = let test : (map == map) ≡ true = same_test map in rw test refl

blocks_alone : (start size map : ℕ) (c : CellSeen) (i : ℕ) → IsAloneIn map c → blocks_of start size c.plexes map i ≡ blocks_of start size (first_as_zero c.plexes) 0 i
blocks_alone start size map c i alone =
    subst (λ (ps : List PlexSeen). blocks_of start size ps map i ≡ blocks_of start size (first_as_zero ps) 0 i) (sym alone.plexes)
    (ap (λ (x : List ℕ). if is_in start size i then x else []) (contents_alone map alone.pieces (i - start)))

cover_zero : (size : ℕ) (ps : List PlexSeen) → AllCover size ps → AllCover size (first_as_zero ps)
cover_zero size [] cover = tt
cover_zero size (p ∷ ps) cover = cover

tell_zero : (ps : List PlexSeen) → AllTell ps → AllTell (first_as_zero ps)
tell_zero [] tells = tt
tell_zero (p ∷ ps) tells = tells

-- ---- the stage

module _ (logged : Bool) (s : Stage) (held : ℕ → Bool) (is : (k : ℕ) → held k ≡ has (only 0) k) where
  stage_formed : IsStage (stage_alone logged s) held
  stage_formed =
      record {
        on_fits = only-lt 0;
        off_fits = omega arith;
        snaps_fit = omega arith;
        bits_fit = omega arith;
        off_apart = λ k on. has-zero k;
        snaps_apart = λ k on. has-zero k;
        off_snaps = λ k off. has-zero k;
        dirty_apart = (has-only_other 0 30 (λ e. absurd (omega (arith, e))), has-zero 30, has-zero 30);
        held_on = λ k on. is k ∙ on;
        plexes = λ k there. inl (sym (is k) ∙ there);
        alone = λ plain j k on_j on_k. same_as_only 0 j on_j ∙ sym (same_as_only 0 k on_k);
        unlogged = λ plain k. (has-zero k, has-zero k, has-zero k);
      }

  formed_alone : (phase : Phase) → IsIdle phase → IsFormed (stage_alone logged s) phase held
  formed_alone phase idle =
      record {
        stage = stage_formed;
        readable = (0, zero_on, has-zero 0, idle_freeing phase 0 idle);
        step = idle_form (stage_alone logged s) phase idle;
        marked = idle_marked (stage_alone logged s) phase idle;
      }

log_alone : (log : LogSeen) (region : ℕ) (s : Stage) → log.there ≡ true → log.has_region region ≡ true → 30 < log.maps → IsLogOf log region (stage_alone log.there s)
log_alone log region s there known maps =
    record {
      there = there;
      known = known;
      maps = λ k bit.
          elim (union_cases (union (only 0) 0) 0 k bit) [
            | inr none ↦ not_both none (has-zero k)
            | inl plex ↦ elim (union_cases (only 0) 0 k plex) [ inr none ↦ not_both none (has-zero k) | inl here ↦ (let e = same_as_only 0 k here in omega (arith, e, maps)) ]
          ];
      dirty = maps;
    }

-- ---- a volume

abbrev renewed : Bool → CellSeen → CellSeen
renewed logged c = record c { stage = stage_alone logged c.stage; plexes = first_as_zero c.plexes }

whole_renewed : (map : ℕ) (c : CellSeen) (was log : LogSeen) → IsIdle c.stage.phase → IsAloneIn map c → (log.there ≡ true → log.has_region c.region ≡ true) → (log.there ≡ true → 30 < log.maps) → IsWhole (with_log c was) →
    IsWhole (with_log (renewed log.there c) log)
whole_renewed map c was log idle alone known maps w =
    record {
      formed = formed_alone log.there c.stage (holds (first_as_zero c.plexes)) (holds_alone map c alone) c.stage.phase idle;
      differ = subst (λ (ps : List PlexSeen). MapsDiffer ps) (sym (as_zero map c alone)) (refl, tt);
      cover = cover_zero c.size c.plexes w.cover;
      some = w.some;
      fits = w.fits;
      logged = λ there. log_alone log c.region c.stage there (known there) (maps there);
    }

module _ (map : ℕ) (log : LogSeen) (v : VolumeSeen) (cells : List CellSeen) (alone : IsAlone map v) (fresh : IsNewLogFor log v) where
  abbrev now : VolumeSeen
  now = record v { cells = cells; log = log }

  cell_renewed : (r : ℕ) → r < length v.cells → IsRenewed log.there (cell_at v r) (item_at no_cell cells r) → IsCellOf v r → IsCellOf now r
  cell_renewed r lt is c =
      record {
        index = ap (λ (x : CellSeen). x.region) is ∙ c.index;
        start = ap (λ (x : CellSeen). x.start) is ∙ c.start;
        size = ap (λ (x : CellSeen). x.size) is ∙ c.size;
        idle = subst (λ (x : CellSeen). IsIdle x.stage.phase) (sym is) c.idle;
        whole =
            subst (λ (x : CellSeen). IsWhole (with_log x log)) (sym is)
            (whole_renewed map (cell_at v r) v.log log c.idle (alone r lt) (λ there. subst (λ (n : ℕ). log.has_region n ≡ true) (sym c.index) (fresh.known there r lt)) fresh.maps c.whole);
        below = subst (λ (x : CellSeen). x.number ≤ v.most) (sym is) c.below;
      }

  pub volume_renewed : EachItem no_cell (λ r. IsRenewed log.there) v.cells cells → IsVolume v → IsVolume now
  volume_renewed each w =
      record {
        count = each.size ∙ w.count;
        each = λ r lt. let inside : r < length v.cells = subst (λ (n : ℕ). r < n) each.size lt in cell_renewed r inside (each.each r inside) (w.each r inside);
        own = fresh.own;
        scratch = w.scratch;
      }

-- ---- histories

module _ (map : ℕ) (c : CellSeen) (was log : LogSeen) (idle : IsIdle c.stage.phase) (alone : IsAloneIn map c) (shows : (n k : ℕ) → (marks_or log.told c.region).shows n k ≡ false)
    (loose : (k : ℕ) → (marks_or log.told c.region).loose k ≡ false) (fixed : Fixed) (entries : List Entry) (stood : StandsFor (with_log c was) fixed entries NoCall) where
  abbrev around_was : Around
  around_was = (state_of (with_log c was) fixed entries NoCall c.number).around

  abbrev around_now : Around
  around_now = (state_of (with_log (renewed log.there c) log) (with_log_of log fixed) entries NoCall c.number).around

  ends : IsSoundAtEnds c.stage c.stage.phase around_was
  ends = ends_from_sound stood.sound

  -- the plex is unmarked, since some plex that is on is, and it is the only one
  unmarked : has c.stage.bits map ≡ false
  unmarked = subst (λ (k : ℕ). has c.stage.bits k ≡ false) (alone.others ends.readable.0 ends.readable.1) ends.readable.2.bits

  held_zero : (i : ℕ) → MayHold around_now i (around_now.disks.blocks 0 i)
  held_zero i = subst (λ (x : List ℕ). MayHold around_was i x) (blocks_alone c.start c.size map c i alone) (ends.candidates map i (stood.form.stage.held_on map alone.on, unmarked))

  ends_now : IsSoundAtEnds (stage_alone log.there c.stage) c.stage.phase around_now
  ends_now =
      record {
        shown = λ n k few bit. not_both bit (has-zero k);
        bounded = λ n k few shown. not_both shown (shows n k);
        readable = (0, zero_on, record { bits = has-zero 0; loose = loose 0; freeing = idle_freeing c.stage.phase 0 idle });
        candidates = λ k i u. subst (λ (n : ℕ). MayHold around_now i (around_now.disks.blocks n i)) (sym (same_as_only 0 k u.0)) (held_zero i);
        agree = inl (λ j k i at_j at_k. ap (λ (n : ℕ). around_now.disks.blocks n i) (same_as_only 0 j at_j.0 ∙ sym (same_as_only 0 k at_k.0)));
        tracked = λ m k i snap out u. not_both snap (has-zero m);
        marked = idle_marked (stage_alone log.there c.stage) c.stage.phase idle;
      }

  stands_renewed : StandsFor (with_log (renewed log.there c) log) (with_log_of log fixed) entries NoCall
  stands_renewed =
      record {
        form = formed_alone log.there c.stage (has (only 0)) (λ k. refl) c.stage.phase idle;
        apart = λ k h. not_both h (loose k);
        sound = sound_from_ends ends_now;
        call = stood.call;
        contents = idle_contents (stage_alone log.there c.stage) c.stage.phase NoCall around_now.disks.blocks idle;
        history = stood.history;
      }

pub log_change_stands : EachLogChangeStands
log_change_stands map log old new changes volume alone nothing fixed entries stood r lt =
    let inside : r < length old.cells = subst (λ (n : ℕ). r < n) changes.cells.size lt in
    let c = volume.each r inside in
    let is : new.log ≡ log = ap (λ (v : VolumeSeen). v.log) changes.same in
    subst (λ (l : LogSeen). StandsFor (with_log (cell_at new r) l) (with_log_of log (fixed r)) (entries r) NoCall) (sym is)
    (subst (λ (x : CellSeen). StandsFor (with_log x log) (with_log_of log (fixed r)) (entries r) NoCall) (sym (changes.cells.each r inside))
    (stands_renewed map (cell_at old r) old.log log c.idle (alone r inside)
    (λ n k. subst (λ (m : ℕ). (marks_or log.told m).shows n k ≡ false) (sym c.index) (nothing.shows r n k inside))
    (λ k. subst (λ (m : ℕ). (marks_or log.told m).loose k ≡ false) (sym c.index) (nothing.loose r k inside)) (fixed r) (entries r) (stood r inside)))

pub log_change_tells : EachLogChangeTells
log_change_tells log old new changes tells told r lt =
    let inside : r < length old.cells = subst (λ (n : ℕ). r < n) changes.cells.size lt in
    let is : new.log ≡ log = ap (λ (v : VolumeSeen). v.log) changes.same in
    subst (λ (l : LogSeen). IsTold (with_log (cell_at new r) l)) (sym is)
    (subst (λ (x : CellSeen). IsTold (with_log x log)) (sym (changes.cells.each r inside)) (tell_zero (cell_at old r).plexes (told r inside).0, tells))
