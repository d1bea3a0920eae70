-- Pieces go on by copies of a log that were taken out of them.
use Rattle.std.proofs.Common.{◌≡◌, ℕ, zero, suc, ◌+◌, ◌-◌, ◌^◌, ◌<◌, ◌≤◌, ◌||◌, min, Bool, true, false, cond, List, [], ◌∷◌, ◌++◌, Option, Some, None, refl, sym, ap, ◌∙◌, subst, arith, append_assoc}
use Rattle.std.specs.Prelude.{is_some, nat_lt, if◌then◌else◌}
use Rattle.std.specs.List.{list_any, sum_by, All}
use Rattle.std.proofs.lemmas.Bool.{false≢true, le-ltb, lt-ltb}
use Rattle.std.proofs.lemmas.List.Sums.{sum_by-append, sum_by-cons}
use Rattle.std.proofs.lemmas.List.Elements.{All-nil, All-cons, All-head, All-tail, All-append, All-weaker}
use Rattle.vx_base.specs.Blocks.{Contents}
use Rattle.vx_piece.specs.Seen.{Seen}
use Rattle.vx_runs.specs.Part.{Tells}
use Rattle.vx_runs.specs.Run.{EachPiece, RunTells}
use Rattle.vx_cut.proofs.Parts.{all_parts}
use Rattle.vx_carve.specs.Together.{AreOnce, HasSome, Holds, HoldsTold, SameSectors, covers, cut_of, faults_of, has, owners, reads_of, writes_of}
use Rattle.vx_carve.proofs.Same.{same_beside, same_refl, same_trans}
use Rattle.vx_cell.specs.Plexes.{PlexSeen}
use Rattle.vx_fronts.specs.Rests.{AllTell, IsTelling, is_of, sector_in}
use Rattle.vx_fronts.proofs.Sectors.{any_same, is_one, none_counted, once_kept, own_told, sector_from, sector_none}
use Rattle.vx_maps.specs.Copies.{SameRuns}
use Rattle.vx_maps.specs.Creating.{AllTell as EachTells}
use Rattle.vx_maps.specs.Going.{CopiesGo, CutCopiesGo}
use Rattle.vx_pages.specs.Sector.{KeepsPiece}
use Rattle.vx_lending.specs.RegionPieces.{all_pieces}
use Rattle.vx_lending.specs.Going.{GoTogether}
use Rattle.vx_lending.specs.Pieces.{copy_pieces}
use Rattle.vx_lending.proofs.Goings.{cut_go, go_beside, go_from, go_same, go_then}
use Rattle.vx_group_start.specs.Laws.{CopiesChangeContents, CopiesChangeTheirOwn, CopiesCountTheirOwn, CopiesGoAmong, CopiesGoBeside, CopiesGoTogether}
use Rattle.vx_group_start.specs.Together.{GoByCopies}

-- ---- among others

pub three : (ps qs rs ss : List Seen) → ((ps ++ (qs ++ rs)) ++ ss) ≡ ps ++ (qs ++ (rs ++ ss))
three ps qs rs ss = append_assoc ps (qs ++ rs) ss ∙ ap (λ (xs : List Seen). ps ++ xs) (append_assoc qs rs ss)

unfoldable pub beside : CopiesGoBeside
beside copies old new others g = record {
  regions = g.regions;
  later = g.later;
  rest = g.rest ++ others;
  some = g.some;
  taken = subst (λ (xs : List Seen). SameSectors (old ++ others) xs) (three (all_pieces g.regions) (copy_pieces copies) g.rest others) (same_beside others _ _ g.taken);
  cut = g.cut;
  back = subst (λ (xs : List Seen). SameSectors xs (new ++ others)) (three (all_pieces g.regions) (copy_pieces g.later) g.rest others) (same_beside others _ _ g.back);
}

unfoldable pub among : CopiesGoAmong
among copies old new ps qs before g after = record {
  regions = g.regions;
  later = g.later;
  rest = g.rest;
  some = g.some;
  taken = same_trans _ _ _ before g.taken;
  cut = g.cut;
  back = same_trans _ _ _ g.back after;
}

-- copies that were cut and called come back with the regions
unfoldable pub come_back : (regions : List (List PlexSeen)) (copies later : List (List Seen)) (rest new : List Seen) → All HasSome (copy_pieces copies) → CutCopiesGo KeepsPiece copies later → SameSectors ((all_pieces regions ++ copy_pieces later) ++ rest) new →
    GoByCopies copies ((all_pieces regions ++ copy_pieces copies) ++ rest) new
come_back regions copies later rest new some cut same = record {
  regions = regions;
  later = later;
  rest = rest;
  some = some;
  taken = subst (λ (xs : List Seen). SameSectors ((all_pieces regions ++ copy_pieces copies) ++ rest) xs) (append_assoc (all_pieces regions) (copy_pieces copies) rest) (same_refl ((all_pieces regions ++ copy_pieces copies) ++ rest));
  cut = cut;
  back = subst (λ (xs : List Seen). SameSectors xs new) (append_assoc (all_pieces regions) (copy_pieces later) rest) same;
}

-- ---- sectors that no piece has, and counts of others

lacks : (device k : ℕ) (ps : List Seen) → list_any (covers device k) ps ≡ false → owners device k ps ≡ 0
lacks device k [] none = refl
lacks device k (p ∷ ps) none = by (covers device k p) refl none (λ e. lacks device k ps e)
  where
    by : (b : Bool) → covers device k p ≡ b → (b || list_any (covers device k) ps) ≡ false → (list_any (covers device k) ps ≡ false → owners device k ps ≡ 0) → owners device k (p ∷ ps) ≡ 0
    by true e any rest = absurd (false≢true (sym any))
    by false e any rest =
        let here : has device k p ≡ 0 = ap {B = ℕ} (λ b. cond b 1 0) e in
        let there = rest any in
        let sum = sum_by-cons (has device k) p ps in
        omega (arith, here, there, sum)

-- pieces that count nothing are taken for others that do not
counted_same : (f : Seen → ℕ) (most : ℕ) (rs cs ds ss : List Seen) → sum_by f cs ≡ 0 → sum_by f ds ≡ 0 → min (sum_by f (rs ++ (ds ++ ss))) most ≡ min (sum_by f (rs ++ (cs ++ ss))) most
counted_same f most rs cs ds ss none none' =
    let a = sum_by-append f rs (ds ++ ss) in
    let b = sum_by-append f ds ss in
    let c = sum_by-append f rs (cs ++ ss) in
    let d = sum_by-append f cs ss in
    let same : sum_by f (rs ++ (ds ++ ss)) ≡ sum_by f (rs ++ (cs ++ ss)) = omega (arith, a, b, c, d, none, none') in
    ap (λ n. min n most) same

-- ---- pieces that tell

some_tells : (o : Option Contents) → is_some o ≡ true → Tells o
some_tells None some = absurd (false≢true some)
some_tells (Some told) some = tt

tells_some : (o : Option Contents) → Tells o → is_some o ≡ true
tells_some None tells = absurd tells
tells_some (Some told) tells = refl

pub holding : (c : ℕ → Contents) (p : Seen) → Holds c p → IsTelling p
holding c p holds = by p.told holds
  where
    by : (o : Option Contents) → HoldsTold c p.device p.start p.sectors o → is_some o ≡ true
    by None h = absurd h
    by (Some told) h = refl

run_tells : (ps : List Seen) → AllTell ps → RunTells ps
run_tells [] tells = tt
run_tells (p ∷ ps) tells = (some_tells p.told (All-head IsTelling p ps tells), run_tells ps (All-tail IsTelling p ps tells))

-- so do the copies of which all pieces do
pub copies_told : (copies : List (List Seen)) → AllTell (copy_pieces copies) → EachTells copies
copies_told [] tells = tt
copies_told (x ∷ xs) tells = let both = all_parts IsTelling x (copy_pieces xs) tells in (run_tells x both.0, copies_told xs both.1)

all_tell : (ps : List Seen) → RunTells ps → AllTell ps
all_tell [] tells = All-nil IsTelling
all_tell (p ∷ ps) tells = All-cons IsTelling p ps (tells_some p.told tells.0) (all_tell ps tells.1)

each_tells : (ps qs : List Seen) → EachPiece KeepsPiece ps qs → AllTell ps → AllTell qs
each_tells [] [] go tells = All-nil IsTelling
each_tells [] (q ∷ qs) go tells = absurd go
each_tells (p ∷ ps) [] go tells = absurd go
each_tells (p ∷ ps) (q ∷ qs) go tells = All-cons IsTelling q qs (go.0.tells ∙ All-head IsTelling p ps tells) (each_tells ps qs go.1 (All-tail IsTelling p ps tells))

runs_tell : (xs ys : List (List Seen)) → SameRuns xs ys → AllTell (copy_pieces xs) → AllTell (copy_pieces ys)
runs_tell [] [] same tells = All-nil IsTelling
runs_tell [] (y ∷ ys) same tells = absurd same
runs_tell (x ∷ xs) [] same tells = absurd same
runs_tell (x ∷ xs) (y ∷ ys) same tells =
    let both = all_parts IsTelling x (copy_pieces xs) tells in
    All-append IsTelling y (copy_pieces ys) (all_tell y (same.0.tells (run_tells x both.0))) (runs_tell xs ys same.1 both.1)

copies_tell : (xs ys : List (List Seen)) → CopiesGo KeepsPiece xs ys → AllTell (copy_pieces xs) → AllTell (copy_pieces ys)
copies_tell [] [] go tells = All-nil IsTelling
copies_tell [] (y ∷ ys) go tells = absurd go
copies_tell (x ∷ xs) [] go tells = absurd go
copies_tell (x ∷ xs) (y ∷ ys) go tells =
    let both = all_parts IsTelling x (copy_pieces xs) tells in
    All-append IsTelling y (copy_pieces ys) (each_tells x y go.0 both.0) (copies_tell xs ys go.1 both.1)

-- ---- what pieces hold

hold_as : (c c' : ℕ → Contents) (device start count : ℕ) (o : Option Contents) → ((k : ℕ) → k < count → c' device (start + k) ≡ c device (start + k)) → HoldsTold c device start count o → HoldsTold c' device start count o
hold_as c c' device start count None same h = h
hold_as c c' device start count (Some told) same h = λ k lt. h k lt ∙ sym (same k lt)

-- they hold a part of all contents that are the same in their sectors
pub all_hold_as : (c c' : ℕ → Contents) (ps : List Seen) → ((device k : ℕ) → 1 ≤ owners device k ps → c' device k ≡ c device k) → All (Holds c) ps → All (Holds c') ps
all_hold_as c c' [] same holds = All-nil (Holds c')
all_hold_as c c' (p ∷ ps) same holds =
    All-cons (Holds c') p ps
    (hold_as c c' p.device p.start p.sectors p.told
    (λ k lt. same p.device (p.start + k) (let one = is_one p k lt in let sum = sum_by-cons (has p.device (p.start + k)) p ps in omega (arith, one, sum)))
    (All-head (Holds c) p ps holds))
    (all_hold_as c c' ps (λ device k le. same device k (let sum = sum_by-cons (has device k) p ps in omega (arith, le, sum))) (All-tail (Holds c) p ps holds))

-- what these pieces hold in their sectors, and else the contents
abbrev over : List Seen → (ℕ → Contents) → ℕ → Contents
over ls contents device k = if nat_lt 0 (owners device k ls) then sector_in ls device k else contents device k

over_own : (ls : List Seen) (contents : ℕ → Contents) → AreOnce ls → AllTell ls → All (Holds (over ls contents)) ls
over_own ls contents once tells = all_hold_as (sector_in ls) (over ls contents) ls (λ device k le. ap (λ b. cond b (sector_in ls device k) (contents device k)) (lt-ltb 0 (owners device k ls) (omega (arith, le)))) (own_told ls once tells)

over_other : (ls : List Seen) (contents : ℕ → Contents) (device k : ℕ) → owners device k ls ≡ 0 → over ls contents device k ≡ contents device k
over_other ls contents device k none = ap (λ b. cond b (sector_in ls device k) (contents device k)) (le-ltb 0 (owners device k ls) (omega (arith, none)))

over_others : (ls : List Seen) (contents : ℕ → Contents) (ps : List Seen) → ((device k : ℕ) → owners device k ps + owners device k ls ≤ 1) → All (Holds contents) ps → All (Holds (over ls contents)) ps
over_others ls contents ps apart holds = all_hold_as contents (over ls contents) ps (λ device k le. over_other ls contents device k (let few = apart device k in omega (arith, le, few))) holds

-- ---- the laws

module _ (copies : List (List Seen)) (old new : List Seen) (g : GoByCopies copies old new) where
  abbrev regions : List Seen
  regions = all_pieces g.regions

  abbrev before : List Seen
  before = regions ++ (copy_pieces copies ++ g.rest)

  abbrev after : List Seen
  after = regions ++ (copy_pieces g.later ++ g.rest)

  called : GoTogether (copy_pieces copies) (copy_pieces g.later)
  called = cut_go copies g.later g.some g.cut

  across : GoTogether before after
  across = go_beside regions regions (copy_pieces copies ++ g.rest) (copy_pieces g.later ++ g.rest) (go_same regions) (go_beside (copy_pieces copies) (copy_pieces g.later) g.rest g.rest called (go_same g.rest))

  together_of : GoTogether old new
  together_of = go_then old before new (go_from old before g.taken) (go_then before after new across (go_from after new g.back))

  later_none : (device k : ℕ) → list_any (covers device k) (copy_pieces copies) ≡ false → owners device k (copy_pieces g.later) ≡ 0
  later_none device k none = called.sectors device k ∙ lacks device k (copy_pieces copies) none

  later_off : (device : ℕ) → list_any (is_of device) (copy_pieces copies) ≡ false → list_any (is_of device) (copy_pieces g.later) ≡ false
  later_off device none = any_same (copy_pieces copies) (copy_pieces g.later) device g.some (called.some g.some) (λ k. called.sectors device k) ∙ none

  counts_of : (device : ℕ) → list_any (is_of device) (copy_pieces copies) ≡ false → (f : Seen → ℕ) → ((p : Seen) → is_of device p ≡ false → f p ≡ 0) → (most : ℕ) → min (sum_by f after) most ≡ min (sum_by f before) most
  counts_of device none f zero_if most =
      counted_same f most regions (copy_pieces copies) (copy_pieces g.later) g.rest (none_counted f device (copy_pieces copies) zero_if none) (none_counted f device (copy_pieces g.later) zero_if (later_off device none))

  module _ (once : AreOnce old) where
    after_once : AreOnce after
    after_once device k = let few = once_kept old before g.taken once device k in let same = across.sectors device k in omega (arith, few, same)

    owners_after : (device k : ℕ) → owners device k regions + (owners device k (copy_pieces g.later) + owners device k g.rest) ≤ 1
    owners_after device k =
        let few = after_once device k in
        let a = sum_by-append (has device k) regions (copy_pieces g.later ++ g.rest) in
        let b = sum_by-append (has device k) (copy_pieces g.later) g.rest in
        omega (arith, few, a, b)

    holds_after : (contents : ℕ → Contents) → All (Holds contents) old → All (Holds (over (copy_pieces g.later) contents)) after
    holds_after contents holds =
        let all = all_parts (Holds contents) regions (copy_pieces copies ++ g.rest) (g.taken.contents contents holds) in
        let both = all_parts (Holds contents) (copy_pieces copies) g.rest all.1 in
        let tells = copies_tell g.cut.cut g.later g.cut.goes (runs_tell copies g.cut.cut g.cut.same (All-weaker (Holds contents) IsTelling (holding contents) (copy_pieces copies) both.0)) in
        let own = over_own (copy_pieces g.later) contents (λ device k. let few = owners_after device k in omega (arith, few)) tells in
        let first = over_others (copy_pieces g.later) contents regions (λ device k. let few = owners_after device k in omega (arith, few)) all.0 in
        let last = over_others (copy_pieces g.later) contents g.rest (λ device k. let few = owners_after device k in omega (arith, few)) both.1 in
        All-append (Holds (over (copy_pieces g.later) contents)) regions (copy_pieces g.later ++ g.rest) first
        (All-append (Holds (over (copy_pieces g.later) contents)) (copy_pieces g.later) g.rest own last)

  -- what the copies hold, before and after
  held_copies : (contents : ℕ → Contents) → All (Holds contents) old → All (Holds contents) (copy_pieces copies)
  held_copies contents holds =
      let all = all_parts (Holds contents) regions (copy_pieces copies ++ g.rest) (g.taken.contents contents holds) in
      (all_parts (Holds contents) (copy_pieces copies) g.rest all.1).0

  later_holds : AreOnce old → (contents : ℕ → Contents) → All (Holds contents) old → All (Holds (over (copy_pieces g.later) contents)) (copy_pieces g.later)
  later_holds once contents holds =
      let all = all_parts (Holds (over (copy_pieces g.later) contents)) regions (copy_pieces g.later ++ g.rest) (holds_after once contents holds) in
      (all_parts (Holds (over (copy_pieces g.later) contents)) (copy_pieces g.later) g.rest all.1).0

pub together : CopiesGoTogether
together copies old new g = together_of copies old new g

pub contents : CopiesChangeContents
contents copies old new g once held holds = (
  over (copy_pieces g.later) held,
  g.back.contents (over (copy_pieces g.later) held) (holds_after copies old new g once held holds),
  held_copies copies old new g held holds,
  later_holds copies old new g once held holds,
  λ device k none. over_other (copy_pieces g.later) held device k (later_none copies old new g device k none),
)

pub own : CopiesChangeTheirOwn
own copies old new g once tells =
    let holds = g.back.contents (over (copy_pieces g.later) (sector_in old)) (holds_after copies old new g once (sector_in old) (own_told old once tells)) in (
      All-weaker (Holds (over (copy_pieces g.later) (sector_in old))) IsTelling (holding (over (copy_pieces g.later) (sector_in old))) new holds,
      λ device k none. by device k none holds (owners device k new) refl,
    )
  where
    by : (device k : ℕ) → list_any (covers device k) (copy_pieces copies) ≡ false → All (Holds (over (copy_pieces g.later) (sector_in old))) new → (n : ℕ) → n ≡ owners device k new → sector_in new device k ≡ sector_in old device k
    by device k none holds zero e = sector_none new device k (sym e) ∙ sym (sector_none old device k (sym ((together copies old new g).sectors device k) ∙ sym e))
    by device k none holds (suc n) e = sector_from (over (copy_pieces g.later) (sector_in old)) new device k holds (omega (arith, e)) ∙ over_other (copy_pieces g.later) (sector_in old) device k (later_none copies old new g device k none)

pub counts : CopiesCountTheirOwn
counts copies old new g device none = record {
  reads = g.back.reads device ∙ counts_of copies old new g device none (reads_of device) (λ p e. ap (λ b. cond b p.reads 0) e) (2 ^ 64 - 1) ∙ g.taken.reads device;
  writes = g.back.writes device ∙ counts_of copies old new g device none (writes_of device) (λ p e. ap (λ b. cond b p.writes 0) e) (2 ^ 64 - 1) ∙ g.taken.writes device;
  faults = g.back.faults device ∙ counts_of copies old new g device none (faults_of device) (λ p e. ap (λ b. cond b p.faults 0) e) (2 ^ 64 - 1) ∙ g.taken.faults device;
  cut = g.back.cut device ∙ counts_of copies old new g device none (cut_of device) (λ p e. ap (λ b. cond b (cond p.cut 1 0) 0) e) 1 ∙ g.taken.cut device;
}
