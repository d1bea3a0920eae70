-- The sectors of a volume that does not run are in the pool of its group.
use Rattle.std.proofs.Common.{◌≡◌, ◌≢◌, ◌∙◌, inl, inr, ℕ, ◌+◌, ◌-◌, ◌<◌, ◌≤◌, Bool, true, false, cond, List, [], ◌∷◌, ◌++◌, map, Some, None, refl, sym, ap, subst, arith}
use Rattle.std.specs.Prelude.{◌&&◌, ◌||◌, ◌==◌, nat_le, slice_index}
use Rattle.std.specs.BTreeMap.{is_at}
use Rattle.std.specs.Cmp.Lexicographic.{slice_cmp}
use Rattle.std.specs.List.{All, flat_map, list_all, list_any}
use Rattle.std.specs.Ordering.{nat_cmp}
use Rattle.std.specs.Str.{bytes_eq}
use Rattle.std.proofs.lemmas.Bool.{and_parts, eqb-true, false≢true, leb-true}
use Rattle.std.proofs.lemmas.Bool.Decides.{nat_tests}
use Rattle.std.proofs.lemmas.List.{append-nil}
use Rattle.std.proofs.lemmas.List.Elements.{All-nil, All-cons}
use Rattle.std.proofs.lemmas.List.Sums.{sum_by-append, sum_by-cons}
use Rattle.std.proofs.lemmas.Map.Text.{is_eq-slice_cmp}
use Rattle.vx_pages.specs.declared.local_piece.LocalPiece.{Ghosts}
use Rattle.vx_base.specs.Named.{Word}
use Rattle.vx_base.proofs.NamedLemmas.{bytes_eq_self}
use Rattle.vx_piece.specs.Seen.{Seen}
use Rattle.vx_carve.specs.Strips.{EachStrip, IsFreeStrip, lies_in}
use Rattle.vx_carve.specs.Together.{covers, has, owners}
use Rattle.vx_layout.specs.declared.place.Place.{Place}
use Rattle.vx_layout.specs.declared.strip.Strip.{Strip}
use Rattle.vx_layout.specs.Columns.{has_place}
use Rattle.vx_layout.specs.Valid.{is_apart}
use Rattle.vx_config_parts.specs.declared.plex.Plex.{Plex}
use Rattle.vx_config_parts.specs.declared.vol.Vol.{Vol}
use Rattle.vx_config_parts.specs.Objects.{refers}
use Rattle.vx_objects.specs.declared.config.Config.{Config}
use Rattle.vx_image.specs.Lies.{columns_of, strips_of}
use Rattle.vx_image.specs.Room.{public_of}
use Rattle.vx_image.proofs.Apart.{one_name, plexes_apart}
use Rattle.vx_image.proofs.PlexMembers.{IsIn, any_in, from_map, in_left, in_right}
use Rattle.vx_image.specs.Own.{IsOfVolume}
use Rattle.vx_image.proofs.Members.{contains, each_from_all, is_in}
use Rattle.vx_copies.specs.Disks.{DiskSeen, good_mask}
use Rattle.vx_copies.specs.Lists.{AllOf}
use Rattle.vx_confdb.specs.Groups.{members}
use Rattle.vx_fronts.specs.Parted.{AreParted, IsCutShort, IsFront, fronts_of}
use Rattle.vx_fronts.proofs.Parted.{all_at, few_fronts, free_at, has_first}
use Rattle.vx_fronts.proofs.Parted.{IsIn as IsDisk}
use Rattle.vx_volume.specs.Volume.{log_of, volume_seen}
use Rattle.vx_lending.specs.Left.{held_pieces}
use Rattle.vx_lending.specs.Logs.{log_copies}
use Rattle.vx_lending.specs.declared.form.VolumeForm.{VolumeForm}
use Rattle.vx_lending.specs.Form.{IsFormOf, IsLayoutOf}
use Rattle.vx_lending.specs.FormLaws.{AreFree, all_layouts, good_disks}
use Rattle.vx_image.specs.UsedPlexes.{held_plexes, used_logs}
use Rattle.vx_lending.proofs.Places.{IsTaken, all_are, columns_lie, each_taken}
use Rattle.vx_lending.proofs.Rules.{one_plex}
use Rattle.vx_lending.proofs.Zips.{zip_all}
use Rattle.vx_layout.specs.declared.layout.Layout.{Layout}
use Rattle.vx_lending.specs.declared.public.Running.{Running}
use Rattle.vx_lending.specs.Public.{lent_pieces, remaining_pieces, running_at, running_pieces, still_pieces, stuck_pieces}
use Rattle.vx_group_volumes.specs.Places.{IsOwnSector, disks_at}
use Rattle.vx_group_volumes.proofs.Held.{kept_sector, of_pieces}
use Rattle.vx_house.specs.Idle.{EachIdleVolumeIsFree, HaveRoom, IsGathered}
use Rattle.vx_house.specs.Runs.{AllInPlace, IsInPlace}
use Rattle.vx_house.specs.View.{IsGroupKept}
use Rattle.vx_house.specs.declared.house.Imported.{Imported}
use Rattle.vx_house.proofs.AllLaws.{found_in}

-- ---- lists

-- what holds of each strip that passes a test
each_strip : (test : Strip → Bool) (Q : Strip → Type 0) (columns : List (List Strip)) → ((x : Strip) → IsIn (flat_map (λ strips. strips) columns) x → test x ≡ true → Q x) →
    list_all (λ strips. list_all test strips) columns ≡ true → EachStrip Q columns
each_strip test Q [] each all = All-nil (λ strips. All Q strips)
each_strip test Q (strips ∷ columns) each all =
    let parts = and_parts (list_all test strips) (list_all (λ strips. list_all test strips) columns) all in
    let more = flat_map (λ (strips : List Strip). strips) columns in
    All-cons (λ strips. All Q strips) strips columns (row strips (λ x there. each x (in_left strips more x there)) parts.0) (each_strip test Q columns (λ x there. each x (in_right strips more x there)) parts.1)
  where
    row : (xs : List Strip) → ((x : Strip) → IsIn xs x → test x ≡ true → Q x) → list_all test xs ≡ true → All Q xs
    row [] each all = All-nil Q
    row (x ∷ xs) each all =
        let parts = and_parts (test x) (list_all test xs) all in
        All-cons Q x xs (each x (inl refl) parts.0) (row xs (λ y there. each y (inr there)) parts.1)

-- pieces of which none covers the sector have it not
none_have : (ps : List Seen) (device k : ℕ) → (list_any (covers device k) ps ≡ true → ⊥) → owners device k ps ≡ 0
none_have [] device k none = refl
none_have (p ∷ ps) device k none = by (covers device k p) refl (sum_by-cons (has device k) p ps) none (none_have ps device k)
  where
    by : (b : Bool) → covers device k p ≡ b → owners device k (p ∷ ps) ≡ cond b 1 0 + owners device k ps → ((b || list_any (covers device k) ps) ≡ true → ⊥) → ((list_any (covers device k) ps ≡ true → ⊥) → owners device k ps ≡ 0) →
        owners device k (p ∷ ps) ≡ 0
    by true e sum none rest = absurd (none refl)
    by false e sum none rest = let more = rest none in omega (arith, sum, more)

-- where no entry has the name, each has another one
other_names : {X : Type 0} (es : List (Word × X)) (name : Word) → found_in es name ≡ None → AllOf (λ (e : Word × X). name ≢ e.0) es
other_names [] name none = tt
other_names {X = X} (e ∷ es) name none =
    let both = by (is_at (slice_cmp nat_cmp name) e.0) refl none in
    ((λ same. false≢true (sym both.0 ∙ is_eq-slice_cmp name e.0 ∙ subst (λ n. bytes_eq name n ≡ true) same (bytes_eq_self name))), other_names es name both.1)
  where
    by : (b : Bool) → is_at (slice_cmp nat_cmp name) e.0 ≡ b → cond b (Some e.1) (found_in es name) ≡ None → (is_at (slice_cmp nat_cmp name) e.0 ≡ false) × (found_in es name ≡ None)
    by true at some = absurd (let no : Some e.1 ≡ None = some in cc)
    by false at none = (at, none)

-- ---- disks

-- a disk's device has its first sector in some front
some_front : (hs : List DiskSeen) (h : DiskSeen) → AllOf IsFront hs → IsDisk h hs → 1 ≤ owners h.seen.device 0 (fronts_of hs)
some_front [] h fronts is = absurd is
some_front (g ∷ hs) h fronts (inl e) =
    let sum = sum_by-cons (has g.seen.device 0) g.seen (fronts_of hs) in
    let first = has_first g fronts.0 in
    subst (λ (x : DiskSeen). 1 ≤ owners x.seen.device 0 (fronts_of (g ∷ hs))) e (omega (arith, sum, first))
some_front (g ∷ hs) h fronts (inr is) =
    let sum = sum_by-cons (has h.seen.device 0) g.seen (fronts_of hs) in
    let more = some_front hs h fronts.1 is in
    omega (arith, sum, more)

-- the device of a front is none of those of the disks behind it
twice : (g : DiskSeen) (hs : List DiskSeen) (h : DiskSeen) → AllOf IsFront (g ∷ hs) → ((number : ℕ) → owners number 0 (fronts_of (g ∷ hs)) ≤ 1) → IsDisk h hs → g.seen.device ≡ h.seen.device → ⊥
twice g hs h fronts few there same =
    let sum = sum_by-cons (has h.seen.device 0) g.seen (fronts_of hs) in
    let first : has h.seen.device 0 g.seen ≡ 1 = subst (λ n. has n 0 g.seen ≡ 1) same (has_first g fronts.0) in
    let more = some_front hs h fronts.1 there in
    let le = few h.seen.device in
    omega (arith, sum, first, more, le)

-- two disks on one device are one, where no two fronts have a sector
one_device : (hs : List DiskSeen) (a b : DiskSeen) → AllOf IsFront hs → ((number : ℕ) → owners number 0 (fronts_of hs) ≤ 1) → IsDisk a hs → IsDisk b hs → a.seen.device ≡ b.seen.device → a ≡ b
one_device [] a b fronts few is there same = absurd is
one_device (g ∷ hs) a b fronts few (inl e) (inl f) same = sym e ∙ f
one_device (g ∷ hs) a b fronts few (inl e) (inr there) same = absurd (twice g hs b fronts few there (ap (λ (x : DiskSeen). x.seen.device) e ∙ same))
one_device (g ∷ hs) a b fronts few (inr is) (inl f) same = absurd (twice g hs a fronts few is (ap (λ (x : DiskSeen). x.seen.device) f ∙ sym same))
one_device (g ∷ hs) a b fronts few (inr is) (inr there) same =
    one_device hs a b fronts.1 (λ n. let sum = sum_by-cons (has n 0) g.seen (fronts_of hs) in let le = few n in omega (arith, sum, le)) is there same

-- ---- strips

-- a place is in one of two strips that are apart
not_in_both : (x y : Strip) (place : Place) → is_apart x y ≡ true → has_place x place ≡ true → has_place y place ≡ true → ⊥
not_in_both x y place apart one other = grind (arith, nat_tests)

place_there : (x : Strip) (k : ℕ) → k < x.count → has_place x (record { disk = x.disk; sector = x.start + k }) ≡ true
place_there x k lt = grind (arith, nat_tests, lt)

-- plexes of two volumes have two names
other_plex : (c : Config) (vol other : Word) (p q : Plex) → IsIn c.plexes p → IsIn c.plexes q → refers p.vol vol ≡ true → refers q.vol other ≡ true → vol ≢ other → p.name ≡ q.name → ⊥
other_plex c vol other p q one there of of' differ same =
    let is = one_plex c p q one there same in
    differ (one_name p.vol vol other of (subst (λ (x : Plex). refers x.vol other ≡ true) (sym is) of'))

-- a strip of a plex has no place of another volume
strip_own : (c : Config) (vol other : Word) (p : Plex) (x : Strip) → IsIn c.plexes p → refers p.vol vol ≡ true → IsIn (strips_of c p) x → vol ≢ other → (place : Place) → has_place x place ≡ true → IsOfVolume c other place → ⊥
strip_own c vol other p x one of on differ place has_it (q, there, of', lies) =
    let apart = plexes_apart c p q (other_plex c vol other p q one (is_in c.plexes q there) of of' differ) in
    let rows = each_from_all (λ x. list_all (is_apart x) (strips_of c q)) (strips_of c p) x apart (contains (strips_of c p) x on) in
    not_in_both x lies.0 place (each_from_all (is_apart x) (strips_of c q) lies.0 rows lies.1) has_it lies.2

-- ---- a group

module _ {P : Type 0} {ghosts : Ghosts P} (see : P → Seen) (g : Imported P ghosts) (kept : IsGroupKept see g) (gathered : IsGathered see g) (v : Vol) (idle : running_at g.public v.name ≡ None) where
  abbrev hs : List DiskSeen
  hs = members see g.base

  abbrev good : ℕ
  good = good_mask hs

  abbrev behind : List Seen
  behind = still_pieces see g.public ++ lent_pieces see g.public

  parted : AreParted hs behind
  parted = kept.whole.parted

  -- a piece of a running volume has none of another volume's sectors
  module _ (name : Word) (r : Running P ghosts) (is : IsInPlace see hs g.config good name r) (differ : v.name ≢ name) (h : DiskSeen) (there : IsDisk h hs)
      (p : Plex) (one : IsIn g.config.plexes p) (of : refers p.vol v.name ≡ true) (x : Strip) (on : IsIn (strips_of g.config p) x) (slot : h.slot ≡ x.disk) (k : ℕ) (lt : k < x.count) where
    own : list_any (covers h.seen.device (2048 + x.start + k)) (held_pieces see r.volume) ≡ true → IsOwnSector g.config is.of.name (disks_at is.placed.runs.opening) is.numbers h.seen.device (2048 + x.start + k)
    own any =
        let o = is.placed.runs.opening in
        kept_sector o.config o.good o.vol is.numbers h.seen.device (2048 + x.start + k) g.config is.of.name is.placed.places
        (of_pieces o.config o.good o.vol o.fresh r.form is.placed.runs.form is.numbers h.seen.device (2048 + x.start + k) (volume_seen see r.volume) (log_copies see (log_of r.volume)) is.placed.runs.lies.lies any)

    uncovered : list_any (covers h.seen.device (2048 + x.start + k)) (held_pieces see r.volume) ≡ true → ⊥
    uncovered any =
        let s = own any in
        let d = is.opened s.slot s.on in
        let same : d.disk ≡ h = one_device hs d.disk h parted.fronts (λ number. few_fronts hs behind parted number 0) d.there there (sym d.number_is ∙ s.number_is) in
        let at_slot : s.slot ≡ x.disk = sym d.slot_is ∙ ap (λ (y : DiskSeen). y.slot) same ∙ slot in
        let at_sector : s.sector ≡ x.start + k = let e = s.place_is in omega (arith, e) in
        let place : IsOfVolume g.config is.of.name (record { disk = x.disk; sector = x.start + k }) =
        subst (λ n. IsOfVolume g.config is.of.name (record { disk = x.disk; sector = n })) at_sector (subst (λ n. IsOfVolume g.config is.of.name (record { disk = n; sector = s.sector })) at_slot s.of) in
        strip_own g.config v.name is.of.name p x one of on (λ e. differ (e ∙ is.named)) (record { disk = x.disk; sector = x.start + k }) (place_there x k lt) place

  -- each sector of a strip of the volume is in the pool
  module _ (h : DiskSeen) (there : IsDisk h hs) (p : Plex) (one : IsIn g.config.plexes p) (of : refers p.vol v.name ≡ true) (x : Strip) (on : IsIn (strips_of g.config p) x) (slot : h.slot ≡ x.disk) (k : ℕ) (lt : k < x.count) where
    abbrev number : ℕ
    number = h.seen.device

    abbrev at : ℕ
    at = 2048 + x.start + k

    none_run : (es : List (Word × Running P ghosts)) → AllOf (λ (e : Word × Running P ghosts). v.name ≢ e.0) es → AllInPlace see hs g.config good es → owners number at (flat_map (running_pieces see) es) ≡ 0
    none_run [] differ all = refl
    none_run (e ∷ es) differ all =
        let sum = sum_by-append (has number at) (running_pieces see e) (flat_map (running_pieces see) es) in
        let here = none_have (running_pieces see e) number at (uncovered e.0 e.1 all.0 differ.0 h there p one of x on slot k lt) in
        let rest = none_run es differ.1 all.1 in
        omega (arith, sum, here, rest)

    none_lent : owners number at (lent_pieces see g.public) ≡ 0
    none_lent =
        ap (λ rs. owners number at (flat_map (running_pieces see) g.public.running.entries ++ flat_map (stuck_pieces see) rs)) gathered.stuck
        ∙ ap (owners number at) (append-nil (flat_map (running_pieces see) g.public.running.entries))
        ∙ none_run g.public.running.entries (other_names g.public.running.entries v.name idle) kept.placed

    all_pool : still_pieces see g.public ≡ map see g.public.pool.items.items
    all_pool = ap (λ rs. map see g.public.pool.items.items ++ flat_map (remaining_pieces see) rs) gathered.left ∙ append-nil (map see g.public.pool.items.items)

    in_pool : at < h.sectors → owners number at (map see g.public.pool.items.items) ≡ 1
    in_pool inside =
        let short : h.seen.sectors ≤ 2048 = all_at IsCutShort hs h gathered.short there in
        let free = free_at hs behind parted h there (at - h.seen.sectors) (omega (arith, inside, short)) in
        let place : h.seen.sectors + (at - h.seen.sectors) ≡ at = omega (arith, short) in
        let all : owners number at behind ≡ 1 = subst (λ n. owners number n behind ≡ 1) place free in
        let sum = sum_by-append (has number at) (still_pieces see g.public) (lent_pieces see g.public) in
        let none = none_lent in
        let still : owners number at (still_pieces see g.public) ≡ 1 = omega (arith, all, sum, none) in
        subst (λ ps. owners number at ps ≡ 1) all_pool still

  -- so are the layouts of the volume
  module _ (fresh : Bool) (form : VolumeForm) (is : IsFormOf g.config good v fresh form) (numbers : List ℕ) (have : HaveRoom numbers hs good g.config.disks) where
    strip_free : (p : Plex) → IsTaken g.config good v p → (x : Strip) → IsIn (strips_of g.config p) x → lies_in (map public_of (good_disks good g.config.disks)) x ≡ true → IsFreeStrip numbers (map see g.public.pool.items.items) x
    strip_free p taken x on lies k lt =
        let r = any_in (λ r. r.disk == x.disk && nat_le r.sector x.start && nat_le (x.start + x.count) (r.sector + r.count)) (map public_of (good_disks good g.config.disks)) lies in
        let d = from_map public_of (good_disks good g.config.disks) r.0 r.1 in
        let all = and_parts (r.0.disk == x.disk && nat_le r.0.sector x.start) _ r.2 in
        let slot : d.0.slot ≡ x.disk = ap (λ y. y.disk) (sym d.2) ∙ eqb-true r.0.disk x.disk (and_parts (r.0.disk == x.disk) _ all.0).0 in
        let ends : x.start + x.count ≤ 0 + d.0.publen = leb-true (x.start + x.count) (0 + d.0.publen) (subst (λ y. nat_le (x.start + x.count) (y.sector + y.count) ≡ true) d.2 all.1) in
        let h = have d.0 (contains (good_disks good g.config.disks) d.0 d.1) in
        let room = h.room in
        let inside : 2048 + x.start + k < h.on.disk.sectors = omega (arith, ends, room, lt) in
        let number : slice_index numbers x.disk ≡ h.on.disk.seen.device = ap (slice_index numbers) (sym slot) ∙ h.on.number_is in
        subst (λ n. owners n (2048 + x.start + k) (map see g.public.pool.items.items) ≡ 1) (sym number)
        (in_pool h.on.disk h.on.there p taken.there taken.of x on (h.on.slot_is ∙ slot) k lt inside)

    pub all_free : AreFree numbers (map see g.public.pool.items.items) (all_layouts form)
    all_free =
        zip_all (IsLayoutOf g.config) (λ (l : Layout). EachStrip (IsFreeStrip numbers (map see g.public.pool.items.items)) l.columns) (held_plexes g.config good v.name ++ used_logs v.dco g.config good fresh v.name) (all_layouts form) (all_are g.config good v fresh form is)
        (λ p l here lay.
        let taken = each_taken g.config good v fresh p here in
        let disks = map public_of (good_disks good g.config.disks) in
        subst (λ columns. EachStrip (IsFreeStrip numbers (map see g.public.pool.items.items)) columns) (sym lay.columns)
        (each_strip (lies_in disks) (IsFreeStrip numbers (map see g.public.pool.items.items)) (columns_of g.config p) (strip_free p taken) (columns_lie g.config good p taken.held p.ncol 0)))

pub idle_free : {P : Type 0} {ghosts : Ghosts P} (see : P → Seen) (g : Imported P ghosts) → EachIdleVolumeIsFree see g
idle_free see g kept gathered v idle fresh form is numbers have = all_free see g kept gathered v idle fresh form is numbers have
