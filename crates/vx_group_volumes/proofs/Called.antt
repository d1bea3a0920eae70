-- Calls on pieces among others, and the disks behind whose fronts they lie.
use Rattle.std.proofs.Common.{◌≡◌, ℕ, ◌-◌, ◌==◌, ◌||◌, Bool, true, false, cond, List, [], ◌∷◌, ◌++◌, Option, Some, None, refl, sym, ap, ◌∙◌, subst, arith}
use Rattle.std.specs.Prelude.{is_some, nat_lt}
use Rattle.std.specs.List.{All, list_any}
use Rattle.std.proofs.lemmas.Bool.{false≢true}
use Rattle.std.proofs.lemmas.List.{append_assoc}
use Rattle.std.proofs.lemmas.List.Elements.{All-append, All-nil}
use Rattle.std.proofs.lemmas.List.Folds.{list_any-append}
use Rattle.std.proofs.lemmas.List.Sums.{sum_by-append, sum_by-cons}
use Rattle.vx_base.specs.Blocks.{Contents}
use Rattle.vx_piece.specs.Seen.{Seen, Keeps}
use Rattle.vx_runs.specs.Run.{EachPiece}
use Rattle.vx_carve.specs.Together.{AreOnce, HasSome, covers, covers_at, has, owners}
use Rattle.vx_copies.specs.Disks.{DiskSeen}
use Rattle.vx_copies.specs.Lists.{Each}
use Rattle.vx_fronts.specs.Fronts.{Rest, whole_disk, whole_told, with_device}
use Rattle.vx_fronts.specs.Laws.{whole_disks}
use Rattle.vx_fronts.specs.Parted.{AreParted}
use Rattle.vx_fronts.specs.RestLaws.{WereCalled}
use Rattle.vx_fronts.specs.Rests.{AllTell, IsTelling, is_of, rest_in, rests_of, sector_in, told_at}
use Rattle.vx_fronts.proofs.Behind.{devices_called}
use Rattle.vx_fronts.proofs.Parted.{all_parts, parted_called}
use Rattle.vx_fronts.proofs.Sectors.{sector_append, sector_same}
use Rattle.vx_lending.specs.Going.{GoTogether}
use Rattle.vx_lending.proofs.Goings.{go_beside, go_same}
use Rattle.vx_group_volumes.specs.Disks.{AreCalled, DiskGoesOn}
use Rattle.vx_group_volumes.proofs.Orders.{in_order}
use Rattle.vx_group_volumes.specs.SectorLaws.{AnyCutChangesItsOwn, AnyOrderChangesItsOwn, EachDiskGoesOn, HeldChangeTheirOwn}

-- ---- pieces in their places

same_run : (d d' s s' n n' device k : ℕ) → d' ≡ d → s' ≡ s → n' ≡ n → covers_at d' s' n' device k ≡ covers_at d s n device k
same_run d d' s s' n n' device k e f g = ap (λ x. covers_at x s' n' device k) e ∙ ap (λ x. covers_at d x n' device k) f ∙ ap (λ x. covers_at d s x device k) g

covers_kept : (p q : Seen) → Keeps p q → (device k : ℕ) → covers device k q ≡ covers device k p
covers_kept p q kept device k = same_run p.device q.device p.start q.start p.sectors q.sectors device k kept.device kept.start kept.sectors

pub any_kept : (f : Seen → Bool) → ((p q : Seen) → Keeps p q → f q ≡ f p) → (ps qs : List Seen) → EachPiece Keeps ps qs → list_any f qs ≡ list_any f ps
any_kept f same [] [] kept = refl
any_kept f same [] (q ∷ qs) kept = absurd kept
any_kept f same (p ∷ ps) [] kept = absurd kept
any_kept f same (p ∷ ps) (q ∷ qs) kept = ap (λ b. b || list_any f qs) (same p q kept.0) ∙ ap (λ b. f p || b) (any_kept f same ps qs kept.1)

-- pieces that have not the sector are passed over
skipped : (ps qs : List Seen) (device k : ℕ) → list_any (covers device k) ps ≡ false → sector_in (ps ++ qs) device k ≡ sector_in qs device k
skipped ps qs device k none = sector_append ps qs device k ∙ ap (λ b. cond b (sector_in ps device k) (sector_in qs device k)) none

after : (ps qs rs : List Seen) (device k : ℕ) → sector_in rs device k ≡ sector_in qs device k → sector_in (ps ++ rs) device k ≡ sector_in (ps ++ qs) device k
after ps qs rs device k same = sector_append ps rs device k ∙ ap (λ x. cond (list_any (covers device k) ps) (sector_in ps device k) x) same ∙ sym (sector_append ps qs device k)

pub held_change : HeldChangeTheirOwn
held_change before held held' behind kept device k none =
    let none' = any_kept (covers device k) (λ p q h. covers_kept p q h device k) held held' kept ∙ none in
    after before (held ++ behind) (held' ++ behind) device k (skipped held' behind device k none' ∙ sym (skipped held behind device k none))

-- ---- in any order

owners_kept : (ps qs : List Seen) → EachPiece Keeps ps qs → (device k : ℕ) → owners device k qs ≡ owners device k ps
owners_kept [] [] kept device k = refl
owners_kept [] (q ∷ qs) kept device k = absurd kept
owners_kept (p ∷ ps) [] kept device k = absurd kept
owners_kept (p ∷ ps) (q ∷ qs) kept device k =
    let a = sum_by-cons (has device k) p ps in
    let b = sum_by-cons (has device k) q qs in
    let here : has device k q ≡ has device k p = ap {B = ℕ} (λ v. cond v 1 0) (covers_kept p q kept.0 device k) in
    let rest = owners_kept ps qs kept.1 device k in
    omega (arith, a, b, here, rest)

beside_kept : (others ps qs : List Seen) → EachPiece Keeps ps qs → (device k : ℕ) → owners device k (others ++ qs) ≡ owners device k (others ++ ps)
beside_kept others ps qs kept device k =
    let a = sum_by-append (has device k) others ps in
    let b = sum_by-append (has device k) others qs in
    let same = owners_kept ps qs kept device k in
    omega (arith, a, b, same)

-- what none has is not told
nothing : (device k : ℕ) (xs : List Seen) → list_any (covers device k) xs ≡ false → sector_in xs device k ≡ []
nothing device k [] e = refl
nothing device k (x ∷ xs) e = by (λ f. nothing device k xs f) (covers device k x) refl e
  where
    by : (list_any (covers device k) xs ≡ false → sector_in xs device k ≡ []) → (b : Bool) → covers device k x ≡ b → (b || list_any (covers device k) xs) ≡ false → sector_in (x ∷ xs) device k ≡ []
    by rest true f e = absurd (false≢true (sym e))
    by rest false f e = ap (λ b. cond b (told_at x.told (k - x.start)) (sector_in xs device k)) f ∙ rest e

pub any_cut : AnyCutChangesItsOwn
any_cut others held held' ps ps' kept same same' once tell tell' device k none =
    let none' = any_kept (covers device k) (λ p q h. covers_kept p q h device k) held held' kept ∙ none in
    let once' : AreOnce (others ++ held') = λ d s. let few = once d s in let same = beside_kept others held held' kept d s in omega (arith, few, same) in
    sector_same (others ++ held') ps' once' tell' same' device k
    ∙ after others held held' device k (nothing device k held' none' ∙ sym (nothing device k held none))
    ∙ sym (sector_same (others ++ held) ps once tell same device k)

pub any_order : AnyOrderChangesItsOwn
any_order others held held' ps ps' kept same same' once device k none =
    let none' = any_kept (covers device k) (λ p q h. covers_kept p q h device k) held held' kept ∙ none in
    let few = once device k in
    let now = beside_kept others held held' kept device k in
    in_order (others ++ held') ps' device k same' (omega (arith, few, now))
    ∙ after others held held' device k (nothing device k held' none' ∙ sym (nothing device k held none))
    ∙ sym (in_order (others ++ held) ps device k same few)

-- ---- disks

pub keeps_same : (p : Seen) → Keeps p p
keeps_same p = record { device = refl; start = refl; sectors = refl; stop = refl; faults = omega arith; cut = λ h. h }

module _ (held : List Seen) (r r' : Rest) (h : DiskSeen) (same : (k : ℕ) → list_any (covers h.seen.device k) held ≡ false → r'.contents k ≡ r.contents k) where
  told_front : (n : ℕ) (o : Option Contents) (k : ℕ) → list_any (covers h.seen.device k) held ≡ false → told_at (whole_told n r'.contents o) k ≡ told_at (whole_told n r.contents o) k
  told_front n None k none = refl
  told_front n (Some front) k none = ap (λ x. cond (nat_lt k n) (front k) x) (same k none)

  tells_front : (n : ℕ) (o : Option Contents) → is_some (whole_told n r'.contents o) ≡ is_some (whole_told n r.contents o)
  tells_front n None = refl
  tells_front n (Some front) = refl

  -- with its device, parted or whole
  pub disk_by : (b b' : Bool) → b' ≡ b → Keeps (with_device (cond b (Some r) None) h).seen (with_device (cond b' (Some r') None) h).seen → DiskGoesOn held (with_device (cond b (Some r) None) h) (with_device (cond b' (Some r') None) h)
  disk_by true true e keeps = record { name = refl; device = refl; slot = refl; size = refl; good = refl; half = refl; keeps = keeps; tells = tells_front h.seen.sectors h.seen.told; told = told_front h.seen.sectors h.seen.told }
  disk_by false false e keeps = record { name = refl; device = refl; slot = refl; size = refl; good = refl; half = refl; keeps = keeps; tells = refl; told = λ k none. refl }
  disk_by true false e keeps = absurd (false≢true e)
  disk_by false true e keeps = absurd (false≢true (sym e))

module _ (before held held' behind : List Seen) (called : AreCalled held held') where
  abbrev olds : List Seen
  olds = before ++ (held ++ behind)

  abbrev news : List Seen
  news = before ++ (held' ++ behind)

  go : GoTogether olds news
  go = go_beside before before (held ++ behind) (held' ++ behind) (go_same before) (go_beside held held' behind behind called.goes (go_same behind))

  tell : (AllTell held → AllTell held') → AllTell olds → AllTell news
  tell still tells =
      let a = all_parts IsTelling before (held ++ behind) tells in
      let b = all_parts IsTelling held behind a.1 in
      All-append IsTelling before (held' ++ behind) a.0 (All-append IsTelling held' behind (still b.0) b.1)

  any_same : (f : Seen → Bool) → ((p q : Seen) → Keeps p q → f q ≡ f p) → list_any f (news ++ []) ≡ list_any f (olds ++ [])
  any_same f same =
      list_any-append f news [] ∙ ap (λ b. b || false) (list_any-append f before (held' ++ behind) ∙ ap (λ b. list_any f before || b) (list_any-append f held' behind ∙ ap (λ b. b || list_any f behind) (any_kept f same held held' called.each)
      ∙ sym (list_any-append f held behind)) ∙ sym (list_any-append f before (held ++ behind))) ∙ sym (list_any-append f olds [])

  module _ (hs : List DiskSeen) (parted : AreParted hs olds) where
    pub parted_on : (AllTell held → AllTell held') → AreParted hs news
    parted_on still = parted_called hs olds news go.sectors (go.some parted.some) (tell still) parted

    ended : GoTogether (olds ++ []) (news ++ [])
    ended = go_beside olds news [] [] go (go_same [])

    were : WereCalled (olds ++ []) (news ++ [])
    were = record { sectors = ended.sectors; faults = ended.faults; cut = ended.cut }

    some_olds : All HasSome (olds ++ [])
    some_olds = All-append HasSome olds [] parted.some (All-nil HasSome)

    disk_on : (h : DiskSeen) → DiskGoesOn held (whole_disk (rests_of olds []) h) (whole_disk (rests_of news []) h)
    disk_on h = disk_by held (rest_in olds [] h.seen.device) (rest_in news [] h.seen.device) h
        (λ k none. held_change before held held' behind called.each h.seen.device k none)
        (list_any (is_of h.seen.device) (olds ++ [])) (list_any (is_of h.seen.device) (news ++ []))
        (any_same (is_of h.seen.device) (λ p q kept. ap (λ n. n == h.seen.device) kept.device))
        (devices_called olds [] news [] h h some_olds (ended.some some_olds) were refl (keeps_same h.seen))

    pub disks_on : (xs : List DiskSeen) → Each (DiskGoesOn held) (whole_disks (rests_of olds []) xs) (whole_disks (rests_of news []) xs)
    disks_on [] = tt
    disks_on (x ∷ xs) = (disk_on x, disks_on xs)

pub each_disk_on : EachDiskGoesOn
each_disk_on hs still before held held' behind parted called =
    let old = append_assoc still before (held ++ behind) in
    let new = append_assoc still before (held' ++ behind) in
    let first : AreParted hs ((still ++ before) ++ (held ++ behind)) = subst (λ ps. AreParted hs ps) (sym old) parted in (
      λ tells. subst (λ ps. AreParted hs ps) new (parted_on (still ++ before) held held' behind called hs first tells),
      subst (λ ps. Each (DiskGoesOn held) (whole_disks (rests_of ps []) hs) (whole_disks (rests_of (still ++ (before ++ (held' ++ behind))) []) hs)) old
          (subst (λ qs. Each (DiskGoesOn held) (whole_disks (rests_of ((still ++ before) ++ (held ++ behind)) []) hs) (whole_disks (rests_of qs []) hs)) new
          (disks_on (still ++ before) held held' behind called hs first hs)),
    )
