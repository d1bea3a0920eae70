-- How a page is read from one copy, made what its images are, and armed.
use Rattle.std.proofs.Common.{◌≡◌, inl, inr, ℕ, zero, suc, ◌+◌, ◌<◌, Bool, true, false, refl, sym, ◌∙◌, ap, subst, arith, List, [], ◌∷◌, length, map, get_or, set, Option, Some, None, Ok, Err}
use Rattle.std.specs.Prelude.{◌&&◌, not, is_some, if◌then◌else◌}
use Rattle.std.specs.Global.{Vec}
use Rattle.std.proofs.lemmas.Bool.{cases_order}
use Rattle.std.proofs.lemmas.List.{length-map}
use Rattle.vx_mapfmt.specs.Bits.{bit_in}
use Rattle.vx_sector.specs.Fields.{zeros}
use Rattle.vx_marks.specs.declared.marker.MarkFault.{MarkFault}
use Rattle.vx_piece.specs.Seen.{Seen}
use Rattle.vx_runs.specs.Part.{told_or}
use Rattle.std.specs.Option.{option_map}
use Rattle.vx_pages.specs.Arming.{armed, armed_sector, armed_sectors}
use Rattle.vx_pages.specs.Page.{ArePairedAlike, sector_at}
use Rattle.vx_pages.specs.Images.{images_seen}
use Rattle.vx_pages.specs.Items.{EachItem, item_at}
use Rattle.vx_pages.specs.Reading.{AreImages, AreKnownOn, IsKnownOn, IsMended, IsSettled, IsWhatIs, MaySettle, ReadsSector, image_at}
use Rattle.vx_pages.specs.Sector.{Copies, SectorSeen, AreSectors, IsFormed, copy_of, shown}
use Rattle.vx_pages.proofs.Bits.{no_bit}
use Rattle.vx_pages.proofs.Items.{at_set, at_other, set_size}
use Rattle.vx_pages.proofs.SameCopies.{copies_same}
use Rattle.vx_pages.proofs.Steps.{kept_of}
use Rattle.vx_pages.proofs.Telling.{each_tells}
use Rattle.vx_pages.proofs.OpenBits.{zero_size}
use Rattle.vx_pages.proofs.Ways.{keeps_none}

-- ---- a sector

none_loose : (shows : Bool) (loose : Bool) → loose ≡ false → (shows && not loose) ≡ shows
none_loose true loose none = rw none refl
none_loose false loose none = refl

pub settled_formed : (c c' : Copies) (image sure loose : List ℕ) → AreSectors c → length image ≡ 512 → sure ≡ image → loose ≡ zeros 512 → IsMended {T = Unit {0}} image c c' (Ok tt) →
    IsFormed (record { copies = c'; sure = sure; loose = loose })
settled_formed c c' image sure loose sectors len is none mended =
    record {
      sectors = mended.kept.sectors sectors;
      sure = ap (λ (x : List ℕ). length x) is ∙ len;
      loose = ap (λ (x : List ℕ). length x) none ∙ zero_size;
      shows = λ n t region.
          none_loose (shown c' n region) (bit_in loose region) (ap (λ (x : List ℕ). bit_in x region) none ∙ no_bit region)
          ∙ ap (λ (x : List ℕ). bit_in x region) (mended.holds n (sym (mended.kept.each n).tells ∙ t)) ∙ ap (λ (x : List ℕ). bit_in x region) (sym is);
    }

-- what was mended, settles
pub settles : (c c' : Copies) (image sure loose sure' loose' : List ℕ) → sure' ≡ image → loose' ≡ zeros 512 → IsMended {T = Unit {0}} image c c' (Ok tt) →
    IsSettled image (record { copies = c; sure = sure; loose = loose }) (record { copies = c'; sure = sure'; loose = loose' })
settles c c' image sure loose sure' loose' is none mended = record { kept = kept_of c c' sure loose sure' loose' mended.kept; holds = λ t n. mended.holds n (each_tells c t n); sure = is; loose = none }

pub settles_part : (c c' : Copies) (image sure loose : List ℕ) (fault : MarkFault) → IsMended {T = Unit {0}} image c c' (Err fault) →
    MaySettle image (record { copies = c; sure = sure; loose = loose }) (record { copies = c'; sure = sure; loose = loose })
settles_part c c' image sure loose fault mended = record { kept = kept_of c c' sure loose sure loose mended.kept; holds = λ t n. mended.holds n (each_tells c t n) }

-- what is known of each sector of a page is known of one
pub known_at : (known : Option ℕ) (images : List (List ℕ)) (sectors : List SectorSeen) (m : ℕ) → m < length sectors → AreKnownOn known images sectors → IsKnownOn known (image_at images m) (sector_at sectors m).copies
known_at None images sectors m lt all = tt
known_at (Some n) images sectors m lt all = all m lt

-- nothing is read
pub reads_none : (s : SectorSeen) → ReadsSector s s
reads_none s = record { copies = record { kept = copies_same s.copies; told = λ n. refl }; sure = refl; loose = refl }

-- what was settled, and what was not called
pub settled_may : (bytes : List ℕ) (a b : SectorSeen) → IsSettled bytes a b → MaySettle bytes a b
settled_may bytes a b h = record { kept = h.kept; holds = λ t n. inr (h.holds t n) }

pub settled_none : (bytes : List ℕ) (s : SectorSeen) → MaySettle bytes s s
settled_none bytes s = record { kept = keeps_none s; holds = λ t n. inl refl }

-- ---- arming

pub told_if : (b : Bool) (stop : Option ℕ) (p : Seen) → (if b then p else record p { stop = stop }).told ≡ p.told
told_if true stop p = refl
told_if false stop p = refl

pub sectors_if : (b : Bool) (stop : Option ℕ) (p : Seen) → (if b then p else record p { stop = stop }).sectors ≡ p.sectors
sectors_if true stop p = refl
sectors_if false stop p = refl

same_formed : (c c' : Copies) (sure loose : List ℕ) → ((n : ℕ) → (copy_of c' n).told ≡ (copy_of c n).told) → ((n : ℕ) → (copy_of c' n).sectors ≡ (copy_of c n).sectors) →
    IsFormed (record { copies = c; sure = sure; loose = loose }) → IsFormed (record { copies = c'; sure = sure; loose = loose })
same_formed c c' sure loose told sectors formed =
    record {
      sectors = λ n. sectors n ∙ formed.sectors n;
      sure = formed.sure;
      loose = formed.loose;
      shows = λ n t region. ap (λ t. bit_in (told_or t 0) region && not (bit_in loose region)) (told n) ∙ formed.shows n (sym (ap (λ t. is_some t) (told n)) ∙ t) region;
    }

pub armed_one : (stop : Option ℕ) (f f' : Seen) (sure loose : List ℕ) → f' ≡ armed stop f → IsFormed (record { copies = record { first = f; second = None }; sure = sure; loose = loose }) →
    IsFormed (record { copies = record { first = f'; second = None }; sure = sure; loose = loose })
armed_one stop f f' sure loose is formed =
    let same : f'.told ≡ f.told = ap (λ (x : Seen). x.told) is ∙ told_if f.cut stop f in
    let size : f'.sectors ≡ f.sectors = ap (λ (x : Seen). x.sectors) is ∙ sectors_if f.cut stop f in
    same_formed _ _ sure loose (told same) (sectors size) formed
  where
    told : f'.told ≡ f.told → (n : ℕ) → (copy_of (record { first = f'; second = None }) n).told ≡ (copy_of (record { first = f; second = None }) n).told
    told same zero = same
    told same (suc n) = same

    sectors : f'.sectors ≡ f.sectors → (n : ℕ) → (copy_of (record { first = f'; second = None }) n).sectors ≡ (copy_of (record { first = f; second = None }) n).sectors
    sectors size zero = size
    sectors size (suc n) = size

pub armed_pair : (stop : Option ℕ) (f f' p q : Seen) (sure loose : List ℕ) → f' ≡ armed stop f → q ≡ armed stop p → IsFormed (record { copies = record { first = f; second = Some p }; sure = sure; loose = loose }) →
    IsFormed (record { copies = record { first = f'; second = Some q }; sure = sure; loose = loose })
armed_pair stop f f' p q sure loose one two formed =
    let same : f'.told ≡ f.told = ap (λ (x : Seen). x.told) one ∙ told_if f.cut stop f in
    let size : f'.sectors ≡ f.sectors = ap (λ (x : Seen). x.sectors) one ∙ sectors_if f.cut stop f in
    let same' : q.told ≡ p.told = ap (λ (x : Seen). x.told) two ∙ told_if p.cut stop p in
    let size' : q.sectors ≡ p.sectors = ap (λ (x : Seen). x.sectors) two ∙ sectors_if p.cut stop p in
    same_formed _ _ sure loose (told same same') (sectors size size') formed
  where
    told : f'.told ≡ f.told → q.told ≡ p.told → (n : ℕ) → (copy_of (record { first = f'; second = Some q }) n).told ≡ (copy_of (record { first = f; second = Some p }) n).told
    told a b zero = a
    told a b (suc n) = b

    sectors : f'.sectors ≡ f.sectors → q.sectors ≡ p.sectors → (n : ℕ) → (copy_of (record { first = f'; second = Some q }) n).sectors ≡ (copy_of (record { first = f; second = Some p }) n).sectors
    sectors a b zero = a
    sectors a b (suc n) = b

-- an item of a list of which each is made another
pub mapped_at : (stop : Option ℕ) (xs : List SectorSeen) (m : ℕ) → m < length xs → sector_at (armed_sectors stop xs) m ≡ armed_sector stop (sector_at xs m)
mapped_at stop [] m lt = absurd (omega arith)
mapped_at stop (x ∷ xs) zero lt = refl
mapped_at stop (x ∷ xs) (suc m) lt = mapped_at stop xs m (omega arith)

pub second_armed : (stop : Option ℕ) (s : Option Seen) → is_some (option_map (armed stop) s) ≡ is_some s
second_armed stop None = refl
second_armed stop (Some p) = refl

pub armed_paired : (stop : Option ℕ) (xs : List SectorSeen) → ArePairedAlike xs → ArePairedAlike (armed_sectors stop xs)
armed_paired stop xs pair m lt =
    let size = length-map xs (armed_sector stop) in
    let some : 0 < length xs = omega (arith, size, lt) in
    let inside : m < length xs = omega (arith, size, lt) in
    ap (λ (s : SectorSeen). is_some s.copies.second) (mapped_at stop xs m inside) ∙ second_armed stop (sector_at xs m).copies.second ∙ pair m inside
    ∙ sym (ap (λ (s : SectorSeen). is_some s.copies.second) (mapped_at stop xs 0 some) ∙ second_armed stop (sector_at xs 0).copies.second)

-- ---- lists

-- where each item is what this makes of it, the list is
pub each_is : {A : Type 0} (none : A) (f : A → A) (xs ys : List A) → EachItem none (λ i a b. b ≡ f a) xs ys → ys ≡ map f xs
each_is {A = A} none f xs ys each = go xs ys each.size each.each
  where
    go : (xs ys : List A) → length ys ≡ length xs → ((i : ℕ) → i < length xs → item_at none ys i ≡ f (item_at none xs i)) → ys ≡ map f xs
    go [] [] size each = refl
    go [] (y ∷ ys) size each = absurd (omega arith)
    go (x ∷ xs) [] size each = absurd (omega arith)
    go (x ∷ xs) (y ∷ ys) size each = rw (each 0 (omega arith), go xs ys (omega arith) (λ i lt. each (suc i) (omega arith))) refl

-- ---- images

pub image_is : (images : List (Vec ℕ)) (i : ℕ) (q : Vec ℕ) → i < length images → q ≡ get_or images i q → image_at (images_seen images) i ≡ q.items
image_is [] i q lt is = absurd (omega arith)
image_is (x ∷ xs) zero q lt is = ap (λ (v : Vec ℕ). v.items) (sym is)
image_is (x ∷ xs) (suc i) q lt is = image_is xs i q (omega arith) is

pub images_count : (images : List (Vec ℕ)) → AreImages (images_seen images) → length images ≡ 32
images_count images are = sym (length-map images (λ (image : Vec ℕ). image.items)) ∙ are.maps

pub images_set : (images : List (Vec ℕ)) (i : ℕ) (q : Vec ℕ) → i < length images → length q.items ≡ 512 → AreImages (images_seen images) → AreImages (images_seen (set images i q))
images_set images i q lt len are =
    record {
      maps = set_size [] (λ (image : Vec ℕ). image.items) images i q ∙ are.maps;
      whole = λ m inside.
          elim (cases_order m i) [
            | inl same ↦ ap (λ (k : ℕ). length (image_at (images_seen (set images i q)) k)) same ∙ ap (λ (x : List ℕ). length x) (at_set [] (λ (image : Vec ℕ). image.items) images i q lt) ∙ len
            | inr (inl low) ↦ ap (λ (x : List ℕ). length x) (at_other [] (λ (image : Vec ℕ). image.items) images i m q (λ e. absurd (omega arith))) ∙ are.whole m inside
            | inr (inr high) ↦ ap (λ (x : List ℕ). length x) (at_other [] (λ (image : Vec ℕ). image.items) images i m q (λ e. absurd (omega arith))) ∙ are.whole m inside
          ];
    }

pub gives_on : (images : List (Vec ℕ)) (i : ℕ) (q : Vec ℕ) (pieces : ℕ → Seen) → i < length images → ((m : ℕ) → m < i → IsWhatIs (image_at (images_seen images) m) (pieces m)) → IsWhatIs q.items (pieces i) →
    (m : ℕ) → m < i + 1 → IsWhatIs (image_at (images_seen (set images i q)) m) (pieces m)
gives_on images i q pieces lt before here m inside =
    elim (cases_order m i) [
      | inl same ↦ subst (λ (k : ℕ). IsWhatIs (image_at (images_seen (set images i q)) k) (pieces k)) (sym same) (subst (λ (x : List ℕ). IsWhatIs x (pieces i)) (sym (at_set [] (λ (image : Vec ℕ). image.items) images i q lt)) here)
      | inr (inl low) ↦ subst (λ (x : List ℕ). IsWhatIs x (pieces m)) (sym (at_other [] (λ (image : Vec ℕ). image.items) images i m q (λ e. absurd (omega arith)))) (before m low)
      | inr (inr high) ↦ absurd (omega arith)
    ]
