-- What a kept group gives: its devices have numbers of their own, its good disks have slots that have numbers, and no sector is twice in its pool.
use Rattle.std.proofs.Common.{◌≡◌, ◌∙◌, ℕ, ◌+◌, ◌<◌, ◌≤◌, ◌==◌, Bool, true, false, cond, not, List, [], ◌∷◌, ◌++◌, map, length, Some, None, refl, sym, subst, arith}
use Rattle.std.specs.Prelude.{◌||◌, Decides, nat_le}
use Rattle.std.specs.List.{All, flat_map}
use Rattle.std.proofs.lemmas.Bool.{and_parts}
use Rattle.std.proofs.lemmas.Bool.Decides.{Decides-eqb}
use Rattle.std.proofs.lemmas.List.Elements.{All-nil, All-cons}
use Rattle.std.proofs.lemmas.List.Sums.{sum_by-cons}
use Rattle.vx_mask.specs.Mask.{has}
use Rattle.vx_pages.specs.declared.local_piece.LocalPiece.{Ghosts}
use Rattle.vx_piece.specs.Seen.{Seen}
use Rattle.vx_carve.specs.Together.{AreOnce, owners}
use Rattle.vx_carve.specs.Together.{has as has_sector}
use Rattle.vx_config_parts.specs.declared.disk.Disk.{Disk as Record}
use Rattle.vx_copies.specs.Disks.{IsReady, disk_seen}
use Rattle.vx_copies.specs.Lists.{AllOf}
use Rattle.vx_copies.specs.declared.disk.Disk.{Disk}
use Rattle.vx_confdb.specs.Groups.{members}
use Rattle.vx_fronts.specs.Parted.{IsFront, fronts_of}
use Rattle.vx_fronts.proofs.Parted.{few_fronts, has_first, parted_once}
use Rattle.vx_fronts.proofs.Joined.{parts_once}
use Rattle.vx_lending.specs.Public.{lent_pieces, remaining_pieces, still_pieces}
use Rattle.vx_lending.specs.FormLaws.{AreNumbered, good_disks}
use Rattle.vx_house.specs.View.{IsGroupKept}
use Rattle.vx_house.specs.declared.house.Imported.{Imported}
use Rattle.vx_stage_volumes.specs.Disks.{has_disk, have_disks, is_disk_of}
use Rattle.vx_stage_volumes.specs.Numbers.{HaveOwnNumbers, number_at}

module _ {P : Type 0} (see : P → Seen) where
  -- the number of a slot is that of a device whose first sector is in a front
  front_of : (ds : List (Disk P)) (slot number : ℕ) → AllOf IsFront (map (disk_seen see) ds) → number_at see ds slot ≡ Some number → 1 ≤ owners number 0 (fronts_of (map (disk_seen see) ds))
  front_of [] slot number fronts is = absurd (let no : None ≡ Some number = is in cc)
  front_of (d ∷ ds) slot number fronts is = by (d.slot == slot) is (front_of ds slot number fronts.1)
    where
      by : (b : Bool) → cond b (Some (see d.piece).device) (number_at see ds slot) ≡ Some number → (number_at see ds slot ≡ Some number → 1 ≤ owners number 0 (fronts_of (map (disk_seen see) ds))) → 1 ≤ owners number 0 (fronts_of (map (disk_seen see) (d ∷ ds)))
      by true e rest =
          let same : (see d.piece).device ≡ number = cc in
          let sum = sum_by-cons (has_sector number 0) (see d.piece) (fronts_of (map (disk_seen see) ds)) in
          let one : has_sector number 0 (see d.piece) ≡ 1 = subst (λ n. has_sector n 0 (see d.piece) ≡ 1) same (has_first (disk_seen see d) fronts.0) in
          omega (arith, sum, one)
      by false e rest =
          let sum = sum_by-cons (has_sector number 0) (see d.piece) (fronts_of (map (disk_seen see) ds)) in
          let more = rest e in
          omega (arith, sum, more)

  -- two slots have two numbers, where no two fronts have a sector
  own_numbers : (ds : List (Disk P)) → AllOf IsFront (map (disk_seen see) ds) → ((number : ℕ) → owners number 0 (fronts_of (map (disk_seen see) ds)) ≤ 1) → HaveOwnNumbers see ds
  own_numbers [] fronts few slot other number is there = absurd (let no : None ≡ Some number = is in cc)
  own_numbers (d ∷ ds) fronts few slot other number is there =
      by (d.slot == slot) (Decides-eqb d.slot slot) (d.slot == other) (Decides-eqb d.slot other) is there (λ x. front_of ds slot number fronts.1 x) (λ x. front_of ds other number fronts.1 x)
      (own_numbers ds fronts.1 (λ n. let sum = sum_by-cons (has_sector n 0) (see d.piece) (fronts_of (map (disk_seen see) ds)) in let le = few n in omega (arith, sum, le)) slot other number)
    where
      both : (see d.piece).device ≡ number → 1 ≤ owners number 0 (fronts_of (map (disk_seen see) ds)) → ⊥
      both same more =
          let sum = sum_by-cons (has_sector number 0) (see d.piece) (fronts_of (map (disk_seen see) ds)) in
          let one : has_sector number 0 (see d.piece) ≡ 1 = subst (λ n. has_sector n 0 (see d.piece) ≡ 1) same (has_first (disk_seen see d) fronts.0) in
          let le = few number in
          omega (arith, sum, one, le, more)

      by : (a : Bool) → Decides a (d.slot ≡ slot) → (b : Bool) → Decides b (d.slot ≡ other) → cond a (Some (see d.piece).device) (number_at see ds slot) ≡ Some number → cond b (Some (see d.piece).device) (number_at see ds other) ≡ Some number →
          (number_at see ds slot ≡ Some number → 1 ≤ owners number 0 (fronts_of (map (disk_seen see) ds))) → (number_at see ds other ≡ Some number → 1 ≤ owners number 0 (fronts_of (map (disk_seen see) ds))) →
          (number_at see ds slot ≡ Some number → number_at see ds other ≡ Some number → slot ≡ other) → slot ≡ other
      by true p true q e f first then rest = sym (p.0 refl) ∙ q.0 refl
      by true p false q e f first then rest = let same : (see d.piece).device ≡ number = cc in absurd (both same (then f))
      by false p true q e f first then rest = let same : (see d.piece).device ≡ number = cc in absurd (both same (first e))
      by false p false q e f first then rest = rest e f

  -- the slot of a record that has a disk is one of a group
  low_slot : (ds : List (Disk P)) → AllOf IsReady (map (disk_seen see) ds) → (r : Record) → has_disk ds r ≡ true → r.slot < 32
  low_slot [] ready r is = absurd (let no : false ≡ true = is in cc)
  low_slot (d ∷ ds) ready r is = by (is_disk_of r d) refl is (low_slot ds ready.1 r)
    where
      by : (b : Bool) → is_disk_of r d ≡ b → (b || has_disk ds r) ≡ true → (has_disk ds r ≡ true → r.slot < 32) → r.slot < 32
      by true e all rest = let two = and_parts (d.slot == r.slot) (nat_le (2048 + r.publen) d.sectors) e in let same : d.slot ≡ r.slot = (Decides-eqb d.slot r.slot).0 two.0 in subst (λ n. n < 32) same ready.0.slot
      by false e all rest = rest all

  pub numbered_by : (ds : List (Disk P)) → AllOf IsReady (map (disk_seen see) ds) → (good : ℕ) (rs : List Record) → have_disks ds good rs ≡ true → (numbers : List ℕ) → length numbers ≡ 32 → AreNumbered numbers good rs
  numbered_by ds ready good [] all numbers long = All-nil (λ (r : Record). r.slot < length numbers)
  numbered_by ds ready good (r ∷ rs) all numbers long =
      let two = and_parts (not (has good r.slot) || has_disk ds r) (have_disks ds good rs) all in
      by (has good r.slot) two.0 (numbered_by ds ready good rs two.1 numbers long)
    where
      by : (b : Bool) → (not b || has_disk ds r) ≡ true → All (λ (x : Record). x.slot < length numbers) (good_disks good rs) → All (λ (x : Record). x.slot < length numbers) (cond b (r ∷ good_disks good rs) (good_disks good rs))
      by true is rest = All-cons (λ (x : Record). x.slot < length numbers) r (good_disks good rs) (subst (λ n. r.slot < n) (sym long) (low_slot ds ready r is)) rest
      by false is rest = rest

module _ {P : Type 0} {ghosts : Ghosts P} (see : P → Seen) (g : Imported P ghosts) (kept : IsGroupKept see g) where
  pub own_by : HaveOwnNumbers see g.base.disks.items
  own_by = own_numbers see g.base.disks.items kept.whole.parted.fronts (λ number. few_fronts (members see g.base) (still_pieces see g.public ++ lent_pieces see g.public) kept.whole.parted number 0)

  pub ready_by : AllOf IsReady (members see g.base)
  ready_by = kept.carries.alive.ready

  -- no sector is twice in the pool
  pub pool_once : AreOnce (map see g.public.pool.items.items)
  pool_once =
      let all = parted_once (members see g.base) (still_pieces see g.public ++ lent_pieces see g.public) kept.whole.parted in
      let behind = (parts_once (fronts_of (members see g.base)) (still_pieces see g.public ++ lent_pieces see g.public) all).1 in
      let still = (parts_once (still_pieces see g.public) (lent_pieces see g.public) behind).0 in
      (parts_once (map see g.public.pool.items.items) (flat_map (remaining_pieces see) g.public.left.items) still).0
