-- How an attempt ends, and how a commit goes on after one.
use Rattle.std.proofs.Common.{◌≡◌, ℕ, ◌+◌, ◌≤◌, Bool, true, false, cond, List, [], ◌∷◌, length, map, refl, sym, ap, ◌∙◌, arith}
use Rattle.std.specs.Prelude.{◌&&◌, ◌||◌, ◌==◌}
use Rattle.vx_piece.specs.Seen.{Seen}
use Rattle.vx_copies.specs.declared.disk.Disk.{Disk}
use Rattle.vx_copies.specs.declared.disk.Pass.{Pass}
use Rattle.vx_copies.specs.declared.disk.Pass.TheVariants.{Done, Dropped, Cut}
use Rattle.vx_copies.specs.Lists.{Each}
use Rattle.vx_copies.specs.Disks.{DiskSeen, disk_seen, CommitGoes, good_count, is_good_slot, good_mask}
use Rattle.vx_copies.specs.Pass.{HalvesEnd, TogglesEnd}
use Rattle.vx_copies.specs.Commit.{AttemptEnds}
use Rattle.vx_mask.specs.Mask.{has, only, union}
use Rattle.vx_copies.proofs.StepLaws.{all_trans, all_wider, each_trans, same_trans}
use Rattle.vx_copies.proofs.GoodCounts.{same_count}

pub halves_tried : (r : Pass) (sequence : ℕ) (text : List ℕ) (old new : List DiskSeen) → (r ≡ Done → ⊥) → HalvesEnd r text old new → AttemptEnds r sequence text old new
halves_tried Done sequence text old new not ends = absurd (not refl)
halves_tried Dropped sequence text old new not ends = ends
halves_tried Cut sequence text old new not ends = ends

-- the good slots are the same where slots and goodness are
pub same_slots : (slot : ℕ) (hs bs : List DiskSeen) → Each (λ a b. b.slot ≡ a.slot) hs bs → Each (λ a b. b.good ≡ a.good) hs bs → is_good_slot slot bs ≡ is_good_slot slot hs
same_slots slot [] [] p q = refl
same_slots slot [] (b ∷ bs) p q = absurd p
same_slots slot (a ∷ hs) [] p q = absurd p
same_slots slot (a ∷ hs) (b ∷ bs) p q = ap (λ x. (x && b.slot == slot) || is_good_slot slot bs) q.0 ∙ ap (λ n. (a.good && n == slot) || is_good_slot slot bs) p.0 ∙ ap (λ x. (a.good && a.slot == slot) || x) (same_slots slot hs bs p.1 q.1)

pub same_mask : (hs bs : List DiskSeen) → Each (λ a b. b.slot ≡ a.slot) hs bs → Each (λ a b. b.good ≡ a.good) hs bs → good_mask bs ≡ good_mask hs
same_mask [] [] p q = refl
same_mask [] (b ∷ bs) p q = absurd p
same_mask (a ∷ hs) [] p q = absurd p
same_mask (a ∷ hs) (b ∷ bs) p q = ap (λ x. cond x (union (good_mask bs) (only b.slot)) (good_mask bs)) q.0 ∙ ap (λ n. cond a.good (union (good_mask bs) (only n)) (good_mask bs)) p.0 ∙ ap (λ m. cond a.good (union m (only a.slot)) m) (same_mask hs bs p.1 q.1)

pub toggles_tried : (r : Pass) (sequence mask : ℕ) (text : List ℕ) (old mid new : List DiskSeen) → Each (λ a b. b.good ≡ a.good) old mid → Each (λ a b. b.slot ≡ a.slot) old new → ((slot : ℕ) → has mask slot ≡ is_good_slot slot old) → mask ≡ good_mask old → TogglesEnd r sequence mask text mid new → AttemptEnds r sequence text old new
toggles_tried Done sequence mask text old mid new same slots names just ends =
    let good = each_trans (λ (a b : DiskSeen). b.good ≡ a.good) same_trans old mid new same ends.2 in
    (ends.0, record { mask = mask; names = λ slot. names slot ∙ sym (same_slots slot old new slots good); just = just ∙ sym (same_mask old new slots good); each = ends.1 }, good)
toggles_tried Dropped sequence mask text old mid new same slots names just ends = let less = ends.1 in let count = same_count old mid same in (ends.0, omega (arith, less, count))
toggles_tried Cut sequence mask text old mid new same slots names just ends = ends

-- one more attempt
pub one_more : (first last : ℕ) (text : List ℕ) (a b c : List DiskSeen) → first ≤ last + 1 → Each (CommitGoes first last text) a b → Each (CommitGoes (last + 1) (last + 1) text) b c → Each (CommitGoes first (last + 1) text) a c
one_more first last text a b c le before now =
    all_trans first (last + 1) text a b c (all_wider first first last (last + 1) text a b (omega arith) (omega arith) before) (all_wider (last + 1) first (last + 1) (last + 1) text b c le (omega arith) now)

count_one : (b : Bool) → cond b 1 0 ≤ 1
count_one true = omega arith
count_one false = omega arith

pub count_few : {P : Type 0} (see : P → Seen) (ds : List (Disk P)) → good_count (map (disk_seen see) ds) ≤ length ds
count_few see [] = omega arith
count_few see (d ∷ ds) = let rest = count_few see ds in let one = count_one d.good in omega (arith, rest, one)
