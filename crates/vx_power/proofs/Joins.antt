-- Two pieces that are one now, whose power a switch may have taken.
use Rattle.std.proofs.Common.{◌≡◌, ℕ, ◌+◌, ◌^◌, ◌<◌, Bool, true, false, ◌||◌, is_some, Option, Some, None, refl, sym, ◌∙◌, arith}
use Rattle.vx_base.specs.Counts.{later_count}
use Rattle.vx_piece.specs.Seen.{Seen, AreCounts, IsJoined}
use Rattle.vx_piece.specs.Told.{joined_told}
use Rattle.vx_power.specs.declared.views.View.{View}
use Rattle.vx_power.specs.declared.board.Acted.{Acted}
use Rattle.vx_power.specs.declared.board.Wire.{Wire}
use Rattle.vx_power.specs.Fused.{grown, powered_by, wired, acted_on, written_by, read_by, written_on, read_on}

-- what a switch that may have acted leaves as it was, and what it changes
record Shows (acted : Bool) (more_writes more_reads : ℕ) (seen shown : Seen) : Type 0 where
  pub device : shown.device ≡ seen.device
  pub start : shown.start ≡ seen.start
  pub sectors : shown.sectors ≡ seen.sectors
  pub told : shown.told ≡ seen.told
  pub faults : shown.faults ≡ seen.faults
  pub stop : shown.stop ≡ seen.stop
  pub cut : shown.cut ≡ (acted || seen.cut)
  pub writes : shown.writes ≡ later_count seen.writes more_writes
  pub reads : shown.reads ≡ later_count seen.reads more_reads

none_more : (count : ℕ) → count < 2 ^ 64 → count ≡ later_count count 0
none_more count few = omega arith

grown_later : (count more : ℕ) → count < 2 ^ 64 → grown count more ≡ later_count count more
grown_later count more few = omega arith

powered_shows : (acted : Option Acted) (view : View) (seen : Seen) → AreCounts seen → Shows (is_some acted) (written_by acted view) (read_by acted view) seen (powered_by acted view seen)
powered_shows None view seen are = record { device = refl; start = refl; sectors = refl; told = refl; faults = refl; stop = refl; cut = refl; writes = none_more _ are.writes; reads = none_more _ are.reads }
powered_shows (Some acted) view seen are = record { device = refl; start = refl; sectors = refl; told = refl; faults = refl; stop = refl; cut = refl; writes = grown_later _ view.writes are.writes; reads = grown_later _ view.reads are.reads }

wired_shows : (wire : Option Wire) (seen : Seen) → AreCounts seen → Shows (is_some (acted_on wire)) (written_on wire) (read_on wire) seen (wired wire seen)
wired_shows None seen are = record { device = refl; start = refl; sectors = refl; told = refl; faults = refl; stop = refl; cut = refl; writes = none_more _ are.writes; reads = none_more _ are.reads }
wired_shows (Some wire) seen are = powered_shows wire.acted wire.seat.me.0 seen are

either_order : (a b c d : Bool) → ((a || b) || (c || d)) ≡ ((a || c) || (b || d))
either_order true b c d = refl
either_order false true true d = refl
either_order false true false d = refl
either_order false false c d = refl

four_counts : (a b c d : ℕ) → later_count (later_count a b) (c + d) ≡ later_count (later_count a c) (later_count b d)
four_counts a b c d = omega arith

shown_joined : (aa ab ac : Bool) (wa wb wc ra rb rc : ℕ) (x y z s t u : Seen) → Shows aa wa ra x s → Shows ab wb rb y t → Shows ac wc rc z u → IsJoined x y z
    → ac ≡ (aa || ab) → wc ≡ wa + wb → rc ≡ ra + rb → IsJoined s t u
shown_joined aa ab ac wa wb wc ra rb rc x y z s t u a b c joined acted writes reads = record {
  device = c.device ∙ joined.device ∙ sym a.device;
  start = c.start ∙ joined.start ∙ sym a.start;
  sectors = let e = c.sectors in let f = joined.sectors in let g = a.sectors in let h = b.sectors in omega arith;
  stop = c.stop ∙ joined.stop ∙ sym a.stop;
  cut = c.cut ∙ (λ i. acted i || joined.cut i) ∙ either_order aa ab x.cut y.cut ∙ (λ i. sym a.cut i || sym b.cut i);
  faults = c.faults ∙ joined.faults ∙ (λ i. later_count (sym a.faults i) (sym b.faults i));
  writes = c.writes ∙ (λ i. later_count (joined.writes i) (writes i)) ∙ four_counts x.writes y.writes wa wb ∙ (λ i. later_count (sym a.writes i) (sym b.writes i));
  reads = c.reads ∙ (λ i. later_count (joined.reads i) (reads i)) ∙ four_counts x.reads y.reads ra rb ∙ (λ i. later_count (sym a.reads i) (sym b.reads i));
  told = c.told ∙ joined.told ∙ (λ i. joined_told (sym a.sectors i) (sym a.told i) (sym b.told i));
}

-- what is seen of two pieces on wires is joined where the pieces are, and the wires
pub wires_joined : (a b c : Option Wire) (x y z : Seen) → AreCounts x → AreCounts y → AreCounts z → IsJoined x y z
    → is_some (acted_on c) ≡ (is_some (acted_on a) || is_some (acted_on b)) → written_on c ≡ written_on a + written_on b → read_on c ≡ read_on a + read_on b
    → IsJoined (wired a x) (wired b y) (wired c z)
wires_joined a b c x y z of_x of_y of_z joined acted writes reads =
    shown_joined _ _ _ _ _ _ _ _ _ x y z _ _ _ (wired_shows a x of_x) (wired_shows b y of_y) (wired_shows c z of_z) joined acted writes reads
