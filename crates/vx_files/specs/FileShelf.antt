-- What a shelf of files tells: which devices are held, how often they have failed, and how often it failed itself.
use Rattle.std.specs.Prelude.{◌≡◌, ℕ, Option, Some, None, refl}
use Rattle.std.specs.BTreeMap.{BTreeMap, get}
use Rattle.std.specs.Cmp.Lexicographic.{slice_cmp}
use Rattle.std.specs.Ordering.{nat_cmp}
use Rattle.std.proofs.Common.{◌∙◌, ap, sym}
use Rattle.std.proofs.lemmas.Option.{none-some, same_Some}
use Rattle.vx_base.specs.Named.{Word}
use Rattle.vx_shelf.specs.Shelf as shelf
use Rattle.vx_shelf.specs.Shelf.{Held}
use Rattle.vx_files.specs.Known.{held_with, held_by, held_in, counted_in, AreNumbered}
use Rattle.vx_files.specs.declared.known.Known.{Known}
use Rattle.vx_files.specs.declared.file_shelf.FileShelf.{FileShelf}

abbrev pub held_by_files : {R : Type 0} → FileShelf R → Word → Option Held
held_by_files s = held_in s.known

abbrev pub counted_by_files : {R : Type 0} → FileShelf R → Word → ℕ
counted_by_files s = counted_in s.known

abbrev pub shelf_faults : {R : Type 0} → FileShelf R → ℕ
shelf_faults s = s.faults

-- what is held has the number that it is known by
number_held : (device : ℕ) (held : Option ℕ) (x : Held) → held_with device held ≡ Some x → device ≡ x.device
number_held device None x is = absurd (none-some x is)
number_held device (Some sectors) x is = ap (λ h. h.device) (same_Some (let h : Held = record { device = device; sectors = sectors } in h) x is)

-- two devices that are held have two numbers
pub held_numbered : (known : BTreeMap Word Known) → AreNumbered known → shelf.AreNumbered (held_in known)
held_numbered known numbered a b x y at_a at_b same = by_cases (get (slice_cmp nat_cmp) known a) (get (slice_cmp nat_cmp) known b) refl refl at_a at_b
  where
    by_cases : (k l : Option Known) → get (slice_cmp nat_cmp) known a ≡ k → get (slice_cmp nat_cmp) known b ≡ l → held_by k ≡ Some x → held_by l ≡ Some y → a ≡ b
    by_cases None l e f here there = absurd (none-some x here)
    by_cases (Some k) None e f here there = absurd (none-some y there)
    by_cases (Some k) (Some l) e f here there = numbered.apart a b k l e f (number_held k.device k.held x here ∙ same ∙ sym (number_held l.device l.held y there))
