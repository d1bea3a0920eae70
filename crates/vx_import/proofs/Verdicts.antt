-- What is chosen, and what is answered of it.
use Rattle.std.proofs.Common.{◌≡◌, ℕ, ◌<◌, ◌≤◌, ◌^◌, List, length, Some, sym, arith, subst, inl, inr}
use Rattle.vx_base.specs.Named.{Word}
use Rattle.vx_header.specs.Said.{Said}
use Rattle.vx_copies.specs.Lists.{AllOf}
use Rattle.vx_import.specs.Looks.{Looked, HasReading}
use Rattle.vx_import.specs.Choice.{At, IsTop, HasNone, HoldsText}
use Rattle.vx_import.specs.Answers.{IsOf, IsChosen, IsEmpty, IsDamaged, RefusedIs}
use Rattle.vx_import.specs.declared.naming.Damage.{Damage}
use Rattle.vx_import.proofs.Offers.{given_none, given_top}
use Rattle.vx_import.proofs.Passes.{all_ours}

pub empty_is : (group : Word) (fs : List Looked) → AllOf (IsOf group) fs → AllOf HasReading fs → AllOf HasNone fs → IsEmpty group fs
empty_is group fs of read none = record { read = read; none = none; gives = λ tells. given_none group fs (all_ours group fs of read) tells none }

module _ (group : Word) (fs : List Looked) (index : ℕ) (t : Said) (text : List ℕ) (long : length text ≡ t.length) (fits : t.length ≤ 522240) (mask : t.good < 2 ^ 32)
    (top : IsTop index t fs) (holds : At index (HoldsText t text) fs) (read : AllOf HasReading fs) (of : AllOf (IsOf group) fs) where
  pub chosen_is : IsChosen group t.sequence t.good text fs
  chosen_is = record {
    index = index;
    half = t.half;
    read = read;
    top = subst (λ n. IsTop index (record { sequence = t.sequence; half = t.half; length = n; good = t.good }) fs) (sym long) top;
    holds = subst (λ n. At index (HoldsText (record { sequence = t.sequence; half = t.half; length = n; good = t.good }) text) fs) (sym long) holds;
    fits = omega (arith, long, fits);
    mask_fits = mask;
    gives = λ tells. given_top group fs index t text (all_ours group fs of read) tells top.place top.up_to top.before holds;
  }

  pub refused_is : (d : Damage) → RefusedIs (Some d) index t fs → IsDamaged group d fs
  unfolding chosen_is
  refused_is d (inl high) = inr (inl (record { sequence = t.sequence; good = t.good; text = text; chosen = chosen_is; high = high.0; disk_is = high.1; byte_is = high.2 }))
  refused_is d (inr hurt) = inr (inr (record { sequence = t.sequence; good = t.good; text = text; chosen = chosen_is; low = hurt.0; first = hurt.1 }))
