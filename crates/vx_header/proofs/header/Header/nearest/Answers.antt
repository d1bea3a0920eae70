use Rattle.std.proofs.Common.{◌≡◌, List, ℕ, arith, sym, ◌∙◌, subst}
use Rattle.std.proofs.lemmas.List.{take_rest}
use Rattle.vx_sector.proofs.FieldLemmas.{same_eight}
use Rattle.vx_header.specs.Nearest.{IsLongestName}
use Rattle.vx_header.proofs.header.Header.nearest.Goals as goal

pub returns : goal.returns
returns c =
    let OfGroup : List ℕ → Type 0 = λ xs. IsLongestName xs c.longest_name-group.result in
    let OfDisk : List ℕ → Type 0 = λ xs. IsLongestName xs c.longest_name-disk.result in
    record {
      of_group = subst OfGroup (take_rest c.args.sector.now 8) c.longest_name-group.ensures.longest;
      of_disk = subst OfDisk (take_rest c.args.sector.now 40) c.longest_name-disk.ensures.longest;
      of_slot = c.slot_in-slot.ensures.same;
      of_sectors = λ n low high e.
          let same : c.u64_at.result ≡ n = same_eight _ n (omega arith) (omega arith) (c.u64_at.ensures ∙ sym e) in
          c.sectors_in-sectors.ensures.same (omega (arith, same)) (omega (arith, same)) ∙ same;
    }
