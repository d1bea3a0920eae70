use Rattle.std.proofs.Common.{◌≡◌, arith, sym, ◌∙◌}
use Rattle.vx_sector.proofs.FieldLemmas.{same_eight, same_four}
use Rattle.vx_header.proofs.toggle.Toggle.nearest.Goals as goal

pub returns : goal.returns
returns c = record {
  of_sequence = λ n some small e.
      let same : c.u64_at.result ≡ n = same_eight _ n (omega arith) small (c.u64_at.ensures ∙ sym e) in omega (arith, same);
  of_half = c.half_in-half.ensures.same;
  of_text = λ n few e.
      let same : c.u32_at.result ≡ n = same_four _ n (omega arith) (omega arith) (c.u32_at.ensures ∙ sym e) in omega (arith, same);
  of_good = λ n small e. same_four _ n (omega arith) small (c.u32_at-good.ensures ∙ sym e);
}
