use Rattle.std.proofs.Common.{◌∙◌, ◌+◌, ◌-◌, ◌*◌, ◌/◌, ◌%◌, ◌<◌, ap, arith, rules, length, get_or}
use Rattle.std.specs.Prelude.{◌&&◌, nat_lt}
use Rattle.vx_mask.specs.Mask.{has}
use Rattle.vx_volume.proofs.LowBits.{byte_on, page_bit}
use Rattle.vx_volume.proofs.bytes.page_of.Goals as goal

pub loop-place-preserved : goal.loop-place-preserved
loop-place-preserved c =
    let inside : c.loop-place.place < length c.loop-place.image = let e = c.loop-place.invariant.size in omega (arith, e) in
    record {
      size = search rules;
      bits =
          byte_on (λ j k. has (get_or c.args.bytes.now (512 * c.args.page + j) 0) k && nat_lt k (c.args.regions - 8 * (512 * c.args.page + j))) c.loop-place.image c.loop-place.place c.low_bits.result inside c.loop-place.invariant.bits
          (λ k low.
          c.low_bits.ensures k low ∙ ap (λ byte. has byte k && nat_lt k c.saturating_sub.result) c.byte_at.ensures
          ∙ ap (λ count. has (get_or c.args.bytes.now (512 * c.args.page + c.loop-place.place) 0) k && nat_lt k count) c.saturating_sub.ensures);
    }

pub returns : goal.returns
returns c region same =
    c.loop-place.invariant.bits (region % 4096 / 8) (region % 8) (let e = c.loop-place-test.false in omega (arith, e)) (omega arith) ∙ page_bit c.args.bytes.now c.args.page c.args.regions region same
