use Rattle.std.proofs.Common.{◌*◌, arith, ◌∙◌, sym, ap}
use Rattle.std.proofs.lemmas.List.{length-take-le}
use Rattle.vx_copies.proofs.Halves.{few_sectors}
use Rattle.vx_import.proofs.choosing.take_one.Goals as goal

pub slice_bounds-read_text-end : goal.slice_bounds-read_text-end
slice_bounds-read_text-end g c = omega (arith, c.sectors_for-bytes.ensures.sectors, few_sectors c.args.toggle.now.length c.args.toggle.now.text_fits, c.requires.room)

pub slice_bounds-read_text-end-2 : goal.slice_bounds-read_text-end-2
slice_bounds-read_text-end-2 g c = sym (length-take-le (512 * c.sectors_for-bytes.result) c.args.buffer.now (omega (arith, c.sectors_for-bytes.ensures.sectors, few_sectors c.args.toggle.now.length c.args.toggle.now.text_fits, c.requires.room)))

pub read_text-requires-clause-size : goal.read_text-requires-clause-size
read_text-requires-clause-size g c κs within = length-take-le (512 * c.sectors_for-bytes.result) c.args.buffer.now (omega (arith, c.sectors_for-bytes.ensures.sectors, few_sectors c.args.toggle.now.length c.args.toggle.now.text_fits, c.requires.room)) ∙ ap (λ n. 512 * n) c.sectors_for-bytes.ensures.sectors
