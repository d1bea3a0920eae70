use Rattle.std.proofs.Common.{◌≡◌, ◌∙◌, sym, ap, length}
use Rattle.std.proofs.lemmas.List.{with_items_is, length-map}
use Rattle.vx_copies.specs.Disks.{disk_seen}
use Rattle.vx_confdb.proofs.Zeros.{carried_in}
use Rattle.vx_confdb.proofs.writing.write_all.Goals as goal

pub returns : goal.returns
returns g c =
    let len : length c.commit.new.disks ≡ c.args.disks.now.len = c.commit.auto.disks ∙ c.deref_mut.ensures.len in
    let whole = with_items_is c.args.disks.now c.commit.new.disks len in
    record {
      carried = carried_in g.P.Piece.seen c.commit.result c.args.carriers c.args.sequence.now c.commit.new.sequence c.text-whole.result.now _ c.deref_mut.result.now c.args.disks.now.items c.commit.new.disks _ c.text-whole.ensures c.deref_mut.ensures.value (sym whole)
          (record {
            old_or_new = c.commit.ensures.old_or_new;
            ok = c.commit.ensures.ok;
            below = c.commit.ensures.below;
            ends = c.commit.ensures.ends;
            goes = c.commit.ensures.goes;
            sound = c.commit.ensures.sound;
            order = c.commit.ensures.order;
            lead = c.commit.ensures.lead;
            all = rw (length-map c.deref_mut.result.now (disk_seen g.P.Piece.seen)) c.commit.ensures.all;
            recorded = c.commit.ensures.recorded;
            done = c.commit.ensures.done;
            exact = c.commit.ensures.exact;
            more = c.commit.ensures.more;
            few = c.commit.ensures.few;
          });
      long = ap (λ xs. length xs) whole ∙ c.commit.auto.disks ∙ ap (λ xs. length xs) c.deref_mut.ensures.value;
    }
