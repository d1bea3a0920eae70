use Rattle.std.proofs.Common.{refl, arith}
use Rattle.std.proofs.lemmas.List.{length-map}
use Rattle.vx_copies.specs.Disks.{disk_seen}
use Rattle.vx_confdb.specs.Texts.{text_of}
use Rattle.vx_copies.proofs.Chains.{all_first}
use Rattle.vx_confdb.proofs.NoOffers.{members_of}
use Rattle.vx_confdb.proofs.Labels.{headed_stays, slots_stay, ready_slots, alive_group, lost_by}
use Rattle.vx_confdb.proofs.group.Group.write.Goals as goal

pub returns-in-Ok-clause-written : goal.returns-in-Ok-clause-written
returns-in-Ok-clause-written g c =
    let carried = c.in-Ok.ensures.carried in
    record {
      committed = record {
        name = refl;
        goes = carried.goes;
        old_or_new = carried.old_or_new c.args.self.now.name c.requires.alive.below;
        order = carried.order c.args.self.now.name c.args.self.now.sequence c.requires.alive.below;
        few = carried.few;
      };
      lead = λ tells. carried.lead c.args.self.now.name c.args.self.now.sequence (omega arith) c.requires.alive.below (members_of c.args.self.now.name _ tells (all_first _ c.args.carriers _ c.requires.alive.headed));
      ends = record {
        lost = c.requires.going;
        holds = refl;
        offers = carried.ends.1;
        gives = carried.ok c.args.self.now.name c.requires.alive.below;
        alive = record {
          ready = carried.ends.0;
          headed = headed_stays c.args.self.now.name _ _ _ _ _ carried.goes c.requires.alive.headed;
          below = carried.below c.args.self.now.name c.requires.alive.below;
          few = omega (arith, c.write_all.ensures.long, c.requires.alive.few);
        };
      };
      recorded = carried.recorded;
      done = carried.done;
      exact = carried.exact;
    }

pub returns-in-Ok-clause-sound : goal.returns-in-Ok-clause-sound
returns-in-Ok-clause-sound g c = λ missing others sound. c.write_all.ensures.carried.sound c.args.self.now.name missing others sound

pub returns-in-Ok-clause-all : goal.returns-in-Ok-clause-all
returns-in-Ok-clause-all g c = λ missing others sound. rw (length-map c.args.self.now.disks.items (disk_seen g.P.Piece.seen)) at c.in-Ok.ensures.carried.all c.args.self.now.name missing others sound

pub returns-in-Err-clause-written : goal.returns-in-Err-clause-written
returns-in-Err-clause-written g c =
    let carried = c.write_all.ensures.carried in
    record {
      committed = record {
        name = refl;
        goes = carried.goes;
        old_or_new = carried.old_or_new c.args.self.now.name c.requires.alive.below;
        order = carried.order c.args.self.now.name c.args.self.now.sequence c.requires.alive.below;
        few = carried.few;
      };
      lead = λ tells. carried.lead c.args.self.now.name c.args.self.now.sequence (omega arith) c.requires.alive.below (members_of c.args.self.now.name _ tells (all_first _ c.args.carriers _ c.requires.alive.headed));
      ends = rw c.fault_of.ensures (lost_by g.P.Piece.seen c.write_all.result c.in-Err.lost c.args.carriers c.write_all.new.sequence (text_of c.args.text) c.args.self.now _ c.in-Err.is refl carried.ends);
      recorded = carried.recorded;
      done = tt;
      exact = tt;
    }

pub returns-in-Ok-clause-group : goal.returns-in-Ok-clause-group
returns-in-Ok-clause-group g c =
    let carried = c.in-Ok.ensures.carried in
    alive_group g.P.Piece.seen _ c.requires.going (record {
      ready = carried.ends.0;
      headed = headed_stays c.args.self.now.name _ _ _ _ _ carried.goes c.requires.alive.headed;
      below = carried.below c.args.self.now.name c.requires.alive.below;
      few = omega (arith, c.write_all.ensures.long, c.requires.alive.few);
    })

pub returns-in-Err-clause-group : goal.returns-in-Err-clause-group
returns-in-Err-clause-group g c = slots_stay _ _ _ _ _ c.write_all.ensures.carried.goes (ready_slots _ c.requires.alive.ready)

pub returns-in-Err-clause-sound : goal.returns-in-Err-clause-sound
returns-in-Err-clause-sound g c = λ missing others sound. c.write_all.ensures.carried.sound c.args.self.now.name missing others sound
