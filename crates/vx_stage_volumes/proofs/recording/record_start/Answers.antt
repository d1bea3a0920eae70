use Rattle.std.proofs.Common.{rules, Ok, refl, subst}
use Rattle.std.specs.BTreeMap.{get}
use Rattle.std.specs.Cmp.Lexicographic.{slice_cmp}
use Rattle.std.specs.Ordering.{nat_cmp}
use Rattle.vx_stage_changes.specs.Committing.{CommitEnds}
use Rattle.vx_stage_volumes.proofs.Entries.{put_under}
use Rattle.vx_stage_volumes.proofs.recording.record_start.Goals as goal

pub returns-in-Ok : goal.returns-in-Ok
returns-in-Ok g c = record {
  ends = record {
    config = refl;
    finished = subst (λ t. CommitEnds g.P.Piece.seen (Ok tt) t c.args.group.now.base c.commit.new.base) c.deref.ensures.value c.in-Ok.ensures.ends;
    same = refl;
    entries = search rules;
    puts = λ q. put_under c.args.name q c.args.running (get (slice_cmp nat_cmp) c.args.group.now.public.running q) _ (search rules);
  };
}
