-- What was left over last is the plex.
use Rattle.std.proofs.Common.{◌≡◌, ◌∙◌, ◌++◌, [], ◌∷◌, Ok, map, refl, sym, ap, subst}
use Rattle.vx_stage_changes.specs.Committing.{CommitEnds}
use Rattle.vx_volume.specs.Changing.{runs_seen}
use Rattle.vx_volume.specs.Opening.{regions_seen}
use Rattle.vx_lending.specs.RegionPieces.{all_pieces, pieces_of}
use Rattle.vx_carve.specs.Together.{SameSectors}
use Rattle.vx_lending.specs.Public.{still_pieces}
use Rattle.vx_stage_mirrors.specs.Joining.{PutsOne, runs_left}
use Rattle.vx_stage_mirrors.proofs.Entries.{public_but}
use Rattle.vx_stage_mirrors.proofs.joining.join_plex.Goals as goal

pub returns-in-Ok-commit : goal.returns-in-Ok-commit
returns-in-Ok-commit g c =
    let see = g.P.Piece.seen in
    let may = c.requires.may in
    let out = c.unpark_plex.ensures.unparked may.before may.last may.left_is in
    let runs : runs_seen see c.runs_of-runs.result.items ≡ runs_left see may.last = c.runs_of-runs.ensures ∙ ap (λ v. map pieces_of (regions_seen see v.items)) out.0 in
    record {
      ends = record {
        config = refl;
        finished = subst (λ t. CommitEnds see (Ok tt) t c.args.group.now.base c.commit.new.base) c.deref.ensures.value c.in-Ok-commit.ensures.ends;
        last = may.last;
        left = may.left_is ∙ ap (λ rs. rs ++ may.last ∷ []) (sym out.1);
        still = subst (λ v. SameSectors (still_pieces see c.args.group.now.public) (all_pieces (regions_seen see v.items) ++ still_pieces see c.unpark_plex.new.public)) out.0 c.unpark_plex.ensures.still;
        runs = subst (λ m. PutsOne see c.args.name.now c.args.map c.args.layout (runs_left see may.last) m c.put_running.new.running) c.unpark_plex.ensures.running
            (subst (λ rs. PutsOne see c.args.name.now c.args.map c.args.layout rs c.unpark_plex.new.public.running c.put_running.new.running) runs c.put_running.ensures);
        same = public_but c.args.group.now.public c.unpark_plex.new.public.pool c.unpark_plex.new.public.left c.put_running.new.running c.unpark_plex.new.public.stuck c.unpark_plex.ensures.pool c.unpark_plex.ensures.stuck;
      };
    }
