-- The pieces are taken, and the volume opened over them.
use Rattle.std.proofs.Common.{◌≡◌, ◌∙◌, ◌++◌, inl, inr, List, length, map, refl, sym, ap, subst}
use Rattle.std.specs.Prelude.{is_some, nat_lt}
use Rattle.std.specs.List.{flat_map}
use Rattle.std.proofs.lemmas.List.{length-map}
use Rattle.std.proofs.lemmas.Result.{IfErr-weaker, IfOk-weaker, on_err_weaker}
use Rattle.vx_piece.specs.Seen.{Seen}
use Rattle.vx_carve.proofs.Same.{same_refl, same_trans}
use Rattle.vx_cell.specs.Plexes.{PlexSeen, plexes_seen}
use Rattle.vx_maps.specs.Spares.{copies_seen}
use Rattle.vx_volume.specs.Opening.{regions_seen}
use Rattle.vx_lending.specs.Left.{held_pieces}
use Rattle.vx_lending.specs.Pieces.{volume_pieces}
use Rattle.vx_lending.proofs.Goings.{go_from, go_then}
use Rattle.vx_lending.specs.Public.{remaining_pieces, still_pieces}
use Rattle.vx_group_start.specs.Started.{IsStarted}
use Rattle.vx_group_start.specs.Fresh.{is_fresh}
use Rattle.vx_group_start.specs.Together.{GoByLog}
use Rattle.vx_group_start.proofs.Starts.{AreTakenFor, gone_by, ok_both, started_over, still_taken, unstarted_by}
use Rattle.vx_group_start.proofs.Together.{among}
use Rattle.vx_group_start.proofs.opening.open_form.Goals as goal

pub open_taken-requires-clause-openable : goal.open_taken-requires-clause-openable
open_taken-requires-clause-openable g c κs within log fits =
    c.requires.openable log (regions_seen g.P.Piece.seen c.in-Ok.pieces.regions.items) fits (length-map c.in-Ok.pieces.regions.items (λ plexes. plexes_seen g.P.Piece.seen plexes.items) ∙ c.in-Ok.ensures.long) c.in-Ok.ensures.regions

pub returns-in-Ok-clause-started : goal.returns-in-Ok-clause-started
returns-in-Ok-clause-started g c =
    let regions : List (List PlexSeen) = regions_seen g.P.Piece.seen c.in-Ok.pieces.regions.items in
    let copies : List (List Seen) = copies_seen g.P.Piece.seen c.in-Ok.pieces.copies.items in
    let taken : AreTakenFor c.args.numbers.now (map g.P.Piece.seen c.args.public.now.pool.items.items) (map g.P.Piece.seen c.take_pieces.new.pool.items.items) regions copies c.args.form = record {
      long = length-map c.in-Ok.pieces.regions.items (λ plexes. plexes_seen g.P.Piece.seen plexes.items) ∙ c.in-Ok.ensures.long;
      regions_are = c.in-Ok.ensures.regions;
      copies_are = c.in-Ok.ensures.copies;
      same = c.in-Ok.ensures.taken;
      others = c.in-Ok.ensures.others;
    } in
    IfOk-weaker c.open_taken.result _ _
    (λ running both. subst (λ p. IsStarted g.P.Piece.seen c.args.vol.now c.args.numbers.now c.args.public.now p running) (sym both.1)
    (started_over c.args.vol.now c.args.numbers.now c.args.public.now (record c.args.public.now { pool = c.take_pieces.new.pool }) refl regions copies c.args.form taken running both.0))
    (ok_both c.open_taken.result _ _ c.open_taken.ensures.starts c.open_taken.ensures.same)

pub returns-in-Ok-clause-goes : goal.returns-in-Ok-clause-goes
returns-in-Ok-clause-goes g c =
    let regions : List (List PlexSeen) = regions_seen g.P.Piece.seen c.in-Ok.pieces.regions.items in
    let copies : List (List Seen) = copies_seen g.P.Piece.seen c.in-Ok.pieces.copies.items in
    let taken : AreTakenFor c.args.numbers.now (map g.P.Piece.seen c.args.public.now.pool.items.items) (map g.P.Piece.seen c.take_pieces.new.pool.items.items) regions copies c.args.form = record {
      long = length-map c.in-Ok.pieces.regions.items (λ plexes. plexes_seen g.P.Piece.seen plexes.items) ∙ c.in-Ok.ensures.long;
      regions_are = c.in-Ok.ensures.regions;
      copies_are = c.in-Ok.ensures.copies;
      same = c.in-Ok.ensures.taken;
      others = c.in-Ok.ensures.others;
    } in
    IfOk-weaker c.open_taken.result _ _
    (λ running both. subst (λ p. GoByLog c.args.numbers.now running.form (is_fresh c.args.vol.now.state) (still_pieces g.P.Piece.seen c.args.public.now) (held_pieces g.P.Piece.seen running.volume ++ still_pieces g.P.Piece.seen p)) (sym both.1)
    (gone_by c.args.vol.now c.args.numbers.now c.args.public.now (record c.args.public.now { pool = c.take_pieces.new.pool }) refl regions copies c.args.form taken c.requires.few running both.0))
    (ok_both c.open_taken.result _ _ c.open_taken.ensures.starts c.open_taken.ensures.same)

pub returns-in-Ok-clause-refused : goal.returns-in-Ok-clause-refused
returns-in-Ok-clause-refused g c =
    let regions : List (List PlexSeen) = regions_seen g.P.Piece.seen c.in-Ok.pieces.regions.items in
    let copies : List (List Seen) = copies_seen g.P.Piece.seen c.in-Ok.pieces.copies.items in
    let taken : AreTakenFor c.args.numbers.now (map g.P.Piece.seen c.args.public.now.pool.items.items) (map g.P.Piece.seen c.take_pieces.new.pool.items.items) regions copies c.args.form = record {
      long = length-map c.in-Ok.pieces.regions.items (λ plexes. plexes_seen g.P.Piece.seen plexes.items) ∙ c.in-Ok.ensures.long;
      regions_are = c.in-Ok.ensures.regions;
      copies_are = c.in-Ok.ensures.copies;
      same = c.in-Ok.ensures.taken;
      others = c.in-Ok.ensures.others;
    } in
    let dco : is_some c.args.vol.now.dco ≡ nat_lt 0 (length copies) = c.requires.logged ∙ ap (nat_lt 0) (sym c.in-Ok.ensures.copies.long) in
    IfErr-weaker c.open_taken.result _ _
    (λ fault h. unstarted_by c.args.vol.now c.args.numbers.now c.args.public.now (record c.args.public.now { pool = c.take_pieces.new.pool }) refl regions copies c.args.form taken c.open_taken.new.public fault dco h)
    c.open_taken.ensures.refused

pub returns-in-Ok-clause-back : goal.returns-in-Ok-clause-back
returns-in-Ok-clause-back g c =
    on_err_weaker c.open_taken.result
    (λ goes. go_then _ _ _
    (go_from _ _
    (still_taken (volume_pieces g.P.Piece.seen c.in-Ok.pieces) (map g.P.Piece.seen c.args.public.now.pool.items.items) (map g.P.Piece.seen c.take_pieces.new.pool.items.items) (flat_map (remaining_pieces g.P.Piece.seen) c.args.public.now.left.items) c.in-Ok.ensures.taken))
    goes)
    c.open_taken.ensures.back

pub returns-in-Err-clause-back : goal.returns-in-Err-clause-back
returns-in-Err-clause-back g c =
    go_from _ _
    (same_trans _ _ _
    (still_taken (volume_pieces g.P.Piece.seen c.in-Err.pieces) (map g.P.Piece.seen c.args.public.now.pool.items.items) (map g.P.Piece.seen c.take_pieces.new.pool.items.items) (flat_map (remaining_pieces g.P.Piece.seen) c.args.public.now.left.items) c.in-Err.ensures.kept)
    c.put_back.ensures.still)

pub returns-in-Ok-clause-comes_back : goal.returns-in-Ok-clause-comes_back
unfolding among
returns-in-Ok-clause-comes_back g c =
    let copies : List (List Seen) = copies_seen g.P.Piece.seen c.in-Ok.pieces.copies.items in
    let mid : List Seen = volume_pieces g.P.Piece.seen c.in-Ok.pieces ++ still_pieces g.P.Piece.seen (record c.args.public.now { pool = c.take_pieces.new.pool }) in
    let new : List Seen = still_pieces g.P.Piece.seen c.open_taken.new.public in
    on_err_weaker c.open_taken.result
    (λ go. inr (record {
      copies = copies;
      are = c.in-Ok.ensures.copies;
      nearer = go.nearer;
      go = among copies mid new (still_pieces g.P.Piece.seen c.args.public.now) new
          (still_taken (volume_pieces g.P.Piece.seen c.in-Ok.pieces) (map g.P.Piece.seen c.args.public.now.pool.items.items) (map g.P.Piece.seen c.take_pieces.new.pool.items.items) (flat_map (remaining_pieces g.P.Piece.seen) c.args.public.now.left.items) c.in-Ok.ensures.taken)
          go.go (same_refl new);
    }))
    c.open_taken.ensures.comes_back

pub returns-in-Err-clause-comes_back : goal.returns-in-Err-clause-comes_back
returns-in-Err-clause-comes_back g c =
    inl
    (same_trans _ _ _
    (still_taken (volume_pieces g.P.Piece.seen c.in-Err.pieces) (map g.P.Piece.seen c.args.public.now.pool.items.items) (map g.P.Piece.seen c.take_pieces.new.pool.items.items) (flat_map (remaining_pieces g.P.Piece.seen) c.args.public.now.left.items) c.in-Err.ensures.kept)
    c.put_back.ensures.still)
