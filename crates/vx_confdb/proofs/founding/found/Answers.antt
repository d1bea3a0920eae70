use Rattle.std.proofs.Common.{◌≡◌, ◌≤◌, length, map, None, refl, ◌∙◌, arith}
use Rattle.std.proofs.lemmas.List.{length-map}
use Rattle.vx_copies.specs.Disks.{disk_seen}
use Rattle.vx_confdb.specs.Prepare.{AllPrepared}
use Rattle.vx_confdb.specs.declared.joining.Prepared.TheVariants.{Done, Cut}
use Rattle.vx_confdb.specs.Texts.{text_of}
use Rattle.vx_confdb.proofs.Labels.{headed_stays}
use Rattle.vx_copies.proofs.ToggleOrder.{none_newer}
use Rattle.vx_copies.specs.Written.{sectors_of}
use Rattle.vx_confdb.proofs.Enlistment.{all_begun, all_enlisted, all_just, done_all}
use Rattle.vx_confdb.proofs.NoOffers.{none_all, none_below, prepared_ready, prepared_headed, none_or_text, none_still, all_prepare, all_join, refused_by, tell_all, sound_none}
use Rattle.vx_confdb.specs.Create.{IsBegun}
use Rattle.vx_confdb.specs.Groups.{IsAlive}
use Rattle.vx_confdb.proofs.founding.found.Goals as goal

pub returns-in-Cut-clause-gives : goal.returns-in-Cut-clause-gives
returns-in-Cut-clause-gives g c =
    let ends : AllPrepared Cut c.args.name (map (disk_seen g.P.Piece.seen) c.join_all.new.disks.items) = rw c.in-Cut.is at c.join_all.ensures.joined.ends in
    let none = none_all c.args.name _ _ c.join_all.ensures.joined.prepares c.requires.none in
    (record { joins = all_prepare c.args.name (text_of c.args.text) _ _ c.join_all.ensures.joined.prepares; none_or_text = none_still c.args.name (text_of c.args.text) _ none; order = none_newer c.args.name 0 _ (none_below c.args.name 0 _ none) }, ends)

pub write_all-requires-clause-ready : goal.write_all-requires-clause-ready
write_all-requires-clause-ready g c κs within =
    let ends : AllPrepared Done c.args.name (map (disk_seen g.P.Piece.seen) c.join_all.new.disks.items) = rw c.in-Done.is at c.join_all.ensures.joined.ends in
    prepared_ready c.args.name _ ends

pub returns-in-Ok-clause-gives : goal.returns-in-Ok-clause-gives
returns-in-Ok-clause-gives g c =
    let carried = c.in-Ok.ensures.carried in
    let prepared : AllPrepared Done c.args.name (map (disk_seen g.P.Piece.seen) c.join_all.new.disks.items) = rw c.in-Done.is at c.join_all.ensures.joined.ends in
    let none = none_all c.args.name _ _ c.join_all.ensures.joined.prepares c.requires.none in
    let below = none_below c.args.name 0 _ none in
    let begun : IsBegun c.args.name (text_of c.args.text) (map (disk_seen g.P.Piece.seen) c.args.disks.items) (map (disk_seen g.P.Piece.seen) c.write_all.new.disks.items) = record {
      joins = all_join c.args.name 1 c.write_all.new.sequence (text_of c.args.text) _ _ _ c.join_all.ensures.joined.prepares prepared carried.goes;
      none_or_text = none_or_text c.args.name 1 c.write_all.new.sequence (text_of c.args.text) _ _ none (carried.old_or_new c.args.name below);
      order = carried.order c.args.name 0 below;
    } in
    rw c.of.ensures (record {
      name_is = refl;
      few = carried.few;
      begun = begun;
      carries = record {
        lost = refl;
        holds = refl;
        offers = carried.ends.1;
        gives = carried.ok c.args.name below;
        alive = record {
          ready = carried.ends.0;
          headed = headed_stays c.args.name _ _ _ _ _ carried.goes (prepared_headed c.args.name _ prepared);
          below = carried.below c.args.name below;
          few = omega (arith, c.write_all.ensures.long, c.join_all.ensures.long, c.requires.few);
        };
      };
    })

pub returns-in-Ok-clause-sound : goal.returns-in-Ok-clause-sound
returns-in-Ok-clause-sound g c = λ missing others none_else tells.
    let carried = c.in-Ok.ensures.carried in
    let prepared : AllPrepared Done c.args.name (map (disk_seen g.P.Piece.seen) c.join_all.new.disks.items) = rw c.in-Done.is at c.join_all.ensures.joined.ends in
    let none = none_all c.args.name _ _ c.join_all.ensures.joined.prepares c.requires.none in
    let below = none_below c.args.name 0 _ none in
    let sound = carried.all c.args.name missing others (sound_none c.args.name missing others 0 c.len-carriers.result _ none_else none (tell_all c.args.name _ _ c.join_all.ensures.joined.prepares tells) (prepared_headed c.args.name _ prepared)) in
    let long : length (map (disk_seen g.P.Piece.seen) c.join_all.new.disks.items) ≡ length c.args.disks.items = length-map c.join_all.new.disks.items (disk_seen g.P.Piece.seen) ∙ c.join_all.ensures.long in
    rw c.of.ensures (rw long at sound)

pub returns-in-Err-clause-gives : goal.returns-in-Err-clause-gives
returns-in-Err-clause-gives g c =
    let carried = c.write_all.ensures.carried in
    let prepared : AllPrepared Done c.args.name (map (disk_seen g.P.Piece.seen) c.join_all.new.disks.items) = rw c.in-Done.is at c.join_all.ensures.joined.ends in
    let none = none_all c.args.name _ _ c.join_all.ensures.joined.prepares c.requires.none in
    let below = none_below c.args.name 0 _ none in
    let begun : IsBegun c.args.name (text_of c.args.text) (map (disk_seen g.P.Piece.seen) c.args.disks.items) (map (disk_seen g.P.Piece.seen) c.write_all.new.disks.items) = record {
      joins = all_join c.args.name 1 c.write_all.new.sequence (text_of c.args.text) _ _ _ c.join_all.ensures.joined.prepares prepared carried.goes;
      none_or_text = none_or_text c.args.name 1 c.write_all.new.sequence (text_of c.args.text) _ _ none (carried.old_or_new c.args.name below);
      order = carried.order c.args.name 0 below;
    } in
    let few : length (map (disk_seen g.P.Piece.seen) c.join_all.new.disks.items) ≤ c.len-carriers.result = omega (arith, length-map c.join_all.new.disks.items (disk_seen g.P.Piece.seen), c.join_all.new.disks.ok.0, c.len-carriers.ensures) in
    let few' : length (map (disk_seen g.P.Piece.seen) c.write_all.new.disks.items) ≤ c.len-carriers.result = omega (arith, few, length-map c.join_all.new.disks.items (disk_seen g.P.Piece.seen), length-map c.write_all.new.disks.items (disk_seen g.P.Piece.seen), c.write_all.ensures.long) in
    rw c.fault_of.ensures (refused_by g.P.Piece.seen c.write_all.result c.in-Err.lost c.len-carriers.result c.write_all.new.sequence c.args.name (text_of c.args.text) c.args.disks.items c.join_all.new.disks.items c.write_all.new.disks.items c.in-Err.is few few' begun c.join_all.ensures.joined.prepares carried.goes carried.ends)

pub returns-in-Ok-clause-group : goal.returns-in-Ok-clause-group
returns-in-Ok-clause-group g c =
    let carried = c.in-Ok.ensures.carried in
    let prepared : AllPrepared Done c.args.name (map (disk_seen g.P.Piece.seen) c.join_all.new.disks.items) = rw c.in-Done.is at c.join_all.ensures.joined.ends in
    let none = none_all c.args.name _ _ c.join_all.ensures.joined.prepares c.requires.none in
    let below = none_below c.args.name 0 _ none in
    let alive : IsAlive g.P.Piece.seen (record { name = c.args.name; disks = c.write_all.new.disks; sequence = c.write_all.new.sequence; text = c.args.text; lost = None }) = record {
      ready = carried.ends.0;
      headed = headed_stays c.args.name _ _ _ _ _ carried.goes (prepared_headed c.args.name _ prepared);
      below = carried.below c.args.name below;
      few = omega (arith, c.write_all.ensures.long, c.join_all.ensures.long, c.requires.few);
    } in
    rw c.of.ensures alive

pub returns-in-Cut-clause-writes : goal.returns-in-Cut-clause-writes
returns-in-Cut-clause-writes g c = record { last = 0; few = omega arith; are = all_begun c.args.name (text_of c.args.text) _ _ c.join_all.ensures.joined.prepares c.join_all.ensures.joined.fronts }

pub returns-in-Ok-clause-writes : goal.returns-in-Ok-clause-writes
returns-in-Ok-clause-writes g c =
    let carried = c.in-Ok.ensures.carried in
    let prepared : AllPrepared Done c.args.name (map (disk_seen g.P.Piece.seen) c.join_all.new.disks.items) = rw c.in-Done.is at c.join_all.ensures.joined.ends in
    let few : length (map (disk_seen g.P.Piece.seen) c.join_all.new.disks.items) ≤ c.len-carriers.result = omega (arith, length-map c.join_all.new.disks.items (disk_seen g.P.Piece.seen), c.join_all.new.disks.ok.0, c.len-carriers.ensures) in
    let few' : length (map (disk_seen g.P.Piece.seen) c.write_all.new.disks.items) ≤ c.len-carriers.result = omega (arith, few, length-map c.join_all.new.disks.items (disk_seen g.P.Piece.seen), length-map c.write_all.new.disks.items (disk_seen g.P.Piece.seen), c.write_all.ensures.long) in
    rw c.of.ensures (record {
      are = all_enlisted c.args.name (text_of c.args.text) (map (disk_seen g.P.Piece.seen) c.args.disks.items) (map (disk_seen g.P.Piece.seen) c.join_all.new.disks.items) c.join_all.ensures.joined.prepares c.join_all.ensures.joined.fronts c.write_all.new.sequence (map (disk_seen g.P.Piece.seen) c.write_all.new.disks.items) prepared carried.goes carried.recorded;
      done = done_all c.len-carriers.result c.write_all.new.sequence (text_of c.args.text) (map (disk_seen g.P.Piece.seen) c.write_all.new.disks.items) few' carried.done;
      exact = all_just c.args.name (text_of c.args.text) (map (disk_seen g.P.Piece.seen) c.args.disks.items) (map (disk_seen g.P.Piece.seen) c.join_all.new.disks.items) c.join_all.ensures.joined.prepares c.join_all.ensures.joined.fronts c.write_all.new.sequence (map (disk_seen g.P.Piece.seen) c.write_all.new.disks.items) prepared carried.goes carried.recorded 2 (sectors_of (text_of c.args.text)) (c.join_all.ensures.joined.just c.in-Done.is) carried.exact;
    })

pub returns-in-Err-clause-writes : goal.returns-in-Err-clause-writes
returns-in-Err-clause-writes g c =
    let carried = c.write_all.ensures.carried in
    let prepared : AllPrepared Done c.args.name (map (disk_seen g.P.Piece.seen) c.join_all.new.disks.items) = rw c.in-Done.is at c.join_all.ensures.joined.ends in
    record {
      last = c.write_all.new.sequence;
      few = carried.few;
      are = all_enlisted c.args.name (text_of c.args.text) (map (disk_seen g.P.Piece.seen) c.args.disks.items) (map (disk_seen g.P.Piece.seen) c.join_all.new.disks.items) c.join_all.ensures.joined.prepares c.join_all.ensures.joined.fronts c.write_all.new.sequence (map (disk_seen g.P.Piece.seen) c.write_all.new.disks.items) prepared carried.goes carried.recorded;
    }
