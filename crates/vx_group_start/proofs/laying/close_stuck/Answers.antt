-- One volume after the other is put back, the last one first.
use Rattle.std.proofs.Common.{rules, ◌≡◌, ◌∙◌, ◌++◌, [], ◌∷◌}
use Rattle.std.specs.List.{flat_map}
use Rattle.vx_carve.proofs.Same.{same_trans}
use Rattle.vx_volume.specs.Volume.{IsVolume, volume_seen}
use Rattle.vx_lending.specs.Public.{running_pieces, still_pieces, stuck_pieces}
use Rattle.vx_group_start.proofs.OneByOne.{all_but_last, last_first}
use Rattle.vx_group_start.proofs.laying.close_stuck.Goals as goal

pub close_or_keep-requires-clause-whole : goal.close_or_keep-requires-clause-whole
close_or_keep-requires-clause-whole g c κs within =
    let items : c.stuck.public.stuck.items ≡ c.pop.new.self.items ++ c.in-Some.running ∷ [] = search rules in
    (all_but_last (λ r. IsVolume (volume_seen g.P.Piece.seen r.volume)) c.stuck.public.stuck.items c.pop.new.self.items c.in-Some.running items c.stuck.invariant.volumes).1

pub close_or_keep-requires-clause-stuck : goal.close_or_keep-requires-clause-stuck
close_or_keep-requires-clause-stuck g c κs within =
    let items : c.stuck.public.stuck.items ≡ c.pop.new.self.items ++ c.in-Some.running ∷ [] = search rules in
    (all_but_last (λ r. IsVolume (volume_seen g.P.Piece.seen r.volume)) c.stuck.public.stuck.items c.pop.new.self.items c.in-Some.running items c.stuck.invariant.volumes).0

pub stuck-preserved : goal.stuck-preserved
stuck-preserved g c =
    let items : c.stuck.public.stuck.items ≡ c.pop.new.self.items ++ c.in-Some.running ∷ [] = search rules in
    record {
      together = same_trans _ _ _ c.stuck.invariant.together
          (same_trans _ _ _ (last_first (stuck_pieces g.P.Piece.seen) c.stuck.public.stuck.items c.pop.new.self.items c.in-Some.running (still_pieces g.P.Piece.seen c.stuck.public) (flat_map (running_pieces g.P.Piece.seen) c.stuck.public.running.entries) items)
          c.close_or_keep.ensures.together);
      volumes = c.close_or_keep.ensures.stuck;
      running = c.close_or_keep.ensures.running ∙ c.stuck.invariant.running;
    }

pub returns-in_err-close_or_keep-clause-together : goal.returns-in_err-close_or_keep-clause-together
returns-in_err-close_or_keep-clause-together g c =
    let items : c.stuck.public.stuck.items ≡ c.pop.new.self.items ++ c.in-Some.running ∷ [] = search rules in
    same_trans _ _ _ c.stuck.invariant.together
    (same_trans _ _ _ (last_first (stuck_pieces g.P.Piece.seen) c.stuck.public.stuck.items c.pop.new.self.items c.in-Some.running (still_pieces g.P.Piece.seen c.stuck.public) (flat_map (running_pieces g.P.Piece.seen) c.stuck.public.running.entries) items)
    c.close_or_keep.ensures.together)
