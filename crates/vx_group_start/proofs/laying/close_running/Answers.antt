-- One volume after the other is put back, by their names.
use Rattle.std.proofs.Common.{◌≡◌, ◌∙◌, ap, sym, subst, ◌∷◌}
use Rattle.std.specs.Prelude.{◌<◌, vec_capacity, vec_len}
use Rattle.std.specs.List.{flat_map}
use Rattle.vx_carve.proofs.Same.{same_trans}
use Rattle.vx_volume.specs.Volume.{IsVolume, volume_seen}
use Rattle.vx_group_start.specs.Laying.{AreRunningVolumes}
use Rattle.vx_lending.specs.Public.{running_pieces, still_pieces, stuck_pieces}
use Rattle.vx_group_start.proofs.OneByOne.{all_behind, head_first, none_left}
use Rattle.vx_group_start.proofs.laying.close_running.Goals as goal

pub close_or_keep-requires-clause-whole : goal.close_or_keep-requires-clause-whole
close_or_keep-requires-clause-whole g c κs within =
    let was : c.running.public.running.entries ≡ (c.in-Some.field-0-0, c.in-Some.running) ∷ c.pop_first.new.self.entries = rw c.in-Some.is at c.pop_first.ensures.removal in
    (all_behind (λ e. IsVolume (volume_seen g.P.Piece.seen e.1.volume)) c.running.public.running.entries c.pop_first.new.self.entries (c.in-Some.field-0-0, c.in-Some.running) was c.running.invariant.volumes).0

pub running-preserved : goal.running-preserved
running-preserved g c =
    let was : c.running.public.running.entries ≡ (c.in-Some.field-0-0, c.in-Some.running) ∷ c.pop_first.new.self.entries = rw c.in-Some.is at c.pop_first.ensures.removal in
    record {
      together = same_trans _ _ _ c.running.invariant.together
          (same_trans _ _ _ (head_first (running_pieces g.P.Piece.seen) c.running.public.running.entries c.pop_first.new.self.entries (c.in-Some.field-0-0, c.in-Some.running) (still_pieces g.P.Piece.seen c.running.public) (flat_map (stuck_pieces g.P.Piece.seen) c.running.public.stuck.items) was)
          c.close_or_keep.ensures.together);
      volumes = subst (λ m. AreRunningVolumes g.P.Piece.seen m.entries) (sym c.close_or_keep.ensures.running)
          ((all_behind (λ e. IsVolume (volume_seen g.P.Piece.seen e.1.volume)) c.running.public.running.entries c.pop_first.new.self.entries (c.in-Some.field-0-0, c.in-Some.running) was c.running.invariant.volumes).1);
      stuck = c.close_or_keep.ensures.stuck;
      place = subst (λ s. vec_len s < vec_capacity s) (sym c.in_ok-close_or_keep.ensures.same) c.running.invariant.place;
      same = ap (λ s. s.items) c.in_ok-close_or_keep.ensures.same ∙ c.running.invariant.same;
    }

pub returns-in_err-close_or_keep-clause-together : goal.returns-in_err-close_or_keep-clause-together
returns-in_err-close_or_keep-clause-together g c =
    let was : c.running.public.running.entries ≡ (c.in-Some.field-0-0, c.in-Some.running) ∷ c.pop_first.new.self.entries = rw c.in-Some.is at c.pop_first.ensures.removal in
    same_trans _ _ _ c.running.invariant.together
    (same_trans _ _ _ (head_first (running_pieces g.P.Piece.seen) c.running.public.running.entries c.pop_first.new.self.entries (c.in-Some.field-0-0, c.in-Some.running) (still_pieces g.P.Piece.seen c.running.public) (flat_map (stuck_pieces g.P.Piece.seen) c.running.public.stuck.items) was)
    c.close_or_keep.ensures.together)

pub returns-in_err-close_or_keep-clause-volumes : goal.returns-in_err-close_or_keep-clause-volumes
returns-in_err-close_or_keep-clause-volumes g c =
    let was : c.running.public.running.entries ≡ (c.in-Some.field-0-0, c.in-Some.running) ∷ c.pop_first.new.self.entries = rw c.in-Some.is at c.pop_first.ensures.removal in
    subst (λ m. AreRunningVolumes g.P.Piece.seen m.entries) (sym c.close_or_keep.ensures.running)
    ((all_behind (λ e. IsVolume (volume_seen g.P.Piece.seen e.1.volume)) c.running.public.running.entries c.pop_first.new.self.entries (c.in-Some.field-0-0, c.in-Some.running) was c.running.invariant.volumes).1)

pub returns-clause-none : goal.returns-clause-none
returns-clause-none g c = c.in_default.ensures.unchanged ∙ none_left c.pop_first.result c.running.public.running.entries c.pop_first.ensures.variant.1 c.in_default.not-Some
