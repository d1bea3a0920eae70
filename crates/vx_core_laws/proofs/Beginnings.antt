-- A new history begins in a settled region.
use Rattle.std.proofs.Common.{◌≡◌, inl, inr, ℕ, refl, sym, subst}
use Rattle.vx_mask.specs.Mask.{has}
use Rattle.vx_core.specs.declared.stage.Phase.{Phase}
use Rattle.vx_core.specs.declared.stage.Phase.TheVariants.{Settled}
use Rattle.vx_core.specs.Region.{RegionState}
use Rattle.vx_core.specs.Soundness.{IsOpen, IsSoundUnder, IsUnmarked}
use Rattle.vx_core.specs.Schedule.{IsIdle, IsFresh}
use Rattle.vx_core.proofs.Ends.{sound_from_ends, ends_from_sound}
use Rattle.vx_core_laws.specs.Course.{IsKeptState}
use Rattle.vx_core_laws.specs.Beginning.{begun_over, EachSettledBegins}

-- what soundness says with the bits for the marks
at_bits : (r : RegionState) → IsKeptState r → IsSoundUnder r.stage r.stage.phase r.around (has r.stage.bits)
at_bits r kept = kept.sound.under (has r.stage.bits) (record { least = λ k bit. bit; most = λ k bit. inl bit })

-- a plex of the region that is on and unmarked
abbrev current_of : (r : RegionState) → IsKeptState r → ℕ
current_of r kept = (at_bits r kept).readable.0

current_unmarked : (r : RegionState) (kept : IsKeptState r) → IsUnmarked r.around (has r.stage.bits) (current_of r kept)
current_unmarked r kept = let u = (at_bits r kept).readable in (kept.form.stage.held_on u.0 u.1, u.2)

closed : {phase : Phase} → phase ≡ Settled → IsOpen phase → ⊥
closed {phase} settled is = subst (λ (p : Phase). IsOpen p) settled is

settled_agree : (r : RegionState) (kept : IsKeptState r) → r.stage.phase ≡ Settled → (k b : ℕ) → IsUnmarked r.around (has r.stage.bits) k →
    r.around.disks.blocks k b ≡ r.around.disks.blocks (current_of r kept) b
settled_agree r kept settled k b unmarked =
    elim (at_bits r kept).agree [ inl agree ↦ agree k (current_of r kept) b unmarked (current_unmarked r kept) | inr may ↦ absurd (closed settled may.0) ]

fresh_over : (r : RegionState) (kept : IsKeptState r) → r.stage.phase ≡ Settled → IsFresh (begun_over (r.around.disks.blocks (current_of r kept)) r)
fresh_over r kept settled =
    let ends = ends_from_sound kept.sound in
    record {
      stage = kept.form.stage;
      apart = kept.apart;
      sound = sound_from_ends (record {
        shown = ends.shown;
        bounded = ends.bounded;
        readable = (ends.readable.0, ends.readable.1, record { bits = ends.readable.2.bits; loose = ends.readable.2.loose; freeing = ends.readable.2.freeing });
        candidates = λ k b at. inl (settled_agree r kept settled k b at);
        agree = elim ends.agree [ inl agree ↦ inl agree | inr may ↦ absurd (closed settled may.0) ];
        tracked = ends.tracked;
        marked = ends.marked;
      });
      idle = subst (λ (phase : Phase). IsIdle phase) (sym settled) tt;
      no_call = refl;
      no_entries = refl;
      no_number = refl;
    }

pub settled_begins : EachSettledBegins
settled_begins r kept settled = (
  r.around.disks.blocks (current_of r kept),
  record {
    hold = settled_agree r kept settled;
    among = λ b. (at_bits r kept).candidates (current_of r kept) b (current_unmarked r kept);
    fresh = fresh_over r kept settled;
  },
)
