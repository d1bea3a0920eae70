-- A block whose newest entry is an acknowledged write has one candidate.
use Rattle.std.proofs.Common.{◌≡◌, ℕ, Bool, true, false, List, [], ◌∷◌, Option, Some, refl, subst, inl, inr}
use Rattle.std.specs.Prelude.{if◌then◌else◌}
use Rattle.vx_base.specs.Blocks.{is_in}
use Rattle.vx_life.specs.Candidates.{Candidates, IsAmong, Values}
use Rattle.vx_life.specs.Entry.{Entry, candidates_of, values_after}
use Rattle.vx_life.specs.declared.EntryKind.{EntryKind}
use Rattle.vx_life.specs.declared.EntryKind.TheVariants.{Read, Write, Torn, Missed}
use Rattle.vx_loss_laws.specs.Losses.{last_of, tells}
use Rattle.vx_loss_laws.specs.Laws.{EachAcknowledgedWriteIsHeld}

module _ (first : Candidates) (e : Entry) (b : ℕ) (write : e.kind ≡ Write) (value : List ℕ) where
  -- the entry itself
  written : (old : Values) → IsAmong (values_after e.kind (e.values b) old) value → value ≡ e.values b
  written old among = elim (subst (λ k. IsAmong (values_after k (e.values b) old) value) write among) [ inl is ↦ is | inr never ↦ absurd never ]

  -- one that tells nothing leaves what was
  missed : (k : EntryKind) (old : Values) (x : List ℕ) → tells k ≡ false → values_after k x old ≡ old
  missed Read old x off = cc
  missed Write old x off = cc
  missed Torn old x off = cc
  missed Missed old x off = refl

  -- an entry that has the block in its range
  told : (d : Entry) (old : Values) (rest : Option Entry) (t : Bool) → tells d.kind ≡ t → (if t then Some d else rest) ≡ Some e → IsAmong (values_after d.kind (d.values b) old) value → (rest ≡ Some e → IsAmong old value → value ≡ e.values b) → value ≡ e.values b
  told d old rest true is same now more = let one : d ≡ e = cc in written old (subst (λ (x : Entry). IsAmong (values_after x.kind (x.values b) old) value) one now)
  told d old rest false off last now more = more last (subst (λ vs. IsAmong vs value) (missed d.kind old (d.values b) off) now)

  newest : (d : Entry) (old : Values) (rest : Option Entry) (inside : Bool) → (if inside then (if tells d.kind then Some d else rest) else rest) ≡ Some e →
      IsAmong (if inside then values_after d.kind (d.values b) old else old) value → (rest ≡ Some e → IsAmong old value → value ≡ e.values b) → value ≡ e.values b
  newest d old rest true last now more = told d old rest (tells d.kind) refl last now more
  newest d old rest false last now more = more last now

  held : (entries : List Entry) → last_of b entries ≡ Some e → IsAmong (candidates_of first entries b) value → value ≡ e.values b
  held [] last among = cc
  held (d ∷ es) last among = newest d (candidates_of first es b) (last_of b es) (is_in d.start d.count b) last among (λ before now. held es before now)

pub each_acknowledged_write_is_held : EachAcknowledgedWriteIsHeld
each_acknowledged_write_is_held first entries e b last write value among = held first e b write value entries last among
