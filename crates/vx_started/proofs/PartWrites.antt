-- What one part of a call does to the lives that a piece with its numbers stands for.
use Rattle.std.proofs.Common.{◌≡◌, ℕ, ◌+◌, ◌≤◌, cond, List, Some, Result, Ok, Err, subst, arith}
use Rattle.std.specs.Prelude.{OnOk}
use Rattle.vx_base.specs.Blocks.{Contents, is_in, written}
use Rattle.vx_block.specs.declared.geometry.Span.{Span}
use Rattle.vx_piece.specs.Seen.{Seen, Writes, IsRead}
use Rattle.vx_life.specs.declared.Part.{Part}
use Rattle.vx_life.specs.declared.EntryKind.TheVariants as kinds
use Rattle.vx_started.specs.Stands.{IsAmongTold, IsDrawn, PartGoes}
use Rattle.vx_started.proofs.Choice.{wrote, tore, read, missed, is_in_bounds}
use Rattle.vx_started.proofs.PartSteps.{part_goes}

module _ (n region : ℕ) (span : Span) (old new : Seen) (numbers later : List ℕ) (part : Part) (drawn : IsDrawn region numbers part later) where
  module _ (bytes : List ℕ) (values : Contents) (are : (old : Contents) (k : ℕ) → written span.start bytes old k ≡ cond (is_in span.start span.count k) (values k) (old k)) where
    pub part_written : {T E : Type 0} (result : Result T E) → Writes span.start bytes old.told new.told result → OnOk result (PartGoes n span kinds.Write values old numbers new later part)
    part_written (Ok u) writes = part_goes n region span kinds.Write values old new numbers later part drawn (λ place life stands. tt) (λ place life stands. wrote span.start span.count n life.candidates bytes values are old.told new.told (Ok u) writes stands.told)
    part_written (Err e) writes = tt

    pub part_torn : {T E : Type 0} (result : Result T E) → Writes span.start bytes old.told new.told result → PartGoes n span kinds.Torn values old numbers new later part
    part_torn result writes = part_goes n region span kinds.Torn values old new numbers later part drawn (λ place life stands. tt) (λ place life stands. tore span.start span.count n life.candidates bytes values are old.told new.told result writes stands.told)

  pub part_read : (contents : Contents) → span.start + span.count ≤ n → old.told ≡ Some contents → IsRead old new → PartGoes n span kinds.Read contents old numbers new later part
  part_read contents inside told same =
      part_goes n region span kinds.Read contents old new numbers later part drawn
      (λ place life stands k h. let chosen = subst (λ t. IsAmongTold n t life.candidates) told stands.told in chosen k (omega (arith, (is_in_bounds span.start span.count k h).1, inside)))
      (λ place life stands. read span.start span.count n life.candidates contents old.told new.told told same.told stands.told)

  pub part_missed : (values : Contents) → IsRead old new → PartGoes n span kinds.Missed values old numbers new later part
  part_missed values same = part_goes n region span kinds.Missed values old new numbers later part drawn (λ place life stands. tt) (λ place life stands. missed span.start span.count n life.candidates old.told new.told same.told stands.told)

pub part_always_written : {T E : Type 0} (region : ℕ) (span : Span) (old new : Seen) (numbers later : List ℕ) (part : Part) → IsDrawn region numbers part later → (bytes : List ℕ) (values : Contents)
    → ((old : Contents) (k : ℕ) → written span.start bytes old k ≡ cond (is_in span.start span.count k) (values k) (old k)) → (result : Result T E) → Writes span.start bytes old.told new.told result → OnOk result ((n : ℕ) → PartGoes n span kinds.Write values old numbers new later part)
part_always_written region span old new numbers later part drawn bytes values are (Ok u) writes = λ n. part_written n region span old new numbers later part drawn bytes values are (Ok u) writes
part_always_written region span old new numbers later part drawn bytes values are (Err e) writes = tt
