use Rattle.std.proofs.Common.{◌≡◌, ◌<◌, ◌≤◌, ℕ, List, length, take, IsTrue}
use Rattle.vx_header.specs.Sectors.{is_short_name}
use Rattle.vx_header.proofs.name_field.longest_name.Given as goal

abbrev pub invariant-loop-len : goal.invariant-loop-len
invariant-loop-len l = record {
  short : IsTrue (is_short_name l.longest);
  longest : (name : List ℕ) → length name < l.len → IsTrue (is_short_name name) → take (length name) l.field ≡ name → (length name ≤ length l.longest) × (l.longest ≡ take (length l.longest) l.field);
}
