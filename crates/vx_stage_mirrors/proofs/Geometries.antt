-- Two geometries of the same blocks and regions are one.
use Rattle.std.proofs.Common.{◌≡◌, ℕ, true, ap, subst}
use Rattle.std.specs.Prelude.{IsTrue}
use Rattle.std.proofs.Math.Bool.{Bool-set}
use Rattle.vx_block.specs.Geometry.{is_geometry}
use Rattle.vx_block.specs.declared.geometry.Geometry.{Geometry}

abbrev made : (n r : ℕ) → IsTrue (is_geometry n r) → Geometry
made n r v = record { length = n; region = r; valid = v }

same_at : (n r : ℕ) (v w : IsTrue (is_geometry n r)) → made n r v ≡ made n r w
same_at n r v w = ap (made n r) (Bool-set (is_geometry n r) true v w)

same_by : (n r s : ℕ) → r ≡ s → (v : IsTrue (is_geometry n r)) (w : IsTrue (is_geometry n s)) → made n r v ≡ made n s w
same_by n r s e v = subst (λ k. (w : IsTrue (is_geometry n k)) → made n r v ≡ made n k w) e (same_at n r v)

same_both : (n m r s : ℕ) → n ≡ m → r ≡ s → (v : IsTrue (is_geometry n r)) (w : IsTrue (is_geometry m s)) → made n r v ≡ made m s w
same_both n m r s e f v = subst (λ k. (w : IsTrue (is_geometry k s)) → made n r v ≡ made k s w) e (same_by n r s f v)

pub same_geometries : (a b : Geometry) → a.length ≡ b.length → a.region ≡ b.region → a ≡ b
same_geometries a b lengths regions = same_both a.length b.length a.region b.region lengths regions a.valid b.valid
