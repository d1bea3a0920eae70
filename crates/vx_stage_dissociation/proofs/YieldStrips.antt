-- Layouts that begin with one strip, and a place among layouts of one that does.
use Rattle.std.proofs.Common.{◌≡◌, ◌∙◌, ℕ, zero, suc, ◌+◌, ◌<◌, Bool, true, false, List, [], ◌∷◌, drop, length, refl, sym, ap, subst, inl, inr, arith}
use Rattle.std.specs.Prelude.{Contains, MatchBool, slice_index_or}
use Rattle.std.specs.List.{flat_map}
use Rattle.vx_layout.specs.declared.layout.Layout.{Layout}
use Rattle.vx_layout.specs.declared.strip.Strip.{Strip}
use Rattle.vx_layout.specs.Columns.{column_at, column_length}
use Rattle.vx_layout.proofs.ValidLemmas.{Parts, parts_of_layout}
use Rattle.vx_image.proofs.Members.{contains}
use Rattle.vx_image.proofs.PlexMembers.{IsIn}
use Rattle.vx_yielded_volumes.specs.Yielded.{HaveStrip, IsCopyOn, IsOnNoCopy}
use Rattle.vx_stage_dissociation.specs.Yielding.{BeginAlike}

-- ---- two layouts

-- a layout has a column, which has a strip
pub some_columns : (l : Layout) → 0 < length l.columns
some_columns l = (parts_of_layout l.unit l.columns l.valid).some

pub share : (one other : Layout) → BeginAlike (column_at one.columns 0) (column_at other.columns 0) → HaveStrip one other
share one other alike = let s = first one.columns other.columns alike in record { strip = s.0; in_first = contains (flat_map (λ strips. strips) one.columns) s.0 s.1; in_second = contains (flat_map (λ strips. strips) other.columns) s.0 s.2 }
  where
    first : (a b : List (List Strip)) → BeginAlike (column_at a 0) (column_at b 0) → (s : Strip) × IsIn (flat_map (λ strips. strips) a) s × IsIn (flat_map (λ strips. strips) b) s
    first [] b alike = absurd alike
    first ([] ∷ a) b alike = absurd alike
    first ((x ∷ xs) ∷ a) [] alike = absurd alike
    first ((x ∷ xs) ∷ a) ([] ∷ b) alike = absurd alike
    first ((x ∷ xs) ∷ a) ((y ∷ ys) ∷ b) alike = (x, inl refl, inl alike)

begin_self : (strips : List Strip) → 0 < column_length strips → BeginAlike strips strips
begin_self [] some = absurd (omega (arith, some))
begin_self (x ∷ xs) some = refl

-- with other first strips they have other columns
pub unlike : (one other : Layout) → (BeginAlike (column_at one.columns 0) (column_at other.columns 0) → ⊥) → one.columns ≡ other.columns → ⊥
unlike one other apart same =
    apart (subst (λ (columns : List (List Strip)). BeginAlike (column_at one.columns 0) (column_at columns 0)) same (begin_self (column_at one.columns 0) (parts_of_layout one.unit one.columns one.valid).sectors))

-- so the answer of one says the other
pub answered : (one other : Layout) (x y : List Strip) → x ≡ column_at one.columns 0 → y ≡ column_at other.columns 0 → (b : Bool) → MatchBool b (BeginAlike x y) (BeginAlike x y → ⊥) → MatchBool b (HaveStrip one other) (one.columns ≡ other.columns → ⊥)
answered one other x y first second true alike = share one other (subst (λ zs. BeginAlike (column_at one.columns 0) zs) second (subst (λ zs. BeginAlike zs y) first alike))
answered one other x y first second false apart =
    unlike one other (λ alike. apart (subst (λ zs. BeginAlike zs y) (sym first) (subst (λ zs. BeginAlike (column_at one.columns 0) zs) (sym second) alike)))

-- ---- some layouts

pub on_later : (xs : List Layout) (l : Layout) (copy : ℕ) → IsCopyOn (drop 1 xs) copy l → IsCopyOn xs (copy + 1) l
on_later [] l copy on = let inside = on.inside in absurd (omega (arith, inside))
on_later (x ∷ xs) l copy on = subst (λ (k : ℕ). IsCopyOn (x ∷ xs) k l) (omega arith) (let inside = on.inside in let later : IsCopyOn (x ∷ xs) (suc copy) l = record { inside = omega (arith, inside); shared = on.shared } in later)

pub on_none : (xs : List Layout) (l : Layout) → ((d : Layout) → (slice_index_or xs 0 d).columns ≡ l.columns → ⊥) → IsOnNoCopy (drop 1 xs) l → IsOnNoCopy xs l
on_none xs l apart none zero d lt unit columns = apart d columns
on_none [] l apart none (suc k) d lt unit columns = absurd (omega (arith, lt))
on_none (x ∷ xs) l apart none (suc k) d lt unit columns = none k d (omega (arith, lt)) unit columns
