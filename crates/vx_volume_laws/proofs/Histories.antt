-- A block whose last write was acknowledged has that value.
use Rattle.std.proofs.Common.{◌≡◌, inl, inr, ℕ, Bool, true, false, refl, sym, ◌∙◌, cond, List, [], ◌∷◌, IsTrue}
use Rattle.vx_base.specs.Blocks.{is_in}
use Rattle.vx_life.specs.declared.EntryKind.{EntryKind}
use Rattle.vx_life.specs.declared.EntryKind.TheVariants as kinds
use Rattle.vx_life.specs.Candidates.{Values, IsAmong, Candidates}
use Rattle.vx_life.specs.Entry.{Entry, values_after, ReadsAmong, candidates_of, IsHistory}
use Rattle.vx_volume_laws.specs.Recovery.{IsLastIn, IsLastWritten}

read_at : (kind : EntryKind) (first : Candidates) (e : Entry) (b : ℕ) → kind ≡ kinds.Read → ReadsAmong kind first e → IsTrue (is_in e.start e.count b) → IsAmong (first b) (e.values b)
read_at kinds.Read first e b is reads here = reads b here
read_at kinds.Write first e b is reads here = cc
read_at kinds.Torn first e b is reads here = cc
read_at kinds.Missed first e b is reads here = cc

last_here : (here : Bool) (kind : EntryKind) (value at x : List ℕ) (old : Values) (Before : Type 0) →
    IsLastIn here kind value at Before →
    (kind ≡ kinds.Read → here ≡ true → IsAmong old at) →
    (Before → (y : List ℕ) → IsAmong old y → y ≡ value) →
    IsAmong (cond here (values_after kind at old) old) x → x ≡ value
last_here false kind value at x old Before last reads before among = before last x among
last_here true kinds.Read value at x old Before last reads before (inl same) = same ∙ before last at (reads refl refl)
last_here true kinds.Read value at x old Before last reads before (inr none) = absurd none
last_here true kinds.Write value at x old Before last reads before (inl same) = same ∙ sym last
last_here true kinds.Write value at x old Before last reads before (inr none) = absurd none
last_here true kinds.Torn value at x old Before last reads before among = absurd last
last_here true kinds.Missed value at x old Before last reads before among = before last x among

pub last_written : (first : Candidates) (es : List Entry) (b : ℕ) (value x : List ℕ) → IsHistory first es → IsLastWritten b value es → IsAmong (candidates_of first es b) x → x ≡ value
last_written first [] b value x legal last among = absurd last
last_written first (e ∷ es) b value x legal last among =
    last_here (is_in e.start e.count b) e.kind value (e.values b) x (candidates_of first es b) (IsLastWritten b value es) last
    (λ is here. read_at e.kind (candidates_of first es) e b is legal.0 here)
    (λ before y at. last_written first es b value y legal.1 before at) among
