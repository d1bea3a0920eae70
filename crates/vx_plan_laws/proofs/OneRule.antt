-- What single rules say of a list of records.
use Rattle.std.proofs.Common.{◌≡◌, ℕ, ◌+◌, ◌≤◌, max, Bool, true, false, not, ◌&&◌, ◌||◌, nat_lt, nat_le, Option, Some, None, List, [], ◌∷◌, refl, sym, ◌∙◌, ap, arith, if◌then◌else◌}
use Rattle.std.specs.List.{list_any, list_all, fold}
use Rattle.std.proofs.lemmas.Bool.Decides.{nat_tests}
use Rattle.vx_base.specs.Named.{Word}
use Rattle.vx_rules.specs.Columns.{is_in_column, piece_is_good, all_pieces_good, end_with}
use Rattle.vx_rules.specs.Overlap.{overlaps_earlier, first_overlap_with, overlap_of}
use Rattle.vx_rules.specs.Sizes.{holds}
use Rattle.vx_config_parts.specs.declared.subdisk.Subdisk.{Subdisk}
use Rattle.vx_config_parts.specs.declared.plex.Plex.{Plex}
use Rattle.vx_config_parts.specs.declared.plex.PlexKind.{PlexKind}
use Rattle.vx_config_parts.specs.declared.plex.PlexKind.TheVariants.{Data, Log}
use Rattle.vx_config_parts.specs.declared.vol.Vol.{Vol}
use Rattle.vx_config_parts.specs.declared.vol.PolicyKind.{PolicyKind}
use Rattle.vx_config_parts.specs.declared.state.VolState.{VolState}
use Rattle.vx_config_parts.specs.declared.snap.Snap.{Snap}
use Rattle.vx_config_parts.specs.declared.object.Object.{Object}
use Rattle.vx_config_parts.specs.declared.object.Object.TheVariants.{SubdiskRecord, PlexRecord, SnapRecord}
use Rattle.vx_config_parts.specs.declared.fault.ObjectFault.TheVariants as fault
use Rattle.vx_config_parts.specs.Objects.{is_subdisk, is_plex, is_snap, comes_before}
use Rattle.vx_rules.specs.Maps.{maps_fit}
use Rattle.vx_rules.specs.References.{missing}
use Rattle.vx_plan_laws.proofs.Counts.{or_never}
use Rattle.vx_plan_laws.proofs.FirstRefusals.{unless_kept}

-- the name in the attribute, where there is one, is such
abbrev pub OfName : (Word → Type 0) → Option Word → Type 0
OfName P None = Unit {0}
OfName P (Some name) = P name

-- any name is such
abbrev pub EachName : Word → Type 0
EachName name = Unit {0}

pub of_each : (a : Option Word) → OfName EachName a
of_each None = tt
of_each (Some name) = tt

pub missing_kept : (P : Word → Type 0) (was is : Word → Bool) → ((name : Word) → P name → was name ≡ true → is name ≡ true) → (a : Option Word) → OfName P a → missing a was ≡ None → missing a is ≡ None
missing_kept P was is kept None on e = refl
missing_kept P was is kept (Some name) on e = unless_kept (was name) (is name) (fault.NoObject name) (kept name on) e

pub plex_asks : (t u : Plex → Bool) → ((p : Plex) → t p ≡ true → u p ≡ true) → (o : Object) → is_plex t o ≡ true → is_plex u o ≡ true
plex_asks t u on (PlexRecord p) e = on p e
plex_asks t u on o e = cc

pub subdisk_asks : (t u : Subdisk → Bool) → ((s : Subdisk) → t s ≡ true → u s ≡ true) → (o : Object) → is_subdisk t o ≡ true → is_subdisk u o ≡ true
subdisk_asks t u on (SubdiskRecord s) e = on s e
subdisk_asks t u on o e = cc

pub subdisk_like : (t u : Subdisk → Bool) → ((s : Subdisk) → t s ≡ u s) → (o : Object) → is_subdisk t o ≡ is_subdisk u o
subdisk_like t u like (SubdiskRecord s) = like s
subdisk_like t u like o = refl

pub refuted : (b x : Bool) → not (if b then x else true) ≡ true → b ≡ true
refuted true x e = refl
refuted false x e = cc

-- a piece is a record that is not good, or all are good
pub pieces_by : (all : List Object) (p : Plex) (os : List Object) → list_all (λ o. all_pieces_good all p o) os ≡ not (list_any (λ o. is_subdisk (λ s. not (piece_is_good all p s)) o) os)
pieces_by all p [] = refl
pieces_by all p (SubdiskRecord s ∷ os) = by (piece_is_good all p s) (pieces_by all p os)
  where
    by : (b : Bool) → list_all (λ o. all_pieces_good all p o) os ≡ not (list_any (λ o. is_subdisk (λ s. not (piece_is_good all p s)) o) os)
        → (b && list_all (λ o. all_pieces_good all p o) os) ≡ not (not b || list_any (λ o. is_subdisk (λ s. not (piece_is_good all p s)) o) os)
    by true e = e
    by false e = refl
pieces_by all p (o ∷ os) = pieces_by all p os

-- a plex or a relation has a map that does not fit, or all fit
abbrev pub bad_plex : Vol → Plex → Bool
bad_plex v p = not (maps_fit v (PlexRecord p))

abbrev pub bad_snap : Vol → Snap → Bool
bad_snap v s = not (maps_fit v (SnapRecord s))

pub maps_by : (v : Vol) (os : List Object) → list_all (λ o. maps_fit v o) os ≡ not (list_any (λ o. is_plex (bad_plex v) o) os || list_any (λ o. is_snap (bad_snap v) o) os)
maps_by v [] = refl
maps_by v (PlexRecord p ∷ os) = by (maps_fit v (PlexRecord p)) (list_all (λ o. maps_fit v o) os) (list_any (λ o. is_plex (bad_plex v) o) os) (list_any (λ o. is_snap (bad_snap v) o) os) (maps_by v os)
  where
    by : (a b c d : Bool) → b ≡ not (c || d) → (a && b) ≡ not ((not a || c) || d)
    by true b c d e = e
    by false b c d e = refl
maps_by v (SnapRecord s ∷ os) = by (maps_fit v (SnapRecord s)) (list_all (λ o. maps_fit v o) os) (list_any (λ o. is_plex (bad_plex v) o) os) (list_any (λ o. is_snap (bad_snap v) o) os) (maps_by v os)
  where
    by : (a b c d : Bool) → b ≡ not (c || d) → (a && b) ≡ not (c || (not a || d))
    by true b c d e = e
    by false b true d e = refl
    by false b false d e = refl
maps_by v (o ∷ os) = maps_by v os

-- the volume with another state and policy
abbrev pub with_policy : Vol → VolState → PolicyKind → Option Word → Vol
with_policy v state rdpol prefer = record v { state = state; rdpol = rdpol; prefer = prefer }

pub holds_steady : (k : PlexKind) (size : ℕ) (v : Vol) (state : VolState) (rdpol : PolicyKind) (prefer : Option Word) → holds k size (with_policy v state rdpol prefer) ≡ holds k size v
holds_steady Data size v state rdpol prefer = refl
holds_steady Log size v state rdpol prefer = refl

-- ---- how long a column is

later : (n m e : ℕ) → nat_lt n (max m e) ≡ (nat_lt n m || nat_lt n e)
later n m e = grind (arith, nat_tests)

or_assoc : (a b c : Bool) → ((a || b) || c) ≡ (a || (b || c))
or_assoc true b c = refl
or_assoc false b c = refl

-- the piece lies in the column, and ends past the sector
abbrev pub reaches : Word → ℕ → ℕ → Subdisk → Bool
reaches plex col n s = is_in_column plex col s && nat_lt n (s.at + s.len)

-- a column ends past a sector where one of its pieces does
pub length_from : (plex : Word) (col n m : ℕ) (os : List Object) → nat_lt n (fold (end_with plex col) m os) ≡ (nat_lt n m || list_any (λ o. is_subdisk (reaches plex col n) o) os)
length_from plex col n m [] = sym (or_never (nat_lt n m))
length_from plex col n m (SubdiskRecord s ∷ os) = by (is_in_column plex col s) (λ k. length_from plex col n k os)
  where
    by : (b : Bool) → ((k : ℕ) → nat_lt n (fold (end_with plex col) k os) ≡ (nat_lt n k || list_any (λ o. is_subdisk (reaches plex col n) o) os))
        → nat_lt n (fold (end_with plex col) (if b then max m (s.at + s.len) else m) os) ≡ (nat_lt n m || ((b && nat_lt n (s.at + s.len)) || list_any (λ o. is_subdisk (reaches plex col n) o) os))
    by true more =
        more (max m (s.at + s.len))
        ∙ ap (λ (b : Bool). b || list_any (λ o. is_subdisk (reaches plex col n) o) os) (later n m (s.at + s.len))
        ∙ or_assoc (nat_lt n m) (nat_lt n (s.at + s.len)) (list_any (λ o. is_subdisk (reaches plex col n) o) os)
    by false more = more m
length_from plex col n m (o ∷ os) = length_from plex col n m os

-- ---- the first overlap

-- an overlap that was found stays one
found_overlap : (all : List Object) (best : Word) (os : List Object) → fold (first_overlap_with all) (Some best) os ≡ None → ⊥
found_overlap all best [] e = cc
found_overlap all best (SubdiskRecord s ∷ os) e = by (overlaps_earlier all s) (comes_before s.name best) (λ name. found_overlap all name os) e
  where
    by : (a b : Bool) → ((name : Word) → fold (first_overlap_with all) (Some name) os ≡ None → ⊥) → fold (first_overlap_with all) (if a then (if b then Some s.name else Some best) else Some best) os ≡ None → ⊥
    by true true more e = more s.name e
    by true false more e = more best e
    by false b more e = more best e
found_overlap all best (o ∷ os) e = found_overlap all best os e

pub none_overlaps : (all os : List Object) → fold (first_overlap_with all) None os ≡ None → list_any (λ o. is_subdisk (λ s. overlaps_earlier all s) o) os ≡ false
none_overlaps all [] e = refl
none_overlaps all (SubdiskRecord s ∷ os) e = by (overlaps_earlier all s) (none_overlaps all os) e
  where
    by : (b : Bool) → (fold (first_overlap_with all) None os ≡ None → list_any (λ o. is_subdisk (λ s. overlaps_earlier all s) o) os ≡ false)
        → fold (first_overlap_with all) (if b then Some s.name else None) os ≡ None → (b || list_any (λ o. is_subdisk (λ s. overlaps_earlier all s) o) os) ≡ false
    by true more e = absurd (found_overlap all s.name os e)
    by false more e = more e
none_overlaps all (o ∷ os) e = none_overlaps all os e

pub none_found : (all os : List Object) → list_any (λ o. is_subdisk (λ s. overlaps_earlier all s) o) os ≡ false → fold (first_overlap_with all) None os ≡ None
none_found all [] e = refl
none_found all (SubdiskRecord s ∷ os) e = by (overlaps_earlier all s) (none_found all os) e
  where
    by : (b : Bool) → (list_any (λ o. is_subdisk (λ s. overlaps_earlier all s) o) os ≡ false → fold (first_overlap_with all) None os ≡ None)
        → (b || list_any (λ o. is_subdisk (λ s. overlaps_earlier all s) o) os) ≡ false → fold (first_overlap_with all) (if b then Some s.name else None) os ≡ None
    by true more e = cc
    by false more e = more e
none_found all (o ∷ os) e = none_found all os e

pub overlap_none : (f : Option Word) → overlap_of f ≡ None → f ≡ None
overlap_none None e = refl
overlap_none (Some name) e = cc

pub fewer : (n m top : ℕ) → n ≤ m → nat_le m top ≡ true → nat_le n top ≡ true
fewer n m top low e = grind (arith, nat_tests)

pub some_still : (now was : Bool) → (was ≡ false → now ≡ false) → now ≡ true → was ≡ true
some_still now true f e = refl
some_still now false f e = let off : now ≡ false = f refl in cc

pub none_fewer : (n m : ℕ) → n ≤ m → nat_lt 0 m ≡ false → nat_lt 0 n ≡ false
none_fewer n m low e = grind (arith, nat_tests)
