-- Devices that are held, each of which goes on: what is held under a name, and what is seen there.
use Rattle.std.proofs.Common.{◌≡◌, ℕ, Bool, true, false, cond, List, [], ◌∷◌, Option, Some, None, refl, sym, ap, subst, arith}
use Rattle.std.specs.Prelude.{IsTrue}
use Rattle.std.specs.Str.{bytes_eq}
use Rattle.vx_base.specs.Named.{Word}
use Rattle.vx_base.proofs.NamedLemmas.{bytes_eq_same}
use Rattle.vx_piece.specs.Seen.{Seen, Keeps}
use Rattle.vx_copies.specs.Lists.{Each}
use Rattle.vx_copies.proofs.StepLaws.{each_refl, each_map}
use Rattle.vx_moments.specs.Moment.{Counts, AreLater}
use Rattle.vx_house.specs.Holders.{Holder, held_as}
use Rattle.vx_house.specs.Scene.{Shelved, seen_in, faults_in, count_in, AreCountsOf, counts_of, FaultsGoOn}
use Rattle.vx_house.proofs.Holders.{IsLater}
use Rattle.vx_house.proofs.Scenes.{scene_of}
use Rattle.vx_house.proofs.LaterFaults.{later_faults}

-- the same device goes on so
pub record IsStep (Q : Word → Seen → Seen → Type 0) (old new : Holder) : Type 0 where
  pub name : new.name ≡ old.name
  pub goes : Q old.name old.seen new.seen

pub steps_self : (Q : Word → Seen → Seen → Type 0) → ((name : Word) (s : Seen) → Q name s s) → (hs : List Holder) → Each (IsStep Q) hs hs
steps_self Q self hs = each_refl (IsStep Q) (λ h. record { name = refl; goes = self h.name h.seen }) hs

-- what is held under a name goes on so
abbrev pub HeldStep : (Seen → Seen → Type 0) → Option Seen → Option Seen → Type 0
HeldStep R None None = Unit {0}
HeldStep R None (Some t) = ⊥
HeldStep R (Some s) None = ⊥
HeldStep R (Some s) (Some t) = R s t

pub held_steps : (Q : Word → Seen → Seen → Type 0) (hs ns : List Holder) (name : Word) → Each (IsStep Q) hs ns → HeldStep (Q name) (held_as hs name) (held_as ns name)
held_steps Q [] [] name each = tt
held_steps Q [] (n ∷ ns) name each = absurd each
held_steps Q (h ∷ hs) [] name each = absurd each
held_steps Q (h ∷ hs) (n ∷ ns) name each =
    subst (λ b. HeldStep (Q name) (cond (bytes_eq h.name name) (Some h.seen) (held_as hs name)) (cond b (Some n.seen) (held_as ns name))) (ap (λ x. bytes_eq x name) (sym each.0.name))
    (by_test (bytes_eq h.name name) refl (held_steps Q hs ns name each.1))
  where
    by_test : (b : Bool) → bytes_eq h.name name ≡ b → HeldStep (Q name) (held_as hs name) (held_as ns name) → HeldStep (Q name) (cond b (Some h.seen) (held_as hs name)) (cond b (Some n.seen) (held_as ns name))
    by_test true e rest = subst (λ x. Q x h.seen n.seen) (bytes_eq_same h.name name e) each.0.goes
    by_test false e rest = rest

-- what is seen under the name goes on, where it does so for what is held there, and all else stays
pub place_by : (Q : Seen → Seen → Type 0) (R : Option Seen → Option Seen → Type 0) (a b : Option Seen) (free : Option (Word → Option Seen)) (name : Word) → HeldStep Q a b → (a ≡ None → (o : Option Seen) → R o o) → ((s t : Seen) → Q s t → R (Some s) (Some t)) → R (seen_in a free name) (seen_in b free name)
place_by Q R None None free name step none some = none refl (seen_in None free name)
place_by Q R None (Some t) free name step none some = absurd step
place_by Q R (Some s) None free name step none some = absurd step
place_by Q R (Some s) (Some t) free name step none some = some s t step

-- the same of the faults that are counted under it
pub faults_by : (Q : Seen → Seen → Type 0) (R : ℕ → ℕ → Type 0) (a b : Option Seen) (counted : ℕ) → HeldStep Q a b → R counted counted → ((s t : Seen) → Q s t → R s.faults t.faults) → R (faults_in a counted) (faults_in b counted)
faults_by Q R None None counted step none some = none
faults_by Q R None (Some t) counted step none some = absurd step
faults_by Q R (Some s) None counted step none some = absurd step
faults_by Q R (Some s) (Some t) counted step none some = some s t step

-- the power of what is seen of a place does not come back
abbrev pub StaysCut : Option Seen → Option Seen → Type 0
StaysCut a b = IsTrue (count_in (λ seen. seen.cut) false a) → IsTrue (count_in (λ seen. seen.cut) false b)

module _ (Q : Word → Seen → Seen → Type 0) (on : (name : Word) (s t : Seen) → Q name s t → Keeps s t) (hs ns : List Holder) (each : Each (IsStep Q) hs ns) where
  pub steps_later : Each IsLater hs ns
  steps_later = each_map (IsStep Q) IsLater (λ o n step. record { name = step.name; kept = on o.name o.seen n.seen step.goes }) hs ns each

  pub steps_faults : (shelf : Shelved) → FaultsGoOn (scene_of shelf hs) (scene_of shelf ns)
  steps_faults shelf = later_faults shelf hs ns steps_later

  pub steps_counts : (shelf : Shelved) (c : Counts) → AreCountsOf (scene_of shelf hs) c → AreLater c (counts_of (scene_of shelf ns))
  steps_counts shelf c are = record {
    faults = λ name. let e = are.faults name in let x = (steps_faults shelf).devices name in omega (arith, e, x);
    cut = λ name is.
        place_by (Q name) StaysCut (held_as hs name) (held_as ns name) shelf.free name (held_steps Q hs ns name each) (λ none o t. t) (λ s t q. (on name s t q).cut)
        (subst IsTrue (are.cut name) is);
    shelf = let e = are.shelf in let x = (steps_faults shelf).shelf in omega (arith, e, x);
  }

-- what is so of one name, and of the others, is so of each
pub each_name : (one : Word) (R : Word → Type 0) → R one → ((name : Word) → bytes_eq one name ≡ false → R name) → (name : Word) → R name
each_name one R here others name = by_test (bytes_eq one name) refl
  where
    by_test : (b : Bool) → bytes_eq one name ≡ b → R name
    by_test true e = subst R (bytes_eq_same one name e) here
    by_test false e = others name e
