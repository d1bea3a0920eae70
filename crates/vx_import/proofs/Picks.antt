-- The choice of the highest sequence, device by device.
use Rattle.std.proofs.Common.{◌≡◌, ℕ, ◌+◌, ◌-◌, ◌<◌, ◌≤◌, Bool, true, false, cond, List, [], ◌∷◌, length, map, get_or, take, drop, Option, Some, None, refl, sym, ap, ◌∙◌, subst, arith, ltb, add-one}
use Rattle.std.specs.Prelude.{MatchOption, IfSome, option_map}
use Rattle.std.proofs.lemmas.List.{take_all}
use Rattle.std.proofs.lemmas.Bool.{ltb-true, ltb-false}
use Rattle.vx_header.specs.Said.{Said, said_of}
use Rattle.vx_header.specs.declared.toggle.Toggle.{Toggle}
use Rattle.vx_piece.specs.Seen.{Seen}
use Rattle.vx_copies.specs.Lists.{AllOf}
use Rattle.vx_import.specs.Looks.{Looked, looked, toggle_read}
use Rattle.vx_import.specs.Choice.{IfToggle, IsTop, HasNone, BestIs, picked}
use Rattle.vx_import.specs.declared.choosing.Best.{Best}
use Rattle.vx_import.specs.declared.device.GroupDevice.{GroupDevice}

if_none : (Q : ℕ → Type 0) (f : Looked) → toggle_read f ≡ None → IfToggle Q f
if_none Q f e = subst (λ (o : Option Said). MatchOption o (Unit {0}) (λ t. Q t.sequence)) (sym e) tt

if_some : (Q : ℕ → Type 0) (f : Looked) (t : Said) → toggle_read f ≡ Some t → Q t.sequence → IfToggle Q f
if_some Q f t e is = subst (λ (o : Option Said). MatchOption o (Unit {0}) (λ t. Q t.sequence)) (sym e) is

all_none : (Q : ℕ → Type 0) (fs : List Looked) → AllOf HasNone fs → AllOf (IfToggle Q) fs
all_none Q [] none = tt
all_none Q (f ∷ fs) none = (if_none Q f none.0, all_none Q fs none.1)

up_to : (m n : ℕ) (o : Option Said) → m ≤ n → MatchOption o (Unit {0}) (λ t. t.sequence ≤ m) → MatchOption o (Unit {0}) (λ t. t.sequence ≤ n)
up_to m n None le is = tt
up_to m n (Some t) le is = let more : t.sequence ≤ n = omega (arith, le, is) in more

all_up_to : (m n : ℕ) (fs : List Looked) → m ≤ n → AllOf (IfToggle (λ k. k ≤ m)) fs → AllOf (IfToggle (λ k. k ≤ n)) fs
all_up_to m n [] le all = tt
all_up_to m n (f ∷ fs) le all = (up_to m n (toggle_read f) le all.0, all_up_to m n fs le all.1)

here : (f : Looked) (fs : List Looked) (t : Said) → toggle_read f ≡ Some t → AllOf (IfToggle (λ k. k ≤ t.sequence)) fs → IsTop 0 t (f ∷ fs)
here f fs t e rest = record { place = e; up_to = (if_some (λ k. k ≤ t.sequence) f t e (omega arith), rest); before = tt }

later : (f : Looked) (fs : List Looked) (i : ℕ) (t : Said) → IfToggle (λ k. k ≤ t.sequence) f → IfToggle (λ k. k < t.sequence) f → IsTop i t fs → IsTop (i + 1) t (f ∷ fs)
later f fs i t le lt top = rw add-one (record { place = top.place; up_to = (le, top.up_to); before = (lt, top.before) })

pub best_more : (f : Looked) (fs : List Looked) (t : Option Toggle) (behind : Option Best) → toggle_read f ≡ option_map said_of t → BestIs behind fs → BestIs (picked t behind) (f ∷ fs)
best_more f fs None None e rest = (e, rest)
best_more f fs None (Some b) e rest = later f fs b.index (said_of b.toggle) (if_none (λ k. k ≤ b.toggle.sequence) f e) (if_none (λ k. k < b.toggle.sequence) f e) rest
best_more f fs (Some t) None e rest = here f fs (said_of t) e (all_none (λ k. k ≤ t.sequence) fs rest)
best_more f fs (Some t) (Some b) e rest = by (ltb t.sequence b.toggle.sequence) refl
  where
    by : (x : Bool) → ltb t.sequence b.toggle.sequence ≡ x → BestIs (cond x (Some (record { index = b.index + 1; toggle = b.toggle })) (Some (record { index = 0; toggle = t }))) (f ∷ fs)
    by true less =
        let lt : t.sequence < b.toggle.sequence = ltb-true _ _ less in
        later f fs b.index (said_of b.toggle) (if_some (λ k. k ≤ b.toggle.sequence) f (said_of t) e (omega (arith, lt))) (if_some (λ k. k < b.toggle.sequence) f (said_of t) e lt) rest
    by false not_less =
        let le : b.toggle.sequence ≤ t.sequence = ltb-false _ _ not_less in
        here f fs (said_of t) e (all_up_to b.toggle.sequence t.sequence fs le rest.up_to)

pub choose_more : {P : Type 0} (see : P → Seen) (xs : List (GroupDevice P)) (d : GroupDevice P) (t : Option Toggle) (behind : Option Best) → 1 ≤ length xs → d ≡ get_or xs 0 d → option_map said_of t ≡ toggle_read (looked see d)
    → BestIs behind (map (looked see) (take (length xs - 1) (drop 1 xs))) → BestIs (picked t behind) (map (looked see) xs)
choose_more see [] d t behind some is e rest = absurd (omega (arith, some))
choose_more see (x ∷ xs) d t behind some is e rest =
    let whole : take (length (x ∷ xs) - 1) (drop 1 (x ∷ xs)) ≡ xs = take_all (length (x ∷ xs) - 1) xs (omega arith) in
    let behind_is = subst (λ ys. BestIs behind (map (looked see) ys)) whole rest in
    best_more (looked see x) (map (looked see) xs) t behind (sym (e ∙ ap (λ f. toggle_read (looked see f)) is)) behind_is

pub rest_long : {P : Type 0} (xs : List (GroupDevice P)) → 1 ≤ length xs → length (take (length xs - 1) (drop 1 xs)) ≡ length xs - 1
rest_long {P = P} [] some = absurd (omega (arith, some))
rest_long {P = P} (x ∷ xs) some =
    let whole : take (length (x ∷ xs) - 1) (drop 1 (x ∷ xs)) ≡ xs = take_all (length (x ∷ xs) - 1) xs (omega arith) in
    let long : length (take (length (x ∷ xs) - 1) (drop 1 (x ∷ xs))) ≡ length xs = ap (λ (ys : List (GroupDevice P)). length ys) whole in
    omega (arith, long)

abbrev pub IsIn : ℕ → Option Best → Type 0
IsIn n o = IfSome {T = Best} o (λ b. b.index < n)

pub weaker : (o : Option Best) (m n : ℕ) → m ≤ n → IsIn m o → IsIn n o
weaker None m n le is = is
weaker (Some b) m n le is = let lt : b.index < n = omega (arith, is, le) in lt

pub pick_inside : (t : Option Toggle) (behind : Option Best) (n : ℕ) → 1 ≤ n → IsIn (n - 1) behind → IsIn n (picked t behind)
pick_inside None None n some is = is
pick_inside None (Some b) n some is = let lt : b.index + 1 < n = omega (arith, is, some) in lt
pick_inside (Some t) None n some is = let lt : 0 < n = omega (arith, some) in lt
pick_inside (Some t) (Some b) n some is = by (ltb t.sequence b.toggle.sequence)
  where
    by : (x : Bool) → IsIn n (cond x (Some (record { index = b.index + 1; toggle = b.toggle })) (Some (record { index = 0; toggle = t })))
    by true = let lt : b.index + 1 < n = omega (arith, is, some) in lt
    by false = let lt : 0 < n = omega (arith, some) in lt
