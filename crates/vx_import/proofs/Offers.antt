-- The configuration that the highest toggle and its text give.
use Rattle.std.proofs.Common.{◌≡◌, ℕ, zero, suc, ◌<◌, ◌≤◌, Bool, true, false, cond, List, [], ◌∷◌, take, Option, Some, None, refl, sym, ap, ◌∙◌, subst, ltb}
use Rattle.std.specs.Prelude.{MatchOption, IfSome, IsTrue}
use Rattle.std.proofs.lemmas.Bool.{cond-true, cond-false, lt-ltb, le-ltb}
use Rattle.std.proofs.lemmas.Slice.Eq.{bytes_eq-Decides}
use Rattle.vx_base.specs.Blocks.{Contents}
use Rattle.vx_base.specs.Named.{Word}
use Rattle.vx_header.specs.Named.{Label, header_of}
use Rattle.vx_header.specs.Said.{Said, toggle_of}
use Rattle.vx_copies.specs.Lists.{AllOf}
use Rattle.vx_copies.specs.Image.{Offer, offer_by, offer_of, offer_in, offer_if, offer_told, names_group, text_in, toggle_at, higher}
use Rattle.vx_import.specs.Looks.{Looked, IsOurs, IsReading, toggle_read, said_in}
use Rattle.vx_import.specs.Choice.{At, IfToggle, HasNone, HoldsText, Tells, given}

abbrev pub IfOffer : (ℕ → Type 0) → Option Offer → Type 0
IfOffer Q o = MatchOption o (Unit {0}) (λ p. Q p.sequence)

higher_up : (n : ℕ) (a b : Option Offer) → IfOffer (λ k. k ≤ n) a → IfOffer (λ k. k ≤ n) b → IfOffer (λ k. k ≤ n) (higher a b)
higher_up n None b p q = q
higher_up n (Some a) None p q = p
higher_up n (Some a) (Some b) p q = by (ltb a.sequence b.sequence)
  where
    by : (x : Bool) → IfOffer (λ k. k ≤ n) (cond x (Some b) (Some a))
    by true = q
    by false = p

first_wins : (o : Offer) (rest : Option Offer) → IfOffer (λ k. k ≤ o.sequence) rest → higher (Some o) rest ≡ Some o
first_wins o None le = refl
first_wins o (Some p) le = cond-false _ _ _ (le-ltb o.sequence p.sequence le)

last_wins : (o : Offer) (first : Option Offer) → IfOffer (λ k. k < o.sequence) first → higher first (Some o) ≡ Some o
last_wins o None lt = refl
last_wins o (Some p) lt = cond-true _ _ _ (lt-ltb p.sequence o.sequence lt)

if_offer : (Q : ℕ → Type 0) (s : Option Said) (c : Contents) → MatchOption s (Unit {0}) (λ t. Q t.sequence) → IfOffer Q (offer_by s c)
if_offer Q None c is = tt
if_offer Q (Some t) c is = is

module _ (group : Word) where
  abbrev pub offer_here : Looked → Option Offer
  offer_here f = cond f.readable (offer_told group f.seen.told) None

  in_group : (c : Contents) (label : Label) (s : Option Said) → header_of (c 0) ≡ Some label → label.group ≡ group → toggle_of (c 1) ≡ s → offer_in group c ≡ offer_by s c
  unfolding offer_in offer_of toggle_at
  in_group c label s header is said =
      ap (λ l. offer_if (names_group group l) (offer_by (toggle_of (c 1)) c)) header
      ∙ ap (λ b. offer_if b (offer_by (toggle_of (c 1)) c)) ((bytes_eq-Decides label.group group).1 is)
      ∙ ap (λ o. offer_by o c) said

  offer_is : (f : Looked) (c : Contents) → f.seen.told ≡ Some c → IsOurs group f → offer_here f ≡ offer_by (toggle_read f) c
  offer_is f c tells ours = by f.readable f.seen.told tells ours.headed ours.reads
    where
      by : (r : Bool) (told : Option Contents) → told ≡ Some c → IfSome told (λ d. header_of (d 0) ≡ Some f.label) → (IsTrue r → IfSome told (λ d. IsReading f.reading (d 1))) → cond r (offer_told group told) None ≡ offer_by (cond r (said_in f.reading) None) c
      by false told e headed reads = refl
      by true told e headed reads =
          let label : header_of (c 0) ≡ Some f.label = subst (λ (o : Option Contents). IfSome o (λ d. header_of (d 0) ≡ Some f.label)) e headed in
          let reading : IsReading f.reading (c 1) = subst (λ (o : Option Contents). IfSome o (λ d. IsReading f.reading (d 1))) e (reads refl) in
          ap (offer_told group) e ∙ in_group c f.label (said_in f.reading) label ours.group_is reading.said

  tell : (told : Option Contents) → MatchOption told ⊥ (λ c. Unit {0}) → (c : Contents) × (told ≡ Some c)
  tell None is = absurd is
  tell (Some c) is = (c, refl)

  pub offer_if_toggle : (Q : ℕ → Type 0) (f : Looked) → IsOurs group f → Tells f → IfToggle Q f → IfOffer Q (offer_here f)
  offer_if_toggle Q f ours tells is =
      let c = tell f.seen.told tells in
      subst (IfOffer Q) (sym (offer_is f c.0 c.1 ours)) (if_offer Q (toggle_read f) c.0 is)

  given_up : (n : ℕ) (fs : List Looked) → AllOf (IsOurs group) fs → AllOf Tells fs → AllOf (IfToggle (λ k. k ≤ n)) fs → IfOffer (λ k. k ≤ n) (given group fs)
  given_up n [] ours tells all = tt
  given_up n (f ∷ fs) ours tells all = higher_up n (offer_here f) (given group fs) (offer_if_toggle (λ k. k ≤ n) f ours.0 tells.0 all.0) (given_up n fs ours.1 tells.1 all.1)

  pub given_none : (fs : List Looked) → AllOf (IsOurs group) fs → AllOf Tells fs → AllOf HasNone fs → given group fs ≡ None
  given_none [] ours tells none = refl
  given_none (f ∷ fs) ours tells none =
      let c = tell f.seen.told tells.0 in
      ap (λ o. higher o (given group fs)) (offer_is f c.0 c.1 ours.0 ∙ ap (λ s. offer_by s c.0) none.0) ∙ given_none fs ours.1 tells.1 none.1

  pub given_top : (fs : List Looked) (i : ℕ) (t : Said) (text : List ℕ) → AllOf (IsOurs group) fs → AllOf Tells fs → At i (λ f. toggle_read f ≡ Some t) fs → AllOf (IfToggle (λ k. k ≤ t.sequence)) fs → AllOf (IfToggle (λ k. k < t.sequence)) (take i fs) → At i (HoldsText t text) fs
      → given group fs ≡ Some (record { sequence = t.sequence; good = t.good; text = text })
  given_top [] i t text ours tells place up before holds = absurd place
  given_top (f ∷ fs) zero t text ours tells place up before holds =
      let c = tell f.seen.told tells.0 in
      let o : Offer = record { sequence = t.sequence; good = t.good; text = text } in
      let text_is : text_in t.half t.length c.0 ≡ text = subst (λ (o : Option Contents). IfSome o (λ d. text_in t.half t.length d ≡ text)) c.1 holds in
      let offer : offer_here f ≡ Some (record { sequence = t.sequence; good = t.good; text = text }) = offer_is f c.0 c.1 ours.0 ∙ ap (λ s. offer_by s c.0) place ∙ ap (λ x. Some (record { sequence = t.sequence; good = t.good; text = x })) text_is in
      ap (λ x. higher x (given group fs)) offer ∙ first_wins (record { sequence = t.sequence; good = t.good; text = text }) (given group fs) (given_up t.sequence fs ours.1 tells.1 up.1)
  given_top (f ∷ fs) (suc i) t text ours tells place up before holds =
      ap (higher (offer_here f)) (given_top fs i t text ours.1 tells.1 place up.1 before.1 holds)
      ∙ last_wins (record { sequence = t.sequence; good = t.good; text = text }) (offer_here f) (offer_if_toggle (λ k. k < t.sequence) f ours.0 tells.0 before.0)
