-- A call goes on by one more part.
use Rattle.std.proofs.Common.{◌≡◌, ℕ, ◌+◌, ◌/◌, ◌<◌, cond, List, [], ◌∷◌, ◌++◌, length, get_or, set, Some, subst, sym, ap, ◌∙◌, refl, inl, inr, arith, eqb}
use Rattle.std.specs.Prelude.{map}
use Rattle.std.proofs.lemmas.List.{get_or-set_same, get_or-set_other, map_push, length-map}
use Rattle.std.proofs.lemmas.Bool.{cases_eq, eq-eqb, ne_eqb, cond-true, cond-false}
use Rattle.vx_base.specs.Blocks.{Contents}
use Rattle.vx_block.specs.declared.geometry.Span.{Span}
use Rattle.vx_block.specs.Regions.{part_at}
use Rattle.vx_piece.specs.Seen.{Seen}
use Rattle.vx_life.specs.declared.Part.{Part}
use Rattle.vx_life.specs.declared.EntryKind.{EntryKind}
use Rattle.vx_life.specs.Entry.{Entry, candidates_after, ReadsAmong}
use Rattle.vx_life.specs.Life.{Life, life_after}
use Rattle.vx_life.proofs.History.{goes_on_more}
use Rattle.vx_stages.specs.Calls.{IsPart, AreParts, IsOf, AreOf}
use Rattle.vx_started.specs.Stands.{IsAmongTold, StandsFor, IsDrawn, AreBelow, entry_of, PartGoes, CallGoes}

parts_more : (size start count index : ℕ) (es : List Entry) (e : Entry) → AreParts size start count index es → IsPart size start count (index + length es) e → AreParts size start count index (es ++ e ∷ [])
parts_more size start count index [] e h p = (subst (λ i. IsPart size start count i e) (omega arith) p, tt)
parts_more size start count index (d ∷ es) e h p = (h.0, parts_more size start count (index + 1) es e h.1 (subst (λ i. IsPart size start count i e) (omega arith) p))

each_more : (place : ℕ) (kind : EntryKind) (values : Contents) (es : List Entry) (e : Entry) → AreOf place kind values es → IsOf place kind values e → AreOf place kind values (es ++ e ∷ [])
each_more place kind values [] e h p = (p, tt)
each_more place kind values (d ∷ es) e h p = (h.0, each_more place kind values es e h.1 p)

last_after : (numbers : List ℕ) (region number : ℕ) (last : ℕ → ℕ) → region < length numbers → ((r : ℕ) → last r ≡ get_or numbers r 0) → (r : ℕ) → cond (eqb r region) number (last r) ≡ get_or (set numbers region number) r 0
last_after numbers region number last inside same r =
    elim (cases_eq r region) [
      | inl e ↦ cond-true _ _ _ (eq-eqb r region e) ∙ sym (ap (λ i. get_or (set numbers region number) i 0) e ∙ get_or-set_same numbers region number 0 inside)
      | inr ne ↦ cond-false _ _ _ (ne_eqb r region ne) ∙ same r ∙ sym (get_or-set_other numbers region r number 0 ne)
    ]

-- a part that was drawn goes on where what it reads is there, and what it leaves is among the candidates
pub part_goes : (n region : ℕ) (span : Span) (kind : EntryKind) (values : Contents) (old_piece piece : Seen) (numbers later : List ℕ) (part : Part) → IsDrawn region numbers part later
    → ((place : ℕ) (life : Life) → StandsFor n old_piece numbers life → ReadsAmong kind life.candidates (entry_of place part kind span values))
    → ((place : ℕ) (life : Life) → StandsFor n old_piece numbers life → IsAmongTold n piece.told (candidates_after (entry_of place part kind span values) life.candidates))
    → PartGoes n span kind values old_piece numbers piece later part
part_goes n region span kind values old_piece piece numbers later part drawn reads among = λ place life stands. (
  record {
    epoch = drawn.epoch ∙ sym stands.epoch;
    number = drawn.number ∙ ap (λ m. m + 1) (sym (ap life.last drawn.region_is ∙ stands.last region));
    reads = reads place life stands;
  },
  record {
    epoch = stands.epoch;
    last = λ r.
        let here : part.region < length numbers = subst (λ x. x < length numbers) (sym drawn.region_is) drawn.inside in
        last_after numbers part.region part.number life.last here stands.last r
        ∙ ap (λ x. get_or (set numbers x part.number) r 0) drawn.region_is ∙ ap (λ l. get_or l r 0) (sym drawn.numbers_after);
    told = among place life stands;
  },
)

-- the numbers after one was drawn are not far above those before
pub below_more : (bound region : ℕ) (numbers : List ℕ) (part : Part) (later : List ℕ) → IsDrawn region numbers part later → AreBelow bound numbers → AreBelow (bound + 1) later
below_more bound region numbers part later drawn below r =
    rw drawn.numbers_after (elim (cases_eq r region) [
      | inl e ↦ omega (arith, ap (λ i. get_or (set numbers region part.number) i 0) e, get_or-set_same numbers region part.number 0 drawn.inside, drawn.number, below region)
      | inr ne ↦ omega (arith, get_or-set_other numbers region r part.number 0 ne, below r)
    ])

pub entries_are_parts : (es : List Entry) (parts : List Part) → map (λ e. e.part) es ≡ parts → length es ≡ length parts
entries_are_parts es parts told = sym (length-map es (λ e. e.part)) ∙ ap length told

module _ (n size start count : ℕ) (kind : EntryKind) (values : Contents) where
  pub none_gone : (piece : Seen) (numbers : List ℕ) → CallGoes n size start count kind values piece numbers piece numbers []
  none_gone piece numbers place before stands = record { entries = []; life = before; first = tt; each = tt; told = refl; goes_on = refl; stands = stands }

  pub gone_more : (old_piece piece new : Seen) (old_numbers numbers later : List ℕ) (parts : List Part) (part : Part) (span : Span)
      → CallGoes n size start count kind values old_piece old_numbers piece numbers parts
      → part_at size start count (length parts) ≡ Some span → part.region ≡ start / size + length parts
      → PartGoes n span kind values piece numbers new later part
      → CallGoes n size start count kind values old_piece old_numbers new later (parts ++ part ∷ [])
  gone_more old_piece piece new old_numbers numbers later parts part span goes range region more place before stands =
      let gone = goes place before stands in
      let e : Entry = entry_of place part kind span values in
      let index : length gone.entries ≡ length parts = entries_are_parts gone.entries parts gone.told in
      let here : IsPart size start count (0 + length gone.entries) e = record { region = region ∙ omega (arith, index); range = ap (part_at size start count) (omega (arith, index)) ∙ range } in
      let step = more place gone.life gone.stands in
      record {
        entries = gone.entries ++ e ∷ [];
        life = life_after e gone.life;
        first = parts_more size start count 0 gone.entries e gone.first here;
        each = each_more place kind values gone.entries e gone.each (record { session = refl; place_is = refl; kind_is = refl; values_are = λ k h. refl });
        told = map_push (λ e. e.part) gone.entries e ∙ ap (λ ps. ps ++ part ∷ []) gone.told;
        goes_on = goes_on_more before gone.life gone.entries e gone.goes_on step.0;
        stands = step.1;
      }
