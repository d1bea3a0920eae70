-- Words that say something one after the other, and the parts of a form one after the other.
use Rattle.std.proofs.Common.{◌≡◌, ◌∙◌, sym, ap, refl, ℕ, suc, ◌+◌, ◌-◌, ◌<◌, ◌≤◌, Option, Some, None, List, [], ◌∷◌, Ok, Err, arith, length, drop, get_or, drop-cons}
use Rattle.vx_script_words.specs.Row.{gather, further, Gathered, item, items, Going}
use Rattle.vx_script_words.specs.Words.{from_word, first_word, past_word}
use Rattle.vx_script_words.specs.declared.class.Item.{Item}
use Rattle.vx_script_words.specs.Gives.{Fails}
use Rattle.vx_script_words.specs.declared.fault.LineFault.{LineFault}
use Rattle.vx_script_words.specs.declared.fault.LineFault.TheVariants.{OutOfMemory, Left}
use Rattle.vx_script_words.specs.declared.value.Value.{Value}

module _ {X A : Type 0} (say : List ℕ → Option X) (put : A → X → A) where
  step : (k : ℕ) (so : A) (text : List ℕ) → gather say put (suc k) so text ≡ further (say (first_word (from_word text))) (record { list = so; rest = text }) (λ x. gather say put k (put so x) (past_word (from_word text)))
  unfolding gather
  step k so text = refl

  steps : (limit n : ℕ) (so : A) (text : List ℕ) → n < limit → gather say put (limit - n) so text ≡ further (say (first_word (from_word text))) (record { list = so; rest = text }) (λ x. gather say put (limit - (n + 1)) (put so x) (past_word (from_word text)))
  steps limit n so text h =
      let e : limit - n ≡ suc (limit - (n + 1)) = omega arith in
      ap (λ k. gather say put k so text) e ∙ step (limit - (n + 1)) so text

  pub gather_stop : (limit n : ℕ) (so : A) (text : List ℕ) (whole : Gathered A) → n < limit → say (first_word (from_word text)) ≡ None → gather say put (limit - n) so text ≡ whole → whole ≡ record { list = so; rest = text }
  gather_stop limit n so text whole h none all =
      sym all ∙ steps limit n so text h ∙ ap (λ o. further o (record { list = so; rest = text }) (λ x. gather say put (limit - (n + 1)) (put so x) (past_word (from_word text)))) none

  pub gather_more : (limit n : ℕ) (so : A) (text : List ℕ) (x : X) (whole : Gathered A) → n < limit → say (first_word (from_word text)) ≡ Some x → gather say put (limit - n) so text ≡ whole → gather say put (limit - (n + 1)) (put so x) (past_word (from_word text)) ≡ whole
  gather_more limit n so text x whole h some all =
      sym (steps limit n so text h ∙ ap (λ o. further o (record { list = so; rest = text }) (λ y. gather say put (limit - (n + 1)) (put so y) (past_word (from_word text)))) some) ∙ all

  pub gather_end : (limit n : ℕ) (so : A) (text : List ℕ) (whole : Gathered A) → limit ≤ n → gather say put (limit - n) so text ≡ whole → whole ≡ record { list = so; rest = text }
  unfolding gather
  gather_end limit n so text whole h all =
      let e : limit - n ≡ 0 = omega arith in
      sym all ∙ ap (λ k. gather say put k so text) e

pub items_err : (is : List Item) (left : ℕ) → items is (Err left) ≡ Err left
items_err [] left = refl
items_err (i ∷ is) left = items_err is left

pub items_stop : (form : List Item) (k left : ℕ) (d : Item) (values : List Value) (rest : List ℕ) (whole : Going) → k < length form → item (get_or form k d) values rest ≡ Err left → items (drop k form) (Ok (record { values = values; rest = rest })) ≡ whole → whole ≡ Err left
items_stop form k left d values rest whole h e so =
    let f : List Item → Going = λ is. items is (Ok (record { values = values; rest = rest })) in
    let split : f (drop k form) ≡ items (drop (suc k) form) (item (get_or form k d) values rest) = ap f (drop-cons form k d h) in
    sym so ∙ split ∙ ap (items (drop (suc k) form)) e ∙ items_err (drop (suc k) form) left

pub items_fail : (stop : LineFault) (form : List Item) (k : ℕ) (d : Item) (values : List Value) (rest : List ℕ) (whole : Going) → k < length form → Fails stop (item (get_or form k d) values rest) → items (drop k form) (Ok (record { values = values; rest = rest })) ≡ whole → Fails stop whole
items_fail OutOfMemory form k d values rest whole h e so = tt
items_fail (Left left) form k d values rest whole h e so = items_stop form k left d values rest whole h e so
