-- A call of one of the started volumes, by its tests.
use Rattle.std.proofs.Common.{◌≡◌, ◌∙◌, ◌+◌, ◌<◌, ◌≤◌, cond, Option, Some, refl, sym, ap, subst}
use Rattle.std.specs.BTreeMap.{BTreeMap, get}
use Rattle.std.specs.Cmp.Lexicographic.{slice_cmp}
use Rattle.std.specs.Ordering.{nat_cmp, is_eq}
use Rattle.std.specs.Prelude.{MatchBool, Result, Ok, Err, IfOk}
use Rattle.std.proofs.lemmas.Bool.{le-ltb, lt-ltb}
use Rattle.std.proofs.lemmas.Map.Text.{is_eq-slice_cmp}
use Rattle.vx_base.specs.Named.{Word, put, SameUnder}
use Rattle.vx_piece.specs.Seen.{Seen}
use Rattle.vx_script_forms.specs.declared.call.Call.{Call}
use Rattle.vx_answers.specs.declared.answer.End.{End}
use Rattle.vx_answers.specs.declared.answer.End.TheVariants.{Refused}
use Rattle.vx_answers.specs.declared.refusal.Refusal.TheVariants.{Range}
use Rattle.vx_stages.specs.Calls.{start_of, count_of}
use Rattle.vx_started.specs.declared.started.Started.{Started}
use Rattle.vx_run.specs.Calling.{IsServedAmong, ServesAmong}

module _ {P : Type 0} (see : P → Seen) (call : Call) (found : Option (Started P)) (b : Started P) (is : found ≡ Some b) (old new : BTreeMap Word (Started P)) where
  pub past_among : b.geometry.length < start_of call + count_of call → new.entries ≡ old.entries → ServesAmong see call found old new (Refused Range)
  past_among past same =
      subst (λ o. ServesAmong see call o old new (Refused Range)) (sym is)
      (subst (λ t. MatchBool t ((Refused Range ≡ Refused Range) × (new.entries ≡ old.entries)) (IsServedAmong see call b (Refused Range) old new)) (sym (lt-ltb b.geometry.length (start_of call + count_of call) past)) (refl, same))

  pub served_among : (end : End) → start_of call + count_of call ≤ b.geometry.length → IsServedAmong see call b end old new → ServesAmong see call found old new end
  served_among end within served =
      subst (λ o. ServesAmong see call o old new end) (sym is)
      (subst (λ t. MatchBool t ((end ≡ Refused Range) × (new.entries ≡ old.entries)) (IsServedAmong see call b end old new)) (sym (le-ltb b.geometry.length (start_of call + count_of call) within)) served)

-- two things that are so of what was answered
pub both_ok : {T E : Type 0} (r : Result T E) (P Q R : T → Type 0) → ((x : T) → P x → Q x → R x) → IfOk r P → IfOk r Q → IfOk r R
both_ok (Ok x) P Q R f p q = f x p q
both_ok (Err e) P Q R f p q = tt

pub one_ok : {T E : Type 0} (r : Result T E) (P R : T → Type 0) → ((x : T) → P x → R x) → IfOk r P → IfOk r R
one_ok (Ok x) P R f p = f x p
one_ok (Err e) P R f p = tt

-- what stands under each name once one is put
pub puts_as : {X : Type 0} (old new : BTreeMap Word X) (key : Word) (x : X) → ((q : Word) → get (slice_cmp nat_cmp) new q ≡ cond (is_eq (slice_cmp nat_cmp key q)) (Some x) (get (slice_cmp nat_cmp) old q)) → SameUnder (put key (Some x) (get (slice_cmp nat_cmp) old)) (get (slice_cmp nat_cmp) new)
puts_as old new key x puts q = puts q ∙ ap (λ b. cond b (Some x) (get (slice_cmp nat_cmp) old q)) (is_eq-slice_cmp key q)
