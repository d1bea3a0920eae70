-- Runs of commands, one after the other.
use Rattle.std.proofs.Common.{◌≡◌, ℕ, ◌+◌, Bool, true, false, List, [], ◌∷◌, ◌++◌, length, take, Option, Some, Result, Ok, Err, inl, inr, subst, sym, ap, ◌∙◌, refl, arith, append_assoc, zero-add, suc}
use Rattle.std.specs.Prelude.{◌&&◌, IfOk, OnOk, OnErr, IsErrOf}
use Rattle.std.proofs.lemmas.List.Concat.{flat_map-append}
use Rattle.std.proofs.lemmas.List.Folds.{list_all-append}
use Rattle.std.proofs.lemmas.List.{append-nil, length-append}
use Rattle.vx_pages.specs.declared.local_piece.LocalPiece.{Ghosts}
use Rattle.vx_piece.specs.Seen.{Seen}
use Rattle.vx_script.specs.declared.command.Command.{Command}
use Rattle.vx_answers.specs.Lines.{lines_of}
use Rattle.vx_answers.specs.declared.answer.Answer.{Answer}
use Rattle.vx_answers.specs.declared.answer.Answer.TheVariants.{One, Block}
use Rattle.vx_moments.specs.Moment.{Counts, Moment}
use Rattle.vx_plans.specs.Steps.{IsTranscript}
use Rattle.vx_house.specs.Scene.{Scene, FaultsGoOn}
use Rattle.vx_house.specs.View.{View, Keeps, scene}
use Rattle.vx_house.proofs.Ends.{keeps_but_group}
use Rattle.vx_house.proofs.Moments.{faults_refl, faults_trans}
use Rattle.vx_house.proofs.Takes.{blamed_later}
use Rattle.vx_run.specs.Powers.{FaultsAreLater, IsLeftOff, StepEnds, StepGoes}
use Rattle.vx_run.specs.Serving.{AnswerBlamed}
use Rattle.vx_run.specs.declared.unserved.Unserved.{Unserved}
use Rattle.vx_run.specs.declared.unserved.Unserved.TheVariants as unserved
use Rattle.vx_run.proofs.CommandEnds.{blamed_on}
use Rattle.vx_run.specs.Fine.{is_fine, are_fine}
use Rattle.vx_run.specs.Run.{AreBlamed, HasRun, HasRunPartly, HoldsButLast, RestsIn, text_of}
use Rattle.vx_run.specs.Stops.{LeftBy, OnShort, fault_of}
use Rattle.vx_run.specs.declared.lines.ServeFault.{ServeFault}
use Rattle.vx_run.specs.declared.lines.ServeFault.TheVariants as stops

-- ---- counts

counts_stay : (a : Counts) → FaultsAreLater a a
counts_stay a = record { faults = λ name. omega arith; shelf = omega arith }

pub counts_go : (a b c : Counts) → FaultsAreLater a b → FaultsAreLater b c → FaultsAreLater a c
counts_go a b c first next = record { faults = λ name. (let one = first.faults name in let two = next.faults name in omega (arith, one, two)); shelf = (let one = first.shelf in let two = next.shelf in omega (arith, one, two)) }

-- ---- transcripts

transcript_then : (place : ℕ) (old mid new : Moment) (cs ds : List Command) (xs ys : List Answer) → IsTranscript place old cs xs mid → IsTranscript (place + length cs) mid ds ys new → IsTranscript place old (cs ++ ds) (xs ++ ys) new
transcript_then place old mid new [] ds [] ys h k = subst (λ w. IsTranscript place w ds ys new) h (subst (λ p. IsTranscript p mid ds ys new) (omega arith) k)
transcript_then place old mid new [] ds (a ∷ xs) ys h k = absurd h
transcript_then place old mid new (c ∷ cs) ds [] ys h k = absurd h
transcript_then place old mid new (c ∷ cs) ds (a ∷ xs) ys h k = (h.0, h.1, transcript_then (place + 1) h.0 mid new cs ds xs ys h.2 (subst (λ p. IsTranscript p mid ds ys new) (omega arith) k))

-- what is left stays left
rests_more : (cs ds : List Command) (m n : Moment) → RestsIn cs m n → RestsIn (cs ++ ds) m n
rests_more [] [] m n same = same
rests_more [] (d ∷ ds) m n same = inl same
rests_more (c ∷ cs) ds m n rests = rests

-- ---- texts

text_more : (xs ys : List Answer) → text_of (xs ++ ys) ≡ text_of xs ++ text_of ys
text_more xs ys = flat_map-append lines_of xs ys

front_more : (xs ys : List ℕ) (n : ℕ) → take (length xs + n) (xs ++ ys) ≡ xs ++ take n ys
front_more [] ys n = ap (λ m. take m ys) (zero-add n)
front_more (x ∷ xs) ys n = let more : length (x ∷ xs) + n ≡ suc (length xs + n) = omega arith in ap (λ m. take m (x ∷ (xs ++ ys))) more ∙ ap (λ l. x ∷ l) (front_more xs ys n)

text_length : (xs ys : List Answer) → length (text_of (xs ++ ys)) ≡ length (text_of xs) + length (text_of ys)
text_length xs ys = ap (λ l. length l) (text_more xs ys) ∙ length-append (text_of xs) (text_of ys)

-- the lines of all answers, and then so many bytes of others
holds_more : (xs ys : List Answer) (n : ℕ) → HoldsButLast ys n → HoldsButLast (xs ++ ys) (length (text_of xs) + n)
holds_more xs ys n h = record {
  whole = xs ++ h.whole;
  last = h.last;
  parts = ap (λ l. xs ++ l) h.parts ∙ sym (append_assoc xs h.whole h.last);
  one = h.one;
  holds = omega (arith, text_length xs h.whole, h.holds);
}

line_alone : (a : Answer) → text_of (a ∷ []) ≡ lines_of a
line_alone a = append-nil (lines_of a)

-- ---- blame

answer_on : (x : Answer) (a b c : Scene) → AnswerBlamed x a b → FaultsGoOn b c → AnswerBlamed x a c
answer_on (One views end) a b c blamed on = blamed_on end a b c blamed on
answer_on (Block lines lost) a b c blamed on = tt

answer_later : (x : Answer) (a b c : Scene) → FaultsGoOn a b → AnswerBlamed x b c → AnswerBlamed x a c
answer_later (One views end) a b c on blamed = blamed_later end a b c on blamed
answer_later (Block lines lost) a b c on blamed = tt

pub all_on : (xs : List Answer) (a b c : Scene) → AreBlamed xs a b → FaultsGoOn b c → AreBlamed xs a c
all_on [] a b c blamed on = tt
all_on (x ∷ xs) a b c blamed on = (answer_on x a b c blamed.0 on, all_on xs a b c blamed.1 on)

all_later : (xs : List Answer) (a b c : Scene) → FaultsGoOn a b → AreBlamed xs b c → AreBlamed xs a c
all_later [] a b c on blamed = tt
all_later (x ∷ xs) a b c on blamed = (answer_later x a b c on blamed.0, all_later xs a b c on blamed.1)

both_blamed : (xs ys : List Answer) (a b : Scene) → AreBlamed xs a b → AreBlamed ys a b → AreBlamed (xs ++ ys) a b
both_blamed [] ys a b one two = two
both_blamed (x ∷ xs) ys a b one two = (one.0, both_blamed xs ys a b one.1 two)

all_fine : (b : Bool) → b ≡ (b && true)
all_fine true = refl
all_fine false = refl

module _ {P : Type 0} {ghosts : Ghosts P} (see : P → Seen) where
  pub none_run : (place : ℕ) (v : View P ghosts) (taken : Option (List ℕ)) → HasRun see place [] v taken v taken true
  none_run place v taken = record {
    answers = [];
    goes = λ m is. (m, is, counts_stay m.counts, refl);
    written = λ text is. is ∙ ap (λ t. Some t) (sym (append-nil text));
    fine_is = refl;
    faults = faults_refl (scene see v);
    blamed = tt;
  }

  -- a command that was served, with its line
  pub one_run : (place : ℕ) (c : Command) (answer : Answer) (old new : View P ghosts) (taken taken' : Option (List ℕ)) (fine : Bool) → StepGoes see place c answer old new → ((text : List ℕ) → taken ≡ Some text → taken' ≡ Some (text ++ lines_of answer)) → fine ≡ is_fine answer → HasRun see place (c ∷ []) old taken new taken' fine
  one_run place c answer old new taken taken' fine go written is = record {
    answers = answer ∷ [];
    goes = λ m there. (let n = go.goes m there in (n.0, n.1, n.2, (n.0, n.3, refl)));
    written = λ text told. written text told ∙ ap (λ l. Some (text ++ l)) (sym (line_alone answer));
    fine_is = is ∙ all_fine (is_fine answer);
    faults = go.faults;
    blamed = (go.blamed, tt);
  }

  -- one whose line was not written whole
  pub one_partly : (place : ℕ) (c : Command) (answer : Answer) (old new : View P ghosts) (taken taken' : Option (List ℕ)) → StepGoes see place c answer old new → ((text : List ℕ) → taken ≡ Some text → (n : ℕ) × (taken' ≡ Some (text ++ take n (lines_of answer)))) → HasRunPartly see place (c ∷ []) old taken new taken'
  one_partly place c answer old new taken taken' go written = record {
    begun = c ∷ [];
    left = [];
    split = refl;
    answers = answer ∷ [];
    goes = λ m there. (let n = go.goes m there in (n.0, n.1, n.2, (n.0, (n.0, n.3, refl), counts_stay n.0.counts, refl)));
    written = λ text told. (let n = written text told in record {
      bytes = n.0;
      written = n.1 ∙ ap (λ l. Some (text ++ take n.0 l)) (sym (line_alone answer));
      stopped = record { whole = []; last = answer ∷ []; parts = refl; one = omega arith; holds = omega arith };
    });
    faults = go.faults;
    blamed = (go.blamed, tt);
  }

  -- one of whose line nothing was written
  pub unwritten_partly : (place : ℕ) (c : Command) (answer : Answer) (old new : View P ghosts) (taken : Option (List ℕ)) → StepGoes see place c answer old new → HasRunPartly see place (c ∷ []) old taken new taken
  unwritten_partly place c answer old new taken go = one_partly place c answer old new taken taken go (λ text told. (0, told ∙ ap (λ l. Some l) (sym (append-nil text))))

  -- one that was not begun
  pub none_partly : (place : ℕ) (c : Command) (old new : View P ghosts) (taken : Option (List ℕ)) → IsLeftOff see c old new → HasRunPartly see place (c ∷ []) old taken new taken
  none_partly place c old new taken go = record {
    begun = [];
    left = c ∷ [];
    split = refl;
    answers = [];
    goes = λ m there. (let n = go.goes m there in (n.0, n.1, n.2, (m, refl, n.2, inr n.3)));
    written = λ text told. record {
      bytes = 0;
      written = told ∙ ap (λ t. Some t) (sym (append-nil text));
      stopped = record { whole = []; last = []; parts = refl; one = omega arith; holds = omega arith };
    };
    faults = go.faults;
    blamed = tt;
  }

  pub run_then : (place : ℕ) (cs ds : List Command) (old mid new : View P ghosts) (taken taken' taken'' : Option (List ℕ)) (fine fine' : Bool) → HasRun see place cs old taken mid taken' fine → HasRun see (place + length cs) ds mid taken' new taken'' fine' → HasRun see place (cs ++ ds) old taken new taken'' (fine && fine')
  run_then place cs ds old mid new taken taken' taken'' fine fine' a b = record {
    answers = a.answers ++ b.answers;
    goes = λ m there.
        let n = a.goes m there in
        let k = b.goes n.0 n.1 in
        (k.0, k.1, counts_go m.counts n.0.counts k.0.counts n.2 k.2, transcript_then place m n.0 k.0 cs ds a.answers b.answers n.3 k.3);
    written = λ text told. b.written (text ++ text_of a.answers) (a.written text told) ∙ ap (λ t. Some t) (append_assoc text (text_of a.answers) (text_of b.answers) ∙ ap (λ l. text ++ l) (sym (text_more a.answers b.answers)));
    fine_is = ap (λ x. x && fine') a.fine_is ∙ ap (λ x. are_fine a.answers && x) b.fine_is ∙ sym (list_all-append is_fine a.answers b.answers);
    faults = faults_trans (scene see old) (scene see mid) (scene see new) a.faults b.faults;
    blamed = both_blamed a.answers b.answers (scene see old) (scene see new) (all_on a.answers _ _ _ a.blamed b.faults) (all_later b.answers _ _ _ a.faults b.blamed);
  }

  pub run_then_partly : (place : ℕ) (cs ds : List Command) (old mid new : View P ghosts) (taken taken' taken'' : Option (List ℕ)) (fine : Bool) → HasRun see place cs old taken mid taken' fine → HasRunPartly see (place + length cs) ds mid taken' new taken'' → HasRunPartly see place (cs ++ ds) old taken new taken''
  run_then_partly place cs ds old mid new taken taken' taken'' fine a b = record {
    begun = cs ++ b.begun;
    left = b.left;
    split = ap (λ l. cs ++ l) b.split ∙ sym (append_assoc cs b.begun b.left);
    answers = a.answers ++ b.answers;
    goes = λ m there.
        let n = a.goes m there in
        let k = b.goes n.0 n.1 in
        (k.0, k.1, counts_go m.counts n.0.counts k.0.counts n.2 k.2, (k.3.0, transcript_then place m n.0 k.3.0 cs b.begun a.answers b.answers n.3 k.3.1, k.3.2, k.3.3));
    written = λ text told. (let w = b.written (text ++ text_of a.answers) (a.written text told) in record {
      bytes = length (text_of a.answers) + w.bytes;
      written = w.written ∙ ap (λ t. Some t) (append_assoc text (text_of a.answers) (take w.bytes (text_of b.answers)) ∙ ap (λ l. text ++ l) (sym (ap (take (length (text_of a.answers) + w.bytes)) (text_more a.answers b.answers) ∙ front_more (text_of a.answers) (text_of b.answers) w.bytes)));
      stopped = holds_more a.answers b.answers w.bytes w.stopped;
    });
    faults = faults_trans (scene see old) (scene see mid) (scene see new) a.faults b.faults;
    blamed = both_blamed a.answers b.answers (scene see old) (scene see new) (all_on a.answers _ _ _ a.blamed b.faults) (all_later b.answers _ _ _ a.faults b.blamed);
  }

  -- commands behind those that were begun change nothing
  pub partly_more : (place : ℕ) (cs ds : List Command) (old new : View P ghosts) (taken taken' : Option (List ℕ)) → HasRunPartly see place cs old taken new taken' → HasRunPartly see place (cs ++ ds) old taken new taken'
  partly_more place cs ds old new taken taken' a = record {
    begun = a.begun;
    left = a.left ++ ds;
    split = ap (λ l. l ++ ds) a.split ∙ append_assoc a.begun a.left ds;
    answers = a.answers;
    goes = λ m there. (let k = a.goes m there in (k.0, k.1, k.2, (k.3.0, k.3.1, k.3.2, rests_more a.left ds k.3.0 k.0 k.3.3)));
    written = a.written;
    faults = a.faults;
    blamed = a.blamed;
  }

-- ---- how a command ended its run

module _ {P : Type 0} {ghosts : Ghosts P} (see : P → Seen) where
  -- it had no answer
  pub unserved_left : (T : Type 0) (why : Unserved) (place : ℕ) (c : Command) (old new : View P ghosts) → StepEnds see place c (Err why) old new → LeftBy {T = T} see (Err (fault_of why)) new
  unserved_left T unserved.OutOfMemory place c old new ends = record { keeps = ends.keeps; empty = ends.empty }
  unserved_left T unserved.HeldUp place c old new ends = ends

  pub unserved_partly : (T : Type 0) (why : Unserved) (c : Command) (old new : View P ghosts) (taken : Option (List ℕ)) → ((place : ℕ) → StepEnds see place c (Err why) old new) →
      OnShort {T = T} (Err (fault_of why)) ((place : ℕ) → HasRunPartly see place (c ∷ []) old taken new taken)
  unserved_partly T unserved.OutOfMemory c old new taken ends = λ place. none_partly see place c old new taken (ends place)
  unserved_partly T unserved.HeldUp c old new taken ends = tt

  -- it had one, of which a line was written or not
  pub served_left : {T : Type 0} (result : Result T ServeFault) (v : View P ghosts) → Keeps see v → v.house.hand.items ≡ [] → (IsErrOf result stops.HeldUp → ⊥) → LeftBy see result v
  served_left (Ok x) v keeps empty kinds = record { keeps = keeps; empty = empty }
  served_left (Err stops.OutOfMemory) v keeps empty kinds = record { keeps = keeps_but_group see v keeps; empty = empty }
  served_left (Err stops.SinkFailed) v keeps empty kinds = record { keeps = keeps_but_group see v keeps; empty = empty }
  served_left (Err stops.HeldUp) v keeps empty kinds = absurd (kinds refl)

-- no command without an answer is for the sink's fault
pub not_sink : (why : Unserved) → fault_of why ≡ stops.SinkFailed → ⊥
not_sink unserved.OutOfMemory is = cc
not_sink unserved.HeldUp is = cc

pub on_short : {T : Type 0} (P : Type 0) (r : Result T ServeFault) → OnErr r P → OnShort r P
on_short P (Ok x) p = tt
on_short P (Err stops.OutOfMemory) p = p
on_short P (Err stops.SinkFailed) p = p
on_short P (Err stops.HeldUp) p = tt

pub short_weaker : {T P Q : Type 0} (r : Result T ServeFault) → (P → Q) → OnShort r P → OnShort r Q
short_weaker (Ok x) f p = tt
short_weaker (Err stops.OutOfMemory) f p = f p
short_weaker (Err stops.SinkFailed) f p = f p
short_weaker (Err stops.HeldUp) f p = tt

pub both_ok : {T E B : Type 0} (r : Result T E) (A P : T → Type 0) → IfOk r A → OnOk r B → ((x : T) → A x → B → P x) → IfOk r P
both_ok (Ok x) A P a b h = h x a b
both_ok (Err e) A P a b h = tt
