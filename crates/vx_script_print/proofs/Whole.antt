-- A reader goes over the printed text of a script line by line, and has its commands at the end.
use Rattle.vx_script_print.proofs.Terms.{◌≡◌, ◌∙◌, sym, ap, subst, refl, ℕ, ◌+◌, ◌<◌, inl, inr, true, false, List, [], ◌∷◌, ◌++◌, length, arith, Option, None, Ok, ◌≤◌, Bool, map, Some, min, Result, Err, codes, ◌==◌, decimal, ◌&&◌, nat_le, list_all, flat_map, sum, bytes_eq, append-nil, append_assoc, list_all-append, and_parts, and_from, both_ways, cases_Bool, cond-true, cond-false, eqb-true, ltb-true, ne_eqb, not-true, not_from_false, or_from, false_from_ne_true, leb-true, le-leb, is_made, is_record_line, ends_line, is_said, is_line, is_command, is_kept, is_body, maybe_cut, lines_from, lines_of, bad_word, begins_comment, is_passed_over, commands_from, stepped, script_of, step, or_bad, command_step, opened, opened_by, line_behind, called, administered, session_line, line_of_session, added, line_calls, line_sectors, Command, Reader, Spells, spelled, begun, is_not_blank, from_word, first_word, past_word, is_dark, is_dark_word, is_not, all_by, name_word, ands, left_of, right_of, is_word, begun_words, Open, sum_by-cons, bytes_eq-Decides, is_name, is_letter_or_digit, decimal_name, choose, choice, or_others, In, in_all, fit_walks, is_sound, sound_commands, form_of, items_of, commands, calls, acts, kind_of, values_of, opening, act_kind, call_kind, Act, Call, Line, Form, Kind, form_again, group_again, class_word, value_text, row_words, form_words, cut_words, line_text, body_text, command_text, script_text, class_value, are_of, is_between, text_of, number_of, within, and_then, Read, row, Item, Value, are_sound, Words, whole_line, no_bad}
use Rattle.vx_script_print.proofs.Rows.{number_said, may_end, row_read, line_dark, all_clear, are_apart, rows_apart, word_bytes}
use Rattle.vx_script_forms.specs.Values.{group_of}

-- behind the text the reader is the other one, whatever comes then
abbrev pub Reaches : Reader → List ℕ → Reader → Type 0
Reaches r text next = (n : ℕ) (rest : List ℕ) → (k : ℕ) × (commands_from r n (lines_of (text ++ rest)) ≡ commands_from next k (lines_of rest))

pub stays_there : (r : Reader) → Reaches r [] r
stays_there r n rest = (n, refl)

pub and_on : (r s t : Reader) (x y : List ℕ) → Reaches r x s → Reaches s y t → Reaches r (x ++ y) t
and_on r s t x y f g n rest =
    let one = f n (y ++ rest) in
    let two = g one.0 rest in
    (two.0, ap (λ z. commands_from r n (lines_of z)) (append_assoc x y rest) ∙ one.1 ∙ two.1)

-- ---- one line

pub one_line : (r next : Reader) (line : List ℕ) → list_all (is_not 10) line ≡ true → step r line ≡ Ok next → Reaches r (line ++ 10 ∷ []) next
unfolding lines_of
one_line r next line h e n rest = (
  n + 1,
  ap (λ z. commands_from r n (lines_of z)) (append_assoc line (10 ∷ []) rest)
      ∙ ap (commands_from r n) (whole_line [] line rest h)
      ∙ ap (λ s. stepped s (λ after. commands_from after (n + 1) (lines_of rest)) n line) e,
)

-- some text, and the line that ends it
pub then_end : (r middle last : Reader) (text : List ℕ) → Reaches r text middle → step middle (codes "end") ≡ Ok last → Reaches r (text ++ codes "end" ++ 10 ∷ []) last
then_end r middle last text f e =
    subst (λ t. Reaches r t last) (sym (append_assoc text (codes "end") (10 ∷ []))) (and_on r middle last text (codes "end" ++ 10 ∷ []) f (one_line middle last (codes "end") refl e))

-- ---- a line of words

other_byte : (c b : ℕ) → c < 33 → is_dark b ≡ true → (b == c) ≡ false
other_byte c b low h = let above : 32 < b = ltb-true 32 b h in ne_eqb b c (λ e. omega (arith, above, e, low))

spelled_one_line : (ws : List (List ℕ)) → list_all is_dark_word ws ≡ true → list_all (is_not 10) (spelled ws) ≡ true
spelled_one_line [] h = refl
spelled_one_line (w ∷ ws) h =
    list_all-append (is_not 10) w (spelled ws) ∙ and_from _ _ (all_by is_dark (is_not 10) (λ b d. not_from_false _ (other_byte 10 b (omega arith) d)) w (word_bytes w (search ands))) (spelled_one_line ws (search ands))

real_word : (w : List ℕ) → is_dark_word w ≡ true → is_word w ≡ true
real_word [] h = h
real_word (b ∷ bs) h = all_by is_dark is_not_blank (λ c d. not_from_false _ (or_from _ _ (other_byte 32 c (omega arith) d) (other_byte 9 c (omega arith) d))) (b ∷ bs) h

-- a printed line has its words
pub begun_spells : (ws : List (List ℕ)) → list_all is_dark_word ws ≡ true → Spells (begun ws) ws
begun_spells ws h = begun_words ws (all_by is_dark_word is_word real_word ws h)

pub words_line : (r next : Reader) (ws : List (List ℕ)) → list_all is_dark_word ws ≡ true → step r (begun ws) ≡ Ok next → Reaches r (begun ws ++ 10 ∷ []) next
words_line r next [] h e = one_line r next [] refl e
words_line r next (w ∷ ws) h e = one_line r next (begun (w ∷ ws)) (spelled_one_line (w ∷ ws) h) e

-- a line of words that begins no comment is not passed over
pub not_passed : (w : List ℕ) (ws : List (List ℕ)) → list_all is_dark_word (w ∷ ws) ≡ true → begins_comment w ≡ false → is_passed_over (begun (w ∷ ws)) ≡ false
not_passed [] ws h c = absurd (both_ways false refl h)
not_passed (b ∷ bs) ws h c =
    let some = (begun_spells ((b ∷ bs) ∷ ws) h).0 in
    or_from _ _ c (ne_eqb (length (from_word (begun ((b ∷ bs) ∷ ws)))) 0 (λ e. omega (arith, some, e)))

-- ---- the lines of a record text

ends_rest : (b : ℕ) (bs : List ℕ) → ends_line (b ∷ bs) ≡ true → ends_line bs ≡ true
ends_rest b [] h = refl
ends_rest b (c ∷ cs) h = h

module _ (done : List Command) (group : Option (List ℕ)) (cut : Option ℕ) where
  abbrev pub making : List ℕ → Reader
  making text = record { done = done; begun = Open.Making group cut text }

  record_step : (text line : List ℕ) → is_record_line line ≡ true → step (making text) line ≡ Ok (making (text ++ line ++ 10 ∷ []))
  unfolding step
  record_step text line h =
      cond-false _ _ _ (not-true (bytes_eq line (codes "end")) (search ands)) ∙ ap (λ o. or_bad o (making (text ++ line ++ 10 ∷ []))) (no_bad (bad_word line) (search ands))

  -- the bytes that are left, behind those of a begun line
  takes : (text begun bs : List ℕ) → list_all is_record_line (lines_from begun bs) ≡ true → ends_line bs ≡ true → (bs ≡ [] → begun ≡ []) → (n : ℕ) (rest : List ℕ) → (k : ℕ) × (commands_from (making text) n (lines_from begun (bs ++ rest)) ≡ commands_from (making (text ++ (begun ++ bs))) k (lines_from [] rest))
  takes text begun [] h ends none n rest = (n, rw (none refl, append-nil) refl)
  takes text begun (b ∷ bs) h ends none n rest = elim (cases_Bool (b == 10)) [
    | inl newline ↦
        let parts = and_parts (is_record_line begun) (list_all is_record_line (lines_from [] bs)) (sym (ap (list_all is_record_line) (cond-true _ _ _ newline)) ∙ h) in
        let more = takes (text ++ begun ++ 10 ∷ []) [] bs parts.1 (ends_rest b bs ends) (λ e. refl) (n + 1) rest in
        let same = append_assoc (text ++ begun) (10 ∷ []) bs ∙ append_assoc text begun (10 ∷ bs) ∙ ap (λ c. text ++ (begun ++ c ∷ bs)) (sym (eqb-true b 10 newline)) in (
          more.0,
          ap (commands_from (making text) n) (cond-true _ _ _ newline)
              ∙ ap (λ s. stepped s (λ after. commands_from after (n + 1) (lines_from [] (bs ++ rest))) n begun) (record_step text begun parts.0)
              ∙ more.1
              ∙ ap (λ t. commands_from (making t) more.0 (lines_from [] rest)) same,
        )
    | inr other ↦
        let more = takes text (begun ++ b ∷ []) bs (sym (ap (list_all is_record_line) (cond-false _ _ _ other)) ∙ h) (ends_rest b bs ends) (λ e. absurd (both_ways (b == 10) other (ap (λ xs. ends_line (b ∷ xs)) (sym e) ∙ ends))) n rest in
        (more.0, ap (commands_from (making text) n) (cond-false _ _ _ other) ∙ more.1 ∙ ap (λ t. commands_from (making (text ++ t)) more.0 (lines_from [] rest)) (append_assoc begun (b ∷ []) bs))
  ]

  pub records_read : (text : List ℕ) → is_made text ≡ true → Reaches (making []) text (making text)
  unfolding lines_of
  records_read text h = takes [] [] text (search ands) (search ands) (λ e. refl)

-- ---- the kinds of a list

-- each two of the kinds have no line in common
abbrev all_two : Bool → List Kind → Bool
all_two b [] = true
all_two b (k ∷ ks) = list_all (λ j. are_apart b (items_of k) (items_of j)) ks && all_two b ks

told_apart : (all_two true commands ≡ true) × (all_two false calls ≡ true) × (all_two false acts ≡ true)
unfolding class_value
told_apart = (refl, refl, refl)

in_commands : (k : Kind) → In k commands
in_commands Kind.Read = inl refl
in_commands k = search (inl, inr) depth 60 fits 4000

in_calls : (c : Call) → In (call_kind c) calls
in_calls (Call.Read vol start count) = inl refl
in_calls c = search (inl, inr) depth 60 fits 4000

in_acts : (a : Act) → In (act_kind a) acts
in_acts (Act.SnapMake vol snap plex) = inl refl
in_acts (Act.Snapback snap true) = inr (inr (inr (inr (inl refl))))
in_acts a = search (inl, inr) depth 60 fits 4000

all_sound : (k : Kind) → are_sound (items_of k) ≡ true
all_sound k = in_all is_sound k commands (in_commands k) sound_commands

-- a line of a kind's parts is of that kind
chosen : (b : Bool) (ks : List Kind) (k : Kind) (t : List ℕ) (ws : Words) (read : Read) (n : ℕ) → all_two b ks ≡ true → In k ks → Spells t ws → row b (items_of k) t ≡ Ok read → choice b ks t n ≡ Ok (record { kind = k; values = read.values; cut = read.cut })
chosen b [] k t ws read n two i s says = absurd i
chosen b (x ∷ xs) k t ws read n two (inl e) s says = subst (λ (y : Kind). choice b (y ∷ xs) t n ≡ Ok (record { kind = k; values = read.values; cut = read.cut })) e (ap (λ g. or_others g k (choice b xs t) n) says)
chosen b (x ∷ xs) k t ws read n two (inr i) s says = by_row (row b (items_of x) t) refl (λ m. chosen b xs k t ws read m (search ands) i s says)
  where
    by_row : (g : Result Read ℕ) → row b (items_of x) t ≡ g → ((m : ℕ) → choice b xs t m ≡ Ok (record { kind = k; values = read.values; cut = read.cut })) → or_others g x (choice b xs t) n ≡ Ok (record { kind = k; values = read.values; cut = read.cut })
    by_row (Err less) e more = more (min n less)
    by_row (Ok other) e more = absurd (rows_apart b (items_of x) (items_of k) ws _ _ (in_all (λ j. are_apart b (items_of x) (items_of j)) k xs i (search ands)) (fit_walks b x t ws other (all_sound x) s e).1 (fit_walks b k t ws read (all_sound k) s says).1)

-- ---- a line

-- the first word begins no comment
abbrev Plain : List Item → Type 0
Plain (Item.One c ∷ is) = (x : List ℕ) → begins_comment (text_of c.front ++ x) ≡ false
Plain is = ⊥

all_plain : (k : Kind) → Plain (items_of k)
all_plain Kind.Read = λ x. refl
all_plain k = λ x. refl

-- a line of these parts is not passed over
row_not_passed : (is : List Item) (vs : List Value) (tail : List (List ℕ)) → Plain is → are_of is vs ≡ true → list_all is_dark_word (row_words is vs ++ tail) ≡ true → is_passed_over (begun (row_words is vs ++ tail)) ≡ false
row_not_passed (Item.One c ∷ is) (v ∷ vs) tail p h dark = not_passed (class_word c v) (row_words is vs ++ tail) dark (p (value_text c.sort v))
row_not_passed (Item.One c ∷ is) [] tail p h dark = absurd (both_ways false refl h)
row_not_passed is vs tail p h dark = absurd p

-- ---- the words of a form

form_dark : (g : Option (List ℕ)) (f : Form) (cut : Option ℕ) → is_said g f ≡ true → maybe_cut cut ≡ true → list_all is_dark_word (form_words g f ++ cut_words cut) ≡ true
form_dark g f cut h short = line_dark (items_of (kind_of f)) (values_of g f) cut (all_clear (kind_of f)) h short

-- a line of a form's words has its kind, and says its values
is_chosen : (b : Bool) (kinds : List Kind) (g : Option (List ℕ)) (f : Form) (cut : Option ℕ) (t : List ℕ) → all_two b kinds ≡ true → In (kind_of f) kinds → may_end b cut ≡ true → is_said g f ≡ true → Spells t (form_words g f ++ cut_words cut) → choose b kinds t ≡ Ok (record { kind = kind_of f; values = values_of g f; cut = cut })
is_chosen b kinds g f cut t two i ends h s =
    chosen b kinds (kind_of f) t (form_words g f ++ cut_words cut) (record { values = values_of g f; cut = cut }) (length (from_word t)) two i s (row_read b cut (items_of (kind_of f)) (values_of g f) t ends (all_clear (kind_of f)) h s)

command_said : (done : List Command) (g : Option (List ℕ)) (f : Form) (cut : Option ℕ) (t : List ℕ) → is_said g f ≡ true → maybe_cut cut ≡ true → Spells t (form_words g f ++ cut_words cut) → command_step done t ≡ Ok (opened done g (opening f) cut)
unfolding command_step
command_said done g f cut t h short s =
    ap (λ r. and_then r (λ c. opened_by done (group_of c.values) (form_of c.kind c.values) c.cut)) (is_chosen true commands g f cut t told_apart.0 (in_commands (kind_of f)) (and_from _ _ short refl) h s)
    ∙ ap (λ x. opened_by done x (form_of (kind_of f) (values_of g f)) cut) (group_again g f)
    ∙ ap (λ x. opened_by done (Some g) x cut) (form_again g f h)

-- ---- the lines of a block

name_no_comment : (w : List ℕ) → is_name w ≡ true → begins_comment w ≡ false
name_no_comment [] h = refl
name_no_comment (b ∷ bs) h = ne_eqb b 35 (λ e. both_ways (is_letter_or_digit b) (ap is_letter_or_digit e) (search ands))

-- `end` is the number of none
no_end : (word : List ℕ) (session : ℕ) → number_of word ≡ Some session → bytes_eq word (codes "end") ≡ false
no_end word session e = false_from_ne_true (bytes_eq word (codes "end")) (λ same. (let none : None ≡ Some session = ap number_of (sym ((bytes_eq-Decides word (codes "end")).0 same)) ∙ e in cc))

module _ (done : List Command) (cut : Option ℕ) (sessions : ℕ) (most : sessions ≤ 16) where
  abbrev inside : List Line → ℕ → ℕ → Reader
  inside lines calls_ sectors = record { done = done; begun = Open.Inside cut sessions lines calls_ sectors }

  -- a line of the number of a session and a form
  line_read : (lines : List Line) (calls_ sectors : ℕ) (word : List ℕ) (session : ℕ) (g : Option (List ℕ)) (f : Form) (l : Line) → is_name word ≡ true → number_of word ≡ Some session → session ≤ sessions → is_said g f ≡ true → ((t : List ℕ) → Spells t (form_words g f ++ []) → line_behind session t ≡ Ok l) → calls_ + line_calls l ≤ 65536 → sectors + line_sectors l ≤ 262144
      → Reaches (inside lines calls_ sectors) (begun (word ∷ form_words g f) ++ 10 ∷ []) (inside (lines ++ l ∷ []) (calls_ + line_calls l) (sectors + line_sectors l))
  unfolding step session_line
  line_read lines calls_ sectors word session g f l name number below h says few small =
      let ws : List (List ℕ) = word ∷ (form_words g f ++ []) in
      let next : Reader = inside (lines ++ l ∷ []) (calls_ + line_calls l) (sectors + line_sectors l) in
      let dark : list_all is_dark_word ws ≡ true = and_from _ _ (name_word word name) (form_dark g f None h refl) in
      let spells = begun_spells ws dark in
      let first : within 0 sessions (number_of (first_word (from_word (begun ws)))) ≡ Some session = ap (λ w. within 0 sessions (number_of w)) spells.1 ∙ ap (within 0 sessions) number ∙ cond-true _ _ _ (and_from _ _ (le-leb 0 session (omega arith)) (le-leb session sessions below)) in
      subst (λ vs. Reaches (inside lines calls_ sectors) (begun (word ∷ vs) ++ 10 ∷ []) next) (append-nil (form_words g f)) (words_line (inside lines calls_ sectors) next ws dark (cond-false _ _ _ (not_passed word (form_words g f ++ []) dark (name_no_comment word name))
      ∙ cond-false _ _ _ (ap (λ w. bytes_eq w (codes "end")) spells.1 ∙ no_end word session number)
      ∙ ap (λ r. and_then r (added done cut sessions lines calls_ sectors (length (begun ws)))) (ap (λ s. line_of_session s (from_word (begun ws))) first ∙ says (past_word (from_word (begun ws))) spells.2)
      ∙ cond-true _ _ _ (and_from _ _ (le-leb (calls_ + line_calls l) 65536 few) (le-leb (sectors + line_sectors l) 262144 small))))

  one_more : (lines : List Line) (calls_ sectors : ℕ) (l : Line) → is_line sessions l ≡ true → calls_ + line_calls l ≤ 65536 → sectors + line_sectors l ≤ 262144 → Reaches (inside lines calls_ sectors) (line_text l) (inside (lines ++ l ∷ []) (calls_ + line_calls l) (sectors + line_sectors l))
  unfolding line_behind
  one_more lines calls_ sectors (Line.Session session c) h few small =
      let low : 1 ≤ session = leb-true 1 session (search ands) in
      let high : session ≤ sessions = leb-true session sessions (search ands) in
      let f : Form = Form.Calling c in
      line_read lines calls_ sectors (decimal session) session None f (Line.Session session c) (decimal_name session (omega (arith, high, most))) (number_said session (omega (arith, high, most))) high (search ands)
      (λ t s. cond-false _ _ _ (ne_eqb session 0 (λ e. omega (arith, low, e))) ∙ ap (λ r. and_then r (λ x. called session (form_of x.kind x.values))) (is_chosen false calls None f None t told_apart.1 (in_calls c) refl (search ands) s) ∙ ap (called session) (form_again None f (search ands))) few small
  one_more lines calls_ sectors (Line.Administer admin) h few small =
      let f : Form = Form.Acting admin.act in
      line_read lines calls_ sectors (codes "0") 0 admin.group f (Line.Administer admin) refl refl (omega arith) h
      (λ t s. ap (λ r. and_then r (λ x. administered (group_of x.values) (form_of x.kind x.values))) (is_chosen false acts admin.group f None t told_apart.2 (in_acts admin.act) refl h s) ∙ ap (λ g. administered g (form_of (kind_of f) (values_of admin.group f))) (group_again admin.group f) ∙ ap (administered (Some admin.group)) (form_again admin.group f h)) few small

  sum_more : (f : Line → ℕ) (l : Line) (ls : List Line) → sum (map f (l ∷ ls)) ≡ f l + sum (map f ls)
  sum_more f l ls = sum_by-cons (λ x. x) (f l) (map f ls)

  lines_read : (lines : List Line) (calls_ sectors : ℕ) (ls : List Line) → list_all (is_line sessions) ls ≡ true → calls_ + sum (map line_calls ls) ≤ 65536 → sectors + sum (map line_sectors ls) ≤ 262144 → (c : ℕ) × (s : ℕ) × Reaches (inside lines calls_ sectors) (flat_map line_text ls) (inside (lines ++ ls) c s)
  lines_read lines calls_ sectors [] h few small = (calls_, sectors, subst (λ xs. Reaches (inside lines calls_ sectors) [] (inside xs calls_ sectors)) (sym (append-nil lines)) (stays_there (inside lines calls_ sectors)))
  lines_read lines calls_ sectors (l ∷ ls) h few small =
      let next : Reader = inside (lines ++ l ∷ []) (calls_ + line_calls l) (sectors + line_sectors l) in
      let one = one_more lines calls_ sectors l (search ands) (omega (arith, sum_more line_calls l ls, few)) (omega (arith, sum_more line_sectors l ls, small)) in
      let more = lines_read (lines ++ l ∷ []) (calls_ + line_calls l) (sectors + line_sectors l) ls (search ands) (omega (arith, sum_more line_calls l ls, few)) (omega (arith, sum_more line_sectors l ls, small)) in
      (more.0, more.1, subst (λ xs. Reaches (inside lines calls_ sectors) (flat_map line_text (l ∷ ls)) (inside xs more.0 more.1)) (append_assoc lines (l ∷ []) ls) (and_on (inside lines calls_ sectors) next (inside ((lines ++ l ∷ []) ++ ls) more.0 more.1) (line_text l) (flat_map line_text ls) one more.2))

-- ---- commands

-- between commands
abbrev between : List Command → Reader
between done = record { done = done; begun = Open.Closed }

abbrev after : List Command → Option (List ℕ) → Form → Option ℕ → Reader
after done g f cut = between (done ++ (record { group = g; form = f; cut = cut }) ∷ [])

-- the lines behind the first
body_read : (done : List Command) (g : Option (List ℕ)) (f : Form) (cut : Option ℕ) → is_said g f ≡ true → is_body f ≡ true → Reaches (opened done g (opening f) cut) (body_text f) (after done g f cut)
unfolding step
body_read done g (Form.VxMake text) cut h b = then_end (making done g cut []) (making done g cut text) (after done g (Form.VxMake text) cut) text (records_read done g cut text b) refl
body_read done (Some name) (Form.Sessions block) cut h b = absurd (both_ways false refl h)
body_read done None (Form.Sessions block) cut h b =
    let most : block.sessions ≤ 16 = leb-true block.sessions 16 (right_of (nat_le 1 block.sessions) (nat_le block.sessions 16) (left_of (is_between 1 16 block.sessions) true h)) in
    let few : sum (map line_calls block.lines) ≤ 65536 = leb-true (sum (map line_calls block.lines)) 65536 (search ands) in
    let small : sum (map line_sectors block.lines) ≤ 262144 = leb-true (sum (map line_sectors block.lines)) 262144 (search ands) in
    let all = lines_read done cut block.sessions most [] 0 0 block.lines (search ands) (omega (arith, few)) (omega (arith, small)) in
    then_end (inside done cut block.sessions most [] 0 0) (inside done cut block.sessions most block.lines all.0 all.1) (after done None (Form.Sessions block) cut) (flat_map line_text block.lines) all.2 refl
body_read done g f cut h b = stays_there (after done g f cut)

command_read : (done : List Command) (c : Command) → is_command c ≡ true → Reaches (between done) (command_text c) (between (done ++ c ∷ []))
unfolding step
command_read done c h =
    let words : List (List ℕ) = form_words c.group c.form ++ cut_words c.cut in
    let dark : list_all is_dark_word words ≡ true = form_dark c.group c.form c.cut (search ands) (search ands) in
    let passed : is_passed_over (begun words) ≡ false = row_not_passed (items_of (kind_of c.form)) (values_of c.group c.form) (cut_words c.cut) (all_plain (kind_of c.form)) (search ands) dark in
    let middle : Reader = opened done c.group (opening c.form) c.cut in
    and_on (between done) middle (between (done ++ c ∷ [])) (begun words ++ 10 ∷ []) (body_text c.form)
    (words_line (between done) middle words dark (cond-false _ _ _ passed ∙ command_said done c.group c.form c.cut (begun words) (search ands) (search ands) (begun_spells words dark)))
    (body_read done c.group c.form c.cut (search ands) (search ands))

commands_read : (done cs : List Command) → is_kept cs ≡ true → Reaches (between done) (script_text cs) (between (done ++ cs))
commands_read done [] h = subst (λ xs. Reaches (between done) [] (between xs)) (sym (append-nil done)) (stays_there (between done))
commands_read done (c ∷ cs) h =
    subst (λ xs. Reaches (between done) (script_text (c ∷ cs)) (between xs)) (append_assoc done (c ∷ []) cs)
    (and_on (between done) (between (done ++ c ∷ [])) (between ((done ++ c ∷ []) ++ cs)) (command_text c) (script_text cs) (command_read done c (search ands)) (commands_read (done ++ c ∷ []) cs (search ands)))

pub script_read : (commands : List Command) → is_kept commands ≡ true → script_of (script_text commands) ≡ Ok commands
unfolding script_of lines_of
script_read commands h = let all = commands_read [] commands h 1 [] in ap (λ t. commands_from (between []) 1 (lines_of t)) (sym (append-nil (script_text commands))) ∙ all.1
