-- The line at which a text stops being records is the first that does not fit.
use Rattle.std.specs.Prelude.{Err}
use Rattle.std.proofs.Common.{◌≡◌, ℕ, suc, ◌+◌, ◌-◌, ◌≤◌, true, List, [], ◌∷◌, ◌++◌, length, map, take, drop, refl, sym, ◌∙◌, ap, subst, arith, append_assoc, length-append, inl, inr}
use Rattle.std.specs.List.{list_all}
use Rattle.std.proofs.lemmas.Bool.{and_parts, and_from, false≢true}
use Rattle.std.proofs.lemmas.List.{append-nil, drop-take, drop-drop}
use Rattle.std.proofs.Math.ListN.{drop_of_length-le}
use Rattle.std.proofs.lemmas.List.Folds.{list_all-append}
use Rattle.std.proofs.Math.Seq.{take-append_seam, drop-append_seam}
use Rattle.vx_names.specs.Attribute.{is_attr}
use Rattle.vx_names.specs.declared.attr.Attr.{Attr}
use Rattle.vx_record.specs.Content.{Content}
use Rattle.vx_record.specs.Grammar.{AreRecords, IsRecord, Spells, GoesOn, IsBadLine, IsReadFault, IsReadAs, head_line, attr_line, records_text, record_lines, records_lines, lines}
use Rattle.vx_record.specs.Reading.{Stops, IsNoAttr, IsRecordFault}
use Rattle.vx_record.specs.Table.{columns, attrs_fit, attr_fits}
use Rattle.vx_record.specs.declared.column.Column.{Column}
use Rattle.vx_record.specs.declared.kind.Kind.{Kind}
use Rattle.vx_record.specs.declared.fault.RecordFault.{RecordFault}
use Rattle.vx_record.specs.declared.fault.RecordFault.TheVariants as faults
use Rattle.vx_record.proofs.Completion.{completed, completed_fit, completed_are, fit-append}
use Rattle.vx_record.proofs.Joins.{lines_of_records, joined, joined_lines, joined_records, records_same, records_append, lines_few, head_same, record_length, fit_length, length_map}
use Rattle.vx_record.proofs.ValidRecords.{AreRecords-push}

-- a text whose lines are those of records is these records
pub spells_from : (text : List ℕ) (rs : List Content) → AreRecords rs → lines text ≡ records_lines rs → Spells text rs
spells_from text rs h e = record { valid = h; spelled = sym (joined_lines text) ∙ ap joined e ∙ joined_records rs }

pub lines_spelled : (text : List ℕ) (rs : List Content) → Spells text rs → lines text ≡ records_lines rs
lines_spelled text rs h = ap lines h.spelled ∙ lines_of_records rs h.valid

pub spells_one : (text : List ℕ) (rs ss : List Content) → Spells text rs → Spells text ss → rs ≡ ss
spells_one text rs ss h k = records_same rs ss h.valid k.valid (sym (lines_spelled text rs h) ∙ lines_spelled text ss k)

attrs_differ : (before behind : List Column) (column : Column) (others attrs : List Attr) (tail rest : List (List ℕ))
    → attrs_fit (before ++ column ∷ behind) others ≡ true → list_all is_attr others ≡ true → length before ≡ length attrs
    → ((line : List ℕ) (more : List (List ℕ)) → rest ≡ line ∷ more → IsNoAttr column line)
    → take (suc (length attrs)) (map attr_line others ++ tail) ≡ take (suc (length attrs)) (map attr_line attrs ++ rest) → ⊥
attrs_differ [] behind column [] attrs tail rest fit are len stops e = false≢true fit
attrs_differ [] behind column (o ∷ others) (a ∷ attrs) tail rest fit are len stops e = absurd (omega arith)
attrs_differ [] behind column (o ∷ others) [] tail [] fit are len stops e = cc
attrs_differ [] behind column (o ∷ others) [] tail (l ∷ rest) fit are len stops e =
    let same : attr_line o ≡ l = cc in
    stops l rest refl o (and_parts (is_attr o) (list_all is_attr others) are).0 (and_parts (attr_fits column o) (attrs_fit behind others) fit).0 (sym same)
attrs_differ (c ∷ before) behind column [] attrs tail rest fit are len stops e = false≢true fit
attrs_differ (c ∷ before) behind column (o ∷ others) [] tail rest fit are len stops e = absurd (omega arith)
attrs_differ (c ∷ before) behind column (o ∷ others) (a ∷ attrs) tail rest fit are len stops e =
    attrs_differ before behind column others attrs tail rest (and_parts (attr_fits c o) (attrs_fit (before ++ column ∷ behind) others) fit).1 (and_parts (is_attr o) (list_all is_attr others) are).1 (omega arith) stops (cc)

-- no records have the lines up to the one at which these stop
first_differs : (ss : List Content) (all : List (List ℕ)) (count : ℕ) → AreRecords ss → Stops all count → take (suc count) (records_lines ss) ≡ take (suc count) all → ⊥
first_differs [] all count h (inl s) e = let f = subst (λ (x : List (List ℕ)). [] ≡ take (suc count) x) s.lines e in cc
first_differs [] all count h (inr s) e = let f = subst (λ (x : List (List ℕ)). [] ≡ take (suc count) x) s.lines e in cc
first_differs (r ∷ ss) all count h (inl s) e =
    let f : take (suc count) (records_lines (r ∷ ss)) ≡ take (suc count) (s.line ∷ s.more) = subst (λ (x : List (List ℕ)). take (suc count) (records_lines (r ∷ ss)) ≡ take (suc count) x) s.lines e in
    let same : head_line r.kind r.name ≡ s.line = cc in
    s.no_head r.kind r.name h.0.name (sym same)
first_differs (r ∷ ss) all count h (inr s) e =
    let f : take (suc count) (records_lines (r ∷ ss)) ≡ take (suc count) (head_line s.kind s.name ∷ s.rest) = subst (λ (x : List (List ℕ)). take (suc count) (records_lines (r ∷ ss)) ≡ take (suc count) x) s.lines e in
    let heads : head_line r.kind r.name ≡ head_line s.kind s.name = cc in
    let tails : take count (map attr_line r.attrs ++ records_lines ss) ≡ take count s.rest = cc in
    let kinds : r.kind ≡ s.kind = (head_same r.kind s.kind r.name s.name heads).0 in
    let inner = s.stops in
    let counted : count ≡ suc (length inner.attrs) = omega (arith, s.at, inner.at) in
    let fit : attrs_fit (inner.before ++ inner.column ∷ inner.behind) r.attrs ≡ true = subst (λ (cs : List Column). attrs_fit cs r.attrs ≡ true) (ap columns kinds ∙ inner.columns) h.0.form in
    attrs_differ inner.before inner.behind inner.column r.attrs inner.attrs (records_lines ss) inner.rest fit h.0.attrs (sym (fit_length inner.before inner.attrs inner.fit)) inner.stops
    (subst (λ (n : ℕ). take n (map attr_line r.attrs ++ records_lines ss) ≡ take n (map attr_line inner.attrs ++ inner.rest)) counted (tails ∙ ap (take count) inner.lines))

drop_front : (front xs : List (List ℕ)) (n m : ℕ) → length front ≡ n → drop n (take (n + m) (front ++ xs)) ≡ take m xs
drop_front front xs n m len = drop-take n m (front ++ xs) ∙ ap (take m) (ap (λ (k : ℕ). drop k (front ++ xs)) (sym len) ∙ drop-append_seam front xs)

differ : (rs ss : List Content) (all : List (List ℕ)) (count : ℕ) → AreRecords rs → AreRecords ss → Stops all count
    → take (suc (length (records_lines rs) + count)) (records_lines ss) ≡ take (suc (length (records_lines rs) + count)) (records_lines rs ++ all) → ⊥
differ [] ss all count h k stops e = first_differs ss all count k stops (subst (λ (n : ℕ). take (suc n) (records_lines ss) ≡ take (suc n) all) (let z : 0 + count ≡ count = omega arith in z) e)
differ (r ∷ rs) [] all count h k stops e = cc
differ (r ∷ rs) (s ∷ ss) all count h k stops e =
    let heads : head_line s.kind s.name ≡ head_line r.kind r.name = cc in
    let kinds : s.kind ≡ r.kind = (head_same s.kind r.kind s.name r.name heads).0 in
    let len : length (record_lines s) ≡ length (record_lines r) = ap suc (record_length s k.0 ∙ ap (λ (x : Kind). length (columns x)) kinds ∙ sym (record_length r h.0)) in
    let n : ℕ = length (record_lines r) in
    let size : suc (length (records_lines (r ∷ rs)) + count) ≡ length (record_lines r) + suc (length (records_lines rs) + count) = omega (arith, length-append (record_lines r) (records_lines rs)) in
    let whole : records_lines (r ∷ rs) ++ all ≡ record_lines r ++ (records_lines rs ++ all) = append_assoc (record_lines r) (records_lines rs) all in
    let cut : take (length (record_lines r) + suc (length (records_lines rs) + count)) (record_lines s ++ records_lines ss) ≡ take (length (record_lines r) + suc (length (records_lines rs) + count)) (record_lines r ++ (records_lines rs ++ all)) =
    subst (λ (j : ℕ). take j (record_lines s ++ records_lines ss) ≡ take j (record_lines r ++ (records_lines rs ++ all))) size (e ∙ ap (take (suc (length (records_lines (r ∷ rs)) + count))) whole) in
    differ rs ss all count h.1 k.1 stops
    (sym (drop_front (record_lines s) (records_lines ss) (length (record_lines r)) (suc (length (records_lines rs) + count)) len)
    ∙ ap (drop (length (record_lines r))) cut
    ∙ drop_front (record_lines r) (records_lines rs ++ all) (length (record_lines r)) (suc (length (records_lines rs) + count)) refl)

are-append : (rs : List Content) (r : Content) → AreRecords rs → IsRecord r → AreRecords (rs ++ r ∷ [])
are-append rs r h k = AreRecords-push rs r h k

goes_on : (text : List ℕ) (ss : List Content) (front back tail : List (List ℕ)) (n : ℕ) → AreRecords ss → records_lines ss ≡ front ++ back → lines text ≡ front ++ tail → length front ≡ n → GoesOn n text
goes_on text ss front back tail n h e f len = record {
  other = records_text ss;
  records = ss;
  spells = record { valid = h; spelled = refl };
  same = ap (take n) (lines_of_records ss h ∙ e) ∙ taken back ∙ sym (taken tail) ∙ ap (take n) (sym f);
}
  where
    taken : (xs : List (List ℕ)) → take n (front ++ xs) ≡ front
    taken xs = ap (λ (k : ℕ). take k (front ++ xs)) (sym len) ∙ take-append_seam front xs

map-append : (xs ys : List Attr) → map attr_line (xs ++ ys) ≡ map attr_line xs ++ map attr_line ys
map-append [] ys = refl
map-append (a ∷ xs) ys = ap (λ (t : List (List ℕ)). attr_line a ∷ t) (map-append xs ys)

-- the record that the lines begin, completed
complete : (kind : Kind) (name : List ℕ) (attrs : List Attr) (more : List Column) → Content
complete kind name attrs more = record { kind = kind; name = name; attrs = attrs ++ completed more }

goes_before : (text : List ℕ) (rs : List Content) (all : List (List ℕ)) (count : ℕ) → AreRecords rs → lines text ≡ records_lines rs ++ all → Stops all count → GoesOn (length (records_lines rs) + count) text
unfolding complete
goes_before text rs all count h e (inl s) =
    goes_on text rs (records_lines rs) [] all (length (records_lines rs) + count) h (sym (append-nil (records_lines rs))) e (omega (arith, s.at))
goes_before text rs all count h e (inr s) =
    let inner = s.stops in
    let more : List Column = inner.column ∷ inner.behind in
    let r : Content = complete s.kind s.name inner.attrs (inner.column ∷ inner.behind) in
    let form : attrs_fit (columns s.kind) (inner.attrs ++ completed (inner.column ∷ inner.behind)) ≡ true =
    subst (λ (cs : List Column). attrs_fit cs (inner.attrs ++ completed (inner.column ∷ inner.behind)) ≡ true) (sym inner.columns)
    (fit-append inner.before (inner.column ∷ inner.behind) inner.attrs (completed (inner.column ∷ inner.behind)) inner.fit (completed_fit (inner.column ∷ inner.behind))) in
    let valid : IsRecord (complete s.kind s.name inner.attrs (inner.column ∷ inner.behind)) = record {
      name = s.named;
      attrs = list_all-append is_attr inner.attrs (completed (inner.column ∷ inner.behind)) ∙ and_from _ _ inner.names (completed_are (inner.column ∷ inner.behind));
      form = form;
    } in
    let front : List (List ℕ) = records_lines rs ++ (head_line s.kind s.name ∷ map attr_line inner.attrs) in
    let back : List (List ℕ) = map attr_line (completed (inner.column ∷ inner.behind)) in
    let ours : records_lines (rs ++ complete s.kind s.name inner.attrs (inner.column ∷ inner.behind) ∷ []) ≡ (records_lines rs ++ (head_line s.kind s.name ∷ map attr_line inner.attrs)) ++ map attr_line (completed (inner.column ∷ inner.behind)) =
    records_append rs (complete s.kind s.name inner.attrs (inner.column ∷ inner.behind))
    ∙ ap (λ (t : List (List ℕ)). records_lines rs ++ (head_line s.kind s.name ∷ t)) (map-append inner.attrs (completed (inner.column ∷ inner.behind)))
    ∙ sym (append_assoc (records_lines rs) (head_line s.kind s.name ∷ map attr_line inner.attrs) (map attr_line (completed (inner.column ∷ inner.behind)))) in
    let text_is : lines text ≡ (records_lines rs ++ (head_line s.kind s.name ∷ map attr_line inner.attrs)) ++ inner.rest =
    e ∙ ap (λ (t : List (List ℕ)). records_lines rs ++ t) (s.lines ∙ ap (λ (t : List (List ℕ)). head_line s.kind s.name ∷ t) inner.lines)
    ∙ sym (append_assoc (records_lines rs) (head_line s.kind s.name ∷ map attr_line inner.attrs) inner.rest) in
    goes_on text (rs ++ complete s.kind s.name inner.attrs (inner.column ∷ inner.behind) ∷ []) (records_lines rs ++ (head_line s.kind s.name ∷ map attr_line inner.attrs)) (map attr_line (completed (inner.column ∷ inner.behind))) inner.rest
    (length (records_lines rs) + count) (are-append rs (complete s.kind s.name inner.attrs (inner.column ∷ inner.behind)) h valid) ours text_is
    (omega (arith, length-append (records_lines rs) (head_line s.kind s.name ∷ map attr_line inner.attrs), length_map inner.attrs, s.at, inner.at))

pub bad_line : (text : List ℕ) (rs : List Content) (all : List (List ℕ)) (count line : ℕ) → AreRecords rs → lines text ≡ records_lines rs ++ all → Stops all count → line ≡ length (records_lines rs) + 1 + count → IsBadLine text line
bad_line text rs all count line h e stops at =
    let before : length (records_lines rs) + count ≡ line - 1 = omega (arith, at) in
    record {
      from_one = omega (arith, at);
      before = subst (λ (n : ℕ). GoesOn n text) before (goes_before text rs all count h e stops);
      here = λ g.
          let there : line ≡ suc (length (records_lines rs) + count) = omega (arith, at) in
          let same : take line (records_lines g.records) ≡ take line (records_lines rs ++ all) = ap (take line) (sym (lines_spelled g.other g.records g.spells)) ∙ g.same ∙ ap (take line) e in
          differ rs g.records all count h g.spells.valid stops (subst (λ (n : ℕ). take n (records_lines g.records) ≡ take n (records_lines rs ++ all)) there same);
    }

-- what is spelled has no bad line
pub not_bad : (text : List ℕ) (rs : List Content) (line : ℕ) → Spells text rs → IsBadLine text line → ⊥
not_bad text rs line h bad = bad.here (record { other = text; records = rs; spells = h; same = refl })

pub read_fault : (text : List ℕ) (rs : List Content) (all : List (List ℕ)) (from : ℕ) (e : RecordFault) → AreRecords rs → lines text ≡ records_lines rs ++ all → from ≡ length (records_lines rs) + 1 → IsRecordFault from all e → IsReadFault text e
read_fault text rs all from (faults.BadRecord line) h split count s = bad_line text rs all s.0 line h split s.1 (omega (arith, s.2, count))
read_fault text rs all from faults.OutOfMemory h split count s = tt

pub read_only : (text : List ℕ) (e : RecordFault) → IsReadFault text e → (rs : List Content) → Spells text rs → IsReadAs rs (Err e)
read_only text (faults.BadRecord line) bad rs h = not_bad text rs line h bad
read_only text faults.OutOfMemory bad rs h = tt

-- the records so far have no more lines than the text has bytes
pub few_lines : (text : List ℕ) (rs : List Content) (rest : List (List ℕ)) → lines text ≡ records_lines rs ++ rest → length (records_lines rs) ≤ length text
few_lines text rs rest e = omega (arith, ap length e, length-append (records_lines rs) rest, lines_few text)

pub more_records : (text : List ℕ) (rs : List Content) (r : Content) (at used : ℕ) → lines text ≡ records_lines rs ++ lines (drop at text) → lines (drop at text) ≡ record_lines r ++ lines (drop used (drop at text))
    → lines text ≡ records_lines (rs ++ r ∷ []) ++ lines (drop (at + used) text)
more_records text rs r at used e f =
    e ∙ ap (λ (t : List (List ℕ)). records_lines rs ++ t) f
    ∙ sym (append_assoc (records_lines rs) (record_lines r) (lines (drop used (drop at text))))
    ∙ ap (λ (t : List (List ℕ)). t ++ lines (drop used (drop at text))) (sym (records_append rs r))
    ∙ ap (λ (t : List ℕ). records_lines (rs ++ r ∷ []) ++ lines t) (drop-drop used at text)

pub more_length : (rs : List Content) (r : Content) → length (records_lines (rs ++ r ∷ [])) ≡ length (records_lines rs) + length (record_lines r)
more_length rs r = ap length (records_append rs r) ∙ length-append (records_lines rs) (record_lines r)

-- at the end of the text the records are all of it
pub whole_text : (text : List ℕ) (rs : List Content) (at : ℕ) → length text ≤ at → AreRecords rs → lines text ≡ records_lines rs ++ lines (drop at text) → Spells text rs
whole_text text rs at le h e = spells_from text rs h (e ∙ ap (λ (t : List ℕ). records_lines rs ++ lines t) (drop_of_length-le text le) ∙ append-nil (records_lines rs))
