-- One more attribute or record of a text, and the fault that stops it.
use Rattle.std.proofs.Common.{get_or, add-one, drop-cons, ◌≡◌, ℕ, ◌+◌, ◌<◌, true, List, [], ◌∷◌, ◌++◌, length, map, take, drop, refl, sym, ◌∙◌, ap, arith, append_assoc, length-append, inr}
use Rattle.std.specs.List.{list_all}
use Rattle.std.proofs.lemmas.Bool.{and_parts, and_from}
use Rattle.std.proofs.lemmas.List.{drop-drop, take-append-drop}
use Rattle.std.proofs.lemmas.List.Folds.{list_all-append}
use Rattle.vx_names.specs.Attribute.{is_attr}
use Rattle.vx_names.specs.declared.attr.Attr.{Attr}
use Rattle.vx_record.specs.Grammar.{attr_line, head_line, lines}
use Rattle.vx_record.specs.Reading.{AddsAttr, IsLineFault, IsAttrsFault, IsRecordFault}
use Rattle.vx_record.specs.Table.{attrs_fit, attr_fits, columns}
use Rattle.vx_record.specs.declared.column.Column.{Column}
use Rattle.vx_record.specs.declared.kind.Kind.{Kind}
use Rattle.vx_record.specs.declared.fault.RecordFault.{RecordFault}
use Rattle.vx_record.specs.declared.fault.RecordFault.TheVariants as faults
use Rattle.vx_names.specs.Form.{is_name}

map-append : (xs bs : List Attr) → map attr_line (xs ++ bs) ≡ map attr_line xs ++ map attr_line bs
map-append [] bs = refl
map-append (a ∷ xs) bs = ap (λ (t : List (List ℕ)). attr_line a ∷ t) (map-append xs bs)

fit-push : (cs : List Column) (xs : List Attr) (c : Column) (a : Attr) → attrs_fit cs xs ≡ true → attr_fits c a ≡ true → attrs_fit (cs ++ c ∷ []) (xs ++ a ∷ []) ≡ true
fit-push [] [] c a h k = and_from _ _ k refl
fit-push [] (b ∷ xs) c a h k = absurd (let e = h in cc)
fit-push (d ∷ cs) [] c a h k = absurd (let e = h in cc)
fit-push (d ∷ cs) (b ∷ xs) c a h k =
    let parts = and_parts (attr_fits d b) (attrs_fit cs xs) h in
    and_from _ _ parts.0 (fit-push cs xs c a parts.1 k)

pub more_lines : (text : List ℕ) (used n : ℕ) (column : Column) (old new : List Attr) → lines text ≡ map attr_line old ++ lines (drop used text) → AddsAttr old new column (drop used text) n
    → lines text ≡ map attr_line new ++ lines (drop (used + n) text)
more_lines text used n column old new e h =
    e ∙ ap (λ (t : List (List ℕ)). map attr_line old ++ t) h.lines
    ∙ sym (append_assoc (map attr_line old) (attr_line h.attr ∷ []) (lines (drop n (drop used text))))
    ∙ ap (λ (t : List (List ℕ)). t ++ lines (drop n (drop used text))) (sym (map-append old (h.attr ∷ [])) ∙ ap (map attr_line) (sym h.added))
    ∙ ap (λ (t : List ℕ). map attr_line new ++ lines t) (drop-drop n used text)

pub more_names : (column : Column) (text : List ℕ) (n : ℕ) (old new : List Attr) → list_all is_attr old ≡ true → AddsAttr old new column text n → list_all is_attr new ≡ true
more_names column text n old new e h = ap (list_all is_attr) h.added ∙ list_all-append is_attr old (h.attr ∷ []) ∙ and_from _ _ e (and_from _ _ h.names refl)

pub more_fit : (column : Column) (text : List ℕ) (n : ℕ) (old new : List Attr) (before all : List Column) → attrs_fit before old ≡ true → AddsAttr old new column text n → all ≡ before ++ column ∷ [] → attrs_fit all new ≡ true
more_fit column text n old new before all e h a =
    ap (λ (cs : List Column). attrs_fit cs new) a ∙ ap (attrs_fit (before ++ column ∷ [])) h.added ∙ fit-push before old column h.attr e h.fits

pub more_count : (column : Column) (text : List ℕ) (n : ℕ) (old new : List Attr) → AddsAttr old new column text n → length new ≡ length old + 1
more_count column text n old new h = ap length h.added ∙ length-append old (h.attr ∷ [])

pub attrs_fault : (line index : ℕ) (column : Column) (before behind table : List Column) (attrs : List Attr) (all rest : List (List ℕ)) (e : RecordFault)
    → all ≡ map attr_line attrs ++ rest → list_all is_attr attrs ≡ true → attrs_fit before attrs ≡ true → length attrs ≡ index → table ≡ before ++ column ∷ behind
    → IsLineFault (line + index) column rest e → IsAttrsFault line table all e
attrs_fault line index column before behind table attrs all rest (faults.BadRecord n) split names fit count cut h =
    (index, record { attrs = attrs; rest = rest; before = before; column = column; behind = behind; lines = split; names = names; fit = fit; columns = cut; at = sym count; stops = h.0 }, h.1)
attrs_fault line index column before behind table attrs all rest faults.OutOfMemory split names fit count cut h = tt

pub record_fault : (line : ℕ) (kind : Kind) (name : List ℕ) (all rest : List (List ℕ)) (e : RecordFault) → is_name name ≡ true → all ≡ head_line kind name ∷ rest
    → IsAttrsFault (line + 1) (columns kind) rest e → IsRecordFault line all e
record_fault line kind name all rest (faults.BadRecord n) named split h =
    (h.0 + 1, inr (record { kind = kind; name = name; named = named; rest = rest; lines = split; behind = h.0; stops = h.1; at = refl }), omega (arith, h.2))
record_fault line kind name all rest faults.OutOfMemory named split h = tt

pub cut_at : (table : List Column) (index : ℕ) (c : Column) → index < length table → table ≡ take index table ++ get_or table index c ∷ drop (index + 1) table
cut_at table index c lt = sym (take-append-drop index table) ∙ ap (λ (t : List Column). take index table ++ t) (rw add-one (drop-cons table index c lt))
