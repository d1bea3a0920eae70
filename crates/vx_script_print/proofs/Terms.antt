-- What the laws of printing speak of, brought together.
pub use Rattle.std.proofs.Common.{◌≡◌, ◌∙◌, sym, ap, refl, ℕ, zero, suc, ◌-◌, ◌*◌, ◌/◌, ◌%◌, ◌^◌, ◌<◌, ◌≤◌, inl, inr, Bool, true, false, List, [], ◌∷◌, ◌++◌, length, take, drop, arith, Option, Some, None, subst, map, Ok, Err, ltb-true, eq-eqb, cond, codes, decimal, is_some, not, nat_le, nat_lt, ◌==◌, ◌&&◌, ◌||◌, is_none, eqb-true, ne_eqb, append-nil, append_assoc, length-append, take_all, length-take, length-drop, map-id, take-append-drop, bytes_eq, ◌+◌, min, Result, flat_map, sum, leb-true, le-leb, get_or, drop-drop}
pub use Rattle.std.specs.List.{list_all}
pub use Rattle.std.proofs.lemmas.Bool.{and_parts, not-true, and_from, or_cases, both_ways, cond-true, cond-false, and_left, and_right, or_from, false_from_ne_true, true_from_ne_false, cases_Bool, not_from_false}
pub use Rattle.std.proofs.lemmas.Bool.Decides.{nat_tests}
pub use Rattle.std.proofs.lemmas.List.{drop_all, length-map, map-append}
pub use Rattle.std.proofs.lemmas.List.Folds.{list_all-append, list_all-map}
pub use Rattle.std.proofs.lemmas.Slice.Eq.{bytes_eq-Decides}
pub use Rattle.vx_block.proofs.WordLemmas.{word_again}
pub use Rattle.vx_block.specs.Reading.{AreBytes, spelled_block, is_hex_digit, is_short_word, is_long_word, is_block_word, byte_value}
pub use Rattle.vx_block.specs.Word.{hex, hex_digit, block_word}
pub use Rattle.vx_names.specs.Form.{is_name, is_name_byte, is_letter_or_digit}
pub use Rattle.vx_names.specs.Length.{numeral_front}
pub use Rattle.vx_names.specs.Number.{digits_value}
pub use Rattle.vx_names.proofs.Lengths.{numeral_before}
pub use Rattle.vx_names.proofs.Numbers.{decimal_number, decimal_numeral, decimal_value, decimal_name, decimal_short}
pub use Rattle.vx_script_print.specs.Text.{value_text, class_word, plex_text, cut_blocks, words_of, row_words, cut_words, form_words, line_text, body_text, command_text, script_text}
pub use Rattle.vx_script_words.specs.Class.{sort_value, value_behind, as_name, as_number, as_pair}
unfoldable pub use Rattle.vx_script_words.specs.Class.{class_value}
pub use Rattle.vx_script_words.specs.Fits.{is_between, is_byte, is_pair, is_of, maybe_name, pair_word, are_blocks, of_item, are_of}
pub use Rattle.vx_script_words.specs.Hex.{byte_of}
unfoldable pub use Rattle.vx_script_words.specs.Hex.{block_of}
pub use Rattle.vx_script_words.specs.Key.{text_of}
pub use Rattle.vx_script_words.specs.Number.{number_of, within, units_of, length_of}
pub use Rattle.vx_script_words.specs.Parts.{behind, name_of, name_behind, cut_of, pair_of, just, plex_of, break_off_of, number_behind}
pub use Rattle.vx_script_words.specs.declared.class.Class.{Class}
pub use Rattle.vx_script_words.specs.declared.class.Sort.{Sort}
pub use Rattle.vx_script_words.specs.declared.value.DiskAt.{DiskAt}
pub use Rattle.vx_script_words.specs.declared.value.Value.{Value}
pub use Rattle.vx_script_words.proofs.Packs.{take_front, drop_front, up_to_is, past_is}
pub use Rattle.vx_script_words.proofs.Plain.{is_dark, is_dark_word, is_not, all_by, name_without, name_dark, name_parts, name_word, ands, right_of, left_of}
pub use Rattle.vx_script.specs.Kept.{maybe_cut, is_made, is_record_line, ends_line, is_said, is_line, is_command, is_kept, is_body}
pub use Rattle.vx_script_forms.specs.Table.{items_of, commands, calls, acts}
pub use Rattle.vx_script_forms.specs.declared.kind.Kind.{Kind}
pub use Rattle.vx_script_words.specs.Row.{So, one, taken, with_value, or_else, further, pushed, joined, said, at_least_one, any_name, item, items, Read, and_then, line_end, cut_end, uncut, nothing_left}
unfoldable pub use Rattle.vx_script_words.specs.Row.{gather, row}
pub use Rattle.vx_script_words.specs.Spelling.{Spells, spelled, begun}
pub use Rattle.vx_script_words.specs.Words.{from_word, first_word, past_word, is_not_blank}
pub use Rattle.vx_script_words.specs.declared.class.Item.{Item}
pub use Rattle.vx_script_words.specs.declared.key.Key.{Key}
pub use Rattle.vx_script_words.proofs.Spelling.{few_words, is_word, begun_words}
pub use Rattle.vx_script_words.proofs.Walk.{Words, Walked, accepts, is_named, group_words, on, walk}
pub use Rattle.vx_script.proofs.Heads.{is_word as is_fixed, other_word}
pub use Rattle.vx_script_words.proofs.Opens.{refused_again, are_sound}
pub use Rattle.vx_script.specs.Lines.{lines_from, begins_comment, is_passed_over}
unfoldable pub use Rattle.vx_script.specs.Lines.{lines_of, bad_word}
pub use Rattle.vx_script.specs.Script.{commands_from, stepped}
unfoldable pub use Rattle.vx_script.specs.Script.{script_of}
pub use Rattle.vx_script.specs.Steps.{or_bad, opened, opened_by, called, administered, line_of_session, added, line_calls, line_sectors}
unfoldable pub use Rattle.vx_script.specs.Steps.{step, command_step, line_behind, session_line}
pub use Rattle.vx_script.specs.declared.command.Command.{Command}
pub use Rattle.vx_script.specs.declared.reader.Reader.{Reader}
pub use Rattle.vx_script.specs.declared.reader.Open.{Open}
pub use Rattle.std.proofs.lemmas.List.Sums.{sum_by-cons}
pub use Rattle.vx_script.specs.Choice.{choose, choice, or_others}
pub use Rattle.vx_script.proofs.FormTables.{In, in_all, fit_walks, is_sound, sound_commands}
pub use Rattle.vx_script_forms.specs.FormOf.{form_of}
pub use Rattle.vx_script_forms.specs.ValuesOf.{kind_of, values_of, opening, act_kind, call_kind}
pub use Rattle.vx_script_forms.specs.declared.act.Act.{Act}
pub use Rattle.vx_script_forms.specs.declared.call.Call.{Call}
pub use Rattle.vx_script_forms.specs.declared.block.Line.{Line}
pub use Rattle.vx_script_forms.specs.declared.form.Form.{Form}
pub use Rattle.vx_script_forms.proofs.Forms.{form_again, group_again}
pub use Rattle.vx_script.proofs.WholeLines.{whole_line, no_bad}
pub use Rattle.std.proofs.lemmas.Grind.{common_steps, take_at_read}
pub use Rattle.vx_script_words.specs.Blocks.{block_at}
