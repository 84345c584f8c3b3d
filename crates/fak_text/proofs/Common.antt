-- The names that proofs cite most, passed on from one place. Declares nothing.
unfoldable pub use Rattle.fak_text.specs.HistoryText.{mark_from}
unfoldable pub use Rattle.fak_text.specs.ScheduleText.{event_from}
unfoldable pub use Rattle.fak_text.specs.StepText.{step_from}
unfoldable pub use Rattle.fak_text.specs.Values.{input_in, running_from}
pub use Rattle.fak_model.proofs.Common.{map-append, take_more, flat_map-append, length-map, All-weaker, err_from_is_err_and, map_push}
pub use Rattle.fak_text.specs.Gives.{◌>>=◌, Fails, Gives}
pub use Rattle.fak_text.specs.HistoryText.{history_in, IsHistoryInRange, history_of}
pub use Rattle.fak_text.specs.Journal.{Process, FitsScript, NoteOf, spawned, births_of, child_count, Allows, FitsFrom, StandsAt, downed, upped, no_birth, no_slot, shut_down, after_note, said, yielded, opened, closed, statted, new_process}
pub use Rattle.fak_text.specs.JournalText.{text_of_journal, text_of_name, child_prefix, text_of_note, journal_line}
pub use Rattle.fak_text.specs.Script.{ScriptOf, StepOf, steps_of, spawn, down, up, shutdown, say, IsInRange, yield, open_file, close_file, stat, IsProgramInRange, steps_or_none, limits_of, IsStepInRange, IsWithin, IsSayable, most_inode}
pub use Rattle.fak_text.specs.ScriptText.{number_from}
pub use Rattle.fak_text.specs.StepText.{programs_from}
pub use Rattle.fak_text.specs.Values.{each_from, next_index, json_in}
pub use Rattle.fak_text.specs.Views.{note_of, step_of, steps_view, programs_of}
pub use Rattle.fak_text.specs.declared.fault.TextFault.{TextFault}
pub use Rattle.fak_text.specs.declared.fault.TextFault.TheVariants.{NotJson, Range}
pub use Rattle.serde_json.specs.Data.{Data, Items, no_items, item}
pub use Rattle.serde_json.specs.Events.{items_len}
pub use Rattle.serde_json.specs.Find.{as_array, as_str}
pub use Rattle.serde_json.specs.View.{view, items_view}
pub use Rattle.std.proofs.Common.{◌≡◌, ℕ, suc, ◌+◌, ◌<◌, ◌≤◌, List, [], ◌∷◌, ◌++◌, length, drop, get_or, Result, Ok, Err, refl, sym, ap, ◌∙◌, append_assoc, add-one, drop-cons, ◌&&◌, nat_le, unwrap_or, subst, arith, leb-true, map, codes, take, decimal, append-nil, flat_map, slice_get, Option, Some, None, Bool, true, false, nat_lt, if◌then◌else◌, IfOk, All, ltb-true, ◌==◌, bytes_eq, eqb-true, rules, vec_len, ◌*◌, string_bytes}
pub use Rattle.std.proofs.lemmas.List.Elements.{All-nil, All-cons}
pub use Rattle.std.proofs.lemmas.Result.{on_ok_weaker}
