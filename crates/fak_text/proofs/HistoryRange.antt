-- The histories that are read are in range.
use Rattle.std.proofs.lemmas.Grind.{common_steps}
use Rattle.fak_text.proofs.Common.{◌≡◌, ℕ, ◌≤◌, nat_le, unwrap_or, List, Ok, subst, arith, Data, as_array}
use Rattle.fak_model.specs.declared.queue.Mark.{Mark}
use Rattle.fak_text.specs.HistoryText.{HistoryOf, kind_named, is_complete, mark_from, most_marks, history_from, history_in, IsHistoryInRange}
use Rattle.fak_text.specs.Values.{value_or, input_in, number_at, text_at, number_of_key, elements_of_key, each_from, next_index}
use Rattle.fak_text.specs.declared.fault.Field.TheVariants as fields
use Rattle.fak_text.proofs.ReadRange.{parts_of, passed, number_of_key_is_within, elements_of_key_are_few, All-running_from, length-running_from}

seat_is_in_range : (i : ℕ) (d : Data) (mark : Mark ℕ) → mark_from i d ≡ Ok mark → mark.seat ≤ 63
unfolding mark_from
seat_is_in_range i d mark e = grind (arith, common_steps, parts_of, value_or, as_array, number_at, text_at, kind_named, unwrap_or, passed, nat_le, is_complete)

pub history_is_in_range : (bytes : List ℕ) (history : HistoryOf) → history_in bytes ≡ Ok history → IsHistoryInRange history
unfolding history_from
history_is_in_range bytes history e =
    let input = parts_of (input_in bytes) history_from history e in
    let d = input.0 in
    let size = parts_of (number_of_key fields.Size 1 4096 d) _ history input.2 in
    let found = parts_of (elements_of_key fields.Marks most_marks d) _ history size.2 in
    let marks = parts_of (each_from mark_from 0 found.0) (λ ms. Ok (record { size = size.0; marks = ms })) history found.2 in
    let same : record { size = size.0; marks = marks.0 } ≡ history = cc marks.2 in
    let few = elements_of_key_are_few fields.Marks most_marks d found.0 found.1 in
    let count = length-running_from mark_from next_index 0 found.0 marks.0 marks.1 in
    subst (λ (h : HistoryOf). IsHistoryInRange h) same (record {
      size = number_of_key_is_within fields.Size 1 4096 d size.0 size.1;
      count = omega (arith, few, count);
      seats = All-running_from (λ (m : Mark ℕ). m.seat ≤ 63) mark_from next_index seat_is_in_range 0 found.0 marks.0 marks.1;
    })
