use Rattle.std.proofs.Common.{ap, sym, ◌∙◌}
use Rattle.fak_model.specs.Room.{amount_held, value}
use Rattle.fak_callers.proofs.schedules.same_marks_same_room.Goals as goal

pub returns : goal.returns
returns c = record {
  count = λ bound seats first second one other same. c.every_room_schedule_counts_its_marks.ensures bound seats first one ∙ (ap value same ∙ sym (c.every_room_schedule_counts_its_marks.ensures bound seats second other));
  held = λ bound seats i first second a b one other same at by. c.every_room_schedule_keeps_what_is_held.ensures bound seats first i a one at ∙ (ap (amount_held i) same ∙ sym (c.every_room_schedule_keeps_what_is_held.ensures bound seats second i b other by));
  value = λ bound seats schedule range. c.every_room_schedule_counts_its_marks.ensures bound seats schedule range;
  amount = λ bound seats i schedule seat range at. sym (c.every_room_schedule_keeps_what_is_held.ensures bound seats schedule i seat range at);
}
