use Rattle.fak_callers.proofs.schedules.holds_what_fits.Goals as goal

pub returns : goal.returns
returns c = record {
  history = c.every_room_schedule_is_lawful.ensures;
  fits = λ bound seats schedule range named. c.amounts_held_in_a_room_fit.ensures bound seats _ (c.every_room_schedule_is_lawful.ensures bound seats schedule range) named;
}
