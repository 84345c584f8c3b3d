use Rattle.fak_callers.proofs.schedules.leaves_what_fits.Goals as goal

pub returns : goal.returns
returns g c = record {
  history = c.every_queue_schedule_is_legal.ensures;
  got = λ size schedule z. (c.a_queue_holds_no_more_than_its_size.ensures size _ (c.every_queue_schedule_is_legal.ensures size schedule z)).0;
  left = λ size schedule z. (c.a_queue_holds_no_more_than_its_size.ensures size _ (c.every_queue_schedule_is_legal.ensures size schedule z)).1;
}
