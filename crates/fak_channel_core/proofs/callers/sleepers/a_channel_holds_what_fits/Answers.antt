use Rattle.fak_channel_core.proofs.callers.sleepers.a_channel_holds_what_fits.Goals as goal

pub returns : goal.returns
returns g c = record {
  got = λ n size schedule z. (c.a_queue_holds_no_more_than_its_size.ensures size _ (c.the_marks_of_a_channel_are_legal.ensures n size schedule z)).0;
  left = λ n size schedule z. (c.a_queue_holds_no_more_than_its_size.ensures size _ (c.the_marks_of_a_channel_are_legal.ensures n size schedule z)).1;
}
