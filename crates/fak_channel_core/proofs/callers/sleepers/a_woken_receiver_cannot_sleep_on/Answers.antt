use Rattle.std.specs.Prelude.{true}
use Rattle.std.proofs.Common.{sym, ◌∙◌, true≢false}
use Rattle.fak_channel_core.proofs.callers.sleepers.a_woken_receiver_cannot_sleep_on.Goals as goal

pub returns : goal.returns
returns g c = λ n size e s clear. c.a_note_of_a_bit_is_true.ensures.receiver n size e e true s (λ set. true≢false (sym set ∙ clear))
