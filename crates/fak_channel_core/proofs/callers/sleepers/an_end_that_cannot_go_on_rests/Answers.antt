use Rattle.fak_channel_core.proofs.callers.sleepers.an_end_that_cannot_go_on_rests.Goals as goal

pub returns : goal.returns
returns g c = λ n size e schedule z among stuck stays busy. stuck (c.a_channel_never_locks_up.ensures.call n size e schedule z
    (λ idle. stays (c.a_channel_never_locks_up.ensures.end n size e schedule z among idle busy)))
