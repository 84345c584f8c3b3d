use Rattle.std.specs.Prelude.{ℕ, ◌≡◌, ◌<◌}
use Rattle.std.proofs.Common.{arith}
use Rattle.fak_channel_core.proofs.callers.sleepers.an_end_with_nothing_to_do_rests.Goals as goal

none : (a b : ℕ) → b ≡ 0 → a < b → ⊥
none a b q l = omega (arith, q, l)

pub returns : goal.returns
returns g c = record {
  rests = λ n size e s rest comes. none _ _ (c.a_channel_never_locks_up.ensures.rests n e s rest) comes.less;
  looks = λ n e s idle q. let rest = c.a_channel_never_locks_up.ensures.done n e s idle q in (rest.for_senders, rest.for_receivers);
  checks = λ n e s idle q. (c.a_channel_never_locks_up.ensures.done n e s idle q).checks;
}
