use Rattle.std.proofs.Common.{string_bytes, ◌++◌, ◌+◌, ◌-◌, ◌∙◌, ap, sym, replicate}
use Rattle.fak_replay.specs.Replay.{rows_from, steps, text_of_rows}
use Rattle.fak_replay.proofs.Replays.{row_appended, steps_left}
use Rattle.fak_replay.proofs.events.make_steps.Goals as goal

pub loop-made-preserved : goal.loop-made-preserved
loop-made-preserved c = (
  λ rest.
      row_appended (string_bytes c.push.new.self.text) (string_bytes c.loop-made.trace.text) c.loop-made.machine c.advance.new.machine c.in_ok-row.row (steps c.args.seat)
      (replicate (c.args.count - (c.loop-made.made + 1)) (steps c.args.seat) ++ rest) c.in_ok-row.ensures.ok c.in_ok-push.ensures.ok
      ∙ ap (λ actions. string_bytes c.loop-made.trace.text ++ text_of_rows (rows_from c.loop-made.machine actions)) (sym (steps_left c.args.count c.loop-made.made c.args.seat rest c.loop-made-test.true))
      ∙ c.loop-made.invariant.0 rest,
  c.in_ok-push.ensures.kept,
)
