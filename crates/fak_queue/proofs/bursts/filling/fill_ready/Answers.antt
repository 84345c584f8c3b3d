use Rattle.fak_queue.proofs.StepTokens.{still_fits}
use Rattle.fak_queue.proofs.Common.{◌≡◌, ◌∙◌, arith, nat_tests, begins_self, reverse}
use Rattle.fak_queue.proofs.BundleEnding.{filled_none}
use Rattle.fak_queue.proofs.BundleWaiting.{found_full}
use Rattle.fak_queue.proofs.bursts.filling.fill_ready.Goals as goal

pub end_filled-requires-clause-token : goal.end_filled-requires-clause-token
end_filled-requires-clause-token g c = record { table = still_fits c.requires.token.table c.fill_while_ready-filled.ensures.told.same; phase = (c.args.kept.now.items, c.fill_while_ready-filled.new.kept.items, c.args.token.now.me, c.fill_while_ready-filled.ensures.told.told) }

pub returns-then-filled-at-clause-told : goal.returns-then-filled-at-clause-told
returns-then-filled-at-clause-told g c = record { same = c.end_filled.ensures.told.same ∙ c.fill_while_ready-filled.ensures.told.same; told = c.end_filled.ensures.told.told c.args.kept.now.items c.fill_while_ready-filled.new.kept.items c.args.token.now.me c.fill_while_ready-filled.ensures.told.told }

pub returns-else-filled-at-clause-told : goal.returns-else-filled-at-clause-told
returns-else-filled-at-clause-told g c = record {
  same = c.fill_while_ready-filled.ensures.told.same;
  told = let r = c.fill_while_ready-filled.ensures.range in
      let none = c.if-filled-at.false in
      filled_none c.args.at.now.names.now c.args.at.now.ticket c.args.at.now.done c.fill_while_ready-filled.result c.args.at.now.granted c.args.kept.now.items c.fill_while_ready-filled.new.kept.items c.args.token.now.me c.fill_while_ready-filled.new.token.me c.fill_while_ready-filled.ensures.told.told (grind (arith, nat_tests, none, r)) c.args.at.now.some_left;
}

pub returns-then-filled-at-clause-early : goal.returns-then-filled-at-clause-early
returns-then-filled-at-clause-early g c = λ less. found_full (reverse c.args.token.now.me.0.seen) (reverse c.fill_while_ready-filled.new.token.me.0.seen) (reverse c.end_filled.new.token.me.0.seen) c.fill_while_ready-filled.ensures.told.told.marks.begins c.end_filled.ensures.begins (c.fill_while_ready-filled.ensures.early less)

pub returns-else-filled-at-clause-early : goal.returns-else-filled-at-clause-early
returns-else-filled-at-clause-early g c = λ less. found_full (reverse c.args.token.now.me.0.seen) (reverse c.fill_while_ready-filled.new.token.me.0.seen) (reverse c.fill_while_ready-filled.new.token.me.0.seen) c.fill_while_ready-filled.ensures.told.told.marks.begins (begins_self (reverse c.fill_while_ready-filled.new.token.me.0.seen)) (c.fill_while_ready-filled.ensures.early less)

pub returns-then-filled-at-clause-last : goal.returns-then-filled-at-clause-last
returns-then-filled-at-clause-last g c = c.end_filled.ensures.last

-- nothing ended
pub returns-else-filled-at-clause-last : goal.returns-else-filled-at-clause-last
returns-else-filled-at-clause-last g c = λ i n e above last.
    let r = c.fill_while_ready-filled.ensures.range in
    let none = c.if-filled-at.false in
    let same : c.fill_while_ready-filled.result ≡ c.args.at.now.done = grind (arith, nat_tests, none, r) in
    absurd (omega (arith, above, last, same))
