use Rattle.fak_queue.proofs.StepTokens.{still_fits}
use Rattle.fak_queue.proofs.Common.{◌≡◌, ◌∙◌, arith, nat_tests, begins_self, reverse}
use Rattle.fak_queue.proofs.BundleEndingOut.{emptied_none}
use Rattle.fak_queue.proofs.BundleWaiting.{found_empty}
use Rattle.fak_queue.proofs.bursts.emptying.take_ready.Goals as goal

pub end_taken-requires-clause-token : goal.end_taken-requires-clause-token
end_taken-requires-clause-token g c = record { table = still_fits c.requires.token.table c.take_while_ready-taken.ensures.told.same; phase = (c.args.out.now.items, c.take_while_ready-taken.new.out.items, c.args.token.now.me, c.take_while_ready-taken.ensures.told.told) }

pub returns-then-taken-at-clause-told : goal.returns-then-taken-at-clause-told
returns-then-taken-at-clause-told g c = record { same = c.end_taken.ensures.told.same ∙ c.take_while_ready-taken.ensures.told.same; told = c.end_taken.ensures.told.told c.args.out.now.items c.take_while_ready-taken.new.out.items c.args.token.now.me c.take_while_ready-taken.ensures.told.told }

pub returns-else-taken-at-clause-told : goal.returns-else-taken-at-clause-told
returns-else-taken-at-clause-told g c = record {
  same = c.take_while_ready-taken.ensures.told.same;
  told = let r = c.take_while_ready-taken.ensures.range in
      let none = c.if-taken-at.false in
      emptied_none c.args.at.now.names.now c.args.at.now.ticket c.args.at.now.done c.take_while_ready-taken.result c.args.at.now.granted c.args.out.now.items c.take_while_ready-taken.new.out.items c.args.token.now.me c.take_while_ready-taken.new.token.me c.take_while_ready-taken.ensures.told.told (grind (arith, nat_tests, none, r)) c.args.at.now.some_left;
}

pub returns-then-taken-at-clause-early : goal.returns-then-taken-at-clause-early
returns-then-taken-at-clause-early g c = λ less. found_empty (reverse c.args.token.now.me.0.seen) (reverse c.take_while_ready-taken.new.token.me.0.seen) (reverse c.end_taken.new.token.me.0.seen) c.take_while_ready-taken.ensures.told.told.marks.begins c.end_taken.ensures.begins (c.take_while_ready-taken.ensures.early less)

pub returns-else-taken-at-clause-early : goal.returns-else-taken-at-clause-early
returns-else-taken-at-clause-early g c = λ less. found_empty (reverse c.args.token.now.me.0.seen) (reverse c.take_while_ready-taken.new.token.me.0.seen) (reverse c.take_while_ready-taken.new.token.me.0.seen) c.take_while_ready-taken.ensures.told.told.marks.begins (begins_self (reverse c.take_while_ready-taken.new.token.me.0.seen)) (c.take_while_ready-taken.ensures.early less)

pub returns-then-taken-at-clause-last : goal.returns-then-taken-at-clause-last
returns-then-taken-at-clause-last g c = c.end_taken.ensures.last

-- nothing ended
pub returns-else-taken-at-clause-last : goal.returns-else-taken-at-clause-last
returns-else-taken-at-clause-last g c = λ i n e above last.
    let r = c.take_while_ready-taken.ensures.range in
    let none = c.if-taken-at.false in
    let same : c.take_while_ready-taken.result ≡ c.args.at.now.done = grind (arith, nat_tests, none, r) in
    absurd (omega (arith, above, last, same))
