use Rattle.fak_queue.proofs.Common.{QueueHolder, QueueInfo, AreIdle, ℕ, List, ap, sym, ◌∙◌, subst, slots_items, slots_counts, Mark, AreNamed, contents, queue_rules, IsWhole, TallyInfo}
use Rattle.fak_queue.proofs.Closing.{closes}
use Rattle.fak_queue.proofs.Tallies.{whole_rests, named_in}
use Rattle.fak_queue.proofs.queue.Queue.close.Goals as goal

pub overflow_sub-result : goal.overflow_sub-result
overflow_sub-result g c = (closes c.self.inside.table.shared.key c.self.inside.cells.size c.tally.inside.token.id c.tally.inside.token.me.0 (slots_items c.close_with-closed.result.words) (slots_items c.close_with-closed.result.slots) c.word-put.result c.word-got.result c.close_with-closed.ensures.values.2
    (sym (slots_counts c.close_with-closed.result.slots).0 ∙ (c.close_with-closed.ensures.counts.1 ∙ c.self.invariant.slots)) (ap (λ (x : QueueHolder _). x.0.phase) c.tally.invariant.token.me_is)
    (subst (λ (x : ℕ × List ℕ). IsWhole x.0 x.1) (λ i. (ap (λ (q : QueueInfo). q.object.seats) (sym c.self.view_is) i, ap (λ (t : TallyInfo _). t.names) (sym c.tally.view_is) i)) c.requires.whole) c.word-put.ensures c.word-got.ensures).more

pub invariant_of-result : goal.invariant_of-result
invariant_of-result g c = record {
  full = c.close_with-closed.ensures.values.1;
  wide = c.close_with-closed.ensures.counts.1 ∙ c.self.invariant.slots;
  left = (closes c.self.inside.table.shared.key c.self.inside.cells.size c.tally.inside.token.id c.tally.inside.token.me.0 (slots_items c.close_with-closed.result.words) (slots_items c.close_with-closed.result.slots) c.word-put.result c.word-got.result c.close_with-closed.ensures.values.2
      (sym (slots_counts c.close_with-closed.result.slots).0 ∙ (c.close_with-closed.ensures.counts.1 ∙ c.self.invariant.slots)) (ap (λ (x : QueueHolder _). x.0.phase) c.tally.invariant.token.me_is)
      (subst (λ (x : ℕ × List ℕ). IsWhole x.0 x.1) (λ i. (ap (λ (q : QueueInfo). q.object.seats) (sym c.self.view_is) i, ap (λ (t : TallyInfo _). t.names) (sym c.tally.view_is) i)) c.requires.whole) c.word-put.ensures c.word-got.ensures).left;
}

pub returns-clause-rest : goal.returns-clause-rest
returns-clause-rest g c = (closes c.self.inside.table.shared.key c.self.inside.cells.size c.tally.inside.token.id c.tally.inside.token.me.0 (slots_items c.close_with-closed.result.words) (slots_items c.close_with-closed.result.slots) c.word-put.result c.word-got.result c.close_with-closed.ensures.values.2
    (sym (slots_counts c.close_with-closed.result.slots).0 ∙ (c.close_with-closed.ensures.counts.1 ∙ c.self.invariant.slots)) (ap (λ (x : QueueHolder _). x.0.phase) c.tally.invariant.token.me_is)
    (subst (λ (x : ℕ × List ℕ). IsWhole x.0 x.1) (λ i. (ap (λ (q : QueueInfo). q.object.seats) (sym c.self.view_is) i, ap (λ (t : TallyInfo _). t.names) (sym c.tally.view_is) i)) c.requires.whole) c.word-put.ensures c.word-got.ensures).are ∙ ap (λ (t : TallyInfo _). contents t.seen) c.tally.view_is

pub returns-clause-at_rest : goal.returns-clause-at_rest
returns-clause-at_rest g c =
    let named = named_in c.args.self c.args.tally c.requires.object (subst (λ (t : TallyInfo (Mark _)). AreNamed (queue_rules 0) t.object.seats t.seen) c.tally.view_is c.tally.invariant.token.named) in
    whole_rests c.args.self.size _ _ c.requires.whole named (subst (λ (t : TallyInfo (Mark _)). AreIdle t.names t.seen) c.tally.view_is c.tally.invariant.idle)
