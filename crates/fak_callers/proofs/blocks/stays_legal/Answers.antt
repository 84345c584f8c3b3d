use Rattle.std.proofs.Common.{rules, refl, sym, subst, [], ◌∷◌}
use Rattle.fak_core.specs.declared.queue.phase.Phase.TheVariants.{AddUp}
use Rattle.fak_core.specs.QueueBlocks.{AreApart, block}
use Rattle.fak_core.specs.QueueMoves.{history_of}
use Rattle.fak_core.specs.QueueSchedule.{IsReached, reached}
use Rattle.fak_model.specs.Queue.{IsQueueHistory}
use Rattle.fak_callers.proofs.blocks.stays_legal.Goals as goal

two_apart : AreApart (3 ∷ 5 ∷ [])
two_apart = search rules

pub returns : goal.returns
returns g c = record {
  legal = λ size schedule seats z apart stand.
      let after : IsReached size (block size (reached size schedule) seats) = (c.a_block_is_part_of_a_schedule.ensures.steps size (reached size schedule) seats apart stand).reached (record { schedule = schedule; leads = refl }) in
      subst (λ st. IsQueueHistory size (history_of st)) after.leads (c.every_queue_schedule_is_legal.ensures size after.schedule z);
  steps = λ size st x y first second. sym (c.a_block_is_part_of_a_schedule.ensures.steps size st ((3, AddUp x) ∷ (5, AddUp y) ∷ []) two_apart (first, (second, tt))).leads;
  insertions = λ size st x y first second. sym (c.a_block_is_part_of_a_schedule.ensures.insertions size st ((3, x) ∷ (5, y) ∷ []) two_apart (first, (second, tt))).leads;
  deletions = λ size st first second. sym (c.a_block_is_part_of_a_schedule.ensures.deletions size st ((3, tt) ∷ (5, tt) ∷ []) two_apart (first, (second, tt))).leads;
}
