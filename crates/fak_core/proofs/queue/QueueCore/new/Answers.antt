use Rattle.fak_core.proofs.Common.{Phase, Idle, ◌≡◌, ◌≤◌, ℕ, List, [], arith, reverse, rules, replicate, Mark, QueueFields, IsSoundWith, opening_fields, common_steps}
use Rattle.fak_core.proofs.QueueSound.{sound_opening}
use Rattle.fak_core.proofs.queue.QueueCore.new.Goals as goal

-- words in which no call has begun, with idle seats and no mark, are a sound core
opened : (w : QueueFields) (size seats : ℕ) (phases : List (Phase ℕ)) (marks : List (Mark ℕ)) (items : List ℕ) → w ≡ opening_fields size 0 → phases ≡ replicate seats Idle → marks ≡ [] → items ≡ []
    → 1 ≤ size → size ≤ 4096 → seats ≤ 64 → IsSoundWith (record w { phases = phases; past = reverse marks }) items
opened w size seats phases marks items e p m n least most few = grind (arith, common_steps, reverse, opening_fields, sound_opening)

pub invariant_of-result : goal.invariant_of-result
invariant_of-result c = opened _ c.args.size c.args.seats c.in-Ok.phases.items c.new-3.result.items c.new-2.result.items c.in_ok-words.ensures.ok search rules c.new-3.ensures.items c.new-2.ensures.items (omega arith) (omega arith) (omega arith)

pub returns-clause-opens : goal.returns-clause-opens
returns-clause-opens c = grind (arith, common_steps)
