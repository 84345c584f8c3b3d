use Rattle.std.proofs.Common.{rules, ◌<◌, ℕ, IsTrue, ap, sym, subst}
use Rattle.fak_model.specs.Calls.{ObjectId}
use Rattle.probe_allocations.proofs.allocation_free.tallies.leaves.Goals as goal

pub close-rest-requires-clause-whole : goal.close-rest-requires-clause-whole
close-rest-requires-clause-whole c = λ n low.
    let all : IsTrue c.is_whole.result = search (rules, c.if-not-is_whole.false) in
    c.is_whole.ensures.whole.0 all n (subst (λ (k : ℕ). n < k) (sym (ap (λ (o : ObjectId). o.seats) c.requires)) low)
