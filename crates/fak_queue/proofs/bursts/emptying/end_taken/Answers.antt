use Rattle.std.specs.Prelude.{slice_range}
use Rattle.fak_queue.proofs.BundleLists.{tickets_length}
use Rattle.fak_queue.proofs.Common.{sym, arith, nat_tests, ◌+◌, ◌≤◌, ◌^◌}
use Rattle.fak_queue.proofs.BundleEndingOut.{end_begins, end_count, end_few, end_names, end_says, end_stands, end_rest, end_last, emptied_on}
use Rattle.fak_queue.proofs.bursts.emptying.end_taken.Goals as goal

pub overflow_add-at : goal.overflow_add-at
overflow_add-at g c = let few = c.args.at.now.few_tickets in let some = c.args.at.now.some_left in let le : c.args.at.now.ticket + c.args.at.now.done ≤ 2 ^ 50 = omega (arith, few, some) in omega (arith, le)

pub end_out_burst-requires-clause-count : goal.end_out_burst-requires-clause-count
end_out_burst-requires-clause-count g c = let s = c.requires.token.phase in let many = end_count c.args.at.now.names.now c.args.at.now.ticket c.args.at.now.done c.args.taken c.args.at.now.granted s.0 s.1 s.2 c.args.token.now.me c.requires.names.0 s.3 c.requires.some in let few = end_few c.args.at.now.names.now c.args.at.now.ticket c.args.at.now.done c.args.taken c.args.at.now.granted s.0 s.1 s.2 c.args.token.now.me c.requires.names.0 s.3 c.requires.some c.requires.names.1 in let long = tickets_length (slice_range c.args.at.now.names.now c.args.at.now.done c.args.taken) (c.args.at.now.ticket + c.args.at.now.done) in (sym long, omega (arith, many, few, long))

pub end_out_burst-requires-clause-names : goal.end_out_burst-requires-clause-names
end_out_burst-requires-clause-names g c = let s = c.requires.token.phase in end_names c.args.at.now.names.now c.args.at.now.ticket c.args.at.now.done c.args.taken c.args.at.now.granted s.0 s.1 s.2 c.args.token.now.me c.requires.names.0 s.3 c.requires.some

pub end_out_burst-requires-clause-token : goal.end_out_burst-requires-clause-token
end_out_burst-requires-clause-token g c = record { table = c.requires.token.table; phase = (let s = c.requires.token.phase in end_says c.args.at.now.names.now c.args.at.now.ticket c.args.at.now.done c.args.taken c.args.at.now.granted s.0 s.1 s.2 c.args.token.now.me c.requires.names.0 s.3 c.requires.some) }

pub end_out_burst-requires-clause-ends : goal.end_out_burst-requires-clause-ends
end_out_burst-requires-clause-ends g c = let s = c.requires.token.phase in end_stands c.args.at.now.names.now c.args.at.now.ticket c.args.at.now.done c.args.taken c.args.at.now.granted s.0 s.1 s.2 c.args.token.now.me c.requires.names.0 s.3 c.requires.some

pub end_out_burst-requires-clause-rest : goal.end_out_burst-requires-clause-rest
end_out_burst-requires-clause-rest g c = let s = c.requires.token.phase in end_rest c.args.at.now.names.now c.args.at.now.ticket c.args.at.now.done c.args.taken c.args.at.now.granted s.0 s.1 s.2 c.args.token.now.me c.requires.names.0 s.3 c.requires.some _ (λ e. grind (arith, nat_tests))

pub returns-clause-told : goal.returns-clause-told
returns-clause-told g c = record { same = c.end_out_burst.ensures.same; told = λ was got m so. emptied_on c.args.at.now.names.now c.args.at.now.ticket c.args.at.now.done c.args.taken c.args.at.now.granted was got m c.args.token.now.me c.requires.names.0 so c.requires.some _ c.end_out_burst.new.token.me c.end_out_burst.ensures.told (λ e. grind (arith, nat_tests)) (λ le. grind (arith, nat_tests)) }

pub returns-clause-begins : goal.returns-clause-begins
returns-clause-begins g c = let s = c.requires.token.phase in end_begins c.args.at.now.names.now c.args.at.now.ticket c.args.at.now.done c.args.taken c.args.at.now.granted s.0 s.1 s.2 c.args.token.now.me c.requires.names.0 s.3 c.requires.some _ c.end_out_burst.new.token.me c.end_out_burst.ensures.told (λ e. grind (arith, nat_tests)) (λ le. grind (arith, nat_tests))

pub returns-clause-last : goal.returns-clause-last
returns-clause-last g c = let s = c.requires.token.phase in end_last c.args.at.now.names.now c.args.at.now.ticket c.args.at.now.done c.args.taken c.args.at.now.granted s.0 s.1 s.2 c.args.token.now.me c.requires.names.0 s.3 c.requires.some _ c.end_out_burst.new.token.me c.end_out_burst.ensures.told (λ e. grind (arith, nat_tests)) (λ le. grind (arith, nat_tests))
