use Rattle.fak_processor.proofs.Common.{rules, arith, ◌≡◌, ◌∷◌, ◌++◌, [], ap, length, length-map, into_iter_items}
use Rattle.fak_processor.proofs.Dealing.{zips_more}
use Rattle.fak_processor.proofs.undealt.zip_seats.Goals as goal

pub loop-ready-preserved : goal.loop-ready-preserved
loop-ready-preserved g c =
    let next = c.next-in-loop-ready in
    let pushed : c.push.new.self.items ≡ c.loop-ready.all.items ++ next.result ∷ [] = search rules in
    let ready : into_iter_items c.loop-ready.ready-iterator ≡ c.in-Some.ready ∷ into_iter_items c.next.new.self = search rules in
    record {
      zips = search (rules, zips_more c.args.entries c.loop-ready.all.items next.result, pushed, ready);
      free = search rules;
      births = search rules;
      busy = search rules;
      rows = omega (arith, ap length next.ensures.rows, length-map c.loop-ready.left.rows.rest.items (λ row. row.items), length-map next.new.self.rows.rest.items (λ row. row.items), c.loop-ready.invariant.rows, ap length ready);
      files = search rules;
    }
