use Rattle.std.proofs.Common.{arith, ap, sym, ◌∙◌, length-set, Some}
use Rattle.std.specs.Arc.{arc_value}
use Rattle.fak_handles.specs.declared.desk.Desk.TheVariants.{Files}
use Rattle.fak_handles.specs.Openings.{IsFreshFile}
use Rattle.fak_handles.proofs.Seating.{seated_next, next_file}
use Rattle.fak_handles.proofs.files.opening.seat_table.Goals as goal

pub of-desk-requires-clause-same : goal.of-desk-requires-clause-same
of-desk-requires-clause-same c =
    let next = next_file c.loop-i-test.true c.loop-i.invariant.2 c.in-Some.ensures.cases.0 in
    ap (λ s. s.seat.object) next.first ∙ ap (λ q. q.object) (sym c.in-Ok.ensures)

pub loop-i-preserved : goal.loop-i-preserved
loop-i-preserved c =
    let next = next_file c.loop-i-test.true c.loop-i.invariant.2 c.in-Some.ensures.cases.0 in
    let long = c.loop-i.invariant.0 in
    let low = c.loop-i-test.true in (
      length-set c.loop-i.handles c.loop-i.i c.put.new.self ∙ long,
      seated_next (IsFreshFile (arc_value c.args.table.now) c.args.stint) c.loop-i.i c.loop-i.handles c.put.new.self (omega (arith, long, low)) c.loop-i.invariant.1
          (record {
            desk = Files c.of-desk.result;
            held = c.put.ensures ∙ ap (λ d. Some d) c.in-Ok-new.ensures.ok;
            fresh = (c.of-desk.ensures.object ∙ c.in-Ok.ensures, c.of-desk.ensures.seat ∙ next.first);
          }),
      next.others,
    )
