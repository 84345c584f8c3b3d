use Rattle.fak_kernel.proofs.Common.{length, ap, sym, arith, told_report, length-told_rows}
use Rattle.fak_text.specs.Script.{ScriptOf}
use Rattle.fak_kernel.proofs.Reporting.{whole_each, whole_names, started_have_rows, run_reports_with}
use Rattle.fak_kernel.proofs.ReportingAlone.{alone_reports}
use Rattle.fak_kernel.proofs.ending.report_of_run.Goals as goal

pub close-requires-clause-semaphores : goal.close-requires-clause-semaphores
close-requires-clause-semaphores g c = let all = c.in_ok-all.ensures.gathered in whole_each all.are c.requires.seated all.names

pub close-requires-clause-ready : goal.close-requires-clause-ready
close-requires-clause-ready g c = let all = c.in_ok-all.ensures.gathered in whole_names all.are.ready c.requires.seated.ready all.names.ready

pub close-requires-clause-free : goal.close-requires-clause-free
close-requires-clause-free g c = let all = c.in_ok-all.ensures.gathered in whole_names all.are.free c.requires.seated.free all.names.free

pub close-requires-clause-files : goal.close-requires-clause-files
close-requires-clause-files g c = let all = c.in_ok-all.ensures.gathered in whole_names all.are.files c.requires.seated.files all.names.files

pub report_with-requires : goal.report_with-requires
report_with-requires g c =
    let rows = started_have_rows (rw c.objects.view_is at c.objects.invariant.1) c.requires.seated c.in_ok-all.ensures.gathered c.in_ok-remains.ensures.closed c.in_ok-rows.ensures.rows in
    omega (arith, rows, length-told_rows g.K.Run.script c.in_ok-rows.rows.items, ap (λ (s : ScriptOf). length s.start) c.args.plan.now.script_is)

pub returns-clause-general : goal.returns-clause-general
returns-clause-general g c =
    run_reports_with (rw c.objects.view_is at c.objects.invariant.1) c.requires.seated c.in_ok-all.ensures.gathered c.in_ok-remains.ensures.closed c.in_ok-rows.ensures.rows
    c.args.plan.now.script_is (sym (length-told_rows g.K.Run.script c.in_ok-rows.rows.items)) c.requires.some c.in_ok-rows.ensures.sorted c.in_ok-remains.ensures.entries (ap (told_report g.K.Run.script) c.report_with.ensures)

pub returns-clause-alone : goal.returns-clause-alone
returns-clause-alone g c one reached d =
    alone_reports (rw c.objects.view_is at c.objects.invariant.1) c.requires.seated c.in_ok-all.ensures.gathered c.in_ok-remains.ensures.closed (c.in_ok-all.ensures.alone one d) c.in_ok-rows.ensures.rows
    c.args.plan.now.script_is (sym (length-told_rows g.K.Run.script c.in_ok-rows.rows.items)) (reached d).0 (reached d).1 c.in_ok-rows.ensures.sorted c.in_ok-remains.ensures.entries (ap (told_report g.K.Run.script) c.report_with.ensures)
