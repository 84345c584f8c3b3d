use Rattle.fak_kernel.proofs.Leaving.{has_left}
use Rattle.fak_kernel.proofs.run_threads.threads.run_thread.Goals as goal

pub returns-in-Ok-true : goal.returns-in-Ok-true
returns-in-Ok-true g c =
    let done = c.in-Ok-true.field-0-test in
    let made = rw c.new-processor.ensures.objects at c.new-processor.result.made in
    let are = rw c.new-processor.ensures.objects at c.work-seats.ensures.seats in
    let general = rw (c.in-Ok-true.is, c.new-processor.ensures.seats) at c.work-seats.ensures.general in
    let alone = rw (c.in-Ok-true.is, c.new-processor.ensures.seats) at c.work-seats.ensures.alone in
    let passed = rw (c.in-Ok-true.is, c.new-processor.ensures.number) at c.work-seats.ensures.passed in
    record {
      left = has_left made c.requires.begun are (general done) (λ begun. alone begun done);
      passed = passed done;
      refused = tt;
    }
