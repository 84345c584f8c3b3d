use Rattle.fak_sem.proofs.Common.{rules}
use Rattle.fak_sem.proofs.semaphore.Semaphore.open_large.Goals as goal

pub returns-in-Err : goal.returns-in-Err
returns-in-Err g c = search rules
