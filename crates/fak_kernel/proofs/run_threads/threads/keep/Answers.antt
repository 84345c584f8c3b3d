use Rattle.fak_kernel.proofs.Common.{rules}
use Rattle.fak_kernel.proofs.run_threads.threads.keep.Goals as goal

pub returns : goal.returns
returns g c = search rules
