use Rattle.fak_queue.proofs.BundleStates.{bundle_idle, bundle_state}
use Rattle.fak_queue.proofs.bundle.Bundle.state.Goals as goal

pub returns-clause-idle : goal.returns-clause-idle
returns-clause-idle g c = bundle_idle c.self.invariant c.self.view_is

pub returns-clause-read_off_seen : goal.returns-clause-read_off_seen
returns-clause-read_off_seen g c = bundle_state c.self.invariant c.self.view_is
