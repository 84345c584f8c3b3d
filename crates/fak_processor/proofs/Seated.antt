-- A call leaves a processor's seats those of the same objects.
use Rattle.fak_model.specs.declared.queue.Mark.{Mark}
use Rattle.fak_queue.specs.Queues.{IsIdleSeat}
use Rattle.fak_processor.proofs.Common.{ℕ, SeatInfo, Process, ObjectsOf, ProcessorOf, AreOf}

module _ {o : ObjectsOf} {p : ProcessorOf} (are : AreOf o p) where
  pub are_with_ready : {seat : SeatInfo (Mark Process)} → IsIdleSeat o.ready.object seat → AreOf o (record p { ready = seat })
  are_with_ready idle = record {
    ready = idle.0;
    ready_idle = idle.1;
    free = are.free;
    free_idle = are.free_idle;
    semaphores = are.semaphores;
    births = are.births;
    busy = are.busy;
    files = are.files;
    files_free = are.files_free;
    copy = are.copy;
  }

  pub are_with_free : {seat : SeatInfo (Mark ℕ)} → IsIdleSeat o.free.object seat → AreOf o (record p { free = seat })
  are_with_free idle = record {
    ready = are.ready;
    ready_idle = are.ready_idle;
    free = idle.0;
    free_idle = idle.1;
    semaphores = are.semaphores;
    births = are.births;
    busy = are.busy;
    files = are.files;
    files_free = are.files_free;
    copy = are.copy;
  }
