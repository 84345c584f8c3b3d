-- Objects for a station that nobody picks.
use Rattle.std.specs.Prelude.{[]}
use Rattle.fak_count.specs.Credits.{credit_info}
use Rattle.fak_count.specs.Rooms.{room_info}
use Rattle.fak_files.specs.Calls.{table_info}
use Rattle.fak_queue.specs.Queues.{queue_info}
use Rattle.fak_processor.specs.Joined.{no_table}
use Rattle.fak_processor.specs.Processors.{ObjectsOf}

abbrev pub no_objects : ObjectsOf
no_objects = record {
  ready = queue_info no_table;
  free = queue_info no_table;
  semaphores = [];
  births = room_info no_table 0;
  busy = credit_info no_table 0;
  files = table_info no_table 0;
}
