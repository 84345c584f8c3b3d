-- The words of a queue core as its fields.
use Rattle.std.specs.Prelude.{[]}
use Rattle.fak_core.specs.declared.queue.words.QueueWords.{QueueWords}
use Rattle.fak_core.specs.QueueFields.{QueueFields}

-- the fields with these words, without seats and marks
abbrev pub fields_of : QueueWords → QueueFields
fields_of w = record {
  size = w.size;
  upper = w.upper;
  lower = w.lower;
  draws_in = w.draws_in;
  draws_out = w.draws_out;
  shut = w.shut;
  turns = w.turns.items;
  cells = w.cells.items;
  phases = [];
  past = [];
}
