-- Known scripts, and the lists in which the list scheduler ends. A change of any of its rules changes some of these
-- lists.
use Rattle.std.specs.Prelude.{ℕ, List, [], ◌∷◌, Option, Some, None, true, false, codes}
use Rattle.fak_model.specs.declared.file.FileEntry.{FileEntry}
use Rattle.fak_model.specs.Limits.{longest_stint}
use Rattle.fak_text.specs.Script.{ScriptOf, say, yield, down, up, open_file, close_file, stat, spawn, shutdown}
use Rattle.fak_text.specs.Journal.{NoteOf, said, yielded, downed, upped, opened, closed, statted, spawned, no_birth, no_slot, shut_down}
use Rattle.fak_run.specs.Files.{FileChange, free_entry}
use Rattle.fak_run.specs.ListScheduler.{Lists}

-- one process wakes the other, which wakes the first
abbrev pub ping_pong : ScriptOf
ping_pong = record {
  version = 1;
  slots = 2;
  births = 0;
  quantum = 1;
  stint = longest_stint;
  semaphores = 0 ∷ 0 ∷ [];
  files = 1;
  programs = (say (codes "ping") ∷ up 1 ∷ down 0 ∷ []) ∷ (down 1 ∷ say (codes "pong") ∷ up 0 ∷ []) ∷ [];
  start = 0 ∷ 1 ∷ [];
}

-- the lists at its end
abbrev pub ping_pong_left : Lists
ping_pong_left = record {
  ready = [];
  free_slots = 1 ∷ 0 ∷ [];
  counts = 0 ∷ 0 ∷ [];
  sleepers = [] ∷ [] ∷ [];
  entries = free_entry ∷ [];
  births = 0;
  is_shut = false;
  ended =
      record { name = 1 ∷ []; program = 1; slot = 1; position = 3; journal = downed 1 ∷ said (codes "pong") ∷ upped 0 ∷ [] } ∷
      record { name = 0 ∷ []; program = 0; slot = 0; position = 3; journal = said (codes "ping") ∷ upped 1 ∷ downed 0 ∷ [] } ∷ [];
  halted = [];
}

-- every kind of step of version 1
abbrev pub family : ScriptOf
family = record {
  version = 1;
  slots = 3;
  births = 2;
  quantum = 1;
  stint = longest_stint;
  semaphores = 0 ∷ 0 ∷ [];
  files = 2;
  programs =
      (say (codes "ping") ∷ up 1 ∷ down 0 ∷ spawn 2 ∷ spawn 2 ∷ yield ∷ spawn 2 ∷ spawn 2 ∷ []) ∷
      (down 1 ∷ say (codes "pong") ∷ open_file 7 ∷ up 0 ∷ stat 7 ∷ close_file 7 ∷ []) ∷
      (say (codes "child") ∷ yield ∷ []) ∷ [];
  start = 0 ∷ 1 ∷ [];
}

-- the lists at its end
abbrev pub family_left : Lists
family_left = record {
  ready = [];
  free_slots = 2 ∷ 0 ∷ 1 ∷ [];
  counts = 0 ∷ 0 ∷ [];
  sleepers = [] ∷ [] ∷ [];
  entries = free_entry ∷ free_entry ∷ [];
  births = 2;
  is_shut = false;
  ended =
      record { name = 1 ∷ []; program = 1; slot = 1; position = 6; journal = downed 1 ∷ said (codes "pong") ∷ opened 7 (Some 0) ∷ upped 0 ∷ statted 7 (Some 1) ∷ closed 7 (Some 0) ∷ [] } ∷
      record { name = 0 ∷ 0 ∷ []; program = 2; slot = 2; position = 2; journal = said (codes "child") ∷ yielded ∷ [] } ∷
      record { name = 0 ∷ []; program = 0; slot = 0; position = 8; journal = said (codes "ping") ∷ upped 1 ∷ downed 0 ∷ spawned 0 ∷ no_slot ∷ yielded ∷ spawned 1 ∷ no_birth ∷ [] } ∷
      record { name = 0 ∷ 1 ∷ []; program = 2; slot = 1; position = 2; journal = said (codes "child") ∷ yielded ∷ [] } ∷ [];
  halted = [];
}

-- three processes share a semaphore that lets one pass: two sleep, and are woken while another is ready; one turn ends
-- by a yield
abbrev pub crowd : ScriptOf
crowd = record {
  version = 1;
  slots = 5;
  births = 0;
  quantum = 4;
  stint = longest_stint;
  semaphores = 1 ∷ [];
  files = 1;
  programs = (down 0 ∷ open_file 7 ∷ stat 7 ∷ []) ∷ (up 0 ∷ up 0 ∷ up 0 ∷ []) ∷ (open_file 7 ∷ stat 7 ∷ yield ∷ stat 7 ∷ []) ∷ [];
  start = 0 ∷ 0 ∷ 0 ∷ 1 ∷ 2 ∷ [];
}

-- the lists at its end
abbrev pub crowd_left : Lists
crowd_left = record {
  ready = [];
  free_slots = 0 ∷ 3 ∷ 1 ∷ 2 ∷ 4 ∷ [];
  counts = 1 ∷ [];
  sleepers = [] ∷ [];
  entries = record { inode = 7; uses = 4 } ∷ [];
  births = 0;
  is_shut = false;
  ended =
      record { name = 0 ∷ []; program = 0; slot = 0; position = 3; journal = downed 0 ∷ opened 7 (Some 0) ∷ statted 7 (Some 1) ∷ [] } ∷
      record { name = 3 ∷ []; program = 1; slot = 3; position = 3; journal = upped 0 ∷ upped 0 ∷ upped 0 ∷ [] } ∷
      record { name = 1 ∷ []; program = 0; slot = 1; position = 3; journal = downed 0 ∷ opened 7 (Some 0) ∷ statted 7 (Some 3) ∷ [] } ∷
      record { name = 2 ∷ []; program = 0; slot = 2; position = 3; journal = downed 0 ∷ opened 7 (Some 0) ∷ statted 7 (Some 4) ∷ [] } ∷
      record { name = 4 ∷ []; program = 2; slot = 4; position = 4; journal = opened 7 (Some 0) ∷ statted 7 (Some 2) ∷ yielded ∷ statted 7 (Some 4) ∷ [] } ∷ [];
  halted = [];
}

-- two children; the second gets the slot that was free longest
abbrev pub heirs : ScriptOf
heirs = record {
  version = 1;
  slots = 3;
  births = 2;
  quantum = 4;
  stint = longest_stint;
  semaphores = [];
  files = 1;
  programs = (spawn 1 ∷ yield ∷ spawn 1 ∷ []) ∷ ([]) ∷ [];
  start = 0 ∷ [];
}

-- the lists at its end
abbrev pub heirs_left : Lists
heirs_left = record {
  ready = [];
  free_slots = 1 ∷ 0 ∷ 2 ∷ [];
  counts = [];
  sleepers = [];
  entries = free_entry ∷ [];
  births = 2;
  is_shut = false;
  ended =
      record { name = 0 ∷ 0 ∷ []; program = 1; slot = 1; position = 0; journal = [] } ∷
      record { name = 0 ∷ []; program = 0; slot = 0; position = 3; journal = spawned 0 ∷ yielded ∷ spawned 1 ∷ [] } ∷
      record { name = 0 ∷ 1 ∷ []; program = 1; slot = 2; position = 0; journal = [] } ∷ [];
  halted = [];
}

-- a process that nobody wakes
abbrev pub alone : ScriptOf
alone = record {
  version = 1;
  slots = 1;
  births = 0;
  quantum = 4;
  stint = longest_stint;
  semaphores = 0 ∷ [];
  files = 1;
  programs = (say (codes "a") ∷ down 0 ∷ []) ∷ [];
  start = 0 ∷ [];
}

-- the lists at its end
abbrev pub alone_left : Lists
alone_left = record {
  ready = [];
  free_slots = [];
  counts = 0 ∷ [];
  sleepers = (record { name = 0 ∷ []; program = 0; slot = 0; position = 1; journal = said (codes "a") ∷ [] } ∷ []) ∷ [];
  entries = free_entry ∷ [];
  births = 0;
  is_shut = false;
  ended = [];
  halted = [];
}

-- two semaphores start with the most units
abbrev pub plenty : ScriptOf
plenty = record {
  version = 1;
  slots = 1;
  births = 0;
  quantum = 2;
  stint = longest_stint;
  semaphores = 1000000 ∷ 1000000 ∷ [];
  files = 1;
  programs = (down 0 ∷ up 1 ∷ []) ∷ [];
  start = 0 ∷ [];
}

-- the lists at its end
abbrev pub plenty_left : Lists
plenty_left = record {
  ready = [];
  free_slots = 0 ∷ [];
  counts = 999999 ∷ 1000001 ∷ [];
  sleepers = [] ∷ [] ∷ [];
  entries = free_entry ∷ [];
  births = 0;
  is_shut = false;
  ended = record { name = 0 ∷ []; program = 0; slot = 0; position = 2; journal = downed 0 ∷ upped 1 ∷ [] } ∷ [];
  halted = [];
}

-- the ready list is shut in the first turn
abbrev pub curfew : ScriptOf
curfew = record {
  version = 2;
  slots = 3;
  births = 0;
  quantum = 2;
  stint = longest_stint;
  semaphores = 0 ∷ [];
  files = 1;
  programs =
      (shutdown ∷ say (codes "last") ∷ say (codes "never") ∷ []) ∷
      (say (codes "a") ∷ say (codes "b") ∷ []) ∷
      (down 0 ∷ []) ∷ [];
  start = 0 ∷ 1 ∷ 2 ∷ [];
}

-- the lists at its end
abbrev pub curfew_left : Lists
curfew_left = record {
  ready = [];
  free_slots = 1 ∷ [];
  counts = 0 ∷ [];
  sleepers = (record { name = 2 ∷ []; program = 2; slot = 2; position = 0; journal = [] } ∷ []) ∷ [];
  entries = free_entry ∷ [];
  births = 0;
  is_shut = true;
  ended =
      record { name = 1 ∷ []; program = 1; slot = 1; position = 2; journal = said (codes "a") ∷ said (codes "b") ∷ [] } ∷ [];
  halted =
      record { name = 0 ∷ []; program = 0; slot = 0; position = 2; journal = shut_down ∷ said (codes "last") ∷ [] } ∷ [];
}

-- a child that is started after the ready list was shut keeps its slot, so a second child gets none
abbrev pub late_child : ScriptOf
late_child = record {
  version = 2;
  slots = 2;
  births = 2;
  quantum = 4;
  stint = longest_stint;
  semaphores = [];
  files = 1;
  programs = (shutdown ∷ spawn 1 ∷ spawn 1 ∷ []) ∷ (say (codes "never") ∷ []) ∷ [];
  start = 0 ∷ [];
}

-- the lists at its end
abbrev pub late_child_left : Lists
late_child_left = record {
  ready = [];
  free_slots = 0 ∷ [];
  counts = [];
  sleepers = [];
  entries = free_entry ∷ [];
  births = 1;
  is_shut = true;
  ended =
      record { name = 0 ∷ []; program = 0; slot = 0; position = 3; journal = shut_down ∷ spawned 0 ∷ no_slot ∷ [] } ∷ [];
  halted =
      record { name = 0 ∷ 0 ∷ []; program = 1; slot = 1; position = 0; journal = [] } ∷ [];
}

-- a file that is opened twice and closed once, and a child
abbrev pub reader : ScriptOf
reader = record {
  version = 1;
  slots = 2;
  births = 1;
  quantum = 4;
  stint = longest_stint;
  semaphores = 0 ∷ [];
  files = 1;
  programs = (open_file 7 ∷ open_file 7 ∷ close_file 7 ∷ stat 7 ∷ spawn 1 ∷ []) ∷ (say (codes "hi") ∷ []) ∷ [];
  start = 0 ∷ [];
}

-- the lists at its end
abbrev pub reader_left : Lists
reader_left = record {
  ready = [];
  free_slots = 0 ∷ 1 ∷ [];
  counts = 0 ∷ [];
  sleepers = [] ∷ [];
  entries = record { inode = 7; uses = 1 } ∷ [];
  births = 1;
  is_shut = false;
  ended =
      record { name = 0 ∷ []; program = 0; slot = 0; position = 5; journal = opened 7 (Some 0) ∷ opened 7 (Some 0) ∷ closed 7 (Some 0) ∷ statted 7 (Some 1) ∷ spawned 0 ∷ [] } ∷
      record { name = 0 ∷ 0 ∷ []; program = 1; slot = 1; position = 1; journal = said (codes "hi") ∷ [] } ∷ [];
  halted = [];
}

-- a stat, a close and a spawn that fail end no turn: the first process opens the only entry before the second one runs
abbrev pub refused : ℕ → ScriptOf
refused births = record {
  version = 1;
  slots = 2;
  births = births;
  quantum = 9;
  stint = longest_stint;
  semaphores = [];
  files = 1;
  programs = (stat 7 ∷ close_file 7 ∷ spawn 1 ∷ open_file 7 ∷ stat 7 ∷ []) ∷ (open_file 8 ∷ stat 7 ∷ []) ∷ [];
  start = 0 ∷ 1 ∷ [];
}

-- the lists at its end, with this line of the spawn
abbrev pub refused_left : NoteOf → Lists
refused_left spawn_line = record {
  ready = [];
  free_slots = 0 ∷ 1 ∷ [];
  counts = [];
  sleepers = [];
  entries = record { inode = 7; uses = 1 } ∷ [];
  births = 0;
  is_shut = false;
  ended =
      record { name = 0 ∷ []; program = 0; slot = 0; position = 5; journal = statted 7 None ∷ closed 7 None ∷ spawn_line ∷ opened 7 (Some 0) ∷ statted 7 (Some 1) ∷ [] } ∷
      record { name = 1 ∷ []; program = 1; slot = 1; position = 2; journal = opened 8 None ∷ statted 7 (Some 1) ∷ [] } ∷ [];
  halted = [];
}

-- steps of every kind except a yield, all in one turn, while three other processes wait
abbrev pub unhurried : ScriptOf
unhurried = record {
  version = 2;
  slots = 4;
  births = 2;
  quantum = 20;
  stint = longest_stint;
  semaphores = 0 ∷ 0 ∷ [];
  files = 2;
  programs =
      (say (codes "a") ∷ up 0 ∷ down 0 ∷ up 1 ∷ open_file 5 ∷ stat 5 ∷ close_file 5 ∷ stat 5 ∷ spawn 2 ∷ spawn 2 ∷ shutdown ∷ stat 7 ∷ []) ∷
      (down 1 ∷ []) ∷
      (open_file 7 ∷ []) ∷ [];
  start = 1 ∷ 0 ∷ 2 ∷ [];
}

-- the lists at its end
abbrev pub unhurried_left : Lists
unhurried_left = record {
  ready = [];
  free_slots = 1 ∷ 2 ∷ 0 ∷ 3 ∷ [];
  counts = 0 ∷ 0 ∷ [];
  sleepers = [] ∷ [] ∷ [];
  entries = record { inode = 7; uses = 2 } ∷ free_entry ∷ [];
  births = 1;
  is_shut = true;
  ended =
      record { name = 1 ∷ []; program = 0; slot = 1; position = 12; journal = said (codes "a") ∷ upped 0 ∷ downed 0 ∷ upped 1 ∷ opened 5 (Some 0) ∷ statted 5 (Some 1) ∷ closed 5 (Some 0) ∷ statted 5 None ∷ spawned 0 ∷ no_slot ∷ shut_down ∷ statted 7 None ∷ [] } ∷
      record { name = 2 ∷ []; program = 2; slot = 2; position = 1; journal = opened 7 (Some 0) ∷ [] } ∷
      record { name = 0 ∷ []; program = 1; slot = 0; position = 1; journal = downed 1 ∷ [] } ∷
      record { name = 1 ∷ 0 ∷ []; program = 2; slot = 3; position = 1; journal = opened 7 (Some 0) ∷ [] } ∷ [];
  halted = [];
}

-- two processes become ready after the ready list was shut
abbrev pub latecomers : ScriptOf
latecomers = record {
  version = 2;
  slots = 3;
  births = 0;
  quantum = 1;
  stint = longest_stint;
  semaphores = [];
  files = 1;
  programs = (shutdown ∷ yield ∷ []) ∷ (yield ∷ yield ∷ yield ∷ []) ∷ [];
  start = 1 ∷ 0 ∷ 1 ∷ [];
}

-- the lists at its end
abbrev pub latecomers_left : Lists
latecomers_left = record {
  ready = [];
  free_slots = [];
  counts = [];
  sleepers = [];
  entries = free_entry ∷ [];
  births = 0;
  is_shut = true;
  ended = [];
  halted =
      record { name = 1 ∷ []; program = 0; slot = 1; position = 1; journal = shut_down ∷ [] } ∷
      record { name = 2 ∷ []; program = 1; slot = 2; position = 1; journal = yielded ∷ [] } ∷
      record { name = 0 ∷ []; program = 1; slot = 0; position = 2; journal = yielded ∷ yielded ∷ [] } ∷ [];
}

-- a down that passes is the only step of its turn, so the other process ends first
abbrev pub counted : ScriptOf
counted = record {
  version = 1;
  slots = 2;
  births = 0;
  quantum = 1;
  stint = longest_stint;
  semaphores = 1 ∷ [];
  files = 1;
  programs = (say [] ∷ say [] ∷ []) ∷ (down 0 ∷ say [] ∷ []) ∷ [];
  start = 0 ∷ 1 ∷ [];
}

-- the lists at its end
abbrev pub counted_left : Lists
counted_left = record {
  ready = [];
  free_slots = 0 ∷ 1 ∷ [];
  counts = 0 ∷ [];
  sleepers = [] ∷ [];
  entries = free_entry ∷ [];
  births = 0;
  is_shut = false;
  ended =
      record { name = 0 ∷ []; program = 0; slot = 0; position = 2; journal = said [] ∷ said [] ∷ [] } ∷
      record { name = 1 ∷ []; program = 1; slot = 1; position = 2; journal = downed 0 ∷ said [] ∷ [] } ∷ [];
  halted = [];
}

-- the change that an open or a close makes: the entry that it names, and the entries after it
abbrev pub changed : Option ℕ → List FileEntry → FileChange
changed entry entries = record { entry = entry; entries = entries }

-- an entry with this inode and this many uses
abbrev pub used : ℕ → ℕ → FileEntry
used inode uses = record { inode = inode; uses = uses }

-- one process that yields, with turns of no step
abbrev pub unending : ScriptOf
unending = record {
  version = 1;
  slots = 1;
  births = 0;
  quantum = 0;
  stint = longest_stint;
  semaphores = [];
  files = 1;
  programs = (yield ∷ []) ∷ [];
  start = 0 ∷ [];
}
