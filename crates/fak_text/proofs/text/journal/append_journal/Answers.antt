use Rattle.std.proofs.Common.{string_bytes}
use Rattle.fak_text.proofs.JournalText.{line_appended}
use Rattle.fak_text.proofs.text.journal.append_journal.Goals as goal

pub loop-note-preserved : goal.loop-note-preserved
loop-note-preserved c =
    line_appended c.args.name.now (string_bytes c.args.text.now) c.args.notes.now c.loop-note.note-index c.note-item.result
    (string_bytes c.loop-note.text) (string_bytes c.push_str.new.self) (string_bytes c.append_note.new.text) (string_bytes c.push_str-in-loop-note.new.self)
    c.loop-note-test.true c.note-item.is c.loop-note.invariant c.in_ok-push_str.ensures.bytes c.in_ok-append_note.ensures c.in_ok-push_str-2.ensures.bytes
