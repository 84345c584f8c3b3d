use Rattle.fak_text.proofs.Common.{on_ok_weaker, string_bytes}
use Rattle.fak_text.proofs.NameText.{name_appended}
use Rattle.fak_text.proofs.text.journal.append_name.Goals as goal

pub returns-in_ok-append_prefix-in-Some : goal.returns-in_ok-append_prefix-in-Some
returns-in_ok-append_prefix-in-Some c =
    on_ok_weaker c.append_number.result
    (name_appended (string_bytes c.append_number.new.text) (string_bytes c.append_prefix.new.text) (string_bytes c.args.text.now) c.args.name.now c.in-Some.parents.now c.in-Some.last.now c.in-Some.ensures.cases.0 c.in_ok-append_prefix-in-Some.ensures)
    c.append_number.ensures
