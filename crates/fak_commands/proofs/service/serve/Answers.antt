use Rattle.std.proofs.Common.{List, ℕ, rules}
use Rattle.std.specs.Io.KnownBytes.{Appends}
use Rattle.std.proofs.lemmas.Result.{err_from_is_err_and}
use Rattle.fak_replay.specs.Answers.{reply_of}
use Rattle.fak_commands.proofs.Input.{serves, fails}
use Rattle.fak_commands.proofs.service.serve.Goals as goal

pub returns-clause-ok : goal.returns-clause-ok
returns-clause-ok g c =
    serves (g.R.Read.remaining c.args.reader.now) (g.R.Read.remaining c.read_input.new.reader) c.args.command c.in_ok-input.input.items (reply_of c.in_ok-answer.answer)
    (λ (text : List ℕ). Appends (g.W.Write.contents c.args.writer.now) (g.W.Write.contents c.write_text.new.writer) text)
    c.in_ok-input.ensures.ok (search rules) (search rules)

pub returns-in_err-answer-clause-fault : goal.returns-in_err-answer-clause-fault
returns-in_err-answer-clause-fault g c =
    let p = err_from_is_err_and c.from_residual-in_err-answer.result c.from_residual-in_err-answer.ensures.1 in
    rw (p.1, p.2) (fails (g.R.Read.remaining c.args.reader.now) (g.R.Read.remaining c.read_input.new.reader) c.args.command c.in_ok-input.input.items c.in_err-answer.field-0.0 c.in_ok-input.ensures.ok (search rules))
