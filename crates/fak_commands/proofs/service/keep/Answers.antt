use Rattle.std.proofs.Common.{◌∙◌, ◌-◌, rules}
use Rattle.fak_commands.proofs.Input.{front_grows_by}
use Rattle.fak_commands.proofs.service.keep.Goals as goal
use Rattle.fak_text.specs.Values.{most_kept}

pub returns-clause-ok : goal.returns-clause-ok
returns-clause-ok c = λ input e.
    c.in_ok-extend_from_slice.ensures.items ∙ front_grows_by most_kept input c.args.chunk.now c.args.kept.now.items c.len.result (most_kept - c.min-room.result) c.min-count.result (search rules) (search rules) (search rules) e
