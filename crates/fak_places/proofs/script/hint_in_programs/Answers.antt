use Rattle.std.proofs.Common.{◌≡◌, Some, is_ok, not, slice_get, slice_index_or, rules}
use Rattle.std.specs.List.{position}
use Rattle.serde_json.specs.View.{view}
use Rattle.fak_places.specs.Named.{program_in}
use Rattle.fak_places.specs.Spots.{limits_in}
use Rattle.fak_places.proofs.Spots.{got, in_programs}
use Rattle.fak_places.proofs.script.hint_in_programs.Goals as goal

pub returns : goal.returns
returns c =
    let first : position (λ v. not (is_ok (program_in c.limits_of-limits.result (view v)))) c.elements_of_key-programs.result.now ≡ Some c.in_ok-index.index = search rules in
    let read : c.in_ok-program.program.now ≡ slice_index_or c.elements_of_key-programs.result.now c.in_ok-index.index c.in_ok-program.program.now = search rules in
    let at : slice_get c.elements_of_key-programs.result.now c.in_ok-index.index ≡ Some c.in_ok-program.program.now =
    got (λ v. not (is_ok (program_in c.limits_of-limits.result (view v)))) c.elements_of_key-programs.result.now c.in_ok-index.index c.in_ok-program.program.now first read in
    in_programs _ (limits_in (view c.args.script.now)) c.limits_of-limits.result c.elements_of_key-programs.result.now _ c.in_ok-index.index c.in_ok-program.program.now
    c.limits_of-limits.ensures c.elements_of_key-programs.ensures first at c.hint_in_program.ensures
