use Rattle.fak_model.specs.Calls.{object_id}
use Rattle.fak_files.proofs.Common.{Idle, Nothing, file_object, seat_now, rules, ◌≡◌, ◌++◌, [], ◌∷◌, ap, not, true, is_ok, ◌∙◌, deals, dealt_is, kept_is}
use Rattle.fak_files.proofs.Openings.{opens, fresh_file_seat, idle_next}
use Rattle.fak_files.proofs.table.FileTable.with_limits.Goals as goal

pub of_words-requires : goal.of_words-requires
of_words-requires c = opens c.args.entries c.args.seats (search rules) (search rules) (search rules)

pub split_seat-requires : goal.split_seat-requires
split_seat-requires c = (search rules, search rules, deals (file_object c.in-Ok.table.shared.key) Idle 0 c.loop-name.name c.args.seats c.loop-name.rest.id c.loop-name.rest.me (search rules) c.loop-name.invariant.1)

pub invariant_of-seat : goal.invariant_of-seat
invariant_of-seat c =
    let dealt = c.split_seat.ensures.4 ∙ dealt_is (file_object c.in-Ok.table.shared.key) Idle 0 c.loop-name.name c.args.seats c.loop-name.rest.id c.loop-name.rest.me (search rules) c.loop-name.invariant.1 in
    fresh_file_seat c.args.seats c.loop-name.name c.args.stint c.split_seat.result.me dealt (search rules) (search rules)

pub loop-name-preserved : goal.loop-name-preserved
loop-name-preserved c =
    let o = file_object c.in-Ok.table.shared.key in
    let table = c.split_seat.ensures.3 ∙ c.loop-name.invariant.0 in
    let dealt = c.split_seat.ensures.4 ∙ dealt_is o Idle 0 c.loop-name.name c.args.seats c.loop-name.rest.id c.loop-name.rest.me (search rules) c.loop-name.invariant.1 in
    let ok : is_ok c.push.result ≡ true = c.is_err.ensures.negation ∙ ap not c.if-is_err.false in
    let added : c.push.new.self.items ≡ c.loop-name.dealt.items ++ seat_now (object_id c.split_seat.result.table_id c.args.seats) c.loop-name.name c.args.stint Nothing c.split_seat.result.me ∷ [] = search (rules, ok) in (
      c.split_seat.ensures.0 ∙ c.loop-name.invariant.0,
      c.split_seat.ensures.2 ∙ kept_is o Idle 0 c.loop-name.name c.args.seats c.loop-name.rest.id c.loop-name.rest.me (search rules) c.loop-name.invariant.1,
      added ∙ idle_next (object_id c.in-Ok.table.shared.table_id c.args.seats) _ (ap (λ t. object_id t c.args.seats) table) c.args.stint c.loop-name.name c.split_seat.result.me dealt c.loop-name.dealt.items c.loop-name.invariant.2,
    )
