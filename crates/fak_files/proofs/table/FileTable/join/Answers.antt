use Rattle.fak_files.proofs.Common.{phase_of, StandsIn, file_object, rules, ℕ, [], ap, sym, subst, ◌∙◌, reverse, FileMark, words_by, Owes, object_id, SeatInfo, TallyInfo, tally_info, IsJoined, seat_of, kind_of, kinds_of_call, file_rules, IsSeatToken, token_slots, tally_at, seat_at, may_join, token_joined, set_joined, call_joined, IsSettled}
use Rattle.fak_files.proofs.Settling.{settled_joined}
use Rattle.fak_files.proofs.table.FileTable.join.Goals as goal

pub join_seat-requires : goal.join_seat-requires
join_seat-requires c =
    let o = file_object c.self.inside.table.shared.key in
    let object = ap (λ x. x.object) c.self.view_is in
    let seat = ap (λ s. s.seat) c.seat.view_is in
    let idle = ap phase_of (ap (λ s. s.hold) c.seat.view_is ∙ c.requires.idle) in
    let token = subst (λ p. IsSeatToken seat_of c.seat.inside.seats c.seat.inside.name p 0 c.seat.inside.token.me) idle c.seat.invariant.token in (
      tally_at o c.tally.invariant.0 token c.tally.view_is seat object c.requires.object.0 c.requires.object.1,
      seat_at o c.tally.invariant.0 token c.tally.view_is seat object c.requires.object.0 c.requires.object.1,
      token_slots token,
      search (rules, c.self.invariant),
      may_join o c.tally.invariant.0 token c.tally.view_is seat object c.requires.object.0 c.requires.object.1 _ _,
    )

pub invariant_of-result : goal.invariant_of-result
invariant_of-result c =
    let o = file_object c.self.inside.table.shared.key in
    let object = ap (λ x. x.object) c.self.view_is in
    let seat = ap (λ s. s.seat) c.seat.view_is in
    let idle = ap phase_of (ap (λ s. s.hold) c.seat.view_is ∙ c.requires.idle) in
    let token = subst (λ p. IsSeatToken seat_of c.seat.inside.seats c.seat.inside.name p 0 c.seat.inside.token.me) idle c.seat.invariant.token in
    let stands = subst (λ p. StandsIn c.seat.inside.seats (words_by seat_of kind_of c.seat.inside.name (reverse c.seat.inside.token.me.0.seen)) p) idle c.seat.invariant.stands in
    let joined = call_joined o c.tally.invariant.0 token c.tally.view_is seat object c.requires.object.0 c.requires.object.1 c.join_seat.ensures.2 c.hear.ensures.told (c.hear.ensures.same ∙ c.join_seat.ensures.0) in
    let tally_object = ap (λ t. t.object) c.tally.view_is ∙ (c.requires.object.0 ∙ sym object) in (
      token_joined o c.tally.invariant.0 token c.tally.view_is seat object c.requires.object.0 c.requires.object.1 c.join_seat.ensures.2 c.hear.ensures.told,
      set_joined o c.tally.invariant.0 token c.tally.view_is seat object c.requires.object.0 c.requires.object.1 c.join_seat.ensures.2 c.hear.ensures.told _ _ c.tally.invariant.1 c.insert.ensures,
      settled_joined c.self.inside.table.shared.key.seats c.tally.inside.seats (ap (λ o. o.seats) tally_object) joined
          (subst (λ (t : TallyInfo FileMark). IsSettled c.tally.inside.seats t.names t.seen) c.tally.view_is c.tally.invariant.2)
          (subst (λ (s : SeatInfo FileMark). Owes kinds_of_call (words_by seat_of kind_of s.name s.seen) []) seat stands),
    )

pub returns-clause-joined : goal.returns-clause-joined
returns-clause-joined c =
    let o = file_object c.self.inside.table.shared.key in
    let object = ap (λ x. x.object) c.self.view_is in
    let seat = ap (λ s. s.seat) c.seat.view_is in
    let idle = ap phase_of (ap (λ s. s.hold) c.seat.view_is ∙ c.requires.idle) in
    let token = subst (λ p. IsSeatToken seat_of c.seat.inside.seats c.seat.inside.name p 0 c.seat.inside.token.me) idle c.seat.invariant.token in
    subst (λ (k : ℕ). IsJoined (file_rules k) c.args.tally c.args.seat.seat (tally_info (object_id c.hear.new.token.table_id c.tally.inside.seats) c.hear.new.token.me.0.names (reverse c.hear.new.token.me.0.seen)))
    (ap (λ x. x.object.seats) c.self.view_is)
    (call_joined o c.tally.invariant.0 token c.tally.view_is seat object c.requires.object.0 c.requires.object.1 c.join_seat.ensures.2 c.hear.ensures.told (c.hear.ensures.same ∙ c.join_seat.ensures.0))
