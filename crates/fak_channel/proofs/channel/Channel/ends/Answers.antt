use Rattle.std.proofs.Common.{◌≡◌, ◌++◌, [], ◌∷◌, map, ap, sym, ◌∙◌, subst, append-nil, append_assoc, List, length, arith}
use Rattle.std.specs.List.{All}
use Rattle.std.proofs.lemmas.List.{map-append}
use Rattle.std.proofs.lemmas.List.Elements.{All-nil, All-head, All-tail, All-push}
use Rattle.fak_channel.specs.Standings.{IsSeatOf}
use Rattle.fak_channel.specs.declared.end.End.{End}
use Rattle.fak_channel.specs.declared.seat.ChannelSeat.{ChannelSeat}
use Rattle.fak_channel.proofs.channel.Channel.ends.Goals as goal

abbrev seats_in : {T : Type 0} → List (End T) → List (ChannelSeat T)
seats_in {T} ends = map (λ (e : End T). e.seat) ends

-- one more end has the next seat
one_more : {T : Type 0} (ends ends' : List (End T)) (e : End T) (seat : ChannelSeat T) (left left' all : List (ChannelSeat T)) → seats_in ends ++ left ≡ all → left ≡ seat ∷ left' → ends' ≡ ends ++ e ∷ [] → e.seat ≡ seat → seats_in ends' ++ left' ≡ all
one_more {T} ends ends' e seat left left' all was next pushed same =
    ap (λ l. seats_in l ++ left') pushed ∙ (ap (λ l. l ++ left') (map-append (λ (x : End T). x.seat) ends (e ∷ [])) ∙ (append_assoc (seats_in ends) (e.seat ∷ []) left' ∙ (ap (λ s. seats_in ends ++ (s ∷ left')) same ∙ (ap (λ l. seats_in ends ++ l) (sym next) ∙ was))))

nothing_left : {T : Type 0} (ends : List (End T)) (left all : List (ChannelSeat T)) → seats_in ends ++ left ≡ all → length left ≡ 0 → seats_in ends ≡ all
nothing_left ends [] all was none = sym (append-nil (seats_in ends)) ∙ was
nothing_left ends (s ∷ left) all was none = absurd (omega arith)

pub loop-seat-init : goal.loop-seat-init
loop-seat-init g c = record {
  seats = ap (λ l. seats_in l ++ c.into_iter-left.result.rest.items) c.in_ok-ends.ensures.items ∙ c.into_iter-left.ensures.rest;
  of = subst (All (λ (s : ChannelSeat g.row.T.Denot). IsSeatOf c.args.self.now s)) (sym c.into_iter-left.ensures.rest) c.requires;
  channel = subst (All (λ (e : End g.row.T.Denot). e.channel.now ≡ c.args.self.now)) (sym c.in_ok-ends.ensures.items) (All-nil _);
}

pub new-requires : goal.new-requires
new-requires g c =
    let P : ChannelSeat g.row.T.Denot → Type 0 = λ s. IsSeatOf c.args.self.now s in
    All-head P _ _ (subst (All P) c.in-Some.ensures.items c.loop-seat.invariant.of)

pub loop-seat-preserved : goal.loop-seat-preserved
loop-seat-preserved g c =
    let P : ChannelSeat g.row.T.Denot → Type 0 = λ s. IsSeatOf c.args.self.now s in
    let Q : End g.row.T.Denot → Type 0 = λ e. e.channel.now ≡ c.args.self.now in
    record {
      seats = one_more c.loop-seat.ends.items c.push.new.self.items c.new.result c.in-Some.seat c.loop-seat.left.rest.items c.next.new.self.rest.items c.args.seats.items c.loop-seat.invariant.seats c.in-Some.ensures.items c.in_ok-push.ensures.items c.new.ensures.seat;
      of = All-tail P _ _ (subst (All P) c.in-Some.ensures.items c.loop-seat.invariant.of);
      channel = subst (All Q) (sym c.in_ok-push.ensures.items) (All-push Q c.loop-seat.ends.items c.new.result c.loop-seat.invariant.channel c.new.ensures.channel);
    }

pub returns-clause-seats : goal.returns-clause-seats
returns-clause-seats g c =
    let none : length c.loop-seat.left.rest.items ≡ 0 = omega (arith, c.loop-seat.left.rest.ok, c.in_default.ensures.cases.0) in
    nothing_left c.loop-seat.ends.items c.loop-seat.left.rest.items c.args.seats.items c.loop-seat.invariant.seats none
