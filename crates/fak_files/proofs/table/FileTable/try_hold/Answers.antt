use Rattle.std.proofs.Math.Facts.{to_z-of_z}
use Rattle.fak_model.specs.Calls.{object_id}
use Rattle.fak_files.proofs.Common.{Holding, amount_of, phase_of, Makes, Misses, rules, ℕ, ◌∷◌, [], ◌∙◌, sym, ap, subst, slice_index, w64, Take}
use Rattle.fak_files.proofs.SeatCalls.{phase_of-hold_for, file_seat_granted, file_seat_missed, granted_of, busy_of}
use Rattle.fak_files.proofs.table.FileTable.try_hold.Goals as goal

pub invariant_of-seat : goal.invariant_of-seat
invariant_of-seat c =
    let object = ap (λ s. s.seat.object) c.seat.view_is ∙ (c.requires.0 ∙ ap (λ t. t.object) (sym c.self.view_is)) in
    let seats = sym (ap (λ o. o.seats) object) in
    let name = ap (λ x. slice_index x.0.names 0) c.seat.invariant.token.me_is in
    let missed = subst (λ (x : ℕ × ℕ). Misses x.0 x.1 (amount_of x.0 c.args.access) c.seat.inside.token.me c.admit.new.token.me c.in-Err.count) (λ i. (seats i, name i)) c.in-Err.ensures.made in
    file_seat_missed c.seat.invariant missed (ap phase_of (sym (ap (λ s. s.hold) c.seat.view_is ∙ c.requires.1)))

pub invariant_of-seat-in-Ok : goal.invariant_of-seat-in-Ok
invariant_of-seat-in-Ok c =
    let object = ap (λ s. s.seat.object) c.seat.view_is ∙ (c.requires.0 ∙ ap (λ t. t.object) (sym c.self.view_is)) in
    let seats = sym (ap (λ o. o.seats) object) in
    let name = ap (λ x. slice_index x.0.names 0) c.seat.invariant.token.me_is in
    let made = subst (λ (x : ℕ × ℕ). Makes x.0 x.1 (Take (amount_of x.0 c.args.access) ∷ []) (Holding c.args.access) c.seat.inside.token.me c.admit.new.token.me) (λ i. (seats i, name i)) c.in-Ok.ensures.made in
    file_seat_granted c.args.access c.hold-seat-inside.result c.seat.invariant made (ap (λ s. s.hold) c.seat.view_is ∙ c.requires.1) (sym (ap phase_of c.hold-seat-inside.ensures ∙ phase_of-hold_for c.args.access))

pub returns-in-Err-clause-call : goal.returns-in-Err-clause-call
returns-in-Err-clause-call c =
    let object = ap (λ s. s.seat.object) c.seat.view_is ∙ (c.requires.0 ∙ ap (λ t. t.object) (sym c.self.view_is)) in
    let seats = sym (ap (λ o. o.seats) object) in
    let name = ap (λ x. slice_index x.0.names 0) c.seat.invariant.token.me_is in
    let missed = subst (λ (x : ℕ × ℕ). Misses x.0 x.1 (amount_of x.0 c.args.access) c.seat.inside.token.me c.admit.new.token.me c.in-Err.count) (λ i. (seats i, name i)) c.in-Err.ensures.made in
    let same = ap (λ t. object_id t c.seat.inside.seats) c.in-Err.ensures.same in
    busy_of _ _ same c.seat.inside.name c.seat.inside.left c.seat.inside.hold _ _ c.args.access c.args.seat.now _ c.seat.view_is c.if-seat-eq0.false (subst (λ z. Misses c.seat.inside.seats c.seat.inside.name (amount_of c.seat.inside.seats c.args.access) c.seat.inside.token.me c.admit.new.token.me z) (sym (to_z-of_z {w = w64} (search rules))) missed)

pub returns-in-Ok-clause-call : goal.returns-in-Ok-clause-call
returns-in-Ok-clause-call c =
    let object = ap (λ s. s.seat.object) c.seat.view_is ∙ (c.requires.0 ∙ ap (λ t. t.object) (sym c.self.view_is)) in
    let seats = sym (ap (λ o. o.seats) object) in
    let name = ap (λ x. slice_index x.0.names 0) c.seat.invariant.token.me_is in
    let made = subst (λ (x : ℕ × ℕ). Makes x.0 x.1 (Take (amount_of x.0 c.args.access) ∷ []) (Holding c.args.access) c.seat.inside.token.me c.admit.new.token.me) (λ i. (seats i, name i)) c.in-Ok.ensures.made in
    let same = ap (λ t. object_id t c.seat.inside.seats) c.in-Ok.ensures.same in
    granted_of _ _ same c.seat.inside.name c.seat.inside.left c.seat.inside.hold _ _ c.args.access c.args.seat.now c.seat.view_is c.if-seat-eq0.false made _ c.hold-seat-inside.ensures
