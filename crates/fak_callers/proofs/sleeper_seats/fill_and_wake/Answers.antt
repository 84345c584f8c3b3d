use Rattle.std.proofs.Common.{arith, ◌≡◌, ◌∙◌, ℕ, ◌+◌, Bool, true, false, Option, Some, None, MatchOption, ap, sym, subst}
use Rattle.std.specs.Prelude.{IsTrue, is_some, not}
use Rattle.std.proofs.lemmas.Grind.{common_steps}
use Rattle.fak_model.specs.declared.note.NoteKind.TheVariants.{AsReceiver}
use Rattle.fak_model.specs.declared.note.Sign.TheVariants.{WakesEnd}
use Rattle.fak_model.specs.declared.queue.Mark.{Mark}
use Rattle.fak_model.specs.Calls.{SeatInfo}
use Rattle.fak_channel_core.specs.SleeperSides.{less}
use Rattle.fak_channel_core.specs.SleeperMoves.{Account, after_note}
use Rattle.fak_queue.specs.declared.role.Role.TheVariants.{Receiver}
use Rattle.fak_queue.specs.CallAccounts.{owes_receiver}
use Rattle.fak_queue.specs.Queues.{Fills, WaitsToFill}
use Rattle.fak_queue.specs.SleeperRest.{OwesNothing}
use Rattle.fak_queue.specs.SleeperSeats.{SleeperInfo, ClearsBit, account_of_seat}
use Rattle.fak_callers.proofs.sleeper_seats.fill_and_wake.Goals as goal

-- a try that moved the item
filled : {T : Type 0} (size k : ℕ) (old new : SeatInfo (Mark T)) (r : Option ℕ) → is_some r ≡ true → MatchOption r (WaitsToFill size k old new) (λ j. (j ≡ k) × Fills size k old new) → Fills size k old new
filled size k old new None some m = cc
filled size k old new (Some j) some m = m.1

-- the look that the insertion owes is paid by a wake
paid : {T : Type 0} (size other : ℕ) (mid new : SleeperInfo T) (g : Account) → OwesNothing g → account_of_seat mid ≡ owes_receiver g → (b : Bool) → ClearsBit size Receiver other b mid new → IsTrue b → OwesNothing (account_of_seat new)
paid size other mid new g none owes true cleared woken =
    subst OwesNothing (sym (cleared.account ∙ ap (after_note mid.seat.object.seats (AsReceiver (WakesEnd other))) owes))
    record { for_senders = none.for_senders; for_receivers = ap (λ l. less (l + 1)) none.for_receivers; checks = none.checks }
paid size other mid new g none owes false cleared woken = grind (arith, common_steps)

pub returns : goal.returns
returns g c =
    let k = c.requires.inserting.0 in
    let fills = filled c.args.queue.now.size k c.args.seat.now.seat c.try_fill.new.self.seat c.try_fill.result (c.is_none.ensures ∙ ap not c.if-is_none.false) (c.try_fill.ensures.call k c.requires.inserting.1) in
    let owes = c.an_insertion_changes_the_account.ensures.fills c.args.queue.now.size k c.args.seat.now c.try_fill.new.self c.try_fill.ensures.notes fills in
    paid c.args.queue.now.size c.args.other c.try_fill.new.self c.clear.new.self (account_of_seat c.args.seat.now) c.requires.owes owes c.clear.result c.clear.ensures
