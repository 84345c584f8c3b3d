use Rattle.fak_queue.proofs.Common.{sym, subst}
use Rattle.fak_model.specs.declared.note.NoteKind.TheVariants.{AsReceiver}
use Rattle.fak_model.specs.declared.note.Sign.TheVariants.{PassesWord, WakesEnd}
use Rattle.fak_channel_core.specs.SleeperMoves.{after_note}
use Rattle.fak_queue.specs.Queues.{kinds_in}
use Rattle.fak_queue.specs.SleeperRest.{OwesNothing, account_by}
use Rattle.fak_queue.proofs.Accounts.{account_made}
use Rattle.fak_queue.proofs.SleeperLaws.{passes_all, wakes_one}
use Rattle.fak_queue.proofs.laws.sleepers.an_insertion_and_its_look_owe_nothing.Goals as goal

pub returns-clause-wakes : goal.returns-clause-wakes
returns-clause-wakes g c =
    λ seats size ticket other x notes old new within none makes.
    subst (λ a. OwesNothing (after_note seats (AsReceiver (WakesEnd other)) a)) (sym (account_made seats size notes (kinds_in ticket x) old new within makes)) (wakes_one seats ticket x (account_by seats notes old) none other)

pub returns-clause-passes : goal.returns-clause-passes
returns-clause-passes g c =
    λ seats size ticket x notes old new few within none makes.
    subst (λ a. OwesNothing (after_note seats (AsReceiver (PassesWord 0)) a)) (sym (account_made seats size notes (kinds_in ticket x) old new within makes)) (passes_all seats ticket x (account_by seats notes old) none few)
