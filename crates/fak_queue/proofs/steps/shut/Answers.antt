use Rattle.fak_queue.proofs.Common.{arith, refl, rules}
use Rattle.fak_queue.proofs.Allowed.{shuts_allowed}
use Rattle.fak_queue.proofs.States.{shut_as}
use Rattle.fak_queue.proofs.steps.shut.Goals as goal

pub fetch_or-found-requires : goal.fetch_or-found-requires
fetch_or-found-requires g c =
    let t = c.requires.table in
    (t.same, omega (arith, t.words), shuts_allowed c.args.words.now.key _ _ _ c.requires.seat.0 _ t.few c.requires.seat.1 c.requires.phase)

pub returns : goal.returns
returns g c = record { same = search rules; told = λ n one. shut_as _ _ n _ _ _ (c.fetch_or-found.ensures.2 n one) _ refl }
