use Rattle.std.proofs.Common.{◌≡◌, [], ap, sym, true, inr, refl, ◌∙◌, length}
use Rattle.std.specs.Prelude.{◌==◌}
use Rattle.std.specs.VecDeque.{deque_len}
use Rattle.std.proofs.lemmas.List.{append-nil}
use Rattle.fak_handles.specs.bundle.Open.{open_in}
use Rattle.fak_handles.proofs.bundle.seat.BundleDesk.fetch.Goals as goal

pub returns-else-is_empty-clause-call : goal.returns-else-is_empty-clause-call
returns-else-is_empty-clause-call c =
    let d = c.args.self.now in
    let idle = sym c.in-Idle.ensures.value in
    record {
      got = [];
      held_is = sym (append-nil d.held.items);
      next_is = refl;
      left_is = sym (ap open_in idle);
      call = inr (
        idle,
        (λ e. let none : deque_len d.held ≡ 0 = d.held.ok.0 ∙ ap length e in let all : c.is_empty.result ≡ true = c.is_empty.ensures ∙ ap (λ n. n == 0) none in let some = c.if-is_empty.false in absurd cc),
        refl,
        refl,
      );
    }
