use Rattle.std.proofs.Common.{ℕ, List, ap, arith, ◌∙◌, length}
use Rattle.fak_handles.proofs.Bursting.{claim_names, claim_open}
use Rattle.fak_handles.proofs.bundle.seat.BundleDesk.claim_insert.Goals as goal

pub invariant_of-self : goal.invariant_of-self
invariant_of-self c =
    let d = c.args.self.now in
    let e = c.claim_insert_burst-claimed in
    let kept = claim_names _ c.take_in.new.held.items d.bundle e.new.bundle e.result e.ensures.call in
    let low = claim_open _ c.take_in.new.held.items d.bundle e.new.bundle e.result e.ensures.call e.ensures.state in
    let names = ap (λ (l : List ℕ). length l) kept in
    let held = c.clear.ensures.items in
    let none = ap (λ (l : List ℕ). length l) held in
    let some = d.some in
    let wide = d.wide in
    let first = c.take_in.ensures.capacity in
    let then = e.ensures.capacity in
    let last = c.clear.ensures.capacity in
    record { same = e.ensures.object ∙ d.same; some = omega (arith, names, some); wide = omega (arith, names, wide, first, then, last); burst = omega (arith, low, none); none = λ k f g is. held }
