use Rattle.fak_queue.proofs.Common.{refl, arith, ◌≡◌, ℕ, ◌-◌, ◌≤◌, ◌∙◌, length, sym, nat_tests}
use Rattle.fak_core.specs.declared.queue.phase.Phase.TheVariants.{TicketOut}
use Rattle.fak_queue.specs.Bursts.{units}
use Rattle.fak_queue.proofs.BurstNames.{over_length, none_over, once_over, over_apart, over_in, units_length}
use Rattle.fak_queue.proofs.BurstClaimsOut.{backed_phase, backed_makes, backed_from, rests_so}
use Rattle.fak_queue.proofs.bursts.admission_out.back_over_low.Goals as goal

-- a count within the names is that of the things they have
fits : (count n : ℕ) → count ≤ n → length (units count) ≤ n
fits count n few = let l = units_length count in omega (arith, l, few)

-- the names that are granted, as the step counts them
counted : (d j : ℕ) → j ≤ d → d - (d - j) ≡ j
counted d j le = omega (arith, le)

pub back_low_burst-requires-clause-count : goal.back_low_burst-requires-clause-count
back_low_burst-requires-clause-count g c =
    let k = c.requires.count in
    let names = c.requires.token.names in
    let us = units c.args.count in
    let n = units_length c.args.count in
    let l = over_length c.args.names.now us (fits _ _ names.2) (c.args.count - (c.args.count - c.args.granted)) in
    (omega (arith, k.1, n) ∙ sym l, omega (arith, k.0))

pub back_low_burst-requires-clause-token : goal.back_low_burst-requires-clause-token
back_low_burst-requires-clause-token g c = record {
  table = c.requires.token.table;
  names = (let names = c.requires.token.names in
      let ns = c.args.names.now in
      let us = units c.args.count in
      let fit = fits _ _ names.2 in
      let j = c.args.count - (c.args.count - c.args.granted) in
      (once_over (Unit {0}) ns us names.0 fit j, over_apart _ ns us names.0 fit j (λ x. TicketOut), over_in _ ns us names.0 fit j (λ x. TicketOut) _ names.1));
  phase = (let k = c.requires.count in backed_from _ _ c.args.token.now.me _ c.args.granted (counted c.args.count c.args.granted k.1) c.requires.token.phase);
}

pub returns-then-granted-count-clause-told : goal.returns-then-granted-count-clause-told
returns-then-granted-count-clause-told g c =
    record { same = c.back_low_burst.ensures.same; told = (let k = c.requires.count in backed_phase _ _ _ _ _ _ _ c.args.granted (counted c.args.count c.args.granted k.1) c.back_low_burst.ensures.told) }

pub returns-then-granted-count-clause-makes : goal.returns-then-granted-count-clause-makes
returns-then-granted-count-clause-makes g c = let k = c.requires.count in λ _. backed_makes _ _ _ _ _ _ _ c.args.granted (counted c.args.count c.args.granted k.1) c.back_low_burst.ensures.told

pub returns-else-granted-count-clause-told : goal.returns-else-granted-count-clause-told
returns-else-granted-count-clause-told g c =
    record {
      same = refl;
      told = (let k = c.requires.count in
          let none = c.if-granted-count.false in
          let n = units_length c.args.count in
          rests_so _ _ c.args.token.now.me c.args.granted (none_over c.args.names.now (units c.args.count) (fits _ _ c.requires.token.names.2) c.args.granted (grind (arith, nat_tests, none, k, n))) c.requires.token.phase);
    }
