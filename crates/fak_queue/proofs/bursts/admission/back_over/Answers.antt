use Rattle.fak_queue.proofs.Common.{refl, arith, ◌≡◌, ℕ, ◌-◌, ◌≤◌, ◌∙◌, length, sym, nat_tests}
use Rattle.fak_core.specs.declared.queue.phase.Phase.TheVariants.{TicketIn}
use Rattle.fak_queue.proofs.BurstNames.{over_length, none_over, once_over, over_apart, over_in}
use Rattle.fak_queue.proofs.BurstClaims.{backed_phase, backed_makes, backed_from, rests_so}
use Rattle.fak_queue.proofs.bursts.admission.back_over.Goals as goal

-- the names that are granted, as the step counts them
counted : (d n j : ℕ) → d ≡ n → j ≤ d → n - (d - j) ≡ j
counted d n j e le = omega (arith, e, le)

pub back_burst-requires-clause-count : goal.back_burst-requires-clause-count
back_burst-requires-clause-count g c =
    let k = c.requires.count in
    let names = c.requires.token.names in
    let xs = c.args.claimants.now.items.now in
    let l = over_length c.args.claimants.now.names.now xs names.2 (length xs - (c.args.count - c.args.granted)) in
    (omega (arith, k.0, k.2) ∙ sym l, omega (arith, k.1))

pub back_burst-requires-clause-token : goal.back_burst-requires-clause-token
back_burst-requires-clause-token g c = record {
  table = c.requires.token.table;
  names = (let names = c.requires.token.names in
      let ns = c.args.claimants.now.names.now in
      let xs = c.args.claimants.now.items.now in
      let j = length xs - (c.args.count - c.args.granted) in
      (once_over (Unit {0}) ns xs names.0 names.2 j, over_apart _ ns xs names.0 names.2 j (λ x. TicketIn x), over_in _ ns xs names.0 names.2 j (λ x. TicketIn x) _ names.1));
  phase = (let k = c.requires.count in backed_from _ _ c.args.token.now.me _ c.args.granted (counted c.args.count (length c.args.claimants.now.items.now) c.args.granted k.0 k.2) c.requires.token.phase);
}

pub returns-then-granted-count-clause-told : goal.returns-then-granted-count-clause-told
returns-then-granted-count-clause-told g c =
    record { same = c.back_burst.ensures.same; told = (let k = c.requires.count in backed_phase _ _ _ _ _ _ _ c.args.granted (counted c.args.count (length c.args.claimants.now.items.now) c.args.granted k.0 k.2) c.back_burst.ensures.told) }

pub returns-then-granted-count-clause-makes : goal.returns-then-granted-count-clause-makes
returns-then-granted-count-clause-makes g c = let k = c.requires.count in λ _. backed_makes _ _ _ _ _ _ _ c.args.granted (counted c.args.count (length c.args.claimants.now.items.now) c.args.granted k.0 k.2) c.back_burst.ensures.told

pub returns-else-granted-count-clause-told : goal.returns-else-granted-count-clause-told
returns-else-granted-count-clause-told g c =
    record {
      same = refl;
      told = (let k = c.requires.count in
          let none = c.if-granted-count.false in
          rests_so _ _ c.args.token.now.me c.args.granted (none_over c.args.claimants.now.names.now c.args.claimants.now.items.now c.requires.token.names.2 c.args.granted (grind (arith, nat_tests, none, k))) c.requires.token.phase);
    }
