use Rattle.fak_queue.specs.Bundles.{ClaimsOutOn, RefusesOutOn}
use Rattle.fak_queue.proofs.StepTokens.{still_fits}
use Rattle.fak_queue.proofs.BundleClaimsOut.{claims_out_on}
use Rattle.fak_queue.proofs.Common.{◌∙◌, subst, arith, ℕ, ◌<◌, ◌≤◌, length, rules, sym, to_z-of_z, w64}
use Rattle.fak_queue.specs.Bursts.{units}
use Rattle.fak_queue.proofs.BundleRefusals.{refuses_out_on}
use Rattle.fak_queue.proofs.BurstNames.{units_length}
use Rattle.fak_queue.proofs.BurstClaimsOut.{draw_count, draw_names, draw_left, claims_burst}
use Rattle.fak_queue.proofs.bursts.admission_out.admit_burst_out.Goals as goal

-- a count within the names is that of the things they have
fits : (count n : ℕ) → count ≤ n → length (units count) ≤ n
fits count n few = let l = units_length count in omega (arith, l, few)

-- they are few, and within the stint
few_units : (count k : ℕ) → count ≤ k → length (units count) ≤ k
few_units count k few = let l = units_length count in omega (arith, l, few)

some_units : (count : ℕ) → 0 < count → 0 < length (units count)
some_units count some = let l = units_length count in omega (arith, l, some)

pub draw_out_burst-requires-clause-count : goal.draw_out_burst-requires-clause-count
draw_out_burst-requires-clause-count g c =
    let n = c.requires.token.names in
    draw_count c.args.words.now.table_id.slots c.args.words.now.key.seats c.args.names.now (units c.args.count) n.0 (fits _ _ n.2) c.args.token.now.me c.claim_stock.new.token.me n.1 c.in-Ok.granted c.in-Ok.ensures.told (few_units _ _ c.requires.some.1)

pub draw_out_burst-requires-clause-token : goal.draw_out_burst-requires-clause-token
draw_out_burst-requires-clause-token g c = record {
  table = still_fits c.requires.token.table c.claim_stock.ensures.same;
  names = (let n = c.requires.token.names in
      draw_names c.args.words.now.table_id.slots c.args.words.now.key.seats c.args.names.now (units c.args.count) n.0 (fits _ _ n.2) c.args.token.now.me c.claim_stock.new.token.me n.1 c.in-Ok.granted c.in-Ok.ensures.told);
  phase = search rules;
}

pub draw_out_burst-requires-clause-left : goal.draw_out_burst-requires-clause-left
draw_out_burst-requires-clause-left g c =
    let n = c.requires.token.names in
    draw_left c.args.words.now.table_id.slots c.args.words.now.key.seats c.args.names.now (units c.args.count) n.0 (fits _ _ n.2) c.args.token.now.me c.claim_stock.new.token.me n.1 c.in-Ok.granted c.in-Ok.ensures.told (few_units _ _ c.requires.left)

pub returns-in-Ok-clause-told : goal.returns-in-Ok-clause-told
returns-in-Ok-clause-told g c =
    record {
      same = c.draw_out_burst.ensures.same ∙ c.claim_stock.ensures.same;
      told = (let n = c.requires.token.names in
          claims_burst c.args.words.now.table_id.slots c.args.words.now.key.seats c.args.names.now (units c.args.count) n.0 (fits _ _ n.2) c.args.token.now.me c.claim_stock.new.token.me n.1 c.in-Ok.granted c.in-Ok.ensures.told _ c.draw_out_burst.new.token.me c.draw_out_burst.ensures.told);
    }

pub returns-in-Ok-clause-claims : goal.returns-in-Ok-clause-claims
returns-in-Ok-clause-claims g c =
    let n = c.requires.token.names in
    subst (λ d. ClaimsOutOn c.args.words.now.table_id.slots c.args.words.now.key.seats c.args.names.now d c.draw_out_burst.result c.in-Ok.granted c.args.token.now.me c.draw_out_burst.new.token.me) (units_length c.args.count)
    (claims_out_on c.args.names.now (units c.args.count) n.0 (fits _ _ n.2) c.draw_out_burst.result c.in-Ok.granted c.args.token.now.me c.draw_out_burst.new.token.me n.1
    (claims_burst c.args.words.now.table_id.slots c.args.words.now.key.seats c.args.names.now (units c.args.count) n.0 (fits _ _ n.2) c.args.token.now.me c.claim_stock.new.token.me n.1 c.in-Ok.granted c.in-Ok.ensures.told _ c.draw_out_burst.new.token.me c.draw_out_burst.ensures.told))

pub returns-in-Err-clause-refuses : goal.returns-in-Err-clause-refuses
returns-in-Err-clause-refuses g c =
    let n = c.requires.token.names in
    subst (λ l. RefusesOutOn c.args.words.now.table_id.slots c.args.words.now.key.seats c.args.names.now c.args.count l c.args.token.now.me c.claim_stock.new.token.me) (sym (to_z-of_z {w = w64} (search rules)))
    (subst (λ d. RefusesOutOn c.args.words.now.table_id.slots c.args.words.now.key.seats c.args.names.now d c.in-Err.lower c.args.token.now.me c.claim_stock.new.token.me) (units_length c.args.count)
    (refuses_out_on c.args.words.now.table_id.slots c.args.words.now.key.seats c.args.names.now (units c.args.count) n.0 (fits _ _ n.2) (some_units _ c.requires.some.0) c.args.token.now.me c.claim_stock.new.token.me n.1 c.in-Err.lower c.in-Err.ensures.told))
