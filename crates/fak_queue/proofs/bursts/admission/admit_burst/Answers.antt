use Rattle.fak_queue.proofs.Common.{◌∙◌, rules}
use Rattle.fak_queue.proofs.StepTokens.{still_fits}
use Rattle.fak_queue.proofs.BundleRefusals.{refuses_on}
use Rattle.fak_queue.proofs.BundleClaims.{claims_on}
use Rattle.fak_queue.proofs.BurstClaims.{draw_count, draw_names, draw_left, claims_burst}
use Rattle.fak_queue.proofs.bursts.admission.admit_burst.Goals as goal

pub draw_burst-requires-clause-count : goal.draw_burst-requires-clause-count
draw_burst-requires-clause-count g c =
    let n = c.requires.token.names in
    draw_count c.args.words.now.table_id.slots c.args.words.now.key.seats c.args.claimants.now.names.now c.args.claimants.now.items.now n.0 n.2 c.args.token.now.me c.claim_room.new.token.me n.1 c.in-Ok.granted c.in-Ok.ensures.told c.requires.some.1

pub draw_burst-requires-clause-token : goal.draw_burst-requires-clause-token
draw_burst-requires-clause-token g c = record {
  table = still_fits c.requires.token.table c.claim_room.ensures.same;
  names = (let n = c.requires.token.names in
      draw_names c.args.words.now.table_id.slots c.args.words.now.key.seats c.args.claimants.now.names.now c.args.claimants.now.items.now n.0 n.2 c.args.token.now.me c.claim_room.new.token.me n.1 c.in-Ok.granted c.in-Ok.ensures.told);
  phase = search rules;
}

pub draw_burst-requires-clause-left : goal.draw_burst-requires-clause-left
draw_burst-requires-clause-left g c =
    let n = c.requires.token.names in
    draw_left c.args.words.now.table_id.slots c.args.words.now.key.seats c.args.claimants.now.names.now c.args.claimants.now.items.now n.0 n.2 c.args.token.now.me c.claim_room.new.token.me n.1 c.in-Ok.granted c.in-Ok.ensures.told c.requires.left

pub returns-in-Ok-clause-told : goal.returns-in-Ok-clause-told
returns-in-Ok-clause-told g c =
    record {
      same = c.draw_burst.ensures.same ∙ c.claim_room.ensures.same;
      told = (let n = c.requires.token.names in
          claims_burst c.args.words.now.table_id.slots c.args.words.now.key.seats c.args.claimants.now.names.now c.args.claimants.now.items.now n.0 n.2 c.args.token.now.me c.claim_room.new.token.me n.1 c.in-Ok.granted c.in-Ok.ensures.told _ c.draw_burst.new.token.me c.draw_burst.ensures.told);
    }

pub returns-in-Ok-clause-claims : goal.returns-in-Ok-clause-claims
returns-in-Ok-clause-claims g c =
    let n = c.requires.token.names in
    claims_on c.args.claimants.now.names.now c.args.claimants.now.items.now n.0 n.2 c.draw_burst.result c.in-Ok.granted c.args.token.now.me c.draw_burst.new.token.me n.1
    (claims_burst c.args.words.now.table_id.slots c.args.words.now.key.seats c.args.claimants.now.names.now c.args.claimants.now.items.now n.0 n.2 c.args.token.now.me c.claim_room.new.token.me n.1 c.in-Ok.granted c.in-Ok.ensures.told _ c.draw_burst.new.token.me c.draw_burst.ensures.told)

pub returns-in-Err-clause-refuses : goal.returns-in-Err-clause-refuses
returns-in-Err-clause-refuses g c =
    let n = c.requires.token.names in
    refuses_on c.args.words.now.table_id.slots c.args.words.now.key.seats c.args.claimants.now.names.now c.args.claimants.now.items.now n.0 n.2 c.requires.some.0 c.args.token.now.me c.claim_room.new.token.me n.1 c.in-Err.reason c.in-Err.ensures.told
