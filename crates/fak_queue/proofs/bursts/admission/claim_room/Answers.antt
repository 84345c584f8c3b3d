use Rattle.fak_queue.proofs.StepTokens.{still_fits}
use Rattle.fak_queue.proofs.Common.{◌≡◌, ◌<◌, ◌≤◌, ℕ, ◌∙◌, length, sym, ap, subst, arith, UpperCount, IsUpperCount}
use Rattle.fak_queue.specs.Bursts.{granted_of}
use Rattle.fak_queue.proofs.BurstNames.{pair_length}
use Rattle.fak_queue.proofs.BurstClaims.{test_names, test_rest, refused_at_test, add_names, add_says, back_names, back_says, back_then, refused_at_add, room_says, names2, claims_room}
use Rattle.fak_queue.proofs.bursts.admission.claim_room.Goals as goal

-- what a word says, of the queue's size
reading : (size slots f : ℕ) (r s : UpperCount) → size ≡ slots → r ≡ s → IsUpperCount size f r → IsUpperCount slots f s
reading size slots f r s e is told = subst (λ (z : ℕ × UpperCount). IsUpperCount z.0 f z.1) (λ i. (e i, is i)) told

pub test_burst-tested-requires-clause-token : goal.test_burst-tested-requires-clause-token
test_burst-tested-requires-clause-token g c = let t = (let n = c.requires.token.names in test_names c.args.words.now.table_id.slots c.args.words.now.key.seats c.args.claimants.now.names.now c.args.claimants.now.items.now n.0 n.2 c.args.token.now.me n.1) in record { table = c.requires.token.table; names = (t.0, t.1, t.2); phase = c.requires.token.phase }

pub test_burst-tested-requires-clause-all : goal.test_burst-tested-requires-clause-all
test_burst-tested-requires-clause-all g c = (let n = c.requires.token.names in test_names c.args.words.now.table_id.slots c.args.words.now.key.seats c.args.claimants.now.names.now c.args.claimants.now.items.now n.0 n.2 c.args.token.now.me n.1).3

pub test_burst-tested-requires-clause-idle : goal.test_burst-tested-requires-clause-idle
test_burst-tested-requires-clause-idle g c = let n = c.requires.token.names in test_rest c.args.words.now.table_id.slots c.args.words.now.key.seats c.args.claimants.now.names.now c.args.claimants.now.items.now n.0 n.2 c.args.token.now.me n.1

pub returns-in-Err : goal.returns-in-Err
returns-in-Err g c =
    record {
      same = c.test_burst-tested.ensures.same;
      told = (let n = c.requires.token.names in
          refused_at_test c.args.words.now.table_id.slots c.args.words.now.key.seats c.args.claimants.now.names.now c.args.claimants.now.items.now n.0 n.2 c.args.token.now.me n.1 c.test_burst-tested.result c.test_burst-tested.new.token.me c.test_burst-tested.ensures.told
          c.in-Err.reason (reading _ _ c.test_burst-tested.result _ _ c.requires.size.0 c.in-Err.is c.read_upper.ensures));
    }

pub add_burst-found-requires-clause-count : goal.add_burst-found-requires-clause-count
add_burst-found-requires-clause-count g c = let n = c.requires.token.names in (c.len-count.ensures ∙ sym (pair_length c.args.claimants.now.names.now c.args.claimants.now.items.now n.2), subst (λ d. d ≤ 1024) (sym c.len-count.ensures) c.requires.some.1)

pub add_burst-found-requires-clause-token : goal.add_burst-found-requires-clause-token
add_burst-found-requires-clause-token g c = record {
  table = still_fits c.requires.token.table c.test_burst-tested.ensures.same;
  names = (let n = c.requires.token.names in
      add_names c.args.words.now.table_id.slots c.args.words.now.key.seats c.args.claimants.now.names.now c.args.claimants.now.items.now n.0 n.2 c.args.token.now.me n.1 c.test_burst-tested.result c.test_burst-tested.new.token.me c.test_burst-tested.ensures.told
      (reading _ _ c.test_burst-tested.result _ _ c.requires.size.0 c.in-Ok.is c.read_upper.ensures));
  phase = (let n = c.requires.token.names in
      add_says c.args.words.now.table_id.slots c.args.words.now.key.seats c.args.claimants.now.names.now c.args.claimants.now.items.now n.0 n.2 c.args.token.now.me n.1 c.test_burst-tested.result c.test_burst-tested.new.token.me c.test_burst-tested.ensures.told
      (reading _ _ c.test_burst-tested.result _ _ c.requires.size.0 c.in-Ok.is c.read_upper.ensures));
}

pub back_over-requires-clause-token : goal.back_over-requires-clause-token
back_over-requires-clause-token g c =
    record {
      table = still_fits c.requires.token.table (c.add_burst-found.ensures.same ∙ c.test_burst-tested.ensures.same);
      names = (let n = c.requires.token.names in
          let size = c.requires.size in (
            n.0,
            names2 c.args.words.now.table_id.slots c.args.words.now.key.seats c.args.claimants.now.names.now c.args.claimants.now.items.now n.0 n.2 c.args.token.now.me n.1 c.test_burst-tested.result c.test_burst-tested.new.token.me c.test_burst-tested.ensures.told
                (reading _ _ c.test_burst-tested.result _ _ c.requires.size.0 c.in-Ok.is c.read_upper.ensures) c.add_burst-found.result c.add_burst-found.new.token.me c.add_burst-found.ensures.told (omega (arith, size.0, size.1)) (reading _ _ c.add_burst-found.result _ _ c.requires.size.0 c.in-Ok-read_upper.is c.read_upper-2.ensures)
                c.min-granted.result (c.min-granted.ensures ∙ (ap (λ (d : ℕ). granted_of c.args.size c.add_burst-found.result d) c.len-count.ensures ∙ ap (λ (s : ℕ). granted_of s c.add_burst-found.result (length c.args.claimants.now.items.now)) size.0)),
            n.2,
          ));
      phase = (let n = c.requires.token.names in
          let size = c.requires.size in
          room_says c.args.words.now.table_id.slots c.args.words.now.key.seats c.args.claimants.now.names.now c.args.claimants.now.items.now n.0 n.2 c.args.token.now.me n.1 c.test_burst-tested.result c.test_burst-tested.new.token.me c.test_burst-tested.ensures.told
          (reading _ _ c.test_burst-tested.result _ _ c.requires.size.0 c.in-Ok.is c.read_upper.ensures) c.add_burst-found.result c.add_burst-found.new.token.me c.add_burst-found.ensures.told (omega (arith, size.0, size.1)) (reading _ _ c.add_burst-found.result _ _ c.requires.size.0 c.in-Ok-read_upper.is c.read_upper-2.ensures)
          c.min-granted.result (c.min-granted.ensures ∙ (ap (λ (d : ℕ). granted_of c.args.size c.add_burst-found.result d) c.len-count.ensures ∙ ap (λ (s : ℕ). granted_of s c.add_burst-found.result (length c.args.claimants.now.items.now)) size.0)));
    }

pub returns-in-Ok-read_upper : goal.returns-in-Ok-read_upper
returns-in-Ok-read_upper g c =
    record {
      same = c.back_over.ensures.told.same ∙ (c.add_burst-found.ensures.same ∙ c.test_burst-tested.ensures.same);
      told = (let n = c.requires.token.names in
          let size = c.requires.size in
          claims_room c.args.words.now.table_id.slots c.args.words.now.key.seats c.args.claimants.now.names.now c.args.claimants.now.items.now n.0 n.2 c.args.token.now.me n.1 c.test_burst-tested.result c.test_burst-tested.new.token.me c.test_burst-tested.ensures.told
          (reading _ _ c.test_burst-tested.result _ _ c.requires.size.0 c.in-Ok.is c.read_upper.ensures) c.add_burst-found.result c.add_burst-found.new.token.me c.add_burst-found.ensures.told (omega (arith, size.0, size.1)) (reading _ _ c.add_burst-found.result _ _ c.requires.size.0 c.in-Ok-read_upper.is c.read_upper-2.ensures)
          c.min-granted.result (c.min-granted.ensures ∙ (ap (λ (d : ℕ). granted_of c.args.size c.add_burst-found.result d) c.len-count.ensures ∙ ap (λ (s : ℕ). granted_of s c.add_burst-found.result (length c.args.claimants.now.items.now)) size.0)) c.requires.some.0 c.back_over.new.token.me c.back_over.ensures.told.told c.back_over.ensures.left (λ e. c.back_over.ensures.none (e ∙ sym c.len-count.ensures)) (λ less. c.back_over.ensures.makes (subst (λ d. c.min-granted.result < d) (sym c.len-count.ensures) less)));
    }

pub back_burst-requires-clause-count : goal.back_burst-requires-clause-count
back_burst-requires-clause-count g c = let n = c.requires.token.names in (c.len-count.ensures ∙ sym (pair_length c.args.claimants.now.names.now c.args.claimants.now.items.now n.2), subst (λ d. d ≤ 1024) (sym c.len-count.ensures) c.requires.some.1)

pub back_burst-requires-clause-token : goal.back_burst-requires-clause-token
back_burst-requires-clause-token g c = record {
  table = still_fits c.requires.token.table (c.add_burst-found.ensures.same ∙ c.test_burst-tested.ensures.same);
  names = (let n = c.requires.token.names in
      let size = c.requires.size in
      back_names c.args.words.now.table_id.slots c.args.words.now.key.seats c.args.claimants.now.names.now c.args.claimants.now.items.now n.0 n.2 c.args.token.now.me n.1 c.test_burst-tested.result c.test_burst-tested.new.token.me c.test_burst-tested.ensures.told
      (reading _ _ c.test_burst-tested.result _ _ c.requires.size.0 c.in-Ok.is c.read_upper.ensures) c.add_burst-found.result c.add_burst-found.new.token.me c.add_burst-found.ensures.told (omega (arith, size.0, size.1)) _ (reading _ _ c.add_burst-found.result _ _ c.requires.size.0 c.in-Err-read_upper.is c.read_upper-2.ensures));
  phase = (let n = c.requires.token.names in
      let size = c.requires.size in
      back_says c.args.words.now.table_id.slots c.args.words.now.key.seats c.args.claimants.now.names.now c.args.claimants.now.items.now n.0 n.2 c.args.token.now.me n.1 c.test_burst-tested.result c.test_burst-tested.new.token.me c.test_burst-tested.ensures.told
      (reading _ _ c.test_burst-tested.result _ _ c.requires.size.0 c.in-Ok.is c.read_upper.ensures) c.add_burst-found.result c.add_burst-found.new.token.me c.add_burst-found.ensures.told (omega (arith, size.0, size.1)) _ (reading _ _ c.add_burst-found.result _ _ c.requires.size.0 c.in-Err-read_upper.is c.read_upper-2.ensures));
}

pub back_burst-requires-clause-then : goal.back_burst-requires-clause-then
back_burst-requires-clause-then g c =
    let n = c.requires.token.names in
    let size = c.requires.size in
    back_then c.args.words.now.table_id.slots c.args.words.now.key.seats c.args.claimants.now.names.now c.args.claimants.now.items.now n.0 n.2 c.args.token.now.me n.1 c.test_burst-tested.result c.test_burst-tested.new.token.me c.test_burst-tested.ensures.told
    (reading _ _ c.test_burst-tested.result _ _ c.requires.size.0 c.in-Ok.is c.read_upper.ensures) c.add_burst-found.result c.add_burst-found.new.token.me c.add_burst-found.ensures.told (omega (arith, size.0, size.1)) _ (reading _ _ c.add_burst-found.result _ _ c.requires.size.0 c.in-Err-read_upper.is c.read_upper-2.ensures)

pub returns-in-Err-read_upper : goal.returns-in-Err-read_upper
returns-in-Err-read_upper g c =
    record {
      same = c.back_burst.ensures.same ∙ (c.add_burst-found.ensures.same ∙ c.test_burst-tested.ensures.same);
      told = (let n = c.requires.token.names in
          let size = c.requires.size in
          refused_at_add c.args.words.now.table_id.slots c.args.words.now.key.seats c.args.claimants.now.names.now c.args.claimants.now.items.now n.0 n.2 c.args.token.now.me n.1 c.test_burst-tested.result c.test_burst-tested.new.token.me c.test_burst-tested.ensures.told
          (reading _ _ c.test_burst-tested.result _ _ c.requires.size.0 c.in-Ok.is c.read_upper.ensures) c.add_burst-found.result c.add_burst-found.new.token.me c.add_burst-found.ensures.told (omega (arith, size.0, size.1)) _ (reading _ _ c.add_burst-found.result _ _ c.requires.size.0 c.in-Err-read_upper.is c.read_upper-2.ensures)
          c.back_burst.new.token.me c.back_burst.ensures.told);
    }
