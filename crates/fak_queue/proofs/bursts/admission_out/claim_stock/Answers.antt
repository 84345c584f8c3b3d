use Rattle.fak_queue.proofs.StepTokens.{still_fits}
use Rattle.fak_queue.proofs.Common.{◌≡◌, ℕ, ◌≤◌, ◌<◌, rules, to_z-of_z, w64, ◌∙◌, length, sym, ap, subst, arith, LowerCount, IsLowerCount}
use Rattle.fak_queue.specs.Bursts.{RefusedOutBurst, granted_low, units}
use Rattle.fak_queue.proofs.BurstNames.{pair_length, units_length}
use Rattle.fak_queue.proofs.BurstClaimsOut.{test_names, test_rest, refused_at_test, add_names, add_says, back_names, back_says, back_then, refused_at_add, stock_says, names2, claims_stock}
use Rattle.fak_queue.proofs.bursts.admission_out.claim_stock.Goals as goal

-- what a word says
reading : (f : ℕ) (r s : LowerCount) → r ≡ s → IsLowerCount f r → IsLowerCount f s
reading f r s is told = subst (IsLowerCount f) is told

-- a count within the names is that of the things they have
fits : (count n : ℕ) → count ≤ n → length (units count) ≤ n
fits count n few = let l = units_length count in omega (arith, l, few)

some_units : (count : ℕ) → 0 < count → 0 < length (units count)
some_units count some = let l = units_length count in omega (arith, l, some)

pub test_low_burst-tested-requires-clause-token : goal.test_low_burst-tested-requires-clause-token
test_low_burst-tested-requires-clause-token g c = let t = (let n = c.requires.token.names in test_names c.args.words.now.table_id.slots c.args.words.now.key.seats c.args.names.now (units c.args.count) n.0 (fits _ _ n.2) c.args.token.now.me n.1) in record { table = c.requires.token.table; names = (t.0, t.1, t.2); phase = c.requires.token.phase }

pub test_low_burst-tested-requires-clause-all : goal.test_low_burst-tested-requires-clause-all
test_low_burst-tested-requires-clause-all g c = (let n = c.requires.token.names in test_names c.args.words.now.table_id.slots c.args.words.now.key.seats c.args.names.now (units c.args.count) n.0 (fits _ _ n.2) c.args.token.now.me n.1).3

pub test_low_burst-tested-requires-clause-idle : goal.test_low_burst-tested-requires-clause-idle
test_low_burst-tested-requires-clause-idle g c = let n = c.requires.token.names in test_rest c.args.words.now.table_id.slots c.args.words.now.key.seats c.args.names.now (units c.args.count) n.0 (fits _ _ n.2) c.args.token.now.me n.1

pub returns-in-Err : goal.returns-in-Err
returns-in-Err g c =
    record {
      same = c.test_low_burst-tested.ensures.same;
      told = (let n = c.requires.token.names in
          subst (λ v. RefusedOutBurst c.args.words.now.table_id.slots c.args.words.now.key.seats c.args.names.now (units c.args.count) v c.args.token.now.me c.test_low_burst-tested.new.token.me) (sym (to_z-of_z {w = w64} (search rules)))
          (refused_at_test c.args.words.now.table_id.slots c.args.words.now.key.seats c.args.names.now (units c.args.count) n.0 (fits _ _ n.2) c.args.token.now.me n.1 c.test_low_burst-tested.result c.test_low_burst-tested.new.token.me c.test_low_burst-tested.ensures.told
          c.in-Err.lower (reading c.test_low_burst-tested.result _ _ c.in-Err.is c.read_lower.ensures)));
    }

pub sub_burst-found-requires-clause-count : goal.sub_burst-found-requires-clause-count
sub_burst-found-requires-clause-count g c = let n = c.requires.token.names in (sym (pair_length c.args.names.now (units c.args.count) (fits _ _ n.2) ∙ units_length c.args.count), c.requires.some.1)

pub sub_burst-found-requires-clause-token : goal.sub_burst-found-requires-clause-token
sub_burst-found-requires-clause-token g c = record {
  table = still_fits c.requires.token.table c.test_low_burst-tested.ensures.same;
  names = (let n = c.requires.token.names in
      add_names c.args.words.now.table_id.slots c.args.words.now.key.seats c.args.names.now (units c.args.count) n.0 (fits _ _ n.2) c.args.token.now.me n.1 c.test_low_burst-tested.result c.test_low_burst-tested.new.token.me c.test_low_burst-tested.ensures.told
      (reading c.test_low_burst-tested.result _ _ c.in-Ok.is c.read_lower.ensures));
  phase = (let n = c.requires.token.names in
      add_says c.args.words.now.table_id.slots c.args.words.now.key.seats c.args.names.now (units c.args.count) n.0 (fits _ _ n.2) c.args.token.now.me n.1 c.test_low_burst-tested.result c.test_low_burst-tested.new.token.me c.test_low_burst-tested.ensures.told
      (reading c.test_low_burst-tested.result _ _ c.in-Ok.is c.read_lower.ensures));
}

pub back_over_low-requires-clause-token : goal.back_over_low-requires-clause-token
back_over_low-requires-clause-token g c =
    record {
      table = still_fits c.requires.token.table (c.sub_burst-found.ensures.same ∙ c.test_low_burst-tested.ensures.same);
      names = (let n = c.requires.token.names in (
        n.0,
        names2 c.args.words.now.table_id.slots c.args.words.now.key.seats c.args.names.now (units c.args.count) n.0 (fits _ _ n.2) c.args.token.now.me n.1 c.test_low_burst-tested.result c.test_low_burst-tested.new.token.me c.test_low_burst-tested.ensures.told
            (reading c.test_low_burst-tested.result _ _ c.in-Ok.is c.read_lower.ensures) c.sub_burst-found.result c.sub_burst-found.new.token.me c.sub_burst-found.ensures.told (reading c.sub_burst-found.result _ _ c.in-Ok-read_lower.is c.read_lower-2.ensures)
            c.min-granted.result (c.min-granted.ensures ∙ ap (λ (d : ℕ). granted_low c.sub_burst-found.result d) (sym (units_length c.args.count))),
        n.2,
      ));
      phase = (let n = c.requires.token.names in
          stock_says c.args.words.now.table_id.slots c.args.words.now.key.seats c.args.names.now (units c.args.count) n.0 (fits _ _ n.2) c.args.token.now.me n.1 c.test_low_burst-tested.result c.test_low_burst-tested.new.token.me c.test_low_burst-tested.ensures.told
          (reading c.test_low_burst-tested.result _ _ c.in-Ok.is c.read_lower.ensures) c.sub_burst-found.result c.sub_burst-found.new.token.me c.sub_burst-found.ensures.told (reading c.sub_burst-found.result _ _ c.in-Ok-read_lower.is c.read_lower-2.ensures)
          c.min-granted.result (c.min-granted.ensures ∙ ap (λ (d : ℕ). granted_low c.sub_burst-found.result d) (sym (units_length c.args.count))));
    }

pub returns-in-Ok-read_lower : goal.returns-in-Ok-read_lower
returns-in-Ok-read_lower g c =
    record {
      same = c.back_over_low.ensures.told.same ∙ (c.sub_burst-found.ensures.same ∙ c.test_low_burst-tested.ensures.same);
      told = (let n = c.requires.token.names in
          claims_stock c.args.words.now.table_id.slots c.args.words.now.key.seats c.args.names.now (units c.args.count) n.0 (fits _ _ n.2) c.args.token.now.me n.1 c.test_low_burst-tested.result c.test_low_burst-tested.new.token.me c.test_low_burst-tested.ensures.told
          (reading c.test_low_burst-tested.result _ _ c.in-Ok.is c.read_lower.ensures) c.sub_burst-found.result c.sub_burst-found.new.token.me c.sub_burst-found.ensures.told (reading c.sub_burst-found.result _ _ c.in-Ok-read_lower.is c.read_lower-2.ensures)
          c.min-granted.result (c.min-granted.ensures ∙ ap (λ (d : ℕ). granted_low c.sub_burst-found.result d) (sym (units_length c.args.count))) (some_units _ c.requires.some.0) c.back_over_low.new.token.me c.back_over_low.ensures.told.told c.back_over_low.ensures.left (λ e. c.back_over_low.ensures.none (e ∙ units_length c.args.count)) (λ less. c.back_over_low.ensures.makes (let l = units_length c.args.count in omega (arith, l, less))));
    }

pub back_low_burst-requires-clause-count : goal.back_low_burst-requires-clause-count
back_low_burst-requires-clause-count g c = let n = c.requires.token.names in (sym (pair_length c.args.names.now (units c.args.count) (fits _ _ n.2) ∙ units_length c.args.count), c.requires.some.1)

pub back_low_burst-requires-clause-token : goal.back_low_burst-requires-clause-token
back_low_burst-requires-clause-token g c = record {
  table = still_fits c.requires.token.table (c.sub_burst-found.ensures.same ∙ c.test_low_burst-tested.ensures.same);
  names = (let n = c.requires.token.names in
      back_names c.args.words.now.table_id.slots c.args.words.now.key.seats c.args.names.now (units c.args.count) n.0 (fits _ _ n.2) c.args.token.now.me n.1 c.test_low_burst-tested.result c.test_low_burst-tested.new.token.me c.test_low_burst-tested.ensures.told
      (reading c.test_low_burst-tested.result _ _ c.in-Ok.is c.read_lower.ensures) c.sub_burst-found.result c.sub_burst-found.new.token.me c.sub_burst-found.ensures.told c.in-Err-read_lower.lower (reading c.sub_burst-found.result _ _ c.in-Err-read_lower.is c.read_lower-2.ensures));
  phase = (let n = c.requires.token.names in
      back_says c.args.words.now.table_id.slots c.args.words.now.key.seats c.args.names.now (units c.args.count) n.0 (fits _ _ n.2) c.args.token.now.me n.1 c.test_low_burst-tested.result c.test_low_burst-tested.new.token.me c.test_low_burst-tested.ensures.told
      (reading c.test_low_burst-tested.result _ _ c.in-Ok.is c.read_lower.ensures) c.sub_burst-found.result c.sub_burst-found.new.token.me c.sub_burst-found.ensures.told c.in-Err-read_lower.lower (reading c.sub_burst-found.result _ _ c.in-Err-read_lower.is c.read_lower-2.ensures));
}

pub back_low_burst-requires-clause-then : goal.back_low_burst-requires-clause-then
back_low_burst-requires-clause-then g c =
    let n = c.requires.token.names in
    back_then c.args.words.now.table_id.slots c.args.words.now.key.seats c.args.names.now (units c.args.count) n.0 (fits _ _ n.2) c.args.token.now.me n.1 c.test_low_burst-tested.result c.test_low_burst-tested.new.token.me c.test_low_burst-tested.ensures.told
    (reading c.test_low_burst-tested.result _ _ c.in-Ok.is c.read_lower.ensures) c.sub_burst-found.result c.sub_burst-found.new.token.me c.sub_burst-found.ensures.told c.in-Err-read_lower.lower (reading c.sub_burst-found.result _ _ c.in-Err-read_lower.is c.read_lower-2.ensures)

pub returns-in-Err-read_lower : goal.returns-in-Err-read_lower
returns-in-Err-read_lower g c =
    record {
      same = c.back_low_burst.ensures.same ∙ (c.sub_burst-found.ensures.same ∙ c.test_low_burst-tested.ensures.same);
      told = (let n = c.requires.token.names in
          subst (λ v. RefusedOutBurst c.args.words.now.table_id.slots c.args.words.now.key.seats c.args.names.now (units c.args.count) v c.args.token.now.me c.back_low_burst.new.token.me) (sym (to_z-of_z {w = w64} (search rules)))
          (refused_at_add c.args.words.now.table_id.slots c.args.words.now.key.seats c.args.names.now (units c.args.count) n.0 (fits _ _ n.2) c.args.token.now.me n.1 c.test_low_burst-tested.result c.test_low_burst-tested.new.token.me c.test_low_burst-tested.ensures.told
          (reading c.test_low_burst-tested.result _ _ c.in-Ok.is c.read_lower.ensures) c.sub_burst-found.result c.sub_burst-found.new.token.me c.sub_burst-found.ensures.told c.in-Err-read_lower.lower (reading c.sub_burst-found.result _ _ c.in-Err-read_lower.is c.read_lower-2.ensures)
          c.back_low_burst.new.token.me c.back_low_burst.ensures.told));
    }
