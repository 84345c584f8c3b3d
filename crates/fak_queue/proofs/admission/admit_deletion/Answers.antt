use Rattle.fak_queue.proofs.Common.{◌∙◌, rules, sym, subst, w64, to_z-of_z}
use Rattle.fak_queue.specs.Parts.{RefusedAtTestOut, WithdrawnOut}
use Rattle.fak_queue.proofs.Admissions.{empty_at_test, claimed_out, empty_at_subtraction}
use Rattle.fak_queue.proofs.admission.admit_deletion.Goals as goal

pub returns-in-Err : goal.returns-in-Err
returns-in-Err g c = record {
  same = c.test_low.ensures.same;
  told = λ n one. subst (λ v. RefusedAtTestOut c.args.words.now.table_id.slots c.args.words.now.key.seats n v c.args.token.now.me c.test_low.new.token.me)
      (sym (to_z-of_z {w = w64} (search rules))) (empty_at_test c.args.words.now.table_id.slots c.args.words.now.key.seats n _ c.args.token.now.me c.test_low.new.token.me one c.requires.token.free (c.test_low.ensures.told n one) c.in-Err.lower c.in-Err.is);
}

pub returns-in-Ok-sub_low : goal.returns-in-Ok-sub_low
returns-in-Ok-sub_low g c = record {
  same = c.ticket_out.ensures.same ∙ (c.sub_low.ensures.same ∙ c.test_low.ensures.same);
  told = λ n one.
      claimed_out c.args.words.now.table_id.slots c.args.words.now.key.seats n _ c.args.token.now.me c.test_low.new.token.me one c.requires.token.free (c.test_low.ensures.told n one) c.in-Ok.is _ c.sub_low.new.token.me c.sub_low.ensures.told c.in-Ok-sub_low.is c.ticket_out.ensures.told;
}

pub returns-in-Err-sub_low : goal.returns-in-Err-sub_low
returns-in-Err-sub_low g c = record {
  same = c.back_low.ensures.same ∙ (c.sub_low.ensures.same ∙ c.test_low.ensures.same);
  told = λ n one. subst (λ v. WithdrawnOut c.args.words.now.table_id.slots c.args.words.now.key.seats n v c.args.token.now.me c.back_low.new.token.me)
      (sym (to_z-of_z {w = w64} (search rules))) (empty_at_subtraction c.args.words.now.table_id.slots c.args.words.now.key.seats n _ c.args.token.now.me c.test_low.new.token.me one c.requires.token.free (c.test_low.ensures.told n one) c.in-Ok.is _ c.sub_low.new.token.me c.sub_low.ensures.told c.in-Err-sub_low.lower c.in-Err-sub_low.is c.back_low.ensures.told);
}
