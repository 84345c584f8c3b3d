use Rattle.fak_files.proofs.Common.{entries_after, entry_of, ◌≡◌, ℕ, slice_get, Some, ap, ◌∙◌, sym, subst, AreNamed, IsAtRest, file_rules, AreBetweenCalls, IsWhole, rest_whole}
use Rattle.fak_files.proofs.Closing.{closed_entries, entries_after-get}
use Rattle.fak_files.proofs.table.FileTable.close.Goals as goal

pub returns-clause-entries : goal.returns-clause-entries
returns-clause-entries c =
    let table = c.self.inside.table.shared.key in
    let me = c.tally.inside.token.me in
    let object = ap (λ t. t.object) c.tally.view_is ∙ (c.requires.object ∙ sym (ap (λ t. t.object) c.self.view_is)) in
    let seats = ap (λ o. o.seats) object in
    let whole = subst (λ (k : ℕ). IsWhole k me.0.names) seats (subst (λ t. IsWhole t.object.seats t.names) (sym c.tally.view_is) c.requires.whole) in
    let final = c.close_with-closed.ensures.values.2 in
    let taken = closed_entries table final.0 c.tally.inside.token.id me final.1.0 final.1.1 whole _ final.2 c.self.inside.entries c.self.invariant.0 c.entries_of-entries.result c.entries_of-entries.ensures in
    taken ∙ (λ i. entries_after ((ap (λ t. t.seen) c.tally.view_is) i) 0 ((ap (λ t. t.entries) c.self.view_is) i))

pub returns-clause-each : goal.returns-clause-each
returns-clause-each c = λ i low. subst (λ l. slice_get l i ≡ Some (entry_of c.args.tally.seen i)) (sym (returns-clause-entries c)) (entries_after-get c.args.tally.seen c.args.self.entries i low)

pub returns-clause-rest : goal.returns-clause-rest
returns-clause-rest c =
    let named = subst (λ t. AreNamed (file_rules t.object.seats) t.object.seats t.seen) c.tally.view_is c.tally.invariant.0.named in
    let rest = subst (λ t. AreBetweenCalls (file_rules t.object.seats) t.names t.seen) c.tally.view_is c.tally.invariant.2.rest in
    subst (λ o. IsAtRest (file_rules o.seats) c.args.tally.seen) c.requires.object (rest_whole (file_rules c.args.tally.object.seats) c.args.tally.object.seats c.args.tally.names c.args.tally.seen named rest c.requires.whole)
