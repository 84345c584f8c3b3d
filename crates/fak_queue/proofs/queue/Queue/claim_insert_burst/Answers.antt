use Rattle.std.specs.Prelude.{min, take}
use Rattle.std.proofs.lemmas.List.{length-take-le}
use Rattle.fak_model.specs.Calls.{object_id}
use Rattle.fak_queue.specs.declared.bundle.BundleState.TheVariants.{Inserting}
use Rattle.fak_queue.specs.Bundles.{ClaimsOn, RefusesOn}
use Rattle.fak_queue.specs.BundleCalls.{StandsAs, AreInserting, drawn_by_all}
use Rattle.fak_queue.specs.BurstCalls.{ClaimsBurst, RefusesBurst}
use Rattle.fak_queue.proofs.BundleCalls.{claims_burst, claim_tickets, claim_stands}
use Rattle.fak_queue.proofs.BundleRefused.{refused_stays, refuses_burst}
use Rattle.fak_queue.proofs.BundleSums.{claim_puts, refused_puts}
use Rattle.fak_queue.proofs.BundleObjects.{called, keeps, rests_now, state_now}
use Rattle.fak_queue.proofs.Common.{◌≡◌, ◌∙◌, ℕ, ◌+◌, ◌-◌, ◌≤◌, List, ◌++◌, length, ap, arith, refl, subst, sym}
use Rattle.fak_queue.proofs.queue.Queue.claim_insert_burst.Goals as goal

-- how many take part, as the code counts them
counted : (d most n own xs names left : ℕ) → d ≡ min most n → most ≡ min left own → n ≡ xs → own ≡ names → d ≡ min xs (min names left)
counted d most n own xs names left a b e f = omega (arith, a, b, e, f)

short : (d xs names left : ℕ) → d ≡ min xs (min names left) → d ≤ xs
short d xs names left e = omega (arith, e)

pub invariant_of-bundle : goal.invariant_of-bundle
invariant_of-bundle g c =
    let o = object_id c.self.inside.table.shared.table_id c.self.inside.table.shared.key.seats in
    let t = subst (λ (z : List ℕ × List _). ClaimsOn c.self.inside.table.shared.table_id.slots c.self.inside.table.shared.key.seats z.0 z.1 c.in-Ok.ticket c.in-Ok.granted c.bundle.inside.token.me c.admit_burst.new.token.me) (λ i. (c.as_slice.ensures.value i, c.of-first.ensures i)) c.in-Ok.ensures.claims in
    let rests = rests_now c.self.inside.table.shared.key c.bundle.invariant c.self.invariant c.bundle.view_is c.self.view_is c.requires.object c.requires.idle in
    let kept = c.keep.ensures.kept ∙ ap (λ l. l ++ take c.in-Ok.granted c.args.items.now.items) rests.none in
    keeps c.self.inside.table.shared.key c.bundle.invariant c.self.invariant c.bundle.view_is c.self.view_is c.requires.object c.admit_burst.ensures.told.same (c.bundle.inside.left - c.in-Ok.granted) (Inserting c.in-Ok.ticket 0 c.in-Ok.granted) c.admit_burst.new.token.me _ c.keep.new.kept.items
    t.stands.all_are (t.left ∙ ap (λ l. l - c.in-Ok.granted) c.bundle.invariant.left_is) (t.slots ∙ c.bundle.invariant.slots) t.lawful c.keep.ensures.capacity
    (subst (λ l. AreInserting c.bundle.inside.names.items c.in-Ok.ticket 0 c.in-Ok.granted l c.admit_burst.new.token.me) (sym kept) (claim_stands o c.bundle.inside.names.items c.args.items.now.items c.min-count.result c.in-Ok.ticket c.in-Ok.granted c.bundle.inside.left c.bundle.inside.token.me c.admit_burst.new.token.me t (counted c.min-count.result c.min-most.result c.len-2.result c.len.result (length c.args.items.now.items) (length c.bundle.inside.names.items) c.bundle.inside.left c.min-count.ensures c.min-most.ensures (c.len-2.ensures ∙ c.args.items.now.ok.0) (c.len.ensures ∙ c.bundle.inside.names.ok.0)) rests))

pub returns-in-Ok-clause-left : goal.returns-in-Ok-clause-left
returns-in-Ok-clause-left g c =
    let o = object_id c.self.inside.table.shared.table_id c.self.inside.table.shared.key.seats in
    let t = subst (λ (z : List ℕ × List _). ClaimsOn c.self.inside.table.shared.table_id.slots c.self.inside.table.shared.key.seats z.0 z.1 c.in-Ok.ticket c.in-Ok.granted c.bundle.inside.token.me c.admit_burst.new.token.me) (λ i. (c.as_slice.ensures.value i, c.of-first.ensures i)) c.in-Ok.ensures.claims in
    called c.self.inside.table.shared.key c.bundle.invariant c.self.invariant c.bundle.view_is c.self.view_is c.requires.object c.admit_burst.ensures.told.same (c.bundle.inside.left - c.in-Ok.granted) (Inserting c.in-Ok.ticket 0 c.in-Ok.granted) c.admit_burst.new.token.me
    (λ s old new. drawn_by_all new ≡ drawn_by_all old + c.in-Ok.granted) (claim_tickets o c.bundle.inside.names.items c.args.items.now.items c.min-count.result c.in-Ok.ticket c.in-Ok.granted c.bundle.inside.left c.bundle.inside.token.me c.admit_burst.new.token.me t (counted c.min-count.result c.min-most.result c.len-2.result c.len.result (length c.args.items.now.items) (length c.bundle.inside.names.items) c.bundle.inside.left c.min-count.ensures c.min-most.ensures (c.len-2.ensures ∙ c.args.items.now.ok.0) (c.len.ensures ∙ c.bundle.inside.names.ok.0)))

pub returns-in-Ok-clause-call : goal.returns-in-Ok-clause-call
returns-in-Ok-clause-call g c =
    let o = object_id c.self.inside.table.shared.table_id c.self.inside.table.shared.key.seats in
    let t = subst (λ (z : List ℕ × List _). ClaimsOn c.self.inside.table.shared.table_id.slots c.self.inside.table.shared.key.seats z.0 z.1 c.in-Ok.ticket c.in-Ok.granted c.bundle.inside.token.me c.admit_burst.new.token.me) (λ i. (c.as_slice.ensures.value i, c.of-first.ensures i)) c.in-Ok.ensures.claims in
    called c.self.inside.table.shared.key c.bundle.invariant c.self.invariant c.bundle.view_is c.self.view_is c.requires.object c.admit_burst.ensures.told.same (c.bundle.inside.left - c.in-Ok.granted) (Inserting c.in-Ok.ticket 0 c.in-Ok.granted) c.admit_burst.new.token.me
    (λ s old new. ClaimsBurst s c.args.items.now.items c.in-Ok.ticket c.in-Ok.granted old new) (claims_burst o c.bundle.inside.names.items c.args.items.now.items c.min-count.result c.in-Ok.ticket c.in-Ok.granted c.bundle.inside.left c.bundle.inside.token.me c.admit_burst.new.token.me t (counted c.min-count.result c.min-most.result c.len-2.result c.len.result (length c.args.items.now.items) (length c.bundle.inside.names.items) c.bundle.inside.left c.min-count.ensures c.min-most.ensures (c.len-2.ensures ∙ c.args.items.now.ok.0) (c.len.ensures ∙ c.bundle.inside.names.ok.0)) c.bundle.inside.state)

pub invariant_of-bundle-in-Err : goal.invariant_of-bundle-in-Err
invariant_of-bundle-in-Err g c =
    let o = object_id c.self.inside.table.shared.table_id c.self.inside.table.shared.key.seats in
    let d_is = counted c.min-count.result c.min-most.result c.len-2.result c.len.result (length c.args.items.now.items) (length c.bundle.inside.names.items) c.bundle.inside.left c.min-count.ensures c.min-most.ensures (c.len-2.ensures ∙ c.args.items.now.ok.0) (c.len.ensures ∙ c.bundle.inside.names.ok.0) in
    let many = ap length c.of-first.ensures ∙ length-take-le c.min-count.result c.args.items.now.items (short _ _ _ _ d_is) in
    let t = subst (λ (z : List ℕ × ℕ). RefusesOn c.self.inside.table.shared.table_id.slots c.self.inside.table.shared.key.seats z.0 z.1 c.in-Err.reason c.bundle.inside.token.me c.admit_burst.new.token.me) (λ i. (c.as_slice.ensures.value i, many i)) c.in-Err.ensures.refuses in
    let was = state_now c.self.inside.table.shared.key c.bundle.invariant c.self.invariant c.bundle.view_is c.self.view_is c.requires.object in
    let rests = rests_now c.self.inside.table.shared.key c.bundle.invariant c.self.invariant c.bundle.view_is c.self.view_is c.requires.object c.requires.idle in
    let so = refused_stays c.self.inside.table.shared.table_id.slots o c.bundle.inside.names.items (length c.args.items.now.items) c.min-count.result c.bundle.inside.left c.bundle.inside.token.me c.admit_burst.new.token.me rests c.in-Err.reason t in
    keeps c.self.inside.table.shared.key c.bundle.invariant c.self.invariant c.bundle.view_is c.self.view_is c.requires.object c.admit_burst.ensures.told.same c.bundle.inside.left c.bundle.inside.state c.admit_burst.new.token.me _ c.bundle.inside.kept.items
    (so.names_are ∙ c.bundle.invariant.names_are) (so.left ∙ c.bundle.invariant.left_is) (so.slots ∙ c.bundle.invariant.slots) so.lawful refl
    (subst (λ s. StandsAs s c.bundle.inside.names.items c.bundle.inside.kept.items c.admit_burst.new.token.me) (sym c.requires.idle ∙ was) so.rests)

pub returns-in-Err-clause-left : goal.returns-in-Err-clause-left
returns-in-Err-clause-left g c =
    let o = object_id c.self.inside.table.shared.table_id c.self.inside.table.shared.key.seats in
    let d_is = counted c.min-count.result c.min-most.result c.len-2.result c.len.result (length c.args.items.now.items) (length c.bundle.inside.names.items) c.bundle.inside.left c.min-count.ensures c.min-most.ensures (c.len-2.ensures ∙ c.args.items.now.ok.0) (c.len.ensures ∙ c.bundle.inside.names.ok.0) in
    let many = ap length c.of-first.ensures ∙ length-take-le c.min-count.result c.args.items.now.items (short _ _ _ _ d_is) in
    let t = subst (λ (z : List ℕ × ℕ). RefusesOn c.self.inside.table.shared.table_id.slots c.self.inside.table.shared.key.seats z.0 z.1 c.in-Err.reason c.bundle.inside.token.me c.admit_burst.new.token.me) (λ i. (c.as_slice.ensures.value i, many i)) c.in-Err.ensures.refuses in
    let rests = rests_now c.self.inside.table.shared.key c.bundle.invariant c.self.invariant c.bundle.view_is c.self.view_is c.requires.object c.requires.idle in
    let so = refused_stays c.self.inside.table.shared.table_id.slots o c.bundle.inside.names.items (length c.args.items.now.items) c.min-count.result c.bundle.inside.left c.bundle.inside.token.me c.admit_burst.new.token.me rests c.in-Err.reason t in
    called c.self.inside.table.shared.key c.bundle.invariant c.self.invariant c.bundle.view_is c.self.view_is c.requires.object c.admit_burst.ensures.told.same c.bundle.inside.left c.bundle.inside.state c.admit_burst.new.token.me
    (λ s old new. drawn_by_all new ≡ drawn_by_all old) so.tickets

pub returns-in-Err-clause-call : goal.returns-in-Err-clause-call
returns-in-Err-clause-call g c =
    let o = object_id c.self.inside.table.shared.table_id c.self.inside.table.shared.key.seats in
    let d_is = counted c.min-count.result c.min-most.result c.len-2.result c.len.result (length c.args.items.now.items) (length c.bundle.inside.names.items) c.bundle.inside.left c.min-count.ensures c.min-most.ensures (c.len-2.ensures ∙ c.args.items.now.ok.0) (c.len.ensures ∙ c.bundle.inside.names.ok.0) in
    let many = ap length c.of-first.ensures ∙ length-take-le c.min-count.result c.args.items.now.items (short _ _ _ _ d_is) in
    let t = subst (λ (z : List ℕ × ℕ). RefusesOn c.self.inside.table.shared.table_id.slots c.self.inside.table.shared.key.seats z.0 z.1 c.in-Err.reason c.bundle.inside.token.me c.admit_burst.new.token.me) (λ i. (c.as_slice.ensures.value i, many i)) c.in-Err.ensures.refuses in
    let rests = rests_now c.self.inside.table.shared.key c.bundle.invariant c.self.invariant c.bundle.view_is c.self.view_is c.requires.object c.requires.idle in
    let some_left = c.if-bundle-eq0.false in
    called c.self.inside.table.shared.key c.bundle.invariant c.self.invariant c.bundle.view_is c.self.view_is c.requires.object c.admit_burst.ensures.told.same c.bundle.inside.left c.bundle.inside.state c.admit_burst.new.token.me
    (λ s old new. RefusesBurst s (length c.args.items.now.items) old new c.refuse_burst.result)
    (refuses_burst c.self.inside.table.shared.table_id.slots o c.bundle.inside.names.items (length c.args.items.now.items) c.min-count.result c.bundle.inside.left c.bundle.inside.token.me c.admit_burst.new.token.me rests c.bundle.inside.state (omega (arith, some_left)) d_is c.in-Err.reason t c.refuse_burst.result c.refuse_burst.ensures)

pub returns-in-Ok-clause-sums : goal.returns-in-Ok-clause-sums
returns-in-Ok-clause-sums g c = claim_puts _ _ _ _ _ _ (returns-in-Ok-clause-call g c) c.keep.ensures.items

pub returns-in-Err-clause-sums : goal.returns-in-Err-clause-sums
returns-in-Err-clause-sums g c = refused_puts c.args.self.now.size (length c.args.items.now.items) _ _ c.refuse_burst.result _ _ (returns-in-Err-clause-call g c) refl
