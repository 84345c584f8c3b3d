use Rattle.std.specs.Prelude.{min}
use Rattle.fak_model.specs.Calls.{object_id}
use Rattle.fak_queue.specs.declared.bundle.BundleState.TheVariants.{Deleting}
use Rattle.fak_queue.specs.declared.fault.DeleteFault.TheVariants.{Empty}
use Rattle.fak_queue.specs.Bundles.{ClaimsOutOn, RefusesOutOn}
use Rattle.fak_queue.specs.BundleCalls.{StandsAs, drawn_by_all}
use Rattle.fak_queue.specs.BurstCalls.{ClaimsBurstOut, RefusesBurstOut}
use Rattle.fak_queue.proofs.BundleCallsOut.{claims_burst_out, claim_tickets, claim_stands}
use Rattle.fak_queue.proofs.BundleRefused.{refused_out_stays, refuses_burst_out}
use Rattle.fak_queue.proofs.BundleObjects.{called, keeps, rests_now, state_now}
use Rattle.fak_queue.proofs.Common.{◌≡◌, ◌∙◌, ℕ, ◌+◌, ◌-◌, length, ap, arith, refl, rules, subst, sym, to_z-of_z, w64}
use mir.Val.{to_z, of_z}
use Rattle.fak_queue.proofs.queue.Queue.claim_delete_burst.Goals as goal

-- how many take part, as the code counts them
counted : (d own n most names left : ℕ) → d ≡ min own most → own ≡ min left n → n ≡ names → d ≡ min most (min names left)
counted d own n most names left a b e = omega (arith, a, b, e)

pub invariant_of-bundle : goal.invariant_of-bundle
invariant_of-bundle g c =
    let o = object_id c.self.inside.table.shared.table_id c.self.inside.table.shared.key.seats in
    let t = subst (λ l. ClaimsOutOn c.self.inside.table.shared.table_id.slots c.self.inside.table.shared.key.seats l c.min-count.result c.in-Ok.ticket c.in-Ok.granted c.bundle.inside.token.me c.admit_burst_out.new.token.me) c.as_slice.ensures.value c.in-Ok.ensures.claims in
    let rests = rests_now c.self.inside.table.shared.key c.bundle.invariant c.self.invariant c.bundle.view_is c.self.view_is c.requires.object c.requires.idle in
    keeps c.self.inside.table.shared.key c.bundle.invariant c.self.invariant c.bundle.view_is c.self.view_is c.requires.object c.admit_burst_out.ensures.told.same (c.bundle.inside.left - c.in-Ok.granted) (Deleting c.in-Ok.ticket 0 c.in-Ok.granted) c.admit_burst_out.new.token.me _ c.bundle.inside.kept.items
    t.stands.all_are (t.left ∙ ap (λ l. l - c.in-Ok.granted) c.bundle.invariant.left_is) (t.slots ∙ c.bundle.invariant.slots) t.lawful refl
    (claim_stands o c.bundle.inside.names.items c.args.most c.min-count.result c.in-Ok.ticket c.in-Ok.granted c.bundle.inside.left c.bundle.inside.token.me c.admit_burst_out.new.token.me t (counted c.min-count.result c.min-own.result c.len.result c.args.most (length c.bundle.inside.names.items) c.bundle.inside.left c.min-count.ensures c.min-own.ensures (c.len.ensures ∙ c.bundle.inside.names.ok.0)) rests)

pub returns-in-Ok-clause-left : goal.returns-in-Ok-clause-left
returns-in-Ok-clause-left g c =
    let o = object_id c.self.inside.table.shared.table_id c.self.inside.table.shared.key.seats in
    let t = subst (λ l. ClaimsOutOn c.self.inside.table.shared.table_id.slots c.self.inside.table.shared.key.seats l c.min-count.result c.in-Ok.ticket c.in-Ok.granted c.bundle.inside.token.me c.admit_burst_out.new.token.me) c.as_slice.ensures.value c.in-Ok.ensures.claims in
    called c.self.inside.table.shared.key c.bundle.invariant c.self.invariant c.bundle.view_is c.self.view_is c.requires.object c.admit_burst_out.ensures.told.same (c.bundle.inside.left - c.in-Ok.granted) (Deleting c.in-Ok.ticket 0 c.in-Ok.granted) c.admit_burst_out.new.token.me
    (λ s old new. drawn_by_all new ≡ drawn_by_all old + c.in-Ok.granted) (claim_tickets o c.bundle.inside.names.items c.args.most c.min-count.result c.in-Ok.ticket c.in-Ok.granted c.bundle.inside.left c.bundle.inside.token.me c.admit_burst_out.new.token.me t (counted c.min-count.result c.min-own.result c.len.result c.args.most (length c.bundle.inside.names.items) c.bundle.inside.left c.min-count.ensures c.min-own.ensures (c.len.ensures ∙ c.bundle.inside.names.ok.0)))

pub returns-in-Ok-clause-call : goal.returns-in-Ok-clause-call
returns-in-Ok-clause-call g c =
    let o = object_id c.self.inside.table.shared.table_id c.self.inside.table.shared.key.seats in
    let t = subst (λ l. ClaimsOutOn c.self.inside.table.shared.table_id.slots c.self.inside.table.shared.key.seats l c.min-count.result c.in-Ok.ticket c.in-Ok.granted c.bundle.inside.token.me c.admit_burst_out.new.token.me) c.as_slice.ensures.value c.in-Ok.ensures.claims in
    called c.self.inside.table.shared.key c.bundle.invariant c.self.invariant c.bundle.view_is c.self.view_is c.requires.object c.admit_burst_out.ensures.told.same (c.bundle.inside.left - c.in-Ok.granted) (Deleting c.in-Ok.ticket 0 c.in-Ok.granted) c.admit_burst_out.new.token.me
    (λ s old new. ClaimsBurstOut s c.args.most c.in-Ok.ticket c.in-Ok.granted old new) (claims_burst_out o c.bundle.inside.names.items c.args.most c.min-count.result c.in-Ok.ticket c.in-Ok.granted c.bundle.inside.left c.bundle.inside.token.me c.admit_burst_out.new.token.me t (counted c.min-count.result c.min-own.result c.len.result c.args.most (length c.bundle.inside.names.items) c.bundle.inside.left c.min-count.ensures c.min-own.ensures (c.len.ensures ∙ c.bundle.inside.names.ok.0)) c.bundle.inside.state)

pub invariant_of-bundle-in-Err : goal.invariant_of-bundle-in-Err
invariant_of-bundle-in-Err g c =
    let o = object_id c.self.inside.table.shared.table_id c.self.inside.table.shared.key.seats in
    let refused = c.in-Err.ensures.refuses in
    let t = subst (λ l. RefusesOutOn c.self.inside.table.shared.table_id.slots c.self.inside.table.shared.key.seats l c.min-count.result c.in-Err.lower c.bundle.inside.token.me c.admit_burst_out.new.token.me) c.as_slice.ensures.value refused in
    let was = state_now c.self.inside.table.shared.key c.bundle.invariant c.self.invariant c.bundle.view_is c.self.view_is c.requires.object in
    let rests = rests_now c.self.inside.table.shared.key c.bundle.invariant c.self.invariant c.bundle.view_is c.self.view_is c.requires.object c.requires.idle in
    let so = refused_out_stays c.self.inside.table.shared.table_id.slots o c.bundle.inside.names.items c.args.most c.min-count.result c.bundle.inside.left c.bundle.inside.token.me c.admit_burst_out.new.token.me rests c.in-Err.lower t in
    keeps c.self.inside.table.shared.key c.bundle.invariant c.self.invariant c.bundle.view_is c.self.view_is c.requires.object c.admit_burst_out.ensures.told.same c.bundle.inside.left c.bundle.inside.state c.admit_burst_out.new.token.me _ c.bundle.inside.kept.items
    (so.names_are ∙ c.bundle.invariant.names_are) (so.left ∙ c.bundle.invariant.left_is) (so.slots ∙ c.bundle.invariant.slots) so.lawful refl
    (subst (λ s. StandsAs s c.bundle.inside.names.items c.bundle.inside.kept.items c.admit_burst_out.new.token.me) (sym c.requires.idle ∙ was) so.rests)

pub returns-in-Err-clause-left : goal.returns-in-Err-clause-left
returns-in-Err-clause-left g c =
    let o = object_id c.self.inside.table.shared.table_id c.self.inside.table.shared.key.seats in
    let refused = c.in-Err.ensures.refuses in
    let t = subst (λ l. RefusesOutOn c.self.inside.table.shared.table_id.slots c.self.inside.table.shared.key.seats l c.min-count.result c.in-Err.lower c.bundle.inside.token.me c.admit_burst_out.new.token.me) c.as_slice.ensures.value refused in
    let rests = rests_now c.self.inside.table.shared.key c.bundle.invariant c.self.invariant c.bundle.view_is c.self.view_is c.requires.object c.requires.idle in
    let so = refused_out_stays c.self.inside.table.shared.table_id.slots o c.bundle.inside.names.items c.args.most c.min-count.result c.bundle.inside.left c.bundle.inside.token.me c.admit_burst_out.new.token.me rests c.in-Err.lower t in
    called c.self.inside.table.shared.key c.bundle.invariant c.self.invariant c.bundle.view_is c.self.view_is c.requires.object c.admit_burst_out.ensures.told.same c.bundle.inside.left c.bundle.inside.state c.admit_burst_out.new.token.me
    (λ s old new. drawn_by_all new ≡ drawn_by_all old) so.tickets

pub returns-in-Err-clause-call : goal.returns-in-Err-clause-call
returns-in-Err-clause-call g c =
    let o = object_id c.self.inside.table.shared.table_id c.self.inside.table.shared.key.seats in
    let refused = c.in-Err.ensures.refuses in
    let t = subst (λ l. RefusesOutOn c.self.inside.table.shared.table_id.slots c.self.inside.table.shared.key.seats l c.min-count.result c.in-Err.lower c.bundle.inside.token.me c.admit_burst_out.new.token.me) c.as_slice.ensures.value refused in
    let rests = rests_now c.self.inside.table.shared.key c.bundle.invariant c.self.invariant c.bundle.view_is c.self.view_is c.requires.object c.requires.idle in
    let some_left = c.if-bundle-eq0.false in
    let back = to_z-of_z {w = w64} {z = c.in-Err.lower} (search rules) in
    called c.self.inside.table.shared.key c.bundle.invariant c.self.invariant c.bundle.view_is c.self.view_is c.requires.object c.admit_burst_out.ensures.told.same c.bundle.inside.left c.bundle.inside.state c.admit_burst_out.new.token.me
    (λ s old new. RefusesBurstOut s c.args.most old new (Empty (to_z w64 (of_z w64 c.in-Err.lower))))
    (let r = refuses_burst_out c.self.inside.table.shared.table_id.slots o c.bundle.inside.names.items c.args.most c.min-count.result c.bundle.inside.left c.bundle.inside.token.me c.admit_burst_out.new.token.me rests c.bundle.inside.state (omega (arith, some_left)) (counted c.min-count.result c.min-own.result c.len.result c.args.most (length c.bundle.inside.names.items) c.bundle.inside.left c.min-count.ensures c.min-own.ensures (c.len.ensures ∙ c.bundle.inside.names.ok.0)) c.in-Err.lower t in (r.0, record { makes = r.1.makes; lower_is = λ n e. back ∙ r.1.lower_is n e }))
