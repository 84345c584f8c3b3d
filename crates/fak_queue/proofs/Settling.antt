-- What a load tells a token whose names all rest, and what a join of two such tokens does.
use Rattle.fak_model.proofs.QueueStages.{stage_else}
use Rattle.fak_model.proofs.RunningJoins.{joins_both}
use Rattle.fak_model.specs.Calls.{object_id}
use Rattle.fak_model.specs.Tokens.{IsTallyToken}
use Rattle.fak_model.specs.Views.{Foreign, joined, settled}
use Rattle.fak_core.specs.declared.queue.phase.Phase.TheVariants as phase
use Rattle.fak_queue.specs.Bundling.{Settles, Rests, JoinsTo, StaysAtRest}
use Rattle.fak_queue.proofs.Common.{Alike, QueueLimits, QueueHolder, QueueView, queue_object, IsShownQueue, seat_of, ◌≡◌, ℕ, ◌≤◌, ◌^◌, List, [], ◌∷◌, ◌++◌, refl, sym, ap, ◌∙◌, subst, arith, Some, Allows, carried_after, hears, IsKept, kept, shown, stage, total_at, In, Mark}
use Rattle.fak_queue.proofs.Stepping.{queue_law}

-- marks of others leave the stage of a name
stage_foreign : {T : Type 0} (names : List ℕ) (between seen : List (Mark T)) (n : ℕ) → In n names → Foreign seat_of names between → stage (between ++ seen) n ≡ stage seen n
stage_foreign names [] seen n i f = refl
stage_foreign names (m ∷ between) seen n i f = stage_else m (between ++ seen) n (λ e. f.0 (subst (λ (k : ℕ). In k names) e i)) ∙ stage_foreign names between seen n i f.1

pub settles_allowed : {T : Type 0} (key : QueueLimits) (slots seats id : ℕ) (m : QueueHolder T) → key.seats ≡ seats → m.0.phase ≡ Some (Alike phase.Idle) → Allows (IsShownQueue key) slots id m 16 (λ w. w) (λ _ after. Settles slots seats m after)
settles_allowed {T} key slots seats id m few rests s r wide at small =
    let size : key.size ≡ slots = sym r.encoded.wide ∙ wide in
    let q = hears (queue_object key.size key.seats) (queue_law key.size key.seats r.encoded.some_cell) slots id m 16 s r wide at small in
    let K : IsKept key.size r.core = kept key.size r.core r.reached.reached r.encoded.some_cell in
    let seen = r.sees id m.0 at in
    let told : Settles key.size key.seats m (q.0, carried_after m.1 q.1) = record {
      heard = q.4;
      apart = r.once id m.0 at;
      below = r.below id m.0 at;
      idle = λ n i. sym (stage_foreign m.0.names seen.between m.0.seen n i seen.foreign) ∙ (sym (ap (λ h. stage h n) seen.is) ∙ (sym (K.phases n) ∙ ap shown (r.stands id m.0 at n i (Alike phase.Idle) rests)));
      few = omega (arith, total_at (λ (v : QueueView T). v.left) s.views id m.0 at, r.few);
    } in
    (q.0, q.1, q.2, q.3, subst (λ (z : ℕ × ℕ). Settles z.0 z.1 m (q.0, carried_after m.1 q.1)) (λ j. (size j, few j)) told)

-- after such a load the token rests, and knows it
pub stays_at_rest : {T : Type 0} {size seats : ℕ} {m after : QueueHolder T} → seats ≤ 1024 → m.0.phase ≡ Some (Alike phase.Idle) → m.1 ≡ [] → Settles size seats m after → StaysAtRest size seats m after
stays_at_rest {T} {size} {seats} {m} {after} few rests slots told =
    let now : QueueHolder T = (settled m.0, m.1) in
    let there : Rests size seats m.0.names m.0.left now = record {
      token = record {
        me_is = λ i. (record { names = m.0.names; seen = m.0.seen; phase = rests i; left = m.0.left; told = []; told_names = []; noted = m.0.noted }, slots i);
        few = few;
        named = told.heard.named;
      };
      names_are = refl;
      left_is = refl;
      apart = told.apart;
      below = told.below;
      idle = told.idle;
      lawful = told.heard.lawful;
    } in
    record {
      rests = subst (Rests size seats m.0.names m.0.left) (sym told.heard.after_is) there;
      seen = ap (λ (x : QueueHolder T). x.0.seen) told.heard.after_is;
    }

-- a join, and such a load after it
pub joins_to : {T : Type 0} {size seats : ℕ} {v w u after : QueueHolder T} → IsTallyToken seat_of seats (Alike phase.Idle) v → u ≡ (joined v.0 w.0, v.1) → Settles size seats u after → JoinsTo size seats v w after
joins_to {T} {size} {seats} {v} {w} {u} {after} token is told =
    let rests : u.0.phase ≡ Some (Alike phase.Idle) = ap (λ (x : QueueHolder T). x.0.phase) is ∙ ap (λ (x : QueueHolder T). x.0.phase) token.me_is in
    let slots : u.1 ≡ [] = ap (λ (x : QueueHolder T). x.1) is ∙ ap (λ (x : QueueHolder T). x.1) token.me_is in
    let stays = stays_at_rest token.few rests slots told in
    record {
      rests = subst (λ (x : QueueHolder T). Rests size seats x.0.names x.0.left after) is stays.rests;
      few = subst (λ (x : QueueHolder T). x.0.left ≤ 2 ^ 50) is told.few;
      joined = λ table. joins_both {o = queue_object size seats} w token is told.heard (object_id table seats) refl;
    }
