-- What the calls of a queue core know from its fields, and from the values that they read.
use Rattle.std.proofs.lemmas.List.{append-nil, reverse-reverse}
use Rattle.fak_core.specs.declared.line.CoreMove.{CoreMove}
use Rattle.fak_core.specs.declared.line.CoreMove.TheVariants as step
use Rattle.fak_core.specs.declared.line.Line.{Line}
use Rattle.fak_core.proofs.Common.{Phase, Idle, TestUp, AddUp, BackUp, TicketIn, TurnIn, StoreItem, SetFull, EndInsert, TestLow, SubLow, BackLow, TicketOut, TurnOut, LoadItem, SetFree, EndDelete, SetShut, QueueMove, subst, ◌≡◌, ◌%◌, int_lt, ◌<◌, ◌++◌, ◌∙◌, ℕ, zero, suc, List, [], ◌∷◌, length, get_or, reverse, Option, Some, None, Ok, refl, ap, sym, slice_get, slice_set, get_or_from_slice_get, slice_get_read, item_at, item_in, items_put, item_of, Kind, Mark, QueueState, load_item, move_by, next_move, past_after, common_steps, arith, reverse_cons, item_same, items_push, Write}
use Rattle.fak_core.specs.declared.queue.step.Found.TheVariants.{Item}
use Rattle.fak_core.specs.QueueFields.{QueueFields, queue_state, history_of, written_fields, moved_fields, item_left, or_idle, phase_step, step_of, line_of, number_found, IsSound, IsSoundWith, IsStep, LoadsPut}
use Rattle.fak_core.proofs.QueueSteps.{by_test}
use Rattle.fak_core.proofs.QueueLoads.{loads_own}
use Rattle.fak_core.proofs.QueueSound.{moves_on, sound_kept, sound_moved, step_made}

-- ---- what the code reads

item_at_is : (xs : List ℕ) (k : ℕ) → slice_get xs k ≡ item_at xs k
item_at_is [] k = refl
item_at_is (x ∷ xs) zero = refl
item_at_is (x ∷ xs) (suc k) = item_at_is xs k

-- the list of the items put has the item of the next deletion's ticket
pub drawn_is : (f : QueueFields) (items : List ℕ) → IsSoundWith f items → slice_get items f.draws_out ≡ item_of f.past f.draws_out
drawn_is f items h = grind (arith, common_steps, slice_get, item_at_is, items_put, history_of, item_same, item_of, reverse-reverse)

-- a step depends only on the words and on its own seat
words_tell : (f : QueueFields) (d : Option ℕ) (p : Phase ℕ) → move_by f.size (queue_state (record f { phases = []; past = [] })) d p ≡ move_by f.size (queue_state f) d p
words_tell f d p = grind (arith, common_steps, move_by, queue_state)

-- the step that the code computes
pub step_found : (f : QueueFields) (items : List ℕ) (i : ℕ) (p : Phase ℕ) (d : Option ℕ) (o : Option (QueueMove ℕ)) → IsSoundWith f items → i < length f.phases → p ≡ get_or f.phases i p
    → d ≡ slice_get items f.draws_out → o ≡ move_by f.size (queue_state (record f { phases = []; past = [] })) d p → step_of f i ≡ or_idle o
step_found f items i p d o h within at drawn is = grind (arith, common_steps, phase_step, slice_get_read, or_idle, move_by, queue_state, drawn_is, words_tell)

-- ---- what the code writes

put_left : (s : ℕ) (o : Option (Kind ℕ)) (past : List (Mark ℕ)) → items_put (reverse (past_after s o past)) ≡ items_put (reverse past) ++ item_left o
put_left s o past = grind (arith, common_steps, items_put, reverse, past_after, item_left, append-nil, reverse_cons, items_push, item_in)

-- a write changes no phase and no mark
written_same : (f : QueueFields) (w : Write ℕ) (phases : List (Phase ℕ)) (past : List (Mark ℕ))
    → record (written_fields (record f { phases = []; past = [] }) w) { phases = phases; past = past } ≡ record (written_fields f w) { phases = phases; past = past }
written_same f w phases past = grind (arith, common_steps, written_fields)

-- the fields after the code has written
pub step_left : (f w : QueueFields) (i : ℕ) (m : QueueMove ℕ) (past : List (Mark ℕ)) → w ≡ written_fields (record f { phases = []; past = [] }) m.write → past ≡ past_after i m.mark f.past
    → record w { phases = slice_set f.phases i m.phase; past = past } ≡ moved_fields f i m
step_left f w i m past is more = grind (arith, common_steps, slice_set, written_same, written_fields)

pub step_sound : (f : QueueFields) (items items' : List ℕ) (i : ℕ) (m : QueueMove ℕ) → IsSoundWith f items → step_of f i ≡ Ok m → items' ≡ items ++ item_left m.mark → IsSoundWith (moved_fields f i m) items'
step_sound f items items' i m h e is = record {
  sound = sound_moved f i m h.sound e;
  put = is ∙ (ap (λ l. l ++ item_left m.mark) h.put ∙ sym (put_left i m.mark f.past));
}

pub step_is : (f : QueueFields) (i : ℕ) (m : QueueMove ℕ) (line : Line) → IsSound f → step_of f i ≡ Ok m → line ≡ line_of i m → IsStep f i line (moved_fields f i m)
step_is f i m line h e says = record { step = m; is = e; says = says; leaves = refl; state = moves_on f i m h e }

-- ---- what a deletion loads

-- the name of the step that a seat in this phase takes
abbrev name_of : Phase ℕ → CoreMove
name_of Idle = step.TestUp
name_of (TestUp x) = step.TestUp
name_of (AddUp x) = step.AddUp
name_of (BackUp x) = step.BackUp
name_of (TicketIn x) = step.TicketIn
name_of (TurnIn k x) = step.TurnIn
name_of (StoreItem k x) = step.StoreItem
name_of (SetFull k x) = step.SetFull
name_of (EndInsert k) = step.EndIn
name_of TestLow = step.TestLow
name_of SubLow = step.SubLow
name_of BackLow = step.BackLow
name_of TicketOut = step.TicketOut
name_of (TurnOut k) = step.TurnOut
name_of (LoadItem k) = step.LoadItem
name_of (SetFree k) = step.SetFree
name_of (EndDelete k) = step.EndOut
name_of SetShut = step.Shut

abbrev HasName : Option (QueueMove ℕ) → CoreMove → Type 0
HasName None n = Unit {0}
HasName (Some m) n = m.step ≡ n

named : (size : ℕ) (st : QueueState ℕ) (d : Option ℕ) (p : Phase ℕ) → HasName (move_by size st d p) (name_of p)
named size st d p = grind (arith, common_steps, move_by, name_of, HasName, by_test, int_lt)

at_load : (p : Phase ℕ) → name_of p ≡ step.LoadItem → (k : ℕ) × (p ≡ LoadItem k)
at_load p e = grind (arith, common_steps, name_of)

-- the line of a load has the item that was put under the seat's ticket
pub load_is : (f : QueueFields) (i : ℕ) (m : QueueMove ℕ) (line : Line) → IsSound f → step_of f i ≡ Ok m → line ≡ line_of i m → line.step ≡ step.LoadItem → LoadsPut f i line.found
load_is f i m line h e says loads =
    let s = step_made f i m e in
    let st : QueueState ℕ = queue_state f in
    let name : m.step ≡ name_of s.phase = subst (λ o. HasName o (name_of s.phase)) s.is (named f.size st (item_of f.past f.draws_out) s.phase) in
    let at = at_load s.phase (sym name ∙ (ap (λ (l : Line). l.step) (sym says) ∙ loads)) in
    let phase : st.phase i ≡ LoadItem at.0 = get_or_from_slice_get f.phases i s.phase Idle s.at ∙ at.1 in
    let own = loads_own f.size st i at.0 (sound_kept f h) phase in
    let move : Some (load_item (st.cell (at.0 % f.size)) at.0) ≡ Some m = ap (next_move f.size st) (sym at.1) ∙ s.is in
    let found : m.found ≡ Item (Some own.item) = cc (move, own.loaded) in
    record {
      item = own.item;
      ticket = at.0;
      drew = own.ticket;
      put = own.put;
      loaded = ap (λ (l : Line). l.found) says ∙ ap number_found found;
    }
