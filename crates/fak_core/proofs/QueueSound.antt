-- The fields of a queue core stay those of a reached state.
use Rattle.fak_core.specs.declared.call.QueueCall.{QueueCall}
use Rattle.fak_core.proofs.Common.{Phase, Idle, QueueMove, ◌≡◌, ℕ, zero, suc, ◌<◌, ◌≤◌, List, [], length, get_or, Option, Some, None, Ok, refl, sym, ap, ◌∙◌, subst, arith, int_lt, mod-lt, slice_get, slice_set, replicate, ints, slice_get_within, get_or_from_slice_get, count, puts, gots, stage, item_of, SeatsBelow, length-set, length-replicate, get_or-set_same, get_or-set_other, Kind, Mark, same_or_not, a_put_bit, putting_below, getting_below, count_few, contents_bounded, upper_range, lower_range, QueueState, move_by, next_move, moved, written, past_after, with_at, with_phase, QueueFields, queue_state, opening_fields, written_fields, moved_fields, or_idle, phase_step, step_of, first_phase, phase_begin, begin_of, IsSound, IsSmall, HasTicketBelow, IsWithin, common_steps, Write}
use Rattle.fak_core.specs.QueueSchedule.{IsReached, opening}
use Rattle.fak_core.proofs.QueueKept.{IsKept, shown}
use Rattle.fak_core.proofs.QueueTurns.{at_same, at_else}
use Rattle.fak_core.proofs.QueueSteps.{by_test}
use Rattle.fak_core.proofs.QueueReached.{kept, makes, inserts, deletes, closes, is_reached}

-- ---- writes

everywhere : {A B : Type 0} (f g : A → B) → ((x : A) → f x ≡ g x) → f ≡ g
everywhere f g p = λ i x. p x i

-- a list with one element written, read as a function
pub written_at : {A : Type 0} (xs : List A) (n : ℕ) (x d : A) → n < length xs → (λ (i : ℕ). get_or (slice_set xs n x) i d) ≡ with_at (λ i. get_or xs i d) n x
written_at xs n x d l = grind (arith, common_steps, everywhere, get_or, slice_set, with_at, same_or_not, get_or-set_same, at_same, get_or-set_other, at_else)

written_is : (f : QueueFields) (w : Write ℕ) → length f.turns ≡ f.size → length f.cells ≡ f.size → IsWithin f.size w → queue_state (written_fields f w) ≡ written (queue_state f) w
written_is f w t d within = grind (arith, common_steps, length, queue_state, written_fields, written, IsWithin, written_at)

size_same : (f : QueueFields) (w : Write ℕ) → (written_fields f w).size ≡ f.size
size_same f w = grind (arith, common_steps, written_fields)

turns_same : (f : QueueFields) (w : Write ℕ) → length (written_fields f w).turns ≡ length f.turns
turns_same f w = grind (arith, common_steps, length, written_fields, length-set)

cells_same : (f : QueueFields) (w : Write ℕ) → length (written_fields f w).cells ≡ length f.cells
cells_same f w = grind (arith, common_steps, length, written_fields, length-set)

-- the fields after a step show the state after it
pub moved_is : (f : QueueFields) (i : ℕ) (m : QueueMove ℕ) → length f.turns ≡ f.size → length f.cells ≡ f.size → i < length f.phases → IsWithin f.size m.write
    → queue_state (moved_fields f i m) ≡ moved (queue_state f) i m
moved_is f i m t d l within = grind (arith, common_steps, get_or, slice_set, past_after, written_is, written, queue_state, written_at)

-- ---- the places that a step writes

abbrev StaysWithin : ℕ → Option (QueueMove ℕ) → Type 0
StaysWithin size None = Unit {0}
StaysWithin size (Some m) = IsWithin size m.write

stays_within : (size : ℕ) (st : QueueState ℕ) (d : Option ℕ) (p : Phase ℕ) → 0 < size → StaysWithin size (move_by size st d p)
stays_within size st d p z = grind (arith, common_steps, move_by, by_test, int_lt, mod-lt)

-- ---- steps

-- the seat has a phase, and takes this step
pub record Makes (f : QueueFields) (i : ℕ) (m : QueueMove ℕ) : Type 0 where
  pub phase : Phase ℕ
  pub at : slice_get f.phases i ≡ Some phase
  pub is : next_move f.size (queue_state f) phase ≡ Some m

made : (o : Option (QueueMove ℕ)) (m : QueueMove ℕ) → or_idle o ≡ Ok m → o ≡ Some m
made o m e = grind (arith, common_steps, or_idle)

made_by : (f : QueueFields) (i : ℕ) (m : QueueMove ℕ) (o : Option (Phase ℕ)) → slice_get f.phases i ≡ o → phase_step f o ≡ Ok m → Makes f i m
made_by f i m o e e' = grind (arith, common_steps, slice_get, phase_step, made, next_move, queue_state)

pub step_made : (f : QueueFields) (i : ℕ) (m : QueueMove ℕ) → step_of f i ≡ Ok m → Makes f i m
step_made f i m e = made_by f i m (slice_get f.phases i) refl e

pub within_of : (f : QueueFields) (i : ℕ) (m : QueueMove ℕ) → IsSound f → Makes f i m → IsWithin f.size m.write
within_of f i m h s = subst (StaysWithin f.size) s.is (stays_within f.size (queue_state f) (item_of f.past f.draws_out) s.phase h.least)

seats_after : (n i : ℕ) (o : Option (Kind ℕ)) (past : List (Mark ℕ)) → i < n → SeatsBelow n past → SeatsBelow n (past_after i o past)
seats_after n i o past l b = grind (arith, common_steps, past_after)

pub moves_on : (f : QueueFields) (i : ℕ) (m : QueueMove ℕ) → IsSound f → step_of f i ≡ Ok m → queue_state (moved_fields f i m) ≡ moved (queue_state f) i m
moves_on f i m h e = grind (arith, common_steps, step_made, moved_is, slice_get_within, within_of)

pub sound_moved : (f : QueueFields) (i : ℕ) (m : QueueMove ℕ) → IsSound f → step_of f i ≡ Ok m → IsSound (moved_fields f i m)
sound_moved f i m h e =
    let s = step_made f i m e in
    let l = slice_get_within f.phases i s.phase s.at in
    let size = size_same f m.write in
    let seats = length-set f.phases i m.phase in
    record {
      reached = subst (λ n. IsReached n (queue_state (moved_fields f i m))) (sym size)
          (subst (IsReached f.size) (sym (moves_on f i m h e)) (makes f.size (queue_state f) h.reached i s.phase m (get_or_from_slice_get f.phases i s.phase Idle s.at) s.is));
      seats = subst (λ n. SeatsBelow n (past_after i m.mark f.past)) (sym seats) (seats_after (length f.phases) i m.mark f.past l h.seats);
      least = omega (arith, size, h.least);
      most = omega (arith, size, h.most);
      few = omega (arith, seats, h.few);
      turns = turns_same f m.write ∙ (h.turns ∙ sym size);
      cells = cells_same f m.write ∙ (h.cells ∙ sym size);
    }

-- ---- begins of calls

begins : (size : ℕ) (st : QueueState ℕ) (i : ℕ) (call : QueueCall) → IsReached size st → st.phase i ≡ Idle → IsReached size (with_phase st i (first_phase call))
begins size st i call r e = grind (arith, common_steps, with_phase, first_phase, IsReached, inserts, deletes, closes)

-- the seat is idle, and this is the first phase of its call
pub record Begins (f : QueueFields) (i : ℕ) (call : QueueCall) (p : Phase ℕ) : Type 0 where
  pub at : slice_get f.phases i ≡ Some Idle
  pub is : p ≡ first_phase call

begun_by : (f : QueueFields) (i : ℕ) (call : QueueCall) (p : Phase ℕ) (o : Option (Phase ℕ)) → slice_get f.phases i ≡ o → phase_begin o call ≡ Ok p → Begins f i call p
begun_by f i call p o f' e = grind (arith, common_steps, slice_get, phase_begin)

pub sound_begun : (f : QueueFields) (i : ℕ) (call : QueueCall) (p : Phase ℕ) → IsSound f → begin_of f i call ≡ Ok p → IsSound (record f { phases = slice_set f.phases i p })
sound_begun f i call p h e =
    let b = begun_by f i call p (slice_get f.phases i) refl e in
    let l = slice_get_within f.phases i Idle b.at in
    let seats = length-set f.phases i p in
    let next = begins f.size (queue_state f) i call h.reached (get_or_from_slice_get f.phases i Idle Idle b.at) in
    let now : queue_state (record f { phases = slice_set f.phases i p }) ≡ with_phase (queue_state f) i (first_phase call) =
    ap (λ (g : ℕ → Phase ℕ). record (queue_state f) { phase = g }) (written_at f.phases i p Idle l) ∙ ap (with_phase (queue_state f) i) b.is in
    record {
      reached = subst (IsReached f.size) (sym now) next;
      seats = subst (λ n. SeatsBelow n f.past) (sym seats) h.seats;
      least = h.least;
      most = h.most;
      few = omega (arith, seats, h.few);
      turns = h.turns;
      cells = h.cells;
    }

-- ---- the opening state

replicate_or : {A : Type 0} (n : ℕ) (a : A) (i : ℕ) → get_or (replicate n a) i a ≡ a
replicate_or zero a i = refl
replicate_or (suc n) a zero = refl
replicate_or (suc n) a (suc i) = replicate_or n a i

pub opening_is : (size seats : ℕ) → queue_state (opening_fields size seats) ≡ opening
opening_is size seats = grind (arith, common_steps, queue_state, opening_fields, everywhere, get_or, replicate, replicate_or)

pub sound_opening : (size seats : ℕ) → 1 ≤ size → size ≤ 4096 → seats ≤ 64 → IsSound (opening_fields size seats)
sound_opening size seats least most few = record {
  reached = subst (IsReached size) (sym (opening_is size seats)) (is_reached size []);
  seats = tt;
  least = least;
  most = most;
  few = let idle : Phase ℕ = Idle in omega (arith, length-replicate seats idle, few);
  turns = length-replicate size 0;
  cells = length-replicate size None;
}

-- ---- ranges

pub sound_kept : (f : QueueFields) → IsSound f → IsKept f.size (queue_state f)
sound_kept f h = kept f.size (queue_state f) h.reached h.least

pub upper_small : (f : QueueFields) → IsSound f → IsSmall f.upper
upper_small f h =
    let K = sound_kept f h in
    let r = upper_range f.size (length f.phases) f.past K.legal h.seats in
    let u = K.upper in
    (omega (arith, ints, u, r.0, r.1, h.most, h.few), omega (arith, ints, u, r.0, r.1, h.most, h.few))

pub lower_small : (f : QueueFields) → IsSound f → IsSmall f.lower
lower_small f h =
    let K = sound_kept f h in
    let r = lower_range f.size (length f.phases) f.past K.legal h.seats in
    let u = K.lower in
    (omega (arith, ints, u, r.0, r.1, h.most, h.few), omega (arith, ints, u, r.0, r.1, h.most, h.few))

-- there are at most as many drawn tickets as marks
pub draws_few : (f : QueueFields) → IsSound f → (f.draws_in ≤ length f.past) × (f.draws_out ≤ length f.past)
draws_few f h =
    let K = sound_kept f h in
    let a = count_few puts a_put_bit f.past in
    let b = contents_bounded f.size f.past K.legal in
    (omega (arith, a, K.draws_in), omega (arith, a, b.0, K.draws_out))

ticket_below : (n : ℕ) (past : List (Mark ℕ)) (s : ℕ) (p : Phase ℕ) → shown p ≡ stage past s → count puts past < n → count gots past < n → HasTicketBelow n p
ticket_below n past s p e a b = grind (arith, common_steps, shown, stage, count, puts, gots, HasTicketBelow, putting_below, getting_below)

pub ticket_few : (f : QueueFields) (i n : ℕ) (p : Phase ℕ) → IsSound f → slice_get f.phases i ≡ Some p → length f.past < n → HasTicketBelow n p
ticket_few f i n p h at few =
    let K = sound_kept f h in
    let a = count_few puts a_put_bit f.past in
    let b = contents_bounded f.size f.past K.legal in
    ticket_below n f.past i p (ap shown (sym (get_or_from_slice_get f.phases i p Idle at)) ∙ K.phases i) (omega (arith, a, few)) (omega (arith, a, b.0, few))
