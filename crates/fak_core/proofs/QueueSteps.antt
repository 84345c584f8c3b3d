-- Each step keeps the invariant.
use Rattle.fak_model.specs.declared.queue.Stage.TheVariants as made
use Rattle.fak_core.proofs.Common.{Phase, Idle, TestUp, AddUp, BackUp, TicketIn, TurnIn, StoreItem, SetFull, EndInsert, TestLow, SubLow, BackLow, TicketOut, TurnOut, LoadItem, SetFree, EndDelete, SetShut, QueueMove, ◌≡◌, ℕ, ◌+◌, ◌*◌, ◌/◌, ◌%◌, ◌<◌, ◌==◌, cond, Bool, List, [], ◌∷◌, Some, refl, sym, ap, ◌∙◌, subst, inl, arith, ℤ, pos, ◌+ℤ◌, ◌-ℤ◌, int_lt, true, false, ints, count, puts, gots, upper_count, lower_count, Has, after, stage, item_of, MayFollow, nat_tests, Kind, ClaimIn, OverIn, BackIn, NoRoom, Put, Fill, EndIn, ClaimOut, OverOut, BackOut, NoItem, Got, Take, EndOut, Close, Closed, LateIn, Mark, Withdrawing, Claimed, Putting, Filled, WithdrawingOut, ClaimedOut, Getting, Taken, item_there, putting_item, QueueState, with_at, with_phase, with_mark, claimed_out_left, moved, ticket_out, common_steps, add-mod_right, add-div_right}
use Rattle.fak_core.proofs.QueueKept.{shown, TakenBefore, IsReady, Turns, IsKept}
use Rattle.fak_core.specs.QueueSchedule.{InCell, QueueEvent, Inserts, Deletes, Shuts, Advances, opening, move_from, begun, happens, run}
use Rattle.fak_core.proofs.QueueTurns.{at_here, by_place, turns_plain, turns_fill, turns_take, cells_plain, cells_fill, cells_store}
use Rattle.fak_core.proofs.QueueOwners.{filling, emptying, alone, ready_store, shuts_plain, kept_goes, kept_marks}

pub by_test : {B : Type 0} (P : B → Type 0) (b : Bool) (x y : B) → (b ≡ true → P x) → (b ≡ false → P y) → P (cond b x y)
by_test P b x y f g = grind (arith, common_steps)

-- a step whose mark changes only counts
pub kept_counts : {A : Type 0} (size : ℕ) (st : QueueState A) (s : ℕ) (p : Phase A) (κ : Kind A) (U L : ℤ) → IsKept size st
    → MayFollow size st.past s κ → shown p ≡ after st.past κ
    → IsReady size ((record { seat = s; kind = κ }) ∷ st.past) st.cell p
    → U ≡ upper_count ((record { seat = s; kind = κ }) ∷ st.past) → L ≡ lower_count ((record { seat = s; kind = κ }) ∷ st.past)
    → puts κ ≡ 0 → gots κ ≡ 0 → ((k : ℕ) → κ ≡ Fill k → ⊥) → ((k : ℕ) → κ ≡ Take k → ⊥) → (κ ≡ Close → ⊥)
    → IsKept size (record (with_mark st s p κ) { upper = U; lower = L })
kept_counts {A} size st s p κ U L K may e r u l i d nf nt nc =
    let m : Mark A = record { seat = s; kind = κ } in let a = K.draws_in in let b = K.draws_out in
    kept_marks size st s p κ U L st.draws_in st.draws_out st.turn st.shut K may e r u l (omega arith) (omega arith)
    (turns_plain size m st.past st.turn nf nt K.turns) (cells_plain size m st.past st.cell K.legal nf K.cells) (shuts_plain m st.past st.shut nc K.closed)

-- a seat that finds its turn may fill or take
pub found_fill : {A : Type 0} (size : ℕ) (h : List (Mark A)) (turn : ℕ → ℕ) (k : ℕ) → 0 < size → Turns size h turn → turn (k % size) ≡ 2 * (k / size) → TakenBefore size h k
found_fill size h turn k z ts e j is = grind (arith, common_steps, add-mod_right, add-div_right)

pub found_take : {A : Type 0} (size : ℕ) (h : List (Mark A)) (turn : ℕ → ℕ) (k : ℕ) → Turns size h turn → turn (k % size) ≡ 2 * (k / size) + 1 → Has (Fill k) h
found_take size h turn k ts e = ts.up_filled k (omega arith)

-- the store of an item
kept_store : {A : Type 0} (size : ℕ) (st : QueueState A) (s k : ℕ) (x : A) → 0 < size → IsKept size st → st.phase s ≡ StoreItem k x
    → IsKept size (record (with_phase st s (SetFull k x)) { cell = with_at st.cell (k % size) (Some x) })
kept_store size st s k x z K e =
    let at : stage st.past s ≡ Putting k x = sym (K.phases s) ∙ ap shown e in
    let before : TakenBefore size st.past k = subst (IsReady size st.past st.cell) e (K.ready s) in
    let inside : InCell size (st.phase s) (k % size) = subst (λ q. InCell size q (k % size)) (sym e) refl in
    record {
      legal = K.legal;
      upper = K.upper;
      lower = K.lower;
      draws_in = K.draws_in;
      draws_out = K.draws_out;
      phases = λ t. by_place (λ q. shown q ≡ stage st.past t) st.phase s t (SetFull k x) (λ q. sym at ∙ ap (stage st.past) (sym q)) (λ n. K.phases t);
      ready = λ t. by_place (IsReady size st.past (with_at st.cell (k % size) (Some x))) st.phase s t (SetFull k x)
          (λ q. (before, at_here st.cell (k % size) (Some x)))
          (λ n. ready_store size st.past st.cell (k % size) (Some x) (st.phase t) (K.ready t) (λ i. n (alone size st t s (k % size) z K i inside)));
      turns = K.turns;
      cells = cells_store size k x st.past st.turn st.cell K.turns (filling size st s k x z K at before) K.cells;
      closed = K.closed;
    }

kept_draw : {A : Type 0} (size : ℕ) (st : QueueState A) (s : ℕ) (x : A) → IsKept size st → stage st.past s ≡ ClaimedOut → item_of st.past (count gots st.past) ≡ Some x
    → IsKept size (moved st s (ticket_out st.draws_out (Some x)))
kept_draw {A} size st s x K at it =
    let m : Mark A = record { seat = s; kind = Got x } in let u = K.upper in let l = K.lower in let a = K.draws_in in let b = K.draws_out in
    kept_marks size st s (TurnOut st.draws_out) (Got x) st.upper st.lower st.draws_in (st.draws_out + 1) st.turn st.shut K
    (record { next = at; fair = tt; oldest = it; cell = tt }) (ap (λ n. Getting n) K.draws_out) tt (omega (arith, ints)) (omega (arith, ints)) (omega arith) (omega arith)
    (turns_plain size m st.past st.turn (λ k q. cc) (λ k q. cc) K.turns) (cells_plain size m st.past st.cell K.legal (λ k q. cc) K.cells) (shuts_plain m st.past st.shut (λ q. cc) K.closed)

pub kept_move : {A : Type 0} (size : ℕ) (st : QueueState A) (s : ℕ) (p : Phase A) → 0 < size → IsKept size st → st.phase s ≡ p → IsKept size (move_from size st s p)
kept_move size st s Idle z K e = K
kept_move {A} size st s (TestUp x) z K e =
    let at : stage st.past s ≡ made.Idle = sym (K.phases s) ∙ ap shown e in let u = K.upper in let l = K.lower in
    by_test (λ (m : QueueMove A). IsKept size (moved st s m)) st.shut _ _
    (λ b. kept_counts size st s Idle Closed st.upper st.lower K (record { next = at; fair = K.closed.0 b; oldest = tt; cell = tt }) refl tt (omega (arith, ints)) (omega (arith, ints)) refl refl (λ k q. cc) (λ k q. cc) (λ q. cc))
    (λ o. by_test (λ (m : QueueMove A). IsKept size (moved st s m)) (int_lt st.upper (pos size)) _ _
    (λ b. kept_goes size st s (AddUp x) K (sym at) tt)
    (λ b. kept_counts size st s Idle NoRoom st.upper st.lower K (record { next = at; fair = (grind (arith, ints), K.closed.1 o); oldest = tt; cell = tt }) refl tt (omega (arith, ints)) (omega (arith, ints)) refl refl (λ k q. cc) (λ k q. cc) (λ q. cc)))
kept_move {A} size st s (AddUp x) z K e =
    let at : stage st.past s ≡ made.Idle = sym (K.phases s) ∙ ap shown e in let u = K.upper in let l = K.lower in
    by_test (λ (m : QueueMove A). IsKept size (moved st s m)) st.shut _ _
    (λ b. kept_counts size st s (BackUp x) LateIn (st.upper +ℤ pos 1) st.lower K (record { next = at; fair = K.closed.0 b; oldest = tt; cell = tt }) refl tt (omega (arith, ints)) (omega (arith, ints)) refl refl (λ k q. cc) (λ k q. cc) (λ q. cc))
    (λ o. by_test (λ (m : QueueMove A). IsKept size (moved st s m)) (int_lt st.upper (pos size)) _ _
    (λ b. kept_counts size st s (TicketIn x) ClaimIn (st.upper +ℤ pos 1) st.lower K (record { next = at; fair = (grind (arith, ints), K.closed.1 o); oldest = tt; cell = tt }) refl tt (omega (arith, ints)) (omega (arith, ints)) refl refl (λ k q. cc) (λ k q. cc) (λ q. cc))
    (λ b. kept_counts size st s (BackUp x) OverIn (st.upper +ℤ pos 1) st.lower K (record { next = at; fair = (grind (arith, ints), K.closed.1 o); oldest = tt; cell = tt }) refl tt (omega (arith, ints)) (omega (arith, ints)) refl refl (λ k q. cc) (λ k q. cc) (λ q. cc)))
kept_move size st s (BackUp x) z K e =
    let at : stage st.past s ≡ Withdrawing = sym (K.phases s) ∙ ap shown e in let u = K.upper in let l = K.lower in
    kept_counts size st s Idle BackIn (st.upper -ℤ pos 1) st.lower K (record { next = at; fair = tt; oldest = tt; cell = tt }) refl tt (omega (arith, ints)) (omega (arith, ints)) refl refl (λ k q. cc) (λ k q. cc) (λ q. cc)
kept_move {A} size st s (TicketIn x) z K e =
    let at : stage st.past s ≡ Claimed = sym (K.phases s) ∙ ap shown e in
    let m : Mark A = record { seat = s; kind = Put x } in let u = K.upper in let l = K.lower in let a = K.draws_in in let b = K.draws_out in
    kept_marks size st s (TurnIn st.draws_in x) (Put x) st.upper st.lower (st.draws_in + 1) st.draws_out st.turn st.shut K
    (record { next = at; fair = tt; oldest = tt; cell = tt }) (ap (λ n. Putting n x) K.draws_in) tt (omega (arith, ints)) (omega (arith, ints)) (omega arith) (omega arith)
    (turns_plain size m st.past st.turn (λ k q. cc) (λ k q. cc) K.turns) (cells_plain size m st.past st.cell K.legal (λ k q. cc) K.cells) (shuts_plain m st.past st.shut (λ q. cc) K.closed)
kept_move {A} size st s (TurnIn k x) z K e =
    let at : stage st.past s ≡ Putting k x = sym (K.phases s) ∙ ap shown e in
    by_test (λ (m : QueueMove A). IsKept size (moved st s m)) (st.turn (k % size) == 2 * (k / size)) _ _
    (λ b. kept_goes size st s (StoreItem k x) K (sym at) (found_fill size st.past st.turn k z K.turns (grind (arith, nat_tests))))
    (λ b. kept_goes size st s (TurnIn k x) K (sym at) tt)
kept_move size st s (StoreItem k x) z K e = kept_store size st s k x z K e
kept_move {A} size st s (SetFull k x) z K e =
    let at : stage st.past s ≡ Putting k x = sym (K.phases s) ∙ ap shown e in
    let r : IsReady size st.past st.cell (SetFull k x) = subst (IsReady size st.past st.cell) e (K.ready s) in
    let m : Mark A = record { seat = s; kind = Fill k } in let u = K.upper in let l = K.lower in let a = K.draws_in in let b = K.draws_out in
    kept_marks size st s (EndInsert k) (Fill k) st.upper st.lower st.draws_in st.draws_out (with_at st.turn (k % size) (2 * (k / size) + 1)) st.shut K
    (record { next = (x, at); fair = tt; oldest = tt; cell = r.0 }) refl tt (omega (arith, ints)) (omega (arith, ints)) (omega arith) (omega arith)
    (turns_fill size m k st.past st.turn refl (filling size st s k x z K at r.0) K.turns)
    (cells_fill size m k x st.past st.cell K.legal refl (putting_item st.past s k x at) r.1 K.cells) (shuts_plain m st.past st.shut (λ q. cc) K.closed)
kept_move size st s (EndInsert k) z K e =
    let at : stage st.past s ≡ Filled k = sym (K.phases s) ∙ ap shown e in let u = K.upper in let l = K.lower in
    kept_counts size st s Idle EndIn st.upper (st.lower +ℤ pos 1) K (record { next = (k, at); fair = tt; oldest = tt; cell = tt }) refl tt (omega (arith, ints)) (omega (arith, ints)) refl refl (λ k q. cc) (λ k q. cc) (λ q. cc)
kept_move {A} size st s TestLow z K e =
    let at : stage st.past s ≡ made.Idle = sym (K.phases s) ∙ ap shown e in let u = K.upper in let l = K.lower in
    by_test (λ (m : QueueMove A). IsKept size (moved st s m)) (int_lt (pos 0) st.lower) _ _
    (λ b. kept_goes size st s SubLow K (sym at) tt)
    (λ b. kept_counts size st s Idle NoItem st.upper st.lower K (record { next = at; fair = grind (arith, ints); oldest = tt; cell = tt }) refl tt (omega (arith, ints)) (omega (arith, ints)) refl refl (λ k q. cc) (λ k q. cc) (λ q. cc))
kept_move {A} size st s SubLow z K e =
    let at : stage st.past s ≡ made.Idle = sym (K.phases s) ∙ ap shown e in let u = K.upper in let l = K.lower in
    by_test (λ (m : QueueMove A). IsKept size (moved st s m)) (int_lt (pos 0) st.lower) _ _
    (λ b. kept_counts size st s TicketOut ClaimOut st.upper (st.lower -ℤ pos 1) K (record { next = at; fair = grind (arith, ints); oldest = tt; cell = tt }) refl tt (omega (arith, ints)) (omega (arith, ints)) refl refl (λ k q. cc) (λ k q. cc) (λ q. cc))
    (λ b. kept_counts size st s BackLow OverOut st.upper (st.lower -ℤ pos 1) K (record { next = at; fair = grind (arith, ints); oldest = tt; cell = tt }) refl tt (omega (arith, ints)) (omega (arith, ints)) refl refl (λ k q. cc) (λ k q. cc) (λ q. cc))
kept_move size st s BackLow z K e =
    let at : stage st.past s ≡ WithdrawingOut = sym (K.phases s) ∙ ap shown e in let u = K.upper in let l = K.lower in
    kept_counts size st s Idle BackOut st.upper (st.lower +ℤ pos 1) K (record { next = at; fair = tt; oldest = tt; cell = tt }) refl tt (omega (arith, ints)) (omega (arith, ints)) refl refl (λ k q. cc) (λ k q. cc) (λ q. cc)
kept_move {A} size st s TicketOut z K e =
    let at : stage st.past s ≡ ClaimedOut = sym (K.phases s) ∙ ap shown e in
    let it = item_there st.past (count gots st.past) (claimed_out_left size st.past K.legal s at) in
    let found : item_of st.past st.draws_out ≡ Some it.0 = ap (item_of st.past) K.draws_out ∙ it.1 in
    subst (λ o. IsKept size (moved st s (ticket_out st.draws_out o))) (sym found) (kept_draw size st s it.0 K at it.1)
kept_move {A} size st s (TurnOut k) z K e =
    let at : stage st.past s ≡ Getting k = sym (K.phases s) ∙ ap shown e in
    by_test (λ (m : QueueMove A). IsKept size (moved st s m)) (st.turn (k % size) == 2 * (k / size) + 1) _ _
    (λ b. kept_goes size st s (LoadItem k) K (sym at) (found_take size st.past st.turn k K.turns (grind (arith, nat_tests))))
    (λ b. kept_goes size st s (TurnOut k) K (sym at) tt)
kept_move size st s (LoadItem k) z K e = kept_goes size st s (SetFree k) K (ap shown (sym e) ∙ K.phases s) (subst (IsReady size st.past st.cell) e (K.ready s))
kept_move {A} size st s (SetFree k) z K e =
    let at : stage st.past s ≡ Getting k = sym (K.phases s) ∙ ap shown e in
    let r : Has (Fill k) st.past = subst (IsReady size st.past st.cell) e (K.ready s) in
    let m : Mark A = record { seat = s; kind = Take k } in let u = K.upper in let l = K.lower in let a = K.draws_in in let b = K.draws_out in
    kept_marks size st s (EndDelete k) (Take k) st.upper st.lower st.draws_in st.draws_out (with_at st.turn (k % size) (2 * (k / size) + 2)) st.shut K
    (record { next = at; fair = tt; oldest = tt; cell = r }) refl tt (omega (arith, ints)) (omega (arith, ints)) (omega arith) (omega arith)
    (turns_take size m k st.past st.turn refl (emptying size st s k K at r) K.turns)
    (cells_plain size m st.past st.cell K.legal (λ k q. cc) K.cells) (shuts_plain m st.past st.shut (λ q. cc) K.closed)
kept_move size st s (EndDelete k) z K e =
    let at : stage st.past s ≡ Taken k = sym (K.phases s) ∙ ap shown e in let u = K.upper in let l = K.lower in
    kept_counts size st s Idle EndOut (st.upper -ℤ pos 1) st.lower K (record { next = (k, at); fair = tt; oldest = tt; cell = tt }) refl tt (omega (arith, ints)) (omega (arith, ints)) refl refl (λ k q. cc) (λ k q. cc) (λ q. cc)
kept_move {A} size st s SetShut z K e =
    let at : stage st.past s ≡ made.Idle = sym (K.phases s) ∙ ap shown e in
    let m : Mark A = record { seat = s; kind = Close } in let u = K.upper in let l = K.lower in let a = K.draws_in in let b = K.draws_out in
    kept_marks size st s Idle Close st.upper st.lower st.draws_in st.draws_out st.turn true K
    (record { next = at; fair = tt; oldest = tt; cell = tt }) refl tt (omega (arith, ints)) (omega (arith, ints)) (omega arith) (omega arith)
    (turns_plain size m st.past st.turn (λ k q. cc) (λ k q. cc) K.turns) (cells_plain size m st.past st.cell K.legal (λ k q. cc) K.cells) ((λ _. inl refl), λ e. cc)

-- ---- every schedule

pub kept_opening : {A : Type 0} (size : ℕ) → 0 < size → IsKept {A = A} size opening
kept_opening size z = grind (arith, common_steps)

kept_begun : {A : Type 0} (size : ℕ) (st : QueueState A) (s : ℕ) (p q : Phase A) → IsKept size st → shown p ≡ made.Idle → IsReady size st.past st.cell p → st.phase s ≡ q → IsKept size (begun st s p q)
kept_begun size st s p Idle K i r e = kept_goes size st s p K (i ∙ (sym (ap shown e) ∙ K.phases s)) r
kept_begun size st s p _ K i r e = K

pub kept_event : {A : Type 0} (size : ℕ) (st : QueueState A) (e : QueueEvent A) → 0 < size → IsKept size st → IsKept size (happens size st e)
kept_event size st (Inserts s x) z K = kept_begun size st s (TestUp x) (st.phase s) K refl tt refl
kept_event size st (Deletes s) z K = kept_begun size st s TestLow (st.phase s) K refl tt refl
kept_event size st (Shuts s) z K = kept_begun size st s SetShut (st.phase s) K refl tt refl
kept_event size st (Advances s) z K = kept_move size st s (st.phase s) z K refl

pub kept_run : {A : Type 0} (size : ℕ) (es : List (QueueEvent A)) (st : QueueState A) → 0 < size → IsKept size st → IsKept size (run size es st)
kept_run size [] st z K = K
kept_run size (e ∷ es) st z K = kept_run size es (happens size st e) z (kept_event size st e z K)
