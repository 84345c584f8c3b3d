-- A hold that is tried until it is granted.
use Rattle.std.proofs.lemmas.List.{append-nil, map-append}
use Rattle.fak_files.proofs.Common.{Access, amount_of, mark, ◌≡◌, ◌⊎◌, ℕ, ◌+◌, ◌<◌, List, [], ◌∷◌, ◌++◌, refl, ap, sym, ◌∙◌, subst, arith, inl, inr, map, ℤ, sum_by, flat_map, All-push, All-nil, sum_by-cons, sum_by-append, flat_map-append, WholeCall, Refused, Withdrawn, kinds_of_call, seat_of, file_rules, SeatInfo, mine_of, Appends, FileKind, Over, Back, No, FileMark, appends_then, FileSeatInfo, one_hold, holds_had, LeavesMarks, amount_for, IsGranted, IsBusy, AreRefused, IsWaitedFor, common_steps}

-- ---- marks of two calls

-- a call followed by one that leaves a mark
leaves_then : (ks : List FileKind) (k : FileKind) (js : List FileKind) (a b c : SeatInfo FileMark) → LeavesMarks ks a b → LeavesMarks (k ∷ js) b c → LeavesMarks (ks ++ k ∷ js) a c
leaves_then ks k js a b c x y =
    let name : b.name ≡ a.name = ap (λ (s : SeatInfo FileMark). s.name) x.same_seat in
    let seats : b.object.seats ≡ a.object.seats = ap (λ (s : SeatInfo FileMark). s.object.seats) x.same_seat in
    let y' : Appends (file_rules a.object.seats) (map (mark a.name) (k ∷ js)) b c = subst (λ (z : ℕ × ℕ). Appends (file_rules z.0) (map (mark z.1) (k ∷ js)) b c) (λ i. (seats i, name i)) y in
    subst (λ (ms : List FileMark). Appends (file_rules a.object.seats) ms a c) (sym (map-append (mark a.name) ks (k ∷ js)))
    (appends_then (file_rules a.object.seats) (map (mark a.name) ks) (mark a.name k) (map (mark a.name) js) a b c x y')

-- the number of holds that a seat has had after a call
holds_leave : (ks : List FileKind) (a b : SeatInfo FileMark) → LeavesMarks ks a b → holds_had b ≡ holds_had a + sum_by one_hold (map (mark a.name) ks)
holds_leave ks a b x = ap (sum_by one_hold) x.mine ∙ sum_by-append one_hold (mine_of seat_of a) (map (mark a.name) ks)

-- ---- a try that is refused

-- a refused call of a seat
pub record IsTry (n : ℕ) (a b : SeatInfo FileMark) : Type 0 where
  pub call : WholeCall
  pub refused : (call ≡ Refused n) ⊎ (call ≡ Withdrawn n)
  pub leaves : LeavesMarks (kinds_of_call call) a b
  pub holds : holds_had b ≡ holds_had a

busy_try : (access : Access) (a b : FileSeatInfo) (answer : ℤ) → IsBusy access a b answer → IsTry (amount_for access a.seat) a.seat b.seat
busy_try access a b answer busy =
    let n = amount_for access a.seat in
    elim busy.leaves [
      | inl x ↦ record {
        call = Refused (amount_for access a.seat);
        refused = inl refl;
        leaves = x;
        holds = omega (arith, holds_leave (No (amount_for access a.seat) ∷ []) a.seat b.seat x, sum_by-cons one_hold (mark a.seat.name (No (amount_for access a.seat))) []);
      }
      | inr x ↦ record {
        call = Withdrawn (amount_for access a.seat);
        refused = inr refl;
        leaves = x;
        holds = omega (arith, holds_leave (Over (amount_for access a.seat) ∷ Back (amount_for access a.seat) ∷ []) a.seat b.seat x, sum_by-cons one_hold (mark a.seat.name (Over (amount_for access a.seat))) (mark a.seat.name (Back (amount_for access a.seat)) ∷ []), sum_by-cons one_hold (mark a.seat.name (Back (amount_for access a.seat))) []);
      }
    ]

-- ---- the tries so far

-- since `old` some tries were refused, and nothing else happened
pub record WasRefused (access : Access) (old now : FileSeatInfo) : Type 0 where
  pub within : holds_had old.seat < old.seat.stint
  pub tries : List WholeCall
  pub refused : AreRefused (amount_for access old.seat) tries
  pub leaves : LeavesMarks (flat_map kinds_of_call tries) old.seat now.seat
  pub holds : holds_had now.seat ≡ holds_had old.seat

-- nothing happened yet, or some tries were refused
abbrev pub IsTrying : Access → FileSeatInfo → FileSeatInfo → Type 0
IsTrying access old now = (now ≡ old) ⊎ WasRefused access old now

module _ (access : Access) (old now next : FileSeatInfo) where
  -- the seat that tries stays the same
  amount_is : WasRefused access old now → amount_for access now.seat ≡ amount_for access old.seat
  amount_is w = ap (λ (s : SeatInfo FileMark). amount_of s.object.seats access) w.leaves.same_seat

  kinds_two : (tries : List WholeCall) (call : WholeCall) → flat_map kinds_of_call tries ++ kinds_of_call call ≡ flat_map kinds_of_call (tries ++ call ∷ [])
  kinds_two tries call = ap (λ l. flat_map kinds_of_call tries ++ l) (sym (append-nil (kinds_of_call call))) ∙ sym (flat_map-append kinds_of_call tries (call ∷ []))

  -- one more try
  pub tries_more : (answer : ℤ) → IsTrying access old now → IsBusy access now next answer → IsTrying access old next
  tries_more answer (inl same) busy = inr (subst (λ (x : FileSeatInfo). WasRefused access x next) same first)
    where
      t : IsTry (amount_for access now.seat) now.seat next.seat
      t = busy_try access now next answer busy

      first : WasRefused access now next
      first = record {
        within = busy.within;
        tries = t.call ∷ [];
        refused = All-push (λ (c : WholeCall). (c ≡ Refused (amount_for access now.seat)) ⊎ (c ≡ Withdrawn (amount_for access now.seat))) [] t.call (All-nil (λ (c : WholeCall). (c ≡ Refused (amount_for access now.seat)) ⊎ (c ≡ Withdrawn (amount_for access now.seat)))) t.refused;
        leaves = subst (λ (ks : List FileKind). LeavesMarks ks now.seat next.seat) (sym (append-nil (kinds_of_call t.call))) t.leaves;
        holds = t.holds;
      }
  tries_more answer (inr w) busy = inr (record {
    within = w.within;
    tries = w.tries ++ t.call ∷ [];
    refused = All-push (λ (c : WholeCall). (c ≡ Refused (amount_for access old.seat)) ⊎ (c ≡ Withdrawn (amount_for access old.seat))) w.tries t.call w.refused
        (subst (λ (n : ℕ). (t.call ≡ Refused n) ⊎ (t.call ≡ Withdrawn n)) (amount_is w) t.refused);
    leaves = subst (λ (ks : List FileKind). LeavesMarks ks old.seat next.seat) (kinds_two w.tries t.call) (joined t.call t.leaves t.refused);
    holds = t.holds ∙ w.holds;
  })
    where
      t : IsTry (amount_for access now.seat) now.seat next.seat
      t = busy_try access now next answer busy

      joined : (call : WholeCall) → LeavesMarks (kinds_of_call call) now.seat next.seat → (call ≡ Refused (amount_for access now.seat)) ⊎ (call ≡ Withdrawn (amount_for access now.seat)) → LeavesMarks (flat_map kinds_of_call w.tries ++ kinds_of_call call) old.seat next.seat
      joined call x u = grind (arith, common_steps, call, kinds_of_call, amount_for, flat_map, leaves_then)

  -- the try that is granted
  pub tries_granted : IsTrying access old now → IsGranted access now next → IsWaitedFor access old next
  tries_granted (inl same) granted = grind (arith, common_steps, amount_for)
  tries_granted (inr w) granted = grind (arith, common_steps, flat_map, kinds_of_call, amount_is, leaves_then, amount_for)
