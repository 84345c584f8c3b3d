-- Seats of all semaphores are joined.
use Rattle.fak_kernel.proofs.Common.{JoinedTo, ids_of, ids_of_seats, JoinEach, ids_of_tallies, no_seat, no_tally, ◌≡◌, ℕ, zero, suc, ◌+◌, ◌<◌, ◌∙◌, drop, List, [], ◌∷◌, length, get_or, refl, ap, sym, subst, arith, map, SemInfo, SemSeatInfo, SemTallyInfo, JoinsSeat, sem_tally_of, Process}
use Rattle.fak_processor.proofs.Dealing.{drop_at}
use Rattle.fak_kernel.proofs.Naming.{first_joined, next_joined}

pub join_none : (os : List SemInfo) (ts : List (SemTallyInfo Process)) (ss : List (SemSeatInfo Process)) → os ≡ [] → ids_of_tallies ts ≡ ids_of os → ids_of_seats ss ≡ ids_of os → JoinEach os ts ss []
join_none [] [] [] e a b = tt
join_none [] (t ∷ ts) ss e a b = absurd (cc)
join_none [] [] (s ∷ ss) e a b = absurd (cc)
join_none (o ∷ os) ts ss e a b = absurd (cc)

-- what is left when a seat of one more semaphore was joined, and what joins that semaphore and the rest
pub join_next : (i : ℕ) (os : List SemInfo) {o : SemInfo} {ts ts' : List (SemTallyInfo Process)} {ss ss' : List (SemSeatInfo Process)} {t : SemTallyInfo Process} {s : SemSeatInfo Process} {b : SemTallyInfo Process}
    → o ≡ get_or os i o → i < length os → ts ≡ t ∷ ts' → ss ≡ s ∷ ss' → ids_of_tallies ts ≡ ids_of (drop i os) → ids_of_seats ss ≡ ids_of (drop i os) → JoinsSeat o.size t s b → b.object ≡ o.object
    → (ids_of_tallies ts' ≡ ids_of (drop (i + 1) os)) × (ids_of_seats ss' ≡ ids_of (drop (i + 1) os))
    × ((more : List (SemTallyInfo Process)) → JoinEach (drop (i + 1) os) ts' ss' more → JoinEach (drop i os) ts ss (b ∷ more))
join_next i os {o} {ts} {ts'} {ss} {ss'} {t} {s} {b} o_is below ts_is ss_is tallies seats joins same =
    let os_is : drop i os ≡ o ∷ drop (i + 1) os = drop_at i os o below ∙ ap (λ (x : SemInfo). x ∷ drop (i + 1) os) (sym o_is) in
    let tallies_are : t.object ∷ ids_of_tallies ts' ≡ o.object ∷ ids_of (drop (i + 1) os) = rw (os_is, ts_is) at tallies in
    let seats_are : s.object ∷ ids_of_seats ss' ≡ o.object ∷ ids_of (drop (i + 1) os) = rw (os_is, ss_is) at seats in
    (cc, cc, λ more rest. rw (os_is, ts_is, ss_is) (joins, same, rest))

-- ---- what is joined

pub ids_first : (seats : List (SemSeatInfo Process)) → ids_of_tallies (map sem_tally_of seats) ≡ ids_of_seats seats
ids_first [] = refl
ids_first (s ∷ seats) = ap (λ l. s.object ∷ l) (ids_first seats)

pub first_at : (seats : List (SemSeatInfo Process)) (s : ℕ) → get_or (map sem_tally_of seats) s no_tally ≡ sem_tally_of (get_or seats s no_seat)
first_at [] s = refl
first_at (x ∷ seats) zero = refl
first_at (x ∷ seats) (suc s) = first_at seats s

pub first_names : (seats : List (SemSeatInfo Process)) → ((k : ℕ) (d : SemSeatInfo Process) → k < length seats → (get_or seats k d).name ≡ 0) → (k : ℕ) (d : SemTallyInfo Process) → k < length (map sem_tally_of seats) → JoinedTo 1 (get_or (map sem_tally_of seats) k d).names
first_names [] each k d below = absurd (omega (arith, below))
first_names (x ∷ seats) each zero d below = first_joined x.name (each 0 x (omega arith))
first_names (x ∷ seats) each (suc k) d below = first_names seats (λ j e low. each (suc j) e (omega (arith, low))) k d (omega (arith, below))

pub ids_joined : (os : List SemInfo) (ts : List (SemTallyInfo Process)) (ss : List (SemSeatInfo Process)) (bs : List (SemTallyInfo Process)) → JoinEach os ts ss bs → ids_of_tallies bs ≡ ids_of os
ids_joined [] [] [] [] j = refl
ids_joined [] [] [] (b ∷ bs) j = elim j [ ]
ids_joined [] [] (s ∷ ss) bs j = elim j [ ]
ids_joined [] (t ∷ ts) ss bs j = elim j [ ]
ids_joined (o ∷ os) [] ss bs j = elim j [ ]
ids_joined (o ∷ os) (t ∷ ts) [] bs j = elim j [ ]
ids_joined (o ∷ os) (t ∷ ts) (s ∷ ss) [] j = elim j [ ]
ids_joined (o ∷ os) (t ∷ ts) (s ∷ ss) (b ∷ bs) j = let rest = ids_joined os ts ss bs j.2 in λ i. j.1 i ∷ rest i

pub names_joined : (m : ℕ) (os : List SemInfo) (ts : List (SemTallyInfo Process)) (ss : List (SemSeatInfo Process)) (bs : List (SemTallyInfo Process)) → JoinEach os ts ss bs
    → ((k : ℕ) (d : SemTallyInfo Process) → k < length ts → JoinedTo m (get_or ts k d).names) → ((k : ℕ) (d : SemSeatInfo Process) → k < length ss → (get_or ss k d).name ≡ m)
    → (k : ℕ) (d : SemTallyInfo Process) → k < length bs → JoinedTo (suc m) (get_or bs k d).names
names_joined m [] [] [] [] j ts_are ss_are k d below = absurd (omega (arith, below))
names_joined m [] [] [] (b ∷ bs) j ts_are ss_are k d below = elim j [ ]
names_joined m [] [] (s ∷ ss) bs j ts_are ss_are k d below = elim j [ ]
names_joined m [] (t ∷ ts) ss bs j ts_are ss_are k d below = elim j [ ]
names_joined m (o ∷ os) [] ss bs j ts_are ss_are k d below = elim j [ ]
names_joined m (o ∷ os) (t ∷ ts) [] bs j ts_are ss_are k d below = elim j [ ]
names_joined m (o ∷ os) (t ∷ ts) (s ∷ ss) [] j ts_are ss_are k d below = elim j [ ]
names_joined m (o ∷ os) (t ∷ ts) (s ∷ ss) (b ∷ bs) j ts_are ss_are zero d below =
    subst (JoinedTo (suc m)) (sym j.0.credit.names) (next_joined m s.name t.names (ts_are 0 t (omega arith)) (ss_are 0 s (omega arith)))
names_joined m (o ∷ os) (t ∷ ts) (s ∷ ss) (b ∷ bs) j ts_are ss_are (suc k) d below =
    names_joined m os ts ss bs j.2 (λ i e low. ts_are (suc i) e (omega (arith, low))) (λ i e low. ss_are (suc i) e (omega (arith, low))) k d (omega (arith, below))

pub joins_at : (size : ℕ) (os : List SemInfo) (ts : List (SemTallyInfo Process)) (ss : List (SemSeatInfo Process)) (bs : List (SemTallyInfo Process)) → JoinEach os ts ss bs
    → ((k : ℕ) (d : SemInfo) → k < length os → (get_or os k d).size ≡ size) → (k : ℕ) → k < length os → JoinsSeat size (get_or ts k no_tally) (get_or ss k no_seat) (get_or bs k no_tally)
joins_at size [] ts ss bs j sizes k below = absurd (omega (arith, below))
joins_at size (o ∷ os) [] ss bs j sizes k below = elim j [ ]
joins_at size (o ∷ os) (t ∷ ts) [] bs j sizes k below = elim j [ ]
joins_at size (o ∷ os) (t ∷ ts) (s ∷ ss) [] j sizes k below = elim j [ ]
joins_at size (o ∷ os) (t ∷ ts) (s ∷ ss) (b ∷ bs) j sizes zero below = subst (λ (n : ℕ). JoinsSeat n t s b) (sizes 0 o (omega arith)) j.0
joins_at size (o ∷ os) (t ∷ ts) (s ∷ ss) (b ∷ bs) j sizes (suc k) below = joins_at size os ts ss bs j.2 (λ i e low. sizes (suc i) e (omega (arith, low))) k (omega (arith, below))
