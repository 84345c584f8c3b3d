-- How the seats of new objects are dealt to the processors.
use Rattle.fak_processor.proofs.Common.{FileSeatInfo, SemSeatInfo, RoomMark, CreditMark, Mark, free_entry, replicate, append_assoc, ◌≡◌, ℕ, zero, suc, ◌+◌, ◌<◌, ◌≤◌, List, [], ◌∷◌, ◌++◌, length, drop, get_or, refl, ap, sym, ◌∙◌, arith, map, All, map-append, ObjectId, SeatInfo, fresh_seats, idle_seats, SemId, SemInfo, fresh_sem_seats, ScriptOf, Process, ObjectsOf, ProcessorOf, ids_of, common_steps}
use Rattle.fak_processor.specs.Opened.{dealt_to, fresh_rows, fresh_sem_at, fresh_all, fresh_processor, zipped, IsSemaphoreFor}

-- ---- lists

pub drop_past : {A : Type 0} (n : ℕ) (xs : List A) → length xs ≤ n → drop n xs ≡ []
drop_past zero [] low = refl
drop_past zero (x ∷ xs) low = absurd (omega (arith, low))
drop_past (suc n) [] low = refl
drop_past (suc n) (x ∷ xs) low = drop_past n xs (omega (arith, low))

pub drop_at : {A : Type 0} (n : ℕ) (xs : List A) (d : A) → n < length xs → drop n xs ≡ get_or xs n d ∷ drop (n + 1) xs
drop_at n [] d low = absurd (omega (arith, low))
drop_at zero (x ∷ xs) d low = refl
drop_at (suc n) (x ∷ xs) d low = let up : suc (n + 1) ≡ suc n + 1 = omega arith in drop_at n xs d (omega (arith, low)) ∙ ap (λ k. get_or xs n d ∷ drop k (x ∷ xs)) up

push_app : (a : List ℕ) (x : ℕ) (r : List ℕ) → (a ++ x ∷ []) ++ r ≡ a ++ x ∷ r
push_app [] x r = refl
push_app (y ∷ a) x r = ap (λ l. y ∷ l) (push_app a x r)

-- ---- semaphores

-- one more semaphore is dealt to all processors
pub deals_more : (ids : List SemId) (o : SemId) (stint a n : ℕ) → dealt_to (fresh_rows ids stint a n) (fresh_sem_seats o stint a n) ≡ fresh_rows (ids ++ o ∷ []) stint a n
deals_more ids o stint a zero = refl
deals_more ids o stint a (suc n) =
    let one : map (fresh_sem_at stint a) ids ++ fresh_sem_at stint a o ∷ [] ≡ map (fresh_sem_at stint a) (ids ++ o ∷ []) = sym (map-append (fresh_sem_at stint a) ids (o ∷ [])) in
    λ i. one i ∷ deals_more ids o stint (suc a) n i

pub rows_next : (stint a n : ℕ) → fresh_rows [] stint a n ++ [] ∷ [] ≡ fresh_rows [] stint a (suc n)
rows_next stint a zero = refl
rows_next stint a (suc n) = ap (λ l. [] ∷ l) (rows_next stint (suc a) n)

pub sems_more : {script : ScriptOf} {n : ℕ} (sems : List SemInfo) (s : SemInfo) → All (IsSemaphoreFor script n) sems → IsSemaphoreFor script n s → All (IsSemaphoreFor script n) (sems ++ s ∷ [])
sems_more [] s each one zero d below = one
sems_more [] s each one (suc k) d below = absurd (omega (arith, below))
sems_more (x ∷ sems) s each one zero d below = each 0 x (omega arith)
sems_more (x ∷ sems) s each one (suc k) d below = sems_more sems s (λ i e low. each (suc i) e (omega (arith, low))) one k d (omega (arith, below))

pub starts_next : {A : Type 0} (f : A → ℕ) (sems new : List A) (s : A) (rest more all : List ℕ) → map f sems ++ rest ≡ all → rest ≡ f s ∷ more → new ≡ sems ++ s ∷ [] → map f new ++ more ≡ all
starts_next {A} f sems new s rest more all was is pushed = grind (arith, common_steps, map, map-append, push_app)

-- ---- lengths

pub length-rows : (ids : List SemId) (stint a n : ℕ) → length (fresh_rows ids stint a n) ≡ n
length-rows ids stint a zero = refl
length-rows ids stint a (suc n) = ap suc (length-rows ids stint (suc a) n)

pub length-fresh : (o : SemId) (stint a n : ℕ) → length (fresh_sem_seats {T = Process} o stint a n) ≡ n
length-fresh o stint a zero = refl
length-fresh o stint a (suc n) = ap suc (length-fresh o stint (suc a) n)

pub length-seats : {M : Type 0} (xs : List (SeatInfo M)) (object : ObjectId) (stint a n : ℕ) → xs ≡ fresh_seats object stint a n → length xs ≡ n
length-seats {M} xs object stint a n is = ap length is ∙ long a n
  where
    long : (a n : ℕ) → length (fresh_seats {M = M} object stint a n) ≡ n
    long a zero = refl
    long a (suc n) = ap suc (long (suc a) n)

pub length-new : (object : ObjectId) (stint a n : ℕ) → length (idle_seats (fresh_seats object stint a n)) ≡ n
length-new object stint a zero = refl
length-new object stint a (suc n) = ap suc (length-new object stint (suc a) n)

pub length-all : (o : ObjectsOf) (stint a n : ℕ) → length (fresh_all o stint a n) ≡ n
length-all o stint a zero = refl
length-all o stint a (suc n) = ap suc (length-all o stint (suc a) n)

-- ---- processors

-- the seats of new objects make new processors
pub zips : (o : ObjectsOf) (stint a n : ℕ)
    → zipped o.files.entries (fresh_seats o.ready.object stint a n) (fresh_seats o.free.object stint a n) (fresh_seats o.births.object stint a n) (fresh_seats o.busy.object stint a n) (fresh_rows (ids_of o.semaphores) stint a n) (idle_seats (fresh_seats o.files.object stint a n)) ≡ fresh_all o stint a n
zips o stint a zero = refl
zips o stint a (suc n) = ap (λ l. fresh_processor o stint a ∷ l) (zips o stint (suc a) n)

-- one processor more is zipped
pub zips_more : (n : ℕ) (all : List ProcessorOf) (p : ProcessorOf) (r : SeatInfo (Mark Process)) (rs : List (SeatInfo (Mark Process))) (fs : List (SeatInfo (Mark ℕ))) (bs : List (SeatInfo RoomMark)) (cs : List (SeatInfo CreditMark)) (ss : List (List (SemSeatInfo Process))) (xs : List FileSeatInfo)
    → p ≡ record p { ready = r; ended = []; halted = []; copy = replicate n free_entry }
    → (all ++ p ∷ []) ++ zipped n rs fs bs cs ss xs ≡ all ++ zipped n (r ∷ rs) (p.free ∷ fs) (p.births ∷ bs) (p.busy ∷ cs) (p.semaphores ∷ ss) (p.files ∷ xs)
zips_more n all p r rs fs bs cs ss xs is = (λ i. (all ++ is i ∷ []) ++ zipped n rs fs bs cs ss xs) ∙ append_assoc all (record p { ready = r; ended = []; halted = []; copy = replicate n free_entry } ∷ []) (zipped n rs fs bs cs ss xs)

-- the processor at a place
pub fresh_at : (o : ObjectsOf) (stint a n i : ℕ) (d : ProcessorOf) → i < n → get_or (fresh_all o stint a n) i d ≡ fresh_processor o stint (a + i)
fresh_at o stint a zero i d low = absurd (omega (arith, low))
fresh_at o stint a (suc n) zero d low = let e : a ≡ a + 0 = omega arith in ap (fresh_processor o stint) e
fresh_at o stint a (suc n) (suc i) d low = let e : suc a + i ≡ a + suc i = omega arith in fresh_at o stint (suc a) n i d (omega (arith, low)) ∙ ap (fresh_processor o stint) e
