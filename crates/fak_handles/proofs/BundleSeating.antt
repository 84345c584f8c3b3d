-- The seats of a queue as they are opened, dealt to bundles.
use Rattle.std.specs.Prelude.{◌≡◌, ◌+◌, ◌-◌, ◌*◌, ◌++◌, ℕ, zero, suc, List, [], ◌∷◌, length}
use Rattle.std.specs.List.{All}
use Rattle.std.proofs.Common.{ap, sym, ◌∙◌, subst, refl, arith}
use Rattle.std.proofs.lemmas.List.Elements.{All-cons}
use Rattle.std.proofs.Math.Nat.{suc-mul}
use Rattle.fak_model.specs.declared.queue.Mark.{Mark}
use Rattle.fak_model.specs.Calls.{ObjectId, SeatInfo, seat_info, fresh_seats}
use Rattle.fak_queue.specs.Queues.{QueueInfo, IsIdleSeat}
use Rattle.fak_handles.specs.bundle.Opening.{IsFreshBundle, IsOpenedWithBundles}
use Rattle.fak_handles.specs.Openings.{AreSeatedBelow, IsFreshQueue}
use Rattle.fak_handles.specs.declared.padded_handle.PaddedHandle.{PaddedHandle}

-- the first seats of those that are named from here on, and the others
pub record AreDealt {M : Type 0} (object : ObjectId) (stint first all : ℕ) (own rest : List (SeatInfo M)) : Type 0 where
  pub own_are : own ≡ fresh_seats object stint first (length own)
  pub rest_are : rest ≡ fresh_seats object stint (first + length own) (all - length own)

pub dealt : {M : Type 0} (own rest : List (SeatInfo M)) (object : ObjectId) (stint first all : ℕ) → own ++ rest ≡ fresh_seats object stint first all → AreDealt object stint first all own rest
dealt {M} [] rest object stint first all is =
    let none : first ≡ first + 0 = omega arith in
    let less : all ≡ all - 0 = omega arith in
    record { own_are = refl; rest_are = is ∙ (ap (λ k. fresh_seats {M = M} object stint k all) none ∙ ap (λ n. fresh_seats {M = M} object stint (first + 0) n) less) }
dealt (x ∷ own) rest object stint first zero is = absurd cc
dealt {M} (x ∷ own) rest object stint first (suc all) is =
    let both : x ∷ (own ++ rest) ≡ seat_info object first stint [] ∷ fresh_seats object stint (suc first) all = is in
    let head : x ≡ seat_info object first stint [] = cc in
    let tail : own ++ rest ≡ fresh_seats object stint (suc first) all = cc in
    let less = dealt own rest object stint (suc first) all tail in
    let name : suc first + length own ≡ first + suc (length own) = omega arith in
    let own_are : own ≡ fresh_seats object stint (suc first) (length own) = less.own_are in
    let many : all - length own ≡ suc all - suc (length own) = omega arith in
    record {
      own_are = ap (λ y. y ∷ own) head ∙ ap (λ l. seat_info object first stint [] ∷ l) own_are;
      rest_are = less.rest_are ∙ (ap (λ k. fresh_seats {M = M} object stint k (all - length own)) name ∙ ap (λ n. fresh_seats {M = M} object stint (first + suc (length own)) n) many);
    }

-- the seats of the bundle with this index, and those of the bundles after it
pub next_dealt : {M : Type 0} (own rest all : List (SeatInfo M)) (object : ObjectId) (stint first width i k : ℕ) → all ≡ fresh_seats object stint (first + i * width) k → all ≡ own ++ rest → length own ≡ width
    → (own ≡ fresh_seats object stint (first + i * width) width) × (rest ≡ fresh_seats object stint (first + (i + 1) * width) (k - width))
next_dealt {M} own rest all object stint first width i k are is many =
    let both = dealt own rest object stint (first + i * width) k (sym is ∙ are) in
    let up : suc i ≡ i + 1 = omega arith in
    let more : (i + 1) * width ≡ i * width + width = ap (λ n. n * width) (sym up) ∙ suc-mul i width in
    let name : (first + i * width) + length own ≡ first + (i + 1) * width = omega (arith, more, many) in (
      both.own_are ∙ ap (λ n. fresh_seats {M = M} object stint (first + i * width) n) many,
      both.rest_are ∙ (ap (λ n. fresh_seats {M = M} object stint n (k - length own)) name ∙ ap (λ n. fresh_seats {M = M} object stint (first + (i + 1) * width) (k - n)) many),
    )

-- all of them are idle
pub fresh_idle : (object : ObjectId) (stint first n : ℕ) → All (IsIdleSeat object) (fresh_seats {M = Mark ℕ} object stint first n)
fresh_idle object stint first zero = λ k d low. absurd (omega (arith, low))
fresh_idle object stint first (suc n) = All-cons (IsIdleSeat {T = ℕ} object) (seat_info object first stint []) (fresh_seats object stint (suc first) n) (refl, refl) (fresh_idle object stint (suc first) n)

-- the seats of the handles for single calls, and those of the bundles
pub first_dealt : {M : Type 0} (own rest all : List (SeatInfo M)) (object : ObjectId) (stint n n' more : ℕ) → all ≡ fresh_seats object stint 0 (n + more) → all ≡ own ++ rest → length own ≡ n → n' ≡ n
    → (own ≡ fresh_seats object stint 0 n) × (rest ≡ fresh_seats object stint n' more)
first_dealt {M} own rest all object stint n n' more are is many same =
    let both = dealt own rest object stint 0 (n + more) (sym is ∙ are) in
    let name : 0 + length own ≡ n' = omega (arith, many, same) in
    let left : (n + more) - length own ≡ more = omega (arith, many) in (
      both.own_are ∙ ap (λ k. fresh_seats {M = M} object stint 0 k) many,
      both.rest_are ∙ (ap (λ k. fresh_seats {M = M} object stint k ((n + more) - length own)) name ∙ ap (λ k. fresh_seats {M = M} object stint n' k) left),
    )

-- all handles have their seats
module _ {size stint width n m : ℕ} {handles others : List PaddedHandle} where
  pub opened_bundles : (made shared : QueueInfo) → shared ≡ made → made.size ≡ size → made.object.seats ≡ length handles + length others * width → length handles ≡ n → length others ≡ m
      → AreSeatedBelow (IsFreshQueue shared stint) n handles → AreSeatedBelow (IsFreshBundle shared stint n width) m others → IsOpenedWithBundles size stint width handles others
  opened_bundles made shared is value many one two seated bundled = record {
    queue = shared;
    size_is = ap (λ q. q.size) is ∙ value;
    seats_are = ap (λ q. q.object.seats) is ∙ many;
    seated = subst (λ k. AreSeatedBelow (IsFreshQueue shared stint) k handles) (sym one) seated;
    bundled = subst (λ k. AreSeatedBelow (IsFreshBundle shared stint k width) (length others) others) (sym one) (subst (λ k. AreSeatedBelow (IsFreshBundle shared stint n width) k others) (sym two) bundled);
  }
