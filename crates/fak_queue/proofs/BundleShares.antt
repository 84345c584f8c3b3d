-- What bundles and their seats add up to.
use Rattle.fak_queue.specs.BundleCalls.{BundleInfo, seat_in}
use Rattle.fak_queue.specs.Bundling.{AreSeatsOf, IsBundleOf, KnowsOwn, WasIn, name_of}
use Rattle.fak_queue.proofs.Common.{All, All-head, All-tail, Kind, Mark, SeatInfo, count, map, marks_of, mine_of, seat_of, sum_by, sum_by-cons, ◌≡◌, ℕ, List, [], ◌∷◌, refl, sym, ap, ◌∙◌, inl, arith}

-- a sum over seats is one over their names, if each seat adds what its name does
by_names : {T : Type 0} (P : SeatInfo (Mark T) → Type 0) (f : ℕ → ℕ) (g : SeatInfo (Mark T) → ℕ) → ((s : SeatInfo (Mark T)) → P s → g s ≡ f s.name) → (seats : List (SeatInfo (Mark T))) → All P seats → sum_by g seats ≡ sum_by f (map name_of seats)
by_names P f g same [] all = refl
by_names {T} P f g same (s ∷ seats) all =
    let first = same s (All-head P s seats all) in
    let rest = by_names P f g same seats (All-tail P s seats all) in
    let a = sum_by-cons g s seats in
    let b = sum_by-cons f s.name (map name_of seats) in
    omega (arith, first, rest, a, b)

-- what a bundle's names weigh
abbrev by_name : {T : Type 0} → (Kind T → ℕ) → BundleInfo (Mark T) → ℕ → ℕ
by_name v bundle n = count v (mine_of seat_of (seat_in bundle n))

abbrev by_seat : {T : Type 0} → (Kind T → ℕ) → SeatInfo (Mark T) → ℕ
by_seat v s = count v (mine_of seat_of s)

pub made_weighs : {T : Type 0} (v : Kind T → ℕ) (size : ℕ) (seats : List (SeatInfo (Mark T))) (bundle : BundleInfo (Mark T)) → IsBundleOf size seats bundle → sum_by (by_name v bundle) bundle.names ≡ sum_by (by_seat v) seats
made_weighs v size seats bundle b =
    ap (sum_by (by_name v bundle)) b.names ∙ sym (by_names (KnowsOwn bundle.seen) (by_name v bundle) (by_seat v) (λ s k. sym (ap (count v) (k.own s.name (inl refl)))) seats b.known)

pub broken_weighs : {T : Type 0} (v : Kind T → ℕ) (bundle : BundleInfo (Mark T)) (seats : List (SeatInfo (Mark T))) → AreSeatsOf bundle seats → sum_by (by_seat v) seats ≡ sum_by (by_name v bundle) bundle.names
broken_weighs v bundle seats a =
    by_names (WasIn bundle) (by_name v bundle) (by_seat v) (λ s k. ap (λ h. count v (marks_of seat_of s.name h)) k.seen) seats a.each ∙ ap (sum_by (by_name v bundle)) a.names
