-- What the seats that were joined into a tally know of its history.
use Rattle.fak_model.proofs.Common.{All-cons, All-nil}
use Rattle.fak_model.proofs.Seats.{in_left, in_right}
use Rattle.fak_model.specs.Seats.{Begins}
use Rattle.fak_queue.specs.BundleCalls.{BundleInfo, seat_in}
use Rattle.fak_queue.specs.Bundling.{KnowsOwn, tally_of_bundle}
use Rattle.fak_queue.specs.Sums.{AreJoined, joined_bundle_first, joined_bundle_next, joined_first, joined_next, seats_in}
use Rattle.fak_queue.proofs.Common.{◌≡◌, ℕ, List, [], ◌∷◌, ◌++◌, All, All-append, All-head, All-tail, In, Knows, Mark, SeatInfo, TallyInfo, append_assoc, ap, begins_self, inl, inr, map, marks_of, refl, seat_of, subst, sym, tally_of, ◌∙◌}

-- one of a tally's seats, which knows of the tally's history what is its own
abbrev IsOf : {T : Type 0} → TallyInfo (Mark T) → SeatInfo (Mark T) → Type 0
IsOf t s = In s.name t.names × KnowsOwn t.seen s

module _ {T : Type 0} where
  -- what holds of each of a bundle's names holds of each of its seats
  each_seat : (P : SeatInfo (Mark T) → Type 0) (b : BundleInfo (Mark T)) (names : List ℕ) → ((n : ℕ) → In n names → P (seat_in b n)) → All P (map (seat_in b) names)
  each_seat P b [] each = All-nil P
  each_seat P b (n ∷ names) each = All-cons P (seat_in b n) (map (seat_in b) names) (each n (inl refl)) (each_seat P b names (λ m i. each m (inr i)))

  each_of : (P Q : SeatInfo (Mark T) → Type 0) (seats : List (SeatInfo (Mark T))) → ((s : SeatInfo (Mark T)) → P s → Q s) → All P seats → All Q seats
  each_of P Q [] so all = All-nil Q
  each_of P Q (s ∷ seats) so all = All-cons Q s seats (so s (All-head P s seats all)) (each_of P Q seats so (All-tail P s seats all))

  begins_then : (s t h : List (Mark T)) → Begins s t → Begins t h → Begins s h
  begins_then s t h first second = (first.0 ++ second.0, sym (append_assoc s first.0 second.0) ∙ (ap (λ (l : List (Mark T)). l ++ second.0) first.1 ∙ second.1))

  -- a name of those that know a history knows its own
  own_of : (names : List ℕ) (seen h : List (Mark T)) (n : ℕ) → In n names → Knows seat_of names seen h → Knows seat_of (n ∷ []) seen h
  own_of names seen h n i k = record {
    begins = k.begins;
    own = λ m one. elim one [ inl same ↦ subst (λ (z : ℕ). marks_of seat_of z h ≡ marks_of seat_of z seen) (sym same) (k.own n i) | inr none ↦ absurd none ];
  }

  -- the same for a later history that the names of its tally know
  knows_later : (names : List ℕ) (seen later : List (Mark T)) (s : SeatInfo (Mark T)) → In s.name names → KnowsOwn seen s → Knows seat_of names seen later → KnowsOwn later s
  knows_later names seen later s i own k = record {
    begins = begins_then s.seen seen later own.begins k.begins;
    own = λ m one. elim one [ inl same ↦ subst (λ (z : ℕ). marks_of seat_of z later ≡ marks_of seat_of z s.seen) (sym same) (k.own s.name i ∙ own.own s.name (inl refl)) | inr none ↦ absurd none ];
  }

  knows_self : (t : TallyInfo (Mark T)) → Knows seat_of t.names t.seen t.seen
  knows_self t = record { begins = begins_self t.seen; own = λ n i. refl }

  -- the seats of a tally are seats of what it is joined to
  stays_of : (t both : TallyInfo (Mark T)) (more : List ℕ) → both.names ≡ t.names ++ more → Knows seat_of t.names t.seen both.seen → (s : SeatInfo (Mark T)) → IsOf t s → IsOf both s
  stays_of t both more names k s is = (subst (In s.name) (sym names) (in_left s.name t.names more is.0), knows_later t.names t.seen both.seen s is.0 is.1 k)

  joined_of : {size : ℕ} {seats : List (SeatInfo (Mark T))} {t : TallyInfo (Mark T)} → AreJoined size seats t → All (IsOf t) seats
  joined_of (joined_first s is) = subst (λ (t : TallyInfo (Mark T)). All (IsOf t) (s ∷ [])) (sym is) (All-cons (IsOf (tally_of s)) s [] (inl refl, knows_self (tally_of s)) (All-nil (IsOf (tally_of s))))
  joined_of (joined_next {seats = seats} {s = s} {t = t} {both = both} joined j) =
      All-cons (IsOf both) s seats (subst (In s.name) (sym j.names) (in_right s.name t.names (s.name ∷ []) (inl refl)), j.of_seat)
      (each_of (IsOf t) (IsOf both) seats (stays_of t both (s.name ∷ []) j.names j.of_tally) (joined_of joined))
  joined_of (joined_bundle_first b is) =
      subst (λ (t : TallyInfo (Mark T)). All (IsOf t) (seats_in b)) (sym is)
      (each_seat (IsOf (tally_of_bundle b)) b b.names (λ n i. (i, own_of b.names b.seen b.seen n i (knows_self (tally_of_bundle b)))))
  joined_of (joined_bundle_next {seats = seats} b {t = t} {both = both} joined j) =
      All-append (IsOf both) (seats_in b) seats
      (each_seat (IsOf both) b b.names (λ n i. (subst (In n) (sym j.names) (in_right n t.names b.names i), own_of b.names b.seen both.seen n i j.of_second)))
      (each_of (IsOf t) (IsOf both) seats (stays_of t both b.names j.names j.of_first) (joined_of joined))

  pub joined_know : {size : ℕ} (seats : List (SeatInfo (Mark T))) (t : TallyInfo (Mark T)) → AreJoined size seats t → All (KnowsOwn t.seen) seats
  joined_know seats t joined = each_of (IsOf t) (KnowsOwn t.seen) seats (λ s is. is.1) (joined_of joined)
