-- What the marks of a credit's history weigh: as it grows, by names, and in total.
use Rattle.fak_sem.proofs.Common.{◌≡◌, ◌≢◌, ℕ, ◌+◌, ◌<◌, ◌≤◌, ◌==◌, Bool, true, false, cond, List, [], ◌∷◌, ◌++◌, length, refl, ap, sym, ◌∙◌, arith, append_assoc, map, ℤ, pos, int_lt, All, append-nil, CreditKind, CreditMark, marks_of_append, between_foreign, weight_from, passes, parks, wakes, of_all, of_name, Debit, Credit, sum_none, sum_one, CreditInfo, MakesCall, calls_made, common_steps}
use Rattle.fak_model.proofs.Common.{nat_tests, All-head, All-tail, sum_by-cons, sum_below, marks_of, Knows, In, SeatInfo, before_mark}
use Rattle.fak_model.specs.Credit.{debit_weight, kind_of, debits, value, grants, grants_made_from}
use Rattle.fak_model.proofs.RunningCalls.{before_mark-append}

pub weight_from-append : (weight : CreditMark → ℤ → ℕ) (start : ℕ) (before f g : List CreditMark) → weight_from weight start before (f ++ g) ≡ weight_from weight start before f + weight_from weight start (before ++ f) g
weight_from-append weight start before [] g = ap (λ (h : List CreditMark). weight_from weight start h g) (sym (append-nil before)) ∙ omega arith
weight_from-append weight start before (m ∷ f) g =
    let rest = weight_from-append weight start (before ++ m ∷ []) f g in
    let at = ap (λ (h : List CreditMark). weight_from weight start h g) (append_assoc before (m ∷ []) f) in
    omega (arith, rest, at)

module _ (name : ℕ) (weight : CreditKind → ℤ → ℕ) (start : ℕ) where
  -- the marks of others weigh nothing
  pub weight-foreign : (before h : List CreditMark) → marks_of (λ (m : CreditMark). m.seat) name h ≡ [] → weight_from (of_name name weight) start before h ≡ 0
  weight-foreign before [] none = refl
  weight-foreign before (m ∷ h) none = by (m.seat == name) refl none (weight-foreign (before ++ m ∷ []) h)
    where
      by : (b : Bool) → (m.seat == name) ≡ b → marks_of (λ (x : CreditMark). x.seat) name (m ∷ h) ≡ [] → (marks_of (λ (x : CreditMark). x.seat) name h ≡ [] → weight_from (of_name name weight) start (before ++ m ∷ []) h ≡ 0)
          → cond (m.seat == name) (weight m.kind (value start before)) 0 + weight_from (of_name name weight) start (before ++ m ∷ []) h ≡ 0
      by true t e rest = absurd (let l : m ∷ marks_of (λ (x : CreditMark). x.seat) name h ≡ [] = rw t at e in cc)
      by false t e rest = rw t (omega (arith, rest (rw t at e)))

  -- one mark of the name, among marks of others
  pub record StandsAlone (before h : List CreditMark) (own : CreditMark) : Type 0 where
    pub earlier : List CreditMark
    pub later : List CreditMark
    pub is : h ≡ earlier ++ own ∷ later
    pub foreign : marks_of (λ (m : CreditMark). m.seat) name earlier ≡ []
    pub his : own.seat ≡ name
    pub weighs : weight_from (of_name name weight) start before h ≡ weight own.kind (value start (before ++ earlier))

  pub stands_alone : (before h : List CreditMark) (own : CreditMark) → marks_of (λ (m : CreditMark). m.seat) name h ≡ own ∷ [] → StandsAlone before h own
  stands_alone before [] own one = absurd cc
  stands_alone before (m ∷ h) own one = by (m.seat == name) refl one (stands_alone (before ++ m ∷ []) h own)
    where
      by : (b : Bool) → (m.seat == name) ≡ b → marks_of (λ (x : CreditMark). x.seat) name (m ∷ h) ≡ own ∷ [] → (marks_of (λ (x : CreditMark). x.seat) name h ≡ own ∷ [] → StandsAlone (before ++ m ∷ []) h own) → StandsAlone before (m ∷ h) own
      by true t e rest =
          let l : m ∷ marks_of (λ (x : CreditMark). x.seat) name h ≡ own ∷ [] = rw t at e in
          let is : m ≡ own = cc in
          let none : marks_of (λ (x : CreditMark). x.seat) name h ≡ [] = cc in
          let his : m.seat ≡ name = grind (arith, nat_tests) in
          let zero_rest = weight-foreign (before ++ m ∷ []) h none in
          let w : weight_from (of_name name weight) start before (m ∷ h) ≡ weight m.kind (value start before) = rw t (omega (arith, zero_rest)) in
          record {
            earlier = [];
            later = h;
            is = ap (λ (x : CreditMark). x ∷ h) is;
            foreign = refl;
            his = ap (λ (x : CreditMark). x.seat) (sym is) ∙ his;
            weighs = w ∙ (λ i. weight (is i).kind (value start (sym (append-nil before) i)));
          }
      by false t e rest = grind (arith, common_steps, value, append_assoc)

  -- what a name's marks weigh depends only on its own marks
  pub weight-known : (names : List ℕ) (seen h : List CreditMark) → Knows (λ (m : CreditMark). m.seat) names seen h → In name names → weight_from (of_name name weight) start [] h ≡ weight_from (of_name name weight) start [] seen
  weight-known names seen h k i =
      let more = k.begins.0 in
      let none = weight-foreign seen more (between_foreign (λ (m : CreditMark). m.seat) names seen h k name i) in
      let parts = weight_from-append (of_name name weight) start [] seen more in
      let is = ap (weight_from (of_name name weight) start []) k.begins.1 in
      omega (arith, none, parts, is)

-- a call adds what its mark weighs at the value that it returns
pub weight-call : (weight : CreditKind → ℤ → ℕ) {kind : CreditKind} {credit : CreditInfo} {old new : SeatInfo CreditMark} {answer : ℤ} → MakesCall kind credit old new answer
    → weight_from (of_name old.name weight) credit.start [] new.seen ≡ weight_from (of_name old.name weight) credit.start [] old.seen + weight kind answer
weight-call weight {kind} {credit} {old} {new} {answer} c =
    let own : CreditMark = record { seat = old.name; kind = kind } in
    let seat_of : CreditMark → ℕ = λ (m : CreditMark). m.seat in
    let more = c.appends.begins.0 in
    let joined = c.appends.begins.1 in
    let name = ap (λ (s : SeatInfo CreditMark). s.name) c.appends.same_seat in
    let mine = sym (marks_of_append seat_of old.name old.seen more) ∙ (ap (marks_of seat_of old.name) joined ∙ (ap (λ (n : ℕ). marks_of seat_of n new.seen) (sym name) ∙ c.appends.mine)) in
    let s = stands_alone old.name weight credit.start old.seen more own (same_front (marks_of seat_of old.name old.seen) _ _ mine) in
    let parts = weight_from-append (of_name old.name weight) credit.start [] old.seen more in
    let is = ap (weight_from (of_name old.name weight) credit.start []) joined in
    let count : length (marks_of seat_of old.name (old.seen ++ s.earlier)) ≡ calls_made old + 0 =
    ap length (marks_of_append seat_of old.name old.seen s.earlier ∙ (ap (λ l. marks_of seat_of old.name old.seen ++ l) s.foreign ∙ append-nil (marks_of seat_of old.name old.seen))) ∙ omega arith in
    let stood = before_mark-append seat_of old.name (old.seen ++ s.earlier) s.later own (calls_made old + 0) count refl in
    let whole : new.seen ≡ (old.seen ++ s.earlier) ++ own ∷ s.later = sym joined ∙ (ap (λ l. old.seen ++ l) s.is ∙ sym (append_assoc old.seen s.earlier (own ∷ s.later))) in
    let found : answer ≡ value credit.start (old.seen ++ s.earlier) = c.answers ∙ ap (value credit.start) (ap (before_mark seat_of old.name (calls_made old + 0)) whole ∙ stood) in
    let weighs = s.weighs ∙ ap (weight kind) (sym found) in
    omega (arith, parts, is, weighs)
  where
    same_front : {A : Type 0} (xs ys zs : List A) → xs ++ ys ≡ xs ++ zs → ys ≡ zs
    same_front [] ys zs e = e
    same_front (x ∷ xs) ys zs e = same_front xs ys zs cc

-- a seat has not parked and woken more often than it has called
pub weights-calls : (name start : ℕ) (before h : List CreditMark) → weight_from (of_name name parks) start before h + weight_from (of_name name wakes) start before h ≤ length (marks_of (λ (m : CreditMark). m.seat) name h)
weights-calls name start before [] = omega arith
weights-calls name start before (m ∷ h) = by (m.seat == name) refl (weights-calls name start (before ++ m ∷ []) h)
  where
    at_most : (kind : CreditKind) (found : ℤ) → parks kind found + wakes kind found ≤ 1
    at_most kind found = grind (arith, common_steps, parks, wakes, int_lt)

    by : (b : Bool) → (m.seat == name) ≡ b
        → weight_from (of_name name parks) start (before ++ m ∷ []) h + weight_from (of_name name wakes) start (before ++ m ∷ []) h ≤ length (marks_of (λ (x : CreditMark). x.seat) name h)
        → weight_from (of_name name parks) start before (m ∷ h) + weight_from (of_name name wakes) start before (m ∷ h) ≤ length (marks_of (λ (x : CreditMark). x.seat) name (m ∷ h))
    by true t rest = rw t (omega (arith, rest, at_most m.kind (value start before)))
    by false t rest = rw t (omega (arith, rest))

-- what the marks of all names weigh is what all marks weigh
pub weights-names : (weight : CreditKind → ℤ → ℕ) (start seats : ℕ) (before h : List CreditMark) → All (λ (m : CreditMark). m.seat < seats) h
    → sum_below (λ name. weight_from (of_name name weight) start before h) seats ≡ weight_from (of_all weight) start before h
weights-names weight start seats before [] named = sum_none (λ name. 0) seats (λ name. refl)
weights-names weight start seats before (m ∷ h) named =
    let old : ℕ → ℕ = λ (k : ℕ). weight_from (of_name k weight) start (before ++ m ∷ []) h in
    let new : ℕ → ℕ = λ (k : ℕ). weight_from (of_name k weight) start before (m ∷ h) in
    let at : ℕ = m.seat in
    let here : new at ≡ weight m.kind (value start before) + old at = (let t : (m.seat == at) ≡ true = grind (arith, nat_tests) in rw t refl) in
    let other : (k : ℕ) → k ≢ at → new k ≡ old k = λ k d. (let t : (m.seat == k) ≡ false = grind (arith, nat_tests) in rw t (omega arith)) in
    let one = sum_one old new at seats (All-head (λ (x : CreditMark). x.seat < seats) m h named) other in
    let rest = weights-names weight start seats (before ++ m ∷ []) h (All-tail (λ (x : CreditMark). x.seat < seats) m h named) in
    omega (arith, one, here, rest)

-- a call grants if it passes or wakes
pub grants-parts : (start : ℕ) (before h : List CreditMark) → grants_made_from start before h ≡ weight_from (of_all passes) start before h + weight_from (of_all wakes) start before h
grants-parts start before [] = refl
grants-parts start before (m ∷ h) = omega (arith, grants-parts start (before ++ m ∷ []) h, each m.kind (value start before))
  where
    each : (kind : CreditKind) (found : ℤ) → grants found kind ≡ passes kind found + wakes kind found
    each Debit found = omega arith
    each Credit found = omega arith

-- each debit passes or parks
pub debits-parts : (start : ℕ) (before h : List CreditMark) → debits h ≡ weight_from (of_all passes) start before h + weight_from (of_all parks) start before h
debits-parts start before [] = refl
debits-parts start before (m ∷ h) = omega (arith, debits-parts start (before ++ m ∷ []) h, each m.kind (value start before), sum_by-cons debit_weight m.kind (map kind_of h))
  where
    each : (kind : CreditKind) (found : ℤ) → debit_weight kind ≡ passes kind found + parks kind found
    each Debit found = elim (int_lt (pos 0) found) as (λ b. 1 ≡ cond b 1 0 + cond b 0 1) [ true ↦ refl | false ↦ refl ]
    each Credit found = refl

-- each debit of a name passes or parks
pub debits-by : (name start : ℕ) (before h : List CreditMark) → weight_from (of_name name passes) start before h + weight_from (of_name name parks) start before h ≡ debits (marks_of (λ (m : CreditMark). m.seat) name h)
debits-by name start before [] = refl
debits-by name start before (m ∷ h) = by (m.seat == name) refl (debits-by name start (before ++ m ∷ []) h)
  where
    each : (kind : CreditKind) (found : ℤ) → debit_weight kind ≡ passes kind found + parks kind found
    each Debit found = elim (int_lt (pos 0) found) as (λ b. 1 ≡ cond b 1 0 + cond b 0 1) [ true ↦ refl | false ↦ refl ]
    each Credit found = refl

    by : (b : Bool) → (m.seat == name) ≡ b
        → weight_from (of_name name passes) start (before ++ m ∷ []) h + weight_from (of_name name parks) start (before ++ m ∷ []) h ≡ debits (marks_of (λ (x : CreditMark). x.seat) name h)
        → weight_from (of_name name passes) start before (m ∷ h) + weight_from (of_name name parks) start before (m ∷ h) ≡ debits (marks_of (λ (x : CreditMark). x.seat) name (m ∷ h))
    by true t rest = rw t (omega (arith, rest, each m.kind (value start before), sum_by-cons debit_weight m.kind (map kind_of (marks_of (λ (x : CreditMark). x.seat) name h))))
    by false t rest = rw t (omega (arith, rest))
