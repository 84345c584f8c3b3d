-- From the steps of a seat to what its calls ensure. Histories have the oldest mark first.
use Rattle.fak_model.proofs.Common.{nat_tests, View, Rules, IsHistory, AreNamed, Begins, In, marks_of, Knows, Object, Leaves, ObjectId, SeatInfo, seat_info, mine_of, last_of, Appends, before_mark, IsSeatToken, ◌≡◌, ◌≢◌, ℕ, zero, suc, ◌==◌, Bool, true, false, cond, List, [], ◌∷◌, ◌++◌, length, refl, ap, sym, ◌∙◌, subst, arith, inl, append_assoc, Some, reverse, Me, sight, HasOneName, Foreign, AreOwn, Sees, common_steps}
use Rattle.std.proofs.lemmas.List.{append-nil, reverse-append}
use Rattle.fak_model.proofs.Seats.{marks_of_append}
use Rattle.fak_model.proofs.RunningViews.{sees_begins}

-- ---- marks of a name

module _ {M : Type 0} (seat_of : M → ℕ) (name : ℕ) where
  pub marks_of-own : (m : M) (h : List M) → seat_of m ≡ name → marks_of seat_of name (m ∷ h) ≡ m ∷ marks_of seat_of name h
  marks_of-own m h own = let t : (seat_of m == name) ≡ true = grind (arith, nat_tests) in rw t refl

  pub marks_of-other : (m : M) (h : List M) → seat_of m ≢ name → marks_of seat_of name (m ∷ h) ≡ marks_of seat_of name h
  marks_of-other m h other = let t : (seat_of m == name) ≡ false = grind (arith, nat_tests) in rw t refl

  pub marks_of-foreign : (names : List ℕ) (h : List M) → In name names → Foreign seat_of names h → marks_of seat_of name h ≡ []
  marks_of-foreign names [] i f = refl
  marks_of-foreign names (m ∷ h) i f = marks_of-other m h (λ e. f.0 (subst (λ (n : ℕ). In n names) (sym e) i)) ∙ marks_of-foreign names h i f.1

  pub marks_of-owned : (h : List M) → AreOwn seat_of name h → marks_of seat_of name h ≡ h
  marks_of-owned [] own = refl
  marks_of-owned (m ∷ h) own = marks_of-own m h own.0 ∙ ap (λ l. m ∷ l) (marks_of-owned h own.1)

  pub marks_of-reverse : (h : List M) → marks_of seat_of name (reverse h) ≡ reverse (marks_of seat_of name h)
  marks_of-reverse [] = refl
  marks_of-reverse (m ∷ h) =
      let rest = marks_of-reverse h in
      ap (marks_of seat_of name) (reverse-append (m ∷ []) h) ∙ (marks_of_append seat_of name (reverse h) (m ∷ []) ∙ (ap (λ l. l ++ marks_of seat_of name (m ∷ [])) rest ∙ ends (seat_of m == name) refl))
    where
      ends : (b : Bool) → (seat_of m == name) ≡ b → reverse (marks_of seat_of name h) ++ marks_of seat_of name (m ∷ []) ≡ reverse (marks_of seat_of name (m ∷ h))
      ends b e = grind (arith, common_steps, reverse, marks_of, reverse-append, append-nil)

  -- the part before a mark of the name
  pub before_mark-append : (p q : List M) (m : M) (number : ℕ) → length (marks_of seat_of name p) ≡ number → seat_of m ≡ name → before_mark seat_of name number (p ++ m ∷ q) ≡ p
  before_mark-append [] q m zero e own = let t : (seat_of m == name) ≡ true = grind (arith, nat_tests) in rw t refl
  before_mark-append [] q m (suc k) e own = absurd (omega (arith, e))
  before_mark-append (x ∷ p) q m zero e own = by (seat_of x == name) refl e (λ l. before_mark-append p q m zero l own)
    where
      by : (b : Bool) → (seat_of x == name) ≡ b → length (marks_of seat_of name (x ∷ p)) ≡ 0 → (length (marks_of seat_of name p) ≡ 0 → before_mark seat_of name zero (p ++ m ∷ q) ≡ p)
          → cond (seat_of x == name) [] (x ∷ before_mark seat_of name zero (p ++ m ∷ q)) ≡ x ∷ p
      by true t e rest = absurd (let l : length (x ∷ marks_of seat_of name p) ≡ 0 = rw t at e in omega (arith, l))
      by false t e rest = rw t (ap (λ l. x ∷ l) (rest (rw t at e)))
  before_mark-append (x ∷ p) q m (suc k) e own = ap (λ l. x ∷ l) (by (seat_of x == name) refl e (λ j l. before_mark-append p q m j l own))
    where
      by : (b : Bool) → (seat_of x == name) ≡ b → length (marks_of seat_of name (x ∷ p)) ≡ suc k → ((j : ℕ) → length (marks_of seat_of name p) ≡ j → before_mark seat_of name j (p ++ m ∷ q) ≡ p)
          → cond (seat_of x == name) (before_mark seat_of name k (p ++ m ∷ q)) (before_mark seat_of name (suc k) (p ++ m ∷ q)) ≡ p
      by true t e rest = rw t (rest k (let l : suc (length (marks_of seat_of name p)) ≡ suc k = rw t at e in omega (arith, l)))
      by false t e rest = rw t (rest (suc k) (rw t at e))

-- ---- what was seen

-- names that see a past know the history, which has the oldest mark first
pub sees_knows : {M : Type 0} (seat_of : M → ℕ) (names : List ℕ) (seen past : List M) → Sees seat_of names seen past → Knows seat_of names (reverse seen) (reverse past)
sees_knows seat_of names seen past s = record {
  begins = sees_begins seat_of names seen past s;
  own = λ n i.
      let none = marks_of-foreign seat_of n names s.between i s.foreign in
      let same = ap (marks_of seat_of n) s.is ∙ (marks_of_append seat_of n s.between seen ∙ ap (λ h. h ++ marks_of seat_of n seen) none) in
      marks_of-reverse seat_of n past ∙ (ap reverse same ∙ sym (marks_of-reverse seat_of n seen));
}

-- ---- the last mark

pub last_of-push : {M : Type 0} (h : List M) (m : M) → last_of (h ++ m ∷ []) ≡ Some m
last_of-push [] m = refl
last_of-push (x ∷ []) m = refl
last_of-push (x ∷ y ∷ h) m = last_of-push (y ∷ h) m

last_of-append : {M : Type 0} (f : List M) (m : M) (g : List M) → last_of (f ++ m ∷ g) ≡ last_of (m ∷ g)
last_of-append [] m g = refl
last_of-append (x ∷ []) m g = refl
last_of-append (x ∷ y ∷ f) m g = last_of-append (y ∷ f) m g

begins_trans : {M : Type 0} (f g h : List M) → Begins f g → Begins g h → Begins f h
begins_trans f g h a b = (a.0 ++ b.0, sym (append_assoc f a.0 b.0) ∙ (ap (λ l. l ++ b.0) a.1 ∙ b.1))

-- ---- calls

module _ {M W C : Type 0} (rules : Rules M W C) where
  -- a part of a call, and then a part that leaves a mark
  pub appends_then : (f : List M) (m : M) (g : List M) (a b c : SeatInfo M) → Appends rules f a b → Appends rules (m ∷ g) b c → Appends rules (f ++ m ∷ g) a c
  appends_then f m g a b c p q = grind (arith, common_steps, seat_info, begins_trans, append_assoc, mine_of, last_of-append)

  -- a part of a call that leaves no mark, and then another part
  pub appends_none : (g : List M) (a b c : SeatInfo M) → Appends rules [] a b → Appends rules g b c → Appends rules g a c
  appends_none g a b c p q = grind (arith, common_steps, seat_info, begins_trans, append-nil, mine_of)

  -- the part before an appended mark stays the same as more is seen
  pub before_mark-begins : (name number : ℕ) (p : List M) (m : M) (q h : List M) → rules.seat_of m ≡ name → length (marks_of rules.seat_of name p) ≡ number → Begins (p ++ m ∷ q) h → before_mark rules.seat_of name number h ≡ p
  before_mark-begins name number p m q h own e b = ap (before_mark rules.seat_of name number) (sym b.1 ∙ append_assoc p (m ∷ q) b.0) ∙ before_mark-append rules.seat_of name p (q ++ b.0) m number e own

-- ---- tokens

module _ {M P H : Type 0} {seat_of : M → ℕ} {seats name left : ℕ} {phase : P} {m : Me H (View M P)} (t : IsSeatToken seat_of seats name phase left m) where
  pub token_names : m.0.names ≡ name ∷ []
  token_names = ap (λ (x : Me H (View M P)). x.0.names) t.me_is

  pub token_name : HasOneName m.0
  token_name = (name, token_names)

  pub token_phase : m.0.phase ≡ Some phase
  token_phase = ap (λ (x : Me H (View M P)). x.0.phase) t.me_is

  pub token_left : m.0.left ≡ left
  token_left = ap (λ (x : Me H (View M P)). x.0.left) t.me_is

  pub token_slots : m.1 ≡ []
  token_slots = ap (λ (x : Me H (View M P)). x.1) t.me_is

-- ---- a step

module _ {M W C P S H : Type 0} {o : Object M W C P S H} {m : Me H (View M P)} {new : List M} {phase : P} {left : ℕ} {carried : List (ℕ × H)} {tells : List M → Type 0} {after : Me H (View M P)}
    (l : Leaves o m new phase left carried tells after) (n : ℕ) (one : m.0.names ≡ n ∷ []) (own : AreOwn o.rules.seat_of n new) where
  pub seen_after : after.0.seen ≡ new ++ l.past
  seen_after = ap (λ (x : Me H (View M P)). x.0.seen) l.after_is

  history_after : reverse after.0.seen ≡ reverse l.past ++ reverse new
  history_after = ap reverse seen_after ∙ reverse-append new l.past

  among : In n m.0.names
  among = subst (In n) (sym one) (inl refl)

  -- none of the marks between belongs to the seat
  pub mine_before : marks_of o.rules.seat_of n (reverse l.past) ≡ marks_of o.rules.seat_of n (reverse m.0.seen)
  mine_before = (sees_knows o.rules.seat_of m.0.names m.0.seen l.past l.sees).own n among

  pub mine_after : marks_of o.rules.seat_of n (reverse after.0.seen) ≡ marks_of o.rules.seat_of n (reverse m.0.seen) ++ reverse new
  mine_after =
      ap (marks_of o.rules.seat_of n) history_after ∙ (marks_of_append o.rules.seat_of n (reverse l.past) (reverse new)
      ∙ (λ i. mine_before i ++ (marks_of-reverse o.rules.seat_of n new ∙ ap reverse (marks_of-owned o.rules.seat_of n new own)) i))

  pub begins_after : Begins (reverse m.0.seen) (reverse after.0.seen)
  begins_after = begins_trans (reverse m.0.seen) (reverse l.past) (reverse after.0.seen) (sees_begins o.rules.seat_of m.0.names m.0.seen l.past l.sees) (reverse new, sym history_after)

  lawful_after : IsHistory o.rules (reverse after.0.seen)
  lawful_after = subst (λ (h : List M). IsHistory o.rules (reverse h)) (sym seen_after) l.lawful

  named_after : AreNamed o.rules o.seats (reverse after.0.seen)
  named_after = subst (λ (h : List M). AreNamed o.rules o.seats (reverse h)) (sym seen_after) l.named

  last_after : (h : List M) → h ≡ new → (x : M) → last_of (reverse h) ≡ Some x → last_of (reverse after.0.seen) ≡ Some x
  last_after [] e x is = absurd cc
  last_after (y ∷ h) e x is = grind (arith, common_steps, last_of, reverse, reverse-append, last_of-push, history_after, append_assoc)

  -- a step appends its marks
  pub step_appends : (object : ObjectId) (stint : ℕ) → object.seats ≡ o.seats → Appends o.rules (reverse new) (seat_info object n stint (reverse m.0.seen)) (seat_info object n stint (reverse after.0.seen))
  step_appends object stint seats = grind (arith, common_steps, begins_after, mine_after, last_after, lawful_after, reverse, named_after)

  -- the seat's token after the step
  pub token_after : {was : P} {had : ℕ} → IsSeatToken o.rules.seat_of o.seats n was had m → carried ≡ [] → IsSeatToken o.rules.seat_of o.seats n phase left after
  token_after t none = grind (arith, common_steps, sight, seen_after, named_after)

-- the part before the one mark of a step, right after the step and as more is seen
pub step_before : {M W C P S H : Type 0} {o : Object M W C P S H} {m : Me H (View M P)} {x : M} {phase : P} {left : ℕ} {carried : List (ℕ × H)} {tells : List M → Type 0} {after : Me H (View M P)}
    (l : Leaves o m (x ∷ []) phase left carried tells after) (n : ℕ) → m.0.names ≡ n ∷ [] → o.rules.seat_of x ≡ n → (number : ℕ) → length (marks_of o.rules.seat_of n (reverse m.0.seen)) ≡ number
    → (h : List M) → Begins (reverse after.0.seen) h → before_mark o.rules.seat_of n number h ≡ reverse l.past
step_before {o = o} {m = m} {x = x} {after = after} l n one own number count h b =
    let own' : AreOwn o.rules.seat_of n (x ∷ []) = (own, tt) in
    let count' = ap length (mine_before l n one own') ∙ count in
    before_mark-begins o.rules n number (reverse l.past) x [] h own count' (subst (λ (k : List _). Begins k h) (history_after l n one own') b)
