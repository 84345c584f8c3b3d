-- Histories with one mark more, and with one mark less.
use Rattle.fak_model.proofs.Common.{nat_tests, filter-append, flat_map-append, Rules, seat_words, Owes, AreCalls, IsHistory, ◌≡◌, ◌≢◌, ◌⊎◌, ℕ, List, [], ◌∷◌, ◌++◌, refl, ap, sym, ◌∙◌, subst, arith, inl, inr, append_assoc, map, filter, flat_map, common_steps}
use Rattle.std.proofs.lemmas.List.{append-nil, map-append}
use Rattle.fak_model.proofs.Deciding.{same_or_not}

-- ---- lists by their ends

grow : {A : Type 0} (P : List A → Type 0) → ((xs : List A) (x : A) → P xs → P (xs ++ x ∷ [])) → (front rest : List A) → P front → P (front ++ rest)
grow P more front [] h = subst P (sym (append-nil front)) h
grow P more front (x ∷ rest) h = subst P (append_assoc front (x ∷ []) rest) (grow P more (front ++ x ∷ []) rest (more front x h))

-- what holds for the empty list, and for a list with one more item at its end if for the list, holds for every list
pub snoc_ind : {A : Type 0} (P : List A → Type 0) → P [] → ((xs : List A) (x : A) → P xs → P (xs ++ x ∷ [])) → (xs : List A) → P xs
snoc_ind P none more xs = grow P more [] xs none

-- a mark of a longer history is its last one, or is in the shorter history
pub split_last : {A : Type 0} (p : List A) (m : A) (q h : List A) (x : A) → p ++ m ∷ q ≡ h ++ x ∷ []
    → ((p ≡ h) × (m ≡ x) × (q ≡ [])) ⊎ ((r : List A) × (p ++ m ∷ r ≡ h))
split_last [] m q [] x e = inl (refl, cc, cc)
split_last [] m q (y ∷ h) x e = let is : m ≡ y = cc in inr (h, ap (λ z. z ∷ h) is)
split_last (y ∷ []) m q [] x e = absurd cc
split_last (y ∷ z ∷ p) m q [] x e = absurd cc
split_last (y ∷ p) m q (z ∷ h) x e =
    let heads : y ≡ z = cc in
    elim (split_last p m q h x cc) [
      | inl w ↦ inl (cc (heads, w.0), w.1, w.2)
      | inr w ↦ inr (w.0, cc (heads, w.1))
    ]

-- ---- the words of a seat's marks

pub seat_words-own : {M W C : Type 0} (rules : Rules M W C) (seat : ℕ) (h : List M) (m : M) → rules.seat_of m ≡ seat → seat_words rules seat (h ++ m ∷ []) ≡ seat_words rules seat h ++ rules.word_of m ∷ []
seat_words-own {M} rules seat h m own = grind (arith, common_steps, nat_tests, map, filter, filter-append, map-append, seat_words)

pub seat_words-other : {M W C : Type 0} (rules : Rules M W C) (seat : ℕ) (h : List M) (m : M) → rules.seat_of m ≢ seat → seat_words rules seat (h ++ m ∷ []) ≡ seat_words rules seat h
seat_words-other {M} rules seat h m other = grind (arith, common_steps, nat_tests, map, filter, filter-append, map-append, seat_words, append-nil)

-- ---- calls

-- after the first owed word, the rest is owed
pub owed_comes : {W C : Type 0} (words_of : C → List W) (ws : List W) (w : W) (owed : List W) → Owes words_of ws (w ∷ owed) → Owes words_of (ws ++ w ∷ []) owed
owed_comes words_of ws w owed o = (o.0, append_assoc ws (w ∷ []) owed ∙ o.1)

-- if nothing is owed, any call may begin
pub call_begins : {W C : Type 0} (words_of : C → List W) (ws : List W) (call : C) → Owes words_of ws [] → Owes words_of ws (words_of call)
call_begins words_of ws call o = (
  o.0 ++ call ∷ [],
  ap (λ l. l ++ words_of call) (sym (append-nil ws) ∙ o.1)
      ∙ ap (λ l. flat_map words_of o.0 ++ l) (sym (append-nil (words_of call)))
      ∙ sym (flat_map-append words_of o.0 (call ∷ [])),
)

-- calls without their last word are calls; the last one is then cut short
pub calls_front : {W C : Type 0} (words_of : C → List W) (ws : List W) (w : W) → AreCalls words_of (ws ++ w ∷ []) → AreCalls words_of ws
calls_front words_of ws w c = (w ∷ c.0, (c.1.0, sym (append_assoc ws (w ∷ []) c.0) ∙ c.1.1))

-- ---- histories

nothing_within : {A : Type 0} (p : List A) (m : A) (q : List A) → p ++ m ∷ q ≡ [] → ⊥
nothing_within [] m q e = cc
nothing_within (x ∷ p) m q e = cc

pub history_none : {M W C : Type 0} (rules : Rules M W C) → IsHistory rules []
history_none rules = grind (arith, common_steps, nothing_within)

pub history_push : {M W C : Type 0} (rules : Rules M W C) (h : List M) (m : M) → IsHistory rules h
    → AreCalls rules.words_of (seat_words rules (rules.seat_of m) h ++ rules.word_of m ∷ []) → rules.IsFair h m → IsHistory rules (h ++ m ∷ [])
history_push {M} rules h m law may fair = record {
  calls = λ seat. elim (same_or_not (rules.seat_of m) seat) [
    | inl own ↦ subst (AreCalls rules.words_of) (sym (seat_words-own rules seat h m own)) (subst (λ s. AreCalls rules.words_of (seat_words rules s h ++ rules.word_of m ∷ [])) own may)
    | inr other ↦ subst (AreCalls rules.words_of) (sym (seat_words-other rules seat h m other)) (law.calls seat)
  ];
  fair = λ p x q e. elim (split_last p x q h m e) [
    | inl last ↦ subst (λ y. rules.IsFair p y) (sym last.1) (subst (λ l. rules.IsFair l m) (sym last.0) fair)
    | inr within ↦ law.fair p x within.0 within.1
  ];
}

pub history_front : {M W C : Type 0} (rules : Rules M W C) (h : List M) (m : M) → IsHistory rules (h ++ m ∷ []) → IsHistory rules h
history_front rules h m law = record {
  calls = λ seat. elim (same_or_not (rules.seat_of m) seat) [
    | inl own ↦ calls_front rules.words_of (seat_words rules seat h) (rules.word_of m) (subst (AreCalls rules.words_of) (seat_words-own rules seat h m own) (law.calls seat))
    | inr other ↦ subst (AreCalls rules.words_of) (seat_words-other rules seat h m other) (law.calls seat)
  ];
  fair = λ p x q e. law.fair p x (q ++ m ∷ []) (sym (append_assoc p (x ∷ q) (m ∷ [])) ∙ ap (λ l. l ++ m ∷ []) e);
}

pub last_calls : {M W C : Type 0} (rules : Rules M W C) (h : List M) (m : M) → IsHistory rules (h ++ m ∷ []) → AreCalls rules.words_of (seat_words rules (rules.seat_of m) h ++ rules.word_of m ∷ [])
last_calls rules h m law = subst (AreCalls rules.words_of) (seat_words-own rules (rules.seat_of m) h m refl) (law.calls (rules.seat_of m))

pub last_fair : {M W C : Type 0} (rules : Rules M W C) (h : List M) (m : M) → IsHistory rules (h ++ m ∷ []) → rules.IsFair h m
last_fair rules h m law = law.fair h m [] refl

-- every prefix of a history is a history
pub history_prefix : {M W C : Type 0} (rules : Rules M W C) (h rest : List M) → IsHistory rules (h ++ rest) → IsHistory rules h
history_prefix {M} rules h = snoc_ind (λ (rest : List M). IsHistory rules (h ++ rest) → IsHistory rules h)
    (λ law. subst (IsHistory rules) (append-nil h) law)
    (λ rest m less law. less (history_front rules (h ++ rest) m (subst (IsHistory rules) (sym (append_assoc h rest (m ∷ []))) law)))

-- a history with one more mark, a fair one that its seat owes, is a history, and the seat owes the rest
pub history_owed : {M W C : Type 0} (rules : Rules M W C) (h : List M) (m : M) (owed : List W) → IsHistory rules h
    → Owes rules.words_of (seat_words rules (rules.seat_of m) h) (rules.word_of m ∷ owed) → rules.IsFair h m
    → IsHistory rules (h ++ m ∷ []) × Owes rules.words_of (seat_words rules (rules.seat_of m) (h ++ m ∷ [])) owed
history_owed rules h m owed law o fair =
    let now = owed_comes rules.words_of (seat_words rules (rules.seat_of m) h) (rules.word_of m) owed o in
    (history_push rules h m law (owed, now) fair, subst (λ ws. Owes rules.words_of ws owed) (sym (seat_words-own rules (rules.seat_of m) h m refl)) now)

-- the same if a seat without an open call begins one by its mark
pub history_begun : {M W C : Type 0} (rules : Rules M W C) (h : List M) (m : M) (call : C) (owed : List W) → IsHistory rules h
    → Owes rules.words_of (seat_words rules (rules.seat_of m) h) [] → rules.words_of call ≡ rules.word_of m ∷ owed → rules.IsFair h m
    → IsHistory rules (h ++ m ∷ []) × Owes rules.words_of (seat_words rules (rules.seat_of m) (h ++ m ∷ [])) owed
history_begun rules h m call owed law rest is fair =
    history_owed rules h m owed law (subst (Owes rules.words_of (seat_words rules (rules.seat_of m) h)) is (call_begins rules.words_of (seat_words rules (rules.seat_of m) h) call rest)) fair
