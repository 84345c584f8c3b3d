-- Names without an open call, after their calls and joins.
use Rattle.fak_model.proofs.Common.{cases_lt, flat_map-append, Rules, seat_words, Owes, AreNamed, IsAtRest, In, marks_of, IsWhole, TallyInfo, SeatInfo, IsJoined, AreBetweenCalls, ◌≡◌, ℕ, ◌<◌, ◌≤◌, List, [], ◌∷◌, ◌++◌, refl, ap, sym, ◌∙◌, subst, inl, inr, map, flat_map}
use Rattle.std.proofs.lemmas.List.{append-nil, map-append}
use Rattle.fak_model.proofs.Seats.{in_either}
use Rattle.fak_model.proofs.SeatWeights.{none_beyond}

-- ---- calls

-- whole calls followed by whole calls are whole calls
pub owes_more : {W C : Type 0} (words_of : C → List W) (words : List W) (calls : List C) → Owes words_of words [] → Owes words_of (words ++ flat_map words_of calls) []
owes_more words_of words calls o = (
  o.0 ++ calls,
  append-nil (words ++ flat_map words_of calls)
      ∙ (ap (λ l. l ++ flat_map words_of calls) (sym (append-nil words) ∙ o.1) ∙ sym (flat_map-append words_of o.0 calls)),
)

module _ {M W C : Type 0} (rules : Rules M W C) (name : ℕ) where
  words_after : (marks f g : List M) → marks_of rules.seat_of name g ≡ marks_of rules.seat_of name f ++ marks → seat_words rules name g ≡ seat_words rules name f ++ map rules.word_of marks
  words_after marks f g mine = ap (map rules.word_of) mine ∙ map-append rules.word_of (marks_of rules.seat_of name f) marks

  -- a name whose further marks are whole calls has no open call
  pub rest_after : (marks f g : List M) (calls : List C) → marks_of rules.seat_of name g ≡ marks_of rules.seat_of name f ++ marks → map rules.word_of marks ≡ flat_map rules.words_of calls
      → AreBetweenCalls rules (name ∷ []) f → AreBetweenCalls rules (name ∷ []) g
  rest_after marks f g calls mine are rest n (inl is) =
      let all : seat_words rules name g ≡ seat_words rules name f ++ flat_map rules.words_of calls = words_after marks f g mine ∙ ap (λ l. seat_words rules name f ++ l) are in
      subst (λ (k : ℕ). Owes rules.words_of (seat_words rules k g) []) (sym is)
      (subst (λ (ws : List W). Owes rules.words_of ws []) (sym all) (owes_more rules.words_of (seat_words rules name f) calls (rest name (inl refl))))
  rest_after marks f g calls mine are rest n (inr none) = absurd none

  pub rest_none : AreBetweenCalls rules (name ∷ []) []
  rest_none n i = ([], refl)

-- ---- joins

-- after a join, the names of both parts have no open call
pub rest_joined : {M W C : Type 0} (rules : Rules M W C) {t both : TallyInfo M} {s : SeatInfo M} → IsJoined rules t s both → AreBetweenCalls rules t.names t.seen → AreBetweenCalls rules (s.name ∷ []) s.seen
    → AreBetweenCalls rules both.names both.seen
rest_joined {M} {W} rules {t} {both} {s} j old new n i =
    let Rests : List M → Type 0 = λ (h : List M). Owes rules.words_of (map rules.word_of h) [] in
    elim (in_either n t.names (s.name ∷ []) (subst (In n) j.names i)) [
      | inl x ↦ subst Rests (sym (j.of_tally.own n x)) (old n x)
      | inr x ↦ subst Rests (sym (j.of_seat.own n x)) (new n x)
    ]

-- ---- all names

-- a seat with a name beyond all those of the marks has no words
pub no_words : {M W C : Type 0} (rules : Rules M W C) (seats seat : ℕ) (h : List M) → AreNamed rules seats h → seats ≤ seat → seat_words rules seat h ≡ []
no_words rules seats seat h named le = ap (map rules.word_of) (none_beyond rules.seat_of seats seat h named le)

pub rest_named : {M W C : Type 0} (rules : Rules M W C) (seats : ℕ) (h : List M) → AreNamed rules seats h → ((seat : ℕ) → seat < seats → Owes rules.words_of (seat_words rules seat h) []) → IsAtRest rules h
rest_named {W = W} rules seats h named each seat = elim (cases_lt seat seats) [
  | inl below ↦ each seat below
  | inr beyond ↦ subst (λ (ws : List W). Owes rules.words_of ws []) (sym (no_words rules seats seat h named beyond)) ([], refl)
]

-- if no name has an open call, no call is cut short
pub rest_whole : {M W C : Type 0} (rules : Rules M W C) (seats : ℕ) (names : List ℕ) (h : List M) → AreNamed rules seats h → AreBetweenCalls rules names h → IsWhole seats names → IsAtRest rules h
rest_whole rules seats names h named rest whole = rest_named rules seats h named (λ seat low. rest seat (whole seat low))
