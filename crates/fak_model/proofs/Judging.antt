-- Whether a list of marks is a history, by a test of each mark. This is for grammars in which each word has one place
-- in a call.
use Rattle.fak_model.proofs.Common.{Decides-eqb, Decides-ltb, Decides-like, Decides-and, Rules, seat_words, AreCalls, IsHistory, ◌≡◌, ℕ, ◌+◌, ◌≤◌, ltb, ◌==◌, Bool, true, List, [], ◌∷◌, ◌++◌, Decides, refl, sym, subst, arith, append_assoc, ◌&&◌, append-nil, common_steps}
use Rattle.fak_model.proofs.Appending.{seat_words-own, seat_words-other, history_none, history_push, history_prefix, last_calls, last_fair}
use Rattle.fak_model.proofs.Deciding.{same_or_not}
use Rattle.fak_model.proofs.Places.{ends, ends_push, CallsRun, may_come}

pub le_decided : (a b : ℕ) → Decides (ltb a (b + 1)) (a ≤ b)
le_decided a b = Decides-like (ltb a (b + 1)) (λ l. omega (arith, l)) (λ l. omega (arith, l)) (Decides-ltb a (b + 1))

-- the place after each word, and the place that each word needs; a word continues a call exactly if the call is at that
-- place
pub record Grammar {W C : Type 0} (words_of : C → List W) : Type 1 where
  pub needs : W → ℕ
  pub leads : W → ℕ
  pub runs : CallsRun needs leads words_of
  pub Stands : ℕ → List W → Type 0
  pub rest : Stands 0 []
  pub comes : (ws : List W) (w : W) → Stands (needs w) ws → Stands (leads w) (ws ++ w ∷ [])
  pub are_calls : (p : ℕ) (ws : List W) → Stands p ws → AreCalls words_of ws

module _ {M W C : Type 0} (rules : Rules M W C) (g : Grammar rules.words_of) (is_fair : List M → M → Bool) (fair : (before : List M) (m : M) → Decides (is_fair before m) (rules.IsFair before m)) where
  -- whether the mark is at its place and fair
  abbrev pub may_stand : List M → M → Bool
  may_stand before m = (g.needs (rules.word_of m) == ends g.leads 0 (seat_words rules (rules.seat_of m) before)) && is_fair before m

  abbrev pub judged : List M → List M → Bool
  judged before [] = true
  judged before (m ∷ rest) = may_stand before m && judged (before ++ m ∷ []) rest

  abbrev MayStand : List M → M → Type 0
  MayStand before m = (g.needs (rules.word_of m) ≡ ends g.leads 0 (seat_words rules (rules.seat_of m) before)) × rules.IsFair before m

  stand_decided : (before : List M) (m : M) → Decides (may_stand before m) (MayStand before m)
  stand_decided before m = Decides-and _ _ (Decides-eqb (g.needs (rules.word_of m)) (ends g.leads 0 (seat_words rules (rules.seat_of m) before))) (fair before m)

  -- a history, and the place of each seat in it
  record Judged (h : List M) : Type 0 where
    pub lawful : IsHistory rules h
    pub stands : (seat : ℕ) → g.Stands (ends g.leads 0 (seat_words rules seat h)) (seat_words rules seat h)

  judged_more : (h : List M) (m : M) → Judged h → MayStand h m → Judged (h ++ m ∷ [])
  judged_more h m j may = grind (arith, common_steps, seat_words, history_push, same_or_not, ends, seat_words-own, ends_push, seat_words-other)

  sound : (before rest : List M) → Judged before → judged before rest ≡ true → IsHistory rules (before ++ rest)
  sound before [] j e = subst (IsHistory rules) (sym (append-nil before)) j.lawful
  sound before (m ∷ rest) j e = by (may_stand before m) refl e (λ may later. sound (before ++ m ∷ []) rest (judged_more before m j may) later)
    where
      by : (b : Bool) → may_stand before m ≡ b → (b && judged (before ++ m ∷ []) rest) ≡ true → (MayStand before m → judged (before ++ m ∷ []) rest ≡ true → IsHistory rules ((before ++ m ∷ []) ++ rest)) → IsHistory rules (before ++ m ∷ rest)
      by b is e more = grind (arith, common_steps, rest, IsHistory, append_assoc, stand_decided)

  complete : (before rest : List M) → IsHistory rules (before ++ rest) → judged before rest ≡ true
  complete before [] law = refl
  complete before (m ∷ rest) law =
      let law' : IsHistory rules ((before ++ m ∷ []) ++ rest) = subst (IsHistory rules) (sym (append_assoc before (m ∷ []) rest)) law in
      let here : IsHistory rules (before ++ m ∷ []) = history_prefix rules (before ++ m ∷ []) rest law' in
      let at = (may_come g.needs g.leads rules.words_of g.runs (seat_words rules (rules.seat_of m) before) (rules.word_of m) (last_calls rules before m here)).1 in
      let is : may_stand before m ≡ true = (stand_decided before m).1 (at, last_fair rules before m here) in
      rw is (complete (before ++ m ∷ []) rest law')

  pub history_decided : (h : List M) → Decides (judged [] h) (IsHistory rules h)
  history_decided h = (λ e. sound [] h (record { lawful = history_none rules; stands = λ seat. g.rest }) e, λ law. complete [] h law)
