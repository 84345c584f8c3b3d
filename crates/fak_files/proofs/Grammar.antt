-- The kinds of a seat's marks while its calls go on.
use Rattle.std.proofs.lemmas.List.{append-nil, map-append}
use Rattle.fak_model.specs.File.{WholeCall, Setting, set_mark, Refused, Withdrawn, Held, kinds_of_call, seat_of, kind_of, hold_after, hold_from, amount_held, IsAmount, IsFair, file_rules, IsFileHistory}
use Rattle.fak_files.proofs.Common.{Access, Read, Write, FilePhase, mark, ◌≡◌, ◌≢◌, ℕ, List, [], ◌∷◌, ◌++◌, refl, ap, sym, ◌∙◌, subst, append_assoc, map, flat_map, flat_map-append, Owes, words_by, FileKind, Take, Over, Back, No, Set, Give, FileMark, owes_more, owed_comes, seat_words-own, seat_words-other, history_push, history_begun, history_owed, Idle, Backing, Holding, amount_of, AreInHold, StandsIn, common_steps, arith}

-- ---- holds

-- an open hold owes its Give
pub held_owes : (n : ℕ) (kinds : List FileKind) (sets : List Setting) → AreInHold n kinds sets → Owes kinds_of_call kinds (Give ∷ [])
held_owes n kinds sets hold =
    let last : flat_map kinds_of_call (Held n sets ∷ []) ≡ Take n ∷ (map set_mark sets ++ Give ∷ []) = append-nil (Take n ∷ (map set_mark sets ++ Give ∷ [])) in (
      hold.0 ++ Held n sets ∷ [],
      ap (λ l. l ++ Give ∷ []) hold.1 ∙ (append_assoc (flat_map kinds_of_call hold.0) (Take n ∷ map set_mark sets) (Give ∷ [])
          ∙ (ap (λ l. flat_map kinds_of_call hold.0 ++ l) (sym last) ∙ sym (flat_map-append kinds_of_call hold.0 (Held n sets ∷ [])))),
    )

-- a hold in which one more field was set
pub hold_more : (n : ℕ) (kinds : List FileKind) (sets : List Setting) (s : Setting) → AreInHold n kinds sets → AreInHold n (kinds ++ set_mark s ∷ []) (sets ++ s ∷ [])
hold_more n kinds sets s hold = grind (arith, common_steps, set_mark, append_assoc, flat_map, kinds_of_call, map, map-append)

hold_begun : (n : ℕ) (kinds : List FileKind) → Owes kinds_of_call kinds [] → AreInHold n (kinds ++ Take n ∷ []) []
hold_begun n kinds o = (o.0, ap (λ l. l ++ Take n ∷ []) (sym (append-nil kinds) ∙ o.1))

hold_from-append : (n : ℕ) (a b : List FileKind) → hold_from n (a ++ b) ≡ hold_from (hold_from n a) b
hold_from-append n [] b = refl
hold_from-append n (x ∷ a) b = hold_from-append (hold_after n x) a b

hold_from-sets : (n : ℕ) (sets : List Setting) → hold_from n (map set_mark sets) ≡ n
hold_from-sets n [] = refl
hold_from-sets n (s ∷ sets) = hold_from-sets n sets

-- during a hold the seat holds what it took
pub hold_amount : (n : ℕ) (kinds : List FileKind) (sets : List Setting) → AreInHold n kinds sets → hold_from 0 kinds ≡ n
hold_amount n kinds sets hold = ap (hold_from 0) hold.1 ∙ (hold_from-append 0 (flat_map kinds_of_call hold.0) (Take n ∷ map set_mark sets) ∙ hold_from-sets n sets)

-- whole calls hold nothing
hold_from-calls : (calls : List WholeCall) → hold_from 0 (flat_map kinds_of_call calls) ≡ 0
hold_from-calls [] = refl
hold_from-calls (Refused n ∷ calls) = hold_from-calls calls
hold_from-calls (Withdrawn n ∷ calls) = hold_from-calls calls
hold_from-calls (Held n sets ∷ calls) =
    hold_from-append 0 (kinds_of_call (Held n sets)) (flat_map kinds_of_call calls)
    ∙ (ap (λ (a : ℕ). hold_from a (flat_map kinds_of_call calls)) (hold_from-append n (map set_mark sets) (Give ∷ [])) ∙ hold_from-calls calls)

pub rest_amount : (kinds : List FileKind) → Owes kinds_of_call kinds [] → hold_from 0 kinds ≡ 0
rest_amount kinds o = ap (hold_from 0) (sym (append-nil kinds) ∙ o.1) ∙ hold_from-calls o.0

-- ---- the phase of a seat after the kinds of a call

module _ (k : ℕ) (kinds : List FileKind) where
  pub stands_refused : (n : ℕ) → Owes kinds_of_call kinds [] → Owes kinds_of_call (kinds ++ No n ∷ []) []
  stands_refused n o = owes_more kinds_of_call kinds (Refused n ∷ []) o

  pub stands_withdrawn : (n : ℕ) → Owes kinds_of_call kinds [] → Owes kinds_of_call (kinds ++ Over n ∷ Back n ∷ []) []
  stands_withdrawn n o = owes_more kinds_of_call kinds (Withdrawn n ∷ []) o

  pub stands_taken : (access : Access) → StandsIn k kinds Idle → StandsIn k (kinds ++ Take (amount_of k access) ∷ []) (Holding access)
  stands_taken access o = grind (arith, common_steps, kinds, amount_of, hold_begun)

  pub stands_set : (i : ℕ) (f : _) (v : ℕ) → StandsIn k kinds (Holding Write) → StandsIn k (kinds ++ Set i f v ∷ []) (Holding Write)
  stands_set i f v stands = let s : Setting = record { entry = i; field = f; to = v } in (stands.0 ++ s ∷ [], hold_more k kinds stands.0 s stands.1)

  pub stands_given : (access : Access) → StandsIn k kinds (Holding access) → StandsIn k (kinds ++ Give ∷ []) Idle
  stands_given Read hold = owed_comes kinds_of_call kinds Give [] (held_owes 1 kinds [] hold)
  stands_given Write hold = owed_comes kinds_of_call kinds Give [] (held_owes k kinds hold.0 hold.1)

-- ---- a mark of each kind

-- a history to which a mark of this seat was added; the seat is now at this phase
pub record GoesOn (k : ℕ) (h : List FileMark) (name : ℕ) (kind : FileKind) (phase : FilePhase) : Type 0 where
  pub lawful : IsFileHistory k (h ++ mark name kind ∷ [])
  pub stands : StandsIn k (words_by seat_of kind_of name (h ++ mark name kind ∷ [])) phase

module _ (k : ℕ) (h : List FileMark) (law : IsFileHistory k h) (name : ℕ) where
  kinds : List FileKind
  kinds = words_by seat_of kind_of name h

  more : (kind : FileKind) → words_by seat_of kind_of name (h ++ mark name kind ∷ []) ≡ words_by seat_of kind_of name h ++ kind ∷ []
  more kind = seat_words-own (file_rules k) name h (mark name kind) refl

  pub amounts : (access : Access) → IsAmount k (amount_of k access)
  amounts access = grind (arith, common_steps, amount_of, IsAmount)

  pub refuses : (n : ℕ) → Owes kinds_of_call (words_by seat_of kind_of name h) [] → IsFair k h name (No n) → GoesOn k h name (No n) Idle
  refuses n rest fair = let r = history_begun (file_rules k) h (mark name (No n)) (Refused n) [] law rest refl fair in record { lawful = r.0; stands = r.1 }

  pub overdraws : (access : Access) → Owes kinds_of_call (words_by seat_of kind_of name h) [] → IsFair k h name (Over (amount_of k access)) → GoesOn k h name (Over (amount_of k access)) (Backing access)
  overdraws access rest fair =
      let r = history_begun (file_rules k) h (mark name (Over (amount_of k access))) (Withdrawn (amount_of k access)) (Back (amount_of k access) ∷ []) law rest refl fair in
      record { lawful = r.0; stands = r.1 }

  pub withdraws : (access : Access) → Owes kinds_of_call (words_by seat_of kind_of name h) (Back (amount_of k access) ∷ []) → GoesOn k h name (Back (amount_of k access)) Idle
  withdraws access owes =
      let r = history_owed (file_rules k) h (mark name (Back (amount_of k access))) [] law owes tt in
      record { lawful = r.0; stands = r.1 }

  -- the phase of a seat that begins a hold
  begun : (access : Access) → AreInHold (amount_of k access) (words_by seat_of kind_of name (h ++ mark name (Take (amount_of k access)) ∷ [])) [] → StandsIn k (words_by seat_of kind_of name (h ++ mark name (Take (amount_of k access)) ∷ [])) (Holding access)
  begun access hold = grind (arith, common_steps, amount_of, words_by, seat_of, kind_of, mark, AreInHold)

  pub takes : (access : Access) → Owes kinds_of_call (words_by seat_of kind_of name h) [] → IsFair k h name (Take (amount_of k access)) → GoesOn k h name (Take (amount_of k access)) (Holding access)
  takes access rest fair =
      let n = amount_of k access in
      let hold : AreInHold n (words_by seat_of kind_of name (h ++ mark name (Take n) ∷ [])) [] = subst (λ (ws : List FileKind). AreInHold n ws []) (sym (more (Take n))) (hold_begun n (words_by seat_of kind_of name h) rest) in
      record {
        lawful = history_push (file_rules k) h (mark name (Take n)) law (Give ∷ [], held_owes n (words_by seat_of kind_of name h ++ Take n ∷ []) [] (hold_begun n (words_by seat_of kind_of name h) rest)) fair;
        stands = begun access hold;
      }

  pub sets_field : (i : ℕ) (f : _) (v : ℕ) → StandsIn k (words_by seat_of kind_of name h) (Holding Write) → GoesOn k h name (Set i f v) (Holding Write)
  sets_field i f v stands =
      let s : Setting = record { entry = i; field = f; to = v } in
      let next = hold_more k (words_by seat_of kind_of name h) stands.0 s stands.1 in
      record {
        lawful = history_push (file_rules k) h (mark name (Set i f v)) law (Give ∷ [], held_owes k (words_by seat_of kind_of name h ++ Set i f v ∷ []) (stands.0 ++ s ∷ []) next) (hold_amount k (words_by seat_of kind_of name h) stands.0 stands.1);
        stands = (stands.0 ++ s ∷ [], subst (λ (ws : List FileKind). AreInHold k ws (stands.0 ++ s ∷ [])) (sym (more (Set i f v))) next);
      }

  -- the Sets of a hold
  pub hold_of : (access : Access) → StandsIn k (words_by seat_of kind_of name h) (Holding access) → (sets : List Setting) × AreInHold (amount_of k access) (words_by seat_of kind_of name h) sets
  hold_of access f = grind (arith, common_steps, words_by, seat_of, kind_of, amount_of, AreInHold)

  pub holds_amount : (access : Access) → StandsIn k (words_by seat_of kind_of name h) (Holding access) → amount_held name h ≡ amount_of k access
  holds_amount access stands = let hold = hold_of access stands in hold_amount (amount_of k access) (words_by seat_of kind_of name h) hold.0 hold.1

  pub gives_back : (access : Access) → StandsIn k (words_by seat_of kind_of name h) (Holding access) → GoesOn k h name Give Idle
  gives_back access stands =
      let hold = hold_of access stands in
      let r = history_owed (file_rules k) h (mark name Give) [] law (held_owes (amount_of k access) (words_by seat_of kind_of name h) hold.0 hold.1) tt in
      record { lawful = r.0; stands = r.1 }

-- a mark of another seat does not change a seat's phase
pub stands_other : (k : ℕ) (h : List FileMark) (m : FileMark) (name : ℕ) (phase : FilePhase) → m.seat ≢ name → StandsIn k (words_by seat_of kind_of name h) phase → StandsIn k (words_by seat_of kind_of name (h ++ m ∷ [])) phase
stands_other k h m name phase other stands = subst (λ (ws : List FileKind). StandsIn k ws phase) (sym (seat_words-other (file_rules k) name h m other)) stands
