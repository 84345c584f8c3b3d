-- The literal definition of a legal history is equivalent to the definition by stages.
use Rattle.fak_model.proofs.Common.{Kind, BackIn, Put, Fill, EndIn, BackOut, Got, Take, EndOut, Mark, seat_words, Owes, count, puts, gots, upper_raise, upper_drop, lower_raise, lower_drop, Putting, Getting, ◌≡◌, ℕ, List, [], ◌∷◌, ◌++◌, reverse, refl, ap, sym, ◌∙◌, subst, arith, inl, inr, word, words_of_call, IsFairAnswer, IsFirstOut, items_put, item_at, Drew, BearsTicket, HasItsCell, IsFairMark, queue_rules, IsQueueHistory, common_steps}
use Rattle.fak_model.specs.QueuePast.{after, stage, item_of, IsNext, IsFair, IsOldest, HasCell, MayFollow, IsLegalPast}
use Rattle.fak_model.proofs.Appending.{snoc_ind, seat_words-own, seat_words-other, history_none, history_push, history_front, last_calls, last_fair}
use Rattle.fak_model.proofs.Deciding.{same_or_not}
use Rattle.fak_model.proofs.QueueStages.{stage_here, stage_else, after_putting, after_getting}
use Rattle.fak_model.proofs.Places.{ends, ends_push, may_come}
use Rattle.fak_model.proofs.QueueWords.{needs, leads, call_runs, place, place_after, at_idle, at_over_in, at_claimed_in, at_filled, at_over_out, at_claimed_out, at_taken, owed_in, owed_after}
use Rattle.fak_model.proofs.Reversing.{reverse_push}
use Rattle.fak_model.proofs.QueueBackwards.{count_reverse, has_reverse, has_back, item_same, last_of, drew, stage_drew}

-- ---- what one more mark must meet, by either definition

-- the place of a seat's stage is the place where its words end
pub place_of : {T : Type 0} (size s : ℕ) (h : List (Mark T)) → place (stage (reverse h) s) ≡ ends leads 0 (seat_words (queue_rules size) s h)
place_of {T} size s = snoc_ind (λ (h : List (Mark T)). place (stage (reverse h) s) ≡ ends leads 0 (seat_words (queue_rules size) s h)) refl (λ h m before.
    ap (λ p. place (stage p s)) (reverse_push h m) ∙ elim (same_or_not s m.seat) [
      | inl own ↦ (ap (λ t. place (stage (m ∷ reverse h) t)) own ∙ (ap place (stage_here m (reverse h)) ∙ (place_after (reverse h) m.kind
          ∙ (sym (ends_push leads 0 (seat_words (queue_rules size) s h) (word m.kind)) ∙ ap (ends leads 0) (sym (seat_words-own (queue_rules size) s h m (sym own)))))))
      | inr other ↦ (ap place (stage_else m (reverse h) s other) ∙ (before ∙ ap (ends leads 0) (sym (seat_words-other (queue_rules size) s h m (λ e. other (sym e))))))
    ])

next_of : {T : Type 0} (h : List (Mark T)) (s : ℕ) (κ : Kind T) → needs (word κ) ≡ place (stage (reverse h) s) → BearsTicket h s κ → IsNext (stage (reverse h) s) κ
next_of h s BackIn e b = at_over_in (stage (reverse h) s) e
next_of h s (Put x) e b = at_claimed_in (stage (reverse h) s) e
next_of h s (Fill k) e b = let w = stage_drew h s (Put b.0) puts k b.1 in (b.0, w.0 ∙ ap (λ n. Putting n b.0) (sym w.1))
next_of h s EndIn e b = at_filled (stage (reverse h) s) e
next_of h s BackOut e b = at_over_out (stage (reverse h) s) e
next_of h s (Got x) e b = at_claimed_out (stage (reverse h) s) e
next_of h s (Take k) e b = let w = stage_drew h s (Got b.0) gots k b.1 in w.0 ∙ ap Getting (sym w.1)
next_of h s EndOut e b = at_taken (stage (reverse h) s) e
next_of h s _ e b = at_idle (stage (reverse h) s) e

putting_drew : {T : Type 0} (h : List (Mark T)) (s k : ℕ) (x : T) → stage (reverse h) s ≡ Putting k x → Drew h s (Put x) puts k
putting_drew h s k x e = grind (arith, common_steps, last_of, reverse, after_putting, drew, puts)

getting_drew : {T : Type 0} (h : List (Mark T)) (s k : ℕ) → stage (reverse h) s ≡ Getting k → (x : T) × Drew h s (Got x) gots k
getting_drew {T} h s k e = grind (arith, common_steps, last_of, reverse, after_getting, drew, gots)

ticket_of : {T : Type 0} (h : List (Mark T)) (s : ℕ) (κ : Kind T) → IsNext (stage (reverse h) s) κ → BearsTicket h s κ
ticket_of h s κ n = grind (arith, common_steps, stage, reverse, IsNext, putting_drew, getting_drew)

fair_of : {T : Type 0} (size : ℕ) (h : List (Mark T)) (κ : Kind T) → IsFairAnswer size h κ → IsFair size (reverse h) κ
fair_of size h κ f = grind (arith, common_steps, reverse, IsFairAnswer, IsFair, count_reverse, upper_raise, upper_drop, has_back, has_reverse, lower_raise, lower_drop)

answer_of : {T : Type 0} (size : ℕ) (h : List (Mark T)) (κ : Kind T) → IsFair size (reverse h) κ → IsFairAnswer size h κ
answer_of size h κ f = grind (arith, common_steps, reverse, IsFair, IsFairAnswer, count_reverse, upper_raise, upper_drop, has_reverse, has_back, lower_raise, lower_drop)

place_same : {T : Type 0} (h : List (Mark T)) → item_at (items_put h) (count gots h) ≡ item_of (reverse h) (count gots (reverse h))
place_same h = item_same (count gots h) h ∙ ap (item_of (reverse h)) (sym (count_reverse gots h))

oldest_of : {T : Type 0} (h : List (Mark T)) (κ : Kind T) → IsFirstOut h κ → IsOldest (reverse h) κ
oldest_of h κ f = grind (arith, common_steps, reverse, IsFirstOut, IsOldest, place_same)

first_of_items : {T : Type 0} (h : List (Mark T)) (κ : Kind T) → IsOldest (reverse h) κ → IsFirstOut h κ
first_of_items h κ f = grind (arith, common_steps, reverse, IsOldest, IsFirstOut, place_same)

cell_of : {T : Type 0} (size : ℕ) (h : List (Mark T)) (κ : Kind T) → HasItsCell size h κ → HasCell size (reverse h) κ
cell_of size h κ f = grind (arith, common_steps, reverse, HasItsCell, HasCell, has_reverse)

its_cell_of : {T : Type 0} (size : ℕ) (h : List (Mark T)) (κ : Kind T) → HasCell size (reverse h) κ → HasItsCell size h κ
its_cell_of size h (Fill k) f = λ j e. has_back (Take j) h (f j e)
its_cell_of size h (Take k) f = has_back (Fill k) h f
its_cell_of size h _ f = tt

-- ---- from one more mark to whole histories

pub follows : {T : Type 0} (size : ℕ) (h : List (Mark T)) (m : Mark T) → IsQueueHistory size (h ++ m ∷ []) → MayFollow size (reverse h) m.seat m.kind
follows size h m law =
    let fair : IsFairMark size h m = last_fair (queue_rules size) h m law in
    let at : needs (word m.kind) ≡ place (stage (reverse h) m.seat) =
    (may_come needs leads words_of_call call_runs (seat_words (queue_rules size) m.seat h) (word m.kind) (last_calls (queue_rules size) h m law)).1 ∙ sym (place_of size m.seat h) in
    record {
      next = next_of h m.seat m.kind at fair.ticket;
      fair = fair_of size h m.kind fair.answer;
      oldest = oldest_of h m.kind fair.first_out;
      cell = cell_of size h m.kind fair.cell;
    }

pub fair_mark : {T : Type 0} (size : ℕ) (h : List (Mark T)) (m : Mark T) → MayFollow size (reverse h) m.seat m.kind → IsFairMark size h m
fair_mark size h m f = grind (arith, common_steps, answer_of, first_of_items, ticket_of, its_cell_of)

-- what each seat owes, by its stage
pub owes : {T : Type 0} (size s : ℕ) (h : List (Mark T)) → IsLegalPast size (reverse h) → Owes words_of_call (seat_words (queue_rules size) s h) (owed_in (stage (reverse h) s))
owes {T} size s = snoc_ind (λ (h : List (Mark T)). IsLegalPast size (reverse h) → Owes words_of_call (seat_words (queue_rules size) s h) (owed_in (stage (reverse h) s))) (λ l. ([], refl)) (λ h m before l.
    let now : IsLegalPast size (m ∷ reverse h) = subst (IsLegalPast size) (reverse_push h m) l in
    subst (λ p. Owes words_of_call (seat_words (queue_rules size) s (h ++ m ∷ [])) (owed_in (stage p s))) (sym (reverse_push h m)) (elim (same_or_not s m.seat) [
      | inl own ↦ (let old : Owes words_of_call (seat_words (queue_rules size) s h) (owed_in (stage (reverse h) m.seat)) = subst (λ t. Owes words_of_call (seat_words (queue_rules size) s h) (owed_in (stage (reverse h) t))) own (before now.1) in
          let new = owed_after (reverse h) (stage (reverse h) m.seat) m.kind (seat_words (queue_rules size) s h) now.0.next old in
          let at : stage (m ∷ reverse h) s ≡ after (reverse h) m.kind = ap (stage (m ∷ reverse h)) own ∙ stage_here m (reverse h) in
          subst (λ t. Owes words_of_call (seat_words (queue_rules size) s (h ++ m ∷ [])) (owed_in t)) (sym at) (subst (λ ws. Owes words_of_call ws (owed_in (after (reverse h) m.kind))) (sym (seat_words-own (queue_rules size) s h m (sym own))) new))
      | inr other ↦ subst (λ t. Owes words_of_call (seat_words (queue_rules size) s (h ++ m ∷ [])) (owed_in t)) (sym (stage_else m (reverse h) s other))
          (subst (λ ws. Owes words_of_call ws (owed_in (stage (reverse h) s))) (sym (seat_words-other (queue_rules size) s h m (λ e. other (sym e)))) (before now.1))
    ]))

pub to_past : {T : Type 0} (size : ℕ) (h : List (Mark T)) → IsQueueHistory size h → IsLegalPast size (reverse h)
to_past {T} size = snoc_ind (λ (h : List (Mark T)). IsQueueHistory size h → IsLegalPast size (reverse h)) (λ law. tt) (λ h m before law.
    subst (IsLegalPast size) (sym (reverse_push h m)) (follows size h m law, before (history_front (queue_rules size) h m law)))

pub to_literal : {T : Type 0} (size : ℕ) (h : List (Mark T)) → IsLegalPast size (reverse h) → IsQueueHistory size h
to_literal {T} size = snoc_ind (λ (h : List (Mark T)). IsLegalPast size (reverse h) → IsQueueHistory size h) (λ l. history_none (queue_rules size)) (λ h m before l.
    let now : IsLegalPast size (m ∷ reverse h) = subst (IsLegalPast size) (reverse_push h m) l in
    history_push (queue_rules size) h m (before now.1)
    (owed_in (after (reverse h) m.kind), owed_after (reverse h) (stage (reverse h) m.seat) m.kind (seat_words (queue_rules size) m.seat h) now.0.next (owes size m.seat h now.1))
    (fair_mark size h m now.0))
