-- The law of a file table.
use Rattle.fak_model.proofs.Common.{All-pop, FileKind, FileMark, seat_words, AreNamed, sum_below, ◌≡◌, ◌≢◌, ◌⊎◌, ℕ, ◌+◌, ◌<◌, ◌≤◌, List, [], ◌∷◌, ◌++◌, Some, refl, ap, sym, ◌∙◌, arith, inl, inr, append_assoc, map, append-nil, Setting, set_mark, kinds_of_call, kind_of, take_amount, over_amount, back_amount, total, hold_after, hold_from, amount_held, gives, amount_given_from, amount_given, IsFair, file_rules, IsFileHistory, common_steps}
use Rattle.fak_model.specs.declared.file.FileKind.TheVariants.{Give}
use Rattle.fak_model.proofs.Appending.{snoc_ind, seat_words-own, seat_words-other, history_front, last_fair}
use Rattle.fak_model.proofs.Leading.{CallsLead, Leads, history_leads, total_push, sum_one, sum_none}

sets_after : (sets : List Setting) (a b : ℕ) → a ≤ b → Leads back_amount over_amount a b (map set_mark sets ++ Give ∷ [])
sets_after [] a b le = (le, omega (arith, le))
sets_after (s ∷ sets) a b le = (le, sets_after sets (a + 0) (b + 0) (omega (arith, le)))

backs_after : CallsLead kinds_of_call back_amount over_amount
backs_after e a b le = grind (arith, common_steps, kinds_of_call, back_amount, over_amount, sets_after)

pub given_push : (before h : List FileMark) (m : FileMark) → amount_given_from before (h ++ m ∷ []) ≡ amount_given_from before h + gives (amount_held m.seat (before ++ h)) m.kind
given_push before [] m = ap (λ l. gives (amount_held m.seat l) m.kind + 0) (sym (append-nil before)) ∙ omega arith
given_push before (x ∷ h) m =
    let rest = given_push (before ++ x ∷ []) h m in
    let at = ap (λ l. gives (amount_held m.seat l) m.kind) (append_assoc before (x ∷ []) h) in
    omega (arith, rest, at)

pub hold_push : (n : ℕ) (ks : List FileKind) (k : FileKind) → hold_from n (ks ++ k ∷ []) ≡ hold_after (hold_from n ks) k
hold_push n [] k = refl
hold_push n (x ∷ ks) k = hold_push (hold_after n x) ks k

-- what one mark changes in its seat's hold
hold_moves : (n : ℕ) (kind : FileKind) → hold_after n kind + gives n kind ≤ n + take_amount kind
hold_moves n kind = grind (arith, common_steps, hold_after, gives, take_amount)

fits_of : (k : ℕ) (h : List FileMark) (seat : ℕ) (kind : FileKind) → IsFair k h seat kind
    → (take_amount kind ≡ 0) ⊎ (total take_amount h + total over_amount h + take_amount kind ≤ k + total back_amount h + amount_given h)
fits_of k h seat kind fair = grind (arith, common_steps, take_amount, total, over_amount, back_amount, amount_given, IsFair)

pub holds_fit : (k seats : ℕ) (h : List FileMark) → IsFileHistory k h → AreNamed (file_rules k) seats h
    → (sum_below (λ s. amount_held s h) seats + amount_given h ≤ total take_amount h) × (total take_amount h ≤ k + amount_given h)
holds_fit k seats =
    let Named : FileMark → Type 0 = λ (m : FileMark). m.seat < seats in
    snoc_ind (λ (h : List FileMark). IsFileHistory k h → AreNamed (file_rules k) seats h → (sum_below (λ s. amount_held s h) seats + amount_given h ≤ total take_amount h) × (total take_amount h ≤ k + amount_given h)) (λ law named.
    let none = sum_none (λ s. amount_held s []) seats (λ s. refl) in (omega arith, omega arith)) (λ h m before law named.
    let law' = history_front (file_rules k) h m law in
    let pop = All-pop Named (h ++ m ∷ []) h (Some m) refl named in
    let old = before law' pop.0 in
    let even : total back_amount h ≤ total over_amount h = history_leads (file_rules k) back_amount over_amount backs_after seats h law' pop.0 in
    let takes = total_push kind_of take_amount h m in
    let gave = given_push [] h m in
    let own : amount_held m.seat (h ++ m ∷ []) ≡ hold_after (amount_held m.seat h) m.kind = ap (hold_from 0) (seat_words-own (file_rules k) m.seat h m refl) ∙ hold_push 0 (seat_words (file_rules k) m.seat h) m.kind in
    let others : (s : ℕ) → s ≢ m.seat → amount_held s (h ++ m ∷ []) ≡ amount_held s h = λ s d. ap (hold_from 0) (seat_words-other (file_rules k) s h m (λ e. d (sym e))) in
    let one = sum_one (λ s. amount_held s h) (λ s. amount_held s (h ++ m ∷ [])) m.seat seats pop.1 others in
    let moves = hold_moves (amount_held m.seat h) m.kind in (
      omega (arith, old.0, takes, gave, own, one, moves),
      elim (fits_of k h m.seat m.kind (last_fair (file_rules k) h m law)) [
        | inl z ↦ omega (arith, old.1, takes, gave, z)
        | inr w ↦ omega (arith, even, takes, gave, w)
      ],
    ))

pub files_fit : (k seats : ℕ) (h : List FileMark) → IsFileHistory k h → AreNamed (file_rules k) seats h → sum_below (λ s. amount_held s h) seats ≤ k
files_fit k seats h law named = let f = holds_fit k seats h law named in omega (arith, f.0, f.1)
