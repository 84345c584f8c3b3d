-- The count of a file table: how a mark changes it, and how low it may be.
use Rattle.fak_files.proofs.Common.{◌≡◌, ℕ, ◌+◌, ◌-◌, ◌*◌, ◌≤◌, List, [], ◌∷◌, ◌++◌, refl, ap, ◌∙◌, arith, inl, inr, append_assoc, ℤ, pos, ◌+ℤ◌, ◌-ℤ◌, sum_by, ints, sum_by-cons, AreCalls, AreNamed, seat_words, sum_below, FileKind, Take, Over, Back, No, Set, Give, FileMark, same_or_not, snoc_ind, seat_words-own, seat_words-other, history_front, last_fair, total_push, sum_same, sum_most, sum_parts, sum_plus, given_push, files_fit, common_steps}
use Rattle.fak_model.specs.File.{kinds_of_call, kind_of, take_amount, over_amount, back_amount, total, amount_held, gives, count, IsFair, file_rules, IsFileHistory}
use Rattle.fak_model.proofs.Places.{ends, ends_append, Runs, may_come, rests}
use Rattle.fak_model.proofs.FileRest.{needs, leads, calls_run, holds_total}

-- ---- one mark more

-- the count after a mark of a seat that holds this much
abbrev pub count_after : ℤ → ℕ → FileKind → ℤ
count_after n held kind = n +ℤ pos (back_amount kind + gives held kind) -ℤ pos (take_amount kind + over_amount kind)

pub count-push : (k : ℕ) (h : List FileMark) (m : FileMark) → count k (h ++ m ∷ []) ≡ count_after (count k h) (amount_held m.seat h) m.kind
count-push k h m = omega (arith, ints, total_push kind_of take_amount h m, total_push kind_of over_amount h m, total_push kind_of back_amount h m, given_push [] h m)

-- ---- what is not yet withdrawn

-- the kinds of a seat's marks are at their places in its calls
runs_of : (kinds : List FileKind) → AreCalls kinds_of_call kinds → Runs needs leads 0 kinds
runs_of kinds ([], o) = (rests needs leads kinds_of_call calls_run kinds o).0
runs_of kinds (w ∷ owed, o) = (may_come needs leads kinds_of_call calls_run kinds w (owed, (o.0, append_assoc kinds (w ∷ []) owed ∙ o.1))).0

-- what was over-claimed and is not yet withdrawn is the amount at its place
overs_at : (p : ℕ) (kinds : List FileKind) → Runs needs leads p kinds → sum_by over_amount kinds + (p - 3) ≡ sum_by back_amount kinds + (ends leads p kinds - 3)
overs_at p [] r = refl
overs_at p (Take n ∷ kinds) r = omega (arith, r.0, overs_at 2 kinds r.1, sum_by-cons over_amount (Take n) kinds, sum_by-cons back_amount (Take n) kinds)
overs_at p (Over n ∷ kinds) r = omega (arith, r.0, overs_at (n + 3) kinds r.1, sum_by-cons over_amount (Over n) kinds, sum_by-cons back_amount (Over n) kinds)
overs_at p (Back n ∷ kinds) r = omega (arith, r.0, overs_at 0 kinds r.1, sum_by-cons over_amount (Back n) kinds, sum_by-cons back_amount (Back n) kinds)
overs_at p (No n ∷ kinds) r = omega (arith, r.0, overs_at 0 kinds r.1, sum_by-cons over_amount (No n) kinds, sum_by-cons back_amount (No n) kinds)
overs_at p (Set i f v ∷ kinds) r = omega (arith, r.0, overs_at 2 kinds r.1, sum_by-cons over_amount (Set i f v) kinds, sum_by-cons back_amount (Set i f v) kinds)
overs_at p (Give ∷ kinds) r = omega (arith, r.0, overs_at 0 kinds r.1, sum_by-cons over_amount Give kinds, sum_by-cons back_amount Give kinds)

fair_place : (k : ℕ) (h : List FileMark) (seat : ℕ) (kind : FileKind) → k ≤ 1024 → IsFair k h seat kind → leads kind ≤ 1027
fair_place k h seat kind few fair = grind (arith, common_steps, leads, IsFair)

place_low : (k : ℕ) → k ≤ 1024 → (h : List FileMark) → IsFileHistory k h → (seat : ℕ) → ends leads 0 (seat_words (file_rules k) seat h) ≤ 1027
place_low k few = snoc_ind (λ (h : List FileMark). IsFileHistory k h → (seat : ℕ) → ends leads 0 (seat_words (file_rules k) seat h) ≤ 1027) (λ law seat. omega arith) (λ h m before law seat.
    let old = before (history_front (file_rules k) h m law) seat in
    elim (same_or_not m.seat seat) [
      | inl own ↦ (let is = ap (ends leads 0) (seat_words-own (file_rules k) seat h m own) ∙ ends_append leads 0 (seat_words (file_rules k) seat h) (m.kind ∷ []) in
          omega (arith, is, fair_place k h m.seat m.kind few (last_fair (file_rules k) h m law)))
      | inr other ↦ omega (arith, old, ap (ends leads 0) (seat_words-other (file_rules k) seat h m other))
    ])

-- ---- the range of the count

-- the count is the number of seats less what is held and what is not yet withdrawn
pub count_within : (k : ℕ) (h : List FileMark) → k ≤ 1024 → IsFileHistory k h → AreNamed (file_rules k) k h → (taken : ℕ) × (count k h +ℤ pos taken ≡ pos k) × (taken ≤ 2000000)
count_within k h few law named =
    let over : ℕ → ℕ = λ (i : ℕ). sum_by over_amount (seat_words (file_rules k) i h) in
    let back : ℕ → ℕ = λ (i : ℕ). sum_by back_amount (seat_words (file_rules k) i h) in
    let more : ℕ → ℕ = λ (i : ℕ). ends leads 0 (seat_words (file_rules k) i h) - 3 in
    let each : (i : ℕ) → over i ≡ back i + more i = λ i. omega (arith, overs_at 0 (seat_words (file_rules k) i h) (runs_of (seat_words (file_rules k) i h) (law.calls i))) in
    let split : sum_below over k ≡ sum_below back k + sum_below more k = sum_same over (λ (i : ℕ). back i + more i) k (λ i l. each i) ∙ sum_plus back more k in
    let most : sum_below more k ≤ k * 1024 = sum_most more 1024 k (λ i l. omega (arith, place_low k few h law i)) in
    let overs : sum_below over k ≡ total over_amount h = sum_parts (file_rules k) over_amount k h named in
    let backs : sum_below back k ≡ total back_amount h = sum_parts (file_rules k) back_amount k h named in
    let held = holds_total k k h law named in
    let fit = files_fit k k h law named in
    (sum_below (λ i. amount_held i h) k + sum_below more k, omega (arith, ints, split, overs, backs, held), omega (arith, most, few, fit))
