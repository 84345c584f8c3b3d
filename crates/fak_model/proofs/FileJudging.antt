-- Whether a list of marks is a file table's history.
use Rattle.fak_model.proofs.Common.{flat_map-append, FileKind, FileMark, Owes, AreCalls, ◌≡◌, ℕ, zero, suc, ◌+◌, ltb, ◌==◌, Bool, true, List, [], ◌∷◌, ◌++◌, Decides, refl, ap, sym, ◌∙◌, arith, append_assoc, ◌&&◌, ◌||◌, map, flat_map, Decides-eqb, Decides-or, Setting, set_mark, WholeCall, Refused, Withdrawn, Held, kinds_of_call, total, take_amount, over_amount, back_amount, amount_held, amount_given, IsAmount, IsFair, file_rules, IsFileHistory, common_steps}
use Rattle.std.proofs.lemmas.List.{append-nil, map-append}
use Rattle.fak_model.specs.declared.file.FileKind.TheVariants.{Take, Over, Back, No, Set, Give}
use Rattle.fak_model.proofs.Appending.{owed_comes, call_begins}
use Rattle.fak_model.proofs.Places.{Runs, ends, CallsRun}
use Rattle.fak_model.proofs.Judging.{Grammar, judged, history_decided, le_decided}

-- the place of each kind in a call: 1 for the marks during a hold, n + 2 for the withdrawal of a claim of n
abbrev pub needs : FileKind → ℕ
needs (Back n) = suc (suc n)
needs (Set i f v) = 1
needs Give = 1
needs _ = 0

abbrev pub leads : FileKind → ℕ
leads (Over n) = suc (suc n)
leads (Take n) = 1
leads (Set i f v) = 1
leads _ = 0

-- whole calls, and then a hold that is not given back yet
pub record InHold (ws : List FileKind) : Type 0 where
  pub calls : List WholeCall
  pub n : ℕ
  pub sets : List Setting
  pub is : ws ≡ flat_map kinds_of_call calls ++ Take n ∷ map set_mark sets

abbrev pub Stands : ℕ → List FileKind → Type 0
Stands zero ws = Owes kinds_of_call ws []
Stands (suc zero) ws = InHold ws
Stands (suc (suc n)) ws = Owes kinds_of_call ws (Back n ∷ [])

sets_run : (sets : List Setting) → Runs needs leads 1 (map set_mark sets ++ Give ∷ []) × (ends leads 1 (map set_mark sets ++ Give ∷ []) ≡ 0)
sets_run [] = ((refl, tt), refl)
sets_run (s ∷ sets) = let r = sets_run sets in ((refl, r.0), r.1)

pub calls_run : CallsRun needs leads kinds_of_call
calls_run (Refused n) = ((refl, tt), refl)
calls_run (Withdrawn n) = ((refl, (refl, tt)), refl)
calls_run (Held n sets) = let r = sets_run sets in ((refl, r.0), r.1)

-- a seat in a hold owes its Give
hold_owes : (ws : List FileKind) → InHold ws → Owes kinds_of_call ws (Give ∷ [])
hold_owes ws h =
    let last : flat_map kinds_of_call (Held h.n h.sets ∷ []) ≡ Take h.n ∷ (map set_mark h.sets ++ Give ∷ []) = append-nil (Take h.n ∷ (map set_mark h.sets ++ Give ∷ [])) in (
      h.calls ++ Held h.n h.sets ∷ [],
      ap (λ l. l ++ Give ∷ []) h.is ∙ (append_assoc (flat_map kinds_of_call h.calls) (Take h.n ∷ map set_mark h.sets) (Give ∷ [])
          ∙ (ap (λ l. flat_map kinds_of_call h.calls ++ l) (sym last) ∙ sym (flat_map-append kinds_of_call h.calls (Held h.n h.sets ∷ [])))),
    )

hold_set : (ws : List FileKind) (s : Setting) → InHold ws → InHold (ws ++ set_mark s ∷ [])
hold_set ws s h = record {
  calls = h.calls;
  n = h.n;
  sets = h.sets ++ s ∷ [];
  is = ap (λ l. l ++ set_mark s ∷ []) h.is ∙ (append_assoc (flat_map kinds_of_call h.calls) (Take h.n ∷ map set_mark h.sets) (set_mark s ∷ [])
      ∙ ap (λ l. flat_map kinds_of_call h.calls ++ Take h.n ∷ l) (sym (map-append set_mark h.sets (s ∷ []))));
}

pub comes : (ws : List FileKind) (k : FileKind) → Stands (needs k) ws → Stands (leads k) (ws ++ k ∷ [])
comes ws (Take n) o = record { calls = o.0; n = n; sets = []; is = ap (λ l. l ++ Take n ∷ []) (sym (append-nil ws) ∙ o.1) }
comes ws (Over n) o = owed_comes kinds_of_call ws (Over n) (Back n ∷ []) (call_begins kinds_of_call ws (Withdrawn n) o)
comes ws (Back n) o = owed_comes kinds_of_call ws (Back n) [] o
comes ws (No n) o = owed_comes kinds_of_call ws (No n) [] (call_begins kinds_of_call ws (Refused n) o)
comes ws (Set i f v) h = hold_set ws (record { entry = i; field = f; to = v }) h
comes ws Give h = owed_comes kinds_of_call ws Give [] (hold_owes ws h)

pub are_calls : (p : ℕ) (ws : List FileKind) → Stands p ws → AreCalls kinds_of_call ws
are_calls p ws o = grind (arith, common_steps, kinds_of_call, AreCalls, hold_owes)

abbrev pub file_grammar : Grammar kinds_of_call
file_grammar = record { needs = needs; leads = leads; runs = calls_run; Stands = Stands; rest = ([], refl); comes = comes; are_calls = are_calls }

abbrev pub is_amount : ℕ → ℕ → Bool
is_amount k n = (n == 1) || (n == k)

-- whether the count is at least n; whether it is less
abbrev pub has_count : ℕ → List FileMark → ℕ → Bool
has_count k before n = ltb (n + (total take_amount before + total over_amount before)) (k + total back_amount before + amount_given before + 1)

abbrev pub lacks_count : ℕ → List FileMark → ℕ → Bool
lacks_count k before n = ltb (k + total back_amount before + amount_given before) (n + (total take_amount before + total over_amount before))

abbrev pub is_fair_kind : ℕ → List FileMark → ℕ → FileKind → Bool
is_fair_kind k before seat (Take n) = is_amount k n && has_count k before n
is_fair_kind k before seat (No n) = is_amount k n && lacks_count k before n
is_fair_kind k before seat (Over n) = is_amount k n && lacks_count k before n
is_fair_kind k before seat (Set i f v) = amount_held seat before == k
is_fair_kind k before seat _ = true

abbrev pub is_fair : ℕ → List FileMark → FileMark → Bool
is_fair k before m = is_fair_kind k before m.seat m.kind

amount_decided : (k n : ℕ) → Decides (is_amount k n) (IsAmount k n)
amount_decided k n = Decides-or (n == 1) (n == k) (Decides-eqb n 1) (Decides-eqb n k)

pub kind_decided : (k : ℕ) (before : List FileMark) (seat : ℕ) (kind : FileKind) → Decides (is_fair_kind k before seat kind) (IsFair k before seat kind)
kind_decided k before seat kind = grind (arith, common_steps, IsFair, amount_decided, le_decided, total, take_amount, over_amount, back_amount, amount_given, amount_held)

abbrev pub is_file_history : ℕ → List FileMark → Bool
is_file_history k h = judged (file_rules k) file_grammar (is_fair k) (λ before m. kind_decided k before m.seat m.kind) [] h

pub file_decided : (k : ℕ) (h : List FileMark) → Decides (is_file_history k h) (IsFileHistory k h)
file_decided k h = history_decided (file_rules k) file_grammar (is_fair k) (λ before m. kind_decided k before m.seat m.kind) h
