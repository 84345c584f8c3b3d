-- A refusal of a burst, name by name.
use Rattle.std.specs.Prelude.{drop}
use Rattle.std.proofs.lemmas.List.{append-nil, reverse-append}
use Rattle.fak_model.specs.declared.queue.Kind.TheVariants as made
use Rattle.fak_model.specs.Calls.{last_of}
use Rattle.fak_model.proofs.Seats.{marks_of_append}
use Rattle.fak_core.specs.QueueBlocks.{names_of, AreApart, marks_back}
use Rattle.fak_queue.specs.declared.found.NoRoom.{NoRoom}
use Rattle.fak_queue.specs.declared.found.NoRoom.TheVariants.{Full, Shut}
use Rattle.fak_model.specs.Seats.{Begins}
use Rattle.fak_model.proofs.RunningCalls.{before_mark-begins}
use Rattle.fak_queue.specs.Bursts.{NoneOwn, StandAfter, NoneBurst, RefusedBurst, RefusedOutBurst, pair_up, EndsIn}
use Rattle.fak_queue.specs.Bundles.{AllMade, RefusesOn, RefusesOutOn}
use Rattle.fak_queue.proofs.BurstNames.{idle_names, from_rest, once, pair_length}
use Rattle.fak_queue.proofs.BundleLists.{item_in, item_drop, marks_on, marks_turned, no_marks}
use Rattle.fak_queue.proofs.Common.{Mark, before_part, lower_count, queue_rules, refl, upper_count, QueueHolder, Kind, mark, seat_of, marks_of, item_at, In, ◌≡◌, ℤ, ℕ, ◌+◌, ◌-◌, ◌<◌, ◌≤◌, List, [], ◌∷◌, ◌++◌, length, reverse, sym, ap, ◌∙◌, subst, inl, inr, arith, Some}
use Rattle.fak_queue.proofs.BundleClaims.{pair_item, item_there}
use Rattle.fak_queue.proofs.BundlePlaces.{own_mark}
use Rattle.fak_queue.proofs.LastMarks.{last_of_ends}

module _ (T : Type 0) {B : Type 0} (ns : List ℕ) (xs : List B) (apart : AreApart ns) (fit : length xs ≤ length ns) where
  outside : (i n : ℕ) → item_at ns i ≡ Some n → length xs ≤ i → In n (names_of (pair_up ns xs)) → ⊥
  outside i n e high z =
      let back : length xs + (i - length xs) ≡ i = omega (arith, high) in
      let rest : In n (drop (length xs) ns) = item_in (drop (length xs) ns) (i - length xs) n (item_drop ns (length xs) (i - length xs) ∙ (ap (item_at ns) back ∙ e)) in
      from_rest T ns xs apart fit n z (subst (In n) (sym (idle_names T (drop (length xs) ns))) rest)

  -- the one mark of a name that takes part, and none of the others
  mark_each : (f : Kind T) (i n : ℕ) → item_at ns i ≡ Some n → i < length xs → marks_of seat_of n (marks_on (λ (x : B). f) (pair_up ns xs)) ≡ mark n f ∷ []
  mark_each f i n e low =
      let x = item_there xs i low in
      own_mark (λ (x : B). f) (pair_up ns xs) i n x.0 (once T ns xs apart fit) (pair_item ns xs i n x.0 e x.1)

  mark_none : (f : Kind T) (i n : ℕ) → item_at ns i ≡ Some n → length xs ≤ i → marks_of seat_of n (marks_on (λ (x : B). f) (pair_up ns xs)) ≡ []
  mark_none f i n e high = no_marks (λ (x : B). f) (pair_up ns xs) n (outside i n e high)

among : {T : Type 0} (ns : List ℕ) (m : QueueHolder T) → m.0.names ≡ ns → (i n : ℕ) → item_at ns i ≡ Some n → In n m.0.names
among ns m own i n e = subst (In n) (sym own) (item_in ns i n e)

-- what was before the first mark of the first name
first_on : {T B : Type 0} (f : B → Kind T) (ss : List (ℕ × B)) (n : ℕ) (x : B) → item_at ss 0 ≡ Some (n, x) → (later : List (Mark T)) × (marks_on f ss ≡ mark n (f x) ∷ later)
first_on f [] n x e = absurd cc
first_on f (s ∷ ss) n x e = let g : Some s ≡ Some (n, x) = e in let h : s ≡ (n, x) = cc in (marks_on f ss, λ j. mark (h j).0 (f (h j).1) ∷ marks_on f ss)

before_first : {T B : Type 0} (ns : List ℕ) (xs : List B) (m after : QueueHolder T) → m.0.names ≡ ns → (f : B → Kind T) (past : List (Mark T)) (n : ℕ) → item_at ns 0 ≡ Some n → 0 < length xs → NoneOwn past m
    → StandAfter past (marks_back f (pair_up ns xs)) after → before_part n 0 m after ≡ reverse past
before_first {T} {B} ns xs m after own f past n e some none stands =
    let x = item_there xs 0 some in
    let first = first_on f (pair_up ns xs) n x.0 (pair_item ns xs 0 n x.0 e x.1) in
    let turned : reverse (marks_back f (pair_up ns xs) ++ past) ≡ reverse past ++ (mark n (f x.0) ∷ first.0) = reverse-append (marks_back f (pair_up ns xs)) past ∙ ap (λ l. reverse past ++ l) (marks_turned f (pair_up ns xs) ∙ first.1) in
    let same : length (marks_of seat_of n (reverse past)) ≡ length (marks_of seat_of n (reverse m.0.seen)) + 0 = (let a = ap length (none n (among ns m own 0 n e)) in omega (arith, a)) in
    before_mark-begins (queue_rules 0) n (length (marks_of seat_of n (reverse m.0.seen)) + 0) (reverse past) (mark n (f x.0)) first.0 (reverse after.0.seen) refl same (subst (λ h. Begins h (reverse after.0.seen)) turned stands)

module _ {T B : Type 0} (size seats : ℕ) (ns : List ℕ) (xs : List B) (apart : AreApart ns) (fit : length xs ≤ length ns) (m after : QueueHolder T) (own : m.0.names ≡ ns) where
  -- the last mark is that of the last name that takes part
  last_name : (f : Kind T) (new : List (Mark T)) → EndsIn (marks_back (λ (x : B). f) (pair_up ns xs) ++ new) after → (i n : ℕ) → item_at ns i ≡ Some n → i + 1 ≡ length xs → last_of (reverse after.0.seen) ≡ Some (mark n f)
  last_name f new ends i n e last =
      let x = item_there xs i (omega (arith, last)) in
      last_of_ends (λ (x : B). f) (pair_up ns xs) i n x.0 (pair_item ns xs i n x.0 e x.1) (last ∙ sym (pair_length ns xs fit)) new after ends

  pub all_one : (f : Kind T) → NoneBurst size seats (marks_back (λ (x : B). f) (pair_up ns xs)) m after → AllMade size seats ns (length xs) (f ∷ []) m after
  all_one f c =
      let turned = marks_turned (λ (x : B). f) (pair_up ns xs) in
      let mine : (i n : ℕ) → item_at ns i ≡ Some n → marks_of seat_of n (reverse after.0.seen) ≡ marks_of seat_of n (reverse m.0.seen) ++ marks_of seat_of n (marks_on (λ (x : B). f) (pair_up ns xs)) =
      (λ i n e. c.makes.mine n (among ns m own i n e) ∙ ap (λ h. marks_of seat_of n (reverse m.0.seen) ++ marks_of seat_of n h) turned) in
      record {
        names_are = c.makes.names;
        phase = c.phase;
        left = c.left;
        slots = c.makes.slots;
        begins = c.makes.begins;
        lawful = record { lawful = c.makes.lawful; named = c.makes.named };
        each = λ i n e low. mine i n e ∙ ap (λ h. marks_of seat_of n (reverse m.0.seen) ++ h) (mark_each T ns xs apart fit f i n e low);
        others = λ i n e high. mine i n e ∙ ap (λ h. marks_of seat_of n (reverse m.0.seen) ++ h) (mark_none T ns xs apart fit f i n e high);
        last = last_name f [] (subst (λ l. EndsIn l after) (sym (append-nil (marks_back (λ (x : B). f) (pair_up ns xs)))) c.ends);
      }

  -- g is the older of two marks
  pub all_two : (f g : Kind T) → NoneBurst size seats (marks_back (λ (x : B). f) (pair_up ns xs) ++ marks_back (λ (x : B). g) (pair_up ns xs)) m after → AllMade size seats ns (length xs) (g ∷ f ∷ []) m after
  all_two f g c =
      let F = marks_on (λ (x : B). f) (pair_up ns xs) in
      let G = marks_on (λ (x : B). g) (pair_up ns xs) in
      let turned : reverse (marks_back (λ (x : B). f) (pair_up ns xs) ++ marks_back (λ (x : B). g) (pair_up ns xs)) ≡ G ++ F =
      reverse-append (marks_back (λ (x : B). f) (pair_up ns xs)) (marks_back (λ (x : B). g) (pair_up ns xs)) ∙ (λ q. marks_turned (λ (x : B). g) (pair_up ns xs) q ++ marks_turned (λ (x : B). f) (pair_up ns xs) q) in
      let mine : (i n : ℕ) → item_at ns i ≡ Some n → marks_of seat_of n (reverse after.0.seen) ≡ marks_of seat_of n (reverse m.0.seen) ++ (marks_of seat_of n G ++ marks_of seat_of n F) =
      (λ i n e. c.makes.mine n (among ns m own i n e) ∙ ap (λ h. marks_of seat_of n (reverse m.0.seen) ++ h) (ap (marks_of seat_of n) turned ∙ marks_of_append seat_of n G F)) in
      record {
        names_are = c.makes.names;
        phase = c.phase;
        left = c.left;
        slots = c.makes.slots;
        begins = c.makes.begins;
        lawful = record { lawful = c.makes.lawful; named = c.makes.named };
        each = λ i n e low. mine i n e ∙ ap (λ h. marks_of seat_of n (reverse m.0.seen) ++ h) (λ q. mark_each T ns xs apart fit g i n e low q ++ mark_each T ns xs apart fit f i n e low q);
        others = λ i n e high. mine i n e ∙ ap (λ h. marks_of seat_of n (reverse m.0.seen) ++ h) (λ q. mark_none T ns xs apart fit g i n e high q ++ mark_none T ns xs apart fit f i n e high q);
        last = last_name f (marks_back (λ (x : B). g) (pair_up ns xs)) c.ends;
      }

pub refuses_on : {T : Type 0} (size seats : ℕ) (ns : List ℕ) (xs : List T) → AreApart ns → length xs ≤ length ns → 0 < length xs → (m after : QueueHolder T) → m.0.names ≡ ns → (r : NoRoom) → RefusedBurst size seats ns xs r m after → RefusesOn size seats ns (length xs) r m after
refuses_on size seats ns xs apart fit some m after own (Full u) (past, is, none, inl c) = (inl (all_one size seats ns xs apart fit m after own made.NoRoom c.0), λ n e. is ∙ ap upper_count (sym (before_first ns xs m after own (λ x. made.NoRoom) past n e some none c.1)))
refuses_on size seats ns xs apart fit some m after own (Full u) (past, is, none, inr c) = (inr (all_two size seats ns xs apart fit m after own made.BackIn made.OverIn c.0), λ n e. is ∙ ap upper_count (sym (before_first ns xs m after own (λ x. made.OverIn) past n e some none c.1)))
refuses_on size seats ns xs apart fit some m after own Shut (inl c) = inl (all_one size seats ns xs apart fit m after own made.Closed c)
refuses_on size seats ns xs apart fit some m after own Shut (inr c) = inr (all_two size seats ns xs apart fit m after own made.BackIn made.LateIn c)

pub refuses_out_on : {T : Type 0} (size seats : ℕ) (ns : List ℕ) (us : List (Unit {0})) → AreApart ns → length us ≤ length ns → 0 < length us → (m after : QueueHolder T) → m.0.names ≡ ns → (l : ℤ) → RefusedOutBurst size seats ns us l m after → RefusesOutOn size seats ns (length us) l m after
refuses_out_on size seats ns us apart fit some m after own l (past, is, none, inl c) = (inl (all_one size seats ns us apart fit m after own made.NoItem c.0), λ n e. is ∙ ap lower_count (sym (before_first ns us m after own (λ x. made.NoItem) past n e some none c.1)))
refuses_out_on size seats ns us apart fit some m after own l (past, is, none, inr c) = (inr (all_two size seats ns us apart fit m after own made.BackOut made.OverOut c.0), λ n e. is ∙ ap lower_count (sym (before_first ns us m after own (λ x. made.OverOut) past n e some none c.1)))
