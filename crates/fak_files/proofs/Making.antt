-- What the steps of a call do together, in the words of contracts.
use Rattle.fak_model.specs.File.{seat_of, count, file_rules}
use Rattle.fak_files.proofs.Common.{FilePhase, Idle, FileLimits, ◌≡◌, ℕ, ◌+◌, List, [], ◌∷◌, length, refl, ap, sym, ◌∙◌, arith, inl, inr, reverse, map, ℤ, pos, ◌+ℤ◌, append-nil, ints, marks_of, ObjectId, object_id, seat_info, IsSeatToken, bias, FileKind, Over, Back, No, FileMark, token_names, appends_then, appends_none, step_appends, step_before, FileHolder, mark, Steps, CountIs, Makes, Misses, before_steps, begins_self}

-- some object of this many seats
abbrev pub some_object : ℕ → ObjectId
some_object seats = object_id (record { words = 0; slots = 0; views_name = 0; atom = 0; block = 0; offset = 0; slot_names = [] }) seats

module _ (table : FileLimits) (name : ℕ) where
  -- a load
  pub makes_none : {was phase : FilePhase} {tells : List FileMark → Type 0} {m after : FileHolder} → IsSeatToken seat_of table.seats name was 0 m → Steps table name m [] phase tells after → Makes table.seats name [] phase m after
  makes_none token step = record { appends = λ object stint seats. step_appends step.leaves name (token_names token) tt object stint seats; token = step.token }

  -- a step with one mark
  pub makes_one : {was phase : FilePhase} {tells : List FileMark → Type 0} {m after : FileHolder} (kind : FileKind) → IsSeatToken seat_of table.seats name was 0 m → Steps table name m (mark name kind ∷ []) phase tells after → Makes table.seats name (kind ∷ []) phase m after
  makes_one kind token step = record { appends = λ object stint seats. step_appends step.leaves name (token_names token) (refl, tt) object stint seats; token = step.token }

  module _ {p q : FilePhase} {a b c : FileHolder} where
    pub none_then : (kinds : List FileKind) → Makes table.seats name [] p a b → Makes table.seats name kinds q b c → Makes table.seats name kinds q a c
    none_then kinds x y = record {
      appends = λ object stint seats. appends_none (file_rules table.seats) (map (mark name) kinds) (seat_info object name stint (reverse a.0.seen)) (seat_info object name stint (reverse b.0.seen)) (seat_info object name stint (reverse c.0.seen)) (x.appends object stint seats) (y.appends object stint seats);
      token = y.token;
    }

    pub one_then : (k j : FileKind) → Makes table.seats name (k ∷ []) p a b → Makes table.seats name (j ∷ []) q b c → Makes table.seats name (k ∷ j ∷ []) q a c
    one_then k j x y = record {
      appends = λ object stint seats. appends_then (file_rules table.seats) (mark name k ∷ []) (mark name j) [] (seat_info object name stint (reverse a.0.seen)) (seat_info object name stint (reverse b.0.seen)) (seat_info object name stint (reverse c.0.seen)) (x.appends object stint seats) (y.appends object stint seats);
      token = y.token;
    }

  -- the history before the first mark of several steps, if the first step is a load and more steps follow the mark
  pub before_one : {was p q : FilePhase} {tells : List FileMark → Type 0} {a b c d : FileHolder} (kind : FileKind) (kinds : List FileKind) → Makes table.seats name [] was a b → (step : Steps table name b (mark name kind ∷ []) p tells c) → Makes table.seats name kinds q c d → before_steps name a d ≡ reverse step.leaves.past
  before_one {a = a} {b} {c} {d} kind kinds x step y =
      let one = x.appends (some_object table.seats) 0 refl in
      let more = y.appends (some_object table.seats) 0 refl in
      let same : length (marks_of seat_of name (reverse b.0.seen)) ≡ length (marks_of seat_of name (reverse a.0.seen)) + 0 = ap length (one.mine ∙ append-nil (marks_of seat_of name (reverse a.0.seen))) ∙ omega arith in
      step_before step.leaves name (token_names x.token) refl (length (marks_of seat_of name (reverse a.0.seen)) + 0) same (reverse d.0.seen) more.begins

  -- the same, if the step with the mark is the first and the last
  pub before_first : {was p : FilePhase} {tells : List FileMark → Type 0} {a b : FileHolder} (kind : FileKind) → IsSeatToken seat_of table.seats name was 0 a → (step : Steps table name a (mark name kind ∷ []) p tells b) → before_steps name a b ≡ reverse step.leaves.past
  before_first {a = a} {b} kind token step =
      let same : length (marks_of seat_of name (reverse a.0.seen)) ≡ length (marks_of seat_of name (reverse a.0.seen)) + 0 = omega arith in
      step_before step.leaves name (token_names token) refl (length (marks_of seat_of name (reverse a.0.seen)) + 0) same (reverse b.0.seen) (begins_self (reverse b.0.seen))

  -- a claim that its test refuses
  pub misses_test : {was : FilePhase} {a b : FileHolder} (n found : ℕ) (answer : ℤ) → IsSeatToken seat_of table.seats name was 0 a → Steps table name a (mark name (No n) ∷ []) Idle (CountIs table.seats found) b → pos found ≡ pos bias +ℤ answer → Misses table.seats name n a b answer
  misses_test n found answer token step is = record {
    makes = inl (makes_one (No n) token step);
    answers = omega (arith, ints, is, step.leaves.told.0) ∙ ap (count table.seats) (sym (before_first (No n) token step));
  }

  -- a claim that is withdrawn
  pub misses_take : {was p q : FilePhase} {tests tells : List FileMark → Type 0} {a b c d : FileHolder} (n found : ℕ) (answer : ℤ) → IsSeatToken seat_of table.seats name was 0 a → Steps table name a [] p tests b
      → (step : Steps table name b (mark name (Over n) ∷ []) q (CountIs table.seats found) c) → Steps table name c (mark name (Back n) ∷ []) Idle tells d → pos found ≡ pos bias +ℤ answer → Misses table.seats name n a d answer
  misses_take n found answer token test step back is =
      let x = makes_none token test in
      let y = makes_one (Over n) test.token step in
      let z = makes_one (Back n) step.token back in
      record {
        makes = inr (none_then (Over n ∷ Back n ∷ []) x (one_then (Over n) (Back n) y z));
        answers = omega (arith, ints, is, step.leaves.told.0) ∙ ap (count table.seats) (sym (before_one (Over n) (Back n ∷ []) x step z));
      }
