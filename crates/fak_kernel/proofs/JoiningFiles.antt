-- The seats of a file table are joined, and their lines replay.
use Rattle.std.proofs.lemmas.List.{append-nil}
use Rattle.fak_kernel.proofs.Common.{JoinedTo, FileHold, AreHolds, held_kinds, hold_line, gather_from, AreLines, Left, FilesJoined, ◌≡◌, ℕ, zero, suc, ◌+◌, ◌<◌, ◌≤◌, Bool, true, false, cond, nat_lt, List, [], ◌∷◌, ◌++◌, refl, ap, sym, ◌∙◌, subst, arith, inl, inr, append_assoc, map, sum_by, nat_tests, sum_by-append, AreNamed, seat_of, file_rules, IsFileHistory, SeatInfo, TallyInfo, IsJoined, tally_of, In, Knows, marks_of, FileMark, NoteOf}
use Rattle.fak_run.proofs.Holding.{held-left, reads-left}
use Rattle.fak_run.proofs.GatheredHolds.{gather_same}

-- ---- what the whole history says

-- the holds of a name are those in the whole history
holds_known : (n k name : ℕ) (holds : List FileHold) (seen h : List FileMark) (s : SeatInfo FileMark) → AreHolds n k name holds seen → Knows seat_of (name ∷ []) seen h → AreHolds n k name holds h
holds_known n k name holds seen h s are l =
    let t : SeatInfo FileMark = record s { name = name; seen = seen } in
    let u : SeatInfo FileMark = record s { name = name; seen = h } in
    let more : Left [] t u = record { same_seat = refl; begins = l.begins; mine = l.own name (inl refl) ∙ sym (append-nil (marks_of seat_of name seen)) } in
    record {
      kinds = held-left [] t u more ∙ (append-nil (held_kinds name seen) ∙ are.kinds);
      reads = reads-left n [] t u more refl ∙ are.reads;
      fit = are.fit;
    }

-- the marks of some names determine those of each
known_one : (n : ℕ) (names : List ℕ) (seen h : List FileMark) → Knows seat_of names seen h → In n names → Knows seat_of (n ∷ []) seen h
known_one n names seen h k i = record {
  begins = k.begins;
  own = λ j e. elim e [
    | inl same ↦ k.own j (subst (λ (x : ℕ). In x names) (sym same) i)
    | inr none ↦ absurd none
  ];
}

-- ---- lists

gather_push : {A : Type 0} (f : ℕ → List A) (first n : ℕ) → gather_from f first (suc n) ≡ gather_from f first n ++ f (first + n)
gather_push f first zero = let plus : first ≡ first + 0 = omega arith in append-nil (f first) ∙ ap f plus
gather_push {A} f first (suc n) =
    let next : suc first + n ≡ first + suc n = omega arith in
    let rest : gather_from f (suc first) (suc n) ≡ gather_from f (suc first) n ++ f (first + suc n) = gather_push f (suc first) n ∙ ap (λ k. gather_from f (suc first) n ++ f k) next in
    ap (λ l. f first ++ l) rest ∙ sym (append_assoc (f first) (gather_from f (suc first) n) (f (first + suc n)))

-- ---- one seat, and one more

pub files_first : (n seats : ℕ) (s : SeatInfo FileMark) (lines : List NoteOf) → s.name ≡ 0 → s.object.seats ≡ seats → AreLines n lines s → FilesJoined n seats 1 (tally_of s) lines
files_first n seats s lines name seats_are x = record {
  holds = λ k. x.holds;
  are = λ k below.
      let zeroth : s.name ≡ k = omega (arith, below, name) in
      subst (λ (y : ℕ). AreHolds n seats y x.holds s.seen) zeroth (subst (λ (y : ℕ). AreHolds n y s.name x.holds s.seen) seats_are x.are);
  lawful = subst (λ (y : ℕ). IsFileHistory y s.seen) seats_are x.lawful;
  named = subst (λ (y : ℕ). AreNamed (file_rules y) y s.seen) seats_are x.named;
  often = λ weight. ap (sum_by weight) (append-nil (map hold_line x.holds) ∙ x.lines_are);
}

module _ {n seats k : ℕ} {t both : TallyInfo FileMark} {s : SeatInfo FileMark} {lines more : List NoteOf} where
  pub files_more : FilesJoined n seats k t lines → JoinedTo k t.names → s.name ≡ k → s.object.seats ≡ seats → both.object.seats ≡ seats → IsJoined (file_rules seats) t s both → AreLines n more s → FilesJoined n seats (suc k) both (lines ++ more)
  files_more f names name seats_are both_are j x = record {
    holds = holds;
    are = λ i below. are i below (nat_lt i k) refl;
    lawful = j.lawful;
    named = subst (λ (y : ℕ). AreNamed (file_rules seats) y both.seen) both_are j.named;
    often = often;
  }
    where
      holds : ℕ → List FileHold
      holds i = cond (nat_lt i k) (f.holds i) x.holds

      are : (i : ℕ) → i < suc k → (b : Bool) → nat_lt i k ≡ b → AreHolds n seats i (holds i) both.seen
      are i below true is =
          let low : i < k = grind (arith, nat_tests) in
          let old : AreHolds n seats i (f.holds i) both.seen = holds_known n seats i (f.holds i) t.seen both.seen s (f.are i low) (known_one i t.names t.seen both.seen j.of_tally (names.has i low)) in
          rw is old
      are i below false is =
          let last : s.name ≡ i = grind (arith, nat_tests, below, name) in
          let here : AreHolds n seats s.name x.holds s.seen = subst (λ (y : ℕ). AreHolds n y s.name x.holds s.seen) seats_are x.are in
          let there : AreHolds n seats s.name x.holds both.seen = holds_known n seats s.name x.holds s.seen both.seen s here j.of_seat in
          let new : AreHolds n seats i x.holds both.seen = subst (λ (y : ℕ). AreHolds n seats y x.holds both.seen) last there in
          rw is new

      before : (i : ℕ) → 0 ≤ i → i < 0 + k → map hold_line (holds i) ≡ map hold_line (f.holds i)
      before i low high = let is : nat_lt i k ≡ true = grind (arith, nat_tests) in rw is refl

      often : (weight : NoteOf → ℕ) → sum_by weight (gather_from (λ i. map hold_line (holds i)) 0 (suc k)) ≡ sum_by weight (lines ++ more)
      often weight =
          let own : nat_lt k k ≡ false = grind (arith, nat_tests) in
          let plus : 0 + k ≡ k = omega arith in
          let here : map hold_line (holds k) ≡ more = rw own x.lines_are in
          let last : map hold_line (holds (0 + k)) ≡ more = ap (λ j. map hold_line (holds j)) plus ∙ here in
          let same : gather_from (λ i. map hold_line (holds i)) 0 k ≡ gather_from (λ i. map hold_line (f.holds i)) 0 k = gather_same (λ i. map hold_line (holds i)) (λ i. map hold_line (f.holds i)) 0 k before in
          let split = gather_push (λ i. map hold_line (holds i)) 0 k in
          let whole : gather_from (λ i. map hold_line (holds i)) 0 (suc k) ≡ gather_from (λ i. map hold_line (f.holds i)) 0 k ++ more = split ∙ (λ i. same i ++ last i) in
          ap (sum_by weight) whole ∙ (sum_by-append weight (gather_from (λ i. map hold_line (f.holds i)) 0 k) more ∙ (ap (λ y. y + sum_by weight more) (f.often weight) ∙ sym (sum_by-append weight lines more)))
