-- What joined seats of a file table know.
use Rattle.fak_files.proofs.Common.{◌≡◌, ℕ, List, [], ◌∷◌, sym, subst, inl, inr, FileMark, words_by, Owes, seat_of, kind_of, kinds_of_call, file_rules, IsFileHistory, AreBetweenCalls, SeatInfo, TallyInfo, IsJoined, rest_joined, IsSettled}

-- this one name is between two calls
pub settled_one : (seats name : ℕ) (seen : List FileMark) → Owes kinds_of_call (words_by seat_of kind_of name seen) [] → AreBetweenCalls (file_rules seats) (name ∷ []) seen
settled_one seats name seen rest n (inl is) = subst (λ (k : ℕ). Owes kinds_of_call (words_by seat_of kind_of k seen) []) (sym is) rest
settled_one seats name seen rest n (inr none) = absurd none

-- a seat that holds nothing was joined
pub settled_joined : (k seats : ℕ) → seats ≡ k → {t both : TallyInfo FileMark} {s : SeatInfo FileMark} → IsJoined (file_rules k) t s both → IsSettled seats t.names t.seen → Owes kinds_of_call (words_by seat_of kind_of s.name s.seen) []
    → IsSettled seats both.names both.seen
settled_joined k seats same {t} {both} {s} j old rest = record {
  lawful = subst (λ (n : ℕ). IsFileHistory n both.seen) (sym same) j.lawful;
  rest = rest_joined (file_rules k) j old.rest (settled_one seats s.name s.seen rest);
}
