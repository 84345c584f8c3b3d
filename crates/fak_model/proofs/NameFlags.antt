-- Flags for the names of seats.
use Rattle.fak_model.proofs.Common.{common_steps, arith, ◌≡◌, ◌⊎◌, ℕ, zero, suc, ◌<◌, List, length, Bool, true, false, true≢false, slice_index_or, slice_set, replicate, sym, ◌↔◌, get_or-set_same, get_or-set_other}
use mathlib.Core.Logic.{dite}

pub flags_none : (k n : ℕ) → slice_index_or (replicate k false) n false ≡ true → ⊥
flags_none zero n e = true≢false (sym e)
flags_none (suc k) zero e = true≢false (sym e)
flags_none (suc k) (suc n) e = flags_none k n e

pub flags_set : (flags : List Bool) (name n : ℕ) → name < length flags → (slice_index_or (slice_set flags name true) n false ≡ true) ↔ ((slice_index_or flags n false ≡ true) ⊎ (n ≡ name))
flags_set flags name n low = grind (arith, common_steps, dite, get_or-set_other, slice_index_or, slice_set, get_or-set_same)
