-- The numbers of the frames of a machine.
use Rattle.std.proofs.Common.{◌≡◌, ℕ, ◌+◌, ◌==◌, cond, arith}
use Rattle.std.proofs.lemmas.Bool.Decides.{nat_tests}
use Rattle.example_frames.specs.Frames.{one_of}

-- a machine without frames has none
pub no_frame : (n : ℕ) → one_of 0 n ≡ 0
no_frame n = grind (arith, nat_tests)

-- one frame more
pub next_one : (frames n : ℕ) → one_of (frames + 1) n ≡ one_of frames n + cond (frames == n) 1 0
next_one frames n = grind (arith, nat_tests)
