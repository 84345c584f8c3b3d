-- What the checker of histories returns, and what it remembers.
use Rattle.std.specs.Prelude.{ℕ, ◌≡◌, ◌+◌, ◌<◌, ◌≤◌, ◌↔◌, IsTrue, true, List, length, reverse, take, Option, Some, None}
use Rattle.fak_model.specs.declared.checker.counts.Counts.{Counts}
use Rattle.fak_model.specs.declared.queue.Kind.{Kind}
use Rattle.fak_model.specs.declared.queue.Kind.TheVariants.{ClaimIn, OverIn, BackIn, Put, Fill, EndIn, ClaimOut, OverOut, BackOut, Got, Take, EndOut, Close, LateIn}
use Rattle.fak_model.specs.declared.queue.Mark.{Mark}
use Rattle.fak_model.specs.declared.queue.Stage.{Stage}
use Rattle.fak_model.specs.declared.queue.Stage.TheVariants.{Idle, Withdrawing, Claimed, Putting, Filled, WithdrawingOut, ClaimedOut, Getting, Taken}
use Rattle.fak_model.specs.Queue.{IsQueueHistory, Has, count, puts, gots, upper_raise, upper_drop, lower_raise, lower_drop}
use Rattle.fak_model.specs.QueuePast.{item_of}

-- the first i marks are a legal history, and the first i + 1 are not
pub record FirstFault {T : Type 0} (size : ℕ) (h : List (Mark T)) (i : ℕ) : Type 0 where
  pub inside : i < length h
  pub before : IsQueueHistory size (take i h)
  pub fault : IsQueueHistory size (take (i + 1) h) → ⊥

-- the counts of these marks
pub record AreCounts (h : List (Mark ℕ)) (c : Counts) : Type 0 where
  pub upper_raises_are : c.upper_raises ≡ count upper_raise (reverse h)
  pub upper_drops_are : c.upper_drops ≡ count upper_drop (reverse h)
  pub lower_raises_are : c.lower_raises ≡ count lower_raise (reverse h)
  pub lower_drops_are : c.lower_drops ≡ count lower_drop (reverse h)
  pub puts_are : c.puts ≡ count puts (reverse h)
  pub gots_are : c.gots ≡ count gots (reverse h)
  pub shut_is : IsTrue c.is_shut ↔ Has Close (reverse h)
  pub oldest_within : c.oldest ≤ length h
  pub oldest_is : count puts (reverse (take c.oldest h)) ≡ c.gots

-- the stage of a seat whose newest mark has this kind, if this many Puts and Gots come before that mark
abbrev pub stage_with : ℕ → ℕ → Kind ℕ → Stage ℕ
stage_with p g ClaimIn = Claimed
stage_with p g OverIn = Withdrawing
stage_with p g LateIn = Withdrawing
stage_with p g (Put x) = Putting p x
stage_with p g (Fill k) = Filled k
stage_with p g ClaimOut = ClaimedOut
stage_with p g OverOut = WithdrawingOut
stage_with p g (Got x) = Getting g
stage_with p g (Take k) = Taken k
stage_with p g _ = Idle

-- the Put at index i has the item x and draws this ticket
pub record IsPutAt (h : List (Mark ℕ)) (ticket i x : ℕ) : Type 0 where
  pub inside : i < length h
  pub item : item_of (reverse h) ticket ≡ Some x
  pub behind : count puts (reverse (take (i + 1) h)) ≡ ticket + 1

abbrev pub IsNextPut : List (Mark ℕ) → ℕ → Option (ℕ × ℕ) → Type 0
IsNextPut h from None = item_of (reverse h) (count puts (reverse (take from h))) ≡ None
IsNextPut h from (Some p) = IsPutAt h (count puts (reverse (take from h))) p.0 p.1

-- the counts after a mark of this kind, except for the index of the oldest item left
abbrev pub counts_with : Counts → Kind ℕ → Counts
counts_with c ClaimIn = record c { upper_raises = c.upper_raises + 1 }
counts_with c OverIn = record c { upper_raises = c.upper_raises + 1 }
counts_with c LateIn = record c { upper_raises = c.upper_raises + 1 }
counts_with c BackIn = record c { upper_drops = c.upper_drops + 1 }
counts_with c EndOut = record c { upper_drops = c.upper_drops + 1 }
counts_with c EndIn = record c { lower_raises = c.lower_raises + 1 }
counts_with c BackOut = record c { lower_raises = c.lower_raises + 1 }
counts_with c ClaimOut = record c { lower_drops = c.lower_drops + 1 }
counts_with c OverOut = record c { lower_drops = c.lower_drops + 1 }
counts_with c (Put x) = record c { puts = c.puts + 1 }
counts_with c (Got x) = record c { gots = c.gots + 1 }
counts_with c Close = record c { is_shut = true }
counts_with c _ = c

-- each count is below n
pub record AreBelow (c : Counts) (n : ℕ) : Type 0 where
  pub upper_raises : c.upper_raises < n
  pub upper_drops : c.upper_drops < n
  pub lower_raises : c.lower_raises < n
  pub lower_drops : c.lower_drops < n
  pub puts : c.puts < n
  pub gots : c.gots < n
