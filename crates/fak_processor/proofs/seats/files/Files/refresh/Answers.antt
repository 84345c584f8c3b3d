use Rattle.fak_processor.proofs.Common.{◌≡◌, ◌∙◌, ◌+◌, ◌≤◌, ℕ, [], length, rules, arith, ap, Some, got, keeps_files_then, all_read, entry_of}
use Rattle.fak_files.proofs.Closing.{read_more}
use Rattle.fak_run.proofs.Holding.{left_of, left_then, got_of}
use Rattle.fak_processor.proofs.seats.files.Files.refresh.Goals as goal

pub loop-i-preserved : goal.loop-i-preserved
loop-i-preserved c = (
  search rules,
  search rules,
  search rules,
  left_then [] [] c.args.seat.now.seat c.loop-i.seat.seat c.get.new.seat.seat c.loop-i.invariant.3 (left_of [] c.loop-i.seat.seat c.get.new.seat.seat c.get.ensures.call.leaves),
  λ just.
      let taken = got_of c.loop-i.i c.args.seat.now c.loop-i.seat c.get.new.seat c.get.result just c.loop-i.invariant.3 c.get.ensures.call in
      read_more c.loop-i.self-inside.entries.items c.loop-i.i c.get.result (entry_of c.args.seat.now.seat.seen) (search rules) taken.0 (c.loop-i.invariant.4 just),
  λ o.
      let was = c.loop-i.invariant.5 o in
      let g = got was.0.only c.get.ensures.call in
      (keeps_files_then was.0 g.0, read_more c.loop-i.self-inside.entries.items c.loop-i.i c.get.result (entry_of c.args.seat.now.seat.seen) (search rules) (g.1 ∙ was.0.each c.loop-i.i) was.1),
)

pub returns-clause-only : goal.returns-clause-only
returns-clause-only c = λ o.
    let was = c.loop-i.invariant.5 o in
    let len = c.loop-i.invariant.2 in
    let first : length c.self.inside.entries.items ≡ c.args.table.now.entries = rw (← c.self.view_is) at c.requires.fits.2 in
    let end : c.args.table.now.entries ≤ c.loop-i.i = omega (arith, first, c.loop-i-test.false, c.len-i-end.ensures, c.self.inside.entries.ok) in
    (was.0, all_read c.args.seat.now.seat.seen c.loop-i.self-inside.entries.items 0 c.args.table.now.entries len (λ j low. let zero_on : j ≡ 0 + j = omega arith in was.1 j (omega (arith, low, end)) ∙ ap (λ (k : ℕ). Some (entry_of c.args.seat.now.seat.seen k)) zero_on))

pub returns-clause-read : goal.returns-clause-read
returns-clause-read c = λ just.
    let was = c.loop-i.invariant.4 just in
    let len = c.loop-i.invariant.2 in
    let first : length c.self.inside.entries.items ≡ c.args.table.now.entries = rw (← c.self.view_is) at c.requires.fits.2 in
    let end : c.args.table.now.entries ≤ c.loop-i.i = omega (arith, first, c.loop-i-test.false, c.len-i-end.ensures, c.self.inside.entries.ok) in
    all_read c.args.seat.now.seat.seen c.loop-i.self-inside.entries.items 0 c.args.table.now.entries len (λ j low. let zero_on : j ≡ 0 + j = omega arith in was j (omega (arith, low, end)) ∙ ap (λ (k : ℕ). Some (entry_of c.args.seat.now.seat.seen k)) zero_on)
