use Rattle.fak_processor.proofs.Common.{◌≡◌, ◌++◌, length, map, into_iter_items}
use Rattle.fak_processor.specs.Opened.{dealt_to}
use Rattle.fak_processor.proofs.undealt.deal.Given as goal

abbrev pub invariant-loop-row : goal.invariant-loop-row
invariant-loop-row g l =
    (map (λ row. row.items) l.dealt.items ++ dealt_to (map (λ row. row.items) (into_iter_items l.row-iterator)) l.seats.rest.items ≡ dealt_to (map (λ row. row.items) l.fn.rows.items) l.fn.seats.items)
    × (length (into_iter_items l.row-iterator) ≡ length l.seats.rest.items)
