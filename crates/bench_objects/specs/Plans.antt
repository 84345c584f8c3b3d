-- How much may be measured.
use Rattle.std.specs.Prelude.{◌≤◌}
use Rattle.bench_objects.specs.declared.case.Plan.{Plan}

-- 1 to 1,000 rounds of 1 to 10,000,000 items
abbrev pub IsInRange : Plan → Type 0
IsInRange plan = (1 ≤ plan.rounds) × (plan.rounds ≤ 1000) × (1 ≤ plan.items) × (plan.items ≤ 10000000)
