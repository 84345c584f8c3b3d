-- What a reader returns, compared with what it should return.
use Rattle.std.specs.Prelude.{◌≡◌, Result, Ok, Err}
use Rattle.fak_text.specs.declared.fault.TextFault.{TextFault}
use Rattle.fak_text.specs.declared.fault.TextFault.TheVariants as faults

-- one reading, and then the next of its value
infixl 10 ◌>>=◌
abbrev pub ◌>>=◌ : {A B : Type 0} → Result A TextFault → (A → Result B TextFault) → Result B TextFault
(Ok x) >>= f = f x
(Err e) >>= f = Err e

-- the fault is the one of the reading, unless memory ran out
abbrev pub Fails : {Y : Type 0} → TextFault → Result Y TextFault → Type 0
Fails faults.Memory reading = Unit {0}
Fails faults.NotJson reading = reading ≡ Err faults.NotJson
Fails (faults.Missing f) reading = reading ≡ Err (faults.Missing f)
Fails (faults.Range f) reading = reading ≡ Err (faults.Range f)
Fails (faults.UnknownOp i) reading = reading ≡ Err (faults.UnknownOp i)

-- what a function returned, seen by `plain`, is the reading, unless memory ran out
abbrev pub Gives : {X Y : Type 0} → (X → Y) → Result X TextFault → Result Y TextFault → Type 0
Gives plain (Ok x) reading = reading ≡ Ok (plain x)
Gives plain (Err e) reading = Fails e reading
