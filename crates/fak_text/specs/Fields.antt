-- The names of the keys of inputs.
use Rattle.std.specs.Prelude.{ℕ, List, codes}
use Rattle.fak_text.specs.declared.fault.Field.{Field}
use Rattle.fak_text.specs.declared.fault.Field.TheVariants as fields

abbrev pub name_of : Field → List ℕ
name_of fields.Input = codes "input"
name_of fields.Object = codes "object"
name_of fields.Bound = codes "bound"
name_of fields.Size = codes "size"
name_of fields.Seats = codes "seats"
name_of fields.Events = codes "events"
name_of fields.Marks = codes "marks"
name_of fields.Version = codes "version"
name_of fields.Slots = codes "slots"
name_of fields.Births = codes "births"
name_of fields.Quantum = codes "quantum"
name_of fields.Stint = codes "stint"
name_of fields.Semaphores = codes "semaphores"
name_of fields.Files = codes "files"
name_of fields.Programs = codes "programs"
name_of fields.Start = codes "start"
