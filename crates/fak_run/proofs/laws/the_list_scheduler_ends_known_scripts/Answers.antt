use Rattle.fak_run.proofs.Common.{refl}
use Rattle.fak_run.proofs.laws.the_list_scheduler_ends_known_scripts.Goals as goal

pub returns : goal.returns
returns c = record {
  wakes = record { count = 51; reached = refl; still = refl };
  children = record { count = 74; reached = refl; still = refl };
  sleepers = record { count = 62; reached = refl; still = refl };
  slots = record { count = 47; reached = refl; still = refl };
  stuck = record { count = 42; reached = refl; still = refl };
  most_units = record { count = 40; reached = refl; still = refl };
  shut = record { count = 47; reached = refl; still = refl };
  halted_child = record { count = 44; reached = refl; still = refl };
  files = record { count = 49; reached = refl; still = refl };
  unborn = record { count = 40; reached = refl; still = refl };
  slotless = record { count = 40; reached = refl; still = refl };
  long_turn = record { count = 50; reached = refl; still = refl };
  late = record { count = 40; reached = refl; still = refl };
  counted = record { count = 40; reached = refl; still = refl };
}
