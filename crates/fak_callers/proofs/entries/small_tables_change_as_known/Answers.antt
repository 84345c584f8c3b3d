use Rattle.std.proofs.Common.{◌∙◌, false, List, Option, ℕ, ap}
use Rattle.fak_model.specs.declared.file.FileEntry.{FileEntry}
use Rattle.fak_text.specs.Journal.{statted}
use Rattle.fak_run.specs.Files.{FileChange, close_change, uses_of}
use Rattle.fak_run.specs.SmallSteps.{on_turn, turn_after}
use Rattle.fak_callers.proofs.entries.small_tables_change_as_known.Goals as goal

pub returns-clause-first : goal.returns-clause-first
returns-clause-first c = ap (λ (change : FileChange). change.entries) c.the_rules_of_a_file_table_are_known.ensures.first

pub returns-clause-beside : goal.returns-clause-beside
returns-clause-beside c = ap (λ (change : FileChange). change.entry) c.the_rules_of_a_file_table_are_known.ensures.beside

pub returns-clause-full : goal.returns-clause-full
returns-clause-full c = ap (λ (change : FileChange). change.entry) c.the_rules_of_a_file_table_are_known.ensures.full

pub returns-clause-most : goal.returns-clause-most
returns-clause-most c = ap (λ (change : FileChange). change.entries) c.the_rules_of_a_file_table_are_known.ensures.most

pub returns-clause-too_often : goal.returns-clause-too_often
returns-clause-too_often c = ap (λ (change : FileChange). change.entries) c.the_rules_of_a_file_table_are_known.ensures.too_often

pub returns-clause-frees : goal.returns-clause-frees
returns-clause-frees c = ap (λ (change : FileChange). change.entries) c.the_rules_of_a_file_table_are_known.ensures.frees

pub returns-clause-unopened : goal.returns-clause-unopened
returns-clause-unopened c = ap (λ (change : FileChange). change.entry) c.the_rules_of_a_file_table_are_known.ensures.unopened

pub returns-clause-back : goal.returns-clause-back
returns-clause-back c =
    ap (λ (change : FileChange). (close_change change.entries 7).entries) c.the_rules_of_a_file_table_are_known.ensures.again ∙ ap (λ (change : FileChange). change.entries) c.the_rules_of_a_file_table_are_known.ensures.closes

pub returns-clause-stat : goal.returns-clause-stat
returns-clause-stat c script s t is =
    c.each_step_of_a_turn_is_known.ensures.statted script s t 7
    ∙ ap (λ (uses : Option ℕ). on_turn s (turn_after t (statted 7 uses) false)) (ap (λ (entries : List FileEntry). uses_of entries 7) is ∙ c.the_rules_of_a_file_table_are_known.ensures.stat)

pub returns-clause-no_stat : goal.returns-clause-no_stat
returns-clause-no_stat c script s t is =
    c.each_step_of_a_turn_is_known.ensures.statted script s t 8
    ∙ ap (λ (uses : Option ℕ). on_turn s (turn_after t (statted 8 uses) false)) (ap (λ (entries : List FileEntry). uses_of entries 8) is ∙ c.the_rules_of_a_file_table_are_known.ensures.no_stat)
