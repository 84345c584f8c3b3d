use Rattle.std.proofs.Common.{◌∙◌, ℕ, List, [], ◌∷◌, ◌++◌, codes, decimal, refl, ap, arith}
use Rattle.fak_text.specs.Journal.{no_birth, said, spawned, upped}
use Rattle.fak_text.specs.JournalText.{journal_line, text_of_journal}
use Rattle.fak_callers.proofs.texts.a_journal_is_its_lines.Goals as goal

abbrev name : List ℕ
name = 0 ∷ 3 ∷ []

pub returns-clause-text : goal.returns-clause-text
returns-clause-text c text =
    let first = c.each_journal_has_its_lines.ensures.said name text in
    let second = c.each_journal_has_its_lines.ensures.others name (upped 12) refl in
    let third = c.each_journal_has_its_lines.ensures.child name 1 in
    let last = c.each_journal_has_its_lines.ensures.order name (spawned 1) [] ∙ ap (λ (line : List ℕ). line ++ text_of_journal name []) third in
    let more = c.each_journal_has_its_lines.ensures.order name (upped 12) (spawned 1 ∷ []) ∙ (ap (λ (line : List ℕ). line ++ text_of_journal name (spawned 1 ∷ [])) second ∙ ap (λ (rest : List ℕ). journal_line decimal (upped 12) ++ rest) last) in
    c.each_journal_has_its_lines.ensures.order name (said text) (upped 12 ∷ spawned 1 ∷ [])
    ∙ (ap (λ (line : List ℕ). line ++ text_of_journal name (upped 12 ∷ spawned 1 ∷ [])) first ∙ ap (λ (rest : List ℕ). codes "  " ++ (codes "say " ++ text) ++ codes "\n" ++ rest) more)

pub returns-clause-children : goal.returns-clause-children
returns-clause-children c =
    let first = c.each_spawn_is_counted.ensures.spawned 0 (no_birth ∷ upped 12 ∷ spawned 1 ∷ []) in
    let second = c.each_spawn_is_counted.ensures.others no_birth (upped 12 ∷ spawned 1 ∷ []) (λ j is. absurd (cc (is))) in
    let third = c.each_spawn_is_counted.ensures.others (upped 12) (spawned 1 ∷ []) (λ j is. absurd (cc (is))) in
    let fourth = c.each_spawn_is_counted.ensures.spawned 1 [] in
    omega (arith, first, second, third, fourth, c.each_spawn_is_counted.ensures.none)
