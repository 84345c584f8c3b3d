-- A command that is served from bytes to bytes.
use Rattle.std.proofs.Common.{◌≡◌, ℕ, List, [], ◌++◌, Some, Ok, ap, sym, subst, ◌∙◌}
use Rattle.std.proofs.lemmas.List.{append-nil}
use Rattle.std.specs.Io.KnownBytes.{Appends}
use Rattle.fak_replay.specs.declared.command.Command.{Command}
use Rattle.fak_replay.specs.Answers.{IsRead, IsReply}

-- a reader of known bytes that was read to its end gave them all, and a writer that held nothing holds the text
pub serves_all : (command : Command) (all left nothing written : List ℕ) (status : ℕ) → nothing ≡ []
    → ((input text : List ℕ) × IsRead (Some all) (Some left) input × IsReply command input (Ok (status, text)) × Appends (Some nothing) (Some written) text)
    → IsReply command all (Ok (status, written))
serves_all command all left nothing written status none served =
    let input = served.0 in
    let text = served.1 in
    let is : all ≡ input = served.2.0 ∙ ap (λ (t : List ℕ). input ++ t) served.2.1 ∙ append-nil input in
    let wrote : written ≡ text = served.4 ∙ ap (λ (t : List ℕ). t ++ text) none in
    subst (λ (bytes : List ℕ). IsReply command bytes (Ok (status, written))) (sym is)
    (subst (λ (bytes : List ℕ). IsReply command input (Ok (status, bytes))) (sym wrote) served.3)
