-- The front of an input that comes in pieces.
use Rattle.std.proofs.Common.{◌≡◌, ℕ, ◌+◌, ◌-◌, ◌<◌, ◌≤◌, Bool, true, false, min, List, [], ◌++◌, length, take, Option, Some, None, Result, Ok, Err, refl, sym, ap, ◌∙◌, append_assoc, subst, arith, ltb-true, ltb-false, lt-ltb}
use Rattle.std.proofs.Math.Seq.{take-append-add}
use Rattle.std.proofs.lemmas.List.{take-append-le, take_min, length-take, length-take-le, take_all, append-nil}
use Rattle.std.proofs.Math.Dec.{ltb}
use Rattle.std.specs.Io.KnownBytes.{Consumes, IsAtEnd}
use Rattle.fak_text.specs.HistoryText.{history_from}
use Rattle.fak_text.specs.ScheduleText.{schedule_from}
use Rattle.fak_text.specs.ScriptText.{script_from}
use Rattle.fak_text.specs.Values.{most_bytes, most_kept}
use Rattle.fak_text.proofs.Common.{◌>>=◌}
use Rattle.fak_text.proofs.Front.{front_read}
use Rattle.fak_replay.specs.declared.command.Command.{Command}
use Rattle.fak_replay.specs.declared.command.Command.TheVariants.{Replay, Check, Run}
use Rattle.fak_replay.specs.declared.fault.MainFault.{MainFault}
use Rattle.fak_replay.specs.declared.fault.MainFault.TheVariants as faults
use Rattle.fak_replay.specs.Answers.{Reply, FailsBy, FailsToServe, IsCheckReply, IsRead, IsReply, IsRunReply, replay_reply}

cut : (m : ℕ) (input chunk kept : List ℕ) → kept ≡ take m input → (b : Bool) → ltb m (length input) ≡ b
    → kept ++ take (min (m - min (length kept) m) (length chunk)) chunk ≡ take m (input ++ chunk)
cut m input chunk kept e false h =
    let le : length input ≤ m = ltb-false m (length input) h in
    let whole : kept ≡ input = e ∙ take_all m input le in
    let room : m - min (length kept) m ≡ m - length input = rw whole (omega arith) in
    let sum : m ≡ length input + (m - length input) = omega arith in
    let more : take m (input ++ chunk) ≡ input ++ take (m - length input) chunk = ap (λ (n : ℕ). take n (input ++ chunk)) sum ∙ take-append-add input chunk (m - length input) in
    rw (room, take_min (m - length input) chunk, whole) (sym more)
cut m input chunk kept e true h =
    let lt : m < length input = ltb-true m (length input) h in
    let len : length kept ≡ m = ap length e ∙ length-take-le m input (omega arith) in
    let room : min (m - min (length kept) m) (length chunk) ≡ 0 = rw len (omega arith) in
    let le : m ≤ length input = omega arith in
    rw (room, take-append-le m input chunk le) (append-nil kept ∙ e)

pub front_grows : (m : ℕ) (input chunk kept : List ℕ) → kept ≡ take m input
    → kept ++ take (min (m - min (length kept) m) (length chunk)) chunk ≡ take m (input ++ chunk)
front_grows m input chunk kept e = cut m input chunk kept e (ltb m (length input)) refl

pub consumes_more : (old mid new : Option (List ℕ)) (front more : List ℕ) → Consumes old mid front → Consumes mid new more → Consumes old new (front ++ more)
consumes_more None mid new front more a b = tt
consumes_more (Some xs) None new front more a b = absurd a
consumes_more (Some xs) (Some ys) None front more a b = absurd b
consumes_more (Some xs) (Some ys) (Some zs) front more a b = a ∙ ap (λ (t : List ℕ). front ++ t) b ∙ sym (append_assoc front more zs)

pub front_grows_by : (m : ℕ) (input chunk kept : List ℕ) (len room count : ℕ) → len ≡ length kept → room ≡ m - min len m → count ≡ min room (length chunk) → kept ≡ take m input
    → kept ++ take count chunk ≡ take m (input ++ chunk)
front_grows_by m input chunk kept len room count l r c e =
    let is : count ≡ min (m - min (length kept) m) (length chunk) = rw (← l, ← r) c in
    rw is (front_grows m input chunk kept e)

-- the last read, which gave nothing
pub at_last : (old mid new : Option (List ℕ)) (front buffer kept : List ℕ) (n m : ℕ) → n ≡ 0 → Consumes old mid front → Consumes mid new (take n buffer) → IsAtEnd new → kept ≡ take m front
    → (input : List ℕ) × IsRead old new input × (kept ≡ take m input)
at_last old mid new front buffer kept n m none before read e k =
    let nothing : take n buffer ≡ [] = ap (λ (i : ℕ). take i buffer) none in
    let all : front ++ take n buffer ≡ front = ap (λ (t : List ℕ). front ++ t) nothing ∙ append-nil front in
    (front ++ take n buffer, (consumes_more old mid new front (take n buffer) before read, e), k ∙ ap (λ (t : List ℕ). take m t) (sym all))

-- the front that is kept is one byte longer than an input may be, at most
pub front_is_few : (kept input : List ℕ) → kept ≡ take most_kept input → length kept ≤ most_bytes + 1
front_is_few kept input e =
    let len : length kept ≡ min most_kept (length input) = ap length e ∙ length-take most_kept input in
    omega arith

-- the front that is kept has the replies of the whole
of_front : (command : Command) (input : List ℕ) (reply : Result Reply MainFault) → IsReply command (take most_kept input) reply → IsReply command input reply
of_front Check input reply is = subst (λ value. IsCheckReply (value >>= history_from) reply) (front_read input) is
of_front (Run n) input reply is = subst (λ value. IsRunReply n (value >>= script_from) reply) (front_read input) is
of_front Replay input reply is = subst (λ value. reply ≡ replay_reply (value >>= schedule_from)) (front_read input) is

-- the reply to the front of an input is the reply to the whole
pub serves : (old new : Option (List ℕ)) (command : Command) (kept : List ℕ) (r : Reply) (P : List ℕ → Type 0)
    → ((input : List ℕ) × IsRead old new input × (kept ≡ take most_kept input)) → IsReply command kept (Ok r) → P r.1
    → (input text : List ℕ) × IsRead old new input × IsReply command input (Ok (r.0, text)) × P text
serves old new command kept r P read e p =
    (read.0, r.1, read.1, of_front command read.0 (Ok r) (subst (λ bytes. IsReply command bytes (Ok r)) read.2 e), p)

-- and so is a fault
fault_of_front : (old new : Option (List ℕ)) (command : Command) (kept : List ℕ) (fault : MainFault)
    → ((input : List ℕ) × IsRead old new input × (kept ≡ take most_kept input)) → IsReply command kept (Err fault)
    → (input : List ℕ) × IsRead old new input × IsReply command input (Err fault)
fault_of_front old new command kept fault read e =
    (read.0, read.1, of_front command read.0 (Err fault) (subst (λ bytes. IsReply command bytes (Err fault)) read.2 e))

pub fails : (old new : Option (List ℕ)) (command : Command) (kept : List ℕ) (fault : MainFault)
    → ((input : List ℕ) × IsRead old new input × (kept ≡ take most_kept input)) → FailsBy (IsReply command kept) fault
    → FailsToServe command (IsRead old new) fault
fails old new command kept faults.Memory read f = tt
fails old new command kept faults.Read read f = tt
fails old new command kept faults.Write read f = tt
fails old new command kept faults.Usage read f = fault_of_front old new command kept faults.Usage read f
fails old new command kept (faults.Kernel e) read f = fault_of_front old new command kept (faults.Kernel e) read f
fails old new command kept (faults.Text e) read f = fault_of_front old new command kept (faults.Text e) read f
