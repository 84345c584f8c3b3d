-- How the calls of a seat on the queue change its account as an end of a channel.
use Rattle.std.specs.Prelude.{true}
use Rattle.fak_channel_core.specs.SleeperSides.{owes_look, tried}
use Rattle.fak_channel_core.specs.SleeperMoves.{Account}

-- a woken sender has tried again, and a woken receiver
abbrev pub tries_in : Account → Account
tries_in g = record g { sender = tried g.sender }

abbrev pub tries_out : Account → Account
tries_out g = record g { receiver = tried g.receiver }

-- one look more is owed, for a sender or for a receiver
abbrev pub owes_sender : Account → Account
owes_sender g = record g { sender = owes_look g.sender }

abbrev pub owes_receiver : Account → Account
owes_receiver g = record g { receiver = owes_look g.receiver }

-- a check is owed, whether the channel is drained
abbrev pub owes_check : Account → Account
owes_check g = record g { checks = true }
