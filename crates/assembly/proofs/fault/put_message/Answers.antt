-- `assembly::fault::put_message` meets its contract, by the answer.
use native.Mathlib.Omega.{arith}
use Rattle.text.specs.Text.{ascii}
use Rattle.text.proofs.Putting.{puts_none, puts_word, puts_within}
use Rattle.assembly.specs.Message.{fault_texts, refused_texts, message_texts}
use Rattle.assembly.proofs.fault.put_message.Goals as goal

pub returns-in-Ok : goal.returns-in-Ok
unfolding message_texts
returns-in-Ok c = rw c.in-Ok.is (puts_none 96)

pub returns-in-TooLong : goal.returns-in-TooLong
unfolding message_texts
returns-in-TooLong c = rw (c.in-Err.is, c.in-TooLong.is) (puts_within (omega arith) (puts_word (ascii "text above 262144 bytes\n") c.put_word.ensures))

pub returns-in-Malformed : goal.returns-in-Malformed
unfolding message_texts fault_texts
returns-in-Malformed c = rw (c.in-Err.is, c.in-Malformed.is) c.put_malformed.ensures

pub returns-in-Refused : goal.returns-in-Refused
unfolding message_texts refused_texts
returns-in-Refused c = rw (c.in-Err.is, c.in-Refused.is) c.put_refused.ensures
