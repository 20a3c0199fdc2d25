-- What was written is what the one call made of what was read.
use Rattle.std.proofs.Common.{rules, arith, take, subst}
use Rattle.std.specs.Io.KnownBytes.{Appends}
use Rattle.streams.proofs.Sent.{on_ok}
use Rattle.streams.proofs.write_answer.Goals as goal

pub returns : goal.returns
returns g c =
    let read = c.in_ok-n.ensures in
    let sends = Appends (g.W.Write.contents c.args.writer.now) (g.W.Write.contents c.write_all.new.self) in
    record { written = on_ok c.write_all.result (λ sent. (_, _, _, _, c.answer-k.ensures, c.zeros-out.ensures, read.bytes, (λ less. read.end (search (rules, arith))), subst (λ bytes. sends (take c.answer-k.result bytes)) c.bytes.ensures sent)) c.write_all.ensures.bytes }
