-- What was written is what the call made of what was read, or the line of the refusal's call.
use Rattle.std.proofs.Common.{rules, arith, take, subst, refl}
use Rattle.std.specs.Io.KnownBytes.{Appends}
use Rattle.streams.proofs.Sent.{on_ok}
use Rattle.streams.proofs.write_answer_or_line.Goals as goal

pub returns-in-Ok : goal.returns-in-Ok
returns-in-Ok g c =
    let read = c.in_ok-n.ensures in
    let sends = Appends (g.W.Write.contents c.args.writer.now) (g.W.Write.contents c.write_all.new.self) in
    record { written = on_ok c.write_all.result (λ sent. (_, _, _, _, c.in-Ok.ensures, c.zeros-out.ensures, read.bytes, (λ less. read.end (search (rules, arith))), (subst (λ bytes. sends (take c.in-Ok.k bytes)) c.bytes.ensures sent, refl))) c.write_all.ensures.bytes }

pub returns-in-Err : goal.returns-in-Err
returns-in-Err g c =
    let read = c.in_ok-n.ensures in
    let sends = Appends (g.T.Write.contents c.args.teller.now) (g.T.Write.contents c.write_all-in-Err.new.self) in
    record { written = on_ok c.write_all-in-Err.result (λ sent. (_, _, _, _, c.in-Err.ensures, c.zeros-out.ensures, read.bytes, (λ less. read.end (search (rules, arith))), (refl, (_, _, _, c.told-k.ensures, c.zeros-line.ensures, subst (λ bytes. sends (take c.told-k.result bytes)) c.bytes-in-Err.ensures sent)))) c.write_all-in-Err.ensures.bytes }
