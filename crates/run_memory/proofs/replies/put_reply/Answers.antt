-- `run_memory::replies::put_reply` meets its contract, case by case.
use Rattle.run_memory.proofs.replies.put_reply.Goals as goal

pub returns-in-Idle : goal.returns-in-Idle
returns-in-Idle c = rw c.in-Idle.is

pub returns-in-Done : goal.returns-in-Done
returns-in-Done c = rw c.in-Done.is

pub returns-in-Quota : goal.returns-in-Quota
returns-in-Quota c = rw c.in-Quota.is

pub returns-in-Wait : goal.returns-in-Wait
returns-in-Wait c = rw c.in-Wait.is
