-- `stealing::actions::action_fits` meets its contract, by kind.
use mathlib.Core.Path.{sym, ◌∙◌}
use Rattle.run_memory.specs.Blocks.{bytes_in, words_in, sums_in, gathered}
use Rattle.stealing.proofs.Stealable.{work_fits, fork_fits, join_fits, alloc_fits, free_fits, end_fits, unknown_fits}
use Rattle.stealing.proofs.actions.action_fits.Goals as goal

pub returns-in-Work : goal.returns-in-Work
returns-in-Work c =
    let a = c.row_at-a.result in
    λ T N p q.
    work_fits T c.args.b (gathered (bytes_in c.args.bytes.now) (words_in c.args.words.now) N (sums_in c.args.sums.now)) c.requires.0 c.requires.1 c.row_at-a.ensures
    (c.action_in-action.ensures.code_value ∙ (λ j. sym p j a)) c.kind.ensures (c.action_in-action.ensures.read.value ∙ (λ j. sym q j a)) c.in-Work.is c.next_fits.ensures

pub returns-in-Alloc : goal.returns-in-Alloc
returns-in-Alloc c =
    let a = c.row_at-a.result in
    λ T N p q.
    alloc_fits T c.args.b (gathered (bytes_in c.args.bytes.now) (words_in c.args.words.now) N (sums_in c.args.sums.now)) c.requires.0 c.requires.1 c.row_at-a.ensures
    (c.action_in-action.ensures.code_value ∙ (λ j. sym p j a)) c.kind.ensures (c.action_in-action.ensures.read.value ∙ (λ j. sym q j a)) c.in-Alloc.is c.amount_at-own.ensures c.total_at.ensures c.alloc_fits.ensures

pub returns-in-Free : goal.returns-in-Free
returns-in-Free c =
    let a = c.row_at-a.result in
    λ T N p q.
    free_fits T c.args.b (gathered (bytes_in c.args.bytes.now) (words_in c.args.words.now) N (sums_in c.args.sums.now)) c.requires.0 c.requires.1 c.row_at-a.ensures
    (c.action_in-action.ensures.code_value ∙ (λ j. sym p j a)) c.kind.ensures (c.action_in-action.ensures.read.value ∙ (λ j. sym q j a)) c.in-Free.is c.amount_at-own.ensures c.total_at-in-Free.ensures c.free_fits.ensures

pub returns-in-Fork : goal.returns-in-Fork
returns-in-Fork c =
    let a = c.row_at-a.result in
    λ T N p q.
    fork_fits T c.args.b (gathered (bytes_in c.args.bytes.now) (words_in c.args.words.now) N (sums_in c.args.sums.now)) c.requires.0 c.requires.1 c.row_at-a.ensures
    (c.action_in-action.ensures.code_value ∙ (λ j. sym p j a)) c.kind.ensures (c.action_in-action.ensures.read.value ∙ (λ j. sym q j a)) c.in-Fork.is c.fork_fits.ensures

pub returns-in-Join : goal.returns-in-Join
returns-in-Join c =
    let a = c.row_at-a.result in
    λ T N p q.
    join_fits T c.args.b (gathered (bytes_in c.args.bytes.now) (words_in c.args.words.now) N (sums_in c.args.sums.now)) c.requires.0 c.requires.1 c.row_at-a.ensures
    (c.action_in-action.ensures.code_value ∙ (λ j. sym p j a)) c.kind.ensures (c.action_in-action.ensures.read.value ∙ (λ j. sym q j a)) c.in-Join.is c.amount_at-own.ensures c.join_goes.ensures

pub returns-in-End : goal.returns-in-End
returns-in-End c =
    let a = c.row_at-a.result in
    λ T N p q.
    end_fits T c.args.b (gathered (bytes_in c.args.bytes.now) (words_in c.args.words.now) N (sums_in c.args.sums.now)) c.requires.0 c.requires.1 c.row_at-a.ensures
    (c.action_in-action.ensures.code_value ∙ (λ j. sym p j a)) c.kind.ensures (c.action_in-action.ensures.read.value ∙ (λ j. sym q j a)) c.in-End.is

pub returns-in-Unknown : goal.returns-in-Unknown
returns-in-Unknown c =
    let a = c.row_at-a.result in
    λ T N p q.
    unknown_fits T c.args.b (gathered (bytes_in c.args.bytes.now) (words_in c.args.words.now) N (sums_in c.args.sums.now)) c.requires.0 c.requires.1 c.row_at-a.ensures
    (c.action_in-action.ensures.code_value ∙ (λ j. sym p j a)) c.kind.ensures (c.action_in-action.ensures.read.value ∙ (λ j. sym q j a)) c.in-Unknown.is
