-- `useful_limit::line::answer_line` meets its contract: each kind of answer has its line.
use borrow.Author.Rules.{rules}
use Rattle.useful_limit.proofs.line.answer_line.Goals as goal

pub returns-in-Ok-Fits : goal.returns-in-Ok-Fits
returns-in-Ok-Fits c =
    let e = rw c.in-Ok-Fits.is at c.in-Ok-Fits.field-0-is in
    record {
      value = rw (c.in-Ok-Fits.is, e) c.fits_line.ensures.value;
      out_after = rw (c.in-Ok-Fits.is, e) c.fits_line.ensures.out_after;
      upper_bound = c.fits_line.ensures.upper_bound;
    }

pub returns-in-Ok-Short : goal.returns-in-Ok-Short
returns-in-Ok-Short c =
    let e = rw c.in-Ok-Short.is at c.in-Ok-Short.field-0-is in
    record {
      value = rw (c.in-Ok-Short.is, e) c.short_line.ensures.value;
      out_after = rw (c.in-Ok-Short.is, e) c.short_line.ensures.out_after;
      upper_bound = c.short_line.ensures.upper_bound;
    }

pub returns-in-Err : goal.returns-in-Err
returns-in-Err c =
    record {
      value = rw c.in-Err.is c.table_line.ensures.value;
      out_after = rw c.in-Err.is c.table_line.ensures.out_after;
      upper_bound = c.table_line.ensures.upper_bound;
    }
