-- `listing::turns::too_many` meets its contract, of a chart and of a listing.
use Rattle.listing.proofs.turns.too_many.Goals as goal

pub returns-then-chart : goal.returns-then-chart
returns-then-chart c = rw c.if-chart.true

pub returns-else-chart : goal.returns-else-chart
returns-else-chart c = rw c.if-chart.false
