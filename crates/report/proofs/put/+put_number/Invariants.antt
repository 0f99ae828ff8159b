-- A number's digits: one below 10, else those of its tenth and one more. The number falls.
use Rattle.report.proofs.put.+put_number.Given as goal

abbrev pub decreases-put_number : goal.decreases-put_number
decreases-put_number l = l.n
