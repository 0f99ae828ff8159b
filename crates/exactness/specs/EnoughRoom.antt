-- What is the same in two calls that differ in what is lent alone. (02, 2/14: operators size tables by the greatest count) No call open to
-- others cites this file.
use Rattle.std.specs.Prelude.{◌≡◌, ℕ, get_or}
use Rattle.verdict.specs.Check.{CheckOutcome}
use Rattle.demands.specs.Leaving.{Handed}
use Rattle.demands.specs.Calls.{nodes_of_columns}

-- The same formula and proof, of the same form.
pub record SameFiles (i j : Handed) : Type 0 where
  pub mode : i.mode ≡ j.mode
  pub text : i.text ≡ j.text
  pub proof : i.proof ≡ j.proof

-- The calls say the same, and leave the same nodes, members and marks, in tables and lists that may differ in size.
pub record SaysTheSame (o p : CheckOutcome) : Type 0 where
  pub number : o.number ≡ p.number
  pub in-proof : o.in_proof ≡ p.in_proof
  pub place : o.place ≡ p.place
  pub lines : o.lines ≡ p.lines
  pub rounds : o.rounds ≡ p.rounds
  pub count : o.count ≡ p.count
  pub peak : o.peak ≡ p.peak
  pub nodes : nodes_of_columns o.columns o.count ≡ nodes_of_columns p.columns p.count
  pub members : (k : ℕ) → get_or o.members k 0 ≡ get_or p.members k 0
  pub struck : (k : ℕ) → get_or o.struck k 0 ≡ get_or p.struck k 0
