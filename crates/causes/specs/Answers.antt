-- What the call that explains a refusal says in numbers, and what every lent place holds after it. (02, 8/14)
use Rattle.std.specs.Prelude.{Bool, true, false, ◌&&◌, cond, List, [], ◌∷◌, ◌++◌, ℕ, zero, suc, ◌+◌, ◌-◌, ◌*◌, length, leb}
use Rattle.std.proofs.Math.Option.{none, some}
use Rattle.meaning.specs.Diagram.{Assignment}
use Rattle.meaning.specs.Operations.{Literal}
use Rattle.clausal.specs.Literals.{has}
use Rattle.clausal.specs.Tries.{makes_true, makes_false}
use Rattle.table.specs.Columns.{Columns}
use Rattle.commands.specs.declared.Mode.{Mode}
use Rattle.verdict.specs.Check.{zeros, lent_fits, CheckOutcome, check}
use Rattle.causes.specs.Parts.{Part, nothing}
use Rattle.causes.specs.Causes.{Cause, plain, variables, assignment, fixed}
use Rattle.causes.specs.Explanation.{Explanation, explanation}

-- ---- literals and assignments as words, "bit i−1 for variable i" (01, What the call says and leaves)

-- The word of those of the k variables from i on that the set has: bit v − 1 for variable v, where i is 1.
unfoldable pub word_from : ℕ → ℕ → (ℕ → Bool) → ℕ
word_from zero i S = 0
word_from (suc k) i S = cond (S i) 1 0 + 2 * word_from k (suc i) S

-- The variables that the literals make true, and those that they make false.
abbrev pub true_word : List Literal → ℕ
true_word ls = word_from 64 1 (makes_true ls)

abbrev pub false_word : List Literal → ℕ
false_word ls = word_from 64 1 (makes_false ls)

-- "by round, then by variable": two words a round.
unfoldable pub fixed_words : List (List Literal) → List ℕ
unfolding word_from has
fixed_words [] = []
fixed_words (ls ∷ rounds) = true_word ls ∷ false_word ls ∷ fixed_words rounds

-- A list of m words with zeros behind the rounds.
abbrev pub fixed_as : ℕ → List (List Literal) → List ℕ
fixed_as m rounds = fixed_words rounds ++ zeros (m - 2 * length rounds)

-- The word of an assignment.
unfoldable pub word_of : Assignment → ℕ
word_of [] = 0
word_of (b ∷ a) = cond b 1 0 + 2 * word_of a

-- ---- the cause

-- A cause in numbers; 0 and zeros where it has none of a kind.
pub record Told : Type 0 where
  pub variable : ℕ
  pub child : ℕ
  pub word : ℕ
  pub rounds : ℕ
  pub has_member : Bool
  pub member : ℕ
  pub words : List ℕ

abbrev pub told_rounds : ℕ → List (List Literal) → Bool → ℕ → Told
told_rounds m rounds has_member member = record {
  variable = 0;
  child = 0;
  word = 0;
  rounds = length rounds;
  has_member = has_member;
  member = member;
  words = fixed_as m rounds;
}

abbrev pub told_numbers : ℕ → ℕ → ℕ → ℕ → Told
told_numbers m variable child word = record {
  variable = variable;
  child = child;
  word = word;
  rounds = 0;
  has_member = false;
  member = 0;
  words = zeros m;
}

-- With m words lent for the literals.
unfoldable pub told : ℕ → Cause → Told
unfolding fixed_words word_of
told m plain = told_numbers m 0 0 0
told m (variables v w) = told_numbers m v w 0
told m (assignment a) = told_numbers m 0 0 (word_of a)
told m (fixed rounds none) = told_rounds m rounds false 0
told m (fixed rounds (some i)) = told_rounds m rounds true i

-- ---- the call

-- What the call says, and what every lent place holds after it.
pub record WhyOutcome : Type 0 where
  pub number : ℕ
  pub part : Part
  pub told : Told
  pub count : ℕ
  pub columns : Columns
  pub members : List ℕ
  pub struck : List ℕ
  pub scratch : List ℕ

-- "Lent lists end as after the check."
abbrev pub answered : Explanation → Told → CheckOutcome → WhyOutcome
answered e t v = record {
  number = e.number;
  part = e.part;
  told = t;
  count = v.count;
  columns = v.columns;
  members = v.members;
  struck = v.struck;
  scratch = v.scratch;
}

-- "Number 7 changes nothing": an empty part, no cause, and all as lent.
abbrev pub unanswered : Columns → ℕ → List ℕ → List ℕ → List ℕ → List ℕ → WhyOutcome
unanswered c count members struck scratch lent = record {
  number = 7;
  part = nothing;
  told = record { variable = 0; child = 0; word = 0; rounds = 0; has_member = false; member = 0; words = lent };
  count = count;
  columns = c;
  members = members;
  struck = struck;
  scratch = scratch;
}

-- The call, lent what a check is lent and 128 words or more for the literals: two for each of at most 64 rounds.
unfoldable pub why : Mode → Columns → ℕ → List ℕ → List ℕ → List ℕ → List ℕ → List ℕ → List ℕ → WhyOutcome
unfolding lent_fits explanation told check
why mode c count members struck scratch lent formula proof =
    let e = explanation mode (length c.vars) formula proof in
    let done = answered e (told (length lent) e.cause) (check mode c count members struck scratch formula proof) in
    cond (leb 128 (length lent) && lent_fits c members struck scratch) done (unanswered c count members struck scratch lent)
