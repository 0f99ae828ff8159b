-- The run over words says what the check says in a table that cannot be full. The idea: record by record and clause by clause. Assumes
-- nothing.
use mathlib.Core.Path.{◌≡◌, refl, sym, ap, ap₂, ◌∙◌}
use mathlib.Core.Bool.{Bool, true, false, cond}
use mathlib.Core.List.{List, [], ◌∷◌, ◌++◌}
use Prim.Native.Nat.{ℕ, zero, suc, ◌+◌, ◌^◌, ◌≤◌, ◌<◌}
use native.Mathlib.Omega.{arith}
use lib.ListN.{length, replicate}
use lib.Dec.{ltb, leb}
use borrow.Author.Tests.{leb-true}
use Rattle.meaning.specs.Operations as meaning
use Rattle.meaning.specs.Literals.{OfVariables}
use Rattle.meaning.specs.Words.{in_word}
use Rattle.words.specs.Sets.{has, literals_of}
use Rattle.words.proofs.LiteralSets.{in-set}
use Rattle.table.specs.Nodes.{Node, Placing, full, placed, place}
use Rattle.table.proofs.Order.{Ordered}
use Rattle.table.proofs.Placing.{After, place_after}
use Rattle.meaning.specs.Reduced.{Reduced}
use Rattle.meaning.proofs.Values.{reduced-to, diagram-reduced}
use Rattle.clause.proofs.Literals.{within_more, clause-of-words}
use Rattle.dimacs.specs.Header.{Header, Proper, Improper, judged_from, header}
use Rattle.dimacs.specs.Clauses.{Reading, clause, complete, refusal, clauses_from}
use Rattle.records.specs.declared.Record.{Record}
use Rattle.records.specs.Records.{record_at, length_of}
use Rattle.commands.specs.declared.Form.TheVariants.{Records}
use Rattle.commands.specs.Commands.{recorded, in_records}
use Rattle.verdict.specs.Steps.{State, Step, next, stop, spent, emptied, begun, record_step}
use Rattle.verdict.specs.Check.{step, left, after_step, commands, after_clause, clauses, check_after_header}
use Rattle.verdict.specs.Taken.{Function, Meant}
use Rattle.verdict.specs.Run.{CommandTaken, Making, opened, made}
use Rattle.verdict.proofs.Formula.{Read}
use Rattle.verdict.proofs.Standing.{Standing}
use Rattle.verdict.proofs.Commands.{step-taken, command-goes, step-standing}
use Rattle.verdict.proofs.Clauses.{Underway, underway}
use Rattle.truth.specs.Tables.{diagram_of}
use Rattle.truth_entries.proofs.MadeValues.{diagram_of-clause, clause-word}
use Rattle.small_verdict.proofs.Roomy.{Fine, Found, place_found}
use Rattle.small_verdict.specs.Small.{enough, six_only, small}
use Rattle.small_verdict.specs.Agrees.{said}
use Rattle.small.specs.WordSteps.{WordState, WordStep, onward, halt, words_begun, word_step, say_at, after_word, word_records}
use Rattle.small.specs.WordSteps.{word_of_clause, word_clauses, words_after_header, word_verdict}
use Rattle.small.proofs.Worded.{Worded, worded-append, worded-grown, worded-length}
use Rattle.small.proofs.Stands.{Stands, Alike, step-alike}

module _ (s n : ℕ) (large : 2 ^ 64 < s) (six : n ≤ 6) (proof : List ℕ) where
  -- ---- records

  left-said : (number place peak : ℕ) (st : State) (ws : WordState) → Stands st ws → said (left number place peak st) ≡ say_at number place
      ws
  left-said number place peak st ws W = ap₂ (λ (l r : ℕ). record { number = number; in_proof = true; place = place; lines = l; rounds = r })
      (sym W.lines) (sym W.rounds)

  records-said : (steps : ℕ) (m : Meant) (st : State) (at : ℕ) → at ≤ length proof → Standing s n m st → (ws : WordState) → Stands st ws
      → said (commands steps in_records n s proof st at) ≡ word_records steps n proof ws at
  unfolding commands word_records step
  records-said zero m st at within S ws W = left-said 10 at st.peak st ws W
  records-said (suc steps) m st at within S ws W =
      go (record_step n s st more r) refl (word_step n ws more r) (step-alike s n large six m st S ws W more r) (records-said steps)
    where
      r : Record
      r = record_at proof at

      next-at : ℕ
      next-at = at + length_of (record_at proof at)

      more : Bool
      more = ltb (at + length_of (record_at proof at)) (length proof)

      go : (x : Step) → record_step n s st more r ≡ x → (y : WordStep) → Alike x y
          → ((m' : Meant) (st' : State) (at' : ℕ) → at' ≤ length proof → Standing s n m' st' → (ws' : WordState) → Stands st' ws'
          → said (commands steps in_records n s proof st' at') ≡ word_records steps n proof ws' at')
          → said (after_step x st at (λ st'. commands steps in_records n s proof st' next-at)) ≡ after_word y ws at
          (λ ws'. word_records steps n proof ws' next-at)
      go (next st') e (onward ws') A rec =
          let T : CommandTaken false n s st (recorded r more) st' = step-taken false n s st (recorded r more) st' e in
          rec _ st' next-at (command-goes false Records proof n s st st' at within T).1
          (step-standing S (omega arith) false Records (recorded r more) tt st' T) ws' A
      go (next st') e (halt number offset) A rec = absurd A
      go (stop number offset) e (onward ws') A rec = absurd A
      go (stop number offset) e (halt number' offset') A rec =
          left-said number (at + offset) st.peak st ws W ∙ ap₂ (λ (k o : ℕ). say_at k (at + o) ws) (sym A.0) (sym A.1)
      go (spent number peak) e (onward ws') A rec = absurd A
      go (spent number peak) e (halt number' offset') A rec =
          let z : at ≡ at + offset' = omega (arith, A.1) in
          left-said number at peak st ws W ∙ ap₂ (λ (k p : ℕ). say_at k p ws) (sym A.0) z

  -- ---- clauses

  clause-same : (ls : List meaning.Literal) → OfVariables n ls → meaning.clause n ls ≡ diagram_of (word_of_clause (literals_of ls))
  unfolding has
  clause-same ls of =
      let wide : OfVariables 6 ls = within_more n 6 six ls of in
      sym (clause-of-words n (omega arith) ls of) ∙ clause-of-words 6 (omega arith) ls wide
      ∙ sym (diagram_of-clause (in_word (literals_of ls).positive) (in_word (literals_of ls).negative) ls wide
      (λ v lo hi. in-set 6 ls v true wide lo) (λ v lo hi. in-set 6 ls v false wide lo))

  clause-reduced : (ls : List meaning.Literal) → Reduced 1 (suc n) (meaning.clause n ls)
  unfolding meaning.clause
  clause-reduced ls = diagram-reduced n (meaning.clause_value ls)

  clauses-said : (text : List ℕ) (many : ℕ) (r : Reading) (t : List Node) (ms : List ℕ) (fs : List Function) → Making s text n many t ms fs
      r → (ws : List ℕ) → Worded t ms ws
      → said (clauses in_records n s proof t ms r) ≡ word_clauses n proof ws r
  unfolding clauses word_clauses
  clauses-said text many complete t ms fs M ws W =
      let Y : Underway s text n many t ms fs complete = underway s text n many M in
      records-said (suc (length proof)) _ (begun t ms) 0 (omega arith) Y.standing (words_begun ws) (record {
        members = W;
        struck = ap (λ (k : ℕ). replicate k 0) (sym (worded-length t ms ws W));
        entries = tt;
        positive = refl;
        negative = refl;
        lines = refl;
        rounds = refl;
        refuted = refl;
      })
  clauses-said text many (refusal number place) t ms fs M ws W = refl
  clauses-said text many (clause ls first rest) t ms fs M ws W =
      go (place s t (meaning.clause n ls)) refl (place_found s n large six t fine (meaning.clause n ls) (clause-reduced ls))
      (place_after s t O (meaning.clause n ls) (reduced-to 1 (suc n) 65 (meaning.clause n ls) (omega arith) (clause-reduced ls)))
      (clauses-said text many rest)
    where
      Y : Underway s text n many t ms fs (clause ls first rest)
      Y = underway s text n many M

      O : Ordered t
      O = Y.standing.ordered

      fine : Fine s n large six t
      fine = record { ordered = Y.standing.ordered; uses = Y.standing.uses; room = Y.standing.room (omega arith) }

      of : OfVariables n ls
      of = read_of Y.left Y.read
        where
          read_of : (left : ℕ) → Read n left (clause ls first rest) → OfVariables n ls
          read_of zero R = absurd R
          read_of (suc left) R = R.0

      go : (p : Placing) → place s t (meaning.clause n ls) ≡ p → Found s n large six p → After s t (meaning.clause n ls) p
          → ((t₁ : List Node) (ms₁ : List ℕ) (fs₁ : List Function) → Making s text n many t₁ ms₁ fs₁ rest → (ws₁ : List ℕ) → Worded t₁ ms₁
          ws₁
          → said (clauses in_records n s proof t₁ ms₁ rest) ≡ word_clauses n proof ws₁ rest)
          → said (after_clause p (λ t₁ k. clauses in_records n s proof t₁ (ms ++ k ∷ []) rest) first) ≡ word_clauses n proof
          (ws ++ word_of_clause (literals_of ls) ∷ []) rest
      go (full t₁) e F A rec = absurd F
      go (placed t₁ k) e F A rec =
          rec t₁ (ms ++ k ∷ []) _ (made M e) (ws ++ word_of_clause (literals_of ls) ∷ [])
          (worded-append t₁ ms ws k (word_of_clause (literals_of ls)) (worded-grown t t₁ O A.kept.extends ms ws W)
          (record { inside = A.inside; same = A.is ∙ clause-same ls of; word = clause-word _ _ }))

-- ---- the whole

module _ (formula proof : List ℕ) where
  -- a header that is proper once more than six variables are refused is the formula's, and names at most six
  proper-stands : (h : Header) (n many at : ℕ) → six_only formula h ≡ Proper n many at → (h ≡ Proper n many at) × (n ≤ 6)
  proper-stands (Proper n₀ many₀ at₀) n many at e = go (leb n₀ 6) refl e
    where
      go : (c : Bool) → leb n₀ 6 ≡ c → cond c (Proper n₀ many₀ at₀) (Improper 2 (judged_from formula (length formula) 0)) ≡ Proper n many at
          → (Proper n₀ many₀ at₀ ≡ Proper n many at) × (n ≤ 6)
      go true l q = let z : n₀ ≡ n = cc in (q, omega (arith, z, leb-true n₀ 6 l))
      go false l q = let z : ◌≡◌ {A = ℕ} 0 1 = cc in absurd (omega arith)
  proper-stands (Improper number place) n many at e = let z : ◌≡◌ {A = ℕ} 0 1 = cc in absurd (omega arith)

  -- THEOREM: the run over words says what `small` says.
  pub words-agree : said (small formula proof) ≡ word_verdict formula proof
  unfolding small word_verdict
  words-agree = go (six_only formula (header formula)) refl
    where
      go : (h : Header) → six_only formula (header formula) ≡ h → said (check_after_header in_records enough formula proof h)
          ≡ words_after_header
          formula proof h
      go (Proper n many at) e =
          let (is, six) = proper-stands (header formula) n many at e in
          clauses-said enough n (omega arith) six proof formula many (clauses_from formula n many at) emptied [] [] (opened is) [] tt
      go (Improper number place) e = refl
