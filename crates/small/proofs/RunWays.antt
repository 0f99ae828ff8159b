-- The run over words in the code's own terms: every record, the records of a proof, the clauses of a formula, and the call. The idea: what
-- is to be said is what is left to be said. Assumes nothing.
use mathlib.Core.Path.{◌≡◌, refl, sym, ap, ap₂, ◌∙◌, subst}
use mathlib.Core.Bool.{Bool, true, false, ◌&&◌, cond}
use mathlib.Core.List.{List, [], ◌∷◌, ◌++◌, map}
use Prim.Native.Nat.{ℕ, zero, suc, ◌+◌, ◌-◌, ◌≤◌, ◌<◌}
use native.Mathlib.Omega.{arith}
use lib.ListN.{length, set, take, replicate, length-set}
use lib.Seq.{take-suc-set, length-take-le}
use lib.Dec.{eqb, ltb, leb}
use borrow.Author.Tests.{leb-true, eqb-true, lt-leb, le-leb}
use Rattle.meaning.proofs.Booleans.{and_both}
use Rattle.words.specs.Sets.{literals_of}
use Rattle.dimacs.specs.declared.ClosedClause.{ClosedClause}
use Rattle.std.specs.Prelude.{None, Some, Result, Ok, Err}
use Rattle.dimacs.specs.declared.Header as code_header
use Rattle.dimacs.specs.declared.Refusal.{Refusal}
use Rattle.dimacs.specs.Header.{Header, Proper, Improper, judged_from, header}
use Rattle.dimacs.specs.Clauses.{next_clause, clauses_from}
use Rattle.dimacs.specs.Inner.{clause_of, header_read, refusal_at}
use Rattle.dimacs.proofs.Formula.{IsClosed, closed_is, ended_is, refused-is, closed-wanted, clauses-closed, clauses-ended, clauses-refused}
use Rattle.dimacs.proofs.Formula.{header-ok, header-err}
use Rattle.dimacs.proofs.Bounds.{NextIn, next-in, HeaderIn, header-in}
use Rattle.records.specs.declared.NodeBody.{NodeBody}
use Rattle.records.specs.declared.EntryNo.{EntryNo}
use Rattle.records.specs.declared.MemberNo.{MemberNo}
use Rattle.records.specs.declared.SetKind.{SetKind}
use Rattle.records.specs.declared.SetBody.{SetBody}
use Rattle.records.specs.declared.Rule.{Rule}
use Rattle.records.specs.declared.Record.{Record}
use Rattle.records.specs.declared.Record.TheVariants.{NodeEntry, Witness, ProofLine, Strike, SetEntry, End, CutShort, UnknownKind}
use Rattle.records.specs.declared.Record.TheVariants.{NoRecord}
use Rattle.records.specs.Records.{record_at, length_of, number_of}
use Rattle.records.proofs.Laws.{record-takes, record-within}
use Rattle.small.specs.declared.State.{State}
use Rattle.small.specs.Stops.{stop_at}
use Rattle.small.specs.declared.Stop.{Stop}
use Rattle.small.specs.declared.SmallChecked.{SmallChecked}
use Rattle.small_verdict.specs.Small.{six_only, small, small_fits, small_call}
use Rattle.small_verdict.specs.Agrees.{Said, said}
use Rattle.small.specs.WordSteps.{WordState, WordStep, onward, halt, words_begun, word_node, word_witness, word_line, word_strike, word_set}
use Rattle.small.specs.WordSteps.{word_end, word_step, say_at, word_records, formula_refused, word_of_clause, word_clauses}
use Rattle.small.specs.WordSteps.{words_after_header}
use Rattle.small.specs.WordSteps.{word_verdict}
use Rattle.small.specs.Checked.{small_outcome}
use Rattle.small.specs.Lent.{WordsLent, words_lent, state_of, made_step, Held, Stepped, said_of, said_from, Begins}
use Rattle.small.proofs.Runs.{words-agree}

-- ---- every record

pub held-6 : (n : ℕ) (l : WordsLent) (st : State) → Held n l st → Held 6 l st
held-6 n l st H = record {
  narrow = omega arith;
  room = H.room;
  marked = H.marked;
  places = H.places;
  many = H.many;
  lines = H.lines;
  few = H.few;
  rounds = H.rounds;
}

module _ (n : ℕ) (l : WordsLent) (ws : WordState) (more : Bool) (s : Result State Stop) (r : Record) where
  kind : (r' : Record) → r ≡ r' → Stepped n l (word_step n ws more r') s → Stepped n l (word_step n ws more r) s
  kind r' e S = subst (λ (x : Record). Stepped n l (word_step n ws more x) s) (sym e) S

  along : (x y : WordStep) → x ≡ y → Stepped n l y s → Stepped n l x s
  along x y e S = subst (λ (z : WordStep). Stepped n l z s) (sym e) S

  pub step-node : (b : NodeBody) → r ≡ NodeEntry b → (m : Result ℕ ℕ) → word_node n ws b ≡ made_step ws m → Stepped n l (made_step ws m) s →
      Stepped
      n l (word_step n ws more r) s
  unfolding word_step
  step-node b e m is S = kind (NodeEntry b) e (along (word_node n ws b) (made_step ws m) is S)

  pub step_set : (k : SetKind) (b : SetBody) → r ≡ SetEntry k b → (m : Result ℕ ℕ) → word_set n ws k b ≡ made_step ws m → Stepped n l
      (made_step ws m) s → Stepped n l (word_step n ws more r) s
  unfolding word_step
  step_set k b e m is S = kind (SetEntry k b) e (along (word_set n ws k b) (made_step ws m) is S)

  pub step-witness : (v : ℕ) (b : Bool) → r ≡ Witness v b → Stepped n l (word_witness n ws v b) s → Stepped n l (word_step n ws more r) s
  unfolding word_step
  step-witness v b e S = kind (Witness v b) e S

  pub step_line : (rule : Rule) (root : EntryNo) → r ≡ ProofLine rule root → Stepped n l (word_line ws rule root.0) s → Stepped n l
      (word_step n ws more r) s
  unfolding word_step
  step_line rule root e S = kind (ProofLine rule root) e S

  pub step-strike : (k : MemberNo) → r ≡ Strike k → Stepped n l (word_strike ws k.0) s → Stepped n l (word_step n ws more r) s
  unfolding word_step
  step-strike k e S = kind (Strike k) e S

  pub step_end : r ≡ End → Stepped n l (word_end ws more) s → Stepped n l (word_step n ws more r) s
  unfolding word_step
  step_end e S = kind End e S

  pub step_cut : r ≡ CutShort → s ≡ Err (stop_at 10 0) → Stepped n l (word_step n ws more r) s
  unfolding word_step
  step_cut e is = kind CutShort e (subst (Stepped n l (halt 10 0)) (sym is) (record { says = refl; leaves = omega arith }))

  pub step-unknown : r ≡ UnknownKind → s ≡ Err (stop_at 9 0) → Stepped n l (word_step n ws more r) s
  unfolding word_step
  step-unknown e is = kind UnknownKind e (subst (Stepped n l (halt 9 0)) (sym is) (record { says = refl; leaves = omega arith }))

  pub step-none : r ≡ NoRecord → s ≡ Err (stop_at 10 0) → Stepped n l (word_step n ws more r) s
  unfolding word_step
  step-none e is = kind NoRecord e (subst (Stepped n l (halt 10 0)) (sym is) (record { says = refl; leaves = omega arith }))

-- ---- records that are followed by another

module _ (n : ℕ) (ws : WordState) where
  halt-not-onward : {A : Type 0} (number offset : ℕ) (ws' : WordState) → halt number offset ≡ onward ws' → A
  halt-not-onward number offset ws' e = let z : ◌≡◌ {A = ℕ} 0 1 = cc in absurd (omega arith)

  onward-form : (more : Bool) (r : Record) (ws' : WordState) → word_step n ws more r ≡ onward ws' → number_of r ≡ 0
  unfolding word_step
  onward-form more (NodeEntry b) ws' e = refl
  onward-form more (Witness v b) ws' e = refl
  onward-form more (ProofLine rule root) ws' e = refl
  onward-form more (Strike k) ws' e = refl
  onward-form more (SetEntry k b) ws' e = refl
  onward-form more End ws' e = refl
  onward-form more CutShort ws' e = halt-not-onward 10 0 ws' e
  onward-form more UnknownKind ws' e = halt-not-onward 9 0 ws' e
  onward-form more NoRecord ws' e = halt-not-onward 10 0 ws' e

-- ---- the records of a proof

pub record Going (n : ℕ) (proof : List ℕ) (whole : Said) (l : WordsLent) (st : State) (at : ℕ) : Type 0 where
  pub held : Held n l st
  pub within : at ≤ length proof
  pub steps : ℕ
  pub enough : length proof - at < steps
  pub left : whole ≡ word_records steps n proof (state_of l st) at

pub going_start : (n : ℕ) (proof : List ℕ) (l : WordsLent) (st : State) → Held n l st → Going n proof
    (word_records (suc (length proof)) n proof (state_of l st) 0) l st 0
going_start n proof l st H = record { held = H; within = omega arith; steps = suc (length proof); enough = omega arith; left = refl }

module _ (n : ℕ) (proof : List ℕ) (whole : Said) (l : WordsLent) (st : State) (at : ℕ) (G : Going n proof whole l st at) (r : Record)
    (is : r ≡ record_at proof at)
    (next : ℕ) (next-is : next ≡ at + length_of r) (more : Bool) (more-is : more ≡ ltb next (length proof)) (l' : WordsLent) where
  -- the step as the definition has it
  there : word_step n (state_of l st) (ltb (at + length_of (record_at proof at)) (length proof)) (record_at proof at)
      ≡ word_step n (state_of l st)
      more r
  there =
      ap₂ (word_step n (state_of l st)) (sym (more-is ∙ ap (λ (k : ℕ). ltb k (length proof))
      (next-is ∙ ap (λ (x : Record). at + length_of x) is))) (sym is)

  unrolled : (k : ℕ) → G.steps ≡ suc k → whole ≡ word_records (suc k) n proof (state_of l st) at
  unrolled k e = G.left ∙ ap (λ (j : ℕ). word_records j n proof (state_of l st) at) e

  step-halts : (k number offset : ℕ) → word_step n (state_of l st) more r ≡ halt number offset →
      word_records (suc k) n proof (state_of l st) at
      ≡ say_at number (at + offset) (state_of l st)
  unfolding word_records
  step-halts k number offset e = rw (there ∙ e)

  step-goes : (k : ℕ) (ws' : WordState) → word_step n (state_of l st) more r ≡ onward ws'
      → word_records (suc k) n proof (state_of l st) at ≡ word_records k n proof ws' (at + length_of (record_at proof at))
  unfolding word_records
  step-goes k ws' e = rw (there ∙ e)

  pub going-near : (number offset : ℕ) (x : Result State Stop) → x ≡ Err (stop_at number offset) → Stepped n l' (word_step n (state_of l st) more r) x →
      offset ≤ 1
  going-near number offset x e S = (subst (Stepped n l' (word_step n (state_of l st) more r)) e S).leaves

  pub going-stop : (number offset : ℕ) (x : Result State Stop) → x ≡ Err (stop_at number offset) → Stepped n l' (word_step n (state_of l st) more r) x
      → whole ≡ say_at number (at + offset) (state_of l st)
  going-stop number offset x e S =
      let z : G.steps ≡ suc (G.steps - 1) = omega (arith, G.enough) in
      unrolled (G.steps - 1) z ∙ step-halts (G.steps - 1) number offset
      (sym (subst (λ (y : Result State Stop). Stepped n l' (word_step n (state_of l st) more r) y) e S).says)

  pub going_next : (st' : State) (x : Result State Stop) → x ≡ Ok st' → Stepped n l' (word_step n (state_of l st) more r) x →
      Going n proof whole l' st'
      next × (at < next)
  going_next st' x e S =
      let T : Stepped n l' (word_step n (state_of l st) more r) (Ok st') =
      subst (Stepped n l' (word_step n (state_of l st) more r)) e S in
      let z : G.steps ≡ suc (G.steps - 1) = omega (arith, G.enough) in
      let form : number_of r ≡ 0 = onward-form n (state_of l st) more r (state_of l' st') (sym T.says) in
      let takes : 1 ≤ length_of r = record-takes r form in
      let inside : at + length_of r ≤ length proof = record-within proof at (sym is) form in (
        record {
          held = T.leaves;
          within = omega (arith, inside, next-is);
          steps = G.steps - 1;
          enough = omega (arith, G.enough, G.within, takes, inside, next-is);
          left =
              unrolled (G.steps - 1) z ∙ step-goes (G.steps - 1) (state_of l' st') (sym T.says)
              ∙ ap (word_records (G.steps - 1) n proof (state_of l' st')) (sym (next-is ∙ ap (λ (y : Record). at + length_of y) is));
        },
        omega (arith, takes, next-is),
      )

-- ---- the clauses of a formula

module _ (n wanted from : ℕ) (formula : List ℕ) where
  pub record Building (members : List ℕ) (made at : ℕ) : Type 0 where
    pub narrow : n ≤ 6
    pub limit : wanted ≤ 1024
    pub room : 2048 ≤ length members
    pub counted : made ≤ wanted
    pub within : at ≤ length formula
    pub left : (proof : List ℕ) → word_clauses n proof [] (clauses_from formula n wanted from) ≡ word_clauses n proof (take made members)
        (clauses_from formula n (wanted - made) at)

  pub building-start : n ≤ 6 → wanted ≤ 1024 → from ≤ length formula → (members : List ℕ) → 2048 ≤ length members → Building members 0 from
  building-start narrow limit within members room =
      let none_made : wanted ≡ wanted - 0 = omega arith in
      record {
        narrow = narrow;
        limit = limit;
        room = room;
        counted = omega arith;
        within = within;
        left = λ proof. ap (λ (k : ℕ). word_clauses n proof [] (clauses_from formula n k from)) none_made;
      }

  module _ (members : List ℕ) (made at : ℕ) (B : Building members made at) where
    abbrev remaining : ℕ
    remaining = wanted - made

    pub building-end : clause_of (next_clause formula n remaining at) ≡ Ok None → (proof : List ℕ)
        → word_clauses n proof [] (clauses_from formula n wanted from) ≡ word_records (suc (length proof)) n proof
        (words_begun (take made members)) 0
    unfolding word_clauses
    building-end e proof = B.left proof ∙ ap (word_clauses n proof (take made members))
        (clauses-ended formula n remaining at (ended_is (next_clause formula n remaining at) e))

    pub building-refused : (r : Refusal) → clause_of (next_clause formula n remaining at) ≡ Err r →
        (proof : List ℕ)
        → word_clauses n proof [] (clauses_from formula n wanted from) ≡ formula_refused r.number r.place
    unfolding word_clauses
    building-refused r e proof =
        B.left proof ∙ ap (word_clauses n proof (take made members)) (clauses-refused formula n remaining at r.number r.place
        (refused-is (next_clause formula n remaining at) r e))

    module _ (c : ClosedClause) (e : clause_of (next_clause formula n remaining at) ≡ Ok (Some c)) where
      closes : IsClosed (next_clause formula n remaining at) c
      closes = closed_is (next_clause formula n remaining at) c e

      pub building-more : made < wanted
      building-more = omega (arith, closed-wanted formula n remaining at closes.list c.first c.next closes.is)

      inside-text : NextIn formula n (next_clause formula n remaining at)
      inside-text = next-in formula n remaining at B.within

      one_more : (proof ws : List ℕ) → word_clauses n proof ws (clauses_from formula n remaining at)
          ≡ word_clauses n proof (ws ++ word_of_clause (literals_of closes.list) ∷ []) (clauses_from formula n (remaining - 1) c.next)
      unfolding word_clauses
      one_more proof ws = ap (word_clauses n proof ws) (clauses-closed formula n remaining at closes.list c.first c.next
          closes.is)

      pub building-next : (w : ℕ) → w ≡ word_of_clause c.literals → Building (set members made w) (made + 1) c.next
      building-next w is =
          let more : made < wanted = building-more in
          let z : made + 1 ≡ suc made = omega arith in
          let less : remaining - 1 ≡ wanted - (made + 1) = omega arith in
          let taken : take (made + 1) (set members made w) ≡ take made members ++ w ∷ [] =
          ap (λ (k : ℕ). take k (set members made w)) z ∙ take-suc-set members made w (omega (arith, B.room, B.limit)) in
          let same_word : word_of_clause (literals_of closes.list) ≡ w = ap word_of_clause (sym closes.literals) ∙ sym is in
          record {
            narrow = B.narrow;
            limit = B.limit;
            room = omega (arith, B.room, length-set members made w);
            counted = omega arith;
            within = (subst (NextIn formula n) closes.is inside-text).1;
            left = λ proof.
                B.left proof ∙ one_more proof (take made members)
                ∙ ap₂ (λ (ws : List ℕ) (k : ℕ). word_clauses n proof ws (clauses_from formula n k c.next))
                (ap (λ (x : ℕ). take made members ++ x ∷ []) same_word ∙ sym taken) less;
          }

-- ---- the call

pub map-zero : (list : List ℕ) → map {B = ℕ} (λ x. 0) list ≡ replicate (length list) 0
map-zero [] = refl
map-zero (x ∷ list) = ap (λ (l : List ℕ). 0 ∷ l) (map-zero list)

module _ (members struck scratch : List ℕ) where
  pub fits-sizes : small_fits members struck scratch ≡ true → (2048 ≤ length members) × (length struck ≡ length members) ×
      (4096 ≤ length scratch)
  unfolding small_fits
  fits-sizes e =
      let (a, b) = and_both (leb 2048 (length members)) (eqb (length struck) (length members) && leb 4096 (length scratch)) e in
      let (c, d) = and_both (eqb (length struck) (length members)) (leb 4096 (length scratch)) b in
      (leb-true 2048 (length members) a, eqb-true (length struck) (length members) c, leb-true 4096 (length scratch) d)

module _ (formula : List ℕ) where
  pub header_wide : (h : code_header.Header) → Ok h ≡ header_read (header formula) → 6 < h.variables → (place : ℕ)
      → place ≡ judged_from formula (length formula) 0 → Err (refusal_at 2 place) ≡ header_read (six_only formula (header formula))
  header_wide h is more place p = rw (p, header-ok (header formula) h (sym is), lt-leb h.variables 6 more)

  pub header_narrow : (h : code_header.Header) → Ok h ≡ header_read (header formula) → h.variables ≤ 6
      → Ok h ≡ header_read (six_only formula (header formula))
  header_narrow h is most = rw (header-ok (header formula) h (sym is), le-leb h.variables 6 most)

  pub header-improper : (r : Refusal) → Err r ≡ header_read (header formula) → Err r ≡ header_read (six_only formula (header formula))
  header-improper r is = rw (header-err (header formula) r (sym is))

-- a header that is left is within the formula, and names at most six variables
six-in : (formula : List ℕ) (h : Header) → HeaderIn formula h → (n many at : ℕ) → six_only formula h ≡ Proper n many at → (n ≤ 6) ×
    (many ≤ 1024) × (at ≤ length formula)
six-in formula (Proper n₀ many₀ at₀) I n many at e = go (leb n₀ 6) refl e
  where
    go : (c : Bool) → leb n₀ 6 ≡ c → cond c (Proper n₀ many₀ at₀) (Improper 2 (judged_from formula (length formula) 0)) ≡ Proper n many at →
        (n ≤ 6) × (many ≤ 1024) × (at ≤ length formula)
    go true l q =
        let a : n₀ ≡ n = cc in
        let b : many₀ ≡ many = cc in
        let d : at₀ ≡ at = cc in
        (omega (arith, leb-true n₀ 6 l), omega (arith, I.1), omega (arith, I.2))
    go false l q = let z : ◌≡◌ {A = ℕ} 0 1 = cc in absurd (omega arith)
six-in formula (Improper number place) I n many at e = let z : ◌≡◌ {A = ℕ} 0 1 = cc in absurd (omega arith)

module _ (formula proof : List ℕ) (r : Result code_header.Header Refusal) (is : r ≡ header_read (six_only formula (header formula))) where
  pub run-improper : (f : Refusal) → r ≡ Err f → word_verdict formula proof ≡ formula_refused f.number f.place
  unfolding word_verdict
  run-improper f e = ap (words_after_header formula proof) (header-err (six_only formula (header formula)) f (sym is ∙ e))

  pub run-proper : (h : code_header.Header) → r ≡ Ok h → (x : Said)
      → word_clauses h.variables proof [] (clauses_from formula h.variables h.clauses h.end) ≡ x → word_verdict formula proof ≡ x
  unfolding word_verdict
  run-proper h e x q = ap (words_after_header formula proof) (header-ok (six_only formula (header formula)) h (sym is ∙ e)) ∙ q

  pub run-within : (h : code_header.Header) → r ≡ Ok h → (h.variables ≤ 6) × (h.clauses ≤ 1024) × (h.end ≤ length formula)
  run-within h e =
      six-in formula (header formula) (header-in formula) h.variables h.clauses h.end
      (header-ok (six_only formula (header formula)) h (sym is ∙ e))

-- the state before the first record
module _ (n made : ℕ) (members struck scratch : List ℕ) (narrow : n ≤ 6) (few : made ≤ 1024) (room : 2048 ≤ length members)
    (same : length struck ≡ length members) (places : 4096 ≤ length scratch)
    (clear : struck ≡ replicate (length struck) 0) where
  abbrev first : State
  first = record { members = made; entries = 0; witness = record { positive = 0; negative = 0 }; lines = 0; rounds = 0; refuted = false }

  pub first-held : Held n (words_lent members struck scratch) first
  first-held = record {
    narrow = narrow;
    room = room;
    marked = same;
    places = places;
    many = omega arith;
    lines = omega arith;
    few = omega
        arith;
    rounds = omega arith;
  }

  take-zeros : (k j : ℕ) → j ≤ k → take j (replicate {A = ℕ} k 0) ≡ replicate j 0
  take-zeros k zero p = refl
  take-zeros zero (suc j) p = absurd (omega arith)
  take-zeros (suc k) (suc j) p = ap (λ (l : List ℕ). 0 ∷ l) (take-zeros k j (omega arith))

  pub first-begun : state_of (words_lent members struck scratch) first ≡ words_begun (take made members)
  first-begun =
      let marks : take made struck ≡ replicate (length (take made members)) 0 =
      ap (take made) clear ∙ take-zeros (length struck) made (omega arith) ∙ ap (λ (k : ℕ). replicate k 0)
      (sym (length-take-le made members (omega arith))) in
      ap (λ (m : List ℕ). record {
        members = take made members;
        struck = m;
        entries = [];
        positive = 0;
        negative = 0;
        lines = 0;
        rounds = 0;
        refuted = false;
      }) marks

pub begun-said : (n : ℕ) (proof : List ℕ) (members : List ℕ) (x : Result ℕ Refusal) (whole : Said) → whole ≡ said_from n proof members x → (made : ℕ) →
    x ≡ Ok made
    → whole ≡ word_records (suc (length proof)) n proof (words_begun (take made members)) 0
begun-said n proof members x whole e made is = e ∙ ap (said_from n proof members) is

pub refused-said : (n : ℕ) (proof : List ℕ) (members : List ℕ) (x : Result ℕ Refusal) (whole : Said) → whole ≡ said_from n proof members x →
    (r : Refusal) → x ≡ Err r → whole ≡ formula_refused r.number r.place
refused-said n proof members x whole e r is = e ∙ ap (said_from n proof members) is

pub begins-few : (x : Result ℕ Refusal) (made : ℕ) → x ≡ Ok made → Begins x → made ≤ 1024
begins-few x made e B = subst Begins e B

-- what the call says and leaves
module _ (members struck scratch formula proof : List ℕ) where
  pub call-seven : small_fits members struck scratch ≡ false
      → small_outcome members struck scratch (record { number = 7; in_proof = false; place = 0; lines = 0; rounds = 0 })
      ≡ small_call members
      struck scratch formula proof
  unfolding small_call
  call-seven e = rw e

  pub call-done : small_fits members struck scratch ≡ true → (r : SmallChecked) → word_verdict formula proof ≡ said_of r →
      (a b c : List ℕ) → a
      ≡ replicate (length members) 0
      → b ≡ replicate (length struck) 0 → c ≡ replicate (length scratch) 0 → small_outcome a b c r
      ≡ small_call members struck scratch formula
      proof
  unfolding small_call
  call-done e r s a b c p q t =
      let same : said_of r ≡ said (small formula proof) = sym s ∙ sym (words-agree formula proof) in
      rw (e, p, q, t)
      (ap (λ (x : Said). record {
        number = x.number;
        in_proof = x.in_proof;
        place = x.place;
        lines = x.lines;
        rounds = x.rounds;
        members = replicate (length members) 0;
        struck = replicate (length struck) 0;
        scratch = replicate (length scratch) 0;
      }) same)
