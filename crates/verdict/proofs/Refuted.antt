-- Number 0 is given only where no assignment satisfies the formula, whatever the proof's bytes. The idea: where one satisfies the formula
-- an accepted line or clause keeps the live members satisfiable (meaning/proofs/Soundness), so that none is 0; a striking only leaves
-- fewer. Assumes nothing.
use mathlib.Core.Path.{◌≡◌, refl, sym, ap, ap₂, ◌∙◌, subst}
use mathlib.Core.Bool.{Bool, true, false, ◌&&◌, cond}
use mathlib.Core.List.{List, [], ◌∷◌, ◌++◌, map, append-nil}
use Prim.Native.Nat.{ℕ, zero, suc, ◌+◌, ◌≤◌}
use native.Mathlib.Omega.{arith}
use lib.ListN.{length, set}
use lib.Dec.{eqb}
use borrow.Author.Tests.{eqb-true}
use Rattle.meaning.specs.Diagram.{Assignment, Diagram, value, value_from}
use Rattle.meaning.specs.Operations as meaning
use Rattle.meaning.specs.Words.{in_word}
use Rattle.meaning.proofs.Booleans.{t≢f, not-true, and_both, or_cases}
use Rattle.meaning.specs.Literals.{OfVariables}
use Rattle.meaning.proofs.Soundness.{Satisfies, rup-sound, pr-sound}
use Rattle.paths.proofs.Sound.{path-sound}
use Rattle.table.specs.Nodes.{Node, diagram_at}
use Rattle.table.proofs.Numbers.{diagram_at-zero}
use Rattle.dimacs.specs.Clauses.{Reading, clause, complete, refusal, clauses_from, formula}
use Rattle.dimacs.proofs.Bounds.{HeaderIn, header-in}
use Rattle.dimacs.proofs.Formula.{formula-proper}
use Rattle.records.specs.declared.Rule.{Rule}
use Rattle.records.specs.declared.Rule.TheVariants.{Rup, Pr, Path}
use Rattle.records.specs.declared.Record.{Record}
use Rattle.records.specs.declared.Record.TheVariants.{NodeEntry, Witness, ProofLine, Strike, SetEntry, End, CutShort, UnknownKind}
use Rattle.records.specs.declared.Record.TheVariants.{NoRecord}
use Rattle.commands.specs.declared.Mode.{Mode}
use Rattle.commands.specs.declared.Form.{Form}
use Rattle.commands.specs.Commands.{Command, recorded, added, struck_out, wrong, finished}
use Rattle.table.specs.Columns.{Columns}
use Rattle.clausal.proofs.Literals.{AllOfVariables}
use Rattle.verdict.specs.Steps.{State, begun, entry_node, diagram_in, unstruck, live_members}
use Rattle.verdict.specs.Check.{Verdict, verdict, CheckOutcome, lent_fits, outcome, check}
use Rattle.verdict.specs.Taken.{Function, Meant, entry_meant, after_record, Valued, LineTaken, Taken}
use Rattle.verdict.specs.Run.{Making, opened, made, command_in, CommandTaken, after_command, Reached, begins, goes}
use Rattle.verdict.specs.Satisfies.{clauses_of, read_to_end, satisfies, Unsatisfiable}
use Rattle.verdict.proofs.Standing.{Standing, valued-length, entry-valued}
use Rattle.verdict.proofs.Live.{unstruck-append, unstruck-none, valued-unstruck}
use Rattle.verdict.proofs.Formula.{Read, clauses-read}
use Rattle.verdict.proofs.Fitted.{fitted, fitted-length}
use Rattle.verdict.proofs.Clauses.{clause-fitted, underway}
use Rattle.verdict.specs.ClauseTaken.{ClauseTaken}
use Rattle.verdict.proofs.Added.{clause-line, clause-keeps, clause-node}
use Rattle.verdict.proofs.Commands.{Fit, Known, fit-known}
use Rattle.verdict.proofs.Ends.{reached-fit, reached-standing, ended}
use Rattle.verdict.proofs.Refutes.{step-refutes}
use Rattle.verdict.proofs.Numbers.{Closed, formula-refused, proof-ended, proof-tried, ended-closed}

-- ---- functions that are 1 under an assignment

abbrev pub AllOne : Assignment → List Function → Type 0
AllOne a [] = Unit {0}
AllOne a (f ∷ fs) = (f a ≡ true) × AllOne a fs

module _ (a : Assignment) where
  pub all_append : (fs : List Function) (f : Function) → AllOne a fs → f a ≡ true → AllOne a (fs ++ f ∷ [])
  all_append [] f all one = (one, tt)
  all_append (g ∷ fs) f all one = (all.0, all_append fs f all.1 one)

  -- with one more struck there are fewer
  all-fewer : (marks : List ℕ) (k : ℕ) (fs : List Function) → AllOne a (unstruck marks fs) → AllOne a (unstruck (set marks k 1) fs)
  unfolding unstruck
  all-fewer marks k [] all = tt
  all-fewer [] k (f ∷ fs) all = all
  all-fewer (m ∷ marks) zero (f ∷ fs) all = go (eqb m 0) all
    where
      go : (c : Bool) → AllOne a (cond c (f ∷ unstruck marks fs) (unstruck marks fs)) → AllOne a (unstruck marks fs)
      go true all = all.1
      go false all = all
  all-fewer (m ∷ marks) (suc k) (f ∷ fs) all = go (eqb m 0) (all-fewer marks k fs) all
    where
      go : (c : Bool) → (AllOne a (unstruck marks fs) → AllOne a (unstruck (set marks k 1) fs)) →
          AllOne a (cond c (f ∷ unstruck marks fs) (unstruck marks fs))
          → AllOne a (cond c (f ∷ unstruck (set marks k 1) fs) (unstruck (set marks k 1) fs))
      go true rest all = (all.0, rest all.1)
      go false rest all = rest all

  -- members whose functions are 1 are satisfied, and the other way round
  pub members-satisfied : (t : List Node) (b : ℕ) (ks : List ℕ) (fs : List Function) → Valued t b ks fs → AllOne a fs →
      Satisfies a (map (diagram_at t) ks)
  members-satisfied t b [] [] W all = tt
  members-satisfied t b [] (f ∷ fs) W all = absurd W
  members-satisfied t b (k ∷ ks) [] W all = absurd W
  members-satisfied t b (k ∷ ks) (f ∷ fs) W all = (W.1 a ∙ all.0, members-satisfied t b ks fs W.2 all.1)

  satisfied-members : (t : List Node) (b : ℕ) (ks : List ℕ) (fs : List Function) → Valued t b ks fs → Satisfies a (map (diagram_at t) ks) →
      AllOne a fs
  satisfied-members t b [] [] W sat = tt
  satisfied-members t b [] (f ∷ fs) W sat = absurd W
  satisfied-members t b (k ∷ ks) [] W sat = absurd W
  satisfied-members t b (k ∷ ks) (f ∷ fs) W sat = (sym (W.1 a) ∙ sat.0, satisfied-members t b ks fs W.2 sat.1)

  pub satisfied-clauses : (cs : List (List meaning.Literal)) → satisfies a cs ≡ true → AllOne a (map meaning.clause_value cs)
  unfolding satisfies
  satisfied-clauses [] e = tt
  satisfied-clauses (ls ∷ cs) e = let (one, rest) = and_both (meaning.clause_value ls a) (satisfies a cs) e in
      (one, satisfied-clauses cs rest)

-- ---- clauses of n variables

read-within : (n left : ℕ) (r : Reading) → Read n left r → AllOfVariables n (clauses_of r)
unfolding clauses_of
read-within n zero (clause ls first rest) R = absurd R
read-within n (suc left) (clause ls first rest) R = (R.0, read-within n left rest R.1)
read-within n left complete R = tt
read-within n left (refusal number place) R = tt

pub satisfies-fitted : (n : ℕ) (cs : List (List meaning.Literal)) → AllOfVariables n cs → (a : Assignment) → satisfies (fitted n a) cs
    ≡ satisfies a cs
unfolding satisfies
satisfies-fitted n [] w a = refl
satisfies-fitted n (ls ∷ cs) w a = ap₂ ◌&&◌ (clause-fitted n ls w.0 a) (satisfies-fitted n cs w.1 a)

-- ---- reached states are sound

-- The functions of the live members.
abbrev pub live_meant : State → Meant → List Function
live_meant st m = unstruck st.struck m.members

-- Where an assignment satisfies the formula one satisfies all live members, and none satisfies it once a 0 line is accepted, though that
-- line be struck later.
pub record Sound (text : List ℕ) (n : ℕ) (m : Meant) (st : State) : Type 0 where
  pub kept : (a : Assignment) → length a ≡ n → satisfies a (clauses_of (formula text)) ≡ true → (b : Assignment) × (length b ≡ n)
      × AllOne b (live_meant st m)
  pub zero : st.refuted ≡ true → (a : Assignment) → length a ≡ n → satisfies a (clauses_of (formula text)) ≡ true → ⊥

module _ {s n : ℕ} {m : Meant} {st : State} (S : Standing s n m st) where
  pub live-valued : Valued st.nodes st.kept (unstruck st.struck st.members) (live_meant st m)
  live-valued = valued-unstruck st.nodes st.kept st.struck st.members m.members S.members

  -- an assignment for the live members gives one for them and an accepted line
  line-keeps : (rule : Rule) (root : ℕ) (st' : State) → LineTaken n s st rule root st' → (a : Assignment) → length a ≡ n →
      AllOne a (live_meant st m)
      → (b : Assignment) × (length b ≡ n) × AllOne b (live_meant st m) × (entry_meant m root b ≡ true)
  line-keeps Rup root st' T a len all =
      let (inside, is) = entry-valued S root T.entry in
      let one : value (diagram_in st (entry_node st root)) a ≡ true = rup-sound n (live_members st) (diagram_in st (entry_node st root))
      T.shown a len
      (members-satisfied a st.nodes st.kept (unstruck st.struck st.members) (live_meant st m) live-valued all) in
      (a, len, all, sym (is a) ∙ one)
  line-keeps Pr root st' T a len all =
      let (inside, is) = entry-valued S root T.entry in
      let (b, lb, sat, one) = pr-sound n (in_word st.positive) (in_word st.negative) (live_members st) (diagram_in st (entry_node st root))
      T.witness T.shown a len
      (members-satisfied a st.nodes st.kept (unstruck st.struck st.members) (live_meant st m) live-valued all) in (
        b,
        lb,
        satisfied-members b st.nodes st.kept (unstruck st.struck st.members) (live_meant st m) live-valued sat,
        sym (is b)
            ∙ one,
      )
  line-keeps Path root st' T a len all =
      let (inside, is) = entry-valued S root T.entry in
      let one : value (diagram_in st (entry_node st root)) a ≡ true = path-sound n (live_members st) (diagram_in st (entry_node st root))
      T.shown a len
      (members-satisfied a st.nodes st.kept (unstruck st.struck st.members) (live_meant st m) live-valued all) in
      (a, len, all, sym (is a) ∙ one)

  -- an accepted line is one more live member
  live-append : (f : Function) → unstruck (st.struck ++ 0 ∷ []) (m.members ++ f ∷ []) ≡ live_meant st m ++ f ∷ []
  live-append f = unstruck-append st.struck m.members f
      (S.marks ∙ valued-length st.nodes st.kept st.members m.members S.members)

  module _ (narrow : n ≤ 64) (text : List ℕ) (H : Sound text n m st) where
    line-sound : (rule : Rule) (root : ℕ) (st' : State) → LineTaken n s st rule root st'
        → Sound text n (record { members = m.members ++ entry_meant m root ∷ []; entries = [] }) st'
    unfolding value_from
    line-sound rule root st' T =
        let (inside, is) = entry-valued S root T.entry in
        subst (Sound text n (record { members = m.members ++ entry_meant m root ∷ []; entries = [] })) T.is (record {
          kept = λ a len sat.
              let (c, lc, all) = H.kept a len sat in
              let (b, lb, live, one) = line-keeps rule root st' T c lc all in
              (b, lb, rw (live-append (entry_meant m root)) (all_append b (live_meant st m) (entry_meant m root) live one));
          zero = λ e a len sat. or_cases st.refuted (eqb (entry_node st root) 0) e (λ x. H.zero x a len sat) (λ x.
              let (c, lc, all) = H.kept a len sat in
              let (b, lb, live, one) = line-keeps rule root st' T c lc all in
              t≢f (sym one ∙ sym (is b) ∙ ap (λ (k : ℕ). value (diagram_at st.nodes k) b) (eqb-true (entry_node st root) 0 x)
              ∙ ap (λ (D : Diagram). value D b) (diagram_at-zero st.nodes)));
        })

    -- no line is accepted, and no member becomes live
    same-sound : (m' : Meant) (st' : State) → ((b : Assignment) → AllOne b (live_meant st m) → AllOne b (live_meant st' m')) → st.refuted
        ≡ st'.refuted
        → Sound text n m' st'
    same-sound m' st' fewer e = record {
      kept = λ a len sat. let (b, lb, all) = H.kept a len sat in (b, lb, fewer b all);
      zero = λ r. H.zero (e ∙ r);
    }

    -- the marks of a state that is one of the others
    struck-are : (st₁ st' : State) → st₁ ≡ st' → (b : Assignment) → AllOne b (unstruck st₁.struck m.members) →
        AllOne b (unstruck st'.struck m.members)
    struck-are st₁ st' is b all = subst (λ (x : State). AllOne b (unstruck x.struck m.members)) is all

    record-sound : (r : Record) (st' : State) → Taken n s st r st' → Sound text n (after_record m r) st'
    unfolding after_record
    record-sound (NodeEntry b) st' T = same-sound (after_record m (NodeEntry b)) st' (struck-are _ st' T.is)
        (ap (λ (x : State). x.refuted) T.is)
    record-sound (Witness v b) st' T = same-sound m st' (struck-are _ st' T.is) (ap (λ (x : State). x.refuted) T.is)
    record-sound (ProofLine rule root) st' T = line-sound rule root.0 st' T
    record-sound (Strike k) st' T =
        same-sound m st' (λ b all. struck-are _ st' T.is b (all-fewer b st.struck k.0 m.members all))
        (ap (λ (x : State). x.refuted) T.is)
    record-sound (SetEntry kind b) st' T = same-sound (after_record m (SetEntry kind b)) st' (struck-are _ st' T.is)
        (ap (λ (x : State). x.refuted) T.is)
    record-sound End st' T = absurd T
    record-sound CutShort st' T = absurd T
    record-sound UnknownKind st' T = absurd T
    record-sound NoRecord st' T = absurd T

    -- the clause is one more live member, and where it is 0 no assignment is left
    clause-sound : (profile : Bool) (ls : List meaning.Literal) → OfVariables n ls → (st' : State) → ClauseTaken profile n s st ls st'
        → Sound text n (record { members = m.members ++ meaning.clause_value ls ∷ []; entries = [] }) st'
    unfolding value_from
    clause-sound profile ls w st' T =
        let (line, peak, is) = clause-line S narrow ls w st' T in
        let f : Function = meaning.clause_value ls in
        subst (Sound text n (record { members = m.members ++ f ∷ []; entries = [] })) is (record {
          kept = λ a len sat.
              let (c, lc, all) = H.kept a len sat in
              let (b, lb, live, one) = keeps ls w st' T c lc all in
              (b, lb, rw (live-append f) (all_append b (live_meant st m) f live one));
          zero = λ e a len sat. or_cases st.refuted (eqb T.node 0) e (λ x. H.zero x a len sat) (λ x.
              let (c, lc, all) = H.kept a len sat in
              let (b, lb, live, one) = keeps ls w st' T c lc all in
              t≢f (sym one ∙ sym (clause-node S narrow ls T.nodes T.node T.room w b)
              ∙ ap (λ (k : ℕ). value (diagram_at T.nodes k) b) (eqb-true T.node 0 x)
              ∙ ap (λ (D : Diagram). value D b) (diagram_at-zero T.nodes)));
        })
      where
        keeps : (ls : List meaning.Literal) → OfVariables n ls → (st' : State) → ClauseTaken profile n s st ls st' → (a : Assignment) →
            length a ≡ n → AllOne a (live_meant st m)
            → (b : Assignment) × (length b ≡ n) × AllOne b (live_meant st m) × (meaning.clause_value ls b ≡ true)
        keeps ls w st' T a len all =
            let ks : List ℕ = unstruck st.struck st.members in
            let (b, lb, sat, one) = clause-keeps S narrow ls w st' T a len
            (members-satisfied a st.nodes st.kept ks (live_meant st m) live-valued all) in
            (b, lb, satisfied-members b st.nodes st.kept ks (live_meant st m) live-valued sat, one)

    known-sound : (profile : Bool) (c : Command) → Known n c → (st' : State) → CommandTaken profile n s st c st' →
        Sound text n (after_command m c) st'
    unfolding after_command
    known-sound profile (recorded r more) known st' T = record-sound r st' T.1
    known-sound profile (added ls) known st' T = clause-sound profile ls known st' T
    known-sound profile (struck_out ls) known st' C =
        same-sound m st' (λ b all. struck-are _ st' C.is b (all-fewer b st.struck C.place m.members all))
        (ap (λ (x : State). x.refuted) C.is)
    known-sound profile (wrong number offset) known st' T = absurd T
    known-sound profile finished known st' T = absurd T

    pub step-sound : (profile : Bool) (form : Form) (c : Command) → Fit form n c → (st' : State) → CommandTaken profile n s st c st' →
        Sound text n (after_command m c) st'
    step-sound profile form c fit st' T = known-sound profile c (fit-known form n c fit) st' T

module _ (mode : Mode) (s : ℕ) (text proof : List ℕ) where
  -- the members made are the clauses of the formula
  begun-sound : (n many : ℕ) (t : List Node) (ms : List ℕ) (fs : List Function) → Making s text n many t ms fs complete
      → Sound text n (record { members = fs; entries = [] }) (begun t ms)
  unfolding clauses_of
  begun-sound n many t ms fs M = record {
    kept = λ a len sat. (
      a,
      len,
      rw (unstruck-none (length ms) fs)
          (subst (AllOne a) (sym (sym (append-nil fs) ∙ (underway s text n many M).clauses))
          (satisfied-clauses a (clauses_of (formula text)) sat)),
    );
    zero = λ e a len sat. t≢f (sym e);
  }

  reached-sound : {n : ℕ} {st : State} {at : ℕ} {m : Meant} → Reached mode s text proof n st at m → Sound text n m st
  reached-sound {n} (begins {many} {t} {ms} {fs} M) = begun-sound n many t ms fs M
  reached-sound {n} (goes {st} {st'} {at} R T) =
      let (narrow, S) = reached-standing mode s text proof R in
      step-sound S narrow text (reached-sound R) mode.consequence mode.form (command_in mode proof n at)
      (reached-fit mode s text proof R) st' T

  -- ---- the formula of a reached state

  making-within : {n many : ℕ} {t : List Node} {ms : List ℕ} {fs : List Function} {r : Reading} → Making s text n many t ms fs r →
      AllOfVariables n (clauses_of (formula text))
  making-within {n} {many} (opened {at} e) =
      let h : (n ≤ 64) × (many ≤ 1024) × (at ≤ length text) = subst (HeaderIn text) e (header-in text) in
      rw (formula-proper text n many at e) (read-within n many (clauses_from text n many at) (clauses-read text n many at h.2))
  making-within (made M e) = making-within M

  -- Its literals are the header's.
  pub reached-within : {n : ℕ} {st : State} {at : ℕ} {m : Meant} → Reached mode s text proof n st at m →
      AllOfVariables n (clauses_of (formula text))
  reached-within (begins M) = making-within M
  reached-within (goes R e) = reached-within R

  pub reached-end : {n : ℕ} {st : State} {at : ℕ} {m : Meant} → Reached mode s text proof n st at m → read_to_end (formula text) ≡ true
  unfolding read_to_end
  reached-end {n} (begins {many} M) = sym (underway s text n many M).end
  reached-end (goes R e) = reached-end R

  -- ---- the theorem

  -- The number 0 is given: the formula was read to its end, and no assignment, of as many variables as one likes, satisfies it.
  pub refuted : (verdict mode s text proof).number ≡ 0 → Unsatisfiable text
  refuted zero-said = go (verdict mode s text proof) (ended-closed mode s text proof (verdict mode s text proof) (ended mode s text proof))
      zero-said
    where
      go : (v : Verdict) → Closed mode s text proof v → v.number ≡ 0 → Unsatisfiable text
      go _ (formula-refused named) z = absurd (omega arith)
      go _ (proof-tried late R e) z = absurd (omega arith)
      go _ (proof-ended {n} {number} {offset} {at} {st} {m} _ R e) z = (
        reached-end R,
        (λ a. not-true (satisfies a (clauses_of (formula text))) (λ sat.
            (reached-sound R).zero (step-refutes mode.consequence mode.form n s st (command_in mode proof n at)
            (reached-fit mode s text proof R) offset (rw z at e)).zero-line (fitted n a) (fitted-length n a)
            (satisfies-fitted n (clauses_of (formula text)) (reached-within R) a ∙ sat))),
      )

-- ---- the call

said-zero : (c : Bool) (x y : CheckOutcome) → y.number ≡ 7 → (cond c x y).number ≡ 0 → x.number ≡ 0
said-zero true x y seven e = e
said-zero false x y seven e = absurd (omega arith)

-- The same of the call, whatever the lent places held.
pub check-refuted : (mode : Mode) (c : Columns) (count : ℕ) (members struck scratch text proof : List ℕ)
    → (check mode c count members struck scratch text proof).number ≡ 0
    → Unsatisfiable text
unfolding check outcome
check-refuted mode c count members struck scratch text proof e =
    refuted mode (length c.vars) text proof
    (said-zero (lent_fits c members struck scratch)
    (outcome (length c.vars) (length members) (length scratch) (verdict mode (length c.vars) text proof)) _ refl e)
