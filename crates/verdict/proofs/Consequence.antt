-- In the consequence profile each accepted line is true under every assignment that satisfies the formula, and a proof in records without a
-- PR record has there the results that it has outside. The idea: RUP lines and path lines follow from the live members at the same
-- assignment; without a PR record no step differs. Assumes nothing.
use mathlib.Core.Path.{◌≡◌, refl, sym, ◌∙◌, subst}
use mathlib.Core.Logic.{inl, inr}
use mathlib.Core.Bool.{Bool, true, false, not, cond}
use mathlib.Core.List.{List, [], ◌∷◌, ◌++◌, append-nil}
use Prim.Native.Nat.{ℕ, zero, suc, ◌+◌, ◌≤◌}
use native.Mathlib.Omega.{arith}
use lib.ListN.{length}
use lib.Dec.{eqb, ltb}
use Rattle.meaning.specs.Diagram.{Assignment}
use Rattle.meaning.specs.Operations as meaning
use Rattle.meaning.proofs.Booleans.{t≢f, and_both}
use Rattle.meaning.proofs.Pointwise.{clause-value}
use Rattle.meaning.proofs.Soundness.{Satisfies, rup-sound}
use Rattle.paths.proofs.Sound.{path-sound}
use Rattle.meaning.proofs.Values.{value-agree}
use Rattle.table.specs.Nodes.{Node, diagram_at, Placing, full, placed, place}
use Rattle.table.proofs.Numbers.{reduced-to}
use Rattle.table.specs.Columns.{Columns}
use Rattle.dimacs.specs.Header.{Header, Proper, Improper, header}
use Rattle.dimacs.specs.Clauses.{Reading, clause, complete, refusal, clauses_from, formula}
use Rattle.records.specs.declared.Rule.{Rule}
use Rattle.records.specs.declared.Rule.TheVariants.{Rup, Pr, Path}
use Rattle.records.specs.declared.Record.{Record}
use Rattle.records.specs.declared.Record.TheVariants.{NodeEntry, Witness, ProofLine, Strike, SetEntry, End, CutShort, UnknownKind}
use Rattle.records.specs.declared.Record.TheVariants.{NoRecord}
use Rattle.records.specs.Records.{record_at, length_of}
use Rattle.commands.specs.declared.Mode.{Mode}
use Rattle.commands.specs.declared.Form.{Form}
use Rattle.commands.specs.declared.Form.TheVariants.{Records}
use Rattle.commands.specs.Commands.{Command, recorded, added, struck_out, wrong, finished, in_form}
use Rattle.verdict.specs.Steps.{State, emptied, begun, with_entry, Step, next, stop, spent, waiting, entry_node, diagram_in, unstruck}
use Rattle.verdict.specs.Steps.{live_members, node_step, witness_step, line_step, strike_step, set_step, end_step, record_step}
use Rattle.verdict.specs.Check.{is_pr, is_pr_line, step, Verdict, after_step, commands, after_clause, clauses, check_after_header, verdict}
use Rattle.verdict.specs.Check.{check}
use Rattle.verdict.specs.Taken.{Function, Meant, entry_meant, after_record, Valued, LineTaken, Taken}
use Rattle.verdict.specs.ClauseTaken.{TriesTaken, ClauseTaken}
use Rattle.verdict.specs.Run.{Making, command_in, CommandTaken, after_command, Reached, begins, goes}
use Rattle.verdict.specs.Satisfies.{clauses_of, satisfies}
use Rattle.verdict.specs.Profile.{no_pr_with, no_pr_from, without_pr}
use Rattle.verdict.proofs.Standing.{Standing, entry-valued}
use Rattle.verdict.proofs.Clauses.{underway}
use Rattle.verdict.proofs.Fitted.{fitted, fitted-length, fitted-holds}
use Rattle.verdict.proofs.Ends.{reached-standing}
use Rattle.verdict.proofs.Added.{live_same}
use Rattle.verdict.proofs.Refuted.{AllOne, all_append, members-satisfied, satisfied-clauses, live_meant, live-valued}
use Rattle.verdict.proofs.Refuted.{satisfies-fitted, reached-within}

-- ---- an accepted line follows from the live members

all_live : (a : Assignment) (marks : List ℕ) (fs : List Function) → AllOne a fs → AllOne a (unstruck marks fs)
unfolding unstruck
all_live a marks [] all = tt
all_live a [] (f ∷ fs) all = all
all_live a (m ∷ marks) (f ∷ fs) all = go (eqb m 0) (all_live a marks fs all.1)
  where
    go : (c : Bool) → AllOne a (unstruck marks fs) → AllOne a (cond c (f ∷ unstruck marks fs) (unstruck marks fs))
    go true rest = (all.0, rest)
    go false rest = rest

module _ {s n : ℕ} {m : Meant} {st : State} (S : Standing s n m st) where
  abbrev Live : Assignment → Type 0
  Live a = AllOne a (live_meant st m)

  live-satisfied : (a : Assignment) → Live a → Satisfies a (live_members st)
  live-satisfied a all = members-satisfied a st.nodes st.kept (unstruck st.struck st.members) (live_meant st m) (live-valued S)
      all

  -- THEOREM: "an accepted path line follows from the members"; so does a RUP line.
  pub line-follows : (rule : Rule) (root : ℕ) (st' : State) → is_pr rule ≡ false → LineTaken n s st rule root st'
      → (a : Assignment) → length a ≡ n → Live a → entry_meant m root a ≡ true
  line-follows Rup root st' e T a len all =
      sym ((entry-valued S root T.entry).1 a) ∙ rup-sound n (live_members st) (diagram_in st (entry_node st root)) T.shown a len
      (live-satisfied a all)
  line-follows Path root st' e T a len all =
      sym ((entry-valued S root T.entry).1 a) ∙ path-sound n (live_members st) (diagram_in st (entry_node st root)) T.shown a len
      (live-satisfied a all)
  line-follows Pr root st' e T a len all = t≢f e

  -- a clause that its first try shows follows too
  clause-follows : n ≤ 64 → (ls : List meaning.Literal) (st' : State) → ClauseTaken true n s st ls st'
      → (a : Assignment) → length a ≡ n → Live a → meaning.clause_value ls a ≡ true
  clause-follows narrow ls st' T a len all = go T.tried
    where
      after : State
      after = with_entry st T.nodes T.node

      go : TriesTaken true n s after T.node ls st' → meaning.clause_value ls a ≡ true
      go (inl J) =
          sym (clause-value n a len ls)
          ∙ rup-sound n (live_members after) (meaning.clause n ls) J.shown a len
          (subst (Satisfies a) (sym (live_same S narrow ls T.nodes T.node T.room)) (live-satisfied a all))
      go (inr U) = absurd U

  -- ---- the members stay true

  module _ (narrow : n ≤ 64) (a : Assignment) (len : length a ≡ n) (all : AllOne a m.members) where
    live : Live a
    live = all_live a st.struck m.members all

    record-follows : (r : Record) (st' : State) → is_pr_line r ≡ false → Taken n s st r st' → AllOne a (after_record m r).members
    unfolding after_record
    record-follows (NodeEntry b) st' e T = all
    record-follows (Witness v b) st' e T = all
    record-follows (ProofLine rule root) st' e T = all_append a m.members (entry_meant m root.0) all
        (line-follows rule root.0 st' e T a len live)
    record-follows (Strike k) st' e T = all
    record-follows (SetEntry kind b) st' e T = all
    record-follows End st' e T = absurd T
    record-follows CutShort st' e T = absurd T
    record-follows UnknownKind st' e T = absurd T
    record-follows NoRecord st' e T = absurd T

    step_follows : (c : Command) (st' : State) → CommandTaken true n s st c st' → AllOne a (after_command m c).members
    unfolding after_command
    step_follows (recorded r more) st' T = record-follows r st' T.0 T.1
    step_follows (added ls) st' T = all_append a m.members (meaning.clause_value ls) all (clause-follows narrow ls st' T a len live)
    step_follows (struck_out ls) st' T = all
    step_follows (wrong number offset) st' T = absurd T
    step_follows finished st' T = absurd T

-- ---- the run

module _ (form : Form) (s : ℕ) (text proof : List ℕ) where
  abbrev profile : Mode
  profile = in_form form true

  begun-follow : {n many : ℕ} {t : List Node} {ms : List ℕ} {fs : List Function} → Making s text n many t ms fs complete
      → (a : Assignment) → satisfies a (clauses_of (formula text)) ≡ true → AllOne a fs
  unfolding clauses_of
  begun-follow {n} {many} {t} {ms} {fs} M a sat =
      subst (AllOne a) (sym (sym (append-nil fs) ∙ (underway s text n many M).clauses))
      (satisfied-clauses a (clauses_of (formula text)) sat)

  -- every member of a reached state, at an assignment of the header's variables
  reached-follow : {n : ℕ} {st : State} {at : ℕ} {m : Meant} → Reached profile s text proof n st at m
      → (a : Assignment) → length a ≡ n → satisfies a (clauses_of (formula text)) ≡ true → AllOne a m.members
  reached-follow (begins M) a len sat = begun-follow M a sat
  reached-follow {n} (goes {st} {st'} {at} R T) a len sat =
      let (narrow, S) = reached-standing profile s text proof R in
      step_follows S narrow a len (reached-follow R a len sat) (command_in profile proof n at) st' T

  -- THEOREM: "each accepted line is true under every assignment that satisfies the formula", of however many variables; so are the clauses.
  pub lines-follow : {n : ℕ} {st : State} {at : ℕ} {m : Meant} → Reached profile s text proof n st at m
      → (a : Assignment) → satisfies a (clauses_of (formula text)) ≡ true → AllOne a m.members
  lines-follow {n} {st} {at} {m} R a sat =
      go st.members m.members S.members
      (reached-follow R (fitted n a) (fitted-length n a)
      (satisfies-fitted n (clauses_of (formula text)) (reached-within profile s text proof R) a ∙ sat))
    where
      S : Standing s n m st
      S = (reached-standing profile s text proof R).1

      go : (ks : List ℕ) (fs : List Function) → Valued st.nodes st.kept ks fs → AllOne (fitted n a) fs → AllOne a fs
      go [] [] W all = tt
      go [] (f ∷ fs) W all = absurd W
      go (k ∷ ks) [] W all = absurd W
      go (k ∷ ks) (f ∷ fs) W all = (
        sym (W.1 a)
            ∙ value-agree 1 1 (suc n) (diagram_at st.nodes k) a (fitted n a)
            (reduced-to n st.nodes S.ordered S.uses k (omega (arith, W.0, S.kept)))
            (λ v p q. sym (fitted-holds n a v p (omega arith)))
            ∙ W.1 (fitted n a) ∙ all.0,
        go ks fs W.2 all.1,
      )

-- ---- the same results without a PR record

end-alike : (st : State) (more : Bool) (at : ℕ) (f g : State → Verdict) → after_step (end_step st more) st at f
    ≡ after_step (end_step st more) st at g
unfolding end_step
end-alike st more at f g = go (waiting st) more st.refuted
  where
    go : (a b c : Bool)
        → after_step (cond a (stop 16 0) (cond b (stop 11 1) (cond c (stop 0 0) (stop 20 0)))) st at f
        ≡ after_step (cond a (stop 16 0) (cond b (stop 11 1) (cond c (stop 0 0) (stop 20 0)))) st at g
    go true b c = refl
    go false true c = refl
    go false false true = refl
    go false false false = refl

on_alike : (x : Step) (st : State) (at : ℕ) (f g : State → Verdict) → ((st' : State) → f st' ≡ g st') → after_step x st at f
    ≡ after_step x st at g
on_alike (next st') st at f g e = e st'
on_alike (stop number offset) st at f g e = refl
on_alike (spent number peak) st at f g e = refl

module _ (n s : ℕ) (proof : List ℕ) where
  record-alike : (st : State) (more : Bool) (at : ℕ) (f g : State → Verdict) (r : Record) (behind : Bool) → no_pr_with r behind ≡ true
      → (behind ≡ true → (st' : State) → f st' ≡ g st')
      → after_step (step true n s st (recorded r more)) st at f ≡ after_step (step false n s st (recorded r more)) st at g
  unfolding step record_step
  record-alike st more at f g (ProofLine rule root) behind e rest = go rule (and_both (not (is_pr rule)) behind e)
    where
      go : (rule : Rule) → (not (is_pr rule) ≡ true) × (behind ≡ true)
          → after_step (step true n s st (recorded (ProofLine rule root) more)) st at f
          ≡ after_step (step false n s st (recorded (ProofLine rule root) more)) st at g
      go Rup b = on_alike (line_step n s st Rup root.0) st at f g (rest b.1)
      go Path b = on_alike (line_step n s st Path root.0) st at f g (rest b.1)
      go Pr b = t≢f (sym b.0)
  record-alike st more at f g (NodeEntry b) behind e rest = on_alike (node_step n s st b) st at f g (rest e)
  record-alike st more at f g (Witness v b) behind e rest = on_alike (witness_step n st v b) st at f g (rest e)
  record-alike st more at f g (Strike k) behind e rest = on_alike (strike_step st k.0) st at f g (rest e)
  record-alike st more at f g (SetEntry kind b) behind e rest = on_alike (set_step n s st kind b) st at f g (rest e)
  record-alike st more at f g End behind e rest = end-alike st more at f g
  record-alike st more at f g CutShort behind e rest = refl
  record-alike st more at f g UnknownKind behind e rest = refl
  record-alike st more at f g NoRecord behind e rest = refl

  commands-alike : (steps : ℕ) (st : State) (at : ℕ) → no_pr_from steps proof at ≡ true
      → commands steps (in_form Records true) n s proof st at ≡ commands steps (in_form Records false) n s proof st at
  unfolding commands no_pr_from
  commands-alike zero st at e = refl
  commands-alike (suc steps) st at e =
      let r : Record = record_at proof at in
      record-alike st (ltb (at + length_of r) (length proof)) at
      (λ st'. commands steps (in_form Records true) n s proof st' (at + length_of r))
      (λ st'. commands steps (in_form Records false) n s proof st' (at + length_of r))
      r (no_pr_from steps proof (at + length_of r)) e (λ b st'. commands-alike steps st' (at + length_of r) b)

module _ (s : ℕ) (text proof : List ℕ) (none : without_pr proof ≡ true) where
  clauses-alike : (n : ℕ) (t : List Node) (ms : List ℕ) (r : Reading) → clauses (in_form Records true) n s proof t ms r
      ≡ clauses (in_form Records false) n s proof t ms r
  unfolding clauses
  clauses-alike n t ms complete = commands-alike n s proof (suc (length proof)) (begun t ms) 0 none
  clauses-alike n t ms (refusal number place) = refl
  clauses-alike n t ms (clause ls first rest) = go (place s t (meaning.clause n ls)) (λ t₁ k. clauses-alike n t₁ (ms ++ k ∷ []) rest)
    where
      go : (p : Placing)
          → ((t₁ : List Node) (k : ℕ) → clauses (in_form Records true) n s proof t₁ (ms ++ k ∷ []) rest
          ≡ clauses (in_form Records false) n s proof t₁ (ms ++ k ∷ []) rest)
          → after_clause p (λ t₁ k. clauses (in_form Records true) n s proof t₁ (ms ++ k ∷ []) rest) first
          ≡ after_clause p (λ t₁ k. clauses (in_form Records false) n s proof t₁ (ms ++ k ∷ []) rest) first
      go (full t₁) rec = refl
      go (placed t₁ k) rec = rec t₁ k

  verdict-alike : verdict (in_form Records true) s text proof ≡ verdict (in_form Records false) s text proof
  unfolding verdict
  verdict-alike = go (header text)
    where
      go : (h : Header) → check_after_header (in_form Records true) s text proof h
          ≡ check_after_header (in_form Records false) s text proof h
      go (Proper n many at) = clauses-alike n emptied [] (clauses_from text n many at)
      go (Improper number place) = refl

-- THEOREM: "a proof in records without a PR one gets the results it has outside the profile": the number, the place, the counts, and every
-- lent place.
pub profile-same : (c : Columns) (count : ℕ) (members struck scratch text proof : List ℕ) → without_pr proof ≡ true
    → check (in_form Records true) c count members struck scratch text proof
    ≡ check (in_form Records false) c count members struck scratch text proof
unfolding check
profile-same c count members struck scratch text proof none = rw (verdict-alike (length c.vars) text proof none)
