-- The table as left is what placing the clauses and then the accepted lines' entries, in their order, in an emptied table comes to: no node
-- of a
-- dropped diagram is in it. The idea: by the commands taken. Assumes nothing.
use mathlib.Core.Path.{◌≡◌, refl, sym, ap, ◌∙◌, subst}
use mathlib.Core.Bool.{Bool}
use mathlib.Core.List.{List, [], ◌∷◌, ◌++◌, map, append_assoc, append-nil}
use Prim.Native.Nat.{ℕ, zero, suc, ◌+◌, ◌≤◌}
use native.Mathlib.Omega.{arith}
use lib.ListN.{length, take}
use Rattle.meaning.specs.Diagram.{Diagram, branch}
use Rattle.meaning.specs.Operations as meaning
use Rattle.table.specs.Nodes.{Node, placed, place}
use Rattle.table.specs.Making.{all, placed_all}
use Rattle.table.proofs.Growth.{Extends}
use Rattle.table.proofs.Placing.{put-place}
use Rattle.table.proofs.PlacedAll.{placed-then}
use Rattle.dimacs.specs.Clauses.{Reading, complete, formula}
use Rattle.records.specs.declared.Record.{Record}
use Rattle.records.specs.declared.Record.TheVariants.{NodeEntry, Witness, ProofLine, Strike, SetEntry, End, CutShort, UnknownKind}
use Rattle.records.specs.declared.Record.TheVariants.{NoRecord}
use Rattle.commands.specs.declared.Mode.{Mode}
use Rattle.commands.specs.Commands.{Command, recorded, added, struck_out, wrong, finished}
use Rattle.verdict.specs.Steps.{State, emptied, Step, next, stop, spent, with_entry, entry_node, diagram_in, set_diagram}
use Rattle.verdict.specs.Check.{step, Verdict, CheckOutcome, outcome, left}
use Rattle.verdict.specs.Taken.{Function, Meant, Taken}
use Rattle.verdict.specs.Run.{command_in, CommandTaken, Making, opened, made, Reached, begins, goes, Ended, stopped, tried}
use Rattle.verdict.specs.Satisfies.{clauses_of}
use Rattle.verdict.proofs.Standing.{Standing, entry-valued, record-extends}
use Rattle.verdict.proofs.Added.{tries-accepted}
use Rattle.verdict.proofs.Ends.{reached-standing}
use Rattle.demands.specs.Calls.{nodes_of_columns}
use Rattle.demands.specs.Leaving.{Handed, checked, Fits, places, clauses_read, at_place, EndsWith, AtEnd}
use Rattle.demands.proofs.Ending.{check-exactly}
use Rattle.demands.proofs.Lent.{read_back}
use Rattle.exactness.specs.Nodes.{Entries, with_more, line_kept, after_record_made, after_command_made, entries_made}

-- ---- lists

pub map-append : {A B : Type 0} (f : A → B) (xs ys : List A) → map f (xs ++ ys) ≡ map f xs ++ map f ys
map-append f [] ys = refl
map-append {A} {B} f (x ∷ xs) ys = ap (λ (zs : List B). f x ∷ zs) (map-append f xs ys)

take-front : (k : ℕ) (t x : List Node) → k ≤ length t → take k (t ++ x) ≡ take k t
take-front zero t x p = refl
take-front (suc k) [] x p = absurd (omega arith)
take-front (suc k) (y ∷ t) x p = ap (λ (z : List Node). y ∷ z) (take-front k t x (omega arith))

take-grown : (k : ℕ) (t t₁ : List Node) → Extends t t₁ → k ≤ length t → take k t₁ ≡ take k t
take-grown k t t₁ (x, e) p = ap (take k) e ∙ take-front k t x p

-- ---- placing

pub one_placed : (s : ℕ) (t : List Node) (D : Diagram) (t₁ : List Node) (k : ℕ) → place s t D ≡ placed t₁ k → placed_all s t (D ∷ [])
    ≡ all t₁
unfolding placed_all
one_placed s t D t₁ k e = rw e

placed-more : (s : ℕ) (t : List Node) (Ds Es : List Diagram) (t₁ t₂ : List Node) → placed_all s t Ds ≡ all t₁ → placed_all s t₁ Es
    ≡ all t₂ →
    placed_all s t (Ds ++ Es) ≡ all t₂
placed-more s t Ds Es t₁ t₂ d e = placed-then s t Ds Es t₁ d ∙ e

-- ---- the clauses

module _ (s : ℕ) (text : List ℕ) where
  pub making-placed : {n many : ℕ} {t : List Node} {ms : List ℕ} {fs : List Function} {r : Reading} → Making s text n many t ms fs r
      → (ds : List (List meaning.Literal)) × (placed_all s emptied (map (meaning.clause n) ds) ≡ all t)
      × (ds ++ clauses_of r ≡ clauses_of (formula text))
  unfolding clauses_of formula placed_all
  making-placed (opened e) = ([], refl, rw e)
  making-placed {n} {many} (made {t} {t₁} {ms} {k} {fs} {ls} {first} {rest} M e) =
      let (ds, p, q) = making-placed M in (
        ds ++ ls ∷ [],
        ap (placed_all s emptied) (map-append (meaning.clause n) ds (ls ∷ []))
            ∙ placed-more s emptied (map (meaning.clause n) ds) (meaning.clause n ls ∷ []) t t₁ p
            (one_placed s t (meaning.clause n ls) t₁ k e),
        append_assoc ds (ls ∷ []) (clauses_of rest) ∙ q,
      )

  pub clauses-placed : {n many : ℕ} {t : List Node} {ms : List ℕ} {fs : List Function} → Making s text n many t ms fs complete
      → placed_all s emptied (map (meaning.clause n) (clauses_of (formula text))) ≡ all t
  unfolding clauses_of
  clauses-placed {n} M = let (ds, p, q) = making-placed M in ap
      (λ (x : List (List meaning.Literal)). placed_all s emptied (map (meaning.clause n) x)) (sym q ∙ append-nil ds) ∙ p

-- ---- one command

-- The clauses and the accepted lines' entries are the first nodes, as many as stay; the entries since then are the rest.
record Laid (s : ℕ) (cs : List Diagram) (l : Entries) (nodes : List Node) (stay : ℕ) : Type 0 where
  kept : placed_all s emptied (cs ++ l.kept) ≡ all (take stay nodes)
  since : placed_all s (take stay nodes) l.since ≡ all nodes

abbrev LaidIn : ℕ → List Diagram → Entries → State → Type 0
LaidIn s cs l st = Laid s cs l st.nodes st.kept

take_all : (t : List Node) → take (length t) t ≡ t
take_all [] = refl
take_all (x ∷ t) = ap (λ (z : List Node). x ∷ z) (take_all t)

none-placed : (s : ℕ) (t : List Node) → placed_all s t [] ≡ all t
unfolding placed_all
none-placed s t = refl

module _ {s n : ℕ} {m : Meant} {st : State} (S : Standing s n m st) (narrow : n ≤ 64) (cs : List Diagram) (l : Entries)
    (L : LaidIn s cs l st) where
  -- one more entry
  entry-laid : (D : Diagram) (t : List Node) (k : ℕ) → place s st.nodes D ≡ placed t k → Extends st.nodes t →
      Laid s cs (with_more l (D ∷ [])) t st.kept
  entry-laid D t k e grown =
      let same : take st.kept t ≡ take st.kept st.nodes = take-grown st.kept st.nodes t grown S.kept in
      record {
        kept = L.kept ∙ ap all (sym same);
        since = ap (λ (x : List Node). placed_all s x (l.since ++ D ∷ [])) same
            ∙ placed-more s (take st.kept st.nodes) l.since (D ∷ []) st.nodes t L.since (one_placed s st.nodes D t k e);
      }

  -- all of the line's entries, and what is placed behind them, stay
  line-laid : (Ds : List Diagram) (t : List Node) → placed_all s st.nodes Ds ≡ all t → Laid s cs (line_kept l Ds) t (length t)
  line-laid Ds t e = record {
    kept = ap (placed_all s emptied) (sym (append_assoc cs l.kept (l.since ++ Ds)))
        ∙ placed-more s emptied (cs ++ l.kept) (l.since ++ Ds) (take st.kept st.nodes) t L.kept
        (placed-more s (take st.kept st.nodes) l.since Ds st.nodes t L.since e)
        ∙ ap all (sym (take_all t));
    since = none-placed s (take (length t) t) ∙ ap all (take_all t);
  }

  record-laid : (r : Record) (st' : State) → Taken n s st r st' → LaidIn s cs (after_record_made n st l r) st'
  record-laid (NodeEntry b) st' T =
      let low = entry_node st b.low.0 in
      let high = entry_node st b.high.0 in
      let D : Diagram = branch b.variable (diagram_in st low) (diagram_in st high) in
      let is-place : place s st.nodes D ≡ placed T.nodes T.entry =
      sym (put-place s st.nodes S.ordered b.variable low high (entry-valued S b.low.0 T.low).0
      (entry-valued S b.high.0 T.high).0) ∙ T.room in
      let grown : Extends st.nodes T.nodes = subst (λ (x : State). Extends st.nodes x.nodes) (sym T.is)
      (record-extends S narrow (NodeEntry b) st' T) in
      subst (LaidIn s cs (with_more l (D ∷ []))) T.is (entry-laid D T.nodes T.entry is-place grown)
  record-laid (SetEntry kind b) st' T =
      let grown : Extends st.nodes T.nodes = subst (λ (x : State). Extends st.nodes x.nodes) (sym T.is)
      (record-extends S narrow (SetEntry kind b) st' T) in
      subst (LaidIn s cs (with_more l (set_diagram n kind b ∷ []))) T.is
      (entry-laid (set_diagram n kind b) T.nodes T.entry T.room grown)
  record-laid (ProofLine rule root) st' T = subst (LaidIn s cs (line_kept l [])) T.is
      (line-laid [] st.nodes (none-placed s st.nodes))
  record-laid (Witness v b) st' T = subst (LaidIn s cs l) T.is L
  record-laid (Strike k) st' T = subst (LaidIn s cs l) T.is L
  record-laid End st' T = absurd T
  record-laid CutShort st' T = absurd T
  record-laid UnknownKind st' T = absurd T
  record-laid NoRecord st' T = absurd T

  command-laid : (profile : Bool) (c : Command) (st' : State) → CommandTaken profile n s st c st' →
      LaidIn s cs (after_command_made n st l c) st'
  command-laid profile (recorded r more) st' T = record-laid r st' T.1
  command-laid profile (added ls) st' T =
      let (line, peak, is) = tries-accepted profile n s (with_entry st T.nodes T.node) T.node st' profile ls T.tried in
      subst (LaidIn s cs (line_kept l (meaning.clause n ls ∷ []))) is
      (line-laid (meaning.clause n ls ∷ []) T.nodes (one_placed s st.nodes (meaning.clause n ls) T.nodes T.node T.room))
  command-laid profile (struck_out ls) st' T = subst (LaidIn s cs l) T.is L
  command-laid profile (wrong number offset) st' T = absurd T
  command-laid profile finished st' T = absurd T

-- ---- the run

reached-laid : {mode : Mode} {s : ℕ} {text proof : List ℕ} {n : ℕ} {st : State} {at : ℕ} {m : Meant}
    (R : Reached mode s text proof n st at m)
    → LaidIn s (map (meaning.clause n) (clauses_of (formula text))) (entries_made R) st
reached-laid {mode} {s} {text} {proof} {n} (begins {many} {t} {ms} {fs} M) = record {
  kept = ap (placed_all s emptied) (append-nil (map (meaning.clause n) (clauses_of (formula text)))) ∙ clauses-placed s text M
      ∙ ap all (sym (take_all t));
  since = none-placed s (take (length t) t) ∙ ap all (take_all t);
}
reached-laid {mode} {s} {text} {proof} {n} (goes {st} {st'} {at} R T) =
    command-laid (reached-standing mode s text proof R).1 (reached-standing mode s text proof R).0
    (map (meaning.clause n) (clauses_of (formula text))) (entries_made R) (reached-laid R) mode.consequence (command_in mode proof n at)
    st' T

-- ---- of the call

-- "A refused proof leaves the clauses and accepted lines with their nodes (those of all their entries), zeros above. Number 0 leaves the
-- same; nodes of
-- entries after the last accepted line are dropped in both": the nodes as left are those that placing the clauses and then the accepted
-- lines' entries, in
-- their order, in an emptied table gives, and no others.
module _ (i : Handed) (fits : Fits i) (E : AtEnd i (checked i)) where
  abbrev here : Command
  here = command_in i.mode i.proof E.n E.at

  abbrev t : List Node
  t = take E.state.kept E.state.nodes

  left-nodes : nodes_of_columns (checked i).columns (checked i).count ≡ t
  unfolding outcome
  left-nodes = go (step i.mode.consequence E.n (places i) E.state here) refl E.says
    where
      is : (v : Verdict) → Ended i.mode (places i) i.text i.proof v → checked i
          ≡ outcome (places i) (length i.members) (length i.scratch) v
      is v D = (check-exactly i (outcome (places i) (length i.members) (length i.scratch) v)).1 (at_place fits D)

      held : (o : CheckOutcome) → checked i ≡ o → nodes_of_columns o.columns o.count ≡ t →
          nodes_of_columns (checked i).columns (checked i).count ≡ t
      held o e q = ap (λ (x : CheckOutcome). nodes_of_columns x.columns x.count) e ∙ q

      go : (x : Step) → step i.mode.consequence E.n (places i) E.state here ≡ x → EndsWith x (checked i).number E.offset →
          nodes_of_columns (checked i).columns (checked i).count ≡ t
      go (next st) e says = absurd says
      go (stop k o) e says = held _ (is (left k (E.at + o) E.state.peak E.state) (stopped E.reached e)) (read_back (places i) t)
      go (spent k peak) e says = held _ (is (left k E.at peak E.state) (tried E.reached e)) (read_back (places i) t)

  pub nodes-left : placed_all (places i) emptied (map (meaning.clause E.n) (clauses_read i) ++ (entries_made E.reached).kept)
      ≡ all (nodes_of_columns (checked i).columns (checked i).count)
  nodes-left = (reached-laid E.reached).kept ∙ ap all (sym left-nodes)
