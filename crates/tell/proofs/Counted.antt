-- How many members a reached state has: the header's clauses and the lines so far. The idea: a formula that is read to its end has as many
-- clauses as its header wants. Assumes nothing.
use mathlib.Core.Path.{◌≡◌, refl, sym, ap, ◌∙◌, subst}
use mathlib.Core.Logic.{inl, inr}
use mathlib.Core.Bool.{Bool, true, false, cond}
use mathlib.Core.List.{List, [], ◌∷◌, ◌++◌}
use Prim.Native.Nat.{ℕ, zero, suc, ◌+◌, ◌-◌}
use native.Mathlib.Omega.{arith}
use lib.ListN.{length, length-append}
use lib.Seq.{slice}
use lib.Dec.{ltb}
use Rattle.meaning.specs.Operations as meaning
use Rattle.table.specs.Nodes.{Node}
use Rattle.dimacs.specs.Header.{Proper, header}
use Rattle.dimacs.specs.Text.{token_end, between}
use Rattle.dimacs.specs.Numbers.{Token, Closing, Literal, Wrong, token_of}
use Rattle.dimacs.specs.Clauses.{Next, closed, ended, refused, after_token, clause_from, next_clause, Reading, clause, complete}
use Rattle.dimacs.specs.Clauses.{reading_then, clauses_from}
use Rattle.records.specs.declared.Record.{Record}
use Rattle.records.specs.declared.Record.TheVariants.{NodeEntry, Witness, ProofLine, Strike, SetEntry, End, CutShort, UnknownKind}
use Rattle.records.specs.declared.Record.TheVariants.{NoRecord}
use Rattle.commands.specs.declared.Mode.{Mode}
use Rattle.commands.specs.Commands.{Command, recorded, added, struck_out, wrong, finished}
use Rattle.verdict.specs.Steps.{State, with_entry}
use Rattle.verdict.specs.Taken.{Function, Meant, Taken}
use Rattle.verdict.specs.ClauseTaken.{ClauseTaken, TriesTaken}
use Rattle.verdict.specs.Run.{Making, opened, made, command_in, CommandTaken, Reached, begins, goes}

module _ (s : List ℕ) (n : ℕ) where
  -- an open clause does not end the formula
  after-ended : (token : Token) (first at to : ℕ) (rest : Next) → (rest ≡ ended → ⊥) → after_token token first at to rest ≡ ended → ⊥
  after-ended Closing first at to rest h e = let z : ◌≡◌ {A = ℕ} 0 1 = cc in omega arith
  after-ended (Wrong k) first at to rest h e = let z : ◌≡◌ {A = ℕ} 0 1 = cc in omega arith
  after-ended (Literal v b) first at to (closed ls f next) h e = let z : ◌≡◌ {A = ℕ} 0 1 = cc in omega arith
  after-ended (Literal v b) first at to ended h e = h refl
  after-ended (Literal v b) first at to (refused k p) h e = let z : ◌≡◌ {A = ℕ} 0 1 = cc in omega arith

  by-test : (t : Bool) (x : Next) (k p : ℕ) → (x ≡ ended → ⊥) → cond t x (refused k p) ≡ ended → ⊥
  by-test true x k p h e = h e
  by-test false x k p h e = let z : ◌≡◌ {A = ℕ} 0 1 = cc in omega arith

  clause-ended : (k first at : ℕ) → clause_from s n k first at ≡ ended → ⊥
  unfolding clause_from
  clause-ended zero first at e = let z : ◌≡◌ {A = ℕ} 0 1 = cc in omega arith
  clause-ended (suc k) first at e =
      let end = token_end s at in
      by-test (ltb at (length s)) (after_token (token_of n (slice at end s)) first at end (clause_from s n k first (between s end))) 6 first
      (after-ended (token_of n (slice at end s)) first at end (clause_from s n k first (between s end))
      (clause-ended k first (between s end))) e

  next-ended : (left at : ℕ) → next_clause s n (suc left) at ≡ ended → ⊥
  unfolding next_clause
  next-ended left at e =
      let first = between s at in
      by-test (ltb first (length s)) (clause_from s n (length s - first) first first) 5 (length s)
      (clause-ended (length s - first) first first) e

  -- A reading that is complete wants no clause more.
  complete-none : (left at : ℕ) → clauses_from s n left at ≡ complete → left ≡ 0
  unfolding clauses_from
  complete-none zero at e = refl
  complete-none (suc left) at e = go (next_clause s n (suc left) at) refl e
    where
      go : (x : Next) → next_clause s n (suc left) at ≡ x → reading_then x (λ next. clauses_from s n left next) ≡ complete → suc left ≡ 0
      go (closed ls first next) f e = let z : ◌≡◌ {A = ℕ} 0 1 = cc in absurd (omega arith)
      go ended f e = absurd (next-ended left at f)
      go (refused k p) f e = let z : ◌≡◌ {A = ℕ} 0 1 = cc in absurd (omega arith)

  -- A clause that closes is one of those wanted, and the rest is read behind it.
  clause-more : (left at : ℕ) (ls : List meaning.Literal) (first : ℕ) (rest : Reading) → clauses_from s n left at ≡ clause ls first rest
      → (less : ℕ) × (next : ℕ) × (left ≡ suc less) × (rest ≡ clauses_from s n less next)
  unfolding clauses_from next_clause
  clause-more zero at ls first rest e = go (ltb (between s at) (length s)) e
    where
      go : (t : Bool) → reading_then (cond t (refused 5 (between s at)) ended) (λ next. complete) ≡ clause ls first rest
          → (less : ℕ) × (next : ℕ) × (0 ≡ suc less) × (rest ≡ clauses_from s n less next)
      go true e = let z : ◌≡◌ {A = ℕ} 0 1 = cc in absurd (omega arith)
      go false e = let z : ◌≡◌ {A = ℕ} 0 1 = cc in absurd (omega arith)
  clause-more (suc left) at ls first rest e = go (next_clause s n (suc left) at) e
    where
      go : (x : Next) → reading_then x (λ next. clauses_from s n left next) ≡ clause ls first rest
          → (less : ℕ) × (next : ℕ) × (suc left ≡ suc less) × (rest ≡ clauses_from s n less next)
      go (closed ks f next) e = let q : clauses_from s n left next ≡ rest = cc in (left, next, refl, sym q)
      go ended e = let z : ◌≡◌ {A = ℕ} 0 1 = cc in absurd (omega arith)
      go (refused k p) e = let z : ◌≡◌ {A = ℕ} 0 1 = cc in absurd (omega arith)

-- ---- the clauses made

pub record Underway (s : ℕ) (text : List ℕ) (n many : ℕ) (ms : List ℕ) (rest : Reading) : Type 0 where
  pub header-end : ℕ
  pub proper : header text ≡ Proper n many header-end
  pub wanted : ℕ
  pub place : ℕ
  pub counted : length ms + wanted ≡ many
  pub is : rest ≡ clauses_from text n wanted place

module _ (s : ℕ) (text : List ℕ) (n many : ℕ) where
  making-counted : {t : List Node} {ms : List ℕ} {fs : List Function} {rest : Reading} → Making s text n many t ms fs rest →
      Underway s text n many ms rest
  making-counted (opened {at} e) = record { header-end = at; proper = e; wanted = many; place = at; counted = omega arith; is = refl }
  making-counted (made {ms = ms} {k = k} {ls = ls} {first = first} {rest = rest} M p) =
      let U = making-counted M in
      let (less, next, more, is) = clause-more text n U.wanted U.place ls first rest (sym U.is) in
      record {
        header-end = U.header-end;
        proper = U.proper;
        wanted = less;
        place = next;
        counted = omega (arith, length-append ms (k ∷ []), U.counted, more);
        is = is;
      }

-- ---- the states

pub record Counted (text : List ℕ) (n : ℕ) (st : State) : Type 0 where
  pub clauses : ℕ
  pub header-end : ℕ
  pub proper : header text ≡ Proper n clauses header-end
  pub counted : length st.members ≡ clauses + st.lines

-- As many members more as lines.
abbrev Grows : State → State → Type 0
Grows st st' = length st'.members + st.lines ≡ length st.members + st'.lines

module _ (n s : ℕ) (st st' : State) where
  same_grows : (x : State) → x ≡ st' → x.members ≡ st.members → x.lines ≡ st.lines → Grows st st'
  same_grows x e m l = subst (Grows st) e (omega (arith, ap length m, l))

  line-grows : (x : State) (g : ℕ) → x ≡ st' → x.members ≡ st.members ++ g ∷ [] → x.lines ≡ suc st.lines → Grows st st'
  line-grows x g e m l = subst (Grows st) e (omega (arith, ap length m ∙ length-append st.members (g ∷ []), l))

  record-grows : (r : Record) → Taken n s st r st' → Grows st st'
  record-grows (NodeEntry b) T = same_grows _ T.is refl refl
  record-grows (Witness v b) T = same_grows _ T.is refl refl
  record-grows (ProofLine rule root) T = line-grows _ _ T.is refl refl
  record-grows (Strike k) T = same_grows _ T.is refl refl
  record-grows (SetEntry kind b) T = same_grows _ T.is refl refl
  record-grows End T = absurd T
  record-grows CutShort T = absurd T
  record-grows UnknownKind T = absurd T
  record-grows NoRecord T = absurd T

  tries-grow : (profile : Bool) (ls : List meaning.Literal) (T : ClauseTaken profile n s st ls st') → Grows st st'
  tries-grow profile ls T = go profile ls T.tried
    where
      go : (b : Bool) (ks : List meaning.Literal) → TriesTaken b n s (with_entry st T.nodes T.node) T.node ks st' → Grows st st'
      go b ks (inl W) = line-grows _ _ W.is refl refl
      go true ks (inr W) = absurd W
      go false [] (inr W) = absurd W
      go false (p ∷ ks) (inr W) = line-grows _ _ W.passes.is refl refl

  command-grows : (profile : Bool) (x : Command) → CommandTaken profile n s st x st' → Grows st st'
  command-grows profile (recorded r more) T = record-grows r T.1
  command-grows profile (added ls) T = tries-grow profile ls T
  command-grows profile (struck_out ls) T = same_grows _ T.is refl refl
  command-grows profile (wrong k o) T = absurd T
  command-grows profile finished T = absurd T

module _ (mode : Mode) (s : ℕ) (text proof : List ℕ) where
  -- THEOREM: a reached state has the header's clauses and its lines as members.
  pub reached-counted : {n : ℕ} {st : State} {at : ℕ} {m : Meant} → Reached mode s text proof n st at m → Counted text n st
  reached-counted {n} (begins {many} {t} {ms} M) =
      let U = making-counted s text n many M in
      let none = complete-none text n U.wanted U.place (sym U.is) in
      record { clauses = many; header-end = U.header-end; proper = U.proper; counted = omega (arith, U.counted, none) }
  reached-counted {n} (goes {st} {st'} {at} R T) =
      let C = reached-counted R in
      record {
        clauses = C.clauses;
        header-end = C.header-end;
        proper = C.proper;
        counted = omega (arith, C.counted, command-grows n s st st' mode.consequence (command_in mode proof n at) T);
      }
