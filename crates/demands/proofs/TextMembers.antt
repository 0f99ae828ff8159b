-- In every state that the check of a DRAT proof reaches the members are the clauses that formula and proof fix, and the marks are theirs.
-- The idea: a clause's node is the clause's diagram, and nodes stay; the clauses read on from a place are those that the run adds. Assumes
-- nothing.
use mathlib.Core.Path.{◌≡◌, refl, sym, ap, ap₂, ◌∙◌, subst}
use mathlib.Core.Bool.{Bool, true, false, ◌&&◌, cond}
use mathlib.Core.List.{List, [], ◌∷◌, ◌++◌, map, append_assoc, append-nil}
use Prim.Native.Nat.{ℕ, zero, suc, ◌+◌, ◌-◌, ◌≤◌, ◌<◌}
use native.Mathlib.Omega.{arith}
use lib.ListN.{length, get_or, set, replicate, length-map}
use lib.Dec.{eqb, ltb}
use borrow.Author.Tests.{lt-ltb, le-ltb}
use Rattle.meaning.specs.Diagram.{Diagram, leaf, same}
use Rattle.meaning.specs.Operations as meaning
use Rattle.meaning.proofs.Booleans.{t≢f}
use Rattle.meaning.proofs.Values.{reduced-to}
use Rattle.meaning.specs.Literals.{OfVariables}
use Rattle.meaning.proofs.Pointwise.{clause-reduced}
use Rattle.table.specs.Nodes.{Node, diagram_at, placed, place}
use Rattle.table.proofs.Order.{Ordered}
use Rattle.table.proofs.Growth.{Extends, diagram_at-grown}
use Rattle.table.proofs.Placing.{After, Made, place_after}
use Rattle.dimacs.specs.Clauses.{Reading, complete, formula}
use Rattle.clausal.specs.Literals.{Clause}
use Rattle.clausal.proofs.Literals.{AllOfVariables}
use Rattle.commands.specs.declared.Form.{Form}
use Rattle.commands.specs.declared.Form.TheVariants.{Records, Text, Binary}
use Rattle.commands.specs.declared.Mode.{Mode}
use Rattle.commands.specs.Commands.{Command, recorded, added, struck_out, wrong, finished, is_drat, start}
use Rattle.commands.proofs.Onward.{CommandIn, drat-in}
use Rattle.verdict.specs.Steps.{State, with_entry, stop, diagram_in, unstruck, live_members, is_live}
use Rattle.verdict.specs.Check.{step}
use Rattle.verdict.specs.Taken.{Function, Meant, Valued}
use Rattle.verdict.specs.ClauseTaken.{ClauseTaken, ClauseStruck}
use Rattle.verdict.specs.Run.{command_in, next_in, CommandTaken, Making, opened, made, Reached, begins, goes}
use Rattle.verdict.specs.Satisfies.{clauses_of}
use Rattle.verdict.proofs.Live.{unstruck-map}
use Rattle.verdict.proofs.Standing.{Standing}
use Rattle.verdict.proofs.Clauses.{underway}
use Rattle.verdict.proofs.Added.{tries-accepted}
use Rattle.verdict.proofs.Commands.{Fit, DratFit, start-within, command-goes}
use Rattle.verdict.proofs.Ends.{reached-in, reached-fit, reached-standing}
use Rattle.verdict.proofs.Members.{reached-variables}
use Rattle.verdict.proofs.Refuted.{reached-within}
use Rattle.demands.specs.Texts.{ClauseList, strike_lowest, list_after, list_from, formula_clauses, clauses_before, live_clauses, Matches}
use Rattle.demands.specs.Leaving.{OffsetOf}
use Rattle.demands.proofs.Offsets.{command-offset}

-- ---- lists

map-append : {A B : Type 0} (f : A → B) (xs ys : List A) → map f (xs ++ ys) ≡ map f xs ++ map f ys
map-append f [] ys = refl
map-append {A} {B} f (x ∷ xs) ys = ap (λ (zs : List B). f x ∷ zs) (map-append f xs ys)

-- the diagram of a number that is there
pub map_at : (f : ℕ → Diagram) (ks : List ℕ) (i : ℕ) → i < length ks → get_or (map f ks) i (leaf false) ≡ f (get_or ks i 0)
map_at f [] i p = absurd (omega arith)
map_at f (k ∷ ks) zero p = refl
map_at f (k ∷ ks) (suc i) p = map_at f ks i (omega arith)

within-append : (n : ℕ) (cs : List Clause) (c : Clause) → AllOfVariables n cs → OfVariables n c → AllOfVariables n (cs ++ c ∷ [])
within-append n [] c w v = (v, tt)
within-append n (d ∷ cs) c w v = (w.0, within-append n cs c w.1 v)

pub within-unstruck : (n : ℕ) (marks : List ℕ) (cs : List Clause) → AllOfVariables n cs → AllOfVariables n (unstruck marks cs)
unfolding unstruck
within-unstruck n marks [] w = tt
within-unstruck n [] (c ∷ cs) w = w
within-unstruck n (m ∷ marks) (c ∷ cs) w = go (eqb m 0) (within-unstruck n marks cs w.1)
  where
    go : (b : Bool) → AllOfVariables n (unstruck marks cs) → AllOfVariables n (cond b (c ∷ unstruck marks cs) (unstruck marks cs))
    go true rest = (w.0, rest)
    go false rest = rest

-- the live one of lowest place with a diagram is struck
module _ (g : Diagram) where
  abbrev Found : List Diagram → List ℕ → ℕ → Type 0
  Found ds marks i = (eqb (get_or marks i 0) 0 && same (get_or ds i (leaf false)) g) ≡ true

  lowest_set : (ds : List Diagram) (marks : List ℕ) (i : ℕ) → i < length ds → length marks ≡ length ds → Found ds marks i
      → ((j : ℕ) → j < i → Found ds marks j → ⊥) → strike_lowest g ds marks ≡ set marks i 1
  unfolding strike_lowest
  lowest_set [] marks i p len there none = absurd (omega arith)
  lowest_set (d ∷ ds) [] i p len there none = absurd (omega arith)
  lowest_set (d ∷ ds) (m ∷ marks) zero p len there none = rw there refl
  lowest_set (d ∷ ds) (m ∷ marks) (suc i) p len there none =
      go (eqb m 0 && same d g) refl (lowest_set ds marks i (omega arith) (omega arith) there (λ j q f. none (suc j) (omega arith) f))
    where
      go : (b : Bool) → (eqb m 0 && same d g) ≡ b → strike_lowest g ds marks ≡ set marks i 1
          → cond b (1 ∷ marks) (m ∷ strike_lowest g ds marks) ≡ m ∷ set marks i 1
      go true e rec = absurd (none 0 (omega arith) e)
      go false e rec = ap (λ (x : List ℕ). m ∷ x) rec

-- ---- diagrams

-- members keep their diagrams while nodes are added
kept-diagrams : (t t₁ : List Node) → Ordered t → Extends t t₁ → (b : ℕ) → b ≤ length t → (ks : List ℕ) (fs : List Function) →
    Valued t b ks fs
    → map (diagram_at t₁) ks ≡ map (diagram_at t) ks
kept-diagrams t t₁ O E b p [] fs W = refl
kept-diagrams t t₁ O E b p (k ∷ ks) [] W = absurd W
kept-diagrams t t₁ O E b p (k ∷ ks) (f ∷ fs) W =
    ap₂ ◌∷◌ (diagram_at-grown t t₁ O E k (omega (arith, W.0))) (kept-diagrams t t₁ O E b p ks fs W.2)

pub clause-made : (s n : ℕ) (t : List Node) (ls : List meaning.Literal) (t₁ : List Node) (k : ℕ) → n ≤ 64 → Ordered t →
    place s t (meaning.clause n ls) ≡ placed t₁ k
    → Made s t (meaning.clause n ls) t₁ k
clause-made s n t ls t₁ k narrow O e =
    subst (After s t (meaning.clause n ls)) e
    (place_after s t O (meaning.clause n ls) (reduced-to 1 (suc n) 65 (meaning.clause n ls) (omega (arith, narrow)) (clause-reduced n ls)))

-- one more member, a clause
one_more : (s n : ℕ) (t : List Node) (ls : List meaning.Literal) (t₁ : List Node) (k : ℕ) → Ordered t →
    Made s t (meaning.clause n ls) t₁ k → (b : ℕ) → b ≤ length t
    → (ks : List ℕ) (fs : List Function) → Valued t b ks fs → map (diagram_at t₁) (ks ++ k ∷ []) ≡ map (diagram_at t) ks
    ++ meaning.clause n ls ∷ []
one_more s n t ls t₁ k O M b p ks fs W =
    map-append (diagram_at t₁) ks (k ∷ [])
    ∙ ap₂ ◌++◌ (kept-diagrams t t₁ O M.kept.extends b p ks fs W) (ap (λ (D : Diagram). D ∷ []) M.is)

module _ (s : ℕ) (text : List ℕ) where
  -- the formula's clauses, made and still to be made
  making-diagrams : {n many : ℕ} {t : List Node} {ms : List ℕ} {fs : List Function} {r : Reading} → Making s text n many t ms fs r
      → map (diagram_at t) ms ++ map (meaning.clause n) (clauses_of r) ≡ map (meaning.clause n) (clauses_of (formula text))
  unfolding clauses_of formula
  making-diagrams (opened e) = rw e
  making-diagrams {n} {many} (made {t} {t₁} {ms} {k} {fs} {ls} {first} {rest} M e) =
      let Y = underway s text n many M in
      let O : Ordered t = Y.standing.ordered in
      ap (λ (x : List Diagram). x ++ map (meaning.clause n) (clauses_of rest))
      (one_more s n t ls t₁ k O (clause-made s n t ls t₁ k Y.narrow O e) (length t) (omega arith) ms fs Y.standing.members)
      ∙ append_assoc (map (diagram_at t) ms) (meaning.clause n ls ∷ []) (map (meaning.clause n) (clauses_of rest)) ∙ making-diagrams M

-- ---- one command

-- The members are the clauses, the marks theirs, the literals the header's.
pub record Stands (n : ℕ) (st : State) (l : ClauseList) : Type 0 where
  pub matches : Matches n st l
  pub literals : AllOfVariables n l.clauses

module _ {s n : ℕ} {m : Meant} {st : State} (S : Standing s n m st) (narrow : n ≤ 64) (l : ClauseList) (M : Stands n st l) where
  added-matches : (profile : Bool) (ls : List meaning.Literal) → OfVariables n ls → (st' : State) → ClauseTaken profile n s st ls st' →
      Stands n st' (list_after n l (added ls))
  added-matches profile ls w st' T =
      let (line, peak, is) = tries-accepted profile n s (with_entry st T.nodes T.node) T.node st' profile ls T.tried in
      let N : Made s st.nodes (meaning.clause n ls) T.nodes T.node =
      clause-made s n st.nodes ls T.nodes T.node narrow S.ordered T.room in
      subst (λ (x : State). Stands n x (list_after n l (added ls))) is (record {
        matches = record {
          diagrams = one_more s n st.nodes ls T.nodes T.node S.ordered N st.kept S.kept st.members m.members
              S.members
              ∙ ap (λ (x : List Diagram). x ++ meaning.clause n ls ∷ []) M.matches.diagrams
              ∙ sym (map-append (meaning.clause n) l.clauses (ls ∷ []));
          marks = ap (λ (x : List ℕ). x ++ 0 ∷ []) M.matches.marks;
        };
        literals = within-append n l.clauses ls M.literals w;
      })

  -- what a `d` clause looks for, by the clauses
  there-is : (g : Diagram) (i : ℕ) → i < length st.members
      → (is_live st i && same (diagram_in st (get_or st.members i 0)) g)
      ≡ (eqb (get_or st.struck i 0) 0 && same (get_or (map (diagram_in st) st.members) i (leaf false)) g)
  unfolding is_live
  there-is g i p = rw (lt-ltb i (length st.members) p, map_at (diagram_in st) st.members i p) refl

  struck-matches : (ls : List meaning.Literal) (st' : State) → ClauseStruck n st ls st' → Stands n st' (list_after n l (struck_out ls))
  struck-matches ls st' C =
      let g : Diagram = meaning.clause n ls in
      let ds : List Diagram = map (diagram_in st) st.members in
      let set_is : strike_lowest g ds st.struck ≡ set st.struck C.place 1 =
      lowest_set g ds st.struck C.place (omega (arith, C.inside, length-map st.members (diagram_in st)))
      (S.marks ∙ sym (length-map st.members (diagram_in st))) (sym (there-is g C.place C.inside) ∙ C.there)
      (λ j p f. C.lowest j p (there-is g j (omega (arith, C.inside)) ∙ f)) in
      subst (λ (x : State). Stands n x (list_after n l (struck_out ls))) C.is (record {
        matches = record {
          diagrams = M.matches.diagrams;
          marks = sym set_is
              ∙ ap₂ (strike_lowest g) M.matches.diagrams M.matches.marks;
        };
        literals = M.literals;
      })

  command-matches : (profile : Bool) (form : Form) (c : Command) → DratFit form n c → (st' : State) → CommandTaken profile n s st c st' →
      Stands n st' (list_after n l c)
  command-matches profile form (recorded r more) fit st' T = absurd fit
  command-matches profile form (added ls) fit st' T = added-matches profile ls fit st' T
  command-matches profile form (struck_out ls) fit st' T = struck-matches ls st' T
  command-matches profile form (wrong number offset) fit st' T = absurd T
  command-matches profile form finished fit st' T = absurd T

-- what is known of a command of a DRAT form
pub fit-drat : (form : Form) → is_drat form ≡ true → (n : ℕ) (c : Command) → Fit form n c → DratFit form n c
fit-drat Records drat n c fit = t≢f (sym drat)
fit-drat Text drat n c fit = fit
fit-drat Binary drat n c fit = fit

-- ---- the run

-- In a reached state: the clauses so far, as the commands read from the proof's start give them.
record Follows (mode : Mode) (text proof : List ℕ) (n : ℕ) (st : State) (at : ℕ) : Type 0 where
  steps : ℕ
  few : steps ≤ at
  within : at ≤ length proof
  so_far : ClauseList
  stands : Stands n st so_far
  run : (j end : ℕ) → at ≤ end
      → list_from (steps + j) mode n proof (start mode.form proof) end (formula_clauses text) ≡ list_from j mode n proof at end so_far

-- what is refused, and the end, add nothing from there on
module _ (mode : Mode) (proof : List ℕ) (n at end : ℕ) where
  none_here : (j : ℕ) (l : ClauseList) → end ≤ at → list_from j mode n proof at end l ≡ l
  unfolding list_from
  none_here zero l p = refl
  none_here (suc j) l p = rw (le-ltb at end p) refl

  abbrev Idle : Command → ℕ → Type 0
  Idle (recorded r more) next = ⊥
  Idle (added ls) next = ⊥
  Idle (struck_out ls) next = ⊥
  Idle (wrong number offset) next = next ≡ at
  Idle finished next = next ≡ at

  idle : Idle (command_in mode proof n at) (next_in mode proof n at) → (j : ℕ) (l : ClauseList) → list_from j mode n proof at end l ≡ l
  unfolding list_from
  idle I zero l = refl
  idle I (suc j) l = go (command_in mode proof n at) (next_in mode proof n at) I (ltb at end) (idle I j l)
    where
      go : (c : Command) (next : ℕ) → Idle c next → (b : Bool) → list_from j mode n proof at end l ≡ l →
          cond b (list_from j mode n proof next end (list_after n l c)) l ≡ l
      go (recorded r more) next I b rec = absurd I
      go (added ls) next I b rec = absurd I
      go (struck_out ls) next I b rec = absurd I
      go (wrong number offset) next I true rec = rw I rec
      go (wrong number offset) next I false rec = refl
      go finished next I true rec = rw I rec
      go finished next I false rec = refl

module _ (mode : Mode) (drat : is_drat mode.form ≡ true) (s : ℕ) (text proof : List ℕ) where
  goes-follows : {m : Meant} (n : ℕ) (st st' : State) (at : ℕ) → n ≤ 64 → Standing s n m st →
      DratFit mode.form n (command_in mode proof n at)
      → CommandTaken mode.consequence n s st (command_in mode proof n at) st' → Follows mode text proof n st at →
      Follows mode text proof n st' (next_in mode proof n at)
  unfolding list_from
  goes-follows n st st' at narrow S fit T F =
      let c : Command = command_in mode proof n at in
      let (on, inside) = command-goes mode.consequence mode.form proof n s st st' at F.within T in
      record {
        steps = suc F.steps;
        few = omega (arith, F.few, on);
        within = inside;
        so_far = list_after n F.so_far c;
        stands = command-matches S narrow F.so_far F.stands mode.consequence mode.form c fit st' T;
        run = λ j end p.
            let same : suc F.steps + j ≡ F.steps + suc j = omega arith in
            ap (λ (k : ℕ). list_from k mode n proof (start mode.form proof) end (formula_clauses text)) same
            ∙ F.run (suc j) end (omega (arith, on, p))
            ∙ ap (λ (b : Bool). cond b (list_from j mode n proof (next_in mode proof n at) end (list_after n F.so_far c)) F.so_far)
            (lt-ltb at end (omega (arith, on, p)));
      }

  begun-follows : {n many : ℕ} {t : List Node} {ms : List ℕ} {fs : List Function} → Making s text n many t ms fs complete →
      AllOfVariables n (clauses_of (formula text))
      → (st : State) → st.nodes ≡ t → st.members ≡ ms → st.struck ≡ replicate (length ms) 0 →
      Follows mode text proof n st (start mode.form proof)
  unfolding clauses_of
  begun-follows {n} {many} {t} {ms} M w st nodes members struck =
      let are : map (diagram_at t) ms ≡ map (meaning.clause n) (clauses_of (formula text)) = sym (append-nil (map (diagram_at t) ms))
      ∙ making-diagrams s text M in
      let long : length ms ≡ length (clauses_of (formula text)) =
      sym (length-map ms (diagram_at t)) ∙ ap length are ∙ length-map (clauses_of (formula text)) (meaning.clause n) in
      record {
        steps = 0;
        few = omega arith;
        within = start-within mode.form proof;
        so_far = formula_clauses text;
        stands = record {
          matches = record { diagrams = rw (nodes, members) are; marks = struck ∙ ap (λ (k : ℕ). replicate k 0) long };
          literals = w;
        };
        run = λ j end p. let z : 0 + j ≡ j = omega arith in ap
            (λ (k : ℕ). list_from k mode n proof (start mode.form proof) end (formula_clauses text)) z;
      }

  reached-follows : {n : ℕ} {st : State} {at : ℕ} {m : Meant} → Reached mode s text proof n st at m → Follows mode text proof n st at
  reached-follows (begins {many} {t} {ms} {fs} M) = begun-follows M (reached-within mode s text proof (begins M)) _ refl refl refl
  reached-follows {n} (goes {st} {st'} {at} {m} R T) =
      let (narrow, S) = reached-standing mode s text proof R in goes-follows n st st' at narrow S
      (fit-drat mode.form drat n (command_in mode proof n at) (reached-fit mode s text proof R)) T (reached-follows R)

  module _ {n : ℕ} {st : State} {at : ℕ} {m : Meant} (R : Reached mode s text proof n st at m) where
    -- where nothing is added or struck from the place on up to the end
    stands-to : (end : ℕ) → at ≤ end → ((j : ℕ) (l : ClauseList) → list_from j mode n proof at end l ≡ l) →
        Stands n st (clauses_before mode text proof end)
    stands-to end p none =
        let F : Follows mode text proof n st at = reached-follows R in
        let rest : ℕ = length proof - F.steps in
        let all : length proof ≡ F.steps + rest = omega (arith, F.few, F.within) in
        subst (Stands n st)
        (sym (ap (λ (w : ℕ). list_from (length proof) mode w proof (start mode.form proof) end (formula_clauses text))
        (reached-variables s text mode proof R)
        ∙ ap (λ (k : ℕ). list_from k mode n proof (start mode.form proof) end (formula_clauses text)) all ∙ F.run rest end p
        ∙ none rest F.so_far))
        F.stands

    pub drat-stands : Stands n st (clauses_before mode text proof at)
    drat-stands = stands-to at (omega arith) (λ j l. none_here mode proof n at at j l (omega arith))

    -- THEOREM: the members are the clauses of formula and proof up to here, and the marks are theirs.
    pub drat-matches : Matches n st (clauses_before mode text proof at)
    drat-matches = drat-stands.matches

    -- THEOREM: the live members' diagrams are those of the live clauses.
    pub drat-live : live_members st ≡ map (meaning.clause n) (live_clauses mode text proof at)
    drat-live =
        let M : Matches n st (clauses_before mode text proof at) = drat-matches in
        unstruck-map (diagram_in st) st.struck st.members ∙ ap₂ unstruck M.marks M.diagrams
        ∙ sym (unstruck-map (meaning.clause n) (clauses_before mode text proof at).marks (clauses_before mode text proof at).clauses)

    -- The same at the place where a command is refused or ends the proof.
    pub drat-stopped : (number offset : ℕ) → step mode.consequence n s st (command_in mode proof n at) ≡ stop number offset →
        Matches n st (clauses_before mode text proof (at + offset))
    drat-stopped number offset e =
        go (command_in mode proof n at) refl (drat-in mode.form drat proof n at (reached-in mode s text proof R))
        (command-offset mode.consequence mode.form n s st (command_in mode proof n at) (reached-fit mode s text proof R) number offset
        e)
      where
        here : offset ≡ 0 → Matches n st (clauses_before mode text proof (at + offset))
        here z = let q : at ≡ at + offset = omega arith in subst (λ (x : ℕ). Matches n st (clauses_before mode text proof x)) q drat-matches

        go : (c : Command) → command_in mode proof n at ≡ c → CommandIn mode.form proof n at (command_in mode proof n at)
            (next_in mode proof n at)
            → OffsetOf (command_in mode proof n at) number offset → Matches n st (clauses_before mode text proof (at + offset))
        go (recorded r more) q I O = absurd (rw q at I)
        go (added ls) q I O = here (rw q at O)
        go (struck_out ls) q I O = here (rw q at O)
        go (wrong k o) q I O =
            let stays : CommandIn mode.form proof n at (wrong k o) (next_in mode proof n at) = rw q at I in
            (stands-to (at + offset) (omega arith) (idle mode proof n at (at + offset) (rw q stays.0))).matches
        go finished q I O = here (rw q at O)
