-- A path line's turns: one path's, and those of all, over a table that is the same before each. The idea: what is to be shown is what is
-- left to be shown, the rounds are those counted and those to come, and the peak is the greater of the one so far and the one to come.
-- Assumes nothing.
use mathlib.Core.Path.{◌≡◌, refl, sym, ap, ap₂, ◌∙◌, subst}
use mathlib.Core.Bool.{Bool, true, false, not, ◌&&◌, cond}
use mathlib.Core.List.{List, [], ◌∷◌, ◌++◌}
use Prim.Native.Nat.{ℕ, suc, ◌+◌, ◌*◌, ◌≤◌, ◌<◌, max}
use native.Mathlib.Omega.{arith}
use native.Mathlib.Numerals.{add-one}
use native.Mathlib.Decide.{dec_lt}
use lib.ListN.{length, get_or, drop, drop_of_length-le}
use lib.Seq.{drop-cons}
use Rattle.meaning.specs.Diagram.{Diagram}
use Rattle.meaning.specs.Reduced.{Reduced}
use Rattle.meaning.specs.Operations.{Literal}
use Rattle.meaning.specs.Rules.{Propagation, Line, unit_prop, after_turn}
use Rattle.meaning.proofs.Booleans.{t≢f, and-true}
use Rattle.words.specs.declared.Literals.{Literals}
use Rattle.words.specs.Sets.{no_literals, literals_of}
use Rattle.table.specs.Nodes.{Node, diagram_at}
use Rattle.table.specs.Indexed.{Table, size, nodes_of, Good}
use Rattle.table.specs.Making.{placed_all, Reach, reach, reached, then_reach, turns_reach, kept_reach, line_reach}
use Rattle.table.specs.Lists.{diagrams_of}
use Rattle.table.proofs.Written.{length-nodes, good-ordered}
use Rattle.table.proofs.Numbers.{diagram_at-reduced}
use Rattle.table.proofs.PlacedAll.{turns-peak, one-reach, both-reach, room-reached}
use Rattle.table.proofs.Extended.{extended-same, extended-trans}
use Rattle.members.specs.Made.{AllMade}
use Rattle.operate.specs.Operate.{result}
use Rattle.propagate.specs.declared.Propagated.{Propagated}
use Rattle.propagate.specs.Rounds.{unit_results, Said}
use Rattle.judge.specs.declared.Judged.{Judged}
use Rattle.judge.specs.Lines.{LineSays}
use Rattle.judge.proofs.Turning.{judged_as}
use Rattle.paths.specs.declared.NextPath.{NextPath}
use Rattle.paths.specs.Paths.{paths, by_path, path_turns, path_line, path_count}
use Rattle.paths.specs.Walk.{is_one, first_from, found, after_from, no_path}
use Rattle.paths.proofs.Sequence.{count-is, nth, nth-there, nth-none, first-is, after_is, Rises, path-rises, path-along, by-words}
use Rattle.paths.proofs.Walks.{one-not}
use Rattle.paths.specs.Rounds.{most_rounds}
use Rattle.path_lines.specs.Turns.{by_words, nothing, turn_by}

-- ---- one path

-- its propagation, taken apart
abbrev turned : Bool → ℕ → List Diagram → Line → Line
turned conflict rounds made rest =
    record {
      shown = conflict && rest.shown;
      rounds = cond conflict (rounds + rest.rounds) rounds;
      kept = [];
      turns = made ∷
          cond conflict rest.turns [];
    }

turned-reach : (s : ℕ) (t : List Node) (c : Bool) (m : ℕ) (ds : List Diagram) → line_reach s t (turned c m ds nothing)
    ≡ reached (placed_all s t ds)
unfolding line_reach placed_all
turned-reach s t true m ds = one-reach s ds t
turned-reach s t false m ds = one-reach s ds t

turned-rounds : (c : Bool) (m : ℕ) → cond c (m + 0) m ≡ m
turned-rounds true m = omega arith
turned-rounds false m = refl

module _ (T : Table) (G : Good T) (members : List ℕ) (u : Literals) (T₁ : Table) (list : List ℕ) where
  abbrev ms : List Diagram
  ms = diagrams_of (nodes_of T) members

  abbrev p : Propagation
  p = unit_prop 64 (by_words u ms)

  made-is : unit_results u T members ≡ by_words u ms
  unfolding result
  made-is = refl

  -- a member by the literals found no room
  pub turn-full : AllMade T (unit_results u T members) true T₁ list → LineSays T (turn_by u ms) 64
      (judged_as true false 0 T₁.count T₁.count) T₁
  unfolding turn_by
  turn-full M = record {
    extended = M.extended;
    reaches =
        turned-reach (size T) (nodes_of T) p.conflict p.rounds (by_words u ms ++ p.made)
        ∙ both-reach (size T) (nodes_of T) (by_words u ms) p.made (placed_all (size T) (nodes_of T) (by_words u ms)) refl
        ∙ ap (kept_reach (size T) (p.made ∷ [])) (ap (placed_all (size T) (nodes_of T)) (sym made-is) ∙ M.places)
        ∙ ap (reach false) (length-nodes T₁ M.extended.good);
    shown = λ z. t≢f z;
    rounds = λ z. t≢f z;
    most = omega arith;
  }

  pub turn-judged : AllMade T (unit_results u T members) false T₁ list → (r : Propagated) (T₂ : Table) →
      Said T₁ (unit_prop 64 (diagrams_of (nodes_of T₁) list)) r T₂
      → T₂.count ≡ r.count → LineSays T (turn_by u ms) 64 (judged_as r.full r.conflict r.rounds r.count r.count) T₂
  unfolding turn_by
  turn-judged M r T₂ S counted =
      let e : unit_prop 64 (diagrams_of (nodes_of T₁) list) ≡ p = ap (unit_prop 64) (M.are refl ∙ made-is) in
      record {
        extended = extended-trans T T₁ T₂ G M.extended S.extended;
        reaches =
            turned-reach (size T) (nodes_of T) p.conflict p.rounds (by_words u ms ++ p.made)
            ∙ both-reach (size T) (nodes_of T) (by_words u ms) p.made (placed_all (size T) (nodes_of T) (by_words u ms)) refl
            ∙ ap (kept_reach (size T) (p.made ∷ [])) (ap (placed_all (size T) (nodes_of T)) (sym made-is) ∙ M.places)
            ∙ one-reach (size T) p.made (nodes_of T₁)
            ∙ ap₂ (λ (s : ℕ) (q : Propagation). reached (placed_all s (nodes_of T₁) q.made)) (sym M.extended.same_size) (sym e)
            ∙ ap reached S.places
            ∙ room-reached r.full (nodes_of T₂)
            ∙ ap (reach (not r.full)) (length-nodes T₂ S.extended.good ∙ counted);
        shown = λ z. S.conflict z ∙ ap (λ (q : Propagation). q.conflict) e ∙ sym (and-true p.conflict);
        rounds = λ z. S.rounds z ∙ ap (λ (q : Propagation). q.rounds) e ∙ sym (turned-rounds p.conflict p.rounds);
        most = S.most;
      }

-- ---- a path and those after it

-- One path's line, that of the later ones, and that of all: where its turn conflicts the later ones follow, else it is the last.
module _ (s : ℕ) (t : List Node) where
  record GoesOn (one rest all : Line) : Type 0 where
    shown : all.shown ≡ rest.shown
    rounds : all.rounds ≡ one.rounds + rest.rounds
    reach : turns_reach s all.turns t ≡ then_reach (turns_reach s one.turns t) (turns_reach s rest.turns t)

  record Stops (one all : Line) : Type 0 where
    shown : all.shown ≡ false
    rounds : all.rounds ≡ one.rounds
    reach : turns_reach s all.turns t ≡ turns_reach s one.turns t

  turned_on : (c : Bool) (m : ℕ) (ds : List Diagram) (L : Line) → (turned c m ds nothing).shown ≡ true →
      GoesOn (turned c m ds nothing) L (turned c m ds L)
  unfolding turns_reach
  turned_on true m ds L e = record {
    shown = refl;
    rounds = omega arith;
    reach =
        ap (λ (r : Reach). then_reach r (turns_reach s L.turns t)) (sym (one-reach s ds t));
  }
  turned_on false m ds L e = t≢f (sym e)

  turned-last : (c : Bool) (m : ℕ) (ds : List Diagram) (L : Line) → (turned c m ds nothing).shown ≡ false →
      Stops (turned c m ds nothing) (turned c m ds L)
  turned-last true m ds L e = t≢f e
  turned-last false m ds L e = record { shown = refl; rounds = refl; reach = refl }

  module _ (ms : List Diagram) (c : List Literal) (cs : List (List Literal)) where
    abbrev q : Propagation
    q = unit_prop 64 (by_path 64 c ms)

    goes_on : (path_turns 64 ms (c ∷ [])).shown ≡ true → GoesOn (path_turns 64 ms (c ∷ [])) (path_turns 64 ms cs)
        (path_turns 64 ms (c ∷ cs))
    unfolding path_turns after_turn
    goes_on = turned_on q.conflict q.rounds (by_path 64 c ms ++ q.made) (path_turns 64 ms cs)

    stops : (path_turns 64 ms (c ∷ [])).shown ≡ false → Stops (path_turns 64 ms (c ∷ [])) (path_turns 64 ms (c ∷ cs))
    unfolding path_turns after_turn
    stops = turned-last q.conflict q.rounds (by_path 64 c ms ++ q.made) (path_turns 64 ms cs)

-- the turn by a path's words is the path's
turn_is : (c : List Literal) → Rises 1 65 c → (ms : List Diagram) → turn_by (literals_of c) ms ≡ path_turns 64 ms (c ∷ [])
unfolding turn_by path_turns
turn_is c r ms = ap (λ (xs : List Diagram). after_turn (unit_prop 64 xs) xs nothing) (sym (by-words c r ms))

-- ---- all paths

module _ (T : Table) (members : List ℕ) (root : ℕ) where
  abbrev members-are : List Diagram
  members-are = diagrams_of (nodes_of T) members

  abbrev cs : List (List Literal)
  cs = paths (diagram_at (nodes_of T) root)

  abbrev line_of : List (List Literal) → Line
  line_of ks = path_turns 64 members-are ks

  abbrev reach_of : List (List Literal) → Reach
  reach_of ks = turns_reach (size T) (line_of ks).turns (nodes_of T)

  abbrev whole : Line
  whole = path_line 64 members-are (diagram_at (nodes_of T) root)

  whole-reach : line_reach (size T) (nodes_of T) whole ≡ reach_of cs
  unfolding line_reach placed_all path_line
  whole-reach = refl

  abbrev raised : ℕ → Reach → Reach
  raised peak r = reach r.fits (max peak r.peak)

  -- The turns of the first i paths conflicted, in so many rounds, and reached so much.
  pub record Turning (i rounds peak : ℕ) : Type 0 where
    pub so_far : i ≤ length cs
    pub most : rounds ≤ 64 * i
    pub least : length (nodes_of T) ≤ peak
    pub shown-left : (line_of cs).shown ≡ (line_of (drop i cs)).shown
    pub rounds-left : (line_of cs).rounds ≡ rounds + (line_of (drop i cs)).rounds
    pub reach-left : reach_of cs ≡ raised peak (reach_of (drop i cs))

  -- The path that is next, as the code holds it: there is one more, and its words.
  pub record Next (i : ℕ) (more : Bool) (u : Literals) : Type 0 where
    pub inside : more ≡ true → i < length cs
    pub words : more ≡ true → u ≡ literals_of (get_or cs i [])
    pub past : more ≡ false → length cs ≤ i

  pub turning-none : Good T → Turning 0 0 T.count
  turning-none good =
      let len : length (nodes_of T) ≡ T.count = length-nodes T good in
      record {
        so_far = omega arith;
        most = omega arith;
        least = omega arith;
        shown-left = refl;
        rounds-left = omega arith;
        reach-left = ap (reach (reach_of cs).fits) (omega (arith, turns-peak (size T) (line_of cs).turns (nodes_of T)));
      }

  module _ (good : Good T) (inside : root < T.count) where
    root-reduced : Reduced 1 65 (diagram_at (nodes_of T) root)
    root-reduced = diagram_at-reduced (nodes_of T) (good-ordered T good) root (omega (arith, length-nodes T good))

    pub rises : (i : ℕ) → i < length cs → Rises 1 65 (get_or cs i [])
    rises i q = path-rises 1 65 (diagram_at (nodes_of T) root) root-reduced i q

    found-is : (x : NextPath) (b : Bool) (u : Literals) → x ≡ found b u → (x.found ≡ b) × (x.literals ≡ u)
    found-is x b u e = (ap (λ (y : NextPath). y.found) e, ap (λ (y : NextPath). y.literals) e)

    next_of : (i : ℕ) (x : NextPath) → x ≡ nth cs i no_literals no_path → Next i x.found x.literals
    next_of i x e = go (dec_lt i (length cs))
      where
        go : Dec (i < length cs) → Next i x.found x.literals
        go (yes q) =
            let (b, u) = found-is x true (literals_of (get_or cs i [])) (e ∙ nth-there cs i no_literals no_path q) in
            record { inside = λ _. q; words = λ _. u; past = λ z. t≢f (sym b ∙ z) }
        go (no q) =
            let (b, u) = found-is x false no_literals (e ∙ nth-none cs i no_literals no_path (omega arith)) in
            record { inside = λ z. t≢f (sym z ∙ b); words = λ z. t≢f (sym z ∙ b); past = λ _. omega arith }

    -- the root is not 1
    pub next-first : (root ≡ 1 → ⊥) → (u : Literals) → u ≡ first_from (diagram_at (nodes_of T) root) no_literals → Next 0 true u
    next-first other u e =
        let one : is_one (diagram_at (nodes_of T) root) ≡ false = one-not (nodes_of T) (good-ordered T good) root
        (omega (arith, length-nodes T good)) other in
        subst (Next 0 true) (sym e)
        (next_of 0 (found true (first_from (diagram_at (nodes_of T) root) no_literals))
        (sym (first-is 1 65 (diagram_at (nodes_of T) root) root-reduced no_literals no_path
        ∙ ap (λ (b : Bool). cond b no_path (found true (first_from (diagram_at (nodes_of T) root) no_literals))) one)))

    pub next-after : (i : ℕ) (u : Literals) → Next i true u → (x : NextPath) → x
        ≡ after_from (diagram_at (nodes_of T) root) u.positive no_literals no_path → Next (i + 1) x.found x.literals
    next-after i u N x e =
        let q : i < length cs = N.inside refl in
        let z : suc i ≡ i + 1 = omega arith in
        next_of (i + 1) x
        (e ∙ ap (λ (w : Literals). after_from (diagram_at (nodes_of T) root) w.positive no_literals no_path) (N.words refl)
        ∙ after_is 1 65 (diagram_at (nodes_of T) root) root-reduced i q (literals_of (get_or cs i [])).positive
        (path-along (get_or cs i []) (rises i q)) no_literals no_path
        ∙ ap (λ (k : ℕ). nth cs k no_literals no_path) z)

    -- all are passed
    pub turns-done : (i rounds peak : ℕ) → Turning i rounds peak → length cs ≤ i → path_count (diagram_at (nodes_of T) root) ≤ 4096
        → LineSays T whole most_rounds (judged_as false true rounds T.count peak) T
    unfolding path_turns turns_reach path_line
    turns-done i rounds peak W end few =
        let none : drop i cs ≡ [] = drop_of_length-le cs {i = i} end in
        record {
          extended = extended-same T good;
          reaches = whole-reach ∙ W.reach-left ∙ ap (λ (ks : List (List Literal)). raised peak (reach_of ks)) none
              ∙ ap (reach true) (omega (arith, W.least));
          shown = λ _. sym (W.shown-left ∙ ap (λ (ks : List (List Literal)). (line_of ks).shown) none);
          rounds = λ _. sym (W.rounds-left ∙ ap (λ (ks : List (List Literal)). rounds + (line_of ks).rounds) none ∙ plus-zero rounds);
          most = omega (arith, W.most, W.so_far, count-is (diagram_at (nodes_of T) root), few);
        }
      where
        plus-zero : (m : ℕ) → m + 0 ≡ m
        plus-zero m = omega arith

    module _ (i rounds peak : ℕ) (W : Turning i rounds peak) (u : Literals) (N : Next i true u) (r : Judged) (T' : Table)
        (said : LineSays T (turn_by u members-are) 64 r T')
        (few : path_count (diagram_at (nodes_of T) root) ≤ 4096) where
      abbrev c : List Literal
      c = get_or cs i []

      more : i < length cs
      more = N.inside refl

      abbrev one : Line
      one = line_of (c ∷ [])

      S : LineSays T one 64 r T'
      S = subst (λ (L : Line). LineSays T L 64 r T')
          (ap (λ (w : Literals). turn_by w members-are) (N.words refl) ∙ turn_is c (rises i more) members-are) said

      next : drop i cs ≡ c ∷ drop (suc i) cs
      next = drop-cons cs i [] more

      kept-none : (ks : List (List Literal)) → (line_of ks).kept ≡ []
      unfolding path_turns after_turn
      kept-none [] = refl
      kept-none (k ∷ ks) = refl

      one-reach-is : reach_of (c ∷ []) ≡ reach (not r.full) r.peak
      unfolding line_reach placed_all
      one-reach-is = sym (ap (λ (kept : List Diagram). kept_reach (size T) one.turns (placed_all (size T) (nodes_of T) kept))
          (kept-none (c ∷ []))) ∙ S.reaches

      all-reach : line_reach (size T) (nodes_of T) whole ≡ raised peak (reach_of (c ∷ drop (suc i) cs))
      all-reach = whole-reach ∙ W.reach-left ∙ ap (λ (ks : List (List Literal)). raised peak (reach_of ks)) next

      onward : one.shown ≡ true → GoesOn (size T) (nodes_of T) one (line_of (drop (suc i) cs)) (line_of (c ∷ drop (suc i) cs))
      onward = goes_on (size T) (nodes_of T) members-are c (drop (suc i) cs)

      last : one.shown ≡ false → Stops (size T) (nodes_of T) one (line_of (c ∷ drop (suc i) cs))
      last = stops (size T) (nodes_of T) members-are c (drop (suc i) cs)

      pub added-fits : rounds + r.rounds ≤ most_rounds
      added-fits = omega (arith, W.most, S.most, more, count-is (diagram_at (nodes_of T) root), few)

      pub passed-fits : i < 4096
      passed-fits = omega (arith, more, count-is (diagram_at (nodes_of T) root), few)

      -- a turn that found no room
      pub turns-full : r.full ≡ true → (count : ℕ) → LineSays T whole most_rounds (judged_as true false 0 count (max peak r.peak)) T'
      turns-full q count =
          record {
            extended = S.extended;
            reaches = all-reach ∙ ap (raised peak) (go one.shown refl);
            shown = λ z. t≢f z;
            rounds = λ z. t≢f z;
            most = omega arith;
          }
        where
          no_room : reach_of (c ∷ []) ≡ reach false r.peak
          no_room = one-reach-is ∙ ap (λ (b : Bool). reach (not b) r.peak) q

          go : (b : Bool) → one.shown ≡ b → reach_of (c ∷ drop (suc i) cs) ≡ reach false r.peak
          go true e = (onward e).reach ∙ ap (λ (x : Reach). then_reach x (reach_of (drop (suc i) cs))) no_room
          go false e = (last e).reach ∙ no_room

      module _ (q : r.full ≡ false) where
        has_room : reach_of (c ∷ []) ≡ reach true r.peak
        has_room = one-reach-is ∙ ap (λ (b : Bool). reach (not b) r.peak) q

        -- a turn that does not conflict
        pub turns-end : r.shown ≡ false → LineSays T whole most_rounds
            (judged_as false false (rounds + r.rounds) T.count (max peak r.peak)) T
        unfolding path_line
        turns-end z =
            let e : one.shown ≡ false = sym (S.shown q) ∙ z in
            record {
              extended = extended-same T good;
              reaches = all-reach ∙ ap (raised peak) ((last e).reach ∙ has_room);
              shown = λ _. sym (W.shown-left ∙ ap (λ (ks : List (List Literal)). (line_of ks).shown) next ∙ (last e).shown);
              rounds = λ _. sym (W.rounds-left ∙ ap (λ (ks : List (List Literal)). rounds + (line_of ks).rounds) next
                  ∙ ap (λ (m : ℕ). rounds + m) ((last e).rounds ∙ sym (S.rounds q)));
              most = added-fits;
            }

        -- a turn that conflicts
        pub turns-on : r.shown ≡ true → Turning (i + 1) (rounds + r.rounds) (max peak r.peak)
        turns-on z =
            let e : one.shown ≡ true = sym (S.shown q) ∙ z in
            let g = onward e in
            record {
              so_far = omega (arith, more);
              most = omega (arith, W.most, S.most);
              least = omega (arith, W.least);
              shown-left = W.shown-left ∙ ap (λ (ks : List (List Literal)). (line_of ks).shown) next ∙ g.shown
                  ∙ ap (λ (k : ℕ). (line_of (drop k cs)).shown) (sym (add-one i));
              rounds-left =
                  W.rounds-left ∙ ap (λ (ks : List (List Literal)). rounds + (line_of ks).rounds) next
                  ∙ ap (λ (m : ℕ). rounds + m) g.rounds
                  ∙ ap (λ (m : ℕ). rounds + (m + (line_of (drop (suc i) cs)).rounds)) (sym (S.rounds q))
                  ∙ ap (λ (k : ℕ). rounds + (r.rounds + (line_of (drop k cs)).rounds)) (sym (add-one i))
                  ∙ grouped rounds r.rounds (line_of (drop (i + 1) cs)).rounds;
              reach-left =
                  W.reach-left ∙ ap (λ (ks : List (List Literal)). raised peak (reach_of ks)) next
                  ∙ ap (raised peak) (g.reach ∙ ap (λ (x : Reach). then_reach x (reach_of (drop (suc i) cs))) has_room)
                  ∙ ap (reach (reach_of (drop (suc i) cs)).fits) (greatest peak r.peak (reach_of (drop (suc i) cs)).peak)
                  ∙ ap (λ (k : ℕ). raised (max peak r.peak) (reach_of (drop k cs))) (sym (add-one i));
            }
          where
            grouped : (a b c : ℕ) → a + (b + c) ≡ (a + b) + c
            grouped a b c = omega arith

            greatest : (a b c : ℕ) → max a (max b c) ≡ max (max a b) c
            greatest a b c = omega arith
