-- A PR line's turns: one member's, and those of all, over a table that is the same before each. The idea: what is to be shown is what is
-- left to be shown, the rounds are those counted and those to come, and the peak is the greater of the one so far and the one to come.
-- Assumes nothing.
use mathlib.Core.Path.{◌≡◌, refl, sym, ap, ap₂, ◌∙◌, subst}
use mathlib.Core.Bool.{Bool, true, false, not}
use mathlib.Core.List.{List, [], ◌∷◌, ◌++◌}
use Prim.Native.Nat.{ℕ, suc, ◌+◌, ◌*◌, ◌≤◌, ◌<◌, max}
use native.Mathlib.Omega.{arith}
use native.Mathlib.Numerals.{add-one}
use lib.ListN.{length, get_or, drop, drop_of_length-le}
use lib.Seq.{drop-cons}
use Rattle.meaning.specs.Diagram.{Diagram, leaf}
use Rattle.meaning.specs.Operations.{cofactor_literals}
use Rattle.meaning.specs.Rules.{Line, rup, pr_turns, base}
use Rattle.meaning.specs.Words.{in_word}
use Rattle.meaning.proofs.Booleans.{t≢f}
use Rattle.meaning.proofs.Units.{eq-same}
use Rattle.table.specs.Nodes.{diagram_at}
use Rattle.table.specs.Indexed.{Table, size, nodes_of, Good, Outcome}
use Rattle.table.proofs.Written.{length-nodes}
use Rattle.table.proofs.Numbers.{diagram_at-one}
use Rattle.table.proofs.Outcomes.{Longer, longer, Grown, grown}
use Rattle.walks.specs.Constant.{one_at}
use Rattle.operate.specs.declared.Operation.TheVariants.{Literals}
use Rattle.operate.specs.Operate.{result}
use Rattle.operate.specs.Inner.{applied, MemoRight, Ready}
use Rattle.operate.proofs.Results.{result-reduced}
use Rattle.table.specs.Making.{placed_all, Reach, reach, reached, then_reach, turns_reach, line_reach}
use Rattle.supports.specs.Supports.{Support}
use Rattle.walks.specs.Readable.{ListReady}
use Rattle.table.specs.Lists.{diagrams_of}
use Rattle.table.proofs.PlacedAll.{first-full, first-placed, turns-peak}
use Rattle.table.proofs.Extended.{longer-extended, extended-same, extended-trans, diagrams-kept}
use Rattle.judge.specs.declared.Judged.{Judged}
use Rattle.judge.specs.Lines.{Negatable, Worded, LineSays}
use Rattle.judge.proofs.Worded.{literals-has, supports-longer}
use Rattle.judge.proofs.Fits.{propagation, rup-reach, turns-reach, constant-turn, turn-shown, turn-rounds, turn-reach, GoesOn, Stops}
use Rattle.judge.proofs.Fits.{goes_on, stops}

abbrev pub judged_as : Bool → Bool → ℕ → ℕ → ℕ → Judged
judged_as full shown rounds count peak = record { full = full; shown = shown; rounds = rounds; count = count; peak = peak }

-- ---- one member

module _ (T : Table) (list memo : List ℕ) (R : ListReady T list memo) (f p n : ℕ) (inside : f < T.count) where
  abbrev One : Line
  One = pr_turns 64 (in_word p) (in_word n) (diagrams_of (nodes_of T) list) (diagram_at (nodes_of T) f ∷ [])

  -- h is 1: nothing is made
  pub turn-constant : one_at (nodes_of T) p n f ≡ true → LineSays T One 64 (judged_as false true 0 T.count T.count) T
  unfolding one_at line_reach turns_reach placed_all
  turn-constant e =
      let q : One ≡ _ = constant-turn 64 (in_word p) (in_word n) (diagrams_of (nodes_of T) list) (diagram_at (nodes_of T) f) e in
      record {
        extended = extended-same T R.good;
        reaches = ap (line_reach (size T) (nodes_of T)) q ∙ ap (reach true) (length-nodes T R.good);
        shown = λ _. sym (ap (λ (L : Line). L.shown) q);
        rounds = λ _. sym (ap (λ (L : Line). L.rounds) q);
        most = omega arith;
      }

  pub literals-ready : (memo' : List ℕ) → MemoRight (Literals p n) memo' T → Ready (Literals p n) memo' T f 1
  literals-ready memo' right =
      record {
        operands = record {
          good = R.good;
          f-inside = inside;
          g_inside = omega (arith, R.good.least);
          allowed = refl;
        };
        right = right;
      }

  module _ (other : one_at (nodes_of T) p n f ≡ false) (o : Outcome) (e : o ≡ applied T (Literals p n) f 1) where
    abbrev h : Diagram
    h = cofactor_literals 64 (in_word p) (in_word n) (diagram_at (nodes_of T) f)

    abbrev ms : List Diagram
    ms = diagrams_of (nodes_of T) list

    made : Grown T h o
    unfolding result
    made = grown T R.good h (result-reduced (Literals p n) (diagram_at (nodes_of T) f) (diagram_at (nodes_of T) 1)) o e

    long : Longer T o.table
    long = longer T h o made

    reach-is : line_reach (size T) (nodes_of T) One ≡ reached
        (placed_all (size T) (nodes_of T) (h ∷ (base 64 ms h ++ (propagation 64 ms h).made)))
    unfolding one_at
    reach-is = turn-reach 64 (in_word p) (in_word n) ms (diagram_at (nodes_of T) f) other (size T) (nodes_of T)

    -- h found no room
    pub turn-full : o.full ≡ true → LineSays T One 64 (judged_as true false 0 o.table.count o.table.count) o.table
    unfolding result
    turn-full q =
        record {
          extended = longer-extended T o.table long;
          reaches =
              reach-is
              ∙ ap reached (first-full (size T) (nodes_of T) h (base 64 ms h ++ (propagation 64 ms h).made) o e q)
              ∙ ap (reach false) (length-nodes o.table made.good);
          shown = λ z. t≢f z;
          rounds = λ z. t≢f z;
          most = omega arith;
        }

    module _ (q : o.full ≡ false) where
      not-one : o.node ≡ 1 → ⊥
      unfolding one_at
      not-one z =
          t≢f (sym (eq-same h (leaf true) (sym (made.is q) ∙ ap (diagram_at (nodes_of o.table)) z ∙ diagram_at-one (nodes_of o.table)))
          ∙ other)

      -- the members by not-g can be propagated after a cofactor by not-h
      pub turn-ready : (memo' : List ℕ) → length memo' ≡ length memo → Negatable o.table list memo' o.node
      turn-ready memo' len =
          record {
            ready = record {
              good = made.good;
              inside = λ i b. omega (arith, made.more, R.inside i b);
              room = omega (arith, R.room, made.same_size);
            };
            inside = made.inside;
            not-one = not-one;
          }

      -- the words are as before, with the member's for h
      pub turn-worded : (words : List ℕ) (word : ℕ) → Worded T list words f word → Worded o.table list words o.node word
      turn-worded words word W =
          record {
            lengths = W.lengths;
            have = supports-longer T o.table long list words R.inside W.have;
            has = subst (Support word) (sym (made.is q)) (literals-has T R.good f inside word W.has p n);
          }

      abbrev Rup : Line
      Rup = rup 64 (diagrams_of (nodes_of o.table) list) (diagram_at (nodes_of o.table) o.node)

      rup-is : Rup ≡ rup 64 ms h
      rup-is = ap₂ (rup 64) (diagrams-kept T o.table long list R.inside) (made.is q)

      reach-both : line_reach (size T) (nodes_of T) One ≡ line_reach (size o.table) (nodes_of o.table) Rup
      unfolding result
      reach-both =
          reach-is
          ∙ ap reached (first-placed (size T) (nodes_of T) h (base 64 ms h ++ (propagation 64 ms h).made) o e q)
          ∙ sym (rup-reach (size T) (nodes_of o.table) 64 ms h)
          ∙ ap₂ (λ (s : ℕ) (L : Line). line_reach s (nodes_of o.table) L) (sym made.same_size) (sym rup-is)

      pub turn-judged : (r : Judged) (T' : Table) → LineSays o.table Rup 64 r T' → LineSays T One 64 r T'
      unfolding one_at
      turn-judged r T' S =
          record {
            extended = extended-trans T o.table T' R.good (longer-extended T o.table long) S.extended;
            reaches = reach-both ∙ S.reaches;
            shown = λ z. S.shown z ∙ ap (λ (L : Line). L.shown) rup-is
                ∙ sym (turn-shown 64 (in_word p) (in_word n) ms (diagram_at (nodes_of T) f) other);
            rounds = λ z. S.rounds z ∙ ap (λ (L : Line). L.rounds) rup-is
                ∙ sym (turn-rounds 64 (in_word p) (in_word n) ms (diagram_at (nodes_of T) f) other);
            most = S.most;
          }

-- ---- all members

module _ (T : Table) (list members : List ℕ) (p n : ℕ) where
  -- the line of the members numbered
  abbrev line_of : List ℕ → Line
  line_of ks = pr_turns 64 (in_word p) (in_word n) (diagrams_of (nodes_of T) list) (diagrams_of (nodes_of T) ks)

  abbrev reach_of : List ℕ → Reach
  reach_of ks = turns_reach (size T) (line_of ks).turns (nodes_of T)

  line-reach : (ks : List ℕ) → line_reach (size T) (nodes_of T) (line_of ks) ≡ reach_of ks
  line-reach ks = turns-reach 64 (in_word p) (in_word n) (diagrams_of (nodes_of T) list) (size T) (nodes_of T) (diagrams_of (nodes_of T) ks)

  -- what is reached, where so much was reached before
  abbrev raised : ℕ → Reach → Reach
  raised peak r = reach r.fits (max peak r.peak)

  -- The turns of the first i members conflicted, in so many rounds, and reached so much.
  pub record Turning (i rounds peak : ℕ) : Type 0 where
    pub so_far : i ≤ length members
    pub most : rounds ≤ 64 * i
    pub least : length (nodes_of T) ≤ peak
    pub shown-left : (line_of members).shown ≡ (line_of (drop i members)).shown
    pub rounds-left : (line_of members).rounds ≡ rounds + (line_of (drop i members)).rounds
    pub reach-left : reach_of members ≡ raised peak (reach_of (drop i members))

  pub turning-none : Good T → Turning 0 0 T.count
  turning-none good =
      let len : length (nodes_of T) ≡ T.count = length-nodes T good in
      record {
        so_far = omega arith;
        most = omega arith;
        least = omega arith;
        shown-left = refl;
        rounds-left = omega arith;
        reach-left = ap (reach (reach_of members).fits) (omega (arith, turns-peak (size T) (line_of members).turns (nodes_of T)));
      }

  module _ (good : Good T) where
    -- all are passed
    pub turns-done : (i rounds peak : ℕ) → Turning i rounds peak → length members ≤ i
        → LineSays T (line_of members) (64 * length members) (judged_as false true rounds T.count peak) T
    unfolding pr_turns turns_reach
    turns-done i rounds peak W end =
        let none : drop i members ≡ [] = drop_of_length-le members {i = i} end in
        record {
          extended = extended-same T good;
          reaches = line-reach members ∙ W.reach-left ∙ ap (λ (ks : List ℕ). raised peak (reach_of ks)) none
              ∙ ap (reach true) (omega (arith, W.least));
          shown = λ _. sym (W.shown-left ∙ ap (λ (ks : List ℕ). (line_of ks).shown) none);
          rounds = λ _. sym (W.rounds-left ∙ ap (λ (ks : List ℕ). rounds + (line_of ks).rounds) none ∙ plus-zero rounds);
          most = omega (arith, W.most, W.so_far);
        }
      where
        plus-zero : (m : ℕ) → m + 0 ≡ m
        plus-zero m = omega arith

    module _ (i rounds peak : ℕ) (W : Turning i rounds peak) (more : i < length members) (r : Judged) (T' : Table)
        (S : LineSays T (line_of (get_or members i 0 ∷ [])) 64 r T') where
      abbrev one : Line
      one = line_of (get_or members i 0 ∷ [])

      next : drop i members ≡ get_or members i 0 ∷ drop (suc i) members
      next = drop-cons members i 0 more

      one-reach : reach_of (get_or members i 0 ∷ []) ≡ reach (not r.full) r.peak
      one-reach = sym (line-reach (get_or members i 0 ∷ [])) ∙ S.reaches

      all-reach : line_reach (size T) (nodes_of T) (line_of members) ≡ raised peak (reach_of (get_or members i 0 ∷ drop (suc i) members))
      all-reach = line-reach members ∙ W.reach-left ∙ ap (λ (ks : List ℕ). raised peak (reach_of ks)) next

      onward : one.shown ≡ true → GoesOn (size T) (nodes_of T) one (line_of (drop (suc i) members))
          (line_of (get_or members i 0 ∷ drop (suc i) members))
      onward =
          goes_on (size T) (nodes_of T) 64 (in_word p) (in_word n) (diagrams_of (nodes_of T) list)
          (diagram_at (nodes_of T) (get_or members i 0))
          (diagrams_of (nodes_of T) (drop (suc i) members))

      last : one.shown ≡ false → Stops (size T) (nodes_of T) one (line_of (get_or members i 0 ∷ drop (suc i) members))
      last =
          stops (size T) (nodes_of T) 64 (in_word p) (in_word n) (diagrams_of (nodes_of T) list)
          (diagram_at (nodes_of T) (get_or members i 0))
          (diagrams_of (nodes_of T) (drop (suc i) members))

      -- a turn that found no room
      pub turns-full : r.full ≡ true → (count : ℕ) → LineSays T (line_of members) (64 * length members)
          (judged_as true false 0 count (max peak r.peak)) T'
      turns-full q count =
          record {
            extended = S.extended;
            reaches = all-reach ∙ ap (raised peak) (go one.shown refl);
            shown = λ z. t≢f z;
            rounds = λ z. t≢f z;
            most = omega arith;
          }
        where
          no_room : reach_of (get_or members i 0 ∷ []) ≡ reach false r.peak
          no_room = one-reach ∙ ap (λ (b : Bool). reach (not b) r.peak) q

          go : (b : Bool) → one.shown ≡ b → reach_of (get_or members i 0 ∷ drop (suc i) members) ≡ reach false r.peak
          go true e = (onward e).reach ∙ ap (λ (x : Reach). then_reach x (reach_of (drop (suc i) members))) no_room
          go false e = (last e).reach ∙ no_room

      module _ (q : r.full ≡ false) where
        has_room : reach_of (get_or members i 0 ∷ []) ≡ reach true r.peak
        has_room = one-reach ∙ ap (λ (b : Bool). reach (not b) r.peak) q

        -- a turn that does not conflict
        pub turns-end : r.shown ≡ false → LineSays T (line_of members) (64 * length members)
            (judged_as false false (rounds + r.rounds) T.count (max peak r.peak)) T
        turns-end z =
            let e : one.shown ≡ false = sym (S.shown q) ∙ z in
            record {
              extended = extended-same T good;
              reaches = all-reach ∙ ap (raised peak) ((last e).reach ∙ has_room);
              shown = λ _. sym (W.shown-left ∙ ap (λ (ks : List ℕ). (line_of ks).shown) next ∙ (last e).shown);
              rounds = λ _. sym (W.rounds-left ∙ ap (λ (ks : List ℕ). rounds + (line_of ks).rounds) next
                  ∙ ap (λ (m : ℕ). rounds + m) ((last e).rounds ∙ sym (S.rounds q)));
              most = omega (arith, W.most, S.most);
            }

        -- a turn that conflicts
        pub turns-on : r.shown ≡ true → Turning (i + 1) (rounds + r.rounds) (max peak r.peak)
        turns-on z =
            let e : one.shown ≡ true = sym (S.shown q) ∙ z in
            let g = onward e in
            record {
              so_far = omega arith;
              most = omega (arith, W.most, S.most);
              least = omega (arith, W.least);
              shown-left = W.shown-left ∙ ap (λ (ks : List ℕ). (line_of ks).shown) next ∙ g.shown
                  ∙ ap (λ (k : ℕ). (line_of (drop k members)).shown) (sym (add-one i));
              rounds-left =
                  W.rounds-left ∙ ap (λ (ks : List ℕ). rounds + (line_of ks).rounds) next ∙ ap (λ (m : ℕ). rounds + m) g.rounds
                  ∙ ap (λ (m : ℕ). rounds + (m + (line_of (drop (suc i) members)).rounds)) (sym (S.rounds q))
                  ∙ ap (λ (k : ℕ). rounds + (r.rounds + (line_of (drop k members)).rounds)) (sym (add-one i))
                  ∙ grouped rounds r.rounds (line_of (drop (i + 1) members)).rounds;
              reach-left =
                  W.reach-left ∙ ap (λ (ks : List ℕ). raised peak (reach_of ks)) next
                  ∙ ap (raised peak) (g.reach ∙ ap (λ (x : Reach). then_reach x (reach_of (drop (suc i) members))) has_room)
                  ∙ ap (reach (reach_of (drop (suc i) members)).fits) (greatest peak r.peak (reach_of (drop (suc i) members)).peak)
                  ∙ ap (λ (k : ℕ). raised (max peak r.peak) (reach_of (drop k members))) (sym (add-one i));
            }
          where
            grouped : (a b c : ℕ) → a + (b + c) ≡ (a + b) + c
            grouped a b c = omega arith

            greatest : (a b c : ℕ) → max a (max b c) ≡ max (max a b) c
            greatest a b c = omega arith
