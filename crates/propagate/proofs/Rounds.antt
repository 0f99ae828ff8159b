-- A propagation round by round. The idea: what the whole propagation says is what the rounds so far and those to come say; each round
-- replaces all members by their cofactors by the units of the first member that has any. Assumes nothing.
use mathlib.Core.Path.{◌≡◌, refl, sym, ap, ap₂, ◌∙◌}
use mathlib.Core.Bool.{Bool, true, false, cond}
use mathlib.Core.List.{List, [], ◌∷◌, ◌++◌, map}
use mathlib.Core.Option.{Option, none, some}
use Prim.Native.Nat.{ℕ, zero, suc, ◌+◌, ◌≤◌, ◌<◌}
use native.Mathlib.Omega.{arith}
use lib.ListN.{length}
use Rattle.meaning.specs.Diagram.{Diagram}
use Rattle.meaning.specs.Operations.{is_unit, cofactor_literals}
use Rattle.meaning.specs.Rules.{conflicts, first_with_unit, by_units, Propagation, round, still, taking, propagate, unit_prop}
use Rattle.meaning.specs.Words.{in_word}
use Rattle.meaning.proofs.Booleans.{t≢f}
use Rattle.meaning.proofs.PointwiseSteps.{literals-cong}
use Rattle.table.specs.Nodes.{diagram_at}
use Rattle.table.specs.Indexed.{Table, size, nodes_of, Good}
use Rattle.walks.specs.Readable.{Roomy, ListReady}
use Rattle.words.specs.declared.Literals as words
use Rattle.words.specs.Sets.{has}
use Rattle.operate.specs.declared.Operation.TheVariants.{Literals}
use Rattle.operate.specs.Operate.{result}
use Rattle.table.specs.Making.{placed_all}
use Rattle.table.specs.Lists.{room, diagrams_of, Inside, Extended}
use Rattle.conflict.specs.Marks.{unmarked}
use Rattle.members.specs.Made.{results, AllMade, differing}
use Rattle.unit_search.specs.Units.{UnitsTaken}
use Rattle.supports.specs.Supports.{Supports}
use Rattle.propagate.specs.Rounds.{unit_results, RoundDue, Said, rounds_left}
use Rattle.table.proofs.PlacedAll.{placed-short, placed-then}
use Rattle.table.proofs.Extended.{extended-same, extended-trans}

-- ---- the definition's steps

module _ (most n : ℕ) (ms : List Diagram) where
  propagate-conflict : conflicts n ms ≡ true → propagate (suc most) n ms ≡ still true
  unfolding propagate
  propagate-conflict c = ap (λ (b : Bool). cond b (still true)
      (taking (first_with_unit n ms) (λ u. round (by_units n u ms) (propagate most n (by_units n u ms))))) c

  propagate-none : conflicts n ms ≡ false → first_with_unit n ms ≡ none → propagate (suc most) n ms ≡ still false
  unfolding propagate
  propagate-none c e =
      ap₂ (λ (b : Bool) (x : Option Diagram). cond b (still true)
      (taking x (λ u. round (by_units n u ms) (propagate most n (by_units n u ms))))) c e

  propagate-round : (u : Diagram) → conflicts n ms ≡ false → first_with_unit n ms ≡ some u → propagate (suc most) n ms
      ≡ round (by_units n u ms) (propagate most n (by_units n u ms))
  unfolding propagate
  propagate-round u c e =
      ap₂ (λ (b : Bool) (x : Option Diagram). cond b (still true)
      (taking x (λ u. round (by_units n u ms) (propagate most n (by_units n u ms))))) c e

propagate-last : (n : ℕ) (ms : List Diagram) → propagate zero n ms ≡ still (conflicts n ms)
unfolding propagate
propagate-last n ms = refl

unit_prop-is : (n : ℕ) (ms : List Diagram) → unit_prop n ms ≡ propagate n n ms
unfolding unit_prop
unit_prop-is n ms = refl

-- ---- a propagation's end

pub ends-conflict : (left : ℕ) (ms : List Diagram) → conflicts 64 ms ≡ true → propagate left 64 ms ≡ still true
ends-conflict zero ms c = propagate-last 64 ms ∙ ap still c
ends-conflict (suc most) ms c = propagate-conflict most 64 ms c

pub ends_last : (left : ℕ) (ms : List Diagram) → left ≡ 0 → conflicts 64 ms ≡ false → propagate left 64 ms ≡ still false
ends_last zero ms z c = propagate-last 64 ms ∙ ap still c
ends_last (suc most) ms z c = absurd (omega arith)

pub ends-still : (left : ℕ) (ms : List Diagram) → conflicts 64 ms ≡ false → first_with_unit 64 ms ≡ none → propagate left 64 ms
    ≡ still false
ends-still zero ms c e = propagate-last 64 ms ∙ ap still c
ends-still (suc most) ms c e = propagate-none most 64 ms c e

-- ---- the members by the units

map-cong : (f g : Diagram → Diagram) (ms : List Diagram) → ((h : Diagram) → f h ≡ g h) → map f ms ≡ map g ms
map-cong f g [] e = refl
map-cong f g (h ∷ hs) e = ap₂ ◌∷◌ (e h) (map-cong f g hs e)

literals-result : (p n : ℕ) (f g : Diagram) → result (Literals p n) f g ≡ cofactor_literals 64 (in_word p) (in_word n) f
unfolding result
literals-result p n f g = refl

by_units-is : (n : ℕ) (u : Diagram) (ms : List Diagram) → by_units n u ms
    ≡ map (cofactor_literals n (λ v. is_unit n u v true) (λ v. is_unit n u v false)) ms
unfolding by_units
by_units-is n u ms = refl

units-made : (T : Table) (list : List ℕ) (u : words.Literals) (K : UnitsTaken 64 (diagrams_of (nodes_of T) list) u)
    → results (Literals u.positive u.negative) T list 1 ≡ by_units 64 K.member (diagrams_of (nodes_of T) list)
unfolding has
units-made T list u K =
    map-cong (λ f. result (Literals u.positive u.negative) f (diagram_at (nodes_of T) 1))
    (cofactor_literals 64 (λ v. is_unit 64 K.member v true) (λ v. is_unit 64 K.member v false)) (diagrams_of (nodes_of T) list)
    (λ f. literals-result u.positive u.negative f (diagram_at (nodes_of T) 1)
    ∙ literals-cong 64 (in_word u.positive) (in_word u.negative) (λ v. is_unit 64 K.member v true)
    (λ v. is_unit 64 K.member v false) f (λ v. K.holds v true) (λ v. K.holds v false))
    ∙ sym (by_units-is 64 K.member (diagrams_of (nodes_of T) list))

-- What a round writes: as many members as differ from their cofactor by its U.
pub round-writes : (T : Table) (list : List ℕ) (u : words.Literals) → UnitsTaken 64 (diagrams_of (nodes_of T) list) u
    → (written : ℕ) → written ≡ differing (diagrams_of (nodes_of T) list) (unit_results u T list)
    → (taken : Diagram) → first_with_unit 64 (diagrams_of (nodes_of T) list) ≡ some taken
    → written ≡ differing (diagrams_of (nodes_of T) list) (by_units 64 taken (diagrams_of (nodes_of T) list))
round-writes T list u K written e taken is =
    let ms = diagrams_of (nodes_of T) list in
    let one : K.member ≡ taken = some-injective (sym K.is ∙ is) in
    e ∙ ap (differing ms) (units-made T list u K) ∙ ap (λ (m : Diagram). differing ms (by_units 64 m ms)) one
  where
    some-injective : {f g : Diagram} → some f ≡ some g → f ≡ g
    some-injective e = cc

-- ---- the loop

-- After so many rounds the list in the table T is what the members ms₀, in the table T₀, have become.
pub record Going (T₀ : Table) (ms₀ : List Diagram) (T : Table) (list memo marks : List ℕ) (rounds : ℕ) : Type 0 where
  pub extended : Extended T₀ T
  pub inside : Inside T.count list
  pub room : Roomy T₀.vars memo
  pub clear : marks ≡ unmarked (size T₀)
  pub most : rounds ≤ 64
  pub conflict : (unit_prop 64 ms₀).conflict ≡ (propagate (rounds_left rounds) 64 (diagrams_of (nodes_of T) list)).conflict
  pub counted : (unit_prop 64 ms₀).rounds ≡ rounds + (propagate (rounds_left rounds) 64 (diagrams_of (nodes_of T) list)).rounds
  pub to-place : placed_all (size T₀) (nodes_of T₀) (unit_prop 64 ms₀).made
      ≡ placed_all (size T₀) (nodes_of T) (propagate (rounds_left rounds) 64 (diagrams_of (nodes_of T) list)).made

pub going-first : (T₀ : Table) (list memo marks : List ℕ) → ListReady T₀ list memo → marks ≡ unmarked (size T₀) →
    Going T₀ (diagrams_of (nodes_of T₀) list) T₀ list memo marks 0
going-first T₀ list memo marks R e =
    let u : unit_prop 64 (diagrams_of (nodes_of T₀) list) ≡ propagate 64 64 (diagrams_of (nodes_of T₀) list) =
    unit_prop-is 64 (diagrams_of (nodes_of T₀) list) in
    record {
      extended = extended-same T₀ R.good;
      inside = R.inside;
      room = R.room;
      clear = e;
      most = omega arith;
      conflict = ap (λ (p : Propagation). p.conflict) u;
      counted = ap (λ (p : Propagation). p.rounds) u ∙ sym (zero-plus (propagate 64 64 (diagrams_of (nodes_of T₀) list)).rounds);
      to-place = ap (λ (p : Propagation). placed_all (size T₀) (nodes_of T₀) p.made) u;
    }
  where
    zero-plus : (x : ℕ) → 0 + x ≡ x
    zero-plus x = omega arith

-- And a round is due, by the units u of the member at `asked`; the words have the list's variables.
pub record Due (T₀ : Table) (ms₀ : List Diagram) (T : Table) (list memo marks listwords : List ℕ) (rounds : ℕ) (u : words.Literals)
    (asked : ℕ) : Type 0 where
  pub going : Going T₀ ms₀ T list memo marks rounds
  pub worded : length listwords ≡ length list
  pub supports : Supports (nodes_of T) list listwords
  pub due : RoundDue (diagrams_of (nodes_of T) list) rounds u asked

module _ (T₀ : Table) (G₀ : Good T₀) (ms₀ : List Diagram) (T : Table) (list memo marks : List ℕ) (rounds : ℕ)
    (W : Going T₀ ms₀ T list memo marks rounds) where
  pub going-ready : ListReady T list memo
  going-ready = record { good = W.extended.good; inside = W.inside; room = omega (arith, W.room, W.extended.same_size) }

  -- it ends
  pub going-ends : (b : Bool) → propagate (rounds_left rounds) 64 (diagrams_of (nodes_of T) list) ≡ still b
      → Said T₀ (unit_prop 64 ms₀) (record { full = false; conflict = b; rounds = rounds; count = T.count }) T
  unfolding placed_all
  going-ends b e =
      record {
        extended = W.extended;
        places = W.to-place ∙ ap (λ (p : Propagation). placed_all (size T₀) (nodes_of T) p.made) e;
        conflict = λ _. sym (W.conflict ∙ ap (λ (p : Propagation). p.conflict) e);
        rounds = λ _. sym (W.counted ∙ ap (λ (p : Propagation). rounds + p.rounds) e ∙ plus-zero rounds);
        most = W.most;
      }
    where
      plus-zero : (x : ℕ) → x + 0 ≡ x
      plus-zero x = omega arith

  -- one round more

  module _ (less : rounds < 64) (quiet : conflicts 64 (diagrams_of (nodes_of T) list) ≡ false) (u : words.Literals)
      (K : UnitsTaken 64 (diagrams_of (nodes_of T) list) u)
      (full : Bool) (T' : Table) (list' : List ℕ) (A : AllMade T (results (Literals u.positive u.negative) T list 1) full T' list')
    where
      made : List Diagram
      made = by_units 64 K.member (diagrams_of (nodes_of T) list)

      this-round : propagate (rounds_left rounds) 64 (diagrams_of (nodes_of T) list)
          ≡ round made (propagate (rounds_left (rounds + 1)) 64 made)
      unfolding made
      this-round =
          let q : rounds_left rounds ≡ suc (rounds_left (rounds + 1)) = omega arith in
          ap (λ (k : ℕ). propagate k 64 (diagrams_of (nodes_of T) list)) q ∙ propagate-round (rounds_left (rounds + 1)) 64
          (diagrams_of (nodes_of T) list) K.member quiet K.is

      long : Extended T₀ T'
      long = extended-trans T₀ T T' G₀ W.extended A.extended

      all-to-place : placed_all (size T₀) (nodes_of T₀) (unit_prop 64 ms₀).made
          ≡ placed_all (size T) (nodes_of T) (made ++ (propagate (rounds_left (rounds + 1)) 64 made).made)
      unfolding round
      all-to-place =
          W.to-place ∙ ap₂ (λ (s : ℕ) (p : Propagation). placed_all s (nodes_of T) p.made) (sym W.extended.same_size) this-round

      made-placed : placed_all (size T) (nodes_of T) made ≡ room full (nodes_of T')
      unfolding made
      made-placed = ap (placed_all (size T) (nodes_of T)) (sym (units-made T list u K)) ∙ A.places

      -- a node found no room
      pub going-full : full ≡ true → (conflict : Bool) → Said T₀ (unit_prop 64 ms₀)
          (record { full = true; conflict = conflict; rounds = rounds; count = T'.count }) T'
      going-full f conflict =
          record {
            extended = long;
            places =
                all-to-place ∙ placed-short (size T) (nodes_of T) made (propagate (rounds_left (rounds + 1)) 64 made).made (nodes_of T')
                (made-placed ∙ ap (λ (b : Bool). room b (nodes_of T')) f);
            conflict = λ z. t≢f z;
            rounds = λ z. t≢f z;
            most = W.most;
          }

      now-are : full ≡ false → diagrams_of (nodes_of T') list' ≡ made
      unfolding made
      now-are f = A.are f ∙ units-made T list u K

      pub going_on : full ≡ false → (memo' : List ℕ) → length memo' ≡ length memo → (marks' : List ℕ) → marks' ≡ unmarked (size T₀) →
          Going T₀ ms₀ T' list' memo' marks' (rounds + 1)
      unfolding round
      going_on f memo' len marks' e =
          let later = propagate (rounds_left (rounds + 1)) 64 made in
          let same : propagate (rounds_left (rounds + 1)) 64 (diagrams_of (nodes_of T') list') ≡ later =
          ap (propagate (rounds_left (rounds + 1)) 64) (now-are f) in
          record {
            extended = long;
            inside = A.inside f;
            room = omega (arith, W.room);
            clear = e;
            most = omega arith;
            conflict = W.conflict ∙ ap (λ (p : Propagation). p.conflict) this-round ∙ sym (ap (λ (p : Propagation). p.conflict) same);
            counted = W.counted ∙ ap (λ (p : Propagation). rounds + p.rounds) this-round ∙ moved rounds later.rounds
                ∙ sym (ap (λ (p : Propagation). rounds + 1 + p.rounds) same);
            to-place =
                all-to-place
                ∙ placed-then (size T) (nodes_of T) made later.made (nodes_of T') (made-placed ∙ ap (λ (b : Bool). room b (nodes_of T')) f)
                ∙ ap₂ (λ (s : ℕ) (p : Propagation). placed_all s (nodes_of T') p.made) W.extended.same_size (sym same);
          }
        where
          moved : (x y : ℕ) → x + suc y ≡ x + 1 + y
          moved x y = omega arith
