-- A list's members replaced one by one by an operation's results. The idea: what is to be placed is what is left to be placed, the members
-- behind are the results, and those ahead are as they were. Assumes nothing.
use mathlib.Core.Path.{◌≡◌, refl, sym, ap, ap₂, ◌∙◌, subst}
use mathlib.Core.Bool.{true, false, cond}
use mathlib.Core.List.{List, [], ◌∷◌, map}
use Prim.Native.Nat.{ℕ, zero, suc, ◌+◌, ◌≤◌, ◌<◌}
use native.Mathlib.Omega.{arith}
use native.Mathlib.Numerals.{add-one}
use native.Mathlib.Decide.{ℕ_discrete, dec_lt}
use lib.ListN.{length, get_or, set, drop, length-set, length-map, drop_of_length-le}
use lib.Seq.{drop-cons, get_or-set_same, get_or-set_other, ext_get_or}
use lib.Dec.{eqb}
use lib.Bits.{bit_or}
use Rattle.meaning.specs.Diagram.{Diagram, leaf, same}
use Rattle.meaning.proofs.Booleans.{t≢f}
use Rattle.table.specs.Nodes.{diagram_at}
use Rattle.table.specs.Indexed.{Table, size, nodes_of, Outcome}
use Rattle.table.proofs.Outcomes.{Longer, longer, longer-same, longer-trans, Grown, grown}
use Rattle.operate.specs.declared.Operation.{Operation}
use Rattle.operate.specs.Operate.{result}
use Rattle.operate.specs.Inner.{applied, Allowed, MemoRight, Ready}
use Rattle.operate.proofs.Results.{result-reduced}
use Rattle.table.specs.Making.{placed_all}
use Rattle.supports.specs.Supports.{Support, Supports}
use Rattle.walks.specs.Readable.{ListReady}
use Rattle.table.specs.Lists.{diagrams_of, Inside}
use Rattle.members.specs.Made.{results, AllMade, differing}
use Rattle.members.specs.Touching.{Touches, reworded}
use Rattle.table.proofs.PlacedAll.{first-full, first-placed}
use Rattle.table.proofs.Extended.{longer-extended}
use Rattle.members.proofs.Counting.{Counting, counting-next, counting-all, same_numbers}
use Rattle.members.proofs.Touching.{grows, touches-kept, word-supported, supports-replaced}

pub get_d_map : {A B : Type 0} (f : A → B) (l : List A) (k : ℕ) (d : A) (e : B) → k < length l → get_or (map f l) k e ≡ f (get_or l k d)
get_d_map f [] k d e p = absurd (omega arith)
get_d_map f (x ∷ l) zero d e p = refl
get_d_map f (x ∷ l) (suc k) d e p = get_d_map f l k d e (omega arith)

-- The node k of the table has the diagram D.
pub record Has (T : Table) (k : ℕ) (D : Diagram) : Type 0 where
  pub inside : k < T.count
  pub is : diagram_at (nodes_of T) k ≡ D

has-longer : (T T' : Table) → Longer T T' → (k : ℕ) (D : Diagram) → Has T k D → Has T' k D
has-longer T T' L k D H = record { inside = omega (arith, L.more, H.inside); is = L.kept k H.inside ∙ H.is }

-- Of the list in the table T, which was list₀ in T₀, the first i members are replaced.
pub record Replacing (op : Operation) (g : ℕ) (T₀ : Table) (list₀ : List ℕ) (T : Table) (list memo : List ℕ) (i : ℕ) : Type 0 where
  pub long : Longer T₀ T
  pub right : MemoRight op memo T
  pub members : length list ≡ length list₀
  pub so_far : i ≤ length list
  pub done : (k : ℕ) → k < i → Has T (get_or list k 0) (get_or (results op T₀ list₀ g) k (leaf false))
  pub ahead : (k : ℕ) → i ≤ k → get_or list k 0 ≡ get_or list₀ k 0
  pub to-place : placed_all (size T₀) (nodes_of T₀) (results op T₀ list₀ g)
      ≡ placed_all (size T₀) (nodes_of T) (drop i (results op T₀ list₀ g))

module _ (op : Operation) (g : ℕ) (T₀ : Table) (list₀ memo₀ : List ℕ) (R : ListReady T₀ list₀ memo₀) (g_inside : g < T₀.count) where
  results-length : length (results op T₀ list₀ g) ≡ length list₀
  results-length = length-map (diagrams_of (nodes_of T₀) list₀) (λ f. result op f (diagram_at (nodes_of T₀) g))
      ∙ length-map list₀ (diagram_at (nodes_of T₀))

  pub result-at : (k : ℕ) → k < length list₀ → get_or (results op T₀ list₀ g) k (leaf false)
      ≡ result op (diagram_at (nodes_of T₀) (get_or list₀ k 0)) (diagram_at (nodes_of T₀) g)
  result-at k p =
      get_d_map (λ f. result op f (diagram_at (nodes_of T₀) g)) (diagrams_of (nodes_of T₀) list₀) k (leaf false) (leaf false)
      (omega (arith, length-map list₀ (diagram_at (nodes_of T₀))))
      ∙ ap (λ (f : Diagram). result op f (diagram_at (nodes_of T₀) g)) (get_d_map (diagram_at (nodes_of T₀)) list₀ k 0 (leaf false) p)

  pub replacing-none : (memo : List ℕ) → MemoRight op memo T₀ → Replacing op g T₀ list₀ T₀ list₀ memo 0
  replacing-none memo right =
      record {
        long = longer-same T₀ R.good;
        right = right;
        members = refl;
        so_far = omega arith;
        done = λ k p. absurd (omega arith);
        ahead = λ k p. refl;
        to-place = refl;
      }

  -- ---- one member

  module _ (allowed : Allowed op g) (T : Table) (list memo : List ℕ) (i : ℕ) (W : Replacing op g T₀ list₀ T list memo i)
      (p : i < length list) where
    member-inside : get_or list i 0 < T₀.count
    member-inside = rw (W.ahead i (omega arith)) (R.inside i (omega (arith, W.members)))

    pub member-ready : Ready op memo T (get_or list i 0) g
    member-ready =
        record {
          operands = record {
            good = W.long.good;
            f-inside = omega (arith, member-inside, W.long.more);
            g_inside = omega (arith, W.long.more);
            allowed = allowed;
          };
          right = W.right;
        }

    list_inside : Inside T.count list
    list_inside k q = elim (dec_lt k i) [
      | yes r ↦ (W.done k r).inside
      | no r ↦ rw (W.ahead k (omega arith)) (omega (arith, R.inside k (omega (arith, W.members)), W.long.more))
    ]

    pub member-supported : (words : List ℕ) → Supports (nodes_of T) list words →
        Support (get_or words i 0) (diagram_at (nodes_of T) (get_or list i 0))
    unfolding Supports
    member-supported words S = S i p

    -- the operation has the variables that it had
    pub touches-now : (touching : ℕ) → Touches op (diagram_at (nodes_of T₀) g) touching → Touches op (diagram_at (nodes_of T) g) touching
    touches-now touching touches = touches-kept op (diagram_at (nodes_of T) g) (diagram_at (nodes_of T₀) g) touching
        (W.long.kept g g_inside)
        touches

    -- what the operation makes of the member
    abbrev made : Diagram
    made = result op (diagram_at (nodes_of T) (get_or list i 0)) (diagram_at (nodes_of T) g)

    member-result : made ≡ get_or (results op T₀ list₀ g) i (leaf false)
    member-result =
        ap₂ (result op) (W.long.kept (get_or list i 0) member-inside ∙ ap (diagram_at (nodes_of T₀)) (W.ahead i (omega arith)))
        (W.long.kept g g_inside)
        ∙ sym (result-at i (omega (arith, W.members)))

    left-to-place : placed_all (size T₀) (nodes_of T₀) (results op T₀ list₀ g)
        ≡ placed_all (size T) (nodes_of T) (made ∷ drop (suc i) (results op T₀ list₀ g))
    left-to-place =
        W.to-place
        ∙ ap (placed_all (size T₀) (nodes_of T)) (drop-cons (results op T₀ list₀ g) i (leaf false)
        (omega (arith, results-length, W.members)))
        ∙ ap₂ (λ (s : ℕ) (D : Diagram). placed_all s (nodes_of T) (D ∷ drop (suc i) (results op T₀ list₀ g))) (sym W.long.same_size)
        (sym member-result)

    module _ (o : Outcome) (e : o ≡ applied T op (get_or list i 0) g) where
      outcome-grown : Grown T made o
      outcome-grown = grown T W.long.good _ (result-reduced op (diagram_at (nodes_of T) (get_or list i 0)) (diagram_at (nodes_of T) g)) o e

      long_after : Longer T₀ o.table
      long_after = longer-trans T₀ T o.table W.long (longer T made o outcome-grown)

      -- it found no room
      pub stopped : o.full ≡ true → (list' : List ℕ) → AllMade T₀ (results op T₀ list₀ g) true o.table list'
      stopped f list' =
          record {
            extended = longer-extended T₀ o.table long_after;
            places = left-to-place ∙ first-full (size T) (nodes_of T) _ (drop (suc i) (results op T₀ list₀ g)) o e f;
            inside = λ q. t≢f q;
            are = λ q. t≢f q;
          }

      -- it is replaced
      pub replaced : o.full ≡ false → (memo' : List ℕ) → MemoRight op memo' o.table
          → Replacing op g T₀ list₀ o.table (set list i o.node) memo' (i + 1)
      replaced f memo' right =
          record {
            long = long_after;
            right = right;
            members = length-set list i o.node ∙ W.members;
            so_far = omega (arith, length-set list i o.node);
            done = λ k q. now-done k q (ℕ_discrete k i);
            ahead = λ k q. get_or-set_other list i k o.node 0 (λ z. absurd (omega arith)) ∙ W.ahead k (omega arith);
            to-place =
                left-to-place
                ∙ first-placed (size T) (nodes_of T) _ (drop (suc i) (results op T₀ list₀ g)) o e f
                ∙ ap₂ (λ (s k : ℕ). placed_all s (nodes_of o.table) (drop k (results op T₀ list₀ g))) W.long.same_size
                (sym (add-one i));
          }
        where
          now-done : (k : ℕ) → k < i + 1 → Dec (k ≡ i) → Has o.table (get_or (set list i o.node) k 0)
              (get_or (results op T₀ list₀ g) k (leaf false))
          now-done k q (yes z) =
              rw (z, get_or-set_same list i o.node 0 p)
              (record { inside = outcome-grown.inside; is = outcome-grown.is f ∙ member-result })
          now-done k q (no z) =
              rw (get_or-set_other list i k o.node 0 z)
              (has-longer T o.table (longer T made o outcome-grown) (get_or list k 0) (get_or (results op T₀ list₀ g) k (leaf false))
              (W.done k (omega arith)))

      -- and its word with it
      pub supported : o.full ≡ false → (words : List ℕ) (gained touching : ℕ) → length words ≡ length list →
          Supports (nodes_of T) list words
          → Touches op (diagram_at (nodes_of T₀) g) touching → Support gained (diagram_at (nodes_of T₀) g)
          → Supports (nodes_of o.table) (set list i o.node) (set words i (reworded (get_or list i 0) o.node (get_or words i 0) gained))
      unfolding Supports
      supported f words gained touching len old touches gains =
          let inside = list_inside i p in
          let long = longer T made o outcome-grown in
          supports-replaced T o.table long list words list_inside len old i o.node
          (reworded (get_or list i 0) o.node (get_or words i 0) gained) p
          (word-supported T o.table long (get_or list i 0) o.node (get_or words i 0) gained inside (old i p)
          (subst (Support (bit_or (get_or words i 0) gained)) (sym (outcome-grown.is f))
          (grows T W.long.good (get_or list i 0) g inside (omega (arith, W.long.more)) (get_or words i 0) touching (old i p) op allowed
          (touches-now touching touches)
          gained (subst (Support gained) (sym (W.long.kept g g_inside)) gains))))

      -- and it is counted where it changed
      changed : o.full ≡ false → same (get_or (diagrams_of (nodes_of T₀) list₀) i (leaf false))
          (get_or (results op T₀ list₀ g) i (leaf false))
          ≡ eqb (get_or list i 0) o.node
      changed f =
          ap₂ same
          (get_d_map (diagram_at (nodes_of T₀)) list₀ i 0 (leaf false) (omega (arith, W.members))
          ∙ ap (diagram_at (nodes_of T₀)) (sym (W.ahead i (omega arith)))
          ∙ sym (long_after.kept (get_or list i 0) member-inside))
          (sym member-result ∙ sym (outcome-grown.is f))
          ∙ same_numbers o.table long_after.good (get_or list i 0) o.node (omega (arith, member-inside, long_after.more))
          outcome-grown.inside

      pub counted : o.full ≡ false → (written w : ℕ) → Counting (diagrams_of (nodes_of T₀) list₀) (results op T₀ list₀ g) i written
          → w ≡ cond (eqb (get_or list i 0) o.node) 0 1 → Counting (diagrams_of (nodes_of T₀) list₀) (results op T₀ list₀ g) (i + 1)
          (written + w)
      counted f written w N e =
          rw e (counting-next (diagrams_of (nodes_of T₀) list₀) (results op T₀ list₀ g) i written N
          (omega (arith, length-map list₀ (diagram_at (nodes_of T₀)), W.members))
          (omega (arith, results-length, W.members)) (eqb (get_or list i 0) o.node) (changed f))

  -- ---- all members

  pub all-replaced : (T : Table) (list memo : List ℕ) (i : ℕ) → Replacing op g T₀ list₀ T list memo i → length list ≤ i →
      AllMade T₀ (results op T₀ list₀ g) false T list
  unfolding placed_all
  all-replaced T list memo i W h =
      record {
        extended = longer-extended T₀ T W.long;
        places = W.to-place ∙ ap (placed_all (size T₀) (nodes_of T))
            (drop_of_length-le (results op T₀ list₀ g) {i = i} (omega (arith, results-length, W.members)));
        inside = λ _ k q. (W.done k (omega arith)).inside;
        are = λ _. ext_get_or (leaf false) (diagrams_of (nodes_of T) list) (results op T₀ list₀ g)
            (length-map list (diagram_at (nodes_of T)) ∙ W.members ∙ sym results-length)
            (λ k q. get_d_map (diagram_at (nodes_of T)) list k 0 (leaf false) (omega (arith, length-map list (diagram_at (nodes_of T))))
            ∙ (W.done k (omega (arith, length-map list (diagram_at (nodes_of T))))).is);
      }

  pub all-counted : (T : Table) (list memo : List ℕ) (i written : ℕ) → Replacing op g T₀ list₀ T list memo i → length list ≤ i
      → Counting (diagrams_of (nodes_of T₀) list₀) (results op T₀ list₀ g) i written → written
      ≡ differing (diagrams_of (nodes_of T₀) list₀) (results op T₀ list₀ g)
  all-counted T list memo i written W h =
      counting-all (diagrams_of (nodes_of T₀) list₀) (results op T₀ list₀ g) i written
      (omega (arith, length-map list₀ (diagram_at (nodes_of T₀)), W.members))
