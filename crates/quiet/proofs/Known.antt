-- What is known of a list that was looked at, and of one that has most of its members. The idea: a member that is the same has the same
-- diagram, so it is asked as after a round that changed only the others. Assumes nothing.
use mathlib.Core.Path.{◌≡◌, refl, sym, ap, ◌∙◌, subst}
use mathlib.Core.Bool.{Bool, true, false, cond}
use mathlib.Core.List.{List, [], ◌∷◌, map}
use mathlib.Core.Option.{Option, none, some}
use Prim.Native.Nat.{ℕ, zero, suc, ◌+◌, ◌≤◌, ◌<◌}
use native.Mathlib.Omega.{arith}
use native.Mathlib.Numerals.{add-one}
use lib.ListN.{length, get_or, set, take, length-set, length-map}
use lib.Seq.{take-suc-set}
use Rattle.meaning.specs.Diagram.{Diagram, leaf}
use Rattle.meaning.specs.Rules.{has_unit, first_with_unit}
use Rattle.meaning.proofs.Booleans.{t≢f}
use Rattle.table.specs.Nodes.{Node, diagram_at}
use Rattle.table.specs.Indexed.{Table, nodes_of, Good}
use Rattle.table.specs.Lists.{diagrams_of, Inside, Extended}
use Rattle.table.proofs.Extended.{extended-longer, diagrams-kept}
use Rattle.touched.specs.Places.{AllBut}
use Rattle.touched.proofs.Places.{but-passed, but-added}
use Rattle.conflict.specs.Members.{Asked}
use Rattle.unit_search.specs.Units.{Unitless, UnitsAsked}
use Rattle.propagate.proofs.Quieting.{asked-but, units-but}
use Rattle.quiet.specs.declared.Looked.{Looked}
use Rattle.quiet.specs.Quiet.{SameAt, LookSays}

-- ---- what a look tells

is_some : Option Diagram → Bool
is_some none = false
is_some (some f) = true

-- where no member has a unit, none up to the end has
pub unitless-all : (ms : List Diagram) → first_with_unit 64 ms ≡ none → Unitless ms (length ms)
unfolding first_with_unit is_some
unitless-all [] e k p = absurd (omega arith)
unitless-all (f ∷ fs) e k p = at (λ z. unitless-all fs z) k p (parts (has_unit 64 64 f) (first_with_unit 64 fs) e)
  where
    parts : (b : Bool) (rest : Option Diagram) → cond b (some f) rest ≡ none → (b ≡ false) × (rest ≡ none)
    parts true rest z = t≢f (ap is_some z)
    parts false rest z = (refl, z)

    at : (first_with_unit 64 fs ≡ none → Unitless fs (length fs)) → (k : ℕ) → k < length (f ∷ fs)
        → (has_unit 64 64 f ≡ false) × (first_with_unit 64 fs ≡ none) → has_unit 64 64 (get_or (f ∷ fs) k (leaf false)) ≡ false
    at later zero p q = q.0
    at later (suc k) p q = later q.1 k (omega arith)

-- of a list that was not looked at nothing is said
pub nothing_known : (ms : List Diagram) (n : ℕ) → LookSays ms (record { quiet = false; unitless = n })
nothing_known ms n = record { none = λ z. t≢f (sym z); most = λ z. t≢f (sym z); unitless = λ z. t≢f (sym z) }

-- what was told holds while nodes are placed, and in the same table again
pub looked-kept : (T T' : Table) → Good T → Extended T T' → (list : List ℕ) → Inside T.count list → (looked : Looked)
    → LookSays (diagrams_of (nodes_of T) list) looked → LookSays (diagrams_of (nodes_of T') list) looked
looked-kept T T' G E list inside looked =
    subst (λ (ms : List Diagram). LookSays ms looked) (sym (diagrams-kept T T' (extended-longer T T' G E) list inside))

pub looked-again : (T T' : Table) → T' ≡ T → (list : List ℕ) (looked : Looked) → LookSays (diagrams_of (nodes_of T) list) looked
    → LookSays (diagrams_of (nodes_of T') list) looked
looked-again T T' e list looked = subst (λ (t : Table). LookSays (diagrams_of (nodes_of t) list) looked) (sym e)

-- ---- the walk over two lists

-- Of the first i places those at which the lists differ are found, and stand at the front.
pub record Differing (known list places₀ places : List ℕ) (i count : ℕ) : Type 0 where
  pub few : count ≤ i
  pub within : i ≤ length known
  pub room : length places ≡ length places₀
  pub found : AllBut i (take count places) (SameAt known list)

module _ (known list places₀ : List ℕ) where
  pub differing-none : Differing known list places₀ places₀ 0 0
  differing-none = record {
    few = omega arith;
    within = omega arith;
    room = refl;
    found = record {
      inside = λ k p. absurd (omega arith);
      rising = λ k p. absurd (omega arith);
      others =
          λ k j p b q. absurd (omega arith);
    };
  }

  module _ (places : List ℕ) (i count : ℕ) (D : Differing known list places₀ places i count) (more : i < length known) where
    pub differing-passed : SameAt known list i → Differing known list places₀ places (i + 1) count
    differing-passed e = record {
      few = omega (arith, D.few);
      within = omega arith;
      room = D.room;
      found = but-passed (SameAt known list) i (take count places) D.found e;
    }

    pub differing-added : length known ≤ length places₀ → Differing known list places₀ (set places count i) (i + 1) (count + 1)
    differing-added fits = record {
      few = omega (arith, D.few);
      within = omega arith;
      room = length-set places count i ∙ D.room;
      found =
          subst (λ (l : List ℕ). AllBut (i + 1) l (SameAt known list))
          (sym (ap (λ (k : ℕ). take k (set places count i)) (add-one count) ∙ take-suc-set places count i (omega (arith, D.few, D.room))))
          (but-added (SameAt known list) i (take count places) D.found);
    }

  pub differing-all : (places : List ℕ) (i count : ℕ) → Differing known list places₀ places i count → length known ≤ i
      → (count ≤ length known) × AllBut (length known) (take count places) (SameAt known list)
  differing-all places i count D h =
      let e : i ≡ length known = omega (arith, D.within) in
      (omega (arith, D.few, D.within), subst (λ (n : ℕ). AllBut n (take count places) (SameAt known list)) e D.found)

-- ---- what is to be asked

module _ (t : List Node) (known list : List ℕ) (len : length list ≡ length known) (looked : Looked)
    (L : LookSays (diagrams_of t known) looked) (quiet : looked.quiet ≡ true) (places : List ℕ)
    (B : AllBut (length known) places (SameAt known list)) where
  pub asked-known : Asked t list (map (λ i. get_or list i 0) places) false
  asked-known = asked-but t t known list len places (SameAt known list) B (λ i p e. ap (diagram_at t) e) (L.none quiet)

  pub units-known : UnitsAsked (diagrams_of t list) places looked.unitless
  units-known =
      units-but t t known list len places (SameAt known list) B (λ i p e. ap (diagram_at t) e) looked.unitless
      (omega (arith, L.most quiet, length-map known (diagram_at t))) (L.unitless quiet)
