-- The members of a list made one by one: what holds at one of them holds at the next. The idea: one without a variable that the
-- operation sets is made by leaving it, list and word as they are. Assumes nothing.
use mathlib.Core.Path.{◌≡◌, refl, sym, subst}
use mathlib.Core.Logic.{inr}
use mathlib.Core.Bool.{false}
use mathlib.Core.List.{List}
use Prim.Native.Nat.{ℕ, zero, suc, ◌+◌, ◌-◌, ◌≤◌, ◌<◌}
use native.Mathlib.Omega.{arith}
use lib.ListN.{length, get_or, set}
use lib.Bits.{bit_and}
use Rattle.table.specs.Nodes.{diagram_at}
use Rattle.table.specs.Indexed.{Table, Outcome, nodes_of}
use Rattle.table.specs.Lists.{diagrams_of}
use Rattle.operate.specs.declared.Operation.{Operation}
use Rattle.operate.specs.Inner.{Allowed, MemoRight, Ready}
use Rattle.supports.specs.Supports.{Support, Supports}
use Rattle.walks.specs.Readable.{ListReady}
use Rattle.touched.specs.Places.{behind, AllBut, Untouched}
use Rattle.touched.proofs.Places.{next-rises, next-most}
use Rattle.members.specs.declared.Replaced.{Replaced}
use Rattle.members.specs.Made.{results}
use Rattle.members.specs.Touching.{Touches, reworded, OneMade}
use Rattle.members.proofs.Counting.{Counting}
use Rattle.members.proofs.Rewording.{Rewording, rewording-next}
use Rattle.members.proofs.Replacing.{Replacing, member-ready, member-supported, touches-now, replaced, supported, counted}
use Rattle.members.proofs.Touching.{untouched}
use Rattle.members.proofs.Written.{one_kept}

-- Of the list in the table T, which was list₀ in T₀, the first i members are made, their words have their variables, and so many changed.
pub record Making (op : Operation) (g : ℕ) (T₀ : Table) (list₀ words₀ : List ℕ) (T : Table) (list words memo : List ℕ) (i written : ℕ) :
    Type 0 where
  pub members : Replacing op g T₀ list₀ T list memo i
  pub supports : Supports (nodes_of T) list words
  pub rewords : Rewording words₀ words i
  pub counts : Counting (diagrams_of (nodes_of T₀) list₀) (results op T₀ list₀ g) i written

module _ (op : Operation) (g gained touching : ℕ) (T₀ : Table) (list₀ words₀ memo₀ : List ℕ) (R : ListReady T₀ list₀ memo₀)
    (g_inside : g < T₀.count) (allowed : Allowed op g)
    (len : length words₀ ≡ length list₀) (touches : Touches op (diagram_at (nodes_of T₀) g) touching)
    (gains : Support gained (diagram_at (nodes_of T₀) g))
    (T : Table) (list words memo : List ℕ) (i written : ℕ) (W : Making op g T₀ list₀ words₀ T list words memo i written)
    (p : i < length list) where
  words-length : length words ≡ length list
  words-length = omega (arith, W.rewords.lengths, W.members.members, len)

  pub ready : Ready op memo T (get_or list i 0) g
  ready = member-ready op g T₀ list₀ memo₀ R g_inside allowed T list memo i W.members p

  pub has : Support (get_or words i 0) (diagram_at (nodes_of T) (get_or list i 0))
  has = member-supported op g T₀ list₀ memo₀ R g_inside allowed T list memo i W.members p words W.supports

  pub touches-here : Touches op (diagram_at (nodes_of T) g) touching
  touches-here = touches-now op g T₀ list₀ memo₀ R g_inside allowed T list memo i W.members p touching touches

  -- one is made
  pub making-next : (r : Replaced) (T' : Table) (list' words' memo' : List ℕ) → OneMade op T list words g gained i r T' list' words' →
      r.full ≡ false
      → MemoRight op memo' T' → Making op g T₀ list₀ words₀ T' list' words' memo' (i + 1) (written + r.written)
  making-next r T' list' words' memo' e f right =
      record {
        members = subst (λ (x : List ℕ). Replacing op g T₀ list₀ T' x memo' (i + 1)) (sym (e.list-is f))
            (replaced op g T₀ list₀ memo₀ R g_inside allowed T list memo i W.members p o e.outcome f memo' right);
        supports = subst (λ (x : List ℕ). Supports (nodes_of T') x words') (sym (e.list-is f))
            (subst (λ (x : List ℕ). Supports (nodes_of T') (set list i r.node.0) x) (sym (e.words-is f))
            (supported op g T₀ list₀ memo₀ R g_inside allowed T list memo i W.members p o e.outcome f words gained touching
            words-length W.supports touches gains));
        rewords = subst (λ (x : List ℕ). Rewording words₀ x (i + 1)) (sym (e.words-is f))
            (rewording-next words₀ words i (reworded (get_or list i 0) r.node.0 (get_or words i 0) gained) W.rewords);
        counts = counted op g T₀ list₀ memo₀ R g_inside allowed T list memo i W.members p o e.outcome f written r.written
            W.counts (e.told f);
      }
    where
      o : Outcome
      o = record { table = T'; full = r.full; node = r.node.0 }

  -- one that has no variable which the operation sets is passed over
  making-passed : bit_and (get_or words i 0) touching ≡ 0 → Making op g T₀ list₀ words₀ T list words memo (i + 1) written
  making-passed apart =
      subst (Making op g T₀ list₀ words₀ T list words memo (i + 1)) (plus-zero written)
      (making-next (record { full = false; node = record { 0 = k }; written = 0; count = T.count }) T list words memo
      (one_kept op T list words g gained i (record { full = false; node = record { 0 = k }; count = T.count }) T
      (untouched T ready.operands.good k g ready.operands.f-inside ready.operands.g_inside (get_or words i 0) touching has op
      ready.operands touches-here apart)
      (inr refl)) refl W.members.right)
    where
      k : ℕ
      k = get_or list i 0

      plus-zero : (x : ℕ) → x + 0 ≡ x
      plus-zero x = omega arith

module _ (op : Operation) (g gained touching : ℕ) (T₀ : Table) (list₀ words₀ memo₀ : List ℕ) (R : ListReady T₀ list₀ memo₀)
    (g_inside : g < T₀.count) (allowed : Allowed op g)
    (len : length words₀ ≡ length list₀) (touches : Touches op (diagram_at (nodes_of T₀) g) touching)
    (gains : Support gained (diagram_at (nodes_of T₀) g))
    (T : Table) (list words memo : List ℕ) (written : ℕ) where
  -- so are all from i up to j
  making-run : (d i j : ℕ) → i + d ≡ j → j ≤ length list → ((m : ℕ) → i ≤ m → m < j → Untouched words₀ touching m)
      → Making op g T₀ list₀ words₀ T list words memo i written → Making op g T₀ list₀ words₀ T list words memo j written
  making-run zero i j e h none W = subst (λ (x : ℕ). Making op g T₀ list₀ words₀ T list words memo x written) (omega arith) W
  making-run (suc d) i j e h none W =
      making-run d (i + 1) j (omega arith) h (λ m p q. none m (omega arith) q)
      (making-passed op g gained touching T₀ list₀ words₀ memo₀ R g_inside allowed len touches gains T list words memo i written W
      (omega arith)
      (rw (W.rewords.ahead i (omega arith)) (none i (omega arith) (omega arith))))

  module _ (places : List ℕ) (A : AllBut (length list₀) places (Untouched words₀ touching)) where
    -- and all from behind a place up to the next
    pub making-to-next : (k : ℕ) → k ≤ length places → Making op g T₀ list₀ words₀ T list words memo (behind places k) written
        → Making op g T₀ list₀ words₀ T list words memo (get_or places k (length list₀)) written
    making-to-next k h W =
        making-run (get_or places k (length list₀) - behind places k) (behind places k) (get_or places k (length list₀))
        (omega (arith, next-rises (length list₀) places (Untouched words₀ touching) A k h))
        (omega (arith, next-most (length list₀) places (Untouched words₀ touching) A k, W.members.members))
        (λ m p q. A.others k m h p q) W
