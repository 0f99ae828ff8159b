-- A member that has no variable which the operation sets stays as it is, and each member's word still has its variables. Assumes nothing.
use mathlib.Core.Path.{◌≡◌, refl, sym, ap, ap₂, ◌∙◌, subst}
use mathlib.Core.Bool.{Bool, true, false, ◌&&◌, cond}
use mathlib.Core.List.{List}
use Prim.Native.Nat.{ℕ, ◌<◌}
use native.Mathlib.Omega.{arith}
use native.Mathlib.Decide.{ℕ_discrete}
use lib.ListN.{length, get_or, set, length-set}
use lib.Seq.{get_or-set_same, get_or-set_other}
use lib.Dec.{eqb}
use lib.Bits.{bit_and, bit_or}
use borrow.Author.Tests.{eqb-true}
use Rattle.meaning.specs.Diagram.{Diagram}
use Rattle.meaning.specs.Reduced.{Reduced}
use Rattle.meaning.specs.Operations.{cofactor_literals}
use Rattle.meaning.specs.Words.{in_word}
use Rattle.meaning.proofs.Booleans.{or-neither}
use Rattle.table.specs.Nodes.{diagram_at}
use Rattle.table.specs.Indexed.{Table, nodes_of, Good}
use Rattle.table.proofs.Written.{length-nodes, good-ordered}
use Rattle.table.proofs.Numbers.{diagram_at-reduced}
use Rattle.table.proofs.Outcomes.{Longer}
use Rattle.operate.specs.declared.Operation.{Operation}
use Rattle.operate.specs.declared.Operation.TheVariants.{Conjunction, Negation, Cofactor, Literals}
use Rattle.operate.specs.Operate.{result}
use Rattle.operate.specs.Inner.{applied, Allowed, Shared, Operands}
use Rattle.operate.proofs.Levels.{zero_is}
use Rattle.operate.proofs.Results.{known-outcome}
use Rattle.meaning.proofs.Words.{in_and, in-or, in-none}
use Rattle.supports.specs.Supports.{Support, Forced, Supports}
use Rattle.meaning.proofs.Uses.{literals-uses, literals-apart, cofactor-uses, cofactor-apart}
use Rattle.supports.proofs.Words.{support-left, support-right}
use Rattle.table.specs.Lists.{Inside}
use Rattle.thin.specs.Thin.{Cut}
use Rattle.members.proofs.Cutting.{literals-agree, cut-positive, cut-negative}
use Rattle.members.specs.Touching.{Touches, Apart, reworded}

-- words without a variable in common
pub words-apart : (a b : ℕ) → bit_and a b ≡ 0 → Apart a b
words-apart a b e v p =
    ap (λ (x : Bool). x && in_word b v) (sym p) ∙ sym (in_and a b v) ∙ ap (λ (w : ℕ). in_word w v) e ∙ in-none v

module _ (t : Table) (G : Good t) where
  reduced : (k : ℕ) → k < t.count → Reduced 1 65 (diagram_at (nodes_of t) k)
  reduced k p = diagram_at-reduced (nodes_of t) (good-ordered t G) k (omega (arith, length-nodes t G))

  module _ (f g : ℕ) (f-inside : f < t.count) (g_inside : g < t.count) (word touching : ℕ) (has : Support word (diagram_at (nodes_of t) f))
    where
      abbrev F : Diagram
      F = diagram_at (nodes_of t) f

      abbrev E : Diagram
      E = diagram_at (nodes_of t) g

      -- no variable in common: the member stays
      pub stays : (op : Operation) → Allowed op g → Touches op E touching → Apart word touching → result op F E ≡ F
      unfolding result Support Forced
      stays Conjunction allowed touches apart = absurd touches
      stays Negation allowed touches apart = absurd touches
      stays Cofactor allowed touches apart =
          cofactor-apart (in_word word) (in_word touching) apart 64 F E (reduced f f-inside) (reduced g g_inside)
          (λ z. allowed (zero_is t G g g_inside z)) has touches
      stays (Literals p n) allowed touches apart =
          literals-apart 64 (in_word p) (in_word n) (in_word word)
          (λ v q. or-neither (in_word p v) (in_word n v) (sym (in-or p n v) ∙ ap (λ (w : ℕ). in_word w v) (sym touches) ∙ apart v q)) F
          (reduced f f-inside) has

      -- else the word has the result's variables with those of g
      pub grows : (op : Operation) → Allowed op g → Touches op E touching → (gained : ℕ) → Support gained E →
          Support (bit_or word gained) (result op F E)
      unfolding result Support
      grows Conjunction allowed touches gained gains = absurd touches
      grows Negation allowed touches gained gains = absurd touches
      grows Cofactor allowed touches gained gains =
          cofactor-uses 64 (in_word (bit_or word gained)) F E (reduced f f-inside) (reduced g g_inside)
          (λ z. allowed (zero_is t G g g_inside z))
          (support-left word gained F has) (support-right word gained E gains)
      grows (Literals p n) allowed touches gained gains =
          support-left word gained (cofactor_literals 64 (in_word p) (in_word n) F)
          (literals-uses 64 (in_word p) (in_word n) (in_word word) F (reduced f f-inside) has)

      -- the word of what the member shares with the operation
      pub touched-shared : (op : Operation) → Touches op E touching → Shared op (bit_and word touching) t f g
      unfolding Support Forced
      touched-shared Conjunction touches = absurd touches
      touched-shared Negation touches = absurd touches
      touched-shared Cofactor touches = record {
        first = in_word word;
        second = in_word touching;
        first-uses = has;
        second-forces = touches;
        common = λ v p q. in_and word touching v ∙ ap₂ ◌&&◌ p q;
      }
      touched-shared (Literals p n) touches = tt

      -- a cofactor by literals is that by those of the member's variables
      pub touched-cut : (op : Operation) → Touches op E touching → Cut op (bit_and word touching) t f g
      unfolding result Support
      touched-cut Conjunction touches = absurd touches
      touched-cut Negation touches = absurd touches
      touched-cut Cofactor touches = refl
      touched-cut (Literals p n) touches =
          subst (λ (w : ℕ). Cut (Literals p n) (bit_and word w) t f g) (sym touches)
          (literals-agree 64 (in_word (bit_and p (bit_and word (bit_or p n)))) (in_word (bit_and n (bit_and word (bit_or p n)))) (in_word p)
          (in_word n) (in_word word) (λ v q. (cut-positive p n word v q, cut-negative p n word v q)) F (reduced f f-inside) has)

      pub untouched : (op : Operation) → Operands op t f g → Touches op E touching → bit_and word touching ≡ 0
          → record { table = t; full = false; node = f } ≡ applied t op f g
      untouched op R touches e =
          known-outcome op t f g R f (record {
            f-inside = f-inside;
            g_inside = g_inside;
            inside = f-inside;
            is =
                sym (stays op R.allowed touches (words-apart word touching e));
          })

-- ---- the list's words

pub touches-kept : (op : Operation) (D E : Diagram) (touching : ℕ) → D ≡ E → Touches op E touching → Touches op D touching
touches-kept op D E touching e touches = subst (λ (x : Diagram). Touches op x touching) (sym e) touches

-- a member's word once its node f is k
pub word-supported : (T T' : Table) → Longer T T' → (f k word gained : ℕ) → f < T.count → Support word (diagram_at (nodes_of T) f)
    → Support (bit_or word gained) (diagram_at (nodes_of T') k) → Support (reworded f k word gained) (diagram_at (nodes_of T') k)
unfolding reworded
word-supported T T' L f k word gained inside old new = go (eqb f k) refl
  where
    go : (b : Bool) → eqb f k ≡ b → Support (cond b word (bit_or word gained)) (diagram_at (nodes_of T') k)
    go true e =
        subst (λ (n : ℕ). Support word (diagram_at (nodes_of T') n)) (eqb-true f k e) (subst (Support word) (sym (L.kept f inside)) old)
    go false e = new

-- one member replaced in a table that has grown
pub supports-replaced : (T T' : Table) → Longer T T' → (list words : List ℕ) → Inside T.count list → length words ≡ length list →
    Supports (nodes_of T) list words
    → (i k word : ℕ) → i < length list → Support word (diagram_at (nodes_of T') k) →
    Supports (nodes_of T') (set list i k) (set words i word)
unfolding Supports
supports-replaced T T' L list words inside len old i k word p new j q = go (ℕ_discrete j i)
  where
    go : Dec (j ≡ i) → Support (get_or (set words i word) j 0) (diagram_at (nodes_of T') (get_or (set list i k) j 0))
    go (yes e) = rw (e, get_or-set_same list i k 0 p, get_or-set_same words i word 0 (omega arith)) new
    go (no n) =
        let r : j < length list = omega (arith, length-set list i k) in
        rw (get_or-set_other list i j k 0 n, get_or-set_other words i j word 0 n, L.kept (get_or list j 0) (inside j r)) (old j r)
