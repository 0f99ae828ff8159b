-- What the inner calls' definitions say of the first n places of an array. Assumes nothing.
use mathlib.Core.Path.{◌≡◌, sym, ap, ◌∙◌, subst}
use Prim.Native.Nat.{ℕ, ◌≤◌, ◌<◌}
use mathlib.Core.List.{List, ◌++◌}
use lib.ListN.{length, take, drop}
use borrow.Author.Tests.{le-leb, lt-leb}
use mathlib.Core.Bool.{false}
use Rattle.table.specs.Columns.{columns_made}
use Rattle.operate.specs.declared.Operation.{Operation}
use Rattle.columns.proofs.First.{first-written, first-all}
use Rattle.single.specs.declared.Evaluated.{Evaluated}
use Rattle.single.specs.declared.call.Single.{Single}
use Rattle.single.specs.declared.least.AtLeast.{AtLeast}
use Rattle.single.specs.Inner.{OneOperand}
use Rattle.single.specs.Single.{made_of, operation, counted_of, at_least_call, evaluation}
use Rattle.nodes.specs.Second.{second_of}
use Rattle.nodes.specs.Within.{operation_within, at_least_within, evaluation_within}

pub kind-second : (op o : Operation) (g k : ℕ) → op ≡ o → k ≡ second_of o g → OneOperand o k → (k ≡ second_of op g) × OneOperand op k
kind-second op o g k e s t = subst (λ (x : Operation). (k ≡ second_of x g) × OneOperand x k) (sym e) (s, t)

pub operation-past : (op : Operation) (n : ℕ) (vs ls hs ds js : List ℕ) (count f g : ℕ) → 65536 < n → length vs ≡ 65536 → length ls
    ≡ 65536 → length hs ≡ 65536
    → made_of (columns_made (take n vs) (take n ls) (take n hs) ds js) (record { number = 7; node = record { 0 = 0 }; count = count })
    ≡ operation_within op n vs ls hs ds js count f g
unfolding operation_within
operation-past op n vs ls hs ds js count f g h a b c = rw (first-all n vs h a, first-all n ls h b, first-all n hs h c, lt-leb n 65536 h)

pub operation-first : (op : Operation) (n : ℕ) (vs ls hs ds js a b c d j : List ℕ) (count f g k : ℕ) (r : Single) → n ≤ 65536 →
    (length vs ≡ 65536) × (length ls ≡ 65536) × (length hs ≡ 65536)
    → length a ≡ length (take n vs) → length b ≡ length (take n ls) → length c ≡ length (take n hs) → k ≡ second_of op g →
    made_of (columns_made a b c d j) r ≡ operation op (columns_made (take n vs) (take n ls) (take n hs) ds js) count f k
    → made_of (columns_made (take n (a ++ drop n vs)) (take n (b ++ drop n ls)) (take n (c ++ drop n hs)) d j) r
    ≡ operation_within op n vs ls hs ds js count f g
unfolding operation_within
operation-first op n vs ls hs ds js a b c d j count f g k r h e ea eb ec s told =
    rw (first-written n vs a h e.0 ea, first-written n ls b h e.1 eb, first-written n hs c h e.2 ec, le-leb n 65536 h)
    (told ∙ ap (operation op (columns_made (take n vs) (take n ls) (take n hs) ds js) count f) s)

pub at-least-past : (n : ℕ) (vs ls hs ds js : List ℕ) (count set k : ℕ) → 65536 < n → length vs ≡ 65536 → length ls ≡ 65536 → length hs
    ≡ 65536
    → counted_of (columns_made (take n vs) (take n ls) (take n hs) ds js)
    (record { number = 7; node = record { 0 = 0 }; count = count; counted = false; excluded = 0 })
    ≡ at_least_within n vs ls hs ds js count set k
unfolding at_least_within
at-least-past n vs ls hs ds js count set k h a b c = rw (first-all n vs h a, first-all n ls h b, first-all n hs h c, lt-leb n 65536 h)

pub at-least-first : (n : ℕ) (vs ls hs ds js a b c d j : List ℕ) (count set k : ℕ) (r : AtLeast) → n ≤ 65536 → (length vs ≡ 65536)
    × (length ls ≡ 65536) × (length hs ≡ 65536)
    → length a ≡ length (take n vs) → length b ≡ length (take n ls) → length c ≡ length (take n hs) → counted_of (columns_made a b c d j) r
    ≡ at_least_call (columns_made (take n vs) (take n ls) (take n hs) ds js) count set k
    → counted_of (columns_made (take n (a ++ drop n vs)) (take n (b ++ drop n ls)) (take n (c ++ drop n hs)) d j) r
    ≡ at_least_within n vs ls hs ds js count set k
unfolding at_least_within
at-least-first n vs ls hs ds js a b c d j count set k r h e ea eb ec told =
    rw (first-written n vs a h e.0 ea, first-written n ls b h e.1 eb, first-written n hs c h e.2 ec, le-leb n 65536 h) told

pub evaluation-past : (n : ℕ) (vs ls hs ds js : List ℕ) (count f word : ℕ) → 65536 < n →
    ◌≡◌ {A = Evaluated} (record { number = 7; yes = false; count = count }) (evaluation_within n vs ls hs ds js count f word)
unfolding evaluation_within
evaluation-past n vs ls hs ds js count f word h = rw (lt-leb n 65536 h)

pub evaluation-first : (n : ℕ) (vs ls hs ds js : List ℕ) (count f word : ℕ) (r : Evaluated) → n ≤ 65536 → r
    ≡ evaluation (columns_made (take n vs) (take n ls) (take n hs) ds js) count f word → r ≡ evaluation_within n vs ls hs ds js count f word
unfolding evaluation_within
evaluation-first n vs ls hs ds js count f word r h told = rw (le-leb n 65536 h) told
