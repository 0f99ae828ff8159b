-- What the inner call's definition says of the first n places of an array. Assumes nothing.
use mathlib.Core.Path.{◌≡◌}
use mathlib.Core.Bool.{false}
use Prim.Native.Nat.{ℕ, ◌≤◌, ◌<◌}
use mathlib.Core.List.{List, ◌++◌}
use lib.ListN.{length, take, drop}
use borrow.Author.Tests.{le-leb, lt-leb}
use Rattle.table.specs.Columns.{columns_made}
use Rattle.commands.specs.declared.Mode.{Mode}
use Rattle.verdict.specs.Check.{check}
use Rattle.session.specs.declared.Checked.{Checked}
use Rattle.session.specs.Checked.{check_outcome}
use Rattle.columns.proofs.First.{first-written, first-all}
use Rattle.node_check.specs.Within.{check_within}

pub check-past : (mode : Mode) (n : ℕ) (vs ls hs ds js : List ℕ) (count : ℕ) (ms ks ss formula proof : List ℕ) → 65536 < n → length vs
    ≡ 65536 → length ls ≡ 65536 → length hs ≡ 65536
    → check_outcome (columns_made (take n vs) (take n ls) (take n hs) ds js) ms ks ss
    (record { number = 7; in_proof = false; place = 0; lines = 0; rounds = 0; count = count; peak = 0 })
    ≡ check_within mode n vs ls hs ds js count ms ks ss formula proof
unfolding check_within
check-past mode n vs ls hs ds js count ms ks ss formula proof h a b c =
    rw (first-all n vs h a, first-all n ls h b, first-all n hs h c, lt-leb n 65536 h)

pub check-first : (mode : Mode) (n : ℕ) (vs ls hs ds js a b c d j : List ℕ) (count : ℕ) (ms ks ss formula proof ms' ks' ss' : List ℕ)
    (r : Checked) → n ≤ 65536 → (length vs ≡ 65536) × (length ls ≡ 65536) × (length hs ≡ 65536)
    → length a ≡ length (take n vs) → length b ≡ length (take n ls) → length c ≡ length (take n hs) →
    check_outcome (columns_made a b c d j) ms' ks' ss' r ≡ check mode (columns_made (take n vs) (take n ls) (take n hs) ds js) count ms ks
    ss formula proof
    → check_outcome (columns_made (take n (a ++ drop n vs)) (take n (b ++ drop n ls)) (take n (c ++ drop n hs)) d j) ms' ks' ss' r
    ≡ check_within mode n vs ls hs ds js count ms ks ss formula proof
unfolding check_within
check-first mode n vs ls hs ds js a b c d j count ms ks ss formula proof ms' ks' ss' r h e ea eb ec told =
    rw (first-written n vs a h e.0 ea, first-written n ls b h e.1 eb, first-written n hs c h e.2 ec, le-leb n 65536 h) told
