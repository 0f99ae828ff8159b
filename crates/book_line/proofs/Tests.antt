-- What the tests of a later call give, and the making again of the book's own table. Assumes nothing.
use mathlib.Core.Path.{◌≡◌, refl, sym, ap, ◌∙◌, subst}
use mathlib.Core.Bool.{true, ◌&&◌}
use mathlib.Core.List.{List, [], ◌∷◌, ◌++◌, map}
use Prim.Native.Nat.{ℕ, suc, ◌+◌, ◌-◌, ◌≤◌}
use native.Mathlib.Omega.{arith}
use lib.ListN.{length, take}
use lib.Seq.{length-take-le}
use lib.Dec.{leb}
use borrow.Author.Tests.{leb-true}
use Rattle.meaning.proofs.Booleans.{and_both}
use Rattle.table.specs.Lists.{Inside}
use Rattle.table.specs.Indexed.{Table, size, nodes_of}
use Rattle.table.proofs.Order.{Ordered}
use Rattle.table.proofs.Written.{good-ordered}
use Rattle.verdict.specs.Steps as check
use Rattle.state.specs.declared.State.{State}
use Rattle.state.specs.States.{Lent, Held}
use Rattle.shares.specs.declared.Book.{Book}
use Rattle.shares.specs.Alone.{Alone, places}
use Rattle.shares.specs.Books.{Holding, BookLists, all_less, numbers_fit, holding_fits, holding, alone_of}
use Rattle.shares.proofs.Sane.{Below}
use Rattle.shares.proofs.Rooms.{own_in}
use Rattle.book_parts.proofs.Adding.{Fit}
use Rattle.book_line.specs.Says.{LineReady, own_nodes}

pub record Tested (size : ℕ) (b : Book) : Type 0 where
  pub places-in : places b ≤ size
  pub variables : b.variables ≤ 64
  pub clauses : b.clauses ≤ 1024
  pub lines : b.lines ≤ 1024
  pub rounds : b.rounds ≤ 268435456
  pub charge : b.charge ≤ b.share
  pub peak : b.peak ≤ b.share

numbers-tested : (size : ℕ) (b : Book) → numbers_fit size b ≡ true → Tested size b
unfolding numbers_fit
numbers-tested size b e =
    let w = and_both (leb (places b) size && (leb b.variables 64 && leb b.clauses 1024))
    ((leb b.lines 1024 && leb b.rounds 268435456) && (leb b.charge b.share && leb b.peak b.share)) e in
    let x = and_both (leb (places b) size) (leb b.variables 64 && leb b.clauses 1024) w.0 in
    let y = and_both (leb b.variables 64) (leb b.clauses 1024) x.1 in
    let z = and_both (leb b.lines 1024 && leb b.rounds 268435456) (leb b.charge b.share && leb b.peak b.share) w.1 in
    let u = and_both (leb b.lines 1024) (leb b.rounds 268435456) z.0 in
    let v = and_both (leb b.charge b.share) (leb b.peak b.share) z.1 in
    record {
      places-in = leb-true (places b) size x.0;
      variables = leb-true b.variables 64 y.0;
      clauses = leb-true b.clauses 1024 y.1;
      lines = leb-true b.lines 1024 u.0;
      rounds = leb-true b.rounds 268435456 u.1;
      charge = leb-true b.charge b.share v.0;
      peak = leb-true b.peak b.share v.1;
    }

pub holding-tested : (size count : ℕ) (h : Holding) → holding_fits size count h ≡ true → Tested size h.book
    × (all_less 2 h.struck ≡ true)
unfolding holding_fits
holding-tested size count h e =
    let w = and_both (numbers_fit size h.book) (all_less count h.members && all_less 2 h.struck) e in
    (numbers-tested size h.book w.0, (and_both (all_less count h.members) (all_less 2 h.struck) w.1).1)

inside-below : (b : ℕ) (ks : List ℕ) → Inside b ks → Below b ks
inside-below b [] I = tt
inside-below b (k ∷ ks) I = (I 0 (omega arith), inside-below b ks (λ i p. I (suc i) (omega arith)))

length-map : {A B : Type 0} (f : A → B) (xs : List A) → length (map f xs) ≡ length xs
length-map f [] = refl
length-map f (x ∷ xs) = ap suc (length-map f xs)

module _ (T : Table) (l : BookLists) (b : Book) (lent : Lent) (first : State) (R : LineReady T l b lent first) (H : Held 64 lent first)
  where
    abbrev pub kept_for : Holding
    kept_for = holding b l

    abbrev pub book-alone : Alone
    book-alone = alone_of (nodes_of T) kept_for (own_nodes lent first)

    pub tested : Tested (size T) b × (all_less 2 kept_for.struck ≡ true)
    tested = holding-tested (size T) (length (nodes_of T)) kept_for R.fits

    pub few : first.members ≤ 2048
    few = omega (arith, R.many, tested.0.clauses, tested.0.lines)

    long : length book-alone.members ≡ first.members
    long = length-map _ kept_for.members ∙ length-take-le (b.clauses + b.lines) l.members (omega (arith, few, R.many, R.members))
        ∙ sym R.many

    marks-long : length book-alone.struck ≡ first.members
    marks-long = length-take-le (b.clauses + b.lines) l.struck (omega (arith, few, R.many, R.members, R.struck)) ∙ sym R.many

    two : 2 ≤ places b
    two = omega arith

    pub owned : Ordered (own_nodes lent first) × (length (own_nodes lent first) ≤ places b)
    owned =
        let w = own_in (nodes_of T) (good-ordered T R.good) (places b) two (kept_for.own ++ kept_for.members) (own_nodes lent first)
        R.made in
        (w.0, w.2)

    members-inside : Below (length (own_nodes lent first)) book-alone.members
    members-inside =
        let e : take first.members lent.members ≡ book-alone.members = ap (λ (s : check.State). s.members) R.begun in
        let k : first.kept ≡ length (own_nodes lent first) = ap (λ (s : check.State). s.kept) R.begun in
        subst (λ (n : ℕ). Below n book-alone.members) k
        (subst (Below first.kept) e (inside-below first.kept (take first.members lent.members) H.inside))

    pub fit : Fit book-alone
    fit = record {
      ordered = owned.0;
      room = owned.1;
      inside = members-inside;
      marked = marks-long ∙ sym long;
      marks = tested.1;
      counted = long ∙ R.many;
      clauses = tested.0.clauses;
      lines = tested.0.lines;
      peak = tested.0.peak;
    }
