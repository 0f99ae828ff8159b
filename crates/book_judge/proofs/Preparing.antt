-- The own table made again gives what the call goes on with. Assumes nothing.
use mathlib.Core.Path.{◌≡◌, refl, sym, ap, ap₂, ◌∙◌, subst}
use mathlib.Core.Bool.{Bool, true, false}
use mathlib.Core.List.{List, [], ◌∷◌, ◌++◌, map}
use Prim.Native.Nat.{ℕ, zero, suc, ◌+◌, ◌-◌, ◌≤◌}
use native.Mathlib.Omega.{arith}
use lib.ListN.{length, get_or, take}
use lib.Seq.{length-take-le}
use Rattle.table.specs.Nodes.{Node}
use Rattle.table.specs.Lists.{room}
use Rattle.table.specs.Making.{placed_all}
use Rattle.table.specs.Indexed.{Table, size, nodes_of, lists_of, Good}
use Rattle.table.proofs.Written.{length-nodes, good-ordered, good-indexed, nodes-indexed}
use Rattle.table.proofs.Zeros.{zeros-at}
use Rattle.walks.specs.Readable.{nodes_in}
use Rattle.walks.proofs.Here.{good-readable}
use Rattle.verdict.specs.Steps.{emptied}
use Rattle.verdict.specs.Check.{zeros}
use Rattle.verdict.proofs.Clauses.{emptied-ordered}
use Rattle.state.specs.States.{Lent, table_in}
use Rattle.shares.specs.declared.Book.{Book}
use Rattle.shares.specs.Shares.{diagram_in, alone}
use Rattle.shares.specs.Alone.{places}
use Rattle.shares.specs.Books.{Holding, BookLists, BookOutcome, padded, members_in, holding, charged, book_leaves}
use Rattle.shares.proofs.Desks.{padded-length}
use Rattle.alone.specs.Copies.{Copyable, Adopts, FoundAll, FoundBy}
use Rattle.book_parts.proofs.Lasting.{found-members}
use Rattle.book_line.specs.declared.Said.{Said}
use Rattle.book_line.specs.Says.{said_outcome, unfit_said, Remade, Prepared}
use Rattle.book_line.proofs.Tests.{Tested, holding-tested}

-- ---- lists with zeros above

take-front : (xs ys : List ℕ) → take (length xs) (xs ++ ys) ≡ xs
take-front [] ys = refl
take-front (x ∷ xs) ys = ap (◌∷◌ x) (take-front xs ys)

zero-behind : (xs : List ℕ) (n i : ℕ) → length xs ≤ i → ◌≡◌ {A = ℕ} (get_or (xs ++ zeros n) i 0) 0
zero-behind [] n i p = zeros-at n i
zero-behind (x ∷ xs) n zero p = absurd (omega arith)
zero-behind (x ∷ xs) n (suc i) p = zero-behind xs n i (omega arith)

module _ (T : Table) (l : BookLists) (b : Book) (lent : Lent) (known : List ℕ) (P : Prepared T l b lent known) where
  abbrev h : Holding
  h = holding b l

  abbrev m : ℕ
  m = b.clauses + b.lines

  pub passed : Tested (size T) b
  passed = (holding-tested (size T) (length (nodes_of T)) h P.fits).0

  pub few : m ≤ 2048
  few = omega (arith, passed.clauses, passed.lines)

  pub copyable : Copyable T.vars T.lows T.highs T.count (table_in lent 2) known
  copyable = record {
    readable = good-readable T P.good;
    good = subst Good (sym P.opened) (good-indexed (places b) emptied emptied-ordered (omega arith)
        (omega (arith, passed.places-in, P.good.most)));
    room = P.known-room;
    right = λ i ne. absurd (ne (ap (λ (xs : List ℕ). get_or xs i 0) P.known-none ∙ zeros-at (length known) i));
  }

  members-long : length (take m l.members) ≡ m
  members-long = length-take-le m l.members (omega (arith, few, P.members))

  marks-long : length (take m l.struck) ≡ m
  marks-long = length-take-le m l.struck (omega (arith, few, P.members, P.struck))

  -- ---- the own table

  module _ (full : Bool) (after : Table) (known' : List ℕ)
      (A : Adopts (nodes_in T.vars T.lows T.highs T.count) (table_in lent 2) (h.own ++ h.members) full after known') where
    own_is : alone (places b) (nodes_of T) (h.own ++ h.members) ≡ room full (nodes_of after)
    unfolding nodes_of alone
    own_is =
        ap₂ (λ (s : ℕ) (u : List Node). placed_all s u (map (diagram_in (nodes_of T)) (h.own ++ h.members))) (sym P.sized)
        (sym (ap nodes_of P.opened ∙ nodes-indexed (places b) emptied)) ∙ A.made

    pub short-is : full ≡ true → (bytes scratch : List ℕ) (r : Said) → r ≡ unfit_said T.count b
        → said_outcome (lists_of T) l scratch r ≡ book_leaves (lists_of T) T.count l scratch b
        (charged 64 (size T) (nodes_of T) h bytes (alone (places b) (nodes_of T) (h.own ++ h.members)))
    short-is e bytes scratch r er =
        ap (said_outcome (lists_of T) l scratch) er
        ∙ sym (ap (λ x. book_leaves (lists_of T) T.count l scratch b (charged 64 (size T) (nodes_of T) h bytes x))
        (own_is ∙ ap (λ (f : Bool). room f (nodes_of after)) e))

    pub all-is : full ≡ false → (bytes scratch : List ℕ) (o : BookOutcome)
        → o ≡ book_leaves (lists_of T) T.count l scratch b (charged 64 (size T) (nodes_of T) h bytes (room false (nodes_of after)))
        → o ≡ book_leaves (lists_of T) T.count l scratch b
        (charged 64 (size T) (nodes_of T) h bytes (alone (places b) (nodes_of T) (h.own ++ h.members)))
    all-is e bytes scratch o q =
        q ∙ sym (ap (λ x. book_leaves (lists_of T) T.count l scratch b (charged 64 (size T) (nodes_of T) h bytes x))
        (own_is ∙ ap (λ (f : Bool). room f (nodes_of after)) e))

    module _ (e : full ≡ false) (found' strikes' : List ℕ)
        (F : FoundBy full (nodes_in T.vars T.lows T.highs T.count) (nodes_of after) h.members lent.members found')
        (long : length found' ≡ length lent.members)
        (S : strikes' ≡ padded (take m l.struck) (length lent.struck)) where
      all_found : FoundAll (nodes_of T) (nodes_of after) h.members (length h.members) lent.members found'
      unfolding nodes_of
      all_found = subst (λ (f : Bool). FoundBy f (nodes_of T) (nodes_of after) h.members lent.members found') e F

      abbrev pub left : Lent
      left = record {
        vars = after.vars;
        lows = after.lows;
        highs = after.highs;
        heads = after.heads;
        links = after.links;
        members = found';
        scratch = lent.scratch;
        struck = strikes';
      }

      strikes-long : length strikes' ≡ length lent.struck
      strikes-long = ap length S ∙ padded-length (take m l.struck) (length lent.struck)
          (omega (arith, marks-long, few, P.room, P.marked))

      pub remade : Remade T l b left after.count
      remade = record {
        good = P.good;
        fits = P.fits;
        made = own_is ∙ ap (λ (f : Bool). room f (nodes_of after)) e;
        sized = A.same_size ∙ P.sized;
        own-good = A.good;
        own = P.own;
        members = P.members;
        struck = P.struck;
        scratch = P.scratch;
        found = subst (λ (k : ℕ). take k found' ≡ members_in (places b) (nodes_of T) (nodes_of after) h.members) members-long
            (found-members (places b) (nodes_of T) (nodes_of after) (good-ordered after A.good) h.members lent.members found'
            (omega (arith, members-long, few, P.room, long)) all_found);
        inside = λ i p. omega (arith, all_found.inside i (omega (arith, p, members-long)), length-nodes after A.good);
        rest = λ i p. all_found.rest i (omega (arith, p, members-long)) ∙ ap (λ (xs : List ℕ). get_or xs i 0) P.none_found
            ∙ zeros-at (length lent.members) i;
        marks = ap (take m) S ∙ subst (λ (k : ℕ). take k (padded (take m l.struck) (length lent.struck)) ≡ take m l.struck)
            marks-long (take-front (take m l.struck) (zeros (length lent.struck - length (take m l.struck))));
        room = omega (arith, P.room, long);
        marked = strikes-long ∙ P.marked ∙ sym long;
        unmarked = λ i p. ap (λ (xs : List ℕ). get_or xs i 0) S ∙ zero-behind (take m l.struck)
            (length lent.struck - length (take m l.struck)) i (omega (arith, p, marks-long));
      }
