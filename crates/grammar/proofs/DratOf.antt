-- What the reader takes for the clauses of a DRAT text, to the end and with nothing refused, is printed by a text of the grammar. The idea:
-- each answer of the
-- reader is traced back to the bytes that it passed. Assumes nothing.
use mathlib.Core.Path.{◌≡◌, refl, ap, ap₂, sym, subst, ◌∙◌}
use mathlib.Core.Logic.{◌↔◌}
use mathlib.Core.Bool.{Bool, true, false, ◌&&◌}
use mathlib.Core.List.{List, [], ◌∷◌}
use Prim.Native.Nat.{ℕ, suc, ◌+◌, ◌-◌, ◌≤◌, ◌<◌}
use native.Mathlib.Omega.{arith}
use lib.ListN.{length, get_or, drop, drop_of_length-le}
use lib.Seq.{drop-cons}
use lib.Dec.{eqb, ltb}
use borrow.Author.Tests.{ltb-true, ltb-false, eqb-true}
use Rattle.meaning.specs.Operations as meaning
use Rattle.meaning.proofs.Booleans.{and_both}
use Rattle.dimacs.specs.Text.{is_token, token_end, between}
use Rattle.dimacs.specs.Header.{is_word}
use Rattle.dimacs.specs.Clauses.{Next, closed, ended, refused, clause_from}
use Rattle.dimacs.proofs.Cases.{clash}
use Rattle.commands.specs.declared.Form.TheVariants.{Text}
use Rattle.commands.specs.Commands.{Command, recorded, added, struck_out, wrong, finished, Read, reading, clause_read, text_read}
use Rattle.commands.specs.Commands.{command_at}
use Rattle.grammar.specs.Parts.{comments, Piece, gap, Parting, parting}
use Rattle.grammar.specs.Formula.{clause, plain, last_comment, Within}
use Rattle.grammar.specs.DratText.{Entry, adds, strikes, entry, said, EntryWithin, Rest, end, entry_then, rest, rest_said, RestWithin}
use Rattle.grammar.specs.DratText.{opens, empty, comment_alone, Drat, IsClause, ReadsFrom}
use Rattle.grammar.specs.DratText.{ReadsDrat}
use Rattle.grammar.proofs.Places.{Stops, past-stops}
use Rattle.grammar.proofs.Gaps.{Between, parts, last, Line, lines, last_line, later, between-of, line-of-start}
use Rattle.grammar.proofs.ClausesOf.{not-closed, clause-starts, ClauseOf, some-gap, clause-of}
use Rattle.grammar.proofs.DratRead.{proof-read}

-- ---- answers that clash

abbrev IsFinished : Command → Type 0
IsFinished (recorded r more) = ⊥
IsFinished (added ls) = ⊥
IsFinished (struck_out ls) = ⊥
IsFinished (wrong number offset) = ⊥
IsFinished finished = Unit {0}

module _ (s : List ℕ) (n : ℕ) where
  -- ---- one command

  -- The bytes at a place are an entry of the grammar, which says the command; what follows it is at `next`, and no token's byte is there.
  record EntryOf (at : ℕ) (c : Command) : Type 0 where
    tree : Entry
    next : ℕ
    in_text : at < length s
    is : drop at s ≡ entry tree (drop next s)
    says : said tree ≡ c
    within : EntryWithin n tree
    onward : (command_at Text s n at).next ≡ between s next
    stops : Stops is_token (drop next s)

  abbrev At : ℕ → Read → Type 0
  At at y = command_at Text s n at ≡ y

  nothing-closed : (first at f next : ℕ) (ls : List meaning.Literal) {P : Type 0} → clause_from s n 0 first at ≡ closed ls f next → P
  unfolding clause_from
  nothing-closed first at f next ls e = not-closed 6 first f next ls e

  module _ (at : ℕ) (in_text : at < length s) where
    -- a clause that is added
    added_of : (x : Next) → clause_from s n (length s - at) at at ≡ x → At at (clause_read (between s) at added x)
        → (c : Command) → IsClause c → (command_at Text s n at).command ≡ c → EntryOf at c
    added_of (closed ls first next) e y c clause is =
        let C : ClauseOf s n at next ls = clause-of s n (length s - at) at at first next ls e in
        record {
          tree = adds C.items;
          next = next;
          in_text = in_text;
          is = C.is;
          says = ap added C.are ∙ sym (ap (λ (r : Read). r.command) y) ∙ is;
          within = subst (Within n) (sym C.are) C.within;
          onward = ap (λ (r : Read). r.next) y;
          stops = C.stops;
        }
    added_of ended e y c clause is = absurd (subst IsClause (sym is ∙ ap (λ (r : Read). r.command) y) clause)
    added_of (refused number place) e y c clause is = absurd (subst IsClause (sym is ∙ ap (λ (r : Read). r.command) y) clause)

    -- a clause that is struck out: the bytes before it are a `d` and what parts it from the clause
    module _ (d : is_word s at (100 ∷ []) ≡ true) where
      abbrev body : ℕ
      body = between s (at + 1)

      d-ends : (token_end s at ≡ at + 1) × (get_or s at 0 ≡ 100)
      unfolding is_word
      d-ends =
          let (a, b) = and_both (eqb (token_end s at) (at + 1)) (eqb (get_or s at 0) 100 && true) d in
          (eqb-true (token_end s at) (at + 1) a, eqb-true (get_or s at 0) 100 (and_both (eqb (get_or s at 0) 100) true b).0)

      d-there : drop at s ≡ 100 ∷ drop (at + 1) s
      d-there =
          let one : suc at ≡ at + 1 = omega arith in
          drop-cons s at 0 in_text ∙ ap₂ (λ (b : ℕ) (k : ℕ). b ∷ drop k s) d-ends.1 one

      d-stops : Stops is_token (drop (at + 1) s)
      d-stops = subst (λ (k : ℕ). Stops is_token (drop k s)) d-ends.0 (past-stops s at is_token)

      struck-of : (x : Next) → clause_from s n (length s - body) at body ≡ x → At at (clause_read (between s) at struck_out x)
          → (c : Command) → IsClause c → (command_at Text s n at).command ≡ c → EntryOf at c
      struck-of (closed ls first next) e y c clause is = go (between-of s (at + 1) d-stops)
        where
          C : ClauseOf s n body next ls
          C = clause-of s n (length s - body) at body first next ls e

          go : Between s (at + 1) → EntryOf at c
          go (parts g h) =
              let p = some-gap s n (at + 1) C.items (drop next s) d-stops C.is g h in
              record {
                tree = strikes p.0 C.items;
                next = next;
                in_text = in_text;
                is = d-there ∙ ap (λ (l : List ℕ). 100 ∷ l) p.1;
                says = ap struck_out C.are ∙ sym (ap (λ (r : Read). r.command) y) ∙ is;
                within = subst (Within n) (sym C.are) C.within;
                onward = ap (λ (r : Read). r.next) y;
                stops = C.stops;
              }
          go (last g cs k h none) =
              let nothing : length s - body ≡ 0 = omega arith in
              nothing-closed at body first next ls (sym (ap (λ (k : ℕ). clause_from s n k at body) nothing) ∙ e)
      struck-of ended e y c clause is = absurd (subst IsClause (sym is ∙ ap (λ (r : Read). r.command) y) clause)
      struck-of (refused number place) e y c clause is = absurd (subst IsClause (sym is ∙ ap (λ (r : Read). r.command) y) clause)

  -- A command that is a clause is an entry of the grammar.
  entry_of : (at : ℕ) (c : Command) → IsClause c → (command_at Text s n at).command ≡ c → EntryOf at c
  unfolding text_read
  entry_of at c clause is = go (ltb at (length s)) refl (is_word s at (100 ∷ [])) refl
    where
      striking : Read
      striking = clause_read (between s) at struck_out (clause_from s n (length s - between s (at + 1)) at (between s (at + 1)))

      adding : Read
      adding = clause_read (between s) at added (clause_from s n (length s - at) at at)

      go : (a : Bool) → ltb at (length s) ≡ a → (b : Bool) → is_word s at (100 ∷ []) ≡ b → EntryOf at c
      go false p b q =
          let y : command_at Text s n at ≡ reading finished at = rw p in
          absurd (subst IsClause (sym is ∙ ap (λ (r : Read). r.command) y) clause)
      go true p true q =
          let y : command_at Text s n at ≡ striking = rw (p, q) in
          struck-of at (ltb-true at (length s) p) q (clause_from s n (length s - between s (at + 1)) at (between s (at + 1))) refl y c
          clause
          is
      go true p false q =
          let y : command_at Text s n at ≡ adding = rw (p, q) in
          added_of at (ltb-true at (length s) p) (clause_from s n (length s - at) at at) refl y c clause is

  -- The end is where no byte is left.
  end_of : (at : ℕ) → (command_at Text s n at).command ≡ finished → length s ≤ at
  unfolding text_read
  end_of at is = go (ltb at (length s)) refl (is_word s at (100 ∷ [])) refl
    where
      not-clause : (command : List meaning.Literal → Command) → ((ls : List meaning.Literal) → IsFinished (command ls) → ⊥) → (x : Next)
          → IsFinished (clause_read (between s) at command x).command → length s ≤ at
      not-clause command other (closed ls first next) f = absurd (other ls f)
      not-clause command other ended f = absurd f
      not-clause command other (refused number place) f = absurd f

      go : (a : Bool) → ltb at (length s) ≡ a → (b : Bool) → is_word s at (100 ∷ []) ≡ b → length s ≤ at
      go false p b q = ltb-false at (length s) p
      go true p true q =
          let x : Next = clause_from s n (length s - between s (at + 1)) at (between s (at + 1)) in
          let y : command_at Text s n at ≡ clause_read (between s) at struck_out x = rw (p, q) in
          not-clause struck_out (λ ls f. f) x (subst IsFinished (sym is ∙ ap (λ (r : Read). r.command) y) tt)
      go true p false q =
          let x : Next = clause_from s n (length s - at) at at in
          let y : command_at Text s n at ≡ clause_read (between s) at added x = rw (p, q) in
          not-clause added (λ ls f. f) x (subst IsFinished (sym is ∙ ap (λ (r : Read). r.command) y) tt)

  -- ---- the text

  -- An entry starts with a token, so that what parts it from the one before is not empty.
  entry-starts : (x : Entry) (r : List ℕ) → Stops is_token (entry x r) → ⊥
  entry-starts (adds is) r h = clause-starts is r h
  entry-starts (strikes p is) r h = clash h

  entry-gap : (at : ℕ) (x : Entry) (r : List ℕ) → Stops is_token (drop at s) → drop (between s at) s ≡ entry x r
      → (g : List Piece) → drop at s ≡ gap g (drop (between s at) s) → (p : Parting) × (drop at s ≡ parting p (entry x r))
  entry-gap at x r h e [] q = absurd (entry-starts x r (subst (Stops is_token) (q ∙ e) h))
  entry-gap at x r h e (p ∷ g) q = (record { first = p; more = g }, q ∙ ap (gap (p ∷ g)) e)

  record RestOf (at : ℕ) (cs : List Command) : Type 0 where
    tree : Rest
    is : drop at s ≡ rest tree
    says : rest_said tree ≡ cs
    within : RestWithin n tree

  rest-ends : (at : ℕ) → length s ≤ between s at → Between s at → RestOf at []
  rest-ends at h (parts g e) = record { tree = end (plain g); is = e ∙ ap (gap g) (drop_of_length-le s h); says = refl; within = tt }
  rest-ends at h (last g cs c e none) = record { tree = end (last_comment g cs c); is = e; says = refl; within = tt }

  rest_goes : (at : ℕ) (c : Command) (cs : List Command) → Stops is_token (drop at s) → (E : EntryOf (between s at) c) → RestOf E.next cs
      → Between s at → RestOf at (c ∷ cs)
  rest_goes at c cs h E B (last g ks k e none) = absurd (omega (arith, E.in_text))
  rest_goes at c cs h E B (parts g e) =
      let p = entry-gap at E.tree (drop E.next s) h E.is g e in
      record {
        tree = entry_then p.0 E.tree B.tree;
        is = p.1 ∙ ap (λ (r : List ℕ). parting p.0 (entry E.tree r)) B.is;
        says = ap₂ (λ (x : Command) (y : List Command). x ∷ y) E.says B.says;
        within = (E.within, B.within);
      }

  rest_of : (cs : List Command) (at : ℕ) → Stops is_token (drop at s) → ReadsFrom s n (between s at) cs → RestOf at cs
  rest_of [] at h R = rest-ends at (end_of (between s at) R) (between-of s at h)
  rest_of (c ∷ cs) at h R =
      let E : EntryOf (between s at) c = entry_of (between s at) c R.0 R.1 in
      let more : ReadsFrom s n (between s E.next) cs = subst (λ (k : ℕ). ReadsFrom s n k cs) E.onward R.2 in
      rest_goes at c cs h E (rest_of cs E.next E.stops more) (between-of s at h)

  -- from the text's start on
  starts-empty : length s ≤ between s 0 → Line s 0 → Drat s n []
  starts-empty h (lines ks g e) =
      record {
        tree = empty ks (plain g);
        is = e ∙ ap (λ (x : List ℕ). comments ks (gap g x)) (drop_of_length-le s h);
        are = refl;
        within =
            tt;
      }
  starts-empty h (last_line ks c e none) = record { tree = comment_alone ks c; is = e; are = refl; within = tt }
  starts-empty h (later ks g cs c e none) = record { tree = empty ks (last_comment g cs c); is = e; are = refl; within = tt }

  starts_with : (c : Command) (cs : List Command) (E : EntryOf (between s 0) c) → RestOf E.next cs → Line s 0 → Drat s n (c ∷ cs)
  starts_with c cs E B (lines ks g e) = record {
    tree = opens ks g E.tree B.tree;
    is = e ∙ ap (λ (x : List ℕ). comments ks (gap g x)) (E.is ∙ ap (entry E.tree) B.is);
    are = ap₂ (λ (x : Command) (y : List Command). x ∷ y) E.says B.says;
    within = (E.within, B.within);
  }
  starts_with c cs E B (last_line ks k e none) = absurd (omega (arith, E.in_text))
  starts_with c cs E B (later ks g ds k e none) = absurd (omega (arith, E.in_text))

  proof-of : (cs : List Command) → ReadsDrat s n cs → Drat s n cs
  proof-of [] R = starts-empty (end_of (between s 0) R) (line-of-start s 0)
  proof-of (c ∷ cs) R =
      let E : EntryOf (between s 0) c = entry_of (between s 0) c R.0 R.1 in
      let more : ReadsFrom s n (between s E.next) cs = subst (λ (k : ℕ). ReadsFrom s n k cs) E.onward R.2 in
      starts_with c cs E (rest_of cs E.next E.stops more) (line-of-start s 0)

-- THEOREM: a text is read as the commands cs, with nothing refused, exactly where it is a text of the grammar that says them.
pub drat-exactly : (s : List ℕ) (n : ℕ) (cs : List Command) → ReadsDrat s n cs ↔ Drat s n cs
drat-exactly s n cs = (proof-of s n cs, λ D. subst (ReadsDrat s n) D.are (proof-read s n D.tree D.is D.within))

-- ---- a text says one proof

same-reading : (s : List ℕ) (n at : ℕ) (cs ds : List Command) → ReadsFrom s n at cs → ReadsFrom s n at ds → cs ≡ ds
same-reading s n at [] [] R S = refl
same-reading s n at [] (d ∷ ds) R S = absurd (subst IsClause (sym S.1 ∙ R) S.0)
same-reading s n at (c ∷ cs) [] R S = absurd (subst IsClause (sym R.1 ∙ S) R.0)
same-reading s n at (c ∷ cs) (d ∷ ds) R S =
    ap₂ (λ (x : Command) (y : List Command). x ∷ y) (sym R.1 ∙ S.1) (same-reading s n (command_at Text s n at).next cs ds R.2 S.2)

pub drat-unambiguous : (s : List ℕ) (n : ℕ) (cs ds : List Command) → Drat s n cs → Drat s n ds → cs ≡ ds
drat-unambiguous s n cs ds C D = same-reading s n (between s 0) cs ds ((drat-exactly s n cs).1 C) ((drat-exactly s n ds).1 D)
