-- What calls of two books over the nodes of a shared table say and leave, call after call.
use Rattle.std.specs.Prelude.{List, [], ◌∷◌, ℕ}
use Rattle.table.specs.Nodes.{Node}
use Rattle.verdict.specs.Steps.{emptied}
use Rattle.shares.specs.Alone.{Answer, opened_book}
use Rattle.shares.specs.Books.{Holding, book_call}
use Rattle.shares.specs.Turns.{Turn, ofA, ofB}

pub record Two : Type 0 where
  pub nodes : List Node
  pub a : Holding
  pub b : Holding

abbrev pub opened_holding : ℕ → Holding
opened_holding share = record { book = opened_book share; members = []; struck = []; own = [] }

abbrev pub opened : ℕ → ℕ → Two
opened share_a share_b = record { nodes = emptied; a = opened_holding share_a; b = opened_holding share_b }

pub record Said : Type 0 where
  pub answer : Answer
  pub nodes : List Node
  pub members_a : List ℕ
  pub struck_a : List ℕ
  pub members_b : List ℕ
  pub struck_b : List ℕ

abbrev pub say : ℕ → ℕ → ℕ → ℕ → ℕ → Answer
say a b c d e = record { number = a; place = b; lines = c; rounds = d; peak = e }

abbrev pub said : Answer → List Node → List ℕ → List ℕ → List ℕ → List ℕ → Said
said x t a b c d = record { answer = x; nodes = t; members_a = a; struck_a = b; members_b = c; struck_b = d }

abbrev pub saying : Answer → Two → Said
saying x y = said x y.nodes y.a.members y.a.struck y.b.members y.b.struck

unfoldable pub session : ℕ → ℕ → Two → List Turn → List Said
unfolding book_call
session w size x [] = []
session w size x (ofA bytes ∷ rest) =
    let c = book_call w size x.nodes x.a bytes in
    let y : Two = record { nodes = c.nodes; a = c.held; b = x.b } in saying c.answer y ∷ session w size y rest
session w size x (ofB bytes ∷ rest) =
    let c = book_call w size x.nodes x.b bytes in
    let y : Two = record { nodes = c.nodes; a = x.a; b = c.held } in saying c.answer y ∷ session w size y rest
