-- What a call over a slice of nodes works on: the nodes, and three local arrays of 65,536 places whose first places hold the columns.
-- Assumes nothing.
use mathlib.Core.Path.{◌≡◌, ◌∙◌}
use Prim.Native.Nat.{ℕ, ◌≤◌}
use native.Mathlib.Omega.{arith}
use mathlib.Core.List.{List}
use lib.ListN.{length}
use lib.Dec.{lit<}
use base.Fraction.{full_share}
use base.Fml.{Fml, Share, fsep}
use denote.Builtin.{u8, u16}
use denote.Slice.{Room}
use denote.Index.{row}
use Rattle.columns.specs.declared.Node.{Node}
use Rattle.columns.proofs.Lists.{var_of, low_of, high_of, column, column-length, slice, slice-length}
use Rattle.columns.specs.contracts.Node as N

-- where the nodes and the arrays lie, and the nodes
pub record Spot : Type 0 where
  pub bN : ℕ
  pub oN : ℕ
  pub bV : ℕ
  pub bL : ℕ
  pub bH : ℕ
  pub ys : List Node
  pub room : Room N.the_row (length ys)

-- what the arrays hold
pub record Filled : Type 0 where
  pub vs : List ℕ
  pub ls : List ℕ
  pub hs : List ℕ
  pub eV : length vs ≡ 65536
  pub eL : length ls ≡ 65536
  pub eH : length hs ≡ 65536

-- m of a slice's n places have room in the arrays: all of them, where there are no more than 65,536
abbrev pub Cut : ℕ → ℕ → Type 0
Cut n m = (m ≤ n) × (m ≤ 65536) × (n ≤ 65536 → n ≤ m)

-- the arrays once m nodes are loaded
abbrev pub loaded : (ys : List Node) → Filled → (m : ℕ) → Cut (length ys) m → Filled
loaded ys cs m cut = record {
  vs = column var_of ys cs.vs m;
  ls = column low_of ys cs.ls m;
  hs = column high_of ys cs.hs m;
  eV = column-length var_of ys cs.vs m cut.0 (omega (arith, cut.1, cs.eV)) ∙ cs.eV;
  eL = column-length low_of ys cs.ls m cut.0 (omega (arith, cut.1, cs.eL)) ∙ cs.eL;
  eH = column-length high_of ys cs.hs m cut.0 (omega (arith, cut.1, cs.eH)) ∙ cs.eH;
}

-- the nodes once m places are written back
abbrev pub written : List Node → Filled → ℕ → List Node
written ys cs m = slice cs.vs cs.ls cs.hs ys m

pub written-length : (ys : List Node) (cs : Filled) (m : ℕ) → Cut (length ys) m → length (written ys cs m) ≡ length ys
written-length ys cs m cut = slice-length cs.vs cs.ls cs.hs ys m (omega (arith, cut.1, cs.eV)) (omega (arith, cut.1, cs.eL))
    (omega (arith, cut.1, cs.eH)) cut.0

-- the arrays in memory
abbrev pub Columns : Spot → List ℕ → List ℕ → List ℕ → Fml
Columns sp vs ls hs = fsep (row u8 full_share vs sp.bV 0) (fsep (row u16 full_share ls sp.bL 0) (row u16 full_share hs sp.bH 0))

-- a share of the nodes, and the arrays
abbrev pub Table : Share → Spot → List Node → List ℕ → List ℕ → List ℕ → Fml
Table q sp ys vs ls hs = fsep (row N.the_row q ys sp.bN sp.oN) (Columns sp vs ls hs)

pub room8 : Room u8 65536
room8 = (lit< tt, lit< tt)

pub room16 : Room u16 65536
room16 = (lit< tt, lit< tt)
