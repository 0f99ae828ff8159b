-- `second` goes by the operation's kind. Assumes nothing.
use mathlib.Core.Path.{refl}
use Rattle.operate.specs.declared.Operation.TheVariants.{Conjunction, Negation, Cofactor, Literals}
use Rattle.nodes.specs.Second.{second_of}
use Rattle.nodes.proofs.First.{kind-second}
use Rattle.nodes.proofs.within.second.Goals as goal

pub returns-in-Conjunction : goal.returns-in-Conjunction
unfolding second_of
returns-in-Conjunction c = kind-second _ Conjunction _ _ c.in-Conjunction.is refl tt

pub returns-in-Negation : goal.returns-in-Negation
unfolding second_of
returns-in-Negation c = kind-second _ Negation _ _ c.in-Negation.is refl refl

pub returns-in-Cofactor : goal.returns-in-Cofactor
unfolding second_of
returns-in-Cofactor c = kind-second _ Cofactor _ _ c.in-Cofactor.is refl tt

pub returns-in-Literals : goal.returns-in-Literals
unfolding second_of
returns-in-Literals c = kind-second _ (Literals _ _) _ _ c.in-Literals.is refl refl
