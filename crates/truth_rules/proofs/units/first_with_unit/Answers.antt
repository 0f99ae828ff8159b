-- `first_with_unit`: the first word that has units. Assumes nothing.
use Rattle.std.proofs.Common.{◌∙◌, sym, ap, rules, tests}
use Rattle.std.proofs.lemmas.Iterator.{YieldsList-from_slice}
use Rattle.std.proofs.lemmas.Iterator.Consumers.{YieldsList-from_copied}
use Rattle.std.proofs.lemmas.Iterator.Adapters.{option_map_id}
use Rattle.std.proofs.lemmas.Iterator.Search.{find_from_yields_List}
use Rattle.meaning.specs.Rules.{has_unit}
use Rattle.truth.specs.Tables.{diagram_of}
use Rattle.truth_rules.specs.Lists.{taken_of}
use Rattle.truth_rules.proofs.UnitWords.{first_found}
use Rattle.truth_rules.proofs.units.first_with_unit.Goals as goal

pub returns : goal.returns
returns c =
    let xs = c.args.list.now in
    let found = find_from_yields_List (λ w. has_unit 6 6 (diagram_of w)) _ _ c.find.result c.find.ensures.ran
    (YieldsList-from_copied (YieldsList-from_slice xs cc)) (λ x b q k. search (rules, tests)) in
    ap taken_of (sym (option_map_id c.find.result) ∙ found) ∙ first_found xs
