-- The sessions, the limits and the openings by computation from the definitions that the contracts cite. Assumes nothing.
use mathlib.Core.Path.{◌≡◌, refl}
use native.Mathlib.Decide.{ℕ_discrete}
use Rattle.meaning.specs.Diagram.{diagram_from, same?, value_from}
use Rattle.meaning.specs.Operations.{clause}
use Rattle.meaning.specs.Rules.{rup, pr, witnessed}
use Rattle.meaning.specs.Sets.{parity}
use Rattle.meaning.specs.Words.{in_word}
use Rattle.paths.specs.Paths.{path_line, path_count}
use Rattle.table.specs.Nodes.{place, put, above, diagram_at}
use Rattle.table.specs.Columns.{size_fits}
use Rattle.table.specs.Making.{placed_all}
use Rattle.dimacs.specs.Header.{header}
use Rattle.dimacs.specs.Clauses.{clauses_from}
use Rattle.records.specs.Records.{record_at}
use Rattle.verdict.specs.Steps.{record_step}
use Rattle.verdict.specs.Check.{verdict, lent_fits}
use Rattle.shares.specs.Shares.{diagram_in, alone, number_in, sharing}
use Rattle.shares.specs.Alone.{alone_call, line_call, book_step}
use Rattle.shares.specs.Books.{book_call, book_fits, open_outcome}
use Rattle.shares.specs.Sessions.{session}
use Rattle.share_rows.specs.SessionRows.{PlaysAll, sessions, Limits, limits, opening_number}

pub sessions-play : PlaysAll sessions
unfolding session header record_at clauses_from verdict same? ℕ_discrete diagram_from value_from book_call alone_call line_call book_step
    record_step
    alone sharing diagram_in number_in placed_all place put diagram_at rup pr witnessed in_word parity clause above path_line path_count
sessions-play = ((refl, refl), ((refl, refl), ((refl, refl), ((refl, refl), ((refl, refl), ((refl, refl), ((refl, refl), ((refl, refl), ((refl, refl), ((refl, refl), ((refl, refl), ((refl, refl), tt))))))))))))

pub at-limits : Limits limits
unfolding record_at same? ℕ_discrete diagram_from value_from book_call alone_call line_call book_step record_step alone sharing diagram_in
    number_in
    placed_all place put diagram_at above
at-limits = (refl, (refl, (refl, (refl, (refl, (refl, (refl, (refl, (refl, (refl, (refl, (refl, (refl, (refl, (refl, (refl, (refl, (refl, (refl, (refl, tt))))))))))))))))))))

-- "the shares' sum plus 2 is at most the size": 35, else 32, after 7.
pub openings : (opening_number 4096 3 3 ≡ 35) × (opening_number 4096 3 4 ≡ 32) × (opening_number 4095 3 4 ≡ 7)
unfolding open_outcome book_fits lent_fits size_fits
openings = (refl, refl, refl)
