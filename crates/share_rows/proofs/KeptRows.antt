-- The calls as they are linked by computation, with every field of what is kept. Assumes nothing.
use mathlib.Core.Path.{refl}
use native.Mathlib.Decide.{ℕ_discrete}
use Rattle.meaning.specs.Diagram.{diagram_from, same?, value_from}
use Rattle.meaning.specs.Operations.{clause}
use Rattle.meaning.specs.Rules.{rup}
use Rattle.meaning.specs.Words.{in_word}
use Rattle.table.specs.Nodes.{place, put, above, diagram_at}
use Rattle.table.specs.Index.{good_order, bucket}
use Rattle.table.specs.Columns.{rows, size_fits, stored_as}
use Rattle.table.specs.Making.{placed_all}
use Rattle.dimacs.specs.Header.{header}
use Rattle.dimacs.specs.Clauses.{clauses_from}
use Rattle.records.specs.Records.{record_at}
use Rattle.verdict.specs.Steps.{record_step}
use Rattle.verdict.specs.Check.{verdict, lent_fits}
use Rattle.shares.specs.Shares.{diagram_in, alone, number_in, sharing}
use Rattle.shares.specs.Alone.{alone_call, line_call, book_step}
use Rattle.shares.specs.Books.{book_call, book_fits, book_outcome_at, open_outcome}
use Rattle.share_rows.specs.KeptRows.{Rows, causes, disorders, orders, bytes_kept, line_row, LineComes, Openings, opening_rows}

-- Each cause of 26, at its limit and beyond it.
pub causes-come : Rows causes
unfolding book_outcome_at book_fits lent_fits size_fits rows stored_as good_order bucket header record_at clauses_from verdict same?
    ℕ_discrete
    diagram_from value_from book_call alone_call line_call book_step record_step alone sharing diagram_in number_in placed_all place put
    diagram_at
    clause above
causes-come = (refl, (refl, (refl, (refl, (refl, (refl, (refl, (refl, (refl, (refl, (refl, (refl, (refl, (refl, (refl, (refl, (refl, (refl, (refl, (refl, tt))))))))))))))))))))

-- A table out of good order.
pub disorders-come : Rows disorders
unfolding book_outcome_at book_fits lent_fits size_fits rows stored_as good_order bucket header record_at clauses_from verdict same?
    ℕ_discrete
    diagram_from value_from book_call alone_call line_call book_step record_step alone sharing diagram_in number_in placed_all place put
    diagram_at
    clause above
disorders-come = (refl, (refl, (refl, (refl, (refl, tt)))))

-- Two faults at once.
pub orders-come : Rows orders
unfolding book_outcome_at book_fits lent_fits size_fits rows stored_as good_order bucket header record_at clauses_from verdict same?
    ℕ_discrete
    diagram_from value_from book_call alone_call line_call book_step record_step alone sharing diagram_in number_in placed_all place put
    diagram_at
    clause above
orders-come = (refl, (refl, (refl, (refl, (refl, (refl, (refl, (refl, tt))))))))

-- Bytes that no call writes.
pub bytes-come : Rows bytes_kept
unfolding book_outcome_at book_fits lent_fits size_fits rows stored_as good_order bucket header record_at clauses_from verdict same?
    ℕ_discrete
    diagram_from value_from book_call alone_call line_call book_step record_step alone sharing diagram_in number_in placed_all place put
    diagram_at
    clause above
bytes-come = (refl, (refl, (refl, (refl, (refl, (refl, tt))))))

-- An accepted line.
pub line-comes : LineComes line_row
unfolding book_outcome_at book_fits lent_fits size_fits rows stored_as good_order bucket header record_at clauses_from verdict same?
    ℕ_discrete
    diagram_from value_from book_call alone_call line_call book_step record_step alone sharing diagram_in number_in placed_all place put
    diagram_at
    clause above rup in_word
line-comes = refl

-- 7 before 32, 32 before 35.
pub openings-come : Openings opening_rows
unfolding open_outcome book_fits lent_fits size_fits stored_as
openings-come = (refl, (refl, (refl, (refl, (refl, (refl, (refl, tt)))))))
