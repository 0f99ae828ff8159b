-- A proof in records without a PR record. (02, 11/14) No call open to others cites this file: the theorem on the consequence profile does.
use Rattle.std.specs.Prelude.{Bool, true, not, ◌&&◌, List, ℕ, zero, suc, ◌+◌, length}
use Rattle.records.specs.declared.Record.{Record}
use Rattle.records.specs.declared.Record.TheVariants.{NodeEntry, Witness, ProofLine, Strike, SetEntry, End}
use Rattle.records.specs.declared.Record.TheVariants.{CutShort, UnknownKind, NoRecord}
use Rattle.records.specs.Records.{record_at, length_of}
use Rattle.verdict.specs.Check.{is_pr}

-- Whether the record is no PR line, nor is one behind it. Nothing is behind an end record, or one that is refused by its form.
abbrev pub no_pr_with : Record → Bool → Bool
no_pr_with (ProofLine rule root) behind = not (is_pr rule) && behind
no_pr_with (NodeEntry b) behind = behind
no_pr_with (Witness v b) behind = behind
no_pr_with (Strike k) behind = behind
no_pr_with (SetEntry kind b) behind = behind
no_pr_with End behind = true
no_pr_with CutShort behind = true
no_pr_with UnknownKind behind = true
no_pr_with NoRecord behind = true

-- Whether none of so many records from a place on is a PR line.
unfoldable pub no_pr_from : ℕ → List ℕ → ℕ → Bool
no_pr_from zero proof at = true
no_pr_from (suc records) proof at =
    let r = record_at proof at in
    let behind = no_pr_from records proof (at + length_of r) in no_pr_with r behind

-- "a proof in records without a PR one": there are no more records than bytes, and the end of the bytes.
abbrev pub without_pr : List ℕ → Bool
without_pr proof = no_pr_from (suc (length proof)) proof 0
