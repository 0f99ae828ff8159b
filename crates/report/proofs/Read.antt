-- The line read back gives its five numbers, so a line that begins with the number 0 is said only of a formula that nothing satisfies.
-- Case A by computation. Assumes nothing.
use mathlib.Core.Path.{◌≡◌, refl, sym, ap, ◌∙◌}
use mathlib.Core.Bool.{Bool, true, false}
use mathlib.Core.List.{List, [], ◌∷◌, ◌++◌, append_assoc}
use Prim.Native.Nat.{ℕ, zero, suc, ◌+◌, ◌-◌, ◌*◌, ◌/◌, ◌%◌, ◌≤◌, ◌<◌}
use native.Mathlib.Omega.{arith}
use native.Mathlib.Decide.{ℕ_discrete}
use lib.ListN.{get_or}
use lib.Dec.{ltb}
use borrow.Author.Tests.{ltb-true, ltb-false, le-leb, lt-leb}
use Rattle.meaning.specs.Diagram.{Assignment, diagram_from, same?, value_from}
use Rattle.meaning.specs.Operations.{clause, conjunction, cofactor}
use Rattle.meaning.specs.Rules.{rup}
use Rattle.table.specs.Nodes.{place, above, diagram_at}
use Rattle.dimacs.specs.Clauses as dimacs
use Rattle.dimacs.specs.Clauses.{clauses_from}
use Rattle.records.specs.Records.{record_at}
use Rattle.commands.specs.declared.Mode.{Mode}
use Rattle.commands.specs.Commands.{in_records}
use Rattle.verdict.specs.Check.{verdict}
use Rattle.dimacs.specs.Texts.{bytes}
use Rattle.meaning.specs.Rules.{units_to}
use Rattle.verdict.specs.Cases.{A-formula, A-proof}
use Rattle.verdict.specs.Satisfies.{clauses_of, read_to_end, satisfies}
use Rattle.report.specs.declared.Line.{Line}
use Rattle.report.specs.Line.{decimal_by, decimal, field_text, line_bytes, numbers_after, numbers_of}
use Rattle.report.specs.Files.{of_files, said}
use Rattle.dimacs.proofs.Cases.{by}
use Rattle.report.proofs.Digits.{decimal-small, decimal-more}
use Rattle.report.proofs.Saying.{said-refuted}

digit-read : (m d : ℕ) (xs : List ℕ) → d < 10 → numbers_after m ((48 + d) ∷ xs) ≡ numbers_after (m * 10 + d) xs
unfolding numbers_after
digit-read m d xs h =
    rw (le-leb 48 (48 + d) (omega arith), le-leb (48 + d) 57 (omega arith))
    (ap (λ (v : ℕ). numbers_after (m * 10 + v) xs) (let q : (48 + d) - 48 ≡ d = omega arith in q))

number_read : (k n : ℕ) (xs : List ℕ) → n < k → numbers_after 0 (decimal n ++ xs) ≡ numbers_after n xs
number_read zero n xs h = absurd (omega arith)
number_read (suc k) n xs h =
    by (ltb n 10)
    (λ t.
    let q : n < 10 = ltb-true n 10 t in
    ap (λ (ds : List ℕ). numbers_after 0 (ds ++ xs)) (decimal-small n q)
    ∙ digit-read 0 n xs q
    ∙ ap (λ (v : ℕ). numbers_after v xs) (let z : 0 * 10 + n ≡ n = omega arith in z))
    (λ f.
    let q : 10 ≤ n = ltb-false n 10 f in
    let back : (n / 10) * 10 + n % 10 ≡ n = omega arith in
    ap (λ (ds : List ℕ). numbers_after 0 (ds ++ xs)) (decimal-more n q)
    ∙ ap (numbers_after 0) (append_assoc (decimal (n / 10)) ((48 + n % 10) ∷ []) xs)
    ∙ number_read k (n / 10) ((48 + n % 10) ∷ xs) (omega arith)
    ∙ digit-read (n / 10) (n % 10) xs (omega arith)
    ∙ ap (λ (v : ℕ). numbers_after v xs) back)

parting-read : (n b : ℕ) (xs : List ℕ) → b < 48 → numbers_after n (b ∷ xs) ≡ n ∷ numbers_after 0 xs
unfolding numbers_after
parting-read n b xs h = rw (lt-leb 48 b h)

field-read : (n b : ℕ) (xs : List ℕ) → b < 48 → numbers_after 0 (field_text n b ++ xs) ≡ n ∷ numbers_after 0 xs
field-read n b xs h =
    ap (numbers_after 0) (append_assoc (decimal n) (b ∷ []) xs) ∙ number_read (suc n) n (b ∷ xs) (omega arith) ∙ parting-read n b xs h

last-read : (n b : ℕ) → b < 48 → numbers_after 0 (field_text n b) ≡ n ∷ []
unfolding numbers_after
last-read n b h = number_read (suc n) n (b ∷ []) (omega arith) ∙ parting-read n b [] h

-- The five numbers come back.
pub line_read : (l : Line) → numbers_of (line_bytes l) ≡ l.number ∷ l.place ∷ l.lines ∷ l.rounds ∷ l.peak ∷ []
unfolding line_bytes
line_read l =
    field-read l.number 32 _ (omega arith)
    ∙ ap {B = List ℕ} (λ ns. l.number ∷ ns)
    (field-read l.place 32 _ (omega arith)
    ∙ ap {B = List ℕ} (λ ns. l.place ∷ ns)
    (field-read l.lines 32 _ (omega arith)
    ∙ ap {B = List ℕ} (λ ns. l.lines ∷ ns)
    (field-read l.rounds 32 _ (omega arith) ∙ ap {B = List ℕ} (λ ns. l.rounds ∷ ns) (last-read l.peak 10 (omega arith)))))

-- Whoever reads the number 0 from the line knows that nothing satisfies the formula that was read.
pub line-refuted : (mode : Mode) (f p : Bool) (formula proof rest : List ℕ) → numbers_of (line_bytes (said mode f formula p proof)) ≡ 0 ∷
    rest
    → (read_to_end (dimacs.formula formula) ≡ true) × ((a : Assignment) → satisfies a (clauses_of (dimacs.formula formula)) ≡ false)
line-refuted mode f p formula proof rest e =
    said-refuted mode f p formula proof (ap (λ (ns : List ℕ). get_or ns 0 0) (sym (line_read (said mode f formula p proof)) ∙ e))

-- "case A now prints `0 12 2 1 10`" (02, 2/14)
pub case-A : line_bytes (said in_records true (bytes A-formula) true A-proof) ≡ bytes "0 12 2 1 10\n"
unfolding line_bytes decimal_by said of_files verdict clauses_from place clause diagram_from same? record_at above rup value_from diagram_at
    ℕ_discrete conjunction cofactor units_to
case-A = refl
