-- What is said of two files, case by case, and what a 0 said of them means. Assumes nothing.
use mathlib.Core.Path.{◌≡◌, refl, sym, subst, ◌∙◌}
use mathlib.Core.Bool.{Bool, true, false}
use mathlib.Core.List.{List}
use Prim.Native.Nat.{ℕ, ◌≤◌, ◌<◌}
use native.Mathlib.Omega.{arith}
use lib.ListN.{length}
use lib.Dec.{ltb, eqb}
use borrow.Author.Tests.{lt-ltb, le-ltb, eqb-true}
use Rattle.std.specs.Prelude.{Option, Some, None}
use Rattle.std.specs.Option.{option_or}
use Rattle.meaning.specs.Diagram.{Assignment}
use Rattle.table.specs.Columns.{size_fits, Columns, columns_made}
use Rattle.dimacs.specs.Clauses as dimacs
use Rattle.commands.specs.declared.Mode.{Mode}
use Rattle.verdict.specs.Check.{verdict, CheckOutcome, lent_fits, outcome, check, zeros}
use Rattle.verdict.specs.Satisfies.{clauses_of, read_to_end, satisfies}
use Rattle.verdict.proofs.Refuted.{refuted}
use Rattle.report.specs.declared.Line.{Line}
use Rattle.report.specs.Files.{file_refused, some_refused, of_verdict, of_file, of_files, said, status_of}
use Rattle.dimacs.proofs.Cases.{by}

-- ---- the call with lists of zeros

abbrev pub line_of : CheckOutcome → Line
line_of o = record { number = o.number; place = o.place; lines = o.lines; rounds = o.rounds; peak = o.peak }

abbrev lists : Columns
lists = columns_made (zeros 4096) (zeros 4096) (zeros 4096) (zeros 8192) (zeros 4096)

fits : lent_fits lists (zeros 2048) (zeros 2048) (zeros 4096) ≡ true
unfolding lent_fits size_fits
fits = refl

pub checked : (mode : Mode) (formula proof : List ℕ)
    → line_of (check mode lists 2 (zeros 2048) (zeros 2048) (zeros 4096) formula proof) ≡ of_verdict (verdict mode 4096 formula proof)
unfolding check outcome
checked mode formula proof = rw fits

-- ---- the files

-- The refusal of the two files, if there is one.
abbrev pub refusal_of : Bool → Bool → List ℕ → List ℕ → Option Line
refusal_of f p formula proof = of_files some_refused f formula p proof None

-- Case by case, whatever stands for a refusal and for what follows: 25 and 24 of the formula, then of the proof, each with its place.
module _ {A : Type 0} (refuse : ℕ → ℕ → A) (rest : A) (f p : Bool) (formula proof : List ℕ) where
  pub no-formula : f ≡ false → of_files refuse f formula p proof rest ≡ refuse 25 0
  unfolding of_files
  no-formula e = rw e

  pub long-formula : f ≡ true → 65536 < length formula → of_files refuse f formula p proof rest ≡ refuse 24 65536
  unfolding of_files
  long-formula e h = rw (e, lt-ltb 65536 (length formula) h)

  pub no_proof : f ≡ true → length formula ≤ 65536 → p ≡ false → of_files refuse f formula p proof rest ≡ refuse 25 0
  unfolding of_files
  no_proof e h e' = rw (e, le-ltb 65536 (length formula) h, e')

  pub long-proof : f ≡ true → length formula ≤ 65536 → p ≡ true → 65536 < length proof
      → of_files refuse f formula p proof rest ≡ refuse 24 65536
  unfolding of_files
  long-proof e h e' h' = rw (e, le-ltb 65536 (length formula) h, e', lt-ltb 65536 (length proof) h')

  pub both : f ≡ true → length formula ≤ 65536 → p ≡ true → length proof ≤ 65536 → of_files refuse f formula p proof rest ≡ rest
  unfolding of_files
  both e h e' h' = rw (e, le-ltb 65536 (length formula) h, e', le-ltb 65536 (length proof) h')

file-then : (f : Bool) (text : List ℕ) (rest : Option Line) →
    option_or (of_file some_refused f text None) rest ≡ of_file some_refused f text rest
file-then false text rest = refl
file-then true text rest = by (ltb 65536 (length text)) (λ t. rw t) (λ u. rw u)

-- It is that of the formula, else that of the proof.
pub files-either : (f p : Bool) (formula proof : List ℕ) →
    option_or (of_file some_refused f formula None) (of_file some_refused p proof None) ≡ refusal_of f p formula proof
unfolding of_files
files-either f p formula proof = file-then f formula (of_file some_refused p proof None)

file-taken : {A : Type 0} (refuse : ℕ → ℕ → A) (f : Bool) (text : List ℕ) (rest : A) (l : Option Line) → of_file some_refused f text l ≡ None
    → (of_file refuse f text rest ≡ rest) × (l ≡ None)
file-taken refuse false text rest l e = cc
file-taken refuse true text rest l e = by (ltb 65536 (length text)) (λ t. let z = rw t at e in cc) (λ u. (rw u, rw u at e))

-- Where there is none both files are taken: what follows counts.
pub files-taken : {A : Type 0} (refuse : ℕ → ℕ → A) (f p : Bool) (formula proof : List ℕ) (rest : A) → refusal_of f p formula proof ≡ None
    → of_files refuse f formula p proof rest ≡ rest
unfolding of_files
files-taken refuse f p formula proof rest e =
    let first = file-taken refuse f formula (of_file refuse p proof rest) (of_file some_refused p proof None) e in
    first.0 ∙ (file-taken refuse p proof rest None first.1).0

file-refused : {A : Type 0} (h : Line → A) (f : Bool) (text : List ℕ) (rest : A) (next : Option Line) (l : Line)
    → of_file some_refused f text next ≡ Some l → (next ≡ Some l → rest ≡ h l) → of_file (λ n o. h (file_refused n o)) f text rest ≡ h l
file-refused h false text rest next l e on = cc
file-refused h true text rest next l e on =
    by (ltb 65536 (length text)) (λ t. rw t (let z = rw t at e in cc)) (λ u. rw u (on (rw u at e)))

-- Else it is what a report of its own gives for it, whatever follows.
pub files-refused : {A : Type 0} (h : Line → A) (f p : Bool) (formula proof : List ℕ) (rest : A) (l : Line) →
    refusal_of f p formula proof ≡ Some l
    → of_files (λ n o. h (file_refused n o)) f formula p proof rest ≡ h l
unfolding of_files
files-refused h f p formula proof rest l e =
    file-refused h f formula _ (of_file some_refused p proof None) l e
    (λ q. file-refused h p proof rest None l q (λ z. cc))

file-counts : (f : Bool) (text : List ℕ) (rest : ℕ) → 24 ≤ rest → 24 ≤ of_file (λ n o. n) f text rest
file-counts false text rest h = omega arith
file-counts true text rest h =
    by (ltb 65536 (length text)) (λ t. rw t (let q : 24 ≤ 24 = omega arith in q)) (λ u. rw u h)

-- A refusal's number is not 0.
pub refusal-counts : (f p : Bool) (formula proof : List ℕ) (l : Line) → refusal_of f p formula proof ≡ Some l → 24 ≤ l.number
unfolding of_files
refusal-counts f p formula proof l e =
    subst (λ (n : ℕ). 24 ≤ n) (files-refused (λ l. l.number) f p formula proof 25 l e)
    (file-counts f formula (of_file (λ n o. n) p proof 25) (file-counts p proof 25 (omega arith)))

module _ (mode : Mode) (f p : Bool) (formula proof : List ℕ) where
  pub said-taken : refusal_of f p formula proof ≡ None → said mode f formula p proof ≡ of_verdict (verdict mode 4096 formula proof)
  unfolding said
  said-taken e = files-taken file_refused f p formula proof (of_verdict (verdict mode 4096 formula proof)) e

  pub said-untaken : (l : Line) → refusal_of f p formula proof ≡ Some l → said mode f formula p proof ≡ l
  unfolding said
  said-untaken l e = files-refused (λ l. l) f p formula proof (of_verdict (verdict mode 4096 formula proof)) l e

-- ---- what 0 means

file-zero : (f : Bool) (text : List ℕ) (rest : Line) → (of_file file_refused f text rest).number ≡ 0 → rest.number ≡ 0
file-zero false text rest e = absurd (omega arith)
file-zero true text rest e =
    by (ltb 65536 (length text)) (λ t. absurd (let z : ◌≡◌ {A = ℕ} 24 0 = sym (rw t) ∙ e in omega arith)) (λ u. sym (rw u) ∙ e)

-- 0 is said only where no assignment satisfies the formula that was read.
pub said-refuted : (mode : Mode) (f p : Bool) (formula proof : List ℕ) → (said mode f formula p proof).number ≡ 0
    → (read_to_end (dimacs.formula formula) ≡ true) × ((a : Assignment) → satisfies a (clauses_of (dimacs.formula formula)) ≡ false)
unfolding said of_files
said-refuted mode f p formula proof e =
    refuted mode 4096 formula proof (file-zero p proof (of_verdict (verdict mode 4096 formula proof))
    (file-zero f formula (of_file file_refused p proof (of_verdict (verdict mode 4096 formula proof))) e))

pub status-zero : (n : ℕ) → status_of n ≡ 0 → n ≡ 0
status-zero n e =
    by (eqb n 0) (λ t. eqb-true n 0 t)
    (λ u. absurd (by (ltb n 24)
    (λ v. let z : ◌≡◌ {A = ℕ} 1 0 = sym (rw (u, v)) ∙ e in omega arith)
    (λ v. by (ltb n 26)
    (λ w. let z : ◌≡◌ {A = ℕ} 2 0 = sym (rw (u, v, w)) ∙ e in omega arith)
    (λ w. let z : ◌≡◌ {A = ℕ} 1 0 = sym (rw (u, v, w)) ∙ e in omega arith))))

-- So is the status 0.
pub status-refuted : (mode : Mode) (f p : Bool) (formula proof : List ℕ) → status_of (said mode f formula p proof).number ≡ 0
    → (read_to_end (dimacs.formula formula) ≡ true) × ((a : Assignment) → satisfies a (clauses_of (dimacs.formula formula)) ≡ false)
status-refuted mode f p formula proof e = said-refuted mode f p formula proof (status-zero _ e)
