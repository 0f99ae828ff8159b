-- What stands next in a proof, in each of its forms, and where what follows it stands. There is one kind of command for all forms, so that
-- reading is per form and judging is one. (01, The proof; 02, 4/14 and 9/14)
use Rattle.std.specs.Prelude.{Bool, true, false, ◌&&◌, ◌||◌, cond, List, [], ◌∷◌, ℕ, zero, suc, ◌+◌, ◌-◌, ◌*◌, ◌/◌, ◌%◌, length, get_or}
use Rattle.std.specs.Prelude.{drop, eqb, ltb}
use Rattle.meaning.specs.Operations as meaning
use Rattle.dimacs.specs.Text.{between, between_from}
use Rattle.dimacs.specs.Header.{is_word}
use Rattle.dimacs.specs.Numbers.{Token, Closing, Literal, Wrong}
use Rattle.dimacs.specs.Clauses.{Next, closed, ended, refused, after_token, clause_from}
use Rattle.records.specs.declared.Record.{Record}
use Rattle.records.specs.Records.{record_at, length_of}
use Rattle.commands.specs.declared.Form.{Form}
use Rattle.commands.specs.declared.Form.TheVariants.{Records, Text, Binary}
use Rattle.commands.specs.declared.Mode.{Mode}

-- A record, and whether a byte follows it; a clause that is added or struck out; a fault of form with its number and its place, counted
-- from the command's first byte; the end of a DRAT proof.
pub data Command : Type 0 where
  recorded : (r : Record) (more : Bool) → Command
  added : List meaning.Literal → Command
  struck_out : List meaning.Literal → Command
  wrong : (number offset : ℕ) → Command
  finished : Command

-- A command, and the first byte of the one that follows it. What is refused, and the end, are followed by nothing: the place stays.
pub record Read : Type 0 where
  pub command : Command
  pub next : ℕ

abbrev pub reading : Command → ℕ → Read
reading command next = record { command = command; next = next }

-- ---- records

abbrev pub record_read : List ℕ → ℕ → Read
record_read s at = let r = record_at s at in reading (recorded r (ltb (at + length_of r) (length s))) (at + length_of r)

-- ---- clauses

-- A clause as its reader gives it, of a command whose first byte is at `at`; `onward` leads from behind the clause to the next command. The
-- reader of a clause never comes to `ended`.
abbrev pub clause_read : (ℕ → ℕ) → ℕ → (List meaning.Literal → Command) → Next → Read
clause_read onward at command (closed ls first next) = reading (command ls) (onward next)
clause_read onward at command (refused number place) = reading (wrong number (place - at)) at
clause_read onward at command ended = reading (wrong 6 0) at

-- ---- DRAT text

-- "literals parted as in the formula and closed by 0 [..]; a leading `d`, parted likewise, strikes out; lines beginning with `c` are
-- skipped": what stands between two tokens is passed as in the formula. "A line is refused with 3, 4 (the token), 6 [..] at the first byte
-- of the clause or its `d`". 100 is `d`.
unfoldable pub text_read : List ℕ → ℕ → ℕ → Read
unfolding is_word clause_from between_from
text_read s n at =
    let body = between s (at + 1) in
    let striking = clause_read (between s) at struck_out (clause_from s n (length s - body) at body) in
    let adding = clause_read (between s) at added (clause_from s n (length s - at) at at) in
    cond (ltb at (length s)) (cond (is_word s at (100 ∷ [])) striking adding) (reading finished at)

-- ---- binary DRAT

-- Groups of seven bits, "lowest first, the top bit set on all but the last": the number that they make, how many they are and the last of
-- them; or the bytes end before the last.
pub data Groups : Type 0 where
  cut : Groups
  groups : (number many last : ℕ) → Groups

abbrev pub group_then : ℕ → Groups → Groups
group_then bits cut = cut
group_then bits (groups number many last) = groups (bits + 128 * number) (suc many) last

-- The groups that the bytes begin with.
unfoldable pub groups_in : List ℕ → Groups
groups_in [] = cut
groups_in (b ∷ bs) = let more = group_then (b - 128) (groups_in bs) in cond (ltb b 128) (groups b 1 b) more

-- What groups say in a formula of n variables. "a zero byte closes"; "surplus groups or a literal 1 with 31, then one beyond [..] the
-- header with 4"; "v is 2 × v, −v is 2 × v + 1". Groups are surplus where there is more than one and the last is 0.
abbrev pub groups_token : ℕ → ℕ → ℕ → ℕ → Token
groups_token n number many last =
    cond (eqb number 0 && eqb many 1) Closing
    (cond (eqb last 0 || eqb number 1) (Wrong 31) (cond (ltb n (number / 2)) (Wrong 4) (Literal (number / 2) (eqb (number % 2) 0))))

-- "per literal a cut clause with 6, then [..] 31, then [..] 4, 31 and 4 at the literal, the others at the opening byte": groups at a place,
-- with what is read behind them.
abbrev pub after_groups : ℕ → ℕ → ℕ → Groups → (ℕ → Next) → Next
after_groups n first at cut rest = refused 6 first
after_groups n first at (groups number many last) rest =
    let further = rest (at + many) in after_token (groups_token n number many last) first at (at + many) further

-- The rest of an open clause, from the groups at `at` on; its opening byte is at `first`. At most k literals are left.
unfoldable pub binary_from : List ℕ → ℕ → ℕ → ℕ → ℕ → Next
unfolding groups_in
binary_from s n zero first at = refused 6 first
binary_from s n (suc k) first at = after_groups n first at (groups_in (drop at s)) (λ next. binary_from s n k first next)

-- "Bytes `61` and `64` open an added and a struck clause"; "another opening byte with 9".
unfoldable pub binary_read : List ℕ → ℕ → ℕ → Read
unfolding binary_from
binary_read s n at =
    let kind = get_or s at 0 in
    let body = binary_from s n (length s - (at + 1)) at (at + 1) in
    let adding = clause_read (λ next. next) at added body in
    let striking = clause_read (λ next. next) at struck_out body in
    cond (ltb at (length s)) (cond (eqb kind 0x61) adding (cond (eqb kind 0x64) striking (reading (wrong 9 0) at))) (reading finished at)

-- ---- every form

-- A form, within the consequence profile (02, 11/14) or without it.
abbrev pub in_form : Form → Bool → Mode
in_form form profile = record { form = form; consequence = profile }

abbrev pub in_records : Mode
in_records = in_form Records false

abbrev pub in_text : Mode
in_text = in_form Text false

abbrev pub in_binary : Mode
in_binary = in_form Binary false

-- The forms of DRAT: their commands are clauses.
abbrev pub is_drat : Form → Bool
is_drat Records = false
is_drat Text = true
is_drat Binary = true

-- The first byte of the first command.
abbrev pub start : Form → List ℕ → ℕ
start Records s = 0
start Text s = between s 0
start Binary s = 0

-- The command whose first byte is at a place, in a formula of n variables.
abbrev pub command_at : Form → List ℕ → ℕ → ℕ → Read
command_at Records s n at = record_read s at
command_at Text s n at = text_read s n at
command_at Binary s n at = binary_read s n at
