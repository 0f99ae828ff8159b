-- The recursion: each function's outcome is the placing of its result, and it leaves the memo right. A place of the code is one law of
-- Forced, Results or RightMemo. Assumes nothing.
use Prim.Native.Nat.{ℕ, ◌-◌, ◌<◌}
use mathlib.Core.Path.{◌≡◌, sym, ap, ◌∙◌, subst}
use mathlib.Core.List.{List}
use native.Mathlib.Omega.{arith}
use Rattle.table.specs.Indexed.{Table, table_of, Outcome, outcome_of}
use Rattle.table.proofs.Outcomes.{place_in}
use Rattle.memo.specs.Memo.{Tells}
use Rattle.operate.specs.declared.Operation.{Operation}
use Rattle.operate.specs.declared.step.Ahead.{Ahead}
use Rattle.operate.specs.declared.step.Ahead.TheVariants.{Told, Both}
use Rattle.operate.specs.declared.step.Sides.{Sides}
use Rattle.operate.specs.Inner.{operation_of, top, Shared, Ready, SidesReady, Given, AheadSays}
use Rattle.operate.proofs.RightMemo.{stores-right}
use Rattle.operate.proofs.Results.{known-outcome, made-right, low-done, high-ready, high-shared, high-top, high-good, high-done, both-done}
use Rattle.operate.proofs.Results.{memo-joined}
use Rattle.operate.proofs.OneSide.{SideLeft, outcome-same, SideKept, home-kept, side_same}
use Rattle.memo.proofs.mixed.Reads as mixed
use Rattle.memo.proofs.memo_home.Reads as memo_home
use Rattle.table.proofs.put.Reads as put
use Rattle.operate.proofs.join.Reads as join
use Rattle.operate.proofs.work_out.Reads as work_out
use Rattle.operate.proofs.+join_work_out.Lts-join as lts
use Rattle.operate.proofs.+join_work_out.Goals.{join-in-At, join-in-Nothing, join-in-At-memo_home, join-in-Nothing-memo_home}
use Rattle.operate.proofs.+join_work_out.Goals as goal

-- the place of `join` where the low side is done
abbrev LowDone : ℕ → Type 0
LowDone t =
    lts.At-match-branch
    (mixed.Asked, mixed.Learnt, memo_home.Asked, memo_home.Learnt, goal.work_out-below t, work_out.Post, put.Asked, put.Learnt)
    (goal.join-at t) join.Post (goal.the-clauses-join t)

-- the place where the high side is done
abbrev HighDone : ℕ → Type 0
HighDone t =
    lts.At-match2-branch
    (mixed.Asked, mixed.Learnt, memo_home.Asked, memo_home.Learnt, goal.work_out-below t, work_out.Post, put.Asked, put.Learnt)
    (goal.join-at t) join.Post (goal.the-clauses-join t)

-- what the low side leaves
module _ {t : ℕ} (m : LowDone t) where
  abbrev j-table : Table
  j-table = table_of m.args.vars.now m.args.lows.now m.args.highs.now m.args.heads.now m.args.links.now m.args.count

  abbrev j-op : Operation
  j-op = operation_of m.args.kind m.args.by

  abbrev j-sides : Sides
  j-sides = m.args.s

  j-ready : SidesReady j-op m.args.memo.now j-table j-sides
  j-ready = m.requires.0

  j-low-ready : Ready j-op m.args.memo.now j-table j-sides.f0.0 j-sides.g0.0
  j-low-ready = record { operands = j-ready.operands.low; right = j-ready.right }

  abbrev out₁ : Outcome
  out₁ = outcome_of m.match-memo_home.vars m.match-memo_home.lows m.match-memo_home.highs m.match-memo_home.heads
      m.match-memo_home.links m.match-memo_home.p

  kept₁ : SideKept j-op m.args.memo.now j-table j-sides.f0.0 j-sides.g0.0 out₁ m.match-memo_home.memo
  kept₁ = elim m.match-memo_home.branch [
    | join-in-At w ↦
        side_same (outcome-same w.vars-is w.lows-is w.highs-is w.heads-is w.links-is w.p-is) w.memo-is
        (home-kept j-low-ready w.in-At.r
        (subst (Tells m.args.memo.now j-sides.f0.0 j-sides.g0.0) w.in-At.is m.memo_home.ensures))
    | join-in-Nothing w ↦
        let y = w.work_out-p in
        side_same (outcome-same w.vars-is w.lows-is w.highs-is w.heads-is w.links-is w.p-is) w.memo-is
        (record {
          left = record {
            is = y.ensures.result_after;
            vars = y.auto.vars;
            lows = y.auto.lows;
            highs = y.auto.highs;
            heads = y.auto.heads;
            links = y.auto.links;
          };
          right = y.ensures.fact;
          cells = y.auto.memo;
        })
  ]

  left₁ : SideLeft j-op j-table j-sides.f0.0 j-sides.g0.0 out₁
  left₁ = kept₁.left

  ready₁ : Ready j-op m.match-memo_home.memo out₁.table j-sides.f1.0 j-sides.g1.0
  ready₁ = high-ready j-op j-table j-sides j-ready.operands out₁ left₁.is m.match-memo_home.memo kept₁.right

  shared₁ : Shared j-op m.args.by.positive out₁.table j-sides.f1.0 j-sides.g1.0
  shared₁ = high-shared j-op j-table j-sides j-ready.operands out₁ left₁.is m.args.by.positive m.requires.2

  after₁ : j-sides.x < top out₁.table.vars j-sides.f1.0 j-sides.g1.0
  after₁ = high-top j-op j-table j-sides j-ready.operands out₁ left₁.is

-- what the high side leaves
module _ {t : ℕ} (n : HighDone t) where
  abbrev jm : LowDone t
  jm = n.before.before.before.before.before.before.before.before

  abbrev out₂ : Outcome
  out₂ = outcome_of n.match-memo_home-2.vars n.match-memo_home-2.lows n.match-memo_home-2.highs n.match-memo_home-2.heads
      n.match-memo_home-2.links n.match-memo_home-2.q

  kept₂ : SideKept (j-op jm) jm.match-memo_home.memo (out₁ jm).table (j-sides jm).f1.0 (j-sides jm).g1.0 out₂
      n.match-memo_home-2.memo
  kept₂ = elim n.match-memo_home-2.branch [
    | join-in-At-memo_home w ↦
        side_same (outcome-same w.vars-is w.lows-is w.highs-is w.heads-is w.links-is w.q-is) w.memo-is
        (home-kept (ready₁ jm) w.in-At-memo_home.r
        (subst (Tells jm.match-memo_home.memo (j-sides jm).f1.0 (j-sides jm).g1.0) w.in-At-memo_home.is n.memo_home-2.ensures))
    | join-in-Nothing-memo_home w ↦
        let y = w.work_out-q in
        side_same (outcome-same w.vars-is w.lows-is w.highs-is w.heads-is w.links-is w.q-is) w.memo-is
        (record {
          left = record {
            is = y.ensures.result_after;
            vars = y.auto.vars;
            lows = y.auto.lows;
            highs = y.auto.highs;
            heads = y.auto.heads;
            links = y.auto.links;
          };
          right = y.ensures.fact;
          cells = y.auto.memo;
        })
  ]

  left₂ : SideLeft (j-op jm) (out₁ jm).table (j-sides jm).f1.0 (j-sides jm).g1.0 out₂
  left₂ = kept₂.left

pub join-work_out-p-requires : goal.join-work_out-p-requires
join-work_out-p-requires t c =
    let r : SidesReady _ _ _ _ = c.requires.0 in (
      omega (arith, c.decreases, r.operands.low-after, r.operands.most),
      (record { operands = r.operands.low; right = r.right }, c.requires.1, c.mixed-low.ensures),
    )

pub join-returns-then-p-clause-result_after : goal.join-returns-then-p-clause-result_after
join-returns-then-p-clause-result_after t c =
    let m = c.before in low-done (j-op m) (j-table m) (j-sides m) (j-ready m).operands (out₁ m) (left₁ m).is c.if-p.true

pub join-returns-then-p-clause-fact : goal.join-returns-then-p-clause-fact
join-returns-then-p-clause-fact t c = (kept₁ c.before).right

pub join-work_out-q-requires : goal.join-work_out-q-requires
join-work_out-q-requires t c =
    let c12 = c.before.before.before.before.before.before.before.before.before.before.before.before in
    let m : LowDone t = c12.before.before.before.before in
    (omega (arith, c.decreases, after₁ m, (j-ready m).operands.most), (ready₁ m, shared₁ m, c.mixed-high.ensures))

pub join-returns-then-q-clause-result_after : goal.join-returns-then-q-clause-result_after
join-returns-then-q-clause-result_after t c =
    let n : HighDone t = c.before in
    let m : LowDone t = jm n in
    high-done (j-op m) (j-table m) (j-sides m) (j-ready m).operands (out₁ m) (left₁ m).is c.if-p.false (out₂ n) (left₂ n).is c.if-q.true

pub join-returns-then-q-clause-fact : goal.join-returns-then-q-clause-fact
join-returns-then-q-clause-fact t c = (kept₂ c.before).right

pub join-put-requires : goal.join-put-requires
join-put-requires t c =
    let n : HighDone t = c.before.before.before.before.before.before.before.before in
    let m : LowDone t = jm n in
    high-good (j-op m) (j-table m) (j-sides m) (j-ready m).operands (out₁ m) (left₁ m).is c.if-p.false (out₂ n) (left₂ n).is

pub join-returns-clause-result_after : goal.join-returns-clause-result_after
join-returns-clause-result_after t c =
    let c12 = c.before.before.before.before.before.before.before.before.before.before.before.before in
    let n : HighDone t = c12.before.before.before.before.before.before.before.before in
    let m : LowDone t = jm n in
    let y = c.put in
    both-done (j-op m) (j-table m) (j-sides m) (j-ready m).operands (out₁ m) (left₁ m).is c.if-p.false (out₂ n) (left₂ n).is c.if-q.false
    (outcome_of y.new.vars y.new.lows y.new.highs y.new.heads y.new.links y.result) y.ensures

pub join-returns-clause-fact : goal.join-returns-clause-fact
join-returns-clause-fact t c =
    let c12 = c.before.before.before.before.before.before.before.before.before.before.before.before in
    let n : HighDone t = c12.before.before.before.before.before.before.before.before in
    let m : LowDone t = jm n in
    let y = c.put in
    memo-joined (j-op m) (j-table m) (j-sides m) (j-ready m).operands (out₁ m) (left₁ m).is c.if-p.false (out₂ n) (left₂ n).is c.if-q.false
    (outcome_of y.new.vars y.new.lows y.new.highs y.new.heads y.new.links y.result) y.ensures n.match-memo_home-2.memo (kept₂ n).right

-- what the steps of one side say
says : (op : Operation) (shared : ℕ) (T : Table) (f g : ℕ) (memo : List ℕ) (x r : Ahead) → x ≡ r → Ready op memo T f g →
    Shared op shared T f g
    → (Given op shared T f g → AheadSays op shared T f g x) → AheadSays op shared T f g r
says op shared T f g memo x r e R S told =
    subst (AheadSays op shared T f g) e (told (record { operands = R.operands; share = S }))

pub work_out-join-p-requires : goal.work_out-join-p-requires
work_out-join-p-requires t c =
    let a = c.args in
    let T : Table = table_of a.vars.now a.lows.now a.highs.now a.heads.now a.links.now a.count in
    let R : Ready (operation_of a.kind a.by) a.memo.now T a.f.0 a.g.0 = c.requires.0 in
    let d = says (operation_of a.kind a.by) a.by.positive T a.f.0 a.g.0 a.memo.now _ (Both c.in-Both.s) c.in-Both.is R c.requires.1
    (c.forced_down.ensures a.heads.now a.links.now a.count) in (
      omega (arith, c.decreases, d.after),
      (record { operands = d.operands; right = R.right }, d.low-share, d.high-share),
    )

pub work_out-returns-in-At-clause-result_after : goal.work_out-returns-in-At-clause-result_after
work_out-returns-in-At-clause-result_after t c =
    let a = c.args in
    let T : Table = table_of a.vars.now a.lows.now a.highs.now a.heads.now a.links.now a.count in
    let R : Ready (operation_of a.kind a.by) a.memo.now T a.f.0 a.g.0 = c.requires.0 in
    let found = subst (Tells a.memo.now a.f.0 a.g.0) c.in-At.is c.memo_find.ensures in
    known-outcome (operation_of a.kind a.by) T a.f.0 a.g.0 R.operands c.in-At.r.0 (R.right.entries a.f.0 a.g.0 c.in-At.r.0 found)

pub work_out-returns-in-Told-clause-result_after :
    goal.work_out-returns-in-Told-clause-result_after
work_out-returns-in-Told-clause-result_after t c =
    let a = c.args in
    let T : Table = table_of a.vars.now a.lows.now a.highs.now a.heads.now a.links.now a.count in
    let R : Ready (operation_of a.kind a.by) a.memo.now T a.f.0 a.g.0 = c.requires.0 in
    known-outcome (operation_of a.kind a.by) T a.f.0 a.g.0 R.operands c.in-Told.r.0
    (says (operation_of a.kind a.by) a.by.positive T a.f.0 a.g.0 a.memo.now _ (Told c.in-Told.r) c.in-Told.is R c.requires.1
    (c.forced_down.ensures a.heads.now a.links.now a.count))

pub work_out-returns-then-p-clause-result_after : goal.work_out-returns-then-p-clause-result_after
work_out-returns-then-p-clause-result_after t c =
    let a = c.args in
    let T : Table = table_of a.vars.now a.lows.now a.highs.now a.heads.now a.links.now a.count in
    let d = says (operation_of a.kind a.by) a.by.positive T a.f.0 a.g.0 a.memo.now _ (Both c.in-Both.s) c.in-Both.is c.requires.0
    c.requires.1
    (c.forced_down.ensures a.heads.now a.links.now a.count) in
    c.join-p.ensures.result_after ∙ ap (place_in T) (sym d.over)

pub work_out-returns-else-p-clause-result_after : goal.work_out-returns-else-p-clause-result_after
work_out-returns-else-p-clause-result_after t c =
    let a = c.args in
    let T : Table = table_of a.vars.now a.lows.now a.highs.now a.heads.now a.links.now a.count in
    let d = says (operation_of a.kind a.by) a.by.positive T a.f.0 a.g.0 a.memo.now _ (Both c.in-Both.s) c.in-Both.is c.requires.0
    c.requires.1
    (c.forced_down.ensures a.heads.now a.links.now a.count) in
    c.join-p.ensures.result_after ∙ ap (place_in T) (sym d.over)

pub work_out-returns-else-p-clause-fact : goal.work_out-returns-else-p-clause-fact
work_out-returns-else-p-clause-fact t c =
    let a = c.args in
    let T : Table = table_of a.vars.now a.lows.now a.highs.now a.heads.now a.links.now a.count in
    let R : Ready (operation_of a.kind a.by) a.memo.now T a.f.0 a.g.0 = c.requires.0 in
    let y = c.join-p in
    let out : Outcome = outcome_of y.new.vars y.new.lows y.new.highs y.new.heads y.new.links y.result in
    let d = says (operation_of a.kind a.by) a.by.positive T a.f.0 a.g.0 a.memo.now _ (Both c.in-Both.s) c.in-Both.is R c.requires.1
    (c.forced_down.ensures a.heads.now a.links.now a.count) in
    stores-right (operation_of a.kind a.by) y.new.memo out.table y.ensures.fact _ _ _ _ c.memo_put.ensures
    (made-right (operation_of a.kind a.by) T a.f.0 a.g.0 R.operands out (y.ensures.result_after ∙ ap (place_in T) (sym d.over))
    c.if-p.false)
