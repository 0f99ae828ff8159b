-- The call over local arrays for up to 65,536 places: what is lent of them is zeros (Arrays). Assumes nothing.
use mathlib.Core.Path.{refl, ap, ◌∙◌}
use Prim.Native.Nat.{◌+◌, ◌*◌, ◌≤◌}
use native.Mathlib.Omega.{arith}
use Rattle.table.specs.Indexed.{Table, table_of}
use Rattle.table.proofs.Zeros.{part-zeros, length_part, length_whole, whole-zeros}
use Rattle.conflict.specs.Marks.{unmarked}
use Rattle.shares.specs.Books.{BookLists}
use Rattle.book_line.specs.Says.{lists_made}
use Rattle.book_sizes.proofs.Arrays.{places-most, prepared}
use Rattle.book_sizes.proofs.sizes.call_65536.Goals as goal

pub overflow_add-places : goal.overflow_add-places
overflow_add-places c =
    let shared : Table =
    let a = c.args in table_of a.vars.now a.lows.now a.highs.now a.heads.now a.links.now a.count in
    let lists : BookLists =
    let a = c.args in lists_made a.members.now a.struck.now a.own.now in
    let within : c.args.b.share + 2 ≤ 65536 =
    places-most shared lists c.args.scratch.now c.args.b c.requires.0 65536 c.requires.1 in
    omega (arith, within)

pub slice_bounds-ownvars-end : goal.slice_bounds-ownvars-end
slice_bounds-ownvars-end c =
    let shared : Table =
    let a = c.args in table_of a.vars.now a.lows.now a.highs.now a.heads.now a.links.now a.count in
    let lists : BookLists =
    let a = c.args in lists_made a.members.now a.struck.now a.own.now in
    let within : c.args.b.share + 2 ≤ 65536 =
    places-most shared lists c.args.scratch.now c.args.b c.requires.0 65536 c.requires.1 in
    omega (arith, within)

pub slice_bounds-judge-end : goal.slice_bounds-judge-end
slice_bounds-judge-end c =
    let shared : Table =
    let a = c.args in table_of a.vars.now a.lows.now a.highs.now a.heads.now a.links.now a.count in
    let lists : BookLists =
    let a = c.args in lists_made a.members.now a.struck.now a.own.now in
    let within : c.args.b.share + 2 ≤ 65536 =
    places-most shared lists c.args.scratch.now c.args.b c.requires.0 65536 c.requires.1 in
    length_part _ 65536 (omega (arith, within))

pub slice_bounds-ownlows-end : goal.slice_bounds-ownlows-end
slice_bounds-ownlows-end c =
    let shared : Table =
    let a = c.args in table_of a.vars.now a.lows.now a.highs.now a.heads.now a.links.now a.count in
    let lists : BookLists =
    let a = c.args in lists_made a.members.now a.struck.now a.own.now in
    let within : c.args.b.share + 2 ≤ 65536 =
    places-most shared lists c.args.scratch.now c.args.b c.requires.0 65536 c.requires.1 in
    omega (arith, within)

pub slice_bounds-judge-end-2 : goal.slice_bounds-judge-end-2
slice_bounds-judge-end-2 c =
    let shared : Table =
    let a = c.args in table_of a.vars.now a.lows.now a.highs.now a.heads.now a.links.now a.count in
    let lists : BookLists =
    let a = c.args in lists_made a.members.now a.struck.now a.own.now in
    let within : c.args.b.share + 2 ≤ 65536 =
    places-most shared lists c.args.scratch.now c.args.b c.requires.0 65536 c.requires.1 in
    length_part _ 65536 (omega (arith, within))

pub slice_bounds-ownhighs-end : goal.slice_bounds-ownhighs-end
slice_bounds-ownhighs-end c =
    let shared : Table =
    let a = c.args in table_of a.vars.now a.lows.now a.highs.now a.heads.now a.links.now a.count in
    let lists : BookLists =
    let a = c.args in lists_made a.members.now a.struck.now a.own.now in
    let within : c.args.b.share + 2 ≤ 65536 =
    places-most shared lists c.args.scratch.now c.args.b c.requires.0 65536 c.requires.1 in
    omega (arith, within)

pub slice_bounds-judge-end-3 : goal.slice_bounds-judge-end-3
slice_bounds-judge-end-3 c =
    let shared : Table =
    let a = c.args in table_of a.vars.now a.lows.now a.highs.now a.heads.now a.links.now a.count in
    let lists : BookLists =
    let a = c.args in lists_made a.members.now a.struck.now a.own.now in
    let within : c.args.b.share + 2 ≤ 65536 =
    places-most shared lists c.args.scratch.now c.args.b c.requires.0 65536 c.requires.1 in
    length_part _ 65536 (omega (arith, within))

pub overflow_mul-ownheads : goal.overflow_mul-ownheads
overflow_mul-ownheads c =
    let shared : Table =
    let a = c.args in table_of a.vars.now a.lows.now a.highs.now a.heads.now a.links.now a.count in
    let lists : BookLists =
    let a = c.args in lists_made a.members.now a.struck.now a.own.now in
    let within : c.args.b.share + 2 ≤ 65536 =
    places-most shared lists c.args.scratch.now c.args.b c.requires.0 65536 c.requires.1 in
    omega (arith, within)

pub slice_bounds-ownheads-end : goal.slice_bounds-ownheads-end
slice_bounds-ownheads-end c =
    let shared : Table =
    let a = c.args in table_of a.vars.now a.lows.now a.highs.now a.heads.now a.links.now a.count in
    let lists : BookLists =
    let a = c.args in lists_made a.members.now a.struck.now a.own.now in
    let within : c.args.b.share + 2 ≤ 65536 =
    places-most shared lists c.args.scratch.now c.args.b c.requires.0 65536 c.requires.1 in
    omega (arith, within)

pub slice_bounds-judge-end-4 : goal.slice_bounds-judge-end-4
slice_bounds-judge-end-4 c =
    let shared : Table =
    let a = c.args in table_of a.vars.now a.lows.now a.highs.now a.heads.now a.links.now a.count in
    let lists : BookLists =
    let a = c.args in lists_made a.members.now a.struck.now a.own.now in
    let within : c.args.b.share + 2 ≤ 65536 =
    places-most shared lists c.args.scratch.now c.args.b c.requires.0 65536 c.requires.1 in
    length_part _ 131072 (omega (arith, within))

pub slice_bounds-ownlinks-end : goal.slice_bounds-ownlinks-end
slice_bounds-ownlinks-end c =
    let shared : Table =
    let a = c.args in table_of a.vars.now a.lows.now a.highs.now a.heads.now a.links.now a.count in
    let lists : BookLists =
    let a = c.args in lists_made a.members.now a.struck.now a.own.now in
    let within : c.args.b.share + 2 ≤ 65536 =
    places-most shared lists c.args.scratch.now c.args.b c.requires.0 65536 c.requires.1 in
    omega (arith, within)

pub slice_bounds-judge-end-5 : goal.slice_bounds-judge-end-5
slice_bounds-judge-end-5 c =
    let shared : Table =
    let a = c.args in table_of a.vars.now a.lows.now a.highs.now a.heads.now a.links.now a.count in
    let lists : BookLists =
    let a = c.args in lists_made a.members.now a.struck.now a.own.now in
    let within : c.args.b.share + 2 ≤ 65536 =
    places-most shared lists c.args.scratch.now c.args.b c.requires.0 65536 c.requires.1 in
    length_part _ 65536 (omega (arith, within))

pub slice_bounds-marks-end : goal.slice_bounds-marks-end
slice_bounds-marks-end c =
    let shared : Table =
    let a = c.args in table_of a.vars.now a.lows.now a.highs.now a.heads.now a.links.now a.count in
    let lists : BookLists =
    let a = c.args in lists_made a.members.now a.struck.now a.own.now in
    let within : c.args.b.share + 2 ≤ 65536 =
    places-most shared lists c.args.scratch.now c.args.b c.requires.0 65536 c.requires.1 in
    omega (arith, within)

pub slice_bounds-judge-end-8 : goal.slice_bounds-judge-end-8
slice_bounds-judge-end-8 c =
    let shared : Table =
    let a = c.args in table_of a.vars.now a.lows.now a.highs.now a.heads.now a.links.now a.count in
    let lists : BookLists =
    let a = c.args in lists_made a.members.now a.struck.now a.own.now in
    let within : c.args.b.share + 2 ≤ 65536 =
    places-most shared lists c.args.scratch.now c.args.b c.requires.0 65536 c.requires.1 in
    length_part _ 65536 (omega (arith, within))

pub judge-requires : goal.judge-requires
judge-requires c =
    let shared : Table =
    let a = c.args in table_of a.vars.now a.lows.now a.highs.now a.heads.now a.links.now a.count in
    let lists : BookLists =
    let a = c.args in lists_made a.members.now a.struck.now a.own.now in
    let within : c.args.b.share + 2 ≤ 65536 =
    places-most shared lists c.args.scratch.now c.args.b c.requires.0 65536 c.requires.1 in
    let b = c.args.b in record {
      prepared = prepared shared lists c.args.scratch.now b c.requires.0 _ _ _ _ _ (part-zeros (b.share + 2) 65536 within)
          (part-zeros (b.share + 2) 65536 within) (part-zeros (b.share + 2) 65536 within)
          (part-zeros (2 * (b.share + 2)) 131072 (omega (arith, within))) (part-zeros (b.share + 2) 65536 within) _ _ _ 65536 2048
          refl refl refl
          c.requires.1 (omega arith);
      marks_value = (
        part-zeros (b.share + 2) 65536 within ∙ ap unmarked (length_part (b.share + 2) 65536 within),
        omega (arith, length_part (b.share + 2) 65536 within, length_whole 69632, within),
        whole-zeros 2048,
      );
    }
