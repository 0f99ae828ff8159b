-- The walk over the words: the places found so far are those of the words with a variable in `touching`. Assumes nothing.
use Rattle.touched.proofs.Places.{finding-passed, finding-added}
use Rattle.touched.proofs.touched_places.Goals as goal
use Rattle.touched.proofs.touched_places.Goals.{then-word-touching-ne0, else-word-touching-ne0}

pub loop-i-preserved : goal.loop-i-preserved
loop-i-preserved c =
    let a = c.args in
    let w = c.loop-i in
    let p = c.loop-i-test.true in
    elim c.if-word-touching-ne0.branch [
      | then-word-touching-ne0 x ↦
          rw (x.places-is, x.count-is)
          (finding-added a.words.now a.touching a.places.now w.places w.i w.count w.invariant p c.requires.0)
      | else-word-touching-ne0 x ↦
          rw (x.places-is, x.count-is)
          (finding-passed a.words.now a.touching a.places.now w.places w.i w.count w.invariant p x.if-word-touching-ne0.false)
    ]
