use Rattle.recorded_words.specs.Words.{word_at}
use Rattle.recorded_words.specs.laws.WordsLaws.{put_more, counts_written}
use native.Mathlib.Omega.{arith}
use mathlib.Core.Path.{◌≡◌, ◌∙◌}
use lib.ListN.{length-set}
use Rattle.recorded_words.proofs.decode.Goals as goal

pub word-requires : goal.word-requires
word-requires c = omega (arith, c.count-n.ensures.result_bound.0)

pub offset_bounds-out-i : goal.offset_bounds-out-i
offset_bounds-out-i c = omega (arith, c.count-n.ensures.result_bound.0)

pub bounds-out-i : goal.bounds-out-i
bounds-out-i c = omega (arith, c.count-n.ensures.result_bound.1, c.loop-i.invariant.0)

pub loop-i-preserved : goal.loop-i-preserved
loop-i-preserved c =
    let a = c.args in
    let room = c.count-n.ensures.result_bound.1 in (
      simp length-set c.loop-i.invariant.0,
      rw (c.word.ensures, c.loop-i.invariant.1) (put_more (word_at a.file.now) c.loop-i.i a.out.now (omega (arith, room))),
    )

pub returns : goal.returns
returns c =
    let n = c.count-n in
    let e : c.loop-i.i ≡ n.result = omega arith in
    record {
      value = (n.ensures.value, c.loop-i.invariant.1 ∙ rw e);
      prefix_len = counts_written n.result c.loop-i.out (omega (arith, n.ensures.result_bound.1, c.loop-i.invariant.0));
    }
