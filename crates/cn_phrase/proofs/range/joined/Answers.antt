use Rattle.std.proofs.Common.{[], ◌++◌, ap, arith, length, length-append}
use Rattle.cn_core.specs.Buffers.{Appends}
use Rattle.cn_phrase.proofs.range.joined.Goals as goal

pub returns : goal.returns
unfolding Appends
returns c = c.into_text.ensures c.new-buffer.result (c.args.text.now ++ c.args.more.now)
    (c.put-2.ensures c.new-buffer.result c.args.text.now
    (c.put.ensures c.new-buffer.result [] c.new-buffer.ensures.empty))
    (omega (
      arith,
      length-append c.args.text.now c.args.more.now,
      c.requires,
      ap length c.new-buffer.ensures.bytes,
    ))
