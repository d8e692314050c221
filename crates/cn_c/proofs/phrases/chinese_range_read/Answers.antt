use Rattle.std.proofs.Common.{◌≡◌, subst}
use Rattle.cn_phrase.specs.Ranges.{range_of}
use Rattle.cn_c.specs.Phrases.{TellsRange}
use Rattle.cn_c.proofs.phrases.chinese_range_read.Goals as goal

pub returns-in-Some-utf8_text : goal.returns-in-Some-utf8_text
returns-in-Some-utf8_text c =
    let first = c.in-Some.ensures.1 in
    let second = c.in-Some-utf8_text.ensures.1 in
    let one = subst (λ text. TellsRange (range_of text c.in-Some-utf8_text.second.now)
    c.read_range.result c.read_range.new.low c.read_range.new.high) first c.read_range.ensures in
    let both = subst (λ text. TellsRange (range_of c.args.first.now text) c.read_range.result
    c.read_range.new.low c.read_range.new.high) second one in
    rw (c.in-Some.ensures.0, c.in-Some-utf8_text.ensures.0) both
