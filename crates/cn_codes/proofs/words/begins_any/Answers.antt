use Rattle.std.proofs.Common.{chars, rules, ◌∙◌}
use Rattle.std.proofs.lemmas.Iterator.{YieldsList-from_slice}
use Rattle.std.proofs.lemmas.Iterator.Search.{any_from_yields_List}
use Rattle.cn_codes.specs.Words.{begins_word}
use Rattle.cn_codes.proofs.AnyMapped.{any-mapped}
use Rattle.cn_codes.proofs.words.begins_any.Goals as goal

pub returns : goal.returns
returns c =
    any_from_yields_List (λ each. begins_word (chars each.now) (chars c.args.text.now)) _ _ _
    c.any.ensures.ran (YieldsList-from_slice c.args.words.now c.iter.ensures.rest)
    (λ x b q k. search rules)
    ∙ any-mapped (λ each. begins_word each (chars c.args.text.now)) (λ each. chars each.now) c.args.words.now
