use Rattle.std.proofs.Common.{rules, ◌∙◌, ap, sym, encode_utf8_all, refl}
use Rattle.std.proofs.lemmas.Str.{encodes-chars}
use Rattle.cn_phrase.proofs.Between.{front-is}
use Rattle.cn_phrase.proofs.money.passed.Goals as goal

pub returns : goal.returns
returns c = sym (encodes-chars _ (search rules)) ∙ ap encode_utf8_all (sym (front-is _ _ _ _
    c.before_rest.ensures refl))
