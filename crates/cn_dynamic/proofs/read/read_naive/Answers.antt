use Rattle.std.proofs.Common.{◌≡◌, drop, sym, ap, ◌∙◌}
use Rattle.chinese_number.specs.Naive.{naive_answer}
use Rattle.chinese_number.specs.Text.{text_of, marks_of}
use Rattle.chinese_number.specs.Reading.{leading_sign, sign_len, typed_answer}
use Rattle.cn_dynamic.specs.IntegerTypes.{the_kind}
use Rattle.cn_judge.specs.Signed.{signed_answer}
use Rattle.cn_judge.proofs.Pieces.{text_of-rest, typed-rest}
use Rattle.cn_dynamic.proofs.read.read_naive.Goals as goal

pub returns-clause-answer : goal.returns-clause-answer
returns-clause-answer c =
    let kind = the_kind c.args.integer in
    let bytes = c.args.text.now in
    let after = c.split_sign-after in
    let sign_is : after.result.sign ≡ leading_sign kind.signed (text_of bytes) =
    after.ensures.sign ∙ ap (λ s. leading_sign s (text_of bytes)) c.is_signed.ensures in
    c.signed_answer.ensures.answer
    ∙ ap (signed_answer kind after.result.sign) c.judge_naive.ensures
    ∙ typed-rest kind bytes _ _ after.result.sign _ after.ensures.rest
    ∙ ap (λ text. typed_answer kind bytes after.result.sign (naive_answer (marks_of text)))
    (sym (text_of-rest _ _ _ _ after.ensures.rest))
    ∙ ap (λ sign. typed_answer kind bytes sign
    (naive_answer (marks_of (drop (sign_len sign) (text_of bytes))))) sign_is
