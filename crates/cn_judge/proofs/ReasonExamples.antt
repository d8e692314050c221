-- Worked examples of reasons, each proved by computing the definitions.
use Rattle.std.proofs.Common.{◌≡◌, ℕ, List, [], ◌∷◌, map, drop, codes, encode_utf8_all, Option, Some, None, refl}
use Rattle.std.specs.Char.{encode_utf8}
use Rattle.std.specs.Str.{chars}
use Rattle.cn_core.specs.declared.method.ChineseCountMethod.TheVariants.{TenThousand}
use Rattle.cn_core.specs.Characters.{digit_of, rank_of, sign_of}
use Rattle.cn_core.specs.Judging.{judge}
use Rattle.cn_core.specs.Reading.{leading_sign, sign_len, typed_answer}
use Rattle.cn_core.specs.Text.{text_of, marks_of}
use Rattle.cn_core.specs.Whole.{Kind, signed_kind, unsigned_kind}
use Rattle.cn_core.proofs.Judging.{Judges-judge}
use Rattle.cn_judge.specs.declared.fault.NumeralFault.{NumeralFault}
use Rattle.cn_judge.specs.declared.fault.NumeralFault.TheVariants.{Empty, TooLarge, TooSmall, Start, Character, Digits, Units, Ge, Groups}
use Rattle.cn_judge.specs.Reason.{IsReason, naive_reason, reason_in, rule_broken_at}

-- the reason, by the judgement that `judge` computes
abbrev reason : Kind → List ℕ → Option NumeralFault
reason kind bytes =
    let text = text_of bytes in
    let sign = leading_sign kind.signed text in
    reason_in (rule_broken_at bytes)
    (typed_answer kind bytes sign (judge TenThousand (marks_of (drop (sign_len sign) text))))

reason-is : (kind : Kind) (bytes : List ℕ) → IsReason kind TenThousand bytes (reason kind bytes)
reason-is kind bytes =
    let marks = marks_of (drop (sign_len (leading_sign kind.signed (text_of bytes))) (text_of bytes))
    in (_, (judge TenThousand marks, Judges-judge TenThousand marks, refl), refl)

-- the reasons for refusals of an `i64`
abbrev reasons : List (List ℕ) → List (Option NumeralFault)
reasons texts = map (λ text. reason (signed_kind 64) (encode_utf8_all text)) texts

-- the examples of RULES, one for each rule
each_rule : reasons (codes "百五" ∷ codes "一角" ∷ codes "一二三" ∷ codes "一百十" ∷ codes "三個"
    ∷ codes "一萬二萬" ∷ [])
    ≡ Some Start ∷ Some Character ∷ Some Digits ∷ Some Units ∷ Some Ge ∷ Some Groups ∷ []
unfolding chars encode_utf8 digit_of rank_of sign_of
each_rule = refl

-- a reported character may break several rules: the first one counts
first_rule : reasons (codes "二十十" ∷ codes "一百個億" ∷ codes "百百個" ∷ [])
    ≡ Some Units ∷ Some Units ∷ Some Units ∷ []
unfolding chars encode_utf8 digit_of rank_of sign_of
first_rule = refl

-- it is the reported character that counts, and no other: 角 is not reported in 百百角
one_character : reasons (codes "百百角" ∷ codes "一百個" ∷ codes "個億" ∷ codes "128萬"
    ∷ codes "一百二十三元" ∷ [])
    ≡ Some Units ∷ Some Ge ∷ Some Start ∷ Some Digits ∷ Some Character ∷ []
unfolding chars encode_utf8 digit_of rank_of sign_of
one_character = refl

-- white space is left out, and so is the sign
white_space_and_signs : reasons (codes " 負 二 十 十" ∷ codes "一百二" ∷ codes "負" ∷ [])
    ≡ Some Units ∷ None ∷ Some Empty ∷ []
unfolding chars encode_utf8 digit_of rank_of sign_of
white_space_and_signs = refl

out_of_range : reasons (codes "一極個" ∷ codes "一萬京" ∷ codes "負一萬京" ∷ [])
    ≡ Some TooLarge ∷ Some TooLarge ∷ Some TooSmall ∷ []
unfolding chars encode_utf8 digit_of rank_of sign_of
out_of_range = refl

plain_digits : map (λ text. naive_reason (unsigned_kind 8) (encode_utf8_all text))
    (codes "一二" ∷ codes "一二三四" ∷ codes "一十" ∷ codes " " ∷ [])
    ≡ None ∷ Some TooLarge ∷ Some Character ∷ Some Empty ∷ []
unfolding chars encode_utf8 digit_of rank_of
plain_digits = refl
