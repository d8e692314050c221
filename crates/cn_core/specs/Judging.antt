-- The judgement of a text as a function. Contracts cite `Judges`, which says what the judgement is
-- and quantifies over all prefixes; the law `judgements_can_be_computed` says that it is this
-- function.
use Rattle.std.specs.Prelude.{ℕ, suc, List, [], ◌∷◌, Result, Err, if◌then◌else◌}
use Rattle.cn_core.specs.declared.method.ChineseCountMethod.{ChineseCountMethod}
use Rattle.cn_core.specs.Mark.{Mark}
use Rattle.cn_core.specs.Numeral.{each_may_precede, is_numeral}
use Rattle.cn_core.specs.Place.{body, is_early}
use Rattle.cn_core.specs.Refusal.{Refusal, empty, incorrect_at, too_large}
use Rattle.cn_core.specs.Judge.{numeral_answer, last_mark_answer}

-- the place: the first one after which every mark keeps the rules; 1 in 二十十
abbrev pub place_of : List Mark → ℕ
place_of [] = 0
place_of (mark ∷ rest) = if each_may_precede rest then 0 else suc (place_of rest)

-- the answer to a body that is not a numeral: its place is at fault, unless the body is too large
-- before that
abbrev pub judge_body : ChineseCountMethod → List Mark → Result ℕ Refusal
judge_body method marks =
    let place = place_of marks in
    if is_early method marks place then Err too_large else Err (incorrect_at place)

-- the answer to a text without sign
abbrev pub judge : ChineseCountMethod → List Mark → Result ℕ Refusal
judge method [] = Err empty
judge method (mark ∷ rest) =
    let marks = mark ∷ rest in
    if is_numeral marks then numeral_answer method marks
    else (if is_numeral (body marks) then last_mark_answer method marks
    else judge_body method (body marks))
