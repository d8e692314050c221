-- Worked examples of doubts. Of the characters before an expression the nearest is the first in the
-- list.
use Rattle.std.proofs.Common.{◌≡◌, ℕ, Bool, true, false, List, [], codes, refl}
use Rattle.cn_core.specs.Characters.{digit_of, rank_of}
use Rattle.cn_core.specs.FigureCharacters.{tens_of}
use Rattle.cn_find.specs.Doubt.{ends_in_next_word, is_doubtful_list, is_part, is_term, is_time}
use Rattle.cn_find.specs.Expressions.{is_han, is_tens}
use Rattle.cn_find.specs.Ranges.{amount_of, is_of_amount, precedes}
use Rattle.cn_find.specs.Words.{is_of_word}

abbrev of_word : List ℕ → List ℕ → List ℕ → Bool
of_word front text after = is_of_word front text after

-- 十二指肠, 双十一, 正月十五; not 十二个
words : (of_word [] (codes "十二") (codes "指肠") ≡ true)
    × ((of_word (codes "双") (codes "十一") [] ≡ true)
    × ((of_word (codes "月正") (codes "十五") [] ≡ true)
    × (of_word [] (codes "十二") (codes "个") ≡ false)))
words = (refl, (refl, (refl, refl)))

-- 五一, 一二三四; not 八零年, 三零二室, 一九四九 or the 零五 of 点零五分
lists : (is_doubtful_list [] (codes "五一") (codes "假期") ≡ true)
    × ((is_doubtful_list [] (codes "一二三四") [] ≡ true)
    × ((is_doubtful_list [] (codes "八零") (codes "年") ≡ false)
    × ((is_doubtful_list [] (codes "三零二") (codes "室") ≡ false)
    × ((is_doubtful_list [] (codes "一九四九") [] ≡ false)
    × (is_doubtful_list (codes "点") (codes "零五") (codes "分") ≡ false)))))
unfolding digit_of
lists = (refl, (refl, (refl, (refl, (refl, refl)))))

-- 负二项, 两点三划线, 十六进制, 十一届三中; not 负三度
terms : (is_term (codes "负二") (codes "项") ≡ true)
    × ((is_term (codes "两点三") (codes "划线") ≡ true)
    × ((is_term (codes "十六") (codes "进制") ≡ true)
    × ((is_term (codes "十一") (codes "届三中") ≡ true)
    × (is_term (codes "负三") (codes "度") ≡ false))))
unfolding digit_of
terms = (refl, (refl, (refl, (refl, refl))))

-- 八五折, 三成, 十五天半; not 八折算
parts : (is_part (codes "八五") (codes "折") ≡ true)
    × ((is_part (codes "三") (codes "成") ≡ true)
    × ((is_part (codes "十五") (codes "天半") ≡ true)
    × (is_part (codes "八") (codes "折算") ≡ false)))
unfolding digit_of
parts = (refl, (refl, (refl, refl)))

-- 两百一个月, 八点一个人, 三十一共; not 两百一的, 三千一到三千二, 八点一个百分点 or 三点一米
next_words : (ends_in_next_word (codes "两百一") (codes "个月") ≡ true)
    × ((ends_in_next_word (codes "八点一") (codes "个人") ≡ true)
    × ((ends_in_next_word (codes "三十一") (codes "共") ≡ true)
    × ((ends_in_next_word (codes "两百一") (codes "的") ≡ false)
    × ((ends_in_next_word (codes "三千一") (codes "到三千二") ≡ false)
    × ((ends_in_next_word (codes "八点一") (codes "个百分点") ≡ false)
    × (ends_in_next_word (codes "三点一") (codes "米") ≡ false))))))
unfolding digit_of is_han
next_words = (refl, (refl, (refl, (refl, (refl, (refl, refl))))))

-- 下午三点五, 十点零五; not 三点零五倍
times : (is_time (codes "午") (codes "三点五") [] ≡ true)
    × ((is_time [] (codes "十点零五") [] ≡ true)
    × ((is_time [] (codes "三点零五") (codes "倍") ≡ false)
    × (is_time [] (codes "三点五") [] ≡ false)))
unfolding digit_of
times = (refl, (refl, (refl, refl)))

-- an amount at the start of a text, and a first end with whose next digit the second begins
amounts : (amount_of (codes "5万元") ≡ codes "5万") × (precedes (codes "五") (codes "六十") ≡ true)
unfolding digit_of rank_of is_of_amount is_tens tens_of
amounts = (refl, refl)
