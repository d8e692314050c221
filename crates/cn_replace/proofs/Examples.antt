-- Worked examples of the definitions.
use Rattle.std.proofs.Common.{◌≡◌, true, false, [], codes, refl}
use Rattle.std.specs.Char.{encode_utf8}
use Rattle.cn_core.specs.Characters.{digit_of, rank_of}
use Rattle.cn_find.specs.Expressions.{is_han}
use Rattle.cn_replace.specs.Canonical.{ascii_of, canonical_text, is_zero_figure}
use Rattle.cn_replace.specs.Clings.{begins_measure, clings, is_bound, is_bridge}
use Rattle.cn_replace.specs.Joined.{is_between, is_counter, is_hour, is_joint, is_length, is_link, is_of_amount, is_of_date, is_one, is_operation, joins, joins_three}
use Rattle.cn_replace.specs.KeptNumbers.{before_end, digits_text, end_of, is_ge, is_tenth, may_have_tenths}
use Rattle.cn_replace.specs.Parting.{is_noticed}

-- Chinese digits become figures one by one
digits : digits_text (codes "零四二七") ≡ codes "0427"
unfolding digit_of encode_utf8
digits = refl

-- 亿 is left at the end of a section, and so is 万 before it; 万 after 亿 is not
end-of-section : end_of [] (codes "三万亿") ≡ codes "万亿"
unfolding rank_of is_ge
end-of-section = refl

end-of-great : end_of [] (codes "一亿二千万兆") ≡ codes "兆"
unfolding rank_of is_ge
end-of-great = refl

before-end : before_end [] (codes "三个亿") ≡ codes "三"
unfolding rank_of is_ge
before-end = refl

-- 三亿二 has a decimal, 三万亿二 and 一兆二千亿五 have none; the texts are given last character first
tenth : is_tenth (codes "二亿三") ≡ true
unfolding digit_of rank_of is_ge is_tenth may_have_tenths
tenth = refl

no-tenth : is_tenth (codes "五亿千二兆一") ≡ false
unfolding digit_of rank_of is_ge is_tenth may_have_tenths
no-tenth = refl

-- 1,280.50 in full-width figures, and 007
plain : canonical_text (codes "１，２８０．５０") ≡ codes "1280.50"
unfolding ascii_of is_zero_figure
plain = refl

no-zeros : canonical_text (codes "-007") ≡ codes "-7"
unfolding ascii_of is_zero_figure
no-zeros = refl

-- 三百km does not cling to km, and 三百km2 does
by-itself : clings [] (codes "km，") ≡ false
unfolding clings begins_measure is_bound is_bridge encode_utf8
by-itself = refl

clinging : clings [] (codes "km2") ≡ true
unfolding clings begins_measure is_bound is_bridge encode_utf8
clinging = refl

-- 十二块三毛 is joined, 一百元三件 and 五十年一遇 are not
joined : joins (codes "块") (codes "三") (codes "毛五") ≡ true
unfolding is_between is_counter is_hour is_link is_of_amount is_of_date is_one is_operation
joined = refl

not-joined : joins (codes "元") (codes "三") (codes "件") ≡ false
unfolding is_between is_counter is_hour is_link is_of_amount is_of_date is_one
not-joined = refl

once : joins (codes "年") (codes "一") (codes "遇") ≡ false
unfolding is_between is_counter is_hour is_han is_joint is_length is_link is_of_amount is_of_date is_one
once = refl

hours : joins (codes "个小时") (codes "二十") (codes "分") ≡ true
unfolding joins_three
hours = refl

-- a colon is noticed, and a line feed is not
noticed : is_noticed 58 ≡ true
unfolding is_noticed
noticed = refl

unnoticed : is_noticed 10 ≡ false
unfolding is_noticed
unnoticed = refl
