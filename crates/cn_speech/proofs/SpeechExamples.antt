-- Worked examples of texts as they are spoken.
use Rattle.std.proofs.Common.{◌≡◌, false, codes, refl, ℕ, List, []}
use Rattle.std.specs.Char.{encode_utf8}
use Rattle.std.specs.Str.{chars}
use Rattle.cn_core.specs.declared.unit.Unit.TheVariants.{Zhao}
use Rattle.cn_core.specs.declared.script.ChineseVariant.TheVariants.{Simple}
use Rattle.cn_core.specs.declared.method.ChineseCountMethod.TheVariants.{TenThousand}
use Rattle.cn_find.specs.declared.wanted.Wanted.{Wanted}
use Rattle.cn_speech.specs.declared.voice.One.TheVariants.{Yi}
use Rattle.cn_speech.specs.declared.voice.Voice.{Voice}
use Rattle.cn_speech.specs.Speech.{speech_from}
use Rattle.cn_speech.specs.Meant.{meant_from}
use Rattle.cn_codes.specs.Beside.{follows_letters, is_bridge as is_bridge_beside_code, is_sign_after, is_sign_before, touches_after, touches_before}
use Rattle.cn_codes.specs.CodeWords.{before_emergency, begins_after_name, begins_century, begins_emergency, begins_generation, begins_of_year, begins_room, begins_route, begins_service, ends_building_unit, ends_emergency, ends_word_of_codes, follows_building, follows_call, follows_word, is_called, is_generation, is_service, without_link}
use Rattle.cn_codes.specs.Codes.{is_bar as is_bar_of_code, is_between_chinese, is_between_figures, is_blank as is_blank_of_code, is_dash as is_dash_of_code, is_point as is_point_of_code, may_be_day}
use Rattle.cn_codes.specs.Counted.{begins_counted, is_counted, is_counted_by_two}
use Rattle.cn_codes.specs.Digits.{is_chinese, is_yao}
use Rattle.cn_codes.specs.Groups.{begins_hotline, begins_mobile, is_hotline, is_landline, is_mobile, is_mobile_in_groups}
use Rattle.cn_core.specs.Characters.{digit_char, digit_of, rank_of, sign_of as sign_of_numeral, unit_char}
use Rattle.cn_core.specs.FigureCharacters.{figure_of, tens_of}
use Rattle.cn_find.specs.Belongs.{begins_measure as begins_measure_that_belongs, belongs, is_upper}
use Rattle.cn_find.specs.Expressions.{begins_number as begins_number_in_text, begins_word, binds_minus, follows_one, is_han, is_item, is_kilo, is_numeric, is_tens, is_weight, joins, parts_expressions, precedes_minus}
use Rattle.cn_phrase.specs.Money.{is_next_word, is_no_yuan, is_one, is_particle, is_point as is_point_of_money, is_priced, is_share, is_sign as is_sign_of_money}
use Rattle.cn_phrase.specs.Phrases.{is_blank as is_blank_in_phrase, refused_before}
use Rattle.cn_phrase.specs.Pieces.{is_numeral, refused_by}
use Rattle.cn_phrase.specs.Ranges.{are_plain}
use Rattle.cn_phrase.specs.Shapes.{chinese_digit, is_hundred, is_ten, is_zero}
use Rattle.cn_phrase.specs.Words.{after_half_day, after_weekday}
use Rattle.cn_quantity.specs.Characters.{chinese_digit_of, is_fen, is_point as is_point_of_quantity, is_zhi, share_of, sign_of as sign_of_quantity}
use Rattle.cn_replace.specs.Clings.{begins_measure as begins_measure_that_clings, clings, is_bound, is_bridge as is_bridge_that_clings}
use Rattle.cn_replace.specs.KeptNumbers.{quantity_of}
use Rattle.cn_speech.specs.Joined.{begins_bridge, begins_letter, begins_slash, begins_year, is_after_group, is_after_name, is_before_group, is_name_after, is_name_before}
use Rattle.cn_speech.specs.Meant.{follows_clock, follows_counted, follows_measure, is_colon, is_minus, is_of_measure, label_sign, link_sign}
use Rattle.cn_speech.specs.Numbers.{begins_two, is_great, is_myriad, is_ordinal}
use Rattle.cn_speech.specs.Pairs.{follows_book, follows_with, has_share, is_between_scores, is_dash as is_dash_of_pair, is_shared, is_sign as is_sign_of_pair, is_slash}
use Rattle.cn_speech.specs.SpokenExpressions.{begins_no_measure, ends_ordinal}
use Rattle.cn_speech.specs.SpokenPhrases.{after_length, before_length}
use Rattle.cn_speech.specs.SpokenRanges.{high_said, is_bar as is_bar_of_range}
use Rattle.cn_speech.specs.Tails.{begins_day, begins_number as begins_number_of_tail, is_bar as is_bar_of_tail, is_each, is_link_sign, is_times}
use Rattle.cn_speech.specs.Voice.{traditional}

abbrev everyday : Wanted
everyday = record { upper = false; greatest = Zhao }

abbrev voice : Voice
voice = record { variant = Simple; method = TenThousand; one = Yi }

spoken : List ℕ → List ℕ
unfolding after_half_day after_length after_weekday are_plain before_emergency before_length
    begins_after_name begins_bridge begins_century begins_counted begins_day begins_emergency
    begins_generation begins_hotline begins_letter begins_measure_that_belongs
    begins_measure_that_clings begins_mobile begins_no_measure begins_number_in_text
    begins_number_of_tail begins_of_year begins_room begins_route begins_service begins_slash
    begins_two begins_word begins_year belongs binds_minus chinese_digit chinese_digit_of clings
    digit_char digit_of ends_building_unit ends_emergency ends_ordinal ends_word_of_codes
    figure_of follows_book follows_building follows_call follows_clock follows_counted
    follows_letters follows_measure follows_one follows_with follows_word has_share high_said is_after_group
    is_after_name is_bar_of_code is_bar_of_range is_bar_of_tail is_before_group is_between_chinese
    is_between_figures is_between_scores is_blank_in_phrase is_blank_of_code is_bound
    is_bridge_beside_code is_bridge_that_clings is_called is_chinese is_colon is_counted
    is_counted_by_two is_dash_of_code is_dash_of_pair is_each is_fen is_generation is_great is_han
    is_hotline is_hundred is_item is_kilo is_landline is_link_sign is_minus is_mobile
    is_mobile_in_groups is_myriad is_name_after is_name_before is_next_word is_no_yuan is_numeral
    is_numeric is_of_measure is_one is_ordinal is_particle is_point_of_code is_point_of_money
    is_point_of_quantity is_priced is_service is_share is_shared is_sign_after is_sign_before
    is_sign_of_money is_sign_of_pair is_slash is_ten is_tens is_times is_upper is_weight is_yao
    is_zero is_zhi joins label_sign link_sign may_be_day parts_expressions precedes_minus
    quantity_of rank_of refused_before refused_by share_of sign_of_numeral sign_of_quantity
    tens_of touches_after touches_before traditional unit_char without_link chars encode_utf8
spoken text = speech_from voice everyday 0 [] (meant_from [] text) text

a_time : spoken (codes "15:30到") ≡ codes "十五点三十分到"
unfolding spoken
a_time = refl

two_days : spoken (codes "2-3天") ≡ codes "两到三天"
unfolding spoken
two_days = refl

a_year : spoken (codes "2026年") ≡ codes "二零二六年"
unfolding spoken
a_year = refl

degrees : spoken (codes "-20~60°C") ≡ codes "零下二十到六十摄氏度"
unfolding spoken
degrees = refl

each : spoken (codes "19.9元/件") ≡ codes "十九点九元每件"
unfolding spoken
each = refl

times : spoken (codes "30cm×20cm") ≡ codes "三十厘米乘二十厘米"
unfolding spoken
times = refl

a_name : spoken (codes "x86") ≡ codes "x86"
unfolding spoken
a_name = refl

a_sum : spoken (codes "1+1=2") ≡ codes "1+1=2"
unfolding spoken
a_sum = refl

a_size : spoken (codes "640x480") ≡ codes "640x480"
unfolding spoken
a_size = refl

a_share : spoken (codes "3/4") ≡ codes "3/4"
unfolding spoken
a_share = refl

a_label : spoken (codes "时间：15:30") ≡ codes "时间：十五点三十分"
unfolding spoken
a_label = refl

prices : spoken (codes "5元-10元") ≡ codes "五元到十元"
unfolding spoken
prices = refl

hours : spoken (codes "9:00-17:00") ≡ codes "九点到十七点"
unfolding spoken
hours = refl

all : spoken (codes "100%") ≡ codes "百分之百"
unfolding spoken
all = refl

a_score : spoken (codes "3:2胜") ≡ codes "三比二胜"
unfolding spoken
a_score = refl
