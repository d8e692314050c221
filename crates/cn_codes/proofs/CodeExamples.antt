-- Worked examples of codes.
use Rattle.std.proofs.Common.{◌≡◌, ◌-◌, true, false, codes, refl, ℕ, List, Option, Some, None, [], length, take, is_some}
use Rattle.std.specs.Option.{option_and_then}
use Rattle.std.specs.Char.{encode_utf8}
use Rattle.cn_core.specs.Characters.{digit_of, rank_of}
use Rattle.cn_core.specs.FigureCharacters.{figure_of}
use Rattle.cn_codes.specs.Beside.{follows_letters, is_bridge, is_sign_after, is_sign_before, touches_after, touches_before}
use Rattle.cn_codes.specs.CodeWords.{before_emergency, begins_after_name, begins_century, begins_emergency, begins_generation, begins_of_year, begins_room, begins_route, begins_service, ends_building_unit, ends_emergency, ends_word_of_codes, follows_building, follows_call, follows_word, is_called, is_generation, is_service, without_link}
use Rattle.cn_codes.specs.Codes.{code_at, is_bar, is_between_chinese, is_between_figures, is_blank, is_dash, is_point, may_be_day}
use Rattle.cn_codes.specs.CodesInFigures.{begins_addressed, begins_measured, begins_unit, begins_unmeasured, code_character, code_text, is_alone, is_building, is_key, is_measured}
use Rattle.cn_codes.specs.CodesInText.{single_at}
use Rattle.cn_codes.specs.Counted.{begins_counted, is_counted, is_counted_by_two}
use Rattle.cn_codes.specs.Digits.{is_chinese, is_yao}
use Rattle.cn_codes.specs.Tens.{is_one_to_nine, tens_version_at}
use Rattle.cn_codes.specs.Groups.{begins_hotline, begins_mobile, is_hotline, is_landline, is_mobile, is_mobile_in_groups}

abbrev in_figures : List ℕ → List ℕ → Option (List ℕ)
in_figures front text =
    option_and_then (λ code. code_text (take (length text - length code.rest) text)) (code_at front text)

mobile : in_figures [] (codes "幺三八零零一三八零零零") ≡ Some (codes "13800138000")
unfolding begins_century begins_emergency begins_generation begins_hotline begins_mobile begins_service before_emergency ends_building_unit ends_emergency ends_word_of_codes without_link may_be_day begins_after_name begins_counted begins_of_year begins_room begins_route code_character digit_of encode_utf8 figure_of follows_building follows_call follows_letters follows_word is_bar is_between_chinese is_between_figures is_blank is_bridge is_called is_chinese is_counted is_counted_by_two is_dash is_generation is_hotline is_landline is_mobile is_mobile_in_groups is_point is_service is_sign_after is_sign_before is_yao touches_after touches_before
mobile = refl

address : in_figures [] (codes "一九二点一六八点一点一") ≡ Some (codes "192.168.1.1")
unfolding begins_century begins_emergency begins_generation begins_hotline begins_mobile begins_service before_emergency ends_building_unit ends_emergency ends_word_of_codes without_link may_be_day begins_after_name begins_counted begins_of_year begins_room begins_route code_character digit_of encode_utf8 figure_of follows_building follows_call follows_letters follows_word is_bar is_between_chinese is_between_figures is_blank is_bridge is_called is_chinese is_counted is_counted_by_two is_dash is_generation is_hotline is_landline is_mobile is_mobile_in_groups is_point is_service is_sign_after is_sign_before is_yao touches_after touches_before
address = refl

times : in_figures [] (codes "三点四点五点") ≡ None
unfolding begins_century begins_emergency begins_generation begins_hotline begins_mobile begins_service before_emergency ends_building_unit ends_emergency ends_word_of_codes without_link may_be_day begins_after_name begins_counted begins_of_year begins_room begins_route code_character digit_of encode_utf8 figure_of follows_building follows_call follows_letters follows_word is_bar is_between_chinese is_between_figures is_blank is_bridge is_called is_chinese is_counted is_counted_by_two is_dash is_generation is_hotline is_landline is_mobile is_mobile_in_groups is_point is_service is_sign_after is_sign_before is_yao touches_after touches_before
times = refl

youngest : in_figures [] (codes "幺妹") ≡ None
unfolding begins_century begins_emergency begins_generation begins_hotline begins_mobile begins_service before_emergency ends_building_unit ends_emergency ends_word_of_codes without_link may_be_day begins_after_name begins_counted begins_of_year begins_room begins_route code_character digit_of encode_utf8 figure_of follows_building follows_call follows_letters follows_word is_bar is_between_chinese is_between_figures is_blank is_bridge is_called is_chinese is_counted is_counted_by_two is_dash is_generation is_hotline is_landline is_mobile is_mobile_in_groups is_point is_service is_sign_after is_sign_before is_yao touches_after touches_before
youngest = refl

call : in_figures (codes "打") (codes "幺幺零") ≡ Some (codes "110")
unfolding begins_century begins_emergency begins_generation begins_hotline begins_mobile begins_service before_emergency ends_building_unit ends_emergency ends_word_of_codes without_link may_be_day begins_after_name begins_counted begins_of_year begins_room begins_route code_character digit_of encode_utf8 figure_of follows_building follows_call follows_letters follows_word is_bar is_between_chinese is_between_figures is_blank is_bridge is_called is_chinese is_counted is_counted_by_two is_dash is_generation is_hotline is_landline is_mobile is_mobile_in_groups is_point is_service is_sign_after is_sign_before is_yao touches_after touches_before
call = refl

count : in_figures [] (codes "一二三四五六七八") ≡ None
unfolding begins_century begins_emergency begins_generation begins_hotline begins_mobile begins_service before_emergency ends_building_unit ends_emergency ends_word_of_codes without_link may_be_day begins_after_name begins_counted begins_of_year begins_room begins_route code_character digit_of encode_utf8 figure_of follows_building follows_call follows_letters follows_word is_bar is_between_chinese is_between_figures is_blank is_bridge is_called is_chinese is_counted is_counted_by_two is_dash is_generation is_hotline is_landline is_mobile is_mobile_in_groups is_point is_service is_sign_after is_sign_before is_yao touches_after touches_before
count = refl

parcel : in_figures (codes "码件取") (codes "四杠七杠二零幺九") ≡ Some (codes "4-7-2019")
unfolding begins_century begins_emergency begins_generation begins_hotline begins_mobile begins_service before_emergency ends_building_unit ends_emergency ends_word_of_codes without_link may_be_day begins_after_name begins_counted begins_of_year begins_room begins_route code_character digit_of encode_utf8 figure_of follows_building follows_call follows_letters follows_word is_bar is_between_chinese is_between_figures is_blank is_bridge is_called is_chinese is_counted is_counted_by_two is_dash is_generation is_hotline is_landline is_mobile is_mobile_in_groups is_point is_service is_sign_after is_sign_before is_yao touches_after touches_before
parcel = refl

price : is_some (code_at (codes "费话电") (codes "128元")) ≡ false
unfolding begins_century begins_emergency begins_generation begins_hotline begins_mobile begins_service before_emergency ends_building_unit ends_emergency ends_word_of_codes without_link may_be_day begins_after_name begins_counted begins_of_year begins_room begins_route code_character digit_of encode_utf8 figure_of follows_building follows_call follows_letters follows_word is_bar is_between_chinese is_between_figures is_blank is_bridge is_called is_chinese is_counted is_counted_by_two is_dash is_generation is_hotline is_landline is_mobile is_mobile_in_groups is_point is_service is_sign_after is_sign_before is_yao touches_after touches_before
price = refl

landline : is_some (code_at [] (codes "010-62345678转")) ≡ true
unfolding begins_century begins_emergency begins_generation begins_hotline begins_mobile begins_service before_emergency ends_building_unit ends_emergency ends_word_of_codes without_link may_be_day begins_after_name begins_counted begins_of_year begins_room begins_route code_character digit_of encode_utf8 figure_of follows_building follows_call follows_letters follows_word is_bar is_between_chinese is_between_figures is_blank is_bridge is_called is_chinese is_counted is_counted_by_two is_dash is_generation is_hotline is_landline is_mobile is_mobile_in_groups is_point is_service is_sign_after is_sign_before is_yao touches_after touches_before
landline = refl

calls : is_some (code_at (codes "打") (codes "120个电话")) ≡ false
unfolding begins_century begins_emergency begins_generation begins_hotline begins_mobile begins_service before_emergency ends_building_unit ends_emergency ends_word_of_codes without_link may_be_day begins_after_name begins_counted begins_of_year begins_room begins_route code_character digit_of encode_utf8 figure_of follows_building follows_call follows_letters follows_word is_bar is_between_chinese is_between_figures is_blank is_bridge is_called is_chinese is_counted is_counted_by_two is_dash is_generation is_hotline is_landline is_mobile is_mobile_in_groups is_point is_service is_sign_after is_sign_before is_yao touches_after touches_before
calls = refl

clause : is_some (code_at (codes "打拨请") (codes "110，2-3天")) ≡ true
unfolding begins_century begins_emergency begins_generation begins_hotline begins_mobile begins_service before_emergency ends_building_unit ends_emergency ends_word_of_codes without_link may_be_day begins_after_name begins_counted begins_of_year begins_room begins_route code_character digit_of encode_utf8 figure_of follows_building follows_call follows_letters follows_word is_bar is_between_chinese is_between_figures is_blank is_bridge is_called is_chinese is_counted is_counted_by_two is_dash is_generation is_hotline is_landline is_mobile is_mobile_in_groups is_point is_service is_sign_after is_sign_before is_yao touches_after touches_before
clause = refl

joined : is_some (code_at (codes "话电") (codes "128,280")) ≡ false
unfolding begins_century begins_emergency begins_generation begins_hotline begins_mobile begins_service before_emergency ends_building_unit ends_emergency ends_word_of_codes without_link may_be_day begins_after_name begins_counted begins_of_year begins_room begins_route code_character digit_of encode_utf8 figure_of follows_building follows_call follows_letters follows_word is_bar is_between_chinese is_between_figures is_blank is_bridge is_called is_chinese is_counted is_counted_by_two is_dash is_generation is_hotline is_landline is_mobile is_mobile_in_groups is_point is_service is_sign_after is_sign_before is_yao touches_after touches_before
joined = refl

four_after_comma : is_some (code_at (codes "话电") (codes "128,2800")) ≡ true
unfolding begins_century begins_emergency begins_generation begins_hotline begins_mobile begins_service before_emergency ends_building_unit ends_emergency ends_word_of_codes without_link may_be_day begins_after_name begins_counted begins_of_year begins_room begins_route code_character digit_of encode_utf8 figure_of follows_building follows_call follows_letters follows_word is_bar is_between_chinese is_between_figures is_blank is_bridge is_called is_chinese is_counted is_counted_by_two is_dash is_generation is_hotline is_landline is_mobile is_mobile_in_groups is_point is_service is_sign_after is_sign_before is_yao touches_after touches_before
four_after_comma = refl

generation : is_some (code_at [] (codes "90后")) ≡ true
unfolding begins_century begins_emergency begins_generation begins_hotline begins_mobile begins_service before_emergency ends_building_unit ends_emergency ends_word_of_codes without_link may_be_day begins_after_name begins_counted begins_of_year begins_room begins_route code_character digit_of encode_utf8 figure_of follows_building follows_call follows_letters follows_word is_bar is_between_chinese is_between_figures is_blank is_bridge is_called is_chinese is_counted is_counted_by_two is_dash is_generation is_hotline is_landline is_mobile is_mobile_in_groups is_point is_service is_sign_after is_sign_before is_yao touches_after touches_before
generation = refl

discount : is_some (code_at (codes "减003满") (codes "50后")) ≡ false
unfolding begins_century begins_emergency begins_generation begins_hotline begins_mobile begins_service before_emergency ends_building_unit ends_emergency ends_word_of_codes without_link may_be_day begins_after_name begins_counted begins_of_year begins_room begins_route code_character digit_of encode_utf8 figure_of follows_building follows_call follows_letters follows_word is_bar is_between_chinese is_between_figures is_blank is_bridge is_called is_chinese is_counted is_counted_by_two is_dash is_generation is_hotline is_landline is_mobile is_mobile_in_groups is_point is_service is_sign_after is_sign_before is_yao touches_after touches_before
discount = refl

second_call : is_some (code_at (codes "或011打") (codes "120")) ≡ true
unfolding begins_century begins_emergency begins_generation begins_hotline begins_mobile begins_service before_emergency ends_building_unit ends_emergency ends_word_of_codes without_link may_be_day begins_after_name begins_counted begins_of_year begins_room begins_route code_character digit_of encode_utf8 figure_of follows_building follows_call follows_letters follows_word is_bar is_between_chinese is_between_figures is_blank is_bridge is_called is_chinese is_counted is_counted_by_two is_dash is_generation is_hotline is_landline is_mobile is_mobile_in_groups is_point is_service is_sign_after is_sign_before is_yao touches_after touches_before
second_call = refl

expressway : in_figures (codes "G") (codes "四五大广高速") ≡ Some (codes "45")
unfolding begins_century begins_emergency begins_generation begins_hotline begins_mobile begins_service before_emergency ends_building_unit ends_emergency ends_word_of_codes without_link may_be_day begins_after_name begins_counted begins_of_year begins_room begins_route code_character digit_of encode_utf8 figure_of follows_building follows_call follows_letters follows_word is_bar is_between_chinese is_between_figures is_blank is_bridge is_called is_chinese is_counted is_counted_by_two is_dash is_generation is_hotline is_landline is_mobile is_mobile_in_groups is_point is_service is_sign_after is_sign_before is_yao touches_after touches_before
expressway = refl

guests : is_some (code_at (codes "PIV") (codes "三四天")) ≡ false
unfolding begins_century begins_emergency begins_generation begins_hotline begins_mobile begins_service before_emergency ends_building_unit ends_emergency ends_word_of_codes without_link may_be_day begins_after_name begins_counted begins_of_year begins_room begins_route code_character digit_of encode_utf8 figure_of follows_building follows_call follows_letters follows_word is_bar is_between_chinese is_between_figures is_blank is_bridge is_called is_chinese is_counted is_counted_by_two is_dash is_generation is_hotline is_landline is_mobile is_mobile_in_groups is_point is_service is_sign_after is_sign_before is_yao touches_after touches_before
guests = refl

catty : is_some (single_at (codes "买") (codes "十斤送")) ≡ true
unfolding begins_addressed begins_measured begins_unit begins_unmeasured digit_of encode_utf8 is_alone is_building is_chinese is_key is_measured rank_of
catty = refl

somersault : is_some (single_at (codes "翻") (codes "十斤斗")) ≡ false
unfolding begins_addressed begins_measured begins_unit begins_unmeasured digit_of encode_utf8 is_alone is_building is_chinese is_key is_measured rank_of
somersault = refl

abbrev tens_in_figures : List ℕ → Option (List ℕ)
tens_in_figures text =
    option_and_then (λ code. code_text (take (length text - length code.rest) text)) (tens_version_at [] text)

version : tens_in_figures (codes "十七点五点一版") ≡ Some (codes "17.5.1")
unfolding begins_century begins_emergency begins_generation begins_hotline begins_mobile begins_service before_emergency ends_building_unit ends_emergency ends_word_of_codes without_link may_be_day begins_after_name begins_counted begins_of_year begins_room begins_route code_character digit_of encode_utf8 figure_of follows_building follows_call follows_letters follows_word is_bar is_between_chinese is_between_figures is_blank is_bridge is_called is_chinese is_counted is_counted_by_two is_dash is_generation is_hotline is_landline is_mobile is_mobile_in_groups is_point is_service is_sign_after is_sign_before is_yao touches_after touches_before is_one_to_nine
version = refl

even_version : tens_in_figures (codes "二十點三點零零") ≡ Some (codes "20.3.00")
unfolding begins_century begins_emergency begins_generation begins_hotline begins_mobile begins_service before_emergency ends_building_unit ends_emergency ends_word_of_codes without_link may_be_day begins_after_name begins_counted begins_of_year begins_room begins_route code_character digit_of encode_utf8 figure_of follows_building follows_call follows_letters follows_word is_bar is_between_chinese is_between_figures is_blank is_bridge is_called is_chinese is_counted is_counted_by_two is_dash is_generation is_hotline is_landline is_mobile is_mobile_in_groups is_point is_service is_sign_after is_sign_before is_yao touches_after touches_before is_one_to_nine
even_version = refl

later_times : tens_in_figures (codes "十点三点五点") ≡ None
unfolding begins_century begins_emergency begins_generation begins_hotline begins_mobile begins_service before_emergency ends_building_unit ends_emergency ends_word_of_codes without_link may_be_day begins_after_name begins_counted begins_of_year begins_room begins_route code_character digit_of encode_utf8 figure_of follows_building follows_call follows_letters follows_word is_bar is_between_chinese is_between_figures is_blank is_bridge is_called is_chinese is_counted is_counted_by_two is_dash is_generation is_hotline is_landline is_mobile is_mobile_in_groups is_point is_service is_sign_after is_sign_before is_yao touches_after touches_before is_one_to_nine
later_times = refl
