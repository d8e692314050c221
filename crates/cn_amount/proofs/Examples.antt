-- Worked examples: the values that the definitions compute. The marked ones are from the rules of
-- the banks.
use Rattle.std.proofs.Common.{◌≡◌, ℕ, ◌-◌, ◌^◌, pos, negsuc, ℤ, Bool, true, false, List, ◌∷◌, map, Some, None, length, encode_utf8_all, refl, sym, ◌∙◌, codes}
use Rattle.std.specs.Char.{encode_utf8}
use Rattle.std.specs.List.{Contains}
use Rattle.cn_grammar.specs.Machine as machine
use Rattle.cn_grammar.specs.Repairs.{repaired, past}
use Rattle.cn_grammar.specs.declared.hint.Repair.TheVariants.{Insert, Replace, Delete}
use Rattle.cn_core.specs.declared.script.ChineseVariant.TheVariants.{Traditional, Simple}
use Rattle.cn_core.specs.Characters.{digit_char, minus_char, unit_char}
use Rattle.cn_core.specs.Whole.{signed_number}
use Rattle.cn_amount.specs.declared.form.AmountForm.{AmountForm}
use Rattle.cn_amount.specs.Form.{Choices, amount_form}
use Rattle.cn_amount.specs.Fronts.{begins_with, without_front}
use Rattle.cn_amount.specs.Invoice.{invoice_amount_text}
use Rattle.cn_amount.specs.Places.{places_of}
use Rattle.cn_amount.specs.Reading.{capital_of, capitals_of}
use Rattle.cn_amount.specs.Signed.{minus_signs, signed_amount_text}
use Rattle.cn_amount.specs.Typed.{below_signs, currencies, orders, visible, IsTypedSignedAmount}
use Rattle.cn_amount.specs.Working.Typing.{typed_signed_machine}
use Rattle.cn_amount.specs.Writes.{amount_text, plain}
use Rattle.cn_amount.proofs.Prefixes.{has, has-contains}
use Rattle.cn_amount.proofs.TypedReads.{typed_signed_reads}

-- from the rules, without 整
jiao_alone : amount_text Simple plain 140950 ≡ codes "壹仟肆佰零玖元伍角整"
unfolding digit_char unit_char
jiao_alone = refl

-- from the rules
zeros_inside : amount_text Simple plain 600714 ≡ codes "陆仟零柒元壹角肆分"
unfolding digit_char unit_char
zeros_inside = refl

-- from the rules
none_before_jiao : amount_text Simple plain 168032 ≡ codes "壹仟陆佰捌拾元叁角贰分"
unfolding digit_char unit_char
none_before_jiao = refl

-- from the rules
zero_behind_wan : amount_text Simple plain 10700053 ≡ codes "壹拾万零柒仟元伍角叁分"
unfolding digit_char unit_char
zero_behind_wan = refl

-- from the rules
zero_before_fen : amount_text Simple plain 1640902 ≡ codes "壹万陆仟肆佰零玖元零贰分"
unfolding digit_char unit_char
zero_before_fen = refl

-- from the rules
fen_alone : amount_text Simple plain 32504 ≡ codes "叁佰贰拾伍元零肆分"
unfolding digit_char unit_char
fen_alone = refl

fifteen : amount_text Simple plain 1500 ≡ codes "壹拾伍元整"
unfolding digit_char unit_char
fifteen = refl

traditional : amount_text Traditional plain 23600000000 ≡ codes "貳億參仟陸佰萬元整"
unfolding digit_char unit_char
traditional = refl

ten_and_jiao : amount_text Simple plain 1010 ≡ codes "壹拾元壹角整"
unfolding digit_char unit_char
ten_and_jiao = refl

ten_and_fen : amount_text Simple plain 1001 ≡ codes "壹拾元零壹分"
unfolding digit_char unit_char
ten_and_fen = refl

nothing : amount_text Simple plain 0 ≡ codes "零元整"
unfolding digit_char unit_char
nothing = refl

five_fen : amount_text Simple plain 5 ≡ codes "伍分"
unfolding digit_char unit_char
five_fen = refl

five_jiao : amount_text Simple plain 50 ≡ codes "伍角整"
unfolding digit_char unit_char
five_jiao = refl

hundred_thousand : amount_text Simple plain 10000000 ≡ codes "壹拾万元整"
unfolding digit_char unit_char
hundred_thousand = refl

zero_before_hundreds : amount_text Simple plain 128050000 ≡ codes "壹佰贰拾捌万零伍佰元整"
unfolding digit_char unit_char
zero_before_hundreds = refl

zero_before_tens : amount_text Simple plain 10010000000 ≡ codes "壹亿零壹拾万元整"
unfolding digit_char unit_char
zero_before_tens = refl

zero_behind_yi : amount_text Simple plain 102000000000 ≡ codes "壹拾亿零贰仟万元整"
unfolding digit_char unit_char
zero_behind_yi = refl

no_wan : amount_text Simple plain 100000700000 ≡ codes "壹拾亿零柒仟元整"
unfolding digit_char unit_char
no_wan = refl

wan_yi : amount_text Simple plain (10 ^ 14) ≡ codes "壹万亿元整"
unfolding digit_char unit_char
wan_yi = refl

greatest : amount_text Simple plain (10 ^ 18 - 1) ≡ codes "玖仟玖佰玖拾玖万玖仟玖佰玖拾玖亿玖仟玖佰玖拾玖万玖仟玖佰玖拾玖元玖角玖分"
unfolding digit_char unit_char
greatest = refl

-- the form with these choices
abbrev asking : Bool → Bool → Bool → AmountForm
asking currency round upright = record {
  currency = currency;
  round_yuan = round;
  upright_closing = upright;
  bracketed_sign = false;
}

currency_asked_for : amount_text Simple (asking true false false) 1500 ≡ codes "人民币壹拾伍元整"
unfolding digit_char unit_char
currency_asked_for = refl

round_yuan_asked_for : amount_text Simple (asking false true false) 1500 ≡ codes "壹拾伍圆整"
unfolding digit_char unit_char
round_yuan_asked_for = refl

upright_closing_asked_for : amount_text Simple (asking false false true) 1500 ≡ codes "壹拾伍元正"
unfolding digit_char unit_char
upright_closing_asked_for = refl

all_asked_for : amount_text Traditional (asking true true true) 1500 ≡ codes "人民幣壹拾伍圓正"
unfolding digit_char unit_char
all_asked_for = refl

-- forms that are read but not written, by their choices
abbrev choosing : Bool → Bool → Bool → Bool → Bool → Choices
choosing currency no_yuan wan yuan jiao = record {
  currency = currency;
  no_yuan = no_yuan;
  behind_wan_yi = true;
  behind_yi = true;
  behind_wan = wan;
  behind_yuan = yuan;
  behind_jiao = jiao;
}

-- from the rules
no_zero_behind_wan : capitals_of (codes "壹拾万柒仟元零伍角叁分")
    ≡ map Some (amount_form (choosing false false false true true) (places_of 10700053))
unfolding capital_of
no_zero_behind_wan = refl

-- from the rules
nothing_behind_jiao : capitals_of (codes "壹仟肆佰零玖元伍角")
    ≡ map Some (amount_form (choosing false false true true false) (places_of 140950))
unfolding capital_of
nothing_behind_jiao = refl

zero_before_jiao : capitals_of (codes "壹拾元零壹角整")
    ≡ map Some (amount_form (choosing false false true true true) (places_of 1010))
unfolding capital_of
zero_before_jiao = refl

no_yuan_named : capitals_of (codes "零元伍角")
    ≡ map Some (amount_form (choosing false true true false false) (places_of 50))
unfolding capital_of
no_yuan_named = refl

no_yuan_and_zero : capitals_of (codes "零元零伍分")
    ≡ map Some (amount_form (choosing false true true false false) (places_of 5))
unfolding capital_of
no_yuan_and_zero = refl

currency_in_front : capitals_of (codes "人民幣叄佰貳拾伍圓零肆分")
    ≡ map Some (amount_form (choosing true false true true true) (places_of 32504))
unfolding capital_of
currency_in_front = refl

-- amounts below zero
fifteen_below : signed_amount_text Simple plain (negsuc 1499) ≡ codes "负壹拾伍元整"
unfolding digit_char unit_char minus_char
fifteen_below = refl

asked_for_below : signed_amount_text Traditional (asking true true true) (negsuc 1499)
    ≡ codes "負人民幣壹拾伍圓正"
unfolding digit_char unit_char minus_char
asked_for_below = refl

fifteen_above : signed_amount_text Simple plain (pos 1500) ≡ codes "壹拾伍元整"
unfolding digit_char unit_char minus_char
fifteen_above = refl

zero_has_no_sign : signed_amount_text Simple plain (pos 0) ≡ codes "零元整"
unfolding digit_char unit_char minus_char
zero_has_no_sign = refl

-- with the sign of the form
abbrev bracketing : Bool → AmountForm
bracketing currency = record (asking currency false false) { bracketed_sign = true }

bracketed_sign_asked_for : invoice_amount_text Simple (bracketing false) (negsuc 1499)
    ≡ codes "（负数）壹拾伍元整"
unfolding digit_char unit_char minus_char
bracketed_sign_asked_for = refl

sign_before_人民币 : invoice_amount_text Traditional (bracketing true) (negsuc 1499)
    ≡ codes "（負數）人民幣壹拾伍元整"
unfolding digit_char unit_char minus_char
sign_before_人民币 = refl

no_bracket_asked_for : invoice_amount_text Simple (asking true false false) (negsuc 1499)
    ≡ codes "负人民币壹拾伍元整"
unfolding digit_char unit_char minus_char
no_bracket_asked_for = refl

no_sign_above_zero : invoice_amount_text Simple (bracketing false) (pos 1500) ≡ codes "壹拾伍元整"
unfolding digit_char unit_char minus_char
no_sign_above_zero = refl

-- 129 bytes
longest : length (encode_utf8_all (invoice_amount_text Simple (bracketing true) (negsuc (10 ^ 18 - 2))))
    ≡ 129
unfolding digit_char unit_char minus_char encode_utf8
longest = refl

-- the text after the sign is an amount
behind_the_sign : without_front minus_signs (codes "負壹拾伍元整") ≡ codes "壹拾伍元整"
behind_the_sign = refl

one_sign : without_front minus_signs (codes "负负壹元整") ≡ codes "负壹元整"
one_sign = refl

minus_zero : signed_number (begins_with minus_signs (codes "负零元整")) 0 ≡ pos 0
minus_zero = refl

-- typed texts
white_space_left_out : visible (codes "人民币 壹拾 伍元 整") ≡ codes "人民币壹拾伍元整"
white_space_left_out = refl

wide_space_left_out : visible (0x3000 ∷ codes "壹元整") ≡ codes "壹元整"
wide_space_left_out = refl

-- the texts of one part
some_of_人民币 : Contains currencies (codes "人民幣(大寫)：")
some_of_人民币 = has-contains currencies (codes "人民幣(大寫)：") refl

no_name_no_colon : has currencies (codes "：") ≡ false
no_name_no_colon = refl

no_note_behind_the_colon : has currencies (codes "人民币：（大写）") ≡ false
no_note_behind_the_colon = refl

one_script : has below_signs (codes "（负數）") ≡ false
one_script = refl

one_width : has below_signs (codes "（负数)") ≡ false
one_width = refl

-- the orders
circle_first : has (orders (codes "ⓧ") (codes "负") (codes "人民币")) (codes "ⓧ负人民币") ≡ true
circle_first = refl

sign_first : has (orders (codes "ⓧ") (codes "负") (codes "人民币")) (codes "负ⓧ人民币") ≡ true
sign_first = refl

sign_last : has (orders (codes "ⓧ") (codes "负") (codes "人民币")) (codes "ⓧ人民币负") ≡ true
sign_last = refl

no_circle_behind_人民币 : has (orders (codes "ⓧ") (codes "负") (codes "人民币"))
    (codes "负人民币ⓧ") ≡ false
no_circle_behind_人民币 = refl

-- what the states refuse is no amount
abbrev Refuses : List ℕ → Type 0
Refuses text =
    machine.run typed_signed_machine.step typed_signed_machine.begin text ≡ None

refused : (text : List ℕ) → Refuses text → (fen : ℤ) → ¬ IsTypedSignedAmount text fen
refused text none fen h =
    let read = typed_signed_reads.each text fen h in
    let wrong : None ≡ Some read.0 = sym none ∙ read.1 in absurd (cc)

second_circle : (fen : ℤ) → ¬ IsTypedSignedAmount (codes "⊗ ⓧ壹元整") fen
unfolding capital_of
second_circle = refused (codes "⊗ ⓧ壹元整") refl

second_sign : (fen : ℤ) → ¬ IsTypedSignedAmount (codes "（负数）人民币负壹元整") fen
unfolding capital_of
second_sign = refused (codes "（负数）人民币负壹元整") refl

second_currency : (fen : ℤ) → ¬ IsTypedSignedAmount (codes "人民币负人民币壹元整") fen
unfolding capital_of
second_currency = refused (codes "人民币负人民币壹元整") refl

circle_inside : (fen : ℤ) → ¬ IsTypedSignedAmount (codes "人民币⊗壹元整") fen
unfolding capital_of
circle_inside = refused (codes "人民币⊗壹元整") refl

colon_inside : (fen : ℤ) → ¬ IsTypedSignedAmount (codes "壹拾:伍元整") fen
unfolding capital_of
colon_inside = refused (codes "壹拾:伍元整") refl

-- texts after one change
ling_inserted : repaired (record { char_index = 2; repair = Insert 0x96F6 }) (codes "壹佰贰元整")
    ≡ codes "壹佰零贰元整"
ling_inserted = refl

yuan_replaced : repaired (record { char_index = 2; repair = Replace 0x5143 }) (codes "伍佰块整")
    ≡ codes "伍佰元整"
yuan_replaced = refl

ling_deleted : repaired (record { char_index = 2; repair = Delete }) (codes "捌佰零伍拾元整")
    ≡ codes "捌佰伍拾元整"
ling_deleted = refl

-- how much of them must begin an amount: 壹佰零贰元, 伍佰元, 捌佰伍拾
past_inserted : past 3 (record { char_index = 2; repair = Insert 0x96F6 }) ≡ 5
past_inserted = refl

past_replaced : past 2 (record { char_index = 2; repair = Replace 0x5143 }) ≡ 3
past_replaced = refl

past_deleted : past 4 (record { char_index = 2; repair = Delete }) ≡ 4
past_deleted = refl
