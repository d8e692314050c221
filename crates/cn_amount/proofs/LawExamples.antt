-- For each law with premises, values that meet all of them.
use Rattle.std.proofs.Common.{◌≡◌, ℕ, ◌-◌, ◌^◌, ◌<◌, negsuc, nat_abs, Bool, true, false, List, [], ◌++◌, map, Some, codes, refl, arith}
use Rattle.cn_amount.specs.Form.{Choices, written, amount_form}
use Rattle.cn_amount.specs.Places.{amount_limit, places_of}
use Rattle.cn_amount.specs.Reading.{capital_of, capitals_of, IsAmount}
use Rattle.cn_amount.specs.Signed.{IsSignedAmount}
use Rattle.cn_amount.specs.Typed.{circles, signs, currencies, orders, IsPrefixed, IsTypedAmount, IsTypedSignedAmount}
use Rattle.cn_amount.proofs.FormsShown.{amount-of, places-of}
use Rattle.cn_amount.proofs.Prefixes.{has, has-contains}

-- a form of an amount, by its choices
form-of : (text : List ℕ) (choices : Choices) (fen : ℕ) → fen < amount_limit
    → capitals_of text ≡ map Some (amount_form choices (places_of fen)) → IsAmount text fen
form-of text choices fen low form = record {
  choices = choices;
  places = places_of fen;
  digits = places-of fen;
  form = form;
  value = amount-of fen low;
}

abbrev with_currency : Choices
with_currency = record {
  currency = true;
  no_yuan = false;
  behind_wan_yi = true;
  behind_yi = true;
  behind_wan = true;
  behind_yuan = false;
  behind_jiao = true;
}

fifteen : IsAmount (codes "壹拾伍元整") 1500
unfolding capital_of
fifteen = form-of (codes "壹拾伍元整") written 1500 (omega arith) refl

-- the greatest amount
greatest : IsAmount (codes "玖仟玖佰玖拾玖万玖仟玖佰玖拾玖亿玖仟玖佰玖拾玖万玖仟玖佰玖拾玖元玖角玖分") (10 ^ 18 - 1)
unfolding capital_of
greatest =
    form-of
    (codes "玖仟玖佰玖拾玖万玖仟玖佰玖拾玖亿玖仟玖佰玖拾玖万玖仟玖佰玖拾玖元玖角玖分")
    written (10 ^ 18 - 1) (omega arith) refl

written_amounts_are_amounts : 10 ^ 18 - 1 < amount_limit
written_amounts_are_amounts = omega arith

amounts_are_below_the_limit : IsAmount
    (codes "玖仟玖佰玖拾玖万玖仟玖佰玖拾玖亿玖仟玖佰玖拾玖万玖仟玖佰玖拾玖元玖角玖分") (10 ^ 18 - 1)
amounts_are_below_the_limit = greatest

-- 39 characters
forms_are_short : IsAmount
    (codes "人民币玖仟玖佰玖拾玖万玖仟玖佰玖拾玖亿玖仟玖佰玖拾玖万玖仟玖佰玖拾玖元玖角玖分") (10 ^ 18 - 1)
unfolding capital_of
forms_are_short =
    form-of
    (codes "人民币玖仟玖佰玖拾玖万玖仟玖佰玖拾玖亿玖仟玖佰玖拾玖万玖仟玖佰玖拾玖元玖角玖分")
    with_currency (10 ^ 18 - 1) (omega arith) refl

signed-written_amounts_are_amounts : nat_abs (negsuc 1499) < amount_limit
signed-written_amounts_are_amounts = omega arith

signed-amounts_stay_amounts : IsAmount (codes "壹拾伍元整") 1500
signed-amounts_stay_amounts = fifteen

signed-amounts_are_below_the_limit : IsSignedAmount
    (codes "负玖仟玖佰玖拾玖万玖仟玖佰玖拾玖亿玖仟玖佰玖拾玖万玖仟玖佰玖拾玖元玖角玖分") (negsuc (10 ^ 18 - 2))
signed-amounts_are_below_the_limit =
    record { magnitude = 10 ^ 18 - 1; form = greatest; value = refl }

-- 40 characters
signed-forms_are_short : IsSignedAmount
    (codes "负人民币玖仟玖佰玖拾玖万玖仟玖佰玖拾玖亿玖仟玖佰玖拾玖万玖仟玖佰玖拾玖元玖角玖分")
    (negsuc (10 ^ 18 - 2))
signed-forms_are_short =
    record { magnitude = 10 ^ 18 - 1; form = forms_are_short; value = refl }

typed-written_amounts_are_amounts : 1500 < amount_limit
typed-written_amounts_are_amounts = omega arith

bare_fifteen : IsAmount (codes "人民币壹拾伍元整") 1500
unfolding capital_of
bare_fifteen = form-of (codes "人民币壹拾伍元整") with_currency 1500 (omega arith) refl

-- a prefix, given by its parts, and an amount
prefixed : (below : Bool) (circle sign currency prefix amount : List ℕ) (fen : ℕ)
    → has circles circle ≡ true → has (signs below) sign ≡ true
    → has currencies currency ≡ true → has (orders circle sign currency) prefix ≡ true
    → IsAmount (codes "人民币" ++ amount) fen → IsPrefixed (prefix ++ amount) below fen
prefixed below circle sign currency prefix amount fen c s r order form = record {
  circle = circle;
  sign = sign;
  currency = currency;
  prefix = prefix;
  amount = amount;
  is_circle = has-contains circles circle c;
  is_sign = has-contains (signs below) sign s;
  is_currency = has-contains currencies currency r;
  order = has-contains (orders circle sign currency) prefix order;
  parts = refl;
  form = form;
}

typed-amounts_stay_amounts : IsAmount (codes "壹拾伍元整") 1500
typed-amounts_stay_amounts = fifteen

typed-amounts_are_below_the_limit : IsTypedAmount
    (codes "玖仟玖佰玖拾玖万 玖仟玖佰玖拾玖亿 玖仟玖佰玖拾玖万 玖仟玖佰玖拾玖元 玖角 玖分") (10 ^ 18 - 1)
typed-amounts_are_below_the_limit = prefixed false [] [] [] []
    (codes "玖仟玖佰玖拾玖万玖仟玖佰玖拾玖亿玖仟玖佰玖拾玖万玖仟玖佰玖拾玖元玖角玖分") (10 ^ 18 - 1)
    refl refl refl refl forms_are_short

typed_signed-written_amounts_are_amounts : nat_abs (negsuc 1499) < amount_limit
typed_signed-written_amounts_are_amounts = omega arith

typed_signed-amounts_with_each_sign_are_amounts : nat_abs (negsuc 1499) < amount_limit
typed_signed-amounts_with_each_sign_are_amounts = omega arith

typed_signed-typed_amounts_stay_amounts : IsTypedAmount (codes "⊗ 壹拾 伍元 整") 1500
typed_signed-typed_amounts_stay_amounts = prefixed false (codes "⊗") [] [] (codes "⊗")
    (codes "壹拾伍元整") 1500 refl refl refl refl bare_fifteen

typed_signed-signed_amounts_stay_amounts : IsSignedAmount (codes "负壹拾伍元整") (negsuc 1499)
typed_signed-signed_amounts_stay_amounts =
    record { magnitude = 1500; form = fifteen; value = refl }

typed_signed-amounts_are_below_the_limit : IsTypedSignedAmount
    (codes "负玖仟玖佰玖拾玖万玖仟玖佰玖拾玖亿玖仟玖佰玖拾玖万玖仟玖佰玖拾玖元玖角玖分") (negsuc (10 ^ 18 - 2))
typed_signed-amounts_are_below_the_limit = record {
  below = true;
  magnitude = 10 ^ 18 - 1;
  form = prefixed true [] (codes "负") [] (codes "负")
      (codes "玖仟玖佰玖拾玖万玖仟玖佰玖拾玖亿玖仟玖佰玖拾玖万玖仟玖佰玖拾玖元玖角玖分") (10 ^ 18 - 1)
      refl refl refl refl forms_are_short;
  value = refl;
}
