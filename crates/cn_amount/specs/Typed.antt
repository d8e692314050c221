-- Amounts as people type and copy them: with white space, and before the amount what documents
-- print there: a circle, a sign, and 人民币 with a note and a colon. No regulation has these rules.
use Rattle.std.specs.Prelude.{◌≡◌, ℕ, ℤ, Bool, true, false, List, [], ◌∷◌, ◌++◌, map, filter, codes, chars, Result}
use Rattle.std.specs.Char.{is_not_whitespace}
use Rattle.std.specs.List.{Contains, flat_map}
use Rattle.cn_grammar.specs.Answers.{Answers}
use Rattle.cn_core.specs.Whole.{signed_number}
use Rattle.cn_amount.specs.Reading.{AmountRefusal, IsAmount}

-- the circle that invoices print before an amount, or none
abbrev pub circles : List (List ℕ)
circles = [] ∷ codes "⊗" ∷ codes "ⓧ" ∷ []

-- the sign of an amount below zero
abbrev pub below_signs : List (List ℕ)
below_signs =
    codes "负" ∷ codes "負" ∷ codes "（负数）" ∷ codes "（負數）" ∷ codes "(负数)" ∷ codes "(負數)" ∷ []

-- one of these signs if the amount is below zero, and otherwise none
abbrev pub signs : Bool → List (List ℕ)
signs true = below_signs
signs false = [] ∷ []

-- 人民币
abbrev pub names : List (List ℕ)
names = codes "人民币" ∷ codes "人民幣" ∷ []

-- the note that the amount is in capitals, or none
abbrev pub notes : List (List ℕ)
notes = [] ∷ codes "（大写）" ∷ codes "（大寫）" ∷ codes "(大写)" ∷ codes "(大寫)" ∷ []

-- a colon, or none
abbrev pub colons : List (List ℕ)
colons = [] ∷ codes ":" ∷ codes "：" ∷ []

-- each of the first texts, directly followed by each of the second
abbrev pub joined : List (List ℕ) → List (List ℕ) → List (List ℕ)
joined firsts seconds = flat_map (λ first. map (λ second. first ++ second) seconds) firsts

-- 人民币, a note and a colon; or none of them
abbrev pub currencies : List (List ℕ)
currencies = [] ∷ joined names (joined notes colons)

-- the orders of what is before an amount
abbrev pub orders : List ℕ → List ℕ → List ℕ → List (List ℕ)
orders circle sign currency =
    (circle ++ (sign ++ currency)) ∷ (sign ++ (circle ++ currency))
    ∷ (circle ++ (currency ++ sign)) ∷ []

-- the text is a prefix, which has these parts in one of the orders, and then the amount without
-- 人民币: after 人民币 it is a form
pub record IsPrefixed (text : List ℕ) (below : Bool) (magnitude : ℕ) : Type 0 where
  pub circle : List ℕ
  pub sign : List ℕ
  pub currency : List ℕ
  pub prefix : List ℕ
  pub amount : List ℕ
  pub is_circle : Contains circles circle
  pub is_sign : Contains (signs below) sign
  pub is_currency : Contains currencies currency
  pub order : Contains (orders circle sign currency) prefix
  pub parts : text ≡ prefix ++ amount
  pub form : IsAmount (codes "人民币" ++ amount) magnitude

-- the text without white space
abbrev pub visible : List ℕ → List ℕ
visible text = filter is_not_whitespace text

-- the text is an amount, with no sign before it
abbrev pub IsTypedAmount : List ℕ → ℕ → Type 0
IsTypedAmount text fen = IsPrefixed (visible text) false fen

-- the text is an amount, which is below zero after a sign, or 0 if it is 0 without the sign
pub record IsTypedSignedAmount (text : List ℕ) (fen : ℤ) : Type 0 where
  pub below : Bool
  pub magnitude : ℕ
  pub form : IsPrefixed (visible text) below magnitude
  pub value : fen ≡ signed_number below magnitude

-- `answer` is the answer to a string, given by its bytes; its places are those of the text as it is
-- typed
abbrev pub ReadsTypedAmount : List ℕ → Result ℕ AmountRefusal → Type 0
ReadsTypedAmount bytes answer = Answers IsTypedAmount (chars bytes) answer

-- the same for an amount that may be below zero
abbrev pub ReadsTypedSignedAmount : List ℕ → Result ℤ AmountRefusal → Type 0
ReadsTypedSignedAmount bytes answer = Answers IsTypedSignedAmount (chars bytes) answer
