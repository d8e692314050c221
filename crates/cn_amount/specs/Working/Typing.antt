-- Reading an amount as people type it: where the reader is before the amount, and which characters
-- lead on from there.
use Rattle.std.specs.Prelude.{ℕ, ℤ, Bool, true, false, not, List, [], ◌∷◌, ◌++◌, codes, Option, Some, None, if◌then◌else◌}
use Rattle.std.specs.Char.{is_whitespace}
use Rattle.std.specs.Option.{option_map}
use Rattle.cn_grammar.specs.Characters.{first_with}
use Rattle.cn_grammar.specs.Machine as machine
use Rattle.cn_grammar.specs.Sieve.{Sieve, sifted}
use Rattle.cn_core.specs.declared.script.ChineseVariant.TheVariants.{Traditional, Simple}
use Rattle.cn_amount.specs.declared.prefix.Point.{Point}
use Rattle.cn_amount.specs.declared.prefix.Point.TheVariants.{Between, SignBracket, SignFu, SignShu, Ren, Min, Currency, Bracket, Da, Xie, Note, Amount}
use Rattle.cn_amount.specs.declared.prefix.Prefix.{Prefix}
use Rattle.cn_amount.specs.declared.prefix.Width.{Width}
use Rattle.cn_amount.specs.declared.prefix.Width.TheVariants.{Full, Half}
use Rattle.cn_amount.specs.declared.progress.Progress.{Progress}
use Rattle.cn_grammar.specs.declared.sign.Front.{Front}
use Rattle.cn_grammar.specs.declared.sign.Front.TheVariants.{Open, Plain, Minus}
use Rattle.cn_amount.specs.declared.typed.TypedProgress.{TypedProgress}
use Rattle.cn_amount.specs.declared.typed.TypedSignedProgress.{TypedSignedProgress}
use Rattle.cn_amount.specs.declared.typed.Typing.{Typing}
use Rattle.cn_grammar.specs.Sign.{is_below}
use Rattle.cn_amount.specs.Working.Signs.{signed_value}
use Rattle.cn_amount.specs.Working.Steps.{bare_progress, amount_machine}

-- sets of characters, each with the prefix after any one of them
abbrev pub Ways : Type 0
Ways = List (List ℕ × Prefix)

-- these ways if they are open
abbrev pub ways_if : Bool → Ways → Ways
ways_if true ways = ways
ways_if false ways = []

-- nothing is read yet; a sign may come, or none
abbrev pub first : Front → Prefix
first sign = record { circle = true; sign = sign; currency = true; point = Between }

-- the prefix at another point
abbrev pub at : Point → Prefix → Prefix
at point prefix = record prefix { point = point }

-- the prefix after a circle, after a sign, and after 人民币; no circle follows 人民币
abbrev pub with_circle : Prefix → Prefix
with_circle prefix = record prefix { circle = false; point = Between }

abbrev pub with_sign : Prefix → Prefix
with_sign prefix = record prefix { sign = Minus; point = Between }

abbrev pub with_currency : Prefix → Prefix
with_currency prefix = record prefix { circle = false; currency = false; point = Between }

-- a sign may still come
abbrev pub is_open : Front → Bool
is_open Open = true
is_open sign = false

-- the ways of a sign
abbrev pub sign_ways : Prefix → Ways
sign_ways prefix =
    ways_if (is_open prefix.sign)
    ((codes "负負", with_sign prefix) ∷ (codes "（", at (SignBracket Full) prefix)
    ∷ (codes "(", at (SignBracket Half) prefix) ∷ [])

-- the ways of the first character of a part
abbrev pub first_ways : Prefix → Ways
first_ways prefix =
    ways_if prefix.currency ((codes "人", at Ren prefix) ∷ [])
    ++ (ways_if prefix.circle ((codes "⊗ⓧ", with_circle prefix) ∷ []) ++ sign_ways prefix)

-- the way of a colon after 人民币 or its note
abbrev pub colon_ways : Prefix → Ways
colon_ways prefix = (codes ":：", with_currency prefix) ∷ []

-- the ways directly after 人民币: a bracket begins a note or a sign
abbrev pub currency_ways : Prefix → Ways
currency_ways prefix =
    (codes "（", at (Bracket Full) prefix) ∷ (codes "(", at (Bracket Half) prefix)
    ∷ ways_if (is_open prefix.sign) ((codes "负負", with_sign (with_currency prefix)) ∷ [])

-- the ways of 负 after a bracket
abbrev pub fu_ways : Width → Prefix → Ways
fu_ways width prefix =
    (codes "负", at (SignFu width Simple) prefix)
    ∷ (codes "負", at (SignFu width Traditional) prefix) ∷ []

-- the ways at a point
abbrev pub ways_at : Point → Prefix → Ways
ways_at Between prefix = first_ways prefix
ways_at (SignBracket width) prefix = fu_ways width prefix
ways_at (SignFu width Simple) prefix = (codes "数", at (SignShu width) prefix) ∷ []
ways_at (SignFu width Traditional) prefix = (codes "數", at (SignShu width) prefix) ∷ []
ways_at (SignShu Full) prefix = (codes "）", with_sign prefix) ∷ []
ways_at (SignShu Half) prefix = (codes ")", with_sign prefix) ∷ []
ways_at Ren prefix = (codes "民", at Min prefix) ∷ []
ways_at Min prefix = (codes "币幣", at Currency prefix) ∷ []
ways_at Currency prefix = colon_ways prefix ++ currency_ways prefix
ways_at (Bracket width) prefix =
    (codes "大", at (Da width) prefix)
    ∷ ways_if (is_open prefix.sign) (fu_ways width (with_currency prefix))
ways_at (Da width) prefix = (codes "写寫", at (Xie width) prefix) ∷ []
ways_at (Xie Full) prefix = (codes "）", at Note prefix) ∷ []
ways_at (Xie Half) prefix = (codes ")", at Note prefix) ∷ []
ways_at Note prefix = colon_ways prefix ++ sign_ways (with_currency prefix)
ways_at Amount prefix = []

-- the prefix after one more character, if no amount begins with it
abbrev pub next : Prefix → ℕ → Option Prefix
next prefix c = first_with (ways_at prefix.point prefix) c

-- an amount can begin or continue at this point
abbrev pub is_over : Point → Bool
is_over Between = true
is_over Currency = true
is_over Note = true
is_over Amount = true
is_over point = false

-- the prefix, and the state of reading the amount
abbrev pub both : Prefix → Progress → Typing
both prefix progress = record { prefix = prefix; progress = progress }

-- nothing is read yet
abbrev pub begin : Front → Typing
begin sign = both (first sign) bare_progress

-- the state after a character of the amount, if an amount can begin or continue here
abbrev pub amount_step : Typing → ℕ → Option Typing
amount_step typing c =
    if is_over typing.prefix.point
    then option_map (both (at Amount typing.prefix)) (amount_machine.step typing.progress c)
    else None

-- the state after a character that is not white space
abbrev pub step : Typing → ℕ → Option Typing
step typing c = elim (next typing.prefix c) [
  | None ↦ amount_step typing c
  | Some prefix ↦ Some (both prefix typing.progress)
]

-- whether a sign was read, and the magnitude
abbrev pub end : Typing → Option (Bool × ℕ)
end typing =
    option_map (λ fen. (is_below typing.prefix.sign, fen)) (amount_machine.end typing.progress)

-- the sieve that leaves out white space
abbrev pub visible_sieve : Sieve (Unit {0})
visible_sieve = record { keeps = λ nothing c. not (is_whitespace c); next = λ nothing c. tt }

-- the machine that reads amounts as people type them, without a sign
abbrev pub typed : Unit {0} → Typing → TypedProgress
typed nothing typing = record { typing = typing }

abbrev pub typed_machine : machine.Machine TypedProgress ℕ
typed_machine = record {
  begin = typed tt (begin Plain);
  step = λ state c. sifted visible_sieve typed step tt state.typing c;
  end = λ state. amount_machine.end state.typing.progress;
}

-- the machine that reads them with a sign or without one
abbrev pub signed : Unit {0} → Typing → TypedSignedProgress
signed nothing typing = record { typing = typing }

abbrev pub typed_signed_machine : machine.Machine TypedSignedProgress ℤ
typed_signed_machine = record {
  begin = signed tt (begin Open);
  step = λ state c. sifted visible_sieve signed step tt state.typing c;
  end = λ state.
      option_map (signed_value state.typing.prefix.sign)
      (amount_machine.end state.typing.progress);
}
